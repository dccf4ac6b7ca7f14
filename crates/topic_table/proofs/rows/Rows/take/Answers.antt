use Rattle.std.proofs.Common.{◌≡◌, map, sym, ap, subst, ◌∙◌, refl}
use Rattle.std.specs.Prelude.{nat_eq}
use Rattle.std.specs.Map.{set_value}
use Rattle.topic_table.specs.Rows.{IsOnce, IsRising, connected, is_other_in, live, readings_in, with_value}
use Rattle.topic_table.specs.Table.{has_other_value, topics_with_value}
use Rattle.topic_table.proofs.RowLaws.{connected-take, connected_at, none-valued, once-valued, other-value, readings-take, rising-set, row-absent, row-is, topic-at}
use Rattle.topic_table.proofs.rows.Rows.take.Goals as goal

pub returns-in_default-clause-changed : goal.returns-in_default-clause-changed
returns-in_default-clause-changed c =
    let es = c.self.inside.rows.entries in
    ap (λ place. is_other_in place c.args.value) (sym (row-absent es c.args.id (sym c.in_default.ensures.value)))
    ∙ sym (other-value es c.self.inside.greatest c.self.invariant.0 c.args.id c.args.value)
    ∙ ap (λ v. has_other_value v.topics c.args.id c.args.value) c.self.view_is

pub returns-in_default-clause-topics : goal.returns-in_default-clause-topics
returns-in_default-clause-topics c =
    let es = c.self.inside.rows.entries in
    ap (λ m. map connected (live m.entries)) c.get_mut.follows.holds-at-none
    ∙ sym (none-valued (map connected (live es)) c.args.id c.args.value
    (topic-at es c.self.inside.greatest c.self.invariant.0 c.args.id ∙ ap (connected_at c.args.id) (row-absent es c.args.id (sym c.in_default.ensures.value))))
    ∙ ap (λ v. topics_with_value v.topics c.args.id c.args.value) c.self.view_is

-- the entries, where one place got a value
written : (c : goal.After-self-2-1) → (c.get_mut.follows.lender c.take_in.new.place).entries ≡ set_value (nat_eq c.args.id) c.self.inside.rows.entries (with_value c.in-Some.place.now c.args.value)
written c = (c.get_mut.follows.holds c.take_in.new.place).0 ∙ ap (set_value (nat_eq c.args.id) c.self.inside.rows.entries) c.take_in.ensures.row

topics : (c : goal.After-self-2-1) → map connected (live (c.get_mut.follows.lender c.take_in.new.place).entries) ≡ topics_with_value (map connected (live c.self.inside.rows.entries)) c.args.id c.args.value
topics c =
    ap (λ l. map connected (live l)) (written c)
    ∙ connected-take c.self.inside.rows.entries 0 c.self.inside.greatest c.self.invariant.0 c.args.id c.in-Some.place.now c.args.value c.in-Some.ensures.value

pub invariant_of-self-2 : goal.invariant_of-self-2
invariant_of-self-2 c = (
  subst (λ l. IsRising 0 l c.self.inside.greatest) (sym (written c))
      (rising-set c.args.id c.in-Some.place.now (with_value c.in-Some.place.now c.args.value) c.self.inside.rows.entries 0 c.self.inside.greatest c.self.invariant.0),
  subst IsOnce (sym (topics c)) (once-valued (map connected (live c.self.inside.rows.entries)) c.args.id c.args.value c.self.invariant.1),
  refl,
  c.self.invariant.3,
)

pub returns-clause-changed : goal.returns-clause-changed
returns-clause-changed c =
    let es = c.self.inside.rows.entries in
    c.take_in.ensures.changed
    ∙ ap (λ place. is_other_in place c.args.value) (sym (row-is es c.args.id c.in-Some.place.now c.in-Some.ensures.value))
    ∙ sym (other-value es c.self.inside.greatest c.self.invariant.0 c.args.id c.args.value)
    ∙ ap (λ v. has_other_value v.topics c.args.id c.args.value) c.self.view_is

pub returns-clause-topics : goal.returns-clause-topics
returns-clause-topics c = topics c ∙ ap (λ v. topics_with_value v.topics c.args.id c.args.value) c.self.view_is

pub returns-clause-readings : goal.returns-clause-readings
returns-clause-readings c =
    ap (λ l. map readings_in (live l)) (written c)
    ∙ readings-take c.self.inside.rows.entries c.args.id c.in-Some.place.now c.args.value c.in-Some.ensures.value
    ∙ ap (λ v. v.readings) c.self.view_is

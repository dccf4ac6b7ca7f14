use Rattle.std.proofs.Common.{◌≡◌, is_some, Bool, true, false, cond, ◌&&◌, ◌||◌, map, sym, ap, subst, ◌∙◌, refl, true≢false}
use Rattle.std.specs.Prelude.{nat_eq}
use Rattle.std.specs.Map.{set_value}
use Rattle.cell_refs.specs.Cell.{is_among, same_cell}
use Rattle.topic_table.specs.Rows.{IsOnce, IsRising, connected, kept_in, live, row_at, running_in, table_of}
use Rattle.topic_table.specs.Table.{has_read, has_reader, readers_of, running_of, topic_at}
use Rattle.topic_table.proofs.RowLaws.{chosen-or, connected-set, err_gives, ok_gives, read-made, reader-kept, readers-at, rising-set, row-absent, row-is, running-at, some-topic}
use Rattle.topic_table.proofs.rows.Rows.read_by.Goals as goal

pub unreachable-requires : goal.unreachable-requires
unreachable-requires c =
    let none = row-absent c.self.inside.rows.entries c.args.id (sym c.in_default.ensures.value) in
    let some : is_some (row_at c.self.inside.rows.entries c.args.id) ≡ true
    = sym (some-topic c.self.inside.rows.entries c.self.inside.greatest c.self.invariant.0 c.args.id)
    ∙ ap (λ v. is_some (topic_at v.topics c.args.id)) c.self.view_is ∙ c.requires in
    true≢false (sym some ∙ ap is_some none)

pub read_in-requires : goal.read_in-requires
read_in-requires c =
    ap is_some (sym (row-is c.self.inside.rows.entries c.args.id c.in-Some.place.now c.in-Some.ensures.value))
    ∙ sym (some-topic c.self.inside.rows.entries c.self.inside.greatest c.self.invariant.0 c.args.id)
    ∙ ap (λ v. is_some (topic_at v.topics c.args.id)) c.self.view_is ∙ c.requires

-- the entries, where one place was written
written : (c : goal.After-self-2-1) → (c.get_mut.follows.lender c.read_in.new.place).entries ≡ set_value (nat_eq c.args.id) c.self.inside.rows.entries c.read_in.new.place
written c = (c.get_mut.follows.holds c.read_in.new.place).0

topics : (c : goal.After-self-2-1) → map connected (live (c.get_mut.follows.lender c.read_in.new.place).entries) ≡ map connected (live c.self.inside.rows.entries)
topics c =
    ap (λ l. map connected (live l)) (written c)
    ∙ connected-set c.args.id c.in-Some.place.now c.read_in.new.place c.self.inside.rows.entries c.in-Some.ensures.value c.read_in.ensures.bare

pub invariant_of-self : goal.invariant_of-self
invariant_of-self c = (
  subst (λ l. IsRising 0 l c.self.inside.greatest) (sym (written c))
      (rising-set c.args.id c.in-Some.place.now c.read_in.new.place c.self.inside.rows.entries 0 c.self.inside.greatest c.self.invariant.0),
  subst IsOnce (sym (topics c)) c.self.invariant.1,
  refl,
  c.self.invariant.3,
)

pub returns-clause-topics : goal.returns-clause-topics
returns-clause-topics c = record { topics = topics c ∙ ap (λ v. v.topics) c.self.view_is; greatest = ap (λ v. v.greatest) c.self.view_is }

pub returns-clause-readers : goal.returns-clause-readers
returns-clause-readers c q cell =
    ap (λ l. has_reader (table_of l 0 0) q cell) (written c)
    ∙ reader-kept c.self.inside.rows.entries c.self.inside.greatest c.self.invariant.0 c.args.id c.in-Some.place.now c.read_in.new.place c.in-Some.ensures.value 0 0 0 0 cell q (c.read_in.ensures.kept cell)
    ∙ ap (λ v. has_reader v q cell) c.self.view_is

pub returns-clause-running : goal.returns-clause-running
returns-clause-running c =
    let es = c.self.inside.rows.entries in
    ok_gives c.read_in.result
    (λ running q cell.
    ap (λ l. has_read (table_of l 0 0) q cell) (written c)
    ∙ read-made es c.self.inside.greatest c.self.invariant.0 c.args.id c.in-Some.place.now c.read_in.new.place c.in-Some.ensures.value 0 0 0 0 cell q
    (λ b. same_cell cell c.args.cell || b) (running cell)
    ∙ chosen-or (nat_eq c.args.id q) (has_read (table_of es 0 0) q cell) (same_cell cell c.args.cell)
    ∙ ap (λ v. (nat_eq c.args.id q && same_cell cell c.args.cell) || has_read v q cell) c.self.view_is)
    c.read_in.ensures.running

same_chosen : {X : Type 0} (b : Bool) (x : X) → cond b x x ≡ x
same_chosen true x = refl
same_chosen false x = refl

pub returns-clause-refused : goal.returns-clause-refused
returns-clause-refused c =
    let es = c.self.inside.rows.entries in
    err_gives c.read_in.result
    (λ same q cell.
    ap (λ l. has_read (table_of l 0 0) q cell) (written c)
    ∙ read-made es c.self.inside.greatest c.self.invariant.0 c.args.id c.in-Some.place.now c.read_in.new.place c.in-Some.ensures.value 0 0 0 0 cell q
    (λ b. b) (ap (λ place. is_among (running_in place) cell) same)
    ∙ same_chosen (nat_eq c.args.id q) (has_read (table_of es 0 0) q cell)
    ∙ ap (λ v. has_read v q cell) c.self.view_is)
    c.read_in.ensures.refused

pub returns-clause-first : goal.returns-clause-first
returns-clause-first c unread none =
    let es = c.self.inside.rows.entries in
    let is = row-is es c.args.id c.in-Some.place.now c.in-Some.ensures.value in
    c.read_in.ensures.first
    (ap kept_in (sym is) ∙ sym (readers-at es c.self.inside.greatest 0 0 c.self.invariant.0 c.args.id) ∙ ap (λ v. readers_of v c.args.id) c.self.view_is ∙ unread)
    (ap running_in (sym is) ∙ sym (running-at es c.self.inside.greatest 0 0 c.self.invariant.0 c.args.id) ∙ ap (λ v. running_of v c.args.id) c.self.view_is ∙ none)

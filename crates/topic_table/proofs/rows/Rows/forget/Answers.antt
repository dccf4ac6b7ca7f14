use Rattle.std.proofs.Common.{◌≡◌, ◌&&◌, not, map, sym, ap, subst, ◌∙◌, refl}
use Rattle.std.specs.Prelude.{nat_eq}
use Rattle.std.specs.Map.{set_value}
use Rattle.cell_refs.specs.Cell.{same_cell}
use Rattle.topic_table.specs.Rows.{IsOnce, IsRising, connected, live, table_of}
use Rattle.topic_table.specs.Table.{has_read, has_reader}
use Rattle.topic_table.proofs.RowLaws.{chosen-and, connected-set, forget-nothing, read-absent, read-made, reader-kept, rising-set}
use Rattle.topic_table.proofs.rows.Rows.forget.Goals as goal

pub returns-in_default-clause-running : goal.returns-in_default-clause-running
returns-in_default-clause-running c q cell =
    let es = c.self.inside.rows.entries in
    ap (λ m. has_read (table_of m.entries 0 0) q cell) c.get_mut.follows.holds-at-none
    ∙ forget-nothing (has_read (table_of es 0 0) q cell) (nat_eq c.args.id q) (same_cell cell c.args.cell)
    (read-absent es c.self.inside.greatest c.self.invariant.0 c.args.id cell (sym c.in_default.ensures.value) q)
    ∙ ap (λ v. has_read v q cell && not (nat_eq c.args.id q && same_cell cell c.args.cell)) c.self.view_is

-- the entries, where one place was written
written : (c : goal.After-self-2-1) → (c.get_mut.follows.lender c.forget_in.new.place).entries ≡ set_value (nat_eq c.args.id) c.self.inside.rows.entries c.forget_in.new.place
written c = (c.get_mut.follows.holds c.forget_in.new.place).0

topics : (c : goal.After-self-2-1) → map connected (live (c.get_mut.follows.lender c.forget_in.new.place).entries) ≡ map connected (live c.self.inside.rows.entries)
topics c =
    ap (λ l. map connected (live l)) (written c)
    ∙ connected-set c.args.id c.in-Some.place.now c.forget_in.new.place c.self.inside.rows.entries c.in-Some.ensures.value c.forget_in.ensures.bare

pub invariant_of-self-2 : goal.invariant_of-self-2
invariant_of-self-2 c = (
  subst (λ l. IsRising 0 l c.self.inside.greatest) (sym (written c))
      (rising-set c.args.id c.in-Some.place.now c.forget_in.new.place c.self.inside.rows.entries 0 c.self.inside.greatest c.self.invariant.0),
  subst IsOnce (sym (topics c)) c.self.invariant.1,
  refl,
  c.self.invariant.3,
)

pub returns-clause-topics : goal.returns-clause-topics
returns-clause-topics c = record { topics = topics c ∙ ap (λ v. v.topics) c.self.view_is; greatest = ap (λ v. v.greatest) c.self.view_is }

pub returns-clause-readers : goal.returns-clause-readers
returns-clause-readers c q cell =
    ap (λ l. has_reader (table_of l 0 0) q cell) (written c)
    ∙ reader-kept c.self.inside.rows.entries c.self.inside.greatest c.self.invariant.0 c.args.id c.in-Some.place.now c.forget_in.new.place c.in-Some.ensures.value 0 0 0 0 cell q (c.forget_in.ensures.kept cell)
    ∙ ap (λ v. has_reader v q cell) c.self.view_is

pub returns-clause-running : goal.returns-clause-running
returns-clause-running c q cell =
    let es = c.self.inside.rows.entries in
    ap (λ l. has_read (table_of l 0 0) q cell) (written c)
    ∙ read-made es c.self.inside.greatest c.self.invariant.0 c.args.id c.in-Some.place.now c.forget_in.new.place c.in-Some.ensures.value 0 0 0 0 cell q
    (λ b. b && not (same_cell cell c.args.cell)) (c.forget_in.ensures.running cell)
    ∙ chosen-and (nat_eq c.args.id q) (has_read (table_of es 0 0) q cell) (same_cell cell c.args.cell)
    ∙ ap (λ v. has_read v q cell && not (nat_eq c.args.id q && same_cell cell c.args.cell)) c.self.view_is

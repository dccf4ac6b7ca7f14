use Rattle.std.proofs.Common.{◌≡◌, ◌+◌, ◌++◌, ◌∷◌, [], Some, map, sym, ap, subst, ◌∙◌, refl, arith}
use Rattle.std.specs.Prelude.{nat_eq}
use Rattle.std.specs.Map.{lookup}
use Rattle.indexmap.proofs.CallerLemmas.{insert_entry-new}
use Rattle.topic_table.specs.declared.places.Row.{Row}
use Rattle.topic_table.specs.Rows.{IsOnce, connected, live}
use Rattle.topic_table.specs.Table.{has_read, has_reader, id_of}
use Rattle.topic_table.proofs.RowChanges.{connected-pushed, once-push, read-pushed, reader-pushed, rising-pushed}
use Rattle.topic_table.proofs.RowLaws.{rising-beyond}
use Rattle.topic_table.proofs.rows.Rows.connect.Goals as goal

pub invariant_of-self-2 : goal.invariant_of-self-2
invariant_of-self-2 c =
    let es = c.self.inside.rows.entries in
    let g = c.self.inside.greatest in
    let row : Row = record { topic = c.args.topic; value = c.args.value; round = c.args.round; readers = c.in-Some.readers } in
    let absent = ap (lookup (nat_eq (g + 1))) c.reserve.ensures.entries ∙ rising-beyond es 0 g c.self.invariant.0 (g + 1) (omega arith) in
    let is : c.insert.new.self.entries ≡ es ++ (g + 1, Some row) ∷ []
    = c.in-Ok.ensures.entries ∙ insert_entry-new nat_eq c.reserve.new.self (g + 1) (Some row) absent ∙ ap (λ l. l ++ (g + 1, Some row) ∷ []) c.reserve.ensures.entries in
    let new = ap (λ v. id_of v.topics c.args.topic) c.self.view_is ∙ c.requires in (
      rising-pushed es g c.self.invariant.0 row c.in-Some.ensures.empty c.insert.new.self.entries is,
      subst IsOnce (sym (connected-pushed es g c.self.invariant.0 row c.in-Some.ensures.empty c.insert.new.self.entries is)) (once-push (map connected (live es)) (connected (g + 1, row)) c.self.invariant.1 new),
      refl,
      c.ready_readers.ensures.store,
    )

pub returns-clause-topics : goal.returns-clause-topics
returns-clause-topics c =
    let es = c.self.inside.rows.entries in
    let g = c.self.inside.greatest in
    let row : Row = record { topic = c.args.topic; value = c.args.value; round = c.args.round; readers = c.in-Some.readers } in
    let absent = ap (lookup (nat_eq (g + 1))) c.reserve.ensures.entries ∙ rising-beyond es 0 g c.self.invariant.0 (g + 1) (omega arith) in
    let is : c.insert.new.self.entries ≡ es ++ (g + 1, Some row) ∷ []
    = c.in-Ok.ensures.entries ∙ insert_entry-new nat_eq c.reserve.new.self (g + 1) (Some row) absent ∙ ap (λ l. l ++ (g + 1, Some row) ∷ []) c.reserve.ensures.entries in
    connected-pushed es g c.self.invariant.0 row c.in-Some.ensures.empty c.insert.new.self.entries is
    ∙ ap (λ v. v.topics ++ (record { id = v.greatest + 1; topic = c.args.topic; value = c.args.value; round = c.args.round }) ∷ []) c.self.view_is

pub returns-clause-readers : goal.returns-clause-readers
returns-clause-readers c id cell =
    let es = c.self.inside.rows.entries in
    let g = c.self.inside.greatest in
    let row : Row = record { topic = c.args.topic; value = c.args.value; round = c.args.round; readers = c.in-Some.readers } in
    let absent = ap (lookup (nat_eq (g + 1))) c.reserve.ensures.entries ∙ rising-beyond es 0 g c.self.invariant.0 (g + 1) (omega arith) in
    let is : c.insert.new.self.entries ≡ es ++ (g + 1, Some row) ∷ []
    = c.in-Ok.ensures.entries ∙ insert_entry-new nat_eq c.reserve.new.self (g + 1) (Some row) absent ∙ ap (λ l. l ++ (g + 1, Some row) ∷ []) c.reserve.ensures.entries in
    reader-pushed es g c.self.invariant.0 row c.in-Some.ensures.empty c.insert.new.self.entries is id cell
    ∙ ap (λ v. has_reader v id cell) c.self.view_is

pub returns-clause-running : goal.returns-clause-running
returns-clause-running c id cell =
    let es = c.self.inside.rows.entries in
    let g = c.self.inside.greatest in
    let row : Row = record { topic = c.args.topic; value = c.args.value; round = c.args.round; readers = c.in-Some.readers } in
    let absent = ap (lookup (nat_eq (g + 1))) c.reserve.ensures.entries ∙ rising-beyond es 0 g c.self.invariant.0 (g + 1) (omega arith) in
    let is : c.insert.new.self.entries ≡ es ++ (g + 1, Some row) ∷ []
    = c.in-Ok.ensures.entries ∙ insert_entry-new nat_eq c.reserve.new.self (g + 1) (Some row) absent ∙ ap (λ l. l ++ (g + 1, Some row) ∷ []) c.reserve.ensures.entries in
    read-pushed es g c.self.invariant.0 row c.in-Some.ensures.empty c.insert.new.self.entries is id cell
    ∙ ap (λ v. has_read v id cell) c.self.view_is

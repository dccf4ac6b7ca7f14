use Rattle.std.proofs.Common.{List, rules, of_calls, ◌∙◌, sym, subst}
use Rattle.std.proofs.lemmas.Fn.{always_returns_same}
use Rattle.std.specs.List.Sorted.{IsStrictlySortedBy}
use Rattle.std.specs.Map.{keys_of}
use Rattle.std.specs.Ordering.{is_lt}
use Rattle.cell_refs.specs.Cell.{cell_cmp}
use Rattle.cell_refs.specs.declared.grid.Cell.{Cell}
use Rattle.cell_values.specs.declared.values.Value.{Value}
use Rattle.cell_eval.proofs.InputLaws.{rest_of, sorted_drop, entries_parted, from_point}
use Rattle.cell_eval.proofs.area_values.from_cell.Goals as goal

pub returns-in-Some-clause-entries : goal.returns-in-Some-clause-entries
returns-in-Some-clause-entries c =
    let point = c.partition_point-before.ensures.partitioned (λ e. is_lt (cell_cmp e.0 c.args.cell)) (always_returns_same _ _ _ (λ a r f k. search (rules, of_calls)))
    (entries_parted c.args.entries.now c.args.cell c.requires) in
    rest_of c.partition_point-before.result c.args.entries.now
    ∙ from_point c.args.entries.now c.args.cell c.partition_point-before.result c.partition_point-before.ensures.bound point

pub returns-in-Some-clause-ordered : goal.returns-in-Some-clause-ordered
returns-in-Some-clause-ordered c =
    subst (λ (es : List (Cell × Value)). IsStrictlySortedBy cell_cmp (keys_of es)) (sym (rest_of c.partition_point-before.result c.args.entries.now))
    (sorted_drop c.partition_point-before.result c.args.entries.now c.requires)

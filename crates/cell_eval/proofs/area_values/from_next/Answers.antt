use Rattle.std.proofs.Common.{List, sym, subst}
use Rattle.std.specs.List.Sorted.{IsStrictlySortedBy}
use Rattle.std.specs.Map.{keys_of}
use Rattle.cell_refs.specs.Cell.{cell_cmp}
use Rattle.cell_refs.specs.declared.grid.Cell.{Cell}
use Rattle.cell_values.specs.declared.values.Value.{Value}
use Rattle.cell_eval.proofs.InputLaws.{rest_of, sorted_drop}
use Rattle.cell_eval.proofs.area_values.from_next.Goals as goal

pub from_cell-requires : goal.from_cell-requires
from_cell-requires c = subst (λ (es : List (Cell × Value)). IsStrictlySortedBy cell_cmp (keys_of es)) (sym (rest_of 1 c.args.entries.now)) (sorted_drop 1 c.args.entries.now c.requires)

pub returns-in_default-first-clause-ordered : goal.returns-in_default-first-clause-ordered
returns-in_default-first-clause-ordered c = subst (λ (es : List (Cell × Value)). IsStrictlySortedBy cell_cmp (keys_of es)) (sym (rest_of 1 c.args.entries.now)) (sorted_drop 1 c.args.entries.now c.requires)

pub returns-in_default-first-2-clause-ordered : goal.returns-in_default-first-2-clause-ordered
returns-in_default-first-2-clause-ordered c = subst (λ (es : List (Cell × Value)). IsStrictlySortedBy cell_cmp (keys_of es)) (sym (rest_of 1 c.args.entries.now)) (sorted_drop 1 c.args.entries.now c.requires)

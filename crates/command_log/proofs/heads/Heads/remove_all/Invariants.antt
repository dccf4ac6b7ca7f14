use Rattle.std.proofs.Common.{◌≡◌, drop}
use Rattle.std.specs.Prelude.{None, if◌then◌else◌}
use Rattle.std.specs.Map.{lookup}
use Rattle.cell_refs.specs.declared.grid.Cell.{Cell as OneCell}
use Rattle.cell_refs.specs.Cell.{is_among, same_cell}
use Rattle.command_log.proofs.heads.Heads.remove_all.Given as goal

abbrev pub invariant-loop-cell : goal.invariant-loop-cell
invariant-loop-cell l =
    (q : OneCell) → (if is_among (drop l.cell-index l.cells) q then None else lookup (same_cell q) l.self.places)
    ≡ (if is_among l.cells q then None else lookup (same_cell q) l.fn.self.places)

use Rattle.std.proofs.Common.{◌≡◌, ◌+◌, ◌-◌, ◌<◌, length, drop, ap, ◌∙◌, arith}
use Rattle.cell_refs.specs.Cell.{is_among, same_cell}
use Rattle.topic_table.proofs.Zones.{any-drop-swap_remove_first}
use Rattle.topic_table.proofs.readers.drop_front.Goals as goal

pub loop-left-preserved : goal.loop-left-preserved
loop-left-preserved c =
    let xs = c.loop-left.cells in
    let n = c.loop-left.left - 1 in
    let within : n < length xs = omega (arith, c.loop-left.invariant.0, c.loop-left-test.true) in
    let one : n + 1 ≡ c.loop-left.left = omega (arith, c.loop-left-test.true) in (
      omega (arith, c.loop-left.invariant.0, c.swap_remove.ensures.len),
      λ q. ap (λ l. is_among (drop n l) q) c.swap_remove.ensures.cells
          ∙ any-drop-swap_remove_first (same_cell q) n xs c.swap_remove.result within
          ∙ ap (λ k. is_among (drop k xs) q) one ∙ c.loop-left.invariant.1 q,
    )

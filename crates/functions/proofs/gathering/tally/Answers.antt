use Rattle.std.proofs.Common.{arith}
use Rattle.std.proofs.lemmas.Grind.{common_steps}
use Rattle.std.proofs.lemmas.List.Elements.{All-drop, All-take}
use Rattle.functions.specs.Inputs.{IsInput}
use Rattle.functions.proofs.Gathers.{folded-append, folded-append_err}
use Rattle.functions.proofs.gathering.tally.Goals as goal

pub returns-in_err-tally-in-Cells : goal.returns-in_err-tally-in-Cells
returns-in_err-tally-in-Cells g c = grind (arith, common_steps, folded-append_err)

pub loop-left-preserved-in_ok-to_number-in-Direct :
    goal.loop-left-preserved-in_ok-to_number-in-Direct
loop-left-preserved-in_ok-to_number-in-Direct g c = record {
  numbers = grind (arith, common_steps);
  each = All-take IsInput _ _ (All-drop IsInput 1 _ c.loop-left.invariant.each);
  room = grind (arith, common_steps);
}

pub loop-left-preserved : goal.loop-left-preserved
loop-left-preserved g c = record {
  numbers = grind (arith, common_steps, folded-append);
  each = All-take IsInput _ _ (All-drop IsInput 1 _ c.loop-left.invariant.each);
  room = grind (arith, common_steps);
}

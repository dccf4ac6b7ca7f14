use Rattle.std.proofs.Common.{rules, arith, length-set, ◌∙◌}
use Rattle.calc_chain.proofs.ChainLaws.{has-at}
use Rattle.calc_chain.proofs.DueLaws.{raised-next}
use Rattle.calc_chain.proofs.due.raise_each.Goals as goal

pub bounds-flags-x : goal.bounds-flags-x
bounds-flags-x c = let b = c.requires _ (has-at c.args.numbers.now c.loop-x.x-index (search rules)) in let len = c.loop-x.invariant.len in omega (arith, b, len)

pub loop-x-preserved : goal.loop-x-preserved
loop-x-preserved c =
    let b = c.requires _ (has-at c.args.numbers.now c.loop-x.x-index (search rules)) in
    let len = c.loop-x.invariant.len in
    record {
      raised = raised-next c.loop-x.flags c.args.numbers.now c.loop-x.x-index (search rules) (omega (arith, b, len)) c.loop-x.invariant.raised;
      len = length-set _ _ _ ∙ len;
    }

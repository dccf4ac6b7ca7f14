use Rattle.std.proofs.Common.{◌≡◌, ◌+◌, drop}
use Rattle.cell_eval.specs.Steps.{sites_among}
use Rattle.cell_eval.proofs.Weights.{weight, weights}
use Rattle.cell_eval.proofs.sites.+pass.Given as goal

abbrev pub decreases-pass : goal.decreases-pass
decreases-pass l = weight l.node.now

abbrev pub decreases-pass_all : goal.decreases-pass_all
decreases-pass_all l = weights l.nodes.now

-- the sites so far and those still to come are all
abbrev pub invariant-pass_all-loop-node : goal.invariant-pass_all-loop-node
invariant-pass_all-loop-node l = l.sites + sites_among (drop l.node-index l.nodes) ≡ l.fn.sites + sites_among l.nodes

use Rattle.std.proofs.Common.{◌≡◌, ◌+◌, All, drop, length}
use Rattle.functions.specs.Inputs.{IsInput}
use Rattle.workbook.specs.Evaluation.{Val, with_all, operations_of}
use Rattle.cell_eval.specs.Jobs.{world_of}
use Rattle.cell_eval.specs.Steps.{answers_at, arguments_at, chain_at, sites_among}
use Rattle.cell_eval.proofs.Halting.{Ahead}
use Rattle.cell_eval.proofs.Taking.{TakenAhead}
use Rattle.cell_eval.proofs.Weights.{weight, weights}
use Rattle.cell_eval.proofs.evaluation.Evaluator.+part.Given as goal

abbrev pub decreases-part : goal.decreases-part
decreases-part g l = weight l.node.now

abbrev pub decreases-chain : goal.decreases-chain
decreases-chain g l = weights l.operands.now

abbrev pub decreases-all_values : goal.decreases-all_values
decreases-all_values g l = weights l.nodes.now

abbrev pub decreases-call : goal.decreases-call
decreases-call g l = weights l.arguments.now + 2

abbrev pub decreases-built_in : goal.decreases-built_in
decreases-built_in g l = weights l.arguments.now + 1

abbrev pub decreases-inputs : goal.decreases-inputs
decreases-inputs g l = weights l.nodes.now

abbrev pub decreases-input : goal.decreases-input
decreases-input g l = weight l.node.now + 1

abbrev pub decreases-topic : goal.decreases-topic
decreases-topic g l = weights l.arguments.now + 1

abbrev pub decreases-added : goal.decreases-added
decreases-added g l = weights l.arguments.now + 1

abbrev pub decreases-chosen : goal.decreases-chosen
decreases-chosen g l = weights l.arguments.now

abbrev pub decreases-only : goal.decreases-only
decreases-only g l = weights l.nodes.now + 1

-- the values so far stand before those that are still to come
abbrev pub invariant-all_values-loop-node : goal.invariant-all_values-loop-node
invariant-all_values-loop-node g l =
    let world = world_of g.F.AddIns.answer l.self.job.now in
    record {
      ahead : Ahead (answers_at world l.nodes l.fn.sites) l.values.items (answers_at world (drop l.node-index l.nodes) l.sites);
      count : l.sites + sites_among (drop l.node-index l.nodes) ≡ l.fn.sites + sites_among l.nodes;
    }

-- the value so far is combined with those that are still to come
abbrev pub invariant-chain-loop-i : goal.invariant-chain-loop-i
invariant-chain-loop-i g l =
    let world = world_of g.F.AddIns.answer l.self.job.now in
    record {
      ahead : chain_at world l.operands l.operators l.fn.sites ≡ with_all (answers_at world (drop l.i l.others) l.sites) (λ vs. Val (operations_of l.value (drop l.i l.operators) vs));
      count : l.sites + sites_among (drop l.i l.others) ≡ l.fn.sites + sites_among l.operands;
    }

-- the arguments so far stand before those that are still to come
abbrev pub invariant-inputs-loop-place : goal.invariant-inputs-loop-place
invariant-inputs-loop-place g l =
    let world = world_of g.F.AddIns.answer l.self.job.now in
    record {
      ahead : TakenAhead world l.function (arguments_at world l.nodes l.fn.sites) l.args.items l.place (arguments_at world (drop l.place l.nodes) l.sites);
      count : l.sites + sites_among (drop l.place l.nodes) ≡ l.fn.sites + sites_among l.nodes;
      form : All IsInput l.args.items;
      places : length l.args.items ≡ l.place;
    }

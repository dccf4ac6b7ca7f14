use Rattle.std.proofs.Common.{◌≡◌, ◌+◌, ◌<◌, ◌∷◌, List, [], All, OnOk, length, length-append, cond, ◌++◌, map, drop, Ok, Err, true, arith, rules, refl, sym, ap, subst, ◌∙◌}
use Rattle.std.proofs.lemmas.List.{nil_from_length, drop_all}
use Rattle.std.proofs.lemmas.List.Elements.{All-append, All-cons, All-nil}
use Rattle.std.proofs.lemmas.Result.{err_from_is_err_and}
use Rattle.cell_values.specs.declared.values.Value.TheVariants as values
use Rattle.cell_values.specs.Coercion.{text_of}
use Rattle.cell_eval.specs.declared.choices.Choice.TheVariants as choices
use Rattle.cell_eval.specs.Added.{kind_called}
use Rattle.cell_eval.specs.Jobs.{world_of, input_of}
use Rattle.cell_eval.specs.Steps.{NamesSmallAreas, answer_at, answers_at, argument_at, arguments_at, chain_at, call_at, sites_among}
use Rattle.cell_eval.proofs.AnswerLaws.{answer_number, answer_text, answer_error, answer_boolean, answer_reference, answer_area, answer_call, answer_parentheses, answer_negation, answer_chain, answers_none, arguments_none}
use Rattle.cell_eval.proofs.Calling.{built_in_outside, built_in_chosen, built_in_applied, built_in_halts, call_built_in, call_rtd, call_added, own_none, own_rtd, own_added, rtd_outside, rtd_value, rtd_halts, added_wrong, added_value, added_halts}
use Rattle.cell_eval.proofs.Chaining.{answers_drop, arguments_drop, chain_none, chain_begins, chain_stops, chain_goes, chain_breaks, chain_ends}
use Rattle.cell_eval.proofs.Choosing.{chooser_none, chooser_halts, chooser_value, chooser_only, only_past, only_taken}
use Rattle.cell_eval.proofs.Evaluable.{split, part_at, taken_sites, small_call, small_chain, small_parentheses, small_negation}
use Rattle.cell_eval.proofs.InputLaws.{rest_of}
use Rattle.cell_eval.proofs.Halting.{Ahead, Halts-same, Halts-then, Halts-final, ComesTo-same, OnOk-from, ahead_next, ahead_halts, ahead_last, memory_halts}
use Rattle.cell_eval.proofs.SiteLaws.{sites_call, sites_chain, sites_parentheses, sites_negation}
use Rattle.cell_eval.proofs.Taking.{TakenAhead, taken_cells, taken_value, taken_halts, taken_next, taken_stops, taken_last, taken_no_memory}
use Rattle.cell_eval.proofs.Weights.{weight, weights, weight_call, weight_chain, weight_parentheses, weight_negation, weight_at}
use Rattle.formula_parse.specs.declared.nodes.Node.{Node}
use Rattle.formula_parse.specs.Tree.{site_count}
use Rattle.functions.specs.Applied.{result_of}
use Rattle.functions.specs.Inputs.{IsInput, all_ok}
use Rattle.functions.specs.Functions.{arity_of, is_within}
use Rattle.workbook.specs.Evaluation.{Val, with_all, operations_of, own_site, final_answer, repeated_negation, then_with, topic_answer, kind_answer}
use Rattle.workbook.specs.Registry.{registration_of}
use Rattle.cell_eval.proofs.evaluation.Evaluator.+part.Goals as goal

pub chain-returns-in_default-clause-value : goal.chain-returns-in_default-clause-value
chain-returns-in_default-clause-value g t c =
    let world = world_of g.F.AddIns.answer c.args.self.now.job.now in
    let ns = c.args.operands.now in
    let ops = c.args.operators.now in
    chain_none world ns ops c.args.sites.now (nil_from_length ns c.in_default.ensures.cases)

pub chain-part-requires : goal.chain-part-requires
chain-part-requires g t c κs within =
    let world = world_of g.F.AddIns.answer c.args.self.now.job.now in
    let ns = c.args.operands.now in
    let ops = c.args.operators.now in
    let first = split c.args.self.now.job.now.cell.sheet ns c.in-Some.first.now c.in-Some.others.now c.in-Some.ensures.cases.0 c.requires.small in
    (omega arith, (within, (first.small, omega arith)))

pub chain-returns-in_err-value-clause-value : goal.chain-returns-in_err-value-clause-value
chain-returns-in_err-value-clause-value g t c =
    let world = world_of g.F.AddIns.answer c.args.self.now.job.now in
    let ns = c.args.operands.now in
    let ops = c.args.operators.now in
    let p = err_from_is_err_and c.from_residual.result c.from_residual.ensures.1 in
    rw (p.1, p.2) (chain_stops world ns ops c.args.sites.now c.in-Some.first.now c.in-Some.others.now _ c.in-Some.ensures.cases.0 c.in_err-value.ensures.value)

pub chain-loop-i-init : goal.chain-loop-i-init
chain-loop-i-init g t c =
    let world = world_of g.F.AddIns.answer c.args.self.now.job.now in
    let ns = c.args.operands.now in
    let ops = c.args.operators.now in
    let first = split c.args.self.now.job.now.cell.sheet ns c.in-Some.first.now c.in-Some.others.now c.in-Some.ensures.cases.0 c.requires.small in
    record {
      ahead = chain_begins world ns ops c.args.sites.now c.part.new.sites c.in-Some.first.now c.in-Some.others.now c.in_ok-value.value c.in-Some.ensures.cases.0 c.in_ok-value.ensures.value c.in_ok-value.ensures.sites;
      count = omega (arith, c.in_ok-value.ensures.sites);
    }

pub chain-part-requires-in-loop-i : goal.chain-part-requires-in-loop-i
chain-part-requires-in-loop-i g t c κs within =
    let world = world_of g.F.AddIns.answer c.args.self.now.job.now in
    let ns = c.args.operands.now in
    let ops = c.args.operators.now in
    let first = split c.args.self.now.job.now.cell.sheet ns c.in-Some.first.now c.in-Some.others.now c.in-Some.ensures.cases.0 c.requires.small in
    let others = c.in-Some.others.now in
    let i = c.loop-i.i in
    let x = c.index-others-i.result in
    let lt : i < length others = omega arith in
    let here = part_at c.args.self.now.job.now.cell.sheet others i x lt c.index-others-i.is first.others in
    let lighter : weight x + 1 < weights others = subst (λ (n : Node). weight n + 1 < weights others) (sym c.index-others-i.is) (weight_at others i x lt) in
    let count = c.loop-i.invariant.count in
    (omega arith, (within, (here.small, omega arith)))

pub chain-returns-in_err-right-clause-value : goal.chain-returns-in_err-right-clause-value
chain-returns-in_err-right-clause-value g t c =
    let world = world_of g.F.AddIns.answer c.args.self.now.job.now in
    let ns = c.args.operands.now in
    let ops = c.args.operators.now in
    let others = c.in-Some.others.now in
    let i = c.loop-i.i in
    let x = c.index-others-i.result in
    let lt : i < length others = omega arith in
    let p = err_from_is_err_and c.from_residual-in_err-right.result c.from_residual-in_err-right.ensures.1 in
    rw (p.1, p.2) (Halts-same _ _ _ c.loop-i.invariant.ahead (chain_breaks world others ops i x c.loop-i.sites c.loop-i.value _ lt c.index-others-i.is c.in_err-right.ensures.value))

pub chain-loop-i-preserved : goal.chain-loop-i-preserved
chain-loop-i-preserved g t c =
    let world = world_of g.F.AddIns.answer c.args.self.now.job.now in
    let ns = c.args.operands.now in
    let ops = c.args.operators.now in
    let first = split c.args.self.now.job.now.cell.sheet ns c.in-Some.first.now c.in-Some.others.now c.in-Some.ensures.cases.0 c.requires.small in
    let others = c.in-Some.others.now in
    let i = c.loop-i.i in
    let x = c.index-others-i.result in
    let lt : i < length others = omega arith in
    let here = part_at c.args.self.now.job.now.cell.sheet others i x lt c.index-others-i.is first.others in
    let there = c.part-in-loop-i.new.sites in
    let done = c.in_ok-right.ensures.sites in
    let count = c.loop-i.invariant.count in
    record {
      ahead = c.loop-i.invariant.ahead
          ∙ chain_goes world others ops i x c.loop-i.sites there c.loop-i.value c.in_ok-right.right lt c.index-others-i.is c.in_ok-right.ensures.value done
          ∙ ap (λ w. with_all (answers_at world (drop (i + 1) others) there) (λ vs. Val (operations_of w (drop (i + 1) ops) vs))) (sym c.in_ok-value-2.ensures);
      count = omega arith;
    }

pub chain-returns-clause-value : goal.chain-returns-clause-value
chain-returns-clause-value g t c =
    let world = world_of g.F.AddIns.answer c.args.self.now.job.now in
    let ns = c.args.operands.now in
    let ops = c.args.operators.now in
    c.loop-i.invariant.ahead ∙ chain_ends world (drop c.loop-i.i c.in-Some.others.now) (drop c.loop-i.i ops) c.loop-i.sites c.loop-i.value (drop_all c.loop-i.i c.in-Some.others.now (omega arith))

pub all_values-part-requires : goal.all_values-part-requires
all_values-part-requires g t c κs within =
    let world = world_of g.F.AddIns.answer c.args.self.now.job.now in
    let ns = c.args.nodes.now in
    let i = c.loop-node.node-index in
    let x = c.node-item.result in
    let lt : i < length ns = omega arith in
    let here = part_at c.args.self.now.job.now.cell.sheet ns i x lt c.node-item.is c.requires.small in
    let lighter : weight x + 1 < weights ns = subst (λ (n : Node). weight n + 1 < weights ns) (sym c.node-item.is) (weight_at ns i x lt) in
    let count = c.loop-node.invariant.count in
    (omega arith, (within, (here.small, omega arith)))

pub all_values-returns-in_err-value-clause-values : goal.all_values-returns-in_err-value-clause-values
all_values-returns-in_err-value-clause-values g t c =
    let world = world_of g.F.AddIns.answer c.args.self.now.job.now in
    let ns = c.args.nodes.now in
    let i = c.loop-node.node-index in
    let x = c.node-item.result in
    let lt : i < length ns = omega arith in
    let ahead = subst (Ahead (answers_at world ns c.args.sites.now) c.loop-node.values.items) (answers_drop world ns i x c.loop-node.sites lt c.node-item.is) c.loop-node.invariant.ahead in
    let p = err_from_is_err_and c.from_residual.result c.from_residual.ensures.1 in
    rw (p.1, p.2) (ahead_halts _ _ _ _ _ ahead c.in_err-value.ensures.value)

pub all_values-returns-in_err-push-clause-values : goal.all_values-returns-in_err-push-clause-values
all_values-returns-in_err-push-clause-values g t c =
    let world = world_of g.F.AddIns.answer c.args.self.now.job.now in
    let ns = c.args.nodes.now in
    let p = err_from_is_err_and c.from_residual-in_err-push.result c.from_residual-in_err-push.ensures.1 in
    rw (p.1, p.2) (memory_halts (answers_at world ns c.args.sites.now))

pub all_values-loop-node-preserved : goal.all_values-loop-node-preserved
all_values-loop-node-preserved g t c =
    let world = world_of g.F.AddIns.answer c.args.self.now.job.now in
    let ns = c.args.nodes.now in
    let i = c.loop-node.node-index in
    let x = c.node-item.result in
    let lt : i < length ns = omega arith in
    let here = part_at c.args.self.now.job.now.cell.sheet ns i x lt c.node-item.is c.requires.small in
    let ahead = subst (Ahead (answers_at world ns c.args.sites.now) c.loop-node.values.items) (answers_drop world ns i x c.loop-node.sites lt c.node-item.is) c.loop-node.invariant.ahead in
    let next = ahead_next _ _ _ c.in_ok-value.value _ ahead c.in_ok-value.ensures.value in
    let done = c.in_ok-value.ensures.sites in
    let count = c.loop-node.invariant.count in
    let whole = answers_at world ns c.args.sites.now in
    record {
      ahead = subst (λ b. Ahead whole c.push.new.self.items (answers_at world (drop (i + 1) ns) b)) (sym done)
          (subst (λ list. Ahead whole list (answers_at world (drop (i + 1) ns) (c.loop-node.sites + site_count x))) (sym c.in_ok-push.ensures.items) next);
      count = omega arith;
    }

pub all_values-returns-clause-values : goal.all_values-returns-clause-values
all_values-returns-clause-values g t c =
    let world = world_of g.F.AddIns.answer c.args.self.now.job.now in
    let ns = c.args.nodes.now in
    ahead_last _ _ (subst (Ahead (answers_at world ns c.args.sites.now) c.loop-node.values.items) (ap (λ list. answers_at world list c.loop-node.sites) (drop_all c.loop-node.node-index ns (omega arith)) ∙ answers_none world c.loop-node.sites) c.loop-node.invariant.ahead)

pub inputs-input-requires : goal.inputs-input-requires
inputs-input-requires g t c κs within =
    let world = world_of g.F.AddIns.answer c.args.self.now.job.now in
    let ns = c.args.nodes.now in
    let i = c.loop-place.place in
    let x = c.index-nodes-place.result in
    let lt : i < length ns = omega arith in
    let here = part_at c.args.self.now.job.now.cell.sheet ns i x lt c.index-nodes-place.is c.requires.small in
    let lighter : weight x + 1 < weights ns = subst (λ (n : Node). weight n + 1 < weights ns) (sym c.index-nodes-place.is) (weight_at ns i x lt) in
    let count = c.loop-place.invariant.count in
    (omega arith, (within, (here.small, omega arith)))

pub inputs-returns-in_err-arg-clause-args : goal.inputs-returns-in_err-arg-clause-args
inputs-returns-in_err-arg-clause-args g t c =
    let world = world_of g.F.AddIns.answer c.args.self.now.job.now in
    let ns = c.args.nodes.now in
    let i = c.loop-place.place in
    let x = c.index-nodes-place.result in
    let lt : i < length ns = omega arith in
    let ahead = subst (TakenAhead world c.args.function (arguments_at world ns c.args.sites.now) c.loop-place.args.items i) (arguments_drop world ns i x c.loop-place.sites lt c.index-nodes-place.is) c.loop-place.invariant.ahead in
    let p = err_from_is_err_and c.from_residual.result c.from_residual.ensures.1 in
    rw (p.1, p.2) (taken_stops world c.args.function _ _ i _ _ _ ahead c.in_err-arg.ensures.arg)

pub inputs-returns-in_err-push-clause-args : goal.inputs-returns-in_err-push-clause-args
inputs-returns-in_err-push-clause-args g t c =
    let world = world_of g.F.AddIns.answer c.args.self.now.job.now in
    let ns = c.args.nodes.now in
    let p = err_from_is_err_and c.from_residual-in_err-push.result c.from_residual-in_err-push.ensures.1 in
    rw (p.1, p.2) (taken_no_memory world c.args.function (arguments_at world ns c.args.sites.now))

pub inputs-loop-place-preserved : goal.inputs-loop-place-preserved
inputs-loop-place-preserved g t c =
    let world = world_of g.F.AddIns.answer c.args.self.now.job.now in
    let ns = c.args.nodes.now in
    let i = c.loop-place.place in
    let x = c.index-nodes-place.result in
    let lt : i < length ns = omega arith in
    let here = part_at c.args.self.now.job.now.cell.sheet ns i x lt c.index-nodes-place.is c.requires.small in
    let ahead = subst (TakenAhead world c.args.function (arguments_at world ns c.args.sites.now) c.loop-place.args.items i) (arguments_drop world ns i x c.loop-place.sites lt c.index-nodes-place.is) c.loop-place.invariant.ahead in
    let next = taken_next world c.args.function _ _ i _ _ c.in_ok-arg.arg ahead c.in_ok-arg.ensures.arg in
    let done = c.in_ok-arg.ensures.sites in
    let count = c.loop-place.invariant.count in
    let whole = arguments_at world ns c.args.sites.now in
    let f = c.args.function in
    let items = c.in_ok-push.ensures.items in
    let added = c.loop-place.args.items ++ c.in_ok-arg.arg ∷ [] in
    let longer : length added ≡ length c.loop-place.args.items + 1 = length-append c.loop-place.args.items (c.in_ok-arg.arg ∷ []) in
    record {
      ahead = subst (λ b. TakenAhead world f whole c.push.new.self.items (i + 1) (arguments_at world (drop (i + 1) ns) b)) (sym done)
          (subst (λ list. TakenAhead world f whole list (i + 1) (arguments_at world (drop (i + 1) ns) (c.loop-place.sites + site_count x))) (sym items) next);
      count = omega arith;
      form = subst (All IsInput) (sym items) (All-append IsInput c.loop-place.args.items (c.in_ok-arg.arg ∷ []) c.loop-place.invariant.form (All-cons IsInput c.in_ok-arg.arg [] c.in_ok-arg.ensures.form (All-nil IsInput)));
      places = omega (arith, ap length items, c.loop-place.invariant.places);
    }

pub inputs-returns-clause-args : goal.inputs-returns-clause-args
inputs-returns-clause-args g t c =
    let world = world_of g.F.AddIns.answer c.args.self.now.job.now in
    let ns = c.args.nodes.now in
    taken_last world c.args.function _ _ c.loop-place.place (subst (TakenAhead world c.args.function (arguments_at world ns c.args.sites.now) c.loop-place.args.items c.loop-place.place) (ap (λ list. arguments_at world list c.loop-place.sites) (drop_all c.loop-place.place ns (omega arith)) ∙ arguments_none world c.loop-place.sites) c.loop-place.invariant.ahead)

pub input-returns-in_err-value-in-None-clause-arg : goal.input-returns-in_err-value-in-None-clause-arg
unfolding world_of
input-returns-in_err-value-in-None-clause-arg g t c =
    let world = world_of g.F.AddIns.answer c.args.self.now.job.now in
    let argument = argument_at world c.args.node.now c.args.sites.now in
    let p = err_from_is_err_and c.from_residual-in_err-value-in-None.result c.from_residual-in_err-value-in-None.ensures.1 in
    rw (p.1, p.2) (taken_halts world c.args.function c.args.place argument _ (sym (c.area_taken.ensures.area world refl) ∙ c.in-None.is) c.in_err-value-in-None.ensures.value)

pub input-returns-in_ok-area_argument-in-Some-clause-arg : goal.input-returns-in_ok-area_argument-in-Some-clause-arg
unfolding world_of
input-returns-in_ok-area_argument-in-Some-clause-arg g t c =
    let world = world_of g.F.AddIns.answer c.args.self.now.job.now in
    let argument = argument_at world c.args.node.now c.args.sites.now in
    taken_cells world c.args.function c.args.place argument c.in-Some.area c.in_ok-area_argument-in-Some.field-0 (sym (c.area_taken.ensures.area world refl) ∙ c.in-Some.is)
    (c.in_ok-area_argument-in-Some.ensures.argument world (ap input_of (sym c.as_slice.ensures.entries)))

pub input-returns-in_ok-value-in-None-clause-arg : goal.input-returns-in_ok-value-in-None-clause-arg
unfolding world_of
input-returns-in_ok-value-in-None-clause-arg g t c =
    let world = world_of g.F.AddIns.answer c.args.self.now.job.now in
    let argument = argument_at world c.args.node.now c.args.sites.now in
    taken_value world c.args.function c.args.place argument c.in_ok-value-in-None.value (sym (c.area_taken.ensures.area world refl) ∙ c.in-None.is) c.in_ok-value-in-None.ensures.value

pub part-returns-in-Number-clause-value : goal.part-returns-in-Number-clause-value
part-returns-in-Number-clause-value g t c =
    let world = world_of g.F.AddIns.answer c.args.self.now.job.now in
    let at = λ (n : Node). answer_at world n c.args.sites.now in
    ap at c.in-Number.is ∙ answer_number world c.in-Number.n c.args.sites.now ∙ ap (λ m. Val (values.Num m)) (search rules)

pub part-returns-in_ok-copy-in-Text-clause-value : goal.part-returns-in_ok-copy-in-Text-clause-value
part-returns-in_ok-copy-in-Text-clause-value g t c =
    let world = world_of g.F.AddIns.answer c.args.self.now.job.now in
    let at = λ (n : Node). answer_at world n c.args.sites.now in
    ap at c.in-Text.is ∙ answer_text world c.in-Text.text c.args.sites.now ∙ ap (λ s. Val (values.Text s)) (sym c.in_ok-copy-in-Text.ensures)

pub part-returns-in-Error-clause-value : goal.part-returns-in-Error-clause-value
part-returns-in-Error-clause-value g t c =
    let world = world_of g.F.AddIns.answer c.args.self.now.job.now in
    let at = λ (n : Node). answer_at world n c.args.sites.now in
    ap at c.in-Error.is ∙ answer_error world c.in-Error.kind c.args.sites.now

pub part-returns-in-Boolean-clause-value : goal.part-returns-in-Boolean-clause-value
part-returns-in-Boolean-clause-value g t c =
    let world = world_of g.F.AddIns.answer c.args.self.now.job.now in
    let at = λ (n : Node). answer_at world n c.args.sites.now in
    ap at c.in-Boolean.is ∙ answer_boolean world c.in-Boolean.b c.args.sites.now

pub part-returns-in_ok-input_value-in-Reference-clause-value : goal.part-returns-in_ok-input_value-in-Reference-clause-value
unfolding world_of
part-returns-in_ok-input_value-in-Reference-clause-value g t c =
    let world = world_of g.F.AddIns.answer c.args.self.now.job.now in
    let at = λ (n : Node). answer_at world n c.args.sites.now in
    ap at c.in-Reference.is ∙ answer_reference world c.in-Reference.reference c.args.sites.now
    ∙ ap (λ cell. Val (input_of c.args.self.now.job.now.inputs cell)) (sym c.at-cell.ensures.exact)
    ∙ ap (λ entries. Val (input_of entries c.at-cell.result)) (sym c.as_slice.ensures.entries)
    ∙ ap Val (sym c.in_ok-input_value-in-Reference.ensures)

pub part-returns-in-Area-clause-value : goal.part-returns-in-Area-clause-value
part-returns-in-Area-clause-value g t c =
    let world = world_of g.F.AddIns.answer c.args.self.now.job.now in
    let at = λ (n : Node). answer_at world n c.args.sites.now in
    ap at c.in-Area.is ∙ answer_area world c.in-Area.field-0 c.in-Area.field-1 c.args.sites.now

pub part-call-requires : goal.part-call-requires
part-call-requires g t c κs within =
    let home = c.args.self.now.job.now.cell.sheet in
    let node = c.args.node.now in
    let same : c.as_slice-in-Call.result.now ≡ c.in-Call.arguments = c.as_slice-in-Call.ensures ∙ c.get.ensures in
    let lighter = weight_call node c.in-Call.callee c.in-Call.arguments c.in-Call.is in
    let alike = ap weights same in
    let fewer = ap site_count c.in-Call.is ∙ sites_call c.in-Call.callee c.in-Call.arguments in
    let count = ap sites_among same in
    (omega arith, (within, (subst (All (NamesSmallAreas home)) (sym same) (small_call home node c.in-Call.callee c.in-Call.arguments c.in-Call.is c.requires.small), omega arith)))

pub part-returns-in_err-value-in-Call-clause-value : goal.part-returns-in_err-value-in-Call-clause-value
part-returns-in_err-value-in-Call-clause-value g t c =
    let world = world_of g.F.AddIns.answer c.args.self.now.job.now in
    let at = λ (n : Node). answer_at world n c.args.sites.now in
    let p = err_from_is_err_and c.from_residual-in_err-value-in-Call.result c.from_residual-in_err-value-in-Call.ensures.1 in
    rw (p.1, p.2) (Halts-same _ _ _ (ap at c.in-Call.is ∙ answer_call world c.in-Call.callee c.in-Call.arguments c.args.sites.now ∙ ap (λ ns. final_answer (call_at world c.in-Call.callee ns c.args.sites.now)) (sym (c.as_slice-in-Call.ensures ∙ c.get.ensures))) (Halts-final _ _ c.in_err-value-in-Call.ensures.value))

pub part-returns-in_ok-value-in-Call-clause-value : goal.part-returns-in_ok-value-in-Call-clause-value
part-returns-in_ok-value-in-Call-clause-value g t c =
    let world = world_of g.F.AddIns.answer c.args.self.now.job.now in
    let at = λ (n : Node). answer_at world n c.args.sites.now in
    (ap at c.in-Call.is ∙ answer_call world c.in-Call.callee c.in-Call.arguments c.args.sites.now ∙ ap (λ ns. final_answer (call_at world c.in-Call.callee ns c.args.sites.now)) (sym (c.as_slice-in-Call.ensures ∙ c.get.ensures))) ∙ ap final_answer c.in_ok-value-in-Call.ensures.value ∙ ap Val (sym c.or_zero.ensures)

pub part-returns-in_ok-value-in-Call-clause-sites : goal.part-returns-in_ok-value-in-Call-clause-sites
part-returns-in_ok-value-in-Call-clause-sites g t c =
    let fewer = ap site_count c.in-Call.is ∙ sites_call c.in-Call.callee c.in-Call.arguments in
    let count = ap sites_among (c.as_slice-in-Call.ensures ∙ c.get.ensures) in
    let done = c.in_ok-value-in-Call.ensures.sites in
    omega arith

pub part-part-requires : goal.part-part-requires
part-part-requires g t c κs within =
    let home = c.args.self.now.job.now.cell.sheet in
    let node = c.args.node.now in
    let same : c.get-in-Parentheses.result.now ≡ c.in-Parentheses.inner = c.get-in-Parentheses.ensures in
    let lighter = weight_parentheses node c.in-Parentheses.inner c.in-Parentheses.is in
    let alike = ap weight same in
    let fewer = ap site_count c.in-Parentheses.is ∙ sites_parentheses c.in-Parentheses.inner in
    let count = ap site_count same in
    (omega arith, (within, (subst (NamesSmallAreas home) (sym same) (small_parentheses home node c.in-Parentheses.inner c.in-Parentheses.is c.requires.small), omega arith)))

pub part-part-requires-in-Negation : goal.part-part-requires-in-Negation
part-part-requires-in-Negation g t c κs within =
    let home = c.args.self.now.job.now.cell.sheet in
    let node = c.args.node.now in
    let same : c.get-in-Negation.result.now ≡ c.in-Negation.operand = c.get-in-Negation.ensures in
    let lighter = weight_negation node c.in-Negation.count c.in-Negation.operand c.in-Negation.is in
    let alike = ap weight same in
    let fewer = ap site_count c.in-Negation.is ∙ sites_negation c.in-Negation.count c.in-Negation.operand in
    let count = ap site_count same in
    (omega arith, (within, (subst (NamesSmallAreas home) (sym same) (small_negation home node c.in-Negation.count c.in-Negation.operand c.in-Negation.is c.requires.small), omega arith)))

pub part-returns-in_err-value-in-Negation-clause-value : goal.part-returns-in_err-value-in-Negation-clause-value
part-returns-in_err-value-in-Negation-clause-value g t c =
    let world = world_of g.F.AddIns.answer c.args.self.now.job.now in
    let at = λ (n : Node). answer_at world n c.args.sites.now in
    let p = err_from_is_err_and c.from_residual-in_err-value-in-Negation.result c.from_residual-in_err-value-in-Negation.ensures.1 in
    rw (p.1, p.2) (Halts-same _ _ _ (ap at c.in-Negation.is ∙ answer_negation world c.in-Negation.count c.in-Negation.operand c.args.sites.now ∙ ap (λ n. then_with (answer_at world n c.args.sites.now) (λ v. Val (repeated_negation c.in-Negation.count v))) (sym c.get-in-Negation.ensures)) (Halts-then _ _ (λ v. Val (repeated_negation c.in-Negation.count v)) c.in_err-value-in-Negation.ensures.value))

pub part-returns-in_ok-value-in-Negation-clause-value : goal.part-returns-in_ok-value-in-Negation-clause-value
part-returns-in_ok-value-in-Negation-clause-value g t c =
    let world = world_of g.F.AddIns.answer c.args.self.now.job.now in
    let at = λ (n : Node). answer_at world n c.args.sites.now in
    (ap at c.in-Negation.is ∙ answer_negation world c.in-Negation.count c.in-Negation.operand c.args.sites.now ∙ ap (λ n. then_with (answer_at world n c.args.sites.now) (λ v. Val (repeated_negation c.in-Negation.count v))) (sym c.get-in-Negation.ensures)) ∙ ap (λ a. then_with a (λ v. Val (repeated_negation c.in-Negation.count v))) c.in_ok-value-in-Negation.ensures.value ∙ ap Val (sym c.negated.ensures)

pub part-returns-in-Parentheses-clause-value : goal.part-returns-in-Parentheses-clause-value
part-returns-in-Parentheses-clause-value g t c =
    let world = world_of g.F.AddIns.answer c.args.self.now.job.now in
    let at = λ (n : Node). answer_at world n c.args.sites.now in
    ComesTo-same _ _ c.part.result (ap at c.in-Parentheses.is ∙ answer_parentheses world c.in-Parentheses.inner c.args.sites.now ∙ ap at (sym c.get-in-Parentheses.ensures)) c.part.ensures.value

pub part-chain-requires : goal.part-chain-requires
part-chain-requires g t c κs within =
    let home = c.args.self.now.job.now.cell.sheet in
    let node = c.args.node.now in
    let same : c.as_slice-in-Chain.result.now ≡ c.in-Chain.operands = c.as_slice-in-Chain.ensures ∙ c.get-in-Chain.ensures in
    let lighter = weight_chain node c.in-Chain.operands c.in-Chain.operators c.in-Chain.is in
    let alike = ap weights same in
    let fewer = ap site_count c.in-Chain.is ∙ sites_chain c.in-Chain.operands c.in-Chain.operators in
    let count = ap sites_among same in
    (omega arith, (within, (subst (All (NamesSmallAreas home)) (sym same) (small_chain home node c.in-Chain.operands c.in-Chain.operators c.in-Chain.is c.requires.small), omega arith)))

pub part-returns-in-Chain-clause-value : goal.part-returns-in-Chain-clause-value
part-returns-in-Chain-clause-value g t c =
    let world = world_of g.F.AddIns.answer c.args.self.now.job.now in
    let at = λ (n : Node). answer_at world n c.args.sites.now in
    ComesTo-same _ _ c.chain.result (ap at c.in-Chain.is ∙ answer_chain world c.in-Chain.operands c.in-Chain.operators c.args.sites.now ∙ ap (λ ns. chain_at world ns c.in-Chain.operators c.args.sites.now) (sym (c.as_slice-in-Chain.ensures ∙ c.get-in-Chain.ensures)) ∙ ap (λ ops. chain_at world c.as_slice-in-Chain.result.now ops c.args.sites.now) (sym (c.as_slice-in-Chain-2.ensures ∙ c.get-in-Chain-2.ensures))) c.chain.ensures.value

pub part-returns-in-Chain-clause-sites : goal.part-returns-in-Chain-clause-sites
part-returns-in-Chain-clause-sites g t c =
    let whole = ap site_count c.in-Chain.is ∙ sites_chain c.in-Chain.operands c.in-Chain.operators ∙ ap sites_among (sym (c.as_slice-in-Chain.ensures ∙ c.get-in-Chain.ensures)) in
    subst (λ k. OnOk c.chain.result (c.chain.new.sites ≡ c.args.sites.now + k)) (sym whole) c.chain.ensures.sites

pub chosen-returns-in_default-clause-value : goal.chosen-returns-in_default-clause-value
chosen-returns-in_default-clause-value g t c =
    let world = world_of g.F.AddIns.answer c.args.self.now.job.now in
    let ns = c.args.arguments.now in
    chooser_none world c.args.chooser ns c.args.sites.now (nil_from_length ns c.in_default.ensures.cases)

pub chosen-part-requires : goal.chosen-part-requires
chosen-part-requires g t c κs within =
    let ns = c.args.arguments.now in
    let first = split c.args.self.now.job.now.cell.sheet ns c.in-Some.first.now c.in-Some.others.now c.in-Some.ensures.cases.0 c.requires.small in
    (omega arith, (within, (first.small, omega arith)))

pub chosen-returns-in_err-first-clause-value : goal.chosen-returns-in_err-first-clause-value
chosen-returns-in_err-first-clause-value g t c =
    let world = world_of g.F.AddIns.answer c.args.self.now.job.now in
    let ns = c.args.arguments.now in
    let p = err_from_is_err_and c.from_residual.result c.from_residual.ensures.1 in
    rw (p.1, p.2) (chooser_halts world c.args.chooser ns c.in-Some.first.now c.in-Some.others.now c.args.sites.now _ c.in-Some.ensures.cases.0 c.in_err-first.ensures.value)

pub chosen-only-requires : goal.chosen-only-requires
chosen-only-requires g t c κs within =
    let ns = c.args.arguments.now in
    let first = split c.args.self.now.job.now.cell.sheet ns c.in-Some.first.now c.in-Some.others.now c.in-Some.ensures.cases.0 c.requires.small in
    let count = c.in_ok-first.ensures.sites in
    (omega arith, (within, (first.others, omega arith)))

pub chosen-returns-in-Value-clause-value : goal.chosen-returns-in-Value-clause-value
chosen-returns-in-Value-clause-value g t c =
    let world = world_of g.F.AddIns.answer c.args.self.now.job.now in
    chooser_value world c.args.chooser c.args.arguments.now c.in-Some.first.now c.in-Some.others.now c.args.sites.now c.part.new.sites c.in_ok-first.first (choices.Value c.in-Value.value) c.in-Value.value
    c.in-Some.ensures.cases.0 c.in_ok-first.ensures.value c.in_ok-first.ensures.sites c.in-Value.ensures refl

pub chosen-returns-in-Argument-clause-value : goal.chosen-returns-in-Argument-clause-value
chosen-returns-in-Argument-clause-value g t c =
    let world = world_of g.F.AddIns.answer c.args.self.now.job.now in
    ComesTo-same _ _ c.only.result
    (chooser_only world c.args.chooser c.args.arguments.now c.in-Some.first.now c.in-Some.others.now c.args.sites.now c.part.new.sites c.in_ok-first.first (choices.Argument c.in-Argument.place) c.in-Argument.place
    c.in-Some.ensures.cases.0 c.in_ok-first.ensures.value c.in_ok-first.ensures.sites c.in-Argument.ensures refl)
    c.only.ensures.value

pub only-returns-then-place-nodes-clause-value : goal.only-returns-then-place-nodes-clause-value
only-returns-then-place-nodes-clause-value g t c =
    let world = world_of g.F.AddIns.answer c.args.self.now.job.now in
    only_past world c.args.nodes.now c.args.place c.args.sites.now (omega arith)

pub only-pass_all-requires-2 : goal.only-pass_all-requires-2
only-pass_all-requires-2 g t c =
    let parts = taken_sites c.args.nodes.now c.args.place in
    omega arith

pub only-part-requires : goal.only-part-requires
only-part-requires g t c κs within =
    let ns = c.args.nodes.now in
    let i = c.args.place in
    let x = c.index-nodes-place.result in
    let lt : i < length ns = omega arith in
    let here = part_at c.args.self.now.job.now.cell.sheet ns i x lt c.index-nodes-place.is c.requires.small in
    let lighter : weight x + 1 < weights ns = subst (λ (n : Node). weight n + 1 < weights ns) (sym c.index-nodes-place.is) (weight_at ns i x lt) in
    (omega arith, (within, (here.small, omega arith)))

pub only-returns-in_err-value-clause-value : goal.only-returns-in_err-value-clause-value
only-returns-in_err-value-clause-value g t c =
    let world = world_of g.F.AddIns.answer c.args.self.now.job.now in
    let p = err_from_is_err_and c.from_residual.result c.from_residual.ensures.1 in
    rw (p.1, p.2) (Halts-same _ _ _ (only_taken world c.args.nodes.now c.args.place c.args.sites.now c.pass_all-2.new.sites c.index-nodes-place.result (omega arith) c.index-nodes-place.is c.pass_all-2.ensures) c.in_err-value.ensures.value)

pub only-pass_all-requires-3 : goal.only-pass_all-requires-3
only-pass_all-requires-3 g t c =
    let ns = c.args.nodes.now in
    let i = c.args.place in
    let x = c.index-nodes-place.result in
    let lt : i < length ns = omega arith in
    let here = part_at c.args.self.now.job.now.cell.sheet ns i x lt c.index-nodes-place.is c.requires.small in
    let more = c.in_ok-value.ensures.sites in
    let rest = ap sites_among (rest_of (i + 1) ns) in
    omega arith

pub only-returns-clause-value : goal.only-returns-clause-value
only-returns-clause-value g t c =
    let world = world_of g.F.AddIns.answer c.args.self.now.job.now in
    only_taken world c.args.nodes.now c.args.place c.args.sites.now c.pass_all-2.new.sites c.index-nodes-place.result (omega arith) c.index-nodes-place.is c.pass_all-2.ensures ∙ c.in_ok-value.ensures.value

pub only-returns-clause-sites : goal.only-returns-clause-sites
only-returns-clause-sites g t c =
    let ns = c.args.nodes.now in
    let i = c.args.place in
    let x = c.index-nodes-place.result in
    let lt : i < length ns = omega arith in
    let here = part_at c.args.self.now.job.now.cell.sheet ns i x lt c.index-nodes-place.is c.requires.small in
    let more = c.in_ok-value.ensures.sites in
    let rest = ap sites_among (rest_of (i + 1) ns) in
    let last = c.pass_all-3.ensures in
    omega arith

pub topic-returns-then-not-takes_rtd_count-clause-value : goal.topic-returns-then-not-takes_rtd_count-clause-value
topic-returns-then-not-takes_rtd_count-clause-value g t c =
    let world = world_of g.F.AddIns.answer c.args.self.now.job.now in
    rtd_outside world c.args.arguments.now c.args.sites.now (sym c.takes_rtd_count.ensures ∙ c.if-not-takes_rtd_count.true)

pub topic-returns-in_err-values-clause-value : goal.topic-returns-in_err-values-clause-value
topic-returns-in_err-values-clause-value g t c =
    let world = world_of g.F.AddIns.answer c.args.self.now.job.now in
    let p = err_from_is_err_and c.from_residual.result c.from_residual.ensures.1 in
    rw (p.1, p.2) (rtd_halts world c.args.arguments.now c.args.sites.now _ (sym c.takes_rtd_count.ensures ∙ c.if-not-takes_rtd_count.false) c.in_err-values.ensures.values)

pub topic-returns-clause-value : goal.topic-returns-clause-value
topic-returns-clause-value g t c =
    let world = world_of g.F.AddIns.answer c.args.self.now.job.now in
    ComesTo-same _ _ c.topic_answer.result
    (rtd_value world c.args.arguments.now c.args.sites.now c.in_ok-values.values.items (sym c.takes_rtd_count.ensures ∙ c.if-not-takes_rtd_count.false) c.in_ok-values.ensures.values
    ∙ ap (λ vs. topic_answer world (all_ok (map text_of vs))) (sym c.as_slice.ensures.value))
    (c.topic_answer.ensures g.F.AddIns.answer)

pub added-returns-in_err-all_values-in-Ok-clause-value : goal.added-returns-in_err-all_values-in-Ok-clause-value
unfolding world_of
added-returns-in_err-all_values-in-Ok-clause-value g t c =
    let world = world_of g.F.AddIns.answer c.args.self.now.job.now in
    let called = c.in-Ok.ensures ∙ ap (λ list. kind_called (registration_of list c.args.name.now) (length c.args.arguments.now)) c.as_slice.ensures in
    let p = err_from_is_err_and c.from_residual.result c.from_residual.ensures.1 in
    rw (p.1, p.2) (added_halts world c.args.name.now c.args.arguments.now c.args.sites.now (c.args.sites.now + 1) (Ok c.in-Ok.kind) c.in-Ok.kind _ refl called refl c.in_err-all_values-in-Ok.ensures.values)

pub added-returns-in-Err-clause-value : goal.added-returns-in-Err-clause-value
unfolding world_of
added-returns-in-Err-clause-value g t c =
    let world = world_of g.F.AddIns.answer c.args.self.now.job.now in
    let called = c.in-Err.ensures ∙ ap (λ list. kind_called (registration_of list c.args.name.now) (length c.args.arguments.now)) c.as_slice.ensures in
    added_wrong world c.args.name.now c.args.arguments.now c.args.sites.now (c.args.sites.now + 1) (Err c.in-Err.kind) c.in-Err.kind refl called refl

pub added-returns-in_ok-all_values-in-Ok-clause-value : goal.added-returns-in_ok-all_values-in-Ok-clause-value
unfolding world_of
added-returns-in_ok-all_values-in-Ok-clause-value g t c =
    let world = world_of g.F.AddIns.answer c.args.self.now.job.now in
    let called = c.in-Ok.ensures ∙ ap (λ list. kind_called (registration_of list c.args.name.now) (length c.args.arguments.now)) c.as_slice.ensures in
    ComesTo-same _ _ c.added_answer.result
    (added_value world c.args.name.now c.args.arguments.now c.args.sites.now (c.args.sites.now + 1) (Ok c.in-Ok.kind) c.in-Ok.kind c.in_ok-all_values-in-Ok.field-0.items refl called refl c.in_ok-all_values-in-Ok.ensures.values
    ∙ ap (λ vs. kind_answer world c.in-Ok.kind (c.args.sites.now + 1) c.args.name.now vs) (sym c.all_finished-values.ensures))
    c.added_answer.ensures

pub call-returns-in-BuiltIn-clause-value : goal.call-returns-in-BuiltIn-clause-value
call-returns-in-BuiltIn-clause-value g t c =
    let world = world_of g.F.AddIns.answer c.args.self.now.job.now in
    ComesTo-same _ _ c.built_in.result (call_built_in world c.args.callee.now c.in-BuiltIn.function c.args.arguments.now c.args.sites.now c.in-BuiltIn.is) c.built_in.ensures.value

pub call-returns-in-Rtd-clause-value : goal.call-returns-in-Rtd-clause-value
call-returns-in-Rtd-clause-value g t c =
    let world = world_of g.F.AddIns.answer c.args.self.now.job.now in
    ComesTo-same _ _ c.topic.result (call_rtd world c.args.callee.now c.args.arguments.now c.args.sites.now c.in-Rtd.is) c.topic.ensures.value

pub call-returns-in-Added-clause-value : goal.call-returns-in-Added-clause-value
call-returns-in-Added-clause-value g t c =
    let world = world_of g.F.AddIns.answer c.args.self.now.job.now in
    ComesTo-same _ _ c.added.result (call_added world c.args.callee.now c.in-Added.name c.args.arguments.now c.args.sites.now c.in-Added.is) c.added.ensures.value

pub built_in-returns-then-not-takes_count-clause-value : goal.built_in-returns-then-not-takes_count-clause-value
built_in-returns-then-not-takes_count-clause-value g t c =
    let world = world_of g.F.AddIns.answer c.args.self.now.job.now in
    built_in_outside world c.args.function c.args.arguments.now c.args.sites.now (sym c.takes_count.ensures ∙ c.if-not-takes_count.true)

pub built_in-returns-in-Some-clause-value : goal.built_in-returns-in-Some-clause-value
built_in-returns-in-Some-clause-value g t c =
    let world = world_of g.F.AddIns.answer c.args.self.now.job.now in
    ComesTo-same _ _ c.chosen.result (built_in_chosen world c.args.function c.in-Some.chooser c.args.arguments.now c.args.sites.now (sym c.takes_count.ensures ∙ c.if-not-takes_count.false) (sym c.in-Some.ensures)) c.chosen.ensures.value

pub built_in-returns-in_err-args-in-None-clause-value : goal.built_in-returns-in_err-args-in-None-clause-value
built_in-returns-in_err-args-in-None-clause-value g t c =
    let world = world_of g.F.AddIns.answer c.args.self.now.job.now in
    let p = err_from_is_err_and c.from_residual.result c.from_residual.ensures.1 in
    rw (p.1, p.2) (built_in_halts world c.args.function c.args.arguments.now c.args.sites.now _ (sym c.takes_count.ensures ∙ c.if-not-takes_count.false) (sym c.in-None.ensures) c.in_err-args-in-None.ensures.args)

pub built_in-returns-in_ok-apply-in-None-clause-value : goal.built_in-returns-in_ok-apply-in-None-clause-value
built_in-returns-in_ok-apply-in-None-clause-value g t c =
    let world = world_of g.F.AddIns.answer c.args.self.now.job.now in
    built_in_applied world c.args.function c.args.arguments.now c.args.sites.now c.in_ok-args-in-None.args.items (sym c.takes_count.ensures ∙ c.if-not-takes_count.false) (sym c.in-None.ensures) c.in_ok-args-in-None.ensures.args
    ∙ ap (λ args. Val (result_of c.args.function args)) (sym c.as_slice.ensures.value)
    ∙ ap Val (sym c.in_ok-apply-in-None.ensures)

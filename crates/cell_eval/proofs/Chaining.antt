-- What a chain comes to, operand by operand.
use Rattle.std.proofs.Common.{◌≡◌, ℕ, zero, suc, ◌+◌, ◌<◌, List, [], ◌∷◌, length, drop, get_or, refl, sym, ap, ◌∙◌, add-one}
use Rattle.std.proofs.lemmas.List.{drop_more}
use Rattle.cell_values.specs.declared.values.Value.{Value}
use Rattle.cell_values.specs.declared.values.Value.TheVariants as values
use Rattle.cell_eval.specs.declared.halts.Halt.{Halt}
use Rattle.cell_eval.specs.Steps.{Halts, answer_at, answers_at, argument_at, arguments_at, chain_at, combination_of}
use Rattle.cell_eval.proofs.AnswerLaws.{answers_none, answers_first, arguments_first}
use Rattle.cell_eval.proofs.Halting.{Halts-same, Halts-then, with_all-same}
use Rattle.formula_parse.specs.declared.nodes.Node.{Node}
use Rattle.formula_parse.specs.declared.operators.Operator.{Operator}
use Rattle.formula_parse.specs.Tree.{site_count}
use Rattle.workbook.specs.Evaluation.{World, Val, with_all, operations_of, chain_value}

-- the answers of the parts from a place on
pub answers_drop : (world : World) (ns : List Node) (i : ℕ) (x : Node) (before : ℕ) → i < length ns → x ≡ get_or ns i x
    → answers_at world (drop i ns) before ≡ answer_at world x before ∷ answers_at world (drop (i + 1) ns) (before + site_count x)
answers_drop world ns i x before lt is =
    ap (λ n. answers_at world n before) (drop_more ns i x lt)
    ∙ ap (λ (y : Node). answers_at world (y ∷ drop (i + 1) ns) before) (sym is)
    ∙ answers_first world x (drop (i + 1) ns) before

-- the arguments from a place on
pub arguments_drop : (world : World) (ns : List Node) (i : ℕ) (x : Node) (before : ℕ) → i < length ns → x ≡ get_or ns i x
    → arguments_at world (drop i ns) before ≡ argument_at world x before ∷ arguments_at world (drop (i + 1) ns) (before + site_count x)
arguments_drop world ns i x before lt is =
    ap (λ n. arguments_at world n before) (drop_more ns i x lt)
    ∙ ap (λ (y : Node). arguments_at world (y ∷ drop (i + 1) ns) before) (sym is)
    ∙ arguments_first world x (drop (i + 1) ns) before

-- a chain of nothing
pub chain_none : (world : World) (operands : List Node) (ops : List Operator) (before : ℕ) → operands ≡ [] → chain_at world operands ops before ≡ Val values.Blank
unfolding chain_at
chain_none world operands ops before is =
    ap (λ ns. with_all (answers_at world ns before) (λ vs. Val (chain_value ops vs))) is
    ∙ ap (λ answers. with_all answers (λ vs. Val (chain_value ops vs))) (answers_none world before)

-- the first operand
chain_split : (world : World) (operands : List Node) (ops : List Operator) (before : ℕ) (n : Node) (rest : List Node) → operands ≡ n ∷ rest
    → chain_at world operands ops before ≡ with_all (answer_at world n before ∷ answers_at world rest (before + site_count n)) (λ vs. Val (chain_value ops vs))
unfolding chain_at
chain_split world operands ops before n rest is =
    ap (λ ns. with_all (answers_at world ns before) (λ vs. Val (chain_value ops vs))) is
    ∙ ap (λ answers. with_all answers (λ vs. Val (chain_value ops vs))) (answers_first world n rest before)

pub chain_begins : (world : World) (operands : List Node) (ops : List Operator) (before there : ℕ) (n : Node) (rest : List Node) (v : Value) → operands ≡ n ∷ rest → answer_at world n before ≡ Val v → there ≡ before + site_count n
    → chain_at world operands ops before ≡ with_all (answers_at world rest there) (λ vs. Val (operations_of v ops vs))
chain_begins world operands ops before there n rest v is value at =
    chain_split world operands ops before n rest is
    ∙ ap (λ a. with_all (a ∷ answers_at world rest (before + site_count n)) (λ vs. Val (chain_value ops vs))) value
    ∙ ap (λ b. with_all (answers_at world rest b) (λ vs. Val (operations_of v ops vs))) (sym at)

pub chain_stops : (world : World) (operands : List Node) (ops : List Operator) (before : ℕ) (n : Node) (rest : List Node) (halt : Halt) → operands ≡ n ∷ rest → Halts (answer_at world n before) halt → Halts (chain_at world operands ops before) halt
chain_stops world operands ops before n rest halt is h =
    Halts-same _ _ halt (chain_split world operands ops before n rest is)
    (Halts-then (answer_at world n before) halt (λ v. with_all (answers_at world rest (before + site_count n)) (λ vs. Val (operations_of v ops vs))) h)

-- an operand more is combined with what stands left
combined_next : (ops : List Operator) (i : ℕ) (left v : Value) (vs : List Value) → operations_of left (drop i ops) (v ∷ vs) ≡ operations_of (combination_of ops i left v) (drop (suc i) ops) vs
combined_next [] zero left v vs = refl
combined_next (op ∷ ops) zero left v vs = refl
combined_next [] (suc i) left v vs = refl
combined_next (op ∷ ops) (suc i) left v vs = combined_next ops i left v vs

pub chain_goes : (world : World) (ns : List Node) (ops : List Operator) (i : ℕ) (x : Node) (before there : ℕ) (left v : Value) → i < length ns → x ≡ get_or ns i x → answer_at world x before ≡ Val v → there ≡ before + site_count x
    → with_all (answers_at world (drop i ns) before) (λ vs. Val (operations_of left (drop i ops) vs)) ≡ with_all (answers_at world (drop (i + 1) ns) there) (λ vs. Val (operations_of (combination_of ops i left v) (drop (i + 1) ops) vs))
chain_goes world ns ops i x before there left v lt is value at =
    ap (λ answers. with_all answers (λ vs. Val (operations_of left (drop i ops) vs))) (answers_drop world ns i x before lt is)
    ∙ ap (λ a. with_all (a ∷ answers_at world (drop (i + 1) ns) (before + site_count x)) (λ vs. Val (operations_of left (drop i ops) vs))) value
    ∙ with_all-same (answers_at world (drop (i + 1) ns) (before + site_count x)) (λ vs. Val (operations_of left (drop i ops) (v ∷ vs))) (λ vs. Val (operations_of (combination_of ops i left v) (drop (suc i) ops) vs)) (λ vs. ap Val (combined_next ops i left v vs))
    ∙ ap (λ k. with_all (answers_at world (drop (i + 1) ns) (before + site_count x)) (λ vs. Val (operations_of (combination_of ops i left v) (drop k ops) vs))) (sym (add-one i))
    ∙ ap (λ b. with_all (answers_at world (drop (i + 1) ns) b) (λ vs. Val (operations_of (combination_of ops i left v) (drop (i + 1) ops) vs))) (sym at)

-- an operand that halts
pub chain_breaks : (world : World) (ns : List Node) (ops : List Operator) (i : ℕ) (x : Node) (before : ℕ) (left : Value) (halt : Halt) → i < length ns → x ≡ get_or ns i x → Halts (answer_at world x before) halt
    → Halts (with_all (answers_at world (drop i ns) before) (λ vs. Val (operations_of left (drop i ops) vs))) halt
chain_breaks world ns ops i x before left halt lt is h =
    Halts-same _ _ halt (ap (λ answers. with_all answers (λ vs. Val (operations_of left (drop i ops) vs))) (answers_drop world ns i x before lt is))
    (Halts-then (answer_at world x before) halt (λ v. with_all (answers_at world (drop (i + 1) ns) (before + site_count x)) (λ vs. Val (operations_of left (drop i ops) (v ∷ vs)))) h)

-- no operand more
operated_last : (left : Value) (ops : List Operator) → operations_of left ops [] ≡ left
operated_last left [] = refl
operated_last left (op ∷ ops) = refl

pub chain_ends : (world : World) (ns : List Node) (ops : List Operator) (before : ℕ) (left : Value) → ns ≡ [] → with_all (answers_at world ns before) (λ vs. Val (operations_of left ops vs)) ≡ Val left
chain_ends world ns ops before left is =
    ap (λ n. with_all (answers_at world n before) (λ vs. Val (operations_of left ops vs))) is
    ∙ ap (λ answers. with_all answers (λ vs. Val (operations_of left ops vs))) (answers_none world before)
    ∙ ap Val (operated_last left ops)

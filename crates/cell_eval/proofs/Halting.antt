-- How the steps of an evaluation come together.
use Rattle.std.proofs.Common.{◌≡◌, List, [], ◌∷◌, ◌++◌, Result, Ok, Err, OnOk, refl, sym, ap, ◌∙◌, subst, append_assoc, append-nil}
use Rattle.cell_values.specs.declared.values.Value.{Value}
use Rattle.cell_eval.specs.declared.halts.Halt.{Halt}
use Rattle.cell_eval.specs.declared.halts.Halt.TheVariants as halts
use Rattle.cell_eval.specs.Steps.{Halts, ComesTo, GiveAll, HaltAll}
use Rattle.formula_parse.specs.declared.operators.Operator.{Operator}
use Rattle.workbook.specs.Evaluation.{Answer, Val, Asks, Needs, then_with, with_all, final_answer, operation_of, operations_of, chain_value}

-- what halts, halts whatever was to follow
pub Halts-then : (a : Answer) (halt : Halt) (next : Value → Answer) → Halts a halt → Halts (then_with a next) halt
Halts-then a halts.Memory next h = tt
Halts-then a (halts.Topic topic) next h = ap (λ b. then_with b next) h
Halts-then a (halts.Call site name args) next h = ap (λ b. then_with b next) h

-- what halts, halts where Blank is made 0 at the end
pub Halts-final : (a : Answer) (halt : Halt) → Halts a halt → Halts (final_answer a) halt
Halts-final a halts.Memory h = tt
Halts-final a (halts.Topic topic) h = ap final_answer h
Halts-final a (halts.Call site name args) h = ap final_answer h

-- equal answers halt alike
pub Halts-same : (a b : Answer) (halt : Halt) → a ≡ b → Halts b halt → Halts a halt
Halts-same a b halt e h = subst (λ x. Halts x halt) (sym e) h

-- equal answers come to the same
pub ComesTo-same : (a b : Answer) (r : Result Value Halt) → a ≡ b → ComesTo b r → ComesTo a r
ComesTo-same a b r e h = subst (λ x. ComesTo x r) (sym e) h

-- going on with a value
pub ComesTo-then : (a : Answer) (v : Value) (next : Value → Answer) (r : Result Value Halt) → a ≡ Val v → ComesTo (next v) r → ComesTo (then_with a next) r
ComesTo-then a v next r e h = subst (λ x. ComesTo (then_with x next) r) (sym e) h

-- going on alike behind an answer comes to the same
pub then_with-same : (a : Answer) (f g : Value → Answer) → ((v : Value) → f v ≡ g v) → then_with a f ≡ then_with a g
then_with-same (Val v) f g h = h v
then_with-same (Asks site name args) f g h = refl
then_with-same (Needs topic) f g h = refl

-- what holds anyway, holds where there is a value
pub OnOk-from : (P : Type 0) (r : Result Value Halt) → P → OnOk r P
OnOk-from P (Ok v) p = p
OnOk-from P (Err halt) p = tt

-- going on alike comes to the same
pub with_all-same : (answers : List Answer) (f g : List Value → Answer) → ((vs : List Value) → f vs ≡ g vs) → with_all answers f ≡ with_all answers g
with_all-same [] f g h = h []
with_all-same (Val v ∷ answers) f g h = with_all-same answers (λ vs. f (v ∷ vs)) (λ vs. g (v ∷ vs)) (λ vs. h (v ∷ vs))
with_all-same (Asks site name args ∷ answers) f g h = refl
with_all-same (Needs topic ∷ answers) f g h = refl

-- ---- all values, one after another
-- going on with all answers is going on with some values and then with the other answers
pub record Ahead (whole : List Answer) (done : List Value) (rest : List Answer) : Type 0 where
  pub goes_on : (next : List Value → Answer) → with_all whole next ≡ with_all rest (λ vs. next (done ++ vs))

-- at first there are no values
pub ahead_first : (whole : List Answer) → Ahead whole [] whole
ahead_first whole = record { goes_on = λ next. refl }

-- a value more
pub ahead_next : (whole : List Answer) (done : List Value) (a : Answer) (v : Value) (rest : List Answer) → Ahead whole done (a ∷ rest) → a ≡ Val v → Ahead whole (done ++ v ∷ []) rest
ahead_next whole done a v rest h e = record {
  goes_on = λ next.
      h.goes_on next
      ∙ ap (λ x. with_all (x ∷ rest) (λ vs. next (done ++ vs))) e
      ∙ with_all-same rest (λ vs. next (done ++ v ∷ vs)) (λ vs. next ((done ++ v ∷ []) ++ vs)) (λ vs. ap next (sym (append_assoc done (v ∷ []) vs)));
}

-- an answer that halts
pub ahead_halts : (whole : List Answer) (done : List Value) (a : Answer) (rest : List Answer) (halt : Halt) → Ahead whole done (a ∷ rest) → Halts a halt → HaltAll whole halt
ahead_halts whole done a rest halt h e = record {
  stays = λ next. Halts-same _ _ halt (h.goes_on next) (Halts-then a halt (λ v. with_all rest (λ vs. next (done ++ v ∷ vs))) e);
}

-- no memory
pub memory_halts : (whole : List Answer) → HaltAll whole halts.Memory
memory_halts whole = record { stays = λ next. tt }

-- all values are there
pub ahead_last : (whole : List Answer) (done : List Value) → Ahead whole done [] → GiveAll whole done
ahead_last whole done h = record { goes_on = λ next. h.goes_on next ∙ ap next (append-nil done) }

-- ---- a chain, combined as its values come
-- the first value of a chain
pub chain_first : (a : Answer) (v : Value) (rest : List Answer) (ops : List Operator) → a ≡ Val v → with_all (a ∷ rest) (λ vs. Val (chain_value ops vs)) ≡ with_all rest (λ vs. Val (operations_of v ops vs))
chain_first a v rest ops e = ap (λ x. with_all (x ∷ rest) (λ vs. Val (chain_value ops vs))) e

-- a value more, behind an operator
pub chain_next : (left v : Value) (a : Answer) (rest : List Answer) (op : Operator) (ops : List Operator) → a ≡ Val v → with_all (a ∷ rest) (λ vs. Val (operations_of left (op ∷ ops) vs)) ≡ with_all rest (λ vs. Val (operations_of (operation_of op left v) ops vs))
chain_next left v a rest op ops e = ap (λ x. with_all (x ∷ rest) (λ vs. Val (operations_of left (op ∷ ops) vs))) e

-- a value more, behind all operators
pub chain_past : (left v : Value) (a : Answer) (rest : List Answer) → a ≡ Val v → with_all (a ∷ rest) (λ vs. Val (operations_of left [] vs)) ≡ with_all rest (λ vs. Val (operations_of left [] vs))
chain_past left v a rest e = ap (λ x. with_all (x ∷ rest) (λ vs. Val (operations_of left [] vs))) e

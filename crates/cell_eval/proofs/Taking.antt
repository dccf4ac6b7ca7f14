-- How arguments are taken, one after another.
use Rattle.std.proofs.Common.{◌≡◌, ℕ, suc, ◌+◌, Bool, true, false, List, [], ◌∷◌, ◌++◌, Option, Some, None, refl, sym, ap, ◌∙◌, append_assoc, add-one}
use Rattle.std.proofs.lemmas.List.{append-nil}
use Rattle.cell_refs.specs.declared.areas.Area.{Area}
use Rattle.cell_values.specs.declared.values.Value.{Value}
use Rattle.cell_eval.specs.declared.halts.Halt.{Halt}
use Rattle.cell_eval.specs.declared.halts.Halt.TheVariants as halts
use Rattle.cell_eval.specs.Steps.{Halts, IsTaken, HaltsTaken, AreTaken, HaltTaken, taken_area}
use Rattle.cell_eval.proofs.Halting.{Halts-same, Halts-then, then_with-same}
use Rattle.functions.specs.declared.arguments.Arg.{Arg}
use Rattle.functions.specs.declared.arguments.Arg.TheVariants as inputs
use Rattle.functions.specs.declared.functions.Function.{Function}
use Rattle.functions.specs.Functions.{takes_area}
use Rattle.workbook.specs.Evaluation.{World, Answer, Val, Argument, then_with, with_input, with_inputs, area_input}

-- ---- one argument
-- the values of an area
takes_cells : (world : World) (takes : Bool) (area : Option Area) (value : Answer) (a : Area) (next : Arg → Answer) → taken_area takes area ≡ Some a → with_input world takes (record { area = area; value = value }) next ≡ next (area_input world a)
takes_cells world true (Some b) value a next e = let same : b ≡ a = cc in ap (λ x. next (area_input world x)) same
takes_cells world true None value a next e = absurd (cc)
takes_cells world false area value a next e = absurd (cc)

-- one value
takes_value : (world : World) (takes : Bool) (area : Option Area) (value : Answer) (next : Arg → Answer) → taken_area takes area ≡ None → with_input world takes (record { area = area; value = value }) next ≡ then_with value (λ v. next (inputs.Direct v))
takes_value world true (Some b) value next e = absurd (cc)
takes_value world true None value next e = refl
takes_value world false area value next e = refl

pub taken_cells : (world : World) (f : Function) (place : ℕ) (argument : Argument) (a : Area) (arg : Arg) → taken_area (takes_area f place) argument.area ≡ Some a → arg ≡ area_input world a → IsTaken world f place argument arg
taken_cells world f place argument a arg e is = record { goes_on = λ next. takes_cells world (takes_area f place) argument.area argument.value a next e ∙ ap next (sym is) }

pub taken_value : (world : World) (f : Function) (place : ℕ) (argument : Argument) (v : Value) → taken_area (takes_area f place) argument.area ≡ None → argument.value ≡ Val v → IsTaken world f place argument (inputs.Direct v)
taken_value world f place argument v e is = record { goes_on = λ next. takes_value world (takes_area f place) argument.area argument.value next e ∙ ap (λ a. then_with a (λ w. next (inputs.Direct w))) is }

pub taken_halts : (world : World) (f : Function) (place : ℕ) (argument : Argument) (halt : Halt) → taken_area (takes_area f place) argument.area ≡ None → Halts argument.value halt → HaltsTaken world f place argument halt
taken_halts world f place argument halt e h = record {
  stays = λ next. Halts-same _ _ halt (takes_value world (takes_area f place) argument.area argument.value next e) (Halts-then argument.value halt (λ v. next (inputs.Direct v)) h);
}

pub taken_memory : (world : World) (f : Function) (place : ℕ) (argument : Argument) → HaltsTaken world f place argument halts.Memory
taken_memory world f place argument = record { stays = λ next. tt }

-- ---- all arguments
-- going on alike comes to the same
input-same : (world : World) (takes : Bool) (area : Option Area) (value : Answer) (f g : Arg → Answer) → ((arg : Arg) → f arg ≡ g arg) → with_input world takes (record { area = area; value = value }) f ≡ with_input world takes (record { area = area; value = value }) g
input-same world true (Some area) value f g h = h (area_input world area)
input-same world true None value f g h = then_with-same value (λ v. f (inputs.Direct v)) (λ v. g (inputs.Direct v)) (λ v. h (inputs.Direct v))
input-same world false area value f g h = then_with-same value (λ v. f (inputs.Direct v)) (λ v. g (inputs.Direct v)) (λ v. h (inputs.Direct v))

inputs-same : (world : World) (f : Function) (place : ℕ) (arguments : List Argument) (m n : List Arg → Answer) → ((args : List Arg) → m args ≡ n args) → with_inputs world f place arguments m ≡ with_inputs world f place arguments n
inputs-same world f place [] m n h = h []
inputs-same world f place (argument ∷ arguments) m n h =
    input-same world (takes_area f place) argument.area argument.value _ _
    (λ first. inputs-same world f (suc place) arguments (λ others. m (first ∷ others)) (λ others. n (first ∷ others)) (λ others. h (first ∷ others)))

-- going on with all arguments is going on with some and then with the others
pub record TakenAhead (world : World) (f : Function) (whole : List Argument) (done : List Arg) (place : ℕ) (rest : List Argument) : Type 0 where
  pub goes_on : (next : List Arg → Answer) → with_inputs world f 0 whole next ≡ with_inputs world f place rest (λ args. next (done ++ args))

-- at first there are none
pub taken_first : (world : World) (f : Function) (whole : List Argument) → TakenAhead world f whole [] 0 whole
taken_first world f whole = record { goes_on = λ next. refl }

-- an argument more
pub taken_next : (world : World) (f : Function) (whole : List Argument) (done : List Arg) (place : ℕ) (argument : Argument) (rest : List Argument) (arg : Arg)
    → TakenAhead world f whole done place (argument ∷ rest) → IsTaken world f place argument arg → TakenAhead world f whole (done ++ arg ∷ []) (place + 1) rest
taken_next world f whole done place argument rest arg h e = record {
  goes_on = λ next.
      h.goes_on next
      ∙ e.goes_on (λ first. with_inputs world f (suc place) rest (λ others. next (done ++ first ∷ others)))
      ∙ inputs-same world f (suc place) rest (λ others. next (done ++ arg ∷ others)) (λ others. next ((done ++ arg ∷ []) ++ others)) (λ others. ap next (sym (append_assoc done (arg ∷ []) others)))
      ∙ ap (λ p. with_inputs world f p rest (λ others. next ((done ++ arg ∷ []) ++ others))) (sym (add-one place));
}

-- an argument that halts
pub taken_stops : (world : World) (f : Function) (whole : List Argument) (done : List Arg) (place : ℕ) (argument : Argument) (rest : List Argument) (halt : Halt)
    → TakenAhead world f whole done place (argument ∷ rest) → HaltsTaken world f place argument halt → HaltTaken world f 0 whole halt
taken_stops world f whole done place argument rest halt h e = record {
  stays = λ next. Halts-same _ _ halt (h.goes_on next) (e.stays (λ first. with_inputs world f (suc place) rest (λ others. next (done ++ first ∷ others))));
}

-- no memory
pub taken_no_memory : (world : World) (f : Function) (whole : List Argument) → HaltTaken world f 0 whole halts.Memory
taken_no_memory world f whole = record { stays = λ next. tt }

-- all are there
pub taken_last : (world : World) (f : Function) (whole : List Argument) (done : List Arg) (place : ℕ) → TakenAhead world f whole done place [] → AreTaken world f 0 whole done
taken_last world f whole done place h = record { goes_on = λ next. h.goes_on next ∙ ap next (append-nil done) }

use Rattle.std.proofs.Common.{Result, Ok, Err, IfOk}
use Rattle.rtdhost.proofs.words.all_words.Goals as goal

-- what holds of each value of this kind
narrowed : {T E : Type 0} (r : Result T E) (P Q : T → Type 0) → ((x : T) → P x → Q x) → IfOk r P → IfOk r Q
narrowed (Ok x) P Q f h = f x h
narrowed (Err e) P Q f h = tt

pub returns : goal.returns
returns g c =
    narrowed c.collect.result _ _ (λ v given. let run = given tt in (run.0, run.1, run.2, run.3.0)) c.collect.ensures.runs

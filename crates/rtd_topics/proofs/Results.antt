-- Facts of an answer.
use Rattle.std.specs.Prelude.{Result, Ok, Err, IfOk, OnOk}

-- two facts of an Ok give a third
pub IfOk-both : {X Y : Type 0} (r : Result X Y) (P Q R : X → Type 0) → ((x : X) → P x → Q x → R x) → IfOk r P → IfOk r Q → IfOk r R
IfOk-both (Ok x) P Q R f p q = f x p q
IfOk-both (Err y) P Q R f p q = tt

-- what holds anyway holds of an Ok
pub on-ok_always : {X Y : Type 0} (r : Result X Y) (P : Type 0) → P → OnOk r P
on-ok_always (Ok x) P p = p
on-ok_always (Err y) P p = tt

-- For the crate's own functions: a fold over the values of a result.
use Rattle.std.specs.Prelude.{List, Result, Ok, Err, fold}
use Rattle.cell_values.specs.declared.errors.ErrorKind.{ErrorKind}

-- a fold over the values of a result; an error stays
abbrev pub fold_of_values :
    {S A : Type 0} → (S → A → S) → S → Result (List A) ErrorKind → Result S ErrorKind
fold_of_values f s (Ok xs) = Ok (fold f s xs)
fold_of_values f s (Err e) = Err e

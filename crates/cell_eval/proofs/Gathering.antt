-- Texts gathered one after another.
use Rattle.std.proofs.Common.{◌≡◌, ℕ, List, [], ◌∷◌, ◌++◌, Result, Ok, Err, refl, sym, ap, append_assoc}
use Rattle.cell_values.specs.declared.errors.ErrorKind.{ErrorKind}
use Rattle.functions.specs.Inputs.{with_first}

-- texts before those of a result; an error stays
abbrev pub with_front : List (List ℕ) → Result (List (List ℕ)) ErrorKind → Result (List (List ℕ)) ErrorKind
with_front done (Ok texts) = Ok (done ++ texts)
with_front done (Err kind) = Err kind

-- no texts before
pub front_first : (r : Result (List (List ℕ)) ErrorKind) → r ≡ with_front [] r
front_first (Ok texts) = refl
front_first (Err kind) = refl

-- a text more
pub front_next : (done : List (List ℕ)) (t : List ℕ) (r : Result (List (List ℕ)) ErrorKind) → with_front done (with_first t r) ≡ with_front (done ++ t ∷ []) r
front_next done t (Ok texts) = ap Ok (sym (append_assoc done (t ∷ []) texts))
front_next done t (Err kind) = refl

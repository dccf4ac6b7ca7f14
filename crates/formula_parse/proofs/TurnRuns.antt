-- What each turn keeps, the turns over a list keep.
use Rattle.std.proofs.Common.{◌≡◌, List, [], ◌∷◌, ◌++◌, Option, Some, None, option_and_then, sym, ap, ◌∙◌, subst}
use Rattle.std.proofs.lemmas.List.{append_assoc, append-nil}
use Rattle.formula_parse.specs.declared.tokens.Token.{Token}
use Rattle.formula_parse.specs.ReaderMachine.{Turn, turn_at}
use Rattle.formula_parse.proofs.Machine.{ran}

-- what holds of a value, where there is one
abbrev pub Of : {A : Type 0} → (A → Type 0) → Option A → Type 0
Of P None = Unit {0}
Of P (Some a) = P a

-- what holds of a value, where there is one, holds of this one
pub of_some : {A : Type 0} (P : A → Type 0) (o : Option A) (a : A) → o ≡ Some a → Of P o → P a
of_some P o a e h = subst (Of P) e h

-- one token at the end of a list, and then more
pub behind_one : (front : List Token) (token : Token) (back : List Token) → front ++ (token ∷ []) ++ back ≡ front ++ token ∷ back
behind_one front token back = append_assoc front (token ∷ []) back

-- what each turn keeps of the turn and the tokens up to it
abbrev pub Kept : (Turn → List Token → Type 0) → Type 0
Kept P = (turn : Turn) (front : List Token) (token : Token) → P turn front → Of (λ next. P next (front ++ token ∷ [])) (turn_at turn.0 turn.1 token)

-- what each turn keeps, the turns over a list keep
module _ (P : Turn → List Token → Type 0) (kept : Kept P) where
  -- the turns over these tokens keep it
  abbrev Keeps : List Token → Type 0
  Keeps back = (turn : Turn) (front : List Token) → P turn front → Of (λ last. P last (front ++ back)) (ran turn back)

  -- a turn and those over the tokens behind it
  keeps_on : (back : List Token) → Keeps back → (token : Token) (front : List Token) (o : Option Turn) → Of (λ next. P next (front ++ token ∷ [])) o → Of (λ last. P last (front ++ token ∷ back)) (option_and_then (λ next. ran next back) o)
  keeps_on back keeps token front None h = tt
  keeps_on back keeps token front (Some next) h = subst (λ read. Of (λ last. P last read) (ran next back)) (behind_one front token back) (keeps next (front ++ token ∷ []) h)

  -- the turns over any tokens
  keeps_all : (back : List Token) → Keeps back
  keeps_all [] turn front h = subst (P turn) (sym (append-nil front)) h
  keeps_all (token ∷ back) turn front h = keeps_on back (keeps_all back) token front (turn_at turn.0 turn.1 token) (kept turn front token h)

  -- what holds of the first turn and of no tokens, holds of the last turn and of all
  pub kept_by_run : (first last : Turn) (written : List Token) → P first [] → ran first written ≡ Some last → P last written
  kept_by_run first last written h e = of_some (λ turn. P turn written) (ran first written) last e (keeps_all written first [] h)

-- the turns over one list and then another
pub ran_behind : (turn next : Turn) (front back : List Token) → ran turn front ≡ Some next → ran turn (front ++ back) ≡ ran next back
ran_behind turn next [] back e = ap (λ (o : Option Turn). option_and_then (λ t. ran t back) o) e
ran_behind turn next (token ∷ front) back e = ran_behind_turn (turn_at turn.0 turn.1 token) next front back (λ middle. ran_behind middle next front back) e
  where
    ran_behind_turn : (o : Option Turn) (next : Turn) (front back : List Token) → ((middle : Turn) → ran middle front ≡ Some next → ran middle (front ++ back) ≡ ran next back) → option_and_then (λ t. ran t front) o ≡ Some next → option_and_then (λ t. ran t (front ++ back)) o ≡ ran next back
    ran_behind_turn None next front back onward e = cc
    ran_behind_turn (Some middle) next front back onward e = onward middle e

-- the turns over one list and then another come to an end
pub ran_through : (turn next last : Turn) (front back : List Token) → ran turn front ≡ Some next → ran next back ≡ Some last → ran turn (front ++ back) ≡ Some last
ran_through turn next last front back e f = ran_behind turn next front back e ∙ f

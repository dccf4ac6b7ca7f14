-- Marks and operators at the front of a text.
use Rattle.std.proofs.Common.{◌≡◌, ℕ, Bool, true, false, cond, ◌||◌, eqb, List, [], ◌∷◌, ◌++◌, length, Option, Some, None, option_map, refl, sym, ap, subst, ◌∙◌, arith, ⊎_elim, eqb-true, codes}
use Rattle.std.proofs.lemmas.Bool.{or_from}
use Rattle.cell_values.specs.declared.comparison.CompareOp.TheVariants as compare
use Rattle.formula_parse.specs.declared.operators.Operator.{Operator}
use Rattle.formula_parse.specs.declared.operators.Operator.TheVariants as operators
use Rattle.formula_parse.specs.declared.tokens.Token.{Token}
use Rattle.formula_parse.specs.declared.tokens.Token.TheVariants as tokens
use Rattle.formula_parse.specs.Lexing.{token_at, operator_at, operator_len, less_at, greater_at, passes_at}
use Rattle.formula_parse.specs.Tokens.{Writes, goes_on, operator_text}
use Rattle.formula_parse.proofs.LexFacts.LexFirst.{Found, found_as, first_passes, passes_seam, chosen, IsMark, at_mark, never}

-- an operator that stands at the front of a text
abbrev Operates : List ℕ → Operator → Type 0
Operates text op = Found text (tokens.Operator op) (operator_len op)

-- the same operator under another name
operates_as : (text : List ℕ) (op other : Operator) → Some op ≡ Some other → Operates text op → Operates text other
operates_as text op other e f = let same : op ≡ other = cc in subst (λ op. Operates text op) same f

-- a mark of one byte
single : (b : ℕ) (rest : List ℕ) (token : Token) → Writes (b ∷ []) token → first_passes (goes_on token) rest ≡ false → Found (b ∷ rest) token 1
single b rest token w s = record { piece = b ∷ []; rest = rest; whole = refl; count = refl; some = omega arith; writes = w; stops = s }

-- a mark of one byte that nothing goes on with, by the byte's value
plain : (b k : ℕ) (rest : List ℕ) (token : Token) → eqb b k ≡ true → Writes (k ∷ []) token → first_passes (goes_on token) rest ≡ false → Found (b ∷ rest) token 1
plain b k rest token e w s = let same : k ≡ b = sym (eqb-true b k e) in subst (λ c. Found (c ∷ rest) token 1) same (single k rest token w s)

-- a mark of two bytes
double : (b c : ℕ) (rest : List ℕ) (token : Token) → Writes (b ∷ c ∷ []) token → first_passes (goes_on token) rest ≡ false → Found (b ∷ c ∷ rest) token 2
double b c rest token w s = record { piece = b ∷ c ∷ []; rest = rest; whole = refl; count = refl; some = omega arith; writes = w; stops = s }

-- a mark of two bytes, by the value of the second
double_at : (b c k : ℕ) (rest : List ℕ) (token : Token) → eqb c k ≡ true → Writes (b ∷ k ∷ []) token → first_passes (goes_on token) rest ≡ false → Found (b ∷ c ∷ rest) token 2
double_at b c k rest token e w s = let same : k ≡ c = sym (eqb-true c k e) in subst (λ c. Found (b ∷ c ∷ rest) token 2) same (double b k rest token w s)

-- the operator with `<` at its front, by the byte behind it
less_is : (c : ℕ) (cs : List ℕ) → less_at (c ∷ cs) ≡ cond (eqb c 61) (operators.Compare compare.Le) (cond (eqb c 62) (operators.Compare compare.Ne) (operators.Compare compare.Lt))
less_is c cs =
    ap (λ p. cond p (operators.Compare compare.Le) (cond (passes_at (λ b. eqb b 62) (c ∷ cs) 0) (operators.Compare compare.Ne) (operators.Compare compare.Lt))) (passes_seam (λ b. eqb b 61) [] (c ∷ cs))
    ∙ ap (λ q. cond (eqb c 61) (operators.Compare compare.Le) (cond q (operators.Compare compare.Ne) (operators.Compare compare.Lt))) (passes_seam (λ b. eqb b 62) [] (c ∷ cs))

-- the operator with `>` at its front, by the byte behind it
greater_is : (c : ℕ) (cs : List ℕ) → greater_at (c ∷ cs) ≡ cond (eqb c 61) (operators.Compare compare.Ge) (operators.Compare compare.Gt)
greater_is c cs = ap (λ p. cond p (operators.Compare compare.Ge) (operators.Compare compare.Gt)) (passes_seam (λ b. eqb b 61) [] (c ∷ cs))

-- an operator with `<` at its front stands where it is found
less_found : (rest : List ℕ) → Operates (60 ∷ rest) (less_at rest)
less_found [] = single 60 [] (tokens.Operator (operators.Compare compare.Lt)) refl refl
less_found (c ∷ cs) = subst (λ op. Operates (60 ∷ c ∷ cs) op) (sym (less_is c cs)) (by_tests (eqb c 61) (eqb c 62) refl refl)
  where
    by_tests : (p q : Bool) → eqb c 61 ≡ p → eqb c 62 ≡ q → Operates (60 ∷ c ∷ cs) (cond p (operators.Compare compare.Le) (cond q (operators.Compare compare.Ne) (operators.Compare compare.Lt)))
    by_tests true q e f = double_at 60 c 61 cs (tokens.Operator (operators.Compare compare.Le)) e refl (never cs)
    by_tests false true e f = double_at 60 c 62 cs (tokens.Operator (operators.Compare compare.Ne)) f refl (never cs)
    by_tests false false e f = single 60 (c ∷ cs) (tokens.Operator (operators.Compare compare.Lt)) refl (or_from _ _ e f)

-- an operator with `>` at its front stands where it is found
greater_found : (rest : List ℕ) → Operates (62 ∷ rest) (greater_at rest)
greater_found [] = single 62 [] (tokens.Operator (operators.Compare compare.Gt)) refl refl
greater_found (c ∷ cs) = subst (λ op. Operates (62 ∷ c ∷ cs) op) (sym (greater_is c cs)) (by_test (eqb c 61) refl)
  where
    by_test : (p : Bool) → eqb c 61 ≡ p → Operates (62 ∷ c ∷ cs) (cond p (operators.Compare compare.Ge) (operators.Compare compare.Gt))
    by_test true e = double_at 62 c 61 cs (tokens.Operator (operators.Compare compare.Ge)) e refl (never cs)
    by_test false e = single 62 (c ∷ cs) (tokens.Operator (operators.Compare compare.Gt)) refl e

-- an operator stands where it is found
operator_found : (b : ℕ) (rest : List ℕ) (op : Operator) → operator_at b rest ≡ Some op → Operates (b ∷ rest) op
operator_found b rest op h =
    ⊎_elim (λ y. operates_as (b ∷ rest) (operators.Compare compare.Eq) op y.1 (plain b 61 rest (tokens.Operator (operators.Compare compare.Eq)) y.0 refl (never rest)))
    (λ n. ⊎_elim (λ y. operates_as (b ∷ rest) (less_at rest) op y.1 (subst (λ c. Operates (c ∷ rest) (less_at rest)) (sym (eqb-true b 60 y.0)) (less_found rest)))
    (λ n. ⊎_elim (λ y. operates_as (b ∷ rest) (greater_at rest) op y.1 (subst (λ c. Operates (c ∷ rest) (greater_at rest)) (sym (eqb-true b 62 y.0)) (greater_found rest)))
    (λ n. ⊎_elim (λ y. operates_as (b ∷ rest) operators.Join op y.1 (plain b 38 rest (tokens.Operator operators.Join) y.0 refl (never rest)))
    (λ n. ⊎_elim (λ y. operates_as (b ∷ rest) operators.Add op y.1 (plain b 43 rest (tokens.Operator operators.Add) y.0 refl (never rest)))
    (λ n. ⊎_elim (λ y. operates_as (b ∷ rest) operators.Subtract op y.1 (plain b 45 rest (tokens.Operator operators.Subtract) y.0 refl (never rest)))
    (λ n. ⊎_elim (λ y. operates_as (b ∷ rest) operators.Multiply op y.1 (plain b 42 rest (tokens.Operator operators.Multiply) y.0 refl (never rest)))
    (λ n. ⊎_elim (λ y. operates_as (b ∷ rest) operators.Divide op y.1 (plain b 47 rest (tokens.Operator operators.Divide) y.0 refl (never rest)))
    (λ n. let none = n.1 in absurd (cc))
    (chosen (eqb b 47) _ _ _ n.1))
    (chosen (eqb b 42) _ _ _ n.1))
    (chosen (eqb b 45) _ _ _ n.1))
    (chosen (eqb b 43) _ _ _ n.1))
    (chosen (eqb b 38) _ _ _ n.1))
    (chosen (eqb b 62) _ _ _ n.1))
    (chosen (eqb b 60) _ _ _ n.1))
    (chosen (eqb b 61) _ _ _ h)

-- the operator that is found, if one is
some_operator : (b : ℕ) (rest : List ℕ) (token : Token) (n : ℕ) (o : Option Operator) → operator_at b rest ≡ o → option_map {T = Operator} {U = Token × ℕ} (λ op. (tokens.Operator op, operator_len op)) o ≡ Some (token, n) → Found (b ∷ rest) token n
some_operator b rest token n None e h = absurd (cc)
some_operator b rest token n (Some op) e h = found_as (b ∷ rest) (tokens.Operator op) token (operator_len op) n h (operator_found b rest op e)

-- the mark that is found is written
pub mark_found : (b : ℕ) (rest : List ℕ) (token : Token) (n : ℕ) → IsMark b → token_at (b ∷ rest) ≡ Some (token, n) → Found (b ∷ rest) token n
mark_found b rest token n m h =
    ⊎_elim (λ y. found_as (b ∷ rest) tokens.Open token 1 n y.1 (plain b 40 rest tokens.Open y.0 refl (never rest)))
    (λ no. ⊎_elim (λ y. found_as (b ∷ rest) tokens.Close token 1 n y.1 (plain b 41 rest tokens.Close y.0 refl (never rest)))
    (λ no. ⊎_elim (λ y. found_as (b ∷ rest) tokens.Comma token 1 n y.1 (plain b 44 rest tokens.Comma y.0 refl (never rest)))
    (λ no. some_operator b rest token n (operator_at b rest) refl no.1)
    (chosen (eqb b 44) _ _ _ no.1))
    (chosen (eqb b 41) _ _ _ no.1))
    (chosen (eqb b 40) _ _ _ (sym (at_mark b rest m) ∙ h))

-- a `<` with neither `=` nor `>` behind it
less_alone : (p q : Bool) → (p || q) ≡ false → cond p (operators.Compare compare.Le) (cond q (operators.Compare compare.Ne) (operators.Compare compare.Lt)) ≡ operators.Compare compare.Lt
less_alone true q e = absurd (cc)
less_alone false true e = absurd (cc)
less_alone false false e = refl

-- a `>` without `=` behind it
greater_alone : (p : Bool) → p ≡ false → cond p (operators.Compare compare.Ge) (operators.Compare compare.Gt) ≡ operators.Compare compare.Gt
greater_alone true e = absurd (cc)
greater_alone false e = refl

-- an operator with its length
abbrev as_found : Operator → Option (Token × ℕ)
as_found op = Some (tokens.Operator op, operator_len op)

-- the operator that is written is found
pub operator_written : (op : Operator) (rest : List ℕ) → first_passes (goes_on (tokens.Operator op)) rest ≡ false → token_at (operator_text op ++ rest) ≡ Some (tokens.Operator op, length (operator_text op))
unfolding token_at
operator_written (operators.Compare compare.Eq) rest s = refl
operator_written (operators.Compare compare.Ne) rest s = ap as_found (less_is 62 rest)
operator_written (operators.Compare compare.Lt) [] s = refl
operator_written (operators.Compare compare.Lt) (c ∷ cs) s = ap as_found (less_is c cs ∙ less_alone (eqb c 61) (eqb c 62) s)
operator_written (operators.Compare compare.Gt) [] s = refl
operator_written (operators.Compare compare.Gt) (c ∷ cs) s = ap as_found (greater_is c cs ∙ greater_alone (eqb c 61) s)
operator_written (operators.Compare compare.Le) rest s = ap as_found (less_is 61 rest)
operator_written (operators.Compare compare.Ge) rest s = ap as_found (greater_is 61 rest)
operator_written operators.Join rest s = refl
operator_written operators.Add rest s = refl
operator_written operators.Subtract rest s = refl
operator_written operators.Multiply rest s = refl
operator_written operators.Divide rest s = refl

-- the `(` that is written is found
pub open_written : (rest : List ℕ) → token_at (codes "(" ++ rest) ≡ Some (tokens.Open, 1)
unfolding token_at
open_written rest = refl

-- the `)` that is written is found
pub close_written : (rest : List ℕ) → token_at (codes ")" ++ rest) ≡ Some (tokens.Close, 1)
unfolding token_at
close_written rest = refl

-- the `,` that is written is found
pub comma_written : (rest : List ℕ) → token_at (codes "," ++ rest) ≡ Some (tokens.Comma, 1)
unfolding token_at
comma_written rest = refl

-- a text that begins with the first byte of an operator begins with an operator
pub operator_begins : (op : Operator) (c : ℕ) (cs rest more : List ℕ) → c ∷ rest ≡ operator_text op ++ more → (other : Operator) × (n : ℕ) × (token_at (c ∷ cs) ≡ Some (tokens.Operator other, n))
unfolding token_at
operator_begins (operators.Compare compare.Eq) c cs rest more e = let same : 61 ≡ c = cc in (operators.Compare compare.Eq, 1, subst (λ b. token_at (b ∷ cs) ≡ Some (tokens.Operator (operators.Compare compare.Eq), 1)) same refl)
operator_begins (operators.Compare compare.Ne) c cs rest more e = let same : 60 ≡ c = cc in (less_at cs, operator_len (less_at cs), subst (λ b. token_at (b ∷ cs) ≡ Some (tokens.Operator (less_at cs), operator_len (less_at cs))) same refl)
operator_begins (operators.Compare compare.Lt) c cs rest more e = let same : 60 ≡ c = cc in (less_at cs, operator_len (less_at cs), subst (λ b. token_at (b ∷ cs) ≡ Some (tokens.Operator (less_at cs), operator_len (less_at cs))) same refl)
operator_begins (operators.Compare compare.Le) c cs rest more e = let same : 60 ≡ c = cc in (less_at cs, operator_len (less_at cs), subst (λ b. token_at (b ∷ cs) ≡ Some (tokens.Operator (less_at cs), operator_len (less_at cs))) same refl)
operator_begins (operators.Compare compare.Gt) c cs rest more e = let same : 62 ≡ c = cc in (greater_at cs, operator_len (greater_at cs), subst (λ b. token_at (b ∷ cs) ≡ Some (tokens.Operator (greater_at cs), operator_len (greater_at cs))) same refl)
operator_begins (operators.Compare compare.Ge) c cs rest more e = let same : 62 ≡ c = cc in (greater_at cs, operator_len (greater_at cs), subst (λ b. token_at (b ∷ cs) ≡ Some (tokens.Operator (greater_at cs), operator_len (greater_at cs))) same refl)
operator_begins operators.Join c cs rest more e = let same : 38 ≡ c = cc in (operators.Join, 1, subst (λ b. token_at (b ∷ cs) ≡ Some (tokens.Operator (operators.Join), 1)) same refl)
operator_begins operators.Add c cs rest more e = let same : 43 ≡ c = cc in (operators.Add, 1, subst (λ b. token_at (b ∷ cs) ≡ Some (tokens.Operator (operators.Add), 1)) same refl)
operator_begins operators.Subtract c cs rest more e = let same : 45 ≡ c = cc in (operators.Subtract, 1, subst (λ b. token_at (b ∷ cs) ≡ Some (tokens.Operator (operators.Subtract), 1)) same refl)
operator_begins operators.Multiply c cs rest more e = let same : 42 ≡ c = cc in (operators.Multiply, 1, subst (λ b. token_at (b ∷ cs) ≡ Some (tokens.Operator (operators.Multiply), 1)) same refl)
operator_begins operators.Divide c cs rest more e = let same : 47 ≡ c = cc in (operators.Divide, 1, subst (λ b. token_at (b ∷ cs) ≡ Some (tokens.Operator (operators.Divide), 1)) same refl)

-- Where a formula begins with a front of what is printed, its tokens up to there are opened and closed in the text that was read, too.
use Rattle.std.proofs.Common.{◌≡◌, ◌⊎◌, ⊎_elim, ℕ, zero, suc, ◌+◌, ◌-◌, ◌<◌, ◌≤◌, Bool, true, false, ◌==◌, List, [], ◌∷◌, ◌++◌, length, take, drop, Option, Some, None, refl, sym, ap, ◌∙◌, subst, arith, append-nil, eqb-true}
use Rattle.std.specs.List.{count_by, flat_map}
use Rattle.std.proofs.Math.Seq.{take-length, take-append-add, drop-append_seam}
use Rattle.std.proofs.lemmas.Bool.{and_parts, cases_Bool}
use Rattle.std.proofs.lemmas.List.{length-append, length-take, take-append-drop, drop-take}
use Rattle.formula_parse.specs.declared.nodes.Node.{Node}
use Rattle.formula_parse.specs.declared.tokens.Token.{Token}
use Rattle.formula_parse.specs.declared.tokens.Token.TheVariants as tokens
use Rattle.formula_parse.specs.Faults.{open_behind, IsOverOpen, IsTooDeep}
use Rattle.formula_parse.specs.Grammar.{IsWritten}
use Rattle.formula_parse.specs.Lexing.{token_at}
use Rattle.formula_parse.specs.Printing.{token_text}
use Rattle.formula_parse.specs.Tokens.{IsSpelled, Writes, are_spaces, goes_on_with}
use Rattle.formula_parse.proofs.LexFacts.LexingLaws.{written_is_found, found_again}
use Rattle.formula_parse.proofs.NamingTokens.{Each, piece_long}
use Rattle.formula_parse.proofs.PrintFacts.PrintedFlow.{ends_operand, flows}
use Rattle.formula_parse.proofs.PrintFacts.PrintedSpelled.{IsCanonical, stops, flows_on, same_found}
use Rattle.formula_parse.proofs.PrintFacts.PrintedThinned.{IsThinned, thinned_front, thinned_opens}

-- ---- what a token opens and closes
-- a token, and then others
open_behind_cons : (outer : List Bool) (t : Token) (ts : List Token) → open_behind outer (t ∷ ts) ≡ open_behind (open_behind outer (t ∷ [])) ts
open_behind_cons outer (tokens.Call callee) ts = refl
open_behind_cons outer tokens.Open ts = refl
open_behind_cons outer tokens.Close ts = refl
open_behind_cons outer other ts = refl

-- whether a token neither opens nor closes
abbrev opens_nothing : Token → Bool
opens_nothing (tokens.Call callee) = false
opens_nothing tokens.Open = false
opens_nothing tokens.Close = false
opens_nothing other = true

-- such a token leaves open what was open
nothing_opened : (t : Token) (outer : List Bool) → opens_nothing t ≡ true → open_behind outer (t ∷ []) ≡ outer
nothing_opened (tokens.Call callee) outer h = cc
nothing_opened tokens.Open outer h = cc
nothing_opened tokens.Close outer h = cc
nothing_opened other outer h = refl

-- another token never goes on
opener_ends : (t : Token) (rest : List ℕ) → opens_nothing t ≡ false → goes_on_with t rest ≡ false
opener_ends t [] h = refl
opener_ends (tokens.Call callee) (b ∷ bs) h = refl
opener_ends tokens.Open (b ∷ bs) h = refl
opener_ends tokens.Close (b ∷ bs) h = refl
opener_ends other (b ∷ bs) h = cc

-- ---- tokens that are printed
-- tokens as they are printed, each by the text that writes it
record ArePrinted (behind : Bool) (us : List Token) : Type 0 where
  pub flow : flows behind us ≡ true
  pub own : Each IsCanonical us

-- their text
abbrev text_of : List Token → List ℕ
text_of us = flat_map token_text us

-- without the first one
printed_on : (behind : Bool) (u : Token) (us : List Token) → ArePrinted behind (u ∷ us) → ArePrinted (ends_operand u) us
printed_on behind u us p = record { flow = flows_on behind u us p.flow; own = p.own.1 }

-- the first one is found
first_found : (behind : Bool) (u : Token) (us : List Token) → ArePrinted behind (u ∷ us) → token_at (text_of (u ∷ us)) ≡ Some (u, length (token_text u))
first_found behind u us p = written_is_found (token_text u) (text_of us) u p.own.0 (stops u us (flows_on behind u us p.flow) p.own.1)

-- no token begins with a space
no_space_found : (rest : List ℕ) → token_at (32 ∷ rest) ≡ None
unfolding token_at
no_space_found rest = refl

-- none is found at the end
nothing_found : token_at [] ≡ None
unfolding token_at
nothing_found = refl

-- what is found is no nothing
found_is_some : (t : Token) (n : ℕ) (o : Option (Token × ℕ)) → o ≡ Some (t, n) → o ≡ None → ⊥
found_is_some t n o h k = let e : Some (t, n) ≡ None = sym h ∙ k in cc (e)

-- what is printed doesn't begin with a space
no_space : (behind : Bool) (us : List Token) (rest : List ℕ) → ArePrinted behind us → text_of us ≡ 32 ∷ rest → ⊥
no_space behind [] rest p e = cc
no_space behind (u ∷ us) rest p e = found_is_some u (length (token_text u)) (token_at (text_of (u ∷ us))) (first_found behind u us p) (ap token_at e ∙ no_space_found rest)

-- what is found at the front of what is printed is the first token
found_first : (behind : Bool) (us : List Token) (v : Token) (k : ℕ) → ArePrinted behind us → token_at (text_of us) ≡ Some (v, k) → (rest : List Token) × (us ≡ v ∷ rest) × (k ≡ length (token_text v)) × ArePrinted (ends_operand v) rest
found_first behind [] v k p h = absurd (found_is_some v k (token_at []) h nothing_found)
found_first behind (u ∷ us) v k p h =
    let same = same_found u v (length (token_text u)) k (token_at (text_of (u ∷ us))) (first_found behind u us p) h in
    (us, ap (λ x. x ∷ us) same.0, sym same.1 ∙ ap (λ x. length (token_text x)) same.0, subst (λ x. ArePrinted (ends_operand x) us) same.0 (printed_on behind u us p))

-- ---- a front of what is printed
-- tokens open and close as some first tokens of these do
abbrev OpensLike : List Token → List Token → Type 0
OpensLike front us = (us₁ us₂ : List Token) × (us ≡ us₁ ++ us₂) × ((outer : List Bool) → open_behind outer front ≡ open_behind outer us₁)

-- nothing spells no tokens
nothing_spelled : (ts : List Token) → IsSpelled [] ts → ts ≡ []
nothing_spelled [] s = refl
nothing_spelled (t ∷ ts) s = absurd (omega (arith, piece_long s.1 t s.5, ap length s.3, length-append s.0 (s.1 ++ s.2), length-append s.1 s.2))

-- before the first token there are no spaces
no_gap : (behind : Bool) (us : List Token) (gap rest more : List ℕ) → ArePrinted behind us → are_spaces gap ≡ true → text_of us ≡ (gap ++ rest) ++ more → gap ≡ []
no_gap behind us [] rest more p s e = refl
no_gap behind us (b ∷ gap) rest more p s e =
    let q = and_parts (b == 32) (are_spaces gap) s in
    absurd (no_space behind us ((gap ++ rest) ++ more) p (e ∙ ap (λ x. x ∷ ((gap ++ rest) ++ more)) (eqb-true b 32 q.0)))

-- one token that a front of what is printed ends with
last_opens : (behind : Bool) (us : List Token) (v : Token) (piece more : List ℕ) → ArePrinted behind us → Writes piece v → text_of us ≡ piece ++ more → OpensLike (v ∷ []) us
last_opens behind us v piece more p w e = ⊎_elim
    (λ plain. ([], us, refl, λ outer. nothing_opened v outer plain))
    (λ opens.
    let f = found_first behind us v (length piece) p (ap token_at e ∙ written_is_found piece more v w (opener_ends v more opens)) in
    (v ∷ [], f.0, f.1, λ outer. refl))
    (cases_Bool (opens_nothing v))

-- a token behind which further bytes of the front stand is the first token
first_stands : (behind : Bool) (us : List Token) (v : Token) (piece bytes more : List ℕ) (b : ℕ) → ArePrinted behind us → Writes piece v → goes_on_with v (b ∷ bytes) ≡ false → text_of us ≡ (piece ++ b ∷ bytes) ++ more → (rest : List Token) × (us ≡ v ∷ rest) × (length piece ≡ length (token_text v)) × ArePrinted (ends_operand v) rest
first_stands behind us v piece bytes more b p w g e =
    let front : List ℕ = piece ++ b ∷ bytes in
    let found = written_is_found piece (b ∷ bytes) v w g in
    let longer : length piece < length front = omega (arith, length-append piece (b ∷ bytes)) in
    let again = found_again front more v (length piece) (length front) found longer (omega arith) in
    found_first behind us v (length piece) p (ap token_at e ∙ ap (λ x. token_at (x ++ more)) (sym (take-length front)) ∙ again)

-- the rest of a front behind its first token
front_rest : (m n : ℕ) (xs ys piece rest : List ℕ) → n ≡ length xs → length piece ≡ n → take m (xs ++ ys) ≡ piece ++ rest → (k : ℕ) × (rest ≡ take k ys)
front_rest m n xs ys piece rest en ep e =
    let more : n + (m - n) ≡ m = omega (arith, ap length e, length-take m (xs ++ ys), length-append piece rest) in
    let behind : drop n (xs ++ ys) ≡ ys = ap (λ k. drop k (xs ++ ys)) en ∙ drop-append_seam xs ys in
    let left : drop n (piece ++ rest) ≡ rest = ap (λ k. drop k (piece ++ rest)) (sym ep) ∙ drop-append_seam piece rest in (
      m - n,
      sym left ∙ ap (drop n) (sym e) ∙ ap (λ k. drop n (take k (xs ++ ys))) (sym more) ∙ drop-take n (m - n) (xs ++ ys) ∙ ap (take (m - n)) behind,
    )

-- what front tokens of a front open, over what the ones behind the first open
front_step : (behind : Bool) (us : List Token) (v : Token) (front : List Token) (m : ℕ) (piece rest : List ℕ) → ArePrinted behind us → Writes piece v → goes_on_with v rest ≡ false → take m (text_of us) ≡ piece ++ rest → IsSpelled rest front → ((b : Bool) (ts : List Token) (k : ℕ) → ArePrinted b ts → IsSpelled (take k (text_of ts)) front → OpensLike front ts) → OpensLike (v ∷ front) us
front_step behind us v front m piece [] p w g e s onward =
    let whole : text_of us ≡ piece ++ drop m (text_of us) = sym (take-append-drop m (text_of us)) ∙ ap (λ x. x ++ drop m (text_of us)) (e ∙ append-nil piece) in
    subst (λ f. OpensLike (v ∷ f) us) (sym (nothing_spelled front s)) (last_opens behind us v piece (drop m (text_of us)) p w whole)
front_step behind us v front m piece (b ∷ bs) p w g e s onward =
    let whole : text_of us ≡ (piece ++ b ∷ bs) ++ drop m (text_of us) = sym (take-append-drop m (text_of us)) ∙ ap (λ x. x ++ drop m (text_of us)) e in
    let f = first_stands behind us v piece bs (drop m (text_of us)) b p w g whole in
    let left = front_rest m (length (token_text v)) (token_text v) (text_of f.0) piece (b ∷ bs) refl f.2 (ap (λ ts. take m (text_of ts)) (sym f.1) ∙ e) in
    let o = onward (ends_operand v) f.0 left.0 f.3 (subst (λ bytes. IsSpelled bytes front) left.1 s) in
    (v ∷ o.0, o.1, f.1 ∙ ap (λ ts. v ∷ ts) o.2, λ outer. open_behind_cons outer v front ∙ o.3 (open_behind outer (v ∷ [])) ∙ sym (open_behind_cons outer v o.0))

-- tokens that a front of what is printed spells open and close as some first tokens of what is printed do
front_opens : (front : List Token) (behind : Bool) (us : List Token) (m : ℕ) → ArePrinted behind us → IsSpelled (take m (text_of us)) front → OpensLike front us
front_opens [] behind us m p s = ([], us, refl, λ outer. refl)
front_opens (v ∷ front) behind us m p s =
    let whole : text_of us ≡ (s.0 ++ (s.1 ++ s.2)) ++ drop m (text_of us) = sym (take-append-drop m (text_of us)) ∙ ap (λ x. x ++ drop m (text_of us)) s.3 in
    let none : s.0 ≡ [] = no_gap behind us s.0 (s.1 ++ s.2) (drop m (text_of us)) p s.4 whole in
    front_step behind us v front m s.1 s.2 p s.5 s.6 (s.3 ∙ ap (λ gap. gap ++ (s.1 ++ s.2)) none) s.7 (front_opens front)

-- ---- a front of a text
-- a token that doesn't go on, doesn't with less
ends_in_front : (token : Token) (rest : List ℕ) (k : ℕ) → goes_on_with token rest ≡ false → goes_on_with token (take k rest) ≡ false
ends_in_front token rest zero h = refl
ends_in_front token [] (suc k) h = refl
ends_in_front token (b ∷ bs) (suc k) h = h

-- the front of a text that its first tokens spell
spelled_front : (text : List ℕ) (front back : List Token) → IsSpelled text (front ++ back) → (k : ℕ) × (k ≤ length text) × IsSpelled (take k text) front
spelled_front text [] back s = (0, omega arith, refl)
spelled_front text (t ∷ front) back s =
    let next = spelled_front s.2 front back s.7 in
    let cut : take (length s.0 + (length s.1 + next.0)) text ≡ s.0 ++ (s.1 ++ take next.0 s.2) = ap (take (length s.0 + (length s.1 + next.0))) s.3 ∙ take-append-add s.0 (s.1 ++ s.2) (length s.1 + next.0) ∙ ap (λ x. s.0 ++ x) (take-append-add s.1 s.2 next.0) in (
      length s.0 + (length s.1 + next.0),
      omega (arith, next.1, ap length s.3, length-append s.0 (s.1 ++ s.2), length-append s.1 s.2),
      (s.0, s.1, take next.0 s.2, cut, s.4, s.5, ends_in_front t s.2 next.0 s.6, next.2),
    )

-- ---- too deep
-- tokens that open and close alike are over the limits alike
over_alike : (us ts : List Token) → ((outer : List Bool) → open_behind outer us ≡ open_behind outer ts) → IsOverOpen us → IsOverOpen ts
over_alike us ts same h = subst (λ left. (64 < count_by (λ is_call. is_call) left) ⊎ (128 < length left)) (same []) h

-- a text whose first tokens leave too much open
too_deep : (rest : List ℕ) (written front back : List Token) (tree : Node) → written ≡ front ++ back → IsSpelled rest written → IsWritten tree 0 written → IsOverOpen front → IsTooDeep (61 ∷ rest)
too_deep rest written front back tree e spelled formed over =
    let s : IsSpelled rest (front ++ back) = subst (IsSpelled rest) e spelled in
    let f = spelled_front rest front back s in
    record {
      point = suc f.0;
      within = omega (arith, f.1);
      rest = drop f.0 rest;
      front = front;
      back = back;
      tree = tree;
      formula = record {
        rest = rest;
        begins = ap (λ bytes. 61 ∷ bytes) (take-append-drop f.0 rest);
        spelled = s;
        formed = subst (IsWritten tree 0) e formed;
      };
      up_to = f.2;
      over = over;
    }

-- a front of what is printed, behind its `=`
behind_equals : (point : ℕ) (bytes : List ℕ) → (m : ℕ) × (drop 1 (take point (61 ∷ bytes)) ≡ take m bytes)
behind_equals zero bytes = (0, refl)
behind_equals (suc m) bytes = (m, refl)

-- what is printed is not too deep where the text isn't
pub printed_shallow : (rest : List ℕ) (us ts : List Token) (tree : Node) → flows false us ≡ true → Each IsCanonical us → IsThinned us ts → IsSpelled rest ts → IsWritten tree 0 ts → IsTooDeep (61 ∷ flat_map token_text us) → IsTooDeep (61 ∷ rest)
printed_shallow rest us ts tree flow own thin spelled formed d =
    let m = behind_equals d.point (text_of us) in
    let o = front_opens d.front false us m.0 (record { flow = flow; own = own }) (subst (λ bytes. IsSpelled bytes d.front) m.1 d.up_to) in
    let t = thinned_front o.0 o.1 ts (subst (λ xs. IsThinned xs ts) o.2 thin) in
    too_deep rest ts t.0 t.1 tree t.2 spelled formed (over_alike d.front t.0 (λ outer. o.3 outer ∙ thinned_opens o.0 t.0 t.3 outer) d.over)

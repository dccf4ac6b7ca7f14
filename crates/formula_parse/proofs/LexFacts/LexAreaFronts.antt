-- How much of a text an area begins with.
use Rattle.std.proofs.Common.{◌≡◌, ℕ, ◌+◌, ◌<◌, ◌≤◌, zero, suc, eqb, nat_lt, List, [], ◌∷◌, ◌++◌, length, take, drop, Option, Some, None, refl, sym, ap, ◌∙◌, arith, ◌⊎◌, inl, inr, ⊎_elim, ltb-true}
use Rattle.std.proofs.lemmas.Bool.{cases_Bool, cond-true, cond-false, and_parts}
use Rattle.std.proofs.lemmas.List.{length-drop, append_assoc, append-nil}
use Rattle.std.proofs.Math.Seq.{take-append_seam, take-append-add}
use Rattle.cell_refs.specs.declared.references.RefText.{RefText}
use Rattle.cell_refs.specs.RefText.{IsReference}
use Rattle.cell_refs.specs.Written.{capitals, reference_at}
use Rattle.cell_refs.proofs.PublicLaws.{reference_capitals}
use Rattle.formula_parse.specs.declared.tokens.Token.TheVariants as tokens
use Rattle.formula_parse.specs.Lexing.{corner_begun, name_begun, reference_begun, plain_begun, passes_at}
use Rattle.formula_parse.specs.Tokens.{Writes}
use Rattle.formula_parse.proofs.LexFacts.LexCorners.{IsPlain, plain_goes_on, plain_most, plain_within}
use Rattle.formula_parse.proofs.LexFacts.LexFronts.{compared}
use Rattle.formula_parse.proofs.LexFacts.LexReferenceFronts.{reference_most}
use Rattle.formula_parse.proofs.LexFacts.LexReferences.{reference_refers, reference_whole, reference_joined, piece_refers}
use Rattle.formula_parse.proofs.LexFacts.LexWords.{passes_split, first_is, behind_colon}

-- what begins an area is no more than the text
pub corner_within : (text : List ℕ) (o : Option (RefText × ℕ)) → corner_begun text o ≤ length text
corner_within text None = omega arith
corner_within text (Some found) = ⊎_elim
    (λ y.
    let e : corner_begun text (Some found) ≡ found.1 + 1 + plain_begun (drop (found.1 + 1) text) = cond-true _ _ _ y in
    let less = ltb-true found.1 (length text) (and_parts (nat_lt found.1 (length text)) _ y).0 in
    let h = plain_within (drop (found.1 + 1) text) in
    omega (arith, length-drop (found.1 + 1) text))
    (λ n. let e : corner_begun text (Some found) ≡ 0 = cond-false _ _ _ n in omega arith)
    (cases_Bool (passes_at (λ b. eqb b 58) text found.1))

-- the front of a text up to so many bytes behind a `:`
front_taken : (text front more : List ℕ) (n k : ℕ) → text ≡ front ++ 58 ∷ more → n ≡ length front → take (n + 1 + k) text ≡ front ++ 58 ∷ take k more
front_taken text front more n k e f =
    let place : n + 1 + k ≡ length front + suc k = omega arith in
    ap (λ j. take j text) place ∙ (ap (take (length front + suc k)) e ∙ take-append-add front (58 ∷ more) (suc k))

-- the front of an area goes on to one
pub area_goes_on : (text : List ℕ) (o : Option (RefText × ℕ)) → reference_at text ≡ o → 0 < corner_begun text o → (more : List ℕ) × (a : RefText) × (b : RefText) × Writes (take (corner_begun text o) text ++ more) (tokens.Area a b)
area_goes_on text None e some = absurd (omega arith)
area_goes_on text (Some found) e some = ⊎_elim
    (λ y.
    let f = reference_refers text found.0 found.1 e in
    let colon = first_is 58 f.rest (sym (passes_split (λ b. eqb b 58) text f.piece f.rest found.1 f.whole f.count) ∙ y) in
    let whole : text ≡ f.piece ++ 58 ∷ colon.0 = f.whole ∙ ap (λ x. f.piece ++ x) colon.1 in
    let left : drop (found.1 + 1) text ≡ colon.0 = behind_colon text f.piece colon.0 found.1 whole f.count in
    let p = plain_goes_on colon.0 in
    let k = plain_begun colon.0 in
    let is : corner_begun text (Some found) ≡ found.1 + 1 + k = cond-true _ _ _ y ∙ ap (λ x. found.1 + 1 + plain_begun x) left in
    let front : take (corner_begun text (Some found)) text ≡ f.piece ++ 58 ∷ take k colon.0 = ap (λ n. take n text) is ∙ front_taken text f.piece colon.0 found.1 k whole f.count in
    let piece : take (corner_begun text (Some found)) text ++ p.0 ≡ f.piece ++ 58 ∷ (take k colon.0 ++ p.0) = ap (λ x. x ++ p.0) front ∙ append_assoc f.piece (58 ∷ take k colon.0) p.0 in
    (p.0, found.0, p.1.reference, (f.piece, take k colon.0 ++ p.0, piece, reference_whole f.piece found.0 f.spelled f.inside, reference_whole (take k colon.0 ++ p.0) p.1.reference p.1.spelled p.1.inside, p.1.no_sheet)))
    (λ n. let z : corner_begun text (Some found) ≡ 0 = cond-false _ _ _ n in absurd (omega arith))
    (cases_Bool (passes_at (λ b. eqb b 58) text found.1))

-- ---- no longer front
-- the `:` behind a first corner
colon_there : (left more back : List ℕ) (count : ℕ) → count ≤ length left → take count left ++ more ≡ 58 ∷ back → (count ≡ 0) ⊎ ((k : ℕ) × (rest : List ℕ) × (count ≡ suc k) × (left ≡ 58 ∷ rest) × (k ≤ length rest) × (take k rest ++ more ≡ back))
colon_there left more back zero h e = inl refl
colon_there [] more back (suc k) h e = absurd (omega arith)
colon_there (c ∷ cs) more back (suc k) h e =
    let first : c ≡ 58 = cc in
    let rest : take k cs ++ more ≡ back = cc in
    inr (k, cs, refl, ap (λ b. b ∷ cs) first, omega arith, rest)

-- how much of a text an area begins with, by its first corner
corner_is : (text front rest : List ℕ) (a : RefText) → text ≡ front ++ 58 ∷ rest → capitals front ≡ reference_capitals a → IsReference a → corner_begun text (reference_at text) ≡ length front + 1 + plain_begun rest
corner_is text front rest a whole e inside =
    let read : reference_at text ≡ Some (a, length front) = ap reference_at whole ∙ reference_joined front (58 ∷ rest) a e inside refl in
    ap (corner_begun text) read
    ∙ (cond-true _ _ _ (passes_split (λ b. eqb b 58) text front (58 ∷ rest) (length front) whole refl)
    ∙ ap (λ x. length front + 1 + plain_begun x) (behind_colon text front rest (length front) whole refl))

-- how much of a text a name, a reference or an area begins with
abbrev pub Begun : List ℕ → ℕ → Type 0
Begun text m = ((m ≤ name_begun text) ⊎ (m ≤ reference_begun text)) ⊎ (m ≤ corner_begun text (reference_at text))

-- no area goes on with more
pub area_most : (text more : List ℕ) (a b : RefText) (m : ℕ) → m ≤ length text → Writes (take m text ++ more) (tokens.Area a b) → Begun text m
area_most text more a b m inside w =
    let front = w.0 in
    let back = w.1 in
    let p = piece_refers front a w.3 in
    let q = piece_refers back b w.4 in
    ⊎_elim
    (λ i. inl (reference_most text (drop m front) a m inside (ap capitals i.whole ∙ p.0) p.1))
    (λ y. ⊎_elim
    (λ z.
    let place : m ≡ length front = omega (arith, y.place) in
    let all : take m text ++ [] ≡ front = append-nil (take m text) ∙ (ap (take m) y.whole ∙ (ap (λ n. take n (front ++ y.left)) place ∙ take-append_seam front y.left)) in
    inl (reference_most text [] a m inside (ap capitals all ∙ p.0) p.1))
    (λ c.
    let plain : IsPlain (take c.0 c.1 ++ more) = record { reference = b; spelled = ap capitals c.5 ∙ q.0; inside = q.1; no_sheet = w.5 } in
    let most = plain_most c.1 c.0 more c.4 plain in
    let is = corner_is text front c.1 a (y.whole ∙ ap (λ x. front ++ x) c.3) p.0 p.1 in
    inr (omega (arith, y.place, c.2)))
    (colon_there y.left more back y.count y.within y.agrees))
    (compared text more front (58 ∷ back) m inside w.2)

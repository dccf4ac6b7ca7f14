-- Words in upper case at the front of a text.
use Rattle.std.proofs.Common.{◌≡◌, ℕ, ◌+◌, suc, ◌<◌, ◌≤◌, min, max, Bool, true, false, cond, ◌&&◌, eqb, leb, List, [], ◌∷◌, map, length, take, drop, get_or, refl, ap, sym, ◌∙◌, arith}
use Rattle.std.proofs.lemmas.Bool.Decides.{nat_tests}
use Rattle.std.proofs.lemmas.List.{at_drop_more, at_drop_all, length-map, drop-map}
use Rattle.std.specs.Char.{to_ascii_uppercase}
use Rattle.std.specs.Ordering.{ord_max, nat_cmp}
use Rattle.std.specs.Str.{bytes_eq}
use Rattle.cell_refs.specs.Written.{capitals}
use Rattle.formula_parse.specs.Lexing.{common_len, greatest}

-- a text begins with a word where they have the whole word in common
pub begins_by_len : (word text : List ℕ) → eqb (common_len word text) (length word) ≡ bytes_eq (take (length word) text) word
begins_by_len [] text = refl
begins_by_len (w ∷ ws) [] = none (length ws)
  where
    none : (n : ℕ) → eqb 0 (suc n) ≡ false
    none n = grind (arith, nat_tests)
begins_by_len (w ∷ ws) (c ∷ cs) = step w c (common_len ws cs) (length ws) _ (begins_by_len ws cs)
  where
    step : (w c k n : ℕ) (t : Bool) → eqb k n ≡ t → eqb (cond (eqb w c) (k + 1) 0) (suc n) ≡ (eqb c w && t)
    step w c k n t e = grind (arith, nat_tests)

-- what a word and a text have in common, one step on
pub common_more : (word text : List ℕ) (i : ℕ) → i < length word → i < length text → common_len (drop i word) (drop i (capitals text)) ≡ cond (eqb (get_or word i 0) (to_ascii_uppercase (get_or text i 0))) (common_len (drop (i + 1) word) (drop (i + 1) (capitals text)) + 1) 0
common_more word text i w t =
    simp drop-map
    (at_drop_more (λ ws. common_len ws (capitals (drop i text))) word i 0 w
    ∙ at_drop_more (λ cs. common_len (get_or word i 0 ∷ drop (i + 1) word) (capitals cs)) text i 0 t)

-- two bytes that are the same in upper case are one more in common
pub common_on : (word text : List ℕ) (i up : ℕ) → i < length word → i < length text → up ≡ to_ascii_uppercase (get_or text i 0) → get_or word i 0 ≡ up → common_len (drop i word) (drop i (capitals text)) ≡ common_len (drop (i + 1) word) (drop (i + 1) (capitals text)) + 1
common_on word text i up w t e same = common_more word text i w t ∙ taken _ _ _ (same ∙ e)
  where
    taken : (a b n : ℕ) → a ≡ b → cond (eqb a b) (n + 1) 0 ≡ n + 1
    taken a b n h = grind (arith, nat_tests)

-- two bytes that differ end what they have in common
pub common_stop : (word text : List ℕ) (i up : ℕ) → i < length word → i < length text → up ≡ to_ascii_uppercase (get_or text i 0) → (get_or word i 0 ≡ up → ⊥) → common_len (drop i word) (drop i (capitals text)) ≡ 0
common_stop word text i up w t e differ = common_more word text i w t ∙ refused _ _ _ (λ same. differ (same ∙ sym e))
  where
    refused : (a b n : ℕ) → (a ≡ b → ⊥) → cond (eqb a b) (n + 1) 0 ≡ 0
    refused a b n h = grind (arith, nat_tests)

nothing_common : (word : List ℕ) → common_len word [] ≡ 0
nothing_common [] = refl
nothing_common (w ∷ ws) = refl

-- behind the end of one of them they have nothing in common
pub common_end : (word text : List ℕ) (i : ℕ) → min (length word) (length text) ≤ i → common_len (drop i word) (drop i (capitals text)) ≡ 0
common_end word text i h = by_end (leb (length word) i) refl
  where
    by_end : (b : Bool) → leb (length word) i ≡ b → common_len (drop i word) (drop i (capitals text)) ≡ 0
    by_end true e = at_drop_all (λ ws. common_len ws (drop i (capitals text))) word i (let w : length word ≤ i = grind (arith, nat_tests, e) in w)
    by_end false e = at_drop_all (λ cs. common_len (drop i word) cs) (capitals text) i (let w : length text ≤ i = grind (arith, nat_tests, e, h) in omega (arith, length-map text to_ascii_uppercase)) ∙ nothing_common (drop i word)

-- the greatest of numbers, one step on
pub greatest_more : {A : Type 0} (f : A → ℕ) (xs : List A) (i b : ℕ) (d : A) → i < length xs → max b (greatest (map f (drop i xs))) ≡ max (max b (f (get_or xs i d))) (greatest (map f (drop (i + 1) xs)))
greatest_more f xs i b d h = ap (max b) (at_drop_more (λ ys. greatest (map f ys)) xs i d h) ∙ omega arith

-- std's word for the greater of two numbers
pub max_is : (a b m : ℕ) → m ≡ ord_max nat_cmp a b → m ≡ max a b
max_is a b m e = grind (arith, nat_tests)

-- What is read as a value is the word of that value, so each value is written in one way.
use Rattle.std.proofs.Common.{◌≡◌, ℕ, zero, suc, ◌≤◌, ◌<◌, ◌&&◌, ◌⊎◌, inl, inr, Bool, true, false, cond, eqb, ltb, leb, List, [], ◌∷◌, ◌++◌, length, get_or, Option, Some, None, refl, sym, ap, ◌∙◌, subst, arith, lit<, ℤ, pos, unsigned_abs}
use Rattle.std.proofs.lemmas.Bool.{and_parts, eqb-true, leb-true, ltb-true}
use Rattle.std.proofs.lemmas.Bool.Decides.{nat_tests}
use Rattle.std.proofs.lemmas.Fmt.{decimal-digits_value, decimal_digit}
use Rattle.std.proofs.lemmas.Option.{cond_some, option_and_then_some}
use Rattle.std.proofs.lemmas.Slice.Eq.{bytes_eq-Decides}
use Rattle.std.specs.Fmt.{signed_decimal, decimal}
use Rattle.std.specs.List.{find}
use Rattle.std.specs.Option.{option_map, option_or, option_and_then}
use Rattle.std.specs.Str.{all_ascii_digits, bytes_eq}
use Rattle.std.specs.Str.Parse.{digits_value}
use lib.Chars.{codes}
use Rattle.cell_values.specs.declared.errors.ErrorKind.{ErrorKind}
use Rattle.cell_values.specs.declared.errors.ErrorKind.TheVariants as errors
use Rattle.cell_values.specs.declared.values.Value.{Value}
use Rattle.cell_values.specs.declared.values.Value.TheVariants as values
use Rattle.cell_values.specs.Digits.{whole_number, is_whole, below_zero}
use Rattle.cell_values.specs.Error.{error_word}
use Rattle.cell_values.specs.Text.{is_text}
use Rattle.cell_values.specs.Word.{HasWord, with_doubled_quotes, byte_within, quotation_of, value_text, begins_with_zero, number_word, bool_word, kind_of_word, before_closing_quote, text_word, text_of_bytes, value_of_word}
use Rattle.cell_values.proofs.DigitFacts.{own}

-- which way a choice went
choice : {A : Type 0} (b : Bool) (x y z : A) → cond b x y ≡ z → ((b ≡ true) × (x ≡ z)) ⊎ ((b ≡ false) × (y ≡ z))
choice true x y z e = inl (refl, e)
choice false x y z e = inr (refl, e)

-- what a mapped value comes from
mapped : {A B : Type 0} (f : A → B) (o : Option A) (y : B) → option_map f o ≡ Some y → (x : A) × (o ≡ Some x) × (f x ≡ y)
mapped f None y e = absurd (cc)
mapped f (Some x) y e = (x, refl, cc)

none_is_no_some : {A : Type 0} (x : A) → None ≡ Some x → ⊥
none_is_no_some x e = cc

-- which of two alternatives it was
either : {A : Type 0} (o p : Option A) (x : A) → option_or o p ≡ Some x → (o ≡ Some x) ⊎ (p ≡ Some x)
either None p x e = inr e
either (Some y) p x e = inl e

some_same : {A : Type 0} (x y : A) → Some x ≡ Some y → x ≡ y
some_same x y e = cc

-- what is found passes the test
found_passes : {A : Type 0} (p : A → Bool) (xs : List A) (x : A) → find p xs ≡ Some x → p x ≡ true
found_passes p [] x e = absurd (cc)
found_passes p (y ∷ ys) x e =
    elim (choice (p y) (Some y) (find p ys) (Some x) e) [
      | inl h ↦ subst (λ k. p k ≡ true) (some_same y x h.1) h.0
      | inr h ↦ found_passes p ys x h.1
    ]

-- digits that stand for a number
record Stands (ds : List ℕ) (n : ℕ) : Type 0 where
  digits : all_ascii_digits ds ≡ true
  some : 0 < length ds
  value : digits_value 10 ds ≡ n
  small : n ≤ 999999999999999

stands : (ds : List ℕ) (n : ℕ) → whole_number ds ≡ Some n → Stands ds n
stands ds n e =
    let p = cond_some (is_whole ds) (digits_value 10 ds) n e in
    let q = and_parts (all_ascii_digits ds) (ltb 0 (length ds) && leb (digits_value 10 ds) 999999999999999) p.0 in
    let r = and_parts (ltb 0 (length ds)) (leb (digits_value 10 ds) 999999999999999) q.1 in
    record { digits = q.0; some = ltb-true 0 (length ds) r.0; value = p.1; small = subst (λ m. m ≤ 999999999999999) p.1 (leb-true _ _ r.1) }

-- digits without leading zeros are the decimals of their number
decimal_again : (ds : List ℕ) (n : ℕ) → Stands ds n → (get_or ds 0 0 ≡ 48 → length ds ≡ 1) → decimal n ≡ ds
decimal_again ds n s lead = ap decimal (sym s.value) ∙ decimal-digits_value own ds s.digits s.some lead (omega (arith, s.value, s.small))

two_quotes : (c d : ℕ) (cs s t : List ℕ) → c ≡ 34 → d ≡ 34 → cs ≡ with_doubled_quotes s ++ 34 ∷ [] → 34 ∷ s ≡ t → c ∷ d ∷ cs ≡ with_doubled_quotes t ++ 34 ∷ []
two_quotes c d cs s t quote again rest whole =
    ap (λ k. k ∷ d ∷ cs) quote ∙ ap (λ k. 34 ∷ k ∷ cs) again ∙ ap (λ k. 34 ∷ 34 ∷ k) rest ∙ ap (λ u. with_doubled_quotes u ++ 34 ∷ []) whole

other_byte : (c : ℕ) (cs s t : List ℕ) → eqb c 34 ≡ false → cs ≡ with_doubled_quotes s ++ 34 ∷ [] → c ∷ s ≡ t → c ∷ cs ≡ with_doubled_quotes t ++ 34 ∷ []
other_byte c cs s t other rest whole =
    let itself : byte_within c ≡ c ∷ [] = ap (λ b. cond b (34 ∷ 34 ∷ []) (c ∷ [])) other in
    ap (λ k. c ∷ k) rest ∙ ap (λ p. (p ++ with_doubled_quotes s) ++ 34 ∷ []) (sym itself) ∙ ap (λ u. with_doubled_quotes u ++ 34 ∷ []) whole

undoubled_is : (w t : List ℕ) → before_closing_quote w ≡ Some t → w ≡ with_doubled_quotes t ++ 34 ∷ []
undoubled_is [] t e = absurd (cc)
undoubled_is (c ∷ []) t e =
    let p = cond_some (eqb c 34) [] t e in
    ap (λ k. k ∷ []) (eqb-true c 34 p.0) ∙ ap (λ u. with_doubled_quotes u ++ 34 ∷ []) p.1
undoubled_is (c ∷ d ∷ cs) t e =
    elim (choice (eqb c 34) (cond (eqb d 34) (option_map (λ u. 34 ∷ u) (before_closing_quote cs)) None) (option_map (λ u. c ∷ u) (before_closing_quote (d ∷ cs))) (Some t) e) [
      | inl h ↦ elim (choice (eqb d 34) (option_map (λ u. 34 ∷ u) (before_closing_quote cs)) None (Some t) h.1) [
        | inl k ↦ (let m = mapped (λ u. 34 ∷ u) (before_closing_quote cs) t k.1 in
            two_quotes c d cs m.0 t (eqb-true c 34 h.0) (eqb-true d 34 k.0) (undoubled_is cs m.0 m.1) m.2)
        | inr k ↦ absurd (none_is_no_some t k.1)
      ]
      | inr h ↦ (let m = mapped (λ u. c ∷ u) (before_closing_quote (d ∷ cs)) t h.1 in
          other_byte c (d ∷ cs) m.0 t h.0 (undoubled_is (d ∷ cs) m.0 m.1) m.2)
    ]

quoted_again : (w t : List ℕ) → text_word w ≡ Some t → (w ≡ quotation_of t) × (is_text t ≡ true)
quoted_again [] t e = absurd (cc)
quoted_again (c ∷ cs) t e =
    elim (choice (eqb c 34) (option_and_then text_of_bytes (before_closing_quote cs)) None (Some t) e) [
      | inl h ↦ option_and_then_some {P = (c ∷ cs ≡ quotation_of t) × (is_text t ≡ true)} text_of_bytes (before_closing_quote cs) t h.1
          (λ x read valid. let p = cond_some (is_text x) x t valid in
          (ap (λ k. k ∷ cs) (eqb-true c 34 h.0) ∙ ap (λ k. 34 ∷ k) (undoubled_is cs x read) ∙ ap quotation_of p.1, subst (λ k. is_text k ≡ true) p.1 p.0))
      | inr h ↦ absurd (none_is_no_some t h.1)
    ]

negative_again : (n : ℕ) (ds : List ℕ) (z : ℤ) → decimal n ≡ ds → begins_with_zero ds ≡ false → below_zero n ≡ z → n ≤ 999999999999999 → (45 ∷ ds ≡ signed_decimal z) × (unsigned_abs z ≤ 999999999999999)
negative_again zero ds z e test whole small =
    let zero_first : begins_with_zero ds ≡ true = ap begins_with_zero (sym e ∙ decimal_digit 0 (lit< tt)) in
    absurd (cc)
negative_again (suc m) ds z e test whole small =
    (ap (λ k. 45 ∷ k) (sym e) ∙ ap signed_decimal whole, subst (λ k. unsigned_abs k ≤ 999999999999999) whole small)

zero_alone : (c m : ℕ) → (eqb c 48 && ltb 0 m) ≡ false → c ≡ 48 → suc m ≡ 1
zero_alone c m test zero_first = grind (arith, nat_tests)

no_zero_first : (c : ℕ) (P : Type 0) → eqb c 48 ≡ false → c ≡ 48 → P
no_zero_first c P test zero_first = absurd (let e : eqb c 48 ≡ true = ap (λ k. eqb k 48) zero_first in cc)

number_again : (w : List ℕ) (z : ℤ) → number_word w ≡ Some z → (w ≡ signed_decimal z) × (unsigned_abs z ≤ 999999999999999)
number_again [] z e = absurd (cc)
number_again (c ∷ ds) z e =
    let below = option_map below_zero (whole_number ds) in
    let above = option_map (λ n. pos n) (whole_number (c ∷ ds)) in
    elim (choice (eqb c 45) (cond (begins_with_zero ds) None below) (cond (eqb c 48 && ltb 0 (length ds)) None above) (Some z) e) [
      | inl h ↦ elim (choice (begins_with_zero ds) None below (Some z) h.1) [
        | inl k ↦ absurd (none_is_no_some z k.1)
        | inr k ↦ (let m = mapped below_zero (whole_number ds) z k.1 in
            let s = stands ds m.0 m.1 in
            let p = negative_again m.0 ds z (decimal_again ds m.0 s (no_zero_first (get_or ds 0 0) _ k.0)) k.0 m.2 s.small in
            (ap (λ k. k ∷ ds) (eqb-true c 45 h.0) ∙ p.0, p.1))
      ]
      | inr h ↦ elim (choice (eqb c 48 && ltb 0 (length ds)) None above (Some z) h.1) [
        | inl k ↦ absurd (none_is_no_some z k.1)
        | inr k ↦ (let m = mapped (λ n. pos n) (whole_number (c ∷ ds)) z k.1 in
            let s = stands (c ∷ ds) m.0 m.1 in
            (sym (decimal_again (c ∷ ds) m.0 s (zero_alone c (length ds) k.0)) ∙ ap signed_decimal m.2, subst (λ k. unsigned_abs k ≤ 999999999999999) m.2 s.small))
      ]
    ]

bool_again : (w : List ℕ) (b : Bool) → bool_word w ≡ Some b → w ≡ value_text (values.Bool b)
bool_again w b e =
    elim (choice (bytes_eq w (codes "TRUE")) (Some true) (cond (bytes_eq w (codes "FALSE")) (Some false) None) (Some b) e) [
      | inl h ↦ (bytes_eq-Decides w (codes "TRUE")).0 h.0 ∙ ap (λ k. value_text (values.Bool k)) (some_same true b h.1)
      | inr h ↦ (let p = cond_some (bytes_eq w (codes "FALSE")) false b h.1 in
          (bytes_eq-Decides w (codes "FALSE")).0 p.0 ∙ ap (λ k. value_text (values.Bool k)) p.1)
    ]

kind_again : (w : List ℕ) (e : ErrorKind) → kind_of_word w ≡ Some e → w ≡ error_word e
kind_again w e h =
    (bytes_eq-Decides w (error_word e)).0
    (found_passes (λ k. bytes_eq w (error_word k)) (errors.Null ∷ errors.Div0 ∷ errors.Value ∷ errors.Ref ∷ errors.Name ∷ errors.Num ∷ errors.Na ∷ []) e h)

-- what is read as a value is that value's word
pub value_text_again : (w : List ℕ) (v : Value) → value_of_word w ≡ Some v → (w ≡ value_text v) × HasWord v
value_text_again w v e =
    let texts = option_map values.Text (text_word w) in
    let kinds = option_map values.Error (kind_of_word w) in
    let truths = option_map values.Bool (bool_word w) in
    elim (either (option_map values.Num (number_word w)) (option_or truths (option_or kinds texts)) v e) [
      | inl h ↦ (let m = mapped values.Num (number_word w) v h in
          let p = number_again w m.0 m.1 in
          (p.0 ∙ ap value_text m.2, subst HasWord m.2 p.1))
      | inr g ↦ elim (either truths (option_or kinds texts) v g) [
        | inl h ↦ (let m = mapped values.Bool (bool_word w) v h in
            (bool_again w m.0 m.1 ∙ ap value_text m.2, subst HasWord m.2 tt))
        | inr f ↦ elim (either kinds texts v f) [
          | inl h ↦ (let m = mapped values.Error (kind_of_word w) v h in
              (kind_again w m.0 m.1 ∙ ap value_text m.2, subst HasWord m.2 tt))
          | inr h ↦ (let m = mapped values.Text (text_word w) v h in
              let p = quoted_again w m.0 m.1 in
              (p.0 ∙ ap value_text m.2, subst HasWord m.2 p.1))
        ]
      ]
    ]

-- Laws of the functions on texts.
use Rattle.std.proofs.Common.{◌≡◌, ◌⊎◌, inl, inr, ℕ, zero, suc, ◌+◌, ◌-◌, ◌<◌, ◌≤◌, Bool, ◌&&◌, cond, leb, true, false, pos, List, [], ◌∷◌, ◌++◌, length, take, drop, Option, Some, None, refl, sym, ap, ◌∙◌, subst, add-one, append_assoc, arith}
use Rattle.std.proofs.lemmas.Bool.{cases_eq, le-leb}
use Rattle.std.proofs.lemmas.Bool.Decides.{Decides-eqb, nat_tests}
use Rattle.std.proofs.lemmas.List.{length-take, length-drop, length-append, take_all, drop_at}
use Rattle.std.proofs.lemmas.Slice.Eq.{starts_is}
use Rattle.std.proofs.lemmas.Str.{chars-encodes, encodes-chars, cons_from_encodes, scalars-chars}
use Rattle.std.specs.List.{find, range_with_len}
use Rattle.std.specs.Option.{option_map_or}
use Rattle.std.specs.Str.{IsUtf8, chars}
use lib.Utf8.{encode, encodes, scalar, scalars}
use Rattle.cell_values.specs.Coercion.{join_of, text_join_of}
use Rattle.cell_values.specs.Digits.{after_spaces}
use Rattle.cell_values.specs.Text.{is_text, if_short}
use Rattle.cell_values.specs.declared.errors.ErrorKind.TheVariants as errors
use Rattle.cell_values.specs.declared.values.Value.TheVariants as values
use Rattle.functions.specs.TextLaws.{StandsIn, IsLeastPlace}
use Rattle.functions.specs.Texts.{first_characters, without_first, mid_part, single_spacing_of, before_spaces, stands_behind, offset_of, find_place}
use Rattle.functions.proofs.CharacterFacts.{cut}
use Rattle.functions.proofs.FindFacts.{true_or_false}
use Rattle.functions.proofs.PlainFacts.{plain_parts, plain_drop}
use Rattle.functions.proofs.TrimFacts.{inner, start_other, after_other_space, inner_other, inner_space_other, two_spaces, tidied_plain}

-- the front and the rest

if_short_is : (t : List ℕ) → length (chars t) ≤ 32767 → if_short t ≡ Some t
if_short_is t few = ap (λ b. cond b (Some t) None) (le-leb (length (chars t)) 32767 few)

rest_is : (t : List ℕ) (n k : ℕ) → is_text t ≡ true → length (chars t) ≤ n + k → first_characters k (without_first n t) ≡ without_first n t
rest_is t n k e far =
    let p = plain_parts t e in
    let same : chars (without_first n t) ≡ drop n (chars t) = chars-encodes (drop n (chars t)) (plain_drop n (chars t) p.plain).scalar in
    ap encodes (ap (take k) same ∙ take_all k (drop n (chars t)) (omega (arith, length-drop n (chars t))))

pub join_law : (t : List ℕ) (n k : ℕ) → is_text t ≡ true → length (chars t) ≤ n + k → join_of (values.Text (first_characters n t)) (mid_part t (pos (n + 1)) (pos k)) ≡ values.Text t
join_law t n k e far =
    let p = plain_parts t e in
    ap (λ m. join_of (values.Text (first_characters n t)) (mid_part t (pos m) (pos k))) (add-one n) ∙
    (ap (text_join_of (first_characters n t)) (rest_is t n k e far) ∙
    (ap (λ s. option_map_or values.Text (if_short s) (values.Error errors.Value)) (sym (cut n t p.utf8)) ∙
    ap (λ o. option_map_or values.Text o (values.Error errors.Value)) (if_short_is t p.few)))

-- what is tidied stays

inner_last : (c : ℕ) → (c ≡ 32) ⊎ (c ≡ 32 → ⊥) → inner (inner (c ∷ [])) ≡ inner (c ∷ [])
inner_last c (inl is) = subst (λ (k : ℕ). inner (inner (k ∷ [])) ≡ inner (k ∷ [])) (sym is) refl
inner_last c (inr other) = ap inner (inner_other c [] other)

inner_more : (c d : ℕ) (cs : List ℕ) → (c ≡ 32) ⊎ (c ≡ 32 → ⊥) → (d ≡ 32) ⊎ (d ≡ 32 → ⊥) → inner (inner (d ∷ cs)) ≡ inner (d ∷ cs) → inner (inner cs) ≡ inner cs →
    inner (inner (c ∷ d ∷ cs)) ≡ inner (c ∷ d ∷ cs)
inner_more c d cs (inr other) test rest later =
    ap inner (inner_other c (d ∷ cs) other) ∙ (inner_other c (inner (d ∷ cs)) other ∙ (ap (λ t. c ∷ t) rest ∙ sym (inner_other c (d ∷ cs) other)))
inner_more c d cs (inl is) (inl was) rest later =
    let two : inner (32 ∷ 32 ∷ cs) ≡ inner (32 ∷ cs) = two_spaces (before_spaces cs) in
    let one : inner (inner (32 ∷ cs)) ≡ inner (32 ∷ cs) = subst (λ (k : ℕ). inner (inner (k ∷ cs)) ≡ inner (k ∷ cs)) was rest in
    subst (λ (k : ℕ). inner (inner (k ∷ d ∷ cs)) ≡ inner (k ∷ d ∷ cs)) (sym is)
    (subst (λ (k : ℕ). inner (inner (32 ∷ k ∷ cs)) ≡ inner (32 ∷ k ∷ cs)) (sym was) (ap inner two ∙ (one ∙ sym two)))
inner_more c d cs (inl is) (inr other) rest later =
    subst (λ (k : ℕ). inner (inner (k ∷ d ∷ cs)) ≡ inner (k ∷ d ∷ cs)) (sym is)
    (ap inner (inner_space_other d cs other) ∙ (inner_space_other d (inner cs) other ∙ (ap (λ t. 32 ∷ d ∷ t) later ∙ sym (inner_space_other d cs other))))

inner_again : (cs : List ℕ) → inner (inner cs) ≡ inner cs
inner_again [] = refl
inner_again (c ∷ []) = inner_last c (cases_eq c 32)
inner_again (c ∷ d ∷ cs) = inner_more c d cs (cases_eq c 32) (cases_eq d 32) (inner_again (d ∷ cs)) (inner_again cs)

front_stays : (c : ℕ) (cs : List ℕ) → (c ≡ 32) ⊎ (c ≡ 32 → ⊥) → after_spaces (single_spacing_of cs) ≡ single_spacing_of cs → after_spaces (single_spacing_of (c ∷ cs)) ≡ single_spacing_of (c ∷ cs)
front_stays c cs (inl is) rest = subst (λ (k : ℕ). after_spaces (single_spacing_of (k ∷ cs)) ≡ single_spacing_of (k ∷ cs)) (sym is) rest
front_stays c cs (inr other) rest =
    let start : single_spacing_of (c ∷ cs) ≡ c ∷ inner cs = start_other c cs other in
    ap after_spaces start ∙ (after_other_space c (inner cs) other ∙ sym start)

after_again : (cs : List ℕ) → after_spaces (single_spacing_of cs) ≡ single_spacing_of cs
after_again [] = refl
after_again (c ∷ cs) = front_stays c cs (cases_eq c 32) (after_again cs)

tidied_again : (cs : List ℕ) → single_spacing_of (single_spacing_of cs) ≡ single_spacing_of cs
tidied_again cs = ap inner (after_again cs) ∙ inner_again (after_spaces cs)

pub trim_law : (t : List ℕ) → is_text t ≡ true → values.Text (encodes (single_spacing_of (chars (encodes (single_spacing_of (chars t)))))) ≡ values.Text (encodes (single_spacing_of (chars t)))
trim_law t e = ap (λ cs. values.Text (encodes cs)) (ap single_spacing_of (chars-encodes (single_spacing_of (chars t)) (tidied_plain t e).scalar) ∙ tidied_again (chars t))

-- places

scalar_front : (a b : Bool) → a && b ≡ true → (a ≡ true) × (b ≡ true)
scalar_front true true e = (refl, refl)
scalar_front true false e = absurd (cc)
scalar_front false b e = absurd (cc)

scalars_take : (n : ℕ) (cs : List ℕ) → scalars cs ≡ true → scalars (take n cs) ≡ true
scalars_take zero cs e = refl
scalars_take (suc n) [] e = refl
scalars_take (suc n) (c ∷ cs) e =
    let both = scalar_front (scalar c) (scalars cs) e in
    ap (λ b. b && scalars (take n cs)) both.0 ∙ scalars_take n cs both.1

stands_to : (p t : List ℕ) (n : ℕ) → IsUtf8 t → n ≤ length (chars t) → stands_behind p t n ≡ true → StandsIn p t (n + 1)
stands_to p t n utf8 within is =
    let rest = without_first n t in
    let split : rest ≡ p ++ drop (length p) rest = (starts_is Decides-eqb rest p (stands_behind p t n) refl).0 is in
    let front_scalar : scalars (take n (chars t)) ≡ true = scalars_take n (chars t) (scalars-chars t utf8) in
    let count : length (chars (first_characters n t)) ≡ length (take n (chars t)) = ap length (chars-encodes (take n (chars t)) front_scalar) in (
      first_characters n t,
      drop (length p) rest,
      (take n (chars t), (front_scalar, refl)),
      cut n t utf8 ∙ ap (λ s. first_characters n t ++ s) split,
      omega (arith, count, length-take n (chars t)),
    )

rest_of : (fs cs : List ℕ) (rest : List ℕ) → encodes cs ≡ encodes fs ++ rest → (es : List ℕ) × ((cs ≡ fs ++ es) × (encodes es ≡ rest))
rest_of [] cs rest e = (cs, (refl, e))
rest_of (f ∷ fs) cs rest e =
    let one = cons_from_encodes cs (encodes fs ++ rest) f (e ∙ append_assoc (encode f) (encodes fs) rest) in
    let more = rest_of fs one.0 rest one.2 in
    (more.0, (one.1 ∙ ap (λ s. f ∷ s) more.1.0, more.1.1))

-- where a text stands, the test says so
pub record Stands (p t : List ℕ) (n : ℕ) : Type 0 where
  pub within : n ≤ length (chars t)
  pub is : stands_behind p t n ≡ true

stands_from : (p t : List ℕ) (place : ℕ) → IsUtf8 t → StandsIn p t place → Stands p t (place - 1)
stands_from p t place utf8 (front, back, front_utf8, split, count) =
    let n : length (chars front) ≡ place - 1 = omega arith in
    let both : encodes (chars t) ≡ encodes (chars front) ++ (p ++ back) = encodes-chars t utf8 ∙ (split ∙ ap (λ s. s ++ (p ++ back)) (sym (encodes-chars front front_utf8))) in
    let rest = rest_of (chars front) (chars t) (p ++ back) both in
    let longer : length (chars t) ≡ length (chars front) + length rest.0 = ap length rest.1.0 ∙ length-append (chars front) rest.0 in
    let here : without_first (place - 1) t ≡ p ++ back =
    ap (λ cs. encodes (drop (place - 1) cs)) rest.1.0 ∙ (ap encodes (drop_at (chars front) rest.0 (place - 1) n) ∙ rest.1.1) in
    record {
      within = omega (arith, n, longer);
      is = (starts_is Decides-eqb (without_first (place - 1) t) p (stands_behind p t (place - 1)) refl).1 back here;
    }

-- what the first place that passes a test says
pub record First (f : ℕ → Bool) (a n k : ℕ) : Type 0 where
  pub low : a ≤ k
  pub high : k < a + n
  pub is : f k ≡ true
  pub none : (j : ℕ) → a ≤ j → j < k → f j ≡ false

some_same : {a k : ℕ} → Some a ≡ Some k → a ≡ k
some_same e = cc

later : (f : ℕ → Bool) (a k j : ℕ) → (j ≡ a) ⊎ (j ≡ a → ⊥) → f a ≡ false → a ≤ j → j < k → ((i : ℕ) → a + 1 ≤ i → i < k → f i ≡ false) → f j ≡ false
later f a k j (inl same) e low high none = ap f same ∙ e
later f a k j (inr other) e low high none = none j (omega (arith, other)) high

first_step : (f : ℕ → Bool) (a n k : ℕ) (b : Bool) → f a ≡ b → cond b (Some a) (find f (range_with_len (a + 1) n)) ≡ Some k → (find f (range_with_len (a + 1) n) ≡ Some k → First f (a + 1) n k) → First f a (suc n) k
first_step f a n k true e is rest =
    let same : a ≡ k = some_same is in
    record { low = omega arith; high = omega arith; is = subst (λ (i : ℕ). f i ≡ true) same e; none = λ j p q. absurd (omega arith) }
first_step f a n k false e is rest =
    let r = rest is in
    let low : a + 1 ≤ k = r.low in
    let high : k < (a + 1) + n = r.high in
    record { low = omega arith; high = omega arith; is = r.is; none = λ j p q. later f a k j (cases_eq j a) e p q r.none }

first_of : (f : ℕ → Bool) (a n k : ℕ) → find f (range_with_len a n) ≡ Some k → First f a n k
first_of f a zero k is = absurd (cc)
first_of f a (suc n) k is = first_step f a n k (f a) refl is (first_of f (a + 1) n k)

none_step : (f : ℕ → Bool) (a n j : ℕ) (b : Bool) → f a ≡ b → cond b (Some a) (find f (range_with_len (a + 1) n)) ≡ None → (j ≡ a) ⊎ (j ≡ a → ⊥) → (find f (range_with_len (a + 1) n) ≡ None → a + 1 ≤ j → f j ≡ false) → a ≤ j → f j ≡ false
none_step f a n j true e is test rest low = absurd (cc)
none_step f a n j false e is (inl same) rest low = ap f same ∙ e
none_step f a n j false e is (inr other) rest low = rest is (omega (arith, other))

none_of : (f : ℕ → Bool) (a n : ℕ) → find f (range_with_len a n) ≡ None → (j : ℕ) → a ≤ j → j < a + n → f j ≡ false
none_of f a zero is j low high = absurd (omega arith)
none_of f a (suc n) is j low high = none_step f a n j (f a) refl is (cases_eq j a) (λ e l. none_of f (a + 1) n e j l (omega arith)) low

place_found : (o : Option ℕ) (place : ℕ) → option_map_or (λ (i : ℕ). values.Num (pos (i + 1))) o (values.Error errors.Value) ≡ values.Num (pos place) → (i : ℕ) × ((o ≡ Some i) × (i + 1 ≡ place))
place_found (Some i) place e = (i, (refl, cc))
place_found None place e = absurd (cc)

nothing_found : (o : Option ℕ) → option_map_or (λ (i : ℕ). values.Num (pos (i + 1))) o (values.Error errors.Value) ≡ values.Error errors.Value → o ≡ None
nothing_found (Some i) e = absurd (cc)
nothing_found None e = refl

pub least_law : (p t : List ℕ) (n place : ℕ) → is_text t ≡ true → find_place p t (pos n) ≡ values.Num (pos place) → IsLeastPlace p t n place
least_law p t zero place e is = absurd (cc)
least_law p t (suc n) place e is =
    let utf8 = (plain_parts t e).utf8 in
    let at = place_found (offset_of p t n) place is in
    let first = first_of (stands_behind p t) n (length (chars t) + 1 - n) at.0 at.1.0 in
    let same : at.0 + 1 ≡ place = at.1.1 in
    let low : n ≤ at.0 = first.low in
    let high : at.0 < n + (length (chars t) + 1 - n) = first.high in (
      omega arith,
      subst (λ (k : ℕ). StandsIn p t k) same (stands_to p t at.0 utf8 (omega arith) first.is),
      λ k from below stands.
          let s = stands_from p t k utf8 stands in
          true_or_false (stands_behind p t (k - 1)) s.is (first.none (k - 1) (omega arith) (omega arith)),
    )

pub none_law : (p t : List ℕ) (n place : ℕ) → is_text t ≡ true → 0 < n → find_place p t (pos n) ≡ values.Error errors.Value → n ≤ place → StandsIn p t place → ⊥
none_law p t zero place e some is from stands = absurd (omega arith)
none_law p t (suc n) place e some is from stands =
    let s = stands_from p t place (plain_parts t e).utf8 stands in
    let within : place - 1 ≤ length (chars t) = s.within in
    true_or_false (stands_behind p t (place - 1)) s.is
    (none_of (stands_behind p t) n (length (chars t) + 1 - n) (nothing_found (offset_of p t n) is) (place - 1) (omega arith) (omega arith))

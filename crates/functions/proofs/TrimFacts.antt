-- A text tidied character by character.
use Rattle.std.proofs.Common.{◌≡◌, ◌≢◌, ℕ, ◌-◌, ◌<◌, ◌≤◌, Bool, cond, eqb, true, false, not, ◌&&◌, List, [], ◌∷◌, ◌++◌, length, refl, sym, ap, ◌∙◌, append_assoc, arith}
use Rattle.std.proofs.lemmas.Bool.Decides.{nat_tests}
use Rattle.std.proofs.lemmas.List.{append-nil, length-append, nil_from_length}
use Rattle.std.proofs.lemmas.Str.{chars-nil, chars_past_char, length-encode, len_utf8_bounds, encode_ascii}
use Rattle.std.specs.Str.{IsUtf8, chars}
use lib.Utf8.{encode, encodes}
use Rattle.cell_values.specs.Digits.{after_spaces}
use Rattle.cell_values.specs.Text.{is_text}
use Rattle.functions.proofs.PlainFacts.{Plain, plain_parts, text_of_plain, plain_nil, plain_head, plain_cons}
use Rattle.functions.specs.TextSteps.{character_behind_space}
use Rattle.functions.specs.Texts.{is_empty, before_spaces, with_single_spaces, single_spacing_of}

-- what stays of the characters after one that is no space
abbrev pub inner : List ℕ → List ℕ
inner cs = with_single_spaces (before_spaces cs)

-- what is still to come behind the bytes that are written, where a space is wanted or not
abbrev pub to_come : List ℕ → Bool → List ℕ → List ℕ
to_come [] wanted cs = single_spacing_of cs
to_come (b ∷ bs) true cs = inner (32 ∷ cs)
to_come (b ∷ bs) false cs = inner cs

not_zero : (n : ℕ) → 0 < n → eqb n 0 ≡ false
not_zero n h = grind (arith, nat_tests)

not_space : (c : ℕ) → c ≢ 32 → eqb c 32 ≡ false
not_space c ne = grind (arith, nat_tests)

single_after : (a : Bool) (c : ℕ) (xs : List ℕ) → a ≡ false → cond a (with_single_spaces xs) (c ∷ with_single_spaces xs) ≡ c ∷ with_single_spaces xs
single_after a c xs e = ap (λ b. cond b (with_single_spaces xs) (c ∷ with_single_spaces xs)) e

single_other : (c : ℕ) (xs : List ℕ) → c ≢ 32 → with_single_spaces (c ∷ xs) ≡ c ∷ with_single_spaces xs
single_other c [] ne = refl
single_other c (d ∷ ds) ne = single_after (eqb c 32 && eqb d 32) c (d ∷ ds) (ap (λ b. b && eqb d 32) (not_space c ne))

single_before : (c : ℕ) (xs : List ℕ) → c ≢ 32 → with_single_spaces (32 ∷ c ∷ xs) ≡ 32 ∷ c ∷ with_single_spaces xs
single_before c xs ne = single_after (eqb c 32) 32 (c ∷ xs) (not_space c ne) ∙ ap (λ t. 32 ∷ t) (single_other c xs ne)

before_other : (c : ℕ) (cs : List ℕ) → c ≢ 32 → before_spaces (c ∷ cs) ≡ c ∷ before_spaces cs
before_other c cs ne = ap (λ b. cond (b && is_empty (before_spaces cs)) [] (c ∷ before_spaces cs)) (not_space c ne)

-- a space before what stays
abbrev behind_space : List ℕ → List ℕ
behind_space ys = cond (is_empty ys) [] (32 ∷ ys)

pub inner_other : (c : ℕ) (cs : List ℕ) → c ≢ 32 → inner (c ∷ cs) ≡ c ∷ inner cs
inner_other c cs ne = ap with_single_spaces (before_other c cs ne) ∙ single_other c (before_spaces cs) ne

pub inner_space_other : (c : ℕ) (cs : List ℕ) → c ≢ 32 → inner (32 ∷ c ∷ cs) ≡ 32 ∷ c ∷ inner cs
inner_space_other c cs ne = ap (λ ys. with_single_spaces (behind_space ys)) (before_other c cs ne) ∙ single_before c (before_spaces cs) ne

pub two_spaces : (ys : List ℕ) → with_single_spaces (behind_space (behind_space ys)) ≡ with_single_spaces (behind_space ys)
two_spaces [] = refl
two_spaces (y ∷ ys) = refl

pub start_other : (c : ℕ) (cs : List ℕ) → c ≢ 32 → single_spacing_of (c ∷ cs) ≡ c ∷ inner cs
start_other c cs ne = ap inner (ap (λ b. cond b (after_spaces cs) (c ∷ cs)) (not_space c ne)) ∙ inner_other c cs ne

pub after_other_space : (c : ℕ) (cs : List ℕ) → c ≢ 32 → after_spaces (c ∷ cs) ≡ c ∷ cs
after_other_space c cs ne = ap (λ b. cond b (after_spaces cs) (c ∷ cs)) (not_space c ne)

-- a space is wanted only behind something
abbrev pub space_wanted : List ℕ → Bool
space_wanted bytes = not (eqb (length bytes) 0)

wanted_behind : (b : ℕ) (bs : List ℕ) → space_wanted (b ∷ bs) ≡ true
wanted_behind b bs = ap not (not_zero (length (b ∷ bs)) (omega arith))

after_space : (bytes : List ℕ) (wanted : Bool) (cs : List ℕ) → to_come bytes wanted (32 ∷ cs) ≡ to_come bytes (space_wanted bytes) cs
after_space [] wanted cs = refl
after_space (b ∷ bs) true cs = two_spaces (before_spaces cs) ∙ ap (λ w. to_come (b ∷ bs) w cs) (sym (wanted_behind b bs))
after_space (b ∷ bs) false cs = ap (λ w. to_come (b ∷ bs) w cs) (sym (wanted_behind b bs))

to_come_some : (bytes : List ℕ) (cs : List ℕ) → 0 < length bytes → to_come bytes false cs ≡ inner cs
to_come_some [] cs h = absurd (omega arith)
to_come_some (b ∷ bs) cs h = refl

after_other : (bytes : List ℕ) (wanted : Bool) (c : ℕ) (cs : List ℕ) → c ≢ 32 → (wanted ≡ true → 0 < length bytes) →
    encodes (to_come bytes wanted (c ∷ cs)) ≡ character_behind_space wanted c ++ encodes (inner cs)
after_other [] true c cs ne some = absurd (omega (arith, some refl))
after_other [] false c cs ne some = ap encodes (start_other c cs ne)
after_other (b ∷ bs) true c cs ne some = ap encodes (inner_space_other c cs ne) ∙ ap (λ t. t ++ (encode c ++ encodes (inner cs))) (encode_ascii 32 (omega arith))
after_other (b ∷ bs) false c cs ne some = ap encodes (inner_other c cs ne)

-- a step over a space
pub space_step : (bytes : List ℕ) (wanted now : Bool) (rest tail whole : List ℕ) → IsUtf8 rest → rest ≡ encode 32 ++ tail → now ≡ space_wanted bytes →
    bytes ++ encodes (to_come bytes wanted (chars rest)) ≡ whole → bytes ++ encodes (to_come bytes now (chars tail)) ≡ whole
space_step bytes wanted now rest tail whole utf8 e is h =
    let step : to_come bytes wanted (chars rest) ≡ to_come bytes now (chars tail) =
    ap (to_come bytes wanted) (chars_past_char rest tail 32 utf8 e) ∙ (after_space bytes wanted (chars tail) ∙ ap (λ w. to_come bytes w (chars tail)) (sym is)) in
    sym (ap (λ t. bytes ++ encodes t) step) ∙ h

spaced_some : (wanted : Bool) (c : ℕ) → 0 < length (character_behind_space wanted c)
spaced_some true c = omega arith
spaced_some false c = let some = (len_utf8_bounds c).0 in omega (arith, length-encode c)

-- a step over another character
pub other_step : (bytes new : List ℕ) (wanted : Bool) (rest tail whole : List ℕ) (c : ℕ) → c ≢ 32 → IsUtf8 rest → rest ≡ encode c ++ tail → (wanted ≡ true → 0 < length bytes) → new ≡ bytes ++ character_behind_space wanted c →
    bytes ++ encodes (to_come bytes wanted (chars rest)) ≡ whole → new ++ encodes (to_come new false (chars tail)) ≡ whole
other_step bytes new wanted rest tail whole c ne utf8 e some grown h =
    let longer : 0 < length new = let more = spaced_some wanted c in omega (arith, ap length grown, length-append bytes (character_behind_space wanted c)) in
    let step : encodes (to_come bytes wanted (chars rest)) ≡ character_behind_space wanted c ++ encodes (inner (chars tail)) =
    ap (λ cs. encodes (to_come bytes wanted cs)) (chars_past_char rest tail c utf8 e) ∙ after_other bytes wanted c (chars tail) ne some in
    ap (λ cs. new ++ encodes cs) (to_come_some new (chars tail) longer) ∙
    (ap (λ t. t ++ encodes (inner (chars tail))) grown ∙ (append_assoc bytes (character_behind_space wanted c) (encodes (inner (chars tail))) ∙ (sym (ap (λ t. bytes ++ t) step) ∙ h)))

nothing_to_come : (bytes : List ℕ) (wanted : Bool) → to_come bytes wanted [] ≡ []
nothing_to_come [] wanted = refl
nothing_to_come (b ∷ bs) true = refl
nothing_to_come (b ∷ bs) false = refl

-- no character is left
pub end_step : (bytes : List ℕ) (wanted : Bool) (rest whole : List ℕ) → length rest ≡ 0 →
    bytes ++ encodes (to_come bytes wanted (chars rest)) ≡ whole → bytes ≡ whole
end_step bytes wanted rest whole none h =
    let empty : chars rest ≡ [] = ap chars (nil_from_length rest none) ∙ chars-nil in
    sym (append-nil bytes) ∙ (sym (ap (λ cs. bytes ++ encodes cs) (ap (to_come bytes wanted) empty ∙ nothing_to_come bytes wanted)) ∙ h)

-- plain characters, and no more than so many
pub record Tame (n : ℕ) (cs : List ℕ) : Type 0 where
  pub plain : Plain cs
  pub few : length cs ≤ n

tame_choice : (n : ℕ) (b : Bool) (xs ys : List ℕ) → Tame n xs → Tame n ys → Tame n (cond b xs ys)
tame_choice n true xs ys p q = p
tame_choice n false xs ys p q = q

tame_nil : (n : ℕ) → Tame n []
tame_nil n = record { plain = plain_nil; few = omega arith }

tame_tail : (n : ℕ) (c : ℕ) (cs : List ℕ) → Tame n (c ∷ cs) → Tame (n - 1) cs
tame_tail n c cs t = let few : length (c ∷ cs) ≤ n = t.few in record { plain = (plain_head c cs t.plain).rest; few = omega arith }

tame_more : (n : ℕ) (cs : List ℕ) → Tame (n - 1) cs → Tame n cs
tame_more n cs t = let few : length cs ≤ n - 1 = t.few in record { plain = t.plain; few = omega arith }

tame_cons : (n : ℕ) (c : ℕ) (cs ds : List ℕ) → Tame n (c ∷ cs) → Tame (n - 1) ds → Tame n (c ∷ ds)
tame_cons n c cs ds t u =
    let h = plain_head c cs t.plain in
    let some : length (c ∷ cs) ≤ n = t.few in
    let few : length ds ≤ n - 1 = u.few in
    record { plain = plain_cons c ds h.scalar h.none u.plain; few = omega arith }

tame_before : (n : ℕ) (cs : List ℕ) → Tame n cs → Tame n (before_spaces cs)
tame_before n [] t = t
tame_before n (c ∷ cs) t =
    tame_choice n (eqb c 32 && is_empty (before_spaces cs)) [] (c ∷ before_spaces cs) (tame_nil n) (tame_cons n c cs (before_spaces cs) t (tame_before (n - 1) cs (tame_tail n c cs t)))

tame_after : (n : ℕ) (cs : List ℕ) → Tame n cs → Tame n (after_spaces cs)
tame_after n [] t = t
tame_after n (c ∷ cs) t = tame_choice n (eqb c 32) (after_spaces cs) (c ∷ cs) (tame_more n (after_spaces cs) (tame_after (n - 1) cs (tame_tail n c cs t))) t

tame_single : (n : ℕ) (cs : List ℕ) → Tame n cs → Tame n (with_single_spaces cs)
tame_single n [] t = t
tame_single n (c ∷ []) t = t
tame_single n (c ∷ d ∷ cs) t =
    let rest = tame_single (n - 1) (d ∷ cs) (tame_tail n c (d ∷ cs) t) in
    tame_choice n (eqb c 32 && eqb d 32) (with_single_spaces (d ∷ cs)) (c ∷ with_single_spaces (d ∷ cs)) (tame_more n (with_single_spaces (d ∷ cs)) rest) (tame_cons n c (d ∷ cs) (with_single_spaces (d ∷ cs)) t rest)

pub tidied_plain : (t : List ℕ) → is_text t ≡ true → Plain (single_spacing_of (chars t))
tidied_plain t e =
    let p = plain_parts t e in
    (tame_single 32767 (before_spaces (after_spaces (chars t))) (tame_before 32767 (after_spaces (chars t)) (tame_after 32767 (chars t) (record { plain = p.plain; few = p.few })))).plain

-- a tidied text is a text
pub tidied_is_text : (t : List ℕ) → is_text t ≡ true → is_text (encodes (single_spacing_of (chars t))) ≡ true
tidied_is_text t e =
    let p = plain_parts t e in
    let tame = tame_single 32767 (before_spaces (after_spaces (chars t))) (tame_before 32767 (after_spaces (chars t)) (tame_after 32767 (chars t) (record { plain = p.plain; few = p.few }))) in
    text_of_plain (single_spacing_of (chars t)) tame.plain tame.few

wanted_some : (bytes : List ℕ) → space_wanted bytes ≡ true → 0 < length bytes
wanted_some [] e = absurd (cc)
wanted_some (b ∷ bs) e = omega arith

-- whether something is written, as it is asked
pub record Asked (bytes : List ℕ) (empty : Bool) : Type 0 where
  pub wanted : not empty ≡ space_wanted bytes
  pub some : not empty ≡ true → 0 < length bytes

pub asked : (bytes shown : List ℕ) (empty : Bool) → shown ≡ bytes → empty ≡ eqb (length shown) 0 → Asked bytes empty
asked bytes shown empty same is =
    let wanted : not empty ≡ space_wanted bytes = ap not (is ∙ ap (λ s. eqb (length s) 0) same) in
    record { wanted = wanted; some = λ e. wanted_some bytes (sym wanted ∙ e) }

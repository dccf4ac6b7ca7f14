-- Characters that make a text.
use Rattle.std.proofs.Common.{◌≡◌, ℕ, zero, suc, ◌≤◌, Bool, true, false, not, ◌&&◌, ◌||◌, cond, leb, List, [], ◌∷◌, ◌++◌, length, take, drop, Some, None, refl, sym, ap, ◌∙◌, subst, arith}
use Rattle.cell_values.proofs.PublicLaws.{all_three, parts_of_text}
use Rattle.std.proofs.lemmas.Bool.{and_parts, le-leb}
use Rattle.std.proofs.lemmas.Bool.Decides.{nat_tests}
use Rattle.std.proofs.lemmas.List.Folds.{list_any-append}
use Rattle.std.proofs.lemmas.Str.{is_utf8-from_IsUtf8, IsUtf8-from_is_utf8, chars-encodes, encodes-chars, scalars-chars}
use Rattle.std.specs.Char.{is_ascii_control}
use Rattle.std.specs.List.{list_any}
use Rattle.std.specs.Str.{IsUtf8, is_utf8, chars}
use lib.Utf8.{encode, encodes, scalar, scalars}
use Rattle.cell_values.specs.Text.{is_text, if_short}
use Rattle.cell_values.specs.Word.{text_of_bytes}

-- characters none of which is a control character
pub record Plain (cs : List ℕ) : Type 0 where
  pub scalar : scalars cs ≡ true
  pub none : list_any is_ascii_control cs ≡ false

control_encode : (c : ℕ) → list_any is_ascii_control (encode c) ≡ is_ascii_control c
unfolding encode
control_encode c = grind (arith, nat_tests)

control_encodes : (cs : List ℕ) → list_any is_ascii_control (encodes cs) ≡ list_any is_ascii_control cs
control_encodes [] = refl
control_encodes (c ∷ cs) =
    list_any-append is_ascii_control (encode c) (encodes cs) ∙ (ap (λ b. b || list_any is_ascii_control (encodes cs)) (control_encode c) ∙ ap (λ b. is_ascii_control c || b) (control_encodes cs))

-- the parts of a text: its characters are plain and few
pub record PlainParts (t : List ℕ) : Type 0 where
  pub utf8 : IsUtf8 t
  pub plain : Plain (chars t)
  pub few : length (chars t) ≤ 32767

pub plain_parts : (t : List ℕ) → is_text t ≡ true → PlainParts t
plain_parts t e =
    let p = parts_of_text t e in
    record {
      utf8 = p.utf8;
      plain = record {
        scalar = scalars-chars t p.utf8;
        none = sym (control_encodes (chars t)) ∙ (ap (list_any is_ascii_control) (encodes-chars t p.utf8) ∙ p.none);
      };
      few = p.few;
    }

-- few plain characters are a text
pub text_of_plain : (cs : List ℕ) → Plain cs → length cs ≤ 32767 → is_text (encodes cs) ≡ true
text_of_plain cs plain few =
    all_three (is_utf8 (encodes cs)) (leb (length (chars (encodes cs))) 32767) (not (list_any is_ascii_control (encodes cs)))
    (is_utf8-from_IsUtf8 (encodes cs) (cs, (plain.scalar, refl)))
    (le-leb _ _ (subst (λ (n : ℕ). n ≤ 32767) (sym (ap length (chars-encodes cs plain.scalar))) few))
    (ap not (control_encodes cs ∙ plain.none))

-- what is a text is one
pub kept : (t : List ℕ) → is_text t ≡ true → text_of_bytes t ≡ Some t
kept t e = ap (λ b. cond b (Some t) None) e

-- plain characters that are too many
pub text_if_short : (cs : List ℕ) → Plain cs → text_of_bytes (encodes cs) ≡ if_short (encodes cs)
text_if_short cs plain =
    let utf8 : is_utf8 (encodes cs) ≡ true = is_utf8-from_IsUtf8 (encodes cs) (cs, (plain.scalar, refl)) in
    let none : list_any is_ascii_control (encodes cs) ≡ false = control_encodes cs ∙ plain.none in
    grind arith

scalar_step : (a b : Bool) → a && b ≡ true → b ≡ true
scalar_step a b e = (and_parts a b e).1

or_false : (a b : Bool) → a || b ≡ false → (a ≡ false) × (b ≡ false)
or_false true b e = absurd (cc)
or_false false b e = (refl, e)

-- a character before others
pub plain_cons : (c : ℕ) (cs : List ℕ) → scalar c ≡ true → is_ascii_control c ≡ false → Plain cs → Plain (c ∷ cs)
plain_cons c cs s n plain = record {
  scalar = ap (λ b. b && scalars cs) s ∙ plain.scalar;
  none = ap (λ b. b || list_any is_ascii_control cs) n ∙ plain.none;
}

pub record PlainHead (c : ℕ) (cs : List ℕ) : Type 0 where
  pub scalar : scalar c ≡ true
  pub none : is_ascii_control c ≡ false
  pub rest : Plain cs

pub plain_head : (c : ℕ) (cs : List ℕ) → Plain (c ∷ cs) → PlainHead c cs
plain_head c cs plain =
    let s = and_parts (scalar c) (scalars cs) plain.scalar in
    let n = or_false (is_ascii_control c) (list_any is_ascii_control cs) plain.none in
    record { scalar = s.0; none = n.0; rest = record { scalar = s.1; none = n.1 } }

pub plain_nil : Plain []
plain_nil = record { scalar = refl; none = refl }

pub plain_take : (n : ℕ) (cs : List ℕ) → Plain cs → Plain (take n cs)
plain_take zero cs plain = plain_nil
plain_take (suc n) [] plain = plain_nil
plain_take (suc n) (c ∷ cs) plain = let h = plain_head c cs plain in plain_cons c (take n cs) h.scalar h.none (plain_take n cs h.rest)

pub plain_drop : (n : ℕ) (cs : List ℕ) → Plain cs → Plain (drop n cs)
plain_drop zero cs plain = plain
plain_drop (suc n) [] plain = plain_nil
plain_drop (suc n) (c ∷ cs) plain = plain_drop n cs (plain_head c cs plain).rest

pub plain_append : (xs ys : List ℕ) → Plain xs → Plain ys → Plain (xs ++ ys)
plain_append [] ys p q = q
plain_append (x ∷ xs) ys p q = let h = plain_head x xs p in plain_cons x (xs ++ ys) h.scalar h.none (plain_append xs ys h.rest q)

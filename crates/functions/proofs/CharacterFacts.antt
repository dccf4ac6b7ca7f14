-- The characters of a text, one after another.
use Rattle.std.proofs.Common.{◌≡◌, ℕ, zero, suc, ◌+◌, ◌-◌, ◌<◌, ◌≤◌, List, [], ◌∷◌, ◌++◌, length, take, drop, sym, ap, ◌∙◌, subst, arith}
use Rattle.std.proofs.lemmas.List.{drop_all, nil_from_length, take-append-drop, length-append, take_at}
use Rattle.std.proofs.lemmas.Str.{chars_past_char, chars-nil, encodes-chars, encodes-append, IsCharBoundary-at_seam}
use Rattle.std.proofs.lemmas.Grind.{common_steps}
use Rattle.std.specs.List.{slice_range}
use Rattle.std.specs.Str.{IsUtf8, IsCharBoundary, chars}
use lib.Utf8.{encode, encodes}
use Rattle.functions.specs.Texts.{first_characters, without_first}

drop_one : (m : ℕ) (c : ℕ) (cs : List ℕ) → 0 < m → drop m (c ∷ cs) ≡ drop (m - 1) cs
drop_one zero c cs h = absurd (omega arith)
drop_one (suc m) c cs h = grind arith

-- a step over one character
pub walk_step : (n i : ℕ) (rest tail whole : List ℕ) (c : ℕ) → i < n → IsUtf8 rest → rest ≡ encode c ++ tail →
    encodes (drop (n - i) (chars rest)) ≡ whole → encodes (drop (n - (i + 1)) (chars tail)) ≡ whole
walk_step n i rest tail whole c h utf8 e is =
    let le : 0 < n - i = omega arith in
    let same : (n - i) - 1 ≡ n - (i + 1) = omega arith in
    let step : drop (n - i) (chars rest) ≡ drop (n - (i + 1)) (chars tail) =
    ap (drop (n - i)) (chars_past_char rest tail c utf8 e) ∙ (drop_one (n - i) c (chars tail) le ∙ ap (λ k. drop k (chars tail)) same) in
    sym (ap encodes step) ∙ is

-- nothing is left to walk over
pub walk_end : (k : ℕ) (rest whole : List ℕ) → length rest ≡ 0 → encodes (drop k (chars rest)) ≡ whole → [] ≡ whole
walk_end k rest whole none is =
    let empty : chars rest ≡ [] = ap chars (nil_from_length rest none) ∙ chars-nil in
    let nothing : drop k (chars rest) ≡ [] = drop_all k (chars rest) (omega (arith, ap length empty)) in
    sym (ap encodes nothing) ∙ is

-- all is walked over
pub walk_over : (n i : ℕ) (rest whole : List ℕ) → n ≤ i → IsUtf8 rest → encodes (drop (n - i) (chars rest)) ≡ whole → rest ≡ whole
walk_over n i rest whole h utf8 is =
    let none : n - i ≡ 0 = omega arith in
    let over : encodes (drop (n - i) (chars rest)) ≡ rest = ap (λ k. encodes (drop k (chars rest))) none ∙ encodes-chars rest utf8 in
    sym over ∙ is

-- a text is its first characters and the others
pub cut : (n : ℕ) (t : List ℕ) → IsUtf8 t → t ≡ first_characters n t ++ without_first n t
cut n t utf8 =
    sym (encodes-chars t utf8) ∙ (ap encodes (sym (take-append-drop n (chars t))) ∙ encodes-append (take n (chars t)) (drop n (chars t)))

range_front : (n : ℕ) (t : List ℕ) → slice_range t 0 n ≡ take n t
range_front n t = grind (arith, common_steps)

-- a text may be cut where its first characters end
pub record CutAt (n : ℕ) (t rest : List ℕ) : Type 0 where
  pub fits : length rest ≤ length t
  pub boundary : IsCharBoundary t (length t - length rest)
  pub front : slice_range t 0 (length t - length rest) ≡ first_characters n t

pub cut_at : (n : ℕ) (t rest : List ℕ) → IsUtf8 t → IsUtf8 rest → rest ≡ without_first n t → CutAt n t rest
cut_at n t rest utf8 rest_utf8 is =
    let both : t ≡ first_characters n t ++ rest = cut n t utf8 ∙ ap (λ r. first_characters n t ++ r) (sym is) in
    let sum : length t ≡ length (first_characters n t) + length rest = ap length both ∙ length-append (first_characters n t) rest in
    let place : length (first_characters n t) ≡ length t - length rest = omega arith in
    record {
      fits = omega arith;
      boundary = subst (IsCharBoundary t) place (IsCharBoundary-at_seam t (first_characters n t) rest both rest_utf8);
      front = range_front (length t - length rest) t ∙ (ap (take (length t - length rest)) both ∙ take_at (first_characters n t) rest (length t - length rest) place);
    }

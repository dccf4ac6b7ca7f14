-- What follows a part that stands at the front of a text.
use Rattle.std.proofs.Common.{◌≡◌, ◌≢◌, ℕ, Bool, true, false, cond, ◌==◌, List, [], ◌∷◌, ◌++◌, Option, Some, None, MatchOption, option_map, refl, ap, sym, ◌∙◌}
use denote.Ref.{Bor}
use Rattle.cell_refs.specs.Reading.{◌>>=◌, rest_after}
use Rattle.cell_refs.proofs.SheetWord.{none_unless, rest_after-append, rest_after_front}

-- what follows two parts follows the second in what follows the first
pub rest_after_both : (a b text : List ℕ) → rest_after (a ++ b) text ≡ (rest_after a text >>= rest_after b)
rest_after_both [] b text = refl
rest_after_both (w ∷ ws) b [] = refl
rest_after_both (w ∷ ws) b (c ∷ cs) = by_head (c == w) (rest_after_both ws b cs)
  where
    by_head : (t : Bool) → rest_after (ws ++ b) cs ≡ (rest_after ws cs >>= rest_after b) → cond t (rest_after (ws ++ b) cs) None ≡ (cond t (rest_after ws cs) None >>= rest_after b)
    by_head true both = both
    by_head false both = refl

-- what follows a word, as code that cuts it off finds it
pub follows_word : (word text : List ℕ) (r : Option (Bor (List ℕ))) → MatchOption r ((rest : List ℕ) → text ≢ word ++ rest) (λ x. text ≡ word ++ x.now) → option_map {T = Bor (List ℕ)} {U = List ℕ} (λ rest. rest.now) r ≡ rest_after word text
follows_word word text None out = none_unless (rest_after word text) (λ rest found. out rest (rest_after_front word text rest found))
follows_word word text (Some x) whole = sym (ap (rest_after word) whole ∙ rest_after-append word x.now)

-- The word `Sheet` at the front of a text, in any case.
use Rattle.std.proofs.Common.{◌≡◌, ℕ, ◌<◌, Bool, true, false, cond, ◌==◌, List, [], ◌∷◌, ◌++◌, map, length, take, drop, Option, Some, None, codes, refl, ap, sym, ◌∙◌, arith}
use Rattle.std.proofs.lemmas.Bool.Decides.{nat_tests}
use Rattle.std.proofs.lemmas.List.{length-map, map-append, take-append-drop, take-map}
use Rattle.std.specs.Char.{to_ascii_lowercase, to_ascii_uppercase}
use Rattle.cell_refs.specs.Reading.{rest_after}
use Rattle.cell_refs.specs.Written.{capitals}

upper_lower : (c : ℕ) → to_ascii_uppercase (to_ascii_lowercase c) ≡ to_ascii_uppercase c
upper_lower c = grind (arith, nat_tests)

lower_upper : (c : ℕ) → to_ascii_lowercase (to_ascii_uppercase c) ≡ to_ascii_lowercase c
lower_upper c = grind (arith, nat_tests)

map_twice : (f g : ℕ → ℕ) → ((c : ℕ) → g (f c) ≡ g c) → (xs : List ℕ) → map g (map f xs) ≡ map g xs
map_twice f g same [] = refl
map_twice f g same (c ∷ cs) = rw (same, map_twice f g same cs) refl

-- a word is followed by what follows it
pub rest_after-append : (word rest : List ℕ) → rest_after word (word ++ rest) ≡ Some rest
rest_after-append [] rest = refl
rest_after-append (w ∷ ws) rest = rw (eqb_same w, rest_after-append ws rest) refl
  where
    eqb_same : (w : ℕ) → (w == w) ≡ true
    eqb_same w = grind (arith, nat_tests)

-- where something follows a word, the word stands at the front
pub rest_after_front : (word text rest : List ℕ) → rest_after word text ≡ Some rest → text ≡ word ++ rest
rest_after_front [] text rest e = cc
rest_after_front (w ∷ ws) [] rest e = cc
rest_after_front (w ∷ ws) (c ∷ cs) rest e = by_head (c == w) refl (λ h. rest_after_front ws cs rest h) e
  where
    by_head : (b : Bool) → (c == w) ≡ b → (rest_after ws cs ≡ Some rest → cs ≡ ws ++ rest) → cond b (rest_after ws cs) None ≡ Some rest → c ∷ cs ≡ w ∷ (ws ++ rest)
    by_head true is goes h = let same : c ≡ w = grind (arith, nat_tests, is) in let front = goes h in cc
    by_head false is goes h = cc

-- a text in upper case, from its word and what follows it
capitals_parts : (text word rest : List ℕ) → word ≡ take 5 text → rest ≡ drop 5 text → capitals text ≡ capitals word ++ capitals rest
capitals_parts text word rest w r = rw (w, r) (ap capitals (sym (take-append-drop 5 text)) ∙ map-append to_ascii_uppercase (take 5 text) (drop 5 text))

word_capitals : (word : List ℕ) → map to_ascii_lowercase word ≡ map to_ascii_lowercase (codes "Sheet") → capitals word ≡ codes "SHEET"
word_capitals word same = sym (map_twice to_ascii_lowercase to_ascii_uppercase upper_lower word) ∙ ap capitals same

pub sheet_word : (text word rest : List ℕ) → word ≡ take 5 text → rest ≡ drop 5 text → map to_ascii_lowercase word ≡ map to_ascii_lowercase (codes "Sheet") → Some (capitals rest) ≡ rest_after (codes "SHEET") (capitals text)
sheet_word text word rest w r same =
    sym (ap (rest_after (codes "SHEET")) (capitals_parts text word rest w r ∙ ap (λ front. front ++ capitals rest) (word_capitals word same)) ∙ rest_after-append (codes "SHEET") (capitals rest))

-- a word in capitals at the front is the text's word in lower case
front_lower : (text word rest : List ℕ) → word ≡ take 5 text → capitals text ≡ codes "SHEET" ++ rest → map to_ascii_lowercase word ≡ map to_ascii_lowercase (codes "Sheet")
front_lower text word rest w e =
    let cut : capitals word ≡ codes "SHEET" = ap capitals w ∙ (sym (take-map to_ascii_uppercase 5 text) ∙ ap (take 5) e) in
    sym (map_twice to_ascii_uppercase to_ascii_lowercase lower_upper word) ∙ ap (map to_ascii_lowercase) cut

pub none_unless : (o : Option (List ℕ)) → ((rest : List ℕ) → o ≡ Some rest → ⊥) → None ≡ o
none_unless None out = refl
none_unless (Some rest) out = absurd (out rest refl)

pub no_sheet_word : (text word : List ℕ) → word ≡ take 5 text → (map to_ascii_lowercase word ≡ map to_ascii_lowercase (codes "Sheet") → ⊥) → None ≡ rest_after (codes "SHEET") (capitals text)
no_sheet_word text word w other =
    none_unless (rest_after (codes "SHEET") (capitals text)) (λ rest found. other (front_lower text word rest w (rest_after_front (codes "SHEET") (capitals text) rest found)))

pub no_sheet_room : (text : List ℕ) → length text < 5 → None ≡ rest_after (codes "SHEET") (capitals text)
no_sheet_room text short =
    none_unless (rest_after (codes "SHEET") (capitals text)) (λ rest found. let e = ap length (rest_after_front (codes "SHEET") (capitals text) rest found) in let n : length (capitals text) ≡ length text = length-map text to_ascii_uppercase in omega (arith, e, n))

-- The cut into lines is that of a text's `lines`.
use Rattle.std.proofs.Common.{◌≡◌, ◌≢◌, ℕ, suc, ◌-◌, eqb, List, [], ◌∷◌, length, get_or, take, refl, sym, ap, ◌∙◌, inl, inr, arith}
use Rattle.std.specs.List.{onto_first, slice_split}
use Rattle.std.specs.Str.Lines.{lines, lines_of_parts, strip_carriage_return}
use Rattle.std.proofs.lemmas.Bool.{cases_eq, eq-eqb, ne_eqb, cond-true, cond-false, and_left, and_right}
use Rattle.host_io.specs.Lines.{lines_of}
use Rattle.host_io.proofs.LineLaws.{lines_of-feed, lines_of-paired, lines_of-byte, unpaired}

abbrev parts : List ℕ → List (List ℕ)
parts bs = slice_split (λ b. eqb b 10) bs

-- there is a first part
parts_has : (bs : List ℕ) → (first : List ℕ) × (more : List (List ℕ)) × (parts bs ≡ first ∷ more)
parts_has [] = ([], [], refl)
parts_has (b ∷ bs) =
    let rest = parts_has bs in
    elim (cases_eq b 10) [
      | inl e ↦ ([], parts bs, cond-true _ _ _ (eq-eqb b 10 e))
      | inr ne ↦ (b ∷ rest.0, rest.1, cond-false _ _ _ (ne_eqb b 10 ne) ∙ ap (onto_first b) rest.2)
    ]

strip-one : (b : ℕ) → b ≢ 13 → strip_carriage_return (b ∷ []) ≡ b ∷ []
strip-one b ne = cond-false _ _ _ (ne_eqb b 13 ne)

strip-return : (b : ℕ) → b ≡ 13 → strip_carriage_return (b ∷ []) ≡ []
strip-return b e = cond-true _ _ _ (eq-eqb b 13 e)

strip-more : (b c : ℕ) (bs : List ℕ) → strip_carriage_return (b ∷ c ∷ bs) ≡ b ∷ strip_carriage_return (c ∷ bs)
strip-more b c bs =
    let back : length (b ∷ c ∷ bs) - 1 ≡ suc (length (c ∷ bs) - 1) = omega arith in
    let last : get_or (b ∷ c ∷ bs) (length (b ∷ c ∷ bs) - 1) 0 ≡ get_or (c ∷ bs) (length (c ∷ bs) - 1) 0 = rw back refl in
    let cut : take (length (b ∷ c ∷ bs) - 1) (b ∷ c ∷ bs) ≡ b ∷ take (length (c ∷ bs) - 1) (c ∷ bs) = rw back refl in
    elim (cases_eq (get_or (c ∷ bs) (length (c ∷ bs) - 1) 0) 13) [
      | inl e ↦ cond-true _ _ _ (eq-eqb _ 13 (last ∙ e)) ∙ cut ∙ ap (λ xs. b ∷ xs) (sym (cond-true _ _ _ (eq-eqb _ 13 e)))
      | inr ne ↦ cond-false _ _ _ (ne_eqb _ 13 (λ e. ne (sym last ∙ e)))
          ∙ ap (λ xs. b ∷ xs) (sym (cond-false _ _ _ (ne_eqb _ 13 ne)))
    ]

-- a last part with a byte is a line
last_part : (b : ℕ) (part : List ℕ) → lines_of_parts ((b ∷ part) ∷ []) ≡ (b ∷ part) ∷ []
last_part b part = cond-false _ _ _ (ne_eqb (length (b ∷ part)) 0 (λ e. absurd (omega arith)))

-- a byte before an LF
before_feed : (b c : ℕ) (cs y : List ℕ) (ys : List (List ℕ)) → b ≢ 10 → c ≡ 10 → parts cs ≡ y ∷ ys → lines_of (c ∷ cs) ≡ [] ∷ lines_of_parts (y ∷ ys) → lines_of (b ∷ c ∷ cs) ≡ strip_carriage_return (b ∷ []) ∷ lines_of_parts (y ∷ ys)
before_feed b c cs y ys ne feed split ih =
    elim (cases_eq b 13) [
      | inl e ↦ lines_of-paired b (c ∷ cs) ne (rw (eq-eqb b 13 e, eq-eqb c 10 feed) refl) ∙ ih
          ∙ ap (λ l. l ∷ lines_of_parts (y ∷ ys)) (sym (strip-return b e))
      | inr other ↦ lines_of-byte b (c ∷ cs) ne (and_left _ _ (ne_eqb b 13 other)) ∙ ap (onto_first b) ih
          ∙ ap (λ l. l ∷ lines_of_parts (y ∷ ys)) (sym (strip-one b other))
    ]

-- a byte before another byte
before_byte : (b c : ℕ) (cs first : List ℕ) (more : List (List ℕ)) → b ≢ 10 → c ≢ 10 → lines_of (c ∷ cs) ≡ lines_of_parts ((c ∷ first) ∷ more) → lines_of (b ∷ c ∷ cs) ≡ lines_of_parts ((b ∷ c ∷ first) ∷ more)
before_byte b c cs first [] ne other ih =
    lines_of-byte b (c ∷ cs) ne (unpaired b c cs other) ∙ ap (onto_first b) (ih ∙ last_part c first)
    ∙ sym (last_part b (c ∷ first))
before_byte b c cs first (y ∷ ys) ne other ih =
    lines_of-byte b (c ∷ cs) ne (unpaired b c cs other) ∙ ap (onto_first b) ih
    ∙ ap (λ l. l ∷ lines_of_parts (y ∷ ys)) (sym (strip-more b c first))

step : (b : ℕ) (bs : List ℕ) → b ≢ 10 → lines_of bs ≡ lines_of_parts (parts bs) → lines_of (b ∷ bs) ≡ lines_of_parts (onto_first b (parts bs))
step b [] ne ih = lines_of-byte b [] ne (and_right _ _ refl)
step b (c ∷ cs) ne ih =
    let rest = parts_has cs in
    elim (cases_eq c 10) [
      | inl feed ↦
          let split : parts (c ∷ cs) ≡ [] ∷ (rest.0 ∷ rest.1) = cond-true _ _ _ (eq-eqb c 10 feed) ∙ ap (λ ps. [] ∷ ps) rest.2 in
          before_feed b c cs rest.0 rest.1 ne feed rest.2 (ih ∙ ap lines_of_parts split)
          ∙ ap (λ ps. lines_of_parts (onto_first b ps)) (sym split)
      | inr other ↦
          let split : parts (c ∷ cs) ≡ (c ∷ rest.0) ∷ rest.1 = cond-false _ _ _ (ne_eqb c 10 other) ∙ ap (onto_first c) rest.2 in
          before_byte b c cs rest.0 rest.1 ne other (ih ∙ ap lines_of_parts split)
          ∙ ap (λ ps. lines_of_parts (onto_first b ps)) (sym split)
    ]

-- the lines of a text are those that its `lines` gives
pub lines_of-std : (bs : List ℕ) → lines_of bs ≡ lines bs
lines_of-std [] = refl
lines_of-std (b ∷ bs) =
    let rest = parts_has bs in
    elim (cases_eq b 10) [
      | inl e ↦
          let split : parts (b ∷ bs) ≡ [] ∷ (rest.0 ∷ rest.1) = cond-true _ _ _ (eq-eqb b 10 e) ∙ ap (λ ps. [] ∷ ps) rest.2 in
          lines_of-feed b bs e ∙ ap (λ ls. [] ∷ ls) (lines_of-std bs ∙ ap lines_of_parts rest.2) ∙ ap lines_of_parts (sym split)
      | inr ne ↦ step b bs ne (lines_of-std bs) ∙ ap lines_of_parts (sym (cond-false _ _ _ (ne_eqb b 10 ne)))
    ]

-- How much of a text a written text begins with.
use Rattle.std.proofs.Common.{◌≡◌, ℕ, ◌+◌, ◌≤◌, zero, suc, Bool, true, false, cond, ◌||◌, eqb, List, [], ◌∷◌, ◌++◌, length, take, Option, Some, None, option_map, refl, sym, ap, subst, ◌∙◌, arith, ⊎_elim, add-one, eqb-true}
use Rattle.std.proofs.lemmas.Bool.{cases_Bool, cond-true, cond-false, or_parts, or_from}
use Rattle.std.proofs.lemmas.List.Folds.{list_any-append}
use Rattle.std.specs.Char.{is_ascii_control}
use Rattle.std.specs.List.{list_any, position_or_len}
use Rattle.cell_values.specs.Word.{with_doubled_quotes, byte_within}
use Rattle.formula_parse.specs.declared.tokens.Token.{Token}
use Rattle.formula_parse.specs.declared.tokens.Token.TheVariants as tokens
use Rattle.formula_parse.specs.Lexing.{content_at, text_found}
use Rattle.formula_parse.specs.Tokens.{Writes}

-- how many bytes stand before the first control character
abbrev clean : List ℕ → ℕ
clean rest = position_or_len is_ascii_control rest

-- a control character ends what is clean
clean_stops : (c : ℕ) (cs : List ℕ) → is_ascii_control c ≡ true → clean (c ∷ cs) ≡ 0
clean_stops c cs h = rw h refl

-- another byte goes on with it
clean_goes_on : (c : ℕ) (cs : List ℕ) → is_ascii_control c ≡ false → clean (c ∷ cs) ≡ suc (clean cs)
clean_goes_on c cs h = rw h (omega arith)

-- what is clean is no more than the text
pub clean_within : (rest : List ℕ) → clean rest ≤ length rest
clean_within [] = omega arith
clean_within (c ∷ cs) = ⊎_elim
    (λ y. let e = clean_stops c cs y in omega arith)
    (λ n. let e = clean_goes_on c cs n in let h = clean_within cs in omega arith)
    (cases_Bool (is_ascii_control c))

-- a text without a closing `"` before a control character, up to that character
record Opens (rest : List ℕ) : Type 0 where
  content : List ℕ
  spelled : take (clean rest) rest ≡ with_doubled_quotes content
  fine : list_any is_ascii_control content ≡ false

-- a control character ends an open text
opens_stopped : (c : ℕ) (cs : List ℕ) → is_ascii_control c ≡ true → Opens (c ∷ cs)
opens_stopped c cs y = record { content = []; spelled = ap (λ n. take n (c ∷ cs)) (clean_stops c cs y); fine = refl }

-- a byte that is no `"` stays one
doubled_other : (c : ℕ) (content : List ℕ) → eqb c 34 ≡ false → with_doubled_quotes (c ∷ content) ≡ c ∷ with_doubled_quotes content
doubled_other c content e = ap (λ b. cond b (34 ∷ 34 ∷ []) (c ∷ []) ++ with_doubled_quotes content) e

-- a byte that is neither goes on with an open text
opens_other : (c : ℕ) (cs : List ℕ) → is_ascii_control c ≡ false → eqb c 34 ≡ false → Opens cs → Opens (c ∷ cs)
opens_other c cs n q f = record {
  content = c ∷ f.content;
  spelled = ap (λ k. take k (c ∷ cs)) (clean_goes_on c cs n) ∙ (ap (λ x. c ∷ x) f.spelled ∙ sym (doubled_other c f.content q));
  fine = or_from _ _ n f.fine;
}

-- so does a doubled `"`
opens_doubled : (cs : List ℕ) → Opens cs → Opens (34 ∷ 34 ∷ cs)
opens_doubled cs f = record {
  content = 34 ∷ f.content;
  spelled = ap (λ k. take k (34 ∷ 34 ∷ cs)) (clean_goes_on 34 (34 ∷ cs) refl ∙ ap suc (clean_goes_on 34 cs refl)) ∙ ap (λ x. 34 ∷ 34 ∷ x) f.spelled;
  fine = f.fine;
}

-- what is found with a control character in the content, or not at all
abbrev Missing : Option (List ℕ × ℕ) → Type 0
Missing o = text_found o ≡ None

-- what is missing though it is closed has a control character
missing_parts : (found : List ℕ × ℕ) → Missing (Some found) → list_any is_ascii_control found.0 ≡ true
missing_parts found h = by_test (list_any is_ascii_control found.0) h
  where
    by_test : (t : Bool) → ◌≡◌ {A = Option (Token × ℕ)} (cond t None (Some (tokens.Text found.0, found.1 + 1))) None → t ≡ true
    by_test true h = refl
    by_test false h = absurd (cc)

-- what has a control character is missing
missing_from : (found : List ℕ × ℕ) → list_any is_ascii_control found.0 ≡ true → Missing (Some found)
missing_from found h = cond-true _ _ _ h

-- where a byte that is no control character is put before a content, the content has the control character
missing_more : (c k : ℕ) (o : Option (List ℕ × ℕ)) → is_ascii_control c ≡ false → Missing (option_map {T = List ℕ × ℕ} {U = List ℕ × ℕ} (λ found. (c ∷ found.0, found.1 + k)) o) → Missing o
missing_more c k None n h = refl
missing_more c k (Some found) n h =
    missing_from found (sym (ap (λ b. b || list_any is_ascii_control found.0) n) ∙ missing_parts (c ∷ found.0, found.1 + k) h)

-- the same behind a doubled `"`
missing_doubled : (o : Option (List ℕ × ℕ)) → Missing (option_map {T = List ℕ × ℕ} {U = List ℕ × ℕ} (λ found. (34 ∷ found.0, found.1 + 2)) o) → Missing o
missing_doubled o h = missing_more 34 2 o refl h

-- where no text stands whole, what has begun is an open one
opened : (rest : List ℕ) → Missing (content_at rest) → Opens rest
opened [] h = record { content = []; spelled = refl; fine = refl }
opened (c ∷ []) h = ⊎_elim
    (λ q. absurd (no_text (ap text_found (sym (cond-true _ _ _ q)) ∙ h)))
    (λ q. ⊎_elim (λ y. opens_stopped c [] y) (λ n. opens_other c [] n q (record { content = []; spelled = refl; fine = refl })) (cases_Bool (is_ascii_control c)))
    (cases_Bool (eqb c 34))
  where
    no_text : ◌≡◌ {A = Option (Token × ℕ)} (Some (tokens.Text [], 2)) None → ⊥
    no_text h = cc
opened (c ∷ d ∷ cs) h = ⊎_elim
    (λ q. ⊎_elim
    (λ r.
    let f = opened cs (missing_doubled (content_at cs) (ap text_found (sym (cond-true _ _ _ q ∙ cond-true _ _ _ r)) ∙ h)) in
    subst (λ x. Opens (x ∷ d ∷ cs)) (sym (eqb-true c 34 q)) (subst (λ x. Opens (34 ∷ x ∷ cs)) (sym (eqb-true d 34 r)) (opens_doubled cs f)))
    (λ r. absurd (no_text (ap text_found (sym (cond-true _ _ _ q ∙ cond-false _ _ _ r)) ∙ h)))
    (cases_Bool (eqb d 34)))
    (λ q. ⊎_elim
    (λ y. opens_stopped c (d ∷ cs) y)
    (λ n. opens_other c (d ∷ cs) n q (opened (d ∷ cs) (missing_more c 1 (content_at (d ∷ cs)) n (ap text_found (sym (cond-false _ _ _ q)) ∙ h))))
    (cases_Bool (is_ascii_control c)))
    (cases_Bool (eqb c 34))
  where
    no_text : ◌≡◌ {A = Option (Token × ℕ)} (Some (tokens.Text [], 2)) None → ⊥
    no_text h = cc

-- an open text goes on with a `"`
pub text_goes_on : (rest : List ℕ) → text_found (content_at rest) ≡ None → (content : List ℕ) × Writes (take (clean rest + 1) (34 ∷ rest) ++ 34 ∷ []) (tokens.Text content)
text_goes_on rest h =
    let f = opened rest h in
    (f.content, (ap (λ n. take n (34 ∷ rest) ++ 34 ∷ []) (add-one (clean rest)) ∙ ap (λ x. 34 ∷ (x ++ 34 ∷ [])) f.spelled, f.fine))

-- ---- no longer front
-- what has no control character is no more than what is clean
clean_most : (rest : List ℕ) (n : ℕ) → n ≤ length rest → list_any is_ascii_control (take n rest) ≡ false → n ≤ clean rest
clean_most rest zero h fine = omega arith
clean_most [] (suc n) h fine = absurd (omega arith)
clean_most (c ∷ cs) (suc n) h fine =
    let p = or_parts (is_ascii_control c) (list_any is_ascii_control (take n cs)) fine in
    let e = clean_goes_on c cs p.0 in
    let more = clean_most cs n (omega arith) p.1 in
    omega arith

-- a byte between quotes has no control character where the byte is none
byte_fine : (c : ℕ) (b : Bool) → is_ascii_control c ≡ false → list_any is_ascii_control (cond b (34 ∷ 34 ∷ []) (c ∷ [])) ≡ false
byte_fine c true n = refl
byte_fine c false n = or_from _ _ n refl

-- neither do two pieces without one
both_fine : (xs ys : List ℕ) → list_any is_ascii_control xs ≡ false → list_any is_ascii_control ys ≡ false → list_any is_ascii_control (xs ++ ys) ≡ false
both_fine xs ys e f = list_any-append is_ascii_control xs ys ∙ or_from _ _ e f

-- nor does a content between quotes
doubled_fine : (content : List ℕ) → list_any is_ascii_control content ≡ false → list_any is_ascii_control (with_doubled_quotes content) ≡ false
doubled_fine [] h = refl
doubled_fine (c ∷ cs) h =
    let p = or_parts (is_ascii_control c) (list_any is_ascii_control cs) h in
    both_fine (byte_within c) (with_doubled_quotes cs) (byte_fine c (eqb c 34) p.0) (doubled_fine cs p.1)

-- nor does the front of what has none
front_fine : (xs ys : List ℕ) → list_any is_ascii_control (xs ++ ys) ≡ false → list_any is_ascii_control xs ≡ false
front_fine xs ys h = (or_parts _ (list_any is_ascii_control ys) (sym (list_any-append is_ascii_control xs ys) ∙ h)).0

-- no text goes on with more
pub text_most : (rest more content : List ℕ) (k : ℕ) → k ≤ length rest → Writes (34 ∷ (take k rest ++ more)) (tokens.Text content) → suc k ≤ clean rest + 1
text_most rest more content k h w =
    let same : take k rest ++ more ≡ with_doubled_quotes content ++ 34 ∷ [] = let e = w.0 in cc in
    let fine : list_any is_ascii_control (take k rest ++ more) ≡ false = ap (list_any is_ascii_control) same ∙ both_fine (with_doubled_quotes content) (34 ∷ []) (doubled_fine content w.1) refl in
    let most = clean_most rest k h (front_fine (take k rest) more fine) in
    omega arith

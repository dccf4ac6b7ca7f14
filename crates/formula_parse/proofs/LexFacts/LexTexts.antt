-- A text at the front of a text.
use Rattle.std.proofs.Common.{◌≡◌, ℕ, ◌+◌, Bool, true, false, cond, eqb, List, [], ◌∷◌, ◌++◌, length, Option, Some, None, option_map, refl, sym, ap, subst, ◌∙◌, arith, ⊎_elim, eqb-true, append_assoc}
use Rattle.std.proofs.lemmas.Bool.{cond-false}
use Rattle.std.proofs.lemmas.List.{length-append}
use Rattle.std.proofs.lemmas.Option.{same_Some}
use Rattle.std.specs.Char.{is_ascii_control}
use Rattle.std.specs.List.{list_any}
use Rattle.cell_values.specs.Word.{with_doubled_quotes, quotation_of}
use Rattle.formula_parse.specs.declared.tokens.Token.{Token}
use Rattle.formula_parse.specs.declared.tokens.Token.TheVariants as tokens
use Rattle.formula_parse.specs.Lexing.{token_at, content_at, text_found}
use Rattle.formula_parse.proofs.LexFacts.LexFirst.{Found, found_as, first_passes, chosen, at_quote}

-- a closing `"` behind a content, with its length
pub record Closes (text content : List ℕ) (n : ℕ) : Type 0 where
  pub rest : List ℕ
  pub whole : text ≡ with_doubled_quotes content ++ 34 ∷ rest
  pub count : n ≡ length (with_doubled_quotes content) + 1
  pub stops : first_passes (λ b. eqb b 34) rest ≡ false

-- the same content and length under other names
closes_as : (text : List ℕ) (found other : List ℕ × ℕ) → Some found ≡ Some other → Closes text found.0 found.1 → Closes text other.0 other.1
closes_as text found other e f = subst (λ (p : List ℕ × ℕ). Closes text p.0 p.1) (same_Some _ _ e) f

-- what is made of an answer is made of some answer
pub mapped_some : {A B : Type 0} (f : A → B) (o : Option A) (y : B) → option_map f o ≡ Some y → (x : A) × (o ≡ Some x) × (f x ≡ y)
mapped_some f None y h = absurd (cc)
mapped_some f (Some x) y h = (x, refl, same_Some _ _ h)

-- a `"` closes an empty content
closes_here : (rest : List ℕ) → first_passes (λ b. eqb b 34) rest ≡ false → Closes (34 ∷ rest) [] 1
closes_here rest s = record { rest = rest; whole = refl; count = refl; stops = s }

-- the byte that passes the test for a `"`
quote_is : (b : ℕ) → eqb b 34 ≡ true → b ≡ 34
quote_is b e = eqb-true b 34 e

-- a doubled quote and what closes behind it
closes_doubled : (cs content : List ℕ) (n : ℕ) → Closes cs content n → Closes (34 ∷ 34 ∷ cs) (34 ∷ content) (n + 2)
closes_doubled cs content n f = record { rest = f.rest; whole = ap (λ x. 34 ∷ 34 ∷ x) f.whole; count = omega (arith, f.count); stops = f.stops }

-- a byte that is no `"` stays one
doubled_other : (c : ℕ) (content : List ℕ) → eqb c 34 ≡ false → with_doubled_quotes (c ∷ content) ≡ c ∷ with_doubled_quotes content
doubled_other c content e = ap (λ b. cond b (34 ∷ 34 ∷ []) (c ∷ []) ++ with_doubled_quotes content) e

-- another byte and what closes behind it
closes_other : (c : ℕ) (cs content : List ℕ) (n : ℕ) → eqb c 34 ≡ false → Closes cs content n → Closes (c ∷ cs) (c ∷ content) (n + 1)
closes_other c cs content n e f =
    let d = doubled_other c content e in
    record {
      rest = f.rest;
      whole = ap (λ x. c ∷ x) f.whole ∙ ap (λ x. x ++ 34 ∷ f.rest) (sym d);
      count = (let k = ap length d in omega (arith, f.count, k));
      stops = f.stops;
    }

-- the content that is found is closed
pub content_found : (text : List ℕ) (found : List ℕ × ℕ) → content_at text ≡ Some found → Closes text found.0 found.1
content_found [] found h = absurd (cc)
content_found (c ∷ []) found h =
    ⊎_elim (λ y. subst (λ b. Closes (b ∷ []) found.0 found.1) (sym (quote_is c y.0)) (closes_as (34 ∷ []) ([], 1) found y.1 (closes_here [] refl)))
    (λ n. let none = n.1 in absurd (cc))
    (chosen (eqb c 34) _ _ _ h)
content_found (c ∷ d ∷ cs) found h =
    ⊎_elim (λ y. ⊎_elim
    (λ z.
    let m = mapped_some (λ found. (34 ∷ found.0, found.1 + 2)) (content_at cs) found z.1 in
    let f = content_found cs m.0 m.1 in
    subst (λ b. Closes (b ∷ d ∷ cs) found.0 found.1) (sym (quote_is c y.0)) (subst (λ b. Closes (34 ∷ b ∷ cs) found.0 found.1) (sym (quote_is d z.0)) (closes_as (34 ∷ 34 ∷ cs) (34 ∷ m.0.0, m.0.1 + 2) found (ap Some m.2) (closes_doubled cs m.0.0 m.0.1 f))))
    (λ z. subst (λ b. Closes (b ∷ d ∷ cs) found.0 found.1) (sym (quote_is c y.0)) (closes_as (34 ∷ d ∷ cs) ([], 1) found z.1 (closes_here (d ∷ cs) z.0)))
    (chosen (eqb d 34) _ _ _ y.1))
    (λ n.
    let m = mapped_some (λ found. (c ∷ found.0, found.1 + 1)) (content_at (d ∷ cs)) found n.1 in
    let f = content_found (d ∷ cs) m.0 m.1 in
    closes_as (c ∷ d ∷ cs) (c ∷ m.0.0, m.0.1 + 1) found (ap Some m.2) (closes_other c (d ∷ cs) m.0.0 m.0.1 n.0 f))
    (chosen (eqb c 34) _ _ _ h)

-- a `"` without another behind it ends the content
content_ends : (rest : List ℕ) → first_passes (λ b. eqb b 34) rest ≡ false → content_at (34 ∷ rest) ≡ Some ([], 1)
content_ends [] s = refl
content_ends (d ∷ cs) s = cond-false _ _ _ s

-- another byte is of the content
content_other : (c : ℕ) (text : List ℕ) → eqb c 34 ≡ false → content_at (c ∷ text) ≡ option_map (λ found. (c ∷ found.0, found.1 + 1)) (content_at text)
content_other c [] e = cond-false _ _ _ e
content_other c (d ∷ cs) e = cond-false _ _ _ e

-- one byte more of the content, doubled where it is a `"`
content_step : (c : ℕ) (cs rest : List ℕ) (b : Bool) → eqb c 34 ≡ b → content_at (with_doubled_quotes cs ++ 34 ∷ rest) ≡ Some (cs, length (with_doubled_quotes cs) + 1) → content_at ((cond b (34 ∷ 34 ∷ []) (c ∷ []) ++ with_doubled_quotes cs) ++ 34 ∷ rest) ≡ Some (c ∷ cs, length (cond b (34 ∷ 34 ∷ []) (c ∷ []) ++ with_doubled_quotes cs) + 1)
content_step c cs rest true e h =
    let same : 34 ≡ c = sym (quote_is c e) in
    let count : length (with_doubled_quotes cs) + 1 + 2 ≡ length (34 ∷ 34 ∷ with_doubled_quotes cs) + 1 = omega arith in
    ap (option_map (λ found. (34 ∷ found.0, found.1 + 2))) h ∙ (ap (λ n. Some (34 ∷ cs, n)) count ∙ ap (λ b. Some (b ∷ cs, length (34 ∷ 34 ∷ with_doubled_quotes cs) + 1)) same)
content_step c cs rest false e h =
    let count : length (with_doubled_quotes cs) + 1 + 1 ≡ length (c ∷ with_doubled_quotes cs) + 1 = omega arith in
    content_other c (with_doubled_quotes cs ++ 34 ∷ rest) e ∙ (ap (option_map (λ found. (c ∷ found.0, found.1 + 1))) h ∙ ap (λ n. Some (c ∷ cs, n)) count)

-- the content that is closed is found
pub content_written : (content rest : List ℕ) → first_passes (λ b. eqb b 34) rest ≡ false → content_at (with_doubled_quotes content ++ 34 ∷ rest) ≡ Some (content, length (with_doubled_quotes content) + 1)
content_written [] rest s = content_ends rest s
content_written (c ∷ cs) rest s = content_step c cs rest (eqb c 34) refl (content_written cs rest s)

-- a text that is found has a content without control characters
text_parts : (o : Option (List ℕ × ℕ)) (token : Token) (n : ℕ) → text_found o ≡ Some (token, n) → (found : List ℕ × ℕ) × (o ≡ Some found) × (list_any is_ascii_control found.0 ≡ false) × (◌≡◌ {A = Option (Token × ℕ)} (Some (tokens.Text found.0, found.1 + 1)) (Some (token, n)))
text_parts None token n h = absurd (cc)
text_parts (Some found) token n h =
    ⊎_elim (λ y. let none = y.1 in absurd (cc))
    (λ n. (found, refl, n.0, n.1))
    (chosen (list_any is_ascii_control found.0) _ _ _ h)

-- the text that is found is written
pub text_is_written : (rest : List ℕ) (token : Token) (n : ℕ) → token_at (34 ∷ rest) ≡ Some (token, n) → Found (34 ∷ rest) token n
text_is_written rest token n h =
    let p = text_parts (content_at rest) token n (sym (at_quote rest) ∙ h) in
    let f = content_found rest p.0 p.1 in
    found_as (34 ∷ rest) (tokens.Text p.0.0) token (p.0.1 + 1) n p.3 (record {
      piece = quotation_of p.0.0;
      rest = f.rest;
      whole = ap (λ x. 34 ∷ x) (f.whole ∙ sym (append_assoc (with_doubled_quotes p.0.0) (34 ∷ []) f.rest));
      count = omega (arith, f.count, length-append (with_doubled_quotes p.0.0) (34 ∷ []));
      some = omega arith;
      writes = (refl, p.2);
      stops = f.stops;
    })

-- the text that is written is found
pub text_written : (content rest : List ℕ) → list_any is_ascii_control content ≡ false → first_passes (λ b. eqb b 34) rest ≡ false → token_at (quotation_of content ++ rest) ≡ Some (tokens.Text content, length (quotation_of content))
text_written content rest clean s =
    let whole : (with_doubled_quotes content ++ 34 ∷ []) ++ rest ≡ with_doubled_quotes content ++ 34 ∷ rest = append_assoc (with_doubled_quotes content) (34 ∷ []) rest in
    let count : length (with_doubled_quotes content) + 1 + 1 ≡ length (quotation_of content) = omega (arith, length-append (with_doubled_quotes content) (34 ∷ [])) in
    at_quote ((with_doubled_quotes content ++ 34 ∷ []) ++ rest)
    ∙ (ap (λ x. text_found (content_at x)) whole
    ∙ (ap text_found (content_written content rest s)
    ∙ (cond-false _ _ _ clean ∙ ap (λ n. Some (tokens.Text content, n)) count)))

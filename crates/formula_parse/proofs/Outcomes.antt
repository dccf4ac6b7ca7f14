-- How reading a text ends.
use Rattle.std.proofs.Common.{◌≡◌, ◌⊎◌, inl, inr, ℕ, zero, suc, ◌+◌, ◌<◌, ◌≤◌, Bool, true, false, not, cond, ◌==◌, List, [], ◌∷◌, ◌++◌, length, take, drop, take_while, slice_index, Option, Some, None, option_map, Result, Err, refl, sym, ap, ◌∙◌, subst, arith}
use Rattle.std.proofs.lemmas.List.{append_assoc, append-nil, take-append-drop, length-append, length-take-le, length-drop}
use Rattle.std.proofs.lemmas.Bool.{and_from}
use Rattle.std.proofs.lemmas.List.Sums.{take_while-cons}
use Rattle.std.proofs.lemmas.Option.{same_Some}
use Rattle.cell_refs.proofs.PublicLaws.{front_and_rest, rest_stops}
use Rattle.formula_parse.specs.declared.faults.ParseFault.{ParseFault}
use Rattle.formula_parse.specs.declared.faults.ParseFault.TheVariants as faults
use Rattle.formula_parse.specs.declared.nodes.Node.{Node}
use Rattle.formula_parse.specs.declared.reader.Reader.{Reader}
use Rattle.formula_parse.specs.declared.tokens.Token.{Token}
use Rattle.formula_parse.specs.Lexing.{token_at}
use Rattle.formula_parse.specs.ReaderMachine.{Turn, Answer, Onward, turn_at, reader_behind, is_too_deep, tree_at_end, at_end, begun_behind, gap_len, read_from, read_token, read_found, read_on, answer_behind}
use Rattle.formula_parse.specs.Tokens.{Writes, are_spaces, goes_on_with}
use Rattle.formula_parse.proofs.LexFacts.LexingLaws.{found_is_written}
use Rattle.formula_parse.proofs.TokenReads.{Reads, is_full}

-- the token at the front of a text, if there is one, can't stand behind the reader
abbrev pub IsStuck : Reader → List ℕ → Type 0
IsStuck last text = (other : Token) (n : ℕ) → token_at text ≡ Some (other, n) → turn_at last.phase last.frames other ≡ None

-- the text is spaces, and what its end gives is the answer
pub record EndsWhole (last : Reader) (place : ℕ) (rest : List ℕ) (answer : Result Node ParseFault) : Type 0 where
  pub spaces : are_spaces rest ≡ true
  pub gives : answer ≡ at_end last (place + length rest) (tree_at_end last.phase last.frames)

-- what stands behind spaces can't stand there
pub record EndsStuck (last : Reader) (place : ℕ) (rest : List ℕ) (answer : Result Node ParseFault) : Type 0 where
  pub gap : List ℕ
  pub stop : List ℕ
  pub parts : rest ≡ gap ++ stop
  pub spaces : are_spaces gap ≡ true
  pub full : is_full stop ≡ true
  pub stuck : IsStuck last stop
  pub gives : answer ≡ Err (faults.Syntax (place + length gap + begun_behind last.phase stop))

-- one more token is too deep
pub record EndsDeep (last : Reader) (rest : List ℕ) (answer : Result Node ParseFault) : Type 0 where
  pub gap : List ℕ
  pub piece : List ℕ
  pub behind : List ℕ
  pub token : Token
  pub next : Reader
  pub parts : rest ≡ gap ++ (piece ++ behind)
  pub spaces : are_spaces gap ≡ true
  pub writes : Writes piece token
  pub apart : goes_on_with token behind ≡ false
  pub steps : reader_behind last token ≡ Some next
  pub deep : is_too_deep next.frames ≡ true
  pub gives : answer ≡ Err faults.TooDeep

-- how reading ends behind the tokens that were read
abbrev pub Ends : Reader → ℕ → List ℕ → Result Node ParseFault → Type 0
Ends last place rest answer = EndsWhole last place rest answer ⊎ (EndsStuck last place rest answer ⊎ EndsDeep last rest answer)

-- what was read, and how it ended
pub record Outcome (reader : Reader) (place : ℕ) (text : List ℕ) (answer : Result Node ParseFault) : Type 0 where
  pub front : List ℕ
  pub rest : List ℕ
  pub tokens : List Token
  pub last : Reader
  pub parts : text ≡ front ++ rest
  pub reads : Reads reader front rest tokens last
  pub ends : Ends last (place + length front) rest answer

-- a row of spaces is one
spaces_when : (test : Bool) (b : ℕ) (bs : List ℕ) → (b == 32) ≡ test → are_spaces (take_while (λ c. c == 32) bs) ≡ true → are_spaces (cond (b == 32) (b ∷ take_while (λ c. c == 32) bs) []) ≡ true
spaces_when true b bs e h = subst (λ t. are_spaces (cond t (b ∷ take_while (λ c. c == 32) bs) []) ≡ true) (sym e) (and_from (b == 32) (are_spaces (take_while (λ c. c == 32) bs)) e h)
spaces_when false b bs e h = subst (λ t. are_spaces (cond t (b ∷ take_while (λ c. c == 32) bs) []) ≡ true) (sym e) refl

gap_spaces : (text : List ℕ) → are_spaces (take_while (λ b. b == 32) text) ≡ true
gap_spaces [] = refl
gap_spaces (b ∷ bs) = subst (λ l. are_spaces l ≡ true) (sym (take_while-cons (λ c. c == 32) b bs)) (spaces_when (b == 32) b bs refl (gap_spaces bs))

-- behind a gap no space stands
full_behind : (text : List ℕ) (b : ℕ) (bs : List ℕ) → drop (gap_len text) text ≡ b ∷ bs → is_full (b ∷ bs) ≡ true
full_behind text b bs h = ap not (subst (λ l. (slice_index l 0 == 32) ≡ false) h (rest_stops (λ c. c == 32) text refl))

none_mapped : (f : Turn → Reader) (o : Option Turn) → option_map f o ≡ None → o ≡ None
none_mapped f None h = refl
none_mapped f (Some x) h = cc

-- a token that can't stand behind the reader
refused_turn : (last : Reader) (token : Token) → reader_behind last token ≡ None → turn_at last.phase last.frames token ≡ None
unfolding reader_behind
refused_turn last token h = none_mapped _ (turn_at last.phase last.frames token) h

-- reading on behind one token
one_more : (reader next : Reader) (place : ℕ) (text gap piece behind : List ℕ) (token : Token) (answer : Result Node ParseFault) → text ≡ gap ++ (piece ++ behind) → are_spaces gap ≡ true → Writes piece token → goes_on_with token behind ≡ false → reader_behind reader token ≡ Some next → is_too_deep next.frames ≡ false → Outcome next (place + length gap + length piece) behind answer → Outcome reader place text answer
one_more reader next place text gap piece behind token answer at spaces writes apart steps shallow more = record {
  front = gap ++ (piece ++ more.front);
  rest = more.rest;
  tokens = token ∷ more.tokens;
  last = more.last;
  parts = at ∙ (ap (λ b. gap ++ (piece ++ b)) more.parts ∙ (ap (λ x. gap ++ x) (sym (append_assoc piece more.front more.rest)) ∙ sym (append_assoc gap (piece ++ more.front) more.rest)));
  reads = (gap, piece, more.front, next, refl, spaces, writes, subst (λ b. goes_on_with token b ≡ false) more.parts apart, steps, shallow, more.reads);
  ends = subst (λ n. Ends more.last n more.rest answer) (lengths gap piece more.front place) more.ends;
}
  where
    lengths : (gap piece front : List ℕ) (place : ℕ) → place + length gap + length piece + length front ≡ place + length (gap ++ (piece ++ front))
    lengths gap piece front place = omega (arith, length-append gap (piece ++ front), length-append piece front)

-- an end directly behind the reader
at_once : (reader : Reader) (place : ℕ) (text : List ℕ) (answer : Result Node ParseFault) → Ends reader place text answer → Outcome reader place text answer
at_once reader place text answer e = record {
  front = [];
  rest = text;
  tokens = [];
  last = reader;
  parts = refl;
  reads = (refl, refl);
  ends = subst (λ n. Ends reader n text answer) (zero_more place) e;
}
  where
    zero_more : (place : ℕ) → place ≡ place + length {A = ℕ} []
    zero_more place = omega arith

-- how reading from a place ends, where there is fuel for each byte
abbrev ReadsWith : ℕ → Type 0
ReadsWith fuel = (reader : Reader) (place : ℕ) (text : List ℕ) → length text < fuel → Outcome reader place text (read_from fuel reader place text)

-- the rest of a text behind a piece of one byte at least is shorter
shorter : (fuel n : ℕ) (gap stop : List ℕ) → length (gap ++ stop) < suc fuel → 0 < n → n ≤ length stop → length (drop n stop) < fuel
shorter fuel n gap stop h z w = omega (arith, h, z, w, length-append gap stop, length-drop n stop)

-- the same behind a token, by its depth
outcome_deep : (fuel : ℕ) → ReadsWith fuel → (reader next : Reader) (place : ℕ) (gap stop : List ℕ) → length (gap ++ stop) < suc fuel → are_spaces gap ≡ true → (token : Token) (n : ℕ) → token_at stop ≡ Some (token, n) → reader_behind reader token ≡ Some next → (deep : Bool) → is_too_deep next.frames ≡ deep → Outcome reader place (gap ++ stop) (answer_behind (read_from fuel) (cond deep (Answer (Err faults.TooDeep)) (Onward next (place + length gap + n) (drop n stop))))
outcome_deep fuel ih reader next place gap stop h s token n e m true d =
    let found = found_is_written stop token n e in
    at_once reader place (gap ++ stop) _ (inr (inr (record {
      gap = gap;
      piece = take n stop;
      behind = drop n stop;
      token = token;
      next = next;
      parts = ap (λ x. gap ++ x) (sym (take-append-drop n stop));
      spaces = s;
      writes = found.2;
      apart = found.3;
      steps = m;
      deep = d;
      gives = refl;
    })))
outcome_deep fuel ih reader next place gap stop h s token n e m false d =
    let found = found_is_written stop token n e in
    one_more reader next place (gap ++ stop) gap (take n stop) (drop n stop) token _ (ap (λ x. gap ++ x) (sym (take-append-drop n stop))) s found.2 found.3 m d
    (subst (λ len. Outcome next (place + length gap + len) (drop n stop) (read_from fuel next (place + length gap + n) (drop n stop))) (sym (length-take-le n stop found.1)) (ih next (place + length gap + n) (drop n stop) (shorter fuel n gap stop h found.0 found.1)))

-- what can't stand there
outcome_stuck : (reader : Reader) (place : ℕ) (gap stop : List ℕ) → are_spaces gap ≡ true → is_full stop ≡ true → IsStuck reader stop → Outcome reader place (gap ++ stop) (Err (faults.Syntax (place + length gap + begun_behind reader.phase stop)))
outcome_stuck reader place gap stop s f stuck = at_once reader place (gap ++ stop) _ (inr (inl (record {
  gap = gap;
  stop = stop;
  parts = refl;
  spaces = s;
  full = f;
  stuck = stuck;
  gives = refl;
})))

one_found : (a b : Token × ℕ) → Some a ≡ Some b → a.0 ≡ b.0
one_found a b h = ap (λ x. x.0) (same_Some a b h)

-- the same with what the found token makes of the reader
outcome_on : (fuel : ℕ) → ReadsWith fuel → (reader : Reader) (place : ℕ) (gap stop : List ℕ) → length (gap ++ stop) < suc fuel → are_spaces gap ≡ true → is_full stop ≡ true → (token : Token) (n : ℕ) → token_at stop ≡ Some (token, n) → (made : Option Reader) → reader_behind reader token ≡ made → Outcome reader place (gap ++ stop) (answer_behind (read_from fuel) (read_on reader (place + length gap) stop n made))
outcome_on fuel ih reader place gap stop h s f token n e None m = outcome_stuck reader place gap stop s f (λ other k o. subst (λ t. turn_at reader.phase reader.frames t ≡ None) (one_found (token, n) (other, k) (sym e ∙ o)) (refused_turn reader token m))
outcome_on fuel ih reader place gap stop h s f token n e (Some next) m = outcome_deep fuel ih reader next place gap stop h s token n e m (is_too_deep next.frames) refl

not_found : (x : Token × ℕ) → None ≡ Some x → ⊥
not_found x h = cc

-- the same with what is found there
outcome_found : (fuel : ℕ) → ReadsWith fuel → (reader : Reader) (place : ℕ) (gap stop : List ℕ) → length (gap ++ stop) < suc fuel → are_spaces gap ≡ true → is_full stop ≡ true → (found : Option (Token × ℕ)) → token_at stop ≡ found → Outcome reader place (gap ++ stop) (answer_behind (read_from fuel) (read_found reader (place + length gap) stop found))
outcome_found fuel ih reader place gap stop h s f None e = outcome_stuck reader place gap stop s f (λ other k o. absurd (not_found (other, k) (sym e ∙ o)))
outcome_found fuel ih reader place gap stop h s f (Some found) e = outcome_on fuel ih reader place gap stop h s f found.0 found.1 e (reader_behind reader found.0) refl

-- the same behind spaces
outcome_token : (fuel : ℕ) → ReadsWith fuel → (reader : Reader) (place : ℕ) (gap stop : List ℕ) → length (gap ++ stop) < suc fuel → are_spaces gap ≡ true → ((b : ℕ) (bs : List ℕ) → stop ≡ b ∷ bs → is_full (b ∷ bs) ≡ true) → Outcome reader place (gap ++ stop) (answer_behind (read_from fuel) (read_token reader (place + length gap) stop))
outcome_token fuel ih reader place gap [] h s f = at_once reader place (gap ++ []) _ (inl (record {
  spaces = subst (λ g. are_spaces g ≡ true) (sym (append-nil gap)) s;
  gives = ap (λ g. at_end reader (place + length g) (tree_at_end reader.phase reader.frames)) (sym (append-nil gap));
}))
outcome_token fuel ih reader place gap (b ∷ bs) h s f = outcome_found fuel ih reader place gap (b ∷ bs) h s (f b bs refl) (token_at (b ∷ bs)) refl

-- how reading from a place ends
pub outcome_from : (fuel : ℕ) (reader : Reader) (place : ℕ) (text : List ℕ) → length text < fuel → Outcome reader place text (read_from fuel reader place text)
outcome_from zero reader place text h = absurd (omega (arith, h))
outcome_from (suc fuel) reader place text h =
    let gap = take_while (λ b. b == 32) text in
    let stop = drop (gap_len text) text in
    let parts : text ≡ gap ++ stop = front_and_rest (λ b. b == 32) text in
    subst (λ t. Outcome reader place t (answer_behind (read_from fuel) (read_token reader (place + length gap) stop))) (sym parts)
    (outcome_token fuel (outcome_from fuel) reader place gap stop (subst (λ t. length t < suc fuel) parts h) (gap_spaces text) (full_behind text))

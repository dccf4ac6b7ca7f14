-- What a reader reads of a text, token by token.
use Rattle.std.proofs.Common.{◌≡◌, ℕ, Bool, true, false, not, ◌&&◌, ◌==◌, eqb-true, List, [], ◌∷◌, ◌++◌, length, take, drop, Some, None, refl, sym, ap, ◌∙◌, subst}
use Rattle.std.proofs.lemmas.List.{append_assoc, append-nil}
use Rattle.std.proofs.lemmas.Bool.{and_parts}
use Rattle.std.proofs.lemmas.Option.{same_Some}
use Rattle.std.proofs.Math.Seq.{drop-append_seam, take-append_seam}
use Rattle.formula_parse.specs.declared.reader.Reader.{Reader}
use Rattle.formula_parse.specs.declared.tokens.Token.{Token}
use Rattle.formula_parse.specs.declared.tokens.Token.TheVariants as tokens
use Rattle.formula_parse.specs.declared.operators.Operator.TheVariants as operators
use Rattle.cell_values.specs.declared.comparison.CompareOp.TheVariants as compare
use Rattle.formula_parse.specs.Lexing.{token_at}
use Rattle.formula_parse.specs.ReaderMachine.{reader_behind, is_too_deep}
use Rattle.formula_parse.specs.Tokens.{Writes, IsSpelled, are_spaces, goes_on, goes_on_with}
use Rattle.formula_parse.proofs.LexFacts.LexingLaws.{written_is_found}

-- the reader reads these tokens, which are the front of a text before this rest, and nothing is too deep
abbrev pub Reads : Reader → List ℕ → List ℕ → List Token → Reader → Type 0
Reads reader front rest [] last = (front ≡ []) × (last ≡ reader)
Reads reader front rest (token ∷ tokens) last = (gap piece behind : List ℕ) × (next : Reader) × (front ≡ gap ++ (piece ++ behind)) × (are_spaces gap ≡ true) × Writes piece token × (goes_on_with token (behind ++ rest) ≡ false) × (reader_behind reader token ≡ Some next) × (is_too_deep next.frames ≡ false) × Reads next behind rest tokens last

-- a token that doesn't go on with one rest doesn't with another
abbrev pub IsSafe : List ℕ → List ℕ → Type 0
IsSafe rest other = (token : Token) → goes_on_with token rest ≡ false → goes_on_with token other ≡ false

-- no token goes on with a space
pub space_ends : (token : Token) → goes_on token 32 ≡ false
space_ends (tokens.Number n) = refl
space_ends (tokens.Text t) = refl
space_ends (tokens.Error e) = refl
space_ends (tokens.Boolean b) = refl
space_ends (tokens.Reference r) = refl
space_ends (tokens.Area a b) = refl
space_ends (tokens.Call callee) = refl
space_ends tokens.Open = refl
space_ends tokens.Close = refl
space_ends tokens.Comma = refl
space_ends (tokens.Operator (operators.Compare compare.Eq)) = refl
space_ends (tokens.Operator (operators.Compare compare.Ne)) = refl
space_ends (tokens.Operator (operators.Compare compare.Lt)) = refl
space_ends (tokens.Operator (operators.Compare compare.Gt)) = refl
space_ends (tokens.Operator (operators.Compare compare.Le)) = refl
space_ends (tokens.Operator (operators.Compare compare.Ge)) = refl
space_ends (tokens.Operator operators.Join) = refl
space_ends (tokens.Operator operators.Add) = refl
space_ends (tokens.Operator operators.Subtract) = refl
space_ends (tokens.Operator operators.Multiply) = refl
space_ends (tokens.Operator operators.Divide) = refl

-- no token goes on with a `)`
pub close_ends : (token : Token) → goes_on token 41 ≡ false
close_ends (tokens.Number n) = refl
close_ends (tokens.Text t) = refl
close_ends (tokens.Error e) = refl
close_ends (tokens.Boolean b) = refl
close_ends (tokens.Reference r) = refl
close_ends (tokens.Area a b) = refl
close_ends (tokens.Call callee) = refl
close_ends tokens.Open = refl
close_ends tokens.Close = refl
close_ends tokens.Comma = refl
close_ends (tokens.Operator (operators.Compare compare.Eq)) = refl
close_ends (tokens.Operator (operators.Compare compare.Ne)) = refl
close_ends (tokens.Operator (operators.Compare compare.Lt)) = refl
close_ends (tokens.Operator (operators.Compare compare.Gt)) = refl
close_ends (tokens.Operator (operators.Compare compare.Le)) = refl
close_ends (tokens.Operator (operators.Compare compare.Ge)) = refl
close_ends (tokens.Operator operators.Join) = refl
close_ends (tokens.Operator operators.Add) = refl
close_ends (tokens.Operator operators.Subtract) = refl
close_ends (tokens.Operator operators.Multiply) = refl
close_ends (tokens.Operator operators.Divide) = refl

-- a text that begins with a space is safe, and so is one without bytes
pub space_is_safe : (rest other : List ℕ) → IsSafe rest (32 ∷ other)
space_is_safe rest other token h = space_ends token

pub end_is_safe : (rest : List ℕ) → IsSafe rest []
end_is_safe rest token h = refl

-- texts that begin with the same byte are safe
pub head_is_safe : (b : ℕ) (rest other : List ℕ) → IsSafe (b ∷ rest) (b ∷ other)
head_is_safe b rest other token h = h

-- what stands before a rest that is safe may stand before the other
pub safe_behind : (behind rest other : List ℕ) → IsSafe rest other → IsSafe (behind ++ rest) (behind ++ other)
safe_behind [] rest other s = s
safe_behind (b ∷ behind) rest other s = λ token h. h

-- the same tokens are read before another rest that is safe
pub read_before : (ts : List Token) (reader : Reader) (front rest other : List ℕ) (last : Reader) → IsSafe rest other → Reads reader front rest ts last → Reads reader front other ts last
read_before [] reader front rest other last s h = h
read_before (t ∷ ts) reader front rest other last s (gap, piece, behind, next, at, spaces, writes, ends, steps, shallow, more) =
    (gap, piece, behind, next, at, spaces, writes, safe_behind behind rest other s t ends, steps, shallow, read_before ts next behind rest other last s more)

regrouped : (gap piece behind front rest : List ℕ) → front ≡ gap ++ (piece ++ behind) → front ++ rest ≡ gap ++ (piece ++ (behind ++ rest))
regrouped gap piece behind front rest at = ap (λ f. f ++ rest) at ∙ (append_assoc gap (piece ++ behind) rest ∙ ap (λ x. gap ++ x) (append_assoc piece behind rest))

-- the tokens read, and those that the rest is spelled with, spell the whole
pub spelled_by : (ts us : List Token) (reader : Reader) (front rest : List ℕ) (last : Reader) → Reads reader front rest ts last → IsSpelled rest us → IsSpelled (front ++ rest) (ts ++ us)
spelled_by [] us reader front rest last h s = subst (λ f. IsSpelled (f ++ rest) us) (sym h.0) s
spelled_by (t ∷ ts) us reader front rest last (gap, piece, behind, next, at, spaces, writes, ends, steps, shallow, more) s =
    (gap, piece, behind ++ rest, regrouped gap piece behind front rest at, spaces, writes, ends, spelled_by ts us next behind rest last more s)

-- no token begins with a space
no_space : (rest : List ℕ) → token_at (32 ∷ rest) ≡ None
unfolding token_at
no_space rest = refl

none_at_end : token_at [] ≡ None
unfolding token_at
none_at_end = refl

-- a text doesn't begin with a space
abbrev pub is_full : List ℕ → Bool
is_full [] = false
is_full (b ∷ bs) = not (b == 32)

not_some : (found : Token × ℕ) → None ≡ Some found → ⊥
not_some found h = cc

full_if : (piece : List ℕ) (token : Token) (n : ℕ) → token_at piece ≡ Some (token, n) → is_full piece ≡ true
full_if [] token n h = absurd (not_some (token, n) (sym none_at_end ∙ h))
full_if (b ∷ bs) token n h = full_when (b == 32) refl
  where
    full_when : (test : Bool) → (b == 32) ≡ test → not (b == 32) ≡ true
    full_when false e = ap not e
    full_when true e = let at : b ≡ 32 = eqb-true b 32 e in absurd (not_some (token, n) (sym (no_space bs) ∙ subst (λ c. token_at (c ∷ bs) ≡ Some (token, n)) at h))

-- a piece that writes a token begins with no space
pub piece_is_full : (piece : List ℕ) (token : Token) → Writes piece token → is_full piece ≡ true
piece_is_full piece token w = full_if piece token (length piece) (subst (λ p. token_at p ≡ Some (token, length piece)) (append-nil piece) (written_is_found piece [] token w refl))

-- a text that is full in front is no row of spaces
pub full_no_spaces : (piece rest : List ℕ) → is_full piece ≡ true → are_spaces (piece ++ rest) ≡ false
full_no_spaces [] rest h = cc
full_no_spaces (b ∷ bs) rest h = no_row (b == 32) (are_spaces (bs ++ rest)) h
  where
    no_row : (test more : Bool) → not test ≡ true → (test && more) ≡ false
    no_row true more h = cc
    no_row false more h = refl

cons_parts : (b c : ℕ) (bs cs : List ℕ) → b ∷ bs ≡ c ∷ cs → (b ≡ c) × (bs ≡ cs)
cons_parts b c bs cs h = (cc, cc)

same_cons : (b c : ℕ) (bs cs : List ℕ) → b ≡ c → bs ≡ cs → b ∷ bs ≡ c ∷ cs
same_cons b c bs cs h t = cc

same_token : (t u : Token) (us ts vs : List Token) → t ≡ u → us ≡ ts ++ vs → u ∷ us ≡ (t ∷ ts) ++ vs
same_token t u us ts vs h e = cc

pub no_spaces : (gap piece rest : List ℕ) → is_full piece ≡ true → are_spaces gap ≡ true → are_spaces (gap ++ (piece ++ rest)) ≡ true → ⊥
no_spaces [] piece rest f g h = let e = full_no_spaces piece rest f in cc
no_spaces (b ∷ gap) piece rest f g h = no_spaces gap piece rest f (and_parts (b == 32) (are_spaces gap) g).1 (and_parts (b == 32) (are_spaces (gap ++ (piece ++ rest))) h).1

-- the spaces before a full text are those of every such division
pub same_gap : (gap other xs ys : List ℕ) → are_spaces gap ≡ true → are_spaces other ≡ true → is_full xs ≡ true → is_full ys ≡ true → gap ++ xs ≡ other ++ ys → (gap ≡ other) × (xs ≡ ys)
same_gap [] [] xs ys g o x y h = (refl, h)
same_gap [] (c ∷ other) xs ys g o x y h = absurd (spaces_not_full xs (c ∷ (other ++ ys)) c (other ++ ys) x (and_parts (c == 32) (are_spaces other) o).0 h refl)
  where
    spaces_not_full : (xs zs : List ℕ) (c : ℕ) (cs : List ℕ) → is_full xs ≡ true → (c == 32) ≡ true → xs ≡ zs → zs ≡ c ∷ cs → ⊥
    spaces_not_full xs zs c cs x s h e = let f : is_full (c ∷ cs) ≡ true = subst (λ l. is_full l ≡ true) (h ∙ e) x in let g : not true ≡ true = subst (λ t. not t ≡ true) s f in cc
same_gap (b ∷ gap) [] xs ys g o x y h = absurd (front_not_full ys b (gap ++ xs) y (and_parts (b == 32) (are_spaces gap) g).0 (sym h))
  where
    front_not_full : (ys : List ℕ) (c : ℕ) (cs : List ℕ) → is_full ys ≡ true → (c == 32) ≡ true → ys ≡ c ∷ cs → ⊥
    front_not_full ys c cs x s h = let f : is_full (c ∷ cs) ≡ true = subst (λ l. is_full l ≡ true) h x in let g : not true ≡ true = subst (λ t. not t ≡ true) s f in cc
same_gap (b ∷ gap) (c ∷ other) xs ys g o x y h =
    let parts = same_gap gap other xs ys (and_parts (b == 32) (are_spaces gap) g).1 (and_parts (c == 32) (are_spaces other) o).1 x y (cons_parts b c (gap ++ xs) (other ++ ys) h).1 in
    (same_cons b c gap other (cons_parts b c (gap ++ xs) (other ++ ys) h).0 parts.0, parts.1)

pub full_front : (xs ys : List ℕ) → is_full xs ≡ true → is_full (xs ++ ys) ≡ true
full_front [] ys h = cc
full_front (b ∷ bs) ys h = h

-- two pieces that are found at the front of one text are one
pub same_piece : (piece behind other_piece other_behind : List ℕ) (token other : Token) → Writes piece token → goes_on_with token behind ≡ false → Writes other_piece other → goes_on_with other other_behind ≡ false → piece ++ behind ≡ other_piece ++ other_behind → (token ≡ other) × (piece ≡ other_piece) × (behind ≡ other_behind)
same_piece piece behind other_piece other_behind token other w e v f h =
    let one : token_at (piece ++ behind) ≡ Some (token, length piece) = written_is_found piece behind token w e in
    let two : token_at (piece ++ behind) ≡ Some (other, length other_piece) = subst (λ text. token_at text ≡ Some (other, length other_piece)) (sym h) (written_is_found other_piece other_behind other v f) in
    let both : (token, length piece) ≡ (other, length other_piece) = same_Some _ _ (sym one ∙ two) in
    let len : length piece ≡ length other_piece = ap (λ x. x.1) both in
    let pieces : piece ≡ other_piece = sym (take-append_seam piece behind) ∙ (ap (λ n. take n (piece ++ behind)) len ∙ (ap (λ text. take (length other_piece) text) h ∙ take-append_seam other_piece other_behind)) in
    (ap (λ x. x.0) both, pieces, sym (drop-append_seam piece behind) ∙ (ap (λ n. drop n (piece ++ behind)) len ∙ (ap (λ text. drop (length other_piece) text) h ∙ drop-append_seam other_piece other_behind)))

-- tokens that spell the whole text begin with those that are read, and the others spell the rest
pub spelled_behind : (ts us : List Token) (reader : Reader) (front rest : List ℕ) (last : Reader) → Reads reader front rest ts last → IsSpelled (front ++ rest) us → (vs : List Token) × (us ≡ ts ++ vs) × IsSpelled rest vs
spelled_behind [] us reader front rest last h s = (us, refl, subst (λ f. IsSpelled (f ++ rest) us) h.0 s)
spelled_behind (t ∷ ts) [] reader front rest last (gap, piece, behind, next, at, spaces, writes, ends, steps, shallow, more) s =
    absurd (no_spaces gap piece (behind ++ rest) (piece_is_full piece t writes) spaces (subst (λ text. are_spaces text ≡ true) (regrouped gap piece behind front rest at) s))
spelled_behind (t ∷ ts) (u ∷ us) reader front rest last (gap, piece, behind, next, at, spaces, writes, ends, steps, shallow, more) (gap', piece', behind', at', spaces', writes', ends', more') =
    let gaps = same_gap gap gap' (piece ++ (behind ++ rest)) (piece' ++ behind') spaces spaces' (full_front piece (behind ++ rest) (piece_is_full piece t writes)) (full_front piece' behind' (piece_is_full piece' u writes')) (sym (regrouped gap piece behind front rest at) ∙ at') in
    let same = same_piece piece (behind ++ rest) piece' behind' t u writes ends writes' ends' gaps.1 in
    let inner = spelled_behind ts us next behind rest last more (subst (λ text. IsSpelled text us) (sym same.2) more') in
    (inner.0, same_token t u us ts inner.0 same.0 inner.1, inner.2)

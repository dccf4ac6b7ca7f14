-- What the token at a place of a text makes of the reader.
use Rattle.std.proofs.Common.{◌≡◌, ℕ, ◌+◌, ◌<◌, Bool, true, false, cond, List, [], ◌∷◌, length, drop, Option, Some, None, Result, Ok, Err, refl, ap, sym, ◌∙◌, length-drop, ◌⊎◌, inl, inr, arith}
use Rattle.std.proofs.lemmas.List.{drop-drop}
use Rattle.formula_parse.specs.declared.faults.ParseFault.{ParseFault}
use Rattle.formula_parse.specs.declared.faults.ParseFault.TheVariants as faults
use Rattle.formula_parse.specs.declared.reader.Reader.{Reader}
use Rattle.formula_parse.specs.declared.tokens.Token.{Token}
use Rattle.formula_parse.specs.Lexing.{token_at, begun_len}
use Rattle.formula_parse.specs.ReaderMachine.{Answer, Onward, read_token, read_found, read_on, reader_behind, awaits_operand, is_too_deep}

some_text : (reader : Reader) (place : ℕ) (text : List ℕ) → 0 < length text → read_token reader place text ≡ read_found reader place text (token_at text)
some_text reader place [] l = absurd (omega arith)
some_text reader place (b ∷ bs) l = refl

-- before the end of the text the token there decides
at_token : (reader : Reader) (text : List ℕ) (place : ℕ) (o : Option (Token × ℕ)) → place < length text → token_at (drop place text) ≡ o → read_token reader place (drop place text) ≡ read_found reader place (drop place text) o
at_token reader text place o l t =
    some_text reader place (drop place text) (omega (arith, length-drop place text)) ∙ ap (read_found reader place (drop place text)) t

-- where no token stands, the fault is behind what has begun
pub no_token : (reader : Reader) (text : List ℕ) (place : ℕ) (awaits : Bool) (fault : ParseFault) → place < length text → token_at (drop place text) ≡ None → awaits ≡ awaits_operand reader.phase → fault ≡ faults.Syntax (place + cond awaits (begun_len (drop place text)) 0) → Answer (Err fault) ≡ read_token reader place (drop place text)
no_token reader text place awaits fault l t a f = rw (f, a) (sym (at_token reader text place None l t))

-- a token, and what the reader makes of it
on_token : (reader : Reader) (text : List ℕ) (place : ℕ) (token : Token) (len : ℕ) (next : Option Reader) → place < length text → token_at (drop place text) ≡ Some (token, len) → reader_behind reader token ≡ next → read_token reader place (drop place text) ≡ read_on reader place (drop place text) len next
on_token reader text place token len next l t s =
    at_token reader text place (Some (token, len)) l t ∙ ap (read_on reader place (drop place text) len) s

-- a token that can't stand there
pub no_turn : (reader : Reader) (text : List ℕ) (place : ℕ) (token : Token) (len : ℕ) (awaits : Bool) (fault : ParseFault) → place < length text → token_at (drop place text) ≡ Some (token, len) → reader_behind reader token ≡ None → awaits ≡ awaits_operand reader.phase → fault ≡ faults.Syntax (place + cond awaits (begun_len (drop place text)) 0) → Answer (Err fault) ≡ read_token reader place (drop place text)
no_turn reader text place token len awaits fault l t s a f =
    rw (f, a) (sym (on_token reader text place token len None l t s))

-- a token behind which too much is open
pub too_deep_turn : (reader next : Reader) (text : List ℕ) (place : ℕ) (token : Token) (len : ℕ) → place < length text → token_at (drop place text) ≡ Some (token, len) → reader_behind reader token ≡ Some next → is_too_deep next.frames ≡ true → Answer (Err faults.TooDeep) ≡ read_token reader place (drop place text)
too_deep_turn reader next text place token len l t s d =
    sym (on_token reader text place token len (Some next) l t s ∙ ap (λ b. cond b (Answer (Err faults.TooDeep)) (Onward next (place + len) (drop len (drop place text)))) d)

-- a token behind which reading goes on
pub onward_turn : (reader next : Reader) (text : List ℕ) (place : ℕ) (token : Token) (len : ℕ) → place < length text → token_at (drop place text) ≡ Some (token, len) → reader_behind reader token ≡ Some next → is_too_deep next.frames ≡ false → Onward next (place + len) (drop (place + len) text) ≡ read_token reader place (drop place text)
onward_turn reader next text place token len l t s d =
    ap (Onward next (place + len)) (sym (drop-drop len place text))
    ∙ sym (on_token reader text place token len (Some next) l t s ∙ ap (λ b. cond b (Answer (Err faults.TooDeep)) (Onward next (place + len) (drop len (drop place text)))) d)

-- what a call answers where it had memory
pub answered : {A : Type 0} (x y : A) → (◌≡◌ {A = Result A ParseFault} (Ok x) (Err faults.Memory)) ⊎ (◌≡◌ {A = Result A ParseFault} (Ok x) (Ok y)) → y ≡ x
answered x y (inl e) = absurd (cc)
answered x y (inr e) = cc

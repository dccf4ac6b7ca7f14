-- Reading a text turn by turn, as the code counts the turns.
use Rattle.std.proofs.Common.{◌≡◌, ℕ, suc, ◌+◌, ◌-◌, ◌<◌, ◌≤◌, eqb, nat_lt, ◌&&◌, Bool, true, false, cond, List, [], ◌∷◌, length, drop, get_or, Result, Ok, Err, refl, ap, sym, ◌∙◌, ◌⊎◌, inl, inr, arith}
use Rattle.std.proofs.lemmas.Bool.Decides.{nat_tests}
use Rattle.std.proofs.lemmas.List.{drop-drop, at_drop_all}
use Rattle.formula_parse.specs.declared.faults.ParseFault.{ParseFault}
use Rattle.formula_parse.specs.declared.faults.ParseFault.TheVariants as faults
use Rattle.formula_parse.specs.declared.nodes.Node.{Node}
use Rattle.formula_parse.specs.declared.reader.Reader.{Reader}
use Rattle.formula_parse.specs.ReaderMachine.{Answer, Onward, first_reader, answer_behind, at_end, gap_len, read_from, read_next, read_text, read_token, tree_at_end}

-- reading begins behind the `=`
pub begins : (text : List ℕ) (reader : Reader) → (nat_lt 0 (length text) && eqb (get_or text 0 0) 61) ≡ true → reader ≡ first_reader → read_text text ≡ read_from (length text - 0) reader 1 (drop 1 text)
begins [] reader e r = absurd (no_byte e)
  where
    no_byte : (nat_lt 0 0 && eqb 0 61) ≡ true → ⊥
    no_byte h = cc
begins (b ∷ rest) reader e r =
    let whole : suc (length rest) ≡ length (b ∷ rest) - 0 = omega arith in
    chosen (eqb b 61) (second _ _ e) ∙ (ap (λ n. read_from n first_reader 1 rest) whole ∙ ap (λ x. read_from (length (b ∷ rest) - 0) x 1 rest) (sym r))
  where
    second : (x y : Bool) → (x && y) ≡ true → y ≡ true
    second true y h = h
    second false y h = absurd (cc)

    chosen : (t : Bool) → t ≡ true → cond t (read_from (suc (length rest)) first_reader 1 rest) (Err (faults.Syntax 0)) ≡ read_from (suc (length rest)) first_reader 1 rest
    chosen t h = rw h refl

-- without it the text is no formula
pub begins_not : (text : List ℕ) → (nat_lt 0 (length text) && eqb (get_or text 0 0) 61) ≡ false → Err (faults.Syntax 0) ≡ read_text text
begins_not [] e = refl
begins_not (b ∷ rest) e = refused (eqb b 61) (second (length rest) (eqb b 61) e)
  where
    second : (n : ℕ) (y : Bool) → (nat_lt 0 (suc n) && y) ≡ false → y ≡ false
    second n y h = grind (arith, nat_tests)

    refused : (t : Bool) → t ≡ false → Err (faults.Syntax 0) ≡ cond t (read_from (suc (length rest)) first_reader 1 rest) (Err (faults.Syntax 0))
    refused t h = rw h refl

-- where reading stands after so many turns
abbrev pub Reads : List ℕ → ℕ → Reader → ℕ → Type 0
Reads text turns reader place = read_text text ≡ read_from (length text - turns) reader place (drop place text)

one_turn : (text : List ℕ) (turns : ℕ) (reader : Reader) (place : ℕ) → turns < length text → Reads text turns reader place → read_text text ≡ answer_behind (read_from (length text - (turns + 1))) (read_next reader place (drop place text))
one_turn text turns reader place l r =
    let n : length text - turns ≡ suc (length text - (turns + 1)) = omega arith in
    r ∙ ap (λ fuel. read_from fuel reader place (drop place text)) n

-- a turn that ends with an answer, and one behind which reading goes on
pub turn_answers : (text : List ℕ) (turns : ℕ) (reader : Reader) (place : ℕ) (answer : Result Node ParseFault) → turns < length text → Reads text turns reader place → Answer answer ≡ read_next reader place (drop place text) → answer ≡ read_text text
turn_answers text turns reader place answer l r e =
    sym (one_turn text turns reader place l r ∙ ap (answer_behind (read_from (length text - (turns + 1)))) (sym e))

pub turn_goes_on : (text : List ℕ) (turns : ℕ) (reader next : Reader) (place behind : ℕ) → turns < length text → Reads text turns reader place → Onward next behind (drop behind text) ≡ read_next reader place (drop place text) → Reads text (turns + 1) next behind
turn_goes_on text turns reader next place behind l r e =
    one_turn text turns reader place l r ∙ ap (answer_behind (read_from (length text - (turns + 1)))) (sym e)

-- after as many turns as there are bytes nothing is read any more
pub turns_end : (text : List ℕ) (turns : ℕ) (reader : Reader) (place : ℕ) → length text ≤ turns → Reads text turns reader place → Err (faults.Syntax place) ≡ read_text text
turns_end text turns reader place l r =
    let n : length text - turns ≡ 0 = omega arith in
    sym (r ∙ ap (λ fuel. read_from fuel reader place (drop place text)) n)

-- the token behind the spaces is read
pub behind_gap : (reader : Reader) (text : List ℕ) (place start : ℕ) → start ≡ place + gap_len (drop place text) → read_next reader place (drop place text) ≡ read_token reader start (drop start text)
behind_gap reader text place start e =
    ap (read_token reader (place + gap_len (drop place text))) (drop-drop (gap_len (drop place text)) place text)
    ∙ ap (λ n. read_token reader n (drop n text)) (sym e)

-- at the end of the text nothing is left
pub at_text_end : (reader : Reader) (text : List ℕ) (place start : ℕ) → start ≡ place + gap_len (drop place text) → start ≡ length text → read_next reader place (drop place text) ≡ Answer (at_end reader start (tree_at_end reader.phase reader.frames))
at_text_end reader text place start e f = behind_gap reader text place start e ∙ at_drop_all (read_token reader start) text start (omega arith)

-- an answer at the end of the text, but for want of memory
pub end_answers : (text : List ℕ) (turns : ℕ) (reader : Reader) (place start : ℕ) (fault : ParseFault) → turns < length text → Reads text turns reader place → start ≡ place + gap_len (drop place text) → start ≡ length text → (◌≡◌ {A = Result Node ParseFault} (Err fault) (Err faults.Memory)) ⊎ (Err fault ≡ at_end reader start (tree_at_end reader.phase reader.frames)) → (◌≡◌ {A = Result Node ParseFault} (Err fault) (Err faults.Memory)) ⊎ (◌≡◌ {A = Result Node ParseFault} (Err fault) (read_text text))
end_answers text turns reader place start fault l r e f (inl m) = let is : fault ≡ faults.Memory = cc in inl (ap (λ x. Err x) is)
end_answers text turns reader place start fault l r e f (inr h) =
    inr (turn_answers text turns reader place (Err fault) l r (ap (λ answer. Answer answer) h ∙ sym (at_text_end reader text place start e f)))

-- the formula that ends with the text
pub end_reads : (text : List ℕ) (turns : ℕ) (reader : Reader) (place start : ℕ) (root : Node) → turns < length text → Reads text turns reader place → start ≡ place + gap_len (drop place text) → start ≡ length text → (◌≡◌ {A = Result Node ParseFault} (Ok root) (Err faults.Memory)) ⊎ (Ok root ≡ at_end reader start (tree_at_end reader.phase reader.frames)) → Ok root ≡ read_text text
end_reads text turns reader place start root l r e f (inl m) = absurd (cc)
end_reads text turns reader place start root l r e f (inr h) =
    turn_answers text turns reader place (Ok root) l r (ap (λ answer. Answer answer) h ∙ sym (at_text_end reader text place start e f))

-- a fault at a token, but for want of memory
pub token_faults : (text : List ℕ) (turns : ℕ) (reader : Reader) (place start : ℕ) (fault : ParseFault) → turns < length text → Reads text turns reader place → start ≡ place + gap_len (drop place text) → (fault ≡ faults.Memory) ⊎ (Answer (Err fault) ≡ read_token reader start (drop start text)) → (◌≡◌ {A = Result Node ParseFault} (Err fault) (Err faults.Memory)) ⊎ (◌≡◌ {A = Result Node ParseFault} (Err fault) (read_text text))
token_faults text turns reader place start fault l r e (inl m) = inl (ap (λ x. Err x) m)
token_faults text turns reader place start fault l r e (inr h) =
    inr (turn_answers text turns reader place (Err fault) l r (h ∙ sym (behind_gap reader text place start e)))

-- a token that is taken
pub token_reads : (text : List ℕ) (turns : ℕ) (reader next : Reader) (place start end : ℕ) → turns < length text → Reads text turns reader place → start ≡ place + gap_len (drop place text) → Onward next end (drop end text) ≡ read_token reader start (drop start text) → Reads text (turns + 1) next end
token_reads text turns reader next place start end l r e h =
    turn_goes_on text turns reader next place end l r (h ∙ sym (behind_gap reader text place start e))

-- What parsing a text answers.
use Rattle.std.proofs.Common.{◌≡◌, ◌⊎◌, inl, inr, ℕ, ◌<◌, Bool, true, false, List, length, Some, Result, Ok, Err, if◌then◌else◌, refl, sym, ap, ◌∙◌, subst, ltb-true, ltb-false, lt-ltb}
use Rattle.std.specs.Str.{is_utf8, chars}
use Rattle.formula_parse.specs.declared.faults.ParseFault.{ParseFault}
use Rattle.formula_parse.specs.declared.faults.ParseFault.TheVariants as faults
use Rattle.formula_parse.specs.declared.nodes.Node.{Node}
use Rattle.formula_parse.specs.Faults.{IsTooDeep, IsShort, IsFormula, IsSyntaxFault, IsRangeFault, IsNumberFault}
use Rattle.formula_parse.specs.ReaderMachine.{read_text}
use Rattle.formula_parse.specs.Parsing.{is_too_long, parse_result, formula_of}
use Rattle.formula_parse.proofs.Causes.{Cause, cause_of, fault_cause, parsed_short, formed_is_formula, formula_back, syntax_cause, range_cause, number_cause}

-- whether a fault is that of the length
abbrev pub is_length_fault : Result Node ParseFault → Bool
is_length_fault (Ok tree) = false
is_length_fault (Err faults.TooLong) = true
is_length_fault (Err other) = false

short_by : (text : List ℕ) (answer : Result Node ParseFault) → is_utf8 text ≡ true → is_length_fault answer ≡ false → (long : Bool) → is_too_long text ≡ long → (if long then Err faults.TooLong else read_text text) ≡ answer → IsShort text
short_by text answer u f true l h = let e : true ≡ false = ap is_length_fault h ∙ f in cc
short_by text answer u f false l h = (u, ltb-false 8192 (length (chars text)) l)

-- another answer comes only within the length
pub short_if : (text : List ℕ) (answer : Result Node ParseFault) → is_utf8 text ≡ true → parse_result text ≡ answer → is_length_fault answer ≡ false → IsShort text
unfolding parse_result
short_if text answer u h f = short_by text answer u f (is_too_long text) refl h

pub cause_if : (text : List ℕ) (answer : Result Node ParseFault) → is_utf8 text ≡ true → parse_result text ≡ answer → is_length_fault answer ≡ false → IsShort text × Cause text answer
cause_if text answer u h f = let s = short_if text answer u h f in (s, fault_cause text answer s h)

long_by : (text : List ℕ) (long : Bool) → is_too_long text ≡ long → (if long then Err faults.TooLong else read_text text) ≡ Err faults.TooLong → 8192 < length (chars text)
long_by text true l h = ltb-true 8192 (length (chars text)) l
long_by text false l h = absurd (subst (Cause text) h (cause_of text))

pub too_long_is : (text : List ℕ) → parse_result text ≡ Err faults.TooLong → 8192 < length (chars text)
unfolding parse_result
too_long_is text h = long_by text (is_too_long text) refl h

pub is_too_long_then : (text : List ℕ) → 8192 < length (chars text) → parse_result text ≡ Err faults.TooLong
unfolding parse_result
is_too_long_then text h = ap (λ b. if b then Err faults.TooLong else read_text text) (lt-ltb 8192 (length (chars text)) h)

-- ---- the clauses of parsing
abbrev pub Answers : List ℕ → Result Node ParseFault → Type 0
Answers text result = (result ≡ Err faults.Memory) ⊎ (result ≡ parse_result text)

-- whether an answer is want of memory
abbrev is_memory : Result Node ParseFault → Bool
is_memory (Ok tree) = false
is_memory (Err faults.Memory) = true
is_memory (Err other) = false

-- an answer that isn't
meant : (text : List ℕ) (result answer : Result Node ParseFault) → Answers text result → result ≡ answer → is_memory answer ≡ false → parse_result text ≡ answer
meant text result answer (inl memory) e n = let t : true ≡ false = sym (ap is_memory (sym e ∙ memory)) ∙ n in cc
meant text result answer (inr exact) e n = sym exact ∙ e

pub ok_clause : (text : List ℕ) (result : Result Node ParseFault) (tree : Node) → is_utf8 text ≡ true → Answers text result → result ≡ Ok tree → IsFormula text tree
ok_clause text result tree u a e = let c = cause_if text (Ok tree) u (meant text result (Ok tree) a e refl) refl in formed_is_formula text tree c.0 c.1

pub read_clause : (text : List ℕ) (result : Result Node ParseFault) (tree : Node) → is_utf8 text ≡ true → Answers text result → result ≡ Ok tree → formula_of text ≡ Some tree
read_clause text result tree u a e = formula_back text tree (ok_clause text result tree u a e)

pub deep_clause : (text : List ℕ) (result : Result Node ParseFault) → is_utf8 text ≡ true → Answers text result → result ≡ Err faults.TooDeep → IsShort text × IsTooDeep text
deep_clause text result u a e = cause_if text (Err faults.TooDeep) u (meant text result (Err faults.TooDeep) a e refl) refl

pub syntax_clause : (text : List ℕ) (result : Result Node ParseFault) (place : ℕ) → is_utf8 text ≡ true → Answers text result → result ≡ Err (faults.Syntax place) → IsSyntaxFault text place
syntax_clause text result place u a e = let c = cause_if text (Err (faults.Syntax place)) u (meant text result (Err (faults.Syntax place)) a e refl) refl in syntax_cause text place c.0 c.1

pub range_clause : (text : List ℕ) (result : Result Node ParseFault) → is_utf8 text ≡ true → Answers text result → result ≡ Err faults.BadRange → IsRangeFault text
range_clause text result u a e = let c = cause_if text (Err faults.BadRange) u (meant text result (Err faults.BadRange) a e refl) refl in range_cause text c.0 c.1

pub number_clause : (text : List ℕ) (result : Result Node ParseFault) → is_utf8 text ≡ true → Answers text result → result ≡ Err faults.NumberTooLarge → IsNumberFault text
number_clause text result u a e = let c = cause_if text (Err faults.NumberTooLarge) u (meant text result (Err faults.NumberTooLarge) a e refl) refl in number_cause text c.0 c.1

-- what is read of a short text is what is parsed of it
pub exact_if_short : (text : List ℕ) (result : Result Node ParseFault) → IsShort text → (result ≡ Err faults.Memory) ⊎ (result ≡ read_text text) → Answers text result
exact_if_short text result s (inl memory) = inl memory
exact_if_short text result s (inr read) = inr (read ∙ sym (parsed_short text s))

-- What reading a text answers, in the words of the grammar.
use Rattle.std.proofs.Common.{◌≡◌, inl, inr, ℕ, zero, suc, ◌+◌, Bool, true, false, ◌||◌, ◌==◌, List, [], ◌∷◌, ◌++◌, length, take, drop, Option, Some, None, Result, Ok, Err, if◌then◌else◌, refl, sym, ap, ◌∙◌, subst, arith, eqb-true, ltb-false, le-ltb}
use Rattle.std.specs.List.{list_any}
use Rattle.std.specs.Result.{result_ok}
use Rattle.std.specs.Str.{is_utf8, chars}
use Rattle.std.proofs.lemmas.Option.{same_Some}
use Rattle.formula_parse.specs.declared.faults.ParseFault.{ParseFault}
use Rattle.formula_parse.specs.declared.faults.ParseFault.TheVariants as faults
use Rattle.formula_parse.specs.declared.nodes.Node.{Node}
use Rattle.formula_parse.specs.declared.reader.Reader.{Reader}
use Rattle.formula_parse.specs.declared.tokens.Token.{Token}
use Rattle.formula_parse.specs.Faults.{IsUnlimitedFormula, IsTooDeep, IsOverOpen, IsSyntaxPlace, IsShort, IsFormula, IsSyntaxFault, IsRangeFault, IsNumberFault}
use Rattle.formula_parse.specs.ReaderMachine.{tree_at_end, at_end, tree_or_fault, first_reader, read_from, read_text}
use Rattle.formula_parse.specs.Parsing.{is_too_long, parse_result, formula_of}
use Rattle.formula_parse.specs.Tokens.{is_wide_area, is_large_number, IsSpelled, are_spaces}
use Rattle.formula_parse.proofs.Depths.{deep_text, shallow_text, empty_not_over}
use Rattle.formula_parse.proofs.Outcomes.{Ends, outcome_from}
use Rattle.formula_parse.proofs.Runs.{read_is_formula, reads_note_areas, reads_note_numbers}
use Rattle.formula_parse.proofs.SyntaxPlaces.{stuck_place, end_place, no_equals_place}
use Rattle.formula_parse.proofs.TokenReads.{Reads}
use Rattle.formula_parse.proofs.Uniqueness.{formula_agrees, stuck_is_no_formula}

-- a formula, whatever its areas and numbers, that isn't too deep
pub record Formed (text : List ℕ) (tree : Node) : Type 0 where
  pub shallow : ¬ IsTooDeep text
  pub written : List Token
  pub formula : IsUnlimitedFormula text written tree

-- the cause of each answer, whatever the length of the text
abbrev pub Cause : List ℕ → Result Node ParseFault → Type 0
Cause text (Ok tree) = (formed : Formed text tree) × (list_any is_wide_area formed.written ≡ false) × (list_any is_large_number formed.written ≡ false)
Cause text (Err faults.TooDeep) = IsTooDeep text
Cause text (Err (faults.Syntax place)) = (¬ IsTooDeep text) × ((written : List Token) (tree : Node) → ¬ IsUnlimitedFormula text written tree) × IsSyntaxPlace text place
Cause text (Err faults.BadRange) = (tree : Node) × (formed : Formed text tree) × (list_any is_wide_area formed.written ≡ true)
Cause text (Err faults.NumberTooLarge) = (tree : Node) × (formed : Formed text tree) × (list_any is_wide_area formed.written ≡ false) × (list_any is_large_number formed.written ≡ true)
Cause text (Err faults.TooLong) = ⊥
Cause text (Err faults.Memory) = ⊥

-- ---- each answer has its cause
judged_cause : (text : List ℕ) (last : Reader) (tree : Node) (formed : Formed text tree) → (wide : Bool) → last.has_wide_area ≡ wide → list_any is_wide_area formed.written ≡ wide → (large : Bool) → last.has_large_number ≡ large → list_any is_large_number formed.written ≡ large → Cause text (if wide then Err faults.BadRange else (if large then Err faults.NumberTooLarge else Ok tree))
judged_cause text last tree formed true w a large l b = (tree, formed, a)
judged_cause text last tree formed false w a true l b = (tree, formed, a, b)
judged_cause text last tree formed false w a false l b = (formed, a, b)

not_noted : (a b : Bool) → a ≡ (false || b) → b ≡ a
not_noted a b h = sym h

end_cause : (front rest : List ℕ) (ts : List Token) (last : Reader) → Reads first_reader front rest ts last → are_spaces rest ≡ true → (tree : Option Node) → tree_at_end last.phase last.frames ≡ tree → Cause (61 ∷ (front ++ rest)) (at_end last (1 + length front + length rest) tree)
end_cause front rest ts last r s None e = (shallow_text front rest ts last r (inl s), λ written tree formula. no_tree tree (sym e ∙ (formula_agrees front rest ts written last tree r s formula).same_tree), end_place front rest ts last r s)
  where
    no_tree : (tree : Node) → None ≡ Some tree → ⊥
    no_tree tree h = cc
end_cause front rest ts last r s (Some tree) e =
    let formed : Formed (61 ∷ (front ++ rest)) tree = record { shallow = shallow_text front rest ts last r (inl s); written = ts; formula = read_is_formula front rest ts last tree r s e } in
    judged_cause (61 ∷ (front ++ rest)) last tree formed last.has_wide_area refl (not_noted _ _ (reads_note_areas ts first_reader front rest last r)) last.has_large_number refl (not_noted _ _ (reads_note_numbers ts first_reader front rest last r))

ends_cause : (front rest : List ℕ) (ts : List Token) (last : Reader) (answer : Result Node ParseFault) → Reads first_reader front rest ts last → Ends last (1 + length front) rest answer → Cause (61 ∷ (front ++ rest)) answer
ends_cause front rest ts last answer r (inl whole) = subst (Cause (61 ∷ (front ++ rest))) (sym whole.gives) (end_cause front rest ts last r whole.spaces (tree_at_end last.phase last.frames) refl)
ends_cause front rest ts last answer r (inr (inl stuck)) =
    let r' = subst (λ x. Reads first_reader front x ts last) stuck.parts r in
    subst (Cause (61 ∷ (front ++ rest))) (sym stuck.gives) (subst (λ x. Cause (61 ∷ (front ++ x)) (Err (faults.Syntax (1 + length front + length stuck.gap + Rattle.formula_parse.specs.ReaderMachine.begun_behind last.phase stuck.stop)))) (sym stuck.parts) (
      shallow_text front (stuck.gap ++ stuck.stop) ts last r' (inr (stuck.gap, stuck.stop, refl, stuck.spaces, stuck.full, stuck.stuck)),
      (λ written tree formula. stuck_is_no_formula front stuck.gap stuck.stop ts written last tree r' stuck.spaces stuck.full stuck.stuck formula),
      stuck_place front stuck.gap stuck.stop ts last r' stuck.spaces stuck.full stuck.stuck,
    ))
ends_cause front rest ts last answer r (inr (inr deep)) = subst (Cause (61 ∷ (front ++ rest))) (sym deep.gives) (deep_text front rest ts last answer r deep)

-- a text without `=` in front
not_deep : (text : List ℕ) → ((rest : List ℕ) → text ≡ 61 ∷ rest → ⊥) → IsTooDeep text → ⊥
not_deep text none deep = by_point text none deep.point deep.rest deep.formula.rest deep.front deep.formula.begins deep.up_to deep.over
  where
    by_point : (text : List ℕ) → ((rest : List ℕ) → text ≡ 61 ∷ rest → ⊥) → (point : ℕ) (rest behind : List ℕ) (front : List Token) → take point text ++ rest ≡ 61 ∷ behind → IsSpelled (drop 1 (take point text)) front → IsOverOpen front → ⊥
    by_point text none zero rest behind front b s over = empty_not_over front s over
    by_point [] none (suc m) rest behind front b s over = empty_not_over front s over
    by_point (c ∷ cs) none (suc m) rest behind front b s over = none cs (head_only c 61 (take m cs ++ rest) behind cs b)
      where
        head_only : (b c : ℕ) (bs cs ds : List ℕ) → b ∷ bs ≡ c ∷ cs → b ∷ ds ≡ c ∷ ds
        head_only b c bs cs ds h = cc

no_equals_cause : (text : List ℕ) → ((rest : List ℕ) → text ≡ 61 ∷ rest → ⊥) → Cause text (Err (faults.Syntax 0))
no_equals_cause text none = (not_deep text none, (λ written tree formula. none formula.rest formula.begins), no_equals_place text none)

by_equals : (b : ℕ) (rest : List ℕ) (test : Bool) → (b == 61) ≡ test → Cause (b ∷ rest) (if test then read_from (suc (length rest)) first_reader 1 rest else Err (faults.Syntax 0))
by_equals b rest true e =
    let o = outcome_from (suc (length rest)) first_reader 1 rest (omega arith) in
    subst (λ c. Cause (c ∷ rest) (read_from (suc (length rest)) first_reader 1 rest)) (sym (eqb-true b 61 e)) (subst (λ t. Cause (61 ∷ t) (read_from (suc (length rest)) first_reader 1 rest)) (sym o.parts) (ends_cause o.front o.rest o.tokens o.last (read_from (suc (length rest)) first_reader 1 rest) o.reads o.ends))
by_equals b rest false e = no_equals_cause (b ∷ rest) (λ r h. other b rest r e h)
  where
    other : (b : ℕ) (rest r : List ℕ) → (b == 61) ≡ false → b ∷ rest ≡ 61 ∷ r → ⊥
    other b rest r e h = same b (heads b 61 rest r h) e
      where
        heads : (b c : ℕ) (bs cs : List ℕ) → b ∷ bs ≡ c ∷ cs → b ≡ c
        heads b c bs cs h = cc

        same : (b : ℕ) → b ≡ 61 → (b == 61) ≡ false → ⊥
        same b h e = let f : (61 == 61) ≡ false = subst (λ c. (c == 61) ≡ false) h e in cc

-- the answer of reading a text has its cause
pub cause_of : (text : List ℕ) → Cause text (read_text text)
cause_of [] = no_equals_cause [] (λ rest h. empty rest h)
  where
    empty : (rest : List ℕ) → [] ≡ 61 ∷ rest → ⊥
    empty rest h = cc
cause_of (b ∷ rest) = by_equals b rest (b == 61) refl

-- ---- causes exclude each other
formula_at : (text rest : List ℕ) (written : List Token) (tree : Node) → text ≡ 61 ∷ rest → IsUnlimitedFormula text written tree → IsUnlimitedFormula (61 ∷ rest) written tree
formula_at text rest written tree h f = subst (λ t. IsUnlimitedFormula t written tree) h f

same_by_end : (front rest : List ℕ) (ts : List Token) (last : Reader) (answer : Result Node ParseFault) (v w : List Token) (a b : Node) → Reads first_reader front rest ts last → Ends last (1 + length front) rest answer → ¬ IsTooDeep (61 ∷ (front ++ rest)) → IsUnlimitedFormula (61 ∷ (front ++ rest)) v a → IsUnlimitedFormula (61 ∷ (front ++ rest)) w b → (v ≡ w) × (a ≡ b)
same_by_end front rest ts last answer v w a b r (inl whole) n f g =
    let x = formula_agrees front rest ts v last a r whole.spaces f in
    let y = formula_agrees front rest ts w last b r whole.spaces g in
    (x.same_tokens ∙ sym y.same_tokens, same_Some a b (sym x.same_tree ∙ y.same_tree))
same_by_end front rest ts last answer v w a b r (inr (inl stuck)) n f g =
    absurd (stuck_is_no_formula front stuck.gap stuck.stop ts v last a (subst (λ x. Reads first_reader front x ts last) stuck.parts r) stuck.spaces stuck.full stuck.stuck (subst (λ x. IsUnlimitedFormula (61 ∷ (front ++ x)) v a) stuck.parts f))
same_by_end front rest ts last answer v w a b r (inr (inr deep)) n f g = absurd (n (deep_text front rest ts last answer r deep))

same_formula : (rest : List ℕ) (v w : List Token) (a b : Node) → ¬ IsTooDeep (61 ∷ rest) → IsUnlimitedFormula (61 ∷ rest) v a → IsUnlimitedFormula (61 ∷ rest) w b → (v ≡ w) × (a ≡ b)
same_formula rest v w a b n f g =
    let o = outcome_from (suc (length rest)) first_reader 1 rest (omega arith) in
    same_by_end o.front o.rest o.tokens o.last (read_from (suc (length rest)) first_reader 1 rest) v w a b o.reads o.ends
    (subst (λ t. ¬ IsTooDeep (61 ∷ t)) o.parts n) (subst (λ t. IsUnlimitedFormula (61 ∷ t) v a) o.parts f) (subst (λ t. IsUnlimitedFormula (61 ∷ t) w b) o.parts g)

pub one_formula : (text : List ℕ) (a b : Node) (x : Formed text a) (y : Formed text b) → (x.written ≡ y.written) × (a ≡ b)
one_formula text a b x y =
    let begins = x.formula.begins in
    same_formula x.formula.rest x.written y.written a b (subst (λ t. ¬ IsTooDeep t) begins x.shallow)
    (formula_at text x.formula.rest x.written a begins x.formula) (formula_at text x.formula.rest y.written b begins y.formula)

same_place : (text : List ℕ) (p q : ℕ) → IsSyntaxPlace text p → IsSyntaxPlace text q → p ≡ q
same_place text p q x y = omega (arith, x.longest q y.within y.viable, y.longest p x.within x.viable)

differ : (f : List Token → Bool) (v w : List Token) → v ≡ w → f v ≡ true → f w ≡ false → ⊥
differ f v w h a b = let c : f w ≡ true = subst (λ x. f x ≡ true) h a in cc

-- two answers with causes are one
pub one_cause : (text : List ℕ) (a b : Result Node ParseFault) → Cause text a → Cause text b → a ≡ b
one_cause text (Ok a) (Ok b) x y = ap Ok (one_formula text a b x.0 y.0).1
one_cause text (Ok a) (Err faults.TooDeep) x y = absurd (x.0.shallow y)
one_cause text (Ok a) (Err (faults.Syntax p)) x y = absurd (y.1 x.0.written a x.0.formula)
one_cause text (Ok a) (Err faults.BadRange) x y = absurd (differ (list_any is_wide_area) y.1.written x.0.written (one_formula text y.0 a y.1 x.0).0 y.2 x.1)
one_cause text (Ok a) (Err faults.NumberTooLarge) x y = absurd (differ (list_any is_large_number) y.1.written x.0.written (one_formula text y.0 a y.1 x.0).0 y.3 x.2)
one_cause text (Ok a) (Err faults.TooLong) x y = absurd y
one_cause text (Ok a) (Err faults.Memory) x y = absurd y
one_cause text (Err faults.TooDeep) (Ok b) x y = absurd (y.0.shallow x)
one_cause text (Err faults.TooDeep) (Err faults.TooDeep) x y = refl
one_cause text (Err faults.TooDeep) (Err (faults.Syntax q)) x y = absurd (y.0 x)
one_cause text (Err faults.TooDeep) (Err faults.BadRange) x y = absurd (y.1.shallow x)
one_cause text (Err faults.TooDeep) (Err faults.NumberTooLarge) x y = absurd (y.1.shallow x)
one_cause text (Err faults.TooDeep) (Err faults.TooLong) x y = absurd y
one_cause text (Err faults.TooDeep) (Err faults.Memory) x y = absurd y
one_cause text (Err (faults.Syntax p)) (Ok b) x y = absurd (x.1 y.0.written b y.0.formula)
one_cause text (Err (faults.Syntax p)) (Err faults.TooDeep) x y = absurd (x.0 y)
one_cause text (Err (faults.Syntax p)) (Err (faults.Syntax q)) x y = ap (λ n. Err (faults.Syntax n)) (same_place text p q x.2 y.2)
one_cause text (Err (faults.Syntax p)) (Err faults.BadRange) x y = absurd (x.1 y.1.written y.0 y.1.formula)
one_cause text (Err (faults.Syntax p)) (Err faults.NumberTooLarge) x y = absurd (x.1 y.1.written y.0 y.1.formula)
one_cause text (Err (faults.Syntax p)) (Err faults.TooLong) x y = absurd y
one_cause text (Err (faults.Syntax p)) (Err faults.Memory) x y = absurd y
one_cause text (Err faults.BadRange) (Ok b) x y = absurd (differ (list_any is_wide_area) x.1.written y.0.written (one_formula text x.0 b x.1 y.0).0 x.2 y.1)
one_cause text (Err faults.BadRange) (Err faults.TooDeep) x y = absurd (x.1.shallow y)
one_cause text (Err faults.BadRange) (Err (faults.Syntax q)) x y = absurd (y.1 x.1.written x.0 x.1.formula)
one_cause text (Err faults.BadRange) (Err faults.BadRange) x y = refl
one_cause text (Err faults.BadRange) (Err faults.NumberTooLarge) x y = absurd (differ (list_any is_wide_area) x.1.written y.1.written (one_formula text x.0 y.0 x.1 y.1).0 x.2 y.2)
one_cause text (Err faults.BadRange) (Err faults.TooLong) x y = absurd y
one_cause text (Err faults.BadRange) (Err faults.Memory) x y = absurd y
one_cause text (Err faults.NumberTooLarge) (Ok b) x y = absurd (differ (list_any is_large_number) x.1.written y.0.written (one_formula text x.0 b x.1 y.0).0 x.3 y.2)
one_cause text (Err faults.NumberTooLarge) (Err faults.TooDeep) x y = absurd (x.1.shallow y)
one_cause text (Err faults.NumberTooLarge) (Err (faults.Syntax q)) x y = absurd (y.1 x.1.written x.0 x.1.formula)
one_cause text (Err faults.NumberTooLarge) (Err faults.BadRange) x y = absurd (differ (list_any is_wide_area) y.1.written x.1.written (one_formula text y.0 x.0 y.1 x.1).0 y.2 x.2)
one_cause text (Err faults.NumberTooLarge) (Err faults.NumberTooLarge) x y = refl
one_cause text (Err faults.NumberTooLarge) (Err faults.TooLong) x y = absurd y
one_cause text (Err faults.NumberTooLarge) (Err faults.Memory) x y = absurd y
one_cause text (Err faults.TooLong) b x y = absurd x
one_cause text (Err faults.Memory) b x y = absurd x

-- what has a cause is answered
pub answered : (text : List ℕ) (answer : Result Node ParseFault) → Cause text answer → read_text text ≡ answer
answered text answer c = one_cause text (read_text text) answer (cause_of text) c

-- ---- texts within the limit of length
short_test : (text : List ℕ) → IsShort text → is_too_long text ≡ false
short_test text s = le-ltb 8192 (length (chars text)) s.1

pub parsed_short : (text : List ℕ) → IsShort text → parse_result text ≡ read_text text
unfolding parse_result
parsed_short text s = ap (λ b. if b then Err faults.TooLong else read_text text) (short_test text s)

pub formed_is_formula : (text : List ℕ) (tree : Node) → IsShort text → Cause text (Ok tree) → IsFormula text tree
formed_is_formula text tree s c = record {
  shallow = (s, c.0.shallow);
  written = c.0.written;
  formula = c.0.formula;
  narrow = c.1;
  small = c.2;
}

pub formula_is_formed : (text : List ℕ) (tree : Node) → IsFormula text tree → Cause text (Ok tree)
formula_is_formed text tree f = (record { shallow = f.shallow.1; written = f.written; formula = f.formula }, f.narrow, f.small)

-- reading gives what the grammar lets a text be
pub read_ok : (text : List ℕ) (tree : Node) → IsShort text → read_text text ≡ Ok tree → IsFormula text tree
read_ok text tree s h = formed_is_formula text tree s (subst (Cause text) h (cause_of text))

pub formula_back : (text : List ℕ) (tree : Node) → IsFormula text tree → formula_of text ≡ Some tree
unfolding formula_of
formula_back text tree f =
    ap (λ b. if b then result_ok (parse_result text) else None) f.shallow.0.0
    ∙ ap result_ok (parsed_short text f.shallow.0 ∙ answered text (Ok tree) (formula_is_formed text tree f))

ok_of : (answer : Result Node ParseFault) (tree : Node) → result_ok answer ≡ Some tree → answer ≡ Ok tree
ok_of (Ok t) tree h = ap Ok (same_Some t tree h)
ok_of (Err f) tree h = cc

parsed_by_length : (text : List ℕ) (tree : Node) → is_utf8 text ≡ true → (long : Bool) → is_too_long text ≡ long → (if long then Err faults.TooLong else read_text text) ≡ Ok tree → IsFormula text tree
parsed_by_length text tree u true l h = cc
parsed_by_length text tree u false l h = read_ok text tree (u, ltb-false 8192 (length (chars text)) l) h

parsed_ok : (text : List ℕ) (tree : Node) → is_utf8 text ≡ true → parse_result text ≡ Ok tree → IsFormula text tree
unfolding parse_result
parsed_ok text tree u h = parsed_by_length text tree u (is_too_long text) refl h

formula_by_utf8 : (text : List ℕ) (tree : Node) (utf8 : Bool) → is_utf8 text ≡ utf8 → (if utf8 then result_ok (parse_result text) else None) ≡ Some tree → IsFormula text tree
formula_by_utf8 text tree true u h = parsed_ok text tree u (ok_of (parse_result text) tree h)
formula_by_utf8 text tree false u h = cc

pub formula_forth : (text : List ℕ) (tree : Node) → formula_of text ≡ Some tree → IsFormula text tree
unfolding formula_of
formula_forth text tree h = formula_by_utf8 text tree (is_utf8 text) refl h

-- each fault and its cause
pub fault_cause : (text : List ℕ) (answer : Result Node ParseFault) → IsShort text → parse_result text ≡ answer → Cause text answer
fault_cause text answer s h = subst (Cause text) (sym (parsed_short text s) ∙ h) (cause_of text)

pub cause_fault : (text : List ℕ) (answer : Result Node ParseFault) → IsShort text → Cause text answer → parse_result text ≡ answer
cause_fault text answer s c = parsed_short text s ∙ answered text answer c

pub syntax_cause : (text : List ℕ) (place : ℕ) → IsShort text → Cause text (Err (faults.Syntax place)) → IsSyntaxFault text place
syntax_cause text place s c = record { shallow = (s, c.0); none = c.1; up_to = c.2 }

pub cause_syntax : (text : List ℕ) (place : ℕ) → IsSyntaxFault text place → Cause text (Err (faults.Syntax place))
cause_syntax text place f = (f.shallow.1, f.none, f.up_to)

pub range_cause : (text : List ℕ) → IsShort text → Cause text (Err faults.BadRange) → IsRangeFault text
range_cause text s c = record { shallow = (s, c.1.shallow); written = c.1.written; tree = c.0; formula = c.1.formula; wide = c.2 }

pub cause_range : (text : List ℕ) → IsRangeFault text → Cause text (Err faults.BadRange)
cause_range text f = (f.tree, record { shallow = f.shallow.1; written = f.written; formula = f.formula }, f.wide)

pub number_cause : (text : List ℕ) → IsShort text → Cause text (Err faults.NumberTooLarge) → IsNumberFault text
number_cause text s c = record { shallow = (s, c.1.shallow); written = c.1.written; tree = c.0; formula = c.1.formula; narrow = c.2; large = c.3 }

pub cause_number : (text : List ℕ) → IsNumberFault text → Cause text (Err faults.NumberTooLarge)
cause_number text f = (f.tree, record { shallow = f.shallow.1; written = f.written; formula = f.formula }, f.narrow, f.large)

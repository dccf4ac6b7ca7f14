-- Why a text is no type text, both ways.
use Rattle.std.proofs.Common.{◌≡◌, ℕ, suc, ◌<◌, ◌≤◌, Bool, true, false, cond, not, ◌==◌, ◌&&◌, nat_lt, List, [], ◌∷◌, length, MatchOption, Option, Some, None, refl, subst, ◌∙◌, arith}
use Rattle.std.proofs.lemmas.Bool.Decides.{nat_tests}
use Rattle.addin_types.specs.declared.type_faults.TypeFault.{TypeFault}
use Rattle.addin_types.specs.declared.type_faults.TypeFault.TheVariants as faults
use Rattle.addin_types.specs.TypeText.{IsFaultOf, IsSpelled, argument_count, begins_void, form_fault, handle_count, has_macro, misplaced_at, place_fault, type_fault}

no_bytes : (text : List ℕ) → (length text == 0) ≡ true → text ≡ []
no_bytes [] e = refl
no_bytes (c ∷ cs) e = absurd (some (length cs) e)
  where
    some : (n : ℕ) → (suc n == 0) ≡ true → ⊥
    some n e = grind (arith, nat_tests)

some_bytes : (text : List ℕ) → 0 < length text → (length text == 0) ≡ false
some_bytes text some = by_length (length text) some
  where
    by_length : (n : ℕ) → 0 < n → (n == 0) ≡ false
    by_length n some = grind (arith, nat_tests)

bytes_with_macro : (text : List ℕ) → has_macro text ≡ true → 0 < length text
bytes_with_macro [] e = cc
bytes_with_macro (c ∷ cs) e = omega arith

bytes_misplaced : (text : List ℕ) (place : ℕ) → misplaced_at text ≡ Some place → 0 < length text
bytes_misplaced [] place e = cc
bytes_misplaced (c ∷ cs) place e = omega arith

-- a text without a fault: it is spelled, has a handle where it begins with `>` and else none, and few arguments
pub record IsClean (text : List ℕ) : Type 0 where
  pub spelled : IsSpelled text
  pub handles : handle_count text ≡ cond (begins_void text) 1 0
  pub few : argument_count text ≤ 255

-- what a fault says of a text, or that there is none
abbrev pub Judged : List ℕ → Option TypeFault → Type 0
Judged text fault = MatchOption fault (IsClean text) (λ fault. IsFaultOf fault text)

-- tests of numbers
is_more : (limit n : ℕ) → nat_lt limit n ≡ true → limit < n
is_more limit n e = grind (arith, nat_tests)

is_no_more : (limit n : ℕ) → nat_lt limit n ≡ false → n ≤ limit
is_no_more limit n e = grind (arith, nat_tests)

is_same : (n m : ℕ) → (n == m) ≡ true → n ≡ m
is_same n m e = grind (arith, nat_tests)

is_one : (n : ℕ) → nat_lt 1 n ≡ false → (n == 0) ≡ false → n ≡ 1
is_one n e f = grind (arith, nat_tests)

is_none : (n : ℕ) → nat_lt 1 n ≡ false → (n == 1) ≡ false → n ≡ 0
is_none n e f = grind (arith, nat_tests)

is_more_than : (limit n : ℕ) → limit < n → nat_lt limit n ≡ true
is_more_than limit n e = grind (arith, nat_tests)

is_within : (limit n : ℕ) → n ≤ limit → nat_lt limit n ≡ false
is_within limit n e = grind (arith, nat_tests)

-- the judgement of a spelled text
form_judged : (text : List ℕ) (fault : Option TypeFault) → IsSpelled text → form_fault text ≡ fault → Judged text fault
unfolding form_fault
form_judged text fault spelled e = by_two (nat_lt 1 (handle_count text)) refl e
  where
    by_many : handle_count text ≡ cond (begins_void text) 1 0 → (b : Bool) → nat_lt 255 (argument_count text) ≡ b → cond b (Some faults.TooMany) None ≡ fault → Judged text fault
    by_many handles true is h = subst (Judged text) h (spelled, handles, is_more 255 (argument_count text) is)
    by_many handles false is h = subst (Judged text) h (record { spelled = spelled; handles = handles; few = is_no_more 255 (argument_count text) is })

    by_none : nat_lt 1 (handle_count text) ≡ false → begins_void text ≡ true → (b : Bool) → (handle_count text == 0) ≡ b → cond b (Some faults.VoidWithoutHandle) (cond (nat_lt 255 (argument_count text)) (Some faults.TooMany) None) ≡ fault → Judged text fault
    by_none two void true is h = subst (Judged text) h (spelled, void, is_same (handle_count text) 0 is)
    by_none two void false is h = by_many (rw void (is_one (handle_count text) two is)) (nat_lt 255 (argument_count text)) refl h

    by_one : nat_lt 1 (handle_count text) ≡ false → begins_void text ≡ false → (b : Bool) → (handle_count text == 1) ≡ b → cond b (Some faults.HandleWithoutVoid) (cond (nat_lt 255 (argument_count text)) (Some faults.TooMany) None) ≡ fault → Judged text fault
    by_one two void true is h = subst (Judged text) h (spelled, void, is_same (handle_count text) 1 is)
    by_one two void false is h = by_many (rw void (is_none (handle_count text) two is)) (nat_lt 255 (argument_count text)) refl h

    by_void : nat_lt 1 (handle_count text) ≡ false → (void : Bool) → begins_void text ≡ void → cond (void && handle_count text == 0) (Some faults.VoidWithoutHandle) (cond (not void && handle_count text == 1) (Some faults.HandleWithoutVoid) (cond (nat_lt 255 (argument_count text)) (Some faults.TooMany) None)) ≡ fault → Judged text fault
    by_void two true void h = by_none two void (handle_count text == 0) refl h
    by_void two false void h = by_one two void (handle_count text == 1) refl h

    by_two : (b : Bool) → nat_lt 1 (handle_count text) ≡ b → cond b (Some faults.TwoHandles) (cond (begins_void text && handle_count text == 0) (Some faults.VoidWithoutHandle) (cond (not (begins_void text) && handle_count text == 1) (Some faults.HandleWithoutVoid) (cond (nat_lt 255 (argument_count text)) (Some faults.TooMany) None))) ≡ fault → Judged text fault
    by_two true is h = subst (Judged text) h (spelled, is_more 1 (handle_count text) is)
    by_two false is h = by_void is (begins_void text) refl h

-- the judgement of a text
judged : (text : List ℕ) (fault : Option TypeFault) → type_fault text ≡ fault → Judged text fault
unfolding type_fault
judged text fault e = by_length (length text == 0) refl e
  where
    by_place : 0 < length text → has_macro text ≡ false → (o : Option ℕ) → misplaced_at text ≡ o → place_fault o text ≡ fault → Judged text fault
    by_place some plain (Some place) is h = subst (Judged text) h (plain, is)
    by_place some plain None is h = form_judged text fault (record { some = some; plain = plain; placed = is }) h

    by_macro : 0 < length text → (b : Bool) → has_macro text ≡ b → cond b (Some faults.MacroSheet) (place_fault (misplaced_at text) text) ≡ fault → Judged text fault
    by_macro some true is h = subst (Judged text) h is
    by_macro some false is h = by_place some is (misplaced_at text) refl h

    some_of : (n : ℕ) → (n == 0) ≡ false → 0 < n
    some_of n e = grind (arith, nat_tests)

    by_length : (b : Bool) → (length text == 0) ≡ b → cond b (Some faults.Empty) (cond (has_macro text) (Some faults.MacroSheet) (place_fault (misplaced_at text) text)) ≡ fault → Judged text fault
    by_length true is h = subst (Judged text) h (no_bytes text is)
    by_length false is h = by_macro (some_of (length text) is) (has_macro text) refl h

-- the cause of each fault
pub cause_of_fault : (text : List ℕ) (fault : TypeFault) → type_fault text ≡ Some fault → IsFaultOf fault text
cause_of_fault text fault e = judged text (Some fault) e

-- a text without a fault
pub clean : (text : List ℕ) → type_fault text ≡ None → IsClean text
clean text e = judged text None e

-- a spelled text has the fault of its form
by_form : (text : List ℕ) → IsSpelled text → type_fault text ≡ form_fault text
unfolding type_fault
by_form text spelled = rw (some_bytes text spelled.some, spelled.plain, spelled.placed) refl

many_form : (text : List ℕ) (many : Bool) → handle_count text ≡ cond (begins_void text) 1 0 → nat_lt 255 (argument_count text) ≡ many → form_fault text ≡ cond many (Some faults.TooMany) None
unfolding form_fault
many_form text many handles few = by_void (begins_void text) refl
  where
    by_void : (void : Bool) → begins_void text ≡ void → form_fault text ≡ cond many (Some faults.TooMany) None
    by_void true is = let one : handle_count text ≡ 1 = handles ∙ rw is refl in rw (one, is, few) refl
    by_void false is = let none : handle_count text ≡ 0 = handles ∙ rw is refl in rw (none, is, few) refl

pub fault_of_cause : (text : List ℕ) (fault : TypeFault) → IsFaultOf fault text → type_fault text ≡ Some fault
unfolding type_fault form_fault
fault_of_cause text faults.Empty cause = rw cause refl
fault_of_cause text faults.MacroSheet cause = rw (some_bytes text (bytes_with_macro text cause), cause) refl
fault_of_cause text (faults.Letter place) cause = rw (some_bytes text (bytes_misplaced text place cause.1), cause.0, cause.1) refl
fault_of_cause text faults.TwoHandles cause = by_form text cause.0 ∙ rw (is_more_than 1 (handle_count text) cause.1) refl
fault_of_cause text faults.VoidWithoutHandle cause = by_form text cause.0 ∙ rw (cause.2, cause.1) refl
fault_of_cause text faults.HandleWithoutVoid cause = by_form text cause.0 ∙ rw (cause.2, cause.1) refl
fault_of_cause text faults.TooMany cause = by_form text cause.0 ∙ many_form text true cause.1 (is_more_than 255 (argument_count text) cause.2)

-- the converse
pub no_fault : (text : List ℕ) → IsClean text → type_fault text ≡ None
no_fault text is = by_form text is.spelled ∙ many_form text false is.handles (is_within 255 (argument_count text) is.few)

-- The place where reading stops is the length of the longest front with which some formula begins.
use Rattle.std.proofs.Common.{◌≡◌, inl, ℕ, zero, suc, ◌+◌, ◌-◌, ◌<◌, ◌≤◌, Bool, true, false, ◌==◌, pos, List, [], ◌∷◌, ◌++◌, length, take, drop, Option, Some, None, IsSome, refl, sym, ap, ◌∙◌, subst, arith, codes, ltb, ltb-true, ltb-false, if◌then◌else◌}
use Rattle.std.proofs.lemmas.List.{append-nil, append_assoc, take-append-drop, take-append-le, length-append, length-take-le}
use Rattle.std.proofs.Math.Seq.{take-append-add, take-length}
use Rattle.formula_parse.specs.declared.reader.Frame.{Frame}
use Rattle.formula_parse.specs.declared.reader.Phase.{Phase}
use Rattle.formula_parse.specs.declared.reader.Phase.TheVariants as phases
use Rattle.formula_parse.specs.declared.reader.Reader.{Reader}
use Rattle.formula_parse.specs.declared.tokens.Token.{Token}
use Rattle.formula_parse.specs.declared.tokens.Token.TheVariants as tokens
use Rattle.formula_parse.specs.Faults.{IsUnlimitedFormula, IsViable, IsSyntaxPlace}
use Rattle.formula_parse.specs.Lexing.{token_at, begun_len}
use Rattle.formula_parse.specs.ReaderMachine.{Turn, turn_at, first_reader, awaits_operand, begun_behind}
use Rattle.formula_parse.specs.Tokens.{IsSpelled, Writes, are_spaces, goes_on_with}
use Rattle.formula_parse.proofs.Completing.{closes, closing_viable, operand_viable, viable_front, one_written}
use Rattle.formula_parse.proofs.LexFacts.LexingLaws.{begun_is_within, begun_goes_on, no_operand_goes_on, no_operator_goes_on}
use Rattle.formula_parse.proofs.Machine.{ran, is_operand}
use Rattle.formula_parse.proofs.MachineLaws.{what_is_written_is_read, operands_are_taken}
use Rattle.formula_parse.proofs.Marks.{marks_begin_nothing}
use Rattle.formula_parse.proofs.Outcomes.{IsStuck}
use Rattle.formula_parse.proofs.Runs.{turn_of, refused_run}
use Rattle.formula_parse.proofs.TokenReads.{Reads, IsSafe, is_full, space_is_safe, head_is_safe, safe_behind, read_before, piece_is_full, full_front, same_gap, no_spaces}
use Rattle.formula_parse.proofs.Uniqueness.{goes_on_from, spelled_rest}

-- spaces and one more space
one_space_more : (gap : List ℕ) → are_spaces gap ≡ true → are_spaces (gap ++ 32 ∷ []) ≡ true
one_space_more [] g = refl
one_space_more (b ∷ gap) g =
    let parts = Rattle.std.proofs.lemmas.Bool.and_parts (b == 32) (are_spaces gap) g in
    Rattle.std.proofs.lemmas.Bool.and_from (b == 32) (are_spaces (gap ++ 32 ∷ [])) parts.0 (one_space_more gap parts.1)

-- a space behind spaces is safe before a rest that begins with these spaces
spaced_is_safe : (gap stop more : List ℕ) → IsSafe (gap ++ stop) ((gap ++ 32 ∷ []) ++ more)
spaced_is_safe gap stop more = subst (IsSafe (gap ++ stop)) (sym (append_assoc gap (32 ∷ []) more)) (safe_behind gap stop (32 ∷ more) (space_is_safe stop more))

-- behind what was read and spaces some formula goes on
pub gap_viable : (front gap stop : List ℕ) (ts : List Token) (last : Reader) → Reads first_reader front (gap ++ stop) ts last → are_spaces gap ≡ true → (awaits : Bool) → awaits_operand last.phase ≡ awaits → IsViable (61 ∷ (front ++ gap))
gap_viable front gap stop ts last r g false a =
    viable_front (61 ∷ (front ++ gap)) (32 ∷ []) (subst IsViable (ap (λ x. 61 ∷ x) (sym (append_assoc front gap (32 ∷ []))))
    (closing_viable front (gap ++ stop) (gap ++ 32 ∷ []) ts last r (inl a) (one_space_more gap g) (λ count. spaced_is_safe gap stop (closes count))))
gap_viable front gap stop ts last r g true a =
    viable_front (61 ∷ (front ++ gap)) (32 ∷ codes "1") (subst IsViable (ap (λ x. 61 ∷ x) (regrouped front gap))
    (operand_viable front (gap ++ stop) (gap ++ 32 ∷ []) (codes "1") ts last (tokens.Number (pos 1)) r a (one_space_more gap g) one_written refl (λ count. spaced_is_safe gap stop (codes "1" ++ closes count))))
  where
    regrouped : (front gap : List ℕ) → front ++ ((gap ++ 32 ∷ []) ++ codes "1") ≡ (front ++ gap) ++ (32 ∷ codes "1")
    regrouped front gap = ap (λ x. front ++ x) (append_assoc gap (32 ∷ []) (codes "1")) ∙ sym (append_assoc front gap (32 ∷ codes "1"))

-- where an operand has begun, it isn't there whole
begun_is_none : (text : List ℕ) (turn : Turn) → awaits_operand turn.0 ≡ true → ((other : Token) (n : ℕ) → token_at text ≡ Some (other, n) → turn_at turn.0 turn.1 other ≡ None) → 0 < begun_len text → token_at text ≡ None
begun_is_none text turn a s b = by_found (token_at text) refl
  where
    by_found : (found : Option (Token × ℕ)) → token_at text ≡ found → token_at text ≡ None
    by_found None e = e
    by_found (Some found) e = by_kind (is_operand found.0) refl
      where
        by_kind : (kind : Bool) → is_operand found.0 ≡ kind → token_at text ≡ None
        by_kind true k = absurd (not_both (turn_at turn.0 turn.1 found.0) (s found.0 found.1 e) (operands_are_taken turn found.0 a k))
          where
            not_both : (o : Option Turn) → o ≡ None → IsSome o → ⊥
            not_both None n i = cc
            not_both (Some x) n i = cc
        by_kind false k = let z = marks_begin_nothing text found.0 found.1 e k in absurd (omega (arith, z, b))

-- as much as a text has of one that is longer
taken_front : (n : ℕ) (b : ℕ) (bs more : List ℕ) → 0 < n → (cs : List ℕ) × (take n (b ∷ bs) ++ more ≡ b ∷ cs)
taken_front zero b bs more h = absurd (omega (arith, h))
taken_front (suc n) b bs more h = (take n bs ++ more, refl)

taken_is_safe : (gap stop more : List ℕ) (n : ℕ) → is_full stop ≡ true → 0 < n → IsSafe (gap ++ stop) (gap ++ (take n stop ++ more))
taken_is_safe gap [] more n f h = cc
taken_is_safe gap (b ∷ bs) more zero f h = absurd (omega (arith, h))
taken_is_safe gap (b ∷ bs) more (suc n) f h = safe_behind gap (b ∷ bs) (b ∷ (take n bs ++ more)) (head_is_safe b bs (take n bs ++ more))

-- what has begun there is the front of some formula
pub begun_viable : (front gap stop : List ℕ) (ts : List Token) (last : Reader) → Reads first_reader front (gap ++ stop) ts last → are_spaces gap ≡ true → is_full stop ≡ true → IsStuck last stop → awaits_operand last.phase ≡ true → 0 < begun_len stop → IsViable (61 ∷ (front ++ (gap ++ take (begun_len stop) stop)))
begun_viable front gap stop ts last r g f stuck a b =
    let goes = begun_goes_on stop (begun_is_none stop (turn_of last) a stuck b) b in
    let piece = take (begun_len stop) stop ++ goes.0 in
    viable_front (61 ∷ (front ++ (gap ++ take (begun_len stop) stop))) goes.0 (subst IsViable (ap (λ x. 61 ∷ x) (regrouped front gap (take (begun_len stop) stop) goes.0))
    (operand_viable front (gap ++ stop) gap piece ts last goes.1 r a g goes.3 goes.2 (λ count. subst (λ x. IsSafe (gap ++ stop) (gap ++ x)) (sym (append_assoc (take (begun_len stop) stop) goes.0 (closes count))) (taken_is_safe gap stop (goes.0 ++ closes count) (begun_len stop) f b))))
  where
    regrouped : (front gap part more : List ℕ) → front ++ (gap ++ (part ++ more)) ≡ (front ++ (gap ++ part)) ++ more
    regrouped front gap part more = ap (λ x. front ++ x) (sym (append_assoc gap part more)) ∙ sym (append_assoc front (gap ++ part) more)

-- the front of a longer front
shorter_front : (k n : ℕ) (stop more : List ℕ) → k ≤ n → n ≤ length stop → take k stop ++ (drop k (take n stop) ++ more) ≡ take n stop ++ more
shorter_front k n stop more h l =
    let same : take k stop ≡ take k (take n stop) = ap (take k) (sym (take-append-drop n stop)) ∙ take-append-le k (take n stop) (drop n stop) (omega (arith, h, l, length-take-le n stop l)) in
    sym (append_assoc (take k stop) (drop k (take n stop)) more) ∙ ap (λ x. x ++ more) (ap (λ x. x ++ drop k (take n stop)) same ∙ take-append-drop k (take n stop))

-- a token that begins with more than has begun can't stand there
refused_beyond : (phase : Phase) (frames : List Frame) (stop more piece behind : List ℕ) (n : ℕ) (token : Token) → ((other : Token) (m : ℕ) → token_at stop ≡ Some (other, m) → turn_at phase frames other ≡ None) → begun_behind phase stop < n → n ≤ length stop → take n stop ++ more ≡ piece ++ behind → Writes piece token → goes_on_with token behind ≡ false → turn_at phase frames token ≡ None
refused_beyond phases.Start frames stop more piece behind n token s b l e w apart =
    no_operand_goes_on stop (drop (suc (begun_len stop)) (take n stop) ++ more) piece behind phases.Start frames token refl s (omega (arith, b, l)) (shorter_front (suc (begun_len stop)) n stop more (omega (arith, b)) l ∙ e) w apart
refused_beyond (phases.Signs minuses) frames stop more piece behind n token s b l e w apart =
    no_operand_goes_on stop (drop (suc (begun_len stop)) (take n stop) ++ more) piece behind (phases.Signs minuses) frames token refl s (omega (arith, b, l)) (shorter_front (suc (begun_len stop)) n stop more (omega (arith, b)) l ∙ e) w apart
refused_beyond (phases.After operand) frames stop more piece behind n token s b l e w apart =
    no_operator_goes_on stop (drop 1 (take n stop) ++ more) piece behind operand frames token s (omega (arith, b, l)) (shorter_front 1 n stop more (omega (arith, b)) l ∙ e) w

-- a piece that is found behind spaces
pub record FirstPiece (stop : List ℕ) (us : List Token) : Type 0 where
  pub token : Token
  pub others : List Token
  pub tokens : us ≡ token ∷ others
  pub piece : List ℕ
  pub behind : List ℕ
  pub parts : stop ≡ piece ++ behind
  pub writes : Writes piece token
  pub apart : goes_on_with token behind ≡ false

pub first_piece : (gap stop : List ℕ) (us : List Token) → are_spaces gap ≡ true → is_full stop ≡ true → IsSpelled (gap ++ stop) us → FirstPiece stop us
first_piece gap stop [] g f s = absurd (no_spaces gap stop [] f g (subst (λ x. are_spaces (gap ++ x) ≡ true) (sym (append-nil stop)) s))
first_piece gap stop (u ∷ us) g f (gap', piece, behind, at, spaces, writes, apart, more) = record {
  token = u;
  others = us;
  tokens = refl;
  piece = piece;
  behind = behind;
  parts = (same_gap gap gap' stop (piece ++ behind) g spaces f (full_front piece behind (piece_is_full piece u writes)) at).1;
  writes = writes;
  apart = apart;
}

taken_is_full : (stop more : List ℕ) (n : ℕ) → is_full stop ≡ true → 0 < n → is_full (take n stop ++ more) ≡ true
taken_is_full [] more n f h = cc
taken_is_full (b ∷ bs) more zero f h = absurd (omega (arith, h))
taken_is_full (b ∷ bs) more (suc n) f h = f

-- no formula begins with more than has begun where reading is stuck
pub stuck_is_longest : (front gap stop : List ℕ) (ts : List Token) (last : Reader) (n : ℕ) → Reads first_reader front (gap ++ stop) ts last → are_spaces gap ≡ true → is_full stop ≡ true → IsStuck last stop → begun_behind last.phase stop < n → n ≤ length stop → IsViable (61 ∷ (front ++ (gap ++ take n stop))) → ⊥
stuck_is_longest front gap stop ts last n r g f stuck b l (more, written, tree, formula) =
    let some : 0 < n = omega (arith, b) in
    let tail = gap ++ (take n stop ++ more) in
    let whole = subst (λ t. IsUnlimitedFormula (61 ∷ t) written tree) (regrouped front gap (take n stop) more) formula in
    let read = what_is_written_is_read written tree whole.formed in
    let goes = goes_on_from front tail ts written last read.0 (read_before ts first_reader front (gap ++ stop) tail last (taken_is_safe gap stop more n f some) r) (spelled_rest (front ++ tail) written tree whole) read.1 in
    let first = first_piece gap (take n stop ++ more) goes.others g (taken_is_full stop more n f some) goes.spelled in
    refused_run (turn_of last) first.token first.others goes.end (refused_beyond last.phase last.frames stop more first.piece first.behind n first.token stuck b l first.parts first.writes first.apart) (subst (λ o. ran (turn_of last) o ≡ Some goes.end) first.tokens goes.runs)
  where
    regrouped : (front gap part more : List ℕ) → (front ++ (gap ++ part)) ++ more ≡ front ++ (gap ++ (part ++ more))
    regrouped front gap part more = append_assoc front (gap ++ part) more ∙ ap (λ x. front ++ x) (append_assoc gap part more)

-- a front of the text by its parts
take_parts : (front gap stop : List ℕ) (n : ℕ) → take (1 + length front + length gap + n) (61 ∷ (front ++ (gap ++ stop))) ≡ 61 ∷ (front ++ (gap ++ take n stop))
take_parts front gap stop n =
    ap (λ k. take k (61 ∷ (front ++ (gap ++ stop)))) (counted (length front) (length gap) n)
    ∙ (ap (λ x. 61 ∷ x) (take-append-add front (gap ++ stop) (length gap + n) ∙ ap (λ x. front ++ x) (take-append-add gap stop n)))
  where
    counted : (f g n : ℕ) → 1 + f + g + n ≡ suc (f + (g + n))
    counted f g n = omega arith

length_parts : (front gap stop : List ℕ) → length (61 ∷ (front ++ (gap ++ stop))) ≡ 1 + length front + length gap + length stop
length_parts front gap stop = omega (arith, length-append front (gap ++ stop), length-append gap stop)

begun_within : (phase : Phase) (stop : List ℕ) → begun_behind phase stop ≤ length stop
begun_within phases.Start stop = begun_is_within stop
begun_within (phases.Signs minuses) stop = begun_is_within stop
begun_within (phases.After operand) stop = omega arith

-- what has begun, or nothing, begins some formula
stop_viable : (front gap stop : List ℕ) (ts : List Token) (last : Reader) → Reads first_reader front (gap ++ stop) ts last → are_spaces gap ≡ true → is_full stop ≡ true → IsStuck last stop → (begun : ℕ) → begun_behind last.phase stop ≡ begun → (awaits : Bool) → awaits_operand last.phase ≡ awaits → IsViable (61 ∷ (front ++ (gap ++ take begun stop)))
stop_viable front gap stop ts last r g f stuck zero b awaits a = subst (λ x. IsViable (61 ∷ (front ++ x))) (sym (append-nil gap)) (gap_viable front gap stop ts last r g awaits a)
stop_viable front gap stop ts last r g f stuck (suc begun) b false a = absurd (not_begun (awaits_operand last.phase) a b)
  where
    not_begun : (awaits : Bool) → awaits ≡ false → (if awaits then begun_len stop else 0) ≡ suc begun → ⊥
    not_begun true h e = cc
    not_begun false h e = omega (arith, e)
stop_viable front gap stop ts last r g f stuck (suc begun) b true a =
    let same : begun_len stop ≡ suc begun = begun_is (awaits_operand last.phase) a b in
    subst (λ n. IsViable (61 ∷ (front ++ (gap ++ take n stop)))) same (begun_viable front gap stop ts last r g f stuck a (omega (arith, same)))
  where
    begun_is : (awaits : Bool) → awaits ≡ true → (if awaits then begun_len stop else 0) ≡ suc begun → begun_len stop ≡ suc begun
    begun_is true h e = e
    begun_is false h e = cc

-- the place where reading is stuck
pub stuck_place : (front gap stop : List ℕ) (ts : List Token) (last : Reader) → Reads first_reader front (gap ++ stop) ts last → are_spaces gap ≡ true → is_full stop ≡ true → IsStuck last stop → IsSyntaxPlace (61 ∷ (front ++ (gap ++ stop))) (1 + length front + length gap + begun_behind last.phase stop)
stuck_place front gap stop ts last r g f stuck = record {
  within = omega (arith, length_parts front gap stop, begun_within last.phase stop);
  viable = subst IsViable (sym (take_parts front gap stop (begun_behind last.phase stop))) (stop_viable front gap stop ts last r g f stuck (begun_behind last.phase stop) refl (awaits_operand last.phase) refl);
  longest = λ n l viable. not_longer n l viable (ltb (1 + length front + length gap + begun_behind last.phase stop) n) refl;
}
  where
    not_longer : (n : ℕ) → n ≤ length (61 ∷ (front ++ (gap ++ stop))) → IsViable (take n (61 ∷ (front ++ (gap ++ stop)))) → (longer : Bool) → ltb (1 + length front + length gap + begun_behind last.phase stop) n ≡ longer → n ≤ 1 + length front + length gap + begun_behind last.phase stop
    not_longer n l viable false e = omega (arith, ltb-false _ n e)
    not_longer n l viable true e =
        let over = ltb-true _ n e in
        let m = n - (1 + length front + length gap) in
        let at : n ≡ 1 + length front + length gap + m = omega (arith, over) in
        absurd (stuck_is_longest front gap stop ts last m r g f stuck (omega (arith, over)) (omega (arith, l, length_parts front gap stop)) (subst IsViable (ap (λ k. take k (61 ∷ (front ++ (gap ++ stop)))) at ∙ take_parts front gap stop m) viable))

-- the place where the text ends before a formula does
pub end_place : (front rest : List ℕ) (ts : List Token) (last : Reader) → Reads first_reader front rest ts last → are_spaces rest ≡ true → IsSyntaxPlace (61 ∷ (front ++ rest)) (1 + length front + length rest)
end_place front rest ts last r s =
    let all : 1 + length front + length rest ≡ length (61 ∷ (front ++ rest)) = omega (arith, length-append front rest) in
    record {
      within = omega (arith, all);
      viable = subst IsViable (sym (ap (λ n. take n (61 ∷ (front ++ rest))) all ∙ take-length (61 ∷ (front ++ rest)))) (gap_viable front rest [] ts last (subst (λ x. Reads first_reader front x ts last) (sym (append-nil rest)) r) s (awaits_operand last.phase) refl);
      longest = λ n l viable. omega (arith, l, all);
    }

-- a text that doesn't begin with `=`
empty_viable : IsViable []
empty_viable = viable_front [] (61 ∷ []) (gap_viable [] [] [] [] first_reader (refl, refl) refl true refl)

pub no_equals_place : (text : List ℕ) → ((rest : List ℕ) → text ≡ 61 ∷ rest → ⊥) → IsSyntaxPlace text 0
no_equals_place text none = record {
  within = omega arith;
  viable = empty_viable;
  longest = longest text none;
}
  where
    longest : (text : List ℕ) → ((rest : List ℕ) → text ≡ 61 ∷ rest → ⊥) → (n : ℕ) → n ≤ length text → IsViable (take n text) → n ≤ 0
    longest text none zero l viable = omega arith
    longest [] none (suc n) l viable = l
    longest (b ∷ bs) none (suc n) l (rest, written, tree, formula) = absurd (none bs (head_only b 61 (take n bs ++ rest) formula.rest bs formula.begins))
      where
        head_only : (b c : ℕ) (bs cs ds : List ℕ) → b ∷ bs ≡ c ∷ cs → b ∷ ds ≡ c ∷ ds
        head_only b c bs cs ds h = cc

-- How much is open at the points of a text.
use Rattle.std.proofs.Common.{◌≡◌, ◌⊎◌, inl, inr, ⊎_elim, ℕ, zero, suc, ◌<◌, ◌≤◌, Bool, true, false, ◌||◌, pos, List, [], ◌∷◌, ◌++◌, length, replicate, take, drop, Some, option_and_then, Result, refl, sym, ap, ◌∙◌, subst, arith, codes, ltb-true, ltb-false, nat_lt}
use Rattle.std.specs.List.{count_by}
use Rattle.std.proofs.lemmas.Bool.{or_cases}
use Rattle.std.proofs.lemmas.List.{append-nil, append_assoc, take-append-drop, length-append}
use Rattle.std.proofs.Math.Seq.{take-append_seam}
use Rattle.formula_parse.specs.declared.faults.ParseFault.{ParseFault}
use Rattle.formula_parse.specs.declared.nodes.Node.{Node}
use Rattle.formula_parse.specs.declared.reader.Frame.{Frame}
use Rattle.formula_parse.specs.declared.reader.Reader.{Reader}
use Rattle.formula_parse.specs.declared.tokens.Token.{Token}
use Rattle.formula_parse.specs.declared.tokens.Token.TheVariants as tokens
use Rattle.formula_parse.specs.Faults.{IsUnlimitedFormula, IsTooDeep, IsOverOpen, open_behind}
use Rattle.formula_parse.specs.Grammar.{IsWritten}
use Rattle.formula_parse.specs.Lexing.{token_at}
use Rattle.formula_parse.specs.ReaderMachine.{Turn, reader_behind, first_reader, awaits_operand, is_too_deep, calls_open}
use Rattle.formula_parse.specs.Tokens.{IsSpelled, Writes, are_spaces, goes_on, goes_on_with}
use Rattle.formula_parse.proofs.Completing.{closes, closed_behind, operand_closed, one_written, closes_end, closes_spell, gap_closes_spell}
use Rattle.formula_parse.proofs.LexFacts.LexingLaws.{written_is_found}
use Rattle.formula_parse.proofs.Machine.{first_turn, ran}
use Rattle.formula_parse.proofs.MachineLaws.{what_is_written_is_read, open_is_counted}
use Rattle.formula_parse.proofs.Outcomes.{IsStuck, EndsDeep}
use Rattle.formula_parse.proofs.Runs.{turn_of, ran_on, reads_run, step_tells, refused_run}
use Rattle.formula_parse.proofs.TokenReads.{Reads, IsSafe, is_full, piece_is_full, space_ends, read_before, spelled_by, safe_behind, head_is_safe, no_spaces, same_gap, full_front, same_piece}

-- too many frames are too many open calls and parentheses
pub deep_is_over : (written : List Token) (turn : Turn) → ran first_turn written ≡ Some turn → is_too_deep turn.1 ≡ true → IsOverOpen written
deep_is_over written turn h d =
    let counted = open_is_counted written turn h in
    ⊎_elim
    (λ calls. inl (omega (arith, counted.0, ltb-true 64 (calls_open turn.1) calls)))
    (λ all. inr (omega (arith, counted.1, ltb-true 129 (length turn.1) all)))
    (or_cases (nat_lt 64 (calls_open turn.1)) (nat_lt 129 (length turn.1)) d)

-- and the other way round
pub shallow_is_not_over : (written : List Token) (turn : Turn) → ran first_turn written ≡ Some turn → is_too_deep turn.1 ≡ false → IsOverOpen written → ⊥
shallow_is_not_over written turn h d over =
    let counted = open_is_counted written turn h in
    let both = neither (nat_lt 64 (calls_open turn.1)) (nat_lt 129 (length turn.1)) d in
    ⊎_elim
    (λ calls. omega (arith, calls, counted.0, ltb-false 64 (calls_open turn.1) both.0))
    (λ all. omega (arith, all, counted.1, ltb-false 129 (length turn.1) both.1))
    over
  where
    neither : (a b : Bool) → (a || b) ≡ false → (a ≡ false) × (b ≡ false)
    neither true b h = cc
    neither false b h = (refl, h)

-- at most 64 calls are open where nothing is too deep
pub shallow_calls : (frames : List Frame) → is_too_deep frames ≡ false → calls_open frames ≤ 64
shallow_calls frames h = ltb-false 64 (calls_open frames) (first_is (nat_lt 64 (calls_open frames)) (nat_lt 129 (length frames)) h)
  where
    first_is : (a b : Bool) → (a || b) ≡ false → a ≡ false
    first_is true b h = cc
    first_is false b h = refl

-- a formula that begins with some tokens, whose further tokens are spelled behind a space
pub record Continued (written : List Token) : Type 0 where
  pub tail : List ℕ
  pub more : List Token
  pub tree : Node
  pub spelled : IsSpelled (32 ∷ tail) more
  pub formed : IsWritten tree 0 (written ++ more)

pub continued : (written : List Token) (turn : Turn) → ran first_turn written ≡ Some turn → (awaits : Bool) → awaits_operand turn.0 ≡ awaits → Continued written
continued written turn h false a =
    let closed = closed_behind written turn h (inl a) in
    record {
      tail = closes closed.count;
      more = replicate closed.count tokens.Close;
      tree = closed.tree;
      spelled = gap_closes_spell (32 ∷ []) closed.count refl;
      formed = closed.formed;
    }
continued written turn h true a =
    let closed = operand_closed written turn (tokens.Number (pos 1)) h a refl in
    record {
      tail = codes "1" ++ closes closed.count;
      more = tokens.Number (pos 1) ∷ replicate closed.count tokens.Close;
      tree = closed.tree;
      spelled = (32 ∷ [], codes "1", closes closed.count, refl, refl, one_written, closes_end (tokens.Number (pos 1)) closed.count, closes_spell closed.count);
      formed = subst (IsWritten closed.tree 0) (append_assoc written (tokens.Number (pos 1) ∷ []) (replicate closed.count tokens.Close)) closed.formed;
    }

-- before a full rest another rest with the same first byte is safe
full_is_safe : (piece behind other : List ℕ) → is_full piece ≡ true → IsSafe (piece ++ behind) (piece ++ other)
full_is_safe [] behind other f = cc
full_is_safe (b ∷ bs) behind other f = head_is_safe b (bs ++ behind) (bs ++ other)

-- what is read, as the front of the text
read_front : (front gap piece behind : List ℕ) → front ++ (gap ++ (piece ++ behind)) ≡ (front ++ (gap ++ piece)) ++ behind
read_front front gap piece behind = ap (λ x. front ++ x) (sym (append_assoc gap piece behind)) ∙ sym (append_assoc front (gap ++ piece) behind)

run_to : (front rest : List ℕ) (ts : List Token) (last next : Reader) (token : Token) → Reads first_reader front rest ts last → reader_behind last token ≡ Some next → ran first_turn (ts ++ token ∷ []) ≡ Some (turn_of next)
run_to front rest ts last next token r s = ran_on ts (token ∷ []) first_turn (turn_of last) (reads_run ts first_reader front rest last r) ∙ ap (option_and_then (λ x. Some x)) ((step_tells last token next s).turn)

-- where reading ends too deep, the text is too deep
deep_parts : (front gap piece behind : List ℕ) (ts : List Token) (last next : Reader) (token : Token) → Reads first_reader front (gap ++ (piece ++ behind)) ts last → are_spaces gap ≡ true → Writes piece token → reader_behind last token ≡ Some next → is_too_deep next.frames ≡ true → Continued (ts ++ token ∷ []) → IsTooDeep (61 ∷ (front ++ (gap ++ (piece ++ behind))))
deep_parts front gap piece behind ts last next token r g w s d goes =
    let read = front ++ (gap ++ piece) in
    let tail = 32 ∷ goes.tail in
    let full = piece_is_full piece token w in
    let before : (other : List ℕ) → Reads first_reader front (gap ++ (piece ++ other)) ts last = λ other. read_before ts first_reader front (gap ++ (piece ++ behind)) (gap ++ (piece ++ other)) last (safe_behind gap (piece ++ behind) (piece ++ other) (full_is_safe piece behind other full)) r in
    let cut : take (length (61 ∷ read)) (61 ∷ (front ++ (gap ++ (piece ++ behind)))) ≡ 61 ∷ read = ap (λ t. take (length (61 ∷ read)) (61 ∷ t)) (read_front front gap piece behind) ∙ take-append_seam (61 ∷ read) behind in
    let spelled : IsSpelled (front ++ (gap ++ (piece ++ tail))) (ts ++ token ∷ goes.more) = spelled_by ts (token ∷ goes.more) first_reader front (gap ++ (piece ++ tail)) last (before tail) (gap, piece, tail, refl, g, w, space_ends token, goes.spelled) in
    let formula : IsUnlimitedFormula ((61 ∷ read) ++ tail) ((ts ++ token ∷ []) ++ goes.more) goes.tree = record {
      rest = read ++ tail;
      begins = refl;
      spelled = subst (λ t. IsSpelled t ((ts ++ token ∷ []) ++ goes.more)) (read_front front gap piece tail) (subst (IsSpelled (front ++ (gap ++ (piece ++ tail)))) (sym (append_assoc ts (token ∷ []) goes.more)) spelled);
      formed = goes.formed;
    } in
    let up_to : IsSpelled (front ++ (gap ++ (piece ++ []))) (ts ++ token ∷ []) = spelled_by ts (token ∷ []) first_reader front (gap ++ (piece ++ [])) last (before []) (gap, piece, [], refl, g, w, refl, refl) in
    record {
      point = length (61 ∷ read);
      within = omega (arith, ap length (read_front front gap piece behind), length-append read behind);
      rest = tail;
      front = ts ++ token ∷ [];
      back = goes.more;
      tree = goes.tree;
      formula = subst (λ t. IsUnlimitedFormula (t ++ tail) ((ts ++ token ∷ []) ++ goes.more) goes.tree) (sym cut) formula;
      up_to = subst (λ t. IsSpelled (drop 1 t) (ts ++ token ∷ [])) (sym cut) (subst (λ t. IsSpelled (front ++ (gap ++ t)) (ts ++ token ∷ [])) (append-nil piece) up_to);
      over = deep_is_over (ts ++ token ∷ []) (turn_of next) (run_to front (gap ++ (piece ++ behind)) ts last next token r s) d;
    }

pub deep_text : (front rest : List ℕ) (ts : List Token) (last : Reader) (answer : Result Node ParseFault) → Reads first_reader front rest ts last → EndsDeep last rest answer → IsTooDeep (61 ∷ (front ++ rest))
deep_text front rest ts last answer r e =
    let r' = subst (λ x. Reads first_reader front x ts last) e.parts r in
    subst (λ x. IsTooDeep (61 ∷ (front ++ x))) (sym e.parts)
    (deep_parts front e.gap e.piece e.behind ts last e.next e.token r' e.spaces e.writes e.steps e.deep
    (continued (ts ++ e.token ∷ []) (turn_of e.next) (run_to front (e.gap ++ (e.piece ++ e.behind)) ts last e.next e.token r' e.steps) (awaits_operand e.next.phase) refl))

-- a token that goes on with some byte opens nothing
opens_nothing : (token : Token) (b : ℕ) (outer : List Bool) → goes_on token b ≡ true → open_behind outer (token ∷ []) ≡ outer
opens_nothing (tokens.Number n) b outer h = refl
opens_nothing (tokens.Text t) b outer h = refl
opens_nothing (tokens.Error e) b outer h = refl
opens_nothing (tokens.Boolean v) b outer h = refl
opens_nothing (tokens.Reference r) b outer h = refl
opens_nothing (tokens.Area first second) b outer h = refl
opens_nothing (tokens.Call callee) b outer h = cc
opens_nothing tokens.Open b outer h = cc
opens_nothing tokens.Close b outer h = cc
opens_nothing tokens.Comma b outer h = cc
opens_nothing (tokens.Operator op) b outer h = refl

-- what is open behind two lists of tokens
open_on : (ts us : List Token) (outer : List Bool) → open_behind outer (ts ++ us) ≡ open_behind (open_behind outer ts) us
open_on [] us outer = refl
open_on (tokens.Number n ∷ ts) us outer = open_on ts us outer
open_on (tokens.Text t ∷ ts) us outer = open_on ts us outer
open_on (tokens.Error e ∷ ts) us outer = open_on ts us outer
open_on (tokens.Boolean v ∷ ts) us outer = open_on ts us outer
open_on (tokens.Reference r ∷ ts) us outer = open_on ts us outer
open_on (tokens.Area first second ∷ ts) us outer = open_on ts us outer
open_on (tokens.Call callee ∷ ts) us outer = open_on ts us (true ∷ outer)
open_on (tokens.Open ∷ ts) us outer = open_on ts us (false ∷ outer)
open_on (tokens.Close ∷ ts) us outer = open_on ts us (drop 1 outer)
open_on (tokens.Comma ∷ ts) us outer = open_on ts us outer
open_on (tokens.Operator op ∷ ts) us outer = open_on ts us outer

-- one that opens nothing is not what opens too much
not_by_it : (ts : List Token) (token : Token) (b : ℕ) → goes_on token b ≡ true → IsOverOpen (ts ++ token ∷ []) → IsOverOpen ts
not_by_it ts token b h over =
    let same : open_behind [] (ts ++ token ∷ []) ≡ open_behind [] ts = open_on ts (token ∷ []) [] ∙ opens_nothing token b (open_behind [] ts) h in
    subst (λ o. (64 < count_by (λ is_call. is_call) o) ⊎ (128 < length o)) same over

-- how reading ends other than too deep: with the text, or stuck
abbrev pub EndsShallow : Reader → List ℕ → Type 0
EndsShallow last rest = (are_spaces rest ≡ true) ⊎ ((gap stop : List ℕ) × (rest ≡ gap ++ stop) × (are_spaces gap ≡ true) × (is_full stop ≡ true) × IsStuck last stop)

-- tokens that spell a front of the text, and that a formula goes on from, leave no more open than what is read
abbrev Bounded : List Token → Type 0
Bounded ts = (pre : List Token) (reader last : Reader) (front rest cut other : List ℕ) (fs back : List Token) (end : Turn) → ran first_turn pre ≡ Some (turn_of reader) → is_too_deep reader.frames ≡ false → Reads reader front rest ts last → EndsShallow last rest → front ++ rest ≡ cut ++ other → IsSpelled cut fs → ran (turn_of reader) (fs ++ back) ≡ Some end → IsOverOpen (pre ++ fs) → ⊥

-- where the first of them is found in the text
found_ends : (last : Reader) (rest gap piece behind : List ℕ) (token : Token) (fs : List Token) (end : Turn) → EndsShallow last rest → rest ≡ gap ++ (piece ++ behind) → are_spaces gap ≡ true → Writes piece token → goes_on_with token behind ≡ false → ran (turn_of last) (token ∷ fs) ≡ Some end → ⊥
found_ends last rest gap piece behind token fs end (inl spaces) at g w apart h = no_spaces gap piece behind (piece_is_full piece token w) g (subst (λ x. are_spaces x ≡ true) at spaces)
found_ends last rest gap piece behind token fs end (inr (gap', stop, parts, spaces, full, stuck)) at g w apart h =
    let same = same_gap gap' gap stop (piece ++ behind) spaces g full (full_front piece behind (piece_is_full piece token w)) (sym parts ∙ at) in
    refused_run (turn_of last) token fs end (stuck token (length piece) (subst (λ x. token_at x ≡ Some (token, length piece)) (sym same.1) (written_is_found piece behind token w apart))) h

-- a text that spells nothing but spaces
nothing_spelled : (fs : List Token) → IsSpelled [] fs → fs ≡ []
nothing_spelled [] s = refl
nothing_spelled (f ∷ fs) (gap, piece, behind, at, spaces, writes, apart, more) = absurd (no_spaces gap piece behind (piece_is_full piece f writes) spaces (subst (λ x. are_spaces x ≡ true) at refl))

-- by whether the first token goes on in the text
first_alone : (pre : List Token) (reader : Reader) (f : Token) (fs : List Token) (inner other : List ℕ) → ran first_turn pre ≡ Some (turn_of reader) → is_too_deep reader.frames ≡ false → goes_on_with f inner ≡ false → goes_on_with f (inner ++ other) ≡ true → IsSpelled inner fs → IsOverOpen (pre ++ f ∷ fs) → ⊥
first_alone pre reader f fs (b ∷ inner) other run shallow apart on s over = not_both (goes_on f b) apart on
  where
    not_both : (k : Bool) → k ≡ false → k ≡ true → ⊥
    not_both k x y = cc
first_alone pre reader f fs [] [] run shallow apart on s over = not_both on
  where
    not_both : false ≡ true → ⊥
    not_both x = cc
first_alone pre reader f fs [] (b ∷ other) run shallow apart on s over =
    shallow_is_not_over pre (turn_of reader) run shallow (not_by_it pre f b on (subst (λ x. IsOverOpen (pre ++ f ∷ x)) (nothing_spelled fs s) over))

one_more_run : (pre : List Token) (reader next : Reader) (t : Token) → ran first_turn pre ≡ Some (turn_of reader) → reader_behind reader t ≡ Some next → ran first_turn (pre ++ t ∷ []) ≡ Some (turn_of next)
one_more_run pre reader next t h s = ran_on pre (t ∷ []) first_turn (turn_of reader) h ∙ ap (option_and_then (λ x. Some x)) ((step_tells reader t next s).turn)

rest_runs : (reader next : Reader) (t : Token) (us : List Token) (end : Turn) → reader_behind reader t ≡ Some next → ran (turn_of reader) (t ∷ us) ≡ Some end → ran (turn_of next) us ≡ Some end
rest_runs reader next t us end s h = sym (ap (option_and_then (λ x. ran x us)) ((step_tells reader t next s).turn)) ∙ h

spelled_within : (ts : List Token) → Bounded ts
spelled_within ts pre reader last front rest cut other [] back end run shallow r e at s h over = shallow_is_not_over pre (turn_of reader) run shallow (subst IsOverOpen (append-nil pre) over)
spelled_within [] pre reader last front rest cut other (f ∷ fs) back end run shallow r e at (gap, piece, inner, cut_at, spaces, writes, apart, more) h over = by_test (goes_on_with f (inner ++ other)) refl
  where
    regrouped : front ++ rest ≡ gap ++ (piece ++ (inner ++ other))
    regrouped = at ∙ (ap (λ x. x ++ other) cut_at ∙ (append_assoc gap (piece ++ inner) other ∙ ap (λ x. gap ++ x) (append_assoc piece inner other)))

    by_test : (test : Bool) → goes_on_with f (inner ++ other) ≡ test → ⊥
    by_test true on = first_alone pre reader f fs inner other run shallow apart on more over
    by_test false off = found_ends last rest gap piece (inner ++ other) f (fs ++ back) end e (sym (ap (λ x. x ++ rest) r.0) ∙ regrouped) spaces writes off (subst (λ x. ran (turn_of x) (f ∷ (fs ++ back)) ≡ Some end) (sym r.1) h)
spelled_within (t ∷ ts) pre reader last front rest cut other (f ∷ fs) back end run shallow (gap', piece', behind, next, front_at, spaces', writes', apart', steps, shallow', more') e at (gap, piece, inner, cut_at, spaces, writes, apart, more) h over = by_test (goes_on_with f (inner ++ other)) refl (spelled_within ts)
  where
    regrouped : gap' ++ (piece' ++ (behind ++ rest)) ≡ gap ++ (piece ++ (inner ++ other))
    regrouped = sym (ap (λ x. x ++ rest) front_at ∙ (append_assoc gap' (piece' ++ behind) rest ∙ ap (λ x. gap' ++ x) (append_assoc piece' behind rest))) ∙ (at ∙ (ap (λ x. x ++ other) cut_at ∙ (append_assoc gap (piece ++ inner) other ∙ ap (λ x. gap ++ x) (append_assoc piece inner other))))

    by_test : (test : Bool) → goes_on_with f (inner ++ other) ≡ test → Bounded ts → ⊥
    by_test true on ih = first_alone pre reader f fs inner other run shallow apart on more over
    by_test false off ih =
        let gaps = same_gap gap' gap (piece' ++ (behind ++ rest)) (piece ++ (inner ++ other)) spaces' spaces (full_front piece' (behind ++ rest) (piece_is_full piece' t writes')) (full_front piece (inner ++ other) (piece_is_full piece f writes)) regrouped in
        let same = same_piece piece' (behind ++ rest) piece (inner ++ other) t f writes' apart' writes off gaps.1 in
        let over' : IsOverOpen ((pre ++ t ∷ []) ++ fs) = subst IsOverOpen (ap (λ x. pre ++ x ∷ fs) (sym same.0) ∙ sym (append_assoc pre (t ∷ []) fs)) over in
        ih (pre ++ t ∷ []) next last behind rest inner other fs back end (one_more_run pre reader next t run steps) shallow' more' e same.2 more (rest_runs reader next t (fs ++ back) end steps (subst (λ x. ran (turn_of reader) (x ∷ (fs ++ back)) ≡ Some end) (sym same.0) h)) over'

-- where reading doesn't end too deep, the text isn't
first_shallow : is_too_deep first_reader.frames ≡ false
first_shallow = refl

pub shallow_text : (front rest : List ℕ) (ts : List Token) (last : Reader) → Reads first_reader front rest ts last → EndsShallow last rest → IsTooDeep (61 ∷ (front ++ rest)) → ⊥
shallow_text front rest ts last r e deep = by_point deep.point deep.formula deep.up_to
  where
    by_point : (point : ℕ) → IsUnlimitedFormula (take point (61 ∷ (front ++ rest)) ++ deep.rest) (deep.front ++ deep.back) deep.tree → IsSpelled (drop 1 (take point (61 ∷ (front ++ rest)))) deep.front → ⊥
    by_point zero formula up_to = let none = nothing_spelled deep.front up_to in shallow_is_not_over [] first_turn refl first_shallow (subst IsOverOpen none deep.over)
    by_point (suc m) formula up_to =
        let read = what_is_written_is_read (deep.front ++ deep.back) deep.tree formula.formed in
        spelled_within ts [] first_reader last front rest (take m (front ++ rest)) (drop m (front ++ rest)) deep.front deep.back read.0 refl first_shallow r e (sym (take-append-drop m (front ++ rest))) up_to read.1 deep.over

-- nothing is open where nothing is spelled
pub empty_not_over : (written : List Token) → IsSpelled [] written → IsOverOpen written → ⊥
empty_not_over written s over = shallow_is_not_over [] first_turn refl first_shallow (subst IsOverOpen (nothing_spelled written s) over)

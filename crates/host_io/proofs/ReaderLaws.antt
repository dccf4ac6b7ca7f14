-- What the answers of a reader of lines say of the bytes that came and went out.
use Rattle.std.proofs.Common.{◌≡◌, ℕ, ◌+◌, ◌<◌, ◌≤◌, Bool, true, List, [], ◌∷◌, ◌++◌, length, take, drop, Option, Some, None, Result, Ok, Err, IfOk, OnOk, refl, sym, ap, ◌∙◌, subst, inl, inr, arith, length-append, append_assoc}
use Rattle.std.proofs.lemmas.List.{take-append-drop, append-nil}
use Rattle.std.specs.Io.KnownBytes.{IsAtEnd}
use Rattle.host_io.specs.declared.reader.Line.{Line}
use Rattle.host_io.specs.declared.reader.Line.TheVariants.{Bytes, TooLong, End}
use Rattle.host_io.specs.declared.reader.LineFault.{LineFault}
use Rattle.host_io.specs.declared.limits.TheConstants.{MAX_LINE}
use Rattle.host_io.specs.Lines.{lines_of, LacksFeed, without_return, IsFirstFeed}
use Rattle.host_io.specs.LineBuffer.{IsAnswered, IsLastAnswered}
use Rattle.host_io.specs.LineReader.{Backlog, LineReader, backlog_of, given_out_count, Moves, Spells, SpellsLine, IsFirstOf, IsFirstLeft, Advances}
use Rattle.host_io.proofs.LineLaws.{lines_of-line, lines_of-last, lines_of-append, IsWhole-line}

-- an answered line goes out as its text
spells_line : (raw : List ℕ) (ended : Bool) (text : List ℕ) (line : Line) → SpellsLine raw ended text → IsAnswered text line → Spells raw ended line
spells_line raw ended text (Bytes line) spelled answered =
    let motive : List ℕ → Type 0 = λ t. SpellsLine raw ended t × (length t ≤ MAX_LINE) in
    subst motive (sym answered.0) (spelled, answered.1)
spells_line raw ended text TooLong spelled answered = (text, spelled, answered)
spells_line raw ended text End spelled answered = absurd answered

-- the bytes up to an LF
pub text_of_feed : (bytes : List ℕ) (place : ℕ) → IsFirstFeed bytes place → bytes ≡ (take place bytes ++ 10 ∷ []) ++ drop (place + 1) bytes
text_of_feed bytes place first =
    sym (take-append-drop place bytes) ∙ ap (λ bs. take place bytes ++ bs) first.here
    ∙ sym (append_assoc (take place bytes) (10 ∷ []) (drop (place + 1) bytes))

-- a line with its LF goes out
pub moves_line : (old mid new : Backlog) (left left' : Option (List ℕ)) (place : ℕ) (ended : Bool) (line : Line) → Moves old mid left left' [] → IsFirstFeed mid.pending place → IsAnswered (without_return (take place mid.pending)) line → new ≡ record mid { pending = drop (place + 1) mid.pending } → (raw : List ℕ) × Spells raw ended line × Moves old new left left' raw
moves_line old mid new left left' place ended line moved first answered e =
    let raw = take place mid.pending ++ 10 ∷ [] in
    let motive : Backlog → Type 0 = λ h. (raw : List ℕ) × Spells raw ended line × Moves old h left left' raw in
    subst motive (sym e) (
      raw,
      spells_line raw ended _ line (lines_of-line (take place mid.pending) first.before, inl (IsWhole-line (take place mid.pending))) answered,
      record {
        came = moved.came;
        bytes = moved.bytes ∙ text_of_feed mid.pending place first;
        count = moved.count;
        told = moved.told;
      },
    )

pub moves_answer : (r : Result Line LineFault) (old mid new : Backlog) (left left' : Option (List ℕ)) (place : ℕ) (ended : Bool) → Moves old mid left left' [] → IsFirstFeed mid.pending place → IfOk r (IsAnswered (without_return (take place mid.pending))) → OnOk r (new ≡ record mid { pending = drop (place + 1) mid.pending }) → IfOk r (λ line. (raw : List ℕ) × Spells raw ended line × Moves old new left left' raw)
moves_answer (Ok line) old mid new left left' place ended moved first answered e =
    moves_line old mid new left left' place ended line moved first answered e
moves_answer (Err fault) old mid new left left' place ended moved first answered e = tt

-- the last line goes out
spells_last : (bytes : List ℕ) (line : Line) → LacksFeed bytes → IsLastAnswered bytes line → Spells bytes true line
spells_last [] line lacks answered =
    let motive : Line → Type 0 = λ l. Spells [] true l in subst motive (sym answered) (refl, refl)
spells_last (b ∷ bs) line lacks answered =
    spells_line (b ∷ bs) true (b ∷ bs) line (lines_of-last b bs lacks, inr refl) answered

pub moves_last : (old mid new : Backlog) (left left' : Option (List ℕ)) (line : Line) → Moves old mid left left' [] → LacksFeed mid.pending → IsLastAnswered mid.pending line → new ≡ record mid { pending = [] } → (raw : List ℕ) × Spells raw true line × Moves old new left left' raw
moves_last old mid new left left' line moved lacks answered e =
    let motive : Backlog → Type 0 = λ h. (raw : List ℕ) × Spells raw true line × Moves old h left left' raw in
    subst motive (sym e) (
      mid.pending,
      spells_last mid.pending line lacks answered,
      record {
        came = moved.came;
        bytes = moved.bytes ∙ sym (append-nil mid.pending);
        count = moved.count;
        told = moved.told;
      },
    )

-- what was left begins with the bytes that went out
left_of : (pending came raw pending' left left' : List ℕ) → pending ++ came ≡ raw ++ pending' → left ≡ came ++ left' → pending ++ left ≡ raw ++ (pending' ++ left')
left_of pending came raw pending' left left' e f =
    ap (λ bs. pending ++ bs) f ∙ sym (append_assoc pending came left') ∙ ap (λ bs. bs ++ left') e
    ∙ append_assoc raw pending' left'

-- one line out of what was left
cut_of : (before raw after text : List ℕ) (ended : Bool) → before ≡ raw ++ after → SpellsLine raw ended text → (ended ≡ true → after ≡ []) → lines_of before ≡ text ∷ lines_of after
cut_of before raw after text ended e spelled last =
    elim spelled.1 [
      | inl whole ↦ ap lines_of e ∙ lines_of-append raw after whole ∙ ap (λ ls. ls ++ lines_of after) spelled.0
      | inr end ↦
          let none = last end in
          ap lines_of e ∙ ap (λ bs. lines_of (raw ++ bs)) none ∙ ap lines_of (append-nil raw) ∙ spelled.0
          ∙ ap (λ bs. text ∷ lines_of bs) (sym none)
    ]

first_of_left : (before raw after : List ℕ) (ended : Bool) (line : Line) → before ≡ raw ++ after → Spells raw ended line → (ended ≡ true → after ≡ []) → IsFirstOf before after line
first_of_left before raw after ended (Bytes line) e spelled last = (cut_of before raw after line.items ended e spelled.0 last, spelled.1)
first_of_left before raw after ended TooLong e spelled last =
    (spelled.0, cut_of before raw after spelled.0 ended e spelled.1 last, spelled.2)
first_of_left before raw after ended End e spelled last =
    let none = last spelled.1 in
    (e ∙ ap (λ bs. bs ++ after) spelled.0 ∙ none, none)

-- where the source tells its bytes, the answer is the first line of those that are left
pub first_left : (old new : Backlog) (left left' : Option (List ℕ)) (raw : List ℕ) (ended : Bool) (line : Line) → Spells raw ended line → Moves old new left left' raw → (ended ≡ true → new.pending ≡ []) → (ended ≡ true → IsAtEnd left') → IsFirstLeft old.pending left new.pending left' line
first_left old new None left' raw ended line spelled moved empty end = tt
first_left old new (Some left) None raw ended line spelled moved empty end = absurd moved.told
first_left old new (Some left) (Some left') raw ended line spelled moved empty end =
    first_of_left _ raw (new.pending ++ left') ended line
    (left_of old.pending moved.came raw new.pending left left' moved.bytes moved.told) spelled
    (λ e. ap (λ bs. bs ++ left') (empty e) ∙ end e)

-- a line has at least a byte
spells_some : (raw : List ℕ) (ended : Bool) (text : List ℕ) → SpellsLine raw ended text → 0 < length raw
spells_some [] ended text spelled = absurd (let e : [] ≡ text ∷ [] = spelled.0 in cc)
spells_some (b ∷ bs) ended text spelled = omega arith

advances_by : (old new : LineReader) (left left' : Option (List ℕ)) (raw : List ℕ) → Moves (backlog_of old) (backlog_of new) left left' raw → length old.pending ≤ old.taken → 0 < length raw → given_out_count old < given_out_count new
advances_by old new left left' raw moved fewer some =
    omega (arith, ap length moved.bytes, length-append old.pending moved.came, length-append raw new.pending, moved.count)

-- every line gives out at least a byte
pub advances : (old new : LineReader) (left left' : Option (List ℕ)) (raw : List ℕ) (ended : Bool) (line : Line) → Spells raw ended line → Moves (backlog_of old) (backlog_of new) left left' raw → length old.pending ≤ old.taken → Advances line old new
advances old new left left' raw ended (Bytes line) spelled moved fewer =
    advances_by old new left left' raw moved fewer (spells_some raw ended line.items spelled.0)
advances old new left left' raw ended TooLong spelled moved fewer =
    advances_by old new left left' raw moved fewer (spells_some raw ended spelled.0 spelled.1)
advances old new left left' raw ended End spelled moved fewer = tt

-- the same two for an answer that may be a fault
pub first_answer : (r : Result Line LineFault) (old new : Backlog) (left left' : Option (List ℕ)) (ended : Bool) → IfOk r (λ line. (raw : List ℕ) × Spells raw ended line × Moves old new left left' raw) → (ended ≡ true → new.pending ≡ []) → (ended ≡ true → IsAtEnd left') → IfOk r (IsFirstLeft old.pending left new.pending left')
first_answer (Ok line) old new left left' ended moved empty end =
    first_left old new left left' moved.0 ended line moved.1 moved.2 empty end
first_answer (Err fault) old new left left' ended moved empty end = tt

pub advances_answer : (r : Result Line LineFault) (old new : LineReader) (left left' : Option (List ℕ)) (ended : Bool) → IfOk r (λ line. (raw : List ℕ) × Spells raw ended line × Moves (backlog_of old) (backlog_of new) left left' raw) → length old.pending ≤ old.taken → IfOk r (λ line. Advances line old new)
advances_answer (Ok line) old new left left' ended moved fewer =
    advances old new left left' moved.0 ended line moved.1 moved.2 fewer
advances_answer (Err fault) old new left left' ended moved fewer = tt

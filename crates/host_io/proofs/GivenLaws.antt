-- What a run of a reader over a source that tells its bytes has given out.
use Rattle.std.proofs.Common.{◌≡◌, ℕ, ◌+◌, ◌⊎◌, Bool, true, false, List, [], ◌∷◌, ◌++◌, length, take, Option, Some, None, refl, sym, ap, ◌∙◌, inl, inr, arith, length-append, append_assoc}
use Rattle.std.proofs.lemmas.Bool.{false≢true}
use Rattle.std.proofs.lemmas.List.{take_at, append-nil}
use Rattle.host_io.specs.declared.reader.Line.{Line}
use Rattle.host_io.specs.declared.reader.Line.TheVariants.{Bytes, TooLong, End}
use Rattle.host_io.specs.declared.reader.LineFault.{LineFault}
use Rattle.host_io.specs.declared.reader.LineFault.TheVariants.{Read, Limit, Memory}
use Rattle.host_io.specs.Lines.{lines_of, whole_lines, LacksFeed, IsWhole}
use Rattle.host_io.specs.LineReader.{LineReader, backlog_of, Moves, Leaves, Spells, SpellsLine, HasGiven, IsTextOf}
use Rattle.host_io.proofs.LineLaws.{lines_of-append, IsWhole-append, whole_lines-rest}

-- a new reader has given nothing
pub HasGiven-start : (all : List ℕ) → HasGiven all [] (record { pending = []; taken = 0; ended = false; fault = None }) all
HasGiven-start all = record { given = []; cut = refl; whole = inl tt; bytes = refl; count = refl }

-- what was given before ends with LF, as long as the source has not ended
pub whole_before : (given : List ℕ) (ended : Bool) → ended ≡ false → IsWhole given ⊎ (ended ≡ true) → IsWhole given
whole_before given ended going (inl whole) = whole
whole_before given ended going (inr end) = absurd (false≢true (sym going ∙ end))

whole_after : (given raw : List ℕ) (ended : Bool) → IsWhole given → IsWhole raw ⊎ (ended ≡ true) → IsWhole (given ++ raw) ⊎ (ended ≡ true)
whole_after given raw ended whole (inl last) = inl (IsWhole-append given raw whole last)
whole_after given raw ended whole (inr end) = inr end

-- the bytes behind those that were given
pub behind : (all given pending came raw pending' left left' : List ℕ) → all ≡ given ++ (pending ++ left) → pending ++ came ≡ raw ++ pending' → left ≡ came ++ left' → all ≡ (given ++ raw) ++ (pending' ++ left')
behind all given pending came raw pending' left left' e moved told =
    e ∙ ap (λ bs. given ++ (pending ++ bs)) told ∙ ap (λ bs. given ++ bs) (sym (append_assoc pending came left'))
    ∙ ap (λ bs. given ++ (bs ++ left')) moved ∙ ap (λ bs. given ++ bs) (append_assoc raw pending' left')
    ∙ sym (append_assoc given raw (pending' ++ left'))

-- one line more
given_more : (all : List ℕ) (lines : List (List ℕ)) (old new : LineReader) (left left' raw text : List ℕ) → HasGiven all lines old left → old.ended ≡ false → SpellsLine raw new.ended text → Moves (backlog_of old) (backlog_of new) (Some left) (Some left') raw → HasGiven all (lines ++ text ∷ []) new left'
given_more all lines old new left left' raw text had going spelled moved =
    let whole = whole_before had.given old.ended going had.whole in
    record {
      given = had.given ++ raw;
      cut = lines_of-append had.given raw whole ∙ ap (λ ls. ls ++ lines_of raw) had.cut ∙ ap (λ ls. lines ++ ls) spelled.0;
      whole = whole_after had.given raw new.ended whole spelled.1;
      bytes = behind all had.given old.pending moved.came raw new.pending left left' had.bytes moved.bytes moved.told;
      count = omega (
        arith,
        had.count,
        moved.count,
        length-append had.given raw,
        ap length moved.bytes,
        length-append old.pending moved.came,
        length-append raw new.pending,
      );
    }

-- a line that is answered is one line more
pub HasGiven-line : (all : List ℕ) (lines : List (List ℕ)) (old new : LineReader) (left left' raw : List ℕ) (line : Line) → HasGiven all lines old left → old.ended ≡ false → (line ≡ End → ⊥) → Spells raw new.ended line → Moves (backlog_of old) (backlog_of new) (Some left) (Some left') raw → (text : List ℕ) × IsTextOf text line × HasGiven all (lines ++ text ∷ []) new left'
HasGiven-line all lines old new left left' raw (Bytes line) had going answered spelled moved =
    (line.items, refl, given_more all lines old new left left' raw line.items had going spelled.0 moved)
HasGiven-line all lines old new left left' raw TooLong had going answered spelled moved =
    (spelled.0, spelled.2, given_more all lines old new left left' raw spelled.0 had going spelled.1 moved)
HasGiven-line all lines old new left left' raw End had going answered spelled moved = absurd (answered refl)

-- at the end they are all the lines
pub lines_at_end : (all : List ℕ) (lines : List (List ℕ)) (r : LineReader) (left : List ℕ) → HasGiven all lines r left → r.pending ≡ [] → left ≡ [] → lines_of all ≡ lines
lines_at_end all lines r left had empty none =
    ap lines_of (had.bytes ∙ ap (λ bs. had.given ++ (bs ++ left)) empty ∙ ap (λ bs. had.given ++ bs) none ∙ append-nil had.given) ∙ had.cut

-- bytes that came and none that went out
whole_taken : (all given pending came pending' rest : List ℕ) (taken : ℕ) → all ≡ given ++ (pending ++ (came ++ rest)) → pending' ≡ pending ++ came → taken ≡ length given + length pending' → IsWhole given → LacksFeed pending' → whole_lines (take taken all) ≡ lines_of given
whole_taken all given pending came pending' rest taken bytes moved count whole lacks =
    let prefix = given ++ pending' in
    let fits : length prefix ≡ taken = omega (arith, count, length-append given pending') in
    let regrouped : all ≡ prefix ++ rest =
    bytes ∙ ap (λ bs. given ++ bs) (sym (append_assoc pending came rest))
    ∙ ap (λ bs. given ++ (bs ++ rest)) (sym moved) ∙ sym (append_assoc given pending' rest) in
    ap whole_lines (ap (take taken) regrouped ∙ take_at prefix rest taken fits) ∙ whole_lines-rest given pending' whole lacks

-- at a fault of the source and at the limit they are the whole lines of all the bytes that were taken
pub lines_at_fault : (all : List ℕ) (lines : List (List ℕ)) (old new : LineReader) (left : List ℕ) (left' : Option (List ℕ)) (fault : LineFault) → HasGiven all lines old left → old.ended ≡ false → (fault ≡ Memory → ⊥) → Leaves fault (backlog_of old) (backlog_of new) (Some left) left' → whole_lines (take new.taken all) ≡ lines
lines_at_fault all lines old new left None Read had going known leaves = absurd leaves.0.told
lines_at_fault all lines old new left (Some left') Read had going known leaves =
    let moved = leaves.0 in
    whole_taken all had.given old.pending moved.came new.pending left' new.taken
    (had.bytes ∙ ap (λ bs. had.given ++ (old.pending ++ bs)) moved.told) (sym moved.bytes)
    (omega (arith, had.count, moved.count, ap length moved.bytes, length-append old.pending moved.came))
    (whole_before had.given old.ended going had.whole) leaves.1
    ∙ had.cut
lines_at_fault all lines old new left None Limit had going known leaves = absurd leaves.0.told
lines_at_fault all lines old new left (Some left') Limit had going known leaves =
    let over = leaves.0 in
    whole_taken all had.given old.pending over.came new.pending (over.more ∷ left') new.taken
    (had.bytes ∙ ap (λ bs. had.given ++ (old.pending ++ bs)) (over.told ∙ append_assoc over.came (over.more ∷ []) left')) over.bytes
    (omega (arith, had.count, over.count, ap length over.bytes, length-append old.pending over.came))
    (whole_before had.given old.ended going had.whole) leaves.1
    ∙ had.cut
lines_at_fault all lines old new left left' Memory had going known leaves = absurd (known refl)

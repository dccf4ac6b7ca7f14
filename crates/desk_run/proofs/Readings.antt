-- What a reader's answer says of the lines that were given out.
use Rattle.std.proofs.Common.{◌≡◌, ◌+◌, ◌<◌, ◌≤◌, ℕ, Bool, true, false, List, [], ◌∷◌, ◌++◌, length, take, drop, Option, Some, None, IfSome, refl, sym, ap, subst, ◌∙◌, append_assoc, append-nil, length-append, inl, inr, arith}
use Rattle.std.specs.Prelude.{◌⊎◌}
use Rattle.std.specs.Io.KnownBytes.{IsAtEnd}
use Rattle.std.proofs.lemmas.Bool.{false≢true}
use Rattle.std.proofs.Math.Seq.{drop-append_seam}
use Rattle.host_io.specs.declared.reader.Line.{Line}
use Rattle.host_io.specs.declared.reader.Line.TheVariants.{Bytes, TooLong, End}
use Rattle.host_io.specs.declared.reader.LineFault.{LineFault}
use Rattle.host_io.specs.declared.reader.LineFault.TheVariants as faults
use Rattle.host_io.specs.Lines.{lines_of, whole_lines, IsWhole}
use Rattle.host_io.specs.LineReader.{Backlog, LineReader, backlog_of, Moves, Leaves, Spells, IsFirstLeft, HasGiven, IsTextOf}
use Rattle.host_io.proofs.PublicLaws.{HasGiven-line, HasGiven-start, lines_at_end, lines_at_fault, lines_of-append}
use Rattle.desk_run.specs.Run.{AreFirst, HasReadAll, HasReadToLimit, HasReadWhole}
use Rattle.desk_run.specs.Session.{HasRead, HasReadIfTold, has_text}

-- a reader that has read nothing
pub read-start : (told : Option (List ℕ)) (reading : LineReader) → reading ≡ record { pending = []; taken = 0; ended = false; fault = None } → HasReadIfTold told reading told []
read-start None reading new = tt
read-start (Some all) reading new =
    subst (λ (r : LineReader). HasRead all [] r (Some all)) (sym new)
    (record { rest = all; told = refl; given = HasGiven-start all; ended = λ e. absurd (false≢true e) })

-- ---- the first lines
first_by : (all : List ℕ) (lines : List (List ℕ)) (reading : LineReader) (rest : List ℕ) (had : HasGiven all lines reading rest) → IsWhole had.given ⊎ (reading.ended ≡ true) → (reading.ended ≡ true → (reading.pending ≡ []) × (rest ≡ [])) → (more : List (List ℕ)) × (lines_of all ≡ lines ++ more)
first_by all lines reading rest had (inl whole) end = (
  lines_of (reading.pending ++ rest),
  ap lines_of had.bytes ∙ lines_of-append had.given (reading.pending ++ rest) whole
      ∙ ap (λ (ls : List (List ℕ)). ls ++ lines_of (reading.pending ++ rest)) had.cut,
)
first_by all lines reading rest had (inr ended) end =
    ([], lines_at_end all lines reading rest had (end ended).0 (end ended).1 ∙ sym (append-nil lines))

pub read-first : (told : Option (List ℕ)) (reading : LineReader) (left : Option (List ℕ)) (lines : List (List ℕ)) → HasReadIfTold told reading left lines → AreFirst told lines
read-first None reading left lines had = tt
read-first (Some all) reading left lines had = first_by all lines reading had.rest had.given had.given.whole had.ended

-- ---- one line more
-- what came and went, where the source tells its bytes
moved_told : (old new : Backlog) (left left' : Option (List ℕ)) (rest raw : List ℕ) → left ≡ Some rest → Moves old new left left' raw → (rest' : List ℕ) × (left' ≡ Some rest') × Moves old new (Some rest) (Some rest') raw
moved_told old new left left' rest raw told moved = by_left left' (subst (λ (l : Option (List ℕ)). Moves old new l left' raw) told moved)
  where
    by_left : (left' : Option (List ℕ)) → Moves old new (Some rest) left' raw → (rest' : List ℕ) × (left' ≡ Some rest') × Moves old new (Some rest) (Some rest') raw
    by_left None moved = absurd moved.told
    by_left (Some rest') moved = (rest', refl, moved)

at_end : (left : Option (List ℕ)) (rest : List ℕ) → left ≡ Some rest → IsAtEnd left → rest ≡ []
at_end left rest told end = subst IsAtEnd told end

-- the text of a line that is answered
pub text_of : (raw : List ℕ) (ended : Bool) (line : Line) → has_text line ≡ true → Spells raw ended line → (text : List ℕ) × IsTextOf text line
text_of raw ended (Bytes line) text spelled = (line.items, refl)
text_of raw ended TooLong text spelled = (spelled.0, spelled.2)
text_of raw ended End text spelled = absurd (false≢true text)

-- the line is the next one
pub read-line : (told : Option (List ℕ)) (old new : LineReader) (left left' : Option (List ℕ)) (lines : List (List ℕ)) (line : Line) (raw : List ℕ) → HasReadIfTold told old left lines → old.ended ≡ false → has_text line ≡ true → Spells raw new.ended line → Moves (backlog_of old) (backlog_of new) left left' raw → (new.ended ≡ true → IsAtEnd left') → (new.ended ≡ true → new.pending ≡ []) → (text : List ℕ) × IsTextOf text line × HasReadIfTold told new left' (lines ++ text ∷ [])
read-line None old new left left' lines line raw had going text spelled moved end empty =
    let t = text_of raw new.ended line text spelled in
    (t.0, t.1, tt)
read-line (Some all) old new left left' lines line raw had going text spelled moved end empty =
    let m = moved_told (backlog_of old) (backlog_of new) left left' had.rest raw had.told moved in
    let g = HasGiven-line all lines old new had.rest m.0 raw line had.given going (λ e. false≢true (sym (ap has_text e) ∙ text)) spelled m.2 in (
      g.0,
      g.1,
      record { rest = m.0; told = m.1; given = g.2; ended = λ e. (empty e, at_end left' m.0 m.1 (end e)) },
    )

-- ---- the end
length_all : (all : List ℕ) (lines : List (List ℕ)) (old : LineReader) (rest : List ℕ) → HasGiven all lines old rest → length all ≡ old.taken + length rest
length_all all lines old rest had =
    omega (arith, had.count, ap length had.bytes, length-append had.given (old.pending ++ rest), length-append old.pending rest)

no_front : (xs ys : List ℕ) → xs ++ ys ≡ [] → xs ≡ []
no_front [] ys h = refl
no_front (x ∷ xs) ys h = cc

no_back : (xs ys : List ℕ) → xs ++ ys ≡ [] → ys ≡ []
no_back [] ys h = h
no_back (x ∷ xs) ys h = cc

-- nothing was left, and nothing is
ends_first : (pending pending' rest rest' : List ℕ) (line : Line) → has_text line ≡ false → IsFirstLeft pending (Some rest) pending' (Some rest') line → (pending ≡ []) × (rest ≡ []) × (rest' ≡ [])
ends_first pending pending' rest rest' (Bytes line) none first = absurd (false≢true (sym none))
ends_first pending pending' rest rest' TooLong none first = absurd (false≢true (sym none))
ends_first pending pending' rest rest' End none first =
    (no_front pending rest first.0, no_back pending rest first.0, no_back pending' rest' first.1)

-- the reader comes to its end
pub read-end : (told : Option (List ℕ)) (old new : LineReader) (left left' : Option (List ℕ)) (lines : List (List ℕ)) (line : Line) (raw : List ℕ) → HasReadIfTold told old left lines → has_text line ≡ false → ((old.ended ≡ true → IsAtEnd left) → IsFirstLeft old.pending left new.pending left' line) → Moves (backlog_of old) (backlog_of new) left left' raw → new.taken ≤ 67108864 → HasReadAll told left' lines
read-end None old new left left' lines line raw had none first moved within = tt
read-end (Some all) old new left left' lines line raw had none first moved within =
    let m = moved_told (backlog_of old) (backlog_of new) left left' had.rest raw had.told moved in
    let e = ends_first old.pending new.pending had.rest m.0 line none
    (subst (λ (l : Option (List ℕ)). IsFirstLeft old.pending (Some had.rest) new.pending l line) m.1
    (subst (λ (l : Option (List ℕ)). IsFirstLeft old.pending l new.pending left' line) had.told (first (λ e. subst IsAtEnd (sym had.told) (had.ended e).1)))) in (
      sym (lines_at_end all lines old had.rest had.given e.0 e.1),
      m.1 ∙ ap Some e.2,
      omega (arith, within, m.2.count, length_all all lines old had.rest had.given, ap length e.1),
    )

-- ---- a fault
abbrev is_memory : LineFault → Bool
is_memory faults.Read = false
is_memory faults.Limit = false
is_memory faults.Memory = true

drop_at : (prefix rest : List ℕ) (n : ℕ) → n ≡ length prefix → drop n (prefix ++ rest) ≡ rest
drop_at prefix rest n h = ap (λ j. drop j (prefix ++ rest)) h ∙ drop-append_seam prefix rest

-- the bytes that are left behind those that were taken
left_behind : (all : List ℕ) (lines : List (List ℕ)) (old new : LineReader) (rest rest' : List ℕ) → HasGiven all lines old rest → Moves (backlog_of old) (backlog_of new) (Some rest) (Some rest') [] → drop new.taken all ≡ rest'
left_behind all lines old new rest rest' had moved =
    let prefix = had.given ++ new.pending in
    let regrouped : all ≡ prefix ++ rest' =
    had.bytes ∙ ap (λ bs. had.given ++ (old.pending ++ bs)) moved.told ∙ ap (λ bs. had.given ++ bs) (sym (append_assoc old.pending moved.came rest'))
    ∙ ap (λ bs. had.given ++ (bs ++ rest')) moved.bytes ∙ sym (append_assoc had.given new.pending rest') in
    let fits : new.taken ≡ length prefix = omega (arith, had.count, moved.count, ap length moved.bytes, length-append old.pending moved.came, length-append had.given new.pending) in
    ap (drop new.taken) regrouped ∙ drop_at prefix rest' new.taken fits

-- the source fails
pub read-failed : (told : Option (List ℕ)) (old new : LineReader) (left left' : Option (List ℕ)) (lines : List (List ℕ)) → HasReadIfTold told old left lines → old.ended ≡ false → Leaves faults.Read (backlog_of old) (backlog_of new) left left' → HasReadWhole told left' lines
read-failed None old new left left' lines had going leaves = tt
read-failed (Some all) old new left left' lines had going leaves =
    let m = moved_told (backlog_of old) (backlog_of new) left left' had.rest [] had.told leaves.0 in
    let is = lines_at_fault all lines old new had.rest left' faults.Read had.given going (λ e. false≢true (ap is_memory e))
    (subst (λ (l : Option (List ℕ)). Leaves faults.Read (backlog_of old) (backlog_of new) l left') had.told leaves) in
    (new.taken, m.1 ∙ ap Some (sym (left_behind all lines old new had.rest m.0 had.given m.2)), sym is)

-- the source has too many bytes
pub read-over : (told : Option (List ℕ)) (old new : LineReader) (left left' : Option (List ℕ)) (lines : List (List ℕ)) → HasReadIfTold told old left lines → old.ended ≡ false → Leaves faults.Limit (backlog_of old) (backlog_of new) left left' → IfSome left (λ rest. 67108864 < old.taken + length rest) → HasReadToLimit told lines
read-over None old new left left' lines had going leaves over = tt
read-over (Some all) old new left left' lines had going leaves over =
    let is = lines_at_fault all lines old new had.rest left' faults.Limit had.given going (λ e. false≢true (ap is_memory e))
    (subst (λ (l : Option (List ℕ)). Leaves faults.Limit (backlog_of old) (backlog_of new) l left') had.told leaves) in
    let many : 67108864 < old.taken + length had.rest = subst (λ (l : Option (List ℕ)). IfSome l (λ rest. 67108864 < old.taken + length rest)) had.told over in (
      subst (λ n. 67108864 < n) (sym (length_all all lines old had.rest had.given)) many,
      sym (ap (λ n. whole_lines (take n all)) (sym leaves.0.full) ∙ is),
    )

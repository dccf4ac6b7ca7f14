-- What the calls of a turn answer, and where the session then is.
use Rattle.std.proofs.Common.{◌≡◌, ◌⊎◌, inl, inr, ◌+◌, ◌<◌, ◌≤◌, ℕ, Bool, true, false, List, [], length, Option, Some, None, Result, Ok, Err, IfErr, IfOk, IfSome, OnOk, refl, sym, ap, subst, ◌∙◌, arith}
use Rattle.std.specs.Prelude.{MatchOption}
use Rattle.std.specs.Io.KnownBytes.{IsAtEnd}
use Rattle.std.proofs.lemmas.Bool.{false≢true}
use Rattle.host_io.specs.Count.{Rose}
use Rattle.host_io.specs.Lines.{has_feed}
use Rattle.host_io.specs.declared.reader.Line.{Line}
use Rattle.host_io.specs.declared.reader.Line.TheVariants.{Bytes, TooLong, End}
use Rattle.host_io.specs.declared.reader.LineFault.{LineFault}
use Rattle.host_io.specs.declared.reader.LineFault.TheVariants as faults
use Rattle.host_io.specs.declared.run_faults.RunFault.{RunFault}
use Rattle.host_io.specs.declared.run_faults.RunFault.TheVariants as run_faults
use Rattle.host_io.specs.LineReader.{Advances, LineReader, backlog_of, given_out_count, Moves, Leaves, Spells, IsFirstLeft, IsTextOf}
use Rattle.host_io.specs.Sink.{AppendsPrefix}
use Rattle.session_script.specs.declared.faults.BadLine.{BadLine}
use Rattle.session_script.specs.declared.parsed.Parsed.{Parsed}
use Rattle.session_script.specs.declared.parsed.Parsed.TheVariants as parsed
use Rattle.session_script.specs.Script.{line_said}
use Rattle.workbook.specs.Desk.{DeskState}
use Rattle.desk_run.specs.declared.answering.Refusal.{Refusal}
use Rattle.desk_run.specs.declared.answering.Refusal.TheVariants as refusals
use Rattle.desk_run.specs.Output.{commands_said}
use Rattle.desk_run.specs.Run.{Answers}
use Rattle.desk_run.specs.Session.{HasRefused, HasSaid, IsBetween, IsFinished, IsReadCaused, IsRefusal, IsStopped, Place, has_text, place, refused_stop, stop_of}
use Rattle.desk_run.proofs.Readings.{text_of}
use Rattle.desk_run.proofs.Replies.{length-after}
use Rattle.desk_run.proofs.Turns.{between-end, between-fault, between-full, between-line, between-memory, between-unwritten}

-- ---- whether a reader goes on
-- a reader that answers a line or a fault had not come to its end
abbrev pub goes_on : Result Line LineFault → Bool
goes_on (Ok line) = has_text line
goes_on (Err fault) = true

is_false : (b : Bool) → (b ≡ true → ⊥) → b ≡ false
is_false true h = absurd (h refl)
is_false false h = refl

pub not_ended : (ended : Bool) (r : Result Line LineFault) → (ended ≡ true → r ≡ Ok End) → goes_on r ≡ true → ended ≡ false
not_ended ended r done going = is_false ended (λ e. false≢true (sym (ap goes_on (done e)) ∙ going))

-- a reader that answers a line met no fault
pub line_without_fault : (line : Line) (P : Type 0) → (◌≡◌ {A = Result Line LineFault} (Ok line) (Err faults.Read)) ⊎ P → P
line_without_fault line P (inl e) = cc
line_without_fault line P (inr h) = h

-- ---- what a line's answer says
both : (b : Bool) → (b ≡ true) ⊎ (b ≡ false)
both true = inl refl
both false = inr refl

none-some : (count : ℕ) → ◌≡◌ {A = Result (Option ℕ) RunFault} (Ok (Some count)) (Ok None) → ⊥
none-some count e = cc

err-ok : (stop : RunFault) → ◌≡◌ {A = Result (Option ℕ) RunFault} (Err stop) (Ok None) → ⊥
err-ok stop e = cc

-- the next place
pub answered_next : (answer : Answers) (start : Place) (old new after : LineReader) (desk desk' : DeskState) (held held' : List ℕ) (left left' written : Option (List ℕ)) (line : Line) (raw : List ℕ) (result : Result (Option ℕ) RunFault) → after ≡ new → IsBetween answer start (place old desk held left written) → (has_text line ≡ true → old.ended ≡ false) → Spells raw new.ended line → Moves (backlog_of old) (backlog_of new) left left' raw → ((old.ended ≡ true → IsAtEnd left) → new.ended ≡ true → IsAtEnd left') → (new.ended ≡ true → new.pending ≡ []) → ((old.ended ≡ true → IsAtEnd left) → IsFirstLeft old.pending left new.pending left' line) → new.taken ≤ 67108864 → ((text : List ℕ) → IsTextOf text line → OnOk result (HasSaid answer (line_said text) desk desk' held held')) → ((text : List ℕ) → IsTextOf text line → IfOk result (λ more. more ≡ Some (length (commands_said (line_said text))))) → (has_text line ≡ false → (result ≡ Ok None) × (desk' ≡ desk) × (held' ≡ held)) → IfOk result (λ more. MatchOption more (IsFinished answer start (place after desk' held' left' written)) (λ count. IsBetween answer start (place after desk' held' left' written)))
answered_next answer start old new after desk desk' held held' left left' written line raw (Err stop) same had going spelled moved end empty first within said count ends = tt
answered_next answer start old new after desk desk' held held' left left' written line raw (Ok (Some n)) same had going spelled moved end empty first within said count ends =
    elim (both (has_text line)) [
      | inl text ↦
          subst (λ (r : LineReader). IsBetween answer start (place r desk' held' left' written)) (sym same)
          (between-line answer start old new desk desk' held held' left left' written line raw had (going text) text spelled moved
          (end (λ e. absurd (false≢true (sym (going text) ∙ e)))) empty said)
      | inr none ↦ absurd (none-some n (ends none).0)
    ]
answered_next answer start old new after desk desk' held held' left left' written line raw (Ok None) same had going spelled moved end empty first within said count ends =
    elim (both (has_text line)) [
      | inl text ↦ absurd (some-none (text_of raw new.ended line text spelled))
      | inr none ↦
          subst (λ (r : LineReader). IsFinished answer start (place r desk' held' left' written)) (sym same)
          (subst (λ (d : DeskState). IsFinished answer start (place new d held' left' written)) (sym (ends none).1)
          (subst (λ (bs : List ℕ). IsFinished answer start (place new desk bs left' written)) (sym (ends none).2)
          (between-end answer start old new desk held left left' written line raw had none first moved within)))
    ]
  where
    some-none : (text : List ℕ) × IsTextOf text line → ⊥
    some-none t = let e : None ≡ Some (length (commands_said (line_said t.0))) = count t.0 t.1 in cc

-- ---- a line that isn't answered whole
abbrev Refused : Answers → Line → DeskState → DeskState → List ℕ → List ℕ → RunFault → Type 0
Refused answer line desk desk' held held' stop =
    (text : List ℕ) → IsTextOf text line → (refusal : Refusal) × (stop ≡ refused_stop refusal) × HasRefused answer (commands_said (line_said text)) desk desk' held held' refusal

as_full : (answer : Answers) (said : Result Parsed BadLine) (desk desk' : DeskState) (held held' : List ℕ) (refusal : Refusal) → run_faults.Full ≡ refused_stop refusal → HasRefused answer (commands_said said) desk desk' held held' refusal → HasRefused answer (commands_said said) desk desk' held held' refusals.Full
as_full answer said desk desk' held held' refusals.Full is had = had
as_full answer said desk desk' held held' refusals.Memory is had = absurd (let no : run_faults.Full ≡ run_faults.Memory = is in cc)

as_memory : (answer : Answers) (said : Result Parsed BadLine) (desk desk' : DeskState) (held held' : List ℕ) (refusal : Refusal) → run_faults.Memory ≡ refused_stop refusal → HasRefused answer (commands_said said) desk desk' held held' refusal → HasRefused answer (commands_said said) desk desk' held held' refusals.Memory
as_memory answer said desk desk' held held' refusals.Memory is had = had
as_memory answer said desk desk' held held' refusals.Full is had = absurd (let no : run_faults.Memory ≡ run_faults.Full = is in cc)

-- a line's commands are refused
refused_place : (answer : Answers) (start : Place) (old new : LineReader) (desk desk' : DeskState) (held held' : List ℕ) (left left' written : Option (List ℕ)) (line : Line) (raw : List ℕ) (stop : RunFault) → IsBetween answer start (place old desk held left written) → old.ended ≡ false → has_text line ≡ true → Spells raw new.ended line → Moves (backlog_of old) (backlog_of new) left left' raw → (new.ended ≡ true → IsAtEnd left') → (new.ended ≡ true → new.pending ≡ []) → Refused answer line desk desk' held held' stop → IsRefusal stop → IsStopped answer start (place new desk' held' left' written) stop
refused_place answer start old new desk desk' held held' left left' written line raw run_faults.Read had going text spelled moved end empty refused is = absurd is
refused_place answer start old new desk desk' held held' left left' written line raw run_faults.Write had going text spelled moved end empty refused is = absurd is
refused_place answer start old new desk desk' held held' left left' written line raw run_faults.Limit had going text spelled moved end empty refused is = absurd is
refused_place answer start old new desk desk' held held' left left' written line raw run_faults.Memory had going text spelled moved end empty refused is =
    between-memory answer start old new desk desk' held held' left left' written line raw had going text spelled moved end empty
    (λ t e. let r = refused t e in as_memory answer (line_said t) desk desk' held held' r.0 r.1 r.2)
refused_place answer start old new desk desk' held held' left left' written line raw run_faults.Full had going text spelled moved end empty refused is =
    between-full answer start old new desk desk' held held' left left' written line raw had going text spelled moved end empty
    (λ t e. let r = refused t e in as_full answer (line_said t) desk desk' held held' r.0 r.1 r.2)

pub answered_stopped : (answer : Answers) (start : Place) (old new after : LineReader) (desk desk' : DeskState) (held held' : List ℕ) (left left' written : Option (List ℕ)) (line : Line) (raw : List ℕ) (result : Result (Option ℕ) RunFault) → after ≡ new → IsBetween answer start (place old desk held left written) → (has_text line ≡ true → old.ended ≡ false) → Spells raw new.ended line → Moves (backlog_of old) (backlog_of new) left left' raw → ((old.ended ≡ true → IsAtEnd left) → new.ended ≡ true → IsAtEnd left') → (new.ended ≡ true → new.pending ≡ []) → ((text : List ℕ) → IsTextOf text line → IfErr result (λ stop. (refusal : Refusal) × (stop ≡ refused_stop refusal) × HasRefused answer (commands_said (line_said text)) desk desk' held held' refusal)) → IfErr result IsRefusal → (has_text line ≡ false → (result ≡ Ok None) × (desk' ≡ desk) × (held' ≡ held)) → IfErr result (IsStopped answer start (place after desk' held' left' written))
answered_stopped answer start old new after desk desk' held held' left left' written line raw (Ok more) same had going spelled moved end empty refused is ends = tt
answered_stopped answer start old new after desk desk' held held' left left' written line raw (Err stop) same had going spelled moved end empty refused is ends =
    elim (both (has_text line)) [
      | inl text ↦
          subst (λ (r : LineReader). IsStopped answer start (place r desk' held' left' written) stop) (sym same)
          (refused_place answer start old new desk desk' held held' left left' written line raw stop had (going text) text spelled moved
          (end (λ e. absurd (false≢true (sym (going text) ∙ e)))) empty refused is)
      | inr none ↦ absurd (err-ok stop (ends none).0)
    ]

-- a reader that gives no more lines: where a whole line is at hand, memory is wanted
pub faulted : (answer : Answers) (start : Place) (old new : LineReader) (desk : DeskState) (held : List ℕ) (left left' written : Option (List ℕ)) (fault : LineFault) (stop : RunFault) → IsBetween answer start (place old desk held left written) → old.ended ≡ false → stop ≡ stop_of fault → Leaves fault (backlog_of old) (backlog_of new) left left' → (fault ≡ faults.Limit → IfSome left (λ rest. 67108864 < old.taken + length rest)) → (held ≡ []) ⊎ (has_feed old.pending ≡ true) → (has_feed old.pending ≡ true → fault ≡ faults.Memory) → IsStopped answer start (place new desk held left' written) stop
faulted answer start old new desk held left left' written fault stop had going is leaves over given at_hand =
    subst (IsStopped answer start (place new desk held left' written)) (sym is)
    (between-fault answer start old new desk held left left' written fault had going leaves over (which given))
  where
    which : (held ≡ []) ⊎ (has_feed old.pending ≡ true) → (held ≡ []) ⊎ (fault ≡ faults.Memory)
    which (inl none) = inl none
    which (inr line) = inr (at_hand line)

-- ---- how many commands
few_said : (said : Result Parsed BadLine) → length (commands_said said) ≤ 2
few_said (Ok parsed.Empty) = omega arith
few_said (Ok (parsed.One command)) = omega arith
few_said (Ok (parsed.Calc kind)) = omega arith
few_said (Err fault) = omega arith

-- the history is longer by the commands of the line
pub answered_count : (answer : Answers) (new : LineReader) (desk desk' : DeskState) (held held' : List ℕ) (line : Line) (raw : List ℕ) (result : Result (Option ℕ) RunFault) → Spells raw new.ended line → ((text : List ℕ) → IsTextOf text line → OnOk result (HasSaid answer (line_said text) desk desk' held held')) → ((text : List ℕ) → IsTextOf text line → IfOk result (λ more. more ≡ Some (length (commands_said (line_said text))))) → (has_text line ≡ false → (result ≡ Ok None) × (desk' ≡ desk) × (held' ≡ held)) → IfOk result (λ more. MatchOption more (desk' ≡ desk) (λ count. (count ≤ 2) × (length desk'.history ≡ length desk.history + count)))
answered_count answer new desk desk' held held' line raw (Err stop) spelled said count ends = tt
answered_count answer new desk desk' held held' line raw (Ok None) spelled said count ends =
    elim (both (has_text line)) [
      | inl text ↦ let t = text_of raw new.ended line text spelled in let e : None ≡ Some (length (commands_said (line_said t.0))) = count t.0 t.1 in cc
      | inr none ↦ (ends none).1
    ]
answered_count answer new desk desk' held held' line raw (Ok (Some n)) spelled said count ends =
    elim (both (has_text line)) [
      | inl text ↦
          let t = text_of raw new.ended line text spelled in
          let is : n ≡ length (commands_said (line_said t.0)) = some_is n _ (count t.0 t.1) in
          let done = said t.0 t.1 in (
            subst (λ k. k ≤ 2) (sym is) (few_said (line_said t.0)),
            ap (λ (d : DeskState). length d.history) done.acted ∙ length-after desk (commands_said (line_said t.0))
                ∙ ap (λ k. length desk.history + k) (sym is),
          )
      | inr none ↦ absurd (none-some n (ends none).0)
    ]
  where
    some_is : (m k : ℕ) → Some m ≡ Some k → m ≡ k
    some_is m k e = cc

-- ---- progress
pub answered_advances : (old new after : LineReader) (desk desk' : DeskState) (held held' : List ℕ) (line : Line) (result : Result (Option ℕ) RunFault) → after ≡ new → Advances line old new → (has_text line ≡ false → (result ≡ Ok None) × (desk' ≡ desk) × (held' ≡ held)) → IfOk result (λ more. MatchOption more (Unit {0}) (λ count. given_out_count old < given_out_count after))
answered_advances old new after desk desk' held held' line (Err stop) same advances ends = tt
answered_advances old new after desk desk' held held' line (Ok None) same advances ends = tt
answered_advances old new after desk desk' held held' (Bytes line) (Ok (Some n)) same advances ends =
    subst (λ (r : LineReader). given_out_count old < given_out_count r) (sym same) advances
answered_advances old new after desk desk' held held' TooLong (Ok (Some n)) same advances ends =
    subst (λ (r : LineReader). given_out_count old < given_out_count r) (sym same) advances
answered_advances old new after desk desk' held held' End (Ok (Some n)) same advances ends = absurd (none-some n (ends refl).0)

-- ---- counts of faults
-- a line that stops the session is no fault of the source
pub caused_by_line : (answer : Result (Option ℕ) RunFault) (reads reads' : ℕ) → reads' ≡ reads → IfErr answer IsRefusal → IfErr answer (λ stop. IsReadCaused stop reads reads')
caused_by_line (Ok more) reads reads' same is = tt
caused_by_line (Err run_faults.Read) reads reads' same is = absurd is
caused_by_line (Err run_faults.Write) reads reads' same is = absurd is
caused_by_line (Err run_faults.Limit) reads reads' same is = absurd is
caused_by_line (Err run_faults.Memory) reads reads' same is = same
caused_by_line (Err run_faults.Full) reads reads' same is = same

caused_as : (fault : LineFault) (reads reads' : ℕ) → (◌≡◌ {A = Result Line LineFault} (Err fault) (Err faults.Read)) ⊎ (reads' ≡ reads) → (◌≡◌ {A = Result Line LineFault} (Err fault) (Err faults.Read) → Rose reads reads') → IsReadCaused (stop_of fault) reads reads'
caused_as faults.Read reads reads' steady rose = rose refl
caused_as faults.Limit reads reads' (inl e) rose = cc
caused_as faults.Limit reads reads' (inr same) rose = same
caused_as faults.Memory reads reads' (inl e) rose = cc
caused_as faults.Memory reads reads' (inr same) rose = same

pub caused_by_reader : (fault : LineFault) (stop : RunFault) (reads reads' : ℕ) → stop ≡ stop_of fault → (◌≡◌ {A = Result Line LineFault} (Err fault) (Err faults.Read)) ⊎ (reads' ≡ reads) → (◌≡◌ {A = Result Line LineFault} (Err fault) (Err faults.Read) → Rose reads reads') → IsReadCaused stop reads reads'
caused_by_reader fault stop reads reads' is steady rose =
    subst (λ s. IsReadCaused s reads reads') (sym is) (caused_as fault reads reads' steady rose)

-- ---- a failed write
pub unwritten_stops : (answer : Answers) (start : Place) (reading after : LineReader) (desk : DeskState) (held held' : List ℕ) (left written written' : Option (List ℕ)) (stop : RunFault) → after ≡ reading → IsBetween answer start (place reading desk held left written) → stop ≡ run_faults.Write → held' ≡ [] → AppendsPrefix written held written' → IsStopped answer start (place after desk held' left written') stop
unwritten_stops answer start reading after desk held held' left written written' stop same had is none part =
    subst (IsStopped answer start (place after desk held' left written')) (sym is)
    (subst (λ (r : LineReader). IsStopped answer start (place r desk held' left written') run_faults.Write) (sym same)
    (between-unwritten answer start reading desk held held' left written written' had none part))

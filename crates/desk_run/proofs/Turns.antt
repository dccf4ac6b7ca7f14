-- Where a session is after a line, a fault of its source, or what was handed over.
use Rattle.std.proofs.Common.{◌≡◌, ◌⊎◌, inl, inr, ◌+◌, ◌<◌, ◌≤◌, ℕ, true, false, List, [], ◌∷◌, ◌++◌, length, Option, IfSome, OnOk, Result, Ok, Err, refl, sym, ap, subst, ◌∙◌, append_assoc, append-nil, length-append, arith}
use Rattle.std.specs.Io.KnownBytes.{IsAtEnd}
use Rattle.host_io.specs.declared.reader.Line.{Line}
use Rattle.host_io.specs.declared.reader.LineFault.{LineFault}
use Rattle.host_io.specs.declared.reader.LineFault.TheVariants as faults
use Rattle.host_io.specs.declared.run_faults.RunFault.{RunFault}
use Rattle.host_io.specs.declared.run_faults.RunFault.TheVariants as run_faults
use Rattle.host_io.specs.LineReader.{LineReader, backlog_of, Moves, Leaves, Spells, IsFirstLeft, IsTextOf}
use Rattle.host_io.specs.Sink.{Appends, AppendsPrefix}
use Rattle.host_io.proofs.PublicLaws.{Appends-more}
use Rattle.session_script.specs.Script.{line_said}
use Rattle.workbook.specs.declared.commands.Command.{Command}
use Rattle.workbook.specs.declared.replies.Reply.{Reply}
use Rattle.workbook.specs.Desk.{DeskState}
use Rattle.desk_run.specs.declared.answering.Refusal.TheVariants as refusals
use Rattle.desk_run.specs.Output.{commands_of, commands_of_line, commands_said, lines_text, replies_text, said_text}
use Rattle.desk_run.specs.Run.{Answers, AreReplies, desk_after}
use Rattle.desk_run.specs.Session.{HasLeft, HasReadIfTold, HasRefused, HasSaid, HasText, IsBetween, IsFinished, IsStopped, Place, has_text, place, stop_of}
use Rattle.desk_run.proofs.Readings.{read-end, read-failed, read-first, read-line, read-over}
use Rattle.desk_run.proofs.Replies.{acted-append, are-append}
use Rattle.desk_run.proofs.Texts.{commands_of-one, lines_text-one, lines_text-part, lines_text-short}

-- ---- what is held and written
-- more is held
pub text-more : (before : Option (List ℕ)) (text more held held' : List ℕ) (written : Option (List ℕ)) → HasText before text held written → held' ≡ held ++ more → HasText before (text ++ more) held' written
text-more before text more held held' written had is = record {
  out = had.out;
  whole =
      ap (λ (bs : List ℕ). bs ++ more) had.whole ∙ append_assoc had.out held more
      ∙ ap (λ (bs : List ℕ). had.out ++ bs) (sym is);
  wrote = had.wrote;
}

-- all that was held is written
pub text-written : (before : Option (List ℕ)) (text held : List ℕ) (written written' : Option (List ℕ)) → HasText before text held written → Appends written held written' → HasText before text [] written'
text-written before text held written written' had all = record {
  out = had.out ++ held;
  whole = had.whole ∙ sym (append-nil (had.out ++ held));
  wrote = Appends-more before written written' had.out held had.wrote all;
}

-- ---- a line
-- the commands of the lines so far and of one more
joined : (answer : Answers) (start : Place) (lines : List (List ℕ)) (text : List ℕ) (replies these : List Reply) → AreReplies answer start.desk (commands_of lines ++ commands_of_line text) (replies ++ these) → AreReplies answer start.desk (commands_of (lines ++ text ∷ [])) (replies ++ these)
joined answer start lines text replies these are =
    subst (λ (cs : List Command). AreReplies answer start.desk cs (replies ++ these)) (sym (commands_of-one lines text)) are

-- a line was acted on
pub between-line : (answer : Answers) (start : Place) (old new : LineReader) (desk desk' : DeskState) (held held' : List ℕ) (left left' written : Option (List ℕ)) (line : Line) (raw : List ℕ) → IsBetween answer start (place old desk held left written) → old.ended ≡ false → has_text line ≡ true → Spells raw new.ended line → Moves (backlog_of old) (backlog_of new) left left' raw → (new.ended ≡ true → IsAtEnd left') → (new.ended ≡ true → new.pending ≡ []) → ((text : List ℕ) → IsTextOf text line → HasSaid answer (line_said text) desk desk' held held') → IsBetween answer start (place new desk' held' left' written)
between-line answer start old new desk desk' held held' left left' written line raw had going text spelled moved end empty said =
    let next = read-line start.left old new left left' had.lines line raw had.given going text spelled moved end empty in
    let done = said next.0 next.1 in record {
      lines = had.lines ++ next.0 ∷ [];
      given = next.2;
      replies = had.replies ++ done.replies;
      are = joined answer start had.lines next.0 had.replies done.replies
          (are-append answer start.desk desk (commands_of had.lines) (commands_of_line next.0) had.replies done.replies had.acted had.are done.are);
      acted =
          acted-append start.desk desk desk' (commands_of had.lines) (commands_of_line next.0) had.acted done.acted
          ∙ ap (desk_after start.desk) (sym (commands_of-one had.lines next.0));
      text = subst (λ (bs : List ℕ). HasText start.written bs held' written)
          (sym (lines_text-one had.lines next.0 had.replies done.replies had.are.count done.are.count))
          (text-more start.written (lines_text had.lines had.replies) (said_text (line_said next.0) done.replies) held held' written had.text done.text);
    }

-- the source came to its end
pub between-end : (answer : Answers) (start : Place) (old new : LineReader) (desk : DeskState) (held : List ℕ) (left left' written : Option (List ℕ)) (line : Line) (raw : List ℕ) → IsBetween answer start (place old desk held left written) → has_text line ≡ false → ((old.ended ≡ true → IsAtEnd left) → IsFirstLeft old.pending left new.pending left' line) → Moves (backlog_of old) (backlog_of new) left left' raw → new.taken ≤ 67108864 → IsFinished answer start (place new desk held left' written)
between-end answer start old new desk held left left' written line raw had none first moved within = record {
  lines = had.lines;
  given = read-end start.left old new left left' had.lines line raw had.given none first moved within;
  replies = had.replies;
  are = had.are;
  acted = had.acted;
  text = had.text;
}

-- ---- a line that isn't answered whole
few_of : (first others all : List Command) → all ≡ first ++ others → length first ≤ length all
few_of first others all split = omega (arith, ap length split, length-append first others)

less_of : (first others all : List Command) → all ≡ first ++ others → 0 < length others → length first < length all
less_of first others all split some = omega (arith, ap length split, length-append first others, some)

-- where the history is full, a command of the line was left, and the lines of the replies before it are held
pub between-full : (answer : Answers) (start : Place) (old new : LineReader) (desk desk' : DeskState) (held held' : List ℕ) (left left' written : Option (List ℕ)) (line : Line) (raw : List ℕ) → IsBetween answer start (place old desk held left written) → old.ended ≡ false → has_text line ≡ true → Spells raw new.ended line → Moves (backlog_of old) (backlog_of new) left left' raw → (new.ended ≡ true → IsAtEnd left') → (new.ended ≡ true → new.pending ≡ []) → ((text : List ℕ) → IsTextOf text line → HasRefused answer (commands_said (line_said text)) desk desk' held held' refusals.Full) → HasLeft answer start (place new desk' held' left' written) run_faults.Full
between-full answer start old new desk desk' held held' left left' written line raw had going text spelled moved end empty refused =
    let next = read-line start.left old new left left' had.lines line raw had.given going text spelled moved end empty in
    let done = refused next.0 next.1 in
    let full = done.full refl in
    let holds : held' ≡ held ++ replies_text done.replies =
    done.holds ∙ ap (λ (bs : List ℕ). held ++ bs) (sym (done.cut ∙ ap (λ (bs : List ℕ). done.text ++ bs) full.0 ∙ append-nil done.text)) in
    let fewer : length done.replies < length (commands_of_line next.0) = omega (arith, done.are.count, less_of done.first done.others _ done.split full.1) in record {
      lines = had.lines ++ next.0 ∷ [];
      given = read-first start.left new left' (had.lines ++ next.0 ∷ []) next.2;
      first = commands_of had.lines ++ done.first;
      others = done.others;
      split =
          commands_of-one had.lines next.0 ∙ ap (λ (cs : List Command). commands_of had.lines ++ cs) done.split
          ∙ sym (append_assoc (commands_of had.lines) done.first done.others);
      replies = had.replies ++ done.replies;
      are = are-append answer start.desk desk (commands_of had.lines) done.first had.replies done.replies had.acted had.are done.are;
      acted = acted-append start.desk desk desk' (commands_of had.lines) done.first had.acted done.acted;
      kept = lines_text had.lines had.replies ++ replies_text done.replies;
      missing = [];
      cut = lines_text-short had.lines next.0 had.replies done.replies had.are.count fewer ∙ sym (append-nil _);
      text = text-more start.written (lines_text had.lines had.replies) (replies_text done.replies) held held' written had.text holds;
      full = λ is. (refl, full.1, full.2);
    }

-- where there is no memory, some of the lines of the replies may be missing
pub between-memory : (answer : Answers) (start : Place) (old new : LineReader) (desk desk' : DeskState) (held held' : List ℕ) (left left' written : Option (List ℕ)) (line : Line) (raw : List ℕ) → IsBetween answer start (place old desk held left written) → old.ended ≡ false → has_text line ≡ true → Spells raw new.ended line → Moves (backlog_of old) (backlog_of new) left left' raw → (new.ended ≡ true → IsAtEnd left') → (new.ended ≡ true → new.pending ≡ []) → ((text : List ℕ) → IsTextOf text line → HasRefused answer (commands_said (line_said text)) desk desk' held held' refusals.Memory) → HasLeft answer start (place new desk' held' left' written) run_faults.Memory
between-memory answer start old new desk desk' held held' left left' written line raw had going text spelled moved end empty refused =
    let next = read-line start.left old new left left' had.lines line raw had.given going text spelled moved end empty in
    let done = refused next.0 next.1 in
    let few : length done.replies ≤ length (commands_of_line next.0) = omega (arith, done.are.count, few_of done.first done.others _ done.split) in
    let part = lines_text-part had.lines next.0 had.replies done.replies done.text done.missing had.are.count few done.cut in record {
      lines = had.lines ++ next.0 ∷ [];
      given = read-first start.left new left' (had.lines ++ next.0 ∷ []) next.2;
      first = commands_of had.lines ++ done.first;
      others = done.others;
      split =
          commands_of-one had.lines next.0 ∙ ap (λ (cs : List Command). commands_of had.lines ++ cs) done.split
          ∙ sym (append_assoc (commands_of had.lines) done.first done.others);
      replies = had.replies ++ done.replies;
      are = are-append answer start.desk desk (commands_of had.lines) done.first had.replies done.replies had.acted had.are done.are;
      acted = acted-append start.desk desk desk' (commands_of had.lines) done.first had.acted done.acted;
      kept = lines_text had.lines had.replies ++ done.text;
      missing = part.0;
      cut = part.1;
      text = text-more start.written (lines_text had.lines had.replies) done.text held held' written had.text done.holds;
      full = λ is. absurd (let no : run_faults.Memory ≡ run_faults.Full = is in cc);
    }

-- ---- a fault
-- all lines that were given out are answered
left-whole : (answer : Answers) (start : Place) (old new : LineReader) (desk : DeskState) (held : List ℕ) (left left' written : Option (List ℕ)) (stop : RunFault) → IsBetween answer start (place old desk held left written) → (stop ≡ run_faults.Full → ⊥) → HasLeft answer start (place new desk held left' written) stop
left-whole answer start old new desk held left left' written stop had other = record {
  lines = had.lines;
  given = read-first start.left old left had.lines had.given;
  first = commands_of had.lines;
  others = [];
  split = sym (append-nil (commands_of had.lines));
  replies = had.replies;
  are = had.are;
  acted = had.acted;
  kept = lines_text had.lines had.replies;
  missing = [];
  cut = sym (append-nil (lines_text had.lines had.replies));
  text = had.text;
  full = λ is. absurd (other is);
}

-- the reader gives no more lines
pub between-fault : (answer : Answers) (start : Place) (old new : LineReader) (desk : DeskState) (held : List ℕ) (left left' written : Option (List ℕ)) (fault : LineFault) → IsBetween answer start (place old desk held left written) → old.ended ≡ false → Leaves fault (backlog_of old) (backlog_of new) left left' → (fault ≡ faults.Limit → IfSome left (λ rest. 67108864 < old.taken + length rest)) → (held ≡ []) ⊎ (fault ≡ faults.Memory) → IsStopped answer start (place new desk held left' written) (stop_of fault)
between-fault answer start old new desk held left left' written faults.Read had going leaves over (inl none) = (
  left-whole answer start old new desk held left left' written run_faults.Read had (λ is. let no : run_faults.Read ≡ run_faults.Full = is in cc),
  record {
    lines = had.lines;
    given = read-failed start.left old new left left' had.lines had.given going leaves;
    replies = had.replies;
    are = had.are;
    acted = had.acted;
    text = had.text;
  },
  none,
)
between-fault answer start old new desk held left left' written faults.Read had going leaves over (inr memory) = absurd (let no : faults.Read ≡ faults.Memory = memory in cc)
between-fault answer start old new desk held left left' written faults.Limit had going leaves over (inl none) = (
  left-whole answer start old new desk held left left' written run_faults.Limit had (λ is. let no : run_faults.Limit ≡ run_faults.Full = is in cc),
  record {
    lines = had.lines;
    given = read-over start.left old new left left' had.lines had.given going leaves (over refl);
    replies = had.replies;
    are = had.are;
    acted = had.acted;
    text = had.text;
  },
  none,
)
between-fault answer start old new desk held left left' written faults.Limit had going leaves over (inr memory) = absurd (let no : faults.Limit ≡ faults.Memory = memory in cc)
between-fault answer start old new desk held left left' written faults.Memory had going leaves over held_or =
    left-whole answer start old new desk held left left' written run_faults.Memory had (λ is. let no : run_faults.Memory ≡ run_faults.Full = is in cc)

-- ---- what is handed over
pub between-written : (answer : Answers) (start : Place) (reading after : LineReader) (desk : DeskState) (held held' : List ℕ) (left written written' : Option (List ℕ)) → after ≡ reading → IsBetween answer start (place reading desk held left written) → ((before : Option (List ℕ)) (text : List ℕ) → HasText before text held written → HasText before text held' written') → IsBetween answer start (place after desk held' left written')
between-written answer start reading after desk held held' left written written' same had handed = record {
  lines = had.lines;
  given = subst (λ (r : LineReader). HasReadIfTold start.left r left had.lines) (sym same) had.given;
  replies = had.replies;
  are = had.are;
  acted = had.acted;
  text = handed start.written (lines_text had.lines had.replies) had.text;
}

-- all that is held is handed over
pub handed_all : {T E : Type 0} (before : Option (List ℕ)) (text held held' : List ℕ) (written written' : Option (List ℕ)) (r : Result T E) → HasText before text held written → held' ≡ [] → OnOk r (Appends written held written') → OnOk r (HasText before text held' written')
handed_all before text held held' written written' (Ok x) had none all =
    subst (λ (bs : List ℕ). HasText before text bs written') (sym none) (text-written before text held written written' had all)
handed_all before text held held' written written' (Err e) had none all = tt

-- a write failed
pub between-unwritten : (answer : Answers) (start : Place) (reading : LineReader) (desk : DeskState) (held held' : List ℕ) (left written written' : Option (List ℕ)) → IsBetween answer start (place reading desk held left written) → held' ≡ [] → AppendsPrefix written held written' → HasLeft answer start (place reading desk held' left written') run_faults.Write
between-unwritten answer start reading desk held held' left written written' had none part = record {
  lines = had.lines;
  given = read-first start.left reading left had.lines had.given;
  first = commands_of had.lines;
  others = [];
  split = sym (append-nil (commands_of had.lines));
  replies = had.replies;
  are = had.are;
  acted = had.acted;
  kept = had.text.out ++ part.0;
  missing = part.1;
  cut = had.text.whole ∙ ap (λ (bs : List ℕ). had.text.out ++ bs) part.2 ∙ sym (append_assoc had.text.out part.0 part.1);
  text = record {
    out = had.text.out ++ part.0;
    whole = sym (append-nil (had.text.out ++ part.0)) ∙ ap (λ (bs : List ℕ). (had.text.out ++ part.0) ++ bs) (sym none);
    wrote = Appends-more start.written written written' had.text.out part.0 had.text.wrote part.3;
  };
  full = λ is. absurd (let no : run_faults.Write ≡ run_faults.Full = is in cc);
}

-- What a whole session leaves, once what it held was handed over.
use Rattle.std.proofs.Common.{◌≡◌, ℕ, false, List, [], ◌++◌, Option, Some, None, Result, Ok, Err, IfErr, OnOk, refl, sym, ap, subst, ◌∙◌, append_assoc, append-nil}
use Rattle.host_io.specs.declared.run_faults.RunFault.{RunFault}
use Rattle.host_io.specs.declared.run_faults.RunFault.TheVariants as run_faults
use Rattle.host_io.specs.LineReader.{LineReader}
use Rattle.host_io.specs.Sink.{Appends, AppendsPrefix}
use Rattle.host_io.proofs.PublicLaws.{Appends-more, Appends-none}
use Rattle.std.specs.Io.KnownBytes.{Keeps}
use Rattle.workbook.specs.Desk.{DeskState}
use Rattle.desk_run.specs.Output.{commands_of, lines_text}
use Rattle.desk_run.specs.Run.{Answers, AreFirst, HasReadAll, HasRun, HasRunPart, HasRunTo, HasRunWhole}
use Rattle.desk_run.specs.Session.{HasDone, HasLeft, HasText, IsBetween, IsFinished, IsStopped, Place, place}
use Rattle.desk_run.proofs.Readings.{read-start}
use Rattle.desk_run.proofs.Replies.{after-none, are-none}
use Rattle.desk_run.proofs.Turns.{text-written}

-- ---- the start
keeps : (told : Option (List ℕ)) → Keeps told told
keeps None = tt
keeps (Some bytes) = refl

pub between-start : (answer : Answers) (reading : LineReader) (desk : DeskState) (held : List ℕ) (left written : Option (List ℕ)) → reading ≡ record { pending = []; taken = 0; ended = false; fault = None } → held ≡ [] → IsBetween answer (place reading desk [] left written) (place reading desk held left written)
between-start answer reading desk held left written new none = record {
  lines = [];
  given = read-start left reading new;
  replies = [];
  are = are-none answer desk;
  acted = after-none desk;
  text = record { out = []; whole = sym none; wrote = Appends-none written written (keeps written) };
}

-- ---- what was held is written
text-all : (before : Option (List ℕ)) (text : List ℕ) (written : Option (List ℕ)) → HasText before text [] written → Appends before text written
text-all before text written had = subst (λ (bs : List ℕ). Appends before bs written) (sym (had.whole ∙ append-nil had.out)) had.wrote

-- all of some text, or its first part
done_all : (before : Option (List ℕ)) (text held : List ℕ) (written written' : Option (List ℕ)) → HasText before text held written → Appends written held written' → Appends before text written'
done_all before text held written written' had all = text-all before text written' (text-written before text held written written' had all)

done_part : (before : Option (List ℕ)) (text missing held : List ℕ) (written written' : Option (List ℕ)) → HasText before text held written → AppendsPrefix written held written' → AppendsPrefix before (text ++ missing) written'
done_part before text missing held written written' had part = (
  had.out ++ part.0,
  part.1 ++ missing,
  ap (λ (bs : List ℕ). bs ++ missing)
      (had.whole ∙ ap (λ (bs : List ℕ). had.out ++ bs) part.2 ∙ sym (append_assoc had.out part.0 part.1))
      ∙ append_assoc (had.out ++ part.0) part.1 missing,
  Appends-more before written written' had.out part.0 had.wrote part.3,
)

-- ---- whole lines
run_whole : (answer : Answers) (start now : Place) (written' : Option (List ℕ)) (Read : List (List ℕ) → Type 0) → HasDone answer start now Read → Appends now.written now.held written' → HasRunWhole answer start.desk now.desk start.written written' Read
run_whole answer start now written' Read had all = record {
  lines = had.lines;
  read = had.given;
  answered = record {
    replies = had.replies;
    are = had.are;
    acted = had.acted;
    wrote = done_all start.written (lines_text had.lines had.replies) now.held now.written written' had.text all;
  };
}

-- ---- a part
left_part : (answer : Answers) (start now : Place) (written' : Option (List ℕ)) (stop : RunFault) → HasLeft answer start now stop → AppendsPrefix now.written now.held written' → HasRunPart answer start.left start.desk now.desk start.written written'
left_part answer start now written' stop had part = record {
  lines = had.lines;
  read = had.given;
  commands = had.first;
  others = had.others;
  split = had.split;
  begun = record {
    replies = had.replies;
    are = had.are;
    acted = had.acted;
    wrote = subst (λ (bs : List ℕ). AppendsPrefix start.written bs written') (sym had.cut)
        (done_part start.written had.kept had.missing now.held now.written written' had.text part);
  };
}

first_of_all : (told left : Option (List ℕ)) (lines : List (List ℕ)) → HasReadAll told left lines → AreFirst told lines
first_of_all None left lines had = tt
first_of_all (Some all) left lines had = ([], sym had.0 ∙ sym (append-nil lines))

finished_part : (answer : Answers) (start now : Place) (written' : Option (List ℕ)) → IsFinished answer start now → AppendsPrefix now.written now.held written' → HasRunPart answer start.left start.desk now.desk start.written written'
finished_part answer start now written' had part = record {
  lines = had.lines;
  read = first_of_all start.left now.left had.lines had.given;
  commands = commands_of had.lines;
  others = [];
  split = sym (append-nil (commands_of had.lines));
  begun = record {
    replies = had.replies;
    are = had.are;
    acted = had.acted;
    wrote = subst (λ (bs : List ℕ). AppendsPrefix start.written bs written') (append-nil (lines_text had.lines had.replies))
        (done_part start.written (lines_text had.lines had.replies) [] now.held now.written written' had.text part);
  };
}

all_part : (written written' : Option (List ℕ)) (held : List ℕ) → Appends written held written' → AppendsPrefix written held written'
all_part written written' held all = (held, [], sym (append-nil held), all)

-- ---- a session that stopped early
stopped_part : (answer : Answers) (start now : Place) (written' : Option (List ℕ)) (stop : RunFault) → IsStopped answer start now stop → AppendsPrefix now.written now.held written' → HasRunPart answer start.left start.desk now.desk start.written written'
stopped_part answer start now written' run_faults.Read had part = left_part answer start now written' run_faults.Read had.0 part
stopped_part answer start now written' run_faults.Limit had part = left_part answer start now written' run_faults.Limit had.0 part
stopped_part answer start now written' run_faults.Write had part = left_part answer start now written' run_faults.Write had part
stopped_part answer start now written' run_faults.Memory had part = left_part answer start now written' run_faults.Memory had part
stopped_part answer start now written' run_faults.Full had part = left_part answer start now written' run_faults.Full had part

stopped_run : (answer : Answers) (start now : Place) (written' : Option (List ℕ)) (stop : RunFault) → IsStopped answer start now stop → Appends now.written now.held written' → HasRunTo answer start.left now.left start.desk now.desk start.written written' stop
stopped_run answer start now written' run_faults.Read had all = run_whole answer start now written' _ had.1 all
stopped_run answer start now written' run_faults.Limit had all = run_whole answer start now written' _ had.1 all
stopped_run answer start now written' run_faults.Write had all = tt
stopped_run answer start now written' run_faults.Memory had all = tt
stopped_run answer start now written' run_faults.Full had all =
    let full = had.full refl in record {
      lines = had.lines;
      read = had.given;
      commands = had.first;
      others = had.others;
      split = had.split;
      more = full.1;
      answered = record {
        replies = had.replies;
        are = had.are;
        acted = had.acted;
        wrote = done_all start.written (lines_text had.lines had.replies) now.held now.written written'
            (subst (λ (bs : List ℕ). HasText start.written bs now.held now.written)
            (sym (had.cut ∙ ap (λ (bs : List ℕ). had.kept ++ bs) full.0 ∙ append-nil had.kept)) had.text)
            all;
      };
      full = full.2;
    }

-- ---- what a session answers
pub ok_finished : (answer : Answers) (start now : Place) (written' : Option (List ℕ)) (read : Result ℕ RunFault) → OnOk read (IsFinished answer start now) → Appends now.written now.held written' → OnOk read (HasRun answer start.left now.left start.desk now.desk start.written written')
ok_finished answer start now written' (Ok count) had all = run_whole answer start now written' _ had all
ok_finished answer start now written' (Err stop) had all = tt

pub ok_stopped : (answer : Answers) (start now : Place) (written' : Option (List ℕ)) (read : Result ℕ RunFault) → IfErr read (IsStopped answer start now) → Appends now.written now.held written' → IfErr read (HasRunTo answer start.left now.left start.desk now.desk start.written written')
ok_stopped answer start now written' (Ok count) had all = tt
ok_stopped answer start now written' (Err stop) had all = stopped_run answer start now written' stop had all

pub ok_begun : (answer : Answers) (start now : Place) (written' : Option (List ℕ)) (read : Result ℕ RunFault) → IfErr read (IsStopped answer start now) → Appends now.written now.held written' → IfErr read (λ stop. HasRunPart answer start.left start.desk now.desk start.written written')
ok_begun answer start now written' (Ok count) had all = tt
ok_begun answer start now written' (Err stop) had all =
    stopped_part answer start now written' stop had (all_part now.written written' now.held all)

pub err_begun : (answer : Answers) (start now : Place) (written' : Option (List ℕ)) (read : Result ℕ RunFault) → OnOk read (IsFinished answer start now) → IfErr read (IsStopped answer start now) → AppendsPrefix now.written now.held written' → HasRunPart answer start.left start.desk now.desk start.written written'
err_begun answer start now written' (Ok count) had stopped part = finished_part answer start now written' had part
err_begun answer start now written' (Err stop) had stopped part = stopped_part answer start now written' stop stopped part

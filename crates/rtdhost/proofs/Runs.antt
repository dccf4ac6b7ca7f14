-- What a session at the program's desk leaves.
use Rattle.std.proofs.Common.{◌≡◌, ℕ, ◌≤◌, true, List, [], Option, Some, Result, Ok, Err, IfErr, OnOk, refl, sym, subst, arith}
use Rattle.addin_types.specs.Samples.{sample_answer}
use Rattle.desk_run.specs.Output.{commands_in, replies_from}
use Rattle.desk_run.specs.Run.{HasRun, HasRunPart, HasRunTo}
use Rattle.desk_run.proofs.PublicLaws.{answered_steady, begun_steady, full_steady}
use Rattle.host_io.specs.declared.run_faults.RunFault.{RunFault}
use Rattle.host_io.specs.declared.run_faults.RunFault.TheVariants as run_faults
use Rattle.host_io.specs.Lines.{lines_of}
use Rattle.host_io.specs.Sink.{Appends, AppendsPrefix}
use Rattle.workbook.specs.Desk.{DeskState}
use Rattle.workbook.specs.State.{first_state}
use Rattle.rtdhost.specs.Output.{program_terms}
use Rattle.rtdhost.specs.Session.{HasAnsweredWhole, HasFinished, HasStopped}

-- the program's desk before its first command
abbrev pub first_desk : DeskState
first_desk = record { session = 1; limit = program_terms.limit; steady = true; history = [] }

-- all was read
finished : (all : List ℕ) (left written written' : Option (List ℕ)) (desk' : DeskState) → HasRun sample_answer (Some all) left first_desk desk' written written' → HasFinished all written left written'
finished all left written written' desk' had = record {
  within = had.read.2;
  fits = subst (λ ls. commands_in ls ≤ 1000000) had.read.0 (omega (arith, had.answered.are.fits));
  read = had.read.1;
  wrote = subst (λ (ls : List (List ℕ)). Appends written (replies_from program_terms first_state ls) written') had.read.0
      (answered_steady sample_answer had.lines first_desk desk' written written' refl had.answered);
}

pub ok_finished : (all : List ℕ) (told left written written' : Option (List ℕ)) (desk desk' : DeskState) (result : Result ℕ RunFault) → told ≡ Some all → desk ≡ first_desk → OnOk result (HasRun sample_answer told left desk desk' written written') → OnOk result (HasFinished all written left written')
ok_finished all told left written written' desk desk' (Ok count) is new had =
    finished all left written written' desk'
    (subst (λ (d : DeskState). HasRun sample_answer (Some all) left d desk' written written') new
    (subst (λ (t : Option (List ℕ)). HasRun sample_answer t left desk desk' written written') is had))
ok_finished all told left written written' desk desk' (Err stop) is new had = tt

-- ---- early stops
whole : (all : List ℕ) (left written written' : Option (List ℕ)) (desk' : DeskState) (stop : RunFault) → HasRunTo sample_answer (Some all) left first_desk desk' written written' stop → HasAnsweredWhole stop all written left written'
whole all left written written' desk' run_faults.Read had = (
  had.read.0,
  had.read.1,
  subst (λ (ls : List (List ℕ)). Appends written (replies_from program_terms first_state ls) written') had.read.2
      (answered_steady sample_answer had.lines first_desk desk' written written' refl had.answered),
  subst (λ ls. commands_in ls ≤ 1000000) had.read.2 (omega (arith, had.answered.are.fits)),
)
whole all left written written' desk' run_faults.Limit had = (
  had.read.0,
  subst (λ (ls : List (List ℕ)). Appends written (replies_from program_terms first_state ls) written') had.read.1
      (answered_steady sample_answer had.lines first_desk desk' written written' refl had.answered),
  subst (λ ls. commands_in ls ≤ 1000000) had.read.1 (omega (arith, had.answered.are.fits)),
)
whole all left written written' desk' run_faults.Write had = tt
whole all left written written' desk' run_faults.Memory had = tt
whole all left written written' desk' run_faults.Full had = full_steady sample_answer all first_desk desk' written written' refl had

part : (all : List ℕ) (written written' : Option (List ℕ)) (desk' : DeskState) → HasRunPart sample_answer (Some all) first_desk desk' written written' → AppendsPrefix written (replies_from program_terms first_state (lines_of all)) written'
part all written written' desk' had =
    subst (λ (ls : List (List ℕ)). AppendsPrefix written (replies_from program_terms first_state ls) written') (sym had.read.1)
    (begun_steady sample_answer had.lines had.read.0 had.commands had.others first_desk desk' written written' refl had.split had.begun)

stopped : (all : List ℕ) (told left written written' : Option (List ℕ)) (desk desk' : DeskState) (stop : RunFault) → told ≡ Some all → desk ≡ first_desk → HasRunTo sample_answer told left desk desk' written written' stop → HasRunPart sample_answer told desk desk' written written' → HasStopped stop all written left written'
stopped all told left written written' desk desk' stop is new to begun = (
  part all written written' desk'
      (subst (λ (d : DeskState). HasRunPart sample_answer (Some all) d desk' written written') new
      (subst (λ (t : Option (List ℕ)). HasRunPart sample_answer t desk desk' written written') is begun)),
  whole all left written written' desk' stop
      (subst (λ (d : DeskState). HasRunTo sample_answer (Some all) left d desk' written written' stop) new
      (subst (λ (t : Option (List ℕ)). HasRunTo sample_answer t left desk desk' written written' stop) is to)),
)

pub err_stopped : (all : List ℕ) (told left written written' : Option (List ℕ)) (desk desk' : DeskState) (result : Result ℕ RunFault) → told ≡ Some all → desk ≡ first_desk → IfErr result (HasRunTo sample_answer told left desk desk' written written') → IfErr result (λ stop. HasRunPart sample_answer told desk desk' written written') → IfErr result (λ stop. HasStopped stop all written left written')
err_stopped all told left written written' desk desk' (Ok count) is new to begun = tt
err_stopped all told left written written' desk desk' (Err stop) is new to begun = stopped all told left written written' desk desk' stop is new to begun

-- A session at a desk of which no server fails: what is written is what the steps give from the desk's state on.
use Rattle.std.proofs.Common.{◌≡◌, ◌+◌, ◌<◌, ◌≤◌, ℕ, IsTrue, List, ◌++◌, length, take, Option, Some, sym, ap, subst, ◌∙◌, append_assoc, length-append, arith}
use Rattle.std.proofs.lemmas.List.{take-append-le}
use Rattle.std.proofs.Math.Seq.{take-length}
use Rattle.host_io.specs.Lines.{lines_of}
use Rattle.host_io.specs.Sink.{Appends, AppendsPrefix}
use Rattle.host_io.proofs.PublicLaws.{AppendsPrefix-wider}
use Rattle.workbook.specs.declared.commands.Command.{Command}
use Rattle.workbook.specs.declared.replies.Reply.{Reply}
use Rattle.workbook.specs.Desk.{DeskState, desk_state, desk_terms}
use Rattle.workbook.specs.History.{replies_to_all, state_after_all}
use Rattle.workbook.specs.State.{HostTerms, State}
use Rattle.desk_run.specs.Output.{commands_in, commands_of, lines_text, replies_from, replies_within}
use Rattle.desk_run.specs.Run.{Answers, HasAnswered, HasBegun, HasRunFull, desk_after, room_of}
use Rattle.desk_run.proofs.Replies.{length-after, replies-append}
use Rattle.desk_run.proofs.Texts.{commands_of-append, lines_text-left, lines_text-lines, lines_text-replies}

-- all commands of the lines are answered
pub answered_steady : (answer : Answers) (lines : List (List ℕ)) (desk desk' : DeskState) (written written' : Option (List ℕ)) → IsTrue desk.steady → HasAnswered answer lines (commands_of lines) desk desk' written written' → Appends written (replies_from (desk_terms answer desk) (desk_state answer desk) lines) written'
answered_steady answer lines desk desk' written written' steady had =
    subst (λ (replies : List Reply). Appends written (lines_text lines replies) written') (had.are.steady steady) had.wrote

-- ---- a part
-- the text for the first commands of the first lines is the first part of the text for all lines
first_text : (terms : HostTerms) (s : State) (lines more : List (List ℕ)) (commands others : List Command) → commands_of lines ≡ commands ++ others → (rest : List ℕ) × (replies_from terms s (lines ++ more) ≡ lines_text lines (replies_to_all terms s commands) ++ rest)
first_text terms s lines more commands others split =
    let first = replies_to_all terms s commands in
    let later = replies_to_all terms (state_after_all terms s commands) (others ++ commands_of more) in
    let all : commands_of (lines ++ more) ≡ commands ++ (others ++ commands_of more) =
    commands_of-append lines more ∙ ap (λ (cs : List Command). cs ++ commands_of more) split ∙ append_assoc commands others (commands_of more) in
    let replies : replies_to_all terms s (commands_of (lines ++ more)) ≡ first ++ later =
    ap (replies_to_all terms s) all ∙ replies-append terms s commands (others ++ commands_of more) in
    let behind = lines_text-lines lines more (first ++ later) in
    let within = lines_text-replies lines first later in (
      within.0 ++ behind.0,
      ap (lines_text (lines ++ more)) replies ∙ behind.1 ∙ ap (λ (bs : List ℕ). bs ++ behind.0) within.1
          ∙ append_assoc (lines_text lines first) within.0 behind.0,
    )

pub begun_steady : (answer : Answers) (lines more : List (List ℕ)) (commands others : List Command) (desk desk' : DeskState) (written written' : Option (List ℕ)) → IsTrue desk.steady → commands_of lines ≡ commands ++ others → HasBegun answer lines commands desk desk' written written' → AppendsPrefix written (replies_from (desk_terms answer desk) (desk_state answer desk) (lines ++ more)) written'
begun_steady answer lines more commands others desk desk' written written' steady split had =
    let text = first_text (desk_terms answer desk) (desk_state answer desk) lines more commands others split in
    subst (λ (bs : List ℕ). AppendsPrefix written bs written') (sym text.1)
    (AppendsPrefix-wider written written' (lines_text lines (replies_to_all (desk_terms answer desk) (desk_state answer desk) commands)) text.0
    (subst (λ (replies : List Reply). AppendsPrefix written (lines_text lines replies) written') (had.are.steady steady) had.wrote))

-- ---- a full history
take_first : (xs ys : List Command) (n : ℕ) → n ≡ length xs → take n (xs ++ ys) ≡ xs
take_first xs ys n is = ap (λ k. take k (xs ++ ys)) is ∙ take-append-le (length xs) xs ys (omega arith) ∙ take-length xs

-- how many commands a full history has answered
filled : (desk desk' : DeskState) (commands : List Command) → desk' ≡ desk_after desk commands → length commands ≤ room_of desk → length desk'.history ≡ desk'.limit → room_of desk ≡ length commands
filled desk desk' commands acted fits full =
    let is : length desk.history + length commands ≡ desk.limit =
    sym (length-after desk commands) ∙ ap (λ (d : DeskState). length d.history) (sym acted) ∙ full ∙ ap (λ (d : DeskState). d.limit) acted in
    omega (arith, is, fits)

pub full_steady : (answer : Answers) (all : List ℕ) (desk desk' : DeskState) (written written' : Option (List ℕ)) → IsTrue desk.steady → HasRunFull answer (Some all) desk desk' written written' → (room_of desk < commands_in (lines_of all)) × Appends written (replies_within (desk_terms answer desk) (room_of desk) (desk_state answer desk) (lines_of all)) written'
full_steady answer all desk desk' written written' steady had =
    let terms = desk_terms answer desk in
    let s = desk_state answer desk in
    let more = had.read.0 in
    let room : room_of desk ≡ length had.commands = filled desk desk' had.commands had.answered.acted had.answered.are.fits had.full in
    let all_commands : commands_of (had.lines ++ more) ≡ had.commands ++ (had.others ++ commands_of more) =
    commands_of-append had.lines more ∙ ap (λ (cs : List Command). cs ++ commands_of more) had.split ∙ append_assoc had.commands had.others (commands_of more) in
    let few : room_of desk < commands_in (had.lines ++ more) =
    omega (arith, room, ap length all_commands, length-append had.commands (had.others ++ commands_of more), length-append had.others (commands_of more), had.more) in
    let first : take (room_of desk) (commands_of (had.lines ++ more)) ≡ had.commands =
    ap (take (room_of desk)) all_commands ∙ take_first had.commands (had.others ++ commands_of more) (room_of desk) room in
    let short : length had.answered.replies < commands_in had.lines =
    omega (arith, had.answered.are.count, ap length had.split, length-append had.commands had.others, had.more) in
    let text : replies_within terms (room_of desk) s (had.lines ++ more) ≡ lines_text had.lines had.answered.replies =
    ap (λ (cs : List Command). lines_text (had.lines ++ more) (replies_to_all terms s cs)) first
    ∙ ap (lines_text (had.lines ++ more)) (sym (had.answered.are.steady steady))
    ∙ lines_text-left had.lines more had.answered.replies short in (
      subst (λ lines. room_of desk < commands_in lines) (sym had.read.1) few,
      subst (λ (lines : List (List ℕ)). Appends written (replies_within terms (room_of desk) s lines) written') (sym had.read.1)
          (subst (λ (bs : List ℕ). Appends written bs written') (sym text) had.answered.wrote),
    )

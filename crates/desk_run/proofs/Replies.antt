-- A desk's replies, one command after another.
use Rattle.std.proofs.Common.{◌≡◌, ◌+◌, ◌<◌, IsTrue, List, [], ◌∷◌, ◌++◌, map, length, refl, sym, ap, subst, ◌∙◌, append_assoc, append-nil, length-append, arith}
use Rattle.std.proofs.lemmas.List.{length-map, map-append}
use Rattle.workbook.specs.declared.commands.Command.{Command}
use Rattle.workbook.specs.declared.history.Entry.{Entry}
use Rattle.workbook.specs.declared.replies.Reply.{Reply}
use Rattle.workbook.specs.Desk.{DeskState, desk_reply, desk_state, desk_terms}
use Rattle.workbook.specs.History.{commands_of, replies_to_all, state_after_all}
use Rattle.workbook.specs.State.{HostTerms, State, first_state}
use Rattle.workbook.specs.Step.{reply_to, state_after}
use Rattle.desk_run.specs.Run.{Answers, AreReplies, desk_after, session_entry}

-- the commands of a session's entries
commands_of-session : (commands : List Command) → commands_of (map session_entry commands) ≡ commands
commands_of-session [] = refl
commands_of-session (command ∷ commands) = ap (λ (rest : List Command). command ∷ rest) (commands_of-session commands)

-- the state after a history and more commands
state-after : (terms : HostTerms) (s : State) (history : List Entry) (commands : List Command) → state_after_all terms s (commands_of (history ++ map session_entry commands)) ≡ state_after_all terms (state_after_all terms s (commands_of history)) commands
state-after terms s [] commands = ap (state_after_all terms s) (commands_of-session commands)
state-after terms s (entry ∷ history) commands = state-after terms (state_after terms [] s entry.command) history commands

-- the replies to some commands and more
pub replies-append : (terms : HostTerms) (s : State) (commands more : List Command) → replies_to_all terms s (commands ++ more) ≡ replies_to_all terms s commands ++ replies_to_all terms (state_after_all terms s commands) more
replies-append terms s [] more = refl
replies-append terms s (command ∷ commands) more =
    ap (λ (rest : List Reply). reply_to terms [] s command ∷ rest) (replies-append terms (state_after terms [] s command) commands more)

-- ---- a desk after its commands
pub after-none : (desk : DeskState) → desk ≡ desk_after desk []
after-none desk = ap (λ (history : List Entry). record desk { history = history }) (sym (append-nil desk.history))

pub after-append : (desk : DeskState) (commands more : List Command) → desk_after (desk_after desk commands) more ≡ desk_after desk (commands ++ more)
after-append desk commands more =
    ap (λ (history : List Entry). record desk { history = history })
    (append_assoc desk.history (map session_entry commands) (map session_entry more)
    ∙ ap (λ (entries : List Entry). desk.history ++ entries) (sym (map-append session_entry commands more)))

-- two lists of commands, one behind the other
pub acted-append : (desk mid new : DeskState) (commands more : List Command) → mid ≡ desk_after desk commands → new ≡ desk_after mid more → new ≡ desk_after desk (commands ++ more)
acted-append desk mid new commands more first second =
    second ∙ ap (λ (d : DeskState). desk_after d more) first ∙ after-append desk commands more

-- how long a history is after some commands
pub length-after : (desk : DeskState) (commands : List Command) → length (desk_after desk commands).history ≡ length desk.history + length commands
length-after desk commands =
    length-append desk.history (map session_entry commands) ∙ ap (λ n. length desk.history + n) (length-map commands session_entry)

-- ---- replies
pub are-none : (answer : Answers) (desk : DeskState) → AreReplies answer desk [] []
are-none answer desk = record { count = refl; fits = omega arith; steady = λ steady. refl }

pub are-one : (answer : Answers) (desk : DeskState) (command : Command) (reply : Reply) → length desk.history < desk.limit → (IsTrue desk.steady → reply ≡ desk_reply answer desk command) → AreReplies answer desk (command ∷ []) (reply ∷ [])
are-one answer desk command reply room is = record {
  count = refl;
  fits = omega arith;
  steady = λ steady. ap (λ (r : Reply). r ∷ []) (is steady);
}

-- the state of a desk after its commands
desk_state-after : (answer : Answers) (desk : DeskState) (commands : List Command) → desk_state answer (desk_after desk commands) ≡ state_after_all (desk_terms answer desk) (desk_state answer desk) commands
desk_state-after answer desk commands = state-after (desk_terms answer desk) first_state desk.history commands

are-joined : (answer : Answers) (desk : DeskState) (commands more : List Command) (replies others : List Reply) → AreReplies answer desk commands replies → AreReplies answer (desk_after desk commands) more others → AreReplies answer desk (commands ++ more) (replies ++ others)
are-joined answer desk commands more replies others first second = record {
  count =
      length-append replies others ∙ ap (λ n. n + length others) first.count ∙ ap (λ n. length commands + n) second.count
      ∙ sym (length-append commands more);
  fits = omega (arith, first.fits, second.fits, length-append commands more, length-after desk commands);
  steady = λ steady.
      ap (λ (rest : List Reply). rest ++ others) (first.steady steady)
      ∙ ap (λ (rest : List Reply). replies_to_all (desk_terms answer desk) (desk_state answer desk) commands ++ rest)
      (second.steady steady ∙ ap (λ (s : State). replies_to_all (desk_terms answer desk) s more) (desk_state-after answer desk commands))
      ∙ sym (replies-append (desk_terms answer desk) (desk_state answer desk) commands more);
}

-- the replies to two lists of commands, one behind the other
pub are-append : (answer : Answers) (desk mid : DeskState) (commands more : List Command) (replies others : List Reply) → mid ≡ desk_after desk commands → AreReplies answer desk commands replies → AreReplies answer mid more others → AreReplies answer desk (commands ++ more) (replies ++ others)
are-append answer desk mid commands more replies others acted first second =
    are-joined answer desk commands more replies others first (subst (λ (d : DeskState). AreReplies answer d more others) acted second)

-- What a desk does with the commands of a line.
use Rattle.std.proofs.Common.{◌≡◌, ◌<◌, ℕ, IsTrue, List, [], ◌∷◌, ◌++◌, length, Result, Ok, Err, IfErr, OnOk, OnErr, refl, sym, ap, subst, ◌∙◌, append_assoc, append-nil, arith}
use Rattle.std.proofs.lemmas.Grind.{flat_map-append}
use Rattle.session_script.specs.declared.faults.BadLine.{BadLine}
use Rattle.session_script.specs.Faults.{fault_text}
use Rattle.sheet_print.specs.Replies.{bad_text, reply_text}
use Rattle.workbook.specs.declared.commands.Command.{Command}
use Rattle.workbook.specs.declared.replies.Reply.{Reply}
use Rattle.workbook.specs.declared.desks.DeskFault.{DeskFault}
use Rattle.workbook.specs.declared.desks.DeskFault.TheVariants as desk_faults
use Rattle.workbook.specs.Desk.{DeskState, IsDeskFault, desk_reply, desk_with}
use Rattle.desk_run.specs.declared.answering.Refusal.{Refusal}
use Rattle.desk_run.specs.declared.answering.Refusal.TheVariants as refusals
use Rattle.desk_run.specs.Output.{replies_text}
use Rattle.desk_run.specs.Run.{Answers}
use Rattle.desk_run.specs.Session.{HasActed, HasRefused, HasSaid, refusal_of}
use Rattle.desk_run.proofs.Replies.{acted-append, after-none, are-append, are-none, are-one}

-- the texts of some replies and more
pub replies_text-append : (replies others : List Reply) → replies_text (replies ++ others) ≡ replies_text replies ++ replies_text others
replies_text-append replies others = flat_map-append reply_text replies others

-- one text behind another
behind : (held first second held' : List ℕ) (mid : List ℕ) → mid ≡ held ++ first → held' ≡ mid ++ second → held' ≡ held ++ (first ++ second)
behind held first second held' mid a b = b ∙ ap (λ (bs : List ℕ). bs ++ second) a ∙ append_assoc held first second

-- one command, whose reply's lines are held
pub acts-one : (answer : Answers) (command : Command) (reply : Reply) (desk desk' : DeskState) (held held' : List ℕ) → length desk.history < desk.limit → (IsTrue desk.steady → reply ≡ desk_reply answer desk command) → desk' ≡ desk_with desk command → held' ≡ held ++ reply_text reply → HasActed answer (command ∷ []) desk desk' held held'
acts-one answer command reply desk desk' held held' room is acted text = record {
  replies = reply ∷ [];
  are = are-one answer desk command reply room is;
  acted = acted;
  text = text ∙ ap (λ (bs : List ℕ). held ++ bs) (sym (append-nil (reply_text reply)));
}

-- two lists of commands, one behind the other
pub acts-append : (answer : Answers) (commands more : List Command) (desk mid desk' : DeskState) (held half held' : List ℕ) → HasActed answer commands desk mid held half → HasActed answer more mid desk' half held' → HasActed answer (commands ++ more) desk desk' held held'
acts-append answer commands more desk mid desk' held half held' first second = record {
  replies = first.replies ++ second.replies;
  are = are-append answer desk mid commands more first.replies second.replies first.acted first.are second.are;
  acted = acted-append desk mid desk' commands more first.acted second.acted;
  text =
      behind held (replies_text first.replies) (replies_text second.replies) held' half first.text second.text
      ∙ ap (λ (bs : List ℕ). held ++ bs) (sym (replies_text-append first.replies second.replies));
}

-- ---- refusals
-- the desk refused the first command
pub refuses-first : (answer : Answers) (commands : List Command) (desk desk' : DeskState) (held : List ℕ) (refusal : Refusal) → desk' ≡ desk → (refusal ≡ refusals.Full → (0 < length commands) × (length desk.history ≡ desk.limit)) → HasRefused answer commands desk desk' held held refusal
refuses-first answer commands desk desk' held refusal same full = record {
  first = [];
  others = commands;
  split = refl;
  replies = [];
  are = are-none answer desk;
  acted = same ∙ after-none desk;
  text = [];
  missing = [];
  cut = refl;
  holds = sym (append-nil held);
  full = λ is. (refl, (full is).0, subst (λ (d : DeskState). length d.history ≡ d.limit) (sym same) (full is).1);
}

-- the desk answered a command, and there was no memory for the lines of its reply
pub refuses-text : (answer : Answers) (command : Command) (reply : Reply) (desk desk' : DeskState) (held held' : List ℕ) → length desk.history < desk.limit → (IsTrue desk.steady → reply ≡ desk_reply answer desk command) → desk' ≡ desk_with desk command → held' ≡ held → HasRefused answer (command ∷ []) desk desk' held held' refusals.Memory
refuses-text answer command reply desk desk' held held' room is acted text = record {
  first = command ∷ [];
  others = [];
  split = refl;
  replies = reply ∷ [];
  are = are-one answer desk command reply room is;
  acted = acted;
  text = [];
  missing = replies_text (reply ∷ []);
  cut = refl;
  holds = text ∙ sym (append-nil held);
  full = λ e. absurd (let no : refusals.Memory ≡ refusals.Full = e in cc);
}

-- more commands would have come
pub refuses-longer : (answer : Answers) (commands more : List Command) (desk desk' : DeskState) (held held' : List ℕ) (refusal : Refusal) → HasRefused answer commands desk desk' held held' refusal → HasRefused answer (commands ++ more) desk desk' held held' refusal
refuses-longer answer commands more desk desk' held held' refusal had = record {
  first = had.first;
  others = had.others ++ more;
  split = ap (λ (cs : List Command). cs ++ more) had.split ∙ append_assoc had.first had.others more;
  replies = had.replies;
  are = had.are;
  acted = had.acted;
  text = had.text;
  missing = had.missing;
  cut = had.cut;
  holds = had.holds;
  full = λ is. ((had.full is).0, longer had.others more (had.full is).1, (had.full is).2);
}
  where
    longer : (xs ys : List Command) → 0 < length xs → 0 < length (xs ++ ys)
    longer [] ys some = absurd (omega arith)
    longer (x ∷ xs) ys some = omega arith

-- other commands were answered before
pub refuses-behind : (answer : Answers) (commands more : List Command) (desk mid desk' : DeskState) (held half held' : List ℕ) (refusal : Refusal) → HasActed answer commands desk mid held half → HasRefused answer more mid desk' half held' refusal → HasRefused answer (commands ++ more) desk desk' held held' refusal
refuses-behind answer commands more desk mid desk' held half held' refusal first had = record {
  first = commands ++ had.first;
  others = had.others;
  split = ap (λ (cs : List Command). commands ++ cs) had.split ∙ sym (append_assoc commands had.first had.others);
  replies = first.replies ++ had.replies;
  are = are-append answer desk mid commands had.first first.replies had.replies first.acted first.are had.are;
  acted = acted-append desk mid desk' commands had.first first.acted had.acted;
  text = replies_text first.replies ++ had.text;
  missing = had.missing;
  cut =
      replies_text-append first.replies had.replies ∙ ap (λ (bs : List ℕ). replies_text first.replies ++ bs) had.cut
      ∙ sym (append_assoc (replies_text first.replies) had.text had.missing);
  holds = behind held (replies_text first.replies) had.text held' half first.text had.holds;
  full = had.full;
}

-- ---- the same of answers
pub appended_acts : {T E : Type 0} (answer : Answers) (command : Command) (reply : Reply) (desk desk' : DeskState) (held held' : List ℕ) (r : Result T E) → length desk.history < desk.limit → (IsTrue desk.steady → reply ≡ desk_reply answer desk command) → desk' ≡ desk_with desk command → OnOk r (held' ≡ held ++ reply_text reply) → OnOk r (HasActed answer (command ∷ []) desk desk' held held')
appended_acts answer command reply desk desk' held held' (Ok x) room is acted text = acts-one answer command reply desk desk' held held' room is acted text
appended_acts answer command reply desk desk' held held' (Err e) room is acted text = tt

pub appended_refuses : {T : Type 0} (answer : Answers) (command : Command) (reply : Reply) (desk desk' : DeskState) (held held' : List ℕ) (r : Result T Refusal) → length desk.history < desk.limit → (IsTrue desk.steady → reply ≡ desk_reply answer desk command) → desk' ≡ desk_with desk command → OnErr r (held' ≡ held) → IfErr r (λ refusal. refusal ≡ refusals.Memory) → IfErr r (HasRefused answer (command ∷ []) desk desk' held held')
appended_refuses answer command reply desk desk' held held' (Ok x) room is acted text memory = tt
appended_refuses answer command reply desk desk' held held' (Err refusal) room is acted text memory =
    subst (HasRefused answer (command ∷ []) desk desk' held held') (sym memory) (refuses-text answer command reply desk desk' held held' room is acted text)

-- why a desk gives a command back
full_at : (desk : DeskState) (command : Command) (fault : DeskFault) → IsDeskFault desk command fault → refusal_of fault ≡ refusals.Full → length desk.history ≡ desk.limit
full_at desk command (desk_faults.Full back) why is = why.1
full_at desk command (desk_faults.Memory back) why is = cc

pub gave_back : (answer : Answers) (command : Command) (desk desk' : DeskState) (held : List ℕ) (fault : DeskFault) (refusal : Refusal) → refusal ≡ refusal_of fault → IsDeskFault desk command fault → desk' ≡ desk → HasRefused answer (command ∷ []) desk desk' held held refusal
gave_back answer command desk desk' held fault refusal is why same =
    refuses-first answer (command ∷ []) desk desk' held refusal same (λ full. (omega arith, full_at desk command fault why (sym is ∙ full)))

pub acts-both : {T E : Type 0} (answer : Answers) (commands more : List Command) (desk mid desk' : DeskState) (held half held' : List ℕ) (r : Result T E) → HasActed answer commands desk mid held half → OnOk r (HasActed answer more mid desk' half held') → OnOk r (HasActed answer (commands ++ more) desk desk' held held')
acts-both answer commands more desk mid desk' held half held' (Ok x) first second = acts-append answer commands more desk mid desk' held half held' first second
acts-both answer commands more desk mid desk' held half held' (Err e) first second = tt

pub refuses-either : {T : Type 0} (answer : Answers) (commands more : List Command) (desk mid desk' : DeskState) (held half held' : List ℕ) (r : Result T Refusal) → HasActed answer commands desk mid held half → IfErr r (HasRefused answer more mid desk' half held') → IfErr r (HasRefused answer (commands ++ more) desk desk' held held')
refuses-either answer commands more desk mid desk' held half held' (Ok x) first second = tt
refuses-either answer commands more desk mid desk' held half held' (Err refusal) first second =
    refuses-behind answer commands more desk mid desk' held half held' refusal first second

-- ---- bad lines
pub bad_says : (answer : Answers) (fault : BadLine) (desk : DeskState) (held held' : List ℕ) → held' ≡ held ++ bad_text (fault_text fault) → HasSaid answer (Err fault) desk desk held held'
bad_says answer fault desk held held' text = record { replies = []; are = are-none answer desk; acted = after-none desk; text = text }

-- there was no memory for the reply
pub bad_left : (answer : Answers) (commands : List Command) (desk : DeskState) (held held' : List ℕ) (refusal : Refusal) → held' ≡ held → refusal ≡ refusals.Memory → HasRefused answer commands desk desk held held' refusal
bad_left answer commands desk held held' refusal same memory =
    subst (λ (bs : List ℕ). HasRefused answer commands desk desk held bs refusal) (sym same)
    (refuses-first answer commands desk desk held refusal refl (λ full. absurd (let no : refusals.Memory ≡ refusals.Full = sym memory ∙ full in cc)))

pub bad_refuses : {T : Type 0} (answer : Answers) (commands : List Command) (desk : DeskState) (held held' : List ℕ) (r : Result T Refusal) → OnErr r (held' ≡ held) → IfErr r (λ refusal. refusal ≡ refusals.Memory) → IfErr r (HasRefused answer commands desk desk held held')
bad_refuses answer commands desk held held' (Ok x) same memory = tt
bad_refuses answer commands desk held held' (Err refusal) same memory = bad_left answer commands desk held held' refusal same memory

-- One call behind the work of a recalculation.
use Rattle.std.proofs.Common.{◌≡◌, ◌≤◌, ◌+◌, arith, Result, Ok, Err, IfOk, OnOk, OnErr, refl, sym, subst, ◌∙◌}
use Rattle.rtd_server.specs.Server.{ServerState}
use Rattle.workbook.specs.declared.commands.Command.{Command}
use Rattle.workbook.specs.declared.replies.Reply.{Reply}
use Rattle.host_core.specs.declared.round_books.RoundBook.{RoundBook}
use Rattle.host_core.specs.HostState.{Answers}
use Rattle.host_core.specs.Standing.{IsSettledStep, IsStep, KeepsNumbers, KeepsStates, MovesNumbers, SettlesStates, StandsForSome, StandsIn}

module _ {S : Type 0} (state : S → ServerState) (answer : Answers) (old mid new : RoundBook S) where
  -- a step behind the work
  pub ended_step : SettlesStates state answer old mid → {E : Type 0} (r : Result Reply E) (command : Command) → IfOk r (IsSettledStep state answer mid new command) → IfOk r (IsStep state answer old new command)
  ended_step settled (Ok reply) command step = λ session limit s stands. step session limit s (settled session limit s stands)
  ended_step settled (Err e) command step = tt

  pub ended_refused : KeepsStates state answer old mid → {E : Type 0} (r : Result Reply E) → OnErr r (KeepsStates state answer mid new) → OnErr r (KeepsStates state answer old new)
  ended_refused kept (Ok reply) h = tt
  ended_refused kept (Err e) h = λ session limit s stands. h session limit s (kept session limit s stands)

module _ {S : Type 0} (old mid new : RoundBook S) (numbers : KeepsNumbers old mid) where
  pub ended_moves : {E : Type 0} (r : Result Reply E) → OnOk r (MovesNumbers mid new) → OnOk r (MovesNumbers old new)
  ended_moves (Ok reply) h = record {
    round = subst (λ n. new.round ≤ n + 1) numbers.round h.round;
    room = subst (λ n. n ≤ new.events.room + 1) numbers.room h.room;
    log = record { entries = h.log.entries ∙ numbers.log.entries; room = h.log.room ∙ numbers.log.room };
  }
  ended_moves (Err e) h = tt

  pub ended_same : {E : Type 0} (r : Result Reply E) → OnErr r (KeepsNumbers mid new) → OnErr r (KeepsNumbers old new)
  ended_same (Ok reply) h = tt
  ended_same (Err e) h = record {
    round = h.round ∙ numbers.round;
    room = h.room ∙ numbers.room;
    log = record { entries = h.log.entries ∙ numbers.log.entries; room = h.log.room ∙ numbers.log.room };
  }

-- the work leaves some state
pub some_after : {S : Type 0} (state : S → ServerState) (answer : Answers) (old mid : RoundBook S) → KeepsStates state answer old mid → StandsIn state answer old → StandsForSome state mid
some_after state answer old mid kept q = (answer, (q.0, q.1, q.2, kept q.0 q.1 q.2 q.3))

-- Histories: commands one after another, with their replies.
use Rattle.std.specs.Prelude.{ℕ, Bool, true, false, not, ◌&&◌, ◌||◌, Option, List, [], ◌∷◌, map, slice_get}
use Rattle.std.specs.List.{list_any}
use Rattle.std.specs.Str.{bytes_eq}
use Rattle.workbook.specs.declared.commands.Command.{Command}
use Rattle.workbook.specs.declared.commands.Command.TheVariants as commands
use Rattle.workbook.specs.declared.history.Entry.{Entry}
use Rattle.workbook.specs.declared.replies.Reply.{Reply}
use Rattle.workbook.specs.declared.replies.Reply.TheVariants as replies
use Rattle.workbook.specs.Pulling.{is_named}
use Rattle.workbook.specs.State.{HostTerms, State, first_state}
use Rattle.workbook.specs.Step.{is_ok_reply, reply_to, state_after}

-- a command, with the servers that fail in it
pub record Attempt : Type 0 where
  pub command : Command
  pub failed : List (List ℕ)

-- a command that was given, with its reply
pub record Exchange : Type 0 where
  pub command : Command
  pub reply : Reply

-- the exchange that an attempt leads to in a state
abbrev pub exchange_of : HostTerms → State → Attempt → Exchange
exchange_of terms s attempt = record { command = attempt.command; reply = reply_to terms attempt.failed s attempt.command }

-- the state after an attempt
abbrev pub state_after_attempt : HostTerms → State → Attempt → State
state_after_attempt terms s attempt = state_after terms attempt.failed s attempt.command

-- the state after these attempts, one after another, from a state on
abbrev pub state_after_attempts : HostTerms → State → List Attempt → State
state_after_attempts terms s [] = s
state_after_attempts terms s (attempt ∷ attempts) = state_after_attempts terms (state_after_attempt terms s attempt) attempts

-- the exchanges that these attempts lead to, one after another, from a state on
abbrev pub exchanges : HostTerms → State → List Attempt → List Exchange
exchanges terms s [] = []
exchanges terms s (attempt ∷ attempts) =
    exchange_of terms s attempt ∷ exchanges terms (state_after_attempt terms s attempt) attempts

-- the replies to these attempts, one after another, from a state on
abbrev pub replies_to_attempts : HostTerms → State → List Attempt → List Reply
replies_to_attempts terms s attempts = map (λ (exchange : Exchange). exchange.reply) (exchanges terms s attempts)

-- ---- no server fails
-- the attempt of a command in which no server fails
abbrev pub unfailing_attempt : Command → Attempt
unfailing_attempt command = record { command = command; failed = [] }

-- the state after these commands, one after another, from a state on
abbrev pub state_after_all : HostTerms → State → List Command → State
state_after_all terms s commands = state_after_attempts terms s (map unfailing_attempt commands)

-- the replies to these commands, one after another, from a state on
abbrev pub replies_to_all : HostTerms → State → List Command → List Reply
replies_to_all terms s commands = replies_to_attempts terms s (map unfailing_attempt commands)

-- the commands of a history
abbrev pub commands_of : List Entry → List Command
commands_of history = map (λ (entry : Entry). entry.command) history

-- the state after a history
abbrev pub state_of : HostTerms → List Entry → State
state_of terms history = state_after_all terms first_state (commands_of history)

-- the reply to the entry of a history at a place, from 0, if there is one
abbrev pub reply_at : HostTerms → List Entry → ℕ → Option Reply
reply_at terms history place = slice_get (replies_to_all terms first_state (commands_of history)) place

-- ---- flags
-- whether a command is a Notify of this server
abbrev pub notifies : List ℕ → Command → Bool
notifies name (commands.Notify server) = bytes_eq name server
notifies name command = false

-- whether a command is a Pull
abbrev pub is_pull : Command → Bool
is_pull (commands.Pull moment) = true
is_pull command = false

-- whether a reply is Pulled without naming this server as failed
abbrev pub pulls_from : List ℕ → Reply → Bool
pulls_from name (replies.Pulled changed failed) = not (is_named failed name)
pulls_from name reply = false

-- whether this is a Notify of the server that was answered Ok
abbrev pub raises_flag : List ℕ → Exchange → Bool
raises_flag name exchange = notifies name exchange.command && is_ok_reply exchange.reply

-- whether this is a Pull that was answered Pulled without naming the server as failed
abbrev pub lowers_flag : List ℕ → Exchange → Bool
lowers_flag name exchange = is_pull exchange.command && pulls_from name exchange.reply

-- whether one of these exchanges raises the flag of a server, and no later one lowers it
abbrev pub leaves_flag_up : List ℕ → List Exchange → Bool
leaves_flag_up name [] = false
leaves_flag_up name (exchange ∷ later) =
    (raises_flag name exchange && not (list_any (lowers_flag name) later)) || leaves_flag_up name later

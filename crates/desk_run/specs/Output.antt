-- What is written for the lines of a script.
use Rattle.std.specs.Prelude.{ℕ, nat_lt, if◌then◌else◌, List, [], ◌∷◌, ◌++◌, length, take, drop, Result, Ok, Err}
use Rattle.std.specs.List.{flat_map}
use Rattle.session_script.specs.declared.faults.BadLine.{BadLine}
use Rattle.session_script.specs.declared.parsed.Parsed.{Parsed}
use Rattle.session_script.specs.declared.parsed.Parsed.TheVariants as parsed
use Rattle.session_script.specs.Faults.{fault_text}
use Rattle.session_script.specs.Script.{line_said}
use Rattle.sheet_print.specs.Replies.{bad_text, reply_text}
use Rattle.workbook.specs.declared.commands.Command.{Command}
use Rattle.workbook.specs.declared.commands.Command.TheVariants as commands
use Rattle.workbook.specs.declared.replies.Reply.{Reply}
use Rattle.workbook.specs.History.{replies_to_all}
use Rattle.workbook.specs.State.{HostTerms, State}

-- the commands of what a line says: none for an empty line, two for a `calc`
abbrev pub commands_of_parsed : Parsed → List Command
commands_of_parsed parsed.Empty = []
commands_of_parsed (parsed.One command) = command ∷ []
commands_of_parsed (parsed.Calc kind) = commands.Begin kind ∷ commands.Settle ∷ []

-- the same of a line that is read: a bad line is no command
abbrev pub commands_said : Result Parsed BadLine → List Command
commands_said (Ok said) = commands_of_parsed said
commands_said (Err fault) = []

-- the commands of a line
abbrev pub commands_of_line : List ℕ → List Command
commands_of_line line = commands_said (line_said line)

-- the commands of these lines, one after another
abbrev pub commands_of : List (List ℕ) → List Command
commands_of lines = flat_map commands_of_line lines

-- how many commands these lines say
abbrev pub commands_in : List (List ℕ) → ℕ
commands_in lines = length (commands_of lines)

-- the lines of these replies, one after another
abbrev pub replies_text : List Reply → List ℕ
replies_text replies = flat_map reply_text replies

-- what is written for what a line says, where its commands have these replies: their lines; for a bad line `bad` and why
abbrev pub said_text : Result Parsed BadLine → List Reply → List ℕ
said_text (Ok said) replies = replies_text replies
said_text (Err fault) replies = bad_text (fault_text fault)

-- what is written for these lines, where their commands have these replies, one after another: up to the first command
-- that has none
abbrev pub lines_text : List (List ℕ) → List Reply → List ℕ
lines_text [] replies = []
lines_text (line ∷ lines) replies =
    if nat_lt (length replies) (length (commands_of_line line))
    then replies_text replies
    else said_text (line_said line) (take (length (commands_of_line line)) replies)
    ++ lines_text lines (drop (length (commands_of_line line)) replies)

-- what is written for these lines from a state on: each command is answered by the step of the state in which it comes
abbrev pub replies_from : HostTerms → State → List (List ℕ) → List ℕ
replies_from terms s lines = lines_text lines (replies_to_all terms s (commands_of lines))

-- what is written for these lines where so many commands are answered, and none behind them: up to the first command
-- that isn't answered
abbrev pub replies_within : HostTerms → ℕ → State → List (List ℕ) → List ℕ
replies_within terms room s lines = lines_text lines (replies_to_all terms s (take room (commands_of lines)))

-- What a text comes to: the tree of the formula that it is, or its fault.
-- Both are read from left to right here; the law `reading_gives_what_is_written` says that they are what the grammar and the faults say.
use Rattle.std.specs.Prelude.{ℕ, Bool, if◌then◌else◌, nat_lt, List, length, Option, None, Result, Err}
use Rattle.std.specs.Str.{is_utf8, chars}
use Rattle.std.specs.Result.{result_ok}
use Rattle.formula_parse.specs.declared.faults.ParseFault.{ParseFault}
use Rattle.formula_parse.specs.declared.faults.ParseFault.TheVariants as faults
use Rattle.formula_parse.specs.declared.limits.TheConstants.{LONGEST_FORMULA}
use Rattle.formula_parse.specs.declared.nodes.Node.{Node}
use Rattle.formula_parse.specs.ReaderMachine.{read_text}

-- whether a text has over 8,192 characters
abbrev pub is_too_long : List ℕ → Bool
is_too_long text = nat_lt LONGEST_FORMULA (length (chars text))

-- the tree of the formula that a text is, or the first fault of the text
unfoldable pub parse_result : List ℕ → Result Node ParseFault
parse_result text = if is_too_long text then Err faults.TooLong else read_text text

-- the tree of the formula that a text is
unfoldable pub formula_of : List ℕ → Option Node
formula_of text = if is_utf8 text then result_ok (parse_result text) else None

use Rattle.std.proofs.Common.{◌≡◌, ◌++◌, take}
use Rattle.std.specs.List.{flat_map}
use Rattle.sheet_print.specs.Replies.{call_line}
use Rattle.sheet_print.proofs.calls.push_calls.Given as goal

-- the lines of the calls so far were appended
abbrev pub invariant-loop-call : goal.invariant-loop-call
invariant-loop-call l = l.out.items ≡ l.fn.out.items ++ flat_map call_line (take l.call-index l.call-items)

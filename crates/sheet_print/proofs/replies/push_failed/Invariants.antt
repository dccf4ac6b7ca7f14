use Rattle.std.proofs.Common.{◌≡◌, ◌++◌, take}
use Rattle.std.specs.List.{flat_map}
use Rattle.sheet_print.specs.Replies.{failed_line}
use Rattle.sheet_print.proofs.replies.push_failed.Given as goal

-- the lines of the servers so far were appended
abbrev pub invariant-loop-name : goal.invariant-loop-name
invariant-loop-name l = l.out.items ≡ l.fn.out.items ++ flat_map failed_line (take l.name-index l.name-items)

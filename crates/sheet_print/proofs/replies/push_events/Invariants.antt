use Rattle.std.proofs.Common.{◌≡◌, ◌++◌, take}
use Rattle.std.specs.List.{flat_map}
use Rattle.sheet_print.specs.Replies.{event_line}
use Rattle.sheet_print.proofs.replies.push_events.Given as goal

-- the lines of the events so far were appended
abbrev pub invariant-loop-event : goal.invariant-loop-event
invariant-loop-event l = l.out.items ≡ l.fn.out.items ++ flat_map event_line (take l.event-index l.event-items)

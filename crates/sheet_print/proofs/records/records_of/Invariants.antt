use Rattle.std.proofs.Common.{take}
use Rattle.std.specs.List.{flat_map}
use Rattle.sheet_print.specs.RecordWriter.{HasWritten}
use Rattle.sheet_print.specs.Replies.{record_line}
use Rattle.sheet_print.proofs.records.records_of.Given as goal

-- the records of the cells so far were written
abbrev pub invariant-loop-cell : goal.invariant-loop-cell
invariant-loop-cell l = HasWritten l.records (flat_map record_line (take l.cell-index l.cell-items))

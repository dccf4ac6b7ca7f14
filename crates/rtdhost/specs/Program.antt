-- With which exit status the program ends.
use Rattle.std.specs.Prelude.{ℕ}
use Rattle.rtdhost.specs.declared.program.Status.{Status}
use Rattle.rtdhost.specs.declared.program.Status.TheVariants as statuses

-- the exit status of the process
abbrev pub exit_code : Status → ℕ
exit_code statuses.Ok = 0
exit_code statuses.Usage = 2
exit_code statuses.ReadFault = 3
exit_code statuses.WriteFault = 4
exit_code statuses.Memory = 5
exit_code statuses.InputLimit = 6
exit_code statuses.SessionFull = 7

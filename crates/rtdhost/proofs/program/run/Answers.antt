use Rattle.std.proofs.Common.{ap, true}
use Rattle.host_core.specs.HostState.{desk_of}
use Rattle.rtdhost.proofs.Runs.{err_stopped, ok_finished}
use Rattle.rtdhost.proofs.program.run.Goals as goal

pub returns-clause-finished : goal.returns-clause-finished
returns-clause-finished g c input told =
    ok_finished input _ _ _ _ _ _ c.run_desk.result told (ap (desk_of true) c.in_ok-desk.ensures.desk) c.run_desk.ensures.finished

pub returns-clause-stopped : goal.returns-clause-stopped
returns-clause-stopped g c input told =
    err_stopped input _ _ _ _ _ _ c.run_desk.result told (ap (desk_of true) c.in_ok-desk.ensures.desk) c.run_desk.ensures.stopped c.run_desk.ensures.begun

use Rattle.std.proofs.Common.{ap, sym}
use Rattle.std.specs.Prelude.{is_some}
use Rattle.rtd_topics.proofs.Disconnecting.{flags-item, flags-none, placed}
use Rattle.rtd_topics.proofs.ServerLists.{none-named}
use Rattle.rtd_topics.proofs.servers.raise_flag_in.Goals as goal

pub returns-in-Some-clause-known : goal.returns-in-Some-clause-known
returns-in-Some-clause-known g c = sym (ap is_some (placed c.args.servers.now c.args.name.now c.in-Some.place c.index-servers-place.result (sym c.in-Some.ensures)))

pub returns-in-Some-clause-flags : goal.returns-in-Some-clause-flags
returns-in-Some-clause-flags g c = flags-item g.S.RtdServer.state c.args.servers.now c.args.name.now c.in-Some.place c.index-servers-place.result c.set_flag.new.self (sym c.in-Some.ensures) c.set_flag.ensures

pub returns-in-None-clause-known : goal.returns-in-None-clause-known
returns-in-None-clause-known g c = sym (ap is_some (none-named c.args.servers.now c.args.name.now (sym c.in-None.ensures)))

pub returns-in-None-clause-flags : goal.returns-in-None-clause-flags
returns-in-None-clause-flags g c = flags-none g.S.RtdServer.state c.args.servers.now c.args.name.now (sym c.in-None.ensures)

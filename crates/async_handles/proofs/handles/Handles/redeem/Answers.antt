use Rattle.std.proofs.Common.{sym}
use Rattle.async_handles.proofs.OpenLaws.{live_some}
use Rattle.async_handles.proofs.handles.Handles.redeem.Goals as goal

pub end-requires : goal.end-requires
end-requires c = live_some c.args.self.now.calls c.args.h.now c.is_live.ensures.are_open.order (sym c.if-not-is_live.ensures.live)

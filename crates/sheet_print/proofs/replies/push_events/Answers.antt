use Rattle.sheet_print.proofs.Appending.{prefix-more, prefix-appended}
use Rattle.sheet_print.proofs.replies.push_events.Goals as goal

pub returns-in_err-push_event-clause-kept : goal.returns-in_err-push_event-clause-kept
returns-in_err-push_event-clause-kept c =
    prefix-more _ _ _ c.loop-event.out.items _ (c.args.out.now.ok.0) (c.loop-event.out.ok.0) (prefix-appended _ _ _ _ (c.args.out.now.ok.0) c.loop-event.invariant) c.push_event.ensures.kept

pub returns-clause-kept : goal.returns-clause-kept
returns-clause-kept c =
    prefix-more _ _ _ c.loop-event.out.items _ (c.args.out.now.ok.0) (c.loop-event.out.ok.0) (prefix-appended _ _ _ _ (c.args.out.now.ok.0) c.loop-event.invariant) c.push_line.ensures.kept

use Rattle.sheet_print.proofs.Appending.{prefix-more, prefix-appended}
use Rattle.sheet_print.proofs.calls.push_calls.Goals as goal

pub returns-in_err-push_call-clause-kept : goal.returns-in_err-push_call-clause-kept
returns-in_err-push_call-clause-kept c =
    prefix-more _ _ _ c.loop-call.out.items _ (c.args.out.now.ok.0) (c.loop-call.out.ok.0) (prefix-appended _ _ _ _ (c.args.out.now.ok.0) c.loop-call.invariant) c.push_call.ensures.kept

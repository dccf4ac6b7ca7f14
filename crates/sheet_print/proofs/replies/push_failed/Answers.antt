use Rattle.sheet_print.proofs.Appending.{prefix-more, prefix-appended}
use Rattle.sheet_print.proofs.replies.push_failed.Goals as goal

pub returns-in_err-push_named-clause-kept : goal.returns-in_err-push_named-clause-kept
returns-in_err-push_named-clause-kept c =
    prefix-more _ _ _ c.loop-name.out.items _ (c.args.out.now.ok.0) (c.loop-name.out.ok.0) (prefix-appended _ _ _ _ (c.args.out.now.ok.0) c.loop-name.invariant) c.push_named.ensures.kept

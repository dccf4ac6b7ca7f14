use Rattle.sheet_print.proofs.Appending.{prefix-after, prefix-appended, prefix-more}
use Rattle.sheet_print.proofs.calls.push_call.Goals as goal

pub returns-in_err-push_applied-clause-kept : goal.returns-in_err-push_applied-clause-kept
returns-in_err-push_applied-clause-kept c =
    let long = c.args.out.now.ok.0 in
    let space = prefix-appended _ _ _ _ long c.in_ok-push.ensures.ok in
    let handle = prefix-after _ _ c.push.new.out.items c.push_handle.new.out.items _ long space c.in_ok-push_handle.ensures.ok in
    let before = prefix-after _ _ c.push_handle.new.out.items c.push-2.new.out.items _ long handle c.in_ok-push-2.ensures.ok in
    prefix-more _ _ _ c.push-2.new.out.items _ long (c.push-2.new.out.ok.0) before c.push_applied.ensures.kept

use Rattle.book_sync.proofs.Ends.{both-touched, follows-marked, ok-anyway, ok-leads, others-kept, stale-empty, touched-kept}
use Rattle.book_sync.proofs.following.follow.Goals as goal

pub returns-clause-others : goal.returns-clause-others
returns-clause-others c =
    let is = follows-marked _ _ _ _ _ c.follow_changed.ensures.follows c.in_ok-follow_changed.ensures.all c.in_ok-mark_stale.ensures.marked c.in_ok-mark_stale.ensures.readers in
    others-kept _ _ _ _ _ _ is c.follow_changed.ensures.store c.empty_marked.ensures.store

pub returns-clause-marked : goal.returns-clause-marked
returns-clause-marked c =
    ok-anyway _ _ (follows-marked _ _ _ _ _ c.follow_changed.ensures.follows c.in_ok-follow_changed.ensures.all c.in_ok-mark_stale.ensures.marked c.in_ok-mark_stale.ensures.readers)

pub returns-clause-stale : goal.returns-clause-stale
returns-clause-stale c =
    let is = follows-marked _ _ _ _ _ c.follow_changed.ensures.follows c.in_ok-follow_changed.ensures.all c.in_ok-mark_stale.ensures.marked c.in_ok-mark_stale.ensures.readers in
    ok-leads _ _ _ (stale-empty _ _ _ _ _ _ is c.follow_changed.ensures.store c.empty_marked.ensures.store) c.empty_marked.ensures.empty

pub returns-clause-touched : goal.returns-clause-touched
returns-clause-touched c =
    let is = follows-marked _ _ _ _ _ c.follow_changed.ensures.follows c.in_ok-follow_changed.ensures.all c.in_ok-mark_stale.ensures.marked c.in_ok-mark_stale.ensures.readers in
    ok-leads _ _ _ (both-touched _ _ _ _ _ _ is c.follow_changed.ensures.store c.empty_marked.ensures.store _ c.in_ok-follow_changed.ensures.all) c.empty_marked.ensures.empty

pub returns-clause-kept : goal.returns-clause-kept
returns-clause-kept c =
    let is = follows-marked _ _ _ _ _ c.follow_changed.ensures.follows c.in_ok-follow_changed.ensures.all c.in_ok-mark_stale.ensures.marked c.in_ok-mark_stale.ensures.readers in
    touched-kept _ _ _ _ _ _ is c.follow_changed.ensures.store c.empty_marked.ensures.store

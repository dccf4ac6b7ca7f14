use Rattle.std.proofs.Common.{⊎_elim, inl, inr}
use Rattle.book_sync.proofs.Reaching.{reaches-still}
use Rattle.book_sync.proofs.laws.what_follows_a_book_still_does_after_an_edit.Goals as goal

pub returns-clause-shows : goal.returns-clause-shows
returns-clause-shows c before now changed later store kept more shows q =
    ⊎_elim (λ same. inl same) (λ r. inr (r.0, reaches-still before now changed later kept more r.0 q r.1)) (shows q)

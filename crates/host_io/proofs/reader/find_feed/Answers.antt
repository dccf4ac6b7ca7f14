use Rattle.std.proofs.Common.{◌≡◌, ◌∙◌, List, ℕ, ap, sym, true}
use Rattle.std.proofs.lemmas.Bool.{false≢true}
use Rattle.host_io.specs.Lines.{LacksFeed, has_feed}
use Rattle.host_io.proofs.LineLaws.{has_feed-lacks}
use Rattle.host_io.proofs.reader.find_feed.Goals as goal

-- no whole line stands where no line feed does
none_at_hand : (bytes pending : List ℕ) → bytes ≡ pending → LacksFeed bytes → has_feed pending ≡ true → ⊥
none_at_hand bytes pending same lacks fed = false≢true (sym (has_feed-lacks bytes lacks) ∙ ap has_feed same ∙ fed)

pub returns-in-None-clause-unread : goal.returns-in-None-clause-unread
returns-in-None-clause-unread g c fed =
    absurd (none_at_hand c.pending.result.now _ c.pending.ensures.bytes c.in-None.ensures fed)

pub returns-in-None-clause-found : goal.returns-in-None-clause-found
returns-in-None-clause-found g c fed =
    absurd (none_at_hand c.pending.result.now _ c.pending.ensures.bytes c.in-None.ensures fed)

use Rattle.std.proofs.Common.{w64}
use Rattle.std.proofs.lemmas.Int.{to_z-of_z}
use Rattle.cell_values.proofs.TextFacts.{shown_is_text}
use Rattle.cell_values.proofs.coercions.number_to_text.Goals as goal

pub known-requires : goal.known-requires
known-requires c = rw c.format.ensures.text (shown_is_text _ c.args.n (to_z-of_z w64 c.args.n c.ranges.n) c.ranges.n.sfits)

use Rattle.std.proofs.Common.{[], ◌∷◌, refl}
use Rattle.calc_chain.proofs.ListLaws.{distinct_more, distinct_none}
use Rattle.calc_chain.proofs.tests.entries_are_due_in_chain_order.Goals as goal

pub rewind-requires-clause-once : goal.rewind-requires-clause-once
rewind-requires-clause-once g c = distinct_more 2 (4 ∷ 9 ∷ []) refl (distinct_more 4 (9 ∷ []) refl (distinct_more 9 [] refl distinct_none))

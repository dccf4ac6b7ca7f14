use Rattle.std.proofs.Common.{[], ◌∷◌, refl}
use Rattle.calc_chain.proofs.ListLaws.{distinct_more, distinct_none}
use Rattle.calc_chain.proofs.tests.an_entry_is_moved_directly_behind_another.Goals as goal

pub rewind-requires-clause-once : goal.rewind-requires-clause-once
rewind-requires-clause-once g c = distinct_more 2 (3 ∷ []) refl (distinct_more 3 [] refl distinct_none)

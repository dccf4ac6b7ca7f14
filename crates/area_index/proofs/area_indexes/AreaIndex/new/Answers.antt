use Rattle.area_index.proofs.Forests.{forest-none, has-none}
use Rattle.area_index.proofs.area_indexes.AreaIndex.new.Goals as goal

pub invariant_of-result : goal.invariant_of-result
invariant_of-result c = forest-none c.new_store.result c.new_store.ensures.nodes c.new_store.ensures.free c.new_store.ensures.trees

pub returns : goal.returns
returns c = has-none c.new_store.result c.new_store.ensures.nodes c.new_store.ensures.free c.new_store.ensures.trees

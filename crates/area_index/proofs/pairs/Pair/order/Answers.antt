use Rattle.std.proofs.Common.{rules}
use Rattle.area_index.specs.Pairs.{pair_cmp}
use Rattle.area_index.proofs.pairs.Pair.order.Goals as goal

pub returns : goal.returns
unfolding pair_cmp
returns c = search rules

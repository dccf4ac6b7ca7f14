use Rattle.std.proofs.Common.{◌∙◌, arith}
use Rattle.area_index.proofs.Forests.{both_same}
use Rattle.area_index.proofs.indexes.make_free.Goals as goal

pub loop-node-preserved : goal.loop-node-preserved
loop-node-preserved c =
    let i = c.loop-node.invariant in
    let a = c.add_one_of.ensures in
    (both_same c.args.store.now c.loop-node.store c.add_one_of.new.store i.0 a.same, a.trees ∙ i.1, λ kept. let before = i.2 kept in let b0 = before.0 in let b1 = before.1 in let b2 = before.2 in let least = c.in_ok-add_one_of.ensures.free (i.0.kept kept) in let most = a.most (i.0.kept kept) in let used = a.used (i.0.kept kept) in (omega arith, omega arith, omega arith))

use Rattle.std.proofs.Common.{refl}
use Rattle.area_index.specs.declared.stores.Store.{Store}
use Rattle.area_index.specs.Forests.{forest_of}
use Rattle.area_index.proofs.Forests.{both_same}
use Rattle.area_index.proofs.Kept.{one_sheet_more}
use Rattle.area_index.proofs.indexes.open_sheets.Goals as goal

pub loop-store-preserved : goal.loop-store-preserved
loop-store-preserved c =
    let new : Store = record { nodes = c.loop-store.store.nodes; free = c.loop-store.store.free; trees = c.push.new.self } in
    (both_same c.args.store.now c.loop-store.store new c.loop-store.invariant.0 (one_sheet_more (forest_of c.loop-store.store) (forest_of new) refl refl c.in_ok-push.ensures.items), c.loop-store.invariant.1, c.loop-store.invariant.2)

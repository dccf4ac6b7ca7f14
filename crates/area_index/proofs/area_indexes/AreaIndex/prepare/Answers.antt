use Rattle.std.proofs.Common.{◌∙◌, length, ap, sym, arith}
use Rattle.std.proofs.lemmas.List.{length-map}
use Rattle.area_index.specs.Slots.{height_at}
use Rattle.area_index.specs.Forests.{forest_with, pair_at}
use Rattle.area_index.proofs.Kept.{nodes-are}
use Rattle.area_index.proofs.Forests.{both_same, has-same, kept_as}
use Rattle.area_index.proofs.area_indexes.AreaIndex.prepare.Goals as goal

pub returns-in_err-open_sheets-clause-pairs : goal.returns-in_err-open_sheets-clause-pairs
returns-in_err-open_sheets-clause-pairs c p = rw (← c.self.view_is) (has-same c.self.inside.store c.open_sheets.new.store c.self.inside.links _ c.open_sheets.ensures.same c.self.invariant p)

pub returns-in_err-nodes-clause-pairs : goal.returns-in_err-nodes-clause-pairs
returns-in_err-nodes-clause-pairs c p = rw (← c.self.view_is) (has-same c.self.inside.store c.open_sheets.new.store c.self.inside.links _ c.open_sheets.ensures.same c.self.invariant p)

pub returns-then-self-len-clause-pairs : goal.returns-then-self-len-clause-pairs
returns-then-self-len-clause-pairs c p = rw (← c.self.view_is) (has-same c.self.inside.store c.open_sheets.new.store c.self.inside.links _ c.open_sheets.ensures.same c.self.invariant p)

pub returns-in_err-make_free-clause-pairs : goal.returns-in_err-make_free-clause-pairs
returns-in_err-make_free-clause-pairs c p = rw (← c.self.view_is) (has-same c.self.inside.store c.make_free.new.store c.self.inside.links _ (both_same c.self.inside.store c.open_sheets.new.store c.make_free.new.store c.open_sheets.ensures.same c.make_free.ensures.same) c.self.invariant p)

pub returns-clause-pairs : goal.returns-clause-pairs
returns-clause-pairs c p = rw (← c.self.view_is) (has-same c.self.inside.store c.make_free.new.store c.self.inside.links _ (both_same c.self.inside.store c.open_sheets.new.store c.make_free.new.store c.open_sheets.ensures.same c.make_free.ensures.same) c.self.invariant p)

pub returns-in_err-make_free-clause-size : goal.returns-in_err-make_free-clause-size
returns-in_err-make_free-clause-size c =
    let store = c.self.inside.store in
    let kept = kept_as store c.self.inside.links 0 c.self.invariant.kept in
    let opened = c.open_sheets.ensures.same.kept kept in
    let nodes = ap (λ ns. length ns.items.items) c.open_sheets.ensures.nodes in
    let free = ap (λ ns. height_at ns.items.items c.open_sheets.new.store.free) c.open_sheets.ensures.nodes ∙ ap (height_at store.nodes.items.items) c.open_sheets.ensures.free in
    let most = c.make_free.ensures.most opened in
    let used = c.make_free.ensures.used opened in
    let are = nodes-are (forest_with store 0) kept in
    let many = sym (length-map c.in_ok-nodes.nodes.items (λ node. node.pair)) ∙ ap length c.in_ok-nodes.ensures ∙ length-map c.args.areas.now (pair_at c.args.reader) in
    rw (← c.self.view_is) (omega arith)

pub returns-clause-size : goal.returns-clause-size
returns-clause-size c =
    let store = c.self.inside.store in
    let kept = kept_as store c.self.inside.links 0 c.self.invariant.kept in
    let opened = c.open_sheets.ensures.same.kept kept in
    let nodes = ap (λ ns. length ns.items.items) c.open_sheets.ensures.nodes in
    let free = ap (λ ns. height_at ns.items.items c.open_sheets.new.store.free) c.open_sheets.ensures.nodes ∙ ap (height_at store.nodes.items.items) c.open_sheets.ensures.free in
    let most = c.make_free.ensures.most opened in
    let used = c.make_free.ensures.used opened in
    let are = nodes-are (forest_with store 0) kept in
    let many = sym (length-map c.in_ok-nodes.nodes.items (λ node. node.pair)) ∙ ap length c.in_ok-nodes.ensures ∙ length-map c.args.areas.now (pair_at c.args.reader) in
    rw (← c.self.view_is) (omega arith)

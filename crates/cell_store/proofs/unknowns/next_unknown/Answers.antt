use Rattle.std.proofs.Common.{ap, sym, ◌∙◌}
use Rattle.cell_store.specs.Walking.{entries_from, unknowns_inside}
use Rattle.cell_store.proofs.Sought.{sought-first, sought-none, sought-start}
use Rattle.cell_store.proofs.unknowns.next_unknown.Goals as goal

pub loop-from-init : goal.loop-from-init
loop-from-init c = sought-start c.args.areas.now c.args.present.now.entries c.args.after c.first_behind-from.result c.first_behind-from.ensures

pub loop-from-preserved : goal.loop-from-preserved
loop-from-preserved c = c.in-Past.ensures.0 ∙ ap (λ place. unknowns_inside c.args.areas.now (entries_from place c.args.present.now.entries)) (sym c.in-Some.is) ∙ c.loop-from.invariant

pub returns-in-Found : goal.returns-in-Found
returns-in-Found c = sought-first c.args.areas.now c.args.after c.args.present.now.entries c.loop-from.from c.in-Some.seek c.in-Found.cell c.requires c.in-Some.is c.loop-from.invariant c.in-Found.ensures

pub returns : goal.returns
returns c = sought-none c.args.areas.now c.args.after c.args.present.now.entries c.loop-from.from c.requires c.in_default.is c.loop-from.invariant

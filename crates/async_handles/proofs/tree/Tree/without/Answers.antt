use Rattle.std.proofs.Common.{is_some, sym, ap, ◌∙◌}
use Rattle.std.specs.Option.{option_map}
use Rattle.async_handles.proofs.SplitLaws.{found_at, is_some_part, without-split}
use Rattle.async_handles.proofs.tree.Tree.without.Goals as goal

pub returns-clause-calls : goal.returns-clause-calls
returns-clause-calls c =
    let parts = c.split-less.result in
    let found = option_map (λ found. found.0) parts.found in
    c.join.ensures ∙ sym (without-split c.args.cell c.args.self parts.less found parts.greater c.split-less.ensures)

pub returns-clause-found : goal.returns-clause-found
returns-clause-found c =
    let parts = c.split-less.result in
    let found = option_map (λ found. found.0) parts.found in
    c.map.ensures.variant
    ∙ sym (ap is_some (found_at c.args.cell c.args.self parts.less found parts.greater c.split-less.ensures) ∙ is_some_part _ parts.found)

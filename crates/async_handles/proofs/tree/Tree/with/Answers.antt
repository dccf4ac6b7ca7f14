use Rattle.std.proofs.Common.{[], ◌∷◌, ◌++◌, sym, ap, ◌∙◌, append_assoc}
use Rattle.std.specs.Option.{option_map}
use Rattle.async_handles.proofs.SplitLaws.{with_call-split}
use Rattle.async_handles.proofs.tree.Tree.with.Goals as goal

pub returns : goal.returns
returns c =
    let parts = c.split-less.result in
    let found = option_map (λ found. found.0) parts.found in
    let split = with_call-split c.args.entry c.args.self parts.less found parts.greater c.split-less.ensures c.requires.free in
    let one = c.fork-one.ensures ∙ ap (λ v. v ++ c.args.entry ∷ c.new-2.result) c.new.ensures ∙ ap (λ v. c.args.entry ∷ v) c.new-2.ensures in
    c.join-2.ensures
    ∙ ap (λ v. v ++ parts.greater) (c.join.ensures ∙ ap (λ v. parts.less ++ v) one)
    ∙ append_assoc parts.less (c.args.entry ∷ []) parts.greater
    ∙ sym split

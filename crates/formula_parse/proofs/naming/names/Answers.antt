use Rattle.std.proofs.Common.{◌≤◌, ◌++◌, All, ap, sym, ◌∙◌, subst}
use Rattle.cell_refs.specs.Area.{IsArea, size_of}
use Rattle.formula_parse.specs.Tree.{areas_named}
use Rattle.formula_parse.proofs.NamingLaws.{named_small, named_inside}
use Rattle.formula_parse.proofs.naming.names.Goals as goal

pub returns-clause-inside : goal.returns-clause-inside
returns-clause-inside c = λ home.
    subst (All IsArea)
    (sym (c.in_ok-push_areas.ensures ∙ ap (λ areas. areas ++ areas_named c.root.result.now c.args.home) c.new-areas.ensures.items ∙ ap (λ tree. areas_named tree c.args.home) c.root.ensures.value))
    (named_inside c.args.t.now c.args.home c.root.ensures.tree home.0 home.1)

pub returns-clause-small : goal.returns-clause-small
returns-clause-small c =
    subst (All (λ area. size_of area ≤ 65536))
    (sym (c.in_ok-push_areas.ensures ∙ ap (λ areas. areas ++ areas_named c.root.result.now c.args.home) c.new-areas.ensures.items ∙ ap (λ tree. areas_named tree c.args.home) c.root.ensures.value))
    (named_small c.args.t.now c.args.home c.root.ensures.tree)

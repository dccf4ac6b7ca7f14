use Rattle.std.proofs.Common.{sym, ◌∙◌}
use Rattle.workbook.proofs.RegistryLaws.{kept-names, put-named, named-ordered}
use Rattle.workbook.proofs.registry.Registry.register.Goals as goal

pub invariant_of-self : goal.invariant_of-self
invariant_of-self c = (
  kept-names c.insert.result _ _ c.in-Ok.key (c.args.name, c.args.registration) c.insert.ensures.ok c.insert.ensures.refused c.self.invariant.0 (sym (c.in-Ok.ensures.ok ∙ c.as_str.ensures.name)),
  named-ordered _ c.insert.ensures.ordered,
)

pub returns-clause-ok : goal.returns-clause-ok
returns-clause-ok c =
    put-named c.insert.result _ _ c.in-Ok.key (c.args.name, c.args.registration) _ c.insert.ensures.ok c.self.view_is (c.in-Ok.ensures.ok ∙ c.as_str.ensures.name)

use Rattle.std.proofs.Common.{ap, sym, option_map, ◌∙◌}
use Rattle.workbook.specs.Registry.{registration_of}
use Rattle.workbook.proofs.RegistryLaws.{lookup-bytes}
use Rattle.workbook.proofs.registry.Registry.registration.Goals as goal

pub returns-in-Some-clause-found : goal.returns-in-Some-clause-found
returns-in-Some-clause-found c =
    ap (option_map (λ v. v.1)) c.in-Some.ensures.value
    ∙ sym (lookup-bytes c.args.name.now c.self.inside.entries.entries)
    ∙ ap (λ es. registration_of es c.args.name.now) c.self.view_is

pub returns-in-None-clause-found : goal.returns-in-None-clause-found
returns-in-None-clause-found c =
    ap (option_map (λ v. v.1)) c.in-None.ensures.value
    ∙ sym (lookup-bytes c.args.name.now c.self.inside.entries.entries)
    ∙ ap (λ es. registration_of es c.args.name.now) c.self.view_is

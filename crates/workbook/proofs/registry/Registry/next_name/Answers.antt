use Rattle.std.proofs.Common.{◌≡◌, ap, rules, sym, subst, ◌∙◌, option_copied}
use Rattle.workbook.specs.Registry.{is_past, next_name}
use Rattle.workbook.specs.NamedEntries.{AreNamed, functions_of}
use Rattle.workbook.proofs.RegistryLaws.{next-here, next-later, next-none}
use Rattle.workbook.proofs.registry.Registry.next_name.Goals as goal

pub loop-key-init : goal.loop-key-init
loop-key-init c =
    let whole : c.into_iter-key-iterator.result ≡ c.self.inside.entries.entries = search rules in (
      ap (λ es. next_name (functions_of es) (option_copied c.args.after)) whole ∙ ap (λ fs. next_name fs (option_copied c.args.after)) c.self.view_is,
      subst AreNamed (sym whole) c.self.invariant.0,
    )

pub returns-then-is_past-clause-next : goal.returns-then-is_past-clause-next
returns-then-is_past-clause-next c =
    next-here _ _ _ _ (option_copied c.args.after) _ _ c.in-Some.ensures.steps c.loop-key.invariant (c.is_past.ensures ∙ ap (is_past (option_copied c.args.after)) c.as_str.ensures.value) c.if-is_past.true

pub loop-key-preserved : goal.loop-key-preserved
loop-key-preserved c =
    next-later _ _ _ _ (option_copied c.args.after) _ _ c.in-Some.ensures.steps c.loop-key.invariant (c.is_past.ensures ∙ ap (is_past (option_copied c.args.after)) c.as_str.ensures.value) c.if-is_past.false

pub returns-clause-next : goal.returns-clause-next
returns-clause-next c = next-none _ (option_copied c.args.after) _ c.in-None.ensures.steps.0 c.loop-key.invariant

use Rattle.std.proofs.Common.{◌≡◌, ◌||◌, true, false, ap, sym, ◌∙◌, codes, refl, is_some}
use Rattle.std.specs.Str.{bytes_eq}
use Rattle.functions.specs.Functions.{function_named}
use Rattle.host_core.proofs.Reserved.{reserved}
use Rattle.host_core.proofs.edits.is_reserved.Goals as goal

pub returns-then-is_some : goal.returns-then-is_some
returns-then-is_some c =
    let name = c.args.name.now in
    let text = c.as_str.ensures.name in
    let found = sym (ap is_some (c.of.ensures ∙ ap function_named text)) ∙ sym c.is_some.ensures ∙ c.if-is_some.true in
    c.if-is_some.true ∙ sym (reserved name ∙ ap (λ b. b || bytes_eq name (codes "RTD")) found)

pub returns-else-is_some : goal.returns-else-is_some
returns-else-is_some c =
    let name = c.args.name.now in
    let text = c.as_str.ensures.name in
    let found = sym (ap is_some (c.of.ensures ∙ ap function_named text)) ∙ sym c.is_some.ensures ∙ c.if-is_some.false in
    c.eq.ensures ∙ ap (λ n. bytes_eq n (codes "RTD")) c.as_str-else-is_some.ensures.name ∙ sym (reserved name ∙ ap (λ b. b || bytes_eq name (codes "RTD")) found)

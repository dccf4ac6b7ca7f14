use Rattle.std.proofs.Common.{◌++◌, ◌∷◌, [], ap, sym, subst, ◌∙◌, arith}
use Rattle.command_log.specs.Log.{AreLinked, head_of, results_from, results_of}
use Rattle.command_log.proofs.Linking.{behind_before, linked_with, results_before}
use Rattle.command_log.proofs.logs.CommandLog.push.Goals as goal

pub invariant_of-self : goal.invariant_of-self
invariant_of-self c =
    let old = c.self.invariant in
    let es = c.self.inside.entries.items in
    let ls = c.self.inside.links.items in
    let hs = c.self.inside.heads.places in
    subst (λ entries. AreLinked entries c.push_reserved-2.new.items.items hs) (sym c.push_reserved.ensures.items)
    (subst (λ links. AreLinked (es ++ c.args.entry ∷ []) links hs) (sym c.push_reserved-2.ensures.items)
    (linked_with es ls hs hs c.args.entry 0 old (omega arith) tt (λ cell. omega (arith, old.within cell)) (λ cell. behind_before es c.args.entry (head_of hs cell) (old.newest cell))))

pub returns-clause-results : goal.returns-clause-results
returns-clause-results c cell =
    let old = c.self.invariant in
    let es = c.self.inside.entries.items in
    let ls = c.self.inside.links.items in
    let hs = c.self.inside.heads.places in
    let head = head_of hs cell in
    ap (λ entries. results_from entries c.push_reserved-2.new.items.items head head) c.push_reserved.ensures.items
    ∙ ap (λ links. results_from (es ++ c.args.entry ∷ []) links head head) c.push_reserved-2.ensures.items
    ∙ results_before es ls c.args.entry 0 old.lengths old.back old.returns head head (old.within cell) (old.newest cell)
    ∙ ap (λ v. results_of v cell) c.self.view_is

use Rattle.std.proofs.Common.{◌≡◌, ◌≢◌, ◌<◌, length, true, false, arith, ap, sym, ◌∙◌}
use Rattle.std.proofs.lemmas.List.{set-get_or}
use Rattle.cell_values.specs.declared.values.Value.TheVariants as values
use Rattle.cell_eval.proofs.OperationLaws.{turn_blank, turn_other}
use Rattle.cell_eval.proofs.added.all_finished.Goals as goal
use Rattle.cell_eval.proofs.added.all_finished.Goals.{then-matches+in-Text-1, then-matches+in-Num-1, else-matches, in-Blank, in_default}

pub loop-value-preserved : goal.loop-value-preserved
loop-value-preserved c =
    let vs = c.args.values.items in
    let items = c.loop-value.value-items in
    let i = c.loop-value.value-index in
    let item = c.value-item.result in
    let lt : i < length vs = omega (arith, ap length c.deref_mut-value-items.ensures.value) in
    let blank : c.match-matches.matches ≡ true → item ≡ values.Blank = λ yes. elim c.match-matches.branch [ in-Blank m ↦ c.value-item.is ∙ m.in-Blank.is | in_default m ↦ let no = m.matches-is in absurd (cc) ] in
    let other : c.match-matches.matches ≡ false → item ≢ values.Blank = λ no. elim c.match-matches.branch [ in-Blank m ↦ let yes = m.matches-is in absurd (cc) | in_default m ↦ λ e. m.in_default.not-Blank (sym c.value-item.is ∙ e) ] in
    elim c.if-matches.branch [
      | then-matches+in-Text-1 w ↦ turn_blank vs items c.if-matches.value-items i item lt c.loop-value.invariant c.value-item.is (blank w.if-matches.true) w.value-items-is
      | then-matches+in-Num-1 w ↦ turn_blank vs items c.if-matches.value-items i item lt c.loop-value.invariant c.value-item.is (blank w.if-matches.true) w.value-items-is
      | else-matches w ↦ turn_other vs items c.if-matches.value-items i item lt c.loop-value.invariant c.value-item.is (other w.if-matches.false) (w.value-items-is ∙ set-get_or items i _)
    ]

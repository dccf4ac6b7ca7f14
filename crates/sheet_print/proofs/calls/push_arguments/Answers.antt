use Rattle.std.proofs.Common.{◌-◌, ◌∷◌, drop, length, take}
use Rattle.std.specs.List.{flat_map}
use Rattle.cell_values.specs.Word.{value_text}
use Rattle.sheet_print.specs.Replies.{arguments_text}
use Rattle.sheet_print.proofs.Appending.{appended-twice, prefix-appended, prefix-more}
use Rattle.sheet_print.proofs.Arguments.{arguments-first}
use Rattle.sheet_print.proofs.calls.push_arguments.Goals as goal

pub returns-in_ok-print_value-in-len1-up-clause-ok : goal.returns-in_ok-print_value-in-len1-up-clause-ok
returns-in_ok-print_value-in-len1-up-clause-ok c =
    let args = c.args.args.now in
    appended-twice c.push_others.result c.args.out.now.items c.print_value.new.out.items c.push_others.new.out.items
    (value_text c.first-item.result) (flat_map (λ v. 44 ∷ value_text v) (take (length args - 1) (drop 1 args))) (arguments_text args)
    c.in_ok-print_value-in-len1-up.ensures.ok (arguments-first args c.first-item.result c.in-len1-up.len_at_least c.first-item.is) c.push_others.ensures.ok

pub returns-in_ok-print_value-in-len1-up-clause-kept : goal.returns-in_ok-print_value-in-len1-up-clause-kept
returns-in_ok-print_value-in-len1-up-clause-kept c =
    prefix-more _ _ _ c.print_value.new.out.items _ (c.args.out.now.ok.0) (c.print_value.new.out.ok.0) (prefix-appended _ _ _ _ (c.args.out.now.ok.0) c.in_ok-print_value-in-len1-up.ensures.ok) c.push_others.ensures.kept

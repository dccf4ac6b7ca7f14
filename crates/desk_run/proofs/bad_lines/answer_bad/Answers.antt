use Rattle.std.proofs.Common.{◌++◌, ap, sym, subst, ◌∙◌}
use Rattle.std.specs.Str.{IsUtf8}
use Rattle.std.proofs.lemmas.Str.{IsUtf8-from_ascii}
use Rattle.session_script.specs.Faults.{fault_text}
use Rattle.desk_run.proofs.bad_lines.answer_bad.Goals as goal

pub unreachable-requires : goal.unreachable-requires
unreachable-requires c =
    c.in-Err.ensures.cases.0
    (subst IsUtf8 (sym (c.as_slice.ensures.value ∙ c.in_ok-bad_word.ensures.ok ∙ ap (λ bs. bs ++ fault_text c.args.fault) c.new-word.ensures.items))
    (IsUtf8-from_ascii _ c.a_word_is_ascii.ensures))

use Rattle.std.proofs.Common.{ℕ, ◌<◌, List, IsTrue, get_or}
use Rattle.cell_values.specs.Text.{is_text}
use Rattle.session_script.proofs.forms.texts_have_form.Given as goal

-- the texts so far have their form
abbrev pub invariant-loop-text : goal.invariant-loop-text
invariant-loop-text l = (k : ℕ) (d : List ℕ) → k < l.text-index → IsTrue (is_text (get_or l.texts k d))

-- Lines that are too long.
use Rattle.std.proofs.Common.{◌≡◌, ◌<◌, ℕ, List, length, Err}
use Rattle.std.proofs.lemmas.Bool.{cond-true, lt-ltb}
use Rattle.session_script.specs.declared.faults.BadLine.TheVariants as faults
use Rattle.session_script.specs.Script.{line_said}

pub too_long : (text : List ℕ) → 160000 < length text → line_said text ≡ Err faults.Long
unfolding line_said
too_long text long = cond-true _ _ _ (lt-ltb 160000 (length text) long)

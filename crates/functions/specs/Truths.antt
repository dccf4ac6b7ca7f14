-- For the crate's own functions: what was seen of booleans.
use Rattle.std.specs.Prelude.{Bool, true, false, ◌&&◌, ◌||◌}
use Rattle.functions.specs.declared.truths.Truths.{Truths}

-- nothing seen
abbrev pub NO_TRUTHS : Truths
NO_TRUTHS = record { some = false; all = true; any = false }

-- with one boolean more
abbrev pub with_truth : Truths → Bool → Truths
with_truth seen b = record { some = true; all = seen.all && b; any = seen.any || b }

use Rattle.std.proofs.Common.{◌≡◌, drop}
use Rattle.cell_eval.specs.Jobs.{result_at}
use Rattle.cell_eval.proofs.lookups.result_at.Given as goal

-- what is looked for is among the entries that are still to come
abbrev pub invariant-loop-place : goal.invariant-loop-place
invariant-loop-place l = result_at l.results l.site ≡ result_at (drop l.place-index l.results) l.site

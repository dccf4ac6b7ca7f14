use Rattle.std.proofs.Common.{◌≡◌, ℕ, true, false, length, take}
use Rattle.std.specs.Prelude.{slice_index_or}
use Rattle.calc_chain.specs.Chain.{has}
use Rattle.calc_chain.proofs.due.raise_each.Given as goal

-- the numbers so far are flagged
abbrev pub invariant-loop-x : goal.invariant-loop-x
invariant-loop-x l = record {
  raised : (x : ℕ) → has (take l.x-index l.numbers) x ≡ true → slice_index_or l.flags x false ≡ true;
  len : length l.flags ≡ length l.fn.flags;
}

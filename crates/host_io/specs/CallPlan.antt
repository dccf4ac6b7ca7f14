-- For the crate's own functions: which calls fail.
use Rattle.std.specs.Prelude.{ℕ, List}

-- the numbers of the calls that fail, and how many calls there were
pub record PlannedCalls : Type 0 where
  pub fails : List ℕ
  pub calls : ℕ

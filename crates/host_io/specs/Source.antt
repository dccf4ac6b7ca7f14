-- What a source in memory says of itself.
use Rattle.std.specs.Prelude.{ℕ, List}

-- a source in memory: the bytes that are left, the most bytes that one call gives, the numbers of the calls
-- that fail, how many calls there were, and how many of them failed
pub record MemoryInput : Type 0 where
  pub left : List ℕ
  pub piece : ℕ
  pub fails : List ℕ
  pub calls : ℕ
  pub faults : ℕ

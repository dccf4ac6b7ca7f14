-- What a sink says of the bytes that were written to it.
use Rattle.std.specs.Prelude.{◌≡◌, ℕ, Bool, List, ◌++◌, Option, Some, None}

-- the bytes written grew by these, where they are told
abbrev pub Appends : Option (List ℕ) → List ℕ → Option (List ℕ) → Type 0
Appends None bytes new = Unit {0}
Appends (Some old) bytes None = ⊥
Appends (Some old) bytes (Some new) = new ≡ old ++ bytes

-- the bytes written grew by a prefix of these
abbrev pub AppendsPrefix : Option (List ℕ) → List ℕ → Option (List ℕ) → Type 0
AppendsPrefix old bytes new = (prefix : List ℕ) × (rest : List ℕ) × (bytes ≡ prefix ++ rest) × Appends old prefix new

-- a sink in memory: what was written to it, how many bytes more it has room for, the most bytes that one call
-- takes, the numbers of the calls that fail, how many calls there were, how many of them failed, and whether it
-- is finished
pub record MemoryOutput : Type 0 where
  pub written : List ℕ
  pub room : ℕ
  pub piece : ℕ
  pub fails : List ℕ
  pub calls : ℕ
  pub faults : ℕ
  pub finished : Bool

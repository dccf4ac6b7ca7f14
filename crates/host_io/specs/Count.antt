-- Counts that stop at the greatest u64.
use Rattle.std.specs.Prelude.{ℕ, ◌+◌, ◌-◌, ◌^◌, ◌≤◌, min}

-- one more, up to the greatest u64
abbrev pub count_with_one_more : ℕ → ℕ
count_with_one_more n = min (n + 1) (2 ^ 64 - 1)

-- a count rose: it is greater than before, or stands at the greatest u64
abbrev pub Rose : ℕ → ℕ → Type 0
Rose before now = count_with_one_more before ≤ now

-- When a pull is due.
use Rattle.std.specs.Prelude.{ℕ, ◌+◌, ◌-◌, ℤ, pos, negsuc, nat_lt, ◌&&◌, if◌then◌else◌, Option, None, Some}
use Rattle.throttle.specs.declared.pacing.Due.{Due}
use Rattle.throttle.specs.declared.pacing.Due.TheVariants as dues

-- the interval between pulls in milliseconds, 0 for none and -1 for forced pulls alone, and the moment of the last pull
pub record Pacing : Type 0 where
  pub interval : ℤ
  pub last : Option ℕ

-- whether a pull at a moment is due by this interval and the moment of the last one: early where the interval is positive
-- and hasn't passed since the last one
abbrev pub due_by : ℤ → Option ℕ → ℕ → Due
due_by (negsuc n) last moment = dues.Manual
due_by (pos interval) None moment = dues.Now
due_by (pos interval) (Some last) moment =
    if nat_lt 0 interval && nat_lt moment (last + interval) then dues.Early (last + interval - moment) else dues.Now

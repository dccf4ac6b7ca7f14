-- For the crate's own functions: how a text is answered, and what a piece that did not come leaves.
use Rattle.std.specs.Prelude.{◌≡◌, ℕ, ◌<◌, ◌≤◌, List, [], ◌∷◌, length, Option}
use Rattle.std.specs.Io.KnownBytes.{Consumes, Keeps}
use Rattle.host_io.specs.declared.limits.TheConstants.{MAX_INPUT, MAX_LINE}
use Rattle.host_io.specs.declared.reader.Line.{Line}
use Rattle.host_io.specs.declared.reader.Line.TheVariants.{Bytes, TooLong, End}
use Rattle.host_io.specs.declared.reader.LineFault.{LineFault}
use Rattle.host_io.specs.declared.reader.LineFault.TheVariants.{Read, Limit, Memory}

-- a line of this text is answered by its length
abbrev pub IsAnswered : List ℕ → Line → Type 0
IsAnswered text (Bytes line) = (line.items ≡ text) × (length text ≤ MAX_LINE)
IsAnswered text TooLong = MAX_LINE < length text
IsAnswered text End = ⊥

-- a last line without LF counts where it has a byte
abbrev pub IsLastAnswered : List ℕ → Line → Type 0
IsLastAnswered [] line = line ≡ End
IsLastAnswered (b ∷ bs) line = IsAnswered (b ∷ bs) line

-- what a piece that did not come says of the source: it keeps its bytes, but for the one beyond the limit
abbrev pub Misses : LineFault → ℕ → Option (List ℕ) → Option (List ℕ) → Type 0
Misses Read taken left left' = Keeps left left'
Misses Limit taken left left' = (taken ≡ MAX_INPUT) × ((more : ℕ) × Consumes left left' (more ∷ []))
Misses Memory taken left left' = Keeps left left'

-- The state of a reader of lines, and what a call moves.
use Rattle.std.specs.Prelude.{◌≡◌, ℕ, ◌+◌, ◌-◌, ◌<◌, ◌≤◌, ◌⊎◌, Bool, true, List, [], ◌∷◌, ◌++◌, length, Option, Some, None}
use Rattle.std.specs.Io.KnownBytes.{Consumes}
use Rattle.host_io.specs.declared.limits.TheConstants.{MAX_INPUT, MAX_LINE}
use Rattle.host_io.specs.Lines.{lines_of, IsWhole, LacksFeed}
use Rattle.host_io.specs.declared.reader.Line.{Line}
use Rattle.host_io.specs.declared.reader.Line.TheVariants.{Bytes, TooLong, End}
use Rattle.host_io.specs.declared.reader.LineFault.{LineFault}
use Rattle.host_io.specs.declared.reader.LineFault.TheVariants.{Read, Limit, Memory}

-- the bytes that were taken from a source and not yet given out, and how many were taken in all
pub record Backlog : Type 0 where
  pub pending : List ℕ
  pub taken : ℕ

-- a reader: those two, whether the source came to its end, and the fault that it answers from now on
pub record LineReader : Type 0 where
  pub pending : List ℕ
  pub taken : ℕ
  pub ended : Bool
  pub fault : Option LineFault

abbrev pub backlog_of : LineReader → Backlog
backlog_of r = record { pending = r.pending; taken = r.taken }

-- how many bytes were given out
abbrev pub given_out_count : LineReader → ℕ
given_out_count r = r.taken - length r.pending

-- `came` came from the source, and `raw` went out first
pub record Moves (old new : Backlog) (left left' : Option (List ℕ)) (raw : List ℕ) : Type 0 where
  pub came : List ℕ
  pub bytes : old.pending ++ came ≡ raw ++ new.pending
  pub count : new.taken ≡ old.taken + length came
  pub told : Consumes left left' came

-- raw is one line of this text, whole by its LF or the last of the input
abbrev pub SpellsLine : List ℕ → Bool → List ℕ → Type 0
SpellsLine raw ended text = (lines_of raw ≡ text ∷ []) × (IsWhole raw ⊎ (ended ≡ true))

-- the bytes that went out are the line that was answered; at the end there are none
abbrev pub Spells : List ℕ → Bool → Line → Type 0
Spells raw ended (Bytes line) = SpellsLine raw ended line.items × (length line.items ≤ MAX_LINE)
Spells raw ended TooLong = (text : List ℕ) × SpellsLine raw ended text × (MAX_LINE < length text)
Spells raw ended End = (raw ≡ []) × (ended ≡ true)

-- the answer is the first line of what was left to give out; at the end nothing was left
abbrev pub IsFirstOf : List ℕ → List ℕ → Line → Type 0
IsFirstOf before after (Bytes line) = (lines_of before ≡ line.items ∷ lines_of after) × (length line.items ≤ MAX_LINE)
IsFirstOf before after TooLong = (text : List ℕ) × (lines_of before ≡ text ∷ lines_of after) × (MAX_LINE < length text)
IsFirstOf before after End = (before ≡ []) × (after ≡ [])

-- the same, where the source tells the bytes that are left in it
abbrev pub IsFirstLeft : List ℕ → Option (List ℕ) → List ℕ → Option (List ℕ) → Line → Type 0
IsFirstLeft pending (Some left) pending' (Some left') line = IsFirstOf (pending ++ left) (pending' ++ left') line
IsFirstLeft pending (Some left) pending' None line = ⊥
IsFirstLeft pending None pending' left' line = Unit {0}

-- every line that is answered gives out at least a byte
abbrev pub Advances : Line → LineReader → LineReader → Type 0
Advances End old new = Unit {0}
Advances (Bytes line) old new = given_out_count old < given_out_count new
Advances TooLong old new = given_out_count old < given_out_count new

-- all that may be taken was taken, and one byte more came
pub record Overflows (old new : Backlog) (left left' : Option (List ℕ)) : Type 0 where
  pub came : List ℕ
  pub more : ℕ
  pub bytes : new.pending ≡ old.pending ++ came
  pub count : new.taken ≡ old.taken + length came
  pub full : new.taken ≡ MAX_INPUT
  pub told : Consumes left left' (came ++ more ∷ [])

-- What a fault leaves: nothing went out, no byte is lost but the one beyond the limit, and where the source
-- gives no more, all whole lines were given out before.
abbrev pub Leaves : LineFault → Backlog → Backlog → Option (List ℕ) → Option (List ℕ) → Type 0
Leaves Read old new left left' = Moves old new left left' [] × LacksFeed new.pending
Leaves Limit old new left left' = Overflows old new left left' × LacksFeed new.pending
Leaves Memory old new left left' = Moves old new left left' []

-- From the start of a source that told these bytes, these lines were given out. They are the lines of the
-- bytes `given`, behind which stand those that are pending and those that are left.
pub record HasGiven (all : List ℕ) (lines : List (List ℕ)) (r : LineReader) (left : List ℕ) : Type 0 where
  pub given : List ℕ
  pub cut : lines_of given ≡ lines
  pub whole : IsWhole given ⊎ (r.ended ≡ true)
  pub bytes : all ≡ given ++ (r.pending ++ left)
  pub count : r.taken ≡ length given + length r.pending

-- the text of a line that is answered
abbrev pub IsTextOf : List ℕ → Line → Type 0
IsTextOf text (Bytes line) = text ≡ line.items
IsTextOf text TooLong = MAX_LINE < length text
IsTextOf text End = ⊥

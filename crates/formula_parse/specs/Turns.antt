-- For the crate's own functions: how far a text was read.
use Rattle.std.specs.Prelude.{◌≡◌, ℕ, ◌≤◌, false, List, length}
use Rattle.formula_parse.specs.declared.reader.Reader.{Reader}
use Rattle.formula_parse.specs.ReaderMachine.{minuses_in, is_too_deep}

-- the reader has come to this place of the text: no fewer bytes stand before it than the reader has `-`, and it isn't too deep
pub record IsReadUpTo (text : List ℕ) (place : ℕ) (reader : Reader) : Type 0 where
  pub within : place ≤ length text
  pub few : minuses_in reader.phase ≤ place
  pub shallow : is_too_deep reader.frames ≡ false

-- The writer of records, between two of them.
use Rattle.std.specs.Prelude.{◌≡◌, ◌==◌, ◌||◌, ℕ, Bool, false, Some, List, Vec}
use Rattle.std.specs.List.{list_any}
use Rattle.std.specs.declared.alloc.Global.{Global}
use Rattle.csv.specs.declared.writer.Writer.{Writer}
use Rattle.csv.specs.Writing.{default_writer, fields_written, has_written, text_written, writer_setup}

-- a writer with the usual settings, inside no record, has written these bytes
pub record HasWritten (records : Writer (Vec ℕ Global)) (bytes : List ℕ) : Type 0 where
  pub setup : writer_setup records ≡ default_writer
  pub fields : fields_written records ≡ 0
  pub clean : has_written records ≡ false
  pub text : text_written (λ sink. Some sink.items) records ≡ Some bytes

-- whether a byte ends a line: CR or LF
abbrev pub ends_line : ℕ → Bool
ends_line b = (b == 13) || (b == 10)

-- no byte of a text ends a line
abbrev pub IsOneLine : List ℕ → Type 0
IsOneLine text = list_any ends_line text ≡ false

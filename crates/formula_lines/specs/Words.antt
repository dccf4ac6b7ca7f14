-- The words of faults.
use Rattle.std.specs.Prelude.{ℕ, List, codes}
use Rattle.formula_parse.specs.declared.faults.ParseFault.{ParseFault}
use Rattle.formula_parse.specs.declared.faults.ParseFault.TheVariants as faults

-- the word of a fault
abbrev pub word_of : ParseFault → List ℕ
word_of faults.Memory = codes "memory"
word_of faults.TooLong = codes "long"
word_of faults.TooDeep = codes "deep"
word_of (faults.Syntax place) = codes "syntax"
word_of faults.BadRange = codes "range"
word_of faults.NumberTooLarge = codes "number"

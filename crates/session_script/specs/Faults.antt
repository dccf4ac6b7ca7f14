-- Why lines are bad, in words.
use Rattle.std.specs.Prelude.{ℕ, List, ◌++◌, codes, decimal}
use Rattle.addin_types.specs.declared.type_faults.TypeFault.{TypeFault}
use Rattle.addin_types.specs.declared.type_faults.TypeFault.TheVariants as type_faults
use Rattle.formula_parse.specs.declared.faults.ParseFault.{ParseFault}
use Rattle.formula_parse.specs.declared.faults.ParseFault.TheVariants as formula_faults
use Rattle.session_script.specs.declared.faults.BadLine.{BadLine}
use Rattle.session_script.specs.declared.faults.BadLine.TheVariants as faults

-- why a formula is none
abbrev pub formula_fault_text : ParseFault → List ℕ
formula_fault_text formula_faults.Memory = codes "memory"
formula_fault_text formula_faults.TooLong = codes "long"
formula_fault_text formula_faults.TooDeep = codes "deep"
formula_fault_text (formula_faults.Syntax place) = codes "syntax " ++ decimal place
formula_fault_text formula_faults.BadRange = codes "range"
formula_fault_text formula_faults.NumberTooLarge = codes "number"

-- why a text is no type text
abbrev pub type_fault_text : TypeFault → List ℕ
type_fault_text type_faults.Empty = codes "empty"
type_fault_text type_faults.MacroSheet = codes "macro"
type_fault_text (type_faults.Letter place) = codes "letter " ++ decimal place
type_fault_text type_faults.TwoHandles = codes "handles"
type_fault_text type_faults.VoidWithoutHandle = codes "void"
type_fault_text type_faults.HandleWithoutVoid = codes "handle"
type_fault_text type_faults.TooMany = codes "many"

-- why a line is bad; want of memory is told in no reply
abbrev pub fault_text : BadLine → List ℕ
fault_text faults.Memory = codes "memory"
fault_text faults.Long = codes "long"
fault_text faults.NotUtf8 = codes "utf8"
fault_text faults.Control = codes "control"
fault_text faults.Word = codes "word"
fault_text faults.Ref = codes "ref"
fault_text faults.Name = codes "name"
fault_text (faults.Formula fault) = codes "formula " ++ formula_fault_text fault
fault_text (faults.Type fault) = codes "type " ++ type_fault_text fault
fault_text faults.Value = codes "value"
fault_text faults.Handle = codes "handle"

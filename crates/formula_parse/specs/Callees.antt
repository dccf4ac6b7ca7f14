-- What a call in a formula calls, by its name.
use Rattle.std.specs.Prelude.{ℕ, Bool, true, false, if◌then◌else◌, List, Option, Some, None, codes}
use Rattle.std.specs.Str.{bytes_eq}
use Rattle.functions.specs.declared.functions.Function.{Function}
use Rattle.functions.specs.Functions.{function_named, word_of}
use Rattle.formula_parse.specs.declared.callees.Callee.{Callee}
use Rattle.formula_parse.specs.declared.callees.Callee.TheVariants as callees

-- a name that is a function's, RTD, or that of an added function
abbrev pub callee_beside : List ℕ → Option Function → Callee
callee_beside name (Some f) = callees.BuiltIn f
callee_beside name None = if bytes_eq name (codes "RTD") then callees.Rtd else callees.Added name

-- the callee of a name in upper case: a function by its word, RTD, or an added function
unfoldable pub callee_named : List ℕ → Callee
callee_named name = callee_beside name (function_named name)

-- the name that is written for a callee
abbrev pub callee_text : Callee → List ℕ
callee_text (callees.BuiltIn f) = word_of f
callee_text callees.Rtd = codes "RTD"
callee_text (callees.Added name) = name

-- whether a callee is RTD
abbrev pub is_rtd : Callee → Bool
is_rtd callees.Rtd = true
is_rtd other = false

-- the name of an added function
abbrev pub added_name : Callee → Option (List ℕ)
added_name (callees.Added name) = Some name
added_name other = None

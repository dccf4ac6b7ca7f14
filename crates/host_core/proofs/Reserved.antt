-- The names that no function can be registered by.
use Rattle.std.proofs.Common.{◌≡◌, ℕ, Bool, true, false, ◌||◌, cond, List, Option, Some, None, is_some, codes, refl}
use Rattle.std.specs.Str.{bytes_eq}
use Rattle.formula_parse.specs.Callees.{callee_beside, callee_named}
use Rattle.formula_parse.specs.declared.callees.Callee.TheVariants as callees
use Rattle.functions.specs.declared.functions.Function.{Function}
use Rattle.functions.specs.Functions.{function_named}
use Rattle.workbook.specs.Step.{is_builtin, is_reserved_callee}

reserved_beside : (name : List ℕ) (o : Option Function) → is_reserved_callee (callee_beside name o) ≡ (is_some o || bytes_eq name (codes "RTD"))
reserved_beside name (Some f) = refl
reserved_beside name None = elim (bytes_eq name (codes "RTD")) as (λ b. is_reserved_callee (cond b callees.Rtd (callees.Added name)) ≡ b) [ true ↦ refl | false ↦ refl ]

-- a name is that of a built-in function, or RTD
pub reserved : (name : List ℕ) → is_builtin name ≡ (is_some (function_named name) || bytes_eq name (codes "RTD"))
unfolding callee_named
reserved name = reserved_beside name (function_named name)

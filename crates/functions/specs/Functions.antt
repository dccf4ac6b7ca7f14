-- The functions: their names, their counts of arguments, and which areas they take.
use Rattle.std.specs.Prelude.{ℕ, Bool, true, false, ◌&&◌, ◌==◌, nat_le, List, [], ◌∷◌, Option, codes}
use Rattle.std.specs.List.{find}
use Rattle.std.specs.Str.{bytes_eq}
use Rattle.functions.specs.declared.functions.Function.{Function}
use Rattle.functions.specs.declared.functions.Function.TheVariants as functions
use Rattle.functions.specs.declared.limits.TheConstants.{MOST_ARGUMENTS}

-- the name of a function
abbrev pub word_of : Function → List ℕ
word_of functions.True = codes "TRUE"
word_of functions.False = codes "FALSE"
word_of functions.If = codes "IF"
word_of functions.IfError = codes "IFERROR"
word_of functions.IfNa = codes "IFNA"
word_of functions.And = codes "AND"
word_of functions.Or = codes "OR"
word_of functions.Not = codes "NOT"
word_of functions.IsNumber = codes "ISNUMBER"
word_of functions.IsText = codes "ISTEXT"
word_of functions.IsLogical = codes "ISLOGICAL"
word_of functions.IsError = codes "ISERROR"
word_of functions.IsNa = codes "ISNA"
word_of functions.IsBlank = codes "ISBLANK"
word_of functions.Na = codes "NA"
word_of functions.Sum = codes "SUM"
word_of functions.Product = codes "PRODUCT"
word_of functions.Min = codes "MIN"
word_of functions.Max = codes "MAX"
word_of functions.Count = codes "COUNT"
word_of functions.CountA = codes "COUNTA"
word_of functions.Abs = codes "ABS"
word_of functions.Sign = codes "SIGN"
word_of functions.Mod = codes "MOD"
word_of functions.Quotient = codes "QUOTIENT"
word_of functions.Power = codes "POWER"
word_of functions.Choose = codes "CHOOSE"
word_of functions.Index = codes "INDEX"
word_of functions.Len = codes "LEN"
word_of functions.Left = codes "LEFT"
word_of functions.Right = codes "RIGHT"
word_of functions.Mid = codes "MID"
word_of functions.Upper = codes "UPPER"
word_of functions.Lower = codes "LOWER"
word_of functions.Concatenate = codes "CONCATENATE"
word_of functions.Exact = codes "EXACT"
word_of functions.Find = codes "FIND"
word_of functions.Rept = codes "REPT"
word_of functions.Trim = codes "TRIM"
word_of functions.Value = codes "VALUE"

-- all functions
abbrev pub all_functions : List Function
all_functions =
    functions.True ∷ functions.False ∷ functions.If ∷ functions.IfError ∷ functions.IfNa ∷
    functions.And ∷ functions.Or ∷ functions.Not ∷ functions.IsNumber ∷ functions.IsText ∷
    functions.IsLogical ∷ functions.IsError ∷ functions.IsNa ∷ functions.IsBlank ∷ functions.Na ∷
    functions.Sum ∷ functions.Product ∷ functions.Min ∷ functions.Max ∷ functions.Count ∷
    functions.CountA ∷ functions.Abs ∷ functions.Sign ∷ functions.Mod ∷ functions.Quotient ∷
    functions.Power ∷ functions.Choose ∷ functions.Index ∷ functions.Len ∷ functions.Left ∷
    functions.Right ∷ functions.Mid ∷ functions.Upper ∷ functions.Lower ∷ functions.Concatenate ∷
    functions.Exact ∷ functions.Find ∷ functions.Rept ∷ functions.Trim ∷ functions.Value ∷ []

-- the function of a name
abbrev pub function_named : List ℕ → Option Function
function_named name = find (λ f. bytes_eq name (word_of f)) all_functions

-- the least and the greatest number of arguments of a function
abbrev pub arity_of : Function → ℕ × ℕ
arity_of functions.True = (0, 0)
arity_of functions.False = (0, 0)
arity_of functions.If = (2, 3)
arity_of functions.IfError = (2, 2)
arity_of functions.IfNa = (2, 2)
arity_of functions.And = (1, MOST_ARGUMENTS)
arity_of functions.Or = (1, MOST_ARGUMENTS)
arity_of functions.Not = (1, 1)
arity_of functions.IsNumber = (1, 1)
arity_of functions.IsText = (1, 1)
arity_of functions.IsLogical = (1, 1)
arity_of functions.IsError = (1, 1)
arity_of functions.IsNa = (1, 1)
arity_of functions.IsBlank = (1, 1)
arity_of functions.Na = (0, 0)
arity_of functions.Sum = (1, MOST_ARGUMENTS)
arity_of functions.Product = (1, MOST_ARGUMENTS)
arity_of functions.Min = (1, MOST_ARGUMENTS)
arity_of functions.Max = (1, MOST_ARGUMENTS)
arity_of functions.Count = (1, MOST_ARGUMENTS)
arity_of functions.CountA = (1, MOST_ARGUMENTS)
arity_of functions.Abs = (1, 1)
arity_of functions.Sign = (1, 1)
arity_of functions.Mod = (2, 2)
arity_of functions.Quotient = (2, 2)
arity_of functions.Power = (2, 2)
arity_of functions.Choose = (2, MOST_ARGUMENTS)
arity_of functions.Index = (3, 3)
arity_of functions.Len = (1, 1)
arity_of functions.Left = (1, 2)
arity_of functions.Right = (1, 2)
arity_of functions.Mid = (3, 3)
arity_of functions.Upper = (1, 1)
arity_of functions.Lower = (1, 1)
arity_of functions.Concatenate = (1, MOST_ARGUMENTS)
arity_of functions.Exact = (2, 2)
arity_of functions.Find = (2, 3)
arity_of functions.Rept = (2, 2)
arity_of functions.Trim = (1, 1)
arity_of functions.Value = (1, 1)

-- whether a count is within an arity
abbrev pub is_within : ℕ × ℕ → ℕ → Bool
is_within arity count = nat_le arity.0 count && nat_le count arity.1

-- whether a function takes so many arguments
abbrev pub takes_count : Function → ℕ → Bool
takes_count f count = is_within (arity_of f) count

-- whether a function takes the values of the area that its argument at this place refers to
abbrev pub takes_area : Function → ℕ → Bool
takes_area functions.Sum place = true
takes_area functions.Product place = true
takes_area functions.Min place = true
takes_area functions.Max place = true
takes_area functions.Count place = true
takes_area functions.CountA place = true
takes_area functions.And place = true
takes_area functions.Or place = true
takes_area functions.Index place = place == 0
takes_area other place = false

-- The calls of added functions, part by part.
use Rattle.std.proofs.Common.{◌≡◌, ℕ, ◌+◌, ◌≤◌, ℤ, Bool, true, false, cond, List, [], ◌∷◌, ◌++◌, map, length, refl, ap, ◌∙◌, arith}
use mir.Val.{bool_byte}
use Rattle.std.specs.Prelude.{is_some, option_to_list}
use Rattle.std.specs.List.{filter_map}
use Rattle.std.proofs.lemmas.List.Elements.{filter_map-append}
use Rattle.cell_refs.specs.declared.references.RefText.{RefText}
use Rattle.cell_values.specs.declared.errors.ErrorKind.{ErrorKind}
use Rattle.cell_values.specs.declared.names.Name.{Name}
use Rattle.cell_values.specs.declared.texts.Text.{Text}
use Rattle.functions.specs.declared.functions.Function.{Function}
use Rattle.formula_parse.specs.Callees.{added_name}
use Rattle.formula_parse.specs.Tree.{calls_of, calls_step, concat, site_count, sites_named}
use Rattle.formula_parse.specs.declared.callees.Callee.{Callee}
use Rattle.formula_parse.specs.declared.callees.Callee.TheVariants as callees
use Rattle.formula_parse.specs.declared.nodes.Node.{Node}
use Rattle.formula_parse.specs.declared.nodes.Node.TheVariants as nodes
use Rattle.formula_parse.specs.declared.operators.Operator.{Operator}
use Rattle.formula_parse.proofs.NodeLaws.{fold_number, fold_text, fold_error, fold_boolean, fold_reference, fold_area, fold_call, fold_parentheses, fold_negation, fold_chain}

-- not each call is one of an added function
pub sites_are_calls : (calls : List Callee) → length (filter_map added_name calls) ≤ length calls
sites_are_calls [] = omega arith
sites_are_calls (callees.BuiltIn f ∷ calls) = omega (arith, sites_are_calls calls)
sites_are_calls (callees.Rtd ∷ calls) = omega (arith, sites_are_calls calls)
sites_are_calls (callees.Added name ∷ calls) = omega (arith, sites_are_calls calls)

-- the sites of several parts
sites_of_parts : (parts : List Node) → filter_map added_name (concat (map calls_of parts)) ≡ concat (map sites_named parts)
sites_of_parts [] = refl
sites_of_parts (part ∷ parts) = filter_map-append added_name (calls_of part) (concat (map calls_of parts)) ∙ ap (λ names. sites_named part ++ names) (sites_of_parts parts)

-- the sites of each kind of node
pub sites_of_number : (n : ℤ) → sites_named (nodes.Number n) ≡ []
sites_of_number n = ap (filter_map added_name) (fold_number (List Callee) calls_step n)

pub sites_of_text : (t : Text) → sites_named (nodes.Text t) ≡ []
sites_of_text t = ap (filter_map added_name) (fold_text (List Callee) calls_step t)

pub sites_of_error : (e : ErrorKind) → sites_named (nodes.Error e) ≡ []
sites_of_error e = ap (filter_map added_name) (fold_error (List Callee) calls_step e)

pub sites_of_boolean : (b : Bool) → sites_named (nodes.Boolean b) ≡ []
sites_of_boolean b = ap (filter_map added_name) (fold_boolean (List Callee) calls_step b)

pub sites_of_reference : (r : RefText) → sites_named (nodes.Reference r) ≡ []
sites_of_reference r = ap (filter_map added_name) (fold_reference (List Callee) calls_step r)

pub sites_of_area : (a b : RefText) → sites_named (nodes.Area a b) ≡ []
sites_of_area a b = ap (filter_map added_name) (fold_area (List Callee) calls_step a b)

-- the names of added functions among some callees, before those of the arguments
sites_of_call : (callee : Callee) (arguments : List Node) → sites_named (nodes.Call callee arguments) ≡ filter_map added_name (callee ∷ concat (map calls_of arguments))
sites_of_call callee arguments = ap (filter_map added_name) (fold_call (List Callee) calls_step callee arguments)

pub sites_of_built_in : (f : Function) (arguments : List Node) → sites_named (nodes.Call (callees.BuiltIn f) arguments) ≡ concat (map sites_named arguments)
sites_of_built_in f arguments = sites_of_call (callees.BuiltIn f) arguments ∙ sites_of_parts arguments

pub sites_of_rtd : (arguments : List Node) → sites_named (nodes.Call callees.Rtd arguments) ≡ concat (map sites_named arguments)
sites_of_rtd arguments = sites_of_call callees.Rtd arguments ∙ sites_of_parts arguments

pub sites_of_added : (name : Name) (arguments : List Node) → sites_named (nodes.Call (callees.Added name) arguments) ≡ name ∷ concat (map sites_named arguments)
sites_of_added name arguments = sites_of_call (callees.Added name) arguments ∙ ap (λ names. name ∷ names) (sites_of_parts arguments)

-- the names of a call: its own, if it is that of an added function, and those of its arguments
pub names_of_call : (callee : Callee) (arguments : List Node) → sites_named (nodes.Call callee arguments) ≡ option_to_list (added_name callee) ++ concat (map sites_named arguments)
names_of_call (callees.BuiltIn f) arguments = sites_of_built_in f arguments
names_of_call callees.Rtd arguments = sites_of_rtd arguments
names_of_call (callees.Added name) arguments = sites_of_added name arguments

-- a Boolean as a number
pub byte_is : (b : Bool) → bool_byte b ≡ cond b 1 0
byte_is true = refl
byte_is false = refl

-- how many sites a call has
pub count_of_call : (callee : Callee) (arguments : List Node) → site_count (nodes.Call callee arguments) ≡ length (concat (map sites_named arguments)) + cond (is_some (added_name callee)) 1 0
count_of_call (callees.BuiltIn f) arguments = omega (arith, ap length (sites_of_built_in f arguments))
count_of_call callees.Rtd arguments = omega (arith, ap length (sites_of_rtd arguments))
count_of_call (callees.Added name) arguments = omega (arith, ap length (sites_of_added name arguments))

pub sites_of_parentheses : (inner : Node) → sites_named (nodes.Parentheses inner) ≡ sites_named inner
sites_of_parentheses inner = ap (filter_map added_name) (fold_parentheses (List Callee) calls_step inner)

pub sites_of_negation : (count : ℕ) (operand : Node) → sites_named (nodes.Negation count operand) ≡ sites_named operand
sites_of_negation count operand = ap (filter_map added_name) (fold_negation (List Callee) calls_step count operand)

pub sites_of_chain : (operands : List Node) (operators : List Operator) → sites_named (nodes.Chain operands operators) ≡ concat (map sites_named operands)
sites_of_chain operands operators = ap (filter_map added_name) (fold_chain (List Callee) calls_step operands operators) ∙ sites_of_parts operands

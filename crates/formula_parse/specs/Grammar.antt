-- The grammar of formulas: which tokens each part of a tree is written with.
use Rattle.std.specs.Prelude.{◌≡◌, ◌⊎◌, ℕ, suc, ◌<◌, ◌≤◌, List, [], ◌∷◌, ◌++◌, map, length}
use Rattle.functions.specs.declared.limits.TheConstants.{MOST_ARGUMENTS}
use Rattle.formula_parse.specs.declared.nodes.Node.{Node}
use Rattle.formula_parse.specs.declared.nodes.Node.TheFolds.{rec-Node}
use Rattle.formula_parse.specs.declared.nodes.Node.TheOpen.{Node-F}
use Rattle.formula_parse.specs.declared.nodes.Node.TheOpen as layer
use Rattle.formula_parse.specs.declared.operators.Operator.{Operator}
use Rattle.formula_parse.specs.declared.operators.Operator.TheVariants as operators
use Rattle.formula_parse.specs.declared.tokens.Token.{Token}
use Rattle.formula_parse.specs.declared.tokens.Token.TheVariants as tokens

-- The places of the grammar, from the loosest to the tightest: comparisons 0, concatenations 1, sums 2, products 3, signed operands 4, operands 5. Each operator chains what stands one place tighter.
abbrev pub place_of : Operator → ℕ
place_of (operators.Compare op) = 0
place_of operators.Join = 1
place_of operators.Add = 2
place_of operators.Subtract = 2
place_of operators.Multiply = 3
place_of operators.Divide = 3

-- what is written at a place of the grammar
abbrev pub Written : Type 1
Written = ℕ → List Token → Type 0

-- any number of `-` and `+`, of which this many are `-`
abbrev pub AreSigns : ℕ → List Token → Type 0
AreSigns count [] = count ≡ 0
AreSigns count (tokens.Operator operators.Add ∷ signs) = AreSigns count signs
AreSigns count (tokens.Operator operators.Subtract ∷ signs) = (rest : ℕ) × (count ≡ suc rest) × AreSigns rest signs
AreSigns count (other ∷ signs) = ⊥

-- an operand behind its signs; where it stands as an operand alone there is none
pub record IsSigned (place count : ℕ) (Operand : List Token → Type 0) (written : List Token) : Type 0 where
  pub signs : List Token
  pub operand : List Token
  pub both : written ≡ signs ++ operand
  pub room : (place ≤ 4) ⊎ (signs ≡ [])
  pub counted : AreSigns count signs
  pub own : Operand operand

-- an operand of one token
abbrev pub IsOne : ℕ → Token → List Token → Type 0
IsOne place token written = IsSigned place 0 (λ operand. operand ≡ token ∷ []) written

-- between an opening token and a `)`
abbrev pub IsEnclosed : Token → (List Token → Type 0) → List Token → Type 0
IsEnclosed opening Inner operand = (inner : List Token) × (operand ≡ opening ∷ (inner ++ tokens.Close ∷ [])) × Inner inner

-- arguments, with a `,` between each two
abbrev pub AreArguments : List Written → List Token → Type 0
AreArguments [] inner = inner ≡ []
AreArguments (X ∷ []) inner = X 0 inner
AreArguments (X ∷ Y ∷ Xs) inner = (argument rest : List Token) × (inner ≡ argument ++ tokens.Comma ∷ rest) × X 0 argument × AreArguments (Y ∷ Xs) rest

-- operands of one chain from left to right, an operator of this place between each two
abbrev pub IsChain : ℕ → List Written → List Operator → List Token → Type 0
IsChain place [] ops written = ⊥
IsChain place (X ∷ []) [] written = X (suc place) written
IsChain place (X ∷ []) (op ∷ ops) written = ⊥
IsChain place (X ∷ Y ∷ Xs) [] written = ⊥
IsChain place (X ∷ Y ∷ Xs) (op ∷ ops) written = (operand rest : List Token) × (written ≡ operand ++ tokens.Operator op ∷ rest) × X (suc place) operand × (place_of op ≡ place) × IsChain place (Y ∷ Xs) ops rest

-- a chain of one operator at least, where its place or a looser one stands
abbrev pub IsChainAt : ℕ → List Written → List Operator → List Token → Type 0
IsChainAt place Xs [] written = ⊥
IsChainAt place Xs (op ∷ ops) written = (place ≤ place_of op) × IsChain (place_of op) Xs (op ∷ ops) written

-- one part of a tree, over what its parts are written with
abbrev pub written_step : (X : Type 0) → (X → Node) → (X → Written) → Node-F X → Written
written_step X node part (layer.Number n) place written = IsOne place (tokens.Number n) written
written_step X node part (layer.Text t) place written = IsOne place (tokens.Text t) written
written_step X node part (layer.Error e) place written = IsOne place (tokens.Error e) written
written_step X node part (layer.Boolean b) place written = IsOne place (tokens.Boolean b) written
written_step X node part (layer.Reference r) place written = IsOne place (tokens.Reference r) written
written_step X node part (layer.Area a b) place written = IsOne place (tokens.Area a b) written
written_step X node part (layer.Call callee arguments) place written = (length arguments ≤ MOST_ARGUMENTS) × IsSigned place 0 (IsEnclosed (tokens.Call callee) (AreArguments (map part arguments))) written
written_step X node part (layer.Parentheses inner) place written = IsSigned place 0 (IsEnclosed tokens.Open (part inner 0)) written
written_step X node part (layer.Negation count operand) place written = (place ≤ 4) × (0 < count) × IsSigned place count (part operand 5) written
written_step X node part (layer.Chain operands ops) place written = IsChainAt place (map part operands) ops written

-- a tree is written with these tokens at a place of the grammar
abbrev pub IsWritten : Node → Written
IsWritten = rec-Node Written written_step

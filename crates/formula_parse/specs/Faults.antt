-- Formulas within the limits, and why a text is none.
use Rattle.std.specs.Prelude.{◌≡◌, ◌⊎◌, ℕ, ◌<◌, ◌≤◌, Bool, true, false, List, [], ◌∷◌, ◌++◌, length, drop, take}
use Rattle.std.specs.List.{list_any, count_by}
use Rattle.std.specs.Str.{is_utf8, chars}
use Rattle.formula_parse.specs.declared.limits.TheConstants.{LONGEST_FORMULA, MOST_CALLS, MOST_OPEN}
use Rattle.formula_parse.specs.declared.nodes.Node.{Node}
use Rattle.formula_parse.specs.declared.tokens.Token.{Token}
use Rattle.formula_parse.specs.declared.tokens.Token.TheVariants as tokens
use Rattle.formula_parse.specs.Grammar.{IsWritten}
use Rattle.formula_parse.specs.Tokens.{is_wide_area, is_large_number, IsSpelled}

-- `=` and these tokens, which write the tree, without limits on length, depth, areas and numbers
pub record IsUnlimitedFormula (text : List ℕ) (written : List Token) (tree : Node) : Type 0 where
  pub rest : List ℕ
  pub begins : text ≡ 61 ∷ rest
  pub spelled : IsSpelled rest written
  pub formed : IsWritten tree 0 written

-- what tokens leave open, the innermost first: a call is true, a parenthesis false
abbrev pub open_behind : List Bool → List Token → List Bool
open_behind outer [] = outer
open_behind outer (tokens.Call callee ∷ written) = open_behind (true ∷ outer) written
open_behind outer (tokens.Open ∷ written) = open_behind (false ∷ outer) written
open_behind outer (tokens.Close ∷ written) = open_behind (drop 1 outer) written
open_behind outer (other ∷ written) = open_behind outer written

-- tokens leave more than 64 calls open, or more than 128 calls and parentheses together
abbrev pub IsOverOpen : List Token → Type 0
IsOverOpen written = (MOST_CALLS < count_by (λ is_call. is_call) (open_behind [] written)) ⊎ (MOST_OPEN < length (open_behind [] written))

-- a formula begins with the first bytes of the text, and its tokens up to there leave too much open
pub record IsTooDeep (text : List ℕ) : Type 0 where
  pub point : ℕ
  pub within : point ≤ length text
  pub rest : List ℕ
  pub front : List Token
  pub back : List Token
  pub tree : Node
  pub formula : IsUnlimitedFormula (take point text ++ rest) (front ++ back) tree
  pub up_to : IsSpelled (drop 1 (take point text)) front
  pub over : IsOverOpen front

-- some formula, without those limits, begins with these bytes
abbrev pub IsViable : List ℕ → Type 0
IsViable prefix = (rest : List ℕ) × (written : List Token) × (tree : Node) × IsUnlimitedFormula (prefix ++ rest) written tree

-- the longest viable prefix of a text, with which some formula begins, has this length
pub record IsSyntaxPlace (text : List ℕ) (place : ℕ) : Type 0 where
  pub within : place ≤ length text
  pub viable : IsViable (take place text)
  pub longest : (n : ℕ) → n ≤ length text → IsViable (take n text) → n ≤ place

-- a text is UTF-8 of at most 8,192 characters
abbrev pub IsShort : List ℕ → Type 0
IsShort text = (is_utf8 text ≡ true) × (length (chars text) ≤ LONGEST_FORMULA)

-- a text within the limits of length and depth
abbrev pub IsShallow : List ℕ → Type 0
IsShallow text = IsShort text × ¬ IsTooDeep text

-- the text is a formula of this tree
pub record IsFormula (text : List ℕ) (tree : Node) : Type 0 where
  pub shallow : IsShallow text
  pub written : List Token
  pub formula : IsUnlimitedFormula text written tree
  pub narrow : list_any is_wide_area written ≡ false
  pub small : list_any is_large_number written ≡ false

-- the text is no formula, whatever the limits, and some formula begins with its bytes up to this place
pub record IsSyntaxFault (text : List ℕ) (place : ℕ) : Type 0 where
  pub shallow : IsShallow text
  pub none : (written : List Token) (tree : Node) → ¬ IsUnlimitedFormula text written tree
  pub up_to : IsSyntaxPlace text place

-- the text is a formula but for its areas and numbers, and an area has over 65,536 cells
pub record IsRangeFault (text : List ℕ) : Type 0 where
  pub shallow : IsShallow text
  pub written : List Token
  pub tree : Node
  pub formula : IsUnlimitedFormula text written tree
  pub wide : list_any is_wide_area written ≡ true

-- the text is a formula but for a number over the limit
pub record IsNumberFault (text : List ℕ) : Type 0 where
  pub shallow : IsShallow text
  pub written : List Token
  pub tree : Node
  pub formula : IsUnlimitedFormula text written tree
  pub narrow : list_any is_wide_area written ≡ false
  pub large : list_any is_large_number written ≡ true

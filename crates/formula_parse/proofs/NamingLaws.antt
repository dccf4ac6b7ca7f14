-- What a formula names and calls, over its tokens.
use Rattle.std.proofs.Common.{◌≡◌, ℕ, ◌+◌, ◌-◌, ◌*◌, ◌≤◌, false, List, [], ◌∷◌, length, min, max, unwrap_or, Option, Some, None, All, refl, sym, ap, ◌∙◌, arith, subst}
use Rattle.std.specs.List.{flat_map}
use Rattle.std.proofs.lemmas.Bool.Decides.{nat_tests}
use Rattle.std.proofs.lemmas.List.Elements.{All-nil, All-cons}
use Rattle.cell_refs.specs.Area.{IsArea, area_of, size_of}
use Rattle.cell_refs.specs.RefText.{IsReference}
use Rattle.cell_refs.specs.declared.areas.Area.{Area}
use Rattle.cell_refs.specs.declared.references.RefText.{RefText}
use Rattle.formula_parse.specs.declared.callees.Callee.{Callee}
use Rattle.formula_parse.specs.declared.nodes.Node.{Node}
use Rattle.formula_parse.specs.declared.tokens.Token.{Token}
use Rattle.formula_parse.specs.declared.tokens.Token.TheVariants as tokens
use Rattle.formula_parse.specs.Faults.{IsFormula}
use Rattle.formula_parse.specs.Tokens.{is_wide_area}
use Rattle.formula_parse.specs.Tree.{IsTree, areas_named, areas_step, calls_of, calls_step, site_count}
use Rattle.formula_parse.proofs.NamingCollected.{GivesNothing, Follows, collected}
use Rattle.formula_parse.proofs.NamingTokens.{Each, each_fails, each_spelled, StandsInside, written_inside, tokens_are_few, short_text}
use Rattle.formula_parse.proofs.SiteLaws.{sites_are_calls}
use Rattle.formula_parse.proofs.NodeLaws.{fold_number, fold_text, fold_error, fold_boolean, fold_reference, fold_area, fold_call, fold_parentheses, fold_negation, fold_chain}

-- ---- areas
-- the areas of a token
abbrev token_areas : ℕ → Token → List Area
token_areas home (tokens.Reference r) = area_of r r home ∷ []
token_areas home (tokens.Area a b) = area_of a b home ∷ []
token_areas home other = []

-- the areas of a tree are collected over its parts
areas_follow : (home : ℕ) → Follows Area (token_areas home) (λ tree. areas_named tree home)
areas_follow home = record {
  number = fold_number (List Area) (areas_step home);
  text = fold_text (List Area) (areas_step home);
  error = fold_error (List Area) (areas_step home);
  boolean = fold_boolean (List Area) (areas_step home);
  reference = fold_reference (List Area) (areas_step home);
  area = fold_area (List Area) (areas_step home);
  call = fold_call (List Area) (areas_step home);
  parentheses = fold_parentheses (List Area) (areas_step home);
  negation = fold_negation (List Area) (areas_step home);
  chain = fold_chain (List Area) (areas_step home);
}

-- other tokens have no areas
areas_of_none : (home : ℕ) → GivesNothing Area (token_areas home)
areas_of_none home = record { opening = refl; close = refl; comma = refl; operator = λ op. refl }

-- the area of a single reference is one cell
one_cell : (r : RefText) (home : ℕ) → size_of (area_of r r home) ≤ 65536
one_cell r home =
    let rows : max r.row r.row + 1 - min r.row r.row ≡ 1 = omega arith in
    let columns : max r.col r.col + 1 - min r.col r.col ≡ 1 = omega arith in
    let size : size_of (area_of r r home) ≡ 1 * 1 = ap (λ n. n * (max r.col r.col + 1 - min r.col r.col)) rows ∙ ap (λ n. 1 * n) columns in
    omega arith

-- an area that isn't wide has few cells, on whichever sheet
narrow_area : (a b : RefText) (home : ℕ) → is_wide_area (tokens.Area a b) ≡ false → size_of (area_of a b home) ≤ 65536
narrow_area a b home h = grind (arith, nat_tests)

-- the areas of tokens that aren't wide have few cells
pub areas_small : (home : ℕ) (written : List Token) → Each (λ token. is_wide_area token ≡ false) written → All (λ area. size_of area ≤ 65536) (flat_map (token_areas home) written)
areas_small home [] e = All-nil (λ area. size_of area ≤ 65536)
areas_small home (tokens.Reference r ∷ written) e = All-cons (λ area. size_of area ≤ 65536) (area_of r r home) (flat_map (token_areas home) written) (one_cell r home) (areas_small home written e.1)
areas_small home (tokens.Area a b ∷ written) e = All-cons (λ area. size_of area ≤ 65536) (area_of a b home) (flat_map (token_areas home) written) (narrow_area a b home e.0) (areas_small home written e.1)
areas_small home (other ∷ written) e = areas_small home written e.1

-- a sheet that is written in a reference, or the formula's own, is one of the 64
sheet_inside : (sheet : Option ℕ) (home : ℕ) → (1 ≤ unwrap_or sheet 1) × (unwrap_or sheet 1 ≤ 64) → 1 ≤ home → home ≤ 64 → (1 ≤ unwrap_or sheet home) × (unwrap_or sheet home ≤ 64)
sheet_inside None home h low high = (low, high)
sheet_inside (Some sheet) home h low high = h

-- the area between two references inside the grid
area_inside : (a b : RefText) (home : ℕ) → 1 ≤ home → home ≤ 64 → IsReference a → IsReference b → IsArea (area_of a b home)
area_inside a b home low high f g = record {
  first = record { sheet = sheet_inside a.sheet home f.sheet low high; row = (omega (arith, f.row, g.row), omega (arith, f.row, g.row)); col = (omega (arith, f.col, g.col), omega (arith, f.col, g.col)) };
  last = record { sheet = sheet_inside a.sheet home f.sheet low high; row = (omega (arith, f.row, g.row), omega (arith, f.row, g.row)); col = (omega (arith, f.col, g.col), omega (arith, f.col, g.col)) };
  rows = omega arith;
  columns = omega arith;
}

-- the areas of tokens whose references stand inside the grid
pub areas_inside : (home : ℕ) (written : List Token) → 1 ≤ home → home ≤ 64 → Each StandsInside written → All IsArea (flat_map (token_areas home) written)
areas_inside home [] low high e = All-nil IsArea
areas_inside home (tokens.Reference r ∷ written) low high e = All-cons IsArea (area_of r r home) (flat_map (token_areas home) written) (area_inside r r home low high e.0 e.0) (areas_inside home written low high e.1)
areas_inside home (tokens.Area a b ∷ written) low high e = All-cons IsArea (area_of a b home) (flat_map (token_areas home) written) (area_inside a b home low high e.0.0 e.0.1) (areas_inside home written low high e.1)
areas_inside home (other ∷ written) low high e = areas_inside home written low high e.1

-- the areas of a tree are those of its tokens
areas_of_tokens : (text : List ℕ) (tree : Node) (home : ℕ) → (f : IsFormula text tree) → areas_named tree home ≡ flat_map (token_areas home) f.written
areas_of_tokens text tree home f = collected Area (token_areas home) (λ tree. areas_named tree home) (areas_of_none home) (areas_follow home) tree 0 f.written f.formula.formed

-- the areas of a tree have few cells
pub named_small : (tree : Node) (home : ℕ) → IsTree tree → All (λ area. size_of area ≤ 65536) (areas_named tree home)
named_small tree home t = subst (All (λ area. size_of area ≤ 65536)) (sym (areas_of_tokens t.0 tree home t.1)) (areas_small home t.1.written (each_fails is_wide_area t.1.written t.1.narrow))

-- the areas of a tree lie in the grid
pub named_inside : (tree : Node) (home : ℕ) → IsTree tree → 1 ≤ home → home ≤ 64 → All IsArea (areas_named tree home)
named_inside tree home t low high =
    subst (All IsArea) (sym (areas_of_tokens t.0 tree home t.1)) (areas_inside home t.1.written low high (each_spelled StandsInside written_inside t.1.formula.rest t.1.written t.1.formula.spelled))

-- ---- calls
-- the callee of a token
abbrev token_calls : Token → List Callee
token_calls (tokens.Call callee) = callee ∷ []
token_calls other = []

-- the calls of a tree are collected over its parts
calls_follow : Follows Callee token_calls calls_of
calls_follow = record {
  number = fold_number (List Callee) calls_step;
  text = fold_text (List Callee) calls_step;
  error = fold_error (List Callee) calls_step;
  boolean = fold_boolean (List Callee) calls_step;
  reference = fold_reference (List Callee) calls_step;
  area = fold_area (List Callee) calls_step;
  call = fold_call (List Callee) calls_step;
  parentheses = fold_parentheses (List Callee) calls_step;
  negation = fold_negation (List Callee) calls_step;
  chain = fold_chain (List Callee) calls_step;
}

-- other tokens have no calls
calls_of_none : GivesNothing Callee token_calls
calls_of_none = record { opening = refl; close = refl; comma = refl; operator = λ op. refl }

-- there are no more calls than tokens
calls_are_few : (written : List Token) → length (flat_map token_calls written) ≤ length written
calls_are_few [] = omega arith
calls_are_few (tokens.Call callee ∷ written) = omega (arith, calls_are_few written)
calls_are_few (other ∷ written) = omega (arith, calls_are_few written)

-- a formula has fewer than 65,536 calls of added functions
pub sites_fit : (tree : Node) → IsTree tree → site_count tree ≤ 65535
sites_fit tree t =
    let f = t.1 in
    let same = collected Callee token_calls calls_of calls_of_none calls_follow tree 0 f.written f.formula.formed in
    omega (arith, sites_are_calls (calls_of tree), ap length same, calls_are_few f.written, tokens_are_few f.formula.rest f.written f.formula.spelled, ap length f.formula.begins, short_text t.0 f.shallow.0)

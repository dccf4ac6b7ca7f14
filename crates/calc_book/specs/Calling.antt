-- For the crate's own functions: which cells have a call that passes a test.
use Rattle.std.specs.Prelude.{ℕ, Bool, false, List}
use Rattle.std.specs.List.{list_any}
use Rattle.std.specs.Str.{bytes_eq}
use Rattle.cell_refs.specs.declared.grid.Cell.{Cell}
use Rattle.formula_parse.specs.declared.callees.Callee.{Callee}
use Rattle.formula_parse.specs.declared.callees.Callee.TheVariants as callees
use Rattle.formula_parse.specs.Tree.{calls_of}
use Rattle.workbook.specs.declared.contents.Content.{Content}
use Rattle.workbook.specs.Book.{by_content, content_at}

-- whether a cell has a formula with a call that passes a test
abbrev pub has_call_where : List (Cell × Content) → (Callee → Bool) → Cell → Bool
has_call_where book test cell = by_content (λ v. false) (λ tree. list_any test (calls_of tree)) (content_at book cell)

-- whether a callee is the added function of this name
abbrev pub is_added_named : List ℕ → Callee → Bool
is_added_named name (callees.BuiltIn f) = false
is_added_named name callees.Rtd = false
is_added_named name (callees.Added added) = bytes_eq name added

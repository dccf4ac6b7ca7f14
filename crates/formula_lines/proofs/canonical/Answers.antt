use Rattle.std.proofs.Common.{◌≡◌, ℕ, Bool, true, false, cond, List, ◌++◌, Option, Some, None, refl, ap, sym, ◌∙◌, subst}
use Rattle.std.proofs.lemmas.Str.{IsUtf8-from_is_utf8}
use Rattle.std.specs.Result.{result_ok}
use Rattle.std.specs.Str.{is_utf8, IsUtf8}
use Rattle.formula_parse.specs.declared.nodes.Node.{Node}
use Rattle.formula_parse.specs.Parsing.{formula_of, parse_result}
use Rattle.formula_parse.specs.Printing.{canonical_text}
use Rattle.formula_lines.proofs.canonical.Goals as goal

-- a text that is a formula is UTF-8
formula_is_utf8 : (text : List ℕ) (tree : Node) → formula_of text ≡ Some tree → IsUtf8 text
unfolding formula_of
formula_is_utf8 text tree h = IsUtf8-from_is_utf8 text (by_test (is_utf8 text) (result_ok (parse_result text)) h)
  where
    by_test : (b : Bool) (x : Option Node) → cond b x None ≡ Some tree → b ≡ true
    by_test true x h = refl
    by_test false x h = absurd (cc)

pub unreachable-requires : goal.unreachable-requires
unreachable-requires c =
    let text : c.print.new.out.items ≡ canonical_text c.args.tree.now = c.in_ok-print.ensures.ok ∙ ap (λ xs. xs ++ canonical_text c.args.tree.now) c.new-out.ensures.items in
    let never : false ≡ true = c.in-Err.ensures.succeeds (subst IsUtf8 (sym text) (formula_is_utf8 (canonical_text c.args.tree.now) c.args.tree.now c.in_ok-print.ensures.again)) in
    absurd (cc)

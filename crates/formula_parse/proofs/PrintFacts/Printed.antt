-- What is printed of a formula's tree is a formula of that tree.
use Rattle.std.proofs.Common.{◌≡◌, ℕ, Bool, true, false, ◌||◌, List, [], ◌∷◌, refl, sym, ap, ◌∙◌, subst, append-nil}
use Rattle.std.specs.List.{flat_map, list_any}
use Rattle.formula_parse.specs.declared.nodes.Node.{Node}
use Rattle.formula_parse.specs.declared.tokens.Token.{Token}
use Rattle.formula_parse.specs.Faults.{IsFormula, IsTooDeep}
use Rattle.formula_parse.specs.Printing.{canonical_text, token_text, tokens_of}
use Rattle.formula_parse.specs.Tokens.{is_wide_area, is_large_number}
use Rattle.formula_parse.proofs.NamingTokens.{Each, each_fails, each_spelled}
use Rattle.formula_parse.proofs.PrintFacts.PrintedDepth.{printed_shallow}
use Rattle.formula_parse.proofs.PrintFacts.PrintedFlow.{flows, tree_flows}
use Rattle.formula_parse.proofs.PrintFacts.PrintedPieces.{canonical}
use Rattle.formula_parse.proofs.PrintFacts.PrintedShort.{printed_short}
use Rattle.formula_parse.proofs.PrintFacts.PrintedSpelled.{IsCanonical, canonical_spelled}
use Rattle.formula_parse.proofs.PrintFacts.PrintedThinned.{tree_thins, thinned_each}
use Rattle.formula_parse.proofs.PrintFacts.PrintedWritten.{tree_writes}

-- a test that each token fails
none_passes : (test : Token → Bool) (written : List Token) → Each (λ token. test token ≡ false) written → list_any test written ≡ false
none_passes test [] e = refl
none_passes test (token ∷ written) e = ap (λ b. b || list_any test written) e.0 ∙ none_passes test written e.1

-- what is printed of a formula's tree is a formula of that tree
pub printed_reads_back : (text : List ℕ) (tree : Node) → IsFormula text tree → IsFormula (canonical_text tree) tree
unfolding canonical_text
printed_reads_back text tree f =
    let ts = f.written in
    let us = tokens_of tree in
    let u = f.formula in
    let thin = tree_thins tree 0 ts u.formed in
    let written = tree_writes tree 0 ts u.formed in
    let own = thinned_each IsCanonical us ts thin (each_spelled IsCanonical canonical u.rest ts u.spelled) in
    let flow : flows false us ≡ true = ap (flows false) (sym (append-nil us)) ∙ tree_flows tree 0 us written [] in
    record {
      shallow = (printed_short text u.rest us ts u.begins f.shallow.0 u.spelled thin, λ d. f.shallow.1 (subst IsTooDeep (sym u.begins) (printed_shallow u.rest us ts tree flow own thin u.spelled u.formed d)));
      written = us;
      formula = record {
        rest = flat_map token_text us;
        begins = refl;
        spelled = canonical_spelled false us flow own;
        formed = written;
      };
      narrow = none_passes is_wide_area us (thinned_each (λ token. is_wide_area token ≡ false) us ts thin (each_fails is_wide_area ts f.narrow));
      small = none_passes is_large_number us (thinned_each (λ token. is_large_number token ≡ false) us ts thin (each_fails is_large_number ts f.small));
    }

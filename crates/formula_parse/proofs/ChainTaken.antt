-- A tree is taken wherever it is written.
use Rattle.std.proofs.Common.{◌≡◌, ℕ, suc, ◌<◌, ◌≤◌, true, false, List, [], ◌∷◌, ◌++◌, map, length, Some, refl, sym, ap, ◌∙◌, subst, arith, All, lt-ltb}
use Rattle.std.specs.Prelude.{◌==◌, nat_lt}
use Rattle.std.proofs.lemmas.Bool.{cond-true, cond-false, le-ltb}
use Rattle.std.proofs.lemmas.Bool.Decides.{nat_tests}
use Rattle.std.proofs.lemmas.List.{append_assoc, append-nil}
use Rattle.std.proofs.lemmas.List.Elements.{All-head, All-tail}
use Rattle.formula_parse.specs.declared.nodes.Node.{Node}
use Rattle.formula_parse.specs.declared.nodes.Node.TheVariants as nodes
use Rattle.formula_parse.specs.declared.operators.Operator.{Operator}
use Rattle.formula_parse.specs.declared.reader.Frame.{Frame}
use Rattle.formula_parse.specs.declared.reader.OpenChain.{OpenChain}
use Rattle.formula_parse.specs.declared.reader.Phase.TheVariants as phases
use Rattle.formula_parse.specs.declared.tokens.Token.{Token}
use Rattle.formula_parse.specs.declared.tokens.Token.TheVariants as tokens
use Rattle.formula_parse.specs.Grammar.{place_of, IsSigned, IsEnclosed, AreArguments, IsChain, IsChainAt, IsWritten}
use Rattle.formula_parse.specs.ReaderMachine.{place_of_chain, chain_node, operand_in_chains, tree_of_chains, chains_with, chains_behind}
use Rattle.formula_parse.proofs.Machine.{ran}
use Rattle.formula_parse.proofs.NodeLaws.{node_induction, number_is_written, text_is_written, error_is_written, boolean_is_written, reference_is_written, area_is_written, call_is_written, parentheses_is_written, negation_is_written, chain_is_written}
use Rattle.formula_parse.proofs.ChainLinks.{IsLooser, place_of_more, has_more}
use Rattle.formula_parse.proofs.TurnGrammar.{written_to, place_is_low, negated_some, no_chain_alone}
use Rattle.formula_parse.proofs.TurnRuns.{ran_behind}
use Rattle.formula_parse.proofs.TurnTaken.{with_chains, IsTaken, IsTakenAt, AreTaken, signed_run, operand_taken, token_taken, parentheses_run, call_run}

-- ---- an operator behind an operand
-- a number is itself
same_number : (a b : ℕ) → a ≡ b → a == b ≡ true
same_number a b e = grind (arith, nat_tests)

-- a lesser number is another
other_number : (a b : ℕ) → a < b → a == b ≡ false
other_number a b low = grind (arith, nat_tests)

-- no chain is closed round an operand at a place that is no looser
bound_none : (place : ℕ) (operand : Node) (chains : List OpenChain) → IsLooser (suc place) chains → operand_in_chains place operand chains ≡ (operand, chains)
bound_none place operand [] looser = refl
bound_none place operand (chain ∷ chains) looser = cond-false (nat_lt place (place_of_chain chain)) _ _ (le-ltb place (place_of_chain chain) (omega arith))

-- a chain is closed round an operand at a looser place
bound_once : (place : ℕ) (operand : Node) (chain : OpenChain) (chains : List OpenChain) → place < place_of_chain chain → operand_in_chains place operand (chain ∷ chains) ≡ operand_in_chains place (chain_node chain operand) chains
bound_once place operand chain chains low = cond-true (nat_lt place (place_of_chain chain)) _ _ (lt-ltb place (place_of_chain chain) low)

-- looser than a place is looser than a tighter one
looser_than_more : (low place : ℕ) (chains : List OpenChain) → low ≤ place → IsLooser low chains → IsLooser place chains
looser_than_more low place [] le looser = tt
looser_than_more low place (chain ∷ chains) le looser = omega arith

-- an operator that is tighter than all chains begins one
chained_new : (op : Operator) (operand : Node) (chains : List OpenChain) → IsLooser (place_of op) chains → chains_with op (operand, chains) ≡ (record { operands = operand ∷ []; operators = op ∷ [] }) ∷ chains
chained_new op operand [] looser = refl
chained_new op operand (chain ∷ chains) looser = cond-false (place_of_chain chain == place_of op) _ _ (other_number (place_of_chain chain) (place_of op) looser)

-- an operator goes on with a chain of its place
chained_same : (op : Operator) (operand : Node) (chain : OpenChain) (chains : List OpenChain) → place_of_chain chain ≡ place_of op → chains_with op (operand, chain ∷ chains) ≡ (record { operands = chain.operands ++ operand ∷ []; operators = chain.operators ++ op ∷ [] }) ∷ chains
chained_same op operand chain chains same = cond-true (place_of_chain chain == place_of op) _ _ (same_number (place_of_chain chain) (place_of op) same)

-- the turns over an operand, an operator and what follows
operator_run : (frame : Frame) (frames : List Frame) (chains next : List OpenChain) (front rest : List Token) (op : Operator) (tree : Node) (taken : IsTaken frame frames chains front (suc (place_of op)) tree chains) → chains_with op (operand_in_chains (place_of op) tree chains) ≡ next → ran (phases.Signs 0, with_chains frame frames chains) (front ++ tokens.Operator op ∷ rest) ≡ ran (phases.Signs 0, with_chains frame frames next) rest
operator_run frame frames chains next front rest op tree taken e =
    let same : chains_behind taken.operand op taken.left ≡ next = ap (chains_with op) (taken.bounds (place_of op) (omega arith)) ∙ e in
    ran_behind (phases.Signs 0, with_chains frame frames chains) (phases.After taken.operand, with_chains frame frames taken.left) front (tokens.Operator op ∷ rest) taken.runs ∙ ap (λ left. ran (phases.Signs 0, with_chains frame frames left) rest) same

-- ---- a chain
-- what is taken behind other turns that come to the same
taken_behind : (frame : Frame) (frames : List Frame) (chains next : List OpenChain) (written rest : List Token) (low place : ℕ) (tree whole : Node) (round : List OpenChain) → ran (phases.Signs 0, with_chains frame frames chains) written ≡ ran (phases.Signs 0, with_chains frame frames next) rest → low ≤ place → tree ≡ whole → IsTaken frame frames next rest place tree round → IsTaken frame frames chains written low whole round
taken_behind frame frames chains next written rest low place tree whole round e le same taken = record {
  operand = taken.operand;
  left = taken.left;
  runs = e ∙ taken.runs;
  bounds = λ q within. taken.bounds q (omega arith) ∙ ap (λ node. operand_in_chains q node round) same;
  ends = taken.ends ∙ ap (λ node. tree_of_chains node round) same;
}

-- a last operand, round which its chain is closed
last_taken : (frame : Frame) (frames : List Frame) (chain : OpenChain) (chains : List OpenChain) (written : List Token) (tree : Node) → IsTaken frame frames (chain ∷ chains) written (suc (place_of_chain chain)) tree (chain ∷ chains) → IsTaken frame frames (chain ∷ chains) written (place_of_chain chain) (chain_node chain tree) chains
last_taken frame frames chain chains written tree taken = record {
  operand = taken.operand;
  left = taken.left;
  runs = taken.runs;
  bounds = λ q within. taken.bounds q (omega arith) ∙ bound_once q tree chain chains within;
  ends = taken.ends;
}

-- the operands of a chain behind those that are read
chain_taken : (ys : List Node) (y : Node) (xs : List Node) (done ops : List Operator) (place : ℕ) (frame : Frame) (frames : List Frame) (chains : List OpenChain) (written : List Token) → All AreTaken (y ∷ ys) → place ≤ 3 → 0 < length done → place_of_chain (record { operands = xs; operators = done }) ≡ place → IsChain place (map IsWritten (y ∷ ys)) ops written → IsTaken frame frames (record { operands = xs; operators = done } ∷ chains) written place (nodes.Chain (xs ++ y ∷ ys) (done ++ ops)) chains
chain_taken [] y xs done [] place frame frames chains written each low some is w =
    let chain : OpenChain = record { operands = xs; operators = done } in
    let own = subst (λ p. IsWritten y (suc p) written) (sym is) w in
    let taken = All-head AreTaken y [] each in
    let last = taken.placed (suc (place_of_chain chain)) written (omega arith) own frame frames (chain ∷ chains) (omega arith) in
    taken_behind frame frames (chain ∷ chains) (chain ∷ chains) written written place (place_of_chain chain) (chain_node chain y) (nodes.Chain (xs ++ y ∷ []) (done ++ [])) chains refl (omega arith)
    (ap (nodes.Chain (xs ++ y ∷ [])) (sym (append-nil done)))
    (last_taken frame frames chain chains written y last)
chain_taken [] y xs done (op ∷ ops) place frame frames chains written each low some is w = absurd w
chain_taken (z ∷ zs) y xs done [] place frame frames chains written each low some is w = absurd w
chain_taken (z ∷ zs) y xs done (op ∷ ops) place frame frames chains written each low some is w =
    let chain : OpenChain = record { operands = xs; operators = done } in
    let more : OpenChain = record { operands = xs ++ y ∷ []; operators = done ++ op ∷ [] } in
    let within : place_of_chain chain < suc (place_of op) = omega (arith, is, w.4) in
    let own = subst (λ p. IsWritten y (suc p) w.0) (sym w.4) w.3 in
    let taken = All-head AreTaken y (z ∷ zs) each in
    let one = taken.placed (suc (place_of op)) w.0 (omega (arith, w.4)) own frame frames (chain ∷ chains) within in
    let joins = ap (chains_with op) (bound_none (place_of op) y (chain ∷ chains) within) ∙ chained_same op y chain chains (is ∙ sym w.4) in
    let run = ap (ran (phases.Signs 0, with_chains frame frames (chain ∷ chains))) w.2 ∙ operator_run frame frames (chain ∷ chains) (more ∷ chains) w.0 w.1 op y one joins in
    let stays = place_of_more xs (xs ++ y ∷ []) done (op ∷ []) some ∙ is in
    let rest = chain_taken zs z (xs ++ y ∷ []) (done ++ op ∷ []) ops place frame frames chains w.1 (All-tail AreTaken y (z ∷ zs) each) low (has_more done op) stays w.5 in
    taken_behind frame frames (chain ∷ chains) (more ∷ chains) written w.1 place place (nodes.Chain ((xs ++ y ∷ []) ++ z ∷ zs) ((done ++ op ∷ []) ++ ops)) (nodes.Chain (xs ++ y ∷ z ∷ zs) (done ++ op ∷ ops)) chains run (omega arith)
    (ap (λ operands. nodes.Chain operands ((done ++ op ∷ []) ++ ops)) (append_assoc xs (y ∷ []) (z ∷ zs)) ∙ ap (nodes.Chain (xs ++ y ∷ z ∷ zs)) (append_assoc done (op ∷ []) ops))
    rest

-- a whole chain
whole_chain_taken : (operands : List Node) (ops : List Operator) (place : ℕ) (written : List Token) → All AreTaken operands → IsChainAt place (map IsWritten operands) ops written → IsTakenAt (nodes.Chain operands ops) place written
whole_chain_taken operands [] place written each w frame frames chains looser = absurd w
whole_chain_taken [] (op ∷ ops) place written each w frame frames chains looser = absurd w.1
whole_chain_taken (x ∷ []) (op ∷ ops) place written each w frame frames chains looser = absurd w.1
whole_chain_taken (x ∷ y ∷ ys) (op ∷ ops) place written each w frame frames chains looser =
    let v = w.1 in
    let low = place_is_low op in
    let first : OpenChain = record { operands = x ∷ []; operators = op ∷ [] } in
    let within = looser_than_more place (suc (place_of op)) chains (omega (arith, w.0)) looser in
    let taken = All-head AreTaken x (y ∷ ys) each in
    let one = taken.placed (suc (place_of op)) v.0 (omega arith) v.3 frame frames chains within in
    let joins = ap (chains_with op) (bound_none (place_of op) x chains within) ∙ chained_new op x chains (looser_than_more place (place_of op) chains w.0 looser) in
    let run = ap (ran (phases.Signs 0, with_chains frame frames chains)) v.2 ∙ operator_run frame frames chains (first ∷ chains) v.0 v.1 op x one joins in
    let rest = chain_taken ys y (x ∷ []) (op ∷ []) ops (place_of op) frame frames chains v.1 (All-tail AreTaken x (y ∷ ys) each) low (omega arith) refl v.5 in
    taken_behind frame frames chains (first ∷ chains) written v.1 place (place_of op) (nodes.Chain (x ∷ y ∷ ys) (op ∷ ops)) (nodes.Chain (x ∷ y ∷ ys) (op ∷ ops)) chains run w.0 refl rest

-- ---- a negation
-- an operand behind signs of which some are `-`
negation_taken : (count : ℕ) (tree : Node) (place : ℕ) (written : List Token) → AreTaken tree → 0 < count → IsSigned place count (IsWritten tree 5) written → IsTakenAt (nodes.Negation count tree) place written
negation_taken count tree place written taken some w frame frames chains looser = record {
  operand = nodes.Negation count tree;
  left = chains;
  runs = signed_run place count (IsWritten tree 5) tree written (with_chains frame frames chains) taken.alone w ∙ ap (λ node. Some (phases.After node, with_chains frame frames chains)) (negated_some count tree some);
  bounds = λ q within. refl;
  ends = refl;
}

-- ---- each tree
-- what is known of an operand beside its tokens
few_signed : (place : ℕ) (Few : Type 0) (Operand : List Token → Type 0) (written : List Token) → Few × IsSigned place 0 Operand written → IsSigned place 0 (λ own. Few × Operand own) written
few_signed place Few Operand written w = record {
  signs = w.1.signs;
  operand = w.1.operand;
  both = w.1.both;
  room = w.1.room;
  counted = w.1.counted;
  own = (w.0, w.1.own);
}

-- all that any tree is written with is taken
pub tree_taken : (tree : Node) → AreTaken tree
tree_taken = node_induction AreTaken
    (λ n. token_taken (nodes.Number n) (tokens.Number n) (λ place written w. written_to (number_is_written n) place written w) (λ minuses frames. refl))
    (λ t. token_taken (nodes.Text t) (tokens.Text t) (λ place written w. written_to (text_is_written t) place written w) (λ minuses frames. refl))
    (λ e. token_taken (nodes.Error e) (tokens.Error e) (λ place written w. written_to (error_is_written e) place written w) (λ minuses frames. refl))
    (λ b. token_taken (nodes.Boolean b) (tokens.Boolean b) (λ place written w. written_to (boolean_is_written b) place written w) (λ minuses frames. refl))
    (λ r. token_taken (nodes.Reference r) (tokens.Reference r) (λ place written w. written_to (reference_is_written r) place written w) (λ minuses frames. refl))
    (λ a b. token_taken (nodes.Area a b) (tokens.Area a b) (λ place written w. written_to (area_is_written a b) place written w) (λ minuses frames. refl))
    (λ callee arguments each. operand_taken (nodes.Call callee arguments) (λ own. (length arguments ≤ 255) × IsEnclosed (tokens.Call callee) (AreArguments (map IsWritten arguments)) own)
    (λ place written w. few_signed place (length arguments ≤ 255) (IsEnclosed (tokens.Call callee) (AreArguments (map IsWritten arguments))) written (written_to (call_is_written callee arguments) place written w))
    (λ own w. call_run callee arguments own each w))
    (λ inner taken. operand_taken (nodes.Parentheses inner) (IsEnclosed tokens.Open (IsWritten inner 0)) (λ place written w. written_to (parentheses_is_written inner) place written w) (λ own w. parentheses_run inner own taken w))
    (λ count operand taken. record {
      alone = λ written w. absurd (omega (arith, (written_to (negation_is_written count operand) 5 written w).0));
      placed = λ place written low w. let u = written_to (negation_is_written count operand) place written w in negation_taken count operand place written taken u.1 u.2;
    })
    (λ operands ops each. record {
      alone = λ written w. absurd (no_chain_alone 5 _ ops written (omega arith) (written_to (chain_is_written operands ops) 5 written w));
      placed = λ place written low w. whole_chain_taken operands ops place written each (written_to (chain_is_written operands ops) place written w);
    })

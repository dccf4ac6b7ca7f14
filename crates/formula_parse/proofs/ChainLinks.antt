-- Open chains stand for the tokens that were read for them.
use Rattle.std.proofs.Common.{◌≡◌, ℕ, suc, ◌<◌, Bool, true, false, List, [], ◌∷◌, ◌++◌, map, length, refl, sym, ap, ◌∙◌, subst, arith, ltb-true, eqb-true}
use Rattle.std.specs.Prelude.{◌==◌, nat_lt, if◌then◌else◌}
use Rattle.std.proofs.lemmas.Bool.{ltb-false}
use Rattle.std.proofs.lemmas.Bool.Decides.{nat_tests}
use Rattle.std.proofs.lemmas.List.{append_assoc}
use Rattle.formula_parse.specs.declared.nodes.Node.{Node}
use Rattle.formula_parse.specs.declared.nodes.Node.TheVariants as nodes
use Rattle.formula_parse.specs.declared.operators.Operator.{Operator}
use Rattle.formula_parse.specs.declared.reader.OpenChain.{OpenChain}
use Rattle.formula_parse.specs.declared.tokens.Token.{Token}
use Rattle.formula_parse.specs.declared.tokens.Token.TheVariants as tokens
use Rattle.formula_parse.specs.Grammar.{place_of, Written, IsChain, IsWritten}
use Rattle.formula_parse.specs.ReaderMachine.{place_of_chain, chain_node, operand_in_chains, tree_of_chains, chains_with}
use Rattle.formula_parse.proofs.NodeLaws.{chain_is_written}
use Rattle.formula_parse.proofs.TurnGrammar.{written_from, written_below, place_is_low}

-- ---- one chain
-- operands, each with an operator of this place behind it
abbrev pub AreLinks : ℕ → List Node → List Operator → List Token → Type 0
AreLinks place [] [] written = written ≡ []
AreLinks place [] (op ∷ ops) written = ⊥
AreLinks place (x ∷ xs) [] written = ⊥
AreLinks place (x ∷ xs) (op ∷ ops) written = (operand rest : List Token) × (written ≡ operand ++ tokens.Operator op ∷ rest) × IsWritten x (suc place) operand × (place_of op ≡ place) × AreLinks place xs ops rest

-- the tokens of a chain's first operand, its operator, and what follows
behind_link : (operand : List Token) (token : Token) (rest back written : List Token) → written ≡ operand ++ token ∷ rest → written ++ back ≡ operand ++ token ∷ (rest ++ back)
behind_link operand token rest back written e = ap (λ w. w ++ back) e ∙ append_assoc operand (token ∷ rest) back

-- one more operand and operator
links_more : (place : ℕ) (xs : List Node) (ops : List Operator) (written : List Token) (x : Node) (op : Operator) (own : List Token) → AreLinks place xs ops written → IsWritten x (suc place) own → place_of op ≡ place → AreLinks place (xs ++ x ∷ []) (ops ++ op ∷ []) (written ++ (own ++ tokens.Operator op ∷ []))
links_more place [] [] written x op own h w p = (own, [], ap (λ v. v ++ (own ++ tokens.Operator op ∷ [])) h, w, p, refl)
links_more place [] (o ∷ ops) written x op own h w p = absurd h
links_more place (y ∷ xs) [] written x op own h w p = absurd h
links_more place (y ∷ xs) (o ∷ ops) written x op own h w p = (h.0, h.1 ++ (own ++ tokens.Operator op ∷ []), behind_link h.0 (tokens.Operator o) h.1 (own ++ tokens.Operator op ∷ []) written h.2, h.3, h.4, links_more place xs ops h.1 x op own h.5 w p)

-- one operand more in front of a chain
chain_more : (place : ℕ) (X : Written) (Xs : List Written) (op : Operator) (ops : List Operator) (operand rest written : List Token) → written ≡ operand ++ tokens.Operator op ∷ rest → X (suc place) operand → place_of op ≡ place → IsChain place Xs ops rest → IsChain place (X ∷ Xs) (op ∷ ops) written
chain_more place X [] op ops operand rest written e w p h = absurd h
chain_more place X (Y ∷ Xs) op ops operand rest written e w p h = (operand, rest, e, w, p, h)

-- a last operand makes a whole chain
links_whole : (place : ℕ) (xs : List Node) (ops : List Operator) (written : List Token) (last : Node) (own : List Token) → AreLinks place xs ops written → IsWritten last (suc place) own → IsChain place (map IsWritten (xs ++ last ∷ [])) ops (written ++ own)
links_whole place [] [] written last own h w = subst (λ v. IsWritten last (suc place) (v ++ own)) (sym h) w
links_whole place [] (o ∷ ops) written last own h w = absurd h
links_whole place (y ∷ xs) [] written last own h w = absurd h
links_whole place (y ∷ xs) (o ∷ ops) written last own h w = chain_more place (IsWritten y) (map IsWritten (xs ++ last ∷ [])) o ops h.0 (h.1 ++ own) (written ++ own) (behind_link h.0 (tokens.Operator o) h.1 own written h.2) h.3 h.4 (links_whole place xs ops h.1 last own h.5 w)

-- a chain of one operator at least, with its last operand
closed_written : (xs : List Node) (ops : List Operator) (last : Node) (written own : List Token) → 0 < length ops → AreLinks (place_of_chain (record { operands = xs; operators = ops })) xs ops written → IsWritten last (suc (place_of_chain (record { operands = xs; operators = ops }))) own → IsWritten (nodes.Chain (xs ++ last ∷ []) ops) (place_of_chain (record { operands = xs; operators = ops })) (written ++ own)
closed_written xs [] last written own some h w = absurd (omega arith)
closed_written xs (op ∷ ops) last written own some h w = written_from (chain_is_written (xs ++ last ∷ []) (op ∷ ops)) (place_of op) (written ++ own) (omega arith, links_whole (place_of op) xs (op ∷ ops) written last own h w)

-- one more operator leaves a chain in its place
pub place_of_more : (xs ys : List Node) (ops more : List Operator) → 0 < length ops → place_of_chain (record { operands = ys; operators = ops ++ more }) ≡ place_of_chain (record { operands = xs; operators = ops })
place_of_more xs ys [] more some = absurd (omega arith)
place_of_more xs ys (op ∷ ops) more some = refl

-- ---- the chains of a frame
-- the tightest chain is looser than a place
abbrev pub IsLooser : ℕ → List OpenChain → Type 0
IsLooser place [] = Unit {0}
IsLooser place (chain ∷ chains) = place_of_chain chain < place

-- each chain is looser than a sign
pub chains_are_low : (chains : List OpenChain) → IsLooser 4 chains
chains_are_low [] = tt
chains_are_low (chain ∷ chains) = chain_is_low chain.operands chain.operators
  where
    chain_is_low : (xs : List Node) (ops : List Operator) → place_of_chain (record { operands = xs; operators = ops }) < 4
    chain_is_low xs [] = omega arith
    chain_is_low xs (op ∷ ops) = let low = place_is_low op in omega arith

-- the tokens of all chains, of which each is looser than the one in it
abbrev pub AreChains : List OpenChain → List Token → Type 0
AreChains [] written = written ≡ []
AreChains (chain ∷ chains) written = (outer own : List Token) × (written ≡ outer ++ own) × (0 < length chain.operators) × AreLinks (place_of_chain chain) chain.operands chain.operators own × IsLooser (place_of_chain chain) chains × AreChains chains outer

-- the tokens of the outer chains, of one chain and of its last operand
outer_first : (outer own last written : List Token) → written ≡ outer ++ own → outer ++ (own ++ last) ≡ written ++ last
outer_first outer own last written e = sym (append_assoc outer own last) ∙ ap (λ w. w ++ last) (sym e)

-- all chains closed round an operand
pub finished_written : (chains : List OpenChain) (operand : Node) (tight : ℕ) (written own : List Token) → AreChains chains written → IsLooser tight chains → IsWritten operand tight own → IsWritten (tree_of_chains operand chains) 0 (written ++ own)
finished_written [] operand tight written own h looser w = subst (λ v. IsWritten operand 0 (v ++ own)) (sym h) (written_below operand 0 tight own (omega arith) w)
finished_written (chain ∷ chains) operand tight written own h looser w =
    let last = written_below operand (suc (place_of_chain chain)) tight own (omega arith) w in
    let whole = closed_written chain.operands chain.operators operand h.1 own h.3 h.4 last in
    subst (IsWritten (tree_of_chains (chain_node chain operand) chains) 0) (outer_first h.0 h.1 own written h.2)
    (finished_written chains (chain_node chain operand) (place_of_chain chain) h.0 (h.1 ++ own) h.6 h.5 whole)

-- an operand and the chains round it, none of which is tighter than a place
abbrev IsBound : ℕ → Node × List OpenChain → List Token → Type 0
IsBound place result written = (outer own : List Token) × (written ≡ outer ++ own) × AreChains result.1 outer × IsLooser (suc place) result.1 × IsWritten result.0 (suc place) own

-- by whether the tightest chain is tighter than the place
bound_where : (is_tight : Bool) (place : ℕ) (chain : OpenChain) (chains : List OpenChain) (operand : Node) (tight : ℕ) (written own : List Token) → nat_lt place (place_of_chain chain) ≡ is_tight → place < tight → AreChains (chain ∷ chains) written → IsWritten operand tight own → (place < place_of_chain chain → IsBound place (operand_in_chains place (chain_node chain operand) chains) (written ++ own)) → IsBound place (if is_tight then operand_in_chains place (chain_node chain operand) chains else (operand, chain ∷ chains)) (written ++ own)
bound_where true place chain chains operand tight written own e within h w onward = onward (ltb-true place (place_of_chain chain) e)
bound_where false place chain chains operand tight written own e within h w onward =
    let low = ltb-false place (place_of_chain chain) e in
    (written, own, refl, h, omega arith, written_below operand (suc place) tight own (omega arith) w)

-- the chains closed round an operand that are tighter than a place
pub bound_written : (place : ℕ) (chains : List OpenChain) (operand : Node) (tight : ℕ) (written own : List Token) → place < tight → AreChains chains written → IsLooser tight chains → IsWritten operand tight own → IsBound place (operand_in_chains place operand chains) (written ++ own)
bound_written place [] operand tight written own within h looser w = (written, own, refl, h, tt, written_below operand (suc place) tight own (omega arith) w)
bound_written place (chain ∷ chains) operand tight written own within h looser w =
    bound_where (nat_lt place (place_of_chain chain)) place chain chains operand tight written own refl within h w (λ low.
    let last = written_below operand (suc (place_of_chain chain)) tight own (omega arith) w in
    let whole = closed_written chain.operands chain.operators operand h.1 own h.3 h.4 last in
    subst (IsBound place (operand_in_chains place (chain_node chain operand) chains)) (outer_first h.0 h.1 own written h.2)
    (bound_written place chains (chain_node chain operand) (place_of_chain chain) h.0 (h.1 ++ own) low h.6 h.5 whole))

-- ---- an operator behind an operand
-- a new chain, of one operand and operator
new_chain : (op : Operator) (operand : Node) (chains : List OpenChain) (outer own written : List Token) → written ≡ outer ++ own → AreChains chains outer → IsLooser (place_of op) chains → IsWritten operand (suc (place_of op)) own → AreChains (record { operands = operand ∷ []; operators = op ∷ [] } ∷ chains) (written ++ tokens.Operator op ∷ [])
new_chain op operand chains outer own written e h looser w = (outer, own ++ tokens.Operator op ∷ [], sym (outer_first outer own (tokens.Operator op ∷ []) written e), omega arith, (own, [], refl, w, refl, refl), looser, h)

-- one more makes some
pub has_more : (ops : List Operator) (op : Operator) → 0 < length (ops ++ op ∷ [])
has_more [] op = omega arith
has_more (o ∷ ops) op = omega arith

-- no tighter than a place, and another
below_other : (a b : ℕ) → a < suc b → a == b ≡ false → a < b
below_other a b low e = grind (arith, nat_tests)

-- by whether the tightest chain is of the operator's place
chained_where : (is_same : Bool) (op : Operator) (operand : Node) (chain : OpenChain) (chains : List OpenChain) (outer own written : List Token) → place_of_chain chain == place_of op ≡ is_same → written ≡ outer ++ own → AreChains (chain ∷ chains) outer → place_of_chain chain < suc (place_of op) → IsWritten operand (suc (place_of op)) own → AreChains (if is_same then (record { operands = chain.operands ++ operand ∷ []; operators = chain.operators ++ op ∷ [] }) ∷ chains else (record { operands = operand ∷ []; operators = op ∷ [] }) ∷ chain ∷ chains) (written ++ tokens.Operator op ∷ [])
chained_where true op operand chain chains outer own written e both h low w =
    let same : place_of_chain chain ≡ place_of op = eqb-true (place_of_chain chain) (place_of op) e in
    let stays : place_of_chain (record { operands = chain.operands ++ operand ∷ []; operators = chain.operators ++ op ∷ [] }) ≡ place_of_chain chain = place_of_more chain.operands (chain.operands ++ operand ∷ []) chain.operators (op ∷ []) h.3 in
    let last = subst (λ p. IsWritten operand (suc p) own) (sym same) w in
    let links = links_more (place_of_chain chain) chain.operands chain.operators h.1 operand op own h.4 last (sym same) in (
      h.0,
      h.1 ++ (own ++ tokens.Operator op ∷ []),
      sym (outer_first outer own (tokens.Operator op ∷ []) written both) ∙ sym (outer_first h.0 h.1 (own ++ tokens.Operator op ∷ []) outer h.2),
      has_more chain.operators op,
      subst (λ p. AreLinks p (chain.operands ++ operand ∷ []) (chain.operators ++ op ∷ []) (h.1 ++ (own ++ tokens.Operator op ∷ []))) (sym stays) links,
      subst (λ p. IsLooser p chains) (sym stays) h.5,
      h.6,
    )
chained_where false op operand chain chains outer own written e both h low w = new_chain op operand (chain ∷ chains) outer own written both h (below_other (place_of_chain chain) (place_of op) low e) w

-- an operand and the operator behind it
pub chained_written : (op : Operator) (result : Node × List OpenChain) (written : List Token) → IsBound (place_of op) result written → AreChains (chains_with op result) (written ++ tokens.Operator op ∷ [])
chained_written op result written h = chained_by op result.0 result.1 h.0 h.1 written h.2 h.3 h.4 h.5
  where
    chained_by : (op : Operator) (operand : Node) (chains : List OpenChain) (outer own written : List Token) → written ≡ outer ++ own → AreChains chains outer → IsLooser (suc (place_of op)) chains → IsWritten operand (suc (place_of op)) own → AreChains (chains_with op (operand, chains)) (written ++ tokens.Operator op ∷ [])
    chained_by op operand [] outer own written both h looser w = new_chain op operand [] outer own written both h tt w
    chained_by op operand (chain ∷ chains) outer own written both h looser w = chained_where (place_of_chain chain == place_of op) op operand chain chains outer own written refl both h looser w

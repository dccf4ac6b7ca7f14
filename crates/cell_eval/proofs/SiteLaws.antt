-- How many sites stand in the parts of a tree.
use Rattle.std.proofs.Common.{◌≡◌, ℕ, ◌+◌, Bool, true, false, cond, List, [], ◌∷◌, map, length, All, refl, sym, ap, ◌∙◌, arith, length-append}
use Rattle.std.proofs.lemmas.List.Elements.{All-head, All-tail}
use Rattle.cell_eval.specs.Steps.{sites_among}
use Rattle.formula_parse.proofs.PublicLaws.{fold_number, fold_text, fold_error, fold_boolean, fold_reference, fold_area, fold_call, fold_parentheses, fold_negation, fold_chain, node_induction, sites_of_number, sites_of_text, sites_of_error, sites_of_boolean, sites_of_reference, sites_of_area, sites_of_built_in, sites_of_rtd, sites_of_added, sites_of_parentheses, sites_of_negation, sites_of_chain}
use Rattle.formula_parse.specs.declared.callees.Callee.{Callee}
use Rattle.formula_parse.specs.declared.callees.Callee.TheVariants as callees
use Rattle.formula_parse.specs.declared.nodes.Node.{Node}
use Rattle.formula_parse.specs.declared.nodes.Node.TheVariants as nodes
use Rattle.formula_parse.specs.declared.operators.Operator.{Operator}
use Rattle.formula_parse.specs.Tree.{concat, site_count, sites_named}
use Rattle.workbook.specs.Evaluation.{World, Part, part_of, part_step, own_site, sites_in}

-- the sites of several parts are the sum of theirs
pub sites_chained : (ns : List Node) → length (concat (map sites_named ns)) ≡ sites_among ns
sites_chained [] = refl
sites_chained (n ∷ ns) = length-append (sites_named n) (concat (map sites_named ns)) ∙ ap (λ k. site_count n + k) (sites_chained ns)

-- the sites of a call
pub sites_call : (callee : Callee) (arguments : List Node) → site_count (nodes.Call callee arguments) ≡ own_site callee + sites_among arguments
sites_call (callees.BuiltIn f) arguments = let h = ap length (sites_of_built_in f arguments) ∙ sites_chained arguments in omega arith
sites_call callees.Rtd arguments = let h = ap length (sites_of_rtd arguments) ∙ sites_chained arguments in omega arith
sites_call (callees.Added name) arguments = let h = ap length (sites_of_added name arguments) in let k = sites_chained arguments in omega arith

-- the sites of a chain
pub sites_chain : (operands : List Node) (ops : List Operator) → site_count (nodes.Chain operands ops) ≡ sites_among operands
sites_chain operands ops = ap length (sites_of_chain operands ops) ∙ sites_chained operands

-- the sites in parentheses
pub sites_parentheses : (inner : Node) → site_count (nodes.Parentheses inner) ≡ site_count inner
sites_parentheses inner = ap length (sites_of_parentheses inner)

-- the sites behind signs
pub sites_negation : (count : ℕ) (operand : Node) → site_count (nodes.Negation count operand) ≡ site_count operand
sites_negation count operand = ap length (sites_of_negation count operand)

-- ---- in every world a part has as many sites
module _ (world : World) where
  -- a part has as many sites as it calls added functions
  abbrev CountsSites : Node → Type 0
  CountsSites node = (part_of world node).sites ≡ site_count node

  -- the sites of several parts
  counts_all : (ns : List Node) → All CountsSites ns → sites_in (map (part_of world) ns) ≡ sites_among ns
  counts_all [] h = refl
  counts_all (n ∷ ns) h =
      let first = All-head CountsSites n ns h in
      let others = counts_all ns (All-tail CountsSites n ns h) in
      cc

  counts_call : (callee : Callee) (arguments : List Node) → All CountsSites arguments → CountsSites (nodes.Call callee arguments)
  counts_call callee arguments h =
      ap (λ (part : Part). part.sites) (fold_call Part (part_step world) callee arguments)
      ∙ ap (λ k. own_site callee + k) (counts_all arguments h)
      ∙ sym (sites_call callee arguments)

  counts_chain : (operands : List Node) (ops : List Operator) → All CountsSites operands → CountsSites (nodes.Chain operands ops)
  counts_chain operands ops h =
      ap (λ (part : Part). part.sites) (fold_chain Part (part_step world) operands ops)
      ∙ counts_all operands h
      ∙ sym (sites_chain operands ops)

  counts_parentheses : (inner : Node) → CountsSites inner → CountsSites (nodes.Parentheses inner)
  counts_parentheses inner h =
      ap (λ (part : Part). part.sites) (fold_parentheses Part (part_step world) inner) ∙ h ∙ sym (sites_parentheses inner)

  counts_negation : (count : ℕ) (operand : Node) → CountsSites operand → CountsSites (nodes.Negation count operand)
  counts_negation count operand h =
      ap (λ (part : Part). part.sites) (fold_negation Part (part_step world) count operand) ∙ h ∙ sym (sites_negation count operand)

  -- the sites of a part are the same in every world
  pub part_sites : (node : Node) → (part_of world node).sites ≡ site_count node
  part_sites = node_induction CountsSites
      (λ n. ap (λ (part : Part). part.sites) (fold_number Part (part_step world) n) ∙ sym (ap length (sites_of_number n)))
      (λ t. ap (λ (part : Part). part.sites) (fold_text Part (part_step world) t) ∙ sym (ap length (sites_of_text t)))
      (λ e. ap (λ (part : Part). part.sites) (fold_error Part (part_step world) e) ∙ sym (ap length (sites_of_error e)))
      (λ b. ap (λ (part : Part). part.sites) (fold_boolean Part (part_step world) b) ∙ sym (ap length (sites_of_boolean b)))
      (λ r. ap (λ (part : Part). part.sites) (fold_reference Part (part_step world) r) ∙ sym (ap length (sites_of_reference r)))
      (λ a b. ap (λ (part : Part). part.sites) (fold_area Part (part_step world) a b) ∙ sym (ap length (sites_of_area a b)))
      counts_call counts_parentheses counts_negation counts_chain

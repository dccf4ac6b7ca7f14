-- What is collected over a tree is what is collected over the tokens that write it.
use Rattle.std.proofs.Common.{◌≡◌, ℕ, suc, ℤ, Bool, List, [], ◌∷◌, ◌++◌, map, All, refl, sym, ap, ◌∙◌, subst, append-nil}
use Rattle.std.specs.List.{flat_map}
use Rattle.std.proofs.lemmas.Grind.{flat_map-append}
use Rattle.std.proofs.lemmas.List.Elements.{All-head, All-tail}
use Rattle.cell_refs.specs.declared.references.RefText.{RefText}
use Rattle.cell_values.specs.declared.errors.ErrorKind.{ErrorKind}
use Rattle.cell_values.specs.declared.texts.Text.{Text}
use Rattle.formula_parse.specs.declared.callees.Callee.{Callee}
use Rattle.formula_parse.specs.declared.nodes.Node.{Node}
use Rattle.formula_parse.specs.declared.nodes.Node.TheVariants as nodes
use Rattle.formula_parse.specs.declared.operators.Operator.{Operator}
use Rattle.formula_parse.specs.declared.operators.Operator.TheVariants as operators
use Rattle.formula_parse.specs.declared.tokens.Token.{Token}
use Rattle.formula_parse.specs.declared.tokens.Token.TheVariants as tokens
use Rattle.formula_parse.specs.Grammar.{Written, IsWritten, IsSigned, IsEnclosed, AreSigns, AreArguments, IsChain, IsChainAt, place_of}
use Rattle.formula_parse.specs.Tree.{concat}
use Rattle.formula_parse.proofs.NodeLaws.{node_induction, number_is_written, text_is_written, error_is_written, boolean_is_written, reference_is_written, area_is_written, call_is_written, parentheses_is_written, negation_is_written, chain_is_written}

-- f gives nothing for a token that is no operand and no call
pub record GivesNothing (A : Type 0) (f : Token → List A) : Type 0 where
  pub opening : f tokens.Open ≡ []
  pub close : f tokens.Close ≡ []
  pub comma : f tokens.Comma ≡ []
  pub operator : (op : Operator) → f (tokens.Operator op) ≡ []

-- F gives of a tree what f gives of the tree's own tokens, and what F gives of its parts
pub record Follows (A : Type 0) (f : Token → List A) (F : Node → List A) : Type 0 where
  pub number : (n : ℤ) → F (nodes.Number n) ≡ f (tokens.Number n)
  pub text : (t : Text) → F (nodes.Text t) ≡ f (tokens.Text t)
  pub error : (e : ErrorKind) → F (nodes.Error e) ≡ f (tokens.Error e)
  pub boolean : (b : Bool) → F (nodes.Boolean b) ≡ f (tokens.Boolean b)
  pub reference : (r : RefText) → F (nodes.Reference r) ≡ f (tokens.Reference r)
  pub area : (a b : RefText) → F (nodes.Area a b) ≡ f (tokens.Area a b)
  pub call : (callee : Callee) (arguments : List Node) → F (nodes.Call callee arguments) ≡ f (tokens.Call callee) ++ concat (map F arguments)
  pub parentheses : (inner : Node) → F (nodes.Parentheses inner) ≡ F inner
  pub negation : (count : ℕ) (operand : Node) → F (nodes.Negation count operand) ≡ F operand
  pub chain : (operands : List Node) (ops : List Operator) → F (nodes.Chain operands ops) ≡ concat (map F operands)

module _ (A : Type 0) (f : Token → List A) (F : Node → List A) (none : GivesNothing A f) (follows : Follows A f F) where
  -- what is collected over a tree is collected over its tokens
  abbrev Gives : Node → Type 0
  Gives tree = (place : ℕ) (written : List Token) → IsWritten tree place written → F tree ≡ flat_map f written

  -- a token that gives nothing, before others
  nothing_before : (token : Token) (written : List Token) → f token ≡ [] → flat_map f (token ∷ written) ≡ flat_map f written
  nothing_before token written e = ap (λ xs. xs ++ flat_map f written) e

  -- signs give nothing
  signs_give : (count : ℕ) (signs : List Token) → AreSigns count signs → flat_map f signs ≡ []
  signs_give count [] h = refl
  signs_give count (tokens.Operator operators.Add ∷ signs) h = nothing_before (tokens.Operator operators.Add) signs (none.operator operators.Add) ∙ signs_give count signs h
  signs_give count (tokens.Operator operators.Subtract ∷ signs) h = nothing_before (tokens.Operator operators.Subtract) signs (none.operator operators.Subtract) ∙ signs_give h.0 signs h.2
  signs_give count (other ∷ signs) h = absurd h

  -- an operand behind its signs gives what the operand gives
  signed_gives : (place count : ℕ) (Operand : List Token → Type 0) (written : List Token) (xs : List A) → ((operand : List Token) → Operand operand → xs ≡ flat_map f operand) → IsSigned place count Operand written → xs ≡ flat_map f written
  signed_gives place count Operand written xs own s =
      let parts : flat_map f written ≡ flat_map f s.signs ++ flat_map f s.operand = ap (flat_map f) s.both ∙ flat_map-append f s.signs s.operand in
      own s.operand s.own ∙ sym (parts ∙ ap (λ ys. ys ++ flat_map f s.operand) (signs_give count s.signs s.counted))

  -- an operand of one token
  one_gives : (token : Token) (operand : List Token) → operand ≡ token ∷ [] → f token ≡ flat_map f operand
  one_gives token operand e = sym (ap (flat_map f) e ∙ append-nil (f token))

  -- an operand between an opening token and a `)`
  enclosed_gives : (opening : Token) (Inner : List Token → Type 0) (operand : List Token) (xs : List A) → ((inner : List Token) → Inner inner → xs ≡ flat_map f inner) → IsEnclosed opening Inner operand → f opening ++ xs ≡ flat_map f operand
  enclosed_gives opening Inner operand xs own e =
      let end : flat_map f (e.0 ++ tokens.Close ∷ []) ≡ flat_map f e.0 = flat_map-append f e.0 (tokens.Close ∷ []) ∙ ap (λ ys. flat_map f e.0 ++ ys) (nothing_before tokens.Close [] none.close) ∙ append-nil (flat_map f e.0) in
      ap (λ ys. f opening ++ ys) (own e.0 e.2 ∙ sym end) ∙ sym (ap (flat_map f) e.1)

  -- a part, a token that gives nothing, and the rest
  joined_gives : (front rest whole : List Token) (token : Token) (xs ys : List A) → f token ≡ [] → whole ≡ front ++ token ∷ rest → xs ≡ flat_map f front → ys ≡ flat_map f rest → xs ++ ys ≡ flat_map f whole
  joined_gives front rest whole token xs ys e is left right =
      ap (λ zs. zs ++ ys) left ∙ ap (λ zs. flat_map f front ++ zs) (right ∙ sym (nothing_before token rest e)) ∙ sym (ap (flat_map f) is ∙ flat_map-append f front (token ∷ rest))

  -- arguments
  arguments_give : (xs : List Node) (inner : List Token) → All Gives xs → AreArguments (map IsWritten xs) inner → concat (map F xs) ≡ flat_map f inner
  arguments_give [] inner all h = sym (ap (flat_map f) h)
  arguments_give (x ∷ []) inner all h = append-nil (F x) ∙ All-head Gives x [] all 0 inner h
  arguments_give (x ∷ y ∷ xs) inner all h =
      joined_gives h.0 h.1 inner tokens.Comma (F x) (concat (map F (y ∷ xs))) none.comma h.2 (All-head Gives x (y ∷ xs) all 0 h.0 h.3) (arguments_give (y ∷ xs) h.1 (All-tail Gives x (y ∷ xs) all) h.4)

  -- the operands of a chain
  chain_gives : (place : ℕ) (xs : List Node) (ops : List Operator) (written : List Token) → All Gives xs → IsChain place (map IsWritten xs) ops written → concat (map F xs) ≡ flat_map f written
  chain_gives place [] ops written all h = absurd h
  chain_gives place (x ∷ []) [] written all h = append-nil (F x) ∙ All-head Gives x [] all (suc place) written h
  chain_gives place (x ∷ []) (op ∷ ops) written all h = absurd h
  chain_gives place (x ∷ y ∷ xs) [] written all h = absurd h
  chain_gives place (x ∷ y ∷ xs) (op ∷ ops) written all h =
      joined_gives h.0 h.1 written (tokens.Operator op) (F x) (concat (map F (y ∷ xs))) (none.operator op) h.2 (All-head Gives x (y ∷ xs) all (suc place) h.0 h.3) (chain_gives place (y ∷ xs) ops h.1 (All-tail Gives x (y ∷ xs) all) h.5)

  -- a chain where it stands
  chain_at_gives : (place : ℕ) (xs : List Node) (ops : List Operator) (written : List Token) → All Gives xs → IsChainAt place (map IsWritten xs) ops written → concat (map F xs) ≡ flat_map f written
  chain_at_gives place xs [] written all h = absurd h
  chain_at_gives place xs (op ∷ ops) written all h = chain_gives (place_of op) xs (op ∷ ops) written all h.1

  -- what is collected over a tree is what is collected over its tokens
  pub collected : (tree : Node) → Gives tree
  collected = node_induction Gives
      (λ n place written w. follows.number n ∙ signed_gives place 0 _ written _ (one_gives (tokens.Number n)) (subst (λ (W : Written). W place written) (number_is_written n) w))
      (λ t place written w. follows.text t ∙ signed_gives place 0 _ written _ (one_gives (tokens.Text t)) (subst (λ (W : Written). W place written) (text_is_written t) w))
      (λ e place written w. follows.error e ∙ signed_gives place 0 _ written _ (one_gives (tokens.Error e)) (subst (λ (W : Written). W place written) (error_is_written e) w))
      (λ b place written w. follows.boolean b ∙ signed_gives place 0 _ written _ (one_gives (tokens.Boolean b)) (subst (λ (W : Written). W place written) (boolean_is_written b) w))
      (λ r place written w. follows.reference r ∙ signed_gives place 0 _ written _ (one_gives (tokens.Reference r)) (subst (λ (W : Written). W place written) (reference_is_written r) w))
      (λ a b place written w. follows.area a b ∙ signed_gives place 0 _ written _ (one_gives (tokens.Area a b)) (subst (λ (W : Written). W place written) (area_is_written a b) w))
      (λ callee arguments all place written w. follows.call callee arguments ∙ signed_gives place 0 _ written _ (λ operand. enclosed_gives (tokens.Call callee) _ operand _ (λ inner. arguments_give arguments inner all)) (subst (λ (W : Written). W place written) (call_is_written callee arguments) w).1)
      (λ inner own place written w. follows.parentheses inner ∙ signed_gives place 0 _ written _ (λ operand e. ap (λ ys. ys ++ F inner) (sym none.opening) ∙ enclosed_gives tokens.Open _ operand (F inner) (own 0) e) (subst (λ (W : Written). W place written) (parentheses_is_written inner) w))
      (λ count operand own place written w. follows.negation count operand ∙ signed_gives place count _ written _ (own 5) (subst (λ (W : Written). W place written) (negation_is_written count operand) w).2)
      (λ operands ops all place written w. follows.chain operands ops ∙ chain_at_gives place operands ops written all (subst (λ (W : Written). W place written) (chain_is_written operands ops) w))

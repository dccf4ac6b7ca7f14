-- What is printed of several parts of a formula.
use Rattle.std.proofs.Common.{◌≡◌, ℕ, zero, suc, ◌-◌, ◌≤◌, List, [], ◌∷◌, ◌++◌, map, length, take, drop, get_or, replicate, refl, sym, ap, ◌∙◌, append_assoc, append-nil, arith}
use Rattle.std.specs.List.{flat_map}
use Rattle.std.proofs.Math.Seq.{take-length}
use Rattle.std.proofs.lemmas.List.{take-append-le, take-take, length-take, length-append}
use Rattle.std.proofs.lemmas.Grind.{flat_map-append}
use Rattle.formula_parse.specs.declared.nodes.Node.{Node}
use Rattle.formula_parse.specs.declared.nodes.Node.TheVariants as nodes
use Rattle.formula_parse.specs.declared.operators.Operator.TheVariants as operators
use Rattle.formula_parse.specs.declared.tokens.Token.{Token}
use Rattle.formula_parse.specs.declared.tokens.Token.TheVariants as tokens
use Rattle.formula_parse.specs.Printing.{argument_tokens, token_text, tokens_of, tokens_step}
use Rattle.formula_parse.proofs.NodeLaws.{fold_negation}

-- further arguments, each behind its `,`
abbrev pub behind_commas : List (List Token) → List Token
behind_commas [] = []
behind_commas (argument ∷ arguments) = tokens.Comma ∷ (argument ++ behind_commas arguments)

-- arguments are the first one and the further ones
pub separated_behind : (x : List Token) (xs : List (List Token)) → argument_tokens (x ∷ xs) ≡ x ++ behind_commas xs
separated_behind x [] = sym (append-nil x)
separated_behind x (y ∷ ys) = ap (λ rest. x ++ tokens.Comma ∷ rest) (separated_behind y ys)

-- the first argument, and the further ones behind it
pub arguments_begin : (old : List ℕ) (nodes : List Node) (first : Node) → 1 ≤ length nodes → first ≡ get_or nodes 0 first → (old ++ flat_map token_text (tokens_of first)) ++ flat_map token_text (behind_commas (map tokens_of (take (length nodes - 1) (drop 1 nodes)))) ≡ old ++ flat_map token_text (argument_tokens (map tokens_of nodes))
arguments_begin old [] first some is = absurd (omega arith)
arguments_begin old (n ∷ ns) first some is =
    let len : suc (length ns) - 1 ≡ length ns = omega arith in
    let rest : take (suc (length ns) - 1) ns ≡ ns = ap (λ k. take k ns) len ∙ take-length ns in
    let all : flat_map token_text (tokens_of n ++ behind_commas (map tokens_of ns)) ≡ flat_map token_text (tokens_of n) ++ flat_map token_text (behind_commas (map tokens_of ns)) = flat_map-append token_text (tokens_of n) (behind_commas (map tokens_of ns)) in
    ap (λ rest. (old ++ flat_map token_text (tokens_of first)) ++ flat_map token_text (behind_commas (map tokens_of rest))) rest
    ∙ ap (λ x. (old ++ flat_map token_text (tokens_of x)) ++ flat_map token_text (behind_commas (map tokens_of ns))) is
    ∙ append_assoc old _ _
    ∙ ap (λ bytes. old ++ bytes) (sym all ∙ ap (flat_map token_text) (sym (separated_behind (tokens_of n) (map tokens_of ns))))

-- so many `-` as they are written
minuses_text : (n : ℕ) → flat_map token_text (replicate n (tokens.Operator operators.Subtract)) ≡ replicate n 45
minuses_text zero = refl
minuses_text (suc n) = ap (λ bytes. 45 ∷ bytes) (minuses_text n)

-- signs and the operand behind them
pub negation_text : (old : List ℕ) (n : ℕ) (operand node : Node) → node ≡ nodes.Negation n operand → (old ++ replicate n 45) ++ flat_map token_text (tokens_of operand) ≡ old ++ flat_map token_text (tokens_of node)
negation_text old n operand node is =
    append_assoc old _ _
    ∙ ap (λ bytes. old ++ bytes) (ap (λ signs. signs ++ flat_map token_text (tokens_of operand)) (sym (minuses_text n)) ∙ sym (flat_map-append token_text (replicate n (tokens.Operator operators.Subtract)) (tokens_of operand)))
    ∙ ap (λ ts. old ++ flat_map token_text ts) (sym (ap tokens_of is ∙ fold_negation (List Token) tokens_step n operand))

-- what was there at first is there behind a step that keeps what was there before it
pub kept_on : (n m : ℕ) (old mid more new : List ℕ) → n ≡ length old → m ≡ length (mid ++ more) → take n mid ≡ old → take m new ≡ mid ++ more → take n new ≡ old
kept_on n m old mid more new ln lm first second =
    let within : n ≤ length mid = omega (arith, ap length first ∙ sym ln, length-take n mid) in
    let below : n ≤ m = omega (arith, length-append mid more) in
    sym (take-take n m new below) ∙ ap (take n) second ∙ take-append-le n mid more within ∙ first

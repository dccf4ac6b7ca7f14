-- What was read goes on to a formula.
use Rattle.std.proofs.Common.{◌≡◌, ◌⊎◌, inl, inr, ⊎_elim, ℕ, zero, suc, ◌+◌, ◌<◌, ◌≤◌, Bool, true, false, not, ◌||◌, ◌&&◌, ◌==◌, pos, List, [], ◌∷◌, ◌++◌, length, replicate, take, drop, Option, Some, None, IsSome, refl, sym, ap, ◌∙◌, subst, arith, codes}
use Rattle.std.proofs.lemmas.List.{append-nil, append_assoc}
use Rattle.std.proofs.lemmas.Option.{same_Some}
use Rattle.formula_parse.specs.declared.nodes.Node.{Node}
use Rattle.formula_parse.specs.declared.reader.Frame.{Frame}
use Rattle.formula_parse.specs.declared.reader.Phase.{Phase}
use Rattle.formula_parse.specs.declared.reader.Phase.TheVariants as phases
use Rattle.formula_parse.specs.declared.reader.Reader.{Reader}
use Rattle.formula_parse.specs.declared.tokens.Token.{Token}
use Rattle.formula_parse.specs.declared.tokens.Token.TheVariants as tokens
use Rattle.formula_parse.specs.Faults.{IsUnlimitedFormula, IsViable}
use Rattle.formula_parse.specs.Grammar.{IsWritten}
use Rattle.formula_parse.specs.ReaderMachine.{Turn, turn_at, first_reader, awaits_operand}
use Rattle.formula_parse.specs.Tokens.{IsSpelled, Writes, are_spaces, goes_on_with}
use Rattle.formula_parse.proofs.Machine.{first_turn, ran, ended_behind, is_operand}
use Rattle.formula_parse.proofs.MachineLaws.{what_is_read_is_written, operands_are_taken, closing_ends}
use Rattle.formula_parse.proofs.Runs.{turn_of, ran_on, reads_run}
use Rattle.formula_parse.proofs.TokenReads.{Reads, IsSafe, close_ends, read_before, spelled_by}

-- so many `)`
abbrev pub closes : ℕ → List ℕ
closes count = replicate count 41

-- tokens that close what is open, and the tree of the formula that they end
pub record Closed (written : List Token) : Type 0 where
  pub count : ℕ
  pub tree : Node
  pub formed : IsWritten tree 0 (written ++ replicate count tokens.Close)

some_tree : (o : Option Node) → IsSome o → (tree : Node) × (o ≡ Some tree)
some_tree None h = cc
some_tree (Some tree) h = (tree, refl)

-- where nothing or no more than a `)` is awaited, closing ends a formula
pub closed_behind : (written : List Token) (turn : Turn) → ran first_turn written ≡ Some turn → (awaits_operand turn.0 ≡ false) ⊎ (turn.0 ≡ phases.Start) → Closed written
closed_behind written turn h a =
    let closing = closing_ends written turn h a in
    let tree = some_tree (ended_behind closing.1) closing.3 in
    record {
      count = closing.0;
      tree = tree.0;
      formed = what_is_read_is_written (written ++ replicate closing.0 tokens.Close) closing.1 tree.0 (ran_on written (replicate closing.0 tokens.Close) first_turn turn h ∙ closing.2) tree.1;
    }

-- behind an operand that was awaited, no operand is, or the `)` of a call may stand
operand_turns : (phase : Phase) (frames : List Frame) (token : Token) (turn : Turn) → awaits_operand phase ≡ true → is_operand token ≡ true → turn_at phase frames token ≡ Some turn → (awaits_operand turn.0 ≡ false) ⊎ (turn.0 ≡ phases.Start)
operand_turns (phases.After operand) frames token turn a o h = cc
operand_turns phases.Start frames (tokens.Number n) turn a o h = inl (ap (λ t. awaits_operand t.0) (sym (same_Some _ turn h)))
operand_turns phases.Start frames (tokens.Text t) turn a o h = inl (ap (λ t. awaits_operand t.0) (sym (same_Some _ turn h)))
operand_turns phases.Start frames (tokens.Error e) turn a o h = inl (ap (λ t. awaits_operand t.0) (sym (same_Some _ turn h)))
operand_turns phases.Start frames (tokens.Boolean b) turn a o h = inl (ap (λ t. awaits_operand t.0) (sym (same_Some _ turn h)))
operand_turns phases.Start frames (tokens.Reference r) turn a o h = inl (ap (λ t. awaits_operand t.0) (sym (same_Some _ turn h)))
operand_turns phases.Start frames (tokens.Area r s) turn a o h = inl (ap (λ t. awaits_operand t.0) (sym (same_Some _ turn h)))
operand_turns phases.Start frames (tokens.Call callee) turn a o h = inr (ap (λ t. t.0) (sym (same_Some _ turn h)))
operand_turns phases.Start frames tokens.Open turn a o h = cc
operand_turns phases.Start frames tokens.Close turn a o h = cc
operand_turns phases.Start frames tokens.Comma turn a o h = cc
operand_turns phases.Start frames (tokens.Operator op) turn a o h = cc
operand_turns (phases.Signs minuses) frames (tokens.Number n) turn a o h = inl (ap (λ t. awaits_operand t.0) (sym (same_Some _ turn h)))
operand_turns (phases.Signs minuses) frames (tokens.Text t) turn a o h = inl (ap (λ t. awaits_operand t.0) (sym (same_Some _ turn h)))
operand_turns (phases.Signs minuses) frames (tokens.Error e) turn a o h = inl (ap (λ t. awaits_operand t.0) (sym (same_Some _ turn h)))
operand_turns (phases.Signs minuses) frames (tokens.Boolean b) turn a o h = inl (ap (λ t. awaits_operand t.0) (sym (same_Some _ turn h)))
operand_turns (phases.Signs minuses) frames (tokens.Reference r) turn a o h = inl (ap (λ t. awaits_operand t.0) (sym (same_Some _ turn h)))
operand_turns (phases.Signs minuses) frames (tokens.Area r s) turn a o h = inl (ap (λ t. awaits_operand t.0) (sym (same_Some _ turn h)))
operand_turns (phases.Signs minuses) frames (tokens.Call callee) turn a o h = inr (ap (λ t. t.0) (sym (same_Some _ turn h)))
operand_turns (phases.Signs minuses) frames tokens.Open turn a o h = cc
operand_turns (phases.Signs minuses) frames tokens.Close turn a o h = cc
operand_turns (phases.Signs minuses) frames tokens.Comma turn a o h = cc
operand_turns (phases.Signs minuses) frames (tokens.Operator op) turn a o h = cc

some_turn : (o : Option Turn) → IsSome o → (turn : Turn) × (o ≡ Some turn)
some_turn None h = cc
some_turn (Some turn) h = (turn, refl)

-- where an operand is awaited, it and closing end a formula
pub operand_closed : (written : List Token) (turn : Turn) (token : Token) → ran first_turn written ≡ Some turn → awaits_operand turn.0 ≡ true → is_operand token ≡ true → Closed (written ++ token ∷ [])
operand_closed written turn token h a o =
    let next = some_turn (turn_at turn.0 turn.1 token) (operands_are_taken turn token a o) in
    closed_behind (written ++ token ∷ []) next.0
    (ran_on written (token ∷ []) first_turn turn h ∙ ap (λ made. Rattle.std.proofs.Common.option_and_then (λ x. Some x) made) next.1)
    (operand_turns turn.0 turn.1 token next.0 a o next.1)

-- no token goes on with a row of `)`
pub closes_end : (token : Token) (count : ℕ) → goes_on_with token (closes count) ≡ false
closes_end token zero = refl
closes_end token (suc count) = close_ends token

-- so many `)` spell as many tokens
pub closes_spell : (count : ℕ) → IsSpelled (closes count) (replicate count tokens.Close)
closes_spell zero = refl
closes_spell (suc count) = ([], codes ")", closes count, refl, refl, refl, closes_end tokens.Close count, closes_spell count)

-- spaces and a row of `)` spell as many tokens
pub gap_closes_spell : (gap : List ℕ) (count : ℕ) → are_spaces gap ≡ true → IsSpelled (gap ++ closes count) (replicate count tokens.Close)
gap_closes_spell gap zero g = subst (λ x. are_spaces x ≡ true) (sym (append-nil gap)) g
gap_closes_spell gap (suc count) g = (gap, codes ")", closes count, refl, g, refl, closes_end tokens.Close count, closes_spell count)

-- a front of what some formula begins with
pub viable_front : (front more : List ℕ) → IsViable (front ++ more) → IsViable front
viable_front front more (rest, written, tree, formula) = (more ++ rest, written, tree, subst (λ t. IsUnlimitedFormula t written tree) (append_assoc front more rest) formula)

-- a formula of tokens that are read and of others
formula_of_parts : (front tail : List ℕ) (ts us written : List Token) (last : Reader) (tree : Node) → Reads first_reader front tail ts last → IsSpelled tail us → ts ++ us ≡ written → IsWritten tree 0 written → IsUnlimitedFormula (61 ∷ (front ++ tail)) written tree
formula_of_parts front tail ts us written last tree r s e w = record {
  rest = front ++ tail;
  begins = refl;
  spelled = subst (IsSpelled (front ++ tail)) e (spelled_by ts us first_reader front tail last r s);
  formed = w;
}

-- where no operand is awaited, what was read and spaces behind it begin a formula
pub closing_viable : (front rest gap : List ℕ) (ts : List Token) (last : Reader) → Reads first_reader front rest ts last → (awaits_operand last.phase ≡ false) ⊎ (last.phase ≡ phases.Start) → are_spaces gap ≡ true → ((count : ℕ) → IsSafe rest (gap ++ closes count)) → IsViable (61 ∷ (front ++ gap))
closing_viable front rest gap ts last r a g safe =
    let closed = closed_behind ts (turn_of last) (reads_run ts first_reader front rest last r) a in
    let tail = gap ++ closes closed.count in (
      closes closed.count,
      ts ++ replicate closed.count tokens.Close,
      closed.tree,
      subst (λ t. IsUnlimitedFormula (61 ∷ t) (ts ++ replicate closed.count tokens.Close) closed.tree) (sym (append_assoc front gap (closes closed.count)))
          (formula_of_parts front tail ts (replicate closed.count tokens.Close) (ts ++ replicate closed.count tokens.Close) last closed.tree (read_before ts first_reader front rest tail last (safe closed.count) r) (gap_closes_spell gap closed.count g) refl closed.formed),
    )

-- where an operand is awaited, what was read and an operand behind spaces begin a formula
pub operand_viable : (front rest gap piece : List ℕ) (ts : List Token) (last : Reader) (token : Token) → Reads first_reader front rest ts last → awaits_operand last.phase ≡ true → are_spaces gap ≡ true → Writes piece token → is_operand token ≡ true → ((count : ℕ) → IsSafe rest (gap ++ (piece ++ closes count))) → IsViable (61 ∷ (front ++ (gap ++ piece)))
operand_viable front rest gap piece ts last token r a g w o safe =
    let closed = operand_closed ts (turn_of last) token (reads_run ts first_reader front rest last r) a o in
    let more = closes closed.count in
    let us = token ∷ replicate closed.count tokens.Close in
    let spelled : IsSpelled (gap ++ (piece ++ more)) us = (gap, piece, more, refl, g, w, closes_end token closed.count, closes_spell closed.count) in
    let formula = formula_of_parts front (gap ++ (piece ++ more)) ts us ((ts ++ token ∷ []) ++ replicate closed.count tokens.Close) last closed.tree (read_before ts first_reader front rest (gap ++ (piece ++ more)) last (safe closed.count) r) spelled (sym (append_assoc ts (token ∷ []) (replicate closed.count tokens.Close))) closed.formed in (
      more,
      (ts ++ token ∷ []) ++ replicate closed.count tokens.Close,
      closed.tree,
      subst (λ t. IsUnlimitedFormula (61 ∷ t) ((ts ++ token ∷ []) ++ replicate closed.count tokens.Close) closed.tree) (regrouped front gap piece more) formula,
    )
  where
    regrouped : (front gap piece more : List ℕ) → front ++ (gap ++ (piece ++ more)) ≡ (front ++ (gap ++ piece)) ++ more
    regrouped front gap piece more = ap (λ x. front ++ x) (sym (append_assoc gap piece more)) ∙ sym (append_assoc front (gap ++ piece) more)

-- `1` is an operand
pub one_written : Writes (codes "1") (tokens.Number (pos 1))
one_written = ((omega arith, (omega arith, tt)), refl)

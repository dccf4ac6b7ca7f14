-- What is read of a text agrees with every formula that the text is.
use Rattle.std.proofs.Common.{◌≡◌, ℕ, true, List, [], ◌∷◌, ◌++◌, Some, sym, ap, ◌∙◌, subst}
use Rattle.std.proofs.lemmas.List.{append-nil}
use Rattle.std.proofs.lemmas.Option.{same_Some}
use Rattle.formula_parse.specs.declared.nodes.Node.{Node}
use Rattle.formula_parse.specs.declared.reader.Reader.{Reader}
use Rattle.formula_parse.specs.declared.tokens.Token.{Token}
use Rattle.formula_parse.specs.Faults.{IsUnlimitedFormula}
use Rattle.formula_parse.specs.ReaderMachine.{Turn, tree_at_end, first_reader}
use Rattle.formula_parse.specs.Tokens.{IsSpelled, are_spaces}
use Rattle.formula_parse.proofs.Machine.{first_turn, ran, ended_behind}
use Rattle.formula_parse.proofs.MachineLaws.{what_is_written_is_read}
use Rattle.formula_parse.proofs.Outcomes.{IsStuck}
use Rattle.formula_parse.proofs.Runs.{turn_of, ran_on, reads_run, spaces_spell_nothing, full_is_found, refused_run}
use Rattle.formula_parse.proofs.TokenReads.{Reads, is_full, spelled_behind}

-- tokens that go on from what was read, where all of them can be run
pub record GoesOn (front rest : List ℕ) (ts : List Token) (last : Reader) (us : List Token) : Type 0 where
  pub others : List Token
  pub tokens : us ≡ ts ++ others
  pub spelled : IsSpelled rest others
  pub end : Turn
  pub runs : ran (turn_of last) others ≡ Some end
  pub whole : ran first_turn us ≡ Some end

pub goes_on_from : (front rest : List ℕ) (ts us : List Token) (last : Reader) (end : Turn) → Reads first_reader front rest ts last → IsSpelled (front ++ rest) us → ran first_turn us ≡ Some end → GoesOn front rest ts last us
goes_on_from front rest ts us last end r s h =
    let more = spelled_behind ts us first_reader front rest last r s in
    record {
      others = more.0;
      tokens = more.1;
      spelled = more.2;
      end = end;
      runs = sym (ran_on ts more.0 first_turn (turn_of last) (reads_run ts first_reader front rest last r)) ∙ (ap (ran first_turn) (sym more.1) ∙ h);
      whole = h;
    }

-- a formula's text behind its `=`
pub spelled_rest : (text : List ℕ) (us : List Token) (tree : Node) → IsUnlimitedFormula (61 ∷ text) us tree → IsSpelled text us
spelled_rest text us tree f = subst (λ t. IsSpelled t us) (tails 61 61 f.rest text (sym f.begins)) f.spelled
  where
    tails : (b c : ℕ) (bs cs : List ℕ) → b ∷ bs ≡ c ∷ cs → bs ≡ cs
    tails b c bs cs h = cc

-- a formula's tokens and its tree are those that were read, where the text was read to its end
pub record AgreesWith (ts : List Token) (last : Reader) (us : List Token) (tree : Node) : Type 0 where
  pub same_tokens : us ≡ ts
  pub same_tree : tree_at_end last.phase last.frames ≡ Some tree

pub formula_agrees : (front rest : List ℕ) (ts us : List Token) (last : Reader) (tree : Node) → Reads first_reader front rest ts last → are_spaces rest ≡ true → IsUnlimitedFormula (61 ∷ (front ++ rest)) us tree → AgreesWith ts last us tree
formula_agrees front rest ts us last tree r s f =
    let read = what_is_written_is_read us tree f.formed in
    let more = goes_on_from front rest ts us last read.0 r (spelled_rest (front ++ rest) us tree f) read.1 in
    let none : more.others ≡ [] = spaces_spell_nothing rest more.others s more.spelled in
    let same : turn_of last ≡ read.0 = same_Some (turn_of last) read.0 (subst (λ o. ran (turn_of last) o ≡ Some more.end) none more.runs ∙ (sym more.whole ∙ read.1)) in
    record {
      same_tokens = more.tokens ∙ (ap (λ o. ts ++ o) none ∙ append-nil ts);
      same_tree = subst (λ t. ended_behind t ≡ Some tree) (sym same) read.2;
    }

-- where reading is stuck, the text is no formula
pub stuck_is_no_formula : (front gap stop : List ℕ) (ts us : List Token) (last : Reader) (tree : Node) → Reads first_reader front (gap ++ stop) ts last → are_spaces gap ≡ true → is_full stop ≡ true → IsStuck last stop → IsUnlimitedFormula (61 ∷ (front ++ (gap ++ stop))) us tree → ⊥
stuck_is_no_formula front gap stop ts us last tree r g f stuck formula =
    let read = what_is_written_is_read us tree formula.formed in
    let more = goes_on_from front (gap ++ stop) ts us last read.0 r (spelled_rest (front ++ (gap ++ stop)) us tree formula) read.1 in
    let first = full_is_found gap stop more.others g f more.spelled in
    refused_run (turn_of last) first.token first.others more.end (stuck first.token first.len first.found) (subst (λ o. ran (turn_of last) o ≡ Some more.end) first.tokens more.runs)

-- What is read, as turns over tokens.
use Rattle.std.proofs.Common.{◌≡◌, ℕ, Bool, true, false, ◌||◌, List, [], ◌∷◌, ◌++◌, length, Option, Some, None, option_map, option_and_then, refl, sym, ap, ◌∙◌, subst}
use Rattle.std.specs.List.{list_any}
use Rattle.std.proofs.lemmas.List.{append-nil}
use Rattle.std.proofs.lemmas.Option.{same_Some}
use Rattle.formula_parse.specs.declared.nodes.Node.{Node}
use Rattle.formula_parse.specs.declared.reader.Reader.{Reader}
use Rattle.formula_parse.specs.declared.tokens.Token.{Token}
use Rattle.formula_parse.specs.Faults.{IsUnlimitedFormula}
use Rattle.formula_parse.specs.Lexing.{token_at}
use Rattle.formula_parse.specs.ReaderMachine.{Turn, turn_at, reader_behind, tree_at_end, first_reader}
use Rattle.formula_parse.specs.Tokens.{is_wide_area, is_large_number, IsSpelled, are_spaces}
use Rattle.formula_parse.proofs.LexFacts.LexingLaws.{written_is_found}
use Rattle.formula_parse.proofs.Machine.{ran}
use Rattle.formula_parse.proofs.MachineLaws.{what_is_read_is_written}
use Rattle.formula_parse.proofs.TokenReads.{Reads, is_full, piece_is_full, full_front, no_spaces, same_gap, spelled_by}

-- the turn of a reader
abbrev pub turn_of : Reader → Turn
turn_of reader = (reader.phase, reader.frames)

-- what a step tells
pub record Stepped (reader : Reader) (token : Token) (next : Reader) : Type 0 where
  pub turn : turn_at reader.phase reader.frames token ≡ Some (turn_of next)
  pub wide : next.has_wide_area ≡ (reader.has_wide_area || is_wide_area token)
  pub large : next.has_large_number ≡ (reader.has_large_number || is_large_number token)

stepped_turn : (reader : Reader) (token : Token) (next : Reader) (turn : Option Turn) → turn_at reader.phase reader.frames token ≡ turn → option_map (λ turn. record {
  phase = turn.0;
  frames = turn.1;
  has_wide_area = reader.has_wide_area || is_wide_area token;
  has_large_number = reader.has_large_number || is_large_number token;
}) turn ≡ Some next → Stepped reader token next
stepped_turn reader token next None t h = absurd (nothing next h)
  where
    nothing : (next : Reader) → None ≡ Some next → ⊥
    nothing next h = cc
stepped_turn reader token next (Some turn) t h =
    let same = same_Some _ next h in
    record {
      turn = t ∙ ap Some (ap turn_of same);
      wide = sym (ap (λ r. r.has_wide_area) same);
      large = sym (ap (λ r. r.has_large_number) same);
    }

pub step_tells : (reader : Reader) (token : Token) (next : Reader) → reader_behind reader token ≡ Some next → Stepped reader token next
unfolding reader_behind
step_tells reader token next h = stepped_turn reader token next (turn_at reader.phase reader.frames token) refl h

no_turn : (next : Turn) → None ≡ Some next → ⊥
no_turn next h = cc

-- turns over two lists of tokens, one behind the other
on_with : (made : Option Turn) (ts us : List Token) (next : Turn) → ((turn : Turn) → ran turn ts ≡ Some next → ran turn (ts ++ us) ≡ ran next us) → option_and_then (λ x. ran x ts) made ≡ Some next → option_and_then (λ x. ran x (ts ++ us)) made ≡ ran next us
on_with None ts us next ih h = absurd (no_turn next h)
on_with (Some made) ts us next ih h = ih made h

pub ran_on : (ts us : List Token) (turn next : Turn) → ran turn ts ≡ Some next → ran turn (ts ++ us) ≡ ran next us
ran_on [] us turn next h = ap (λ t. ran t us) (same_Some turn next h)
ran_on (t ∷ ts) us turn next h = on_with (turn_at turn.0 turn.1 t) ts us next (λ made. ran_on ts us made next) h

-- what is read is run
pub reads_run : (ts : List Token) (reader : Reader) (front rest : List ℕ) (last : Reader) → Reads reader front rest ts last → ran (turn_of reader) ts ≡ Some (turn_of last)
reads_run [] reader front rest last h = ap (λ r. Some (turn_of r)) (sym h.1)
reads_run (t ∷ ts) reader front rest last (gap, piece, behind, next, at, spaces, writes, apart, steps, shallow, more) =
    ap (option_and_then (λ x. ran x ts)) ((step_tells reader t next steps).turn) ∙ reads_run ts next behind rest last more

-- what was noted of the tokens
either : (a b c d : Bool) → d ≡ ((a || b) || c) → d ≡ (a || (b || c))
either true b c d h = h
either false b c d h = h

none_more : (a b : Bool) → a ≡ b → a ≡ (b || false)
none_more a true h = h
none_more a false h = h

pub reads_note_areas : (ts : List Token) (reader : Reader) (front rest : List ℕ) (last : Reader) → Reads reader front rest ts last → last.has_wide_area ≡ (reader.has_wide_area || list_any is_wide_area ts)
reads_note_areas [] reader front rest last h = none_more last.has_wide_area reader.has_wide_area (ap (λ r. r.has_wide_area) h.1)
reads_note_areas (t ∷ ts) reader front rest last (gap, piece, behind, next, at, spaces, writes, apart, steps, shallow, more) =
    either reader.has_wide_area (is_wide_area t) (list_any is_wide_area ts) last.has_wide_area (subst (λ w. last.has_wide_area ≡ (w || list_any is_wide_area ts)) ((step_tells reader t next steps).wide) (reads_note_areas ts next behind rest last more))

pub reads_note_numbers : (ts : List Token) (reader : Reader) (front rest : List ℕ) (last : Reader) → Reads reader front rest ts last → last.has_large_number ≡ (reader.has_large_number || list_any is_large_number ts)
reads_note_numbers [] reader front rest last h = none_more last.has_large_number reader.has_large_number (ap (λ r. r.has_large_number) h.1)
reads_note_numbers (t ∷ ts) reader front rest last (gap, piece, behind, next, at, spaces, writes, apart, steps, shallow, more) =
    either reader.has_large_number (is_large_number t) (list_any is_large_number ts) last.has_large_number (subst (λ w. last.has_large_number ≡ (w || list_any is_large_number ts)) ((step_tells reader t next steps).large) (reads_note_numbers ts next behind rest last more))

-- a text that is read to its end, where a formula may end, is a formula of that tree
pub read_is_formula : (front rest : List ℕ) (ts : List Token) (last : Reader) (tree : Node) → Reads first_reader front rest ts last → are_spaces rest ≡ true → tree_at_end last.phase last.frames ≡ Some tree → IsUnlimitedFormula (61 ∷ (front ++ rest)) ts tree
read_is_formula front rest ts last tree r s e = record {
  rest = front ++ rest;
  begins = refl;
  spelled = subst (λ us. IsSpelled (front ++ rest) us) (append-nil ts) (spelled_by ts [] first_reader front rest last r s);
  formed = what_is_read_is_written ts (turn_of last) tree (reads_run ts first_reader front rest last r) e;
}

-- spaces spell nothing
pub spaces_spell_nothing : (rest : List ℕ) (us : List Token) → are_spaces rest ≡ true → IsSpelled rest us → us ≡ []
spaces_spell_nothing rest [] s h = refl
spaces_spell_nothing rest (u ∷ us) s (gap, piece, behind, at, spaces, writes, apart, more) = absurd (no_spaces gap piece behind (piece_is_full piece u writes) spaces (subst (λ text. are_spaces text ≡ true) at s))

-- behind spaces something full is spelled by one token at least, which is found there
pub record FirstSpelled (stop : List ℕ) (us : List Token) : Type 0 where
  pub token : Token
  pub others : List Token
  pub tokens : us ≡ token ∷ others
  pub len : ℕ
  pub found : token_at stop ≡ Some (token, len)

pub full_is_found : (gap stop : List ℕ) (us : List Token) → are_spaces gap ≡ true → is_full stop ≡ true → IsSpelled (gap ++ stop) us → FirstSpelled stop us
full_is_found gap stop [] g f s = absurd (no_spaces gap stop [] f g (subst (λ x. are_spaces (gap ++ x) ≡ true) (sym (append-nil stop)) s))
full_is_found gap stop (u ∷ us) g f (gap', piece, behind, at, spaces, writes, apart, more) =
    let gaps = same_gap gap gap' stop (piece ++ behind) g spaces f (full_front piece behind (piece_is_full piece u writes)) at in
    record {
      token = u;
      others = us;
      tokens = refl;
      len = length piece;
      found = subst (λ x. token_at x ≡ Some (u, length piece)) (sym gaps.1) (written_is_found piece behind u writes apart);
    }

-- a token that can't stand behind a turn ends every run there
pub refused_run : (turn : Turn) (t : Token) (ts : List Token) (last : Turn) → turn_at turn.0 turn.1 t ≡ None → ran turn (t ∷ ts) ≡ Some last → ⊥
refused_run turn t ts last n h = refused_with (turn_at turn.0 turn.1 t) ts last n h
  where
    refused_with : (made : Option Turn) (ts : List Token) (last : Turn) → made ≡ None → option_and_then (λ x. ran x ts) made ≡ Some last → ⊥
    refused_with None ts last n h = cc
    refused_with (Some made) ts last n h = cc

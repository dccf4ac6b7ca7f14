-- The frames are what the tokens left open; an operand is taken wherever one is awaited.
use Rattle.std.proofs.Common.{◌≡◌, ℕ, suc, ◌+◌, Bool, true, false, cond, List, [], ◌∷◌, ◌++◌, length, drop, Some, None, IsSome, option_map, if◌then◌else◌, refl, sym, ap, subst, arith, nat_lt}
use Rattle.std.specs.List.{count_by}
use Rattle.std.proofs.lemmas.List.Sums.{sum_by-cons}
use Rattle.formula_parse.specs.declared.callees.Callee.{Callee}
use Rattle.formula_parse.specs.declared.nodes.Node.{Node}
use Rattle.formula_parse.specs.declared.operators.Operator.TheVariants as operators
use Rattle.formula_parse.specs.declared.reader.Frame.{Frame}
use Rattle.formula_parse.specs.declared.reader.OpenChain.{OpenChain}
use Rattle.formula_parse.specs.declared.reader.Opened.{Opened}
use Rattle.formula_parse.specs.declared.reader.Opened.TheVariants as opened
use Rattle.formula_parse.specs.declared.reader.Phase.{Phase}
use Rattle.formula_parse.specs.declared.reader.Phase.TheVariants as phases
use Rattle.formula_parse.specs.declared.tokens.Token.{Token}
use Rattle.formula_parse.specs.declared.tokens.Token.TheVariants as tokens
use Rattle.formula_parse.specs.Faults.{open_behind}
use Rattle.formula_parse.specs.ReaderMachine.{Turn, turn_at, operand_turn, start_turn, after_turn, empty_call, after_operand, closing, with_argument, tree_of_chains, calls_open, awaits_operand, with_frame}
use Rattle.formula_parse.proofs.Machine.{first_turn, ran, is_operand}
use Rattle.formula_parse.proofs.TurnRuns.{Of, kept_by_run}

-- ---- operands are taken
-- an operand's token is taken behind signs
operand_is_taken : (minuses : ℕ) (frames : List Frame) (token : Token) → is_operand token ≡ true → IsSome (operand_turn minuses frames token)
operand_is_taken minuses frames (tokens.Number n) o = refl
operand_is_taken minuses frames (tokens.Text t) o = refl
operand_is_taken minuses frames (tokens.Error e) o = refl
operand_is_taken minuses frames (tokens.Boolean b) o = refl
operand_is_taken minuses frames (tokens.Reference r) o = refl
operand_is_taken minuses frames (tokens.Area a b) o = refl
operand_is_taken minuses frames (tokens.Call callee) o = refl
operand_is_taken minuses frames tokens.Open o = cc
operand_is_taken minuses frames tokens.Close o = cc
operand_is_taken minuses frames tokens.Comma o = cc
operand_is_taken minuses frames (tokens.Operator op) o = cc

-- an operand's token is taken directly behind a name and `(`
operand_is_first : (frames : List Frame) (token : Token) → is_operand token ≡ true → IsSome (start_turn frames token)
operand_is_first frames tokens.Close o = cc
operand_is_first frames token o = operand_is_taken 0 frames token o

-- an operand's token is taken wherever an operand is awaited
pub operand_is_awaited : (phase : Phase) (frames : List Frame) (token : Token) → awaits_operand phase ≡ true → is_operand token ≡ true → IsSome (turn_at phase frames token)
operand_is_awaited phases.Start frames token a o = operand_is_first frames token o
operand_is_awaited (phases.Signs minuses) frames token a o = operand_is_taken minuses frames token o
operand_is_awaited (phases.After operand) frames token a o = cc

-- ---- what is open
-- what one frame says of what is open, where the frames outside it have a fact of their own
abbrev OpensFrame : Opened → ℕ → List Frame → (List Bool → Type 0) → List Bool → Type 0
OpensFrame opened.Formula calls frames Outer left = (frames ≡ []) × (left ≡ []) × (calls ≡ 0)
OpensFrame opened.Parentheses calls frames Outer left = (rest : List Bool) × (left ≡ false ∷ rest) × (calls ≡ calls_open frames) × Outer rest
OpensFrame (opened.Call callee arguments) calls frames Outer left = (rest : List Bool) × (left ≡ true ∷ rest) × (calls ≡ suc (calls_open frames)) × Outer rest

-- the frames are what is open
abbrev Opens : List Frame → List Bool → Type 0
Opens [] left = ⊥
Opens (frame ∷ frames) left = OpensFrame frame.opened frame.calls frames (Opens frames) left

-- the frames are what the tokens left open
abbrev OpensBehind : Turn → List Token → Type 0
OpensBehind turn written = Opens turn.1 (open_behind [] written)

-- what a list of tokens leaves open, and then one token more
open_behind_one : (outer : List Bool) (front : List Token) (token : Token) → open_behind outer (front ++ token ∷ []) ≡ open_behind (open_behind outer front) (token ∷ [])
open_behind_one outer [] token = refl
open_behind_one outer (tokens.Call callee ∷ front) token = open_behind_one (true ∷ outer) front token
open_behind_one outer (tokens.Open ∷ front) token = open_behind_one (false ∷ outer) front token
open_behind_one outer (tokens.Close ∷ front) token = open_behind_one (drop 1 outer) front token
open_behind_one outer (other ∷ front) token = open_behind_one outer front token

-- what a token behind signs leaves open
operand_opens : (minuses : ℕ) (frames : List Frame) (left : List Bool) (token : Token) → Opens frames left → Of (λ next. Opens next.1 (open_behind left (token ∷ []))) (operand_turn minuses frames token)
operand_opens minuses frames left (tokens.Number n) h = h
operand_opens minuses frames left (tokens.Text t) h = h
operand_opens minuses frames left (tokens.Error e) h = h
operand_opens minuses frames left (tokens.Boolean b) h = h
operand_opens minuses frames left (tokens.Reference r) h = h
operand_opens minuses frames left (tokens.Area a b) h = h
operand_opens minuses frames left (tokens.Call callee) h = (left, refl, refl, h)
operand_opens minuses frames left tokens.Open h = (left, refl, refl, h)
operand_opens minuses frames left tokens.Close h = tt
operand_opens minuses frames left tokens.Comma h = tt
operand_opens minuses frames left (tokens.Operator operators.Add) h = h
operand_opens minuses frames left (tokens.Operator operators.Subtract) h = h
operand_opens minuses frames left (tokens.Operator op) h = tt

-- a `)` behind an operand closes one frame
close_opens : (what : Opened) (minuses calls : ℕ) (frames : List Frame) (last : Node) (left : List Bool) → OpensFrame what calls frames (Opens frames) left → Of (λ (next : Turn). Opens next.1 (drop 1 left)) (after_operand minuses frames (closing what last))
close_opens opened.Formula minuses calls frames last left h = tt
close_opens opened.Parentheses minuses calls frames last left h = subst (Opens frames) (sym (ap (drop 1) h.1)) h.3
close_opens (opened.Call callee arguments) minuses calls frames last left h = subst (Opens frames) (sym (ap (drop 1) h.1)) h.3

-- a `)` directly behind a name and `(` closes one frame
empty_opens : (frames : List Frame) (left : List Bool) → Opens frames left → Of (λ (next : Turn). Opens next.1 (drop 1 left)) (empty_call frames)
empty_opens [] left h = tt
empty_opens (frame ∷ frames) left h = empty_frame_opens frame.opened frame.minuses frame.calls frame.chains frames left h
  where
    empty_frame_opens : (what : Opened) (minuses calls : ℕ) (chains : List OpenChain) (frames : List Frame) (left : List Bool) → OpensFrame what calls frames (Opens frames) left → Of (λ (next : Turn). Opens next.1 (drop 1 left)) (empty_call (record { opened = what; minuses = minuses; calls = calls; chains = chains } ∷ frames))
    empty_frame_opens opened.Formula minuses calls chains frames left h = tt
    empty_frame_opens opened.Parentheses minuses calls chains frames left h = tt
    empty_frame_opens (opened.Call callee arguments) minuses calls chains frames left h = subst (Opens frames) (sym (ap (drop 1) h.1)) h.3

-- a `,` leaves open what was open
comma_opens : (what : Opened) (minuses calls : ℕ) (frames : List Frame) (last : Node) (left : List Bool) → OpensFrame what calls frames (Opens frames) left → Of (λ (next : Turn). Opens next.1 left) (option_map (λ more. (phases.Signs 0, with_frame more minuses calls frames)) (with_argument what last))
comma_opens opened.Formula minuses calls frames last left h = tt
comma_opens opened.Parentheses minuses calls frames last left h = tt
comma_opens (opened.Call callee arguments) minuses calls frames last left h = comma_opens_where (nat_lt (length arguments) 254) callee (arguments ++ last ∷ []) minuses calls frames left h
  where
    comma_opens_where : (has_room : Bool) (callee : Callee) (arguments : List Node) (minuses calls : ℕ) (frames : List Frame) (left : List Bool) → OpensFrame (opened.Call callee []) calls frames (Opens frames) left → Of (λ (next : Turn). Opens next.1 left) (option_map (λ more. (phases.Signs 0, with_frame more minuses calls frames)) (if has_room then Some (opened.Call callee arguments) else None))
    comma_opens_where false callee arguments minuses calls frames left h = tt
    comma_opens_where true callee arguments minuses calls frames left h = h

-- what a token behind an operand leaves open
after_opens : (operand : Node) (frames : List Frame) (left : List Bool) (token : Token) → Opens frames left → Of (λ (next : Turn). Opens next.1 (open_behind left (token ∷ []))) (after_turn operand frames token)
after_opens operand [] left token h = absurd h
after_opens operand (frame ∷ frames) left (tokens.Operator op) h = h
after_opens operand (frame ∷ frames) left tokens.Close h = close_opens frame.opened frame.minuses frame.calls frames (tree_of_chains operand frame.chains) left h
after_opens operand (frame ∷ frames) left tokens.Comma h = comma_opens frame.opened frame.minuses frame.calls frames (tree_of_chains operand frame.chains) left h
after_opens operand (frame ∷ frames) left token h = tt

-- what a token directly behind a name and `(` leaves open
start_opens : (frames : List Frame) (left : List Bool) (token : Token) → Opens frames left → Of (λ (next : Turn). Opens next.1 (open_behind left (token ∷ []))) (start_turn frames token)
start_opens frames left tokens.Close h = empty_opens frames left h
start_opens frames left token h = operand_opens 0 frames left token h

-- what a token leaves open
turn_opens : (phase : Phase) (frames : List Frame) (left : List Bool) (token : Token) → Opens frames left → Of (λ (next : Turn). Opens next.1 (open_behind left (token ∷ []))) (turn_at phase frames token)
turn_opens phases.Start frames left token h = start_opens frames left token h
turn_opens (phases.Signs minuses) frames left token h = operand_opens minuses frames left token h
turn_opens (phases.After operand) frames left token h = after_opens operand frames left token h

-- behind all tokens the frames are what they left open
pub run_opens : (written : List Token) (turn : Turn) → ran first_turn written ≡ Some turn → OpensBehind turn written
run_opens written turn e =
    kept_by_run OpensBehind
    (λ turn front token h. subst (λ left. Of (λ (next : Turn). Opens next.1 left) (turn_at turn.0 turn.1 token)) (sym (open_behind_one [] front token)) (turn_opens turn.0 turn.1 (open_behind [] front) token h))
    first_turn turn written (refl, refl, refl) e

-- ---- how much is open
-- one more call or parenthesis is counted
count_more : (is_call : Bool) (left : List Bool) → count_by (λ is_call. is_call) (is_call ∷ left) ≡ cond is_call 1 0 + count_by (λ is_call. is_call) left
count_more is_call left = sum_by-cons (λ is_call. cond is_call 1 0) is_call left

-- how many calls and frames there are where the frames are what is open
abbrev AreCounted : List Frame → List Bool → Type 0
AreCounted frames left = (calls_open frames ≡ count_by (λ is_call. is_call) left) × (length frames ≡ suc (length left))

-- the same of one frame
frame_counted : (what : Opened) (minuses calls : ℕ) (chains : List OpenChain) (frames : List Frame) (left : List Bool) → OpensFrame what calls frames (AreCounted frames) left → AreCounted (record { opened = what; minuses = minuses; calls = calls; chains = chains } ∷ frames) left
frame_counted opened.Formula minuses calls chains frames left h = subst (λ left. (calls ≡ count_by (λ is_call. is_call) left) × (suc (length frames) ≡ suc (length left))) (sym h.1) (h.2, ap (λ (fs : List Frame). suc (length fs)) h.0)
frame_counted opened.Parentheses minuses calls chains frames left h =
    let c : calls ≡ count_by (λ is_call. is_call) (false ∷ h.0) = omega (arith, h.2, h.3.0, count_more false h.0) in
    subst (λ left. (calls ≡ count_by (λ is_call. is_call) left) × (suc (length frames) ≡ suc (length left))) (sym h.1) (c, ap suc h.3.1)
frame_counted (opened.Call callee arguments) minuses calls chains frames left h =
    let c : calls ≡ count_by (λ is_call. is_call) (true ∷ h.0) = omega (arith, h.2, h.3.0, count_more true h.0) in
    subst (λ left. (calls ≡ count_by (λ is_call. is_call) left) × (suc (length frames) ≡ suc (length left))) (sym h.1) (c, ap suc h.3.1)

-- a fact of the frames outside one frame follows from another
outer_counted : (what : Opened) (calls : ℕ) (frames : List Frame) (Outer Inner : List Bool → Type 0) → ((left : List Bool) → Outer left → Inner left) → (left : List Bool) → OpensFrame what calls frames Outer left → OpensFrame what calls frames Inner left
outer_counted opened.Formula calls frames Outer Inner onward left h = h
outer_counted opened.Parentheses calls frames Outer Inner onward left h = (h.0, h.1, h.2, onward h.0 h.3)
outer_counted (opened.Call callee arguments) calls frames Outer Inner onward left h = (h.0, h.1, h.2, onward h.0 h.3)

-- where the frames are what is open they are counted
pub opens_counted : (frames : List Frame) (left : List Bool) → Opens frames left → (calls_open frames ≡ count_by (λ is_call. is_call) left) × (length frames ≡ suc (length left))
opens_counted [] left h = absurd h
opens_counted (frame ∷ frames) left h = frame_counted frame.opened frame.minuses frame.calls frame.chains frames left (outer_counted frame.opened frame.calls frames (Opens frames) (AreCounted frames) (opens_counted frames) left h)

-- A tree that is an operand alone is taken behind any signs.
use Rattle.std.proofs.Common.{◌≡◌, ℕ, suc, ◌+◌, ◌<◌, ◌≤◌, List, [], ◌∷◌, ◌++◌, map, length, Option, Some, None, option_and_then, option_map, refl, ap, ◌∙◌, arith, All, lt-ltb}
use Rattle.std.specs.Prelude.{nat_lt, if◌then◌else◌}
use Rattle.std.proofs.lemmas.Bool.{cond-true}
use Rattle.std.proofs.lemmas.Option.{same_Some}
use Rattle.std.proofs.lemmas.List.{append_assoc, length-append}
use Rattle.std.proofs.lemmas.List.Elements.{All-head, All-tail}
use Rattle.formula_parse.specs.declared.callees.Callee.{Callee}
use Rattle.formula_parse.specs.declared.nodes.Node.{Node}
use Rattle.formula_parse.specs.declared.nodes.Node.TheVariants as nodes
use Rattle.formula_parse.specs.declared.operators.Operator.TheVariants as operators
use Rattle.formula_parse.specs.declared.reader.Frame.{Frame}
use Rattle.formula_parse.specs.declared.reader.OpenChain.{OpenChain}
use Rattle.formula_parse.specs.declared.reader.Opened.{Opened}
use Rattle.formula_parse.specs.declared.reader.Opened.TheVariants as opened
use Rattle.formula_parse.specs.declared.reader.Phase.TheVariants as phases
use Rattle.formula_parse.specs.declared.tokens.Token.{Token}
use Rattle.formula_parse.specs.declared.tokens.Token.TheVariants as tokens
use Rattle.formula_parse.specs.Grammar.{AreSigns, IsSigned, IsEnclosed, AreArguments, IsWritten}
use Rattle.formula_parse.specs.ReaderMachine.{Turn, operand_turn, with_frame, signed_node, operand_in_chains, tree_of_chains, calls_open}
use Rattle.formula_parse.proofs.Machine.{ran}
use Rattle.formula_parse.proofs.ChainLinks.{IsLooser}
use Rattle.formula_parse.proofs.TurnGrammar.{no_signs}
use Rattle.formula_parse.proofs.TurnRuns.{ran_behind, ran_through}

-- ---- what the turns make of a tree's tokens
-- a frame with other chains, and the frames outside it
abbrev pub with_chains : Frame → List Frame → List OpenChain → List Frame
with_chains frame frames chains = record frame { chains = chains } ∷ frames

-- behind these tokens the turns go on as if this tree had been read at once, with these chains round it; a looser operator, a `,`, a `)` and the end see no more than that
pub record IsTaken (frame : Frame) (frames : List Frame) (chains : List OpenChain) (written : List Token) (place : ℕ) (tree : Node) (round : List OpenChain) : Type 0 where
  pub operand : Node
  pub left : List OpenChain
  pub runs : ran (phases.Signs 0, with_chains frame frames chains) written ≡ Some (phases.After operand, with_chains frame frames left)
  pub bounds : (q : ℕ) → q < place → operand_in_chains q operand left ≡ operand_in_chains q tree round
  pub ends : tree_of_chains operand left ≡ tree_of_chains tree round

-- a tree at a place, in any frame of looser chains
abbrev pub IsTakenAt : Node → ℕ → List Token → Type 0
IsTakenAt tree place written = (frame : Frame) (frames : List Frame) (chains : List OpenChain) → IsLooser place chains → IsTaken frame frames chains written place tree chains

-- a tree behind any signs
abbrev pub IsTakenAlone : Node → List Token → Type 0
IsTakenAlone tree written = (minuses : ℕ) (frames : List Frame) → ran (phases.Signs minuses, frames) written ≡ Some (phases.After (signed_node minuses tree), frames)

-- all that a tree is written with is taken
pub record AreTaken (tree : Node) : Type 0 where
  pub alone : (written : List Token) → IsWritten tree 5 written → IsTakenAlone tree written
  pub placed : (place : ℕ) (written : List Token) → place ≤ 4 → IsWritten tree place written → IsTakenAt tree place written

-- ---- signs
-- the turns over signs
signs_run : (signs : List Token) (minuses count : ℕ) (frames : List Frame) → AreSigns count signs → ran (phases.Signs minuses, frames) signs ≡ Some (phases.Signs (minuses + count), frames)
signs_run [] minuses count frames h =
    let e : minuses ≡ minuses + count = omega arith in
    ap (λ n. Some (phases.Signs n, frames)) e
signs_run (tokens.Operator operators.Add ∷ signs) minuses count frames h = signs_run signs minuses count frames h
signs_run (tokens.Operator operators.Subtract ∷ signs) minuses count frames h =
    let e : suc minuses + h.0 ≡ minuses + count = omega (arith, h.1) in
    signs_run signs (suc minuses) h.0 frames h.2 ∙ ap (λ n. Some (phases.Signs n, frames)) e
signs_run (other ∷ signs) minuses count frames h = absurd h

-- the turns over an operand behind its signs
pub signed_run : (place count : ℕ) (Operand : List Token → Type 0) (tree : Node) (written : List Token) (frames : List Frame) → ((own : List Token) → Operand own → IsTakenAlone tree own) → IsSigned place count Operand written → ran (phases.Signs 0, frames) written ≡ Some (phases.After (signed_node count tree), frames)
signed_run place count Operand tree written frames taken w =
    let zero_more : 0 + count ≡ count = omega arith in
    let front = signs_run w.signs 0 count frames w.counted ∙ ap (λ n. Some (phases.Signs n, frames)) zero_more in
    ap (ran (phases.Signs 0, frames)) w.both ∙ ran_through (phases.Signs 0, frames) (phases.Signs count, frames) (phases.After (signed_node count tree), frames) w.signs w.operand front (taken w.operand w.own count frames)

-- an operand alone stands there with no signs
alone_run : (Operand : List Token → Type 0) (tree : Node) (written : List Token) → ((own : List Token) → Operand own → IsTakenAlone tree own) → IsSigned 5 0 Operand written → IsTakenAlone tree written
alone_run Operand tree written taken w minuses frames =
    let none = no_signs 5 w.signs (omega arith) w.room in
    ap (ran (phases.Signs minuses, frames)) (w.both ∙ ap (λ s. s ++ w.operand) none) ∙ taken w.operand w.own minuses frames

-- a tree that is an operand alone
pub operand_taken : (tree : Node) (Operand : List Token → Type 0) → ((place : ℕ) (written : List Token) → IsWritten tree place written → IsSigned place 0 Operand written) → ((own : List Token) → Operand own → IsTakenAlone tree own) → AreTaken tree
operand_taken tree Operand to taken = record {
  alone = λ written w. alone_run Operand tree written taken (to 5 written w);
  placed = λ place written low w frame frames chains looser. record {
    operand = tree;
    left = chains;
    runs = signed_run place 0 Operand tree written (with_chains frame frames chains) taken (to place written w);
    bounds = λ q within. refl;
    ends = refl;
  };
}

-- a tree of one token
pub token_taken : (tree : Node) (token : Token) → ((place : ℕ) (written : List Token) → IsWritten tree place written → IsSigned place 0 (λ operand. operand ≡ token ∷ []) written) → ((minuses : ℕ) (frames : List Frame) → operand_turn minuses frames token ≡ Some (phases.After (signed_node minuses tree), frames)) → AreTaken tree
token_taken tree token to turn = operand_taken tree (λ operand. operand ≡ token ∷ []) to (λ own e minuses frames. ap (ran (phases.Signs minuses, frames)) e ∙ token_run minuses frames (operand_turn minuses frames token) (turn minuses frames))
  where
    token_run : (minuses : ℕ) (frames : List Frame) (o : Option Turn) → o ≡ Some (phases.After (signed_node minuses tree), frames) → option_and_then (λ (next : Turn). ran next []) o ≡ Some (phases.After (signed_node minuses tree), frames)
    token_run minuses frames o e = ap (λ (o : Option Turn). option_and_then (λ (next : Turn). ran next []) o) e

-- ---- parentheses
-- the frame of what is opened behind signs
abbrev opened_frame : Opened → ℕ → ℕ → Frame
opened_frame what minuses calls = record { opened = what; minuses = minuses; calls = calls; chains = [] }

-- parentheses behind signs
pub parentheses_run : (tree : Node) (own : List Token) → AreTaken tree → IsEnclosed tokens.Open (IsWritten tree 0) own → IsTakenAlone (nodes.Parentheses tree) own
parentheses_run tree own taken w minuses frames =
    let frame = opened_frame opened.Parentheses minuses (calls_open frames) in
    let inner = taken.placed 0 w.0 (omega arith) w.2 frame frames [] tt in
    let whole = ap (λ node. Some (phases.After (signed_node minuses (nodes.Parentheses node)), frames)) inner.ends in
    ap (ran (phases.Signs minuses, frames)) w.1 ∙ ran_through (phases.Signs 0, with_chains frame frames []) (phases.After inner.operand, with_chains frame frames inner.left) (phases.After (signed_node minuses (nodes.Parentheses tree)), frames) w.0 (tokens.Close ∷ []) inner.runs whole

-- ---- calls
-- directly behind a name and `(` the turns go as behind no sign
start_run : (frames after : List Frame) (written : List Token) (operand : Node) → ran (phases.Signs 0, frames) written ≡ Some (phases.After operand, after) → ran (phases.Start, frames) written ≡ Some (phases.After operand, after)
start_run frames after [] operand h =
    let same : phases.Signs 0 ≡ phases.After operand = ap (λ (turn : Turn). turn.0) (same_Some (phases.Signs 0, frames) (phases.After operand, after) h) in
    cc
start_run frames after (tokens.Close ∷ written) operand h = cc
start_run frames after (token ∷ written) operand h = h

-- there is room for one argument more
room_is_left : (arguments : List Node) (last : Node) (more : ℕ) (callee : Callee) → length arguments + (2 + more) ≤ 255 → (if nat_lt (length arguments) 254 then Some (opened.Call callee (arguments ++ last ∷ [])) else None) ≡ Some (opened.Call callee (arguments ++ last ∷ []))
room_is_left arguments last more callee few = cond-true (nat_lt (length arguments) 254) _ _ (lt-ltb (length arguments) 254 (omega arith))

-- a `,` behind an argument
comma_run : (callee : Callee) (done : List Node) (minuses calls : ℕ) (frames : List Frame) (last x : Node) (rest : List Token) → (if nat_lt (length done) 254 then Some (opened.Call callee (done ++ last ∷ [])) else None) ≡ Some (opened.Call callee (done ++ last ∷ [])) → last ≡ x → option_and_then (λ (next : Turn). ran next rest) (option_map (λ more. (phases.Signs 0, with_frame more minuses calls frames)) (if nat_lt (length done) 254 then Some (opened.Call callee (done ++ last ∷ [])) else None)) ≡ ran (phases.Signs 0, with_frame (opened.Call callee (done ++ x ∷ [])) minuses calls frames) rest
comma_run callee done minuses calls frames last x rest room e =
    ap (λ (o : Option Opened). option_and_then (λ (next : Turn). ran next rest) (option_map (λ more. (phases.Signs 0, with_frame more minuses calls frames)) o)) room
    ∙ ap (λ node. ran (phases.Signs 0, with_frame (opened.Call callee (done ++ node ∷ [])) minuses calls frames) rest) e

-- the arguments of a call behind those that are done, and its `)`
arguments_run : (xs : List Node) (x : Node) (done : List Node) (callee : Callee) (minuses calls : ℕ) (frames : List Frame) (inner : List Token) → All AreTaken (x ∷ xs) → length done + length (x ∷ xs) ≤ 255 → AreArguments (map IsWritten (x ∷ xs)) inner → ran (phases.Signs 0, with_frame (opened.Call callee done) minuses calls frames) (inner ++ tokens.Close ∷ []) ≡ Some (phases.After (signed_node minuses (nodes.Call callee (done ++ x ∷ xs))), frames)
arguments_run [] x done callee minuses calls frames inner each few w =
    let frame = opened_frame (opened.Call callee done) minuses calls in
    let taken = All-head AreTaken x [] each in
    let last = taken.placed 0 inner (omega arith) w frame frames [] tt in
    let whole = ap (λ node. Some (phases.After (signed_node minuses (nodes.Call callee (done ++ node ∷ []))), frames)) last.ends in
    ran_through (phases.Signs 0, with_chains frame frames []) (phases.After last.operand, with_chains frame frames last.left) (phases.After (signed_node minuses (nodes.Call callee (done ++ x ∷ []))), frames) inner (tokens.Close ∷ []) last.runs whole
arguments_run (y ∷ ys) x done callee minuses calls frames inner each few w =
    let frame = opened_frame (opened.Call callee done) minuses calls in
    let taken = All-head AreTaken x (y ∷ ys) each in
    let one = taken.placed 0 w.0 (omega arith) w.3 frame frames [] tt in
    let more = length-append done (x ∷ []) in
    let rest = arguments_run ys y (done ++ x ∷ []) callee minuses calls frames w.1 (All-tail AreTaken x (y ∷ ys) each) (omega (arith, more)) w.4 in
    let room = room_is_left done (tree_of_chains one.operand one.left) (length ys) callee (omega arith) in
    let step = comma_run callee done minuses calls frames (tree_of_chains one.operand one.left) x (w.1 ++ tokens.Close ∷ []) room one.ends in
    let whole = ap (λ arguments. Some (phases.After (signed_node minuses (nodes.Call callee arguments)), frames)) (append_assoc done (x ∷ []) (y ∷ ys)) in
    ap (λ v. ran (phases.Signs 0, with_chains frame frames []) (v ++ tokens.Close ∷ [])) w.2
    ∙ ap (ran (phases.Signs 0, with_chains frame frames [])) (append_assoc w.0 (tokens.Comma ∷ w.1) (tokens.Close ∷ []))
    ∙ ran_behind (phases.Signs 0, with_chains frame frames []) (phases.After one.operand, with_chains frame frames one.left) w.0 (tokens.Comma ∷ (w.1 ++ tokens.Close ∷ [])) one.runs
    ∙ step
    ∙ rest
    ∙ whole

-- a whole call behind signs
pub call_run : (callee : Callee) (arguments : List Node) (own : List Token) → All AreTaken arguments → (length arguments ≤ 255) × IsEnclosed (tokens.Call callee) (AreArguments (map IsWritten arguments)) own → IsTakenAlone (nodes.Call callee arguments) own
call_run callee [] own each w minuses frames = ap (ran (phases.Signs minuses, frames)) (w.1.1 ∙ ap (λ inner. tokens.Call callee ∷ (inner ++ tokens.Close ∷ [])) w.1.2)
call_run callee (x ∷ xs) own each w minuses frames =
    let few : length {A = Node} [] + length (x ∷ xs) ≤ 255 = omega (arith, w.0) in
    ap (ran (phases.Signs minuses, frames)) w.1.1 ∙ start_run (with_frame (opened.Call callee []) minuses (suc (calls_open frames)) frames) frames (w.1.0 ++ tokens.Close ∷ []) (signed_node minuses (nodes.Call callee (x ∷ xs))) (arguments_run xs x [] callee minuses (suc (calls_open frames)) frames w.1.0 each few w.1.2)

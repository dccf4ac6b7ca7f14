-- Closing all that is open ends a formula.
use Rattle.std.proofs.Common.{◌≡◌, ◌⊎◌, inl, inr, ℕ, suc, false, List, [], ◌∷◌, ◌++◌, replicate, Some, IsSome, refl, sym, subst}
use Rattle.formula_parse.specs.declared.nodes.Node.{Node}
use Rattle.formula_parse.specs.declared.nodes.Node.TheVariants as nodes
use Rattle.formula_parse.specs.declared.reader.Frame.{Frame}
use Rattle.formula_parse.specs.declared.reader.OpenChain.{OpenChain}
use Rattle.formula_parse.specs.declared.reader.Opened.{Opened}
use Rattle.formula_parse.specs.declared.reader.Opened.TheVariants as opened
use Rattle.formula_parse.specs.declared.reader.Phase.{Phase}
use Rattle.formula_parse.specs.declared.reader.Phase.TheVariants as phases
use Rattle.formula_parse.specs.declared.tokens.Token.{Token}
use Rattle.formula_parse.specs.declared.tokens.Token.TheVariants as tokens
use Rattle.formula_parse.specs.ReaderMachine.{Turn, signed_node, tree_of_chains, awaits_operand}
use Rattle.formula_parse.proofs.Machine.{ran, ended_behind}
use Rattle.formula_parse.proofs.TurnStands.{Stands, IsOpened, IsBegun}

-- the whole formula is open outside all else, and nowhere else
abbrev IsClosable : Opened → List Frame → Type 0 → Type 0
IsClosable opened.Formula frames Outer = frames ≡ []
IsClosable opened.Parentheses frames Outer = Outer
IsClosable (opened.Call callee arguments) frames Outer = Outer

-- the same of each frame
abbrev pub AreClosable : List Frame → Type 0
AreClosable [] = ⊥
AreClosable (frame ∷ frames) = IsClosable frame.opened frames (AreClosable frames)

-- one frame is closable where those outside it are
opened_closable : (what : Opened) (frames : List Frame) (Outer : List Token → Type 0) (front : List Token) → ((before : List Token) → Outer before → AreClosable frames) → IsOpened what frames Outer front → IsClosable what frames (AreClosable frames)
opened_closable opened.Formula frames Outer front onward h = h.0
opened_closable opened.Parentheses frames Outer front onward h = onward h.0 h.2
opened_closable (opened.Call callee arguments) frames Outer front onward h = onward h.0 h.5

-- frames that stand for tokens are closable
stands_closable : (frames : List Frame) (phase : Phase) (written : List Token) → Stands phase frames written → AreClosable frames
stands_closable [] phase written h = h
stands_closable (frame ∷ frames) phase written h = opened_closable frame.opened frames (Stands (phases.Signs frame.minuses) frames) h.0 (λ before outer. stands_closable frames (phases.Signs frame.minuses) before outer) h.3

-- so many `)` end a formula behind a turn
abbrev pub IsEnded : Turn → Type 0
IsEnded turn = (count : ℕ) × (last : Turn) × (ran turn (replicate count tokens.Close) ≡ Some last) × IsSome (ended_behind last)

-- the whole formula may end, where nothing else is open
formula_ends : (operand : Node) (frame : Frame) (frames : List Frame) → frames ≡ [] → IsEnded (phases.After operand, frame ∷ frames)
formula_ends operand frame frames none = subst (λ fs. IsEnded (phases.After operand, frame ∷ fs)) (sym none) (0, (phases.After operand, frame ∷ []), refl, refl)

-- a `)` behind an operand closes one frame
frame_ends : (what : Opened) (minuses calls : ℕ) (chains : List OpenChain) (frames : List Frame) (operand : Node) → IsClosable what frames (AreClosable frames) → ((node : Node) → AreClosable frames → IsEnded (phases.After node, frames)) → IsEnded (phases.After operand, record { opened = what; minuses = minuses; calls = calls; chains = chains } ∷ frames)
frame_ends opened.Formula minuses calls chains frames operand c onward = formula_ends operand (record { opened = opened.Formula; minuses = minuses; calls = calls; chains = chains }) frames c
frame_ends opened.Parentheses minuses calls chains frames operand c onward =
    let e = onward (signed_node minuses (nodes.Parentheses (tree_of_chains operand chains))) c in
    (suc e.0, e.1, e.2, e.3)
frame_ends (opened.Call callee arguments) minuses calls chains frames operand c onward =
    let e = onward (signed_node minuses (nodes.Call callee (arguments ++ tree_of_chains operand chains ∷ []))) c in
    (suc e.0, e.1, e.2, e.3)

-- behind an operand, closing all that is open ends a formula
operand_ends : (frames : List Frame) (operand : Node) → AreClosable frames → IsEnded (phases.After operand, frames)
operand_ends [] operand c = absurd c
operand_ends (frame ∷ frames) operand c = frame_ends frame.opened frame.minuses frame.calls frame.chains frames operand c (λ node outer. operand_ends frames node outer)

-- directly behind a name and `(`, a `)` closes one frame
begun_ends : (what : Opened) (minuses calls : ℕ) (chains : List OpenChain) (frames : List Frame) → IsBegun what → IsClosable what frames (AreClosable frames) → IsEnded (phases.Start, record { opened = what; minuses = minuses; calls = calls; chains = chains } ∷ frames)
begun_ends opened.Formula minuses calls chains frames b c = absurd b
begun_ends opened.Parentheses minuses calls chains frames b c = absurd b
begun_ends (opened.Call callee arguments) minuses calls chains frames b c =
    let e = operand_ends frames (signed_node minuses (nodes.Call callee arguments)) c in
    (suc e.0, e.1, e.2, e.3)

-- directly behind a name and `(`, closing all that is open ends a formula
start_ends : (frames : List Frame) (written : List Token) → Stands phases.Start frames written → IsEnded (phases.Start, frames)
start_ends [] written h = absurd h
start_ends (frame ∷ frames) written h = begun_ends frame.opened frame.minuses frame.calls frame.chains frames h.4.0 (stands_closable (frame ∷ frames) phases.Start written h)

-- behind an operand, or directly behind a name and `(`, closing all that is open ends a formula
pub turn_ends : (phase : Phase) (frames : List Frame) (written : List Token) → Stands phase frames written → (awaits_operand phase ≡ false) ⊎ (phase ≡ phases.Start) → IsEnded (phase, frames)
turn_ends phases.Start frames written h a = start_ends frames written h
turn_ends (phases.Signs minuses) frames written h (inl a) = cc
turn_ends (phases.Signs minuses) frames written h (inr a) = cc
turn_ends (phases.After operand) frames written h a = operand_ends frames operand (stands_closable frames (phases.After operand) written h)

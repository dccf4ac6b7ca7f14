-- A turn stands for the tokens up to it, and each turn keeps that.
use Rattle.std.proofs.Common.{◌≡◌, inr, ℕ, suc, ◌<◌, ◌≤◌, Bool, true, false, List, [], ◌∷◌, ◌++◌, map, length, Some, None, option_map, refl, sym, ap, ◌∙◌, subst, arith, ltb-true}
use Rattle.std.specs.Prelude.{nat_lt, if◌then◌else◌}
use Rattle.std.proofs.lemmas.List.{append_assoc, append-nil, length-append}
use Rattle.formula_parse.specs.declared.callees.Callee.{Callee}
use Rattle.formula_parse.specs.declared.nodes.Node.{Node}
use Rattle.formula_parse.specs.declared.nodes.Node.TheVariants as nodes
use Rattle.formula_parse.specs.declared.operators.Operator.{Operator}
use Rattle.formula_parse.specs.declared.operators.Operator.TheVariants as operators
use Rattle.formula_parse.specs.declared.reader.Frame.{Frame}
use Rattle.formula_parse.specs.declared.reader.OpenChain.{OpenChain}
use Rattle.formula_parse.specs.declared.reader.Opened.{Opened}
use Rattle.formula_parse.specs.declared.reader.Opened.TheVariants as opened
use Rattle.formula_parse.specs.declared.reader.Phase.{Phase}
use Rattle.formula_parse.specs.declared.reader.Phase.TheVariants as phases
use Rattle.formula_parse.specs.declared.tokens.Token.{Token}
use Rattle.formula_parse.specs.declared.tokens.Token.TheVariants as tokens
use Rattle.formula_parse.specs.Grammar.{place_of, Written, AreSigns, IsSigned, IsOne, AreArguments, IsWritten}
use Rattle.formula_parse.specs.ReaderMachine.{Turn, turn_at, operand_turn, start_turn, after_turn, empty_call, after_operand, closing, with_argument, with_frame, signed_node, operand_in_chains, chains_behind, tree_of_chains, tree_at_end}
use Rattle.formula_parse.proofs.Machine.{first_turn, ran}
use Rattle.formula_parse.proofs.NodeLaws.{number_is_written, text_is_written, error_is_written, boolean_is_written, reference_is_written, area_is_written, call_is_written, parentheses_is_written}
use Rattle.formula_parse.proofs.ChainLinks.{AreChains, bound_written, chained_written, finished_written, chains_are_low}
use Rattle.formula_parse.proofs.TurnGrammar.{place_is_low, written_from, written_signed, signs_with_plus, signs_with_minus}
use Rattle.formula_parse.proofs.TurnRuns.{Of, kept_by_run}

-- ---- what a turn stands for
-- a call without arguments as yet
abbrev pub IsBegun : Opened → Type 0
IsBegun opened.Formula = ⊥
IsBegun opened.Parentheses = ⊥
IsBegun (opened.Call callee []) = Unit {0}
IsBegun (opened.Call callee (argument ∷ arguments)) = ⊥

-- the tokens behind what was opened last, or behind the last `,` in it
abbrev pub IsInside : Opened → List OpenChain → Phase → List Token → Type 0
IsInside what chains phases.Start inner = IsBegun what × (chains ≡ []) × (inner ≡ [])
IsInside what chains (phases.Signs minuses) inner = (front signs : List Token) × (inner ≡ front ++ signs) × AreChains chains front × AreSigns minuses signs
IsInside what chains (phases.After operand) inner = (front own : List Token) × (inner ≡ front ++ own) × AreChains chains front × IsWritten operand 4 own

-- arguments, each with a `,` behind it
abbrev pub AreDone : List Node → List Token → Type 0
AreDone [] inner = inner ≡ []
AreDone (x ∷ xs) inner = (argument rest : List Token) × (inner ≡ argument ++ tokens.Comma ∷ rest) × IsWritten x 0 argument × AreDone xs rest

-- the tokens up to there, where those in front of what was opened have a fact of their own
abbrev pub IsOpened : Opened → List Frame → (List Token → Type 0) → List Token → Type 0
IsOpened opened.Formula frames Outer front = (frames ≡ []) × (front ≡ [])
IsOpened opened.Parentheses frames Outer front = (before : List Token) × (front ≡ before ++ tokens.Open ∷ []) × Outer before
IsOpened (opened.Call callee arguments) frames Outer front = (before done : List Token) × (front ≡ before ++ tokens.Call callee ∷ done) × AreDone arguments done × (length arguments ≤ 254) × Outer before

-- the tokens for which a phase and frames stand
abbrev pub Stands : Phase → List Frame → List Token → Type 0
Stands phase [] written = ⊥
Stands phase (frame ∷ frames) written = (front inner : List Token) × (written ≡ front ++ inner) × IsOpened frame.opened frames (Stands (phases.Signs frame.minuses) frames) front × IsInside frame.opened frame.chains phase inner

-- the tokens for which a turn stands
abbrev pub StandsFor : Turn → List Token → Type 0
StandsFor turn written = Stands turn.0 turn.1 written

-- ---- an operand or a sign
-- more tokens behind two lists
more_behind : (front inner more written : List Token) → written ≡ front ++ inner → written ++ more ≡ front ++ (inner ++ more)
more_behind front inner more written e = ap (λ w. w ++ more) e ∙ append_assoc front inner more

-- directly behind a name and `(` there are no signs
begun_signs : (what : Opened) (chains : List OpenChain) (inner : List Token) → IsInside what chains phases.Start inner → IsInside what chains (phases.Signs 0) inner
begun_signs what chains inner h = ([], [], h.2, subst (λ cs. AreChains cs []) (sym h.1) refl, refl)

-- the same of all frames
start_stands_as_signs : (frames : List Frame) (written : List Token) → Stands phases.Start frames written → Stands (phases.Signs 0) frames written
start_stands_as_signs [] written h = h
start_stands_as_signs (frame ∷ frames) written h = (h.0, h.1, h.2, h.3, begun_signs frame.opened frame.chains h.1 h.4)

-- an operand alone behind signs
operand_behind_signs : (minuses : ℕ) (frames : List Frame) (written : List Token) (operand : Node) (own : List Token) → Stands (phases.Signs minuses) frames written → IsWritten operand 5 own → Stands (phases.After (signed_node minuses operand)) frames (written ++ own)
operand_behind_signs minuses [] written operand own h w = h
operand_behind_signs minuses (frame ∷ frames) written operand own h w =
    let i = h.4 in (
      h.0,
      h.1 ++ own,
      more_behind h.0 h.1 own written h.2,
      h.3,
      (i.0, i.1 ++ own, more_behind i.0 i.1 own h.1 i.2, i.3, written_signed minuses operand i.1 own i.4 w),
    )

-- one more sign behind signs
sign_behind_signs : (minuses more : ℕ) (sign : Token) (frames : List Frame) (written : List Token) → ((signs : List Token) → AreSigns minuses signs → AreSigns more (signs ++ sign ∷ [])) → Stands (phases.Signs minuses) frames written → Stands (phases.Signs more) frames (written ++ sign ∷ [])
sign_behind_signs minuses more sign [] written counted h = h
sign_behind_signs minuses more sign (frame ∷ frames) written counted h =
    let i = h.4 in (
      h.0,
      h.1 ++ sign ∷ [],
      more_behind h.0 h.1 (sign ∷ []) written h.2,
      h.3,
      (i.0, i.1 ++ sign ∷ [], more_behind i.0 i.1 (sign ∷ []) h.1 i.2, i.3, counted i.1 i.4),
    )

-- an operand of tokens alone
alone : (Operand : List Token → Type 0) (own : List Token) → Operand own → IsSigned 5 0 Operand own
alone Operand own w = record { signs = []; operand = own; both = refl; room = inr refl; counted = refl; own = w }

-- a token that is an operand by itself
one : (token : Token) → IsOne 5 token (token ∷ [])
one token = alone (λ operand. operand ≡ token ∷ []) (token ∷ []) refl

-- a turn behind signs
operand_stands : (minuses : ℕ) (frames : List Frame) (written : List Token) (token : Token) → Stands (phases.Signs minuses) frames written → Of (λ next. StandsFor next (written ++ token ∷ [])) (operand_turn minuses frames token)
operand_stands minuses frames written (tokens.Number n) h = operand_behind_signs minuses frames written (nodes.Number n) (tokens.Number n ∷ []) h (written_from (number_is_written n) 5 (tokens.Number n ∷ []) (one (tokens.Number n)))
operand_stands minuses frames written (tokens.Text t) h = operand_behind_signs minuses frames written (nodes.Text t) (tokens.Text t ∷ []) h (written_from (text_is_written t) 5 (tokens.Text t ∷ []) (one (tokens.Text t)))
operand_stands minuses frames written (tokens.Error e) h = operand_behind_signs minuses frames written (nodes.Error e) (tokens.Error e ∷ []) h (written_from (error_is_written e) 5 (tokens.Error e ∷ []) (one (tokens.Error e)))
operand_stands minuses frames written (tokens.Boolean b) h = operand_behind_signs minuses frames written (nodes.Boolean b) (tokens.Boolean b ∷ []) h (written_from (boolean_is_written b) 5 (tokens.Boolean b ∷ []) (one (tokens.Boolean b)))
operand_stands minuses frames written (tokens.Reference r) h = operand_behind_signs minuses frames written (nodes.Reference r) (tokens.Reference r ∷ []) h (written_from (reference_is_written r) 5 (tokens.Reference r ∷ []) (one (tokens.Reference r)))
operand_stands minuses frames written (tokens.Area a b) h = operand_behind_signs minuses frames written (nodes.Area a b) (tokens.Area a b ∷ []) h (written_from (area_is_written a b) 5 (tokens.Area a b ∷ []) (one (tokens.Area a b)))
operand_stands minuses frames written (tokens.Call callee) h = (written ++ tokens.Call callee ∷ [], [], sym (append-nil (written ++ tokens.Call callee ∷ [])), (written, [], refl, refl, omega arith, h), (tt, refl, refl))
operand_stands minuses frames written tokens.Open h = (written ++ tokens.Open ∷ [], [], sym (append-nil (written ++ tokens.Open ∷ [])), (written, refl, h), ([], [], refl, refl, refl))
operand_stands minuses frames written tokens.Close h = tt
operand_stands minuses frames written tokens.Comma h = tt
operand_stands minuses frames written (tokens.Operator operators.Add) h = sign_behind_signs minuses minuses (tokens.Operator operators.Add) frames written (signs_with_plus minuses) h
operand_stands minuses frames written (tokens.Operator operators.Subtract) h = sign_behind_signs minuses (suc minuses) (tokens.Operator operators.Subtract) frames written (signs_with_minus minuses) h
operand_stands minuses frames written (tokens.Operator op) h = tt

-- ---- a `)`
-- arguments and a last one
done_whole : (arguments : List Node) (last : Node) (done own : List Token) → AreDone arguments done → IsWritten last 0 own → AreArguments (map IsWritten (arguments ++ last ∷ [])) (done ++ own)
done_whole [] last done own h w = subst (λ d. IsWritten last 0 (d ++ own)) (sym h) w
done_whole (x ∷ xs) last done own h w = argument_more (IsWritten x) (map IsWritten (xs ++ last ∷ [])) h.0 (h.1 ++ own) (done ++ own) (ap (λ d. d ++ own) h.2 ∙ append_assoc h.0 (tokens.Comma ∷ h.1) own) h.3 (some_arguments xs last) (done_whole xs last h.1 own h.4 w)
  where
    some_arguments : (xs : List Node) (last : Node) → 0 < length (map IsWritten (xs ++ last ∷ []))
    some_arguments [] last = omega arith
    some_arguments (x ∷ xs) last = omega arith

    argument_more : (X : Written) (Xs : List Written) (argument rest inner : List Token) → inner ≡ argument ++ tokens.Comma ∷ rest → X 0 argument → 0 < length Xs → AreArguments Xs rest → AreArguments (X ∷ Xs) inner
    argument_more X [] argument rest inner e w some h = absurd (omega arith)
    argument_more X (Y ∷ Xs) argument rest inner e w some h = (argument, rest, e, w, h)

-- a whole call behind signs
call_behind_signs : (minuses : ℕ) (frames : List Frame) (callee : Callee) (arguments : List Node) (before inner written : List Token) → written ≡ before ++ tokens.Call callee ∷ (inner ++ tokens.Close ∷ []) → length arguments ≤ 255 → AreArguments (map IsWritten arguments) inner → Stands (phases.Signs minuses) frames before → Stands (phases.After (signed_node minuses (nodes.Call callee arguments))) frames written
call_behind_signs minuses frames callee arguments before inner written e few w h =
    let own = tokens.Call callee ∷ (inner ++ tokens.Close ∷ []) in
    subst (Stands (phases.After (signed_node minuses (nodes.Call callee arguments))) frames) (sym e)
    (operand_behind_signs minuses frames before (nodes.Call callee arguments) own h
    (written_from (call_is_written callee arguments) 5 own (few, alone _ own (inner, refl, w))))

-- whole parentheses behind signs
parentheses_behind_signs : (minuses : ℕ) (frames : List Frame) (last : Node) (before inner written : List Token) → written ≡ before ++ tokens.Open ∷ (inner ++ tokens.Close ∷ []) → IsWritten last 0 inner → Stands (phases.Signs minuses) frames before → Stands (phases.After (signed_node minuses (nodes.Parentheses last))) frames written
parentheses_behind_signs minuses frames last before inner written e w h =
    let own = tokens.Open ∷ (inner ++ tokens.Close ∷ []) in
    subst (Stands (phases.After (signed_node minuses (nodes.Parentheses last))) frames) (sym e)
    (operand_behind_signs minuses frames before (nodes.Parentheses last) own h
    (written_from (parentheses_is_written last) 5 own (alone _ own (inner, refl, w))))

-- the tokens of an opening token, of what is done in it, of its last part and one more
enclosed_tokens : (before done inner front written : List Token) (opening closing : Token) → written ≡ front ++ inner → front ≡ before ++ opening ∷ done → written ++ closing ∷ [] ≡ before ++ opening ∷ ((done ++ inner) ++ closing ∷ [])
enclosed_tokens before done inner front written opening closing e f =
    ap (λ w. w ++ closing ∷ []) (e ∙ ap (λ w. w ++ inner) f ∙ append_assoc before (opening ∷ done) inner) ∙ append_assoc before (opening ∷ (done ++ inner)) (closing ∷ [])

-- a `)` behind an operand
close_stands : (what : Opened) (minuses : ℕ) (frames : List Frame) (last : Node) (front inner written : List Token) → written ≡ front ++ inner → IsOpened what frames (Stands (phases.Signs minuses) frames) front → IsWritten last 0 inner → Of (λ (next : Turn). StandsFor next (written ++ tokens.Close ∷ [])) (after_operand minuses frames (closing what last))
close_stands opened.Formula minuses frames last front inner written e h w = tt
close_stands opened.Parentheses minuses frames last front inner written e h w = parentheses_behind_signs minuses frames last h.0 inner (written ++ tokens.Close ∷ []) (enclosed_tokens h.0 [] inner front written tokens.Open tokens.Close e h.1) w h.2
close_stands (opened.Call callee arguments) minuses frames last front inner written e h w =
    let few = length-append arguments (last ∷ []) in
    call_behind_signs minuses frames callee (arguments ++ last ∷ []) h.0 (h.1 ++ inner) (written ++ tokens.Close ∷ []) (enclosed_tokens h.0 h.1 inner front written (tokens.Call callee) tokens.Close e h.2) (omega (arith, few, h.4)) (done_whole arguments last h.1 inner h.3 w) h.5

-- a `)` directly behind a name and `(`
empty_stands : (frames : List Frame) (written : List Token) → Stands phases.Start frames written → Of (λ (next : Turn). StandsFor next (written ++ tokens.Close ∷ [])) (empty_call frames)
empty_stands [] written h = absurd h
empty_stands (frame ∷ frames) written h = empty_frame_stands frame.opened frame.minuses frame.calls frame.chains frames h.0 h.1 written h.2 h.3 h.4
  where
    empty_frame_stands : (what : Opened) (minuses calls : ℕ) (chains : List OpenChain) (frames : List Frame) (front inner written : List Token) → written ≡ front ++ inner → IsOpened what frames (Stands (phases.Signs minuses) frames) front → IsInside what chains phases.Start inner → Of (λ (next : Turn). StandsFor next (written ++ tokens.Close ∷ [])) (empty_call (record { opened = what; minuses = minuses; calls = calls; chains = chains } ∷ frames))
    empty_frame_stands opened.Formula minuses calls chains frames front inner written e h i = tt
    empty_frame_stands opened.Parentheses minuses calls chains frames front inner written e h i = tt
    empty_frame_stands (opened.Call callee []) minuses calls chains frames front inner written e h i =
        call_behind_signs minuses frames callee [] h.0 (h.1 ++ inner) (written ++ tokens.Close ∷ []) (enclosed_tokens h.0 h.1 inner front written (tokens.Call callee) tokens.Close e h.2) (omega arith) (ap (λ d. d ++ inner) h.3 ∙ i.2) h.5
    empty_frame_stands (opened.Call callee (argument ∷ arguments)) minuses calls chains frames front inner written e h i = absurd i.0

-- ---- a `,`
-- one more argument with a `,` behind it
done_more : (arguments : List Node) (last : Node) (done own : List Token) → AreDone arguments done → IsWritten last 0 own → AreDone (arguments ++ last ∷ []) (done ++ own ++ tokens.Comma ∷ [])
done_more [] last done own h w = (own, [], ap (λ d. d ++ own ++ tokens.Comma ∷ []) h, w, refl)
done_more (x ∷ xs) last done own h w = (h.0, h.1 ++ own ++ tokens.Comma ∷ [], ap (λ d. d ++ own ++ tokens.Comma ∷ []) h.2 ∙ ap (λ d. d ++ tokens.Comma ∷ []) (append_assoc h.0 (tokens.Comma ∷ h.1) own) ∙ append_assoc h.0 (tokens.Comma ∷ (h.1 ++ own)) (tokens.Comma ∷ []), h.3, done_more xs last h.1 own h.4 w)

-- a `,` behind an operand
comma_stands : (what : Opened) (minuses calls : ℕ) (frames : List Frame) (last : Node) (front inner written : List Token) → written ≡ front ++ inner → IsOpened what frames (Stands (phases.Signs minuses) frames) front → IsWritten last 0 inner → Of (λ (next : Turn). StandsFor next (written ++ tokens.Comma ∷ [])) (option_map (λ more. (phases.Signs 0, with_frame more minuses calls frames)) (with_argument what last))
comma_stands opened.Formula minuses calls frames last front inner written e h w = tt
comma_stands opened.Parentheses minuses calls frames last front inner written e h w = tt
comma_stands (opened.Call callee arguments) minuses calls frames last front inner written e h w = comma_stands_where (nat_lt (length arguments) 254) refl
  where
    comma_stands_where : (has_room : Bool) → nat_lt (length arguments) 254 ≡ has_room → Of (λ (next : Turn). StandsFor next (written ++ tokens.Comma ∷ [])) (option_map (λ more. (phases.Signs 0, with_frame more minuses calls frames)) (if has_room then Some (opened.Call callee (arguments ++ last ∷ [])) else None))
    comma_stands_where false r = tt
    comma_stands_where true r =
        let few = ltb-true (length arguments) 254 r in
        let more = length-append arguments (last ∷ []) in (
          written ++ tokens.Comma ∷ [],
          [],
          sym (append-nil (written ++ tokens.Comma ∷ [])),
          (h.0, h.1 ++ inner ++ tokens.Comma ∷ [], enclosed_tokens h.0 h.1 inner front written (tokens.Call callee) tokens.Comma e h.2, done_more arguments last h.1 inner h.3 w, omega arith, h.5),
          ([], [], refl, refl, refl),
        )

-- ---- a turn
-- all chains of a frame closed round its last operand
inside_finished : (what : Opened) (chains : List OpenChain) (operand : Node) (inner : List Token) → IsInside what chains (phases.After operand) inner → IsWritten (tree_of_chains operand chains) 0 inner
inside_finished what chains operand inner i = subst (IsWritten (tree_of_chains operand chains) 0) (sym i.2) (finished_written chains operand 4 i.0 i.1 i.3 (chains_are_low chains) i.4)

-- an operator behind the last operand of a frame
inside_joined : (what : Opened) (chains : List OpenChain) (operand : Node) (op : Operator) (inner : List Token) → IsInside what chains (phases.After operand) inner → IsInside what (chains_behind operand op chains) (phases.Signs 0) (inner ++ tokens.Operator op ∷ [])
inside_joined what chains operand op inner i =
    let low = place_is_low op in
    let b = bound_written (place_of op) chains operand 4 i.0 i.1 (omega arith) i.3 (chains_are_low chains) i.4 in
    let c = chained_written op (operand_in_chains (place_of op) operand chains) (i.0 ++ i.1) b in
    (inner ++ tokens.Operator op ∷ [], [], sym (append-nil (inner ++ tokens.Operator op ∷ [])), subst (λ w. AreChains (chains_behind operand op chains) (w ++ tokens.Operator op ∷ [])) (sym i.2) c, refl)

-- a turn behind an operand
after_stands : (operand : Node) (frames : List Frame) (written : List Token) (token : Token) → Stands (phases.After operand) frames written → Of (λ next. StandsFor next (written ++ token ∷ [])) (after_turn operand frames token)
after_stands operand [] written token h = absurd h
after_stands operand (frame ∷ frames) written (tokens.Operator op) h = (h.0, h.1 ++ tokens.Operator op ∷ [], more_behind h.0 h.1 (tokens.Operator op ∷ []) written h.2, h.3, inside_joined frame.opened frame.chains operand op h.1 h.4)
after_stands operand (frame ∷ frames) written tokens.Close h = close_stands frame.opened frame.minuses frames (tree_of_chains operand frame.chains) h.0 h.1 written h.2 h.3 (inside_finished frame.opened frame.chains operand h.1 h.4)
after_stands operand (frame ∷ frames) written tokens.Comma h = comma_stands frame.opened frame.minuses frame.calls frames (tree_of_chains operand frame.chains) h.0 h.1 written h.2 h.3 (inside_finished frame.opened frame.chains operand h.1 h.4)
after_stands operand (frame ∷ frames) written token h = tt

-- a turn directly behind a name and `(`
start_stands : (frames : List Frame) (written : List Token) (token : Token) → Stands phases.Start frames written → Of (λ next. StandsFor next (written ++ token ∷ [])) (start_turn frames token)
start_stands frames written tokens.Close h = empty_stands frames written h
start_stands frames written token h = operand_stands 0 frames written token (start_stands_as_signs frames written h)

-- each turn stands for one token more
turn_stands : (phase : Phase) (frames : List Frame) (written : List Token) (token : Token) → Stands phase frames written → Of (λ next. StandsFor next (written ++ token ∷ [])) (turn_at phase frames token)
turn_stands phases.Start frames written token h = start_stands frames written token h
turn_stands (phases.Signs minuses) frames written token h = operand_stands minuses frames written token h
turn_stands (phases.After operand) frames written token h = after_stands operand frames written token h

-- the turn behind all tokens stands for them
pub run_stands : (written : List Token) (turn : Turn) → ran first_turn written ≡ Some turn → StandsFor turn written
run_stands written turn e = kept_by_run StandsFor (λ turn front token h. turn_stands turn.0 turn.1 front token h) first_turn turn written ([], [], refl, (refl, refl), ([], [], refl, refl, refl)) e

-- ---- the end
-- the tree of the only frame
whole_stands : (what : Opened) (minuses : ℕ) (chains : List OpenChain) (operand : Node) (front inner written : List Token) → written ≡ front ++ inner → IsOpened what [] (Stands (phases.Signs minuses) []) front → IsInside what chains (phases.After operand) inner → IsWritten (tree_of_chains operand chains) 0 written
whole_stands opened.Formula minuses chains operand front inner written e h i = subst (IsWritten (tree_of_chains operand chains) 0) (sym (e ∙ ap (λ f. f ++ inner) h.1)) (inside_finished opened.Formula chains operand inner i)
whole_stands opened.Parentheses minuses chains operand front inner written e h i = absurd h.2
whole_stands (opened.Call callee arguments) minuses chains operand front inner written e h i = absurd h.5

-- where tokens may end, they write the tree
pub ended_stands : (phase : Phase) (frames : List Frame) (written : List Token) → Stands phase frames written → Of (λ tree. IsWritten tree 0 written) (tree_at_end phase frames)
ended_stands phases.Start frames written h = tt
ended_stands (phases.Signs minuses) frames written h = tt
ended_stands (phases.After operand) [] written h = tt
ended_stands (phases.After operand) (frame ∷ []) written h = whole_stands frame.opened frame.minuses frame.chains operand h.0 h.1 written h.2 h.3 h.4
ended_stands (phases.After operand) (frame ∷ other ∷ frames) written h = tt

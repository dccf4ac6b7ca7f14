-- A book with the number of its recalculation answers as the host for whose state it stands.
use Rattle.std.proofs.Common.{◌≡◌, ◌⊎◌, inl, inr, ℕ, ◌+◌, Bool, true, false, ◌&&◌, cond, List, [], ◌∷◌, ◌++◌, map, length, length-append, arith, nat_lt, Option, None, Some, is_some, Result, Ok, Err, IfOk, OnErr, refl, ap, sym, subst, ◌∙◌, rules}
use Rattle.std.specs.List.{filter, filter_map, list_any}
use Rattle.std.specs.Option.{option_map_or}
use Rattle.std.specs.Str.{bytes_eq}
use Rattle.addin_types.specs.declared.calls.Call.{Call}
use Rattle.calc_book.specs.CalcState.{asked_calls}
use Rattle.cell_refs.specs.declared.grid.Cell.{Cell}
use Rattle.cell_refs.specs.Cell.{is_among}
use Rattle.cell_values.specs.declared.topics.Topic.{Topic}
use Rattle.cell_values.specs.declared.values.Value.{Value}
use Rattle.clean_cells.specs.Keeping.{KeepsClean}
use Rattle.clean_cells.proofs.PublicLaws.{still_kept}
use Rattle.rtd_server.specs.Server.{ServerState}
use Rattle.rtd_topics.specs.Parts.{rtd_of}
use Rattle.workbook.specs.declared.books.SetFault.{SetFault}
use Rattle.workbook.specs.declared.books.SetFault.TheVariants as faults
use Rattle.workbook.specs.declared.commands.Command.{Command}
use Rattle.workbook.specs.declared.commands.Command.TheVariants as commands
use Rattle.workbook.specs.declared.commands.Moment.{Moment}
use Rattle.workbook.specs.declared.contents.Content.{Content}
use Rattle.workbook.specs.declared.history.Entry.{Entry}
use Rattle.workbook.specs.declared.replies.Reply.{Reply}
use Rattle.workbook.specs.declared.replies.Reply.TheVariants as replies
use Rattle.workbook.specs.Book.{IsRefusal, exceeds_cells, exceeds_formulas, limit_fault}
use Rattle.workbook.specs.History.{Attempt, commands_of, state_after_all, state_of}
use Rattle.workbook.specs.Meaning.{meaning}
use Rattle.workbook.specs.Pulling.{Due, Now, changed_topics, is_flagged, names_of_failed, pull_due}
use Rattle.workbook.specs.Stale.{stale_cells}
use Rattle.workbook.specs.State.{HostTerms, KnownServer, RunningRound, State, call_at, call_of_meaning, first_state, open_calls, setting_of, stale_of}
use Rattle.workbook.specs.Step.{effect_of, reply_to, reply_to_settle, reply_unless_busy, reply_unless_idle, reply_when_due, servers_with_flag, state_after}
use Rattle.workbook.proofs.PublicLaws.{or_false}
use Rattle.host_core.specs.declared.round_books.RoundBook.{RoundBook}
use Rattle.host_core.specs.HostKeeping.{Keeps, calc_of, is_known}
use Rattle.host_core.specs.HostState.{Answers}
use Rattle.host_core.specs.Standing.{IsSettledStep, IsStep, KeepsStates, Stands, StandsSettled, terms_with}
use Rattle.host_core.proofs.TopicRounds.{listed_stale}

-- ---- one more entry of a history
after_one : (t : HostTerms) (s : State) (history : List Entry) (entry : Entry)
    → state_after_all t s (commands_of (history ++ entry ∷ [])) ≡ state_after t [] (state_after_all t s (commands_of history)) entry.command
after_one t s [] entry = refl
after_one t s (first ∷ others) entry = after_one t (state_after t [] s first.command) others entry

-- the state after one more entry is that after its command
pub state-grows : (t : HostTerms) (history : List Entry) (entry : Entry)
    → state_of t (history ++ entry ∷ []) ≡ state_after t [] (state_of t history) entry.command
state-grows t history entry = after_one t first_state history entry

-- ---- steps
-- what commands keep is kept at one
pub clean_after : (t : HostTerms) (s : State) (command : Command) → KeepsClean t s → KeepsClean t (state_after t [] s command)
clean_after t s command clean = still_kept t s ((record { command = command; failed = [] }) ∷ []) clean

module _ {S : Type 0} (state : S → ServerState) (answer : Answers) where
  -- what is kept by the parts of a book
  abbrev pub BookKeeps : HostTerms → RoundBook S → ℕ → Bool → State → List Cell → Type 0
  BookKeeps t b round running s noted = Keeps t b.calc (rtd_of state b.rtd) b.events b.log round running s noted

  -- what a book keeps that stands for a state, where its recalculation runs or not
  pub kept_at : (t : HostTerms) (b : RoundBook S) (s : State) (runs : Bool) → b.running ≡ runs → (stands : Stands state t b s) → BookKeeps t b b.round runs s stands.noted
  kept_at t b s runs was stands = subst (λ running. BookKeeps t b b.round running s stands.noted) was stands.kept

  -- what follows a state at a command
  pub record Next (t : HostTerms) (before : State) (new : RoundBook S) (running : Bool) (command : Command) (reply : Reply) : Type 0 where
    pub noted : List Cell
    pub said : reply ≡ reply_to t [] before command
    pub kept : KeepsClean t (effect_of t [] before command reply) → BookKeeps t new new.round running (effect_of t [] before command reply) noted

  -- so the new book stands for what follows
  pub stands_next : (t : HostTerms) (s : State) (new : RoundBook S) (after : Bool) (command : Command) (reply : Reply) → new.running ≡ after → KeepsClean t s → Next t s new after command reply
      → (reply ≡ reply_to t [] s command) × Stands state t new (state_after t [] s command)
  stands_next t s new after command reply is clean n = (
    n.said,
    record {
      noted = n.noted;
      kept =
          subst (λ running. BookKeeps t new new.round running (state_after t [] s command) n.noted) (sym is)
          (subst (λ r. BookKeeps t new new.round after (effect_of t [] s command r) n.noted) n.said
          (n.kept (subst (λ r. KeepsClean t (effect_of t [] s command r)) (sym n.said) (clean_after t s command clean))));
    },
  )

  -- a book that goes on so answers by the step of the state
  pub step_of : (old new : RoundBook S) (before after : Bool) (command : Command) (reply : Reply) → old.running ≡ before → new.running ≡ after
      → ((session limit : ℕ) (s : State) (noted : List Cell) → BookKeeps (terms_with answer session limit) old old.round before s noted → Next (terms_with answer session limit) s new after command reply)
      → IsStep state answer old new command reply
  step_of old new before after command reply was is next session limit s stands =
      let t = terms_with answer session limit in
      let k = kept_at t old s before was stands in
      stands_next t s new after command reply is k.clean (next session limit s stands.noted k)

  pub settled_step_of : (old new : RoundBook S) (after : Bool) (command : Command) (reply : Reply) → new.running ≡ after
      → ((session limit : ℕ) (s : State) (settled : StandsSettled state (terms_with answer session limit) old s) → Next (terms_with answer session limit) s new after command reply)
      → IsSettledStep state answer old new command reply
  settled_step_of old new after command reply is next session limit s settled =
      stands_next (terms_with answer session limit) s new after command reply is settled.kept.clean (next session limit s settled)

  -- a command that leaves the state as it is
  pub step_aside : (b : RoundBook S) (before : Bool) (command : Command) (reply : Reply) → b.running ≡ before
      → ((session limit : ℕ) (s : State) (noted : List Cell) → BookKeeps (terms_with answer session limit) b b.round before s noted
      → (reply ≡ reply_to (terms_with answer session limit) [] s command) × (effect_of (terms_with answer session limit) [] s command reply ≡ s))
      → IsStep state answer b b command reply
  step_aside b before command reply was says =
      step_of b b before before command reply was was (λ session limit s noted kept.
      let t = terms_with answer session limit in
      let said = says session limit s noted kept in record {
        noted = noted;
        said = said.0;
        kept = λ clean. subst (λ later. BookKeeps t b b.round before later noted) (sym said.1) kept;
      })

  -- a book that keeps what it keeps stands for the same states
  pub states_of : (old new : RoundBook S) (runs : Bool) → old.running ≡ runs → new.round ≡ old.round → new.running ≡ old.running
      → ((session limit : ℕ) (s : State) (noted : List Cell) → BookKeeps (terms_with answer session limit) old old.round runs s noted → BookKeeps (terms_with answer session limit) new old.round runs s noted)
      → KeepsStates state answer old new
  states_of old new runs was round is kept session limit s stands =
      let t = terms_with answer session limit in record {
        noted = stands.noted;
        kept =
            subst (λ n. BookKeeps t new n new.running s stands.noted) (sym round)
            (subst (λ r. BookKeeps t new old.round r s stands.noted) (sym (is ∙ was))
            (kept session limit s stands.noted (kept_at t old s runs was stands)));
      }

-- ---- replies
module _ (s : State) where
  -- where a recalculation runs
  pub busy_reply : (round : ℕ) → is_some s.running ≡ true → s.round ≡ round → (reply : Reply) → replies.Busy round ≡ reply_unless_busy s reply
  busy_reply round runs number reply = by_run s.running runs
    where
      by_run : (o : Option RunningRound) → is_some o ≡ true → replies.Busy round ≡ option_map_or (λ running. replies.Busy s.round) o reply
      by_run None h = absurd (cc (h))
      by_run (Some running) h = ap replies.Busy (sym number)

  -- where none does
  pub free_reply : is_some s.running ≡ false → (reply : Reply) → reply ≡ reply_unless_busy s reply
  free_reply none reply = by_run s.running none
    where
      by_run : (o : Option RunningRound) → is_some o ≡ false → reply ≡ option_map_or (λ running. replies.Busy s.round) o reply
      by_run None h = refl
      by_run (Some running) h = absurd (cc (h))

  pub idle_reply : is_some s.running ≡ false → (reply : Reply) → replies.Idle ≡ reply_unless_idle s reply
  idle_reply none reply = by_run s.running none
    where
      by_run : (o : Option RunningRound) → is_some o ≡ false → replies.Idle ≡ option_map_or (λ running. reply) o replies.Idle
      by_run None h = refl
      by_run (Some running) h = absurd (cc (h))

  pub run_reply : is_some s.running ≡ true → (reply : Reply) → reply ≡ reply_unless_idle s reply
  run_reply runs reply = by_run s.running runs
    where
      by_run : (o : Option RunningRound) → is_some o ≡ true → reply ≡ option_map_or (λ running. reply) o replies.Idle
      by_run None h = absurd (cc (h))
      by_run (Some running) h = refl

-- ---- a settle
-- the calls that are asked for are open
pub asked_open : (t : HostTerms) (s : State) (round : ℕ) (noted : List Cell) → is_some s.running ≡ true → s.round ≡ round → ((cell : Cell) → is_among noted cell ≡ is_among s.changed cell)
    → asked_calls t (setting_of t s) round (calc_of t s noted) ≡ open_calls t s
asked_open t s round noted runs number changed = by_run s.running runs
  where
    asks : ℕ → Cell → Option Call
    asks n cell = call_of_meaning t n cell (meaning (setting_of t s) s.book.contents cell)

    by_run : (o : Option RunningRound) → is_some o ≡ true → filter_map (asks round) (stale_cells s.book.contents noted) ≡ option_map_or (λ running. filter_map (asks s.round) (stale_of s)) o []
    by_run None h = absurd (cc (h))
    by_run (Some running) h =
        ap (λ n. filter_map (asks n) (stale_cells s.book.contents noted)) (sym number)
        ∙ ap (filter_map (asks s.round)) (listed_stale s.book.contents noted s.changed changed)

-- none runs, so that none is open
pub none_open : (t : HostTerms) (s : State) → is_some s.running ≡ false → open_calls t s ≡ []
none_open t s none = by_run s.running none
  where
    by_run : (o : Option RunningRound) → is_some o ≡ false → option_map_or (λ running. filter_map (call_at t s) (stale_of s)) o [] ≡ []
    by_run None h = refl
    by_run (Some running) h = absurd (cc (h))

-- it waits where calls are open
pub waiting_reply : (s : State) (calls : List Call) → nat_lt 0 (length calls) ≡ true → reply_to_settle s calls ≡ replies.Waiting s.round calls
waiting_reply s [] h = absurd (cc (h))
waiting_reply s (call ∷ calls) h = refl

some_counted : (n : ℕ) → nat_lt 0 (n + 1) ≡ false → ⊥
some_counted n h = search (rules)

plus_one : (n : ℕ) → 1 + n ≡ n + 1
plus_one n = omega arith

pub no_calls : (calls : List Call) → nat_lt 0 (length calls) ≡ false → calls ≡ []
no_calls [] h = refl
no_calls (call ∷ calls) h =
    absurd (some_counted (length calls) (sym (ap (nat_lt 0) (length-append (call ∷ []) calls ∙ plus_one (length calls))) ∙ h))

-- ---- a content for a cell
module _ (content : Content) where
  -- why it is refused, by whether it passes the limits
  abbrev refused : Bool → Bool → Option SetFault
  refused a b = cond a (Some (faults.CellLimit content)) (cond b (Some (faults.FormulaLimit content)) None)

  abbrev replied : Bool → Bool → Reply
  replied a b = cond a replies.CellLimit (cond b replies.FormulaLimit replies.Ok)

  reply_taken : (a b : Bool) → refused a b ≡ None → replied a b ≡ replies.Ok
  reply_taken true b e = absurd (cc)
  reply_taken false true e = absurd (cc)
  reply_taken false false e = refl

  reply_cells : (a b : Bool) (back : Content) → IsRefusal (refused a b) content (faults.CellLimit back) → replied a b ≡ replies.CellLimit
  reply_cells true b back e = refl
  reply_cells false true back e = absurd (cc)
  reply_cells false false back e = absurd (cc)

  reply_formulas : (a b : Bool) (back : Content) → IsRefusal (refused a b) content (faults.FormulaLimit back) → replied a b ≡ replies.FormulaLimit
  reply_formulas true b back e = absurd (cc)
  reply_formulas false true back e = refl
  reply_formulas false false back e = absurd (cc)

module _ (t : HostTerms) (s : State) (none : is_some s.running ≡ false) (cell : Cell) (content : Content) where
  -- taken
  pub set_reply : limit_fault s.book.contents cell content ≡ None → replies.Ok ≡ reply_to t [] s (commands.Set cell content)
  set_reply fault = sym (reply_taken content (exceeds_cells s.book.contents cell) (exceeds_formulas s.book.contents cell content) fault) ∙ free_reply s none _

  -- refused for a limit
  pub cells_reply : (back : Content) → IsRefusal (limit_fault s.book.contents cell content) content (faults.CellLimit back)
      → replies.CellLimit ≡ reply_to t [] s (commands.Set cell content)
  cells_reply back fault = sym (reply_cells content (exceeds_cells s.book.contents cell) (exceeds_formulas s.book.contents cell content) back fault) ∙ free_reply s none _

  pub formulas_reply : (back : Content) → IsRefusal (limit_fault s.book.contents cell content) content (faults.FormulaLimit back)
      → replies.FormulaLimit ≡ reply_to t [] s (commands.Set cell content)
  formulas_reply back fault = sym (reply_formulas content (exceeds_cells s.book.contents cell) (exceeds_formulas s.book.contents cell content) back fault) ∙ free_reply s none _

-- ---- a pull
-- no server fails
none_fails : (servers : List KnownServer) → names_of_failed servers [] ≡ []
none_fails servers = ap (map (λ (server : KnownServer). server.name)) (none_pass servers)
  where
    neither : (b : Bool) → (b && false) ≡ false
    neither true = refl
    neither false = refl

    none_pass : (all : List KnownServer) → filter (λ (server : KnownServer). server.flag && false) all ≡ []
    none_pass [] = refl
    none_pass (server ∷ others) = ap (λ b. cond b (server ∷ filter (λ (one : KnownServer). one.flag && false) others) (filter (λ (one : KnownServer). one.flag && false) others)) (neither server.flag) ∙ none_pass others

module _ (t : HostTerms) (s : State) (none : is_some s.running ≡ false) (moment : Moment) where
  -- no server is flagged
  pub nothing_reply : is_flagged s.servers ≡ false → replies.Nothing ≡ reply_to t [] s (commands.Pull moment)
  nothing_reply unflagged = sym (ap (λ b. cond b (reply_when_due t [] s (pull_due s.throttle moment)) replies.Nothing) unflagged) ∙ free_reply s none _

  -- one is, and the pull is due so
  pub due_reply : is_flagged s.servers ≡ true → (due : Due) → pull_due s.throttle moment ≡ due → reply_when_due t [] s due ≡ reply_to t [] s (commands.Pull moment)
  due_reply flagged due is =
      sym (ap (λ b. cond b (reply_when_due t [] s (pull_due s.throttle moment)) replies.Nothing) flagged ∙ ap (reply_when_due t [] s) is) ∙ free_reply s none _

  pub pulled_reply : is_flagged s.servers ≡ true → pull_due s.throttle moment ≡ Now → replies.Pulled (length (changed_topics s.servers [] s.published s.taken)) [] ≡ reply_to t [] s (commands.Pull moment)
  pulled_reply flagged is = ap (replies.Pulled (length (changed_topics s.servers [] s.published s.taken))) (sym (none_fails s.servers)) ∙ due_reply flagged Now is

-- ---- a flag
-- of an unknown server no flag is raised
pub unknown_flag : (servers : List KnownServer) (name : List ℕ) → is_known servers name ≡ false → servers_with_flag servers name ≡ servers
unknown_flag [] name unknown = refl
unknown_flag (server ∷ servers) name unknown =
    let both = or_false (bytes_eq name server.name) (is_known servers name) unknown in
    ap (λ b. cond b (record server { flag = true }) server ∷ servers_with_flag servers name) both.0 ∙ ap (λ others. server ∷ others) (unknown_flag servers name both.1)

-- ---- one call behind another
module _ {S : Type 0} (state : S → ServerState) (answer : Answers) (old mid new : RoundBook S) (kept : KeepsStates state answer old mid) where
  -- a step that follows where the same states are kept
  pub after_states : (command : Command) (reply : Reply) → IsStep state answer mid new command reply → IsStep state answer old new command reply
  after_states command reply step session limit s stands = step session limit s (kept session limit s stands)

  pub step_after : {E : Type 0} (r : Result Reply E) (command other : Command) → other ≡ command → IfOk r (IsStep state answer mid new other) → IfOk r (IsStep state answer old new command)
  step_after (Ok reply) command other is step = after_states command reply (subst (λ c. IsStep state answer mid new c reply) is step)
  step_after (Err e) command other is step = tt

  -- and a refusal
  pub refused_after : {E : Type 0} (r : Result Reply E) → OnErr r (KeepsStates state answer mid new) → OnErr r (KeepsStates state answer old new)
  refused_after (Ok reply) h = tt
  refused_after (Err e) h = λ session limit s stands. h session limit s (kept session limit s stands)

-- what was made isn't missing
pub not_missing : {X : Type 0} (o : Option X) → o ≡ None → is_some o ≡ true → ⊥
not_missing None missing made = absurd (cc (made))
not_missing (Some x) missing made = absurd (cc (missing))

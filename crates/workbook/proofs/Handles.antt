-- The handles of asynchronous calls over a history: once a value was accepted for one, its call is open no more.
use Rattle.std.proofs.Common.{◌≡◌, ℕ, ◌+◌, ◌<◌, ◌==◌, Bool, true, false, ◌&&◌, ◌||◌, cond, List, [], ◌∷◌, ◌++◌, Some, None, refl, ap, sym, subst, ◌∙◌, arith}
use Rattle.std.specs.List.{cons_option, filter_map, list_any}
use Rattle.std.specs.Option.{option_map_or}
use Rattle.std.proofs.lemmas.Bool.{and_parts}
use Rattle.std.proofs.lemmas.Bool.Decides.{Decides-eqb}
use Rattle.addin_types.specs.declared.calls.Call.{Call}
use Rattle.cell_refs.specs.declared.grid.Cell.{Cell}
use Rattle.cell_refs.specs.declared.handles.Handle.{Handle}
use Rattle.cell_refs.specs.Cell.{same_cell}
use Rattle.cell_refs.specs.Handle.{same_handle}
use Rattle.cell_refs.proofs.PublicLaws.{same_cell_is, same_cells}
use Rattle.cell_values.specs.declared.values.Value.{Value}
use Rattle.workbook.specs.declared.commands.Command.{Command}
use Rattle.workbook.specs.declared.commands.Command.TheVariants as commands
use Rattle.workbook.specs.declared.replies.Reply.{Reply}
use Rattle.workbook.specs.declared.replies.Reply.TheVariants as replies
use Rattle.workbook.specs.History.{Attempt, state_after_attempt, state_after_attempts}
use Rattle.workbook.specs.Meaning.{Meaning, Val, Circ, Asks, Open, meaning}
use Rattle.workbook.specs.Pulling.{after_pull}
use Rattle.workbook.specs.State.{AcceptedValue, HostTerms, RunningRound, State, accepted_value_at, call_at, call_of_meaning, setting_of, stale_of}
use Rattle.workbook.specs.Step.{after_begin, after_cancel, after_clear, after_done, after_register, after_return, after_server, after_set, is_begun, is_cancelled, is_done, is_fetched, is_ok_reply, is_open_handle, is_pulled, listeners_after_fetch, reply_to, reply_unless_busy, servers_with_flag, state_after, topics_with}
use Rattle.workbook.proofs.Asking.{meaning_asks}

-- ---- what an open handle tells
-- what the cell of a call asks for
pub record IsCallAt (terms : HostTerms) (s : State) (cell : Cell) (call : Call) : Type 0 where
  pub site : ℕ
  pub name : List ℕ
  pub args : List Value
  pub asks : meaning (setting_of terms s) s.book.contents cell ≡ Asks site name args
  pub handle : call.handle ≡ record { session = terms.session; round = s.round; cell = cell; site = site }

-- a cell of this meaning asks for a call
asking_meaning : (terms : HostTerms) (round : ℕ) (cell : Cell) (m : Meaning) (call : Call) → call_of_meaning terms round cell m ≡ Some call
    → (site : ℕ) × (name : List ℕ) × (args : List Value) × (m ≡ Asks site name args) × (call.handle ≡ record { session = terms.session; round = round; cell = cell; site = site })
asking_meaning terms round cell (Val v) call h = cc
asking_meaning terms round cell Circ call h = cc
asking_meaning terms round cell (Asks site name args) call h = (site, name, args, refl, own_handle h)
  where
    own : Call
    own = record { handle = record { session = terms.session; round = round; cell = cell; site = site }; name = name; args = args }

    own_handle : Some own ≡ Some call → call.handle ≡ own.handle
    own_handle e = cc
asking_meaning terms round cell Open call h = cc

-- a cell of a host asks for a call
pub asking : (terms : HostTerms) (s : State) (cell : Cell) (call : Call) → call_at terms s cell ≡ Some call → IsCallAt terms s cell call
asking terms s cell call h =
    let found = asking_meaning terms s.round cell (meaning (setting_of terms s) s.book.contents cell) call h in
    record { site = found.0; name = found.1; args = found.2; asks = found.3; handle = found.4 }

-- one of these cells asks for the call of a handle
record IsFound (terms : HostTerms) (s : State) (handle : Handle) : Type 0 where
  cell : Cell
  call : Call
  asks : call_at terms s cell ≡ Some call
  same : same_handle handle call.handle ≡ true

found_among : (terms : HostTerms) (s : State) (handle : Handle) (cells : List Cell)
    → list_any (λ (call : Call). same_handle handle call.handle) (filter_map (call_at terms s) cells) ≡ true → IsFound terms s handle
found_among terms s handle [] h = cc
found_among terms s handle (cell ∷ cells) h =
    elim (call_at terms s cell) as (λ o. call_at terms s cell ≡ o
    → list_any (λ (call : Call). same_handle handle call.handle) (cons_option o (filter_map (call_at terms s) cells)) ≡ true → IsFound terms s handle) [
      | None ↦ λ e k. found_among terms s handle cells k
      | Some call ↦ λ e k.
          elim (same_handle handle call.handle) as (λ b. same_handle handle call.handle ≡ b
          → (b || list_any (λ (call : Call). same_handle handle call.handle) (filter_map (call_at terms s) cells)) ≡ true → IsFound terms s handle) [
            | true ↦ λ same _. record { cell = cell; call = call; asks = e; same = same }
            | false ↦ λ _ others. found_among terms s handle cells others
          ] refl k
    ] refl h

-- the handle of an open call: a recalculation runs, which is that of the handle, and its cell asks at its site
pub record IsAsked (terms : HostTerms) (s : State) (handle : Handle) : Type 0 where
  pub running : s.running ≡ None → ⊥
  pub round : handle.round ≡ s.round
  pub name : List ℕ
  pub args : List Value
  pub asks : meaning (setting_of terms s) s.book.contents handle.cell ≡ Asks handle.site name args

-- equal handles have one recalculation, one cell and one site
pub handle_parts : (a b : Handle) → same_handle a b ≡ true → (a.round ≡ b.round) × (a.cell ≡ b.cell) × (a.site ≡ b.site)
handle_parts a b h =
    let rest = (and_parts (a.session == b.session) (a.round == b.round && (same_cell a.cell b.cell && a.site == b.site)) h).1 in
    let within = and_parts (a.round == b.round) (same_cell a.cell b.cell && a.site == b.site) rest in
    let last = and_parts (same_cell a.cell b.cell) (a.site == b.site) within.1 in
    ((Decides-eqb a.round b.round).0 within.0, same_cell_is a.cell b.cell last.0, (Decides-eqb a.site b.site).0 last.1)

-- an open handle
found_asked : (terms : HostTerms) (s : State) (handle : Handle) → (s.running ≡ None → ⊥) → IsFound terms s handle → IsAsked terms s handle
found_asked terms s handle running found =
    let call = asking terms s found.cell found.call found.asks in
    let parts = handle_parts handle found.call.handle found.same in
    record {
      running = running;
      round = parts.0 ∙ ap (λ (h : Handle). h.round) call.handle;
      name = call.name;
      args = call.args;
      asks =
          ap (λ cell. meaning (setting_of terms s) s.book.contents cell) (parts.1 ∙ ap (λ (h : Handle). h.cell) call.handle)
          ∙ call.asks
          ∙ ap (λ site. Asks site call.name call.args) (sym (parts.2 ∙ ap (λ (h : Handle). h.site) call.handle));
    }

pub asked : (terms : HostTerms) (s : State) (handle : Handle) → is_open_handle terms s handle ≡ true → IsAsked terms s handle
asked terms s handle h =
    elim s.running as (λ o. s.running ≡ o
    → list_any (λ (call : Call). same_handle handle call.handle) (option_map_or (λ running. filter_map (call_at terms s) (stale_of s)) o []) ≡ true → IsAsked terms s handle) [
      | None ↦ λ e k. cc
      | Some running ↦ λ e k. found_asked terms s handle (none_runs running e) (found_among terms s handle (stale_of s) k)
    ] refl h
  where
    none_runs : (running : RunningRound) → s.running ≡ Some running → s.running ≡ None → ⊥
    none_runs running e none = cc

-- nothing is accepted for an open handle
pub asked_unaccepted : (terms : HostTerms) (s : State) (handle : Handle) → IsAsked terms s handle → accepted_value_at s.accepted handle.cell handle.site ≡ None
asked_unaccepted terms s handle h = meaning_asks (setting_of terms s) s.book.contents handle.cell handle.site h.name h.args h.asks

-- ---- the course of recalculations
-- a state in the same recalculation, or in none as before, with the same open calls
pub record IsSameRound (terms : HostTerms) (s later : State) : Type 0 where
  pub round : later.round ≡ s.round
  pub running : later.running ≡ s.running
  pub accepted : later.accepted ≡ s.accepted
  pub contents : later.book.contents ≡ s.book.contents
  pub open_same : (handle : Handle) → is_open_handle terms later handle ≡ is_open_handle terms s handle

-- what a command does to recalculations: it begins one, or none runs behind it, or it goes on; a value may be accepted
pub data Course (terms : HostTerms) (s later : State) : Type 0 where
  Begins : later.round ≡ s.round + 1 → Course terms s later
  Idles : later.running ≡ None → later.round ≡ s.round → Course terms s later
  Stays : IsSameRound terms s later → Course terms s later
  Accepts : (handle : Handle) (value : Value) → is_open_handle terms s handle ≡ true → later ≡ after_return s handle value → Course terms s later

module _ (terms : HostTerms) (failed : List (List ℕ)) where
  -- a state goes on as it is
  same_round : (s : State) → IsSameRound terms s s
  same_round s = record { round = refl; running = refl; accepted = refl; contents = refl; open_same = λ handle. refl }

  -- one of two states that go on so
  stays_either : (s later : State) (b : Bool) → IsSameRound terms s later → Course terms s (cond b later s)
  stays_either s later true same = Stays same
  stays_either s later false same = Stays (same_round s)

  -- a command that is answered Busy where a recalculation runs, and begins and ends none
  busy_course : (s : State) (reply : Reply) (after : Reply → State) → after (replies.Busy s.round) ≡ s → ((reply : Reply) → (after reply).running ≡ s.running)
      → ((reply : Reply) → (after reply).round ≡ s.round) → Course terms s (after (reply_unless_busy s reply))
  busy_course s reply after busy running round =
      elim s.running as (λ o. s.running ≡ o → Course terms s (after (option_map_or (λ running. replies.Busy s.round) o reply))) [
        | None ↦ λ e. Idles (running reply ∙ e) (round reply)
        | Some r ↦ λ e. Stays (subst (IsSameRound terms s) (sym busy) (same_round s))
      ] refl

  -- neither of two states lets a recalculation run that didn't, or has another number
  either_running : (s later : State) (b : Bool) → later.running ≡ s.running → (cond b later s).running ≡ s.running
  either_running s later true same = same
  either_running s later false same = refl

  either_round : (s later : State) (b : Bool) → later.round ≡ s.round → (cond b later s).round ≡ s.round
  either_round s later true same = same
  either_round s later false same = refl

  -- a command that is answered Ok or changes nothing, and Busy where a recalculation runs
  set_course : (s later : State) (reply : Reply) → later.running ≡ s.running → later.round ≡ s.round → Course terms s (cond (is_ok_reply (reply_unless_busy s reply)) later s)
  set_course s later reply running round = busy_course s reply (λ reply. cond (is_ok_reply reply) later s) refl
      (λ reply. either_running s later (is_ok_reply reply) running) (λ reply. either_round s later (is_ok_reply reply) round)

  -- a begin
  begin_course : (s later : State) → later.round ≡ s.round + 1 → Course terms s (cond (is_begun (reply_unless_busy s (replies.Begun (s.round + 1)))) later s)
  begin_course s later next =
      elim s.running as (λ o. Course terms s (cond (is_begun (option_map_or (λ running. replies.Busy s.round) o (replies.Begun (s.round + 1)))) later s)) [
        | None ↦ Begins next
        | Some r ↦ Stays (same_round s)
      ]

  -- an end
  end_course : (s later : State) (b : Bool) → later.running ≡ None → later.round ≡ s.round → Course terms s (cond b later s)
  end_course s later true none round = Idles none round
  end_course s later false none round = Stays (same_round s)

  -- a return
  return_course : (s : State) (handle : Handle) (value : Value) → Course terms s (state_after terms failed s (commands.Return handle value))
  return_course s handle value =
      elim (is_open_handle terms s handle) as (λ b. is_open_handle terms s handle ≡ b → Course terms s (cond (cond b 0 256 == 0) (after_return s handle value) s)) [
        | true ↦ λ e. Accepts handle value e refl
        | false ↦ λ e. Stays (same_round s)
      ] refl

  -- each command
  pub course : (s : State) (command : Command) → Course terms s (state_after terms failed s command)
  course s (commands.Set cell content) = set_course s (after_set s cell content) _ refl refl
  course s (commands.Clear cell) = set_course s (after_clear s cell) replies.Ok refl refl
  course s (commands.Register name registration) = set_course s (after_register s name registration) _ refl refl
  course s (commands.Server name) = set_course s (after_server s name) _ refl refl
  course s (commands.Publish server strings value) =
      stays_either s (record s { published = topics_with s.published (record { server = server; strings = strings }) value }) (is_ok_reply (reply_to terms failed s (commands.Publish server strings value)))
      (record { round = refl; running = refl; accepted = refl; contents = refl; open_same = λ handle. refl })
  course s (commands.Notify name) =
      stays_either s (record s { servers = servers_with_flag s.servers name }) (is_ok_reply (reply_to terms failed s (commands.Notify name)))
      (record { round = refl; running = refl; accepted = refl; contents = refl; open_same = λ handle. refl })
  course s (commands.Throttle interval) = set_course s (record s { throttle = record s.throttle { interval = interval } }) replies.Ok refl refl
  course s (commands.Pull moment) = busy_course s _ (λ reply. cond (is_pulled reply) (after_pull terms failed s moment) s) refl
      (λ reply. either_running s (after_pull terms failed s moment) (is_pulled reply) refl) (λ reply. either_round s (after_pull terms failed s moment) (is_pulled reply) refl)
  course s (commands.Begin kind) = begin_course s (after_begin s kind) refl
  course s commands.Settle = end_course s (after_done terms s) (is_done (reply_to terms failed s commands.Settle)) refl refl
  course s commands.Cancel = end_course s (after_cancel s) (is_cancelled (reply_to terms failed s commands.Cancel)) refl refl
  course s (commands.Return handle value) = return_course s handle value
  course s (commands.Print form) = Stays (same_round s)
  course s (commands.Listen name) =
      stays_either s (record s { listeners = s.listeners ++ (record { name = name; events = [] }) ∷ [] }) (is_ok_reply (reply_to terms failed s (commands.Listen name)))
      (record { round = refl; running = refl; accepted = refl; contents = refl; open_same = λ handle. refl })
  course s (commands.Events name) =
      stays_either s (record s { listeners = listeners_after_fetch s.listeners name }) (is_fetched (reply_to terms failed s (commands.Events name)))
      (record { round = refl; running = refl; accepted = refl; contents = refl; open_same = λ handle. refl })

-- ---- spent handles
-- a handle of an earlier recalculation, or of the last one, where it runs no more or a value was accepted for the handle
pub data IsSpent (handle : Handle) (s : State) : Type 0 where
  Past : handle.round < s.round → IsSpent handle s
  Over : handle.round ≡ s.round → s.running ≡ None → IsSpent handle s
  Written : handle.round ≡ s.round → (v : Value) → accepted_value_at s.accepted handle.cell handle.site ≡ Some v → IsSpent handle s

-- an accepted value stays beside another one, or that one takes its place
still_accepted : (a : AcceptedValue) (others : List AcceptedValue) (cell : Cell) (site : ℕ) (v : Value) → accepted_value_at others cell site ≡ Some v
    → (w : Value) × (accepted_value_at (a ∷ others) cell site ≡ Some w)
still_accepted a others cell site v h =
    elim (same_cell a.cell cell && a.site == site) as (λ b. (w : Value) × (cond b (Some a.value) (accepted_value_at others cell site) ≡ Some w)) [
      | true ↦ (a.value, refl)
      | false ↦ (v, h)
    ]

-- a begun recalculation has a greater number
pub later_past : (handle : Handle) (s later : State) → handle.round ≡ s.round → later.round ≡ s.round + 1 → handle.round < later.round
later_past handle s later own next = omega arith

-- and an earlier one is past still
still_past : (handle : Handle) (s later : State) → handle.round < s.round → later.round ≡ s.round → handle.round < later.round
still_past handle s later past same = omega arith

next_past : (handle : Handle) (s later : State) → handle.round < s.round → later.round ≡ s.round + 1 → handle.round < later.round
next_past handle s later past next = omega arith

-- a spent handle stays spent
pub spent_step : (terms : HostTerms) (handle : Handle) (s later : State) → Course terms s later → IsSpent handle s → IsSpent handle later
spent_step terms handle s later (Begins next) (Past past) = Past (next_past handle s later past next)
spent_step terms handle s later (Begins next) (Over own none) = Past (later_past handle s later own next)
spent_step terms handle s later (Begins next) (Written own v h) = Past (later_past handle s later own next)
spent_step terms handle s later (Idles none same) (Past past) = Past (still_past handle s later past same)
spent_step terms handle s later (Idles none same) (Over own before) = Over (own ∙ sym same) none
spent_step terms handle s later (Idles none same) (Written own v h) = Over (own ∙ sym same) none
spent_step terms handle s later (Stays same) (Past past) = Past (still_past handle s later past same.round)
spent_step terms handle s later (Stays same) (Over own none) = Over (own ∙ sym same.round) (same.running ∙ none)
spent_step terms handle s later (Stays same) (Written own v h) =
    Written (own ∙ sym same.round) v (ap (λ accepted. accepted_value_at accepted handle.cell handle.site) same.accepted ∙ h)
spent_step terms handle s later (Accepts other value open_other is) (Past past) = Past (still_past handle s later past (ap (λ (t : State). t.round) is))
spent_step terms handle s later (Accepts other value open_other is) (Over own none) =
    Over (own ∙ sym (ap (λ (t : State). t.round) is)) (ap (λ (t : State). t.running) is ∙ none)
spent_step terms handle s later (Accepts other value open_other is) (Written own v h) =
    let still = still_accepted (record { cell = other.cell; site = other.site; value = value }) s.accepted handle.cell handle.site v h in
    Written (own ∙ sym (ap (λ (t : State). t.round) is)) still.0
    (ap (λ (t : State). accepted_value_at t.accepted handle.cell handle.site) is ∙ still.1)

-- after any attempts
pub spent_stays : (terms : HostTerms) (handle : Handle) (s : State) (attempts : List Attempt) → IsSpent handle s → IsSpent handle (state_after_attempts terms s attempts)
spent_stays terms handle s [] spent = spent
spent_stays terms handle s (attempt ∷ attempts) spent =
    spent_stays terms handle (state_after_attempt terms s attempt) attempts
    (spent_step terms handle s (state_after_attempt terms s attempt) (course terms attempt.failed s attempt.command) spent)

-- a spent handle isn't asked
spent_unasked : (terms : HostTerms) (handle : Handle) (s : State) (A : Type 0) → IsSpent handle s → IsAsked terms s handle → A
spent_unasked terms handle s A (Past past) h = absurd (not_past past h.round)
  where
    not_past : handle.round < s.round → handle.round ≡ s.round → ⊥
    not_past p e = omega arith
spent_unasked terms handle s A (Over own none) h = absurd (h.running none)
spent_unasked terms handle s A (Written own v e) h = not_both (sym e ∙ asked_unaccepted terms s handle h)
  where
    not_both : Some v ≡ None → A
    not_both k = cc

-- where a handle can't be asked, it isn't open
not_asked : (terms : HostTerms) (handle : Handle) (s : State) → (IsAsked terms s handle → is_open_handle terms s handle ≡ false) → is_open_handle terms s handle ≡ false
not_asked terms handle s none = elim (is_open_handle terms s handle) as (λ b. is_open_handle terms s handle ≡ b → is_open_handle terms s handle ≡ false) [
  | true ↦ λ e. none (asked terms s handle e)
  | false ↦ λ e. e
] refl

-- a spent handle isn't open
pub spent_shut : (terms : HostTerms) (handle : Handle) (s : State) → IsSpent handle s → is_open_handle terms s handle ≡ false
spent_shut terms handle s spent = not_asked terms handle s (spent_unasked terms handle s (is_open_handle terms s handle ≡ false) spent)

-- ---- returns
-- a return of a handle that isn't open
shut_answer : (terms : HostTerms) (failed : List (List ℕ)) (s : State) (handle : Handle) (value : Value) → is_open_handle terms s handle ≡ false
    → reply_to terms failed s (commands.Return handle value) ≡ replies.Code 256
shut_answer terms failed s handle value shut = ap (λ b. replies.Code (cond b 0 256)) shut

-- a return that is answered 0 is that of an open handle
open_answered : (terms : HostTerms) (failed : List (List ℕ)) (s : State) (handle : Handle) (value : Value) → reply_to terms failed s (commands.Return handle value) ≡ replies.Code 0
    → is_open_handle terms s handle ≡ true
open_answered terms failed s handle value h =
    elim (is_open_handle terms s handle) as (λ b. replies.Code (cond b 0 256) ≡ replies.Code 0 → b ≡ true) [
      | true ↦ λ k. refl
      | false ↦ λ k. absurd (other_code 256 refl (code_is 256 0 k))
    ] h
  where
    code_is : (code other : ℕ) → replies.Code code ≡ replies.Code other → code ≡ other
    code_is code other k = cc

    other_code : (code : ℕ) → code ≡ 256 → code ≡ 0 → ⊥
    other_code code k j = omega arith

-- the cell and the site of an accepted value have it
accepted_now : (handle : Handle) (value : Value) (others : List AcceptedValue)
    → accepted_value_at ((record { cell = handle.cell; site = handle.site; value = value }) ∷ others) handle.cell handle.site ≡ Some value
accepted_now handle value others =
    ap (λ b. cond (b && handle.site == handle.site) (Some value) (accepted_value_at others handle.cell handle.site)) (same_cells.refl handle.cell)
    ∙ ap (λ b. cond b (Some value) (accepted_value_at others handle.cell handle.site)) ((Decides-eqb handle.site handle.site).1 refl)

-- an accepted return spends its handle
return_spends : (terms : HostTerms) (failed : List (List ℕ)) (s : State) (handle : Handle) (value : Value) → is_open_handle terms s handle ≡ true
    → IsSpent handle (state_after terms failed s (commands.Return handle value))
return_spends terms failed s handle value h =
    subst (λ b. IsSpent handle (cond (cond b 0 256 == 0) (after_return s handle value) s)) (sym h)
    (Written (asked terms s handle h).round value (accepted_now handle value s.accepted))

-- a handle for which a value was accepted is answered 256 from then on
pub written_once : (terms : HostTerms) (s : State) (failed : List (List ℕ)) (handle : Handle) (value : Value)
    → reply_to terms failed s (commands.Return handle value) ≡ replies.Code 0
    → (attempts : List Attempt) (others : List (List ℕ)) (other : Value)
    → reply_to terms others (state_after_attempts terms (state_after terms failed s (commands.Return handle value)) attempts) (commands.Return handle other) ≡ replies.Code 256
written_once terms s failed handle value h attempts others other =
    let after = state_after terms failed s (commands.Return handle value) in
    shut_answer terms others (state_after_attempts terms after attempts) handle other
    (spent_shut terms handle (state_after_attempts terms after attempts)
    (spent_stays terms handle after attempts (return_spends terms failed s handle value (open_answered terms failed s handle value h))))

-- where no recalculation runs, each return is answered 256
pub refused_idle : (terms : HostTerms) (s : State) → s.running ≡ None → (failed : List (List ℕ)) (handle : Handle) (value : Value)
    → reply_to terms failed s (commands.Return handle value) ≡ replies.Code 256
refused_idle terms s none failed handle value =
    shut_answer terms failed s handle value (not_asked terms handle s (λ h. absurd (h.running none)))

-- a handle that isn't one of the last begun recalculation is answered 256
pub refused_other : (terms : HostTerms) (s : State) (handle : Handle) → (handle.round ≡ s.round → ⊥) → (failed : List (List ℕ)) (value : Value)
    → reply_to terms failed s (commands.Return handle value) ≡ replies.Code 256
refused_other terms s handle apart failed value =
    shut_answer terms failed s handle value (not_asked terms handle s (λ h. absurd (apart h.round)))

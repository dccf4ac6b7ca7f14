-- Each command keeps what commands keep, so that every state that commands lead to does; and what follows for its
-- cells that aren't stale.
use Rattle.std.proofs.Common.{◌≡◌, ℕ, ◌==◌, Bool, true, false, cond, List, [], ◌∷◌, ◌++◌, refl}
use Rattle.cell_refs.specs.declared.grid.Cell.{Cell}
use Rattle.cell_refs.specs.Cell.{is_among}
use Rattle.cell_refs.specs.declared.handles.Handle.{Handle}
use Rattle.cell_values.specs.declared.topics.Topic.{Topic}
use Rattle.cell_values.specs.declared.values.Value.{Value}
use Rattle.workbook.specs.declared.commands.BeginKind.{BeginKind}
use Rattle.workbook.specs.declared.commands.Command.{Command}
use Rattle.workbook.specs.declared.commands.Command.TheVariants as commands
use Rattle.workbook.specs.declared.replies.Reply.TheVariants as replies
use Rattle.workbook.specs.Agreement.{IsAlikeBesideChanged}
use Rattle.workbook.specs.Book.{is_formula}
use Rattle.workbook.specs.History.{Attempt, state_after_attempt, state_after_attempts}
use Rattle.workbook.specs.Meaning.{meaning}
use Rattle.workbook.specs.Pulling.{after_pull}
use Rattle.workbook.specs.Reads.{cell_reads, topics_of_cell}
use Rattle.workbook.specs.Stale.{is_stale}
use Rattle.workbook.specs.State.{HostTerms, State, completed_setting, first_state, setting_of}
use Rattle.workbook.specs.Step.{after_begin, after_cancel, after_clear, after_done, after_register, after_return, after_server, after_set, is_begun, is_cancelled, is_done, is_fetched, is_ok_reply, is_open_handle, is_pulled, knows_server, listeners_after_fetch, reply_to, servers_with_flag, state_after, topics_with}
use Rattle.workbook.proofs.PublicLaws.{meaning_between, reads_between, topics_between}
use Rattle.clean_cells.specs.Keeping.{KeepsClean}
use Rattle.clean_cells.proofs.EasySteps.{either_kept, first_kept, listeners_kept, publish_kept, servers_kept, throttle_kept}
use Rattle.clean_cells.proofs.Edits.{clear_kept, register_kept, server_kept, set_kept}
use Rattle.clean_cells.proofs.Fresh.{fresh_unchanged}
use Rattle.clean_cells.proofs.Pulls.{pull_kept}
use Rattle.clean_cells.proofs.Rounds.{begin_kept, cancel_kept, done_kept, return_kept}
use Rattle.clean_cells.proofs.Servers.{names_with_flag}
use Rattle.clean_cells.proofs.Snapshots.{alike_kept}

-- ---- each command
module _ (terms : HostTerms) (failed : List (List ℕ)) (s : State) (kept : KeepsClean terms s) where
  -- one of two states
  either : (later : State) (b : Bool) → KeepsClean terms later → KeepsClean terms (cond b later s)
  either = either_kept terms s kept

  published_kept : (server : List ℕ) (strings : List (List ℕ)) (value : Value) → KeepsClean terms (state_after terms failed s (commands.Publish server strings value))
  published_kept server strings value =
      let topic : Topic = record { server = server; strings = strings } in
      elim (knows_server s server) as (λ b. knows_server s server ≡ b
      → KeepsClean terms (cond (is_ok_reply (cond b replies.Ok replies.NoServer)) (record s { published = topics_with s.published topic value }) s)) [
        | true ↦ λ known. publish_kept terms s kept topic value known
        | false ↦ λ unknown. kept
      ] refl

  returned_kept : (handle : Handle) (value : Value) → KeepsClean terms (state_after terms failed s (commands.Return handle value))
  returned_kept handle value =
      elim (is_open_handle terms s handle) as (λ b. is_open_handle terms s handle ≡ b → KeepsClean terms (cond (cond b 0 256 == 0) (after_return s handle value) s)) [
        | true ↦ λ asked. return_kept terms s kept handle value asked
        | false ↦ λ refused. kept
      ] refl

  command_kept : (command : Command) → KeepsClean terms (state_after terms failed s command)
  command_kept (commands.Set cell content) = either (after_set s cell content) (is_ok_reply (reply_to terms failed s (commands.Set cell content))) (set_kept terms s kept cell content)
  command_kept (commands.Clear cell) = either (after_clear s cell) (is_ok_reply (reply_to terms failed s (commands.Clear cell))) (clear_kept terms s kept cell)
  command_kept (commands.Register name registration) =
      either (after_register s name registration) (is_ok_reply (reply_to terms failed s (commands.Register name registration))) (register_kept terms s kept name registration)
  command_kept (commands.Server name) = either (after_server s name) (is_ok_reply (reply_to terms failed s (commands.Server name))) (server_kept terms s kept name)
  command_kept (commands.Publish server strings value) = published_kept server strings value
  command_kept (commands.Notify name) =
      either (record s { servers = servers_with_flag s.servers name }) (is_ok_reply (reply_to terms failed s (commands.Notify name)))
      (servers_kept terms s kept (servers_with_flag s.servers name) (names_with_flag s.servers name))
  command_kept (commands.Throttle interval) =
      either (record s { throttle = record s.throttle { interval = interval } }) (is_ok_reply (reply_to terms failed s (commands.Throttle interval)))
      (throttle_kept terms s kept (record s.throttle { interval = interval }))
  command_kept (commands.Pull moment) = either (after_pull terms failed s moment) (is_pulled (reply_to terms failed s (commands.Pull moment))) (pull_kept terms failed s kept moment)
  command_kept (commands.Begin kind) = either (after_begin s kind) (is_begun (reply_to terms failed s (commands.Begin kind))) (begin_kept terms s kept kind)
  command_kept commands.Settle = either (after_done terms s) (is_done (reply_to terms failed s commands.Settle)) (done_kept terms s kept)
  command_kept commands.Cancel = either (after_cancel s) (is_cancelled (reply_to terms failed s commands.Cancel)) (cancel_kept terms s kept)
  command_kept (commands.Return handle value) = returned_kept handle value
  command_kept (commands.Print form) = kept
  command_kept (commands.Listen name) =
      either (record s { listeners = s.listeners ++ (record { name = name; events = [] }) ∷ [] }) (is_ok_reply (reply_to terms failed s (commands.Listen name)))
      (listeners_kept terms s kept (s.listeners ++ (record { name = name; events = [] }) ∷ []))
  command_kept (commands.Events name) =
      either (record s { listeners = listeners_after_fetch s.listeners name }) (is_fetched (reply_to terms failed s (commands.Events name)))
      (listeners_kept terms s kept (listeners_after_fetch s.listeners name))

-- ---- every state
-- after any attempts, from a state on that keeps it
pub still_kept : (terms : HostTerms) (s : State) (attempts : List Attempt) → KeepsClean terms s → KeepsClean terms (state_after_attempts terms s attempts)
still_kept terms s [] kept = kept
still_kept terms s (attempt ∷ attempts) kept =
    still_kept terms (state_after_attempt terms s attempt) attempts (command_kept terms attempt.failed s kept attempt.command)

-- every state that commands lead to keeps it
pub always_kept : (terms : HostTerms) (attempts : List Attempt) → KeepsClean terms (state_after_attempts terms first_state attempts)
always_kept terms attempts = still_kept terms first_state attempts (first_kept terms)

-- in it all beside what is changed is alike
pub always_alike : (terms : HostTerms) (attempts : List Attempt) → let s = state_after_attempts terms first_state attempts in
    IsAlikeBesideChanged (completed_setting terms s) (setting_of terms s) s.completed.book.contents s.book.contents s.changed
always_alike terms attempts = alike_kept terms (state_after_attempts terms first_state attempts) (always_kept terms attempts)

-- so it is where the next recalculation begins
pub begun_alike : (terms : HostTerms) (attempts : List Attempt) (kind : BeginKind) → let s = after_begin (state_after_attempts terms first_state attempts) kind in
    IsAlikeBesideChanged (completed_setting terms s) (setting_of terms s) s.completed.book.contents s.book.contents s.changed
begun_alike terms attempts kind =
    let s = state_after_attempts terms first_state attempts in
    alike_kept terms (after_begin s kind) (begin_kept terms s (always_kept terms attempts) kind)

-- ---- cells that aren't stale
module _ (terms : HostTerms) (attempts : List Attempt) (cell : Cell) where
  -- the state that the attempts lead to
  abbrev reached : State
  reached = state_after_attempts terms first_state attempts

  module _ (formula : is_formula reached.book.contents cell ≡ true) (fresh : is_stale reached.book.contents reached.changed cell ≡ false) where
    unchanged : is_among reached.changed cell ≡ false
    unchanged = fresh_unchanged reached.book.contents reached.changed cell formula fresh

    pub meaning_kept : meaning (completed_setting terms reached) reached.completed.book.contents cell ≡ meaning (setting_of terms reached) reached.book.contents cell
    meaning_kept =
        meaning_between (completed_setting terms reached) (setting_of terms reached) reached.completed.book.contents reached.book.contents reached.changed
        (always_kept terms attempts).completed_ordered (always_kept terms attempts).ordered (always_alike terms attempts) cell unchanged fresh

    pub topics_kept : topics_of_cell (completed_setting terms reached) reached.completed.book.contents cell ≡ topics_of_cell (setting_of terms reached) reached.book.contents cell
    topics_kept =
        topics_between (completed_setting terms reached) (setting_of terms reached) reached.completed.book.contents reached.book.contents reached.changed
        (always_kept terms attempts).completed_ordered (always_kept terms attempts).ordered (always_alike terms attempts) cell unchanged fresh

    pub reads_kept : (topic : Topic) → cell_reads (completed_setting terms reached) reached.completed.book.contents cell topic ≡ cell_reads (setting_of terms reached) reached.book.contents cell topic
    reads_kept =
        reads_between (completed_setting terms reached) (setting_of terms reached) reached.completed.book.contents reached.book.contents reached.changed
        (always_kept terms attempts).completed_ordered (always_kept terms attempts).ordered (always_alike terms attempts) cell unchanged fresh

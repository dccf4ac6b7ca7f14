-- The book of a host stands in cell order, whatever it was asked for.
use Rattle.std.proofs.Common.{◌≡◌, ℕ, Bool, true, false, cond, List, [], ◌∷◌, ◌++◌, refl, ap, ◌∙◌}
use Rattle.std.specs.BTreeMap.{insert_entry}
use Rattle.std.specs.List.{AllByRecursion}
use Rattle.std.specs.List.Sorted.{IsStrictlySortedBy}
use Rattle.std.specs.Map.{keys_of, remove_entry}
use Rattle.std.specs.Ordering.{match_ordering, ordering_reverse}
use Rattle.std.specs.declared.cmp.Ordering.TheVariants.{Less, Equal, Greater}
use Rattle.cell_refs.specs.declared.grid.Cell.{Cell}
use Rattle.cell_refs.specs.Cell.{cell_cmp, same_cell}
use Rattle.cell_refs.proofs.PublicLaws.{cells_total}
use Rattle.workbook.specs.declared.contents.Content.{Content}
use Rattle.workbook.specs.declared.commands.Command.{Command}
use Rattle.workbook.specs.declared.commands.Command.TheVariants as commands
use Rattle.workbook.specs.Book.{IsInOrder}
use Rattle.workbook.specs.History.{Attempt, state_after_attempt, state_after_attempts}
use Rattle.workbook.specs.Pulling.{after_pull}
use Rattle.workbook.specs.State.{HostTerms, State, first_state}
use Rattle.workbook.specs.Step.{after_begin, after_cancel, after_clear, after_done, after_register, after_return, after_server, after_set, is_accepted, is_begun, is_cancelled, is_done, is_fetched, is_ok_reply, is_pulled, listeners_after_fetch, reply_to, servers_with_flag, state_after, topics_with}
use Rattle.workbook.proofs.Meanings.{each_leads}

-- ---- books
-- a cell below each of a book and below a further one
below_insert : (x : Cell) (book : List (Cell × Content)) (cell : Cell) (content : Content) → cell_cmp x cell ≡ Less → AllByRecursion (λ y. cell_cmp x y ≡ Less) (keys_of book)
    → AllByRecursion (λ y. cell_cmp x y ≡ Less) (keys_of (insert_entry cell_cmp book cell content))
below_insert x [] cell content below each = (below, tt)
below_insert x (e ∷ es) cell content below each =
    elim (cell_cmp cell e.0) as (λ o. AllByRecursion (λ y. cell_cmp x y ≡ Less) (keys_of (match_ordering o ((cell, content) ∷ e ∷ es) ((e.0, content) ∷ es) (e ∷ insert_entry cell_cmp es cell content)))) [
      | Less ↦ (below, each)
      | Equal ↦ each
      | Greater ↦ (each.0, below_insert x es cell content below each.1)
    ]

-- a book in which a cell was set
insert_ordered : (book : List (Cell × Content)) (cell : Cell) (content : Content) → IsInOrder book → IsInOrder (insert_entry cell_cmp book cell content)
unfolding IsStrictlySortedBy
insert_ordered [] cell content ordered = (tt, tt)
insert_ordered (e ∷ es) cell content ordered =
    elim (cell_cmp cell e.0) as (λ o. cell_cmp cell e.0 ≡ o → IsInOrder (match_ordering o ((cell, content) ∷ e ∷ es) ((e.0, content) ∷ es) (e ∷ insert_entry cell_cmp es cell content))) [
      | Less ↦ λ h. ((h, each_leads (λ y. cell_cmp e.0 y ≡ Less) (λ y. cell_cmp cell y ≡ Less) (λ y below. cells_total.trans cell e.0 y h below) (keys_of es) ordered.0), ordered)
      | Equal ↦ λ h. ordered
      | Greater ↦ λ h. (
        below_insert e.0 es cell content (cells_total.antisymm e.0 cell ∙ ap ordering_reverse h) ordered.0,
        insert_ordered es cell content ordered.1,
      )
    ] refl

-- a cell below each of a book, where an entry is gone
below_remove : (x : Cell) (test : Cell → Bool) (book : List (Cell × Content)) → AllByRecursion (λ y. cell_cmp x y ≡ Less) (keys_of book)
    → AllByRecursion (λ y. cell_cmp x y ≡ Less) (keys_of (remove_entry test book))
below_remove x test [] each = tt
below_remove x test (e ∷ es) each = elim (test e.0) as (λ b. AllByRecursion (λ y. cell_cmp x y ≡ Less) (keys_of (cond b es (e ∷ remove_entry test es)))) [
  | true ↦ each.1
  | false ↦ (each.0, below_remove x test es each.1)
]

-- a book in which a cell was cleared
remove_ordered : (test : Cell → Bool) (book : List (Cell × Content)) → IsInOrder book → IsInOrder (remove_entry test book)
unfolding IsStrictlySortedBy
remove_ordered test [] ordered = tt
remove_ordered test (e ∷ es) ordered = elim (test e.0) as (λ b. IsInOrder (cond b es (e ∷ remove_entry test es))) [
  | true ↦ ordered.1
  | false ↦ (below_remove e.0 test es ordered.0, remove_ordered test es ordered.1)
]

-- ---- states
-- the book of a state stands in cell order
abbrev IsOrdered : State → Type 0
IsOrdered s = IsInOrder s.book.contents

-- one of two states
either_ordered : (s later : State) (b : Bool) → IsOrdered later → IsOrdered s → IsOrdered (cond b later s)
either_ordered s later true after before = after
either_ordered s later false after before = before

module _ (terms : HostTerms) (failed : List (List ℕ)) where
  -- each command
  command_ordered : (s : State) (command : Command) → IsOrdered s → IsOrdered (state_after terms failed s command)
  command_ordered s (commands.Set cell content) h =
      either_ordered s (after_set s cell content) (is_ok_reply (reply_to terms failed s (commands.Set cell content))) (insert_ordered s.book.contents cell content h) h
  command_ordered s (commands.Clear cell) h = either_ordered s (after_clear s cell) (is_ok_reply (reply_to terms failed s (commands.Clear cell))) (remove_ordered (same_cell cell) s.book.contents h) h
  command_ordered s (commands.Register name registration) h = either_ordered s (after_register s name registration) (is_ok_reply (reply_to terms failed s (commands.Register name registration))) h h
  command_ordered s (commands.Server name) h = either_ordered s (after_server s name) (is_ok_reply (reply_to terms failed s (commands.Server name))) h h
  command_ordered s (commands.Publish server strings value) h =
      either_ordered s (record s { published = topics_with s.published (record { server = server; strings = strings }) value }) (is_ok_reply (reply_to terms failed s (commands.Publish server strings value))) h h
  command_ordered s (commands.Notify name) h = either_ordered s (record s { servers = servers_with_flag s.servers name }) (is_ok_reply (reply_to terms failed s (commands.Notify name))) h h
  command_ordered s (commands.Throttle interval) h =
      either_ordered s (record s { throttle = record s.throttle { interval = interval } }) (is_ok_reply (reply_to terms failed s (commands.Throttle interval))) h h
  command_ordered s (commands.Pull moment) h = either_ordered s (after_pull terms failed s moment) (is_pulled (reply_to terms failed s (commands.Pull moment))) h h
  command_ordered s (commands.Begin kind) h = either_ordered s (after_begin s kind) (is_begun (reply_to terms failed s (commands.Begin kind))) h h
  command_ordered s commands.Settle h = either_ordered s (after_done terms s) (is_done (reply_to terms failed s commands.Settle)) h h
  command_ordered s commands.Cancel h = either_ordered s (after_cancel s) (is_cancelled (reply_to terms failed s commands.Cancel)) h h
  command_ordered s (commands.Return handle value) h = either_ordered s (after_return s handle value) (is_accepted (reply_to terms failed s (commands.Return handle value))) h h
  command_ordered s (commands.Print form) h = h
  command_ordered s (commands.Listen name) h =
      either_ordered s (record s { listeners = s.listeners ++ (record { name = name; events = [] }) ∷ [] }) (is_ok_reply (reply_to terms failed s (commands.Listen name))) h h
  command_ordered s (commands.Events name) h =
      either_ordered s (record s { listeners = listeners_after_fetch s.listeners name }) (is_fetched (reply_to terms failed s (commands.Events name))) h h

-- after any attempts, from a state in order on
stays_ordered : (terms : HostTerms) (s : State) (attempts : List Attempt) → IsInOrder s.book.contents → IsInOrder (state_after_attempts terms s attempts).book.contents
stays_ordered terms s [] ordered = ordered
stays_ordered terms s (attempt ∷ attempts) ordered =
    stays_ordered terms (state_after_attempt terms s attempt) attempts (command_ordered terms attempt.failed s attempt.command ordered)

-- after any attempts from the first state on
pub book_ordered : (terms : HostTerms) (attempts : List Attempt) → IsInOrder (state_after_attempts terms first_state attempts).book.contents
unfolding IsStrictlySortedBy
book_ordered terms attempts = stays_ordered terms first_state attempts tt

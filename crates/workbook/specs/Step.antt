-- The step: what each command is answered with, and the state behind it.
use Rattle.std.specs.Prelude.{ℕ, ◌+◌, ◌==◌, Bool, true, false, not, ◌&&◌, if◌then◌else◌, None, Some, List, [], ◌∷◌, ◌++◌, map, length}
use Rattle.std.specs.BTreeMap.{insert_entry}
use Rattle.std.specs.List.{filter, flat_map, list_any}
use Rattle.std.specs.Map.{keys_of, remove_entry}
use Rattle.std.specs.Option.{option_map_or}
use Rattle.std.specs.Str.{bytes_eq}
use Rattle.addin_types.specs.declared.calls.Call.{Call}
use Rattle.addin_types.specs.declared.registrations.Registration.{Registration}
use Rattle.cell_refs.specs.declared.grid.Cell.{Cell}
use Rattle.cell_refs.specs.declared.handles.Handle.{Handle}
use Rattle.cell_refs.specs.Cell.{cell_cmp, is_among, same_cell}
use Rattle.cell_refs.specs.Handle.{same_handle}
use Rattle.cell_values.specs.declared.events.Event.{Event}
use Rattle.cell_values.specs.declared.events.Event.TheVariants as events
use Rattle.cell_values.specs.declared.topics.Topic.{Topic}
use Rattle.cell_values.specs.declared.values.Value.{Value}
use Rattle.cell_values.specs.Topic.{same_topic}
use Rattle.formula_parse.specs.Callees.{callee_named}
use Rattle.formula_parse.specs.declared.callees.Callee.{Callee}
use Rattle.formula_parse.specs.declared.callees.Callee.TheVariants as callees
use Rattle.formula_parse.specs.declared.nodes.Node.{Node}
use Rattle.formula_parse.specs.Tree.{has_rtd_call, sites_named}
use Rattle.workbook.specs.declared.contents.Content.{Content}
use Rattle.workbook.specs.declared.commands.BeginKind.{BeginKind}
use Rattle.workbook.specs.declared.commands.BeginKind.TheVariants as kinds
use Rattle.workbook.specs.declared.commands.Command.{Command}
use Rattle.workbook.specs.declared.commands.Command.TheVariants as commands
use Rattle.workbook.specs.declared.replies.Reply.{Reply}
use Rattle.workbook.specs.declared.replies.Reply.TheVariants as replies
use Rattle.workbook.specs.Book.{by_content, exceeds_cells, exceeds_formulas, formula_cells}
use Rattle.workbook.specs.Pulling.{Due, Now, Early, Manual, after_pull, changed_topics, names_of_failed, is_flagged, is_named, pull_due}
use Rattle.workbook.specs.Reads.{is_listed, topics_of_cell}
use Rattle.workbook.specs.Registry.{name_cmp}
use Rattle.workbook.specs.Stale.{is_stale, stale_count}
use Rattle.workbook.specs.State.{AcceptedValue, HostTerms, KnownServer, Listener, State, open_calls, setting_of, shown_sheet, snapshot, snapshot_topics}

-- ---- what the rows of the step ask
-- whether a server of this name is known
abbrev pub knows_server : State → List ℕ → Bool
knows_server s name = is_named (map (λ (server : KnownServer). server.name) s.servers) name

-- whether a listener of this name is there
abbrev pub has_listener : State → List ℕ → Bool
has_listener s name = is_named (map (λ (listener : Listener). listener.name) s.listeners) name

-- whether a callee is no added function: it is built in, or RTD
abbrev pub is_reserved_callee : Callee → Bool
is_reserved_callee (callees.BuiltIn f) = true
is_reserved_callee callees.Rtd = true
is_reserved_callee (callees.Added name) = false

-- whether a name can't be registered
abbrev pub is_builtin : List ℕ → Bool
is_builtin name = is_reserved_callee (callee_named name)

-- whether this handle is that of an open call
abbrev pub is_open_handle : HostTerms → State → Handle → Bool
is_open_handle terms s handle = list_any (λ (call : Call). same_handle handle call.handle) (open_calls terms s)

-- the events of a listener
abbrev pub events_of : List Listener → List ℕ → List Event
events_of [] name = []
events_of (listener ∷ others) name = if bytes_eq name listener.name then listener.events else events_of others name

-- ---- the replies
-- this reply, but Busy where a recalculation runs
abbrev pub reply_unless_busy : State → Reply → Reply
reply_unless_busy s reply = option_map_or (λ running. replies.Busy s.round) s.running reply

-- this reply where a recalculation runs, else Idle
abbrev pub reply_unless_idle : State → Reply → Reply
reply_unless_idle s reply = option_map_or (λ running. reply) s.running replies.Idle

-- the reply to a pull that is due so
abbrev pub reply_when_due : HostTerms → List (List ℕ) → State → Due → Reply
reply_when_due terms failed s Manual = replies.Manual
reply_when_due terms failed s (Early wait) = replies.Early wait
reply_when_due terms failed s Now =
    replies.Pulled (length (changed_topics s.servers failed s.published s.taken)) (names_of_failed s.servers failed)

-- the reply to a settle, where these calls are open
abbrev pub reply_to_settle : State → List Call → Reply
reply_to_settle s [] = replies.Done s.round (stale_count s.book.contents s.changed)
reply_to_settle s (call ∷ calls) = replies.Waiting s.round (call ∷ calls)

-- the reply to a command at which these servers failed: the first one in its row whose condition holds
abbrev pub reply_to : HostTerms → List (List ℕ) → State → Command → Reply
reply_to terms failed s (commands.Set cell content) =
    reply_unless_busy s (if exceeds_cells s.book.contents cell then replies.CellLimit
    else (if exceeds_formulas s.book.contents cell content then replies.FormulaLimit else replies.Ok))
reply_to terms failed s (commands.Clear cell) = reply_unless_busy s replies.Ok
reply_to terms failed s (commands.Register name registration) =
    reply_unless_busy s (if is_builtin name then replies.Builtin else replies.Ok)
reply_to terms failed s (commands.Server name) =
    reply_unless_busy s (if knows_server s name then replies.Known
    else (if is_named failed name then replies.Failed name else replies.Ok))
reply_to terms failed s (commands.Publish server strings value) = if knows_server s server then replies.Ok else replies.NoServer
reply_to terms failed s (commands.Notify name) = if knows_server s name then replies.Ok else replies.NoServer
reply_to terms failed s (commands.Throttle interval) = reply_unless_busy s replies.Ok
reply_to terms failed s (commands.Pull moment) =
    reply_unless_busy s (if is_flagged s.servers then reply_when_due terms failed s (pull_due s.throttle moment) else replies.Nothing)
reply_to terms failed s (commands.Begin kind) = reply_unless_busy s (replies.Begun (s.round + 1))
reply_to terms failed s commands.Settle = reply_unless_idle s (reply_to_settle s (open_calls terms s))
reply_to terms failed s commands.Cancel = reply_unless_idle s (replies.Cancelled s.round)
reply_to terms failed s (commands.Return handle value) =
    replies.Code (if is_open_handle terms s handle then 0 else 256)
reply_to terms failed s (commands.Print form) = replies.Sheet form (shown_sheet terms s)
reply_to terms failed s (commands.Listen name) = if has_listener s name then replies.Known else replies.Ok
reply_to terms failed s (commands.Events name) =
    if has_listener s name then replies.Events (events_of s.listeners name) else replies.NoListener

-- ---- what an answered command does
-- the formula cells of a book whose formula passes a test, in cell order
abbrev pub formulas_where : List (Cell × Content) → (Node → Bool) → List Cell
formulas_where book test = keys_of (filter (λ e. by_content (λ v. false) test (Some e.1)) book)

-- the formula cells that call a name
abbrev pub callers_of : List (Cell × Content) → List ℕ → List Cell
callers_of book name = formulas_where book (λ tree. is_named (sites_named tree) name)

-- the state with this content at the cell, which is changed
abbrev pub after_set : State → Cell → Content → State
after_set s cell content = record s {
  book = record s.book { contents = insert_entry cell_cmp s.book.contents cell content };
  changed = cell ∷ s.changed;
}

-- the state without a content at the cell, which is changed
abbrev pub after_clear : State → Cell → State
after_clear s cell = record s {
  book = record s.book { contents = remove_entry (same_cell cell) s.book.contents };
  changed = cell ∷ s.changed;
}

-- the state with this registration, in place of any of the name; the formula cells that call the name are changed
abbrev pub after_register : State → List ℕ → Registration → State
after_register s name registration = record s {
  book = record s.book { functions = insert_entry name_cmp s.book.functions name registration };
  changed = callers_of s.book.contents name ++ s.changed;
}

-- the state with one more server, whose flag is down; the formula cells with an RTD call are changed
abbrev pub after_server : State → List ℕ → State
after_server s name = record s {
  servers = s.servers ++ (record { name = name; flag = false }) ∷ [];
  changed = formulas_where s.book.contents has_rtd_call ++ s.changed;
}

-- topics with this value at one of them, in place of any
abbrev pub topics_with : List (Topic × Value) → Topic → Value → List (Topic × Value)
topics_with topics topic value = (topic, value) ∷ remove_entry (same_topic topic) topics

-- the servers with the flag of one of them up
abbrev pub servers_with_flag : List KnownServer → List ℕ → List KnownServer
servers_with_flag servers name =
    map (λ (server : KnownServer). if bytes_eq name server.name then record server { flag = true } else server) servers

-- the changed cells at a begin: for the kinds All and Rebuild all formula cells are changed first
abbrev pub changed_at_begin : BeginKind → List (Cell × Content) → List Cell → List Cell
changed_at_begin kinds.Dirty book changed = changed
changed_at_begin kinds.All book changed = formula_cells book ++ changed
changed_at_begin kinds.Rebuild book changed = formula_cells book ++ changed

-- the accepted values of the formula cells that aren't stale
abbrev pub values_of_clean : List (Cell × Content) → List Cell → List AcceptedValue → List AcceptedValue
values_of_clean book changed accepted =
    filter (λ (a : AcceptedValue). is_among (formula_cells book) a.cell && not (is_stale book changed a.cell)) accepted

-- the state in which the next recalculation runs
abbrev pub after_begin : State → BeginKind → State
after_begin s kind = record s {
  changed = changed_at_begin kind s.book.contents s.changed;
  accepted = values_of_clean s.book.contents (changed_at_begin kind s.book.contents s.changed) s.accepted;
  round = s.round + 1;
  running = Some (record { opening = s.published; failed = [] });
}

-- listeners with one more event each
abbrev pub listeners_with : List Listener → Event → List Listener
listeners_with listeners event = map (λ (listener : Listener). record listener { events = listener.events ++ event ∷ [] }) listeners

-- topics, each where it stands first alone
abbrev pub topics_once : List Topic → List Topic
topics_once [] = []
topics_once (topic ∷ topics) = topic ∷ filter (λ other. not (same_topic topic other)) (topics_once topics)

-- the topics that formula cells read in the setting that now completes, each once, in the order of the cells
abbrev pub topics_in_use : HostTerms → State → List Topic
topics_in_use terms s =
    topics_once (flat_map (topics_of_cell (setting_of terms s) s.book.contents) (formula_cells s.book.contents))

-- the topics that failed to connect in the recalculation that runs
abbrev pub failed_topics : State → List Topic
failed_topics s = option_map_or (λ running. running.failed) s.running []

-- the topics that stay connected: those in use that are a known server's and didn't fail, each with its value of the snapshot
abbrev pub taken_at_end : HostTerms → State → List (Topic × Value)
taken_at_end terms s =
    map (λ topic. (topic, snapshot s topic))
    (filter (λ (topic : Topic). knows_server s topic.server && not (is_listed (failed_topics s) topic)) (topics_in_use terms s))

-- the formula cells that read a topic that failed to connect
abbrev pub readers_of_failed : HostTerms → State → List Cell
readers_of_failed terms s =
    filter (λ cell. list_any (is_listed (failed_topics s)) (topics_of_cell (setting_of terms s) s.book.contents cell))
    (formula_cells s.book.contents)

-- the state in which the recalculation has completed
abbrev pub after_done : HostTerms → State → State
after_done terms s = record s {
  taken = taken_at_end terms s;
  changed = readers_of_failed terms s;
  completed = record { book = s.book; topics = snapshot_topics s; accepted = s.accepted };
  running = None;
  listeners = listeners_with s.listeners (events.Ended s.round);
}

-- the state in which the recalculation has ended with nothing shown
abbrev pub after_cancel : State → State
after_cancel s = record s { running = None; listeners = listeners_with s.listeners (events.Cancelled s.round) }

-- the state with this value accepted for an open call
abbrev pub after_return : State → Handle → Value → State
after_return s handle value = record s {
  accepted = (record { cell = handle.cell; site = handle.site; value = value }) ∷ s.accepted;
}

-- listeners, where one of them has fetched its events
abbrev pub listeners_after_fetch : List Listener → List ℕ → List Listener
listeners_after_fetch listeners name =
    map (λ (listener : Listener). if bytes_eq name listener.name then record listener { events = [] } else listener) listeners

-- whether a reply is Ok
abbrev pub is_ok_reply : Reply → Bool
is_ok_reply replies.Ok = true
is_ok_reply reply = false

-- whether it is Begun
abbrev pub is_begun : Reply → Bool
is_begun (replies.Begun round) = true
is_begun reply = false

-- whether it is Pulled
abbrev pub is_pulled : Reply → Bool
is_pulled (replies.Pulled changed failed) = true
is_pulled reply = false

-- whether it is Done
abbrev pub is_done : Reply → Bool
is_done (replies.Done round cells) = true
is_done reply = false

-- whether it is Cancelled
abbrev pub is_cancelled : Reply → Bool
is_cancelled (replies.Cancelled round) = true
is_cancelled reply = false

-- whether it is Code 0
abbrev pub is_accepted : Reply → Bool
is_accepted (replies.Code code) = code == 0
is_accepted reply = false

-- whether it gives events
abbrev pub is_fetched : Reply → Bool
is_fetched (replies.Events fetched) = true
is_fetched reply = false

-- the state after a command that was answered so, at which these servers failed; every other reply leaves the state as it is
abbrev pub effect_of : HostTerms → List (List ℕ) → State → Command → Reply → State
effect_of terms failed s (commands.Set cell content) reply = if is_ok_reply reply then after_set s cell content else s
effect_of terms failed s (commands.Clear cell) reply = if is_ok_reply reply then after_clear s cell else s
effect_of terms failed s (commands.Register name registration) reply = if is_ok_reply reply then after_register s name registration else s
effect_of terms failed s (commands.Server name) reply = if is_ok_reply reply then after_server s name else s
effect_of terms failed s (commands.Publish server strings value) reply =
    if is_ok_reply reply
    then record s { published = topics_with s.published (record { server = server; strings = strings }) value }
    else s
effect_of terms failed s (commands.Notify name) reply = if is_ok_reply reply then record s { servers = servers_with_flag s.servers name } else s
effect_of terms failed s (commands.Throttle interval) reply =
    if is_ok_reply reply then record s { throttle = record s.throttle { interval = interval } } else s
effect_of terms failed s (commands.Pull moment) reply = if is_pulled reply then after_pull terms failed s moment else s
effect_of terms failed s (commands.Begin kind) reply = if is_begun reply then after_begin s kind else s
effect_of terms failed s commands.Settle reply = if is_done reply then after_done terms s else s
effect_of terms failed s commands.Cancel reply = if is_cancelled reply then after_cancel s else s
effect_of terms failed s (commands.Return handle value) reply = if is_accepted reply then after_return s handle value else s
effect_of terms failed s (commands.Print form) reply = s
effect_of terms failed s (commands.Listen name) reply =
    if is_ok_reply reply then record s { listeners = s.listeners ++ (record { name = name; events = [] }) ∷ [] } else s
effect_of terms failed s (commands.Events name) reply = if is_fetched reply then record s { listeners = listeners_after_fetch s.listeners name } else s

-- the state after a command at which these servers failed
abbrev pub state_after : HostTerms → List (List ℕ) → State → Command → State
state_after terms failed s command = effect_of terms failed s command (reply_to terms failed s command)

-- The flags of servers over a history: a Notify raises one, and a pull that doesn't name its server as failed lowers it.
use Rattle.std.proofs.Common.{◌≡◌, ℕ, Bool, true, false, not, ◌&&◌, ◌||◌, cond, List, [], ◌∷◌, ◌++◌, map, All, Some, None, refl, ap, sym, subst, ◌∙◌}
use Rattle.std.specs.Cmp.Lexicographic.{nat_list_eq_equiv}
use Rattle.std.specs.List.{AllByRecursion, IsDistinct, filter, list_any}
use Rattle.std.specs.Option.{option_map_or}
use Rattle.std.specs.Str.{bytes_eq}
use Rattle.std.proofs.lemmas.List.Elements.{All-from_recursion}
use Rattle.std.proofs.lemmas.List.Folds.{list_any-append}
use Rattle.std.proofs.lemmas.Map.Keys.{IsDistinct-push}
use Rattle.std.proofs.lemmas.Slice.Eq.{bytes_eq-Decides}
use Rattle.workbook.specs.declared.commands.Command.{Command}
use Rattle.workbook.specs.declared.commands.Command.TheVariants as commands
use Rattle.workbook.specs.declared.commands.Moment.{Moment}
use Rattle.workbook.specs.declared.replies.Reply.{Reply}
use Rattle.workbook.specs.declared.replies.Reply.TheVariants as replies
use Rattle.workbook.specs.History.{Attempt, exchange_of, exchanges, leaves_flag_up, lowers_flag, pulls_from, raises_flag, state_after_attempt, state_after_attempts}
use Rattle.workbook.specs.Pulling.{Due, Now, Early, Manual, after_pull, is_flagged, is_named, names_of_failed, pull_due, pulled_servers}
use Rattle.workbook.specs.State.{HostTerms, KnownServer, State, first_state}
use Rattle.workbook.specs.Step.{after_begin, after_cancel, after_clear, after_done, after_register, after_return, after_server, after_set, is_accepted, is_begun, is_cancelled, is_done, is_fetched, is_ok_reply, is_pulled, knows_server, listeners_after_fetch, reply_to, reply_when_due, servers_with_flag, state_after, topics_with}

-- ---- tests
-- a flag that nothing touches
kept : (b : Bool) → b ≡ (false || (b && not false))
kept true = refl
kept false = refl

-- one more server, whose flag is down
kept_beside : (a b : Bool) → (a || ((b && false) || false)) ≡ (false || (a && not false))
kept_beside true b = refl
kept_beside false true = refl
kept_beside false false = refl

-- a Notify that wasn't answered Ok
kept_refused : (a b : Bool) → a ≡ ((b && false) || (a && not false))
kept_refused true true = refl
kept_refused true false = refl
kept_refused false true = refl
kept_refused false false = refl

-- a Notify that was
raised_known : (a b known : Bool) → known ≡ true → ((b && known) || a) ≡ ((b && true) || (a && not false))
raised_known true true known h = cc
raised_known true false known h = refl
raised_known false true true h = refl
raised_known false true false h = cc
raised_known false false known h = refl

-- what one exchange does, and then the later ones
in_turn : (rest raised up lowered later : Bool)
    → (rest || ((raised || (up && not lowered)) && not later)) ≡ (((raised && not later) || rest) || (up && not (lowered || later)))
in_turn true true up lowered true = refl
in_turn true true up lowered false = refl
in_turn true false up lowered later = refl
in_turn false true up lowered true = in_turn_late up lowered
  where
    in_turn_late : (up lowered : Bool) → false ≡ (up && not (lowered || true))
    in_turn_late true true = refl
    in_turn_late true false = refl
    in_turn_late false lowered = refl
in_turn false true up lowered false = refl
in_turn false false true true later = refl
in_turn false false true false later = refl
in_turn false false false lowered later = refl

-- nothing was up at first
nothing_first : (b : Bool) (later : Bool) → (b || (false && not later)) ≡ b
nothing_first true later = refl
nothing_first false later = refl

-- of two tests that differ at most where the first isn't met
met_first : (c x y z : Bool) → c ≡ true → ((c && true) || x) ≡ ((true || y) || z)
met_first true x y z h = refl
met_first false x y z h = cc

met_not : (c f x y : Bool) → c ≡ false → x ≡ y → ((c && f) || x) ≡ y
met_not true f x y h e = cc
met_not false f x y h e = e

-- ---- servers
-- whether a server of this name has its flag up
abbrev is_up : List KnownServer → List ℕ → Bool
is_up servers name = list_any (λ (server : KnownServer). bytes_eq name server.name && server.flag) servers

-- the names of servers
abbrev names : List KnownServer → List (List ℕ)
names servers = map (λ (server : KnownServer). server.name) servers

-- a raised flag of this name is up where a server of the name is known
raised_own : (servers : List KnownServer) (name : List ℕ) → is_up (servers_with_flag servers name) name ≡ (is_named (names servers) name || is_up servers name)
raised_own [] name = refl
raised_own (k ∷ ks) name =
    elim (bytes_eq name k.name) as (λ b. bytes_eq name k.name ≡ b
    → ((bytes_eq name (cond b (record k { flag = true }) k).name && (cond b (record k { flag = true }) k).flag) || is_up (servers_with_flag ks name) name)
    ≡ ((b || is_named (names ks) name) || ((b && k.flag) || is_up ks name))) [
      | true ↦ λ e. met_first (bytes_eq name k.name) (is_up (servers_with_flag ks name) name) (is_named (names ks) name) (k.flag || is_up ks name) e
      | false ↦ λ e. met_not (bytes_eq name k.name) k.flag (is_up (servers_with_flag ks name) name) (is_named (names ks) name || is_up ks name) e (raised_own ks name)
    ] refl

-- a raised flag of another name changes nothing
raised_other : (servers : List KnownServer) (name other : List ℕ) → bytes_eq name other ≡ false → is_up (servers_with_flag servers other) name ≡ is_up servers name
raised_other [] name other apart = refl
raised_other (k ∷ ks) name other apart =
    elim (bytes_eq other k.name) as (λ b. bytes_eq other k.name ≡ b
    → ((bytes_eq name (cond b (record k { flag = true }) k).name && (cond b (record k { flag = true }) k).flag) || is_up (servers_with_flag ks other) name)
    ≡ ((bytes_eq name k.name && k.flag) || is_up ks name)) [
      | true ↦ λ e.
          let apart_too = ap (bytes_eq name) (sym ((bytes_eq-Decides other k.name).0 e)) ∙ apart in
          met_not (bytes_eq name k.name) true (is_up (servers_with_flag ks other) name) (is_up ks name) apart_too (raised_other ks name other apart)
          ∙ sym (met_not (bytes_eq name k.name) k.flag (is_up ks name) (is_up ks name) apart_too refl)
      | false ↦ λ e. ap (λ b. (bytes_eq name k.name && k.flag) || b) (raised_other ks name other apart)
    ] refl

-- a raised flag
raised_up : (servers : List KnownServer) (name other : List ℕ) → is_up (servers_with_flag servers other) name ≡ ((bytes_eq name other && is_named (names servers) other) || is_up servers name)
raised_up servers name other =
    elim (bytes_eq name other) as (λ b. bytes_eq name other ≡ b → is_up (servers_with_flag servers other) name ≡ ((b && is_named (names servers) other) || is_up servers name)) [
      | true ↦ λ e. subst (λ n. is_up (servers_with_flag servers other) n ≡ (is_named (names servers) other || is_up servers n)) (sym ((bytes_eq-Decides name other).0 e)) (raised_own servers other)
      | false ↦ λ e. raised_other servers name other e
    ] refl

-- a server whose flag a pull leaves up is named as failed
pulled_failed : (servers : List KnownServer) (failed : List (List ℕ)) (name : List ℕ) → is_up (pulled_servers servers failed) name ≡ is_named (names_of_failed servers failed) name
pulled_failed [] failed name = refl
pulled_failed (k ∷ ks) failed name =
    elim (k.flag && is_named failed k.name) as (λ b. ((bytes_eq name k.name && b) || is_up (pulled_servers ks failed) name)
    ≡ is_named (names (cond b (k ∷ filter (λ (server : KnownServer). server.flag && is_named failed server.name) ks) (filter (λ (server : KnownServer). server.flag && is_named failed server.name) ks))) name) [
      | true ↦ both (bytes_eq name k.name) (pulled_failed ks failed name)
      | false ↦ none (bytes_eq name k.name) (pulled_failed ks failed name)
    ]
  where
    both : (c : Bool) {x y : Bool} → x ≡ y → ((c && true) || x) ≡ (c || y)
    both true e = refl
    both false e = e

    none : (c : Bool) {x y : Bool} → x ≡ y → ((c && false) || x) ≡ y
    none true e = e
    none false e = e

-- a pull raises no flag
pulled_was : (servers : List KnownServer) (failed : List (List ℕ)) (name : List ℕ) → is_up (pulled_servers servers failed) name ≡ (is_up servers name && is_up (pulled_servers servers failed) name)
pulled_was [] failed name = refl
pulled_was (k ∷ ks) failed name =
    within (bytes_eq name k.name) k.flag (is_named failed k.name) (is_up ks name) (is_up (pulled_servers ks failed) name) (pulled_was ks failed name)
  where
    within : (c f n x y : Bool) → y ≡ (x && y) → ((c && (f && n)) || y) ≡ (((c && f) || x) && ((c && (f && n)) || y))
    within true true n x y e = refl
    within true false n x y e = e
    within false f n x y e = e

-- the flags after a pull
pulled_up : (servers : List KnownServer) (failed : List (List ℕ)) (name : List ℕ)
    → is_up (pulled_servers servers failed) name ≡ (false || (is_up servers name && not (not (is_named (names_of_failed servers failed) name))))
pulled_up servers failed name =
    pulled_was servers failed name
    ∙ ap (λ b. is_up servers name && b) (pulled_failed servers failed name ∙ sym (not_not (is_named (names_of_failed servers failed) name)))
  where
    not_not : (b : Bool) → not (not b) ≡ b
    not_not true = refl
    not_not false = refl

-- ---- one step
module _ (terms : HostTerms) (failed : List (List ℕ)) (name : List ℕ) where
  -- a command that touches no server
  untouched : (s later : State) (b : Bool) → later.servers ≡ s.servers → is_up (cond b later s).servers name ≡ (false || (is_up s.servers name && not false))
  untouched s later true same = ap (λ servers. is_up servers name) same ∙ kept (is_up s.servers name)
  untouched s later false same = kept (is_up s.servers name)

  -- a server
  server_up : (s : State) (other : List ℕ) (b : Bool) → is_up (cond b (after_server s other) s).servers name ≡ (false || (is_up s.servers name && not false))
  server_up s other true =
      list_any-append (λ (server : KnownServer). bytes_eq name server.name && server.flag) s.servers ((record { name = other; flag = false }) ∷ [])
      ∙ kept_beside (is_up s.servers name) (bytes_eq name other)
  server_up s other false = kept (is_up s.servers name)

  -- a Notify
  notify_up : (s : State) (other : List ℕ) (b : Bool) → knows_server s other ≡ b
      → is_up (cond (is_ok_reply (cond b replies.Ok replies.NoServer)) (record s { servers = servers_with_flag s.servers other }) s).servers name
      ≡ ((bytes_eq name other && is_ok_reply (cond b replies.Ok replies.NoServer)) || (is_up s.servers name && not false))
  notify_up s other true known = raised_up s.servers name other ∙ raised_known (is_up s.servers name) (bytes_eq name other) (knows_server s other) known
  notify_up s other false known = kept_refused (is_up s.servers name) (bytes_eq name other)

  -- a Pull that is answered so
  abbrev PullFollows : State → Moment → Reply → Type 0
  PullFollows s moment reply =
      is_up (cond (is_pulled reply) (after_pull terms failed s moment) s).servers name ≡ (false || (is_up s.servers name && not (pulls_from name reply)))

  -- a Pull that is due so
  due_up : (s : State) (moment : Moment) (due : Due) → PullFollows s moment (reply_when_due terms failed s due)
  due_up s moment Manual = kept (is_up s.servers name)
  due_up s moment (Early wait) = kept (is_up s.servers name)
  due_up s moment Now = pulled_up s.servers failed name

  -- a Pull
  pull_up : (s : State) (moment : Moment) → PullFollows s moment (reply_to terms failed s (commands.Pull moment))
  pull_up s moment =
      elim s.running as (λ o. PullFollows s moment (option_map_or (λ running. replies.Busy s.round) o
      (cond (is_flagged s.servers) (reply_when_due terms failed s (pull_due s.throttle moment)) replies.Nothing))) [
        | Some running ↦ kept (is_up s.servers name)
        | None ↦ elim (is_flagged s.servers) as (λ b. PullFollows s moment (cond b (reply_when_due terms failed s (pull_due s.throttle moment)) replies.Nothing)) [
          | true ↦ due_up s moment (pull_due s.throttle moment)
          | false ↦ kept (is_up s.servers name)
        ]
      ]

  -- each command
  command_up : (s : State) (command : Command) → is_up (state_after terms failed s command).servers name
      ≡ (raises_flag name (exchange_of terms s (record { command = command; failed = failed })) || (is_up s.servers name && not (lowers_flag name (exchange_of terms s (record { command = command; failed = failed })))))
  command_up s (commands.Set cell content) = untouched s (after_set s cell content) (is_ok_reply (reply_to terms failed s (commands.Set cell content))) refl
  command_up s (commands.Clear cell) = untouched s (after_clear s cell) (is_ok_reply (reply_to terms failed s (commands.Clear cell))) refl
  command_up s (commands.Register other registration) = untouched s (after_register s other registration) (is_ok_reply (reply_to terms failed s (commands.Register other registration))) refl
  command_up s (commands.Server other) = server_up s other (is_ok_reply (reply_to terms failed s (commands.Server other)))
  command_up s (commands.Publish server strings value) =
      untouched s (record s { published = topics_with s.published (record { server = server; strings = strings }) value }) (is_ok_reply (reply_to terms failed s (commands.Publish server strings value))) refl
  command_up s (commands.Notify other) = notify_up s other (knows_server s other) refl
  command_up s (commands.Throttle interval) =
      untouched s (record s { throttle = record s.throttle { interval = interval } }) (is_ok_reply (reply_to terms failed s (commands.Throttle interval))) refl
  command_up s (commands.Pull moment) = pull_up s moment
  command_up s (commands.Begin kind) = untouched s (after_begin s kind) (is_begun (reply_to terms failed s (commands.Begin kind))) refl
  command_up s commands.Settle = untouched s (after_done terms s) (is_done (reply_to terms failed s commands.Settle)) refl
  command_up s commands.Cancel = untouched s (after_cancel s) (is_cancelled (reply_to terms failed s commands.Cancel)) refl
  command_up s (commands.Return handle value) = untouched s (after_return s handle value) (is_accepted (reply_to terms failed s (commands.Return handle value))) refl
  command_up s (commands.Print form) = kept (is_up s.servers name)
  command_up s (commands.Listen other) =
      untouched s (record s { listeners = s.listeners ++ (record { name = other; events = [] }) ∷ [] }) (is_ok_reply (reply_to terms failed s (commands.Listen other))) refl
  command_up s (commands.Events other) =
      untouched s (record s { listeners = listeners_after_fetch s.listeners other }) (is_fetched (reply_to terms failed s (commands.Events other))) refl

-- ---- every history
-- a flag after attempts, from any state on
flag_follows : (terms : HostTerms) (name : List ℕ) (s : State) (attempts : List Attempt) → is_up (state_after_attempts terms s attempts).servers name
    ≡ (leaves_flag_up name (exchanges terms s attempts) || (is_up s.servers name && not (list_any (lowers_flag name) (exchanges terms s attempts))))
flag_follows terms name s [] = kept (is_up s.servers name)
flag_follows terms name s (attempt ∷ attempts) =
    let exchange = exchange_of terms s attempt in
    let next = state_after_attempt terms s attempt in
    let later = list_any (lowers_flag name) (exchanges terms next attempts) in
    flag_follows terms name next attempts
    ∙ ap (λ b. leaves_flag_up name (exchanges terms next attempts) || (b && not later)) (command_up terms attempt.failed name s attempt.command)
    ∙ in_turn (leaves_flag_up name (exchanges terms next attempts)) (raises_flag name exchange) (is_up s.servers name) (lowers_flag name exchange) later

-- a flag after attempts from the first state on
flag_told : (terms : HostTerms) (attempts : List Attempt) (name : List ℕ)
    → is_up (state_after_attempts terms first_state attempts).servers name ≡ leaves_flag_up name (exchanges terms first_state attempts)
flag_told terms attempts name =
    flag_follows terms name first_state attempts
    ∙ nothing_first (leaves_flag_up name (exchanges terms first_state attempts)) (list_any (lowers_flag name) (exchanges terms first_state attempts))

-- ---- each server is known once
-- no two of these servers have one name
abbrev AreApart : List KnownServer → Type 0
AreApart servers = IsDistinct bytes_eq (names servers)

-- the names stay where each server keeps its name
names_stay : (f : KnownServer → KnownServer) → ((k : KnownServer) → (f k).name ≡ k.name) → (servers : List KnownServer) → names (map f servers) ≡ names servers
names_stay f same [] = refl
names_stay f same (k ∷ ks) = ap (λ n. n ∷ names (map f ks)) (same k) ∙ ap (λ ns. k.name ∷ ns) (names_stay f same ks)

-- one more name
names_more : (servers : List KnownServer) (k : KnownServer) → names (servers ++ k ∷ []) ≡ names servers ++ k.name ∷ []
names_more [] k = refl
names_more (j ∷ servers) k = ap (λ ns. j.name ∷ ns) (names_more servers k)

module _ (terms : HostTerms) (failed : List (List ℕ)) where
  -- a command that leaves the names
  apart_stays : (s later : State) (b : Bool) → names later.servers ≡ names s.servers → AreApart s.servers → AreApart (cond b later s).servers
  apart_stays s later true same apart = subst (IsDistinct bytes_eq) (sym same) apart
  apart_stays s later false same apart = apart

  -- a server that is answered so
  abbrev ServerApart : State → List ℕ → Reply → Type 0
  ServerApart s other reply = AreApart (cond (is_ok_reply reply) (after_server s other) s).servers

  -- a server
  server_apart : (s : State) (other : List ℕ) → AreApart s.servers → ServerApart s other (reply_to terms failed s (commands.Server other))
  server_apart s other apart =
      elim s.running as (λ o. ServerApart s other (option_map_or (λ running. replies.Busy s.round) o
      (cond (knows_server s other) replies.Known (cond (is_named failed other) (replies.Failed other) replies.Ok)))) [
        | Some running ↦ apart
        | None ↦ elim (knows_server s other) as (λ b. knows_server s other ≡ b → ServerApart s other (cond b replies.Known (cond (is_named failed other) (replies.Failed other) replies.Ok))) [
          | true ↦ λ e. apart
          | false ↦ λ e. elim (is_named failed other) as (λ b. ServerApart s other (cond b (replies.Failed other) replies.Ok)) [
            | true ↦ apart
            | false ↦ subst (IsDistinct bytes_eq) (sym (names_more s.servers (record { name = other; flag = false }))) (IsDistinct-push nat_list_eq_equiv (names s.servers) other apart e)
          ]
        ] refl
      ]

  -- each command
  command_apart : (s : State) (command : Command) → AreApart s.servers → AreApart (state_after terms failed s command).servers
  command_apart s (commands.Set cell content) = apart_stays s (after_set s cell content) (is_ok_reply (reply_to terms failed s (commands.Set cell content))) refl
  command_apart s (commands.Clear cell) = apart_stays s (after_clear s cell) (is_ok_reply (reply_to terms failed s (commands.Clear cell))) refl
  command_apart s (commands.Register other registration) = apart_stays s (after_register s other registration) (is_ok_reply (reply_to terms failed s (commands.Register other registration))) refl
  command_apart s (commands.Server other) = server_apart s other
  command_apart s (commands.Publish server strings value) =
      apart_stays s (record s { published = topics_with s.published (record { server = server; strings = strings }) value }) (is_ok_reply (reply_to terms failed s (commands.Publish server strings value))) refl
  command_apart s (commands.Notify other) =
      apart_stays s (record s { servers = servers_with_flag s.servers other }) (is_ok_reply (reply_to terms failed s (commands.Notify other)))
      (names_stay (λ (k : KnownServer). cond (bytes_eq other k.name) (record k { flag = true }) k) (λ k. name_kept k (bytes_eq other k.name)) s.servers)
    where
      name_kept : (k : KnownServer) (b : Bool) → (cond b (record k { flag = true }) k).name ≡ k.name
      name_kept k true = refl
      name_kept k false = refl
  command_apart s (commands.Throttle interval) =
      apart_stays s (record s { throttle = record s.throttle { interval = interval } }) (is_ok_reply (reply_to terms failed s (commands.Throttle interval))) refl
  command_apart s (commands.Pull moment) =
      apart_stays s (after_pull terms failed s moment) (is_pulled (reply_to terms failed s (commands.Pull moment)))
      (names_stay (λ (k : KnownServer). record k { flag = k.flag && is_named failed k.name }) (λ k. refl) s.servers)
  command_apart s (commands.Begin kind) = apart_stays s (after_begin s kind) (is_begun (reply_to terms failed s (commands.Begin kind))) refl
  command_apart s commands.Settle = apart_stays s (after_done terms s) (is_done (reply_to terms failed s commands.Settle)) refl
  command_apart s commands.Cancel = apart_stays s (after_cancel s) (is_cancelled (reply_to terms failed s commands.Cancel)) refl
  command_apart s (commands.Return handle value) = apart_stays s (after_return s handle value) (is_accepted (reply_to terms failed s (commands.Return handle value))) refl
  command_apart s (commands.Print form) = λ apart. apart
  command_apart s (commands.Listen other) =
      apart_stays s (record s { listeners = s.listeners ++ (record { name = other; events = [] }) ∷ [] }) (is_ok_reply (reply_to terms failed s (commands.Listen other))) refl
  command_apart s (commands.Events other) =
      apart_stays s (record s { listeners = listeners_after_fetch s.listeners other }) (is_fetched (reply_to terms failed s (commands.Events other))) refl

-- from any state on
stays_apart : (terms : HostTerms) (s : State) (attempts : List Attempt) → AreApart s.servers → AreApart (state_after_attempts terms s attempts).servers
stays_apart terms s [] apart = apart
stays_apart terms s (attempt ∷ attempts) apart = stays_apart terms (state_after_attempt terms s attempt) attempts (command_apart terms attempt.failed s attempt.command apart)

-- after attempts no server is known twice
pub known_once : (terms : HostTerms) (attempts : List Attempt) → IsDistinct bytes_eq (names (state_after_attempts terms first_state attempts).servers)
unfolding IsDistinct
known_once terms attempts = stays_apart terms first_state attempts tt

-- ---- the flag of each server
-- where a name isn't that of any of these servers, none of this name has its flag up
none_up : (name : List ℕ) (servers : List KnownServer) → AllByRecursion (λ other. bytes_eq name other ≡ false) (names servers) → is_up servers name ≡ false
none_up name [] apart = refl
none_up name (k ∷ ks) apart = met_not (bytes_eq name k.name) k.flag (is_up ks name) false apart.0 (none_up name ks apart.1)

-- another server in front changes nothing
each_behind : (first : KnownServer) (servers later : List KnownServer) → AllByRecursion (λ other. bytes_eq first.name other ≡ false) (names servers)
    → AllByRecursion (λ (k : KnownServer). k.flag ≡ is_up later k.name) servers → AllByRecursion (λ (k : KnownServer). k.flag ≡ is_up (first ∷ later) k.name) servers
each_behind first [] later apart each = tt
each_behind first (k ∷ ks) later apart each = (
  each.0 ∙ sym (met_not (bytes_eq k.name first.name) first.flag (is_up later k.name) (is_up later k.name) (nat_list_eq_equiv.symm k.name first.name ∙ apart.0) refl),
  each_behind first ks later apart.1 each.1,
)

-- a server's flag is up where that of a server of its name is, where no two have one name
each_own : (servers : List KnownServer) → AreApart servers → AllByRecursion (λ (k : KnownServer). k.flag ≡ is_up servers k.name) servers
unfolding IsDistinct
each_own [] apart = tt
each_own (k ∷ ks) apart = (
  own (bytes_eq k.name k.name) k.flag (nat_list_eq_equiv.refl k.name) (none_up k.name ks apart.0),
  each_behind k ks ks apart.0 (each_own ks apart.1),
)
  where
    own : (c f : Bool) {x : Bool} → c ≡ true → x ≡ false → f ≡ ((c && f) || x)
    own true true same none = refl
    own true false same none = sym none
    own false f same none = cc

-- what is told in other words of each
each_told : (p q : List ℕ → Bool) → ((name : List ℕ) → p name ≡ q name) → (servers : List KnownServer) → AllByRecursion (λ (k : KnownServer). k.flag ≡ p k.name) servers
    → AllByRecursion (λ (k : KnownServer). k.flag ≡ q k.name) servers
each_told p q same [] each = tt
each_told p q same (k ∷ ks) each = (each.0 ∙ same k.name, each_told p q same ks each.1)

-- the flag of each known server after attempts
pub flags_told : (terms : HostTerms) (attempts : List Attempt)
    → All (λ (server : KnownServer). server.flag ≡ leaves_flag_up server.name (exchanges terms first_state attempts)) (state_after_attempts terms first_state attempts).servers
flags_told terms attempts =
    let servers = (state_after_attempts terms first_state attempts).servers in
    All-from_recursion (λ (server : KnownServer). server.flag ≡ leaves_flag_up server.name (exchanges terms first_state attempts)) servers
    (each_told (is_up servers) (λ name. leaves_flag_up name (exchanges terms first_state attempts)) (flag_told terms attempts) servers (each_own servers (known_once terms attempts)))

-- A known server, and how its calls change it.
use Rattle.std.specs.Prelude.{◌≡◌, ℕ, Bool, true, false, List, [], Option, Some, None, is_some, if◌then◌else◌, nat_eq, unwrap_or}
use Rattle.std.specs.Option.{option_eq}
use Rattle.std.specs.Str.{bytes_eq}
use Rattle.cell_values.specs.declared.values.Value.{Value}
use Rattle.known_servers.specs.News.{NewsState, news_at}
use Rattle.rtd_server.specs.Server.{ServerState, is_due, news_of}
use Rattle.rtd_server.specs.Strings.{Strings, same_strings}

-- a known server: its name, its flag, the made server, and the news that it gave
pub record ServerParts (S : Type 0) : Type 0 where
  pub name : List ℕ
  pub flag : Bool
  pub server : S
  pub news : NewsState

-- what a known server holds: what is published for strings, what was at the opening, the strings of each connected id,
-- and what a pull takes for an id: nothing, where nothing was published for it since its value was taken
pub record ServerView : Type 0 where
  pub published : Strings → Option Value
  pub opening : Strings → Option Value
  pub connected : ℕ → Option Strings
  pub pending : ℕ → Option Value

-- what a pull takes for an id: what is published, where the server hasn't given it yet; else the news that it gave
abbrev pub pending_at : ServerState → NewsState → ℕ → Option Value
pending_at server news id = if is_due server id then Some (news_of server id) else news_at news id

-- what a known server holds
abbrev pub view_of : {S : Type 0} → (S → ServerState) → ServerParts S → ServerView
view_of state k = record {
  published = (state k.server).published;
  opening = (state k.server).opening;
  connected = (state k.server).connected;
  pending = pending_at (state k.server) k.news;
}

-- new has published what old has, and at the opening too
abbrev pub SamePublished : ServerView → ServerView → Type 0
SamePublished old new = ((s : Strings) → new.published s ≡ old.published s) × ((s : Strings) → new.opening s ≡ old.opening s)

-- new has the ids connected that old has, with their strings
abbrev pub SameConnected : ServerView → ServerView → Type 0
SameConnected old new = (id : ℕ) → new.connected id ≡ old.connected id

-- a pull takes of new what it takes of old
abbrev pub SamePending : ServerView → ServerView → Type 0
SamePending old new = (id : ℕ) → new.pending id ≡ old.pending id

-- new holds what old holds
abbrev pub SameView : ServerView → ServerView → Type 0
SameView old new = SamePublished old new × SameConnected old new × SamePending old new

-- nothing is published, nothing is connected, and a pull takes nothing
abbrev pub IsNewView : ServerView → Type 0
IsNewView view =
    ((s : Strings) → view.published s ≡ None) × ((s : Strings) → view.opening s ≡ None)
    × ((id : ℕ) → view.connected id ≡ None) × ((id : ℕ) → view.pending id ≡ None)

-- whether an id is connected with these strings
abbrev pub has_strings : ServerView → ℕ → Strings → Bool
has_strings view id strings = option_eq same_strings (view.connected id) (Some strings)

-- new has this value published for the strings, and a pull takes it for the ids that are connected with them; the rest is
-- as old has it
abbrev pub ViewPublishes : ServerView → ServerView → Strings → Value → Type 0
ViewPublishes old new strings value =
    ((s : Strings) → new.published s ≡ (if same_strings strings s then Some value else old.published s))
    × ((s : Strings) → new.opening s ≡ old.opening s)
    × ((id : ℕ) → new.connected id ≡ old.connected id)
    × ((id : ℕ) → new.pending id ≡ (if has_strings old id strings then Some value else old.pending id))

-- new was opened: what old has published is what was at the opening, and the rest is as old has it
abbrev pub ViewOpens : ServerView → ServerView → Type 0
ViewOpens old new =
    ((s : Strings) → new.published s ≡ old.published s) × ((s : Strings) → new.opening s ≡ old.published s)
    × SameConnected old new × SamePending old new

-- new has the id connected with these strings, and the rest as old has it, but for what a pull takes for the id
abbrev pub ViewConnects : ServerView → ServerView → ℕ → Strings → Type 0
ViewConnects old new id strings =
    SamePublished old new × ((q : ℕ) → new.connected q ≡ (if nat_eq id q then Some strings else old.connected q))
    × ((q : ℕ) → nat_eq id q ≡ false → new.pending q ≡ old.pending q)

-- new has the id not connected, a pull takes nothing for it, and the rest is as old has it
abbrev pub ViewDisconnects : ServerView → ServerView → ℕ → Type 0
ViewDisconnects old new id =
    SamePublished old new × ((q : ℕ) → new.connected q ≡ (if nat_eq id q then None else old.connected q))
    × ((q : ℕ) → new.pending q ≡ (if nat_eq id q then None else old.pending q))

-- new has the name and the flag of old
abbrev pub SameName : {S : Type 0} → ServerParts S → ServerParts S → Type 0
SameName old new = (new.name ≡ old.name) × (new.flag ≡ old.flag)

-- a pull leaves this value as the published one: it takes what is published, or nothing and the value is what is
-- published, if anything is
abbrev pub IsCurrent : ServerView → ℕ → Strings → Value → Type 0
IsCurrent view id strings value = unwrap_or (view.published strings) value ≡ unwrap_or (view.pending id) value

-- all that a pull takes of a server was given and sorted in
abbrev pub IsGathered : {S : Type 0} → (S → ServerState) → ServerParts S → Type 0
IsGathered state k = ((state k.server).due ≡ []) × (k.news.given ≡ [])

-- what is always so: where something was published since the opening, something is published; else what is published is
-- what was at the opening; and a pull takes something only for connected ids
pub record IsSound (server : ServerState) (news : NewsState) : Type 0 where
  pub fresh : (s : Strings) → server.is_fresh s ≡ true → is_some (server.published s) ≡ true
  pub stale : (s : Strings) → server.is_fresh s ≡ false → server.opening s ≡ server.published s
  pub linked : (id : ℕ) → is_some (pending_at server news id) ≡ true → is_some (server.connected id) ≡ true

-- whether a known server has this name
abbrev pub has_name : {S : Type 0} → List ℕ → ServerParts S → Bool
has_name name k = bytes_eq name k.name

-- Listeners with their events, in the words of a host's state.
use Rattle.std.proofs.Common.{◌≡◌, ℕ, Bool, true, false, not, ◌||◌, cond, List, [], ◌∷◌, ◌++◌, map, refl, ap, sym, ◌∙◌}
use Rattle.std.specs.Str.{bytes_eq}
use Rattle.calc_events.specs.Listening as heard
use Rattle.cell_values.specs.declared.events.Event.{Event}
use Rattle.workbook.specs.Pulling.{is_named}
use Rattle.workbook.specs.State.{Listener}
use Rattle.workbook.specs.Step.{events_of, listeners_after_fetch, listeners_with}
use Rattle.workbook.proofs.PublicLaws.{or_false}
use Rattle.host_core.specs.HostKeeping.{listener_as, listeners_as}

-- whether a listener is there
pub listens_as : (listeners : List heard.Listener) (name : List ℕ) → is_named (map (λ (listener : Listener). listener.name) (listeners_as listeners)) name ≡ heard.has_listener listeners name
listens_as [] name = refl
listens_as (listener ∷ listeners) name = ap (λ b. bytes_eq name listener.name || b) (listens_as listeners name)

-- the events of one
pub events_as : (listeners : List heard.Listener) (name : List ℕ) → events_of (listeners_as listeners) name ≡ heard.events_of listeners name
events_as [] name = refl
events_as (listener ∷ listeners) name = ap (λ events. cond (bytes_eq name listener.name) listener.events events) (events_as listeners name)

-- one more listener
pub listeners_added : (listeners : List heard.Listener) (listener : heard.Listener) → listeners_as (listeners ++ listener ∷ []) ≡ listeners_as listeners ++ listener_as listener ∷ []
listeners_added [] listener = refl
listeners_added (first ∷ listeners) listener = ap (λ others. listener_as first ∷ others) (listeners_added listeners listener)

-- one more event
pub listeners_fired : (listeners : List heard.Listener) (event : Event) → listeners_as (heard.listeners_with listeners event) ≡ listeners_with (listeners_as listeners) event
listeners_fired [] event = refl
listeners_fired (listener ∷ listeners) event = ap (λ others. (record { name = listener.name; events = listener.events ++ event ∷ [] }) ∷ others) (listeners_fired listeners event)

fetched_as : (listener : heard.Listener) (b : Bool) → listener_as (cond b (record listener { events = [] }) listener) ≡ cond b (record { name = listener.name; events = [] }) (listener_as listener)
fetched_as listener true = refl
fetched_as listener false = refl

-- events that were fetched
pub listeners_fetched : (listeners : List heard.Listener) (name : List ℕ) → listeners_as (heard.listeners_after_fetch listeners name) ≡ listeners_after_fetch (listeners_as listeners) name
listeners_fetched [] name = refl
listeners_fetched (listener ∷ listeners) name =
    ap (λ first. first ∷ listeners_as (heard.listeners_after_fetch listeners name)) (fetched_as listener (bytes_eq name listener.name))
    ∙ ap (λ others. cond (bytes_eq name listener.name) (record { name = listener.name; events = [] }) (listener_as listener) ∷ others) (listeners_fetched listeners name)

-- whether one is there, and what it fetches, of listeners that are those
pub names_heard : (listeners : List Listener) (others : List heard.Listener) (name : List ℕ) → listeners ≡ listeners_as others → is_named (map (λ (listener : Listener). listener.name) listeners) name ≡ heard.has_listener others name
names_heard listeners others name same = ap (λ all. is_named (map (λ (listener : Listener). listener.name) all) name) same ∙ listens_as others name

-- what isn't there fetches nothing
pub unheard : (listeners : List Listener) (name : List ℕ) → is_named (map (λ (listener : Listener). listener.name) listeners) name ≡ false → listeners_after_fetch listeners name ≡ listeners
unheard [] name none = refl
unheard (listener ∷ listeners) name none =
    let both = or_false (bytes_eq name listener.name) (is_named (map (λ (listener : Listener). listener.name) listeners) name) none in
    ap (λ b. cond b (record listener { events = [] }) listener ∷ listeners_after_fetch listeners name) both.0 ∙ ap (λ others. listener ∷ others) (unheard listeners name both.1)

-- what another test tells of one
pub none_true : (b : Bool) → true ≡ not b → b ≡ false
none_true true h = h
none_true false h = refl

pub some_true : (b : Bool) → false ≡ not b → b ≡ true
some_true true h = refl
some_true false h = h

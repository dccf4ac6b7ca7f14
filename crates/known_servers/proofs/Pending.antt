-- What a pull takes, after a server has published.
use Rattle.std.proofs.Common.{◌≡◌, ℕ, Bool, true, false, cond, ◌||◌, List, [], ◌∷◌, ◌++◌, Option, None, Some, refl, ap, sym, ◌∙◌, append_assoc}
use Rattle.std.specs.Prelude.{is_some, map, nat_eq}
use Rattle.std.specs.Cmp.{IsEquivalence}
use Rattle.std.specs.List.{list_any}
use Rattle.std.specs.Map.{lookup}
use Rattle.std.specs.Option.{option_and_then, option_eq}
use Rattle.std.proofs.lemmas.Bool.{eqb-true}
use Rattle.std.proofs.lemmas.List.Sorted.{list_any-IsPermutation}
use Rattle.std.proofs.lemmas.Cmp.{lists_equiv, nat_list_eq_equiv}
use Rattle.cell_values.specs.declared.values.Value.{Value}
use Rattle.known_servers.specs.News.{NewsState, news_at}
use Rattle.known_servers.specs.Server.{IsSound, pending_at}
use Rattle.rtd_server.specs.Server.{AreNews, GainsDue, KeepsConnected, KeepsPublished, Publishes, ServerState, is_due, news_of, value_or_na}
use Rattle.rtd_server.specs.Strings.{Strings, same_strings}

-- the same strings are so as an equivalence is
same_strings_laws : IsEquivalence same_strings
same_strings_laws = lists_equiv nat_list_eq_equiv

-- what is published for the strings of an id, after one was published
news_after : (c : Option Strings) (old new : Strings → Option Value) (strings : Strings) (value : Value)
    → ((s : Strings) → new s ≡ cond (same_strings strings s) (Some value) (old s))
    → option_and_then new c ≡ cond (option_eq same_strings c (Some strings)) (Some value) (option_and_then old c)
news_after None old new strings value put = refl
news_after (Some s) old new strings value put =
    put s ∙ ap (λ b. cond b (Some value) (old s)) (same_strings_laws.symm strings s)

-- what a pull takes then, by whether the id has the strings, and whether it was due
choose : (has due : Bool) (value : Value) (published news : Option Value)
    → cond (has || due) (Some (value_or_na (cond has (Some value) published))) news ≡ cond has (Some value) (cond due (Some (value_or_na published)) news)
choose true due value published news = refl
choose false true value published news = refl
choose false false value published news = refl

-- what a pull takes after a server has published
pub pending-published : (old new : ServerState) (news : NewsState) (strings : Strings) (value : Value)
    → Publishes old new strings value → KeepsConnected old new → GainsDue old new strings
    → (id : ℕ) → pending_at new news id ≡ cond (option_eq same_strings (old.connected id) (Some strings)) (Some value) (pending_at old news id)
pending-published old new news strings value publishes connected due id =
    ap (λ b. cond b (Some (value_or_na (option_and_then new.published (new.connected id)))) (news_at news id)) (due id)
    ∙ ap (λ c. cond (option_eq same_strings (old.connected id) (Some strings) || is_due old id) (Some (value_or_na (option_and_then new.published c))) (news_at news id)) (connected id)
    ∙ ap (λ v. cond (option_eq same_strings (old.connected id) (Some strings) || is_due old id) (Some (value_or_na v)) (news_at news id)) (news_after (old.connected id) old.published new.published strings value publishes.0)
    ∙ choose (option_eq same_strings (old.connected id) (Some strings)) (is_due old id) value (option_and_then old.published (old.connected id)) (news_at news id)

-- one of the given pairs, and those behind it
one_given : (same others : Bool) (v w : Value) (rest sorted : Option Value) → (same ≡ true → v ≡ w) → rest ≡ cond others (Some w) sorted
    → cond same (Some v) rest ≡ cond (same || others) (Some w) sorted
one_given true others v w rest sorted alike h = ap Some (alike refl)
one_given false others v w rest sorted alike h = h

-- the news of an id among given pairs, and behind them
given-first : (st : ServerState) (ids : List ℕ) (sorted : List (ℕ × Value)) (id : ℕ)
    → lookup (nat_eq id) (map (λ i. (i, news_of st i)) ids ++ sorted) ≡ cond (list_any (nat_eq id) ids) (Some (news_of st id)) (lookup (nat_eq id) sorted)
given-first st [] sorted id = refl
given-first st (i ∷ ids) sorted id = one_given (nat_eq id i) (list_any (nat_eq id) ids) (news_of st i) (news_of st id) (lookup (nat_eq id) (map (λ j. (j, news_of st j)) ids ++ sorted)) (lookup (nat_eq id) sorted)
    (λ same. ap (news_of st) (sym (eqb-true id i same))) (given-first st ids sorted id)

-- what a pull takes stays where a server gives its news
pub pending-given : (old new : ServerState) (sorted pairs : List (ℕ × Value))
    → AreNews old pairs → new.due ≡ []
    → (id : ℕ) → pending_at new (record { given = pairs; sorted = sorted }) id ≡ pending_at old (record { given = []; sorted = sorted }) id
pending-given old new sorted pairs news due id =
    ap (λ (ids : List ℕ). cond (list_any (nat_eq id) ids) (Some (news_of new id)) (news_at (record { given = pairs; sorted = sorted }) id)) due
    ∙ ap (λ (ps : List (ℕ × Value)). lookup (nat_eq id) (ps ++ sorted)) news.4
    ∙ given-first old news.0 sorted id
    ∙ ap (λ b. cond b (Some (news_of old id)) (lookup (nat_eq id) sorted)) (sym (list_any-IsPermutation (nat_eq id) old.due news.0 news.1))

-- what always holds stays where nothing that shows changes
pub sound-kept : (old new : ServerState) (news news' : NewsState) → IsSound old news → KeepsPublished old new → KeepsConnected old new
    → ((id : ℕ) → pending_at new news' id ≡ pending_at old news id) → IsSound new news'
sound-kept old new news news' sound published connected pending = record {
  fresh = λ s h. ap is_some (published.0 s) ∙ sound.fresh s (sym (published.2 s) ∙ h);
  stale = λ s h. published.1 s ∙ sound.stale s (sym (published.2 s) ∙ h) ∙ sym (published.0 s);
  linked = λ id h. ap is_some (connected id) ∙ sound.linked id (ap is_some (sym (pending id)) ∙ h);
}

-- what a pull takes stays where a server gives its news and these are taken as they came
pub pending-refreshed : (old new : ServerState) (news news' : NewsState) (pairs : List (ℕ × Value))
    → news.given ≡ [] → news' ≡ record { given = pairs; sorted = news.sorted } → AreNews old pairs → new.due ≡ []
    → (id : ℕ) → pending_at new news' id ≡ pending_at old news id
pending-refreshed old new news news' pairs empty is given due id =
    ap (λ (n : NewsState). pending_at new n id) is ∙ pending-given old new news.sorted pairs given due id
    ∙ ap (λ (g : List (ℕ × Value)). pending_at old (record { given = g; sorted = news.sorted }) id) (sym empty)

-- one that is due, or found
found_first : (b : Bool) (v : Value) (x y : Option Value) → (is_some x ≡ true → is_some y ≡ true) → is_some (cond b (Some v) x) ≡ true → is_some (cond b (Some v) y) ≡ true
found_first true v x y f h = refl
found_first false v x y f h = f h

-- what is found stays found where more stands behind
found_before : (test : ℕ → Bool) (es more : List (ℕ × Value)) → is_some (lookup test es) ≡ true → is_some (lookup test (es ++ more)) ≡ true
found_before test [] more h = cc
found_before test (e ∷ es) more h = found_first (test e.0) e.1 (lookup test es) (lookup test (es ++ more)) (found_before test es more) h

-- what always holds stays where news are taken out at the end
pub sound-popped : (st : ServerState) (news news' : NewsState) (last : List (ℕ × Value)) → news'.given ≡ news.given → news.sorted ≡ news'.sorted ++ last
    → IsSound st news → IsSound st news'
sound-popped st news news' last given sorted sound = record {
  fresh = sound.fresh;
  stale = sound.stale;
  linked = λ id h. sound.linked id
      (found_first (is_due st id) (news_of st id) (news_at news' id) (news_at news id)
      (λ found. ap (λ (es : List (ℕ × Value)). is_some (lookup (nat_eq id) es)) (ap (λ (g : List (ℕ × Value)). g ++ news.sorted) (sym given) ∙ ap (λ (s : List (ℕ × Value)). news'.given ++ s) sorted ∙ sym (append_assoc news'.given news'.sorted last))
      ∙ found_before (nat_eq id) (news'.given ++ news'.sorted) last found) h);
}

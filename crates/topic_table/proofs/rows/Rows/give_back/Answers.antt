use Rattle.std.proofs.Common.{◌≡◌, ℕ, Option, [], is_some, map, sym, ap, subst, ◌∙◌, refl, arith, rules}
use Rattle.std.specs.Prelude.{filter}
use Rattle.indexmap.proofs.CallerLemmas.{filter-RetainsPairs}
use Rattle.topic_table.specs.declared.places.Row.{Row}
use Rattle.topic_table.specs.Rows.{IsOnce, IsRising, connected, live, readings_in}
use Rattle.topic_table.specs.Table.{has_read, has_reader}
use Rattle.topic_table.proofs.RowChanges.{live-live, rising-live}
use Rattle.topic_table.proofs.rows.Rows.give_back.Goals as goal

pub invariant_of-self : goal.invariant_of-self
invariant_of-self c =
    let es = c.self.inside.rows.entries in
    let is : c.retain.new.self.entries ≡ filter (λ (e : ℕ × Option Row). is_some e.1) es
    = filter-RetainsPairs _ (λ (e : ℕ × Option Row). is_some e.1) _ (λ k v b w g call. search rules) _ _ c.retain.ensures.filtered in (
      subst (λ l. IsRising 0 l c.self.inside.greatest) (sym is) (rising-live es 0 0 c.self.inside.greatest (omega arith) c.self.invariant.0),
      subst (λ l. IsOnce (map connected l)) (sym (ap live is ∙ live-live es)) c.self.invariant.1,
      refl,
      c.self.invariant.3,
    )

pub returns : goal.returns
returns c =
    let es = c.self.inside.rows.entries in
    let is : c.retain.new.self.entries ≡ filter (λ (e : ℕ × Option Row). is_some e.1) es
    = filter-RetainsPairs _ (λ (e : ℕ × Option Row). is_some e.1) _ (λ k v b w g call. search rules) _ _ c.retain.ensures.filtered in
    let same : live c.retain.new.self.entries ≡ live es = ap live is ∙ live-live es in
    let readings = ap (map readings_in) same in
    record {
      topics = record { topics = ap (map connected) same ∙ ap (λ v. v.topics) c.self.view_is; greatest = ap (λ v. v.greatest) c.self.view_is };
      readers = λ q cell. ap (λ l. has_reader (record { topics = []; readings = l; greatest = 0; room = 0 }) q cell) readings ∙ ap (λ v. has_reader v q cell) c.self.view_is;
      running = λ q cell. ap (λ l. has_read (record { topics = []; readings = l; greatest = 0; room = 0 }) q cell) readings ∙ ap (λ v. has_read v q cell) c.self.view_is;
    }

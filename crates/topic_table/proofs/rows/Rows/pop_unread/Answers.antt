use Rattle.std.proofs.Common.{ℕ, Option, None, cond, not, ◌&&◌, map, take, sym, ap, subst, ◌∙◌, refl}
use Rattle.std.specs.Prelude.{find, nat_eq}
use Rattle.std.specs.List.{list_any}
use Rattle.std.specs.Option.{option_map}
use Rattle.cell_values.specs.Topic.{same_topic}
use Rattle.topic_table.specs.declared.places.Row.{Row}
use Rattle.topic_table.specs.Rows.{IsOnce, connected, is_unread_place, live, table_of}
use Rattle.topic_table.specs.Table.{ConnectedTopic, first_unread, has_read, has_reader, id_of, is_no_cell, leaving, readers_of, topics_without}
use Rattle.topic_table.proofs.RowChanges.{agrees-unread, apart-live, connected-taken, first-found, found-leaving, id_of-without, none-found, once-without, rising-taken, take-set_value_at, taken-out, topic-sought}
use Rattle.topic_table.proofs.rows.Rows.pop_unread.Goals as goal

pub returns-in_default-clause-first : goal.returns-in_default-clause-first
returns-in_default-clause-first c =
    sym (ap (option_map leaving) (none-found (λ (t : ConnectedTopic). is_no_cell (readers_of (table_of c.self.inside.rows.entries c.self.inside.greatest 0) t.id)) is_unread_place refl c.self.inside.rows.entries (agrees-unread c.self.inside.rows.entries c.self.inside.greatest 0 c.self.invariant.0) c.in_default.ensures.none))
    ∙ ap (λ v. option_map leaving (first_unread v)) c.self.view_is

pub take_out-requires : goal.take_out-requires
take_out-requires c = topic-sought is_unread_place refl _ c.in-Some.ensures.at

pub invariant_of-self : goal.invariant_of-self
invariant_of-self c =
    let es = c.self.inside.rows.entries in (
      rising-taken c.self.inside.rows.entries c.take_out.new.rows.entries c.self.inside.greatest c.in-Some.place c.self.invariant.0 c.take_out.result.0 c.take_out.result.1 c.take_out.ensures.row c.take_out.ensures.left,
      subst IsOnce (sym (connected-taken c.self.inside.rows.entries c.take_out.new.rows.entries c.self.inside.greatest c.in-Some.place c.self.invariant.0 c.take_out.result.0 c.take_out.result.1 c.take_out.ensures.row c.take_out.ensures.left)) (once-without (map connected (live es)) c.take_out.result.1 c.self.invariant.1),
      ap (λ l. list_any (λ (e : ℕ × Option Row). is_unread_place e.1) (take c.in-Some.place l)) c.take_out.ensures.left
          ∙ ap (list_any (λ (e : ℕ × Option Row). is_unread_place e.1)) (take-set_value_at es c.in-Some.place None) ∙ c.in-Some.ensures.first,
      c.self.invariant.3,
    )

pub returns-clause-first : goal.returns-clause-first
returns-clause-first c =
    (sym c.take_out.ensures.row ∙ first-found (λ (t : ConnectedTopic). is_no_cell (readers_of (table_of c.self.inside.rows.entries c.self.inside.greatest 0) t.id)) is_unread_place refl c.self.inside.rows.entries c.in-Some.place (agrees-unread c.self.inside.rows.entries c.self.inside.greatest 0 c.self.invariant.0) c.in-Some.ensures.first c.in-Some.ensures.at)
    ∙ ap (λ v. option_map leaving (first_unread v)) c.self.view_is

pub returns-clause-ids : goal.returns-clause-ids
returns-clause-ids c q =
    let es = c.self.inside.rows.entries in
    let ts = map connected (live es) in
    let found = found-leaving (find (λ (t : ConnectedTopic). is_no_cell (readers_of (table_of c.self.inside.rows.entries c.self.inside.greatest 0) t.id)) ts) c.take_out.result.0 c.take_out.result.1 (sym c.take_out.ensures.row ∙ first-found (λ (t : ConnectedTopic). is_no_cell (readers_of (table_of c.self.inside.rows.entries c.self.inside.greatest 0) t.id)) is_unread_place refl c.self.inside.rows.entries c.in-Some.place (agrees-unread c.self.inside.rows.entries c.self.inside.greatest 0 c.self.invariant.0) c.in-Some.ensures.first c.in-Some.ensures.at) in
    ap (λ l. id_of l q) (connected-taken c.self.inside.rows.entries c.take_out.new.rows.entries c.self.inside.greatest c.in-Some.place c.self.invariant.0 c.take_out.result.0 c.take_out.result.1 c.take_out.ensures.row c.take_out.ensures.left)
    ∙ ap (λ id. id_of (topics_without ts id) q) found.3
    ∙ id_of-without (λ (t : ConnectedTopic). is_no_cell (readers_of (table_of c.self.inside.rows.entries c.self.inside.greatest 0) t.id)) ts found.0 c.self.invariant.1 (apart-live es 0 c.self.inside.greatest c.self.invariant.0) found.1 q
    ∙ ap (λ topic. cond (same_topic topic q) None (id_of ts q)) (sym found.2)
    ∙ ap (λ v. cond (same_topic c.take_out.result.0 q) None (id_of v.topics q)) c.self.view_is

pub returns-clause-out : goal.returns-clause-out
returns-clause-out c =
    let id = c.take_out.result.1 in
    let out = taken-out c.self.inside.rows.entries c.take_out.new.rows.entries c.self.inside.greatest c.in-Some.place c.self.invariant.0 c.take_out.result.0 c.take_out.result.1 c.take_out.ensures.row c.take_out.ensures.left 0 0 in
    record {
      topics = out.topics ∙ ap (λ v. topics_without v.topics id) c.self.view_is;
      greatest = out.greatest ∙ ap (λ v. v.greatest) c.self.view_is;
      readers = λ q cell. out.readers q cell ∙ ap (λ v. not (nat_eq id q) && has_reader v q cell) c.self.view_is;
      running = λ q cell. out.running q cell ∙ ap (λ v. not (nat_eq id q) && has_read v q cell) c.self.view_is;
    }

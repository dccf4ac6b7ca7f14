use Rattle.std.proofs.Common.{◌≡◌, ℕ, ◌<◌, ◌||◌, List, length, take, get_or, ap, sym, ◌∙◌, arith, nat_eq}
use Rattle.std.specs.Prelude.{◌&&◌}
use Rattle.std.specs.List.{list_any}
use Rattle.std.specs.Map.{keys_of}
use Rattle.std.proofs.Math.Seq.{take-length}
use Rattle.std.proofs.lemmas.Map.Entries.{length-keys_of}
use Rattle.std.proofs.lemmas.Option.{get_or_from_slice_get, slice_get-get_or, slice_get_within}
use Rattle.rtd_topics.specs.Parts.{differs}
use Rattle.rtd_topics.proofs.Noting.{differs-keyed, ids-more}
use Rattle.rtd_topics.proofs.pulls.note_changed.Goals as goal
use Rattle.rtd_topics.proofs.pulls.note_changed.Goals.{in-Some+in_ok-note_id, in_default}

pub loop-place-preserved : goal.loop-place-preserved
loop-place-preserved g c q = elim c.match-news_pair.branch [
  | in-Some+in_ok-note_id w ↦
      let keys : List ℕ = keys_of c.args.known.now.news.sorted in
      let below : c.loop-place.place < length keys = slice_get_within keys c.loop-place.place w.in-Some.id (sym w.in-Some.ensures.id) in
      let item : w.in-Some.id ≡ get_or keys c.loop-place.place w.in-Some.id = sym (get_or_from_slice_get keys c.loop-place.place w.in-Some.id w.in-Some.id (sym w.in-Some.ensures.id)) in
      ids-more c.args.known.now.news.sorted c.args.table.now.topics keys c.loop-place.place w.in-Some.id w.in-Some.value.now q
      (list_any (nat_eq q) c.match-news_pair.ids.keys) (list_any (nat_eq q) c.loop-place.ids.keys) (list_any (nat_eq q) c.args.ids.now.keys)
      below item w.in-Some.ensures.value
      (ap (λ ids. list_any (nat_eq q) ids.keys) w.ids-is ∙ w.in_ok-note_id.ensures q ∙ ap (λ b. (b && nat_eq w.in-Some.id q) || list_any (nat_eq q) c.loop-place.ids.keys) w.has_other.ensures)
      (c.loop-place.invariant q)
  | in_default w ↦
      let keys : List ℕ = keys_of c.args.known.now.news.sorted in
      let below : c.loop-place.place < length keys = omega (arith, c.news_len-place-end.ensures, length-keys_of c.args.known.now.news.sorted) in
      absurd (cc (slice_get-get_or keys c.loop-place.place 0 below, w.in_default.ensures.id))
]

pub returns : goal.returns
returns g c q =
    let all : c.loop-place.place ≡ length (keys_of c.args.known.now.news.sorted) = omega (arith, c.news_len-place-end.ensures, length-keys_of c.args.known.now.news.sorted) in
    c.loop-place.invariant q
    ∙ ap (λ ks. (list_any (nat_eq q) ks && differs c.args.known.now.news.sorted c.args.table.now.topics q) || list_any (nat_eq q) c.args.ids.now.keys)
    (ap (λ n. take n (keys_of c.args.known.now.news.sorted)) all ∙ take-length (keys_of c.args.known.now.news.sorted))
    ∙ ap (λ b. b || list_any (nat_eq q) c.args.ids.now.keys) (differs-keyed c.args.known.now.news.sorted c.args.table.now.topics q)

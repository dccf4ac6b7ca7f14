-- What a recalculation gets of topics, and what is kept beside, stays.
use Rattle.std.proofs.Common.{◌≡◌, cond, Option, None, Some, subst}
use Rattle.std.specs.Prelude.{◌&&◌, filter, is_some, map, not, unwrap_or}
use Rattle.std.specs.Map.{lookup}
use Rattle.std.specs.Option.{option_and_then}
use Rattle.cell_refs.specs.declared.grid.Cell.{Cell}
use Rattle.cell_values.specs.declared.errors.ErrorKind.TheVariants as errors
use Rattle.cell_values.specs.declared.topics.Topic.{Topic}
use Rattle.cell_values.specs.declared.values.Value.{Value}
use Rattle.cell_values.specs.declared.values.Value.TheVariants as values
use Rattle.cell_values.specs.Topic.{same_topic}
use Rattle.rtd_server.specs.Server.{ServerState}
use Rattle.rtd_topics.specs.Parts.{RtdParts, is_of_round, known_of, opening_of, published_of, rtd_of, topic_has, with_value}
use Rattle.rtd_topics.specs.RtdState.{knows_topic, source_of}
use Rattle.topic_source.specs.Source.{KeepsValues}
use Rattle.topic_table.specs.Table.{ConnectedTopic, has_reader}

-- the parts give the same, but for what is noted in the recalculation that runs
pub record GivesSame {S : Type 0} (state : S → ServerState) (p p' : RtdParts S) : Type 0 where
  pub known : map known_of p'.servers ≡ map known_of p.servers
  pub published : (topic : Topic) → published_of state p'.servers topic ≡ published_of state p.servers topic
  pub opening : (topic : Topic) → opening_of state p'.servers topic ≡ opening_of state p.servers topic
  pub taken : filter (λ (x : ConnectedTopic). not (is_of_round p'.is_running p'.round x)) p'.table.topics
      ≡ filter (λ (x : ConnectedTopic). not (is_of_round p.is_running p.round x)) p.table.topics
  pub pacing : p'.pacing ≡ p.pacing
  pub readers : (topic : Topic) (cell : Cell) → topic_has (has_reader p'.table) p'.table.topics topic cell ≡ topic_has (has_reader p.table) p.table.topics topic cell
  pub round : p'.round ≡ p.round
  pub running : p'.is_running ≡ p.is_running

-- then the values stay, and what is kept beside
pub values-kept : {S : Type 0} (state : S → ServerState) (p p' : RtdParts S) → GivesSame state p p' → KeepsValues (source_of (rtd_of state p)) (source_of (rtd_of state p'))
values-kept {S} state p p' same =
    let opened : cond p'.is_running (Some (opening_of state p'.servers)) None ≡ cond p.is_running (Some (opening_of state p.servers)) None =
    λ i. cond (same.running i) (Some (λ topic. same.opening topic i)) None in
    record {
      snapshot = λ i. λ topic. unwrap_or (lookup (same_topic topic) (map with_value (same.taken i)))
          (unwrap_or (option_and_then (λ (o : Topic → Option Value). o topic) (opened i)) (values.Error errors.Na));
      served = λ i. λ topic. is_some (opened i) && knows_topic (same.known i) topic;
      standing = λ i. record {
        servers = same.known i;
        published = λ topic. same.published topic i;
        taken = map with_value (same.taken i);
        throttle = record { interval = (same.pacing i).interval; last = (same.pacing i).last };
        opening = opened i;
        readers = λ topic cell. same.readers topic cell i;
        round = same.round i;
      };
    }

-- the same, seen from the value of which the parts are the view
pub values-seen : {S : Type 0} (state : S → ServerState) (now p p' : RtdParts S) → p ≡ now → GivesSame state p p' → KeepsValues (source_of (rtd_of state now)) (source_of (rtd_of state p'))
values-seen {S} state now p p' view same = subst (λ (q : RtdParts S). KeepsValues (source_of (rtd_of state q)) (source_of (rtd_of state p'))) view (values-kept state p p' same)

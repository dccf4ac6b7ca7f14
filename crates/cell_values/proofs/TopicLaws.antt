-- Topics are the same as an equivalence is, and the same topics are one.
use Rattle.std.proofs.Common.{◌≡◌, true}
use Rattle.std.proofs.lemmas.Cmp.{and_equiv, on_equiv, lists_equiv, nat_list_eq_equiv}
use Rattle.std.specs.Cmp.{IsEquivalence}
use Rattle.cell_values.specs.declared.topics.Topic.{Topic}
use Rattle.cell_values.specs.Topic.{same_topic}

-- topics are the same as an equivalence is
pub same_topics : IsEquivalence same_topic
same_topics = and_equiv (on_equiv (λ (t : Topic). t.server) nat_list_eq_equiv) (on_equiv (λ (t : Topic). t.strings) (lists_equiv nat_list_eq_equiv))

-- a topic is the same as itself
pub same_topic-refl : (topic : Topic) → same_topic topic topic ≡ true
same_topic-refl = same_topics.refl

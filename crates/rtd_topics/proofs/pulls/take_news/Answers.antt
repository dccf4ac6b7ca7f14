use Rattle.std.proofs.Common.{◌≡◌, ℕ, Bool, true, false, cond, [], List, ap, sym, refl, ◌∙◌, append-nil, nat_eq}
use Rattle.std.specs.Map.{lookup}
use Rattle.cell_values.specs.declared.values.Value.{Value}
use Rattle.rtd_topics.specs.Parts.{topics_taken}
use Rattle.topic_table.specs.Table.{ConnectedTopic}
use Rattle.rtd_topics.proofs.Taking.{taken-last, taken-none}
use Rattle.rtd_topics.proofs.pulls.take_news.Goals as goal

-- what is chosen where the flag is up
flagged : (b : Bool) (ts us : List ConnectedTopic) → b ≡ true → ts ≡ cond b ts us
flagged true ts us h = refl
flagged false ts us h = absurd (cc h)

pub loop-id-preserved : goal.loop-id-preserved
loop-id-preserved g c = record {
  name = c.pop_news.ensures.name.0 ∙ c.loop-id.invariant.name;
  server = c.pop_news.ensures.server ∙ c.loop-id.invariant.server;
  given = c.pop_news.ensures.given ∙ c.loop-id.invariant.given;
  topics = ap (topics_taken (λ q. lookup (nat_eq q) c.pop_news.new.self.news.sorted)) c.take.ensures.topics
      ∙ taken-last c.loop-id.known.news.sorted c.pop_news.new.self.news.sorted c.in-Some.id c.in-Some.value c.loop-id.table.topics c.in-Some.ensures.sorted
      ∙ c.loop-id.invariant.topics;
  others = record { readings = c.take.ensures.readings ∙ c.loop-id.invariant.others.readings; greatest = c.take.ensures.greatest ∙ c.loop-id.invariant.others.greatest };
}

pub returns : goal.returns
returns g c =
    let empty : c.loop-id.known.news.sorted ≡ [] = c.in_default.ensures.empty in
    let gone : c.pop_news.new.self.news.sorted ≡ [] = sym (append-nil c.pop_news.new.self.news.sorted) ∙ sym c.in_default.ensures.sorted ∙ empty in
    record {
      server = (
        ap (λ k. k.name) c.set_flag.ensures ∙ c.pop_news.ensures.name.0 ∙ c.loop-id.invariant.name,
        ap (λ k. k.flag) c.set_flag.ensures,
        ap (λ k. k.server) c.set_flag.ensures ∙ c.pop_news.ensures.server ∙ c.loop-id.invariant.server,
        ap (λ k. k.news.given) c.set_flag.ensures ∙ c.pop_news.ensures.given ∙ c.loop-id.invariant.given,
        (λ on. ap (λ k. k.news.sorted) c.set_flag.ensures ∙ gone),
        (λ off. absurd (cc (off, c.requires))),
      );
      topics = sym (ap (λ (s : List (ℕ × Value)). topics_taken (λ q. lookup (nat_eq q) s) c.loop-id.table.topics) empty ∙ taken-none c.loop-id.table.topics)
          ∙ c.loop-id.invariant.topics
          ∙ flagged c.args.known.now.flag (topics_taken (λ q. lookup (nat_eq q) c.args.known.now.news.sorted) c.args.table.now.topics) c.args.table.now.topics c.requires;
      others = c.loop-id.invariant.others;
    }

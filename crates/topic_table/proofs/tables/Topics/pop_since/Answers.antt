use Rattle.std.proofs.Common.{◌≡◌, ◌||◌, ◌&&◌, not, Bool, true, false, None, cond, sym, ap, ◌∙◌}
use Rattle.std.specs.Prelude.{nat_eq}
use Rattle.cell_values.specs.Topic.{same_topic}
use Rattle.topic_table.specs.Table.{has_read, has_reader}
use Rattle.topic_table.proofs.tables.Topics.pop_since.Goals as goal

-- readers that stayed were there
stayed : (b x y : Bool) → ((not b && x) || (not b && y)) ≡ true → (x || y) ≡ true
stayed true x y h = absurd (no h)
  where
    no : false ≡ true → ⊥
    no h = cc
stayed false x y h = h

pub invariant_of-self-2 : goal.invariant_of-self-2
invariant_of-self-2 c = (
  λ indexed q.
      c.remove.ensures.out q
      ∙ ap (cond (same_topic c.in_ok-topic.topic q) None) (c.self.invariant.0 indexed q)
      ∙ sym (c.in_ok-topic.ensures.ids q),
  λ linked id cell reads. c.self.invariant.1 linked id cell
      (stayed (nat_eq c.in_ok-topic.id id) (has_reader c.self.inside.rows id cell) (has_read c.self.inside.rows id cell)
      ((λ i. sym (c.in_ok-topic.ensures.out.readers id cell) i || sym (c.in_ok-topic.ensures.out.running id cell) i) ∙ reads)),
)

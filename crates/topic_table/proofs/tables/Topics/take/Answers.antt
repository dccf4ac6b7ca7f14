use Rattle.std.proofs.Common.{◌||◌, [], sym, ap, ◌∙◌}
use Rattle.topic_table.specs.Table.{has_read, has_reader, id_of}
use Rattle.topic_table.proofs.RowChanges.{id_of-valued}
use Rattle.topic_table.proofs.tables.Topics.take.Goals as goal

pub invariant_of-self : goal.invariant_of-self
invariant_of-self c = (
  λ indexed topic. c.self.invariant.0 indexed topic ∙ sym (id_of-valued c.self.inside.rows.topics c.args.id c.args.value topic) ∙ ap (λ l. id_of l topic) (sym c.take.ensures.topics),
  λ linked id cell reads. c.self.invariant.1 linked id cell
      (ap (λ l. has_reader (record { topics = []; readings = l; greatest = 0; room = 0 }) id cell || has_read (record { topics = []; readings = l; greatest = 0; room = 0 }) id cell) (sym c.take.ensures.readings) ∙ reads),
)

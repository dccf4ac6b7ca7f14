use Rattle.std.proofs.Common.{rules, ap, ◌∙◌}
use Rattle.std.specs.Prelude.{filter}
use Rattle.std.proofs.lemmas.Fn.{filter_same}
use Rattle.topic_table.specs.Table.{has_reader}
use Rattle.topic_table.proofs.links.Ids.retain_read.Goals as goal

pub returns : goal.returns
returns c =
    filter_same _ (λ id. has_reader c.args.rows.now id c.args.cell) _ (λ x b f' k. search rules) _ _ c.retain.ensures.filtered
    ∙ ap (filter (λ id. has_reader c.args.rows.now id c.args.cell)) c.self.view_is

use Rattle.std.proofs.Common.{◌∙◌}
use Rattle.calc_book.proofs.NotingLaws.{all-noted, taken-back}
use Rattle.calc_book.proofs.noting.note_all.Goals as goal

pub returns-in-Ok-clause-ok : goal.returns-in-Ok-clause-ok
returns-in-Ok-clause-ok c =
    all-noted c.args.changed.now.keys c.insert_all.new.all.keys c.as_slice-fresh.result.now c.args.cells.now (c.as_slice-fresh.ensures.value ∙ c.in_ok-new.ensures) c.in-Ok.ensures.ok

pub returns-clause-refused : goal.returns-clause-refused
returns-clause-refused c =
    taken-back c.args.changed.now.keys c.insert_all.new.all.keys c.remove_all.new.all.keys c.as_slice-fresh.result.now c.args.cells.now (c.as_slice-fresh.ensures.value ∙ c.in_ok-new.ensures)
    c.insert_all.ensures.others c.remove_all.ensures

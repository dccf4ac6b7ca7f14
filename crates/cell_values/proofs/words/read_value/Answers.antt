use Rattle.cell_values.proofs.Readings.{value_text_again}
use Rattle.cell_values.proofs.words.read_value.Goals as goal

pub returns-in-Ok-clause-word : goal.returns-in-Ok-clause-word
returns-in-Ok-clause-word c = value_text_again c.args.text.now c.in-Ok.value c.in-Ok.ensures.ok

use Rattle.std.proofs.Common.{[], ◌∷◌, ◌++◌, ap, ◌∙◌}
use Rattle.calc_book.proofs.Samples.{reading-noted}
use Rattle.calc_book.proofs.tests.FeedTopicSource.read.Goals as goal

pub returns-clause-noted : goal.returns-clause-noted
returns-clause-noted c =
    reading-noted c.args.self.now.value c.args.self.now.readings.items c.keep_reading.new.readings.items c.args.topic.now c.args.reader
    (c.in_ok-keep_reading.ensures.ok ∙ ap (λ t. c.args.self.now.readings.items ++ (t, c.args.reader) ∷ []) c.in_ok-copy.ensures)

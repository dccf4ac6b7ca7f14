use Rattle.std.proofs.Common.{length, ap, ◌∙◌}
use Rattle.std.proofs.lemmas.Result.{IfOk-weaker}
use Rattle.rtd_topics.specs.Parts.{rtd_of}
use Rattle.rtd_topics.proofs.Telling.{changed-kept, reads-kept}
use Rattle.rtd_topics.proofs.topics.RtdTopics.prepare_pull.Goals as goal

pub returns-clause-changed : goal.returns-clause-changed
returns-clause-changed g c =
    IfOk-weaker c.pull_news.result _ _
    (λ news is. is ∙ ap length (changed-kept (rtd_of g.S.RtdServer.state c.args.self.now) (rtd_of g.S.RtdServer.state c.gather.new.self) c.gather.ensures.same)) c.pull_news.ensures.changed

pub returns-clause-readers : goal.returns-clause-readers
returns-clause-readers g c =
    IfOk-weaker c.pull_news.result _ _
    (λ news is cell. is cell ∙ reads-kept (rtd_of g.S.RtdServer.state c.args.self.now) (rtd_of g.S.RtdServer.state c.gather.new.self) c.gather.ensures.same cell) c.pull_news.ensures.readers

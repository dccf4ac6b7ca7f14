use Rattle.std.proofs.Common.{IfOk, subst}
use Rattle.host_io.specs.LineReader.{LineReader, Advances, IsFirstLeft}
use Rattle.host_io.proofs.ReaderLaws.{first_answer, advances_answer}
use Rattle.host_io.proofs.reader.Lines.next.Goals as goal

pub returns-in_default-answer-clause-told : goal.returns-in_default-answer-clause-told
returns-in_default-answer-clause-told g c = λ known.
    let call = c.next_line-answer in
    let motive : LineReader → Type 0 = λ old. IfOk call.result (IsFirstLeft
    old.pending (g.I.Source.remaining c.args.src.now) call.new.buffer.pending (g.I.Source.remaining call.new.src)) in
    subst motive c.self.view_is (first_answer call.result c.self.inside.buffer call.new.buffer _ _ call.new.ended
    call.ensures.moved (call.ensures.empty c.if-self.false) (call.ensures.ended c.if-self.false))

pub returns-in_default-answer-clause-advances : goal.returns-in_default-answer-clause-advances
returns-in_default-answer-clause-advances g c =
    let call = c.next_line-answer in
    let old : LineReader = record {
      pending = c.self.inside.buffer.pending;
      taken = c.self.inside.buffer.taken;
      ended = c.self.inside.ended;
      fault = c.self.inside.fault;
    } in
    let new : LineReader = record {
      pending = call.new.buffer.pending;
      taken = call.new.buffer.taken;
      ended = call.new.ended;
      fault = c.self.inside.fault;
    } in
    let motive : LineReader → Type 0 = λ before. IfOk call.result (λ line. Advances line before new) in
    subst motive c.self.view_is (advances_answer call.result old new _ _ call.new.ended call.ensures.moved c.self.invariant.0)

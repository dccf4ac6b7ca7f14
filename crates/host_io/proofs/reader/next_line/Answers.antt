use Rattle.host_io.proofs.ReaderLaws.{moves_answer, moves_last}
use Rattle.host_io.proofs.reader.next_line.Goals as goal

pub returns-in-Some-clause-moved : goal.returns-in-Some-clause-moved
returns-in-Some-clause-moved g c =
    moves_answer _ _ _ _ _ _ c.in-Some.place c.args.ended.now c.in_ok-place.ensures.moved
    (rw c.in-Some.is at c.in_ok-place.ensures.place) c.give_line.ensures.line c.give_line.ensures.rest

pub returns-in_ok-line-in-None-clause-moved : goal.returns-in_ok-line-in-None-clause-moved
returns-in_ok-line-in-None-clause-moved g c =
    moves_last _ _ _ _ _ _ c.in_ok-place.ensures.moved
    (rw c.in-None.is at c.in_ok-place.ensures.place) c.in_ok-line-in-None.ensures.line c.in_ok-line-in-None.ensures.rest

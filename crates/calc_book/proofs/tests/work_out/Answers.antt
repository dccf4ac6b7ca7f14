use Rattle.calc_book.proofs.tests.work_out.Goals as goal

pub returns : goal.returns
returns c =
    let r = c.requires in
    record {
      way = record { state = r.state; running = c.work_out.ensures.runs r.state r.running; reads = c.work_out.ensures.reads; room = r.room };
      settled = c.in_ok-work_out.ensures.settled r.state r.running;
    }

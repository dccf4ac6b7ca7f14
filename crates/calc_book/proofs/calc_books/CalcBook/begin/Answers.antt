use Rattle.std.proofs.Common.{◌∙◌, refl}
use Rattle.calc_book.proofs.BeginningStates.{HasCaughtUp, all-begun, all-forgotten, all-reads, dirty-begun, dirty-forgotten, dirty-reads, entries-present, entries-readers, err-all, err-anyway, err-leads, if-five, if-four, ok-leads, ok-four, ok-five, own-clean, refused-rests, still-rests}
use Rattle.calc_book.proofs.calc_books.CalcBook.begin.Goals as goal

pub returns-in_err-catch_up-clause-refused : goal.returns-in_err-catch_up-clause-refused
returns-in_err-catch_up-clause-refused c s rest =
    err-anyway _ _ (still-rests c.args.self.now s rest c.args.self.now.changed c.catch_up.new.table c.catch_up.new.marks c.args.self.now.chain c.catch_up.new.store c.args.self.now.work
    refl refl (record { calls = refl; session = refl })
    c.catch_up.ensures.again c.catch_up.ensures.shown (c.catch_up.ensures.clean (own-clean c.args.self.now s rest)))

pub make_all_due-requires : goal.make_all_due-requires
make_all_due-requires c =
    let r = c.requires.rest in
    let e = c.in_ok-catch_up.ensures in
    let up : HasCaughtUp c.args.self.now.book.contents c.args.self.now.changed.keys c.catch_up.new.table c.catch_up.new.marks c.args.self.now.store c.catch_up.new.store = record {
      shown = e.shown;
      others = e.others;
      clean = e.clean;
      again = e.again;
      follows = e.table;
      marked = e.marked;
      changed = e.changed;
      stale = e.stale;
      touched = e.touched;
    } in
    record {
      readers = entries-readers c.args.self.now r.0 r.1 _ _ _ up;
      present = entries-present c.args.self.now r.0 r.1 _ _ _ up;
      calls = r.1.calls;
    }

pub returns-in-Dirty : goal.returns-in-Dirty
returns-in-Dirty c =
    let e = c.in_ok-catch_up.ensures in
    let d = c.make_due.ensures in
    let up : HasCaughtUp c.args.self.now.book.contents c.args.self.now.changed.keys c.catch_up.new.table c.catch_up.new.marks c.args.self.now.store c.catch_up.new.store = record {
      shown = e.shown;
      others = e.others;
      clean = e.clean;
      again = e.again;
      follows = e.table;
      marked = e.marked;
      changed = e.changed;
      stale = e.stale;
      touched = e.touched;
    } in
    record {
      ok = λ s rest. ok-four _ _ _ _ _
          (λ due room idle. dirty-begun c.args.self.now s rest _ _ _ up c.args.kind c.in-Dirty.is c.make_due.new.chain c.make_due.new.work due room idle d.kept)
          d.due d.room d.chain;
      calls = λ s rest. ok-leads _ _ _ (λ _. d.kept.calls ∙ rest.calls) d.room;
      reads = λ s rest. ok-four _ _ _ _ _
          (λ due room idle. dirty-reads c.args.self.now s rest _ _ _ up c.args.kind c.in-Dirty.is c.make_due.new.chain c.make_due.new.work due room idle d.kept)
          d.due d.room d.chain;
      forgotten = λ s rest. if-four _ _ _ _ _ _
          (λ due room idle both are. dirty-forgotten c.args.self.now s rest _ _ _ up c.args.kind c.in-Dirty.is c.make_due.new.chain c.make_due.new.work due room idle d.kept both.items are)
          d.due d.room d.chain d.cells;
      refused = λ s rest. err-leads _ _ _
          (λ is. still-rests c.args.self.now s rest c.args.self.now.changed c.catch_up.new.table c.catch_up.new.marks c.make_due.new.chain c.catch_up.new.store c.make_due.new.work refl is d.kept
          c.catch_up.ensures.again c.catch_up.ensures.shown (c.catch_up.ensures.clean (own-clean c.args.self.now s rest)))
          d.same_chain;
    }

pub returns-in-All : goal.returns-in-All
returns-in-All c =
    let e = c.in_ok-catch_up.ensures in
    let d = c.make_all_due.ensures in
    let n = c.make_all_due.new in
    let up : HasCaughtUp c.args.self.now.book.contents c.args.self.now.changed.keys c.catch_up.new.table c.catch_up.new.marks c.args.self.now.store c.catch_up.new.store = record {
      shown = e.shown;
      others = e.others;
      clean = e.clean;
      again = e.again;
      follows = e.table;
      marked = e.marked;
      changed = e.changed;
      stale = e.stale;
      touched = e.touched;
    } in
    record {
      ok = λ s rest. ok-five _ _ _ _ _ _
          (λ all due room idle. all-begun c.args.self.now s rest _ _ _ up n.changed n.marks n.chain n.store n.work all d.shown due room idle d.kept c.args.kind c.in-All.is)
          d.ok d.due d.room d.chain;
      calls = λ s rest. ok-leads _ _ _ (λ _. d.kept.calls ∙ rest.calls) d.room;
      reads = λ s rest. ok-five _ _ _ _ _ _
          (λ all due room idle. all-reads c.args.self.now s rest _ _ _ up n.changed n.marks n.chain n.store n.work all d.shown due room idle d.kept c.args.kind c.in-All.is)
          d.ok d.due d.room d.chain;
      forgotten = λ s rest. if-five _ _ _ _ _ _ _
          (λ all due room idle both are. all-forgotten c.args.self.now s rest _ _ _ up n.changed n.marks n.chain n.store n.work all d.shown due room idle d.kept c.args.kind c.in-All.is both.items are)
          d.ok d.due d.room d.chain d.cells;
      refused = λ s rest. err-all _ _ _ _ _
          (λ same is present. refused-rests c.args.self.now s rest _ _ _ up n.changed n.marks n.chain n.store n.work same is d.kept present d.shown)
          d.same_changed d.same_chain d.same_present;
    }

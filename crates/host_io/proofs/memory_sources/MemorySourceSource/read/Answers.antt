use Rattle.std.proofs.Common.{◌≡◌, ◌+◌, ◌-◌, drop, refl, ◌∙◌, arith, length-take}
use Rattle.host_io.proofs.SourceLaws.{piece_given}
use Rattle.host_io.proofs.memory_sources.MemorySourceSource.read.Goals as goal

pub returns-clause-given : goal.returns-clause-given
returns-clause-given c =
    let start = c.self.inside.start in
    let count = c.min-count.result in
    let same : start + count - start ≡ count = omega arith in
    rw (← c.self.view_is) (piece_given c.self.inside.bytes.items c.copy_from_slice.new.self (drop count c.args.buf.now) start count
    (c.copy_from_slice.ensures.after ∙ rw (same, c.deref.ensures.value) refl)
    (omega (arith, c.copy_from_slice.ensures.len, length-take count c.args.buf.now, c.min-count.ensures)))

use Rattle.std.proofs.Common.{arith, ◌∙◌}
use Rattle.std.proofs.lemmas.List.{take_rest}
use Rattle.host_io.proofs.SinkLaws.{Appends-piece, AppendsPrefix-failed, OnErr-from}
use Rattle.host_io.proofs.putting.put.Goals as goal

pub returns-in_err-written-clause-prefix : goal.returns-in_err-written-clause-prefix
returns-in_err-written-clause-prefix g c =
    OnErr-from _ _ (AppendsPrefix-failed _ _ _ c.args.bytes.now c.loop-written.written c.loop-written.invariant.prefix c.in_err-written.ensures.kept)

pub loop-written-preserved : goal.loop-written-preserved
loop-written-preserved g c =
    let bytes = c.args.bytes.now in
    let written = c.loop-written.written in
    record {
      within = omega (arith, c.in_ok-written.ensures.fits);
      prefix = Appends-piece _ _ _ bytes written c.in_ok-written.field-0 c.loop-written.invariant.prefix
          (rw (take_rest bytes written) at c.in_ok-written.ensures.taken);
      steady = c.in_ok-written.ensures.steady ∙ c.loop-written.invariant.steady;
    }

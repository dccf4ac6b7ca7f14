use Rattle.std.proofs.Common.{refl, ap, ◌∙◌}
use Rattle.workbook.specs.declared.commands.Command.TheVariants as commands
use Rattle.workbook.specs.declared.replies.Reply.TheVariants as replies
use Rattle.host_core.specs.HostKeeping.{calc_of}
use Rattle.host_core.specs.Standing.{terms_with}
use Rattle.host_core.proofs.HostKept.{holds_anyhow}
use Rattle.host_core.proofs.HostSteps.{step_aside}
use Rattle.host_core.proofs.round_books.RoundBook.print.Goals as goal

pub returns-in-Ok : goal.returns-in-Ok
returns-in-Ok g c = record {
  step = λ answer.
      let old = c.args.self.now in
      step_aside g.S.RtdServer.state answer old old.running (commands.Print c.args.form) (replies.Sheet c.args.form c.from_vec.result) refl
      (λ session limit s noted kept. (
        ap (replies.Sheet c.args.form) (c.from_vec.ensures ∙ c.in-Ok.ensures (calc_of (terms_with answer session limit) s noted) (holds_anyhow (terms_with answer session limit) old.round old.calc old.running s noted kept.book)),
        refl,
      ));
}

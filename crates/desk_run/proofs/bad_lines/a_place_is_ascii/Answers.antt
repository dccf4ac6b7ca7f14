use Rattle.std.proofs.Common.{arith}
use Rattle.std.proofs.lemmas.Fmt.{IsAscii-decimal}
use Rattle.desk_run.proofs.bad_lines.a_place_is_ascii.Goals as goal

pub returns : goal.returns
returns c = IsAscii-decimal c.args.place (omega arith)

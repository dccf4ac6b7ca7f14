use Rattle.std.proofs.Common.{refl}
use Rattle.cell_refs.proofs.PublicLaws.{cut_digits}
use Rattle.formula_parse.proofs.lexing.number.Goals as goal

pub value-requires : goal.value-requires
value-requires c = cut_digits c.args.text.now _ _ c.digits_len-len.ensures refl

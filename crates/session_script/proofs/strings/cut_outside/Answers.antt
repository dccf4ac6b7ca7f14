use Rattle.std.proofs.Common.{◌<◌, length, arith}
use Rattle.std.proofs.lemmas.Str.{IsCharBoundary-after_ascii}
use Rattle.session_script.proofs.strings.cut_outside.Goals as goal

pub range_from-requires : goal.range_from-requires
range_from-requires c =
    let within : c.cut_place-place.result < length c.args.text.now = omega arith in
    let found = rw c.as_bytes.ensures.value at c.cut_place-place.ensures.found in
    λ _. IsCharBoundary-after_ascii c.args.text.now c.cut_place-place.result c.utf8.text within (omega (arith, found within))

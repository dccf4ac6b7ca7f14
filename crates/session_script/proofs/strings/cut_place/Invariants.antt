use Rattle.std.proofs.Common.{◌≡◌, ◌+◌, false, drop}
use Rattle.session_script.specs.Strings.{cut_place}
use Rattle.session_script.proofs.strings.cut_place.Given as goal

abbrev pub invariant-loop-place : goal.invariant-loop-place
invariant-loop-place l =
    cut_place l.separator false l.text ≡ l.place + cut_place l.separator l.inside (drop l.place l.text)

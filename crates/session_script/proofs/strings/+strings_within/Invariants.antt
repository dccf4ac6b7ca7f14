use Rattle.session_script.proofs.strings.+strings_within.Given as goal

abbrev pub decreases-strings_within : goal.decreases-strings_within
decreases-strings_within l = l.most

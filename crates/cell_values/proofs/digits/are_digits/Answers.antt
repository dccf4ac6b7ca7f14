use Rattle.std.proofs.Common.{◌≡◌, ℕ, ◌<◌, List, [], ◌∷◌, length, refl, ◌∙◌, arith}
use Rattle.std.specs.Char.{is_ascii_digit}
use Rattle.std.specs.List.{list_all}
use Rattle.cell_values.specs.Digits.{are_digits}
use Rattle.cell_values.proofs.digits.are_digits.Goals as goal

-- bytes of which there are some are digits where each one is
some_digits : (bs : List ℕ) → 0 < length bs → list_all is_ascii_digit bs ≡ are_digits bs
some_digits [] some = absurd (omega (arith, some))
some_digits (b ∷ bs) some = refl

pub returns-in-len1-up : goal.returns-in-len1-up
returns-in-len1-up c = c.all_digits.ensures ∙ some_digits c.args.bytes.now (omega (arith, c.in-len1-up.len_at_least))

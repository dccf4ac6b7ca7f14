use Rattle.std.proofs.Common.{ℕ, ◌≡◌, nat_lt, List, length, rules, ap, ◌∙◌}
use Rattle.std.proofs.lemmas.Str.{chars_from_encodes}
use Rattle.std.specs.Str.{chars}
use Rattle.cell_eval.proofs.topics.is_too_long.Goals as goal

pub returns : goal.returns
returns c =
    let count : c.count.result ≡ length (chars c.as_str.result.now) = search (rules, chars_from_encodes) in
    ap (nat_lt 255) count ∙ ap (λ (s : List ℕ). nat_lt 255 (length (chars s))) c.as_str.ensures.text

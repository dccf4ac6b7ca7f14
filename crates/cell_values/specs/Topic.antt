-- Topics: whether two are one.
use Rattle.std.specs.Prelude.{Bool, ◌&&◌}
use Rattle.std.specs.Cmp.Lexicographic.{pointwise}
use Rattle.std.specs.Str.{bytes_eq}
use Rattle.cell_values.specs.declared.topics.Topic.{Topic}

-- whether two topics have the same server and the same strings
abbrev pub same_topic : Topic → Topic → Bool
same_topic a b = bytes_eq a.server b.server && pointwise bytes_eq a.strings b.strings

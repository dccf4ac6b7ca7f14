-- For the crate's own functions: what one step adds to a text.
use Rattle.std.specs.Prelude.{ℕ, Bool, if◌then◌else◌, List, ◌∷◌}
use Rattle.std.specs.Char.{encode_utf8}

-- the bytes of a character, behind a space where one is wanted
abbrev pub character_behind_space : Bool → ℕ → List ℕ
character_behind_space wanted c = if wanted then 32 ∷ encode_utf8 c else encode_utf8 c

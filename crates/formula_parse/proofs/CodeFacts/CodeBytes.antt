-- A short text has few bytes.
use Rattle.std.proofs.Common.{◌≡◌, ℕ, ◌*◌, ◌≤◌, false, nat_lt, List, [], ◌∷◌, length, ap, length-append, arith}
use Rattle.std.proofs.lemmas.Bool.Decides.{nat_tests}
use Rattle.std.proofs.lemmas.Str.{IsUtf8-from_is_utf8, is_utf8-from_IsUtf8, chars_from_encodes, length-encode}
use Rattle.std.proofs.Math.Utf8.{encodes, encode}
use Rattle.std.specs.Char.{len_utf8}
use Rattle.std.specs.Str.{IsUtf8, chars}
use Rattle.formula_parse.specs.Faults.{IsShort}
use Rattle.formula_parse.specs.Parsing.{is_too_long}

few_bytes : (c : ℕ) → len_utf8 c ≤ 4
few_bytes c = grind (arith, nat_tests)

encodes_short : (cs : List ℕ) → length (encodes cs) ≤ 4 * length cs
encodes_short [] = omega arith
encodes_short (c ∷ cs) = omega (arith, length-append (encode c) (encodes cs), length-encode c, few_bytes c, encodes_short cs)

-- a character has four bytes at most
pub bytes_of_short : (text : List ℕ) → IsShort text → length text ≤ 32768
bytes_of_short text short =
    let utf8 = IsUtf8-from_is_utf8 text short.0 in
    let cs = utf8.0 in
    let is : cs ≡ chars text = chars_from_encodes cs text utf8 utf8.1.1 in
    omega (arith, encodes_short cs, ap length utf8.1.1, ap length is, short.1)

-- what isn't too long is short
pub short_text : (text : List ℕ) → IsUtf8 text → is_too_long text ≡ false → IsShort text
short_text text utf8 e = (is_utf8-from_IsUtf8 text utf8, few (length (chars text)) e)
  where
    few : (n : ℕ) → nat_lt 8192 n ≡ false → n ≤ 8192
    few n h = grind (arith, nat_tests)

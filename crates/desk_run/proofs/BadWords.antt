-- The words of bad lines are ASCII.
use Rattle.std.proofs.Common.{◌≡◌, ◌<◌, ℕ, true, List, [], ◌∷◌, refl}
use Rattle.std.specs.Prelude.{All, codes, decimal, nat_lt}
use Rattle.std.specs.List.{list_all}
use Rattle.std.specs.Str.{IsAscii}
use Rattle.std.proofs.lemmas.Bool.{and_parts, ltb-true}
use Rattle.std.proofs.lemmas.List.Elements.{All-cons, All-nil}
use Rattle.std.proofs.lemmas.Str.{IsAscii-append}
use Rattle.std.proofs.lemmas.Str.Ascii.{IsAscii-from_all}
use Rattle.addin_types.specs.declared.type_faults.TypeFault.{TypeFault}
use Rattle.addin_types.specs.declared.type_faults.TypeFault.TheVariants as type_faults
use Rattle.formula_parse.specs.declared.faults.ParseFault.{ParseFault}
use Rattle.formula_parse.specs.declared.faults.ParseFault.TheVariants as formula_faults
use Rattle.session_script.specs.declared.faults.BadLine.{BadLine}
use Rattle.session_script.specs.declared.faults.BadLine.TheVariants as faults
use Rattle.session_script.specs.Faults.{fault_text, formula_fault_text, type_fault_text}

all_below : (bs : List ℕ) → list_all (λ b. nat_lt b 128) bs ≡ true → All (λ b. b < 128) bs
all_below [] h = All-nil (λ b. b < 128)
all_below (b ∷ bs) h =
    let both = and_parts _ _ h in
    All-cons (λ n. n < 128) b bs (ltb-true b 128 both.0) (all_below bs both.1)

-- what a test of each byte says
is_ascii : (bs : List ℕ) → list_all (λ b. nat_lt b 128) bs ≡ true → IsAscii bs
is_ascii bs h = IsAscii-from_all bs (all_below bs h)

-- where the place in it is written in ASCII
pub formula_word_is_ascii : (fault : ParseFault) → ((place : ℕ) → fault ≡ formula_faults.Syntax place → IsAscii (decimal place)) → IsAscii (formula_fault_text fault)
formula_word_is_ascii formula_faults.Memory place = is_ascii (codes "memory") refl
formula_word_is_ascii formula_faults.TooLong place = is_ascii (codes "long") refl
formula_word_is_ascii formula_faults.TooDeep place = is_ascii (codes "deep") refl
formula_word_is_ascii (formula_faults.Syntax n) place = IsAscii-append (codes "syntax ") (decimal n) (is_ascii (codes "syntax ") refl) (place n refl)
formula_word_is_ascii formula_faults.BadRange place = is_ascii (codes "range") refl
formula_word_is_ascii formula_faults.NumberTooLarge place = is_ascii (codes "number") refl

pub type_word_is_ascii : (fault : TypeFault) → ((place : ℕ) → fault ≡ type_faults.Letter place → IsAscii (decimal place)) → IsAscii (type_fault_text fault)
type_word_is_ascii type_faults.Empty place = is_ascii (codes "empty") refl
type_word_is_ascii type_faults.MacroSheet place = is_ascii (codes "macro") refl
type_word_is_ascii (type_faults.Letter n) place = IsAscii-append (codes "letter ") (decimal n) (is_ascii (codes "letter ") refl) (place n refl)
type_word_is_ascii type_faults.TwoHandles place = is_ascii (codes "handles") refl
type_word_is_ascii type_faults.VoidWithoutHandle place = is_ascii (codes "void") refl
type_word_is_ascii type_faults.HandleWithoutVoid place = is_ascii (codes "handle") refl
type_word_is_ascii type_faults.TooMany place = is_ascii (codes "many") refl

-- where the words of its kind are
pub bad_word_is_ascii : (fault : BadLine) → ((inner : ParseFault) → fault ≡ faults.Formula inner → IsAscii (formula_fault_text inner)) → ((inner : TypeFault) → fault ≡ faults.Type inner → IsAscii (type_fault_text inner)) → IsAscii (fault_text fault)
bad_word_is_ascii faults.Memory formula type_ = is_ascii (codes "memory") refl
bad_word_is_ascii faults.Long formula type_ = is_ascii (codes "long") refl
bad_word_is_ascii faults.NotUtf8 formula type_ = is_ascii (codes "utf8") refl
bad_word_is_ascii faults.Control formula type_ = is_ascii (codes "control") refl
bad_word_is_ascii faults.Word formula type_ = is_ascii (codes "word") refl
bad_word_is_ascii faults.Ref formula type_ = is_ascii (codes "ref") refl
bad_word_is_ascii faults.Name formula type_ = is_ascii (codes "name") refl
bad_word_is_ascii (faults.Formula fault) formula type_ =
    IsAscii-append (codes "formula ") (formula_fault_text fault) (is_ascii (codes "formula ") refl) (formula fault refl)
bad_word_is_ascii (faults.Type fault) formula type_ =
    IsAscii-append (codes "type ") (type_fault_text fault) (is_ascii (codes "type ") refl) (type_ fault refl)
bad_word_is_ascii faults.Value formula type_ = is_ascii (codes "value") refl
bad_word_is_ascii faults.Handle formula type_ = is_ascii (codes "handle") refl

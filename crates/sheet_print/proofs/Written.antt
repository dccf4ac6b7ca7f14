-- What a writer of records has written, with fields in the place of equal ones.
use Rattle.std.proofs.Common.{◌≡◌, ℕ, ◌+◌, ◌<◌, List, [], ◌∷◌, ◌++◌, length, get_or, take, Result, OnOk, Option, Some, None, Vec, refl, sym, ap, ◌∙◌, subst}
use Rattle.std.proofs.lemmas.Grind.{flat_map-append}
use Rattle.std.proofs.lemmas.List.{append-nil, take_more}
use Rattle.std.specs.List.{flat_map}
use Rattle.std.specs.declared.alloc.Global.{Global}
use Rattle.cell_refs.specs.declared.grid.Cell.{Cell}
use Rattle.cell_refs.specs.Written.{cell_text}
use Rattle.cell_values.specs.declared.values.Value.{Value}
use Rattle.cell_values.specs.declared.values.Value.TheVariants as values
use Rattle.csv.specs.declared.writer.Writer.{Writer}
use Rattle.csv.specs.Writing.{default_writer, row_text}
use Rattle.sheet_print.specs.RecordWriter.{HasWritten, IsOneLine}
use Rattle.sheet_print.specs.Records.{bare_text, kind_word}
use Rattle.sheet_print.specs.Replies.{record_line}
use Rattle.sheet_print.proofs.Fields.{row-one_line}
use Rattle.sheet_print.proofs.OneLine.{cell-one_line}

-- a record of a name, a kind and a text was written behind whatever stood there
abbrev pub WritesRecord : {E : Type 0} → Result (Unit {0}) E → Writer (Vec ℕ Global) → Writer (Vec ℕ Global) → List ℕ → List ℕ → List ℕ → Type 0
WritesRecord result old new name kind text =
    OnOk result ((bytes : List ℕ) → HasWritten old bytes → HasWritten new (bytes ++ row_text default_writer (name ∷ kind ∷ text ∷ [])))

pub written-same : {E : Type 0} (result : Result (Unit {0}) E) (old new : Writer (Vec ℕ Global)) (name kind kind' text text' : List ℕ) → kind ≡ kind' → text ≡ text' → WritesRecord result old new name kind text → WritesRecord result old new name kind' text'
written-same result old new name kind kind' text text' same_kind same_text h =
    let P : List ℕ → Type 0 = λ k. WritesRecord result old new name k text in
    let Q : List ℕ → Type 0 = λ t. WritesRecord result old new name kind' t in
    subst Q same_text (subst P same_kind h)

kind-one_line : (shown : Option Value) → IsOneLine (kind_word shown)
kind-one_line None = refl
kind-one_line (Some (values.Num n)) = refl
kind-one_line (Some (values.Text t)) = refl
kind-one_line (Some (values.Bool b)) = refl
kind-one_line (Some (values.Error e)) = refl
kind-one_line (Some values.Blank) = refl

records-more : (cells : List (Cell × Option Value)) (i : ℕ) (item : Cell × Option Value) → i < length cells → item ≡ get_or cells i item → flat_map record_line (take i cells) ++ record_line item ≡ flat_map record_line (take (i + 1) cells)
records-more cells i item h e =
    let so_far = flat_map record_line (take i cells) in
    sym
    (ap (λ front. flat_map record_line front) (take_more cells i item h)
    ∙ flat_map-append record_line (take i cells) (get_or cells i item ∷ [])
    ∙ ap (λ x. so_far ++ flat_map record_line (x ∷ [])) (sym e)
    ∙ ap (λ last. so_far ++ last) (append-nil (record_line item)))

-- the record of the next cell was written behind those of the cells before it
pub record-next : (records : Writer (Vec ℕ Global)) (cells : List (Cell × Option Value)) (i : ℕ) (item : Cell × Option Value) (name : List ℕ) (shown : Option Value) → i < length cells → item ≡ get_or cells i item → name ≡ cell_text item.0 → shown ≡ item.1 → IsOneLine (bare_text shown) → HasWritten records (flat_map record_line (take i cells) ++ row_text default_writer (name ∷ kind_word shown ∷ bare_text shown ∷ [])) → HasWritten records (flat_map record_line (take (i + 1) cells))
record-next records cells i item name shown within is named shows line h =
    let so_far = flat_map record_line (take i cells) in
    let row =
    ap (λ n. row_text default_writer (n ∷ kind_word shown ∷ bare_text shown ∷ [])) named
    ∙ row-one_line (cell_text item.0) (kind_word shown) (bare_text shown) (cell-one_line item.0) (kind-one_line shown) line
    ∙ ap (λ s. record_line (item.0, s)) shows in
    let P : List ℕ → Type 0 = λ bytes. HasWritten records bytes in
    subst P (ap (λ r. so_far ++ r) row ∙ records-more cells i item within is) h

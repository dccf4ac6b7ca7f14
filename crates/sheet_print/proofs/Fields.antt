-- The writer of records writes the records of the definition.
use Rattle.std.proofs.Common.{◌≡◌, ◌==◌, ◌||◌, ℕ, Bool, true, false, if◌then◌else◌, List, [], ◌∷◌, ◌++◌, refl, ap, ◌∙◌, arith}
use Rattle.std.proofs.lemmas.List.{append-nil}
use Rattle.std.specs.List.{list_any}
use Rattle.cell_values.specs.Word.{byte_within, with_doubled_quotes}
use Rattle.csv.specs.Writing.{default_writer, escaped, fields_text, is_blank, needs_byte, row_text}
use Rattle.csv.specs.Writing as csv
use Rattle.sheet_print.specs.Records.{calls_for_quotes, field_text, record_text}
use Rattle.sheet_print.specs.Replies.{line_of}
use Rattle.sheet_print.specs.RecordWriter.{IsOneLine, ends_line}

or_ends : (x z : Bool) → z ≡ false → (((x || z) || false) || false) ≡ x
or_ends true z h = refl
or_ends false true h = h
or_ends false false h = refl

or_left : (x y : Bool) → (x || y) ≡ false → x ≡ false
or_left true y h = h
or_left false y h = refl

or_right : (x y : Bool) → (x || y) ≡ false → y ≡ false
or_right true y h = cc
or_right false y h = h

or_both : (a b x y : Bool) → a ≡ b → x ≡ y → (a || x) ≡ (b || y)
or_both a b x y h k = ap (λ v. v || x) h ∙ ap (λ v. b || v) k

needs_byte-one_line : (b : ℕ) → ends_line b ≡ false → needs_byte default_writer b ≡ calls_for_quotes b
needs_byte-one_line b h = or_ends (calls_for_quotes b) (ends_line b) h

needs-one_line : (field : List ℕ) → IsOneLine field → list_any (needs_byte default_writer) field ≡ list_any calls_for_quotes field
needs-one_line [] h = refl
needs-one_line (b ∷ bs) h =
    or_both (needs_byte default_writer b) (calls_for_quotes b) (list_any (needs_byte default_writer) bs) (list_any calls_for_quotes bs)
    (needs_byte-one_line b (or_left (ends_line b) (list_any ends_line bs) h))
    (needs-one_line bs (or_right (ends_line b) (list_any ends_line bs) h))

same_byte : (b : ℕ) → (b == 34) ≡ true → b ≡ 34
same_byte b h = grind arith

byte-escaped : (b : ℕ) (test : Bool) (xs : List ℕ) → (b == 34) ≡ test → (if test then 34 ∷ b ∷ xs else b ∷ xs) ≡ (if test then 34 ∷ 34 ∷ [] else b ∷ []) ++ xs
byte-escaped b true xs h = ap (λ c. 34 ∷ c ∷ xs) (same_byte b h)
byte-escaped b false xs h = refl

escaped-doubled : (bs : List ℕ) → escaped default_writer bs ≡ with_doubled_quotes bs
unfolding escaped
escaped-doubled [] = refl
escaped-doubled (b ∷ bs) =
    byte-escaped b (b == 34) (escaped default_writer bs) refl ∙ ap (λ rest. byte_within b ++ rest) (escaped-doubled bs)

-- a field on one line
field-one_line : (field : List ℕ) → IsOneLine field → csv.field_text default_writer field ≡ field_text field
field-one_line field h =
    ap (λ needs. if needs then 34 ∷ (escaped default_writer field ++ 34 ∷ []) else field) (needs-one_line field h)
    ∙ ap (λ within. if list_any calls_for_quotes field then 34 ∷ (within ++ 34 ∷ []) else field) (escaped-doubled field)

joined : (a b c : List ℕ) → ((a ++ (44 ∷ (b ++ (44 ∷ (c ++ []))))) ++ ([] ++ 10 ∷ [])) ≡ (a ++ (44 ∷ (b ++ (44 ∷ c)))) ++ 10 ∷ []
joined a b c = ap (λ last. (a ++ (44 ∷ (b ++ (44 ∷ last)))) ++ 10 ∷ []) (append-nil c)

-- three fields, each on one line
pub row-one_line : (a b c : List ℕ) → IsOneLine a → IsOneLine b → IsOneLine c → row_text default_writer (a ∷ b ∷ c ∷ []) ≡ line_of (record_text (a ∷ b ∷ c ∷ []))
unfolding fields_text is_blank
row-one_line a b c ha hb hc =
    joined (csv.field_text default_writer a) (csv.field_text default_writer b) (csv.field_text default_writer c)
    ∙ ap (λ x. (x ++ (44 ∷ (csv.field_text default_writer b ++ (44 ∷ csv.field_text default_writer c)))) ++ 10 ∷ []) (field-one_line a ha)
    ∙ ap (λ x. (field_text a ++ (44 ∷ (x ++ (44 ∷ csv.field_text default_writer c)))) ++ 10 ∷ []) (field-one_line b hb)
    ∙ ap (λ x. (field_text a ++ (44 ∷ (field_text b ++ (44 ∷ x)))) ++ 10 ∷ []) (field-one_line c hc)

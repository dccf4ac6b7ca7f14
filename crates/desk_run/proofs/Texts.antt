-- What is written for some lines, and for more.
use Rattle.std.proofs.Common.{◌≡◌, ◌+◌, ◌-◌, ◌<◌, ◌≤◌, ℕ, List, [], ◌∷◌, ◌++◌, length, take, drop, Result, Ok, Err, refl, sym, ap, ◌∙◌, append_assoc, append-nil, length-append, length-drop, inl, inr, arith}
use Rattle.std.proofs.lemmas.Bool.{cases_lt, cond-false, cond-true, le-ltb, lt-ltb}
use Rattle.std.proofs.lemmas.Grind.{flat_map-append}
use Rattle.std.proofs.lemmas.List.{drop-append-le, take-append-le}
use Rattle.std.proofs.Math.Seq.{take-append-add, take-length}
use Rattle.session_script.specs.declared.faults.BadLine.{BadLine}
use Rattle.session_script.specs.declared.parsed.Parsed.{Parsed}
use Rattle.session_script.specs.Script.{line_said}
use Rattle.workbook.specs.declared.commands.Command.{Command}
use Rattle.workbook.specs.declared.replies.Reply.{Reply}
use Rattle.desk_run.specs.Output.{commands_in, commands_of, commands_of_line, commands_said, lines_text, replies_text, said_text}
use Rattle.desk_run.proofs.Acting.{replies_text-append}

-- the commands of some lines and more
pub commands_of-append : (lines more : List (List ℕ)) → commands_of (lines ++ more) ≡ commands_of lines ++ commands_of more
commands_of-append lines more = flat_map-append commands_of_line lines more

pub commands_of-one : (lines : List (List ℕ)) (line : List ℕ) → commands_of (lines ++ line ∷ []) ≡ commands_of lines ++ commands_of_line line
commands_of-one lines line =
    commands_of-append lines (line ∷ []) ∙ ap (λ (cs : List Command). commands_of lines ++ cs) (append-nil (commands_of_line line))

count-first : (line : List ℕ) (lines : List (List ℕ)) → commands_in (line ∷ lines) ≡ length (commands_of_line line) + commands_in lines
count-first line lines = length-append (commands_of_line line) (commands_of lines)

-- ---- one line
-- a line whose commands all have replies
text-whole : (line : List ℕ) (lines : List (List ℕ)) (replies : List Reply) → length (commands_of_line line) ≤ length replies → lines_text (line ∷ lines) replies ≡ said_text (line_said line) (take (length (commands_of_line line)) replies) ++ lines_text lines (drop (length (commands_of_line line)) replies)
text-whole line lines replies enough = cond-false _ _ _ (le-ltb (length replies) (length (commands_of_line line)) enough)

-- a line of which a command has none
text-short : (line : List ℕ) (lines : List (List ℕ)) (replies : List Reply) → length replies < length (commands_of_line line) → lines_text (line ∷ lines) replies ≡ replies_text replies
text-short line lines replies few = cond-true _ _ _ (lt-ltb (length replies) (length (commands_of_line line)) few)

-- ---- more lines and more replies
none_if : (replies : List Reply) → length replies ≡ 0 → replies ≡ []
none_if [] none = refl
none_if (reply ∷ replies) none = absurd (omega (arith, none))

pub lines_text-append : (lines more : List (List ℕ)) (replies others : List Reply) → length replies ≡ commands_in lines → lines_text (lines ++ more) (replies ++ others) ≡ lines_text lines replies ++ lines_text more others
lines_text-append [] more replies others fits = ap (λ (rs : List Reply). lines_text more (rs ++ others)) (none_if replies fits)
lines_text-append (line ∷ lines) more replies others fits =
    let count = length (commands_of_line line) in
    let here : count ≤ length replies = omega (arith, fits, count-first line lines) in
    let all : count ≤ length (replies ++ others) = omega (arith, here, length-append replies others) in
    let rest : length (drop count replies) ≡ commands_in lines = omega (arith, fits, count-first line lines, length-drop count replies) in
    text-whole line (lines ++ more) (replies ++ others) all
    ∙ ap (λ (rs : List Reply). said_text (line_said line) rs ++ lines_text (lines ++ more) (drop count (replies ++ others))) (take-append-le count replies others here)
    ∙ ap (λ (rs : List Reply). said_text (line_said line) (take count replies) ++ lines_text (lines ++ more) rs) (drop-append-le count replies others here)
    ∙ ap (λ (bs : List ℕ). said_text (line_said line) (take count replies) ++ bs) (lines_text-append lines more (drop count replies) others rest)
    ∙ sym (append_assoc (said_text (line_said line) (take count replies)) (lines_text lines (drop count replies)) (lines_text more others))
    ∙ ap (λ (bs : List ℕ). bs ++ lines_text more others) (sym (text-whole line lines replies here))

take_all : (count : ℕ) (replies : List Reply) → length replies ≡ count → take count replies ≡ replies
take_all count replies is = ap (λ n. take n replies) (sym is) ∙ take-length replies

-- one line
only-line : (line : List ℕ) (these : List Reply) → length these ≡ length (commands_of_line line) → lines_text (line ∷ []) these ≡ said_text (line_said line) these
only-line line these fits =
    text-whole line [] these (omega (arith, fits))
    ∙ append-nil (said_text (line_said line) (take (length (commands_of_line line)) these))
    ∙ ap (said_text (line_said line)) (take_all (length (commands_of_line line)) these fits)

-- one line more, whose commands all have replies
pub lines_text-one : (lines : List (List ℕ)) (line : List ℕ) (replies these : List Reply) → length replies ≡ commands_in lines → length these ≡ length (commands_of_line line) → lines_text (lines ++ line ∷ []) (replies ++ these) ≡ lines_text lines replies ++ said_text (line_said line) these
lines_text-one lines line replies these fits all =
    lines_text-append lines (line ∷ []) replies these fits ∙ ap (λ (bs : List ℕ). lines_text lines replies ++ bs) (only-line line these all)

-- ---- a line of which the first commands have replies
-- what is missing of what is written for it
part_said : (said : Result Parsed BadLine) (these : List Reply) (text missing : List ℕ) → length these ≤ length (commands_said said) → replies_text these ≡ text ++ missing → (rest : List ℕ) × (said_text said these ≡ text ++ rest)
part_said (Ok said) these text missing few cut = (missing, cut)
part_said (Err fault) these text missing few cut =
    let none : these ≡ [] = none_if these (omega (arith, few)) in
    let empty : text ≡ [] = no_front text missing (sym cut ∙ ap replies_text none) in
    (said_text (Err fault) these, ap (λ (bs : List ℕ). bs ++ said_text (Err fault) these) (sym empty))
  where
    no_front : (xs ys : List ℕ) → xs ++ ys ≡ [] → xs ≡ []
    no_front [] ys h = refl
    no_front (x ∷ xs) ys h = cc

part_line : (line : List ℕ) (these : List Reply) (text missing : List ℕ) → length these ≤ length (commands_of_line line) → replies_text these ≡ text ++ missing → (rest : List ℕ) × (lines_text (line ∷ []) these ≡ text ++ rest)
part_line line these text missing few cut =
    elim (cases_lt (length these) (length (commands_of_line line))) [
      | inl short ↦ (missing, text-short line [] these short ∙ cut)
      | inr long ↦
          let part = part_said (line_said line) these text missing few cut in
          (part.0, only-line line these (omega (arith, few, long)) ∙ part.1)
    ]

pub lines_text-part : (lines : List (List ℕ)) (line : List ℕ) (replies these : List Reply) (text missing : List ℕ) → length replies ≡ commands_in lines → length these ≤ length (commands_of_line line) → replies_text these ≡ text ++ missing → (rest : List ℕ) × (lines_text (lines ++ line ∷ []) (replies ++ these) ≡ (lines_text lines replies ++ text) ++ rest)
lines_text-part lines line replies these text missing fits few cut =
    let part = part_line line these text missing few cut in (
      part.0,
      lines_text-append lines (line ∷ []) replies these fits ∙ ap (λ (bs : List ℕ). lines_text lines replies ++ bs) part.1
          ∙ sym (append_assoc (lines_text lines replies) text part.0),
    )

-- where a command has none, exactly the lines of the replies are written
pub lines_text-short : (lines : List (List ℕ)) (line : List ℕ) (replies these : List Reply) → length replies ≡ commands_in lines → length these < length (commands_of_line line) → lines_text (lines ++ line ∷ []) (replies ++ these) ≡ lines_text lines replies ++ replies_text these
lines_text-short lines line replies these fits few =
    lines_text-append lines (line ∷ []) replies these fits ∙ ap (λ (bs : List ℕ). lines_text lines replies ++ bs) (text-short line [] these few)

-- ---- prefixes
-- what is written for the first lines comes first
pub lines_text-lines : (lines more : List (List ℕ)) (replies : List Reply) → (rest : List ℕ) × (lines_text (lines ++ more) replies ≡ lines_text lines replies ++ rest)
lines_text-lines [] more replies = (lines_text more replies, refl)
lines_text-lines (line ∷ lines) more replies =
    elim (cases_lt (length replies) (length (commands_of_line line))) [
      | inl short ↦ (
        [],
        text-short line (lines ++ more) replies short ∙ sym (append-nil (replies_text replies))
            ∙ ap (λ (bs : List ℕ). bs ++ []) (sym (text-short line lines replies short)),
      )
      | inr long ↦
          let count = length (commands_of_line line) in
          let later = lines_text-lines lines more (drop count replies) in (
            later.0,
            text-whole line (lines ++ more) replies long
                ∙ ap (λ (bs : List ℕ). said_text (line_said line) (take count replies) ++ bs) later.1
                ∙ sym (append_assoc (said_text (line_said line) (take count replies)) (lines_text lines (drop count replies)) later.0)
                ∙ ap (λ (bs : List ℕ). bs ++ later.0) (sym (text-whole line lines replies long)),
          )
    ]

-- where a command of theirs has no reply, nothing is written for later lines
pub lines_text-left : (lines more : List (List ℕ)) (replies : List Reply) → length replies < commands_in lines → lines_text (lines ++ more) replies ≡ lines_text lines replies
lines_text-left [] more replies few = absurd (omega (arith, few))
lines_text-left (line ∷ lines) more replies few =
    elim (cases_lt (length replies) (length (commands_of_line line))) [
      | inl short ↦ text-short line (lines ++ more) replies short ∙ sym (text-short line lines replies short)
      | inr long ↦
          let count = length (commands_of_line line) in
          let later : length (drop count replies) < commands_in lines = omega (arith, few, long, count-first line lines, length-drop count replies) in
          text-whole line (lines ++ more) replies long
          ∙ ap (λ (bs : List ℕ). said_text (line_said line) (take count replies) ++ bs) (lines_text-left lines more (drop count replies) later)
          ∙ sym (text-whole line lines replies long)
    ]

-- a line of which all commands have replies writes these first
said_first : (said : Result Parsed BadLine) (replies others : List Reply) → length replies < length (commands_said said) → said_text said (replies ++ others) ≡ replies_text replies ++ replies_text others
said_first (Ok said) replies others few = replies_text-append replies others
said_first (Err fault) replies others few = absurd (omega (arith, few))

-- what is written with the first replies comes first
pub lines_text-replies : (lines : List (List ℕ)) (replies others : List Reply) → (rest : List ℕ) × (lines_text lines (replies ++ others) ≡ lines_text lines replies ++ rest)
lines_text-replies [] replies others = ([], refl)
lines_text-replies (line ∷ lines) replies others =
    let count = length (commands_of_line line) in
    let lengths = length-append replies others in
    elim (cases_lt (length replies) count) [
      | inl short ↦
          elim (cases_lt (length (replies ++ others)) count) [
            | inl few ↦ (
              replies_text others,
              text-short line lines (replies ++ others) few ∙ replies_text-append replies others
                  ∙ ap (λ (bs : List ℕ). bs ++ replies_text others) (sym (text-short line lines replies short)),
            )
            | inr enough ↦
                let more = count - length replies in
                let taken : take count (replies ++ others) ≡ replies ++ take more others = taken_more count replies others (omega (arith, short)) in
                let later = lines_text lines (drop count (replies ++ others)) in (
                  replies_text (take more others) ++ later,
                  text-whole line lines (replies ++ others) enough
                      ∙ ap (λ (rs : List Reply). said_text (line_said line) rs ++ later) taken
                      ∙ ap (λ (bs : List ℕ). bs ++ later) (said_first (line_said line) replies (take more others) short)
                      ∙ append_assoc (replies_text replies) (replies_text (take more others)) later
                      ∙ ap (λ (bs : List ℕ). bs ++ (replies_text (take more others) ++ later)) (sym (text-short line lines replies short)),
                )
          ]
      | inr long ↦
          let here = lines_text-replies lines (drop count replies) others in
          let all : count ≤ length (replies ++ others) = omega (arith, long, lengths) in (
            here.0,
            text-whole line lines (replies ++ others) all
                ∙ ap (λ (rs : List Reply). said_text (line_said line) rs ++ lines_text lines (drop count (replies ++ others))) (take-append-le count replies others long)
                ∙ ap (λ (rs : List Reply). said_text (line_said line) (take count replies) ++ lines_text lines rs) (drop-append-le count replies others long)
                ∙ ap (λ (bs : List ℕ). said_text (line_said line) (take count replies) ++ bs) here.1
                ∙ sym (append_assoc (said_text (line_said line) (take count replies)) (lines_text lines (drop count replies)) here.0)
                ∙ ap (λ (bs : List ℕ). bs ++ here.0) (sym (text-whole line lines replies long)),
          )
    ]
  where
    taken_more : (count : ℕ) (xs ys : List Reply) → length xs ≤ count → take count (xs ++ ys) ≡ xs ++ take (count - length xs) ys
    taken_more count xs ys few =
        ap (λ n. take n (xs ++ ys)) (omega (arith, few)) ∙ take-append-add xs ys (count - length xs)

-- The letters of a type text: its arguments, its handle, and the mark at its end.
use Rattle.std.proofs.Common.{◌≡◌, ◌≢◌, ℕ, zero, suc, ◌+◌, ◌-◌, ◌≤◌, Bool, true, false, cond, not, ◌==◌, ◌||◌, List, [], ◌∷◌, ◌++◌, length, count_by, position, take_while, Some, None, refl, ap, sym, subst, ◌∙◌, arith, append-nil}
use Rattle.std.proofs.lemmas.Bool.Decides.{nat_tests}
use Rattle.std.proofs.lemmas.Iterator.Adapters.{position_from-zero}
use Rattle.std.proofs.lemmas.List.{length-replicate}
use Rattle.std.proofs.lemmas.List.Folds.{list_any-append, sum_by-replicate}
use Rattle.std.proofs.lemmas.List.Sums.{sum_by-append, sum_by-cons, take_while-cons}
use Rattle.std.specs.List.{list_all, list_any, position_from}
use Rattle.cell_refs.proofs.PublicLaws.{take_while-append}
use Rattle.addin_types.specs.TypeText.{arguments_text, is_argument, is_handle, is_stranger, mark_apart, thread_text}

-- a text with the mark at its end
pub marked : (letters : List ℕ) → mark_apart (letters ++ 36 ∷ []) ≡ (letters, true)
marked [] = refl
marked (c ∷ []) = refl
marked (c ∷ d ∷ ds) = ap (λ (x : List ℕ × Bool). (c ∷ x.0, x.1)) (marked (d ∷ ds))

-- a text without it
pub unmarked : (text : List ℕ) → ((front : List ℕ) → text ≢ front ++ 36 ∷ []) → mark_apart text ≡ (text, false)
unmarked [] out = refl
unmarked (c ∷ []) out = by_mark (c == 36) refl
  where
    by_mark : (b : Bool) → (c == 36) ≡ b → cond {A = List ℕ × Bool} b ([], true) (c ∷ [], false) ≡ (c ∷ [], false)
    by_mark true is = let mark : c ≡ 36 = grind (arith, nat_tests) in absurd (out [] (ap (λ d. d ∷ []) mark))
    by_mark false is = refl
unmarked (c ∷ d ∷ ds) out = ap (λ (x : List ℕ × Bool). (c ∷ x.0, x.1)) (unmarked (d ∷ ds) (λ front e. out (c ∷ front) (ap (λ more. c ∷ more) e)))

-- a text from its letters and its mark
pub whole_again : (text : List ℕ) → text ≡ (mark_apart text).0 ++ thread_text (mark_apart text).1
whole_again [] = refl
whole_again (c ∷ []) = by_mark (c == 36) refl
  where
    by_mark : (b : Bool) → (c == 36) ≡ b → c ∷ [] ≡ (cond {A = List ℕ × Bool} b ([], true) (c ∷ [], false)).0 ++ thread_text (cond {A = List ℕ × Bool} b ([], true) (c ∷ [], false)).1
    by_mark true is = let mark : c ≡ 36 = grind (arith, nat_tests) in ap (λ d. d ∷ []) mark
    by_mark false is = refl
whole_again (c ∷ d ∷ ds) = ap (λ more. c ∷ more) (whole_again (d ∷ ds))

or_parts : (a b : Bool) → (a || b) ≡ false → (a ≡ false) × (b ≡ false)
or_parts true b e = cc
or_parts false b e = (refl, e)

-- letters have no mark among them
no_mark : (letters : List ℕ) → list_any is_stranger letters ≡ false → (front : List ℕ) → letters ≢ front ++ 36 ∷ []
no_mark letters known front e =
    let found : list_any is_stranger (front ++ 36 ∷ []) ≡ true = list_any-append is_stranger front (36 ∷ []) ∙ last (list_any is_stranger front) in
    let both : true ≡ false = sym found ∙ (ap (list_any is_stranger) (sym e) ∙ known) in
    cc
  where
    last : (b : Bool) → (b || true) ≡ true
    last true = refl
    last false = refl

pub parts_again : (letters : List ℕ) (b : Bool) → list_any is_stranger letters ≡ false → mark_apart (letters ++ thread_text b) ≡ (letters, b)
parts_again letters true known = marked letters
parts_again letters false known = ap mark_apart (append-nil letters) ∙ unmarked letters (no_mark letters known)

-- no place passes a test exactly where no element does
none_from : (test : ℕ → Bool) (i : ℕ) (xs : List ℕ) → position_from test i xs ≡ None → list_any test xs ≡ false
none_from test i [] e = refl
none_from test i (x ∷ xs) e = by_test (test x) (none_from test (i + 1) xs) e
  where
    by_test : (b : Bool) → (position_from test (i + 1) xs ≡ None → list_any test xs ≡ false) → cond b (Some i) (position_from test (i + 1) xs) ≡ None → (b || list_any test xs) ≡ false
    by_test true goes h = absurd (cc)
    by_test false goes h = goes h

pub none_passes : (test : ℕ → Bool) (xs : List ℕ) → position test xs ≡ None → list_any test xs ≡ false
none_passes test xs e = none_from test 0 xs (sym (position_from-zero test xs) ∙ e)

from_none : (test : ℕ → Bool) (i : ℕ) (xs : List ℕ) → list_any test xs ≡ false → position_from test i xs ≡ None
from_none test i [] e = refl
from_none test i (x ∷ xs) e =
    let parts = or_parts (test x) (list_any test xs) e in
    rw (parts.0) (from_none test (i + 1) xs parts.1)

pub passes_none : (test : ℕ → Bool) (xs : List ℕ) → list_any test xs ≡ false → position test xs ≡ None
passes_none test xs e = position_from-zero test xs ∙ from_none test 0 xs e

-- what so many arguments have
pub any_arguments : (test : ℕ → Bool) (n : ℕ) → test 81 ≡ false → list_any test (arguments_text n) ≡ false
any_arguments test zero other = refl
any_arguments test (suc n) other = rw other (any_arguments test n other)

all_arguments : (n : ℕ) → list_all is_argument (arguments_text n) ≡ true
all_arguments zero = refl
all_arguments (suc n) = all_arguments n

pub count_arguments : (n : ℕ) → count_by is_argument (arguments_text n) ≡ n
count_arguments n = sum_by-replicate (λ c. cond (is_argument c) 1 0) n 81 ∙ omega arith

pub no_handles : (n : ℕ) → count_by is_handle (arguments_text n) ≡ 0
no_handles n = sum_by-replicate (λ c. cond (is_handle c) 1 0) n 81 ∙ omega arith

-- arguments with a handle behind some of them
abbrev pub handed : ℕ → ℕ → List ℕ
handed place n = arguments_text place ++ (88 ∷ arguments_text (n - place))

pub count_handed : (place n : ℕ) → place ≤ n → count_by is_argument (handed place n) ≡ n
count_handed place n among =
    sum_by-append (λ c. cond (is_argument c) 1 0) (arguments_text place) (88 ∷ arguments_text (n - place))
    ∙ rw (sum_by-cons (λ c. cond (is_argument c) 1 0) 88 (arguments_text (n - place)), count_arguments place, count_arguments (n - place)) (omega arith)

pub one_handle : (place n : ℕ) → count_by is_handle (handed place n) ≡ 1
one_handle place n =
    sum_by-append (λ c. cond (is_handle c) 1 0) (arguments_text place) (88 ∷ arguments_text (n - place))
    ∙ rw (sum_by-cons (λ c. cond (is_handle c) 1 0) 88 (arguments_text (n - place)), no_handles place, no_handles (n - place)) refl

pub any_handed : (test : ℕ → Bool) (place n : ℕ) → test 81 ≡ false → test 88 ≡ false → list_any test (handed place n) ≡ false
any_handed test place n other handle =
    list_any-append test (arguments_text place) (88 ∷ arguments_text (n - place))
    ∙ rw (any_arguments test place other, handle) (any_arguments test (n - place) other)

pub before_handle : (place n : ℕ) → length (take_while is_argument (handed place n)) ≡ place
before_handle place n =
    ap length (take_while-append is_argument (arguments_text place) (88 ∷ arguments_text (n - place)) refl (all_arguments place) refl) ∙ length-replicate place 81

-- letters, one by one
by_letter : (c : ℕ) (P : Type 0) → is_stranger c ≡ false → (c ≡ 81 → P) → (c ≡ 88 → P) → P
by_letter c P known argument handle = by_tests (c == 81) (c == 88) refl refl known
  where
    by_tests : (a b : Bool) → (c == 81) ≡ a → (c == 88) ≡ b → not (a || b) ≡ false → P
    by_tests true b is_a is_b h = argument (grind (arith, nat_tests))
    by_tests false true is_a is_b h = handle (grind (arith, nat_tests))
    by_tests false false is_a is_b h = absurd (cc)

count_cons : (test : ℕ → Bool) (c : ℕ) (cs : List ℕ) → count_by test (c ∷ cs) ≡ cond (test c) 1 0 + count_by test cs
count_cons test c cs = sum_by-cons (λ c. cond (test c) 1 0) c cs

-- one argument more
more_arguments : (cs : List ℕ) (n m : ℕ) → cs ≡ arguments_text n → m ≡ 1 + n → 81 ∷ cs ≡ arguments_text m
more_arguments cs n m whole e =
    let next : suc n ≡ m = omega (arith, e) in
    ap (λ more. 81 ∷ more) whole ∙ ap arguments_text next

same_sum : (m n : ℕ) → m ≡ 0 + n → m ≡ n
same_sum m n e = omega (arith, e)

handles_behind_argument : (cs : List ℕ) → count_by is_handle (81 ∷ cs) ≡ count_by is_handle cs
handles_behind_argument cs = same_sum (count_by is_handle (81 ∷ cs)) (count_by is_handle cs) (count_cons is_handle 81 cs)

arguments_behind_handle : (cs : List ℕ) → count_by is_argument (88 ∷ cs) ≡ count_by is_argument cs
arguments_behind_handle cs = same_sum (count_by is_argument (88 ∷ cs)) (count_by is_argument cs) (count_cons is_argument 88 cs)

-- letters without a handle are arguments
pub arguments_alone : (letters : List ℕ) → list_any is_stranger letters ≡ false → count_by is_handle letters ≡ 0 → letters ≡ arguments_text (count_by is_argument letters)
arguments_alone [] known none = refl
arguments_alone (c ∷ cs) known none =
    let parts = or_parts (is_stranger c) (list_any is_stranger cs) known in
    by_letter c (c ∷ cs ≡ arguments_text (count_by is_argument (c ∷ cs))) parts.0
    (λ argument.
    let rest : count_by is_handle cs ≡ 0 = sym (handles_behind_argument cs) ∙ (ap (λ d. count_by is_handle (d ∷ cs)) (sym argument) ∙ none) in
    subst (λ d. d ∷ cs ≡ arguments_text (count_by is_argument (d ∷ cs))) (sym argument) (more_arguments cs (count_by is_argument cs) (count_by is_argument (81 ∷ cs)) (arguments_alone cs parts.1 rest) (count_cons is_argument 81 cs)))
    (λ handle.
    let none : count_by is_handle (88 ∷ cs) ≡ 0 = ap (λ d. count_by is_handle (d ∷ cs)) (sym handle) ∙ none in
    absurd (no_sum (count_by is_handle cs) (sym (count_cons is_handle 88 cs) ∙ none)))
  where
    no_sum : (n : ℕ) → 1 + n ≡ 0 → ⊥
    no_sum n e = omega (arith, e)

-- one argument more, with a handle behind it
more_handed : (cs : List ℕ) (place n place' n' : ℕ) → cs ≡ handed place n → place ≤ n → place' ≡ 1 + place → n' ≡ 1 + n → (81 ∷ cs ≡ handed place' n') × (place' ≤ n')
more_handed cs place n place' n' whole among e f =
    let next : suc place ≡ place' = omega (arith, e) in
    let left : n - place ≡ n' - place' = omega (arith, e, f, among) in
    (ap (λ more. 81 ∷ more) whole ∙ (ap (λ m. 81 ∷ (arguments_text place ++ (88 ∷ arguments_text m))) left ∙ ap (λ m. arguments_text m ++ (88 ∷ arguments_text (n' - place'))) next), omega (arith, e, f, among))

first_handed : (cs : List ℕ) (place n : ℕ) → cs ≡ arguments_text n → place ≡ 0 → (88 ∷ cs ≡ handed place n) × (place ≤ n)
first_handed cs place n whole e =
    let left : n ≡ n - place = omega (arith, e) in
    (ap (λ more. 88 ∷ more) whole ∙ (ap (λ m. 88 ∷ arguments_text m) left ∙ ap (λ m. arguments_text m ++ (88 ∷ arguments_text (n - place))) (sym e)), omega (arith, e))

-- the letters are some arguments with a handle behind those at the front
abbrev pub IsHanded : List ℕ → Type 0
IsHanded letters = (letters ≡ handed (length (take_while is_argument letters)) (count_by is_argument letters)) × (length (take_while is_argument letters) ≤ count_by is_argument letters)

argument_more : (cs : List ℕ) → IsHanded cs → IsHanded (81 ∷ cs)
argument_more cs split =
    more_handed cs (length (take_while is_argument cs)) (count_by is_argument cs) (length (take_while is_argument (81 ∷ cs))) (count_by is_argument (81 ∷ cs)) split.0 split.1
    (let long = ap length (take_while-cons is_argument 81 cs) in omega (arith, long)) (count_cons is_argument 81 cs)

handle_first : (cs : List ℕ) → cs ≡ arguments_text (count_by is_argument cs) → IsHanded (88 ∷ cs)
handle_first cs alone =
    first_handed cs (length (take_while is_argument (88 ∷ cs))) (count_by is_argument (88 ∷ cs)) (alone ∙ ap arguments_text (sym (arguments_behind_handle cs)))
    (ap length (take_while-cons is_argument 88 cs))

-- letters with one handle
pub one_among : (letters : List ℕ) → list_any is_stranger letters ≡ false → count_by is_handle letters ≡ 1 → IsHanded letters
one_among [] known one = absurd (omega (arith, one))
one_among (c ∷ cs) known one =
    let parts = or_parts (is_stranger c) (list_any is_stranger cs) known in
    by_letter c (IsHanded (c ∷ cs)) parts.0
    (λ argument. subst (λ d. IsHanded (d ∷ cs)) (sym argument) (argument_more cs (one_among cs parts.1 (sym (handles_behind_argument cs) ∙ (ap (λ d. count_by is_handle (d ∷ cs)) (sym argument) ∙ one)))))
    (λ handle. subst (λ d. IsHanded (d ∷ cs)) (sym handle) (handle_first cs (arguments_alone cs parts.1 (same_one (count_by is_handle cs) (sym (count_cons is_handle 88 cs) ∙ (ap (λ d. count_by is_handle (d ∷ cs)) (sym handle) ∙ one))))))
  where
    same_one : (n : ℕ) → 1 + n ≡ 1 → n ≡ 0
    same_one n e = omega (arith, e)

-- no more arguments stand at the front than in all
pub front_few : (letters : List ℕ) → length (take_while is_argument letters) ≤ count_by is_argument letters
front_few [] = omega arith
front_few (c ∷ cs) = by_test (is_argument c) (length (take_while is_argument (c ∷ cs))) (count_by is_argument (c ∷ cs)) (ap length (take_while-cons is_argument c cs)) (count_cons is_argument c cs) (front_few cs)
  where
    by_test : (b : Bool) (long n : ℕ) → long ≡ length (cond b (c ∷ take_while is_argument cs) []) → n ≡ cond b 1 0 + count_by is_argument cs → length (take_while is_argument cs) ≤ count_by is_argument cs → long ≤ n
    by_test true long n e f few = omega (arith, e, f, few)
    by_test false long n e f few = omega (arith, e)

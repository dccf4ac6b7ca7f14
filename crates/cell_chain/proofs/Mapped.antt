-- What a list of numbers becomes where each stands for a cell, no two for one.
use Rattle.std.proofs.Common.{◌≡◌, ℕ, suc, ◌+◌, ◌<◌, Bool, true, false, not, cond, ◌||◌, ◌&&◌, ◌==◌, List, [], ◌∷◌, ◌++◌, take, drop, get_or, length, map, refl, ap, sym, subst, ◌∙◌, ⊎_elim, arith}
use Rattle.std.specs.Cmp.{both_ways}
use Rattle.std.specs.List.{AllByRecursion, IsDistinct, filter, list_any, position_or_len}
use Rattle.std.specs.Prelude.{insert, nat_eq}
use Rattle.std.proofs.lemmas.Bool.{or_cases, or_left, or_parts, or_right}
use Rattle.std.proofs.lemmas.List.{drop-map, length-take-le, map-append, take-append-drop, take-map, take_more}
use Rattle.std.proofs.lemmas.List.Folds.{list_any-append}
use Rattle.cell_refs.specs.declared.grid.Cell.{Cell}
use Rattle.cell_refs.specs.Cell.{is_among, same_cell}
use Rattle.cell_refs.proofs.PublicLaws.{same_cell_is, same_cells}
use Rattle.calc_chain.specs.Chain.{has, entries_among as entries_among_numbers, moved_behind as moved_behind_number, place_of as place_of_number, without as without_number}
use Rattle.calc_chain.proofs.PublicLaws.{has-filter, itself, same_number}
use Rattle.cell_chain.specs.CellOrder.{entries_among, moved_behind, place_of, without}

-- no other number of the list stands for the cell of this one
abbrev pub IsAloneIn : (ℕ → Cell) → List ℕ → ℕ → Type 0
IsAloneIn f xs x = (y : ℕ) → has xs y ≡ true → f y ≡ f x → y ≡ x

-- ---- tests that say of a number what another says of its cell

pub filter-mapped : (f : ℕ → Cell) (p : ℕ → Bool) (q : Cell → Bool) (xs : List ℕ)
    → ((y : ℕ) → has xs y ≡ true → p y ≡ q (f y)) → map f (filter p xs) ≡ filter q (map f xs)
filter-mapped f p q [] agree = refl
filter-mapped f p q (x ∷ xs) agree =
    let e : p x ≡ q (f x) = agree x (or_left (nat_eq x x) _ (itself x)) in
    let rest = filter-mapped f p q xs (λ y h. agree y (or_right (nat_eq y x) _ h)) in
    elim (p x) as (λ b. map f (cond b (x ∷ filter p xs) (filter p xs)) ≡ cond b (f x ∷ filter q (map f xs)) (filter q (map f xs))) [
      | true ↦ ap (λ ys. f x ∷ ys) rest
      | false ↦ rest
    ]
    ∙ ap (λ b. cond b (f x ∷ filter q (map f xs)) (filter q (map f xs))) e

pub position-mapped : (f : ℕ → Cell) (p : ℕ → Bool) (q : Cell → Bool) (xs : List ℕ)
    → ((y : ℕ) → has xs y ≡ true → p y ≡ q (f y)) → position_or_len p xs ≡ position_or_len q (map f xs)
position-mapped f p q [] agree = refl
position-mapped f p q (x ∷ xs) agree =
    let e : p x ≡ q (f x) = agree x (or_left (nat_eq x x) _ (itself x)) in
    let rest = position-mapped f p q xs (λ y h. agree y (or_right (nat_eq y x) _ h)) in
    ap (λ b. cond (not b) (1 + position_or_len p xs) 0) e ∙ ap (λ n. cond (not (q (f x))) (1 + n) 0) rest

pub any-mapped : (f : ℕ → Cell) (p : ℕ → Bool) (q : Cell → Bool) (xs : List ℕ)
    → ((y : ℕ) → has xs y ≡ true → p y ≡ q (f y)) → list_any p xs ≡ list_any q (map f xs)
any-mapped f p q [] agree = refl
any-mapped f p q (x ∷ xs) agree =
    let e : p x ≡ q (f x) = agree x (or_left (nat_eq x x) _ (itself x)) in
    let rest = any-mapped f p q xs (λ y h. agree y (or_right (nat_eq y x) _ h)) in
    ap (λ b. b || list_any p xs) e ∙ ap (λ b. q (f x) || b) rest

pub insert-mapped : (f : ℕ → Cell) (xs : List ℕ) (i x : ℕ) → map f (insert xs i x) ≡ insert (map f xs) i (f x)
insert-mapped f xs i x =
    map-append f (take i xs) (x ∷ drop i xs)
    ∙ ap (λ ys. ys ++ f x ∷ map f (drop i xs)) (sym (take-map f i xs))
    ∙ ap (λ ys. take i (map f xs) ++ f x ∷ ys) (sym (drop-map f i xs))

-- functions that agree on the list
pub map-alike : (f g : ℕ → Cell) (xs : List ℕ) → ((y : ℕ) → has xs y ≡ true → f y ≡ g y) → map f xs ≡ map g xs
map-alike f g [] agree = refl
map-alike f g (x ∷ xs) agree =
    ap (λ c. c ∷ map f xs) (agree x (or_left (nat_eq x x) _ (itself x)))
    ∙ ap (λ ys. g x ∷ ys) (map-alike f g xs (λ y h. agree y (or_right (nat_eq y x) _ h)))

-- ---- one number, and the cell for which it alone stands

same_test : (f : ℕ → Cell) (x y : ℕ) → (f y ≡ f x → y ≡ x) → nat_eq y x ≡ same_cell (f y) (f x)
same_test f x y alone = both_ways _ _
    (λ same. subst (λ n. same_cell (f n) (f x) ≡ true) (sym (same_number y x same)) (same_cells.refl (f x)))
    (λ same. subst (λ n. nat_eq n x ≡ true) (sym (alone (same_cell_is (f y) (f x) same))) (itself x))

pub has-mapped : (f : ℕ → Cell) (xs : List ℕ) (x : ℕ) → IsAloneIn f xs x → has xs x ≡ is_among (map f xs) (f x)
has-mapped f xs x alone = any-mapped f (nat_eq x) (same_cell (f x)) xs (λ y h. same_test f y x (λ e. sym (alone y h (sym e))))

pub without-mapped : (f : ℕ → Cell) (xs : List ℕ) (x : ℕ) → IsAloneIn f xs x → map f (without_number xs x) ≡ without (map f xs) (f x)
without-mapped f xs x alone = filter-mapped f (λ y. not (y == x)) (λ c. not (same_cell c (f x))) xs (λ y h. ap not (same_test f x y (alone y h)))

pub place-mapped : (f : ℕ → Cell) (xs : List ℕ) (x : ℕ) → IsAloneIn f xs x → place_of_number xs x ≡ place_of (map f xs) (f x)
place-mapped f xs x alone = position-mapped f (λ y. y == x) (λ c. same_cell c (f x)) xs (λ y h. same_test f x y (alone y h))

-- a cell among those of a list is that of one of its numbers
pub found-mapped : (f : ℕ → Cell) (xs : List ℕ) (c : Cell) → is_among (map f xs) c ≡ true → (x : ℕ) × (has xs x ≡ true) × (f x ≡ c)
found-mapped f [] c h = cc
found-mapped f (x ∷ xs) c h = ⊎_elim
    (λ here. (x, or_left (nat_eq x x) _ (itself x), sym (same_cell_is c (f x) here)))
    (λ later. let r = found-mapped f xs c later in (r.0, or_right (nat_eq r.0 x) _ r.1, r.2))
    (or_cases (same_cell c (f x)) (is_among (map f xs) c) h)

-- the cell of a number of a list is among its cells
pub among-mapped : (f : ℕ → Cell) (xs : List ℕ) (x : ℕ) → has xs x ≡ true → is_among (map f xs) (f x) ≡ true
among-mapped f [] x h = cc
among-mapped f (y ∷ xs) x h = ⊎_elim
    (λ here. or_left (same_cell (f x) (f y)) _ (subst (λ n. same_cell (f x) (f n) ≡ true) (same_number x y here) (same_cells.refl (f x))))
    (λ later. or_right (same_cell (f x) (f y)) _ (among-mapped f xs x later))
    (or_cases (nat_eq x y) (has xs x) h)

-- ---- each once

apart-mapped : (f : ℕ → Cell) (x : ℕ) (xs : List ℕ) → ((y : ℕ) → has xs y ≡ true → nat_eq x y ≡ same_cell (f x) (f y))
    → AllByRecursion (λ y. nat_eq x y ≡ false) xs → AllByRecursion (λ c. same_cell (f x) c ≡ false) (map f xs)
apart-mapped f x [] agree h = tt
apart-mapped f x (y ∷ ys) agree h = (
  sym (agree y (or_left (nat_eq y y) _ (itself y))) ∙ h.0,
  apart-mapped f x ys (λ z there. agree z (or_right (nat_eq z y) _ there)) h.1,
)

pub distinct-mapped : (f : ℕ → Cell) (xs : List ℕ) → ((x : ℕ) → has xs x ≡ true → IsAloneIn f xs x) → IsDistinct nat_eq xs → IsDistinct same_cell (map f xs)
unfolding IsDistinct
distinct-mapped f [] alone d = tt
distinct-mapped f (x ∷ xs) alone d = (
  apart-mapped f x xs (λ y h. same_test f y x (λ e. alone y (or_right (nat_eq y x) _ h) x (or_left (nat_eq x x) _ (itself x)) e)) d.0,
  distinct-mapped f xs (λ y h z there e. alone y (or_right (nat_eq y x) _ h) z (or_right (nat_eq z x) _ there) e) d.1,
)

apart-unmapped : (f : ℕ → Cell) (x : ℕ) (xs : List ℕ) → AllByRecursion (λ c. same_cell (f x) c ≡ false) (map f xs) → AllByRecursion (λ y. nat_eq x y ≡ false) xs
apart-unmapped f x [] h = tt
apart-unmapped f x (y ∷ ys) h = (differ (nat_eq x y) refl, apart-unmapped f x ys h.1)
  where
    differ : (b : Bool) → nat_eq x y ≡ b → b ≡ false
    differ false e = refl
    differ true e = sym (subst (λ n. same_cell (f x) (f n) ≡ true) (same_number x y e) (same_cells.refl (f x))) ∙ h.0

-- numbers whose cells stand once stand once
pub distinct-unmapped : (f : ℕ → Cell) (xs : List ℕ) → IsDistinct same_cell (map f xs) → IsDistinct nat_eq xs
unfolding IsDistinct
distinct-unmapped f [] d = tt
distinct-unmapped f (x ∷ xs) d = (apart-unmapped f x xs d.0, distinct-unmapped f xs d.1)

-- ---- what the calls make of a list

pub among_entries-mapped : (f : ℕ → Cell) (entries numbers : List ℕ) → ((x : ℕ) → has entries x ≡ true → IsAloneIn f numbers x)
    → map f (entries_among_numbers entries numbers) ≡ entries_among (map f entries) (map f numbers)
among_entries-mapped f entries numbers alone = filter-mapped f (has numbers) (is_among (map f numbers)) entries (λ x h. has-mapped f numbers x (alone x h))

pub moved-mapped : (f : ℕ → Cell) (xs : List ℕ) (x y : ℕ) → IsAloneIn f xs x → IsAloneIn f (without_number xs x) y
    → map f (moved_behind_number xs x y) ≡ moved_behind (map f xs) (f x) (f y)
moved-mapped f xs x y alone other =
    let rest = without-mapped f xs x alone in
    insert-mapped f (without_number xs x) (place_of_number (without_number xs x) y + 1) x
    ∙ ap (λ i. insert (map f (without_number xs x)) (i + 1) (f x)) (place-mapped f (without_number xs x) y other)
    ∙ ap (λ ys. insert ys (place_of ys (f y) + 1) (f x)) rest

pub length-mapped : (f : ℕ → Cell) (xs : List ℕ) → length (map f xs) ≡ length xs
length-mapped f [] = refl
length-mapped f (x ∷ xs) = ap suc (length-mapped f xs)

-- ---- numbers pushed one after the other

pub pushed-mapped : (f : ℕ → Cell) (old new : List ℕ) (cells : List Cell) (i n : ℕ) (d : Cell) (b : Bool)
    → map f old ≡ take i cells → i < length cells → f n ≡ get_or cells i d → b ≡ true → new ≡ cond b (old ++ n ∷ []) old → map f new ≡ take (i + 1) cells
pushed-mapped f old new cells i n d b so_far inside cell ok is =
    ap (map f) (is ∙ ap (λ c. cond c (old ++ n ∷ []) old) ok)
    ∙ map-append f old (n ∷ [])
    ∙ ap (λ ys. ys ++ f n ∷ []) so_far
    ∙ ap (λ c. take i cells ++ c ∷ []) cell
    ∙ sym (take_more cells i d inside)

-- as many numbers as cells so far
pub pushed-length : (f : ℕ → Cell) (old : List ℕ) (cells : List Cell) (i : ℕ) → map f old ≡ take i cells → i < length cells → length old ≡ i
pushed-length f old cells i so_far inside = sym (length-mapped f old) ∙ ap length so_far ∙ length-take-le i cells (omega arith)

-- ---- cells that lack one

pub without-none : (cells : List Cell) (c : Cell) → is_among cells c ≡ false → without cells c ≡ cells
without-none [] c h = refl
without-none (d ∷ cells) c h =
    let parts = or_parts (same_cell c d) (is_among cells c) h in
    ap (λ b. cond (not b) (d ∷ without cells c) (without cells c)) (same_cells.symm d c ∙ parts.0) ∙ ap (λ ys. d ∷ ys) (without-none cells c parts.1)

-- ---- what a number that is moved leaves in the list

insert_has : (xs : List ℕ) (i x q : ℕ) → has (insert xs i x) q ≡ (nat_eq q x || has xs q)
insert_has xs i x q =
    list_any-append (nat_eq q) (take i xs) (x ∷ drop i xs)
    ∙ exchange (has (take i xs) q) (nat_eq q x) (has (drop i xs) q)
    ∙ ap (λ b. nat_eq q x || b) (sym (list_any-append (nat_eq q) (take i xs) (drop i xs)) ∙ ap (λ ys. has ys q) (take-append-drop i xs))
  where
    exchange : (a b c : Bool) → (a || (b || c)) ≡ (b || (a || c))
    exchange true true c = refl
    exchange true false c = refl
    exchange false b c = refl

pub moved-has : (xs : List ℕ) (x y q : ℕ) → has xs x ≡ true → has (moved_behind_number xs x y) q ≡ has xs q
moved-has xs x y q here =
    insert_has (without_number xs x) (place_of_number (without_number xs x) y + 1) x q
    ∙ ap (λ b. nat_eq q x || b) (has-filter (λ z. not (z == x)) xs q)
    ∙ again (nat_eq q x) refl
  where
    all : (t : Bool) → (t && true) ≡ t
    all true = refl
    all false = refl

    again : (b : Bool) → nat_eq q x ≡ b → (b || (has xs q && not b)) ≡ has xs q
    again true e = sym (ap (has xs) (same_number q x e) ∙ here)
    again false e = all (has xs q)

-- The chain of the cells that a chain of numbers stands for: what each call makes of it.
use Rattle.std.proofs.Common.{◌≡◌, ◌≢◌, ℕ, ◌<◌, ◌≤◌, Bool, true, false, not, cond, ◌||◌, ◌&&◌, ◌==◌, Option, None, Some, List, [], ◌∷◌, ◌++◌, length, map, refl, ap, sym, subst, ◌∙◌, ⊎_elim, arith}
use Rattle.std.specs.List.{IsDistinct}
use Rattle.std.specs.Option.{IfNone, IfSome, is_some, unwrap_or}
use Rattle.std.specs.Prelude.{nat_eq, nat_lt}
use Rattle.std.proofs.lemmas.Bool.{or_left}
use Rattle.std.proofs.lemmas.List.{map-append}
use Rattle.std.proofs.lemmas.List.Folds.{list_any-append}
use Rattle.std.proofs.lemmas.Map.Made.{length-le_from_is_member}
use Rattle.std.proofs.lemmas.Map.Steps.{length-le_from_distinct_below}
use Rattle.cell_refs.specs.declared.grid.Cell.{Cell}
use Rattle.cell_refs.specs.Cell.{is_among, same_cell}
use Rattle.cell_refs.proofs.PublicLaws.{same_cells}
use Rattle.calc_chain.specs.Chain.{IsChain, Order, has, behind_first as behind_first_number, first_of, entries_among as entries_among_numbers, is_behind as is_behind_number, moved_behind as moved_behind_number, place_of as place, without as without_number}
use Rattle.calc_chain.proofs.PublicLaws.{chain-append, chain-among, chain-moved, chain-next, chain-without, due-entry, has-filter, has-push, has-without, itself, same_number}
use Rattle.cell_chain.specs.CellOrder.{IsCellChain, entries_among, is_behind, moved_behind, place_of, without}
use Rattle.cell_chain.specs.Numbering.{IsNumbered, IsOneToOne, cell_at, cell_of, cells_in, is_used}
use Rattle.cell_chain.proofs.Mapped.{IsAloneIn, among-mapped, among_entries-mapped, distinct-mapped, distinct-unmapped, found-mapped, length-mapped, map-alike, moved-has, moved-mapped, place-mapped, without-mapped, without-none}
use Rattle.cell_chain.proofs.NumberLaws.{at_cell, by_numbers, used_at, used_cell}

false_true : (b : Bool) → b ≡ false → b ≡ true → ⊥
false_true b h k = let e : true ≡ false = sym k ∙ h in cc

-- ---- what is in use

pub entry-used : (slots : List (Option Cell)) (chain : Order) (bound : ℕ) → IsNumbered slots chain bound
    → (x : ℕ) → has chain.entries x ≡ true → is_used slots x ≡ true
entry-used slots chain bound numbered x h = sym (numbered.used x) ∙ h

pub due-used : (slots : List (Option Cell)) (chain : Order) (bound : ℕ) → IsNumbered slots chain bound
    → (x : ℕ) → has chain.due x ≡ true → is_used slots x ≡ true
due-used slots chain bound numbered x h = entry-used slots chain bound numbered x (due-entry chain.entries chain.due numbered.order x h)

-- a number in use is alone with its cell
pub alone : (slots : List (Option Cell)) → IsOneToOne slots → (xs : List ℕ) → ((y : ℕ) → has xs y ≡ true → is_used slots y ≡ true)
    → (x : ℕ) → is_used slots x ≡ true → IsAloneIn (cell_at slots) xs x
alone slots once xs each x used y h e = once y x (cell_at slots x) (used_cell slots y (each y h) ∙ ap Some e) (used_cell slots x used)

alone_entry : (slots : List (Option Cell)) (chain : Order) (bound : ℕ) → IsNumbered slots chain bound
    → (x : ℕ) → is_used slots x ≡ true → IsAloneIn (cell_at slots) chain.entries x
alone_entry slots chain bound numbered = alone slots numbered.once chain.entries (entry-used slots chain bound numbered)

alone_due : (slots : List (Option Cell)) (chain : Order) (bound : ℕ) → IsNumbered slots chain bound
    → (x : ℕ) → is_used slots x ≡ true → IsAloneIn (cell_at slots) chain.due x
alone_due slots chain bound numbered = alone slots numbered.once chain.due (due-used slots chain bound numbered)

-- each cell once, and what is due in chain order
pub is-cell-chain : (slots : List (Option Cell)) (chain : Order) (bound : ℕ) → IsNumbered slots chain bound → IsCellChain (cells_in slots chain)
is-cell-chain slots chain bound numbered = record {
  once = distinct-mapped (cell_at slots) chain.entries (λ x h. alone_entry slots chain bound numbered x (entry-used slots chain bound numbered x h)) numbered.order.once;
  due =
      sym (among_entries-mapped (cell_at slots) chain.entries chain.due (λ x h. alone_due slots chain bound numbered x (entry-used slots chain bound numbered x h)))
      ∙ ap (map (cell_at slots)) numbered.order.due;
}

-- an entry has a number
pub entry-numbered : (slots : List (Option Cell)) (chain : Order) (bound : ℕ) → IsNumbered slots chain bound
    → (cell : Cell) → is_among (cells_in slots chain).entries cell ≡ true → (x : ℕ) × (cell_of slots x ≡ Some cell)
entry-numbered slots chain bound numbered cell h =
    let found = found-mapped (cell_at slots) chain.entries cell h in
    (found.0, used_cell slots found.0 (entry-used slots chain bound numbered found.0 found.1) ∙ ap Some found.2)

-- what has a number is an entry
pub numbered-entry : (slots : List (Option Cell)) (chain : Order) (bound : ℕ) → IsNumbered slots chain bound
    → (cell : Cell) (x : ℕ) → cell_of slots x ≡ Some cell → has chain.entries x ≡ true
numbered-entry slots chain bound numbered cell x h = numbered.used x ∙ used_at slots x cell h

numbered_among : (slots : List (Option Cell)) (chain : Order) (bound : ℕ) → IsNumbered slots chain bound
    → (cell : Cell) (x : ℕ) → cell_of slots x ≡ Some cell → is_among (cells_in slots chain).entries cell ≡ true
numbered_among slots chain bound numbered cell x h =
    ap (is_among (cells_in slots chain).entries) (sym (at_cell slots x cell h))
    ∙ among-mapped (cell_at slots) chain.entries x (numbered-entry slots chain bound numbered cell x h)

pub not-among : (slots : List (Option Cell)) (chain : Order) (bound : ℕ) → IsNumbered slots chain bound
    → (cell : Cell) → ((x : ℕ) → cell_of slots x ≢ Some cell) → is_among (cells_in slots chain).entries cell ≡ false
not-among slots chain bound numbered cell absent = elim (is_among (cells_in slots chain).entries cell) as (λ b. is_among (cells_in slots chain).entries cell ≡ b → b ≡ false) [
  | true ↦ λ e. let found = entry-numbered slots chain bound numbered cell e in absurd (absent found.0 found.1)
  | false ↦ λ _. refl
] refl

-- a cell that is no entry has no number
pub not-numbered : (slots : List (Option Cell)) (chain : Order) (bound : ℕ) → IsNumbered slots chain bound
    → (cell : Cell) → is_among (cells_in slots chain).entries cell ≡ false → (x : ℕ) → cell_of slots x ≢ Some cell
not-numbered slots chain bound numbered cell absent x h = false_true _ absent (numbered_among slots chain bound numbered cell x h)

pub has-answer : (slots : List (Option Cell)) (chain : Order) (bound : ℕ) → IsNumbered slots chain bound
    → (cell : Cell) (found : Option ℕ) → IfSome found (λ x. cell_of slots x ≡ Some cell) → IfNone found ((x : ℕ) → cell_of slots x ≢ Some cell)
    → is_some found ≡ is_among (cells_in slots chain).entries cell
has-answer slots chain bound numbered cell None some none = sym (not-among slots chain bound numbered cell none)
has-answer slots chain bound numbered cell (Some x) some none = sym (numbered_among slots chain bound numbered cell x some)

-- ---- slots that change at one number

kept_cells : (before after : List (Option Cell)) (n : ℕ) → ((other : ℕ) → other ≢ n → cell_of after other ≡ cell_of before other)
    → (xs : List ℕ) → has xs n ≡ false → map (cell_at after) xs ≡ map (cell_at before) xs
kept_cells before after n others xs absent =
    map-alike (cell_at after) (cell_at before) xs
    (λ y h. ap (λ o. unwrap_or o (record { sheet = 0; row = 0; col = 0 })) (others y (λ is. false_true (has xs n) absent (ap (has xs) (sym is) ∙ h))))

not_due : (slots : List (Option Cell)) (chain : Order) (bound : ℕ) → IsNumbered slots chain bound → (n : ℕ) → has chain.entries n ≡ false → has chain.due n ≡ false
not_due slots chain bound numbered n absent = elim (has chain.due n) as (λ b. has chain.due n ≡ b → b ≡ false) [
  | true ↦ λ e. sym (due-entry chain.entries chain.due numbered.order n e) ∙ absent
  | false ↦ λ _. refl
] refl

-- ---- put at the end

pub free-entry : (slots : List (Option Cell)) (chain : Order) (bound : ℕ) → IsNumbered slots chain bound → (n : ℕ) → cell_of slots n ≡ None → has chain.entries n ≡ false
free-entry slots chain bound numbered n free = numbered.used n ∙ ap is_some free

pub view-append : (slots slots' : List (Option Cell)) (chain chain' : Order) (bound n : ℕ) (cell : Cell) → IsNumbered slots chain bound
    → cell_of slots n ≡ None → cell_of slots' n ≡ Some cell → ((other : ℕ) → other ≢ n → cell_of slots' other ≡ cell_of slots other)
    → chain' ≡ record chain { entries = chain.entries ++ n ∷ [] }
    → cells_in slots' chain' ≡ record (cells_in slots chain) { entries = (cells_in slots chain).entries ++ cell ∷ [] }
view-append slots slots' chain chain' bound n cell numbered free changed others is =
    let absent = free-entry slots chain bound numbered n free in
    let entries : map (cell_at slots') (chain.entries ++ n ∷ []) ≡ map (cell_at slots) chain.entries ++ cell ∷ [] =
    map-append (cell_at slots') chain.entries (n ∷ [])
    ∙ ap (λ xs. xs ++ cell_at slots' n ∷ []) (kept_cells slots slots' n others chain.entries absent)
    ∙ ap (λ c. map (cell_at slots) chain.entries ++ c ∷ []) (at_cell slots' n cell changed) in
    ap (cells_in slots') is
    ∙ ap (λ xs. record { entries = xs; due = map (cell_at slots') chain.due }) entries
    ∙ ap (λ xs. record { entries = map (cell_at slots) chain.entries ++ cell ∷ []; due = xs })
    (kept_cells slots slots' n others chain.due (not_due slots chain bound numbered n absent))

pub numbered-append : (slots slots' : List (Option Cell)) (chain chain' : Order) (bound bound' n : ℕ) (cell : Cell) → IsNumbered slots chain bound
    → cell_of slots n ≡ None → cell_of slots' n ≡ Some cell → ((other : ℕ) → other ≢ n → cell_of slots' other ≡ cell_of slots other) → IsOneToOne slots'
    → chain' ≡ record chain { entries = chain.entries ++ n ∷ [] } → bound ≤ bound' → n < bound' → IsNumbered slots' chain' bound'
numbered-append slots slots' chain chain' bound bound' n cell numbered free changed others once is grows inside =
    let absent = free-entry slots chain bound numbered n free in
    subst (λ order. IsNumbered slots' order bound') (sym is) (record {
      order = chain-append chain.entries chain.due n numbered.order absent;
      once = once;
      used = λ m.
          list_any-append (nat_eq m) chain.entries (n ∷ [])
          ∙ by_numbers ((has chain.entries m || has (n ∷ []) m) ≡ is_used slots' m) m n
          (λ same. last (has chain.entries m) (nat_eq m n) (ap (nat_eq m) (sym same) ∙ itself m) ∙ sym (ap (is_used slots') same ∙ used_at slots' n cell changed))
          (λ apart. before (has chain.entries m) (nat_eq m n) (λ e. apart (same_number m n e)) ∙ numbered.used m ∙ ap is_some (sym (others m apart)));
      below = λ m h. ⊎_elim
          (λ old. let b = numbered.below m old in omega (arith, b, grows))
          (λ new. omega (arith, new, inside))
          (has-push chain.entries n m h);
    })
  where
    last : (a b : Bool) → b ≡ true → (a || (b || false)) ≡ true
    last true b h = refl
    last false true h = refl
    last false false h = cc

    before : (a b : Bool) → (b ≡ true → ⊥) → (a || (b || false)) ≡ a
    before a true h = absurd (h refl)
    before true false h = refl
    before false false h = refl

-- ---- taken out

gone : (xs : List ℕ) (n : ℕ) → has (without_number xs n) n ≡ false
gone xs n = has-filter (λ y. not (y == n)) xs n ∙ never (has xs n) (n == n) (itself n)
  where
    never : (a b : Bool) → b ≡ true → (a && not b) ≡ false
    never true true h = refl
    never false b h = refl
    never true false h = cc

view_without : (slots slots' : List (Option Cell)) (cell : Cell) (n : ℕ) → cell_of slots n ≡ Some cell
    → ((other : ℕ) → other ≢ n → cell_of slots' other ≡ cell_of slots other) → (xs : List ℕ) → IsAloneIn (cell_at slots) xs n
    → map (cell_at slots') (without_number xs n) ≡ without (map (cell_at slots) xs) cell
view_without slots slots' cell n found others xs lone =
    kept_cells slots slots' n others (without_number xs n) (gone xs n)
    ∙ without-mapped (cell_at slots) xs n lone
    ∙ ap (without (map (cell_at slots) xs)) (at_cell slots n cell found)

pub view-without : (slots slots' : List (Option Cell)) (chain chain' : Order) (bound n : ℕ) (cell : Cell) → IsNumbered slots chain bound
    → cell_of slots n ≡ Some cell → ((other : ℕ) → other ≢ n → cell_of slots' other ≡ cell_of slots other)
    → chain' ≡ record chain { entries = without_number chain.entries n; due = without_number chain.due n }
    → cells_in slots' chain' ≡ record (cells_in slots chain) { entries = without (cells_in slots chain).entries cell; due = without (cells_in slots chain).due cell }
view-without slots slots' chain chain' bound n cell numbered found others is =
    let used = used_at slots n cell found in
    ap (cells_in slots') is
    ∙ ap (λ xs. record { entries = xs; due = map (cell_at slots') (without_number chain.due n) })
    (view_without slots slots' cell n found others chain.entries (alone_entry slots chain bound numbered n used))
    ∙ ap (λ xs. record { entries = without (map (cell_at slots) chain.entries) cell; due = xs })
    (view_without slots slots' cell n found others chain.due (alone_due slots chain bound numbered n used))

pub numbered-without : (slots slots' : List (Option Cell)) (chain chain' : Order) (bound n : ℕ) (cell : Cell) → IsNumbered slots chain bound
    → cell_of slots' n ≡ None → ((other : ℕ) → other ≢ n → cell_of slots' other ≡ cell_of slots other) → IsOneToOne slots'
    → chain' ≡ record chain { entries = without_number chain.entries n; due = without_number chain.due n } → IsNumbered slots' chain' bound
numbered-without slots slots' chain chain' bound n cell numbered free others once is = subst (λ order. IsNumbered slots' order bound) (sym is) (record {
  order = chain-without chain.entries chain.due n numbered.order;
  once = once;
  used = λ m. by_numbers (has (without_number chain.entries n) m ≡ is_used slots' m) m n
      (λ same. ap (has (without_number chain.entries n)) same ∙ gone chain.entries n ∙ sym (ap (is_used slots') same ∙ ap is_some free))
      (λ apart.
      has-filter (λ y. not (y == n)) chain.entries m ∙ kept (has chain.entries m) (m == n) (λ e. apart (same_number m n e))
      ∙ numbered.used m ∙ ap is_some (sym (others m apart)));
  below = λ m h. numbered.below m (has-without chain.entries n m h);
})
  where
    kept : (a b : Bool) → (b ≡ true → ⊥) → (a && not b) ≡ a
    kept a true h = absurd (h refl)
    kept true false h = refl
    kept false false h = refl

pub view-without_none : (slots : List (Option Cell)) (chain : Order) (bound : ℕ) (cell : Cell) → IsNumbered slots chain bound
    → ((x : ℕ) → cell_of slots x ≢ Some cell)
    → cells_in slots chain ≡ record (cells_in slots chain) { entries = without (cells_in slots chain).entries cell; due = without (cells_in slots chain).due cell }
view-without_none slots chain bound cell numbered absent =
    ap (λ xs. record { entries = xs; due = map (cell_at slots) chain.due }) (sym (without-none (map (cell_at slots) chain.entries) cell (not-among slots chain bound numbered cell absent)))
    ∙ ap (λ xs. record { entries = without (map (cell_at slots) chain.entries) cell; due = xs }) (sym (without-none (map (cell_at slots) chain.due) cell none_due))
  where
    none_due : is_among (map (cell_at slots) chain.due) cell ≡ false
    none_due = elim (is_among (map (cell_at slots) chain.due) cell) as (λ b. is_among (map (cell_at slots) chain.due) cell ≡ b → b ≡ false) [
      | true ↦ λ e.
          let found = found-mapped (cell_at slots) chain.due cell e in
          absurd (absent found.0 (used_cell slots found.0 (due-used slots chain bound numbered found.0 found.1) ∙ ap Some found.2))
      | false ↦ λ _. refl
    ] refl

-- ---- made due

-- the cells that are to be due are no more than there is room for
pub room-enough : (slots : List (Option Cell)) (chain : Order) (bound : ℕ) (due : List Cell) → IsNumbered slots chain bound → IsDistinct same_cell due
    → ((cell : Cell) → is_among due cell ≡ true → is_among (cells_in slots chain).entries cell ≡ true) → length due ≤ bound
room-enough slots chain bound due numbered once entries =
    let few = length-le_from_is_member same_cells due (map (cell_at slots) chain.entries) once entries in
    let same = length-mapped (cell_at slots) chain.entries in
    let most = length-le_from_distinct_below chain.entries bound numbered.order.once numbered.below in
    omega (arith, few, same, most)

pub numbers-once : (slots : List (Option Cell)) (numbers : List ℕ) (due : List Cell) → map (cell_at slots) numbers ≡ due → IsDistinct same_cell due → IsDistinct nat_eq numbers
numbers-once slots numbers due is once = distinct-unmapped (cell_at slots) numbers (subst (IsDistinct same_cell) (sym is) once)

pub view-rewound : (slots : List (Option Cell)) (chain chain' : Order) (bound : ℕ) (numbers : List ℕ) (due : List Cell) → IsNumbered slots chain bound
    → map (cell_at slots) numbers ≡ due → ((x : ℕ) → has numbers x ≡ true → is_used slots x ≡ true)
    → chain' ≡ record chain { due = entries_among_numbers chain.entries numbers }
    → cells_in slots chain' ≡ record (cells_in slots chain) { due = entries_among (cells_in slots chain).entries due }
view-rewound slots chain chain' bound numbers due numbered cells used is =
    ap (cells_in slots) is
    ∙ ap (λ xs. record { entries = map (cell_at slots) chain.entries; due = xs })
    (among_entries-mapped (cell_at slots) chain.entries numbers (λ x h. alone slots numbered.once numbers used x (entry-used slots chain bound numbered x h))
    ∙ ap (entries_among (map (cell_at slots) chain.entries)) cells)

pub numbered-due : (slots : List (Option Cell)) (chain chain' : Order) (bound bound' : ℕ) → IsNumbered slots chain bound → (due : List ℕ)
    → IsChain (record { entries = chain.entries; due = due }) → chain' ≡ record chain { due = due } → bound ≤ bound' → IsNumbered slots chain' bound'
numbered-due slots chain chain' bound bound' numbered due order is grows = subst (λ order'. IsNumbered slots order' bound') (sym is) (record {
  order = order;
  once = numbered.once;
  used = numbered.used;
  below = λ m h. let b = numbered.below m h in omega (arith, b, grows);
})

pub numbered-rewound : (slots : List (Option Cell)) (chain chain' : Order) (bound bound' : ℕ) (numbers : List ℕ) → IsNumbered slots chain bound
    → chain' ≡ record chain { due = entries_among_numbers chain.entries numbers } → bound ≤ bound' → IsNumbered slots chain' bound'
numbered-rewound slots chain chain' bound bound' numbers numbered is grows =
    numbered-due slots chain chain' bound bound' numbered _ (chain-among chain.entries chain.due numbers numbered.order) is grows

-- ---- the first that is due

pub numbered-next : (slots : List (Option Cell)) (chain chain' : Order) (bound : ℕ) → IsNumbered slots chain bound
    → chain' ≡ record chain { due = behind_first_number chain.due } → IsNumbered slots chain' bound
numbered-next slots chain chain' bound numbered is =
    numbered-due slots chain chain' bound bound numbered _ (chain-next chain.entries chain.due numbered.order) is (omega arith)

-- ---- behind

pub behind-answer : (slots : List (Option Cell)) (chain : Order) (bound a b : ℕ) (x y : Cell) → IsNumbered slots chain bound
    → cell_of slots a ≡ Some x → cell_of slots b ≡ Some y → is_behind_number chain.entries a b ≡ is_behind (cells_in slots chain).entries x y
behind-answer slots chain bound a b x y numbered first second =
    ap (λ i. nat_lt i (place chain.entries a)) (place-mapped (cell_at slots) chain.entries b (alone_entry slots chain bound numbered b (used_at slots b y second)))
    ∙ ap (λ i. nat_lt (place_of (cells_in slots chain).entries (cell_at slots b)) i) (place-mapped (cell_at slots) chain.entries a (alone_entry slots chain bound numbered a (used_at slots a x first)))
    ∙ ap (λ c. is_behind (cells_in slots chain).entries (cell_at slots a) c) (at_cell slots b y second)
    ∙ ap (λ c. is_behind (cells_in slots chain).entries c y) (at_cell slots a x first)

pub view-moved : (slots : List (Option Cell)) (chain chain' : Order) (bound a b : ℕ) (x y : Cell) → IsNumbered slots chain bound
    → cell_of slots a ≡ Some x → cell_of slots b ≡ Some y
    → chain' ≡ record chain { entries = cond (is_behind_number chain.entries a b) chain.entries (moved_behind_number chain.entries a b) }
    → cells_in slots chain' ≡ record (cells_in slots chain) { entries = cond (is_behind (cells_in slots chain).entries x y) (cells_in slots chain).entries (moved_behind (cells_in slots chain).entries x y) }
view-moved slots chain chain' bound a b x y numbered first second is =
    let cells = map (cell_at slots) chain.entries in
    let used = used_at slots a x first in
    let moved : map (cell_at slots) (moved_behind_number chain.entries a b) ≡ moved_behind cells x y =
    moved-mapped (cell_at slots) chain.entries a b (alone_entry slots chain bound numbered a used)
    (λ z h. alone_entry slots chain bound numbered b (used_at slots b y second) z (has-without chain.entries a z h))
    ∙ ap (λ c. moved_behind cells (cell_at slots a) c) (at_cell slots b y second)
    ∙ ap (λ c. moved_behind cells c y) (at_cell slots a x first) in
    ap (cells_in slots) is
    ∙ ap (λ xs. record { entries = xs; due = map (cell_at slots) chain.due })
    (either (is_behind_number chain.entries a b)
    ∙ ap (λ xs. cond (is_behind_number chain.entries a b) cells xs) moved
    ∙ ap (λ t. cond t cells (moved_behind cells x y)) (behind-answer slots chain bound a b x y numbered first second))
  where
    either : (t : Bool) → map (cell_at slots) (cond t chain.entries (moved_behind_number chain.entries a b)) ≡ cond t (map (cell_at slots) chain.entries) (map (cell_at slots) (moved_behind_number chain.entries a b))
    either true = refl
    either false = refl

pub idle-number : (slots : List (Option Cell)) (chain : Order) (a : ℕ) (x : Cell) → cell_of slots a ≡ Some x
    → is_among (cells_in slots chain).due x ≡ false → has chain.due a ≡ false
idle-number slots chain a x found idle = elim (has chain.due a) as (λ t. has chain.due a ≡ t → t ≡ false) [
  | true ↦ λ e. absurd (false_true _ idle (ap (is_among (cells_in slots chain).due) (sym (at_cell slots a x found)) ∙ among-mapped (cell_at slots) chain.due a e))
  | false ↦ λ _. refl
] refl

pub numbered-moved : (slots : List (Option Cell)) (chain chain' : Order) (bound a b : ℕ) → IsNumbered slots chain bound
    → a ≢ b → has chain.entries a ≡ true → has chain.entries b ≡ true → has chain.due a ≡ false
    → chain' ≡ record chain { entries = cond (is_behind_number chain.entries a b) chain.entries (moved_behind_number chain.entries a b) } → IsNumbered slots chain' bound
numbered-moved slots chain chain' bound a b numbered apart here there idle is = subst (λ order. IsNumbered slots order bound) (sym is) (either (is_behind_number chain.entries a b))
  where
    either : (t : Bool) → IsNumbered slots (record chain { entries = cond t chain.entries (moved_behind_number chain.entries a b) }) bound
    either true = numbered
    either false = record {
      order = chain-moved chain.entries chain.due a b numbered.order apart there idle;
      once = numbered.once;
      used = λ m. moved-has chain.entries a b m here ∙ numbered.used m;
      below = λ m h. numbered.below m (sym (moved-has chain.entries a b m here) ∙ h);
    }

-- cells that differ have numbers that differ
pub apart-numbers : (slots : List (Option Cell)) (a b : ℕ) (x y : Cell) → cell_of slots a ≡ Some x → cell_of slots b ≡ Some y → x ≢ y → a ≢ b
apart-numbers slots a b x y first second apart same = apart (sym (at_cell slots a x first) ∙ ap (cell_at slots) same ∙ at_cell slots b y second)

-- the first that is due is due
pub first-due : (due : List ℕ) (x : ℕ) → Some x ≡ first_of due → has due x ≡ true
first-due [] x h = cc
first-due (y ∷ due) x h = let same : x ≡ y = cc in or_left (nat_eq x y) _ (ap (nat_eq x) (sym same) ∙ itself x)

-- Entries that are put and removed: what is found at another key, and the order of a book.
use Rattle.std.proofs.Common.{◌≡◌, Bool, true, false, cond, List, [], ◌∷◌, Some, None, refl, ap, sym, ◌∙◌}
use Rattle.std.specs.BTreeMap.{insert_entry}
use Rattle.std.specs.List.{AllByRecursion}
use Rattle.std.specs.List.Sorted.{IsStrictlySortedBy}
use Rattle.std.specs.Map.{keys_of, lookup, remove_entry}
use Rattle.std.specs.Ordering.{match_ordering, ordering_reverse}
use Rattle.std.specs.declared.cmp.Ordering.{Ordering}
use Rattle.std.specs.declared.cmp.Ordering.TheVariants.{Less, Equal, Greater}
use Rattle.cell_refs.specs.declared.grid.Cell.{Cell}
use Rattle.cell_refs.specs.Cell.{cell_cmp}
use Rattle.cell_refs.proofs.PublicLaws.{cells_total}
use Rattle.workbook.specs.declared.contents.Content.{Content}
use Rattle.workbook.specs.Book.{IsInOrder}

module _ {K X : Type 0} where
  -- a key that another one isn't is found as before, where an entry is put at the other
  pub lookup-put_elsewhere : (test : K → Bool) (cmp : K → K → Ordering) → ((a b : K) → cmp a b ≡ Equal → a ≡ b) → (es : List (K × X)) (k : K) (v : X) → test k ≡ false
      → lookup test (insert_entry cmp es k v) ≡ lookup test es
  lookup-put_elsewhere test cmp exact [] k v other = ap (λ b. cond b (Some v) None) other
  lookup-put_elsewhere test cmp exact (e ∷ es) k v other =
      elim (cmp k e.0) as (λ o. cmp k e.0 ≡ o → lookup test (match_ordering o ((k, v) ∷ e ∷ es) ((e.0, v) ∷ es) (e ∷ insert_entry cmp es k v)) ≡ lookup test (e ∷ es)) [
        | Less ↦ λ h. ap (λ b. cond b (Some v) (lookup test (e ∷ es))) other
        | Equal ↦ λ h. skipped (sym (ap test (exact k e.0 h)) ∙ other)
        | Greater ↦ λ h. ap (λ o. cond (test e.0) (Some e.1) o) (lookup-put_elsewhere test cmp exact es k v other)
      ] refl
    where
      skipped : test e.0 ≡ false → cond (test e.0) (Some v) (lookup test es) ≡ cond (test e.0) (Some e.1) (lookup test es)
      skipped h = ap (λ b. cond b (Some v) (lookup test es)) h ∙ sym (ap (λ b. cond b (Some e.1) (lookup test es)) h)

  -- and where an entry is removed that it isn't
  pub lookup-removed_elsewhere : (test gone : K → Bool) → ((k : K) → gone k ≡ true → test k ≡ false) → (es : List (K × X)) → lookup test (remove_entry gone es) ≡ lookup test es
  lookup-removed_elsewhere test gone other [] = refl
  lookup-removed_elsewhere test gone other (e ∷ es) =
      elim (gone e.0) as (λ b. gone e.0 ≡ b → lookup test (cond b es (e ∷ remove_entry gone es)) ≡ cond (test e.0) (Some e.1) (lookup test es)) [
        | true ↦ λ is. ap (λ b. cond b (Some e.1) (lookup test es)) (sym (other e.0 is))
        | false ↦ λ is. ap (λ o. cond (test e.0) (Some e.1) o) (lookup-removed_elsewhere test gone other es)
      ] refl

-- ---- order
each_leads : {X : Type 0} (P Q : X → Type 0) → ((x : X) → P x → Q x) → (xs : List X) → AllByRecursion P xs → AllByRecursion Q xs
each_leads P Q leads [] each = tt
each_leads P Q leads (x ∷ xs) each = (leads x each.0, each_leads P Q leads xs each.1)

-- a cell below each of a book and below a further one
below_insert : (x : Cell) (book : List (Cell × Content)) (cell : Cell) (content : Content) → cell_cmp x cell ≡ Less → AllByRecursion (λ y. cell_cmp x y ≡ Less) (keys_of book)
    → AllByRecursion (λ y. cell_cmp x y ≡ Less) (keys_of (insert_entry cell_cmp book cell content))
below_insert x [] cell content below each = (below, tt)
below_insert x (e ∷ es) cell content below each =
    elim (cell_cmp cell e.0) as (λ o. AllByRecursion (λ y. cell_cmp x y ≡ Less) (keys_of (match_ordering o ((cell, content) ∷ e ∷ es) ((e.0, content) ∷ es) (e ∷ insert_entry cell_cmp es cell content)))) [
      | Less ↦ (below, each)
      | Equal ↦ each
      | Greater ↦ (each.0, below_insert x es cell content below each.1)
    ]

-- a book in which a cell was set
pub insert_ordered : (book : List (Cell × Content)) (cell : Cell) (content : Content) → IsInOrder book → IsInOrder (insert_entry cell_cmp book cell content)
unfolding IsStrictlySortedBy
insert_ordered [] cell content ordered = (tt, tt)
insert_ordered (e ∷ es) cell content ordered =
    elim (cell_cmp cell e.0) as (λ o. cell_cmp cell e.0 ≡ o → IsInOrder (match_ordering o ((cell, content) ∷ e ∷ es) ((e.0, content) ∷ es) (e ∷ insert_entry cell_cmp es cell content))) [
      | Less ↦ λ h. ((h, each_leads (λ y. cell_cmp e.0 y ≡ Less) (λ y. cell_cmp cell y ≡ Less) (λ y below. cells_total.trans cell e.0 y h below) (keys_of es) ordered.0), ordered)
      | Equal ↦ λ h. ordered
      | Greater ↦ λ h. (
        below_insert e.0 es cell content (cells_total.antisymm e.0 cell ∙ ap ordering_reverse h) ordered.0,
        insert_ordered es cell content ordered.1,
      )
    ] refl

-- a cell below each of a book, where an entry is gone
below_remove : (x : Cell) (test : Cell → Bool) (book : List (Cell × Content)) → AllByRecursion (λ y. cell_cmp x y ≡ Less) (keys_of book)
    → AllByRecursion (λ y. cell_cmp x y ≡ Less) (keys_of (remove_entry test book))
below_remove x test [] each = tt
below_remove x test (e ∷ es) each = elim (test e.0) as (λ b. AllByRecursion (λ y. cell_cmp x y ≡ Less) (keys_of (cond b es (e ∷ remove_entry test es)))) [
  | true ↦ each.1
  | false ↦ (each.0, below_remove x test es each.1)
]

-- a book in which a cell was cleared
pub remove_ordered : (test : Cell → Bool) (book : List (Cell × Content)) → IsInOrder book → IsInOrder (remove_entry test book)
unfolding IsStrictlySortedBy
remove_ordered test [] ordered = tt
remove_ordered test (e ∷ es) ordered = elim (test e.0) as (λ b. IsInOrder (cond b es (e ∷ remove_entry test es))) [
  | true ↦ ordered.1
  | false ↦ (below_remove e.0 test es ordered.0, remove_ordered test es ordered.1)
]

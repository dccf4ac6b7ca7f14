-- For the crate's own functions: numbers that are linked in an order, with labels that rise along it.
use Rattle.std.specs.Prelude.{◌≡◌, ◌≢◌, ℕ, zero, suc, ◌+◌, ◌*◌, ◌<◌, ◌≤◌, ◌^◌, nat_eq, nat_lt, if◌then◌else◌, List, [], ◌∷◌, false, length, slice_index_or}
use Rattle.std.specs.List.{IsDistinct}
use Rattle.calc_chain.specs.Chain.{has}
use Rattle.calc_chain.specs.declared.slots.Slot.{Slot}
use Rattle.calc_chain.specs.declared.slots.Slots.{Slots}
use Rattle.calc_chain.specs.declared.slots.TheConstants.{END}

-- what is kept of a number that is no entry
abbrev pub free_slot : Slot
free_slot = record { before = 0; after = 0; label = 0 }

-- what is kept of a number, or of the two ends
abbrev pub slot_at : Slots → ℕ → Slot
slot_at s q = if nat_eq q END then s.ends else slice_index_or s.slots.items q free_slot

-- what is kept of it before the first entry comes
abbrev pub first_slot : ℕ → Slot
first_slot q = if nat_eq q END then (record { before = END; after = END; label = 0 }) else free_slot

-- the entry behind a number
abbrev pub after_of : Slots → ℕ → ℕ
after_of s q = (slot_at s q).after

-- the entry before a number
abbrev pub before_of : Slots → ℕ → ℕ
before_of s q = (slot_at s q).before

-- the label of a number
abbrev pub label_of : Slots → ℕ → ℕ
label_of s q = (slot_at s q).label

-- whether something can be kept of a number, or of the ends
abbrev pub Fits : Slots → ℕ → Type 0
Fits s q = q ≢ END → q < length s.slots.items

-- so many numbers from one on, each the next of the one before it
abbrev pub walk : (ℕ → ℕ) → ℕ → ℕ → List ℕ
walk next zero x = []
walk next (suc n) x = x ∷ walk next n (next x)

-- the number that many steps from one on
abbrev pub nth : (ℕ → ℕ) → ℕ → ℕ → ℕ
nth next zero x = x
nth next (suc n) x = nth next n (next x)

-- from a through these numbers to b each is linked with the next, both ways
abbrev pub AreLinked : (ℕ → ℕ) → (ℕ → ℕ) → ℕ → List ℕ → ℕ → Type 0
AreLinked next prev a [] b = (next a ≡ b) × (prev b ≡ a)
AreLinked next prev a (x ∷ xs) b = ((next a ≡ x) × (prev x ≡ a)) × AreLinked next prev x xs b

-- labels rise along the numbers, from one number to another, and lie between these
abbrev pub Rise : (ℕ → ℕ) → ℕ → List ℕ → ℕ → Type 0
Rise label low [] high = low < high
Rise label low (x ∷ xs) high = (low < label x) × Rise label (label x) xs high

-- the slots keep these numbers, in this order, each once
pub record Keeps (s : Slots) (entries : List ℕ) : Type 0 where
  pub linked : AreLinked (after_of s) (before_of s) END entries END
  pub rising : Rise (label_of s) 0 entries (2 ^ 64)
  pub once : IsDistinct nat_eq entries
  pub apart : has entries END ≡ false
  pub labeled : (q : ℕ) → q ≢ END → has entries q ≡ nat_lt 0 (label_of s q)
  pub ends : label_of s END ≡ 0
  pub small : length s.slots.items ≤ END

-- there is a label between that of a number and that of what stands behind it
pub record HasRoomBehind (s : Slots) (y : ℕ) : Type 0 where
  pub last : after_of s y ≡ END → label_of s y + 1 < 2 ^ 64
  pub between : after_of s y ≢ END → label_of s y + 2 ≤ label_of s (after_of s y)

-- a label lies between these
pub record IsBetween (s : Slots) (y label : ℕ) : Type 0 where
  pub above : label_of s y < label
  pub below : after_of s y ≢ END → label < label_of s (after_of s y)

-- that many labels and one more can lie so far apart within a gap
pub record IsStep (gap count step : ℕ) : Type 0 where
  pub wide : 2 ≤ step
  pub within : (count + 1) * step ≤ gap

-- that many entries behind a number can have labels so far apart
pub record IsCrowd (s : Slots) (y count step : ℕ) : Type 0 where
  pub entries : has (walk (after_of s) count (after_of s y)) END ≡ false
  pub wide : 2 ≤ step
  pub last : nth (after_of s) count (after_of s y) ≡ END → label_of s y + (count + 1) * step < 2 ^ 64
  pub next : nth (after_of s) count (after_of s y) ≢ END
      → label_of s y + (count + 1) * step ≤ label_of s (nth (after_of s) count (after_of s y))

-- the same numbers are linked as before, in slots as many
pub record KeepsLinks (old new : Slots) : Type 0 where
  pub after : (q : ℕ) → after_of new q ≡ after_of old q
  pub before : (q : ℕ) → before_of new q ≡ before_of old q
  pub size : length new.slots.items ≡ length old.slots.items

-- that many numbers from one on have labels so far apart, from a label on, and no other label changed
pub record Relabels (old new : Slots) (first count low step : ℕ) : Type 0 where
  pub links : KeepsLinks old new
  pub others : (q : ℕ) → has (walk (after_of old) count first) q ≡ false → label_of new q ≡ label_of old q
  pub apart : (k : ℕ) → k < count → label_of new (nth (after_of old) k first) ≡ low + (k + 1) * step

-- a list with a number put in directly behind another
abbrev pub put_behind : List ℕ → ℕ → ℕ → List ℕ
put_behind [] y x = x ∷ []
put_behind (w ∷ ws) y x = w ∷ (if nat_eq w y then x ∷ ws else put_behind ws y x)

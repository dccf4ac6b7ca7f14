-- Tests that are met together, and lists of topics in which the same is found.
use Rattle.std.proofs.Common.{◌≡◌, ℕ, Bool, true, false, ◌&&◌, List, [], ◌∷◌, length, Option, Some, None, refl, sym, ap, ◌∙◌}
use Rattle.std.specs.List.{IsDistinct, filter}
use Rattle.std.specs.Map.{keys_of, lookup}
use Rattle.std.proofs.lemmas.Map.Made.{IsDistinct-keys_filter, length-from_same_keys}
use Rattle.cell_values.specs.declared.topics.Topic.{Topic}
use Rattle.cell_values.specs.Topic.{same_topic}
use Rattle.cell_values.proofs.PublicLaws.{same_topics}
use Rattle.clean_cells.proofs.PublicLaws.{listed-passing, passes_found}
use Rattle.workbook.specs.Reads.{is_listed}

-- ---- tests
-- a test that is met exactly where another is, is the same
pub both_ways : (a b : Bool) → (a ≡ true → b ≡ true) → (b ≡ true → a ≡ true) → a ≡ b
both_ways true b there back = sym (there refl)
both_ways false true there back = back refl
both_ways false false there back = refl

pub first_of_two : (a b : Bool) → (a && b) ≡ true → a ≡ true
first_of_two true b h = refl
first_of_two false b h = h

pub second_of_two : (a b : Bool) → (a && b) ≡ true → b ≡ true
second_of_two true b h = h
second_of_two false b h = cc

-- ---- what is found of a topic
module _ {X : Type 0} where
  -- two lists in which the same is found have the same topics that pass, and as many of them
  pub listed_alike : (p q : Topic × X → Bool) → ((e : Topic × X) → p e ≡ q e) → (es fs : List (Topic × X)) → IsDistinct same_topic (keys_of es) → IsDistinct same_topic (keys_of fs)
      → ((t : Topic) → lookup (same_topic t) es ≡ lookup (same_topic t) fs) → (t : Topic) → is_listed (keys_of (filter p es)) t ≡ is_listed (keys_of (filter q fs)) t
  listed_alike p q agree es fs d f alike t =
      listed-passing p es d t
      ∙ ap (passes_found p t) (alike t)
      ∙ agree_found (lookup (same_topic t) fs)
      ∙ sym (listed-passing q fs f t)
    where
      agree_found : (found : Option X) → passes_found p t found ≡ passes_found q t found
      agree_found None = refl
      agree_found (Some v) = agree (t, v)

  pub counted_alike : (p q : Topic × X → Bool) → ((e : Topic × X) → p e ≡ q e) → (es fs : List (Topic × X)) → IsDistinct same_topic (keys_of es) → IsDistinct same_topic (keys_of fs)
      → ((t : Topic) → lookup (same_topic t) es ≡ lookup (same_topic t) fs) → length (keys_of (filter p es)) ≡ length (keys_of (filter q fs))
  counted_alike p q agree es fs d f alike =
      length-from_same_keys same_topics (keys_of (filter p es)) (keys_of (filter q fs)) (IsDistinct-keys_filter same_topic p es d) (IsDistinct-keys_filter same_topic q fs f)
      (listed_alike p q agree es fs d f alike)

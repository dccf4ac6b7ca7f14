-- What a hasher is fed of a topic.
use Rattle.std.specs.Prelude.{◌≡◌, ℕ, Bool, true, false, ◌&&◌, List, [], ◌∷◌, ◌++◌, IsTrue}
use Rattle.std.specs.Cmp.Lexicographic.{pointwise}
use Rattle.std.specs.Hash as fed
use Rattle.std.specs.List.{flat_map}
use Rattle.std.specs.Str.{bytes_eq}
use Rattle.std.proofs.Common.{ap, refl}
use Rattle.std.proofs.lemmas.Slice.Eq.{bytes_eq-Decides}
use Rattle.cell_values.specs.declared.topics.Topic.{Topic}
use Rattle.cell_values.specs.Topic.{same_topic}
pub use Rattle.cell_values.proofs.PublicLaws.{same_topics}

-- what a hasher is fed of a topic
abbrev pub topic_input : Topic → List (List ℕ)
topic_input topic = fed.str topic.server ++ flat_map fed.str topic.strings

-- the first of two tests that hold together
first_true : (b c : Bool) → (b && c) ≡ true → b ≡ true
first_true true c h = refl
first_true false c h = h

-- the second of two tests that hold together
second_true : (b c : Bool) → (b && c) ≡ true → c ≡ true
second_true true c h = h
second_true false true h = refl
second_true false false h = h

-- lists that a test finds equal, which finds only equal items equal, are equal
equal_lists : {X : Type 0} (same : X → X → Bool) → ((x y : X) → same x y ≡ true → x ≡ y) → (xs ys : List X) → pointwise same xs ys ≡ true → xs ≡ ys
equal_lists same equal [] [] h = refl
equal_lists same equal [] (y ∷ ys) h = cc
equal_lists same equal (x ∷ xs) [] h = cc
equal_lists same equal (x ∷ xs) (y ∷ ys) h = λ i. equal x y (first_true (same x y) (pointwise same xs ys) h) i ∷ equal_lists same equal xs ys (second_true (same x y) (pointwise same xs ys) h) i

equal_bytes : (s t : List ℕ) → bytes_eq s t ≡ true → s ≡ t
equal_bytes s t h = (bytes_eq-Decides s t).0 h

-- the same topics are equal
pub same_topic_is : (a b : Topic) → same_topic a b ≡ true → a ≡ b
same_topic_is a b h =
    let server = equal_bytes a.server b.server (first_true (bytes_eq a.server b.server) (pointwise bytes_eq a.strings b.strings) h) in
    let strings = equal_lists bytes_eq equal_bytes a.strings b.strings (second_true (bytes_eq a.server b.server) (pointwise bytes_eq a.strings b.strings) h) in
    λ i. record { server = server i; strings = strings i }

-- the same topics are hashed alike
pub same_topic_input : (a b : Topic) → IsTrue (same_topic a b) → topic_input a ≡ topic_input b
same_topic_input a b h = ap topic_input (same_topic_is a b h)

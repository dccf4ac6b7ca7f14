-- What the texts of RTD come to.
use Rattle.std.proofs.Common.{◌≡◌, ℕ, nat_lt, true, false, List, ◌∷◌, length, Option, Result, Ok, sym, ap, ap₂, ◌∙◌}
use Rattle.std.specs.List.{list_any}
use Rattle.std.specs.Str.{chars}
use Rattle.cell_values.specs.declared.errors.ErrorKind.{ErrorKind}
use Rattle.cell_values.specs.declared.errors.ErrorKind.TheVariants as errors
use Rattle.cell_values.specs.declared.topics.Topic.{Topic}
use Rattle.cell_values.specs.declared.values.Value.{Value}
use Rattle.cell_values.specs.Name.{is_name}
use Rattle.cell_eval.proofs.OperationLaws.{third}
use Rattle.functions.specs.Inputs.{all_ok, with_first}
use Rattle.workbook.specs.Evaluation.{World, error_answer, known_answer, topic_answer, LONGEST_STRING}

-- a name, no machine and short strings: the topic's value
pub named : (world : World) (name machine : List ℕ) (strings : List (List ℕ)) (server : List ℕ) (texts : List (List ℕ)) (o : Option Value)
    → nat_lt 0 (length machine) ≡ false → list_any (λ s. nat_lt LONGEST_STRING (length (chars s))) strings ≡ false → is_name name ≡ true
    → server ≡ name → texts ≡ strings → world.known (record { server = server; strings = texts }) ≡ o
    → topic_answer world (Ok (name ∷ machine ∷ strings)) ≡ known_answer world (record { server = server; strings = texts }) o
named world name machine strings server texts o none short valid same alike known =
    let topic : Topic = record { server = server; strings = texts } in
    third _ _ _ (error_answer errors.Value) (known_answer world (record { server = name; strings = strings }) (world.known (record { server = name; strings = strings }))) (error_answer errors.Na) none short valid
    ∙ ap₂ (λ (s : List ℕ) (ts : List (List ℕ)). known_answer world (record { server = s; strings = ts }) (world.known (record { server = s; strings = ts }))) (sym same) (sym alike)
    ∙ ap (known_answer world topic) known

-- the texts of three arguments and more
pub all_three : (x y : Result (List ℕ) ErrorKind) (r : List (Result (List ℕ) ErrorKind)) (a b : List ℕ) (cs : List (List ℕ)) → x ≡ Ok a → y ≡ Ok b → all_ok r ≡ Ok cs → all_ok (x ∷ y ∷ r) ≡ Ok (a ∷ b ∷ cs)
all_three x y r a b cs p q s =
    ap (λ z. all_ok (z ∷ y ∷ r)) p ∙ ap (λ z. with_first a (all_ok (z ∷ r))) q ∙ ap (λ z. with_first a (with_first b z)) s

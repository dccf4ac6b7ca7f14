-- Type texts: what a function was registered with, as it is written, and why a text is none.
use Rattle.std.specs.Prelude.{◌≡◌, ℕ, Bool, true, false, ◌-◌, ◌<◌, ◌≤◌, ◌==◌, ◌||◌, ◌&&◌, not, nat_lt, suc, if◌then◌else◌, IsTrue, List, [], ◌∷◌, ◌++◌, length, replicate, count_by, take_while, position, Option, Some, None, option_map, Result, Ok, Err, codes}
use Rattle.std.specs.List.{list_any}
use Rattle.functions.specs.declared.limits.TheConstants.{MOST_ARGUMENTS}
use Rattle.addin_types.specs.declared.registrations.Kind.{Kind}
use Rattle.addin_types.specs.declared.registrations.Kind.TheVariants as kinds
use Rattle.addin_types.specs.declared.registrations.Registration.{Registration}
use Rattle.addin_types.specs.declared.type_faults.TypeFault.{TypeFault}
use Rattle.addin_types.specs.declared.type_faults.TypeFault.TheVariants as faults

-- so many arguments, each a `Q`
abbrev pub arguments_text : ℕ → List ℕ
arguments_text count = replicate count 81

-- the result and the arguments: `Q` and the arguments, or `>` and the arguments with the handle's `X` at its place
abbrev pub kind_text : Kind → ℕ → List ℕ
kind_text kinds.Plain arguments = codes "Q" ++ arguments_text arguments
kind_text (kinds.Asynchronous place) arguments =
    codes ">" ++ (arguments_text place ++ (codes "X" ++ arguments_text (arguments - place)))

-- `$` where the function may run on any thread
abbrev pub thread_text : Bool → List ℕ
thread_text true = codes "$"
thread_text false = []

-- a registration as it is written
unfoldable pub type_text : Registration → List ℕ
type_text r = kind_text r.kind r.arguments ++ thread_text r.thread_safe

-- the handle stands among the arguments
abbrev pub IsAmong : Kind → ℕ → Type 0
IsAmong kinds.Plain arguments = Unit {0}
IsAmong (kinds.Asynchronous place) arguments = place ≤ arguments

-- a registration that a type text says: at most 255 arguments, and the handle among them
pub record IsRegistration (r : Registration) : Type 0 where
  pub few : r.arguments ≤ MOST_ARGUMENTS
  pub among : IsAmong r.kind r.arguments

-- a text without the `$` at its end, and whether it has one
abbrev pub mark_apart : List ℕ → List ℕ × Bool
mark_apart [] = ([], false)
mark_apart (c ∷ []) = if c == 36 then ([], true) else (c ∷ [], false)
mark_apart (c ∷ d ∷ ds) = (c ∷ (mark_apart (d ∷ ds)).0, (mark_apart (d ∷ ds)).1)

-- what stands behind the first byte
abbrev pub behind_first : List ℕ → List ℕ
behind_first [] = []
behind_first (c ∷ cs) = cs

-- the letters behind the first byte, without the `$` at the end
abbrev pub letters_of : List ℕ → List ℕ
letters_of text = (mark_apart (behind_first text)).0

-- a `#` stands in the text
abbrev pub has_macro : List ℕ → Bool
has_macro text = list_any (λ byte. byte == 35) text

-- a `Q`
abbrev pub is_argument : ℕ → Bool
is_argument byte = byte == 81

-- an `X`
abbrev pub is_handle : ℕ → Bool
is_handle byte = byte == 88

-- neither
abbrev pub is_stranger : ℕ → Bool
is_stranger byte = not (is_argument byte || is_handle byte)

-- the first byte is a `>`
abbrev pub begins_void : List ℕ → Bool
begins_void [] = false
begins_void (c ∷ cs) = c == 62

-- the first place of a byte that may not stand there: first a `Q` or a `>`, then `Q` and `X`, and a `$` at the end
abbrev pub misplaced_at : List ℕ → Option ℕ
misplaced_at [] = None
misplaced_at (c ∷ cs) =
    if is_argument c || c == 62
    then option_map suc (position is_stranger (letters_of (c ∷ cs)))
    else Some 0

-- how many arguments there are, and how many handles
abbrev pub argument_count : List ℕ → ℕ
argument_count text = count_by is_argument (letters_of text)

abbrev pub handle_count : List ℕ → ℕ
handle_count text = count_by is_handle (letters_of text)

-- each byte may stand where it stands
pub record IsSpelled (text : List ℕ) : Type 0 where
  pub some : 0 < length text
  pub plain : has_macro text ≡ false
  pub placed : misplaced_at text ≡ None

-- why a text is no type text, in the order in which that is judged
abbrev pub IsFaultOf : TypeFault → List ℕ → Type 0
IsFaultOf faults.Empty text = text ≡ []
IsFaultOf faults.MacroSheet text = IsTrue (has_macro text)
IsFaultOf (faults.Letter place) text = (has_macro text ≡ false) × (misplaced_at text ≡ Some place)
IsFaultOf faults.TwoHandles text = IsSpelled text × (2 ≤ handle_count text)
IsFaultOf faults.VoidWithoutHandle text = IsSpelled text × (begins_void text ≡ true) × (handle_count text ≡ 0)
IsFaultOf faults.HandleWithoutVoid text = IsSpelled text × (begins_void text ≡ false) × (handle_count text ≡ 1)
IsFaultOf faults.TooMany text =
    IsSpelled text
    × (handle_count text ≡ (if begins_void text then 1 else 0))
    × (MOST_ARGUMENTS < argument_count text)

-- the fault of a text whose bytes may all stand where they stand, if it has one
unfoldable pub form_fault : List ℕ → Option TypeFault
form_fault text =
    if nat_lt 1 (handle_count text) then Some faults.TwoHandles
    else (if begins_void text && handle_count text == 0 then Some faults.VoidWithoutHandle
    else (if not (begins_void text) && handle_count text == 1 then Some faults.HandleWithoutVoid
    else (if nat_lt MOST_ARGUMENTS (argument_count text) then Some faults.TooMany else None)))

-- the fault of a byte at this place, if there is one, else that of the form
abbrev pub place_fault : Option ℕ → List ℕ → Option TypeFault
place_fault (Some place) text = Some (faults.Letter place)
place_fault None text = form_fault text

-- why a text is no type text, if it is none
unfoldable pub type_fault : List ℕ → Option TypeFault
type_fault text =
    if length text == 0 then Some faults.Empty
    else (if has_macro text then Some faults.MacroSheet else place_fault (misplaced_at text) text)

-- `>` is a function that is handed a handle, behind the arguments that stand before it
abbrev pub kind_in : List ℕ → Kind
kind_in text =
    if begins_void text then kinds.Asynchronous (length (take_while is_argument (letters_of text)))
    else kinds.Plain

-- what a type text says
unfoldable pub registration_of : List ℕ → Registration
registration_of text = record {
  kind = kind_in text;
  arguments = argument_count text;
  thread_safe = (mark_apart (behind_first text)).1;
}

-- what a text says, or why it is no type text
abbrev pub unless_fault : Option TypeFault → List ℕ → Result Registration TypeFault
unless_fault (Some fault) text = Err fault
unless_fault None text = Ok (registration_of text)

abbrev pub registration_in : List ℕ → Result Registration TypeFault
registration_in text = unless_fault (type_fault text) text

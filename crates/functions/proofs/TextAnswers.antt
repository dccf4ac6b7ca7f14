-- When characters are the text of an answer.
use Rattle.std.proofs.Common.{◌≡◌, ℕ, ◌+◌, ◌<◌, ◌≤◌, Bool, true, false, not, ◌&&◌, ◌||◌, cond, leb, List, [], ◌∷◌, map, length, take, drop, Option, Some, None, Result, Ok, Err, refl, sym, ap, ◌∙◌, subst, arith, IfOk}
use Rattle.std.proofs.lemmas.Bool.Decides.{nat_tests}
use Rattle.std.proofs.lemmas.List.{length-take, length-drop, length-map}
use Rattle.std.proofs.lemmas.Str.{is_utf8-from_IsUtf8}
use Rattle.std.proofs.lemmas.Iterator.Adapters.{position_from-zero}
use Rattle.std.specs.Char.{is_ascii_control, to_ascii_uppercase, to_ascii_lowercase}
use Rattle.std.specs.List.{list_any, position, position_from}
use Rattle.std.specs.Str.{IsUtf8, is_utf8, chars}
use lib.Utf8.{encodes, scalar}
use Rattle.cell_values.specs.Text.{is_text, if_short}
use Rattle.cell_values.specs.TextFault.{IsFaultOf}
use Rattle.cell_values.specs.Word.{text_of_bytes}
use Rattle.cell_values.specs.declared.memory.Memory.{Memory}
use Rattle.cell_values.specs.declared.texts.TextFault.{TextFault}
use Rattle.cell_values.specs.declared.texts.TextFault.TheVariants.{TooLong, Control}
use Rattle.cell_values.specs.declared.values.Value.{Value}
use Rattle.functions.specs.declared.arguments.Arg.{Arg}
use Rattle.functions.specs.Texts.{on_text, text_or_fault, first_characters, without_first, in_upper_case, in_lower_case, all_texts, concatenate_of}
use Rattle.functions.proofs.PlainFacts.{Plain, plain_parts, text_of_plain, kept, plain_take, plain_drop, plain_nil, plain_head, plain_cons}

-- an answer that shows a text
pub shows : (r : Result Value Memory) (shown t : List ℕ) (o : Option (List ℕ)) → IfOk r (λ v. v ≡ text_or_fault (text_of_bytes shown)) → shown ≡ t → is_text t ≡ true → o ≡ Some t → IfOk r (λ v. v ≡ text_or_fault o)
shows (Ok v) shown t o h same ok is = h ∙ (ap (λ s. text_or_fault (text_of_bytes s)) same ∙ (ap text_or_fault (kept t ok) ∙ sym (ap text_or_fault is)))
shows (Err e) shown t o h same ok is = tt

-- an answer that shows a text or a fault
pub answers : (r : Result Value Memory) (o given : Option (List ℕ)) → IfOk r (λ v. v ≡ text_or_fault given) → given ≡ o → IfOk r (λ v. v ≡ text_or_fault o)
answers (Ok v) o given h is = h ∙ ap text_or_fault is
answers (Err e) o given h is = tt

-- parts of a text are texts
pub front_is_text : (n : ℕ) (t : List ℕ) → is_text t ≡ true → is_text (first_characters n t) ≡ true
front_is_text n t e =
    let p = plain_parts t e in
    text_of_plain (take n (chars t)) (plain_take n (chars t) p.plain) (let few : length (chars t) ≤ 32767 = p.few in omega (arith, length-take n (chars t)))

pub rest_is_text : (n : ℕ) (t : List ℕ) → is_text t ≡ true → is_text (without_first n t) ≡ true
rest_is_text n t e =
    let p = plain_parts t e in
    text_of_plain (drop n (chars t)) (plain_drop n (chars t) p.plain) (let few : length (chars t) ≤ 32767 = p.few in omega (arith, length-drop n (chars t)))

-- a change of each character that keeps it plain
pub map_is_text : (f : ℕ → ℕ) → ((c : ℕ) → scalar c ≡ true → is_ascii_control c ≡ false → (scalar (f c) ≡ true) × (is_ascii_control (f c) ≡ false)) →
    (cs : List ℕ) → Plain cs → Plain (map f cs)
map_is_text f keeps [] plain = plain_nil
map_is_text f keeps (c ∷ cs) plain =
    let h = plain_head c cs plain in
    let k = keeps c h.scalar h.none in
    plain_cons (f c) (map f cs) k.0 k.1 (map_is_text f keeps cs h.rest)

upper_keeps : (c : ℕ) → scalar c ≡ true → is_ascii_control c ≡ false → (scalar (to_ascii_uppercase c) ≡ true) × (is_ascii_control (to_ascii_uppercase c) ≡ false)
upper_keeps c s n = (grind (arith, nat_tests), grind (arith, nat_tests))

lower_keeps : (c : ℕ) → scalar c ≡ true → is_ascii_control c ≡ false → (scalar (to_ascii_lowercase c) ≡ true) × (is_ascii_control (to_ascii_lowercase c) ≡ false)
lower_keeps c s n = (grind (arith, nat_tests), grind (arith, nat_tests))

mapped : (f : ℕ → ℕ) (t : List ℕ) → ((c : ℕ) → scalar c ≡ true → is_ascii_control c ≡ false → (scalar (f c) ≡ true) × (is_ascii_control (f c) ≡ false)) →
    is_text t ≡ true → is_text (encodes (map f (chars t))) ≡ true
mapped f t keeps e =
    let p = plain_parts t e in
    text_of_plain (map f (chars t)) (map_is_text f keeps (chars t) p.plain) (let few : length (chars t) ≤ 32767 = p.few in omega (arith, length-map (chars t) f))

pub upper_is_text : (t : List ℕ) → is_text t ≡ true → is_text (in_upper_case t) ≡ true
upper_is_text t e = mapped to_ascii_uppercase t upper_keeps e

pub lower_is_text : (t : List ℕ) → is_text t ≡ true → is_text (in_lower_case t) ≡ true
lower_is_text t e = mapped to_ascii_lowercase t lower_keeps e

short_or_not : (u b d : Bool) (s : List ℕ) → u ≡ true → d ≡ true → cond (u && (b && d)) (Some s) None ≡ cond b (Some s) None
short_or_not true true true s e f = refl
short_or_not true false d s e f = refl
short_or_not false b d s e f = absurd (cc)
short_or_not true true false s e f = absurd (cc)

-- characters without a control character are a text unless they are too many
pub plain_if_short : (s : List ℕ) → IsUtf8 s → list_any is_ascii_control s ≡ false → text_of_bytes s ≡ if_short s
plain_if_short s utf8 none = short_or_not (is_utf8 s) (leb (length (chars s)) 32767) (not (list_any is_ascii_control s)) s (is_utf8-from_IsUtf8 s utf8) (ap not none)

-- an answer that shows the texts of arguments
pub shows_all : (r : Result Value Memory) (args : List Arg) (shown s : List ℕ) → IfOk r (λ v. v ≡ text_or_fault (text_of_bytes shown)) → shown ≡ s → IsUtf8 shown →
    all_texts args ≡ Ok s → list_any is_ascii_control s ≡ false → IfOk r (λ v. v ≡ concatenate_of args)
shows_all (Ok v) args shown s h same utf8 is none =
    h ∙ (ap text_or_fault (plain_if_short shown utf8 (ap (list_any is_ascii_control) same ∙ none)) ∙ (ap (λ t. text_or_fault (if_short t)) same ∙ sym (ap (on_text (λ t. text_or_fault (if_short t))) is)))
shows_all (Err e) args shown s h same utf8 is none = tt

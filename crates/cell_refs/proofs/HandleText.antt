-- A handle's text, both ways.
use Rattle.std.proofs.Common.{◌≡◌, ℕ, ◌<◌, ◌≤◌, ◌^◌, Bool, true, false, cond, ◌&&◌, ◌==◌, nat_lt, List, [], ◌∷◌, ◌++◌, length, drop, take_while, slice_index, Option, Some, None, IfSome, IfNone, codes, decimal, refl, ap, sym, ◌∙◌, arith, append_assoc, append-nil}
use Rattle.std.proofs.lemmas.Bool.Decides.{nat_tests}
use Rattle.std.proofs.lemmas.Fmt.{decimal_nonempty, digits_value-decimal}
use Rattle.std.proofs.lemmas.Slice.Eq.{bytes_eq-Decides}
use Rattle.std.proofs.Math.Seq.{drop-append_seam}
use Rattle.std.specs.Char.{is_ascii_digit}
use Rattle.std.specs.Str.{bytes_eq}
use Rattle.std.specs.Str.Parse.{digits_value}
use Rattle.cell_refs.specs.declared.grid.Cell.{Cell}
use Rattle.cell_refs.specs.declared.handles.Handle.{Handle}
use Rattle.cell_refs.specs.Cell.{IsCell}
use Rattle.cell_refs.specs.Handle.{IsHandle, handle_in, handle_text, session_part}
use Rattle.cell_refs.specs.HandleReading.{cell_at_front, count_at, last_site, own_number, session_at, session_or_first, site_of}
use Rattle.cell_refs.specs.Reading.{◌>>=◌, rest_after}
use Rattle.cell_refs.specs.RefText.{cell_at}
use Rattle.cell_refs.specs.Written.{cell_text, plain_reference, reference_at}
use Rattle.cell_refs.proofs.BothWays.{bind_ok}
use Rattle.cell_refs.proofs.Front.{cell_reads_back, plain_means, stands_from_read}
use Rattle.cell_refs.proofs.Numbers.{decimal_front, front_and_rest, let_through}
use Rattle.cell_refs.proofs.Numerals.{numerals}
use Rattle.cell_refs.proofs.SheetWord.{rest_after-append, rest_after_front}

-- no digits are the text of no number
no_own_number : ◌≡◌ {A = Option ℕ} None (own_number [])
unfolding own_number
no_own_number = by_text (decimal 0) (decimal_nonempty 0 (omega arith))
  where
    by_text : (text : List ℕ) → 0 < length text → ◌≡◌ {A = Option ℕ} None (cond (bytes_eq [] text && nat_lt 0 (2 ^ 64)) (Some 0) None)
    by_text [] some = absurd (omega arith)
    by_text (c ∷ cs) some = refl

pub no_digits : (digits : List ℕ) → length digits ≡ 0 → ◌≡◌ {A = Option ℕ} None (own_number digits)
no_digits [] none = no_own_number
no_digits (c ∷ cs) none = absurd (omega (arith, none))

passes : {X : Type 0} (a : Bool) (y x : X) → cond a (Some y) None ≡ Some x → (a ≡ true) × (y ≡ x)
passes true y x e = (refl, cc)
passes false y x e = cc

own_takes : (digits : List ℕ) (n : ℕ) → own_number digits ≡ Some n → (digits ≡ decimal n) × (n < 2 ^ 64)
unfolding own_number
own_takes digits n e =
    let h = let_through (bytes_eq digits (decimal (digits_value 10 digits))) (nat_lt (digits_value 10 digits) (2 ^ 64)) (digits_value 10 digits) n e in
    let same : digits ≡ decimal (digits_value 10 digits) = (bytes_eq-Decides digits (decimal (digits_value 10 digits))).0 h.0 in
    let small : digits_value 10 digits < 2 ^ 64 = grind (arith, nat_tests, h.1) in
    (same ∙ ap decimal h.2, omega (arith, h.2, small))

own_again : (n : ℕ) → n < 2 ^ 64 → own_number (decimal n) ≡ Some n
unfolding own_number
own_again n room =
    let same : bytes_eq (decimal n) (decimal n) ≡ true = (bytes_eq-Decides (decimal n) (decimal n)).1 refl in
    let small : nat_lt n (2 ^ 64) ≡ true = grind (arith, nat_tests) in
    rw (digits_value-decimal numerals n room, same, small) refl

count_by_front : (text digits : List ℕ) → digits ≡ take_while is_ascii_digit text → count_at text ≡ (own_number digits >>= (λ number. Some (number, drop (length digits) text)))
unfolding count_at
count_by_front text digits e = rw e refl

-- a number at the front, in its own digits
pub count_takes : (text : List ℕ) (x : ℕ × List ℕ) → count_at text ≡ Some x → (text ≡ decimal x.0 ++ x.1) × (x.0 < 2 ^ 64)
count_takes text x e =
    let digits = take_while is_ascii_digit text in
    let number = bind_ok (own_number digits) (λ number. Some (number, drop (length digits) text)) x (sym (count_by_front text digits refl) ∙ e) in
    let own = own_takes digits number.0 number.1 in
    let is : (number.0, drop (length digits) text) ≡ x = let same = number.2 in cc in
    rw (← is) (front_and_rest is_ascii_digit text ∙ ap (λ front. front ++ drop (length digits) text) own.0, own.1)

pub count_again : (n : ℕ) (rest : List ℕ) → n < 2 ^ 64 → is_ascii_digit (slice_index rest 0) ≡ false → count_at (decimal n ++ rest) ≡ Some (n, rest)
count_again n rest room stops =
    count_by_front (decimal n ++ rest) (decimal n) (decimal_front n rest room stops)
    ∙ rw (own_again n room, drop-append_seam) refl

first_or_written : (text : List ℕ) (n : ℕ) (rest : List ℕ) (x : ℕ × List ℕ) → text ≡ decimal n ++ rest → n < 2 ^ 64 → session_or_first text n rest ≡ Some x → (text ≡ session_part x.0 ++ x.1) × (1 ≤ x.0) × (x.0 < 2 ^ 64)
unfolding session_or_first
first_or_written text n [] x whole room e = let is : (1, text) ≡ x = cc in rw (← is) (refl, omega arith, omega arith)
first_or_written text n (c ∷ cs) x whole room e = by_mark (c == 47) refl e
  where
    written : (1 < n) → c ≡ 47 → (text ≡ session_part n ++ cs) × (1 ≤ n) × (n < 2 ^ 64)
    written later mark =
        let other : (n == 1) ≡ false = grind (arith, nat_tests) in
        (rw other (whole ∙ (ap (λ d. decimal n ++ (d ∷ cs)) mark ∙ sym (append_assoc (decimal n) (codes "/") cs))), omega arith, room)

    by_number : (b : Bool) → nat_lt 1 n ≡ b → c ≡ 47 → cond {A = Option (ℕ × List ℕ)} b (Some (n, cs)) None ≡ Some x → (text ≡ session_part x.0 ++ x.1) × (1 ≤ x.0) × (x.0 < 2 ^ 64)
    by_number true is mark h = let same : (n, cs) ≡ x = cc in let later : 1 < n = grind (arith, nat_tests) in rw (← same) (written later mark)
    by_number false is mark h = cc

    by_mark : (b : Bool) → (c == 47) ≡ b → cond {A = Option (ℕ × List ℕ)} b (cond (nat_lt 1 n) (Some (n, cs)) None) (Some (1, text)) ≡ Some x → (text ≡ session_part x.0 ++ x.1) × (1 ≤ x.0) × (x.0 < 2 ^ 64)
    by_mark true is h = let mark : c ≡ 47 = grind (arith, nat_tests) in by_number (nat_lt 1 n) refl mark h
    by_mark false is h = let same : (1, text) ≡ x = cc in rw (← same) (refl, omega arith, omega arith)

-- the session's part
pub session_takes : (text : List ℕ) (x : ℕ × List ℕ) → session_at text ≡ Some x → (text ≡ session_part x.0 ++ x.1) × (1 ≤ x.0) × (x.0 < 2 ^ 64)
unfolding session_at
session_takes text x e =
    let number = bind_ok (count_at text) (λ number. session_or_first text number.0 number.1) x e in
    let taken = count_takes text number.0 number.1 in
    first_or_written text number.0.0 number.0.1 x taken.0 taken.1 number.2

pub session_again : (session round : ℕ) (rest : List ℕ) → 1 ≤ session → session < 2 ^ 64 → round < 2 ^ 64 → session_at (session_part session ++ (decimal round ++ (codes ":" ++ rest))) ≡ Some (session, decimal round ++ (codes ":" ++ rest))
unfolding session_at session_or_first
session_again session round rest some room fits = by_session (session == 1) refl
  where
    by_session : (b : Bool) → (session == 1) ≡ b → session_at (cond b [] (decimal session ++ codes "/") ++ (decimal round ++ (codes ":" ++ rest))) ≡ Some (session, decimal round ++ (codes ":" ++ rest))
    by_session true is =
        let first : 1 ≡ session = grind (arith, nat_tests) in
        rw (count_again round (codes ":" ++ rest) fits refl, first) refl
    by_session false is =
        let later : nat_lt 1 session ≡ true = grind (arith, nat_tests) in
        let more = decimal round ++ (codes ":" ++ rest) in
        let read : count_at (decimal session ++ (codes "/" ++ more)) ≡ Some (session, codes "/" ++ more) = count_again session (codes "/" ++ more) room refl in
        ap session_at (append_assoc (decimal session) (codes "/") more) ∙ rw (read, later) refl

-- a cell in its own text
pub cell_takes : (text : List ℕ) (x : Cell × List ℕ) → cell_at_front text ≡ Some x → (text ≡ cell_text x.0 ++ x.1) × IsCell x.0
unfolding cell_at_front
cell_takes text x e =
    let reference = bind_ok (reference_at text) (λ reference. rest_after (cell_text (cell_at reference.0 1)) text >>= (λ rest. Some (cell_at reference.0 1, rest))) x e in
    let rest = bind_ok (rest_after (cell_text (cell_at reference.0.0 1)) text) (λ rest. Some (cell_at reference.0.0 1, rest)) x reference.2 in
    let stands = stands_from_read text reference.0.0 reference.0.1 reference.1 in
    let is : (cell_at reference.0.0 1, rest.0) ≡ x = let same = rest.2 in cc in
    rw (← is) (rest_after_front (cell_text (cell_at reference.0.0 1)) text rest.0 rest.1, stands.inside)

pub cell_again : (cell : Cell) (rest : List ℕ) → IsCell cell → is_ascii_digit (slice_index rest 0) ≡ false → cell_at_front (cell_text cell ++ rest) ≡ Some (cell, rest)
unfolding cell_at_front
cell_again cell rest inside stops =
    rw (cell_reads_back cell rest inside stops) (by_cell (cell_at (plain_reference cell) 1) (plain_means cell))
  where
    by_cell : (meant : Cell) → meant ≡ cell → (◌>>=◌ {B = Cell × List ℕ} (rest_after (cell_text meant) (cell_text cell ++ rest)) (λ rest. Some (meant, rest))) ≡ Some (cell, rest)
    by_cell meant is = rw (is, rest_after-append) refl

site_ends : (text : List ℕ) (n : ℕ) (rest : List ℕ) (site : ℕ) → text ≡ decimal n ++ rest → last_site n rest ≡ Some site → (text ≡ decimal site) × (site < 2 ^ 16)
unfolding last_site
site_ends text n [] site whole e =
    let h = passes (nat_lt n (2 ^ 16)) n site e in
    let small : n < 2 ^ 16 = grind (arith, nat_tests, h.0) in
    (whole ∙ (append-nil (decimal n) ∙ ap decimal h.1), omega (arith, h.1, small))
site_ends text n (c ∷ cs) site whole e = cc

-- the site that a text is
pub site_takes : (text : List ℕ) (site : ℕ) → site_of text ≡ Some site → (text ≡ decimal site) × (site < 2 ^ 16)
unfolding site_of
site_takes text site e =
    let number = bind_ok (count_at text) (λ number. last_site number.0 number.1) site e in
    site_ends text number.0.0 number.0.1 site (count_takes text number.0 number.1).0 number.2

pub site_again : (site : ℕ) → site < 2 ^ 16 → site_of (decimal site) ≡ Some site
unfolding site_of last_site
site_again site small =
    let read : count_at (decimal site ++ []) ≡ Some (site, []) = count_again site [] (omega arith) refl in
    let fits : nat_lt site (2 ^ 16) ≡ true = grind (arith, nat_tests) in
    ap site_of (sym (append-nil (decimal site))) ∙ rw (read, fits) refl

joined : (text a t b u c v d w e y end : List ℕ) → text ≡ a ++ t → t ≡ b ++ u → u ≡ c ++ v → v ≡ d ++ w → w ≡ e ++ y → y ≡ end → text ≡ a ++ (b ++ (c ++ (d ++ (e ++ end))))
joined text a t b u c v d w e y end p q r s z last = cc

-- what is read is a handle with this text
pub handle_takes : (text : List ℕ) (h : Handle) → handle_in text ≡ Some h → (text ≡ handle_text h) × IsHandle h
unfolding handle_in handle_text
handle_takes text h e =
    let made : ℕ → ℕ → Cell → ℕ → Handle = λ session round cell site. record { session = session; round = round; cell = cell; site = site } in
    let session = bind_ok (session_at text) (λ session. count_at session.1 >>= (λ round. rest_after (codes ":") round.1 >>= (λ at_cell. cell_at_front at_cell >>= (λ cell. rest_after (codes "#") cell.1 >>= (λ at_site. site_of at_site >>= (λ site. Some (made session.0 round.0 cell.0 site))))))) h e in
    let round = bind_ok (count_at session.0.1) (λ round. rest_after (codes ":") round.1 >>= (λ at_cell. cell_at_front at_cell >>= (λ cell. rest_after (codes "#") cell.1 >>= (λ at_site. site_of at_site >>= (λ site. Some (made session.0.0 round.0 cell.0 site)))))) h session.2 in
    let at_cell = bind_ok (rest_after (codes ":") round.0.1) (λ at_cell. cell_at_front at_cell >>= (λ cell. rest_after (codes "#") cell.1 >>= (λ at_site. site_of at_site >>= (λ site. Some (made session.0.0 round.0.0 cell.0 site))))) h round.2 in
    let cell = bind_ok (cell_at_front at_cell.0) (λ cell. rest_after (codes "#") cell.1 >>= (λ at_site. site_of at_site >>= (λ site. Some (made session.0.0 round.0.0 cell.0 site)))) h at_cell.2 in
    let at_site = bind_ok (rest_after (codes "#") cell.0.1) (λ at_site. site_of at_site >>= (λ site. Some (made session.0.0 round.0.0 cell.0.0 site))) h cell.2 in
    let site = bind_ok (site_of at_site.0) (λ site. Some (made session.0.0 round.0.0 cell.0.0 site)) h at_site.2 in
    let session_taken = session_takes text session.0 session.1 in
    let round_taken = count_takes session.0.1 round.0 round.1 in
    let cell_taken = cell_takes at_cell.0 cell.0 cell.1 in
    let site_taken = site_takes at_site.0 site.0 site.1 in
    let is : made session.0.0 round.0.0 cell.0.0 site.0 ≡ h = let same = site.2 in cc in
    rw (← is) (
      joined text (session_part session.0.0) session.0.1 (decimal round.0.0) round.0.1 (codes ":") at_cell.0 (cell_text cell.0.0) cell.0.1 (codes "#") at_site.0 (decimal site.0)
          session_taken.0 round_taken.0 (rest_after_front (codes ":") round.0.1 at_cell.0 at_cell.1) cell_taken.0 (rest_after_front (codes "#") cell.0.1 at_site.0 at_site.1) site_taken.0,
      record { session = (session_taken.1, session_taken.2); round = round_taken.1; cell = cell_taken.1; site = site_taken.1 },
    )

-- a handle that is written reads back
pub handle_again : (h : Handle) → IsHandle h → handle_in (handle_text h) ≡ Some h
unfolding handle_in handle_text
handle_again h is =
    let site = codes "#" ++ decimal h.site in
    let cell = cell_text h.cell ++ site in
    let session_read : session_at (session_part h.session ++ (decimal h.round ++ (codes ":" ++ cell))) ≡ Some (h.session, decimal h.round ++ (codes ":" ++ cell)) = session_again h.session h.round cell is.session.0 is.session.1 is.round in
    let round_read : count_at (decimal h.round ++ (codes ":" ++ cell)) ≡ Some (h.round, codes ":" ++ cell) = count_again h.round (codes ":" ++ cell) is.round refl in
    let cell_read : cell_at_front (cell_text h.cell ++ site) ≡ Some (h.cell, site) = cell_again h.cell site is.cell refl in
    let site_read : site_of (decimal h.site) ≡ Some h.site = site_again h.site is.site in
    rw (session_read, round_read, cell_read, site_read) refl

-- no two handles are written alike
pub one_handle : (a b : Handle) → IsHandle a → IsHandle b → handle_text a ≡ handle_text b → a ≡ b
one_handle a b is_a is_b e =
    let both : Some a ≡ Some b = sym (handle_again a is_a) ∙ (ap handle_in e ∙ handle_again b is_b) in
    cc

pub handle_found : (text : List ℕ) (o : Option Handle) → o ≡ handle_in text → IfSome o (λ h. (text ≡ handle_text h) × IsHandle h)
handle_found text None e = tt
handle_found text (Some h) e = handle_takes text h (sym e)

pub no_handle : (text : List ℕ) (o : Option Handle) → o ≡ handle_in text → IfNone o ((h : Handle) → IsHandle h → text ≡ handle_text h → ⊥)
no_handle text None e = λ h is whole. let none : None ≡ Some h = e ∙ (ap handle_in whole ∙ handle_again h is) in cc
no_handle text (Some h) e = tt

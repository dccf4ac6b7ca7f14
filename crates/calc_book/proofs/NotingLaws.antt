-- Cells that are noted as changed.
use Rattle.std.proofs.Common.{◌≡◌, ℕ, zero, suc, ◌+◌, ◌<◌, length, take, Bool, true, false, not, cond, ◌||◌, ◌&&◌, List, [], ◌∷◌, ◌++◌, Option, None, Some, is_some, ⊎_elim, inl, inr, refl, ap, sym, ◌∙◌}
use Rattle.std.specs.List.{filter, filter_map, list_any, slice_index_or}
use Rattle.std.specs.Map.{keys_of}
use Rattle.std.proofs.lemmas.Bool.{and_parts, false_from_ne_true, not-true, or_cases, or_left, or_right}
use Rattle.std.proofs.lemmas.List.Folds.{list_any-append, list_any_more}
use Rattle.std.proofs.lemmas.Map.Entries.{lookup-filter-values, option_filter}
use Rattle.std.proofs.lemmas.Map.Keys.{IsDistinct-from_sorted}
use Rattle.std.proofs.lemmas.Map.Made.{is_some-lookup}
use Rattle.calc_book.specs.Calling.{has_call_where, is_added_named}
use Rattle.calc_book.specs.CalcState.{CalcState, calc_note, calc_register}
use Rattle.calc_book.specs.Keeping.{AtRest}
use Rattle.calc_book.specs.declared.calc_books.CalcBook.{CalcBook}
use Rattle.calc_book.proofs.BeginningLists.{AreWithin, among-filter, reaches-more}
use Rattle.calc_round.specs.Rounds.{HasSameCells}
use Rattle.cell_refs.specs.declared.grid.Cell.{Cell}
use Rattle.cell_refs.specs.Cell.{cell_cmp, is_among, same_cell}
use Rattle.cell_refs.proofs.PublicLaws.{same_cells}
use Rattle.addin_types.specs.declared.registrations.Registration.{Registration}
use Rattle.formula_parse.specs.Callees.{added_name}
use Rattle.formula_parse.specs.declared.callees.Callee.{Callee}
use Rattle.formula_parse.specs.declared.callees.Callee.TheVariants as callees
use Rattle.formula_parse.specs.declared.nodes.Node.{Node}
use Rattle.formula_parse.specs.Tree.{calls_of, sites_named}
use Rattle.std.specs.BTreeMap.{insert_entry}
use Rattle.std.specs.Str.{bytes_eq}
use Rattle.workbook.specs.Pulling.{is_named}
use Rattle.workbook.specs.Registry.{name_cmp}
use Rattle.std.specs.BTreeSet.{BTreeSet}
use Rattle.workbook.specs.declared.contents.Content.{Content}
use Rattle.workbook.specs.declared.contents.Content.TheVariants as contents
use Rattle.workbook.specs.Book.{BookState, IsInOrder, by_content, cell_precedents, content_at, has_formula}
use Rattle.workbook.specs.Step.{callers_of, formulas_where}

not_both : (b : Bool) → b ≡ true → b ≡ false → ⊥
not_both b h k = let e : true ≡ false = sym h ∙ k in cc

-- where more cells are changed all is as it is kept at rest
pub noted : (b : CalcBook) (s : CalcState) (keys : BTreeSet Cell) (cells : List Cell)
    → ((q : Cell) → is_among keys.keys q ≡ (is_among cells q || is_among b.changed.keys q))
    → AtRest b s → AtRest (record b { changed = keys }) (calc_note s cells)
noted b s keys cells puts rest = record {
  holds = record {
    session = rest.holds.session;
    book = rest.holds.book;
    functions = rest.holds.functions;
    ordered = rest.holds.ordered;
    completed = rest.holds.completed;
    changed = λ q. puts q ∙ ap (λ c. is_among cells q || c) (rest.holds.changed q) ∙ sym (list_any-append (same_cell q) cells s.changed);
    chain = rest.holds.chain;
    shown = rest.holds.shown;
    closed = rest.holds.closed;
  };
  table = λ q none. rest.table q (less q none);
  clean = λ q. ⊎_elim (λ same. inl same) (λ r. inr (r.0, reaches-more (cell_precedents s.book) s.changed (cells ++ s.changed) within r.0 q r.1)) (rest.clean q);
  others = λ q none. rest.others q (less q none);
  calls = rest.calls;
}
  where
    within : AreWithin s.changed (cells ++ s.changed)
    within q h = list_any-append (same_cell q) cells s.changed ∙ or_right (is_among cells q) (is_among s.changed q) h

    less : (q : Cell) → is_among (cells ++ s.changed) q ≡ false → is_among s.changed q ≡ false
    less q none = false_from_ne_true (is_among s.changed q) (λ here. not_both (is_among (cells ++ s.changed) q) (within q here) none)

-- where the same cells are changed nothing is otherwise
pub noted-none : (b : CalcBook) (s : CalcState) (keys : BTreeSet Cell) → HasSameCells b.changed.keys keys.keys
    → AtRest b s → AtRest (record b { changed = keys }) s
noted-none b s keys same rest = record {
  holds = record {
    session = rest.holds.session;
    book = rest.holds.book;
    functions = rest.holds.functions;
    ordered = rest.holds.ordered;
    completed = rest.holds.completed;
    changed = λ q. same q ∙ rest.holds.changed q;
    chain = rest.holds.chain;
    shown = rest.holds.shown;
    closed = rest.holds.closed;
  };
  table = rest.table;
  clean = rest.clean;
  others = rest.others;
  calls = rest.calls;
}

-- with other functions, which are not looked at at rest
refunctioned : (b : CalcBook) (s : CalcState) (book : BookState) (functions : List (List ℕ × Registration)) → book.contents ≡ b.book.contents → book.functions ≡ functions
    → AtRest b s → AtRest (record b { book = book }) (record s { functions = functions })
refunctioned b s book functions same are rest = record {
  holds = record {
    session = rest.holds.session;
    book = same ∙ rest.holds.book;
    functions = are;
    ordered = rest.holds.ordered;
    completed = rest.holds.completed;
    changed = rest.holds.changed;
    chain = rest.holds.chain;
    shown = rest.holds.shown;
    closed = rest.holds.closed;
  };
  table = rest.table;
  clean = rest.clean;
  others = rest.others;
  calls = rest.calls;
}

-- ---- those of some cells that aren't noted are noted, or taken back
joined : (c o : Bool) → (o || (c && not o)) ≡ (c || o)
joined true true = refl
joined true false = refl
joined false true = refl
joined false false = refl

pub all-noted : (old now new cells : List Cell) → new ≡ filter (λ q. not (is_among old q)) cells → ((q : Cell) → is_among now q ≡ (is_among old q || is_among new q))
    → (q : Cell) → is_among now q ≡ (is_among cells q || is_among old q)
all-noted old now new cells is puts q =
    puts q
    ∙ ap (λ b. is_among old q || b) (ap (λ cs. is_among cs q) is ∙ among-filter (λ c. not (is_among old c)) cells q)
    ∙ joined (is_among cells q) (is_among old q)

and_none : (b : Bool) → (b && false) ≡ false
and_none true = refl
and_none false = refl

and_all : (b : Bool) → (b && true) ≡ b
and_all true = refl
and_all false = refl

pub taken-back : (old mid now new cells : List Cell) → new ≡ filter (λ q. not (is_among old q)) cells → ((q : Cell) → is_among new q ≡ false → is_among mid q ≡ is_among old q)
    → ((q : Cell) → is_among now q ≡ (is_among mid q && not (is_among new q))) → HasSameCells old now
taken-back old mid now new cells is others removes q = elim (is_among new q) as (λ b. is_among new q ≡ b → is_among now q ≡ is_among old q) [
  | true ↦ λ h.
      removes q ∙ ap (λ b. is_among mid q && not b) h ∙ and_none (is_among mid q)
      ∙ sym (not-true (is_among old q) (and_parts (is_among cells q) (not (is_among old q)) (sym (ap (λ cs. is_among cs q) is ∙ among-filter (λ c. not (is_among old c)) cells q) ∙ h)).1)
  | false ↦ λ h. removes q ∙ ap (λ b. is_among mid q && not b) h ∙ and_all (is_among mid q) ∙ others q h
] refl

-- ---- cell by cell
-- what is among some of the cells is among them
taken_among : (q : Cell) (cells : List Cell) (n : ℕ) → is_among (take n cells) q ≡ true → is_among cells q ≡ true
taken_among q cells zero h = cc
taken_among q [] (suc n) h = h
taken_among q (c ∷ cells) (suc n) h =
    ⊎_elim (λ here. or_left (same_cell q c) _ here) (λ later. or_right (same_cell q c) _ (taken_among q cells n later)) (or_cases (same_cell q c) _ h)

-- a cell of another list stays as it was
pub others-kept : (first old now cells : List Cell) (i : ℕ) → ((q : Cell) → is_among old q ≡ (is_among first q || is_among (take i cells) q)) → now ≡ old
    → (q : Cell) → is_among cells q ≡ false → is_among now q ≡ is_among first q
others-kept first old now cells i so_far same q none =
    ap (λ cs. is_among cs q) same ∙ so_far q
    ∙ ap (λ b. is_among first q || b) (false_from_ne_true (is_among (take i cells) q) (λ here. not_both (is_among cells q) (taken_among q cells i here) none))
    ∙ or_none (is_among first q)
  where
    or_none : (b : Bool) → (b || false) ≡ b
    or_none true = refl
    or_none false = refl

-- as above, where all are put in
pub others-put : (first now cells : List Cell) → ((q : Cell) → is_among now q ≡ (is_among first q || is_among cells q))
    → (q : Cell) → is_among cells q ≡ false → is_among now q ≡ is_among first q
others-put first now cells puts q none = puts q ∙ ap (λ b. is_among first q || b) none ∙ or_none (is_among first q)
  where
    or_none : (b : Bool) → (b || false) ≡ b
    or_none true = refl
    or_none false = refl

take_out : (b a t : Bool) → cond b false (a && not t) ≡ (a && not (t || b))
take_out true true true = refl
take_out true true false = refl
take_out true false t = refl
take_out false true true = refl
take_out false true false = refl
take_out false false t = refl

-- one more cell is taken out
pub removed-more : (first old new cells : List Cell) (i : ℕ) (d : Cell) → i < length cells
    → ((q : Cell) → is_among new q ≡ cond (same_cell (slice_index_or cells i d) q) false (is_among old q))
    → ((q : Cell) → is_among old q ≡ (is_among first q && not (is_among (take i cells) q)))
    → (q : Cell) → is_among new q ≡ (is_among first q && not (is_among (take (i + 1) cells) q))
removed-more first old new cells i d below removes before q =
    removes q ∙ ap (λ b. cond (same_cell (slice_index_or cells i d) q) false b) (before q)
    ∙ take_out (same_cell (slice_index_or cells i d) q) (is_among first q) (is_among (take i cells) q)
    ∙ ap (λ b. is_among first q && not (is_among (take i cells) q || b)) (same_cells.symm (slice_index_or cells i d) q)
    ∙ ap (λ b. is_among first q && not b) (sym (list_any_more (same_cell q) cells i d below))

-- ---- the callers
module _ (own : Node → Bool) where
  calls_alike : (o : Option Content) → is_some (option_filter (λ x. by_content (λ v. false) own (Some x)) o) ≡ by_content (λ v. false) own o
  calls_alike None = refl
  calls_alike (Some x) = elim (by_content (λ v. false) own (Some x)) as (λ b. is_some (cond b (Some x) None) ≡ b) [ true ↦ refl | false ↦ refl ]

  -- the list of the formula cells whose formula passes a test has exactly those
  callers-has : (book : List (Cell × Content)) → IsInOrder book → (q : Cell) → is_among (formulas_where book own) q ≡ by_content (λ v. false) own (content_at book q)
  callers-has book ordered q =
      sym (is_some-lookup (same_cell q) (filter (λ e. by_content (λ v. false) own (Some e.1)) book))
      ∙ ap is_some (lookup-filter-values same_cells (λ x. by_content (λ v. false) own (Some x)) q book (IsDistinct-from_sorted cell_cmp (keys_of book) ordered))
      ∙ calls_alike (content_at book q)

  caller_formula : (o : Option Content) → (has_formula o && by_content (λ v. false) own o) ≡ by_content (λ v. false) own o
  caller_formula None = refl
  caller_formula (Some (contents.Num n)) = refl
  caller_formula (Some (contents.Text t)) = refl
  caller_formula (Some (contents.Bool b)) = refl
  caller_formula (Some (contents.Error e)) = refl
  caller_formula (Some (contents.Formula tree)) = refl

  -- a test of the formula that is one of its calls
  module _ (test : Callee → Bool) (same : (tree : Node) → list_any test (calls_of tree) ≡ own tree) where
    tested : (o : Option Content) → by_content (λ v. false) (λ tree. list_any test (calls_of tree)) o ≡ by_content (λ v. false) own o
    tested None = refl
    tested (Some (contents.Num n)) = refl
    tested (Some (contents.Text t)) = refl
    tested (Some (contents.Bool b)) = refl
    tested (Some (contents.Error e)) = refl
    tested (Some (contents.Formula tree)) = same tree

    -- those of the chain are they
    pub callers-alike : (b : CalcBook) (s : CalcState) → AtRest b s → (callers : List Cell) → callers ≡ filter (has_call_where b.book.contents test) b.chain.entries
        → (q : Cell) → is_among callers q ≡ is_among (formulas_where s.book own) q
    callers-alike b s rest callers is q =
        ap (λ cs. is_among cs q) is
        ∙ among-filter (has_call_where b.book.contents test) b.chain.entries q
        ∙ ap (λ book. is_among b.chain.entries q && has_call_where book test q) rest.holds.book
        ∙ ap (λ f. f && has_call_where s.book test q) (rest.holds.chain q)
        ∙ ap (λ c. has_formula (content_at s.book q) && c) (tested (content_at s.book q))
        ∙ caller_formula (content_at s.book q)
        ∙ sym (callers-has s.book rest.holds.ordered q)

-- ---- the callers of a name
named-call : (name : List ℕ) (callee : Callee) (callees : List Callee) → list_any (is_added_named name) callees ≡ list_any (bytes_eq name) (filter_map added_name callees)
    → list_any (is_added_named name) (callee ∷ callees) ≡ list_any (bytes_eq name) (filter_map added_name (callee ∷ callees))
named-call name (callees.BuiltIn f) others rest = rest
named-call name callees.Rtd others rest = rest
named-call name (callees.Added added) others rest = ap (λ b. bytes_eq name added || b) rest

named-calls : (name : List ℕ) (callees : List Callee) → list_any (is_added_named name) callees ≡ list_any (bytes_eq name) (filter_map added_name callees)
named-calls name [] = refl
named-calls name (callee ∷ callees) = named-call name callee callees (named-calls name callees)

or_turned : (a b : Bool) → (a || b) ≡ (b || a)
or_turned true true = refl
or_turned true false = refl
or_turned false true = refl
or_turned false false = refl

-- a function is registered, and its callers are noted
pub registers : (b : CalcBook) (s : CalcState) (keys : BTreeSet Cell) (book : BookState) (callers : List Cell) (name : List ℕ) (registration : Registration) → AtRest b s
    → callers ≡ filter (has_call_where b.book.contents (is_added_named name)) b.chain.entries
    → ((q : Cell) → is_among keys.keys q ≡ (is_among b.changed.keys q || is_among callers q))
    → book ≡ record b.book { functions = insert_entry name_cmp b.book.functions name registration }
    → AtRest (record b { book = book; changed = keys }) (calc_register s name registration)
registers b s keys book callers name registration rest are puts is =
    refunctioned (record b { changed = keys }) (calc_note s (callers_of s.book name)) book (insert_entry name_cmp s.functions name registration)
    (ap (λ (k : BookState). k.contents) is)
    (ap (λ (k : BookState). k.functions) is ∙ ap (λ fs. insert_entry name_cmp fs name registration) rest.holds.functions)
    (noted b s keys (callers_of s.book name)
    (λ q. puts q ∙ or_turned (is_among b.changed.keys q) (is_among callers q)
    ∙ ap (λ c. c || is_among b.changed.keys q)
    (callers-alike (λ tree. is_named (sites_named tree) name) (is_added_named name) (λ tree. named-calls name (calls_of tree)) b s rest callers are q))
    rest)

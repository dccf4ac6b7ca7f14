-- Edits keep what commands keep: contents set and cleared, functions registered, and servers named.
use Rattle.std.proofs.Common.{◌≡◌, ℕ, Bool, true, false, List, ◌∷◌, ◌++◌, refl, ap, sym, ◌∙◌}
use Rattle.std.specs.BTreeMap.{insert_entry}
use Rattle.std.specs.Map.{remove_entry}
use Rattle.std.specs.Str.{bytes_eq}
use Rattle.std.proofs.lemmas.List.Folds.{list_any-append}
use Rattle.std.proofs.lemmas.Map.Lookups.{exact_bytes}
use Rattle.std.proofs.lemmas.Slice.Eq.{bytes_eq-Decides}
use Rattle.addin_types.specs.declared.registrations.Registration.{Registration}
use Rattle.cell_refs.specs.declared.grid.Cell.{Cell}
use Rattle.cell_refs.specs.Cell.{cell_cmp, is_among, same_cell}
use Rattle.cell_refs.proofs.PublicLaws.{exact_cells, same_cell_is}
use Rattle.formula_parse.specs.Tree.{has_rtd_call, sites_named}
use Rattle.workbook.specs.declared.contents.Content.{Content}
use Rattle.workbook.specs.Book.{IsInOrder, by_content, has_formula}
use Rattle.workbook.specs.Pulling.{is_named}
use Rattle.workbook.specs.Registry.{name_cmp}
use Rattle.workbook.specs.State.{HostTerms, State, completed_setting}
use Rattle.workbook.specs.Step.{after_clear, after_register, after_server, after_set, callers_of, formulas_where}
use Rattle.workbook.proofs.PublicLaws.{or_false}
use Rattle.clean_cells.specs.Keeping.{KeepsClean}
use Rattle.clean_cells.proofs.Books.{insert_ordered, lookup-put_elsewhere, lookup-removed_elsewhere, remove_ordered}
use Rattle.clean_cells.proofs.Fresh.{IsEdit, fresh_before, same_content}
use Rattle.clean_cells.proofs.Readers.{among-formulas_where}
use Rattle.clean_cells.proofs.Servers.{known_before}
use Rattle.clean_cells.proofs.WithoutRtd.{calls_rtd, readers_call}

-- more cells are changed in one book
pub more_changed : (book : List (Cell × Content)) (more changed : List Cell) → IsEdit book book changed (more ++ changed)
more_changed book more changed = record {
  more = λ cell unchanged. (or_false (is_among more cell) (is_among changed cell) (sym (list_any-append (same_cell cell) more changed) ∙ unchanged)).1;
  same = λ cell unchanged. refl;
}

-- what isn't among more changed cells
pub not_more : (more changed : List Cell) (cell : Cell) → is_among (more ++ changed) cell ≡ false → is_among more cell ≡ false
not_more more changed cell unchanged = (or_false (is_among more cell) (is_among changed cell) (sym (list_any-append (same_cell cell) more changed) ∙ unchanged)).0

module _ (terms : HostTerms) (s : State) (kept : KeepsClean terms s) where
  -- the state with another book and other changed cells
  abbrev pub edited : List (Cell × Content) → List Cell → State
  edited book changed = record s { book = record s.book { contents = book }; changed = changed }

  pub edit_kept : (book : List (Cell × Content)) (changed : List Cell) → IsInOrder book → IsEdit s.book.contents book s.changed changed → KeepsClean terms (edited book changed)
  edit_kept book changed ordered edit = record {
    ordered = ordered;
    completed_ordered = kept.completed_ordered;
    once = kept.once;
    published = kept.published;
    taken = kept.taken;
    opening = kept.opening;
    failed = kept.failed;
    contents = λ cell unchanged. kept.contents cell (edit.more cell unchanged) ∙ edit.same cell unchanged;
    seen = λ cell topic unchanged reads. kept.seen cell topic (edit.more cell unchanged) reads;
    registered = λ cell tree unchanged content. kept.registered cell tree (edit.more cell unchanged) (edit.same cell unchanged ∙ content);
    accepted = λ cell tree content fresh.
        let formula = ap has_formula content in
        kept.accepted cell tree
        (same_content s.book.contents book s.changed changed ordered edit cell formula fresh ∙ content)
        (fresh_before s.book.contents book s.changed changed ordered edit cell formula fresh);
  }

  -- ---- contents
  other_cell : (cell q : Cell) → same_cell q cell ≡ false → (k : Cell) → same_cell cell k ≡ true → same_cell q k ≡ false
  other_cell cell q other k is = ap (same_cell q) (sym (same_cell_is cell k is)) ∙ other

  pub set_kept : (cell : Cell) (content : Content) → KeepsClean terms (after_set s cell content)
  set_kept cell content = edit_kept (insert_entry cell_cmp s.book.contents cell content) (cell ∷ s.changed) (insert_ordered s.book.contents cell content kept.ordered) (record {
    more = λ q unchanged. (or_false (same_cell q cell) (is_among s.changed q) unchanged).1;
    same = λ q unchanged. sym (lookup-put_elsewhere (same_cell q) cell_cmp exact_cells s.book.contents cell content (or_false (same_cell q cell) (is_among s.changed q) unchanged).0);
  })

  pub clear_kept : (cell : Cell) → KeepsClean terms (after_clear s cell)
  clear_kept cell = edit_kept (remove_entry (same_cell cell) s.book.contents) (cell ∷ s.changed) (remove_ordered (same_cell cell) s.book.contents kept.ordered) (record {
    more = λ q unchanged. (or_false (same_cell q cell) (is_among s.changed q) unchanged).1;
    same = λ q unchanged. sym (lookup-removed_elsewhere (same_cell q) (same_cell cell) (other_cell cell q (or_false (same_cell q cell) (is_among s.changed q) unchanged).0) s.book.contents);
  })

  -- ---- more changed cells, in the same book
  pub changed_kept : (more : List Cell) → KeepsClean terms (edited s.book.contents (more ++ s.changed))
  changed_kept more = edit_kept s.book.contents (more ++ s.changed) kept.ordered (more_changed s.book.contents more s.changed)

  -- ---- a registration
  another_name : (names : List (List ℕ)) (name other : List ℕ) → is_named names name ≡ false → is_named names other ≡ true → (b : Bool) → bytes_eq other name ≡ b → bytes_eq other name ≡ false
  another_name names name other absent named false is = is
  another_name names name other absent named true is =
      let one : other ≡ name = (bytes_eq-Decides other name).0 is in
      absurd (cc (ap (is_named names) one, absent, named))

  pub register_kept : (name : List ℕ) (registration : Registration) → KeepsClean terms (after_register s name registration)
  register_kept name registration =
      let e = changed_kept (callers_of s.book.contents name) in record {
        ordered = e.ordered;
        completed_ordered = e.completed_ordered;
        once = e.once;
        published = e.published;
        taken = e.taken;
        opening = e.opening;
        failed = e.failed;
        contents = e.contents;
        seen = e.seen;
        accepted = e.accepted;
        registered = λ cell tree unchanged content other named.
            let absent = sym (among-formulas_where (λ tree. is_named (sites_named tree) name) s.book.contents kept.ordered cell
            ∙ ap (by_content (λ v. false) (λ tree. is_named (sites_named tree) name)) content)
            ∙ not_more (callers_of s.book.contents name) s.changed cell unchanged in
            e.registered cell tree unchanged content other named
            ∙ sym (lookup-put_elsewhere (bytes_eq other) name_cmp exact_bytes s.book.functions name registration
            (another_name (sites_named tree) name other absent named (bytes_eq other name) refl));
      }

  -- ---- a server
  pub server_kept : (name : List ℕ) → KeepsClean terms (after_server s name)
  server_kept name =
      let e = changed_kept (formulas_where s.book.contents has_rtd_call) in record {
        ordered = e.ordered;
        completed_ordered = e.completed_ordered;
        once = e.once;
        failed = e.failed;
        contents = e.contents;
        registered = e.registered;
        accepted = e.accepted;
        published = λ t unknown. kept.published t (known_before s.servers _ t.server unknown);
        taken = λ t unknown. kept.taken t (known_before s.servers _ t.server unknown);
        opening = λ t unknown. kept.opening t (known_before s.servers _ t.server unknown);
        seen = λ cell topic unchanged reads.
            let calls = among-formulas_where has_rtd_call s.book.contents kept.ordered cell
            ∙ sym (ap calls_rtd (e.contents cell unchanged))
            ∙ readers_call (completed_setting terms s) s.completed.book.contents cell topic reads in
            absurd (cc (calls, not_more (formulas_where s.book.contents has_rtd_call) s.changed cell unchanged));
      }

-- Names of servers, published values, and the cells that read topics.
use Rattle.std.proofs.Common.{◌≡◌, ℕ, Bool, true, false, ◌&&◌, ◌||◌, cond, List, [], ◌∷◌, ◌++◌, map, Option, Some, None, refl, ap, sym, ◌∙◌}
use Rattle.std.specs.List.{filter, list_any}
use Rattle.std.specs.Map.{keys_of, lookup, remove_entry}
use Rattle.std.specs.Option.{is_some}
use Rattle.std.specs.Str.{bytes_eq}
use Rattle.std.proofs.lemmas.List.Folds.{list_any-append}
use Rattle.std.proofs.lemmas.Map.Entries.{lookup-filter-values, option_filter}
use Rattle.std.proofs.lemmas.Map.Keys.{IsDistinct-from_sorted}
use Rattle.std.proofs.lemmas.Map.Made.{is_some-lookup}
use Rattle.cell_refs.specs.declared.grid.Cell.{Cell}
use Rattle.cell_refs.specs.Cell.{cell_cmp, is_among, same_cell}
use Rattle.cell_refs.proofs.PublicLaws.{same_cell_is, same_cells}
use Rattle.cell_values.specs.declared.topics.Topic.{Topic}
use Rattle.cell_values.specs.declared.values.Value.{Value}
use Rattle.cell_values.specs.Topic.{same_topic}
use Rattle.cell_values.proofs.PublicLaws.{same_topic-refl}
use Rattle.formula_parse.specs.declared.nodes.Node.{Node}
use Rattle.workbook.specs.declared.contents.Content.{Content}
use Rattle.workbook.specs.declared.contents.Content.TheVariants as contents
use Rattle.workbook.specs.Book.{IsInOrder, by_content, content_at, formula_cells, has_formula, is_formula}
use Rattle.workbook.specs.Meaning.{Setting}
use Rattle.workbook.specs.Pulling.{is_named, pulled_servers}
use Rattle.workbook.specs.Reads.{cell_reads, is_listed, topics_of_cell}
use Rattle.workbook.specs.State.{KnownServer}
use Rattle.workbook.specs.Step.{formulas_where, servers_with_flag, topics_with}
use Rattle.workbook.proofs.PublicLaws.{cell_listed, formula_cells-has, or_false}
use Rattle.host_core.specs.HostKeeping.{is_known}
use Rattle.clean_cells.proofs.PublicLaws.{calls_rtd, readers_call, same_topic_is}

-- ---- names of servers
abbrev names_of : List KnownServer → List (List ℕ)
names_of servers = map (λ (server : KnownServer). server.name) servers

name_kept : (server : KnownServer) (b : Bool) → (let next : KnownServer = cond b (record server { flag = true }) server in next.name) ≡ server.name
name_kept server true = refl
name_kept server false = refl

-- a raised flag changes no name
pub names_with_flag : (servers : List KnownServer) (name : List ℕ) → names_of (servers_with_flag servers name) ≡ names_of servers
names_with_flag [] name = refl
names_with_flag (server ∷ servers) name =
    ap (λ first. first ∷ names_of (servers_with_flag servers name)) (name_kept server (bytes_eq name server.name))
    ∙ ap (λ names. server.name ∷ names) (names_with_flag servers name)

-- nor does a pull
pub names_pulled : (servers : List KnownServer) → names_of (pulled_servers servers []) ≡ names_of servers
names_pulled [] = refl
names_pulled (server ∷ servers) = ap (λ names. server.name ∷ names) (names_pulled servers)

-- with one more server
names_with_one : (servers : List KnownServer) (server : KnownServer) → names_of (servers ++ server ∷ []) ≡ names_of servers ++ server.name ∷ []
names_with_one [] server = refl
names_with_one (first ∷ servers) server = ap (λ names. first.name ∷ names) (names_with_one servers server)

-- what isn't known beside one more server wasn't known before
pub known_before : (servers : List KnownServer) (server : KnownServer) (name : List ℕ) → is_known (servers ++ server ∷ []) name ≡ false → is_known servers name ≡ false
known_before servers server name h =
    (or_false (is_known servers name) (is_named (server.name ∷ []) name)
    (sym (ap (λ names. is_named names name) (names_with_one servers server) ∙ list_any-append (bytes_eq name) (names_of servers) (server.name ∷ [])) ∙ h)).0

-- ---- what is published
lookup-without : {X : Type 0} (es : List (Topic × X)) (u t : Topic) → same_topic t u ≡ false → lookup (same_topic t) (remove_entry (same_topic u) es) ≡ lookup (same_topic t) es
lookup-without [] u t other = refl
lookup-without (e ∷ es) u t other =
    elim (same_topic u e.0) as (λ b. same_topic u e.0 ≡ b → lookup (same_topic t) (cond b es (e ∷ remove_entry (same_topic u) es)) ≡ cond (same_topic t e.0) (Some e.1) (lookup (same_topic t) es)) [
      | true ↦ λ is. ap (λ b. cond b (Some e.1) (lookup (same_topic t) es)) (sym (ap (same_topic t) (sym (same_topic_is u e.0 is)) ∙ other))
      | false ↦ λ is. ap (λ o. cond (same_topic t e.0) (Some e.1) o) (lookup-without es u t other)
    ] refl

-- a topic has the value that is put in place of any
pub lookup-topics_with : (topics : List (Topic × Value)) (u : Topic) (value : Value) (t : Topic) → lookup (same_topic t) (topics_with topics u value) ≡ cond (same_topic t u) (Some value) (lookup (same_topic t) topics)
lookup-topics_with topics u value t =
    elim (same_topic t u) as (λ b. same_topic t u ≡ b → cond b (Some value) (lookup (same_topic t) (remove_entry (same_topic u) topics)) ≡ cond b (Some value) (lookup (same_topic t) topics)) [
      | true ↦ λ _. refl
      | false ↦ λ other. lookup-without topics u t other
    ] refl

-- ---- cells of a book
either_alike : (test : Node → Bool) (o : Option Content) → is_some (option_filter (λ content. by_content (λ v. false) test (Some content)) o) ≡ by_content (λ v. false) test o
either_alike test None = refl
either_alike test (Some content) = elim (by_content (λ v. false) test (Some content)) as (λ b. is_some (cond b (Some content) None) ≡ b) [ true ↦ refl | false ↦ refl ]

-- the formula cells whose formula passes
pub among-formulas_where : (test : Node → Bool) (book : List (Cell × Content)) → IsInOrder book → (cell : Cell) → is_among (formulas_where book test) cell ≡ by_content (λ v. false) test (content_at book cell)
among-formulas_where test book ordered cell =
    sym (is_some-lookup (same_cell cell) (filter (λ e. by_content (λ v. false) test (Some e.1)) book))
    ∙ ap is_some (lookup-filter-values same_cells (λ content. by_content (λ v. false) test (Some content)) cell book (IsDistinct-from_sorted cell_cmp (keys_of book) ordered))
    ∙ either_alike test (content_at book cell)

taken_in : (a b t : Bool) → (a ≡ true → t ≡ true) → (a || (b && t)) ≡ ((a || b) && t)
taken_in true b t f = sym (f refl)
taken_in false b t f = refl

left_out : (a b t : Bool) → (a ≡ true → t ≡ false) → (b && t) ≡ ((a || b) && t)
left_out true true t f = refl
left_out true false t f = sym (f refl)
left_out false b t f = refl

-- the cells that pass
pub among-filter : (p : Cell → Bool) (cells : List Cell) (q : Cell) → is_among (filter p cells) q ≡ (is_among cells q && p q)
among-filter p [] q = refl
among-filter p (c ∷ cells) q = elim (p c) as (λ b. p c ≡ b → is_among (cond b (c ∷ filter p cells) (filter p cells)) q ≡ ((same_cell q c || is_among cells q) && p q)) [
  | true ↦ λ e. ap (λ b. same_cell q c || b) (among-filter p cells q) ∙ taken_in (same_cell q c) (is_among cells q) (p q) (λ same. ap p (same_cell_is q c same) ∙ e)
  | false ↦ λ e. among-filter p cells q ∙ left_out (same_cell q c) (is_among cells q) (p q) (λ same. ap p (same_cell_is q c same) ∙ e)
] refl

-- a cell that reads a topic has a formula
pub reads_formula : (setting : Setting) (book : List (Cell × Content)) (cell : Cell) (topic : Topic) → cell_reads setting book cell topic ≡ true → is_formula book cell ≡ true
reads_formula setting book cell topic h = by_calls (content_at book cell) (readers_call setting book cell topic h)
  where
    by_calls : (content : Option Content) → calls_rtd content ≡ true → has_formula content ≡ true
    by_calls None h = h
    by_calls (Some (contents.Num n)) h = h
    by_calls (Some (contents.Text t)) h = h
    by_calls (Some (contents.Bool b)) h = h
    by_calls (Some (contents.Error e)) h = h
    by_calls (Some (contents.Formula tree)) h = refl

-- the formula cells that read one of these topics
abbrev pub readers_among : Setting → List (Cell × Content) → List Topic → List Cell
readers_among setting book topics = filter (λ cell. list_any (is_listed topics) (topics_of_cell setting book cell)) (formula_cells book)

pub some_listed : (p : Topic → Bool) (topics : List Topic) (t : Topic) → is_listed topics t ≡ true → p t ≡ true → list_any p topics ≡ true
some_listed p [] t h met = h
some_listed p (u ∷ topics) t h met =
    elim (same_topic t u) as (λ b. same_topic t u ≡ b → (b || is_listed topics t) ≡ true → (p u || list_any p topics) ≡ true) [
      | true ↦ λ is _. ap (λ b. b || list_any p topics) (ap p (sym (same_topic_is t u is)) ∙ met)
      | false ↦ λ is later. right (p u) (some_listed p topics t later met)
    ] refl h
  where
    right : (b : Bool) → list_any p topics ≡ true → (b || list_any p topics) ≡ true
    right true h = refl
    right false h = h

pub found_listed : (p : Topic → Bool) (topics : List Topic) → list_any p topics ≡ true → (t : Topic) × (is_listed topics t ≡ true) × (p t ≡ true)
found_listed p [] h = cc
found_listed p (u ∷ topics) h = elim (p u) as (λ b. p u ≡ b → (b || list_any p topics) ≡ true → (t : Topic) × (is_listed (u ∷ topics) t ≡ true) × (p t ≡ true)) [
  | true ↦ λ met _. (u, ap (λ b. b || is_listed topics u) (same_topic-refl u), met)
  | false ↦ λ _ later. let found = found_listed p topics later in (found.0, right (same_topic found.0 u) (is_listed topics found.0) found.1, found.2)
] refl h
  where
    right : (a b : Bool) → b ≡ true → (a || b) ≡ true
    right true b h = refl
    right false b h = h

module _ (setting : Setting) (book : List (Cell × Content)) (ordered : IsInOrder book) (topics : List Topic) where
  -- a cell that reads one of them is among these
  pub reader_among : (cell : Cell) (t : Topic) → cell_reads setting book cell t ≡ true → is_listed topics t ≡ true → is_among (readers_among setting book topics) cell ≡ true
  reader_among cell t reads listed =
      among-filter (λ c. list_any (is_listed topics) (topics_of_cell setting book c)) (formula_cells book) cell
      ∙ ap (λ b. b && list_any (is_listed topics) (topics_of_cell setting book cell)) (formula_cells-has book ordered cell ∙ reads_formula setting book cell t reads)
      ∙ some_listed (is_listed topics) (topics_of_cell setting book cell) t (cell_listed setting book cell t ∙ reads) listed

  -- a cell among these reads one of them
  pub among_readers : (cell : Cell) → is_among (readers_among setting book topics) cell ≡ true → (t : Topic) × (cell_reads setting book cell t ≡ true) × (is_listed topics t ≡ true)
  among_readers cell h =
      let found = found_listed (is_listed topics) (topics_of_cell setting book cell) (second (is_among (formula_cells book) cell) _ (sym (among-filter (λ c. list_any (is_listed topics) (topics_of_cell setting book c)) (formula_cells book) cell) ∙ h)) in
      (found.0, sym (cell_listed setting book cell found.0) ∙ found.1, found.2)
    where
      second : (a b : Bool) → (a && b) ≡ true → b ≡ true
      second true b h = h
      second false b h = cc

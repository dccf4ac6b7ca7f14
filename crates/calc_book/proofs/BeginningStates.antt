-- From a book that rests to the recalculation that begins, and back to rest where the begin is refused.
use Rattle.std.proofs.Common.{◌≡◌, ℕ, zero, Bool, true, false, cond, ◌||◌, ◌&&◌, List, [], ◌++◌, ◌⊎◌, None, Some, Result, Ok, Err, IfOk, OnOk, OnErr, ⊎_elim, inl, inr, refl, ap, sym, subst, ◌∙◌}
use Rattle.std.specs.Option.{is_some}
use Rattle.std.specs.BTreeSet.{BTreeSet}
use Rattle.std.proofs.lemmas.Bool.{or_left, or_right}
use Rattle.std.proofs.lemmas.List.Folds.{list_any-append}
use Rattle.book_sync.specs.Following.{FollowsChanged, ShowsWhereClean, TableFollows}
use Rattle.calc_book.specs.Begun.{AreAllChanged, AreBoth, AreDue, IsIdle, KeepsCalls}
use Rattle.calc_book.specs.CalcState.{CalcState, calc_begin}
use Rattle.calc_book.specs.Keeping.{AtRest, InRound, IsAlikeNow, NotesCleanReaders, ReadsInRound, is_forgotten}
use Rattle.calc_book.specs.declared.calc_books.CalcBook.{CalcBook}
use Rattle.calc_book.proofs.BeginningLists.{AreAlike, AreWithin, alike-itself, alike-more, forgotten-cells, reaches-more, rest-alike, round-alike, shows-alike, table-alike}
use Rattle.calc_book.proofs.BeginningMeans.{constant-same, followed-left, followed-means, formula-some, marked-working, table-readers}
use Rattle.calc_book.proofs.Readings.{begun-reads}
use Rattle.calc_round.specs.Rounds.{HasRoom, PresentMeans, is_unfinished}
use Rattle.calc_round.specs.declared.open_work.OpenWork.{OpenWork}
use Rattle.cell_chain.specs.CellOrder.{CellOrder}
use Rattle.cell_refs.specs.declared.areas.Area.{Area}
use Rattle.cell_refs.specs.declared.grid.Cell.{Cell}
use Rattle.cell_refs.specs.Cell.{is_among}
use Rattle.cell_refs.specs.Reaching.{Reaches}
use Rattle.cell_store.specs.Gathering.{has_no_value}
use Rattle.cell_store.specs.Store.{KeepsPresent, KeepsShown, StoreState, is_touched, present_at, shown_at}
use Rattle.dep_table.specs.Table.{is_reader}
use Rattle.topic_source.specs.Source.{SourceState}
use Rattle.workbook.specs.declared.commands.BeginKind.{BeginKind}
use Rattle.workbook.specs.declared.commands.BeginKind.TheVariants as kinds
use Rattle.workbook.specs.declared.contents.Content.{Content}
use Rattle.workbook.specs.Agreement.{IsAlikeBesideChanged}
use Rattle.workbook.specs.Book.{IsInOrder, cell_precedents, content_at, formula_cells, formula_count, is_formula}
use Rattle.workbook.specs.Circular.{is_circular}
use Rattle.workbook.specs.Meaning.{Setting, Val, meaning}
use Rattle.workbook.specs.Stale.{is_stale, reaches}
use Rattle.workbook.specs.Step.{changed_at_begin}
use Rattle.workbook.proofs.PublicLaws.{formula_cells-has, reaches-among}

-- ---- answers
pub ok-leads : {A E : Type 0} (r : Result A E) (P Q : Type 0) → (P → Q) → OnOk r P → OnOk r Q
ok-leads (Ok x) P Q leads h = leads h
ok-leads (Err e) P Q leads h = tt

pub ok-four : {A E : Type 0} (r : Result A E) (P P' P'' Q : Type 0) → (P → P' → P'' → Q) → OnOk r P → OnOk r P' → OnOk r P'' → OnOk r Q
ok-four (Ok x) P P' P'' Q leads h k l = leads h k l
ok-four (Err e) P P' P'' Q leads h k l = tt

pub ok-five : {A E : Type 0} (r : Result A E) (R S T U Q : Type 0) → (R → S → T → U → Q) → OnOk r R → OnOk r S → OnOk r T → OnOk r U → OnOk r Q
ok-five (Ok x) R S T U Q leads h k l m = leads h k l m
ok-five (Err e) R S T U Q leads h k l m = tt

pub if-four : {A E : Type 0} (r : Result A E) (R S T : Type 0) (P Q : A → Type 0) → (R → S → T → (x : A) → P x → Q x) → OnOk r R → OnOk r S → OnOk r T → IfOk r P → IfOk r Q
if-four (Ok x) R S T P Q leads k l m h = leads k l m x h
if-four (Err e) R S T P Q leads k l m h = tt

pub if-five : {A E : Type 0} (r : Result A E) (R S T U : Type 0) (P Q : A → Type 0) → (R → S → T → U → (x : A) → P x → Q x) → OnOk r R → OnOk r S → OnOk r T → OnOk r U → IfOk r P → IfOk r Q
if-five (Ok x) R S T U P Q leads k l m n h = leads k l m n x h
if-five (Err e) R S T U P Q leads k l m n h = tt

pub err-leads : {A E : Type 0} (r : Result A E) (P Q : Type 0) → (P → Q) → OnErr r P → OnErr r Q
err-leads (Ok x) P Q leads h = tt
err-leads (Err e) P Q leads h = leads h

pub err-all : {A E : Type 0} (r : Result A E) (P P' P'' Q : Type 0) → (P → P' → P'' → Q) → OnErr r P → OnErr r P' → OnErr r P'' → OnErr r Q
err-all (Ok x) P P' P'' Q leads h k l = tt
err-all (Err e) P P' P'' Q leads h k l = leads h k l

pub err-anyway : {A E : Type 0} (r : Result A E) (P : Type 0) → P → OnErr r P
err-anyway (Ok x) P h = tt
err-anyway (Err e) P h = h

-- ---- the state that a book stands for, by what the book has itself
abbrev own_state : CalcBook → CalcState → CalcState
own_state b s = record s { book = b.book.contents; changed = b.changed.keys }

rest-own : (b : CalcBook) (s : CalcState) → AtRest b s → AtRest b (own_state b s)
rest-own b s rest =
    subst (λ book. AtRest b (record s { book = book; changed = b.changed.keys })) (sym rest.holds.book)
    (rest-alike b s b.changed.keys (λ q. sym (rest.holds.changed q)) rest)

alike-own : (now : Setting) (b : CalcBook) (s : CalcState) (keys changed : List Cell) → b.book.contents ≡ s.book → AreAlike keys changed → IsAlikeNow now (record s { changed = changed })
    → IsAlikeBesideChanged s.setting now s.completed b.book.contents keys
alike-own now b s keys changed is same alike =
    subst (λ book. IsAlikeBesideChanged s.setting now s.completed book keys) (sym is)
    (alike-more s.setting now s.completed s.book changed keys (λ q h. same q ∙ h) alike)

round-of : (now : Setting) (round : ℕ) (b : CalcBook) (s : CalcState) → b.book.contents ≡ s.book → AreAlike b.changed.keys s.changed
    → InRound now round b (own_state b s) → InRound now round b s
round-of now round b s is alike running =
    subst (λ book. InRound now round b (record s { book = book })) is
    (round-alike now round b (own_state b s) s.changed alike running)

-- ---- which cells are changed at a begin
pub changed-dirty : (kind : BeginKind) → kind ≡ kinds.Dirty → (book : List (Cell × Content)) (changed : List Cell) → changed ≡ changed_at_begin kind book changed
changed-dirty kind is book changed = ap (λ k. changed_at_begin k book changed) (sym is)

changed-all : (kind : BeginKind) → (kind ≡ kinds.All) ⊎ (kind ≡ kinds.Rebuild) → (book : List (Cell × Content)) (changed : List Cell) → formula_cells book ++ changed ≡ changed_at_begin kind book changed
changed-all kind is book changed = ⊎_elim (λ e. ap (λ k. changed_at_begin k book changed) (sym e)) (λ e. ap (λ k. changed_at_begin k book changed) (sym e)) is

-- ---- all formula cells
or_turned : (a b : Bool) → (a || b) ≡ (b || a)
or_turned true true = refl
or_turned true false = refl
or_turned false true = refl
or_turned false false = refl

stale_as : (f r : Bool) → (f ≡ true → r ≡ true) → f ≡ (f && r)
stale_as true r leads = sym (leads refl)
stale_as false r leads = refl

module _ (earlier later : Setting) (book : List (Cell × Content)) (ordered : IsInOrder book) (entries : List Cell) (mid new : StoreState)
    (cells : (q : Cell) → is_among entries q ≡ is_formula book q)
    (present : (q : Cell) → present_at new q ≡ cond (is_among entries q) (Some None) (present_at mid q)) where
  at_entry : (q : Cell) → is_among entries q ≡ true → present_at new q ≡ Some None
  at_entry q e = present q ∙ ap (λ a. cond a (Some None) (present_at mid q)) e

  off_entry : (q : Cell) → is_among entries q ≡ false → present_at new q ≡ present_at mid q
  off_entry q e = present q ∙ ap (λ a. cond a (Some None) (present_at mid q)) e

  -- where no formula cell has a value, what is present has its meaning in any setting, as constants mean the same
  emptied-means : PresentMeans earlier book mid → PresentMeans later book new
  emptied-means means = record {
    content = λ q. elim (is_among entries q) as (λ a. is_among entries q ≡ a → is_some (present_at new q) ≡ is_some (content_at book q)) [
      | true ↦ λ e. ap is_some (at_entry q e) ∙ sym (formula-some (content_at book q) (sym (cells q) ∙ e))
      | false ↦ λ e. ap is_some (off_entry q e) ∙ means.content q
    ] refl;
    value = λ q v h. elim (is_among entries q) as (λ a. is_among entries q ≡ a → meaning later book q ≡ Val v) [
      | true ↦ λ e. let no : Some None ≡ Some (Some v) = sym (at_entry q e) ∙ h in cc
      | false ↦ λ e. constant-same book ordered earlier later q (sym (cells q) ∙ e) v (means.value q v (sym (off_entry q e) ∙ h))
    ] refl;
    formula = λ q h. elim (is_among entries q) as (λ a. is_among entries q ≡ a → is_formula book q ≡ true) [
      | true ↦ λ e. sym (cells q) ∙ e
      | false ↦ λ e. means.formula q (ap has_no_value (sym (off_entry q e)) ∙ h)
    ] refl;
  }

-- what table, marks and store have where they are in step with a book
pub record HasCaughtUp (book : List (Cell × Content)) (keys : List Cell) (table : List (Cell × List Area)) (marks : List Cell) (before now : StoreState) : Type 0 where
  pub shown : KeepsShown before now
  pub others : (q : Cell) → is_among keys q ≡ false → is_stale book keys q ≡ false → present_at now q ≡ present_at before q
  pub clean : ShowsWhereClean book keys before → ShowsWhereClean book keys now
  pub again : TableFollows book keys table
  pub follows : TableFollows book [] table
  pub marked : (q : Cell) → is_among marks q ≡ is_stale book keys q
  pub changed : FollowsChanged book keys now
  pub stale : (q : Cell) → is_stale book keys q ≡ true → present_at now q ≡ Some None
  pub touched : (q : Cell) → (is_among keys q ≡ true) ⊎ (is_stale book keys q ≡ true) → is_touched now q ≡ true

module _ (b : CalcBook) (s : CalcState) (rest : AtRest b s) where
  own : AtRest b (own_state b s)
  own = rest-own b s rest

  -- what is present is shown where no changed cell is reached
  pub own-clean : ShowsWhereClean b.book.contents b.changed.keys b.store
  own-clean = own.clean

  -- ---- a refusal
  pub still-rests : (keys : BTreeSet Cell) (table : List (Cell × List Area)) (marks : List Cell) (chain : CellOrder) (store : StoreState) (work : OpenWork)
      → keys.keys ≡ b.changed.keys → chain ≡ b.chain → KeepsCalls b.work work → TableFollows b.book.contents b.changed.keys table → KeepsShown b.store store
      → ShowsWhereClean b.book.contents b.changed.keys store
      → AtRest (record b { changed = keys; table = table; marks = marks; chain = chain; store = store; work = work }) s
  still-rests keys table marks chain store work same is calls follows shown clean = record {
    holds = record {
      session = calls.session ∙ rest.holds.session;
      book = rest.holds.book;
      functions = rest.holds.functions;
      ordered = rest.holds.ordered;
      completed = rest.holds.completed;
      changed = λ q. ap (λ ks. is_among ks q) same ∙ rest.holds.changed q;
      chain = λ q. ap (λ (c : CellOrder). is_among c.entries q) is ∙ rest.holds.chain q;
      shown = λ q. shown q ∙ rest.holds.shown q;
      closed = rest.holds.closed;
    };
    table = subst (λ book. TableFollows book s.changed table) rest.holds.book (table-alike b.book.contents b.changed.keys s.changed table rest.holds.changed follows);
    clean = subst (λ book. ShowsWhereClean book s.changed store) rest.holds.book (shows-alike b.book.contents b.changed.keys s.changed store rest.holds.changed clean);
    others = rest.others;
    calls = calls.calls ∙ rest.calls;
  }

  -- ---- table, marks and store are in step with the book
  module _ (table : List (Cell × List Area)) (marks : List Cell) (store : StoreState) (up : HasCaughtUp b.book.contents b.changed.keys table marks b.store store) where
    -- what is present has its meaning in a setting in which what is clean stays as it is
    module _ (setting : Setting) (alike : IsAlikeBesideChanged s.setting setting s.completed b.book.contents b.changed.keys) where
      means : PresentMeans setting b.book.contents store
      means = followed-means b.book.contents own.holds.ordered s.setting setting s.completed b.changed.keys b.store store
          own.holds.completed own.holds.closed own.holds.shown own.clean alike up.others up.changed up.stale

      left : (q : Cell) → is_unfinished store q ≡ true → (is_circular b.book.contents q || is_among marks q) ≡ true
      left q h = ap (λ m. is_circular b.book.contents q || m) (up.marked q)
          ∙ followed-left b.book.contents own.holds.ordered s.setting setting s.completed b.changed.keys b.store store
          own.holds.completed own.holds.closed own.holds.shown own.clean alike up.others up.changed up.stale q h

    -- in the setting that was, nothing beside what is changed is otherwise
    own-means : PresentMeans s.setting b.book.contents store
    own-means = means s.setting (alike-itself s.setting s.completed b.book.contents b.changed.keys own.others)

    marked-formula : (q : Cell) → is_among marks q ≡ true → is_formula b.book.contents q ≡ true
    marked-formula q h = own-means.formula q (ap has_no_value (up.stale q (sym (up.marked q) ∙ h)))

    -- the stale cells stand in the chain
    marked-entries : (q : Cell) → is_among marks q ≡ true → is_among b.chain.entries q ≡ true
    marked-entries q h = own.holds.chain q ∙ marked-formula q h

    -- what a begin of all formula cells needs
    pub entries-readers : (q : Cell) → is_reader table q ≡ is_among b.chain.entries q
    entries-readers q = table-readers b.book.contents table up.follows q ∙ sym (own.holds.chain q)

    pub entries-present : (q : Cell) → is_among b.chain.entries q ≡ true → is_some (present_at store q) ≡ true
    entries-present q h = own-means.content q ∙ formula-some (content_at b.book.contents q) (sym (own.holds.chain q) ∙ h)

    pub refused-rests : (keys : BTreeSet Cell) (after : List Cell) (chain : CellOrder) (last : StoreState) (work : OpenWork)
        → keys.keys ≡ b.changed.keys → chain ≡ b.chain → KeepsCalls b.work work → KeepsPresent store last → KeepsShown store last
        → AtRest (record b { changed = keys; table = table; marks = after; chain = chain; store = last; work = work }) s
    refused-rests keys after chain last work same is calls present shown =
        still-rests keys table after chain last work same is calls up.again (λ q. shown q ∙ up.shown q)
        (λ q. ⊎_elim (λ alike. inl (present q ∙ alike ∙ sym (shown q))) (λ r. inr r) (up.clean own.clean q))

    -- what is stale has no value yet
    marked-empty : (q : Cell) → is_among marks q ≡ true → present_at store q ≡ Some None
    marked-empty q h = up.stale q (sym (up.marked q) ∙ h)

    -- ---- the stale cells are due
    module _ (kind : BeginKind) (is : kind ≡ kinds.Dirty) (chain : CellOrder) (work : OpenWork)
        (due : AreDue table marks work.waiting.items) (room : HasRoom work) (idle : IsIdle b.chain chain) (calls : KeepsCalls b.work work) where
      abbrev begun_dirty : CalcBook
      begun_dirty = record b { table = table; marks = marks; chain = chain; store = store; work = work }

      dirty-alike : AreAlike b.changed.keys (changed_at_begin kind s.book s.changed)
      dirty-alike q = rest.holds.changed q ∙ ap (λ ks. is_among ks q) (changed-dirty kind is s.book s.changed)

      pub dirty-begun : (now : Setting) (round : ℕ) → IsAlikeNow now (calc_begin s kind) → InRound now round begun_dirty (calc_begin s kind)
      dirty-begun now round alike =
          let same = alike-own now b s b.changed.keys (changed_at_begin kind s.book s.changed) rest.holds.book dirty-alike alike in
          round-of now round begun_dirty (calc_begin s kind) rest.holds.book dirty-alike
          (record {
            holds = record {
              session = calls.session ∙ rest.holds.session;
              book = refl;
              functions = own.holds.functions;
              ordered = own.holds.ordered;
              completed = own.holds.completed;
              changed = λ q. refl;
              chain = λ q. ap (λ cells. is_among cells q) idle.entries ∙ own.holds.chain q;
              shown = λ q. up.shown q ∙ own.holds.shown q;
              closed = own.holds.closed;
            };
            table = up.follows;
            marked = up.marked;
            working = marked-working now round b.book.contents store table marks chain.entries work.waiting.items work.calls.calls own.holds.ordered up.follows
                (means now same) idle.once due (calls.calls ∙ rest.calls)
                (λ q h. ap (λ cells. is_among cells q) idle.entries ∙ marked-entries q h)
                (λ q h. ap has_no_value (marked-empty q h))
                (λ q h. up.touched q (inr (sym (up.marked q) ∙ h)))
                (left now same);
            idle = idle.due;
            room = room;
            clean = up.clean own.clean;
            alike = same;
          })

      pub dirty-reads : (now : Setting) (source : SourceState) → IsAlikeNow now (calc_begin s kind) → NotesCleanReaders source (calc_begin s kind) → ReadsInRound now source begun_dirty
      dirty-reads now source alike = begun-reads now zero source begun_dirty (calc_begin s kind) (dirty-begun now zero alike) marked-empty

      pub dirty-forgotten : (both : List Cell) → AreBoth marks b.changed.keys both → (q : Cell) → is_among both q ≡ is_forgotten (calc_begin s kind) q
      dirty-forgotten both are = forgotten-cells b.book.contents s.book b.changed.keys (changed_at_begin kind s.book s.changed) marks both rest.holds.book dirty-alike up.marked are

    -- ---- all formula cells are due
    module _ (keys : BTreeSet Cell) (after : List Cell) (chain : CellOrder) (last : StoreState) (work : OpenWork)
        (all : AreAllChanged b.chain.entries b.changed.keys keys.keys after store last) (shown : KeepsShown store last)
        (due : AreDue table after work.waiting.items) (room : HasRoom work) (idle : IsIdle b.chain chain) (calls : KeepsCalls b.work work)
        (kind : BeginKind) (is : (kind ≡ kinds.All) ⊎ (kind ≡ kinds.Rebuild)) where
      abbrev begun_all : CalcBook
      begun_all = record b { changed = keys; table = table; marks = after; chain = chain; store = last; work = work }

      all-stale : (q : Cell) → is_among after q ≡ is_stale b.book.contents keys.keys q
      all-stale q =
          all.marked q ∙ own.holds.chain q
          ∙ stale_as (is_formula b.book.contents q) (reaches b.book.contents keys.keys (formula_count b.book.contents) q)
          (λ formula. reaches-among b.book.contents own.holds.ordered keys.keys (formula_count b.book.contents) q
          (all.changed q ∙ or_right (is_among b.changed.keys q) _ (own.holds.chain q ∙ formula)))

      all-alike : AreAlike keys.keys (changed_at_begin kind s.book s.changed)
      all-alike q =
          all.changed q
          ∙ ap (λ m. m || is_among b.chain.entries q) (rest.holds.changed q)
          ∙ ap (λ m. is_among s.changed q || m) (rest.holds.chain q)
          ∙ or_turned (is_among s.changed q) (is_formula s.book q)
          ∙ ap (λ m. m || is_among s.changed q) (sym (formula_cells-has s.book rest.holds.ordered q))
          ∙ sym (list_any-append _ (formula_cells s.book) s.changed)
          ∙ ap (λ ks. is_among ks q) (changed-all kind is s.book s.changed)

      all-within : AreWithin b.changed.keys keys.keys
      all-within q h = all.changed q ∙ or_left _ (is_among b.chain.entries q) h

      all-empty : (q : Cell) → is_among after q ≡ true → present_at last q ≡ Some None
      all-empty q h = all.present q ∙ ap (λ a. cond a (Some None) (present_at store q)) (sym (all.marked q) ∙ h)

      all-clean : ShowsWhereClean b.book.contents keys.keys last
      all-clean q = elim (is_among b.chain.entries q) as (λ a. is_among b.chain.entries q ≡ a → (present_at last q ≡ shown_at last q) ⊎ Reaches (cell_precedents b.book.contents) keys.keys q) [
        | true ↦ λ e. inr (zero, all.changed q ∙ or_right (is_among b.changed.keys q) _ e)
        | false ↦ λ e. ⊎_elim
            (λ same. inl (all.present q ∙ ap (λ a. cond a (Some None) (present_at store q)) e ∙ same ∙ sym (shown q)))
            (λ r. inr (r.0, reaches-more (cell_precedents b.book.contents) b.changed.keys keys.keys all-within r.0 q r.1))
            (up.clean own.clean q)
      ] refl

      pub all-begun : (now : Setting) (round : ℕ) → IsAlikeNow now (calc_begin s kind) → InRound now round begun_all (calc_begin s kind)
      all-begun now round alike =
          let same = alike-own now b s keys.keys (changed_at_begin kind s.book s.changed) rest.holds.book all-alike alike in
          let there = emptied-means s.setting now b.book.contents own.holds.ordered b.chain.entries store last own.holds.chain all.present own-means in
          round-of now round begun_all (calc_begin s kind) rest.holds.book all-alike
          (record {
            holds = record {
              session = calls.session ∙ rest.holds.session;
              book = refl;
              functions = own.holds.functions;
              ordered = own.holds.ordered;
              completed = own.holds.completed;
              changed = λ q. refl;
              chain = λ q. ap (λ cells. is_among cells q) idle.entries ∙ own.holds.chain q;
              shown = λ q. shown q ∙ up.shown q ∙ own.holds.shown q;
              closed = own.holds.closed;
            };
            table = up.follows;
            marked = all-stale;
            working = marked-working now round b.book.contents last table after chain.entries work.waiting.items work.calls.calls own.holds.ordered up.follows there
                idle.once due (calls.calls ∙ rest.calls)
                (λ q h. ap (λ cells. is_among cells q) idle.entries ∙ sym (all.marked q) ∙ h)
                (λ q h. ap has_no_value (all-empty q h))
                (λ q h. all.touched q (sym (all.marked q) ∙ h))
                (λ q h. or_right (is_circular b.book.contents q) _ (all.marked q ∙ own.holds.chain q ∙ there.formula q h));
            idle = idle.due;
            room = room;
            clean = all-clean;
            alike = same;
          })

      pub all-reads : (now : Setting) (source : SourceState) → IsAlikeNow now (calc_begin s kind) → NotesCleanReaders source (calc_begin s kind) → ReadsInRound now source begun_all
      all-reads now source alike = begun-reads now zero source begun_all (calc_begin s kind) (all-begun now zero alike) all-empty

      pub all-forgotten : (both : List Cell) → AreBoth after keys.keys both → (q : Cell) → is_among both q ≡ is_forgotten (calc_begin s kind) q
      all-forgotten both are = forgotten-cells b.book.contents s.book keys.keys (changed_at_begin kind s.book s.changed) after both rest.holds.book all-alike all-stale are

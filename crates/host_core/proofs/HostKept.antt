-- What is kept of a host's state is kept of the state after each command.
use Rattle.std.proofs.Common.{◌≡◌, inl, inr, ℤ, pos, negsuc, ℕ, ◌+◌, ◌-◌, ◌<◌, ◌≤◌, ◌==◌, arith, Bool, true, false, not, ◌&&◌, ◌||◌, cond, List, [], ◌∷◌, ◌++◌, map, length, nat_eq, Option, Some, None, refl, ap, sym, subst, ◌∙◌, rules}
use Rattle.std.specs.List.{filter, list_any}
use Rattle.std.specs.Map.{lookup}
use Rattle.std.specs.Option.{is_some, option_map_or}
use Rattle.std.specs.Str.{bytes_eq}
use Rattle.std.proofs.lemmas.Bool.{leb-true}
use Rattle.std.proofs.lemmas.List.Folds.{list_any-append}
use Rattle.calc_events.specs.Listening.{Listening}
use Rattle.calc_events.specs.Listening as heard
use Rattle.cell_refs.specs.declared.grid.Cell.{Cell}
use Rattle.cell_refs.specs.declared.handles.Handle.{Handle}
use Rattle.cell_refs.specs.Cell.{is_among, same_cell}
use Rattle.cell_refs.proofs.PublicLaws.{same_cell_is}
use Rattle.cell_values.specs.declared.events.Event.{Event}
use Rattle.cell_values.specs.declared.events.Event.TheVariants as events_of
use Rattle.cell_values.specs.declared.topics.Topic.{Topic}
use Rattle.cell_values.specs.declared.values.Value.{Value}
use Rattle.cell_values.specs.SameValue.{same_value}
use Rattle.cell_values.specs.Topic.{same_topic}
use Rattle.cell_values.proofs.PublicLaws.{same_topics}
use Rattle.clean_cells.specs.Keeping.{KeepsClean, opening_topics}
use Rattle.clean_cells.proofs.PublicLaws.{alike_kept, fresh_unchanged, listed-passing}
use Rattle.command_log.specs.Log.{LogParts, results_of}
use Rattle.topic_source.specs.Source.{KeepsValues, SourceState}
use Rattle.workbook.specs.declared.commands.BeginKind.{BeginKind}
use Rattle.workbook.specs.declared.commands.BeginKind.TheVariants as kinds
use Rattle.workbook.specs.declared.commands.Moment.{Moment}
use Rattle.workbook.specs.declared.commands.Moment.TheVariants as moments
use Rattle.workbook.specs.declared.contents.Content.{Content}
use Rattle.workbook.specs.Agreement.{IsAlikeBesideChanged}
use Rattle.workbook.specs.Book.{BookState, content_at, formula_cells, has_formula, is_formula}
use Rattle.workbook.specs.InForm.{IsIntervalInForm, IsMomentInForm}
use Rattle.workbook.specs.Meaning.{Setting}
use Rattle.workbook.specs.Pulling.{after_pull, changed_topics, pulled_servers, pulled_throttle, pulled_value, readers_of_topics}
use Rattle.workbook.specs.Reads.{cell_reads, is_listed, topics_of_cell}
use Rattle.workbook.specs.Registry.{registration_of}
use Rattle.workbook.specs.Stale.{is_stale}
use Rattle.workbook.specs.State.{ThrottleState, AcceptedValue, HostTerms, KnownServer, Listener, State, accepted_value_at, completed_setting, first_state, setting_of, value_among, snapshot_topics}
use Rattle.workbook.specs.Step.{servers_with_flag, after_begin, after_cancel, after_done, after_return, changed_at_begin, failed_topics, listeners_with, readers_of_failed, topics_with, values_of_clean}
use Rattle.workbook.proofs.PublicLaws.{formula_cells-has, or_false}
use Rattle.calc_book.specs.CalcState.{CalcState, calc_begin, calc_note, calc_settle, first_calc}
use Rattle.calc_book.specs.declared.calc_books.CalcBook.{CalcBook}
use Rattle.calc_book.specs.Keeping.{AtRest, Holds, InRound, IsAlikeNow, IsSettled, NotesCleanReaders, NotesReaders, ReadsInRound, is_forgotten, setting_over}
use Rattle.calc_round.specs.Accepting.{DifferAtCell, ForgetsReader}
use Rattle.host_core.specs.HostKeeping.{AreOfFormulas, HasAccepted, Keeps, Recalculates, StandsFor, calc_of, is_known, listeners_as}
use Rattle.rtd_topics.specs.RtdState.{IsMoment, IsRtdState, RtdState, SameOpening, SameTopics, TakesRead, is_changed, reads_one, rtd_snapshot, source_of, standing_of, topics_changed, with_value_pulled}
use Rattle.host_core.proofs.HostListeners.{listeners_fired}
use Rattle.host_core.proofs.RtdStands.{opening_same, pulled_alike, rtd-done, rtd-pulled, runs_round, served_is, snapshot_is}
use Rattle.host_core.proofs.TopicLists.{both_ways, counted_alike, first_of_two, listed_alike, second_of_two}
use Rattle.host_core.proofs.TopicRounds.{listed_stale, noted-begun, stale_alike}
use Rattle.host_core.proofs.TopicSteps.{among_readers, found_listed, lookup-topics_with, names_with_flag, reader_among, readers_among, some_listed}
use mir.Syntax.{w64}
use mir.Val.{SFits}

-- ---- changed cells
-- one more cell, or several
among_one : (cells others : List Cell) (cell : Cell) → ((q : Cell) → is_among cells q ≡ is_among others q) → (q : Cell) → is_among (cell ∷ cells) q ≡ is_among (cell ∷ others) q
among_one cells others cell same q = ap (λ b. same_cell q cell || b) (same q)

among_more : (more less cells others : List Cell) → ((q : Cell) → is_among more q ≡ is_among less q) → ((q : Cell) → is_among cells q ≡ is_among others q) → (q : Cell) → is_among (more ++ cells) q ≡ is_among (less ++ others) q
among_more more less cells others same alike q =
    list_any-append (same_cell q) more cells ∙ ap (λ b. b || is_among cells q) (same q) ∙ ap (λ b. is_among less q || b) (alike q) ∙ sym (list_any-append (same_cell q) less others)

unchanged_before : (more cells : List Cell) (q : Cell) → is_among (more ++ cells) q ≡ false → is_among cells q ≡ false
unchanged_before more cells q h = (or_false (is_among more q) (is_among cells q) (sym (list_any-append (same_cell q) more cells) ∙ h)).1

-- those that a begin changes
begun_alike : (kind : BeginKind) (book : List (Cell × Content)) (cells others : List Cell) → ((q : Cell) → is_among cells q ≡ is_among others q) → (q : Cell) → is_among (changed_at_begin kind book cells) q ≡ is_among (changed_at_begin kind book others) q
begun_alike kinds.Dirty book cells others same q = same q
begun_alike kinds.All book cells others same q = among_more (formula_cells book) (formula_cells book) cells others (λ c. refl) same q
begun_alike kinds.Rebuild book cells others same q = among_more (formula_cells book) (formula_cells book) cells others (λ c. refl) same q

unchanged_at_begin : (kind : BeginKind) (book : List (Cell × Content)) (cells : List Cell) (q : Cell) → is_among (changed_at_begin kind book cells) q ≡ false → is_among cells q ≡ false
unchanged_at_begin kinds.Dirty book cells q h = h
unchanged_at_begin kinds.All book cells q h = unchanged_before (formula_cells book) cells q h
unchanged_at_begin kinds.Rebuild book cells q h = unchanged_before (formula_cells book) cells q h

-- ---- readers that were noted, with another source that gives the same
pub reads_between : (now : Setting) (calc : CalcBook) (source other : SourceState)
    → ((topic : Topic) → other.is_served topic ≡ source.is_served topic)
    → ((topic : Topic) (cell : Cell) → other.has_read topic cell ≡ source.has_read topic cell)
    → ReadsInRound now source calc → ReadsInRound now other calc
reads_between now calc source other same_served same_read h = record {
  sound = λ topic cell noted. h.sound topic cell (sym (same_read topic cell) ∙ noted);
  served = λ topic cell noted. same_served topic ∙ h.served topic cell (sym (same_read topic cell) ∙ noted);
  complete = λ topic cell v found reads served. same_read topic cell ∙ h.complete topic cell v found reads (sym (same_served topic) ∙ served);
}

-- what is alike beside changed cells is so beside those of another list
pub alike_noted : (earlier later : Setting) (before now : List (Cell × Content)) (changed others : List Cell) → ((q : Cell) → is_among others q ≡ is_among changed q)
    → IsAlikeBesideChanged earlier later before now changed → IsAlikeBesideChanged earlier later before now others
alike_noted earlier later before now changed others same alike = record {
  contents = λ q unchanged. alike.contents q (sym (same q) ∙ unchanged);
  answer = alike.answer;
  formulas = λ q tree is fresh. alike.formulas q tree is (sym (stale_alike now others changed same q) ∙ fresh);
}

-- ---- accepted values
either_way : (b : Bool) (o : Option Value) → o ≡ cond b o o
either_way true o = refl
either_way false o = refl

-- those of the cells that pass
values_kept : (p : AcceptedValue → Bool) (q : Cell → Bool) → ((a : AcceptedValue) → p a ≡ q a.cell) → (values : List AcceptedValue) (cell : Cell) (site : ℕ)
    → accepted_value_at (filter p values) cell site ≡ cond (q cell) (accepted_value_at values cell site) None
values_kept p q by_cell [] cell site = either_way (q cell) None
values_kept p q by_cell (a ∷ values) cell site = elim (p a) as (λ b. p a ≡ b
    → accepted_value_at (cond b (a ∷ filter p values) (filter p values)) cell site ≡ cond (q cell) (cond (same_cell a.cell cell && a.site == site) (Some a.value) (accepted_value_at values cell site)) None) [
      | true ↦ λ e. elim (same_cell a.cell cell) as (λ c. same_cell a.cell cell ≡ c
          → cond (c && a.site == site) (Some a.value) (accepted_value_at (filter p values) cell site) ≡ cond (q cell) (cond (c && a.site == site) (Some a.value) (accepted_value_at values cell site)) None) [
            | true ↦ λ same.
                let passes : q cell ≡ true = ap q (sym (same_cell_is a.cell cell same)) ∙ sym (by_cell a) ∙ e in
                ap (λ o. cond (a.site == site) (Some a.value) o) (values_kept p q by_cell values cell site ∙ ap (λ b. cond b (accepted_value_at values cell site) None) passes)
                ∙ sym (ap (λ b. cond b (cond (a.site == site) (Some a.value) (accepted_value_at values cell site)) None) passes)
            | false ↦ λ other. values_kept p q by_cell values cell site
          ] refl
      | false ↦ λ e. values_kept p q by_cell values cell site ∙ elim (same_cell a.cell cell) as (λ c. same_cell a.cell cell ≡ c
          → cond (q cell) (accepted_value_at values cell site) None ≡ cond (q cell) (cond (c && a.site == site) (Some a.value) (accepted_value_at values cell site)) None) [
            | true ↦ λ same.
                let passes : q cell ≡ false = ap q (sym (same_cell_is a.cell cell same)) ∙ sym (by_cell a) ∙ e in
                ap (λ b. cond b (accepted_value_at values cell site) None) passes
                ∙ sym (ap (λ b. cond b (cond (a.site == site) (Some a.value) (accepted_value_at values cell site)) None) passes)
            | false ↦ λ other. refl
          ] refl
    ] refl

module _ (t : HostTerms) (calc : CalcBook) (r : RtdState) (events : Listening) (log : LogParts) (round : ℕ) (s : State) (noted : List Cell) where
  -- ---- at rest
  module _ (k : Keeps t calc r events log round false s noted) where
    -- none runs
    pub none_runs : s.running ≡ None
    none_runs = by_some s.running k.runs
      where
        by_some : {X : Type 0} (o : Option X) → is_some o ≡ false → o ≡ None
        by_some None h = refl
        by_some (Some x) h = absurd (cc (h))

    -- another book that stands for the same state
    pub kept-book : (after : CalcBook) → AtRest after (calc_of t s noted) → Keeps t after r events log round false s noted
    kept-book after rest = record {
      clean = k.clean;
      runs = k.runs;
      numbered = k.numbered;
      changed = k.changed;
      book = rest;
      rtd = k.rtd;
      reads = λ runs. absurd (cc (runs));
      number = k.number;
      accepted = k.accepted;
      formulas = k.formulas;
      listeners = k.listeners;
    }

    -- a later state in which more cells are changed
    pub kept-rest : (after : CalcBook) (rtd : RtdState) (later : State) (more cells : List Cell) → KeepsClean t later → later.running ≡ s.running → later.round ≡ s.round
        → later.changed ≡ more ++ s.changed → ((q : Cell) → is_among cells q ≡ is_among more q) → later.accepted ≡ s.accepted → later.completed ≡ s.completed → later.listeners ≡ s.listeners
        → AtRest after (calc_of t later (cells ++ noted)) → StandsFor t (standing_of rtd) later false → rtd.round ≡ r.round
        → Keeps t after rtd events log round false later (cells ++ noted)
    kept-rest after rtd later more cells clean running number changed told accepted completed listeners rest stands rounds = record {
      clean = clean;
      runs = ap is_some running ∙ k.runs;
      numbered = number ∙ k.numbered;
      changed = λ q. among_more cells more noted s.changed told k.changed q ∙ ap (λ all. is_among all q) (sym changed);
      book = rest;
      rtd = stands;
      reads = λ runs. absurd (cc (runs));
      number = rounds ∙ k.number;
      accepted = λ cell site. ap (λ values. accepted_value_at values cell site) accepted ∙ k.accepted cell site;
      formulas = λ cell site none unchanged.
          ap (λ values. accepted_value_at values cell site) accepted
          ∙ k.formulas cell site (ap (λ c. is_formula c.book.contents cell) (sym completed) ∙ none)
          (unchanged_before more s.changed cell (ap (λ all. is_among all cell) (sym changed) ∙ unchanged));
      listeners = listeners ∙ k.listeners;
    }

    -- an edit
    pub kept-edited : (after : CalcBook) (book : BookState) (more : List Cell) → let later : State = record s { book = book; changed = more ++ s.changed } in
        KeepsClean t later → AtRest after (calc_of t later (more ++ noted)) → Keeps t after r events log round false later (more ++ noted)
    kept-edited after book more clean rest =
        kept-rest after r (record s { book = book; changed = more ++ s.changed }) more more clean refl refl refl (λ q. refl) refl refl refl rest
        (record {
          servers = k.rtd.servers;
          published = k.rtd.published;
          taken = k.rtd.taken;
          throttle = k.rtd.throttle;
          opening = k.rtd.opening;
          readers = k.rtd.readers;
        }) refl

    -- servers, what is published, and the throttle change, and more cells are
    pub kept-paced : (after : CalcBook) (rtd : RtdState) (servers : List KnownServer) (throttle : ThrottleState) (more : List Cell)
        → let later : State = record s { servers = servers; throttle = throttle; changed = more ++ s.changed } in
        KeepsClean t later → AtRest after (calc_of t later (more ++ noted)) → rtd.servers ≡ servers → ((topic : Topic) → rtd.published topic ≡ r.published topic) → rtd.throttle ≡ throttle → SameTopics r rtd
        → Keeps t after rtd events log round false later (more ++ noted)
    kept-paced after rtd servers throttle more clean rest same_servers same_published same_throttle same =
        kept-rest after rtd (record s { servers = servers; throttle = throttle; changed = more ++ s.changed }) more more clean refl refl refl (λ q. refl) refl refl refl rest
        (record {
          servers = same_servers;
          published = λ topic. same_published topic ∙ k.rtd.published topic;
          taken = λ topic. ap (lookup (same_topic topic)) same.taken ∙ k.rtd.taken topic;
          throttle = same_throttle;
          opening = opening_same r.opening rtd.opening false (opening_topics s) same.opening k.rtd.opening;
          readers = λ topic cell. same.read.readers topic cell ∙ k.rtd.readers topic cell;
        }) same.round

    -- ---- a pull
    -- the topics that it changes
    abbrev news : List Topic
    news = changed_topics s.servers [] s.published s.taken

    abbrev pulled : Topic × Value → Value
    pulled = pulled_value s.servers [] s.published

    abbrev was : Setting
    was = completed_setting t s

    abbrev before : List (Cell × Content)
    before = s.completed.book.contents

    listed_changed : IsRtdState r → (topic : Topic) → is_listed (topics_changed r) topic ≡ is_listed news topic
    listed_changed facts topic =
        listed_alike (is_changed r) (λ entry. not (same_value entry.1 (pulled entry))) (λ entry. ap (λ v. not (same_value entry.1 v)) (pulled_alike t r s false k.rtd entry))
        r.taken s.taken facts.taken_once k.clean.once k.rtd.taken topic

    -- as many are told as it changes
    pub counted_changed : IsRtdState r → length (topics_changed r) ≡ length (changed_topics s.servers [] s.published s.taken)
    counted_changed facts =
        counted_alike (is_changed r) (λ entry. not (same_value entry.1 (pulled entry))) (λ entry. ap (λ v. not (same_value entry.1 v)) (pulled_alike t r s false k.rtd entry))
        r.taken s.taken facts.taken_once k.clean.once k.rtd.taken

    -- a topic that it changes is connected
    changed_connected : (topic : Topic) → is_listed news topic ≡ true → is_some (lookup (same_topic topic) s.taken) ≡ true
    changed_connected topic listed = by_found (lookup (same_topic topic) s.taken) (sym (listed-passing (λ entry. not (same_value entry.1 (pulled entry))) s.taken k.clean.once topic) ∙ listed)
      where
        by_found : (o : Option Value) → option_map_or (λ v. not (same_value v (pulled (topic, v)))) o false ≡ true → is_some o ≡ true
        by_found None h = h
        by_found (Some v) h = refl

    -- the readers that are told are those that it changes
    pub readers_told : IsRtdState r → (cell : Cell) → reads_one r (topics_changed r) cell ≡ is_among (readers_of_topics t s (changed_topics s.servers [] s.published s.taken)) cell
    readers_told facts cell = both_ways (reads_one r (topics_changed r) cell) (is_among (readers_among was before news) cell) there back
      where
        there : reads_one r (topics_changed r) cell ≡ true → is_among (readers_among was before news) cell ≡ true
        there h =
            let found = found_listed (λ topic. r.readers topic cell) (topics_changed r) h in
            reader_among was before k.clean.completed_ordered news cell found.0
            (second_of_two (is_some (lookup (same_topic found.0) s.taken)) (cell_reads was before cell found.0) (sym (k.rtd.readers found.0 cell) ∙ found.2))
            (sym (listed_changed facts found.0) ∙ found.1)

        back : is_among (readers_among was before news) cell ≡ true → reads_one r (topics_changed r) cell ≡ true
        back h =
            let found = among_readers was before k.clean.completed_ordered news cell h in
            some_listed (λ topic. r.readers topic cell) (topics_changed r) found.0 (listed_changed facts found.0 ∙ found.2)
            (k.rtd.readers found.0 cell
            ∙ ap (λ b. b && cell_reads was before cell found.0) (changed_connected found.0 found.2)
            ∙ found.1)

    pub kept-pulled : (after : CalcBook) (rtd : RtdState) (moment : Moment) (cells : List Cell) → KeepsClean t (after_pull t [] s moment)
        → ((cell : Cell) → is_among cells cell ≡ is_among (readers_of_topics t s (changed_topics s.servers [] s.published s.taken)) cell) → AtRest after (calc_note (calc_of t s noted) cells)
        → rtd.servers ≡ pulled_servers r.servers [] → ((topic : Topic) → rtd.published topic ≡ r.published topic) → rtd.throttle ≡ pulled_throttle s.throttle moment
        → rtd.taken ≡ with_value_pulled r r.taken → rtd.opening ≡ None → ((topic : Topic) (cell : Cell) → rtd.readers topic cell ≡ r.readers topic cell) → rtd.round ≡ r.round
        → Keeps t after rtd events log round false (after_pull t [] s moment) (cells ++ noted)
    kept-pulled after rtd moment cells clean told rest servers published throttle taken none read same_round =
        kept-rest after rtd (after_pull t [] s moment) (readers_of_topics t s (changed_topics s.servers [] s.published s.taken)) cells clean refl refl refl told refl refl refl rest
        (rtd-pulled t r s rtd moment servers published throttle taken none read k.rtd) same_round

    -- ---- a begin
    -- all is alike beside what it changes
    pub alike_begun : (kind : BeginKind) → KeepsClean t (after_begin s kind) → IsAlikeNow (setting_of t (after_begin s kind)) (calc_begin (calc_of t s noted) kind)
    alike_begun kind clean =
        alike_noted (completed_setting t s) (setting_of t (after_begin s kind)) s.completed.book.contents s.book.contents (changed_at_begin kind s.book.contents s.changed) (changed_at_begin kind s.book.contents noted)
        (begun_alike kind s.book.contents noted s.changed k.changed) (alike_kept t (after_begin s kind) clean)

    pub kept-begun : (kind : BeginKind) (after : CalcBook) (rtd : RtdState) (cells : List Cell) (logged : LogParts) → KeepsClean t (after_begin s kind)
        → InRound (setting_of t (after_begin s kind)) (round + 1) after (calc_begin (calc_of t s noted) kind)
        → ((source : SourceState) → NotesCleanReaders source (calc_begin (calc_of t s noted) kind) → ReadsInRound (setting_of t (after_begin s kind)) source after)
        → ((cell : Cell) → is_among cells cell ≡ is_forgotten (calc_begin (calc_of t s noted) kind) cell)
        → rtd.servers ≡ r.servers → ((topic : Topic) → rtd.published topic ≡ r.published topic) → rtd.throttle ≡ r.throttle → rtd.taken ≡ r.taken
        → SameOpening (Some r.published) rtd.opening → ((topic : Topic) (cell : Cell) → rtd.readers topic cell ≡ r.readers topic cell)
        → ((topic : Topic) (cell : Cell) → rtd.reading topic cell ≡ (r.readers topic cell && not (is_among cells cell))) → rtd.round ≡ round + 1
        → ((cell : Cell) → results_of logged cell ≡ cond (is_among cells cell) [] (results_of log cell))
        → Keeps t after rtd events logged (round + 1) true (after_begin s kind) (changed_at_begin kind s.book.contents noted)
    kept-begun kind after rtd cells logged clean runs reads forgotten servers published throttle taken opened readers reading number results = record {
      clean = clean;
      runs = refl;
      numbered = ap (λ n. n + 1) k.numbered;
      changed = begun_alike kind s.book.contents noted s.changed k.changed;
      book = runs;
      rtd = stands;
      reads = λ _. reads (source_of rtd) (λ topic cell.
          let stays = not (is_forgotten (calc_begin (calc_of t s noted) kind) cell) in
          reading topic cell
          ∙ ap (λ b. r.readers topic cell && not b) (forgotten cell)
          ∙ ap (λ b. b && stays) (k.rtd.readers topic cell)
          ∙ noted-begun t s k.clean topic cell stays (kept_unchanged cell)
          ∙ ap (λ b. (b && cell_reads was before cell topic) && stays) (sym (served_is t rtd (after_begin s kind) stands topic))
          ∙ ap (λ b. b && stays) (turned (is_some rtd.opening && is_known rtd.servers topic.server) (cell_reads was before cell topic)));
      number = number;
      accepted = λ cell site. values_begun cell site ∙ by_formula cell site ∙ sym (ap (lookup (nat_eq site)) (results cell ∙ ap (λ b. cond b [] (results_of log cell)) (forgotten cell)));
      formulas = λ cell site none.
          values_begun cell site ∙ ap (λ b. cond (b && not (is_stale s.book.contents now_changed cell)) (accepted_value_at s.accepted cell site) None) (formula_cells-has s.book.contents k.clean.ordered cell ∙ none);
      listeners = k.listeners;
    }
      where
        now_changed : List Cell
        now_changed = changed_at_begin kind s.book.contents s.changed

        stands : StandsFor t (standing_of rtd) (after_begin s kind) true
        stands = record {
          servers = servers ∙ k.rtd.servers;
          published = λ topic. published topic ∙ k.rtd.published topic;
          taken = λ topic. ap (lookup (same_topic topic)) taken ∙ k.rtd.taken topic;
          throttle = throttle ∙ k.rtd.throttle;
          opening = opening_same (Some r.published) rtd.opening true s.published opened (r.published, refl, k.rtd.published);
          readers = λ topic cell. readers topic cell ∙ k.rtd.readers topic cell;
        }

        turned : (a b : Bool) → (a && b) ≡ (b && a)
        turned true true = refl
        turned true false = refl
        turned false true = refl
        turned false false = refl

        neither : (a b : Bool) → not (a || b) ≡ true → b ≡ false
        neither true b h = cc
        neither false true h = cc
        neither false false h = refl

        kept_unchanged : (cell : Cell) → not (is_forgotten (calc_begin (calc_of t s noted) kind) cell) ≡ true → is_among s.changed cell ≡ false
        kept_unchanged cell stays =
            sym (k.changed cell)
            ∙ unchanged_at_begin kind s.book.contents noted cell (neither _ (is_among (changed_at_begin kind s.book.contents noted) cell) stays)

        -- the accepted values of the formula cells that aren't stale
        values_begun : (cell : Cell) (site : ℕ) → accepted_value_at (values_of_clean s.book.contents now_changed s.accepted) cell site
            ≡ cond (is_among (formula_cells s.book.contents) cell && not (is_stale s.book.contents now_changed cell)) (accepted_value_at s.accepted cell site) None
        values_begun cell site =
            values_kept (λ (a : AcceptedValue). is_among (formula_cells s.book.contents) a.cell && not (is_stale s.book.contents now_changed a.cell))
            (λ q. is_among (formula_cells s.book.contents) q && not (is_stale s.book.contents now_changed q)) (λ a. refl) s.accepted cell site

        -- a formula cell that isn't stale isn't changed
        stays_clean : (cell : Cell) → is_formula s.book.contents cell ≡ true → is_stale s.book.contents now_changed cell ≡ false → is_among now_changed cell ≡ false
        stays_clean cell formula fresh = fresh_unchanged s.book.contents now_changed cell formula fresh

        forgotten_now : (cell : Cell) → is_forgotten (calc_begin (calc_of t s noted) kind) cell ≡ (is_stale s.book.contents now_changed cell || is_among now_changed cell)
        forgotten_now cell =
            let same = begun_alike kind s.book.contents noted s.changed k.changed in
            ap (λ b. b || is_among (changed_at_begin kind s.book.contents noted) cell) (stale_alike s.book.contents (changed_at_begin kind s.book.contents noted) now_changed same cell)
            ∙ ap (λ b. is_stale s.book.contents now_changed cell || b) (same cell)

        by_formula : (cell : Cell) (site : ℕ)
            → cond (is_among (formula_cells s.book.contents) cell && not (is_stale s.book.contents now_changed cell)) (accepted_value_at s.accepted cell site) None
            ≡ lookup (nat_eq site) (cond (is_forgotten (calc_begin (calc_of t s noted) kind) cell) [] (results_of log cell))
        by_formula cell site =
            ap (λ b. cond (b && not (is_stale s.book.contents now_changed cell)) (accepted_value_at s.accepted cell site) None) (formula_cells-has s.book.contents k.clean.ordered cell)
            ∙ cases (is_formula s.book.contents cell) (is_stale s.book.contents now_changed cell) (is_among now_changed cell) refl refl refl
            ∙ sym (ap (λ b. lookup (nat_eq site) (cond b [] (results_of log cell))) (forgotten_now cell))
          where
            cases : (a b c : Bool) → is_formula s.book.contents cell ≡ a → is_stale s.book.contents now_changed cell ≡ b → is_among now_changed cell ≡ c
                → cond (a && not b) (accepted_value_at s.accepted cell site) None ≡ lookup (nat_eq site) (cond (b || c) [] (results_of log cell))
            cases true true c formula stale changed = refl
            cases true false true formula stale changed = absurd (cc (stays_clean cell formula stale, changed))
            cases true false false formula stale changed = k.accepted cell site
            cases false true c formula stale changed = refl
            cases false false true formula stale changed = refl
            cases false false false formula stale changed =
                let was_unchanged = unchanged_at_begin kind s.book.contents s.changed cell changed in
                sym (k.formulas cell site (ap has_formula (k.clean.contents cell was_unchanged) ∙ formula) was_unchanged) ∙ k.accepted cell site

  -- ---- in a recalculation
  module _ (k : Keeps t calc r events log round true s noted) where
    -- the setting of a book over this source and this log is that of the state
    pub settings_are : setting_over t.answer (source_of r) log calc ≡ setting_of t s
    settings_are = λ i. record {
      snapshot = λ topic. snapshot_is t r s k.rtd k.clean.failed topic i;
      accepted = λ cell site. sym (k.accepted cell site) i;
      registered = registration_of (k.book.holds.functions i);
      answer = t.answer;
    }

    -- it runs over them
    pub runs_over : InRound (setting_over t.answer (source_of r) log calc) round calc (calc_of t s noted)
    runs_over = subst (λ now. InRound now round calc (calc_of t s noted)) (sym settings_are) k.book

    pub reads_over : ReadsInRound (setting_over t.answer (source_of r) log calc) (source_of r) calc
    reads_over = subst (λ now. ReadsInRound now (source_of r) calc) (sym settings_are) (k.reads refl)

    pub is_round : is_some r.opening ≡ true
    is_round = runs_round r (opening_topics s) k.rtd.opening

    -- after some work the setting is the same
    pub settings_still : (after : CalcBook) (rtd : RtdState) → KeepsValues (source_of r) (source_of rtd) → InRound (setting_over t.answer (source_of rtd) log after) round after (calc_of t s noted)
        → setting_over t.answer (source_of rtd) log after ≡ setting_of t s
    settings_still after rtd values runs =
        let stands : StandsFor t (standing_of rtd) s true = subst (λ standing. StandsFor t standing s true) (sym values.standing) k.rtd in λ i. record {
          snapshot = λ topic. snapshot_is t rtd s stands k.clean.failed topic i;
          accepted = λ cell site. sym (k.accepted cell site) i;
          registered = registration_of (runs.holds.functions i);
          answer = t.answer;
        }

    pub kept-worked : (after : CalcBook) (rtd : RtdState) → KeepsValues (source_of r) (source_of rtd) → InRound (setting_over t.answer (source_of rtd) log after) round after (calc_of t s noted)
        → ReadsInRound (setting_over t.answer (source_of rtd) log after) (source_of rtd) after
        → Keeps t after rtd events log round true s noted
    kept-worked after rtd values runs reads = record {
      clean = k.clean;
      runs = k.runs;
      numbered = k.numbered;
      changed = k.changed;
      book = subst (λ now. InRound now round after (calc_of t s noted)) (settings_still after rtd values runs) runs;
      rtd = subst (λ standing. StandsFor t standing s true) (sym values.standing) k.rtd;
      reads = λ _. subst (λ now. ReadsInRound now (source_of rtd) after) (settings_still after rtd values runs) reads;
      number = ap (λ standing. standing.round) values.standing ∙ k.number;
      accepted = k.accepted;
      formulas = k.formulas;
      listeners = k.listeners;
    }

    -- it is given up
    pub kept-cancelled : (after : CalcBook) (rtd : RtdState) (now : Listening) → KeepsClean t (after_cancel s) → AtRest after (calc_of t s noted)
        → rtd.servers ≡ r.servers → ((topic : Topic) → rtd.published topic ≡ r.published topic) → rtd.throttle ≡ r.throttle → rtd.taken ≡ r.taken → rtd.opening ≡ None
        → ((topic : Topic) (cell : Cell) → rtd.readers topic cell ≡ r.readers topic cell) → rtd.round ≡ r.round → (after_cancel s).listeners ≡ listeners_as now.listeners
        → Keeps t after rtd now log round false (after_cancel s) noted
    kept-cancelled after rtd now clean rest servers published throttle taken ended readers same_round heard = record {
      clean = clean;
      runs = refl;
      numbered = k.numbered;
      changed = k.changed;
      book = rest;
      rtd = record {
        servers = servers ∙ k.rtd.servers;
        published = λ topic. published topic ∙ k.rtd.published topic;
        taken = λ topic. ap (lookup (same_topic topic)) taken ∙ k.rtd.taken topic;
        throttle = throttle ∙ k.rtd.throttle;
        opening = ended;
        readers = λ topic cell. readers topic cell ∙ k.rtd.readers topic cell;
      };
      reads = λ runs. absurd (cc (runs));
      number = same_round ∙ k.number;
      accepted = k.accepted;
      formulas = λ cell site none unchanged. k.formulas cell site (ap has_formula (sym (k.clean.contents cell unchanged)) ∙ none);
      listeners = heard;
    }

    -- it completes
    none_changed : readers_of_failed t s ≡ []
    none_changed = nothing (formula_cells s.book.contents)
      where
        unread : (topics : List Topic) → list_any (is_listed (failed_topics s)) topics ≡ false
        unread [] = refl
        unread (topic ∷ topics) = ap (λ failed. is_listed failed topic || list_any (is_listed (failed_topics s)) topics) k.clean.failed ∙ unread topics

        nothing : (cells : List Cell) → filter (λ cell. list_any (is_listed (failed_topics s)) (topics_of_cell (setting_of t s) s.book.contents cell)) cells ≡ []
        nothing [] = refl
        nothing (cell ∷ cells) = ap (λ b. cond b (cell ∷ filter (λ q. list_any (is_listed (failed_topics s)) (topics_of_cell (setting_of t s) s.book.contents q)) cells) (filter (λ q. list_any (is_listed (failed_topics s)) (topics_of_cell (setting_of t s) s.book.contents q)) cells)) (unread (topics_of_cell (setting_of t s) s.book.contents cell)) ∙ nothing cells

    pub kept-done : (after : CalcBook) (rtd : RtdState) (now : Listening) → KeepsClean t (after_done t s) → AtRest after (calc_settle (calc_of t s noted) (setting_of t s))
        → NotesReaders (setting_of t s) s.book.contents (source_of r)
        → rtd.servers ≡ r.servers → ((topic : Topic) → rtd.published topic ≡ r.published topic) → rtd.throttle ≡ r.throttle → TakesRead r rtd → rtd.opening ≡ None
        → ((topic : Topic) (cell : Cell) → rtd.readers topic cell ≡ r.reading topic cell) → rtd.round ≡ r.round → (after_done t s).listeners ≡ listeners_as now.listeners
        → Keeps t after rtd now log round false (after_done t s) []
    kept-done after rtd now clean rest notes servers published throttle takes ended readers same_round heard = record {
      clean = clean;
      runs = refl;
      numbered = k.numbered;
      changed = λ cell. ap (λ cells. is_among cells cell) (sym none_changed);
      book = rest;
      rtd = rtd-done t r rtd s k.clean.failed k.clean.ordered k.rtd
          (λ topic cell. notes topic cell ∙ ap (λ b. cell_reads (setting_of t s) s.book.contents cell topic && b) (served_is t r s k.rtd topic))
          takes servers published throttle ended readers;
      reads = λ runs. absurd (cc (runs));
      number = same_round ∙ k.number;
      accepted = k.accepted;
      formulas = λ cell site none unchanged. k.formulas cell site none;
      listeners = heard;
    }

    -- ---- a value is accepted
    module _ (handle : Handle) (value : Value) where
      -- only the accepted values of its cell differ
      pub differ_there : DifferAtCell (setting_of t s) (setting_of t (after_return s handle value)) handle.cell
      differ_there = record {
        accepted = λ q site other. sym (ap (λ b. cond (b && handle.site == site) (Some value) (accepted_value_at s.accepted q site)) other);
        snapshot = λ topic. refl;
        registered = λ name. refl;
        answer = refl;
      }

      pub kept-accepted : (after : CalcBook) (rtd : RtdState) (logged : LogParts) → KeepsClean t (after_return s handle value) → is_formula s.book.contents handle.cell ≡ true
          → InRound (setting_of t (after_return s handle value)) round after (calc_of t s noted)
          → ReadsInRound (setting_of t (after_return s handle value)) (source_of rtd) after
          → rtd.servers ≡ r.servers → ((topic : Topic) → rtd.published topic ≡ r.published topic) → rtd.throttle ≡ r.throttle → rtd.taken ≡ r.taken → rtd.opening ≡ r.opening
          → ((topic : Topic) (cell : Cell) → rtd.readers topic cell ≡ r.readers topic cell) → rtd.round ≡ r.round
          → ((cell : Cell) → results_of logged cell ≡ cond (same_cell handle.cell cell) ((handle.site, value) ∷ results_of log cell) (results_of log cell))
          → Keeps t after rtd events logged round true (after_return s handle value) noted
      kept-accepted after rtd logged clean formula runs reads servers published throttle taken opening readers same_round results = record {
        clean = clean;
        runs = k.runs;
        numbered = k.numbered;
        changed = k.changed;
        book = runs;
        rtd = record {
          servers = servers ∙ k.rtd.servers;
          published = λ topic. published topic ∙ k.rtd.published topic;
          taken = λ topic. ap (lookup (same_topic topic)) taken ∙ k.rtd.taken topic;
          throttle = throttle ∙ k.rtd.throttle;
          opening = (k.rtd.opening.0, opening ∙ k.rtd.opening.1, k.rtd.opening.2);
          readers = λ topic cell. readers topic cell ∙ k.rtd.readers topic cell;
        };
        reads = λ _. reads;
        number = same_round ∙ k.number;
        accepted = λ cell site. found cell site ∙ sym (ap (lookup (nat_eq site)) (results cell));
        formulas = λ cell site none. elim (same_cell handle.cell cell) as (λ b. same_cell handle.cell cell ≡ b → cond (b && handle.site == site) (Some value) (accepted_value_at s.accepted cell site) ≡ None) [
          | true ↦ λ same. absurd (cc (ap (is_formula s.book.contents) (same_cell_is handle.cell cell same), formula, none))
          | false ↦ λ other. k.formulas cell site none
        ] refl;
        listeners = k.listeners;
      }
        where
          turned : (a b : ℕ) → (a == b) ≡ nat_eq b a
          turned a b = search (rules)

          found : (cell : Cell) (site : ℕ) → cond (same_cell handle.cell cell && handle.site == site) (Some value) (accepted_value_at s.accepted cell site)
              ≡ lookup (nat_eq site) (cond (same_cell handle.cell cell) ((handle.site, value) ∷ results_of log cell) (results_of log cell))
          found cell site = elim (same_cell handle.cell cell) as (λ b. cond (b && handle.site == site) (Some value) (accepted_value_at s.accepted cell site)
              ≡ lookup (nat_eq site) (cond b ((handle.site, value) ∷ results_of log cell) (results_of log cell))) [
                | true ↦ ap (λ b. cond b (Some value) (accepted_value_at s.accepted cell site)) (turned handle.site site) ∙ ap (λ o. cond (nat_eq site handle.site) (Some value) o) (k.accepted cell site)
                | false ↦ k.accepted cell site
              ]

  -- ---- at all times
  module _ (running : Bool) (k : Keeps t calc r events log round running s noted) where
    -- servers, what is published, and listeners change
    pub kept-beside : (rtd : RtdState) (now : Listening) (logged : LogParts) (servers : List KnownServer) (published : List (Topic × Value)) (listeners : List Listener)
        → let later : State = record s { servers = servers; published = published; listeners = listeners } in
        KeepsClean t later → ((topic : Topic) → is_known servers topic.server ≡ is_known s.servers topic.server)
        → rtd.servers ≡ servers → ((topic : Topic) → rtd.published topic ≡ lookup (same_topic topic) published) → rtd.throttle ≡ r.throttle → SameTopics r rtd
        → listeners ≡ listeners_as now.listeners → ((cell : Cell) → results_of logged cell ≡ results_of log cell)
        → Keeps t calc rtd now logged round running later noted
    kept-beside rtd now logged servers published listeners clean known same_servers same_published throttle same heard results = record {
      clean = clean;
      runs = k.runs;
      numbered = k.numbered;
      changed = k.changed;
      book = same_book running k.book;
      rtd = stands;
      reads = λ runs. reads_between (setting_of t s) calc (source_of r) (source_of rtd)
          (λ topic. served_is t rtd later (subst (λ b. StandsFor t (standing_of rtd) later b) runs stands) topic ∙ known topic
          ∙ sym (served_is t r s (subst (λ b. StandsFor t (standing_of r) s b) runs k.rtd) topic))
          (λ topic cell. same.read.reading topic cell) (k.reads runs);
      number = same.round ∙ k.number;
      accepted = λ cell site. k.accepted cell site ∙ sym (ap (lookup (nat_eq site)) (results cell));
      formulas = same_formulas running k.formulas;
      listeners = heard;
    }
      where
        later : State
        later = record s { servers = servers; published = published; listeners = listeners }

        same_book : (b : Bool) → Recalculates t b round calc s noted → Recalculates t b round calc later noted
        same_book true h = h
        same_book false h = h

        same_formulas : (b : Bool) → AreOfFormulas b s → AreOfFormulas b later
        same_formulas true h = h
        same_formulas false h = h

        stands : StandsFor t (standing_of rtd) later running
        stands = record {
          servers = same_servers;
          published = same_published;
          taken = λ topic. ap (lookup (same_topic topic)) same.taken ∙ k.rtd.taken topic;
          throttle = throttle ∙ k.rtd.throttle;
          opening = opening_same r.opening rtd.opening running (opening_topics s) same.opening k.rtd.opening;
          readers = λ topic cell. same.read.readers topic cell ∙ k.rtd.readers topic cell;
        }

    -- all stays of real-time data
    same_opening : (o : Option (Topic → Option Value)) → SameOpening o o
    same_opening None = tt
    same_opening (Some f) = λ topic. refl

    still : SameTopics r r
    still = record {
      taken = refl;
      opening = same_opening r.opening;
      read = record { readers = λ topic cell. refl; reading = λ topic cell. refl };
      round = refl;
    }

    -- real-time data are as before
    pub kept-same_rtd : (rtd : RtdState) → rtd.servers ≡ r.servers → ((topic : Topic) → rtd.published topic ≡ r.published topic) → rtd.throttle ≡ r.throttle → SameTopics r rtd
        → Keeps t calc rtd events log round running s noted
    kept-same_rtd rtd servers published throttle same =
        kept-beside rtd events log s.servers s.published s.listeners k.clean (λ topic. refl) (servers ∙ k.rtd.servers) (λ topic. published topic ∙ k.rtd.published topic) throttle same k.listeners (λ cell. refl)

    -- a value is published
    pub kept-published : (rtd : RtdState) (u : Topic) (value : Value) → KeepsClean t (record s { published = topics_with s.published u value })
        → rtd.servers ≡ r.servers → ((topic : Topic) → rtd.published topic ≡ cond (same_topic u topic) (Some value) (r.published topic)) → rtd.throttle ≡ r.throttle → SameTopics r rtd
        → Keeps t calc rtd events log round running (record s { published = topics_with s.published u value }) noted
    kept-published rtd u value clean servers published throttle same =
        kept-beside rtd events log s.servers (topics_with s.published u value) s.listeners clean (λ topic. refl) (servers ∙ k.rtd.servers)
        (λ topic. published topic ∙ ap (λ o. cond (same_topic u topic) (Some value) o) (k.rtd.published topic) ∙ ap (λ b. cond b (Some value) (lookup (same_topic topic) s.published)) (same_topics.symm u topic) ∙ sym (lookup-topics_with s.published u value topic))
        throttle same k.listeners (λ cell. refl)

    -- a flag is raised
    pub kept-flagged : (rtd : RtdState) (name : List ℕ) → KeepsClean t (record s { servers = servers_with_flag s.servers name })
        → rtd.servers ≡ servers_with_flag r.servers name → ((topic : Topic) → rtd.published topic ≡ r.published topic) → rtd.throttle ≡ r.throttle → SameTopics r rtd
        → Keeps t calc rtd events log round running (record s { servers = servers_with_flag s.servers name }) noted
    kept-flagged rtd name clean servers published throttle same =
        kept-beside rtd events log (servers_with_flag s.servers name) s.published s.listeners clean (λ topic. ap (λ names. list_any (bytes_eq topic.server) names) (names_with_flag s.servers name))
        (servers ∙ ap (λ all. servers_with_flag all name) k.rtd.servers) (λ topic. published topic ∙ k.rtd.published topic) throttle same k.listeners (λ cell. refl)

    -- other listeners
    pub kept-heard : (now : Listening) (listeners : List Listener) → KeepsClean t (record s { listeners = listeners }) → listeners ≡ listeners_as now.listeners
        → Keeps t calc r now log round running (record s { listeners = listeners }) noted
    kept-heard now listeners clean heard = kept-beside r now log s.servers s.published listeners clean (λ topic. refl) k.rtd.servers k.rtd.published refl still heard (λ cell. refl)

    -- another log with the same accepted values
    pub kept-logged : (logged : LogParts) → ((cell : Cell) → results_of logged cell ≡ results_of log cell) → Keeps t calc r events logged round running s noted
    kept-logged logged results = kept-beside r events logged s.servers s.published s.listeners k.clean (λ topic. refl) k.rtd.servers k.rtd.published refl still k.listeners results

-- ---- before the first command
pub kept-first : (t : HostTerms) (calc : CalcBook) (r : RtdState) (events : Listening) (log : LogParts) → KeepsClean t first_state → AtRest calc (first_calc t.session (completed_setting t first_state))
    → r.servers ≡ [] → ((topic : Topic) → r.published topic ≡ None) → r.taken ≡ [] → r.throttle ≡ record { interval = pos 2000; last = None } → r.opening ≡ None
    → ((topic : Topic) (cell : Cell) → r.readers topic cell ≡ false) → r.round ≡ 0 → events.listeners ≡ [] → ((cell : Cell) → results_of log cell ≡ [])
    → Keeps t calc r events log 0 false first_state []
kept-first t calc r events log clean rest servers published taken throttle opening readers number none results = record {
  clean = clean;
  runs = refl;
  numbered = refl;
  changed = λ cell. refl;
  book = rest;
  rtd = record {
    servers = servers;
    published = published;
    taken = λ topic. ap (lookup (same_topic topic)) taken;
    throttle = throttle;
    opening = opening;
    readers = λ topic cell. readers topic cell;
  };
  reads = λ runs. absurd (cc (runs));
  number = number;
  accepted = λ cell site. sym (ap (lookup (nat_eq site)) (results cell));
  formulas = λ cell site none unchanged. refl;
  listeners = sym (ap listeners_as none);
}

-- a moment in form is one that a pull may have
pub moment_in_form : (moment : Moment) → IsMomentInForm moment → IsMoment moment
moment_in_form (moments.At moment) h = h
moment_in_form moments.Force h = tt

-- an interval in form fits its 64 bits
pub interval_fits : (interval : ℤ) → IsIntervalInForm interval → SFits w64 interval
interval_fits (pos n) form = let small : n ≤ 2147483647 = leb-true n 2147483647 form.1 in omega arith
interval_fits (negsuc n) form = let small : n ≤ 0 = leb-true n 0 form.0 in omega arith

-- ---- listeners
-- each listener has one more event
pub fired_as : (listeners : List Listener) (before after : Listening) (event : Event) → listeners ≡ listeners_as before.listeners
    → after ≡ record { listeners = heard.listeners_with before.listeners event; room = before.room - 1 } → listeners_with listeners event ≡ listeners_as after.listeners
fired_as listeners before after event same fired =
    ap (λ all. listeners_with all event) same ∙ sym (listeners_fired before.listeners event) ∙ sym (ap (λ (all : Listening). listeners_as all.listeners) fired)

-- ---- what is kept at all times
pub holds_anyhow : (t : HostTerms) (round : ℕ) (calc : CalcBook) (running : Bool) (s : State) (noted : List Cell) → Recalculates t running round calc s noted → Holds calc (calc_of t s noted)
holds_anyhow t round calc true s noted h = h.holds
holds_anyhow t round calc false s noted h = h.holds

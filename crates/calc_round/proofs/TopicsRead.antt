-- A job that is evaluated again and again, with the topic that it needed each time.
use Rattle.std.proofs.Common.{◌≡◌, ℕ, zero, suc, ◌+◌, ◌-◌, ◌<◌, Bool, true, false, cond, ◌||◌, ◌&&◌, Option, None, Some, List, [], ◌∷◌, ◌++◌, map, length, length-append, refl, ap, sym, subst, ◌∙◌, arith}
use mathlib.Core.Path.{fun_ext}
use Rattle.std.specs.Option.{option_map_or}
use Rattle.std.specs.Cmp.Lexicographic.{pointwise}
use Rattle.std.specs.Str.{bytes_eq}
use Rattle.std.proofs.lemmas.Bool.{and_parts, or_left, or_right}
use Rattle.std.proofs.lemmas.List.{length-map, map-append}
use Rattle.std.proofs.lemmas.List.Folds.{list_any-append}
use Rattle.std.proofs.lemmas.Slice.Eq.{bytes_eq-Decides, slice_eq-Decides}
use Rattle.cell_eval.specs.declared.jobs.Job.{Job}
use Rattle.cell_eval.specs.Jobs.{topic_value, world_of}
use Rattle.cell_refs.specs.declared.grid.Cell.{Cell}
use Rattle.cell_refs.specs.Cell.{same_cell}
use Rattle.cell_values.specs.declared.topics.Topic.{Topic}
use Rattle.cell_values.specs.declared.values.Value.{Value}
use Rattle.cell_values.specs.Topic.{same_topic}
use Rattle.cell_values.proofs.PublicLaws.{same_topics}
use Rattle.formula_parse.specs.declared.nodes.Node.{Node}
use Rattle.formula_parse.specs.Tree.{calls_of}
use Rattle.topic_source.specs.Source.{KeepsReaders, KeepsValues, NotesReader, SourceState}
use Rattle.workbook.specs.Evaluation.{Answer, Needs, World, answer_of}
use Rattle.workbook.specs.Reads.{answer_knowing, is_listed, needed_topic, these_alone, topics_behind, topics_read}
use Rattle.workbook.proofs.PublicLaws.{full_needs_none, read_enough}
use Rattle.calc_round.specs.Noting.{NotesSome, NotesTopics}

-- ---- topics

-- topics that are the same are equal
same_topic_is : (a b : Topic) → same_topic a b ≡ true → a ≡ b
same_topic_is a b h =
    let parts = and_parts (bytes_eq a.server b.server) (pointwise bytes_eq a.strings b.strings) h in
    let server : a.server ≡ b.server = (bytes_eq-Decides a.server b.server).0 parts.0 in
    let strings : a.strings ≡ b.strings = (slice_eq-Decides bytes_eq-Decides a.strings b.strings (pointwise bytes_eq a.strings b.strings) refl).0 parts.1 in
    let make : List ℕ → List (List ℕ) → Topic = λ name texts. record { server = name; strings = texts } in
    ap (λ name. make name a.strings) server ∙ ap (make b.server) strings

-- topics with their values of a snapshot
abbrev pub valued : (Topic → Value) → List Topic → List (Topic × Value)
valued snapshot topics = map (λ topic. (topic, snapshot topic)) topics

module _ (snapshot : Topic → Value) (topic : Topic) where
  -- what is found is the topic's value
  first_known : (s : Topic) (b : Bool) → same_topic topic s ≡ b → (any : Bool) (rest : Option Value) → rest ≡ cond any (Some (snapshot topic)) None
      → cond b (Some (snapshot s)) rest ≡ cond (b || any) (Some (snapshot topic)) None
  first_known s true same any rest h = ap (λ t. Some (snapshot t)) (sym (same_topic_is topic s same))
  first_known s false other any rest h = h

  known_alone : (topics : List Topic) → topic_value (valued snapshot topics) topic ≡ these_alone topics snapshot topic
  known_alone [] = refl
  known_alone (s ∷ topics) = first_known s (same_topic topic s) refl (is_listed topics topic) (topic_value (valued snapshot topics) topic) (known_alone topics)

-- ---- the topics that a formula reads, one behind the other
module _ (world : World) (snapshot : Topic → Value) (tree : Node) where
  -- what is needed where these alone are known
  abbrev next_of : List Topic → Option Topic
  next_of topics = needed_topic (answer_knowing world tree (these_alone topics snapshot))

  behind_step : (more : ℕ) (topics : List Topic) (topic : Topic) → next_of topics ≡ Some topic
      → topics_behind world snapshot tree (suc more) topics ≡ topics_behind world snapshot tree more (topics ++ topic ∷ [])
  behind_step more topics topic needs = ap (λ o. option_map_or (λ t. topics_behind world snapshot tree more (topics ++ t ∷ [])) o topics) needs

  -- where none is needed there are no more
  behind_end : (more : ℕ) (topics : List Topic) → next_of topics ≡ None → topics_behind world snapshot tree more topics ≡ topics
  behind_end zero topics none = refl
  behind_end (suc more) topics none = ap (λ o. option_map_or (λ t. topics_behind world snapshot tree more (topics ++ t ∷ [])) o topics) none

  -- those that are known are among them
  behind_has : (more : ℕ) (topics : List Topic) (t : Topic) → is_listed topics t ≡ true → is_listed (topics_behind world snapshot tree more topics) t ≡ true
  behind_has zero topics t h = h
  behind_has (suc more) topics t h = elim (next_of topics) as (λ o. is_listed (option_map_or (λ s. topics_behind world snapshot tree more (topics ++ s ∷ [])) o topics) t ≡ true) [
    | None ↦ h
    | Some s ↦ behind_has more (topics ++ s ∷ []) t (list_any-append (same_topic t) topics (s ∷ []) ∙ or_left (is_listed topics t) _ h)
  ]

  -- where one is needed there are more
  some_behind : (more : ℕ) (topics : List Topic) (topic : Topic) → topics_read world snapshot tree ≡ topics_behind world snapshot tree more topics
      → next_of topics ≡ Some topic → 0 < more
  some_behind zero topics topic behind needs =
      let full : Some topic ≡ None = sym needs ∙ ap next_of (sym behind) ∙ ap needed_topic (read_enough world tree snapshot) ∙ full_needs_none world tree snapshot in
      absurd (cc)
  some_behind (suc more) topics topic behind needs = omega arith

  one_more : (all count : ℕ) → 0 < all - count → all - count ≡ suc (all - (count + 1))
  one_more all count h = omega arith

  next_behind : (all : ℕ) (topics : List Topic) (topic : Topic) → topics_read world snapshot tree ≡ topics_behind world snapshot tree (all - length topics) topics
      → next_of topics ≡ Some topic → topics_read world snapshot tree ≡ topics_behind world snapshot tree (all - length (topics ++ topic ∷ [])) (topics ++ topic ∷ [])
  next_behind all topics topic behind needs =
      behind
      ∙ ap (λ more. topics_behind world snapshot tree more topics) (one_more all (length topics) (some_behind (all - length topics) topics topic behind needs))
      ∙ behind_step (all - (length topics + 1)) topics topic needs
      ∙ ap (λ count. topics_behind world snapshot tree (all - count) (topics ++ topic ∷ [])) (sym (length-append topics (topic ∷ [])))

-- ---- one more topic is noted
table : (x l c o : Bool) → ((x && c) || ((x && (l && c)) || o)) ≡ ((x && ((l || true) && c)) || o)
table true true true o = refl
table true true false o = refl
table true false c o = refl
table false l c o = refl

table_other : (y x l c o : Bool) → ((y && (false && c)) || ((x && (l && c)) || o)) ≡ ((x && ((l || false) && c)) || o)
table_other true x true c o = refl
table_other true x false c o = refl
table_other false x true c o = refl
table_other false x false c o = refl

noted_more : (served : Topic → Bool) (topic t : Topic) (b l c o : Bool) → same_topic topic t ≡ b
    → ((served topic && (b && c)) || ((served t && (l && c)) || o)) ≡ ((served t && ((l || b) && c)) || o)
noted_more served topic t true l c o same =
    ap (λ s. (served s && c) || ((served t && (l && c)) || o)) (same_topic_is topic t same) ∙ table (served t) l c o
noted_more served topic t false l c o other = table_other (served topic) (served t) l c o

right_none : (b : Bool) → (b || false) ≡ b
right_none true = refl
right_none false = refl

listed_last : (topics : List Topic) (topic t : Topic) → is_listed (topics ++ topic ∷ []) t ≡ (is_listed topics t || same_topic topic t)
listed_last topics topic t =
    list_any-append (same_topic t) topics (topic ∷ [])
    ∙ ap (λ b. is_listed topics t || b) (right_none (same_topic t topic) ∙ same_topics.symm t topic)

pub notes-more : (old mid new : SourceState) (reader : Cell) (topics : List Topic) (topic : Topic) → NotesTopics old mid reader (is_listed topics)
    → mid.is_served ≡ old.is_served → NotesReader mid new topic reader → NotesTopics old new reader (is_listed (topics ++ topic ∷ []))
notes-more old mid new reader topics topic before same notes t cell =
    notes t cell
    ∙ ap (λ served. (served topic && (same_topic topic t && same_cell reader cell)) || mid.has_read t cell) same
    ∙ ap (λ b. (old.is_served topic && (same_topic topic t && same_cell reader cell)) || b) (before t cell)
    ∙ noted_more old.is_served topic t (same_topic topic t) (is_listed topics t) (same_cell reader cell) (old.has_read t cell) refl
    ∙ ap (λ b. (old.is_served t && (b && same_cell reader cell)) || old.has_read t cell) (sym (listed_last topics topic t))

-- what is noted for some topics is noted for no others than all
raised : (x l m c o : Bool) → (l ≡ true → m ≡ true) → ((x && (l && c)) || o) ≡ true → ((x && (m && c)) || o) ≡ true
raised true true m c o leads h = ap (λ b. (b && c) || o) (leads refl) ∙ h
raised true false m c o leads h = or_right (m && c) o h
raised false l m c o leads h = h

pub notes-some : (old new : SourceState) (reader : Cell) (some all : Topic → Bool) → NotesTopics old new reader some → ((t : Topic) → some t ≡ true → all t ≡ true)
    → NotesSome old new reader all
notes-some old new reader some all notes leads = record {
  kept = λ t cell h. notes t cell ∙ or_right (old.is_served t && (some t && same_cell reader cell)) (old.has_read t cell) h;
  among = λ t cell h. raised (old.is_served t) (some t) (all t) (same_cell reader cell) (old.has_read t cell) (leads t) (sym (notes t cell) ∙ h);
}

pub notes-kept : (old mid new : SourceState) (reader : Cell) (all : Topic → Bool) → NotesSome old mid reader all → KeepsReaders mid new → NotesSome old new reader all
notes-kept old mid new reader all notes same = record {
  kept = λ t cell h. same t cell ∙ notes.kept t cell h;
  among = λ t cell h. notes.among t cell (sym (same t cell) ∙ h);
}

-- ---- values that stay
pub values-none : (source : SourceState) → KeepsValues source source
values-none source = record { snapshot = refl; served = refl; standing = refl }

pub values-then : (first second third : SourceState) → KeepsValues first second → KeepsValues second third → KeepsValues first third
values-then first second third one other = record {
  snapshot = other.snapshot ∙ one.snapshot;
  served = other.served ∙ one.served;
  standing = other.standing ∙ one.standing;
}

-- ---- the job
nothing_noted : (a b c : Bool) → c ≡ ((a && (false && b)) || c)
nothing_noted true b c = refl
nothing_noted false b c = refl

none_taken : (n : ℕ) → n ≡ n - 0
none_taken n = omega arith

module _ (answer : List ℕ → List Value → Value) (first : Job) (old : SourceState) where
  -- the job that knows these topics
  abbrev job_knowing : List Topic → Job
  job_knowing topics = record first { topics = valued old.snapshot topics }

  -- the topics that its formula reads
  abbrev pub read_by : List Topic
  read_by = topics_read (world_of answer first) old.snapshot first.tree

  -- what it comes to over all topics
  abbrev pub full_by : Answer
  full_by = answer_knowing (world_of answer first) first.tree (λ topic. Some (old.snapshot topic))

  knowing_answer : (topics : List Topic)
      → answer_of (world_of answer (job_knowing topics)) first.tree ≡ answer_knowing (world_of answer first) first.tree (these_alone topics old.snapshot)
  unfolding world_of
  knowing_answer topics = ap (λ known. answer_of (record (world_of answer first) { known = known }) first.tree) (fun_ext (λ topic. known_alone old.snapshot topic topics))

  -- the job knows the first of the topics that its formula reads, and these were noted
  pub record HasRead (now : SourceState) (job : Job) : Type 0 where
    pub topics : List Topic
    pub values : KeepsValues old now
    pub is : job ≡ record first { topics = valued old.snapshot topics }
    pub behind : topics_read (world_of answer first) old.snapshot first.tree
        ≡ topics_behind (world_of answer first) old.snapshot first.tree (length (calls_of first.tree) - length topics) topics
    pub noted : NotesTopics old now first.cell (is_listed topics)

  pub read-none : (job : Job) → job ≡ first → first.topics ≡ [] → HasRead old job
  read-none job same none = record {
    topics = [];
    values = values-none old;
    is = same ∙ ap (λ (topics : List (Topic × Value)). record first { topics = topics }) none;
    behind = ap (λ more. topics_behind (world_of answer first) old.snapshot first.tree more []) (none_taken (length (calls_of first.tree)));
    noted = λ t cell. nothing_noted (old.is_served t) (same_cell first.cell cell) (old.has_read t cell);
  }

  module _ (now : SourceState) (job : Job) (has : HasRead now job) where
    told : (a : Answer) → a ≡ answer_of (world_of answer job) job.tree → a ≡ answer_knowing (world_of answer first) first.tree (these_alone has.topics old.snapshot)
    told a is = is ∙ ap (λ (j : Job). answer_of (world_of answer j) j.tree) has.is ∙ knowing_answer has.topics

    needs : (topic : Topic) → Needs topic ≡ answer_of (world_of answer job) job.tree
        → needed_topic (answer_knowing (world_of answer first) first.tree (these_alone has.topics old.snapshot)) ≡ Some topic
    needs topic is = ap needed_topic (sym (told (Needs topic) is))

    -- the topic that it needs is read and noted
    pub read-more : (mid : SourceState) (new : Job) (topic : Topic) (value : Value) → Needs topic ≡ answer_of (world_of answer job) job.tree
        → KeepsValues now mid → NotesReader now mid topic job.cell → value ≡ now.snapshot topic
        → new ≡ record job { topics = job.topics ++ (topic, value) ∷ [] } → HasRead mid new
    read-more mid new topic value is values notes given more = record {
      topics = has.topics ++ topic ∷ [];
      values = values-then old now mid has.values values;
      is =
          let v : value ≡ old.snapshot topic = given ∙ ap (λ s. s topic) has.values.snapshot in
          more
          ∙ ap (λ (j : Job). record j { topics = j.topics ++ (topic, value) ∷ [] }) has.is
          ∙ ap (λ w. record first { topics = valued old.snapshot has.topics ++ (topic, w) ∷ [] }) v
          ∙ ap (λ (topics : List (Topic × Value)). record first { topics = topics }) (sym (map-append (λ (t : Topic). (t, old.snapshot t)) has.topics (topic ∷ [])));
      behind = next_behind (world_of answer first) old.snapshot first.tree (length (calls_of first.tree)) has.topics topic has.behind (needs topic is);
      noted = notes-more old now mid first.cell has.topics topic has.noted has.values.served
          (subst (NotesReader now mid topic) (ap (λ (j : Job). j.cell) has.is) notes);
    }

    -- fewer topics are left
    count_known : length job.topics ≡ length has.topics
    count_known = ap (λ (j : Job). length j.topics) has.is ∙ length-map has.topics (λ t. (t, old.snapshot t))

    pub fewer-left : (new : Job) (topic : Topic) (value : Value) → Needs topic ≡ answer_of (world_of answer job) job.tree
        → new ≡ record job { topics = job.topics ++ (topic, value) ∷ [] }
        → length (calls_of first.tree) - length new.topics < length (calls_of first.tree) - length job.topics
    fewer-left new topic value is more =
        let some = some_behind (world_of answer first) old.snapshot first.tree (length (calls_of first.tree) - length has.topics) has.topics topic has.behind (needs topic is) in
        let count = ap (λ (j : Job). length j.topics) more ∙ length-append job.topics ((topic, value) ∷ []) in
        let known = count_known in
        omega (arith, some, count, known)

    -- what was noted, wherever it stops
    pub read-some : NotesSome old now first.cell (is_listed read_by)
    read-some = notes-some old now first.cell (is_listed has.topics) (is_listed read_by) has.noted
        (λ t h. ap (λ topics. is_listed topics t) has.behind
        ∙ behind_has (world_of answer first) old.snapshot first.tree (length (calls_of first.tree) - length has.topics) has.topics t h)

    -- where no topic is needed all were read
    all_read : (a : Answer) → a ≡ answer_of (world_of answer job) job.tree → needed_topic a ≡ None → read_by ≡ has.topics
    all_read a is none =
        has.behind
        ∙ behind_end (world_of answer first) old.snapshot first.tree (length (calls_of first.tree) - length has.topics) has.topics (ap needed_topic (sym (told a is)) ∙ none)

    pub read-value : (a : Answer) → a ≡ answer_of (world_of answer job) job.tree → needed_topic a ≡ None → a ≡ full_by
    read-value a is none =
        told a is
        ∙ ap (λ topics. answer_knowing (world_of answer first) first.tree (these_alone topics old.snapshot)) (sym (all_read a is none))
        ∙ read_enough (world_of answer first) first.tree old.snapshot

    pub read-all : (a : Answer) → a ≡ answer_of (world_of answer job) job.tree → needed_topic a ≡ None → NotesTopics old now first.cell (is_listed read_by)
    read-all a is none = subst (λ topics. NotesTopics old now first.cell (is_listed topics)) (sym (all_read a is none)) has.noted

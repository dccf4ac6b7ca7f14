-- Evaluation in worlds that agree for a formula, and the topics that a formula reads.
use Rattle.std.proofs.Common.{◌≡◌, ℕ, zero, suc, ◌≤◌, Bool, true, false, ◌&&◌, cond, List, [], ◌∷◌, ◌++◌, length, Option, Some, None, IfSome, ◌⊎◌, inl, inr, refl, sym, ap, ◌∙◌, arith}
use mathlib.Core.Path.{fun_ext}
use Rattle.std.specs.Option.{option_map_or}
use Rattle.std.proofs.lemmas.List.Elements.{recursion_from_All}
use Rattle.cell_refs.specs.declared.grid.Cell.{Cell}
use Rattle.cell_values.specs.declared.topics.Topic.{Topic}
use Rattle.cell_values.specs.declared.values.Value.{Value}
use Rattle.formula_parse.specs.declared.nodes.Node.{Node}
use Rattle.formula_parse.specs.Tree.{calls_of, precedents, site_count, sites_named}
use Rattle.workbook.specs.declared.contents.Content.{Content}
use Rattle.workbook.specs.declared.contents.Content.TheVariants as contents
use Rattle.workbook.specs.Agreement.{AgreesBesideTopics}
use Rattle.workbook.specs.Book.{by_content, content_at}
use Rattle.workbook.specs.Evaluation.{World, Needs, answer_of}
use Rattle.workbook.specs.Meaning.{Setting}
use Rattle.workbook.specs.Reads.{all_but, answer_knowing, cell_reads, is_evaluated, is_listed, needed_topic, reads_topic, these_alone, topics_behind, topics_of_cell, topics_read, world_in}
use Rattle.workbook.proofs.Decisions.{run}
use Rattle.workbook.proofs.Deciding.{decides_formula}
use Rattle.workbook.proofs.Evaluations.{answered_alike}
use Rattle.workbook.proofs.Reading.{added_of, added_all, fresh, fresh_few, is_needed, knowing, listed_fresh, needed_first, needed_on_path, path, path_along, path_few, run_along, run_at_sites, run_foretold, run_needs_none}

-- ---- one world
module _ (world : World) (tree : Node) where
  -- the topics that the decision of a formula looks up
  abbrev path_of : (Topic → Value) → List Topic
  path_of snapshot = path world.accepted snapshot (decides_formula world tree).decision

  -- the answer is that of the decision
  runs : (known : Topic → Option Value) → answer_knowing world tree known ≡ run (knowing world.accepted known) (decides_formula world tree).decision
  runs known = (decides_formula world tree).runs (record { topic = known; site = world.accepted })

  -- a formula reads the topics that its decision looks up
  reads_path : (snapshot : Topic → Value) (topic : Topic) → reads_topic world snapshot tree topic ≡ is_listed (path_of snapshot) topic
  reads_path snapshot topic =
      ap (is_needed world.accepted topic) (runs (all_but topic snapshot)) ∙ needed_on_path world.accepted snapshot topic (decides_formula world tree).decision

  -- the answer is the same where the topics that the formula reads have their values of the snapshot
  knowing_alike : (snapshot : Topic → Value) (known : Topic → Option Value) → ((topic : Topic) → reads_topic world snapshot tree topic ≡ true → known topic ≡ Some (snapshot topic))
      → answer_knowing world tree known ≡ answer_knowing world tree (λ topic. Some (snapshot topic))
  knowing_alike snapshot known same =
      runs known
      ∙ run_along world.accepted snapshot known (decides_formula world tree).decision (λ topic listed. same topic (reads_path snapshot topic ∙ listed))
      ∙ sym (runs (λ topic. Some (snapshot topic)))

  -- the topics behind others are those that the decision looks up
  behind_path : (snapshot : Topic → Value) (more : ℕ) (topics : List Topic) → topics_behind world snapshot tree more topics ≡ added_of (path_of snapshot) more topics
  behind_path snapshot zero topics = refl
  behind_path snapshot (suc more) topics =
      ap (λ next. option_map_or next (needed_topic (answer_knowing world tree (these_alone topics snapshot))) topics) (fun_ext (λ topic. behind_path snapshot more (topics ++ topic ∷ [])))
      ∙ ap (λ o. option_map_or (λ topic. added_of (path_of snapshot) more (topics ++ topic ∷ [])) o topics)
      (ap needed_topic (runs (these_alone topics snapshot)) ∙ needed_first world.accepted snapshot topics (decides_formula world tree).decision)

  -- the list of the topics that a formula reads is that of those that its decision looks up, each once
  read_path : (snapshot : Topic → Value) → topics_read world snapshot tree ≡ fresh [] (path_of snapshot)
  read_path snapshot =
      behind_path snapshot (length (calls_of tree)) []
      ∙ added_all (path_of snapshot) (length (calls_of tree)) [] (no_more (fresh_few [] (path_of snapshot))
      (path_few world.accepted 0 (site_count tree) snapshot (decides_formula world tree).decision (length (calls_of tree)) (decides_formula world tree).within))
    where
      no_more : length (fresh [] (path_of snapshot)) ≤ length (path_of snapshot) → length (path_of snapshot) ≤ length (calls_of tree) → length (fresh [] (path_of snapshot)) ≤ length (calls_of tree)
      no_more few within = omega arith

  -- the list has exactly the topics that the formula reads
  pub read_listed : (snapshot : Topic → Value) (topic : Topic) → is_listed (topics_read world snapshot tree) topic ≡ reads_topic world snapshot tree topic
  read_listed snapshot topic =
      ap (λ topics. is_listed topics topic) (read_path snapshot) ∙ listed_fresh [] (path_of snapshot) topic ∙ sym (reads_path snapshot topic)

  -- these topics alone are enough
  pub read_enough : (snapshot : Topic → Value) → answer_knowing world tree (these_alone (topics_read world snapshot tree) snapshot) ≡ answer_knowing world tree (λ topic. Some (snapshot topic))
  read_enough snapshot =
      knowing_alike snapshot (these_alone (topics_read world snapshot tree) snapshot) (λ topic reads. ap (λ b. cond b (Some (snapshot topic)) None) (read_listed snapshot topic ∙ reads))

  -- where topics are known by the snapshot, the answer is the full one, or it needs one of these topics, which isn't known
  pub read_foretells : (snapshot : Topic → Value) (known : Topic → Option Value) → ((topic : Topic) → IfSome (known topic) (λ v. v ≡ snapshot topic))
      → (answer_knowing world tree known ≡ answer_knowing world tree (λ topic. Some (snapshot topic)))
      ⊎ ((topic : Topic) × (answer_knowing world tree known ≡ Needs topic) × (known topic ≡ None) × (is_listed (topics_read world snapshot tree) topic ≡ true))
  read_foretells snapshot known agrees =
      elim (run_foretold world.accepted snapshot known agrees (decides_formula world tree).decision) as (λ _.
      (answer_knowing world tree known ≡ answer_knowing world tree (λ topic. Some (snapshot topic)))
      ⊎ ((topic : Topic) × (answer_knowing world tree known ≡ Needs topic) × (known topic ≡ None) × (is_listed (topics_read world snapshot tree) topic ≡ true))) [
        | inl same ↦ inl (runs known ∙ same ∙ sym (runs (λ topic. Some (snapshot topic))))
        | inr needs ↦ inr (needs.0, runs known ∙ needs.1, needs.2, read_listed snapshot needs.0 ∙ reads_path snapshot needs.0 ∙ needs.3)
      ]

  -- where all topics are known none is needed
  pub full_needs_none : (snapshot : Topic → Value) → needed_topic (answer_knowing world tree (λ topic. Some (snapshot topic))) ≡ None
  full_needs_none snapshot = ap needed_topic (runs (λ topic. Some (snapshot topic))) ∙ run_needs_none snapshot world.accepted (decides_formula world tree).decision

-- ---- two worlds that agree
module _ (world other : World) (tree : Node) (agree : AgreesBesideTopics world other tree) where
  -- the first world with the values of cells and the registrations of the other
  abbrev between : (Topic → Option Value) → World
  between known = record world { input = other.input; registered = other.registered; known = known }

  -- other accepted values at its sites
  sites_alike : (known : Topic → Option Value) → answer_of (between known) tree ≡ answer_of (record (between known) { accepted = other.accepted }) tree
  sites_alike known =
      let d = decides_formula (between known) tree in
      d.runs (record { topic = known; site = world.accepted })
      ∙ run_at_sites 0 (site_count tree) known world.accepted other.accepted agree.accepted d.decision (length (calls_of tree)) d.within
      ∙ sym (d.runs (record { topic = known; site = other.accepted }))

  -- the answer is the same, whichever topics are known
  pub answer_alike : (known : Topic → Option Value) → answer_knowing world tree known ≡ answer_knowing other tree known
  answer_alike known =
      answered_alike (record world { known = known }) world.input other.input world.registered other.registered tree
      (recursion_from_All (λ cell. world.input cell ≡ other.input cell) (precedents tree world.home) agree.input)
      (recursion_from_All (λ name. world.registered name ≡ other.registered name) (sites_named tree) agree.registered)
      ∙ sites_alike known
      ∙ ap (λ home. answer_of (record (between known) { accepted = other.accepted; home = home }) tree) agree.home
      ∙ ap (λ answer. answer_of (record (between known) { accepted = other.accepted; home = other.home; answer = answer }) tree) agree.answer

  -- where the same topics are known with the same values
  pub answer_same : ((topic : Topic) → world.known topic ≡ other.known topic) → answer_of world tree ≡ answer_of other tree
  answer_same same = answer_alike world.known ∙ ap (answer_knowing other tree) (fun_ext same)

  -- over snapshots that agree on the topics that the formula reads
  pub answer_over : (snapshot later : Topic → Value) → ((topic : Topic) → reads_topic world snapshot tree topic ≡ true → snapshot topic ≡ later topic)
      → answer_knowing world tree (λ topic. Some (snapshot topic)) ≡ answer_knowing other tree (λ topic. Some (later topic))
  answer_over snapshot later same =
      sym (knowing_alike world tree snapshot (λ topic. Some (later topic)) (λ topic reads. ap Some (sym (same topic reads))))
      ∙ answer_alike (λ topic. Some (later topic))

  -- the topics behind others are the same in both worlds
  behind_alike : (snapshot : Topic → Value) (more : ℕ) (topics : List Topic) → topics_behind world snapshot tree more topics ≡ topics_behind other snapshot tree more topics
  behind_alike snapshot zero topics = refl
  behind_alike snapshot (suc more) topics =
      ap (λ next. option_map_or next (needed_topic (answer_knowing world tree (these_alone topics snapshot))) topics) (fun_ext (λ topic. behind_alike snapshot more (topics ++ topic ∷ [])))
      ∙ ap (λ answer. option_map_or (λ topic. topics_behind other snapshot tree more (topics ++ topic ∷ [])) (needed_topic answer) topics) (answer_alike (these_alone topics snapshot))

  -- the same topics are read over snapshots that agree on them
  pub read_alike : (snapshot later : Topic → Value) → ((topic : Topic) → reads_topic world snapshot tree topic ≡ true → snapshot topic ≡ later topic)
      → topics_read world snapshot tree ≡ topics_read other later tree
  read_alike snapshot later same =
      read_path world tree snapshot
      ∙ ap (fresh []) (path_along world.accepted snapshot later (decides_formula world tree).decision (λ topic listed. same topic (reads_path world tree snapshot topic ∙ listed)))
      ∙ sym (read_path world tree later)
      ∙ behind_alike later (length (calls_of tree)) []

-- ---- cells
module _ (setting : Setting) (book : List (Cell × Content)) (cell : Cell) (topic : Topic) where
  -- where a formula is evaluated, or not
  evaluated_listed : (evaluated : Bool) (tree : Node)
      → is_listed (cond evaluated (topics_read (world_in setting book cell) setting.snapshot tree) []) topic ≡ (evaluated && reads_topic (world_in setting book cell) setting.snapshot tree topic)
  evaluated_listed true tree = read_listed (world_in setting book cell) tree setting.snapshot topic
  evaluated_listed false tree = refl

  -- a content
  content_listed : (content : Option Content)
      → is_listed (by_content (λ v. []) (λ tree. cond (is_evaluated setting book cell tree) (topics_read (world_in setting book cell) setting.snapshot tree) []) content) topic
      ≡ by_content (λ v. false) (λ tree. is_evaluated setting book cell tree && reads_topic (world_in setting book cell) setting.snapshot tree topic) content
  content_listed None = refl
  content_listed (Some (contents.Num n)) = refl
  content_listed (Some (contents.Text t)) = refl
  content_listed (Some (contents.Bool b)) = refl
  content_listed (Some (contents.Error e)) = refl
  content_listed (Some (contents.Formula tree)) = evaluated_listed (is_evaluated setting book cell tree) tree

  -- the topics of a cell are those that it reads
  pub cell_listed : is_listed (topics_of_cell setting book cell) topic ≡ cell_reads setting book cell topic
  cell_listed = content_listed (content_at book cell)

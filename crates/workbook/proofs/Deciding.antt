-- What a formula comes to is given by a decision, which looks up no more topics than the formula has calls, and asks
-- the formula's sites alone.
use Rattle.std.proofs.Common.{◌≡◌, ℕ, ℤ, suc, ◌+◌, ◌≤◌, Bool, List, [], ◌∷◌, ◌++◌, map, length, All, Option, Some, None, refl, sym, ap, ◌∙◌, arith, length-append}
use Rattle.std.specs.List.{filter_map}
use Rattle.std.proofs.lemmas.List.Elements.{All-head, All-tail, filter_map-append}
use Rattle.cell_refs.specs.declared.areas.Area.{Area}
use Rattle.cell_refs.specs.declared.references.RefText.{RefText}
use Rattle.cell_refs.specs.Area.{area_of}
use Rattle.cell_refs.specs.RefText.{cell_at}
use Rattle.cell_values.specs.declared.errors.ErrorKind.{ErrorKind}
use Rattle.cell_values.specs.declared.errors.ErrorKind.TheVariants as errors
use Rattle.cell_values.specs.declared.texts.Text.{Text}
use Rattle.cell_values.specs.declared.values.Value.{Value}
use Rattle.cell_values.specs.declared.values.Value.TheVariants as values
use Rattle.formula_parse.proofs.PublicLaws.{fold_number, fold_text, fold_error, fold_boolean, fold_reference, fold_area, fold_call, fold_parentheses, fold_negation, fold_chain, node_induction}
use Rattle.formula_parse.specs.Callees.{added_name}
use Rattle.formula_parse.specs.declared.callees.Callee.{Callee}
use Rattle.formula_parse.specs.declared.callees.Callee.TheVariants as callees
use Rattle.formula_parse.specs.declared.nodes.Node.{Node}
use Rattle.formula_parse.specs.declared.nodes.Node.TheOpen as layer
use Rattle.formula_parse.specs.declared.nodes.Node.TheVariants as nodes
use Rattle.formula_parse.specs.declared.operators.Operator.{Operator}
use Rattle.formula_parse.specs.Tree.{calls_of, calls_step, concat, site_count}
use Rattle.workbook.specs.Evaluation.{World, Part, Argument, Val, answer_of, answers_of, arguments_of, call_answer, chain_value, final_answer, own_site, part_of, part_step, repeated_negation, sites_in, then_with, with_all}
use Rattle.workbook.proofs.Decisions.{Given, Decides, world_over, run, decides_value, decides_more, decides_same, decides_wider, decides_then, decides_final}
use Rattle.workbook.proofs.DecidedCalls.{Open, closed, looks_of, decides_values, decides_call}

-- how many of these calls are sites
abbrev pub sites_among : List Callee → ℕ
sites_among calls = length (filter_map added_name calls)

-- the calls of several nodes
abbrev calls_among : List Node → List Callee
calls_among ns = concat (map calls_of ns)

-- the sites of two lists of calls
sites-append : (calls others : List Callee) → sites_among (calls ++ others) ≡ sites_among calls + sites_among others
sites-append calls others = ap length (filter_map-append added_name calls others) ∙ length-append (filter_map added_name calls) (filter_map added_name others)

-- the sites of a call and of those in its arguments
sites-cons : (callee : Callee) (calls : List Callee) → own_site callee + sites_among calls ≡ sites_among (callee ∷ calls)
sites-cons (callees.BuiltIn f) calls = omega arith
sites-cons callees.Rtd calls = omega arith
sites-cons (callees.Added name) calls = omega arith

-- the answers of parts are those of the arguments that they are
answers_as_arguments : (before : ℕ) (parts : List Part) → answers_of before parts ≡ map (λ (a : Argument). a.value) (arguments_of before parts)
answers_as_arguments before [] = refl
answers_as_arguments before (part ∷ parts) = ap (λ answers. part.value before ∷ answers) (answers_as_arguments (before + part.sites) parts)

-- a part with these calls: its sites and its area are the same whatever is given, and a decision gives its answer
record IsPartDecided (calls : List Callee) (part : Given → Part) : Type 0 where
  area : Option Area
  area_same : (given : Given) → (part given).area ≡ area
  sites_same : (given : Given) → (part given).sites ≡ sites_among calls
  value : (before : ℕ) → Decides before (before + sites_among calls) (length calls) (λ given. (part given).value before)

-- arguments that decisions give, within bounds
record Opened (world : World) (lo hi looks : ℕ) (arguments : Given → List Argument) : Type 0 where
  opens : List (Open lo hi)
  closes : (given : Given) → arguments given ≡ map (closed world lo hi given) opens
  few : looks_of world lo hi opens ≤ looks

module _ (world : World) where
  -- the part that a node is, where this is given
  abbrev part_given : Node → Given → Part
  part_given node given = part_of (world_over world given) node

  -- the parts that nodes are
  abbrev parts_given : List Node → Given → List Part
  parts_given ns given = map (part_of (world_over world given)) ns

  -- a node is such a part
  abbrev IsDecided : Node → Type 0
  IsDecided node = IsPartDecided (calls_of node) (part_given node)

  -- a node whose calls are these and that is this part
  decided_as : (node : Node) (calls : List Callee) (part : Given → Part) → calls_of node ≡ calls → ((given : Given) → part_given node given ≡ part given) → IsPartDecided calls part → IsDecided node
  decided_as node calls part same is h = record {
    area = h.area;
    area_same = λ given. ap (λ (p : Part). p.area) (is given) ∙ h.area_same given;
    sites_same = λ given. ap (λ (p : Part). p.sites) (is given) ∙ h.sites_same given ∙ ap sites_among (sym same);
    value = λ before.
        decides_same before (before + sites_among (calls_of node)) (λ given. (part_given node given).value before) (λ given. (part given).value before) (λ given. ap (λ (p : Part). p.value before) (is given))
        (decides_wider before (before + sites_among (calls_of node)) (length (calls_of node)) (λ given. (part given).value before)
        (omega arith) (let e = ap sites_among same in omega arith) (let e = ap length same in omega arith) (h.value before));
  }

  -- a part that is one value
  decided_value : (area : Option Area) (v : Value) → IsPartDecided [] (λ given. record { sites = 0; area = area; value = λ before. Val v })
  decided_value area v = record {
    area = area;
    area_same = λ given. refl;
    sites_same = λ given. refl;
    value = λ before. decides_value before (before + 0) 0 v;
  }

  -- ---- several parts
  -- as many sites as calls of added functions
  sites_alike : (ns : List Node) → All IsDecided ns → (given : Given) → sites_in (parts_given ns given) ≡ sites_among (calls_among ns)
  sites_alike [] h given = refl
  sites_alike (n ∷ ns) h given =
      let first = (All-head IsDecided n ns h).sites_same given in
      let others = sites_alike ns (All-tail IsDecided n ns h) given in
      let both = sites-append (calls_of n) (calls_among ns) in
      omega arith

  -- the first argument
  first_opened : (n : Node) (ns : List Node) (lo hi start : ℕ) → lo ≤ start → start + sites_among (calls_of n) ≤ hi → IsDecided n
      → Opened world lo hi (length (calls_among ns)) (λ given. arguments_of (start + sites_among (calls_of n)) (parts_given ns given))
      → Opened world lo hi (length (calls_among (n ∷ ns))) (λ given. arguments_of start (parts_given (n ∷ ns) given))
  first_opened n ns lo hi start above below h others =
      let first = decides_wider lo hi (length (calls_of n)) (λ given. (part_given n given).value start) above below (omega arith) (h.value start) in
      record {
        opens = (record { area = h.area; looks = length (calls_of n); decision = first.decision; within = first.within }) ∷ others.opens;
        closes = λ given.
            ap (λ sites. (record { area = (part_given n given).area; value = (part_given n given).value start }) ∷ arguments_of (start + sites) (parts_given ns given)) (h.sites_same given)
            ∙ ap (λ area. (record { area = area; value = (part_given n given).value start }) ∷ arguments_of (start + sites_among (calls_of n)) (parts_given ns given)) (h.area_same given)
            ∙ ap (λ value. (record { area = h.area; value = value }) ∷ arguments_of (start + sites_among (calls_of n)) (parts_given ns given)) (first.runs given)
            ∙ ap (λ rest. (record { area = h.area; value = run given first.decision }) ∷ rest) (others.closes given);
        few = omega (arith, others.few, length-append (calls_of n) (calls_among ns));
      }

  -- all arguments
  opened : (ns : List Node) (lo hi start : ℕ) → lo ≤ start → start + sites_among (calls_among ns) ≤ hi → All IsDecided ns
      → Opened world lo hi (length (calls_among ns)) (λ given. arguments_of start (parts_given ns given))
  opened [] lo hi start above below h = record { opens = []; closes = λ given. refl; few = omega arith }
  opened (n ∷ ns) lo hi start above below h =
      let both = sites-append (calls_of n) (calls_among ns) in
      first_opened n ns lo hi start above (omega arith) (All-head IsDecided n ns h)
      (opened ns lo hi (start + sites_among (calls_of n)) (omega arith) (omega arith) (All-tail IsDecided n ns h))

  -- ---- each kind of part
  -- a call over its parts
  step_call : (callee : Callee) (ns : List Node) (before : ℕ) → All IsDecided ns
      → Decides before (before + sites_among (callee ∷ calls_among ns)) (length (callee ∷ calls_among ns))
      (λ given. final_answer (call_answer (world_over world given) callee (suc before) (arguments_of (before + own_site callee) (parts_given ns given))))
  step_call callee ns before h =
      let own = sites-cons callee (calls_among ns) in
      let hi = before + sites_among (callee ∷ calls_among ns) in
      let os = opened ns before (before + sites_among (callee ∷ calls_among ns)) (before + own_site callee) (omega arith) (omega arith) h in
      decides_final before hi (λ given. call_answer (world_over world given) callee (suc before) (arguments_of (before + own_site callee) (parts_given ns given)))
      (decides_same before hi (λ given. call_answer (world_over world given) callee (suc before) (arguments_of (before + own_site callee) (parts_given ns given)))
      (λ given. call_answer (world_over world given) callee (suc before) (map (closed world before hi given) os.opens))
      (λ given. ap (call_answer (world_over world given) callee (suc before)) (os.closes given))
      (decides_more before hi (length (callee ∷ calls_among ns)) (λ given. call_answer (world_over world given) callee (suc before) (map (closed world before hi given) os.opens)) (omega (arith, os.few))
      (decides_call world before hi callee os.opens (omega arith))))

  -- a call
  call_decided : (callee : Callee) (ns : List Node) → All IsDecided ns → IsDecided (nodes.Call callee ns)
  call_decided callee ns h =
      decided_as (nodes.Call callee ns) (callee ∷ calls_among ns) (λ given. part_step (world_over world given) (layer.Call callee (parts_given ns given)))
      (fold_call (List Callee) calls_step callee ns) (λ given. fold_call Part (part_step (world_over world given)) callee ns)
      (record {
        area = None;
        area_same = λ given. refl;
        sites_same = λ given. ap (λ count. own_site callee + count) (sites_alike ns h given) ∙ sites-cons callee (calls_among ns);
        value = λ before. step_call callee ns before h;
      })

  -- parentheses
  parentheses_decided : (inner : Node) → IsDecided inner → IsDecided (nodes.Parentheses inner)
  parentheses_decided inner h =
      decided_as (nodes.Parentheses inner) (calls_of inner) (λ given. part_step (world_over world given) (layer.Parentheses (part_given inner given)))
      (fold_parentheses (List Callee) calls_step inner) (λ given. fold_parentheses Part (part_step (world_over world given)) inner)
      (record { area = None; area_same = λ given. refl; sites_same = h.sites_same; value = h.value })

  -- a negation
  step_negation : (count : ℕ) (operand : Node) (before : ℕ) → IsDecided operand
      → Decides before (before + sites_among (calls_of operand)) (length (calls_of operand)) (λ given. then_with ((part_given operand given).value before) (λ v. Val (repeated_negation count v)))
  step_negation count operand before h =
      let hi = before + sites_among (calls_of operand) in
      decides_more before hi (length (calls_of operand)) (λ given. then_with ((part_given operand given).value before) (λ v. Val (repeated_negation count v))) (omega arith)
      (decides_then before hi {others = 0} (λ given. (part_given operand given).value before) (λ given v. Val (repeated_negation count v)) (h.value before) (λ v. decides_value before hi 0 (repeated_negation count v)))

  negation_decided : (count : ℕ) (operand : Node) → IsDecided operand → IsDecided (nodes.Negation count operand)
  negation_decided count operand h =
      decided_as (nodes.Negation count operand) (calls_of operand) (λ given. part_step (world_over world given) (layer.Negation count (part_given operand given)))
      (fold_negation (List Callee) calls_step count operand) (λ given. fold_negation Part (part_step (world_over world given)) count operand)
      (record { area = None; area_same = λ given. refl; sites_same = h.sites_same; value = λ before. step_negation count operand before h })

  -- a chain over its parts
  step_chain : (ns : List Node) (ops : List Operator) (before : ℕ) → All IsDecided ns
      → Decides before (before + sites_among (calls_among ns)) (length (calls_among ns)) (λ given. with_all (answers_of before (parts_given ns given)) (λ vs. Val (chain_value ops vs)))
  step_chain ns ops before h =
      let hi = before + sites_among (calls_among ns) in
      let os = opened ns before (before + sites_among (calls_among ns)) before (omega arith) (omega arith) h in
      decides_same before hi (λ given. with_all (answers_of before (parts_given ns given)) (λ vs. Val (chain_value ops vs)))
      (λ given. with_all (map (λ (a : Argument). a.value) (map (closed world before hi given) os.opens)) (λ vs. Val (chain_value ops vs)))
      (λ given. ap (λ answers. with_all answers (λ vs. Val (chain_value ops vs))) (answers_as_arguments before (parts_given ns given) ∙ ap (map (λ (a : Argument). a.value)) (os.closes given)))
      (decides_more before hi (length (calls_among ns)) (λ given. with_all (map (λ (a : Argument). a.value) (map (closed world before hi given) os.opens)) (λ vs. Val (chain_value ops vs))) (omega (arith, os.few))
      (decides_values world before hi os.opens 0 (λ given vs. Val (chain_value ops vs)) (λ vs. decides_value before hi 0 (chain_value ops vs))))

  -- a chain
  chain_decided : (ns : List Node) (ops : List Operator) → All IsDecided ns → IsDecided (nodes.Chain ns ops)
  chain_decided ns ops h =
      decided_as (nodes.Chain ns ops) (calls_among ns) (λ given. part_step (world_over world given) (layer.Chain (parts_given ns given) ops))
      (fold_chain (List Callee) calls_step ns ops) (λ given. fold_chain Part (part_step (world_over world given)) ns ops)
      (record { area = None; area_same = λ given. refl; sites_same = sites_alike ns h; value = λ before. step_chain ns ops before h })

  -- a number
  number_decided : (n : ℤ) → IsDecided (nodes.Number n)
  number_decided n = decided_as (nodes.Number n) [] (λ given. part_step (world_over world given) (layer.Number n))
      (fold_number (List Callee) calls_step n) (λ given. fold_number Part (part_step (world_over world given)) n) (decided_value None (values.Num n))

  -- a text
  text_decided : (t : Text) → IsDecided (nodes.Text t)
  text_decided t = decided_as (nodes.Text t) [] (λ given. part_step (world_over world given) (layer.Text t))
      (fold_text (List Callee) calls_step t) (λ given. fold_text Part (part_step (world_over world given)) t) (decided_value None (values.Text t))

  -- an error
  error_decided : (e : ErrorKind) → IsDecided (nodes.Error e)
  error_decided e = decided_as (nodes.Error e) [] (λ given. part_step (world_over world given) (layer.Error e))
      (fold_error (List Callee) calls_step e) (λ given. fold_error Part (part_step (world_over world given)) e) (decided_value None (values.Error e))

  -- a Boolean
  boolean_decided : (b : Bool) → IsDecided (nodes.Boolean b)
  boolean_decided b = decided_as (nodes.Boolean b) [] (λ given. part_step (world_over world given) (layer.Boolean b))
      (fold_boolean (List Callee) calls_step b) (λ given. fold_boolean Part (part_step (world_over world given)) b) (decided_value None (values.Bool b))

  -- a reference
  reference_decided : (r : RefText) → IsDecided (nodes.Reference r)
  reference_decided r = decided_as (nodes.Reference r) [] (λ given. part_step (world_over world given) (layer.Reference r))
      (fold_reference (List Callee) calls_step r) (λ given. fold_reference Part (part_step (world_over world given)) r)
      (decided_value (Some (area_of r r world.home)) (world.input (cell_at r world.home)))

  -- an area
  area_decided : (a b : RefText) → IsDecided (nodes.Area a b)
  area_decided a b = decided_as (nodes.Area a b) [] (λ given. part_step (world_over world given) (layer.Area a b))
      (fold_area (List Callee) calls_step a b) (λ given. fold_area Part (part_step (world_over world given)) a b)
      (decided_value (Some (area_of a b world.home)) (values.Error errors.Value))

  -- each part of a tree
  decided_part : (node : Node) → IsDecided node
  decided_part = node_induction IsDecided
      number_decided text_decided error_decided boolean_decided reference_decided area_decided
      call_decided parentheses_decided negation_decided chain_decided

  -- the answer of a formula
  pub decides_formula : (tree : Node) → Decides 0 (site_count tree) (length (calls_of tree)) (λ given. answer_of (world_over world given) tree)
  decides_formula tree =
      decides_final 0 (site_count tree) (λ given. (part_given tree given).value 0)
      (decides_wider 0 (site_count tree) (length (calls_of tree)) (λ given. (part_given tree given).value 0) (omega arith) (omega arith) (omega arith) ((decided_part tree).value 0))

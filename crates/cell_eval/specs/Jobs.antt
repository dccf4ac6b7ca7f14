-- What a job says of the world of its formula.
use Rattle.std.specs.Prelude.{ℕ, nat_eq, List, Option, Some, unwrap_or}
use Rattle.std.specs.Map.{lookup}
use Rattle.addin_types.specs.declared.registrations.Registration.{Registration}
use Rattle.cell_refs.specs.declared.grid.Cell.{Cell}
use Rattle.cell_refs.specs.Cell.{same_cell}
use Rattle.cell_values.specs.declared.topics.Topic.{Topic}
use Rattle.cell_values.specs.declared.values.Value.{Value}
use Rattle.cell_values.specs.declared.values.Value.TheVariants as values
use Rattle.cell_values.specs.Topic.{same_topic}
use Rattle.cell_eval.specs.declared.jobs.Job.{Job}
use Rattle.workbook.specs.Evaluation.{World}
use Rattle.workbook.specs.Registry.{registration_of}

-- the value of a cell: that among the inputs, else Blank
abbrev pub input_of : List (Cell × Value) → Cell → Value
input_of inputs cell = unwrap_or (lookup (same_cell cell) inputs) values.Blank

-- the value of a topic, where it is among the topics
abbrev pub topic_value : List (Topic × Value) → Topic → Option Value
topic_value topics topic = lookup (same_topic topic) topics

-- the accepted value of a site, if there is one
abbrev pub result_at : List (ℕ × Value) → ℕ → Option Value
result_at results site = lookup (nat_eq site) results

-- the world of a job's formula, where the added functions answer so
unfoldable pub world_of : (List ℕ → List Value → Value) → Job → World
world_of answer job = record {
  home = job.cell.sheet;
  input = input_of job.inputs;
  known = topic_value job.topics;
  accepted = result_at job.results;
  registered = registration_of job.functions;
  answer = answer;
}

-- the world of a job's formula, where each topic that the job doesn't know has this value
unfoldable pub closed_world : (List ℕ → List Value → Value) → Job → Value → World
closed_world answer job value = record (world_of answer job) { known = λ topic. Some (unwrap_or (topic_value job.topics topic) value) }

-- What the program writes for the bytes that it reads.
use Rattle.std.specs.Prelude.{ℕ, if◌then◌else◌, List}
use Rattle.addin_types.specs.Samples.{sample_answer}
use Rattle.desk_run.specs.Output.{replies_from}
use Rattle.host_io.specs.Lines.{lines_of}
use Rattle.workbook.specs.State.{HostTerms, first_state}
use Rattle.rtdhost.specs.Words.{is_run, usage_line}

-- the program's host: its session is 1, its history has at most 1,000,000 entries, and its add-in functions are the sample ones
abbrev pub program_terms : HostTerms
program_terms = record { session = 1; limit = 1000000; answer = sample_answer }

-- what the program writes for these words, where it reads these bytes
abbrev pub output_of : List (List ℕ) → List ℕ → List ℕ
output_of words bytes = if is_run words then replies_from program_terms first_state (lines_of bytes) else usage_line

-- What the endings of a session say of the program.
use Rattle.std.proofs.Common.{◌≡◌, ◌⊎◌, inl, inr, ℕ, ◌<◌, ◌≤◌, true, false, cond, List, [], length, take, drop, Option, Some, refl, sym, ap, subst, ◌∙◌, arith}
use Rattle.std.proofs.lemmas.Bool.{false≢true}
use Rattle.std.specs.Io.KnownBytes.{Keeps}
use Rattle.workbook.specs.State.{first_state}
use Rattle.rtdhost.specs.declared.program.Status.{Status}
use Rattle.rtdhost.specs.declared.program.Status.TheVariants as statuses
use Rattle.host_io.specs.declared.run_faults.RunFault.{RunFault}
use Rattle.host_io.specs.declared.run_faults.RunFault.TheVariants as run_faults
use Rattle.host_io.specs.Lines.{lines_of, whole_lines}
use Rattle.desk_run.specs.Output.{commands_in, replies_from, replies_within}
use Rattle.desk_run.specs.Run.{IsCaused}
use Rattle.rtdhost.specs.Output.{output_of, program_terms}
use Rattle.rtdhost.specs.Words.{is_run, usage_line}
use Rattle.rtdhost.specs.Endings.{HasEnded, IsFaultCounted, status_of}
use Rattle.rtdhost.specs.Session.{HasStopped}
use Rattle.host_io.specs.Count.{Rose}
use Rattle.host_io.specs.Sink.{Appends, AppendsPrefix}
use Rattle.host_io.proofs.PublicLaws.{Appends-kept, AppendsPrefix-all, AppendsPrefix-kept}

run_output : (words : List (List ℕ)) (input : List ℕ) → is_run words ≡ true → output_of words input ≡ replies_from program_terms first_state (lines_of input)
run_output words input run = ap (λ b. cond b (replies_from program_terms first_state (lines_of input)) usage_line) run

usage_output : (words : List (List ℕ)) (input : List ℕ) → is_run words ≡ false → output_of words input ≡ usage_line
usage_output words input other = ap (λ b. cond b (replies_from program_terms first_state (lines_of input)) usage_line) other

ended_by : (stop : RunFault) (words : List (List ℕ)) (all : List ℕ) (before left written : Option (List ℕ)) → is_run words ≡ true → HasStopped stop all before left written → HasEnded (status_of stop) words all before left written
ended_by run_faults.Read words all before left written run stopped = (run, stopped)
ended_by run_faults.Write words all before left written run stopped = subst (λ bs. AppendsPrefix before bs written) (sym (run_output words all run)) stopped.0
ended_by run_faults.Limit words all before left written run stopped = (run, stopped)
ended_by run_faults.Memory words all before left written run stopped = (run, stopped)
ended_by run_faults.Full words all before left written run stopped = (run, stopped)

-- a session that stopped early
pub stopped_ended : (stop : RunFault) (status : Status) (words : List (List ℕ)) (all : List ℕ) (before left written : Option (List ℕ)) → status ≡ status_of stop → is_run words ≡ true → HasStopped stop all before left written → HasEnded status words all before left written
stopped_ended stop status words all before left written is run stopped =
    subst (λ s. HasEnded s words all before left written) (sym is) (ended_by stop words all before left written run stopped)

-- with this status
as_status : (status other : Status) (words : List (List ℕ)) (all : List ℕ) (before left written : Option (List ℕ)) → HasEnded status words all before left written → status ≡ other → HasEnded other words all before left written
as_status status other words all before left written ended is = subst (λ s. HasEnded s words all before left written) is ended

pub ok_wrote : (status : Status) (words : List (List ℕ)) (all : List ℕ) (before left written written' : Option (List ℕ)) → HasEnded status words all before left written → status ≡ statuses.Ok → Keeps written written' → Appends before (output_of words all) written'
ok_wrote status words all before left written written' ended is kept =
    let ok = as_status status statuses.Ok words all before left written ended is in
    Appends-kept before written written' (output_of words all) (subst (λ bs. Appends before bs written) (sym (run_output words all ok.0)) ok.1.wrote) kept

pub ok_read : (status : Status) (words : List (List ℕ)) (all : List ℕ) (before left written : Option (List ℕ)) → HasEnded status words all before left written → status ≡ statuses.Ok → left ≡ Some []
ok_read status words all before left written ended is = (as_status status statuses.Ok words all before left written ended is).1.read

pub ok_within : (status : Status) (words : List (List ℕ)) (all : List ℕ) (before left written : Option (List ℕ)) → HasEnded status words all before left written → status ≡ statuses.Ok → length all ≤ 67108864
ok_within status words all before left written ended is = (as_status status statuses.Ok words all before left written ended is).1.within

pub read_answered : (status : Status) (words : List (List ℕ)) (all : List ℕ) (before left written written' : Option (List ℕ)) → HasEnded status words all before left written → status ≡ statuses.ReadFault → Keeps written written'
    → (n : ℕ) × (left ≡ Some (drop n all)) × Appends before (replies_from program_terms first_state (whole_lines (take n all))) written' × (commands_in (whole_lines (take n all)) ≤ program_terms.limit)
read_answered status words all before left written written' ended is kept =
    let stopped = (as_status status statuses.ReadFault words all before left written ended is).1.1 in
    (stopped.0, stopped.1, Appends-kept before written written' _ stopped.2 kept, stopped.3)

pub limit_passed : (status : Status) (words : List (List ℕ)) (all : List ℕ) (before left written : Option (List ℕ)) → HasEnded status words all before left written → status ≡ statuses.InputLimit → 67108864 < length all
limit_passed status words all before left written ended is = (as_status status statuses.InputLimit words all before left written ended is).1.1.0

pub limit_answered : (status : Status) (words : List (List ℕ)) (all : List ℕ) (before left written written' : Option (List ℕ)) → HasEnded status words all before left written → status ≡ statuses.InputLimit → Keeps written written' → Appends before (replies_from program_terms first_state (whole_lines (take 67108864 all))) written'
limit_answered status words all before left written written' ended is kept =
    Appends-kept before written written' _ (as_status status statuses.InputLimit words all before left written ended is).1.1.1 kept

pub limit_fits : (status : Status) (words : List (List ℕ)) (all : List ℕ) (before left written : Option (List ℕ)) → HasEnded status words all before left written → status ≡ statuses.InputLimit → commands_in (whole_lines (take 67108864 all)) ≤ program_terms.limit
limit_fits status words all before left written ended is = (as_status status statuses.InputLimit words all before left written ended is).1.1.2

pub ok_fits : (status : Status) (words : List (List ℕ)) (all : List ℕ) (before left written : Option (List ℕ)) → HasEnded status words all before left written → status ≡ statuses.Ok → commands_in (lines_of all) ≤ program_terms.limit
ok_fits status words all before left written ended is = (as_status status statuses.Ok words all before left written ended is).1.fits

pub full_passed : (status : Status) (words : List (List ℕ)) (all : List ℕ) (before left written : Option (List ℕ)) → HasEnded status words all before left written → status ≡ statuses.SessionFull → program_terms.limit < commands_in (lines_of all)
full_passed status words all before left written ended is = (as_status status statuses.SessionFull words all before left written ended is).1.1.0

pub full_answered : (status : Status) (words : List (List ℕ)) (all : List ℕ) (before left written written' : Option (List ℕ)) → HasEnded status words all before left written → status ≡ statuses.SessionFull → Keeps written written' → Appends before (replies_within program_terms program_terms.limit first_state (lines_of all)) written'
full_answered status words all before left written written' ended is kept =
    Appends-kept before written written' _ (as_status status statuses.SessionFull words all before left written ended is).1.1.1 kept

-- a prefix of the output, with every status
prefix_by : (words : List (List ℕ)) (all : List ℕ) (before written : Option (List ℕ)) → is_run words ≡ true → AppendsPrefix before (replies_from program_terms first_state (lines_of all)) written → AppendsPrefix before (output_of words all) written
prefix_by words all before written run prefix = subst (λ bs. AppendsPrefix before bs written) (sym (run_output words all run)) prefix

ended_prefix : (status : Status) (words : List (List ℕ)) (all : List ℕ) (before left written : Option (List ℕ)) → HasEnded status words all before left written → AppendsPrefix before (output_of words all) written
ended_prefix statuses.Ok words all before left written ended = prefix_by words all before written ended.0 (AppendsPrefix-all before written _ ended.1.wrote)
ended_prefix statuses.Usage words all before left written ended =
    subst (λ bs. AppendsPrefix before bs written) (sym (usage_output words all ended.0)) (AppendsPrefix-all before written usage_line ended.1)
ended_prefix statuses.ReadFault words all before left written ended = prefix_by words all before written ended.0 ended.1.0
ended_prefix statuses.WriteFault words all before left written ended = ended
ended_prefix statuses.Memory words all before left written ended = prefix_by words all before written ended.0 ended.1.0
ended_prefix statuses.InputLimit words all before left written ended = prefix_by words all before written ended.0 ended.1.0
ended_prefix statuses.SessionFull words all before left written ended = prefix_by words all before written ended.0 ended.1.0

pub prefix_wrote : (status : Status) (words : List (List ℕ)) (all : List ℕ) (before left written written' : Option (List ℕ)) → HasEnded status words all before left written → Keeps written written' → AppendsPrefix before (output_of words all) written'
prefix_wrote status words all before left written written' ended kept =
    AppendsPrefix-kept before written written' (output_of words all) (ended_prefix status words all before left written ended) kept

rose_on : (before now later : ℕ) → Rose before now → now ≤ later → Rose before later
rose_on before now later rose more = omega (arith, rose, more)

-- with no cause for another status
pub no_cause : (status : Status) (words : List (List ℕ)) (all : List ℕ) (before left written : Option (List ℕ)) (reads reads' writes writes' writes'' : ℕ) → HasEnded status words all before left written → IsFaultCounted status reads reads' writes writes' → writes' ≤ writes'' → is_run words ≡ true → length all ≤ 67108864 → commands_in (lines_of all) ≤ program_terms.limit → (Rose reads reads' → ⊥) → (Rose writes writes'' → ⊥) → (status ≡ statuses.Ok) ⊎ (status ≡ statuses.Memory)
no_cause statuses.Ok words all before left written reads reads' writes writes' writes'' ended counted more run short few read write = inl refl
no_cause statuses.Usage words all before left written reads reads' writes writes' writes'' ended counted more run short few read write = absurd (false≢true (sym ended.0 ∙ run))
no_cause statuses.ReadFault words all before left written reads reads' writes writes' writes'' ended counted more run short few read write = absurd (read counted.0)
no_cause statuses.WriteFault words all before left written reads reads' writes writes' writes'' ended counted more run short few read write = absurd (write (rose_on writes writes' writes'' counted.1 more))
no_cause statuses.Memory words all before left written reads reads' writes writes' writes'' ended counted more run short few read write = inr refl
no_cause statuses.InputLimit words all before left written reads reads' writes writes' writes'' ended counted more run short few read write = absurd (omega (arith, short, ended.1.1.0))
no_cause statuses.SessionFull words all before left written reads reads' writes writes' writes'' ended counted more run short few read write = absurd (omega (arith, few, ended.1.1.0))

-- a status but WriteFault says that no write failed
pub writes_stand : (status : Status) (reads reads' writes writes' : ℕ) → IsFaultCounted status reads reads' writes writes' → (status ≡ statuses.WriteFault) ⊎ (writes' ≡ writes)
writes_stand statuses.Ok reads reads' writes writes' counted = inr counted.1
writes_stand statuses.Usage reads reads' writes writes' counted = inr counted.1
writes_stand statuses.ReadFault reads reads' writes writes' counted = inr counted.1
writes_stand statuses.WriteFault reads reads' writes writes' counted = inl refl
writes_stand statuses.Memory reads reads' writes writes' counted = inr counted.1
writes_stand statuses.InputLimit reads reads' writes writes' counted = inr counted.1
writes_stand statuses.SessionFull reads reads' writes writes' counted = inr counted.1

-- a status but ReadFault says that no read failed
pub reads_stand : (status : Status) (reads reads' writes writes' : ℕ) → IsFaultCounted status reads reads' writes writes' → (status ≡ statuses.ReadFault) ⊎ (reads' ≡ reads)
reads_stand statuses.Ok reads reads' writes writes' counted = inr counted.0
reads_stand statuses.Usage reads reads' writes writes' counted = inr counted.0
reads_stand statuses.ReadFault reads reads' writes writes' counted = inl refl
reads_stand statuses.WriteFault reads reads' writes writes' counted = inr counted.0
reads_stand statuses.Memory reads reads' writes writes' counted = inr counted.0
reads_stand statuses.InputLimit reads reads' writes writes' counted = inr counted.0
reads_stand statuses.SessionFull reads reads' writes writes' counted = inr counted.0

-- the same of writes, where a last one succeeds
pub writes_stand_at_end : (status : Status) (reads reads' writes writes' writes'' : ℕ) → IsFaultCounted status reads reads' writes writes' → writes'' ≡ writes' → (status ≡ statuses.WriteFault) ⊎ (writes'' ≡ writes)
writes_stand_at_end status reads reads' writes writes' writes'' counted last =
    elim (writes_stand status reads reads' writes writes' counted) [ inl e ↦ inl e | inr e ↦ inr (last ∙ e) ]

-- the same of reads, where a failed write may come instead
pub reads_stand_or : (status : Status) (reads reads' writes writes' : ℕ) → IsFaultCounted status reads reads' writes writes' → (status ≡ statuses.ReadFault) ⊎ ((status ≡ statuses.WriteFault) ⊎ (reads' ≡ reads))
reads_stand_or status reads reads' writes writes' counted =
    elim (reads_stand status reads reads' writes writes' counted) [ inl e ↦ inl e | inr e ↦ inr (inr e) ]

counted_by : (stop : RunFault) (reads reads' writes writes' : ℕ) → IsCaused stop reads reads' writes writes' → IsFaultCounted (status_of stop) reads reads' writes writes'
counted_by run_faults.Read reads reads' writes writes' caused = caused
counted_by run_faults.Write reads reads' writes writes' caused = caused
counted_by run_faults.Limit reads reads' writes writes' caused = caused
counted_by run_faults.Memory reads reads' writes writes' caused = caused
counted_by run_faults.Full reads reads' writes writes' caused = caused

-- a session that stopped early counted what its status says
pub stopped_counted : (stop : RunFault) (status : Status) (reads reads' writes writes' : ℕ) → status ≡ status_of stop → IsCaused stop reads reads' writes writes' → IsFaultCounted status reads reads' writes writes'
stopped_counted stop status reads reads' writes writes' is caused =
    subst (λ s. IsFaultCounted s reads reads' writes writes') (sym is) (counted_by stop reads reads' writes writes' caused)

-- words that are refused count no failed read
pub refused_counted : (status : Status) (reads writes writes' : ℕ) → (status ≡ statuses.Usage) ⊎ (status ≡ statuses.WriteFault) → (status ≡ statuses.Usage → writes' ≡ writes) → (status ≡ statuses.WriteFault → Rose writes writes') → IsFaultCounted status reads reads writes writes'
refused_counted status reads writes writes' (inl e) steady rose =
    subst (λ s. IsFaultCounted s reads reads writes writes') (sym e) (refl, steady e)
refused_counted status reads writes writes' (inr e) steady rose =
    subst (λ s. IsFaultCounted s reads reads writes writes') (sym e) (refl, rose e)

as_counted : (status other : Status) (reads reads' writes writes' : ℕ) → IsFaultCounted status reads reads' writes writes' → status ≡ other → IsFaultCounted other reads reads' writes writes'
as_counted status other reads reads' writes writes' counted is = subst (λ s. IsFaultCounted s reads reads' writes writes') is counted

pub read_rose : (status : Status) (reads reads' writes writes' : ℕ) → IsFaultCounted status reads reads' writes writes' → status ≡ statuses.ReadFault → Rose reads reads'
read_rose status reads reads' writes writes' counted is = (as_counted status statuses.ReadFault reads reads' writes writes' counted is).0

-- where a last write succeeds
pub write_rose : (status : Status) (reads reads' writes writes' writes'' : ℕ) → IsFaultCounted status reads reads' writes writes' → writes' ≤ writes'' → status ≡ statuses.WriteFault → Rose writes writes''
write_rose status reads reads' writes writes' writes'' counted more is =
    rose_on writes writes' writes'' (as_counted status statuses.WriteFault reads reads' writes writes' counted is).1 more

-- The lines that tell of a run over generated rows.
use Rattle.std.specs.Prelude.{ℕ, ◌++◌, Bool, true, false, List, codes, count_by, not, sum_by}
use Rattle.std.specs.Fmt.{decimal}
use Rattle.pipe_plan.specs.declared.event.PartitionEvent.{PartitionEvent}
use Rattle.pipe_plan.specs.declared.event.PartitionEvent.TheVariants as event
use Rattle.pipe_run.specs.declared.output.GroupByOutput.{GroupByOutput}

-- whether an event brought a piece to a partition
abbrev pub is_arrival : PartitionEvent → Bool
is_arrival (event.Arrive w) = true
is_arrival (event.Merge w) = false
is_arrival (event.Dump w) = false

-- how many pieces came to all partitions
abbrev pub all_arrivals : List (List PartitionEvent) → ℕ
all_arrivals journals = sum_by (λ j. count_by is_arrival j) journals

-- how many merges and dumps there were
abbrev pub picks : List (List PartitionEvent) → ℕ
picks journals = sum_by (λ j. count_by (λ e. not (is_arrival e)) j) journals

-- a name and a number, as a line
abbrev pub named_number : List ℕ → ℕ → List ℕ
named_number name n = name ++ (codes " " ++ (decimal n ++ codes "\n"))

-- the lines of a run over so many rows
abbrev pub made_lines : ℕ → GroupByOutput → List ℕ
made_lines rows out =
    named_number (codes "rows") rows
    ++ (named_number (codes "groups") out.frame.height
    ++ (named_number (codes "overflow") out.overflow
    ++ (named_number (codes "arrivals") (all_arrivals out.journals)
    ++ named_number (codes "picks") (picks out.journals))))

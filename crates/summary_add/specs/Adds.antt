-- What is added of files to a summary, and why that ends early.
use Rattle.std.specs.Prelude.{◌≡◌, ◌+◌, ◌^◌, ◌&&◌, ◌++◌, ℕ, nat_lt, Bool, List, length, if◌then◌else◌, Option, Some, None, IfSome, ⊤}
use Rattle.pipe_columns.specs.declared.data_chunk.DataChunk.{DataChunk}
use Rattle.pipe_io.specs.Files.{Files}
use Rattle.pipe_model.specs.Query.{QueryTree}
use Rattle.pipe_model.specs.Rows.{total_height}
use Rattle.pipe_source.specs.CsvChunks.{CsvChunks, Stop, too_large}
use Rattle.pipe_states.specs.Regrouped.{end_of}
use Rattle.pipe_states.specs.States.{StateSeen}
use Rattle.pipe_states.specs.Together.{total_rows}
use Rattle.pipe_summary.specs.Additions.{CanBeAdded, told_with}
use Rattle.pipe_summary.specs.Sums.{StandsFor}
use Rattle.rollup_save.specs.Saves.{file_chunks, Tells}
use Rattle.summary_add.specs.declared.add_fault.AddFault.{AddFault}
use Rattle.summary_add.specs.declared.add_fault.AddFault.TheVariants as add_fault

-- whether chunks, of which the first has a position, have positions that a range can end behind, and
-- with the rows before fewer than 2^32 rows
abbrev pub are_few_behind : ℕ → ℕ → List DataChunk → Bool
are_few_behind rows first chunks =
    nat_lt (rows + total_height chunks) (2 ^ 32) && nat_lt (first + length chunks) (2 ^ 32)

-- why the adding of chunks behind so many rows ends early, if it does: too many come before where the
-- files stop
abbrev pub end_behind : ℕ → ℕ → CsvChunks → Option Stop
end_behind rows first read =
    if are_few_behind rows first read.chunks then read.stop else Some too_large

-- why the adding of files behind states ends early, if it does
abbrev pub end_of_adding : List StateSeen → Files → List (List ℕ) → QueryTree → Option Stop
end_of_adding states files names q =
    end_behind (total_rows states) (end_of states) (file_chunks files names q)

-- a fault tells why adding ends early; of a store that fails nothing is said
abbrev pub TellsFault : AddFault → Option Stop → Type 0
TellsFault (add_fault.Read e) stop = Tells e stop
TellsFault add_fault.Store stop = ⊤

-- chunks were added behind states: all that is given of the files, where they are told; what the store
-- told before is then with the frame of these chunks, and stands for them too
pub record AreAdded
    (q : QueryTree) (given : Files → CsvChunks) (files : Option Files) (states : List StateSeen)
    (before after : Option (List (List ℕ))) : Type 0 where
  pub chunks : List DataChunk
  pub all : IfSome files (λ fs. given fs ≡ record { chunks = chunks; stop = None })
  pub can : CanBeAdded q.schema states chunks
  pub frames : after ≡ told_with q before states chunks
  pub stands : (earlier : List DataChunk) → StandsFor q before earlier
      → StandsFor q after (earlier ++ chunks)

-- the files of some names were, as a query has their columns
abbrev pub FilesAdded :
    QueryTree → List (List ℕ) → Option Files → List StateSeen → Option (List (List ℕ))
    → Option (List (List ℕ)) → Type 0
FilesAdded q names files states before after =
    AreAdded q (λ fs. file_chunks fs names q) files states before after

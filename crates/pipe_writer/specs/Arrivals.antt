-- Which chunks of which senders came to a writer, in their order.
use Rattle.std.specs.Prelude.{◌==◌, ℕ, List, [], ◌∷◌, Option, None, Some, filter, flat_map, map, slice_get, slice_index_or}
use Rattle.pipe_columns.specs.declared.data_chunk.DataChunk.{DataChunk}
use Rattle.pipe_writer.specs.declared.arrivals.Arrival.{Arrival}

-- what there is, as a list
abbrev pub list_of : {X : Type 0} → Option X → List X
list_of None = []
list_of (Some x) = x ∷ []

-- the chunk that an arrival names in the lists of the senders, where it names one
abbrev pub named : List (List DataChunk) → Arrival → List DataChunk
named lists a = list_of (slice_get (slice_index_or lists a.sender []) a.number)

-- the chunks that arrivals name in the lists of the senders
abbrev pub arrived : List Arrival → List (List DataChunk) → List DataChunk
arrived arrivals lists = flat_map (named lists) arrivals

-- the numbers of what arrived of a sender, in the order of its arrival
abbrev pub numbers_of : ℕ → List Arrival → List ℕ
numbers_of sender arrivals = map (λ a. a.number) (filter (λ a. a.sender == sender) arrivals)

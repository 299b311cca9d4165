-- What a writer took of what came to it.
use Rattle.std.specs.Prelude.{List, map}
use Rattle.pipe_columns.specs.declared.data_chunk.DataChunk.{DataChunk}
use Rattle.pipe_writer.specs.declared.arrivals.Arrival.{Arrival}
use Rattle.pipe_writer.specs.declared.message.SentChunk.{SentChunk}

-- the arrival of a chunk
abbrev pub arrival_of : SentChunk → Arrival
arrival_of c = record { sender = c.sender; number = c.number }

-- the arrivals of chunks
abbrev pub arrivals_of : List SentChunk → List Arrival
arrivals_of sent = map arrival_of sent

-- the chunks alone
abbrev pub chunks_of : List SentChunk → List DataChunk
chunks_of sent = map (λ c. c.chunk) sent

-- Chunks that were made in their places.
use Rattle.std.proofs.Common.{◌≡◌, ◌∙◌, List, [], ◌∷◌, ◌++◌, map, Result, Ok, sym, ap}
use Rattle.std.proofs.lemmas.List.{map-append}
use Rattle.pipe_columns.specs.declared.data_chunk.DataChunk.{DataChunk}
use Rattle.pipe_csv.specs.declared.csv_error.CsvError.{CsvError}
use Rattle.pipe_source.specs.declared.round.ChunkPlace.{ChunkPlace}

-- a chunk that was made
made : DataChunk → Result DataChunk CsvError
made c = Ok c

-- one more chunk was made
pub made-more : (ps : List ChunkPlace) (p : ChunkPlace) (done : List DataChunk) (c : DataChunk) → map (λ q. q.made) ps ≡ map Ok done → p.made ≡ Ok c → map (λ q. q.made) (ps ++ (p ∷ [])) ≡ map Ok (done ++ (c ∷ []))
unfolding made
made-more ps p done c e h =
    map-append (λ (q : ChunkPlace). q.made) ps (p ∷ []) ∙ ap (λ (rs : List (Result DataChunk CsvError)). rs ++ (p.made ∷ [])) e ∙ ap (λ (r : Result DataChunk CsvError). map made done ++ (r ∷ [])) h ∙ sym (map-append made done (c ∷ []))

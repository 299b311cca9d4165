-- The chunks that marks stand for.
use Rattle.std.proofs.Common.{◌≡◌, ◌∙◌, List, [], ◌∷◌, ◌++◌, map, ap}
use Rattle.std.proofs.lemmas.List.{map-append}
use Rattle.std.specs.declared.snapshot.Snapshot.{Snapshot}
use Rattle.pipe_columns.specs.declared.data_chunk.DataChunk.{DataChunk}

-- the chunks that marks stand for
abbrev pub marked : List (Snapshot DataChunk) → List DataChunk
marked marks = map (λ s. s.value) marks

-- one mark more
pub marked-push : (marks more : List (Snapshot DataChunk)) (s : Snapshot DataChunk) (c : DataChunk) → more ≡ marks ++ s ∷ [] → s.value ≡ c → marked more ≡ marked marks ++ c ∷ []
marked-push marks more s c e is = ap marked e ∙ map-append (λ (x : Snapshot DataChunk). x.value) marks (s ∷ []) ∙ ap (λ (x : DataChunk). marked marks ++ x ∷ []) is

-- others behind them
pub marked-append : (marks others more : List (Snapshot DataChunk)) → more ≡ marks ++ others → marked more ≡ marked marks ++ marked others
marked-append marks others more e = ap marked e ∙ map-append (λ (x : Snapshot DataChunk). x.value) marks others

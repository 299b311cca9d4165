-- What is wanted of widened chunks is what was widened.
use Rattle.std.proofs.Common.{◌≡◌, ℕ, Bool, true, false, List, [], ◌∷◌, refl, ap}
use Rattle.std.specs.List.{All}
use Rattle.std.proofs.lemmas.List.Elements.{All-cons, All-head, All-nil, All-tail}
use Rattle.pipe_columns.specs.declared.data_chunk.DataChunk.{DataChunk}
use Rattle.pipe_columns.specs.declared.schema.Field.{Field}
use Rattle.pipe_columns.specs.Frame.{ColumnData, field_of, fields_of, FitsSchema}
use Rattle.narrow_columns.specs.Wanted.{chosen, narrowed_chunks}
use Rattle.narrow_runs.specs.Widened.{widened_chunks, widened_columns}

-- of columns that fit the wanted fields
columns-wanted : (n : ℕ) (ws : List Bool) (fs : List Field) (cs : List ColumnData) → fields_of cs ≡ chosen ws fs → chosen ws (widened_columns n ws fs cs) ≡ cs
columns-wanted n [] fs cs fit = refl
columns-wanted n (w ∷ ws) [] [] fit = refl
columns-wanted n (w ∷ ws) [] (c ∷ cs) fit = cc
columns-wanted n (false ∷ ws) (f ∷ fs) cs fit = columns-wanted n ws fs cs fit
columns-wanted n (true ∷ ws) (f ∷ fs) [] fit = cc
columns-wanted n (true ∷ ws) (f ∷ fs) (c ∷ cs) fit =
    let rest : fields_of cs ≡ chosen ws fs = cc in
    ap (λ (t : List ColumnData). c ∷ t) (columns-wanted n ws fs cs rest)

-- they fit all fields
columns-fit : (n : ℕ) (ws : List Bool) (fs : List Field) (cs : List ColumnData) → fields_of cs ≡ chosen ws fs → fields_of (widened_columns n ws fs cs) ≡ fs
columns-fit n [] fs cs fit = fit
columns-fit n (w ∷ ws) [] cs fit = fit
columns-fit n (false ∷ ws) (f ∷ fs) cs fit = ap (λ (t : List Field). f ∷ t) (columns-fit n ws fs cs fit)
columns-fit n (true ∷ ws) (f ∷ fs) [] fit = cc
columns-fit n (true ∷ ws) (f ∷ fs) (c ∷ cs) fit =
    let one : field_of c ≡ f = cc in
    let rest : fields_of cs ≡ chosen ws fs = cc in
    let more = columns-fit n ws fs cs rest in
    λ i. one i ∷ more i

-- of chunks
pub widened-wanted : (ws : List Bool) (fs : List Field) (chunks : List DataChunk) → All (λ c. FitsSchema (chosen ws fs) c.frame) chunks → narrowed_chunks ws (widened_chunks ws fs chunks) ≡ chunks
widened-wanted ws fs [] fit = refl
widened-wanted ws fs (c ∷ cs) fit =
    let one = columns-wanted c.frame.height ws fs c.frame.columns (All-head (λ c. FitsSchema (chosen ws fs) c.frame) c cs fit) in
    let rest = widened-wanted ws fs cs (All-tail (λ c. FitsSchema (chosen ws fs) c.frame) c cs fit) in
    λ i. record { chunk_index = c.chunk_index; frame = record { height = c.frame.height; columns = one i } } ∷ rest i

-- and chunks fit them
pub widened-fit : (ws : List Bool) (fs : List Field) (chunks : List DataChunk) → All (λ c. FitsSchema (chosen ws fs) c.frame) chunks → All (λ c. FitsSchema fs c.frame) (widened_chunks ws fs chunks)
widened-fit ws fs [] fit = All-nil (λ (c : DataChunk). FitsSchema fs c.frame)
widened-fit ws fs (c ∷ cs) fit =
    All-cons (λ (c : DataChunk). FitsSchema fs c.frame) _ (widened_chunks ws fs cs)
    (columns-fit c.frame.height ws fs c.frame.columns (All-head (λ c. FitsSchema (chosen ws fs) c.frame) c cs fit))
    (widened-fit ws fs cs (All-tail (λ c. FitsSchema (chosen ws fs) c.frame) c cs fit))

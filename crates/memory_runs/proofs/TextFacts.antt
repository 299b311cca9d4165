-- The answer over a text by the columns that a query names alone.
use Rattle.std.proofs.Common.{◌≡◌, ◌∙◌, ◌+◌, ◌^◌, ◌&&◌, ℕ, nat_lt, Bool, true, if◌then◌else◌, List, [], ◌∷◌, length, Option, Some, None, Result, Ok, Err, IfOk, IfErr, IsErrOf, All, refl, sym, ap, subst, arith}
use Rattle.std.specs.List.{fold}
use Rattle.std.proofs.lemmas.List.{length-map}
use Rattle.narrow_columns.specs.Wanted.{narrowed_chunk, narrowed_chunks}
use Rattle.pipe_aggs.specs.declared.query.Query.{Query}
use Rattle.pipe_aggs.specs.QueryTrees.{query_tree}
use Rattle.pipe_columns.specs.declared.data_chunk.DataChunk.{DataChunk}
use Rattle.pipe_columns.specs.Causes.{Rose}
use Rattle.pipe_columns.specs.Frame.{FitsSchema, FrameData}
use Rattle.pipe_csv.specs.CsvRows.{field, header, missing, width}
use Rattle.pipe_csv.specs.declared.csv_error.CsvError.{CsvError}
use Rattle.pipe_csv.specs.declared.csv_error.CsvError.TheVariants as csv_error
use Rattle.pipe_io.specs.Files.{Files}
use Rattle.pipe_model.specs.Answer.{answer}
use Rattle.pipe_model.specs.Rows.{total_height}
use Rattle.pipe_source.specs.CsvChunks.{csv_chunks, CsvChunks, misfit, Stop, too_large, wanted_chunks}
use Rattle.pipe_source.specs.Reader.{chunks_left, ReaderState}
use Rattle.pipe_source.proofs.ChunksFit.{chunks-fit}
use Rattle.memory_runs.specs.Left.{IsAnswerOf, Tells, TellsLeft}
use Rattle.memory_runs.specs.TextRuns.{end_of, IsErrorOf, text_answer, text_chunks, text_file, text_name, text_options, unless_ended}
use Rattle.memory_runs.proofs.TakenFacts.{end-few}

-- ---- errors

-- an error that tells the stop is that of the result, where no input failed
told-error : {A : Type 0} (e : CsvError) (stop : Option Stop) (x : A) → (e ≡ csv_error.Input → ⊥) → Tells e stop → IsErrorOf e (unless_ended stop x)
told-error (csv_error.Missing file) stop x sound is = ap (λ (s : Option Stop). unless_ended s x) is
told-error (csv_error.Header file) stop x sound is = ap (λ (s : Option Stop). unless_ended s x) is
told-error (csv_error.Width file row) stop x sound is = ap (λ (s : Option Stop). unless_ended s x) is
told-error (csv_error.Field file row column) stop x sound is = ap (λ (s : Option Stop). unless_ended s x) is
told-error csv_error.Input stop x sound is = sound refl
told-error csv_error.TooLarge stop x sound is = ap (λ (s : Option Stop). unless_ended s x) is
told-error csv_error.Memory stop x sound is = tt

-- a count that stays at nought never rose
never-rose : Rose 0 0 → ⊥
never-rose h = omega (arith, h)

-- ---- chunks of wanted columns

-- they have as many rows, behind others
rows-behind : (ws : List Bool) (before : ℕ) (chunks : List DataChunk) → fold (λ n (c : DataChunk). n + c.frame.height) before (narrowed_chunks ws chunks) ≡ fold (λ n (c : DataChunk). n + c.frame.height) before chunks
rows-behind ws before [] = refl
rows-behind ws before (c ∷ cs) = rows-behind ws (before + c.frame.height) cs

-- so they end alike
end-same : (ws : List Bool) (given : CsvChunks) → end_of (wanted_chunks text_options ws given) ≡ end_of given
end-same ws given =
    let rows : total_height (narrowed_chunks ws given.chunks) ≡ total_height given.chunks = rows-behind ws 0 given.chunks in
    let count : length (narrowed_chunks ws given.chunks) ≡ length given.chunks = length-map given.chunks (narrowed_chunk ws) in
    λ i. if nat_lt (rows i) (2 ^ 32) && nat_lt (count i) (2 ^ 32) then given.stop else Some too_large

module _ (q n : Query) (ws : List Bool) (text : List ℕ) (r : ReaderState)
    (left : (files : Files) → chunks_left files r ≡ wanted_chunks text_options ws (csv_chunks files (text_name ∷ []) q.schema text_options))
    (law : (chunks : List DataChunk) (partitions : ℕ) → All (λ c. FitsSchema q.schema c.frame) chunks → answer (narrowed_chunks ws chunks) (query_tree n) partitions ≡ answer chunks (query_tree q) partitions) where
  -- what a reader of the wanted columns gives ends as the text does
  end-left : end_of (chunks_left (text_file text) r) ≡ end_of (text_chunks text (query_tree q))
  end-left = ap end_of (left (text_file text)) ∙ end-same ws (text_chunks text (query_tree q))

  -- why there is no answer over it is why there is none over the text
  pub text-told : (answered : Result FrameData CsvError) → (IsErrOf answered csv_error.Input → Rose 0 0) → IfErr answered (λ e. TellsLeft e (Some (text_file text)) r) → IfErr answered (λ e. IsErrorOf e (text_answer text (query_tree q)))
  text-told (Ok f) failed h = tt
  text-told (Err e) failed h =
      let end : Option Stop = end_of (text_chunks text (query_tree q)) in
      told-error e end (answer (text_chunks text (query_tree q)).chunks (query_tree q) 1) (λ is. never-rose (failed (ap Err is))) (subst (Tells e) end-left h)

  -- and the answer over it is that over the text
  pub text-answered : (answered : Result FrameData CsvError) → IfOk answered (IsAnswerOf (query_tree n) (Some (text_file text)) r) → IfOk answered (λ f. text_answer text (query_tree q) ≡ Ok f)
  text-answered (Ok f) is =
      let whole : List DataChunk = (text_chunks text (query_tree q)).chunks in
      let all : narrowed_chunks ws whole ≡ is.chunks = ap (λ (c : CsvChunks). c.chunks) (sym (left (text_file text)) ∙ is.all) in
      let none : end_of (text_chunks text (query_tree q)) ≡ None = sym end-left ∙ ap end_of is.all ∙ end-few is.chunks None is.few in
      let same : answer whole (query_tree q) 1 ≡ f = sym (law whole 1 (chunks-fit text_options q.schema (text_file text) (text_name ∷ []))) ∙ ap (λ (cs : List DataChunk). answer cs (query_tree n) 1) all ∙ sym is.answer_is in
      λ i. unless_ended (none i) (same i)
  text-answered (Err e) is = tt

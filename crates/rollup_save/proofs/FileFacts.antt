-- What is saved of files over the columns that a query names alone.
use Rattle.std.proofs.Common.{◌≡◌, ◌∙◌, ◌+◌, ◌^◌, ◌&&◌, ℕ, nat_lt, Bool, true, if◌then◌else◌, List, [], ◌∷◌, length, Option, Some, None, Result, Ok, Err, IfOk, IfErr, OnOk, Vec, refl, sym, ap, subst}
use Rattle.std.specs.declared.alloc.Global.{Global}
use Rattle.std.specs.List.{fold, list_any}
use Rattle.std.specs.Option.{IfSome}
use Rattle.std.proofs.lemmas.List.{length-map}
use Rattle.narrow_columns.specs.Wanted.{narrowed_chunk, narrowed_chunks}
use Rattle.narrow_query.specs.Names.{covers, is_column, named_fields}
use Rattle.narrow_query.specs.Narrowed.{narrowed_query, narrowed_tree}
use Rattle.pipe_aggs.specs.declared.query.Query.{Query}
use Rattle.pipe_aggs.specs.QueryTrees.{query_tree}
use Rattle.pipe_columns.specs.declared.data_chunk.DataChunk.{DataChunk}
use Rattle.pipe_columns.specs.declared.schema.Field.{Field}
use Rattle.pipe_csv.specs.declared.csv_error.CsvError.{CsvError}
use Rattle.pipe_exprs.specs.declared.expression.AExpr.{AExpr}
use Rattle.pipe_io.specs.Files.{Files}
use Rattle.pipe_model.specs.Query.{QueryTree}
use Rattle.pipe_model.specs.Rows.{total_height}
use Rattle.pipe_source.specs.CsvChunks.{csv_chunks, CsvChunks, too_large, wanted_chunks}
use Rattle.pipe_source.specs.Reader.{chunks_left, ReaderState}
use Rattle.pipe_source.proofs.ChunksFit.{chunks-fit}
use Rattle.pipe_states.specs.Parts.{part_of, saved}
use Rattle.pipe_states.specs.StateText.{state_text}
use Rattle.rollup_save.specs.Saves.{end_of, end_of_files, file_chunks, IsSavedText, save_options, Tells, text_of_files}
use Rattle.rollup_save.specs.Taken.{IsTextOf}
use Rattle.rollup_save.proofs.RoundFacts.{end-few}
use Rattle.rollup_save.proofs.StateFacts.{state-same, text-same}

-- as many fields are told as wanted or not as there are
pub named-many : (exprs : List AExpr) (schema fields : List Field) (ws : List Bool) → fields ≡ schema → ws ≡ named_fields exprs schema → length ws ≡ length fields
named-many exprs schema fields ws same is =
    ap (λ (l : List Bool). length l) is ∙ length-map schema (λ (f : Field). list_any (is_column f.name) exprs) ∙ ap (λ (l : List Field). length l) (sym same)

-- ---- chunks of wanted columns

-- they have as many rows, behind others
rows-behind : (ws : List Bool) (before : ℕ) (chunks : List DataChunk) → fold (λ n (c : DataChunk). n + c.frame.height) before (narrowed_chunks ws chunks) ≡ fold (λ n (c : DataChunk). n + c.frame.height) before chunks
rows-behind ws before [] = refl
rows-behind ws before (c ∷ cs) = rows-behind ws (before + c.frame.height) cs

-- so they end alike
end-same : (ws : List Bool) (first : ℕ) (given : CsvChunks) → end_of first (wanted_chunks save_options ws given) ≡ end_of first given
end-same ws first given =
    let rows : total_height (narrowed_chunks ws given.chunks) ≡ total_height given.chunks = rows-behind ws 0 given.chunks in
    let count : length (narrowed_chunks ws given.chunks) ≡ length given.chunks = length-map given.chunks (narrowed_chunk ws) in
    λ i. if nat_lt (rows i) (2 ^ 32) && nat_lt (first + count i) (2 ^ 32) then given.stop else Some too_large

module _ (q : Query) (ws : List Bool) (first : ℕ) (names : List (List ℕ)) (covered : covers ws (query_tree q) ≡ true) (r : ReaderState)
    (left : (files : Files) → chunks_left files r ≡ wanted_chunks save_options ws (csv_chunks files names q.schema save_options)) where
  -- what a reader of the wanted columns gives ends as the files do
  end-left : (files : Files) → end_of first (chunks_left files r) ≡ end_of_files files names (query_tree q) first
  end-left files = ap (end_of first) (left files) ∙ end-same ws first (file_chunks files names (query_tree q))

  -- why saving it ends is why that of the files does
  file-told : (told : Option Files) (e : CsvError) → IfSome told (λ files. Tells e (end_of first (chunks_left files r))) → IfSome told (λ files. Tells e (end_of_files files names (query_tree q) first))
  file-told None e h = tt
  file-told (Some files) e h = subst (Tells e) (end-left files) h

  -- where all of it was saved, nothing ended the files
  file-whole : (told : Option Files) (text : List ℕ) → IsTextOf (query_tree (narrowed_query ws q)) first told r text → IfSome told (λ files. end_of_files files names (query_tree q) first ≡ None)
  file-whole None text is = tt
  file-whole (Some files) text is = sym (end-left files) ∙ ap (end_of first) is.saved.all ∙ end-few first is.saved.chunks None is.saved.can.few

  -- and the text is that of the files
  file-text : (told : Option Files) (text : List ℕ) → IsTextOf (query_tree (narrowed_query ws q)) first told r text → IfSome told (λ files. text ≡ text_of_files files names (query_tree q) first)
  file-text None text is = tt
  file-text (Some files) text is =
      let t : QueryTree = query_tree q in
      let narrow : QueryTree = narrowed_tree ws t in
      let whole : List DataChunk = (file_chunks files names t).chunks in
      let all : narrowed_chunks ws whole ≡ is.saved.chunks = ap (λ (c : CsvChunks). c.chunks) (sym (left files) ∙ is.saved.all) in
      let state : is.state ≡ saved t (part_of t first whole) =
      is.saved.state ∙ ap (λ (cs : List DataChunk). saved narrow (part_of narrow first cs)) (sym all) ∙ state-same ws t first whole (chunks-fit save_options t.schema files names) covered in
      is.is ∙ ap (state_text narrow) state ∙ text-same ws t (saved t (part_of t first whole)) covered

  -- so of what saving them answers
  pub answer-told : (told : Option Files) (answer : Result (Vec ℕ Global) CsvError) → IfErr answer (λ e. IfSome told (λ files. Tells e (end_of first (chunks_left files r)))) → IfErr answer (λ e. IfSome told (λ files. Tells e (end_of_files files names (query_tree q) first)))
  answer-told told (Ok v) h = tt
  answer-told told (Err e) h = file-told told e h

  pub answer-whole : (told : Option Files) (answer : Result (Vec ℕ Global) CsvError) → IfOk answer (λ v. IsTextOf (query_tree (narrowed_query ws q)) first told r v.items) → OnOk answer (IfSome told (λ files. end_of_files files names (query_tree q) first ≡ None))
  answer-whole told (Ok v) is = file-whole told v.items is
  answer-whole told (Err e) is = tt

  pub answer-text : (told : Option Files) (answer : Result (Vec ℕ Global) CsvError) → IfOk answer (λ v. IsTextOf (query_tree (narrowed_query ws q)) first told r v.items) → IfOk answer (λ v. IfSome told (λ files. v.items ≡ text_of_files files names (query_tree q) first))
  answer-text told (Ok v) is = file-text told v.items is
  answer-text told (Err e) is = tt

-- a text that is of chunks of wanted columns, whatever is told of the files
saved-text : (q : Query) (ws : List Bool) (first : ℕ) (told : Option Files) (r : ReaderState) (text : List ℕ) → covers ws (query_tree q) ≡ true
    → IsTextOf (query_tree (narrowed_query ws q)) first told r text → IsSavedText (query_tree q) first text
saved-text q ws first told r text covered is =
    let t : QueryTree = query_tree q in
    let narrow : QueryTree = narrowed_tree ws t in
    record {
      wanted = ws;
      named = covered;
      chunks = is.saved.chunks;
      can = is.saved.can;
      text_is = is.is ∙ ap (state_text narrow) is.saved.state ∙ text-same ws t (saved narrow (part_of narrow first is.saved.chunks)) covered;
    }

-- so of what saving files answers
pub answer-saved : (q : Query) (ws : List Bool) (first : ℕ) (told : Option Files) (r : ReaderState) (answer : Result (Vec ℕ Global) CsvError) → covers ws (query_tree q) ≡ true
    → IfOk answer (λ v. IsTextOf (query_tree (narrowed_query ws q)) first told r v.items) → IfOk answer (λ v. IsSavedText (query_tree q) first v.items)
answer-saved q ws first told r (Ok v) covered is = saved-text q ws first told r v.items covered is
answer-saved q ws first told r (Err e) covered is = tt

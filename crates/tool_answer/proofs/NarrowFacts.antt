-- A run over the columns that its query names is one over all columns.
use Rattle.std.proofs.Common.{◌≡◌, ◌∙◌, ◌&&◌, ◌^◌, ◌++◌, ℕ, Bool, true, false, if◌then◌else◌, List, [], length, refl, sym, ap, subst, take, drop, take-append-drop, Option, None, Some}
use Rattle.std.specs.Prelude.{nat_lt}
use Rattle.std.specs.List.{list_any}
use Rattle.std.proofs.lemmas.List.{length-map, take-map}
use Rattle.std.proofs.lemmas.List.Elements.{All-nil, All-take}
use Rattle.std.proofs.Math.Seq.{take-append_seam}
use Rattle.pipe_aggs.specs.declared.query.Query.{Query}
use Rattle.pipe_aggs.specs.QueryTrees.{query_tree}
use Rattle.pipe_columns.specs.declared.data_chunk.DataChunk.{DataChunk}
use Rattle.pipe_columns.specs.declared.schema.Field.{Field}
use Rattle.pipe_columns.specs.Frame.{FitsSchema}
use Rattle.pipe_exprs.specs.declared.expression.AExpr.{AExpr}
use Rattle.pipe_io.specs.Files.{Files}
use Rattle.pipe_model.specs.Output.{key_types}
use Rattle.pipe_model.specs.Query.{QueryTree}
use Rattle.narrow_query.specs.Names.{covers, is_column, named_fields}
use Rattle.narrow_query.specs.Narrowed.{narrowed_query}
use Rattle.narrow_query.proofs.AnswerFacts.{keys-same}
use Rattle.pipe_plan.specs.declared.limits.SinkKind.{SinkKind}
use Rattle.pipe_plan.specs.Run.{StoreSeen}
use Rattle.pipe_run.specs.Answered.{HaveWholeFrames, IsAnswered}
use Rattle.pipe_run.specs.Refusals.{AllHaveFields}
use Rattle.pipe_run.specs.declared.output.GroupByOutput.{GroupByOutput}
use Rattle.pipe_source.specs.CsvChunks.{CsvChunks, csv_chunks, wanted_chunks, too_large}
use Rattle.pipe_source.specs.Reader.{chunks_left, ReaderState}
use Rattle.pipe_source.proofs.ChunksFit.{chunks-fit}
use Rattle.narrow_columns.specs.Wanted.{chosen, narrowed_chunk, narrowed_chunks}
use Rattle.narrow_runs.specs.Widened.{widened_chunks}
use Rattle.narrow_runs.proofs.FewerFacts.{chunks-as-many, fewer-answered, fewer-left, rows-as-many}
use Rattle.narrow_runs.proofs.WidenedFacts.{widened-fit, widened-wanted}
use Rattle.pipe_words.specs.Plans.{PlanSeen}
use Rattle.tool_run.specs.Answering.{AreFedOf}
use Rattle.tool_run.specs.Reading.{AreAll, are_few, end_of}
use Rattle.tool_words.specs.Asked.{does_keep, files_named}
use Rattle.tool_answer.specs.Asking.{asked_run, input_chunks, read_options}
use Rattle.tool_answer.specs.Headline.{AreFedInput, AreInput}

-- ---- what is read

-- a reader has the wanted columns of the files of a plan left
pub record IsReader (p : PlanSeen) (q : QueryTree) (ws : List Bool) (first : ReaderState) : Type 0 where
  pub left : (files : Files) → chunks_left files first ≡ wanted_chunks (read_options p) ws (input_chunks files p q)

-- the reader of these columns, by options that are told
pub reader-is : (p : PlanSeen) (q : Query) (ws : List Bool) (first : ReaderState) (schema : List Field) → schema ≡ q.schema → first.options ≡ read_options p
    → ((files : Files) → chunks_left files first ≡ wanted_chunks first.options ws (csv_chunks files (files_named p.words) schema first.options)) → IsReader p (query_tree q) ws first
reader-is p q ws first schema same options left = record { left = λ files. left files ∙ alike files } where
  alike : (files : Files) → wanted_chunks first.options ws (csv_chunks files (files_named p.words) schema first.options) ≡ wanted_chunks (read_options p) ws (input_chunks files p (query_tree q))
  alike files = λ i. wanted_chunks (options i) ws (csv_chunks files (files_named p.words) (same i) (options i))

-- as few chunks with as few rows
pub few-same : (ws : List Bool) (chunks : List DataChunk) → are_few (narrowed_chunks ws chunks) ≡ are_few chunks
few-same ws chunks = λ i. nat_lt (rows-as-many ws chunks i) (2 ^ 32) && nat_lt (chunks-as-many ws chunks i) (2 ^ 32)

-- so their reading ends alike
pub end-same : (p : PlanSeen) (ws : List Bool) (given : CsvChunks) → end_of (wanted_chunks (read_options p) ws given) ≡ end_of given
end-same p ws given = ap (λ (b : Bool). if b then given.stop else Some too_large) (few-same ws given.chunks)

-- chunks of the wanted columns are what is wanted of whole ones: those of the files, where they are told
pub record AreRead (p : PlanSeen) (q : QueryTree) (ws : List Bool) (told : Option Files) (chunks : List DataChunk) : Type 0 where
  pub whole : List DataChunk
  pub wanted : narrowed_chunks ws whole ≡ chunks
  pub fit : AllHaveFields q.schema whole
  pub input : AreInput p q told whole

pub whole-read : (p : PlanSeen) (q : QueryTree) (ws : List Bool) (told : Option Files) (first : ReaderState) (chunks : List DataChunk) → IsReader p q ws first
    → AllHaveFields (chosen ws q.schema) chunks → AreAll told first chunks → AreRead p q ws told chunks
whole-read p q ws None first chunks reader fit all = record {
  whole = widened_chunks ws q.schema chunks;
  wanted = widened-wanted ws q.schema chunks fit;
  fit = widened-fit ws q.schema chunks fit;
  input = tt;
}
whole-read p q ws (Some files) first chunks reader fit all =
    let given : CsvChunks = input_chunks files p q in
    let is : wanted_chunks (read_options p) ws given ≡ record { chunks = chunks; stop = None } = sym (reader.left files) ∙ all in
    let ended : given.stop ≡ None = ap (λ (r : CsvChunks). r.stop) is in
    record {
      whole = given.chunks;
      wanted = ap (λ (r : CsvChunks). r.chunks) is;
      fit = chunks-fit (read_options p) q.schema files (files_named p.words);
      input = λ i. record { chunks = given.chunks; stop = ended i };
    }

-- the same of chunks that a run was fed
pub record AreFedWhole (p : PlanSeen) (q : QueryTree) (ws : List Bool) (told : Option Files) (is_open : Bool) (chunks : List DataChunk) : Type 0 where
  pub whole : List DataChunk
  pub wanted : narrowed_chunks ws whole ≡ chunks
  pub fit : AllHaveFields q.schema whole
  pub fed : AreFedInput p q told is_open whole

pub fed-whole : (p : PlanSeen) (q : QueryTree) (ws : List Bool) (told : Option Files) (first : ReaderState) (is_open : Bool) (chunks : List DataChunk) → IsReader p q ws first
    → AllHaveFields (chosen ws q.schema) chunks → AreFedOf told first is_open chunks → AreFedWhole p q ws told is_open chunks
fed-whole p q ws told first false chunks reader fit fed =
    let read : AreRead p q ws told chunks = whole-read p q ws told first chunks reader fit fed in
    record { whole = read.whole; wanted = read.wanted; fit = read.fit; fed = read.input }
fed-whole p q ws None first true chunks reader fit fed = record {
  whole = widened_chunks ws q.schema chunks;
  wanted = widened-wanted ws q.schema chunks fit;
  fit = widened-fit ws q.schema chunks fit;
  fed = tt;
}
fed-whole p q ws (Some files) first true chunks reader fit fed =
    let all : List DataChunk = (input_chunks files p q).chunks in
    let n : ℕ = length chunks in
    let is : narrowed_chunks ws all ≡ chunks ++ fed.rest = sym (ap (λ (r : CsvChunks). r.chunks) (reader.left files)) ∙ fed.is in
    record {
      whole = take n all;
      wanted = sym (take-map (narrowed_chunk ws) n all) ∙ ap (take n) is ∙ take-append_seam chunks fed.rest;
      fit = All-take (λ (c : DataChunk). FitsSchema q.schema c.frame) n all (chunks-fit (read_options p) q.schema files (files_named p.words));
      fed = record { rest = drop n all; is = sym (take-append-drop n all) };
    }

-- a run that was fed nothing
pub fed-none : (p : PlanSeen) (q : QueryTree) (told : Option Files) → AreFedInput p q told true []
fed-none p q None = tt
fed-none p q (Some files) = record { rest = (input_chunks files p q).chunks; is = refl }

pub none-whole : (p : PlanSeen) (q : QueryTree) (ws : List Bool) (told : Option Files) (chunks : List DataChunk) → chunks ≡ [] → AreFedWhole p q ws told true chunks
none-whole p q ws told chunks none = record {
  whole = [];
  wanted = sym none;
  fit = All-nil (λ (c : DataChunk). FitsSchema q.schema c.frame);
  fed = fed-none p q told;
}

-- ---- what is run

-- a sink that keeps the keys of a query keeps those of the narrowed one
pub keeps-narrow : (sink : SinkKind) (q now : Query) (ws : List Bool) → covers ws (query_tree q) ≡ true → now ≡ narrowed_query ws q
    → does_keep sink (key_types (query_tree q)) ≡ true → does_keep sink (key_types (query_tree now)) ≡ true
keeps-narrow sink q now ws covered is keeps =
    ap (λ (k : Query). does_keep sink (key_types (query_tree k))) is ∙ ap (does_keep sink) (keys-same ws (query_tree q) covered) ∙ keeps

-- as many fields are told as wanted or not as there are
pub named-many : (exprs : List AExpr) (schema fields : List Field) (ws : List Bool) → fields ≡ schema → ws ≡ named_fields exprs schema → length ws ≡ length fields
named-many exprs schema fields ws same is =
    ap (λ (l : List Bool). length l) is ∙ length-map schema (λ (f : Field). list_any (is_column f.name) exprs) ∙ ap (λ (l : List Field). length l) (sym same)

module _ (p : PlanSeen) (q : Query) (ws : List Bool) (covered : covers ws (query_tree q) ≡ true) (made stores : List StoreSeen) where
  -- a run that was answered
  pub whole-answered : (out : GroupByOutput) (whole : List DataChunk) → AllHaveFields q.schema whole
      → IsAnswered (asked_run p (query_tree (narrowed_query ws q)) false (narrowed_chunks ws whole) made) out stores
      → IsAnswered (asked_run p (query_tree q) false whole made) out stores
  whole-answered out whole fit is = fewer-answered ws (asked_run p (query_tree q) false whole made) out stores fit covered is

  -- what one left of its stores
  pub whole-frames : (is_open : Bool) (chunks whole : List DataChunk) → narrowed_chunks ws whole ≡ chunks → AllHaveFields q.schema whole
      → HaveWholeFrames (asked_run p (query_tree (narrowed_query ws q)) is_open chunks made) stores
      → HaveWholeFrames (asked_run p (query_tree q) is_open whole made) stores
  whole-frames is_open chunks whole wanted fit frames =
      fewer-left ws (asked_run p (query_tree q) is_open whole made) stores fit covered
      (subst (λ (cs : List DataChunk). HaveWholeFrames (asked_run p (query_tree (narrowed_query ws q)) is_open cs made) stores) (sym wanted) frames)

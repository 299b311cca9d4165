-- What holds of the stores of a run, and why it ends early.
use Rattle.std.proofs.Common.{◌≡◌, ◌∙◌, ◌<◌, ◌≤◌, ◌^◌, ◌==◌, ℕ, Bool, true, false, List, [], ◌∷◌, ◌++◌, length, map, refl, sym, ap, subst, arith, suc, zero, inl, inr, rules, Option, None, Some, Result, Ok, Err}
use Rattle.std.specs.Prelude.{◌⊎◌, ◌&&◌, IfErr, IfOk, IfSome, IsTrue, is_some, nat_lt}
use Rattle.std.specs.Cmp.Derive.{both_true}
use Rattle.std.specs.List.{All, list_all, slice_index_or}
use Rattle.std.proofs.lemmas.Bool.{false≢true, le-leb, lt-ltb}
use Rattle.std.proofs.lemmas.List.{ext_get_or, get_or-map, length-map}
use Rattle.std.proofs.lemmas.List.Elements.{All-from_get_or, All-head, All-nil, All-tail}
use Rattle.pipe_columns.specs.Causes.{Rose}
use Rattle.pipe_columns.specs.declared.data_chunk.DataChunk.{DataChunk}
use Rattle.pipe_aggs.specs.declared.query.Query.{Query}
use Rattle.pipe_aggs.specs.QueryTrees.{query_tree}
use Rattle.pipe_columns.specs.declared.schema.Field.{Field}
use Rattle.pipe_columns.specs.Frame.{FitsSchema, FrameData}
use Rattle.pipe_columns.specs.Row.{Row}
use Rattle.pipe_global.specs.Partition.{no_store, store_of, with_frames}
use Rattle.pipe_csv.specs.CsvRows.{field, header, missing, width}
use Rattle.pipe_csv.specs.declared.csv_error.CsvError.TheVariants as csv_error
use Rattle.pipe_io.specs.Files.{Files}
use Rattle.pipe_lines.specs.Lines.{joined_texts, lines_of, LineText}
use Rattle.pipe_model.specs.Output.{output_schema}
use Rattle.pipe_model.specs.Query.{QueryTree}
use Rattle.pipe_columns.specs.declared.data_type.DataType.{DataType}
use Rattle.pipe_plan.specs.declared.event.PartitionEvent.{PartitionEvent}
use Rattle.pipe_plan.specs.declared.limits.SinkKind.{SinkKind}
use Rattle.pipe_plan.specs.declared.limits.SinkKind.TheVariants as sink_kind
use Rattle.pipe_plan.specs.Run.{Run, StoreSeen, tells}
use Rattle.tool_stores.specs.StorePath.{store_paths}
use Rattle.pipe_run.specs.Answered.{HasFrames, HaveWholeFrames, IsAnswered}
use Rattle.pipe_run.specs.Failing.{NoneFailed}
use Rattle.pipe_run.specs.Fed.{FedSeen}
use Rattle.pipe_run.specs.declared.error.PipeError.TheVariants as pipe_error
use Rattle.pipe_run.specs.declared.output.GroupByOutput.{GroupByOutput}
use Rattle.pipe_run.specs.declared.output.TextOutput.{TextOutput}
use Rattle.pipe_source.specs.CsvChunks.{misfit, Stop, too_large}
use Rattle.pipe_source.specs.Reader.{chunks_left, ReaderState}
use Rattle.tool_run.specs.Answering.{AreFedOf, IsAnsweredFrom, IsRunEnd}
use Rattle.tool_run.specs.Answering as run
use Rattle.tool_run.specs.Reading.{are_few, end_of}
use Rattle.tool_run.specs.declared.error.FileRunError.{FileRunError}
use Rattle.tool_run.specs.declared.error.FileRunError.TheVariants as run_error
use Rattle.tool_words.specs.Asked.{asks, does_keep}
use Rattle.pipe_run.specs.Refusals.{AllHaveFields, lies_between, limits_fit, suits_keys}
use Rattle.pipe_run.specs.Setting.{run_over, Setting}
use Rattle.pipe_run.specs.WholeRun.{setting_fits}
use Rattle.pipe_run.proofs.RunEnds.{untouched-in}
use Rattle.pipe_words.specs.Plans.{CanRun, PlanSeen}
use Rattle.pipe_words.specs.declared.plan.Format.{Format}
use Rattle.pipe_words.specs.declared.plan.Format.TheVariants as format
use Rattle.pipe_writers.proofs.TextFacts.{csv-of-frame, json-of-frame}
use Rattle.tool_answer.specs.declared.fault.ToolFault.TheVariants as fault
use Rattle.tool_answer.specs.Asking.{asked_run, has_folder, input_chunks}
use Rattle.pipe_plan.specs.Stores.{stores_seen}
use Rattle.tool_answer.specs.Ended.{HasFailed, HasUntold, IsMade, IsSoundStore, NeverFailed}
use Rattle.tool_answer.specs.Faults.{EndsFor, IsCaused}
use Rattle.tool_answer.specs.Inside.{CanCome, file_fault, IsOfRun}
use Rattle.tool_answer.specs.Formats.{shape_in, text_in}
use Rattle.tool_answer.specs.Headline.{AreFedInput, HasAnswer, HasRunTo, HaveFront}
use Rattle.narrow_query.specs.Names.{covers}
use Rattle.narrow_query.specs.Narrowed.{narrowed_query}
use Rattle.narrow_columns.specs.Wanted.{chosen}
use Rattle.tool_answer.proofs.NarrowFacts.{AreFedWhole, AreRead, end-same, fed-whole, few-same, IsReader, none-whole, whole-answered, whole-frames, whole-read}

-- how the run of a plan is begun
abbrev pub setting_of : PlanSeen → Query → List StoreSeen → Setting
setting_of p q made = record {
  query = q;
  limits = p.limits;
  actions = p.actions;
  rules = p.rules;
  stores = made;
}

-- ---- the sink

-- a sink that keeps keys of some types suits them
pub keeps_suits : (sink : SinkKind) (types : List DataType) → does_keep sink types ≡ true → suits_keys sink types ≡ true
keeps_suits sink_kind.Generic types keeps = refl
keeps_suits sink_kind.Primitive [] keeps = keeps
keeps_suits sink_kind.Primitive (t ∷ []) keeps = both_true keeps refl
keeps_suits sink_kind.Primitive (t ∷ u ∷ more) keeps = absurd (false≢true keeps)
keeps_suits sink_kind.Text [] keeps = keeps
keeps_suits sink_kind.Text (t ∷ []) keeps = both_true keeps refl
keeps_suits sink_kind.Text (t ∷ u ∷ more) keeps = absurd (false≢true keeps)

-- ---- limits

-- stores as they are made have numbers left
held-few : {S : Type 0} (held : S → ℕ) (told : S → Option (List (List ℕ))) (faults : S → ℕ) (sure : S → Bool) (path : S → Option (List ℕ)) (folder : Option (List ℕ)) (items : List S)
    → All (IsMade folder) (stores_seen held told faults sure path items) → list_all (λ n. nat_lt n (2 ^ 63)) (map held items) ≡ true
held-few held told faults sure path folder [] all = refl
held-few {S = S} held told faults sure path folder (x ∷ xs) all =
    let f : S → StoreSeen = λ s. record { held = held s; told = told s; faults = faults s; sure = sure s; path = path s } in
    both_true (lt-ltb (held x) (2 ^ 63) (omega (arith, (All-head (IsMade folder) (f x) (map f xs) all).held)))
    (held-few held told faults sure path folder xs (All-tail (IsMade folder) (f x) (map f xs) all))

same-number : (a b : ℕ) → a ≡ b → (a == b) ≡ true
same-number a b e = rw e (search rules)

between : (low high n : ℕ) → low ≤ n → n ≤ high → lies_between low high n ≡ true
between low high n above below = both_true (le-leb low n above) (le-leb n high below)

-- limits that fit, and a rule for each worker
pub rules_fit : (fit : Bool) (n workers : ℕ) → fit ≡ true → n ≡ workers → (fit && (n == workers)) ≡ true
rules_fit fit n workers fits each = both_true fits (same-number n workers each)

-- a plan that can be run has limits that fit, over stores as they are made
pub plan-fits : {S : Type 0} (held : S → ℕ) (told : S → Option (List (List ℕ))) (faults : S → ℕ) (sure : S → Bool) (path : S → Option (List ℕ)) (p : PlanSeen) (n : ℕ) (items : List S)
    → CanRun p → n ≡ length p.actions → All (IsMade p.spill_dir) (stores_seen held told faults sure path items) → length items ≡ p.limits.partitions
    → limits_fit p.limits n (map held items) ≡ true
plan-fits held told faults sure path p n items can number new count =
    let l = p.limits in
    both_true (both_true (both_true (both_true (both_true
    (between 1 256 l.workers can.limits.some_worker can.limits.most_workers)
    (between 1 4096 l.partitions can.limits.some_partition can.limits.most_partitions))
    (lt-ltb 0 l.buffer_size can.limits.some_buffer))
    (same-number n l.workers (number ∙ can.actions)))
    (same-number (length (map held items)) l.partitions (length-map items held ∙ count)))
    (held-few held told faults sure path p.spill_dir items new)

-- the paths of stores as they are seen
seen-paths : {S : Type 0} (held : S → ℕ) (told : S → Option (List (List ℕ))) (faults : S → ℕ) (sure : S → Bool) (path : S → Option (List ℕ)) (items : List S)
    → map (λ (s : StoreSeen). s.path) (stores_seen held told faults sure path items) ≡ map path items
seen-paths held told faults sure path [] = refl
seen-paths held told faults sure path (x ∷ xs) = ap (λ l. path x ∷ l) (seen-paths held told faults sure path xs)

-- how a run was begun
pub record Began (p : PlanSeen) (q : Query) (made : List StoreSeen) (s : FedSeen) : Type 0 where
  pub new : All (IsMade p.spill_dir) made
  pub count : length made ≡ p.limits.partitions
  pub paths : map (λ s. s.path) made ≡ store_paths p.spill_dir p.limits.partitions
  pub setting : s.setting ≡ setting_of p q made

pub began-of : {S : Type 0} (held : S → ℕ) (told : S → Option (List (List ℕ))) (faults : S → ℕ) (sure : S → Bool) (path : S → Option (List ℕ)) (p : PlanSeen) (q : Query) (items : List S) (s : FedSeen)
    → All (IsMade p.spill_dir) (stores_seen held told faults sure path items) → length items ≡ p.limits.partitions → map path items ≡ store_paths p.spill_dir p.limits.partitions
    → s.setting ≡ setting_of p q (stores_seen held told faults sure path items) → Began p q (stores_seen held told faults sure path items) s
began-of held told faults sure path p q items s new count paths setting =
    record { new = new; count = length-map items _ ∙ count; paths = seen-paths held told faults sure path items ∙ paths; setting = setting }

-- the same of a query that is told as the narrowed one
pub began-narrow : {S : Type 0} (held : S → ℕ) (told : S → Option (List (List ℕ))) (faults : S → ℕ) (sure : S → Bool) (path : S → Option (List ℕ)) (p : PlanSeen) (q now : Query) (ws : List Bool) (items : List S) (s : FedSeen)
    → All (IsMade p.spill_dir) (stores_seen held told faults sure path items) → length items ≡ p.limits.partitions → map path items ≡ store_paths p.spill_dir p.limits.partitions → now ≡ narrowed_query ws q → s.setting ≡ setting_of p now (stores_seen held told faults sure path items)
    → Began p (narrowed_query ws q) (stores_seen held told faults sure path items) s
began-narrow held told faults sure path p q now ws items s new count paths is setting =
    began-of held told faults sure path p (narrowed_query ws q) items s new count paths (setting ∙ ap (λ (k : Query). setting_of p k (stores_seen held told faults sure path items)) is)

-- the columns that are read are those of its query
pub fields-narrow : (p : PlanSeen) (q now : Query) (ws : List Bool) (made : List StoreSeen) (s : FedSeen) (schema fields : List Field) → now ≡ narrowed_query ws q → s.setting ≡ setting_of p now made
    → schema ≡ q.schema → fields ≡ chosen ws schema → fields ≡ s.setting.query.schema
fields-narrow p q now ws made s schema fields is setting same read =
    read ∙ ap (chosen ws) same ∙ sym (ap (λ (x : Setting). x.query.schema) setting ∙ ap (λ (k : Query). k.schema) is)

-- what a run over the wanted columns left: whole frames over chunks that it was fed
pub record Left (p : PlanSeen) (q : Query) (ws : List Bool) (told : Option Files) (s : FedSeen) (stores : List StoreSeen) : Type 0 where
  pub chunks : List DataChunk
  pub is_open : Bool
  pub wide : AreFedWhole p (query_tree q) ws told is_open chunks
  pub frames : HaveWholeFrames (run_over s.setting is_open chunks) stores

-- one that was fed nothing
pub left-none : (p : PlanSeen) (q : Query) (ws : List Bool) (told : Option Files) (s : FedSeen) (stores : List StoreSeen) → s.chunks ≡ [] → HaveWholeFrames (run_over s.setting true s.chunks) stores → Left p q ws told s stores
left-none p q ws told s stores none frames = record {
  chunks = s.chunks;
  is_open = true;
  wide = none-whole p (query_tree q) ws told s.chunks none;
  frames = frames;
}

-- one that was fed what a reader gave
pub left-read : (p : PlanSeen) (q : Query) (ws : List Bool) (made stores : List StoreSeen) (s : FedSeen) (told : Option Files) (first : ReaderState) → Began p (narrowed_query ws q) made s → IsReader p (query_tree q) ws first
    → run.HaveFront s.setting (AreFedOf told first) stores → Left p q ws told s stores
left-read p q ws made stores s told first began reader back =
    let fit : AllHaveFields (chosen ws q.schema) back.chunks = subst (λ (x : Setting). AllHaveFields x.query.schema back.chunks) began.setting back.fit in
    record {
      chunks = back.chunks;
      is_open = back.is_open;
      wide = fed-whole p (query_tree q) ws told first back.is_open back.chunks reader fit back.fed;
      frames = back.frames;
    }

-- stores as they are made have the frames of no run
pub front-made : {S : Type 0} (held : S → ℕ) (told : S → Option (List (List ℕ))) (faults : S → ℕ) (sure : S → Bool) (path : S → Option (List ℕ)) (p : PlanSeen) (q : Query) (Fed : Bool → List DataChunk → Type 0) (items now : List S)
    → CanRun p → All (IsMade p.spill_dir) (stores_seen held told faults sure path items) → length items ≡ p.limits.partitions → map path items ≡ store_paths p.spill_dir p.limits.partitions
    → Fed true [] → now ≡ items
    → HaveFront p (query_tree q) Fed (stores_seen held told faults sure path now)
front-made {S = S} held told faults sure path p q Fed items now can new count paths none same =
    let made : List StoreSeen = stores_seen held told faults sure path items in
    let fit : setting_fits (setting_of p q made) ≡ true =
    ap (λ l. limits_fit p.limits (length p.actions) l) (map-map items)
    ∙ plan-fits held told faults sure path p (length p.actions) items can refl new count in
    rw same (record {
      made = made;
      are_made = new;
      count = length-map items _ ∙ count;
      paths = seen-paths held told faults sure path items ∙ paths;
      chunks = [];
      is_open = true;
      fed = none;
      fit = All-nil (λ (c : DataChunk). FitsSchema q.schema c.frame);
      frames = untouched-in (setting_of p q made) true [] fit;
    })
  where
    map-map : (xs : List S) → map (λ (s : StoreSeen). s.held) (stores_seen held told faults sure path xs) ≡ map held xs
    map-map [] = refl
    map-map (x ∷ xs) = ap (λ l. held x ∷ l) (map-map xs)

-- ---- stores without a folder

-- a store that is sure never failed
module _ {S : Type 0} (held : S → ℕ) (told : S → Option (List (List ℕ))) (faults : S → ℕ) (sure : S → Bool) (path : S → Option (List ℕ)) (never : (s : S) → IsTrue (sure s) → faults s ≡ 0) where
  pub never-seen : (items : List S) → All (λ s. IsTrue s.sure → s.faults ≡ 0) (stores_seen held told faults sure path items)
  never-seen [] k d lt = absurd (omega (arith, lt))
  never-seen (s ∷ ss) zero d lt = never s
  never-seen (s ∷ ss) (suc k) d lt = never-seen ss k d (omega (arith, lt))

told-some : (t s : Option (List (List ℕ))) (more : List (List ℕ)) → s ≡ with_frames t more → t ≡ Some [] → is_some s ≡ true
told-some t s more is some = ap (λ (o : Option (List (List ℕ))). is_some o) (is ∙ ap (λ (o : Option (List (List ℕ))). with_frames o more) some)

told-none : (t s : Option (List (List ℕ))) (more : List (List ℕ)) → s ≡ with_frames t more → t ≡ None → s ≡ None
told-none t s more is none = is ∙ ap (λ (o : Option (List (List ℕ))). with_frames o more) none

folder-or : (folder : Option (List ℕ)) → (folder ≡ None) ⊎ (is_some folder ≡ true)
folder-or None = inl refl
folder-or (Some f) = inr refl

told-before : (t s : Option (List (List ℕ))) (more : List (List ℕ)) → s ≡ with_frames t more → is_some s ≡ true → is_some t ≡ true
told-before None s more is tells = absurd (false≢true (sym (ap (λ (o : Option (List (List ℕ))). is_some o) is) ∙ tells))
told-before (Some frames) s more is tells = refl

-- stores that have frames of a run behind those that they were made with
pub record HaveFrames (r : Run) (stores : List StoreSeen) : Type 0 where
  pub count : length stores ≡ r.limits.partitions
  pub each : (k : ℕ) → k < r.limits.partitions → (frames : List (List Row)) × HasFrames (store_of r k) r frames (slice_index_or stores k no_store)

pub whole-are : (r : Run) (stores : List StoreSeen) → HaveWholeFrames r stores → HaveFrames r stores
whole-are r stores all = record { count = all.count; each = λ k lt. ((all.each k lt).frames, (all.each k lt).has) }

pub replayed-are : (r : Run) (out : GroupByOutput) (stores : List StoreSeen) → IsAnswered r out stores → HaveFrames r stores
replayed-are r out stores is = record { count = is.frames.count; each = λ k lt. (_, is.frames.each k lt) }

-- stores that have frames of a run have the paths that they were made with
pub paths-kept : (r : Run) (stores : List StoreSeen) → length r.stores ≡ r.limits.partitions → HaveFrames r stores → map (λ (s : StoreSeen). s.path) stores ≡ map (λ (s : StoreSeen). s.path) r.stores
paths-kept r stores count frames =
    let path : StoreSeen → Option (List ℕ) = λ s. s.path in
    ext_get_or None (map path stores) (map path r.stores) (length-map stores path ∙ frames.count ∙ sym count ∙ sym (length-map r.stores path))
    (λ k lt.
    let here : k < r.limits.partitions = omega (arith, lt, length-map stores path, frames.count) in
    get_or-map path stores k no_store None (omega (arith, here, frames.count))
    ∙ (frames.each k here).1.path
    ∙ sym (get_or-map path r.stores k no_store None (omega (arith, here, count))))

module _ (p : PlanSeen) (q : QueryTree) (is_open : Bool) (chunks : List DataChunk) (made : List StoreSeen) (stores : List StoreSeen)
    (new : All (IsMade p.spill_dir) made) (count : length made ≡ p.limits.partitions)
    (frames : HaveFrames (asked_run p q is_open chunks made) stores) where
  -- where the stores tell now, they told as they were made
  pub told-made : All IsSoundStore stores → All (λ (s : StoreSeen). tells s ≡ true) made
  told-made sound = All-from_get_or (λ (s : StoreSeen). tells s ≡ true) made no_store (λ k lt.
      let here : k < p.limits.partitions = omega (arith, lt, count) in
      told-before _ _ _ (frames.each k here).1.told (sound k no_store (omega (arith, here, frames.count))).told)

  module _ (never : All (λ (s : StoreSeen). IsTrue s.sure → s.faults ≡ 0) stores) where
    -- without a folder they are sound, whatever a run left of them
    pub sound-at : p.spill_dir ≡ None → (k : ℕ) → k < length stores → IsSoundStore (slice_index_or stores k no_store)
    sound-at none k lt =
        let here : k < p.limits.partitions = omega (arith, lt, frames.count) in
        let has = (frames.each k here).1 in
        let first = new k no_store (omega (arith, here, count)) in
        record {
          told = told-some _ _ _ has.told (first.tells none);
          sound = never k no_store lt (subst (λ (b : Bool). IsTrue b) (sym has.sure) (first.sure none));
        }

    pub all-sound : p.spill_dir ≡ None → All IsSoundStore stores
    all-sound none = All-from_get_or IsSoundStore stores no_store (λ k lt. sound-at none k lt)

    -- a store that failed is one of a folder
    pub store-caused : (k : ℕ) → k < length stores → 0 < (slice_index_or stores k no_store).faults → (has_folder (asks p q) ≡ true) × HasFailed stores k
    store-caused k lt some = by (folder-or p.spill_dir) where
      by : (p.spill_dir ≡ None) ⊎ (is_some p.spill_dir ≡ true) → (has_folder (asks p q) ≡ true) × HasFailed stores k
      by (inl none) = absurd (omega (arith, some, (sound-at none k lt).sound))
      by (inr folder) = (folder, record { within = lt; failed = some })

    -- and so is one that doesn't tell
    pub frame-caused : (k n : ℕ) → k < length stores → (slice_index_or made k no_store).told ≡ None → n < (slice_index_or stores k no_store).held
        → (has_folder (asks p q) ≡ true) × HasUntold stores k n
    frame-caused k n lt untold has = by (folder-or p.spill_dir) where
      here : k < p.limits.partitions
      here = omega (arith, lt, frames.count)

      none-told : (slice_index_or stores k no_store).told ≡ None
      none-told = told-none _ _ _ (frames.each k here).1.told untold

      by : (p.spill_dir ≡ None) ⊎ (is_some p.spill_dir ≡ true) → (has_folder (asks p q) ≡ true) × HasUntold stores k n
      by (inl none) = absurd (false≢true (sym (ap (λ (t : Option (List (List ℕ))). is_some t) none-told) ∙ (sound-at none k lt).told))
      by (inr folder) = (folder, record { within = lt; untold = none-told; has = has })

-- ---- causes

-- why the reading of the wanted columns ends is why the files of the plan end
ends-for : (told : Option Files) (first : ReaderState) (p : PlanSeen) (q : QueryTree) (ws : List Bool) (stop : Stop) → IsReader p q ws first
    → IfSome told (λ files. end_of (chunks_left files first) ≡ Some stop) → EndsFor stop (asks p q) told
ends-for None first p q ws stop reader ends = tt
ends-for (Some files) first p q ws stop reader ends = sym (ap end_of (reader.left files) ∙ end-same p ws (input_chunks files p q)) ∙ ends

rose-above : (before now : ℕ) → Rose before now → 0 < now
rose-above before now rose = omega (arith, rose)

module _ (p : PlanSeen) (q : Query) (ws : List Bool) (covered : covers ws (query_tree q) ≡ true) (made stores : List StoreSeen) (s : FedSeen) (began : Began p (narrowed_query ws q) made s) (told : Option Files) (left : Left p q ws told s stores) where
  -- whole chunks of those that the run was fed
  abbrev wide : List DataChunk
  wide = left.wide.whole

  -- what a run over the wanted columns leaves is what one over all leaves
  whole : HaveWholeFrames (asked_run p (query_tree q) left.is_open wide made) stores
  whole = whole-frames p q ws covered made stores left.is_open left.chunks wide left.wide.wanted left.wide.fit
      (subst (λ (x : Setting). HaveWholeFrames (run_over x left.is_open left.chunks) stores) began.setting left.frames)

  have : HaveFrames (asked_run p (query_tree q) left.is_open wide made) stores
  have = whole-are (asked_run p (query_tree q) left.is_open wide made) stores whole

  pub run-front : HaveFront p (query_tree q) (AreFedInput p (query_tree q) told) stores
  run-front = record { made = made; are_made = began.new; count = began.count; paths = began.paths; chunks = wide; is_open = left.is_open; fed = left.wide.fed; fit = left.wide.fit; frames = whole }

  pub run-sound : All (λ (x : StoreSeen). IsTrue x.sure → x.faults ≡ 0) stores → p.spill_dir ≡ None → All IsSoundStore stores
  run-sound never = all-sound p (query_tree q) left.is_open wide made stores began.new began.count have never

  -- nor has one failed since they were made where none failed in the run
  unfailed : NoneFailed made s.stores → NoneFailed s.stores stores → NeverFailed stores
  unfailed begun calm = All-from_get_or (λ (x : StoreSeen). x.faults ≡ 0) stores no_store (λ k lt.
      let there : k < length s.stores = omega (arith, lt, calm.count) in
      let first : k < length made = omega (arith, there, begun.count) in
      calm.each k there ∙ begun.each k first ∙ (began.new k no_store first).faults)

  pub run-caused : (calm : NoneFailed made s.stores) (first : ReaderState) (never : All (λ (x : StoreSeen). IsTrue x.sure → x.faults ≡ 0) stores) (reader : IsReader p (query_tree q) ws first)
      (e : FileRunError) → IsRunEnd s told first stores e → IsCaused (file_fault e) (asks p (query_tree q)) told stores
  run-caused calm first never reader (run_error.Read (csv_error.Missing file)) end = (ends-for told first p (query_tree q) ws (misfit (missing file)) reader end.0, unfailed calm end.1)
  run-caused calm first never reader (run_error.Read (csv_error.Header file)) end = (ends-for told first p (query_tree q) ws (misfit (header file)) reader end.0, unfailed calm end.1)
  run-caused calm first never reader (run_error.Read (csv_error.Width file row)) end = (ends-for told first p (query_tree q) ws (misfit (width file row)) reader end.0, unfailed calm end.1)
  run-caused calm first never reader (run_error.Read (csv_error.Field file row column)) end = (ends-for told first p (query_tree q) ws (misfit (field file row column)) reader end.0, unfailed calm end.1)
  run-caused calm first never reader (run_error.Read csv_error.TooLarge) end = (ends-for told first p (query_tree q) ws too_large reader end.0, unfailed calm end.1)
  run-caused calm first never reader (run_error.Read csv_error.Input) end = unfailed calm end.1
  run-caused calm first never reader (run_error.Read csv_error.Memory) end = tt
  run-caused calm first never reader (run_error.Run (pipe_error.Store k)) end =
      store-caused p (query_tree q) left.is_open wide made stores began.new began.count have never k end.exists (rose-above _ _ end.rose)
  run-caused calm first never reader (run_error.Run (pipe_error.Damaged k n)) end =
      frame-caused p (query_tree q) left.is_open wide made stores began.new began.count have never k n end.0
      (subst (λ (x : Setting). (slice_index_or x.stores k no_store).told ≡ None) began.setting end.1.untold) end.1.last
  run-caused calm first never reader (run_error.Run pipe_error.Memory) end = tt
  run-caused calm first never reader (run_error.Run pipe_error.Limits) end = absurd end
  run-caused calm first never reader (run_error.Run (pipe_error.Query f)) end = absurd end
  run-caused calm first never reader (run_error.Run pipe_error.Sink) end = absurd end
  run-caused calm first never reader (run_error.Run (pipe_error.Schema i)) end = absurd end
  run-caused calm first never reader (run_error.Run pipe_error.TooLarge) end = absurd end

-- an error of a run that was begun is one that can come
pub end-comes : (s : FedSeen) (told : Option Files) (first : ReaderState) (stores : List StoreSeen) (e : FileRunError) → IsRunEnd s told first stores e → CanCome e
end-comes s told first stores (run_error.Read e) end = tt
end-comes s told first stores (run_error.Run (pipe_error.Store k)) end = tt
end-comes s told first stores (run_error.Run (pipe_error.Damaged k n)) end = tt
end-comes s told first stores (run_error.Run pipe_error.Memory) end = tt
end-comes s told first stores (run_error.Run pipe_error.Limits) end = absurd end
end-comes s told first stores (run_error.Run (pipe_error.Query f)) end = absurd end
end-comes s told first stores (run_error.Run pipe_error.Sink) end = absurd end
end-comes s told first stores (run_error.Run (pipe_error.Schema i)) end = absurd end
end-comes s told first stores (run_error.Run pipe_error.TooLarge) end = absurd end

-- and its fault is one of a run
pub fault-of-run : (e : FileRunError) → CanCome e → IsOfRun (file_fault e)
fault-of-run (run_error.Read (csv_error.Missing file)) come = tt
fault-of-run (run_error.Read (csv_error.Header file)) come = tt
fault-of-run (run_error.Read (csv_error.Width file row)) come = tt
fault-of-run (run_error.Read (csv_error.Field file row column)) come = tt
fault-of-run (run_error.Read csv_error.TooLarge) come = tt
fault-of-run (run_error.Read csv_error.Input) come = tt
fault-of-run (run_error.Read csv_error.Memory) come = tt
fault-of-run (run_error.Run (pipe_error.Store k)) come = tt
fault-of-run (run_error.Run (pipe_error.Damaged k n)) come = tt
fault-of-run (run_error.Run pipe_error.Memory) come = tt
fault-of-run (run_error.Run pipe_error.Limits) come = absurd come
fault-of-run (run_error.Run (pipe_error.Query f)) come = absurd come
fault-of-run (run_error.Run pipe_error.Sink) come = absurd come
fault-of-run (run_error.Run (pipe_error.Schema i)) come = absurd come
fault-of-run (run_error.Run pipe_error.TooLarge) come = absurd come

-- a fault of the input is told as one
pub input-fault : (e : FileRunError) → CanCome e → file_fault e ≡ fault.InputFailed → e ≡ run_error.Read csv_error.Input
input-fault (run_error.Read csv_error.Input) come is = refl
input-fault e come is = search (rules)

-- the frame of a run in place of its lines
abbrev framed : FrameData → TextOutput → GroupByOutput
framed frame out = record { frame = frame; journals = out.journals; overflow = out.overflow }

-- the run over all chunks that the files of the plan give was answered
has-run : (p : PlanSeen) (q : Query) (ws : List Bool) → covers ws (query_tree q) ≡ true → (made stores : List StoreSeen) (s : FedSeen) (told : Option Files) (first : ReaderState) (t : LineText) (out : TextOutput)
    → Began p (narrowed_query ws q) made s → IsReader p (query_tree q) ws first
    → (from : IsAnsweredFrom t s.setting told first out stores) → HasRunTo p (query_tree q) told (framed from.answered.frame out) stores
has-run p q ws covered made stores s told first t out began reader from =
    let fit : AllHaveFields (chosen ws q.schema) from.chunks = subst (λ (x : Setting). AllHaveFields x.query.schema from.chunks) began.setting from.fit in
    let whole : AreRead p (query_tree q) ws told from.chunks = whole-read p (query_tree q) ws told first from.chunks reader fit from.all in
    let groups : GroupByOutput = framed from.answered.frame out in
    let narrow : IsAnswered (asked_run p (query_tree (narrowed_query ws q)) false from.chunks made) groups stores = subst (λ (x : Setting). IsAnswered (run_over x false from.chunks) groups stores) began.setting from.answered.answered in
    record {
      made = made;
      are_made = began.new;
      count = began.count;
      paths = began.paths;
      chunks = whole.whole;
      are_input = whole.input;
      few = sym (few-same ws whole.whole) ∙ ap are_few whole.wanted ∙ from.few;
      answered = whole-answered p q ws covered made stores groups whole.whole whole.fit (subst (λ (cs : List DataChunk). IsAnswered (asked_run p (query_tree (narrowed_query ws q)) false cs made) groups stores) (sym whole.wanted) narrow);
    }

-- ---- its text

-- lines are of the fields that they are asked for
pub shape-fields : (f : Format) (fields : List Field) → (shape_in f fields).fields ≡ fields
shape-fields format.Csv fields = refl
shape-fields format.Json fields = refl

-- the head and the lines of a frame are its text
text-is : (f : Format) (fields : List Field) (frame : FrameData) → FitsSchema (shape_in f fields).fields frame → (shape_in f fields).head ++ lines_of (shape_in f fields) frame ≡ text_in f frame
text-is format.Csv fields frame fit = csv-of-frame fields frame fit
text-is format.Json fields frame fit = json-of-frame fields frame fit

-- the lines of a query suit a run of it that was begun
pub lines-suit : (f : Format) (t : LineText) (q : Query) (x : Setting) → t ≡ shape_in f (output_schema (query_tree q)) → x.query ≡ q → t.fields ≡ output_schema (query_tree x.query)
lines-suit f t q x is same =
    ap (λ (l : LineText). l.fields) is ∙ shape-fields f (output_schema (query_tree q)) ∙ sym (ap (λ (k : Query). output_schema (query_tree k)) same)

-- a head and the lines that a run gives are the text of its answer
pub has-text : (p : PlanSeen) (q : Query) (ws : List Bool) → covers ws (query_tree q) ≡ true → (made stores : List StoreSeen) (s : FedSeen) (told : Option Files) (first : ReaderState) (fields : List Field) (t : LineText) (head : List ℕ) (out : TextOutput)
    → Began p (narrowed_query ws q) made s → IsReader p (query_tree q) ws first → t ≡ shape_in p.format fields → head ≡ (shape_in p.format fields).head
    → IsAnsweredFrom t s.setting told first out stores → HasAnswer p (query_tree q) told out.journals stores (head ++ joined_texts out.text.texts.items)
has-text p q ws covered made stores s told first fields t head out began reader is same from =
    let shape = shape_in p.format fields in
    let now : IsAnsweredFrom shape s.setting told first out stores = subst (λ (l : LineText). IsAnsweredFrom l s.setting told first out stores) is from in
    let frame : FrameData = now.answered.frame in
    record {
      out = framed frame out;
      run = has-run p q ws covered made stores s told first shape out began reader now;
      journals_are = refl;
      text_is = (λ i. same i ++ now.answered.lines i) ∙ text-is p.format fields frame now.answered.fits;
    }

-- without a folder its stores are sound
pub has-text-sound : (p : PlanSeen) (q : QueryTree) (told : Option Files) (journals : List (List PartitionEvent)) (stores : List StoreSeen) (text : List ℕ) → HasAnswer p q told journals stores text
    → All (λ (x : StoreSeen). IsTrue x.sure → x.faults ≡ 0) stores → p.spill_dir ≡ None → All IsSoundStore stores
has-text-sound p q told journals stores text has never =
    let run = has.run in
    all-sound p q false run.chunks run.made stores run.are_made run.count (replayed-are (asked_run p q false run.chunks run.made) has.out stores run.answered) never

-- ---- what a result is

pub ok-at : {X Y : Type 0} (r : Result X Y) (x : X) (P : X → Type 0) → r ≡ Ok x → IfOk r P → P x
ok-at r x P is has = subst (λ o. IfOk o P) is has

pub err-at : {X Y : Type 0} (r : Result X Y) (e : Y) (P : Y → Type 0) → r ≡ Err e → IfErr r P → P e
err-at r e P is has = subst (λ o. IfErr o P) is has

pub some-at : {X : Type 0} (o : Option X) (x : X) (P : X → Type 0) → o ≡ Some x → IfSome o P → P x
some-at o x P is has = subst (λ r. IfSome r P) is has

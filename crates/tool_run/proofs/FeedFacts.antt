-- A run that is fed what was read, round by round.
use Rattle.std.proofs.Common.{◌≡◌, ◌∙◌, ◌+◌, ◌<◌, ◌^◌, ◌++◌, ℕ, Bool, if◌then◌else◌, List, [], length, Option, Some, None, refl, sym, ap, subst, arith, length-append, ⊎_elim}
use Rattle.std.specs.Prelude.{get_or}
use Rattle.std.specs.Option.{IfSome}
use Rattle.std.specs.List.{All, slice_index_or}
use Rattle.std.proofs.lemmas.List.{append-nil, append_assoc}
use Rattle.std.proofs.lemmas.List.Elements.{All-append, All-get_or, All-nil}
use Rattle.std.proofs.lemmas.Option.{get_or_from_slice_get, slice_get_within}
use Rattle.pipe_columns.specs.declared.data_chunk.DataChunk.{DataChunk}
use Rattle.pipe_columns.specs.declared.schema.Field.{Field}
use Rattle.pipe_columns.specs.Frame.{FitsSchema}
use Rattle.pipe_csv.specs.declared.csv_error.CsvError.{CsvError}
use Rattle.pipe_io.specs.Files.{Files}
use Rattle.pipe_model.specs.Rows.{total_height}
use Rattle.pipe_plan.specs.Run.{StoreSeen}
use Rattle.pipe_run.specs.declared.error.PipeError.{PipeError}
use Rattle.pipe_run.specs.declared.error.PipeError.TheVariants as pipe_error
use Rattle.pipe_run.specs.Fed.{FedSeen}
use Rattle.pipe_run.specs.Answered.{HaveWholeFrames}
use Rattle.pipe_run.specs.Failing.{NoneFailed}
use Rattle.pipe_run.specs.Feeding.{chunks_reached, IsFeedCause}
use Rattle.pipe_run.specs.Finish.{IsFinishCause}
use Rattle.pipe_run.specs.Refusals.{AllHaveFields, AreMany, IsFirstMisfit}
use Rattle.pipe_run.specs.Setting.{run_over, Setting}
use Rattle.pipe_run.proofs.Counted.{first-later}
use Rattle.pipe_run.proofs.Feeding.{height-append}
use Rattle.pipe_source.specs.CsvChunks.{chunks_then, CsvChunks, Stop, too_large}
use Rattle.pipe_source.specs.Reader.{chunks_left, ReaderState}
use Rattle.pipe_source.specs.Rounds.{StopsWithin}
use Rattle.tool_run.specs.declared.counted.Counted.{Counted}
use Rattle.tool_run.specs.Answering.{HaveFront}
use Rattle.tool_run.specs.Reading.{AreAll, are_few, ComeFirst, EndsBy, end_of, stop_of}
use Rattle.tool_run.specs.Rounds.{WereTaken, are_few_behind, EndsBehind, EndsWith, end_behind, HasNoneLeft}

-- ---- what was read

-- chunks read behind others
pub taken-then : (told : Option Files) (first old new : ReaderState) (taken more now : List DataChunk) → now ≡ taken ++ more
    → WereTaken told first taken old → WereTaken told old more new → WereTaken told first now new
taken-then None first old new taken more now is h g = tt
taken-then (Some files) first old new taken more now is h g =
    subst (λ (cs : List DataChunk). chunks_left files first ≡ chunks_then cs (chunks_left files new)) (sym is)
    (h ∙ ap (chunks_then taken) g ∙ ap (λ (cs : List DataChunk). record { chunks = cs; stop = (chunks_left files new).stop }) (sym (append_assoc taken more (chunks_left files new).chunks)))

-- once none is left, all were read
pub taken-all : (told : Option Files) (first now : ReaderState) (taken : List DataChunk) → WereTaken told first taken now → HasNoneLeft told now → AreAll told first taken
taken-all None first now taken h none = tt
taken-all (Some files) first now taken h none = h ∙ ap (chunks_then taken) none ∙ ap (λ (cs : List DataChunk). record { chunks = cs; stop = None }) (append-nil taken)

-- chunks that were taken come first
pub taken-first : (told : Option Files) (first now : ReaderState) (taken : List DataChunk) → WereTaken told first taken now → ComeFirst told first taken
taken-first None first now taken h = tt
taken-first (Some files) first now taken h = record { rest = (chunks_left files now).chunks; is = ap (λ (r : CsvChunks). r.chunks) h }

-- chunks are few behind others where all are
few-then : (before : Counted) (taken more : List DataChunk) → before.chunks ≡ length taken → before.rows ≡ total_height taken → are_few (taken ++ more) ≡ are_few_behind before more
few-then before taken more chunks rows =
    let tall : total_height (taken ++ more) ≡ before.rows + total_height more = height-append taken more ∙ ap (λ n. n + total_height more) (sym rows) in
    let long : length (taken ++ more) ≡ before.chunks + length more = length-append taken more ∙ ap (λ n. n + length more) (sym chunks) in
    rw (tall, long) refl

-- a reading ends behind chunks as it ends with them
ends-then : (before : Counted) (taken : List DataChunk) (rest : CsvChunks) → before.chunks ≡ length taken → before.rows ≡ total_height taken
    → end_of (chunks_then taken rest) ≡ end_behind before rest
ends-then before taken rest chunks rows = ap (λ (b : Bool). if b then rest.stop else Some too_large) (few-then before taken rest.chunks chunks rows)

-- an optional stop that is told of one is told of the other
told-alike : (stop : Option Stop) (one other : Option Stop) → one ≡ other → IfSome stop (λ s. other ≡ Some s) → IfSome stop (λ s. one ≡ Some s)
told-alike None one other is h = tt
told-alike (Some s) one other is h = is ∙ h

-- an error that says why the reading of the rest ends says why that of all ends
pub ends-behind : (before : Counted) (told : Option Files) (first old : ReaderState) (taken : List DataChunk) (err : CsvError) → before.chunks ≡ length taken → before.rows ≡ total_height taken
    → WereTaken told first taken old → EndsBehind before told old err → EndsBy told first err
ends-behind before None first old taken err chunks rows h ends = tt
ends-behind before (Some files) first old taken err chunks rows h ends =
    told-alike (stop_of err) (end_of (chunks_left files first)) (end_behind before (chunks_left files old)) (ap end_of h ∙ ends-then before taken (chunks_left files old) chunks rows) ends

-- where files are told, an error that tells why the reading of any files ends, of which so much is left, tells it of these
pub ends-told : (before : Counted) (told : Option Files) (first : ReaderState) (most : ℕ) (err now : CsvError) (chunks : List DataChunk) → ((left : CsvChunks) (most : ℕ) → StopsWithin most err chunks left → EndsWith before left now)
    → IfSome told (λ files. StopsWithin most err chunks (chunks_left files first)) → EndsBehind before told first now
ends-told before None first most err now chunks each h = tt
ends-told before (Some files) first most err now chunks each h = each (chunks_left files first) most h

-- ---- why a run is refused

-- chunks that fit have no misfit
no-misfit : (fields : List Field) (chunks : List DataChunk) (i : ℕ) → All (λ (c : DataChunk). FitsSchema fields c.frame) chunks → IsFirstMisfit fields chunks i → ⊥
no-misfit fields chunks i fit is =
    let at : get_or chunks i is.chunk ≡ is.chunk = get_or_from_slice_get chunks i is.chunk is.chunk is.at in
    is.misfit (subst (λ (c : DataChunk). FitsSchema fields c.frame) at (All-get_or (λ (c : DataChunk). FitsSchema fields c.frame) chunks i is.chunk (slice_get_within chunks i is.chunk is.at) fit))

-- and few chunks are not many
not-many : (chunks : List DataChunk) → total_height chunks < 2 ^ 32 → length chunks < 2 ^ 32 → AreMany chunks → ⊥
not-many chunks rows number many = ⊎_elim (λ m. omega (arith, m, rows)) (λ m. omega (arith, m, number)) many

-- a feed of few chunks that fit is refused for a store or for want of memory
pub feed-cause : (first s : FedSeen) (chunks : List DataChunk) (stores : List StoreSeen) (err : PipeError) → NoneFailed first.stores s.stores
    → All (λ (c : DataChunk). FitsSchema s.setting.query.schema c.frame) (s.chunks ++ chunks) → total_height (s.chunks ++ chunks) < 2 ^ 32 → length (s.chunks ++ chunks) < 2 ^ 32
    → IsFeedCause s chunks stores err → IsFinishCause first stores err
feed-cause first s chunks stores (pipe_error.Schema i) calm fit rows number cause = absurd (no-misfit s.setting.query.schema (s.chunks ++ chunks) i fit cause)
feed-cause first s chunks stores pipe_error.TooLarge calm fit rows number cause = absurd (not-many (s.chunks ++ chunks) rows number cause.1)
feed-cause first s chunks stores (pipe_error.Store p) calm fit rows number cause = first-later first.stores s.stores stores p calm cause.1
feed-cause first s chunks stores pipe_error.Memory calm fit rows number cause = tt
feed-cause first s chunks stores pipe_error.Limits calm fit rows number cause = absurd cause
feed-cause first s chunks stores (pipe_error.Query f) calm fit rows number cause = absurd cause
feed-cause first s chunks stores pipe_error.Sink calm fit rows number cause = absurd cause
feed-cause first s chunks stores (pipe_error.Damaged p n) calm fit rows number cause = absurd cause

-- why a run that was fed is refused at its end, counted from where it began
pub finish-cause : (first s : FedSeen) (stores : List StoreSeen) (err : PipeError) → NoneFailed first.stores s.stores → s.setting ≡ first.setting
    → IsFinishCause s stores err → IsFinishCause first stores err
finish-cause first s stores (pipe_error.Store p) calm same cause = first-later first.stores s.stores stores p calm cause
finish-cause first s stores (pipe_error.Damaged p n) calm same cause = rw (← same) cause
finish-cause first s stores pipe_error.Memory calm same cause = tt
finish-cause first s stores pipe_error.Limits calm same cause = absurd cause
finish-cause first s stores (pipe_error.Query f) calm same cause = absurd cause
finish-cause first s stores pipe_error.Sink calm same cause = absurd cause
finish-cause first s stores (pipe_error.Schema i) calm same cause = absurd cause
finish-cause first s stores pipe_error.TooLarge calm same cause = absurd cause

-- ---- what is left of the stores

-- whole frames of a run over chunks that were fed so
pub front-of : (x now : Setting) (Fed : Bool → List DataChunk → Type 0) (is_open : Bool) (chunks : List DataChunk) (stores : List StoreSeen) → now ≡ x → Fed is_open chunks
    → AllHaveFields x.query.schema chunks → HaveWholeFrames (run_over now is_open chunks) stores → HaveFront x Fed stores
front-of x now Fed is_open chunks stores same fed fit whole = record {
  chunks = chunks;
  is_open = is_open;
  fed = fed;
  fit = fit;
  frames = subst (λ (s : Setting). HaveWholeFrames (run_over s is_open chunks) stores) same whole;
}

-- what holds of the chunks before a refused feed, and of all with its own, holds of those that it reached
pub reached-has : (P : List DataChunk → Type 0) (s : FedSeen) (chunks : List DataChunk) (err : PipeError) → P s.chunks → P (s.chunks ++ chunks) → P (chunks_reached s chunks err)
reached-has P s chunks (pipe_error.Schema i) few all = few
reached-has P s chunks pipe_error.TooLarge few all = few
reached-has P s chunks (pipe_error.Store p) few all = all
reached-has P s chunks pipe_error.Memory few all = all
reached-has P s chunks pipe_error.Limits few all = few
reached-has P s chunks (pipe_error.Query f) few all = few
reached-has P s chunks pipe_error.Sink few all = few
reached-has P s chunks (pipe_error.Damaged p n) few all = few

-- ---- before the first round

-- nothing is taken yet
pub taken-none : (told : Option Files) (r : ReaderState) (taken : List DataChunk) → taken ≡ [] → WereTaken told r taken r
taken-none None r taken none = tt
taken-none (Some files) r taken none = subst (λ (cs : List DataChunk). chunks_left files r ≡ chunks_then cs (chunks_left files r)) (sym none) refl

-- no chunk is a misfit
pub fit-none : (fields : List Field) (taken : List DataChunk) → taken ≡ [] → All (λ (c : DataChunk). FitsSchema fields c.frame) taken
fit-none fields taken none = subst (All (λ (c : DataChunk). FitsSchema fields c.frame)) (sym none) (All-nil (λ (c : DataChunk). FitsSchema fields c.frame))

-- ---- one round more

-- chunks that fit the columns that are read, behind those that fit those of the query
pub fit-more : (fields read : List Field) (taken more : List DataChunk) → read ≡ fields → All (λ (c : DataChunk). FitsSchema fields c.frame) taken → All (λ (c : DataChunk). FitsSchema read c.frame) more
    → All (λ (c : DataChunk). FitsSchema fields c.frame) (taken ++ more)
fit-more fields read taken more same one two =
    All-append (λ (c : DataChunk). FitsSchema fields c.frame) taken more one (subst (λ (f : List Field). All (λ (c : DataChunk). FitsSchema f c.frame) more) same two)

-- so many chunks of so many rows
pub rows-more : (before after : Counted) (taken more now : List DataChunk) → now ≡ taken ++ more → before.rows ≡ total_height taken → after.rows ≡ before.rows + total_height more → after.rows ≡ total_height now
rows-more before after taken more now is rows next = next ∙ ap (λ n. n + total_height more) rows ∙ sym (height-append taken more) ∙ ap total_height (sym is)

pub chunks-more : (before after : Counted) (taken more now : List DataChunk) → now ≡ taken ++ more → before.chunks ≡ length taken → after.chunks ≡ before.chunks + length more → after.chunks ≡ length now
chunks-more before after taken more now is chunks next = next ∙ ap (λ n. n + length more) chunks ∙ sym (length-append taken more) ∙ ap (λ (l : List DataChunk). length l) (sym is)

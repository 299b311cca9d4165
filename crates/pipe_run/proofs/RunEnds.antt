-- How a run over all its chunks at once ends.
use Rattle.std.proofs.Common.{◌≡◌, ◌∙◌, ◌<◌, ℕ, Bool, true, false, List, [], ◌∷◌, ◌++◌, length, map, refl, sym, ap, subst, arith, length-append, Option, None, Some, Result, Ok, Err, ⊎_elim}
use Rattle.std.specs.Prelude.{IfErr, IfOk, is_some, OnOk}
use Rattle.std.specs.List.{All, flat_map, slice_index_or}
use Rattle.std.proofs.lemmas.Bool.{false≢true}
use Rattle.std.proofs.lemmas.List.{append-nil, get_or_append_left, length-map}
use Rattle.std.proofs.lemmas.List.Elements.{All-get_or, All-head, All-tail}
use Rattle.std.proofs.lemmas.Option.{get_or_from_slice_get, none-some, slice_get_within}
use Rattle.pipe_columns.specs.declared.data_chunk.DataChunk.{DataChunk}
use Rattle.pipe_columns.specs.declared.schema.Field.{Field}
use Rattle.pipe_columns.specs.Frame.{FitsSchema}
use Rattle.pipe_columns.specs.Row.{Row}
use Rattle.pipe_aggs.specs.declared.query.Query.{Query}
use Rattle.pipe_aggs.specs.Faults.{first_fault}
use Rattle.pipe_aggs.proofs.OutputFacts.{map-map}
use Rattle.pipe_plan.specs.declared.event.PartitionEvent.{PartitionEvent}
use Rattle.pipe_plan.specs.declared.event.SpillAction.{SpillAction}
use Rattle.pipe_plan.specs.declared.limits.Limits.{Limits}
use Rattle.pipe_plan.specs.Frames.{AreOfPieces, IsPiece, piece_rows, PieceName}
use Rattle.pipe_plan.specs.Payloads.{payloads}
use Rattle.pipe_plan.specs.Replay.{joined_lists}
use Rattle.pipe_plan.specs.Rounds.{GoesOn, IsFront}
use Rattle.pipe_plan.specs.Run.{Run, StoreSeen, tells}
use Rattle.pipe_plan.proofs.Counting.{within-none}
use Rattle.pipe_plan.proofs.Fronts.{payloads-on}
use Rattle.pipe_plan.proofs.Naming.{frames-apart}
use Rattle.pipe_global.proofs.Covering.{all-left, all-right}
use Rattle.pipe_global.specs.Partition.{no_store, store_of, with_frames}
use Rattle.pipe_run.specs.declared.error.PipeError.{PipeError}
use Rattle.pipe_run.specs.declared.error.PipeError.TheVariants as error
use Rattle.pipe_run.specs.declared.output.GroupByOutput.{GroupByOutput}
use Rattle.pipe_run.specs.Answered.{HaveWholeFrames, IsAnswered}
use Rattle.pipe_run.specs.Finish.{HasPutUntold, IsFinishCause}
use Rattle.pipe_run.specs.Fed.{FedSeen}
use Rattle.pipe_run.specs.Failing.{NoneFailed}
use Rattle.pipe_run.specs.Feeding.{chunks_reached, IsBadChunks, IsFeedCause}
use Rattle.pipe_run.specs.Refusals.{AllHaveFields, AreFewChunks, AreMany, IsBeginCause, IsFirstMisfit, limits_fit}
use Rattle.pipe_run.specs.Setting.{run_over, Setting}
use Rattle.pipe_run.specs.WholeRun.{CanBegin, CanRunOver, EndsRun, IsRunCause, LeavesStores, NoneRose, setting_fits, setting_suits}
use Rattle.pipe_run.proofs.Counted.{calm-twice, first-later}
use Rattle.pipe_run.proofs.LimitFacts.{fit-count, fit-limits}

-- ---- frames of an open run are frames of the closed one

module _ (r s : Run) (p : ℕ) (fronts : (w : ℕ) → IsFront (payloads r w p) (payloads s w p)) where
  -- a piece is a piece there too, of the same rows
  piece-on : (n : PieceName) → IsPiece r p n → piece_rows r p n ≡ piece_rows s p n
  piece-on n is =
      let f = fronts n.worker in
      sym (get_or_append_left (payloads r n.worker p) f.rest [] n.number is.1) ∙ ap (λ (l : List (List Row)). slice_index_or l n.number []) (sym f.is)

  joined-on : (part : List PieceName) → All (IsPiece r p) part → flat_map (piece_rows r p) part ≡ flat_map (piece_rows s p) part
  joined-on [] all = refl
  joined-on (n ∷ part) all =
      ap (λ l. l ++ flat_map (piece_rows r p) part) (piece-on n (All-head (IsPiece r p) n part all))
      ∙ ap (λ l. piece_rows s p n ++ l) (joined-on part (All-tail (IsPiece r p) n part all))

  frames-on : (names : List (List PieceName)) → All (IsPiece r p) (joined_lists names) → map (λ part. flat_map (piece_rows r p) part) names ≡ map (λ part. flat_map (piece_rows s p) part) names
  frames-on [] all = refl
  frames-on (part ∷ names) all =
      ap (λ l. l ∷ map (λ part. flat_map (piece_rows r p) part) names) (joined-on part (all-left (IsPiece r p) part (joined_lists names) all))
      ∙ ap (λ l. flat_map (piece_rows s p) part ∷ l) (frames-on names (all-right (IsPiece r p) part (joined_lists names) all))

  pub pieces-on : (frames : List (List Row)) → s.limits.workers ≡ r.limits.workers → AreOfPieces r p frames → AreOfPieces s p frames
  pieces-on frames workers are = record {
    names = are.names;
    some = are.some;
    rows = are.rows ∙ frames-on are.names are.pieces;
    apart = are.apart;
    pieces = λ k d lt.
        let n = slice_index_or (joined_lists are.names) k d in
        let is = are.pieces k d lt in
        let f = fronts n.worker in
        (omega (arith, is.0, workers), omega (arith, is.1, ap (λ (l : List (List Row)). length l) f.is, length-append (payloads r n.worker p) f.rest));
  }

-- so they are whole frames where no chunk may follow
pub frames-shut : (x : Setting) (chunks : List DataChunk) (stores : List StoreSeen) → 0 < x.limits.buffer_size → HaveWholeFrames (run_over x true chunks) stores → HaveWholeFrames (run_over x false chunks) stores
frames-shut x chunks stores some all =
    let on : GoesOn (run_over x true chunks) (run_over x false chunks) = record { more = []; chunks = sym (append-nil chunks); query = refl; limits = refl; actions = refl; rules = refl } in
    record {
      count = all.count;
      each = λ p lt.
          let has = all.each p lt in
          record {
            frames = has.frames;
            pieces = pieces-on (run_over x true chunks) (run_over x false chunks) p (λ w. payloads-on (run_over x true chunks) (run_over x false chunks) on w p some refl) has.frames refl has.pieces;
            has = record { told = has.has.told; held = has.has.held; sure = has.has.sure; path = has.has.path };
          };
    }

-- no frame more is what was told
told-none : (told : Option (List (List ℕ))) → told ≡ with_frames told []
told-none None = refl
told-none (Some frames) = ap (λ (l : List (List ℕ)). Some l) (sym (append-nil frames))

-- stores that were not touched have no frame of the run, open or not
pub untouched-in : (x : Setting) (o : Bool) (chunks : List DataChunk) → setting_fits x ≡ true → HaveWholeFrames (run_over x o chunks) x.stores
untouched-in x o chunks fit =
    let held : List ℕ = map (λ (s : StoreSeen). s.held) x.stores in
    let limits = fit-limits x.limits (length x.actions) held fit in
    record {
      count = sym (length-map x.stores (λ (s : StoreSeen). s.held)) ∙ fit-count x.limits (length x.actions) held fit;
      each = λ p lt.
          let r = run_over x o chunks in
          record {
            frames = [];
            pieces = frames-apart r p [] limits.buffer (within-none r p);
            has = record { told = told-none (store_of r p).told; held = omega arith; sure = refl; path = refl };
          };
    }

pub untouched-frames : (x : Setting) (chunks : List DataChunk) → setting_fits x ≡ true → HaveWholeFrames (run_over x false chunks) x.stores
untouched-frames x chunks fit = untouched-in x false chunks fit

-- ---- refused as it was begun

pub begin-cause : (x : Setting) (chunks : List DataChunk) (stores : List StoreSeen) (e : PipeError) → IsBeginCause (setting_fits x) (first_fault x.query) (setting_suits x) e → IsRunCause x chunks stores e
begin-cause x chunks stores error.Limits cause = cause
begin-cause x chunks stores (error.Query f) cause = cause
begin-cause x chunks stores error.Memory cause = cause
begin-cause x chunks stores error.Sink cause = cause
begin-cause x chunks stores (error.Schema i) cause = absurd cause
begin-cause x chunks stores error.TooLarge cause = absurd cause
begin-cause x chunks stores (error.Store p) cause = absurd cause
begin-cause x chunks stores (error.Damaged p n) cause = absurd cause

pub begin-left : (x : Setting) (chunks : List DataChunk) (stores : List StoreSeen) (e : PipeError) → IsBeginCause (setting_fits x) (first_fault x.query) (setting_suits x) e → stores ≡ x.stores → LeavesStores x chunks stores e
begin-left x chunks stores error.Limits cause same = same
begin-left x chunks stores (error.Query f) cause same = same
begin-left x chunks stores error.Memory cause same = subst (HaveWholeFrames (run_over x false chunks)) (sym same) (untouched-frames x chunks cause)
begin-left x chunks stores error.Sink cause same = same
begin-left x chunks stores (error.Schema i) cause same = same
begin-left x chunks stores error.TooLarge cause same = same
begin-left x chunks stores (error.Store p) cause same = absurd cause
begin-left x chunks stores (error.Damaged p n) cause same = absurd cause

-- ---- refused as its chunks were fed

-- a chunk that fits is no misfit
fit-misfit : (fields : List Field) (chunks : List DataChunk) (i : ℕ) → AllHaveFields fields chunks → IsFirstMisfit fields chunks i → ⊥
fit-misfit fields chunks i fit is =
    is.misfit (subst (λ (c : DataChunk). FitsSchema fields c.frame) (get_or_from_slice_get chunks i is.chunk is.chunk is.at)
    (All-get_or (λ (c : DataChunk). FitsSchema fields c.frame) chunks i is.chunk (slice_get_within chunks i is.chunk is.at) fit))

-- as many stores come back as were handed in
stores-long : (x : Setting) (stores : List StoreSeen) → setting_fits x ≡ true → length stores ≡ x.limits.partitions → length stores ≡ length x.stores
stores-long x stores fit count =
    count ∙ sym (fit-count x.limits (length x.actions) (map (λ (s : StoreSeen). s.held) x.stores) fit) ∙ length-map x.stores (λ (s : StoreSeen). s.held)

-- few chunks are not many
few-many : (chunks : List DataChunk) → AreFewChunks chunks → AreMany chunks → ⊥
few-many chunks few many = ⊎_elim (λ rows. omega (arith, rows, few.0)) (λ number. omega (arith, number, few.1)) many

-- a run before its first chunk
abbrev before_any : Setting → List (List PartitionEvent) → List StoreSeen → FedSeen
before_any x journals found = record { setting = x; chunks = []; journals = journals; stores = found }

is-before : (x : Setting) (s : FedSeen) → s.setting ≡ x → s.chunks ≡ [] → s ≡ before_any x s.journals s.stores
is-before x s setting none =
    ap {B = FedSeen} (λ (y : Setting). record { setting = y; chunks = s.chunks; journals = s.journals; stores = s.stores }) setting
    ∙ ap {B = FedSeen} (λ (l : List DataChunk). record { setting = x; chunks = l; journals = s.journals; stores = s.stores }) none

module _ (x : Setting) (journals : List (List PartitionEvent)) (found : List StoreSeen) (chunks : List DataChunk) (stores : List StoreSeen) (can : CanRunOver x chunks) (calm : NoneFailed x.stores found) where
  some : 0 < x.limits.buffer_size
  some = (fit-limits x.limits (length x.actions) (map (λ (s : StoreSeen). s.held) x.stores) can.begin.fit).buffer

  fed-left : (e : PipeError) → IsFeedCause (before_any x journals found) chunks stores e → HaveWholeFrames (run_over x true (chunks_reached (before_any x journals found) chunks e)) stores → LeavesStores x chunks stores e
  fed-left (error.Schema i) cause back = absurd (fit-misfit x.query.schema chunks i can.feed.fit cause)
  fed-left error.TooLarge cause back = absurd (few-many chunks can.feed.few cause.1)
  fed-left (error.Store p) cause back = frames-shut x chunks stores some back
  fed-left error.Memory cause back = frames-shut x chunks stores some back
  fed-left error.Limits cause back = absurd cause
  fed-left (error.Query f) cause back = absurd cause
  fed-left error.Sink cause back = absurd cause
  fed-left (error.Damaged p n) cause back = absurd cause

  fed-cause : (e : PipeError) → IsFeedCause (before_any x journals found) chunks stores e → HaveWholeFrames (run_over x true (chunks_reached (before_any x journals found) chunks e)) stores → IsRunCause x chunks stores e
  fed-cause (error.Schema i) cause back = absurd (fit-misfit x.query.schema chunks i can.feed.fit cause)
  fed-cause error.TooLarge cause back = absurd (few-many chunks can.feed.few cause.1)
  fed-cause (error.Store p) cause back = (can, first-later x.stores found stores p calm cause.1)
  fed-cause error.Memory cause back = can.begin.fit
  fed-cause error.Limits cause back = absurd cause
  fed-cause (error.Query f) cause back = absurd cause
  fed-cause error.Sink cause back = absurd cause
  fed-cause (error.Damaged p n) cause back = absurd cause

-- ---- refused as it was finished

module _ (x : Setting) (chunks : List DataChunk) (s : FedSeen) (stores : List StoreSeen) (setting : s.setting ≡ x) (fed : s.chunks ≡ chunks) (can : CanRunOver x chunks) (calm : NoneFailed x.stores s.stores) where
  end-left : (e : PipeError) → IsFinishCause s stores e → HaveWholeFrames (run_over s.setting false s.chunks) stores → LeavesStores x chunks stores e
  end-left e cause back = by e cause (subst (λ (y : Setting). HaveWholeFrames (run_over y false chunks) stores) setting (subst (λ l. HaveWholeFrames (run_over s.setting false l) stores) fed back)) where
    by : (e : PipeError) → IsFinishCause s stores e → HaveWholeFrames (run_over x false chunks) stores → LeavesStores x chunks stores e
    by (error.Store p) cause back = back
    by (error.Damaged p n) cause back = back
    by error.Memory cause back = back
    by error.Limits cause back = absurd cause
    by (error.Query f) cause back = absurd cause
    by error.Sink cause back = absurd cause
    by (error.Schema i) cause back = absurd cause
    by error.TooLarge cause back = absurd cause

  end-cause : (e : PipeError) → length stores ≡ length x.stores → IsFinishCause s stores e → IsRunCause x chunks stores e
  end-cause (error.Store p) long cause = (can, first-later x.stores s.stores stores p calm cause)
  end-cause (error.Damaged p n) long cause = (can, cause.0, subst (λ (y : Setting). HasPutUntold (slice_index_or y.stores p no_store) (slice_index_or stores p no_store) n) setting cause.1)
  end-cause error.Memory long cause = can.begin.fit
  end-cause error.Limits long cause = absurd cause
  end-cause (error.Query f) long cause = absurd cause
  end-cause error.Sink long cause = absurd cause
  end-cause (error.Schema i) long cause = absurd cause
  end-cause error.TooLarge long cause = absurd cause

-- ---- complete

-- where a run can be made, its stores tell and none rose, memory alone is wanting
only-memory : (x : Setting) (chunks : List DataChunk) (stores : List StoreSeen) (e : PipeError) → IsRunCause x chunks stores e → LeavesStores x chunks stores e
    → CanRunOver x chunks → All (λ s. tells s ≡ true) x.stores → NoneRose x.stores stores → e ≡ error.Memory
only-memory x chunks stores error.Limits cause left can telling none = absurd (false≢true (sym cause ∙ can.begin.fit))
only-memory x chunks stores (error.Query f) cause left can telling none = absurd (none-some f (sym can.begin.faultless ∙ cause.1))
only-memory x chunks stores error.Sink cause left can telling none = absurd (false≢true (sym cause.2 ∙ can.begin.suited))
only-memory x chunks stores (error.Schema i) cause left can telling none = absurd (fit-misfit x.query.schema chunks i can.feed.fit cause.1)
only-memory x chunks stores error.TooLarge cause left can telling none = absurd (few-many chunks can.feed.few cause.2)
only-memory x chunks stores (error.Store p) cause left can telling none = absurd (none p cause.1.exists cause.1.rose)
only-memory x chunks stores (error.Damaged p n) cause left can telling none =
    let lt : p < length x.stores = omega (arith, cause.1, stores-long x stores can.begin.fit left.count) in
    absurd (false≢true (sym (ap is_some cause.2.untold) ∙ telling p no_store lt))
only-memory x chunks stores error.Memory cause left can telling none = refl

-- ---- together

-- a run that is refused
refused : (x : Setting) (chunks : List DataChunk) (stores : List StoreSeen) (e : PipeError) → IsRunCause x chunks stores e → LeavesStores x chunks stores e → EndsRun x chunks (Err e) stores
refused x chunks stores e cause left = record {
  made = tt;
  answered = tt;
  unfailed = tt;
  cause = cause;
  left = left;
  complete = only-memory x chunks stores e cause left;
}

pub begin-ends : (x : Setting) (chunks : List DataChunk) (stores : List StoreSeen) (e : PipeError) → IsBeginCause (setting_fits x) (first_fault x.query) (setting_suits x) e → stores ≡ x.stores → EndsRun x chunks (Err e) stores
begin-ends x chunks stores e cause same = refused x chunks stores e (begin-cause x chunks stores e cause) (begin-left x chunks stores e cause same)

pub chunks-ends : (x : Setting) (chunks : List DataChunk) (stores : List StoreSeen) (e : PipeError) → CanBegin x → stores ≡ x.stores → IsBadChunks e
    → ((i : ℕ) → e ≡ error.Schema i → IsFirstMisfit x.query.schema chunks i) → (e ≡ error.TooLarge → AllHaveFields x.query.schema chunks × AreMany chunks) → EndsRun x chunks (Err e) stores
chunks-ends x chunks stores (error.Schema i) begin same bad misfit large = refused x chunks stores (error.Schema i) (begin, misfit i refl) same
chunks-ends x chunks stores error.TooLarge begin same bad misfit large = refused x chunks stores error.TooLarge (begin, (large refl).0, (large refl).1) same
chunks-ends x chunks stores (error.Store p) begin same bad misfit large = absurd bad
chunks-ends x chunks stores error.Memory begin same bad misfit large = absurd bad
chunks-ends x chunks stores error.Limits begin same bad misfit large = absurd bad
chunks-ends x chunks stores (error.Query f) begin same bad misfit large = absurd bad
chunks-ends x chunks stores error.Sink begin same bad misfit large = absurd bad
chunks-ends x chunks stores (error.Damaged p n) begin same bad misfit large = absurd bad

pub memory-ends : (x : Setting) (chunks : List DataChunk) (stores : List StoreSeen) → setting_fits x ≡ true → stores ≡ x.stores → EndsRun x chunks (Err error.Memory) stores
memory-ends x chunks stores fit same = refused x chunks stores error.Memory fit (subst (HaveWholeFrames (run_over x false chunks)) (sym same) (untouched-frames x chunks fit))

pub feed-ends : (x : Setting) (chunks : List DataChunk) (s : FedSeen) (stores : List StoreSeen) (e : PipeError) → CanRunOver x chunks → s.setting ≡ x → s.chunks ≡ [] → NoneFailed x.stores s.stores → IsFeedCause s chunks stores e
    → HaveWholeFrames (run_over s.setting true (chunks_reached s chunks e)) stores → EndsRun x chunks (Err e) stores
feed-ends x chunks s stores e can setting none calm cause back =
    let is = is-before x s setting none in
    let why : IsFeedCause (before_any x s.journals s.stores) chunks stores e = subst (λ (s : FedSeen). IsFeedCause s chunks stores e) is cause in
    let leaves : HaveWholeFrames (run_over x true (chunks_reached (before_any x s.journals s.stores) chunks e)) stores = subst (λ (s : FedSeen). HaveWholeFrames (run_over s.setting true (chunks_reached s chunks e)) stores) is back in
    refused x chunks stores e (fed-cause x s.journals s.stores chunks stores can calm e why leaves) (fed-left x s.journals s.stores chunks stores can calm e why leaves)

pub finish-ends : (x : Setting) (chunks : List DataChunk) (s : FedSeen) (result : Result GroupByOutput PipeError) (stores : List StoreSeen) → s.setting ≡ x → s.chunks ≡ chunks → CanRunOver x chunks → NoneFailed x.stores s.stores
    → IfOk result (λ out. IsAnswered (run_over s.setting false s.chunks) out stores) → OnOk result (NoneFailed s.stores stores) → IfErr result (λ e. IsFinishCause s stores e) → IfErr result (λ e. HaveWholeFrames (run_over s.setting false s.chunks) stores)
    → EndsRun x chunks result stores
finish-ends x chunks s (Ok out) stores setting fed can calm answered unfailed cause back = record {
  made = can;
  answered = subst (λ (y : Setting). IsAnswered (run_over y false chunks) out stores) setting (subst (λ l. IsAnswered (run_over s.setting false l) out stores) fed answered);
  unfailed = calm-twice x.stores s.stores stores calm unfailed;
  cause = tt;
  left = tt;
  complete = λ _ _ _. tt;
}
finish-ends x chunks s (Err e) stores setting fed can calm answered unfailed cause back =
    let count : length stores ≡ x.limits.partitions = back.count ∙ ap (λ (y : Setting). y.limits.partitions) setting in
    refused x chunks stores e (end-cause x chunks s stores setting fed can calm e (stores-long x stores can.begin.fit count) cause) (end-left x chunks s stores setting fed can calm e cause back)

-- ---- what its calls say of the setting

-- whether its limits fit is what was asked of the same lists under other names
pub fits-setting : {A V : Type 0} (seen : A → StoreSeen) (items : V → List SpillAction) (q : Query) (l : Limits) (lists : List V) (rules : List SpillAction) (stores now : List A) (n : ℕ) → n ≡ length lists → now ≡ stores
    → setting_fits (record { query = q; limits = l; actions = map items lists; rules = rules; stores = map seen stores }) ≡ limits_fit l n (map (λ s. (seen s).held) now)
fits-setting {A = A} seen items q l lists rules stores now n same alike =
    ap (λ k. limits_fit l k (map (λ (s : StoreSeen). s.held) (map seen stores))) (length-map lists items ∙ sym same)
    ∙ ap (λ (held : List ℕ). limits_fit l n held) (map-map (λ (s : StoreSeen). s.held) seen stores ∙ ap (λ (xs : List A). map (λ s. (seen s).held) xs) (sym alike))

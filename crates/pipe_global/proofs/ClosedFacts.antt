-- What a closed partition stands for: the rows of its replay.
use Rattle.std.proofs.Common.{◌≡◌, ◌∙◌, ◌+◌, ◌≤◌, ◌<◌, ◌^◌, ◌==◌, ℕ, true, List, [], ◌∷◌, ◌++◌, length, map, refl, sym, ap, subst, arith, append_assoc, length-append, is_some, Option, Some, None, slice_get}
use Rattle.std.specs.List.{All, AllZip, sum_by}
use Rattle.std.specs.List.Sorted.{IsPermutation}
use Rattle.std.proofs.lemmas.Bool.{false≢true}
use Rattle.std.proofs.lemmas.List.{length-map, map-append}
use Rattle.std.proofs.lemmas.List.Elements.{All-append, All-cons, All-head, All-nil, All-tail}
use Rattle.std.proofs.lemmas.List.Sorted.{IsPermutation-refl}
use Rattle.std.proofs.lemmas.List.Sums.{sum_by-cons}
use Rattle.pipe_columns.specs.Row.{Row}
use Rattle.pipe_aggs.specs.CheckedQuery.{input_types}
use Rattle.pipe_model.specs.Output.{key_types}
use Rattle.pipe_plan.specs.Overflow.{partition_of}
use Rattle.pipe_plan.specs.Replay.{joined_lists, replay, Replayed}
use Rattle.pipe_plan.specs.Run.{Run}
use Rattle.pipe_plan.specs.Whole.{rows_of}
use Rattle.pipe_spill.specs.FrameBytes.{frame_bytes}
use Rattle.pipe_spill.specs.SpillRow.{AreRows, HasValues, joined_rows, spilled}
use Rattle.pipe_spill.specs.Store.{HasHeld}
use Rattle.pipe_spill.specs.declared.spill_row.SpillRow.{SpillRow}
use Rattle.pipe_spill.proofs.SpilledRows.{spilled_are_rows}
use Rattle.pipe_groups.specs.Holds.{Holds}
use Rattle.pipe_groups.specs.Shape.{Shape}
use Rattle.pipe_keyed.specs.Tables.{Table}
use Rattle.pipe_tables.specs.Tables.{lies_in}
use Rattle.pipe_global.specs.declared.mark.Mark.{Mark}
use Rattle.pipe_global.specs.Finishing.{AreOwn, CanFinish, CanGather, IsMarked, StandsForRows}
use Rattle.pipe_global.specs.Partition.{frame_bytes_of, IsReplayed, IsRunnable, marks_from, PartitionSeen, spilled_all, store_of, with_frames}
use Rattle.pipe_global.proofs.Covering.{all-left, all-right}
use Rattle.pipe_global.proofs.RunFacts.{Each, lies-each, replay-each}
use Rattle.pipe_global.proofs.StandFacts.{waiting-rows}

-- ---- lists

-- what stands behind some is found at their number
pub get-behind : {A : Type 0} (front rest : List A) (x : A) → slice_get (front ++ x ∷ rest) (length front) ≡ Some x
get-behind [] rest x = refl
get-behind (y ∷ front) rest x = get-behind front rest x

-- all rows of mapped lists
joined-map : {A B : Type 0} (f : A → B) (lists : List (List A)) → joined_lists (map (map f) lists) ≡ map f (joined_lists lists)
joined-map f [] = refl
joined-map f (x ∷ lists) = ap (λ l. map f x ++ l) (joined-map f lists) ∙ sym (map-append f x (joined_lists lists))

-- marks count the rows of all frames
marks-count : (first : ℕ) (frames : List (List Row)) → sum_by (λ (m : Mark). m.rows) (marks_from first frames) ≡ length (joined_lists frames)
marks-count first [] = refl
marks-count first (f ∷ frames) =
    sum_by-cons (λ (m : Mark). m.rows) (record { number = first; rows = length f }) (marks_from (first + 1) frames)
    ∙ ap (λ n. length f + n) (marks-count (first + 1) frames) ∙ sym (length-append f (joined_lists frames))

-- they are numbered from the first on
marks-below : (first most : ℕ) (frames : List (List Row)) → first + length frames ≤ most → All (λ m. m.number < most) (marks_from first frames)
marks-below first most [] le = All-nil (λ (m : Mark). m.number < most)
marks-below first most (f ∷ frames) le =
    All-cons (λ (m : Mark). m.number < most) (record { number = first; rows = length f }) (marks_from (first + 1) frames) (omega (arith, le))
    (marks-below (first + 1) most frames (omega (arith, le)))

module _ (r : Run) (p : ℕ) (s : PartitionSeen) (run : IsRunnable r) (at : IsReplayed r p s) where
  abbrev made : Replayed
  made = replay r p s.journal

  typed : Each (HasValues (key_types r.query) (input_types r.query)) made
  typed = replay-each (HasValues (key_types r.query) (input_types r.query)) r p run.limits.buffer run.typed s.journal

  lies : Each (λ x. (partition_of r x == p) ≡ true) made
  lies = lies-each r p run.limits.buffer s.journal

  -- rows of the run in the partition are its own
  own-spilled : (rows : List Row) → All (HasValues (key_types r.query) (input_types r.query)) rows → All (λ x. (partition_of r x == p) ≡ true) rows → AreOwn s (spilled_all r.query rows)
  own-spilled rows values here = record {
    typed = subst (λ (x : Shape). AreRows x.key_types x.input_types (spilled_all r.query rows)) (sym at.shape) (spilled_are_rows (key_types r.query) (input_types r.query) rows values);
    lie =
        subst (λ n. All (λ x. lies_in n s.number x.key ≡ true) (spilled_all r.query rows)) (sym at.partitions)
        (subst (λ n. All (λ x. lies_in r.limits.partitions n x.key ≡ true) (spilled_all r.query rows)) (sym at.number) (lie rows here));
  } where
    P : SpillRow → Type 0
    P x = lies_in r.limits.partitions p x.key ≡ true

    lie : (rows : List Row) → All (λ x. (partition_of r x == p) ≡ true) rows → All P (spilled_all r.query rows)
    lie [] here = All-nil P
    lie (x ∷ rows) here =
        All-cons P (spilled (key_types r.query) x) (spilled_all r.query rows) (All-head (λ x. (partition_of r x == p) ≡ true) x rows here)
        (lie rows (All-tail (λ x. (partition_of r x == p) ≡ true) x rows here))

  -- all of them are
  pub own-replayed : AreOwn s (spilled_all r.query (rows_of made))
  own-replayed =
      let V : Row → Type 0 = HasValues (key_types r.query) (input_types r.query) in
      let L : Row → Type 0 = λ x. (partition_of r x == p) ≡ true in
      own-spilled (rows_of made)
      (All-append V made.merged (joined_lists made.waiting ++ joined_lists made.frames) typed.merged (All-append V (joined_lists made.waiting) (joined_lists made.frames) typed.waiting typed.frames))
      (All-append L made.merged (joined_lists made.waiting ++ joined_lists made.frames) lies.merged (All-append L (joined_lists made.waiting) (joined_lists made.frames) lies.waiting lies.frames))

  -- each mark has its frame
  zip-from : (told front : List (List ℕ)) (first : ℕ) (frames : List (List Row)) → s.store.told ≡ Some told → told ≡ front ++ map (frame_bytes_of r.query) frames → length front ≡ first
      → All (HasValues (key_types r.query) (input_types r.query)) (joined_lists frames) → All (λ x. (partition_of r x == p) ≡ true) (joined_lists frames)
      → AllZip (IsMarked s) (marks_from first frames) (map (spilled_all r.query) frames)
  zip-from told front first [] tells is long values here = tt
  zip-from told front first (f ∷ frames) tells is long values here =
      let V : Row → Type 0 = HasValues (key_types r.query) (input_types r.query) in
      let L : Row → Type 0 = λ x. (partition_of r x == p) ≡ true in (
        record {
          frames = told;
          told = tells;
          frame =
              subst (λ (x : Shape). slice_get told first ≡ Some (frame_bytes x.input_types (spilled_all r.query f))) (sym at.shape)
              (ap (λ (l : List (List ℕ)). slice_get l first) is ∙ ap (λ n. slice_get (front ++ frame_bytes_of r.query f ∷ map (frame_bytes_of r.query) frames) n) (sym long) ∙ get-behind front (map (frame_bytes_of r.query) frames) (frame_bytes_of r.query f));
          count = length-map f (spilled (key_types r.query));
          own = own-spilled f (all-left V f (joined_lists frames) values) (all-left L f (joined_lists frames) here);
        },
        zip-from told (front ++ frame_bytes_of r.query f ∷ []) (first + 1) frames tells (is ∙ sym (append_assoc front (frame_bytes_of r.query f ∷ []) (map (frame_bytes_of r.query) frames)))
            (omega (arith, long, length-append front (frame_bytes_of r.query f ∷ []))) (all-right V f (joined_lists frames) values) (all-right L f (joined_lists frames) here),
      )

  -- where the store tells
  zip-told : (former : Option (List (List ℕ))) → (store_of r p).told ≡ former → HasHeld s.store.told s.store.held → is_some s.store.told ≡ true → AllZip (IsMarked s) s.marks (map (spilled_all r.query) made.frames)
  zip-told None e all tells = absurd (false≢true (ap (λ (o : Option (List (List ℕ))). is_some o) (sym (at.replayed.told ∙ ap (λ o. with_frames o (map (frame_bytes_of r.query) made.frames)) e)) ∙ tells))
  zip-told (Some front) e all tells =
      let told : List (List ℕ) = front ++ map (frame_bytes_of r.query) made.frames in
      let is : s.store.told ≡ Some told = at.replayed.told ∙ ap (λ o. with_frames o (map (frame_bytes_of r.query) made.frames)) e in
      let held : length told ≡ s.store.held = subst (λ o. HasHeld o s.store.held) is all in
      subst (λ (l : List Mark). AllZip (IsMarked s) l (map (spilled_all r.query) made.frames)) (sym at.replayed.marks)
      (zip-from told front (store_of r p).held made.frames is refl
      (omega (arith, held, at.replayed.held, length-append front (map (frame_bytes_of r.query) made.frames), length-map made.frames (frame_bytes_of r.query))) typed.frames lies.frames)

  -- it stands for the rows of its replay
  pub stands-replayed : HasHeld s.store.told s.store.held → is_some s.store.told ≡ true → StandsForRows s (spilled_all r.query (rows_of made))
  stands-replayed all tells = record {
    held = spilled_all r.query made.merged;
    frames = map (spilled_all r.query) made.frames;
    holds = at.replayed.merged;
    marked = zip-told (store_of r p).told refl all tells;
    all = subst (IsPermutation (spilled_all r.query (rows_of made))) split (IsPermutation-refl (spilled_all r.query (rows_of made)));
  } where
    split : spilled_all r.query (rows_of made) ≡ spilled_all r.query made.merged ++ (joined_rows s.waiting ++ joined_lists (map (spilled_all r.query) made.frames))
    split =
        map-append (spilled (key_types r.query)) made.merged (joined_lists made.waiting ++ joined_lists made.frames)
        ∙ ap (λ (l : List SpillRow). spilled_all r.query made.merged ++ l)
        (map-append (spilled (key_types r.query)) (joined_lists made.waiting) (joined_lists made.frames)
        ∙ ap (λ (l : List SpillRow). l ++ spilled_all r.query (joined_lists made.frames)) (sym (waiting-rows r.query made.waiting s.waiting at.replayed.waiting))
        ∙ ap (λ (l : List SpillRow). joined_rows s.waiting ++ l) (sym (joined-map (spilled (key_types r.query)) made.frames)))

  -- each of a list of marks has what its pair has
  marked-each : (marks : List Mark) (frames : List (List SpillRow)) → AllZip (IsMarked s) marks frames → All (λ m. (rows : List SpillRow) × IsMarked s m rows) marks
  marked-each [] frames z = All-nil (λ (m : Mark). (rows : List SpillRow) × IsMarked s m rows)
  marked-each (m ∷ marks) [] z = absurd z
  marked-each (m ∷ marks) (f ∷ frames) z = All-cons (λ (m : Mark). (rows : List SpillRow) × IsMarked s m rows) m marks (f, z.0) (marked-each marks frames z.1)

  -- it can gather them, and as many more as there are numbers for
  pub gathers-replayed : (more : ℕ) → HasHeld s.store.told s.store.held → length (rows_of made) + more < 2 ^ 32 → CanGather s more
  gathers-replayed more all few = record {
    exists = subst (λ n. n < s.partitions) (sym at.number) (subst (λ n. p < n) (sym at.partitions) at.in_run);
    limit = at.limit;
    few = record {
      rows = spilled_all r.query made.merged;
      holds = at.replayed.merged;
      own = own-spilled made.merged typed.merged lies.merged;
      few =
          let waits : length (joined_rows s.waiting) ≡ length (joined_lists made.waiting) = ap (λ (l : List SpillRow). length l) (waiting-rows r.query made.waiting s.waiting at.replayed.waiting) ∙ length-map (joined_lists made.waiting) (spilled (key_types r.query)) in
          let marks : sum_by (λ (m : Mark). m.rows) s.marks ≡ length (joined_lists made.frames) = ap (λ (l : List Mark). sum_by (λ (m : Mark). m.rows) l) at.replayed.marks ∙ marks-count (store_of r p).held made.frames in
          omega (arith, few, waits, marks, length-map made.merged (spilled (key_types r.query)), length-append made.merged (joined_lists made.waiting ++ joined_lists made.frames), length-append (joined_lists made.waiting) (joined_lists made.frames));
    };
    waiting = subst (AreOwn s) (sym (waiting-rows r.query made.waiting s.waiting at.replayed.waiting)) (own-spilled (joined_lists made.waiting) typed.waiting lies.waiting);
    numbers =
        subst (λ (l : List Mark). All (λ m. m.number < s.store.held) l) (sym at.replayed.marks)
        (marks-below (store_of r p).held s.store.held made.frames (omega (arith, at.replayed.held)));
    marked = λ tells. marked-each s.marks (map (spilled_all r.query) made.frames) (zip-told (store_of r p).told refl all tells);
  }

  -- with a local table of its query it can give their groups
  pub finish-replayed : (local : Table) (locals : List SpillRow) → HasHeld s.store.told s.store.held → local.shape ≡ s.table.shape → Holds s.table.shape.prototypes local.groups locals
      → AreRows s.table.shape.key_types s.table.shape.input_types locals → length (rows_of made) + length locals < 2 ^ 32 → CanFinish s local
  finish-replayed local locals all shape holds rows few = record { shape = shape; locals = locals; holds = holds; typed = rows; gathers = gathers-replayed (length locals) all few }

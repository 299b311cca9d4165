-- A closed partition that gathers its rows goes on standing for them.
use Rattle.std.proofs.Common.{◌≡◌, ◌≢◌, ◌∙◌, ◌+◌, ◌-◌, ◌<◌, ◌≤◌, ℕ, Bool, true, List, [], ◌∷◌, ◌++◌, length, map, refl, sym, ap, subst, arith, append_assoc, length-append, is_some, option_to_list, Option, Some, None, slice_get}
use Rattle.std.specs.List.{All, AllZip, Contains, list_all, slice_index_or, sum_by}
use Rattle.std.specs.List.Sorted.{IsPermutation}
use Rattle.std.proofs.lemmas.Bool.{and_parts}
use Rattle.std.proofs.lemmas.List.{append-nil, get_or-map, length-map, map-append}
use Rattle.std.proofs.lemmas.List.Elements.{All-append, All-cons, All-head, All-nil, All-tail, Contains-append_left}
use Rattle.std.proofs.lemmas.List.Sorted.{IsPermutation-append_comm, IsPermutation-append_right, IsPermutation-trans}
use Rattle.std.proofs.lemmas.List.Sums.{get_or-le-sum_by, sum_by_push}
use Rattle.pipe_plan.specs.Replay.{joined_lists}
use Rattle.pipe_plan.proofs.Replaying.{joined-append}
use Rattle.pipe_spill.specs.FrameBytes.{frame_bytes}
use Rattle.pipe_spill.specs.SpillRow.{AreRows, IsRow, joined_rows, Payload}
use Rattle.pipe_spill.specs.Store.{IsFrameAt}
use Rattle.pipe_spill.specs.declared.spill_row.SpillRow.{SpillRow}
use Rattle.pipe_groups.specs.Holds.{Holds}
use Rattle.pipe_groups.specs.Shape.{Shape}
use Rattle.pipe_groups.proofs.HoldFacts.{holds-same}
use Rattle.pipe_keyed.specs.Tables.{Table}
use Rattle.pipe_tables.specs.Tables.{lies_in}
use Rattle.pipe_global.specs.declared.batch_error.BatchError.{BatchError}
use Rattle.pipe_global.specs.declared.batch_error.BatchError.TheVariants as batch_error
use Rattle.pipe_global.specs.declared.mark.Mark.{Mark}
use Rattle.pipe_global.specs.Finishing.{AreOwn, CanGather, HasNoFault, IsCause, IsMarked, KeepsRest, StandsForRows}
use Rattle.pipe_global.specs.Gathering.{CanRead, HasAsked, HasGathered, HasRead, HasTakenFrame, HasTakenWaiting, IsLast}
use Rattle.pipe_global.specs.Moving.{CanMerge, TookRows}
use Rattle.pipe_global.specs.Partition.{PartitionSeen}
use Rattle.pipe_global.specs.Refused.{IsKeptBut}
use Rattle.pipe_global.proofs.Covering.{all-left}
use Rattle.pipe_global.proofs.Moved.{same-none}

-- ---- what is the same in a partition as it goes on

-- the store that was asked and no more
pub kept-asked : (s new : PartitionSeen) → HasAsked s new → KeepsRest s new
kept-asked s new a =
    let table : new.table ≡ s.table = ap (λ (x : PartitionSeen). x.table) a.others in record {
      shape = (ap (λ (t : Table). t.shape) table, ap (λ (t : Table). t.limit) table);
      store = a.store;
      others =
          let waiting : new.waiting ≡ s.waiting = ap (λ (x : PartitionSeen). x.waiting) a.others in
          let marks : new.marks ≡ s.marks = ap (λ (x : PartitionSeen). x.marks) a.others in
          a.others ∙ rw (table, waiting, marks) refl;
    }

pub kept-none : (s : PartitionSeen) → KeepsRest s s
kept-none s = record { shape = (refl, refl); store = record { told = refl; held = refl; sure = refl; path = refl; faults = omega arith }; others = refl }

pub kept-more : (s now new : PartitionSeen) → KeepsRest s now → KeepsRest now new → KeepsRest s new
kept-more s now new was more = record {
  shape = (more.shape.0 ∙ was.shape.0, more.shape.1 ∙ was.shape.1);
  store = record {
    told = more.store.told ∙ was.store.told;
    held = more.store.held ∙ was.store.held;
    sure = more.store.sure ∙ was.store.sure;
    path = more.store.path ∙ was.store.path;
    faults = omega (arith, was.store.faults, more.store.faults);
  };
  others = more.others ∙ ap (λ (x : PartitionSeen). record x { table = new.table; waiting = new.waiting; store = new.store; marks = new.marks }) was.others;
}

module _ (s new : PartitionSeen) (k : KeepsRest s new) where
  shape : new.table.shape ≡ s.table.shape
  shape = k.shape.0

  number : new.number ≡ s.number
  number = ap (λ (x : PartitionSeen). x.number) k.others

  partitions : new.partitions ≡ s.partitions
  partitions = ap (λ (x : PartitionSeen). x.partitions) k.others

  -- own rows stay own
  pub own-kept : (rows : List SpillRow) → AreOwn s rows → AreOwn new rows
  own-kept rows own = record {
    typed = subst (λ (x : Shape). AreRows x.key_types x.input_types rows) (sym shape) own.typed;
    lie = subst (λ n. All (λ r. lies_in new.partitions n r.key ≡ true) rows) (sym number) (subst (λ n. All (λ r. lies_in n s.number r.key ≡ true) rows) (sym partitions) own.lie);
  }

  -- and told frames stay told
  pub marked-kept : (m : Mark) (rows : List SpillRow) → IsMarked s m rows → IsMarked new m rows
  marked-kept m rows is = record {
    frames = is.frames;
    told = k.store.told ∙ is.told;
    frame = subst (λ (x : Shape). slice_get is.frames m.number ≡ Some (frame_bytes x.input_types rows)) (sym shape) is.frame;
    count = is.count;
    own = own-kept rows is.own;
  }

  pub zip-kept : (marks : List Mark) (frames : List (List SpillRow)) → AllZip (IsMarked s) marks frames → AllZip (IsMarked new) marks frames
  zip-kept [] [] z = tt
  zip-kept [] (f ∷ frames) z = absurd z
  zip-kept (m ∷ marks) [] z = absurd z
  zip-kept (m ∷ marks) (f ∷ frames) z = (marked-kept m f z.0, zip-kept marks frames z.1)

  -- the marks that are left have their frames
  pub all-kept : (marks : List Mark) → (is_some s.store.told ≡ true → All (λ m. (rows : List SpillRow) × IsMarked s m rows) marks)
      → is_some new.store.told ≡ true → All (λ m. (rows : List SpillRow) × IsMarked new m rows) marks
  all-kept marks all tells = λ i d lt.
      let at = all (ap (λ (o : Option (List (List ℕ))). is_some o) (sym k.store.told) ∙ tells) i d lt in
      (at.0, marked-kept _ at.0 at.1)

-- own rows, and others
pub own-append : (s : PartitionSeen) (xs ys : List SpillRow) → AreOwn s xs → AreOwn s ys → AreOwn s (xs ++ ys)
own-append s xs ys a b = record {
  typed = All-append (IsRow s.table.shape.key_types s.table.shape.input_types) xs ys a.typed b.typed;
  lie = All-append (λ r. lies_in s.partitions s.number r.key ≡ true) xs ys a.lie b.lie;
}

pub own-none : (s : PartitionSeen) → AreOwn s []
own-none s = record {
  typed = All-nil (IsRow s.table.shape.key_types s.table.shape.input_types);
  lie = All-nil (λ r. lies_in s.partitions s.number r.key ≡ true);
}

-- ---- rows are taken in

-- what a table holds of rows, when others came
holds-taken : (t new : Table) (rows held : List SpillRow) → TookRows t new rows → Holds t.shape.prototypes t.groups held → Holds new.shape.prototypes new.groups (held ++ rows)
holds-taken t new rows held taken h = subst (λ (x : Shape). Holds x.prototypes new.groups (held ++ rows)) (sym taken.shape.0) (taken.holds held h)

-- the rows of the last mark are the last ones
record LastFrame (s : PartitionSeen) (marks : List Mark) (m : Mark) (frames : List (List SpillRow)) : Type 0 where
  front : List (List SpillRow)
  last : List SpillRow
  is : frames ≡ front ++ last ∷ []
  others : AllZip (IsMarked s) marks front
  marked : IsMarked s m last

last-frame : (s : PartitionSeen) (marks : List Mark) (m : Mark) (frames : List (List SpillRow)) → AllZip (IsMarked s) (marks ++ m ∷ []) frames → LastFrame s marks m frames
last-frame s [] m [] z = absurd z
last-frame s [] m (f ∷ []) z = record { front = []; last = f; is = refl; others = tt; marked = z.0 }
last-frame s [] m (f ∷ g ∷ frames) z = absurd z.1
last-frame s (x ∷ marks) m [] z = absurd z
last-frame s (x ∷ marks) m (f ∷ frames) z =
    let rest = last-frame s marks m frames z.1 in
    record { front = f ∷ rest.front; last = rest.last; is = ap (λ (l : List (List SpillRow)). f ∷ l) rest.is; others = (z.0, rest.others); marked = rest.marked }

-- rows at the end come behind the first
moved-front : (held waiting frames rows : List SpillRow) → IsPermutation (held ++ (waiting ++ (frames ++ rows))) ((held ++ rows) ++ (waiting ++ frames))
moved-front held waiting frames rows =
    let swapped : IsPermutation ((waiting ++ frames) ++ rows) (rows ++ (waiting ++ frames)) = IsPermutation-append_comm (waiting ++ frames) rows in
    let moved : IsPermutation (held ++ ((waiting ++ frames) ++ rows)) (held ++ (rows ++ (waiting ++ frames))) = IsPermutation-append_right held ((waiting ++ frames) ++ rows) (rows ++ (waiting ++ frames)) swapped in
    subst (λ (l : List SpillRow). IsPermutation (held ++ (waiting ++ (frames ++ rows))) l) (sym (append_assoc held rows (waiting ++ frames)))
    (subst (λ (l : List SpillRow). IsPermutation (held ++ l) (held ++ (rows ++ (waiting ++ frames)))) (append_assoc waiting frames rows) moved)

module _ (s mid : PartitionSeen) (m : Mark) (rows : List SpillRow) (new : PartitionSeen) (asked : HasAsked s mid) (read : HasRead s m rows) (taken : HasTakenFrame mid m rows new) where
  table-mid : mid.table ≡ s.table
  table-mid = ap (λ (x : PartitionSeen). x.table) asked.others

  took : TookRows s.table new.table rows
  took = subst (λ (t : Table). TookRows t new.table rows) table-mid taken.taken

  marks-split : s.marks ≡ new.marks ++ m ∷ []
  marks-split = ap (λ (x : PartitionSeen). x.marks) (sym asked.others) ∙ taken.marks

  waiting-same : new.waiting ≡ s.waiting
  waiting-same = ap (λ (x : PartitionSeen). x.waiting) taken.others ∙ ap (λ (x : PartitionSeen). x.waiting) asked.others

  store-same : new.store ≡ mid.store
  store-same = ap (λ (x : PartitionSeen). x.store) taken.others

  frame-kept : KeepsRest s new
  frame-kept = kept-more s mid new (kept-asked s mid asked) (record {
    shape = taken.taken.shape;
    store = rw store-same record { told = refl; held = refl; sure = refl; path = refl; faults = omega arith };
    others =
        let waiting : new.waiting ≡ mid.waiting = ap (λ (x : PartitionSeen). x.waiting) taken.others in
        taken.others ∙ rw (waiting, store-same) refl;
  })

  -- the rows of a frame were gathered
  pub gathered-frame : HasGathered s new
  gathered-frame = record {
    kept = frame-kept;
    gathers = gathers;
    stands = stands;
    marks = λ n has.
        subst (λ (l : List Mark). Contains (map (λ m. m.number) l) n) (sym marks-split)
        (subst (λ (l : List ℕ). Contains l n) (sym (map-append (λ (m : Mark). m.number) new.marks (m ∷ []))) (Contains-append_left (map (λ m. m.number) new.marks) (m.number ∷ []) n has));
  } where
    gathers : (more : ℕ) → CanGather s more → CanGather new more
    gathers more can =
        let P : Mark → Type 0 = λ m. (rows : List SpillRow) × IsMarked s m rows in
        let total : sum_by (λ (m : Mark). m.rows) s.marks ≡ sum_by (λ (m : Mark). m.rows) new.marks + m.rows = ap (λ (l : List Mark). sum_by (λ (m : Mark). m.rows) l) marks-split ∙ sum_by_push (λ (m : Mark). m.rows) new.marks m in
        let waits : length (joined_rows new.waiting) ≡ length (joined_rows s.waiting) = ap (λ (l : List Payload). length (joined_rows l)) waiting-same in
        record {
          exists = rw (number s new frame-kept, partitions s new frame-kept) can.exists;
          limit = took.shape.1 ∙ can.limit;
          few = record {
            rows = can.few.rows ++ rows;
            holds = holds-taken s.table new.table rows can.few.rows took can.few.holds;
            own = own-kept s new frame-kept (can.few.rows ++ rows) (own-append s can.few.rows rows can.few.own read.own);
            few = omega (arith, can.few.few, total, waits, read.count, length-append can.few.rows rows);
          };
          waiting = subst (λ (l : List Payload). AreOwn new (joined_rows l)) (sym waiting-same) (own-kept s new frame-kept (joined_rows s.waiting) can.waiting);
          numbers =
              let all : All (λ m. m.number < s.store.held) new.marks = all-left (λ m. m.number < s.store.held) new.marks (m ∷ []) (subst (All (λ m. m.number < s.store.held)) marks-split can.numbers) in
              subst (λ n. All (λ m. m.number < n) new.marks) (sym frame-kept.store.held) all;
          marked = all-kept s new frame-kept new.marks (λ tells. all-left P new.marks (m ∷ []) (subst (All P) marks-split (can.marked tells)));
        }

    stands : (all : List SpillRow) → StandsForRows s all → StandsForRows new all
    stands all st =
        let last = last-frame s new.marks m st.frames (subst (λ (l : List Mark). AllZip (IsMarked s) l st.frames) marks-split st.marked) in
        let own : last.last ≡ rows = read.back last.last last.marked in
        let joined : joined_lists st.frames ≡ joined_lists last.front ++ rows =
        ap (λ (l : List (List SpillRow)). joined_lists l) last.is ∙ joined-append last.front (last.last ∷ []) ∙ ap (λ (l : List SpillRow). joined_lists last.front ++ l) (append-nil last.last ∙ own) in
        record {
          held = st.held ++ rows;
          frames = last.front;
          holds = holds-taken s.table new.table rows st.held took st.holds;
          marked = zip-kept s new frame-kept new.marks last.front last.others;
          all =
              subst (λ (l : List Payload). IsPermutation all ((st.held ++ rows) ++ (joined_rows l ++ joined_lists last.front))) (sym waiting-same)
              (IsPermutation-trans all (st.held ++ (joined_rows s.waiting ++ (joined_lists last.front ++ rows))) ((st.held ++ rows) ++ (joined_rows s.waiting ++ joined_lists last.front))
              (subst (λ (l : List SpillRow). IsPermutation all (st.held ++ (joined_rows s.waiting ++ l))) joined st.all)
              (moved-front st.held (joined_rows s.waiting) (joined_lists last.front) rows));
        }

-- what waited was gathered
pub gathered-waiting : (s new : PartitionSeen) → HasTakenWaiting s new → HasGathered s new
gathered-waiting s new t = record {
  kept = kept;
  gathers = gathers;
  stands = stands;
  marks = λ n has. subst (λ (l : List Mark). Contains (map (λ m. m.number) l) n) marks has;
} where
  waiting : new.waiting ≡ []
  waiting = ap (λ (x : PartitionSeen). x.waiting) t.others

  marks : new.marks ≡ s.marks
  marks = ap (λ (x : PartitionSeen). x.marks) t.others

  store : new.store ≡ s.store
  store = ap (λ (x : PartitionSeen). x.store) t.others

  kept : KeepsRest s new
  kept = record {
    shape = t.taken.shape;
    store = rw store record { told = refl; held = refl; sure = refl; path = refl; faults = omega arith };
    others = t.others ∙ rw (waiting, marks, store) refl;
  }

  gathers : (more : ℕ) → CanGather s more → CanGather new more
  gathers more can = record {
    exists = rw (number s new kept, partitions s new kept) can.exists;
    limit = t.taken.shape.1 ∙ can.limit;
    few = record {
      rows = can.few.rows ++ joined_rows s.waiting;
      holds = holds-taken s.table new.table (joined_rows s.waiting) can.few.rows t.taken can.few.holds;
      own = own-kept s new kept (can.few.rows ++ joined_rows s.waiting) (own-append s can.few.rows (joined_rows s.waiting) can.few.own can.waiting);
      few =
          let total : sum_by (λ (m : Mark). m.rows) new.marks ≡ sum_by (λ (m : Mark). m.rows) s.marks = ap (λ (l : List Mark). sum_by (λ (m : Mark). m.rows) l) marks in
          let none : length (joined_rows new.waiting) ≡ 0 = ap (λ (l : List Payload). length (joined_rows l)) waiting in
          omega (arith, can.few.few, total, none, length-append can.few.rows (joined_rows s.waiting));
    };
    waiting = subst (λ (l : List Payload). AreOwn new (joined_rows l)) (sym waiting) (own-none new);
    numbers = subst (λ (l : List Mark). All (λ m. m.number < new.store.held) l) (sym marks) (subst (λ n. All (λ m. m.number < n) s.marks) (sym kept.store.held) can.numbers);
    marked = λ tells. subst (λ (l : List Mark). All (λ m. (rows : List SpillRow) × IsMarked new m rows) l) (sym marks) (all-kept s new kept s.marks can.marked tells);
  }

  stands : (all : List SpillRow) → StandsForRows s all → StandsForRows new all
  stands all st = record {
    held = st.held ++ joined_rows s.waiting;
    frames = st.frames;
    holds = holds-taken s.table new.table (joined_rows s.waiting) st.held t.taken st.holds;
    marked = subst (λ (l : List Mark). AllZip (IsMarked new) l st.frames) (sym marks) (zip-kept s new kept s.marks st.frames st.marked);
    all =
        subst (λ (l : List Payload). IsPermutation all ((st.held ++ joined_rows s.waiting) ++ (joined_rows l ++ joined_lists st.frames))) (sym waiting)
        (subst (IsPermutation all) (sym (append_assoc st.held (joined_rows s.waiting) (joined_lists st.frames))) st.all);
  }

-- nothing was gathered: there may be more room in the table
pub gathered-kept : (s new : PartitionSeen) → IsKeptBut s new s.failed → HasGathered s new
gathered-kept s new k = record {
  kept = kept;
  gathers = gathers;
  stands = stands;
  marks = λ n has. subst (λ (l : List Mark). Contains (map (λ m. m.number) l) n) marks has;
} where
  waiting : new.waiting ≡ s.waiting
  waiting = ap (λ (x : PartitionSeen). x.waiting) k.others

  marks : new.marks ≡ s.marks
  marks = ap (λ (x : PartitionSeen). x.marks) k.others

  kept : KeepsRest s new
  kept = record { shape = k.table.shape; store = k.store; others = k.others ∙ rw (waiting, marks) refl }

  holds : (rows : List SpillRow) → Holds s.table.shape.prototypes s.table.groups rows → Holds new.table.shape.prototypes new.table.groups rows
  holds rows h = subst (λ (x : Shape). Holds x.prototypes new.table.groups rows) (sym k.table.shape.0) (holds-same s.table.shape.prototypes s.table.groups new.table.groups rows k.table.held h)

  gathers : (more : ℕ) → CanGather s more → CanGather new more
  gathers more can = record {
    exists = rw (number s new kept, partitions s new kept) can.exists;
    limit = k.table.shape.1 ∙ can.limit;
    few = record {
      rows = can.few.rows;
      holds = holds can.few.rows can.few.holds;
      own = own-kept s new kept can.few.rows can.few.own;
      few =
          let total : sum_by (λ (m : Mark). m.rows) new.marks ≡ sum_by (λ (m : Mark). m.rows) s.marks = ap (λ (l : List Mark). sum_by (λ (m : Mark). m.rows) l) marks in
          let waits : length (joined_rows new.waiting) ≡ length (joined_rows s.waiting) = ap (λ (l : List Payload). length (joined_rows l)) waiting in
          omega (arith, can.few.few, total, waits);
    };
    waiting = subst (λ (l : List Payload). AreOwn new (joined_rows l)) (sym waiting) (own-kept s new kept (joined_rows s.waiting) can.waiting);
    numbers = subst (λ (l : List Mark). All (λ m. m.number < new.store.held) l) (sym marks) (subst (λ n. All (λ m. m.number < n) s.marks) (sym kept.store.held) can.numbers);
    marked = λ tells. subst (λ (l : List Mark). All (λ m. (rows : List SpillRow) × IsMarked new m rows) l) (sym marks) (all-kept s new kept s.marks can.marked tells);
  }

  stands : (all : List SpillRow) → StandsForRows s all → StandsForRows new all
  stands all st = record {
    held = st.held;
    frames = st.frames;
    holds = holds st.held st.holds;
    marked = subst (λ (l : List Mark). AllZip (IsMarked new) l st.frames) (sym marks) (zip-kept s new kept s.marks st.frames st.marked);
    all = subst (λ (l : List Payload). IsPermutation all (st.held ++ (joined_rows l ++ joined_lists st.frames))) (sym waiting) st.all;
  }

-- nor was it where the store was only asked
pub gathered-asked : (s new : PartitionSeen) → HasAsked s new → HasGathered s new
gathered-asked s new a = gathered-kept s new (record {
  table = rw (ap (λ (x : PartitionSeen). x.table) a.others) (same-none s.table);
  store = a.store;
  others =
      let table : new.table ≡ s.table = ap (λ (x : PartitionSeen). x.table) a.others in
      a.others ∙ rw table refl;
})

-- a store that wasn't asked
pub asked-none : (s : PartitionSeen) → HasAsked s s
asked-none s = record { store = record { told = refl; held = refl; sure = refl; path = refl; faults = omega arith }; others = refl }

-- the last mark stays the last as the store is asked
pub asked-last : (s new : PartitionSeen) (m : Mark) → HasAsked s new → IsLast s.marks m → IsLast new.marks m
asked-last s new m a last = subst (λ (l : List Mark). IsLast l m) (sym (ap (λ (x : PartitionSeen). x.marks) a.others)) last

-- ---- one after another

pub gathered-none : (s : PartitionSeen) → HasGathered s s
gathered-none s = record { kept = kept-none s; gathers = λ more can. can; stands = λ rows st. st; marks = λ n has. has }

pub gathered-more : (s now new : PartitionSeen) → HasGathered s now → HasGathered now new → HasGathered s new
gathered-more s now new was more = record {
  kept = kept-more s now new was.kept more.kept;
  gathers = λ n can. more.gathers n (was.gathers n can);
  stands = λ rows st. more.stands rows (was.stands rows st);
  marks = λ n has. was.marks n (more.marks n has);
}

-- the cause of a fault of what follows
pub cause-more : (s now new : PartitionSeen) (e : BatchError) → HasGathered s now → HasNoFault s now → IsCause now new e → IsCause s new e
cause-more s now new (batch_error.Store p) was calm why = (why.0 ∙ number s now was.kept, omega (arith, why.1, calm))
cause-more s now new (batch_error.Damaged p n) was calm why = (why.0 ∙ number s now was.kept, sym was.kept.store.told ∙ why.1, was.marks n why.2, why.3 ∙ calm)
cause-more s now new batch_error.Memory was calm why = why ∙ calm

-- ---- a frame that is read

-- where a mark's frame is told, its bytes are what the store gave
pub told-bytes : (s : PartitionSeen) (m : Mark) (rows : List SpillRow) (bytes : List ℕ) → IsMarked s m rows → IsFrameAt s.store.told m.number bytes → frame_bytes s.table.shape.input_types rows ≡ bytes
told-bytes s m rows bytes is at =
    let own : slice_get is.frames m.number ≡ Some bytes = subst (λ (o : Option (List (List ℕ))). IsFrameAt o m.number bytes) is.told at in
    let both : Some (frame_bytes s.table.shape.input_types rows) ≡ Some bytes = sym is.frame ∙ own in
    cc

-- fewer rows more can be gathered
pub gather-fewer : (s : PartitionSeen) (more : ℕ) → CanGather s more → CanGather s 0
gather-fewer s more can = record {
  exists = can.exists;
  limit = can.limit;
  few = record { rows = can.few.rows; holds = can.few.holds; own = can.few.own; few = omega (arith, can.few.few) };
  waiting = can.waiting;
  numbers = can.numbers;
  marked = can.marked;
}

-- what a test says of a whole list, it says of each
pub all-tested : {A : Type 0} (test : A → Bool) (xs : List A) → list_all test xs ≡ true → All (λ x. test x ≡ true) xs
all-tested test [] h = All-nil (λ x. test x ≡ true)
all-tested test (x ∷ xs) h =
    let both = and_parts (test x) (list_all test xs) h in
    All-cons (λ x. test x ≡ true) x xs both.0 (all-tested test xs both.1)

tested-all : {A : Type 0} (test : A → Bool) (xs : List A) → All (λ x. test x ≡ true) xs → list_all test xs ≡ true
tested-all test [] all = refl
tested-all test (x ∷ xs) all = rw (All-head (λ x. test x ≡ true) x xs all) (tested-all test xs (All-tail (λ x. test x ≡ true) x xs all))

module _ (s : PartitionSeen) (m : Mark) (bytes : List ℕ) (at : IsFrameAt s.store.told m.number bytes) where
  -- rows that were read of the bytes that the store gave
  pub has-read : (rows : List SpillRow) → AreRows s.table.shape.key_types s.table.shape.input_types rows → list_all (λ r. lies_in s.partitions s.number r.key) rows ≡ true → length rows ≡ m.rows
      → ((others : List SpillRow) → AreRows s.table.shape.key_types s.table.shape.input_types others → frame_bytes s.table.shape.input_types others ≡ bytes → others ≡ rows) → HasRead s m rows
  has-read rows typed lie count back = record {
    own = record { typed = typed; lie = all-tested (λ r. lies_in s.partitions s.number r.key) rows lie };
    count = count;
    back = λ others is. back others is.own.typed (told-bytes s m others bytes is at);
  }

  -- where none could be read, the store doesn't tell
  pub untold : CanRead s m
      → ((rows : List SpillRow) → AreRows s.table.shape.key_types s.table.shape.input_types rows → list_all (λ r. lies_in s.partitions s.number r.key) rows ≡ true → length rows ≡ m.rows
      → frame_bytes s.table.shape.input_types rows ≢ bytes)
      → s.store.told ≡ None
  untold can none = by s.store.told refl where
    by : (o : Option (List (List ℕ))) → s.store.told ≡ o → o ≡ None
    by None e = refl
    by (Some frames) e =
        let marked = can.marked (ap (λ (o : Option (List (List ℕ))). is_some o) e) in
        let is = marked.1 in
        absurd (none marked.0 is.own.typed (tested-all (λ r. lies_in s.partitions s.number r.key) marked.0 is.own.lie) is.count (told-bytes s m marked.0 bytes is at))

-- ---- the last mark

-- the last mark can be read
pub can-read : (s : PartitionSeen) (m : Mark) → CanGather s 0 → IsLast s.marks m → CanRead s m
can-read s m can last =
    let lt : length s.marks - 1 < length s.marks = omega (arith, last.some) in
    let at : slice_index_or s.marks (length s.marks - 1) m ≡ m = last.at m in
    let P : Mark → Type 0 = λ m. (rows : List SpillRow) × IsMarked s m rows in
    record {
      exists = can.exists;
      number = subst (λ (x : Mark). x.number < s.store.held) at (can.numbers (length s.marks - 1) m lt);
      listed = contains-map s.marks (length s.marks - 1) lt at;
      marked = λ tells. subst P at (can.marked tells (length s.marks - 1) m lt);
    }
  where
    contains-map : (xs : List Mark) (k : ℕ) → k < length xs → slice_index_or xs k m ≡ m → Contains (map (λ m. m.number) xs) m.number
    contains-map xs k lt at = (k, omega (arith, lt, length-map xs (λ (m : Mark). m.number)), get_or-map (λ (m : Mark). m.number) xs k m m.number lt ∙ ap (λ (x : Mark). x.number) at)

-- it is what a pop takes away
pub popped : (old new : List Mark) (n : ℕ) (o : Option Mark) (m : Mark) → n ≡ length old → IsLast old m → old ≡ new ++ option_to_list o → ((d : Mark) → 0 < n → o ≡ Some (slice_index_or old (n - 1) d)) → old ≡ new ++ m ∷ []
popped old new n o m long last items value =
    let at : o ≡ Some (slice_index_or old (length old - 1) m) = subst (λ n. 0 < n → o ≡ Some (slice_index_or old (n - 1) m)) long (value m) last.some in
    items ∙ ap (λ (x : Option Mark). new ++ option_to_list x) (at ∙ ap (λ (x : Mark). Some x) (last.at m))

-- its rows can be merged
pub merge-read : (s : PartitionSeen) (m : Mark) (rows : List SpillRow) → CanGather s 0 → IsLast s.marks m → HasRead s m rows → CanMerge s.table rows
merge-read s m rows can last read = record {
  limit = can.limit;
  typed = read.own.typed;
  few = record {
    rows = can.few.rows;
    holds = can.few.holds;
    typed = can.few.own.typed;
    few = omega (arith, can.few.few, read.count, counted s.marks last);
  };
} where
  counted : (marks : List Mark) → IsLast marks m → m.rows ≤ sum_by (λ (m : Mark). m.rows) marks
  counted marks last =
      subst (λ (x : Mark). x.rows ≤ sum_by (λ (m : Mark). m.rows) marks) (last.at m)
      (get_or-le-sum_by (λ (m : Mark). m.rows) marks (length marks - 1) m (omega (arith, last.some)))

-- what waits can be merged
pub merge-waiting : (s : PartitionSeen) → CanGather s 0 → CanMerge s.table (joined_rows s.waiting)
merge-waiting s can = record {
  limit = can.limit;
  typed = can.waiting.typed;
  few = record { rows = can.few.rows; holds = can.few.holds; typed = can.few.own.typed; few = omega (arith, can.few.few) };
}

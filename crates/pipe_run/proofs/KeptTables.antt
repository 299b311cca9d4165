-- The tables of workers that have closed, combined one by one.
use Rattle.std.proofs.Common.{◌≡◌, ◌∙◌, ◌+◌, ◌%◌, ◌<◌, ◌≤◌, ℕ, zero, suc, true, List, [], ◌∷◌, ◌++◌, length, refl, sym, ap, subst, arith, append_assoc, length-append, ⊎_elim}
use Rattle.std.specs.List.{All, count_by, flat_map, range_with_len, slice_index_or}
use Rattle.std.proofs.lemmas.Bool.{cases_eq}
use Rattle.std.proofs.lemmas.Grind.{flat_map-append}
use Rattle.std.proofs.lemmas.List.{append-nil, length-map, map-append}
use Rattle.std.proofs.lemmas.List.Elements.{All-append, All-filter, All-nil}
use Rattle.std.proofs.Math.Nat.{mod-lt}
use Rattle.pipe_columns.specs.Row.{Row}
use Rattle.pipe_aggs.specs.CheckedQuery.{input_types}
use Rattle.pipe_model.specs.Output.{key_types}
use Rattle.pipe_plan.specs.Kept.{is_kept}
use Rattle.pipe_plan.specs.Run.{all_rows, is_turn_of, of_worker, Run}
use Rattle.pipe_plan.specs.Whole.{all_kept, kept_rows}
use Rattle.pipe_plan.proofs.Adding.{count-over, sum_to, sum_to-le}
use Rattle.pipe_plan.proofs.AllRows.{count-parts}
use Rattle.pipe_plan.proofs.ChunkRows.{each-any, range-append}
use Rattle.pipe_plan.proofs.Filtering.{count-all}
use Rattle.pipe_spill.specs.SpillRow.{AreRows, HasValues, spilled}
use Rattle.pipe_spill.specs.declared.spill_row.SpillRow.{SpillRow}
use Rattle.pipe_spill.proofs.SpilledRows.{spilled_are_rows}
use Rattle.pipe_groups.specs.Groups.{AreJoined}
use Rattle.pipe_groups.specs.Holds.{Holds}
use Rattle.pipe_groups.specs.Shape.{Shape, shape_of}
use Rattle.pipe_groups.proofs.HoldFacts.{holds-joined}
use Rattle.pipe_keyed.specs.Tables.{HoldFewTogether, KeepsShape, Table}
use Rattle.pipe_global.specs.Partition.{IsRunnable, spilled_all}
use Rattle.pipe_global.proofs.RunFacts.{length-kept}
use Rattle.pipe_workers.specs.declared.paused.PausedWorker.{PausedWorker}
use Rattle.pipe_run.specs.Fed.{HasKept, HaveKept}

-- ---- how many rows workers keep

every : (xs : List Row) → count_by (λ x. true) xs ≡ length xs
every xs = count-all (λ x. true) xs (λ front back x is. refl)

-- a sum over fewer numbers is no greater
sum_to-front : (n m : ℕ) (f : ℕ → ℕ) → n ≤ m → sum_to n f ≤ sum_to m f
sum_to-front n zero f le = omega (arith, ap (λ k. sum_to k f) {x = n} {y = 0} (omega (arith, le)))
sum_to-front n (suc m) f le = ⊎_elim
    (λ is. omega (arith, ap (λ k. sum_to k f) {x = n} {y = suc m} is))
    (λ apart. omega (arith, sum_to-front n m f (omega (arith, le, apart))))
    (cases_eq n (suc m))

-- the rows that the first workers keep
abbrev pub kept_by : Run → ℕ → List Row
kept_by r n = flat_map (kept_rows r) (range_with_len 0 n)

-- are no more than there are
pub kept-few : (r : Run) (n : ℕ) → 0 < r.limits.workers → n ≤ r.limits.workers → length (kept_by r n) ≤ length (all_rows r)
kept-few r n workers le =
    let each : ℕ → ℕ = λ w. count_by (λ x. true) (kept_rows r w) in
    let dealt = count-parts (λ x. true) (λ (x : Row). x.place.chunk % r.limits.workers) r.limits.workers (all_rows r) (each-any (λ (x : Row). x.place.chunk % r.limits.workers < r.limits.workers) (all_rows r) (λ x. mod-lt x.place.chunk workers)) in
    omega (
      arith,
      every (kept_by r n),
      every (all_rows r),
      count-over (λ x. true) (kept_rows r) n,
      sum_to-front n r.limits.workers each le,
      sum_to-le r.limits.workers each (λ w. count_by (λ x. true) (of_worker r w)) (λ w lt. omega (arith, every (kept_rows r w), every (of_worker r w), length-kept (is_kept r w) (of_worker r w))),
      dealt,
    )

-- one worker more keeps its rows
pub kept-more : (r : Run) (n : ℕ) → kept_by r (n + 1) ≡ kept_by r n ++ kept_rows r n
kept-more r n =
    ap (flat_map (kept_rows r)) (range-append 0 n 1)
    ∙ flat_map-append (kept_rows r) (range_with_len 0 n) (range_with_len (0 + n) 1)
    ∙ ap (λ (l : List Row). kept_by r n ++ l) (append-nil (kept_rows r (0 + n)))
    ∙ ap (λ k. kept_by r n ++ kept_rows r k) {x = 0 + n} {y = n} (omega arith)

-- what each row has, each that is kept has
all-kept : (P : Row → Type 0) (r : Run) (ws : List ℕ) → All P (all_rows r) → All P (flat_map (kept_rows r) ws)
all-kept P r [] all = All-nil P
all-kept P r (w ∷ ws) all =
    All-append P (kept_rows r w) (flat_map (kept_rows r) ws)
    (All-filter (is_kept r w) P (of_worker r w) (All-filter (λ x. is_turn_of r w x.place.chunk) P (all_rows r) all))
    (all-kept P r ws all)

-- they are of the query's types
pub kept-typed : (r : Run) (ws : List ℕ) → IsRunnable r → AreRows (shape_of r.query).key_types (shape_of r.query).input_types (spilled_all r.query (flat_map (kept_rows r) ws))
kept-typed r ws run = spilled_are_rows (key_types r.query) (input_types r.query) (flat_map (kept_rows r) ws) (all-kept (HasValues (key_types r.query) (input_types r.query)) r ws run.typed)

one-typed : (r : Run) (w : ℕ) → IsRunnable r → AreRows (shape_of r.query).key_types (shape_of r.query).input_types (spilled_all r.query (kept_rows r w))
one-typed r w run = subst (λ (l : List Row). AreRows (shape_of r.query).key_types (shape_of r.query).input_types (spilled_all r.query l)) (append-nil (kept_rows r w)) (kept-typed r (w ∷ []) run)

-- ---- tables that are combined

-- a table holds the rows that the first workers keep, and the others wait
pub record HoldsFirst (r : Run) (rests waiting : List PausedWorker) (t : Table) : Type 0 where
  pub front : List PausedWorker
  pub all : front ++ waiting ≡ rests
  pub shape : t.shape ≡ shape_of r.query
  pub holds : Holds (shape_of r.query).prototypes t.groups (spilled_all r.query (kept_by r (length front)))

-- the worker behind some
at-front : (front back : List PausedWorker) (x d : PausedWorker) → slice_index_or (front ++ x ∷ back) (length front) d ≡ x
at-front [] back x d = refl
at-front (y ∷ front) back x d = at-front front back x d

module _ (r : Run) (rests : List PausedWorker) (kept : HaveKept r rests) where
  -- the next of the workers has kept its rows
  next-kept : (front back : List PausedWorker) (x : PausedWorker) → front ++ x ∷ back ≡ rests → HasKept r (length front) x
  next-kept front back x is =
      let within : length front < length rests = omega (arith, ap (λ (l : List PausedWorker). length l) is, length-append front (x ∷ back)) in
      subst (HasKept r (length front)) (ap (λ (l : List PausedWorker). slice_index_or l (length front) x) (sym is) ∙ at-front front back x x) (kept.each (length front) x within)

  -- the first one's table
  pub holds-first : (x : PausedWorker) (waiting : List PausedWorker) (t : Table) → rests ≡ x ∷ waiting → t ≡ x.table.table → HoldsFirst r rests waiting t
  holds-first x waiting t is same =
      let one = next-kept [] waiting x (sym is) in
      record {
        front = x ∷ [];
        all = sym is;
        shape = ap (λ (u : Table). u.shape) same ∙ one.shape;
        holds = subst (λ (u : Table). Holds (shape_of r.query).prototypes u.groups (spilled_all r.query (kept_by r 1))) (sym same)
            (subst (λ (l : List Row). Holds (shape_of r.query).prototypes x.table.table.groups (spilled_all r.query l)) (sym (append-nil (kept_rows r 0))) one.holds);
      }

  module _ (t : Table) (x : PausedWorker) (waiting : List PausedWorker) (h : HoldsFirst r rests (x ∷ waiting) t) where
    own : HasKept r (length h.front) x
    own = next-kept h.front waiting x h.all

    within : length h.front < r.limits.workers
    within = omega (arith, kept.count, ap (λ (l : List PausedWorker). length l) h.all, length-append h.front (x ∷ waiting))

    -- it is of the next one's shape
    pub next-shape : x.table.table.shape ≡ t.shape
    next-shape = own.shape ∙ sym h.shape

    -- and together they hold few rows
    pub next-few : IsRunnable r → HoldFewTogether t x.table.table
    next-few run =
        let mine = spilled_all r.query (kept_by r (length h.front)) in
        let theirs = spilled_all r.query (kept_rows r (length h.front)) in
        let all : length (kept_by r (length h.front + 1)) ≤ length (all_rows r) = kept-few r (length h.front + 1) run.limits.workers (omega (arith, within)) in
        record {
          rows = mine;
          others = theirs;
          holds = subst (λ (s : Shape). Holds s.prototypes t.groups mine) (sym h.shape) h.holds;
          other_holds = subst (λ (s : Shape). Holds s.prototypes x.table.table.groups theirs) (sym h.shape) own.holds;
          typed = subst (λ (s : Shape). AreRows s.key_types s.input_types mine) (sym h.shape) (kept-typed r (range_with_len 0 (length h.front)) run);
          others_typed = subst (λ (s : Shape). AreRows s.key_types s.input_types theirs) (sym h.shape) (one-typed r (length h.front) run);
          few = omega (
            arith,
            run.few,
            all,
            ap (λ (l : List Row). length l) (kept-more r (length h.front)),
            length-append (kept_by r (length h.front)) (kept_rows r (length h.front)),
            length-map (kept_by r (length h.front)) (spilled (key_types r.query)),
            length-map (kept_rows r (length h.front)) (spilled (key_types r.query)),
          );
        }

    -- combined, they hold the rows of one worker more
    pub holds-next : (new : Table) → KeepsShape t new → AreJoined t.shape.prototypes t.groups x.table.table.groups new.groups → HoldsFirst r rests waiting new
    holds-next new keeps joined =
        let ps = (shape_of r.query).prototypes in
        let both = (holds-joined ps t.groups x.table.table.groups new.groups (spilled_all r.query (kept_by r (length h.front))) (spilled_all r.query (kept_rows r (length h.front)))
        (subst (λ (s : Shape). AreJoined s.prototypes t.groups x.table.table.groups new.groups) h.shape joined) h.holds own.holds).0 in
        let rows : spilled_all r.query (kept_by r (length h.front)) ++ spilled_all r.query (kept_rows r (length h.front)) ≡ spilled_all r.query (kept_by r (length (h.front ++ x ∷ []))) =
        sym (map-append (spilled (key_types r.query)) (kept_by r (length h.front)) (kept_rows r (length h.front)))
        ∙ ap (spilled_all r.query) (sym (kept-more r (length h.front)) ∙ ap (kept_by r) (sym (length-append h.front (x ∷ [])))) in
        record {
          front = h.front ++ x ∷ [];
          all = append_assoc h.front (x ∷ []) waiting ∙ h.all;
          shape = keeps.0 ∙ h.shape;
          holds = subst (λ (l : List SpillRow). Holds ps new.groups l) rows both;
        }

  -- in the end it holds the rows that all keep
  pub holds-all : (t : Table) → HoldsFirst r rests [] t → Holds (shape_of r.query).prototypes t.groups (spilled_all r.query (all_kept r))
  holds-all t h =
      let count : length h.front ≡ r.limits.workers = ap (λ (l : List PausedWorker). length l) (sym (append-nil h.front) ∙ h.all) ∙ kept.count in
      subst (λ n. Holds (shape_of r.query).prototypes t.groups (spilled_all r.query (kept_by r n))) count h.holds

-- What holds of the stores of a run.
use Rattle.std.proofs.Common.{◌≡◌, ◌∙◌, ◌+◌, ◌<◌, ◌≤◌, ◌^◌, ◌==◌, ℕ, Bool, true, List, [], ◌∷◌, ◌++◌, length, map, refl, sym, ap, subst, append-nil, append_assoc, arith, suc, zero, inl, inr, rules, Vec, Global, Option, None, Some}
use Rattle.std.specs.Prelude.{◌⊎◌, ◌&&◌, IsTrue, is_some, nat_lt, option_map, replicate}
use Rattle.std.specs.Cmp.Derive.{both_true}
use Rattle.std.specs.List.{All, list_all, slice_index_or}
use Rattle.std.proofs.lemmas.Bool.{false≢true, le-leb, lt-ltb}
use Rattle.std.proofs.lemmas.List.{length-append, length-map, map-append, replicate-append-replicate}
use Rattle.std.proofs.lemmas.List.Elements.{All-append, All-cons, All-from_get_or, All-head, All-nil, All-tail}
use Rattle.std.proofs.lemmas.Option.{none-some}
use Rattle.pipe_columns.specs.Row.{Row}
use Rattle.pipe_global.specs.Partition.{no_store, store_of, with_frames}
use Rattle.pipe_plan.specs.declared.event.SpillAction.{SpillAction}
use Rattle.pipe_plan.specs.declared.limits.Limits.{Limits}
use Rattle.pipe_plan.specs.Run.{Run, StoreSeen, tells}
use Rattle.pipe_plan.specs.Stores.{stores_seen}
use Rattle.pipe_run.specs.Answered.{HasFrames, HaveWholeFrames, IsAnswered}
use Rattle.pipe_run.specs.Failing.{NoneFailed}
use Rattle.pipe_run.specs.Refusals.{lies_between, limits_fit}
use Rattle.pipe_run.specs.declared.output.GroupByOutput.{GroupByOutput}
use Rattle.lavzimo_run.specs.Jobs.{CanRun, JobSeen, limits_of}
use Rattle.lavzimo_run.specs.Stores.{AreMade, HasFailed, HasUntold, IsMade, IsSoundStore, NeverFailed}

-- ---- actions and stores as they are made

same-number : (a b : ℕ) → a ≡ b → (a == b) ≡ true
same-number a b e = rw e (search rules)

-- limits that fit, with a list of actions and a rule for each worker
pub begins_fit : (l : Limits) (workers n m : ℕ) (held : List ℕ) → limits_fit l workers held ≡ true → n ≡ workers → m ≡ workers → (limits_fit l n held && (m == workers)) ≡ true
begins_fit l workers n m held fit actions rules = both_true (ap (λ k. limits_fit l k held) actions ∙ fit) (same-number m workers rules)

-- no actions of one worker more
pub actions_more : (n : ℕ) (old new : List (Vec SpillAction Global)) (v : Vec SpillAction Global) → map (λ l. l.items) old ≡ replicate n [] → v.items ≡ [] → new ≡ old ++ v ∷ [] → map (λ l. l.items) new ≡ replicate (n + 1) []
actions_more n old new v h none grew =
    ap (map (λ (l : Vec SpillAction Global). l.items)) grew ∙ map-append (λ (l : Vec SpillAction Global). l.items) old (v ∷ [])
    ∙ (λ i. h i ++ none i ∷ []) ∙ replicate-append-replicate n 1 []

-- what is made of nothing is nothing
pub none-mapped : {A B : Type 0} (f : A → B) (o : Option A) → option_map f o ≡ None → o ≡ None
none-mapped f None is = refl
none-mapped f (Some x) is = absurd (none-some (f x) (sym is))

-- none more were made
pub made-in-none : (folder : Option (List ℕ)) (first : List (Option (List ℕ))) → first ≡ first ++ replicate 0 folder
made-in-none folder first = sym (append-nil first)

-- one more was made in the same folder
pub made-in-more : (folder : Option (List ℕ)) (n : ℕ) (first before now : List (Option (List ℕ))) → before ≡ first ++ replicate n folder → now ≡ before ++ folder ∷ [] → now ≡ first ++ replicate (n + 1) folder
made-in-more folder n first before now were is =
    is ∙ ap (λ (l : List (Option (List ℕ))). l ++ folder ∷ []) were ∙ append_assoc first (replicate n folder) (folder ∷ []) ∙ ap (λ (l : List (Option (List ℕ))). first ++ l) (replicate-append-replicate n 1 folder)

module _ {S : Type 0} (held : S → ℕ) (told : S → Option (List (List ℕ))) (faults : S → ℕ) (sure : S → Bool) (path : S → Option (List ℕ)) where
  abbrev seen : S → StoreSeen
  seen s = record { held = held s; told = told s; faults = faults s; sure = sure s; path = path s }

  -- none yet
  pub made-none : (folder : Option (List ℕ)) (items : List S) → items ≡ [] → AreMade folder 0 (stores_seen held told faults sure path items)
  made-none folder items none = rw none (record { each = All-nil (IsMade folder); number = refl })

  -- one store more
  pub made-more : (folder : Option (List ℕ)) (n : ℕ) (items now : List S) (x : S) → now ≡ items ++ x ∷ [] → AreMade folder n (stores_seen held told faults sure path items) → IsMade folder (seen x)
      → AreMade folder (n + 1) (stores_seen held told faults sure path now)
  made-more folder n items now x is before one =
      let both : map seen (items ++ x ∷ []) ≡ map seen items ++ seen x ∷ [] = map-append seen items (x ∷ []) in
      rw is (record {
        each = subst (All (IsMade folder)) (sym both) (All-append (IsMade folder) (map seen items) (seen x ∷ []) before.each (All-cons (IsMade folder) (seen x) [] one (All-nil (IsMade folder))));
        number = omega (arith, before.number, ap (λ (l : List StoreSeen). length l) both, length-append (map seen items) (seen x ∷ []));
      })

  -- they have numbers left
  held-few : (folder : Option (List ℕ)) (items : List S) → All (IsMade folder) (stores_seen held told faults sure path items) → list_all (λ n. nat_lt n (2 ^ 63)) (map held items) ≡ true
  held-few folder [] all = refl
  held-few folder (x ∷ xs) all =
      both_true (lt-ltb (held x) (2 ^ 63) (omega (arith, (All-head (IsMade folder) (seen x) (map seen xs) all).held)))
      (held-few folder xs (All-tail (IsMade folder) (seen x) (map seen xs) all))

  between : (low high n : ℕ) → low ≤ n → n ≤ high → lies_between low high n ≡ true
  between low high n above below = both_true (le-leb low n above) (le-leb n high below)

  -- a job that can be run has limits that fit, over stores as they are made
  pub job-fits : (j : JobSeen) (items : List S) → CanRun j → AreMade j.spill_dir j.partitions (stores_seen held told faults sure path items)
      → limits_fit (limits_of j.workers j.partitions) j.workers (map held items) ≡ true
  job-fits j items can new =
      both_true (both_true (both_true (both_true (both_true
      (between 1 256 j.workers can.some_worker can.most_workers)
      (between 1 4096 j.partitions can.some_partition can.most_partitions))
      (lt-ltb 0 2048 (omega arith)))
      (same-number j.workers j.workers refl))
      (same-number (length (map held items)) j.partitions (length-map items held ∙ sym (length-map items seen) ∙ new.number)))
      (held-few j.spill_dir items new.each)

  -- what is seen of the same stores is the same
  pub seen-again : (now items : List S) → now ≡ items → stores_seen held told faults sure path now ≡ stores_seen held told faults sure path items
  seen-again now items same = ap (map seen) same

  -- how many frames they hold is seen
  map-twice : (items : List S) → map (λ (s : StoreSeen). s.held) (map seen items) ≡ map held items
  map-twice [] = refl
  map-twice (x ∷ xs) = ap (λ l. held x ∷ l) (map-twice xs)

  pub held-seen : (j : JobSeen) (items : List S) → limits_fit (limits_of j.workers j.partitions) j.workers (map held items) ≡ true
      → limits_fit (limits_of j.workers j.partitions) j.workers (map (λ (s : StoreSeen). s.held) (stores_seen held told faults sure path items)) ≡ true
  held-seen j items fit = ap (limits_fit (limits_of j.workers j.partitions) j.workers) (map-twice items) ∙ fit

  -- a store that is sure never failed
  pub never-seen : ((s : S) → IsTrue (sure s) → faults s ≡ 0) → (items : List S) → All (λ s. IsTrue s.sure → s.faults ≡ 0) (stores_seen held told faults sure path items)
  never-seen never [] k d lt = absurd (omega (arith, lt))
  never-seen never (s ∷ ss) zero d lt = never s
  never-seen never (s ∷ ss) (suc k) d lt = never-seen never ss k d (omega (arith, lt))

-- ---- stores with frames of a run

told-some : (t s : Option (List (List ℕ))) (more : List (List ℕ)) → s ≡ with_frames t more → t ≡ Some [] → is_some s ≡ true
told-some t s more is some = ap (λ (o : Option (List (List ℕ))). is_some o) (is ∙ ap (λ (o : Option (List (List ℕ))). with_frames o more) some)

told-none : (t s : Option (List (List ℕ))) (more : List (List ℕ)) → s ≡ with_frames t more → t ≡ None → s ≡ None
told-none t s more is none = is ∙ ap (λ (o : Option (List (List ℕ))). with_frames o more) none

told-before : (t s : Option (List (List ℕ))) (more : List (List ℕ)) → s ≡ with_frames t more → is_some s ≡ true → is_some t ≡ true
told-before None s more is tells = absurd (false≢true (sym (ap (λ (o : Option (List (List ℕ))). is_some o) is) ∙ tells))
told-before (Some frames) s more is tells = refl

folder-or : (folder : Option (List ℕ)) → (folder ≡ None) ⊎ (is_some folder ≡ true)
folder-or None = inl refl
folder-or (Some f) = inr refl

-- stores that have frames of a run behind those that they were made with
pub record HaveFrames (r : Run) (stores : List StoreSeen) : Type 0 where
  pub count : length stores ≡ r.limits.partitions
  pub each : (k : ℕ) → k < r.limits.partitions → (frames : List (List Row)) × HasFrames (store_of r k) r frames (slice_index_or stores k no_store)

pub whole-are : (r : Run) (stores : List StoreSeen) → HaveWholeFrames r stores → HaveFrames r stores
whole-are r stores all = record { count = all.count; each = λ k lt. ((all.each k lt).frames, (all.each k lt).has) }

pub replayed-are : (r : Run) (out : GroupByOutput) (stores : List StoreSeen) → IsAnswered r out stores → HaveFrames r stores
replayed-are r out stores is = record { count = is.frames.count; each = λ k lt. (_, is.frames.each k lt) }

module _ (folder : Option (List ℕ)) (r : Run) (stores : List StoreSeen) (new : AreMade folder r.limits.partitions r.stores) (frames : HaveFrames r stores) where
  -- where the stores tell now, they told as they were made
  pub told-made : All IsSoundStore stores → All (λ (s : StoreSeen). tells s ≡ true) r.stores
  told-made sound = All-from_get_or (λ (s : StoreSeen). tells s ≡ true) r.stores no_store (λ k lt.
      let here : k < r.limits.partitions = omega (arith, lt, new.number) in
      told-before _ _ _ (frames.each k here).1.told (sound k no_store (omega (arith, here, frames.count))).told)

  module _ (never : All (λ (s : StoreSeen). IsTrue s.sure → s.faults ≡ 0) stores) where
    -- without a folder they are sound, whatever a run left of them
    sound-at : folder ≡ None → (k : ℕ) → k < length stores → IsSoundStore (slice_index_or stores k no_store)
    sound-at none k lt =
        let here : k < r.limits.partitions = omega (arith, lt, frames.count) in
        let has = (frames.each k here).1 in
        let first = new.each k no_store (omega (arith, here, new.number)) in
        record {
          told = told-some _ _ _ has.told (first.tells none);
          sound = never k no_store lt (subst (λ (b : Bool). IsTrue b) (sym has.sure) (first.sure none));
        }

    pub all-sound : folder ≡ None → All IsSoundStore stores
    all-sound none = All-from_get_or IsSoundStore stores no_store (λ k lt. sound-at none k lt)

    -- a store that failed is one of a folder
    pub store-caused : (k : ℕ) → k < length stores → 0 < (slice_index_or stores k no_store).faults → (is_some folder ≡ true) × HasFailed stores k
    store-caused k lt some = by (folder-or folder) where
      by : (folder ≡ None) ⊎ (is_some folder ≡ true) → (is_some folder ≡ true) × HasFailed stores k
      by (inl none) = absurd (omega (arith, some, (sound-at none k lt).sound))
      by (inr has) = (has, record { within = lt; failed = some })

    -- and so is one that doesn't tell
    pub frame-caused : (k n : ℕ) → k < length stores → (slice_index_or r.stores k no_store).told ≡ None → n < (slice_index_or stores k no_store).held
        → (is_some folder ≡ true) × HasUntold stores k n
    frame-caused k n lt untold some = by (folder-or folder) where
      here : k < r.limits.partitions
      here = omega (arith, lt, frames.count)

      none-told : (slice_index_or stores k no_store).told ≡ None
      none-told = told-none _ _ _ (frames.each k here).1.told untold

      by : (folder ≡ None) ⊎ (is_some folder ≡ true) → (is_some folder ≡ true) × HasUntold stores k n
      by (inl none) = absurd (false≢true (sym (ap (λ (t : Option (List (List ℕ))). is_some t) none-told) ∙ (sound-at none k lt).told))
      by (inr has) = (has, record { within = lt; untold = none-told; has = some })

-- none has failed since they were made where none failed in the run
pub unfailed : (folder : Option (List ℕ)) (count : ℕ) (made mid stores : List StoreSeen) → AreMade folder count made → NoneFailed made mid → NoneFailed mid stores → NeverFailed stores
unfailed folder count made mid stores new begun calm = All-from_get_or (λ (x : StoreSeen). x.faults ≡ 0) stores no_store (λ k lt.
    let there : k < length mid = omega (arith, lt, calm.count) in
    let first : k < length made = omega (arith, there, begun.count) in
    calm.each k there ∙ begun.each k first ∙ (new.each k no_store first).faults)

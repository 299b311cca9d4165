-- The turns of all workers are all chunks, each once.
use Rattle.std.proofs.Common.{◌≡◌, ◌∙◌, ◌+◌, ◌-◌, ◌<◌, ◌≤◌, ◌==◌, ◌%◌, ℕ, zero, suc, Bool, true, false, List, [], ◌∷◌, ◌++◌, refl, sym, ap, arith}
use Rattle.std.specs.List.{All, AllByRecursion, count_by, filter, flat_map, range_with_len, sum_by}
use Rattle.std.proofs.lemmas.Bool.{eq-eqb, eqb-true, ne_eqb}
use Rattle.std.proofs.lemmas.Grind.{flat_map-append}
use Rattle.std.proofs.lemmas.List.{append-nil}
use Rattle.std.proofs.lemmas.List.Elements.{All-append, All-cons, All-nil, All-same, All-weaker}
use Rattle.std.proofs.lemmas.List.Sums.{sum_by-append, sum_by-cons}
use Rattle.std.proofs.Math.Nat.{mod-lt}
use Rattle.pipe_columns.specs.declared.data_chunk.DataChunk.{DataChunk}
use Rattle.pipe_columns.specs.Row.{Row}
use Rattle.pipe_model.specs.Counts.{CountAlike}
use Rattle.pipe_model.specs.Query.{QueryTree}
use Rattle.pipe_model.specs.Rows.{chunk_rows, rows, rows_from, total_height}
use Rattle.pipe_model.specs.Answer.{answer, answer_of}
use Rattle.pipe_model.proofs.GroupFacts.{answer-alike}
use Rattle.pipe_model.proofs.RowPlaces.{rows-distinct}
use Rattle.pipe_plan.proofs.Adding.{count-joined, sum_to, sum_to-one, sum_to-range, sum_to-zero}
use Rattle.pipe_plan.proofs.ChunkRows.{each-more, range-append, range-before}
use Rattle.pipe_plan.proofs.Filtering.{filter-no, filter-yes}
use Rattle.pipe_sinks.specs.Runs.{HaveOwnIndexes, placed_rows}
use Rattle.pipe_group_by.specs.Positions.{is_turn, numbered, turns_of}
use Rattle.pipe_group_by.proofs.Numbering.{height-numbered}

-- ---- sums over parts

-- a sum over the parts of a list is that over the list
pub sum-parts : {A : Type 0} (f : A → ℕ) (part : A → ℕ) (n : ℕ) → ((x : A) → part x < n) → (xs : List A)
    → sum_to n (λ k. sum_by f (filter (λ x. part x == k) xs)) ≡ sum_by f xs
sum-parts f part n within [] = sum_to-zero n
sum-parts {A = A} f part n within (x ∷ xs) =
    let after : ℕ → ℕ = λ k. sum_by f (filter (λ x. part x == k) (x ∷ xs)) in
    let before : ℕ → ℕ = λ k. sum_by f (filter (λ x. part x == k) xs) in
    let own : after (part x) ≡ before (part x) + f x =
    ap (λ (l : List A). sum_by f l) (filter-yes (λ y. part y == part x) x xs (eq-eqb (part x) (part x) refl)) ∙ omega (arith, sum_by-cons f x (filter (λ y. part y == part x) xs)) in
    let one = sum_to-one n after before (part x) (f x) (within x) own
    (λ k apart. ap (λ (l : List A). sum_by f l) (filter-no (λ y. part y == k) x xs (ne_eqb (part x) k (λ same. apart (sym same))))) in
    omega (arith, one, sum-parts f part n within xs, sum_by-cons f x xs)

-- over lists joined, it is the sum of theirs
pub sum-joined : {A B : Type 0} (f : B → ℕ) (g : A → List B) (xs : List A) → sum_by f (flat_map g xs) ≡ sum_by (λ x. sum_by f (g x)) xs
sum-joined f g [] = refl
sum-joined f g (x ∷ xs) = sum_by-append f (g x) (flat_map g xs) ∙ ap (λ k. sum_by f (g x) + k) (sum-joined f g xs) ∙ sym (sum_by-cons (λ x. sum_by f (g x)) x xs)

-- the turns of the first workers
abbrev pub turns_to : ℕ → ℕ → List DataChunk → List DataChunk
turns_to n k chunks = flat_map (λ w. turns_of n w chunks) (range_with_len 0 k)

-- a sum over them is one over the workers
pub sum-turns : (f : DataChunk → ℕ) (n k : ℕ) (chunks : List DataChunk) → sum_by f (turns_to n k chunks) ≡ sum_to k (λ w. sum_by f (turns_of n w chunks))
sum-turns f n k chunks = sum-joined f (λ w. turns_of n w chunks) (range_with_len 0 k) ∙ sum_to-range k (λ w. sum_by f (turns_of n w chunks))

-- and of all workers it is that over all chunks at their positions
pub sum-all : (f : DataChunk → ℕ) (n : ℕ) (chunks : List DataChunk) → 0 < n → sum_by f (turns_to n n chunks) ≡ sum_by f (numbered 0 chunks)
sum-all f n chunks some = sum-turns f n n chunks ∙ sum-parts f (λ (c : DataChunk). c.chunk_index % n) n (λ c. mod-lt c.chunk_index some) (numbered 0 chunks)

-- more workers have no fewer
sum-longer : (f : ℕ → ℕ) (k m : ℕ) → sum_to k f ≤ sum_to (k + m) f
sum-longer f k zero = omega (arith, ap (λ j. sum_to j f) {x = k + 0} {y = k} (omega arith))
sum-longer f k (suc m) = omega (arith, sum-longer f k m, ap (λ j. sum_to j f) {x = k + suc m} {y = suc (k + m)} (omega arith))

-- so the first workers and the next have no more rows than there are
pub turns-few : (n k : ℕ) (chunks : List DataChunk) → k < n → total_height (turns_to n k chunks) + total_height (turns_of n k chunks) ≤ total_height chunks
turns-few n k chunks lt =
    let height : DataChunk → ℕ = λ c. c.frame.height in
    let each : ℕ → ℕ = λ w. total_height (turns_of n w chunks) in
    omega (
      arith,
      sum-turns height n k chunks,
      sum-turns height n n chunks,
      sum-all height n chunks (omega arith),
      height-numbered 0 chunks,
      sum-longer each (suc k) (n - suc k),
      ap (λ j. sum_to j each) {x = suc k + (n - suc k)} {y = n} (omega arith),
    )

-- ---- rows

-- the rows of chunks at their positions
abbrev placed : QueryTree → DataChunk → List Row
placed q c = chunk_rows q c.chunk_index c.frame

placed-numbered : (q : QueryTree) (i : ℕ) (xs : List DataChunk) → placed_rows q (numbered i xs) ≡ rows_from q i xs
placed-numbered q i [] = refl
placed-numbered q i (x ∷ xs) = ap (λ l. chunk_rows q i x.frame ++ l) (placed-numbered q (i + 1) xs)

-- the rows of all workers' turns are those of the chunks
pub turns-alike : (q : QueryTree) (n : ℕ) (chunks : List DataChunk) → 0 < n → CountAlike (rows chunks q) (placed_rows q (turns_to n n chunks))
turns-alike q n chunks some = λ test.
    let count : DataChunk → ℕ = λ c. count_by test (placed q c) in
    ap (λ (l : List Row). count_by test l) (sym (placed-numbered q 0 chunks))
    ∙ count-joined test (placed q) (numbered 0 chunks)
    ∙ sym (sum-all count n chunks some)
    ∙ sym (count-joined test (placed q) (turns_to n n chunks))

-- so their answer is that of the chunks
pub turns-answer : (q : QueryTree) (n partitions : ℕ) (chunks : List DataChunk) → 0 < n → answer_of (placed_rows q (turns_to n n chunks)) q partitions ≡ answer chunks q partitions
turns-answer q n partitions chunks some = sym (answer-alike (rows chunks q) (placed_rows q (turns_to n n chunks)) q partitions (turns-alike q n chunks some) (λ _. rows-distinct chunks q))

-- ---- combining

-- what a worker takes of chunks stands at its positions
own-filter : (n w : ℕ) (xs : List DataChunk) → All (λ c. c.chunk_index % n ≡ w) (filter (is_turn n w) xs)
own-filter n w [] = All-nil (λ (c : DataChunk). c.chunk_index % n ≡ w)
own-filter n w (x ∷ xs) = by (is_turn n w x) refl (own-filter n w xs) where
  P : DataChunk → Type 0
  P c = c.chunk_index % n ≡ w

  by : (b : Bool) → is_turn n w x ≡ b → All P (filter (is_turn n w) xs) → All P (filter (is_turn n w) (x ∷ xs))
  by true is rest = All-same P (filter (is_turn n w) (x ∷ xs)) (x ∷ filter (is_turn n w) xs) (filter-yes (is_turn n w) x xs is) (All-cons P x (filter (is_turn n w) xs) (eqb-true (x.chunk_index % n) w is) rest)
  by false is rest = All-same P (filter (is_turn n w) (x ∷ xs)) (filter (is_turn n w) xs) (filter-no (is_turn n w) x xs is) rest

-- a worker's turns stand at its positions
turns-own : (n w : ℕ) (chunks : List DataChunk) → All (λ c. c.chunk_index % n ≡ w) (turns_of n w chunks)
turns-own n w chunks = own-filter n w (numbered 0 chunks)

others-joined : (n k : ℕ) (chunks : List DataChunk) (ws : List ℕ) → AllByRecursion (λ w. w < k) ws → All (λ c. c.chunk_index % n < k) (flat_map (λ w. turns_of n w chunks) ws)
others-joined n k chunks [] all = All-nil (λ (c : DataChunk). c.chunk_index % n < k)
others-joined n k chunks (w ∷ ws) all =
    All-append (λ (c : DataChunk). c.chunk_index % n < k) (turns_of n w chunks) (flat_map (λ w. turns_of n w chunks) ws)
    (All-weaker (λ (c : DataChunk). c.chunk_index % n ≡ w) (λ (c : DataChunk). c.chunk_index % n < k) (λ c is. omega (arith, is, all.0)) (turns_of n w chunks) (turns-own n w chunks))
    (others-joined n k chunks ws all.1)

-- those of the workers before another stand at others
turns-others : (n k m : ℕ) (chunks : List DataChunk) → m ≤ k → All (λ c. c.chunk_index % n < k) (turns_to n m chunks)
turns-others n k m chunks le = others-joined n k chunks (range_with_len 0 m) (each-more (λ w. w < 0 + m) (λ w. w < k) (range_with_len 0 m) (λ w lt. omega arith) (range-before 0 m))

-- so no chunk is in both
pub turns-apart : (n k : ℕ) (chunks : List DataChunk) → All (λ c. All (λ d. HaveOwnIndexes c d) (turns_of n k chunks)) (turns_to n k chunks)
turns-apart n k chunks =
    All-weaker (λ (c : DataChunk). c.chunk_index % n < k) (λ (c : DataChunk). All (λ (d : DataChunk). HaveOwnIndexes c d) (turns_of n k chunks))
    (λ c low. All-weaker (λ (d : DataChunk). d.chunk_index % n ≡ k) (λ (d : DataChunk). HaveOwnIndexes c d) (λ d is some more same. omega (arith, low, is, ap (λ j. j % n) same)) (turns_of n k chunks) (turns-own n k chunks))
    (turns_to n k chunks) (turns-others n k k chunks (omega arith))

-- one more worker's turns
pub turns-next : (n k : ℕ) (chunks : List DataChunk) → turns_to n (k + 1) chunks ≡ turns_to n k chunks ++ turns_of n k chunks
turns-next n k chunks =
    let deal : ℕ → List DataChunk = λ w. turns_of n w chunks in
    ap (λ (l : List ℕ). flat_map deal l) (range-append 0 k 1)
    ∙ flat_map-append deal (range_with_len 0 k) (range_with_len (0 + k) 1)
    ∙ ap (λ l. flat_map deal (range_with_len 0 k) ++ l) (append-nil (deal (0 + k)) ∙ ap deal {x = 0 + k} {y = k} (omega arith))

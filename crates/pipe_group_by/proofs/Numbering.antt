-- Chunks at their positions, and the turns of a worker among them.
use Rattle.std.proofs.Common.{◌≡◌, ◌∙◌, ◌+◌, ◌<◌, ◌≤◌, ℕ, zero, suc, Bool, true, false, List, [], ◌∷◌, ◌++◌, length, refl, sym, ap, arith, length-append}
use Rattle.std.specs.List.{All, filter, slice_index_or, slice_set}
use Rattle.std.proofs.lemmas.List.{append-nil}
use Rattle.std.proofs.lemmas.List.Elements.{All-append, All-cons, All-filter, All-head, All-nil, All-tail, filter-append}
use Rattle.std.proofs.lemmas.List.Sums.{sum_by-append, sum_by-cons}
use Rattle.pipe_columns.specs.declared.data_chunk.DataChunk.{DataChunk}
use Rattle.pipe_columns.specs.Frame.{FitsSchema, FrameData, HoldsTypes}
use Rattle.pipe_model.specs.Query.{QueryTree}
use Rattle.pipe_model.specs.Rows.{AreChunksOf, total_height}
use Rattle.pipe_plan.proofs.Filtering.{filter-no, filter-yes}
use Rattle.pipe_group_by.specs.Positions.{at_position, is_turn, numbered, turns_of}

-- ---- numbers

-- more chunks are numbered on
pub numbered-append : (i : ℕ) (xs ys : List DataChunk) → numbered i (xs ++ ys) ≡ numbered i xs ++ numbered (i + length xs) ys
numbered-append i [] ys = ap (λ k. numbered k ys) {x = i} {y = i + 0} (omega arith)
numbered-append i (x ∷ xs) ys =
    ap (λ l. at_position i x ∷ l) (numbered-append (i + 1) xs ys)
    ∙ ap (λ k. at_position i x ∷ (numbered (i + 1) xs ++ numbered k ys)) {x = i + 1 + length xs} {y = i + suc (length xs)} (omega arith)

-- numbered again, they forget their former numbers
pub numbered-twice : (i j : ℕ) (xs : List DataChunk) → numbered i (numbered j xs) ≡ numbered i xs
numbered-twice i j [] = refl
numbered-twice i j (x ∷ xs) = ap (λ l. at_position i x ∷ l) (numbered-twice (i + 1) (j + 1) xs)

pub length-numbered : (i : ℕ) (xs : List DataChunk) → length (numbered i xs) ≡ length xs
length-numbered i [] = refl
length-numbered i (x ∷ xs) = ap suc (length-numbered (i + 1) xs)

pub height-numbered : (i : ℕ) (xs : List DataChunk) → total_height (numbered i xs) ≡ total_height xs
height-numbered i [] = refl
height-numbered i (x ∷ xs) =
    omega (arith, sum_by-cons (λ (c : DataChunk). c.frame.height) (at_position i x) (numbered (i + 1) xs), sum_by-cons (λ (c : DataChunk). c.frame.height) x xs, height-numbered (i + 1) xs)

-- numbers lie below the end
pub numbered-below : (i n : ℕ) (xs : List DataChunk) → i + length xs ≤ n → All (λ c. c.chunk_index < n) (numbered i xs)
numbered-below i n [] le = All-nil (λ (c : DataChunk). c.chunk_index < n)
numbered-below i n (x ∷ xs) le = All-cons (λ (c : DataChunk). c.chunk_index < n) (at_position i x) (numbered (i + 1) xs) (omega arith) (numbered-below (i + 1) n xs (omega arith))

-- what is said of frames holds of chunks under any numbers
pub frames-numbered : (P : FrameData → Type 0) (i : ℕ) (xs : List DataChunk) → All (λ c. P c.frame) xs → All (λ c. P c.frame) (numbered i xs)
frames-numbered P i [] all = All-nil (λ (c : DataChunk). P c.frame)
frames-numbered P i (x ∷ xs) all =
    All-cons (λ (c : DataChunk). P c.frame) (at_position i x) (numbered (i + 1) xs) (All-head (λ (c : DataChunk). P c.frame) x xs all) (frames-numbered P (i + 1) xs (All-tail (λ (c : DataChunk). P c.frame) x xs all))

-- the front and the rest of what holds
all-front : (P : DataChunk → Type 0) (xs ys : List DataChunk) → All P (xs ++ ys) → All P xs
all-front P [] ys all = All-nil P
all-front P (x ∷ xs) ys all = All-cons P x xs (All-head P x (xs ++ ys) all) (all-front P xs ys (All-tail P x (xs ++ ys) all))

pub all-rest : (P : DataChunk → Type 0) (xs ys : List DataChunk) → All P (xs ++ ys) → All P ys
all-rest P [] ys all = all
all-rest P (x ∷ xs) ys all = all-rest P xs ys (All-tail P x (xs ++ ys) all)

-- a chunk under its own number
pub own-number : (i : ℕ) (c : DataChunk) → c.chunk_index ≡ i → at_position i c ≡ c
own-number i c is = λ k. record { chunk_index = sym is k; frame = c.frame }

-- of chunks that have their numbers each has its own
pub numbered-at : (i : ℕ) (xs : List DataChunk) (k : ℕ) (d : DataChunk) → numbered i xs ≡ xs → k < length xs → (slice_index_or xs k d).chunk_index ≡ i + k
numbered-at i xs k d same lt = ap (λ (l : List DataChunk). (slice_index_or l k d).chunk_index) (sym same) ∙ by i xs k lt where
  by : (i : ℕ) (xs : List DataChunk) (k : ℕ) → k < length xs → (slice_index_or (numbered i xs) k d).chunk_index ≡ i + k
  by i [] k lt = absurd (omega arith)
  by i (x ∷ xs) zero lt = omega arith
  by i (x ∷ xs) (suc k) lt = by (i + 1) xs k (omega arith) ∙ omega arith

-- ---- turns

-- chunks behind others, under any numbers
pub numbered-behind : (xs ys : List DataChunk) (k : ℕ) → numbered 0 (xs ++ numbered k ys) ≡ numbered 0 (xs ++ ys)
numbered-behind xs ys k =
    numbered-append 0 xs (numbered k ys)
    ∙ ap (λ l. numbered 0 xs ++ l) (numbered-twice (0 + length xs) k ys)
    ∙ sym (numbered-append 0 xs ys)

pub turns-behind : (n w : ℕ) (xs ys : List DataChunk) (k : ℕ) → turns_of n w (xs ++ numbered k ys) ≡ turns_of n w (xs ++ ys)
turns-behind n w xs ys k = ap (λ (l : List DataChunk). filter (is_turn n w) l) (numbered-behind xs ys k)

pub asked-behind : (q : QueryTree) (xs ys : List DataChunk) (k : ℕ) → AreChunksOf q (xs ++ ys) → AreChunksOf q (xs ++ numbered k ys)
asked-behind q xs ys k are = record {
  columns = both (λ f. FitsSchema q.schema f) are.columns;
  typed = both HoldsTypes are.typed;
  rows = omega (arith, are.rows, sum_by-append height xs (numbered k ys), sum_by-append height xs ys, height-numbered k ys);
  number = omega (arith, are.number, length-append xs (numbered k ys), length-append xs ys, length-numbered k ys);
} where
  height : DataChunk → ℕ
  height c = c.frame.height

  both : (P : FrameData → Type 0) → All (λ c. P c.frame) (xs ++ ys) → All (λ c. P c.frame) (xs ++ numbered k ys)
  both P all = All-append (λ (c : DataChunk). P c.frame) xs (numbered k ys) (all-front (λ (c : DataChunk). P c.frame) xs ys all) (frames-numbered P k ys (all-rest (λ (c : DataChunk). P c.frame) xs ys all))

-- a chunk behind others, at its position
numbered-more : (front : List DataChunk) (c : DataChunk) → c.chunk_index ≡ length front → numbered 0 (front ++ c ∷ []) ≡ numbered 0 front ++ c ∷ []
numbered-more front c at =
    numbered-append 0 front (c ∷ []) ∙ ap (λ (x : DataChunk). numbered 0 front ++ x ∷ []) (own-number (0 + length front) c (at ∙ omega arith))

module _ (n w : ℕ) (front : List DataChunk) (c : DataChunk) (at : c.chunk_index ≡ length front) where
  more : turns_of n w (front ++ c ∷ []) ≡ turns_of n w front ++ filter (is_turn n w) (c ∷ [])
  more = ap (λ (l : List DataChunk). filter (is_turn n w) l) (numbered-more front c at) ∙ filter-append (is_turn n w) (numbered 0 front) (c ∷ [])

  -- is a turn of the worker
  pub turn-yes : is_turn n w c ≡ true → turns_of n w (front ++ c ∷ []) ≡ turns_of n w front ++ c ∷ []
  turn-yes is = more ∙ ap (λ (l : List DataChunk). turns_of n w front ++ l) (filter-yes (is_turn n w) c [] is)

  -- or is none
  pub turn-no : is_turn n w c ≡ false → turns_of n w (front ++ c ∷ []) ≡ turns_of n w front
  turn-no is = more ∙ ap (λ (l : List DataChunk). turns_of n w front ++ l) (filter-no (is_turn n w) c [] is) ∙ append-nil (turns_of n w front)

-- a filter keeps no more rows
pub height-filter : (test : DataChunk → Bool) (xs : List DataChunk) → total_height (filter test xs) ≤ total_height xs
height-filter test [] = omega arith
height-filter test (x ∷ xs) = by (test x) refl (height-filter test xs) where
  by : (b : Bool) → test x ≡ b → total_height (filter test xs) ≤ total_height xs → total_height (filter test (x ∷ xs)) ≤ total_height (x ∷ xs)
  by true is rest = omega (arith, ap (λ (l : List DataChunk). total_height l) (filter-yes test x xs is), sum_by-cons (λ (c : DataChunk). c.frame.height) x (filter test xs), sum_by-cons (λ (c : DataChunk). c.frame.height) x xs, rest)
  by false is rest = omega (arith, ap (λ (l : List DataChunk). total_height l) (filter-no test x xs is), sum_by-cons (λ (c : DataChunk). c.frame.height) x xs, rest)

-- all turns lie before the next position
pub turns-before : (n w : ℕ) (front : List DataChunk) → All (λ c. c.chunk_index < length front) (turns_of n w front)
turns-before n w front = All-filter (is_turn n w) (λ (c : DataChunk). c.chunk_index < length front) (numbered 0 front) (numbered-below 0 (length front) front (omega arith))

-- and have no more rows than all chunks
pub turns-height : (n w : ℕ) (front : List DataChunk) → total_height (turns_of n w front) ≤ total_height front
turns-height n w front = omega (arith, height-filter (is_turn n w) (numbered 0 front), height-numbered 0 front)

-- ---- one after another

-- chunks of which the first k have their positions
abbrev pub renumbered : ℕ → ℕ → List DataChunk → List DataChunk
renumbered i zero xs = xs
renumbered i (suc k) [] = []
renumbered i (suc k) (x ∷ xs) = at_position i x ∷ renumbered (i + 1) k xs

-- one whose turn has not come is as before
renumbered-get : (i k : ℕ) (xs : List DataChunk) (d : DataChunk) → slice_index_or (renumbered i k xs) k d ≡ slice_index_or xs k d
renumbered-get i zero xs d = refl
renumbered-get i (suc k) [] d = refl
renumbered-get i (suc k) (x ∷ xs) d = renumbered-get (i + 1) k xs d

-- one more
renumbered-more : (i k : ℕ) (xs : List DataChunk) (d : DataChunk) → k < length xs → slice_set (renumbered i k xs) k (at_position (i + k) (slice_index_or xs k d)) ≡ renumbered i (suc k) xs
renumbered-more i k [] d lt = absurd (omega arith)
renumbered-more i zero (x ∷ xs) d lt = ap (λ j. at_position j x ∷ xs) {x = i + 0} {y = i} (omega arith)
renumbered-more i (suc k) (x ∷ xs) d lt =
    ap (λ j. at_position i x ∷ slice_set (renumbered (i + 1) k xs) k (at_position j (slice_index_or xs k d))) {x = i + suc k} {y = i + 1 + k} (omega arith)
    ∙ ap (λ l. at_position i x ∷ l) (renumbered-more (i + 1) k xs d (omega arith))

-- at the end all
pub renumbered-all : (i k : ℕ) (xs : List DataChunk) → length xs ≤ k → renumbered i k xs ≡ numbered i xs
renumbered-all i zero [] le = refl
renumbered-all i zero (x ∷ xs) le = absurd (omega arith)
renumbered-all i (suc k) [] le = refl
renumbered-all i (suc k) (x ∷ xs) le = ap (λ l. at_position i x ∷ l) (renumbered-all (i + 1) k xs (omega arith))

-- one that gets its position in its turn
pub renumbered-step : (old now : List DataChunk) (i k : ℕ) (d new : DataChunk) → k < length old → now ≡ renumbered i k old → new ≡ at_position (i + k) (slice_index_or now k d) → slice_set now k new ≡ renumbered i (k + 1) old
renumbered-step old now i k d new lt is made =
    let there : slice_index_or now k d ≡ slice_index_or old k d = ap (λ (l : List DataChunk). slice_index_or l k d) is ∙ renumbered-get i k old d in
    ap (λ (l : List DataChunk). slice_set l k new) is
    ∙ ap (λ (x : DataChunk). slice_set (renumbered i k old) k x) (made ∙ ap (at_position (i + k)) there)
    ∙ renumbered-more i k old d lt
    ∙ ap (λ j. renumbered i j old) {x = suc k} {y = k + 1} (omega arith)

-- The rows of chunks with indexes of their own: where they stand.
use Rattle.std.proofs.Common.{◌≡◌, ◌≢◌, ◌∙◌, ℕ, zero, suc, ◌+◌, ◌<◌, ◌^◌, ◌≤◌, ◌⊎◌, inl, inr, false, List, [], ◌∷◌, ◌++◌, length, map, refl, sym, ap, arith}
use Rattle.std.specs.List.{All, AllByRecursion, IsDistinct, range_with_len}
use Rattle.std.specs.declared.cmp.Ordering.{Ordering}
use Rattle.std.specs.declared.cmp.Ordering.TheVariants.{Less, Equal, Greater}
use Rattle.std.specs.Cmp.{nat_cmp_is, nat_cmp_total, tied_itself}
use Rattle.std.specs.Ordering.{eq_by_cmp, is_eq, nat_cmp, ordering_then}
use Rattle.std.proofs.lemmas.Bool.{cases_lt}
use Rattle.std.proofs.lemmas.List.{append-nil, append_assoc, length-append, length-map, map-append}
use Rattle.std.proofs.lemmas.List.Elements.{All-head, All-tail, All-weaker}
use Rattle.std.proofs.lemmas.List.FromFn.{length-map-range_with_len}
use Rattle.std.proofs.lemmas.List.Sums.{sum_by-cons}
use Rattle.pipe_columns.specs.declared.data_chunk.DataChunk.{DataChunk}
use Rattle.pipe_columns.specs.declared.place.Place.{Place}
use Rattle.pipe_columns.specs.Frame.{FitsSchema, FrameData}
use Rattle.pipe_columns.specs.Place.{place_cmp}
use Rattle.pipe_columns.specs.Row.{Row}
use Rattle.pipe_model.specs.Output.{key_types}
use Rattle.pipe_model.specs.Query.{QueryTree}
use Rattle.pipe_model.specs.Rows.{chunk_rows, HaveDistinctPlaces, row_of, total_height}
use Rattle.pipe_spill.specs.SpillRow.{spilled}
use Rattle.pipe_sinks.specs.RunLayout.{spilled_rows}
use Rattle.pipe_sinks.specs.Runs.{HaveOwnIndexes, placed_rows, Run, Takes}

-- the rows of chunks and of others behind them
pub placed-append : (q : QueryTree) (xs ys : List DataChunk) → placed_rows q (xs ++ ys) ≡ placed_rows q xs ++ placed_rows q ys
placed-append q [] ys = refl
placed-append q (c ∷ cs) ys =
    ap (λ (rs : List Row). chunk_rows q c.chunk_index c.frame ++ rs) (placed-append q cs ys)
    ∙ sym (append_assoc (chunk_rows q c.chunk_index c.frame) (placed_rows q cs) (placed_rows q ys))

pub spilled-append : (q : QueryTree) (xs ys : List DataChunk) → spilled_rows q (xs ++ ys) ≡ spilled_rows q xs ++ spilled_rows q ys
spilled-append q xs ys = ap (map (spilled (key_types q))) (placed-append q xs ys) ∙ map-append (spilled (key_types q)) (placed_rows q xs) (placed_rows q ys)

-- there are as many as the chunks are high
length-placed : (q : QueryTree) (cs : List DataChunk) → length (placed_rows q cs) ≡ total_height cs
length-placed q [] = refl
length-placed q (c ∷ cs) = length-append (chunk_rows q c.chunk_index c.frame) (placed_rows q cs)
    ∙ omega (arith, length-map-range_with_len (λ n. row_of q c.chunk_index c.frame n) 0 c.frame.height, length-placed q cs, sum_by-cons (λ (x : DataChunk). x.frame.height) c cs)

pub length-spilled : (q : QueryTree) (cs : List DataChunk) → length (spilled_rows q cs) ≡ total_height cs
length-spilled q cs = length-map (placed_rows q cs) (spilled (key_types q)) ∙ length-placed q cs

-- ---- no place twice

-- the places of rows
abbrev places : List Row → List Place
places rs = map (λ r. r.place) rs

-- no place of some is a place
abbrev Apart : Place → List Place → Type 0
Apart p ps = AllByRecursion (λ x. eq_by_cmp place_cmp p x ≡ false) ps

-- numbers that differ aren't tied
pub untied : (m n : ℕ) → (m ≡ n → ⊥) → is_eq (nat_cmp m n) ≡ false
untied m n ne = by (cases_lt m n) where
  by : (m < n) ⊎ (n ≤ m) → is_eq (nat_cmp m n) ≡ false
  by (inl lt) = ap is_eq (sym (nat_cmp_is m n Less lt))
  by (inr le) = let gt : n < m = omega (arith, le, ne) in ap is_eq (sym (nat_cmp_is m n Greater gt))

-- so places in different chunks differ
other-chunk : (p x : Place) → (p.chunk ≡ x.chunk → ⊥) → eq_by_cmp place_cmp p x ≡ false
other-chunk p x ne = by (nat_cmp p.chunk x.chunk) (untied p.chunk x.chunk ne) where
  by : (o : Ordering) → is_eq o ≡ false → is_eq (ordering_then o (nat_cmp p.row x.row)) ≡ false
  by Less e = refl
  by Equal e = cc
  by Greater e = refl

-- and places in different rows
other-row : (i m n : ℕ) → (m ≡ n → ⊥) → eq_by_cmp place_cmp (record { chunk = i; row = m }) (record { chunk = i; row = n }) ≡ false
other-row i m n ne = rw (tied_itself nat_cmp_total i) (untied m n ne)

apart-append : (p : Place) (xs ys : List Place) → Apart p xs → Apart p ys → Apart p (xs ++ ys)
apart-append p [] ys a b = b
apart-append p (x ∷ xs) ys a b = (a.0, apart-append p xs ys a.1 b)

distinct-append : (xs ys : List Place) → IsDistinct (eq_by_cmp place_cmp) xs → IsDistinct (eq_by_cmp place_cmp) ys → AllByRecursion (λ x. Apart x ys) xs → IsDistinct (eq_by_cmp place_cmp) (xs ++ ys)
unfolding IsDistinct
distinct-append [] ys d e a = e
distinct-append (x ∷ xs) ys d e a = (apart-append x xs ys d.0 a.0, distinct-append xs ys d.1 e a.1)

-- rows n, n + 1 .. of a chunk
abbrev from_row : QueryTree → ℕ → FrameData → ℕ → ℕ → List Row
from_row q i frame n len = map (λ m. row_of q i frame m) (range_with_len n len)

-- a place in another chunk is none of a chunk's rows
apart-chunk : (q : QueryTree) (p : Place) (i : ℕ) (frame : FrameData) (n len : ℕ) → (0 < len → p.chunk ≢ i) → Apart p (places (from_row q i frame n len))
apart-chunk q p i frame n zero ne = tt
apart-chunk q p i frame n (suc len) ne =
    let other : p.chunk ≢ i = ne (omega arith) in
    (other-chunk p (record { chunk = i; row = n }) other, apart-chunk q p i frame (n + 1) len (λ _. other))

-- nor is one before them
apart-before : (q : QueryTree) (i : ℕ) (frame : FrameData) (m n len : ℕ) → m < n → Apart (record { chunk = i; row = m }) (places (from_row q i frame n len))
apart-before q i frame m n zero lt = tt
apart-before q i frame m n (suc len) lt = (other-row i m n (λ e. omega (arith, lt, e)), apart-before q i frame m (n + 1) len (omega (arith, lt)))

chunk-distinct : (q : QueryTree) (i : ℕ) (frame : FrameData) (n len : ℕ) → IsDistinct (eq_by_cmp place_cmp) (places (from_row q i frame n len))
unfolding IsDistinct
chunk-distinct q i frame n zero = tt
chunk-distinct q i frame n (suc len) = (apart-before q i frame n (n + 1) len (omega arith), chunk-distinct q i frame (n + 1) len)

none-distinct : IsDistinct (eq_by_cmp place_cmp) []
unfolding IsDistinct
none-distinct = tt

nothing-apart : (xs : List Place) → AllByRecursion (λ x. Apart x []) xs
nothing-apart [] = tt
nothing-apart (x ∷ xs) = (tt, nothing-apart xs)

-- the rows of one chunk
pub single-distinct : (q : QueryTree) (c : DataChunk) → HaveDistinctPlaces (placed_rows q (c ∷ []))
single-distinct q c =
    let own : List Row = chunk_rows q c.chunk_index c.frame in
    rw (map-append (λ (r : Row). r.place) own [])
    (distinct-append (places own) [] (chunk-distinct q c.chunk_index c.frame 0 c.frame.height) none-distinct (nothing-apart (places own)))

-- a place is in no row of a chunk
abbrev InNoRow : ℕ → DataChunk → Type 0
InNoRow i d = 0 < d.frame.height → i ≢ d.chunk_index

-- a place in no chunk of some is none of their rows
apart-chunks : (q : QueryTree) (p : Place) (ys : List DataChunk) → All (λ d. InNoRow p.chunk d) ys → Apart p (places (placed_rows q ys))
apart-chunks q p [] h = tt
apart-chunks q p (d ∷ ds) h =
    rw (map-append (λ (r : Row). r.place) (chunk_rows q d.chunk_index d.frame) (placed_rows q ds))
    (apart-append p (places (chunk_rows q d.chunk_index d.frame)) (places (placed_rows q ds))
    (apart-chunk q p d.chunk_index d.frame 0 d.frame.height (All-head (λ (x : DataChunk). InNoRow p.chunk x) d ds h))
    (apart-chunks q p ds (All-tail (λ (x : DataChunk). InNoRow p.chunk x) d ds h)))

rows-apart : (q : QueryTree) (i : ℕ) (frame : FrameData) (n len : ℕ) (ys : List DataChunk) → (0 < len → All (λ d. InNoRow i d) ys) → AllByRecursion (λ x. Apart x (places (placed_rows q ys))) (places (from_row q i frame n len))
rows-apart q i frame n zero ys h = tt
rows-apart q i frame n (suc len) ys h =
    let here : All (λ d. InNoRow i d) ys = h (omega arith) in
    (apart-chunks q (record { chunk = i; row = n }) ys here, rows-apart q i frame (n + 1) len ys (λ _. here))

all-append : (ys : List Place) (xs more : List Place) → AllByRecursion (λ x. Apart x ys) xs → AllByRecursion (λ x. Apart x ys) more → AllByRecursion (λ x. Apart x ys) (xs ++ more)
all-append ys [] more a b = b
all-append ys (x ∷ xs) more a b = (a.0, all-append ys xs more a.1 b)

chunks-apart : (q : QueryTree) (xs ys : List DataChunk) → All (λ c. All (λ d. HaveOwnIndexes c d) ys) xs → AllByRecursion (λ x. Apart x (places (placed_rows q ys))) (places (placed_rows q xs))
chunks-apart q [] ys h = tt
chunks-apart q (c ∷ cs) ys h =
    let P : DataChunk → Type 0 = λ x. All (λ d. HaveOwnIndexes x d) ys in
    let own : 0 < c.frame.height → All (λ d. InNoRow c.chunk_index d) ys =
    λ some. All-weaker (λ (d : DataChunk). HaveOwnIndexes c d) (λ (d : DataChunk). InNoRow c.chunk_index d) (λ d apart. apart some) ys (All-head P c cs h) in
    rw (map-append (λ (r : Row). r.place) (chunk_rows q c.chunk_index c.frame) (placed_rows q cs))
    (all-append (places (placed_rows q ys)) (places (chunk_rows q c.chunk_index c.frame)) (places (placed_rows q cs))
    (rows-apart q c.chunk_index c.frame 0 c.frame.height ys own)
    (chunks-apart q cs ys (All-tail P c cs h)))

-- the rows of chunks and of others with other indexes
pub distinct-both : (q : QueryTree) (xs ys : List DataChunk) → HaveDistinctPlaces (placed_rows q xs) → HaveDistinctPlaces (placed_rows q ys)
    → All (λ c. All (λ d. HaveOwnIndexes c d) ys) xs → HaveDistinctPlaces (placed_rows q (xs ++ ys))
distinct-both q xs ys d e apart =
    rw (placed-append q xs ys, map-append (λ (r : Row). r.place) (placed_rows q xs) (placed_rows q ys))
    (distinct-append (places (placed_rows q xs)) (places (placed_rows q ys)) d e (chunks-apart q xs ys apart))

-- a chunk without rows adds none
pub rowless-placed : (q : QueryTree) (taken : List DataChunk) (c : DataChunk) → c.frame.height ≡ 0 → placed_rows q (taken ++ c ∷ []) ≡ placed_rows q taken
rowless-placed q taken c none =
    let rows : chunk_rows q c.chunk_index c.frame ≡ [] = ap (λ n. from_row q c.chunk_index c.frame 0 n) none in
    placed-append q taken (c ∷ []) ∙ ap (λ (rs : List Row). placed_rows q taken ++ (rs ++ [])) rows ∙ append-nil (placed_rows q taken)

-- and comes behind all chunks
pub rowless-taken : (r : Run) (c : DataChunk) → FitsSchema r.query.schema c.frame → c.frame.height ≡ 0 → total_height r.taken < 2 ^ 32 → Takes r c
rowless-taken r c fits none few = record {
  fits = fits;
  later = λ k d lt some more. absurd (omega (arith, none, some));
  few = omega (arith, none, few);
}

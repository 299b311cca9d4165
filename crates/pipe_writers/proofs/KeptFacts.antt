-- Chunks that are kept, and the frames that they make.
use Rattle.std.proofs.Common.{◌≡◌, ◌∙◌, ◌+◌, ◌<◌, ◌==◌, ℕ, true, false, cond, List, [], ◌∷◌, ◌++◌, map, length, get_or, refl, sym, ap, ap₂, arith, subst, remove, append-nil, inl, inr}
use Rattle.std.specs.List.{All}
use Rattle.std.proofs.lemmas.Bool.{cond-true, cond-false, cases_Bool, eq-eqb, eqb-true, ne_eqb, not-false}
use Rattle.std.proofs.lemmas.List.Elements.{All-append, All-cons, All-head, All-nil, All-tail, filter-append}
use Rattle.std.proofs.lemmas.List.Sums.{sum_by-append, sum_by-cons}
use Rattle.std.proofs.lemmas.List.{length-append}
use Rattle.pipe_columns.specs.declared.data_chunk.DataChunk.{DataChunk}
use Rattle.pipe_columns.specs.declared.schema.Field.{Field}
use Rattle.pipe_columns.specs.Frame.{ColumnData, FitsSchema, appended_all, fields_of, field_of, unsorted}
use Rattle.pipe_writers.specs.Kept.{keeps_chunk, chunks_kept, row_count}
use Rattle.pipe_writers.specs.KeptFields.{AreKeptChunks}
use Rattle.pipe_writers.specs.WriteOrder.{chunk_has_rows, chunks_with_rows}

-- ---- which chunks are kept

with-rows-kept : (c : DataChunk) (cs : List DataChunk) → chunk_has_rows c ≡ true → chunks_with_rows (c ∷ cs) ≡ c ∷ chunks_with_rows cs
with-rows-kept c cs h = cond-true _ _ _ h

with-rows-dropped : (c : DataChunk) (cs : List DataChunk) → chunk_has_rows c ≡ false → chunks_with_rows (c ∷ cs) ≡ chunks_with_rows cs
with-rows-dropped c cs h = cond-false _ _ _ h

rows-some : (c : DataChunk) → 0 < c.frame.height → chunk_has_rows c ≡ true
rows-some c some = rw (ne_eqb c.frame.height 0 (λ e. omega (arith, e, some))) refl

rows-none : (c : DataChunk) → c.frame.height ≡ 0 → chunk_has_rows c ≡ false
rows-none c none = rw (eq-eqb c.frame.height 0 none) refl

tail-kept : (c : DataChunk) (cs : List DataChunk) → chunks_kept (c ∷ cs) ≡ c ∷ cs → chunks_with_rows cs ≡ cs
tail-kept c cs h = cc h

-- one more chunk
pub kept-more : (cs : List DataChunk) (c : DataChunk) → chunks_kept cs ≡ cs → chunks_kept (cs ++ c ∷ []) ≡ cond (keeps_chunk cs c) (cs ++ c ∷ []) cs
kept-more [] c h = refl
kept-more (d ∷ ds) c h =
    let rest : chunks_with_rows ds ≡ ds = tail-kept d ds h in
    let both : chunks_with_rows (ds ++ c ∷ []) ≡ ds ++ chunks_with_rows (c ∷ []) = filter-append chunk_has_rows ds (c ∷ []) ∙ ap (λ (t : List DataChunk). t ++ chunks_with_rows (c ∷ [])) rest in
    let there : (length (d ∷ ds) == 0) ≡ false = ne_eqb (length (d ∷ ds)) 0 (λ e. omega (arith, e)) in
    elim (cases_Bool (chunk_has_rows c)) [
      | inl some ↦ rw (both, there, some) refl
      | inr none ↦ rw (both, there, none) (ap (λ (t : List DataChunk). d ∷ t) (append-nil ds))
    ]

-- kept chunks behind none
pub kept-first : (xs ys : List DataChunk) → length xs ≡ 0 → chunks_kept ys ≡ ys → chunks_kept (xs ++ ys) ≡ xs ++ ys
kept-first [] ys none h = h
kept-first (x ∷ xs) ys none h = absurd (omega (arith, none))

-- none behind kept chunks
pub kept-last : (xs ys : List DataChunk) → chunks_kept xs ≡ xs → length xs ≡ length (xs ++ ys) → chunks_kept (xs ++ ys) ≡ xs ++ ys
kept-last xs [] h none = rw (append-nil xs) h
kept-last xs (y ∷ ys) h none = let more = length-append xs (y ∷ ys) in absurd (omega (arith, none, more))

joined-kept : (x : DataChunk) (xs : List DataChunk) (y : DataChunk) (ys : List DataChunk) → chunks_kept (x ∷ xs) ≡ x ∷ xs → chunks_kept (y ∷ ys) ≡ y ∷ ys
    → chunks_kept (x ∷ (xs ++ y ∷ ys)) ≡ x ∷ (xs ++ cond (chunk_has_rows y) (y ∷ ys) ys)
joined-kept x xs y ys h g =
    let front : chunks_with_rows xs ≡ xs = tail-kept x xs h in
    let back : chunks_with_rows ys ≡ ys = tail-kept y ys g in
    let behind : chunks_with_rows (y ∷ ys) ≡ cond (chunk_has_rows y) (y ∷ ys) ys = ap (λ (t : List DataChunk). cond (chunk_has_rows y) (y ∷ t) t) back in
    ap (λ (t : List DataChunk). x ∷ t) (filter-append chunk_has_rows xs (y ∷ ys) ∙ ap (λ (t : List DataChunk). t ++ chunks_with_rows (y ∷ ys)) front ∙ ap (λ (t : List DataChunk). xs ++ t) behind)

seam : (x : DataChunk) (xs ys : List DataChunk) (y d : DataChunk) → get_or (xs ++ y ∷ ys) (length xs) d ≡ y
seam x [] ys y d = refl
seam x (z ∷ xs) ys y d = seam x xs ys y d

-- the first of those behind has rows
pub kept-whole : (xs ys : List DataChunk) (d : DataChunk) → chunks_kept xs ≡ xs → chunks_kept ys ≡ ys → (length xs ≡ 0 → ⊥) → (length xs ≡ length (xs ++ ys) → ⊥)
    → d ≡ get_or (xs ++ ys) (length xs) d → 0 < d.frame.height → chunks_kept (xs ++ ys) ≡ xs ++ ys
kept-whole [] ys d h g some more is rows = absurd (some refl)
kept-whole (x ∷ xs) [] d h g some more is rows = absurd (more (ap length (sym (append-nil (x ∷ xs)))))
kept-whole (x ∷ xs) (y ∷ ys) d h g some more is rows =
    let same : d ≡ y = is ∙ seam x xs ys y d in
    let with : chunk_has_rows y ≡ true = rows-some y (subst (λ (c : DataChunk). 0 < c.frame.height) same rows) in
    joined-kept x xs y ys h g ∙ rw with refl

removed : (x : DataChunk) (xs ys : List DataChunk) (y : DataChunk) → remove (xs ++ y ∷ ys) (length xs) ≡ xs ++ ys
removed x [] ys y = refl
removed x (z ∷ xs) ys y = ap (λ (t : List DataChunk). z ∷ t) (removed x xs ys y)

-- the first of those behind has none, and goes
pub kept-removed : (xs ys : List DataChunk) (d : DataChunk) → chunks_kept xs ≡ xs → chunks_kept ys ≡ ys → (length xs ≡ 0 → ⊥) → (length xs ≡ length (xs ++ ys) → ⊥)
    → d ≡ get_or (xs ++ ys) (length xs) d → d.frame.height ≡ 0 → remove (xs ++ ys) (length xs) ≡ chunks_kept (xs ++ ys)
kept-removed [] ys d h g some more is rows = absurd (some refl)
kept-removed (x ∷ xs) [] d h g some more is rows = absurd (more (ap length (sym (append-nil (x ∷ xs)))))
kept-removed (x ∷ xs) (y ∷ ys) d h g some more is rows =
    let same : d ≡ y = is ∙ seam x xs ys y d in
    let without : chunk_has_rows y ≡ false = rows-none y (ap (λ (c : DataChunk). c.frame.height) (sym same) ∙ rows) in
    removed x (x ∷ xs) ys y ∙ sym (joined-kept x xs y ys h g ∙ rw without refl)

rows-twice : (cs : List DataChunk) → chunks_with_rows (chunks_with_rows cs) ≡ chunks_with_rows cs
rows-twice [] = refl
rows-twice (c ∷ cs) = elim (cases_Bool (chunk_has_rows c)) [
  | inl some ↦ rw (with-rows-kept c cs some, with-rows-kept c (chunks_with_rows cs) some) (ap (λ (t : List DataChunk). c ∷ t) (rows-twice cs))
  | inr none ↦ rw (with-rows-dropped c cs none) (rows-twice cs)
]

-- what is kept is kept again
pub kept-kept : (cs : List DataChunk) → chunks_kept (chunks_kept cs) ≡ chunks_kept cs
kept-kept [] = refl
kept-kept (c ∷ cs) = ap (λ (t : List DataChunk). c ∷ t) (rows-twice cs)

-- what is kept of lists of which each was kept before
kept-joined : (xs ys : List DataChunk) → chunks_kept (chunks_kept xs ++ chunks_kept ys) ≡ chunks_kept (xs ++ ys)
kept-joined [] ys = kept-kept ys
kept-joined (x ∷ xs) [] = ap chunks_kept (append-nil (chunks_kept (x ∷ xs))) ∙ kept-kept (x ∷ xs) ∙ ap chunks_kept (sym (append-nil (x ∷ xs)))
kept-joined (x ∷ xs) (y ∷ ys) =
    let front : chunks_with_rows (chunks_with_rows xs) ≡ chunks_with_rows xs = rows-twice xs in
    let back : chunks_with_rows (y ∷ chunks_with_rows ys) ≡ chunks_with_rows (y ∷ ys) = ap (λ (t : List DataChunk). cond (chunk_has_rows y) (y ∷ t) t) (rows-twice ys) in
    ap (λ (t : List DataChunk). x ∷ t)
    (filter-append chunk_has_rows (chunks_with_rows xs) (y ∷ chunks_with_rows ys) ∙ ap₂ (λ (s t : List DataChunk). s ++ t) front back ∙ sym (filter-append chunk_has_rows xs (y ∷ ys)))

-- what stands for chunks, and takes over what stands for others
pub stands-over : (a b new cs ds : List DataChunk) → new ≡ chunks_kept (a ++ b) → a ≡ chunks_kept cs → b ≡ chunks_kept ds → new ≡ chunks_kept (cs ++ ds)
stands-over a b new cs ds is here there =
    is ∙ ap₂ (λ (s t : List DataChunk). chunks_kept (s ++ t)) here there ∙ kept-joined cs ds

-- what stands for chunks, and takes one more
pub stands-more : (a new cs : List DataChunk) (c : DataChunk) → new ≡ chunks_kept (a ++ c ∷ []) → a ≡ chunks_kept cs → new ≡ chunks_kept (cs ++ c ∷ [])
stands-more a new cs c is here = stands-over a (c ∷ []) new cs (c ∷ []) is here refl

-- how many rows are kept
abbrev height_of : DataChunk → ℕ
height_of c = c.frame.height

rows-with_rows : (cs : List DataChunk) → row_count (chunks_with_rows cs) ≡ row_count cs
rows-with_rows [] = refl
rows-with_rows (c ∷ cs) =
    let all : row_count (c ∷ cs) ≡ c.frame.height + row_count cs = sum_by-cons height_of c cs in
    elim (cases_Bool (chunk_has_rows c)) [
      | inl some ↦ rw (with-rows-kept c cs some) (sum_by-cons height_of c (chunks_with_rows cs) ∙ ap (λ n. c.frame.height + n) (rows-with_rows cs) ∙ sym all)
      | inr none ↦
          let zero_rows : c.frame.height ≡ 0 = eqb-true c.frame.height 0 (not-false _ none) in
          rw (with-rows-dropped c cs none) (rows-with_rows cs ∙ omega (arith, all, zero_rows))
    ]

rows-kept : (cs : List DataChunk) → row_count (chunks_kept cs) ≡ row_count cs
rows-kept [] = refl
rows-kept (c ∷ cs) = sum_by-cons height_of c (chunks_with_rows cs) ∙ ap (λ n. c.frame.height + n) (rows-with_rows cs) ∙ sym (sum_by-cons height_of c cs)

All-with_rows : (P : DataChunk → Type 0) (cs : List DataChunk) → All P cs → All P (chunks_with_rows cs)
All-with_rows P [] a = All-nil P
All-with_rows P (c ∷ cs) a =
    let rest = All-with_rows P cs (All-tail P c cs a) in
    elim (cases_Bool (chunk_has_rows c)) [
      | inl some ↦ subst (All P) (sym (with-rows-kept c cs some)) (All-cons P c (chunks_with_rows cs) (All-head P c cs a) rest)
      | inr none ↦ subst (All P) (sym (with-rows-dropped c cs none)) rest
    ]

All-kept : (P : DataChunk → Type 0) (cs : List DataChunk) → All P cs → All P (chunks_kept cs)
All-kept P [] a = All-nil P
All-kept P (c ∷ cs) a = All-cons P c (chunks_with_rows cs) (All-head P c cs a) (All-with_rows P cs (All-tail P c cs a))

-- chunks that are kept together
pub kept-together : (fields others : List Field) (xs ys : List DataChunk) (n m : ℕ) → others ≡ fields → AreKeptChunks fields xs n → AreKeptChunks others ys m
    → AreKeptChunks fields (chunks_kept (xs ++ ys)) (n + m)
kept-together fields others xs ys n m same a b =
    let P : DataChunk → Type 0 = λ c. FitsSchema fields c.frame in
    let more : All P ys = subst (λ (fs : List Field). All (λ (c : DataChunk). FitsSchema fs c.frame) ys) same b.fit in
    record {
      fit = All-kept P (xs ++ ys) (All-append P xs ys a.fit more);
      all = kept-kept (xs ++ ys);
      count = ap₂ (λ i j. i + j) a.count b.count ∙ sym (rows-kept (xs ++ ys) ∙ sum_by-append height_of xs ys);
    }

-- ---- the frames that they make

-- columns below columns have their fields
pub fields-stacked : (ds cs : List ColumnData) → fields_of (map unsorted (appended_all ds cs)) ≡ fields_of cs
fields-stacked [] [] = refl
fields-stacked [] (c ∷ cs) = ap (λ (t : List Field). field_of c ∷ t) (fields-stacked [] cs)
fields-stacked (d ∷ ds) [] = refl
fields-stacked (d ∷ ds) (c ∷ cs) = ap (λ (t : List Field). field_of c ∷ t) (fields-stacked ds cs)

module _ (fields : List Field) where
  abbrev Fits : DataChunk → Type 0
  Fits c = FitsSchema fields c.frame

  -- the next of chunks that fit
  pub All-next : (xs : List DataChunk) (y : DataChunk) (ys : List DataChunk) → All Fits (xs ++ y ∷ ys) → Fits y
  All-next [] y ys a = All-head Fits y ys a
  All-next (x ∷ xs) y ys a = All-next xs y ys (All-tail Fits x (xs ++ y ∷ ys) a)

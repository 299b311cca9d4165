-- Where the rows of parts stand, and what a part of their keys is.
use Rattle.std.proofs.Common.{◌≡◌, ◌∙◌, ℕ, zero, suc, ◌+◌, ◌<◌, ◌≤◌, min, max, false, List, [], ◌∷◌, ◌++◌, length, map, All, append_assoc, ltb-false, refl, sym, ap, subst, arith}
use Rattle.std.specs.List.{AllByRecursion, flat_map, IsDistinct, range_with_len, slice_get}
use Rattle.std.specs.Option.{option_to_list}
use Rattle.std.specs.declared.cmp.Ordering.{Ordering}
use Rattle.std.specs.declared.cmp.Ordering.TheVariants.{Less, Equal, Greater}
use Rattle.std.specs.FinMap.{nat_cmp-IsAntisymmetric}
use Rattle.std.specs.Ordering.{eq_by_cmp, is_eq, nat_cmp, ordering_then}
use Rattle.std.proofs.lemmas.List.{map-append}
use Rattle.std.proofs.lemmas.List.Elements.{All-append, All-cons, All-head, All-nil, All-tail}
use Rattle.pipe_columns.specs.declared.data_chunk.DataChunk.{DataChunk}
use Rattle.pipe_columns.specs.declared.place.Place.{Place}
use Rattle.pipe_columns.specs.Frame.{FrameData, value_at}
use Rattle.pipe_columns.specs.Place.{place_cmp}
use Rattle.pipe_columns.specs.Row.{Row}
use Rattle.pipe_model.specs.Expr.{Expr}
use Rattle.pipe_model.specs.Query.{QueryTree}
use Rattle.pipe_model.specs.Rows.{chunk_rows, HaveDistinctPlaces, row_of, rows_from}
use Rattle.pipe_model.specs.Value.{value}
use Rattle.pipe_model.proofs.RowPlaces.{rows-distinct}
use Rattle.pipe_states.specs.Parts.{IsInRange, kept_row, kept_rows, LieApart, Part, part_of, parts_from, rows_of_parts}
use Rattle.pipe_states.specs.Ranges.{IsWithin, share_number}
use Rattle.pipe_states.specs.Regrouped.{kept, with_keys}

-- ---- parts that lie apart

-- places of rows
abbrev places : List Row → List Place
places rs = map (λ r. r.place) rs

-- a place is none of some
abbrev Apart : Place → List Place → Type 0
Apart p ps = AllByRecursion (λ q. eq_by_cmp place_cmp p q ≡ false) ps

-- places in chunks of different positions differ
other_chunk : (p q : Place) → (p.chunk ≡ q.chunk → ⊥) → eq_by_cmp place_cmp p q ≡ false
other_chunk p q h = by (nat_cmp p.chunk q.chunk) refl where
  by : (o : Ordering) → nat_cmp p.chunk q.chunk ≡ o → is_eq (ordering_then o (nat_cmp p.row q.row)) ≡ false
  by Less e = refl
  by Equal e = absurd (h (nat_cmp-IsAntisymmetric p.chunk q.chunk e))
  by Greater e = refl

-- a position in one of two ranges that share no number is not in the other
other_range : (a b c d m n : ℕ) → share_number a b c d ≡ false → a ≤ m → m < b → c ≤ n → n < d → m ≡ n → ⊥
other_range a b c d m n e low high less more same =
    let far : min b d ≤ max a c = ltb-false (max a c) (min b d) e in
    omega arith

-- so a place in one range is none of those in the other
apart_from : (a b c d : ℕ) (p : Place) (rs : List Row) → share_number a b c d ≡ false → IsWithin a b p → All (λ r. IsWithin c d r.place) rs → Apart p (places rs)
apart_from a b c d p [] e w h = tt
apart_from a b c d p (r ∷ rs) e w h =
    let v : IsWithin c d r.place = All-head (λ (s : Row). IsWithin c d s.place) r rs h in
    (other_chunk p r.place (other_range a b c d p.chunk r.place.chunk e w.above w.below v.above v.below), apart_from a b c d p rs e w (All-tail (λ (s : Row). IsWithin c d s.place) r rs h))

-- what is apart from two lists is apart from both joined
apart-append : (p : Place) (xs ys : List Row) → Apart p (places xs) → Apart p (places ys) → Apart p (places (xs ++ ys))
apart-append p [] ys h j = j
apart-append p (x ∷ xs) ys h j = (h.0, apart-append p xs ys h.1 j)

-- a place of a part is none of those of parts that share no number with it
apart_from_all : (x : Part) (p : Place) (parts : List Part) → IsWithin x.first x.end p → All IsInRange parts → AllByRecursion (λ y. share_number x.first x.end y.first y.end ≡ false) parts
    → Apart p (places (rows_of_parts parts))
apart_from_all x p [] w h d = tt
apart_from_all x p (y ∷ parts) w h d =
    apart-append p y.rows (rows_of_parts parts) (apart_from x.first x.end y.first y.end p y.rows d.0 w (All-head IsInRange y parts h).within)
    (apart_from_all x p parts w (All-tail IsInRange y parts h) d.1)

-- rows of which no place stands twice, and others of which none does, joined
distinct-append : (xs ys : List Row) (P : Place → Type 0) → All (λ r. P r.place) xs → ((p : Place) → P p → Apart p (places ys)) → HaveDistinctPlaces xs → HaveDistinctPlaces ys → HaveDistinctPlaces (xs ++ ys)
unfolding IsDistinct
distinct-append [] ys P h f d e = e
distinct-append (x ∷ xs) ys P h f d e =
    (apart-append x.place xs ys d.0 (f x.place (All-head (λ (r : Row). P r.place) x xs h)), distinct-append xs ys P (All-tail (λ (r : Row). P r.place) x xs h) f d.1 e)

-- no place stands twice among the rows of parts that lie apart
distinct_parts : (parts : List Part) → All IsInRange parts → IsDistinct (λ p r. share_number p.first p.end r.first r.end) parts → HaveDistinctPlaces (rows_of_parts parts)
unfolding IsDistinct
distinct_parts [] h d = tt
distinct_parts (x ∷ parts) h d =
    let here : IsInRange x = All-head IsInRange x parts h in
    let rest : All IsInRange parts = All-tail IsInRange x parts h in
    distinct-append x.rows (rows_of_parts parts) (IsWithin x.first x.end) here.within (λ p w. apart_from_all x p parts w rest d.0) here.distinct (distinct_parts parts rest d.1)

pub parts-distinct : (parts : List Part) → LieApart parts → HaveDistinctPlaces (rows_of_parts parts)
parts-distinct parts a = distinct_parts parts a.in_range a.apart

-- ---- parts of chunks

-- the rows of chunks from a position on, of two lists joined
rows_from-append : (q : QueryTree) (i : ℕ) (xs ys : List DataChunk) → rows_from q i (xs ++ ys) ≡ rows_from q i xs ++ rows_from q (i + length xs) ys
rows_from-append q i [] ys = ap (λ (n : ℕ). rows_from q n ys) (omega arith)
rows_from-append q i (x ∷ xs) ys =
    ap (λ (l : List Row). chunk_rows q i x.frame ++ l) (rows_from-append q (i + 1) xs ys ∙ ap (λ (n : ℕ). rows_from q (i + 1) xs ++ rows_from q n ys) (omega arith))
    ∙ sym (append_assoc (chunk_rows q i x.frame) (rows_from q (i + 1) xs) (rows_from q (i + length (x ∷ xs)) ys))

-- parts of chunks, one behind another, have the rows of all chunks
pub rows_of_all : (q : QueryTree) (i : ℕ) (lists : List (List DataChunk)) → rows_of_parts (parts_from q i lists) ≡ rows_from q i (flat_map (λ chunks. chunks) lists)
rows_of_all q i [] = refl
rows_of_all q i (chunks ∷ lists) =
    ap (λ (l : List Row). rows_from q i chunks ++ l) (rows_of_all q (i + length chunks) lists)
    ∙ sym (rows_from-append q i chunks (flat_map (λ more. more) lists))

-- a chunk without rows
no_rows : DataChunk
no_rows = record { chunk_index = 0; frame = record { height = 0; columns = [] } }

-- so many of them before others
behind : ℕ → List DataChunk → List DataChunk
behind zero chunks = chunks
behind (suc n) chunks = no_rows ∷ behind n chunks

-- behind them chunks have their rows at later positions
rows_behind : (q : QueryTree) (i n : ℕ) (chunks : List DataChunk) → rows_from q i (behind n chunks) ≡ rows_from q (i + n) chunks
unfolding behind no_rows
rows_behind q i zero chunks = ap (λ (k : ℕ). rows_from q k chunks) (omega arith)
rows_behind q i (suc n) chunks = rows_behind q (i + 1) n chunks ∙ ap (λ (k : ℕ). rows_from q k chunks) (omega arith)

-- no place stands twice among the rows of chunks from a position on
rows_from-distinct : (q : QueryTree) (i : ℕ) (chunks : List DataChunk) → HaveDistinctPlaces (rows_from q i chunks)
rows_from-distinct q i chunks = subst HaveDistinctPlaces (rows_behind q 0 i chunks ∙ ap (λ (k : ℕ). rows_from q k chunks) (omega arith)) (rows-distinct (behind i chunks) q)

-- the rows of a chunk stand in it
chunk_within : (q : QueryTree) (a b i : ℕ) (frame : FrameData) (ns : List ℕ) → a ≤ i → i < b → All (λ r. IsWithin a b r.place) (map (λ n. row_of q i frame n) ns)
chunk_within q a b i frame [] low high = All-nil (λ (r : Row). IsWithin a b r.place)
chunk_within q a b i frame (n ∷ ns) low high =
    All-cons (λ (r : Row). IsWithin a b r.place) (row_of q i frame n) (map (λ m. row_of q i frame m) ns) (record { above = low; below = high }) (chunk_within q a b i frame ns low high)

-- and those of chunks in their range
rows_within : (q : QueryTree) (a b i : ℕ) (chunks : List DataChunk) → a ≤ i → i + length chunks ≤ b → All (λ r. IsWithin a b r.place) (rows_from q i chunks)
rows_within q a b i [] low high = All-nil (λ (r : Row). IsWithin a b r.place)
rows_within q a b i (x ∷ chunks) low high =
    All-append (λ (r : Row). IsWithin a b r.place) (chunk_rows q i x.frame) (rows_from q (i + 1) chunks)
    (chunk_within q a b i x.frame (range_with_len 0 x.frame.height) low (omega arith)) (rows_within q a b (i + 1) chunks (omega arith) (omega arith))

-- a part of chunks stands in its range
pub part-in_range : (q : QueryTree) (first : ℕ) (chunks : List DataChunk) → IsInRange (part_of q first chunks)
part-in_range q first chunks = record {
  within = rows_within q first (first + length chunks) first chunks (omega arith) (omega arith);
  distinct = rows_from-distinct q first chunks;
}

-- ---- a part of the keys

module _ (q : QueryTree) (keep : List ℕ) where
  -- the value of the key at a position
  value_of_key : (frame : FrameData) (n : ℕ) (keys : List Expr) (k : ℕ) → k < length keys → map (λ e. value e frame n) (option_to_list (slice_get keys k)) ≡ value_at (map (λ e. value e frame n) keys) k ∷ []
  value_of_key frame n [] k lt = absurd (omega arith)
  value_of_key frame n (x ∷ keys) zero lt = refl
  value_of_key frame n (x ∷ keys) (suc k) lt = value_of_key frame n keys k (omega (arith, lt))

  -- the values of the keys at some positions
  values_of_keys : (frame : FrameData) (n : ℕ) (ks : List ℕ) → All (λ k. k < length q.keys) ks
      → map (λ e. value e frame n) (flat_map (λ k. option_to_list (slice_get q.keys k)) ks) ≡ kept ks (map (λ e. value e frame n) q.keys)
  values_of_keys frame n [] h = refl
  values_of_keys frame n (k ∷ ks) h =
      map-append (λ (e : Expr). value e frame n) (option_to_list (slice_get q.keys k)) (flat_map (λ j. option_to_list (slice_get q.keys j)) ks)
      ∙ (λ i. value_of_key frame n q.keys k (All-head (λ (j : ℕ). j < length q.keys) k ks h) i ++ values_of_keys frame n ks (All-tail (λ (j : ℕ). j < length q.keys) k ks h) i)

  -- the rows of a chunk, by these keys alone
  rows_of_chunk : (i : ℕ) (frame : FrameData) (ns : List ℕ) → All (λ k. k < length q.keys) keep → map (λ n. row_of (with_keys q keep) i frame n) ns ≡ kept_rows keep (map (λ n. row_of q i frame n) ns)
  rows_of_chunk i frame [] h = refl
  rows_of_chunk i frame (n ∷ ns) h =
      λ x. record (row_of q i frame n) { key = values_of_keys frame n keep h x } ∷ rows_of_chunk i frame ns h x

  -- and those of chunks
  pub rows_by_keys : (i : ℕ) (chunks : List DataChunk) → All (λ k. k < length q.keys) keep → rows_from (with_keys q keep) i chunks ≡ kept_rows keep (rows_from q i chunks)
  rows_by_keys i [] h = refl
  rows_by_keys i (x ∷ chunks) h =
      (λ k. rows_of_chunk i x.frame (range_with_len 0 x.frame.height) h k ++ rows_by_keys (i + 1) chunks h k)
      ∙ sym (map-append (kept_row keep) (chunk_rows q i x.frame) (rows_from q (i + 1) chunks))

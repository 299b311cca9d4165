-- The places of the rows of chunks ascend.
use Rattle.std.proofs.Common.{◌≡◌, ◌∙◌, ℕ, zero, suc, ◌+◌, ◌<◌, false, List, [], ◌∷◌, ◌++◌, map, refl, sym, ap, arith}
use Rattle.std.specs.List.{AllByRecursion, IsDistinct, range_with_len}
use Rattle.std.specs.declared.cmp.Ordering.TheVariants.{Less}
use Rattle.std.specs.Ordering.{eq_by_cmp, is_eq, nat_cmp}
use Rattle.std.specs.Cmp.{nat_cmp_is, nat_cmp_total, tied_itself}
use Rattle.pipe_columns.specs.declared.data_chunk.DataChunk.{DataChunk}
use Rattle.pipe_columns.specs.declared.place.Place.{Place}
use Rattle.pipe_columns.specs.Frame.{FrameData}
use Rattle.pipe_columns.specs.Groups.{IsAscending}
use Rattle.pipe_columns.specs.Place.{place_cmp}
use Rattle.pipe_columns.specs.Row.{Row}
use Rattle.pipe_columns.proofs.AscendingFacts.{Below}
use Rattle.pipe_model.specs.Query.{QueryTree}
use Rattle.pipe_model.specs.Rows.{HaveDistinctPlaces, row_of, rows, rows_from}

-- a lesser number is below
less : (m n : ℕ) → m < n → nat_cmp m n ≡ Less
less m n h = sym (nat_cmp_is m n Less h)

-- a place in an earlier chunk is below
chunk_less : (p q : Place) → p.chunk < q.chunk → place_cmp p q ≡ Less
chunk_less p q h = rw (less p.chunk q.chunk h) refl

-- and so is an earlier one in a chunk
row_less : (i m n : ℕ) → m < n → place_cmp (record { chunk = i; row = m }) (record { chunk = i; row = n }) ≡ Less
row_less i m n h = rw (tied_itself nat_cmp_total i, less m n h) refl

-- the places of rows
abbrev places : List Row → List Place
places rs = map (λ r. r.place) rs

-- rows n, n + 1 .. of a chunk, and then others
abbrev from_row : QueryTree → ℕ → FrameData → ℕ → ℕ → List Row → List Row
from_row q i frame n len others = map (λ m. row_of q i frame m) (range_with_len n len) ++ others

-- a place before row n of a chunk, and before others, is below all
below_rows : (q : QueryTree) (i : ℕ) (frame : FrameData) (p : Place) (n len : ℕ) (others : List Row) → ((k : ℕ) → place_cmp p (record { chunk = i; row = n + k }) ≡ Less)
    → Below place_cmp p (places others) → Below place_cmp p (places (from_row q i frame n len others))
below_rows q i frame p n zero others h b = b
below_rows q i frame p n (suc len) others h b =
    let here : place_cmp p (record { chunk = i; row = n }) ≡ Less = ap (λ (k : ℕ). place_cmp p (record { chunk = i; row = k })) (omega arith) ∙ h 0 in
    (here, below_rows q i frame p (n + 1) len others (λ k. ap (λ (m : ℕ). place_cmp p (record { chunk = i; row = m })) (omega arith) ∙ h (k + 1)) b)

-- the rows of a chunk ascend, and others behind them
ascending_rows : (q : QueryTree) (i : ℕ) (frame : FrameData) (n len : ℕ) (others : List Row) → ((p : Place) → p.chunk < i + 1 → Below place_cmp p (places others))
    → IsAscending place_cmp (places others) → IsAscending place_cmp (places (from_row q i frame n len others))
ascending_rows q i frame n zero others h a = a
ascending_rows q i frame n (suc len) others h a = (
  below_rows q i frame (record { chunk = i; row = n }) (n + 1) len others (λ k. row_less i n (n + 1 + k) (omega arith)) (h (record { chunk = i; row = n }) (omega arith)),
  ascending_rows q i frame (n + 1) len others h a,
)

-- a place in an earlier chunk is below those of rows
below_from : (q : QueryTree) (i : ℕ) (chunks : List DataChunk) (p : Place) → p.chunk < i → Below place_cmp p (places (rows_from q i chunks))
below_from q i [] p h = tt
below_from q i (c ∷ cs) p h = below_rows q i c.frame p 0 c.frame.height (rows_from q (i + 1) cs) (λ k. chunk_less p (record { chunk = i; row = 0 + k }) h) (below_from q (i + 1) cs p (omega arith))

-- the rows of chunks from a position on ascend
ascending_from : (q : QueryTree) (i : ℕ) (chunks : List DataChunk) → IsAscending place_cmp (places (rows_from q i chunks))
ascending_from q i [] = tt
ascending_from q i (c ∷ cs) = ascending_rows q i c.frame 0 c.frame.height (rows_from q (i + 1) cs) (λ p h. below_from q (i + 1) cs p h) (ascending_from q (i + 1) cs)

-- the rows of chunks ascend
pub rows-ascend : (chunks : List DataChunk) (q : QueryTree) → IsAscending place_cmp (map (λ r. r.place) (rows chunks q))
rows-ascend chunks q = ascending_from q 0 chunks

-- what is below places is none of them
other_places : (p : Place) (ps : List Place) → Below place_cmp p ps → AllByRecursion (λ q. eq_by_cmp place_cmp p q ≡ false) ps
other_places p [] b = tt
other_places p (q ∷ qs) b = (ap is_eq b.0, other_places p qs b.1)

-- places that ascend differ
pub distinct-ascending : (ps : List Place) → IsAscending place_cmp ps → IsDistinct (eq_by_cmp place_cmp) ps
unfolding IsDistinct
distinct-ascending [] a = tt
distinct-ascending (p ∷ ps) a = (other_places p ps a.0, distinct-ascending ps a.1)

-- so no place stands twice among the rows of chunks
pub rows-distinct : (chunks : List DataChunk) (q : QueryTree) → HaveDistinctPlaces (rows chunks q)
rows-distinct chunks q = distinct-ascending (map (λ r. r.place) (rows chunks q)) (rows-ascend chunks q)

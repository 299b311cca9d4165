-- The groups of partitions, joined, are the groups of all rows.
use Rattle.std.proofs.Common.{◌≡◌, ◌∙◌, ℕ, zero, suc, ◌+◌, ◌<◌, false, List, [], ◌∷◌, ◌++◌, map, if◌then◌else◌, Bool, true, refl, sym, ap, arith}
use Rattle.std.specs.List.{All, flat_map, range_with_len}
use Rattle.std.proofs.lemmas.List.{map-append}
use Rattle.std.proofs.lemmas.List.Elements.{All-head, All-tail}
use Rattle.pipe_columns.specs.declared.any_value.AnyValue.{AnyValue}
use Rattle.pipe_columns.specs.Frame.{frame_of}
use Rattle.pipe_columns.specs.Groups.{sorted_keys}
use Rattle.pipe_columns.specs.Key.{partition}
use Rattle.pipe_columns.specs.Place.{first_entry}
use Rattle.pipe_columns.specs.Row.{Row}
use Rattle.pipe_columns.specs.Slice.{sliced}
use Rattle.pipe_columns.proofs.AscendingFacts.{sorted-same}
use Rattle.pipe_model.specs.Answer.{aggs_from, answer_of, answer_row, first_place_cmp, groups, partition_cmp, rows_at, tuple_cmp}
use Rattle.pipe_model.specs.Output.{key_types, output_schema}
use Rattle.pipe_model.specs.Partitions.{groups_in, rows_in}
use Rattle.pipe_model.specs.Query.{QueryTree}
use Rattle.pipe_model.specs.Rows.{keys_of}
use Rattle.pipe_model.proofs.PartFacts.{by_part-alike, keys_at, keys_at-part, keys_of-part, rows_of-at, sorted_by_part}

-- a partition is one of so many
partition-few : (partitions : ℕ) (q : QueryTree) (k : List AnyValue) → 0 < partitions → partition partitions (key_types q) k < partitions
partition-few partitions q k some = omega arith

-- without kept order, groups are the keys of each partition, joined
pub groups-joined : (rs : List Row) (q : QueryTree) (partitions : ℕ) → q.keeps_order ≡ false → 0 < partitions
    → groups rs q partitions ≡ flat_map (λ p. groups_in partitions q p rs) (range_with_len 0 partitions)
groups-joined rs q partitions e some =
    ap (λ (kept : Bool). sorted_keys (λ a b. if kept then first_place_cmp (first_entry (rows_at rs a)) (first_entry (rows_at rs b)) else partition_cmp partitions (key_types q) a b) (keys_of rs)) e
    ∙ sorted_by_part (λ k. partition partitions (key_types q) k) rs partitions (λ k. partition-few partitions q k some)

-- of the rows of a partition, groups are its own
pub groups-alone : (rs : List Row) (q : QueryTree) (partitions p : ℕ) → q.keeps_order ≡ false → groups (rows_in partitions q p rs) q partitions ≡ groups_in partitions q p rs
groups-alone rs q partitions p e =
    let part : List AnyValue → ℕ = λ key. partition partitions (key_types q) key in
    let own : List Row = rows_in partitions q p rs in
    ap (λ (kept : Bool). sorted_keys (λ a b. if kept then first_place_cmp (first_entry (rows_at own a)) (first_entry (rows_at own b)) else partition_cmp partitions (key_types q) a b) (keys_of own)) e
    ∙ sorted-same (λ k. part k ≡ p) (partition_cmp partitions (key_types q)) tuple_cmp (λ a b f g. by_part-alike part p a b f g) (keys_of own) (keys_of-part part p rs)

-- a partition has the row of each of its groups
pub answer_row-in : (rs : List Row) (q : QueryTree) (partitions p : ℕ) (k : List AnyValue) → partition partitions (key_types q) k ≡ p → answer_row q (rows_in partitions q p rs) k ≡ answer_row q rs k
answer_row-in rs q partitions p k e = ap (λ entries. k ++ aggs_from 0 q.schema q.aggs entries) (rows_of-at (λ key. partition partitions (key_types q) key) p rs k e)

-- functions that agree on the elements of a list give the same images
map-same : {X Y : Type 0} (P : X → Type 0) (f g : X → Y) → ((x : X) → P x → f x ≡ g x) → (xs : List X) → All P xs → map f xs ≡ map g xs
map-same P f g same [] h = refl
map-same P f g same (x ∷ xs) h = let one = same x (All-head P x xs h) in let rest = map-same P f g same xs (All-tail P x xs h) in λ i. one i ∷ rest i

-- so the rows of the groups of some partitions are those of each, joined
answers-from : (rs : List Row) (q : QueryTree) (partitions low n : ℕ)
    → map (answer_row q rs) (flat_map (λ p. groups_in partitions q p rs) (range_with_len low n))
    ≡ flat_map (λ p. map (answer_row q (rows_in partitions q p rs)) (groups_in partitions q p rs)) (range_with_len low n)
answers-from rs q partitions low zero = refl
answers-from rs q partitions low (suc n) =
    let part : List AnyValue → ℕ = λ key. partition partitions (key_types q) key in
    let first : List (List AnyValue) = keys_at part rs low in
    let others : List (List AnyValue) = flat_map (λ p. groups_in partitions q p rs) (range_with_len (low + 1) n) in
    map-append (answer_row q rs) first others
    ∙ (λ i. sym (map-same (λ k. part k ≡ low) (answer_row q (rows_in partitions q low rs)) (answer_row q rs) (λ k e. answer_row-in rs q partitions low k e) first (keys_at-part part rs low)) i
    ++ answers-from rs q partitions (low + 1) n i)

-- and those of all
pub answers-joined : (rs : List Row) (q : QueryTree) (partitions : ℕ) → q.keeps_order ≡ false → 0 < partitions
    → map (answer_row q rs) (groups rs q partitions)
    ≡ flat_map (λ p. map (answer_row q (rows_in partitions q p rs)) (groups_in partitions q p rs)) (range_with_len 0 partitions)
answers-joined rs q partitions e some = ap (map (answer_row q rs)) (groups-joined rs q partitions e some) ∙ answers-from rs q partitions 0 partitions

-- kept order does not look at partitions
pub kept-alike : (rs : List Row) (q : QueryTree) (m n : ℕ) → q.keeps_order ≡ true → answer_of rs q m ≡ answer_of rs q n
kept-alike rs q m n e =
    let same : (partitions : ℕ) → groups rs q partitions ≡ sorted_keys (λ a b. first_place_cmp (first_entry (rows_at rs a)) (first_entry (rows_at rs b))) (keys_of rs) =
    λ partitions. ap (λ (kept : Bool). sorted_keys (λ a b. if kept then first_place_cmp (first_entry (rows_at rs a)) (first_entry (rows_at rs b)) else partition_cmp partitions (key_types q) a b) (keys_of rs)) e in
    ap (λ (keys : List (List AnyValue)). frame_of (output_schema q) (map (answer_row q rs) (sliced q.slice keys))) (same m ∙ sym (same n))

-- The groups of rows, and of rows in which every test counts alike.
use Rattle.std.proofs.Common.{◌≡◌, ◌∙◌, ℕ, true, List, map, if◌then◌else◌, sym, ap}
use Rattle.std.specs.List.{All, list_any}
use Rattle.std.specs.List.Sorted.{IsPermutation}
use Rattle.std.specs.declared.cmp.Ordering.{Ordering}
use Rattle.std.proofs.lemmas.List.Sorted.{All-permutation, IsPermutation-map, IsPermutation-sym}
use Rattle.pipe_columns.specs.declared.any_value.AnyValue.{AnyValue}
use Rattle.pipe_columns.specs.Frame.{frame_of}
use Rattle.pipe_columns.specs.Groups.{AreSortedKeys, IsExactOn, sorted_keys}
use Rattle.pipe_columns.specs.Place.{first_entry}
use Rattle.pipe_columns.specs.Row.{Row}
use Rattle.pipe_columns.specs.Slice.{sliced}
use Rattle.pipe_columns.proofs.AscendingFacts.{sorted-from, sorted-has_on, sorted_are, sorted_sole}
use Rattle.pipe_columns.proofs.ElementFacts.{all_has, Has, moved-has, same_elements}
use Rattle.pipe_model.specs.Aggregate.{reads_places}
use Rattle.pipe_model.specs.Answer.{answer_of, answer_reads_places, first_place_cmp, group_cmp, groups, partition_cmp, rows_at}
use Rattle.pipe_model.specs.Counts.{CountAlike}
use Rattle.pipe_model.specs.Output.{key_types, output_schema}
use Rattle.pipe_model.specs.Query.{QueryTree}
use Rattle.pipe_model.specs.Rows.{HaveDistinctPlaces, keys_of}
use Rattle.pipe_model.proofs.KeyFacts.{first_place_is, group-exact, places_cmp}
use Rattle.pipe_model.proofs.MovedFacts.{rows-moved}
use Rattle.pipe_model.proofs.PlaceFacts.{least_place-moved}
use Rattle.pipe_model.proofs.RowFacts.{answer_row-alike, first_of_any, rows_at-moved, second_of_any}

-- ---- sorted keys

-- groups ascend in their order, and are the keys of the rows
pub groups-sorted : (rs : List Row) (q : QueryTree) (partitions : ℕ) → (q.keeps_order ≡ true → HaveDistinctPlaces rs)
    → AreSortedKeys (group_cmp q partitions rs) (keys_of rs) (groups rs q partitions)
groups-sorted rs q partitions d = sorted_are (λ k. Has k (keys_of rs)) (group_cmp q partitions rs) (group-exact rs q partitions d) (keys_of rs) (all_has (keys_of rs))

-- no other list of keys does and is
pub groups-sole : (rs : List Row) (q : QueryTree) (partitions : ℕ) (keys : List (List AnyValue)) → (q.keeps_order ≡ true → HaveDistinctPlaces rs)
    → AreSortedKeys (group_cmp q partitions rs) (keys_of rs) keys → keys ≡ groups rs q partitions
groups-sole rs q partitions keys d sorted = sorted_sole (λ k. Has k (keys_of rs)) (group_cmp q partitions rs) (group-exact rs q partitions d) (keys_of rs) keys (all_has (keys_of rs)) sorted

-- keys in two orders sort alike
sorted-moved : (P : List AnyValue → Type 0) (R : List AnyValue → List AnyValue → Ordering) → IsExactOn P R → (keys others : List (List AnyValue)) → All P keys
    → IsPermutation keys others → sorted_keys R others ≡ sorted_keys R keys
sorted-moved P R o keys others h moved =
    let all : All P others = All-permutation P keys others moved h in
    sorted_sole P R o keys (sorted_keys R others) h (record {
      ascending = (sorted_are P R o others all).ascending;
      same = same_elements (sorted_keys R others) keys
          (λ k m. moved-has others keys (IsPermutation-sym keys others moved) k (sorted-from R k others m))
          (λ k m. sorted-has_on P R o k others all (moved-has keys others moved k m));
    })

-- ---- rows that count alike

-- they have the same keys, in some order
keys-moved : (rs others : List Row) → CountAlike rs others → IsPermutation (keys_of rs) (keys_of others)
keys-moved rs others alike = IsPermutation-map (λ (r : Row). r.key) rs others (rows-moved rs others alike)

-- and the same order of groups
order-alike : (rs others : List Row) (q : QueryTree) (partitions : ℕ) → CountAlike rs others → group_cmp q partitions rs ≡ group_cmp q partitions others
order-alike rs others q partitions alike =
    λ i a b. if q.keeps_order then same a b i else partition_cmp partitions (key_types q) a b
  where
    same : (a b : List AnyValue) → first_place_cmp (first_entry (rows_at rs a)) (first_entry (rows_at rs b)) ≡ first_place_cmp (first_entry (rows_at others a)) (first_entry (rows_at others b))
    same a b =
        first_place_is (first_entry (rows_at rs a)) (first_entry (rows_at rs b))
        ∙ (λ i. places_cmp (least_place-moved (rows_at rs a) (rows_at others a) (rows_at-moved rs others a alike) i) (least_place-moved (rows_at rs b) (rows_at others b) (rows_at-moved rs others b alike) i))
        ∙ sym (first_place_is (first_entry (rows_at others a)) (first_entry (rows_at others b)))

-- so they have the same groups, where no place stands twice if order is kept
pub groups-alike : (rs others : List Row) (q : QueryTree) (partitions : ℕ) → CountAlike rs others → (q.keeps_order ≡ true → HaveDistinctPlaces rs)
    → groups rs q partitions ≡ groups others q partitions
groups-alike rs others q partitions alike d =
    sym (sorted-moved (λ k. Has k (keys_of rs)) (group_cmp q partitions rs) (group-exact rs q partitions d) (keys_of rs) (keys_of others) (all_has (keys_of rs)) (keys-moved rs others alike))
    ∙ ap (λ (R : List AnyValue → List AnyValue → Ordering). sorted_keys R (keys_of others)) (order-alike rs others q partitions alike)

-- and the same answer, where no place stands twice if the answer looks at places
pub answer-alike : (rs others : List Row) (q : QueryTree) (partitions : ℕ) → CountAlike rs others → (answer_reads_places q ≡ true → HaveDistinctPlaces rs)
    → answer_of rs q partitions ≡ answer_of others q partitions
answer-alike rs others q partitions alike d =
    let any = list_any (λ a. reads_places a.kind) q.aggs in
    let same : groups rs q partitions ≡ groups others q partitions = groups-alike rs others q partitions alike (λ e. d (first_of_any q.keeps_order any e)) in
    λ i. frame_of (output_schema q) (map (λ key. answer_row-alike rs others q key alike (λ e. d (second_of_any q.keeps_order any e)) i) (sliced q.slice (same i)))

-- Fair states of a query have texts of their own.
use Rattle.std.proofs.Common.{◌≡◌, ◌∙◌, ℕ, ◌+◌, ◌<◌, ◌≤◌, ◌^◌, ◌&&◌, true, List, [], ◌∷◌, ◌++◌, length, drop, map, All, append_assoc, length-append, lt-ltb, refl, sym, ap, subst, arith}
use Rattle.std.specs.List.{flat_map, sum_by}
use Rattle.std.proofs.lemmas.List.Elements.{All-cons, All-head, All-nil, All-tail}
use Rattle.std.proofs.lemmas.List.Sums.{sum_by-cons}
use Rattle.pipe_columns.specs.declared.any_value.AnyValue.{AnyValue}
use Rattle.pipe_columns.specs.declared.any_value.AnyValue.TheVariants as av
use Rattle.pipe_columns.specs.declared.data_type.DataType.{DataType}
use Rattle.pipe_columns.specs.declared.data_type.DataType.TheVariants as dt
use Rattle.pipe_columns.specs.declared.schema.Field.{Field}
use Rattle.pipe_columns.specs.AnyValue.{fits, HasUtf8}
use Rattle.pipe_columns.specs.Frame.{value_at}
use Rattle.pipe_model.specs.Aggregate.{counted}
use Rattle.pipe_model.specs.Kind.{Kind}
use Rattle.pipe_model.specs.Kind as kind
use Rattle.pipe_model.specs.Output.{agg_fields, input_type, key_types}
use Rattle.pipe_model.specs.Query.{AggTree, QueryTree}
use Rattle.pipe_spill.specs.FrameBytes.{frame_bytes}
use Rattle.pipe_spill.specs.KeyTypes.{AreOfTypes}
use Rattle.pipe_spill.specs.SpillRow.{AreRows, IsRow}
use Rattle.pipe_spill.specs.declared.spill_row.SpillRow.{SpillRow}
use Rattle.pipe_spill.proofs.CodeOrder.{codes_injective}
use Rattle.pipe_spill.proofs.FrameOnce.{frames_injective}
use Rattle.pipe_spill.proofs.RowOnce.{four_once}
use Rattle.pipe_states.specs.Fair.{can_give, can_give_all, IsFair, IsFairRow, IsRowOf, IsStateOf}
use Rattle.pipe_states.specs.Regrouped.{column_count}
use Rattle.pipe_states.specs.States.{StateSeen}
use Rattle.pipe_states.specs.StateText.{high_half, low_half, saved_agg, saved_aggs, saved_row, saved_types, state_text, state_types}
use Rattle.pipe_states.specs.declared.state_row.StateRow.{StateRow}
use Rattle.pipe_states.proofs.HalfFacts.{both_true, halves-fit, halves_once}
use Rattle.pipe_states.proofs.SummaryFacts.{at-front, at-second}

-- ---- lists

-- a list without its first element
abbrev rest_of : {X : Type 0} → List X → List X
rest_of [] = []
rest_of (x ∷ xs) = xs

-- its first element, or another
abbrev head_or : {X : Type 0} → X → List X → X
head_or d [] = d
head_or d (x ∷ xs) = x

-- the value at a place, where the place is known by what stands before
pub value-first : (front : List AnyValue) (v : AnyValue) (rest : List AnyValue) (j : ℕ) → length front ≡ j → value_at (front ++ v ∷ rest) j ≡ v
value-first front v rest j e = ap (value_at (front ++ v ∷ rest)) (sym e) ∙ at-front front rest v

pub value-second : (front : List AnyValue) (u v : AnyValue) (rest : List AnyValue) (j : ℕ) → length front ≡ j → value_at (front ++ u ∷ v ∷ rest) (j + 1) ≡ v
value-second front u v rest j e = ap (value_at (front ++ u ∷ v ∷ rest)) (omega arith) ∙ at-second front rest u v

-- ---- results that are saved alike

-- the types of the output columns of aggregates
abbrev pub types_of : List Field → List AggTree → List DataType
types_of schema aggs = flat_map (λ a. map (λ f. f.dtype) (agg_fields [] a.kind (input_type schema a.input))) aggs

-- what is saved from a column on tells the results of some aggregates
abbrev Tells : List Field → List AggTree → Type 0
Tells schema aggs =
    (j : ℕ) (front other xs ys : List AnyValue) → length front ≡ j → length other ≡ j → AreOfTypes (types_of schema aggs) xs → AreOfTypes (types_of schema aggs) ys
    → saved_aggs j schema aggs (front ++ xs) ≡ saved_aggs j schema aggs (other ++ ys) → xs ≡ ys

-- with one more column
tells_one : (schema : List Field) (aggs : List AggTree) (t : DataType) → Tells schema aggs → (j : ℕ) (front other xs ys : List AnyValue) → length front ≡ j → length other ≡ j
    → AreOfTypes (t ∷ types_of schema aggs) xs → AreOfTypes (t ∷ types_of schema aggs) ys
    → value_at (front ++ xs) j ∷ saved_aggs (j + 1) schema aggs (front ++ xs) ≡ value_at (other ++ ys) j ∷ saved_aggs (j + 1) schema aggs (other ++ ys) → xs ≡ ys
tells_one schema aggs t tells j front other [] ys f g h k e = absurd h
tells_one schema aggs t tells j front other (v ∷ xs) [] f g h k e = absurd k
tells_one schema aggs t tells j front other (v ∷ xs) (w ∷ ys) f g h k e =
    let first : v ≡ w = sym (value-first front v xs j f) ∙ ap (head_or av.Null) e ∙ value-first other w ys j g in
    let rest : xs ≡ ys = tells (j + 1) (front ++ v ∷ []) (other ++ w ∷ []) xs ys
    (length-append front (v ∷ []) ∙ ap (λ (n : ℕ). n + 1) f) (length-append other (w ∷ []) ∙ ap (λ (n : ℕ). n + 1) g) h.1 k.1
    (ap (saved_aggs (j + 1) schema aggs) (append_assoc front (v ∷ []) xs) ∙ ap rest_of e ∙ sym (ap (saved_aggs (j + 1) schema aggs) (append_assoc other (w ∷ []) ys))) in
    λ i. first i ∷ rest i

-- with a mean
tells_mean : (schema : List Field) (aggs : List AggTree) → Tells schema aggs → (j : ℕ) (front other xs ys : List AnyValue) → length front ≡ j → length other ≡ j
    → AreOfTypes (dt.Int128 ∷ dt.UInt32 ∷ types_of schema aggs) xs → AreOfTypes (dt.Int128 ∷ dt.UInt32 ∷ types_of schema aggs) ys
    → high_half (value_at (front ++ xs) j) ∷ low_half (value_at (front ++ xs) j) ∷ value_at (front ++ xs) (j + 1) ∷ saved_aggs (j + 2) schema aggs (front ++ xs)
    ≡ high_half (value_at (other ++ ys) j) ∷ low_half (value_at (other ++ ys) j) ∷ value_at (other ++ ys) (j + 1) ∷ saved_aggs (j + 2) schema aggs (other ++ ys) → xs ≡ ys
tells_mean schema aggs tells j front other [] ys f g h k e = absurd h
tells_mean schema aggs tells j front other (v ∷ []) ys f g h k e = absurd h.1
tells_mean schema aggs tells j front other (v ∷ c ∷ xs) [] f g h k e = absurd k
tells_mean schema aggs tells j front other (v ∷ c ∷ xs) (w ∷ []) f g h k e = absurd k.1
tells_mean schema aggs tells j front other (v ∷ c ∷ xs) (w ∷ d ∷ ys) f g h k e =
    let here = value-first front v (c ∷ xs) j f in
    let there = value-first other w (d ∷ ys) j g in
    let high : high_half v ≡ high_half w = sym (ap high_half here) ∙ ap (head_or av.Null) e ∙ ap high_half there in
    let low : low_half v ≡ low_half w = sym (ap low_half here) ∙ ap (λ (l : List AnyValue). head_or av.Null (rest_of l)) e ∙ ap low_half there in
    let first : v ≡ w = halves_once v w h.0 k.0 high low in
    let second : c ≡ d = sym (value-second front v c xs j f) ∙ ap (λ (l : List AnyValue). head_or av.Null (rest_of (rest_of l))) e ∙ value-second other w d ys j g in
    let rest : xs ≡ ys = tells (j + 2) (front ++ v ∷ c ∷ []) (other ++ w ∷ d ∷ []) xs ys
    (length-append front (v ∷ c ∷ []) ∙ ap (λ (n : ℕ). n + 2) f) (length-append other (w ∷ d ∷ []) ∙ ap (λ (n : ℕ). n + 2) g) h.1.1 k.1.1
    (ap (saved_aggs (j + 2) schema aggs) (append_assoc front (v ∷ c ∷ []) xs) ∙ ap (λ (l : List AnyValue). rest_of (rest_of (rest_of l))) e
    ∙ sym (ap (saved_aggs (j + 2) schema aggs) (append_assoc other (w ∷ d ∷ []) ys))) in
    λ i. first i ∷ second i ∷ rest i

-- with one more aggregate
tells_agg : (schema : List Field) (aggs : List AggTree) (k : Kind) (t : DataType) → Tells schema aggs → (j : ℕ) (front other xs ys : List AnyValue) → length front ≡ j → length other ≡ j
    → AreOfTypes (map (λ f. f.dtype) (agg_fields [] k t) ++ types_of schema aggs) xs → AreOfTypes (map (λ f. f.dtype) (agg_fields [] k t) ++ types_of schema aggs) ys
    → saved_agg k t j (front ++ xs) ++ saved_aggs (j + column_count k t) schema aggs (front ++ xs) ≡ saved_agg k t j (other ++ ys) ++ saved_aggs (j + column_count k t) schema aggs (other ++ ys) → xs ≡ ys
tells_agg schema aggs kind.sum t tells j front other xs ys f g h k e = tells_one schema aggs _ tells j front other xs ys f g h k e
tells_agg schema aggs kind.mean dt.String tells j front other xs ys f g h k e = tells_one schema aggs dt.String tells j front other xs ys f g h k e
tells_agg schema aggs kind.mean dt.Boolean tells j front other xs ys f g h k e = tells_mean schema aggs tells j front other xs ys f g h k e
tells_agg schema aggs kind.mean dt.Int8 tells j front other xs ys f g h k e = tells_mean schema aggs tells j front other xs ys f g h k e
tells_agg schema aggs kind.mean dt.Int16 tells j front other xs ys f g h k e = tells_mean schema aggs tells j front other xs ys f g h k e
tells_agg schema aggs kind.mean dt.Int32 tells j front other xs ys f g h k e = tells_mean schema aggs tells j front other xs ys f g h k e
tells_agg schema aggs kind.mean dt.Int64 tells j front other xs ys f g h k e = tells_mean schema aggs tells j front other xs ys f g h k e
tells_agg schema aggs kind.mean dt.UInt8 tells j front other xs ys f g h k e = tells_mean schema aggs tells j front other xs ys f g h k e
tells_agg schema aggs kind.mean dt.UInt16 tells j front other xs ys f g h k e = tells_mean schema aggs tells j front other xs ys f g h k e
tells_agg schema aggs kind.mean dt.UInt32 tells j front other xs ys f g h k e = tells_mean schema aggs tells j front other xs ys f g h k e
tells_agg schema aggs kind.mean dt.UInt64 tells j front other xs ys f g h k e = tells_mean schema aggs tells j front other xs ys f g h k e
tells_agg schema aggs kind.mean dt.Int128 tells j front other xs ys f g h k e = tells_mean schema aggs tells j front other xs ys f g h k e
tells_agg schema aggs kind.mean dt.Date tells j front other xs ys f g h k e = tells_mean schema aggs tells j front other xs ys f g h k e
tells_agg schema aggs kind.min t tells j front other xs ys f g h k e = tells_one schema aggs t tells j front other xs ys f g h k e
tells_agg schema aggs kind.max t tells j front other xs ys f g h k e = tells_one schema aggs t tells j front other xs ys f g h k e
tells_agg schema aggs kind.first t tells j front other xs ys f g h k e = tells_one schema aggs t tells j front other xs ys f g h k e
tells_agg schema aggs kind.last t tells j front other xs ys f g h k e = tells_one schema aggs t tells j front other xs ys f g h k e
tells_agg schema aggs kind.count t tells j front other xs ys f g h k e = tells_one schema aggs dt.UInt32 tells j front other xs ys f g h k e
tells_agg schema aggs kind.len t tells j front other xs ys f g h k e = tells_one schema aggs dt.UInt32 tells j front other xs ys f g h k e

-- so what is saved tells all results
tells_all : (schema : List Field) (aggs : List AggTree) → Tells schema aggs
tells_all schema [] j front other [] [] f g h k e = refl
tells_all schema [] j front other [] (y ∷ ys) f g h k e = absurd k
tells_all schema [] j front other (x ∷ xs) ys f g h k e = absurd h
tells_all schema (a ∷ aggs) j front other xs ys f g h k e = tells_agg schema aggs a.kind (input_type schema a.input) (tells_all schema aggs) j front other xs ys f g h k e

-- ---- rows

-- counts as values tell the counts
same-count : (m n : ℕ) → counted m ≡ counted n → m ≡ n
same-count m n e = cc

-- rows of a query that are saved alike are one
row_once : (q : QueryTree) (a b : StateRow) → IsRowOf q a → IsRowOf q b → saved_row q a ≡ saved_row q b → a ≡ b
row_once q a b h k e =
    let first : a.first ≡ b.first = ap (λ (s : SpillRow). s.place) e in
    let key : a.key ≡ b.key = codes_injective (key_types q) a.key b.key h.key.of_types k.key.of_types (ap (λ (s : SpillRow). s.key) e) in
    let values = ap (λ (s : SpillRow). s.values) e in
    let chunk : a.last.chunk ≡ b.last.chunk = same-count a.last.chunk b.last.chunk (ap (head_or av.Null) values) in
    let row : a.last.row ≡ b.last.row = same-count a.last.row b.last.row (ap (λ (l : List AnyValue). head_or av.Null (rest_of l)) values) in
    let rows : a.rows ≡ b.rows = same-count a.rows b.rows (ap (λ (l : List AnyValue). head_or av.Null (rest_of (rest_of l))) values) in
    let results : a.results ≡ b.results = tells_all q.schema q.aggs 0 [] [] a.results b.results refl refl h.results.of_types k.results.of_types (ap (λ (l : List AnyValue). rest_of (rest_of (rest_of l))) values) in
    λ i. record { key = key i; first = first i; last = record { chunk = chunk i; row = row i }; rows = rows i; results = results i }

-- and so are lists of them
rows_once : (q : QueryTree) (xs ys : List StateRow) → All (IsRowOf q) xs → All (IsRowOf q) ys → map (saved_row q) xs ≡ map (saved_row q) ys → xs ≡ ys
rows_once q [] [] h k e = refl
rows_once q [] (y ∷ ys) h k e = cc
rows_once q (x ∷ xs) [] h k e = cc
rows_once q (x ∷ xs) (y ∷ ys) h k e =
    let first = row_once q x y (All-head (IsRowOf q) x xs h) (All-head (IsRowOf q) y ys k) (ap (head_or (saved_row q x)) e) in
    let rest = rows_once q xs ys (All-tail (IsRowOf q) x xs h) (All-tail (IsRowOf q) y ys k) (ap rest_of e) in
    λ i. first i ∷ rest i

-- ---- what is saved is a row of a frame

-- what is saved of some results fits the types in which they are saved, and is in UTF-8
record IsSavedTuple (types : List DataType) (values : List AnyValue) : Type 0 where
  of_types : AreOfTypes types values
  utf8 : All HasUtf8 values

abbrev Fits : List Field → List AggTree → Type 0
Fits schema aggs =
    (j n : ℕ) (front xs : List AnyValue) → n < 2 ^ 32 → length front ≡ j → AreOfTypes (types_of schema aggs) xs → All HasUtf8 xs → can_give_all j schema aggs n (front ++ xs) ≡ true
    → IsSavedTuple (flat_map (λ a. saved_types a.kind (input_type schema a.input)) aggs) (saved_aggs j schema aggs (front ++ xs))

-- with one more column
fits_one : (schema : List Field) (aggs : List AggTree) (t : DataType) → Fits schema aggs → (j n : ℕ) (front xs : List AnyValue) → n < 2 ^ 32 → length front ≡ j
    → AreOfTypes (t ∷ types_of schema aggs) xs → All HasUtf8 xs → can_give_all (j + 1) schema aggs n (front ++ xs) ≡ true
    → IsSavedTuple (t ∷ flat_map (λ a. saved_types a.kind (input_type schema a.input)) aggs) (value_at (front ++ xs) j ∷ saved_aggs (j + 1) schema aggs (front ++ xs))
fits_one schema aggs t fits_rest j n front [] few f h u e = absurd h
fits_one schema aggs t fits_rest j n front (v ∷ xs) few f h u e =
    let here : value_at (front ++ v ∷ xs) j ≡ v = value-first front v xs j f in
    let whole : (front ++ v ∷ []) ++ xs ≡ front ++ v ∷ xs = append_assoc front (v ∷ []) xs in
    let rest = fits_rest (j + 1) n (front ++ v ∷ []) xs few (length-append front (v ∷ []) ∙ ap (λ (m : ℕ). m + 1) f) h.1 (All-tail HasUtf8 v xs u) (ap (can_give_all (j + 1) schema aggs n) whole ∙ e) in
    let behind : List AnyValue = saved_aggs (j + 1) schema aggs (front ++ v ∷ xs) in
    record {
      of_types = (ap (λ (w : AnyValue). fits w t) here ∙ h.0, subst (λ (l : List AnyValue). AreOfTypes (flat_map (λ a. saved_types a.kind (input_type schema a.input)) aggs) (saved_aggs (j + 1) schema aggs l)) whole rest.of_types);
      utf8 = All-cons HasUtf8 (value_at (front ++ v ∷ xs) j) behind (subst HasUtf8 (sym here) (All-head HasUtf8 v xs u)) (subst (λ (l : List AnyValue). All HasUtf8 (saved_aggs (j + 1) schema aggs l)) whole rest.utf8);
    }

-- halves are no texts
high-utf8 : (v : AnyValue) → HasUtf8 (high_half v)
high-utf8 av.Null = tt
high-utf8 (av.Boolean b) = tt
high-utf8 (av.Int n) = tt
high-utf8 (av.Text s) = tt

low-utf8 : (v : AnyValue) → HasUtf8 (low_half v)
low-utf8 av.Null = tt
low-utf8 (av.Boolean b) = tt
low-utf8 (av.Int n) = tt
low-utf8 (av.Text s) = tt

-- with a mean
fits_mean : (schema : List Field) (aggs : List AggTree) → Fits schema aggs → (j n : ℕ) (front xs : List AnyValue) → n < 2 ^ 32 → length front ≡ j
    → AreOfTypes (dt.Int128 ∷ dt.UInt32 ∷ types_of schema aggs) xs → All HasUtf8 xs
    → can_give kind.mean dt.Int64 n (value_at (front ++ xs) j) (value_at (front ++ xs) (j + 1)) && can_give_all (j + 2) schema aggs n (front ++ xs) ≡ true
    → IsSavedTuple (dt.Int64 ∷ dt.UInt64 ∷ dt.UInt32 ∷ flat_map (λ a. saved_types a.kind (input_type schema a.input)) aggs)
    (high_half (value_at (front ++ xs) j) ∷ low_half (value_at (front ++ xs) j) ∷ value_at (front ++ xs) (j + 1) ∷ saved_aggs (j + 2) schema aggs (front ++ xs))
fits_mean schema aggs fits_rest j n front [] few f h u e = absurd h
fits_mean schema aggs fits_rest j n front (v ∷ []) few f h u e = absurd h.1
fits_mean schema aggs fits_rest j n front (v ∷ c ∷ xs) few f h u e =
    let here : value_at (front ++ v ∷ c ∷ xs) j ≡ v = value-first front v (c ∷ xs) j f in
    let there : value_at (front ++ v ∷ c ∷ xs) (j + 1) ≡ c = value-second front v c xs j f in
    let parts = both_true (can_give kind.mean dt.Int64 n (value_at (front ++ v ∷ c ∷ xs) j) (value_at (front ++ v ∷ c ∷ xs) (j + 1))) (can_give_all (j + 2) schema aggs n (front ++ v ∷ c ∷ xs)) e in
    let suits = both_true _ _ parts.0 in
    let halves = halves-fit n (value_at (front ++ v ∷ c ∷ xs) j) (value_at (front ++ v ∷ c ∷ xs) (j + 1)) few suits.0 suits.1 in
    let whole : (front ++ v ∷ c ∷ []) ++ xs ≡ front ++ v ∷ c ∷ xs = append_assoc front (v ∷ c ∷ []) xs in
    let rest = fits_rest (j + 2) n (front ++ v ∷ c ∷ []) xs few (length-append front (v ∷ c ∷ []) ∙ ap (λ (m : ℕ). m + 2) f) h.1.1 (All-tail HasUtf8 c xs (All-tail HasUtf8 v (c ∷ xs) u)) (ap (can_give_all (j + 2) schema aggs n) whole ∙ parts.1) in
    let behind : List AnyValue = saved_aggs (j + 2) schema aggs (front ++ v ∷ c ∷ xs) in
    let value : AnyValue = value_at (front ++ v ∷ c ∷ xs) j in
    let count : AnyValue = value_at (front ++ v ∷ c ∷ xs) (j + 1) in
    record {
      of_types = (
        halves.0,
        (
          halves.1,
          (
            ap (λ (w : AnyValue). fits w dt.UInt32) there ∙ h.1.0,
            subst (λ (l : List AnyValue). AreOfTypes (flat_map (λ a. saved_types a.kind (input_type schema a.input)) aggs) (saved_aggs (j + 2) schema aggs l)) whole rest.of_types,
          ),
        ),
      );
      utf8 = All-cons HasUtf8 (high_half value) (low_half value ∷ count ∷ behind) (high-utf8 value)
          (All-cons HasUtf8 (low_half value) (count ∷ behind) (low-utf8 value)
          (All-cons HasUtf8 count behind (subst HasUtf8 (sym there) (All-head HasUtf8 c xs (All-tail HasUtf8 v (c ∷ xs) u)))
          (subst (λ (l : List AnyValue). All HasUtf8 (saved_aggs (j + 2) schema aggs l)) whole rest.utf8)));
    }

-- with one more aggregate
fits_agg : (schema : List Field) (aggs : List AggTree) (k : Kind) (t : DataType) → Fits schema aggs → (j n : ℕ) (front xs : List AnyValue) → n < 2 ^ 32 → length front ≡ j
    → AreOfTypes (map (λ f. f.dtype) (agg_fields [] k t) ++ types_of schema aggs) xs → All HasUtf8 xs
    → can_give k t n (value_at (front ++ xs) j) (value_at (front ++ xs) (j + 1)) && can_give_all (j + column_count k t) schema aggs n (front ++ xs) ≡ true
    → IsSavedTuple (saved_types k t ++ flat_map (λ a. saved_types a.kind (input_type schema a.input)) aggs) (saved_agg k t j (front ++ xs) ++ saved_aggs (j + column_count k t) schema aggs (front ++ xs))
fits_agg schema aggs kind.sum t r j n front xs few f h u e = fits_one schema aggs _ r j n front xs few f h u (both_true _ _ e).1
fits_agg schema aggs kind.mean dt.String r j n front xs few f h u e = fits_one schema aggs dt.String r j n front xs few f h u (both_true _ _ e).1
fits_agg schema aggs kind.mean dt.Boolean r j n front xs few f h u e = fits_mean schema aggs r j n front xs few f h u e
fits_agg schema aggs kind.mean dt.Int8 r j n front xs few f h u e = fits_mean schema aggs r j n front xs few f h u e
fits_agg schema aggs kind.mean dt.Int16 r j n front xs few f h u e = fits_mean schema aggs r j n front xs few f h u e
fits_agg schema aggs kind.mean dt.Int32 r j n front xs few f h u e = fits_mean schema aggs r j n front xs few f h u e
fits_agg schema aggs kind.mean dt.Int64 r j n front xs few f h u e = fits_mean schema aggs r j n front xs few f h u e
fits_agg schema aggs kind.mean dt.UInt8 r j n front xs few f h u e = fits_mean schema aggs r j n front xs few f h u e
fits_agg schema aggs kind.mean dt.UInt16 r j n front xs few f h u e = fits_mean schema aggs r j n front xs few f h u e
fits_agg schema aggs kind.mean dt.UInt32 r j n front xs few f h u e = fits_mean schema aggs r j n front xs few f h u e
fits_agg schema aggs kind.mean dt.UInt64 r j n front xs few f h u e = fits_mean schema aggs r j n front xs few f h u e
fits_agg schema aggs kind.mean dt.Int128 r j n front xs few f h u e = fits_mean schema aggs r j n front xs few f h u e
fits_agg schema aggs kind.mean dt.Date r j n front xs few f h u e = fits_mean schema aggs r j n front xs few f h u e
fits_agg schema aggs kind.min t r j n front xs few f h u e = fits_one schema aggs t r j n front xs few f h u e
fits_agg schema aggs kind.max t r j n front xs few f h u e = fits_one schema aggs t r j n front xs few f h u e
fits_agg schema aggs kind.first t r j n front xs few f h u e = fits_one schema aggs t r j n front xs few f h u e
fits_agg schema aggs kind.last t r j n front xs few f h u e = fits_one schema aggs t r j n front xs few f h u e
fits_agg schema aggs kind.count t r j n front xs few f h u e = fits_one schema aggs dt.UInt32 r j n front xs few f h u (both_true _ _ e).1
fits_agg schema aggs kind.len t r j n front xs few f h u e = fits_one schema aggs dt.UInt32 r j n front xs few f h u (both_true _ _ e).1

-- so all results fit
fits_all : (schema : List Field) (aggs : List AggTree) → Fits schema aggs
fits_all schema [] j n front xs few f h u e = record { of_types = tt; utf8 = All-nil HasUtf8 }
fits_all schema (a ∷ aggs) j n front xs few f h u e = fits_agg schema aggs a.kind (input_type schema a.input) (fits_all schema aggs) j n front xs few f h u e

-- a count of fewer than 2^32 fits
count-fits : (n : ℕ) → n < 2 ^ 32 → fits (counted n) dt.UInt32 ≡ true
count-fits n few = lt-ltb n (2 ^ 32) few

-- the saved row of a fair row of a query is a row of a frame
pub saved_is_row : (q : QueryTree) (a b : ℕ) (r : StateRow) → b < 2 ^ 32 → r.rows < 2 ^ 32 → IsFairRow a b r → IsRowOf q r → IsRow (key_types q) (state_types q) (saved_row q r)
saved_is_row q a b r end few fair of_query =
    let first = fair.first_place.chunk.below in
    let last = fair.last_place.chunk.below in
    let results = fits_all q.schema q.aggs 0 r.rows [] r.results few refl of_query.results.of_types of_query.results.utf8 of_query.given in
    let behind : List AnyValue = saved_aggs 0 q.schema q.aggs r.results in
    record {
      chunk = omega arith;
      row = fair.first_place.row;
      key = (r.key, of_query.key, refl);
      inputs = record {
        of_types = (count-fits r.last.chunk (omega arith), (count-fits r.last.row fair.last_place.row, (count-fits r.rows few, results.of_types)));
        utf8 = All-cons HasUtf8 (counted r.last.chunk) (counted r.last.row ∷ counted r.rows ∷ behind) tt
            (All-cons HasUtf8 (counted r.last.row) (counted r.rows ∷ behind) tt (All-cons HasUtf8 (counted r.rows) behind tt results.utf8));
      };
    }

-- and those of fair rows are rows of one
pub saved_are_rows : (q : QueryTree) (a b : ℕ) (rows : List StateRow) → b < 2 ^ 32 → sum_by (λ r. r.rows) rows < 2 ^ 32 → All (IsFairRow a b) rows → All (IsRowOf q) rows
    → AreRows (key_types q) (state_types q) (map (saved_row q) rows)
saved_are_rows q a b [] end few fair of_query = All-nil (IsRow (key_types q) (state_types q))
saved_are_rows q a b (r ∷ rows) end few fair of_query =
    let sum = sum_by-cons (λ (s : StateRow). s.rows) r rows in
    All-cons (IsRow (key_types q) (state_types q)) (saved_row q r) (map (saved_row q) rows)
    (saved_is_row q a b r end (omega arith) (All-head (IsFairRow a b) r rows fair) (All-head (IsRowOf q) r rows of_query))
    (saved_are_rows q a b rows end (omega arith) (All-tail (IsFairRow a b) r rows fair) (All-tail (IsRowOf q) r rows of_query))

-- fair rows are no more than the rows they are of
fewer-rows : (a b : ℕ) (rows : List StateRow) → All (IsFairRow a b) rows → length (map (λ r. r.rows) rows) ≤ sum_by (λ r. r.rows) rows
fewer-rows a b [] fair = omega arith
fewer-rows a b (r ∷ rows) fair =
    let sum = sum_by-cons (λ (s : StateRow). s.rows) r rows in
    let one = (All-head (IsFairRow a b) r rows fair).some in
    let rest = fewer-rows a b rows (All-tail (IsFairRow a b) r rows fair) in
    omega arith

-- as many rows are saved
saved-length : (q : QueryTree) (rows : List StateRow) → length (map (saved_row q) rows) ≡ length (map (λ r. r.rows) rows)
saved-length q [] = refl
saved-length q (r ∷ rows) = let rest = saved-length q rows in omega arith

-- ---- texts

-- fair states of a query with one text are one state
pub state_once : (q : QueryTree) (s t : StateSeen) → IsFair s → IsFair t → IsStateOf q s → IsStateOf q t → state_text q s ≡ state_text q t → s ≡ t
state_once q s t f g h k e =
    let s_range = f.range in
    let s_end = f.end in
    let t_range = g.range in
    let t_end = g.end in
    let s_few = f.few in
    let t_few = g.few in
    let s_rows = fewer-rows s.first s.end s.rows f.rows in
    let t_rows = fewer-rows t.first t.end t.rows g.rows in
    let s_length = saved-length q s.rows in
    let t_length = saved-length q t.rows in
    let first : s.first ≡ t.first = four_once s.first t.first _ _ (omega arith) (omega arith) e in
    let end : s.end ≡ t.end = four_once s.end t.end _ _ s_end t_end (ap (drop 4) e) in
    let frames : frame_bytes (state_types q) (map (saved_row q) s.rows) ≡ frame_bytes (state_types q) (map (saved_row q) t.rows) = ap (drop 8) e in
    let saved : map (saved_row q) s.rows ≡ map (saved_row q) t.rows =
    frames_injective (key_types q) (state_types q) (map (saved_row q) s.rows) (map (saved_row q) t.rows)
    (saved_are_rows q s.first s.end s.rows s_end s_few f.rows h) (saved_are_rows q t.first t.end t.rows t_end t_few g.rows k) (omega arith) (omega arith) frames in
    let rows : s.rows ≡ t.rows = rows_once q s.rows t.rows h k saved in
    λ i. record { first = first i; end = end i; rows = rows i }

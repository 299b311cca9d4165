-- State rows of a query, regrouped, are state rows of the query with the kept keys.
use Rattle.std.proofs.Common.{◌≡◌, ◌∙◌, ℕ, zero, suc, ◌+◌, ◌*◌, ◌<◌, ◌≤◌, ◌^◌, ◌==◌, ◌&&◌, not, ℤ, pos, negsuc, ◌+ℤ◌, unsigned_abs, Bool, true, false, nat_le, List, [], ◌∷◌, ◌++◌, length, map, All, append_assoc, length-append, leb-true, eqb-true, refl, sym, ap, subst, arith}
use Rattle.std.specs.List.{sum_by}
use Rattle.std.proofs.lemmas.Int.{ints}
use Rattle.std.proofs.lemmas.List.Elements.{All-append, All-head, All-map, All-nil, All-tail, All-weaker}
use Rattle.std.proofs.lemmas.List.Sums.{sum_by-cons}
use Rattle.pipe_columns.specs.declared.any_value.AnyValue.{AnyValue}
use Rattle.pipe_columns.specs.declared.any_value.AnyValue.TheVariants as av
use Rattle.pipe_columns.specs.declared.data_type.DataType.{DataType}
use Rattle.pipe_columns.specs.declared.data_type.DataType.TheVariants as dt
use Rattle.pipe_columns.specs.declared.place.Place.{Place}
use Rattle.pipe_columns.specs.declared.schema.Field.{Field}
use Rattle.pipe_columns.specs.AnyValue.{fits, HasUtf8, is_null}
use Rattle.pipe_columns.specs.Frame.{value_at}
use Rattle.pipe_model.specs.Aggregate.{addend, counted, exact_sum, present, sum_if_any}
use Rattle.pipe_model.specs.Kind.{Kind}
use Rattle.pipe_model.specs.Kind as kind
use Rattle.pipe_model.specs.Output.{agg_fields, input_type}
use Rattle.pipe_model.specs.Query.{AggTree}
use Rattle.pipe_spill.specs.KeyTypes.{AreOfTypes}
use Rattle.pipe_states.specs.Fair.{can_give, can_give_all, does_sum_suit, is_count_within, is_number}
use Rattle.pipe_states.specs.Regrouped.{column_count, first_results, last_results, regrouped_agg, regrouped_aggs, results_at}
use Rattle.pipe_states.specs.declared.state_row.StateRow.{StateRow}
use Rattle.pipe_states.proofs.GoodFacts.{AreHalves, count-good, first-good, Fit, greatest-good, IsGood, IsSmall, last-good, least-good, len-good, mean-good, mean_values, size-small, small-both, small-none, sum-halves, texts-good, totals-good}
use Rattle.pipe_states.proofs.HalfFacts.{both_true}
use Rattle.pipe_states.proofs.TextFacts.{types_of, value-first}
use Rattle.pipe_states.proofs.ValueFacts.{exact_sum-cons}

-- ---- outputs one behind another

-- outputs of aggregates from a column on: of the types of the columns, and such as they can give of n rows
pub record AreGood (schema : List Field) (aggs : List AggTree) (j n : ℕ) (out : List AnyValue) : Type 0 where
  pub typed : AreOfTypes (types_of schema aggs) out
  pub utf8 : All HasUtf8 out
  pub can : (front : List AnyValue) → length front ≡ j → can_give_all j schema aggs n (front ++ out) ≡ true

-- values of joined types
pub typed-append : (ts us : List DataType) (xs ys : List AnyValue) → AreOfTypes ts xs → AreOfTypes us ys → AreOfTypes (ts ++ us) (xs ++ ys)
typed-append [] us [] ys h k = k
typed-append [] us (x ∷ xs) ys h k = absurd h
typed-append (t ∷ ts) us [] ys h k = absurd h
typed-append (t ∷ ts) us (x ∷ xs) ys h k = (h.0, typed-append ts us xs ys h.1 k)

-- as many values as types
pub typed-length : (ts : List DataType) (xs : List AnyValue) → AreOfTypes ts xs → length xs ≡ length ts
typed-length [] [] h = refl
typed-length [] (x ∷ xs) h = absurd h
typed-length (t ∷ ts) [] h = absurd h
typed-length (t ∷ ts) (x ∷ xs) h = let rest = typed-length ts xs h.1 in omega arith

-- the number of output columns is that of their types
pub columns-length : (k : Kind) (t : DataType) → length (map (λ f. f.dtype) (agg_fields [] k t)) ≡ column_count k t
columns-length k t = by (agg_fields [] k t) where
  by : (fields : List Field) → length (map (λ (f : Field). f.dtype) fields) ≡ length fields
  by [] = refl
  by (f ∷ fields) = let rest = by fields in omega arith

-- none
pub none-good : (schema : List Field) (j n : ℕ) → AreGood schema [] j n []
none-good schema j n = record { typed = tt; utf8 = All-nil HasUtf8; can = λ front e. refl }

-- and one more
pub more-good : (schema : List Field) (a : AggTree) (aggs : List AggTree) (j n : ℕ) (out others : List AnyValue) → IsGood a.kind (input_type schema a.input) n out
    → AreGood schema aggs (j + column_count a.kind (input_type schema a.input)) n others → AreGood schema (a ∷ aggs) j n (out ++ others)
more-good schema a aggs j n out others g h =
    let t : DataType = input_type schema a.input in
    record {
      typed = typed-append (map (λ f. f.dtype) (agg_fields [] a.kind t)) (types_of schema aggs) out others g.typed h.typed;
      utf8 = All-append HasUtf8 out others g.utf8 h.utf8;
      can = λ front e.
          let long : length (front ++ out) ≡ j + column_count a.kind t = length-append front out ∙ (λ i. e i + typed-length (map (λ f. f.dtype) (agg_fields [] a.kind t)) out g.typed i) ∙ ap (λ (m : ℕ). j + m) (columns-length a.kind t) in
          let one : can_give a.kind t n (value_at (front ++ (out ++ others)) j) (value_at (front ++ (out ++ others)) (j + 1)) ≡ true =
          (λ i. can_give a.kind t n (value_at (front ++ (out ++ others)) (sym e i)) (value_at (front ++ (out ++ others)) (sym e i + 1))) ∙ g.can front others in
          let rest : can_give_all (j + column_count a.kind t) schema aggs n (front ++ (out ++ others)) ≡ true =
          ap (can_give_all (j + column_count a.kind t) schema aggs n) (sym (append_assoc front out others)) ∙ h.can (front ++ out) long in
          λ i. one i && rest i;
    }

-- ---- results of state rows

-- from the output column at position j on, a state row has results of some aggregates
pub record HasGood (schema : List Field) (aggs : List AggTree) (j : ℕ) (r : StateRow) : Type 0 where
  pub front : List AnyValue
  pub back : List AnyValue
  pub long : length front ≡ j
  pub results : r.results ≡ front ++ back
  pub typed : AreOfTypes (types_of schema aggs) back
  pub utf8 : All HasUtf8 back
  pub can : can_give_all j schema aggs r.rows r.results ≡ true

-- what a column of a state row has: a value of a type
abbrev pub FitAt : DataType → ℕ → StateRow → Type 0
FitAt t j r = Fit t (value_at r.results j)

-- a column taken off
pub take_one : (schema : List Field) (aggs : List AggTree) (t : DataType) (j : ℕ) (r : StateRow) (front back : List AnyValue) → length front ≡ j → r.results ≡ front ++ back
    → AreOfTypes (t ∷ types_of schema aggs) back → All HasUtf8 back → can_give_all (j + 1) schema aggs r.rows r.results ≡ true → FitAt t j r × HasGood schema aggs (j + 1) r
take_one schema aggs t j r front [] f e h u c = absurd h
take_one schema aggs t j r front (v ∷ back) f e h u c =
    let here : value_at r.results j ≡ v = ap (λ (l : List AnyValue). value_at l j) e ∙ value-first front v back j f in (
      record { fits = ap (λ (w : AnyValue). fits w t) here ∙ h.0; utf8 = subst HasUtf8 (sym here) (All-head HasUtf8 v back u) },
      record {
        front = front ++ v ∷ [];
        back = back;
        long = length-append front (v ∷ []) ∙ ap (λ (n : ℕ). n + 1) f;
        results = e ∙ sym (append_assoc front (v ∷ []) back);
        typed = h.1;
        utf8 = All-tail HasUtf8 v back u;
        can = c;
      },
    )

-- two columns taken off
pub take_two : (schema : List Field) (aggs : List AggTree) (t u : DataType) (j : ℕ) (r : StateRow) (front back : List AnyValue) → length front ≡ j → r.results ≡ front ++ back
    → AreOfTypes (t ∷ u ∷ types_of schema aggs) back → All HasUtf8 back → can_give_all (j + 2) schema aggs r.rows r.results ≡ true → FitAt t j r × HasGood schema aggs (j + 2) r
take_two schema aggs t u j r front [] f e h w c = absurd h
take_two schema aggs t u j r front (v ∷ []) f e h w c = absurd h.1
take_two schema aggs t u j r front (v ∷ x ∷ back) f e h w c =
    let here : value_at r.results j ≡ v = ap (λ (l : List AnyValue). value_at l j) e ∙ value-first front v (x ∷ back) j f in (
      record { fits = ap (λ (y : AnyValue). fits y t) here ∙ h.0; utf8 = subst HasUtf8 (sym here) (All-head HasUtf8 v (x ∷ back) w) },
      record {
        front = front ++ v ∷ x ∷ [];
        back = back;
        long = length-append front (v ∷ x ∷ []) ∙ ap (λ (n : ℕ). n + 2) f;
        results = e ∙ sym (append_assoc front (v ∷ x ∷ []) back);
        typed = h.1.1;
        utf8 = All-tail HasUtf8 x back (All-tail HasUtf8 v (x ∷ back) w);
        can = c;
      },
    )

-- what a state row has of one aggregate: a least or greatest, first or last value of the type
abbrev pub FitOf : Kind → DataType → ℕ → StateRow → Type 0
FitOf kind.min t j r = FitAt t j r
FitOf kind.max t j r = FitAt t j r
FitOf kind.first t j r = FitAt t j r
FitOf kind.last t j r = FitAt t j r
FitOf k t j r = Unit {0}

pub record HasOne (k : Kind) (t : DataType) (j : ℕ) (r : StateRow) : Type 0 where
  fit : FitOf k t j r
  can : can_give k t r.rows (value_at r.results j) (value_at r.results (j + 1)) ≡ true

-- an aggregate taken off
pub take_agg : (schema : List Field) (aggs : List AggTree) (k : Kind) (t : DataType) (j : ℕ) (r : StateRow) (front back : List AnyValue) → length front ≡ j → r.results ≡ front ++ back
    → AreOfTypes (map (λ f. f.dtype) (agg_fields [] k t) ++ types_of schema aggs) back → All HasUtf8 back → can_give_all (j + column_count k t) schema aggs r.rows r.results ≡ true
    → FitOf k t j r × HasGood schema aggs (j + column_count k t) r
take_agg schema aggs kind.sum t j r front back f e h u c = (tt, (take_one schema aggs _ j r front back f e h u c).1)
take_agg schema aggs kind.mean dt.String j r front back f e h u c = (tt, (take_one schema aggs dt.String j r front back f e h u c).1)
take_agg schema aggs kind.mean dt.Boolean j r front back f e h u c = (tt, (take_two schema aggs dt.Int128 dt.UInt32 j r front back f e h u c).1)
take_agg schema aggs kind.mean dt.Int8 j r front back f e h u c = (tt, (take_two schema aggs dt.Int128 dt.UInt32 j r front back f e h u c).1)
take_agg schema aggs kind.mean dt.Int16 j r front back f e h u c = (tt, (take_two schema aggs dt.Int128 dt.UInt32 j r front back f e h u c).1)
take_agg schema aggs kind.mean dt.Int32 j r front back f e h u c = (tt, (take_two schema aggs dt.Int128 dt.UInt32 j r front back f e h u c).1)
take_agg schema aggs kind.mean dt.Int64 j r front back f e h u c = (tt, (take_two schema aggs dt.Int128 dt.UInt32 j r front back f e h u c).1)
take_agg schema aggs kind.mean dt.UInt8 j r front back f e h u c = (tt, (take_two schema aggs dt.Int128 dt.UInt32 j r front back f e h u c).1)
take_agg schema aggs kind.mean dt.UInt16 j r front back f e h u c = (tt, (take_two schema aggs dt.Int128 dt.UInt32 j r front back f e h u c).1)
take_agg schema aggs kind.mean dt.UInt32 j r front back f e h u c = (tt, (take_two schema aggs dt.Int128 dt.UInt32 j r front back f e h u c).1)
take_agg schema aggs kind.mean dt.UInt64 j r front back f e h u c = (tt, (take_two schema aggs dt.Int128 dt.UInt32 j r front back f e h u c).1)
take_agg schema aggs kind.mean dt.Int128 j r front back f e h u c = (tt, (take_two schema aggs dt.Int128 dt.UInt32 j r front back f e h u c).1)
take_agg schema aggs kind.mean dt.Date j r front back f e h u c = (tt, (take_two schema aggs dt.Int128 dt.UInt32 j r front back f e h u c).1)
take_agg schema aggs kind.min t j r front back f e h u c = take_one schema aggs t j r front back f e h u c
take_agg schema aggs kind.max t j r front back f e h u c = take_one schema aggs t j r front back f e h u c
take_agg schema aggs kind.first t j r front back f e h u c = take_one schema aggs t j r front back f e h u c
take_agg schema aggs kind.last t j r front back f e h u c = take_one schema aggs t j r front back f e h u c
take_agg schema aggs kind.count t j r front back f e h u c = (tt, (take_one schema aggs dt.UInt32 j r front back f e h u c).1)
take_agg schema aggs kind.len t j r front back f e h u c = (tt, (take_one schema aggs dt.UInt32 j r front back f e h u c).1)

-- so a state row has the first aggregate
pub has_one : (schema : List Field) (a : AggTree) (aggs : List AggTree) (j : ℕ) (r : StateRow) → HasGood schema (a ∷ aggs) j r → HasOne a.kind (input_type schema a.input) j r
has_one schema a aggs j r h =
    let t : DataType = input_type schema a.input in
    let parts = both_true (can_give a.kind t r.rows (value_at r.results j) (value_at r.results (j + 1))) (can_give_all (j + column_count a.kind t) schema aggs r.rows r.results) h.can in
    record { fit = (take_agg schema aggs a.kind t j r h.front h.back h.long h.results h.typed h.utf8 parts.1).0; can = parts.0 }

-- and the others behind it
pub has_rest : (schema : List Field) (a : AggTree) (aggs : List AggTree) (j : ℕ) (r : StateRow) → HasGood schema (a ∷ aggs) j r → HasGood schema aggs (j + column_count a.kind (input_type schema a.input)) r
has_rest schema a aggs j r h =
    let t : DataType = input_type schema a.input in
    let parts = both_true (can_give a.kind t r.rows (value_at r.results j) (value_at r.results (j + 1))) (can_give_all (j + column_count a.kind t) schema aggs r.rows r.results) h.can in
    (take_agg schema aggs a.kind t j r h.front h.back h.long h.results h.typed h.utf8 parts.1).1

-- ---- counts of state rows

-- the number in a count
abbrev pub count_in : AnyValue → ℕ
count_in (av.Int (pos n)) = n
count_in v = 0

-- a count within is its number
pub within-is : (n : ℕ) (v : AnyValue) → is_count_within n v ≡ true → (addend v ≡ pos (count_in v)) × (count_in v ≤ n)
within-is n (av.Int (pos m)) e = (refl, leb-true m n e)
within-is n (av.Int (negsuc m)) e = cc
within-is n av.Null e = cc
within-is n (av.Boolean b) e = cc
within-is n (av.Text s) e = cc

-- a number is one
pub number-is : (n : ℕ) (v : AnyValue) → is_number n v ≡ true → (addend v ≡ pos (count_in v)) × (count_in v ≡ n)
number-is n (av.Int (pos m)) e = (refl, eqb-true m n e)
number-is n (av.Int (negsuc m)) e = cc
number-is n av.Null e = cc
number-is n (av.Boolean b) e = cc
number-is n (av.Text s) e = cc

-- the counts in a column
abbrev pub counts_at : ℕ → List StateRow → ℕ
counts_at j rows = sum_by (λ r. count_in (value_at r.results j)) rows

-- they add up
pub counts-sum : (j : ℕ) (rows : List StateRow) → All (λ r. addend (value_at r.results j) ≡ pos (count_in (value_at r.results j))) rows → exact_sum (results_at j rows) ≡ pos (counts_at j rows)
counts-sum j [] h = refl
counts-sum j (r ∷ rows) h =
    exact_sum-cons (value_at r.results j) (results_at j rows)
    ∙ (λ i. All-head (λ (s : StateRow). addend (value_at s.results j) ≡ pos (count_in (value_at s.results j))) r rows h i
    +ℤ counts-sum j rows (All-tail (λ (s : StateRow). addend (value_at s.results j) ≡ pos (count_in (value_at s.results j))) r rows h) i)
    ∙ together (count_in (value_at r.results j)) (counts_at j rows)
    ∙ ap pos (sym (sum_by-cons (λ (s : StateRow). count_in (value_at s.results j)) r rows))
  where
    together : (m n : ℕ) → pos m +ℤ pos n ≡ pos (m + n)
    together m n = omega (arith, ints)

-- and are no more than the rows
pub counts-within : (j : ℕ) (rows : List StateRow) → All (λ r. count_in (value_at r.results j) ≤ r.rows) rows → counts_at j rows ≤ sum_by (λ r. r.rows) rows
counts-within j [] h = omega arith
counts-within j (r ∷ rows) h =
    let here = All-head (λ (s : StateRow). count_in (value_at s.results j) ≤ s.rows) r rows h in
    let rest = counts-within j rows (All-tail (λ (s : StateRow). count_in (value_at s.results j) ≤ s.rows) r rows h) in
    let left = sum_by-cons (λ (s : StateRow). count_in (value_at s.results j)) r rows in
    let right = sum_by-cons (λ (s : StateRow). s.rows) r rows in
    omega arith

-- numbers of rows are as many
pub counts-are : (j : ℕ) (rows : List StateRow) → All (λ r. count_in (value_at r.results j) ≡ r.rows) rows → counts_at j rows ≡ sum_by (λ r. r.rows) rows
counts-are j [] h = refl
counts-are j (r ∷ rows) h =
    let here = All-head (λ (s : StateRow). count_in (value_at s.results j) ≡ s.rows) r rows h in
    let rest = counts-are j rows (All-tail (λ (s : StateRow). count_in (value_at s.results j) ≡ s.rows) r rows h) in
    let left = sum_by-cons (λ (s : StateRow). count_in (value_at s.results j)) r rows in
    let right = sum_by-cons (λ (s : StateRow). s.rows) r rows in
    omega arith

-- ---- means of state rows

-- the halves of a mean of a state row
pub record HalvesAt (j : ℕ) (r : StateRow) : Type 0 where
  within : is_count_within r.rows (value_at r.results (j + 1)) ≡ true
  suits : does_sum_suit (value_at r.results j) (value_at r.results (j + 1)) ≡ true

-- what a sum and a count that go together are: null and 0, or a number and a count
pub suit-small : (v w : AnyValue) → does_sum_suit v w ≡ true → IsSmall (addend v) (count_in w)
suit-small av.Null (av.Int (pos n)) e = subst (IsSmall (pos 0)) (sym (eqb-true n 0 e)) small-none
suit-small av.Null (av.Int (negsuc n)) e = cc
suit-small av.Null av.Null e = cc
suit-small av.Null (av.Boolean b) e = cc
suit-small av.Null (av.Text s) e = cc
suit-small (av.Int z) (av.Int (pos n)) e = size-small z n (leb-true (unsigned_abs z) (n * 2 ^ 64) (both_true (not (n == 0)) (nat_le (unsigned_abs z) (n * 2 ^ 64)) e).1)
suit-small (av.Int z) (av.Int (negsuc n)) e = cc
suit-small (av.Int z) av.Null e = cc
suit-small (av.Int z) (av.Boolean b) e = cc
suit-small (av.Int z) (av.Text s) e = cc
suit-small (av.Boolean b) w e = cc
suit-small (av.Text s) w e = cc

-- so the sum of sums is small
pub sums-small : (j : ℕ) (rows : List StateRow) → All (HalvesAt j) rows → IsSmall (exact_sum (results_at j rows)) (counts_at (j + 1) rows)
sums-small j [] h = small-none
sums-small j (r ∷ rows) h =
    let rest = sums-small j rows (All-tail (HalvesAt j) r rows h) in
    let here = suit-small (value_at r.results j) (value_at r.results (j + 1)) (All-head (HalvesAt j) r rows h).suits in
    subst (λ (z : ℤ). IsSmall z (counts_at (j + 1) (r ∷ rows))) (sym (exact_sum-cons (value_at r.results j) (results_at j rows)))
    (subst (IsSmall (addend (value_at r.results j) +ℤ exact_sum (results_at j rows))) (sym (sum_by-cons (λ (s : StateRow). count_in (value_at s.results (j + 1))) r rows))
    (small-both (addend (value_at r.results j)) (exact_sum (results_at j rows)) (count_in (value_at r.results (j + 1))) (counts_at (j + 1) rows) here rest))

-- a sum that is there has a count
pub suit-some : (v w : AnyValue) → does_sum_suit v w ≡ true → is_null v ≡ false → 0 < count_in w
suit-some av.Null w e n = cc
suit-some (av.Int z) (av.Int (pos m)) e n = positive m (both_true (not (m == 0)) (nat_le (unsigned_abs z) (m * 2 ^ 64)) e).0 where
  positive : (m : ℕ) → not (m == 0) ≡ true → 0 < m
  positive zero p = cc
  positive (suc m) p = omega arith
suit-some (av.Int z) (av.Int (negsuc m)) e n = cc
suit-some (av.Int z) av.Null e n = cc
suit-some (av.Int z) (av.Boolean b) e n = cc
suit-some (av.Int z) (av.Text s) e n = cc
suit-some (av.Boolean b) w e n = cc
suit-some (av.Text s) w e n = cc

-- and one that is null has none
pub suit-none : (v w : AnyValue) → does_sum_suit v w ≡ true → is_null v ≡ true → count_in w ≡ 0
suit-none av.Null (av.Int (pos m)) e n = eqb-true m 0 e
suit-none av.Null (av.Int (negsuc m)) e n = cc
suit-none av.Null av.Null e n = refl
suit-none av.Null (av.Boolean b) e n = refl
suit-none av.Null (av.Text s) e n = refl
suit-none (av.Int z) w e n = cc
suit-none (av.Boolean b) w e n = cc
suit-none (av.Text s) w e n = cc

-- where no sum is there, no count is
pub none-counted : (j : ℕ) (rows : List StateRow) → All (HalvesAt j) rows → present (results_at j rows) ≡ [] → counts_at (j + 1) rows ≡ 0
none-counted j [] h e = refl
none-counted j (r ∷ rows) h e = by (is_null (value_at r.results j)) refl (none-counted j rows (All-tail (HalvesAt j) r rows h)) where
  by : (b : Bool) → is_null (value_at r.results j) ≡ b → (present (results_at j rows) ≡ [] → counts_at (j + 1) rows ≡ 0) → counts_at (j + 1) (r ∷ rows) ≡ 0
  by true f next =
      let none = suit-none (value_at r.results j) (value_at r.results (j + 1)) (All-head (HalvesAt j) r rows h).suits f in
      let others = next (rw f at e) in
      let sum = sum_by-cons (λ (s : StateRow). count_in (value_at s.results (j + 1))) r rows in
      omega arith
  by false f next = let g = rw f at e in cc

-- and where one is, one is
pub some-counted : (j : ℕ) (rows : List StateRow) (x : AnyValue) (xs : List AnyValue) → All (HalvesAt j) rows → present (results_at j rows) ≡ x ∷ xs → 0 < counts_at (j + 1) rows
some-counted j [] x xs h e = cc
some-counted j (r ∷ rows) x xs h e = by (is_null (value_at r.results j)) refl (some-counted j rows x xs (All-tail (HalvesAt j) r rows h)) where
  by : (b : Bool) → is_null (value_at r.results j) ≡ b → (present (results_at j rows) ≡ x ∷ xs → 0 < counts_at (j + 1) rows) → 0 < counts_at (j + 1) (r ∷ rows)
  by true f next =
      let others = next (rw f at e) in
      let sum = sum_by-cons (λ (s : StateRow). count_in (value_at s.results (j + 1))) r rows in
      omega arith
  by false f next =
      let some = suit-some (value_at r.results j) (value_at r.results (j + 1)) (All-head (HalvesAt j) r rows h).suits f in
      let sum = sum_by-cons (λ (s : StateRow). count_in (value_at s.results (j + 1))) r rows in
      omega arith

-- so the halves of means are halves
pub halves-regrouped : (j n : ℕ) (rows : List StateRow) → All (HalvesAt j) rows → sum_by (λ r. r.rows) rows ≡ n → n < 2 ^ 32
    → AreHalves (sum_if_any (present (results_at j rows))) (counts_at (j + 1) rows) n
halves-regrouped j n rows h e few =
    let le = counts-within (j + 1) rows (All-weaker (HalvesAt j) (λ r. count_in (value_at r.results (j + 1)) ≤ r.rows) (λ r g. (within-is r.rows (value_at r.results (j + 1)) g.within).1) rows h) in
    sum-halves (results_at j rows) (counts_at (j + 1) rows) n (none-counted j rows h) (λ x xs. some-counted j rows x xs h) (sums-small j rows h) (omega arith) few

-- ---- one aggregate

-- the halves of a mean over values of a type but texts
pub halves-of : (j : ℕ) (t : DataType) (rows : List StateRow) → ((r : StateRow) → can_give kind.mean t r.rows (value_at r.results j) (value_at r.results (j + 1)) ≡ is_count_within r.rows (value_at r.results (j + 1)) && does_sum_suit (value_at r.results j) (value_at r.results (j + 1)))
    → All (HasOne kind.mean t j) rows → All (HalvesAt j) rows
halves-of j t rows c h =
    All-weaker (HasOne kind.mean t j) (HalvesAt j)
    (λ r g. let parts = both_true (is_count_within r.rows (value_at r.results (j + 1))) (does_sum_suit (value_at r.results j) (value_at r.results (j + 1))) (sym (c r) ∙ g.can) in record { within = parts.0; suits = parts.1 })
    rows h

-- the column of counts is its number
pub count-column : (j : ℕ) (rows : List StateRow) → All (λ r. addend (value_at r.results j) ≡ pos (count_in (value_at r.results j))) rows → av.Int (exact_sum (results_at j rows)) ≡ counted (counts_at j rows)
count-column j rows h = ap av.Int (counts-sum j rows h)

-- what a mean makes of state rows is good
pub mean-regrouped : (j n : ℕ) (t : DataType) (rows : List StateRow) → n < 2 ^ 32 → sum_by (λ r. r.rows) rows ≡ n → All (HasOne kind.mean t j) rows → IsGood kind.mean t n (regrouped_agg kind.mean t j rows)
mean-regrouped j n t rows few e h = by t h where
  out : (t : DataType) → All (HalvesAt j) rows → IsGood kind.mean t n (mean_values t (sum_if_any (present (results_at j rows))) (av.Int (exact_sum (results_at (j + 1) rows))))
  out t g =
      subst (λ (w : AnyValue). IsGood kind.mean t n (mean_values t (sum_if_any (present (results_at j rows))) w))
      (sym (count-column (j + 1) rows (All-weaker (HalvesAt j) (λ r. addend (value_at r.results (j + 1)) ≡ pos (count_in (value_at r.results (j + 1)))) (λ r k. (within-is r.rows (value_at r.results (j + 1)) k.within).0) rows g)))
      (mean-good t (sum_if_any (present (results_at j rows))) (counts_at (j + 1) rows) n (halves-regrouped j n rows g e few) few)

  by : (t : DataType) → All (HasOne kind.mean t j) rows → IsGood kind.mean t n (regrouped_agg kind.mean t j rows)
  by dt.Boolean g = out dt.Boolean (halves-of j dt.Boolean rows (λ r. refl) g)
  by dt.Int8 g = out dt.Int8 (halves-of j dt.Int8 rows (λ r. refl) g)
  by dt.Int16 g = out dt.Int16 (halves-of j dt.Int16 rows (λ r. refl) g)
  by dt.Int32 g = out dt.Int32 (halves-of j dt.Int32 rows (λ r. refl) g)
  by dt.Int64 g = out dt.Int64 (halves-of j dt.Int64 rows (λ r. refl) g)
  by dt.UInt8 g = out dt.UInt8 (halves-of j dt.UInt8 rows (λ r. refl) g)
  by dt.UInt16 g = out dt.UInt16 (halves-of j dt.UInt16 rows (λ r. refl) g)
  by dt.UInt32 g = out dt.UInt32 (halves-of j dt.UInt32 rows (λ r. refl) g)
  by dt.UInt64 g = out dt.UInt64 (halves-of j dt.UInt64 rows (λ r. refl) g)
  by dt.Int128 g = out dt.Int128 (halves-of j dt.Int128 rows (λ r. refl) g)
  by dt.Date g = out dt.Date (halves-of j dt.Date rows (λ r. refl) g)
  by dt.String g = texts-good n

-- what an aggregate makes of state rows is good
pub regrouped-good : (k : Kind) (t : DataType) (j n : ℕ) (rows : List StateRow) → n < 2 ^ 32 → sum_by (λ r. r.rows) rows ≡ n → All (HasOne k t j) rows → IsGood k t n (regrouped_agg k t j rows)
regrouped-good kind.sum t j n rows few e h = totals-good t n (results_at j rows)
regrouped-good kind.mean t j n rows few e h = mean-regrouped j n t rows few e h
regrouped-good kind.min t j n rows few e h = least-good t n (results_at j rows) (All-map (Fit t) (λ (r : StateRow). value_at r.results j) rows (All-weaker (HasOne kind.min t j) (FitAt t j) (λ r g. g.fit) rows h))
regrouped-good kind.max t j n rows few e h = greatest-good t n (results_at j rows) (All-map (Fit t) (λ (r : StateRow). value_at r.results j) rows (All-weaker (HasOne kind.max t j) (FitAt t j) (λ r g. g.fit) rows h))
regrouped-good kind.first t j n rows few e h =
    first-good t n (first_results j rows) (All-map (λ (x : Place × AnyValue). Fit t x.1) (λ (r : StateRow). (r.first, value_at r.results j)) rows (All-weaker (HasOne kind.first t j) (FitAt t j) (λ r g. g.fit) rows h))
regrouped-good kind.last t j n rows few e h =
    last-good t n (last_results j rows) (All-map (λ (x : Place × AnyValue). Fit t x.1) (λ (r : StateRow). (r.last, value_at r.results j)) rows (All-weaker (HasOne kind.last t j) (FitAt t j) (λ r g. g.fit) rows h))
regrouped-good kind.count t j n rows few e h =
    let numbers = All-weaker (HasOne kind.count t j) (λ r. addend (value_at r.results j) ≡ pos (count_in (value_at r.results j))) (λ r g. (within-is r.rows (value_at r.results j) g.can).0) rows h in
    let le = counts-within j rows (All-weaker (HasOne kind.count t j) (λ r. count_in (value_at r.results j) ≤ r.rows) (λ r g. (within-is r.rows (value_at r.results j) g.can).1) rows h) in
    subst (λ (v : AnyValue). IsGood kind.count t n (v ∷ [])) (sym (count-column j rows numbers)) (count-good t (counts_at j rows) n (omega arith) few)
regrouped-good kind.len t j n rows few e h =
    let numbers = All-weaker (HasOne kind.len t j) (λ r. addend (value_at r.results j) ≡ pos (count_in (value_at r.results j))) (λ r g. (number-is r.rows (value_at r.results j) g.can).0) rows h in
    let same = counts-are j rows (All-weaker (HasOne kind.len t j) (λ r. count_in (value_at r.results j) ≡ r.rows) (λ r g. (number-is r.rows (value_at r.results j) g.can).1) rows h) in
    subst (λ (v : AnyValue). IsGood kind.len t n (v ∷ [])) (sym (count-column j rows numbers ∙ ap counted (same ∙ e))) (len-good t n few)

-- ---- all aggregates

-- what aggregates make of state rows is good
pub all_regrouped-good : (schema : List Field) (aggs : List AggTree) (j n : ℕ) (rows : List StateRow) → n < 2 ^ 32 → sum_by (λ r. r.rows) rows ≡ n → All (HasGood schema aggs j) rows
    → AreGood schema aggs j n (regrouped_aggs j schema aggs rows)
all_regrouped-good schema [] j n rows few e h = none-good schema j n
all_regrouped-good schema (a ∷ aggs) j n rows few e h =
    let t : DataType = input_type schema a.input in
    more-good schema a aggs j n (regrouped_agg a.kind t j rows) (regrouped_aggs (j + column_count a.kind t) schema aggs rows)
    (regrouped-good a.kind t j n rows few e (All-weaker (HasGood schema (a ∷ aggs) j) (HasOne a.kind t j) (λ r g. has_one schema a aggs j r g) rows h))
    (all_regrouped-good schema aggs (j + column_count a.kind t) n rows few e (All-weaker (HasGood schema (a ∷ aggs) j) (HasGood schema aggs (j + column_count a.kind t)) (λ r g. has_rest schema a aggs j r g) rows h))

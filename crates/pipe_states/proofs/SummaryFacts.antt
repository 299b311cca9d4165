-- State rows that stand for lists of entries come to what the lists joined come to.
use Rattle.std.proofs.Common.{◌≡◌, ◌∙◌, ℕ, suc, ◌+◌, List, [], ◌∷◌, ◌++◌, length, map, Option, Some, None, option_map, unwrap_or, append_assoc, refl, sym, ap, arith}
use Rattle.std.specs.List.{flat_map, sum_by}
use Rattle.std.specs.Option.{option_to_list}
use Rattle.std.proofs.lemmas.List.{length-append, map-append}
use Rattle.std.proofs.lemmas.List.Sums.{sum_by-cons}
use mathlib.Core.List.{map-map}
use Rattle.pipe_columns.specs.declared.any_value.AnyValue.{AnyValue}
use Rattle.pipe_columns.specs.declared.any_value.AnyValue.TheVariants as av
use Rattle.pipe_columns.specs.declared.data_type.DataType.{DataType}
use Rattle.pipe_columns.specs.declared.data_type.DataType.TheVariants as dt
use Rattle.pipe_columns.specs.declared.place.Place.{Place}
use Rattle.pipe_columns.specs.declared.schema.Field.{Field}
use Rattle.pipe_columns.specs.DataType.{sum_type}
use Rattle.pipe_columns.specs.Frame.{value_at}
use Rattle.pipe_columns.specs.Place.{first_entry, last_entry}
use Rattle.pipe_model.specs.Aggregate.{agg, counted, entry_value, exact_sum, extreme, greater, lesser, present, sum_if_any, total, values_in}
use Rattle.pipe_model.specs.Answer.{aggs_from, inputs_at}
use Rattle.pipe_model.specs.Kind.{Kind}
use Rattle.pipe_model.specs.Kind as kind
use Rattle.pipe_model.specs.Output.{input_type}
use Rattle.pipe_model.specs.Query.{AggTree, QueryTree}
use Rattle.pipe_states.specs.Regrouped.{column_count, first_results, greatest_place, last_results, least_place, regrouped_agg, regrouped_aggs, regrouped_row, results_at}
use Rattle.pipe_states.specs.States.{place_of}
use Rattle.pipe_states.specs.declared.state_row.StateRow.{StateRow}
use Rattle.pipe_states.proofs.EntryFacts.{first-map, first-of_firsts, last-map, last-of_lasts, with_value}
use Rattle.pipe_states.proofs.ValueFacts.{counts, greatests, joined, leasts, present-append, sums_if_any, through-joined, totals}

-- the inputs of rows, each at its place
abbrev pub Entries : Type 0
Entries = List (Place × List AnyValue)

-- ---- rows and lists, one to one

-- each state row with its list
abbrev pub EachFor : (StateRow → Entries → Type 0) → List StateRow → List Entries → Type 0
EachFor P [] [] = Unit {0}
EachFor P [] (es ∷ lists) = ⊥
EachFor P (r ∷ rows) [] = ⊥
EachFor P (r ∷ rows) (es ∷ lists) = P r es × EachFor P rows lists

-- what follows for each
pub each-weaker : (P Q : StateRow → Entries → Type 0) → ((r : StateRow) (es : Entries) → P r es → Q r es) → (rows : List StateRow) (lists : List Entries) → EachFor P rows lists → EachFor Q rows lists
each-weaker P Q f [] [] h = tt
each-weaker P Q f [] (es ∷ lists) h = absurd h
each-weaker P Q f (r ∷ rows) [] h = absurd h
each-weaker P Q f (r ∷ rows) (es ∷ lists) h = (f r es h.0, each-weaker P Q f rows lists h.1)

-- and of two joined
pub each-append : (P : StateRow → Entries → Type 0) (rows more : List StateRow) (lists others : List Entries) → EachFor P rows lists → EachFor P more others → EachFor P (rows ++ more) (lists ++ others)
each-append P [] more [] others h j = j
each-append P [] more (es ∷ lists) others h j = absurd h
each-append P (r ∷ rows) more [] others h j = absurd h
each-append P (r ∷ rows) more (es ∷ lists) others h j = (h.0, each-append P rows more lists others h.1 j)

module _ {A : Type 0} (P : StateRow → Entries → Type 0) where
  -- images of the rows are those of the lists where each is
  each-map : (f : StateRow → A) (g : Entries → A) → ((r : StateRow) (es : Entries) → P r es → f r ≡ g es) → (rows : List StateRow) (lists : List Entries) → EachFor P rows lists → map f rows ≡ map g lists
  each-map f g step [] [] h = refl
  each-map f g step [] (es ∷ lists) h = absurd h
  each-map f g step (r ∷ rows) [] h = absurd h
  each-map f g step (r ∷ rows) (es ∷ lists) h = λ i. step r es h.0 i ∷ each-map f g step rows lists h.1 i

  -- and images that are lists of one
  each-one : (f : StateRow → A) (g : Entries → List A) → ((r : StateRow) (es : Entries) → P r es → f r ∷ [] ≡ g es) → (rows : List StateRow) (lists : List Entries) → EachFor P rows lists → map f rows ≡ flat_map g lists
  each-one f g step [] [] h = refl
  each-one f g step [] (es ∷ lists) h = absurd h
  each-one f g step (r ∷ rows) [] h = absurd h
  each-one f g step (r ∷ rows) (es ∷ lists) h = λ i. step r es h.0 i ++ each-one f g step rows lists h.1 i

-- ---- maps

-- lists of images, joined
pub flat-image : {A B C : Type 0} (f : B → List C) (g : A → B) (xs : List A) → flat_map f (map g xs) ≡ flat_map (λ x. f (g x)) xs
flat-image f g [] = refl
flat-image f g (x ∷ xs) = ap (λ (ys : List _). f (g x) ++ ys) (flat-image f g xs)

-- what is in two options that are there
some-is : {X : Type 0} (a b : X) → Some a ≡ Some b → a ≡ b
some-is a b e = ap (λ (o : Option _). unwrap_or o a) e

-- ---- places

-- a state row has the places of some entries, and their number
pub record Spans (r : StateRow) (es : Entries) : Type 0 where
  pub first : option_map (λ e. e.0) (first_entry es) ≡ Some r.first
  pub last : option_map (λ e. e.0) (last_entry es) ≡ Some r.last
  pub count : r.rows ≡ length es

-- an entry whose value is its place
abbrev at_itself : Place × List AnyValue → Place × Place
at_itself = with_value (λ (e : Place × List AnyValue). e.0)

-- the place of such an entry is that of the entry
place_of-itself : (o : Option (Place × List AnyValue)) → place_of (option_map at_itself o) ≡ place_of o
place_of-itself None = refl
place_of-itself (Some e) = refl

-- an entry of which the place is known
one_place : (o : Option (Place × List AnyValue)) (p : Place) → option_map (λ e. e.0) o ≡ Some p → (p, p) ∷ [] ≡ option_to_list (option_map at_itself o)
one_place None p e = cc
one_place (Some x) p e = let same : x.0 ≡ p = some-is x.0 p e in λ i. (sym same i, sym same i) ∷ []

-- the least place of state rows is that of their lists joined
least-of_all : (rows : List StateRow) (lists : List Entries) → EachFor Spans rows lists → least_place (map (λ r. r.first) rows) ≡ place_of (first_entry (joined lists))
least-of_all rows lists h =
    ap (λ (l : List (Place × Place)). place_of (first_entry l))
    (map-map (λ p. (p, p)) (λ (r : StateRow). r.first) rows
    ∙ each-one Spans (λ r. (r.first, r.first)) (λ es. option_to_list (first_entry (map at_itself es)))
    (λ r es s. one_place (first_entry es) r.first s.first ∙ sym (ap option_to_list (first-map (λ (e : Place × List AnyValue). e.0) es))) rows lists h
    ∙ sym (flat-image (λ (es : List (Place × Place)). option_to_list (first_entry es)) (map at_itself) lists))
    ∙ ap place_of (first-of_firsts (map (map at_itself) lists))
    ∙ ap (λ (l : List (Place × Place)). place_of (first_entry l)) (sym (through-joined (map at_itself) refl (map-append at_itself) lists))
    ∙ ap place_of (first-map (λ (e : Place × List AnyValue). e.0) (joined lists))
    ∙ place_of-itself (first_entry (joined lists))

-- and the greatest
greatest-of_all : (rows : List StateRow) (lists : List Entries) → EachFor Spans rows lists → greatest_place (map (λ r. r.last) rows) ≡ place_of (last_entry (joined lists))
greatest-of_all rows lists h =
    ap (λ (l : List (Place × Place)). place_of (last_entry l))
    (map-map (λ p. (p, p)) (λ (r : StateRow). r.last) rows
    ∙ each-one Spans (λ r. (r.last, r.last)) (λ es. option_to_list (last_entry (map at_itself es)))
    (λ r es s. one_place (last_entry es) r.last s.last ∙ sym (ap option_to_list (last-map (λ (e : Place × List AnyValue). e.0) es))) rows lists h
    ∙ sym (flat-image (λ (es : List (Place × Place)). option_to_list (last_entry es)) (map at_itself) lists))
    ∙ ap place_of (last-of_lasts (map (map at_itself) lists))
    ∙ ap (λ (l : List (Place × Place)). place_of (last_entry l)) (sym (through-joined (map at_itself) refl (map-append at_itself) lists))
    ∙ ap place_of (last-map (λ (e : Place × List AnyValue). e.0) (joined lists))
    ∙ place_of-itself (last_entry (joined lists))

-- their rows are as many as the lists joined have
rows-of_all : (rows : List StateRow) (lists : List Entries) → EachFor Spans rows lists → sum_by (λ r. r.rows) rows ≡ length (joined lists)
rows-of_all [] [] h = refl
rows-of_all [] (es ∷ lists) h = absurd h
rows-of_all (r ∷ rows) [] h = absurd h
rows-of_all (r ∷ rows) (es ∷ lists) h =
    sum_by-cons (λ (s : StateRow). s.rows) r rows
    ∙ (λ i. h.0.count i + rows-of_all rows lists h.1 i)
    ∙ sym (length-append es (joined lists))

-- ---- the results of one aggregate

-- from the output column at position j on, a state row has certain values of some entries
record Gives (j : ℕ) (values : Entries → List AnyValue) (r : StateRow) (es : Entries) : Type 0 where
  front : List AnyValue
  rest : List AnyValue
  long : length front ≡ j
  results : r.results ≡ front ++ (values es ++ rest)
  spans : Spans r es

-- the value behind a front
pub at-front : (front rest : List AnyValue) (v : AnyValue) → value_at (front ++ v ∷ rest) (length front) ≡ v
at-front [] rest v = refl
at-front (x ∷ front) rest v = at-front front rest v

-- and the one behind it
pub at-second : (front rest : List AnyValue) (u v : AnyValue) → value_at (front ++ u ∷ v ∷ rest) (suc (length front)) ≡ v
at-second [] rest u v = refl
at-second (x ∷ front) rest u v = at-second front rest u v

-- the first of the values
first-value : (j : ℕ) (v : Entries → AnyValue) (others : Entries → List AnyValue) (r : StateRow) (es : Entries) → Gives j (λ fs. v fs ∷ others fs) r es → value_at r.results j ≡ v es
first-value j v others r es g =
    (λ i. value_at (g.results i) (sym g.long i)) ∙ at-front g.front (others es ++ g.rest) (v es)

-- the second
second-value : (j : ℕ) (u v : Entries → AnyValue) (r : StateRow) (es : Entries) → Gives j (λ fs. u fs ∷ v fs ∷ []) r es → value_at r.results (j + 1) ≡ v es
second-value j u v r es g =
    let long = g.long in
    let next : j + 1 ≡ suc (length g.front) = omega arith in
    (λ i. value_at (g.results i) (next i)) ∙ at-second g.front g.rest (u es) (v es)

module _ (j i : ℕ) where
  -- the inputs of an aggregate, as values
  abbrev fed : Entries → List AnyValue
  fed es = values_in (inputs_at i es)

  -- those of lists joined
  fed-joined : (lists : List Entries) → fed (joined lists) ≡ joined (map fed lists)
  fed-joined lists = through-joined fed refl both lists where
    both : (xs ys : Entries) → fed (xs ++ ys) ≡ fed xs ++ fed ys
    both [] ys = refl
    both (x ∷ xs) ys = ap (λ (l : List AnyValue). value_at x.1 i ∷ l) (both xs ys)

  -- the same that are no null
  present-joined : (lists : List Entries) → present (fed (joined lists)) ≡ joined (map (λ es. present (fed es)) lists)
  present-joined lists =
      ap present (fed-joined lists) ∙ through-joined present refl present-append (map fed lists) ∙ ap joined (map-map present fed lists)

  -- the column of results that are the images of inputs
  column : (f : List AnyValue → AnyValue) (rows : List StateRow) (lists : List Entries) → EachFor (Gives j (λ es. f (fed es) ∷ [])) rows lists → results_at j rows ≡ map f (map fed lists)
  column f rows lists h =
      each-map (Gives j (λ es. f (fed es) ∷ [])) (λ r. value_at r.results j) (λ es. f (fed es)) (λ r es g. first-value j (λ fs. f (fed fs)) (λ fs. []) r es g) rows lists h
      ∙ sym (map-map f fed lists)

  -- both halves of a mean
  abbrev halved : Entries → List AnyValue
  halved es = sum_if_any (present (fed es)) ∷ counted (length (present (fed es))) ∷ []

  both_halves : (rows : List StateRow) (lists : List Entries) → EachFor (Gives j halved) rows lists
      → sum_if_any (present (results_at j rows)) ∷ av.Int (exact_sum (results_at (j + 1) rows)) ∷ [] ≡ halved (joined lists)
  both_halves rows lists h = λ x. sums x ∷ numbers x ∷ [] where
    first_column : results_at j rows ≡ map (λ vs. sum_if_any (present vs)) (map fed lists)
    first_column =
        each-map (Gives j halved) (λ r. value_at r.results j) (λ es. sum_if_any (present (fed es))) (λ r es g. first-value j (λ fs. sum_if_any (present (fed fs))) (λ fs. counted (length (present (fed fs))) ∷ []) r es g) rows lists h
        ∙ sym (map-map (λ vs. sum_if_any (present vs)) fed lists)

    second_column : results_at (j + 1) rows ≡ map (λ vs. counted (length vs)) (map (λ es. present (fed es)) lists)
    second_column =
        each-map (Gives j halved) (λ r. value_at r.results (j + 1)) (λ es. counted (length (present (fed es))))
        (λ r es g. second-value j (λ fs. sum_if_any (present (fed fs))) (λ fs. counted (length (present (fed fs)))) r es g) rows lists h
        ∙ sym (map-map (λ (vs : List AnyValue). counted (length vs)) (λ es. present (fed es)) lists)

    sums : sum_if_any (present (results_at j rows)) ≡ sum_if_any (present (fed (joined lists)))
    sums = ap (λ (l : List AnyValue). sum_if_any (present l)) first_column ∙ sums_if_any (map fed lists) ∙ ap (λ (l : List AnyValue). sum_if_any (present l)) (sym (fed-joined lists))

    numbers : av.Int (exact_sum (results_at (j + 1) rows)) ≡ counted (length (present (fed (joined lists))))
    numbers =
        ap (λ (l : List AnyValue). av.Int (exact_sum l)) second_column ∙ counts (map (λ es. present (fed es)) lists)
        ∙ ap (λ (l : List AnyValue). counted (length l)) (sym (present-joined lists))

  -- the value of an input
  abbrev input : Place × List AnyValue → AnyValue
  input e = value_at e.1 i

  -- an entry of which the place and the value are known
  one_entry : (o : Option (Place × List AnyValue)) (p : Place) (v : AnyValue) → option_map (λ e. e.0) o ≡ Some p → v ≡ entry_value (option_map (with_value input) o) → (p, v) ∷ [] ≡ option_to_list (option_map (with_value input) o)
  one_entry None p v e f = cc
  one_entry (Some x) p v e f = let same : x.0 ≡ p = some-is x.0 p e in λ k. (sym same k, f k) ∷ []

  -- the inputs of lists joined
  inputs-joined : (lists : List Entries) → inputs_at i (joined lists) ≡ joined (map (inputs_at i) lists)
  inputs-joined lists = through-joined (inputs_at i) refl (map-append (with_value input)) lists

  -- the first of the first inputs
  first_column : (rows : List StateRow) (lists : List Entries) → EachFor (Gives j (λ es. entry_value (first_entry (inputs_at i es)) ∷ [])) rows lists
      → first_entry (first_results j rows) ≡ first_entry (inputs_at i (joined lists))
  first_column rows lists h =
      ap first_entry (each-one (Gives j (λ es. entry_value (first_entry (inputs_at i es)) ∷ [])) (λ r. (r.first, value_at r.results j)) (λ es. option_to_list (first_entry (inputs_at i es)))
      (λ r es g.
      one_entry (first_entry es) r.first (value_at r.results j) g.spans.first (first-value j (λ fs. entry_value (first_entry (inputs_at i fs))) (λ fs. []) r es g ∙ ap entry_value (first-map input es))
      ∙ sym (ap option_to_list (first-map input es))) rows lists h
      ∙ sym (flat-image (λ (es : List (Place × AnyValue)). option_to_list (first_entry es)) (inputs_at i) lists))
      ∙ first-of_firsts (map (inputs_at i) lists)
      ∙ ap first_entry (sym (inputs-joined lists))

  -- and the last of the last ones
  last_column : (rows : List StateRow) (lists : List Entries) → EachFor (Gives j (λ es. entry_value (last_entry (inputs_at i es)) ∷ [])) rows lists
      → last_entry (last_results j rows) ≡ last_entry (inputs_at i (joined lists))
  last_column rows lists h =
      ap last_entry (each-one (Gives j (λ es. entry_value (last_entry (inputs_at i es)) ∷ [])) (λ r. (r.last, value_at r.results j)) (λ es. option_to_list (last_entry (inputs_at i es)))
      (λ r es g.
      one_entry (last_entry es) r.last (value_at r.results j) g.spans.last (first-value j (λ fs. entry_value (last_entry (inputs_at i fs))) (λ fs. []) r es g ∙ ap entry_value (last-map input es))
      ∙ sym (ap option_to_list (last-map input es))) rows lists h
      ∙ sym (flat-image (λ (es : List (Place × AnyValue)). option_to_list (last_entry es)) (inputs_at i) lists))
      ∙ last-of_lasts (map (inputs_at i) lists)
      ∙ ap last_entry (sym (inputs-joined lists))

  -- what an aggregate gives of state rows is what it gives of their lists joined
  of_one : (k : Kind) (t : DataType) (rows : List StateRow) (lists : List Entries) → EachFor (Gives j (λ es. agg k t (inputs_at i es))) rows lists
      → regrouped_agg k t j rows ≡ agg k t (inputs_at i (joined lists))
  of_one kind.sum t rows lists h =
      ap (λ (v : AnyValue). v ∷ []) (ap (total (sum_type t)) (column (total t) rows lists h) ∙ totals t (map fed lists) ∙ ap (total t) (sym (fed-joined lists)))
  of_one kind.mean t rows lists h = by t h where
    by : (t : DataType) → EachFor (Gives j (λ es. agg kind.mean t (inputs_at i es))) rows lists → regrouped_agg kind.mean t j rows ≡ agg kind.mean t (inputs_at i (joined lists))
    by dt.Boolean g = both_halves rows lists g
    by dt.Int8 g = both_halves rows lists g
    by dt.Int16 g = both_halves rows lists g
    by dt.Int32 g = both_halves rows lists g
    by dt.Int64 g = both_halves rows lists g
    by dt.UInt8 g = both_halves rows lists g
    by dt.UInt16 g = both_halves rows lists g
    by dt.UInt32 g = both_halves rows lists g
    by dt.UInt64 g = both_halves rows lists g
    by dt.Int128 g = both_halves rows lists g
    by dt.Date g = both_halves rows lists g
    by dt.String g = refl
  of_one kind.min t rows lists h =
      ap (λ (v : AnyValue). v ∷ [])
      (ap (λ (l : List AnyValue). extreme lesser (present l)) (column (λ vs. extreme lesser (present vs)) rows lists h) ∙ leasts (map fed lists)
      ∙ ap (λ (l : List AnyValue). extreme lesser (present l)) (sym (fed-joined lists)))
  of_one kind.max t rows lists h =
      ap (λ (v : AnyValue). v ∷ [])
      (ap (λ (l : List AnyValue). extreme greater (present l)) (column (λ vs. extreme greater (present vs)) rows lists h) ∙ greatests (map fed lists)
      ∙ ap (λ (l : List AnyValue). extreme greater (present l)) (sym (fed-joined lists)))
  of_one kind.first t rows lists h = ap (λ (o : Option (Place × AnyValue)). entry_value o ∷ []) (first_column rows lists h)
  of_one kind.last t rows lists h = ap (λ (o : Option (Place × AnyValue)). entry_value o ∷ []) (last_column rows lists h)
  of_one kind.count t rows lists h =
      ap (λ (v : AnyValue). v ∷ [])
      (ap (λ (l : List AnyValue). av.Int (exact_sum l)) (column (λ vs. counted (length (present vs))) rows lists h ∙ map-map (λ (vs : List AnyValue). counted (length (present vs))) fed lists ∙ sym (map-map (λ (vs : List AnyValue). counted (length vs)) (λ es. present (fed es)) lists))
      ∙ counts (map (λ es. present (fed es)) lists)
      ∙ ap (λ (l : List AnyValue). counted (length l)) (sym (present-joined lists)))
  of_one kind.len t rows lists h =
      ap (λ (v : AnyValue). v ∷ [])
      (ap (λ (l : List AnyValue). av.Int (exact_sum l))
      (each-map (Gives j (λ es. counted (length (inputs_at i es)) ∷ [])) (λ r. value_at r.results j) (λ es. counted (length (inputs_at i es))) (λ r es g. first-value j (λ fs. counted (length (inputs_at i fs))) (λ fs. []) r es g) rows lists h
      ∙ sym (map-map (λ (es : List (Place × AnyValue)). counted (length es)) (inputs_at i) lists))
      ∙ counts (map (inputs_at i) lists)
      ∙ ap (λ (l : List (Place × AnyValue)). counted (length l)) (sym (inputs-joined lists)))

-- ---- the results of all

-- an aggregate gives a value for each of its output columns
agg-length : (k : Kind) (t : DataType) (xs : List (Place × AnyValue)) → length (agg k t xs) ≡ column_count k t
agg-length kind.sum t xs = refl
agg-length kind.mean t xs = by t where
  by : (t : DataType) → length (agg kind.mean t xs) ≡ column_count kind.mean t
  by dt.Boolean = refl
  by dt.Int8 = refl
  by dt.Int16 = refl
  by dt.Int32 = refl
  by dt.Int64 = refl
  by dt.UInt8 = refl
  by dt.UInt16 = refl
  by dt.UInt32 = refl
  by dt.UInt64 = refl
  by dt.Int128 = refl
  by dt.Date = refl
  by dt.String = refl
agg-length kind.min t xs = refl
agg-length kind.max t xs = refl
agg-length kind.first t xs = refl
agg-length kind.last t xs = refl
agg-length kind.count t xs = refl
agg-length kind.len t xs = refl

-- from the output column at position j on, a state row has the aggregates of some entries whose
-- inputs begin at position i
pub record HasResults (schema : List Field) (aggs : List AggTree) (j i : ℕ) (r : StateRow) (es : Entries) : Type 0 where
  pub front : List AnyValue
  pub long : length front ≡ j
  pub results : r.results ≡ front ++ aggs_from i schema aggs es
  pub spans : Spans r es

-- so it has the first of them
gives_first : (schema : List Field) (a : AggTree) (others : List AggTree) (j i : ℕ) (r : StateRow) (es : Entries) → HasResults schema (a ∷ others) j i r es
    → Gives j (λ fs. agg a.kind (input_type schema a.input) (inputs_at i fs)) r es
gives_first schema a others j i r es h = record { front = h.front; rest = aggs_from (i + 1) schema others es; long = h.long; results = h.results; spans = h.spans }

-- and the others behind it
has_others : (schema : List Field) (a : AggTree) (others : List AggTree) (j i : ℕ) (r : StateRow) (es : Entries) → HasResults schema (a ∷ others) j i r es
    → HasResults schema others (j + column_count a.kind (input_type schema a.input)) (i + 1) r es
has_others schema a others j i r es h =
    let values : List AnyValue = agg a.kind (input_type schema a.input) (inputs_at i es) in
    record {
      front = h.front ++ values;
      long = length-append h.front values ∙ (λ k. h.long k + agg-length a.kind (input_type schema a.input) (inputs_at i es) k);
      results = h.results ∙ sym (append_assoc h.front values (aggs_from (i + 1) schema others es));
      spans = h.spans;
    }

-- what aggregates give of state rows is what they give of their lists joined
of_all : (schema : List Field) (aggs : List AggTree) (j i : ℕ) (rows : List StateRow) (lists : List Entries) → EachFor (HasResults schema aggs j i) rows lists
    → regrouped_aggs j schema aggs rows ≡ aggs_from i schema aggs (joined lists)
of_all schema [] j i rows lists h = refl
of_all schema (a ∷ others) j i rows lists h =
    let t : DataType = input_type schema a.input in
    let one = of_one j i a.kind t rows lists (each-weaker (HasResults schema (a ∷ others) j i) (Gives j (λ es. agg a.kind t (inputs_at i es))) (gives_first schema a others j i) rows lists h) in
    let rest = of_all schema others (j + column_count a.kind t) (i + 1) rows lists
    (each-weaker (HasResults schema (a ∷ others) j i) (HasResults schema others (j + column_count a.kind t) (i + 1)) (has_others schema a others j i) rows lists h) in
    λ k. one k ++ rest k

-- ---- state rows

-- what entries of a tuple come to
abbrev pub row_of_entries : QueryTree → List AnyValue → Entries → StateRow
row_of_entries q tuple es = record {
  key = tuple;
  first = place_of (first_entry es);
  last = place_of (last_entry es);
  rows = length es;
  results = aggs_from 0 q.schema q.aggs es;
}

-- what entries come to has the results of them
pub entries_have : (q : QueryTree) (tuple : List AnyValue) (e : Place × List AnyValue) (es : Entries) → HasResults q.schema q.aggs 0 0 (row_of_entries q tuple (e ∷ es)) (e ∷ es)
entries_have q tuple e es = record { front = []; long = refl; results = refl; spans = record { first = refl; last = refl; count = refl } }

-- state rows of lists come to what the lists joined come to
pub regrouped-joined : (q : QueryTree) (tuple : List AnyValue) (rows : List StateRow) (lists : List Entries) → EachFor (HasResults q.schema q.aggs 0 0) rows lists
    → regrouped_row q tuple rows ≡ row_of_entries q tuple (joined lists)
regrouped-joined q tuple rows lists h =
    let spans = each-weaker (HasResults q.schema q.aggs 0 0) Spans (λ r es s. s.spans) rows lists h in
    let first = least-of_all rows lists spans in
    let last = greatest-of_all rows lists spans in
    let number = rows-of_all rows lists spans in
    let results = of_all q.schema q.aggs 0 0 rows lists h in
    λ k. record { key = tuple; first = first k; last = last k; rows = number k; results = results k }

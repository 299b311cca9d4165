-- Fields of a row at some places, and their values.
use Rattle.std.proofs.Common.{◌≡◌, ◌∙◌, ◌≤◌, ◌<◌, ◌+◌, ℕ, zero, suc, Bool, true, false, List, [], ◌∷◌, ◌++◌, length, map, take, get_or, Option, Some, None, Result, Ok, Err, refl, sym, ap, arith}
use Rattle.std.specs.Option.{ok_or}
use Rattle.std.specs.List.{range_with_len}
use Rattle.std.proofs.lemmas.List.{get_or-map, length-map, take_more}
use Rattle.std.proofs.lemmas.List.FromFn.{get_or-range_with_len, length-range_with_len}
use Rattle.pipe_columns.specs.declared.any_value.AnyValue.{AnyValue}
use Rattle.pipe_columns.specs.declared.any_value.AnyValue.TheVariants as av
use Rattle.pipe_columns.specs.declared.schema.Field.{Field}
use Rattle.pipe_csv.specs.Fields.{read_field}
use Rattle.pipe_csv.specs.CsvRows.{Misfit, after, field, read_fields, read_row}
use Rattle.pipe_csv.proofs.ReadFacts.{same_Ok}
use Rattle.pipe_csv.proofs.RowFacts.{row-same}
use Rattle.pipe_scan.specs.Records.{InOrder, between, cut}
use Rattle.narrow_columns.specs.Wanted.{chosen}
use Rattle.narrow_columns.proofs.WantedFacts.{chosen-map}
use Rattle.pipe_source.proofs.FieldsLeft.{row-fields}

-- the values at some places
abbrev pub values_at : List AnyValue → List ℕ → List AnyValue
values_at values places = map (λ place. get_or values place av.Null) places

-- where the field at a place begins
abbrev pub begin_of : ℕ → List ℕ → ℕ → ℕ
begin_of start ends zero = start
begin_of start ends (suc i) = get_or ends i 0 + 1

-- behind the first field the others begin as they did
begin-behind : (start e : ℕ) (es : List ℕ) (i : ℕ) → begin_of (e + 1) es i ≡ begin_of start (e ∷ es) (suc i)
begin-behind start e es zero = refl
begin-behind start e es (suc i) = refl

-- the field at a place of a text that is cut
pub cut-at : (text : List ℕ) (start : ℕ) (ends : List ℕ) (i : ℕ) → i < length ends → get_or (cut text start ends) i [] ≡ between text (begin_of start ends i) (get_or ends i 0)
cut-at text start [] i h = absurd (omega (arith, h))
cut-at text start (e ∷ es) zero h = refl
cut-at text start (e ∷ es) (suc i) h = cut-at text (e + 1) es i (omega (arith, h)) ∙ ap (λ (n : ℕ). between text n (get_or es i 0)) (begin-behind start e es i)

-- it lies within the text
pub order-at : (n start : ℕ) (ends : List ℕ) (i : ℕ) → InOrder n start ends → i < length ends → (begin_of start ends i ≤ get_or ends i 0) × (get_or ends i 0 ≤ n)
order-at n start [] i o h = absurd (omega (arith, h))
order-at n start (e ∷ es) zero o h = (o.0, o.1)
order-at n start (e ∷ es) (suc i) o h = let k = order-at n (e + 1) es i o.2 (omega (arith, h)) in rw (begin-behind start e es i) at k

-- the value of the first of some fields, and those of the others
first-value : (value : Option AnyValue) (m : Misfit) (rest : Result (List AnyValue) Misfit) (values : List AnyValue) → after (ok_or value m) rest ≡ Ok values
    → (v : AnyValue) × (vs : List AnyValue) × (value ≡ Some v) × (rest ≡ Ok vs) × (values ≡ v ∷ vs)
first-value None m rest values h = cc
first-value (Some v) m (Ok vs) values h = (v, vs, refl, refl, sym (same_Ok (v ∷ vs) values h))
first-value (Some v) m (Err e) values h = cc

-- the field at a place of a row that reads has its value
fields-at : (file row column : ℕ) (fs : List Field) (ts : List (List ℕ)) (values : List AnyValue) (i : ℕ) (d : Field) → read_fields file row column fs ts ≡ Ok values → i < length fs → i < length ts
    → read_field (get_or fs i d).dtype (get_or ts i []) ≡ Some (get_or values i av.Null)
fields-at file row column [] ts values i d h a b = absurd (omega (arith, a))
fields-at file row column (f ∷ fs) [] values i d h a b = absurd (omega (arith, b))
fields-at file row column (f ∷ fs) (t ∷ ts) values zero d h a b =
    let k = first-value (read_field f.dtype t) (field file row column) (read_fields file row (column + 1) fs ts) values h in
    rw k.4 k.2
fields-at file row column (f ∷ fs) (t ∷ ts) values (suc i) d h a b =
    let k = first-value (read_field f.dtype t) (field file row column) (read_fields file row (column + 1) fs ts) values h in
    rw k.4 (fields-at file row (column + 1) fs ts k.1 i d k.3 (omega (arith, a)) (omega (arith, b)))

-- so has one that lies between two places of a text
pub bounded-at : (file row : ℕ) (fs : List Field) (ts : List (List ℕ)) (values : List AnyValue) (i : ℕ) (d : Field) (text : List ℕ) (low high : ℕ) → read_row file row fs ts ≡ Ok values → i < length fs → get_or ts i [] ≡ between text low high
    → read_field (get_or fs i d).dtype (between text low high) ≡ Some (get_or values i av.Null)
bounded-at file row fs ts values i d text low high h a e =
    let n : length ts ≡ length fs = row-fields file row fs ts values h in
    rw e at (fields-at file row 1 fs ts values i d (sym (row-same file row fs ts n) ∙ h) a (omega (arith, n, a)))

-- all values of a list, by their places
all_values : (values : List AnyValue) (a : ℕ) (f : ℕ → AnyValue) → ((i : ℕ) → i < length values → f (a + i) ≡ get_or values i av.Null) → map f (range_with_len a (length values)) ≡ values
all_values [] a f h = refl
all_values (v ∷ vs) a f h =
    let z : a + 0 ≡ a = omega arith in
    let first : f a ≡ v = rw z at (h 0 (omega arith)) in
    let rest = all_values vs (a + 1) f (λ i l. let e : a + 1 + i ≡ a + suc i = omega arith in rw e (h (suc i) (omega (arith, l)))) in
    rw (first, rest) refl

-- so the values at the wanted places are the wanted values
pub values-chosen : (ws : List Bool) (values : List AnyValue) (n : ℕ) → length values ≡ n → values_at values (chosen ws (range_with_len 0 n)) ≡ chosen ws values
values-chosen ws values n e =
    sym (chosen-map (λ place. get_or values place av.Null) ws (range_with_len 0 n))
    ∙ ap (chosen ws) (ap (λ (m : ℕ). map (λ place. get_or values place av.Null) (range_with_len 0 m)) (sym e) ∙ all_values values 0 (λ place. get_or values place av.Null) (λ i l. let z : 0 + i ≡ i = omega arith in rw z refl))

-- of lists of one length as many are wanted
pub same-count : {A B : Type 0} (ws : List Bool) (xs : List A) (ys : List B) → length xs ≡ length ys → length (chosen ws xs) ≡ length (chosen ws ys)
same-count [] xs ys e = e
same-count (w ∷ ws) [] [] e = refl
same-count (w ∷ ws) [] (y ∷ ys) e = absurd (omega (arith, e))
same-count (w ∷ ws) (x ∷ xs) [] e = absurd (omega (arith, e))
same-count (true ∷ ws) (x ∷ xs) (y ∷ ys) e = let n = same-count ws xs ys (omega (arith, e)) in omega (arith, n)
same-count (false ∷ ws) (x ∷ xs) (y ∷ ys) e = same-count ws xs ys (omega (arith, e))

pub places-count : (ws : List Bool) (fs : List Field) → length (chosen ws (range_with_len 0 (length fs))) ≡ length (chosen ws fs)
places-count ws fs = same-count ws (range_with_len 0 (length fs)) fs (length-range_with_len 0 (length fs))

-- each place is one of the list's
places_below : (ws : List Bool) (a m n k d : ℕ) → a + m ≤ n → k < length (chosen ws (range_with_len a m)) → get_or (chosen ws (range_with_len a m)) k d < n
places_below [] a m n k d h l =
    let s : k < m = omega (arith, l, length-range_with_len a m) in
    let e = get_or-range_with_len a m k d s in
    omega (arith, e, h, s)
places_below (w ∷ ws) a zero n k d h l = absurd (omega (arith, l))
places_below (true ∷ ws) a (suc m) n zero d h l = omega (arith, h)
places_below (true ∷ ws) a (suc m) n (suc k) d h l = places_below ws (a + 1) m n k d (omega (arith, h)) (omega (arith, l))
places_below (false ∷ ws) a (suc m) n k d h l = places_below ws (a + 1) m n k d (omega (arith, h)) l

pub place-below : (ws : List Bool) (n : ℕ) (places : List ℕ) (k d : ℕ) → places ≡ chosen ws (range_with_len 0 n) → k < length places → get_or places k d < n
place-below ws n places k d e l =
    let s : k < length (chosen ws (range_with_len 0 n)) = omega (arith, l, ap length e) in
    let b = places_below ws 0 n n k d (omega arith) s in
    rw (sym e) at b

-- one more value
pub values-more : (values : List AnyValue) (places : List ℕ) (i place : ℕ) (v : AnyValue) → i < length places → place ≡ get_or places i place → v ≡ get_or values place av.Null → take (i + 1) (values_at values places) ≡ take i (values_at values places) ++ (v ∷ [])
values-more values places i place v l p e =
    let n : i < length (values_at values places) = omega (arith, l, length-map places (λ place. get_or values place av.Null)) in
    let g : get_or (values_at values places) i av.Null ≡ get_or values place av.Null = get_or-map (λ place. get_or values place av.Null) places i place av.Null l ∙ ap (λ (k : ℕ). get_or values k av.Null) (sym p) in
    take_more (values_at values places) i av.Null n ∙ ap (λ (x : AnyValue). take i (values_at values places) ++ (x ∷ [])) (g ∙ sym e)

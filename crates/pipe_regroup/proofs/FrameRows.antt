-- Rows whose values are taken out place by place, and the columns of these values.
use Rattle.std.proofs.Common.{◌≡◌, ◌∙◌, ℕ, zero, suc, ◌+◌, ◌-◌, ◌<◌, ◌≤◌, Bool, true, false, List, [], ◌∷◌, ◌++◌, length, map, get_or, set, take, All, Option, Some, None, IfNone, IsSome, refl, sym, ap, subst, arith}
use Rattle.std.specs.Cmp.Derive as derive
use Rattle.std.proofs.lemmas.Bool.{eq-eqb}
use Rattle.std.proofs.lemmas.List.{get_or-map, length-map, length-take-le, map-append, map-set, take_more}
use Rattle.std.proofs.lemmas.List.Elements.{All-cons, All-head, All-nil, All-tail}
use Rattle.pipe_columns.specs.declared.any_value.AnyValue.{AnyValue}
use Rattle.pipe_columns.specs.declared.any_value.AnyValue.TheVariants as av
use Rattle.pipe_columns.specs.declared.data_type.DataType.{DataType}
use Rattle.pipe_columns.specs.declared.schema.Field.{Field}
use Rattle.pipe_columns.specs.AnyValue.{fits, HasUtf8}
use Rattle.pipe_columns.specs.Frame.{all_fit, all_have_height, AreOfType, ColumnData, columns_from, value_at}
use Rattle.pipe_columns.proofs.FrameFacts.{changed, changed_get, changed_step}
use Rattle.pipe_spill.specs.KeyTypes.{AreOfTypes, IsTuple}
use Rattle.pipe_states.proofs.GivenStates.{utf8-at}
use Rattle.pipe_regroup.specs.declared.group.Group.{Group}
use Rattle.pipe_regroup.specs.Frames.{AreRowsOf, values_at, values_of, without}

-- ---- the value at a place

-- of the first of two lists
pub value-left : (xs ys : List AnyValue) (i : ℕ) → i < length xs → value_at xs i ≡ value_at (xs ++ ys) i
value-left [] ys i lt = absurd (omega (arith, lt))
value-left (x ∷ xs) ys zero lt = refl
value-left (x ∷ xs) ys (suc i) lt = value-left xs ys i (omega (arith, lt))

-- read at an index
pub value-is : (xs : List AnyValue) (i : ℕ) (d : AnyValue) → i < length xs → get_or xs i d ≡ value_at xs i
value-is [] i d lt = absurd (omega (arith, lt))
value-is (x ∷ xs) zero d lt = refl
value-is (x ∷ xs) (suc i) d lt = value-is xs i d (omega (arith, lt))

-- of the second
pub value-right : (xs ys : List AnyValue) (i : ℕ) → length xs ≤ i → value_at ys (i - length xs) ≡ value_at (xs ++ ys) i
value-right [] ys i le = ap (value_at ys) {x = i - 0} {y = i} (omega arith)
value-right (x ∷ xs) ys zero le = absurd (omega (arith, le))
value-right (x ∷ xs) ys (suc i) le = ap (value_at ys) {x = suc i - length (x ∷ xs)} {y = i - length xs} (omega arith) ∙ value-right xs ys i (omega (arith, le))

-- and none past the end
pub value-past : (xs : List AnyValue) (i : ℕ) → length xs ≤ i → av.Null ≡ value_at xs i
value-past [] i le = refl
value-past (x ∷ xs) zero le = absurd (omega (arith, le))
value-past (x ∷ xs) (suc i) le = value-past xs i (omega (arith, le))

pub set-past : (xs : List AnyValue) (i : ℕ) → length xs ≤ i → xs ≡ without i xs
set-past [] i le = refl
set-past (x ∷ xs) zero le = absurd (omega (arith, le))
set-past (x ∷ xs) (suc i) le = ap (λ (l : List AnyValue). x ∷ l) (set-past xs i (omega (arith, le)))

-- ---- values taken out in turn

-- a row without its first values
abbrev pub emptied : ℕ → List AnyValue → List AnyValue
emptied n row = changed (λ v. av.Null) n row

-- its next value is that of the row
next-value : (n : ℕ) (row : List AnyValue) → value_at (emptied n row) n ≡ value_at row n
next-value zero row = refl
next-value (suc n) [] = refl
next-value (suc n) (v ∷ row) = next-value n row

-- and with it taken out too
next-emptied : (n : ℕ) (row : List AnyValue) → without n (emptied n row) ≡ emptied (suc n) row
next-emptied zero [] = refl
next-emptied zero (v ∷ row) = refl
next-emptied (suc n) [] = refl
next-emptied (suc n) (v ∷ row) = ap (λ (l : List AnyValue). av.Null ∷ l) (next-emptied n row)

-- the same of rows
pub next-values : (n : ℕ) (rows : List (List AnyValue)) → values_at n (map (emptied n) rows) ≡ values_at n rows
next-values n [] = refl
next-values n (row ∷ rows) = λ i. next-value n row i ∷ next-values n rows i

pub rows-emptied : (n : ℕ) (rows : List (List AnyValue)) → map (without n) (map (emptied n) rows) ≡ map (emptied (n + 1)) rows
rows-emptied n [] = refl
rows-emptied n (row ∷ rows) =
    λ i. (next-emptied n row ∙ ap (λ (m : ℕ). emptied m row) {x = suc n} {y = n + 1} (omega arith)) i ∷ rows-emptied n rows i

pub none-emptied : (rows : List (List AnyValue)) → rows ≡ map (emptied 0) rows
none-emptied [] = refl
none-emptied (row ∷ rows) = ap (λ (l : List (List AnyValue)). row ∷ l) (none-emptied rows)

-- ---- one group more

-- one value more
values-more : (place : ℕ) (rows : List (List AnyValue)) (i : ℕ) → i < length rows → values_at place (take i rows) ++ value_at (get_or rows i []) place ∷ [] ≡ values_at place (take (i + 1) rows)
values-more place rows i lt =
    sym (ap (values_at place) (take_more rows i [] lt) ∙ map-append (λ (row : List AnyValue). value_at row place) (take i rows) (get_or rows i [] ∷ []))

module _ (place : ℕ) (old now : List Group) (i : ℕ) (d new : Group) (lt : i < length old) (many : length now ≡ length old)
    (rows : map values_of now ≡ changed (without place) i (map values_of old)) where
  there : i < length (map values_of old)
  there = let long = length-map old values_of in omega (arith, lt, long)

  own : values_of (get_or now i d) ≡ get_or (map values_of now) i []
  own = sym (get_or-map values_of now i d [] (omega (arith, lt, many)))

  before : values_of (get_or now i d) ≡ get_or (map values_of old) i []
  before = own ∙ ap (λ (l : List (List AnyValue)). get_or l i []) rows ∙ changed_get (without place) i (map values_of old) []

  -- its value comes to the others
  pub value-step : (v : AnyValue) (vs : List AnyValue) → vs ≡ values_at place (take i (map values_of old)) → v ≡ value_at (values_of (get_or now i d)) place
      → vs ++ v ∷ [] ≡ values_at place (take (i + 1) (map values_of old))
  value-step v vs e f = (λ j. e j ++ (f ∙ ap (λ (row : List AnyValue). value_at row place) before) j ∷ []) ∙ values-more place (map values_of old) i there

  -- and its row is without it
  pub row-step : values_of new ≡ without place (values_of (get_or now i d)) → map values_of (set now i new) ≡ changed (without place) (i + 1) (map values_of old)
  row-step f =
      map-set values_of now i new
      ∙ changed_step (without place) (map values_of old) (map values_of now) i [] (values_of new) there rows (f ∙ ap (without place) own)

-- ---- columns

columns_from-push : (i : ℕ) (fields : List Field) (f : Field) (rows : List (List AnyValue)) → columns_from i (fields ++ (f ∷ [])) rows ≡ columns_from i fields rows ++ columns_from (i + length fields) (f ∷ []) rows
columns_from-push i [] f rows = ap (λ (k : ℕ). columns_from k (f ∷ []) rows) (omega arith)
columns_from-push i (g ∷ gs) f rows =
    ap (λ (t : List ColumnData). columns_from i (g ∷ []) rows ++ t)
    (columns_from-push (i + 1) gs f rows ∙ ap (λ (k : ℕ). columns_from (i + 1) gs rows ++ columns_from k (f ∷ []) rows) {x = i + 1 + length gs} {y = i + length (g ∷ gs)} (omega arith))

-- the column of one more field
pub column-more : (fields : List Field) (i : ℕ) (f : Field) (rows : List (List AnyValue)) → i < length fields → f ≡ get_or fields i f
    → columns_from 0 (take i fields) rows ++ columns_from i (f ∷ []) rows ≡ columns_from 0 (take (i + 1) fields) rows
column-more fields i f rows lt is =
    let longer : take (i + 1) fields ≡ take i fields ++ (f ∷ []) = take_more fields i f lt ∙ ap (λ (x : Field). take i fields ++ (x ∷ [])) (sym is) in
    let long = length-take-le i fields (omega (arith, lt)) in
    sym
    (ap (λ (fs : List Field). columns_from 0 fs rows) longer
    ∙ columns_from-push 0 (take i fields) f rows
    ∙ ap (λ (k : ℕ). columns_from 0 (take i fields) rows ++ columns_from k (f ∷ []) rows) {x = 0 + length (take i fields)} {y = i} (omega (arith, long)))

-- each column has a value a row
pub columns-high : (i : ℕ) (fields : List Field) (rows : List (List AnyValue)) → all_have_height (length rows) (columns_from i fields rows) ≡ true
columns-high i [] rows = refl
columns-high i (f ∷ fs) rows =
    derive.both_true (eq-eqb (length (map (λ row. value_at row i) rows)) (length rows) (length-map rows (λ row. value_at row i))) (columns-high (i + 1) fs rows)

-- what is none only where a test fails is there where it passes
pub is_there : {X : Type 0} (r : Option X) (b : Bool) → IfNone r (b ≡ false) → b ≡ true → IsSome r
is_there None b e t = cc
is_there (Some x) b e t = refl

-- ---- types

-- the value at a place of a tuple is of the type there
typed-at : (types : List DataType) (row : List AnyValue) (i : ℕ) (d : DataType) → i < length types → AreOfTypes types row → fits (value_at row i) (get_or types i d) ≡ true
typed-at [] row i d lt h = absurd (omega (arith, lt))
typed-at (t ∷ types) [] i d lt h = absurd h
typed-at (t ∷ types) (v ∷ row) zero d lt h = h.0
typed-at (t ∷ types) (v ∷ row) (suc i) d lt h = typed-at types row i d (omega (arith, lt)) h.1

-- the type of the field at a place
type-of : (fields : List Field) (i : ℕ) (f : Field) (d : DataType) → i < length fields → f ≡ get_or fields i f → get_or (map (λ g. g.dtype) fields) i d ≡ f.dtype
type-of [] i f d lt is = absurd (omega (arith, lt))
type-of (g ∷ fields) zero f d lt is = ap (λ (x : Field). x.dtype) (sym is)
type-of (g ∷ fields) (suc i) f d lt is = type-of fields i f d (omega (arith, lt)) is

-- a group's row has values of the types of fields
abbrev Fits : List Field → Group → Type 0
Fits fields g = IsTuple (map (λ f. f.dtype) fields) (values_of g)

module _ (fields : List Field) (i : ℕ) (f : Field) (lt : i < length fields) (is : f ≡ get_or fields i f) where
  wide : length (map (λ (g : Field). g.dtype) fields) ≡ length fields
  wide = length-map fields (λ (g : Field). g.dtype)

  fit : (gs : List Group) → All (Fits fields) gs → all_fit f.dtype (values_at i (map values_of gs)) ≡ true
  fit [] a = refl
  fit (g ∷ gs) a =
      let here = All-head (Fits fields) g gs a in
      let long = wide in
      derive.both_true
      (subst (λ (t : DataType). fits (value_at (values_of g) i) t ≡ true) (type-of fields i f f.dtype lt is) (typed-at (map (λ x. x.dtype) fields) (values_of g) i f.dtype (omega (arith, lt, long)) here.of_types))
      (fit gs (All-tail (Fits fields) g gs a))

  utf8 : (gs : List Group) → All (Fits fields) gs → All HasUtf8 (values_at i (map values_of gs))
  utf8 [] a = All-nil HasUtf8
  utf8 (g ∷ gs) a = All-cons HasUtf8 (value_at (values_of g) i) (values_at i (map values_of gs)) (utf8-at (values_of g) i (All-head (Fits fields) g gs a).utf8) (utf8 gs (All-tail (Fits fields) g gs a))

  -- so the values at a place of rows are of its type
  pub column-typed : (groups : List Group) → AreRowsOf fields groups → AreOfType f.dtype (values_at i (map values_of groups))
  column-typed groups h = record { fit = fit groups h; utf8 = utf8 groups h }

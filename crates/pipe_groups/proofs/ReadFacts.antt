-- A key that is read value by value into columns.
use Rattle.std.proofs.Common.{◌≡◌, ◌∙◌, ℕ, zero, suc, ◌+◌, ◌<◌, List, [], ◌∷◌, ◌++◌, length, map, drop, get_or, refl, sym, ap, subst, arith}
use Rattle.std.specs.List.{All, AllZip}
use Rattle.std.proofs.lemmas.List.{append-nil, append_assoc, drop_more, length-append, length-map}
use Rattle.std.proofs.lemmas.List.Elements.{All-head, All-tail}
use Rattle.pipe_columns.specs.AnyValue.{HasUtf8}
use Rattle.pipe_columns.specs.declared.any_value.AnyValue.{AnyValue}
use Rattle.pipe_columns.specs.declared.data_type.DataType.{DataType}
use Rattle.pipe_columns.specs.declared.schema.Field.{Field}
use Rattle.pipe_columns.specs.Frame.{ColumnData, columns_from}
use Rattle.pipe_columns.specs.Key.{code, value_code}
use Rattle.pipe_spill.specs.KeyTypes.{AreOfTypes, BeginsNoValue, IsTuple, IsValue}
use Rattle.pipe_spill.specs.SpillRow.{IsKey}
use Rattle.pipe_spill.proofs.CodeOrder.{value_once}
use Rattle.pipe_groups.specs.declared.unfinished.Unfinished.{Unfinished}
use Rattle.pipe_groups.specs.Columns.{columns_of_unfinished, HaveKey, HaveKeys, IsTupleOf, types_of, with_values, with_values_at}
use Rattle.pipe_groups.specs.Reading.{IsReading}
use Rattle.pipe_groups.proofs.ColumnFacts.{with_values_at-more}
use Rattle.pipe_groups.proofs.ColumnRows.{row-more, types-from}

-- values of types are as many
pub length-types : (types : List DataType) (values : List AnyValue) → AreOfTypes types values → length values ≡ length types
length-types [] [] h = refl
length-types [] (v ∷ vs) h = absurd h
length-types (t ∷ ts) [] h = absurd h
length-types (t ∷ ts) (v ∷ vs) h = ap suc (length-types ts vs h.1)

-- the values behind some are of the types behind
types-behind : (types : List DataType) (done others : List AnyValue) → AreOfTypes types (done ++ others) → AreOfTypes (drop (length done) types) others
types-behind types [] others h = h
types-behind [] (v ∷ vs) others h = absurd h
types-behind (t ∷ ts) (v ∷ vs) others h = types-behind ts vs others h.1

utf8-behind : (done others : List AnyValue) → All HasUtf8 (done ++ others) → All HasUtf8 others
utf8-behind [] others h = h
utf8-behind (v ∷ vs) others h = utf8-behind vs others (All-tail HasUtf8 v (vs ++ others) h)

-- before the first value
pub reading-start : (before : List ColumnData) (key : List ℕ) → IsKey (types_of before) key → IsReading before key 0 before key
reading-start before key h = record {
  done = [];
  others = h.0;
  is_tuple = h.1;
  code_is = h.2;
  counted = refl;
  rest_is = h.2;
  put = refl;
}

module _ (before : List ColumnData) (key : List ℕ) (j : ℕ) (after : List ColumnData) (rest : List ℕ) (t : DataType) (h : IsReading before key j after rest)
    (lt : j < length (types_of before)) (is : get_or (types_of before) j t ≡ t) where
  -- what is left of the key is the code of a value, and of others
  record Begins : Type 0 where
    value : AnyValue
    others : List AnyValue
    split : h.others ≡ value ∷ others
    is_value : IsValue t value
    rest_is : value_code t value ++ code (drop (j + 1) (types_of before)) others ≡ rest

  begins : Begins
  begins = by h.others refl where
    first : drop j (types_of before) ≡ t ∷ drop (j + 1) (types_of before)
    first = drop_more (types_of before) j t lt ∙ ap (λ (x : DataType). x ∷ drop (j + 1) (types_of before)) is

    typed : AreOfTypes (t ∷ drop (j + 1) (types_of before)) h.others
    typed = subst (λ (ts : List DataType). AreOfTypes ts h.others) (ap (λ (k : ℕ). drop k (types_of before)) h.counted ∙ first) (types-behind (types_of before) h.done h.others h.is_tuple.of_types)

    by : (vs : List AnyValue) → h.others ≡ vs → Begins
    by [] e = absurd (subst (AreOfTypes (t ∷ drop (j + 1) (types_of before))) e typed)
    by (v ∷ vs) e = record {
      value = v;
      others = vs;
      split = e;
      is_value = record {
        fits = (subst (AreOfTypes (t ∷ drop (j + 1) (types_of before))) e typed).0;
        utf8 = All-head HasUtf8 v vs (subst (All HasUtf8) e (utf8-behind h.done h.others h.is_tuple.utf8));
      };
      rest_is = sym (ap (λ (ts : List DataType). code ts (v ∷ vs)) first) ∙ ap (code (drop j (types_of before))) (sym e) ∙ h.rest_is;
    }

  -- so it can be read
  pub reading-begins : BeginsNoValue t rest → ⊥
  reading-begins none = none begins.value (code (drop (j + 1) (types_of before)) begins.others) begins.is_value begins.rest_is

  -- one more value was read
  pub reading-more : (v : AnyValue) (left : List ℕ) (next : List ColumnData) → IsValue t v → value_code t v ++ left ≡ rest → next ≡ with_values_at j (v ∷ []) after
      → IsReading before key (j + 1) next left
  reading-more v left next value read put =
      let once = value_once t v begins.value left (code (drop (j + 1) (types_of before)) begins.others) value.fits begins.is_value.fits (read ∙ sym begins.rest_is) in
      let split : h.done ++ h.others ≡ (h.done ++ v ∷ []) ++ begins.others =
      ap (λ (vs : List AnyValue). h.done ++ vs) (begins.split ∙ ap (λ (x : AnyValue). x ∷ begins.others) (sym once.0)) ∙ sym (append_assoc h.done (v ∷ []) begins.others) in
      record {
        done = h.done ++ v ∷ [];
        others = begins.others;
        is_tuple = subst (IsTuple (types_of before)) split h.is_tuple;
        code_is = ap (code (types_of before)) (sym split) ∙ h.code_is;
        counted = length-append h.done (v ∷ []) ∙ ap (λ (k : ℕ). k + 1) h.counted;
        rest_is = sym once.1;
        put = put ∙ ap (with_values_at j (v ∷ [])) h.put ∙ with_values_at-more 0 h.done (v ∷ []) before j (omega (arith, h.counted));
      }

-- columns with more values have the same types
types-with_values : (vs : List AnyValue) (cs : List ColumnData) → types_of (with_values vs cs) ≡ types_of cs
types-with_values [] cs = refl
types-with_values (v ∷ vs) [] = refl
types-with_values (v ∷ vs) (c ∷ cs) = ap (λ (ts : List DataType). c.dtype ∷ ts) (types-with_values vs cs)

-- the type of a column
column-type : (cs : List Unfinished) (j : ℕ) (d : Unfinished) (t : DataType) → j < length cs → get_or (types_of (columns_of_unfinished cs)) j t ≡ (get_or cs j d).field.dtype
column-type [] j d t lt = absurd (omega arith)
column-type (c ∷ cs) zero d t lt = refl
column-type (c ∷ cs) (suc j) d t lt = column-type cs j d t (omega (arith, lt))

length-types_of : (cs : List Unfinished) → length (types_of (columns_of_unfinished cs)) ≡ length cs
length-types_of [] = refl
length-types_of (c ∷ cs) = ap suc (length-types_of cs)

module _ (before : List ColumnData) (key : List ℕ) (j : ℕ) (cs : List Unfinished) (rest : List ℕ) (d : Unfinished) (h : IsReading before key j (columns_of_unfinished cs) rest) (within : j < length cs) where
  same-types : types_of (columns_of_unfinished cs) ≡ types_of before
  same-types = ap types_of h.put ∙ types-with_values h.done before

  lt-types : j < length (types_of before)
  lt-types = omega (arith, within, ap length same-types, length-types_of cs)

  is-type : get_or (types_of before) j (get_or cs j d).field.dtype ≡ (get_or cs j d).field.dtype
  is-type = ap (λ (ts : List DataType). get_or ts j (get_or cs j d).field.dtype) (sym same-types) ∙ column-type cs j d (get_or cs j d).field.dtype within

  -- what is left of the key begins with a value of the column's type
  pub key-begins : BeginsNoValue (get_or cs j d).field.dtype rest → ⊥
  key-begins none = reading-begins before key j (columns_of_unfinished cs) rest (get_or cs j d).field.dtype h lt-types is-type none

  -- that value stands in the column
  pub key-more : (v : AnyValue) (left : List ℕ) (next : List ColumnData) → IsValue (get_or cs j d).field.dtype v → value_code (get_or cs j d).field.dtype v ++ left ≡ rest
      → next ≡ with_values_at j (v ∷ []) (columns_of_unfinished cs) → IsReading before key (j + 1) next left
  key-more v left next value read put = reading-more before key j (columns_of_unfinished cs) rest (get_or cs j d).field.dtype h lt-types is-type v left next value read put

-- at the end the columns have the key
pub reading-end : (before : List ColumnData) (key : List ℕ) (j : ℕ) (after : List ColumnData) (rest : List ℕ) → IsReading before key j after rest → length before ≡ j
    → HaveKey before key after
reading-end before key j after rest h all =
    let long : length (h.done ++ h.others) ≡ length (types_of before) = length-types (types_of before) (h.done ++ h.others) h.is_tuple.of_types in
    let none : h.others ≡ [] = empty h.others (omega (arith, all, long, length-map before (λ (c : ColumnData). c.dtype), h.counted, length-append h.done h.others)) in
    let split : h.done ++ h.others ≡ h.done = ap (λ (vs : List AnyValue). h.done ++ vs) none ∙ append-nil h.done in
    record {
      tuple = h.done;
      is_tuple = subst (IsTuple (types_of before)) split h.is_tuple;
      code_is = ap (code (types_of before)) (sym split) ∙ h.code_is;
      put = h.put;
    }
  where
    empty : (vs : List AnyValue) → length vs ≡ 0 → vs ≡ []
    empty [] e = refl
    empty (v ∷ vs) e = absurd (omega (arith, e))

-- ---- the columns of keys

each-more : (types : List DataType) (keys : List (List ℕ)) (rows : List (List AnyValue)) (key : List ℕ) (row : List AnyValue) → AllZip (IsTupleOf types) keys rows → IsTupleOf types key row
    → AllZip (IsTupleOf types) (keys ++ key ∷ []) (rows ++ row ∷ [])
each-more types [] [] key row h k = (k, tt)
each-more types [] (r ∷ rs) key row h k = absurd h
each-more types (q ∷ qs) [] key row h k = absurd h
each-more types (q ∷ qs) (r ∷ rs) key row h k = (h.0, each-more types qs rs key row h.1 k)

-- no keys
pub keys-none : (types : List DataType) (fields : List Field) (columns : List ColumnData) → columns ≡ columns_from 0 fields [] → HaveKeys types fields [] columns
keys-none types fields columns e = record { rows = []; each = tt; are = e }

-- one more key
pub keys-more : (types : List DataType) (fields : List Field) (keys : List (List ℕ)) (key : List ℕ) (before after : List ColumnData) → map (λ f. f.dtype) fields ≡ types
    → HaveKeys types fields keys before → HaveKey before key after → HaveKeys types fields (keys ++ key ∷ []) after
keys-more types fields keys key before after same h k =
    let typed : types_of before ≡ types = ap types_of h.are ∙ types-from 0 fields h.rows ∙ same in
    let tuple : IsTuple types k.tuple = subst (λ (ts : List DataType). IsTuple ts k.tuple) typed k.is_tuple in
    let long : length k.tuple ≡ length fields = length-types types k.tuple tuple.of_types ∙ ap length (sym same) ∙ length-map fields (λ (f : Field). f.dtype) in
    record {
      rows = h.rows ++ k.tuple ∷ [];
      each = each-more types keys h.rows key k.tuple h.each (record { is_tuple = tuple; code_is = ap (λ (ts : List DataType). code ts k.tuple) (sym typed) ∙ k.code_is });
      are = k.put ∙ ap (with_values k.tuple) h.are ∙ row-more fields k.tuple h.rows long;
    }

-- a key of the columns' types
pub key-typed : (types : List DataType) (fields : List Field) (keys : List (List ℕ)) (key : List ℕ) (before : List ColumnData) → map (λ f. f.dtype) fields ≡ types
    → HaveKeys types fields keys before → IsKey types key → IsKey (types_of before) key
key-typed types fields keys key before same h k = subst (λ (ts : List DataType). IsKey ts key) (sym (ap types_of h.are ∙ types-from 0 fields h.rows ∙ same)) k

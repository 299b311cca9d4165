-- The values of a tuple are read one by one, and other bytes may follow.
use Rattle.std.proofs.Common.{◌≡◌, ◌≢◌, ◌==◌, ◌++◌, ◌+◌, ◌<◌, ℕ, zero, suc, Bool, true, false, List, [], ◌∷◌, refl, sym, ◌∙◌, ap, subst, length, take, get_or, append_assoc, arith}
use Rattle.std.specs.Prelude.{All, IsTrue, ◌↔◌}
use Rattle.std.proofs.lemmas.Bool.{false≢true}
use Rattle.std.proofs.lemmas.Bool.Decides.{nat_tests}
use Rattle.std.proofs.lemmas.List.{append-nil, take_more}
use Rattle.std.proofs.lemmas.List.Elements.{All-head, All-nil, All-push, All-tail}
use Rattle.std.proofs.Math.Seq.{take-length}
use Rattle.pipe_columns.specs.declared.data_type.DataType.{DataType}
use Rattle.pipe_columns.specs.declared.any_value.AnyValue.{AnyValue}
use Rattle.pipe_columns.specs.AnyValue.{fits, HasUtf8}
use Rattle.pipe_columns.specs.Key.{code, value_code}
use Rattle.pipe_spill.specs.KeyTypes.{AreOfTypes, BeginsNoValue, IsCodeOfNone, IsTuple, IsValue}
use Rattle.pipe_spill.specs.Reading.{BeginsNoTuple, BeginsValue}
use Rattle.pipe_spill.specs.SpillRow.{IsKey}
use Rattle.pipe_spill.proofs.CodeOrder.{tuple_once, value_once}

-- the first i values were read, and these bytes are left
pub record IsReadTo (types : List DataType) (bytes : List ℕ) (values : List AnyValue) (rest : List ℕ) (i : ℕ) : Type 0 where
  pub of_types : AreOfTypes (take i types) values
  pub utf8 : All HasUtf8 values
  pub front : code (take i types) values ++ rest ≡ bytes

-- before the first value all bytes are left
pub read_nothing : (types : List DataType) (bytes : List ℕ) → IsReadTo types bytes [] bytes 0
read_nothing types bytes = record { of_types = tt; utf8 = All-nil HasUtf8; front = refl }

-- one more value of one more type
of_types-push : (types : List DataType) (values : List AnyValue) (t : DataType) (v : AnyValue)
    → AreOfTypes types values → fits v t ≡ true → AreOfTypes (types ++ t ∷ []) (values ++ v ∷ [])
of_types-push [] [] t v h f = (f, tt)
of_types-push [] (w ∷ values) t v h f = absurd h
of_types-push (u ∷ types) [] t v h f = absurd h
of_types-push (u ∷ types) (w ∷ values) t v h f = (h.0, of_types-push types values t v h.1 f)

-- the code of one more value stands behind that of the others
code-push : (types : List DataType) (values : List AnyValue) (t : DataType) (v : AnyValue)
    → AreOfTypes types values → code (types ++ t ∷ []) (values ++ v ∷ []) ≡ code types values ++ value_code t v
code-push [] [] t v h = append-nil (value_code t v)
code-push [] (w ∷ values) t v h = absurd h
code-push (u ∷ types) [] t v h = absurd h
code-push (u ∷ types) (w ∷ values) t v h =
    ap (λ xs. value_code u w ++ xs) (code-push types values t v h.1) ∙ sym (append_assoc (value_code u w) (code types values) (value_code t v))

-- one more value is read
pub read_one : (types : List DataType) (bytes : List ℕ) (values : List AnyValue) (rest after : List ℕ) (i : ℕ) (d : DataType) (v : AnyValue)
    → IsReadTo types bytes values rest i → i < length types
    → IsValue (get_or types i d) v → value_code (get_or types i d) v ++ after ≡ rest
    → IsReadTo types bytes (values ++ v ∷ []) after (i + 1)
read_one types bytes values rest after i d v h b f e =
    let t = get_or types i d in
    record {
      of_types = rw (take_more types i d b) (of_types-push (take i types) values t v h.of_types f.fits);
      utf8 = All-push HasUtf8 values v h.utf8 f.utf8;
      front = rw (take_more types i d b, code-push (take i types) values t v h.of_types, append_assoc (code (take i types) values) (value_code t v) after, e) h.front;
    }

-- the whole tuple was read
pub read_tuple : (types : List DataType) (bytes : List ℕ) (values : List AnyValue) (rest : List ℕ)
    → IsReadTo types bytes values rest (length types) → IsTuple types values × (code types values ++ rest ≡ bytes)
read_tuple types bytes values rest h = (
  record { of_types = subst (λ ts. AreOfTypes ts values) (take-length types) h.of_types; utf8 = h.utf8 },
  subst (λ ts. code ts values ++ rest ≡ bytes) (take-length types) h.front,
)

-- the first value of a tuple is a value of the first type, and the others are a tuple
first_value : (t : DataType) (types : List DataType) (w : AnyValue) (tuple : List AnyValue) → IsTuple (t ∷ types) (w ∷ tuple) → IsValue t w × IsTuple types tuple
first_value t types w tuple p = (
  record { fits = p.of_types.0; utf8 = All-head HasUtf8 w tuple p.utf8 },
  record { of_types = p.of_types.1; utf8 = All-tail HasUtf8 w tuple p.utf8 },
)

-- a tuple whose code the bytes begin with has a value where the next one is read
next_value : (types : List DataType) (i : ℕ) (d : DataType) (tuple values : List AnyValue) (tail rest : List ℕ) → i < length types
    → IsTuple types tuple → AreOfTypes (take i types) values → code types tuple ++ tail ≡ code (take i types) values ++ rest
    → BeginsNoValue (get_or types i d) rest → ⊥
next_value [] i d tuple values tail rest b p q e n = absurd (omega arith)
next_value (t ∷ types) i d [] values tail rest b p q e n = absurd p.of_types
next_value (t ∷ types) zero d (w ∷ tuple) [] tail rest b p q e n =
    n w (code types tuple ++ tail) (first_value t types w tuple p).0 (sym (append_assoc (value_code t w) (code types tuple) tail) ∙ e)
next_value (t ∷ types) zero d (w ∷ tuple) (v ∷ values) tail rest b p q e n = absurd q
next_value (t ∷ types) (suc i) d (w ∷ tuple) [] tail rest b p q e n = absurd q
next_value (t ∷ types) (suc i) d (w ∷ tuple) (v ∷ values) tail rest b p q e n =
    let same = value_once t w v (code types tuple ++ tail) (code (take i types) values ++ rest) p.of_types.0 q.0
    (sym (append_assoc (value_code t w) (code types tuple) tail) ∙ e ∙ append_assoc (value_code t v) (code (take i types) values) rest) in
    next_value types i d tuple values tail rest (omega arith) (first_value t types w tuple p).1 q.1 same.1 n

-- no value begins where one should
pub no_tuple : (types : List DataType) (bytes : List ℕ) (values : List AnyValue) (rest : List ℕ) (i : ℕ) (d : DataType)
    → IsReadTo types bytes values rest i → i < length types → BeginsNoValue (get_or types i d) rest → BeginsNoTuple types bytes
no_tuple types bytes values rest i d h b n tuple tail p e = next_value types i d tuple values tail rest b p h.of_types (e ∙ sym h.front) n

-- bytes that begin with no tuple's code are the code of none
pub no_code : (types : List DataType) (bytes : List ℕ) → BeginsNoTuple types bytes → IsCodeOfNone types bytes
no_code types bytes n values p e = n values [] p (append-nil (code types values) ∙ e)

-- bytes are left behind a tuple
pub no_code-left : (types : List DataType) (bytes : List ℕ) (values : List AnyValue) (rest : List ℕ)
    → IsTuple types values → code types values ++ rest ≡ bytes → rest ≢ [] → IsCodeOfNone types bytes
no_code-left types bytes values rest p e n tuple q f =
    n (sym (tuple_once types tuple values [] rest q.of_types p.of_types (append-nil (code types tuple) ∙ f ∙ sym e)).1)

-- no bytes are left behind a tuple
pub whole_code : (types : List DataType) (bytes : List ℕ) (values : List AnyValue) (rest : List ℕ)
    → code types values ++ rest ≡ bytes → rest ≡ [] → code types values ≡ bytes
whole_code types bytes values rest e n =
    sym (append-nil (code types values)) ∙ ap (λ xs. code types values ++ xs) (sym n) ∙ e

-- some values were read of a key, and these bytes are left
pub record IsKeyTo (types : List DataType) (key rest : List ℕ) (i : ℕ) : Type 0 where
  pub values : List AnyValue
  pub read : IsReadTo types key values rest i

-- one more value is passed over
pub key_more : (types : List DataType) (key rest after : List ℕ) (i : ℕ) (d : DataType) → IsKeyTo types key rest i → i < length types
    → BeginsValue (get_or types i d) rest after → IsKeyTo types key after (i + 1)
key_more types key rest after i d h b f = record {
  values = h.values ++ f.value ∷ [];
  read = read_one types key h.values rest after i d f.value h.read b f.is_value f.front;
}

-- a key from whose end nothing is left
pub is_key : (types : List DataType) (key rest : List ℕ) → IsKeyTo types key rest (length types) → rest ≡ [] → IsKey types key
is_key types key rest h e =
    let read = read_tuple types key h.values rest h.read in
    (h.values, read.0, whole_code types key h.values rest read.1 e)

-- the code of no tuple is no key
pub no_key : (types : List DataType) (key : List ℕ) → IsCodeOfNone types key → IsKey types key → ⊥
no_key types key n k = n k.0 k.1 k.2

-- bytes are left behind a key
pub no_key-left : (types : List DataType) (key rest : List ℕ) → IsKeyTo types key rest (length types) → rest ≢ [] → IsKey types key → ⊥
no_key-left types key rest h n =
    let read = read_tuple types key h.values rest h.read in
    no_key types key (no_code-left types key h.values rest read.0 read.1 n)

-- past the last type the bytes are a key exactly where none is left
pub key_decided : (types : List DataType) (key rest : List ℕ) (empty : Bool) → IsKeyTo types key rest (length types) → empty ≡ (length rest == 0) → IsTrue empty ↔ IsKey types key
key_decided types key [] empty h e = (λ t. is_key types key [] h refl, λ k. e)
key_decided types key (b ∷ rest) empty h e =
    let some : (length (b ∷ rest) == 0) ≡ false = grind (arith, nat_tests) in
    (λ t. absurd (false≢true (sym some ∙ sym e ∙ t)), λ k. absurd (no_key-left types key (b ∷ rest) h (λ n. cc) k))

-- What stands in front of bytes that begin with a value that is no text.
use Rattle.std.proofs.Common.{append_assoc, ◌≡◌, ◌∙◌, ◌<◌, ◌≤◌, ◌+◌, ◌-◌, ◌*◌, ◌++◌, ℕ, ℤ, pos, negsuc, true, false, List, [], ◌∷◌, length, length-append, drop, get_or, arith, refl, sym, ap, subst}
use Rattle.std.proofs.lemmas.List.{drop_at, drop_more}
use Rattle.std.proofs.lemmas.List.Elements.{All-head, All-tail}
use Rattle.std.proofs.lemmas.Bool.{false≢true}
use Rattle.pipe_columns.specs.declared.data_type.DataType.{DataType}
use Rattle.pipe_columns.specs.declared.data_type.DataType.TheVariants as dt
use Rattle.pipe_columns.specs.declared.any_value.AnyValue.{AnyValue}
use Rattle.pipe_columns.specs.declared.any_value.AnyValue.TheVariants as av
use Rattle.pipe_columns.specs.AnyValue.{fits, fits_number, HasUtf8, is_signed, is_unsigned}
use Rattle.pipe_columns.specs.DataType.{is_boolean, is_string}
use Rattle.pipe_columns.specs.Key.{code, number_code, signed_code, unsigned_code, value_code}
use Rattle.pipe_spill.specs.KeyTypes.{IsTuple, IsValue}
use Rattle.pipe_spill.proofs.ByteOrder.{length-bytes}
use Rattle.pipe_waiting.specs.PlainValues.{BeginsSome, body_size, code_size}
use Rattle.pipe_waiting.specs.ReadRows.{read_value}
use Rattle.pipe_waiting.proofs.ReadBack.{counted, counted-is, value_back}

-- ---- one value

-- an unsigned number has so many bytes
unsigned_size : (k b : ℕ) (z : ℤ) → is_unsigned b z ≡ true → length (unsigned_code k z) ≡ k
unsigned_size k b (pos n) h = length-bytes k n
unsigned_size k b (negsuc n) h = absurd cc

-- and a signed one
signed_size : (k b : ℕ) → 8 * k - 1 ≡ b → (z : ℤ) → is_signed b z ≡ true → length (signed_code k z) ≡ k
signed_size k b w z h = rw (w, counted-is b z h) (length-bytes k (counted b z))

-- a number of a type has the bytes of its type
number_size : (t : DataType) (z : ℤ) → fits_number z t ≡ true → length (number_code t z) ≡ body_size t
number_size dt.Boolean z h = absurd cc
number_size dt.Int8 z h = signed_size 1 7 refl z h
number_size dt.Int16 z h = signed_size 2 15 refl z h
number_size dt.Int32 z h = signed_size 4 31 refl z h
number_size dt.Int64 z h = signed_size 8 63 refl z h
number_size dt.UInt8 z h = unsigned_size 1 8 z h
number_size dt.UInt16 z h = unsigned_size 2 16 z h
number_size dt.UInt32 z h = unsigned_size 4 32 z h
number_size dt.UInt64 z h = unsigned_size 8 64 z h
number_size dt.Int128 z h = signed_size 16 127 refl z h
number_size dt.Date z h = signed_size 4 31 refl z h
number_size dt.String z h = absurd cc

-- where a type holds truth values they have one byte
truth_size : (t : DataType) → is_boolean t ≡ true → body_size t ≡ 1
truth_size dt.Boolean h = refl
truth_size dt.Int8 h = absurd cc
truth_size dt.Int16 h = absurd cc
truth_size dt.Int32 h = absurd cc
truth_size dt.Int64 h = absurd cc
truth_size dt.UInt8 h = absurd cc
truth_size dt.UInt16 h = absurd cc
truth_size dt.UInt32 h = absurd cc
truth_size dt.UInt64 h = absurd cc
truth_size dt.Int128 h = absurd cc
truth_size dt.Date h = absurd cc
truth_size dt.String h = absurd cc

-- bytes begin with the code of a value, which is read from them, and what follows stands behind its size
pub record IsFront (t : DataType) (v : AnyValue) (tail bytes : List ℕ) : Type 0 where
  pub some : 0 < length bytes
  pub room : code_size t bytes ≤ length bytes
  pub behind : drop (code_size t bytes) bytes ≡ tail
  pub value : (read_value t bytes).0 ≡ v

-- a mark and a body of the size of the type
marked : (t : DataType) (v : AnyValue) (body tail : List ℕ) → length body ≡ body_size t → value_code t v ≡ 1 ∷ body → fits v t ≡ true → IsFront t v tail (1 ∷ (body ++ tail))
marked t v body tail size e f =
    let all : length (body ++ tail) ≡ length body + length tail = length-append body tail in
    record {
      some = omega arith;
      room = omega (arith, size, all);
      behind = drop_at body tail (body_size t) size;
      value = ap (λ (l : List ℕ). (read_value t (l ++ tail)).0) (sym e) ∙ ap (λ (r : AnyValue × List ℕ). r.0) (value_back t v tail f);
    }

-- the code of a value that is no text, and other bytes
own_front : (t : DataType) (v : AnyValue) (tail : List ℕ) → is_string t ≡ false → fits v t ≡ true → IsFront t v tail (value_code t v ++ tail)
own_front t av.Null tail p f = record { some = omega arith; room = omega arith; behind = refl; value = refl }
own_front t (av.Boolean true) tail p f = marked t (av.Boolean true) (1 ∷ []) tail (sym (truth_size t f)) refl f
own_front t (av.Boolean false) tail p f = marked t (av.Boolean false) (0 ∷ []) tail (sym (truth_size t f)) refl f
own_front t (av.Int z) tail p f = marked t (av.Int z) (number_code t z) tail (number_size t z f) refl f
own_front t (av.Text s) tail p f = absurd (false≢true (sym p ∙ f))

-- and where the bytes are these
pub front_of : (t : DataType) (v : AnyValue) (tail bytes : List ℕ) → is_string t ≡ false → fits v t ≡ true → value_code t v ++ tail ≡ bytes → IsFront t v tail bytes
front_of t v tail bytes p f e = subst (λ (l : List ℕ). IsFront t v tail l) e (own_front t v tail p f)

-- ---- the first value of a tuple

-- bytes begin with a value of a type, and behind it with a tuple of the other types
pub record BeginsNext (t : DataType) (types : List DataType) (bytes : List ℕ) : Type 0 where
  pub value : AnyValue
  pub is : IsValue t value
  pub rest : List ℕ
  pub code : value_code t value ++ rest ≡ bytes
  pub front : IsFront t value rest bytes
  pub begins : BeginsSome types rest

-- of a tuple that bytes begin with
first_of : (t : DataType) (types : List DataType) (values : List AnyValue) (rest bytes : List ℕ) → is_string t ≡ false → IsTuple (t ∷ types) values
    → code (t ∷ types) values ++ rest ≡ bytes → BeginsNext t types bytes
first_of t types [] rest bytes p h e = absurd h.of_types
first_of t types (v ∷ values) rest bytes p h e =
    let after : List ℕ = code types values ++ rest in
    let whole : value_code t v ++ after ≡ bytes = sym (append_assoc (value_code t v) (code types values) rest) ∙ e in
    record {
      value = v;
      is = record { fits = h.of_types.0; utf8 = All-head HasUtf8 v values h.utf8 };
      rest = after;
      code = whole;
      front = front_of t v after bytes p h.of_types.0 whole;
      begins = (rest, record { values = values; tuple = record { of_types = h.of_types.1; utf8 = All-tail HasUtf8 v values h.utf8 }; front = refl });
    }

-- and of the types from a place on
pub next_of : (types : List DataType) (i : ℕ) (d : DataType) (bytes : List ℕ) → i < length types → is_string (get_or types i d) ≡ false → BeginsSome (drop i types) bytes
    → BeginsNext (get_or types i d) (drop (i + 1) types) bytes
next_of types i d bytes lt p h =
    let t = get_or types i d in
    let at : drop i types ≡ t ∷ drop (i + 1) types = drop_more types i d lt in
    first_of t (drop (i + 1) types) h.1.values h.0 bytes p (subst (λ (ts : List DataType). IsTuple ts h.1.values) at h.1.tuple)
    (subst (λ (ts : List DataType). code ts h.1.values ++ h.0 ≡ bytes) at h.1.front)

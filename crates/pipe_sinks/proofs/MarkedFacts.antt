-- Values of one type that have one mark.
use Rattle.std.proofs.Common.{◌≡◌, ◌≢◌, ◌∙◌, ℕ, suc, ◌+◌, ◌-◌, ◌<◌, ◌≤◌, ◌^◌, ℤ, pos, negsuc, Bool, true, false, if◌then◌else◌, ◌&&◌, ◌==◌, List, [], ◌∷◌, ◌++◌, length, take, drop, get_or, refl, sym, ap, arith, subst, ltb-true, eqb-true, eq-eqb, to_z, of_z}
use Rattle.std.specs.Prelude.{nat_lt}
use Rattle.std.specs.List.{list_any}
use Rattle.std.specs.Str.{bytes_eq}
use Rattle.std.specs.Int.{w128}
use Rattle.std.specs.Int.RustNames.{FitsSigned}
use Rattle.std.proofs.lemmas.Int.{fits_signed_from_abs, ints, to_z-of_z}
use Rattle.std.proofs.lemmas.Bool.{lt-ltb}
use Rattle.std.proofs.lemmas.Cmp.{nat_list_eq_equiv}
use Rattle.std.proofs.lemmas.Slice.Eq.{bytes_eq-Decides}
use Rattle.std.proofs.lemmas.List.{append-nil, drop_all, drop-drop, drop_more, length-append, length-drop, take_all}
use Rattle.pipe_columns.specs.declared.any_value.AnyValue.{AnyValue}
use Rattle.pipe_columns.specs.declared.any_value.AnyValue.TheVariants as av
use Rattle.pipe_columns.specs.declared.data_type.DataType.{DataType}
use Rattle.pipe_columns.specs.declared.data_type.DataType.TheVariants as dt
use Rattle.pipe_columns.specs.AnyValue.{fits, fits_number, is_signed, is_unsigned}
use Rattle.pipe_columns.specs.Key.{text_code, value_code}
use Rattle.pipe_spill.proofs.Escapes.{plain}
use Rattle.pipe_sinks.specs.Marks.{begins, is_narrow, is_wide, IsSole, IsSoleValue, mark_of, number_mark, sole_code}

-- ---- numbers

-- a number of fewer bits is of no more than 64
below : (n b : ℕ) → 2 ^ b ≤ 2 ^ 64 → nat_lt n (2 ^ b) ≡ true → nat_lt n (2 ^ 64) ≡ true
below n b le e = lt-ltb n (2 ^ 64) (omega (arith, le, ltb-true n (2 ^ b) e))

signed-narrow : (b : ℕ) (n : ℤ) → 2 ^ b ≤ 2 ^ 64 → is_signed b n ≡ true → is_narrow n ≡ true
signed-narrow b (pos n) le e = below n b le e
signed-narrow b (negsuc n) le e = below n b le e

unsigned-narrow : (b : ℕ) (n : ℤ) → 2 ^ b ≤ 2 ^ 64 → is_unsigned b n ≡ true → is_narrow n ≡ true
unsigned-narrow b (pos n) le e = below n b le e
unsigned-narrow b (negsuc n) le e = cc

-- so a number of a type that isn't wide is narrow
pub narrow-fits : (t : DataType) (n : ℤ) → is_wide t ≡ false → fits_number n t ≡ true → is_narrow n ≡ true
narrow-fits dt.Boolean n w e = cc
narrow-fits dt.Int8 n w e = signed-narrow 7 n (omega arith) e
narrow-fits dt.Int16 n w e = signed-narrow 15 n (omega arith) e
narrow-fits dt.Int32 n w e = signed-narrow 31 n (omega arith) e
narrow-fits dt.Int64 n w e = signed-narrow 63 n (omega arith) e
narrow-fits dt.UInt8 n w e = unsigned-narrow 8 n (omega arith) e
narrow-fits dt.UInt16 n w e = unsigned-narrow 16 n (omega arith) e
narrow-fits dt.UInt32 n w e = unsigned-narrow 32 n (omega arith) e
narrow-fits dt.UInt64 n w e = unsigned-narrow 64 n (omega arith) e
narrow-fits dt.Int128 n w e = cc
narrow-fits dt.Date n w e = signed-narrow 31 n (omega arith) e
narrow-fits dt.String n w e = cc

-- it fits 128 bits, and is what is written of it
narrow-signed : (n : ℤ) → is_narrow n ≡ true → FitsSigned w128 n
narrow-signed (pos n) e = fits_signed_from_abs w128 (pos n) (omega (arith, ltb-true n (2 ^ 64) e))
narrow-signed (negsuc n) e = let h : n < 2 ^ 64 = ltb-true n (2 ^ 64) e in omega (arith, ints)

pub narrow-written : (n : ℤ) → is_narrow n ≡ true → is_narrow (to_z w128 (of_z w128 n)) ≡ true
narrow-written n e = ap is_narrow (to_z-of_z w128 n (narrow-signed n e)) ∙ e

-- two of one range and one mark are one
signed-once : (b : ℕ) (m n : ℤ) → 2 ^ b ≤ 2 ^ 63 → is_signed b m ≡ true → is_signed b n ≡ true → number_mark m ≡ number_mark n → m ≡ n
signed-once b (pos m) (pos n) le f g e = ap pos e
signed-once b (pos m) (negsuc n) le f g e = absurd (omega (arith, e, le, ltb-true m (2 ^ b) f, ltb-true n (2 ^ b) g))
signed-once b (negsuc m) (pos n) le f g e = absurd (omega (arith, e, le, ltb-true m (2 ^ b) f, ltb-true n (2 ^ b) g))
signed-once b (negsuc m) (negsuc n) le f g e =
    let same : m ≡ n = omega (arith, e, le, ltb-true m (2 ^ b) f, ltb-true n (2 ^ b) g) in
    ap negsuc same

unsigned-once : (b : ℕ) (m n : ℤ) → is_unsigned b m ≡ true → is_unsigned b n ≡ true → number_mark m ≡ number_mark n → m ≡ n
unsigned-once b (pos m) (pos n) f g e = ap pos e
unsigned-once b (pos m) (negsuc n) f g e = cc
unsigned-once b (negsuc m) n f g e = cc

pub number-once : (t : DataType) (m n : ℤ) → is_wide t ≡ false → fits_number m t ≡ true → fits_number n t ≡ true → number_mark m ≡ number_mark n → m ≡ n
number-once dt.Boolean m n w f g e = cc
number-once dt.Int8 m n w f g e = signed-once 7 m n (omega arith) f g e
number-once dt.Int16 m n w f g e = signed-once 15 m n (omega arith) f g e
number-once dt.Int32 m n w f g e = signed-once 31 m n (omega arith) f g e
number-once dt.Int64 m n w f g e = signed-once 63 m n (omega arith) f g e
number-once dt.UInt8 m n w f g e = unsigned-once 8 m n f g e
number-once dt.UInt16 m n w f g e = unsigned-once 16 m n f g e
number-once dt.UInt32 m n w f g e = unsigned-once 32 m n f g e
number-once dt.UInt64 m n w f g e = unsigned-once 64 m n f g e
number-once dt.Int128 m n w f g e = cc
number-once dt.Date m n w f g e = signed-once 31 m n (omega arith) f g e
number-once dt.String m n w f g e = cc

-- ---- values

-- no type has both numbers and texts, or either and truths
number-or-text : (t : DataType) (n : ℤ) (s : List ℕ) → fits (av.Int n) t ≡ true → fits (av.Text s) t ≡ true → ⊥
number-or-text dt.String n s f g = cc
number-or-text t n s f g = cc

number-or-truth : (t : DataType) (n : ℤ) (b : Bool) → fits (av.Int n) t ≡ true → fits (av.Boolean b) t ≡ true → ⊥
number-or-truth dt.Boolean n b f g = cc
number-or-truth t n b f g = cc

text-or-truth : (t : DataType) (s : List ℕ) (b : Bool) → fits (av.Text s) t ≡ true → fits (av.Boolean b) t ≡ true → ⊥
text-or-truth dt.Boolean s b f g = cc
text-or-truth t s b f g = cc

-- a truth as a mark
abbrev truth : Bool → ℕ
truth b = if b then 1 else 0

truth-once : (a b : Bool) → truth a ≡ truth b → a ≡ b
truth-once true true e = refl
truth-once false false e = refl
truth-once true false e = cc
truth-once false true e = cc

module _ (types : List DataType) (sole : IsSole types) where
  abbrev pub t : DataType
  t = sole.dtype

  -- a value of the key fits its type
  pub sole-fits : (v : AnyValue) → IsSoleValue types v → fits v t ≡ true
  sole-fits v h = (subst (λ (ts : List DataType). IsSoleValue ts v) sole.is h).0

  -- the code of a null
  pub null-code : (v : AnyValue) (bytes : List ℕ) → bytes ≡ sole_code types v → begins 0 bytes ≡ bytes_eq bytes (sole_code types av.Null)
  null-code v bytes e = rw (e, sole.is) (by v) where
    by : (w : AnyValue) → begins 0 (value_code t w ++ []) ≡ bytes_eq (value_code t w ++ []) (0 ∷ [])
    by av.Null = refl
    by (av.Boolean b) = refl
    by (av.Int n) = refl
    by (av.Text s) = refl

  -- that of a number, among those of its mark
  pub number-code : (v : AnyValue) (n : ℤ) (bytes : List ℕ) → bytes ≡ sole_code types v → IsSoleValue types v → IsSoleValue types (av.Int n) → mark_of v ≡ number_mark n
      → begins 1 bytes ≡ bytes_eq bytes (sole_code types (av.Int n))
  number-code v n bytes e f g m = rw (e, sole.is) (by v (sole-fits v f) m) where
    fit : fits_number n t ≡ true
    fit = sole-fits (av.Int n) g

    by : (w : AnyValue) → fits w t ≡ true → mark_of w ≡ number_mark n → begins 1 (value_code t w ++ []) ≡ bytes_eq (value_code t w ++ []) (value_code t (av.Int n) ++ [])
    by av.Null h q = refl
    by (av.Boolean b) h q = absurd (number-or-truth t n b fit h)
    by (av.Int k) h q = rw (number-once t k n sole.narrow h fit q) (sym (nat_list_eq_equiv.refl (value_code t (av.Int n) ++ [])))
    by (av.Text s) h q = absurd (number-or-text t n s fit h)

  -- that of a truth
  pub truth-code : (v : AnyValue) (b : Bool) (bytes : List ℕ) → bytes ≡ sole_code types v → IsSoleValue types v → IsSoleValue types (av.Boolean b) → mark_of v ≡ truth b
      → begins 1 bytes ≡ bytes_eq bytes (sole_code types (av.Boolean b))
  truth-code v b bytes e f g m = rw (e, sole.is) (by v (sole-fits v f) m) where
    fit : fits (av.Boolean b) t ≡ true
    fit = sole-fits (av.Boolean b) g

    by : (w : AnyValue) → fits w t ≡ true → mark_of w ≡ truth b → begins 1 (value_code t w ++ []) ≡ bytes_eq (value_code t w ++ []) (value_code t (av.Boolean b) ++ [])
    by av.Null h q = refl
    by (av.Boolean k) h q = rw (truth-once k b q) (sym (nat_list_eq_equiv.refl (value_code t (av.Boolean b) ++ [])))
    by (av.Int n) h q = absurd (number-or-truth t n b h fit)
    by (av.Text s) h q = absurd (text-or-truth t s b h fit)

  -- that of a text
  pub text-code : (s bytes : List ℕ) → bytes_eq bytes (1 ∷ text_code s) ≡ bytes_eq bytes (sole_code types (av.Text s))
  text-code s bytes = rw sole.is (ap (bytes_eq bytes) (sym (append-nil (1 ∷ text_code s))))

-- ---- texts

-- bytes that begin as a code goes on are followed by the rest of it
pub begins-next : (b : ℕ) (bytes rest : List ℕ) → begins b bytes ≡ true → bytes_eq bytes (b ∷ rest) ≡ bytes_eq (drop 1 bytes) rest
begins-next b [] rest h = cc
begins-next b (x ∷ xs) rest h = rw (eqb-true x b h) (ap (λ (q : Bool). q && bytes_eq xs rest) (eq-eqb b b refl))

pub begins-not : (b : ℕ) (bytes rest : List ℕ) → begins b bytes ≡ false → bytes_eq bytes (b ∷ rest) ≡ false
begins-not b [] rest h = refl
begins-not b (x ∷ xs) rest h = rw h refl

-- a list from a place on, as a slice
pub rest-of : (at : ℕ) (bytes : List ℕ) → take (length bytes - at) (drop at bytes) ≡ drop at bytes
rest-of at bytes = take_all (length bytes - at) (drop at bytes) (omega (arith, length-drop at bytes))

-- bytes are two lists joined where their front is the first and their rest the second
joined-eq : (text bytes rest : List ℕ) → (bytes_eq (take (length text) bytes) text && bytes_eq (drop (length text) bytes) rest) ≡ bytes_eq bytes (text ++ rest)
joined-eq [] bytes rest = refl
joined-eq (b ∷ text) [] rest = refl
joined-eq (b ∷ text) (x ∷ xs) rest = by (x == b) (joined-eq text xs rest) where
  by : (z : Bool) → (bytes_eq (take (length text) xs) text && bytes_eq (drop (length text) xs) rest) ≡ bytes_eq xs (text ++ rest)
      → ((z && bytes_eq (take (length text) xs) text) && bytes_eq (drop (length text) xs) rest) ≡ (z && bytes_eq xs (text ++ rest))
  by true e = e
  by false e = refl

-- the code of a text without a zero byte has it whole
module _ (bytes text : List ℕ) (no_zero : list_any (λ byte. byte == 0) text ≡ false) where
  as-it-is : 1 ∷ text_code text ≡ 1 ∷ (text ++ 0 ∷ 0 ∷ [])
  as-it-is = ap (λ (l : List ℕ). 1 ∷ l) (plain text no_zero)

  pub plain-length : length bytes ≢ length text + 1 + 2 → false ≡ bytes_eq bytes (1 ∷ text_code text)
  plain-length ne = by (bytes_eq bytes (1 ∷ text_code text)) refl where
    by : (z : Bool) → bytes_eq bytes (1 ∷ text_code text) ≡ z → false ≡ z
    by true e = absurd (ne (ap length ((bytes_eq-Decides bytes (1 ∷ text_code text)).0 e ∙ as-it-is) ∙ ap suc (length-append text (0 ∷ 0 ∷ [])) ∙ omega arith))
    by false e = refl

  pub plain-eq : begins 1 bytes ≡ true → (bytes_eq (take (length text) (drop 1 bytes)) text && bytes_eq (drop (length text + 1) bytes) (0 ∷ 0 ∷ [])) ≡ bytes_eq bytes (1 ∷ text_code text)
  plain-eq h =
      ap (λ (l : List ℕ). bytes_eq (take (length text) (drop 1 bytes)) text && bytes_eq l (0 ∷ 0 ∷ [])) (ap (λ n. drop n bytes) (let e : length text + 1 ≡ 1 + length text = omega arith in e) ∙ sym (drop-drop (length text) 1 bytes))
      ∙ joined-eq text (drop 1 bytes) (0 ∷ 0 ∷ [])
      ∙ ap (bytes_eq (drop 1 bytes)) (sym (plain text no_zero))
      ∙ sym (begins-next 1 bytes (text_code text) h)

  -- what two comparisons of slices say
  pub plain-read : (x y : Bool) (n m : ℕ) → begins 1 bytes ≡ true → x ≡ bytes_eq (take n (drop 1 bytes)) text → y ≡ bytes_eq (take (length bytes - m) (drop m bytes)) (0 ∷ 0 ∷ []) → n ≡ length text → m ≡ length text + 1
      → (x && y) ≡ bytes_eq bytes (1 ∷ text_code text)
  plain-read x y n m h own end en em =
      ap (λ (z : Bool). z && y) (own ∙ ap (λ k. bytes_eq (take k (drop 1 bytes)) text) en)
      ∙ ap (λ (z : Bool). bytes_eq (take (length text) (drop 1 bytes)) text && z) (end ∙ ap (λ (l : List ℕ). bytes_eq l (0 ∷ 0 ∷ [])) (rest-of m bytes ∙ ap (λ k. drop k bytes) em))
      ∙ plain-eq h

-- where bytes begin with one there is one more
pub begins-within : (b at : ℕ) (bytes : List ℕ) → at ≤ length bytes → begins b (drop at bytes) ≡ true → at + 1 ≤ length bytes
begins-within b at bytes le h = by (drop at bytes) (length-drop at bytes) h where
  by : (rest : List ℕ) → length rest ≡ length bytes - at → begins b rest ≡ true → at + 1 ≤ length bytes
  by [] e q = cc
  by (x ∷ xs) e q = omega (arith, e)

-- the front of a code was read: it is that of the text where the rest is that of the text's rest
pub record ReadTo (bytes text : List ℕ) (at i : ℕ) : Type 0 where
  pub within : at ≤ length bytes
  pub left : bytes_eq bytes (1 ∷ text_code text) ≡ bytes_eq (drop at bytes) (text_code (drop i text))

module _ (bytes text : List ℕ) where
  pub read-start : begins 1 bytes ≡ true → ReadTo bytes text 1 0
  read-start h = record { within = begins-within 1 0 bytes (omega arith) h; left = begins-next 1 bytes (text_code text) h }

  pub read-none : begins 1 bytes ≡ false → false ≡ bytes_eq bytes (1 ∷ text_code text)
  read-none h = sym (begins-not 1 bytes (text_code text) h)

  module _ (at i : ℕ) (read : ReadTo bytes text at i) (lt : i < length text) where
    abbrev pub byte : ℕ
    byte = get_or text i 0

    abbrev pub others : List ℕ
    others = text_code (drop (i + 1) text)

    next-is : text_code (drop i text) ≡ (if byte == 0 then 0 ∷ 1 ∷ others else byte ∷ others)
    next-is = rw (drop_more text i 0 lt) refl

    -- the next byte differs
    pub read-differs : begins byte (drop at bytes) ≡ false → false ≡ bytes_eq bytes (1 ∷ text_code text)
    read-differs h = by (byte == 0) refl where
      by : (z : Bool) → (byte == 0) ≡ z → false ≡ bytes_eq bytes (1 ∷ text_code text)
      by true e =
          let zero : byte ≡ 0 = eqb-true byte 0 e in
          sym (read.left ∙ ap (bytes_eq (drop at bytes)) (next-is ∙ rw e refl) ∙ begins-not 0 (drop at bytes) (1 ∷ others) (ap (λ (b : ℕ). begins b (drop at bytes)) (sym zero) ∙ h))
      by false e = sym (read.left ∙ ap (bytes_eq (drop at bytes)) (next-is ∙ rw e refl) ∙ begins-not byte (drop at bytes) others h)

    no-zero : (z : Bool) → (byte == 0) ≡ z → byte ≢ 0 → z ≡ false
    no-zero true e ne = absurd (ne (eqb-true byte 0 e))
    no-zero false e ne = refl

    -- the next byte is no zero
    pub read-plain : begins byte (drop at bytes) ≡ true → byte ≢ 0 → ReadTo bytes text (at + 1) (i + 1)
    read-plain h ne = let e : (byte == 0) ≡ false = no-zero (byte == 0) refl ne in record {
      within = begins-within byte at bytes read.within h;
      left = read.left ∙ ap (bytes_eq (drop at bytes)) (next-is ∙ rw e refl) ∙ begins-next byte (drop at bytes) others h ∙ ap (λ (l : List ℕ). bytes_eq l others) (drop-drop 1 at bytes);
    }

    module _ (h : begins byte (drop at bytes) ≡ true) (zero : byte ≡ 0) where
      e : (byte == 0) ≡ true
      e = eq-eqb byte 0 zero

      read-on : bytes_eq bytes (1 ∷ text_code text) ≡ bytes_eq (drop (at + 1) bytes) (1 ∷ others)
      read-on = read.left ∙ ap (bytes_eq (drop at bytes)) (next-is ∙ rw e refl)
          ∙ begins-next 0 (drop at bytes) (1 ∷ others) (ap (λ (b : ℕ). begins b (drop at bytes)) (sym zero) ∙ h) ∙ ap (λ (l : List ℕ). bytes_eq l (1 ∷ others)) (drop-drop 1 at bytes)

      pub zero-within : at + 1 ≤ length bytes
      zero-within = begins-within byte at bytes read.within h

      -- a zero isn't followed by a one
      pub zero-differs : begins 1 (drop (at + 1) bytes) ≡ false → false ≡ bytes_eq bytes (1 ∷ text_code text)
      zero-differs f = sym (read-on ∙ begins-not 1 (drop (at + 1) bytes) others f)

      -- it is
      pub read-zero : begins 1 (drop (at + 1) bytes) ≡ true → ReadTo bytes text (at + 1 + 1) (i + 1)
      read-zero f = record {
        within = begins-within 1 (at + 1) bytes zero-within f;
        left = read-on ∙ begins-next 1 (drop (at + 1) bytes) others f ∙ ap (λ (l : List ℕ). bytes_eq l others) (drop-drop 1 (at + 1) bytes);
      }

  -- all of the text was read
  pub read-end : (at i : ℕ) → ReadTo bytes text at i → length text ≤ i → bytes_eq bytes (1 ∷ text_code text) ≡ bytes_eq (drop at bytes) (0 ∷ 0 ∷ [])
  read-end at i read le = read.left ∙ ap (λ (l : List ℕ). bytes_eq (drop at bytes) (text_code l)) (drop_all i text le)

-- Codes are ordered as the values are, also where other bytes follow, so each is read back in one way alone.
use Rattle.std.proofs.Common.{◌≡◌, ◌==◌, ◌++◌, ◌+◌, ◌-◌, ◌^◌, ◌<◌, ℕ, ℤ, pos, negsuc, ◌+ℤ◌, zero, suc, true, false, List, [], ◌∷◌, refl, sym, ◌∙◌, ap, subst, arith, append_assoc}
use Rattle.std.specs.declared.cmp.Ordering.{Ordering}
use Rattle.std.specs.declared.cmp.Ordering.TheVariants.{Less, Equal, Greater}
use Rattle.std.specs.Ordering.{int_cmp, nat_cmp, ordering_then}
use Rattle.std.specs.Cmp.Lexicographic.{slice_cmp}
use Rattle.std.specs.FinMap.{nat_cmp-IsAntisymmetric, slice_cmp-IsAntisymmetric}
use Rattle.std.specs.Int.{bytes_high_first}
use Rattle.std.proofs.Math.Nat.{mod-eq_of_lt}
use Rattle.std.proofs.lemmas.Bool.Decides.{nat_tests}
use Rattle.std.proofs.lemmas.List.{append-nil}
use Rattle.pipe_columns.specs.declared.data_type.DataType.{DataType}
use Rattle.pipe_columns.specs.declared.data_type.DataType.TheVariants as dt
use Rattle.pipe_columns.specs.declared.any_value.AnyValue.{AnyValue}
use Rattle.pipe_columns.specs.declared.any_value.AnyValue.TheVariants as av
use Rattle.pipe_columns.specs.AnyValue.{fits, fits_number, is_signed, is_unsigned, value_cmp}
use Rattle.pipe_columns.specs.DataType.{is_boolean, is_string}
use Rattle.pipe_columns.specs.Key.{code, number_code, text_code, unsigned_code, value_code}
use Rattle.pipe_columns.proofs.ValueOrder.{tuples_tie, value_cmp-IsAntisymmetric}
use Rattle.pipe_spill.specs.KeyTypes.{AreOfTypes}
use Rattle.pipe_spill.proofs.ByteOrder.{bytes_cmp, nat_cmp-less, nat_cmp-more, nat_cmp-same, then_assoc}

-- ---- numbers

-- natural numbers are ordered as integers
int_cmp-pos : (m n : ℕ) → nat_cmp m n ≡ int_cmp (pos m) (pos n)
int_cmp-pos m n = grind (arith, nat_tests)

-- the bytes of numbers that fit them are ordered as the numbers
bytes_in_order : (k m n : ℕ) (r s : List ℕ) → m < 256 ^ k → n < 256 ^ k
    → slice_cmp nat_cmp (bytes_high_first k m ++ r) (bytes_high_first k n ++ s) ≡ ordering_then (nat_cmp m n) (slice_cmp nat_cmp r s)
bytes_in_order k m n r s p q =
    bytes_cmp k m n r s ∙ ap (λ o. ordering_then o (slice_cmp nat_cmp r s)) (rw (mod-eq_of_lt p, mod-eq_of_lt q) refl)

-- the codes of unsigned numbers are ordered as the numbers
unsigned_order : (k b : ℕ) → 2 ^ b ≡ 256 ^ k → (y z : ℤ) (r s : List ℕ) → is_unsigned b y ≡ true → is_unsigned b z ≡ true
    → slice_cmp nat_cmp (unsigned_code k y ++ r) (unsigned_code k z ++ s) ≡ ordering_then (int_cmp y z) (slice_cmp nat_cmp r s)
unsigned_order k b e (pos m) (pos n) r s p q =
    let m_fits : m < 256 ^ k = grind (arith, nat_tests) in
    let n_fits : n < 256 ^ k = grind (arith, nat_tests) in
    bytes_in_order k m n r s m_fits n_fits ∙ ap (λ o. ordering_then o (slice_cmp nat_cmp r s)) (int_cmp-pos m n)
unsigned_order k b e (pos m) (negsuc n) r s p q = absurd cc
unsigned_order k b e (negsuc m) z r s p q = absurd cc

-- a number counted from the least one
abbrev counted : ℕ → ℤ → ℕ
counted b (pos n) = n + 2 ^ b
counted b (negsuc n) = 2 ^ b - suc n

-- it is the number from the least one on
counted-is : (b : ℕ) (z : ℤ) → is_signed b z ≡ true → z +ℤ pos (2 ^ b) ≡ pos (counted b z)
counted-is b (pos n) h = refl
counted-is b (negsuc n) h = grind (arith, nat_tests)

-- it fits the type of as many bits
counted-below : (b : ℕ) (z : ℤ) → is_signed b z ≡ true → counted b z < 2 ^ b + 2 ^ b
counted-below b (pos n) h = grind (arith, nat_tests)
counted-below b (negsuc n) h = grind (arith, nat_tests)

-- numbers are ordered as what they are counted as
counted_cmp : (b : ℕ) (y z : ℤ) → is_signed b y ≡ true → is_signed b z ≡ true → nat_cmp (counted b y) (counted b z) ≡ int_cmp y z
counted_cmp b (pos m) (pos n) p q = grind (arith, nat_tests)
counted_cmp b (pos m) (negsuc n) p q = grind (arith, nat_tests)
counted_cmp b (negsuc m) (pos n) p q = grind (arith, nat_tests)
counted_cmp b (negsuc m) (negsuc n) p q = grind (arith, nat_tests)

-- the codes of signed numbers are ordered as the numbers
signed_order : (k b : ℕ) → 2 ^ b + 2 ^ b ≡ 256 ^ k → (y z : ℤ) (r s : List ℕ) → is_signed b y ≡ true → is_signed b z ≡ true
    → slice_cmp nat_cmp (unsigned_code k (y +ℤ pos (2 ^ b)) ++ r) (unsigned_code k (z +ℤ pos (2 ^ b)) ++ s)
    ≡ ordering_then (int_cmp y z) (slice_cmp nat_cmp r s)
signed_order k b e y z r s p q =
    rw (counted-is b y p, counted-is b z q)
    (bytes_in_order k (counted b y) (counted b z) r s (subst (λ n. counted b y < n) e (counted-below b y p)) (subst (λ n. counted b z < n) e (counted-below b z q))
    ∙ ap (λ o. ordering_then o (slice_cmp nat_cmp r s)) (counted_cmp b y z p q))

-- the codes of numbers of a type are ordered as the numbers
number_order : (t : DataType) (y z : ℤ) (r s : List ℕ) → fits_number y t ≡ true → fits_number z t ≡ true
    → slice_cmp nat_cmp (number_code t y ++ r) (number_code t z ++ s) ≡ ordering_then (int_cmp y z) (slice_cmp nat_cmp r s)
number_order dt.Boolean y z r s p q = absurd cc
number_order dt.Int8 y z r s p q = signed_order 1 7 refl y z r s p q
number_order dt.Int16 y z r s p q = signed_order 2 15 refl y z r s p q
number_order dt.Int32 y z r s p q = signed_order 4 31 refl y z r s p q
number_order dt.Int64 y z r s p q = signed_order 8 63 refl y z r s p q
number_order dt.UInt8 y z r s p q = unsigned_order 1 8 refl y z r s p q
number_order dt.UInt16 y z r s p q = unsigned_order 2 16 refl y z r s p q
number_order dt.UInt32 y z r s p q = unsigned_order 4 32 refl y z r s p q
number_order dt.UInt64 y z r s p q = unsigned_order 8 64 refl y z r s p q
number_order dt.Int128 y z r s p q = signed_order 16 127 refl y z r s p q
number_order dt.Date y z r s p q = signed_order 4 31 refl y z r s p q
number_order dt.String y z r s p q = absurd cc

-- ---- texts

-- a byte that isn't 0 stands as it is
pub text_code-more : (x : ℕ) (a : List ℕ) → text_code (suc x ∷ a) ≡ suc x ∷ text_code a
text_code-more x a = let h : (suc x == 0) ≡ false = grind (arith, nat_tests) in rw h refl

-- the codes of texts are ordered as the texts
text_order : (a b r s : List ℕ)
    → slice_cmp nat_cmp (text_code a ++ r) (text_code b ++ s) ≡ ordering_then (slice_cmp nat_cmp a b) (slice_cmp nat_cmp r s)
text_order [] [] r s = refl
text_order [] (zero ∷ b) r s = refl
text_order [] (suc y ∷ b) r s = rw (text_code-more y b, nat_cmp-less 0 (suc y) (omega arith)) refl
text_order (zero ∷ a) [] r s = refl
text_order (zero ∷ a) (zero ∷ b) r s = text_order a b r s
text_order (zero ∷ a) (suc y ∷ b) r s = rw (text_code-more y b, nat_cmp-less 0 (suc y) (omega arith)) refl
text_order (suc x ∷ a) [] r s = rw (text_code-more x a, nat_cmp-more (suc x) 0 (omega arith)) refl
text_order (suc x ∷ a) (zero ∷ b) r s = rw (text_code-more x a, nat_cmp-more (suc x) 0 (omega arith)) refl
text_order (suc x ∷ a) (suc y ∷ b) r s = rw (text_code-more x a, text_code-more y b)
    (ap (ordering_then (nat_cmp (suc x) (suc y))) (text_order a b r s)
    ∙ sym (then_assoc (nat_cmp (suc x) (suc y)) (slice_cmp nat_cmp a b) (slice_cmp nat_cmp r s)))

-- ---- values and tuples

-- one type is that of truth values
boolean_type : (t : DataType) → is_boolean t ≡ true → t ≡ dt.Boolean
boolean_type dt.Boolean h = refl
boolean_type dt.Int8 h = absurd cc
boolean_type dt.Int16 h = absurd cc
boolean_type dt.Int32 h = absurd cc
boolean_type dt.Int64 h = absurd cc
boolean_type dt.UInt8 h = absurd cc
boolean_type dt.UInt16 h = absurd cc
boolean_type dt.UInt32 h = absurd cc
boolean_type dt.UInt64 h = absurd cc
boolean_type dt.Int128 h = absurd cc
boolean_type dt.Date h = absurd cc
boolean_type dt.String h = absurd cc

-- one type is that of texts
string_type : (t : DataType) → is_string t ≡ true → t ≡ dt.String
string_type dt.Boolean h = absurd cc
string_type dt.Int8 h = absurd cc
string_type dt.Int16 h = absurd cc
string_type dt.Int32 h = absurd cc
string_type dt.Int64 h = absurd cc
string_type dt.UInt8 h = absurd cc
string_type dt.UInt16 h = absurd cc
string_type dt.UInt32 h = absurd cc
string_type dt.UInt64 h = absurd cc
string_type dt.Int128 h = absurd cc
string_type dt.Date h = absurd cc
string_type dt.String h = refl

-- no type has both truth values and numbers
pub no_truth_and_number : (t : DataType) (n : ℤ) → is_boolean t ≡ true → fits_number n t ≡ true → ⊥
no_truth_and_number t n p q = let h : false ≡ true = rw (boolean_type t p) at q in cc

-- no type has both texts and numbers
pub no_text_and_number : (t : DataType) (n : ℤ) → is_string t ≡ true → fits_number n t ≡ true → ⊥
no_text_and_number t n p q = let h : false ≡ true = rw (string_type t p) at q in cc

-- no type has both texts and truth values
pub no_text_and_truth : (t : DataType) → is_string t ≡ true → is_boolean t ≡ true → ⊥
no_text_and_truth t p q = let h : false ≡ true = rw (string_type t p) at q in cc

-- the codes of values of a type are ordered as the values, and with equal values what follows decides
pub value_order : (t : DataType) (v w : AnyValue) (r s : List ℕ) → fits v t ≡ true → fits w t ≡ true
    → slice_cmp nat_cmp (value_code t v ++ r) (value_code t w ++ s) ≡ ordering_then (value_cmp v w) (slice_cmp nat_cmp r s)
value_order t av.Null av.Null r s p q = refl
value_order t av.Null (av.Boolean b) r s p q = refl
value_order t av.Null (av.Int n) r s p q = refl
value_order t av.Null (av.Text b) r s p q = refl
value_order t (av.Boolean a) av.Null r s p q = refl
value_order t (av.Boolean false) (av.Boolean false) r s p q = refl
value_order t (av.Boolean false) (av.Boolean true) r s p q = refl
value_order t (av.Boolean true) (av.Boolean false) r s p q = refl
value_order t (av.Boolean true) (av.Boolean true) r s p q = refl
value_order t (av.Boolean a) (av.Int n) r s p q = absurd (no_truth_and_number t n p q)
value_order t (av.Boolean a) (av.Text b) r s p q = absurd (no_text_and_truth t q p)
value_order t (av.Int m) av.Null r s p q = refl
value_order t (av.Int m) (av.Boolean b) r s p q = absurd (no_truth_and_number t m q p)
value_order t (av.Int m) (av.Int n) r s p q = number_order t m n r s p q
value_order t (av.Int m) (av.Text b) r s p q = absurd (no_text_and_number t m q p)
value_order t (av.Text a) av.Null r s p q = refl
value_order t (av.Text a) (av.Boolean b) r s p q = absurd (no_text_and_truth t p q)
value_order t (av.Text a) (av.Int n) r s p q = absurd (no_text_and_number t n p q)
value_order t (av.Text a) (av.Text b) r s p q = text_order a b r s

-- the codes of tuples are ordered as the tuples, and with equal tuples what follows decides
pub tuple_order : (types : List DataType) (a b : List AnyValue) (r s : List ℕ) → AreOfTypes types a → AreOfTypes types b
    → slice_cmp nat_cmp (code types a ++ r) (code types b ++ s) ≡ ordering_then (slice_cmp value_cmp a b) (slice_cmp nat_cmp r s)
tuple_order [] [] [] r s p q = refl
tuple_order [] [] (w ∷ b) r s p q = absurd q
tuple_order [] (v ∷ a) b r s p q = absurd p
tuple_order (t ∷ types) [] b r s p q = absurd p
tuple_order (t ∷ types) (v ∷ a) [] r s p q = absurd q
tuple_order (t ∷ types) (v ∷ a) (w ∷ b) r s p q =
    rw (append_assoc (value_code t v) (code types a) r, append_assoc (value_code t w) (code types b) s)
    (value_order t v w (code types a ++ r) (code types b ++ s) p.0 q.0
    ∙ ap (ordering_then (value_cmp v w)) (tuple_order types a b r s p.1 q.1)
    ∙ sym (then_assoc (value_cmp v w) (slice_cmp value_cmp a b) (slice_cmp nat_cmp r s)))

-- ---- what is read back

-- a list of bytes ties with itself
same_cmp : (xs : List ℕ) → slice_cmp nat_cmp xs xs ≡ Equal
same_cmp [] = refl
same_cmp (x ∷ xs) = rw nat_cmp-same (same_cmp xs)

-- a tie is one of both parts
both_equal : (a b : Ordering) → ordering_then a b ≡ Equal → (a ≡ Equal) × (b ≡ Equal)
both_equal Less b h = absurd cc
both_equal Equal b h = (refl, h)
both_equal Greater b h = absurd cc

-- bytes begin with the code of one text alone
pub text_once : (a b r s : List ℕ) → text_code a ++ r ≡ text_code b ++ s → a ≡ b
text_once a b r s e =
    let tied = both_equal (slice_cmp nat_cmp a b) (slice_cmp nat_cmp r s)
    (sym (text_order a b r s) ∙ rw e (same_cmp (text_code b ++ s))) in
    slice_cmp-IsAntisymmetric nat_cmp-IsAntisymmetric a b tied.0

-- bytes begin with the code of one value alone
pub value_once : (t : DataType) (v w : AnyValue) (r s : List ℕ) → fits v t ≡ true → fits w t ≡ true
    → value_code t v ++ r ≡ value_code t w ++ s → (v ≡ w) × (r ≡ s)
value_once t v w r s p q e =
    let tied = both_equal (value_cmp v w) (slice_cmp nat_cmp r s)
    (sym (value_order t v w r s p q) ∙ rw e (same_cmp (value_code t w ++ s))) in
    (value_cmp-IsAntisymmetric v w tied.0, slice_cmp-IsAntisymmetric nat_cmp-IsAntisymmetric r s tied.1)

-- bytes begin with the code of one tuple alone
pub tuple_once : (types : List DataType) (a b : List AnyValue) (r s : List ℕ) → AreOfTypes types a → AreOfTypes types b
    → code types a ++ r ≡ code types b ++ s → (a ≡ b) × (r ≡ s)
tuple_once types a b r s p q e =
    let tied = both_equal (slice_cmp value_cmp a b) (slice_cmp nat_cmp r s)
    (sym (tuple_order types a b r s p q) ∙ rw e (same_cmp (code types b ++ s))) in
    (tuples_tie a b tied.0, slice_cmp-IsAntisymmetric nat_cmp-IsAntisymmetric r s tied.1)

-- ---- the laws of whole codes

-- a tie behind an ordering changes nothing
then_Equal : (o : Ordering) → ordering_then o Equal ≡ o
then_Equal Less = refl
then_Equal Equal = refl
then_Equal Greater = refl

-- no code is the front of another
pub codes_no_front : (types : List DataType) (a b : List AnyValue) (rest : List ℕ) → AreOfTypes types a → AreOfTypes types b
    → code types a ++ rest ≡ code types b → a ≡ b
codes_no_front types a b rest p q e = (tuple_once types a b rest [] p q (e ∙ sym (append-nil (code types b)))).0

-- different tuples have different codes
pub codes_injective : (types : List DataType) (a b : List AnyValue) → AreOfTypes types a → AreOfTypes types b
    → code types a ≡ code types b → a ≡ b
codes_injective types a b p q e = codes_no_front types a b [] p q (append-nil (code types a) ∙ e)

-- codes are ordered as tuples
pub codes_ordered : (types : List DataType) (a b : List AnyValue) → AreOfTypes types a → AreOfTypes types b
    → slice_cmp nat_cmp (code types a) (code types b) ≡ slice_cmp value_cmp a b
codes_ordered types a b p q =
    ap (λ xs. slice_cmp nat_cmp xs (code types b)) (sym (append-nil (code types a)))
    ∙ ap (slice_cmp nat_cmp (code types a ++ [])) (sym (append-nil (code types b)))
    ∙ tuple_order types a b [] [] p q
    ∙ then_Equal (slice_cmp value_cmp a b)

-- Reading fields.
use Rattle.std.proofs.Common.{◌≡◌, ◌∙◌, ℕ, ◌^◌, ◌<◌, Bool, true, false, ℤ, pos, negsuc, List, [], ◌∷◌, Option, Some, None, option_and_then, if◌then◌else◌, is_some, refl, sym, ap, arith, subst}
use Rattle.std.proofs.lemmas.Bool.Decides.{nat_tests}
use Rattle.pipe_columns.specs.declared.data_type.DataType.{DataType}
use Rattle.pipe_columns.specs.declared.data_type.DataType.TheVariants as dt
use Rattle.pipe_columns.specs.declared.any_value.AnyValue.{AnyValue}
use Rattle.pipe_columns.specs.declared.any_value.AnyValue.TheVariants as av
use Rattle.pipe_columns.specs.AnyValue.{fits, fits_number, HasUtf8, is_signed, is_unsigned}
use Rattle.std.specs.Prelude.{codes}
use Rattle.std.specs.Str.{IsUtf8, bytes_eq, is_utf8}
use Rattle.std.proofs.lemmas.Option.{none-some, same_Some}
use Rattle.std.proofs.lemmas.Str.{IsUtf8-from_is_utf8, is_utf8-from_IsUtf8}
use Rattle.pipe_csv.specs.Fields.{read_field, read_int, read_number, read_some, read_text}
use Rattle.pipe_csv.specs.Numbers.{narrowed, read_int128}

-- a range with a sign lies in that of 128 bits
signed-128 : (bits : ℕ) (n : ℤ) → 2 ^ bits < 2 ^ 127 → is_signed bits n ≡ true → is_signed 127 n ≡ true
signed-128 bits (pos k) small h = grind (arith, nat_tests)
signed-128 bits (negsuc k) small h = grind (arith, nat_tests)

-- a range without a sign lies in that of 128 bits
unsigned-128 : (bits : ℕ) (n : ℤ) → 2 ^ bits < 2 ^ 127 → is_unsigned bits n ≡ true → is_signed 127 n ≡ true
unsigned-128 bits (pos k) small h = grind (arith, nat_tests)
unsigned-128 bits (negsuc k) small h = cc

-- what a type holds fits into 128 bits
fits-128 : (n : ℤ) (t : DataType) → fits_number n t ≡ true → fits_number n dt.Int128 ≡ true
fits-128 n dt.Boolean h = cc
fits-128 n dt.Int8 h = signed-128 7 n (omega arith) h
fits-128 n dt.Int16 h = signed-128 15 n (omega arith) h
fits-128 n dt.Int32 h = signed-128 31 n (omega arith) h
fits-128 n dt.Int64 h = signed-128 63 n (omega arith) h
fits-128 n dt.UInt8 h = unsigned-128 8 n (omega arith) h
fits-128 n dt.UInt16 h = unsigned-128 16 n (omega arith) h
fits-128 n dt.UInt32 h = unsigned-128 32 n (omega arith) h
fits-128 n dt.UInt64 h = unsigned-128 64 n (omega arith) h
fits-128 n dt.Int128 h = h
fits-128 n dt.Date h = signed-128 31 n (omega arith) h
fits-128 n dt.String h = cc

-- a number that is narrowed by way of 128 bits
narrowed-twice : (t : DataType) (n : ℤ) (a b : Bool) → fits_number n t ≡ a → fits_number n dt.Int128 ≡ b → narrowed t n ≡ option_and_then (narrowed t) (if fits_number n dt.Int128 then Some n else None)
narrowed-twice t n true b e f = rw (fits-128 n t e) refl
narrowed-twice t n false true e f = rw f refl
narrowed-twice t n false false e f = rw (e, f) refl

-- a number, if there is one, narrowed by way of 128 bits
narrowed-option : (t : DataType) (o : Option ℤ) → option_and_then (narrowed t) o ≡ option_and_then (narrowed t) (option_and_then (λ n. if fits_number n dt.Int128 then Some n else None) o)
narrowed-option t None = refl
narrowed-option t (Some n) = narrowed-twice t n (fits_number n t) (fits_number n dt.Int128) refl refl

-- an integer reads by way of 128 bits
pub int-by_128 : (t : DataType) (text : List ℕ) → read_int t text ≡ option_and_then (narrowed t) (read_int128 text)
int-by_128 t text = narrowed-option t (read_number text)

-- a number of 128 bits is narrowed to the type
pub int-some : (t : DataType) (text : List ℕ) (n : ℤ) → Some n ≡ read_int128 text → narrowed t n ≡ read_int t text
int-some t text n e = sym (int-by_128 t text ∙ rw (← e) refl)

-- without one there is no value
pub int-none : (t : DataType) (text : List ℕ) → None ≡ read_int128 text → None ≡ read_int t text
int-none t text e = sym (int-by_128 t text ∙ rw (← e) refl)

-- a text in UTF-8 reads as itself, and another doesn't read
same-text : (text : List ℕ) (b : Bool) → is_utf8 text ≡ b → (IsUtf8 text → Some (av.Text text) ≡ read_text text) × (¬ IsUtf8 text → None ≡ read_text text)
same-text text true e = (λ h. rw e refl, λ h. absurd (h (IsUtf8-from_is_utf8 text e)))
same-text text false e = (λ h. let f : is_utf8 text ≡ true = is_utf8-from_IsUtf8 text h in cc, λ h. rw e refl)

-- a text reads exactly where it is in UTF-8
pub text-reads : (text : List ℕ) → (IsUtf8 text → true ≡ is_some (read_text text)) × (¬ IsUtf8 text → false ≡ is_some (read_text text))
text-reads text = (λ h. ap is_some ((same-text text (is_utf8 text) refl).0 h), λ h. ap is_some ((same-text text (is_utf8 text) refl).1 h))

-- a text reads as its copy
pub text-some : (text copy made : List ℕ) → copy ≡ text → made ≡ copy → IsUtf8 made → Some (av.Text made) ≡ read_text text
text-some text copy made e f h =
    let whole : made ≡ text = f ∙ e in
    let P : List ℕ → Type 0 = λ t. IsUtf8 t in
    rw whole ((same-text text (is_utf8 text) refl).0 (subst P whole h))

-- a copy that isn't UTF-8 tells the same of the text
pub text-none : (text copy : List ℕ) → copy ≡ text → ¬ IsUtf8 copy → None ≡ read_text text
text-none text copy e h =
    let P : List ℕ → Type 0 = λ t. ¬ IsUtf8 t in
    (same-text text (is_utf8 text) refl).1 (subst P e h)

-- a narrowed number fits its type
narrow-fits : (t : DataType) (n : ℤ) (v : AnyValue) (b : Bool) → fits_number n t ≡ b → narrowed t n ≡ Some v → fits v t ≡ true
narrow-fits t n v true e h = let same : av.Int n ≡ v = same_Some (av.Int n) v (sym (rw e refl) ∙ h) in rw (← same) e
narrow-fits t n v false e h = let none : None ≡ Some v = sym (rw e refl) ∙ h in absurd (none-some v none)

-- an integer that reads fits its type
int-fits : (t : DataType) (o : Option ℤ) (v : AnyValue) → option_and_then (narrowed t) o ≡ Some v → fits v t ≡ true
int-fits t None v h = absurd (none-some v h)
int-fits t (Some n) v h = narrow-fits t n v (fits_number n t) refl h

-- a truth value that reads fits its type
truth-fits : (a b : Bool) (v : AnyValue) → (if a then Some (av.Boolean true) else (if b then Some (av.Boolean false) else None)) ≡ Some v → fits v dt.Boolean ≡ true
truth-fits true b v h = let same : av.Boolean true ≡ v = same_Some (av.Boolean true) v h in rw (← same) refl
truth-fits false true v h = let same : av.Boolean false ≡ v = same_Some (av.Boolean false) v h in rw (← same) refl
truth-fits false false v h = absurd (none-some v h)

-- a text that reads fits its type
text-fits : (a : Bool) (text : List ℕ) (v : AnyValue) → (if a then Some (av.Text text) else None) ≡ Some v → fits v dt.String ≡ true
text-fits true text v h = let same : av.Text text ≡ v = same_Some (av.Text text) v h in rw (← same) refl
text-fits false text v h = absurd (none-some v h)

-- each value that a text which isn't empty reads as fits its type
some-fits : (t : DataType) (text : List ℕ) (v : AnyValue) → read_some t text ≡ Some v → fits v t ≡ true
some-fits dt.Boolean text v h = truth-fits (bytes_eq text (codes "true")) (bytes_eq text (codes "false")) v h
some-fits dt.Int8 text v h = int-fits dt.Int8 (read_number text) v h
some-fits dt.Int16 text v h = int-fits dt.Int16 (read_number text) v h
some-fits dt.Int32 text v h = int-fits dt.Int32 (read_number text) v h
some-fits dt.Int64 text v h = int-fits dt.Int64 (read_number text) v h
some-fits dt.UInt8 text v h = int-fits dt.UInt8 (read_number text) v h
some-fits dt.UInt16 text v h = int-fits dt.UInt16 (read_number text) v h
some-fits dt.UInt32 text v h = int-fits dt.UInt32 (read_number text) v h
some-fits dt.UInt64 text v h = int-fits dt.UInt64 (read_number text) v h
some-fits dt.Int128 text v h = int-fits dt.Int128 (read_number text) v h
some-fits dt.Date text v h = int-fits dt.Date (read_number text) v h
some-fits dt.String text v h = text-fits (is_utf8 text) text v h

-- a value that is read fits its type
pub field-fits : (t : DataType) (text : List ℕ) (v : AnyValue) → read_field t text ≡ Some v → fits v t ≡ true
field-fits t [] v h = let same : av.Null ≡ v = same_Some av.Null v h in rw (← same) refl
field-fits t (b ∷ bs) v h = some-fits t (b ∷ bs) v h

-- a narrowed number is no text
narrow-utf8 : (t : DataType) (n : ℤ) (v : AnyValue) (b : Bool) → fits_number n t ≡ b → narrowed t n ≡ Some v → HasUtf8 v
narrow-utf8 t n v true e h = subst HasUtf8 (same_Some (av.Int n) v (sym (rw e refl) ∙ h)) tt
narrow-utf8 t n v false e h = let none : None ≡ Some v = sym (rw e refl) ∙ h in absurd (none-some v none)

-- nor is an integer that reads
int-utf8 : (t : DataType) (o : Option ℤ) (v : AnyValue) → option_and_then (narrowed t) o ≡ Some v → HasUtf8 v
int-utf8 t None v h = absurd (none-some v h)
int-utf8 t (Some n) v h = narrow-utf8 t n v (fits_number n t) refl h

-- nor a truth value
truth-utf8 : (a b : Bool) (v : AnyValue) → (if a then Some (av.Boolean true) else (if b then Some (av.Boolean false) else None)) ≡ Some v → HasUtf8 v
truth-utf8 true b v h = subst HasUtf8 (same_Some (av.Boolean true) v h) tt
truth-utf8 false true v h = subst HasUtf8 (same_Some (av.Boolean false) v h) tt
truth-utf8 false false v h = absurd (none-some v h)

-- a text that reads is in UTF-8
text-utf8 : (a : Bool) (text : List ℕ) (v : AnyValue) → is_utf8 text ≡ a → (if a then Some (av.Text text) else None) ≡ Some v → HasUtf8 v
text-utf8 true text v e h = subst HasUtf8 (same_Some (av.Text text) v h) (IsUtf8-from_is_utf8 text e)
text-utf8 false text v e h = absurd (none-some v h)

-- each value that a text which isn't empty reads as is in UTF-8 if it is a text
some-utf8 : (t : DataType) (text : List ℕ) (v : AnyValue) → read_some t text ≡ Some v → HasUtf8 v
some-utf8 dt.Boolean text v h = truth-utf8 (bytes_eq text (codes "true")) (bytes_eq text (codes "false")) v h
some-utf8 dt.Int8 text v h = int-utf8 dt.Int8 (read_number text) v h
some-utf8 dt.Int16 text v h = int-utf8 dt.Int16 (read_number text) v h
some-utf8 dt.Int32 text v h = int-utf8 dt.Int32 (read_number text) v h
some-utf8 dt.Int64 text v h = int-utf8 dt.Int64 (read_number text) v h
some-utf8 dt.UInt8 text v h = int-utf8 dt.UInt8 (read_number text) v h
some-utf8 dt.UInt16 text v h = int-utf8 dt.UInt16 (read_number text) v h
some-utf8 dt.UInt32 text v h = int-utf8 dt.UInt32 (read_number text) v h
some-utf8 dt.UInt64 text v h = int-utf8 dt.UInt64 (read_number text) v h
some-utf8 dt.Int128 text v h = int-utf8 dt.Int128 (read_number text) v h
some-utf8 dt.Date text v h = int-utf8 dt.Date (read_number text) v h
some-utf8 dt.String text v h = text-utf8 (is_utf8 text) text v refl h

-- so is a value that is read
pub field-utf8 : (t : DataType) (text : List ℕ) (v : AnyValue) → read_field t text ≡ Some v → HasUtf8 v
field-utf8 t [] v h = subst HasUtf8 (same_Some av.Null v h) tt
field-utf8 t (b ∷ bs) v h = some-utf8 t (b ∷ bs) v h

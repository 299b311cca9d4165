-- Rows of which a look at the kinds of their bytes tells that they read.
use Rattle.std.proofs.Common.{◌≡◌, ◌∙◌, ◌≤◌, ◌<◌, ◌+◌, ◌-◌, ◌*◌, ◌^◌, ◌==◌, ◌++◌, ℕ, ℤ, zero, suc, List, [], ◌∷◌, length, take, get_or, Bool, true, false, Option, Some, None, option_map, Ok, refl, sym, ap, arith, if◌then◌else◌, nat_le}
use Rattle.std.specs.List.{fold, list_all}
use Rattle.std.specs.Char.{is_ascii_digit}
use Rattle.std.specs.Str.{IsAscii}
use Rattle.std.proofs.Math.Nat.{pow-le-pow_right, pow-suc}
use Rattle.std.proofs.lemmas.Bool.{and_parts, leb-true, lt-ltb}
use Rattle.std.proofs.lemmas.List.{take_all, take_more}
use Rattle.std.proofs.lemmas.Option.{none-some, same_Some}
use Rattle.pipe_columns.specs.AnyValue.{is_signed}
use Rattle.pipe_columns.specs.declared.any_value.AnyValue.{AnyValue}
use Rattle.pipe_columns.specs.declared.any_value.AnyValue.TheVariants as av
use Rattle.pipe_columns.specs.declared.data_type.DataType.TheVariants as dt
use Rattle.pipe_columns.specs.declared.schema.Field.{Field}
use Rattle.pipe_csv.specs.Fields.{read_field}
use Rattle.pipe_csv.specs.CsvRows.{read_fields}
use Rattle.pipe_csv.proofs.RowFacts.{row-same}
use Rattle.pipe_scan.specs.Numbers.{number_of, read_digits, read_few_digits, read_short_number, signed}
use Rattle.pipe_scan.specs.Plain.{AreAsKnown, IsAsKnown, IsPlainRow}
use Rattle.pipe_scan.specs.Records.{between, cut}
use Rattle.pipe_source.specs.Known.{AreKnown, IsKnownField}
use Rattle.pipe_source.specs.Rows.{ChecksRow}
use Rattle.pipe_source.proofs.FieldsAt.{short-value}
use Rattle.pipe_source.proofs.FieldsLeft.{length-cut, value-of}
use Rattle.pipe_source.proofs.TextFields.{ascii-reads}

-- one digit more
digit-more : (n i d : ℕ) → n < 10 ^ i → is_ascii_digit d ≡ true → n * 10 + (d - 48) < 10 ^ suc i
digit-more n i d h a =
    let high : d ≤ 57 = leb-true d 57 (and_parts (nat_le 48 d) (nat_le d 57) a).1 in
    rw pow-suc (omega (arith, h, high))

-- digits behind a number of i digits
digits-below : (ds : List ℕ) (n i : ℕ) → n < 10 ^ i → list_all is_ascii_digit ds ≡ true → fold (λ n d. n * 10 + (d - 48)) n ds < 10 ^ (i + length ds)
digits-below [] n i h a = let e : i + 0 ≡ i = omega arith in rw e h
digits-below (d ∷ ds) n i h a =
    let p = and_parts (is_ascii_digit d) (list_all is_ascii_digit ds) a in
    let e : i + suc (length ds) ≡ suc i + length ds = omega arith in
    rw e (digits-below ds (n * 10 + (d - 48)) (suc i) (digit-more n i d h p.0) p.1)

-- the number that few digits write
digits_by : (ds : List ℕ) (m : ℕ) (b : Bool) → list_all is_ascii_digit ds ≡ b → length ds ≤ 18 → read_digits ds ≡ Some m → m < 10 ^ 18
digits_by [] m b a l e = absurd (none-some m e)
digits_by (d ∷ ds) m true a l e =
    let is : number_of (d ∷ ds) ≡ m = same_Some (number_of (d ∷ ds)) m (rw a at e) in
    let size : 0 + length (d ∷ ds) ≡ length (d ∷ ds) = omega arith in
    let low : number_of (d ∷ ds) < 10 ^ length (d ∷ ds) = rw size at (digits-below (d ∷ ds) 0 0 (omega arith) a) in
    let most : 10 ^ length (d ∷ ds) ≤ 10 ^ 18 = pow-le-pow_right (omega arith) l in
    omega (arith, is, low, most)
digits_by (d ∷ ds) m false a l e = absurd (none-some m (rw a at e))

few_by : (ds : List ℕ) (m : ℕ) (b : Bool) → nat_le (length ds) 18 ≡ b → read_few_digits ds ≡ Some m → m < 10 ^ 18
few_by ds m true h e = digits_by ds m (list_all is_ascii_digit ds) refl (leb-true (length ds) 18 h) (rw h at e)
few_by ds m false h e = absurd (none-some m (rw h at e))

-- with its sign it is a number of 64 bits
signed-fits : (b : Bool) (m : ℕ) → m < 10 ^ 18 → is_signed 63 (signed b m) ≡ true
signed-fits false m h = lt-ltb m (2 ^ 63) (omega (arith, h))
signed-fits true zero h = refl
signed-fits true (suc m) h = lt-ltb m (2 ^ 63) (omega (arith, h))

-- so is a short number
sign_by : (b : Bool) (ds : List ℕ) (n : ℤ) (o : Option ℕ) → read_few_digits ds ≡ o → option_map (signed b) o ≡ Some n → is_signed 63 n ≡ true
sign_by b ds n None h e = absurd (none-some n e)
sign_by b ds n (Some m) h e = let is : signed b m ≡ n = same_Some (signed b m) n e in rw (sym is) (signed-fits b m (few_by ds m (nat_le (length ds) 18) refl h))

short-fits : (bs : List ℕ) (n : ℤ) → read_short_number bs ≡ Some n → is_signed 63 n ≡ true
short-fits [] n e = absurd (none-some n e)
short-fits (c ∷ cs) n e = let ds : List ℕ = if c == 45 then cs else c ∷ cs in sign_by (c == 45) ds n (read_few_digits ds) refl e

-- a field that is as known has a value
pub known-value : (is_ascii number : Bool) (f : Field) (text : List ℕ) (low high : ℕ) → (is_ascii ≡ true → IsAscii text) → IsKnownField is_ascii number f → IsAsKnown number (between text low high)
    → (v : AnyValue) × (read_field f.dtype (between text low high) ≡ Some v)
known-value is_ascii true f text low high a k h = (av.Int h.0, rw k (short-value dt.Int64 (between text low high) h.0 h.1 (short-fits (between text low high) h.0 h.1)))
known-value is_ascii false f text low high a k h = rw k.0 (value-of (read_field dt.String (between text low high)) true (sym (ascii-reads text low high (a k.1))) refl)

-- so do all of a row
known-values : (file row column : ℕ) (is_ascii : Bool) (numbers : List Bool) (fs : List Field) (text : List ℕ) (start : ℕ) (ends : List ℕ) → (is_ascii ≡ true → IsAscii text) → length ends ≡ length fs → AreKnown is_ascii numbers fs
    → AreAsKnown numbers (cut text start ends) → (values : List AnyValue) × (read_fields file row column fs (cut text start ends) ≡ Ok values)
known-values file row column is_ascii [] [] text start ends a l k h = ([], refl)
known-values file row column is_ascii [] (f ∷ fs) text start ends a l k h = absurd k
known-values file row column is_ascii (n ∷ ns) [] text start ends a l k h = absurd k
known-values file row column is_ascii (n ∷ ns) (f ∷ fs) text start [] a l k h = absurd (omega (arith, l))
known-values file row column is_ascii (n ∷ ns) (f ∷ fs) text start (e ∷ es) a l k h =
    let v = known-value is_ascii n f text start e a k.0 h.0 in
    let more = known-values file row (column + 1) is_ascii ns fs text (e + 1) es a (omega (arith, l)) k.1 h.1 in
    (v.0 ∷ more.0, rw (v.1, more.1) refl)

-- a plain row of such fields reads
pub plain-reads : (file row : ℕ) (is_ascii : Bool) (numbers : List Bool) (fs : List Field) (text : List ℕ) (at next start : ℕ) (ends : List ℕ) → (is_ascii ≡ true → IsAscii text) → length numbers ≡ length fs → AreKnown is_ascii numbers fs
    → IsPlainRow text at next start numbers ends → ChecksRow file row fs text at next true
plain-reads file row is_ascii numbers fs text at next start ends a l k p =
    let all : take (length ends) ends ≡ ends = take_all (length ends) ends (omega arith) in
    let values = known-values file row 1 is_ascii numbers fs text start ends a (p.width ∙ l) k p.known in
    let same = row-same file row fs (cut text start ends) (length-cut text start ends ∙ p.width ∙ l) in
    (values.0, (cut text start ends, rw all at p.row.takes.0, same ∙ values.1))

-- as many are told of
pub length-known : (is_ascii : Bool) (ns : List Bool) (fs : List Field) → AreKnown is_ascii ns fs → length ns ≡ length fs
length-known is_ascii [] [] k = refl
length-known is_ascii [] (f ∷ fs) k = absurd k
length-known is_ascii (n ∷ ns) [] k = absurd k
length-known is_ascii (n ∷ ns) (f ∷ fs) k = ap (λ (i : ℕ). suc i) (length-known is_ascii ns fs k.1)

-- one more field is known
pub knows-more : (is_ascii n : Bool) (ns : List Bool) (fs : List Field) (i : ℕ) (f : Field) → i < length fs → f ≡ get_or fs i f → AreKnown is_ascii ns (take i fs) → IsKnownField is_ascii n f → AreKnown is_ascii (ns ++ (n ∷ [])) (take (i + 1) fs)
knows-more is_ascii n ns fs i f h e a k =
    let more : take (i + 1) fs ≡ take i fs ++ (f ∷ []) = take_more fs i f h ∙ ap (λ (x : Field). take i fs ++ (x ∷ [])) (sym e) in
    rw more (knows-push ns (take i fs) a) where
      knows-push : (ns : List Bool) (fs : List Field) → AreKnown is_ascii ns fs → AreKnown is_ascii (ns ++ (n ∷ [])) (fs ++ (f ∷ []))
      knows-push [] [] a = (k, tt)
      knows-push [] (g ∷ fs) a = absurd a
      knows-push (m ∷ ns) [] a = absurd a
      knows-push (m ∷ ns) (g ∷ fs) a = (a.0, knows-push ns fs a.1)

-- Reading the fields of a row, of which the rest is left.
use Rattle.std.proofs.Common.{◌≡◌, ◌≢◌, ◌∙◌, ◌≤◌, ◌<◌, ◌+◌, ◌==◌, ℕ, suc, List, [], ◌∷◌, ◌++◌, length, take, drop, get_or, Bool, true, false, is_some, Option, Some, None, Result, Ok, Err, refl, sym, ap, arith, subst}
use Rattle.std.specs.Option.{ok_or}
use Rattle.std.proofs.lemmas.Bool.Decides.{nat_tests}
use Rattle.std.proofs.lemmas.List.{drop_all, drop_more, append-nil, length-append, length-take}
use Rattle.pipe_columns.specs.declared.any_value.AnyValue.{AnyValue}
use Rattle.pipe_columns.specs.declared.data_type.DataType.{DataType}
use Rattle.pipe_columns.specs.declared.schema.Field.{Field}
use Rattle.pipe_csv.specs.Fields.{read_field}
use Rattle.pipe_csv.specs.CsvRows.{Misfit, after, field, in_front, read_fields, read_row, width}
use Rattle.pipe_csv.proofs.RowFacts.{front-front, front-none, row-same, row-width}
use Rattle.pipe_scan.specs.Records.{InOrder, between, cut}

-- the values of the first fields, before those of the rest
pub record FieldsLeft (file row : ℕ) (fs : List Field) (whole : Result (List AnyValue) Misfit) (i : ℕ) (done : List AnyValue) (rest : List (List ℕ)) : Type 0 where
  pub count : length done ≡ i
  pub read : whole ≡ in_front done (read_fields file row (i + 1) (drop i fs) rest)

-- no field is read yet
pub fields-start : (file row : ℕ) (fs : List Field) (ts : List (List ℕ)) → length ts ≡ length fs → FieldsLeft file row fs (read_row file row fs ts) 0 [] ts
fields-start file row fs ts h = record { count = refl; read = row-same file row fs ts h ∙ front-none (read_fields file row 1 fs ts) }

-- the field at a place, and those behind it
field-here : (fs : List Field) (i : ℕ) (f : Field) → i < length fs → f ≡ get_or fs i f → drop i fs ≡ f ∷ drop (i + 1) fs
field-here fs i f h e = drop_more fs i f h ∙ ap (λ (x : Field). x ∷ drop (i + 1) fs) (sym e)

-- one more field is looked at
fields-step : (file row : ℕ) (fs : List Field) (i : ℕ) (rest more : List (List ℕ)) (f : Field) (t : List ℕ) → i < length fs → f ≡ get_or fs i f → rest ≡ t ∷ more
    → read_fields file row (i + 1) (drop i fs) rest ≡ after (ok_or (read_field f.dtype t) (field file row (i + 1))) (read_fields file row (i + 1 + 1) (drop (i + 1) fs) more)
fields-step file row fs i rest more f t h e r = rw (field-here fs i f h e, r) refl

-- a field that reads is one more
pub fields-more : (file row : ℕ) (fs : List Field) (whole : Result (List AnyValue) Misfit) (i : ℕ) (done : List AnyValue) (rest more : List (List ℕ)) (f : Field) (t : List ℕ) (v : AnyValue)
    → FieldsLeft file row fs whole i done rest → i < length fs → f ≡ get_or fs i f → rest ≡ t ∷ more → read_field f.dtype t ≡ Some v → FieldsLeft file row fs whole (i + 1) (done ++ (v ∷ [])) more
fields-more file row fs whole i done rest more f t v d h e r s =
    let tail : Result (List AnyValue) Misfit = read_fields file row (i + 1 + 1) (drop (i + 1) fs) more in
    let step : read_fields file row (i + 1) (drop i fs) rest ≡ in_front (v ∷ []) tail = fields-step file row fs i rest more f t h e r ∙ rw s refl in
    record {
      count = omega (arith, length-append {A = AnyValue}, d.count);
      read = d.read ∙ ap (in_front done) step ∙ front-front done (v ∷ []) tail;
    }

-- a field that doesn't read is the misfit
pub fields-stop : (file row : ℕ) (fs : List Field) (whole : Result (List AnyValue) Misfit) (i : ℕ) (done : List AnyValue) (rest more : List (List ℕ)) (f : Field) (t : List ℕ)
    → FieldsLeft file row fs whole i done rest → i < length fs → f ≡ get_or fs i f → rest ≡ t ∷ more → read_field f.dtype t ≡ None → whole ≡ Err (field file row (i + 1))
fields-stop file row fs whole i done rest more f t d h e r s =
    let step : read_fields file row (i + 1) (drop i fs) rest ≡ Err (field file row (i + 1)) = fields-step file row fs i rest more f t h e r ∙ rw s refl in
    d.read ∙ ap (in_front done) step

-- a row that reads has as many fields as the schema
fields-same : (file row : ℕ) (fs : List Field) (ts : List (List ℕ)) (values : List AnyValue) (b : Bool) → (length ts == length fs) ≡ b → read_row file row fs ts ≡ Ok values → length ts ≡ length fs
fields-same file row fs ts values true t h = grind (arith, nat_tests)
fields-same file row fs ts values false t h = let stop : Err (width file row) ≡ Ok values = rw t at h in cc

pub row-fields : (file row : ℕ) (fs : List Field) (ts : List (List ℕ)) (values : List AnyValue) → read_row file row fs ts ≡ Ok values → length ts ≡ length fs
row-fields file row fs ts values h = fields-same file row fs ts values (length ts == length fs) refl h

-- a field of a row that reads has a value
value-read : (file row : ℕ) (fs : List Field) (whole : Result (List AnyValue) Misfit) (values : List AnyValue) (i : ℕ) (done : List AnyValue) (rest more : List (List ℕ)) (f : Field) (t : List ℕ) (o : Option AnyValue)
    → FieldsLeft file row fs whole i done rest → whole ≡ Ok values → i < length fs → f ≡ get_or fs i f → rest ≡ t ∷ more → read_field f.dtype t ≡ o → (v : AnyValue) × (read_field f.dtype t ≡ Some v)
value-read file row fs whole values i done rest more f t None d w h e r s =
    let stop : whole ≡ Err (field file row (i + 1)) = fields-stop file row fs whole i done rest more f t d h e r s in
    cc
value-read file row fs whole values i done rest more f t (Some v) d w h e r s = (v, s)

pub field-value : (file row : ℕ) (fs : List Field) (whole : Result (List AnyValue) Misfit) (values : List AnyValue) (i : ℕ) (done : List AnyValue) (rest more : List (List ℕ)) (f : Field) (t : List ℕ)
    → FieldsLeft file row fs whole i done rest → whole ≡ Ok values → i < length fs → f ≡ get_or fs i f → rest ≡ t ∷ more → (v : AnyValue) × (read_field f.dtype t ≡ Some v)
field-value file row fs whole values i done rest more f t d w h e r = value-read file row fs whole values i done rest more f t (read_field f.dtype t) d w h e r refl

-- so it reads
pub field-reads : (t : DataType) (text : List ℕ) → ((v : AnyValue) × (read_field t text ≡ Some v)) → is_some (read_field t text) ≡ true
field-reads t text h = rw (h.1) refl

-- all fields are read
pub fields-end : (file row : ℕ) (fs : List Field) (whole : Result (List AnyValue) Misfit) (i : ℕ) (done : List AnyValue) (rest : List (List ℕ)) → FieldsLeft file row fs whole i done rest → length fs ≤ i → whole ≡ Ok done
fields-end file row fs whole i done rest d h =
    let none : read_fields file row (i + 1) (drop i fs) rest ≡ Ok [] = rw (drop_all i fs h) refl in
    d.read ∙ ap (in_front done) none ∙ ap Ok (append-nil done)

-- what reads has a value
pub value-of : (o : Option AnyValue) (b : Bool) → b ≡ is_some o → b ≡ true → (v : AnyValue) × (o ≡ Some v)
value-of None b e h = cc
value-of (Some v) b e h = (v, refl)

-- what doesn't read has none
pub no-value : (o : Option AnyValue) (b : Bool) → b ≡ is_some o → b ≡ false → o ≡ None
no-value None b e h = refl
no-value (Some v) b e h = cc

-- the first of the fields that are left in a text
pub cut-here : (text : List ℕ) (low : ℕ) (ends : List ℕ) (i : ℕ) → i < length ends → cut text low (drop i ends) ≡ between text low (get_or ends i 0) ∷ cut text (get_or ends i 0 + 1) (drop (i + 1) ends)
cut-here text low ends i h = rw (drop_more ends i 0 h) refl

-- where it lies
pub order-here : (n low : ℕ) (ends : List ℕ) (i : ℕ) → InOrder n low (drop i ends) → i < length ends → (low ≤ get_or ends i 0) × (get_or ends i 0 ≤ n) × InOrder n (get_or ends i 0 + 1) (drop (i + 1) ends)
order-here n low ends i o h =
    let P : List ℕ → Type 0 = λ t. InOrder n low t in
    subst P (drop_more ends i 0 h) o

-- the first of the fields that are left of a list
pub text-here : (ts : List (List ℕ)) (i : ℕ) (t : List ℕ) → i < length ts → t ≡ get_or ts i t → drop i ts ≡ t ∷ drop (i + 1) ts
text-here ts i t h e = drop_more ts i t h ∙ ap (λ (x : List ℕ). x ∷ drop (i + 1) ts) (sym e)

-- a list with one more
pub length-push : (xs : List AnyValue) (x : AnyValue) → length (xs ++ (x ∷ [])) ≡ length xs + 1
length-push xs x = omega (arith, length-append {A = AnyValue})

-- as many fields as ends
pub length-cut : (text : List ℕ) (low : ℕ) (ends : List ℕ) → length (cut text low ends) ≡ length ends
length-cut text low [] = refl
length-cut text low (e ∷ es) = ap (λ n. suc n) (length-cut text (e + 1) es)

-- the first i of a list of more are i
pub length-front : (n : ℕ) (xs : List ℕ) → n ≤ length xs → length (take n xs) ≡ n
length-front n xs h = omega (arith, length-take n xs)

-- a record in the text of another number of fields is no row
pub cut-width : (file row : ℕ) (fs : List Field) (text : List ℕ) (start count : ℕ) (ends : List ℕ) → count ≤ length ends → count ≢ length fs → read_row file row fs (cut text start (take count ends)) ≡ Err (width file row)
cut-width file row fs text start count ends h n = row-width file row fs (cut text start (take count ends)) (λ e. n (sym (length-cut text start (take count ends) ∙ length-front count ends h) ∙ e))

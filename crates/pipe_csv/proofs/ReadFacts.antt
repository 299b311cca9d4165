-- Rows that are read: as many values as fields, each of which fits.
use Rattle.std.proofs.Common.{◌≡◌, ◌∙◌, ◌≤◌, ◌<◌, ◌+◌, ◌%◌, ◌^◌, ◌==◌, ℕ, suc, Bool, true, false, List, [], ◌∷◌, ◌++◌, length, replicate, Result, Ok, Err, refl, sym, ap, arith, map, eq-eqb, subst, drop}
use Rattle.std.specs.Option.{ok_or}
use Rattle.std.proofs.lemmas.Bool.{false≢true}
use Rattle.std.proofs.lemmas.Bool.Decides.{Decides-eqb}
use Rattle.pipe_columns.specs.declared.any_value.AnyValue.{AnyValue}
use Rattle.pipe_columns.specs.declared.schema.Field.{Field}
use Rattle.pipe_columns.specs.Frame.{value_at}
use Rattle.pipe_csv.specs.Fields.{read_field}
use Rattle.pipe_csv.specs.CsvRows.{Misfit, after, field, read_fields, read_row, read_rows, width}
use Rattle.pipe_csv.proofs.HoldFacts.{RowFits, value-fits}
use Rattle.pipe_csv.proofs.PieceFacts.{rest-next, value-here}
use Rattle.pipe_csv.proofs.RowFacts.{row-same, row-width}

-- two results that are the same have the same value
pub same_Ok : {A E : Type 0} (a b : A) → ◌≡◌ {A = Result A E} (Ok a) (Ok b) → a ≡ b
same_Ok a b e = cc

-- what was read, and what is read after it
pub after-ok : {A E : Type 0} (a : Result A E) (rest : Result (List A) E) (all : List A) → after a rest ≡ Ok all → (first : A) × (more : List A) × (a ≡ Ok first) × (rest ≡ Ok more) × (all ≡ first ∷ more)
after-ok (Ok first) (Ok more) all e = (first, more, refl, refl, sym (same_Ok (first ∷ more) all e))
after-ok (Ok first) (Err m) all e = cc
after-ok (Err m) rest all e = cc

-- there is a value for each field
length-fields : (file row column : ℕ) (fs : List Field) (ts : List (List ℕ)) (values : List AnyValue) → length ts ≡ length fs → read_fields file row column fs ts ≡ Ok values → length values ≡ length fs
length-fields file row column [] ts values h e = sym (ap length (same_Ok {E = Misfit} [] values e))
length-fields file row column (f ∷ fs) [] values h e = absurd (omega arith)
length-fields file row column (f ∷ fs) (t ∷ ts) values h e =
    let parts = after-ok (ok_or (read_field f.dtype t) (field file row column)) (read_fields file row (column + 1) fs ts) values e in
    ap length parts.4 ∙ ap (λ n. suc n) (length-fields file row (column + 1) fs ts parts.1 (omega arith) parts.3)

-- a row that is read has a value for each field
pub length-row : (file row : ℕ) (fs : List Field) (ts : List (List ℕ)) (values : List AnyValue) (b : Bool) → (length ts == length fs) ≡ b → read_row file row fs ts ≡ Ok values → length values ≡ length fs
length-row file row fs ts values true s e = let h : length ts ≡ length fs = (Decides-eqb (length ts) (length fs)).0 s in length-fields file row 1 fs ts values h (sym (row-same file row fs ts h) ∙ e)
length-row file row fs ts values false s e = let f : Err (width file row) ≡ Ok values = sym (row-width file row fs ts (λ h. absurd (false≢true (sym s ∙ eq-eqb (length ts) (length fs) h)))) ∙ e in cc

-- the values of fields fit, from a column on
fields-fit : (file row column i : ℕ) (fs : List Field) (ts : List (List ℕ)) (all values : List AnyValue) → values ≡ drop i all → length ts ≡ length fs → read_fields file row column fs ts ≡ Ok values → RowFits i fs all
fields-fit file row column i [] ts all values d h e = tt
fields-fit file row column i (f ∷ fs) [] all values d h e = absurd (omega arith)
fields-fit file row column i (f ∷ fs) (t ∷ ts) all values d h e =
    let parts = after-ok (ok_or (read_field f.dtype t) (field file row column)) (read_fields file row (column + 1) fs ts) values e in
    let here : parts.0 ≡ value_at all i = value-here all i parts.0 parts.1 (sym parts.4 ∙ d) in
    let tail : parts.1 ≡ drop (i + 1) all = rest-next all i parts.0 parts.1 (sym parts.4 ∙ d) in
    (rw (← here) (value-fits f t (field file row column) parts.0 parts.2), fields-fit file row (column + 1) (i + 1) fs ts all parts.1 tail (omega arith) parts.3)

-- the values of a row that is read fit the schema
pub row-fits : (file row : ℕ) (fs : List Field) (ts : List (List ℕ)) (values : List AnyValue) (b : Bool) → (length ts == length fs) ≡ b → read_row file row fs ts ≡ Ok values → RowFits 0 fs values
row-fits file row fs ts values true s e = let h : length ts ≡ length fs = (Decides-eqb (length ts) (length fs)).0 s in fields-fit file row 1 0 fs ts values values refl h (sym (row-same file row fs ts h) ∙ e)
row-fits file row fs ts values false s e = let f : Err (width file row) ≡ Ok values = sym (row-width file row fs ts (λ h. absurd (false≢true (sym s ∙ eq-eqb (length ts) (length fs) h)))) ∙ e in cc

-- each record is a row
pub length-rows : (file row : ℕ) (fs : List Field) (rest : List (List (List ℕ))) (rows : List (List AnyValue)) → read_rows file row fs rest ≡ Ok rows → length rows ≡ length rest
length-rows file row fs [] rows e = sym (ap length (same_Ok {E = Misfit} [] rows e))
length-rows file row fs (r ∷ rs) rows e =
    let parts = after-ok (read_row file row fs r) (read_rows file (row + 1) fs rs) rows e in
    ap length parts.4 ∙ ap (λ n. suc n) (length-rows file (row + 1) fs rs parts.1 parts.3)

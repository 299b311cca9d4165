-- Reading the fields of a row, one after the other.
use Rattle.std.proofs.Common.{◌≡◌, ◌∙◌, ◌≢◌, ◌≤◌, ◌<◌, ◌+◌, ◌&&◌, ℕ, zero, suc, List, [], ◌∷◌, ◌++◌, length, drop, get_or, Bor, IsSome, Bool, true, false, not, Option, Some, None, Result, Ok, Err, refl, sym, ap, arith, eq-eqb}
use Rattle.std.specs.Option.{ok_or, option_map}
use Rattle.std.proofs.lemmas.Option.{none-some, same_Some}
use Rattle.std.specs.Str.{bytes_eq}
use Rattle.csv.specs.Records.{field_at}
use Rattle.std.proofs.lemmas.Bool.{ne_eqb}
use Rattle.std.proofs.lemmas.List.{append-nil, append_assoc, drop_all, drop_more, get_or_default, length-append}
use Rattle.pipe_columns.specs.declared.any_value.AnyValue.{AnyValue}
use Rattle.pipe_columns.specs.declared.schema.Field.{Field}
use Rattle.pipe_csv.specs.Fields.{read_field}
use Rattle.pipe_csv.specs.CsvRows.{Misfit, after, field, in_front, is_header, read_fields, read_row, width}

-- the field at a place within a record
pub field_at-get_or : (fields : List (List ℕ)) (i : ℕ) → i < length fields → field_at fields i ≡ Some (get_or fields i [])
unfolding field_at
field_at-get_or [] i h = absurd (omega arith)
field_at-get_or (f ∷ fs) zero h = refl
field_at-get_or (f ∷ fs) (suc i) h = field_at-get_or fs i (omega arith)

-- what `get` gives within a record
pub get-some : (ts : List (List ℕ)) (i : ℕ) (o : Option (Bor (List ℕ))) → i < length ts → option_map (λ s. s.now) o ≡ field_at ts i → IsSome o
get-some ts i None h e = absurd (none-some (get_or ts i []) (e ∙ field_at-get_or ts i h))
get-some ts i (Some b) h e = refl

-- what `get` reads there
pub get-reads : (ts : List (List ℕ)) (i : ℕ) (o : Option (Bor (List ℕ))) (b : Bor (List ℕ)) → i < length ts → option_map (λ s. s.now) o ≡ field_at ts i → o ≡ Some b → b.now ≡ get_or ts i b.now
get-reads ts i o b h e g =
    let same : Some b.now ≡ Some (get_or ts i []) = sym (ap (option_map (λ (s : Bor (List ℕ)). s.now)) g) ∙ e ∙ field_at-get_or ts i h in
    same_Some b.now (get_or ts i []) same ∙ get_or_default ts i [] b.now h

-- a test fails where its second part does
no_and : (a b : Bool) → false ≡ b → false ≡ (a && b)
no_and true b e = e
no_and false b e = refl

-- a record of another length is no header
pub header-width : (fs : List Field) (ts : List (List ℕ)) → length ts ≢ length fs → false ≡ is_header fs ts
header-width [] [] h = absurd (h refl)
header-width [] (t ∷ ts) h = refl
header-width (f ∷ fs) [] h = refl
header-width (f ∷ fs) (t ∷ ts) h = no_and (bytes_eq f.name t) (is_header fs ts) (header-width fs ts (λ e. h (ap (λ n. suc n) e)))

-- whether the rest of a record is the rest of a header
pub header-step : (fs : List Field) (ts : List (List ℕ)) (i : ℕ) (f : Field) (t : List ℕ) → i < length fs → i < length ts → f ≡ get_or fs i f → t ≡ get_or ts i t
    → is_header (drop i fs) (drop i ts) ≡ (bytes_eq f.name t && is_header (drop (i + 1) fs) (drop (i + 1) ts))
header-step fs ts i f t h k e g =
    let a : drop i fs ≡ f ∷ drop (i + 1) fs = drop_more fs i f h ∙ ap (λ (x : Field). x ∷ drop (i + 1) fs) (sym e) in
    let b : drop i ts ≡ t ∷ drop (i + 1) ts = drop_more ts i t k ∙ ap (λ (x : List ℕ). x ∷ drop (i + 1) ts) (sym g) in
    rw (a, b) refl

-- what a comparison that is turned round tells
not-same : (a b n t : List ℕ) (r x : Bool) → a ≡ n → r ≡ not (bytes_eq a t) → r ≡ x → bytes_eq n t ≡ not x
not-same a b n t r x e f g = let h : not (bytes_eq n t) ≡ x = ap (λ (y : List ℕ). not (bytes_eq y t)) (sym e) ∙ sym f ∙ g in twice (bytes_eq n t) x h where
  twice : (p q : Bool) → not p ≡ q → p ≡ not q
  twice true true k = cc
  twice true false k = refl
  twice false true k = refl
  twice false false k = cc

-- a field that isn't the name
pub header-stop : (a n t : List ℕ) (r whole now rest : Bool) → whole ≡ now → now ≡ (bytes_eq n t && rest) → a ≡ n → r ≡ not (bytes_eq a t) → r ≡ true → false ≡ whole
header-stop a n t r whole now rest e f g h k = let same : bytes_eq n t ≡ false = not-same a a n t r true g h k in sym (e ∙ f ∙ rw same refl)

-- a field that is the name
pub header-more : (a n t : List ℕ) (r whole now rest : Bool) → whole ≡ now → now ≡ (bytes_eq n t && rest) → a ≡ n → r ≡ not (bytes_eq a t) → r ≡ false → whole ≡ rest
header-more a n t r whole now rest e f g h k = let same : bytes_eq n t ≡ true = not-same a a n t r false g h k in e ∙ f ∙ rw same refl

-- nothing in front changes nothing
pub front-none : {A E : Type 0} (r : Result (List A) E) → r ≡ in_front [] r
front-none (Ok rest) = refl
front-none (Err e) = refl

-- what stands in front of what stands in front
pub front-front : {A E : Type 0} (a b : List A) (r : Result (List A) E) → in_front a (in_front b r) ≡ in_front (a ++ b) r
front-front a b (Ok rest) = ap Ok (sym (append_assoc a b rest))
front-front a b (Err e) = refl

-- a record of another length isn't read
pub row-width : (file row : ℕ) (fs : List Field) (ts : List (List ℕ)) → length ts ≢ length fs → read_row file row fs ts ≡ Err (width file row)
row-width file row fs ts h = rw (ne_eqb (length ts) (length fs) h) refl

-- a record of that length is read field by field
pub row-same : (file row : ℕ) (fs : List Field) (ts : List (List ℕ)) → length ts ≡ length fs → read_row file row fs ts ≡ read_fields file row 1 fs ts
row-same file row fs ts h = rw (eq-eqb (length ts) (length fs) h) refl

-- Rows of which a look at the kinds of their bytes tells that their columns read, found by places.
use Rattle.std.proofs.Common.{◌≡◌, ◌∙◌, ◌≤◌, ◌<◌, ◌+◌, ◌++◌, ℕ, zero, suc, List, [], ◌∷◌, length, take, get_or, Bool, true, false, Some, Ok, refl, sym, ap, arith, subst}
use Rattle.std.specs.Str.{IsAscii}
use Rattle.std.proofs.lemmas.List.{take_all, take_more}
use Rattle.pipe_columns.specs.declared.any_value.AnyValue.{AnyValue}
use Rattle.pipe_columns.specs.declared.schema.Field.{Field}
use Rattle.pipe_csv.specs.Fields.{read_field}
use Rattle.pipe_csv.specs.CsvRows.{read_fields, read_row}
use Rattle.pipe_csv.proofs.RowFacts.{row-same}
use Rattle.pipe_scan.specs.Plain.{AreAsKnown, ArePlainRows, IsAsKnown, IsPlainRow}
use Rattle.pipe_scan.specs.Records.{between, cut}
use Rattle.pipe_source.specs.Known.{AreKnownAt, AreKnownIn, IsKnownField}
use Rattle.pipe_source.specs.LaidRows.{ChecksLaid}
use Rattle.pipe_source.specs.Layout.{FitsLayout, picked}
use Rattle.pipe_source.specs.NamedRows.{fields_at}
use Rattle.pipe_source.specs.declared.layout.Layout.{Layout}
use Rattle.pipe_source.proofs.FieldsLeft.{length-cut}
use Rattle.pipe_source.proofs.LaidFacts.{CheckedLaid, checked-laid, length-fields_at, picked-same}
use Rattle.pipe_source.proofs.PlainReads.{known-value}

-- the field at a place is as known
as-known-at : (numbers : List Bool) (texts : List (List ℕ)) (place : ℕ) → place < length numbers → length texts ≡ length numbers → AreAsKnown numbers texts → IsAsKnown (get_or numbers place false) (get_or texts place [])
as-known-at [] texts place h e a = absurd (omega (arith, h))
as-known-at (n ∷ ns) [] place h e a = absurd (omega (arith, e))
as-known-at (n ∷ ns) (t ∷ ts) zero h e a = a.0
as-known-at (n ∷ ns) (t ∷ ts) (suc place) h e a = as-known-at ns ts place (omega (arith, h)) (omega (arith, e)) a.1

-- it lies in the text
cut-at : (text : List ℕ) (start : ℕ) (ends : List ℕ) (place : ℕ) → place < length ends → (low : ℕ) × (high : ℕ) × (get_or (cut text start ends) place [] ≡ between text low high)
cut-at text start [] place h = absurd (omega (arith, h))
cut-at text start (e ∷ es) zero h = (start, e, refl)
cut-at text start (e ∷ es) (suc place) h = cut-at text (e + 1) es place (omega (arith, h))

-- so a column that is known has a value
column-value : (is_ascii : Bool) (numbers : List Bool) (c : Field) (text : List ℕ) (start : ℕ) (ends : List ℕ) (place : ℕ) → (is_ascii ≡ true → IsAscii text) → length ends ≡ length numbers → place < length numbers → IsKnownField is_ascii (get_or numbers place false) c
    → AreAsKnown numbers (cut text start ends) → (v : AnyValue) × (read_field c.dtype (get_or (cut text start ends) place []) ≡ Some v)
column-value is_ascii numbers c text start ends place a l h k s =
    let at = cut-at text start ends place (omega (arith, h, l)) in
    let known = as-known-at numbers (cut text start ends) place h (length-cut text start ends ∙ l) s in
    let v = known-value is_ascii (get_or numbers place false) c text at.0 at.1 a k (subst (IsAsKnown (get_or numbers place false)) at.2 known) in
    (v.0, ap (read_field c.dtype) at.2 ∙ v.1)

-- so do all columns of a row
column-values : (file row column : ℕ) (is_ascii : Bool) (numbers : List Bool) (cs : List Field) (places : List ℕ) (text : List ℕ) (start : ℕ) (ends : List ℕ) → (is_ascii ≡ true → IsAscii text) → length ends ≡ length numbers
    → ((k : ℕ) → k < length places → get_or places k 0 < length numbers) → AreKnownAt is_ascii numbers cs places → AreAsKnown numbers (cut text start ends) → (values : List AnyValue) × (read_fields file row column cs (fields_at places (cut text start ends)) ≡ Ok values)
column-values file row column is_ascii numbers [] [] text start ends a l w k s = ([], refl)
column-values file row column is_ascii numbers [] (place ∷ places) text start ends a l w k s = absurd k
column-values file row column is_ascii numbers (c ∷ cs) [] text start ends a l w k s = absurd k
column-values file row column is_ascii numbers (c ∷ cs) (place ∷ places) text start ends a l w k s =
    let v = column-value is_ascii numbers c text start ends place a l (w 0 (omega arith)) k.0 s in
    let more = column-values file row (column + 1) is_ascii numbers cs places text start ends a l (λ i h. w (suc i) (omega (arith, h))) k.1 s in
    (v.0 ∷ more.0, rw (v.1, more.1) refl)

-- a plain row with such columns reads
plain-reads : (file row : ℕ) (is_ascii : Bool) (numbers : List Bool) (l : Layout) (cs : List Field) (text : List ℕ) (at next start : ℕ) (ends : List ℕ) → (is_ascii ≡ true → IsAscii text) → FitsLayout cs l → AreKnownIn is_ascii numbers cs l
    → IsPlainRow text at next start numbers ends → ChecksLaid (Some l) file row cs text at next true
plain-reads file row is_ascii numbers l cs text at next start ends a fit k p =
    let all : take (length ends) ends ≡ ends = take_all (length ends) ends (omega arith) in
    let texts : List (List ℕ) = cut text start ends in
    let width : length texts ≡ l.count = length-cut text start ends ∙ p.width ∙ k.0 in
    let values = column-values file row 1 is_ascii numbers cs l.places.items text start ends a p.width (λ i h. omega (arith, fit.within i h, k.0)) k.1 p.known in
    let same : read_row file row cs (picked l texts) ≡ read_fields file row 1 cs (fields_at l.places.items texts) = ap (read_row file row cs) (picked-same l texts width) ∙ row-same file row cs (fields_at l.places.items texts) (length-fields_at l.places.items texts ∙ fit.many) in
    (values.0, (texts, rw all at p.row.takes.0, same ∙ values.1))

-- so many plain rows more
pub checked-plain : (count : ℕ) (l : Layout) (file : ℕ) (cs : List Field) (text : List ℕ) (at most row cursor next : ℕ) (is_ascii : Bool) (numbers : List Bool) → CheckedLaid l file cs text at most row cursor → row + count ≤ most → (is_ascii ≡ true → IsAscii text) → FitsLayout cs l
    → (0 < length numbers → AreKnownIn is_ascii numbers cs l) → ArePlainRows text numbers cursor next count → CheckedLaid l file cs text at most (row + count) next
checked-plain zero l file cs text at most row cursor next is_ascii numbers d h a fit k p = let e : row + 0 ≡ row = omega arith in rw (e, sym p) d
checked-plain (suc count) l file cs text at most row cursor next is_ascii numbers d h a fit k p =
    let e : row + suc count ≡ row + count + 1 = omega arith in
    let before = checked-plain count l file cs text at most row cursor p.0 is_ascii numbers d (omega (arith, h)) a fit k p.3 in
    let read = plain-reads file (row + count + 1) is_ascii numbers l cs text p.0 next p.1 p.2 a fit (k p.4.some) p.4 in
    rw e (checked-laid l file cs text at most (row + count) p.0 next before (omega (arith, h)) read)

-- one more column is known
pub known-more : (is_ascii : Bool) (numbers : List Bool) (cs : List Field) (places : List ℕ) (i : ℕ) (c : Field) → i < length cs → length places ≡ length cs → c ≡ get_or cs i c → AreKnownAt is_ascii numbers (take i cs) (take i places) → IsKnownField is_ascii (get_or numbers (get_or places i 0) false) c
    → AreKnownAt is_ascii numbers (take (i + 1) cs) (take (i + 1) places)
known-more is_ascii numbers cs places i c h g e a k =
    let columns : take (i + 1) cs ≡ take i cs ++ (c ∷ []) = take_more cs i c h ∙ ap (λ (x : Field). take i cs ++ (x ∷ [])) (sym e) in
    let theirs : take (i + 1) places ≡ take i places ++ (get_or places i 0 ∷ []) = take_more places i 0 (omega (arith, h, g)) in
    rw (columns, theirs) (push (take i cs) (take i places) a) where
      push : (ds : List Field) (qs : List ℕ) → AreKnownAt is_ascii numbers ds qs → AreKnownAt is_ascii numbers (ds ++ (c ∷ [])) (qs ++ (get_or places i 0 ∷ []))
      push [] [] a = (k, tt)
      push [] (q ∷ qs) a = absurd a
      push (d ∷ ds) [] a = absurd a
      push (d ∷ ds) (q ∷ qs) a = (a.0, push ds qs a.1)

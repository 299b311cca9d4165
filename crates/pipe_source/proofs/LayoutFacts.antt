-- Where columns stand in a header that names each of them once.
use Rattle.std.proofs.Common.{◌≡◌, ◌∙◌, ◌≤◌, ◌<◌, ◌+◌, ◌-◌, ◌||◌, ℕ, zero, suc, Bool, true, false, List, [], ◌∷◌, ◌++◌, length, drop, get_or, is_some, Option, Some, None, Result, Ok, Err, refl, sym, ap, arith, if◌then◌else◌}
use Rattle.std.specs.Option.{ok_or}
use Rattle.std.specs.Str.{bytes_eq}
use Rattle.std.proofs.lemmas.List.{append-nil, drop_all, drop_more}
use Rattle.std.proofs.lemmas.Option.{none-some, same_Some}
use Rattle.pipe_columns.specs.declared.schema.Field.{Field}
use Rattle.pipe_csv.specs.CsvRows.{Misfit, after, in_front}
use Rattle.pipe_csv.proofs.ReadFacts.{after-ok, same_Ok}
use Rattle.pipe_csv.proofs.RowFacts.{front-front, front-none}
use Rattle.pipe_source.specs.Layout.{ArePlacedIn, first_place}
use Rattle.pipe_source.specs.NamedRows.{has_name, not_once, place_of, places_of}

-- ---- one name

-- the first field with a name is the one there or stands behind it
pub first-here : (name t : List ℕ) (i : ℕ) (more : List (List ℕ)) → bytes_eq name t ≡ true → first_place name i (t ∷ more) ≡ Some i
first-here name t i more e = rw e refl

pub first-later : (name t : List ℕ) (i : ℕ) (more : List (List ℕ)) → bytes_eq name t ≡ false → first_place name i (t ∷ more) ≡ first_place name (i + 1) more
first-later name t i more e = rw e refl

-- there is none where no field has the name
none-first : (name : List ℕ) (i : ℕ) (ts : List (List ℕ)) → first_place name i ts ≡ None → has_name name ts ≡ false
none-first name i [] e = refl
none-first name i (t ∷ ts) e = by (bytes_eq name t) refl (none-first name (i + 1) ts) where
  by : (b : Bool) → bytes_eq name t ≡ b → (first_place name (i + 1) ts ≡ None → has_name name ts ≡ false) → has_name name (t ∷ ts) ≡ false
  by true h rest = absurd (none-some i (sym e ∙ first-here name t i ts h))
  by false h rest = rw h (rest (sym (first-later name t i ts h) ∙ e))

-- and one where some has it
some-first : (name : List ℕ) (i p : ℕ) (ts : List (List ℕ)) → first_place name i ts ≡ Some p → has_name name ts ≡ true
some-first name i p [] e = absurd (none-some p e)
some-first name i p (t ∷ ts) e = by (bytes_eq name t) refl (some-first name (i + 1) p ts) where
  by : (b : Bool) → bytes_eq name t ≡ b → (first_place name (i + 1) ts ≡ Some p → has_name name ts ≡ true) → has_name name (t ∷ ts) ≡ true
  by true h rest = rw h refl
  by false h rest = rw h (rest (sym (first-later name t i ts h) ∙ e))

-- a name that isn't there has no place
pub place-none : (name : List ℕ) (i : ℕ) (ts : List (List ℕ)) → first_place name i ts ≡ None → place_of name i ts ≡ None
place-none name i [] e = refl
place-none name i (t ∷ ts) e = by (bytes_eq name t) refl (place-none name (i + 1) ts) where
  by : (b : Bool) → bytes_eq name t ≡ b → (first_place name (i + 1) ts ≡ None → place_of name (i + 1) ts ≡ None) → place_of name i (t ∷ ts) ≡ None
  by true h rest = absurd (none-some i (sym e ∙ first-here name t i ts h))
  by false h rest = rw h (rest (sym (first-later name t i ts h) ∙ e))

-- the rest behind the first of the rest
rest-behind : (all : List (List ℕ)) (i : ℕ) (t : List ℕ) (ts : List (List ℕ)) → t ∷ ts ≡ drop i all → ts ≡ drop (i + 1) all
rest-behind [] zero t ts e = cc
rest-behind [] (suc i) t ts e = cc
rest-behind (x ∷ xs) zero t ts e = cc
rest-behind (x ∷ xs) (suc i) t ts e = let n : suc i + 1 ≡ suc (i + 1) = omega arith in rw n (rest-behind xs i t ts e)

-- the first place of a name is its place, where no field behind it has the name
pub place-once : (name : List ℕ) (all : List (List ℕ)) (i p : ℕ) (ts : List (List ℕ)) → ts ≡ drop i all → first_place name i ts ≡ Some p → first_place name (p + 1) (drop (p + 1) all) ≡ None → place_of name i ts ≡ Some p
place-once name all i p [] d e n = absurd (none-some p e)
place-once name all i p (t ∷ ts) d e n = by (bytes_eq name t) refl (λ first. place-once name all (i + 1) p ts (rest-behind all i t ts d) first n) where
  by : (b : Bool) → bytes_eq name t ≡ b → (first_place name (i + 1) ts ≡ Some p → place_of name (i + 1) ts ≡ Some p) → place_of name i (t ∷ ts) ≡ Some p
  by true h later =
      let here : i ≡ p = same_Some i p (sym (first-here name t i ts h) ∙ e) in
      let rest : ts ≡ drop (p + 1) all = rest-behind all i t ts d ∙ ap (λ k. drop (k + 1) all) here in
      let none : has_name name ts ≡ false = ap (has_name name) rest ∙ none-first name (p + 1) (drop (p + 1) all) n in
      rw (h, none) (ap Some here)
  by false h later = rw h (later (sym (first-later name t i ts h) ∙ e))

-- it isn't, where one has
pub place-twice : (name : List ℕ) (all : List (List ℕ)) (i p q : ℕ) (ts : List (List ℕ)) → ts ≡ drop i all → first_place name i ts ≡ Some p → first_place name (p + 1) (drop (p + 1) all) ≡ Some q → place_of name i ts ≡ None
place-twice name all i p q [] d e n = refl
place-twice name all i p q (t ∷ ts) d e n = by (bytes_eq name t) refl (λ first. place-twice name all (i + 1) p q ts (rest-behind all i t ts d) first n) where
  by : (b : Bool) → bytes_eq name t ≡ b → (first_place name (i + 1) ts ≡ Some p → place_of name (i + 1) ts ≡ None) → place_of name i (t ∷ ts) ≡ None
  by true h later =
      let here : i ≡ p = same_Some i p (sym (first-here name t i ts h) ∙ e) in
      let rest : ts ≡ drop (p + 1) all = rest-behind all i t ts d ∙ ap (λ k. drop (k + 1) all) here in
      let some : has_name name ts ≡ true = ap (has_name name) rest ∙ some-first name (p + 1) q (drop (p + 1) all) n in
      rw (h, some) refl
  by false h later = rw h (later (sym (first-later name t i ts h) ∙ e))

-- a place lies within its header
place-within : (name : List ℕ) (i p : ℕ) (ts : List (List ℕ)) → place_of name i ts ≡ Some p → p < i + length ts
place-within name i p [] e = absurd (none-some p e)
place-within name i p (t ∷ ts) e = by (bytes_eq name t) (has_name name ts) refl refl (place-within name (i + 1) p ts) where
  by : (b more : Bool) → bytes_eq name t ≡ b → has_name name ts ≡ more → (place_of name (i + 1) ts ≡ Some p → p < i + 1 + length ts) → p < i + length (t ∷ ts)
  by true true h g rest = absurd (none-some p (rw (h, g) at e))
  by true false h g rest = let here : i ≡ p = same_Some i p (rw (h, g) at e) in omega (arith, here)
  by false more h g rest = let later = rest (rw h at e) in omega (arith, later)

-- ---- all columns

-- what has a place goes on with it, and what has none stops
pub placed-ok : (o : Option ℕ) (m : Misfit) (p : ℕ) → ok_or o m ≡ Ok p → o ≡ Some p
placed-ok None m p e = cc
placed-ok (Some q) m p e = ap Some (same_Ok {E = Misfit} q p e)

-- columns that have places fit them
pub places-fit : (file column : ℕ) (cs : List Field) (names : List (List ℕ)) (places : List ℕ) → places_of file column cs names ≡ Ok places → ArePlacedIn cs (length names) places
places-fit file column [] names places e =
    let none : [] ≡ places = same_Ok {E = Misfit} [] places e in
    rw (← none) (record { many = refl; within = λ k h. absurd (omega (arith, h)) })
places-fit file column (c ∷ cs) names places e =
    let parts = after-ok (ok_or (place_of c.name 0 names) (not_once file column)) (places_of file (column + 1) cs names) places e in
    let first = place-within c.name 0 parts.0 names (placed-ok (place_of c.name 0 names) (not_once file column) parts.0 parts.2) in
    let rest = places-fit file (column + 1) cs names parts.1 parts.3 in
    rw parts.4 (record {
      many = ap (λ (n : ℕ). suc n) rest.many;
      within = within parts.0 parts.1 (omega (arith, first)) rest.within;
    }) where
      within : (p : ℕ) (ps : List ℕ) → p < length names → ((k : ℕ) → k < length ps → get_or ps k 0 < length names) → (k : ℕ) → k < length (p ∷ ps) → get_or (p ∷ ps) k 0 < length names
      within p ps a b zero h = a
      within p ps a b (suc k) h = b k (omega (arith, h))

-- no column has its place yet
pub places-start : (file : ℕ) (cs : List Field) (names : List (List ℕ)) (done : List ℕ) → done ≡ [] → places_of file 1 cs names ≡ in_front done (places_of file 1 cs names)
places-start file cs names done e = rw e (front-none (places_of file 1 cs names))

-- the column at a place, and those behind it
column-here : (cs : List Field) (i : ℕ) (c : Field) → i < length cs → c ≡ get_or cs i c → drop i cs ≡ c ∷ drop (i + 1) cs
column-here cs i c h e = drop_more cs i c h ∙ ap (λ (x : Field). x ∷ drop (i + 1) cs) (sym e)

-- a column that is there once is one more
pub places-more : (file : ℕ) (cs : List Field) (names : List (List ℕ)) (whole : Result (List ℕ) Misfit) (i p : ℕ) (done : List ℕ) (c : Field) → whole ≡ in_front done (places_of file (i + 1) (drop i cs) names) → i < length cs → c ≡ get_or cs i c → place_of c.name 0 names ≡ Some p
    → whole ≡ in_front (done ++ (p ∷ [])) (places_of file (i + 1 + 1) (drop (i + 1) cs) names)
places-more file cs names whole i p done c w h e s =
    let tail : Result (List ℕ) Misfit = places_of file (i + 1 + 1) (drop (i + 1) cs) names in
    let step : places_of file (i + 1) (drop i cs) names ≡ in_front (p ∷ []) tail = rw (column-here cs i c h e, s) refl in
    w ∙ ap (in_front done) step ∙ front-front done (p ∷ []) tail

-- one that isn't is the misfit
pub places-stop : (file : ℕ) (cs : List Field) (names : List (List ℕ)) (whole : Result (List ℕ) Misfit) (i : ℕ) (done : List ℕ) (c : Field) → whole ≡ in_front done (places_of file (i + 1) (drop i cs) names) → i < length cs → c ≡ get_or cs i c → place_of c.name 0 names ≡ None
    → whole ≡ Err (not_once file (i + 1))
places-stop file cs names whole i done c w h e s =
    let step : places_of file (i + 1) (drop i cs) names ≡ Err (not_once file (i + 1)) = rw (column-here cs i c h e, s) refl in
    w ∙ ap (in_front done) step

-- all have their places
pub places-end : (file : ℕ) (cs : List Field) (names : List (List ℕ)) (whole : Result (List ℕ) Misfit) (i : ℕ) (done : List ℕ) → whole ≡ in_front done (places_of file (i + 1) (drop i cs) names) → length cs ≤ i → whole ≡ Ok done
places-end file cs names whole i done w h =
    let none : places_of file (i + 1) (drop i cs) names ≡ Ok [] = rw (drop_all i cs h) refl in
    w ∙ ap (in_front done) none ∙ ap Ok (append-nil done)

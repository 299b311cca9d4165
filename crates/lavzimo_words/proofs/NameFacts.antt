-- The names of an answer's columns: what stands in front of their endings is told apart.
use Rattle.std.proofs.Common.{◌≡◌, ◌∙◌, ◌++◌, ℕ, Bool, true, false, cond, List, [], ◌∷◌, map, flat_map, bytes_eq, Option, Some, None, codes, refl, sym, ap, arith}
use Rattle.std.specs.List.{list_any}
use Rattle.std.proofs.lemmas.Bool.{false_from_ne_true, or_from, or_parts, true≢false}
use Rattle.std.proofs.lemmas.List.{append_cancel_right}
use Rattle.std.proofs.lemmas.List.Folds.{list_any-append}
use Rattle.std.proofs.lemmas.Option.{none-some}
use Rattle.std.proofs.lemmas.Slice.Eq.{bytes_eq-Decides}
use Rattle.pipe_aggs.specs.Faults.{has_double}
use Rattle.lavzimo_words.specs.Shown.{first_double, has_name}
use Rattle.lavzimo_words.specs.declared.asked_column.AskedColumn.{AskedColumn}
use Rattle.lavzimo_words.specs.declared.role.Role.{Role}
use Rattle.lavzimo_words.specs.declared.role.Role.TheVariants as role

-- how a name ends
pub data Ending : Type 0 where
  key : Ending
  sum : Ending
  count : Ending
  value : Ending

abbrev pub text_of : Ending → List ℕ
text_of key = codes "_key"
text_of sum = codes "_sum"
text_of count = codes "_count"
text_of value = codes "_value"

-- how names of a role's columns end
abbrev pub endings_of : Role → List Ending
endings_of role.Key = key ∷ []
endings_of role.Rows = value ∷ []
endings_of role.Values = value ∷ []
endings_of role.Sum = sum ∷ count ∷ []
endings_of role.Mean = sum ∷ count ∷ []
endings_of role.Least = value ∷ []
endings_of role.Greatest = value ∷ []
endings_of role.First = value ∷ []
endings_of role.Last = value ∷ []

-- a name with endings
abbrev pub with_endings : List ℕ → List Ending → List (List ℕ)
with_endings name es = map (λ e. name ++ text_of e) es

-- the names of a column in the answer
abbrev pub names_of : AskedColumn → List (List ℕ)
names_of c = with_endings c.name (endings_of c.role)

-- ---- the last byte

abbrev last : List ℕ → ℕ
last [] = 0
last (x ∷ []) = x
last (x ∷ y ∷ ys) = last (y ∷ ys)

last-behind : (xs : List ℕ) (y : ℕ) (ys : List ℕ) → last (xs ++ y ∷ ys) ≡ last (y ∷ ys)
last-behind [] y ys = refl
last-behind (x ∷ []) y ys = refl
last-behind (x ∷ z ∷ xs) y ys = last-behind (z ∷ xs) y ys

last-of : (name : List ℕ) (e : Ending) → last (name ++ text_of e) ≡ last (text_of e)
last-of name key = last-behind name _ _
last-of name sum = last-behind name _ _
last-of name count = last-behind name _ _
last-of name value = last-behind name _ _

-- texts that are the same end in the same byte
ends-same : (a b : List ℕ) (e f : Ending) → a ++ text_of e ≡ b ++ text_of f → last (text_of e) ≡ last (text_of f)
ends-same a b e f h = sym (last-of a e) ∙ ap last h ∙ last-of b f

-- names with endings that are the same are the same
same-names : (a b : List ℕ) (e f : Ending) → a ++ text_of e ≡ b ++ text_of f → a ≡ b
same-names a b key key h = append_cancel_right a b (codes "_key") h
same-names a b sum sum h = append_cancel_right a b (codes "_sum") h
same-names a b count count h = append_cancel_right a b (codes "_count") h
same-names a b value value h = append_cancel_right a b (codes "_value") h
same-names a b key sum h = let k = ends-same a b key sum h in absurd (omega (arith, k))
same-names a b key count h = let k = ends-same a b key count h in absurd (omega (arith, k))
same-names a b key value h = let k = ends-same a b key value h in absurd (omega (arith, k))
same-names a b sum key h = let k = ends-same a b sum key h in absurd (omega (arith, k))
same-names a b sum count h = let k = ends-same a b sum count h in absurd (omega (arith, k))
same-names a b sum value h = let k = ends-same a b sum value h in absurd (omega (arith, k))
same-names a b count key h = let k = ends-same a b count key h in absurd (omega (arith, k))
same-names a b count sum h = let k = ends-same a b count sum h in absurd (omega (arith, k))
same-names a b count value h = let k = ends-same a b count value h in absurd (omega (arith, k))
same-names a b value key h = let k = ends-same a b value key h in absurd (omega (arith, k))
same-names a b value sum h = let k = ends-same a b value sum h in absurd (omega (arith, k))
same-names a b value count h = let k = ends-same a b value count h in absurd (omega (arith, k))

apart : (a b : List ℕ) (e f : Ending) → bytes_eq a b ≡ false → bytes_eq (a ++ text_of e) (b ++ text_of f) ≡ false
apart a b e f h = false_from_ne_true (bytes_eq (a ++ text_of e) (b ++ text_of f))
    (λ same. true≢false (sym ((bytes_eq-Decides a b).1 (same-names a b e f ((bytes_eq-Decides (a ++ text_of e) (b ++ text_of f)).0 same))) ∙ h))

-- a count isn't named as its sum
count-apart : (a : List ℕ) → bytes_eq (a ++ codes "_count") (a ++ codes "_sum") ≡ false
count-apart a = false_from_ne_true (bytes_eq (a ++ codes "_count") (a ++ codes "_sum"))
    (λ same. let k = ends-same a a count sum ((bytes_eq-Decides (a ++ codes "_count") (a ++ codes "_sum")).0 same) in absurd (omega (arith, k)))

-- the key that all rows have isn't named as a column
literal-apart : (a : List ℕ) (e : Ending) → bytes_eq (a ++ text_of e) (codes "literal") ≡ false
literal-apart a e = false_from_ne_true (bytes_eq (a ++ text_of e) (codes "literal"))
    (λ same. ends-else e (sym (last-of a e) ∙ ap last ((bytes_eq-Decides (a ++ text_of e) (codes "literal")).0 same)))
  where
    ends-else : (f : Ending) → last (text_of f) ≡ last (codes "literal") → ⊥
    ends-else key k = omega (arith, k)
    ends-else sum k = omega (arith, k)
    ends-else count k = omega (arith, k)
    ends-else value k = omega (arith, k)

-- ---- all names

-- none of a column's names is a text that none with its endings is
none-of : (t a : List ℕ) (es : List Ending) → ((e : Ending) → bytes_eq (a ++ text_of e) t ≡ false) → list_any (λ m. bytes_eq m t) (with_endings a es) ≡ false
none-of t a [] h = refl
none-of t a (e ∷ es) h = or_from (bytes_eq (a ++ text_of e) t) (list_any (λ m. bytes_eq m t) (with_endings a es)) (h e) (none-of t a es h)

none-more : (t : List ℕ) (c : AskedColumn) (rest : List (List ℕ)) → ((e : Ending) → bytes_eq (c.name ++ text_of e) t ≡ false) → list_any (λ m. bytes_eq m t) rest ≡ false → list_any (λ m. bytes_eq m t) (names_of c ++ rest) ≡ false
none-more t c rest h none = list_any-append (λ m. bytes_eq m t) (names_of c) rest ∙ or_from (list_any (λ m. bytes_eq m t) (names_of c)) (list_any (λ m. bytes_eq m t) rest) (none-of t c.name (endings_of c.role) h) none

-- of columns that don't have a name none has it with an ending
away : (cs : List AskedColumn) (name : List ℕ) (f : Ending) → has_name cs name ≡ false → list_any (λ m. bytes_eq m (name ++ text_of f)) (flat_map names_of cs) ≡ false
away [] name f h = refl
away (c ∷ cs) name f h =
    let both = or_parts (bytes_eq c.name name) (has_name cs name) h in
    none-more (name ++ text_of f) c (flat_map names_of cs) (λ e. apart c.name name e f both.0) (away cs name f both.1)

-- none is named as the key that all rows have
pub no-literal : (cs : List AskedColumn) → list_any (λ m. bytes_eq m (codes "literal")) (flat_map names_of cs) ≡ false
no-literal [] = refl
no-literal (c ∷ cs) = none-more (codes "literal") c (flat_map names_of cs) (literal-apart c.name) (no-literal cs)

-- one name in front of others, or the two of a sum
one-front : (a : List ℕ) (e : Ending) (rest : List (List ℕ)) → list_any (λ m. bytes_eq m (a ++ text_of e)) rest ≡ false → has_double rest ≡ false → has_double ((a ++ text_of e) ∷ rest) ≡ false
one-front a e rest none h = or_from (list_any (λ m. bytes_eq m (a ++ text_of e)) rest) (has_double rest) none h

front : (r : Role) (a : List ℕ) (rest : List (List ℕ)) → ((e : Ending) → list_any (λ m. bytes_eq m (a ++ text_of e)) rest ≡ false) → has_double rest ≡ false → has_double (with_endings a (endings_of r) ++ rest) ≡ false
front role.Key a rest none h = one-front a key rest (none key) h
front role.Rows a rest none h = one-front a value rest (none value) h
front role.Values a rest none h = one-front a value rest (none value) h
front role.Sum a rest none h = one-front a sum ((a ++ codes "_count") ∷ rest) (or_from (bytes_eq (a ++ codes "_count") (a ++ codes "_sum")) _ (count-apart a) (none sum)) (one-front a count rest (none count) h)
front role.Mean a rest none h = one-front a sum ((a ++ codes "_count") ∷ rest) (or_from (bytes_eq (a ++ codes "_count") (a ++ codes "_sum")) _ (count-apart a) (none sum)) (one-front a count rest (none count) h)
front role.Least a rest none h = one-front a value rest (none value) h
front role.Greatest a rest none h = one-front a value rest (none value) h
front role.First a rest none h = one-front a value rest (none value) h
front role.Last a rest none h = one-front a value rest (none value) h

-- the first name stands nowhere behind, and no other stands twice
apart-parts : (b : Bool) (name : List ℕ) (o : Option (List ℕ)) → cond b (Some name) o ≡ None → (b ≡ false) × (o ≡ None)
apart-parts true name o h = absurd (none-some name (sym h))
apart-parts false name o h = (refl, h)

-- names that are told apart are told apart with their endings
pub no-double : (cs : List AskedColumn) → first_double cs ≡ None → has_double (flat_map names_of cs) ≡ false
no-double [] h = refl
no-double (c ∷ cs) h =
    let both = apart-parts (has_name cs c.name) c.name (first_double cs) h in
    front c.role c.name (flat_map names_of cs) (λ e. away cs c.name e both.0) (no-double cs both.1)

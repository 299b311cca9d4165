-- The columns that a query names: each once, and of the type that a column of its name has.
use Rattle.std.proofs.Common.{◌≡◌, ◌∙◌, ◌++◌, ◌||◌, ℕ, Bool, true, false, List, [], ◌∷◌, fold, bytes_eq, Some, refl, sym, ap}
use Rattle.std.specs.List.{AllByRecursion, list_all, list_any}
use Rattle.std.proofs.lemmas.Bool.{and_from, cond_both, false_from_ne_true, or_from, or_parts, true≢false}
use Rattle.std.proofs.lemmas.List.{map-append}
use Rattle.std.proofs.lemmas.List.Folds.{list_all-append, list_any-append}
use Rattle.std.proofs.lemmas.Slice.Eq.{bytes_eq-Decides}
use Rattle.pipe_columns.specs.declared.data_type.DataType.{DataType}
use Rattle.pipe_columns.specs.declared.schema.Field.{Field}
use Rattle.pipe_columns.specs.DataType.{is_input}
use Rattle.pipe_aggs.specs.Faults.{field_names, has_double}
use Rattle.pipe_model.specs.Expr as expr
use Rattle.pipe_model.specs.Typing.{type_of}
use Rattle.lavzimo_words.specs.AskedQuery.{has_field, is_there, named_fields, with_field}
use Rattle.lavzimo_words.specs.Roles.{is_rows}
use Rattle.lavzimo_words.specs.declared.asked_column.AskedColumn.{AskedColumn}

-- texts that aren't the same aren't the other way round
pub turned-apart : (a b : List ℕ) → bytes_eq a b ≡ false → bytes_eq b a ≡ false
turned-apart a b h = false_from_ne_true (bytes_eq b a) (λ same. true≢false (sym ((bytes_eq-Decides a b).1 (sym ((bytes_eq-Decides b a).0 same))) ∙ h))

-- names of which no two are the same, and one more
pub distinct-push : (ns : List (List ℕ)) (n : List ℕ) → has_double ns ≡ false → list_any (λ m. bytes_eq m n) ns ≡ false → has_double (ns ++ n ∷ []) ≡ false
distinct-push [] n h new = refl
distinct-push (m ∷ ns) n h new =
    let old = or_parts (list_any (λ k. bytes_eq k m) ns) (has_double ns) h in
    let apart = or_parts (bytes_eq m n) (list_any (λ k. bytes_eq k n) ns) new in
    let last : (list_any (λ k. bytes_eq k m) (ns ++ n ∷ [])) ≡ false =
    list_any-append (λ k. bytes_eq k m) ns (n ∷ []) ∙ or_from (list_any (λ k. bytes_eq k m) ns) _ old.0 (or_from (bytes_eq n m) false (turned-apart m n apart.0) refl) in
    or_from (list_any (λ k. bytes_eq k m) (ns ++ n ∷ [])) (has_double (ns ++ n ∷ [])) last (distinct-push ns n old.1 apart.1)

-- fields of distinct names, each of the type that a column of its name has
pub record AreOf (types : List ℕ → DataType) (fields : List Field) : Type 0 where
  pub distinct : has_double (field_names fields) ≡ false
  pub typed : AllByRecursion (λ f. f.dtype ≡ types f.name) fields
  pub read : list_all (λ f. is_input f.dtype) fields ≡ true

all-push : {A : Type 0} (P : A → Type 0) (xs : List A) (x : A) → AllByRecursion P xs → P x → AllByRecursion P (xs ++ x ∷ [])
all-push P [] x h p = (p, tt)
all-push P (y ∷ xs) x h p = (h.0, all-push P xs x h.1 p)

named-any : (name : List ℕ) (fields : List Field) → list_any (λ m. bytes_eq m name) (field_names fields) ≡ has_field fields name
named-any name [] = refl
named-any name (f ∷ fields) = ap (λ b. bytes_eq f.name name || b) (named-any name fields)

of-more : (types : List ℕ → DataType) (fields : List Field) (c : AskedColumn) → AreOf types fields → c.dtype ≡ types c.column → is_input c.dtype ≡ true → AreOf types (with_field fields c)
of-more types fields c h typed read =
    let new : Field = record { name = c.column; dtype = c.dtype } in
    cond_both (is_there fields c) fields (fields ++ new ∷ []) (AreOf types) (λ _. h)
    (λ none.
    let absent : list_any (λ m. bytes_eq m c.column) (field_names fields) ≡ false = named-any c.column fields ∙ (or_parts (is_rows c.role) (has_field fields c.column) none).1 in
    record {
      distinct = ap has_double (map-append (λ f. f.name) fields (new ∷ [])) ∙ distinct-push (field_names fields) c.column h.distinct absent;
      typed = all-push (λ f. f.dtype ≡ types f.name) fields new h.typed typed;
      read = list_all-append (λ f. is_input f.dtype) fields (new ∷ []) ∙ and_from (list_all (λ f. is_input f.dtype) fields) _ h.read (and_from (is_input c.dtype) true read refl);
    })

of-all : (types : List ℕ → DataType) (cs : List AskedColumn) (fields : List Field) → AreOf types fields → AllByRecursion (λ c. c.dtype ≡ types c.column) cs → AllByRecursion (λ c. is_input c.dtype ≡ true) cs
    → AreOf types (fold with_field fields cs)
of-all types [] fields h typed read = h
of-all types (c ∷ cs) fields h typed read = of-all types cs (with_field fields c) (of-more types fields c h typed.0 read.0) typed.1 read.1

-- the columns that are named are so
pub named-of : (types : List ℕ → DataType) (cs : List AskedColumn) → AllByRecursion (λ c. c.dtype ≡ types c.column) cs → AllByRecursion (λ c. is_input c.dtype ≡ true) cs → AreOf types (named_fields cs)
named-of types cs typed read = of-all types cs [] (record { distinct = refl; typed = tt; read = refl }) typed read

-- ---- each column is there

or-kept : (x y z : Bool) → (y ≡ true → z ≡ true) → (x || y) ≡ true → (x || z) ≡ true
or-kept true y z f h = refl
or-kept false y z f h = f h

field-kept : (fields : List Field) (new : Field) (name : List ℕ) → has_field fields name ≡ true → has_field (fields ++ new ∷ []) name ≡ true
field-kept (f ∷ fields) new name h = or-kept (bytes_eq f.name name) (has_field fields name) (has_field (fields ++ new ∷ []) name) (field-kept fields new name) h
field-kept [] new name h = absurd (true≢false (sym h))

there-kept : (fields : List Field) (c d : AskedColumn) → is_there fields d ≡ true → is_there (with_field fields c) d ≡ true
there-kept fields c d h =
    let new : Field = record { name = c.column; dtype = c.dtype } in
    cond_both (is_there fields c) fields (fields ++ new ∷ []) (λ fs. is_there fs d ≡ true) (λ _. h)
    (λ _. or-kept (is_rows d.role) (has_field fields d.column) (has_field (fields ++ new ∷ []) d.column) (field-kept fields new d.column) h)

kept-all : (cs : List AskedColumn) (fields : List Field) (d : AskedColumn) → is_there fields d ≡ true → is_there (fold with_field fields cs) d ≡ true
kept-all [] fields d h = h
kept-all (c ∷ cs) fields d h = kept-all cs (with_field fields c) d (there-kept fields c d h)

last-there : (fields : List Field) (new : Field) → has_field (fields ++ new ∷ []) new.name ≡ true
last-there [] new = ap (λ b. b || false) ((bytes_eq-Decides new.name new.name).1 refl)
last-there (f ∷ fields) new = or-true (bytes_eq f.name new.name) _ (last-there fields new)
  where
    or-true : (x y : Bool) → y ≡ true → (x || y) ≡ true
    or-true true y h = refl
    or-true false y h = h

own-there : (fields : List Field) (c : AskedColumn) → is_there (with_field fields c) c ≡ true
own-there fields c =
    let new : Field = record { name = c.column; dtype = c.dtype } in
    cond_both (is_there fields c) fields (fields ++ new ∷ []) (λ fs. is_there fs c ≡ true) (λ h. h) (λ _. or-kept (is_rows c.role) true _ (λ _. last-there fields new) (or-last (is_rows c.role)))
  where
    or-last : (b : Bool) → (b || true) ≡ true
    or-last true = refl
    or-last false = refl

all-there : (cs : List AskedColumn) (fields : List Field) → AllByRecursion (λ c. is_there (fold with_field fields cs) c ≡ true) cs
all-there [] fields = tt
all-there (c ∷ cs) fields = (kept-all cs (with_field fields c) c (own-there fields c), all-there cs (with_field fields c))

pub named-there : (cs : List AskedColumn) → AllByRecursion (λ c. is_there (named_fields cs) c ≡ true) cs
named-there cs = all-there cs []

-- a column that is there has the type of its name
pub type-there : (types : List ℕ → DataType) (fields : List Field) (name : List ℕ) → AllByRecursion (λ f. f.dtype ≡ types f.name) fields → has_field fields name ≡ true → type_of (expr.column name) fields ≡ Some (types name)
type-there types [] name typed h = absurd (true≢false (sym h))
type-there types (f ∷ fields) name typed h = by (bytes_eq f.name name) refl (type-there types fields name typed.1) h
  where
    by : (b : Bool) → bytes_eq f.name name ≡ b → (has_field fields name ≡ true → type_of (expr.column name) fields ≡ Some (types name)) → (b || has_field fields name) ≡ true
        → type_of (expr.column name) (f ∷ fields) ≡ Some (types name)
    by true e rest k = rw e (ap Some (typed.0 ∙ ap types ((bytes_eq-Decides f.name name).0 e)))
    by false e rest k = rw e (rest k)

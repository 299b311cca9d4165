-- The distinct tuples of state rows are those of the rows.
use Rattle.std.proofs.Common.{◌≡◌, ◌∙◌, List, [], ◌∷◌, ◌++◌, ◌⊎◌, inl, inr, map, refl, sym, ap, subst}
use Rattle.std.proofs.lemmas.List.{map-append}
use mathlib.Core.List.{map-map}
use Rattle.pipe_columns.specs.declared.any_value.AnyValue.{AnyValue}
use Rattle.pipe_columns.specs.Groups.{sorted_keys}
use Rattle.pipe_columns.specs.Row.{Row}
use Rattle.pipe_columns.proofs.AscendingFacts.{any_keys, AnyKey, exact_on, sorted-ascending, sorted-from, sorted-has_on, sorted_sole}
use Rattle.pipe_columns.proofs.ElementFacts.{Has, same_elements}
use Rattle.pipe_columns.proofs.ValueOrder.{tuples_tie, tuples_total}
use Rattle.pipe_model.specs.Answer.{tuple_cmp}
use Rattle.pipe_model.specs.Query.{QueryTree}
use Rattle.pipe_model.specs.Rows.{keys_of}
use Rattle.pipe_model.proofs.JoinFacts.{has-either, has-first, has-second}
use Rattle.pipe_states.specs.Parts.{Part, rows_of_parts, saved}
use Rattle.pipe_states.specs.Regrouped.{rows_of_states}
use Rattle.pipe_states.specs.States.{state_row, state_rows, tuples_of}
use Rattle.pipe_states.specs.declared.state_row.StateRow.{StateRow}
use Rattle.pipe_states.proofs.SplitFacts.{with_part}

-- ---- elements of images

module _ {A B : Type 0} (f : A → B) where
  -- the image of an element is one of the images
  pub has-image : (x : A) (xs : List A) → Has x xs → Has (f x) (map f xs)
  has-image x [] m = absurd m
  has-image x (y ∷ ys) (inl e) = inl (ap f e)
  has-image x (y ∷ ys) (inr m) = inr (has-image x ys m)

  -- and each image is that of an element
  pub image-of : (y : B) (xs : List A) → Has y (map f xs) → (x : A) × Has x xs × (y ≡ f x)
  image-of y [] m = absurd m
  image-of y (x ∷ xs) (inl e) = (x, inl refl, e)
  image-of y (x ∷ xs) (inr m) = let rest = image-of y xs m in (rest.0, inr rest.1, rest.2)

  -- so images of elements of another list are among its images
  pub images-into : (y : B) (xs others : List A) → ((x : A) → Has x xs → Has x others) → Has y (map f xs) → Has y (map f others)
  images-into y xs others h m = let found = image-of y xs m in subst (λ (z : B). Has z (map f others)) (sym found.2) (has-image found.0 others (h found.0 found.1))

-- ---- sorted tuples

-- lists with the same tuples sort alike
pub same-sorted : (keys others : List (List AnyValue)) → ((k : List AnyValue) → Has k others → Has k keys) → ((k : List AnyValue) → Has k keys → Has k others)
    → sorted_keys tuple_cmp others ≡ sorted_keys tuple_cmp keys
same-sorted keys others f g =
    sorted_sole AnyKey tuple_cmp (exact_on tuple_cmp tuples_total tuples_tie) keys (sorted_keys tuple_cmp others) (any_keys keys) (record {
      ascending = sorted-ascending tuple_cmp tuples_total others;
      same = same_elements (sorted_keys tuple_cmp others) keys
          (λ k m. f k (sorted-from tuple_cmp k others m))
          (λ k m. sorted-has_on AnyKey tuple_cmp (exact_on tuple_cmp tuples_total tuples_tie) k others (any_keys others) (g k m));
    })

-- ---- tuples of parts

module _ (q : QueryTree) (part : List AnyValue → List AnyValue) where
  -- the parts of the keys of state rows
  abbrev of_states : List Part → List (List AnyValue)
  of_states parts = map (λ r. part r.key) (rows_of_states (map (saved q) parts))

  -- and those of rows
  abbrev of_rows : List Part → List (List AnyValue)
  of_rows parts = keys_of (map (with_part part) (rows_of_parts parts))

  -- the first part of each
  states-first : (x : Part) (parts : List Part) → of_states (x ∷ parts) ≡ map part (tuples_of x.rows) ++ of_states parts
  states-first x parts =
      map-append (λ (r : StateRow). part r.key) (state_rows q x.rows) (rows_of_states (map (saved q) parts))
      ∙ ap (λ (l : List (List AnyValue)). l ++ of_states parts) (map-map (λ (r : StateRow). part r.key) (state_row q x.rows) (tuples_of x.rows))

  rows-first : (x : Part) (parts : List Part) → of_rows (x ∷ parts) ≡ map part (keys_of x.rows) ++ of_rows parts
  rows-first x parts =
      ap keys_of (map-append (with_part part) x.rows (rows_of_parts parts))
      ∙ map-append (λ (r : Row). r.key) (map (with_part part) x.rows) (map (with_part part) (rows_of_parts parts))
      ∙ ap (λ (l : List (List AnyValue)). l ++ of_rows parts)
      (map-map (λ (r : Row). r.key) (with_part part) x.rows ∙ sym (map-map part (λ (r : Row). r.key) x.rows))

  -- each of the first is one of the second
  into_rows : (parts : List Part) (k : List AnyValue) → Has k (of_states parts) → Has k (of_rows parts)
  into_rows [] k m = m
  into_rows (x ∷ parts) k m =
      subst (Has k) (sym (rows-first x parts)) (by (has-either k (map part (tuples_of x.rows)) (of_states parts) (subst (Has k) (states-first x parts) m)) (into_rows parts k))
    where
      by : Has k (map part (tuples_of x.rows)) ⊎ Has k (of_states parts) → (Has k (of_states parts) → Has k (of_rows parts)) → Has k (map part (keys_of x.rows) ++ of_rows parts)
      by (inl h) next = has-first k (map part (keys_of x.rows)) (of_rows parts) (images-into part k (tuples_of x.rows) (keys_of x.rows) (λ y n. sorted-from tuple_cmp y (keys_of x.rows) n) h)
      by (inr h) next = has-second k (map part (keys_of x.rows)) (of_rows parts) (next h)

  -- and each of the second one of the first
  into_states : (parts : List Part) (k : List AnyValue) → Has k (of_rows parts) → Has k (of_states parts)
  into_states [] k m = m
  into_states (x ∷ parts) k m =
      subst (Has k) (sym (states-first x parts)) (by (has-either k (map part (keys_of x.rows)) (of_rows parts) (subst (Has k) (rows-first x parts) m)) (into_states parts k))
    where
      by : Has k (map part (keys_of x.rows)) ⊎ Has k (of_rows parts) → (Has k (of_rows parts) → Has k (of_states parts)) → Has k (map part (tuples_of x.rows) ++ of_states parts)
      by (inl h) next =
          has-first k (map part (tuples_of x.rows)) (of_states parts)
          (images-into part k (keys_of x.rows) (tuples_of x.rows) (λ y n. sorted-has_on AnyKey tuple_cmp (exact_on tuple_cmp tuples_total tuples_tie) y (keys_of x.rows) (any_keys (keys_of x.rows)) n) h)
      by (inr h) next = has-second k (map part (tuples_of x.rows)) (of_states parts) (next h)

  -- so they are the same, in order
  pub same_tuples : (parts : List Part) → sorted_keys tuple_cmp (of_states parts) ≡ tuples_of (map (with_part part) (rows_of_parts parts))
  same_tuples parts = same-sorted (of_rows parts) (of_states parts) (into_rows parts) (into_states parts)

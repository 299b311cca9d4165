-- Values that are taken out of lists, a row at a time.
use Rattle.std.proofs.Common.{◌≡◌, ◌∙◌, ℕ, zero, suc, ◌+◌, ◌<◌, List, [], ◌∷◌, ◌++◌, length, map, take, drop, get_or, set, refl, sym, ap, arith}
use Rattle.std.specs.List.{range_with_len}
use Rattle.std.proofs.lemmas.List.{drop-drop, drop-set-lt, map-append, take_more}
use Rattle.std.proofs.lemmas.List.FromFn.{map-range_with_len_more}
use Rattle.pipe_columns.specs.declared.any_value.AnyValue.{AnyValue}
use Rattle.pipe_columns.specs.declared.place.Place.{Place}
use Rattle.pipe_columns.specs.Frame.{value_at}
use Rattle.pipe_saving.specs.declared.extent.Extent.{Extent}
use Rattle.pipe_saving.specs.Lists.{row_in, values_in}
use Rattle.pipe_states.specs.declared.state_row.StateRow.{StateRow}

-- lists of values
abbrev Lists : Type 0
Lists = List (List AnyValue)

-- lists have the same values from a number on
abbrev pub SameFrom : ℕ → Lists → Lists → Type 0
SameFrom n a b = map (drop n) a ≡ map (drop n) b

-- ---- from a number on

-- a value is the first from its number on
value-from : (n : ℕ) (l : List AnyValue) → value_at (drop n l) 0 ≡ value_at l n
value-from zero l = refl
value-from (suc n) [] = refl
value-from (suc n) (v ∷ l) = value-from n l

values-from : (n : ℕ) (lists : Lists) → values_in 0 (map (drop n) lists) ≡ values_in n lists
values-from n [] = refl
values-from n (l ∷ lists) = λ i. value-from n l i ∷ values-from n lists i

-- lists that are the same from a number on have the same values there
pub values-same : (n : ℕ) (a b : Lists) → SameFrom n a b → values_in n a ≡ values_in n b
values-same n a b h = sym (values-from n a) ∙ ap (values_in 0) h ∙ values-from n b

-- and behind it
behind : (n : ℕ) (lists : Lists) → map (drop (n + 1)) lists ≡ map (drop 1) (map (drop n) lists)
behind n [] = refl
behind n (l ∷ lists) = λ i. sym (drop-drop 1 n l) i ∷ behind n lists i

pub same-behind : (n : ℕ) (a b : Lists) → SameFrom n a b → SameFrom (n + 1) a b
same-behind n a b h = behind n a ∙ ap (map (drop 1)) h ∙ sym (behind n b)

-- ---- one list changed

-- an image that stays
image-stays : {X Y : Type 0} (f : X → Y) (xs : List X) (i : ℕ) (y d : X) → f y ≡ f (get_or xs i d) → map f (set xs i y) ≡ map f xs
image-stays f [] i y d e = refl
image-stays f (x ∷ xs) zero y d e = ap (λ (z : _). z ∷ map f xs) e
image-stays f (x ∷ xs) (suc i) y d e = ap (λ (l : List _). f x ∷ l) (image-stays f xs i y d e)

-- lists with one that is the same behind a number
pub same-set : (n : ℕ) (lists : Lists) (i : ℕ) (l d : List AnyValue) → drop n l ≡ drop n (get_or lists i d) → SameFrom n (set lists i l) lists
same-set n lists i l d e = image-stays (drop n) lists i l d e

-- what is behind an index stays
pub drop-same : (lists : Lists) (i : ℕ) (l : List AnyValue) → drop (i + 1) (set lists i l) ≡ drop (i + 1) lists
drop-same lists i l = drop-set-lt (i + 1) lists i l (omega arith)

-- ---- values in turn

-- what is read at an index is the first from it on
first-from : (lists : Lists) (i : ℕ) → get_or (drop i lists) 0 [] ≡ get_or lists i []
first-from lists zero = refl
first-from [] (suc i) = refl
first-from (l ∷ lists) (suc i) = first-from lists i

-- lists that are the same from an index on have the same list there
pub list-same : (a b : Lists) (i : ℕ) → drop i a ≡ drop i b → get_or a i [] ≡ get_or b i []
list-same a b i e = sym (first-from a i) ∙ ap (λ (l : Lists). get_or l 0 []) e ∙ first-from b i

-- and are the same behind it
pub lists-behind : (a b : Lists) (i : ℕ) → drop i a ≡ drop i b → drop (i + 1) a ≡ drop (i + 1) b
lists-behind a b i e = sym (drop-drop 1 i a) ∙ ap (drop 1) e ∙ drop-drop 1 i b

-- one value more
pub values-more : (n : ℕ) (lists : Lists) (i : ℕ) → i < length lists → values_in n (take (i + 1) lists) ≡ values_in n (take i lists) ++ value_at (get_or lists i []) n ∷ []
values-more n lists i lt = ap (values_in n) (take_more lists i [] lt) ∙ map-append (λ (l : List AnyValue). value_at l n) (take i lists) (get_or lists i [] ∷ [])

-- those of one list, and of two
pub values-of_one : (n : ℕ) (lists : Lists) → length lists ≡ 1 → values_in n lists ≡ value_at (get_or lists 0 []) n ∷ []
values-of_one n [] e = absurd (omega arith)
values-of_one n (l ∷ []) e = refl
values-of_one n (l ∷ m ∷ lists) e = absurd (omega arith)

pub values-of_two : (n : ℕ) (lists : Lists) → length lists ≡ 2 → values_in n lists ≡ value_at (get_or lists 0 []) n ∷ value_at (get_or lists 1 []) n ∷ []
values-of_two n [] e = absurd (omega arith)
values-of_two n (l ∷ []) e = absurd (omega arith)
values-of_two n (l ∷ m ∷ []) e = refl
values-of_two n (l ∷ m ∷ o ∷ lists) e = absurd (omega arith)

-- ---- rows in turn

-- one row more
pub rows-more : (keys results : Lists) (firsts : List Place) (extents : List Extent) (n : ℕ) (rows : List StateRow) (row : StateRow)
    → rows ≡ map (row_in keys results firsts extents) (range_with_len 0 n) → row ≡ row_in keys results firsts extents n
    → rows ++ row ∷ [] ≡ map (row_in keys results firsts extents) (range_with_len 0 (n + 1))
rows-more keys results firsts extents n rows row done is =
    (λ i. done i ++ is i ∷ []) ∙ sym (map-range_with_len_more (row_in keys results firsts extents) 0 n n (omega arith))

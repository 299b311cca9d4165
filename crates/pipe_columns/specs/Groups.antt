-- Grouping by a key: keys in an order, each once, and the values of each.
use Rattle.std.specs.Prelude.{◌≡◌, ◌↔◌, ⊤, List, [], ◌∷◌, map, filter, fold}
use Rattle.std.specs.List.{AllByRecursion, Contains}
use Rattle.std.specs.declared.cmp.Ordering.{Ordering}
use Rattle.std.specs.declared.cmp.Ordering.TheVariants.{Less, Equal}
use Rattle.std.specs.Ordering.{is_eq, match_ordering, ordering_reverse}

-- ascending keys with one more, each once
abbrev pub put_key : {K : Type 0} → (K → K → Ordering) → K → List K → List K
put_key order k [] = k ∷ []
put_key order k (x ∷ xs) = match_ordering (order k x) (k ∷ x ∷ xs) (x ∷ xs) (x ∷ put_key order k xs)

-- the distinct keys of a list, ascending
abbrev pub sorted_keys : {K : Type 0} → (K → K → Ordering) → List K → List K
sorted_keys order keys = fold (λ sorted k. put_key order k sorted) [] keys

-- the values that stand at a key, in order
abbrev pub values_of : {K V : Type 0} → (K → K → Ordering) → K → List (K × V) → List V
values_of order k entries = map (λ e. e.1) (filter (λ e. is_eq (order e.0 k)) entries)

-- ---- what sorted keys are

-- each key is below all those behind it
abbrev pub IsAscending : {K : Type 0} → (K → K → Ordering) → List K → Type 0
IsAscending order [] = ⊤
IsAscending order (x ∷ xs) = AllByRecursion (λ y. order x y ≡ Less) xs × IsAscending order xs

-- two lists have the same elements, however often and in whatever order
abbrev pub HaveSameElements : {K : Type 0} → List K → List K → Type 0
HaveSameElements {K} xs ys = (k : K) → Contains xs k ↔ Contains ys k

-- keys that ascend, and are those of a list
pub record AreSortedKeys {K : Type 0} (order : K → K → Ordering) (keys sorted : List K)
    : Type 0 where
  pub ascending : IsAscending order sorted
  pub same : HaveSameElements sorted keys

-- an order of the keys that have a property: it turns with its sides, and leads from key to key
pub record IsOrderOn {K : Type 0} (P : K → Type 0) (order : K → K → Ordering) : Type 0 where
  pub turns : (x y : K) → P x → P y → order x y ≡ ordering_reverse (order y x)
  pub through : (x y z : K) → P x → P y → P z
      → order x y ≡ Less → order y z ≡ Less → order x z ≡ Less

-- such an order in which only a key itself ties with it
pub record IsExactOn {K : Type 0} (P : K → Type 0) (order : K → K → Ordering) : Type 0 where
  pub total : IsOrderOn P order
  pub exact : (x y : K) → P x → P y → order x y ≡ Equal → x ≡ y

-- The states of groups in columns, group by group.
use Rattle.std.specs.List.{All}
use Rattle.std.proofs.Common.{◌≡◌, ◌≢◌, ◌∙◌, ◌+◌, ◌-◌, ◌<◌, ◌≤◌, ℕ, zero, suc, false, List, [], ◌∷◌, ◌++◌, length, map, get_or, set, refl, ap, sym, arith}
use Rattle.std.proofs.lemmas.List.{get_or-map, get_or-set_other, get_or-set_same, get_or_append_left, get_or_push, map-set}
use Rattle.std.proofs.lemmas.List.Elements.{All-head, All-tail}
use Rattle.std.proofs.Math.Seq.{map-set_same}
use Rattle.pipe_running.specs.declared.function.AggregateFunction.{AggregateFunction}
use Rattle.pipe_kinds.specs.Columns.{ColumnStates, no_state, pushed, state_at, with_state}
use Rattle.pipe_kinds.specs.Keeping.{keeps_value}
use Rattle.pipe_kinds.specs.ManyStates.{with_fresh, with_state_of}
use Rattle.pipe_kinds.specs.Stored.{fresh_in, row_in, rows_from, seen_in}

-- each column has so many states
abbrev pub AreHigh : ℕ → List ColumnStates → Type 0
AreHigh n cs = All (λ (c : ColumnStates). length c.states ≡ n) cs

-- ---- rows

pub length-rows : (cs : List ColumnStates) (i n : ℕ) → length (rows_from cs i n) ≡ n
length-rows cs i zero = refl
length-rows cs i (suc n) = ap suc (length-rows cs (suc i) n)

row-at-from : (cs : List ColumnStates) (i n k : ℕ) → k < n → get_or (rows_from cs i n) k [] ≡ row_in cs (i + k)
row-at-from cs i zero k lt = absurd (omega arith)
row-at-from cs i (suc n) zero lt = let on : i ≡ i + 0 = omega arith in ap (row_in cs) on
row-at-from cs i (suc n) (suc k) lt =
    let on : suc i + k ≡ i + suc k = omega arith in row-at-from cs (suc i) n k (omega (arith, lt)) ∙ ap (row_in cs) on

-- the states of the group at an index
pub row-at : (cs : List ColumnStates) (n k : ℕ) → k < n → get_or (rows_from cs 0 n) k [] ≡ row_in cs k
row-at cs n k lt = let on : 0 + k ≡ k = omega arith in row-at-from cs 0 n k lt ∙ ap (row_in cs) on

-- that of a column
pub cell-at : (cs : List ColumnStates) (j i : ℕ) (c : ColumnStates) → j < length cs → c ≡ get_or cs j c → get_or (row_in cs i) j no_state ≡ state_at c.states i
cell-at cs j i c lt is = get_or-map (λ (x : ColumnStates). state_at x.states i) cs j c no_state lt ∙ ap (λ (x : ColumnStates). state_at x.states i) (sym is)

-- columns with the same states at each index have the same rows
pub rows-same : (cs ds : List ColumnStates) (i n : ℕ) → ((m : ℕ) → i ≤ m → m < i + n → row_in ds m ≡ row_in cs m) → rows_from ds i n ≡ rows_from cs i n
rows-same cs ds i zero h = refl
rows-same cs ds i (suc n) h = λ k. h i (omega arith) (omega arith) k ∷ rows-same cs ds (suc i) n (λ m a b. h m (omega (arith, a)) (omega (arith, b))) k

-- one row more at the end
pub rows-last : (cs : List ColumnStates) (i n : ℕ) → rows_from cs i (suc n) ≡ rows_from cs i n ++ row_in cs (i + n) ∷ []
rows-last cs i zero = let on : i ≡ i + 0 = omega arith in ap (λ m. row_in cs m ∷ []) on
rows-last cs i (suc n) =
    let on : suc i + n ≡ i + suc n = omega arith in
    ap (λ rows. row_in cs i ∷ rows) (rows-last cs (suc i) n ∙ ap (λ m. rows_from cs (suc i) n ++ row_in cs m ∷ []) on)

-- another row at one index
rows-put-from : (cs ds : List ColumnStates) (i n k : ℕ) (row : List AggregateFunction) → row_in ds (i + k) ≡ row
    → ((m : ℕ) → m < i + n → m ≢ i + k → row_in ds m ≡ row_in cs m) → rows_from ds i n ≡ set (rows_from cs i n) k row
rows-put-from cs ds i zero k row here there = refl
rows-put-from cs ds i (suc n) zero row here there =
    let on : i ≡ i + 0 = omega arith in
    λ k. (ap (row_in ds) on ∙ here) k ∷ rows-same cs ds (suc i) n (λ m a b. there m (omega (arith, b)) (λ e. omega (arith, a, e))) k
rows-put-from cs ds i (suc n) (suc k) row here there =
    let on : suc i + k ≡ i + suc k = omega arith in
    λ x. there i (omega arith) (λ e. omega (arith, e)) x
    ∷ rows-put-from cs ds (suc i) n k row (ap (row_in ds) on ∙ here) (λ m b other. there m (omega (arith, b)) (λ e. other (omega (arith, e)))) x

pub rows-put : (cs ds : List ColumnStates) (n g : ℕ) (row : List AggregateFunction) → row_in ds g ≡ row
    → ((m : ℕ) → m < n → m ≢ g → row_in ds m ≡ row_in cs m) → rows_from ds 0 n ≡ set (rows_from cs 0 n) g row
rows-put cs ds n g row here there =
    let on : 0 + g ≡ g = omega arith in
    rows-put-from cs ds 0 n g row (ap (row_in ds) on ∙ here) (λ m b other. there m (omega (arith, b)) (λ e. other (omega (arith, e))))

-- ---- one state replaced

module _ (cs : List ColumnStates) (n g j : ℕ) (c : ColumnStates) (s : AggregateFunction) (group : g < n) (there : j < length cs) (is : c ≡ get_or cs j c) (high : length c.states ≡ n) where
  rows-set : rows_from (set cs j (with_state g s c)) 0 n ≡ set (rows_from cs 0 n) g (set (row_in cs g) j s)
  rows-set =
      let at = λ (m : ℕ). λ (x : ColumnStates). state_at x.states m in
      rows-put cs (set cs j (with_state g s c)) n g (set (row_in cs g) j s)
      (map-set (at g) cs j (with_state g s c) ∙ ap (set (row_in cs g) j) (get_or-set_same c.states g s no_state (omega (arith, group, high))))
      (λ m b other. map-set_same (at m) cs j (with_state g s c) c (get_or-set_other c.states g m s no_state other ∙ ap (at m) is))

  fresh-set : fresh_in (set cs j (with_state g s c)) ≡ fresh_in cs
  fresh-set = map-set_same (λ (x : ColumnStates). x.fresh) cs j (with_state g s c) c (ap (λ (x : ColumnStates). x.fresh) is)

  -- as contracts see it
  pub seen-set : (room : ℕ) → seen_in (set cs j (with_state g s c)) n room ≡ with_state_of g j s (seen_in cs n room)
  seen-set room =
      λ k. record {
        fresh = fresh-set k;
        groups = (rows-set ∙ ap (λ row. set (rows_from cs 0 n) g (set row j s)) (sym (row-at cs n g group))) k;
        room = room;
      }

-- ---- one group more

row-pushed : (cs : List ColumnStates) (n m : ℕ) → AreHigh n cs → m < n → row_in (map pushed cs) m ≡ row_in cs m
row-pushed [] n m high lt = refl
row-pushed (c ∷ cs) n m high lt =
    let one = All-head (λ (x : ColumnStates). length x.states ≡ n) c cs high in
    λ k. get_or_append_left c.states (c.fresh ∷ []) no_state m (omega (arith, lt, one)) k
    ∷ row-pushed cs n m (All-tail (λ (x : ColumnStates). length x.states ≡ n) c cs high) lt k

row-new : (cs : List ColumnStates) (n : ℕ) → AreHigh n cs → row_in (map pushed cs) n ≡ fresh_in cs
row-new [] n high = refl
row-new (c ∷ cs) n high =
    λ k. get_or_push c.states c.fresh no_state n (All-head (λ (x : ColumnStates). length x.states ≡ n) c cs high) k
    ∷ row-new cs n (All-tail (λ (x : ColumnStates). length x.states ≡ n) c cs high) k

fresh-pushed : (cs : List ColumnStates) → fresh_in (map pushed cs) ≡ fresh_in cs
fresh-pushed [] = refl
fresh-pushed (c ∷ cs) = ap (λ fs. c.fresh ∷ fs) (fresh-pushed cs)

pub seen-pushed : (cs : List ColumnStates) (n room : ℕ) → AreHigh n cs → seen_in (map pushed cs) (n + 1) (room - 1) ≡ with_fresh (seen_in cs n room)
seen-pushed cs n room high =
    let more : n + 1 ≡ suc n = omega arith in
    let on : 0 + n ≡ n = omega arith in
    λ k. record {
      fresh = fresh-pushed cs k;
      groups = (ap (rows_from (map pushed cs) 0) more ∙ rows-last (map pushed cs) 0 n
          ∙ (λ x. rows-same cs (map pushed cs) 0 n (λ m a b. row-pushed cs n m high (omega (arith, b))) x ++ (ap (row_in (map pushed cs)) on ∙ row-new cs n high) x ∷ [])) k;
      room = room - 1;
    }

-- ---- values that are kept

-- other state of a column keeps a value itself
abbrev pub KeepsNone : ColumnStates → Type 0
KeepsNone c = (i : ℕ) → keeps_value (state_at c.states i) ≡ false

row-none : (cs : List ColumnStates) (j : ℕ) → ((d : ColumnStates) → j < length cs → KeepsNone (get_or cs j d)) → (k : ℕ) → keeps_value (get_or (row_in cs k) j no_state) ≡ false
row-none [] j none k = refl
row-none (c ∷ cs) zero none k = none c (omega arith) k
row-none (c ∷ cs) (suc j) none k = row-none cs j (λ d lt. none d (omega (arith, lt))) k

none-from : (cs : List ColumnStates) (i n j g : ℕ) → ((k : ℕ) → keeps_value (get_or (row_in cs k) j no_state) ≡ false) → keeps_value (get_or (get_or (rows_from cs i n) g []) j no_state) ≡ false
none-from cs i zero j g none = refl
none-from cs i (suc n) j zero none = none i
none-from cs i (suc n) j (suc g) none = none-from cs (suc i) n j g none

-- where the states of a column keep none, other row does there
pub none-in-rows : (cs : List ColumnStates) (n j : ℕ) → ((d : ColumnStates) → j < length cs → KeepsNone (get_or cs j d)) → (g : ℕ)
    → keeps_value (get_or (get_or (rows_from cs 0 n) g []) j no_state) ≡ false
none-in-rows cs n j none g = none-from cs 0 n j g (row-none cs j none)

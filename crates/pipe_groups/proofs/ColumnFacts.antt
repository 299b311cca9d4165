-- Columns that are filled row by row.
use Rattle.std.proofs.Common.{◌≡◌, ◌∙◌, ℕ, zero, suc, ◌+◌, ◌<◌, ◌≤◌, List, [], ◌∷◌, ◌++◌, length, drop, get_or, set, vec_len, vec_capacity, refl, sym, ap, subst, arith}
use Rattle.std.specs.List.{All}
use Rattle.std.proofs.lemmas.List.{drop-drop, drop-set-lt, drop_more}
use Rattle.std.proofs.lemmas.List.Elements.{All-drop, All-head, All-set}
use Rattle.pipe_columns.specs.declared.any_value.AnyValue.{AnyValue}
use Rattle.pipe_columns.specs.Frame.{ColumnData}
use Rattle.pipe_groups.specs.declared.unfinished.Unfinished.{Unfinished}
use Rattle.pipe_groups.specs.Columns.{column_of_unfinished, columns_of_unfinished, HaveRoom, HaveRoomFrom, with_value, with_values, with_values_at}

-- ---- values

-- one more value in the column at k
pub columns_of-set : (cs : List Unfinished) (k : ℕ) (c : Unfinished) (v : AnyValue) (d : Unfinished) → k < length cs → column_of_unfinished c ≡ with_value v (column_of_unfinished (get_or cs k d))
    → columns_of_unfinished (set cs k c) ≡ with_values_at k (v ∷ []) (columns_of_unfinished cs)
columns_of-set [] k c v d lt e = absurd (omega arith)
columns_of-set (x ∷ xs) zero c v d lt e = ap (λ (y : ColumnData). y ∷ columns_of_unfinished xs) e
columns_of-set (x ∷ xs) (suc k) c v d lt e = ap (λ (ys : List ColumnData). column_of_unfinished x ∷ ys) (columns_of-set xs k c v d (omega (arith, lt)) e)

-- no values change nothing
with_values-none : (k : ℕ) (cs : List ColumnData) → with_values_at k [] cs ≡ cs
with_values-none zero cs = refl
with_values-none (suc k) [] = refl
with_values-none (suc k) (c ∷ cs) = ap (λ (ys : List ColumnData). c ∷ ys) (with_values-none k cs)

behind-values : (vs ws : List AnyValue) (cs : List ColumnData) → with_values_at (length vs) ws (with_values vs cs) ≡ with_values (vs ++ ws) cs
behind-values [] ws cs = refl
behind-values (v ∷ vs) ws [] = refl
behind-values (v ∷ vs) ws (c ∷ cs) = ap (λ (ys : List ColumnData). with_value v c ∷ ys) (behind-values vs ws cs)

-- values behind values
pub with_values_at-more : (k : ℕ) (vs ws : List AnyValue) (cs : List ColumnData) (m : ℕ) → m ≡ k + length vs → with_values_at m ws (with_values_at k vs cs) ≡ with_values_at k (vs ++ ws) cs
with_values_at-more zero vs ws cs m e = let same : m ≡ length vs = omega arith in rw same (behind-values vs ws cs)
with_values_at-more (suc k) vs ws [] zero e = absurd (omega arith)
with_values_at-more (suc k) vs ws [] (suc m) e = refl
with_values_at-more (suc k) vs ws (c ∷ cs) zero e = absurd (omega arith)
with_values_at-more (suc k) vs ws (c ∷ cs) (suc m) e = ap (λ (ys : List ColumnData). c ∷ ys) (with_values_at-more k vs ws cs m (omega arith))

-- ---- room

-- less room is there too
pub room-less : (m n : ℕ) (cs : List Unfinished) → m ≤ n → HaveRoom n cs → HaveRoom m cs
room-less m n cs le h = λ k d lt. omega (arith, h k d lt)

-- room for one more everywhere
pub room-start : (n : ℕ) (cs : List Unfinished) → HaveRoom (n + 1) cs → HaveRoomFrom n 0 cs
room-start n cs h = record { all = room-less n (n + 1) cs (omega arith) h; more = h }

-- less room, from a position on
pub room_from-less : (m n k : ℕ) (cs : List Unfinished) → m ≤ n → HaveRoomFrom n k cs → HaveRoomFrom m k cs
room_from-less m n k cs le h = record { all = room-less m n cs le h.all; more = room-less (m + 1) (n + 1) (drop k cs) (omega arith) h.more }

-- what stands at k, and the rest
split : (cs : List Unfinished) (k : ℕ) (d : Unfinished) → k < length cs → drop k cs ≡ get_or cs k d ∷ drop (k + 1) cs
split cs k d lt = drop_more cs k d lt

-- there is memory for one more in the column at k
pub room-here : (k : ℕ) (cs : List Unfinished) (d : Unfinished) → k < length cs → HaveRoomFrom 0 k cs → vec_len (get_or cs k d).values < vec_capacity (get_or cs k d).values
room-here k cs d lt h =
    let P : Unfinished → Type 0 = λ x. vec_len x.values + (0 + 1) ≤ vec_capacity x.values in
    let here : P (get_or cs k d) = All-head P (get_or cs k d) (drop (k + 1) cs) (subst (All P) (split cs k d lt) h.more) in
    omega (arith, here)

-- the column at k has taken one more value
pub room-next : (n k : ℕ) (cs : List Unfinished) (d new : Unfinished) → k < length cs → vec_len new.values ≡ vec_len (get_or cs k d).values + 1
    → vec_capacity (get_or cs k d).values ≤ vec_capacity new.values → HaveRoomFrom n k cs → HaveRoomFrom n (k + 1) (set cs k new)
room-next n k cs d new lt len cap h =
    let P : Unfinished → Type 0 = λ x. vec_len x.values + n ≤ vec_capacity x.values in
    let Q : Unfinished → Type 0 = λ x. vec_len x.values + (n + 1) ≤ vec_capacity x.values in
    let here : Q (get_or cs k d) = All-head Q (get_or cs k d) (drop (k + 1) cs) (subst (All Q) (split cs k d lt) h.more) in
    let rest : All Q (drop (k + 1) cs) = subst (All Q) (drop-drop 1 k cs ∙ ap (λ (m : ℕ). drop m cs) (omega arith)) (All-drop Q 1 (drop k cs) h.more) in
    record {
      all = All-set P cs k new (omega (arith, here, len, cap)) h.all;
      more = subst (All Q) (sym (drop-set-lt (k + 1) cs k new (omega arith))) rest;
    }

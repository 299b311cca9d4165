-- What running aggregates give, group by group.
use Rattle.std.proofs.Common.{◌≡◌, ◌∙◌, ℕ, ◌+◌, ◌<◌, ◌≤◌, ◌⊎◌, inl, inr, Bool, true, false, List, [], ◌∷◌, ◌++◌, length, take, drop, get_or, nat_eq, refl, sym, ap, subst, arith}
use Rattle.std.specs.List.{IsDistinct}
use Rattle.std.proofs.lemmas.Bool.{eq-eqb, eqb-true}
use Rattle.std.proofs.lemmas.Grind.{flat_map-append}
use Rattle.std.proofs.lemmas.List.{append-nil, length-append, take-append-drop, take_more}
use Rattle.std.proofs.lemmas.List.Sums.{fold-append}
use Rattle.std.proofs.lemmas.Map.Keys.{apart_from_distinct}
use Rattle.pipe_columns.specs.declared.any_value.AnyValue.{AnyValue}
use Rattle.pipe_columns.specs.Frame.{ColumnData}
use Rattle.pipe_kinds.specs.ManyStates.{ManyStates, states_in, with_states}
use Rattle.pipe_running.specs.declared.function.AggregateFunction.{AggregateFunction}
use Rattle.pipe_running.specs.GroupStates.{fresh_states, given_all}
use Rattle.pipe_running.specs.States.{given, output_values}
use Rattle.pipe_groups.specs.Columns.{with_rows, with_values}
use Rattle.pipe_groups.proofs.ManyFacts.{put-other, states-put}

abbrev States : Type 0
States = List AggregateFunction

-- ---- what a group gives

-- what one more running aggregate gives
pub given-more : (states : List AggregateFunction) (j : ℕ) (d : AggregateFunction) → j < length states
    → given_all (take (j + 1) states) ≡ given_all (take j states) ++ output_values (given (get_or states j d))
given-more states j d lt =
    ap given_all (take_more states j d lt) ∙ flat_map-append (λ (s : AggregateFunction). output_values (given s)) (take j states) (get_or states j d ∷ [])
    ∙ ap (λ (t : List AnyValue). given_all (take j states) ++ t) (append-nil (output_values (given (get_or states j d))))

-- the first ones give no more than all
pub given-le : (states : List AggregateFunction) (j : ℕ) → length (given_all (take j states)) ≤ length (given_all states)
given-le states j =
    let all : given_all (take j states) ++ given_all (drop j states) ≡ given_all states =
    sym (flat_map-append (λ (s : AggregateFunction). output_values (given s)) (take j states) (drop j states)) ∙ ap given_all (take-append-drop j states) in
    omega (arith, ap length all, length-append (given_all (take j states)) (given_all (drop j states)))

-- ---- the others

-- what is told apart isn't the same
pub told-apart : (i k : ℕ) → nat_eq i k ≡ false → k ≡ i → ⊥
told-apart i k e same = let tie : nat_eq i k ≡ true = eq-eqb i k (sym same) in cc (tie, e)

-- those in front of an index differ from it
pub apart-before : (xs : List ℕ) (k : ℕ) → IsDistinct nat_eq xs → k < length xs → (m : ℕ) → m < k → nat_eq (get_or xs m 0) (get_or xs k 0) ≡ false
apart-before xs k d lt m h = apart_from_distinct nat_eq xs m k 0 d h lt

-- with one group given, the others are as before
pub others-next : (xs : List ℕ) (k : ℕ) → k < length xs → (x : ℕ) (old now new : ManyStates) (ss : States) → new ≡ with_states (get_or xs k 0) ss now → ((m : ℕ) → m < k + 1 → m < length xs → nat_eq (get_or xs m 0) x ≡ false)
    → ((y : ℕ) → ((m : ℕ) → m < k → m < length xs → nat_eq (get_or xs m 0) y ≡ false) → states_in now y ≡ states_in old y) → states_in new x ≡ states_in old x
others-next xs k lt x old now new ss is apart before =
    ap (λ (m : ManyStates). states_in m x) is ∙ put-other now (get_or xs k 0) x ss (told-apart (get_or xs k 0) x (apart k (omega arith) lt))
    ∙ before x (λ m h w. apart m (omega (arith, h)) w)

-- and each is as before, or as before any row
pub each-next : (i x : ℕ) (old now new : ManyStates) → i < length now.groups → states_in now i ≡ states_in old i → new ≡ with_states i (fresh_states (states_in now i)) now
    → (states_in now x ≡ states_in old x) ⊎ (states_in now x ≡ fresh_states (states_in old x)) → (states_in new x ≡ states_in old x) ⊎ (states_in new x ≡ fresh_states (states_in old x))
each-next i x old now new within here is was = by (nat_eq i x) refl where
  by : (b : Bool) → nat_eq i x ≡ b → (states_in new x ≡ states_in old x) ⊎ (states_in new x ≡ fresh_states (states_in old x))
  by false e =
      let same : states_in new x ≡ states_in now x = ap (λ (m : ManyStates). states_in m x) is ∙ put-other now i x (fresh_states (states_in now i)) (told-apart i x e) in
      elim was [
        | inl as_before ↦ inl (same ∙ as_before)
        | inr fresh ↦ inr (same ∙ fresh)
      ]
  by true e =
      let tie : i ≡ x = eqb-true i x e in
      inr (subst (λ (y : ℕ). states_in new y ≡ fresh_states (states_in old y)) tie
      (ap (λ (m : ManyStates). states_in m i) is ∙ states-put now i (fresh_states (states_in now i)) within ∙ ap (λ (ss : States). fresh_states ss) here))

-- ---- rows

-- one more row
pub rows-more : (rows : List (List AnyValue)) (row : List AnyValue) (cs : List ColumnData) → with_values row (with_rows rows cs) ≡ with_rows (rows ++ row ∷ []) cs
rows-more rows row cs = sym (fold-append (λ done r. with_values r done) cs rows (row ∷ []))

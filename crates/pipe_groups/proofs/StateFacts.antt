-- The running aggregates of a group, fed one by one.
use Rattle.std.proofs.Common.{◌≡◌, ◌∙◌, ℕ, zero, suc, ◌+◌, ◌<◌, ◌≤◌, true, List, [], ◌∷◌, ◌++◌, length, take, drop, get_or, set, refl, sym, ap, arith, subst}
use Rattle.std.proofs.lemmas.List.{append_assoc, drop-drop, drop-set-lt, drop_more, get_or-drop, take_more_set}
use Rattle.std.proofs.lemmas.Option.{unwrap_or-slice_get}
use Rattle.pipe_columns.specs.declared.any_value.AnyValue.{AnyValue}
use Rattle.pipe_columns.specs.declared.any_value.AnyValue.TheVariants as av
use Rattle.pipe_columns.specs.declared.place.Place.{Place}
use Rattle.pipe_columns.specs.Frame.{value_at}
use Rattle.pipe_running.specs.declared.function.AggregateFunction.{AggregateFunction}
use Rattle.pipe_running.specs.GroupStates.{fed_from, StatesSeen, TakesFrom}
use Rattle.pipe_running.specs.States.{after_value, seen, takes}

abbrev States : Type 0
States = List AggregateFunction

-- what is known of all is known of the one at a position
pub seen-at : (n : ℕ) (ss : States) (j : ℕ) (d : AggregateFunction) → j < length ss → StatesSeen n ss → seen (get_or ss j d) ≤ n
seen-at n [] j d lt h = absurd (omega arith)
seen-at n (s ∷ ss) zero d lt h = h.0
seen-at n (s ∷ ss) (suc j) d lt h = seen-at n ss j d (omega arith) h.1

takes-from : (i : ℕ) (ss : States) (inputs : List AnyValue) (j : ℕ) (d : AggregateFunction) → j < length ss → TakesFrom i ss inputs → takes (get_or ss j d) (value_at inputs (i + j)) ≡ true
takes-from i [] inputs j d lt h = absurd (omega arith)
takes-from i (s ∷ ss) inputs zero d lt h =
    let same : i + 0 ≡ i = omega arith in
    rw same h.0
takes-from i (s ∷ ss) inputs (suc j) d lt h =
    let same : i + suc j ≡ i + 1 + j = omega arith in
    rw same (takes-from (i + 1) ss inputs j d (omega arith) h.1)

pub takes-at : (ss : States) (inputs : List AnyValue) (j : ℕ) (d : AggregateFunction) → j < length ss → TakesFrom 0 ss inputs → takes (get_or ss j d) (value_at inputs j) ≡ true
takes-at ss inputs j d lt h =
    let same : 0 + j ≡ j = omega arith in
    let T : ℕ → Type 0 = λ k. takes (get_or ss j d) (value_at inputs k) ≡ true in
    subst T same (takes-from 0 ss inputs j d lt h)

-- a list that is from a position on as another
module _ {X : Type 0} (old now : List X) (j : ℕ) (left : drop j now ≡ drop j old) where
  -- is so at the position
  pub same-next : (d : X) → get_or now j d ≡ get_or old j d
  same-next d =
      let here : j + 0 ≡ j = omega arith in
      let P : ℕ → Type 0 = λ k. get_or now k d ≡ get_or old k d in
      subst P here (sym (get_or-drop j now 0 d) ∙ ap (λ (l : List X). get_or l 0 d) left ∙ get_or-drop j old 0 d)

  -- and behind it
  pub drop-next : drop (j + 1) now ≡ drop (j + 1) old
  drop-next = sym (drop-drop 1 j now) ∙ ap (λ (l : List X). drop 1 l) left ∙ drop-drop 1 j old

  -- whatever is put there
  pub left-next : (new : X) → drop (j + 1) (set now j new) ≡ drop (j + 1) old
  left-next new = drop-set-lt (j + 1) now j new (omega arith) ∙ drop-next

-- the value at a position, and the others
pub value-next : (old now : List AnyValue) (j : ℕ) → drop j now ≡ drop j old → value_at now j ≡ value_at old j
value-next old now j left = unwrap_or-slice_get now j av.Null ∙ same-next old now j left av.Null ∙ sym (unwrap_or-slice_get old j av.Null)

-- one more is fed
pub fed-next : (p : Place) (inputs : List AnyValue) (now : States) (j : ℕ) (d new : AggregateFunction) (whole : States) → j < length now
    → take j now ++ fed_from p j inputs (drop j now) ≡ whole → new ≡ after_value p (value_at inputs j) (get_or now j d)
    → take (j + 1) (set now j new) ++ fed_from p (j + 1) inputs (drop (j + 1) (set now j new)) ≡ whole
fed-next p inputs now j d new whole lt fed is =
    let rest : States = fed_from p (j + 1) inputs (drop (j + 1) now) in
    let here : fed_from p j inputs (drop j now) ≡ new ∷ rest = rw (drop_more now j d lt, is) refl in
    rw (take_more_set now j new lt, drop-set-lt (j + 1) now j new (let l : j < j + 1 = omega arith in l))
    (append_assoc (take j now) (new ∷ []) rest ∙ ap (λ (l : States). take j now ++ l) (sym here) ∙ fed)

-- running aggregates that are others take the same
pub takes-same : (ss others : States) (inputs values : List AnyValue) → ss ≡ others → inputs ≡ values → TakesFrom 0 others values → TakesFrom 0 ss inputs
takes-same ss others inputs values e f h = rw (e, f) h

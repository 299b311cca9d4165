-- Of a run of values one alone matters to a first or last.
use Rattle.std.proofs.Common.{◌≡◌, ◌∙◌, ℕ, ◌+◌, ◌-◌, ◌<◌, Bool, true, false, List, [], ◌∷◌, length, ◌&&◌, Option, Some, None, IfSome, if◌then◌else◌, unwrap_or, get_or, refl, sym, ap, arith}
use Rattle.std.specs.declared.cmp.Ordering.{Ordering}
use Rattle.std.specs.declared.cmp.Ordering.TheVariants.{Less, Equal, Greater}
use Rattle.std.specs.Bool.{then_some}
use Rattle.std.specs.List.{slice_get}
use Rattle.std.specs.Ordering.{is_gt, match_ordering, nat_cmp, ordering_then, ordering_reverse}
use Rattle.std.proofs.lemmas.Bool.{and_parts}
use Rattle.std.proofs.lemmas.Cmp.{nat_cmp_total, tied_itself, upto}
use Rattle.std.specs.Cmp.{nat_cmp_is}
use Rattle.std.proofs.lemmas.Option.{unwrap_or-slice_get}
use Rattle.pipe_columns.specs.declared.any_value.AnyValue.{AnyValue}
use Rattle.pipe_columns.specs.declared.any_value.AnyValue.TheVariants as av
use Rattle.pipe_columns.specs.declared.place.Place.{Place}
use Rattle.pipe_columns.specs.Frame.{value_at}
use Rattle.pipe_columns.specs.Place.{place_cmp}
use Rattle.pipe_running.specs.declared.function.AggregateFunction.{AggregateFunction}
use Rattle.pipe_running.specs.declared.function.AggregateFunction.TheVariants as function
use Rattle.pipe_running.specs.Held.{HeldState, is_earlier, is_later, is_text}
use Rattle.pipe_running.specs.Lent.{end_of_run, keeps_text, text_of_run}
use Rattle.pipe_running.specs.Pick.{nearer}
use Rattle.pipe_running.specs.Runs.{after_run}
use Rattle.pipe_running.specs.States.{after_value}
use Rattle.pipe_running.specs.Transitions.{first_after, last_after}
use Rattle.pipe_model.specs.Least.{by_place, from_last}
use Rattle.pipe_model.proofs.LeastFacts.{second_on_ties}
use Rattle.pipe_model.proofs.PlaceFacts.{by_place-total, place_total}
use Rattle.pipe_running.proofs.RunFacts.{run-within}

-- a row of a chunk
abbrev pub at : ℕ → ℕ → Place
at chunk row = record { chunk = chunk; row = row }

-- of two rows of a chunk the one with the lesser number comes first
pub later_row : (chunk m n : ℕ) → m < n → place_cmp (at chunk m) (at chunk n) ≡ Less
later_row chunk m n h =
    let below : nat_cmp m n ≡ Less = sym (nat_cmp_is m n Less h) in
    ap (λ (o : Ordering). ordering_then o (nat_cmp m n)) (tied_itself nat_cmp_total chunk) ∙ below

-- ---- a first

-- what holds an entry
abbrev holding : HeldState → Place × AnyValue → HeldState
holding s e = record { dtype = s.dtype; held = Some e }

-- an entry that is not later than a row stays through it
stays : (chunk row : ℕ) (v : AnyValue) (e : Place × AnyValue) → is_gt (place_cmp e.0 (at chunk row)) ≡ false → nearer by_place (at chunk row, v) (Some e) ≡ e
stays chunk row v e h = by (place_cmp e.0 (at chunk row)) refl where
  by : (r : Ordering) → place_cmp e.0 (at chunk row) ≡ r → nearer by_place (at chunk row, v) (Some e) ≡ e
  by Less f = let back : place_cmp (at chunk row) e.0 ≡ Greater = place_total.antisymm (at chunk row) e.0 ∙ ap ordering_reverse f in rw back refl
  by Equal f = let back : place_cmp (at chunk row) e.0 ≡ Equal = place_total.antisymm (at chunk row) e.0 ∙ ap ordering_reverse f in rw back refl
  by Greater f = cc

-- and so through a run from there on
stays-run : (chunk row : ℕ) (values : List AnyValue) (s : HeldState) (e : Place × AnyValue) → is_gt (place_cmp e.0 (at chunk row)) ≡ false
    → after_run first_after chunk row values (holding s e) ≡ holding s e
stays-run chunk row [] s e h = refl
stays-run chunk row (v ∷ vs) s e h =
    let next : is_gt (place_cmp e.0 (at chunk (row + 1))) ≡ false = upto place_total e.0 (at chunk row) (at chunk (row + 1)) h (ap is_gt (later_row chunk row (row + 1) (omega arith))) in
    ap (λ (f : Place × AnyValue). after_run first_after chunk (row + 1) vs (holding s f)) (stays chunk row v e h) ∙ stays-run chunk (row + 1) vs s e next

-- a first takes the first value of a run alone
pub first-run : (chunk row : ℕ) (values : List AnyValue) (v : AnyValue) (s : HeldState) → Some v ≡ slice_get values 0 → after_run first_after chunk row values s ≡ first_after (at chunk row) v s
first-run chunk row [] v s e = cc
first-run chunk row (w ∷ ws) v s e =
    let same : v ≡ w = some_same v w e in
    let now : Place × AnyValue = nearer by_place (at chunk row, w) s.held in
    stays-run chunk (row + 1) ws s now (upto place_total now.0 (at chunk row) (at chunk (row + 1)) (under s.held) (ap is_gt (later_row chunk row (row + 1) (omega arith))))
    ∙ ap (λ (x : AnyValue). first_after (at chunk row) x s) (sym same)
  where
    some_same : (x y : AnyValue) → Some x ≡ Some y → x ≡ y
    some_same x y e = cc

    under : (o : Option (Place × AnyValue)) → is_gt (place_cmp (nearer by_place (at chunk row, w) o).0 (at chunk row)) ≡ false
    under None = ap is_gt (tied_itself place_total (at chunk row))
    under (Some f) = (second_on_ties by_place-total (at chunk row, w) f).under_first

-- ---- a last

-- the last of two values at a later place is alone taken
absorbs : (p q : Place) (v w : AnyValue) (o : Option (Place × AnyValue)) → place_cmp p q ≡ Less → nearer from_last (q, w) (Some (nearer from_last (p, v) o)) ≡ nearer from_last (q, w) o
absorbs p q v w None e = rw e refl
absorbs p q v w (Some f) e = by (place_cmp f.0 p) refl where
  by : (r : Ordering) → place_cmp f.0 p ≡ r → nearer from_last (q, w) (Some (match_ordering r (p, v) f f)) ≡ nearer from_last (q, w) (Some f)
  by Less g = let far : place_cmp f.0 q ≡ Less = place_total.trans f.0 p q g e in rw (e, far) refl
  by Equal g = refl
  by Greater g = refl

-- the last value of a list that has one
abbrev last_of : AnyValue → List AnyValue → AnyValue
last_of v [] = v
last_of v (w ∷ ws) = last_of w ws

-- it stands at the end
last_of-is : (v : AnyValue) (vs : List AnyValue) → slice_get (v ∷ vs) (length vs) ≡ Some (last_of v vs)
last_of-is v [] = refl
last_of-is v (w ∷ ws) = last_of-is w ws

-- a run leaves what its last value leaves
last-from : (chunk row : ℕ) (v : AnyValue) (vs : List AnyValue) (s : HeldState) → after_run last_after chunk row (v ∷ vs) s ≡ last_after (at chunk (row + length vs)) (last_of v vs) s
last-from chunk row v [] s = ap (λ (n : ℕ). last_after (at chunk n) v s) (omega arith)
last-from chunk row v (w ∷ ws) s =
    let n : ℕ = row + 1 + length ws in
    last-from chunk (row + 1) w ws (last_after (at chunk row) v s)
    ∙ ap (λ (e : Place × AnyValue). holding s e) (absorbs (at chunk row) (at chunk n) v (last_of w ws) s.held (later_row chunk row n (omega arith)))
    ∙ ap (λ (k : ℕ). last_after (at chunk k) (last_of w ws) s) (omega arith)

-- a last takes the last value of a run alone
pub last-run : (chunk row : ℕ) (values : List AnyValue) (v : AnyValue) (s : HeldState) → Some v ≡ slice_get values (length values - 1)
    → after_run last_after chunk row values s ≡ last_after (at chunk (row + (length values - 1))) v s
last-run chunk row [] v s e = cc
last-run chunk row (w ∷ ws) v s e = last-from chunk row w ws s ∙ ap (λ (k : ℕ). last_after (at chunk (row + k)) (last_of w ws) s) before ∙ ap (λ (x : AnyValue). last_after (at chunk (row + (length (w ∷ ws) - 1))) x s) (sym same) where
  before : length ws ≡ length (w ∷ ws) - 1
  before = omega arith

  some_same : (x y : AnyValue) → Some x ≡ Some y → x ≡ y
  some_same x y e = cc

  same : v ≡ last_of w ws
  same = some_same v (last_of w ws) (e ∙ ap (slice_get (w ∷ ws)) (sym before) ∙ last_of-is w ws)

-- ---- a text that is kept

-- what a test passes has a value where it is no null
some_text : (values : List AnyValue) (i : ℕ) (o : Option AnyValue) → o ≡ slice_get values i → is_text (unwrap_or o av.Null) ≡ true → Some (value_at values i) ≡ slice_get values i
some_text values i None e t = cc
some_text values i (Some v) e t = ap (λ (p : Option AnyValue). Some (unwrap_or p av.Null)) (sym e) ∙ e

-- the value of a run that is kept as a text is in the run
text_within : (values : List AnyValue) (i : ℕ) → is_text (value_at values i) ≡ true → Some (value_at values i) ≡ slice_get values i
text_within values i t = some_text values i (slice_get values i) refl t

-- a running aggregate that keeps a text of a run takes that value alone
pub text-alone : (chunk row : ℕ) (values : List AnyValue) (f : AggregateFunction)
    → IfSome (text_of_run chunk row values f) (λ i. after_run after_value chunk row values f ≡ after_value (record { chunk = chunk; row = row + i }) (value_at values i) f)
text-alone chunk row values (function.First a) = by (is_text (value_at values 0) && is_earlier (at chunk (row + 0)) a.held) refl where
  by : (b : Bool) → (is_text (value_at values 0) && is_earlier (at chunk (row + 0)) a.held) ≡ b
      → IfSome (if b then Some 0 else None) (λ i. after_run after_value chunk row values (function.First a) ≡ after_value (at chunk (row + i)) (value_at values i) (function.First a))
  by true e =
      sym (run-within function.First (λ p v s. first_after p v s) after_value (λ p v s. refl) chunk row values a)
      ∙ ap function.First (first-run chunk row values (value_at values 0) a (text_within values 0 (and_parts (is_text (value_at values 0)) (is_earlier (at chunk (row + 0)) a.held) e).0))
      ∙ ap (λ (n : ℕ). function.First (first_after (at chunk n) (value_at values 0) a)) (omega arith)
  by false e = tt
text-alone chunk row values (function.Last a) = by (is_text (value_at values (length values - 1)) && is_later (at chunk (row + (length values - 1))) a.held) refl where
  by : (b : Bool) → (is_text (value_at values (length values - 1)) && is_later (at chunk (row + (length values - 1))) a.held) ≡ b
      → IfSome (if b then Some (length values - 1) else None) (λ i. after_run after_value chunk row values (function.Last a) ≡ after_value (at chunk (row + i)) (value_at values i) (function.Last a))
  by true e =
      let last : ℕ = length values - 1 in
      sym (run-within function.Last (λ p v s. last_after p v s) after_value (λ p v s. refl) chunk row values a)
      ∙ ap function.Last (last-run chunk row values (value_at values last) a (text_within values last (and_parts (is_text (value_at values last)) (is_later (at chunk (row + last)) a.held) e).0))
  by false e = tt
text-alone chunk row values f = tt

-- the index that a test of the value at the end of a run gives
pub text-at : (chunk row : ℕ) (values : List AnyValue) (f : AggregateFunction) (i : ℕ) (v : AnyValue) (r : Option ℕ) → i ≡ end_of_run values f → v ≡ get_or values i av.Null
    → r ≡ then_some (keeps_text (at chunk (row + i)) v f) i → r ≡ text_of_run chunk row values f
text-at chunk row values f i v r at_end is gives =
    let here : v ≡ value_at values i = is ∙ sym (unwrap_or-slice_get values i av.Null) in
    gives ∙ ap (λ (w : AnyValue). then_some (keeps_text (at chunk (row + i)) w f) i) here
    ∙ ap (λ (k : ℕ). then_some (keeps_text (at chunk (row + k)) (value_at values k) f) k) at_end
    ∙ same (keeps_text (at chunk (row + end_of_run values f)) (value_at values (end_of_run values f)) f) (end_of_run values f)
  where
    same : (b : Bool) (k : ℕ) → then_some b k ≡ (if b then Some k else None)
    same true k = refl
    same false k = refl

-- What a rule makes of state rows and one more is what it makes of all.
use Rattle.std.proofs.Common.{◌≡◌, ◌∙◌, ℕ, ◌+◌, ℤ, pos, ◌+ℤ◌, ◌||◌, Bool, true, false, cond, not, List, [], ◌∷◌, ◌++◌, length, map, fold, Option, Some, option_map, append_assoc, length-append, refl, sym, ap, arith}
use Rattle.std.specs.Int.{w32, w64}
use Rattle.std.specs.Ordering.{is_gt, is_lt, match_ordering}
use Rattle.std.specs.declared.cmp.Ordering.{Ordering}
use Rattle.std.specs.declared.cmp.Ordering.TheVariants.{Less, Equal, Greater}
use Rattle.std.specs.Option.{option_to_list}
use Rattle.std.proofs.lemmas.Bool.{false≢true}
use Rattle.std.proofs.lemmas.Int.{ints}
use Rattle.std.proofs.lemmas.List.{append-nil, map-append}
use Rattle.std.proofs.lemmas.List.Sums.{fold-append}
use mathlib.Core.List.{map-map}
use Rattle.pipe_columns.specs.declared.any_value.AnyValue.{AnyValue}
use Rattle.pipe_columns.specs.declared.any_value.AnyValue.TheVariants as av
use Rattle.pipe_columns.specs.declared.data_type.DataType.TheVariants as dt
use Rattle.pipe_columns.specs.declared.place.Place.{Place}
use Rattle.pipe_columns.specs.AnyValue.{is_null, value_cmp}
use Rattle.pipe_columns.specs.DataType.{wrapped}
use Rattle.pipe_columns.specs.Frame.{value_at}
use Rattle.pipe_columns.specs.Place.{earlier, first_entry, last_entry, later, place_cmp}
use Rattle.pipe_model.specs.Aggregate.{addend, entry_value, exact_sum, extreme, greater, lesser, present, sum_if_any}
use Rattle.pipe_model.proofs.SumFacts.{exact_sum-append}
use Rattle.pipe_model.proofs.WrapFacts.{wraps_signed, wraps_unsigned, WrapsSums}
use Rattle.pipe_states.specs.Regrouped.{first_results, greatest_place, last_results, least_place, results_at}
use Rattle.pipe_states.specs.States.{place_of}
use Rattle.pipe_states.specs.declared.state_row.StateRow.{StateRow}
use Rattle.pipe_states.proofs.EntryFacts.{first-map, first-of_firsts, last-map, last-of_lasts, with_value}
use Rattle.pipe_states.proofs.TextFacts.{value-first}
use Rattle.pipe_states.proofs.ValueFacts.{present-append}
use Rattle.pipe_regroup.specs.declared.rule.Rule.{Rule}
use Rattle.pipe_regroup.specs.declared.rule.Rule.TheVariants as rule
use Rattle.pipe_regroup.specs.Rules.{added, by_rule, by_rules, chosen, joined, joined_from}

-- ---- sums

-- the results of rows and one more
results-more : (j : ℕ) (rows : List StateRow) (r : StateRow) → results_at j (rows ++ r ∷ []) ≡ results_at j rows ++ value_at r.results j ∷ []
results-more j rows r = map-append (λ (s : StateRow). value_at s.results j) rows (r ∷ [])

-- a sum with one more value
sum-more : (vs : List AnyValue) (v : AnyValue) → exact_sum (vs ++ v ∷ []) ≡ exact_sum vs +ℤ addend v
sum-more vs v = exact_sum-append vs (v ∷ []) ∙ ap (λ (n : ℤ). exact_sum vs +ℤ n) (from_zero (addend v)) where
  from_zero : (n : ℤ) → pos 0 +ℤ n ≡ n
  from_zero n = omega (arith, ints)

-- a wrapped sum with one more value, wrapped again
wrapped-more : (wrap : ℤ → ℤ) → WrapsSums wrap → (j : ℕ) (rows : List StateRow) (r : StateRow)
    → av.Int (wrap (wrap (exact_sum (results_at j rows)) +ℤ addend (value_at r.results j))) ≡ av.Int (wrap (exact_sum (results_at j (rows ++ r ∷ []))))
wrapped-more wrap w j rows r =
    ap av.Int (w.adds (exact_sum (results_at j rows)) (addend (value_at r.results j))
    ∙ ap wrap (sym (ap exact_sum (results-more j rows r) ∙ sum-more (results_at j rows) (value_at r.results j))))

-- ---- values that are no null

-- those of values and one more
present-null : (vs : List AnyValue) (v : AnyValue) → is_null v ≡ true → present (vs ++ v ∷ []) ≡ present vs
present-null vs v e = present-append vs (v ∷ []) ∙ ap (λ (b : Bool). present vs ++ cond (not b) (v ∷ []) []) e ∙ append-nil (present vs)

present-more : (vs : List AnyValue) (v : AnyValue) → is_null v ≡ false → present (vs ++ v ∷ []) ≡ present vs ++ v ∷ []
present-more vs v e = present-append vs (v ∷ []) ∙ ap (λ (b : Bool). present vs ++ cond (not b) (v ∷ []) []) e

-- ---- sums of means

-- the sum is in the range of its type
abbrev pub IsSumHeld : ℕ → List StateRow → Type 0
IsSumHeld j rows = wrapped dt.Int128 (exact_sum (present (results_at j rows))) ≡ exact_sum (present (results_at j rows))

-- a sum, if any, adds what it is
addend-sum : (vs : List AnyValue) → addend (sum_if_any vs) ≡ exact_sum vs
addend-sum [] = refl
addend-sum (v ∷ vs) = refl

-- a sum of a value at least
sum-some : (vs : List AnyValue) (v : AnyValue) → sum_if_any (vs ++ v ∷ []) ≡ av.Int (exact_sum (vs ++ v ∷ []))
sum-some [] v = refl
sum-some (w ∷ vs) v = refl

mean-more : (j : ℕ) (rows : List StateRow) (r : StateRow) → IsSumHeld j (rows ++ r ∷ [])
    → cond (is_null (value_at r.results j)) (sum_if_any (present (results_at j rows))) (added dt.Int128 (sum_if_any (present (results_at j rows))) (value_at r.results j))
    ≡ sum_if_any (present (results_at j (rows ++ r ∷ [])))
mean-more j rows r h = by (is_null (value_at r.results j)) refl where
  vs : List AnyValue
  vs = results_at j rows

  v : AnyValue
  v = value_at r.results j

  by : (b : Bool) → is_null (value_at r.results j) ≡ b
      → cond b (sum_if_any (present (results_at j rows))) (added dt.Int128 (sum_if_any (present (results_at j rows))) (value_at r.results j)) ≡ sum_if_any (present (results_at j (rows ++ r ∷ [])))
  by true e = sym (ap (λ (l : List AnyValue). sum_if_any (present l)) (results-more j rows r) ∙ ap sum_if_any (present-null (results_at j rows) (value_at r.results j) e))
  by false e =
      let all : present (results_at j (rows ++ r ∷ [])) ≡ present (results_at j rows) ++ value_at r.results j ∷ [] =
      ap present (results-more j rows r) ∙ present-more (results_at j rows) (value_at r.results j) e in
      let sum : addend (sum_if_any (present (results_at j rows))) +ℤ addend (value_at r.results j) ≡ exact_sum (present (results_at j (rows ++ r ∷ []))) =
      ap (λ (n : ℤ). n +ℤ addend (value_at r.results j)) (addend-sum (present (results_at j rows))) ∙ sym (sum-more (present (results_at j rows)) (value_at r.results j)) ∙ sym (ap exact_sum all) in
      ap (λ (n : ℤ). av.Int (wrapped dt.Int128 n)) sum ∙ ap av.Int h ∙ ap (λ (l : List AnyValue). av.Int (exact_sum l)) all
      ∙ sym (sum-some (present (results_at j rows)) (value_at r.results j)) ∙ sym (ap sum_if_any all)

-- ---- extremes

-- a choice between two values that are no null is none
abbrev KeepsValues : (AnyValue → AnyValue → AnyValue) → Type 0
KeepsValues choose = (a b : AnyValue) → is_null a ≡ false → is_null b ≡ false → is_null (choose a b) ≡ false

one-of : (o : Ordering) (a b c : AnyValue) → is_null a ≡ false → is_null b ≡ false → is_null c ≡ false → is_null (match_ordering o a b c) ≡ false
one-of Less a b c p q s = p
one-of Equal a b c p q s = q
one-of Greater a b c p q s = s

module _ (choose : AnyValue → AnyValue → AnyValue) (keeps : KeepsValues choose) where
  -- an extreme of values that are no null is none
  fold-value : (v : AnyValue) (vs : List AnyValue) → is_null v ≡ false → is_null (fold choose v (present vs)) ≡ false
  fold-value v [] e = e
  fold-value v (w ∷ vs) e = by (is_null w) refl (fold-value v vs e) (λ f. fold-value (choose v w) vs (keeps v w e f)) where
    by : (b : Bool) → is_null w ≡ b → is_null (fold choose v (present vs)) ≡ false → (is_null w ≡ false → is_null (fold choose (choose v w) (present vs)) ≡ false)
        → is_null (fold choose v (cond (not b) (w ∷ present vs) (present vs))) ≡ false
    by true f one other = one
    by false f one other = other f

  -- it is null only where there is no value
  extreme-null : (vs : List AnyValue) → is_null (extreme choose (present vs)) ≡ true → present vs ≡ []
  extreme-null [] e = refl
  extreme-null (w ∷ vs) e = by (is_null w) refl e (extreme-null vs) where
    by : (b : Bool) → is_null w ≡ b → is_null (extreme choose (cond (not b) (w ∷ present vs) (present vs))) ≡ true → (is_null (extreme choose (present vs)) ≡ true → present vs ≡ [])
        → cond (not b) (w ∷ present vs) (present vs) ≡ []
    by true f g next = next g
    by false f g next = absurd (false≢true (sym (fold-value w vs f) ∙ g))

  -- an extreme with one more value
  extreme-more : (vs : List AnyValue) (v : AnyValue) → is_null (extreme choose vs) ≡ false → extreme choose (vs ++ v ∷ []) ≡ choose (extreme choose vs) v
  extreme-more [] v e = cc
  extreme-more (w ∷ vs) v e = fold-append choose w vs (v ∷ [])

  -- by a test of whether the value takes over
  chosen-more : (test : AnyValue → AnyValue → Bool) → ((a b : AnyValue) → cond (test b a) b a ≡ choose a b) → (j : ℕ) (rows : List StateRow) (r : StateRow)
      → chosen (test (value_at r.results j) (extreme choose (present (results_at j rows)))) (extreme choose (present (results_at j rows))) (value_at r.results j)
      ≡ extreme choose (present (results_at j (rows ++ r ∷ [])))
  chosen-more test is j rows r = by (is_null v) (is_null a) refl refl where
    v : AnyValue
    v = value_at r.results j

    a : AnyValue
    a = extreme choose (present (results_at j rows))

    all : is_null (value_at r.results j) ≡ false → present (results_at j (rows ++ r ∷ [])) ≡ present (results_at j rows) ++ value_at r.results j ∷ []
    all e = ap present (results-more j rows r) ∙ present-more (results_at j rows) (value_at r.results j) e

    by : (x y : Bool) → is_null (value_at r.results j) ≡ x → is_null (extreme choose (present (results_at j rows))) ≡ y
        → cond x (extreme choose (present (results_at j rows))) (cond (y || test (value_at r.results j) (extreme choose (present (results_at j rows)))) (value_at r.results j) (extreme choose (present (results_at j rows))))
        ≡ extreme choose (present (results_at j (rows ++ r ∷ [])))
    by true y e f = sym (ap (λ (l : List AnyValue). extreme choose (present l)) (results-more j rows r) ∙ ap (extreme choose) (present-null (results_at j rows) (value_at r.results j) e))
    by false true e f = sym (ap (extreme choose) (all e ∙ ap (λ (l : List AnyValue). l ++ value_at r.results j ∷ []) (extreme-null (results_at j rows) f)))
    by false false e f =
        is (extreme choose (present (results_at j rows))) (value_at r.results j)
        ∙ sym (ap (extreme choose) (all e) ∙ extreme-more (present (results_at j rows)) (value_at r.results j) f)

lesser-keeps : KeepsValues lesser
lesser-keeps a b p q = one-of (value_cmp b a) b a a q p p

greater-keeps : KeepsValues greater
greater-keeps a b p q = one-of (value_cmp b a) a a b p p q

lesser-test : (a b : AnyValue) → cond (is_lt (value_cmp b a)) b a ≡ lesser a b
lesser-test a b = by (value_cmp b a) where
  by : (o : Ordering) → cond (is_lt o) b a ≡ match_ordering o b a a
  by Less = refl
  by Equal = refl
  by Greater = refl

greater-test : (a b : AnyValue) → cond (is_gt (value_cmp b a)) b a ≡ greater a b
greater-test a b = by (value_cmp b a) where
  by : (o : Ordering) → cond (is_gt o) b a ≡ match_ordering o a a b
  by Less = refl
  by Equal = refl
  by Greater = refl

-- ---- places

-- state rows at their least places, and at their greatest
abbrev at_first : List StateRow → List (Place × StateRow)
at_first rows = map (λ r. (r.first, r)) rows

abbrev at_last : List StateRow → List (Place × StateRow)
at_last rows = map (λ r. (r.last, r)) rows

-- the entry with a value of the row
abbrev valued : ℕ → Place × StateRow → AnyValue
valued j e = value_at e.1.results j

abbrev placed : Place × StateRow → Place
placed e = e.0

-- their first entry gives the least place and the first result
first-place : (rows : List StateRow) → first_entry (map (λ p. (p, p)) (map (λ r. r.first) rows)) ≡ option_map (with_value placed) (first_entry (at_first rows))
first-place rows = ap first_entry (map-map (λ (p : Place). (p, p)) (λ (r : StateRow). r.first) rows ∙ sym (map-map (with_value placed) (λ (r : StateRow). (r.first, r)) rows)) ∙ first-map placed (at_first rows)

first-result : (j : ℕ) (rows : List StateRow) → first_entry (first_results j rows) ≡ option_map (with_value (valued j)) (first_entry (at_first rows))
first-result j rows = ap first_entry (sym (map-map (with_value (valued j)) (λ (r : StateRow). (r.first, r)) rows)) ∙ first-map (valued j) (at_first rows)

last-place : (rows : List StateRow) → last_entry (map (λ p. (p, p)) (map (λ r. r.last) rows)) ≡ option_map (with_value placed) (last_entry (at_last rows))
last-place rows = ap last_entry (map-map (λ (p : Place). (p, p)) (λ (r : StateRow). r.last) rows ∙ sym (map-map (with_value placed) (λ (r : StateRow). (r.last, r)) rows)) ∙ last-map placed (at_last rows)

last-result : (j : ℕ) (rows : List StateRow) → last_entry (last_results j rows) ≡ option_map (with_value (valued j)) (last_entry (at_last rows))
last-result j rows = ap last_entry (sym (map-map (with_value (valued j)) (λ (r : StateRow). (r.last, r)) rows)) ∙ last-map (valued j) (at_last rows)

-- with one more row
first-more : (rows : List StateRow) (r : StateRow) (e : Place × StateRow) → first_entry (at_first rows) ≡ Some e
    → first_entry (at_first (rows ++ r ∷ [])) ≡ Some (cond (is_gt (place_cmp e.0 r.first)) (r.first, r) e)
first-more rows r e f =
    ap first_entry (map-append (λ (s : StateRow). (s.first, s)) rows (r ∷ []))
    ∙ sym (first-of_firsts (at_first rows ∷ ((r.first, r) ∷ []) ∷ []))
    ∙ ap (λ (o : Option (Place × StateRow)). first_entry (option_to_list o ++ (r.first, r) ∷ [])) f
    ∙ ap Some (by (place_cmp e.0 r.first))
  where
    by : (o : Ordering) → match_ordering o e e (r.first, r) ≡ cond (is_gt o) (r.first, r) e
    by Less = refl
    by Equal = refl
    by Greater = refl

last-more : (rows : List StateRow) (r : StateRow) (e : Place × StateRow) → last_entry (at_last rows) ≡ Some e
    → last_entry (at_last (rows ++ r ∷ [])) ≡ Some (cond (is_lt (place_cmp e.0 r.last)) (r.last, r) e)
last-more rows r e f =
    ap last_entry (map-append (λ (s : StateRow). (s.last, s)) rows (r ∷ []))
    ∙ sym (last-of_lasts (at_last rows ∷ ((r.last, r) ∷ []) ∷ []))
    ∙ ap (λ (o : Option (Place × StateRow)). last_entry (option_to_list o ++ (r.last, r) ∷ [])) f
    ∙ ap Some (by (place_cmp e.0 r.last))
  where
    by : (o : Ordering) → match_ordering o (r.last, r) e e ≡ cond (is_lt o) (r.last, r) e
    by Less = refl
    by Equal = refl
    by Greater = refl

-- ---- groups that have a row

-- what a rule asks of rows: that the sum of a mean is in its range
abbrev pub IsHeld : Rule → ℕ → List StateRow → Type 0
IsHeld rule.MeanSum j all = IsSumHeld j all
IsHeld other j all = Unit {0}

-- so of rules, from the output column at position j on
abbrev pub AreHeld : ℕ → List Rule → List StateRow → Type 0
AreHeld j [] all = Unit {0}
AreHeld j (k ∷ rules) all = IsHeld k j all × AreHeld (j + 1) rules all

module _ (x : StateRow) (xs : List StateRow) (r : StateRow) where
  abbrev rows : List StateRow
  rows = x ∷ xs

  -- the row at the least place, and that at the greatest
  abbrev leads : Place × StateRow
  leads = earlier (x.first, x) (first_entry (at_first xs))

  abbrev ends : Place × StateRow
  ends = later (x.last, x) (last_entry (at_last xs))

  -- whether the row begins before, and whether it ends behind
  abbrev begins : Bool
  begins = is_gt (place_cmp (least_place (map (λ s. s.first) (x ∷ xs))) r.first)

  abbrev outlasts : Bool
  outlasts = is_lt (place_cmp (greatest_place (map (λ s. s.last) (x ∷ xs))) r.last)

  least-is : least_place (map (λ s. s.first) (x ∷ xs)) ≡ leads.0
  least-is = ap place_of (first-place (x ∷ xs))

  greatest-is : greatest_place (map (λ s. s.last) (x ∷ xs)) ≡ ends.0
  greatest-is = ap place_of (last-place (x ∷ xs))

  first-is : first_entry (at_first ((x ∷ xs) ++ r ∷ [])) ≡ Some (cond begins (r.first, r) leads)
  first-is = first-more (x ∷ xs) r leads refl ∙ ap (λ (p : Place). Some (cond (is_gt (place_cmp p r.first)) (r.first, r) leads)) (sym least-is)

  last-is : last_entry (at_last ((x ∷ xs) ++ r ∷ [])) ≡ Some (cond outlasts (r.last, r) ends)
  last-is = last-more (x ∷ xs) r ends refl ∙ ap (λ (p : Place). Some (cond (is_lt (place_cmp p r.last)) (r.last, r) ends)) (sym greatest-is)

  -- the least place with one more row
  pub least-more : cond begins r.first (least_place (map (λ s. s.first) (x ∷ xs))) ≡ least_place (map (λ s. s.first) ((x ∷ xs) ++ r ∷ []))
  least-more =
      ap (λ (p : Place). cond begins r.first p) least-is ∙ by begins
      ∙ sym (ap place_of (first-place ((x ∷ xs) ++ r ∷ []) ∙ ap (option_map (with_value placed)) first-is))
    where
      by : (b : Bool) → cond b r.first leads.0 ≡ (cond b (r.first, r) leads).0
      by true = refl
      by false = refl

  -- and the greatest
  pub greatest-more : cond outlasts r.last (greatest_place (map (λ s. s.last) (x ∷ xs))) ≡ greatest_place (map (λ s. s.last) ((x ∷ xs) ++ r ∷ []))
  greatest-more =
      ap (λ (p : Place). cond outlasts r.last p) greatest-is ∙ by outlasts
      ∙ sym (ap place_of (last-place ((x ∷ xs) ++ r ∷ []) ∙ ap (option_map (with_value placed)) last-is))
    where
      by : (b : Bool) → cond b r.last ends.0 ≡ (cond b (r.last, r) ends).0
      by true = refl
      by false = refl

  -- the first result
  first-joins : (j : ℕ) → cond begins (value_at r.results j) (entry_value (first_entry (first_results j (x ∷ xs)))) ≡ entry_value (first_entry (first_results j ((x ∷ xs) ++ r ∷ [])))
  first-joins j =
      ap (λ (o : Option (Place × AnyValue)). cond begins (value_at r.results j) (entry_value o)) (first-result j (x ∷ xs)) ∙ by begins
      ∙ sym (ap entry_value (first-result j ((x ∷ xs) ++ r ∷ []) ∙ ap (option_map (with_value (valued j))) first-is))
    where
      by : (b : Bool) → cond b (value_at r.results j) (value_at leads.1.results j) ≡ value_at (cond b (r.first, r) leads).1.results j
      by true = refl
      by false = refl

  -- and the last
  last-joins : (j : ℕ) → cond outlasts (value_at r.results j) (entry_value (last_entry (last_results j (x ∷ xs)))) ≡ entry_value (last_entry (last_results j ((x ∷ xs) ++ r ∷ [])))
  last-joins j =
      ap (λ (o : Option (Place × AnyValue)). cond outlasts (value_at r.results j) (entry_value o)) (last-result j (x ∷ xs)) ∙ by outlasts
      ∙ sym (ap entry_value (last-result j ((x ∷ xs) ++ r ∷ []) ∙ ap (option_map (with_value (valued j))) last-is))
    where
      by : (b : Bool) → cond b (value_at r.results j) (value_at ends.1.results j) ≡ value_at (cond b (r.last, r) ends).1.results j
      by true = refl
      by false = refl

  -- one result joins
  rule-joins : (k : Rule) (j : ℕ) → IsHeld k j ((x ∷ xs) ++ r ∷ []) → joined k begins outlasts (by_rule k j (x ∷ xs)) (value_at r.results j) ≡ by_rule k j ((x ∷ xs) ++ r ∷ [])
  rule-joins rule.SumU32 j h = wrapped-more (wrapped dt.UInt32) (wraps_unsigned w32) j (x ∷ xs) r
  rule-joins rule.SumU64 j h = wrapped-more (wrapped dt.UInt64) (wraps_unsigned w64) j (x ∷ xs) r
  rule-joins rule.SumI32 j h = wrapped-more (wrapped dt.Int32) (wraps_signed w32) j (x ∷ xs) r
  rule-joins rule.SumI64 j h = wrapped-more (wrapped dt.Int64) (wraps_signed w64) j (x ∷ xs) r
  rule-joins rule.MeanSum j h = mean-more j (x ∷ xs) r h
  rule-joins rule.Null j h = refl
  rule-joins rule.Least j h = chosen-more lesser lesser-keeps (λ b a. is_lt (value_cmp b a)) lesser-test j (x ∷ xs) r
  rule-joins rule.Greatest j h = chosen-more greater greater-keeps (λ b a. is_gt (value_cmp b a)) greater-test j (x ∷ xs) r
  rule-joins rule.First j h = first-joins j
  rule-joins rule.Last j h = last-joins j

  -- and so do all
  pub rules-join : (rules : List Rule) (j : ℕ) (front : List AnyValue) → length front ≡ j → AreHeld j rules ((x ∷ xs) ++ r ∷ [])
      → joined_from begins outlasts j rules r.results (front ++ by_rules j rules (x ∷ xs)) ≡ by_rules j rules ((x ∷ xs) ++ r ∷ [])
  rules-join [] j front f h = refl
  rules-join (k ∷ rules) j front f h =
      let v : AnyValue = by_rule k j (x ∷ xs) in
      let rest : List AnyValue = by_rules (j + 1) rules (x ∷ xs) in
      λ i.
      (ap (λ (w : AnyValue). joined k begins outlasts w (value_at r.results j)) (value-first front v rest j f) ∙ rule-joins k j h.0) i
      ∷ (ap (joined_from begins outlasts (j + 1) rules r.results) (sym (append_assoc front (v ∷ []) rest))
      ∙ rules-join rules (j + 1) (front ++ v ∷ []) (length-append front (v ∷ []) ∙ ap (λ (n : ℕ). n + 1) f) h.1) i

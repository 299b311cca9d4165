-- The ranges of states that follow on one another, and of fair rows.
use Rattle.std.proofs.Common.{◌≡◌, ◌∙◌, ℕ, ◌+◌, ◌<◌, ◌≤◌, min, max, false, List, [], ◌∷◌, ◌++◌, map, All, le-ltb, refl, sym, ap, subst, arith}
use Rattle.std.specs.List.{AllByRecursion, IsDistinct, sum_by}
use Rattle.std.specs.Ordering.{eq_by_cmp}
use Rattle.std.proofs.lemmas.List.{map-append}
use Rattle.std.proofs.lemmas.List.Elements.{All-append, All-cons, All-head, All-nil, All-tail, All-weaker}
use Rattle.std.proofs.lemmas.List.Sums.{sum_by-append, sum_by-cons}
use mathlib.Core.List.{map-map}
use Rattle.pipe_columns.specs.declared.place.Place.{Place}
use Rattle.pipe_columns.specs.Place.{place_cmp}
use Rattle.pipe_columns.specs.Row.{Row}
use Rattle.pipe_model.specs.Query.{QueryTree}
use Rattle.pipe_states.specs.Fair.{IsFair, IsFairRow, IsPlaceIn}
use Rattle.pipe_states.specs.Parts.{IsInRange, Part, rows_of_parts, saved}
use Rattle.pipe_states.specs.Ranges.{IsWithin, share_number}
use Rattle.pipe_states.specs.Regrouped.{end_of, first_of, rows_of_states}
use Rattle.pipe_states.specs.States.{StateSeen}
use Rattle.pipe_states.specs.Together.{do_overlap, FollowOn, NoneOverlap, total_rows}
use Rattle.pipe_states.specs.declared.state_row.StateRow.{StateRow}
use Rattle.pipe_states.proofs.PartFacts.{parts-distinct}

-- ---- states that follow on

-- a range that doesn't end before it begins
abbrev pub Ordered : StateSeen → Type 0
Ordered s = s.first ≤ s.end

-- states that follow on begin no earlier than the first
begin-later : (n : ℕ) (s : StateSeen) (others : List StateSeen) → n ≤ s.first → All Ordered (s ∷ others) → FollowOn (s ∷ others) → All (λ t. n ≤ t.first) (s ∷ others)
begin-later n s [] le h f = All-cons (λ (t : StateSeen). n ≤ t.first) s [] le (All-nil (λ (t : StateSeen). n ≤ t.first))
begin-later n s (t ∷ others) le h f =
    let here : s.first ≤ s.end = All-head Ordered s (t ∷ others) h in
    let next : t.first ≡ s.end = f.0 in
    All-cons (λ (u : StateSeen). n ≤ u.first) s (t ∷ others) le (begin-later n t others (omega arith) (All-tail Ordered s (t ∷ others) h) f.1)

-- and end no later than the last
end-earlier : (s : StateSeen) (others : List StateSeen) → All Ordered (s ∷ others) → FollowOn (s ∷ others) → (s.end ≤ end_of (s ∷ others)) × All (λ t. t.end ≤ end_of (s ∷ others)) (s ∷ others)
end-earlier s [] h f = (omega arith, All-cons (λ (t : StateSeen). t.end ≤ s.end) s [] (omega arith) (All-nil (λ (t : StateSeen). t.end ≤ s.end)))
end-earlier s (t ∷ others) h f =
    let rest = end-earlier t others (All-tail Ordered s (t ∷ others) h) f.1 in
    let later : t.end ≤ end_of (t ∷ others) = rest.0 in
    let there : t.first ≤ t.end = All-head Ordered t others (All-tail Ordered s (t ∷ others) h) in
    let next : t.first ≡ s.end = f.0 in
    let here : s.end ≤ end_of (t ∷ others) = omega arith in
    (here, All-cons (λ (u : StateSeen). u.end ≤ end_of (t ∷ others)) s (t ∷ others) here rest.1)

-- a range before others shares no number with them
before-others : (s : StateSeen) (states : List StateSeen) → All (λ t. s.end ≤ t.first) states → AllByRecursion (λ t. do_overlap s t ≡ false) states
before-others s [] h = tt
before-others s (t ∷ states) h =
    let after : s.end ≤ t.first = All-head (λ (u : StateSeen). s.end ≤ u.first) t states h in
    (le-ltb (max s.first t.first) (min s.end t.end) (omega arith), before-others s states (All-tail (λ (u : StateSeen). s.end ≤ u.first) t states h))

-- states that follow on share no number
pub follow-apart : (states : List StateSeen) → All Ordered states → FollowOn states → NoneOverlap states
unfolding IsDistinct
follow-apart [] h f = tt
follow-apart (s ∷ []) h f = (tt, tt)
follow-apart (s ∷ t ∷ others) h f =
    let next : t.first ≡ s.end = f.0 in
    let rest : All Ordered (t ∷ others) = All-tail Ordered s (t ∷ others) h in
    (before-others s (t ∷ others) (begin-later s.end t others (omega arith) rest f.1), follow-apart (t ∷ others) rest f.1)

-- together their range doesn't end before it begins
pub range-follows : (states : List StateSeen) → All Ordered states → FollowOn states → first_of states ≤ end_of states
range-follows [] h f = omega arith
range-follows (s ∷ others) h f = let here : s.first ≤ s.end = All-head Ordered s others h in let later = (end-earlier s others h f).0 in omega arith

-- and it ends where each does
pub end-bound : (n : ℕ) (states : List StateSeen) → 0 < n → All (λ s. s.end < n) states → end_of states < n
end-bound n [] some h = some
end-bound n (s ∷ []) some h = All-head (λ (t : StateSeen). t.end < n) s [] h
end-bound n (s ∷ t ∷ others) some h = end-bound n (t ∷ others) some (All-tail (λ (u : StateSeen). u.end < n) s (t ∷ others) h)

-- ---- rows in a wider range

-- a place in a wider range
wider-place : (a b c d : ℕ) (p : Place) → a ≤ c → d ≤ b → IsPlaceIn c d p → IsPlaceIn a b p
wider-place a b c d p low high i =
    let above : c ≤ p.chunk = i.chunk.above in
    let below : p.chunk < d = i.chunk.below in
    record { chunk = record { above = omega arith; below = omega arith }; row = i.row }

-- a fair row of a wider range
wider-row : (a b c d : ℕ) (r : StateRow) → a ≤ c → d ≤ b → IsFairRow c d r → IsFairRow a b r
wider-row a b c d r low high f = record {
  first_place = wider-place a b c d r.first low high f.first_place;
  last_place = wider-place a b c d r.last low high f.last_place;
  in_order = f.in_order;
  some = f.some;
}

-- the rows of states are fair in a range around all
rows-wider : (a b : ℕ) (states : List StateSeen) → All (λ s. a ≤ s.first) states → All (λ s. s.end ≤ b) states → All IsFair states → All (IsFairRow a b) (rows_of_states states)
rows-wider a b [] low high h = All-nil (IsFairRow a b)
rows-wider a b (s ∷ states) low high h =
    let begins : a ≤ s.first = All-head (λ (t : StateSeen). a ≤ t.first) s states low in
    let ends : s.end ≤ b = All-head (λ (t : StateSeen). t.end ≤ b) s states high in
    All-append (IsFairRow a b) s.rows (rows_of_states states)
    (All-weaker (IsFairRow s.first s.end) (IsFairRow a b) (λ r f. wider-row a b s.first s.end r begins ends f) s.rows (All-head IsFair s states h).rows)
    (rows-wider a b states (All-tail (λ (t : StateSeen). a ≤ t.first) s states low) (All-tail (λ (t : StateSeen). t.end ≤ b) s states high) (All-tail IsFair s states h))

-- so those of states that follow on are in the range of all
pub rows-in_range : (states : List StateSeen) → All IsFair states → All Ordered states → FollowOn states → All (IsFairRow (first_of states) (end_of states)) (rows_of_states states)
rows-in_range [] h o f = All-nil (IsFairRow 0 0)
rows-in_range (s ∷ others) h o f =
    rows-wider s.first (end_of (s ∷ others)) (s ∷ others) (begin-later s.first s others (omega arith) o f) (end-earlier s others o f).1 h

-- ---- the places of rows of states

module _ (place : StateRow → Place) (within : (a b : ℕ) (r : StateRow) → IsFairRow a b r → IsWithin a b (place r)) (distinct : (s : StateSeen) → IsFair s → IsDistinct (eq_by_cmp place_cmp) (map place s.rows)) where
  -- a state row as a row at its place
  abbrev as_row : StateRow → Row
  as_row r = record { place = place r; key = []; inputs = [] }

  -- a state as a part
  abbrev as_part : StateSeen → Part
  as_part s = record { first = s.first; end = s.end; rows = map as_row s.rows }

  -- a fair one stands in its range
  rows_within : (a b : ℕ) (rows : List StateRow) → All (IsFairRow a b) rows → All (λ r. IsWithin a b r.place) (map as_row rows)
  rows_within a b [] h = All-nil (λ (r : Row). IsWithin a b r.place)
  rows_within a b (r ∷ rows) h =
      All-cons (λ (x : Row). IsWithin a b x.place) (as_row r) (map as_row rows) (within a b r (All-head (IsFairRow a b) r rows h)) (rows_within a b rows (All-tail (IsFairRow a b) r rows h))

  parts_in_range : (states : List StateSeen) → All IsFair states → All IsInRange (map as_part states)
  parts_in_range [] h = All-nil IsInRange
  parts_in_range (s ∷ states) h =
      let fair : IsFair s = All-head IsFair s states h in
      All-cons IsInRange (as_part s) (map as_part states)
      (record {
        within = rows_within s.first s.end s.rows fair.rows;
        distinct = subst (IsDistinct (eq_by_cmp place_cmp)) (sym (map-map (λ (r : Row). r.place) as_row s.rows)) (distinct s fair);
      })
      (parts_in_range states (All-tail IsFair s states h))

  -- parts share numbers where the states do
  others_apart : (s : StateSeen) (states : List StateSeen) → AllByRecursion (λ t. do_overlap s t ≡ false) states → AllByRecursion (λ r. share_number s.first s.end r.first r.end ≡ false) (map as_part states)
  others_apart s [] h = tt
  others_apart s (t ∷ states) h = (h.0, others_apart s states h.1)

  parts_apart : (states : List StateSeen) → NoneOverlap states → IsDistinct (λ p r. share_number p.first p.end r.first r.end) (map as_part states)
  unfolding IsDistinct
  parts_apart [] d = tt
  parts_apart (s ∷ states) d = (others_apart s states d.0, parts_apart states d.1)

  -- the rows of the parts are those of the states
  rows_are : (states : List StateSeen) → map (λ r. r.place) (rows_of_parts (map as_part states)) ≡ map place (rows_of_states states)
  rows_are [] = refl
  rows_are (s ∷ states) =
      map-append (λ (r : Row). r.place) (map as_row s.rows) (rows_of_parts (map as_part states))
      ∙ (λ i. map-map (λ (r : Row). r.place) as_row s.rows i ++ rows_are states i)
      ∙ sym (map-append place s.rows (rows_of_states states))

  -- no place stands twice among the rows of states of which no two share a number
  pub states-distinct : (states : List StateSeen) → All IsFair states → NoneOverlap states → IsDistinct (eq_by_cmp place_cmp) (map place (rows_of_states states))
  states-distinct states h d =
      subst (IsDistinct (eq_by_cmp place_cmp)) (rows_are states)
      (parts-distinct (map as_part states) (record { in_range = parts_in_range states h; apart = parts_apart states d }))

-- ---- parts and their states

-- parts share no number where their states don't
others-apart : (q : QueryTree) (x : Part) (parts : List Part) → AllByRecursion (λ t. do_overlap (saved q x) t ≡ false) (map (saved q) parts) → AllByRecursion (λ r. share_number x.first x.end r.first r.end ≡ false) parts
others-apart q x [] h = tt
others-apart q x (y ∷ parts) h = (h.0, others-apart q x parts h.1)

pub parts-apart : (q : QueryTree) (parts : List Part) → NoneOverlap (map (saved q) parts) → IsDistinct (λ p r. share_number p.first p.end r.first r.end) parts
unfolding IsDistinct
parts-apart q [] d = tt
parts-apart q (x ∷ parts) d = (others-apart q x parts d.0, parts-apart q parts d.1)

-- ---- how many

-- the rows of states, one state after another
pub rows-total : (states : List StateSeen) → sum_by (λ r. r.rows) (rows_of_states states) ≡ total_rows states
rows-total [] = refl
rows-total (s ∷ states) =
    sum_by-append (λ (r : StateRow). r.rows) s.rows (rows_of_states states)
    ∙ ap (λ (n : ℕ). sum_by (λ r. r.rows) s.rows + n) (rows-total states)
    ∙ sym (sum_by-cons (λ (t : StateSeen). sum_by (λ r. r.rows) t.rows) s states)

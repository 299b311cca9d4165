-- Where a table has the group of a key, and what a row there makes of the table.
use Rattle.std.proofs.Common.{◌≡◌, ◌∙◌, ℕ, ◌+◌, ◌<◌, zero, suc, List, [], ◌∷◌, ◌++◌, length, map, get_or, set, take, drop, refl, sym, ap, subst, add-one}
use Rattle.std.specs.List.{insert}
use Rattle.std.specs.declared.cmp.Ordering.{Ordering}
use Rattle.std.specs.Ordering.{match_ordering, ordering_reverse}
use Rattle.std.specs.declared.cmp.Ordering.TheVariants.{Less, Equal, Greater}
use Rattle.std.proofs.lemmas.List.{drop_more, drop-map, length-map, map-append, set_split, take-append-drop, take-map}
use Rattle.pipe_columns.specs.declared.any_value.AnyValue.{AnyValue}
use Rattle.pipe_columns.specs.Row.{Row}
use Rattle.pipe_columns.proofs.ValueOrder.{tuples_tie, tuples_total}
use Rattle.pipe_model.specs.Answer.{tuple_cmp}
use Rattle.test_plain.specs.declared.groups.Group.{Group}
use Rattle.test_plain.specs.declared.groups.Spot.TheVariants as spot
use Rattle.test_plain.specs.Running.{AllAbove, AllBelow, BeginsAt, fed, group_seen, KeysAscend, IsSpot, Line, Table, with_row, with_rows}
use Rattle.pipe_running.specs.GroupStates.{fed_from}

-- what is left of a table from place i on
rest_of : (items : List Group) (i : ℕ) (d : Group) → i < length items → d ≡ get_or items i d → drop i (map group_seen items) ≡ group_seen d ∷ drop (i + 1) (map group_seen items)
rest_of items i d h e = drop-map group_seen i items ∙ ap (map group_seen) (drop_more items i d h ∙ ap (λ (g : Group). g ∷ drop (i + 1) items) (sym e)) ∙ ap (λ (t : Table). group_seen d ∷ t) (sym (drop-map group_seen (i + 1) items))

-- the spot of a key among the rest of a table
begins_at : (k : List AnyValue) (t : Table) (i : ℕ) (g : List AnyValue × Line) (rest : Table) → drop i t ≡ g ∷ rest → tuple_cmp k g.0 ≡ Equal → BeginsAt k (drop i t)
begins_at k t i g rest e h = let P : Table → Type 0 = λ u. BeginsAt k u in subst P (sym e) h

above_trans : (k x : List AnyValue) (t : Table) → tuple_cmp k x ≡ Less → AllAbove x t → AllAbove k t
above_trans k x [] e h = tt
above_trans k x (g ∷ gs) e h = (tuples_total.trans k x g.0 e h.0, above_trans k x gs e h.1)

ascending-drop : (i : ℕ) (t : Table) → KeysAscend t → KeysAscend (drop i t)
ascending-drop zero t h = h
ascending-drop (suc i) [] h = tt
ascending-drop (suc i) (g ∷ gs) h = ascending-drop i gs h.1

-- what is above the group at a place is above a key below it
above_from : (k : List AnyValue) (t : Table) (i : ℕ) (g : List AnyValue × Line) (rest : Table) → drop i t ≡ g ∷ rest → KeysAscend t → tuple_cmp k g.0 ≡ Less → AllAbove k (drop i t)
above_from k t i g rest e a less =
    let P : Table → Type 0 = λ u. KeysAscend u in
    let Q : Table → Type 0 = λ u. AllAbove k u in
    let tail : KeysAscend (g ∷ rest) = subst P e (ascending-drop i t a) in
    subst Q (sym e) (less, above_trans k g.0 rest less tail.0)

turned : (k x : List AnyValue) → tuple_cmp x k ≡ Less → tuple_cmp k x ≡ Greater
turned k x e = tuples_total.antisymm k x ∙ ap ordering_reverse e

turned_back : (k x : List AnyValue) → tuple_cmp k x ≡ Greater → tuple_cmp x k ≡ Less
turned_back k x e = tuples_total.antisymm x k ∙ ap ordering_reverse e

among_above : (x : List AnyValue) (t : Table) (i : ℕ) (g : List AnyValue × Line) (rest : Table) → drop i t ≡ g ∷ rest → AllAbove x t → tuple_cmp x g.0 ≡ Less
among_above x [] zero g rest e h = cc
among_above x [] (suc i) g rest e h = cc
among_above x (y ∷ ys) zero g rest e h = let P : Table → Type 0 = λ u. AllAbove x u in (subst P e h).0
among_above x (y ∷ ys) (suc i) g rest e h = among_above x ys i g rest e h.1

-- what is below the group at a place is below a key that is no less
below_to : (k : List AnyValue) (t : Table) (i : ℕ) (g : List AnyValue × Line) (rest : Table) → drop i t ≡ g ∷ rest → KeysAscend t
    → ((x : List AnyValue) → tuple_cmp x g.0 ≡ Less → tuple_cmp x k ≡ Less) → AllBelow k (take i t)
below_to k [] zero g rest e a h = tt
below_to k [] (suc i) g rest e a h = tt
below_to k (y ∷ ys) zero g rest e a h = tt
below_to k (y ∷ ys) (suc i) g rest e a h = (turned k y.0 (h y.0 (among_above y.0 ys i g rest e a.0)), below_to k ys i g rest e a.1 h)

below-push : (k : List AnyValue) (t : Table) (g : List AnyValue × Line) → AllBelow k t → tuple_cmp k g.0 ≡ Greater → AllBelow k (t ++ (g ∷ []))
below-push k [] g h e = (e, tt)
below-push k (x ∷ xs) g h e = (h.0, below-push k xs g h.1 e)

taken : (t : Table) (i : ℕ) (g : List AnyValue × Line) (rest : Table) → drop i t ≡ g ∷ rest → take (suc i) t ≡ take i t ++ (g ∷ [])
taken [] zero g rest e = cc
taken [] (suc i) g rest e = cc
taken (y ∷ ys) zero g rest e = let h : y ≡ g = cc e in ap (λ (x : List AnyValue × Line). x ∷ []) h
taken (y ∷ ys) (suc i) g rest e = ap (λ (t : Table). y ∷ t) (taken ys i g rest e)

-- ---- the steps of a search

-- the key is below the group in the middle
pub spot_below : (k : List AnyValue) (items : List Group) (i : ℕ) (d : Group) → i < length items → d ≡ get_or items i d → KeysAscend (map group_seen items) → tuple_cmp k d.key.items ≡ Less → AllAbove k (drop i (map group_seen items))
spot_below k items i d h e a less = above_from k (map group_seen items) i (group_seen d) (drop (i + 1) (map group_seen items)) (rest_of items i d h e) a less

-- the key is above the group in the middle
pub spot_above : (k : List AnyValue) (items : List Group) (i : ℕ) (d : Group) → i < length items → d ≡ get_or items i d → KeysAscend (map group_seen items) → tuple_cmp k d.key.items ≡ Greater → AllBelow k (take (i + 1) (map group_seen items))
spot_above k items i d h e a greater =
    let rest = rest_of items i d h e in
    let t : Table = map group_seen items in
    let P : Table → Type 0 = λ u. AllBelow k u in
    let less : tuple_cmp d.key.items k ≡ Less = turned_back k d.key.items greater in
    subst P (sym (ap (λ (n : ℕ). take n t) (add-one i) ∙ taken t i (group_seen d) (drop (i + 1) t) rest))
    (below-push k (take i t) (group_seen d) (below_to k t i (group_seen d) (drop (i + 1) t) rest a (λ x f. tuples_total.trans x d.key.items k f less)) greater)

-- the key is that of the group in the middle
pub spot_at : (k : List AnyValue) (items : List Group) (i : ℕ) (d : Group) → i < length items → d ≡ get_or items i d → KeysAscend (map group_seen items) → tuple_cmp k d.key.items ≡ Equal
    → IsSpot k (map group_seen items) (spot.At i)
spot_at k items i d h e a here =
    let rest = rest_of items i d h e in
    let t : Table = map group_seen items in
    let same : k ≡ d.key.items = tuples_tie k d.key.items here in
    (rw length-map h, below_to k t i (group_seen d) (drop (i + 1) t) rest a (λ x f. rw same f), begins_at k t i (group_seen d) (drop (i + 1) t) rest here)

-- ---- the order stays

above-put : (x : List AnyValue) (start : Line) (t : Table) (r : Row) → tuple_cmp x r.key ≡ Less → AllAbove x t → AllAbove x (with_row start t r)
above-put x start [] r e h = (e, tt)
above-put x start (g ∷ gs) r e h = put_at (tuple_cmp r.key g.0) (above-put x start gs r e h.1) where
  put_at : (o : Ordering) → AllAbove x (with_row start gs r)
      → AllAbove x (match_ordering o ((r.key, fed (r.place, r.inputs) start) ∷ g ∷ gs) ((g.0, fed (r.place, r.inputs) g.1) ∷ gs) (g ∷ with_row start gs r))
  put_at Less rest = (e, h)
  put_at Equal rest = h
  put_at Greater rest = (h.0, rest)

-- a table with one more row ascends
pub with_row-ascending : (start : Line) (t : Table) (r : Row) → KeysAscend t → KeysAscend (with_row start t r)
with_row-ascending start [] r h = (tt, tt)
with_row-ascending start (g ∷ gs) r h = put_at (tuple_cmp r.key g.0) refl (with_row-ascending start gs r h.1) where
  put_at : (o : Ordering) → tuple_cmp r.key g.0 ≡ o → KeysAscend (with_row start gs r)
      → KeysAscend (match_ordering o ((r.key, fed (r.place, r.inputs) start) ∷ g ∷ gs) ((g.0, fed (r.place, r.inputs) g.1) ∷ gs) (g ∷ with_row start gs r))
  put_at Less e rest = ((e, above_trans r.key g.0 gs e h.0), h)
  put_at Equal e rest = h
  put_at Greater e rest = (above-put g.0 start gs r (turned_back r.key g.0 e) h.0, rest)

-- so does one with more rows
pub with_rows-ascending : (start : Line) (t : Table) (rs : List Row) → KeysAscend t → KeysAscend (with_rows start t rs)
with_rows-ascending start t [] h = h
with_rows-ascending start t (r ∷ rs) h = with_rows-ascending start (with_row start t r) rs (with_row-ascending start t r h)

-- ---- a row in its spot

-- the groups below the row's key stay
below_stay : (start : Line) (r : Row) (before after : Table) → AllBelow r.key before → with_row start (before ++ after) r ≡ before ++ with_row start after r
below_stay start r [] after h = refl
below_stay start r (g ∷ gs) after h = rw h.0 (ap (λ (t : Table). g ∷ t) (below_stay start r gs after h.1))

new_first : (start : Line) (r : Row) (after : Table) → AllAbove r.key after → with_row start after r ≡ (r.key, fed (r.place, r.inputs) start) ∷ after
new_first start r [] h = refl
new_first start r (g ∷ gs) h = rw h.0 refl

-- a row goes to the group of its key
pub fed_at : (start : Line) (r : Row) (items : List Group) (i : ℕ) (d g : Group) → IsSpot r.key (map group_seen items) (spot.At i) → d ≡ get_or items i d
    → group_seen g ≡ (d.key.items, fed (r.place, r.inputs) (group_seen d).1) → map group_seen (set items i g) ≡ with_row start (map group_seen items) r
fed_at start r items i d g s e seen =
    let t : Table = map group_seen items in
    let lt : i < length items = rw length-map at s.0 in
    let rest = rest_of items i d lt e in
    let here : tuple_cmp r.key d.key.items ≡ Equal = let P : Table → Type 0 = λ t. BeginsAt r.key t in subst P rest s.2 in
    let row_there : with_row start (group_seen d ∷ drop (i + 1) t) r ≡ (d.key.items, fed (r.place, r.inputs) (group_seen d).1) ∷ drop (i + 1) t = rw here refl in
    let whole : with_row start t r ≡ take i t ++ ((d.key.items, fed (r.place, r.inputs) (group_seen d).1) ∷ drop (i + 1) t) =
    ap (λ (u : Table). with_row start u r) (sym (take-append-drop i t)) ∙ below_stay start r (take i t) (drop i t) s.1
    ∙ ap (λ (u : Table). take i t ++ with_row start u r) rest ∙ ap (λ (u : Table). take i t ++ u) row_there in
    let written : map group_seen (set items i g) ≡ take i t ++ (group_seen g ∷ drop (i + 1) t) =
    rw (set_split items i g lt, map-append, take-map, drop-map, add-one) refl in
    written ∙ ap (λ (x : List AnyValue × Line). take i t ++ (x ∷ drop (i + 1) t)) seen ∙ sym whole

-- a row of a new key makes a group
pub new_at : (start : Line) (r : Row) (items : List Group) (i : ℕ) (g : Group) → IsSpot r.key (map group_seen items) (spot.Before i)
    → group_seen g ≡ (r.key, fed (r.place, r.inputs) start) → map group_seen (insert items i g) ≡ with_row start (map group_seen items) r
new_at start r items i g s seen =
    let t : Table = map group_seen items in
    let whole : with_row start t r ≡ take i t ++ ((r.key, fed (r.place, r.inputs) start) ∷ drop i t) =
    ap (λ (u : Table). with_row start u r) (sym (take-append-drop i t)) ∙ below_stay start r (take i t) (drop i t) s.1
    ∙ ap (λ (u : Table). take i t ++ u) (new_first start r (drop i t) s.2) in
    let written : map group_seen (insert items i g) ≡ take i t ++ (group_seen g ∷ drop i t) = rw (map-append, take-map, drop-map) refl in
    written ∙ ap (λ (x : List AnyValue × Line). take i t ++ (x ∷ drop i t)) seen ∙ sym whole

-- a group that took a row is seen so
pub fed_seen : (r : Row) (d g : Group) → g.key.items ≡ d.key.items → g.first ≡ d.first → g.states.items ≡ fed_from r.place 0 r.inputs d.states.items → group_seen g ≡ (d.key.items, fed (r.place, r.inputs) (group_seen d).1)
fed_seen r d g e f h = rw (e, f, h) refl

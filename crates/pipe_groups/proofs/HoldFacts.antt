-- The rows that groups hold: of none, with one more, of two together, in another order, of some keys.
use Rattle.std.proofs.Common.{◌≡◌, ◌∙◌, ℕ, Bool, true, false, cond, if◌then◌else◌, is_some, List, [], ◌∷◌, ◌++◌, Option, Some, None, refl, sym, ap, subst, arith}
use Rattle.std.specs.List.{count_by, filter}
use Rattle.std.specs.List.Sorted.{IsPermutation}
use Rattle.std.specs.Str.{bytes_eq}
use Rattle.std.proofs.lemmas.Cmp.{nat_list_eq_equiv}
use Rattle.std.proofs.lemmas.List.{append-nil, map-append}
use Rattle.std.proofs.lemmas.List.Elements.{All-head, All-tail, filter-append}
use Rattle.std.proofs.lemmas.Slice.Eq.{bytes_eq-Decides}
use Rattle.pipe_columns.specs.declared.any_value.AnyValue.{AnyValue}
use Rattle.pipe_columns.specs.declared.place.Place.{Place}
use Rattle.pipe_model.specs.Counts.{CountAlike}
use Rattle.pipe_model.proofs.CountFacts.{alike-permutation, count-cons, filter-alike, map-alike}
use Rattle.pipe_model.proofs.MovedFacts.{tuples-moved}
use Rattle.pipe_running.specs.declared.function.AggregateFunction.{AggregateFunction}
use Rattle.pipe_running.specs.GroupStates.{fresh_states, GroupStands, TakesFrom}
use Rattle.pipe_running.proofs.GroupStateFacts.{group-fed, group-fresh, group-joined, group-moved}
use Rattle.pipe_spill.specs.declared.spill_row.SpillRow.{SpillRow}
use Rattle.pipe_groups.specs.Groups.{AreJoined, cover, Group, has_rows, held_at, is_covered, new_group, put, RowlessAreFresh, with_held, group_with_row}
use Rattle.pipe_groups.specs.Holds.{entries_of, FoundStands, Holds, of_key}
use Rattle.pipe_groups.proofs.PutFacts.{cover-new, cover-there}

-- one thing in either case is that thing
either-way : {X : Type 0} (b : Bool) (x : X) → (if b then x else x) ≡ x
either-way true x = refl
either-way false x = refl

-- ---- rows of a key

-- the entries of two lists of rows
entries_of-append : (xs ys : List SpillRow) → entries_of (xs ++ ys) ≡ entries_of xs ++ entries_of ys
entries_of-append xs ys = map-append (λ (r : SpillRow). (r.place, r.values)) xs ys

-- the rows of a key in two lists
of_key-append : (k : List ℕ) (xs ys : List SpillRow) → of_key k (xs ++ ys) ≡ of_key k xs ++ of_key k ys
of_key-append k xs ys = filter-append (λ (r : SpillRow). bytes_eq k r.key) xs ys

-- a row of the key is one more
of_key-here : (k : List ℕ) (rows : List SpillRow) (r : SpillRow) → bytes_eq k r.key ≡ true → of_key k (rows ++ r ∷ []) ≡ of_key k rows ++ r ∷ []
of_key-here k rows r e = of_key-append k rows (r ∷ []) ∙ ap (λ (b : Bool). of_key k rows ++ cond b (r ∷ []) []) e

-- a row of another is none
of_key-other : (k : List ℕ) (rows : List SpillRow) (r : SpillRow) → bytes_eq k r.key ≡ false → of_key k (rows ++ r ∷ []) ≡ of_key k rows
of_key-other k rows r e = of_key-append k rows (r ∷ []) ∙ ap (λ (b : Bool). of_key k rows ++ cond b (r ∷ []) []) e ∙ append-nil (of_key k rows)

module _ (ps : List AggregateFunction) where
  -- what stands for rows, said of as many entries
  stands-for : (g : Group) (xs : List SpillRow) (entries : List (Place × List AnyValue)) → entries ≡ entries_of xs → GroupStands ps g.first g.states entries → FoundStands ps (Some g) xs
  stands-for g xs entries e h = subst (GroupStands ps g.first g.states) e h

  -- ---- none

  pub holds-none : Holds ps [] []
  holds-none = record { at = λ k. refl }

  -- ---- one more row

  module _ (k : List ℕ) (r : SpillRow) (taken : TakesFrom 0 ps r.values) where
    -- a group with the row, and of the rows so far, is of all
    with-row : (g : Group) (xs : List SpillRow) → GroupStands ps g.first g.states (entries_of xs) → FoundStands ps (Some (group_with_row r.place r.values g)) (xs ++ r ∷ [])
    with-row g xs h =
        stands-for (group_with_row r.place r.values g) (xs ++ r ∷ []) (entries_of xs ++ (r.place, r.values) ∷ []) (sym (entries_of-append xs (r ∷ [])))
        (group-fed ps g.states g.first (entries_of xs) r.place r.values taken h)

    -- one of no rows, with the row, is of it alone
    with-first : (g : Group) (xs : List SpillRow) → g.first ≡ None → g.states ≡ fresh_states ps → xs ≡ [] → FoundStands ps (Some (group_with_row r.place r.values g)) (xs ++ r ∷ [])
    with-first g xs none fresh e =
        with-row g xs (rw (none, fresh, e) (group-fresh ps))

    found-there : (g : Group) (xs : List SpillRow) → (has_rows g ≡ false → g.states ≡ fresh_states ps) → (first : Option Place) → g.first ≡ first
        → FoundStands ps (if has_rows g then Some g else None) xs → FoundStands ps (Some (group_with_row r.place r.values g)) (xs ++ r ∷ [])
    found-there g xs fresh None e h = with-first g xs e (fresh (rw e refl)) (rw e at h)
    found-there g xs fresh (Some p) e h =
        let holds : has_rows g ≡ true = ap (λ (o : Option Place). is_some o) e in
        with-row g xs (rw holds at h)

    -- what is then held of the key stands for its rows and that one
    found-put : (gs : List Group) (xs : List SpillRow) → RowlessAreFresh ps gs → FoundStands ps (held_at k gs) xs
        → FoundStands ps (held_at k (put ps k r.place r.values gs)) (xs ++ r ∷ [])
    found-put [] xs fresh h = rw (nat_list_eq_equiv.refl k) (with-first (new_group ps k) xs refl refl h)
    found-put (g ∷ gs) xs fresh h = by (bytes_eq k g.key) refl h (found-put gs xs (All-tail P g gs fresh)) where
      P : Group → Type 0
      P x = has_rows x ≡ false → x.states ≡ fresh_states ps

      by : (b : Bool) → bytes_eq k g.key ≡ b → FoundStands ps (if b then (if has_rows g then Some g else None) else held_at k gs) xs
          → (FoundStands ps (held_at k gs) xs → FoundStands ps (held_at k (put ps k r.place r.values gs)) (xs ++ r ∷ []))
          → FoundStands ps (held_at k (put ps k r.place r.values (g ∷ gs))) (xs ++ r ∷ [])
      by true e h next = rw (e, e) (found-there g xs (All-head P g gs fresh) g.first refl h)
      by false e h next = rw (e, e) (next h)

  -- of another key the same is held
  pub held_at-put : (k q : List ℕ) (p : Place) (inputs : List AnyValue) (gs : List Group) → bytes_eq q k ≡ false → held_at q (put ps k p inputs gs) ≡ held_at q gs
  held_at-put k q p inputs [] h = rw h refl
  held_at-put k q p inputs (g ∷ gs) h = by (bytes_eq k g.key) refl (held_at-put k q p inputs gs h) where
    by : (b : Bool) → bytes_eq k g.key ≡ b → held_at q (put ps k p inputs gs) ≡ held_at q gs → held_at q (put ps k p inputs (g ∷ gs)) ≡ held_at q (g ∷ gs)
    by true e rest =
        let other : bytes_eq q g.key ≡ false = ap (bytes_eq q) (sym ((bytes_eq-Decides k g.key).0 e)) ∙ h in
        rw (e, other) refl
    by false e rest = rw (e, rest) refl

  -- groups with one more row hold it too
  pub holds-row : (gs : List Group) (rows : List SpillRow) (r : SpillRow) → TakesFrom 0 ps r.values → RowlessAreFresh ps gs → Holds ps gs rows
      → Holds ps (put ps r.key r.place r.values gs) (rows ++ r ∷ [])
  holds-row gs rows r taken fresh h = record { at = λ k. by k (bytes_eq k r.key) refl } where
    here : FoundStands ps (held_at r.key (put ps r.key r.place r.values gs)) (of_key r.key (rows ++ r ∷ []))
    here = rw (of_key-here r.key rows r (nat_list_eq_equiv.refl r.key)) (found-put r.key r taken gs (of_key r.key rows) fresh (h.at r.key))

    by : (k : List ℕ) (b : Bool) → bytes_eq k r.key ≡ b → FoundStands ps (held_at k (put ps r.key r.place r.values gs)) (of_key k (rows ++ r ∷ []))
    by k true e = subst (λ (q : List ℕ). FoundStands ps (held_at q (put ps r.key r.place r.values gs)) (of_key q (rows ++ r ∷ []))) (sym ((bytes_eq-Decides k r.key).0 e)) here
    by k false e = rw (of_key-other k rows r e, held_at-put r.key k r.place r.values gs e) (h.at k)

  -- ---- the same rows

  -- groups in which the same is held hold the same rows
  pub holds-same : (gs others : List Group) (rows : List SpillRow) → ((k : List ℕ) → held_at k others ≡ held_at k gs) → Holds ps gs rows → Holds ps others rows
  holds-same gs others rows same h = record { at = λ k. rw (same k) (h.at k) }

  -- a group of no rows behind others changes nothing that is held
  pub held_at-cover : (q k : List ℕ) (gs : List Group) → held_at k (gs ++ new_group ps q ∷ []) ≡ held_at k gs
  held_at-cover q k [] = either-way (bytes_eq k q) None
  held_at-cover q k (g ∷ gs) = rw (held_at-cover q k gs) refl

  -- nor does room for a key
  pub held_at-covered : (q k : List ℕ) (gs : List Group) → held_at k (cover ps q gs) ≡ held_at k gs
  held_at-covered q k gs = by (is_covered q gs) refl where
    by : (b : Bool) → is_covered q gs ≡ b → held_at k (cover ps q gs) ≡ held_at k gs
    by true e = rw (cover-there q ps gs e) refl
    by false e = rw (cover-new q ps gs e) (held_at-cover q k gs)

  -- so groups with room for a key hold the same rows
  pub holds-covered : (gs : List Group) (rows : List SpillRow) (k : List ℕ) → Holds ps gs rows → Holds ps (cover ps k gs) rows
  holds-covered gs rows k h = holds-same gs (cover ps k gs) rows (λ q. held_at-covered k q gs) h

  -- ---- two together

  found-joined : (o p : Option Group) (xs ys : List SpillRow) → FoundStands ps o xs → FoundStands ps p ys
      → FoundStands ps (with_held ps p o) (xs ++ ys) × FoundStands ps (with_held ps p o) (ys ++ xs)
  found-joined o None xs ys g h = rw h (rw (append-nil xs) (g, g))
  found-joined None (Some other) xs ys g h =
      rw (entries_of-append xs ys, entries_of-append ys xs)
      (group-joined ps (fresh_states ps) other.states None other.first (entries_of xs) (entries_of ys) (rw g (group-fresh ps)) h)
  found-joined (Some own) (Some other) xs ys g h =
      rw (entries_of-append xs ys, entries_of-append ys xs)
      (group-joined ps own.states other.states own.first other.first (entries_of xs) (entries_of ys) g h)

  pub holds-joined : (gs others joined : List Group) (xs ys : List SpillRow) → AreJoined ps gs others joined → Holds ps gs xs → Holds ps others ys
      → Holds ps joined (xs ++ ys) × Holds ps joined (ys ++ xs)
  holds-joined gs others joined xs ys are g h = (
    record { at = λ k. rw (of_key-append k xs ys, are k) (found-joined (held_at k gs) (held_at k others) (of_key k xs) (of_key k ys) (g.at k) (h.at k)).0 },
    record { at = λ k. rw (of_key-append k ys xs, are k) (found-joined (held_at k gs) (held_at k others) (of_key k xs) (of_key k ys) (g.at k) (h.at k)).1 },
  )

  -- ---- in another order

  -- nothing counts as the empty list but itself
  none-alike : (xs ys : List SpillRow) → CountAlike xs ys → xs ≡ [] → ys ≡ []
  none-alike xs [] alike e = refl
  none-alike xs (y ∷ ys) alike e =
      let first = count-cons (λ (x : SpillRow). true) y ys in
      let both : 0 ≡ count_by (λ (x : SpillRow). true) (y ∷ ys) = subst (λ (l : List SpillRow). count_by (λ (x : SpillRow). true) l ≡ count_by (λ (x : SpillRow). true) (y ∷ ys)) e (alike (λ x. true)) in
      absurd (omega (arith, first, both))

  found-moved : (o : Option Group) (xs ys : List SpillRow) → CountAlike xs ys → FoundStands ps o xs → FoundStands ps o ys
  found-moved None xs ys alike h = none-alike xs ys alike h
  found-moved (Some g) xs ys alike h =
      group-moved ps g.states g.first (entries_of xs) (entries_of ys) (tuples-moved (entries_of xs) (entries_of ys) (map-alike (λ (r : SpillRow). (r.place, r.values)) xs ys alike)) h

  -- groups that hold rows hold them in each order
  pub holds-moved : (gs : List Group) (rows others : List SpillRow) → IsPermutation rows others → Holds ps gs rows → Holds ps gs others
  holds-moved gs rows others moved h = record {
    at = λ k. found-moved (held_at k gs) (of_key k rows) (of_key k others) (filter-alike (λ r. bytes_eq k r.key) rows others (alike-permutation rows others moved)) (h.at k);
  }

-- ---- some keys

module _ (test : List ℕ → Bool) where
  -- the rows of a key that passes
  of_key-passing : (k : List ℕ) (rows : List SpillRow) → of_key k (filter (λ r. test r.key) rows) ≡ (if test k then of_key k rows else [])
  of_key-passing k [] = sym (either-way (test k) [])
  of_key-passing k (r ∷ rows) = by (bytes_eq k r.key) (test r.key) refl refl (of_key-passing k rows) where
    by : (b t : Bool) → bytes_eq k r.key ≡ b → test r.key ≡ t → of_key k (filter (λ r. test r.key) rows) ≡ (if test k then of_key k rows else [])
        → of_key k (filter (λ r. test r.key) (r ∷ rows)) ≡ (if test k then of_key k (r ∷ rows) else [])
    by true true e f rest = let passes : test k ≡ true = ap test ((bytes_eq-Decides k r.key).0 e) ∙ f in rw (f, e, passes) (ap (λ (l : List SpillRow). r ∷ l) (rest ∙ rw passes refl))
    by true false e f rest = let fails : test k ≡ false = ap test ((bytes_eq-Decides k r.key).0 e) ∙ f in rw (f, e, fails) (rest ∙ rw fails refl)
    by false true e f rest = rw (f, e) rest
    by false false e f rest = rw (f, e) rest

  -- groups in which the keys that pass are held as before, and no others, hold the rows of these keys
  pub holds-part : (ps : List AggregateFunction) (gs part : List Group) (rows : List SpillRow) → ((k : List ℕ) → held_at k part ≡ (if test k then held_at k gs else None)) → Holds ps gs rows
      → Holds ps part (filter (λ r. test r.key) rows)
  holds-part ps gs part rows same h = record { at = λ k. rw (of_key-passing k rows, same k) (by k (test k) (h.at k)) } where
    by : (k : List ℕ) (b : Bool) → FoundStands ps (held_at k gs) (of_key k rows) → FoundStands ps (if b then held_at k gs else None) (if b then of_key k rows else [])
    by k true h = h
    by k false h = refl

  -- those of the keys that pass are such groups
  pub held_at-passing : (k : List ℕ) (gs : List Group) → held_at k (filter (λ g. test g.key) gs) ≡ (if test k then held_at k gs else None)
  held_at-passing k [] = sym (either-way (test k) None)
  held_at-passing k (g ∷ gs) = by (bytes_eq k g.key) (test g.key) refl refl (held_at-passing k gs) where
    by : (b t : Bool) → bytes_eq k g.key ≡ b → test g.key ≡ t → held_at k (filter (λ g. test g.key) gs) ≡ (if test k then held_at k gs else None)
        → held_at k (filter (λ g. test g.key) (g ∷ gs)) ≡ (if test k then held_at k (g ∷ gs) else None)
    by true true e f rest = let passes : test k ≡ true = ap test ((bytes_eq-Decides k g.key).0 e) ∙ f in rw (f, e, passes) refl
    by true false e f rest = let fails : test k ≡ false = ap test ((bytes_eq-Decides k g.key).0 e) ∙ f in rw (f, e, fails) (rest ∙ rw fails refl)
    by false true e f rest = rw (f, e) rest
    by false false e f rest = rw (f, e) rest

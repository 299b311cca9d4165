-- Room for keys, and rows that are moved in where there is room.
use Rattle.std.proofs.Common.{◌≡◌, ◌∙◌, ◌||◌, ℕ, Bool, true, false, List, [], ◌∷◌, ◌++◌, refl, ap}
use Rattle.std.specs.Prelude.{if◌then◌else◌}
use Rattle.std.specs.List.{All}
use Rattle.std.specs.Str.{bytes_eq}
use Rattle.std.proofs.lemmas.List.Elements.{All-cons, All-head, All-nil, All-tail}
use Rattle.std.proofs.lemmas.Slice.Eq.{bytes_eq-Decides}
use Rattle.pipe_columns.specs.declared.any_value.AnyValue.{AnyValue}
use Rattle.pipe_columns.specs.declared.place.Place.{Place}
use Rattle.pipe_running.specs.declared.function.AggregateFunction.{AggregateFunction}
use Rattle.pipe_spill.specs.declared.spill_row.SpillRow.{SpillRow}
use Rattle.pipe_groups.specs.Groups.{cover, Group, held_at, is_covered, group_keys, new_group, put, group_with_row}
use Rattle.pipe_groups.proofs.HoldFacts.{held_at-covered}
use Rattle.pipe_groups.proofs.PutFacts.{cover-new, cover-there}
use Rattle.pipe_tables.specs.Tables.{cover_rows}
use Rattle.pipe_global.specs.Moving.{AreCovered, KeepsCovered}

-- ---- room for one key

-- a covered key stays so behind one group more
covered-front : (k : List ℕ) (gs : List Group) (o : Group) → is_covered k gs ≡ true → is_covered k (gs ++ o ∷ []) ≡ true
covered-front k [] o h = cc
covered-front k (g ∷ gs) o h = by (bytes_eq k g.key) h (covered-front k gs o) where
  by : (b : Bool) → b || is_covered k gs ≡ true → (is_covered k gs ≡ true → is_covered k (gs ++ o ∷ []) ≡ true) → b || is_covered k (gs ++ o ∷ []) ≡ true
  by true h next = refl
  by false h next = next h

-- the key of the last group is covered
covered-last : (k : List ℕ) (gs : List Group) (o : Group) → bytes_eq k o.key ≡ true → is_covered k (gs ++ o ∷ []) ≡ true
covered-last k [] o e = rw e refl
covered-last k (g ∷ gs) o e = by (bytes_eq k g.key) (covered-last k gs o e) where
  by : (b : Bool) → is_covered k (gs ++ o ∷ []) ≡ true → b || is_covered k (gs ++ o ∷ []) ≡ true
  by true h = refl
  by false h = h

module _ (ps : List AggregateFunction) where
  -- room for a key leaves other keys their room
  pub cover-keeps : (q : List ℕ) (gs : List Group) → KeepsCovered gs (cover ps q gs)
  cover-keeps q gs k h = by (is_covered q gs) refl where
    by : (b : Bool) → is_covered q gs ≡ b → is_covered k (cover ps q gs) ≡ true
    by true e = rw (cover-there q ps gs e) h
    by false e = rw (cover-new q ps gs e) (covered-front k gs (new_group ps q) h)

  -- and the key has it then
  pub cover-own : (q : List ℕ) (gs : List Group) → is_covered q (cover ps q gs) ≡ true
  cover-own q gs = by (is_covered q gs) refl where
    by : (b : Bool) → is_covered q gs ≡ b → is_covered q (cover ps q gs) ≡ true
    by true e = rw (cover-there q ps gs e) e
    by false e = rw (cover-new q ps gs e) (covered-last q gs (new_group ps q) ((bytes_eq-Decides q q).1 refl))

  -- ---- room for the keys of rows

  pub rows-held : (rows : List SpillRow) (gs : List Group) (k : List ℕ) → held_at k (cover_rows ps rows gs) ≡ held_at k gs
  rows-held [] gs k = refl
  rows-held (r ∷ rows) gs k = rows-held rows (cover ps r.key gs) k ∙ held_at-covered ps r.key k gs

  pub rows-keep : (rows : List SpillRow) (gs : List Group) → KeepsCovered gs (cover_rows ps rows gs)
  rows-keep [] gs k h = h
  rows-keep (r ∷ rows) gs k h = rows-keep rows (cover ps r.key gs) k (cover-keeps r.key gs k h)

  pub rows-covered : (rows : List SpillRow) (gs : List Group) → AreCovered (cover_rows ps rows gs) rows
  rows-covered [] gs = All-nil (λ r. is_covered r.key gs ≡ true)
  rows-covered (r ∷ rows) gs =
      let now : List Group = cover_rows ps rows (cover ps r.key gs) in
      All-cons (λ r. is_covered r.key now ≡ true) r rows
      (rows-keep rows (cover ps r.key gs) r.key (cover-own r.key gs)) (rows-covered rows (cover ps r.key gs))

-- a row of a covered key leaves the keys
pub put-keys : (ps : List AggregateFunction) (k : List ℕ) (p : Place) (inputs : List AnyValue) (gs : List Group) → is_covered k gs ≡ true → group_keys (put ps k p inputs gs) ≡ group_keys gs
put-keys ps k p inputs [] h = cc
put-keys ps k p inputs (g ∷ gs) h = by (bytes_eq k g.key) h (put-keys ps k p inputs gs) where
  by : (b : Bool) → b || is_covered k gs ≡ true → (is_covered k gs ≡ true → group_keys (put ps k p inputs gs) ≡ group_keys gs)
      → group_keys (if b then group_with_row p inputs g ∷ gs else g ∷ put ps k p inputs gs) ≡ g.key ∷ group_keys gs
  by true h next = refl
  by false h next = ap (λ (l : List (List ℕ)). g.key ∷ l) (next h)

-- rows whose keys have room keep it
pub covered-keep : (gs new : List Group) (rows : List SpillRow) → KeepsCovered gs new → AreCovered gs rows → AreCovered new rows
covered-keep gs new rows keeps are = λ i d lt. keeps _ (are i d lt)

-- ---- parts of a list

-- what each of two lists joined has, each of the first has
pub all-left : {A : Type 0} (P : A → Type 0) (xs ys : List A) → All P (xs ++ ys) → All P xs
all-left P [] ys all = All-nil P
all-left P (x ∷ xs) ys all = All-cons P x xs (All-head P x (xs ++ ys) all) (all-left P xs ys (All-tail P x (xs ++ ys) all))

-- and each of the second
pub all-right : {A : Type 0} (P : A → Type 0) (xs ys : List A) → All P (xs ++ ys) → All P ys
all-right P [] ys all = all
all-right P (x ∷ xs) ys all = all-right P xs ys (All-tail P x (xs ++ ys) all)

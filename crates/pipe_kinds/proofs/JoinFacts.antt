-- Columns that are joined with others, one after another.
use Rattle.std.specs.List.{All}
use Rattle.std.proofs.Common.{◌≡◌, ◌≢◌, ◌∙◌, ◌+◌, ◌<◌, ◌≤◌, ◌^◌, ℕ, zero, suc, true, List, [], ◌∷◌, length, map, get_or, set, refl, ap, sym, subst, arith}
use Rattle.std.proofs.lemmas.List.{get_or-map, get_or-set_other, get_or-set_same, length-map, length-set}
use Rattle.std.proofs.lemmas.List.Elements.{All-cons, All-head, All-tail}
use Rattle.pipe_running.specs.GroupStates.{joined_states}
use Rattle.pipe_running.specs.States.{alike, joined, seen}
use Rattle.pipe_kinds.specs.Columns.{ColumnStates, no_state, state_at}
use Rattle.pipe_kinds.specs.ManyStates.{AreJoinable, with_states}
use Rattle.pipe_kinds.specs.Stored.{AreStored, emptied_at, fresh_in, joined_first, row_in, seen_in, with_joined}
use Rattle.pipe_kinds.proofs.RowFacts.{AreHigh, rows-put}
use Rattle.pipe_columns.proofs.FrameFacts.{changed, changed_get, changed_step}
use Rattle.pipe_kinds.proofs.StoredFacts.{All-changed}

-- the states of two columns may be joined
pub record MayJoin (i from : ℕ) (o c : ColumnStates) : Type 0 where
  pub alike : alike (state_at c.states i) (state_at o.states from) ≡ true
  pub few : seen (state_at c.states i) + seen (state_at o.states from) < 2 ^ 32

module _ (i from : ℕ) where
  -- the next column is as before
  pub joined-get : (k : ℕ) (os cs : List ColumnStates) (d : ColumnStates) → get_or (joined_first i from k os cs) k d ≡ get_or cs k d
  joined-get zero os cs d = refl
  joined-get (suc k) os [] d = refl
  joined-get (suc k) [] (c ∷ cs) d = refl
  joined-get (suc k) (o ∷ os) (c ∷ cs) d = joined-get k os cs d

  -- one column more
  pub joined-more : (k : ℕ) (os cs : List ColumnStates) (o c : ColumnStates) → k < length cs → k < length os
      → set (joined_first i from k os cs) k (with_joined i from (get_or os k o) (get_or cs k c)) ≡ joined_first i from (suc k) os cs
  joined-more k os [] o c lt lo = absurd (omega arith)
  joined-more k [] (x ∷ cs) o c lt lo = absurd (omega arith)
  joined-more zero (y ∷ os) (x ∷ cs) o c lt lo = refl
  joined-more (suc k) (y ∷ os) (x ∷ cs) o c lt lo = ap (λ l. with_joined i from y x ∷ l) (joined-more k os cs o c (omega (arith, lt)) (omega (arith, lo)))

  pub length-joined : (k : ℕ) (os cs : List ColumnStates) → length (joined_first i from k os cs) ≡ length cs
  length-joined zero os cs = refl
  length-joined (suc k) os [] = refl
  length-joined (suc k) [] (c ∷ cs) = refl
  length-joined (suc k) (o ∷ os) (c ∷ cs) = ap suc (length-joined k os cs)

  -- columns that may be joined may be so at each place
  pub joinable-at : (k : ℕ) (os cs : List ColumnStates) (o c : ColumnStates) → k < length cs → k < length os → AreJoinable (row_in cs i) (row_in os from)
      → MayJoin i from (get_or os k o) (get_or cs k c)
  joinable-at k os [] o c lt lo h = absurd (omega arith)
  joinable-at k [] (x ∷ cs) o c lt lo h = absurd (omega arith)
  joinable-at zero (y ∷ os) (x ∷ cs) o c lt lo h = record { alike = h.0; few = h.1 }
  joinable-at (suc k) (y ∷ os) (x ∷ cs) o c lt lo h = joinable-at k os cs o c (omega (arith, lt)) (omega (arith, lo)) h.2

  -- ---- what is joined, at the end

  row-joined : (n : ℕ) (os cs : List ColumnStates) → i < n → length os ≡ length cs → AreHigh n cs
      → row_in (joined_first i from (length cs) os cs) i ≡ joined_states (row_in cs i) (row_in os from)
  row-joined n os [] lt e high = refl
  row-joined n [] (c ∷ cs) lt e high = absurd (omega (arith, e))
  row-joined n (o ∷ os) (c ∷ cs) lt e high =
      let one = All-head (λ (x : ColumnStates). length x.states ≡ n) c cs high in
      λ k. get_or-set_same c.states i (joined (state_at c.states i) (state_at o.states from)) no_state (omega (arith, lt, one)) k
      ∷ row-joined n os cs lt (omega (arith, e)) (All-tail (λ (x : ColumnStates). length x.states ≡ n) c cs high) k

  row-beside : (k m : ℕ) (os cs : List ColumnStates) → m ≢ i → row_in (joined_first i from k os cs) m ≡ row_in cs m
  row-beside zero m os cs other = refl
  row-beside (suc k) m os [] other = refl
  row-beside (suc k) m [] (c ∷ cs) other = refl
  row-beside (suc k) m (o ∷ os) (c ∷ cs) other =
      λ x. get_or-set_other c.states i m (joined (state_at c.states i) (state_at o.states from)) no_state other x ∷ row-beside k m os cs other x

  fresh-joined : (k : ℕ) (os cs : List ColumnStates) → fresh_in (joined_first i from k os cs) ≡ fresh_in cs
  fresh-joined zero os cs = refl
  fresh-joined (suc k) os [] = refl
  fresh-joined (suc k) [] (c ∷ cs) = refl
  fresh-joined (suc k) (o ∷ os) (c ∷ cs) = ap (λ fs. c.fresh ∷ fs) (fresh-joined k os cs)

  All-joined : (P : ColumnStates → Type 0) → ((o c : ColumnStates) → P c → P (with_joined i from o c)) → (k : ℕ) (os cs : List ColumnStates) → All P cs → All P (joined_first i from k os cs)
  All-joined P step zero os cs h = h
  All-joined P step (suc k) os [] h = h
  All-joined P step (suc k) [] (c ∷ cs) h = h
  All-joined P step (suc k) (o ∷ os) (c ∷ cs) h =
      All-cons P (with_joined i from o c) (joined_first i from k os cs) (step o c (All-head P c cs h)) (All-joined P step k os cs (All-tail P c cs h))

  pub stored-joined : (n room k : ℕ) (os cs : List ColumnStates) → AreStored cs n room → AreStored (joined_first i from k os cs) n room
  stored-joined n room k os cs stored = record {
    heights = All-joined (λ (x : ColumnStates). length x.states ≡ n) (λ o c e. length-set c.states i (joined (state_at c.states i) (state_at o.states from)) ∙ e) k os cs stored.heights;
    rooms = All-joined (λ (x : ColumnStates). room ≤ x.room) (λ o c e. e) k os cs stored.rooms;
    bound = stored.bound;
  }

  pub seen-joined : (n room : ℕ) (os cs : List ColumnStates) → i < n → length os ≡ length cs → AreHigh n cs
      → seen_in (joined_first i from (length cs) os cs) n room ≡ with_states i (joined_states (row_in cs i) (row_in os from)) (seen_in cs n room)
  seen-joined n room os cs lt e high =
      λ k. record {
        fresh = fresh-joined (length cs) os cs k;
        groups = rows-put cs (joined_first i from (length cs) os cs) n i (joined_states (row_in cs i) (row_in os from)) (row-joined n os cs lt e high) (λ m b other. row-beside (length cs) m os cs other) k;
        room = room;
      }

-- ---- what was taken over

module _ (i : ℕ) where
  row-emptied : (n : ℕ) (cs : List ColumnStates) → i < n → AreHigh n cs → row_in (map (emptied_at i) cs) i ≡ fresh_in cs
  row-emptied n [] lt high = refl
  row-emptied n (c ∷ cs) lt high =
      let one = All-head (λ (x : ColumnStates). length x.states ≡ n) c cs high in
      λ k. get_or-set_same c.states i c.fresh no_state (omega (arith, lt, one)) k
      ∷ row-emptied n cs lt (All-tail (λ (x : ColumnStates). length x.states ≡ n) c cs high) k

  row-others : (m : ℕ) (cs : List ColumnStates) → m ≢ i → row_in (map (emptied_at i) cs) m ≡ row_in cs m
  row-others m [] other = refl
  row-others m (c ∷ cs) other = λ k. get_or-set_other c.states i m c.fresh no_state other k ∷ row-others m cs other k

  fresh-emptied : (cs : List ColumnStates) → fresh_in (map (emptied_at i) cs) ≡ fresh_in cs
  fresh-emptied [] = refl
  fresh-emptied (c ∷ cs) = ap (λ fs. c.fresh ∷ fs) (fresh-emptied cs)

  pub stored-emptied : (n room : ℕ) (cs : List ColumnStates) → AreStored cs n room → AreStored (map (emptied_at i) cs) n room
  stored-emptied n room cs stored = record {
    heights = All-changed (λ (x : ColumnStates). length x.states ≡ n) (λ (x : ColumnStates). length x.states ≡ n) (emptied_at i) (λ c e. length-set c.states i c.fresh ∙ e) cs stored.heights;
    rooms = All-changed (λ (x : ColumnStates). room ≤ x.room) (λ (x : ColumnStates). room ≤ x.room) (emptied_at i) (λ c e. e) cs stored.rooms;
    bound = stored.bound;
  }

  pub seen-emptied : (n room : ℕ) (cs : List ColumnStates) → i < n → AreHigh n cs
      → seen_in (map (emptied_at i) cs) n room ≡ with_states i (fresh_in cs) (seen_in cs n room)
  seen-emptied n room cs lt high =
      λ k. record {
        fresh = fresh-emptied cs k;
        groups = rows-put cs (map (emptied_at i) cs) n i (fresh_in cs) (row-emptied n cs lt high) (λ m b other. row-others m cs other) k;
        room = room;
      }

-- ---- one column's turn

length-changed : (f : ColumnStates → ColumnStates) (k : ℕ) (cs : List ColumnStates) → length (changed f k cs) ≡ length cs
length-changed f zero cs = refl
length-changed f (suc k) [] = refl
length-changed f (suc k) (c ∷ cs) = ap suc (length-changed f k cs)

-- columns of the same kinds are as many
pub as-many : (os cs : List ColumnStates) → fresh_in os ≡ fresh_in cs → length os ≡ length cs
as-many os cs e = sym (length-map os (λ (x : ColumnStates). x.fresh)) ∙ ap length e ∙ length-map cs (λ (x : ColumnStates). x.fresh)

module _ (i from : ℕ) (cs os : List ColumnStates) (within : All (λ (x : ColumnStates). i < length x.states) cs) (from-within : All (λ (x : ColumnStates). from < length x.states) os)
    (kinds : fresh_in os ≡ fresh_in cs) (joinable : AreJoinable (row_in cs i) (row_in os from)) (j : ℕ) (lt : j < length cs) where
  -- there is another column
  pub other-there : (others : List ColumnStates) → others ≡ changed (emptied_at from) j os → j < length others
  other-there others e = omega (arith, lt, as-many os cs kinds, length-changed (emptied_at from) j os, ap length e)

  -- the columns of this turn are as they were at first
  module _ (now others : List ColumnStates) (d e : ColumnStates) (joined-are : now ≡ joined_first i from j os cs) (others-are : others ≡ changed (emptied_at from) j os) where
    abbrev there : j < length os
    there = omega (arith, lt, as-many os cs kinds)

    here : get_or now j d ≡ get_or cs j d
    here = ap (λ (l : List ColumnStates). get_or l j d) joined-are ∙ joined-get i from j os cs d

    beside : get_or others j e ≡ get_or os j e
    beside = ap (λ (l : List ColumnStates). get_or l j e) others-are ∙ changed_get (emptied_at from) j os e

    pub turn-within : i < length (get_or now j d).states
    turn-within = subst (λ (x : ColumnStates). i < length x.states) (sym here) (within j d lt)

    pub turn-from : from < length (get_or others j e).states
    turn-from = subst (λ (x : ColumnStates). from < length x.states) (sym beside) (from-within j e there)

    pub turn-fresh : (get_or others j e).fresh ≡ (get_or now j d).fresh
    turn-fresh =
        ap (λ (x : ColumnStates). x.fresh) beside ∙ sym (get_or-map (λ (x : ColumnStates). x.fresh) os j e no_state there) ∙ ap (λ fs. get_or fs j no_state) kinds
        ∙ get_or-map (λ (x : ColumnStates). x.fresh) cs j d no_state lt ∙ ap (λ (x : ColumnStates). x.fresh) (sym here)

    turn-joinable : MayJoin i from (get_or others j e) (get_or now j d)
    turn-joinable = subst (λ (x : ColumnStates). MayJoin i from (get_or others j e) x) (sym here) (subst (λ (x : ColumnStates). MayJoin i from x (get_or cs j d)) (sym beside) (joinable-at i from j os cs e d lt there joinable))

    pub turn-alike : alike (state_at (get_or now j d).states i) (state_at (get_or others j e).states from) ≡ true
    turn-alike = turn-joinable.alike

    pub turn-few : seen (state_at (get_or now j d).states i) + seen (state_at (get_or others j e).states from) < 2 ^ 32
    turn-few = turn-joinable.few

    pub turn-joined : (new : ColumnStates) → new ≡ with_joined i from (get_or others j e) (get_or now j d) → set now j new ≡ joined_first i from (j + 1) os cs
    turn-joined new made =
        let more : suc j ≡ j + 1 = omega arith in
        (λ k. set (joined-are k) j ((made ∙ (λ x. with_joined i from (beside x) (here x))) k)) ∙ joined-more i from j os cs e d lt there ∙ ap (λ k. joined_first i from k os cs) more

    pub turn-emptied : (new : ColumnStates) → new ≡ emptied_at from (get_or others j e) → set others j new ≡ changed (emptied_at from) (j + 1) os
    turn-emptied new made = changed_step (emptied_at from) os others j e new there others-are made

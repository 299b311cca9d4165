-- What columns keep of their heights and of their memory.
use Rattle.std.specs.List.{All}
use Rattle.std.proofs.Common.{◌≡◌, ◌∙◌, ◌+◌, ◌-◌, ◌<◌, ◌≤◌, ◌^◌, ℕ, List, [], ◌∷◌, length, map, take, get_or, set, refl, ap, sym, arith}
use Rattle.std.proofs.lemmas.List.{get_or-map, length-map, length-set, length_push, take_more_set}
use Rattle.std.proofs.lemmas.List.Elements.{All-cons, All-head, All-nil, All-push, All-set, All-tail}
use Rattle.std.proofs.Math.Seq.{map-set_same}
use Rattle.pipe_running.specs.declared.function.AggregateFunction.{AggregateFunction}
use Rattle.pipe_kinds.specs.Columns.{cleared, ColumnStates, pushed, released, state_at, with_state}
use Rattle.pipe_kinds.specs.Stored.{AreStored, fresh_in, HaveRoom, row_in, seen_in}
use Rattle.pipe_kinds.proofs.RowFacts.{rows-same}

-- a fact of each column is one of each changed column
pub All-changed : (P Q : ColumnStates → Type 0) (f : ColumnStates → ColumnStates) → ((c : ColumnStates) → P c → Q (f c)) → (cs : List ColumnStates) → All P cs → All Q (map f cs)
All-changed P Q f step [] h = All-nil Q
All-changed P Q f step (c ∷ cs) h = All-cons Q (f c) (map f cs) (step c (All-head P c cs h)) (All-changed P Q f step cs (All-tail P c cs h))

-- less memory is there where more is
pub room-less : (r s : ℕ) → r ≤ s → (cs : List ColumnStates) → HaveRoom s cs → HaveRoom r cs
room-less r s le cs h = λ k d lt. let there : s ≤ (get_or cs k d).room = h k d lt in omega (arith, le, there)

-- a state replaced
pub stored-set : (cs : List ColumnStates) (n room g j : ℕ) (c : ColumnStates) (s : AggregateFunction) → j < length cs → c ≡ get_or cs j c → AreStored cs n room → AreStored (set cs j (with_state g s c)) n room
stored-set cs n room g j c s there is stored =
    let high : length (get_or cs j c).states ≡ n = stored.heights j c there in
    let wide : room ≤ (get_or cs j c).room = stored.rooms j c there in
    let same : length c.states ≡ n = ap (λ (x : ColumnStates). length x.states) is ∙ high in
    let long = length-set c.states g s in
    record {
      heights = All-set (λ (x : ColumnStates). length x.states ≡ n) cs j (with_state g s c) (long ∙ same) stored.heights;
      rooms = All-set (λ (x : ColumnStates). room ≤ x.room) cs j (with_state g s c) (omega (arith, wide, ap (λ (x : ColumnStates). x.room) is)) stored.rooms;
      bound = stored.bound;
    }

-- a group more
pub stored-pushed : (cs : List ColumnStates) (n room : ℕ) → 0 < room → AreStored cs n room → AreStored (map pushed cs) (n + 1) (room - 1)
stored-pushed cs n room some stored = record {
  heights = All-changed (λ (x : ColumnStates). length x.states ≡ n) (λ (x : ColumnStates). length x.states ≡ n + 1) pushed
      (λ c e. length_push c.states c.fresh ∙ ap (λ m. m + 1) e) cs stored.heights;
  rooms = All-changed (λ (x : ColumnStates). room ≤ x.room) (λ (x : ColumnStates). room - 1 ≤ x.room) pushed (λ c e. omega (arith, e)) cs stored.rooms;
  bound = omega (arith, some, stored.bound);
}

-- no group, with the memory of all
pub stored-cleared : (cs : List ColumnStates) (n room : ℕ) → AreStored cs n room → AreStored (map cleared cs) 0 room
stored-cleared cs n room stored = record {
  heights = All-changed (λ (x : ColumnStates). length x.states ≡ n) (λ (x : ColumnStates). length x.states ≡ 0) cleared (λ c e. refl) cs stored.heights;
  rooms = All-changed (λ (x : ColumnStates). room ≤ x.room) (λ (x : ColumnStates). room ≤ x.room) cleared (λ c e. omega (arith, e)) cs stored.rooms;
  bound = omega (arith, stored.bound);
}

-- no group and no memory
pub stored-released : (cs : List ColumnStates) (n room : ℕ) → AreStored cs n room → AreStored (map released cs) 0 0
stored-released cs n room stored = record {
  heights = All-changed (λ (x : ColumnStates). length x.states ≡ n) (λ (x : ColumnStates). length x.states ≡ 0) released (λ c e. refl) cs stored.heights;
  rooms = All-changed (λ (x : ColumnStates). room ≤ x.room) (λ (x : ColumnStates). 0 ≤ x.room) released (λ c e. omega arith) cs stored.rooms;
  bound = omega arith;
}

pub fresh-cleared : (cs : List ColumnStates) → fresh_in (map cleared cs) ≡ fresh_in cs
fresh-cleared [] = refl
fresh-cleared (c ∷ cs) = ap (λ fs. c.fresh ∷ fs) (fresh-cleared cs)

pub fresh-released : (cs : List ColumnStates) → fresh_in (map released cs) ≡ fresh_in cs
fresh-released [] = refl
fresh-released (c ∷ cs) = ap (λ fs. c.fresh ∷ fs) (fresh-released cs)

-- ---- more memory

-- columns have more memory than before, and are the same else
pub record AreReserved (before now : List ColumnStates) : Type 0 where
  pub states : map (λ (c : ColumnStates). c.states) now ≡ map (λ (c : ColumnStates). c.states) before
  pub fresh : fresh_in now ≡ fresh_in before
  pub keeps : (r : ℕ) → HaveRoom r before → HaveRoom r now

pub reserved-none : (cs : List ColumnStates) → AreReserved cs cs
reserved-none cs = record { states = refl; fresh = refl; keeps = λ r h. h }

pub reserved-one : (before now : List ColumnStates) (j : ℕ) (d new : ColumnStates) → AreReserved before now → j < length now
    → new.states ≡ (get_or now j d).states → new.fresh ≡ (get_or now j d).fresh → (get_or now j d).room ≤ new.room → AreReserved before (set now j new)
reserved-one before now j d new old lt states fresh room = record {
  states = map-set_same (λ (x : ColumnStates). x.states) now j new d states ∙ old.states;
  fresh = map-set_same (λ (x : ColumnStates). x.fresh) now j new d fresh ∙ old.fresh;
  keeps = λ r h.
      let kept : r ≤ (get_or now j d).room = old.keeps r h j d lt in
      All-set (λ (x : ColumnStates). r ≤ x.room) now j new (omega (arith, kept, room)) (old.keeps r h);
}

-- the least room of the columns so far
pub room-more : (now : List ColumnStates) (j : ℕ) (new : ColumnStates) (r s : ℕ) → j < length now → HaveRoom r (take j now) → s ≤ r → s ≤ new.room → HaveRoom s (take (j + 1) (set now j new))
room-more now j new r s lt h le fits =
    rw (take_more_set now j new lt) (All-push (λ (x : ColumnStates). s ≤ x.room) (take j now) new (room-less s r le (take j now) h) fits)

row-of-states : (cs : List ColumnStates) (i : ℕ) → row_in cs i ≡ map (λ (states : List AggregateFunction). state_at states i) (map (λ (c : ColumnStates). c.states) cs)
row-of-states [] i = refl
row-of-states (c ∷ cs) i = ap (λ row. state_at c.states i ∷ row) (row-of-states cs i)

module _ (before now : List ColumnStates) (same : AreReserved before now) (n : ℕ) where
  pub length-reserved : length now ≡ length before
  length-reserved =
      sym (length-map now (λ (c : ColumnStates). c.states)) ∙ ap length same.states ∙ length-map before (λ (c : ColumnStates). c.states)

  -- they are seen alike
  pub seen-reserved : (r : ℕ) → seen_in now n r ≡ seen_in before n r
  seen-reserved r =
      let row = λ (m : ℕ). row-of-states now m ∙ ap (λ ls. map (λ (states : List AggregateFunction). state_at states m) ls) same.states ∙ sym (row-of-states before m) in
      λ k. record { fresh = same.fresh k; groups = rows-same before now 0 n (λ m a b. row m) k; room = r }

  -- and stand as high
  pub stored-reserved : (room r : ℕ) → AreStored before n room → HaveRoom r now → n + r < 2 ^ 64 → AreStored now n r
  stored-reserved room r stored rooms bound =
      let states = λ (c : ColumnStates). c.states in
      record {
        heights = λ k d lt.
            let there : k < length before = omega (arith, lt, length-reserved) in
            ap length (sym (get_or-map states now k d [] lt) ∙ ap (λ ls. get_or ls k []) same.states ∙ get_or-map states before k d [] there) ∙ stored.heights k d there;
        rooms = rooms;
        bound = bound;
      }

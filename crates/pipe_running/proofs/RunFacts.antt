-- Loops that take a run of values, one after another: a run that is left as nulls, and one that is lent.
use Rattle.std.proofs.Common.{◌≡◌, ◌∙◌, ℕ, ◌+◌, ◌<◌, ◌≤◌, Bool, true, List, [], ◌∷◌, ◌++◌, length, replicate, drop, get_or, slice_index_or, slice_set, refl, sym, ap, subst, append_assoc, arith}
use Rattle.std.specs.List.{list_all}
use Rattle.std.proofs.lemmas.List.{append-nil, drop_all, drop_more, length-replicate, replicate_more}
use Rattle.std.proofs.Math.Seq.{get_or-append_seam, set-append_seam}
use Rattle.pipe_columns.specs.declared.any_value.AnyValue.{AnyValue}
use Rattle.pipe_columns.specs.declared.any_value.AnyValue.TheVariants as av
use Rattle.pipe_columns.specs.declared.place.Place.{Place}
use Rattle.pipe_running.specs.Runs.{after_run}

-- what all values of a list pass, the first passes
list_all-head : (p : AnyValue → Bool) (v : AnyValue) (rest : List AnyValue) → list_all p (v ∷ rest) ≡ true → p v ≡ true
list_all-head p v rest e = grind arith

-- and so do the others
list_all-tail : (p : AnyValue → Bool) (v : AnyValue) (rest : List AnyValue) → list_all p (v ∷ rest) ≡ true → list_all p rest ≡ true
list_all-tail p v rest e = grind arith

-- ---- what is left of a run

-- before the value at i of a run all are taken: the rest gives what the whole was to give
pub record Left {S : Type 0} (after : Place → AnyValue → S → S) (takes : S → AnyValue → Bool) (seen : S → ℕ) (chunk first : ℕ) (whole : List AnyValue) (before : S) (i : ℕ) (rest : List AnyValue) (now : S) : Type 0 where
  pub state : after_run after chunk (first + i) rest now ≡ after_run after chunk first whole before
  pub taken : list_all (takes now) rest ≡ true
  pub few : seen now + length rest ≤ seen before + length whole
  pub size : i + length rest ≡ length whole

-- so many nulls
abbrev pub nulls : ℕ → List AnyValue
nulls n = replicate n av.Null

-- the same where nulls stand for what is taken
pub record Taken {S : Type 0} (after : Place → AnyValue → S → S) (takes : S → AnyValue → Bool) (seen : S → ℕ) (chunk first : ℕ) (whole : List AnyValue) (before : S) (i : ℕ) (values : List AnyValue) (now : S) : Type 0 where
  pub rest : List AnyValue
  pub values_are : values ≡ nulls i ++ rest
  pub left : Left after takes seen chunk first whole before i rest now

-- the value past so many nulls
at_seam : (i : ℕ) (v : AnyValue) (rest : List AnyValue) (d : AnyValue) → slice_index_or (nulls i ++ v ∷ rest) i d ≡ v
at_seam i v rest d = ap (λ (k : ℕ). slice_index_or (nulls i ++ v ∷ rest) k d) (sym (length-replicate i av.Null)) ∙ get_or-append_seam (nulls i) v rest d

-- a null in its place is one null more
one_null_more : (i : ℕ) (v : AnyValue) (rest : List AnyValue) → slice_set (nulls i ++ v ∷ rest) i av.Null ≡ nulls (i + 1) ++ rest
one_null_more i v rest =
    ap (λ (k : ℕ). slice_set (nulls i ++ v ∷ rest) k av.Null) (sym (length-replicate i av.Null)) ∙ set-append_seam (nulls i) v rest av.Null
    ∙ sym (append_assoc (nulls i) (av.Null ∷ []) rest) ∙ ap (λ (xs : List AnyValue). xs ++ rest) (replicate_more i av.Null)

module _ {S : Type 0} (after : Place → AnyValue → S → S) (takes : S → AnyValue → Bool) (seen : S → ℕ)
    (seen_by_one : (p : Place) (v : AnyValue) (s : S) → seen (after p v s) ≤ seen s + 1)
    (takes_alike : (p : Place) (v w : AnyValue) (s : S) → takes (after p v s) w ≡ takes s w)
    (chunk first : ℕ) (whole : List AnyValue) (before : S) where
  -- at the place i of this run
  abbrev LeftAt : ℕ → List AnyValue → S → Type 0
  LeftAt i rest now = Left after takes seen chunk first whole before i rest now

  -- at first all is left
  all_left : list_all (takes before) whole ≡ true → LeftAt 0 whole before
  all_left e = record {
    state = ap (λ (n : ℕ). after_run after chunk n whole before) (omega arith);
    taken = e;
    few = omega arith;
    size = omega arith;
  }

  -- what one more turn needs and gives
  pub record Turn (i : ℕ) (value : AnyValue) (rest : List AnyValue) (now : S) : Type 0 where
    pub takes_it : takes now value ≡ true
    pub room : seen now + 1 ≤ seen before + length whole
    pub next : LeftAt (i + 1) rest (after (record { chunk = chunk; row = first + i }) value now)

  one_turn : (i : ℕ) (v : AnyValue) (rest : List AnyValue) (now : S) → LeftAt i (v ∷ rest) now → Turn i v rest now
  one_turn i v rest now s =
      let p : Place = record { chunk = chunk; row = first + i } in
      let few = s.few in
      let size = s.size in
      record {
        takes_it = list_all-head (takes now) v rest s.taken;
        room = omega arith;
        next = record {
          state = ap (λ (n : ℕ). after_run after chunk n rest (after p v now)) (omega arith) ∙ s.state;
          taken = ap (λ (t : AnyValue → Bool). list_all t rest) (λ k w. takes_alike p v w now k) ∙ list_all-tail (takes now) v rest s.taken;
          few = let grown : seen (after p v now) ≤ seen now + 1 = seen_by_one p v now in omega arith;
          size = omega arith;
        };
      }

  -- ---- a run that is left as nulls

  -- so it is at the place i of this run
  abbrev pub So : ℕ → List AnyValue → S → Type 0
  So i values now = Taken after takes seen chunk first whole before i values now

  pub begun : list_all (takes before) whole ≡ true → So 0 whole before
  begun e = record { rest = whole; values_are = refl; left = all_left e }

  -- what one more turn of that loop needs and gives
  pub record NullTurn (i : ℕ) (values : List AnyValue) (now : S) : Type 0 where
    pub value : AnyValue
    pub is : (d : AnyValue) → slice_index_or values i d ≡ value
    pub takes_it : takes now value ≡ true
    pub room : seen now + 1 ≤ seen before + length whole
    pub next : So (i + 1) (slice_set values i av.Null) (after (record { chunk = chunk; row = first + i }) value now)

  turn_at : (i : ℕ) (values : List AnyValue) (now : S) (rest : List AnyValue) → i < length whole → values ≡ nulls i ++ rest → LeftAt i rest now → NullTurn i values now
  turn_at i values now [] inside e s = let size = s.size in absurd (omega arith)
  turn_at i values now (v ∷ rest) inside e s =
      let one = one_turn i v rest now s in
      record {
        value = v;
        is = λ d. rw e (at_seam i v rest d);
        takes_it = one.takes_it;
        room = one.room;
        next = record { rest = rest; values_are = rw e (one_null_more i v rest); left = one.next };
      }

  pub turn : (i : ℕ) (values : List AnyValue) (now : S) → i < length whole → So i values now → NullTurn i values now
  turn i values now inside s = turn_at i values now s.rest inside s.values_are s.left

  nothing_left : (i : ℕ) (values : List AnyValue) (now : S) (rest : List AnyValue) → i ≡ length whole → values ≡ nulls i ++ rest → LeftAt i rest now
      → (now ≡ after_run after chunk first whole before) × (values ≡ nulls (length whole))
  nothing_left i values now [] at e s = (s.state, e ∙ append-nil (nulls i) ∙ ap nulls at)
  nothing_left i values now (v ∷ rest) at e s = let size = s.size in absurd (omega arith)

  -- after the last turn
  pub done : (i : ℕ) (values : List AnyValue) (now : S) → i ≡ length whole → So i values now
      → (now ≡ after_run after chunk first whole before) × (values ≡ nulls (length whole))
  done i values now at s = nothing_left i values now s.rest at s.values_are s.left

  -- ---- a run that is lent

  pub lent-begun : list_all (takes before) whole ≡ true → LeftAt 0 (drop 0 whole) before
  lent-begun e = all_left e

  -- one more turn of that loop
  pub lent-turn : (i : ℕ) (value : AnyValue) (now : S) → i < length whole → value ≡ get_or whole i value → LeftAt i (drop i whole) now → Turn i value (drop (i + 1) whole) now
  lent-turn i value now inside is s =
      let here : drop i whole ≡ value ∷ drop (i + 1) whole = drop_more whole i value inside ∙ ap (λ (v : AnyValue). v ∷ drop (i + 1) whole) (sym is) in
      one_turn i value (drop (i + 1) whole) now (subst (λ (rest : List AnyValue). LeftAt i rest now) here s)

  -- after its last turn
  pub lent-done : (i : ℕ) (now : S) → i ≡ length whole → LeftAt i (drop i whole) now → now ≡ after_run after chunk first whole before
  lent-done i now at s =
      let empty : drop i whole ≡ [] = drop_all i whole (omega arith) in
      let last : LeftAt i [] now = subst (λ (rest : List AnyValue). LeftAt i rest now) empty s in
      last.state

-- a run that one state of several kinds takes
pub run-within : {S T : Type 0} (within : S → T) (after : Place → AnyValue → S → S) (after_any : Place → AnyValue → T → T)
    → ((p : Place) (v : AnyValue) (s : S) → after_any p v (within s) ≡ within (after p v s))
    → (chunk row : ℕ) (values : List AnyValue) (s : S) → within (after_run after chunk row values s) ≡ after_run after_any chunk row values (within s)
run-within within after after_any alike chunk row [] s = refl
run-within within after after_any alike chunk row (v ∷ vs) s =
    run-within within after after_any alike chunk (row + 1) vs (after (record { chunk = chunk; row = row }) v s)
    ∙ ap (after_run after_any chunk (row + 1) vs) (sym (alike (record { chunk = chunk; row = row }) v s))

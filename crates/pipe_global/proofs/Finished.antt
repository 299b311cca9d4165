-- A partition whose rows are all in its table takes in those of a local table, and gives their groups.
use Rattle.std.proofs.Common.{◌≡◌, ◌∙◌, ◌+◌, ◌<◌, ℕ, Bool, true, false, not, List, [], ◌∷◌, ◌++◌, length, refl, sym, ap, subst, arith, length-append, Option, None, if◌then◌else◌}
use Rattle.std.specs.List.{All, AllZip, sum_by}
use Rattle.std.specs.List.Sorted.{IsPermutation}
use Rattle.std.proofs.lemmas.List.{append-nil}
use Rattle.std.proofs.lemmas.List.Elements.{All-cons, All-filter, All-nil}
use Rattle.std.proofs.lemmas.List.Filters.{length-filter_both}
use Rattle.std.proofs.lemmas.List.Sorted.{IsPermutation-append_left, IsPermutation-sym}
use Rattle.pipe_columns.specs.declared.place.Place.{Place}
use Rattle.pipe_columns.specs.Frame.{FrameData}
use Rattle.pipe_plan.specs.Replay.{joined_lists}
use Rattle.pipe_spill.specs.SpillRow.{AreRows, IsRow, joined_rows, Payload}
use Rattle.pipe_spill.specs.declared.spill_row.SpillRow.{SpillRow}
use Rattle.pipe_groups.specs.Groups.{Group, held_at}
use Rattle.pipe_groups.specs.Holds.{Holds}
use Rattle.pipe_groups.specs.Pieces.{PiecesSeen}
use Rattle.pipe_groups.specs.Shape.{Shape}
use Rattle.pipe_groups.proofs.HoldFacts.{holds-moved, holds-part}
use Rattle.pipe_keyed.specs.Tables.{HoldFewTogether, Table}
use Rattle.pipe_tables.specs.Tables.{lies_in}
use Rattle.pipe_global.specs.declared.mark.Mark.{Mark}
use Rattle.pipe_global.specs.Finishing.{AreOwn, CanFinish, GivesGroups, GivesOwn, GivesOwnPieces, GivesOwnPlaced, GivesPieces, GivesPlaced, IsEmptied, IsMarked, KeepsRest, other_rows, own_rows, StandAsBefore, StandFor, StandMoved, StandsForRows}
use Rattle.pipe_global.specs.Gathering.{HasGathered, HasGiven, HasGivenPieces, HasGivenPlaced, HasTakenLocal, HoldsAllRows, without_groups}
use Rattle.pipe_global.specs.Partition.{PartitionSeen}
use Rattle.pipe_global.proofs.Gathered.{kept-more, own-append, own-kept, own-none}

-- ---- the local table stays

-- what a local table holds of a shape
holds-shape : (x y : Shape) (gs : List Group) (rows : List SpillRow) → y ≡ x → Holds x.prototypes gs rows → Holds y.prototypes gs rows
holds-shape x y gs rows is h = subst (λ (z : Shape). Holds z.prototypes gs rows) (sym is) h

-- a partition that gathered can still finish
pub finish-gathered : (s new : PartitionSeen) (local : Table) → HasGathered s new → CanFinish s local → CanFinish new local
finish-gathered s new local g can =
    let shape : new.table.shape ≡ s.table.shape = g.kept.shape.0 in record {
      shape = can.shape ∙ sym shape;
      locals = can.locals;
      holds = holds-shape s.table.shape new.table.shape local.groups can.locals shape can.holds;
      typed = subst (λ (x : Shape). AreRows x.key_types x.input_types can.locals) (sym shape) can.typed;
      gathers = g.gathers (length can.locals) can.gathers;
    }

-- and both stand for the same
pub as-gathered : (s new : PartitionSeen) (local : Table) → HasGathered s new → StandAsBefore s new local local
as-gathered s new local g rows locals st = record {
  stands = g.stands rows st.stands;
  holds = holds-shape s.table.shape new.table.shape local.groups locals g.kept.shape.0 st.holds;
}

-- ---- nothing waits, and no frame is marked

-- the rows that it stands for are all held
all-held : (s : PartitionSeen) (rows : List SpillRow) → s.waiting ≡ [] → s.marks ≡ [] → (st : StandsForRows s rows) → IsPermutation rows st.held
all-held s rows none unmarked st =
    let frames : st.frames ≡ [] = no-frames st.frames (subst (λ (l : List Mark). AllZip (IsMarked s) l st.frames) unmarked st.marked) in
    let nothing : joined_rows s.waiting ++ joined_lists st.frames ≡ [] = ap (λ (l : List Payload). joined_rows l ++ joined_lists st.frames) none ∙ ap (λ (l : List (List SpillRow)). joined_lists l) frames in
    subst (IsPermutation rows) (ap (λ (l : List SpillRow). st.held ++ l) nothing ∙ append-nil st.held) st.all
  where
    no-frames : (frames : List (List SpillRow)) → AllZip (IsMarked s) [] frames → frames ≡ []
    no-frames [] z = refl
    no-frames (f ∷ frames) z = absurd z

-- ---- the local rows of the partition come over

-- the test of a key, and its opposite
either : (b : Bool) (o : Option Group) → (if b then None else o) ≡ (if not b then o else None)
either true o = refl
either false o = refl

module _ (s new : PartitionSeen) (local left : Table) (none : s.waiting ≡ []) (unmarked : s.marks ≡ []) (t : HasTakenLocal s new local left) where
  shape : new.table.shape ≡ s.table.shape
  shape = t.shape.0

  waiting : new.waiting ≡ []
  waiting = ap (λ (x : PartitionSeen). x.waiting) t.others ∙ none

  marks : new.marks ≡ []
  marks = ap (λ (x : PartitionSeen). x.marks) t.others ∙ unmarked

  store : new.store ≡ s.store
  store = ap (λ (x : PartitionSeen). x.store) t.others

  pub local-kept : KeepsRest s new
  local-kept = record {
    shape = t.shape;
    store = rw store record { told = refl; held = refl; sure = refl; path = refl; faults = omega arith };
    others =
        let waits : new.waiting ≡ s.waiting = ap (λ (x : PartitionSeen). x.waiting) t.others in
        let marked : new.marks ≡ s.marks = ap (λ (x : PartitionSeen). x.marks) t.others in
        t.others ∙ rw (waits, marked, store) refl;
  }

  -- the table holds its rows and the local ones of the partition
  joined : (rows locals : List SpillRow) → Holds s.table.shape.prototypes s.table.groups rows → Holds s.table.shape.prototypes local.groups locals
      → Holds new.table.shape.prototypes new.table.groups (rows ++ own_rows s locals)
  joined rows locals h l = holds-shape s.table.shape new.table.shape new.table.groups (rows ++ own_rows s locals) shape (t.holds rows locals h l)

  -- the local table holds the others
  others : (locals : List SpillRow) → Holds s.table.shape.prototypes local.groups locals → Holds new.table.shape.prototypes left.groups (other_rows s locals)
  others locals l =
      holds-shape s.table.shape new.table.shape left.groups (other_rows s locals) shape
      (holds-part (λ k. not (lies_in s.partitions s.number k)) s.table.shape.prototypes local.groups left.groups locals
      (λ k. t.rest.held k ∙ either (lies_in s.partitions s.number k) (held_at k local.groups)) l)

  -- so both stand for the same, otherwise shared out
  pub moved-local : StandMoved s new local left
  moved-local rows locals st =
      let all : IsPermutation rows st.stands.held = all-held s rows none unmarked st.stands in
      let both : IsPermutation (rows ++ own_rows s locals) (st.stands.held ++ own_rows s locals) = IsPermutation-append_left (own_rows s locals) rows st.stands.held all in
      let left_none : joined_rows new.waiting ++ [] ≡ [] = ap (λ (l : List Payload). joined_rows l ++ []) waiting in
      record {
        stands = record {
          held = st.stands.held ++ own_rows s locals;
          frames = [];
          holds = joined st.stands.held locals st.stands.holds st.holds;
          marked = subst (λ (l : List Mark). AllZip (IsMarked new) l []) (sym marks) tt;
          all = subst (IsPermutation (rows ++ own_rows s locals)) (sym (ap (λ (l : List SpillRow). (st.stands.held ++ own_rows s locals) ++ l) left_none ∙ append-nil (st.stands.held ++ own_rows s locals))) both;
        };
        holds = others locals st.holds;
      }

  -- what a test keeps passes it
  all-pass : (rows : List SpillRow) → All (λ r. lies_in s.partitions s.number r.key ≡ true) (own_rows s rows)
  all-pass [] = All-nil (λ r. lies_in s.partitions s.number r.key ≡ true)
  all-pass (r ∷ rows) = by (lies_in s.partitions s.number r.key) refl (all-pass rows) where
    by : (b : Bool) → lies_in s.partitions s.number r.key ≡ b → All (λ r. lies_in s.partitions s.number r.key ≡ true) (own_rows s rows) → All (λ r. lies_in s.partitions s.number r.key ≡ true) (own_rows s (r ∷ rows))
    by true e rest = rw e (All-cons (λ r. lies_in s.partitions s.number r.key ≡ true) r (own_rows s rows) e rest)
    by false e rest = rw e rest

  own-part : (rows : List SpillRow) → AreRows s.table.shape.key_types s.table.shape.input_types rows → AreOwn s (own_rows s rows)
  own-part rows typed = record {
    typed = All-filter (λ r. lies_in s.partitions s.number r.key) (IsRow s.table.shape.key_types s.table.shape.input_types) rows typed;
    lie = all-pass rows;
  }

  -- and it can still finish
  pub finish-local : CanFinish s local → CanFinish new left
  finish-local can =
      let more : List SpillRow = own_rows s can.locals in
      let rest : List SpillRow = other_rows s can.locals in
      let count : length more + length rest ≡ length can.locals = length-filter_both (λ (r : SpillRow). lies_in s.partitions s.number r.key) (λ (r : SpillRow). not (lies_in s.partitions s.number r.key)) (λ r. refl) can.locals in
      let was = can.gathers.few in
      let zero : length (joined_rows new.waiting) ≡ 0 = ap (λ (l : List Payload). length (joined_rows l)) waiting in
      let zeros : sum_by (λ (m : Mark). m.rows) new.marks ≡ 0 = ap (λ (l : List Mark). sum_by (λ (m : Mark). m.rows) l) marks in
      record {
        shape = t.rest.shape.0 ∙ can.shape ∙ sym shape;
        locals = rest;
        holds = others can.locals can.holds;
        typed = subst (λ (x : Shape). AreRows x.key_types x.input_types rest) (sym shape) (All-filter (λ r. not (lies_in s.partitions s.number r.key)) (IsRow s.table.shape.key_types s.table.shape.input_types) can.locals can.typed);
        gathers = record {
          exists = subst (λ (x : PartitionSeen). x.number < x.partitions) (sym t.others) can.gathers.exists;
          limit = t.shape.1 ∙ can.gathers.limit;
          few = record {
            rows = was.rows ++ more;
            holds = joined was.rows can.locals was.holds can.holds;
            own = own-kept s new local-kept (was.rows ++ more) (own-append s was.rows more was.own (own-part can.locals can.typed));
            few = omega (arith, was.few, zero, zeros, count, length-append was.rows more);
          };
          waiting = subst (λ (l : List Payload). AreOwn new (joined_rows l)) (sym waiting) (own-none new);
          numbers = subst (λ (l : List Mark). All (λ m. m.number < new.store.held) l) (sym marks) (All-nil (λ (m : Mark). m.number < new.store.held));
          marked = λ tells. subst (λ (l : List Mark). All (λ m. (rows : List SpillRow) × IsMarked new m rows) l) (sym marks) (All-nil (λ (m : Mark). (rows : List SpillRow) × IsMarked new m rows));
        };
      }

-- both tables hold few rows together
pub few-together : (s : PartitionSeen) (local : Table) → CanFinish s local → HoldFewTogether s.table local
few-together s local can = record {
  rows = can.gathers.few.rows;
  others = can.locals;
  holds = can.gathers.few.holds;
  other_holds = can.holds;
  typed = can.gathers.few.own.typed;
  others_typed = can.typed;
  few = omega (arith, can.gathers.few.few);
}

-- ---- all is in the table

-- it stands for what its table holds
pub holds-standing : (s : PartitionSeen) (rows : List SpillRow) → s.waiting ≡ [] → s.marks ≡ [] → StandsForRows s rows → Holds s.table.shape.prototypes s.table.groups rows
holds-standing s rows none unmarked st = holds-moved s.table.shape.prototypes s.table.groups st.held rows (IsPermutation-sym rows st.held (all-held s rows none unmarked st)) st.holds

-- own rows are those of the partition before
own-back : (s now : PartitionSeen) (rows : List SpillRow) → KeepsRest s now → AreOwn now rows → AreOwn s rows
own-back s now rows k own = record {
  typed = subst (λ (x : Shape). AreRows x.key_types x.input_types rows) k.shape.0 own.typed;
  lie =
      subst (λ n. All (λ r. lies_in s.partitions n r.key ≡ true) rows) (ap (λ (x : PartitionSeen). x.number) k.others)
      (subst (λ n. All (λ r. lies_in n now.number r.key ≡ true) rows) (ap (λ (x : PartitionSeen). x.partitions) k.others) own.lie);
}

module _ (s now : PartitionSeen) (local left : Table) (kept : KeepsRest s now) where
  -- what is given: the groups of the rows that both stood for
  pub gives-rows : (slice rest : Option (ℕ × ℕ)) (f : FrameData) → HoldsAllRows s now local left → HasGiven now slice rest f → (rows locals : List SpillRow) → StandFor s local rows locals
      → GivesGroups s.table.shape slice rest (rows ++ own_rows s locals) f
  gives-rows slice rest f ready given rows locals both =
      let moved = ready.moved rows locals both in
      subst (λ (x : Shape). GivesGroups x slice rest (rows ++ own_rows s locals) f) kept.shape.0 (record {
        groups = now.table.groups;
        apart = given.apart;
        holds = holds-standing now (rows ++ own_rows s locals) ready.waiting ready.marks moved.stands;
        frame_is = given.frame_is;
        left_is = given.left_is;
      })

  pub gives-pieces : (slice rest : Option (ℕ × ℕ)) (p : PiecesSeen) → HoldsAllRows s now local left → HasGivenPieces now slice rest p → (rows locals : List SpillRow) → StandFor s local rows locals
      → GivesPieces s.table.shape slice rest (rows ++ own_rows s locals) p
  gives-pieces slice rest p ready given rows locals both =
      let moved = ready.moved rows locals both in
      subst (λ (x : Shape). GivesPieces x slice rest (rows ++ own_rows s locals) p) kept.shape.0 (record {
        groups = now.table.groups;
        apart = given.apart;
        holds = holds-standing now (rows ++ own_rows s locals) ready.waiting ready.marks moved.stands;
        pieces_are = given.pieces_are;
        left_is = given.left_is;
      })

  pub gives-placed : (f : FrameData) (firsts : List Place) → HoldsAllRows s now local left → HasGivenPlaced now f firsts → (rows locals : List SpillRow) → StandFor s local rows locals
      → GivesPlaced s.table.shape (rows ++ own_rows s locals) f firsts
  gives-placed f firsts ready given rows locals both =
      let moved = ready.moved rows locals both in
      subst (λ (x : Shape). GivesPlaced x (rows ++ own_rows s locals) f firsts) kept.shape.0 (record {
        groups = now.table.groups;
        apart = given.apart;
        holds = holds-standing now (rows ++ own_rows s locals) ready.waiting ready.marks moved.stands;
        placed = given.placed;
      })

  -- whatever a store gave: the groups of rows of the partition
  pub gives-own : (slice rest : Option (ℕ × ℕ)) (f : FrameData) → CanFinish now left → HasGiven now slice rest f → GivesOwn s slice rest f
  gives-own slice rest f can given =
      let few = can.gathers.few in record {
        rows = few.rows;
        own = own-back s now few.rows kept few.own;
        gives = subst (λ (x : Shape). GivesGroups x slice rest few.rows f) kept.shape.0 (record { groups = now.table.groups; apart = given.apart; holds = few.holds; frame_is = given.frame_is; left_is = given.left_is });
      }

  pub gives-own-pieces : (slice rest : Option (ℕ × ℕ)) (p : PiecesSeen) → CanFinish now left → HasGivenPieces now slice rest p → GivesOwnPieces s slice rest p
  gives-own-pieces slice rest p can given =
      let few = can.gathers.few in record {
        rows = few.rows;
        own = own-back s now few.rows kept few.own;
        gives = subst (λ (x : Shape). GivesPieces x slice rest few.rows p) kept.shape.0 (record { groups = now.table.groups; apart = given.apart; holds = few.holds; pieces_are = given.pieces_are; left_is = given.left_is });
      }

  pub gives-own-placed : (f : FrameData) (firsts : List Place) → CanFinish now left → HasGivenPlaced now f firsts → GivesOwnPlaced s f firsts
  gives-own-placed f firsts can given =
      let few = can.gathers.few in record {
        rows = few.rows;
        own = own-back s now few.rows kept few.own;
        gives = subst (λ (x : Shape). GivesPlaced x few.rows f firsts) kept.shape.0 (record { groups = now.table.groups; apart = given.apart; holds = few.holds; placed = given.placed });
      }

  -- without its groups it is as before but for them
  pub kept-given : (new : PartitionSeen) → new ≡ without_groups now → KeepsRest s new
  kept-given new is = subst (KeepsRest s) (sym is) (kept-more s now (without_groups now) kept (record {
    shape = (refl, refl);
    store = record { told = refl; held = refl; sure = refl; path = refl; faults = omega arith };
    others = refl;
  }))

  -- and it is emptied
  pub emptied-given : (new : PartitionSeen) → new ≡ without_groups now → HoldsAllRows s now local left → IsEmptied new
  emptied-given new is ready = subst IsEmptied (sym is) (record { groups = refl; waiting = ready.waiting; marks = ready.marks })

-- ---- all that was put away, and then the local rows

module _ (s mid new : PartitionSeen) (local left : Table) (g : HasGathered s mid) (none : mid.waiting ≡ []) (unmarked : mid.marks ≡ []) (t : HasTakenLocal mid new local left) where
  own-mid : (rows : List SpillRow) → own_rows mid rows ≡ own_rows s rows
  own-mid rows = rw (ap (λ (x : PartitionSeen). x.number) g.kept.others, ap (λ (x : PartitionSeen). x.partitions) g.kept.others) refl

  other-mid : (rows : List SpillRow) → other_rows mid rows ≡ other_rows s rows
  other-mid rows = rw (ap (λ (x : PartitionSeen). x.number) g.kept.others, ap (λ (x : PartitionSeen). x.partitions) g.kept.others) refl

  -- it is ready
  pub ready-prepared : HoldsAllRows s new local left
  ready-prepared = record {
    waiting = ap (λ (x : PartitionSeen). x.waiting) t.others ∙ none;
    marks = ap (λ (x : PartitionSeen). x.marks) t.others ∙ unmarked;
    moved = λ rows locals both.
        let gathered = as-gathered s mid local g rows locals both in
        let moved = moved-local mid new local left none unmarked t rows locals gathered in
        subst (λ (l : List SpillRow). StandFor new left (rows ++ l) (other_rows s locals)) (own-mid locals)
        (subst (λ (l : List SpillRow). StandFor new left (rows ++ own_rows mid locals) l) (other-mid locals) moved);
    rest = record {
      shape = t.rest.shape;
      held = λ k. t.rest.held k ∙ rw (ap (λ (x : PartitionSeen). x.number) g.kept.others, ap (λ (x : PartitionSeen). x.partitions) g.kept.others) refl;
    };
  }

  -- and can finish
  pub finish-prepared : CanFinish s local → CanFinish new left
  finish-prepared can = finish-local mid new local left none unmarked t (finish-gathered s mid local g can)

  pub kept-prepared : KeepsRest s new
  kept-prepared = kept-more s mid new g.kept (local-kept mid new local left none unmarked t)

-- the same shape, limit and groups are the same table
pub same-table : (t new : Table) → new.groups ≡ t.groups → new.shape ≡ t.shape → new.limit ≡ t.limit → new ≡ t
same-table t new groups shape limit = rw (groups, shape, limit) refl

-- a table of the same shape and limit without a group
pub emptied-table : (t new : Table) → new.groups ≡ [] → new.shape ≡ t.shape → new.limit ≡ t.limit → new ≡ record { shape = t.shape; limit = t.limit; groups = [] }
emptied-table t new groups shape limit = rw (groups, shape, limit) refl

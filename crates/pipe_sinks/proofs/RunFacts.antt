-- What a sink keeps of the chunks that it took, call by call.
use Rattle.std.proofs.Common.{◌≡◌, ◌∙◌, ℕ, Result, Ok, Err, OnErr, ◌+◌, ◌<◌, ◌≤◌, ◌^◌, List, [], ◌∷◌, ◌++◌, map, sym, ap, subst, arith}
use Rattle.std.specs.List.{All, IsDistinct}
use Rattle.std.proofs.lemmas.List.{append-nil}
use Rattle.std.proofs.lemmas.List.Elements.{All-append, All-cons, All-nil, All-weaker}
use Rattle.std.proofs.lemmas.List.Sums.{sum_by-append, sum_by-cons}
use Rattle.pipe_columns.specs.declared.data_chunk.DataChunk.{DataChunk}
use Rattle.pipe_columns.specs.Frame.{FitsSchema, HoldsTypes}
use Rattle.pipe_model.specs.Output.{key_types}
use Rattle.pipe_model.specs.Query.{QueryTree}
use Rattle.pipe_model.specs.Rows.{chunk_rows, total_height}
use Rattle.pipe_aggs.specs.CheckedQuery.{input_types}
use Rattle.pipe_spill.specs.SpillRow.{AreRows, IsRow, spilled}
use Rattle.pipe_spill.specs.declared.spill_row.SpillRow.{SpillRow}
use Rattle.pipe_groups.specs.Groups.{AreJoined}
use Rattle.pipe_groups.specs.Holds.{HoldFewer, Holds}
use Rattle.pipe_groups.specs.Shape.{Shape, shape_of}
use Rattle.pipe_groups.proofs.HoldFacts.{holds-joined, holds-none}
use Rattle.pipe_keyed.specs.TakenRows.{spilled_first}
use Rattle.pipe_sinks.specs.ChunkTaking.{TookChunk}
use Rattle.pipe_sinks.specs.SoleKeys.{IsSole}
use Rattle.pipe_sinks.specs.RunLayout.{AreTakenChunks, SinkHasTaken, HoldsChunks, spilled_rows}
use Rattle.pipe_keyed.specs.Tables.{HasGroups, HoldFewTogether, Table}
use Rattle.pipe_sinks.specs.Runs.{ComesBehind, HaveOwnIndexes}
use Rattle.pipe_sinks.specs.Alike.{HoldAlike}
use Rattle.pipe_sinks.proofs.PlacedFacts.{distinct-both, length-spilled, single-distinct, spilled-append}

-- ---- nothing taken

pub taken-none : (q : QueryTree) → AreTakenChunks q []
unfolding IsDistinct
taken-none q = record {
  columns = All-nil (λ (c : DataChunk). FitsSchema q.schema c.frame);
  typed = All-nil (λ (c : DataChunk). HoldsTypes c.frame);
  once = tt;
  rows = omega arith;
}

pub holds-no_chunk : (q : QueryTree) (t : Table) → t.shape ≡ shape_of q → t.groups ≡ [] → HoldsChunks q [] t
holds-no_chunk q t shape none = record {
  shape = shape;
  holds = rw none (holds-none t.shape.prototypes);
  typed = All-nil (IsRow t.shape.key_types t.shape.input_types);
}

-- a sink that took nothing
pub run-new : (q : QueryTree) (partitions : ℕ) (chunks : List DataChunk) (t : Table) → 0 < partitions → partitions ≤ 2 ^ 32 → IsSole (key_types q) → chunks ≡ []
    → t.shape ≡ shape_of q → t.groups ≡ [] → SinkHasTaken q partitions chunks t
run-new q partitions chunks t some few keyed none shape empty = rw none (record {
  some = some;
  few = few;
  keyed = keyed;
  chunks = taken-none q;
  kept = holds-no_chunk q t shape empty;
})

-- ---- one chunk

pub single-height : (c : DataChunk) → total_height (c ∷ []) ≡ c.frame.height
single-height c = omega (arith, sum_by-cons (λ (x : DataChunk). x.frame.height) c [])

pub single-taken : (q : QueryTree) (c : DataChunk) → FitsSchema q.schema c.frame → HoldsTypes c.frame → c.frame.height < 2 ^ 32 → AreTakenChunks q (c ∷ [])
single-taken q c fits typed few = record {
  columns = All-cons (λ (x : DataChunk). FitsSchema q.schema x.frame) c [] fits (All-nil (λ (x : DataChunk). FitsSchema q.schema x.frame));
  typed = All-cons (λ (x : DataChunk). HoldsTypes x.frame) c [] typed (All-nil (λ (x : DataChunk). HoldsTypes x.frame));
  once = single-distinct q c;
  rows = omega (arith, few, single-height c);
}

-- a chunk behind others has an index that none of them has
pub later-apart : (taken : List DataChunk) (c : DataChunk) → All (λ d. ComesBehind c d) taken → All (λ d. All (λ x. HaveOwnIndexes d x) (c ∷ [])) taken
later-apart taken c later = All-weaker (λ (d : DataChunk). ComesBehind c d) (λ (d : DataChunk). All (λ x. HaveOwnIndexes d x) (c ∷ []))
    (λ d behind. All-cons (λ (x : DataChunk). HaveOwnIndexes d x) c [] (λ some more e. let lt = behind more some in omega (arith, lt, e)) (All-nil (λ (x : DataChunk). HaveOwnIndexes d x))) taken later

-- ---- chunks together

module _ (q : QueryTree) (xs ys : List DataChunk) where
  pub taken-both : AreTakenChunks q xs → AreTakenChunks q ys → All (λ c. All (λ d. HaveOwnIndexes c d) ys) xs → total_height xs + total_height ys < 2 ^ 32 → AreTakenChunks q (xs ++ ys)
  taken-both a b apart few = record {
    columns = All-append (λ (c : DataChunk). FitsSchema q.schema c.frame) xs ys a.columns b.columns;
    typed = All-append (λ (c : DataChunk). HoldsTypes c.frame) xs ys a.typed b.typed;
    once = distinct-both q xs ys a.once b.once apart;
    rows = omega (arith, few, sum_by-append (λ (c : DataChunk). c.frame.height) xs ys);
  }

  module _ (t o : Table) (h : HoldsChunks q xs t) (g : HoldsChunks q ys o) where
    pub both-shape : o.shape ≡ t.shape
    both-shape = g.shape ∙ sym h.shape

    -- tables of few chunks may be combined
    pub both-few : total_height xs + total_height ys < 2 ^ 32 → HoldFewTogether t o
    both-few few = record {
      rows = spilled_rows q xs;
      others = spilled_rows q ys;
      holds = h.holds;
      other_holds = rw (← both-shape) g.holds;
      typed = h.typed;
      others_typed = rw (← both-shape) g.typed;
      few = omega (arith, few, length-spilled q xs, length-spilled q ys);
    }

    -- and hold the rows of all
    pub both-held : (u : Table) → AreJoined t.shape.prototypes t.groups o.groups u.groups → u.shape ≡ t.shape → HoldsChunks q (xs ++ ys) u
    both-held u joined shape = record {
      shape = shape ∙ h.shape;
      holds = rw (shape, spilled-append q xs ys) (holds-joined t.shape.prototypes t.groups o.groups u.groups (spilled_rows q xs) (spilled_rows q ys) joined h.holds (rw (← both-shape) g.holds)).0;
      typed = rw (shape, spilled-append q xs ys) (All-append (IsRow t.shape.key_types t.shape.input_types) (spilled_rows q xs) (spilled_rows q ys) h.typed (rw (← both-shape) g.typed));
    }

-- a table that took the rows of a chunk holds them behind those that it held
once-held : (q : QueryTree) (xs : List DataChunk) (c : DataChunk) (t u : Table) → HoldsChunks q xs t → TookChunk q c t u → HoldsChunks q (xs ++ c ∷ []) u
once-held q xs c t u h k =
    let own : List SpillRow = spilled_first q c.chunk_index c.frame c.frame.height in
    let all : spilled_rows q xs ++ own ≡ spilled_rows q (xs ++ c ∷ []) =
    ap (λ (l : List SpillRow). spilled_rows q xs ++ l) (ap (map (spilled (key_types q))) (sym (append-nil (chunk_rows q c.chunk_index c.frame)))) ∙ sym (spilled-append q xs (c ∷ [])) in
    let is : u.shape ≡ shape_of q = k.took.shape ∙ h.shape in
    let typed : AreRows (key_types q) (input_types q) (spilled_rows q xs) = subst (λ (s : Shape). AreRows s.key_types s.input_types (spilled_rows q xs)) h.shape h.typed in
    record {
      shape = is;
      holds = subst (λ (s : Shape). Holds s.prototypes u.groups (spilled_rows q (xs ++ c ∷ []))) (sym k.took.shape) (subst (Holds t.shape.prototypes u.groups) all (k.took.holds (spilled_rows q xs) h.holds));
      typed = subst (λ (s : Shape). AreRows s.key_types s.input_types (spilled_rows q (xs ++ c ∷ []))) (sym is)
          (subst (AreRows (key_types q) (input_types q)) all (All-append (IsRow (key_types q) (input_types q)) (spilled_rows q xs) own typed k.typed));
    }

-- one that holds alike holds the rows
alike-held : (q : QueryTree) (xs : List DataChunk) (t u : Table) → HoldsChunks q xs t → HoldAlike t u → HoldsChunks q xs u
alike-held q xs t u h alike = record {
  shape = alike.shape ∙ h.shape;
  holds = subst (λ (s : Shape). Holds s.prototypes u.groups (spilled_rows q xs)) (sym alike.shape) (alike.holds (spilled_rows q xs) h.holds);
  typed = subst (λ (s : Shape). AreRows s.key_types s.input_types (spilled_rows q xs)) (sym alike.shape) h.typed;
}

-- ---- call by call

-- a fact holds of a refusal if it holds
pub on-err : {A E P : Type 0} (r : Result A E) → P → OnErr r P
on-err (Ok x) p = tt
on-err (Err e) p = p

module _ (q : QueryTree) (n : ℕ) (xs : List DataChunk) (t : Table) (h : SinkHasTaken q n xs t) where
  -- a sink whose table has the same groups has taken the same
  pub run-same : (u : Table) (chunks : List DataChunk) → HasGroups t u t.groups → chunks ≡ xs → SinkHasTaken q n chunks u
  run-same u chunks is same =
      let e : t ≡ u = λ i. record { shape = sym is.1 i; limit = sym is.2 i; groups = sym is.0 i } in
      subst (λ (l : List DataChunk). SinkHasTaken q n l u) (sym same) (subst (λ (x : Table). SinkHasTaken q n xs x) e h)

  -- a sink that gave everything out has taken nothing
  pub run-given : (u : Table) (chunks : List DataChunk) → HoldsChunks q [] u → chunks ≡ [] → SinkHasTaken q n chunks u
  run-given u chunks holds empty = rw empty (record { some = h.some; few = h.few; keyed = h.keyed; chunks = taken-none q; kept = holds })

  -- one whose table was emptied has taken nothing
  pub run-emptied : (u : Table) (chunks : List DataChunk) → u.groups ≡ [] → u.shape ≡ t.shape → chunks ≡ [] → SinkHasTaken q n chunks u
  run-emptied u chunks groups shape empty = run-given u chunks (holds-no_chunk q u (shape ∙ h.kept.shape) groups) empty

  -- and one whose table took that of other chunks over has taken both
  module _ (ys : List DataChunk) (o : Table) (taken : AreTakenChunks q ys) (holds : HoldsChunks q ys o) (few : total_height xs + total_height ys < 2 ^ 32) where
    pub run-few : HoldFewTogether t o
    run-few = both-few q xs ys t o h.kept holds few

    pub run-both : (u : Table) (chunks : List DataChunk) → All (λ c. All (λ d. HaveOwnIndexes c d) ys) xs → AreJoined t.shape.prototypes t.groups o.groups u.groups → u.shape ≡ t.shape
        → chunks ≡ xs ++ ys → SinkHasTaken q n chunks u
    run-both u chunks apart joined shape both = rw both (record {
      some = h.some;
      few = h.few;
      keyed = h.keyed;
      chunks = taken-both q xs ys h.chunks taken apart few;
      kept = both-held q xs ys t o h.kept holds u joined shape;
    })

  -- one whose table took the rows of a chunk has taken it too
  module _ (c : DataChunk) (few : total_height xs + total_height (c ∷ []) < 2 ^ 32) where
    -- there is room for its rows
    pub room-once : HoldFewer t.shape t.groups c.frame.height
    room-once = record { rows = spilled_rows q xs; holds = h.kept.holds; typed = h.kept.typed; few = omega (arith, few, length-spilled q xs, single-height c) }

    pub run-once : AreTakenChunks q (c ∷ []) → (u : Table) (chunks : List DataChunk) → All (λ x. All (λ d. HaveOwnIndexes x d) (c ∷ [])) xs → TookChunk q c t u → chunks ≡ xs ++ c ∷ [] → SinkHasTaken q n chunks u
    run-once taken u chunks apart took both = rw both (record {
      some = h.some;
      few = h.few;
      keyed = h.keyed;
      chunks = taken-both q xs (c ∷ []) h.chunks taken apart few;
      kept = once-held q xs c t u h.kept took;
    })

  -- one whose table holds alike has taken the same
  pub run-alike : (u : Table) (chunks : List DataChunk) → HoldAlike t u → chunks ≡ xs → SinkHasTaken q n chunks u
  run-alike u chunks alike same = rw same (record {
    some = h.some;
    few = h.few;
    keyed = h.keyed;
    chunks = h.chunks;
    kept = alike-held q xs t u h.kept alike;
  })

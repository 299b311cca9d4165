-- Room for the keys of rows, row by row.
use Rattle.std.proofs.Common.{◌≡◌, ◌∙◌, ℕ, ◌+◌, ◌<◌, ◌≤◌, List, [], ◌∷◌, ◌++◌, length, take, drop, get_or, refl, sym, ap, arith, add-one, mul-le-mul_right}
use Rattle.std.specs.List.{sum_by}
use Rattle.std.proofs.lemmas.List.{drop_more, take_more}
use Rattle.std.proofs.lemmas.List.Sums.{sum_by-cons}
use Rattle.pipe_running.specs.declared.function.AggregateFunction.{AggregateFunction}
use Rattle.pipe_spill.specs.declared.spill_row.SpillRow.{SpillRow}
use Rattle.pipe_groups.specs.Groups.{cover, Covers, Group, HasGroups, Seen}
use Rattle.pipe_keyed.specs.Tables.{HasGroups as AreGroups, IsTable, Table}
use Rattle.pipe_keyed.proofs.TableFacts.{table-covered, table-same}
use Rattle.pipe_tables.specs.Tables.{cover_rows}

-- how many bytes the keys of rows have
abbrev pub bytes_of : List SpillRow → ℕ
bytes_of rows = sum_by (λ r. length r.key) rows

-- the keys of the rows before a number are covered, and there is room for those of the rest
pub record CoversRows (rows : List SpillRow) (old now : Seen) (i : ℕ) : Type 0 where
  pub groups : now.groups ≡ cover_rows old.shape.prototypes (take i rows) old.groups
  pub shape : now.shape ≡ old.shape
  pub room : Covers now (length (drop i rows)) (bytes_of (drop i rows))

-- one row more
pub cover-push : (ps : List AggregateFunction) (rows : List SpillRow) (r : SpillRow) (gs : List Group) → cover_rows ps (rows ++ r ∷ []) gs ≡ cover ps r.key (cover_rows ps rows gs)
cover-push ps [] r gs = refl
cover-push ps (x ∷ xs) r gs = cover-push ps xs r (cover ps x.key gs)

module _ (rows : List SpillRow) (old now : Seen) (i : ℕ) (lt : i < length rows) (r : SpillRow) (is : r ≡ get_or rows i r) (c : CoversRows rows old now i) where
  rest : drop i rows ≡ r ∷ drop (i + 1) rows
  rest = drop_more rows i r lt ∙ ap (λ (x : SpillRow). x ∷ drop (i + 1) rows) (sym is)

  room-both : Covers now (length (drop (i + 1) rows) + 1) (bytes_of (drop (i + 1) rows) + length r.key)
  room-both =
      let room = rw rest at c.room in
      let bytes = sum_by-cons (λ (x : SpillRow). length x.key) r (drop (i + 1) rows) in
      (omega (arith, room.0), rw (add-one (length (drop (i + 1) rows))) room.1, omega (arith, room.2, bytes))

  pub row-room : Covers now 1 (length r.key)
  row-room = (omega (arith, room-both.0), omega (arith, room-both.1, mul-le-mul_right (length now.shape.prototypes) (let e : 1 ≤ length (drop (i + 1) rows) + 1 = omega arith in e)), omega (arith, room-both.2))

  pub row-covered : (new : Seen) → HasGroups now new (cover now.shape.prototypes r.key now.groups)
      → ((g b : ℕ) → Covers now (g + 1) (b + length r.key) → Covers new g b) → CoversRows rows old new (i + 1)
  row-covered new has keeps = record {
    groups = has.0 ∙ rw (c.shape, c.groups, take_more rows i r lt, ← is) (sym (cover-push old.shape.prototypes (take i rows) r old.groups));
    shape = has.1 ∙ c.shape;
    room = keeps _ _ room-both;
  }

-- ---- tables

-- with room for the key of each row a table is one
pub table-rows : (rows : List SpillRow) (t u : Table) → IsTable t → AreGroups t u (cover_rows t.shape.prototypes rows t.groups) → IsTable u
table-rows [] t u is new = table-same t u is new
table-rows (r ∷ rs) t u is new =
    let next : Table = record { shape = t.shape; limit = t.limit; groups = cover t.shape.prototypes r.key t.groups } in
    table-rows rs next u (table-covered t next r.key is (refl, refl, refl)) new

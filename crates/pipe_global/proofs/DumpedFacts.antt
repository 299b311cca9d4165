-- A partition of no row, into which one payload came that was dumped. Tests begin with it.
use Rattle.std.proofs.Common.{◌≡◌, ◌∙◌, ◌+◌, ◌-◌, ◌<◌, ◌^◌, ℕ, true, List, [], ◌∷◌, ◌++◌, length, refl, sym, ap, subst, arith, is_some, Option, Some, None, slice_get}
use Rattle.std.specs.List.{All, list_all, slice_index_or, sum_by}
use Rattle.std.proofs.lemmas.Bool.{false≢true}
use Rattle.std.proofs.lemmas.List.{append-nil}
use Rattle.std.proofs.lemmas.List.Elements.{All-cons, All-nil}
use Rattle.std.proofs.lemmas.List.Sums.{sum_by-cons}
use Rattle.pipe_plan.specs.Run.{StoreSeen}
use Rattle.pipe_spill.specs.FrameBytes.{frame_bytes}
use Rattle.pipe_spill.specs.SpillRow.{AreRows, HaveInputs, IsRow, joined_rows, Payload}
use Rattle.pipe_spill.specs.Store.{HasHeld, with_frame}
use Rattle.pipe_spill.specs.declared.spill_row.SpillRow.{SpillRow}
use Rattle.pipe_spill.proofs.SpilledRows.{rows_have_inputs}
use Rattle.pipe_groups.specs.Groups.{Group}
use Rattle.pipe_groups.specs.Holds.{Holds}
use Rattle.pipe_groups.proofs.HoldFacts.{holds-none}
use Rattle.pipe_keyed.specs.Tables.{Table}
use Rattle.pipe_tables.specs.Tables.{lies_in}
use Rattle.pipe_global.specs.declared.mark.Mark.{Mark}
use Rattle.pipe_global.specs.Finishing.{AreOwn, CanFinish, CanGather, IsMarked}
use Rattle.pipe_global.specs.Partition.{new_partition, PartitionSeen}
use Rattle.pipe_global.specs.Steps.{IsDumped, with_payload}
use Rattle.pipe_global.specs.TestedRows.{AreTwoOwn, IsNewPartition}
use Rattle.pipe_global.proofs.ClosedFacts.{get-behind}
use Rattle.pipe_global.proofs.Gathered.{all-tested, own-none}

module _ (number partitions : ℕ) (table : Table) (book : List ℕ) (store : StoreSeen) (payload : Payload) (w : ℕ) (new : PartitionSeen)
    (d : IsDumped 0 (with_payload (new_partition number partitions table book store) w payload) w new) where
  abbrev mark : Mark
  mark = record { number = store.held; rows = length (joined_rows (payload ∷ [])) }

  marks : new.marks ≡ mark ∷ []
  marks = ap (λ (x : PartitionSeen). x.marks) d.others

  waiting : new.waiting ≡ []
  waiting = ap (λ (x : PartitionSeen). x.waiting) d.others

  same : new.table ≡ table
  same = ap (λ (x : PartitionSeen). x.table) d.others

  rows : joined_rows (payload ∷ []) ≡ payload.rows
  rows = append-nil payload.rows

  own : AreRows table.shape.key_types table.shape.input_types payload.rows → list_all (λ r. lies_in partitions number r.key) payload.rows ≡ true → AreOwn new payload.rows
  own typed lie = record {
    typed = subst (λ (t : Table). AreRows t.shape.key_types t.shape.input_types payload.rows) (sym same) typed;
    lie =
        subst (λ n. All (λ r. lies_in n new.number r.key ≡ true) payload.rows) (sym (ap (λ (x : PartitionSeen). x.partitions) d.others))
        (subst (λ n. All (λ r. lies_in partitions n r.key ≡ true) payload.rows) (sym (ap (λ (x : PartitionSeen). x.number) d.others)) (all-tested (λ r. lies_in partitions number r.key) payload.rows lie));
  }

  -- where the store tells, the mark has the payload's frame
  marked : AreOwn new payload.rows → HasHeld store.told store.held → is_some new.store.told ≡ true → IsMarked new mark payload.rows
  marked mine all tells = by store.told refl where
    frame : List ℕ
    frame = frame_bytes table.shape.input_types (joined_rows (payload ∷ []))

    by : (o : Option (List (List ℕ))) → store.told ≡ o → IsMarked new mark payload.rows
    by None e = absurd (false≢true (ap (λ (o : Option (List (List ℕ))). is_some o) (sym (d.store.told ∙ ap (λ o. with_frame o frame) e)) ∙ tells))
    by (Some front) e =
        let long : length front ≡ store.held = subst (λ o. HasHeld o store.held) e all in
        record {
          frames = front ++ frame ∷ [];
          told = d.store.told ∙ ap (λ o. with_frame o frame) e;
          frame =
              subst (λ (t : Table). slice_get (front ++ frame ∷ []) store.held ≡ Some (frame_bytes t.shape.input_types payload.rows)) (sym same)
              (ap (λ n. slice_get (front ++ frame ∷ []) n) (sym long) ∙ get-behind front [] frame ∙ ap (λ (l : List SpillRow). Some (frame_bytes table.shape.input_types l)) rows);
          count = ap (λ (l : List SpillRow). length l) (sym rows);
          own = mine;
        }

  -- it can gather the payload's rows
  dumped-gathers : table.groups ≡ [] → table.limit ≡ None → number < partitions → HasHeld store.told store.held → AreRows table.shape.key_types table.shape.input_types payload.rows
      → list_all (λ r. lies_in partitions number r.key) payload.rows ≡ true → length payload.rows < 2 ^ 32 → CanGather new 0
  dumped-gathers none limit exists all typed lie few =
      let mine : AreOwn new payload.rows = own typed lie in
      let P : Mark → Type 0 = λ m. (rows : List SpillRow) × IsMarked new m rows in
      let one : sum_by (λ (m : Mark). m.rows) (mark ∷ []) ≡ mark.rows + 0 = sum_by-cons (λ (m : Mark). m.rows) mark [] in
      let all_marks : sum_by (λ (m : Mark). m.rows) new.marks ≡ sum_by (λ (m : Mark). m.rows) (mark ∷ []) = ap (λ (l : List Mark). sum_by (λ (m : Mark). m.rows) l) marks in
      let long : mark.rows ≡ length payload.rows = ap (λ (l : List SpillRow). length l) rows in
      let total : sum_by (λ (m : Mark). m.rows) new.marks ≡ length payload.rows = omega (arith, one, all_marks, long) in
      let zero : length (joined_rows new.waiting) ≡ 0 = ap (λ (l : List Payload). length (joined_rows l)) waiting in
      let held : new.store.held ≡ store.held + 1 = d.store.held in
      record {
        exists = subst (λ (x : PartitionSeen). x.number < x.partitions) (sym d.others) exists;
        limit = ap (λ (t : Table). t.limit) same ∙ limit;
        few = record {
          rows = [];
          holds = subst (λ (gs : List Group). Holds new.table.shape.prototypes gs []) (sym (ap (λ (t : Table). t.groups) same ∙ none)) (holds-none new.table.shape.prototypes);
          own = own-none new;
          few = omega (arith, few, total, zero);
        };
        waiting = subst (λ (l : List Payload). AreOwn new (joined_rows l)) (sym waiting) (own-none new);
        numbers = subst (λ (l : List Mark). All (λ m. m.number < new.store.held) l) (sym marks) (All-cons (λ (m : Mark). m.number < new.store.held) mark [] (omega (arith, held)) (All-nil (λ (m : Mark). m.number < new.store.held)));
        marked = λ tells. subst (All P) (sym marks) (All-cons P mark [] (payload.rows, marked mine all tells) (All-nil P));
      }

-- ---- two rows in partition 3 of 16

-- it is new
pub new-made : (s : PartitionSeen) (table : Table) (book : List ℕ) (store : StoreSeen) → s ≡ new_partition 3 16 table book store → book ≡ 0 ∷ [] → table.groups ≡ [] → table.limit ≡ None
    → HasHeld store.told store.held → store.held < 2 ^ 63 → IsNewPartition s
new-made s table book store is zero groups limit all numbers =
    subst IsNewPartition (sym is) (record { is = rw zero refl; book = zero; arrived = refl; groups = groups; limit = limit; all = all; numbers = numbers })

module _ (s mid : PartitionSeen) (payload : Payload) (fresh : IsNewPartition s) (two : AreTwoOwn s.table payload.rows) (came : mid ≡ with_payload s 0 payload) where
  abbrev first : PartitionSeen
  first = new_partition 3 16 s.table (0 ∷ []) s.store

  whole : mid ≡ with_payload first 0 payload
  whole = came ∙ ap (λ (x : PartitionSeen). with_payload x 0 payload) fresh.is

  pub dump-exists : 0 < length mid.book
  dump-exists = subst (λ (x : PartitionSeen). 0 < length x.book) (sym whole) (omega arith)

  pub dump-room : slice_index_or mid.book 0 0 + 1 < 2 ^ 64
  dump-room = let one : slice_index_or mid.book 0 0 ≡ 1 = ap (λ (x : PartitionSeen). slice_index_or x.book 0 0) whole in omega (arith, one)

  pub dump-inputs : All (λ p. HaveInputs mid.table.shape.input_types p.rows) mid.waiting
  dump-inputs =
      subst (λ (x : PartitionSeen). All (λ p. HaveInputs x.table.shape.input_types p.rows) x.waiting) (sym whole)
      (All-cons (λ (p : Payload). HaveInputs s.table.shape.input_types p.rows) payload [] (rows_have_inputs s.table.shape.key_types s.table.shape.input_types payload.rows two.typed)
      (All-nil (λ (p : Payload). HaveInputs s.table.shape.input_types p.rows)))

  pub dump-few : length (joined_rows mid.waiting) < 2 ^ 32
  dump-few =
      let long : length (joined_rows mid.waiting) ≡ length payload.rows = ap (λ (x : PartitionSeen). length (joined_rows x.waiting)) whole ∙ ap (λ (l : List SpillRow). length l) (append-nil payload.rows) in
      omega (arith, long, two.count)

  pub dump-numbers : mid.store.held < 2 ^ 64 - 1
  dump-numbers = let held : mid.store.held ≡ s.store.held = ap (λ (x : PartitionSeen). x.store.held) whole in omega (arith, held, fresh.numbers)

  -- dumped, they can be gathered
  pub gathers-two : (new : PartitionSeen) → IsDumped 0 mid 0 new → CanGather new 0
  gathers-two new d =
      dumped-gathers 3 16 s.table (0 ∷ []) s.store payload 0 new (subst (λ (x : PartitionSeen). IsDumped 0 x 0 new) whole d)
      fresh.groups fresh.limit (omega arith) fresh.all two.typed two.lie (omega (arith, two.count))

-- with a local table of no row it can give its groups
pub finish-none : (s : PartitionSeen) (local : Table) → CanGather s 0 → local.shape ≡ s.table.shape → local.groups ≡ [] → CanFinish s local
finish-none s local gathers shape empty = record {
  shape = shape;
  locals = [];
  holds = subst (λ (gs : List Group). Holds s.table.shape.prototypes gs []) (sym empty) (holds-none s.table.shape.prototypes);
  typed = All-nil (IsRow s.table.shape.key_types s.table.shape.input_types);
  gathers = gathers;
}

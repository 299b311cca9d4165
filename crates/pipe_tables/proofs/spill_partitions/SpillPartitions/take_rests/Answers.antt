use Rattle.std.proofs.Common.{◌∙◌, ◌∷◌, ◌++◌, ℕ, List, [], length, map, refl, ap, sym, arith, Vec, Global, vec_len, vec_capacity}
use Rattle.std.proofs.lemmas.Bool.{false≢true}
use Rattle.std.proofs.lemmas.List.{length-set, map-append}
use Rattle.pipe_spill.specs.SpillRow.{Payload}
use Rattle.pipe_spill.specs.declared.spill_row.SpillRow.{SpillRow}
use Rattle.pipe_tables.specs.Buffers.{Buffers, rows_left}
use Rattle.pipe_tables.proofs.RestFacts.{emptied_all, emptied_more, rests_none, rests_some}
use Rattle.pipe_tables.proofs.spill_partitions.SpillPartitions.take_rests.Goals as goal
use Rattle.pipe_tables.proofs.spill_partitions.SpillPartitions.take_rests.Goals.{in-Some, in_default}

pub loop-partition-preserved : goal.loop-partition-preserved
loop-partition-preserved c =
    let p = c.loop-partition.partition in
    let inv = c.loop-partition.invariant in
    record {
      end = inv.end;
      size = ap (λ (b : Buffers). b.size) c.rest.ensures.emptied ∙ inv.size;
      count = ap (λ (b : Buffers). length b.rows) c.rest.ensures.emptied ∙ length-set c.loop-partition.self.rows p [] ∙ inv.count;
      rows = ap (λ (b : Buffers). b.rows) c.rest.ensures.emptied ∙ emptied_more p c.args.self.now.rows c.loop-partition.self.rows (omega arith) inv.rows;
      list = elim c.match-rest.branch [
        | in-Some w ↦
            ap (λ (v : Vec (ℕ × Payload) Global). map rows_left v.items) w.list-is
            ∙ ap (λ (l : List (ℕ × Payload)). map rows_left l) w.push_reserved.ensures.items
            ∙ map-append rows_left c.loop-partition.list.items ((p, w.in-Some.payload) ∷ [])
            ∙ ap (λ (l : List (ℕ × List SpillRow)). l ++ (p, w.in-Some.payload.rows) ∷ []) inv.list
            ∙ sym (rests_some p c.args.self.now.rows c.loop-partition.self.rows w.in-Some.payload.rows (omega arith) inv.rows w.in-Some.ensures.rows (λ e. false≢true (sym (w.in-Some.ensures.none.1 e))))
        | in_default w ↦
            ap (λ (v : Vec (ℕ × Payload) Global). map rows_left v.items) w.list-is
            ∙ inv.list
            ∙ sym (rests_none p c.args.self.now.rows c.loop-partition.self.rows (omega arith) inv.rows (w.in_default.ensures.none.0 refl))
      ];
      room = elim c.match-rest.branch [
        | in-Some w ↦ omega (arith, ap (λ (v : Vec (ℕ × Payload) Global). vec_len v) w.list-is, w.push_reserved.ensures.len)
        | in_default w ↦ omega (arith, ap (λ (v : Vec (ℕ × Payload) Global). vec_len v) w.list-is)
      ];
      most = elim c.match-rest.branch [
        | in-Some w ↦ omega (arith, ap (λ (v : Vec (ℕ × Payload) Global). vec_capacity v) w.list-is, w.push_reserved.ensures.capacity)
        | in_default w ↦ omega (arith, ap (λ (v : Vec (ℕ × Payload) Global). vec_capacity v) w.list-is)
      ];
      buffers = c.rest.ensures.buffers;
    }

pub returns-clause-emptied : goal.returns-clause-emptied
returns-clause-emptied c =
    let inv = c.loop-partition.invariant in
    ap (λ n. of_size n c.loop-partition.self.rows) inv.size
    ∙ ap (λ rows. of_size c.args.self.now.size rows) (inv.rows ∙ emptied_all c.loop-partition.partition c.args.self.now.rows (omega arith))
  where
    of_size : ℕ → List (List SpillRow) → Buffers
    of_size n rows = record { size = n; rows = rows }

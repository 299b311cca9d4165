-- A partition that stands for an open run stands for a run that goes on from it.
use Rattle.std.proofs.Common.{◌≡◌, ◌∙◌, ◌+◌, ◌<◌, ℕ, zero, suc, Bool, true, List, [], ◌∷◌, ◌++◌, length, map, refl, sym, ap, subst, arith}
use Rattle.std.specs.List.{slice_index_or, zip}
use Rattle.pipe_columns.specs.declared.data_chunk.DataChunk.{DataChunk}
use Rattle.pipe_plan.specs.Replay.{replay, Replayed}
use Rattle.pipe_plan.specs.Rounds.{GoesOn}
use Rattle.pipe_plan.specs.Run.{Run, StoreSeen}
use Rattle.pipe_plan.proofs.Fronts.{replay-on, within-on}
use Rattle.pipe_global.specs.Partition.{IsReplayed, no_store, PartitionSeen, StandsFor, store_of}
use Rattle.pipe_run.specs.Setting.{counted_from, run_over, Setting, with_faults}

-- a store is as before, but for its count of faults
pub record IsAlike (a b : StoreSeen) : Type 0 where
  pub held : b.held ≡ a.held
  pub told : b.told ≡ a.told
  pub sure : b.sure ≡ a.sure
  pub path : b.path ≡ a.path

-- so are all stores of a run that counts elsewhere
pub counted-at : (stores : List StoreSeen) (faults : List ℕ) (p : ℕ) → length faults ≡ length stores
    → IsAlike (slice_index_or stores p no_store) (slice_index_or (map (λ e. with_faults e.0 e.1) (zip stores faults)) p no_store)
counted-at [] [] p same = record { held = refl; told = refl; sure = refl; path = refl }
counted-at [] (n ∷ faults) p same = absurd (omega (arith, same))
counted-at (s ∷ stores) [] p same = absurd (omega (arith, same))
counted-at (s ∷ stores) (n ∷ faults) zero same = record { held = refl; told = refl; sure = refl; path = refl }
counted-at (s ∷ stores) (n ∷ faults) (suc p) same = counted-at stores faults p (omega (arith, same))

-- and its count is the one that is named
pub faults-at : (stores : List StoreSeen) (faults : List ℕ) (p : ℕ) → length faults ≡ length stores → p < length stores
    → (slice_index_or (map (λ e. with_faults e.0 e.1) (zip stores faults)) p no_store).faults ≡ slice_index_or faults p 0
faults-at [] faults p same lt = absurd (omega (arith, lt))
faults-at (s ∷ stores) [] p same lt = absurd (omega (arith, same))
faults-at (s ∷ stores) (n ∷ faults) zero same lt = refl
faults-at (s ∷ stores) (n ∷ faults) (suc p) same lt = faults-at stores faults p (omega (arith, same)) (omega (arith, lt))

module _ (x : Setting) (o : Bool) (before more : List DataChunk) (faults : List ℕ) where
  -- the run over chunks, and the one that goes on from it
  abbrev pub from : Run
  from = run_over x true before

  abbrev pub onto : Run
  onto = counted_from (run_over x o (before ++ more)) faults

  pub on : GoesOn from onto
  on = record { more = more; chunks = refl; query = refl; limits = refl; actions = refl; rules = refl }

  -- what stands for a replay of the one stands for that of the other
  stands-on : (p : ℕ) (made : Replayed) (s : PartitionSeen) → length faults ≡ length x.stores → StandsFor from p made s → StandsFor onto p made s
  stands-on p made s same is =
      let alike = counted-at x.stores faults p same in
      record {
        merged = is.merged;
        waiting = is.waiting;
        marks = subst (λ n. s.marks ≡ Rattle.pipe_global.specs.Partition.marks_from n made.frames) (sym alike.held) is.marks;
        held = is.held ∙ ap (λ n. n + length made.frames) (sym alike.held);
        told = is.told ∙ ap (λ t. Rattle.pipe_global.specs.Partition.with_frames t (map (Rattle.pipe_global.specs.Partition.frame_bytes_of from.query) made.frames)) (sym alike.told);
        arrived = is.arrived;
      }

  -- so does the partition
  pub carried : (p : ℕ) (s : PartitionSeen) → 0 < x.limits.buffer_size → length faults ≡ length x.stores → IsReplayed from p s → IsReplayed onto p s
  carried p s some same is =
      let same_replay = replay-on from onto p s.journal on some refl is.journal in
      record {
        number = is.number;
        in_run = is.in_run;
        partitions = is.partitions;
        shape = is.shape;
        limit = is.limit;
        replayed = subst (λ (made : Replayed). StandsFor onto p made s) (sym same_replay) (stands-on p (replay from p s.journal) s same is.replayed);
        numbers = is.numbers;
        sure = is.sure ∙ sym (counted-at x.stores faults p same).sure;
        path = is.path ∙ sym (counted-at x.stores faults p same).path;
        journal = within-on from onto p s.journal on refl is.journal;
        workers = is.workers;
        book = is.book;
      }

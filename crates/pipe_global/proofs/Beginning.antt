-- What a partition is before its first event.
use Rattle.std.proofs.Common.{◌≡◌, ◌∙◌, ◌<◌, ◌^◌, ℕ, List, [], length, refl, sym, ap, subst, arith, Option, None, Some}
use Rattle.std.specs.Prelude.{replicate, slice_index_or}
use Rattle.std.proofs.lemmas.Bool.{false≢true}
use Rattle.std.proofs.lemmas.List.{append-nil, get_or-replicate, length-replicate}
use Rattle.pipe_plan.specs.Run.{Run, StoreSeen}
use Rattle.pipe_plan.proofs.Counting.{within-none}
use Rattle.pipe_groups.specs.Groups.{Group}
use Rattle.pipe_groups.specs.Holds.{Holds}
use Rattle.pipe_groups.specs.Shape.{shape_of}
use Rattle.pipe_groups.proofs.HoldFacts.{holds-none}
use Rattle.pipe_keyed.specs.Tables.{Table}
use Rattle.pipe_global.specs.Partition.{IsCounted, IsReplayed, IsRunnable, new_partition, no_store, store_of, with_frames}

told-none : (told : Option (List (List ℕ))) → told ≡ with_frames told []
told-none None = refl
told-none (Some frames) = ap (λ (l : List (List ℕ)). Some l) (sym (append-nil frames))

-- it stands for the replay of no event
pub replayed-none : (r : Run) (p partitions : ℕ) (table : Table) (book : List ℕ) (store : StoreSeen) → IsRunnable r → p < r.limits.partitions → partitions ≡ r.limits.partitions → book ≡ replicate r.limits.workers 0 → table.shape ≡ shape_of r.query → table.limit ≡ None → table.groups ≡ []
    → store ≡ store_of r p → IsReplayed r p (new_partition p partitions table book store)
replayed-none r p partitions table book store run lt all zeros shape limit none is =
    let former : (store_of r p).held < 2 ^ 63 = run.former p no_store (omega (arith, run.stores, lt)) in
    let held : store.held ≡ (store_of r p).held = ap (λ (x : StoreSeen). x.held) is in
    record {
      number = refl;
      in_run = lt;
      partitions = all;
      shape = shape;
      limit = limit;
      replayed = record {
        merged = subst (λ (gs : List Group). Holds table.shape.prototypes gs []) (sym none) (holds-none table.shape.prototypes);
        waiting = refl;
        marks = refl;
        held = omega (arith, held);
        told = ap (λ (x : StoreSeen). x.told) is ∙ told-none (store_of r p).told;
        arrived = refl;
      };
      numbers = omega (arith, held, former);
      sure = ap (λ (x : StoreSeen). x.sure) is;
      path = ap (λ (x : StoreSeen). x.path) is;
      journal = within-none r p;
      workers = ap (λ (l : List ℕ). length l) zeros ∙ length-replicate {A = ℕ} r.limits.workers 0;
      book = λ w below. ap (λ (l : List ℕ). slice_index_or l w 0) zeros ∙ get_or-replicate {A = ℕ} r.limits.workers w 0 0 below;
    }

-- and no put was refused
pub counted-none : (r : Run) (n p partitions : ℕ) (table : Table) (book : List ℕ) (store : StoreSeen) → n ≡ 0 → store ≡ store_of r p → IsCounted r n (new_partition p partitions table book store)
counted-none r n p partitions table book store zero is = record {
  failed = ((λ f. absurd (false≢true f)), (λ some. absurd (omega (arith, zero))));
  rose = λ f. absurd (false≢true f);
  calm = λ _. ap (λ (x : StoreSeen). x.faults) is;
  count = let same : store.faults ≡ (store_of r p).faults = ap (λ (x : StoreSeen). x.faults) is in omega (arith, same);
}

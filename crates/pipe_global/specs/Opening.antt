-- What a global table is opened on, and the shares that it gives.
use Rattle.std.specs.Prelude.{◌≡◌, ◌<◌, ℕ, List, [], drop, length, None, replicate, slice_index_or}
use Rattle.pipe_model.specs.Query.{QueryTree}
use Rattle.pipe_plan.specs.Run.{Run, StoreSeen}
use Rattle.pipe_groups.specs.Shape.{shape_of}
use Rattle.pipe_global.specs.Shares.{SharesSeen}
use Rattle.pipe_global.specs.declared.place.Place.{Place}

-- the shares of a worker that has made no event, out of so many partitions
abbrev pub no_shares : ℕ → ℕ → SharesSeen
no_shares partitions worker = record {
  worker = worker;
  picks = 0;
  events = replicate partitions 0;
  faults = replicate partitions 0;
}

-- the shares of workers, in order, none of which has made an event
abbrev pub AreUnused : ℕ → List SharesSeen → Type 0
AreUnused partitions shares =
    (w : ℕ) (d : SharesSeen) → w < length shares
    → slice_index_or shares w d ≡ no_shares partitions w

-- an empty table of a query, and a book without events of so many workers
pub record IsEmptyPlace (q : QueryTree) (workers : ℕ) (place : Place) : Type 0 where
  pub shape : place.table.shape ≡ shape_of q
  pub limit : place.table.limit ≡ None
  pub groups : place.table.groups ≡ []
  pub book : place.book.items ≡ replicate workers 0

-- these are the stores that a run found, from the first-th on
abbrev pub AreStoresFrom : Run → ℕ → List StoreSeen → Type 0
AreStoresFrom r first stores = stores ≡ drop first r.stores

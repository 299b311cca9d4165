-- What a worker counts of its own events.
use Rattle.std.specs.Prelude.{◌+◌, ◌%◌, ℕ, List, slice_index_or, slice_set}

-- a worker, its picks, and for each partition its events and its refused puts
pub record SharesSeen : Type 0 where
  pub worker : ℕ
  pub picks : ℕ
  pub events : List ℕ
  pub faults : List ℕ

-- a list with one more at an index
abbrev pub one_more_at : List ℕ → ℕ → List ℕ
one_more_at xs i = slice_set xs i (slice_index_or xs i 0 + 1)

-- how many events the worker made in a partition
abbrev pub share_of : SharesSeen → ℕ → ℕ
share_of s p = slice_index_or s.events p 0

-- how many of its puts were refused there
abbrev pub refused_puts_in : SharesSeen → ℕ → ℕ
refused_puts_in s p = slice_index_or s.faults p 0

-- one more event in a partition
abbrev pub raised : SharesSeen → ℕ → SharesSeen
raised s p = record {
  worker = s.worker;
  picks = s.picks;
  events = one_more_at s.events p;
  faults = s.faults;
}

-- one more refused put in a partition
abbrev pub refused_one : SharesSeen → ℕ → SharesSeen
refused_one s p = record {
  worker = s.worker;
  picks = s.picks;
  events = s.events;
  faults = one_more_at s.faults p;
}

-- one more pick
abbrev pub one_more_pick : SharesSeen → SharesSeen
one_more_pick s = record {
  worker = s.worker;
  picks = s.picks + 1;
  events = s.events;
  faults = s.faults;
}

-- the partition of the worker's next pick, out of so many
abbrev pub next_pick : ℕ → SharesSeen → ℕ
next_pick partitions s = (s.worker + s.picks) % partitions

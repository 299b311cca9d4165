use Rattle.std.proofs.Common.{refl, ◌∙◌}
use Rattle.pipe_tables.proofs.InsertFacts.{at-hand, feeds-at, feeds-new, insert-done, insert-holds, insert-kept, puts-at, puts-new}
use Rattle.pipe_tables.proofs.StayFacts.{parts-set}
use Rattle.pipe_tables.proofs.hash_table.AggHashTable.insert.Goals as goal

pub feed-requires-clause-few : goal.feed-requires-clause-few
feed-requires-clause-few c = (feeds-at _ _ _ (at-hand _ _ _ c.self.view_is c.self.invariant c.requires.few c.requires.typed) _ c.as_slice.ensures c.in-At.index c.in-At.ensures.0).0

pub feed-requires-clause-taken : goal.feed-requires-clause-taken
feed-requires-clause-taken c = rw c.values_of.ensures ((feeds-at _ _ _ (at-hand _ _ _ c.self.view_is c.self.invariant c.requires.few c.requires.typed) _ c.as_slice.ensures c.in-At.index c.in-At.ensures.0).1)

pub feed-requires-in-Ok-clause-few : goal.feed-requires-in-Ok-clause-few
feed-requires-in-Ok-clause-few c = (feeds-new _ _ _ (at-hand _ _ _ c.self.view_is c.self.invariant c.requires.few c.requires.typed) _ c.as_slice-in-New.ensures _ c.in-Ok.index c.in-Ok.ensures.ok.0 c.in-Ok.ensures.index).0

pub feed-requires-in-Ok-clause-taken : goal.feed-requires-in-Ok-clause-taken
feed-requires-in-Ok-clause-taken c = rw c.values_of-in-Ok.ensures ((feeds-new _ _ _ (at-hand _ _ _ c.self.view_is c.self.invariant c.requires.few c.requires.typed) _ c.as_slice-in-New.ensures _ c.in-Ok.index c.in-Ok.ensures.ok.0 c.in-Ok.ensures.index).1)

pub invariant_of-self : goal.invariant_of-self
invariant_of-self c = record {
  table = insert-kept _ _ _ (at-hand _ _ _ c.self.view_is c.self.invariant c.requires.few c.requires.typed) _
      (puts-at _ _ _ (at-hand _ _ _ c.self.view_is c.self.invariant c.requires.few c.requires.typed) _ c.as_slice.ensures _ c.in-At.index c.in-At.ensures.0 (rw c.values_of.ensures at c.feed.ensures.groups.0) c.feed.ensures.groups.1 refl);
  parts = parts-set c.self.inside.keyed.groups _ c.in-At.index _ (rw c.values_of.ensures at c.feed.ensures.groups.0) refl _ c.self.invariant.parts;
}

pub invariant_of-self-in-Ok : goal.invariant_of-self-in-Ok
invariant_of-self-in-Ok c = record {
  table = insert-kept _ _ _ (at-hand _ _ _ c.self.view_is c.self.invariant c.requires.few c.requires.typed) _
      (puts-new _ _ _ (at-hand _ _ _ c.self.view_is c.self.invariant c.requires.few c.requires.typed) _ c.as_slice-in-New.ensures _ _ c.in-Ok.index (rw (c.as_slice.ensures, ← c.as_slice-in-New.ensures) at c.in-New.ensures.0) c.in-Ok.ensures.ok.0 c.in-Ok.ensures.index (rw c.values_of-in-Ok.ensures at c.feed-in-Ok.ensures.groups.0) (c.feed-in-Ok.ensures.groups.1 ∙ c.in-Ok.ensures.ok.1) refl);
  parts = tt;
}

pub returns-in-At-clause-done : goal.returns-in-At-clause-done
returns-in-At-clause-done c = λ e. insert-done _ _ _ (at-hand _ _ _ c.self.view_is c.self.invariant c.requires.few c.requires.typed) _
    (puts-at _ _ _ (at-hand _ _ _ c.self.view_is c.self.invariant c.requires.few c.requires.typed) _ c.as_slice.ensures _ c.in-At.index c.in-At.ensures.0 (rw c.values_of.ensures at c.feed.ensures.groups.0) c.feed.ensures.groups.1 refl)

pub returns-in-At-clause-holds : goal.returns-in-At-clause-holds
returns-in-At-clause-holds c = λ e. insert-holds _ _ _ (at-hand _ _ _ c.self.view_is c.self.invariant c.requires.few c.requires.typed) _
    (puts-at _ _ _ (at-hand _ _ _ c.self.view_is c.self.invariant c.requires.few c.requires.typed) _ c.as_slice.ensures _ c.in-At.index c.in-At.ensures.0 (rw c.values_of.ensures at c.feed.ensures.groups.0) c.feed.ensures.groups.1 refl)

pub returns-in-Ok-clause-done : goal.returns-in-Ok-clause-done
returns-in-Ok-clause-done c = λ e. insert-done _ _ _ (at-hand _ _ _ c.self.view_is c.self.invariant c.requires.few c.requires.typed) _
    (puts-new _ _ _ (at-hand _ _ _ c.self.view_is c.self.invariant c.requires.few c.requires.typed) _ c.as_slice-in-New.ensures _ _ c.in-Ok.index (rw (c.as_slice.ensures, ← c.as_slice-in-New.ensures) at c.in-New.ensures.0) c.in-Ok.ensures.ok.0 c.in-Ok.ensures.index (rw c.values_of-in-Ok.ensures at c.feed-in-Ok.ensures.groups.0) (c.feed-in-Ok.ensures.groups.1 ∙ c.in-Ok.ensures.ok.1) refl)

pub returns-in-Ok-clause-holds : goal.returns-in-Ok-clause-holds
returns-in-Ok-clause-holds c = λ e. insert-holds _ _ _ (at-hand _ _ _ c.self.view_is c.self.invariant c.requires.few c.requires.typed) _
    (puts-new _ _ _ (at-hand _ _ _ c.self.view_is c.self.invariant c.requires.few c.requires.typed) _ c.as_slice-in-New.ensures _ _ c.in-Ok.index (rw (c.as_slice.ensures, ← c.as_slice-in-New.ensures) at c.in-New.ensures.0) c.in-Ok.ensures.ok.0 c.in-Ok.ensures.index (rw c.values_of-in-Ok.ensures at c.feed-in-Ok.ensures.groups.0) (c.feed-in-Ok.ensures.groups.1 ∙ c.in-Ok.ensures.ok.1) refl)

use Rattle.std.proofs.Common.{refl}
use Rattle.pipe_tables.proofs.InsertFacts.{at-hand, feeds-at, insert-kept, puts-at}
use Rattle.pipe_tables.proofs.StayFacts.{parts-set}
use Rattle.pipe_tables.proofs.TookAtFacts.{there, took-one}
use Rattle.pipe_tables.proofs.hash_table.AggHashTable.feed_at.Goals as goal

pub feed_taken-requires-clause-few : goal.feed_taken-requires-clause-few
feed_taken-requires-clause-few c =
    let hand = at-hand _ _ _ c.self.view_is c.self.invariant c.requires.few c.requires.typed in
    (feeds-at _ _ _ hand _ refl c.args.index (there _ _ _ _ hand c.requires.at)).0

pub feed_taken-requires-clause-taken : goal.feed_taken-requires-clause-taken
feed_taken-requires-clause-taken c =
    let hand = at-hand _ _ _ c.self.view_is c.self.invariant c.requires.few c.requires.typed in
    (feeds-at _ _ _ hand _ refl c.args.index (there _ _ _ _ hand c.requires.at)).1

pub invariant_of-self : goal.invariant_of-self
invariant_of-self c =
    let hand = at-hand _ _ _ c.self.view_is c.self.invariant c.requires.few c.requires.typed in
    record {
      table = insert-kept _ _ _ hand _
          (puts-at _ _ _ hand _ refl _ c.args.index (there _ _ _ _ hand c.requires.at) c.feed_taken.ensures.groups.0 c.feed_taken.ensures.groups.1 refl);
      parts = parts-set c.self.inside.keyed.groups _ c.args.index _ c.feed_taken.ensures.groups.0 refl _ c.self.invariant.parts;
    }

pub returns-clause-took : goal.returns-clause-took
returns-clause-took c =
    let hand = at-hand _ _ _ c.self.view_is c.self.invariant c.requires.few c.requires.typed in
    took-one _ _ _ _ hand c.args.index
    (puts-at _ _ _ hand _ refl _ c.args.index (there _ _ _ _ hand c.requires.at) c.feed_taken.ensures.groups.0 c.feed_taken.ensures.groups.1 refl) c.feed_taken.ensures.groups.0

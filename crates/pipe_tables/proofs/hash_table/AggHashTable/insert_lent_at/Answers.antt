use Rattle.std.proofs.Common.{◌≡◌, ◌∙◌, ℕ, refl, sym}
use Rattle.pipe_keyed.specs.Keyed.{IsAt}
use Rattle.pipe_keyed.proofs.TableFacts.{table-same}
use Rattle.pipe_tables.specs.declared.beside.LentAt.{LentAt}
use Rattle.pipe_tables.specs.declared.beside.LentAt.TheVariants.{Done, Memory}
use Rattle.pipe_tables.proofs.InsertFacts.{at-hand, feeds-at, insert-done, insert-holds, insert-kept, puts-at, puts-last, takes-new}
use Rattle.pipe_tables.proofs.InsertedAt.{at-last, at-set, same_index}
use Rattle.pipe_tables.proofs.StayFacts.{parts-same, parts-set}
use Rattle.pipe_tables.proofs.hash_table.AggHashTable.insert_lent_at.Goals as goal
use Rattle.pipe_tables.proofs.hash_table.AggHashTable.insert_lent_at.Goals.{in-Ok, in-Err}

pub feed_lent-requires-clause-few : goal.feed_lent-requires-clause-few
feed_lent-requires-clause-few c = (feeds-at _ _ _ (at-hand _ _ _ c.self.view_is c.self.invariant c.requires.few c.requires.typed) _ c.requires.code c.in-At.index c.in-At.ensures.0).0

pub feed_lent-requires-clause-taken : goal.feed_lent-requires-clause-taken
feed_lent-requires-clause-taken c = (feeds-at _ _ _ (at-hand _ _ _ c.self.view_is c.self.invariant c.requires.few c.requires.typed) _ c.requires.code c.in-At.index c.in-At.ensures.0).1

pub invariant_of-self : goal.invariant_of-self
invariant_of-self c = elim c.match-feed_lent.branch [
  | in-Ok w ↦ (record {
    table = insert-kept _ _ _ (at-hand _ _ _ c.self.view_is c.self.invariant c.requires.few c.requires.typed) _
        (puts-at _ _ _ (at-hand _ _ _ c.self.view_is c.self.invariant c.requires.few c.requires.typed) _ c.requires.code _ c.in-At.index c.in-At.ensures.0 w.in-Ok.ensures.ok.0 w.in-Ok.ensures.ok.1 refl);
    parts = parts-set c.self.inside.keyed.groups _ c.in-At.index _ w.in-Ok.ensures.ok.0 refl _ c.self.invariant.parts;
  })
  | in-Err w ↦ (record {
    table = table-same _ _ c.self.invariant.table (w.in-Err.ensures.err.0, w.in-Err.ensures.err.1, refl);
    parts = parts-same _ _ w.in-Err.ensures.err.0 _ c.self.invariant.parts;
  })
]

pub push_lent-requires-clause-taken : goal.push_lent-requires-clause-taken
push_lent-requires-clause-taken c = takes-new _ _ _ (at-hand _ _ _ c.self.view_is c.self.invariant c.requires.few c.requires.typed) _ c.requires.code

pub invariant_of-self-in-Ok-push_lent : goal.invariant_of-self-in-Ok-push_lent
invariant_of-self-in-Ok-push_lent c = record {
  table = insert-kept _ _ _ (at-hand _ _ _ c.self.view_is c.self.invariant c.requires.few c.requires.typed) _
      (puts-last _ _ _ (at-hand _ _ _ c.self.view_is c.self.invariant c.requires.few c.requires.typed) _ c.requires.code _ c.in-New.ensures.0 c.in-Ok-push_lent.ensures.ok.0 c.in-Ok-push_lent.ensures.ok.1 refl);
  parts = tt;
}

pub returns-after-feed_lent-clause-done : goal.returns-after-feed_lent-clause-done
returns-after-feed_lent-clause-done c = λ i e. elim c.match-feed_lent.branch [
  | in-Ok w ↦ insert-done _ _ _ (at-hand _ _ _ c.self.view_is c.self.invariant c.requires.few c.requires.typed) _
      (puts-at _ _ _ (at-hand _ _ _ c.self.view_is c.self.invariant c.requires.few c.requires.typed) _ c.requires.code _ c.in-At.index c.in-At.ensures.0 w.in-Ok.ensures.ok.0 w.in-Ok.ensures.ok.1 refl)
  | in-Err w ↦ absurd (let q : Memory ≡ Done i = sym w.result-is ∙ e in cc)
]

pub returns-after-feed_lent-clause-at : goal.returns-after-feed_lent-clause-at
returns-after-feed_lent-clause-at c = λ i e. elim c.match-feed_lent.branch [
  | in-Ok w ↦ same_index _ c.args.key.now c.in-At.index i (sym w.result-is ∙ e) (at-set _ c.args.key.now c.in-At.index _ c.in-At.ensures.0 refl _ w.in-Ok.ensures.ok.0)
  | in-Err w ↦ absurd (let q : Memory ≡ Done i = sym w.result-is ∙ e in cc)
]

pub returns-after-feed_lent-clause-holds : goal.returns-after-feed_lent-clause-holds
returns-after-feed_lent-clause-holds c = λ i e. elim c.match-feed_lent.branch [
  | in-Ok w ↦ insert-holds _ _ _ (at-hand _ _ _ c.self.view_is c.self.invariant c.requires.few c.requires.typed) _
      (puts-at _ _ _ (at-hand _ _ _ c.self.view_is c.self.invariant c.requires.few c.requires.typed) _ c.requires.code _ c.in-At.index c.in-At.ensures.0 w.in-Ok.ensures.ok.0 w.in-Ok.ensures.ok.1 refl)
  | in-Err w ↦ absurd (let q : Memory ≡ Done i = sym w.result-is ∙ e in cc)
]

pub returns-in-Ok-push_lent-clause-done : goal.returns-in-Ok-push_lent-clause-done
returns-in-Ok-push_lent-clause-done c = λ i e. insert-done _ _ _ (at-hand _ _ _ c.self.view_is c.self.invariant c.requires.few c.requires.typed) _
    (puts-last _ _ _ (at-hand _ _ _ c.self.view_is c.self.invariant c.requires.few c.requires.typed) _ c.requires.code _ c.in-New.ensures.0 c.in-Ok-push_lent.ensures.ok.0 c.in-Ok-push_lent.ensures.ok.1 refl)

pub returns-in-Ok-push_lent-clause-at : goal.returns-in-Ok-push_lent-clause-at
returns-in-Ok-push_lent-clause-at c = λ i e. same_index _ c.args.key.now _ i e (at-last _ _ c.args.key.now _ _ refl c.in-Ok-push_lent.ensures.ok.0 c.len-index.ensures)

pub returns-in-Ok-push_lent-clause-holds : goal.returns-in-Ok-push_lent-clause-holds
returns-in-Ok-push_lent-clause-holds c = λ i e. insert-holds _ _ _ (at-hand _ _ _ c.self.view_is c.self.invariant c.requires.few c.requires.typed) _
    (puts-last _ _ _ (at-hand _ _ _ c.self.view_is c.self.invariant c.requires.few c.requires.typed) _ c.requires.code _ c.in-New.ensures.0 c.in-Ok-push_lent.ensures.ok.0 c.in-Ok-push_lent.ensures.ok.1 refl)

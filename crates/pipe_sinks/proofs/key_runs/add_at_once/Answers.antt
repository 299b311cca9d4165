use Rattle.std.proofs.Common.{◌≡◌, ◌∙◌, true, sym, subst, arith}
use Rattle.pipe_aggs.specs.QueryTrees.{query_tree}
use Rattle.pipe_groups.specs.GroupRuns.{keep_no_text}
use Rattle.pipe_groups.specs.Shape.{Shape}
use Rattle.pipe_keyed.proofs.TookFacts.{rows-typed}
use Rattle.pipe_sinks.proofs.InsertFacts.{alike-few, alike-took}
use Rattle.pipe_sinks.proofs.key_runs.add_at_once.Goals as goal

pub cover_given-requires-clause-takes : goal.cover_given-requires-clause-takes
cover_given-requires-clause-takes c =
    record {
      rows_are = rw (← c.requires.index) c.in_ok-rows.ensures.rows;
      typed = c.in_ok-rows.ensures.typed;
      index = omega (arith, c.requires.index, c.ranges.index.fits);
      height = c.requires.height;
      shape = c.requires.shape;
      sole = c.requires.sole;
      few = c.requires.few;
    }

pub feed_runs-requires-clause-takes : goal.feed_runs-requires-clause-takes
feed_runs-requires-clause-takes c =
    record {
      rows_are = rw (← c.requires.index) c.in_ok-rows.ensures.rows;
      typed = c.in_ok-rows.ensures.typed;
      index = omega (arith, c.requires.index, c.ranges.index.fits);
      height = c.requires.height;
      shape = c.cover_given.ensures.alike.shape ∙ c.requires.shape;
      sole = c.requires.sole;
      few = alike-few c.args.table.now c.cover_given.new.table c.args.chunk.now.frame.height c.cover_given.ensures.alike c.requires.few;
    }

pub feed_runs-requires-clause-plain : goal.feed_runs-requires-clause-plain
feed_runs-requires-clause-plain c =
    subst (λ (s : Shape). keep_no_text s.prototypes s.input_types ≡ true) (sym c.cover_given.ensures.alike.shape) c.requires.plain

pub returns-clause-took : goal.returns-clause-took
returns-clause-took c =
    record {
      took = alike-took (query_tree c.args.query.now) c.args.chunk.now.chunk_index c.args.chunk.now.frame c.args.chunk.now.frame.height c.args.table.now c.cover_given.new.table c.feed_runs.new.table c.cover_given.ensures.alike c.feed_runs.ensures.took;
      typed = rows-typed (query_tree c.args.query.now) c.args.chunk.now.chunk_index c.args.chunk.now.frame c.args.chunk.now.frame.height c.in_ok-rows.rows (rw (← c.requires.index) c.in_ok-rows.ensures.rows) c.in_ok-rows.ensures.typed
          (omega (arith, c.requires.index, c.ranges.index.fits)) c.requires.height (omega arith);
    }

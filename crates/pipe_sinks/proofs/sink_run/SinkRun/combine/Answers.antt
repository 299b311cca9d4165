use Rattle.std.proofs.Common.{◌≡◌, ◌∙◌, ◌+◌, ◌<◌, ◌^◌, ◌++◌, [], List, ap, refl, sym, subst}
use Rattle.std.specs.List.{All}
use Rattle.pipe_columns.specs.declared.data_chunk.DataChunk.{DataChunk}
use Rattle.pipe_aggs.specs.declared.query.Query.{Query}
use Rattle.pipe_aggs.specs.QueryTrees.{query_tree}
use Rattle.pipe_model.specs.Rows.{total_height}
use Rattle.pipe_sinks.specs.RunLayout.{SinkHasTaken}
use Rattle.pipe_sinks.specs.Runs.{HaveOwnIndexes, Purpose, Run}
use Rattle.pipe_sinks.proofs.MarkFacts.{marked, marked-append}
use Rattle.pipe_sinks.proofs.RunFacts.{run-both, run-emptied, run-few}
use Rattle.pipe_sinks.proofs.sink_run.SinkRun.combine.Goals as goal

pub combine-requires-clause-few : goal.combine-requires-clause-few
combine-requires-clause-few c =
    let xs : List DataChunk = marked c.self.inside.taken.items in
    let ys : List DataChunk = marked c.other.inside.taken.items in
    let own : xs ≡ c.args.self.now.taken = ap (λ (r : Run). r.taken) c.self.view_is in
    let theirs : ys ≡ c.args.other.now.taken = ap (λ (r : Run). r.taken) c.other.view_is in
    let few : total_height xs + total_height ys < 2 ^ 32 = rw (own, theirs) c.requires.few in
    let asked : c.other.inside.query.now ≡ c.self.inside.query.now =
    ap (λ (r : Run). r.query) c.other.view_is ∙ ap (λ (p : Purpose). p.query) c.requires.same ∙ sym (ap (λ (r : Run). r.query) c.self.view_is) in
    let more = subst (λ (x : Query). SinkHasTaken (query_tree x) c.other.inside.partitions ys c.other.inside.table) asked c.other.invariant in
    run-few _ _ xs c.self.inside.table c.self.invariant ys c.other.inside.table more.chunks more.kept few

pub invariant_of-self-2 : goal.invariant_of-self-2
invariant_of-self-2 c =
    let xs : List DataChunk = marked c.self.inside.taken.items in
    let ys : List DataChunk = marked c.other.inside.taken.items in
    let own : xs ≡ c.args.self.now.taken = ap (λ (r : Run). r.taken) c.self.view_is in
    let theirs : ys ≡ c.args.other.now.taken = ap (λ (r : Run). r.taken) c.other.view_is in
    let few : total_height xs + total_height ys < 2 ^ 32 = rw (own, theirs) c.requires.few in
    let apart : All (λ c. All (λ d. HaveOwnIndexes c d) ys) xs = rw (own, theirs) c.requires.apart in
    let asked : c.other.inside.query.now ≡ c.self.inside.query.now =
    ap (λ (r : Run). r.query) c.other.view_is ∙ ap (λ (p : Purpose). p.query) c.requires.same ∙ sym (ap (λ (r : Run). r.query) c.self.view_is) in
    let more = subst (λ (x : Query). SinkHasTaken (query_tree x) c.other.inside.partitions ys c.other.inside.table) asked c.other.invariant in
    run-both _ _ xs c.self.inside.table c.self.invariant ys c.other.inside.table more.chunks more.kept few
    c.combine.new.self _ apart c.in_ok-combine.ensures.took.joined c.in_ok-combine.ensures.took.shape
    (marked-append c.reserve.new.self.items c.other.inside.taken.items c.append.new.self.items (c.append.ensures.items ∙ rw c.unwrap.ensures refl) ∙ ap (λ (l : List DataChunk). l ++ ys) (ap marked c.in_ok-reserve.ensures.items))

pub invariant_of-other-2 : goal.invariant_of-other-2
invariant_of-other-2 c =
    let empty : c.append.new.other.items ≡ [] = rw c.unwrap.ensures at c.append.ensures.other_items in
    run-emptied _ _ (marked c.other.inside.taken.items) c.other.inside.table c.other.invariant c.combine.new.other _
    c.in_ok-combine.ensures.emptied.0 c.in_ok-combine.ensures.emptied.1 (ap marked empty)

use Rattle.std.proofs.Common.{rules, ◌≡◌, ◌∙◌, ◌<◌, ◌∷◌, ◌++◌, length, List, slice_index_or}
use Rattle.pipe_columns.specs.Frame.{appended, ColumnData}
use Rattle.pipe_columns.proofs.FrameFacts.{done_more, pair_count, pair_step, pair_type, pair_undone}
use Rattle.pipe_columns.proofs.data_frame.append_all.Goals as goal

pub append-requires : goal.append-requires
append-requires c =
    let inv = c.loop-other.invariant in
    let rest : List ColumnData = c.next.new.self.rest.items in
    let others : c.args.others.items ≡ c.loop-other.yielded ++ c.in-Some.other ∷ rest = search rules in
    rw inv.done (pair_type c.loop-other.yielded rest c.args.others.items c.args.columns.now c.loop-other.columns c.in-Some.other c.index-columns-done.result others c.requires.fields inv.columns)

pub returns-in-Err-clause-err : goal.returns-in-Err-clause-err
returns-in-Err-clause-err c =
    let inv = c.loop-other.invariant in
    let same : c.append.new.self ≡ slice_index_or c.loop-other.columns c.loop-other.done c.index-columns-done.result = search rules in
    c.truncate_all.ensures ∙ pair_undone c.args.height c.loop-other.done c.loop-other.yielded c.args.columns.now c.loop-other.columns c.index-columns-done.result c.append.new.self c.requires.height inv.columns same

pub loop-other-preserved : goal.loop-other-preserved
loop-other-preserved c =
    let inv = c.loop-other.invariant in
    let rest : List ColumnData = c.next.new.self.rest.items in
    let others : c.args.others.items ≡ c.loop-other.yielded ++ c.in-Some.other ∷ rest = search rules in
    let few : length c.loop-other.yielded < length c.args.columns.now = pair_count c.loop-other.yielded rest c.args.others.items c.args.columns.now c.in-Some.other others c.requires.fields in
    let made : c.append.new.self ≡ appended (slice_index_or c.loop-other.columns c.loop-other.done c.index-columns-done.result) c.in-Some.other = search rules in
    let more = done_more c.loop-other.yielded rest c.args.others.items c.in-Some.other c.loop-other.done inv.done others in
    record {
      done = more.0;
      columns = rw inv.done (pair_step c.loop-other.yielded c.args.columns.now c.loop-other.columns c.in-Some.other c.index-columns-done.result c.append.new.self few inv.columns (rw (← inv.done) made));
      rest = more.1;
    }

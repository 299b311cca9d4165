use Rattle.std.proofs.Common.{rules, ◌<◌, ◌≤◌, List, length, get_or}
use Rattle.pipe_columns.specs.declared.data_type.DataType.TheVariants as dt
use Rattle.pipe_columns.specs.Key.{code}
use Rattle.pipe_states.specs.Regrouped.{kept}
use Rattle.pipe_regroup.proofs.ListFacts.{all-written, fits-left, type-left, written-more}
use Rattle.pipe_regroup.proofs.row_groups.encode_kept.Goals as goal

pub append_value-requires : goal.append_value-requires
append_value-requires c =
    let within : get_or c.args.keep.now c.loop-j.j 0 < length c.args.key.now = search rules in
    let all : List _ = code c.args.types.now (kept c.args.keep.now c.args.key.now) in
    let there = type-left c.args.types.now c.args.keep.now c.args.key.now c.loop-j.code.items all c.loop-j.j 0 c.index-key-index.result c.loop-j-test.true within c.index-key-index.is c.loop-j.invariant.written in
    (fits-left c.args.types.now c.args.keep.now c.args.key.now c.loop-j.code.items all c.loop-j.j 0 c.index-key-index.result dt.Boolean c.loop-j-test.true within c.index-key-index.is there c.loop-j.invariant.written).0

pub loop-j-preserved : goal.loop-j-preserved
loop-j-preserved c =
    let within : get_or c.args.keep.now c.loop-j.j 0 < length c.args.key.now = search rules in
    let all : List _ = code c.args.types.now (kept c.args.keep.now c.args.key.now) in
    let there = type-left c.args.types.now c.args.keep.now c.args.key.now c.loop-j.code.items all c.loop-j.j 0 c.index-key-index.result c.loop-j-test.true within c.index-key-index.is c.loop-j.invariant.written in
    record {
      written = written-more c.args.types.now c.args.keep.now c.args.key.now c.loop-j.code.items c.append_value.new.buffer.items all c.loop-j.j 0 c.index-key-index.result dt.Boolean
          c.loop-j-test.true within c.index-key-index.is there c.loop-j.invariant.written c.in_ok-append_value.ensures.ok;
    }

pub returns : goal.returns
returns c =
    let past : length c.args.keep.now ≤ c.loop-j.j = search rules in
    all-written c.args.types.now c.args.keep.now c.args.key.now c.loop-j.code.items (code c.args.types.now (kept c.args.keep.now c.args.key.now)) c.loop-j.j past c.loop-j.invariant.written

use Rattle.std.proofs.Common.{rules, arith, ◌∙◌, ◌≤◌, List, length, map}
use Rattle.std.proofs.lemmas.List.{length-map, length-set}
use Rattle.pipe_columns.proofs.FrameFacts.{changed_all}
use Rattle.pipe_regroup.specs.declared.group.Group.{Group}
use Rattle.pipe_regroup.specs.Frames.{values_of, without}
use Rattle.pipe_regroup.proofs.FrameRows.{row-step, value-step}
use Rattle.pipe_regroup.proofs.frame.take_values.Goals as goal

pub loop-i-preserved : goal.loop-i-preserved
loop-i-preserved c =
    let place = c.args.place in
    let old : List Group = c.args.groups.now in
    let now : List Group = c.loop-i.groups in
    let i = c.loop-i.i in
    let g : Group = c.index-groups-i.result in
    let inv = c.loop-i.invariant in
    record {
      values = c.in_ok-push.ensures.items ∙ value-step place old now i g c.take_value.new.group c.loop-i-test.true inv.many inv.rows c.take_value.result c.loop-i.values.items inv.values c.take_value.ensures.value;
      rows = row-step place old now i g c.take_value.new.group c.loop-i-test.true inv.many inv.rows c.take_value.ensures.rest;
      many = length-set now i c.take_value.new.group ∙ inv.many;
    }

pub returns-clause-rest : goal.returns-clause-rest
returns-clause-rest c =
    let old : List Group = c.args.groups.now in
    let past : length old ≤ c.loop-i.i = search rules in
    let long = length-map old values_of in
    c.loop-i.invariant.rows ∙ changed_all (without c.args.place) c.loop-i.i (map values_of old) (omega (arith, past, long))

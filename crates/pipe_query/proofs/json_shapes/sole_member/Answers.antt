use Rattle.std.proofs.Common.{rules, ◌≡◌, length, slice_get, Some, sym, string_bytes}
use Rattle.serde_json.specs.Find.{as_object}
use Rattle.serde_json.specs.View.{members_view, view}
use Rattle.pipe_query.proofs.PartFacts.{sole_deeper}
use Rattle.pipe_query.proofs.Shapes.{one_member}
use Rattle.pipe_query.proofs.json_shapes.sole_member.Goals as goal

pub returns-clause-sole : goal.returns-clause-sole
returns-clause-sole c =
    let object : Some (members_view c.in_ok-members.members.now.entries) ≡ as_object (view c.args.json.now) = search rules in
    let one : length c.in_ok-members.members.now.entries ≡ 1 = search rules in
    let first : slice_get c.in_ok-members.members.now.entries 0 ≡ Some (c.in_ok-name.name.now, c.in_ok-name.value.now) = search rules in
    let text : c.as_str.result.now ≡ string_bytes c.in_ok-name.name.now = search rules in
    rw (← object, text) (sym (one_member _ _ one first))

pub returns-clause-inner : goal.returns-clause-inner
returns-clause-inner c = sole_deeper _ _ _ (returns-clause-sole c)

use Rattle.std.proofs.Common.{refl}
use Rattle.pipe_groups.specs.Groups.{group_of}
use Rattle.pipe_keyed.proofs.FindFacts.{find-end, find-falls, find-led, find-next, find-start, find-within, other-key, same-key}
use Rattle.pipe_keyed.proofs.secret.find_along.Goals as goal

pub loop-at-init : goal.loop-at-init
loop-at-init g c = find-start c.args.groups.now.groups _ _ c.args.lead c.requires.many _ c.last-at.ensures

pub is_at-requires-clause-within : goal.is_at-requires-clause-within
is_at-requires-clause-within g c = find-within c.args.groups.now.groups _ _ _ c.requires.many _ (rw c.in-Some.is at c.loop-at.invariant)

pub before-at-requires : goal.before-at-requires
before-at-requires g c = find-led c.args.groups.now.groups _ _ _ c.requires.many _ (rw c.in-Some.is at c.loop-at.invariant)

pub returns-then-is_at : goal.returns-then-is_at
returns-then-is_at g c = (
  find-within c.args.groups.now.groups _ _ _ c.requires.many _ (rw c.in-Some.is at c.loop-at.invariant),
  same-key c.args.groups.now.groups c.in-Some.index _ _ _ refl c.is_at.ensures c.if-is_at.true,
)

pub loop-at-smaller : goal.loop-at-smaller
loop-at-smaller g c =
    let gs = c.args.groups.now.groups in
    let code = g.S.Sought.code_of c.args.sought.now c.args.groups.now.shape.key_types in
    let other = other-key gs c.in-Some.index code (group_of gs c.in-Some.index).key c.is_at.result refl c.is_at.ensures c.if-is_at.false in
    rw c.in-Some.is (find-falls gs c.args.chains.now.leads code c.args.lead c.requires.many _ _ (rw c.in-Some.is at c.loop-at.invariant) other c.before-at.ensures)

pub loop-at-preserved : goal.loop-at-preserved
loop-at-preserved g c =
    let gs = c.args.groups.now.groups in
    let code = g.S.Sought.code_of c.args.sought.now c.args.groups.now.shape.key_types in
    let other = other-key gs c.in-Some.index code (group_of gs c.in-Some.index).key c.is_at.result refl c.is_at.ensures c.if-is_at.false in
    find-next gs c.args.chains.now.leads code c.args.lead c.requires.many _ _ (rw c.in-Some.is at c.loop-at.invariant) other c.before-at.ensures

pub returns : goal.returns
returns g c = find-end c.args.groups.now.groups _ _ c.args.lead c.requires.many c.requires.lead (rw c.in_default.is at c.loop-at.invariant)

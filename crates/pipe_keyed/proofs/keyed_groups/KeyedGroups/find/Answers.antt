use Rattle.std.proofs.Common.{◌≡◌, false, subst, sym}
use Rattle.pipe_groups.specs.Groups.{is_covered, Seen}
use Rattle.pipe_keyed.specs.Keyed.{IsAt}
use Rattle.pipe_keyed.proofs.FindFacts.{find-end, find-falls, find-led, find-next, find-start, find-within, hidden-lead, leads-length, other-key, plain-lead, plain-own, same-key}
use Rattle.pipe_keyed.proofs.keyed_groups.KeyedGroups.find.Goals as goal

pub find_along-requires-clause-many : goal.find_along-requires-clause-many
find_along-requires-clause-many g c = leads-length g.M.Marking.marks g.M.Marking.can_hide _ _ c.self.inside.groups.groups _ _ _ c.self.invariant

pub find_along-requires-clause-mark : goal.find_along-requires-clause-mark
find_along-requires-clause-mark g c = subst (λ (t : Seen). g.S.Sought.has_mark c.args.sought.now t.shape.key_types c.args.mark) (sym c.self.view_is) c.requires

pub find_along-requires-clause-lead : goal.find_along-requires-clause-lead
find_along-requires-clause-lead g c =
    let types = c.self.inside.groups.shape.key_types in
    let asked = subst (λ (t : Seen). g.S.Sought.has_mark c.args.sought.now t.shape.key_types c.args.mark) (sym c.self.view_is) c.requires in
    hidden-lead g.M.Marking.marks g.M.Marking.can_hide _ types c.self.inside.groups.groups _ _ _ c.if-self.true c.self.invariant _ _
    (c.secret_lead-lead.ensures types c.args.mark (c.self.invariant.can c.if-self.true) asked)

pub loop-at-init : goal.loop-at-init
loop-at-init g c =
    let gs = c.self.inside.groups.groups in
    find-start gs _ _ c.args.mark (leads-length g.M.Marking.marks g.M.Marking.can_hide _ _ gs _ _ _ c.self.invariant) _ c.last-at.ensures

pub key-requires : goal.key-requires
key-requires g c =
    let gs = c.self.inside.groups.groups in
    find-within gs _ _ _ (leads-length g.M.Marking.marks g.M.Marking.can_hide _ _ gs _ _ _ c.self.invariant) _ (rw c.in-Some.is at c.loop-at.invariant)

pub before-at-requires : goal.before-at-requires
before-at-requires g c =
    let gs = c.self.inside.groups.groups in
    find-led gs _ _ _ (leads-length g.M.Marking.marks g.M.Marking.can_hide _ _ gs _ _ _ c.self.invariant) _ (rw c.in-Some.is at c.loop-at.invariant)

pub returns-then-is_code : goal.returns-then-is_code
returns-then-is_code g c =
    let types = c.self.inside.groups.shape.key_types in
    let gs = c.self.inside.groups.groups in
    let asked = subst (λ (t : Seen). g.S.Sought.has_mark c.args.sought.now t.shape.key_types c.args.mark) (sym c.self.view_is) c.requires in
    let on = rw c.in-Some.is at c.loop-at.invariant in
    let own = plain-own g.M.Marking.marks g.M.Marking.can_hide _ types gs _ _ _ c.if-self.false c.self.invariant _ c.args.mark c.in-Some.index on in
    let is = c.is_code.ensures types c.args.mark (rw c.key.ensures own) asked in
    subst (λ (t : Seen). IsAt t.groups (g.S.Sought.code_of c.args.sought.now t.shape.key_types) c.in-Some.index) c.self.view_is (
      find-within gs _ _ _ (leads-length g.M.Marking.marks g.M.Marking.can_hide _ _ gs _ _ _ c.self.invariant) c.in-Some.index on,
      same-key gs c.in-Some.index _ _ _ c.key.ensures is c.if-is_code.true,
    )

pub loop-at-smaller : goal.loop-at-smaller
loop-at-smaller g c =
    let types = c.self.inside.groups.shape.key_types in
    let gs = c.self.inside.groups.groups in
    let asked = subst (λ (t : Seen). g.S.Sought.has_mark c.args.sought.now t.shape.key_types c.args.mark) (sym c.self.view_is) c.requires in
    let on = rw c.in-Some.is at c.loop-at.invariant in
    let own = plain-own g.M.Marking.marks g.M.Marking.can_hide _ types gs _ _ _ c.if-self.false c.self.invariant _ c.args.mark c.in-Some.index on in
    let is = c.is_code.ensures types c.args.mark (rw c.key.ensures own) asked in
    let many = leads-length g.M.Marking.marks g.M.Marking.can_hide _ _ gs _ _ _ c.self.invariant in
    rw c.in-Some.is (find-falls gs _ _ c.args.mark many _ _ on (other-key gs c.in-Some.index _ _ _ c.key.ensures is c.if-is_code.false) c.before-at.ensures)

pub loop-at-preserved : goal.loop-at-preserved
loop-at-preserved g c =
    let types = c.self.inside.groups.shape.key_types in
    let gs = c.self.inside.groups.groups in
    let asked = subst (λ (t : Seen). g.S.Sought.has_mark c.args.sought.now t.shape.key_types c.args.mark) (sym c.self.view_is) c.requires in
    let on = rw c.in-Some.is at c.loop-at.invariant in
    let own = plain-own g.M.Marking.marks g.M.Marking.can_hide _ types gs _ _ _ c.if-self.false c.self.invariant _ c.args.mark c.in-Some.index on in
    let is = c.is_code.ensures types c.args.mark (rw c.key.ensures own) asked in
    let many = leads-length g.M.Marking.marks g.M.Marking.can_hide _ _ gs _ _ _ c.self.invariant in
    find-next gs _ _ c.args.mark many _ _ on (other-key gs c.in-Some.index _ _ _ c.key.ensures is c.if-is_code.false) c.before-at.ensures

pub returns : goal.returns
returns g c =
    let types = c.self.inside.groups.shape.key_types in
    let gs = c.self.inside.groups.groups in
    let asked = subst (λ (t : Seen). g.S.Sought.has_mark c.args.sought.now t.shape.key_types c.args.mark) (sym c.self.view_is) c.requires in
    let many = leads-length g.M.Marking.marks g.M.Marking.can_hide _ _ gs _ _ _ c.self.invariant in
    let have = plain-lead g.M.Marking.marks g.M.Marking.can_hide _ types gs _ _ _ c.if-self.false c.self.invariant (g.M.Marking.once types) _ c.args.mark
    (g.met.S.Sought.marked c.args.sought.now types c.args.mark asked) in
    subst (λ (t : Seen). is_covered (g.S.Sought.code_of c.args.sought.now t.shape.key_types) t.groups ≡ false) c.self.view_is
    (find-end gs _ _ c.args.mark many have (rw c.in_default.is at c.loop-at.invariant))

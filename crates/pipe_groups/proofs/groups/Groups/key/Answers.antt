use Rattle.std.proofs.Common.{◌∙◌, arith, sym, ap, length, List, ℕ}
use Rattle.pipe_groups.specs.declared.groups.Entry.{Entry}
use Rattle.pipe_groups.specs.Groups.{Group}
use Rattle.pipe_groups.specs.Layout.{key_between, start_from}
use Rattle.pipe_groups.proofs.LaidFacts.{group-is, index-within, key-within}
use Rattle.pipe_groups.proofs.groups.Groups.key.Goals as goal

pub start_of-start-requires : goal.start_of-start-requires
start_of-start-requires c =
    omega (arith, index-within c.self.inside c.args.self.now c.self.view_is c.self.invariant c.args.index c.requires, ap (λ (es : List Entry). length es) c.deref.ensures.value)

pub index-requires : goal.index-requires
index-requires c = omega (arith, index-within c.self.inside c.args.self.now c.self.view_is c.self.invariant c.args.index c.requires)

pub key_of-requires-clause-starts : goal.key_of-requires-clause-starts
key_of-requires-clause-starts c =
    rw (c.start_of-start.ensures, c.deref.ensures.value) (key-within c.self.inside c.args.self.now c.self.view_is c.self.invariant c.args.index c.requires c.index.result.now c.index.ensures).0

pub key_of-requires-clause-ends : goal.key_of-requires-clause-ends
key_of-requires-clause-ends c =
    rw c.deref-2.ensures.value (key-within c.self.inside c.args.self.now c.self.view_is c.self.invariant c.args.index c.requires c.index.result.now c.index.ensures).1

pub returns : goal.returns
returns c =
    c.key_of.ensures ∙ ap (λ (bytes : List ℕ). key_between bytes c.start_of-start.result c.index.result.now.end) c.deref-2.ensures.value
    ∙ ap (λ (start : ℕ). key_between c.self.inside.bytes.items start c.index.result.now.end) (c.start_of-start.ensures ∙ ap (λ (es : List Entry). start_from 0 es c.args.index) c.deref.ensures.value)
    ∙ ap (λ (g : Group). g.key) (sym (group-is c.self.inside c.args.self.now c.self.view_is c.self.invariant c.args.index c.requires c.index.result.now c.index.ensures))

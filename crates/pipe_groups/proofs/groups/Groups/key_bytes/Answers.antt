use Rattle.std.proofs.Common.{◌∙◌, sym, ap, subst, List}
use Rattle.pipe_groups.specs.Layout.{AscendFrom, held_from}
use Rattle.pipe_groups.specs.declared.groups.Entry.{Entry}
use Rattle.pipe_groups.proofs.LaidFacts.{total-held}
use Rattle.pipe_groups.proofs.groups.Groups.key_bytes.Goals as goal

pub held_bytes_of-requires : goal.held_bytes_of-requires
held_bytes_of-requires c = subst (λ (es : List Entry). AscendFrom 0 es) (sym c.deref.ensures.value) c.self.invariant.ascend

pub returns : goal.returns
returns c =
    c.held_bytes_of.ensures ∙ ap (λ (es : List Entry). held_from 0 es) c.deref.ensures.value
    ∙ sym (total-held c.self.inside c.args.self.now c.self.view_is c.self.invariant)

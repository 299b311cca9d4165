use Rattle.std.proofs.Common.{◌≡◌, ◌∙◌, ap, List, subst, sym}
use Rattle.pipe_running.specs.declared.function.AggregateFunction.{AggregateFunction}
use Rattle.pipe_running.specs.GroupStates.{fresh_states}
use Rattle.pipe_groups.specs.Groups.{Seen}
use Rattle.pipe_groups.specs.Layout.{shape_in}
use Rattle.pipe_groups.specs.Shape.{IsShape, Shape}
use Rattle.pipe_groups.proofs.FreshFacts.{fresh-shape, shape-parts}
use Rattle.pipe_groups.proofs.groups.Groups.split.Goals as goal

same : (c : goal.In_ok-states) → ◌≡◌ {A = Shape} (record {
  key_types = c.in_ok-key_types.key_types.items;
  input_types = c.in_ok-input_types.input_types.items;
  prototypes = c.in_ok-prototypes.prototypes.items;
  fields = c.in_ok-fields.fields;
}) (shape_in c.self.inside)
same c =
    shape-parts (shape_in c.self.inside) _ _ _ _ (c.in_ok-key_types.ensures ∙ c.deref.ensures.value) (c.in_ok-input_types.ensures ∙ c.deref-2.ensures.value)
    (c.in_ok-prototypes.ensures ∙ ap (λ (fs : List AggregateFunction). fresh_states fs) c.deref-3.ensures.value ∙ fresh-shape (shape_in c.self.inside) c.self.invariant.shape)
    (c.in_ok-fields.ensures ∙ c.fields.ensures)

pub of_shape-requires-clause-shape : goal.of_shape-requires-clause-shape
of_shape-requires-clause-shape c = subst (λ (s : Shape). IsShape s) (sym (same c)) c.self.invariant.shape

pub returns-clause-shape : goal.returns-clause-shape
returns-clause-shape c = c.of_shape.ensures.shape ∙ same c.before ∙ ap (λ (s : Seen). s.shape) c.self.view_is

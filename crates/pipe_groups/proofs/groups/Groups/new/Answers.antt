use Rattle.std.proofs.Common.{◌≡◌, ◌∙◌, ap, List}
use Rattle.pipe_aggs.specs.QueryTrees.{query_tree}
use Rattle.pipe_running.specs.declared.function.AggregateFunction.{AggregateFunction}
use Rattle.pipe_running.specs.GroupStates.{fresh_states}
use Rattle.pipe_groups.specs.Shape.{Shape, shape_of}
use Rattle.pipe_groups.proofs.FreshFacts.{fresh-prototypes, shape-parts}
use Rattle.pipe_groups.proofs.groups.Groups.new.Goals as goal

same : (c : goal.In_ok-states) → ◌≡◌ {A = Shape} (record {
  key_types = c.in_ok-key_types.key_types.items;
  input_types = c.in_ok-input_types.input_types.items;
  prototypes = c.in_ok-prototypes.prototypes.items;
  fields = c.in_ok-fields.fields;
}) (shape_of (query_tree c.args.query.now))
same c =
    shape-parts (shape_of (query_tree c.args.query.now)) _ _ _ _ (c.in_ok-key_types.ensures ∙ c.key_types.ensures) (c.in_ok-input_types.ensures ∙ c.input_types.ensures)
    (c.in_ok-prototypes.ensures ∙ ap (λ (fs : List AggregateFunction). fresh_states fs) c.prototypes.ensures.functions ∙ fresh-prototypes (query_tree c.args.query.now))
    (c.in_ok-fields.ensures ∙ c.fields.ensures ∙ c.output_schema.ensures.schema)

pub of_shape-requires-clause-shape : goal.of_shape-requires-clause-shape
of_shape-requires-clause-shape c = record {
  query = query_tree c.args.query.now;
  of_query = same c;
  groupable = c.prototypes.ensures.groupable;
}

pub returns-clause-shape : goal.returns-clause-shape
returns-clause-shape c = c.of_shape.ensures.shape ∙ same c.before

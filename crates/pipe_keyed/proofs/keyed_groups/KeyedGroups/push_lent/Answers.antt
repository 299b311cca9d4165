use Rattle.std.proofs.Common.{List, [], ◌∷◌, ◌++◌, ap, ◌∙◌}
use Rattle.pipe_columns.specs.declared.any_value.AnyValue.{AnyValue}
use Rattle.pipe_columns.specs.declared.place.Place.{Place}
use Rattle.pipe_inputs.specs.ChunkRows.{row_at}
use Rattle.pipe_groups.specs.Groups.{new_group, group_with_row}
use Rattle.pipe_keyed.proofs.PushFacts.{last-fed, last-few}
use Rattle.pipe_keyed.proofs.keyed_groups.KeyedGroups.push_lent.Goals as goal

pub feed-requires-clause-few : goal.feed-requires-clause-few
feed-requires-clause-few g c = last-few _ _ _ _ c.in_ok-index.index c.in_ok-index.ensures.ok.0 c.in_ok-index.ensures.index

pub returns-clause-ok : goal.returns-clause-ok
returns-clause-ok g c =
    let g = new_group c.args.self.now.shape.prototypes c.args.key.now in (
      last-fed _ _ _ _ c.in_ok-index.index c.in_ok-index.ensures.ok.0 c.in_ok-index.ensures.index c.place.result c.in_ok-values.values _ c.feed.ensures.groups.0
          ∙ ap (λ (p : Place). c.args.self.now.groups ++ group_with_row p c.in_ok-values.values g ∷ []) c.place.ensures
          ∙ ap (λ (vs : List AnyValue). c.args.self.now.groups ++ group_with_row (row_at c.args.rows.now c.args.row).place vs g ∷ []) c.in_ok-values.ensures,
      c.feed.ensures.groups.1 ∙ c.in_ok-index.ensures.ok.1,
    )

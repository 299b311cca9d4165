use Rattle.std.proofs.Common.{rules, ◌≡◌, ◌∙◌, ◌+◌, ◌∷◌, ◌++◌, [], ap, sym, take}
use Rattle.std.proofs.lemmas.Grind.{take_at_read}
use Rattle.pipe_columns.specs.Frame.{columns_from}
use Rattle.pipe_columns.specs.declared.schema.Field.{Field}
use Rattle.pipe_writers.proofs.RoomFacts.{room_more, wide_more}
use Rattle.pipe_writers.proofs.frame_room.rooms_for.Goals as goal

pub loop-field-preserved : goal.loop-field-preserved
loop-field-preserved c =
    let i = c.loop-field.field-index in
    let fields = c.fields-fields.result.now in
    let field : Field = c.field-item.result in
    let more : take (i + 1) fields ≡ take i fields ++ field ∷ [] =
    (take_at_read fields i field c.loop-field-test.true).1 ∙ ap (λ f. take i fields ++ f ∷ []) (sym c.field-item.is) in
    let pushed : c.push.new.self.items ≡ c.loop-field.columns.items ++ c.in_ok-new.field-0 ∷ [] = search rules in
    rw pushed record {
      columns = room_more _ (take i fields) field c.in_ok-new.field-0 c.args.most c.loop-field.invariant.columns c.in_ok-new.ensures ∙ ap (λ fs. columns_from 0 fs []) (sym more);
      room = wide_more _ field c.in_ok-new.field-0 c.args.most c.loop-field.invariant.room c.in_ok-new.ensures;
    }

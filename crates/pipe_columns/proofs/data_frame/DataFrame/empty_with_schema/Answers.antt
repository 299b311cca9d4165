use Rattle.std.proofs.Common.{rules, ◌≡◌, ◌∙◌, ◌+◌, ◌∷◌, ◌++◌, [], ap, false, sym, take}
use Rattle.std.proofs.lemmas.Grind.{take_at_read}
use Rattle.pipe_columns.specs.Frame.{columns_from}
use Rattle.pipe_columns.specs.declared.schema.Field.{Field}
use Rattle.pipe_columns.proofs.FrameFacts.{empty_more}
use Rattle.pipe_columns.proofs.TypeFacts.{empty_is}
use Rattle.pipe_columns.proofs.data_frame.DataFrame.empty_with_schema.Goals as goal

pub loop-field-preserved : goal.loop-field-preserved
loop-field-preserved c =
    let i = c.loop-field.field-index in
    let fields = c.fields-fields.result.now in
    let field : Field = c.field-item.result in
    let more : take (i + 1) fields ≡ take i fields ++ field ∷ [] =
    (take_at_read fields i field c.loop-field-test.true).1 ∙ ap (λ f. take i fields ++ f ∷ []) (sym c.field-item.is) in
    let pushed : c.push.new.self.items ≡ c.loop-field.columns.items ++ record { name = field.name; dtype = field.dtype; sorted = false; values = [] } ∷ [] = search rules in
    pushed ∙ ap (λ cs. cs ++ record { name = field.name; dtype = field.dtype; sorted = false; values = [] } ∷ []) c.loop-field.invariant ∙ sym (empty_more 0 (take i fields) field) ∙ ap (λ fs. columns_from 0 fs []) (sym more)

pub invariant_of-result : goal.invariant_of-result
invariant_of-result c =
    rw c.loop-field.invariant (empty_is (take c.loop-field.field-index c.fields-fields.result.now))

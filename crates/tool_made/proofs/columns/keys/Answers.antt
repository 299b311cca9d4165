use Rattle.std.proofs.Common.{rules, ◌≡◌, ◌∙◌, ◌++◌, ◌+◌, ◌∷◌, [], List, subst, ap, sym, pos, map}
use Rattle.std.specs.List.{range_with_len}
use Rattle.pipe_columns.specs.declared.any_value.AnyValue.{AnyValue}
use Rattle.pipe_columns.specs.declared.any_value.AnyValue.TheVariants as av
use Rattle.tool_made.proofs.MadeFacts.{keys_more, one_fits_more}
use Rattle.pipe_columns.specs.declared.data_type.DataType.TheVariants as dt
use Rattle.pipe_columns.specs.Frame.{AllFit}
use Rattle.tool_made.specs.Made.{made_key}
use Rattle.tool_made.proofs.columns.keys.Goals as goal

pub loop-i-preserved : goal.loop-i-preserved
loop-i-preserved c =
    let one : AnyValue = av.Int (pos (made_key c.args.seed (c.args.first + c.loop-i.i))) in
    let pushed : c.push.new.self.items ≡ c.loop-i.keys.items ++ one ∷ [] = search rules in
    let longer = ap (λ (xs : List AnyValue). xs ++ one ∷ []) c.loop-i.invariant.0 in
    (pushed ∙ longer ∙ sym (keys_more c.args.seed c.args.first c.loop-i.i), subst (AllFit dt.Int64) (sym pushed) (one_fits_more c.loop-i.keys.items one c.loop-i.invariant.1 (search rules)), search rules)

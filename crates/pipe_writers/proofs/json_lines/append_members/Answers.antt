use Rattle.std.proofs.Common.{◌≡◌, ◌∙◌, ◌++◌, ◌<◌, List, ℕ, length, get_or, arith, ap}
use Rattle.std.proofs.lemmas.List.{length-map}
use Rattle.pipe_columns.specs.declared.any_value.AnyValue.{AnyValue}
use Rattle.pipe_columns.specs.Frame.{ColumnData, row_at, value_at}
use Rattle.pipe_writers.specs.JsonHeads.{head_at}
use Rattle.pipe_writers.specs.JsonText.{json_value}
use Rattle.pipe_writers.proofs.JsonFacts.{head_is, length-heads, member_more, members_done, value_is}
use Rattle.pipe_writers.proofs.json_lines.append_members.Goals as goal

pub loop-i-preserved : goal.loop-i-preserved
loop-i-preserved c names are =
    let i : ℕ = c.loop-i.i in
    let columns : List ColumnData = c.args.frame.now.columns in
    let value : AnyValue = c.index-values-row.result in
    let values : List AnyValue = row_at columns c.args.row in
    let heads = length-heads names c.args.heads.now are in
    let many : length c.columns-columns.result.now ≡ length columns = ap length c.columns-columns.ensures.columns in
    let within : i < length columns = omega (arith, many, c.loop-i-test.true) in
    let named : i < length names = omega (arith, within, heads, c.requires.columns) in
    let wide : length values ≡ length columns = length-map columns (λ (x : ColumnData). value_at x.values c.args.row) in
    let there : c.index-columns-i.result ≡ get_or columns i c.index-columns-i.result = rw c.columns-columns.ensures.columns at c.index-columns-i.is in
    let at : value ≡ get_or c.index-columns-i.result.values c.args.row value = rw c.values.ensures.values at c.index-values-row.is in
    let is : get_or values i value ≡ value = value_is c.args.frame.now.height columns i c.args.row c.index-columns-i.result value c.columns-columns.ensures.height within there c.requires.within at in
    let head : c.deref.result.now ≡ head_at names i = c.deref.ensures.value ∙ head_is names c.args.heads.now i c.index-heads-i.result are named c.index-heads-i.is in
    let now : List ℕ = c.append_value.new.text.items in
    let put : c.extend_from_slice.new.self.items ≡ c.loop-i.text.items ++ c.deref.result.now = c.in_ok-extend_from_slice.ensures.items in
    let made : now ≡ (c.loop-i.text.items ++ c.deref.result.now) ++ json_value value = c.in_ok-append_value.ensures ∙ ap (λ (bs : List ℕ). bs ++ json_value value) put in
    member_more names values i value _ c.loop-i.text.items c.deref.result.now now named (omega (arith, wide, within)) is (c.loop-i.invariant names are) head made

pub returns : goal.returns
returns c names are =
    let heads = length-heads names c.args.heads.now are in
    let many : length c.columns-columns.result.now ≡ length c.args.frame.now.columns = ap length c.columns-columns.ensures.columns in
    members_done names (row_at c.args.frame.now.columns c.args.row) c.loop-i.i _ c.loop-i.text.items (omega (arith, heads, many, c.requires.columns, c.loop-i-test.false)) (c.loop-i.invariant names are)

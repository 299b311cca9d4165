use Rattle.std.proofs.Common.{rules, ◌≡◌, ◌∙◌, ◌+◌, ◌<◌, ◌^◌, ◌++◌, List, ℕ, [], ◌∷◌, ap, arith, length, subst, sym, true}
use Rattle.std.specs.Int.{bytes_high_first}
use Rattle.pipe_columns.specs.declared.data_type.DataType.{DataType}
use Rattle.pipe_spill.specs.Store.{with_frame}
use Rattle.pipe_waiting.specs.Waiting.{Waiting}
use Rattle.pipe_global.specs.declared.mark.Mark.{Mark}
use Rattle.pipe_global.specs.Steps.{puts}
use Rattle.pipe_global.specs.Waits.{bytes_waiting, count_waiting, payloads_read, rows_read}
use Rattle.pipe_global.proofs.Waited.{frame-read, puts-some, rows-count}
use Rattle.pipe_global.proofs.put.put_waiting.Goals as goal

pub put_frame-requires-clause-few : goal.put_frame-requires-clause-few
put_frame-requires-clause-few g c =
    let all : length (rows_read c.args.input_types.now c.args.waiting.now.items) ≡ count_waiting c.args.waiting.now.items = rows-count c.args.input_types.now c.args.waiting.now.items in
    let few : count_waiting c.args.waiting.now.items < 2 ^ 32 = omega (arith, all, c.requires.few) in
    subst (λ (ws : List Waiting). count_waiting ws < 2 ^ 32) (sym c.deref.ensures.value) few

pub returns-in-Ok-clause-marks : goal.returns-in-Ok-clause-marks
returns-in-Ok-clause-marks g c =
    let T : List DataType = c.args.input_types.now in
    let ws : List Waiting = c.args.waiting.now.items in
    let long : c.len.result ≡ length ws = search rules in
    let some : puts c.args.limit (payloads_read T ws) ≡ true = puts-some T ws c.args.limit c.len.result long (omega (arith, c.if-len-limit.false)) in
    let rows : count_waiting c.deref.result.now ≡ length (rows_read T ws) = ap count_waiting c.deref.ensures.value ∙ sym (rows-count T ws) in
    rw some (c.in-Ok.ensures.marks ∙ ap (λ n. c.args.marks.now.items ++ record { number = g.S.SpillStore.held c.args.store.now; rows = n } ∷ []) rows)

pub returns-in-Ok-clause-told : goal.returns-in-Ok-clause-told
returns-in-Ok-clause-told g c =
    let T : List DataType = c.args.input_types.now in
    let ws : List Waiting = c.args.waiting.now.items in
    let long : c.len.result ≡ length ws = search rules in
    let some : puts c.args.limit (payloads_read T ws) ≡ true = puts-some T ws c.args.limit c.len.result long (omega (arith, c.if-len-limit.false)) in
    let frame = ap (λ (l : List Waiting). bytes_high_first 8 (count_waiting l) ++ bytes_waiting l) c.deref.ensures.value ∙ frame-read T ws c.requires.typed in
    rw some (c.in-Ok.ensures.told ∙ ap (λ (f : List ℕ). with_frame (g.S.SpillStore.told c.args.store.now) f) frame)

-- The inputs stand behind the key, and were tested.
use Rattle.std.proofs.Common.{rules, ◌≡◌, ◌++◌, ◌<◌, ◌^◌, List, ℕ, length, OnOk, subst}
use Rattle.std.specs.Int.{bytes_high_first}
use Rattle.pipe_columns.specs.Key.{code}
use Rattle.pipe_columns.specs.declared.any_value.AnyValue.{AnyValue}
use Rattle.pipe_spill.specs.KeyTypes.{IsTuple}
use Rattle.pipe_waiting.proofs.ReadBack.{can_if, row_appended}
use Rattle.pipe_waiting.proofs.push_row.append_row.Goals as goal

pub returns-clause-ok : goal.returns-clause-ok
returns-clause-ok c =
    let row = c.args.row.now in
    let types = c.args.types.now in
    let head : List ℕ = bytes_high_first 4 row.place.chunk ++ bytes_high_first 4 row.place.row ++ bytes_high_first 8 (length row.key) in
    let first : c.append_key.new.buffer.items ≡ c.args.buffer.now.items ++ (head ++ row.key) =
    subst (λ (key : List ℕ). c.append_key.new.buffer.items
    ≡ c.args.buffer.now.items ++ (bytes_high_first 4 row.place.chunk ++ bytes_high_first 4 row.place.row ++ bytes_high_first 8 (length key) ++ key))
    c.as_slice-key.ensures c.in_ok-append_key.ensures.ok in
    let last : OnOk c.append_inputs.result (c.append_inputs.new.buffer.items ≡ c.append_key.new.buffer.items ++ code types row.values) =
    subst (λ (values : List AnyValue). OnOk c.append_inputs.result (c.append_inputs.new.buffer.items ≡ c.append_key.new.buffer.items ++ code types values))
    c.as_slice.ensures c.append_inputs.ensures.ok in
    row_appended c.append_inputs.result c.args.buffer.now.items head row.key (code types row.values)
    c.append_key.new.buffer.items c.append_inputs.new.buffer.items first last

pub returns-clause-can : goal.returns-clause-can
returns-clause-can c =
    let row = c.args.row.now in
    let types = c.args.types.now in
    let lent : length c.as_slice-key.result.now < 2 ^ 64 = search rules in
    let key : length row.key < 2 ^ 64 = subst (λ (l : List ℕ). length l < 2 ^ 64) c.as_slice-key.ensures lent in
    let chunk : row.place.chunk < 2 ^ 32 = c.append_key.ensures.chunk in
    let number : row.place.row < 2 ^ 32 = c.append_key.ensures.row in
    can_if c.append_inputs.result types row chunk number key
    (subst (λ (values : List AnyValue). OnOk c.append_inputs.result (IsTuple types values)) c.as_slice.ensures c.append_inputs.ensures.tuple)

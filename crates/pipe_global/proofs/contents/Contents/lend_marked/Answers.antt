use Rattle.std.proofs.Common.{◌≡◌, ◌≢◌, ◌∙◌, List, ℕ, Err, ap, length, refl, subst, true}
use Rattle.std.specs.List.{list_all}
use Rattle.pipe_columns.specs.declared.data_type.DataType.{DataType}
use Rattle.pipe_spill.specs.FrameBytes.{frame_bytes}
use Rattle.pipe_spill.specs.SpillRow.{AreRows}
use Rattle.pipe_spill.specs.declared.spill_row.SpillRow.{SpillRow}
use Rattle.pipe_tables.specs.Tables.{lies_in}
use Rattle.pipe_waiting.specs.Waiting.{left_rows}
use Rattle.pipe_waiting.proofs.ReadBack.{count_read}
use Rattle.pipe_global.specs.Partition.{PartitionSeen}
use Rattle.pipe_global.proofs.Gathered.{has-read, untold}
use Rattle.pipe_global.proofs.contents.Contents.lend_marked.Goals as goal

pub returns-in-Ok-clause-rows : goal.returns-in-Ok-clause-rows
returns-in-Ok-clause-rows g c =
    let s : PartitionSeen = c.args.self.now in
    let P : List DataType → List DataType → ℕ → ℕ → Type 0 =
    λ ks is n p. AreRows ks is (left_rows is c.in-Ok.rows) × (list_all (λ r. lies_in p n r.key) (left_rows is c.in-Ok.rows) ≡ true)
    × ((others : List SpillRow) → AreRows ks is others → frame_bytes is others ≡ c.args.bytes.now → others ≡ left_rows is c.in-Ok.rows) in
    let keys : c.key_types-keys.result.now ≡ s.table.shape.key_types = c.key_types-keys.ensures ∙ ap (λ (x : PartitionSeen). x.table.shape.key_types) c.self.view_is in
    let inputs : c.input_types-inputs.result.now ≡ s.table.shape.input_types = c.input_types-inputs.ensures ∙ ap (λ (x : PartitionSeen). x.table.shape.input_types) c.self.view_is in
    let number : c.self.inside.number ≡ s.number = ap (λ (x : PartitionSeen). x.number) c.self.view_is in
    let partitions : c.self.inside.partitions ≡ s.partitions = ap (λ (x : PartitionSeen). x.partitions) c.self.view_is in
    let own : P c.key_types-keys.result.now c.input_types-inputs.result.now c.self.inside.number c.self.inside.partitions = (c.in-Ok.ensures.typed, c.in-Ok.ensures.lie, c.in-Ok.ensures.read_back) in
    let seen : P c.key_types-keys.result.now c.input_types-inputs.result.now s.number s.partitions =
    subst (λ n. P c.key_types-keys.result.now c.input_types-inputs.result.now n s.partitions) number (subst (P c.key_types-keys.result.now c.input_types-inputs.result.now c.self.inside.number) partitions own) in
    let there : P s.table.shape.key_types s.table.shape.input_types s.number s.partitions =
    subst (λ ks. P ks s.table.shape.input_types s.number s.partitions) keys (subst (λ is. P c.key_types-keys.result.now is s.number s.partitions) inputs seen) in
    has-read s c.args.mark c.args.bytes.now c.requires.frame (left_rows s.table.shape.input_types c.in-Ok.rows) there.0 there.1
    (count_read s.table.shape.input_types c.in-Ok.rows.count c.in-Ok.rows.bytes ∙ c.in-Ok.ensures.count) there.2

-- where none could be read, the store doesn't tell
pub returns-in-Err-NotAFrame-clause-cause : goal.returns-in-Err-NotAFrame-clause-cause
returns-in-Err-NotAFrame-clause-cause g c =
    let s : PartitionSeen = c.args.self.now in
    let P : List DataType → List DataType → ℕ → ℕ → Type 0 =
    λ ks is n p. (rows : List SpillRow) → AreRows ks is rows → list_all (λ r. lies_in p n r.key) rows ≡ true → length rows ≡ c.args.mark.rows → frame_bytes is rows ≢ c.args.bytes.now in
    let keys : c.key_types-keys.result.now ≡ s.table.shape.key_types = c.key_types-keys.ensures ∙ ap (λ (x : PartitionSeen). x.table.shape.key_types) c.self.view_is in
    let inputs : c.input_types-inputs.result.now ≡ s.table.shape.input_types = c.input_types-inputs.ensures ∙ ap (λ (x : PartitionSeen). x.table.shape.input_types) c.self.view_is in
    let number : c.self.inside.number ≡ s.number = ap (λ (x : PartitionSeen). x.number) c.self.view_is in
    let partitions : c.self.inside.partitions ≡ s.partitions = ap (λ (x : PartitionSeen). x.partitions) c.self.view_is in
    let own : P c.key_types-keys.result.now c.input_types-inputs.result.now c.self.inside.number c.self.inside.partitions =
    c.lend_frame.ensures.refused (c.in-Err-NotAFrame.is ∙ ap (λ e. Err e) c.in-Err-NotAFrame.field-0-is) in
    let seen : P c.key_types-keys.result.now c.input_types-inputs.result.now s.number s.partitions =
    subst (λ n. P c.key_types-keys.result.now c.input_types-inputs.result.now n s.partitions) number (subst (P c.key_types-keys.result.now c.input_types-inputs.result.now c.self.inside.number) partitions own) in
    let none : P s.table.shape.key_types s.table.shape.input_types s.number s.partitions =
    subst (λ ks. P ks s.table.shape.input_types s.number s.partitions) keys (subst (λ is. P c.key_types-keys.result.now is s.number s.partitions) inputs seen) in
    (number, untold s c.args.mark c.args.bytes.now c.requires.frame c.requires.can none, c.requires.can.listed, refl)

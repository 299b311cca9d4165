-- The rows of a chunk have values of a query's types.
use Rattle.std.proofs.Common.{◌≡◌, ◌∙◌, ◌<◌, ◌^◌, ℕ, List, length, get_or, ap, arith}
use Rattle.std.specs.Prelude.{All}
use Rattle.std.proofs.lemmas.List.FromFn.{get_or-map-range_with_len, length-map-range_with_len}
use Rattle.pipe_columns.specs.Frame.{FrameData}
use Rattle.pipe_columns.specs.Row.{Row}
use Rattle.pipe_model.specs.Output.{key_types}
use Rattle.pipe_model.specs.Query.{QueryTree}
use Rattle.pipe_model.specs.Rows.{chunk_rows, row_of}
use Rattle.pipe_aggs.specs.CheckedQuery.{input_types}
use Rattle.pipe_inputs.specs.RowTypes.{IsRowOf}
use Rattle.pipe_spill.specs.SpillRow.{HasValues}

pub chunk-values : (q : QueryTree) (i : ℕ) (frame : FrameData) (rows : List Row) → rows ≡ chunk_rows q i frame → All (IsRowOf q) rows → i < 2 ^ 32 → frame.height < 2 ^ 32
    → All (HasValues (key_types q) (input_types q)) rows
chunk-values q i frame rows e all few small = λ k d lt.
    let within : k < frame.height = omega (arith, lt, ap (λ (rs : List Row). length rs) e, length-map-range_with_len (λ n. row_of q i frame n) 0 frame.height) in
    let typed : IsRowOf q (get_or rows k d) = all k d lt in
    let read : get_or rows k d ≡ row_of q i frame k = ap (λ (rs : List Row). get_or rs k d) e ∙ get_or-map-range_with_len (row_of q i frame) 0 frame.height k k d within (omega arith) in
    record {
      chunk = rw read few;
      row = rw read (omega (arith, within, small));
      key = record { of_types = typed.key.fit; utf8 = typed.key.utf8 };
      inputs = record { of_types = typed.inputs.fit; utf8 = typed.inputs.utf8 };
    }

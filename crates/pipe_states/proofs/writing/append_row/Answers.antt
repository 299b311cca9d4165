use Rattle.std.proofs.Common.{◌≡◌, ◌∙◌, ◌++◌, ◌∷◌, [], List, ℕ, length, OnOk, ap, append_assoc, sym, subst}
use Rattle.std.specs.Int.{bytes_high_first}
use Rattle.pipe_aggs.specs.QueryTrees.{query_tree}
use Rattle.pipe_columns.specs.declared.any_value.AnyValue.{AnyValue}
use Rattle.pipe_columns.specs.declared.data_type.DataType.{DataType}
use Rattle.pipe_columns.specs.declared.data_type.DataType.TheVariants as dt
use Rattle.pipe_columns.specs.Key.{code}
use Rattle.pipe_model.specs.Aggregate.{counted}
use Rattle.pipe_model.specs.Query.{QueryTree}
use Rattle.pipe_running.specs.declared.function.AggregateFunction.{AggregateFunction}
use Rattle.pipe_spill.specs.FrameBytes.{row_bytes}
use Rattle.pipe_spill.specs.KeyTypes.{AreOfTypes}
use Rattle.pipe_states.specs.Forms.{all_result_types, all_saved, all_saved_types}
use Rattle.pipe_states.specs.StateText.{saved_row, state_types}
use Rattle.pipe_states.specs.declared.state_row.StateRow.{StateRow}
use Rattle.pipe_states.proofs.Appending.{behind, then}
use Rattle.pipe_states.proofs.Rows.{results_typed, row_parts}
use Rattle.pipe_states.proofs.writing.append_row.Goals as goal

pub append_head-requires : goal.append_head-requires
append_head-requires c =
    subst (λ (ts : List DataType). AreOfTypes ts c.args.row.now.key) (sym c.key_types.ensures) c.requires.key.of_types

pub append_results-requires : goal.append_results-requires
append_results-requires c =
    let q : QueryTree = query_tree c.args.query.now in
    let typed = results_typed q c.prototypes.ensures.groupable c.args.row.now c.requires in
    subst (λ (vs : List AnyValue). AreOfTypes (all_result_types c.prototypes.result.now) vs) (sym c.as_slice.ensures)
    (subst (λ (fs : List AggregateFunction). AreOfTypes (all_result_types fs) c.args.row.now.results) (sym c.prototypes.ensures.functions) typed)

pub returns : goal.returns
returns c =
    let q : QueryTree = query_tree c.args.query.now in
    let row : StateRow = c.args.row.now in
    let old : List ℕ = c.args.text.now.items in
    let fs : List AggregateFunction = c.prototypes.result.now in
    let s : List ℕ = c.append_head.new.text.items in
    let t : List ℕ = c.append_counts.new.text.items in
    let u : List ℕ = c.append_results.new.text.items in
    let key : List ℕ = code c.key_types.result.now row.key in
    let chunk : List ℕ = bytes_high_first 4 row.first.chunk in
    let number : List ℕ = bytes_high_first 4 row.first.row in
    let size : List ℕ = bytes_high_first 8 (length key) in
    let head : List ℕ = bytes_high_first 4 row.first.chunk ++ bytes_high_first 4 row.first.row ++ bytes_high_first 8 (length key) ++ key in
    let counts : List ℕ = code (dt.UInt32 ∷ dt.UInt32 ∷ dt.UInt32 ∷ []) (counted row.last.chunk ∷ counted row.last.row ∷ counted row.rows ∷ []) in
    let results : List ℕ = code (all_saved_types fs) (all_saved fs row.results) in
    let first : s ≡ old ++ head =
    c.in_ok-append_head.ensures
    ∙ append_assoc (old ++ chunk ++ number) size key
    ∙ append_assoc (old ++ chunk) number (size ++ key)
    ∙ append_assoc old chunk (number ++ (size ++ key)) in
    let second : t ≡ s ++ counts = c.in_ok-append_counts.ensures in
    let last : OnOk c.append_results.result (u ≡ t ++ code (all_saved_types fs) (all_saved fs c.as_slice.result.now)) = c.append_results.ensures in
    let whole = row_parts q c.prototypes.ensures.groupable row c.key_types.result.now fs c.key_types.ensures c.prototypes.ensures.functions in
    then (u ≡ t ++ code (all_saved_types fs) (all_saved fs c.as_slice.result.now)) (u ≡ old ++ row_bytes (state_types q) (saved_row q row)) c.append_results.result
    (λ e. behind old (head ++ counts) results t u (behind old head counts s t first second)
    (e ∙ ap (λ (vs : List AnyValue). t ++ code (all_saved_types fs) (all_saved fs vs)) c.as_slice.ensures)
    ∙ ap (λ (l : List ℕ). old ++ l) whole) last

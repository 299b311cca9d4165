use Rattle.std.proofs.Common.{List, flat_map, ◌∙◌, subst, sym, ap}
use Rattle.pipe_columns.specs.Row.{Row}
use Rattle.pipe_model.proofs.RowPlaces.{rows-distinct}
use Rattle.pipe_model.specs.Answer.{answer_of}
use Rattle.pipe_model.specs.Rows.{HaveDistinctPlaces}
use Rattle.pipe_states.proofs.laws.regrouping_of_chunks.Goals as goal
use Rattle.pipe_states.proofs.PartFacts.{rows_by_keys, rows_of_all}
use Rattle.pipe_states.proofs.RegroupFacts.{regrouped-is}
use Rattle.pipe_states.specs.Parts.{kept_rows, parts_from}
use Rattle.pipe_states.specs.Regrouped.{with_keys}

pub returns : goal.returns
returns c = λ q lists keep h.
    let whole = rows_of_all q 0 lists in
    regrouped-is q (parts_from q 0 lists) keep (λ e. subst HaveDistinctPlaces (sym whole) (rows-distinct (flat_map (λ chunks. chunks) lists) q))
    ∙ ap (λ (rs : List Row). answer_of rs (with_keys q keep) 1) (ap (kept_rows keep) whole ∙ sym (rows_by_keys q keep 0 (flat_map (λ chunks. chunks) lists) h))

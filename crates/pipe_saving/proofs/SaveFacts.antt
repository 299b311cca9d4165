-- States of chunks that are taken one by one.
use Rattle.std.proofs.Common.{◌≡◌, ◌∙◌, ℕ, ◌+◌, List, [], ◌∷◌, ◌++◌, length, map, sym, ap, subst}
use Rattle.std.specs.declared.snapshot.Snapshot.{Snapshot}
use Rattle.std.proofs.lemmas.List.{length-map, map-append}
use Rattle.pipe_columns.specs.declared.data_chunk.DataChunk.{DataChunk}
use Rattle.pipe_groups.specs.Groups.{Group}
use Rattle.pipe_keyed.specs.Tables.{Table}
use Rattle.pipe_model.specs.Query.{QueryTree}
use Rattle.pipe_model.specs.Rows.{rows_from}
use Rattle.pipe_saving.specs.declared.extent.Extent.{Extent}
use Rattle.pipe_saving.specs.Extents.{extent_of}
use Rattle.pipe_saving.specs.Refusals.{AreFew}
use Rattle.pipe_saving.specs.Taken.{HasTaken, spilled_from}
use Rattle.pipe_saving.proofs.StateFacts.{can-save}
use Rattle.pipe_states.specs.Fair.{IsFair}
use Rattle.pipe_states.specs.Parts.{part_of, saved}
use Rattle.pipe_states.specs.States.{state_rows}
use Rattle.pipe_states.specs.declared.state_row.StateRow.{StateRow}
use Rattle.pipe_states.proofs.FairFacts.{saved-fair}

-- the chunks that marks stand for
abbrev pub marked : List (Snapshot DataChunk) → List DataChunk
marked marks = map (λ s. s.value) marks

-- one mark more
pub marked-more : (marks more : List (Snapshot DataChunk)) (s : Snapshot DataChunk) (chunk : DataChunk) → more ≡ marks ++ s ∷ [] → s.value ≡ chunk → marked more ≡ marked marks ++ chunk ∷ []
marked-more marks more s chunk e is = ap marked e ∙ map-append (λ s. s.value) marks (s ∷ []) ∙ ap (λ (x : DataChunk). marked marks ++ (x ∷ [])) is

-- there is an extent for each group
pub extents-all : (q : QueryTree) (first : ℕ) (taken : List DataChunk) (t : Table) (extents : List Extent) → HasTaken q first taken t extents → length extents ≡ length t.groups
extents-all q first taken t extents h = ap (λ (es : List Extent). length es) h.fed.extents ∙ length-map t.groups (λ (g : Group). extent_of (spilled_from q first taken) g.key)

-- ---- the state

-- a range and rows that are those of the state of chunks
pub file-is : (q : QueryTree) (first : ℕ) (taken : List DataChunk) (end : ℕ) (rows : List StateRow) → end ≡ first + length taken → rows ≡ state_rows q (rows_from q first taken)
    → record { first = first; end = end; rows = rows } ≡ saved q (part_of q first taken)
file-is q first taken end rows e is = λ i. record { first = first; end = e i; rows = is i }

-- are fair
pub file-fair : (q : QueryTree) (first : ℕ) (taken : List DataChunk) (end : ℕ) (rows : List StateRow) → AreFew first taken → end ≡ first + length taken → rows ≡ state_rows q (rows_from q first taken)
    → IsFair (record { first = first; end = end; rows = rows })
file-fair q first taken end rows few e is = subst IsFair (sym (file-is q first taken end rows e is)) (saved-fair q (part_of q first taken) (can-save q first taken few))

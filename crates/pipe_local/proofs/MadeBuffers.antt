-- Buffers that are made, in which nothing waits.
use Rattle.std.proofs.Common.{◌≡◌, ◌<◌, ◌+◌, ◌∙◌, ℕ, List, [], ◌∷◌, ◌++◌, map, refl, sym, subst}
use Rattle.std.specs.List.{All}
use Rattle.std.proofs.lemmas.List.{map-append, replicate_more}
use Rattle.std.proofs.lemmas.List.Elements.{All-nil, All-push}
use Rattle.pipe_columns.specs.declared.data_type.DataType.{DataType}
use Rattle.pipe_spill.specs.declared.spill_row.SpillRow.{SpillRow}
use Rattle.pipe_tables.specs.Buffers.{AreBuffers, Buffers, no_rows}
use Rattle.pipe_tables.proofs.BufferFacts.{none-waiting}
use Rattle.pipe_waiting.specs.Waiting.{AreWaiting, Waiting, waiting_rows}
use Rattle.pipe_local.specs.WaitingBuffers.{AreHeld}
use Rattle.pipe_local.proofs.BufferBytes.{none-read}

-- so many buffers in which nothing waits, by any types
pub record AreNone (n : ℕ) (ws : List Waiting) : Type 0 where
  pub rows : (types : List DataType) → map (waiting_rows types) ws ≡ no_rows n
  pub typed : (types : List DataType) → All (AreWaiting types) ws

-- none yet
pub none-yet : AreNone 0 []
none-yet = record { rows = λ types. refl; typed = λ types. All-nil (AreWaiting types) }

-- one more
pub none-more : (n : ℕ) (ws : List Waiting) (w : Waiting) → w.count ≡ 0 → ((types : List DataType) → AreWaiting types w) → AreNone n ws → AreNone (n + 1) (ws ++ w ∷ [])
none-more n ws w none typed are = record {
  rows = λ types.
      map-append (waiting_rows types) ws (w ∷ [])
      ∙ (λ i. are.rows types i ++ none-read types w none i ∷ [])
      ∙ replicate_more n [];
  typed = λ types. All-push (AreWaiting types) ws w (are.typed types) (typed types);
}

-- they are buffers
pub none-held : (n size : ℕ) (ws : List Waiting) → 0 < n → 0 < size → AreNone n ws → (types : List DataType) → AreHeld types (record { size = size; waiting = ws })
none-held n size ws some room are types =
    let of_rows : List (List SpillRow) → Buffers = λ rows. record { size = size; rows = rows } in
    record {
      typed = are.typed types;
      short = subst (λ (rows : List (List SpillRow)). AreBuffers (of_rows rows)) (sym (are.rows types)) (none-waiting n size some room);
    }

-- What becomes of rows when they are spilled.
use Rattle.std.proofs.Common.{◌≡◌, ◌++◌, List, [], ◌∷◌, refl, sym, ◌∙◌, ap}
use Rattle.std.specs.Prelude.{All, map}
use Rattle.std.specs.List.{flat_map}
use Rattle.std.proofs.lemmas.List.{map-append}
use Rattle.std.proofs.lemmas.List.Elements.{All-map, All-weaker}
use Rattle.pipe_columns.specs.declared.data_type.DataType.{DataType}
use Rattle.pipe_columns.specs.declared.any_value.AnyValue.{AnyValue}
use Rattle.pipe_columns.specs.declared.place.Place.{Place}
use Rattle.pipe_columns.specs.Row.{Row}
use Rattle.pipe_spill.specs.KeyTypes.{AreOfTypes}
use Rattle.pipe_spill.specs.SpillRow.{AreRows, HasValues, HaveInputs, IsRow, joined_rows, payload_of, spilled}
use Rattle.pipe_spill.specs.declared.spill_row.SpillRow.{SpillRow}
use Rattle.pipe_spill.proofs.CodeOrder.{codes_injective}

-- a row of values of the types is spilled as a row of the types
pub spilled_is_row : (keys inputs : List DataType) (r : Row) → HasValues keys inputs r → IsRow keys inputs (spilled keys r)
spilled_is_row keys inputs r h = record { chunk = h.chunk; row = h.row; key = (r.key, h.key, refl); inputs = h.inputs }

-- and so is each of some
pub spilled_are_rows : (keys inputs : List DataType) (rows : List Row) → All (HasValues keys inputs) rows → AreRows keys inputs (map (spilled keys) rows)
spilled_are_rows keys inputs rows h =
    All-map (IsRow keys inputs) (spilled keys) rows
    (All-weaker (HasValues keys inputs) (λ r. IsRow keys inputs (spilled keys r)) (spilled_is_row keys inputs) rows h)

-- rows of the types have inputs of the types
pub rows_have_inputs : (keys inputs : List DataType) (rows : List SpillRow) → AreRows keys inputs rows → HaveInputs inputs rows
rows_have_inputs keys inputs rows h =
    All-weaker (IsRow keys inputs) (λ r. AreOfTypes inputs r.values) (λ r p. p.inputs.of_types) rows h

-- different rows are spilled as different ones
pub spilled_injective : (keys inputs : List DataType) (a b : Row) → HasValues keys inputs a → HasValues keys inputs b → spilled keys a ≡ spilled keys b → a ≡ b
spilled_injective keys inputs a b p q e =
    let build : Place → List AnyValue → List AnyValue → Row = λ place key values. record { place = place; key = key; inputs = values } in
    let key = codes_injective keys a.key b.key p.key.of_types q.key.of_types (ap (λ (r : SpillRow). r.key) e) in
    ap (λ (x : Place). build x a.key a.inputs) (ap (λ (r : SpillRow). r.place) e)
    ∙ ap (λ (k : List AnyValue). build b.place k a.inputs) key
    ∙ ap (λ (v : List AnyValue). build b.place b.key v) (ap (λ (r : SpillRow). r.values) e)

-- the rows of the payloads of pieces are those of the joined pieces
pub joined_spilled : (keys : List DataType) (pieces : List (List Row))
    → joined_rows (map (payload_of keys) pieces) ≡ map (spilled keys) (flat_map (λ piece. piece) pieces)
joined_spilled keys [] = refl
joined_spilled keys (piece ∷ pieces) =
    ap (λ (l : List SpillRow). map (spilled keys) piece ++ l) (joined_spilled keys pieces)
    ∙ sym (map-append (spilled keys) piece (flat_map (λ piece. piece) pieces))

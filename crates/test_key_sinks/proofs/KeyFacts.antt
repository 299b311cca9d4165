-- Keys of one value each.
use Rattle.std.proofs.Common.{◌≡◌, ◌∙◌, ℕ, ◌+◌, ◌<◌, List, [], ◌∷◌, ◌++◌, length, map, take, get_or, sym, ap}
use Rattle.std.proofs.lemmas.List.{map-append, take_more}
use Rattle.std.proofs.lemmas.Option.{unwrap_or-slice_get}
use Rattle.pipe_columns.specs.declared.any_value.AnyValue.{AnyValue}
use Rattle.pipe_columns.specs.Row.{Row}
use Rattle.pipe_inputs.specs.ChunkRows.{no_row, row_at}

-- the key of one more row
pub key-more : (rows : List Row) (values more : List AnyValue) (i : ℕ) (v : AnyValue) → i < length rows → map (λ (x : AnyValue). x ∷ []) values ≡ map (λ (r : Row). r.key) (take i rows)
    → (row_at rows i).key ≡ v ∷ [] → more ≡ values ++ v ∷ [] → map (λ (x : AnyValue). x ∷ []) more ≡ map (λ (r : Row). r.key) (take (i + 1) rows)
key-more rows values more i v lt before key is =
    let one : AnyValue → List AnyValue = λ x. x ∷ [] in
    let key_of : Row → List AnyValue = λ r. r.key in
    let at : (get_or rows i no_row).key ≡ v ∷ [] = ap key_of (sym (unwrap_or-slice_get rows i no_row)) ∙ key in
    ap (map one) is
    ∙ map-append one values (v ∷ [])
    ∙ (λ j. before j ++ sym at j ∷ [])
    ∙ sym (ap (map key_of) (take_more rows i no_row lt) ∙ map-append key_of (take i rows) (get_or rows i no_row ∷ []))

-- The fields of a list of pairs, pair by pair.
use Rattle.std.proofs.Common.{◌≡◌, ◌+◌, ◌<◌, ◌≤◌, ◌++◌, ℕ, List, [], ◌∷◌, length, drop, get_or, Option, Some, None, option_map, option_and_then, refl, sym, ap, ◌∙◌}
use Rattle.std.proofs.Math.ListN.{drop_of_length-le}
use Rattle.std.proofs.lemmas.List.{append-nil, append_assoc}
use Rattle.serde_json.specs.View.{items_view, view}
use Rattle.serde_json.specs.declared.value.Value.{Value}
use Rattle.pipe_columns.specs.declared.schema.Field.{Field}
use Rattle.pipe_query.specs.QueryJson.{json_field, json_fields}
use Rattle.pipe_query.proofs.ListFacts.{drop_view}

-- a field behind those before it, and then those of the rest
cons_field : (o : Option Field) (f : Field) (front : List Field) (rest : Option (List Field)) → o ≡ Some f
    → option_map (λ r. front ++ r) (option_and_then (λ x. option_map (λ fs. x ∷ fs) rest) o) ≡ option_map (λ r. (front ++ f ∷ []) ++ r) rest
cons_field o f front None e = rw e refl
cons_field o f front (Some r) e = rw e (ap Some (sym (append_assoc front (f ∷ []) r)))

-- the fields of the list are those before place i and those of the rest
abbrev pub HaveFields : List Value → ℕ → List Field → Type 0
HaveFields vs i front = json_fields (items_view vs) ≡ option_map (λ r. front ++ r) (json_fields (items_view (drop i vs)))

-- one more field
pub fields_more : (vs : List Value) (i : ℕ) (v : Value) (f : Field) (front all : List Field) → HaveFields vs i front → i < length vs → v ≡ get_or vs i v
    → json_field (view v) ≡ Some f → all ≡ front ++ f ∷ [] → HaveFields vs (i + 1) all
fields_more vs i v f front all inv h is one grew =
    rw grew (inv ∙ ap (λ d. option_map (λ r. front ++ r) (json_fields d)) (drop_view vs i v h is) ∙ cons_field (json_field (view v)) f front (json_fields (items_view (drop (i + 1) vs))) one)

-- an item that is no field
pub fields_refused : (vs : List Value) (i : ℕ) (v : Value) (front : List Field) → HaveFields vs i front → i < length vs → v ≡ get_or vs i v
    → json_field (view v) ≡ None → json_fields (items_view vs) ≡ None
fields_refused vs i v front inv h is none =
    inv ∙ ap (λ d. option_map (λ r. front ++ r) (json_fields d)) (drop_view vs i v h is)
    ∙ ap (λ (o : Option Field). option_map (λ r. front ++ r) (option_and_then (λ x. option_map (λ fs. x ∷ fs) (json_fields (items_view (drop (i + 1) vs)))) o)) none

-- the end of the list
pub fields_all : (vs : List Value) (i : ℕ) (front : List Field) → HaveFields vs i front → length vs ≤ i → json_fields (items_view vs) ≡ Some front
fields_all vs i front inv h =
    let none : drop i vs ≡ [] = drop_of_length-le vs h in
    inv ∙ ap (λ l. option_map (λ r. front ++ r) (json_fields (items_view l))) none ∙ ap Some (append-nil front)

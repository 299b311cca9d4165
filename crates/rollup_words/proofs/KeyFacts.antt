-- The positions of the names of a list, one after another.
use Rattle.std.proofs.Common.{◌≡◌, ◌+◌, ◌<◌, ◌≤◌, ◌++◌, ℕ, List, [], ◌∷◌, length, drop, get_or, Option, Some, None, option_map, option_and_then, refl, sym, ap, ◌∙◌}
use Rattle.std.proofs.Math.ListN.{drop_of_length-le}
use Rattle.std.proofs.lemmas.List.{append-nil, append_assoc}
use Rattle.serde_json.specs.View.{items_view, view}
use Rattle.serde_json.specs.declared.value.Value.{Value}
use Rattle.pipe_columns.specs.declared.schema.Field.{Field}
use Rattle.pipe_query.proofs.ListFacts.{drop_view}
use Rattle.rollup_words.specs.Keys.{position_named, positions_named}

-- a position behind those before it, and then those of the rest
cons_position : (o : Option ℕ) (p : ℕ) (front : List ℕ) (rest : Option (List ℕ)) → o ≡ Some p
    → option_map (λ r. front ++ r) (option_and_then (λ x. option_map (λ ps. x ∷ ps) rest) o) ≡ option_map (λ r. (front ++ p ∷ []) ++ r) rest
cons_position o p front None e = rw e refl
cons_position o p front (Some r) e = rw e (ap Some (sym (append_assoc front (p ∷ []) r)))

-- the positions of the list are those before place i and those of the rest
abbrev pub HavePositions : List Field → List Value → ℕ → List ℕ → Type 0
HavePositions fields vs i front =
    positions_named fields (items_view vs) ≡ option_map (λ r. front ++ r) (positions_named fields (items_view (drop i vs)))

-- one more position
pub positions_more : (fields : List Field) (vs : List Value) (i : ℕ) (v : Value) (p : ℕ) (front all : List ℕ) → HavePositions fields vs i front → i < length vs → v ≡ get_or vs i v
    → position_named fields (view v) ≡ Some p → all ≡ front ++ p ∷ [] → HavePositions fields vs (i + 1) all
positions_more fields vs i v p front all inv h is one grew =
    rw grew (inv ∙ ap (λ d. option_map (λ r. front ++ r) (positions_named fields d)) (drop_view vs i v h is)
    ∙ cons_position (position_named fields (view v)) p front (positions_named fields (items_view (drop (i + 1) vs))) one)

-- an item that is no name of a field
pub positions_refused : (fields : List Field) (vs : List Value) (i : ℕ) (v : Value) (front : List ℕ) → HavePositions fields vs i front → i < length vs → v ≡ get_or vs i v
    → position_named fields (view v) ≡ None → positions_named fields (items_view vs) ≡ None
positions_refused fields vs i v front inv h is none =
    inv ∙ ap (λ d. option_map (λ r. front ++ r) (positions_named fields d)) (drop_view vs i v h is)
    ∙ ap (λ (o : Option ℕ). option_map (λ r. front ++ r) (option_and_then (λ x. option_map (λ ps. x ∷ ps) (positions_named fields (items_view (drop (i + 1) vs)))) o)) none

-- the end of the list
pub positions_all : (fields : List Field) (vs : List Value) (i : ℕ) (front : List ℕ) → HavePositions fields vs i front → length vs ≤ i → positions_named fields (items_view vs) ≡ Some front
positions_all fields vs i front inv h =
    let none : drop i vs ≡ [] = drop_of_length-le vs h in
    inv ∙ ap (λ l. option_map (λ r. front ++ r) (positions_named fields (items_view l))) none ∙ ap Some (append-nil front)

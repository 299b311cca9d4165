-- Pieces that are appended one after another.
use Rattle.std.proofs.Common.{◌≡◌, ◌∙◌, ◌+◌, ◌<◌, ◌++◌, ◌∷◌, ℕ, List, [], length, take, drop, get_or, map, Result, Ok, Err, OnOk, append_assoc, ap, sym}
use Rattle.std.specs.List.{flat_map}
use Rattle.std.proofs.lemmas.List.{append-nil, drop_more, map-append, take_more}
use Rattle.pipe_columns.specs.declared.any_value.AnyValue.{AnyValue}
use Rattle.pipe_columns.specs.declared.data_type.DataType.{DataType}
use Rattle.pipe_columns.specs.Key.{code, value_code}
use Rattle.pipe_model.specs.Query.{QueryTree}
use Rattle.pipe_spill.specs.FrameBytes.{row_bytes, rows_bytes}
use Rattle.pipe_spill.specs.declared.spill_row.SpillRow.{SpillRow}
use Rattle.pipe_states.specs.StateText.{saved_row, state_types}
use Rattle.pipe_states.specs.declared.state_row.StateRow.{StateRow}

-- a piece more behind some bytes
pub behind : (old a b s t : List ℕ) → s ≡ old ++ a → t ≡ s ++ b → t ≡ old ++ (a ++ b)
behind old a b s t p q = q ∙ ap (λ (l : List ℕ). l ++ b) p ∙ append_assoc old a b

-- what holds at `Ok`, and what follows from it
pub then : {X E : Type 0} (P Q : Type 0) (r : Result X E) → (P → Q) → OnOk r P → OnOk r Q
then P Q (Ok x) f p = f p
then P Q (Err e) f p = tt

-- the codes of three values
pub three_codes : (a b c : DataType) (u v w : AnyValue) (old s t new : List ℕ) → s ≡ old ++ value_code a u → t ≡ s ++ value_code b v → new ≡ t ++ value_code c w
    → new ≡ old ++ code (a ∷ b ∷ c ∷ []) (u ∷ v ∷ w ∷ [])
three_codes a b c u v w old s t new p q r =
    behind old (value_code a u) (value_code b v ++ value_code c w) s new p (behind s (value_code b v) (value_code c w) t new q r)
    ∙ ap (λ (l : List ℕ). old ++ (value_code a u ++ (value_code b v ++ l))) (sym (append-nil (value_code c w)))

-- the code of one value
pub one_code : (a : DataType) (u : AnyValue) → value_code a u ≡ code (a ∷ []) (u ∷ [])
one_code a u = sym (append-nil (value_code a u))

-- one element more is there, and one fewer is left
pub left_over : {X : Type 0} (xs : List X) (i : ℕ) (x : X) → i < length xs → x ≡ get_or xs i x → drop i xs ≡ x ∷ drop (i + 1) xs
left_over {X} xs i x within is = drop_more xs i x within ∙ ap (λ (y : X). y ∷ drop (i + 1) xs) (sym is)

-- a piece is written, and less is left by it
pub written : {X : Type 0} (old new piece rest left all : List X) → left ≡ piece ++ rest → old ++ left ≡ all → new ≡ old ++ piece → new ++ rest ≡ all
written {X} old new piece rest left all is so_far wrote =
    ap (λ (l : List X). l ++ rest) wrote ∙ append_assoc old piece rest ∙ ap (λ (l : List X). old ++ l) (sym is) ∙ so_far

-- what one element gives is written
pub flat_written : {X Y : Type 0} (f : X → List Y) (xs : List X) (i : ℕ) (x : X) (old new all : List Y) → i < length xs → x ≡ get_or xs i x
    → old ++ flat_map f (drop i xs) ≡ all → new ≡ old ++ f x → new ++ flat_map f (drop (i + 1) xs) ≡ all
flat_written f xs i x old new all within is so_far wrote =
    written old new (f x) (flat_map f (drop (i + 1) xs)) (flat_map f (drop i xs)) all (ap (flat_map f) (left_over xs i x within is)) so_far wrote

-- a row of a state is written
pub state_row_written : (q : QueryTree) (rows : List StateRow) (i : ℕ) (r : StateRow) (old new all : List ℕ) → i < length rows → r ≡ get_or rows i r
    → old ++ rows_bytes (state_types q) (map (saved_row q) (drop i rows)) ≡ all → new ≡ old ++ row_bytes (state_types q) (saved_row q r)
    → new ++ rows_bytes (state_types q) (map (saved_row q) (drop (i + 1) rows)) ≡ all
state_row_written q rows i r old new all within is so_far wrote =
    let types : List DataType = state_types q in
    let more : List SpillRow = map (saved_row q) (drop (i + 1) rows) in
    written old new (row_bytes types (saved_row q r)) (rows_bytes types more) (rows_bytes types (map (saved_row q) (drop i rows))) all
    (ap (λ (rs : List StateRow). rows_bytes types (map (saved_row q) rs)) (left_over rows i r within is)) so_far wrote

-- the image of one element more
pub image_more : {X Y : Type 0} (f : X → Y) (xs : List X) (i : ℕ) (x : X) → i < length xs → x ≡ get_or xs i x → map f (take i xs) ++ f x ∷ [] ≡ map f (take (i + 1) xs)
image_more f xs i x within is =
    sym (map-append f (take i xs) (x ∷ [])) ∙ sym (ap (map f) (take_more xs i x within ∙ ap (λ y. take i xs ++ y ∷ []) (sym is)))

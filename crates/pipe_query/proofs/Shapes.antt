-- Shapes of JSON values.
use Rattle.std.proofs.Common.{◌≡◌, ◌≢◌, ◌+◌, ℕ, None, Some, List, [], ◌∷◌, refl, ap, ◌∙◌, length, arith, add-one, String, Global, slice_get, string_bytes}
use Rattle.std.proofs.lemmas.Option.{same_Some}
use Rattle.serde_json.specs.View.{items_view, members_view, view}
use Rattle.serde_json.specs.declared.value.Value.{Value}
use Rattle.pipe_query.specs.OtherShapes.{sole_member, three_items}
use Rattle.pipe_query.specs.JsonShapes.{member_count, two_items}

-- an object has as many members as its map entries
pub member_count_of : (es : List (String Global × Value)) → member_count (members_view es) ≡ length es
member_count_of [] = refl
member_count_of (e ∷ es) = ap (λ (n : ℕ). n + 1) (member_count_of es) ∙ add-one (length es)

-- a map of another length has no sole member
pub not_sole : (es : List (String Global × Value)) → length es ≢ 1 → sole_member (members_view es) ≡ None
not_sole [] h = refl
not_sole (e ∷ []) h = absurd (h refl)
not_sole (e ∷ (f ∷ es)) h = refl

-- the sole member of a map of one entry
pub one_member : (es : List (String Global × Value)) (e : String Global × Value) → length es ≡ 1 → slice_get es 0 ≡ Some e
    → sole_member (members_view es) ≡ Some (string_bytes e.0, view e.1)
one_member [] e h first = absurd (omega (arith, h))
one_member (x ∷ (y ∷ es)) e h first = absurd (omega (arith, h))
one_member (x ∷ []) e h first =
    ap (λ (y : String Global × Value). Some (string_bytes y.0, view y.1)) (same_Some x e first)

-- a list of another length has no two items alone
pub not_two : (vs : List Value) → length vs ≢ 2 → two_items (items_view vs) ≡ None
not_two [] h = refl
not_two (v ∷ []) h = refl
not_two (v ∷ (w ∷ [])) h = absurd (h refl)
not_two (v ∷ (w ∷ (x ∷ vs))) h = refl

-- a list of another length has no three items alone
pub not_three : (vs : List Value) → length vs ≢ 3 → three_items (items_view vs) ≡ None
not_three [] h = refl
not_three (v ∷ []) h = refl
not_three (v ∷ (w ∷ [])) h = refl
not_three (v ∷ (w ∷ (x ∷ []))) h = absurd (h refl)
not_three (v ∷ (w ∷ (x ∷ (y ∷ vs)))) h = refl

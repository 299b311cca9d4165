-- What groups keep when a row is put among them or a key covered: keys apart, and few rows of the shape.
use Rattle.std.proofs.Common.{◌≡◌, ℕ, ◌+◌, ◌<◌, ◌^◌, Bool, true, false, if◌then◌else◌, ◌||◌, List, [], ◌∷◌, ◌++◌, length, refl, sym, ap, subst, arith}
use Rattle.std.specs.List.{IsDistinct}
use Rattle.std.specs.Str.{bytes_eq}
use Rattle.std.proofs.lemmas.List.{length_push}
use Rattle.std.proofs.lemmas.List.Elements.{All-append, All-push}
use Rattle.std.proofs.lemmas.List.{length-append}
use Rattle.pipe_columns.specs.declared.any_value.AnyValue.{AnyValue}
use Rattle.pipe_columns.specs.declared.place.Place.{Place}
use Rattle.pipe_running.specs.declared.function.AggregateFunction.{AggregateFunction}
use Rattle.pipe_spill.specs.SpillRow.{AreRows, IsRow}
use Rattle.pipe_spill.specs.declared.spill_row.SpillRow.{SpillRow}
use Rattle.pipe_groups.specs.Groups.{AreJoined, cover, Group, is_covered, group_keys, new_group, put, group_with_row, RowlessAreFresh}
use Rattle.pipe_groups.specs.Holds.{HoldFewer, Holds}
use Rattle.pipe_groups.specs.Shape.{IsShape, Shape}
use Rattle.pipe_groups.proofs.HoldFacts.{holds-covered, holds-joined, holds-row}
use Rattle.pipe_groups.proofs.PutFacts.{cover-new, cover-there, put-new}
use Rattle.pipe_groups.proofs.ShapeFacts.{shape-takes}
use Rattle.pipe_groups.proofs.TakeFacts.{apart-pushed}

-- ---- keys

module _ (ps : List AggregateFunction) (k : List ℕ) where
  -- a row of a covered key leaves the keys
  put-keys : (p : Place) (inputs : List AnyValue) (gs : List Group) → is_covered k gs ≡ true → group_keys (put ps k p inputs gs) ≡ group_keys gs
  put-keys p inputs [] h = cc
  put-keys p inputs (g ∷ gs) h = by (bytes_eq k g.key) h (put-keys p inputs gs) where
    by : (b : Bool) → b || is_covered k gs ≡ true → (is_covered k gs ≡ true → group_keys (put ps k p inputs gs) ≡ group_keys gs)
        → group_keys (if b then group_with_row p inputs g ∷ gs else g ∷ put ps k p inputs gs) ≡ g.key ∷ group_keys gs
    by true h next = refl
    by false h next = ap (λ (l : List (List ℕ)). g.key ∷ l) (next h)

  -- keys that are apart stay so with one more row
  pub apart-put : (p : Place) (inputs : List AnyValue) (gs : List Group) → IsDistinct bytes_eq (group_keys gs) → IsDistinct bytes_eq (group_keys (put ps k p inputs gs))
  apart-put p inputs gs d = by (is_covered k gs) refl where
    by : (b : Bool) → is_covered k gs ≡ b → IsDistinct bytes_eq (group_keys (put ps k p inputs gs))
    by true e = subst (IsDistinct bytes_eq) (sym (put-keys p inputs gs e)) d
    by false e = rw (put-new k ps p inputs gs e) (apart-pushed gs (group_with_row p inputs (new_group ps k)) d e)

  -- and with room for a key
  pub apart-cover : (gs : List Group) → IsDistinct bytes_eq (group_keys gs) → IsDistinct bytes_eq (group_keys (cover ps k gs))
  apart-cover gs d = by (is_covered k gs) refl where
    by : (b : Bool) → is_covered k gs ≡ b → IsDistinct bytes_eq (group_keys (cover ps k gs))
    by true e = rw (cover-there k ps gs e) d
    by false e = rw (cover-new k ps gs e) (apart-pushed gs (new_group ps k) d e)

-- ---- rows

-- groups with one more row hold as few, less by one
pub few-put : (s : Shape) (gs : List Group) (n : ℕ) (r : SpillRow) → IsShape s → IsRow s.key_types s.input_types r → RowlessAreFresh s.prototypes gs → HoldFewer s gs (n + 1)
    → HoldFewer s (put s.prototypes r.key r.place r.values gs) n
few-put s gs n r shape typed fresh h = record {
  rows = h.rows ++ r ∷ [];
  holds = holds-row s.prototypes gs h.rows r (shape-takes s r.values shape typed.inputs.of_types) fresh h.holds;
  typed = All-push (IsRow s.key_types s.input_types) h.rows r h.typed typed;
  few = let few : length h.rows + (n + 1) < 2 ^ 32 = h.few in omega (arith, few, length_push h.rows r);
}

-- with room for a key they hold the same
pub few-cover : (s : Shape) (gs : List Group) (n : ℕ) (k : List ℕ) → HoldFewer s gs n → HoldFewer s (cover s.prototypes k gs) n
few-cover s gs n k h = record { rows = h.rows; holds = holds-covered s.prototypes gs h.rows k h.holds; typed = h.typed; few = h.few }

-- groups that others were joined with hold the rows of both
pub few-joined : (s : Shape) (gs others joined : List Group) (rows more : List SpillRow) → AreJoined s.prototypes gs others joined → Holds s.prototypes gs rows → Holds s.prototypes others more
    → AreRows s.key_types s.input_types rows → AreRows s.key_types s.input_types more → length rows + length more < 2 ^ 32 → HoldFewer s joined 0
few-joined s gs others joined rows more are h k typed more_typed few = record {
  rows = rows ++ more;
  holds = (holds-joined s.prototypes gs others joined rows more are h k).0;
  typed = All-append (IsRow s.key_types s.input_types) rows more typed more_typed;
  few = omega (arith, few, length-append rows more);
}

-- What every table keeps, call by call.
use Rattle.std.proofs.Common.{◌≡◌, ℕ, ◌||◌, Bool, true, false, List, [], ◌∷◌, ◌++◌, refl, ap, arith}
use Rattle.std.specs.List.{IsDistinct}
use Rattle.std.specs.Str.{bytes_eq}
use Rattle.std.proofs.lemmas.Cmp.{nat_list_eq_equiv}
use Rattle.std.proofs.lemmas.List.{length_push, map-append}
use Rattle.std.proofs.lemmas.Map.Keys.{IsDistinct-push}
use Rattle.std.proofs.lemmas.List.Elements.{All-cons, All-head, All-push, All-tail}
use Rattle.pipe_columns.specs.declared.any_value.AnyValue.{AnyValue}
use Rattle.pipe_columns.specs.declared.place.Place.{Place}
use Rattle.pipe_running.specs.declared.function.AggregateFunction.{AggregateFunction}
use Rattle.pipe_running.specs.GroupStates.{fresh_states}
use Rattle.pipe_spill.specs.SpillRow.{IsRow}
use Rattle.pipe_spill.specs.declared.spill_row.SpillRow.{SpillRow}
use Rattle.pipe_groups.specs.Groups.{cover, Group, has_rows, is_covered, group_keys, new_group, put, RowlessAreFresh, group_with_row}
use Rattle.pipe_groups.specs.Holds.{HoldFewer}
use Rattle.pipe_groups.specs.Shape.{IsShape, Shape}
use Rattle.pipe_groups.proofs.HoldFacts.{holds-covered, holds-none, holds-row}
use Rattle.pipe_groups.proofs.PutFacts.{cover-new, cover-there, put-new}
use Rattle.pipe_groups.proofs.ShapeFacts.{shape-takes}
use Rattle.pipe_keyed.specs.Tables.{HasGroups, IsTable, put_row, Table, TakesOne}

module _ (ps : List AggregateFunction) where
  -- what is fresh where a group has no rows
  abbrev IsFresh : Group → Type 0
  IsFresh g = has_rows g ≡ false → g.states ≡ fresh_states ps

  -- ---- room for a key

  -- a key behind others that don't have it leaves them apart
  pub apart-pushed : (gs : List Group) (g : Group) → IsDistinct bytes_eq (group_keys gs) → is_covered g.key gs ≡ false → IsDistinct bytes_eq (group_keys (gs ++ g ∷ []))
  apart-pushed gs g apart absent =
      rw (map-append (λ (x : Group). x.key) gs (g ∷ [])) (IsDistinct-push nat_list_eq_equiv (group_keys gs) g.key apart absent)

  module _ (k : List ℕ) where
    apart-covered : (gs : List Group) → IsDistinct bytes_eq (group_keys gs) → IsDistinct bytes_eq (group_keys (cover ps k gs))
    apart-covered gs apart = by (is_covered k gs) refl where
      by : (b : Bool) → is_covered k gs ≡ b → IsDistinct bytes_eq (group_keys (cover ps k gs))
      by true e = rw (cover-there k ps gs e) apart
      by false e = rw (cover-new k ps gs e) (apart-pushed gs (new_group ps k) apart e)

    pub fresh-covered : (gs : List Group) → RowlessAreFresh ps gs → RowlessAreFresh ps (cover ps k gs)
    fresh-covered gs fresh = by (is_covered k gs) refl where
      by : (b : Bool) → is_covered k gs ≡ b → RowlessAreFresh ps (cover ps k gs)
      by true e = rw (cover-there k ps gs e) fresh
      by false e = rw (cover-new k ps gs e) (All-push IsFresh gs (new_group ps k) fresh (λ h. refl))

  -- ---- a row more

  module _ (k : List ℕ) (p : Place) (inputs : List AnyValue) where
    keys-there : (gs : List Group) → is_covered k gs ≡ true → group_keys (put ps k p inputs gs) ≡ group_keys gs
    keys-there [] h = cc
    keys-there (g ∷ gs) h = by (bytes_eq k g.key) refl h (keys-there gs) where
      by : (b : Bool) → bytes_eq k g.key ≡ b → (b || is_covered k gs) ≡ true → (is_covered k gs ≡ true → group_keys (put ps k p inputs gs) ≡ group_keys gs)
          → group_keys (put ps k p inputs (g ∷ gs)) ≡ group_keys (g ∷ gs)
      by true e h rest = rw e refl
      by false e h rest = rw e (ap (λ (ks : List (List ℕ)). g.key ∷ ks) (rest h))

    apart-put : (gs : List Group) → IsDistinct bytes_eq (group_keys gs) → IsDistinct bytes_eq (group_keys (put ps k p inputs gs))
    apart-put gs apart = by (is_covered k gs) refl where
      by : (b : Bool) → is_covered k gs ≡ b → IsDistinct bytes_eq (group_keys (put ps k p inputs gs))
      by true e = rw (keys-there gs e) apart
      by false e = rw (put-new k ps p inputs gs e) (apart-pushed gs (group_with_row p inputs (new_group ps k)) apart e)

    fresh-put : (gs : List Group) → RowlessAreFresh ps gs → RowlessAreFresh ps (put ps k p inputs gs)
    fresh-put [] fresh = All-push IsFresh [] (group_with_row p inputs (new_group ps k)) fresh (λ h. absurd (cc))
    fresh-put (g ∷ gs) fresh = by (bytes_eq k g.key) refl (fresh-put gs (All-tail IsFresh g gs fresh)) where
      by : (b : Bool) → bytes_eq k g.key ≡ b → RowlessAreFresh ps (put ps k p inputs gs) → RowlessAreFresh ps (put ps k p inputs (g ∷ gs))
      by true e rest = rw e (All-cons IsFresh (group_with_row p inputs g) gs (λ h. absurd (cc)) (All-tail IsFresh g gs fresh))
      by false e rest = rw e (All-cons IsFresh g (put ps k p inputs gs) (All-head IsFresh g gs fresh) rest)

-- ---- tables

-- a table of no groups
pub table-none : (t : Table) → IsShape t.shape → t.groups ≡ [] → IsTable t
unfolding IsDistinct
table-none t shape e = record {
  shape = shape;
  apart = rw e tt;
  fresh = rw e (λ i d l. absurd (omega arith));
  rows = rw e (record { rows = []; holds = holds-none t.shape.prototypes; typed = λ i d l. absurd (omega arith); few = omega arith });
}

-- with room for a key a table is one, and takes as many more rows
pub fewer-covered : (s : Shape) (gs : List Group) (k : List ℕ) (more : ℕ) → HoldFewer s gs more → HoldFewer s (cover s.prototypes k gs) more
fewer-covered s gs k more h = record {
  rows = h.rows;
  holds = holds-covered s.prototypes gs h.rows k h.holds;
  typed = h.typed;
  few = h.few;
}

pub table-covered : (t u : Table) (k : List ℕ) → IsTable t → HasGroups t u (cover t.shape.prototypes k t.groups) → IsTable u
table-covered t u k is new = record {
  shape = rw new.1 is.shape;
  apart = rw new.0 (apart-covered t.shape.prototypes k t.groups is.apart);
  fresh = rw (new.0, new.1) (fresh-covered t.shape.prototypes k t.groups is.fresh);
  rows = rw (new.0, new.1) (fewer-covered t.shape t.groups k 0 is.rows);
}

-- with one more row it is one, where there was room for it
pub fewer-put : (s : Shape) (gs : List Group) (r : SpillRow) → IsShape s → IsRow s.key_types s.input_types r → RowlessAreFresh s.prototypes gs → HoldFewer s gs 1
    → HoldFewer s (put s.prototypes r.key r.place r.values gs) 0
fewer-put s gs r shape typed fresh h = record {
  rows = h.rows ++ r ∷ [];
  holds = holds-row s.prototypes gs h.rows r (shape-takes s r.values shape typed.inputs.of_types) fresh h.holds;
  typed = All-push (IsRow s.key_types s.input_types) h.rows r h.typed typed;
  few = omega (arith, h.few, length_push h.rows r);
}

pub table-put : (t u : Table) (r : SpillRow) → IsTable t → TakesOne t → IsRow t.shape.key_types t.shape.input_types r → HasGroups t u (put_row t r) → IsTable u
table-put t u r is few typed new = record {
  shape = rw new.1 is.shape;
  apart = rw new.0 (apart-put t.shape.prototypes r.key r.place r.values t.groups is.apart);
  fresh = rw (new.0, new.1) (fresh-put t.shape.prototypes r.key r.place r.values t.groups is.fresh);
  rows = rw (new.0, new.1) (fewer-put t.shape t.groups r is.shape typed is.fresh few);
}

-- as it was it is one
pub table-same : (t u : Table) → IsTable t → HasGroups t u t.groups → IsTable u
table-same t u is new = record {
  shape = rw new.1 is.shape;
  apart = rw new.0 is.apart;
  fresh = rw (new.0, new.1) is.fresh;
  rows = rw (new.0, new.1) is.rows;
}

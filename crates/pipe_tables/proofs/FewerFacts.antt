-- Room for more rows, which is less with each that is taken.
use Rattle.std.proofs.Common.{◌≡◌, ◌∙◌, ℕ, ◌+◌, ◌<◌, ◌≤◌, ◌^◌, List, [], ◌∷◌, ◌++◌, refl, arith}
use Rattle.std.specs.Prelude.{◌≢◌}
use Rattle.std.proofs.lemmas.List.{length_push}
use Rattle.std.proofs.lemmas.List.Elements.{All-nil, All-push}
use Rattle.pipe_spill.specs.SpillRow.{IsRow}
use Rattle.pipe_spill.specs.declared.spill_row.SpillRow.{SpillRow}
use Rattle.pipe_groups.specs.Groups.{Group}
use Rattle.pipe_groups.specs.Holds.{HoldFewer, Holds}
use Rattle.pipe_groups.specs.Shape.{Shape}
use Rattle.pipe_groups.proofs.HoldFacts.{holds-none}
use Rattle.pipe_tables.specs.declared.insert_end.LentEnd.{LentEnd}
use Rattle.pipe_tables.specs.declared.insert_end.LentEnd.TheVariants as end
use Rattle.pipe_keyed.specs.Tables.{HasGroups, Table}

pub fewer : (s : Shape) (gs : List Group) (more less : ℕ) → less ≤ more → HoldFewer s gs more → HoldFewer s gs less
fewer s gs more less le h = record { rows = h.rows; holds = h.holds; typed = h.typed; few = omega (arith, h.few, le) }

-- of no rows there is room for many
pub fewer_none : (s : Shape) (gs : List Group) (more : ℕ) → gs ≡ [] → more < 2 ^ 32 → HoldFewer s gs more
fewer_none s gs more e lt = rw e (record { rows = []; holds = holds-none s.prototypes; typed = All-nil (IsRow s.key_types s.input_types); few = omega (arith, lt) })

-- so it is where a row may have been taken
pub fewer-inserted : (t u : Table) (r : SpillRow) (e : LentEnd) → IsRow t.shape.key_types t.shape.input_types r
    → (e ≡ end.Done → u.shape ≡ t.shape)
    → (e ≡ end.Done → (taken : List SpillRow) → Holds t.shape.prototypes t.groups taken → Holds t.shape.prototypes u.groups (taken ++ r ∷ []))
    → (e ≢ end.Done → HasGroups t u t.groups) → (more : ℕ) → HoldFewer t.shape t.groups (more + 1) → HoldFewer u.shape u.groups more
fewer-inserted t u r end.Done typed shape holds same more h = rw (shape refl) (record {
  rows = h.rows ++ r ∷ [];
  holds = holds refl h.rows h.holds;
  typed = All-push (IsRow t.shape.key_types t.shape.input_types) h.rows r h.typed typed;
  few = omega (arith, h.few, length_push h.rows r);
})
fewer-inserted t u r end.Overflow typed shape holds same more h =
    let is = same (λ d. absurd (cc)) in
    rw (is.0, is.1) (fewer t.shape t.groups (more + 1) more (omega arith) h)
fewer-inserted t u r end.Memory typed shape holds same more h =
    let is = same (λ d. absurd (cc)) in
    rw (is.0, is.1) (fewer t.shape t.groups (more + 1) more (omega arith) h)

-- ---- inserts one after another

-- a table of the same shape, with room for so many rows less at most
abbrev pub TookFew : Table → Table → ℕ → Type 0
TookFew old now n = (now.shape ≡ old.shape)
    × ((more : ℕ) → HoldFewer old.shape old.groups (more + n) → HoldFewer now.shape now.groups more)

pub took-more : (old now new : Table) (n m : ℕ) → TookFew old now n → TookFew now new m → TookFew old new (n + m)
took-more old now new n m a b = (b.0 ∙ a.0, λ more h. b.1 more (a.1 (more + m) (fewer old.shape old.groups (more + (n + m)) (more + m + n) (omega arith) h)))

pub took-at_most : (old now : Table) (n m : ℕ) → n ≤ m → TookFew old now n → TookFew old now m
took-at_most old now n m le a = (a.0, λ more h. a.1 more (fewer old.shape old.groups (more + m) (more + n) (omega (arith, le)) h))

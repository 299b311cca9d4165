-- Rows that are moved into a table one after another.
use Rattle.std.proofs.Common.{◌≡◌, ◌∙◌, ◌+◌, ◌<◌, ℕ, true, List, [], ◌∷◌, ◌++◌, length, refl, sym, ap, subst, arith, append_assoc, length-append, None, take, get_or}
use Rattle.std.specs.List.{All, list_any}
use Rattle.std.specs.Str.{bytes_eq}
use Rattle.std.proofs.lemmas.Bool.{false≢true}
use Rattle.std.proofs.lemmas.List.{append-nil, take_more}
use Rattle.std.proofs.lemmas.Grind.{flat_map-append}
use Rattle.std.proofs.lemmas.List.Elements.{All-append}
use Rattle.pipe_spill.specs.SpillRow.{AreRows, IsRow, joined_rows, Payload}
use Rattle.pipe_spill.specs.declared.spill_row.SpillRow.{SpillRow}
use Rattle.pipe_groups.specs.Groups.{count_held, Group, held_at, is_covered, group_keys}
use Rattle.pipe_groups.specs.Holds.{HoldFewer, Holds}
use Rattle.pipe_groups.specs.Shape.{Shape}
use Rattle.pipe_groups.proofs.HoldFacts.{holds-same}
use Rattle.pipe_keyed.specs.Tables.{HasGroups, put_row, Table}
use Rattle.pipe_tables.specs.Tables.{cover_rows, is_full, passes}
use Rattle.pipe_global.specs.Moving.{AreCovered, CanMerge, CanTake, HasMoved, KeepsCovered, TookRows}
use Rattle.pipe_global.specs.Refused.{HoldsSame}
use Rattle.pipe_global.proofs.Covering.{all-left, all-right, covered-keep, put-keys, rows-covered, rows-held, rows-keep}

-- no row yet
pub moved-none : (t : Table) (all : List SpillRow) → HasMoved t t all all
moved-none t all = record {
  done = [];
  split = refl;
  taken = record {
    shape = (refl, refl);
    holds = λ held h. subst (Holds t.shape.prototypes t.groups) (sym (append-nil held)) h;
  };
  covered = λ k h. h;
}

-- some more
pub moved-more : (t now new : Table) (all xs rest : List SpillRow) → HasMoved t now all (xs ++ rest) → TookRows now new xs → KeepsCovered now.groups new.groups → HasMoved t new all rest
moved-more t now new all xs rest was more keeps = record {
  done = was.done ++ xs;
  split = was.split ∙ sym (append_assoc was.done xs rest);
  taken = record {
    shape = (more.shape.0 ∙ was.taken.shape.0, more.shape.1 ∙ was.taken.shape.1);
    holds = λ held h.
        let P : Shape → Type 0 = λ s. (held : List SpillRow) → Holds s.prototypes now.groups held → Holds s.prototypes new.groups (held ++ xs) in
        let step : P t.shape = subst P was.taken.shape.0 more.holds in
        subst (Holds t.shape.prototypes new.groups) (append_assoc held was.done xs) (step (held ++ was.done) (was.taken.holds held h));
  };
  covered = λ k h. keeps k (was.covered k h);
}

-- all of them
pub moved-all : (t now : Table) (all : List SpillRow) → HasMoved t now all [] → TookRows t now all
moved-all t now all was =
    let is : was.done ≡ all = sym (append-nil was.done) ∙ sym was.split in
    subst (TookRows t now) is was.taken

-- the next ones can be taken
pub can-next : (t now : Table) (all xs rest : List SpillRow) → CanTake t all → HasMoved t now all (xs ++ rest) → CanTake now xs
can-next t now all xs rest can was =
    let split : all ≡ was.done ++ (xs ++ rest) = was.split in
    let shape : now.shape ≡ t.shape = was.taken.shape.0 in
    let T : SpillRow → Type 0 = IsRow t.shape.key_types t.shape.input_types in
    let C : SpillRow → Type 0 = λ r. is_covered r.key t.groups ≡ true in
    let typed : All T (was.done ++ (xs ++ rest)) = subst (All T) split can.typed in
    let covered : All C (was.done ++ (xs ++ rest)) = subst (All C) split can.covered in
    let first : All T was.done = all-left T was.done (xs ++ rest) typed in
    let next : All T xs = all-left T xs rest (all-right T was.done (xs ++ rest) typed) in
    let long : length all ≡ length was.done + (length xs + length rest) = ap (λ (l : List SpillRow). length l) split ∙ length-append was.done (xs ++ rest) ∙ ap (λ n. length was.done + n) (length-append xs rest) in
    record {
      limit = was.taken.shape.1 ∙ can.limit;
      typed = subst (λ (s : Shape). AreRows s.key_types s.input_types xs) (sym shape) next;
      few = subst (λ (s : Shape). HoldFewer s now.groups (length xs)) (sym shape) (record {
        rows = can.few.rows ++ was.done;
        holds = was.taken.holds can.few.rows can.few.holds;
        typed = All-append T can.few.rows was.done can.few.typed first;
        few = omega (arith, can.few.few, long, length-append can.few.rows was.done);
      });
      covered = covered-keep t.groups now.groups xs was.covered (all-left C xs rest (all-right C was.done (xs ++ rest) covered));
    }

-- ---- one row

-- a row of a covered key leaves the keys
pub put-keeps : (t new : Table) (r : SpillRow) → is_covered r.key t.groups ≡ true → HasGroups t new (put_row t r) → KeepsCovered t.groups new.groups
put-keeps t new r own has k h =
    let keys : group_keys new.groups ≡ group_keys t.groups = ap (λ (gs : List Group). group_keys gs) has.0 ∙ put-keys t.shape.prototypes r.key r.place r.values t.groups own in
    ap (λ (ks : List (List ℕ)). list_any (bytes_eq k) ks) keys ∙ h

-- ---- room for rows

-- no room yet
pub same-none : (t : Table) → HoldsSame t t
same-none t = record { shape = (refl, refl); held = λ k. refl }

-- some more
pub same-more : (t now new : Table) (rows : List SpillRow) → HoldsSame t now → HasGroups now new (cover_rows now.shape.prototypes rows now.groups) → HoldsSame t new
same-more t now new rows was has = record {
  shape = (has.1 ∙ was.shape.0, has.2 ∙ was.shape.1);
  held = λ k. ap (λ (gs : List Group). held_at k gs) has.0 ∙ rows-held now.shape.prototypes rows now.groups k ∙ was.held k;
}

-- and a refusal leaves all
pub same-still : (t now new : Table) → HoldsSame t now → HasGroups now new now.groups → HoldsSame t new
same-still t now new was has = record {
  shape = (has.1 ∙ was.shape.0, has.2 ∙ was.shape.1);
  held = λ k. ap (λ (gs : List Group). held_at k gs) has.0 ∙ was.held k;
}

-- the keys of more rows have room
pub covered-more : (now new : Table) (all rows more : List SpillRow) → AreCovered now.groups all → HasGroups now new (cover_rows now.shape.prototypes rows now.groups) → more ≡ all ++ rows → AreCovered new.groups more
covered-more now new all rows more are has is =
    let ps = now.shape.prototypes in
    let after : List Group = cover_rows ps rows now.groups in
    let C : SpillRow → Type 0 = λ r. is_covered r.key after ≡ true in
    let both : All C (all ++ rows) = All-append C all rows (covered-keep now.groups after all (rows-keep ps rows now.groups) are) (rows-covered ps rows now.groups) in
    subst (λ (gs : List Group). AreCovered gs more) (sym has.0) (subst (All C) (sym is) both)

-- ---- what a merge asks for

-- a table without a limit is never full
pub never-full : (t : Table) → t.limit ≡ None → is_full t ≡ true → ⊥
never-full t limit full = false≢true (sym (ap (λ o. passes (count_held t.groups) o) limit) ∙ full)

-- once there is room, the rows can be taken
pub can-take : (t now : Table) (rows : List SpillRow) → CanMerge t rows → HoldsSame t now → AreCovered now.groups rows → CanTake now rows
can-take t now rows can same covered =
    let shape : now.shape ≡ t.shape = same.shape.0 in
    record {
      limit = same.shape.1 ∙ can.limit;
      typed = subst (λ (s : Shape). AreRows s.key_types s.input_types rows) (sym shape) can.typed;
      few = subst (λ (s : Shape). HoldFewer s now.groups (length rows)) (sym shape) (record {
        rows = can.few.rows;
        holds = holds-same t.shape.prototypes t.groups now.groups can.few.rows same.held can.few.holds;
        typed = can.few.typed;
        few = can.few.few;
      });
      covered = covered;
    }

-- the rows of one payload more
pub joined-more : (payloads : List Payload) (i : ℕ) (p : Payload) → i < length payloads → p ≡ get_or payloads i p → joined_rows (take (i + 1) payloads) ≡ joined_rows (take i payloads) ++ p.rows
joined-more payloads i p lt is =
    ap joined_rows (take_more payloads i p lt ∙ ap (λ (x : Payload). take i payloads ++ x ∷ []) (sym is))
    ∙ flat_map-append (λ (x : Payload). x.rows) (take i payloads) (p ∷ [])
    ∙ ap (λ (l : List SpillRow). joined_rows (take i payloads) ++ l) (append-nil p.rows)

-- rows that are moved in behind room for them
pub took-after : (t now new : Table) (rows : List SpillRow) → HoldsSame t now → TookRows now new rows → TookRows t new rows
took-after t now new rows same took = record {
  shape = (took.shape.0 ∙ same.shape.0, took.shape.1 ∙ same.shape.1);
  holds = λ held h.
      let P : Shape → Type 0 = λ s. (held : List SpillRow) → Holds s.prototypes now.groups held → Holds s.prototypes new.groups (held ++ rows) in
      let step : P t.shape = subst P same.shape.0 took.holds in
      step held (holds-same t.shape.prototypes t.groups now.groups held same.held h);
}

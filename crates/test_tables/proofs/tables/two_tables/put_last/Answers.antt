use Rattle.std.proofs.Common.{◌≡◌, Bool, true, false, List, [], ◌∷◌, ◌++◌, length, refl, sym, ap, subst, arith}
use Rattle.std.specs.Prelude.{All, if◌then◌else◌}
use Rattle.std.proofs.lemmas.List.{get_or_push, length_push}
use Rattle.std.proofs.lemmas.List.Elements.{All-push, All-take}
use Rattle.pipe_spill.specs.SpillRow.{AreRows, IsRow}
use Rattle.pipe_spill.specs.declared.spill_row.SpillRow.{SpillRow}
use Rattle.test_tables.proofs.tables.two_tables.put_last.Goals as goal

-- what holds of all holds of the last
last-row : (P : SpillRow → Type 0) (rows : List SpillRow) (r : SpillRow) → All P (rows ++ r ∷ []) → P r
last-row P rows r h = subst P (get_or_push rows r r (length rows) refl) (h (length rows) r (omega (arith, length_push rows r)))

-- a row that may be put back
put-back : (P : SpillRow → Type 0) (b : Bool) (rows : List SpillRow) (r : SpillRow) → All P rows → P r → All P (if b then rows ++ r ∷ [] else rows)
put-back P true rows r all h = All-push P rows r all h
put-back P false rows r all h = all

pub returns-in-Done-clause-few : goal.returns-in-Done-clause-few
returns-in-Done-clause-few c = λ more h.
    let s = c.args.table.now.shape in
    let row = c.in-Some.row in
    let left : List SpillRow = c.pop.new.self.items in
    let own : IsRow s.key_types s.input_types row = last-row (IsRow s.key_types s.input_types) left row (subst (AreRows s.key_types s.input_types) c.in-Some.ensures.items c.requires.typed) in
    record {
      rows = h.rows ++ row ∷ [];
      holds = c.in-Done.ensures.holds refl h.rows h.holds;
      typed = All-push (IsRow s.key_types s.input_types) h.rows row h.typed own;
      few = omega (arith, h.few, length_push h.rows row, ap (λ (rows : List SpillRow). length rows) c.in-Some.ensures.items, length_push left row);
    }

pub returns-in-Overflow-clause-typed : goal.returns-in-Overflow-clause-typed
returns-in-Overflow-clause-typed c =
    let s = c.args.table.now.shape in
    subst (AreRows s.key_types s.input_types) (sym c.in-Some.ensures.rest) (All-take (IsRow s.key_types s.input_types) _ c.args.rows.now.items c.requires.typed)

pub returns-clause-typed : goal.returns-clause-typed
returns-clause-typed c =
    let s = c.args.table.now.shape in
    let own = IsRow s.key_types s.input_types in
    let row = c.in-Some.row in
    let left : List SpillRow = c.pop.new.self.items in
    let all : AreRows s.key_types s.input_types left = subst (AreRows s.key_types s.input_types) (sym c.in-Some.ensures.rest) (All-take own _ c.args.rows.now.items c.requires.typed) in
    let last : own row = last-row own left row (subst (AreRows s.key_types s.input_types) c.in-Some.ensures.items c.requires.typed) in
    let same : c.in-Memory.row ≡ row = (c.in-Memory.ensures.others c.in-Memory.row).1 refl in
    subst (AreRows s.key_types s.input_types) (sym c.push.ensures.items) (put-back own _ left c.in-Memory.row all (subst own (sym same) last))

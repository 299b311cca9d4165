-- Rows are taken in one after another at the groups of their keys.
use Rattle.std.proofs.Common.{◌≡◌, ◌∙◌, ◌+◌, ◌<◌, ℕ, suc, List, [], ◌∷◌, ◌++◌, length, take, drop, get_or, set, refl, sym, ap, subst, arith, append_assoc, length-append}
use Rattle.std.specs.List.{All}
use Rattle.std.proofs.Math.Seq.{drop-cons}
use Rattle.std.proofs.lemmas.List.{append-nil, take_more}
use Rattle.std.proofs.lemmas.List.Elements.{All-append, All-cons, All-head, All-nil, All-tail}
use Rattle.pipe_columns.specs.declared.data_type.DataType.{DataType}
use Rattle.pipe_spill.specs.SpillRow.{AreRows, IsRow}
use Rattle.pipe_spill.specs.declared.spill_row.SpillRow.{SpillRow}
use Rattle.pipe_groups.specs.Groups.{Group, group_keys, group_of, group_with_row}
use Rattle.pipe_groups.specs.Holds.{HoldFewer, Holds}
use Rattle.pipe_groups.specs.Shape.{Shape}
use Rattle.pipe_groups.proofs.HoldFacts.{holds-same}
use Rattle.pipe_keyed.specs.Keyed.{IsAt}
use Rattle.pipe_keyed.specs.Tables.{HasGroups, KeepsShape, put_row, Table, TakesOne}
use Rattle.pipe_keyed.proofs.KeyFacts.{keys-set}
use Rattle.pipe_waiting.specs.Waiting.{AreWaiting, IsNext, Left, left_rows, Waiting, waiting_rows}
use Rattle.pipe_tables.specs.Waits.{AreAt, CanTakeAt, HasTakenBut, HoldsAs, rows_waiting, TookAt}
use Rattle.pipe_tables.proofs.InsertFacts.{Inserts, insert-holds}
use Rattle.pipe_tables.proofs.SpotLists.{at-first}

-- ---- parts of a list

all-front : {A : Type 0} (P : A → Type 0) (xs ys : List A) → All P (xs ++ ys) → All P xs
all-front P [] ys all = All-nil P
all-front P (x ∷ xs) ys all = All-cons P x xs (All-head P x (xs ++ ys) all) (all-front P xs ys (All-tail P x (xs ++ ys) all))

all-back : {A : Type 0} (P : A → Type 0) (xs ys : List A) → All P (xs ++ ys) → All P ys
all-back P [] ys all = all
all-back P (x ∷ xs) ys all = all-back P xs ys (All-tail P x (xs ++ ys) all)

-- ---- one row

-- the group of its key is there, as a table keeps it
pub there : (t now : Table) (r : SpillRow) (i : ℕ) → Inserts t now r → IsAt now.groups r.key i → IsAt t.groups r.key i
there t now r i h at = subst (λ (x : Table). IsAt x.groups r.key i) (sym h.view_is) at

-- a row that was put at the group of its key leaves the keys
pub took-one : (t now u : Table) (r : SpillRow) (h : Inserts t now r) (i : ℕ) → HasGroups t u (put_row t r)
    → u.groups ≡ set t.groups i (group_with_row r.place r.values (group_of t.groups i)) → TookAt now u (r ∷ [])
took-one t now u r h i put is = subst (λ (x : Table). TookAt x u (r ∷ [])) h.view_is (record {
  shape = (put.1, put.2);
  keys = ap (λ (gs : List Group). group_keys gs) is ∙ keys-set t.groups i (group_with_row r.place r.values (group_of t.groups i)) refl;
  holds = subst (λ (x : Table). (held : List SpillRow) → Holds x.shape.prototypes x.groups held → Holds x.shape.prototypes u.groups (held ++ r ∷ [])) (sym h.view_is) (insert-holds t now r h u put);
})

-- ---- one after another

-- no row yet
pub taken-none : (t : Table) (all : List SpillRow) → HasTakenBut t t all all
taken-none t all = record {
  done = [];
  split = refl;
  took = record {
    shape = (refl, refl);
    keys = refl;
    holds = λ held h. subst (Holds t.shape.prototypes t.groups) (sym (append-nil held)) h;
  };
}

-- some more
pub taken-more : (t now new : Table) (all xs rest : List SpillRow) → HasTakenBut t now all (xs ++ rest) → TookAt now new xs → HasTakenBut t new all rest
taken-more t now new all xs rest was more = record {
  done = was.done ++ xs;
  split = was.split ∙ sym (append_assoc was.done xs rest);
  took = record {
    shape = (more.shape.0 ∙ was.took.shape.0, more.shape.1 ∙ was.took.shape.1);
    keys = more.keys ∙ was.took.keys;
    holds = λ held h.
        let P : Shape → Type 0 = λ s. (held : List SpillRow) → Holds s.prototypes now.groups held → Holds s.prototypes new.groups (held ++ xs) in
        let step : P t.shape = subst P was.took.shape.0 more.holds in
        subst (Holds t.shape.prototypes new.groups) (append_assoc held was.done xs) (step (held ++ was.done) (was.took.holds held h));
  };
}

-- all of them
pub taken-all : (t now : Table) (all rest : List SpillRow) → HasTakenBut t now all rest → rest ≡ [] → TookAt t now all
taken-all t now all rest was none =
    let is : was.done ≡ all = sym (append-nil was.done) ∙ ap (λ (l : List SpillRow). was.done ++ l) (sym none) ∙ sym was.split in
    subst (TookAt t now) is was.took

-- the next ones can be taken at their spots
pub next-can : (t now : Table) (all xs rest : List SpillRow) (spots own : List ℕ) → CanTakeAt t all spots → HasTakenBut t now all (xs ++ rest)
    → AreAt (group_keys t.groups) xs own → CanTakeAt now xs own
next-can t now all xs rest spots own can was at =
    let split : all ≡ was.done ++ (xs ++ rest) = was.split in
    let shape : now.shape ≡ t.shape = was.took.shape.0 in
    let T : SpillRow → Type 0 = IsRow t.shape.key_types t.shape.input_types in
    let typed : All T (was.done ++ (xs ++ rest)) = subst (All T) split can.typed in
    let next : All T xs = all-front T xs rest (all-back T was.done (xs ++ rest) typed) in
    let long : length all ≡ length was.done + (length xs + length rest) = ap (λ (l : List SpillRow). length l) split ∙ length-append was.done (xs ++ rest) ∙ ap (λ n. length was.done + n) (length-append xs rest) in
    record {
      typed = subst (λ (s : Shape). AreRows s.key_types s.input_types xs) (sym shape) next;
      few = subst (λ (s : Shape). HoldFewer s now.groups (length xs)) (sym shape) (record {
        rows = can.few.rows ++ was.done;
        holds = was.took.holds can.few.rows can.few.holds;
        typed = All-append T can.few.rows was.done can.few.typed (all-front T was.done (xs ++ rest) typed);
        few = omega (arith, can.few.few, long, length-append can.few.rows was.done);
      });
      at = subst (λ (keys : List (List ℕ)). AreAt keys xs own) (sym was.took.keys) at;
    }

-- the next row of those that are lent, and its spot
module _ (t now : Table) (all : List SpillRow) (begun spots rest : List ℕ) (before after : Left) (r : SpillRow) (i : ℕ) (can : CanTakeAt t all begun)
    (took : HasTakenBut t now all (left_rows t.shape.input_types before)) (next : IsNext t.shape.input_types r before after) (is : spots ≡ i ∷ rest)
    (at : AreAt (group_keys t.groups) (left_rows t.shape.input_types before) spots) where
  abbrev later : List SpillRow
  later = left_rows t.shape.input_types after

  next-took : HasTakenBut t now all (r ∷ later)
  next-took = subst (HasTakenBut t now all) next.rows took

  next-at : AreAt (group_keys t.groups) (r ∷ later) (i ∷ rest)
  next-at = subst (λ (l : List SpillRow). AreAt (group_keys t.groups) l (i ∷ rest)) next.rows (subst (AreAt (group_keys t.groups) (left_rows t.shape.input_types before)) is at)

  -- it can be taken there
  row-can : CanTakeAt now (r ∷ []) (i ∷ [])
  row-can = next-can t now all (r ∷ []) later begun (i ∷ []) can next-took (next-at.0, next-at.1, tt)

  pub row-typed : IsRow now.shape.key_types now.shape.input_types r
  row-typed = All-head (IsRow now.shape.key_types now.shape.input_types) r [] row-can.typed

  pub row-few : TakesOne now
  row-few = row-can.few

  pub row-at : IsAt now.groups r.key i
  row-at = at-first now.groups r [] i [] row-can.at

  -- and then the others are left, with their spots
  pub row-taken : (new : Table) → TookAt now new (r ∷ []) → HasTakenBut t new all later
  row-taken new more = taken-more t now new all (r ∷ []) later next-took more

  pub row-rest : AreAt (group_keys t.groups) later rest
  row-rest = next-at.2

-- ---- behind what was found

-- once the groups are found the rows can be taken
pub found-can : (t now : Table) (rows others : List SpillRow) (spots : List ℕ) → AreRows t.shape.key_types t.shape.input_types rows → HoldFewer t.shape t.groups (length rows)
    → HoldsAs t now → AreAt (group_keys now.groups) rows spots → others ≡ rows → CanTakeAt now others spots
found-can t now rows others spots typed few same at is = subst (λ (l : List SpillRow). CanTakeAt now l spots) (sym is) (record {
  typed = subst (λ (s : Shape). AreRows s.key_types s.input_types rows) (sym same.shape.0) typed;
  few = subst (λ (s : Shape). HoldFewer s now.groups (length rows)) (sym same.shape.0) (record {
    rows = few.rows;
    holds = holds-same t.shape.prototypes t.groups now.groups few.rows same.held few.holds;
    typed = few.typed;
    few = few.few;
  });
  at = at;
})

-- and then they are held
pub found-holds : (t now new : Table) (rows others : List SpillRow) → HoldsAs t now → TookAt now new others → others ≡ rows
    → (held : List SpillRow) → Holds t.shape.prototypes t.groups held → Holds t.shape.prototypes new.groups (held ++ rows)
found-holds t now new rows others same took is held h =
    let P : Shape → Type 0 = λ s. (held : List SpillRow) → Holds s.prototypes now.groups held → Holds s.prototypes new.groups (held ++ others) in
    let step : P t.shape = subst P same.shape.0 took.holds in
    subst (λ (l : List SpillRow). Holds t.shape.prototypes new.groups (held ++ l)) is (step held (holds-same t.shape.prototypes t.groups now.groups held same.held h))

pub found-shape : (t now new : Table) (rows : List SpillRow) → HoldsAs t now → TookAt now new rows → KeepsShape t new
found-shape t now new rows same took = (took.shape.0 ∙ same.shape.0, took.shape.1 ∙ same.shape.1)

-- ---- payload by payload

-- the rows of those so far, and of one more
pub waiting-more : (types : List DataType) (ws : List Waiting) (i : ℕ) (w : Waiting) → i < length ws → w ≡ get_or ws i w → rows_waiting types (take (i + 1) ws) ≡ rows_waiting types (take i ws) ++ waiting_rows types w
waiting-more types ws i w lt is =
    ap (rows_waiting types) (take_more ws i w lt ∙ ap (λ (x : Waiting). take i ws ++ x ∷ []) (sym is))
    ∙ joined-behind (take i ws) (w ∷ [])
    ∙ ap (λ (l : List SpillRow). rows_waiting types (take i ws) ++ l) (append-nil (waiting_rows types w))
  where
    joined-behind : (xs ys : List Waiting) → rows_waiting types (xs ++ ys) ≡ rows_waiting types xs ++ rows_waiting types ys
    joined-behind [] ys = refl
    joined-behind (x ∷ xs) ys = ap (λ (l : List SpillRow). waiting_rows types x ++ l) (joined-behind xs ys) ∙ sym (append_assoc (waiting_rows types x) (rows_waiting types xs) (rows_waiting types ys))

-- one that waits is as all are
pub one-waits : (types : List DataType) (ws : List Waiting) (i : ℕ) (w : Waiting) → i < length ws → w ≡ get_or ws i w → All (AreWaiting types) ws → AreWaiting types w
one-waits types ws i w lt is all = subst (AreWaiting types) (sym is) (all i w lt)

-- of those that are left, the first of them one's own
pub waiting-next : (types : List DataType) (ws : List Waiting) (i : ℕ) (w : Waiting) → i < length ws → w ≡ get_or ws i w → rows_waiting types (drop i ws) ≡ waiting_rows types w ++ rows_waiting types (drop (i + 1) ws)
waiting-next types ws i w lt is =
    let one : suc i ≡ i + 1 = omega arith in
    let next : drop i ws ≡ w ∷ drop (i + 1) ws = drop-cons ws i w lt ∙ ap (λ (x : Waiting). x ∷ drop (suc i) ws) (sym is) ∙ ap (λ n. w ∷ drop n ws) one in
    ap (rows_waiting types) next

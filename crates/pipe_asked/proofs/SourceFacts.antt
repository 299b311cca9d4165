-- What a group source keeps as partitions give their groups.
use Rattle.std.proofs.Common.{◌≡◌, ◌≢◌, ◌∙◌, ◌+◌, ◌%◌, ◌<◌, ◌≤◌, ℕ, Bool, true, false, not, List, [], ◌∷◌, ◌++◌, length, refl, sym, ap, subst, arith, cond, Option, None, ◌⊎◌, inl, inr}
use Rattle.std.specs.Prelude.{if◌then◌else◌}
use Rattle.std.specs.List.{filter, slice_index_or, slice_set}
use Rattle.std.specs.List.Sorted.{IsPermutation}
use Rattle.std.proofs.lemmas.Bool.{cases_eq, eqb-true, false≢true, ne_eqb}
use Rattle.std.proofs.lemmas.Grind.{get_or-set_at}
use Rattle.std.proofs.lemmas.List.{append-nil, get_or_default, get_or-set_other, length-set}
use Rattle.std.proofs.lemmas.List.Elements.{All-filter}
use Rattle.pipe_columns.specs.Row.{Row}
use Rattle.pipe_columns.specs.Key.{fold_bytes}
use Rattle.pipe_model.specs.Partitions.{rows_in}
use Rattle.pipe_model.specs.Query.{QueryTree}
use Rattle.pipe_spill.specs.SpillRow.{IsRow}
use Rattle.pipe_spill.specs.declared.spill_row.SpillRow.{SpillRow}
use Rattle.pipe_groups.specs.Groups.{held_at}
use Rattle.pipe_aggs.specs.QueryTrees.{query_tree}
use Rattle.pipe_groups.specs.Holds.{Holds}
use Rattle.pipe_groups.specs.Shape.{shape_of}
use Rattle.pipe_groups.proofs.HoldFacts.{holds-part, holds-same}
use Rattle.pipe_keyed.specs.Tables.{Table}
use Rattle.pipe_tables.specs.Tables.{lies_in}
use Rattle.pipe_global.specs.declared.batch_error.BatchError.{BatchError}
use Rattle.pipe_global.specs.Finishing.{CanFinish, CanGather, HasNoFault, IsCause, IsLeftOf, IsRestOf, KeepsRest, other_rows, own_rows, StandAsBefore, StandFor, StandMoved, StandsForRows, StandTogether}
use Rattle.pipe_global.specs.Partition.{PartitionSeen, spilled_all}
use Rattle.pipe_global.proofs.RunFacts.{length-kept}
use Rattle.pipe_asked.specs.Left.{CountOn}
use Rattle.pipe_asked.specs.Given.{HasRows, IsAt, IsSource, KeepsSource, SourceSeen, StandsForPart, StandsForParts}

-- ---- a local table without the rows of a partition

module _ (s : PartitionSeen) (local new : Table) (is : IsRestOf s local new) where
  abbrev lies : List ℕ → Bool
  lies k = not (lies_in s.partitions s.number k)

  at : (k : List ℕ) → held_at k new.groups ≡ (if lies k then held_at k local.groups else None)
  at k = is.held k ∙ by (lies_in s.partitions s.number k) where
    by : (b : Bool) → (if b then None else held_at k local.groups) ≡ (if not b then held_at k local.groups else None)
    by true = refl
    by false = refl

  -- it holds the others
  pub rest-holds : (locals : List SpillRow) → Holds s.table.shape.prototypes local.groups locals → Holds s.table.shape.prototypes new.groups (other_rows s locals)
  rest-holds locals holds = holds-part lies s.table.shape.prototypes local.groups new.groups locals at holds

-- ---- other partitions can still give their groups

pub fewer : (x : PartitionSeen) (n m : ℕ) → m ≤ n → CanGather x n → CanGather x m
fewer x n m le can = record {
  exists = can.exists;
  limit = can.limit;
  few = record { rows = can.few.rows; holds = can.few.holds; own = can.few.own; few = omega (arith, le, can.few.few) };
  waiting = can.waiting;
  numbers = can.numbers;
  marked = can.marked;
}

pub others-can : (s x : PartitionSeen) (local new : Table) → x.table.shape ≡ s.table.shape → IsRestOf s local new → CanFinish x local → CanFinish x new
others-can s x local new same is can = record {
  shape = is.shape.0 ∙ can.shape;
  locals = other_rows s can.locals;
  holds = subst (λ sh. Holds sh.prototypes new.groups (other_rows s can.locals)) (sym same) (rest-holds s local new is can.locals (subst (λ sh. Holds sh.prototypes local.groups can.locals) same can.holds));
  typed = All-filter (λ r. not (lies_in s.partitions s.number r.key)) (IsRow x.table.shape.key_types x.table.shape.input_types) can.locals can.typed;
  gathers = fewer x (length can.locals) (length (other_rows s can.locals)) (length-kept (λ r. not (lies_in s.partitions s.number r.key)) can.locals) can.gathers;
}

-- ---- rows of one partition and of another

-- a key lies in one partition
one-place : (n p q : ℕ) (k : List ℕ) → p ≢ q → lies_in n q k ≡ true → lies_in n p k ≡ false
one-place n p q k apart lies = ne_eqb (fold_bytes k % n) p (λ e. apart (sym e ∙ eqb-true (fold_bytes k % n) q lies))

-- rows without those of one partition have all of another
own-others : (s x : PartitionSeen) (locals : List SpillRow) → x.partitions ≡ s.partitions → s.number ≢ x.number → own_rows x (other_rows s locals) ≡ own_rows x locals
own-others s x [] same apart = refl
own-others s x (r ∷ locals) same apart = by (lies_in s.partitions s.number r.key) (lies_in x.partitions x.number r.key) refl refl (own-others s x locals same apart) where
  by : (a b : Bool) → lies_in s.partitions s.number r.key ≡ a → lies_in x.partitions x.number r.key ≡ b → own_rows x (other_rows s locals) ≡ own_rows x locals
      → own_rows x (cond (not a) (r ∷ other_rows s locals) (other_rows s locals)) ≡ cond b (r ∷ own_rows x locals) (own_rows x locals)
  by true true here there rest = absurd (false≢true (sym (one-place s.partitions s.number x.number r.key apart (ap (λ n. lies_in n x.number r.key) (sym same) ∙ there)) ∙ here))
  by true false here there rest = rest
  by false true here there rest = ap (λ (b : Bool). cond b (r ∷ own_rows x (other_rows s locals)) (own_rows x (other_rows s locals))) there ∙ ap (λ (l : List SpillRow). r ∷ l) rest
  by false false here there rest = ap (λ (b : Bool). cond b (r ∷ own_rows x (other_rows s locals)) (own_rows x (other_rows s locals))) there ∙ rest

-- and none of it
own-none : (s x : PartitionSeen) (locals : List SpillRow) → x.partitions ≡ s.partitions → x.number ≡ s.number → own_rows x (other_rows s locals) ≡ []
own-none s x [] same is = refl
own-none s x (r ∷ locals) same is = by (lies_in s.partitions s.number r.key) refl (own-none s x locals same is) where
  by : (a : Bool) → lies_in s.partitions s.number r.key ≡ a → own_rows x (other_rows s locals) ≡ [] → own_rows x (cond (not a) (r ∷ other_rows s locals) (other_rows s locals)) ≡ []
  by true here rest = rest
  by false here rest = ap (λ (b : Bool). cond b (r ∷ own_rows x (other_rows s locals)) (own_rows x (other_rows s locals))) (ap (λ n. lies_in n x.number r.key) same ∙ ap (λ n. lies_in s.partitions n r.key) is ∙ here) ∙ rest

-- ---- what other partitions stand for

pub part-stays : (q : QueryTree) (rs : List Row) (locals : List SpillRow) (s x : PartitionSeen) → x.partitions ≡ s.partitions → s.number ≢ x.number
    → StandsForPart q rs locals x → StandsForPart q rs (other_rows s locals) x
part-stays q rs locals s x same apart is = record {
  rows = is.rows;
  stands = is.stands;
  all = subst (λ (l : List SpillRow). IsPermutation (is.rows ++ l) (spilled_all q (rows_in x.partitions q x.number rs))) (sym (own-others s x locals same apart)) is.all;
}

-- and the partition itself, once it has the local rows
pub part-moved : (q : QueryTree) (rs : List Row) (locals rows : List SpillRow) (s new : PartitionSeen) → new.partitions ≡ s.partitions → new.number ≡ s.number
    → IsPermutation (rows ++ own_rows s locals) (spilled_all q (rows_in s.partitions q s.number rs))
    → StandsForRows new (rows ++ own_rows s locals) → StandsForPart q rs (other_rows s locals) new
part-moved q rs locals rows s new same is all stands = record {
  rows = rows ++ own_rows s locals;
  stands = stands;
  all = subst (λ (l : List SpillRow). IsPermutation l (spilled_all q (rows_in new.partitions q new.number rs)))
      (sym (ap (λ (l : List SpillRow). (rows ++ own_rows s locals) ++ l) (own-none s new locals same is) ∙ append-nil (rows ++ own_rows s locals)))
      (subst (λ n. IsPermutation (rows ++ own_rows s locals) (spilled_all q (rows_in new.partitions q n rs))) (sym is)
      (subst (λ n. IsPermutation (rows ++ own_rows s locals) (spilled_all q (rows_in n q s.number rs))) (sym same) all));
}

-- ---- a source whose next partition was asked

-- the source with the partition as it is then
abbrev pub asked : SourceSeen → PartitionSeen → Table → Option (ℕ × ℕ) → ℕ → SourceSeen
asked s y local slice given = record {
  query = s.query;
  partitions = slice_set s.partitions s.given y;
  local = local;
  slice = slice;
  given = given;
}

-- a partition that wasn't asked is as before
pub keeps-itself : (x : PartitionSeen) → KeepsRest x x
keeps-itself x = record {
  shape = (refl, refl);
  store = record { told = refl; held = refl; sure = refl; path = refl; faults = omega arith };
  others = refl;
}

-- nor has its store failed; and where that of the one that was asked hasn't, none has
pub calm-asked : (s : SourceSeen) (y : PartitionSeen) → s.given < length s.partitions → HasNoFault (slice_index_or s.partitions s.given y) y → CountOn s.partitions (slice_set s.partitions s.given y)
calm-asked s y lt calm p d below = by (cases_eq p s.given) where
  by : (p ≡ s.given) ⊎ (p ≢ s.given) → (slice_index_or (slice_set s.partitions s.given y) p d).store.faults ≡ (slice_index_or s.partitions p d).store.faults
  by (inl e) =
      ap (λ (x : PartitionSeen). x.store.faults) (get_or-set_at s.partitions s.given p y d e lt) ∙ calm
      ∙ ap (λ (x : PartitionSeen). x.store.faults) (ap (λ k. slice_index_or s.partitions k y) (sym e) ∙ get_or_default s.partitions p y d below)
  by (inr apart) = ap (λ (x : PartitionSeen). x.store.faults) (get_or-set_other s.partitions s.given p y d apart)

-- the query stays, and the other partitions
pub keeps-asked : (s : SourceSeen) (y : PartitionSeen) (local : Table) (slice : Option (ℕ × ℕ)) (given : ℕ) → s.given < length s.partitions → KeepsRest (slice_index_or s.partitions s.given y) y
    → KeepsSource s (asked s y local slice given) given
keeps-asked s y local slice given lt kept = record {
  query = refl;
  partitions = record { count = length-set s.partitions s.given y; each = λ p d below. one p d below (cases_eq p s.given) };
  others = λ p d apart. get_or-set_other s.partitions s.given p y d apart;
  given_is = refl;
} where
  one : (p : ℕ) (d : PartitionSeen) → p < length s.partitions → (p ≡ s.given) ⊎ (p ≢ s.given) → KeepsRest (slice_index_or s.partitions p d) (slice_index_or (slice_set s.partitions s.given y) p d)
  one p d below (inl e) =
      subst (KeepsRest (slice_index_or s.partitions p d)) (sym (get_or-set_at s.partitions s.given p y d e lt))
      (subst (λ (x : PartitionSeen). KeepsRest x y) (ap (λ k. slice_index_or s.partitions k y) (sym e) ∙ get_or_default s.partitions p y d below) kept)
  one p d below (inr apart) = subst (KeepsRest (slice_index_or s.partitions p d)) (sym (get_or-set_other s.partitions s.given p y d apart)) (keeps-itself (slice_index_or s.partitions p d))

module _ (s : SourceSeen) (y : PartitionSeen) (local : Table) (slice : Option (ℕ × ℕ)) (is : IsSource s) (lt : s.given < length s.partitions)
    (kept : KeepsRest (slice_index_or s.partitions s.given y) y) where
  abbrev x : PartitionSeen
  x = slice_index_or s.partitions s.given y

  x-at : IsAt s s.given x
  x-at = is.each s.given y lt

  number : y.number ≡ x.number
  number = ap (λ (z : PartitionSeen). z.number) kept.others

  parts : y.partitions ≡ x.partitions
  parts = ap (λ (z : PartitionSeen). z.partitions) kept.others

  long : length (slice_set s.partitions s.given y) ≡ length s.partitions
  long = length-set s.partitions s.given y

  -- another partition is as before, and is another one
  other : (p : ℕ) (d : PartitionSeen) → p ≢ s.given → slice_index_or (slice_set s.partitions s.given y) p d ≡ slice_index_or s.partitions p d
  other p d apart = get_or-set_other s.partitions s.given p y d apart

  same : (p : ℕ) (d : PartitionSeen) → p ≡ s.given → slice_index_or (slice_set s.partitions s.given y) p d ≡ y
  same p d e = get_or-set_at s.partitions s.given p y d e lt

  -- where each can give its groups still, it is a source
  source : (given : ℕ) → given ≤ length s.partitions → (given ≤ s.given → CanFinish y local)
      → ((p : ℕ) (z : PartitionSeen) → p ≢ s.given → given ≤ p → p < length s.partitions → IsAt s p z → CanFinish z local) → IsSource (asked s y local slice given)
  source given le mine others = record {
    groupable = is.groupable;
    given = omega (arith, le, long);
    few = omega (arith, is.few, long);
    each = λ p d below. one p d (omega (arith, below, long)) (cases_eq p s.given);
  } where
    one : (p : ℕ) (d : PartitionSeen) → p < length s.partitions → (p ≡ s.given) ⊎ (p ≢ s.given) → IsAt (asked s y local slice given) p (slice_index_or (slice_set s.partitions s.given y) p d)
    one p d below (inl e) = subst (IsAt (asked s y local slice given) p) (sym (same p d e)) (record {
      number = number ∙ x-at.number ∙ sym e;
      partitions = parts ∙ x-at.partitions ∙ sym long;
      shape = kept.shape.0 ∙ x-at.shape;
      can = λ from. mine (omega (arith, from, e));
    })
    one p d below (inr apart) =
        let at = is.each p d below in
        subst (IsAt (asked s y local slice given) p) (sym (other p d apart)) (record {
          number = at.number;
          partitions = at.partitions ∙ sym long;
          shape = at.shape;
          can = λ from. others p (slice_index_or s.partitions p d) apart from below at;
        })

  -- another partition is of the same shape
  shapes : (p : ℕ) (z : PartitionSeen) → IsAt s p z → z.table.shape ≡ x.table.shape
  shapes p z at = at.shape ∙ sym x-at.shape

  -- once the partition was given, the others can still give their groups
  pub given-source : IsRestOf x s.local local → IsSource (asked s y local slice (s.given + 1))
  given-source rest = source (s.given + 1) (omega (arith, lt)) (λ below. absurd (omega (arith, below)))
      (λ p z apart from below at. others-can x z s.local local (shapes p z at) rest (at.can (omega (arith, from))))

  -- and where it was refused, all can
  pub refused-source : CanFinish y local → IsLeftOf x s.local local → IsSource (asked s y local slice s.given)
  refused-source can left = source s.given is.given (λ from. can) (λ p z apart from below at. by z (shapes p z at) (at.can from) left) where
    by : (z : PartitionSeen) → z.table.shape ≡ x.table.shape → CanFinish z s.local → IsLeftOf x s.local local → CanFinish z local
    by z shape can (inl same) = record {
      shape = same.shape.0 ∙ can.shape;
      locals = can.locals;
      holds = holds-same z.table.shape.prototypes s.local.groups local.groups can.locals same.held can.holds;
      typed = can.typed;
      gathers = can.gathers;
    }
    by z shape can (inr rest) = others-can x z s.local local shape rest can

  -- ---- what it stands for

  module _ (rs : List Row) (stands : StandsForParts rs s) where
    abbrev q : QueryTree
    q = query_tree s.query

    abbrev pub mine : StandsForPart q rs stands.locals x
    mine = stands.parts s.given y (omega arith) lt

    holds : Holds x.table.shape.prototypes s.local.groups stands.locals
    holds = subst (λ sh. Holds sh.prototypes s.local.groups stands.locals) (sym x-at.shape) stands.holds

    apart-from : (p : ℕ) (d : PartitionSeen) → p ≢ s.given → p < length s.partitions → x.number ≢ (slice_index_or s.partitions p d).number
    apart-from p d apart below e = apart (sym (is.each p d below).number ∙ sym e ∙ x-at.number)

    parts-alike : (p : ℕ) (d : PartitionSeen) → p < length s.partitions → (slice_index_or s.partitions p d).partitions ≡ x.partitions
    parts-alike p d below = (is.each p d below).partitions ∙ sym x-at.partitions

    -- the others, without the local rows of the partition
    moved-others : (p : ℕ) (d : PartitionSeen) → p ≢ s.given → s.given ≤ p → p < length s.partitions → StandsForPart q rs (other_rows x stands.locals) (slice_index_or (slice_set s.partitions s.given y) p d)
    moved-others p d apart from below =
        subst (StandsForPart q rs (other_rows x stands.locals)) (sym (other p d apart))
        (part-stays q rs stands.locals x (slice_index_or s.partitions p d) (parts-alike p d below) (apart-from p d apart below) (stands.parts p d from below))

    rest-stands : IsRestOf x s.local local → Holds (shape_of q).prototypes local.groups (other_rows x stands.locals)
    rest-stands rest = subst (λ sh. Holds sh.prototypes local.groups (other_rows x stands.locals)) x-at.shape (rest-holds x s.local local rest stands.locals holds)

    -- once the partition was given, it stands for the parts of the others
    pub given-stands : IsRestOf x s.local local → StandsForParts rs (asked s y local slice (s.given + 1))
    given-stands rest = record {
      locals = other_rows x stands.locals;
      holds = rest-stands rest;
      parts = λ p d from below. moved-others p d (λ e. absurd (omega (arith, from, e))) (omega (arith, from)) (omega (arith, below, long));
    }

    pub both : StandFor x s.local mine.rows stands.locals
    both = record { stands = mine.stands; holds = holds }

    -- where it was refused, and all is as before
    kept-stands : StandAsBefore x y s.local local → StandsForParts rs (asked s y local slice s.given)
    kept-stands stay =
        let after = stay mine.rows stands.locals both in
        record {
          locals = stands.locals;
          holds = subst (λ sh. Holds sh.prototypes local.groups stands.locals) (kept.shape.0 ∙ x-at.shape) after.holds;
          parts = λ p d from below. by p d from (omega (arith, below, long)) after (cases_eq p s.given);
        }
      where
        own-alike : (locals : List SpillRow) → own_rows x locals ≡ own_rows y locals
        own-alike locals = ap (λ n. filter (λ (r : SpillRow). lies_in n x.number r.key) locals) (sym parts) ∙ ap (λ m. filter (λ (r : SpillRow). lies_in y.partitions m r.key) locals) (sym number)

        by : (p : ℕ) (d : PartitionSeen) → s.given ≤ p → p < length s.partitions → StandFor y local mine.rows stands.locals → (p ≡ s.given) ⊎ (p ≢ s.given)
            → StandsForPart q rs stands.locals (slice_index_or (slice_set s.partitions s.given y) p d)
        by p d from below after (inl e) = subst (StandsForPart q rs stands.locals) (sym (same p d e)) (record {
          rows = mine.rows;
          stands = after.stands;
          all = subst (λ n. IsPermutation (mine.rows ++ own_rows y stands.locals) (spilled_all q (rows_in n q y.number rs))) (sym parts)
              (subst (λ m. IsPermutation (mine.rows ++ own_rows y stands.locals) (spilled_all q (rows_in x.partitions q m rs))) (sym number)
              (subst (λ (l : List SpillRow). IsPermutation (mine.rows ++ l) (spilled_all q (rows_in x.partitions q x.number rs))) (own-alike stands.locals) mine.all));
        })
        by p d from below after (inr apart) = subst (StandsForPart q rs stands.locals) (sym (other p d apart)) (stands.parts p d from below)

    -- or where the local rows of the partition are its own
    moved-stands : StandMoved x y s.local local → StandsForParts rs (asked s y local slice s.given)
    moved-stands moved =
        let after = moved mine.rows stands.locals both in
        record {
          locals = other_rows x stands.locals;
          holds = subst (λ sh. Holds sh.prototypes local.groups (other_rows x stands.locals)) (kept.shape.0 ∙ x-at.shape) after.holds;
          parts = λ p d from below. by p d from (omega (arith, below, long)) after (cases_eq p s.given);
        }
      where
        by : (p : ℕ) (d : PartitionSeen) → s.given ≤ p → p < length s.partitions → StandFor y local (mine.rows ++ own_rows x stands.locals) (other_rows x stands.locals) → (p ≡ s.given) ⊎ (p ≢ s.given)
            → StandsForPart q rs (other_rows x stands.locals) (slice_index_or (slice_set s.partitions s.given y) p d)
        by p d from below after (inl e) = subst (StandsForPart q rs (other_rows x stands.locals)) (sym (same p d e)) (part-moved q rs stands.locals mine.rows x y parts number mine.all after.stands)
        by p d from below after (inr apart) = moved-others p d apart from below

    -- so a refused call loses no row
    pub refused-stands : StandTogether x y s.local local → StandsForParts rs (asked s y local slice s.given)
    refused-stands (inl stay) = kept-stands stay
    refused-stands (inr moved) = moved-stands moved

  -- and over rows of the query, no place of which stands twice
  pub given-rows : (rs : List Row) → HasRows rs s → IsRestOf x s.local local → HasRows rs (asked s y local slice (s.given + 1))
  given-rows rs rows rest = record { typed = rows.typed; apart = rows.apart; stands = given-stands rs rows.stands rest }

  pub refused-rows : (rs : List Row) → HasRows rs s → StandTogether x y s.local local → HasRows rs (asked s y local slice s.given)
  refused-rows rs rows together = record { typed = rows.typed; apart = rows.apart; stands = refused-stands rs rows.stands together }

-- why the partition gave nothing is told of it where it stands
pub refused-cause : (s : SourceSeen) (y d : PartitionSeen) (e : BatchError) → s.given < length s.partitions → IsCause (slice_index_or s.partitions s.given y) y e
    → IsCause (slice_index_or s.partitions s.given d) (slice_index_or (slice_set s.partitions s.given y) s.given d) e
refused-cause s y d e lt cause =
    subst (λ (z : PartitionSeen). IsCause (slice_index_or s.partitions s.given d) z e) (sym (get_or-set_at s.partitions s.given s.given y d refl lt))
    (subst (λ (z : PartitionSeen). IsCause z y e) (get_or_default s.partitions s.given y d lt) cause)

-- What is left in a group source, before and after a call.
use Rattle.std.proofs.Common.{◌≡◌, ◌∙◌, ◌+◌, ◌-◌, ◌<◌, ◌==◌, ◌||◌, ℕ, zero, suc, Bool, true, false, List, [], ◌∷◌, length, refl, sym, ap, subst, arith, ◌≤◌, ◌⊎◌, inl, inr, ⊎_elim, Option}
use Rattle.std.specs.Prelude.{if◌then◌else◌}
use Rattle.std.specs.List.{All}
use Rattle.std.proofs.lemmas.Bool.{cases_eq, eq-eqb, eqb-true, false≢true}
use Rattle.pipe_columns.specs.declared.data_chunk.DataChunk.{DataChunk}
use Rattle.pipe_columns.specs.Frame.{FrameData}
use Rattle.pipe_columns.specs.Row.{Row}
use Rattle.pipe_aggs.specs.declared.query.Query.{Query}
use Rattle.pipe_aggs.specs.QueryTrees.{query_tree}
use Rattle.pipe_model.specs.Answer.{groups}
use Rattle.pipe_model.specs.Partitions.{groups_in}
use Rattle.pipe_inputs.specs.RowTypes.{IsRowOf}
use Rattle.pipe_model.specs.Query.{QueryTree}
use Rattle.pipe_model.specs.Rows.{HaveDistinctPlaces}
use Rattle.pipe_groups.specs.Given.{slice_after}
use Rattle.pipe_groups.specs.declared.placed_groups.PlacedGroups.{PlacedGroups}
use Rattle.pipe_global.specs.Partition.{PartitionSeen}
use Rattle.pipe_asked.specs.Given.{partition_chunk, partition_chunks, frame_of_keys, HasGivenNext, HasRows, is_used_up, KeepsSource, SourceSeen}
use Rattle.pipe_asked.specs.Sources.{chunks_in_all, ArePlacedParts, chunks_left, partition_count, GroupSourceSeen, HasAllRows, is_over, IsGroupSource, IsPlacedFrame, KeepsAsked, most_left, source_query, unasked, whole_chunk}

-- neither of two, where not one of both
neither : (a b : Bool) → (a || b) ≡ false → (a ≡ false) × (b ≡ false)
neither true b = λ e. absurd (false≢true (sym e))
neither false b = λ e. (refl, e)

-- what is chosen where a test is known
chosen : {A : Type 0} (b : Bool) (x y z : A) → (if b then x else y) ≡ z → (b ≡ false → y ≡ z)
chosen true x y z e = λ no. absurd (false≢true (sym no))
chosen false x y z e = λ no. e

module _ (s : GroupSourceSeen) (left : is_over s ≡ false) where
  abbrev q : QueryTree
  q = source_query s

  abbrev n : ℕ
  n = partition_count s

  -- the slice has length left
  pub unused : is_used_up s.asked.slice ≡ false
  unused = (neither (is_used_up s.asked.slice) (if q.keeps_order then s.is_given else s.asked.given == n) left).0

  choice : (if q.keeps_order then s.is_given else s.asked.given == n) ≡ false
  choice = (neither (is_used_up s.asked.slice) (if q.keeps_order then s.is_given else s.asked.given == n) left).1

  -- ---- partition by partition

  module _ (unordered : q.keeps_order ≡ false) where
    -- a partition is left
    pub one-left : s.asked.given ≤ n → s.asked.given < n
    one-left le = ⊎_elim
        (λ e. absurd (false≢true (sym (chosen q.keeps_order s.is_given (s.asked.given == n) false choice unordered) ∙ eq-eqb s.asked.given n e)))
        (λ apart. omega (arith, le, apart))
        (cases_eq s.asked.given n)

    -- the chunk that was given was the first of those left
    pub next-left : (new : GroupSourceSeen) (rs : List Row) (c : DataChunk) → s.asked.given < n → KeepsSource s.asked new.asked (s.asked.given + 1) → HasGivenNext rs s.asked new.asked c
        → chunks_left rs s ≡ c ∷ chunks_left rs new
    next-left new rs c lt keeps given =
        let after = slice_after (length (groups_in n q s.asked.given rs)) s.asked.slice in
        let now : chunks_left rs s ≡ partition_chunks q rs n s.asked.slice s.asked.given (n - s.asked.given) = rw unordered refl in
        let more : partition_chunks q rs n s.asked.slice s.asked.given (n - s.asked.given) ≡ partition_chunk q rs n s.asked.slice s.asked.given ∷ partition_chunks q rs n after (s.asked.given + 1) (n - (s.asked.given + 1)) =
        ap (partition_chunks q rs n s.asked.slice s.asked.given) {x = n - s.asked.given} {y = suc (n - (s.asked.given + 1))} (omega (arith, lt))
        ∙ ap (λ (b : Bool). if b then [] else partition_chunk q rs n s.asked.slice s.asked.given ∷ partition_chunks q rs n after (s.asked.given + 1) (n - (s.asked.given + 1))) unused in
        now ∙ more ∙ ap (λ (x : DataChunk). x ∷ partition_chunks q rs n after (s.asked.given + 1) (n - (s.asked.given + 1))) (sym given.chunk) ∙ ap (λ (l : List DataChunk). c ∷ l) (sym (rest (new.asked) keeps.query keeps.partitions.count keeps.given_is given.slice))
      where
        after_it : Option (ℕ × ℕ)
        after_it = slice_after (length (groups_in n q s.asked.given rs)) s.asked.slice

        rest : (a : SourceSeen) → a.query ≡ s.asked.query → length a.partitions ≡ n → a.given ≡ s.asked.given + 1 → a.slice ≡ after_it
            → chunks_left rs (record { asked = a; placed = new.placed; is_given = new.is_given }) ≡ partition_chunks q rs n after_it (s.asked.given + 1) (n - (s.asked.given + 1))
        rest a query count at slice =
            let order : (query_tree a.query).keeps_order ≡ false = ap (λ x. (query_tree x).keeps_order) query ∙ unordered in
            ap (λ (b : Bool). if b
            then (if is_over (record { asked = a; placed = new.placed; is_given = new.is_given }) then [] else whole_chunk (query_tree a.query) rs (length a.partitions) a.slice ∷ [])
            else partition_chunks (query_tree a.query) rs (length a.partitions) a.slice a.given (length a.partitions - a.given)) order
            ∙ (λ i. partition_chunks (query_tree (query i)) rs (count i) (slice i) (at i) (count i - at i))

    -- fewer are left
    pub next-fewer : (new : GroupSourceSeen) → s.asked.given < n → KeepsSource s.asked new.asked (s.asked.given + 1) → most_left new < most_left s
    next-fewer new lt keeps =
        let order : (source_query new).keeps_order ≡ false = ap (λ x. (query_tree x).keeps_order) keeps.query ∙ unordered in
        let was : most_left s ≡ n - s.asked.given = ap (λ (b : Bool). if b then (if s.is_given then 0 else 1) else n - s.asked.given) unordered in
        let is : most_left new ≡ partition_count new - new.asked.given = ap (λ (b : Bool). if b then (if new.is_given then 0 else 1) else partition_count new - new.asked.given) order in
        omega (arith, was, is, lt, keeps.partitions.count, keeps.given_is)

  -- ---- all groups in the order of their first rows

  module _ (ordered : q.keeps_order ≡ true) where
    -- the one chunk was all that was left
    pub whole-left : (new : GroupSourceSeen) (rs : List Row) (f : FrameData) → new.asked.query ≡ s.asked.query → new.is_given ≡ true → f ≡ frame_of_keys q rs s.asked.slice (groups rs q n)
        → chunks_left rs s ≡ record { chunk_index = 1; frame = f } ∷ chunks_left rs new
    whole-left new rs f query given is =
        let now : chunks_left rs s ≡ whole_chunk q rs n s.asked.slice ∷ [] =
        ap (λ (b : Bool). if b then (if is_over s then [] else whole_chunk q rs n s.asked.slice ∷ []) else partition_chunks q rs n s.asked.slice s.asked.given (n - s.asked.given)) ordered
        ∙ ap (λ (b : Bool). if b then [] else whole_chunk q rs n s.asked.slice ∷ []) left in
        now ∙ ap (λ (g : FrameData). record { chunk_index = 1; frame = g } ∷ []) (sym is) ∙ ap (λ (l : List DataChunk). record { chunk_index = 1; frame = f } ∷ l) (sym none)
      where
        order : (source_query new).keeps_order ≡ true
        order = ap (λ x. (query_tree x).keeps_order) query ∙ ordered

        either : (a : Bool) → (a || true) ≡ true
        either true = refl
        either false = refl

        over : is_over new ≡ true
        over =
            ap (λ (b : Bool). is_used_up new.asked.slice || (if b then new.is_given else new.asked.given == partition_count new)) order
            ∙ ap (λ (b : Bool). is_used_up new.asked.slice || b) given
            ∙ either (is_used_up new.asked.slice)

        none : chunks_left rs new ≡ []
        none =
            ap (λ (b : Bool). if b then (if is_over new then [] else whole_chunk (source_query new) rs (partition_count new) new.asked.slice ∷ []) else partition_chunks (source_query new) rs (partition_count new) new.asked.slice new.asked.given (partition_count new - new.asked.given)) order
            ∙ ap (λ (b : Bool). if b then [] else whole_chunk (source_query new) rs (partition_count new) new.asked.slice ∷ []) over

    -- and none is left then
    pub whole-fewer : (new : GroupSourceSeen) → new.asked.query ≡ s.asked.query → new.is_given ≡ true → most_left new < most_left s
    whole-fewer new query given =
        let order : (source_query new).keeps_order ≡ true = ap (λ x. (query_tree x).keeps_order) query ∙ ordered in
        let was : most_left s ≡ 1 =
        ap (λ (b : Bool). if b then (if s.is_given then 0 else 1) else n - s.asked.given) ordered
        ∙ ap (λ (b : Bool). if b then 0 else 1) (undone q.keeps_order choice ordered) in
        let is : most_left new ≡ 0 = ap (λ (b : Bool). if b then (if new.is_given then 0 else 1) else partition_count new - new.asked.given) order ∙ ap (λ (b : Bool). if b then 0 else 1) given in
        omega (arith, was, is)
      where
        undone : (b : Bool) → (if b then s.is_given else s.asked.given == n) ≡ false → b ≡ true → s.is_given ≡ false
        undone true = λ e is. e
        undone false = λ e is. absurd (false≢true is)

-- ---- nothing is left

-- under a slice without length, or of no partition, there is no chunk
none-from : (q : QueryTree) (rs : List Row) (partitions : ℕ) (slice : Option (ℕ × ℕ)) (p n : ℕ) → is_used_up slice ≡ true → partition_chunks q rs partitions slice p n ≡ []
none-from q rs partitions slice p zero e = refl
none-from q rs partitions slice p (suc n) e =
    ap (λ (b : Bool). if b then [] else partition_chunk q rs partitions slice p ∷ partition_chunks q rs partitions (slice_after (length (groups_in partitions q p rs)) slice) (p + 1) n) e

either-of : (a b : Bool) → (a || b) ≡ true → (a ≡ true) ⊎ (b ≡ true)
either-of true b = λ e. inl refl
either-of false b = λ e. inr e

-- where nothing is left to give, there is none
-- what is left of a source, by whether it keeps order and whether nothing is left
abbrev left_by : List Row → GroupSourceSeen → Bool → Bool → List DataChunk
left_by rs s order over =
    if order then (if over then [] else whole_chunk (source_query s) rs (partition_count s) s.asked.slice ∷ [])
    else partition_chunks (source_query s) rs (partition_count s) s.asked.slice s.asked.given (partition_count s - s.asked.given)

-- whether every partition was given, where order isn't kept
all-given : (s : GroupSourceSeen) (b : Bool) → b ≡ false → (if b then s.is_given else s.asked.given == partition_count s) ≡ true → (s.asked.given == partition_count s) ≡ true
all-given s true = λ no is. absurd (false≢true (sym no))
all-given s false = λ no is. is

pub over-left : (s : GroupSourceSeen) (rs : List Row) → is_over s ≡ true → chunks_left rs s ≡ []
over-left s rs over = by (source_query s).keeps_order refl where
  by : (b : Bool) → (source_query s).keeps_order ≡ b → left_by rs s (source_query s).keeps_order (is_over s) ≡ []
  by true e = ap (λ b. left_by rs s b (is_over s)) e ∙ ap (left_by rs s true) over
  by false e = ap (λ b. left_by rs s b (is_over s)) e ∙ ⊎_elim
      (λ used. none-from (source_query s) rs (partition_count s) s.asked.slice s.asked.given (partition_count s - s.asked.given) used)
      (λ all. ap (partition_chunks (source_query s) rs (partition_count s) s.asked.slice s.asked.given) {x = partition_count s - s.asked.given} {y = 0} (omega (arith, eqb-true s.asked.given (partition_count s) (all-given s (source_query s).keeps_order e all))))
      (either-of (is_used_up s.asked.slice) (if (source_query s).keeps_order then s.is_given else s.asked.given == partition_count s) over)

-- ---- a refused call

-- of as many partitions, where as many were given
pub alike-left : (s new : GroupSourceSeen) (rs : List Row) → new.asked.query ≡ s.asked.query → partition_count new ≡ partition_count s → new.asked.slice ≡ s.asked.slice → new.asked.given ≡ s.asked.given → new.is_given ≡ s.is_given
    → chunks_left rs new ≡ chunks_left rs s
alike-left s new rs query count slice at given = same new.asked query count slice at where
  same : (a : SourceSeen) → a.query ≡ s.asked.query → length a.partitions ≡ partition_count s → a.slice ≡ s.asked.slice → a.given ≡ s.asked.given
      → chunks_left rs (record { asked = a; placed = new.placed; is_given = new.is_given }) ≡ chunks_left rs s
  same a query count slice at = λ i.
      let q : QueryTree = query_tree (query i) in
      if q.keeps_order
      then (if is_used_up (slice i) || (if q.keeps_order then given i else at i == count i) then [] else whole_chunk q rs (count i) (slice i) ∷ [])
      else partition_chunks q rs (count i) (slice i) (at i) (count i - at i)

-- partition by partition
pub refused-left : (s new : GroupSourceSeen) (rs : List Row) → KeepsSource s.asked new.asked s.asked.given → new.asked.slice ≡ s.asked.slice → new.is_given ≡ s.is_given → chunks_left rs new ≡ chunks_left rs s
refused-left s new rs keeps slice given = alike-left s new rs keeps.query keeps.partitions.count slice keeps.given_is given

-- what is left where order is kept
abbrev one_left : List Row → QueryTree → ℕ → Option (ℕ × ℕ) → Bool → List DataChunk
one_left rs q n slice done = if is_used_up slice || done then [] else whole_chunk q rs n slice ∷ []

-- in the order of first rows, however many were asked
pub waiting-left : (s new : GroupSourceSeen) (rs : List Row) → (source_query s).keeps_order ≡ true → KeepsAsked s.asked new.asked → new.asked.slice ≡ s.asked.slice → new.is_given ≡ s.is_given → chunks_left rs new ≡ chunks_left rs s
waiting-left s new rs ordered keeps slice given = whole new (order keeps.query) ∙ same ∙ sym (whole s ordered) where
  order : new.asked.query ≡ s.asked.query → (source_query new).keeps_order ≡ true
  order query = ap (λ x. (query_tree x).keeps_order) query ∙ ordered

  whole : (t : GroupSourceSeen) → (source_query t).keeps_order ≡ true → chunks_left rs t ≡ one_left rs (source_query t) (partition_count t) t.asked.slice t.is_given
  whole t is =
      ap (λ (b : Bool). if b then (if is_used_up t.asked.slice || (if b then t.is_given else t.asked.given == partition_count t) then [] else whole_chunk (source_query t) rs (partition_count t) t.asked.slice ∷ []) else partition_chunks (source_query t) rs (partition_count t) t.asked.slice t.asked.given (partition_count t - t.asked.given)) is

  same : one_left rs (source_query new) (partition_count new) new.asked.slice new.is_given ≡ one_left rs (source_query s) (partition_count s) s.asked.slice s.is_given
  same = let query = keeps.query in let count = keeps.partitions.count in λ i. one_left rs (query_tree (query i)) (count i) (slice i) (given i)

-- ---- what it stands for

-- partition by partition nothing waits anew
pub stands-next : (s new : GroupSourceSeen) (rs : List Row) → KeepsAsked s.asked new.asked → new.placed ≡ s.placed → HasAllRows rs s → (HasRows rs s.asked → HasRows rs new.asked) → HasAllRows rs new
stands-next s new rs keeps placed all rows = record {
  some = omega (arith, all.some, keeps.partitions.count);
  rows = rows all.rows;
  placed =
      let query = keeps.query in
      let count = keeps.partitions.count in
      subst (λ (g : List PlacedGroups). ArePlacedParts (source_query new) rs (partition_count new) g) (sym placed)
      (subst (λ (m : ℕ). ArePlacedParts (source_query new) rs m s.placed) (sym count) (subst (λ (x : Query). ArePlacedParts (query_tree x) rs (partition_count s) s.placed) (sym query) all.placed));
}

-- in the order of first rows what was given waits
pub stands-waiting : (s new : GroupSourceSeen) (rs : List Row) → KeepsAsked s.asked new.asked → HasAllRows rs s
    → (HasRows rs s.asked → ArePlacedParts (source_query s) rs (partition_count s) s.placed → HasRows rs new.asked × ArePlacedParts (source_query s) rs (partition_count s) new.placed) → HasAllRows rs new
stands-waiting s new rs keeps all after =
    let now = after all.rows all.placed in
    let query = keeps.query in
    let count = keeps.partitions.count in
    record {
      some = omega (arith, all.some, keeps.partitions.count);
      rows = now.0;
      placed = subst (λ (m : ℕ). ArePlacedParts (source_query new) rs m new.placed) (sym count) (subst (λ (x : Query). ArePlacedParts (query_tree x) rs (partition_count s) new.placed) (sym query) now.1);
    }

-- the frame of all groups that wait is that of the one chunk
pub whole-frame : (s new : GroupSourceSeen) (query : Query) (slice : Option (ℕ × ℕ)) (parts : List PlacedGroups) (rs : List Row) (f : FrameData) → query ≡ s.asked.query → slice ≡ s.asked.slice → parts ≡ new.placed
    → length new.placed ≡ partition_count s → (source_query s).keeps_order ≡ true → HasAllRows rs s → ArePlacedParts (source_query s) rs (partition_count s) new.placed
    → (0 < length parts → (query_tree query).keeps_order ≡ true → HaveDistinctPlaces rs → All (IsRowOf (query_tree query)) rs → ArePlacedParts (query_tree query) rs (length parts) parts
    → f ≡ frame_of_keys (query_tree query) rs slice (groups rs (query_tree query) (length parts)))
    → f ≡ frame_of_keys (source_query s) rs s.asked.slice (groups rs (source_query s) (partition_count s))
whole-frame s new query slice parts rs f same_query same_slice same_parts count ordered all placed clause =
    let q = source_query s in
    let of_parts = subst (λ (gs : List PlacedGroups). 0 < length gs → (query_tree query).keeps_order ≡ true → HaveDistinctPlaces rs → All (IsRowOf (query_tree query)) rs → ArePlacedParts (query_tree query) rs (length gs) gs
    → f ≡ frame_of_keys (query_tree query) rs slice (groups rs (query_tree query) (length gs))) same_parts clause in
    let of_query = subst (λ (x : Query). 0 < length new.placed → (query_tree x).keeps_order ≡ true → HaveDistinctPlaces rs → All (IsRowOf (query_tree x)) rs → ArePlacedParts (query_tree x) rs (length new.placed) new.placed
    → f ≡ frame_of_keys (query_tree x) rs slice (groups rs (query_tree x) (length new.placed))) same_query of_parts in
    of_query (omega (arith, count, all.some)) ordered all.rows.apart all.rows.typed (subst (λ n. ArePlacedParts q rs n new.placed) (sym count) placed)
    ∙ (λ i. frame_of_keys q rs (same_slice i) (groups rs q (count i)))

-- ---- what it keeps

-- partition by partition nothing waits anew
pub source-next : (s new : GroupSourceSeen) → IsGroupSource s → new.asked.query ≡ s.asked.query → (source_query s).keeps_order ≡ false → new.placed ≡ s.placed → IsGroupSource new
source-next s new is query unordered placed = record {
  waiting = λ order. absurd (false≢true (sym unordered ∙ ap (λ x. (query_tree x).keeps_order) (sym query) ∙ order));
  frames =
      subst (λ (x : Query). All (IsPlacedFrame (query_tree x)) new.placed) (sym query)
      (subst (λ (g : List PlacedGroups). All (IsPlacedFrame (source_query s)) g) (sym placed) is.frames);
}

-- in the order of first rows what was given waits
pub source-waiting : (s new : GroupSourceSeen) → new.asked.query ≡ s.asked.query → length new.placed ≡ new.asked.given → All (IsPlacedFrame (source_query s)) new.placed → IsGroupSource new
source-waiting s new query waiting frames = record {
  waiting = λ order. waiting;
  frames = subst (λ (x : Query). All (IsPlacedFrame (query_tree x)) new.placed) (sym query) frames;
}

-- ---- from the first chunk on

-- what is left and all chunks, by whether order is kept
abbrev first_left : QueryTree → List Row → ℕ → Bool → List DataChunk
first_left q rs n b =
    if b then (if is_used_up q.slice || (if b then false else 0 == n) then [] else whole_chunk q rs n q.slice ∷ [])
    else partition_chunks q rs n q.slice 0 (n - 0)

abbrev in_all : QueryTree → List Row → ℕ → Bool → List DataChunk
in_all q rs n b = if b then (if is_used_up q.slice then [] else whole_chunk q rs n q.slice ∷ []) else partition_chunks q rs n q.slice 0 n

-- a source of which nothing was given has all chunks left
pub all-left : (q : Query) (partitions : List PartitionSeen) (local : Rattle.pipe_keyed.specs.Tables.Table) (rs : List Row)
    → chunks_left rs (record { asked = unasked q partitions local (query_tree q).slice; placed = []; is_given = false }) ≡ chunks_in_all (query_tree q) rs (length partitions)
all-left q partitions local rs = by (query_tree q).keeps_order refl where
  no : (a : Bool) → (a || false) ≡ a
  no true = refl
  no false = refl

  by : (b : Bool) → (query_tree q).keeps_order ≡ b → first_left (query_tree q) rs (length partitions) (query_tree q).keeps_order ≡ in_all (query_tree q) rs (length partitions) (query_tree q).keeps_order
  by true e =
      ap (first_left (query_tree q) rs (length partitions)) e
      ∙ ap (λ (b : Bool). if b then [] else whole_chunk (query_tree q) rs (length partitions) (query_tree q).slice ∷ []) (no (is_used_up (query_tree q).slice))
      ∙ sym (ap (in_all (query_tree q) rs (length partitions)) e)
  by false e =
      ap (first_left (query_tree q) rs (length partitions)) e
      ∙ ap (partition_chunks (query_tree q) rs (length partitions) (query_tree q).slice 0) {x = length partitions - 0} {y = length partitions} (omega arith)
      ∙ sym (ap (in_all (query_tree q) rs (length partitions)) e)

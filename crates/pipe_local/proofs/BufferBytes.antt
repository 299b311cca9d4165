-- Buffers of bytes, read and written.
use Rattle.std.proofs.Common.{◌≡◌, ◌<◌, ◌+◌, ◌∙◌, ◌==◌, ℕ, true, false, List, [], ◌∷◌, ◌++◌, Option, Some, None, length, get_or, set, refl, ap, sym, subst, arith, ◌%◌, Result, Ok, Err}
use Rattle.std.specs.Prelude.{IfOk, OnErr, if◌then◌else◌}
use Rattle.std.proofs.lemmas.Bool.{false≢true}
use Rattle.std.proofs.lemmas.Bool.Decides.{nat_tests}
use Rattle.std.proofs.lemmas.List.{get_or-map, map-set, set-get_or, length-map}
use Rattle.std.proofs.lemmas.List.Elements.{All-set, All-get_or}
use Rattle.std.proofs.Math.Nat.{mod-lt}
use Rattle.pipe_columns.specs.Key.{fold_bytes}
use Rattle.pipe_columns.specs.declared.data_type.DataType.{DataType}
use Rattle.pipe_spill.specs.declared.spill_row.SpillRow.{SpillRow}
use Rattle.pipe_tables.specs.Buffers.{AreBuffers, buffer_of, Buffers, fills, rows_with, waiting_in, with_rows}
use Rattle.pipe_tables.proofs.BufferFacts.{AreBuffers-with}
use Rattle.pipe_waiting.specs.ReadRows.{read_rows}
use Rattle.pipe_waiting.specs.Waiting.{AreWaiting, HasPushed, HoldRows, WaitAsBefore, Waiting, waiting_rows}
use Rattle.pipe_waiting.proofs.ReadBack.{count_read}
use Rattle.pipe_local.specs.BufferEnds.{HasGivenRest, HasPut, StayAsRead}
use Rattle.pipe_local.specs.OneBuffer.{HasCome, HasFilled, HasLeft, HasStayed, IsTaken}
use Rattle.pipe_local.specs.WaitingBuffers.{AreHeld, buffers_read, WaitingBuffers}
use Rattle.pipe_local.specs.declared.worker_end.WorkerEnd.{WorkerEnd}
use Rattle.pipe_local.specs.declared.worker_end.WorkerEnd.TheVariants as end

-- as many rows are read as wait
pub rows-count : (types : List DataType) (w : Waiting) → length (waiting_rows types w) ≡ w.count
rows-count types w = count_read types w.count w.bytes

-- none are read where none wait
pub none-read : (types : List DataType) (w : Waiting) → w.count ≡ 0 → waiting_rows types w ≡ []
none-read types w none = ap (λ n. read_rows types n w.bytes) none

-- the same bytes are the same rows
pub same-read : (types : List DataType) (before after : Waiting) → WaitAsBefore before after → waiting_rows types after ≡ waiting_rows types before
same-read types before after same =
    ap (λ n. read_rows types n after.bytes) same.count ∙ ap (λ (bs : List ℕ). read_rows types before.count bs) same.bytes

pub same-typed : (types : List DataType) (before after : Waiting) → WaitAsBefore before after → AreWaiting types before → AreWaiting types after
same-typed types before after same typed =
    subst (λ (bs : List ℕ). HoldRows types after.count bs) (sym same.bytes) (subst (λ n. HoldRows types n before.bytes) (sym same.count) typed)

-- buffers of these rows
abbrev of_size : ℕ → List (List SpillRow) → Buffers
of_size size rows = record { size = size; rows = rows }

-- what leaves: rows of a partition
abbrev some_rows : ℕ → List SpillRow → Option (ℕ × List SpillRow)
some_rows p rows = Some (p, rows)

-- buffers where one is written
abbrev written-at : WaitingBuffers → ℕ → Waiting → WaitingBuffers
written-at b p after = record { size = b.size; waiting = set b.waiting p after }

-- the partition of a key is there
pub own-partition : (types : List DataType) (b : WaitingBuffers) (key : List ℕ) (n p : ℕ) → AreHeld types b → n ≡ length b.waiting → p ≡ fold_bytes key % n
    → (p < length b.waiting) × (p ≡ buffer_of key (buffers_read types b))
own-partition types b key n p held count is =
    let some : 0 < length b.waiting = omega (arith, held.short.some, length-map b.waiting (waiting_rows types)) in
    let there : fold_bytes key % length b.waiting < length b.waiting = mod-lt (fold_bytes key) some in
    let at : p ≡ fold_bytes key % length b.waiting = is ∙ ap (λ m. fold_bytes key % m) count in (
      subst (λ q. q < length b.waiting) (sym at) there,
      at ∙ ap (λ m. fold_bytes key % m) (sym (length-map b.waiting (waiting_rows types))),
    )

-- the buffer of a partition is written
module _ (types : List DataType) (b : WaitingBuffers) (p : ℕ) (v after : Waiting) (held : AreHeld types b) (lt : p < length b.waiting) (is : v ≡ get_or b.waiting p v) where
  abbrev read : Buffers
  read = buffers_read types b

  abbrev written : WaitingBuffers
  written = record { size = b.size; waiting = set b.waiting p after }

  -- what waits there
  at-is : waiting_in p read ≡ waiting_rows types v
  at-is = get_or-map (waiting_rows types) b.waiting p v [] lt ∙ ap (waiting_rows types) (sym is)

  typed-at : AreWaiting types v
  typed-at = subst (AreWaiting types) (sym is) (All-get_or (AreWaiting types) b.waiting p v lt held.typed)

  pub short-at : v.count < b.size
  short-at =
      let there : p < length read.rows = omega (arith, lt, length-map b.waiting (waiting_rows types)) in
      let short : length (waiting_in p read) < b.size = All-get_or (λ (rows : List SpillRow). length rows < b.size) read.rows p [] there held.short.short in
      omega (arith, short, ap (λ (l : List SpillRow). length l) at-is, rows-count types v)

  written-read : buffers_read types written ≡ with_rows p (waiting_rows types after) read
  written-read = ap (λ (rows : List (List SpillRow)). of_size b.size rows) (map-set (waiting_rows types) b.waiting p after)

  written-held : AreWaiting types after → after.count < b.size → AreHeld types written
  written-held typed short = record {
    typed = All-set (AreWaiting types) b.waiting p after typed held.typed;
    short = subst AreBuffers (sym written-read) (AreBuffers-with read p (waiting_rows types after) held.short (omega (arith, short, rows-count types after)));
  }

  -- the same rows wait
  pub stays : WaitAsBefore v after → StayAsRead types b written
  stays same = record {
    same =
        written-read
        ∙ ap (λ (rows : List SpillRow). with_rows p rows read) (same-read types v after same ∙ sym at-is)
        ∙ ap (λ (rows : List (List SpillRow)). of_size b.size rows) (set-get_or read.rows p []);
    held = written-held (same-typed types v after same typed-at) (omega (arith, short-at, same.count));
  }

  -- none waits
  none-waits : after.count ≡ 0 → buffers_read types written ≡ with_rows p [] read
  none-waits none = written-read ∙ ap (λ (rows : List SpillRow). with_rows p rows read) (none-read types after none)

  -- what waited leaves, if anything did
  pub rest-ends : (left : Option Waiting) → HasLeft left v after → HasGivenRest types p left b written
  rest-ends None (none, same) = record {
    none = (λ _. at-is ∙ none-read types v none, λ _. refl);
    rows = tt;
    packed = tt;
    emptied = none-waits (ap (λ (w : Waiting). w.count) same ∙ none);
    held = written-held (subst (AreWaiting types) (sym same) typed-at) (omega (arith, short-at, ap (λ (w : Waiting). w.count) same));
  }
  rest-ends (Some w) has =
      let left : IsTaken w v after = has in
      record {
        none = (
          λ e. absurd (false≢true (sym e)),
          λ e. absurd (omega (arith, left.some, rows-count types v, ap (λ (l : List SpillRow). length l) (sym at-is ∙ e))),
        );
        rows = same-read types v w left.same ∙ sym at-is;
        packed = record { typed = same-typed types v w left.same typed-at; slack = left.slack };
        emptied = none-waits left.none;
        held = written-held (left.typed types) (omega (arith, short-at, left.none));
      }

  -- a row comes
  module _ (r : SpillRow) (own : p ≡ buffer_of r.key read) where
    -- the rows with it
    with-it : (w : Waiting) → HasPushed types r v w → waiting_rows types w ≡ rows_with r read
    with-it w pushed =
        pushed.rows typed-at
        ∙ ap (λ (l : List SpillRow). l ++ r ∷ []) (sym at-is)
        ∙ ap (λ q. waiting_in q read ++ r ∷ []) own

    fills-is : (w : Waiting) → HasPushed types r v w → fills r read ≡ (v.count + 1 == b.size)
    fills-is w pushed = ap (λ n. n == b.size) (ap (λ (l : List SpillRow). length l) (sym (with-it w pushed)) ∙ rows-count types w ∙ pushed.count)

    stayed : HasStayed types b.size r v after → HasPut types r b written end.Done
    stayed has =
        let room : v.count + 1 < b.size = has.room in
        let short : (v.count + 1 == b.size) ≡ false = grind (arith, nat_tests) in
        let no : fills r read ≡ false = fills-is after has.pushed ∙ short in
        record {
          taken = λ _.
              written-read
              ∙ ap (λ (rows : List SpillRow). with_rows p rows read) (with-it after has.pushed)
              ∙ ap (λ q. with_rows q (rows_with r read) read) own
              ∙ sym (ap (λ c. with_rows (buffer_of r.key read) (if c then [] else rows_with r read) read) no);
          payload = λ _. sym (ap (λ c. if c then Some (buffer_of r.key read, rows_with r read) else None) no);
          memory = λ e. let no : end.Done ≡ end.Memory = e in cc;
          packed = tt;
          held = written-held (has.pushed.typed typed-at) (omega (arith, room, has.pushed.count));
        }

    filled : (q : ℕ) (w : Waiting) → HasFilled types p b.size r v after q w → HasPut types r b written (end.Payload q w)
    filled q w has =
        let size : v.count + 1 ≡ b.size = has.full in
        let full : (v.count + 1 == b.size) ≡ true = grind (arith, nat_tests) in
        let yes : fills r read ≡ true = fills-is w has.pushed ∙ full in
        record {
          taken = λ _.
              none-waits has.none
              ∙ ap (λ k. with_rows k [] read) own
              ∙ sym (ap (λ c. with_rows (buffer_of r.key read) (if c then [] else rows_with r read) read) yes);
          payload = λ _.
              ap (λ k. some_rows k (waiting_rows types w)) (has.own ∙ own)
              ∙ ap (λ (l : List SpillRow). some_rows (buffer_of r.key read) l) (with-it w has.pushed)
              ∙ sym (ap (λ c. if c then Some (buffer_of r.key read, rows_with r read) else None) yes);
          memory = λ e. let no : end.Payload q w ≡ end.Memory = e in cc;
          packed = record { typed = has.pushed.typed typed-at; slack = has.slack };
          held = written-held has.typed (omega (arith, size, has.none));
        }

    -- memory was wanting
    refused : WaitAsBefore v after → HasPut types r b written end.Memory
    refused same = record {
      taken = λ e. absurd (false≢true e);
      payload = λ e. absurd (false≢true e);
      memory = λ _. (stays same).same;
      packed = tt;
      held = (stays same).held;
    }

    pub put-ends : (e : WorkerEnd) → HasCome types p b.size r v after e → HasPut types r b written e
    put-ends end.Done has = stayed has
    put-ends (end.Payload q w) has = filled q w has
    put-ends end.Memory has = refused has

-- what waits in a partition leaves, if that isn't refused
pub rest-if : {E : Type 0} (b : WaitingBuffers) (p : ℕ) (v after : Waiting) → p < length b.waiting → v ≡ get_or b.waiting p v → (result : Result (Option Waiting) E)
    → IfOk result (λ left. HasLeft left v after)
    → IfOk result (λ left. (types : List DataType) → AreHeld types b → HasGivenRest types p left b (written-at b p after))
rest-if b p v after lt is (Ok left) has = λ types held. rest-ends types b p v after held lt is left has
rest-if b p v after lt is (Err e) has = tt

-- and stays, if it is
pub stays-if : {E : Type 0} (b : WaitingBuffers) (p : ℕ) (v after : Waiting) → p < length b.waiting → v ≡ get_or b.waiting p v → (result : Result (Option Waiting) E)
    → OnErr result (WaitAsBefore v after)
    → OnErr result ((types : List DataType) → AreHeld types b → StayAsRead types b (written-at b p after))
stays-if b p v after lt is (Ok left) has = tt
stays-if b p v after lt is (Err e) has = λ types held. stays types b p v after held lt is has

-- Buffers that are read and written.
use Rattle.std.proofs.Common.{◌≡◌, ◌<◌, ◌≤◌, ◌+◌, ◌∙◌, ℕ, true, List, [], ◌∷◌, ◌++◌, Option, Some, None, length, get_or, set, ap, sym, subst, arith}
use Rattle.std.specs.Prelude.{Vec, if◌then◌else◌}
use Rattle.std.specs.declared.alloc.Global.{Global}
use Rattle.std.proofs.lemmas.Bool.Decides.{nat_tests}
use Rattle.std.proofs.lemmas.List.{get_or-map, map-append, map-set, replicate_more, set-get_or, length-append, length-replicate, length-set, set-set, get_or-set_same}
use Rattle.std.proofs.lemmas.List.Elements.{All-replicate, All-set, All-get_or}
use Rattle.std.proofs.Math.Nat.{mod-lt}
use Rattle.pipe_columns.specs.Key.{fold_bytes}
use Rattle.pipe_spill.specs.declared.spill_row.SpillRow.{SpillRow}
use Rattle.pipe_tables.specs.BufferLayout.{rows_of}
use Rattle.pipe_tables.specs.Buffers.{AreBuffers, buffer_of, buffered, Buffers, fills, leaving, no_rows, rows_with, waiting_in, with_rows}

-- one more in which nothing waits
pub no_rows-more : (vs : List (Vec SpillRow Global)) (n : ℕ) (v : Vec SpillRow Global) → v.items ≡ [] → rows_of vs ≡ no_rows n → rows_of (vs ++ v ∷ []) ≡ no_rows (n + 1)
no_rows-more vs n v none so_far = map-append (λ b. b.items) vs (v ∷ []) ∙ (λ i. so_far i ++ none i ∷ []) ∙ replicate_more n []

-- buffers in which nothing waits
pub none-waiting : (n size : ℕ) → 0 < n → 0 < size → AreBuffers (record { size = size; rows = no_rows n })
none-waiting n size some room = record {
  some = omega (arith, length-replicate {A = List SpillRow} n [], some);
  short = All-replicate (λ rows. length rows < size) n [] room;
}

-- a vector that is written
pub rows_of-set : (vs : List (Vec SpillRow Global)) (p : ℕ) (v : Vec SpillRow Global) → rows_of (set vs p v) ≡ set (rows_of vs) p v.items
rows_of-set vs p v = map-set (λ b. b.items) vs p v

-- a vector that is read
pub rows_of-at : (vs : List (Vec SpillRow Global)) (p : ℕ) (v : Vec SpillRow Global) → p < length vs → v ≡ get_or vs p v → get_or (rows_of vs) p [] ≡ v.items
rows_of-at vs p v lt is = get_or-map (λ b. b.items) vs p v [] lt ∙ ap (λ b. b.items) (sym is)

-- a vector whose rows stay
pub rows_of-same : (vs : List (Vec SpillRow Global)) (p : ℕ) (v w : Vec SpillRow Global) → p < length vs → v ≡ get_or vs p v → w.items ≡ v.items → rows_of (set vs p w) ≡ rows_of vs
rows_of-same vs p v w lt is same =
    rows_of-set vs p w
    ∙ ap (λ (l : List SpillRow). set (rows_of vs) p l) (same ∙ sym (rows_of-at vs p v lt is))
    ∙ set-get_or (rows_of vs) p []

-- a vector that gains a row
pub rows_of-more : (vs : List (Vec SpillRow Global)) (p : ℕ) (v w : Vec SpillRow Global) (r : SpillRow) → p < length vs → v ≡ get_or vs p v → w.items ≡ v.items ++ r ∷ []
    → rows_of (set vs p w) ≡ set (rows_of vs) p (get_or (rows_of vs) p [] ++ r ∷ [])
rows_of-more vs p v w r lt is more =
    rows_of-set vs p w
    ∙ ap (λ (l : List SpillRow). set (rows_of vs) p l) (more ∙ ap (λ (l : List SpillRow). l ++ r ∷ []) (sym (rows_of-at vs p v lt is)))

-- buffers stay shorter than the size where a shorter one is written
pub AreBuffers-with : (b : Buffers) (p : ℕ) (rows : List SpillRow) → AreBuffers b → length rows < b.size → AreBuffers (with_rows p rows b)
AreBuffers-with b p rows are lt = record {
  some = omega (arith, are.some, length-set b.rows p rows);
  short = All-set (λ (rows : List SpillRow). length rows < b.size) b.rows p rows lt are.short;
}

-- buffers of these rows
abbrev pub with_all : ℕ → List (List SpillRow) → Buffers
with_all size rows = record { size = size; rows = rows }

-- what leaves: rows of a partition
abbrev pub some_rows : ℕ → List SpillRow → Option (ℕ × List SpillRow)
some_rows p rows = Some (p, rows)

-- ---- a row fills its buffer

-- one that was shorter than the size
fills-full : (r : SpillRow) (b : Buffers) → AreBuffers b → b.size ≤ length (rows_with r b) → fills r b ≡ true
fills-full r b are le =
    let there : buffer_of r.key b < length b.rows = mod-lt (fold_bytes r.key) are.some in
    let short : length (waiting_in (buffer_of r.key b) b) < b.size = All-get_or (λ (rows : List SpillRow). length rows < b.size) b.rows (buffer_of r.key b) [] there are.short in
    let size : length (rows_with r b) ≡ b.size = omega (arith, length-append (waiting_in (buffer_of r.key b) b) (r ∷ [])) in
    grind (arith, nat_tests)

-- then the buffer is emptied
pub emptied : (r : SpillRow) (b : Buffers) (p : ℕ) (one all : List (List SpillRow)) → AreBuffers b → p ≡ buffer_of r.key b
    → one ≡ set b.rows p (get_or b.rows p [] ++ r ∷ []) → all ≡ set one p [] → b.size ≤ length (get_or b.rows p [] ++ r ∷ [])
    → with_all b.size all ≡ buffered r b
emptied r b p one all are is wrote empty le =
    let full = fills-full r b are (subst (λ (q : ℕ). b.size ≤ length (get_or b.rows q [] ++ r ∷ [])) is le) in
    ap (λ l. with_all b.size l) (empty ∙ ap (λ (l : List (List SpillRow)). set l p []) wrote ∙ set-set b.rows p (get_or b.rows p [] ++ r ∷ []) [] ∙ ap (λ q. set b.rows q []) is)
    ∙ sym (ap (λ c. with_rows (buffer_of r.key b) (if c then [] else rows_with r b) b) full)

-- and what was there leaves, with the row
pub left : (r : SpillRow) (b : Buffers) (p : ℕ) (one : List (List SpillRow)) (rows : List SpillRow) → AreBuffers b → p ≡ buffer_of r.key b
    → one ≡ set b.rows p (get_or b.rows p [] ++ r ∷ []) → rows ≡ get_or one p [] → b.size ≤ length (get_or b.rows p [] ++ r ∷ [])
    → some_rows p rows ≡ leaving r b
left r b p one rows are is wrote taken le =
    let full = fills-full r b are (subst (λ (q : ℕ). b.size ≤ length (get_or b.rows q [] ++ r ∷ [])) is le) in
    let there : p < length b.rows = subst (λ (q : ℕ). q < length b.rows) (sym is) (mod-lt (fold_bytes r.key) are.some) in
    let are_these : rows ≡ get_or b.rows p [] ++ r ∷ [] = taken ∙ ap (λ (l : List (List SpillRow)). get_or l p []) wrote ∙ get_or-set_same b.rows p (get_or b.rows p [] ++ r ∷ []) [] there in
    ap (λ l. some_rows p l) are_these ∙ ap (λ q. some_rows q (get_or b.rows q [] ++ r ∷ [])) is
    ∙ sym (ap (λ c. if c then Some (buffer_of r.key b, rows_with r b) else None) full)

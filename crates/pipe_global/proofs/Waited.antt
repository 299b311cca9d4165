-- What waits as bytes: its rows one after another, and the same in another table of the shape.
use Rattle.std.proofs.Common.{◌≡◌, ◌∙◌, ◌+◌, ◌<◌, ◌≤◌, ℕ, suc, true, false, List, [], ◌∷◌, ◌++◌, length, refl, sym, ap, subst, arith, length-append, take, drop, get_or}
use Rattle.std.specs.Int.{bytes_high_first}
use Rattle.std.proofs.Math.Seq.{drop-cons}
use Rattle.std.proofs.lemmas.Grind.{flat_map-append}
use Rattle.std.proofs.lemmas.Bool.Decides.{nat_tests}
use Rattle.std.proofs.lemmas.List.{append-nil, length-map, map-append, take_more}
use Rattle.std.proofs.lemmas.List.Elements.{All-append, All-cons, All-head, All-nil, All-tail}
use Rattle.std.proofs.lemmas.List.Sums.{sum_by-cons}
use Rattle.pipe_columns.specs.declared.data_type.DataType.{DataType}
use Rattle.pipe_spill.specs.FrameBytes.{frame_bytes, rows_bytes}
use Rattle.pipe_spill.proofs.RowBytes.{rows_bytes-append}
use Rattle.pipe_groups.specs.Shape.{Shape}
use Rattle.pipe_keyed.specs.Tables.{KeepsShape, Table}
use Rattle.pipe_waiting.specs.ReadRows.{read_rows}
use Rattle.pipe_waiting.specs.Waiting.{AreWaiting, Left, left_rows, payload_read, Waiting, waiting_rows}
use Rattle.pipe_waiting.proofs.ReadBack.{count_read}
use Rattle.pipe_global.specs.Steps.{puts}
use Rattle.pipe_global.specs.Waits.{AllWait, bytes_waiting, count_waiting, payloads_read, rows_read}

-- ---- one after another

-- one that waits is as all are
pub one-waits : (types : List DataType) (ws : List Waiting) (i : ℕ) (w : Waiting) → i < length ws → w ≡ get_or ws i w → AllWait types ws → AreWaiting types w
one-waits types ws i w lt is all = subst (AreWaiting types) (sym is) (all i w lt)

-- none is left of no rows
pub none-left : (types : List DataType) (a : Left) → a.count ≡ 0 → left_rows types a ≡ []
none-left types a none = ap (λ n. read_rows types n a.bytes) none

-- ---- in another table

-- what waits is read in a table of the same shape as before
pub same-read : (t new : Table) (ws : List Waiting) → KeepsShape t new → payloads_read new.shape.input_types ws ≡ payloads_read t.shape.input_types ws
same-read t new ws keeps = ap (λ (s : Shape). payloads_read s.input_types ws) keeps.0

-- and has its types
pub same-wait : (t new : Table) (ws : List Waiting) → KeepsShape t new → AllWait t.shape.input_types ws → AllWait new.shape.input_types ws
same-wait t new ws keeps all = subst (λ (s : Shape). AllWait s.input_types ws) (sym keeps.0) all

-- ---- as a frame

-- how many rows wait
pub rows-count : (types : List DataType) (ws : List Waiting) → length (rows_read types ws) ≡ count_waiting ws
rows-count types [] = refl
rows-count types (w ∷ ws) =
    length-append (waiting_rows types w) (rows_read types ws)
    ∙ ap (λ n. n + length (rows_read types ws)) (count_read types w.count w.bytes)
    ∙ ap (λ n. w.count + n) (rows-count types ws)
    ∙ sym (sum_by-cons (λ (x : Waiting). x.count) w ws)

-- their bytes are those that wait
pub rows-bytes : (types : List DataType) (ws : List Waiting) → AllWait types ws → rows_bytes types (rows_read types ws) ≡ bytes_waiting ws
rows-bytes types [] all = refl
rows-bytes types (w ∷ ws) all =
    rows_bytes-append types (waiting_rows types w) (rows_read types ws)
    ∙ ap (λ (l : List ℕ). l ++ rows_bytes types (rows_read types ws)) (All-head (AreWaiting types) w ws all).whole
    ∙ ap (λ (l : List ℕ). w.bytes ++ l) (rows-bytes types ws (All-tail (AreWaiting types) w ws all))

-- the frame of what waits: the number of rows, and the bytes
pub frame-read : (types : List DataType) (ws : List Waiting) → AllWait types ws → bytes_high_first 8 (count_waiting ws) ++ bytes_waiting ws ≡ frame_bytes types (rows_read types ws)
frame-read types ws all =
    ap (λ n. bytes_high_first 8 n ++ bytes_waiting ws) (sym (rows-count types ws))
    ∙ ap (λ (l : List ℕ). bytes_high_first 8 (length (rows_read types ws)) ++ l) (sym (rows-bytes types ws all))

-- ---- more of them

-- the payloads, and one more
pub payloads-push : (types : List DataType) (ws : List Waiting) (w : Waiting) → payloads_read types (ws ++ w ∷ []) ≡ payloads_read types ws ++ payload_read types w ∷ []
payloads-push types ws w = map-append (payload_read types) ws (w ∷ [])

-- each has its types, and so has one more
pub wait-push : (types : List DataType) (ws : List Waiting) (w : Waiting) → AllWait types ws → AreWaiting types w → AllWait types (ws ++ w ∷ [])
wait-push types ws w all own = All-append (AreWaiting types) ws (w ∷ []) all (All-cons (AreWaiting types) w [] own (All-nil (AreWaiting types)))

-- there are as many rows as are counted
pub one-count : (types : List DataType) (w : Waiting) → length (waiting_rows types w) ≡ w.count
one-count types w = count_read types w.count w.bytes

-- the number of rows that are left
pub count-next : (ws : List Waiting) (i : ℕ) (w : Waiting) → i < length ws → w ≡ get_or ws i w → count_waiting (drop i ws) ≡ w.count + count_waiting (drop (i + 1) ws)
count-next ws i w lt is =
    let one : suc i ≡ i + 1 = omega arith in
    ap count_waiting (drop-cons ws i w lt ∙ ap (λ (x : Waiting). x ∷ drop (suc i) ws) (sym is) ∙ ap (λ n. w ∷ drop n ws) one)
    ∙ sum_by-cons (λ (x : Waiting). x.count) w (drop (i + 1) ws)

-- the bytes so far, and those of one more
pub bytes-more : (ws : List Waiting) (i : ℕ) (w : Waiting) → i < length ws → w ≡ get_or ws i w → bytes_waiting (take i ws) ++ w.bytes ≡ bytes_waiting (take (i + 1) ws)
bytes-more ws i w lt is = sym (
    ap bytes_waiting (take_more ws i w lt ∙ ap (λ (x : Waiting). take i ws ++ x ∷ []) (sym is))
    ∙ flat_map-append (λ (x : Waiting). x.bytes) (take i ws) (w ∷ [])
    ∙ ap (λ (l : List ℕ). bytes_waiting (take i ws) ++ l) (append-nil w.bytes)
    )

-- ---- a dump

-- so many payloads are no more than the limit, and none is put
pub puts-none : (types : List DataType) (ws : List Waiting) (limit n : ℕ) → n ≡ length ws → n ≤ limit → puts limit (payloads_read types ws) ≡ false
puts-none types ws limit n is le =
    let long : length (payloads_read types ws) ≡ length ws = length-map ws (payload_read types) in
    grind (arith, nat_tests)

-- or they are more
pub puts-some : (types : List DataType) (ws : List Waiting) (limit n : ℕ) → n ≡ length ws → limit < n → puts limit (payloads_read types ws) ≡ true
puts-some types ws limit n is lt =
    let long : length (payloads_read types ws) ≡ length ws = length-map ws (payload_read types) in
    grind (arith, nat_tests)

-- Chunks that are taken one by one of what a reader had left, and why this ends.
use Rattle.std.proofs.Common.{◌≡◌, ◌∙◌, ◌+◌, ◌^◌, ◌<◌, ◌&&◌, ◌++◌, ℕ, nat_lt, Bool, true, false, if◌then◌else◌, List, [], ◌∷◌, length, Option, Some, None, refl, sym, ap, subst, arith, length-append, ltb-true, lt-ltb}
use Rattle.std.specs.Option.{IfSome}
use Rattle.std.proofs.lemmas.Bool.{and_from, and_parts}
use Rattle.std.proofs.lemmas.List.{append_assoc, append-nil}
use Rattle.std.proofs.lemmas.List.Sums.{sum_by-append, sum_by-cons}
use Rattle.pipe_columns.specs.declared.data_chunk.DataChunk.{DataChunk}
use Rattle.pipe_csv.specs.CsvRows.{field, header, missing, width}
use Rattle.pipe_csv.specs.declared.csv_error.CsvError.{CsvError}
use Rattle.pipe_csv.specs.declared.csv_error.CsvError.TheVariants as csv_error
use Rattle.pipe_io.specs.Files.{Files}
use Rattle.pipe_model.specs.Rows.{total_height}
use Rattle.pipe_source.specs.CsvChunks.{chunks_then, CsvChunks, misfit, Stop, too_large}
use Rattle.pipe_source.specs.Reader.{chunks_left, Gives, ReaderState, stopped, StopsAt}
use Rattle.memory_runs.specs.Counts.{AreCounted, HasRoom, WereTaken}
use Rattle.memory_runs.specs.Left.{AreAll, Tells, TellsLeft}
use Rattle.memory_runs.specs.TextRuns.{are_few, end_of}
use Rattle.memory_runs.specs.declared.counted.Counted.{Counted}

-- ---- counts

-- counted chunks are few
pub few-counted : (n : Counted) (taken : List DataChunk) → AreCounted n taken → are_few taken ≡ true
few-counted n taken are =
    and_from (nat_lt (total_height taken) (2 ^ 32)) (nat_lt (length taken) (2 ^ 32)) (lt-ltb (total_height taken) (2 ^ 32) (omega (arith, are.rows, are.few_rows))) (lt-ltb (length taken) (2 ^ 32) (omega (arith, are.chunks, are.few_chunks)))

-- few chunks end where they stop
pub end-few : (chunks : List DataChunk) (stop : Option Stop) → are_few chunks ≡ true → end_of (record { chunks = chunks; stop = stop }) ≡ stop
end-few chunks stop few = ap (λ (b : Bool). if b then stop else Some too_large) few

-- one more
pub counted-more : (n now : Counted) (taken : List DataChunk) (c : DataChunk) → AreCounted n taken → HasRoom n c → now ≡ record { chunks = n.chunks + 1; rows = n.rows + c.frame.height } → AreCounted now (taken ++ c ∷ [])
counted-more n now taken c are room is =
    let high = sum_by-append (λ (d : DataChunk). d.frame.height) taken (c ∷ []) in
    let one = sum_by-cons (λ (d : DataChunk). d.frame.height) c [] in
    let count = length-append taken (c ∷ []) in
    let chunks : now.chunks ≡ n.chunks + 1 = ap (λ (m : Counted). m.chunks) is in
    let rows : now.rows ≡ n.rows + c.frame.height = ap (λ (m : Counted). m.rows) is in
    record {
      chunks = omega (arith, chunks, count, are.chunks);
      rows = omega (arith, rows, high, one, are.rows);
      few_chunks = omega (arith, chunks, room.chunks);
      few_rows = omega (arith, rows, room.rows);
    }

-- ---- why reading ends

-- files stop behind the chunks that were taken, which are few
stops : (n : Counted) (taken : List DataChunk) (stop : Stop) (left : CsvChunks) → AreCounted n taken → left ≡ stopped stop → end_of (chunks_then taken left) ≡ Some stop
stops n taken stop left are at =
    ap (λ (l : CsvChunks). end_of (chunks_then taken l)) at
    ∙ ap (λ (cs : List DataChunk). end_of (record { chunks = cs; stop = Some stop })) (append-nil taken)
    ∙ end-few taken (Some stop) (few-counted n taken are)

-- and the error tells that
at-stop : (n : Counted) (taken : List DataChunk) (e : CsvError) (left : CsvChunks) → AreCounted n taken → StopsAt e left → Tells e (end_of (chunks_then taken left))
at-stop n taken (csv_error.Missing file) left are at = stops n taken (misfit (missing file)) left are at
at-stop n taken (csv_error.Header file) left are at = stops n taken (misfit (header file)) left are at
at-stop n taken (csv_error.Width file row) left are at = stops n taken (misfit (width file row)) left are at
at-stop n taken (csv_error.Field file row column) left are at = stops n taken (misfit (field file row column)) left are at
at-stop n taken csv_error.TooLarge left are at = stops n taken too_large left are at
at-stop n taken csv_error.Input left are at = tt
at-stop n taken csv_error.Memory left are at = tt

pub stop-told : (told : Option Files) (n : Counted) (taken : List DataChunk) (r : ReaderState) (e : CsvError) → AreCounted n taken → IfSome told (λ files. StopsAt e (chunks_left files r))
    → IfSome told (λ files. Tells e (end_of (chunks_then taken (chunks_left files r))))
stop-told None n taken r e are at = tt
stop-told (Some files) n taken r e are at = at-stop n taken e (chunks_left files r) are at

-- one chunk more is too many
too-many : (n : Counted) (taken : List DataChunk) (c : DataChunk) (left new : CsvChunks) → AreCounted n taken → left ≡ chunks_then (c ∷ []) new → (HasRoom n c → ⊥)
    → end_of (chunks_then taken left) ≡ Some too_large
too-many n taken c left new are given full = by_case (are_few (taken ++ left.chunks)) refl where
  by_case : (b : Bool) → are_few (taken ++ left.chunks) ≡ b → end_of (chunks_then taken left) ≡ Some too_large
  by_case false is = ap (λ (b : Bool). if b then left.stop else Some too_large) is
  by_case true is =
      let chunks : left.chunks ≡ c ∷ new.chunks = ap (λ (l : CsvChunks). l.chunks) given in
      let both = and_parts (nat_lt (total_height (taken ++ left.chunks)) (2 ^ 32)) (nat_lt (length (taken ++ left.chunks)) (2 ^ 32)) is in
      let high = sum_by-append (λ (d : DataChunk). d.frame.height) taken left.chunks in
      let rest : total_height left.chunks ≡ total_height (c ∷ new.chunks) = ap total_height chunks in
      let one = sum_by-cons (λ (d : DataChunk). d.frame.height) c new.chunks in
      let count = length-append taken left.chunks in
      let long : length left.chunks ≡ length (c ∷ new.chunks) = ap (λ (l : List DataChunk). length l) chunks in
      absurd (full (record {
        rows = omega (arith, ltb-true (total_height (taken ++ left.chunks)) (2 ^ 32) both.0, high, rest, one, are.rows);
        chunks = omega (arith, ltb-true (length (taken ++ left.chunks)) (2 ^ 32) both.1, count, long, are.chunks);
      }))

pub many-told : (told : Option Files) (n : Counted) (taken : List DataChunk) (c : DataChunk) (old new : ReaderState) → AreCounted n taken → (HasRoom n c → ⊥)
    → IfSome told (λ files. Gives (Some c) (chunks_left files old) (chunks_left files new)) → IfSome told (λ files. end_of (chunks_then taken (chunks_left files old)) ≡ Some too_large)
many-told None n taken c old new are full given = tt
many-told (Some files) n taken c old new are full given = too-many n taken c (chunks_left files old) (chunks_left files new) are given full

-- so of all that was left first
pub first-told : (told : Option Files) (first old : ReaderState) (taken : List DataChunk) (e : CsvError) → WereTaken told first taken old
    → IfSome told (λ files. Tells e (end_of (chunks_then taken (chunks_left files old)))) → TellsLeft e told first
first-told None first old taken e h t = tt
first-told (Some files) first old taken e h t = subst (λ (l : CsvChunks). Tells e (end_of l)) (sym h) t

-- ---- what was taken

-- nothing is taken yet
pub taken-none : (told : Option Files) (r : ReaderState) (taken : List DataChunk) → taken ≡ [] → WereTaken told r taken r
taken-none None r taken none = tt
taken-none (Some files) r taken none = subst (λ (cs : List DataChunk). chunks_left files r ≡ chunks_then cs (chunks_left files r)) (sym none) refl

-- one more behind what was
pub taken-then : (told : Option Files) (first old new : ReaderState) (taken now : List DataChunk) (c : DataChunk) → now ≡ taken ++ c ∷ [] → WereTaken told first taken old
    → IfSome told (λ files. Gives (Some c) (chunks_left files old) (chunks_left files new)) → WereTaken told first now new
taken-then None first old new taken now c is h g = tt
taken-then (Some files) first old new taken now c is h g =
    subst (λ (cs : List DataChunk). chunks_left files first ≡ chunks_then cs (chunks_left files new)) (sym is)
    (h ∙ ap (chunks_then taken) g ∙ ap (λ (cs : List DataChunk). record { chunks = cs; stop = (chunks_left files new).stop }) (sym (append_assoc taken (c ∷ []) (chunks_left files new).chunks)))

-- once none is left, all were
pub taken-all : (told : Option Files) (first old new : ReaderState) (taken : List DataChunk) → WereTaken told first taken old
    → IfSome told (λ files. Gives None (chunks_left files old) (chunks_left files new)) → AreAll told first taken
taken-all None first old new taken h none = tt
taken-all (Some files) first old new taken h none = h ∙ ap (chunks_then taken) none.0 ∙ ap (λ (cs : List DataChunk). record { chunks = cs; stop = None }) (append-nil taken)

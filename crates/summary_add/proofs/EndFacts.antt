-- Why adding ends, and that it does not.
use Rattle.std.proofs.Common.{◌≡◌, ◌∙◌, ◌+◌, ◌^◌, ℕ, nat_lt, Bool, true, if◌then◌else◌, List, length, Option, Some, None, refl, sym, ap, subst, lt-ltb}
use Rattle.std.specs.Option.{IfSome}
use Rattle.std.proofs.lemmas.Bool.{and_from}
use Rattle.pipe_columns.specs.declared.data_chunk.DataChunk.{DataChunk}
use Rattle.pipe_csv.specs.declared.csv_error.CsvError.{CsvError}
use Rattle.pipe_io.specs.Files.{Files}
use Rattle.pipe_model.specs.Rows.{total_height}
use Rattle.pipe_source.specs.CsvChunks.{chunks_then, CsvChunks, Stop, too_large}
use Rattle.pipe_source.specs.Reader.{chunks_left, ReaderState}
use Rattle.pipe_source.specs.Rounds.{StopsWithin}
use Rattle.pipe_summary.specs.Additions.{AreFewBehind}
use Rattle.rollup_save.specs.Saves.{Tells}
use Rattle.summary_add.specs.Adds.{are_few_behind, end_behind}

-- few chunks are told few
few-true : (rows first : ℕ) (chunks : List DataChunk) → AreFewBehind rows first chunks → are_few_behind rows first chunks ≡ true
few-true rows first chunks few =
    and_from (nat_lt (rows + total_height chunks) (2 ^ 32)) (nat_lt (first + length chunks) (2 ^ 32)) (lt-ltb (rows + total_height chunks) (2 ^ 32) few.rows) (lt-ltb (first + length chunks) (2 ^ 32) few.positions)

-- few chunks end where they stop
pub end-few : (rows first : ℕ) (chunks : List DataChunk) (stop : Option Stop) → AreFewBehind rows first chunks → end_behind rows first (record { chunks = chunks; stop = stop }) ≡ stop
end-few rows first chunks stop few = ap (λ (b : Bool). if b then stop else Some too_large) (few-true rows first chunks few)

-- behind as many rows, from the same position on
pub few-same : {rows n first i : ℕ} {chunks : List DataChunk} → n ≡ rows → i ≡ first → AreFewBehind n i chunks → AreFewBehind rows first chunks
few-same {rows} {n} {first} {i} {chunks} same start few =
    subst (λ m. AreFewBehind rows m chunks) start (subst (λ m. AreFewBehind m i chunks) same few)

-- the rest stops there
pub stop-told : (told : Option Files) (rows first most : ℕ) (now : ReaderState) (taken chunks : List DataChunk) (e result : CsvError)
    → ((left : CsvChunks) (most : ℕ) → StopsWithin most e chunks left → Tells result (end_behind rows first (chunks_then taken left))) → IfSome told (λ files. StopsWithin most e chunks (chunks_left files now))
    → IfSome told (λ files. Tells result (end_behind rows first (chunks_then taken (chunks_left files now))))
stop-told None rows first most now taken chunks e result ends stops = tt
stop-told (Some files) rows first most now taken chunks e result ends stops = ends (chunks_left files now) most stops

-- Chunks that are taken one by one of what a reader had left, and why this ends.
use Rattle.std.proofs.Common.{◌≡◌, ◌∙◌, ◌+◌, ◌^◌, ◌<◌, ◌&&◌, ◌++◌, ℕ, nat_lt, Bool, true, false, if◌then◌else◌, List, [], ◌∷◌, length, Option, Some, None, refl, sym, ap, subst, arith, length-append, ltb-true}
use Rattle.std.specs.Option.{IfSome}
use Rattle.std.proofs.lemmas.Bool.{and_parts}
use Rattle.std.proofs.lemmas.List.{append-nil}
use Rattle.std.proofs.lemmas.List.Sums.{sum_by-append, sum_by-cons}
use Rattle.pipe_columns.specs.declared.data_chunk.DataChunk.{DataChunk}
use Rattle.pipe_csv.specs.CsvRows.{field, header, missing, width}
use Rattle.pipe_csv.specs.declared.csv_error.CsvError.{CsvError}
use Rattle.pipe_csv.specs.declared.csv_error.CsvError.TheVariants as csv_error
use Rattle.pipe_io.specs.Files.{Files}
use Rattle.pipe_model.specs.Rows.{total_height}
use Rattle.pipe_saving.specs.Refusals.{AreFew}
use Rattle.pipe_source.specs.CsvChunks.{chunks_then, CsvChunks, misfit, no_more, Stop, too_large}
use Rattle.pipe_source.specs.Reader.{chunks_left, Gives, ReaderState, stopped, StopsAt}
use Rattle.rollup_save.specs.Saves.{are_few, end_of, Tells}
use Rattle.rollup_save.proofs.RoundFacts.{end-few}

-- ---- why reading ends

-- files stop behind the chunks that were taken, which are few
stops : (first : ℕ) (taken : List DataChunk) (stop : Stop) (left : CsvChunks) → AreFew first taken → left ≡ stopped stop → end_of first (chunks_then taken left) ≡ Some stop
stops first taken stop left few at =
    ap (λ (l : CsvChunks). end_of first (chunks_then taken l)) at
    ∙ ap (λ (cs : List DataChunk). end_of first (record { chunks = cs; stop = Some stop })) (append-nil taken)
    ∙ end-few first taken (Some stop) few

-- and the error tells that
at-stop : (first : ℕ) (taken : List DataChunk) (e : CsvError) (left : CsvChunks) → AreFew first taken → StopsAt e left → Tells e (end_of first (chunks_then taken left))
at-stop first taken (csv_error.Missing file) left few at = stops first taken (misfit (missing file)) left few at
at-stop first taken (csv_error.Header file) left few at = stops first taken (misfit (header file)) left few at
at-stop first taken (csv_error.Width file row) left few at = stops first taken (misfit (width file row)) left few at
at-stop first taken (csv_error.Field file row column) left few at = stops first taken (misfit (field file row column)) left few at
at-stop first taken csv_error.TooLarge left few at = stops first taken too_large left few at
at-stop first taken csv_error.Input left few at = tt
at-stop first taken csv_error.Memory left few at = tt

pub stop-told : (told : Option Files) (first : ℕ) (taken : List DataChunk) (r : ReaderState) (e : CsvError) → AreFew first taken → IfSome told (λ files. StopsAt e (chunks_left files r))
    → IfSome told (λ files. Tells e (end_of first (chunks_then taken (chunks_left files r))))
stop-told None first taken r e few at = tt
stop-told (Some files) first taken r e few at = at-stop first taken e (chunks_left files r) few at

-- one chunk more is too many
too-many : (first : ℕ) (taken : List DataChunk) (c : DataChunk) (left new : CsvChunks) → left ≡ chunks_then (c ∷ []) new → (AreFew first (taken ++ c ∷ []) → ⊥)
    → end_of first (chunks_then taken left) ≡ Some too_large
too-many first taken c left new given full = by_case (are_few first (taken ++ left.chunks)) refl where
  by_case : (b : Bool) → are_few first (taken ++ left.chunks) ≡ b → end_of first (chunks_then taken left) ≡ Some too_large
  by_case false is = ap (λ (b : Bool). if b then left.stop else Some too_large) is
  by_case true is =
      let chunks : left.chunks ≡ c ∷ new.chunks = ap (λ (l : CsvChunks). l.chunks) given in
      let both = and_parts (nat_lt (total_height (taken ++ left.chunks)) (2 ^ 32)) (nat_lt (first + length (taken ++ left.chunks)) (2 ^ 32)) is in
      let high = sum_by-append (λ (d : DataChunk). d.frame.height) taken left.chunks in
      let next = sum_by-append (λ (d : DataChunk). d.frame.height) taken (c ∷ []) in
      let rest : total_height left.chunks ≡ total_height (c ∷ new.chunks) = ap total_height chunks in
      let one = sum_by-cons (λ (d : DataChunk). d.frame.height) c new.chunks in
      let alone = sum_by-cons (λ (d : DataChunk). d.frame.height) c [] in
      let count = length-append taken left.chunks in
      let more = length-append taken (c ∷ []) in
      let long : length left.chunks ≡ length (c ∷ new.chunks) = ap (λ (l : List DataChunk). length l) chunks in
      absurd (full (record {
        rows = omega (arith, ltb-true (total_height (taken ++ left.chunks)) (2 ^ 32) both.0, high, next, rest, one, alone);
        positions = omega (arith, ltb-true (first + length (taken ++ left.chunks)) (2 ^ 32) both.1, count, more, long);
      }))

pub many-told : (told : Option Files) (first : ℕ) (taken : List DataChunk) (c : DataChunk) (old new : ReaderState) → (AreFew first (taken ++ c ∷ []) → ⊥)
    → IfSome told (λ files. Gives (Some c) (chunks_left files old) (chunks_left files new)) → IfSome told (λ files. end_of first (chunks_then taken (chunks_left files old)) ≡ Some too_large)
many-told None first taken c old new full given = tt
many-told (Some files) first taken c old new full given = too-many first taken c (chunks_left files old) (chunks_left files new) given full

-- ---- what was left first

-- an error that tells where what is left ends tells so of all that was
pub first-told : (told : Option Files) (n : ℕ) (first old : ReaderState) (taken : List DataChunk) (e : CsvError) → IfSome told (λ files. chunks_left files first ≡ chunks_then taken (chunks_left files old))
    → IfSome told (λ files. Tells e (end_of n (chunks_then taken (chunks_left files old)))) → IfSome told (λ files. Tells e (end_of n (chunks_left files first)))
first-told None n first old taken e h t = tt
first-told (Some files) n first old taken e h t = subst (λ (l : CsvChunks). Tells e (end_of n l)) (sym h) t

-- none is left where none was given
pub none-left : (told : Option Files) (old new : ReaderState) → IfSome told (λ files. Gives None (chunks_left files old) (chunks_left files new)) → IfSome told (λ files. chunks_left files old ≡ no_more)
none-left None old new none = tt
none-left (Some files) old new none = none.0

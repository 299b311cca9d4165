-- Chunks that are taken round by round of what a reader had left, and why this ends.
use Rattle.std.proofs.Common.{◌≡◌, ◌∙◌, ◌+◌, ◌^◌, ◌++◌, ℕ, nat_lt, Bool, true, if◌then◌else◌, List, [], length, Option, Some, None, refl, sym, ap, subst, lt-ltb}
use Rattle.std.specs.Option.{IfSome}
use Rattle.std.proofs.lemmas.Bool.{and_from}
use Rattle.std.proofs.lemmas.List.{append_assoc, append-nil}
use Rattle.std.proofs.lemmas.List.Elements.{All-append, All-nil}
use Rattle.pipe_columns.specs.declared.data_chunk.DataChunk.{DataChunk}
use Rattle.pipe_columns.specs.declared.schema.Field.{Field}
use Rattle.pipe_columns.specs.Frame.{FitsSchema}
use Rattle.pipe_csv.specs.declared.csv_error.CsvError.{CsvError}
use Rattle.pipe_io.specs.Files.{Files}
use Rattle.pipe_model.specs.Rows.{total_height}
use Rattle.pipe_saving.specs.Refusals.{AllFit, AreFew}
use Rattle.pipe_source.specs.CsvChunks.{chunks_then, CsvChunks, no_more, Stop, too_large}
use Rattle.pipe_source.specs.Reader.{chunks_left, ReaderState}
use Rattle.pipe_source.specs.Rounds.{StopsWithin}
use Rattle.rollup_save.specs.Saves.{are_few, end_of, Tells}
use Rattle.rollup_save.specs.Taken.{WereTaken}

-- ---- where saving ends

-- few chunks are told few
few-true : (first : ℕ) (chunks : List DataChunk) → AreFew first chunks → are_few first chunks ≡ true
few-true first chunks few =
    and_from (nat_lt (total_height chunks) (2 ^ 32)) (nat_lt (first + length chunks) (2 ^ 32)) (lt-ltb (total_height chunks) (2 ^ 32) few.rows) (lt-ltb (first + length chunks) (2 ^ 32) few.positions)

-- few chunks end where they stop
pub end-few : (first : ℕ) (chunks : List DataChunk) (stop : Option Stop) → AreFew first chunks → end_of first (record { chunks = chunks; stop = stop }) ≡ stop
end-few first chunks stop few = ap (λ (b : Bool). if b then stop else Some too_large) (few-true first chunks few)

-- ---- what was taken

-- nothing is taken yet
pub taken-none : (told : Option Files) (r : ReaderState) (taken : List DataChunk) → taken ≡ [] → WereTaken told r taken r
taken-none None r taken none = tt
taken-none (Some files) r taken none = subst (λ (cs : List DataChunk). chunks_left files r ≡ chunks_then cs (chunks_left files r)) (sym none) refl

-- chunks that were fed are taken
pub fed-taken : (taken more given now : List DataChunk) → given ≡ more → now ≡ taken ++ given → now ≡ taken ++ more
fed-taken taken more given now same is = is ∙ ap (λ (l : List DataChunk). taken ++ l) same

-- more behind what was
pub taken-then : (told : Option Files) (first old new : ReaderState) (taken more now : List DataChunk) → now ≡ taken ++ more → WereTaken told first taken old → WereTaken told old more new → WereTaken told first now new
taken-then None first old new taken more now is h g = tt
taken-then (Some files) first old new taken more now is h g =
    subst (λ (cs : List DataChunk). chunks_left files first ≡ chunks_then cs (chunks_left files new)) (sym is)
    (h ∙ ap (chunks_then taken) g ∙ ap (λ (cs : List DataChunk). record { chunks = cs; stop = (chunks_left files new).stop }) (sym (append_assoc taken more (chunks_left files new).chunks)))

-- once none is left, all were
pub taken-all : (told : Option Files) (first now : ReaderState) (taken : List DataChunk) → WereTaken told first taken now → IfSome told (λ files. chunks_left files now ≡ no_more)
    → IfSome told (λ files. chunks_left files first ≡ record { chunks = taken; stop = None })
taken-all None first now taken h none = tt
taken-all (Some files) first now taken h none = h ∙ ap (chunks_then taken) none ∙ ap (λ (cs : List DataChunk). record { chunks = cs; stop = None }) (append-nil taken)

-- ---- why this ends

-- the rest stops there
pub stop-told : (told : Option Files) (n most : ℕ) (now : ReaderState) (taken chunks : List DataChunk) (e result : CsvError)
    → ((left : CsvChunks) (most : ℕ) → StopsWithin most e chunks left → Tells result (end_of n (chunks_then taken left))) → IfSome told (λ files. StopsWithin most e chunks (chunks_left files now))
    → IfSome told (λ files. Tells result (end_of n (chunks_then taken (chunks_left files now))))
stop-told None n most now taken chunks e result ends stops = tt
stop-told (Some files) n most now taken chunks e result ends stops = ends (chunks_left files now) most stops

-- ---- chunks of a schema

-- none
pub fit-none : (fields : List Field) (taken : List DataChunk) → taken ≡ [] → AllFit fields taken
fit-none fields taken none = subst (AllFit fields) (sym none) (All-nil (λ (c : DataChunk). FitsSchema fields c.frame))

-- more behind those that were taken
pub fit-more : (fields read : List Field) (taken more : List DataChunk) → read ≡ fields → AllFit fields taken → AllFit read more → AllFit fields (taken ++ more)
fit-more fields read taken more same one two =
    All-append (λ (c : DataChunk). FitsSchema fields c.frame) taken more one (subst (λ (f : List Field). AllFit f more) same two)

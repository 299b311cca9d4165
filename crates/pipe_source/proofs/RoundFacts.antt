-- Chunks that are read of one file after another.
use Rattle.std.proofs.Common.{◌≡◌, ◌∙◌, ◌≤◌, ◌<◌, ◌+◌, ◌-◌, ◌*◌, ℕ, zero, suc, List, [], ◌∷◌, ◌++◌, length, map, min, Option, Some, None, refl, sym, ap, arith, subst, append_assoc, zero-mul, ◌⊎◌, ⊎_elim}
use Rattle.std.specs.Option.{IfSome}
use Rattle.std.specs.List.{All, range_with_len}
use Rattle.std.proofs.lemmas.List.{append-nil, length-append, length-map}
use Rattle.std.proofs.lemmas.List.Elements.{All-append, All-cons, All-nil}
use Rattle.pipe_columns.specs.declared.data_chunk.DataChunk.{DataChunk}
use Rattle.pipe_columns.specs.Frame.{FitsSchema}
use Rattle.pipe_csv.specs.declared.csv_error.CsvError.{CsvError}
use Rattle.pipe_csv.specs.declared.csv_error.CsvError.TheVariants as ce
use Rattle.pipe_io.specs.Files.{Files}
use Rattle.pipe_source.specs.CsvChunks.{CsvChunks, Stop, chunks_then, no_more, wanted_fields}
use Rattle.pipe_source.specs.Reader.{StopsAt, given_fields, chunks_left, stopped}
use Rattle.pipe_source.specs.Kept.{IsAdvanced, IsGone, HasRowsLeft, IsSourcePlace, IsFitReading, kept_chunk, chunks_at, name_kept, piece_at, place_behind, rows_kept, state_behind, kept_state}
use Rattle.pipe_source.specs.Next.{IsTextOfNext}
use Rattle.pipe_source.specs.ReadOn.{HasReadNext, HasReadOn, state_ahead}
use Rattle.pipe_source.specs.Rounds.{HasStop, StopsWithin}
use Rattle.pipe_source.specs.declared.kept_text.KeptText.{KeptText}
use Rattle.pipe_source.specs.declared.reading.Reading.{Reading}
use Rattle.pipe_source.specs.declared.source_place.SourcePlace.{SourcePlace}
use Rattle.pipe_source.proofs.KeptFacts.{chunk-there, chunks-given, few-chunks, kept-behind, kept-none}
use Rattle.pipe_source.proofs.ReaderFacts.{behind-rows, given-fits}

-- where one list is left behind some chunks, and another behind others, all are
pub then-then : (xs ys : List DataChunk) (rest : CsvChunks) → chunks_then xs (chunks_then ys rest) ≡ chunks_then (xs ++ ys) rest
then-then xs ys rest = ap (λ (cs : List DataChunk). record { chunks = cs; stop = rest.stop }) (sym (append_assoc xs ys rest.chunks))

-- so many chunks
length-range : (first n : ℕ) → length (range_with_len first n) ≡ n
length-range first zero = refl
length-range first (suc n) = ap (λ k. suc k) (length-range (first + 1) n)

pub length-chunks : (what : Reading) (k : KeptText) (n : ℕ) → length (chunks_at what k n) ≡ n
length-chunks what k n = length-map (range_with_len 0 n) (kept_chunk what k) ∙ length-range 0 n

pub length-given : (what : Reading) (k : KeptText) (n : ℕ) (cs : List DataChunk) → cs ≡ chunks_at what k n → length cs ≡ n
length-given what k n cs e = ap length e ∙ length-chunks what k n

-- each of them has the given fields
all-fit : (what : Reading) (k : KeptText) (ns : List ℕ) → All (λ c. FitsSchema (wanted_fields what.options what.schema what.wanted.items) c.frame) (map (kept_chunk what k) ns)
all-fit what k [] = All-nil (λ (c : DataChunk). FitsSchema (wanted_fields what.options what.schema what.wanted.items) c.frame)
all-fit what k (n ∷ ns) =
    All-cons (λ (c : DataChunk). FitsSchema (wanted_fields what.options what.schema what.wanted.items) c.frame) (kept_chunk what k n) (map (kept_chunk what k) ns)
    (given-fits what.options what.wanted.items what.schema (name_kept what k) (place_behind k.at what.options.chunk_size n) (piece_at what.options.chunk_size n (rows_kept what k))) (all-fit what k ns)

pub chunks-fit : (what : Reading) (k : KeptText) (n : ℕ) → All (λ c. FitsSchema (wanted_fields what.options what.schema what.wanted.items) c.frame) (chunks_at what k n)
chunks-fit what k n = all-fit what k (range_with_len 0 n)

-- behind all chunks of a text no row of it is left
pub none-kept : (what : Reading) (n : ℕ) (old new : KeptText) → HasRowsLeft what old → IsAdvanced what.options.chunk_size n old new → n ≡ length old.starts.items - old.chunk → rows_kept what new ≡ []
none-kept what n old new k a e =
    let enough : old.left ≤ n * what.options.chunk_size = subst (λ i. old.left ≤ i * what.options.chunk_size) (sym e) k.starts.all in
    let none : new.left ≡ 0 = omega (arith, a.left) in
    rw none refl

-- so what is left is behind its place
pub behind-all : (files : Files) (what : Reading) (n : ℕ) (old new : KeptText) → HasRowsLeft what old → IsAdvanced what.options.chunk_size n old new → n ≡ length old.starts.items - old.chunk → chunks_left files (kept_state what new) ≡ chunks_left files (state_behind what new.at)
behind-all files what n old new k a e = behind-rows files (kept_state what new) (none-kept what n old new k a e)

-- a place behind few rows and chunks
pub place-kept : (what : Reading) (k : KeptText) → HasRowsLeft what k → IsSourcePlace what k.at
place-kept what k kept = record { files = kept.files; rows = omega (arith, kept.few_rows); chunks = omega (arith, kept.few_chunks) }

-- ---- the next file

told-given : (told : Option Files) (what : Reading) (last : SourcePlace) (n : ℕ) (old new : KeptText) → IsFitReading what → IsTextOfNext what told last old → IsAdvanced what.options.chunk_size n old new → old.chunk + n ≤ length old.starts.items
    → IfSome told (λ files. chunks_left files (state_behind what last) ≡ chunks_then (chunks_at what old n) (chunks_left files (kept_state what new)))
told-given None what last n old new reading h a w = tt
told-given (Some files) what last n old new reading h a w = sym h.same ∙ chunks-given files what n old new reading h.kept a w

told-behind : (told : Option Files) (what : Reading) (n : ℕ) (old new : KeptText) → HasRowsLeft what old → IsAdvanced what.options.chunk_size n old new → n ≡ length old.starts.items - old.chunk → IfSome told (λ files. chunks_left files (kept_state what new) ≡ chunks_left files (state_behind what new.at))
told-behind None what n old new k a e = tt
told-behind (Some files) what n old new k a e = behind-all files what n old new k a e

pub has-read-next : (what : Reading) (told : Option Files) (last : SourcePlace) (before now : List DataChunk) (count n : ℕ) (old new : KeptText)
    → IsFitReading what → IsTextOfNext what told last old → IsAdvanced what.options.chunk_size n old new → length before < count → n ≡ min (length old.starts.items - old.chunk) (count - length before) → now ≡ before ++ chunks_at what old n → HasReadNext what told last before now count new
has-read-next what told last before now count n old new reading h a few e p =
    let size : ℕ = what.options.chunk_size in
    let starts = h.kept.starts in
    let within : old.chunk + n ≤ length old.starts.items = omega (arith, starts.within) in
    let first : 0 * size < old.left = rw (zero-mul size) h.some in
    let there : old.chunk + 0 < length old.starts.items = chunk-there old.text.items size old.left 0 old.starts.items old.chunk starts first in
    let many : length now ≡ length before + n = ap length p ∙ length-append before (chunks_at what old n) ∙ ap (λ k. length before + k) (length-chunks what old n) in
    let kept = kept-behind what n old new reading h.kept a within in
    record {
      kept = kept;
      more = chunks_at what old n;
      pushed = p;
      some = omega (arith, many, there);
      few = omega (arith, many);
      left = told-given told what last n old new reading h a within;
      fit = chunks-fit what old n;
      place = place-kept what new kept;
      all = λ fewer. told-behind told what n old new h.kept a (omega (arith, many));
    }

-- a text of which no row is left may go, and another without rows stand at its place
told-gone : (told : Option Files) (what : Reading) (last : SourcePlace) (more : List DataChunk) (old new : KeptText) → IsGone old new
    → IfSome told (λ files. chunks_left files (state_behind what last) ≡ chunks_then more (chunks_left files (kept_state what old))) → IfSome told (λ files. chunks_left files (state_behind what last) ≡ chunks_then more (chunks_left files (kept_state what new)))
told-gone None what last more old new gone h = tt
told-gone (Some files) what last more old new gone h =
    let before = behind-rows files (kept_state what old) (rw gone.over refl) in
    let place = ap (λ (at : SourcePlace). chunks_left files (state_behind what at)) (sym gone.at) in
    let after = behind-rows files (kept_state what new) (rw gone.left refl) in
    h ∙ ap (chunks_then more) (before ∙ place ∙ sym after)

gone-behind : (told : Option Files) (what : Reading) (k : KeptText) → k.left ≡ 0 → IfSome told (λ files. chunks_left files (kept_state what k) ≡ chunks_left files (state_behind what k.at))
gone-behind None what k l = tt
gone-behind (Some files) what k l = behind-rows files (kept_state what k) (rw l refl)

pub read-or-none : (what : Reading) (told : Option Files) (last : SourcePlace) (before now : List DataChunk) (count : ℕ) (old new : KeptText) → HasReadNext what told last before now count old → (0 < old.left → new ≡ old) → (old.left ≡ 0 → IsGone old new) → HasReadNext what told last before now count new
read-or-none what told last before now count old new h same gone = by old.left refl where
  by : (n : ℕ) → old.left ≡ n → HasReadNext what told last before now count new
  by (suc n) e = subst (HasReadNext what told last before now count) (sym (same (omega (arith, e)))) h
  by zero e =
      let g = gone e in
      let place : IsSourcePlace what new.at = subst (IsSourcePlace what) (sym g.at) h.place in
      record {
        kept = kept-none what new place g.layout g.text g.starts g.chunk g.left;
        more = h.more;
        pushed = h.pushed;
        some = h.some;
        few = h.few;
        left = told-gone told what last h.more old new g h.left;
        fit = h.fit;
        place = place;
        all = λ fewer. gone-behind told what new g.left;
      }

-- ---- files one after another

-- none is read yet
pub read-none : (what : Reading) (told : Option Files) (first : SourcePlace) (before : List DataChunk) → HasReadOn what told first before before None
read-none what told first before = record {
  kept = tt;
  more = [];
  pushed = sym (append-nil before);
  left = none told;
  fit = All-nil (λ (c : DataChunk). FitsSchema (given_fields (state_behind what first)) c.frame);
} where
  none : (told : Option Files) → IfSome told (λ files. chunks_left files (state_behind what first) ≡ chunks_then [] (chunks_left files (state_behind what first)))
  none None = tt
  none (Some files) = refl

-- where files are told, what is left where a reader stands is what is left behind a place
abbrev pub StandsAt : Reading → Option Files → SourcePlace → Option KeptText → SourcePlace → Type 0
StandsAt what told first ahead last = IfSome told (λ files. chunks_left files (state_ahead what first ahead) ≡ chunks_left files (state_behind what last))

pub stands-first : (what : Reading) (told : Option Files) (first : SourcePlace) → StandsAt what told first None first
stands-first what None first = tt
stands-first what (Some files) first = refl

told-more : (told : Option Files) (what : Reading) (first last : SourcePlace) (ahead : Option KeptText) (k : KeptText) (more some : List DataChunk)
    → IfSome told (λ files. chunks_left files (state_behind what first) ≡ chunks_then more (chunks_left files (state_ahead what first ahead))) → StandsAt what told first ahead last
    → IfSome told (λ files. chunks_left files (state_behind what last) ≡ chunks_then some (chunks_left files (kept_state what k)))
    → IfSome told (λ files. chunks_left files (state_behind what first) ≡ chunks_then (more ++ some) (chunks_left files (kept_state what k)))
told-more None what first last ahead k more some a b c = tt
told-more (Some files) what first last ahead k more some a b c = a ∙ ap (chunks_then more) (b ∙ c) ∙ then-then more some (chunks_left files (kept_state what k))

-- one more file is read
pub read-more : (what : Reading) (told : Option Files) (first last : SourcePlace) (before now new : List DataChunk) (count : ℕ) (ahead : Option KeptText) (k : KeptText)
    → HasReadOn what told first before now ahead → StandsAt what told first ahead last → HasReadNext what told last now new count k → HasReadOn what told first before new (Some k)
read-more what told first last before now new count ahead k r s n = record {
  kept = n.kept;
  more = r.more ++ n.more;
  pushed = n.pushed ∙ ap (λ (t : List DataChunk). t ++ n.more) r.pushed ∙ append_assoc before r.more n.more;
  left = told-more told what first last ahead k r.more n.more r.left s n.left;
  fit = All-append (λ (c : DataChunk). FitsSchema (given_fields (state_behind what first)) c.frame) r.more n.more r.fit n.fit;
}

-- none is left behind the last
pub none-ahead : (what : Reading) (told : Option Files) (first last : SourcePlace) (ahead : Option KeptText) → StandsAt what told first ahead last → IfSome told (λ files. chunks_left files (state_behind what last) ≡ no_more) → IfSome told (λ files. chunks_left files (state_ahead what first ahead) ≡ no_more)
none-ahead what None first last ahead s h = tt
none-ahead what (Some files) first last ahead s h = s ∙ h

-- a stop behind chunks that were read, which are few
stop-then : (n : ℕ) (stop : Stop) (before more now : List DataChunk) (first last : CsvChunks) → first ≡ chunks_then more last → now ≡ before ++ more → last ≡ stopped stop → length now < n → HasStop n stop now (chunks_then before first)
stop-then n stop before more now first last f p l few = (
  ap (chunks_then before) (f ∙ ap (chunks_then more) l) ∙ ap (λ (cs : List DataChunk). record { chunks = before ++ cs; stop = Some stop }) (append-nil more)
      ∙ ap (λ (cs : List DataChunk). record { chunks = cs; stop = Some stop }) (sym p),
  few,
)

stops-then : (e : CsvError) (n : ℕ) (before more now : List DataChunk) (first last : CsvChunks) → first ≡ chunks_then more last → now ≡ before ++ more → length now < n → StopsAt e last → StopsWithin n e now (chunks_then before first)
stops-then (ce.Missing file) n before more now first last f p few s = stop-then n _ before more now first last f p s few
stops-then (ce.Header file) n before more now first last f p few s = stop-then n _ before more now first last f p s few
stops-then (ce.Width file row) n before more now first last f p few s = stop-then n _ before more now first last f p s few
stops-then (ce.Field file row column) n before more now first last f p few s = stop-then n _ before more now first last f p s few
stops-then ce.Input n before more now first last f p few s = tt
stops-then ce.TooLarge n before more now first last f p few s = stop-then n _ before more now first last f p s few
stops-then ce.Memory n before more now first last f p few s = tt

-- where memory wants nothing is said, and else no chunk came behind those that were read
stops-kept : (e : CsvError) (n : ℕ) (now new : List DataChunk) (whole : CsvChunks) → (e ≡ ce.Memory) ⊎ (new ≡ now) → StopsWithin n e now whole → StopsWithin n e new whole
stops-kept e n now new whole kept h = ⊎_elim
    (λ memory. subst (λ (x : CsvError). StopsWithin n x new whole) (sym memory) tt)
    (λ same. subst (λ (cs : List DataChunk). StopsWithin n e cs whole) (sym same) h)
    kept

-- the files stop behind what was read
pub stops-behind : (what : Reading) (told : Option Files) (first last : SourcePlace) (before now new : List DataChunk) (count : ℕ) (ahead : Option KeptText) (e : CsvError)
    → HasReadOn what told first before now ahead → StandsAt what told first ahead last → length now < count → (e ≡ ce.Memory) ⊎ (new ≡ now) → IfSome told (λ files. StopsAt e (chunks_left files (state_behind what last)))
    → IfSome told (λ files. StopsWithin count e new (chunks_then before (chunks_left files (state_behind what first))))
stops-behind what None first last before now new count ahead e r s few kept h = tt
stops-behind what (Some files) first last before now new count ahead e r s few kept h =
    stops-kept e count now new _ kept (stops-then e count before r.more now _ _ (r.left ∙ ap (chunks_then r.more) s) r.pushed few h)

-- ---- a round

-- the place behind all rows that are left of a text
abbrev pub place_past : KeptText → SourcePlace
place_past k = record { file = k.at.file; chunks = k.at.chunks + (length k.starts.items - k.chunk); rows = k.at.rows + k.left }

-- so many chunks of a text are left
pub within-all : (what : Reading) (k : KeptText) (n count : ℕ) → HasRowsLeft what k → n ≡ min (length k.starts.items - k.chunk) count → k.chunk + n ≤ length k.starts.items
within-all what k n count kept e = omega (arith, kept.starts.within)

pub within-left : (what : Reading) (k : KeptText) (left n count : ℕ) → HasRowsLeft what k → n ≡ min left count → left ≡ length k.starts.items - k.chunk → k.chunk + n ≤ length k.starts.items
within-left what k left n count kept e l = omega (arith, kept.starts.within)

pub some-left : (k : KeptText) (left n count : ℕ) → n ≡ min left count → left ≡ length k.starts.items - k.chunk → n ≡ min (length k.starts.items - k.chunk) count
some-left k left n count e l = e ∙ ap (λ m. min m count) l

-- it has few rows and chunks before it
pub place-past : (what : Reading) (k : KeptText) → IsFitReading what → HasRowsLeft what k → IsSourcePlace what (place_past k)
place-past what k reading kept =
    let n : ℕ = length k.starts.items - k.chunk in
    let few = few-chunks what.options.chunk_size k.left n k.text.items k.starts.items k.chunk _ refl reading.size kept.starts (omega (arith, kept.starts.within)) in
    record { files = kept.files; rows = kept.few_rows; chunks = omega (arith, kept.few_chunks, few) }

-- all chunks of a text go, and the next files are left behind it
past-given : (files : Files) (what : Reading) (k : KeptText) (n : ℕ) → IsFitReading what → HasRowsLeft what k → n ≡ length k.starts.items - k.chunk → chunks_left files (kept_state what k) ≡ chunks_then (chunks_at what k n) (chunks_left files (state_behind what (place_past k)))
past-given files what k n reading kept e =
    let size : ℕ = what.options.chunk_size in
    let enough : k.left ≤ n * size = subst (λ i. k.left ≤ i * size) (sym e) kept.starts.all in
    let past : KeptText = record { at = place_past k; layout = k.layout; text = k.text; starts = k.starts; chunk = k.chunk + n; left = 0 } in
    let advanced : IsAdvanced size n k past = record { layout = refl; text = refl; starts = refl; chunk = refl; left = omega arith; file = refl; chunks = omega arith; rows = omega arith } in
    chunks-given files what n k past reading kept advanced (omega (arith, kept.starts.within)) ∙ ap (chunks_then (chunks_at what k n)) (behind-all files what n k past kept advanced e)

-- a round over the text and the files behind it
pub round-given : (told : Option Files) (what : Reading) (k : KeptText) (n : ℕ) (ahead : Option KeptText) (chunks now : List DataChunk) → IsFitReading what → HasRowsLeft what k → n ≡ length k.starts.items - k.chunk → chunks ≡ chunks_at what k n → HasReadOn what told (place_past k) chunks now ahead
    → IfSome told (λ files. chunks_left files (kept_state what k) ≡ chunks_then now (chunks_left files (state_ahead what (place_past k) ahead)))
round-given None what k n ahead chunks now reading kept e c r = tt
round-given (Some files) what k n ahead chunks now reading kept e c r =
    past-given files what k n reading kept e ∙ ap (λ (t : List DataChunk). chunks_then t (chunks_left files (state_behind what (place_past k)))) (sym c)
    ∙ ap (chunks_then chunks) r.left ∙ then-then chunks r.more (chunks_left files (state_ahead what (place_past k) ahead))
    ∙ ap (λ (t : List DataChunk). chunks_then t (chunks_left files (state_ahead what (place_past k) ahead))) (sym r.pushed)

-- where no file behind it was read
pub stands-past : (files : Files) (what : Reading) (n : ℕ) (old new : KeptText) → HasRowsLeft what old → IsAdvanced what.options.chunk_size n old new → n ≡ length old.starts.items - old.chunk → chunks_left files (state_behind what (place_past old)) ≡ chunks_left files (kept_state what new)
stands-past files what n old new k a e =
    let enough : old.left ≤ n * what.options.chunk_size = subst (λ i. old.left ≤ i * what.options.chunk_size) (sym e) k.starts.all in
    let chunks : old.at.chunks + (length old.starts.items - old.chunk) ≡ new.at.chunks = omega (arith, a.chunks, e) in
    let rows : old.at.rows + old.left ≡ new.at.rows = omega (arith, a.rows, a.left) in
    let place : place_past old ≡ new.at = λ i. record { file = sym a.file i; chunks = chunks i; rows = rows i } in
    ap (λ p. chunks_left files (state_behind what p)) place ∙ sym (behind-all files what n old new k a e)

pub round-none : (told : Option Files) (what : Reading) (n : ℕ) (old new : KeptText) (chunks now : List DataChunk) → IsFitReading what → HasRowsLeft what old → IsAdvanced what.options.chunk_size n old new → n ≡ length old.starts.items - old.chunk → chunks ≡ chunks_at what old n → HasReadOn what told (place_past old) chunks now None
    → IfSome told (λ files. chunks_left files (kept_state what old) ≡ chunks_then now (chunks_left files (kept_state what new)))
round-none None what n old new chunks now reading kept a e c r = tt
round-none (Some files) what n old new chunks now reading kept a e c r =
    round-given (Some files) what old n None chunks now reading kept e c r ∙ ap (chunks_then now) (stands-past files what n old new kept a e)

pub over-none : (told : Option Files) (what : Reading) (n : ℕ) (old new : KeptText) → HasRowsLeft what old → IsAdvanced what.options.chunk_size n old new → n ≡ length old.starts.items - old.chunk
    → IfSome told (λ files. chunks_left files (state_behind what (place_past old)) ≡ no_more) → IfSome told (λ files. chunks_left files (kept_state what new) ≡ no_more)
over-none None what n old new kept a e h = tt
over-none (Some files) what n old new kept a e h = sym (stands-past files what n old new kept a e) ∙ h

-- all chunks of it fit
pub round-fits : (what : Reading) (told : Option Files) (k : KeptText) (n : ℕ) (first : SourcePlace) (ahead : Option KeptText) (chunks now : List DataChunk) → chunks ≡ chunks_at what k n → HasReadOn what told first chunks now ahead → All (λ c. FitsSchema (given_fields (kept_state what k)) c.frame) now
round-fits what told k n first ahead chunks now c r =
    let front : All (λ (x : DataChunk). FitsSchema (given_fields (kept_state what k)) x.frame) chunks = rw c (chunks-fit what k n) in
    rw r.pushed (All-append (λ (x : DataChunk). FitsSchema (given_fields (kept_state what k)) x.frame) chunks r.more front r.fit)

-- the first chunks of it go where no more are asked for
pub told-first : (told : Option Files) (what : Reading) (n : ℕ) (old new : KeptText) (chunks : List DataChunk) → IsFitReading what → HasRowsLeft what old → IsAdvanced what.options.chunk_size n old new → old.chunk + n ≤ length old.starts.items → chunks ≡ chunks_at what old n
    → IfSome told (λ files. chunks_left files (kept_state what old) ≡ chunks_then chunks (chunks_left files (kept_state what new)))
told-first None what n old new chunks reading k a w c = tt
told-first (Some files) what n old new chunks reading k a w c = rw c (chunks-given files what n old new reading k a w)

-- and what stops behind it stops the round
pub round-stops : (told : Option Files) (what : Reading) (k : KeptText) (n count : ℕ) (chunks now : List DataChunk) (e : CsvError) → IsFitReading what → HasRowsLeft what k → n ≡ length k.starts.items - k.chunk → chunks ≡ chunks_at what k n
    → IfSome told (λ files. StopsWithin count e now (chunks_then chunks (chunks_left files (state_behind what (place_past k))))) → IfSome told (λ files. StopsWithin count e now (chunks_left files (kept_state what k)))
round-stops None what k n count chunks now e reading kept all c h = tt
round-stops (Some files) what k n count chunks now e reading kept all c h =
    let given : chunks_left files (kept_state what k) ≡ chunks_then chunks (chunks_left files (state_behind what (place_past k))) = rw c (past-given files what k n reading kept all) in
    subst (StopsWithin count e now) (sym given) h

-- What a reader keeps of a text: its rows, its chunks, and what is left behind some of them.
use Rattle.std.proofs.Common.{◌≡◌, ◌∙◌, ◌≤◌, ◌<◌, ◌+◌, ◌-◌, ◌*◌, ◌^◌, ℕ, zero, suc, List, [], ◌∷◌, ◌++◌, length, map, take, drop, get_or, min, nat_lt, Bool, true, false, Option, Some, None, Result, Ok, Err, refl, sym, ap, arith, subst, lt_of_mul-lt-mul_right, zero-mul, add-mul, one-mul, mul-le-mul_left, append_assoc, rules}
use Rattle.std.specs.Result.{IfOk}
use Rattle.pipe_csv.specs.declared.csv_error.CsvError.{CsvError}
use Rattle.std.specs.List.{range_with_len}
use Rattle.std.proofs.lemmas.Bool.Decides.{nat_tests}
use Rattle.std.proofs.lemmas.List.FromFn.{map-range_with_len_more}
use Rattle.std.proofs.lemmas.List.{append-nil, drop-drop, drop_all, length-drop, length-take}
use Rattle.pipe_columns.specs.declared.any_value.AnyValue.{AnyValue}
use Rattle.pipe_columns.specs.declared.data_chunk.DataChunk.{DataChunk}
use Rattle.pipe_columns.specs.declared.schema.Field.{Field}
use Rattle.pipe_csv.specs.CsvRows.{Misfit, read_rows}
use Rattle.pipe_io.specs.Files.{Files}
use Rattle.pipe_io.specs.declared.whole_file.TheConstants.{MOST_FILE_BYTES}
use Rattle.pipe_scan.specs.Records.{Records, records_at}
use Rattle.pipe_source.specs.ByName.{file_rows_by}
use Rattle.pipe_source.specs.CsvChunks.{CsvChunks, chunks_then, is_any_wanted, is_numbered, numbered_rows, wanted_after}
use Rattle.pipe_source.specs.Found.{IsFound, file_at}
use Rattle.pipe_source.specs.Next.{IsTextOfNext}
use Rattle.pipe_source.specs.declared.file_text.FileText.{FileText}
use Rattle.pipe_source.specs.Kept.{AreNumbered, AreWantedBy, AreStartsFrom, IsAdvanced, HasRowsLeft, IsSourcePlace, IsFitReading, chunks_at, cursor_of, given_chunk, name_kept, piece_at, place_behind, rows_kept, kept_state}
use Rattle.pipe_source.specs.Reader.{ReaderState, chunks_left}
use Rattle.pipe_source.specs.LaidRows.{AreLaidAt}
use Rattle.pipe_source.specs.Layout.{IsWholeLayout, laid, LayoutFits}
use Rattle.pipe_source.specs.Rows.{AreStarts, IsStart}
use Rattle.pipe_source.specs.declared.layout.Layout.{Layout}
use Rattle.pipe_source.specs.declared.kept_text.KeptText.{KeptText}
use Rattle.pipe_source.specs.declared.read_options.CsvReadOptions.{CsvReadOptions}
use Rattle.pipe_source.specs.declared.reading.Reading.{Reading}
use Rattle.pipe_source.specs.declared.source_place.SourcePlace.{SourcePlace}
use Rattle.pipe_source.proofs.ReaderFacts.{chunk_later, first-goes, first-rows, found-left, numbered-rest, rows-seen}
use Rattle.pipe_source.proofs.TextRows.{back-placed, front-placed}

-- ---- numbers of rows

-- numbered rows stay so
numbers-kept : (index : Option (List ℕ × ℕ)) (given : ℕ) (read : Result (List (List AnyValue)) Misfit) (rows : List (List AnyValue)) → numbered_rows index given read ≡ Ok rows → is_numbered index given (length rows) ≡ true
numbers-kept index given (Err m) rows e = cc
numbers-kept index given (Ok own) rows e = by (is_numbered index given (length own)) refl where
  by : (t : Bool) → is_numbered index given (length own) ≡ t → is_numbered index given (length rows) ≡ true
  by true h = let same : Ok own ≡ Ok rows = rw h at e in let own_is : own ≡ rows = cc in ap (λ (r : List (List AnyValue)). is_numbered index given (length r)) (sym own_is) ∙ h
  by false h = let stop = rw h at e in cc

-- the wanted rows of a file are numbered
pub file-numbered : (by_name : Bool) (options : CsvReadOptions) (schema : List Field) (at : SourcePlace) (text : List ℕ) (rows : List (List AnyValue)) → file_rows_by by_name options schema at (Some text) ≡ Ok rows → is_numbered options.row_index at.rows (length rows) ≡ true
file-numbered false options schema at text rows e = by (nat_lt MOST_FILE_BYTES (length text)) refl where
  by : (t : Bool) → nat_lt MOST_FILE_BYTES (length text) ≡ t → is_numbered options.row_index at.rows (length rows) ≡ true
  by true h = let stop = rw h at e in cc
  by false h = let read = rw h at e in numbers-kept options.row_index at.rows _ rows read
file-numbered true options schema at text rows e = by (nat_lt MOST_FILE_BYTES (length text)) refl where
  by : (t : Bool) → nat_lt MOST_FILE_BYTES (length text) ≡ t → is_numbered options.row_index at.rows (length rows) ≡ true
  by true h = let stop = rw h at e in cc
  by false h = let read = rw h at e in numbers-kept options.row_index at.rows _ rows read

-- fewer are numbered too
pub numbered-fewer : (index : Option (List ℕ × ℕ)) (given count few : ℕ) → few ≤ count → is_numbered index given count ≡ true → is_numbered index given few ≡ true
numbered-fewer None given count few h e = refl
numbered-fewer (Some index) given count few h e = grind (arith, nat_tests)

-- ---- starts

-- behind no records
behind-none : (text : List ℕ) (at size start : ℕ) → IsStart text at (0 * size) start → records_at text start ≡ records_at text at
behind-none text at size start s = s.behind ∙ ap (λ n. drop n (records_at text at)) (zero-mul size)

-- behind some records behind others
pub drop-sum : {A : Type 0} (n m k : ℕ) (xs : List A) → n + m ≡ k → drop m (drop n xs) ≡ drop k xs
drop-sum n m k xs e = drop-drop m n xs ∙ ap (λ i. drop i xs) e

-- the first start is as good a place as any
pub start-first : (text : List ℕ) (at size count : ℕ) (starts : List ℕ) → 0 < count → AreStarts text at size count starts → IsStart text at (0 * size) (get_or starts 0 0)
start-first text at size count starts some s =
    let there : 0 < length starts = not-none (length starts) refl in
    (s.each 0 there).1 where
      not-none : (n : ℕ) → length starts ≡ n → 0 < length starts
      not-none zero e = let few : count ≤ 0 = subst (λ k. count ≤ k) (rw e (zero-mul size)) s.all in absurd (omega arith)
      not-none (suc n) e = omega arith

pub starts-first : (text : List ℕ) (at size count : ℕ) (starts : List ℕ) → 0 < count → AreStarts text at size count starts → AreStartsFrom text size count starts 0
starts-first text at size count starts some s =
    let same : records_at text (get_or starts 0 0) ≡ records_at text at = behind-none text at size (get_or starts 0 0) (start-first text at size count starts some s) in
    record {
      within = omega arith;
      each = λ k h.
          let n : 0 + k ≡ k = omega arith in
          let here = s.each k (omega arith) in
          rw n (here.0, record { behind = here.1.behind ∙ ap (drop (k * size)) (sym same); within = here.1.within });
      all = let n : length starts - 0 ≡ length starts = omega arith in rw n s.all;
    }

-- its rows stand there
pub rows-first : (layout : Option Layout) (schema : List Field) (text : List ℕ) (at size count : ℕ) (starts : List ℕ) (rows : List (List AnyValue)) → 0 < count → AreStarts text at size count starts → AreLaidAt layout schema text at count rows → AreLaidAt layout schema text (get_or starts 0 0) count rows
rows-first layout schema text at size count starts rows some s a =
    let start = start-first text at size count starts some s in
    record {
      read = ap (λ (t : Records). read_rows 1 1 schema (take count (laid layout t))) (behind-none text at size (get_or starts 0 0) start) ∙ a.read;
      size = a.size;
      within = start.within;
    }

-- ---- a chunk

-- so many chunks before rows that are left are some of those that have a start
pub chunk-there : (text : List ℕ) (size left n : ℕ) (starts : List ℕ) (chunk : ℕ) → AreStartsFrom text size left starts chunk → n * size < left → chunk + n < length starts
chunk-there text size left n starts chunk s h =
    let less : n * size < (length starts - chunk) * size = omega (arith, s.all) in
    let few : n < length starts - chunk = lt_of_mul-lt-mul_right size less in
    omega (arith, s.within)

-- the rows of a chunk stand at its start
pub piece-placed : (layout : Option Layout) (schema : List Field) (text : List ℕ) (size left n count : ℕ) (starts : List ℕ) (chunk : ℕ) (rows : List (List AnyValue))
    → AreStartsFrom text size left starts chunk → AreLaidAt layout schema text (get_or starts chunk 0) left rows → n * size < left → count ≡ min (left - n * size) size
    → AreLaidAt layout schema text (get_or starts (chunk + n) 0) count (piece_at size n rows)
piece-placed layout schema text size left n count starts chunk rows s a h c =
    let start = (s.each n (chunk-there text size left n starts chunk s h)).1 in
    let back = back-placed (n * size) left layout schema text (get_or starts chunk 0) (get_or starts (chunk + n) 0) rows a (omega arith) start.behind start.within in
    let front = front-placed count (left - n * size) layout schema text (get_or starts (chunk + n) 0) (drop (n * size) rows) back (omega arith) in
    let same : take count (drop (n * size) rows) ≡ piece_at size n rows = first-rows count (left - n * size) size (drop (n * size) rows) _ refl c back.size in
    subst (λ (t : List (List AnyValue)). AreLaidAt layout schema text (get_or starts (chunk + n) 0) count t) same front

-- and are numbered
pub piece-numbered : (index : Option (List ℕ × ℕ)) (given left before count : ℕ) → before + count ≤ left → is_numbered index given left ≡ true → is_numbered index (given + before) count ≡ true
piece-numbered index given left before count h e = numbered-fewer index (given + before) (left - before) count (omega arith) (numbered-rest index given left before (omega arith) e)

-- ---- the next file

-- a layout that was found is fit, and all columns are wanted
whole-layout : (schema : List Field) (wanted : List Bool) (by_name : Bool) (layout : Option Layout) → AreWantedBy by_name wanted → LayoutFits schema by_name layout → IsWholeLayout schema wanted layout
whole-layout schema wanted by_name None all fit = tt
whole-layout schema wanted false (Some l) all fit = cc
whole-layout schema wanted true (Some l) all fit = (fit.1, all)

-- a text that was found is what is kept of it
pub text-next : (what : Reading) (told : Option Files) (last : SourcePlace) (i : ℕ) (f : FileText) → IsFitReading what → IsSourcePlace what last → IsFound what.by_name what.options what.schema told what.names.items last i f
    → is_any_wanted (wanted_after what.options.n_rows last.rows) ≡ true → IsTextOfNext what told last (record { at = file_at last i; layout = f.layout; text = f.text; starts = f.starts; chunk = 0; left = f.count })
text-next what told last i f reading place h wanted =
    let placed : AreLaidAt f.layout what.schema f.text.items (get_or f.starts.items 0 0) f.count h.loaded.rows = rows-first f.layout what.schema f.text.items f.begin what.options.chunk_size f.count f.starts.items h.loaded.rows h.some h.loaded.starts h.loaded.placed in
    record {
      kept = record {
        files = omega (arith, h.within);
        rows = h.loaded.rows;
        placed = placed;
        layout = whole-layout what.schema what.wanted.items what.by_name f.layout reading.named h.loaded.fit;
        starts = starts-first f.text.items f.begin what.options.chunk_size f.count f.starts.items h.some h.loaded.starts;
        few_rows = omega (arith, place.rows, h.from, h.loaded.few);
        few_chunks = omega (arith, place.chunks, h.from, h.loaded.few);
        numbered = λ some. subst (λ (n : ℕ). AreNumbered what.options.row_index last.rows n) h.loaded.placed.size (file-numbered what.by_name what.options what.schema (file_at last i) f.text.items h.loaded.rows h.loaded.wanted);
      };
      some = h.some;
      rows = refl;
      chunks = refl;
      same = found-left told what.by_name what.options what.schema what.wanted.items what.names.items last i f _ h (rows-seen f.layout what.schema f.text.items (get_or f.starts.items 0 0) f.count h.loaded.rows placed) wanted;
    }

-- ---- behind some chunks

-- the starts behind some chunks
starts-behind : (text : List ℕ) (size left n : ℕ) (starts : List ℕ) (chunk : ℕ) → 0 < size → AreStartsFrom text size left starts chunk → chunk + n ≤ length starts → AreStartsFrom text size (left - n * size) starts (chunk + n)
starts-behind text size left n starts chunk p s h = record {
  within = h;
  each = λ k g.
      let more : chunk + (n + k) ≡ chunk + n + k = omega arith in
      let first = (s.each n (omega arith)).1 in
      let here = s.each (n + k) (omega arith) in
      let whole : (n + k) * size ≡ n * size + k * size = add-mul n k size in
      let behind : records_at text (get_or starts (chunk + n + k) 0) ≡ drop (k * size) (records_at text (get_or starts (chunk + n) 0)) =
      ap (λ i. records_at text (get_or starts i 0)) (sym more) ∙ here.1.behind
      ∙ sym (ap (drop (k * size)) first.behind ∙ drop-sum (n * size) (k * size) ((n + k) * size) (records_at text (get_or starts chunk 0)) (sym whole)) in
      (omega (arith, here.0, whole), record { behind = behind; within = rw (← more) here.1.within });
  all =
      let rest : (length starts - chunk) * size ≡ n * size + (length starts - (chunk + n)) * size = ap (λ i. i * size) (omega arith) ∙ add-mul n (length starts - (chunk + n)) size in
      omega (arith, s.all, rest);
}

-- past the end there is no number
get-past : (xs : List ℕ) (i : ℕ) → length xs ≤ i → get_or xs i 0 ≡ 0
get-past [] i h = get-nil i where
  get-nil : (i : ℕ) → get_or {A = ℕ} [] i 0 ≡ 0
  get-nil zero = refl
  get-nil (suc i) = refl
get-past (x ∷ xs) zero h = absurd (omega arith)
get-past (x ∷ xs) (suc i) h = get-past xs i (omega arith)

-- a start behind all rows is no place past the text
start-within : (text : List ℕ) (size left n : ℕ) (starts : List ℕ) (chunk : ℕ) (b : Bool) → nat_lt (chunk + n) (length starts) ≡ b → AreStartsFrom text size left starts chunk → get_or starts (chunk + n) 0 ≤ length text
start-within text size left n starts chunk true e s = let there : chunk + n < length starts = grind (arith, nat_tests) in (s.each n there).1.within
start-within text size left n starts chunk false e s =
    let past : length starts ≤ chunk + n = grind (arith, nat_tests) in
    omega (arith, get-past starts (chunk + n) past)

-- the rows behind some chunks, from the start of the next
rows-behind : (layout : Option Layout) (schema : List Field) (text : List ℕ) (size left n : ℕ) (starts : List ℕ) (chunk : ℕ) (rows : List (List AnyValue)) (some : Bool) → nat_lt (n * size) left ≡ some
    → AreStartsFrom text size left starts chunk → AreLaidAt layout schema text (get_or starts chunk 0) left rows → AreLaidAt layout schema text (get_or starts (chunk + n) 0) (left - n * size) (drop (n * size) rows)
rows-behind layout schema text size left n starts chunk rows true e s a =
    let some : n * size < left = grind (arith, nat_tests) in
    let start = (s.each n (chunk-there text size left n starts chunk s some)).1 in
    back-placed (n * size) left layout schema text (get_or starts chunk 0) (get_or starts (chunk + n) 0) rows a (omega arith) start.behind start.within
rows-behind layout schema text size left n starts chunk rows false e s a =
    let none : left ≤ n * size = grind (arith, nat_tests) in
    let zero_left : left - n * size ≡ 0 = omega arith in
    let no_rows : drop (n * size) rows ≡ [] = drop_all (n * size) rows (omega (arith, a.size)) in
    let within = start-within text size left n starts chunk _ refl s in
    rw (zero_left, no_rows) (record { read = refl; size = refl; within = within })

-- no more chunks than rows go
pub few-chunks : (size left n : ℕ) (text : List ℕ) (starts : List ℕ) (chunk : ℕ) (some : Bool) → nat_lt (n * size) left ≡ some → 0 < size → AreStartsFrom text size left starts chunk → chunk + n ≤ length starts → n + (left - n * size) ≤ left
few-chunks size left n text starts chunk true e p s h =
    let some : n * size < left = grind (arith, nat_tests) in
    let at_least : n * 1 ≤ n * size = mul-le-mul_left n (omega arith) in
    omega (arith, at_least)
few-chunks size left zero text starts chunk false e p s h = omega arith
few-chunks size left (suc n) text starts chunk false e p s h =
    let none : left ≤ suc n * size = grind (arith, nat_tests) in
    let less : n * size < left = (s.each n (omega arith)).0 in
    let at_least : n * 1 ≤ n * size = mul-le-mul_left n (omega arith) in
    omega (arith, at_least)

-- few rows and chunks stand before it
pub rows-below : (what : Reading) (k : KeptText) → HasRowsLeft what k → k.at.rows ≤ 2 ^ 100
rows-below what k kept = omega (arith, kept.files, kept.few_rows, what.names.ok.0, what.names.ok.1, what.names.small)

pub chunks-below : (what : Reading) (k : KeptText) → HasRowsLeft what k → k.at.chunks ≤ 2 ^ 100
chunks-below what k kept = omega (arith, kept.files, kept.few_chunks, what.names.ok.0, what.names.ok.1, what.names.small)

-- the rows that are left of it are as many as it says
pub no-rows : (what : Reading) (k : KeptText) → k.left ≡ 0 → rows_kept what k ≡ []
no-rows what k e = rw e refl

pub some-rows : (what : Reading) (k : KeptText) → HasRowsLeft what k → 0 < k.left → 0 < length (rows_kept what k)
some-rows what k kept h =
    let seen = rows-seen k.layout what.schema k.text.items (cursor_of k) k.left kept.rows kept.placed in
    subst (λ (rows : List (List AnyValue)). 0 < length rows) (sym seen) (omega (arith, h, kept.placed.size))

-- its rows behind some chunks
placed-behind : (what : Reading) (n : ℕ) (old new : KeptText) → (k : HasRowsLeft what old) → IsAdvanced what.options.chunk_size n old new → AreLaidAt new.layout what.schema new.text.items (cursor_of new) new.left (drop (n * what.options.chunk_size) k.rows)
placed-behind what n old new k a = rw (a.layout, a.text, a.starts, a.chunk, a.left) (rows-behind old.layout what.schema old.text.items what.options.chunk_size old.left n old.starts.items old.chunk k.rows _ refl k.starts k.placed)

-- what is kept behind some chunks
pub kept-behind : (what : Reading) (n : ℕ) (old new : KeptText) → IsFitReading what → HasRowsLeft what old → IsAdvanced what.options.chunk_size n old new → old.chunk + n ≤ length old.starts.items → HasRowsLeft what new
kept-behind what n old new reading k a h =
    let size : ℕ = what.options.chunk_size in
    let few = few-chunks size old.left n old.text.items old.starts.items old.chunk _ refl reading.size k.starts h in
    record {
      files = omega (arith, k.files, a.file);
      rows = drop (n * size) k.rows;
      placed = placed-behind what n old new k a;
      layout = rw a.layout k.layout;
      starts = rw (a.text, a.starts, a.chunk, a.left) (starts-behind old.text.items size old.left n old.starts.items old.chunk reading.size k.starts h);
      few_rows = omega (arith, k.few_rows, a.file, a.rows, a.left);
      few_chunks = omega (arith, k.few_chunks, a.file, a.chunks, a.left, few);
      numbered = λ some.
          let less : new.left ≤ old.left = omega (arith, a.left) in
          let rest : old.left - (old.left - new.left) ≡ new.left = omega arith in
          let all : is_numbered what.options.row_index old.at.rows old.left ≡ true = k.numbered (omega arith) in
          let more : is_numbered what.options.row_index (old.at.rows + (old.left - new.left)) (old.left - (old.left - new.left)) ≡ true = numbered-rest what.options.row_index old.at.rows old.left (old.left - new.left) (omega arith) all in
          rw a.rows (subst (λ (i : ℕ). is_numbered what.options.row_index (old.at.rows + (old.left - new.left)) i ≡ true) rest more);
    }

-- ---- chunks that go

-- a reader's state over given rows
abbrev state_at : Reading → SourcePlace → List ℕ → List (List AnyValue) → ReaderState
state_at what at file rows = record { by_name = what.by_name; schema = what.schema; wanted = what.wanted.items; options = what.options; at = at; file = file; rows = rows; names = drop at.file what.names.items }

-- the place behind the rows of so many chunks
abbrev place_after : SourcePlace → ℕ → ℕ → List (List AnyValue) → SourcePlace
place_after at size n rows = record { file = at.file; chunks = at.chunks + n; rows = at.rows + length (take (n * size) rows) }

-- a chunk of some rows that are left
abbrev part_at : Reading → SourcePlace → List ℕ → List (List AnyValue) → ℕ → DataChunk
part_at what at file rows n = given_chunk what.options what.wanted.items what.schema file (place_behind at what.options.chunk_size n) (piece_at what.options.chunk_size n rows)

-- one more chunk goes
one-goes : (files : Files) (what : Reading) (at : SourcePlace) (file : List ℕ) (rows : List (List AnyValue)) (n : ℕ) → 0 < what.options.chunk_size → n * what.options.chunk_size < length rows
    → chunks_left files (state_at what (place_after at what.options.chunk_size n rows) file (drop (n * what.options.chunk_size) rows))
    ≡ chunks_then (part_at what at file rows n ∷ []) (chunks_left files (state_at what (place_after at what.options.chunk_size (n + 1) rows) file (drop ((n + 1) * what.options.chunk_size) rows)))
one-goes files what at file rows n p h =
    let size : ℕ = what.options.chunk_size in
    let rest : List (List AnyValue) = drop (n * size) rows in
    let here : SourcePlace = place_after at size n rows in
    let many : length (take (n * size) rows) ≡ n * size = omega (arith, length-take (n * size) rows) in
    let more : (n + 1) * size ≡ n * size + size = add-mul n 1 size ∙ ap (λ i. n * size + i) (one-mul size) in
    let first = first-goes files what.by_name what.options what.schema what.wanted.items here file (drop at.file what.names.items) rest p (omega (arith, length-drop (n * size) rows)) in
    let behind : drop size rest ≡ drop ((n + 1) * size) rows = drop-sum (n * size) size ((n + 1) * size) rows (sym more) in
    let count : at.rows + length (take (n * size) rows) + length (take size rest) ≡ at.rows + length (take ((n + 1) * size) rows) = omega (arith, length-take (n * size) rows, length-take size rest, length-drop (n * size) rows, length-take ((n + 1) * size) rows, more) in
    let chunks : at.chunks + n + 1 ≡ at.chunks + (n + 1) = omega arith in
    first
    ∙ ap (λ (r : ℕ). let q : SourcePlace = record { file = at.file; chunks = at.chunks + n; rows = at.rows + r } in chunks_then (given_chunk what.options what.wanted.items what.schema file q (take size rest) ∷ []) (chunks_left files (state_at what (chunk_later here (length (take size rest))) file (drop size rest)))) many
    ∙ (λ i. chunks_then (part_at what at file rows n ∷ []) (chunks_left files (state_at what (record { file = at.file; chunks = chunks i; rows = count i }) file (behind i))))

-- the first chunks of rows that are left go
pub chunks-go : (files : Files) (what : Reading) (at : SourcePlace) (file : List ℕ) (rows : List (List AnyValue)) (n : ℕ) → 0 < what.options.chunk_size → ((k : ℕ) → k < n → k * what.options.chunk_size < length rows)
    → chunks_left files (state_at what at file rows)
    ≡ chunks_then (map (part_at what at file rows) (range_with_len 0 n)) (chunks_left files (state_at what (place_after at what.options.chunk_size n rows) file (drop (n * what.options.chunk_size) rows)))
chunks-go files what at file rows zero p h =
    let size : ℕ = what.options.chunk_size in
    let none : 0 * size ≡ 0 = zero-mul size in
    let a : at.chunks ≡ at.chunks + 0 = omega arith in
    let b : at.rows ≡ at.rows + length (take (0 * size) rows) = omega (arith, ap (λ k. length (take k rows)) none) in
    let c : rows ≡ drop (0 * size) rows = ap (λ k. drop k rows) (sym none) in
    λ i. chunks_left files (state_at what (record { file = at.file; chunks = a i; rows = b i }) file (c i))
chunks-go files what at file rows (suc n) p h =
    let size : ℕ = what.options.chunk_size in
    let parts : ℕ → DataChunk = part_at what at file rows in
    let fewer = chunks-go files what at file rows n p (λ k l. h k (omega arith)) in
    let one = one-goes files what at file rows n p (h n (omega arith)) in
    let all : map parts (range_with_len 0 (n + 1)) ≡ map parts (range_with_len 0 n) ++ (parts n ∷ []) = map-range_with_len_more parts 0 n n (omega arith) in
    let rest : CsvChunks = chunks_left files (state_at what (place_after at size (n + 1) rows) file (drop ((n + 1) * size) rows)) in
    let next : suc n ≡ n + 1 = omega arith in
    fewer ∙ ap (chunks_then (map parts (range_with_len 0 n))) one
    ∙ ap (λ (cs : List DataChunk). record { chunks = cs; stop = rest.stop }) (sym (append_assoc (map parts (range_with_len 0 n)) (parts n ∷ []) rest.chunks))
    ∙ ap (λ (cs : List DataChunk). chunks_then cs rest) (sym all)
    ∙ ap (λ (k : ℕ). chunks_then (map parts (range_with_len 0 k)) (chunks_left files (state_at what (place_after at size k rows) file (drop (k * size) rows)))) (sym next)

-- so many chunks that have starts have rows
pub starts-some : (text : List ℕ) (size left n : ℕ) (starts : List ℕ) (chunk : ℕ) → AreStartsFrom text size left starts chunk → chunk + n ≤ length starts → (k : ℕ) → k < n → k * size < left
starts-some text size left n starts chunk s h k l = (s.each k (omega arith)).0

-- what is left of a text goes on behind the chunks that are given
pub chunks-given : (files : Files) (what : Reading) (n : ℕ) (old new : KeptText) → IsFitReading what → HasRowsLeft what old → IsAdvanced what.options.chunk_size n old new → old.chunk + n ≤ length old.starts.items
    → chunks_left files (kept_state what old) ≡ chunks_then (chunks_at what old n) (chunks_left files (kept_state what new))
chunks-given files what n old new reading k a h =
    let size : ℕ = what.options.chunk_size in
    let file : List ℕ = name_kept what old in
    let before : rows_kept what old ≡ k.rows = rows-seen old.layout what.schema old.text.items (cursor_of old) old.left k.rows k.placed in
    let after : rows_kept what new ≡ drop (n * size) k.rows = rows-seen new.layout what.schema new.text.items (cursor_of new) new.left (drop (n * size) k.rows) (placed-behind what n old new k a) in
    let some = starts-some old.text.items size old.left n old.starts.items old.chunk k.starts h in
    let go = chunks-go files what old.at file (rows_kept what old) n reading.size (λ i l. rw (before, k.placed.size) (some i l)) in
    let rows : drop (n * size) (rows_kept what old) ≡ rows_kept what new = ap (drop (n * size)) before ∙ sym after in
    let count : old.at.rows + length (take (n * size) (rows_kept what old)) ≡ new.at.rows = omega (arith, ap length before, k.placed.size, length-take (n * size) (rows_kept what old), a.rows, a.left) in
    let place : place_after old.at size n (rows_kept what old) ≡ new.at = λ i. record { file = sym a.file i; chunks = sym a.chunks i; rows = count i } in
    let name : file ≡ name_kept what new = ap (λ i. get_or what.names.items (i - 1) []) (sym a.file) in
    go ∙ (λ i. chunks_then (chunks_at what old n) (chunks_left files (state_at what (place i) (name i) (rows i))))

-- where rows are left there is a chunk more
pub chunk-more : (what : Reading) (k : KeptText) → HasRowsLeft what k → 0 < length (rows_kept what k) → k.chunk + 1 ≤ length k.starts.items
chunk-more what k kept some =
    let size : ℕ = what.options.chunk_size in
    let left : 0 < k.left = omega (arith, kept.placed.size, ap length (rows-seen k.layout what.schema k.text.items (cursor_of k) k.left kept.rows kept.placed), some) in
    let first : 0 * size < k.left = rw (zero-mul size) left in
    omega (arith, chunk-there k.text.items size k.left 0 k.starts.items k.chunk kept.starts first)

-- chunks that are each the next go on behind the first
pub more-at : (f : ℕ → DataChunk) (xs : List DataChunk) (first : ℕ) → ((i : ℕ) (d : Result DataChunk CsvError) → i < length xs → IfOk (get_or (map Ok xs) i d) (λ c. c ≡ f (first + i)))
    → map f (range_with_len 0 first) ++ xs ≡ map f (range_with_len 0 (first + length xs))
more-at f [] first each = append-nil (map f (range_with_len 0 first)) ∙ ap (λ k. map f (range_with_len 0 k)) (omega arith)
more-at f (x ∷ xs) first each =
    let here : x ≡ f first = each 0 (Ok x) (omega arith) ∙ ap f (omega arith) in
    let front : map f (range_with_len 0 (first + 1)) ≡ map f (range_with_len 0 first) ++ (f first ∷ []) = map-range_with_len_more f 0 first first (omega arith) in
    let rest = more-at f xs (first + 1) (λ i d h. subst (λ k. IfOk (get_or (map Ok xs) i d) (λ c. c ≡ f k)) (omega arith) (each (suc i) d (omega arith))) in
    ap (λ t. map f (range_with_len 0 first) ++ (t ∷ xs)) here
    ∙ sym (append_assoc (map f (range_with_len 0 first)) (f first ∷ []) xs)
    ∙ ap (λ t. t ++ xs) (sym front) ∙ rest ∙ ap (λ k. map f (range_with_len 0 k)) (omega arith)

-- nothing is left of no text
pub kept-none : (what : Reading) (k : KeptText) → IsSourcePlace what k.at → k.layout ≡ None → k.text.items ≡ [] → k.starts.items ≡ [] → k.chunk ≡ 0 → k.left ≡ 0 → HasRowsLeft what k
kept-none what k at y t s c l = record {
  files = at.files;
  rows = [];
  placed = rw (y, t, c, s, l) (record { read = refl; size = refl; within = omega arith });
  layout = rw y tt;
  starts = rw (t, c, s, l) (record { within = omega arith; each = λ j h. absurd (omega (arith, h)); all = omega arith });
  few_rows = omega (arith, at.rows, l);
  few_chunks = omega (arith, at.chunks, l);
  numbered = λ some. absurd (omega (arith, some, l));
}

-- nor before any file
pub kept-start : (what : Reading) (k : KeptText) → k.at ≡ record { file = 0; chunks = 0; rows = 0 } → k.layout ≡ None → k.text.items ≡ [] → k.starts.items ≡ [] → k.chunk ≡ 0 → k.left ≡ 0 → HasRowsLeft what k
kept-start what k a y t s c l = kept-none what k (subst (IsSourcePlace what) (sym a) (record { files = omega arith; rows = omega arith; chunks = omega arith })) y t s c l

-- Pieces of a text that are looked over each by itself, and the rows of all of them.
use Rattle.std.proofs.Common.{◌≡◌, ◌∙◌, ◌≤◌, ◌<◌, ◌+◌, ◌-◌, ◌*◌, ◌/◌, ◌==◌, ℕ, zero, suc, not, Bool, true, false, List, [], ◌∷◌, ◌++◌, length, take, drop, get_or, nat_lt, IfOk, Option, None, Some, Result, Ok, refl, sym, ap, arith, append_assoc, subst}
use Rattle.std.proofs.lemmas.Bool.Decides.{nat_tests}
use Rattle.std.proofs.lemmas.Bool.{and_parts}
use Rattle.std.proofs.lemmas.List.{append-nil, drop_all, drop-append-le, drop-drop, drop-take, length-append, map-append, take_all}
use Rattle.std.proofs.Math.Seq.{drop-append_seam}
use Rattle.csv.specs.Reading.{default_config, records}
use Rattle.csv.specs.declared.parser.State.TheVariants as st
use Rattle.pipe_columns.specs.declared.any_value.AnyValue.{AnyValue}
use Rattle.pipe_columns.specs.declared.schema.Field.{Field}
use Rattle.pipe_csv.specs.declared.csv_error.CsvError.{CsvError}
use Rattle.pipe_csv.specs.CsvRows.{Misfit, read_row, read_rows}
use Rattle.pipe_csv.proofs.ReadFacts.{after-ok, length-rows, same_Ok}
use Rattle.pipe_scan.specs.Lines.{ends_line, has_no_quote}
use Rattle.pipe_scan.specs.Pieces.{IsPiece}
use Rattle.pipe_scan.specs.Records.{Records, between, records_at}
use Rattle.pipe_scan.specs.Skipped.{Skips}
use Rattle.pipe_scan.proofs.PieceEnds.{piece_at_end, piece_at_line}
use Rattle.pipe_scan.proofs.RecordList.{all-none, ends-none, length-records}
use Rattle.pipe_scan.proofs.ScanFacts.{between_none, length-between}
use Rattle.pipe_source.proofs.TextRows.{after-parts, laid-placed, length-laid, records-few, rows-anywhere}
use Rattle.pipe_source.specs.LaidRows.{AreLaidAt}
use Rattle.pipe_source.specs.Layout.{laid, picked}
use Rattle.pipe_source.specs.Rows.{AreStarts, IsStart}
use Rattle.pipe_source.specs.Starts.{AreNoted}
use Rattle.pipe_source.specs.declared.starts.Starts.{Starts}
use Rattle.pipe_source.specs.PieceRows.{AreBounds, ArePlaces, AreRowsTo, IsLookedOver, IsPart}
use Rattle.pipe_source.specs.declared.layout.Layout.{Layout}
use Rattle.pipe_source.specs.declared.piece_check.PieceRows.{PieceRows}

-- ---- a piece of a text

-- the rest of a text without a quote has none
plain-drop : (n : ℕ) (xs : List ℕ) → has_no_quote xs ≡ true → has_no_quote (drop n xs) ≡ true
plain-drop zero xs h = h
plain-drop (suc n) [] h = refl
plain-drop (suc n) (c ∷ cs) h = plain-drop n cs (and_parts (not (c == 34)) (has_no_quote cs) h).1

-- the rest of a piece
between-drop : (text : List ℕ) (low high q : ℕ) → low + q ≤ high → between text (low + q) high ≡ drop q (between text low high)
between-drop text low high q h =
    let rest : ℕ = high - (low + q) in
    let size : q + rest ≡ high - low = omega arith in
    sym (ap (λ (n : ℕ). drop q (take n (drop low text))) (sym size) ∙ drop-take q rest (drop low text) ∙ ap (take rest) (drop-drop q low text))

-- what isn't without it is true
pub plain-from : (b : Bool) → not b ≡ false → b ≡ true
plain-from true e = refl
plain-from false e = cc

-- nor has the rest of a piece without one
plain-rest : (text : List ℕ) (low high p : ℕ) → has_no_quote (between text low high) ≡ true → low ≤ p → p ≤ high → has_no_quote (between text p high) ≡ true
plain-rest text low high p q a b =
    let same : low + (p - low) ≡ p = omega arith in
    subst (λ (k : ℕ). has_no_quote (between text k high) ≡ true) same (rw (between-drop text low high (p - low) (omega arith)) (plain-drop (p - low) (between text low high) q))

-- from its end on a piece has no record
part-none : (text : List ℕ) (p high : ℕ) → p ≡ high → records_at text p ≡ records default_config (between text p high) ++ records_at text high
part-none text p high e =
    let none : records default_config [] ≡ [] = all-none default_config st.StartRecord [] (ends-none default_config st.StartRecord tt) in
    rw (e, between_none text high, none) refl

-- before its end
part-some : (text : List ℕ) (p high : ℕ) (last : Bool) → nat_lt high (length text) ≡ last → has_no_quote (between text p high) ≡ true → p < high → high ≤ length text → (high < length text → ends_line (get_or text (high - 1) 0) ≡ true)
    → records_at text p ≡ records default_config (between text p high) ++ records_at text high
part-some text p high true t q a b e =
    let within : high < length text = grind (arith, nat_tests) in
    let same : high - 1 + 1 ≡ high = omega arith in
    let here = piece_at_line text p (high - 1) (omega arith) (omega arith) (e within) in
    (rw same at here) q
part-some text p high false t q a b e =
    let beyond : length text ≤ high = grind (arith, nat_tests) in
    let same : high ≡ length text = omega arith in
    rw same (piece_at_end text p (omega arith) (rw same at q))

-- from any place
part-at : (text : List ℕ) (p high : ℕ) (some : Bool) → nat_lt p high ≡ some → has_no_quote (between text p high) ≡ true → p ≤ high → high ≤ length text → (high < length text → ends_line (get_or text (high - 1) 0) ≡ true)
    → records_at text p ≡ records default_config (between text p high) ++ records_at text high
part-at text p high true t q a b e = part-some text p high _ refl q (grind (arith, nat_tests)) b e
part-at text p high false t q a b e =
    let beyond : high ≤ p = grind (arith, nat_tests) in
    part-none text p high (omega arith)

-- a text is cut behind the ends of lines
pub part-of : (text : List ℕ) (size low high : ℕ) → low < length text → IsPiece text size low high → IsPart text low high
part-of text size low high h piece = record {
  order = omega (arith, piece.more h);
  within = piece.within;
  records = λ q p a b. part-at text p high _ refl (plain-rest text low high p q a b) b piece.within piece.line;
}

-- ---- bounds of pieces

-- an element before the last of a list that grew
get-before : (xs : List ℕ) (y k : ℕ) → k < length xs → get_or (xs ++ (y ∷ [])) k 0 ≡ get_or xs k 0
get-before [] y k h = absurd (omega arith)
get-before (x ∷ xs) y zero h = refl
get-before (x ∷ xs) y (suc k) h = get-before xs y k (omega arith)

-- the last of it
get-last : (xs : List ℕ) (y k : ℕ) → k ≡ length xs → get_or (xs ++ (y ∷ [])) k 0 ≡ y
get-last [] y k e = rw e refl
get-last (x ∷ xs) y k e = rw e (get-last xs y (length xs) refl)

-- no piece is cut yet
pub bounds-none : (text : List ℕ) (begin : ℕ) (bounds : List ℕ) → bounds ≡ begin ∷ [] → AreBounds text begin begin bounds
bounds-none text begin bounds e = rw e (record {
  some = omega arith;
  first = refl;
  last = refl;
  each = λ n h. absurd (omega (arith, h));
})

-- one of the pieces
bounds-each : (text : List ℕ) (begin low high n : ℕ) (bounds : List ℕ) (before : Bool) → nat_lt (n + 1) (length bounds) ≡ before → AreBounds text begin low bounds → IsPart text low high → n + 1 < length bounds + 1
    → IsPart text (get_or (bounds ++ (high ∷ [])) n 0) (get_or (bounds ++ (high ∷ [])) (n + 1) 0)
bounds-each text begin low high n bounds true t b part h =
    let less : n + 1 < length bounds = grind (arith, nat_tests) in
    rw (get-before bounds high n (omega arith), get-before bounds high (n + 1) less) (b.each n less)
bounds-each text begin low high n bounds false t b part h =
    let more : length bounds ≤ n + 1 = grind (arith, nat_tests) in
    let here : n ≡ length bounds - 1 = omega (arith, b.some) in
    let behind : n + 1 ≡ length bounds = omega (arith, b.some) in
    let last : get_or bounds n 0 ≡ low = ap (λ (k : ℕ). get_or bounds k 0) here ∙ b.last in
    rw (get-before bounds high n (omega (arith, b.some)), get-last bounds high (n + 1) behind, last) part

-- one more piece is cut
pub bounds-more : (text : List ℕ) (begin low high : ℕ) (bounds more : List ℕ) → more ≡ bounds ++ (high ∷ []) → AreBounds text begin low bounds → IsPart text low high → AreBounds text begin high more
bounds-more text begin low high bounds more e b part =
    let many : length (bounds ++ (high ∷ [])) ≡ length bounds + 1 = length-append bounds (high ∷ []) in
    rw e (record {
      some = omega (arith, many);
      first = get-before bounds high 0 b.some ∙ b.first;
      last = get-last bounds high (length (bounds ++ (high ∷ [])) - 1) (omega (arith, many));
      each = λ n h. bounds-each text begin low high n bounds _ refl b part (omega (arith, h, many));
    })

-- ---- rows of pieces

-- rows that read, and rows behind them that do
reads-append : (file row f r : ℕ) (schema : List Field) (xs ys : Records) (front back : List (List AnyValue)) → read_rows file row schema xs ≡ Ok front → read_rows f r schema ys ≡ Ok back → read_rows file row schema (xs ++ ys) ≡ Ok (front ++ back)
reads-append file row f r schema [] ys front back e g =
    let none : [] ≡ front = same_Ok {E = Misfit} [] front e in
    rw (← none) (rows-anywhere f r file row schema ys back g)
reads-append file row f r schema (x ∷ xs) ys front back e g =
    let parts = after-ok (read_row file row schema x) (read_rows file (row + 1) schema xs) front e in
    after-parts (read_row file row schema x) (read_rows file (row + 1) schema (xs ++ ys)) parts.0 (parts.1 ++ back) (front ++ back) parts.2
    (reads-append file (row + 1) f r schema xs ys parts.1 back parts.3 g) (ap (λ (t : List (List AnyValue)). t ++ back) parts.4)

-- what is read of some fields of no record is none
laid-none : (layout : Option Layout) → laid layout [] ≡ []
laid-none None = refl
laid-none (Some l) = refl

-- what is read of them of some records, and of those behind these
laid-append : (layout : Option Layout) (xs ys : Records) → laid layout (xs ++ ys) ≡ laid layout xs ++ laid layout ys
laid-append None xs ys = refl
laid-append (Some l) xs ys = map-append (picked l) xs ys

-- there is no row before the first
pub rows-none : (layout : Option Layout) (schema : List Field) (text : List ℕ) (at : ℕ) → AreRowsTo layout schema text at at 0
rows-none layout schema text at = record { front = []; rows = []; records = refl; read = ap (read_rows 1 1 schema) (laid-none layout); count = refl }

-- rows up to a place, and those of the piece there
rows-join : (layout : Option Layout) (schema : List Field) (text : List ℕ) (at low high some more : ℕ) → AreRowsTo layout schema text at low some → AreRowsTo layout schema text low high more → AreRowsTo layout schema text at high (some + more)
rows-join layout schema text at low high some more a b = record {
  front = a.front ++ b.front;
  rows = a.rows ++ b.rows;
  records = a.records ∙ ap (λ (t : Records). a.front ++ t) b.records ∙ sym (append_assoc a.front b.front (records_at text high));
  read = ap (read_rows 1 1 schema) (laid-append layout a.front b.front) ∙ reads-append 1 1 1 1 schema (laid layout a.front) (laid layout b.front) a.rows b.rows a.read b.read;
  count = omega (arith, length-append a.front b.front, a.count, b.count);
}

-- the rows behind them begin there
rows-begin : (layout : Option Layout) (schema : List Field) (text : List ℕ) (at low some : ℕ) → AreRowsTo layout schema text at low some → low ≤ length text → IsStart text at some low
rows-begin layout schema text at low some a h =
    let skip : drop some (a.front ++ records_at text low) ≡ records_at text low = rw (← a.count) (drop-append_seam a.front (records_at text low)) in
    record { behind = sym skip ∙ ap (drop some) (sym a.records); within = h }

-- a start behind a start
start-more : (text : List ℕ) (at low place some more : ℕ) → IsStart text at some low → IsStart text low more place → IsStart text at (some + more) place
start-more text at low place some more a b = record {
  behind = b.behind ∙ ap (drop more) a.behind ∙ drop-drop more some (records_at text at);
  within = b.within;
}

-- a row that is gone on to from a start
pub start-skips : (text : List ℕ) (low place next width some more all : ℕ) → IsStart text low some place → Skips text place next width more → some + more ≡ all → IsStart text low all next
start-skips text low place next width some more all a s e =
    let skip : drop more (s.front ++ records_at text next) ≡ records_at text next = rw (← s.as_many) (drop-append_seam s.front (records_at text next)) in record {
      behind = sym skip ∙ ap (drop more) (sym s.records ∙ a.behind) ∙ drop-drop more some (records_at text low) ∙ ap (λ (n : ℕ). drop n (records_at text low)) e;
      within = s.within;
    }

-- ---- a piece that was looked over

-- where a row of a piece begins, in the text
piece-start : (text : List ℕ) (low high n q : ℕ) → IsPart text low high → has_no_quote (between text low high) ≡ true → n ≤ length (records default_config (between text low high)) → IsStart (between text low high) 0 n q → IsStart text low n (low + q)
piece-start text low high n q part plain h s =
    let piece : List ℕ = between text low high in
    let own : Records = records default_config piece in
    let rest : Records = records_at text high in
    let within : low + q ≤ high = omega (arith, s.within, length-between text low high part.order part.within, part.order) in
    let here : records_at text (low + q) ≡ records_at piece q ++ rest = part.records plain (low + q) (omega arith) within ∙ ap (λ (t : List ℕ). records default_config t ++ rest) (between-drop text low high q within) in record {
      behind = here ∙ ap (λ (t : Records). t ++ rest) s.behind ∙ sym (drop-append-le n own rest h) ∙ ap (drop n) (sym (part.records plain low (omega arith) part.order));
      within = omega (arith, within, part.within);
    }

-- the places of a piece that were noted
piece-places : (text : List ℕ) (low high grain : ℕ) (piece : PieceRows) → piece.low ≡ low → IsPart text low high → has_no_quote (between text low high) ≡ true → piece.count ≡ length (records default_config (between text low high)) → AreStarts (between text low high) 0 grain piece.count piece.places.items → ArePlaces text grain piece
piece-places text low high grain piece e part plain many starts = record {
  each = λ k h.
      let start = starts.each k h in
      rw e (piece-start text low high (k * grain) (get_or piece.places.items k 0) part plain (omega (arith, many, start.0)) start.1);
  all = starts.all;
}

-- a piece has no more records than bytes
piece-few : (text : List ℕ) (low high : ℕ) → IsPart text low high → length (records default_config (between text low high)) ≤ length text
piece-few text low high part =
    let bytes = length-between text low high part.order part.within in
    omega (arith, part.within, bytes, length-records default_config (length (between text low high) + 1) st.StartRecord (between text low high) tt)

-- a piece was looked over as a text of its own
pub piece-rows : (file most : ℕ) (layout : Option Layout) (schema : List Field) (text : List ℕ) (low high grain : ℕ) (piece : PieceRows) (rows : List (List AnyValue)) → IsPart text low high → has_no_quote (between text low high) ≡ true → length text ≤ most → piece.low ≡ low
    → read_rows file 1 schema (take most (laid layout (records_at (between text low high) 0))) ≡ Ok rows → length rows ≡ piece.count → AreStarts (between text low high) 0 grain piece.count piece.places.items → IsLookedOver layout schema text low high grain piece
piece-rows file most layout schema text low high grain piece rows part plain small e read size starts =
    let own : Records = records default_config (between text low high) in
    let read_of : Records = laid layout own in
    let all : take most read_of ≡ read_of = take_all most read_of (omega (arith, length-laid layout own, piece-few text low high part, small)) in
    let mine : read_rows file 1 schema read_of ≡ Ok rows = ap (read_rows file 1 schema) (sym all) ∙ read in
    let many : length rows ≡ length own = length-rows file 1 schema read_of rows mine ∙ length-laid layout own in record {
      begin = e;
      rows = record {
        front = own;
        rows = rows;
        records = part.records plain low (omega arith) part.order;
        read = rows-anywhere file 1 1 1 schema read_of rows mine;
        count = sym many ∙ size;
      };
      places = piece-places text low high grain piece e part plain (sym size ∙ many) starts;
    }

-- ---- all pieces

-- from the end of a text on it has no record
end-none : (text : List ℕ) → records_at text (length text) ≡ []
end-none text = rw (drop_all (length text) text (omega arith)) (all-none default_config st.StartRecord [] (ends-none default_config st.StartRecord tt))

-- the rows of all pieces are the records
pieces-all : (layout : Option Layout) (schema : List Field) (text : List ℕ) (begin count : ℕ) (a : AreRowsTo layout schema text begin (length text) count) → records_at text begin ≡ a.front
pieces-all layout schema text begin count a = a.records ∙ ap (λ (t : Records). a.front ++ t) (end-none text) ∙ append-nil a.front

-- ---- starts of chunks

-- the last place that was noted before a row
pub noted-before : (row grain many : ℕ) → 0 < grain → row < many * grain → row / grain < many
noted-before row grain many g h = grind arith

-- an element of a list is there, whatever stands for one that isn't
get-there : (xs : List ℕ) (k d e : ℕ) → k < length xs → get_or xs k d ≡ get_or xs k e
get-there [] k d e h = absurd (omega arith)
get-there (x ∷ xs) zero d e h = refl
get-there (x ∷ xs) (suc k) d e h = get-there xs k d e (omega arith)

-- a place that was noted, where the scan begins
pub noted-start : (text : List ℕ) (grain k noted cursor : ℕ) (piece : PieceRows) → ArePlaces text grain piece → k < length piece.places.items → noted ≡ get_or piece.places.items k noted → cursor ≡ piece.low + noted → IsStart text piece.low (k * grain) cursor
noted-start text grain k noted cursor piece places h e g =
    let same : piece.low + get_or piece.places.items k 0 ≡ cursor = ap (λ (n : ℕ). piece.low + n) (get-there piece.places.items k 0 noted h ∙ sym e) ∙ sym g in
    subst (IsStart text piece.low (k * grain)) same (places.each k h)

-- one more start, of a row of a piece
pub noted-behind : (text : List ℕ) (at low place before count left until : ℕ) (old new : Starts) → AreNoted text at (before + (count - left) + until) old → left ≤ count → until < left → IsStart text at before low → IsStart text low (count - (left - until)) place
    → ((t : List ℕ) (a row : ℕ) → AreNoted t a row old → IsStart t a row place → AreNoted t a (row + 1) new) → AreNoted text at (before + (count - (left - until - 1))) new
noted-behind text at low place before count left until old new noted few less begin start more =
    let row : ℕ = before + (count - (left - until)) in
    let here : before + (count - left) + until ≡ row = omega arith in
    let next : row + 1 ≡ before + (count - (left - until - 1)) = omega arith in
    subst (λ (n : ℕ). AreNoted text at n new) next (more text at row (subst (λ (n : ℕ). AreNoted text at n old) here noted) (start-more text at low place before (count - (left - until)) begin start))

-- ---- pieces one after another

-- where a bound lies
pub bound-within : (text : List ℕ) (begin end n : ℕ) (bounds : List ℕ) → AreBounds text begin end bounds → n + 1 < length bounds → get_or bounds n 0 ≤ length text
bound-within text begin end n bounds b h =
    let part = b.each n h in
    omega (arith, part.order, part.within)

-- there are no more rows than bytes
pub rows-few : (layout : Option Layout) (schema : List Field) (text : List ℕ) (low high many : ℕ) → AreRowsTo layout schema text low high many → many ≤ length text
rows-few layout schema text low high many a = omega (arith, records-few text low, ap length a.records, length-append a.front (records_at text high), a.count)

-- a piece that was looked over is told of
pub told-piece : (layout : Option Layout) (schema : List Field) (text : List ℕ) (low high grain : ℕ) (d : Result PieceRows CsvError) (piece : PieceRows) → IfOk d (λ p. IsLookedOver layout schema text low high grain p) → d ≡ Ok piece → IsLookedOver layout schema text low high grain piece
told-piece layout schema text low high grain d piece h e = rw e at h

-- the rows of one more piece
pub rows-more : (layout : Option Layout) (schema : List Field) (text : List ℕ) (begin low high grain count : ℕ) (piece : PieceRows) → AreRowsTo layout schema text begin low count → IsLookedOver layout schema text low high grain piece → AreRowsTo layout schema text begin high (count + piece.count)
rows-more layout schema text begin low high grain count piece a p = rows-join layout schema text begin low high count piece.count a p.rows

-- where it begins
pub piece-begin : (layout : Option Layout) (schema : List Field) (text : List ℕ) (begin low high grain count : ℕ) (piece : PieceRows) → AreRowsTo layout schema text begin low count → IsLookedOver layout schema text low high grain piece → low ≤ length text → IsStart text begin count piece.low
piece-begin layout schema text begin low high grain count piece a p h = subst (IsStart text begin count) (sym p.begin) (rows-begin layout schema text begin low count a h)

-- the rows of all pieces are those of the file
pub pieces-whole : (file most : ℕ) (layout : Option Layout) (schema : List Field) (text : List ℕ) (begin count : ℕ) (whole : Result (List (List AnyValue)) Misfit) → whole ≡ read_rows file 1 schema (take most (laid layout (records_at text begin))) → AreRowsTo layout schema text begin (length text) count → length text ≤ most → begin ≤ length text
    → (rows : List (List AnyValue)) × (whole ≡ Ok rows) × AreLaidAt layout schema text begin count rows
pieces-whole file most layout schema text begin count whole w a small within =
    let recs : Records = laid layout (records_at text begin) in
    let all : take most recs ≡ laid layout a.front = take_all most recs (omega (arith, length-laid layout (records_at text begin), records-few text begin, small)) ∙ ap (laid layout) (pieces-all layout schema text begin count a) in
    let read : read_rows file 1 schema (take most recs) ≡ Ok a.rows = ap (read_rows file 1 schema) all ∙ rows-anywhere 1 1 file 1 schema (laid layout a.front) a.rows a.read in
    let size : length a.rows ≡ count = length-rows 1 1 schema (laid layout a.front) a.rows a.read ∙ length-laid layout a.front ∙ a.count in
    (a.rows, w ∙ read, laid-placed file most count layout schema text begin a.rows read size within)

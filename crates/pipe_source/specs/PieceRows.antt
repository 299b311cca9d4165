-- Of the proofs alone: pieces of a text, each of which is looked over by itself.
use Rattle.std.specs.Prelude.{◌≡◌, ◌≤◌, ◌<◌, ◌+◌, ◌-◌, ◌*◌, ℕ, List, ◌++◌, length, get_or, true, Ok, Option}
use Rattle.csv.specs.Reading.{default_config, records}
use Rattle.pipe_columns.specs.declared.any_value.AnyValue.{AnyValue}
use Rattle.pipe_columns.specs.declared.schema.Field.{Field}
use Rattle.pipe_csv.specs.CsvRows.{read_rows}
use Rattle.pipe_scan.specs.Lines.{has_no_quote}
use Rattle.pipe_scan.specs.Records.{Records, between, records_at}
use Rattle.pipe_source.specs.Layout.{laid}
use Rattle.pipe_source.specs.Rows.{IsStart}
use Rattle.pipe_source.specs.declared.layout.Layout.{Layout}
use Rattle.pipe_source.specs.declared.piece_check.PieceRows.{PieceRows}

-- from each place of a piece without a quote on, a text has the records of the rest of it, and those
-- behind it
pub record IsPart (text : List ℕ) (low high : ℕ) : Type 0 where
  pub order : low ≤ high
  pub within : high ≤ length text
  pub records : has_no_quote (between text low high) ≡ true → (p : ℕ) → low ≤ p → p ≤ high
      → records_at text p ≡ records default_config (between text p high) ++ records_at text high

-- a text is cut at bounds, one behind the other
abbrev pub AreParts : List ℕ → List ℕ → Type 0
AreParts text bounds = (n : ℕ) → n + 1 < length bounds
    → IsPart text (get_or bounds n 0) (get_or bounds (n + 1) 0)

-- the bounds go from a place to another
pub record AreBounds (text : List ℕ) (begin end : ℕ) (bounds : List ℕ) : Type 0 where
  pub some : 0 < length bounds
  pub first : get_or bounds 0 0 ≡ begin
  pub last : get_or bounds (length bounds - 1) 0 ≡ end
  pub each : AreParts text bounds

-- between two places a text has so many records, and each reads
pub record AreRowsTo
    (layout : Option Layout) (schema : List Field) (text : List ℕ) (low high many : ℕ) : Type 0 where
  pub front : Records
  pub rows : List (List AnyValue)
  pub records : records_at text low ≡ front ++ records_at text high
  pub read : read_rows 1 1 schema (laid layout front) ≡ Ok rows
  pub count : length front ≡ many

-- every so many rows of a piece the place of one is noted, counted from where the piece begins
pub record ArePlaces (text : List ℕ) (grain : ℕ) (piece : PieceRows) : Type 0 where
  pub each : (k : ℕ) → k < length piece.places.items
      → IsStart text piece.low (k * grain) (piece.low + get_or piece.places.items k 0)
  pub all : piece.count ≤ length piece.places.items * grain

-- a piece was looked over
pub record IsLookedOver
    (layout : Option Layout) (schema : List Field) (text : List ℕ) (low high grain : ℕ)
    (piece : PieceRows) : Type 0 where
  pub begin : piece.low ≡ low
  pub rows : AreRowsTo layout schema text low high piece.count
  pub places : ArePlaces text grain piece

-- piece n between bounds was
abbrev pub IsPieceAt :
    Option Layout → List Field → List ℕ → List ℕ → ℕ → ℕ → PieceRows → Type 0
IsPieceAt layout schema text bounds grain n piece =
    IsLookedOver layout schema text (get_or bounds n 0) (get_or bounds (n + 1) 0) grain piece

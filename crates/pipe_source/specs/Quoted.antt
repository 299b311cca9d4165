-- Of the proofs alone: a reader of records with a quote, whose texts stand one behind the other.
use Rattle.std.specs.Prelude.{ℕ, ◌≡◌, ◌⊎◌, ◌<◌, ◌++◌, List, [], ◌∷◌, drop, get_or, length, Option, Some, None, ⊤}
use Rattle.std.specs.Io.Cursor.{cursor_remaining}
use Rattle.csv.specs.Reading.{Ready, default_config, reader_config, reader_state, reader_trim, records, source_of}
use Rattle.csv.specs.declared.parser.State.TheVariants as st
use Rattle.csv.specs.declared.reader.Reader.{Reader}
use Rattle.csv.specs.declared.reader.Trim.TheVariants as trim
use Rattle.pipe_scan.specs.Records.{Records}
use Rattle.pipe_scan.specs.Row.{Takes}
use Rattle.pipe_source.specs.declared.quoted_rows.QuotedRows.{QuotedRows}

-- these places of a text are those of records of these fields
abbrev pub ArePlacesOf : List ℕ → List (ℕ × ℕ) → Records → Type 0
ArePlacesOf text [] [] = ⊤
ArePlacesOf text [] (f ∷ fs) = ⊥
ArePlacesOf text (p ∷ ps) [] = ⊥
ArePlacesOf text (p ∷ ps) (f ∷ fs) = Takes text p.0 p.1 f × ArePlacesOf text ps fs

-- some bytes are the texts of the records at these places of a text, and more may follow if the last ends before another place
pub record AreTextsOf (text : List ℕ) (low : ℕ) (bytes : List ℕ) (places : List (ℕ × ℕ)) : Type 0 where
  pub fields : Records
  pub placed : ArePlacesOf text places fields
  pub alone : records default_config bytes ≡ fields
  pub before : low < length text → (rest : List ℕ)
      → records default_config (bytes ++ rest) ≡ fields ++ records default_config rest

-- a reader gives these records, one at a call
pub record WillGive {R : Type 0} (left : R → Option (List ℕ)) (reader : Reader R) (fields : Records) : Type 0 where
  pub plain : reader_trim reader ≡ trim.None
  pub ready : Ready reader
  pub config : reader_config reader ≡ default_config
  pub between : (reader_state reader ≡ st.StartRecord) ⊎ (reader_state reader ≡ st.AfterCr)
  pub bytes : List ℕ
  pub source : source_of left reader ≡ Some bytes
  pub records : records default_config bytes ≡ fields

-- a reader, if there is one, gives the records at these places of a text
abbrev pub WillRead : {R : Type 0} → (R → Option (List ℕ)) → List ℕ → List (ℕ × ℕ) → Option (Reader R) → Type 0
WillRead left text places None = places ≡ []
WillRead left text places (Some reader) =
    (fields : Records) × WillGive left reader fields × ArePlacesOf text places fields

-- the records that come next are those at the places that come next
abbrev pub AreAhead : List ℕ → QuotedRows → Type 0
AreAhead text quoted =
    WillRead (cursor_remaining (λ v. Some v.items)) text (drop quoted.next quoted.places.items) quoted.reader

-- the record that comes next stands at a place
abbrev pub IsNext : ℕ × ℕ → QuotedRows → Type 0
IsNext place quoted = (quoted.next < length quoted.places.items)
    × (get_or quoted.places.items quoted.next (0, 0) ≡ place)

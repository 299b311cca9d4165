-- What a scan of a record tells.
use Rattle.std.specs.Prelude.{ℕ, ◌≡◌, ◌<◌, ◌≤◌, List, [], length, slice_index, ⊤}
use Rattle.pipe_scan.specs.Records.{records_at}
use Rattle.pipe_scan.specs.Row.{IsWider, TakesCut}
use Rattle.pipe_scan.specs.declared.scan.Scan.{Scan}
use Rattle.pipe_scan.specs.declared.scan.Scan.TheVariants as scan

-- the first record from a place on, no record, one that is too wide, or a quote not far from it
abbrev pub Scans : List ℕ → ℕ → List ℕ → Scan → Type 0
Scans text at ends scan.End = records_at text at ≡ []
Scans text at ends (scan.Record start count next) = TakesCut text at next start count ends
Scans text at ends scan.Wide = IsWider text at (length ends)
Scans text at ends (scan.Quote i) = (at ≤ i) × (i < length text) × (slice_index text i ≡ 34)

-- behind a record that was scanned, a cursor stands where the next one begins
abbrev pub StandsBehind : Scan → ℕ → Type 0
StandsBehind (scan.Record start count next) cursor = cursor ≡ next
StandsBehind scan.End cursor = ⊤
StandsBehind scan.Wide cursor = ⊤
StandsBehind (scan.Quote i) cursor = ⊤

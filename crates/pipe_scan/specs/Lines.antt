-- The records of a text without a quote: its lines that aren't empty, each cut at its commas.
use Rattle.std.specs.Prelude.{ℕ, ◌==◌, ◌&&◌, ◌||◌, not, Bool, true, false, List, [], ◌∷◌, map}
use Rattle.std.specs.List.{filter, slice_split}
use Rattle.csv.specs.Machine.{carriage_return, line_feed}
use Rattle.pipe_scan.specs.Records.{Records}

-- a byte that ends a line, CR or LF
abbrev pub ends_line : ℕ → Bool
ends_line c = (c == carriage_return) || (c == line_feed)

-- a comma
abbrev pub is_comma : ℕ → Bool
is_comma c = c == 44

-- a text has no quote
abbrev pub has_no_quote : List ℕ → Bool
has_no_quote [] = true
has_no_quote (c ∷ cs) = not (c == 34) && has_no_quote cs

-- the fields of a line, between its commas
abbrev pub fields_of_line : List ℕ → List (List ℕ)
fields_of_line line = slice_split is_comma line

-- whether a line has a byte
abbrev pub has_bytes : List ℕ → Bool
has_bytes [] = false
has_bytes (c ∷ cs) = true

-- the fields of each line of a text that isn't empty
abbrev pub records_of_lines : List ℕ → Records
records_of_lines xs = map fields_of_line (filter has_bytes (slice_split ends_line xs))

-- a text that ends with the end of a line
abbrev pub ends_with_line : List ℕ → Bool
ends_with_line [] = false
ends_with_line (c ∷ []) = ends_line c
ends_with_line (c ∷ d ∷ cs) = ends_with_line (d ∷ cs)

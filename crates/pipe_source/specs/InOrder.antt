-- Files whose columns stand in the order of a schema, beside those whose columns are found by their names.
use Rattle.std.specs.Prelude.{◌≡◌, List, length, map, Option, Some, None, Ok, ⊤}
use Rattle.std.specs.List.{range_with_len}
use Rattle.pipe_columns.specs.declared.schema.Field.{Field}
use Rattle.pipe_csv.specs.CsvRows.{field, header, Misfit, missing, width}
use Rattle.pipe_source.specs.CsvChunks.{misfit, Stop, too_large}
use Rattle.pipe_source.specs.NamedRows.{places_of}

-- in a header of a schema's names each of its columns is found in its own place
abbrev pub AreFound : List Field → Type 0
AreFound schema =
    places_of 1 1 schema (map (λ f. f.name) schema) ≡ Ok (range_with_len 0 (length schema))

-- a misfit that is neither of a header nor of a field
abbrev pub IsOfRow : Misfit → Type 0
IsOfRow (missing file) = ⊤
IsOfRow (header file) = ⊥
IsOfRow (width file row) = ⊤
IsOfRow (field file row column) = ⊥

-- files are read without a stop, or one that is neither of a header nor of a field
abbrev pub StopsElsewhere : Option Stop → Type 0
StopsElsewhere None = ⊤
StopsElsewhere (Some (misfit m)) = IsOfRow m
StopsElsewhere (Some too_large) = ⊤

-- Of the proofs alone: fields of which a look at their bytes' kinds tells that they read.
use Rattle.std.specs.Prelude.{◌≡◌, ℕ, Bool, true, false, List, [], ◌∷◌, length, get_or, ⊤}
use Rattle.pipe_columns.specs.declared.data_type.DataType.TheVariants as dt
use Rattle.pipe_columns.specs.declared.schema.Field.{Field}
use Rattle.pipe_source.specs.declared.layout.Layout.{Layout}

-- a number of 64 bits, or a text of which all bytes are ASCII
abbrev pub IsKnownField : Bool → Bool → Field → Type 0
IsKnownField is_ascii true f = f.dtype ≡ dt.Int64
IsKnownField is_ascii false f = (f.dtype ≡ dt.String) × (is_ascii ≡ true)

-- each field is one of them, as told
abbrev pub AreKnown : Bool → List Bool → List Field → Type 0
AreKnown is_ascii [] [] = ⊤
AreKnown is_ascii [] (f ∷ fs) = ⊥
AreKnown is_ascii (n ∷ ns) [] = ⊥
AreKnown is_ascii (n ∷ ns) (f ∷ fs) = IsKnownField is_ascii n f × AreKnown is_ascii ns fs

-- each column is one of them, as told of the field at its place
abbrev pub AreKnownAt : Bool → List Bool → List Field → List ℕ → Type 0
AreKnownAt is_ascii numbers [] [] = ⊤
AreKnownAt is_ascii numbers [] (place ∷ places) = ⊥
AreKnownAt is_ascii numbers (c ∷ cs) [] = ⊥
AreKnownAt is_ascii numbers (c ∷ cs) (place ∷ places) =
    IsKnownField is_ascii (get_or numbers place false) c × AreKnownAt is_ascii numbers cs places

-- of as many fields as a layout has it is told that its columns are known
abbrev pub AreKnownIn : Bool → List Bool → List Field → Layout → Type 0
AreKnownIn is_ascii numbers columns l =
    (length numbers ≡ l.count) × AreKnownAt is_ascii numbers columns l.places.items

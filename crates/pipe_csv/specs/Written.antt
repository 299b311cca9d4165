-- Of the proofs alone: what a CSV writer holds in the midst of a record, and how that grows.
use Rattle.std.specs.Prelude.{ℕ, Bool, ◌≡◌, ◌==◌, ◌&&◌, ◌||◌, ◌++◌, ◌+◌, ◌^◌, ◌<◌, ◌∷◌, [], not, List, Some, Result, Vec, OnOk, length}
use Rattle.std.specs.declared.alloc.Global.{Global}
use Rattle.csv.specs.declared.writer.Writer.{Writer}
use Rattle.csv.specs.Writing.{default_writer, writer_setup, fields_written, has_written, text_written, row_body, is_blank}
use Rattle.pipe_csv.specs.Texts.{line_of}

-- a writer into memory
abbrev pub TextWriter : Type 0
TextWriter = Writer (Vec ℕ Global)

-- one field at most, in a record of which no byte is written
abbrev pub is_still_blank : TextWriter → List (List ℕ) → Bool
is_still_blank writer fields =
    not (has_written writer) && ((length fields == 0) || (length fields == 1))

-- a writer with the default settings has written a text, and then these fields of a record
pub record HasWritten
    (writer : TextWriter) (text : List ℕ) (fields : List (List ℕ)) : Type 0 where
  pub setup : writer_setup writer ≡ default_writer
  pub bytes : text_written (λ v. Some v.items) writer
      ≡ Some (text ++ row_body default_writer fields)
  pub count : fields_written writer ≡ length fields
  pub blank : is_blank default_writer fields ≡ is_still_blank writer fields

-- one more field of a record was written
abbrev pub AddsField :
    {A E : Type 0} → TextWriter → TextWriter → Result A E → List ℕ → Type 0
AddsField old new result field =
    (text : List ℕ) → (fields : List (List ℕ)) → length fields + 1 < 2 ^ 64
    → HasWritten old text fields → OnOk result (HasWritten new text (fields ++ field ∷ []))

-- the record of the fields so far was ended
abbrev pub EndsRecord : {A E : Type 0} → TextWriter → TextWriter → Result A E → Type 0
EndsRecord old new result =
    (text : List ℕ) → (fields : List (List ℕ))
    → HasWritten old text fields → OnOk result (HasWritten new (text ++ line_of fields) [])

-- a record of these fields was written
abbrev pub AddsRecord :
    {A E : Type 0} → TextWriter → TextWriter → Result A E → List (List ℕ) → Type 0
AddsRecord old new result fields =
    (text : List ℕ) → HasWritten old text []
    → OnOk result (HasWritten new (text ++ line_of fields) [])

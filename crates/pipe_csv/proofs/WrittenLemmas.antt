-- How what a CSV writer has written grows.
use Rattle.std.proofs.Common.{◌≡◌, ◌≢◌, ◌∙◌, ◌==◌, ◌+◌, ◌-◌, ◌^◌, ◌<◌, ◌∷◌, ◌++◌, [], ℕ, List, Option, Some, None, length, min, not, true, false, refl, sym, ap, arith, append_assoc, append-nil, length-append}
use Rattle.std.specs.Io.KnownBytes.{Appends}
use Rattle.csv.specs.declared.writer.QuoteStyle.TheVariants as style
use Rattle.csv.specs.Writing.{default_writer, writer_setup, fields_written, has_written, text_written, writer_under, writer_pending, next_sep, field_text, tail_text, is_blank}
use Rattle.csv.proofs.WriteFacts.{row-more, blank-more}
use Rattle.pipe_csv.specs.Texts.{line_of}
use Rattle.pipe_csv.specs.Written.{HasWritten, TextWriter}

-- all that a writer was given
abbrev pub bytes_of : TextWriter → Option (List ℕ)
bytes_of writer = text_written (λ v. Some v.items) writer

-- what is appended to known bytes
appends-known : (old new : Option (List ℕ)) (xs bs : List ℕ) → old ≡ Some xs → Appends old new bs → new ≡ Some (xs ++ bs)
appends-known None new xs bs known more = cc known
appends-known (Some ys) None xs bs known more = absurd more
appends-known (Some ys) (Some zs) xs bs known more =
    let same : ys ≡ xs = cc known in
    rw (more, same) refl

-- quotes are written where they are needed
necessary : style.Necessary ≢ style.NonNumeric
necessary e = cc e

-- one more field
pub field-written : (old new : TextWriter) (text : List ℕ) (fields : List (List ℕ)) (field : List ℕ)
    → HasWritten old text fields → length fields + 1 < 2 ^ 64
    → (((writer_setup old).style ≢ style.NonNumeric) → Appends (bytes_of old) (bytes_of new) (next_sep (writer_setup old) (fields_written old) ++ field_text (writer_setup old) field))
    → writer_setup new ≡ writer_setup old
    → fields_written new ≡ min (fields_written old + 1) (2 ^ 64 - 1)
    → ((has_written old ≡ false) → ((writer_setup old).style ≢ style.NonNumeric) → has_written new ≡ not (length (field_text (writer_setup old) field) == 0))
    → ((has_written old ≡ true) → has_written new ≡ true)
    → HasWritten new text (fields ++ field ∷ [])
field-written old new text fields field h small told same count wrote stays =
    let plain : (writer_setup old).style ≢ style.NonNumeric = rw h.setup necessary in
    let size : length (fields ++ field ∷ []) ≡ length fields + 1 = length-append fields (field ∷ []) in
    let more = rw (h.setup, h.count) at (told plain) in
    record {
      setup = same ∙ h.setup;
      bytes = appends-known (bytes_of old) (bytes_of new) _ _ h.bytes more ∙ ap Some (append_assoc text _ _ ∙ ap (λ t. text ++ t) (sym (row-more default_writer fields field)));
      count = rw size (count ∙ rw h.count (omega arith));
      blank = rw size (blank-more default_writer fields field (has_written old) (has_written new) h.blank (λ w. rw h.setup at (wrote w plain)) stays);
    }

-- the end of a record
pub record-ended : (old new : TextWriter) (text : List ℕ) (fields : List (List ℕ))
    → HasWritten old text fields
    → Appends (bytes_of old) (bytes_of new) (tail_text (writer_setup old) (has_written old) (fields_written old))
    → fields_written new ≡ 0 → has_written new ≡ false → writer_setup new ≡ writer_setup old
    → HasWritten new (text ++ line_of fields) []
unfolding is_blank
record-ended old new text fields h told count wrote same =
    let more = rw (h.setup, h.count, ← h.blank) at told in
    record {
      setup = same ∙ h.setup;
      bytes = appends-known (bytes_of old) (bytes_of new) _ _ h.bytes more ∙ ap Some (append_assoc text _ _ ∙ sym (append-nil (text ++ line_of fields)));
      count = count;
      blank = rw wrote refl;
    }

-- a writer as it begins
pub nothing-written : (writer : TextWriter) → (writer_under writer).items ≡ [] → writer_pending writer ≡ []
    → writer_setup writer ≡ default_writer → fields_written writer ≡ 0 → has_written writer ≡ false
    → HasWritten writer [] []
unfolding is_blank
nothing-written writer under pending setup count wrote = record {
  setup = setup;
  bytes = rw (under, pending) refl;
  count = count;
  blank = rw wrote refl;
}

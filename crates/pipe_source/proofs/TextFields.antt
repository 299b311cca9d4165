-- Fields that read as texts.
use Rattle.std.proofs.Common.{◌≡◌, ◌-◌, ℕ, drop, List, [], ◌∷◌, Bool, true, false, Some, None, is_some, if◌then◌else◌, refl}
use Rattle.std.specs.Str.{IsAscii, IsUtf8, is_utf8}
use Rattle.std.proofs.lemmas.Str.{IsAscii-drop, IsAscii-take, IsUtf8-from_ascii, IsUtf8-from_is_utf8, is_utf8-from_IsUtf8}
use Rattle.pipe_columns.specs.declared.data_type.DataType.TheVariants as dt
use Rattle.pipe_columns.specs.declared.any_value.AnyValue.TheVariants as av
use Rattle.pipe_csv.specs.Fields.{read_field}
use Rattle.pipe_scan.specs.Records.{between}

-- bytes that are some text are in UTF-8
utf8-tested : (bs : List ℕ) (b : Bool) → is_utf8 bs ≡ b → is_some (if b then Some (av.Text bs) else None) ≡ true → IsUtf8 bs
utf8-tested bs true e h = IsUtf8-from_is_utf8 bs e
utf8-tested bs false e h = cc

-- a field that reads as a text is in UTF-8
pub text-field : (bs : List ℕ) → is_some (read_field dt.String bs) ≡ true → IsUtf8 bs
text-field [] h = ([], (refl, refl))
text-field (b ∷ bs) h = utf8-tested (b ∷ bs) (is_utf8 (b ∷ bs)) refl h

-- a field of bytes that are ASCII reads as a text
utf8-reads : (bs : List ℕ) → is_utf8 bs ≡ true → is_some (read_field dt.String bs) ≡ true
utf8-reads [] e = refl
utf8-reads (b ∷ bs) e = rw e refl

-- so does a part of a text that is ASCII
pub ascii-reads : (text : List ℕ) (low high : ℕ) → IsAscii text → is_some (read_field dt.String (between text low high)) ≡ true
ascii-reads text low high h =
    utf8-reads (between text low high) (is_utf8-from_IsUtf8 (between text low high) (IsUtf8-from_ascii (between text low high) (IsAscii-take (drop low text) (high - low) (IsAscii-drop text low h))))

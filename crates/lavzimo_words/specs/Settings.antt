-- The order, the bounds and the numbers that options have.
use Rattle.std.specs.Prelude.{ℕ, ◌&&◌, Bool, true, false, List, codes, bytes_eq, length, nat_le, nat_lt, position, if◌then◌else◌, Option, Some, None, Result, Ok, Err}
use Rattle.std.specs.List.{list_all}
use Rattle.std.specs.Char.{digit_value}
use Rattle.std.specs.Str.Parse.{digits_value, without_leading_plus}
use Rattle.clap.specs.Lexer.{strip_byte}
use Rattle.clap.specs.Words.{Row, first_of}
use Rattle.pipe_words.specs.declared.plan.Format.{Format}
use Rattle.pipe_words.specs.declared.plan.Format.TheVariants as format
use Rattle.lavzimo_words.specs.declared.asked.Order.{Order}
use Rattle.lavzimo_words.specs.declared.asked.Order.TheVariants as order
use Rattle.lavzimo_words.specs.declared.asked_column.AskedColumn.{AskedColumn}
use Rattle.lavzimo_words.specs.declared.refusal.Refusal.{Refusal}
use Rattle.lavzimo_words.specs.declared.refusal.Refusal.TheVariants as refusal

-- the place of the shown column of a name
abbrev pub place_of : List AskedColumn → List ℕ → Option ℕ
place_of shown name = position (λ s. bytes_eq s.name name) shown

-- an order by the column at a place, downwards or upwards, if there is one
abbrev pub order_by : Bool → List ℕ → Option ℕ → Result Order Refusal
order_by down name None = Err (refusal.NoOutput name)
order_by down name (Some place) = Ok (if down then order.Down place else order.Up place)

-- an order by the shown column of a name
abbrev pub order_to : Bool → List AskedColumn → List ℕ → Result Order Refusal
order_to down shown name = order_by down name (place_of shown name)

-- the order of a text that is a column's name, or one behind a sign
abbrev pub order_signed : List AskedColumn → List ℕ → Option (List ℕ) → Result Order Refusal
order_signed shown text None = order_to false shown text
order_signed shown text (Some name) = order_to true shown name

-- the order that a text says: `key`, `first`, `-COLUMN` or `COLUMN`
abbrev pub order_said : List AskedColumn → List ℕ → Result Order Refusal
order_said shown text =
    if bytes_eq text (codes "key") then Ok order.Key
    else (if bytes_eq text (codes "first") then Ok order.First
    else order_signed shown text (strip_byte 45 text))

-- the order of the answer: that of keys where none is said
abbrev pub order_of : List AskedColumn → Option (List ℕ) → Result Order Refusal
order_of shown None = Ok order.Key
order_of shown (Some text) = order_said shown text

-- whether a text is digits, at least one, behind a plus or none
abbrev pub is_number : List ℕ → Bool
is_number text =
    nat_lt 0 (length (without_leading_plus text))
    && list_all (λ d. nat_lt (digit_value d) 10) (without_leading_plus text)

-- the number that a text writes
abbrev pub number_in : List ℕ → ℕ
number_in text = digits_value 10 (without_leading_plus text)

-- the number that a text writes, from one to another
abbrev pub number_within : ℕ → ℕ → List ℕ → Option ℕ
number_within low high text =
    if is_number text && (nat_le low (number_in text) && nat_le (number_in text) high)
    then Some (number_in text) else None

-- a number that an option has, if it is one that it may have
abbrev pub number_had : List ℕ → List ℕ → Option ℕ → Result (Option ℕ) Refusal
number_had option text None = Err (refusal.NoNumber option text)
number_had option text (Some n) = Ok (Some n)

-- the number of an option that may be left out
abbrev pub number_said : ℕ → ℕ → List ℕ → Option (List ℕ) → Result (Option ℕ) Refusal
number_said low high option None = Ok None
number_said low high option (Some text) =
    number_had option text (number_within low high text)

-- the number of an option
abbrev pub number_of : ℕ → ℕ → List ℕ → List Row → Result (Option ℕ) Refusal
number_of low high option rows = number_said low high option (first_of option rows)

-- the greatest number of 64 bits
abbrev pub most : ℕ
most = 18446744073709551615

-- the format of a name: CSV where none is said
abbrev pub format_of : Option (List ℕ) → Result Format Refusal
format_of None = Ok format.Csv
format_of (Some name) =
    if bytes_eq name (codes "csv") then Ok format.Csv
    else (if bytes_eq name (codes "json") then Ok format.Json
    else Err (refusal.NoFormat name))

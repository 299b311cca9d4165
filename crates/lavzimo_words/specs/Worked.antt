-- Worked words, and what they ask.
use Rattle.std.specs.Prelude.{ℕ, List, [], ◌∷◌, codes, None}
use Rattle.pipe_columns.specs.declared.data_type.DataType.{DataType}
use Rattle.pipe_columns.specs.declared.data_type.DataType.TheVariants as dt
use Rattle.pipe_words.specs.declared.plan.Format.TheVariants as format
use Rattle.lavzimo_words.specs.Asked.{AskedSeen, ColumnsSeen, QuestionSeen, Words, ask, of_columns}
use Rattle.lavzimo_words.specs.declared.asked.Order.{Order}
use Rattle.lavzimo_words.specs.declared.asked.Order.TheVariants as order
use Rattle.lavzimo_words.specs.declared.asked_column.AskedColumn.{AskedColumn}
use Rattle.lavzimo_words.specs.declared.role.Role.{Role}
use Rattle.lavzimo_words.specs.declared.role.Role.TheVariants as role

-- a column in a role, of a type, under a name
abbrev pub column_in : Role → List ℕ → DataType → List ℕ → AskedColumn
column_in r column dtype name = record { role = r; column = column; dtype = dtype; name = name }

-- a key of texts, under its own name
abbrev pub text_key : List ℕ → AskedColumn
text_key column = column_in role.Key column dt.String column

-- the number of rows
abbrev pub row_count : AskedColumn
row_count = column_in role.Rows [] dt.String (codes "count")

-- columns in an order, all rows of them
abbrev pub in_order : List AskedColumn → Order → ColumnsSeen
in_order columns o = record { columns = columns; order = o; offset = 0; limit = None }

-- a question of a file, as CSV and with what stands where nothing is said
abbrev pub of_files : QuestionSeen → List (List ℕ) → AskedSeen
of_files q files = record {
  question = q;
  format = format.Csv;
  workers = None;
  partitions = 16;
  spill_dir = None;
  files = files;
}

-- the same of columns by their keys, of standard input
abbrev pub plain : List AskedColumn → Words
plain columns = ask (of_files (of_columns (in_order columns order.Key)) (codes "-" ∷ []))

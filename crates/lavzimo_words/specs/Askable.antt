-- What may be asked of columns, which is what words come to where they ask for columns.
use Rattle.std.specs.Prelude.{◌≡◌, ◌≢◌, ◌<◌, ◌++◌, ℕ, true, List, length, None, ⊤}
use Rattle.std.specs.List.{All}
use Rattle.pipe_columns.specs.declared.data_type.DataType.{DataType}
use Rattle.pipe_columns.specs.DataType.{is_input}
use Rattle.lavzimo_words.specs.Asked.{ColumnsSeen, QuestionSeen, Words, ask, ended, of_columns, of_file, question_seen, refused}
use Rattle.lavzimo_words.specs.AskedQuery.{aggs_in, keys_in}
use Rattle.lavzimo_words.specs.Roles.{suits}
use Rattle.lavzimo_words.specs.Shown.{first_double}
use Rattle.lavzimo_words.specs.declared.asked.Order.{Order}
use Rattle.lavzimo_words.specs.declared.asked.Order.TheVariants as order
use Rattle.lavzimo_words.specs.declared.words.Reading.{Reading}
use Rattle.lavzimo_words.specs.declared.words.Reading.TheVariants as reading

-- an order by a shown column is by one of so many
abbrev pub IsOrderWithin : ℕ → Order → Type 0
IsOrderWithin count order.Key = ⊤
IsOrderWithin count order.First = ⊤
IsOrderWithin count (order.Up place) = place < count
IsOrderWithin count (order.Down place) = place < count

-- columns may be asked for: there is one, keys stand before the others, and no two are shown under
-- one name; a column has one type, which one of a file can have and which suits what is asked of it;
-- and the order is by a column that is there
pub record IsAskable (c : ColumnsSeen) : Type 0 where
  pub some : length c.columns ≢ 0
  pub keys_first : c.columns ≡ keys_in c.columns ++ aggs_in c.columns
  pub told_apart : first_double c.columns ≡ None
  pub types : List ℕ → DataType
  pub typed : All (λ a. a.dtype ≡ types a.column) c.columns
  pub read : All (λ a. is_input a.dtype ≡ true) c.columns
  pub suited : All (λ a. suits a.role a.dtype ≡ true) c.columns
  pub within : IsOrderWithin (length c.columns) c.order

-- where columns are asked for, they may be
abbrev pub MayBeAsked : QuestionSeen → Type 0
MayBeAsked (of_file name) = ⊤
MayBeAsked (of_columns c) = IsAskable c

-- what words come to may be asked, where it is a question
abbrev pub ComesToAskable : Words → Type 0
ComesToAskable (ask a) = MayBeAsked a.question
ComesToAskable (refused r) = ⊤
ComesToAskable (ended kinds) = ⊤

-- what was read may be asked, where it is a question
abbrev pub HasAskable : Reading → Type 0
HasAskable (reading.Asked a) = MayBeAsked (question_seen a.question)
HasAskable (reading.Refused r) = ⊤
HasAskable (reading.Help text) = ⊤
HasAskable (reading.Version text) = ⊤
HasAskable (reading.Faulty text) = ⊤

-- The aggregates of a query.

-- what an aggregate gives of its values: `mean` a sum and a count, `count` the number of values
-- that are no null, and `len` that of rows
pub data Kind : Type 0 where
  sum : Kind
  mean : Kind
  min : Kind
  max : Kind
  first : Kind
  last : Kind
  count : Kind
  len : Kind

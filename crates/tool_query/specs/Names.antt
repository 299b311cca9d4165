-- How it is told that a word is no query.
use Rattle.std.specs.Prelude.{ℕ, List, codes}
use Rattle.pipe_aggs.specs.declared.query_fault.QueryFault.{QueryFault}
use Rattle.pipe_aggs.specs.declared.query_fault.QueryFault.TheVariants as query_fault
use Rattle.tool_query.specs.declared.no_query.NoQuery.{NoQuery}
use Rattle.tool_query.specs.declared.no_query.NoQuery.TheVariants as no_query

-- the name by which a fault of a query is told
abbrev pub fault_name : QueryFault → List ℕ
fault_name query_fault.DoubleName = codes "DoubleName"
fault_name query_fault.NoKey = codes "NoKey"
fault_name query_fault.BadNode = codes "BadNode"
fault_name query_fault.UnknownColumn = codes "UnknownColumn"
fault_name query_fault.IllTyped = codes "IllTyped"
fault_name query_fault.KeyHasAggregate = codes "KeyHasAggregate"
fault_name query_fault.NotConvertible = codes "NotConvertible"
fault_name query_fault.SumOfDate = codes "SumOfDate"
fault_name query_fault.DoubleOutput = codes "DoubleOutput"
fault_name query_fault.NegativeSlice = codes "NegativeSlice"

-- the name by which it is told what is wrong with a word that is no query
abbrev pub no_query_name : NoQuery → List ℕ
no_query_name no_query.NotJson = codes "json"
no_query_name no_query.NotAQuery = codes "shape"
no_query_name (no_query.Faulty f) = fault_name f

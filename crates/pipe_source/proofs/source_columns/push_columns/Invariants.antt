use Rattle.std.proofs.Common.{◌≡◌, ◌++◌, drop, length, map, vec_len}
use Rattle.pipe_columns.specs.Frame.{AllHaveHeight}
use Rattle.pipe_csv.specs.Columns.{DoHold, columns_of}
use Rattle.pipe_source.proofs.source_columns.push_columns.Given as goal

-- the columns so far, before those of the rest
abbrev pub invariant-loop-i : goal.invariant-loop-i
invariant-loop-i l = record {
  width : vec_len l.columns ≡ length l.fields;
  columns : l.fn.made.items ++ columns_of l.fields (map (λ c. c.items) l.initial.columns.items) ≡ l.made.items ++ columns_of (drop l.i l.fields) (drop l.i (map (λ c. c.items) l.columns.items));
  hold : DoHold l.height (drop l.i l.fields) (drop l.i (map (λ c. c.items) l.columns.items));
  heights : AllHaveHeight l.height l.made.items;
}

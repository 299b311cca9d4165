-- What is read off an arena's expressions is what its trees say.
use Rattle.std.proofs.Common.{◌≡◌, ◌<◌, ℕ, List, length, refl, ap, sym, arith}
use Rattle.std.specs.Prelude.{slice_get, Option, Some, None, map}
use Rattle.std.proofs.lemmas.Option.{same_Some, slice_get_within}
use Rattle.pipe_columns.specs.declared.schema.Field.{Field}
use Rattle.pipe_exprs.specs.declared.expression.AExpr.{AExpr}
use Rattle.pipe_exprs.specs.declared.expression.AExpr.TheVariants as ax
use Rattle.pipe_exprs.specs.declared.expression.IRAggExpr.{IRAggExpr}
use Rattle.pipe_exprs.specs.declared.expression.Node.{Node}
use Rattle.pipe_model.specs.Convertible.{is_kept, unaliased}
use Rattle.pipe_model.specs.Expr.{Expr}
use Rattle.pipe_aggs.specs.KnownArena.{adds_dates_by, fed_by, kept_by, kind_by}
use Rattle.pipe_aggs.specs.Faults.{adds_dates}
use Rattle.pipe_exprs.specs.NodeFacts.{facts_of}
use Rattle.pipe_model.specs.Output.{input_type}
use Rattle.pipe_model.specs.WrittenTree.{agg_named}
use Rattle.pipe_exprs.specs.Nodes.{tree_if}
use Rattle.pipe_exprs.specs.Trees.{agg_input, alias_input, IsArena, tree, tree_at, trees}
use Rattle.pipe_exprs.proofs.PassFacts.{known_at}
use Rattle.pipe_exprs.proofs.NameFacts.{found_is, giver_before}

unaliased_as : (ts : List Expr) (o : Option AExpr) → alias_input o ≡ None → unaliased (tree_if ts o) ≡ tree_if ts o
unaliased_as ts None h = refl
unaliased_as ts (Some (ax.Column name)) h = refl
unaliased_as ts (Some (ax.Literal t v)) h = refl
unaliased_as ts (Some (ax.Cast e t)) h = refl
unaliased_as ts (Some (ax.BinaryExpr l o r)) h = refl
unaliased_as ts (Some (ax.Ternary p t f)) h = refl
unaliased_as ts (Some (ax.Alias e name)) h = cc h
unaliased_as ts (Some (ax.Agg a)) h = refl
unaliased_as ts (Some ax.Len) h = refl
unaliased_as ts (Some (ax.Filter e by)) h = refl
unaliased_as ts (Some (ax.Sort e)) h = refl

input_as : (ts : List Expr) (o : Option AExpr) (m : Node) → alias_input o ≡ Some m → unaliased (tree_if ts o) ≡ tree_at ts m
input_as ts None m h = cc h
input_as ts (Some (ax.Column name)) m h = cc h
input_as ts (Some (ax.Literal t v)) m h = cc h
input_as ts (Some (ax.Cast e t)) m h = cc h
input_as ts (Some (ax.BinaryExpr l o r)) m h = cc h
input_as ts (Some (ax.Ternary p t f)) m h = cc h
input_as ts (Some (ax.Alias e name)) m h = ap (λ x. tree_at ts x) (same_Some e m h)
input_as ts (Some (ax.Agg a)) m h = cc h
input_as ts (Some ax.Len) m h = cc h
input_as ts (Some (ax.Filter e by)) m h = cc h
input_as ts (Some (ax.Sort e)) m h = cc h

-- a node without alias, and what stands under an alias
pub unaliased_here : (es : List AExpr) (n : Node) (o : Option AExpr) → IsArena es → o ≡ slice_get es n.0 → alias_input o ≡ None
    → tree es n ≡ unaliased (tree es n)
unaliased_here es n o arena at h =
    rw (found_is es n o arena at) (sym (unaliased_as (trees es) o h))

pub unaliased_below : (es : List AExpr) (n m : Node) (o : Option AExpr) → IsArena es → o ≡ slice_get es n.0 → alias_input o ≡ Some m
    → tree es m ≡ unaliased (tree es n)
unaliased_below es n m o arena at h =
    rw (found_is es n o arena at) (sym (input_as (trees es) o m h))

-- whether an expression without alias can be kept, by what is known and by its tree
pub kept_is : (schema : List Field) (ts : List Expr) (o : Option AExpr) → kept_by (map (facts_of schema) ts) o ≡ is_kept (tree_if ts o) schema
kept_is schema ts None = refl
kept_is schema ts (Some (ax.Column name)) = refl
kept_is schema ts (Some (ax.Literal t v)) = refl
kept_is schema ts (Some (ax.Cast e t)) = refl
kept_is schema ts (Some (ax.BinaryExpr l o r)) = refl
kept_is schema ts (Some (ax.Ternary p t f)) = refl
kept_is schema ts (Some (ax.Alias e name)) = refl
kept_is schema ts (Some (ax.Agg a)) = rw (known_at schema ts (agg_input a)) refl
kept_is schema ts (Some ax.Len) = refl
kept_is schema ts (Some (ax.Filter e by)) = refl
kept_is schema ts (Some (ax.Sort e)) = refl

-- the aggregate that an expression without alias is
pub kind_is : (ts : List Expr) (name : List ℕ) (o : Option AExpr) → kind_by o ≡ (agg_named name (tree_if ts o)).kind
kind_is ts name None = refl
kind_is ts name (Some (ax.Column k)) = refl
kind_is ts name (Some (ax.Literal t v)) = refl
kind_is ts name (Some (ax.Cast e t)) = refl
kind_is ts name (Some (ax.BinaryExpr l o r)) = refl
kind_is ts name (Some (ax.Ternary p t f)) = refl
kind_is ts name (Some (ax.Alias e k)) = refl
kind_is ts name (Some (ax.Agg a)) = refl
kind_is ts name (Some ax.Len) = refl
kind_is ts name (Some (ax.Filter e by)) = refl
kind_is ts name (Some (ax.Sort e)) = refl

pub agg_named_so : (ts : List Expr) (name : List ℕ) (o : Option AExpr) → (agg_named name (tree_if ts o)).name ≡ name
agg_named_so ts name None = refl
agg_named_so ts name (Some (ax.Column k)) = refl
agg_named_so ts name (Some (ax.Literal t v)) = refl
agg_named_so ts name (Some (ax.Cast e t)) = refl
agg_named_so ts name (Some (ax.BinaryExpr l o r)) = refl
agg_named_so ts name (Some (ax.Ternary p t f)) = refl
agg_named_so ts name (Some (ax.Alias e k)) = refl
agg_named_so ts name (Some (ax.Agg a)) = refl
agg_named_so ts name (Some ax.Len) = refl
agg_named_so ts name (Some (ax.Filter e by)) = refl
agg_named_so ts name (Some (ax.Sort e)) = refl

-- the type of what an expression without alias is fed
pub fed_is : (schema : List Field) (ts : List Expr) (name : List ℕ) (o : Option AExpr)
    → fed_by (map (facts_of schema) ts) o ≡ input_type schema (agg_named name (tree_if ts o)).input
fed_is schema ts name None = refl
fed_is schema ts name (Some (ax.Column k)) = refl
fed_is schema ts name (Some (ax.Literal t v)) = refl
fed_is schema ts name (Some (ax.Cast e t)) = refl
fed_is schema ts name (Some (ax.BinaryExpr l o r)) = refl
fed_is schema ts name (Some (ax.Ternary p t f)) = refl
fed_is schema ts name (Some (ax.Alias e k)) = refl
fed_is schema ts name (Some (ax.Agg a)) = rw (known_at schema ts (agg_input a)) refl
fed_is schema ts name (Some ax.Len) = refl
fed_is schema ts name (Some (ax.Filter e by)) = refl
fed_is schema ts name (Some (ax.Sort e)) = refl

-- whether an expression without alias adds dates up
pub adds_dates_is : (schema : List Field) (ts : List Expr) (o : Option AExpr)
    → adds_dates_by (map (facts_of schema) ts) o ≡ adds_dates schema (tree_if ts o)
adds_dates_is schema ts None = refl
adds_dates_is schema ts (Some (ax.Column name)) = refl
adds_dates_is schema ts (Some (ax.Literal t v)) = refl
adds_dates_is schema ts (Some (ax.Cast e t)) = refl
adds_dates_is schema ts (Some (ax.BinaryExpr l o r)) = refl
adds_dates_is schema ts (Some (ax.Ternary p t f)) = refl
adds_dates_is schema ts (Some (ax.Alias e name)) = refl
adds_dates_is schema ts (Some (ax.Agg a)) = rw (known_at schema ts (agg_input a)) refl
adds_dates_is schema ts (Some ax.Len) = refl
adds_dates_is schema ts (Some (ax.Filter e by)) = refl
adds_dates_is schema ts (Some (ax.Sort e)) = refl

-- the input of an aggregate in an arena is there
pub input_there : (es : List AExpr) (n : Node) (a : IRAggExpr) → IsArena es → Some (ax.Agg a) ≡ slice_get es n.0
    → (agg_input a).0 < length es
input_there es n a arena at =
    let before : (agg_input a).0 < n.0 = giver_before es n (agg_input a) (Some (ax.Agg a)) arena at refl in
    omega (arith, before, slice_get_within es n.0 (ax.Agg a) (sym at))

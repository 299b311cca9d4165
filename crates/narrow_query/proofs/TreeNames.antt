-- What the trees of an arena name, its expressions name.
use Rattle.std.proofs.Common.{◌≡◌, ◌||◌, ◌++◌, ℕ, zero, suc, Bool, true, false, not, List, [], ◌∷◌, map, refl, Option, None, unwrap_or}
use Rattle.std.specs.Prelude.{slice_get}
use Rattle.std.specs.List.{list_all, list_any}
use Rattle.std.proofs.lemmas.Bool.{and_from, or_parts}
use Rattle.pipe_columns.specs.declared.schema.Field.{Field}
use Rattle.pipe_exprs.specs.declared.expression.AExpr.{AExpr}
use Rattle.pipe_exprs.specs.declared.expression.AExpr.TheVariants as ax
use Rattle.pipe_exprs.specs.declared.expression.Node.{Node}
use Rattle.pipe_exprs.specs.Trees.{agg_input, tree, tree_at, tree_of, trees}
use Rattle.pipe_exprs.proofs.TreeFacts.{trees_from}
use Rattle.pipe_aggs.specs.declared.query.Query.{Query}
use Rattle.pipe_aggs.specs.QueryTrees.{key_exprs, query_tree}
use Rattle.pipe_model.specs.Expr.{Expr, name_of}
use Rattle.pipe_model.specs.Expr as expr
use Rattle.pipe_model.specs.Convertible.{unaliased}
use Rattle.pipe_model.specs.Query.{AggTree}
use Rattle.pipe_model.specs.WrittenTree.{agg_named, agg_tree}
use Rattle.narrow_query.specs.Names.{covers, has_fed, has_named, is_column, named_fields, names}

-- neither of two
or-false : (a b : Bool) → a ≡ false → b ≡ false → (a || b) ≡ false
or-false a b h g = rw (h, g) refl

-- a tree of some that don't name a column
at-unnamed : (name : List ℕ) (t : Option Expr) (ts : List Expr) (n : ℕ) → list_any (names name) ts ≡ false → names name (unwrap_or (slice_get ts n) expr.len) ≡ false
at-unnamed name t [] zero h = refl
at-unnamed name t [] (suc n) h = refl
at-unnamed name t (x ∷ ts) zero h = (or_parts (names name x) (list_any (names name) ts) h).0
at-unnamed name t (x ∷ ts) (suc n) h = at-unnamed name t ts n (or_parts (names name x) (list_any (names name) ts) h).1

node-unnamed : (name : List ℕ) (ts : List Expr) (n : Node) → list_any (names name) ts ≡ false → names name (tree_at ts n) ≡ false
node-unnamed name ts n h = at-unnamed name None ts n.0 h

-- an expression over them that isn't the column
of-unnamed : (name : List ℕ) (ts : List Expr) (e : AExpr) → list_any (names name) ts ≡ false → is_column name e ≡ false → names name (tree_of ts e) ≡ false
of-unnamed name ts (ax.Column n) h c = c
of-unnamed name ts (ax.Literal t v) h c = refl
of-unnamed name ts (ax.Cast e t) h c = node-unnamed name ts e h
of-unnamed name ts (ax.BinaryExpr l o r) h c = or-false (names name (tree_at ts l)) (names name (tree_at ts r)) (node-unnamed name ts l h) (node-unnamed name ts r h)
of-unnamed name ts (ax.Ternary p t f) h c =
    or-false (names name (tree_at ts p)) (names name (tree_at ts t) || names name (tree_at ts f)) (node-unnamed name ts p h)
    (or-false (names name (tree_at ts t)) (names name (tree_at ts f)) (node-unnamed name ts t h) (node-unnamed name ts f h))
of-unnamed name ts (ax.Alias e n) h c = node-unnamed name ts e h
of-unnamed name ts (ax.Agg a) h c = node-unnamed name ts (agg_input a) h
of-unnamed name ts ax.Len h c = refl
of-unnamed name ts (ax.Filter e by) h c = or-false (names name (tree_at ts e)) (names name (tree_at ts by)) (node-unnamed name ts e h) (node-unnamed name ts by h)
of-unnamed name ts (ax.Sort e) h c = node-unnamed name ts e h

-- one more that doesn't
push-unnamed : (name : List ℕ) (ts : List Expr) (t : Expr) → list_any (names name) ts ≡ false → names name t ≡ false → list_any (names name) (ts ++ (t ∷ [])) ≡ false
push-unnamed name [] t h g = or-false (names name t) false g refl
push-unnamed name (x ∷ ts) t h g =
    let both = or_parts (names name x) (list_any (names name) ts) h in
    or-false (names name x) (list_any (names name) (ts ++ (t ∷ []))) both.0 (push-unnamed name ts t both.1 g)

-- the trees of expressions none of which is the column
all-unnamed : (name : List ℕ) (ts : List Expr) (es : List AExpr) → list_any (names name) ts ≡ false → list_any (is_column name) es ≡ false → list_any (names name) (trees_from ts es) ≡ false
all-unnamed name ts [] h g = h
all-unnamed name ts (e ∷ es) h g =
    let both = or_parts (is_column name e) (list_any (is_column name) es) g in
    all-unnamed name (ts ++ (tree_of ts e ∷ [])) es (push-unnamed name ts (tree_of ts e) h (of-unnamed name ts e h both.0)) both.1

-- what no expression of an arena names, none of its trees names
pub tree-unnamed : (name : List ℕ) (exprs : List AExpr) (n : Node) → list_any (is_column name) exprs ≡ false → names name (tree exprs n) ≡ false
tree-unnamed name exprs n h = node-unnamed name (trees exprs) n (all-unnamed name [] exprs refl h)

-- what one names is wanted
named-wanted : (w t : Bool) → (w ≡ false → t ≡ false) → (w || not t) ≡ true
named-wanted true t h = refl
named-wanted false t h = rw (h refl) refl

-- the fields that an arena names are all that a tree of it names
pub tree-named : (exprs : List AExpr) (n : Node) (schema : List Field) → has_named (named_fields exprs schema) schema (tree exprs n) ≡ true
tree-named exprs n [] = refl
tree-named exprs n (f ∷ fs) =
    and_from (list_any (is_column f.name) exprs || not (names f.name (tree exprs n))) (has_named (named_fields exprs fs) fs (tree exprs n))
    (named-wanted (list_any (is_column f.name) exprs) (names f.name (tree exprs n)) (tree-unnamed f.name exprs n)) (tree-named exprs n fs)

-- and all that trees of it name
pub trees-named : (exprs : List AExpr) (nodes : List Node) (all schema : List Field) → all ≡ schema → list_all (has_named (named_fields exprs schema) schema) (map (tree exprs) nodes) ≡ true
trees-named exprs [] all schema e = refl
trees-named exprs (n ∷ ns) all schema e = and_from (has_named (named_fields exprs schema) schema (tree exprs n)) _ (tree-named exprs n schema) (trees-named exprs ns all schema e)

-- what an aggregate is fed by is what its expression names
named-fed : (ws : List Bool) (schema : List Field) (name : List ℕ) (e : Expr) → has_named ws schema e ≡ true → has_fed ws schema (agg_named name e).input ≡ true
named-fed ws schema name (expr.column n) h = refl
named-fed ws schema name (expr.literal t v) h = refl
named-fed ws schema name (expr.cast e t) h = refl
named-fed ws schema name (expr.binary l o r) h = refl
named-fed ws schema name (expr.ternary p t f) h = refl
named-fed ws schema name (expr.alias e n) h = refl
named-fed ws schema name (expr.aggregate a e) h = h
named-fed ws schema name expr.len h = refl
named-fed ws schema name (expr.filter e by) h = refl
named-fed ws schema name (expr.sort e) h = refl

-- what an expression names, without its alias
pub unaliased-named : (ws : List Bool) (schema : List Field) (e : Expr) → has_named ws schema e ≡ true → has_named ws schema (unaliased e) ≡ true
unaliased-named ws schema (expr.column n) h = h
unaliased-named ws schema (expr.literal t v) h = h
unaliased-named ws schema (expr.cast e t) h = h
unaliased-named ws schema (expr.binary l o r) h = h
unaliased-named ws schema (expr.ternary p t f) h = h
unaliased-named ws schema (expr.alias e n) h = h
unaliased-named ws schema (expr.aggregate a e) h = h
unaliased-named ws schema expr.len h = h
unaliased-named ws schema (expr.filter e by) h = h
unaliased-named ws schema (expr.sort e) h = h

-- aggregates
aggs-fed : (exprs : List AExpr) (nodes : List Node) (schema : List Field) → list_all (λ (a : AggTree). has_fed (named_fields exprs schema) schema a.input) (map agg_tree (map (tree exprs) nodes)) ≡ true
aggs-fed exprs [] schema = refl
aggs-fed exprs (n ∷ ns) schema =
    let e : Expr = tree exprs n in
    and_from (has_fed (named_fields exprs schema) schema (agg_tree e).input) _
    (named-fed (named_fields exprs schema) schema (name_of e) (unaliased e) (unaliased-named (named_fields exprs schema) schema e (tree-named exprs n schema))) (aggs-fed exprs ns schema)

-- the fields that a query's arena names are all that the query names
pub arena-covers : (q : Query) → covers (named_fields q.arena q.schema) (query_tree q) ≡ true
arena-covers q =
    and_from (list_all (has_named (named_fields q.arena q.schema) q.schema) (key_exprs q)) (list_all (λ (a : AggTree). has_fed (named_fields q.arena q.schema) q.schema a.input) (query_tree q).aggs)
    (trees-named q.arena q.keys.items q.schema q.schema refl) (aggs-fed q.arena q.aggs.items q.schema)

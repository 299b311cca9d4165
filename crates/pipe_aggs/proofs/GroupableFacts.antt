-- A query without fault can be grouped.
use Rattle.std.proofs.Common.{◌≡◌, ◌&&◌, ◌||◌, ◌++◌, Bool, true, false, not, List, [], ◌∷◌, Option, Some, None, map, if◌then◌else◌, refl, ap}
use Rattle.std.proofs.lemmas.Bool.{and_parts}
use Rattle.std.specs.Prelude.{is_some, option_and_then, unwrap_or}
use Rattle.std.specs.List.{list_all, list_any}
use Rattle.pipe_columns.specs.declared.data_type.DataType.{DataType}
use Rattle.pipe_columns.specs.declared.data_type.DataType.TheVariants as dt
use Rattle.pipe_columns.specs.declared.schema.Field.{Field}
use Rattle.pipe_aggs.specs.declared.query.Query.{Query}
use Rattle.pipe_aggs.specs.CheckedQuery.{IsSound}
use Rattle.pipe_model.specs.Convertible.{convertible, is_kept, is_some_integer, keeps, unaliased}
use Rattle.pipe_model.specs.Expr.{Aggregation, Expr, name_of}
use Rattle.pipe_model.specs.Expr as expr
use Rattle.pipe_aggs.specs.Faults.{adds, adds_dates, all_exprs}
use Rattle.pipe_model.specs.Groupable.{is_fed, IsGroupable, is_suited, suited}
use Rattle.pipe_model.specs.Query.{AggTree}
use Rattle.pipe_aggs.specs.QueryTrees.{agg_exprs, key_exprs, query_tree}
use Rattle.pipe_model.specs.WrittenTree.{agg_named, agg_tree, kept_kind}
use Rattle.pipe_model.specs.Typing.{aggregate_type, is_row_wise, type_of}
use Rattle.pipe_columns.specs.DataType.{is_date, is_input}

both_hold : (a b : Bool) → a ≡ true → b ≡ true → (a && b) ≡ true
both_hold true b e f = f
both_hold false b e f = cc e

-- ---- one aggregate

-- the outermost alias has the type of what it names
unaliased-typed : (e : Expr) (schema : List Field) → type_of e schema ≡ type_of (unaliased e) schema
unaliased-typed (expr.column name) schema = refl
unaliased-typed (expr.literal t v) schema = refl
unaliased-typed (expr.cast e t) schema = refl
unaliased-typed (expr.binary l o r) schema = refl
unaliased-typed (expr.ternary p t f) schema = refl
unaliased-typed (expr.alias e name) schema = refl
unaliased-typed (expr.aggregate a e) schema = refl
unaliased-typed expr.len schema = refl
unaliased-typed (expr.filter e by) schema = refl
unaliased-typed (expr.sort e) schema = refl

-- an aggregation of values of an input type that it keeps, and that adds no dates up
suited-by : (a : Aggregation) (t : DataType) → is_input t ≡ true → keeps a (Some t) ≡ true → (adds a && is_date t) ≡ false
    → suited (kept_kind a) t ≡ true
suited-by expr.sum t i k d = both_hold (is_input t) (not (is_date t)) i (ap not d)
suited-by expr.first t i k d = refl
suited-by expr.last t i k d = refl
suited-by expr.mean t i k d = both_hold (is_input t) (not (is_date t)) i (ap not d)
suited-by (expr.count include_nulls) t i k d = refl
suited-by (expr.min propagate_nans) t i k d = (and_parts (not propagate_nans) (is_some_integer (Some t)) k).1
suited-by (expr.max propagate_nans) t i k d = (and_parts (not propagate_nans) (is_some_integer (Some t)) k).1
suited-by expr.median t i k d = cc k
suited-by expr.n_unique t i k d = cc k

-- what is kept of an expression is fed values in each row, and suits them
pub record IsUsable (schema : List Field) (a : AggTree) : Type 0 where
  pub fed : is_fed schema a.input ≡ true
  pub suited : is_suited schema a ≡ true

input_if : (a : Aggregation) → DataType → Option DataType
input_if a t = if is_input t then Some (aggregate_type a t) else None

aggregate-usable : (schema : List Field) (name : List _) (a : Aggregation) (e : Expr) (o : Option DataType) → type_of e schema ≡ o
    → (is_row_wise e && keeps a o) ≡ true → is_some (option_and_then (λ t. if is_input t then Some (aggregate_type a t) else None) o) ≡ true
    → (adds a && is_date (unwrap_or o dt.UInt32)) ≡ false → IsUsable schema (agg_named name (expr.aggregate a e))
aggregate-usable schema name a e None o k s d = cc s
aggregate-usable schema name a e (Some t) o k s d =
    let parts = and_parts (is_row_wise e) (keeps a (Some t)) k in
    let input : is_input t ≡ true = by_test (is_input t) s in
    record {
      fed = both_hold (is_row_wise e) (is_some (type_of e schema)) parts.0 (rw o refl);
      suited = rw o (suited-by a t input parts.1 d);
    } where
      by_test : (w : Bool) → is_some (if w then Some (aggregate_type a t) else None) ≡ true → w ≡ true
      by_test true h = refl
      by_test false h = cc h

kept-usable : (schema : List Field) (name : List _) (u : Expr) → is_kept u schema ≡ true → is_some (type_of u schema) ≡ true
    → adds_dates schema u ≡ false → IsUsable schema (agg_named name u)
kept-usable schema name (expr.column k) e s d = cc e
kept-usable schema name (expr.literal t v) e s d = cc e
kept-usable schema name (expr.cast x t) e s d = cc e
kept-usable schema name (expr.binary l o r) e s d = cc e
kept-usable schema name (expr.ternary p t f) e s d = cc e
kept-usable schema name (expr.alias x k) e s d = cc e
kept-usable schema name (expr.aggregate a x) e s d = aggregate-usable schema name a x (type_of x schema) refl e s d
kept-usable schema name expr.len e s d = record { fed = refl; suited = refl }
kept-usable schema name (expr.filter x by) e s d = cc e
kept-usable schema name (expr.sort x) e s d = cc e

usable : (schema : List Field) (e : Expr) → convertible e schema ≡ true → is_some (type_of e schema) ≡ true
    → adds_dates schema (unaliased e) ≡ false → IsUsable schema (agg_tree e)
usable schema e k s d = kept-usable schema (name_of e) (unaliased e) k (rw (← unaliased-typed e schema) s) d

-- ---- lists

all-front : {X : Type 0} (test : X → Bool) (xs ys : List X) → list_all test (xs ++ ys) ≡ true → list_all test xs ≡ true
all-front test [] ys h = refl
all-front test (x ∷ xs) ys h =
    let parts = and_parts (test x) (list_all test (xs ++ ys)) h in
    both_hold (test x) (list_all test xs) parts.0 (all-front test xs ys parts.1)

all-back : {X : Type 0} (test : X → Bool) (xs ys : List X) → list_all test (xs ++ ys) ≡ true → list_all test ys ≡ true
all-back test [] ys h = h
all-back test (x ∷ xs) ys h = all-back test xs ys (and_parts (test x) (list_all test (xs ++ ys)) h).1

all-both : {X : Type 0} (a b : X → Bool) (xs : List X) → list_all a xs ≡ true → list_all b xs ≡ true → list_all (λ x. a x && b x) xs ≡ true
all-both a b [] h k = refl
all-both a b (x ∷ xs) h k =
    let left = and_parts (a x) (list_all a xs) h in
    let right = and_parts (b x) (list_all b xs) k in
    both_hold (a x && b x) (list_all (λ x. a x && b x) xs) (both_hold (a x) (b x) left.0 right.0) (all-both a b xs left.1 right.1)

none_of : (a b : Bool) → (a || b) ≡ false → (a ≡ false) × (b ≡ false)
none_of true b h = cc h
none_of false b h = (refl, h)

all-usable : (schema : List Field) (es : List Expr) → list_all (λ e. convertible e schema) es ≡ true → list_all (λ e. is_some (type_of e schema)) es ≡ true
    → list_any (λ e. adds_dates schema (unaliased e)) es ≡ false
    → (list_all (λ a. is_fed schema a.input) (map agg_tree es) ≡ true) × (list_all (is_suited schema) (map agg_tree es) ≡ true)
all-usable schema [] k s d = (refl, refl)
all-usable schema (e ∷ es) k s d =
    let kept = and_parts (convertible e schema) (list_all (λ x. convertible x schema) es) k in
    let typed = and_parts (is_some (type_of e schema)) (list_all (λ x. is_some (type_of x schema)) es) s in
    let dateless = none_of (adds_dates schema (unaliased e)) (list_any (λ x. adds_dates schema (unaliased x)) es) d in
    let here = usable schema e kept.0 typed.0 dateless.0 in
    let rest = all-usable schema es kept.1 typed.1 dateless.1 in
    (both_hold (is_fed schema (agg_tree e).input) _ here.fed rest.0, both_hold (is_suited schema (agg_tree e)) _ here.suited rest.1)

-- ---- the query

pub groupable_of : (q : Query) → IsSound q → IsGroupable (query_tree q)
groupable_of q s =
    let types : all_exprs (λ e. is_some (type_of e q.schema)) q ≡ true =
    (and_parts (list_all (λ f. is_input f.dtype) q.schema) (all_exprs (λ e. is_some (type_of e q.schema)) q) s.typed).1 in
    let keys = all-front (λ e. is_some (type_of e q.schema)) (key_exprs q) (agg_exprs q) types in
    let aggs = all-back (λ e. is_some (type_of e q.schema)) (key_exprs q) (agg_exprs q) types in
    let usable = all-usable q.schema (agg_exprs q) s.kept aggs s.dateless in
    record {
      keys = all-both is_row_wise (λ e. is_some (type_of e q.schema)) (key_exprs q) s.row_wise keys;
      inputs = usable.0;
      aggs = usable.1;
    }

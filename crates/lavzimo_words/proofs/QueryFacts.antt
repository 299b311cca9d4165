-- What a query is made of, column by column.
use Rattle.std.proofs.Common.{◌≡◌, ◌∙◌, ◌+◌, ◌<◌, ◌≤◌, ◌++◌, ℕ, true, false, List, [], ◌∷◌, cond, length, take, get_or, Some, sym, ap, arith}
use Rattle.std.specs.Prelude.{fold, pos}
use Rattle.std.proofs.lemmas.List.{append-nil, take_all}
use Rattle.std.proofs.lemmas.List.Sums.{fold_more}
use Rattle.pipe_columns.specs.declared.any_value.AnyValue.TheVariants as av
use Rattle.pipe_columns.specs.declared.data_type.DataType.TheVariants as dt
use Rattle.pipe_columns.specs.declared.schema.Field.{Field}
use Rattle.pipe_exprs.specs.declared.expression.AExpr.{AExpr}
use Rattle.pipe_exprs.specs.declared.expression.AExpr.TheVariants as ax
use Rattle.pipe_exprs.specs.declared.expression.Node.{Node}
use Rattle.pipe_model.specs.Expr.{Expr}
use Rattle.pipe_query.specs.Added.{AreAdded}
use Rattle.pipe_query.specs.Flat.{node, roots}
use Rattle.lavzimo_words.specs.AskedQuery.{is_there, keys_of, named_fields, with_field}
use Rattle.lavzimo_words.specs.declared.asked_column.AskedColumn.{AskedColumn}

-- fields behind a column that brings none
pub fields-same : (cs : List AskedColumn) (i : ℕ) (d : AskedColumn) (fields : List Field) → i < length cs → fields ≡ fold with_field [] (take i cs) → is_there fields (get_or cs i d) ≡ true
    → fields ≡ fold with_field [] (take (i + 1) cs)
fields-same cs i d fields few h there =
    let c : AskedColumn = get_or cs i d in
    let same : with_field fields c ≡ fields = ap (λ b. cond b fields (fields ++ record { name = c.column; dtype = c.dtype } ∷ [])) there in
    sym (fold_more with_field [] cs i d few ∙ ap (λ fs. with_field fs c) (sym h) ∙ same)

-- fields behind one that brings its own
pub fields-more : (cs : List AskedColumn) (i : ℕ) (d : AskedColumn) (fields new : List Field) → i < length cs → fields ≡ fold with_field [] (take i cs) → is_there fields (get_or cs i d) ≡ false
    → new ≡ fields ++ record { name = (get_or cs i d).column; dtype = (get_or cs i d).dtype } ∷ [] → new ≡ fold with_field [] (take (i + 1) cs)
fields-more cs i d fields new few h there grew =
    let c : AskedColumn = get_or cs i d in
    let more : with_field fields c ≡ fields ++ record { name = c.column; dtype = c.dtype } ∷ [] = ap (λ b. cond b fields (fields ++ record { name = c.column; dtype = c.dtype } ∷ [])) there in
    grew ∙ sym (fold_more with_field [] cs i d few ∙ ap (λ fs. with_field fs c) (sym h) ∙ more)

pub fields-all : (cs : List AskedColumn) (i : ℕ) (fields : List Field) → length cs ≤ i → fields ≡ fold with_field [] (take i cs) → fields ≡ named_fields cs
fields-all cs i fields past h = h ∙ ap (fold with_field []) (take_all i cs past)

-- keys that are there are all
pub keys-there : (es : List Expr) (old new : List AExpr) (ns : List Node) → AreAdded (Some es) old new (Some ns) → 0 < length ns → AreAdded (Some (keys_of es)) old new (Some ns)
keys-there [] old new ns h some = let none : length ns ≡ 0 = ap (λ (x : List Node). length x) h.1 in absurd (omega (arith, none, some))
keys-there (e ∷ es) old new ns h some = h

-- where there is none, all rows have one
pub keys-hidden : (es : List Expr) (old mid new : List AExpr) (ns all : List Node) (n : Node) → AreAdded (Some es) old mid (Some ns) → length ns ≡ 0
    → new ≡ mid ++ ax.Literal dt.Int64 (av.Int (pos 0)) ∷ [] → n ≡ node (length mid) → all ≡ ns ++ n ∷ [] → AreAdded (Some (keys_of es)) old new (Some all)
keys-hidden [] old mid new ns all n h none grew at is =
    let same : mid ≡ old = h.0 ∙ append-nil old in
    (grew ∙ ap (λ (x : List AExpr). x ++ ax.Literal dt.Int64 (av.Int (pos 0)) ∷ []) same, is ∙ ap (λ (x : List Node). x ++ n ∷ []) h.1 ∙ ap (λ (x : Node). x ∷ []) (at ∙ ap (λ (x : List AExpr). node (length x)) same))
keys-hidden (e ∷ es) old mid new ns all n h none grew at is =
    let some : length ns ≡ length (roots (length old) (e ∷ es)) = ap (λ (x : List Node). length x) h.1 in absurd (omega (arith, none, some))

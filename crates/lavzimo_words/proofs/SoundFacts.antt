-- The expressions of shown columns have types, and are such as tables of groups are made for.
use Rattle.std.proofs.Common.{◌≡◌, ◌∙◌, ◌||◌, ◌&&◌, ◌==◌, ℕ, Bool, true, false, cond, List, [], ◌∷◌, length, map, Option, Some, None, option_map, is_some, refl, sym, ap, arith}
use Rattle.std.specs.Prelude.{option_and_then, unwrap_or}
use Rattle.std.specs.List.{AllByRecursion, list_all, list_any}
use Rattle.std.proofs.lemmas.Bool.{and_from, or_from, true≢false}
use Rattle.std.proofs.lemmas.Option.{none-some}
use Rattle.pipe_columns.specs.declared.data_type.DataType.{DataType}
use Rattle.pipe_columns.specs.declared.data_type.DataType.TheVariants as dt
use Rattle.pipe_columns.specs.declared.schema.Field.{Field}
use Rattle.pipe_columns.specs.DataType.{has_mean, is_castable, is_date, is_input, is_integer}
use Rattle.pipe_aggs.specs.Faults.{adds, adds_dates}
use Rattle.pipe_model.specs.Convertible.{convertible, keeps, unaliased}
use Rattle.pipe_model.specs.Expr.{Aggregation, Expr}
use Rattle.pipe_model.specs.Expr as expr
use Rattle.pipe_model.specs.Typing.{aggregate_type, is_row_wise, knows_columns, type_of}
use Rattle.lavzimo_words.specs.AskedQuery.{agg_expr, key_expr, keys_of}
use Rattle.lavzimo_words.specs.Roles.{is_key, is_rows, suits}
use Rattle.lavzimo_words.specs.declared.asked_column.AskedColumn.{AskedColumn}
use Rattle.lavzimo_words.specs.declared.role.Role.{Role}
use Rattle.lavzimo_words.specs.declared.role.Role.TheVariants as role

-- ---- types

-- whole numbers and days are compared: days can be cast
pub castable-days : (t : DataType) → is_date t ≡ true → is_castable t ≡ true
castable-days dt.Boolean h = refl
castable-days dt.Int8 h = refl
castable-days dt.Int16 h = refl
castable-days dt.Int32 h = refl
castable-days dt.Int64 h = refl
castable-days dt.UInt8 h = refl
castable-days dt.UInt16 h = refl
castable-days dt.UInt32 h = refl
castable-days dt.UInt64 h = refl
castable-days dt.Int128 h = absurd (true≢false (sym h))
castable-days dt.Date h = refl
castable-days dt.String h = absurd (true≢false (sym h))

-- days have no mean
pub no-mean-days : (t : DataType) → has_mean t ≡ true → is_date t ≡ false
no-mean-days dt.Boolean h = refl
no-mean-days dt.Int8 h = refl
no-mean-days dt.Int16 h = refl
no-mean-days dt.Int32 h = refl
no-mean-days dt.Int64 h = refl
no-mean-days dt.UInt8 h = refl
no-mean-days dt.UInt16 h = refl
no-mean-days dt.UInt32 h = refl
no-mean-days dt.UInt64 h = refl
no-mean-days dt.Int128 h = refl
no-mean-days dt.Date h = absurd (true≢false (sym h))
no-mean-days dt.String h = refl

-- what is compared and no day is a whole number
or-first : (x y : Bool) → (x || y) ≡ true → y ≡ false → x ≡ true
or-first true y h n = refl
or-first false y h n = absurd (true≢false (sym h ∙ n))

-- ---- keys

-- a key has a type, and a value in each row
pub record IsSoundKey (fields : List Field) (e : Expr) : Type 0 where
  pub knows : knows_columns e fields ≡ true
  pub typed : is_some (type_of e fields) ≡ true
  pub row_wise : is_row_wise e ≡ true

some-map : {A B : Type 0} (f : A → B) (o : Option A) (b : B) → option_map f o ≡ Some b → is_some o ≡ true
some-map f None b h = absurd (none-some b h)
some-map f (Some a) b h = refl

some-is : {A : Type 0} (o : Option A) (a : A) → o ≡ Some a → is_some o ≡ true
some-is o a h = ap is_some h

-- what is known of a shown column: where it has one, the column's type, which suits what is asked
pub record IsKnown (fields : List Field) (c : AskedColumn) : Type 0 where
  pub there : is_rows c.role ≡ false → type_of (expr.column c.column) fields ≡ Some c.dtype
  pub read : is_input c.dtype ≡ true
  pub suited : suits c.role c.dtype ≡ true

key-column : (r : Role) → is_key r ≡ true → is_rows r ≡ false
key-column role.Key h = refl
key-column role.Rows h = sym h
key-column role.Values h = refl
key-column role.Sum h = refl
key-column role.Mean h = refl
key-column role.Least h = refl
key-column role.Greatest h = refl
key-column role.First h = refl
key-column role.Last h = refl

-- the type of a key's column
pub key-type : (fields : List Field) (c : AskedColumn) → IsKnown fields c → is_key c.role ≡ true → type_of (expr.column c.column) fields ≡ Some c.dtype
key-type fields c h key = h.there (key-column c.role key)

pub key-sound : (fields : List Field) (c : AskedColumn) → IsKnown fields c → is_key c.role ≡ true → IsSoundKey fields (key_expr c)
key-sound fields c h key = record {
  knows = some-map (λ f. f.dtype) _ c.dtype (key-type fields c h key);
  typed = some-is _ c.dtype (key-type fields c h key);
  row_wise = refl;
}

-- ---- aggregates

-- an aggregate has a type, is one that tables are made for, and adds no days up
pub record IsSoundAgg (fields : List Field) (e : Expr) : Type 0 where
  pub knows : knows_columns e fields ≡ true
  pub typed : is_some (type_of e fields) ≡ true
  pub kept : convertible e fields ≡ true
  pub dateless : adds_dates fields (unaliased e) ≡ false

-- an aggregate of an input of a type
over : (fields : List Field) (a : Aggregation) (e : Expr) (t : DataType) (name : List ℕ) → type_of e fields ≡ Some t → knows_columns e fields ≡ true → is_row_wise e ≡ true → is_input t ≡ true
    → keeps a (Some t) ≡ true → (adds a && is_date t) ≡ false → IsSoundAgg fields (expr.alias (expr.aggregate a e) name)
over fields a e t name typed knows row_wise read kept dateless = record {
  knows = knows;
  typed = ap (λ o. is_some (option_and_then (λ u. cond (is_input u) (Some (aggregate_type a u)) None) o)) typed ∙ ap (λ b. is_some (cond b (Some (aggregate_type a t)) None)) read;
  kept = and_from (is_row_wise e) (keeps a (type_of e fields)) row_wise (ap (keeps a) typed ∙ kept);
  dateless = ap (λ o. adds a && is_date (unwrap_or o dt.UInt32)) typed ∙ dateless;
}

-- the same of a column
over-column : (fields : List Field) (a : Aggregation) (column : List ℕ) (t : DataType) (name : List ℕ) → type_of (expr.column column) fields ≡ Some t → is_input t ≡ true
    → keeps a (Some t) ≡ true → (adds a && is_date t) ≡ false → IsSoundAgg fields (expr.alias (expr.aggregate a (expr.column column)) name)
over-column fields a column t name typed read kept dateless =
    over fields a (expr.column column) t name typed (some-map (λ f. f.dtype) _ t typed) refl read kept dateless

-- days as numbers
pub cast-type : (fields : List Field) (column : List ℕ) (t : DataType) → type_of (expr.column column) fields ≡ Some t → is_date t ≡ true → type_of (expr.cast (expr.column column) dt.Int32) fields ≡ Some dt.Int32
cast-type fields column t typed days =
    ap (λ o. option_and_then (λ u. cond (is_castable u && true) (Some dt.Int32) None) o) typed ∙ ap (λ b. cond (b && true) (Some dt.Int32) None) (castable-days t days)

-- what is compared: a column of whole numbers, or days as numbers
compared : (fields : List Field) (a : Aggregation) (column : List ℕ) (t : DataType) (name : List ℕ) → type_of (expr.column column) fields ≡ Some t → is_input t ≡ true
    → ((u : DataType) → is_integer u ≡ true → keeps a (Some u) ≡ true) → adds a ≡ false → (is_integer t || is_date t) ≡ true
    → (b : Bool) → is_date t ≡ b → IsSoundAgg fields (expr.alias (expr.aggregate a (cond b (expr.cast (expr.column column) dt.Int32) (expr.column column))) name)
compared fields a column t name typed read kept none suited true days =
    over fields a (expr.cast (expr.column column) dt.Int32) dt.Int32 name (cast-type fields column t typed days) (some-map (λ f. f.dtype) _ t typed) refl refl (kept dt.Int32 refl) (ap (λ b. b && false) none)
compared fields a column t name typed read kept none suited false days =
    over-column fields a column t name typed read (kept t (or-first (is_integer t) (is_date t) suited days)) (ap (λ b. b && is_date t) none)

agg-of : (fields : List Field) (r : Role) (column : List ℕ) (t : DataType) (name : List ℕ) → (is_rows r ≡ false → type_of (expr.column column) fields ≡ Some t) → is_input t ≡ true → suits r t ≡ true → is_key r ≡ false
    → IsSoundAgg fields (agg_expr (record { role = r; column = column; dtype = t; name = name }))
agg-of fields role.Key column t name there read suited other = absurd (true≢false other)
agg-of fields role.Rows column t name there read suited other = record { knows = refl; typed = refl; kept = refl; dateless = refl }
agg-of fields role.Values column t name there read suited other = over-column fields (expr.count false) column t _ (there refl) read refl refl
agg-of fields role.Sum column t name there read suited other = over-column fields expr.mean column t _ (there refl) read refl (no-mean-days t suited)
agg-of fields role.Mean column t name there read suited other = over-column fields expr.mean column t _ (there refl) read refl (no-mean-days t suited)
agg-of fields role.Least column t name there read suited other = compared fields (expr.min false) column t _ (there refl) read (λ u h. h) refl suited (is_date t) refl
agg-of fields role.Greatest column t name there read suited other = compared fields (expr.max false) column t _ (there refl) read (λ u h. h) refl suited (is_date t) refl
agg-of fields role.First column t name there read suited other = over-column fields expr.first column t _ (there refl) read refl refl
agg-of fields role.Last column t name there read suited other = over-column fields expr.last column t _ (there refl) read refl refl

pub agg-sound : (fields : List Field) (c : AskedColumn) → IsKnown fields c → is_key c.role ≡ false → IsSoundAgg fields (agg_expr c)
agg-sound fields c h other = agg-of fields c.role c.column c.dtype c.name h.there h.read h.suited other

-- ---- all of them

pub all-of : {A B : Type 0} (P : A → Type 0) (Q : B → Type 0) (f : A → B) → ((x : A) → P x → Q (f x)) → (xs : List A) → AllByRecursion P xs → AllByRecursion Q (map f xs)
all-of P Q f g [] h = tt
all-of P Q f g (x ∷ xs) h = (g x h.0, all-of P Q f g xs h.1)

pub test-all : {A : Type 0} (P : A → Type 0) (test : A → Bool) → ((x : A) → P x → test x ≡ true) → (xs : List A) → AllByRecursion P xs → list_all test xs ≡ true
test-all P test g [] h = refl
test-all P test g (x ∷ xs) h = and_from (test x) (list_all test xs) (g x h.0) (test-all P test g xs h.1)

pub test-none : {A : Type 0} (P : A → Type 0) (test : A → Bool) → ((x : A) → P x → test x ≡ false) → (xs : List A) → AllByRecursion P xs → list_any test xs ≡ false
test-none P test g [] h = refl
test-none P test g (x ∷ xs) h = or_from (test x) (list_any test xs) (g x h.0) (test-none P test g xs h.1)

-- keys that are sound, and the one that all rows have where there is none
pub keys-sound : (fields : List Field) (es : List Expr) → AllByRecursion (IsSoundKey fields) es → AllByRecursion (IsSoundKey fields) (keys_of es)
keys-sound fields [] h = (record { knows = refl; typed = refl; row_wise = refl }, tt)
keys-sound fields (e ∷ es) h = h

pub some-keys : (es : List Expr) → (length (keys_of es) == 0) ≡ false
some-keys [] = refl
some-keys (e ∷ es) = grind arith

-- The columns of the answer, and where shown ones stand among them.
use Rattle.std.proofs.Common.{◌≡◌, ◌∙◌, ◌++◌, ◌+◌, ◌||◌, ℕ, Bool, true, false, cond, List, [], ◌∷◌, length, map, flat_map, take, Some, codes, refl, sym, ap}
use Rattle.std.specs.Prelude.{unwrap_or}
use Rattle.std.specs.List.{AllByRecursion, list_any}
use Rattle.std.proofs.Math.Seq.{drop-append_seam}
use Rattle.std.proofs.lemmas.Bool.{true≢false}
use Rattle.std.proofs.lemmas.Grind.{flat_map-append}
use Rattle.std.proofs.lemmas.List.{append_assoc, length-append, map-append}
use Rattle.pipe_columns.specs.declared.data_type.DataType.{DataType}
use Rattle.pipe_columns.specs.declared.data_type.DataType.TheVariants as dt
use Rattle.pipe_columns.specs.declared.schema.Field.{Field}
use Rattle.pipe_columns.specs.DataType.{has_mean, is_date}
use Rattle.pipe_aggs.specs.Faults.{field_names, has_double}
use Rattle.pipe_model.specs.Expr.{Expr, name_of}
use Rattle.pipe_model.specs.Expr as expr
use Rattle.pipe_model.specs.Output.{agg_fields, input_type, mean_fields}
use Rattle.pipe_model.specs.Query.{AggTree}
use Rattle.pipe_model.specs.Typing.{known_type, type_of}
use Rattle.pipe_model.specs.WrittenTree.{agg_tree}
use Rattle.lavzimo_words.specs.AskedQuery.{agg_expr, first_place, key_expr, keys_in, keys_of, source_at, sources_from, width}
use Rattle.lavzimo_words.specs.InAnswer.{count_field, fields_at, shown_fields, value_field}
use Rattle.lavzimo_words.specs.Roles.{has_halves, is_key, is_rows, suits}
use Rattle.lavzimo_words.specs.declared.asked_column.AskedColumn.{AskedColumn}
use Rattle.lavzimo_words.specs.declared.role.Role.{Role}
use Rattle.lavzimo_words.specs.declared.role.Role.TheVariants as role
use Rattle.lavzimo_words.proofs.NameFacts.{names_of, no-literal}
use Rattle.lavzimo_words.proofs.SoundFacts.{IsKnown, cast-type, key-type}

-- the columns of the answer that a shown one makes
abbrev pub answer_fields : AskedColumn → List Field
answer_fields c = cond (has_halves c.role) (value_field c ∷ count_field c ∷ []) (value_field c ∷ [])

-- the field of a key, and the fields of an aggregate
abbrev pub key_field : List Field → Expr → Field
key_field fields e = record { name = name_of e; dtype = known_type e fields }

abbrev pub tree_fields : List Field → AggTree → List Field
tree_fields fields a = agg_fields a.name a.kind (input_type fields a.input)

-- ---- keys

key-value : (r : Role) (column name : List ℕ) (t : DataType) → is_key r ≡ true → (known : DataType) → known ≡ t
    → record { name = name ++ codes "_key"; dtype = known } ≡ value_field (record { role = r; column = column; dtype = t; name = name })
key-value role.Key column name t h known is = λ i. record { name = name ++ codes "_key"; dtype = is i }
key-value role.Rows column name t h known is = absurd (true≢false (sym h))
key-value role.Values column name t h known is = absurd (true≢false (sym h))
key-value role.Sum column name t h known is = absurd (true≢false (sym h))
key-value role.Mean column name t h known is = absurd (true≢false (sym h))
key-value role.Least column name t h known is = absurd (true≢false (sym h))
key-value role.Greatest column name t h known is = absurd (true≢false (sym h))
key-value role.First column name t h known is = absurd (true≢false (sym h))
key-value role.Last column name t h known is = absurd (true≢false (sym h))

key-answered : (fields : List Field) (c : AskedColumn) → IsKnown fields c → is_key c.role ≡ true → key_field fields (key_expr c) ≡ value_field c
key-answered fields c h key = key-value c.role c.column c.name c.dtype key (known_type (expr.column c.column) fields) (ap (λ o. unwrap_or o dt.UInt32) (key-type fields c h key))

-- what is known of a key, and of another column
abbrev pub IsKnownKey : List Field → AskedColumn → Type 0
IsKnownKey fields c = IsKnown fields c × (is_key c.role ≡ true)

abbrev pub IsKnownAgg : List Field → AskedColumn → Type 0
IsKnownAgg fields c = IsKnown fields c × (is_key c.role ≡ false)

pub keys-answered : (fields : List Field) (ks : List AskedColumn) → AllByRecursion (IsKnownKey fields) ks → map (key_field fields) (map key_expr ks) ≡ map value_field ks
keys-answered fields [] h = refl
keys-answered fields (k ∷ ks) h =
    let one = key-answered fields k h.0.0 h.0.1 in
    let rest = keys-answered fields ks h.1 in
    λ i. one i ∷ rest i

-- the column of the key that all rows have
abbrev pub hidden : List AskedColumn → List Field
hidden [] = record { name = codes "literal"; dtype = dt.Int64 } ∷ []
hidden (k ∷ ks) = []

key-fields : (r : Role) (column name : List ℕ) (t : DataType) → is_key r ≡ true → let c : AskedColumn = record { role = r; column = column; dtype = t; name = name } in answer_fields c ≡ value_field c ∷ []
key-fields role.Key column name t h = refl
key-fields role.Rows column name t h = refl
key-fields role.Values column name t h = refl
key-fields role.Sum column name t h = absurd (true≢false (sym h))
key-fields role.Mean column name t h = absurd (true≢false (sym h))
key-fields role.Least column name t h = refl
key-fields role.Greatest column name t h = refl
key-fields role.First column name t h = refl
key-fields role.Last column name t h = refl

values-of : (fields : List Field) (ks : List AskedColumn) → AllByRecursion (IsKnownKey fields) ks → map value_field ks ≡ flat_map answer_fields ks
values-of fields [] h = refl
values-of fields (k ∷ ks) h =
    let one : answer_fields k ≡ value_field k ∷ [] = key-fields k.role k.column k.name k.dtype h.0.1 in
    let rest = values-of fields ks h.1 in
    ap (λ xs. value_field k ∷ xs) rest ∙ ap (λ xs. xs ++ flat_map answer_fields ks) (sym one)

keys-whole : (fields : List Field) (ks : List AskedColumn) → AllByRecursion (IsKnownKey fields) ks → map (key_field fields) (keys_of (map key_expr ks)) ≡ hidden ks ++ flat_map answer_fields ks
keys-whole fields [] h = refl
keys-whole fields (k ∷ ks) h = keys-answered fields (k ∷ ks) h ∙ values-of fields (k ∷ ks) h

-- ---- aggregates

mean-halves : (name : List ℕ) (t : DataType) → has_mean t ≡ true → mean_fields name t ≡ record { name = name ++ codes "_sum"; dtype = dt.Int128 } ∷ record { name = name ++ codes "_count"; dtype = dt.UInt32 } ∷ []
mean-halves name dt.Boolean h = refl
mean-halves name dt.Int8 h = refl
mean-halves name dt.Int16 h = refl
mean-halves name dt.Int32 h = refl
mean-halves name dt.Int64 h = refl
mean-halves name dt.UInt8 h = refl
mean-halves name dt.UInt16 h = refl
mean-halves name dt.UInt32 h = refl
mean-halves name dt.UInt64 h = refl
mean-halves name dt.Int128 h = refl
mean-halves name dt.Date h = refl
mean-halves name dt.String h = absurd (true≢false (sym h))

-- the type of a column, and of days as numbers
column-known : (fields : List Field) (column : List ℕ) (t : DataType) → type_of (expr.column column) fields ≡ Some t → known_type (expr.column column) fields ≡ t
column-known fields column t h = ap (λ o. unwrap_or o dt.UInt32) h

compared-known : (fields : List Field) (column : List ℕ) (t : DataType) → type_of (expr.column column) fields ≡ Some t → (b : Bool) → is_date t ≡ b
    → known_type (cond b (expr.cast (expr.column column) dt.Int32) (expr.column column)) fields ≡ cond b dt.Int32 t
compared-known fields column t h true days = ap (λ o. unwrap_or o dt.UInt32) (cast-type fields column t h days)
compared-known fields column t h false days = column-known fields column t h

abbrev field_of : List ℕ → DataType → List Field
field_of name t = record { name = name; dtype = t } ∷ []

one-field : (name : List ℕ) (t u : DataType) → t ≡ u → field_of name t ≡ field_of name u
one-field name t u h = ap (field_of name) h

agg-answered : (fields : List Field) (r : Role) (column name : List ℕ) (t : DataType) → (is_rows r ≡ false → type_of (expr.column column) fields ≡ Some t) → suits r t ≡ true → is_key r ≡ false
    → let c : AskedColumn = record { role = r; column = column; dtype = t; name = name } in tree_fields fields (agg_tree (agg_expr c)) ≡ answer_fields c
agg-answered fields role.Key column name t there suited other = absurd (true≢false other)
agg-answered fields role.Rows column name t there suited other = refl
agg-answered fields role.Values column name t there suited other = refl
agg-answered fields role.Sum column name t there suited other = ap (mean_fields name) (column-known fields column t (there refl)) ∙ mean-halves name t suited
agg-answered fields role.Mean column name t there suited other = ap (mean_fields name) (column-known fields column t (there refl)) ∙ mean-halves name t suited
agg-answered fields role.Least column name t there suited other = one-field (name ++ codes "_value") _ _ (compared-known fields column t (there refl) (is_date t) refl)
agg-answered fields role.Greatest column name t there suited other = one-field (name ++ codes "_value") _ _ (compared-known fields column t (there refl) (is_date t) refl)
agg-answered fields role.First column name t there suited other = one-field (name ++ codes "_value") _ _ (column-known fields column t (there refl))
agg-answered fields role.Last column name t there suited other = one-field (name ++ codes "_value") _ _ (column-known fields column t (there refl))

aggs-whole : (fields : List Field) (cs : List AskedColumn) → AllByRecursion (IsKnownAgg fields) cs → flat_map (tree_fields fields) (map agg_tree (map agg_expr cs)) ≡ flat_map answer_fields cs
aggs-whole fields [] h = refl
aggs-whole fields (c ∷ cs) h =
    let one = agg-answered fields c.role c.column c.name c.dtype h.0.0.there h.0.0.suited h.0.1 in
    let rest = aggs-whole fields cs h.1 in
    λ i. one i ++ rest i

-- the whole answer: keys before the others, and in front of all the hidden one where there is no key
pub whole-answer : (fields : List Field) (ks cs all : List AskedColumn) → AllByRecursion (IsKnownKey fields) ks → AllByRecursion (IsKnownAgg fields) cs → all ≡ ks ++ cs
    → map (key_field fields) (keys_of (map key_expr ks)) ++ flat_map (tree_fields fields) (map agg_tree (map agg_expr cs)) ≡ hidden ks ++ flat_map answer_fields all
whole-answer fields ks cs all keys aggs are =
    let first = keys-whole fields ks keys in
    let second = aggs-whole fields cs aggs in
    (λ i. first i ++ second i)
    ∙ append_assoc (hidden ks) (flat_map answer_fields ks) (flat_map answer_fields cs)
    ∙ ap (λ xs. hidden ks ++ xs) (sym (flat_map-append answer_fields ks cs) ∙ ap (flat_map answer_fields) (sym are))

-- ---- names

field-names : (r : Role) (column name : List ℕ) (t : DataType) → let c : AskedColumn = record { role = r; column = column; dtype = t; name = name } in field_names (answer_fields c) ≡ names_of c
field-names role.Key column name t = refl
field-names role.Rows column name t = refl
field-names role.Values column name t = refl
field-names role.Sum column name t = refl
field-names role.Mean column name t = refl
field-names role.Least column name t = refl
field-names role.Greatest column name t = refl
field-names role.First column name t = refl
field-names role.Last column name t = refl

all-names : (cs : List AskedColumn) → field_names (flat_map answer_fields cs) ≡ flat_map names_of cs
all-names [] = refl
all-names (c ∷ cs) =
    let one = field-names c.role c.column c.name c.dtype in
    let rest = all-names cs in
    map-append (λ f. f.name) (answer_fields c) (flat_map answer_fields cs) ∙ (λ i. one i ++ rest i)

-- an answer whose columns have distinct names has them with the hidden one too
pub names-apart : (ks cs : List AskedColumn) → has_double (flat_map names_of cs) ≡ false → has_double (field_names (hidden ks ++ flat_map answer_fields cs)) ≡ false
names-apart [] cs h = rw (all-names cs, no-literal cs) h
names-apart (k ∷ ks) cs h = rw (all-names cs) h

-- ---- places

-- the fields at the place of a column's first field
at-place : (r : Role) (column name : List ℕ) (t : DataType) (front rest : List Field)
    → let c : AskedColumn = record { role = r; column = column; dtype = t; name = name } in fields_at (front ++ (answer_fields c ++ rest)) (source_at (length front) c) ≡ shown_fields c
at-place role.Key column name t front rest = ap (take 1) (drop-append_seam front _)
at-place role.Rows column name t front rest = ap (take 1) (drop-append_seam front _)
at-place role.Values column name t front rest = ap (take 1) (drop-append_seam front _)
at-place role.Sum column name t front rest = ap (take 1) (drop-append_seam front _)
at-place role.Mean column name t front rest = ap (take 2) (drop-append_seam front _)
at-place role.Least column name t front rest = ap (take 1) (drop-append_seam front _)
at-place role.Greatest column name t front rest = ap (take 1) (drop-append_seam front _)
at-place role.First column name t front rest = ap (take 1) (drop-append_seam front _)
at-place role.Last column name t front rest = ap (take 1) (drop-append_seam front _)

width-of : (r : Role) (column name : List ℕ) (t : DataType) → let c : AskedColumn = record { role = r; column = column; dtype = t; name = name } in length (answer_fields c) ≡ width r
width-of role.Key column name t = refl
width-of role.Rows column name t = refl
width-of role.Values column name t = refl
width-of role.Sum column name t = refl
width-of role.Mean column name t = refl
width-of role.Least column name t = refl
width-of role.Greatest column name t = refl
width-of role.First column name t = refl
width-of role.Last column name t = refl

pub places-of : (front : List Field) (cs : List AskedColumn) → map (fields_at (front ++ flat_map answer_fields cs)) (sources_from (length front) cs) ≡ map shown_fields cs
places-of front [] = refl
places-of front (c ∷ cs) =
    let rest : List Field = flat_map answer_fields cs in
    let one = at-place c.role c.column c.name c.dtype front rest in
    let more = places-of (front ++ answer_fields c) cs in
    let next : length front + width c.role ≡ length (front ++ answer_fields c) = ap (λ n. length front + n) (sym (width-of c.role c.column c.name c.dtype)) ∙ sym (length-append front (answer_fields c)) in
    let others : map (fields_at (front ++ (answer_fields c ++ rest))) (sources_from (length front + width c.role) cs) ≡ map shown_fields cs =
    ap (λ n. map (fields_at (front ++ (answer_fields c ++ rest))) (sources_from n cs)) next
    ∙ ap (λ xs. map (fields_at xs) (sources_from (length (front ++ answer_fields c)) cs)) (sym (append_assoc front (answer_fields c) rest)) ∙ more in
    λ i. one i ∷ others i

-- the first place that is shown is behind the hidden column
none-any : (cs : List AskedColumn) → list_any (λ c. is_key c.role) cs ≡ false → keys_in cs ≡ []
none-any [] h = refl
none-any (c ∷ cs) h = by (is_key c.role) refl (none-any cs) h
  where
    by : (b : Bool) → is_key c.role ≡ b → (list_any (λ d. is_key d.role) cs ≡ false → keys_in cs ≡ []) → (b || list_any (λ d. is_key d.role) cs) ≡ false → cond b (c ∷ keys_in cs) (keys_in cs) ≡ []
    by true e rest k = absurd (true≢false k)
    by false e rest k = rest k

some-hidden : (cs : List AskedColumn) → list_any (λ c. is_key c.role) cs ≡ true → hidden (keys_in cs) ≡ []
some-hidden [] h = absurd (true≢false (sym h))
some-hidden (c ∷ cs) h = by (is_key c.role) (some-hidden cs) h
  where
    by : (b : Bool) → (list_any (λ d. is_key d.role) cs ≡ true → hidden (keys_in cs) ≡ []) → (b || list_any (λ d. is_key d.role) cs) ≡ true → hidden (cond b (c ∷ keys_in cs) (keys_in cs)) ≡ []
    by true rest k = refl
    by false rest k = rest k

pub first-shown : (cs : List AskedColumn) → first_place cs ≡ length (hidden (keys_in cs))
first-shown cs = by (list_any (λ c. is_key c.role) cs) refl
  where
    by : (b : Bool) → list_any (λ c. is_key c.role) cs ≡ b → cond b 0 1 ≡ length (hidden (keys_in cs))
    by true e = sym (ap (λ fs. length fs) (some-hidden cs e))
    by false e = sym (ap (λ ks. length (hidden ks)) (none-any cs e))

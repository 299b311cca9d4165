-- The laws of the query of columns that may be asked for.
use Rattle.std.proofs.Common.{◌≡◌, ◌≢◌, ◌∙◌, ◌++◌, ◌||◌, ℕ, Bool, true, false, not, cond, List, [], ◌∷◌, length, map, filter, flat_map, take, Some, None, refl, sym, ap}
use Rattle.std.specs.List.{AllByRecursion, list_all, list_any}
use Rattle.std.proofs.Math.Seq.{take-append_seam}
use Rattle.std.proofs.lemmas.Bool.{and_from, true≢false}
use Rattle.std.proofs.lemmas.List.{length-map}
use Rattle.std.proofs.lemmas.List.Elements.{recursion_from_All}
use Rattle.std.proofs.lemmas.List.Folds.{list_all-append}
use Rattle.pipe_columns.specs.declared.data_type.DataType.{DataType}
use Rattle.pipe_columns.specs.declared.schema.Field.{Field}
use Rattle.pipe_columns.specs.DataType.{is_input}
use Rattle.pipe_aggs.specs.Faults.{adds_dates, all_written, fault_of, field_names, has_double, has_types, written_fault}
use Rattle.pipe_model.specs.Convertible.{convertible, unaliased}
use Rattle.pipe_model.specs.Expr.{Expr}
use Rattle.pipe_model.specs.Output.{output_schema}
use Rattle.pipe_model.specs.Query.{WrittenQuery}
use Rattle.pipe_model.specs.Typing.{is_row_wise, knows_columns, type_of}
use Rattle.pipe_model.specs.WrittenTree.{agg_tree, written_tree}
use Rattle.std.specs.Prelude.{is_some}
use Rattle.lavzimo_words.specs.Askable.{IsAskable}
use Rattle.lavzimo_words.specs.Asked.{ColumnsSeen}
use Rattle.lavzimo_words.specs.AskedQuery.{agg_expr, aggs_in, has_field, is_first, is_there, key_expr, keys_in, keys_of, named_fields, query_of_words, shown_columns, sources_from, written_of}
use Rattle.lavzimo_words.specs.InAnswer.{fields_at, shown_fields, value_field}
use Rattle.lavzimo_words.specs.Roles.{is_key, is_rows, suits}
use Rattle.lavzimo_words.specs.declared.asked_column.AskedColumn.{AskedColumn}
use Rattle.lavzimo_words.proofs.AnsweredFacts.{IsKnownAgg, IsKnownKey, answer_fields, first-shown, hidden, key_field, keys-answered, names-apart, places-of, tree_fields, whole-answer}
use Rattle.lavzimo_words.proofs.FieldFacts.{AreOf, named-of, named-there, type-there}
use Rattle.lavzimo_words.proofs.NameFacts.{no-double}
use Rattle.lavzimo_words.proofs.SoundFacts.{IsKnown, IsSoundAgg, IsSoundKey, agg-sound, all-of, key-sound, keys-sound, some-keys, test-all, test-none}

-- ---- what is known of each column

or-second : (x y : Bool) → (x || y) ≡ true → x ≡ false → y ≡ true
or-second true y h n = absurd (true≢false n)
or-second false y h n = h

known-one : (types : List ℕ → DataType) (fields : List Field) (c : AskedColumn) → AllByRecursion (λ f. f.dtype ≡ types f.name) fields → is_there fields c ≡ true
    → c.dtype ≡ types c.column → is_input c.dtype ≡ true → suits c.role c.dtype ≡ true → IsKnown fields c
known-one types fields c typed there of read suited = record {
  there = λ column. type-there types fields c.column typed (or-second (is_rows c.role) (has_field fields c.column) there column) ∙ ap Some (sym of);
  read = read;
  suited = suited;
}

known-all : (types : List ℕ → DataType) (fields : List Field) (cs : List AskedColumn) → AllByRecursion (λ f. f.dtype ≡ types f.name) fields → AllByRecursion (λ c. is_there fields c ≡ true) cs
    → AllByRecursion (λ c. c.dtype ≡ types c.column) cs → AllByRecursion (λ c. is_input c.dtype ≡ true) cs → AllByRecursion (λ c. suits c.role c.dtype ≡ true) cs → AllByRecursion (IsKnown fields) cs
known-all types fields [] typed there of read suited = tt
known-all types fields (c ∷ cs) typed there of read suited = (known-one types fields c typed there.0 of.0 read.0 suited.0, known-all types fields cs typed there.1 of.1 read.1 suited.1)

-- what holds of all holds of those that meet a test, as does the test
filtered : {A : Type 0} (P : A → Type 0) (test : A → Bool) (b : Bool) (xs : List A) → AllByRecursion P xs → AllByRecursion (λ x. P x × (test x ≡ true)) (filter test xs)
filtered P test b [] h = tt
filtered P test b (x ∷ xs) h = by (test x) refl (filtered P test b xs h.1)
  where
    by : (r : Bool) → test x ≡ r → AllByRecursion (λ y. P y × (test y ≡ true)) (filter test xs) → AllByRecursion (λ y. P y × (test y ≡ true)) (cond r (x ∷ filter test xs) (filter test xs))
    by true e rest = ((h.0, e), rest)
    by false e rest = rest

not-key : (b : Bool) → not b ≡ true → b ≡ false
not-key true h = sym h
not-key false h = refl

each-weaker : {A : Type 0} (P Q : A → Type 0) → ((x : A) → P x → Q x) → (xs : List A) → AllByRecursion P xs → AllByRecursion Q xs
each-weaker P Q f [] h = tt
each-weaker P Q f (x ∷ xs) h = (f x h.0, each-weaker P Q f xs h.1)

-- what columns that may be asked for come to
record IsLaidOut (c : ColumnsSeen) : Type 0 where
  read : list_all (λ f. is_input f.dtype) (named_fields c.columns) ≡ true
  distinct : has_double (field_names (named_fields c.columns)) ≡ false
  keys : AllByRecursion (IsKnownKey (named_fields c.columns)) (keys_in c.columns)
  aggs : AllByRecursion (IsKnownAgg (named_fields c.columns)) (aggs_in c.columns)

laid-out : (c : ColumnsSeen) → IsAskable c → IsLaidOut c
laid-out c h =
    let cs : List AskedColumn = c.columns in
    let fields : List Field = named_fields cs in
    let of = recursion_from_All (λ a. a.dtype ≡ h.types a.column) cs h.typed in
    let read = recursion_from_All (λ a. is_input a.dtype ≡ true) cs h.read in
    let suited = recursion_from_All (λ a. suits a.role a.dtype ≡ true) cs h.suited in
    let named : AreOf h.types fields = named-of h.types cs of read in
    let known : AllByRecursion (IsKnown fields) cs = known-all h.types fields cs named.typed (named-there cs) of read suited in
    record {
      read = named.read;
      distinct = named.distinct;
      keys = filtered (IsKnown fields) (λ a. is_key a.role) true cs known;
      aggs = each-weaker (λ a. IsKnown fields a × (not (is_key a.role) ≡ true)) (IsKnownAgg fields) (λ a k. (k.0, not-key (is_key a.role) k.1)) (aggs_in cs) (filtered (IsKnown fields) (λ a. not (is_key a.role)) true cs known);
    }

-- ---- the answer

-- the columns of the answer
answer-is : (c : ColumnsSeen) → IsAskable c → output_schema (query_of_words c) ≡ hidden (keys_in c.columns) ++ flat_map answer_fields c.columns
answer-is c h =
    let l = laid-out c h in
    whole-answer (named_fields c.columns) (keys_in c.columns) (aggs_in c.columns) c.columns l.keys l.aggs h.keys_first

-- each shown column stands where it is said to
pub shown-there : (c : ColumnsSeen) → IsAskable c → map (fields_at (output_schema (query_of_words c))) (shown_columns c.columns) ≡ map shown_fields c.columns
shown-there c h =
    ap (λ fs. map (fields_at fs) (shown_columns c.columns)) (answer-is c h)
    ∙ ap (λ n. map (fields_at (hidden (keys_in c.columns) ++ flat_map answer_fields c.columns)) (sources_from n c.columns)) (first-shown c.columns)
    ∙ places-of (hidden (keys_in c.columns)) c.columns

-- ---- keys

some-of : (ks : List AskedColumn) → length ks ≢ 0 → length (keys_of (map key_expr ks)) ≡ length ks
some-of [] h = absurd (h refl)
some-of (k ∷ ks) h = length-map (k ∷ ks) key_expr

pub key-count : (c : ColumnsSeen) → length (keys_in c.columns) ≢ 0 → length (query_of_words c).keys ≡ length (keys_in c.columns)
key-count c h = some-of (keys_in c.columns) h

front-keys : (fields : List Field) (ks : List AskedColumn) (rest : List Field) → AllByRecursion (IsKnownKey fields) ks → length ks ≢ 0 → take (length ks) (map (key_field fields) (keys_of (map key_expr ks)) ++ rest) ≡ map value_field ks
front-keys fields [] rest keys h = absurd (h refl)
front-keys fields (k ∷ ks) rest keys h =
    let are = keys-answered fields (k ∷ ks) keys in
    ap (λ fs. take (length (k ∷ ks)) (fs ++ rest)) are ∙ ap (λ n. take n (map value_field (k ∷ ks) ++ rest)) (sym (length-map (k ∷ ks) value_field)) ∙ take-append_seam (map value_field (k ∷ ks)) rest

pub keys-in-front : (c : ColumnsSeen) → IsAskable c → length (keys_in c.columns) ≢ 0 → take (length (keys_in c.columns)) (output_schema (query_of_words c)) ≡ map value_field (keys_in c.columns)
keys-in-front c h some = front-keys (named_fields c.columns) (keys_in c.columns) (flat_map (tree_fields (named_fields c.columns)) (map agg_tree (map agg_expr (aggs_in c.columns)))) (laid-out c h).keys some

-- ---- no fault

module _ (c : ColumnsSeen) (h : IsAskable c) where
  abbrev asked : WrittenQuery
  asked = written_of c.columns (is_first c.order)

  abbrev keys : List Expr
  keys = keys_of (map key_expr (keys_in c.columns))

  abbrev aggs : List Expr
  aggs = map agg_expr (aggs_in c.columns)

  abbrev fields : List Field
  fields = named_fields c.columns

  keys-are : AllByRecursion (IsSoundKey fields) keys
  keys-are = keys-sound fields (map key_expr (keys_in c.columns)) (all-of (IsKnownKey fields) (IsSoundKey fields) key_expr (λ a k. key-sound fields a k.0 k.1) (keys_in c.columns) (laid-out c h).keys)

  aggs-are : AllByRecursion (IsSoundAgg fields) aggs
  aggs-are = all-of (IsKnownAgg fields) (IsSoundAgg fields) agg_expr (λ a k. agg-sound fields a k.0 k.1) (aggs_in c.columns) (laid-out c h).aggs

  -- a test that keys and aggregates meet
  all-meet : (test : Expr → Bool) → ((e : Expr) → IsSoundKey fields e → test e ≡ true) → ((e : Expr) → IsSoundAgg fields e → test e ≡ true) → all_written test asked ≡ true
  all-meet test of-key of-agg = list_all-append test keys aggs ∙ and_from (list_all test keys) (list_all test aggs) (test-all (IsSoundKey fields) test of-key keys keys-are) (test-all (IsSoundAgg fields) test of-agg aggs aggs-are)

  knows-all : all_written (λ e. knows_columns e fields) asked ≡ true
  knows-all = all-meet (λ e. knows_columns e fields) (λ e k. k.knows) (λ e k. k.knows)

  typed-all : has_types asked ≡ true
  typed-all = and_from (list_all (λ f. is_input f.dtype) fields) (all_written (λ e. is_some (type_of e fields)) asked) (laid-out c h).read (all-meet (λ e. is_some (type_of e fields)) (λ e k. k.typed) (λ e k. k.typed))

  row-wise : list_all is_row_wise keys ≡ true
  row-wise = test-all (IsSoundKey fields) is_row_wise (λ e k. k.row_wise) keys keys-are

  kept-all : list_all (λ e. convertible e fields) aggs ≡ true
  kept-all = test-all (IsSoundAgg fields) (λ e. convertible e fields) (λ e k. k.kept) aggs aggs-are

  dateless : list_any (λ e. adds_dates fields (unaliased e)) aggs ≡ false
  dateless = test-none (IsSoundAgg fields) (λ e. adds_dates fields (unaliased e)) (λ e k. k.dateless) aggs aggs-are

  names-told : has_double (field_names (output_schema (written_tree asked))) ≡ false
  names-told = ap (λ fs. has_double (field_names fs)) (answer-is c h) ∙ names-apart (keys_in c.columns) c.columns (no-double c.columns h.told_apart)

  pub no-fault : written_fault asked ≡ None
  no-fault = rw ((laid-out c h).distinct, some-keys (map key_expr (keys_in c.columns)), knows-all, typed-all, row-wise, kept-all, dateless, names-told) refl

-- a query that was written of columns that may be asked for has no fault
pub made-faultless : (c : ColumnsSeen) (w : WrittenQuery) (nodes : Bool) → w ≡ written_of c.columns (is_first c.order) → nodes ≡ true → IsAskable c → fault_of nodes w ≡ None
made-faultless c w nodes is there h = ap (λ b. fault_of b w) there ∙ ap (fault_of true) is ∙ no-fault c h

-- The fields that a query puts out where some of its keys are kept, and the types of its rows.
use Rattle.std.proofs.Common.{◌≡◌, ◌∙◌, ℕ, zero, suc, ◌+◌, ◌-◌, ◌<◌, List, [], ◌∷◌, ◌++◌, length, map, get_or, take, drop, refl, sym, ap, subst, arith}
use Rattle.std.specs.List.{flat_map, slice_get}
use Rattle.std.specs.Option.{option_to_list}
use Rattle.std.proofs.lemmas.Grind.{flat_map-append}
use Rattle.std.proofs.lemmas.List.{append-nil, drop_at, length-map, map-append, take_at, take_more, take_rest}
use Rattle.std.proofs.lemmas.List.Elements.{All-append}
use Rattle.pipe_columns.specs.declared.data_type.DataType.{DataType}
use Rattle.pipe_columns.specs.declared.data_type.DataType.TheVariants as dt
use Rattle.pipe_columns.specs.declared.schema.Field.{Field}
use Rattle.pipe_columns.specs.AnyValue.{HasUtf8}
use Rattle.pipe_model.specs.Expr.{Expr, name_of}
use Rattle.pipe_model.specs.Kind.{Kind}
use Rattle.pipe_model.specs.Kind as kind
use Rattle.pipe_model.specs.Output.{agg_fields, input_type, key_types, output_schema}
use Rattle.pipe_model.specs.Query.{AggTree, QueryTree}
use Rattle.pipe_model.specs.Typing.{known_type}
use Rattle.pipe_spill.specs.KeyTypes.{IsTuple}
use Rattle.pipe_states.specs.Fair.{IsRowOf, result_types}
use Rattle.pipe_states.specs.Regrouped.{with_keys}
use Rattle.pipe_states.specs.declared.state_row.StateRow.{StateRow}
use Rattle.pipe_states.proofs.GivenRows.{typed-append}
use Rattle.pipe_regroup.specs.Frames.{fields_at}
use Rattle.pipe_regroup.proofs.KeptFacts.{picked}

-- ---- fields at positions

one-at : (fields : List Field) (k : ℕ) (d : Field) → k < length fields → option_to_list (slice_get fields k) ≡ get_or fields k d ∷ []
one-at [] k d lt = absurd (omega (arith, lt))
one-at (f ∷ fields) zero d lt = refl
one-at (f ∷ fields) (suc k) d lt = one-at fields k d (omega (arith, lt))

-- one more
pub fields-more : (fields : List Field) (ks : List ℕ) (i e : ℕ) (d : Field) → i < length ks → get_or ks i e < length fields
    → fields_at fields (take i ks) ++ get_or fields (get_or ks i e) d ∷ [] ≡ fields_at fields (take (i + 1) ks)
fields-more fields ks i e d lt within =
    ap (λ (l : List Field). fields_at fields (take i ks) ++ l) (sym (one-at fields (get_or ks i e) d within) ∙ sym (append-nil (option_to_list (slice_get fields (get_or ks i e)))))
    ∙ sym (flat_map-append (λ k. option_to_list (slice_get fields k)) (take i ks) (get_or ks i e ∷ []))
    ∙ ap (fields_at fields) (sym (take_more ks i e lt))

-- those of images
image-at : (field : Expr → Field) (keys : List Expr) (k : ℕ) → option_to_list (slice_get (map field keys) k) ≡ map field (option_to_list (slice_get keys k))
image-at field [] k = refl
image-at field (e ∷ keys) zero = refl
image-at field (e ∷ keys) (suc k) = image-at field keys k

images-at : (field : Expr → Field) (keys : List Expr) (ks : List ℕ) → fields_at (map field keys) ks ≡ map field (picked keys ks)
images-at field keys [] = refl
images-at field keys (k ∷ ks) =
    (λ i. image-at field keys k i ++ images-at field keys ks i) ∙ sym (map-append field (option_to_list (slice_get keys k)) (picked keys ks))

-- ---- the fields of a query

-- the field of a key
abbrev key_field : QueryTree → Expr → Field
key_field q e = record { name = name_of e; dtype = known_type e q.schema }

-- those of the aggregates
abbrev result_fields : QueryTree → List Field
result_fields q = flat_map (λ a. agg_fields a.name a.kind (input_type q.schema a.input)) q.aggs

module _ (q : QueryTree) (n : ℕ) (keys : n ≡ length q.keys) where
  wide : length (map (key_field q) q.keys) ≡ n
  wide = length-map q.keys (key_field q) ∙ sym keys

  -- the fields in front are those of the keys
  pub front-fields : take n (output_schema q) ≡ map (key_field q) q.keys
  front-fields = take_at (map (key_field q) q.keys) (result_fields q) n wide

  pub front-wide : length (take n (output_schema q)) ≡ length q.keys
  front-wide = ap length front-fields ∙ length-map q.keys (key_field q)

  -- the others those of the aggregates
  pub back-fields : take (length (output_schema q) - n) (drop n (output_schema q)) ≡ result_fields q
  back-fields = take_rest (output_schema q) n ∙ drop_at (map (key_field q) q.keys) (result_fields q) n wide

  -- so with some keys alone
  pub kept-schema : (keep : List ℕ) → fields_at (take n (output_schema q)) keep ++ take (length (output_schema q) - n) (drop n (output_schema q)) ≡ output_schema (with_keys q keep)
  kept-schema keep = λ i. (ap (λ (fs : List Field). fields_at fs keep) front-fields ∙ images-at (key_field q) q.keys keep) i ++ back-fields i

-- ---- types

-- names decide no type
mean-types : (name : List ℕ) (t : DataType) → map (λ f. f.dtype) (agg_fields [] kind.mean t) ≡ map (λ f. f.dtype) (agg_fields name kind.mean t)
mean-types name dt.Boolean = refl
mean-types name dt.Int8 = refl
mean-types name dt.Int16 = refl
mean-types name dt.Int32 = refl
mean-types name dt.Int64 = refl
mean-types name dt.UInt8 = refl
mean-types name dt.UInt16 = refl
mean-types name dt.UInt32 = refl
mean-types name dt.UInt64 = refl
mean-types name dt.Int128 = refl
mean-types name dt.Date = refl
mean-types name dt.String = refl

agg-types : (name : List ℕ) (k : Kind) (t : DataType) → map (λ f. f.dtype) (agg_fields [] k t) ≡ map (λ f. f.dtype) (agg_fields name k t)
agg-types name kind.sum t = refl
agg-types name kind.mean t = mean-types name t
agg-types name kind.min t = refl
agg-types name kind.max t = refl
agg-types name kind.first t = refl
agg-types name kind.last t = refl
agg-types name kind.count t = refl
agg-types name kind.len t = refl

aggs-types : (schema : List Field) (aggs : List AggTree) → flat_map (λ a. map (λ f. f.dtype) (agg_fields [] a.kind (input_type schema a.input))) aggs
    ≡ map (λ f. f.dtype) (flat_map (λ a. agg_fields a.name a.kind (input_type schema a.input)) aggs)
aggs-types schema [] = refl
aggs-types schema (a ∷ aggs) =
    (λ i. agg-types a.name a.kind (input_type schema a.input) i ++ aggs-types schema aggs i)
    ∙ sym (map-append (λ (f : Field). f.dtype) (agg_fields a.name a.kind (input_type schema a.input)) (flat_map (λ b. agg_fields b.name b.kind (input_type schema b.input)) aggs))

keys-types : (q : QueryTree) (keys : List Expr) → map (λ e. known_type e q.schema) keys ≡ map (λ f. f.dtype) (map (key_field q) keys)
keys-types q [] = refl
keys-types q (e ∷ keys) = ap (λ (l : List DataType). known_type e q.schema ∷ l) (keys-types q keys)

schema-types : (q : QueryTree) → key_types q ++ result_types q ≡ map (λ f. f.dtype) (output_schema q)
schema-types q = (λ i. keys-types q q.keys i ++ aggs-types q.schema q.aggs i) ∙ sym (map-append (λ (f : Field). f.dtype) (map (key_field q) q.keys) (result_fields q))

-- a state row of a query is a row of the types that it puts out
pub row-tuple : (q : QueryTree) (r : StateRow) → IsRowOf q r → IsTuple (map (λ f. f.dtype) (output_schema q)) (r.key ++ r.results)
row-tuple q r h = subst (λ (types : List DataType). IsTuple types (r.key ++ r.results)) (schema-types q) (record {
  of_types = typed-append (key_types q) (result_types q) r.key r.results h.key.of_types h.results.of_types;
  utf8 = All-append HasUtf8 r.key r.results h.key.utf8 h.results.utf8;
})

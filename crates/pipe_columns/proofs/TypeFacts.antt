-- What columns and frames keep of their values.
use Rattle.std.proofs.Common.{◌≡◌, ◌∙◌, ◌+◌, ◌<◌, ◌==◌, ℕ, Some, Bool, true, List, [], ◌∷◌, ◌++◌, map, length, take, drop, get_or, refl, ap, subst}
use Rattle.std.specs.List.{All}
use Rattle.std.proofs.lemmas.Bool.{and_from, eq-eqb}
use Rattle.std.proofs.lemmas.List.Elements.{All-append, All-cons, All-drop, All-head, All-map, All-more, All-nil, All-tail, All-take, All-weaker}
use Rattle.std.proofs.lemmas.List.Folds.{list_all-append, list_all_more}
use Rattle.std.proofs.lemmas.List.Sums.{AllPass-from_list_all, list_all-from_AllPass}
use Rattle.pipe_columns.specs.declared.any_value.AnyValue.{AnyValue}
use Rattle.pipe_columns.specs.declared.data_type.DataType.{DataType}
use Rattle.pipe_columns.specs.declared.schema.Field.{Field}
use Rattle.pipe_columns.specs.AnyValue.{fits, HasUtf8}
use Rattle.pipe_columns.specs.Frame.{AllFit, AreOfType, appended_all, ColumnData, columns_from, ColumnsFit, ColumnsHaveUtf8, field_of, fields_of, FrameData, IsFrame, sliced_column, sliced_frame, stacked, unsorted}
use Rattle.pipe_columns.specs.Slice.{sliced}
use Rattle.pipe_columns.proofs.FrameFacts.{empty_height, first_same, sliced_height, stacked_height}

-- ---- values

-- one more value
pub values_more : (t : DataType) (values : List AnyValue) (i : ℕ) (d : AnyValue) → i < length values
    → d ≡ get_or values i d → AreOfType t (take i values) → fits d t ≡ true → HasUtf8 d
    → AreOfType t (take (i + 1) values)
values_more t values i d lt is so_far fit utf8 = record {
  fit = list_all_more (λ v. fits v t) values i d lt
      ∙ and_from _ _ so_far.fit (subst (λ (v : AnyValue). fits v t ≡ true) is fit);
  utf8 = All-more HasUtf8 values i d lt so_far.utf8 (subst HasUtf8 is utf8);
}

-- values that fit still fit in a slice
fit_slice : (t : DataType) (offset len : ℕ) (values : List AnyValue) → AllFit t values
    → AllFit t (sliced (Some (offset, len)) values)
fit_slice t offset len values e =
    let p : AnyValue → Bool = λ v. fits v t in
    let P : AnyValue → Type 0 = λ v. p v ≡ true in
    list_all-from_AllPass p (take len (drop offset values)) (All-take P len (drop offset values)
    (All-drop P offset values (AllPass-from_list_all p values e)))

-- texts in UTF-8 are so in a slice
utf8_slice : (offset len : ℕ) (values : List AnyValue) → All HasUtf8 values
    → All HasUtf8 (sliced (Some (offset, len)) values)
utf8_slice offset len values a =
    All-take HasUtf8 len (drop offset values) (All-drop HasUtf8 offset values a)

-- values of a type are of it in a slice
pub values_slice : (t : DataType) (offset len : ℕ) (values : List AnyValue) → AreOfType t values
    → AreOfType t (sliced (Some (offset, len)) values)
values_slice t offset len values a = record {
  fit = fit_slice t offset len values a.fit;
  utf8 = utf8_slice offset len values a.utf8;
}

-- so are the first of them
pub values_first : (t : DataType) (n : ℕ) (values : List AnyValue) → AreOfType t values
    → AreOfType t (take n values)
values_first t n values a = values_slice t 0 n values a

-- ---- columns

-- what holds of each column's values
abbrev Fit : ColumnData → Type 0
Fit c = AllFit c.dtype c.values

-- and of its texts
abbrev Texts : ColumnData → Type 0
Texts c = All HasUtf8 c.values

-- one more column
pub columns_more : (height : ℕ) (columns : List ColumnData) (i : ℕ) (d : ColumnData) → i < length columns
    → d ≡ get_or columns i d → IsFrame (record { height = height; columns = take i columns })
    → length d.values ≡ height → AreOfType d.dtype d.values
    → IsFrame (record { height = height; columns = take (i + 1) columns })
columns_more height columns i d lt is so_far tall a = record {
  height = list_all_more (λ (c : ColumnData). length c.values == height) columns i d lt
      ∙ and_from _ _ so_far.height (subst (λ (c : ColumnData). (length c.values == height) ≡ true) is (eq-eqb (length d.values) height tall));
  types = record {
    fit = All-more Fit columns i d lt so_far.types.fit (subst Fit is a.fit);
    utf8 = All-more Texts columns i d lt so_far.types.utf8 (subst Texts is a.utf8);
  };
}

-- a slice of a frame is a frame
pub sliced_is : (offset len : ℕ) (f : FrameData) → IsFrame f → IsFrame (sliced_frame offset len f)
sliced_is offset len f a = record {
  height = sliced_height f.height offset len f.columns a.height;
  types = record {
    fit = All-map Fit (sliced_column offset len) f.columns
        (All-weaker Fit (λ c. Fit (sliced_column offset len c)) (λ c e. fit_slice c.dtype offset len c.values e) f.columns a.types.fit);
    utf8 = All-map Texts (sliced_column offset len) f.columns
        (All-weaker Texts (λ c. Texts (sliced_column offset len c)) (λ c e. utf8_slice offset len c.values e) f.columns a.types.utf8);
  };
}

-- values below values of their types fit
stacked_fit : (ds cs : List ColumnData) → fields_of ds ≡ fields_of cs → ColumnsFit ds → ColumnsFit cs
    → ColumnsFit (map unsorted (appended_all ds cs))
stacked_fit [] cs same d c = All-map Fit unsorted cs c
stacked_fit (d ∷ ds) [] same e f = All-nil Fit
stacked_fit (d ∷ ds) (c ∷ cs) same e f =
    let one : d.dtype ≡ c.dtype = ap (λ (x : Field). x.dtype) (first_same (field_of d) (field_of c) (fields_of ds) (fields_of cs) same) in
    let more : AllFit c.dtype d.values = subst (λ (t : DataType). AllFit t d.values) one (All-head Fit d ds e) in
    let here : AllFit c.dtype (c.values ++ d.values) = list_all-append (λ v. fits v c.dtype) c.values d.values ∙ and_from _ _ (All-head Fit c cs f) more in
    All-cons Fit _ _ here (stacked_fit ds cs (cc same) (All-tail Fit d ds e) (All-tail Fit c cs f))

-- texts below texts are in UTF-8
stacked_utf8 : (ds cs : List ColumnData) → ColumnsHaveUtf8 ds → ColumnsHaveUtf8 cs
    → ColumnsHaveUtf8 (map unsorted (appended_all ds cs))
stacked_utf8 [] cs d c = All-map Texts unsorted cs c
stacked_utf8 (d ∷ ds) [] e f = All-nil Texts
stacked_utf8 (d ∷ ds) (c ∷ cs) e f =
    All-cons Texts _ _ (All-append HasUtf8 c.values d.values (All-head Texts c cs f) (All-head Texts d ds e))
    (stacked_utf8 ds cs (All-tail Texts d ds e) (All-tail Texts c cs f))

-- a frame on which one of the same fields is stacked is a frame
pub stacked_is : (f g : FrameData) → fields_of g.columns ≡ fields_of f.columns → IsFrame f → IsFrame g
    → IsFrame (stacked f g)
stacked_is f g same a b = record {
  height = stacked_height f.height g.height g.columns f.columns same a.height b.height;
  types = record {
    fit = stacked_fit g.columns f.columns same b.types.fit a.types.fit;
    utf8 = stacked_utf8 g.columns f.columns b.types.utf8 a.types.utf8;
  };
}

-- where there is no value, all fit
empty_fit : (i : ℕ) (fs : List Field) → ColumnsFit (columns_from i fs [])
empty_fit i [] = All-nil Fit
empty_fit i (f ∷ fs) = All-cons Fit _ _ refl (empty_fit (i + 1) fs)

-- where there is no text, all are in UTF-8
empty_utf8 : (i : ℕ) (fs : List Field) → ColumnsHaveUtf8 (columns_from i fs [])
empty_utf8 i [] = All-nil Texts
empty_utf8 i (f ∷ fs) = All-cons Texts _ _ (All-nil HasUtf8) (empty_utf8 (i + 1) fs)

-- columns without values are those of a frame
pub empty_is : (fs : List Field) → IsFrame (record { height = 0; columns = columns_from 0 fs [] })
empty_is fs = record {
  height = empty_height 0 fs;
  types = record { fit = empty_fit 0 fs; utf8 = empty_utf8 0 fs };
}

-- Lines of JSON, written member by member.
use Rattle.std.proofs.Common.{◌≡◌, ◌∙◌, ◌+◌, ◌<◌, ◌≤◌, ◌∷◌, ◌++◌, [], ℕ, suc, List, Vec, Global, Some, true, map, drop, length, get_or, nat_lt, refl, sym, ap, ap₂, arith, append-nil, append_assoc, slice_get}
use Rattle.std.proofs.Math.Seq.{drop-cons}
use Rattle.std.proofs.lemmas.Bool.{lt-ltb}
use Rattle.std.proofs.lemmas.List.{drop_all, get_or-map, length-map, map-append}
use Rattle.std.proofs.lemmas.List.FromFn.{get_or-map-range_with_len, length-map-range_with_len, map-range_with_len_more}
use Rattle.std.proofs.lemmas.Option.{slice_get_read}
use Rattle.json.specs.Print.{print, print_from, quoted}
use Rattle.json.specs.Token.{string}
use Rattle.pipe_columns.specs.declared.any_value.AnyValue.{AnyValue}
use Rattle.pipe_columns.specs.declared.schema.Field.{Field}
use Rattle.pipe_columns.specs.Frame.{ColumnData, all_have_height, field_of, fields_of, row_at, value_at}
use Rattle.pipe_lines.specs.Rows.{names_of}
use Rattle.pipe_csv.proofs.RowsLemmas.{length-column}
use Rattle.pipe_writers.specs.JsonHeads.{AreHeads, head_at, heads_to}
use Rattle.pipe_writers.specs.JsonText.{json_members, json_string, json_value, member_head}

-- a string alone is printed as it is quoted
pub print-string : (s : List ℕ) → print (string s ∷ []) ≡ json_string s
unfolding print_from
print-string s = append-nil (quoted s)

-- one more head
pub heads_more : (names : List (List ℕ)) (i : ℕ) (heads : List (Vec ℕ Global)) (head : Vec ℕ Global) → map (λ h. h.items) heads ≡ heads_to names i
    → head.items ≡ head_at names i → map (λ h. h.items) (heads ++ head ∷ []) ≡ heads_to names (i + 1)
heads_more names i heads head so_far is =
    map-append (λ (h : Vec ℕ Global). h.items) heads (head ∷ []) ∙ ap₂ (λ (xs : List (List ℕ)) (x : List ℕ). xs ++ x ∷ []) so_far is
    ∙ sym (map-range_with_len_more (head_at names) 0 i i (omega arith))

-- the head at a place
pub head_is : (names : List (List ℕ)) (heads : List (Vec ℕ Global)) (i : ℕ) (head : Vec ℕ Global) → AreHeads names heads → i < length names
    → head ≡ get_or heads i head → head.items ≡ head_at names i
head_is names heads i head are within is =
    let long : length heads ≡ length names = sym (length-map heads (λ (h : Vec ℕ Global). h.items)) ∙ ap length are ∙ length-map-range_with_len (head_at names) 0 (length names) in
    ap (λ (h : Vec ℕ Global). h.items) is ∙ sym (get_or-map (λ (h : Vec ℕ Global). h.items) heads i head (head.items) (omega (arith, long, within)))
    ∙ ap (λ (xs : List (List ℕ)). get_or xs i head.items) are ∙ get_or-map-range_with_len (head_at names) 0 (length names) i i head.items within (omega arith)

-- as many heads as names
pub length-heads : (names : List (List ℕ)) (heads : List (Vec ℕ Global)) → AreHeads names heads → length heads ≡ length names
length-heads names heads are =
    sym (length-map heads (λ (h : Vec ℕ Global). h.items)) ∙ ap length are ∙ length-map-range_with_len (head_at names) 0 (length names)

-- what is still to be written of the members, from a place on
abbrev pub members_from : List (List ℕ) → List AnyValue → ℕ → List ℕ
members_from names values i = json_members (nat_lt 0 i) (drop i names) (drop i values)

-- a member and those behind it
pub member_first : (names : List (List ℕ)) (values : List AnyValue) (i : ℕ) (value : AnyValue) → i < length names → i < length values → get_or values i value ≡ value
    → members_from names values i ≡ head_at names i ++ (json_value value ++ members_from names values (i + 1))
member_first names values i value named valued is =
    let more : suc i ≡ i + 1 = omega arith in
    let later : nat_lt 0 (i + 1) ≡ true = lt-ltb 0 (i + 1) (omega arith) in
    let n = drop-cons names i [] named in
    let v : drop i values ≡ value ∷ drop (suc i) values = drop-cons values i value valued ∙ ap (λ (x : AnyValue). x ∷ drop (suc i) values) is in
    rw (n, v, later, ← more) refl

-- one more member is written
pub member_more : (names : List (List ℕ)) (values : List AnyValue) (i : ℕ) (value : AnyValue) (old now head after : List ℕ) → i < length names → i < length values → get_or values i value ≡ value
    → now ++ members_from names values i ≡ old → head ≡ head_at names i → after ≡ (now ++ head) ++ json_value value
    → after ++ members_from names values (i + 1) ≡ old
member_more names values i value old now head after named valued is so_far h made =
    let rest = members_from names values (i + 1) in
    ap (λ bs. bs ++ rest) (made ∙ ap (λ bs. (now ++ bs) ++ json_value value) h) ∙ append_assoc (now ++ head_at names i) (json_value value) rest
    ∙ append_assoc now (head_at names i) (json_value value ++ rest) ∙ ap (λ bs. now ++ bs) (sym (member_first names values i value named valued is)) ∙ so_far

-- no member more
pub members_done : (names : List (List ℕ)) (values : List AnyValue) (n : ℕ) (old now : List ℕ) → length names ≤ n → now ++ members_from names values n ≡ old → now ≡ old
members_done names values n old now le so_far =
    let none : drop n names ≡ [] = drop_all n names le in
    sym (append-nil now) ∙ ap (λ bs. now ++ bs) (sym (ap (λ (ns : List (List ℕ)). json_members (nat_lt 0 n) ns (drop n values)) none)) ∙ so_far

-- the value of a row in a column
pub value_is : (height : ℕ) (columns : List ColumnData) (i row : ℕ) (column : ColumnData) (value : AnyValue) → all_have_height height columns ≡ true → i < length columns
    → column ≡ get_or columns i column → row < height → value ≡ get_or column.values row value → get_or (row_at columns row) i value ≡ value
value_is height columns i row column value tall within is there at =
    let long = length-column height columns i column tall within is in
    let found : slice_get column.values row ≡ Some value = slice_get_read column.values height row value (sym long) there at in
    get_or-map (λ (c : ColumnData). value_at c.values row) columns i column value within ∙ ap (λ (c : ColumnData). value_at c.values row) (sym is) ∙ rw found refl

-- a head that is made of a field's name
pub head_made : (schema fields : List Field) (i : ℕ) (field : Field) (name made : List ℕ) → fields ≡ schema → i < length fields
    → name ≡ (get_or fields i field).name → made ≡ member_head (nat_lt 0 i) name → made ≡ head_at (names_of schema) i
head_made schema fields i field name made same within named e =
    let at : get_or (names_of fields) i [] ≡ (get_or fields i field).name = get_or-map (λ (f : Field). f.name) fields i field [] within in
    let there : get_or (names_of schema) i [] ≡ name = ap (λ (fs : List Field). get_or (names_of fs) i []) (sym same) ∙ at ∙ sym named in
    e ∙ ap (member_head (nat_lt 0 i)) (sym there)

-- as many columns as heads
pub columns_headed : (schema : List Field) (columns : List ColumnData) (heads : List (Vec ℕ Global)) → fields_of columns ≡ schema → AreHeads (names_of schema) heads
    → length columns ≡ length heads
columns_headed schema columns heads fit are =
    sym (length-map columns field_of) ∙ ap length fit ∙ sym (length-map schema (λ (f : Field). f.name)) ∙ sym (length-heads (names_of schema) heads are)

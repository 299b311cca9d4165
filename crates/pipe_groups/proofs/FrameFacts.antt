-- The frame of groups, from the columns of their keys and of what they give.
use Rattle.std.proofs.Common.{◌≡◌, ◌∙◌, ℕ, suc, true, false, Bool, Option, Some, None, List, [], ◌∷◌, ◌++◌, length, map, take, drop, refl, sym, ap, subst, arith}
use Rattle.std.specs.Prelude.{IfNone, IsSome}
use Rattle.std.specs.List.{All, AllZip}
use Rattle.std.proofs.lemmas.List.{get_or-map, length-map, take-append-drop}
use Rattle.std.proofs.lemmas.List.Elements.{All-cons, All-map, All-nil, All-weaker}
use Rattle.pipe_columns.specs.declared.any_value.AnyValue.{AnyValue}
use Rattle.pipe_columns.specs.declared.data_type.DataType.{DataType}
use Rattle.pipe_columns.specs.declared.schema.Field.{Field}
use Rattle.pipe_columns.specs.Frame.{all_have_height, ColumnData, columns_from, ColumnsFit}
use Rattle.pipe_running.specs.GroupStates.{given_all}
use Rattle.pipe_running.specs.Stands.{FitTypes}
use Rattle.pipe_spill.specs.KeyTypes.{AreOfTypes}
use Rattle.pipe_groups.specs.Columns.{HaveKeys, IsTupleOf, with_rows}
use Rattle.pipe_groups.specs.Given.{CanGive, IsFrameOfGroups, IsRowOfGroup}
use Rattle.pipe_groups.specs.Groups.{Group, group_keys}
use Rattle.pipe_groups.specs.Shape.{IsShape, Shape}
use Rattle.pipe_groups.proofs.ColumnRows.{columns-fit, columns-joined, heights, joined_rows, length-joined, rows-put}
use Rattle.pipe_groups.proofs.ReadFacts.{length-types}
use Rattle.pipe_groups.proofs.ShapeTypes.{dtypes, shape-given, shape-keys}

-- what holds of each that a function makes
pub all-mapped : {X Y : Type 0} (P : Y → Type 0) (f : X → Y) (xs : List X) → All P (map f xs) → All (λ x. P (f x)) xs
all-mapped P f xs h = λ k d lt. subst P (get_or-map f xs k d (f d) lt) (h k (f d) (omega (arith, lt, length-map xs f)))

-- what is none only where a test fails is there where it passes
pub is_there : {X : Type 0} (r : Option X) (b : Bool) → IfNone r (b ≡ false) → b ≡ true → IsSome r
is_there None b e t = cc
is_there (Some x) b e t = refl

-- what fits types is of them
fit-types : (values : List AnyValue) (types : List DataType) → FitTypes values types → AreOfTypes types values
fit-types [] [] h = tt
fit-types [] (t ∷ ts) h = absurd h
fit-types (v ∷ vs) [] h = absurd h
fit-types (v ∷ vs) (t ∷ ts) h = (h.0, fit-types vs ts h.1)

-- what the groups give
abbrev pub givens : List Group → List (List AnyValue)
givens gs = map (λ g. given_all g.states) gs

rows-typed : (types : List DataType) (keys : List (List ℕ)) (rows : List (List AnyValue)) → AllZip (IsTupleOf types) keys rows → All (λ row. AreOfTypes types row) rows
rows-typed types [] [] h = All-nil (λ row. AreOfTypes types row)
rows-typed types [] (r ∷ rs) h = absurd h
rows-typed types (k ∷ ks) [] h = absurd h
rows-typed types (k ∷ ks) (r ∷ rs) h = All-cons (λ row. AreOfTypes types row) r rs h.0.is_tuple.of_types (rows-typed types ks rs h.1)

rows-many : (types : List DataType) (keys : List (List ℕ)) (rows : List (List AnyValue)) → AllZip (IsTupleOf types) keys rows → length rows ≡ length keys
rows-many types [] [] h = refl
rows-many types [] (r ∷ rs) h = absurd h
rows-many types (k ∷ ks) [] h = absurd h
rows-many types (k ∷ ks) (r ∷ rs) h = ap suc (rows-many types ks rs h.1)

-- a row is a group's where its front is the tuple of the group's key
rows-of : (s : Shape) (gs : List Group) (rows : List (List AnyValue)) → AllZip (IsTupleOf s.key_types) (group_keys gs) rows → AllZip (λ g row. IsRowOfGroup s g row) gs (joined_rows rows (givens gs))
rows-of s [] [] h = tt
rows-of s [] (r ∷ rs) h = absurd h
rows-of s (g ∷ gs) [] h = absurd h
rows-of s (g ∷ gs) (r ∷ rs) h = (record { key = r; tuple = h.0.is_tuple; code_is = h.0.code_is; row_is = refl }, rows-of s gs rs h.1)

module _ (s : Shape) (shape : IsShape s) where
  abbrev key_fields : List Field
  key_fields = take (length s.key_types) s.fields

  abbrev given_fields : List Field
  given_fields = drop (length s.key_types) s.fields

  -- what a group gives is of the types of its columns
  given-typed : (g : Group) → CanGive s g → AreOfTypes (dtypes given_fields) (given_all g.states)
  given-typed g h = fit-types (given_all g.states) (dtypes given_fields) (subst (FitTypes (given_all g.states)) (sym (shape-given s shape)) h.fits)

  pub given-long : (g : Group) → CanGive s g → length (given_all g.states) ≡ length given_fields
  given-long g h = length-types (dtypes given_fields) (given_all g.states) (given-typed g h) ∙ length-map given_fields (λ (f : Field). f.dtype)

  module _ (gs : List Group) (gives : All (CanGive s) gs) where
    givens-typed : All (λ row. AreOfTypes (dtypes given_fields) row) (givens gs)
    givens-typed = All-map (λ row. AreOfTypes (dtypes given_fields) row) (λ (g : Group). given_all g.states) gs
        (All-weaker (CanGive s) (λ g. AreOfTypes (dtypes given_fields) (given_all g.states)) given-typed gs gives)

    givens-long : All (λ row. length row ≡ length given_fields) (givens gs)
    givens-long = All-map (λ row. length row ≡ length given_fields) (λ (g : Group). given_all g.states) gs
        (All-weaker (CanGive s) (λ g. length (given_all g.states) ≡ length given_fields) given-long gs gives)

    -- the columns of what they give
    pub given-are : with_rows (givens gs) (columns_from 0 given_fields []) ≡ columns_from 0 given_fields (givens gs)
    given-are = rows-put given_fields (givens gs) givens-long

    pub given-fit : (columns : List ColumnData) → columns ≡ with_rows (givens gs) (columns_from 0 given_fields []) → ColumnsFit columns
    given-fit columns e = subst ColumnsFit (sym (e ∙ given-are)) (columns-fit given_fields (givens gs) givens-typed)

    module _ (columns : List ColumnData) (keys : HaveKeys s.key_types key_fields (group_keys gs) columns) where
      keys-typed : All (λ row. AreOfTypes s.key_types row) keys.rows
      keys-typed = rows-typed s.key_types (group_keys gs) keys.rows keys.each

      pub keys-fit : ColumnsFit columns
      keys-fit = subst ColumnsFit (sym keys.are) (columns-fit key_fields keys.rows (subst (λ (ts : List DataType). All (λ row. AreOfTypes ts row) keys.rows) (sym (shape-keys s shape)) keys-typed))

      key-long : length s.key_types ≡ length key_fields
      key-long = ap length (sym (shape-keys s shape)) ∙ length-map key_fields (λ (f : Field). f.dtype)

      keys-long : All (λ row. length row ≡ length key_fields) keys.rows
      keys-long = All-weaker (λ row. AreOfTypes s.key_types row) (λ row. length row ≡ length key_fields) (λ row h. length-types s.key_types row h ∙ key-long) keys.rows keys-typed

      many : length keys.rows ≡ length (givens gs)
      many = rows-many s.key_types (group_keys gs) keys.rows keys.each ∙ length-map gs (λ (g : Group). g.key) ∙ sym (length-map gs (λ (g : Group). given_all g.states))

      abbrev all_rows : List (List AnyValue)
      all_rows = joined_rows keys.rows (givens gs)

      module _ (given : List ColumnData) (is : given ≡ with_rows (givens gs) (columns_from 0 given_fields [])) where
        -- all columns
        all-columns : columns ++ given ≡ columns_from 0 s.fields all_rows
        all-columns =
            ap (λ (cs : List ColumnData). cs ++ given) keys.are ∙ ap (λ (cs : List ColumnData). columns_from 0 key_fields keys.rows ++ cs) (is ∙ given-are)
            ∙ columns-joined key_fields given_fields keys.rows (givens gs) many keys-long
            ∙ ap (λ (fs : List Field). columns_from 0 fs all_rows) (take-append-drop (length s.key_types) s.fields)

        rows-count : length all_rows ≡ length gs
        rows-count = length-joined keys.rows (givens gs) many ∙ many ∙ length-map gs (λ (g : Group). given_all g.states)

        -- each column has a value a group
        pub all-high : (n : ℕ) → n ≡ length gs → all_have_height n (columns ++ given) ≡ true
        all-high n e = ap (λ (k : ℕ). all_have_height k (columns ++ given)) (e ∙ sym rows-count) ∙ ap (all_have_height (length all_rows)) all-columns ∙ heights 0 s.fields all_rows

        -- they are the frame of the groups
        pub frame-of-groups : (n : ℕ) → n ≡ length gs → IsFrameOfGroups s gs (record { height = n; columns = columns ++ given })
        frame-of-groups n e = record {
          rows = all_rows;
          each = rows-of s gs keys.rows keys.each;
          frame_is = ap (λ (k : ℕ). record { height = k; columns = columns ++ given }) (e ∙ sym rows-count)
              ∙ ap (λ (cs : List ColumnData). record { height = length all_rows; columns = cs }) all-columns;
        }

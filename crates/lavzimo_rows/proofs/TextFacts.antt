-- The texts of shown rows, written piece by piece.
use Rattle.std.proofs.Common.{◌≡◌, ◌∙◌, ◌+◌, ◌<◌, ◌≤◌, ◌++◌, ◌∷◌, [], ℕ, ℤ, suc, true, false, List, codes, length, get_or, map, take, drop, nat_lt, refl, sym, ap, arith, append-nil, append_assoc}
use Rattle.std.specs.List.{flat_map}
use Rattle.std.proofs.Math.Seq.{drop-cons}
use Rattle.std.proofs.lemmas.Bool.{lt-ltb}
use Rattle.std.proofs.lemmas.List.{drop_all, map-append, take_more}
use Rattle.pipe_columns.specs.declared.any_value.AnyValue.{AnyValue}
use Rattle.pipe_columns.specs.declared.any_value.AnyValue.TheVariants as av
use Rattle.pipe_csv.specs.Texts.{field_of}
use Rattle.pipe_lines.specs.Rows.{Row}
use Rattle.pipe_writers.specs.JsonText.{json_value, member_head}
use Rattle.lavzimo_rows.specs.declared.columns.ShownColumn.{ShownColumn}
use Rattle.lavzimo_rows.specs.declared.columns.Shows.{Shows}
use Rattle.lavzimo_rows.specs.declared.columns.Shows.TheVariants as shows
use Rattle.lavzimo_rows.specs.Columns.{is_mean, shown_value}
use Rattle.lavzimo_rows.specs.Decimal.{decimal_text}
use Rattle.lavzimo_rows.specs.Texts.{csv_field, json_field, json_fields}

-- ---- fields

pub csv_nothing : (s : Shows) (value : AnyValue) → value ≡ av.Null → [] ≡ csv_field s value
csv_nothing (shows.Value column) value e = rw e refl
csv_nothing (shows.Mean of) value e = rw e refl

pub csv_value : (s : Shows) (value lent : AnyValue) → is_mean s ≡ false → value ≡ lent → field_of lent ≡ csv_field s value
csv_value (shows.Value column) value lent plain e = ap field_of (sym e)
csv_value (shows.Mean of) value lent plain e = cc

pub csv_mean : (s : Shows) (value : AnyValue) (n : ℤ) → is_mean s ≡ true → value ≡ av.Int n → decimal_text n ≡ csv_field s value
csv_mean (shows.Value column) value n mean e = cc
csv_mean (shows.Mean of) value n mean e = rw e refl

pub json_nothing : (s : Shows) (value : AnyValue) → value ≡ av.Null → codes "null" ≡ json_field s value
json_nothing (shows.Value column) value e = rw e refl
json_nothing (shows.Mean of) value e = rw e refl

pub json_plain : (s : Shows) (value lent : AnyValue) → is_mean s ≡ false → value ≡ lent → json_value lent ≡ json_field s value
json_plain (shows.Value column) value lent plain e = ap json_value (sym e)
json_plain (shows.Mean of) value lent plain e = cc

pub json_mean : (s : Shows) (value : AnyValue) (n : ℤ) → is_mean s ≡ true → value ≡ av.Int n → decimal_text n ≡ json_field s value
json_mean (shows.Value column) value n mean e = cc
json_mean (shows.Mean of) value n mean e = rw e refl

-- ---- members

-- what is still to be written of the members, from a place on
abbrev pub fields_from : List ShownColumn → Row → ℕ → List ℕ
fields_from shown row i = json_fields (nat_lt 0 i) (drop i shown) row

-- the member at a place
abbrev pub member_at : ShownColumn → Row → ℕ → List ℕ
member_at column row i = member_head (nat_lt 0 i) column.name ++ json_field column.shows (shown_value column.shows row)

-- a member and those behind it
member_first : (shown : List ShownColumn) (row : Row) (i : ℕ) (column : ShownColumn) → i < length shown → column ≡ get_or shown i column
    → fields_from shown row i ≡ member_at column row i ++ fields_from shown row (i + 1)
member_first shown row i column within is =
    let more : suc i ≡ i + 1 = omega arith in
    let later : nat_lt 0 (i + 1) ≡ true = lt-ltb 0 (i + 1) (omega arith) in
    let first : drop i shown ≡ column ∷ drop (i + 1) shown = drop-cons shown i column within ∙ ap (λ (c : ShownColumn). c ∷ drop (suc i) shown) (sym is) ∙ ap (λ n. column ∷ drop n shown) more in
    ap (λ (cs : List ShownColumn). json_fields (nat_lt 0 i) cs row) first
    ∙ sym (append_assoc (member_head (nat_lt 0 i) column.name) (json_field column.shows (shown_value column.shows row)) (json_fields true (drop (i + 1) shown) row))
    ∙ ap (λ b. member_at column row i ++ json_fields b (drop (i + 1) shown) row) (sym later)

-- one more member is written
pub member_more : (shown : List ShownColumn) (row : Row) (i : ℕ) (column : ShownColumn) (old now after : List ℕ) → i < length shown → column ≡ get_or shown i column
    → now ++ fields_from shown row i ≡ old → after ≡ now ++ member_at column row i → after ++ fields_from shown row (i + 1) ≡ old
member_more shown row i column old now after within is so_far made =
    ap (λ bs. bs ++ fields_from shown row (i + 1)) made ∙ append_assoc now (member_at column row i) (fields_from shown row (i + 1))
    ∙ ap (λ bs. now ++ bs) (sym (member_first shown row i column within is)) ∙ so_far

-- no member more
pub members_done : (shown : List ShownColumn) (row : Row) (i : ℕ) (old now : List ℕ) → length shown ≤ i → now ++ fields_from shown row i ≡ old → now ≡ old
members_done shown row i old now past so_far =
    sym (append-nil now) ∙ ap (λ bs. now ++ bs) (sym (ap (λ (cs : List ShownColumn). json_fields (nat_lt 0 i) cs row) (drop_all i shown past))) ∙ so_far

-- ---- lines

module _ {X : Type 0} (line : X → List ℕ) where
  flat_map-push : (xs : List X) (x : X) → flat_map line (xs ++ x ∷ []) ≡ flat_map line xs ++ line x
  flat_map-push [] x = append-nil (line x)
  flat_map-push (y ∷ ys) x = ap (λ bs. line y ++ bs) (flat_map-push ys x) ∙ sym (append_assoc (line y) (flat_map line ys) (line x))

  -- the line of one row more
  pub line_more : (row : ℕ → X) (rows : List ℕ) (i : ℕ) (text : List ℕ) → i < length rows
      → text ++ flat_map line (map row (take (i + 1) rows)) ≡ (text ++ flat_map line (map row (take i rows))) ++ line (row (get_or rows i 0))
  line_more row rows i text within =
      ap (λ (ns : List ℕ). text ++ flat_map line (map row ns)) (take_more rows i 0 within)
      ∙ ap (λ (xs : List X). text ++ flat_map line xs) (map-append row (take i rows) (get_or rows i 0 ∷ []))
      ∙ ap (λ bs. text ++ bs) (flat_map-push (map row (take i rows)) (row (get_or rows i 0)))
      ∙ sym (append_assoc text (flat_map line (map row (take i rows))) (line (row (get_or rows i 0))))

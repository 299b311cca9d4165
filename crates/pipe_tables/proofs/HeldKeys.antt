-- The keys that a local table holds are those that its worker keeps.
use Rattle.std.proofs.Common.{◌≡◌, ◌∙◌, ◌||◌, ℕ, Bool, true, false, not, List, [], ◌∷◌, length, map, refl, ap, sym, arith}
use Rattle.std.specs.Prelude.{All, nat_le, nat_lt}
use Rattle.std.specs.Set.{is_member}
use Rattle.std.specs.Str.{bytes_eq}
use Rattle.std.proofs.lemmas.Bool.Decides.{nat_tests}
use Rattle.std.proofs.lemmas.List.Elements.{All-filter, All-head, All-tail}
use Rattle.std.proofs.lemmas.Slice.Eq.{bytes_eq-Decides}
use Rattle.pipe_columns.specs.declared.any_value.AnyValue.{AnyValue}
use Rattle.pipe_columns.specs.declared.data_type.DataType.{DataType}
use Rattle.pipe_columns.specs.Key.{code}
use Rattle.pipe_columns.specs.Row.{Row}
use Rattle.pipe_model.specs.Rows.{keys_of}
use Rattle.pipe_plan.specs.declared.limits.Limits.{Limits}
use Rattle.pipe_plan.specs.Kept.{kept_keys, same_key}
use Rattle.pipe_plan.specs.Run.{is_generic}
use Rattle.pipe_plan.proofs.Longer.{keys_exact}
use Rattle.pipe_spill.specs.KeyTypes.{AreOfTypes}
use Rattle.pipe_spill.specs.SpillRow.{HasValues, spilled}
use Rattle.pipe_spill.proofs.CodeOrder.{codes_injective}
use Rattle.pipe_groups.specs.Groups.{count_held, is_held}
use Rattle.pipe_groups.specs.Shape.{Shape}
use Rattle.pipe_groups.proofs.KeyFacts.{any_of, held-rows}
use Rattle.pipe_tables.specs.After.{IsAfter, is_kept_of, kept_of}
use Rattle.pipe_tables.specs.LocalTable.{keeps, Local}
use Rattle.pipe_tables.specs.Tables.{is_full, passes}
use Rattle.pipe_tables.proofs.KeptRows.{kept_of-keys, stays}

-- the codes of two keys are one exactly where the keys are
codes-same : (types : List DataType) (a b : List AnyValue) → AreOfTypes types a → AreOfTypes types b → bytes_eq (code types a) (code types b) ≡ same_key a b
codes-same types a b p q = by (same_key a b) (bytes_eq (code types a) (code types b)) refl refl
  where
    by : (same bytes : Bool) → same_key a b ≡ same → bytes_eq (code types a) (code types b) ≡ bytes → bytes ≡ same
    by true true s e = refl
    by false false s e = refl
    by true false s e =
        let one : bytes_eq (code types a) (code types b) ≡ true = (bytes_eq-Decides (code types a) (code types b)).1 (ap (code types) (keys_exact.apart a b s)) in
        sym e ∙ one
    by false true s e =
        let one : a ≡ b = codes_injective types a b p q ((bytes_eq-Decides (code types a) (code types b)).0 e) in
        sym (sym s ∙ ap (λ (k : List AnyValue). same_key a k) (sym one) ∙ keys_exact.itself a)

-- a spilled row has the code of a key exactly where the row has the key
codes-any : (s : Shape) (x : Row) (rows : List Row) → HasValues s.key_types s.input_types x → All (HasValues s.key_types s.input_types) rows
    → any_of (code s.key_types x.key) (map (spilled s.key_types) rows) ≡ is_member same_key (keys_of rows) x.key
codes-any s x [] typed all = refl
codes-any s x (y ∷ rows) typed all =
    ap (λ b. b || any_of (code s.key_types x.key) (map (spilled s.key_types) rows)) (codes-same s.key_types x.key y.key typed.key.of_types (All-head (HasValues s.key_types s.input_types) y rows all).key.of_types)
    ∙ ap (λ b. same_key x.key y.key || b) (codes-any s x rows typed (All-tail (HasValues s.key_types s.input_types) y rows all))

module _ (l : Limits) (s : Shape) (taken : List Row) (x : Row) (t : Local) (generic : is_generic l.sink ≡ true)
    (all : All (HasValues s.key_types s.input_types) taken) (typed : HasValues s.key_types s.input_types x) (after : IsAfter l s taken t) where
  -- a key is held exactly where it is kept
  pub held-kept : is_held (code s.key_types x.key) t.table.groups ≡ is_member same_key (kept_keys l taken) x.key
  held-kept =
      held-rows s.prototypes t.table.groups (map (spilled s.key_types) (kept_of l taken)) after.holds (code s.key_types x.key)
      ∙ codes-any s x (kept_of l taken) typed (All-filter (is_kept_of l taken) (HasValues s.key_types s.input_types) taken all)
      ∙ kept_of-keys l taken x.key generic

  -- and there is room for one more where there is for the key
  room-is : not (is_full t.table) ≡ nat_le (length (kept_keys l taken)) l.spill_size
  room-is =
      ap (λ o. not (passes (count_held t.table.groups) o)) after.limit
      ∙ ap (λ n. not (nat_lt l.spill_size n)) after.counted
      ∙ turned l.spill_size (length (kept_keys l taken))
    where
      turned : (a b : ℕ) → not (nat_lt a b) ≡ nat_le b a
      turned a b = grind (arith, nat_tests)

  -- so the table keeps a row exactly where its worker does
  pub keeps-stays : keeps (spilled s.key_types x) t ≡ stays l taken x
  keeps-stays = ap (λ b. b || not (is_full t.table)) held-kept ∙ ap (λ b. is_member same_key (kept_keys l taken) x.key || b) room-is

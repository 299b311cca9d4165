-- Rows that are spilled: the codes of their keys, sorted, and the rows of one key.
use Rattle.std.proofs.Common.{◌≡◌, ◌∙◌, Bool, true, false, cond, List, [], ◌∷◌, map, refl, sym, ap}
use Rattle.std.specs.List.{All, filter, fold}
use Rattle.std.specs.Str.{bytes_eq}
use Rattle.std.specs.declared.cmp.Ordering.{Ordering}
use Rattle.std.specs.declared.cmp.Ordering.TheVariants.{Less, Equal, Greater}
use Rattle.std.specs.Ordering.{is_eq, match_ordering}
use Rattle.std.proofs.lemmas.Cmp.{nat_list_eq_equiv}
use Rattle.std.proofs.lemmas.List.Elements.{All-cons, All-head, All-nil, All-tail}
use Rattle.std.proofs.lemmas.Map.Text.{is_eq-slice_cmp}
use Rattle.pipe_columns.specs.declared.any_value.AnyValue.{AnyValue}
use Rattle.pipe_columns.specs.declared.data_type.DataType.{DataType}
use Rattle.pipe_columns.specs.declared.place.Place.{Place}
use Rattle.pipe_columns.specs.Groups.{put_key, sorted_keys}
use Rattle.pipe_columns.specs.Key.{code}
use Rattle.pipe_columns.specs.Row.{Row}
use Rattle.pipe_model.specs.Answer.{entry_of, rows_at, tuple_cmp}
use Rattle.pipe_spill.specs.KeyTypes.{AreOfTypes}
use Rattle.pipe_spill.specs.SpillRow.{spilled}
use Rattle.pipe_spill.proofs.CodeOrder.{codes_ordered}
use Rattle.pipe_groups.specs.Given.{key_cmp}
use Rattle.pipe_groups.specs.Holds.{entries_of, of_key}

-- ---- sorted images

module _ {K L : Type 0} (P : K → Type 0) (f : K → L) (R : K → K → Ordering) (Q : L → L → Ordering) (alike : (a b : K) → P a → P b → Q (f a) (f b) ≡ R a b) where
  -- a key among keys, and its image among theirs
  put-image : (k : K) (ks : List K) → P k → All P ks → put_key Q (f k) (map f ks) ≡ map f (put_key R k ks)
  put-image k [] p h = refl
  put-image k (x ∷ xs) p h = rw (alike k x p (All-head P x xs h)) (by (R k x) (put-image k xs p (All-tail P x xs h))) where
    by : (r : Ordering) → put_key Q (f k) (map f xs) ≡ map f (put_key R k xs)
        → match_ordering r (f k ∷ f x ∷ map f xs) (f x ∷ map f xs) (f x ∷ put_key Q (f k) (map f xs)) ≡ map f (match_ordering r (k ∷ x ∷ xs) (x ∷ xs) (x ∷ put_key R k xs))
    by Less rest = refl
    by Equal rest = refl
    by Greater rest = ap (λ (l : List L). f x ∷ l) rest

  -- what is put among keys has what they have
  put-has : (k : K) (ks : List K) → P k → All P ks → All P (put_key R k ks)
  put-has k [] p h = All-cons P k [] p h
  put-has k (x ∷ xs) p h = by (R k x) (put-has k xs p (All-tail P x xs h)) where
    by : (r : Ordering) → All P (put_key R k xs) → All P (match_ordering r (k ∷ x ∷ xs) (x ∷ xs) (x ∷ put_key R k xs))
    by Less rest = All-cons P k (x ∷ xs) p h
    by Equal rest = h
    by Greater rest = All-cons P x (put_key R k xs) (All-head P x xs h) rest

  fold-image : (done ks : List K) → All P done → All P ks → fold (λ sorted k. put_key Q k sorted) (map f done) (map f ks) ≡ map f (fold (λ sorted k. put_key R k sorted) done ks)
  fold-image done [] d h = refl
  fold-image done (k ∷ ks) d h =
      let p : P k = All-head P k ks h in
      ap (λ (l : List L). fold (λ sorted x. put_key Q x sorted) l (map f ks)) (put-image k done p d) ∙ fold-image (put_key R k done) ks (put-has k done p d) (All-tail P k ks h)

  -- images sort as what they are of
  pub sorted-image : (ks : List K) → All P ks → sorted_keys Q (map f ks) ≡ map f (sorted_keys R ks)
  sorted-image ks h = fold-image [] ks (All-nil P) h

module _ (types : List DataType) where
  -- codes sort as tuples
  pub sorted-codes : (keys : List (List AnyValue)) → All (AreOfTypes types) keys → sorted_keys key_cmp (map (code types) keys) ≡ map (code types) (sorted_keys tuple_cmp keys)
  sorted-codes keys h = sorted-image (AreOfTypes types) (code types) tuple_cmp key_cmp (codes_ordered types) keys h

  -- codes are equal exactly where tuples are
  code-test : (a b : List AnyValue) → AreOfTypes types a → AreOfTypes types b → bytes_eq (code types a) (code types b) ≡ is_eq (tuple_cmp b a)
  code-test a b p q =
      nat_list_eq_equiv.symm (code types a) (code types b)
      ∙ sym (is_eq-slice_cmp (code types b) (code types a))
      ∙ ap is_eq (codes_ordered types b a q p)

  -- the entries of a key are those of its code among the rows that are spilled
  pub spilled-at : (rs : List Row) (k : List AnyValue) → AreOfTypes types k → All (λ r. AreOfTypes types r.key) rs → entries_of (of_key (code types k) (map (spilled types) rs)) ≡ rows_at rs k
  spilled-at [] k p h = refl
  spilled-at (r ∷ rs) k p h = rw (code-test k r.key p (All-head (λ x. AreOfTypes types x.key) r rs h)) (by (is_eq (tuple_cmp r.key k)) (spilled-at rs k p (All-tail (λ x. AreOfTypes types x.key) r rs h))) where
    by : (b : Bool) → entries_of (of_key (code types k) (map (spilled types) rs)) ≡ rows_at rs k
        → entries_of (cond b (spilled types r ∷ of_key (code types k) (map (spilled types) rs)) (of_key (code types k) (map (spilled types) rs)))
        ≡ map (λ e. e.1) (cond b (entry_of r ∷ filter (λ e. is_eq (tuple_cmp e.0 k)) (map entry_of rs)) (filter (λ e. is_eq (tuple_cmp e.0 k)) (map entry_of rs)))
    by true rest = ap (λ (l : List (Place × List AnyValue)). (r.place, r.inputs) ∷ l) rest
    by false rest = rest

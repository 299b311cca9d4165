-- A table to which entries are added one by one is the groups of the entries.
use Rattle.std.proofs.Common.{◌≡◌, ◌∙◌, List, [], ◌∷◌, ◌++◌, map, Bool, true, false, if◌then◌else◌, refl, sym, ap}
use Rattle.std.specs.Prelude.{⊤, fold}
use Rattle.std.specs.declared.cmp.Ordering.{Ordering}
use Rattle.std.specs.declared.cmp.Ordering.TheVariants.{Less, Equal, Greater}
use Rattle.std.specs.Ordering.{is_eq, match_ordering, ordering_reverse}
use Rattle.std.specs.Cmp.{IsTotalOrder, tied_itself}
use Rattle.std.proofs.lemmas.List.{append_assoc, append-nil, map-append}
use Rattle.std.proofs.lemmas.List.Elements.{filter-append}
use Rattle.std.proofs.lemmas.List.Sums.{fold-append}
use Rattle.pipe_columns.specs.Groups.{IsAscending, put_key, sorted_keys, values_of}
use Rattle.test_plain.specs.Running.{add_entry}
use Rattle.pipe_columns.proofs.AscendingFacts.{Below, below_trans, put-ascending}

module _ {K : Type 0} (order : K → K → Ordering) (o : IsTotalOrder order) (exact : (x y : K) → order x y ≡ Equal → x ≡ y) where
  -- no key is k
  abbrev Absent : K → List K → Type 0
  Absent k [] = ⊤
  Absent k (x ∷ xs) = (is_eq (order k x) ≡ false) × Absent k xs

  below-absent : (k : K) (xs : List K) → Below order k xs → Absent k xs
  below-absent k [] b = tt
  below-absent k (x ∷ xs) b = (rw b.0 refl, below-absent k xs b.1)

  -- what isn't among keys with one more is not among the keys, and is not the one
  absent-put : (q k : K) (ks : List K) → Absent q (put_key order k ks) → (is_eq (order q k) ≡ false) × Absent q ks
  absent-put q k [] h = (h.0, tt)
  absent-put q k (y ∷ ys) h = put_at (order k y) refl (absent-put q k ys) h where
    put_at : (r : Ordering) → order k y ≡ r → (Absent q (put_key order k ys) → (is_eq (order q k) ≡ false) × Absent q ys) → Absent q (match_ordering r (k ∷ y ∷ ys) (y ∷ ys) (y ∷ put_key order k ys)) → (is_eq (order q k) ≡ false) × Absent q (y ∷ ys)
    put_at Less e next h = (h.0, h.1)
    put_at Equal e next h = (rw (exact k y e) h.0, h)
    put_at Greater e next h = let rest = next h.1 in (rest.0, (h.0, rest.1))

  module _ {L : Type 0} where
    -- each key with its line
    abbrev lines : (K → L) → List K → List (K × L)
    lines f ks = map (λ k. (k, f k)) ks

    -- keys other than k have the same lines
    same_lines : (f g : K → L) (k : K) (ks : List K) → ((q : K) → is_eq (order k q) ≡ false → f q ≡ g q) → Absent k ks → lines f ks ≡ lines g ks
    same_lines f g k [] same a = refl
    same_lines f g k (x ∷ xs) same a = rw (same x a.0, same_lines f g k xs same a.1) refl

    module _ {V : Type 0} (first : V → L) (more : V → L → L) where
      -- the entry goes to the line of its key
      step : (f g : K → L) (k : K) (v : V)
          → ((q : K) → is_eq (order k q) ≡ false → f q ≡ g q) → ((q : K) → order k q ≡ Equal → more v (f q) ≡ g q)
          → (ks : List K) → IsAscending order ks → (Absent k ks → first v ≡ g k)
          → add_entry order first more (k, v) (lines f ks) ≡ lines g (put_key order k ks)
      step f g k v same here [] a new = rw (new tt) refl
      step f g k v same here (x ∷ xs) a new = put_at (order k x) refl (step f g k v same here xs a.1) where
        put_at : (r : Ordering) → order k x ≡ r → ((Absent k xs → first v ≡ g k) → add_entry order first more (k, v) (lines f xs) ≡ lines g (put_key order k xs))
            → match_ordering r ((k, first v) ∷ (x, f x) ∷ lines f xs) ((x, more v (f x)) ∷ lines f xs) ((x, f x) ∷ add_entry order first more (k, v) (lines f xs))
            ≡ lines g (match_ordering r (k ∷ x ∷ xs) (x ∷ xs) (x ∷ put_key order k xs))
        put_at Less e next =
            let below = below_trans order o k x xs e a.0 in
            let absent : Absent k (x ∷ xs) = below-absent k (x ∷ xs) (e, below) in
            rw (new absent, same x absent.0, same_lines f g k xs same absent.1) refl
        put_at Equal e next =
            let absent : Absent k xs = rw (exact k x e) (below-absent x xs a.0) in
            rw (here x e, same_lines f g k xs same absent) refl
        put_at Greater e next =
            let other : is_eq (order k x) ≡ false = rw e refl in
            rw (same x other, next (λ h. new (other, h))) refl

  reversed : (r : Ordering) → is_eq r ≡ false → is_eq (ordering_reverse r) ≡ false
  reversed Less e = refl
  reversed Equal e = e
  reversed Greater e = refl

  other_way : (q k : K) → is_eq (order q k) ≡ false → is_eq (order k q) ≡ false
  other_way q k e = rw (o.antisymm k q) (reversed (order q k) e)

  module _ {V : Type 0} where
    -- the distinct keys of entries, ascending
    abbrev pub keys_of : List (K × V) → List K
    keys_of entries = sorted_keys order (map (λ e. e.0) entries)

    keys_more : (entries : List (K × V)) (r : K × V) → keys_of (entries ++ (r ∷ [])) ≡ put_key order r.0 (keys_of entries)
    keys_more entries r = rw map-append (fold-append (λ (keys : List K) (k : K). put_key order k keys) [] (map (λ (e : K × V). e.0) entries) (r.0 ∷ []))

    last_value : (q : K) (r : K × V) (b : Bool) → is_eq (order r.0 q) ≡ b → values_of order q (r ∷ []) ≡ (if b then r.1 ∷ [] else [])
    last_value q r true e = rw e refl
    last_value q r false e = rw e refl

    values_more : (q : K) (entries : List (K × V)) (r : K × V) (b : Bool) → is_eq (order r.0 q) ≡ b → values_of order q (entries ++ (r ∷ [])) ≡ values_of order q entries ++ (if b then r.1 ∷ [] else [])
    values_more q entries r b e = rw (filter-append, map-append) (ap (λ (t : List V). values_of order q entries ++ t) (last_value q r b e))

    -- what holds of the keys of all entries: they ascend, and a key that isn't there has no value
    pub record Keyed (entries : List (K × V)) : Type 0 where
      pub ascending : IsAscending order (keys_of entries)
      pub covers : (q : K) → Absent q (keys_of entries) → values_of order q entries ≡ []

    pub keyed_none : Keyed []
    keyed_none = record { ascending = tt; covers = λ q a. refl }

    pub keyed_more : (entries : List (K × V)) (r : K × V) → Keyed entries → Keyed (entries ++ (r ∷ []))
    keyed_more entries r h = record {
      ascending = rw (keys_more entries r) (put-ascending order o r.0 (keys_of entries) h.ascending);
      covers = λ q a.
          let p = absent-put q r.0 (keys_of entries) (rw (keys_more entries r) at a) in
          values_more q entries r false (other_way q r.0 p.0) ∙ rw (h.covers q p.1) refl;
    }

    module _ {L : Type 0} (first : V → L) (more : V → L → L) (agg : List V → L) (one : (v : V) → first v ≡ agg (v ∷ [])) (snoc : (v : V) (vs : List V) → more v (agg vs) ≡ agg (vs ++ (v ∷ []))) where
      -- each key with the aggregate of its values
      abbrev pub groups_of : List (K × V) → List (K × L)
      groups_of entries = lines (λ k. agg (values_of order k entries)) (keys_of entries)

      -- one more entry in the table is one more in the groups
      pub groups_more : (entries : List (K × V)) (r : K × V) → Keyed entries → add_entry order first more r (groups_of entries) ≡ groups_of (entries ++ (r ∷ []))
      groups_more entries r h =
          let all = entries ++ (r ∷ []) in
          let same : (q : K) → is_eq (order r.0 q) ≡ false → agg (values_of order q entries) ≡ agg (values_of order q all) = λ q e. ap agg (sym (values_more q entries r false e ∙ append-nil _)) in
          let here : (q : K) → order r.0 q ≡ Equal → more r.1 (agg (values_of order q entries)) ≡ agg (values_of order q all) = λ q e. snoc r.1 (values_of order q entries) ∙ ap agg (sym (values_more q entries r true (rw e refl))) in
          let new : Absent r.0 (keys_of entries) → first r.1 ≡ agg (values_of order r.0 all) = λ a.
          one r.1 ∙ ap agg (sym (values_more r.0 entries r true (rw (tied_itself o r.0) refl) ∙ rw (h.covers r.0 a) refl)) in
          rw (keys_more entries r) (step first more (λ (k : K). agg (values_of order k entries)) (λ (k : K). agg (values_of order k all)) r.0 r.1 same here (keys_of entries) h.ascending new)

      module _ {R : Type 0} (entry : R → K × V) where
        -- a table to which entries are added one by one is their groups
        pub groups_all : (done left : List R) → Keyed (map entry done) → fold (λ (t : List (K × L)) (r : R). add_entry order first more (entry r) t) (groups_of (map entry done)) left ≡ groups_of (map entry (done ++ left))
        groups_all done [] h = ap (λ (rs : List R). groups_of (map entry rs)) (sym (append-nil done))
        groups_all done (r ∷ rs) h =
            let one_more : add_entry order first more (entry r) (groups_of (map entry done)) ≡ groups_of (map entry (done ++ (r ∷ []))) =
            groups_more (map entry done) (entry r) h ∙ ap groups_of (sym (map-append entry done (r ∷ []))) in
            let keyed : Keyed (map entry (done ++ (r ∷ []))) = rw map-append (keyed_more (map entry done) (entry r) h) in
            rw one_more (groups_all (done ++ (r ∷ [])) rs keyed ∙ ap (λ (all : List R). groups_of (map entry all)) (append_assoc done (r ∷ []) rs))

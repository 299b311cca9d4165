-- Which rows are kept and which are sent, with one row more.
use Rattle.std.proofs.Common.{◌≡◌, ◌∙◌, ◌+◌, ◌==◌, ◌&&◌, ◌||◌, ℕ, Bool, true, false, not, List, [], ◌∷◌, ◌++◌, length, map, filter, take, refl, ap, sym, arith, suc, zero, ⊎_elim}
use Rattle.std.specs.Prelude.{if◌then◌else◌, nat_le, nat_lt}
use Rattle.std.specs.List.{list_any}
use Rattle.std.specs.Set.{is_member}
use Rattle.std.proofs.lemmas.Bool.{cases_Bool, false≢true}
use Rattle.std.proofs.lemmas.Bool.Decides.{nat_tests}
use Rattle.std.proofs.lemmas.List.{map-append}
use Rattle.std.proofs.lemmas.List.Elements.{filter-append}
use Rattle.std.proofs.lemmas.List.Folds.{list_any-append}
use Rattle.pipe_columns.specs.declared.any_value.AnyValue.{AnyValue}
use Rattle.pipe_columns.specs.declared.data_type.DataType.{DataType}
use Rattle.pipe_columns.specs.Key.{partition}
use Rattle.pipe_columns.specs.Row.{Row}
use Rattle.pipe_model.specs.Rows.{keys_of}
use Rattle.pipe_plan.specs.declared.limits.Limits.{Limits}
use Rattle.pipe_plan.specs.Kept.{distinct, first_distinct, kept_keys, same_key}
use Rattle.pipe_plan.specs.Run.{is_generic}
use Rattle.pipe_plan.proofs.Filtering.{filter-within}
use Rattle.pipe_plan.proofs.Keeping.{held-row, is_member-distinct}
use Rattle.pipe_plan.proofs.Longer.{kept-decided, keys-has, keys_exact}
use Rattle.pipe_spill.specs.SpillRow.{spilled}
use Rattle.pipe_spill.specs.declared.spill_row.SpillRow.{SpillRow}
use Rattle.pipe_tables.specs.After.{goes_to, is_kept_of, kept_of, spilled_to}

-- a list of one element, or of none
abbrev pub one_if : {A : Type 0} → Bool → A → List A
one_if b x = if b then x ∷ [] else []

-- ---- one element more

-- a filter that tells the elements before apart as another did
pub filter-more : {A : Type 0} (test now : A → Bool) (xs : List A) (x : A) → ((front back : List A) (y : A) → xs ≡ front ++ y ∷ back → now y ≡ test y)
    → filter now (xs ++ x ∷ []) ≡ filter test xs ++ one_if (now x) x
filter-more test now xs x same = filter-append now xs (x ∷ []) ∙ ap (λ l. l ++ one_if (now x) x) (filter-within now test xs same)

-- and so a test of whether there is one
any-within : {A : Type 0} (test now : A → Bool) (xs : List A) → ((front back : List A) (y : A) → xs ≡ front ++ y ∷ back → now y ≡ test y) → list_any now xs ≡ list_any test xs
any-within test now [] same = refl
any-within test now (y ∷ xs) same =
    ap (λ b. b || list_any now xs) (same [] xs y refl) ∙ ap (λ b. test y || b) (any-within test now xs (λ front back z is. same (y ∷ front) back z (ap (λ l. y ∷ l) is)))

pub any-more : {A : Type 0} (test now : A → Bool) (xs : List A) (x : A) → ((front back : List A) (y : A) → xs ≡ front ++ y ∷ back → now y ≡ test y)
    → list_any now (xs ++ x ∷ []) ≡ (list_any test xs || now x)
any-more test now xs x same =
    list_any-append now xs (x ∷ []) ∙ ap (λ b. b || (now x || false)) (any-within test now xs same) ∙ ap (λ b. list_any test xs || b) (or-false (now x))
  where
    or-false : (b : Bool) → (b || false) ≡ b
    or-false true = refl
    or-false false = refl

-- ---- one row more

-- the keys that are kept are the first distinct ones
pub kept-first : (l : Limits) (rows : List Row) → is_generic l.sink ≡ true → kept_keys l rows ≡ first_distinct same_key (l.spill_size + 1) (keys_of rows)
kept-first l rows generic = ap (λ b. if b then first_distinct same_key (l.spill_size + 1) (keys_of rows) else distinct same_key (keys_of rows)) generic

-- whether a row is kept as it comes: its key is, or there is room
abbrev pub stays : Limits → List Row → Row → Bool
stays l taken x = is_member same_key (kept_keys l taken) x.key || nat_le (length (kept_keys l taken)) l.spill_size

module _ (l : Limits) (taken : List Row) (x : Row) where
  -- a row that came is kept as before
  pub kept-before : (front back : List Row) (y : Row) → taken ≡ front ++ y ∷ back → is_kept_of l (taken ++ x ∷ []) y ≡ is_kept_of l taken y
  kept-before front back y is = kept-decided l taken (x ∷ []) y.key (ap (λ (rows : List Row). is_member same_key (keys_of rows) y.key) is ∙ keys-has front back y)

  -- the one that comes is kept if it stays
  pub kept-now : is_generic l.sink ≡ true → is_kept_of l (taken ++ x ∷ []) x ≡ stays l taken x
  kept-now generic =
      let n = l.spill_size + 1 in
      ap (λ (ks : List (List AnyValue)). is_member same_key ks x.key) (kept-first l (taken ++ x ∷ []) generic ∙ ap (λ (ks : List (List AnyValue)). first_distinct same_key n ks) (map-append (λ (y : Row). y.key) taken (x ∷ [])))
      ∙ held-row same_key keys_exact n (keys_of taken) [] x.key
      ∙ ap (λ (ks : List (List AnyValue)). is_member same_key ks x.key || nat_lt (length ks) n) (sym (kept-first l taken generic))
      ∙ ap (λ b. is_member same_key (kept_keys l taken) x.key || b) (at_most (length (kept_keys l taken)) l.spill_size)
    where
      at_most : (a b : ℕ) → nat_lt a (b + 1) ≡ nat_le a b
      at_most a b = grind (arith, nat_tests)

  module _ (generic : is_generic l.sink ≡ true) where
    -- the rows that are kept
    pub kept_of-more : kept_of l (taken ++ x ∷ []) ≡ kept_of l taken ++ one_if (stays l taken x) x
    kept_of-more =
        filter-more (is_kept_of l taken) (is_kept_of l (taken ++ x ∷ [])) taken x kept-before
        ∙ ap (λ b. kept_of l taken ++ one_if b x) (kept-now generic)

    -- what is sent to a partition
    pub spilled_to-more : (types : List DataType) (p : ℕ) → spilled_to l types p (taken ++ x ∷ [])
        ≡ spilled_to l types p taken ++ one_if ((partition l.partitions types x.key == p) && not (stays l taken x)) (spilled types x)
    spilled_to-more types p =
        let own = (partition l.partitions types x.key == p) && not (stays l taken x) in
        ap (λ (rows : List Row). map (spilled types) rows)
        (filter-more (goes_to l types taken p) (goes_to l types (taken ++ x ∷ []) p) taken x (λ front back y is. ap (λ b. (partition l.partitions types y.key == p) && not b) (kept-before front back y is))
        ∙ ap (λ b. filter (goes_to l types taken p) taken ++ one_if ((partition l.partitions types x.key == p) && not b) x) (kept-now generic))
        ∙ map-append (spilled types) (filter (goes_to l types taken p) taken) (one_if own x)
        ∙ ap (λ (rows : List SpillRow). spilled_to l types p taken ++ rows) (map-one own)
      where
        map-one : (b : Bool) → map (spilled types) (one_if b x) ≡ one_if b (spilled types x)
        map-one true = refl
        map-one false = refl

    -- whether some row was sent
    pub sent-more : list_any (λ y. not (is_kept_of l (taken ++ x ∷ []) y)) (taken ++ x ∷ []) ≡ (list_any (λ y. not (is_kept_of l taken y)) taken || not (stays l taken x))
    sent-more =
        any-more (λ y. not (is_kept_of l taken y)) (λ y. not (is_kept_of l (taken ++ x ∷ []) y)) taken x (λ front back y is. ap not (kept-before front back y is))
        ∙ ap (λ b. list_any (λ y. not (is_kept_of l taken y)) taken || not b) (kept-now generic)

-- ---- the keys of the rows that are kept

-- a key that is kept is one of the rows'
kept-came : (l : Limits) (rows : List Row) (q : List AnyValue) → is_generic l.sink ≡ true → is_member same_key (kept_keys l rows) q ≡ true → is_member same_key (keys_of rows) q ≡ true
kept-came l rows q generic is =
    sym (is_member-distinct same_key keys_exact (keys_of rows) q)
    ∙ member-take (l.spill_size + 1) (distinct same_key (keys_of rows)) q (sym (ap (λ (ks : List (List AnyValue)). is_member same_key ks q) (kept-first l rows generic)) ∙ is)
  where
    member-take : (n : ℕ) (ks : List (List AnyValue)) (q : List AnyValue) → is_member same_key (take n ks) q ≡ true → is_member same_key ks q ≡ true
    member-take zero ks q is = absurd (false≢true is)
    member-take (suc n) [] q is = absurd (false≢true is)
    member-take (suc n) (k ∷ ks) q is = ⊎_elim
        (λ yes. ap (λ b. b || is_member same_key ks q) yes)
        (λ no. ap (λ b. b || is_member same_key ks q) no ∙ member-take n ks q (sym (ap (λ b. b || is_member same_key (take n ks) q) no) ∙ is))
        (cases_Bool (same_key q k))

-- the rows of certain keys have those of them that the rows have
keys-filter : (ks : List (List AnyValue)) (rows : List Row) (q : List AnyValue)
    → is_member same_key (keys_of (filter (λ y. is_member same_key ks y.key) rows)) q ≡ (is_member same_key ks q && is_member same_key (keys_of rows) q)
keys-filter ks [] q = and-false (is_member same_key ks q)
  where
    and-false : (b : Bool) → false ≡ (b && false)
    and-false true = refl
    and-false false = refl
keys-filter ks (y ∷ rows) q = by (is_member same_key ks y.key) (same_key q y.key) refl refl (keys-filter ks rows q)
  where
    kept : List Row
    kept = filter (λ y. is_member same_key ks y.key) rows

    own : (among : Bool) → is_member same_key ks y.key ≡ among → same_key q y.key ≡ true → is_member same_key ks q ≡ among
    own among a s = ap (λ (k : List AnyValue). is_member same_key ks k) (keys_exact.apart q y.key s) ∙ a

    by : (among same : Bool) → is_member same_key ks y.key ≡ among → same_key q y.key ≡ same
        → is_member same_key (keys_of kept) q ≡ (is_member same_key ks q && is_member same_key (keys_of rows) q)
        → is_member same_key (keys_of (if among then y ∷ kept else kept)) q ≡ (is_member same_key ks q && (same || is_member same_key (keys_of rows) q))
    by true true a s rest = ap (λ b. b || is_member same_key (keys_of kept) q) s ∙ sym (ap (λ b. b && true) (own true a s))
    by true false a s rest = ap (λ b. b || is_member same_key (keys_of kept) q) s ∙ rest
    by false true a s rest = rest ∙ ap (λ b. b && is_member same_key (keys_of rows) q) (own false a s) ∙ sym (ap (λ b. b && true) (own false a s))
    by false false a s rest = rest

-- so the keys of the rows that are kept are the keys that are kept
pub kept_of-keys : (l : Limits) (rows : List Row) (q : List AnyValue) → is_generic l.sink ≡ true → is_member same_key (keys_of (kept_of l rows)) q ≡ is_member same_key (kept_keys l rows) q
kept_of-keys l rows q generic = keys-filter (kept_keys l rows) rows q ∙ by (is_member same_key (kept_keys l rows) q) refl
  where
    by : (b : Bool) → is_member same_key (kept_keys l rows) q ≡ b → (b && is_member same_key (keys_of rows) q) ≡ b
    by true is = kept-came l rows q generic is
    by false is = refl

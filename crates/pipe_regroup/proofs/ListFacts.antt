-- Steps along lists: kept values, joined results, codes of kept values.
use Rattle.std.proofs.Common.{◌≡◌, ◌∙◌, ℕ, zero, suc, ◌+◌, ◌<◌, ◌≤◌, append-nil, drop_of_length-le, Bool, List, [], ◌∷◌, ◌++◌, length, map, true, take, drop, get_or, set, length-drop, length-set, length-take-le, append_assoc, refl, sym, ap, subst, arith}
use Rattle.std.proofs.lemmas.List.{drop_more, drop-set-lt, map-append, take_more, take_more_set}
use Rattle.pipe_columns.specs.declared.any_value.AnyValue.{AnyValue}
use Rattle.pipe_columns.specs.declared.data_type.DataType.{DataType}
use Rattle.pipe_columns.specs.AnyValue.{fits}
use Rattle.pipe_columns.specs.Frame.{value_at}
use Rattle.pipe_columns.specs.Key.{code, value_code}
use Rattle.pipe_spill.specs.KeyTypes.{AreOfTypes}
use Rattle.pipe_states.specs.Regrouped.{kept}
use Rattle.pipe_regroup.specs.declared.rule.Rule.{Rule}
use Rattle.pipe_regroup.specs.Rules.{joined, joined_from}

-- a value of a list, where it is there
pub value-get : (xs : List AnyValue) (i : ℕ) (v : AnyValue) → i < length xs → v ≡ get_or xs i v → value_at xs i ≡ v
value-get [] i v lt e = absurd (omega (arith, lt))
value-get (x ∷ xs) zero v lt e = sym e
value-get (x ∷ xs) (suc i) v lt e = value-get xs i v (omega (arith, lt)) e

-- one more value that is kept
pub kept-more : (keep : List ℕ) (key : List AnyValue) (i d : ℕ) (v : AnyValue) → i < length keep → get_or keep i d < length key → v ≡ get_or key (get_or keep i d) v
    → kept (take i keep) key ++ v ∷ [] ≡ kept (take (i + 1) keep) key
kept-more keep key i d v lt within e =
    ap (λ (w : AnyValue). kept (take i keep) key ++ w ∷ []) (sym (value-get key (get_or keep i d) v within e))
    ∙ sym (map-append (value_at key) (take i keep) (get_or keep i d ∷ []))
    ∙ sym (ap (map (value_at key)) (take_more keep i d lt))

-- ---- results

from_zero : (n : ℕ) → 0 + n ≡ n
from_zero n = omega arith

module _ (earlier later : Bool) (more held : List AnyValue) where
  joined-push : (i : ℕ) (xs : List Rule) (k : Rule) → joined_from earlier later i (xs ++ k ∷ []) more held
      ≡ joined_from earlier later i xs more held ++ joined k earlier later (value_at held (i + length xs)) (value_at more (i + length xs)) ∷ []
  joined-push i [] k = ap (λ (n : ℕ). joined k earlier later (value_at held n) (value_at more n) ∷ []) {x = i} {y = i + 0} (omega arith)
  joined-push i (x ∷ xs) k =
      ap (λ (l : List AnyValue). joined x earlier later (value_at held i) (value_at more i) ∷ l)
      (joined-push (i + 1) xs k
      ∙ ap (λ (n : ℕ). joined_from earlier later (i + 1) xs more held ++ joined k earlier later (value_at held n) (value_at more n) ∷ []) {x = i + 1 + length xs} {y = i + length (x ∷ xs)} (omega arith))

  pub joined-more : (rules : List Rule) (j : ℕ) (d : Rule) → j < length rules
      → joined_from earlier later 0 (take j rules) more held ++ joined (get_or rules j d) earlier later (value_at held j) (value_at more j) ∷ [] ≡ joined_from earlier later 0 (take (j + 1) rules) more held
  joined-more rules j d lt =
      let k : Rule = get_or rules j d in
      let long : 0 + length (take j rules) ≡ j = from_zero (length (take j rules)) ∙ length-take-le j rules (omega (arith, lt)) in
      ap (λ (n : ℕ). joined_from earlier later 0 (take j rules) more held ++ joined k earlier later (value_at held n) (value_at more n) ∷ []) (sym long)
      ∙ sym (joined-push 0 (take j rules) k)
      ∙ ap (λ (l : List Rule). joined_from earlier later 0 l more held) (sym (take_more rules j d lt))

-- one more result is joined
pub record IsJoinedTo (earlier later : Bool) (rules : List Rule) (more old now : List AnyValue) (j : ℕ) : Type 0 where
  pub long : length now ≡ length rules
  pub joined : take j now ≡ joined_from earlier later 0 (take j rules) more old
  pub left : drop j now ≡ drop j old

pub joined-step : (earlier later : Bool) (rules : List Rule) (more old now : List AnyValue) (j : ℕ) (d : Rule) (v w u : AnyValue) → length old ≡ length rules → length more ≡ length rules → j < length rules
    → IsJoinedTo earlier later rules more old now j → v ≡ get_or now j v → w ≡ get_or more j w → u ≡ joined (get_or rules j d) earlier later v w
    → IsJoinedTo earlier later rules more old (set now j u) (j + 1)
joined-step earlier later rules more old now j d v w u lo lm lt are iv iw iu =
    let k : Rule = get_or rules j d in
    let ln = are.long in
    let here : get_or now j v ∷ drop (j + 1) now ≡ get_or old j v ∷ drop (j + 1) old = sym (drop_more now j v (omega (arith, ln, lt))) ∙ are.left ∙ drop_more old j v (omega (arith, lo, lt)) in
    let was : v ≡ get_or old j v = cc (here, iv) in
    let value : value_at old j ≡ v = value-get old j v (omega (arith, lo, lt)) was in
    let other : value_at more j ≡ w = value-get more j w (omega (arith, lm, lt)) iw in
    record {
      long = length-set now j u ∙ ln;
      joined = take_more_set now j u (omega (arith, ln, lt))
          ∙ (λ i. are.joined i ++ (iu ∙ (λ n. joined k earlier later (sym value n) (sym other n))) i ∷ [])
          ∙ joined-more earlier later more old rules j d lt;
      left = drop-set-lt (j + 1) now j u (omega arith) ∙ (cc here);
    }

-- ---- codes

-- what is written, with the codes of the values left, is a code
pub record IsWrittenTo (types : List DataType) (keep : List ℕ) (key : List AnyValue) (bytes all : List ℕ) (j : ℕ) : Type 0 where
  pub typed : AreOfTypes (drop j types) (kept (drop j keep) key)
  pub written : bytes ++ code (drop j types) (kept (drop j keep) key) ≡ all

type-there : (types : List DataType) (values : List AnyValue) (v : AnyValue) → AreOfTypes types (v ∷ values) → 0 < length types
type-there [] values v h = absurd h
type-there (t ∷ types) values v h = omega arith

drop-there : {X : Type 0} (xs : List X) (j : ℕ) → 0 < length (drop j xs) → j < length xs
drop-there xs j some = let long = length-drop j xs in omega (arith, some, long)

-- the value that is left first
pub left-first : (types : List DataType) (keep : List ℕ) (key : List AnyValue) (j d : ℕ) (v : AnyValue) → j < length keep → get_or keep j d < length key → v ≡ get_or key (get_or keep j d) v
    → kept (drop j keep) key ≡ v ∷ kept (drop (j + 1) keep) key
left-first types keep key j d v lt within e =
    ap (map (value_at key)) (drop_more keep j d lt)
    ∙ ap (λ (w : AnyValue). w ∷ kept (drop (j + 1) keep) key) (value-get key (get_or keep j d) v within e)

pub type-left : (types : List DataType) (keep : List ℕ) (key : List AnyValue) (bytes all : List ℕ) (j d : ℕ) (v : AnyValue) → j < length keep → get_or keep j d < length key → v ≡ get_or key (get_or keep j d) v
    → IsWrittenTo types keep key bytes all j → j < length types
type-left types keep key bytes all j d v lt within e w =
    drop-there types j (type-there (drop j types) (kept (drop (j + 1) keep) key) v (subst (AreOfTypes (drop j types)) (left-first types keep key j d v lt within e) w.typed))

-- it fits its type
pub fits-left : (types : List DataType) (keep : List ℕ) (key : List AnyValue) (bytes all : List ℕ) (j d : ℕ) (v : AnyValue) (t : DataType) → j < length keep → get_or keep j d < length key
    → v ≡ get_or key (get_or keep j d) v → j < length types → IsWrittenTo types keep key bytes all j
    → (fits v (get_or types j t) ≡ true) × AreOfTypes (drop (j + 1) types) (kept (drop (j + 1) keep) key)
fits-left types keep key bytes all j d v t lt within e there w =
    let h : AreOfTypes (get_or types j t ∷ drop (j + 1) types) (v ∷ kept (drop (j + 1) keep) key) =
    subst (λ (ts : List DataType). AreOfTypes ts (v ∷ kept (drop (j + 1) keep) key)) (drop_more types j t there) (subst (AreOfTypes (drop j types)) (left-first types keep key j d v lt within e) w.typed) in
    (h.0, h.1)

-- and is written
pub written-more : (types : List DataType) (keep : List ℕ) (key : List AnyValue) (bytes new all : List ℕ) (j d : ℕ) (v : AnyValue) (t : DataType) → j < length keep → get_or keep j d < length key
    → v ≡ get_or key (get_or keep j d) v → j < length types → IsWrittenTo types keep key bytes all j → new ≡ bytes ++ value_code (get_or types j t) v
    → IsWrittenTo types keep key new all (j + 1)
written-more types keep key bytes new all j d v t lt within e there w wrote =
    let both : code (drop j types) (kept (drop j keep) key) ≡ value_code (get_or types j t) v ++ code (drop (j + 1) types) (kept (drop (j + 1) keep) key) =
    (λ i. code (drop_more types j t there i) (left-first types keep key j d v lt within e i)) in
    record {
      typed = (fits-left types keep key bytes all j d v t lt within e there w).1;
      written = ap (λ (l : List ℕ). l ++ code (drop (j + 1) types) (kept (drop (j + 1) keep) key)) wrote
          ∙ append_assoc bytes (value_code (get_or types j t) v) (code (drop (j + 1) types) (kept (drop (j + 1) keep) key))
          ∙ ap (λ (l : List ℕ). bytes ++ l) (sym both) ∙ w.written;
    }

-- behind the last value all is written
pub all-written : (types : List DataType) (keep : List ℕ) (key : List AnyValue) (bytes all : List ℕ) (j : ℕ) → length keep ≤ j → IsWrittenTo types keep key bytes all j → bytes ≡ all
all-written types keep key bytes all j past w = by (drop j types) (subst (λ (l : List ℕ). AreOfTypes (drop j types) (kept l key)) none w.typed) refl where
  none : drop j keep ≡ []
  none = drop_of_length-le keep past

  by : (ts : List DataType) → AreOfTypes ts [] → drop j types ≡ ts → bytes ≡ all
  by [] h e = sym (append-nil bytes) ∙ (λ i. bytes ++ code (sym e i) (kept (sym none i) key)) ∙ w.written
  by (t ∷ ts) h e = absurd h

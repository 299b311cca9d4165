-- What is written of columns is read as these columns.
use Rattle.std.proofs.Common.{◌≡◌, ◌≢◌, ◌∙◌, ◌++◌, ◌||◌, ◌&&◌, ◌+◌, ◌-◌, ◌<◌, ◌==◌, ℕ, zero, suc, Bool, true, false, not, cond, List, [], ◌∷◌, map, length, take, drop, get_or, bytes_eq, Some, None, option_map, is_some, Ok, Err, codes, refl, sym, ap, arith, true≢false, eq-eqb, ⊎_elim}
use Rattle.std.specs.Prelude.{unwrap_or, option_and_then}
use Rattle.std.specs.List.{AllByRecursion, list_any}
use Rattle.std.specs.Path.{rfind_below, rsplit_once}
use Rattle.std.proofs.Math.Seq.{drop-append-add, take-append_seam}
use Rattle.std.proofs.lemmas.Bool.{and_from, cases_eq, cond-false, cond-true, or_from, or_parts}
use Rattle.std.proofs.lemmas.List.{append_assoc, get_or-append-add, get_or_at, length-append}
use Rattle.std.proofs.lemmas.Slice.Eq.{bytes_eq-Decides}
use Rattle.pipe_columns.specs.declared.data_type.DataType.{DataType}
use Rattle.pipe_columns.specs.declared.data_type.DataType.TheVariants as dt
use Rattle.pipe_columns.specs.DataType.{is_input, same_type}
use Rattle.lavzimo_words.specs.Items.{item_as, item_of, items_of, titled, titled_by, type_named, typed, typed_as, typed_by, with_names, written_item}
use Rattle.lavzimo_words.specs.Results.{each_ok, ok_as, on_ok}
use Rattle.lavzimo_words.specs.Roles.{is_of_numbers, is_rows, option_of, suits}
use Rattle.lavzimo_words.specs.Shown.{column_type, first_double, has_numbers, is_as_said, said_item, said_type, shown_all, shown_as, shown_of, told_apart, unless_double, usual_type}
use Rattle.lavzimo_words.specs.WordsOf.{CanBeListed, has, piece_of, type_text}
use Rattle.lavzimo_words.specs.declared.asked_column.AskedColumn.{AskedColumn}
use Rattle.lavzimo_words.specs.declared.item.Item.{Item}
use Rattle.lavzimo_words.specs.declared.refusal.Refusal.TheVariants as refusal
use Rattle.lavzimo_words.specs.declared.role.Role.{Role}
use Rattle.lavzimo_words.specs.declared.role.Role.TheVariants as role

-- ---- a text that is cut at its last letter of a kind

lacks-at : (b : ℕ) (text : List ℕ) (i : ℕ) → has b text ≡ false → i < length text → (get_or text i 0 == b) ≡ false
lacks-at b [] i h l = absurd (omega (arith, l))
lacks-at b (x ∷ text) zero h l = (or_parts (x == b) (has b text) h).0
lacks-at b (x ∷ text) (suc i) h l = lacks-at b text i (or_parts (x == b) (has b text) h).1 (omega (arith, l))

below-at : (b : ℕ) (text : List ℕ) (k n : ℕ) → k < n → (get_or text k 0 == b) ≡ true → ((i : ℕ) → k < i → i < n → (get_or text i 0 == b) ≡ false) → rfind_below b text n ≡ Some k
below-at b text k zero l at h = absurd (omega (arith, l))
below-at b text k (suc n) l at h =
    ⊎_elim
    (λ e. cond-true (get_or text n 0 == b) (Some n) (rfind_below b text n) (ap (λ i. get_or text i 0 == b) (sym e) ∙ at) ∙ ap (λ j. Some j) (sym e))
    (λ other. cond-false (get_or text n 0 == b) (Some n) (rfind_below b text n) (h n (omega arith) (omega arith)) ∙ below-at b text k n (omega arith) at (λ i a c. h i a (omega arith)))
    (cases_eq k n)

-- the last of a letter stands between a front and what doesn't have it
cut-at : (b : ℕ) (front name : List ℕ) → has b name ≡ false → rsplit_once b (front ++ b ∷ name) ≡ Some (front, name)
unfolding rsplit_once
cut-at b front name lacks =
    let text : List ℕ = front ++ b ∷ name in
    let size : length text ≡ length front + suc (length name) = length-append front (b ∷ name) in
    let place : rfind_below b text (length text) ≡ Some (length front) =
    below-at b text (length front) (length text) (omega (arith, size)) (eq-eqb (get_or text (length front) 0) b (get_or_at front b name 0 (length front) refl))
    (λ i a c. let j : ℕ = i - length front - 1 in
    let is : length front + suc j ≡ i = omega (arith, a) in
    ap (λ n. get_or text n 0 == b) (sym is) ∙ ap (λ x. x == b) (get_or-append-add front (b ∷ name) (suc j) 0) ∙ lacks-at b name j lacks (omega (arith, a, c, size))) in
    ap (option_map (λ i. (take i text, drop (i + 1) text))) place
    ∙ (λ t. Some (take-append_seam front (b ∷ name) t, drop-append-add front (b ∷ name) 1 t))

-- ---- a column's piece

type-lacks : (t : DataType) → has 58 (type_text t) ≡ false
type-lacks dt.Boolean = refl
type-lacks dt.Int8 = refl
type-lacks dt.Int16 = refl
type-lacks dt.Int32 = refl
type-lacks dt.Int64 = refl
type-lacks dt.UInt8 = refl
type-lacks dt.UInt16 = refl
type-lacks dt.UInt32 = refl
type-lacks dt.UInt64 = refl
type-lacks dt.Int128 = refl
type-lacks dt.Date = refl
type-lacks dt.String = refl

type-read : (t : DataType) → is_input t ≡ true → type_named (type_text t) ≡ Some t
type-read dt.Boolean h = refl
type-read dt.Int8 h = refl
type-read dt.Int16 h = refl
type-read dt.Int32 h = refl
type-read dt.Int64 h = refl
type-read dt.UInt8 h = refl
type-read dt.UInt16 h = refl
type-read dt.UInt32 h = refl
type-read dt.UInt64 h = refl
type-read dt.Int128 h = absurd (true≢false (sym h))
type-read dt.Date h = refl
type-read dt.String h = refl

-- the item that a column's piece is read as
abbrev pub item_for : AskedColumn → Item
item_for c = record { role = c.role; column = c.column; said = cond (is_rows c.role) None (Some c.dtype); name = c.name }

-- what a role has of a column in its list: nothing where rows are counted
abbrev pub piece_in : AskedColumn → Role × List ℕ
piece_in c = (c.role, cond (is_rows c.role) [] (piece_of c))

piece-titled : (c : AskedColumn) → CanBeListed c → titled (piece_of c) ≡ (c.column ++ codes ":" ++ type_text c.dtype, Some c.name)
piece-titled c h =
    let front : List ℕ = c.column ++ codes ":" ++ type_text c.dtype in
    ap (λ text. titled_by (piece_of c) (rsplit_once 61 text)) (append_assoc front (codes "=") c.name)
    ∙ ap (titled_by (piece_of c)) (cut-at 61 front c.name h.name_equals)

piece-typed : (c : AskedColumn) → is_input c.dtype ≡ true → typed (c.column ++ codes ":" ++ type_text c.dtype) ≡ (c.column, Some c.dtype)
piece-typed c read =
    let text : List ℕ = c.column ++ codes ":" ++ type_text c.dtype in
    ap (λ s. typed_by text (rsplit_once 58 s)) (append_assoc c.column (codes ":") (type_text c.dtype))
    ∙ ap (typed_by text) (cut-at 58 c.column (type_text c.dtype) (type-lacks c.dtype))
    ∙ ap (typed_as text c.column) (type-read c.dtype read)

some-length : {A : Type 0} (xs : List A) → length xs ≢ 0 → (length xs == 0) ≡ false
some-length [] h = absurd (h refl)
some-length (x ∷ xs) h = grind arith

piece-written : (c : AskedColumn) → CanBeListed c → is_input c.dtype ≡ true → written_item c.role (piece_of c) ≡ record { role = c.role; column = c.column; said = Some c.dtype; name = c.name }
piece-written c h read =
    ap (λ p. item_as c.role (typed p.0) p.1) (piece-titled c h) ∙ ap (λ p. item_as c.role p (Some c.name)) (piece-typed c read)

pub piece-item : (c : AskedColumn) → CanBeListed c → is_input c.dtype ≡ true → is_rows c.role ≡ false → item_of c.role (piece_of c) ≡ Ok (record { role = c.role; column = c.column; said = Some c.dtype; name = c.name })
piece-item c h read other =
    let i : Item = record { role = c.role; column = c.column; said = Some c.dtype; name = c.name } in
    let named : with_names (piece_of c) i ≡ Ok i = cond-false (length c.column == 0 || length c.name == 0) (Err (refusal.Nameless (option_of c.role) (piece_of c))) (Ok i) (or_from (length c.column == 0) (length c.name == 0) (some-length c.column h.column) (some-length c.name h.name)) in
    cond-false (is_rows c.role) (Ok (item_as c.role ([], None) None)) (with_names (piece_of c) (written_item c.role (piece_of c))) other
    ∙ ap (with_names (piece_of c)) (piece-written c h read) ∙ named

-- ---- lists of columns

-- columns that can be written: of each role that counts rows the usual one, and others that can be listed
pub record CanBeIn (types : List ℕ → DataType) (c : AskedColumn) : Type 0 where
  pub counted : is_rows c.role ≡ true → c ≡ record { role = c.role; column = []; dtype = dt.String; name = codes "count" }
  pub listed : is_rows c.role ≡ false → CanBeListed c
  pub typed : c.dtype ≡ types c.column
  pub read : is_input c.dtype ≡ true
  pub suited : suits c.role c.dtype ≡ true

rows-prefix : (r : Role) → is_rows r ≡ true → item_as r ([], None) None ≡ record { role = r; column = []; said = None; name = codes "count" }
rows-prefix role.Key h = absurd (true≢false (sym h))
rows-prefix role.Rows h = refl
rows-prefix role.Values h = absurd (true≢false (sym h))
rows-prefix role.Sum h = absurd (true≢false (sym h))
rows-prefix role.Mean h = absurd (true≢false (sym h))
rows-prefix role.Least h = absurd (true≢false (sym h))
rows-prefix role.Greatest h = absurd (true≢false (sym h))
rows-prefix role.First h = absurd (true≢false (sym h))
rows-prefix role.Last h = absurd (true≢false (sym h))

item-read : (types : List ℕ → DataType) (c : AskedColumn) → CanBeIn types c → (b : Bool) → is_rows c.role ≡ b → item_of c.role (cond b [] (piece_of c)) ≡ Ok (record { role = c.role; column = c.column; said = cond b None (Some c.dtype); name = c.name })
item-read types c h true e =
    let plain = sym (h.counted e) in
    cond-true (is_rows c.role) (Ok (item_as c.role ([], None) None)) (with_names [] (written_item c.role [])) e ∙ ap Ok (rows-prefix c.role e)
    ∙ (λ t. Ok (record { role = c.role; column = (plain t).column; said = None; name = (plain t).name }))
item-read types c h false e = piece-item c (h.listed e) h.read e

items-read : (types : List ℕ → DataType) (cs : List AskedColumn) → AllByRecursion (CanBeIn types) cs → items_of (map piece_in cs) ≡ Ok (map item_for cs)
items-read types [] h = refl
items-read types (c ∷ cs) h =
    ap (λ o. on_ok (λ y. ok_as (λ ys. y ∷ ys) (items_of (map piece_in cs))) o) (item-read types c h.0 (is_rows c.role) refl)
    ∙ ap (λ o. ok_as (λ ys. item_for c ∷ ys) o) (items-read types cs h.1)

-- ---- types

-- whether one of the columns but a number of rows has a name
abbrev has_column : List AskedColumn → List ℕ → Bool
has_column cs name = list_any (λ c. bytes_eq c.column name && not (is_rows c.role)) cs

said-some : (b : Bool) (t : DataType) → is_some (cond b None (Some t)) ≡ not b
said-some true t = refl
said-some false t = refl

-- the type that is said of a column that is there
said-there : (types : List ℕ → DataType) (cs : List AskedColumn) (name : List ℕ) → AllByRecursion (CanBeIn types) cs → has_column cs name ≡ true → said_type (map item_for cs) name ≡ Some (types name)
said-there types [] name h there = absurd (true≢false (sym there))
said-there types (c ∷ cs) name h there = by (bytes_eq c.column name) refl (is_rows c.role) refl (said-there types cs name h.1) there
  where
    by : (b : Bool) → bytes_eq c.column name ≡ b → (r : Bool) → is_rows c.role ≡ r → (has_column cs name ≡ true → said_type (map item_for cs) name ≡ Some (types name)) → ((b && not r) || has_column cs name) ≡ true
        → option_and_then (λ i. i.said) (cond (b && is_some (cond r None (Some c.dtype))) (Some (record { role = c.role; column = c.column; said = cond r None (Some c.dtype); name = c.name })) (said_item (map item_for cs) name)) ≡ Some (types name)
    by true e false k rest there = ap Some (h.0.typed ∙ ap types ((bytes_eq-Decides c.column name).0 e))
    by true e true k rest there = rest there
    by false e r k rest there = rest there

-- no type is said of a name that none has
said-nowhere : (cs : List AskedColumn) (name : List ℕ) → has_column cs name ≡ false → said_type (map item_for cs) name ≡ None
said-nowhere [] name none = refl
said-nowhere (c ∷ cs) name none =
    let both = or_parts (bytes_eq c.column name && not (is_rows c.role)) (has_column cs name) none in
    ap (option_and_then (λ i. i.said)) (cond-false (bytes_eq c.column name && is_some (cond (is_rows c.role) None (Some c.dtype))) (Some (item_for c)) (said_item (map item_for cs) name) (ap (λ b. bytes_eq c.column name && b) (said-some (is_rows c.role) c.dtype) ∙ both.0))
    ∙ said-nowhere cs name both.1

no-numbers : (r : Role) → is_rows r ≡ true → is_of_numbers r ≡ false
no-numbers role.Key h = absurd (true≢false (sym h))
no-numbers role.Rows h = refl
no-numbers role.Values h = absurd (true≢false (sym h))
no-numbers role.Sum h = absurd (true≢false (sym h))
no-numbers role.Mean h = absurd (true≢false (sym h))
no-numbers role.Least h = absurd (true≢false (sym h))
no-numbers role.Greatest h = absurd (true≢false (sym h))
no-numbers role.First h = absurd (true≢false (sym h))
no-numbers role.Last h = absurd (true≢false (sym h))

-- of none numbers are added or compared
numbers-nowhere : (cs : List AskedColumn) (name : List ℕ) → has_column cs name ≡ false → has_numbers (map item_for cs) name ≡ false
numbers-nowhere [] name none = refl
numbers-nowhere (c ∷ cs) name none =
    let both = or_parts (bytes_eq c.column name && not (is_rows c.role)) (has_column cs name) none in
    or_from (bytes_eq c.column name && is_of_numbers c.role) (has_numbers (map item_for cs) name) (by (bytes_eq c.column name) (is_rows c.role) refl both.0) (numbers-nowhere cs name both.1)
  where
    by : (b r : Bool) → is_rows c.role ≡ r → (b && not r) ≡ false → (b && is_of_numbers c.role) ≡ false
    by true true e h = no-numbers c.role e
    by true false e h = absurd (true≢false h)
    by false r e h = refl

-- none has an empty name
unnamed : (types : List ℕ → DataType) (cs : List AskedColumn) → AllByRecursion (CanBeIn types) cs → has_column cs [] ≡ false
unnamed types [] h = refl
unnamed types (c ∷ cs) h = or_from (bytes_eq c.column [] && not (is_rows c.role)) (has_column cs []) (by (is_rows c.role) refl) (unnamed types cs h.1)
  where
    nonempty : (name : List ℕ) → length name ≢ 0 → (bytes_eq name [] && true) ≡ false
    nonempty [] n = absurd (n refl)
    nonempty (x ∷ name) n = refl

    and-last : (b : Bool) → (b && false) ≡ false
    and-last true = refl
    and-last false = refl

    by : (r : Bool) → is_rows c.role ≡ r → (bytes_eq c.column [] && not r) ≡ false
    by true e = and-last (bytes_eq c.column [])
    by false e = nonempty c.column (h.0.listed e).column

-- each has the type of its name
type-of : (types : List ℕ → DataType) (cs : List AskedColumn) → AllByRecursion (CanBeIn types) cs → (c : AskedColumn) → CanBeIn types c → (b : Bool) → is_rows c.role ≡ b → (b ≡ false → has_column cs c.column ≡ true) → column_type (map item_for cs) c.column ≡ c.dtype
type-of types cs all c h false e there = ap (λ o. unwrap_or o (usual_type (map item_for cs) c.column)) (said-there types cs c.column all (there refl)) ∙ sym h.typed
type-of types cs all c h true e there =
    let plain = h.counted e in
    ap (λ d. column_type (map item_for cs) d.column) plain
    ∙ ap (λ o. unwrap_or o (usual_type (map item_for cs) [])) (said-nowhere cs [] (unnamed types cs all))
    ∙ cond-false (has_numbers (map item_for cs) []) dt.Int64 dt.String (numbers-nowhere cs [] (unnamed types cs all))
    ∙ ap (λ d. d.dtype) (sym plain)

same-self : (t : DataType) → same_type t t ≡ true
same-self dt.Boolean = refl
same-self dt.Int8 = refl
same-self dt.Int16 = refl
same-self dt.Int32 = refl
same-self dt.Int64 = refl
same-self dt.UInt8 = refl
same-self dt.UInt16 = refl
same-self dt.UInt32 = refl
same-self dt.UInt64 = refl
same-self dt.Int128 = refl
same-self dt.Date = refl
same-self dt.String = refl

as-said : (b : Bool) (t : DataType) → not (is_as_said (cond b None (Some t)) t) ≡ false
as-said true t = refl
as-said false t = ap not (same-self t)

-- an item is shown as its column
shown-one : (c : AskedColumn) → suits c.role c.dtype ≡ true → shown_as (item_for c) c.dtype ≡ Ok c
shown-one c suited =
    cond-false (not (is_as_said (cond (is_rows c.role) None (Some c.dtype)) c.dtype)) (Err (refusal.TwoTypes c.column)) _ (as-said (is_rows c.role) c.dtype)
    ∙ cond-false (not (suits c.role c.dtype)) (Err (refusal.Unsuited (option_of c.role) c.column c.dtype)) (Ok c) (ap not suited)

module _ (types : List ℕ → DataType) (all : List AskedColumn) (good : AllByRecursion (CanBeIn types) all) where
  shown-each : (cs : List AskedColumn) → AllByRecursion (CanBeIn types) cs → AllByRecursion (λ c. is_rows c.role ≡ false → has_column all c.column ≡ true) cs
      → each_ok (λ i. shown_as i (column_type (map item_for all) i.column)) (map item_for cs) ≡ Ok cs
  shown-each [] h there = refl
  shown-each (c ∷ cs) h there =
      let one : shown_as (item_for c) (column_type (map item_for all) c.column) ≡ Ok c = ap (shown_as (item_for c)) (type-of types all good c h.0 (is_rows c.role) refl there.0) ∙ shown-one c h.0.suited in
      ap (λ o. on_ok (λ y. ok_as (λ ys. y ∷ ys) (each_ok (λ i. shown_as i (column_type (map item_for all) i.column)) (map item_for cs))) o) one
      ∙ ap (λ o. ok_as (λ ys. c ∷ ys) o) (shown-each cs h.1 there.1)

or-after : (x y : Bool) → y ≡ true → (x || y) ≡ true
or-after true y h = refl
or-after false y h = h

or-before : (x y : Bool) → x ≡ true → (x || y) ≡ true
or-before true y h = refl
or-before false y h = absurd (true≢false (sym h))

there-behind : (d : AskedColumn) (all cs : List AskedColumn) → AllByRecursion (λ c. is_rows c.role ≡ false → has_column all c.column ≡ true) cs → AllByRecursion (λ c. is_rows c.role ≡ false → has_column (d ∷ all) c.column ≡ true) cs
there-behind d all [] h = tt
there-behind d all (c ∷ cs) h = (λ e. or-after (bytes_eq d.column c.column && not (is_rows d.role)) (has_column all c.column) (h.0 e), there-behind d all cs h.1)

all-there : (cs : List AskedColumn) → AllByRecursion (λ c. is_rows c.role ≡ false → has_column cs c.column ≡ true) cs
all-there [] = tt
all-there (c ∷ cs) = (
  λ e. or-before (bytes_eq c.column c.column && not (is_rows c.role)) (has_column cs c.column) (and_from (bytes_eq c.column c.column) (not (is_rows c.role)) ((bytes_eq-Decides c.column c.column).1 refl) (ap not e)),
  there-behind c cs cs (all-there cs),
)

-- what is written of columns is shown as these columns
pub columns-shown : (types : List ℕ → DataType) (cs : List AskedColumn) → AllByRecursion (CanBeIn types) cs → length cs ≢ 0 → first_double cs ≡ None → shown_of (map piece_in cs) ≡ Ok cs
columns-shown types cs h some once =
    ap (λ o. on_ok told_apart (on_ok shown_all o)) (items-read types cs h)
    ∙ ap (on_ok told_apart) (shown-each types cs h cs h (all-there cs))
    ∙ cond-false (length cs == 0) (Err refusal.NothingAsked) (unless_double cs (first_double cs)) (some-length cs some)
    ∙ ap (unless_double cs) once

-- What words come to may be asked for.
use Rattle.std.proofs.Common.{◌≡◌, ◌≢◌, ◌∙◌, ◌<◌, ◌++◌, ◌==◌, ℕ, Bool, true, false, not, cond, List, [], ◌∷◌, length, map, filter_map, flat_map, find, IfOk, IfSome, Option, Some, None, Result, Ok, Err, nat_lt, bytes_eq, codes, refl, sym, ap, subst, ltb-true, suc-ne-zero}
use Rattle.std.specs.Prelude.{unwrap_or, option_and_then}
use Rattle.std.specs.Path.{rsplit_once}
use Rattle.std.specs.List.{AllByRecursion, cons_option, list_all, position_or_len}
use Rattle.std.proofs.lemmas.Bool.{and_parts, cond_both}
use Rattle.std.proofs.lemmas.List.Elements.{All-from_recursion}
use Rattle.clap.specs.Words.{Row, all_of, first_of}
use Rattle.clap.specs.Lexer.{strip_byte}
use Rattle.pipe_columns.specs.declared.data_type.DataType.{DataType}
use Rattle.pipe_columns.specs.declared.data_type.DataType.TheVariants as dt
use Rattle.pipe_columns.specs.DataType.{is_input}
use Rattle.pipe_query.specs.JsonNames.{named}
use Rattle.pipe_words.specs.declared.plan.Format.{Format}
use Rattle.lavzimo_words.specs.Askable.{ComesToAskable, HasAskable, IsAskable, IsOrderWithin, MayBeAsked}
use Rattle.lavzimo_words.specs.Asked.{ColumnsSeen, IsReading, QuestionSeen, Words, ask_or, asked_of, beside_query, columns_in, file_alone, files_in, of_columns, question_by, question_in, words_by}
use Rattle.lavzimo_words.specs.AskedQuery.{aggs_in, keys_in}
use Rattle.lavzimo_words.specs.Command.{Found, found_in, stops, taken}
use Rattle.lavzimo_words.specs.Items.{counts_rows, item_as, item_of, items_of, pieces_for, pieces_in, pieces_of, titled, type_named, type_names, typed_as, typed_by, with_names, written_item}
use Rattle.lavzimo_words.specs.Joined.{joined}
use Rattle.lavzimo_words.specs.Results.{each_ok, ok_as, on_ok}
use Rattle.lavzimo_words.specs.Roles.{is_key, is_rows, option_of, role_named, suits}
use Rattle.lavzimo_words.specs.Settings.{format_of, most, number_of, order_by, order_of, order_signed, place_of}
use Rattle.lavzimo_words.specs.Shown.{column_type, first_double, is_as_said, said_item, said_type, shown_all, shown_as, shown_of, told_apart, unless_double, usual_type, has_numbers}
use Rattle.lavzimo_words.specs.declared.asked.Order.{Order}
use Rattle.lavzimo_words.specs.declared.asked.Order.TheVariants as order
use Rattle.lavzimo_words.specs.declared.asked_column.AskedColumn.{AskedColumn}
use Rattle.lavzimo_words.specs.declared.item.Item.{Item}
use Rattle.lavzimo_words.specs.declared.refusal.Refusal.{Refusal}
use Rattle.lavzimo_words.specs.declared.refusal.Refusal.TheVariants as refusal
use Rattle.lavzimo_words.specs.declared.role.Role.{Role}
use Rattle.lavzimo_words.specs.declared.words.Reading.{Reading}
use Rattle.lavzimo_words.specs.declared.words.Reading.TheVariants as reading
use Rattle.lavzimo_words.specs.declared.role.Role.TheVariants as role

-- what holds of whatever comes of the next step
on-ok : {A B E : Type 0} (P : B → Type 0) (f : A → Result B E) (r : Result A E) → IfOk r (λ x. IfOk (f x) P) → IfOk (on_ok f r) P
on-ok P f (Err e) h = tt
on-ok P f (Ok x) h = h

module _ {A B E : Type 0} (f : A → Result B E) where
  one-more : (P : B → Type 0) (r : Result B E) (rs : Result (List B) E) → IfOk r P → IfOk rs (AllByRecursion P) → IfOk (on_ok (λ y. ok_as (λ ys. y ∷ ys) rs) r) (AllByRecursion P)
  one-more P (Err e) rs p ps = tt
  one-more P (Ok y) (Err e) p ps = tt
  one-more P (Ok y) (Ok ys) p ps = (p, ps)

  -- what holds of what each element gives holds of all that they give
  each-all : (P : B → Type 0) → ((x : A) → IfOk (f x) P) → (xs : List A) → IfOk (each_ok f xs) (AllByRecursion P)
  each-all P keeps [] = tt
  each-all P keeps (x ∷ xs) = one-more P (f x) (each_ok f xs) (keeps x) (each-all P keeps xs)

  same-more : {C : Type 0} (g : B → C) (c : C) (cs : List C) (r : Result B E) (rs : Result (List B) E) → IfOk r (λ y. c ≡ g y) → IfOk rs (λ ys. cs ≡ map g ys)
      → IfOk (on_ok (λ y. ok_as (λ ys. y ∷ ys) rs) r) (λ ys. c ∷ cs ≡ map g ys)
  same-more g c cs (Err e) rs p ps = tt
  same-more g c cs (Ok y) (Err e) p ps = tt
  same-more g c cs (Ok y) (Ok ys) p ps = λ i. p i ∷ ps i

  -- what each element keeps, all keep
  each-same : {C : Type 0} (h : A → C) (g : B → C) → ((x : A) → IfOk (f x) (λ y. h x ≡ g y)) → (xs : List A) → IfOk (each_ok f xs) (λ ys. map h xs ≡ map g ys)
  each-same h g keeps [] = refl
  each-same h g keeps (x ∷ xs) = same-more g (h x) (map h xs) (f x) (each_ok f xs) (keeps x) (each-same h g keeps xs)

-- both of two facts
both-ok : {A E : Type 0} (P Q : A → Type 0) (r : Result A E) → IfOk r P → IfOk r Q → IfOk r (λ x. P x × Q x)
both-ok P Q (Err e) p q = tt
both-ok P Q (Ok x) p q = (p, q)

-- what holds of all entries of a table holds of what it has for a name
named-all : {A : Type 0} (P : A → Type 0) (table : List (List ℕ × A)) (name : List ℕ) → AllByRecursion (λ e. P e.1) table → IfSome (named table name) P
named-all P [] name h = tt
named-all P (entry ∷ table) name h = cond_both _ (Some entry.1) (named table name) (λ o. IfSome o P) (λ _. h.0) (λ _. named-all P table name h.1)

find-all : {A : Type 0} (P : A → Type 0) (test : A → Bool) (xs : List A) → AllByRecursion P xs → IfSome (find test xs) P
find-all P test [] h = tt
find-all P test (x ∷ xs) h = cond_both (test x) (Some x) (find test xs) (λ o. IfSome o P) (λ _. h.0) (λ _. find-all P test xs h.1)

-- ---- types that are said

-- a type that is said is one of inputs
abbrev IsSaidInput : Option DataType → Type 0
IsSaidInput o = IfSome o (λ t. is_input t ≡ true)

types-said : (name : List ℕ) → IsSaidInput (type_named name)
types-said name = named-all (λ t. is_input t ≡ true) type_names name (refl, (refl, (refl, (refl, (refl, (refl, (refl, (refl, (refl, (refl, (refl, (refl, tt))))))))))))

as-said : (text column : List ℕ) (o : Option DataType) → IsSaidInput o → IsSaidInput (typed_as text column o).1
as-said text column None h = tt
as-said text column (Some t) h = h

by-said : (text : List ℕ) (o : Option (List ℕ × List ℕ)) → IsSaidInput (typed_by text o).1
by-said text None = tt
by-said text (Some cut) = as-said text cut.0 (type_named cut.1) (types-said cut.1)

-- an item has a role, and says no type of 128 bits
abbrev IsItemOf : Role → Item → Type 0
IsItemOf r i = (r ≡ i.role) × IsSaidInput i.said

item-kept : (r : Role) (piece : List ℕ) → IfOk (item_of r piece) (IsItemOf r)
item-kept r piece = cond_both (is_rows r) (Ok (item_as r ([], None) None)) (with_names piece (written_item r piece)) (λ o. IfOk o (IsItemOf r)) (λ _. (refl, tt))
    (λ _. cond_both _ (Err (refusal.Nameless (option_of r) piece)) (Ok (written_item r piece)) (λ o. IfOk o (IsItemOf r)) (λ _. tt) (λ _. (refl, by-said (titled piece).0 (rsplit_once 58 (titled piece).0))))

left-ok : {A E : Type 0} (P Q : A → Type 0) (r : Result A E) → IfOk r (λ x. P x × Q x) → IfOk r P
left-ok P Q (Err e) h = tt
left-ok P Q (Ok x) h = h.0

right-ok : {A E : Type 0} (P Q : A → Type 0) (r : Result A E) → IfOk r (λ x. P x × Q x) → IfOk r Q
right-ok P Q (Err e) h = tt
right-ok P Q (Ok x) h = h.1

-- items have the roles of pieces, and say no type of 128 bits
abbrev AreItemsOf : List (Role × List ℕ) → List Item → Type 0
AreItemsOf pieces items = (map (λ p. p.0) pieces ≡ map (λ i. i.role) items) × AllByRecursion (λ i. IsSaidInput i.said) items

items-kept : (pieces : List (Role × List ℕ)) → IfOk (items_of pieces) (AreItemsOf pieces)
items-kept pieces = both-ok (λ items. map (λ p. p.0) pieces ≡ map (λ i. i.role) items) (AllByRecursion (λ i. IsSaidInput i.said)) (items_of pieces)
    (each-same (λ p. item_of p.0 p.1) (λ p. p.0) (λ i. i.role) (λ p. left-ok (λ i. p.0 ≡ i.role) (λ i. IsSaidInput i.said) (item_of p.0 p.1) (item-kept p.0 p.1)) pieces)
    (each-all (λ p. item_of p.0 p.1) (λ i. IsSaidInput i.said) (λ p. right-ok (λ i. p.0 ≡ i.role) (λ i. IsSaidInput i.said) (item_of p.0 p.1) (item-kept p.0 p.1)) pieces)

-- ---- columns of items

said-of : (o : Option Item) → IfSome o (λ i. IsSaidInput i.said) → IsSaidInput (option_and_then (λ i. i.said) o)
said-of None h = tt
said-of (Some i) h = h

said-or : (o : Option DataType) (t : DataType) → IsSaidInput o → is_input t ≡ true → is_input (unwrap_or o t) ≡ true
said-or None t h usual = usual
said-or (Some u) t h usual = h

usual-input : (items : List Item) (column : List ℕ) → is_input (usual_type items column) ≡ true
usual-input items column = cond_both (has_numbers items column) dt.Int64 dt.String (λ t. is_input t ≡ true) (λ _. refl) (λ _. refl)

-- each column has a type of inputs
types-input : (items : List Item) → AllByRecursion (λ i. IsSaidInput i.said) items → (column : List ℕ) → is_input (column_type items column) ≡ true
types-input items h column = said-or (said_type items column) (usual_type items column) (said-of (said_item items column) (find-all (λ i. IsSaidInput i.said) _ items h)) (usual-input items column)

not_not : (b : Bool) → not b ≡ false → b ≡ true
not_not true h = refl
not_not false h = sym h

-- a shown column has the role of its item and a type that suits it
record IsShownAs (i : Item) (t : DataType) (c : AskedColumn) : Type 0 where
  role : i.role ≡ c.role
  dtype : c.dtype ≡ t
  column : c.column ≡ i.column
  suited : suits c.role c.dtype ≡ true

shown-kept : (i : Item) (t : DataType) → IfOk (shown_as i t) (IsShownAs i t)
shown-kept i t =
    let c : AskedColumn = record { role = i.role; column = i.column; dtype = t; name = i.name } in
    let P : Result AskedColumn Refusal → Type 0 = λ o. IfOk o (IsShownAs i t) in
    cond_both (not (is_as_said i.said t)) (Err (refusal.TwoTypes i.column)) _ P (λ _. tt)
    (λ _. cond_both (not (suits i.role t)) (Err (refusal.Unsuited (option_of i.role) i.column t)) (Ok c) P (λ _. tt)
    (λ fits. record { role = refl; dtype = refl; column = refl; suited = not_not (suits i.role t) fits }))

ok-map : {A E : Type 0} (P Q : A → Type 0) → ((x : A) → P x → Q x) → (r : Result A E) → IfOk r P → IfOk r Q
ok-map P Q f (Err e) h = tt
ok-map P Q f (Ok x) h = f x h

-- columns have the roles of items, types that suit them, and one type a column
abbrev AreColumnsOf : List Item → List AskedColumn → Type 0
AreColumnsOf items cs = (map (λ i. i.role) items ≡ map (λ c. c.role) cs) × AllByRecursion (λ c. (c.dtype ≡ column_type items c.column) × (suits c.role c.dtype ≡ true)) cs

columns-kept : (items : List Item) → IfOk (shown_all items) (AreColumnsOf items)
columns-kept items =
    let f : Item → Result AskedColumn Refusal = λ i. shown_as i (column_type items i.column) in
    let P : AskedColumn → Type 0 = λ c. (c.dtype ≡ column_type items c.column) × (suits c.role c.dtype ≡ true) in
    both-ok (λ cs. map (λ i. i.role) items ≡ map (λ c. c.role) cs) (AllByRecursion P) (shown_all items)
    (each-same f (λ i. i.role) (λ c. c.role) (λ i. ok-map (IsShownAs i (column_type items i.column)) (λ c. i.role ≡ c.role) (λ c h. h.role) (f i) (shown-kept i (column_type items i.column))) items)
    (each-all f P (λ i. ok-map (IsShownAs i (column_type items i.column)) P (λ c h. (h.dtype ∙ ap (column_type items) (sym h.column), h.suited)) (f i) (shown-kept i (column_type items i.column))) items)

-- ---- keys before others

-- whether keys stand before other roles
abbrev keys_lead : List Role → Bool
keys_lead [] = true
keys_lead (r ∷ rs) = cond (is_key r) (keys_lead rs) (list_all (λ q. not (is_key q)) rs)

abbrev none_keys : List Role → Bool
none_keys rs = list_all (λ q. not (is_key q)) rs

lead_none : (rs : List Role) → none_keys rs ≡ true → keys_lead rs ≡ true
lead_none [] h = refl
lead_none (r ∷ rs) h =
    let both = and_parts (not (is_key r)) (none_keys rs) h in
    cond_both (is_key r) (keys_lead rs) (none_keys rs) (λ b. b ≡ true) (λ _. lead_none rs both.1) (λ _. both.1)

lead-keys : (texts : List (List ℕ)) (ps : List (Role × List ℕ)) → keys_lead (map (λ p. p.0) ps) ≡ true → keys_lead (map (λ p. p.0) (map (λ t. (role.Key, t)) texts ++ ps)) ≡ true
lead-keys [] ps h = h
lead-keys (t ∷ texts) ps h = lead-keys texts ps h

none-of : (r : Role) (texts : List (List ℕ)) (ps : List (Role × List ℕ)) → is_key r ≡ false → none_keys (map (λ p. p.0) ps) ≡ true → none_keys (map (λ p. p.0) (map (λ t. (r, t)) texts ++ ps)) ≡ true
none-of r [] ps other h = h
none-of r (t ∷ texts) ps other h = rw other (none-of r texts ps other h)

none-more : (rows : List Row) (r : Role) (ps : List (Role × List ℕ)) → is_key r ≡ false → none_keys (map (λ p. p.0) ps) ≡ true → none_keys (map (λ p. p.0) (pieces_for rows r ++ ps)) ≡ true
none-more rows r ps other h =
    let P : List (Role × List ℕ) → Type 0 = λ qs. none_keys (map (λ p. p.0) (qs ++ ps)) ≡ true in
    cond_both (is_rows r) (cond (counts_rows rows) ((r, []) ∷ []) []) (map (λ t. (r, t)) (pieces_of (all_of (option_of r) rows))) P
    (λ _. cond_both (counts_rows rows) ((r, []) ∷ []) [] P (λ _. rw other h) (λ _. h))
    (λ _. none-of r (pieces_of (all_of (option_of r) rows)) ps other h)

none-in : (rows : List Row) (rs : List Role) → AllByRecursion (λ r. is_key r ≡ false) rs → none_keys (map (λ p. p.0) (flat_map (pieces_for rows) rs)) ≡ true
none-in rows [] h = refl
none-in rows (r ∷ rs) h = none-more rows r (flat_map (pieces_for rows) rs) h.0 (none-in rows rs h.1)

-- the roles of options beside that of keys
abbrev other_roles : List (List ℕ × Role)
other_roles =
    (codes "count", role.Rows) ∷ (codes "count-of", role.Values) ∷ (codes "sum", role.Sum)
    ∷ (codes "mean", role.Mean) ∷ (codes "min", role.Least) ∷ (codes "max", role.Greatest)
    ∷ (codes "first", role.First) ∷ (codes "last", role.Last) ∷ []

others-named : (name : List ℕ) → IfSome (role_named name) (λ r. is_key r ≡ false)
others-named name = named-all (λ r. is_key r ≡ false) other_roles name (refl, (refl, (refl, (refl, (refl, (refl, (refl, (refl, tt))))))))

one-other : (o : Option Role) (rs : List Role) → IfSome o (λ r. is_key r ≡ false) → AllByRecursion (λ r. is_key r ≡ false) rs → AllByRecursion (λ r. is_key r ≡ false) (cons_option o rs)
one-other None rs h others = others
one-other (Some r) rs h others = (h, others)

others-in : (rows : List Row) → AllByRecursion (λ r. is_key r ≡ false) (filter_map (λ w. role_named w.id) rows)
others-in [] = tt
others-in (w ∷ rows) = one-other (role_named w.id) _ (others-named w.id) (others-in rows)

pieces-lead : (rows : List Row) → keys_lead (map (λ p. p.0) (pieces_in rows)) ≡ true
pieces-lead rows =
    let rest : List (Role × List ℕ) = flat_map (pieces_for rows) (filter_map (λ w. role_named w.id) rows) in
    lead-keys (pieces_of (all_of (codes "by") rows)) rest (lead_none (map (λ p. p.0) rest) (none-in rows _ (others-in rows)))

no-keys : (cs : List AskedColumn) → none_keys (map (λ c. c.role) cs) ≡ true → (keys_in cs ≡ []) × (aggs_in cs ≡ cs)
no-keys [] h = (refl, refl)
no-keys (c ∷ cs) h =
    let both = and_parts (not (is_key c.role)) (none_keys (map (λ d. d.role) cs)) h in
    let rest = no-keys cs both.1 in
    let other : is_key c.role ≡ false = is_other (is_key c.role) both.0 in
    (rw other rest.0, rw other (ap (λ ds. c ∷ ds) rest.1))
  where
    is_other : (b : Bool) → not b ≡ true → b ≡ false
    is_other true e = sym e
    is_other false e = refl

keys-first : (cs : List AskedColumn) → keys_lead (map (λ c. c.role) cs) ≡ true → cs ≡ keys_in cs ++ aggs_in cs
keys-first [] h = refl
keys-first (c ∷ cs) h = by (keys-first cs) (is_key c.role) refl h
  where
    by : (keys_lead (map (λ d. d.role) cs) ≡ true → cs ≡ keys_in cs ++ aggs_in cs) → (b : Bool) → is_key c.role ≡ b → cond b (keys_lead (map (λ d. d.role) cs)) (none_keys (map (λ d. d.role) cs)) ≡ true
        → c ∷ cs ≡ keys_in (c ∷ cs) ++ aggs_in (c ∷ cs)
    by rest true e k = rw e (ap (λ ds. c ∷ ds) (rest k))
    by rest false e k =
        let none = no-keys cs k in
        rw e (rw (none.0, none.1) refl)

-- ---- shown columns

-- columns may be shown: all that may be asked for but an order
record MayBeShown (cs : List AskedColumn) : Type 0 where
  some : length cs ≢ 0
  keys_first : cs ≡ keys_in cs ++ aggs_in cs
  told_apart : first_double cs ≡ None
  types : List ℕ → DataType
  typed : AllByRecursion (λ c. c.dtype ≡ types c.column) cs
  read : AllByRecursion (λ c. is_input c.dtype ≡ true) cs
  suited : AllByRecursion (λ c. suits c.role c.dtype ≡ true) cs

-- the same but for names
record AreTyped (cs : List AskedColumn) : Type 0 where
  keys_first : cs ≡ keys_in cs ++ aggs_in cs
  types : List ℕ → DataType
  typed : AllByRecursion (λ c. c.dtype ≡ types c.column) cs
  read : AllByRecursion (λ c. is_input c.dtype ≡ true) cs
  suited : AllByRecursion (λ c. suits c.role c.dtype ≡ true) cs

each-map-all : {A : Type 0} (P Q : A → Type 0) → ((x : A) → P x → Q x) → (xs : List A) → AllByRecursion P xs → AllByRecursion Q xs
each-map-all P Q f [] h = tt
each-map-all P Q f (x ∷ xs) h = (f x h.0, each-map-all P Q f xs h.1)

columns-typed : (rows : List Row) (items : List Item) → AreItemsOf (pieces_in rows) items → (cs : List AskedColumn) → AreColumnsOf items cs → AreTyped cs
columns-typed rows items of cs h =
    let P : AskedColumn → Type 0 = λ c. (c.dtype ≡ column_type items c.column) × (suits c.role c.dtype ≡ true) in
    record {
      keys_first = keys-first cs (ap keys_lead (sym (of.0 ∙ h.0)) ∙ pieces-lead rows);
      types = column_type items;
      typed = each-map-all P (λ c. c.dtype ≡ column_type items c.column) (λ c p. p.0) cs h.1;
      read = each-map-all P (λ c. is_input c.dtype ≡ true) (λ c p. ap is_input p.0 ∙ types-input items of.1 c.column) cs h.1;
      suited = each-map-all P (λ c. suits c.role c.dtype ≡ true) (λ c p. p.1) cs h.1;
    }

apart-kept : (cs : List AskedColumn) → AreTyped cs → IfOk (told_apart cs) MayBeShown
apart-kept [] h = tt
apart-kept (c ∷ cs) h = cond_both (length (c ∷ cs) == 0) (Err refusal.NothingAsked) (unless_double (c ∷ cs) (first_double (c ∷ cs))) (λ r. IfOk r MayBeShown) (λ _. tt) (λ _. by (first_double (c ∷ cs)) refl)
  where
    by : (o : Option (List ℕ)) → first_double (c ∷ cs) ≡ o → IfOk (unless_double (c ∷ cs) o) MayBeShown
    by (Some name) e = tt
    by None e = record { some = λ none. suc-ne-zero (length cs) none; keys_first = h.keys_first; told_apart = e; types = h.types; typed = h.typed; read = h.read; suited = h.suited }

shown-may : (rows : List Row) → IfOk (shown_of (pieces_in rows)) MayBeShown
shown-may rows =
    on-ok MayBeShown told_apart (on_ok shown_all (items_of (pieces_in rows)))
    (on-ok (λ cs. IfOk (told_apart cs) MayBeShown) shown_all (items_of (pieces_in rows))
    (ok-map (AreItemsOf (pieces_in rows)) (λ items. IfOk (shown_all items) (λ cs. IfOk (told_apart cs) MayBeShown))
    (λ items of. ok-map (AreColumnsOf items) (λ cs. IfOk (told_apart cs) MayBeShown) (λ cs h. apart-kept cs (columns-typed rows items of cs h)) (shown_all items) (columns-kept items))
    (items_of (pieces_in rows)) (items-kept (pieces_in rows))))

-- ---- orders

place-within : (cs : List AskedColumn) (name : List ℕ) → IfSome (place_of cs name) (λ n. n < length cs)
place-within cs name = cond_both (nat_lt (position_or_len (λ s. bytes_eq s.name name) cs) (length cs)) (Some (position_or_len (λ s. bytes_eq s.name name) cs)) None (λ o. IfSome o (λ n. n < length cs)) (λ few. ltb-true (position_or_len (λ s. bytes_eq s.name name) cs) (length cs) few) (λ _. tt)

by-within : (count : ℕ) (down : Bool) (name : List ℕ) (o : Option ℕ) → IfSome o (λ n. n < count) → IfOk (order_by down name o) (IsOrderWithin count)
by-within count down name None h = tt
by-within count down name (Some n) h = cond_both down (order.Down n) (order.Up n) (IsOrderWithin count) (λ _. h) (λ _. h)

signed-within : (cs : List AskedColumn) (text : List ℕ) (o : Option (List ℕ)) → IfOk (order_signed cs text o) (IsOrderWithin (length cs))
signed-within cs text None = by-within (length cs) false text (place_of cs text) (place-within cs text)
signed-within cs text (Some name) = by-within (length cs) true name (place_of cs name) (place-within cs name)

order-within : (cs : List AskedColumn) (o : Option (List ℕ)) → IfOk (order_of cs o) (IsOrderWithin (length cs))
order-within cs None = tt
order-within cs (Some text) =
    let P : Result Order Refusal → Type 0 = λ r. IfOk r (IsOrderWithin (length cs)) in
    let signed : Result Order Refusal = order_signed cs text (strip_byte 45 text) in
    cond_both (bytes_eq text (codes "key")) (Ok order.Key) (cond (bytes_eq text (codes "first")) (Ok order.First) signed) P (λ _. tt)
    (λ _. cond_both (bytes_eq text (codes "first")) (Ok order.First) signed P (λ _. tt) (λ _. signed-within cs text (strip_byte 45 text)))

-- ---- the whole

askable-of : (cs : List AskedColumn) (o : Order) (offset : ℕ) (limit : Option ℕ) → MayBeShown cs → IsOrderWithin (length cs) o → IsAskable (record { columns = cs; order = o; offset = offset; limit = limit })
askable-of cs o offset limit h within = record {
  some = h.some;
  keys_first = h.keys_first;
  told_apart = h.told_apart;
  types = h.types;
  typed = All-from_recursion (λ c. c.dtype ≡ h.types c.column) cs h.typed;
  read = All-from_recursion (λ c. is_input c.dtype ≡ true) cs h.read;
  suited = All-from_recursion (λ c. suits c.role c.dtype ≡ true) cs h.suited;
  within = within;
}

settings-kept : (cs : List AskedColumn) → MayBeShown cs → (o : Result Order Refusal) → IfOk o (IsOrderWithin (length cs)) → (offset limit : Result (Option ℕ) Refusal)
    → IfOk (on_ok (λ order. on_ok (λ first. ok_as (λ most. record { columns = cs; order = order; offset = unwrap_or first 0; limit = most }) limit) offset) o) IsAskable
settings-kept cs h (Err e) within offset limit = tt
settings-kept cs h (Ok o) within (Err e) limit = tt
settings-kept cs h (Ok o) within (Ok offset) (Err e) = tt
settings-kept cs h (Ok o) within (Ok offset) (Ok limit) = askable-of cs o (unwrap_or offset 0) limit h within

columns-askable : (rows : List Row) → IfOk (columns_in (pieces_in rows) rows) IsAskable
columns-askable rows = on-ok IsAskable _ (shown_of (pieces_in rows))
    (ok-map MayBeShown _ (λ cs h. settings-kept cs h (order_of cs (first_of (codes "order") rows)) (order-within cs (first_of (codes "order") rows)) (number_of 0 most (codes "offset") rows) (number_of 0 most (codes "limit") rows))
    (shown_of (pieces_in rows)) (shown-may rows))

of-columns : (r : Result ColumnsSeen Refusal) → IfOk r IsAskable → IfOk (ok_as of_columns r) MayBeAsked
of-columns (Err e) h = tt
of-columns (Ok c) h = h

of-file : (file : List ℕ) (o : Option (List ℕ)) → IfOk (file_alone file o) MayBeAsked
of-file file None = tt
of-file file (Some option) = tt

question-asked : (rows : List Row) (o : Option (List ℕ)) → IfOk (question_by o (pieces_in rows) rows) MayBeAsked
question-asked rows None = of-columns (columns_in (pieces_in rows) rows) (columns-askable rows)
question-asked rows (Some file) = of-file file (beside_query (pieces_in rows) rows)

module _ (dir : Option (List ℕ)) (files : List (List ℕ)) where
  rest-asked : (q : Result QuestionSeen Refusal) → IfOk q MayBeAsked → (f : Result Format Refusal) (w p : Result (Option ℕ) Refusal)
      → ComesToAskable (ask_or (on_ok (λ question. on_ok (λ format. on_ok (λ workers. ok_as (λ partitions. record { question = question; format = format; workers = workers; partitions = unwrap_or partitions 16; spill_dir = dir; files = files }) p) w) f) q))
  rest-asked (Err e) h f w p = tt
  rest-asked (Ok q) h (Err e) w p = tt
  rest-asked (Ok q) h (Ok f) (Err e) p = tt
  rest-asked (Ok q) h (Ok f) (Ok w) (Err e) = tt
  rest-asked (Ok q) h (Ok f) (Ok w) (Ok p) = h

pub found-askable : (f : Found) → ComesToAskable (words_by f)
found-askable (stops kinds) = tt
found-askable (taken rows) = rest-asked (first_of (codes "spill-dir") rows) (files_in (all_of (codes "files") rows))
    (question_in rows) (question-asked rows (first_of (codes "query") rows)) (format_of (first_of (codes "format") rows)) (number_of 1 256 (codes "workers") rows) (number_of 1 4096 (codes "partitions") rows)

-- words come to what may be asked for
pub words-askable : (words : List (List ℕ)) → ComesToAskable (asked_of words)
words-askable words = found-askable (found_in (joined words))

-- so may what was read
pub reading-askable : (r : Reading) (w : Words) → IsReading r w → ComesToAskable w → HasAskable r
reading-askable (reading.Asked a) w is h = subst ComesToAskable is h
reading-askable (reading.Refused r) w is h = tt
reading-askable (reading.Help text) w is h = tt
reading-askable (reading.Version text) w is h = tt
reading-askable (reading.Faulty text) w is h = tt

-- The rows that `clap` finds in written words ask for what was written.
use Rattle.std.proofs.Common.{◌≡◌, ◌≢◌, ◌∙◌, ◌++◌, ◌==◌, ℕ, Bool, true, false, not, cond, List, [], ◌∷◌, map, filter, filter_map, flat_map, length, find, bytes_eq, Option, Some, None, option_map, Result, Ok, slice_get, codes, refl, sym, ap, subst, true≢false, append_assoc, append-nil, suc-ne-zero}
use Rattle.std.specs.Prelude.{option_and_then, unwrap_or}
use Rattle.std.specs.Option.{option_map_or}
use Rattle.std.specs.List.{AllByRecursion, cons_option, list_any, slice_split}
use Rattle.std.proofs.lemmas.Bool.{cond-false, cond-true, cond_both, or_from, or_parts}
use Rattle.std.proofs.lemmas.Grind.{flat_map-append}
use Rattle.std.proofs.lemmas.List.{map-append}
use Rattle.std.proofs.lemmas.List.Elements.{filter-append, filter_map-append, recursion_from_All}
use Rattle.std.proofs.lemmas.Slice.Eq.{bytes_eq-Decides}
use Rattle.clap.specs.Walk.{Row, all_of, first_of, has_row, more_values, with_default}
use Rattle.clap.specs.declared.builder.value_parser.Reading.TheVariants as reading
use Rattle.clap.specs.declared.parser.matches.ValueSource.TheVariants as source
use Rattle.pipe_columns.specs.declared.data_type.DataType.{DataType}
use Rattle.pipe_columns.specs.declared.data_type.DataType.TheVariants as dt
use Rattle.pipe_columns.specs.DataType.{is_input}
use Rattle.pipe_aggs.specs.Faults.{has_double}
use Rattle.lavzimo_words.specs.Askable.{IsAskable}
use Rattle.lavzimo_words.specs.Asked.{AskedSeen, ColumnsSeen, QuestionSeen, ask, ask_or, asked_in, asked_of, columns_in, files_in, of_columns, question_by, question_in, words_by}
use Rattle.lavzimo_words.specs.AskedQuery.{aggs_in, keys_in}
use Rattle.lavzimo_words.specs.Command.{found_in}
use Rattle.lavzimo_words.specs.Items.{counts_rows, pieces_for, pieces_in, pieces_of}
use Rattle.lavzimo_words.specs.Results.{ok_as, on_ok}
use Rattle.lavzimo_words.specs.Roles.{is_key, is_rows, option_of, role_named, suits}
use Rattle.lavzimo_words.specs.Settings.{format_of, most, number_said, order_of}
use Rattle.lavzimo_words.specs.Shown.{shown_of}
use Rattle.lavzimo_words.specs.WordsOf.{AreWritable, CanBeListed, CanBeWritten, OptionUse, asked_by, by_keys, columns_of, has, list_of, piece_of, rows_alone, type_text, words_of}
use Rattle.lavzimo_words.specs.declared.asked.Order.TheVariants as order
use Rattle.lavzimo_words.specs.declared.asked_column.AskedColumn.{AskedColumn}
use Rattle.lavzimo_words.specs.declared.refusal.Refusal.{Refusal}
use Rattle.lavzimo_words.specs.declared.role.Role.{Role}
use Rattle.lavzimo_words.specs.declared.role.Role.TheVariants as role
use Rattle.lavzimo_words.proofs.FieldFacts.{turned-apart}
use Rattle.lavzimo_words.proofs.PieceText.{CanBeIn, columns-shown, piece_in}
use Rattle.lavzimo_words.proofs.TakenFacts.{counting_rule, fresh-row, ids_of, row_for, row_with, rows-option, rows_found, words-found, words-joined}

-- ---- the rows

-- the row of no count, where rows aren't counted
abbrev extra : Bool → List Row
extra true = []
extra false = record { id = codes "count"; values = codes "false" ∷ []; count = None; source = Some source.DefaultValue; reading = reading.AsWritten } ∷ []

-- the rows of options, of files, and of no count
abbrev rows_with : List OptionUse → List (List ℕ) → Bool → List Row
rows_with us files b = map row_for us ++ row_with (codes "files") files ∷ extra b

abbrev counts : List OptionUse → List (List ℕ) → Bool
counts us files = has_row (codes "count") (map row_for us ++ row_with (codes "files") files ∷ [])

found-is : (us : List OptionUse) (files : List (List ℕ)) → rows_found us files ≡ rows_with us files (counts us files)
found-is us files = by (counts us files) refl
  where
    by : (b : Bool) → has_row (codes "count") (map row_for us ++ row_with (codes "files") files ∷ []) ≡ b → with_default (map row_for us ++ row_with (codes "files") files ∷ []) counting_rule ≡ rows_with us files b
    by true e = rw e refl
    by false e = rw e (fresh-row (codes "count") (more_values source.DefaultValue (codes "false" ∷ [])) (extra false) (map row_for us ++ row_with (codes "files") files ∷ []) e ∙ append_assoc (map row_for us) (row_with (codes "files") files ∷ []) (extra false))

-- ---- what is looked for

-- a row of no option
find-else : (id : List ℕ) → ((r : Role) → bytes_eq (option_of r) id ≡ false) → (us : List OptionUse) (rest : List Row) → find (λ r. bytes_eq r.id id) (map row_for us ++ rest) ≡ find (λ r. bytes_eq r.id id) rest
find-else id other [] rest = refl
find-else id other (u ∷ us) rest = cond-false (bytes_eq (option_of u.role) id) (Some (row_for u)) (find (λ r. bytes_eq r.id id) (map row_for us ++ rest)) (other u.role) ∙ find-else id other us rest

-- a name that is that of no option, of no row of files and of no count
record IsElse (id : List ℕ) : Type 0 where
  options : (r : Role) → bytes_eq (option_of r) id ≡ false
  files : bytes_eq (codes "files") id ≡ false

none-first : (id : List ℕ) → IsElse id → (us : List OptionUse) (files : List (List ℕ)) (b : Bool) → first_of id (rows_with us files b) ≡ None
none-first id other us files b =
    ap (option_and_then (λ r. slice_get r.values 0)) (find-else id other.options us (row_with (codes "files") files ∷ extra b)
    ∙ cond-false (bytes_eq (codes "files") id) (Some (row_with (codes "files") files)) (find (λ r. bytes_eq r.id id) (extra b)) other.files ∙ by b)
  where
    by : (c : Bool) → find (λ r. bytes_eq r.id id) (extra c) ≡ None
    by true = refl
    by false = cond-false (bytes_eq (codes "count") id) _ None (other.options role.Rows)

files-found : (us : List OptionUse) (files : List (List ℕ)) (b : Bool) → all_of (codes "files") (rows_with us files b) ≡ Some files
files-found us files b = ap (option_map (λ r. r.values)) (find-else (codes "files") other us (row_with (codes "files") files ∷ extra b))
  where
    other : (r : Role) → bytes_eq (option_of r) (codes "files") ≡ false
    other role.Key = refl
    other role.Rows = refl
    other role.Values = refl
    other role.Sum = refl
    other role.Mean = refl
    other role.Least = refl
    other role.Greatest = refl
    other role.First = refl
    other role.Last = refl

-- ---- lists between commas

split-none : (text : List ℕ) → has 44 text ≡ false → slice_split (λ b. b == 44) text ≡ text ∷ []
split-none [] h = refl
split-none (x ∷ text) h =
    let both = or_parts (x == 44) (has 44 text) h in
    rw (both.0, split-none text both.1) refl

split-at : (text rest : List ℕ) → has 44 text ≡ false → slice_split (λ b. b == 44) (text ++ 44 ∷ rest) ≡ text ∷ slice_split (λ b. b == 44) rest
split-at [] rest h = refl
split-at (x ∷ text) rest h =
    let both = or_parts (x == 44) (has 44 text) h in
    rw (both.0, split-at text rest both.1) refl

pub has-both : (b : ℕ) (xs ys : List ℕ) → has b xs ≡ false → has b ys ≡ false → has b (xs ++ ys) ≡ false
has-both b [] ys h k = k
has-both b (x ∷ xs) ys h k =
    let both = or_parts (x == b) (has b xs) h in
    or_from (x == b) (has b (xs ++ ys)) both.0 (has-both b xs ys both.1 k)

has-not-type : (t : DataType) → has 44 (type_text t) ≡ false
has-not-type dt.Boolean = refl
has-not-type dt.Int8 = refl
has-not-type dt.Int16 = refl
has-not-type dt.Int32 = refl
has-not-type dt.Int64 = refl
has-not-type dt.UInt8 = refl
has-not-type dt.UInt16 = refl
has-not-type dt.UInt32 = refl
has-not-type dt.UInt64 = refl
has-not-type dt.Int128 = refl
has-not-type dt.Date = refl
has-not-type dt.String = refl

piece-plain : (c : AskedColumn) → CanBeListed c → has 44 (piece_of c) ≡ false
piece-plain c h =
    has-both 44 (c.column ++ codes ":" ++ type_text c.dtype ++ codes "=") c.name
    (has-both 44 (c.column ++ codes ":" ++ type_text c.dtype) (codes "=")
    (has-both 44 (c.column ++ codes ":") (type_text c.dtype) (has-both 44 c.column (codes ":") h.column_comma refl) (has-not-type c.dtype)) refl) h.name_comma

list-cut : (cs : List AskedColumn) → length cs ≢ 0 → AllByRecursion CanBeListed cs → slice_split (λ b. b == 44) (list_of cs) ≡ map piece_of cs
list-cut [] some h = absurd (some refl)
list-cut (c ∷ []) some h = split-none (piece_of c) (piece-plain c h.0)
list-cut (c ∷ d ∷ cs) some h =
    ap (slice_split (λ b. b == 44)) (append_assoc (piece_of c) (codes ",") (list_of (d ∷ cs)))
    ∙ split-at (piece_of c) (list_of (d ∷ cs)) (piece-plain c h.0) ∙ ap (λ ps. piece_of c ∷ ps) (list-cut (d ∷ cs) (λ none. suc-ne-zero (length cs) none) h.1)

-- ---- the pieces of an option

abbrev use_pieces : OptionUse → List (Role × List ℕ)
use_pieces u = cond (is_rows u.role) ((u.role, []) ∷ []) (map (λ p. (u.role, p)) (map piece_of u.columns))

-- the row of an option is found
finds-behind : (v : OptionUse) (rows : List Row) (us : List OptionUse) → list_any (λ m. bytes_eq m (option_of v.role)) (ids_of us) ≡ false → AllByRecursion (λ u. find (λ r. bytes_eq r.id (option_of u.role)) rows ≡ Some (row_for u)) us
    → AllByRecursion (λ u. find (λ r. bytes_eq r.id (option_of u.role)) (row_for v ∷ rows) ≡ Some (row_for u)) us
finds-behind v rows [] none h = tt
finds-behind v rows (u ∷ us) none h =
    let both = or_parts (bytes_eq (option_of u.role) (option_of v.role)) (list_any (λ m. bytes_eq m (option_of v.role)) (ids_of us)) none in (
      cond-false (bytes_eq (option_of v.role) (option_of u.role)) (Some (row_for v)) (find (λ r. bytes_eq r.id (option_of u.role)) rows) (turned-apart (option_of u.role) (option_of v.role) both.0) ∙ h.0,
      finds-behind v rows us both.1 h.1,
    )

finds-all : (us : List OptionUse) (rest : List Row) → has_double (ids_of us) ≡ false → AllByRecursion (λ u. find (λ r. bytes_eq r.id (option_of u.role)) (map row_for us ++ rest) ≡ Some (row_for u)) us
finds-all [] rest once = tt
finds-all (u ∷ us) rest once =
    let both = or_parts (list_any (λ m. bytes_eq m (option_of u.role)) (ids_of us)) (has_double (ids_of us)) once in (
      cond-true (bytes_eq (option_of u.role) (option_of u.role)) (Some (row_for u)) (find (λ r. bytes_eq r.id (option_of u.role)) (map row_for us ++ rest)) ((bytes_eq-Decides (option_of u.role) (option_of u.role)).1 refl),
      finds-behind u (map row_for us ++ rest) us both.0 (finds-all us rest both.1),
    )

-- an option can be written, with its lists by recursion
record IsWritten (u : OptionUse) : Type 0 where
  some : length u.columns ≢ 0
  roles : AllByRecursion (λ c. c.role ≡ u.role) u.columns
  counted : is_rows u.role ≡ true → u.columns ≡ rows_alone ∷ []
  listed : is_rows u.role ≡ false → AllByRecursion CanBeListed u.columns

written : (u : OptionUse) → CanBeWritten u → IsWritten u
written u h = record {
  some = h.some;
  roles = recursion_from_All (λ c. c.role ≡ u.role) u.columns h.roles;
  counted = h.counted;
  listed = λ e. recursion_from_All CanBeListed u.columns (h.listed e);
}

-- the pieces of what is found of an option
listed-pieces : (u : OptionUse) (rows : List Row) → find (λ r. bytes_eq r.id (option_of u.role)) rows ≡ Some (row_for u) → IsWritten u → is_rows u.role ≡ false → pieces_of (all_of (option_of u.role) rows) ≡ map piece_of u.columns
listed-pieces u rows found h e =
    ap (λ o. pieces_of (option_map (λ r. r.values) o)) found
    ∙ ap (λ b. pieces_of (Some (cond b (codes "true" ∷ []) (list_of u.columns ∷ [])))) e
    ∙ append-nil (slice_split (λ b. b == 44) (list_of u.columns)) ∙ list-cut u.columns h.some (h.listed e)

pieces-found : (u : OptionUse) (rows : List Row) → find (λ r. bytes_eq r.id (option_of u.role)) rows ≡ Some (row_for u) → IsWritten u → (b : Bool) → is_rows u.role ≡ b → pieces_for rows u.role ≡ use_pieces u
pieces-found u rows found h true e =
    let count : find (λ r. bytes_eq r.id (codes "count")) rows ≡ Some (row_for u) = ap (λ id. find (λ r. bytes_eq r.id id) rows) (sym (rows-option u.role e)) ∙ found in
    let first : first_of (codes "count") rows ≡ Some (codes "true") =
    ap (option_and_then (λ r. slice_get r.values 0)) count ∙ ap (λ b. slice_get (cond b (codes "true" ∷ []) (list_of u.columns ∷ [])) 0) e in
    let counted : counts_rows rows ≡ true = ap (λ o. option_map_or (λ t. bytes_eq t (codes "true")) o false) first in
    rw (e, counted) refl
pieces-found u rows found h false e = rw e (ap (map (λ p. (u.role, p))) (listed-pieces u rows found h e))

-- ---- the pieces of all options

-- the keys' pieces, and those of the others
abbrev key_pieces : List OptionUse → List (Role × List ℕ)
key_pieces [] = []
key_pieces (u ∷ us) = cond (is_key u.role) (use_pieces u ++ key_pieces us) (key_pieces us)

abbrev other_roles : List OptionUse → List Role
other_roles [] = []
other_roles (u ∷ us) = cond (is_key u.role) (other_roles us) (u.role ∷ other_roles us)

abbrev other_pieces : List OptionUse → List (Role × List ℕ)
other_pieces [] = []
other_pieces (u ∷ us) = cond (is_key u.role) (other_pieces us) (use_pieces u ++ other_pieces us)

role-read : (r : Role) → role_named (option_of r) ≡ cond (is_key r) None (Some r)
role-read role.Key = refl
role-read role.Rows = refl
role-read role.Values = refl
role-read role.Sum = refl
role-read role.Mean = refl
role-read role.Least = refl
role-read role.Greatest = refl
role-read role.First = refl
role-read role.Last = refl

roles-read : (us : List OptionUse) → filter_map (λ r. role_named r.id) (map row_for us) ≡ other_roles us
roles-read [] = refl
roles-read (u ∷ us) = ap (λ o. cons_option o (filter_map (λ r. role_named r.id) (map row_for us))) (role-read u.role) ∙ by (is_key u.role) ∙ ap (λ rs. cond (is_key u.role) rs (u.role ∷ rs)) (roles-read us)
  where
    by : (b : Bool) → cons_option (cond b None (Some u.role)) (filter_map (λ r. role_named r.id) (map row_for us)) ≡ cond b (filter_map (λ r. role_named r.id) (map row_for us)) (u.role ∷ filter_map (λ r. role_named r.id) (map row_for us))
    by true = refl
    by false = refl

-- a row that comes last where rows aren't counted counts none
nothing-counted : (us : List OptionUse) (files : List (List ℕ)) → counts us files ≡ false → counts_rows (rows_with us files false) ≡ false
nothing-counted us files none = ap (λ o. option_map_or (λ t. bytes_eq t (codes "true")) o false) first
  where
    absent : (rows : List Row) → has_row (codes "count") rows ≡ false → (rest : List Row) → find (λ r. bytes_eq r.id (codes "count")) (rows ++ rest) ≡ find (λ r. bytes_eq r.id (codes "count")) rest
    absent [] h rest = refl
    absent (r ∷ rows) h rest =
        let both = or_parts (bytes_eq r.id (codes "count")) (has_row (codes "count") rows) h in
        cond-false (bytes_eq r.id (codes "count")) (Some r) (find (λ q. bytes_eq q.id (codes "count")) (rows ++ rest)) both.0 ∙ absent rows both.1 rest

    first : first_of (codes "count") (rows_with us files false) ≡ Some (codes "false")
    first =
        ap (first_of (codes "count")) (sym (append_assoc (map row_for us) (row_with (codes "files") files ∷ []) (extra false)))
        ∙ ap (option_and_then (λ r. slice_get r.values 0)) (absent (map row_for us ++ row_with (codes "files") files ∷ []) none (extra false))

-- the roles of all rows
abbrev extra_roles : Bool → List Role
extra_roles true = []
extra_roles false = role.Rows ∷ []

all-roles : (us : List OptionUse) (files : List (List ℕ)) (b : Bool) → filter_map (λ r. role_named r.id) (rows_with us files b) ≡ other_roles us ++ extra_roles b
all-roles us files b =
    filter_map-append (λ r. role_named r.id) (map row_for us) (row_with (codes "files") files ∷ extra b)
    ∙ (λ i. roles-read us i ++ by b i)
  where
    by : (c : Bool) → filter_map (λ r. role_named r.id) (row_with (codes "files") files ∷ extra c) ≡ extra_roles c
    by true = refl
    by false = refl

others-found : (rows : List Row) (us : List OptionUse) → AllByRecursion (λ u. find (λ r. bytes_eq r.id (option_of u.role)) rows ≡ Some (row_for u)) us → AllByRecursion IsWritten us → flat_map (pieces_for rows) (other_roles us) ≡ other_pieces us
others-found rows [] found h = refl
others-found rows (u ∷ us) found h = by (is_key u.role) (others-found rows us found.1 h.1)
  where
    by : (b : Bool) → flat_map (pieces_for rows) (other_roles us) ≡ other_pieces us → flat_map (pieces_for rows) (cond b (other_roles us) (u.role ∷ other_roles us)) ≡ cond b (other_pieces us) (use_pieces u ++ other_pieces us)
    by true rest = rest
    by false rest = let one = pieces-found u rows found.0 h.0 (is_rows u.role) refl in λ i. one i ++ rest i

key-name : (r : Role) → is_key r ≡ true → r ≡ role.Key
key-name role.Key h = refl
key-name role.Rows h = absurd (true≢false (sym h))
key-name role.Values h = absurd (true≢false (sym h))
key-name role.Sum h = absurd (true≢false (sym h))
key-name role.Mean h = absurd (true≢false (sym h))
key-name role.Least h = absurd (true≢false (sym h))
key-name role.Greatest h = absurd (true≢false (sym h))
key-name role.First h = absurd (true≢false (sym h))
key-name role.Last h = absurd (true≢false (sym h))

other-name : (r : Role) → is_key r ≡ false → bytes_eq (option_of r) (codes "by") ≡ false
other-name role.Key h = absurd (true≢false h)
other-name role.Rows h = refl
other-name role.Values h = refl
other-name role.Sum h = refl
other-name role.Mean h = refl
other-name role.Least h = refl
other-name role.Greatest h = refl
other-name role.First h = refl
other-name role.Last h = refl

-- options among which that of keys isn't have no key
no-keys : (us : List OptionUse) → list_any (λ m. bytes_eq m (codes "by")) (ids_of us) ≡ false → key_pieces us ≡ []
no-keys [] none = refl
no-keys (u ∷ us) none =
    let both = or_parts (bytes_eq (option_of u.role) (codes "by")) (list_any (λ m. bytes_eq m (codes "by")) (ids_of us)) none in
    by (is_key u.role) refl both.0 (no-keys us both.1)
  where
    by : (b : Bool) → is_key u.role ≡ b → bytes_eq (option_of u.role) (codes "by") ≡ false → key_pieces us ≡ [] → cond b (use_pieces u ++ key_pieces us) (key_pieces us) ≡ []
    by true e apart rest = absurd (true≢false (sym (ap (λ r. bytes_eq (option_of r) (codes "by")) (key-name u.role e)) ∙ apart))
    by false e apart rest = rest

keys-found : (us : List OptionUse) (rest : List Row) → has_double (ids_of us) ≡ false → AllByRecursion IsWritten us → find (λ r. bytes_eq r.id (codes "by")) rest ≡ None → pieces_for (map row_for us ++ rest) role.Key ≡ key_pieces us
keys-found [] rest once h none = ap (λ o. map (λ p. (role.Key, p)) (pieces_of (option_map (λ r. r.values) o))) none
keys-found (u ∷ us) rest once h none =
    let both = or_parts (list_any (λ m. bytes_eq m (option_of u.role)) (ids_of us)) (has_double (ids_of us)) once in
    by (is_key u.role) refl both.0 (keys-found us rest both.1 h.1 none)
  where
    rows : List Row
    rows = map row_for us ++ rest

    by : (b : Bool) → is_key u.role ≡ b → list_any (λ m. bytes_eq m (option_of u.role)) (ids_of us) ≡ false → pieces_for (map row_for us ++ rest) role.Key ≡ key_pieces us
        → pieces_for (row_for u ∷ (map row_for us ++ rest)) role.Key ≡ cond b (use_pieces u ++ key_pieces us) (key_pieces us)
    by true e apart others =
        let id : u.role ≡ role.Key = key-name u.role e in
        let found : find (λ r. bytes_eq r.id (option_of u.role)) (row_for u ∷ (map row_for us ++ rest)) ≡ Some (row_for u) =
        cond-true (bytes_eq (option_of u.role) (option_of u.role)) (Some (row_for u)) (find (λ r. bytes_eq r.id (option_of u.role)) (map row_for us ++ rest)) ((bytes_eq-Decides (option_of u.role) (option_of u.role)).1 refl) in
        let none_else : key_pieces us ≡ [] = no-keys us (ap (λ r. list_any (λ m. bytes_eq m (option_of r)) (ids_of us)) (sym id) ∙ apart) in
        ap (pieces_for (row_for u ∷ (map row_for us ++ rest))) (sym id) ∙ pieces-found u (row_for u ∷ (map row_for us ++ rest)) found h.0 (is_rows u.role) refl
        ∙ sym (append-nil (use_pieces u)) ∙ ap (λ ps. use_pieces u ++ ps) (sym none_else)
    by false e apart others =
        ap (λ o. map (λ p. (role.Key, p)) (pieces_of (option_map (λ r. r.values) o))) (cond-false (bytes_eq (option_of u.role) (codes "by")) (Some (row_for u)) (find (λ r. bytes_eq r.id (codes "by")) (map row_for us ++ rest)) (other-name u.role e)) ∙ others

-- ---- the pieces are those of the columns

-- the pieces of columns of a role that isn't the number of rows
each-named : (r : Role) → is_rows r ≡ false → (cs : List AskedColumn) → AllByRecursion (λ c. c.role ≡ r) cs → map piece_in cs ≡ map (λ p. (r, p)) (map piece_of cs)
each-named r e [] h = refl
each-named r e (c ∷ cs) h =
    let one : piece_in c ≡ (r, piece_of c) = ap (λ q. (q, cond (is_rows q) [] (piece_of c))) h.0 ∙ ap (λ b. (r, cond b [] (piece_of c))) e in
    let rest = each-named r e cs h.1 in
    λ i. one i ∷ rest i

pieces-named : (u : OptionUse) → IsWritten u → (b : Bool) → is_rows u.role ≡ b → map piece_in u.columns ≡ cond b ((u.role, []) ∷ []) (map (λ p. (u.role, p)) (map piece_of u.columns))
pieces-named u h true e = ap (map piece_in) (h.counted e) ∙ ap (λ r. (r, []) ∷ []) (rows-is u.role e)
  where
    rows-is : (r : Role) → is_rows r ≡ true → role.Rows ≡ r
    rows-is role.Key k = absurd (true≢false (sym k))
    rows-is role.Rows k = refl
    rows-is role.Values k = absurd (true≢false (sym k))
    rows-is role.Sum k = absurd (true≢false (sym k))
    rows-is role.Mean k = absurd (true≢false (sym k))
    rows-is role.Least k = absurd (true≢false (sym k))
    rows-is role.Greatest k = absurd (true≢false (sym k))
    rows-is role.First k = absurd (true≢false (sym k))
    rows-is role.Last k = absurd (true≢false (sym k))
pieces-named u h false e = each-named u.role e u.columns h.roles

-- columns of one role are all keys, or none is
kept-all : (test : AskedColumn → Bool) (cs : List AskedColumn) → AllByRecursion (λ c. test c ≡ true) cs → filter test cs ≡ cs
kept-all test [] h = refl
kept-all test (c ∷ cs) h = cond-true (test c) (c ∷ filter test cs) (filter test cs) h.0 ∙ ap (λ ds. c ∷ ds) (kept-all test cs h.1)

kept-none : (test : AskedColumn → Bool) (cs : List AskedColumn) → AllByRecursion (λ c. test c ≡ false) cs → filter test cs ≡ []
kept-none test [] h = refl
kept-none test (c ∷ cs) h = cond-false (test c) (c ∷ filter test cs) (filter test cs) h.0 ∙ kept-none test cs h.1

of-role : (test : Role → Bool) (b : Bool) (r : Role) → test r ≡ b → (cs : List AskedColumn) → AllByRecursion (λ c. c.role ≡ r) cs → AllByRecursion (λ c. test c.role ≡ b) cs
of-role test b r e [] h = tt
of-role test b r e (c ∷ cs) h = (ap test h.0 ∙ e, of-role test b r e cs h.1)

abbrev all_columns : List OptionUse → List AskedColumn
all_columns us = flat_map (λ u. u.columns) us

keys-pieces : (us : List OptionUse) → AllByRecursion IsWritten us → map piece_in (keys_in (all_columns us)) ≡ key_pieces us
keys-pieces [] h = refl
keys-pieces (u ∷ us) h =
    ap (map piece_in) (filter-append (λ c. is_key c.role) u.columns (all_columns us)) ∙ map-append piece_in (keys_in u.columns) (keys_in (all_columns us))
    ∙ by (is_key u.role) refl (keys-pieces us h.1)
  where
    by : (b : Bool) → is_key u.role ≡ b → map piece_in (keys_in (all_columns us)) ≡ key_pieces us → map piece_in (keys_in u.columns) ++ map piece_in (keys_in (all_columns us)) ≡ cond b (use_pieces u ++ key_pieces us) (key_pieces us)
    by true e rest =
        let own : map piece_in (keys_in u.columns) ≡ use_pieces u = ap (map piece_in) (kept-all (λ c. is_key c.role) u.columns (of-role is_key true u.role e u.columns h.0.roles)) ∙ pieces-named u h.0 (is_rows u.role) refl in
        λ i. own i ++ rest i
    by false e rest =
        let own : map piece_in (keys_in u.columns) ≡ [] = ap (map piece_in) (kept-none (λ c. is_key c.role) u.columns (of-role is_key false u.role e u.columns h.0.roles)) in
        λ i. own i ++ rest i

others-pieces : (us : List OptionUse) → AllByRecursion IsWritten us → map piece_in (aggs_in (all_columns us)) ≡ other_pieces us
others-pieces [] h = refl
others-pieces (u ∷ us) h =
    ap (map piece_in) (filter-append (λ c. not (is_key c.role)) u.columns (all_columns us)) ∙ map-append piece_in (aggs_in u.columns) (aggs_in (all_columns us))
    ∙ by (is_key u.role) refl (others-pieces us h.1)
  where
    by : (b : Bool) → is_key u.role ≡ b → map piece_in (aggs_in (all_columns us)) ≡ other_pieces us → map piece_in (aggs_in u.columns) ++ map piece_in (aggs_in (all_columns us)) ≡ cond b (other_pieces us) (use_pieces u ++ other_pieces us)
    by true e rest =
        let own : map piece_in (aggs_in u.columns) ≡ [] = ap (map piece_in) (kept-none (λ c. not (is_key c.role)) u.columns (of-role (λ r. not (is_key r)) false u.role (ap not e) u.columns h.0.roles)) in
        λ i. own i ++ rest i
    by false e rest =
        let own : map piece_in (aggs_in u.columns) ≡ use_pieces u = ap (map piece_in) (kept-all (λ c. not (is_key c.role)) u.columns (of-role (λ r. not (is_key r)) true u.role (ap not e) u.columns h.0.roles)) ∙ pieces-named u h.0 (is_rows u.role) refl in
        λ i. own i ++ rest i

-- where no role stands behind the others, or that of rows that aren't counted, no piece comes of it
extra-pieces : (us : List OptionUse) (files : List (List ℕ)) (b : Bool) → counts us files ≡ b → flat_map (pieces_for (rows_with us files b)) (extra_roles b) ≡ []
extra-pieces us files true e = refl
extra-pieces us files false e = rw (nothing-counted us files e) refl

pieces-back : (us : List OptionUse) (files : List (List ℕ)) → has_double (ids_of us) ≡ false → AllByRecursion IsWritten us → (b : Bool) → counts us files ≡ b → pieces_in (rows_with us files b) ≡ map piece_in (columns_of us)
pieces-back us files once h b e =
    let rows : List Row = rows_with us files b in
    let keys : pieces_for rows role.Key ≡ key_pieces us = keys-found us (row_with (codes "files") files ∷ extra b) once h (no-by b) in
    let others : flat_map (pieces_for rows) (filter_map (λ r. role_named r.id) rows) ≡ other_pieces us =
    ap (flat_map (pieces_for rows)) (all-roles us files b) ∙ flat_map-append (pieces_for rows) (other_roles us) (extra_roles b)
    ∙ ap (λ ps. ps ++ flat_map (pieces_for rows) (extra_roles b)) (others-found rows us (finds-all us (row_with (codes "files") files ∷ extra b) once) h)
    ∙ ap (λ ps. other_pieces us ++ ps) (extra-pieces us files b e) ∙ append-nil (other_pieces us) in
    (λ i. keys i ++ others i) ∙ (λ i. sym (keys-pieces us h) i ++ sym (others-pieces us h) i)
    ∙ sym (map-append piece_in (keys_in (all_columns us)) (aggs_in (all_columns us)))
  where
    no-by : (c : Bool) → find (λ r. bytes_eq r.id (codes "by")) (row_with (codes "files") files ∷ extra c) ≡ None
    no-by true = refl
    no-by false = refl

-- ---- what is asked

columns-back : (pieces : List (Role × List ℕ)) (rows : List Row) (cs : List AskedColumn) → shown_of pieces ≡ Ok cs → first_of (codes "order") rows ≡ None → first_of (codes "offset") rows ≡ None → first_of (codes "limit") rows ≡ None
    → columns_in pieces rows ≡ Ok (record { columns = cs; order = order.Key; offset = 0; limit = None })
columns-back pieces rows cs shown by_order offset limit =
    let rest : List AskedColumn → Option (List ℕ) → Option (List ℕ) → Option (List ℕ) → Result ColumnsSeen Refusal =
    λ ds o f l. on_ok (λ by. on_ok (λ first. ok_as (λ most_shown. record { columns = ds; order = by; offset = unwrap_or first 0; limit = most_shown }) (number_said 0 most (codes "limit") l)) (number_said 0 most (codes "offset") f)) (order_of ds o) in
    ap (on_ok (λ ds. rest ds (first_of (codes "order") rows) (first_of (codes "offset") rows) (first_of (codes "limit") rows))) shown
    ∙ (λ i. rest cs (by_order i) (offset i) (limit i))

else-of : (id : List ℕ) → bytes_eq (codes "by") id ≡ false → bytes_eq (codes "count") id ≡ false → bytes_eq (codes "count-of") id ≡ false → bytes_eq (codes "sum") id ≡ false → bytes_eq (codes "mean") id ≡ false
    → bytes_eq (codes "min") id ≡ false → bytes_eq (codes "max") id ≡ false → bytes_eq (codes "first") id ≡ false → bytes_eq (codes "last") id ≡ false → bytes_eq (codes "files") id ≡ false → IsElse id
else-of id a b c d e f g h k l = record { options = by; files = l }
  where
    by : (r : Role) → bytes_eq (option_of r) id ≡ false
    by role.Key = a
    by role.Rows = b
    by role.Values = c
    by role.Sum = d
    by role.Mean = e
    by role.Least = f
    by role.Greatest = g
    by role.First = h
    by role.Last = k

-- rows that ask for columns alone
asked-back : (us : List OptionUse) (files : List (List ℕ)) (b : Bool) → shown_of (pieces_in (rows_with us files b)) ≡ Ok (columns_of us) → asked_in (rows_with us files b) ≡ Ok (asked_by us files)
asked-back us files b shown =
    let rows : List Row = rows_with us files b in
    let none : (id : List ℕ) → IsElse id → first_of id rows ≡ None = λ id other. none-first id other us files b in
    let columns : question_in rows ≡ Ok (of_columns (record { columns = columns_of us; order = order.Key; offset = 0; limit = None })) =
    ap (λ o. question_by o (pieces_in rows) rows) (none (codes "query") (else-of (codes "query") refl refl refl refl refl refl refl refl refl refl))
    ∙ ap (ok_as of_columns) (columns-back (pieces_in rows) rows (columns_of us) shown
    (none (codes "order") (else-of (codes "order") refl refl refl refl refl refl refl refl refl refl))
    (none (codes "offset") (else-of (codes "offset") refl refl refl refl refl refl refl refl refl refl))
    (none (codes "limit") (else-of (codes "limit") refl refl refl refl refl refl refl refl refl refl))) in
    let format_none = none (codes "format") (else-of (codes "format") refl refl refl refl refl refl refl refl refl refl) in
    let workers_none = none (codes "workers") (else-of (codes "workers") refl refl refl refl refl refl refl refl refl refl) in
    let partitions_none = none (codes "partitions") (else-of (codes "partitions") refl refl refl refl refl refl refl refl refl refl) in
    let dir_none = none (codes "spill-dir") (else-of (codes "spill-dir") refl refl refl refl refl refl refl refl refl refl) in
    let whole : Result QuestionSeen Refusal → Option (List ℕ) → Option (List ℕ) → Option (List ℕ) → Option (List ℕ) → Option (List (List ℕ)) → Result AskedSeen Refusal =
    λ q f w p d fs. on_ok (λ question. on_ok (λ form. on_ok (λ threads. ok_as (λ parts. record { question = question; format = form; workers = threads; partitions = unwrap_or parts 16; spill_dir = d; files = files_in fs })
    (number_said 1 4096 (codes "partitions") p)) (number_said 1 256 (codes "workers") w)) (format_of f)) q in
    λ i. whole (columns i) (format_none i) (workers_none i) (partitions_none i) (dir_none i) (files-found us files b i)

-- ---- the whole

written-all : (us : List OptionUse) → AllByRecursion CanBeWritten us → AllByRecursion IsWritten us
written-all [] h = tt
written-all (u ∷ us) h = (written u h.0, written-all us h.1)

-- what is known of a column of an option by itself
abbrev Own : AskedColumn → Type 0
Own c = (is_rows c.role ≡ true → c ≡ record { role = c.role; column = []; dtype = dt.String; name = codes "count" }) × (is_rows c.role ≡ false → CanBeListed c)

own-listed : (r : Role) → is_rows r ≡ false → (cs : List AskedColumn) → AllByRecursion (λ c. c.role ≡ r) cs → AllByRecursion CanBeListed cs → AllByRecursion Own cs
own-listed r e [] h listed = tt
own-listed r e (c ∷ cs) h listed = ((λ rows. absurd (true≢false (sym rows ∙ ap is_rows h.0 ∙ e)), λ _. listed.0), own-listed r e cs h.1 listed.1)

own-use : (u : OptionUse) → IsWritten u → (b : Bool) → is_rows u.role ≡ b → AllByRecursion Own u.columns
own-use u h true e = subst (AllByRecursion Own) (sym (h.counted e)) ((λ _. refl, λ other. absurd (true≢false other)), tt)
own-use u h false e = own-listed u.role e u.columns h.roles (h.listed e)

all-append : {A : Type 0} (P : A → Type 0) (xs ys : List A) → AllByRecursion P xs → AllByRecursion P ys → AllByRecursion P (xs ++ ys)
all-append P [] ys h k = k
all-append P (x ∷ xs) ys h k = (h.0, all-append P xs ys h.1 k)

all-filter : (P : AskedColumn → Type 0) (test : AskedColumn → Bool) (cs : List AskedColumn) → AllByRecursion P cs → AllByRecursion P (filter test cs)
all-filter P test [] h = tt
all-filter P test (c ∷ cs) h = cond_both (test c) (c ∷ filter test cs) (filter test cs) (AllByRecursion P) (λ _. (h.0, all-filter P test cs h.1)) (λ _. all-filter P test cs h.1)

own-all : (us : List OptionUse) → AllByRecursion IsWritten us → AllByRecursion Own (all_columns us)
own-all [] h = tt
own-all (u ∷ us) h = all-append Own u.columns (all_columns us) (own-use u h.0 (is_rows u.role) refl) (own-all us h.1)

own-columns : (us : List OptionUse) → AllByRecursion IsWritten us → AllByRecursion Own (columns_of us)
own-columns us h =
    all-append Own (keys_in (all_columns us)) (aggs_in (all_columns us)) (all-filter Own (λ c. is_key c.role) (all_columns us) (own-all us h)) (all-filter Own (λ c. not (is_key c.role)) (all_columns us) (own-all us h))

good-columns : (types : List ℕ → DataType) (cs : List AskedColumn) → AllByRecursion Own cs → AllByRecursion (λ c. c.dtype ≡ types c.column) cs → AllByRecursion (λ c. is_input c.dtype ≡ true) cs → AllByRecursion (λ c. suits c.role c.dtype ≡ true) cs → AllByRecursion (CanBeIn types) cs
good-columns types [] own typed read suited = tt
good-columns types (c ∷ cs) own typed read suited =
    (record { counted = own.0.0; listed = own.0.1; typed = typed.0; read = read.0; suited = suited.0 }, good-columns types cs own.1 typed.1 read.1 suited.1)

module _ (us : List OptionUse) (w : AreWritable us) (a : IsAskable (by_keys (columns_of us))) where
  written-uses : AllByRecursion IsWritten us
  written-uses = written-all us (recursion_from_All CanBeWritten us w.each)

  good : AllByRecursion (CanBeIn a.types) (columns_of us)
  good = good-columns a.types (columns_of us) (own-columns us written-uses)
      (recursion_from_All (λ c. c.dtype ≡ a.types c.column) (columns_of us) a.typed) (recursion_from_All (λ c. is_input c.dtype ≡ true) (columns_of us) a.read) (recursion_from_All (λ c. suits c.role c.dtype ≡ true) (columns_of us) a.suited)

  shown-back : (files : List (List ℕ)) → shown_of (pieces_in (rows_with us files (counts us files))) ≡ Ok (columns_of us)
  shown-back files = ap shown_of (pieces-back us files w.once written-uses (counts us files) refl) ∙ columns-shown a.types (columns_of us) good a.some a.told_apart

  one-file : (file : List ℕ) (fs : List (List ℕ)) → asked_of (words_of us (file ∷ fs)) ≡ ask (asked_by us (file ∷ fs))
  one-file file fs =
      ap (λ ws. words_by (found_in ws)) (words-joined us file fs) ∙ ap words_by (words-found us file fs w.once)
      ∙ ap (λ rows. ask_or (asked_in rows)) (found-is us (file ∷ fs)) ∙ ap ask_or (asked-back us (file ∷ fs) (counts us (file ∷ fs)) (shown-back (file ∷ fs)))

  -- written words are taken, and ask what was written
  pub written-asked : (files : List (List ℕ)) → length files ≢ 0 → asked_of (words_of us files) ≡ ask (asked_by us files)
  written-asked [] some = absurd (some refl)
  written-asked (file ∷ fs) some = one-file file fs

-- Words that are written option by option are taken.
use Rattle.std.proofs.Common.{◌≡◌, ◌∙◌, ◌++◌, ◌||◌, ℕ, Bool, true, false, cond, List, [], ◌∷◌, map, drop, get_or, fold, bytes_eq, Some, None, is_some, codes, refl, sym, ap, true≢false, append_assoc, append-nil}
use Rattle.std.specs.List.{AllByRecursion, list_any}
use Rattle.std.proofs.lemmas.Bool.{cond-false, cond_both, or_from, or_parts}
use Rattle.std.proofs.lemmas.List.Folds.{list_any-append}
use Rattle.clap.specs.Kinds.{Kinds, or_else}
use Rattle.clap.specs.Simple.{built, entered, matches_of, new_rule}
use Rattle.clap.specs.Faults.{check_fault, default_fault, defaults_fault, entered_fault, fault_of, given_default_fault, settle_fault, turn_fault, walk_fault}
use Rattle.clap.specs.Walk.{Row, Rule, Walk, at_row, finished, has_row, is_empty, more_values, nothing_held, settled, walk, walked, with_default, with_values, without}
use Rattle.clap.specs.declared.builder.value_parser.Reading.TheVariants as reading
use Rattle.clap.specs.declared.parser.matches.ValueSource.TheVariants as source
use Rattle.pipe_aggs.specs.Faults.{has_double}
use Rattle.lavzimo_words.specs.Command.{found_by, found_in, lavzimo_app, taken}
use Rattle.lavzimo_words.specs.Joined.{is_order, joined}
use Rattle.lavzimo_words.specs.Roles.{is_rows, option_of}
use Rattle.lavzimo_words.specs.WordsOf.{OptionUse, list_of, word_of, words_of}
use Rattle.lavzimo_words.specs.declared.role.Role.{Role}
use Rattle.lavzimo_words.specs.declared.role.Role.TheVariants as role
use Rattle.lavzimo_words.proofs.FieldFacts.{turned-apart}
use Rattle.lavzimo_words.proofs.WalkFacts.{after_signs, before, behind_file, count-fault, count-step, first-fault, first-file, list-fault, list-step, next-fault, next-file, option_text, rules, signs-fault, signs-step, with_file}

-- ---- rows

-- a row of an option
abbrev pub row_with : List ℕ → List (List ℕ) → Row
row_with id values = record { id = id; values = values; count = None; source = Some source.CommandLine; reading = reading.AsWritten }

-- what an option leaves
abbrev pub row_for : OptionUse → Row
row_for u = row_with (option_of u.role) (cond (is_rows u.role) (codes "true" ∷ []) (list_of u.columns ∷ []))

pub fresh-row : (id : List ℕ) (change : Row → List Row) (missing rows : List Row) → has_row id rows ≡ false → at_row id change missing rows ≡ rows ++ missing
fresh-row id change missing [] h = refl
fresh-row id change missing (r ∷ rows) h =
    let both = or_parts (bytes_eq r.id id) (has_row id rows) h in
    rw (both.0) (ap (λ rs. r ∷ rs) (fresh-row id change missing rows both.1))

last-row : (id : List ℕ) (change : Row → List Row) (missing rows : List Row) (r : Row) → has_row id rows ≡ false → bytes_eq r.id id ≡ true → at_row id change missing (rows ++ r ∷ []) ≡ rows ++ change r
last-row id change missing [] r h same = rw same (append-nil (change r))
last-row id change missing (q ∷ rows) r h same =
    let both = or_parts (bytes_eq q.id id) (has_row id rows) h in
    rw (both.0) (ap (λ rs. q ∷ rs) (last-row id change missing rows r both.1 same))

-- ---- options

-- the option that counts rows
pub rows-option : (r : Role) → is_rows r ≡ true → option_of r ≡ codes "count"
rows-option role.Key h = absurd (true≢false (sym h))
rows-option role.Rows h = refl
rows-option role.Values h = absurd (true≢false (sym h))
rows-option role.Sum h = absurd (true≢false (sym h))
rows-option role.Mean h = absurd (true≢false (sym h))
rows-option role.Least h = absurd (true≢false (sym h))
rows-option role.Greatest h = absurd (true≢false (sym h))
rows-option role.First h = absurd (true≢false (sym h))
rows-option role.Last h = absurd (true≢false (sym h))

option-row : (u : OptionUse) (rows : List Row) → has_row (option_of u.role) rows ≡ false → (b : Bool) → is_rows u.role ≡ b → walked rules [] (before rows) (word_of u) ≡ before (rows ++ row_for u ∷ [])
option-row u rows new false e =
    rw e (list-step u.role (list_of u.columns) rows e ∙ ap before (fresh-row (option_of u.role) (more_values source.CommandLine (list_of u.columns ∷ [])) (row_with (option_of u.role) (list_of u.columns ∷ []) ∷ []) rows new))
option-row u rows new true e =
    let id : option_of u.role ≡ codes "count" = rows-option u.role e in
    let fresh : has_row (codes "count") rows ≡ false = ap (λ i. has_row i rows) (sym id) ∙ new in
    let clean : without (codes "count") rows ≡ rows = fresh-row (codes "count") (λ _. []) [] rows fresh ∙ append-nil rows in
    rw (e, id) (count-step rows ∙ ap before (ap (λ rs. with_values (codes "count") reading.AsWritten source.CommandLine (codes "true" ∷ []) rs) clean ∙ fresh-row (codes "count") (more_values source.CommandLine (codes "true" ∷ [])) (row_with (codes "count") (codes "true" ∷ []) ∷ []) rows fresh))

option-fault : (u : OptionUse) (rows : List Row) → has_row (option_of u.role) rows ≡ false → (b : Bool) → is_rows u.role ≡ b → turn_fault (built lavzimo_app).top [] (before rows) (word_of u) ≡ []
option-fault u rows new false e = ap (λ b. turn_fault (built lavzimo_app).top [] (before rows) (cond b (codes "--count") (option_text u.role (list_of u.columns)))) e ∙ list-fault u.role (list_of u.columns) rows e
option-fault u rows new true e =
    ap (λ b. turn_fault (built lavzimo_app).top [] (before rows) (cond b (codes "--count") (option_text u.role (list_of u.columns)))) e
    ∙ count-fault rows (ap (λ i. has_row i rows) (sym (rows-option u.role e)) ∙ new)

-- options of which none stands twice, and none has a row yet
abbrev pub ids_of : List OptionUse → List (List ℕ)
ids_of us = map (λ u. option_of u.role) us

abbrev pub AreFresh : List Row → List OptionUse → Type 0
AreFresh rows us = AllByRecursion (λ u. has_row (option_of u.role) rows ≡ false) us

fresh-push : (rows : List Row) (r : Row) (us : List OptionUse) → AreFresh rows us → list_any (λ m. bytes_eq m r.id) (ids_of us) ≡ false → AreFresh (rows ++ r ∷ []) us
fresh-push rows r [] h new = tt
fresh-push rows r (u ∷ us) h new =
    let both = or_parts (bytes_eq (option_of u.role) r.id) (list_any (λ m. bytes_eq m r.id) (ids_of us)) new in (
      list_any-append (λ q. bytes_eq q.id (option_of u.role)) rows (r ∷ []) ∙ or_from (has_row (option_of u.role) rows) _ h.0 (or_from (bytes_eq r.id (option_of u.role)) false (turned-apart (option_of u.role) r.id both.0) refl),
      fresh-push rows r us h.1 both.1,
    )

module _ (rest : List (List ℕ)) where
  walk-uses : (us : List OptionUse) (rows : List Row) → has_double (ids_of us) ≡ false → AreFresh rows us → fold (walked rules []) (before rows) (map word_of us ++ rest) ≡ fold (walked rules []) (before (rows ++ map row_for us)) rest
  walk-uses [] rows once new = ap (λ rs. fold (walked rules []) (before rs) rest) (sym (append-nil rows))
  walk-uses (u ∷ us) rows once new =
      let both = or_parts (list_any (λ m. bytes_eq m (option_of u.role)) (ids_of us)) (has_double (ids_of us)) once in
      ap (λ w. fold (walked rules []) w (map word_of us ++ rest)) (option-row u rows new.0 (is_rows u.role) refl)
      ∙ walk-uses us (rows ++ row_for u ∷ []) both.1 (fresh-push rows (row_for u) us new.1 both.0)
      ∙ ap (λ rs. fold (walked rules []) (before rs) rest) (append_assoc rows (row_for u ∷ []) (map row_for us))

  fault-uses : (us : List OptionUse) (rows : List Row) → has_double (ids_of us) ≡ false → AreFresh rows us
      → walk_fault (built lavzimo_app).top [] (before rows) (map word_of us ++ rest) ≡ walk_fault (built lavzimo_app).top [] (before (rows ++ map row_for us)) rest
  unfolding walk_fault
  fault-uses [] rows once new = ap (λ rs. walk_fault (built lavzimo_app).top [] (before rs) rest) (sym (append-nil rows))
  fault-uses (u ∷ us) rows once new =
      let both = or_parts (list_any (λ m. bytes_eq m (option_of u.role)) (ids_of us)) (has_double (ids_of us)) once in
      ap (λ ks. or_else ks (walk_fault (built lavzimo_app).top [] (walked rules [] (before rows) (word_of u)) (map word_of us ++ rest))) (option-fault u rows new.0 (is_rows u.role) refl)
      ∙ ap (λ w. walk_fault (built lavzimo_app).top [] w (map word_of us ++ rest)) (option-row u rows new.0 (is_rows u.role) refl)
      ∙ fault-uses us (rows ++ row_for u ∷ []) both.1 (fresh-push rows (row_for u) us new.1 both.0)
      ∙ ap (λ rs. walk_fault (built lavzimo_app).top [] (before rs) rest) (append_assoc rows (row_for u ∷ []) (map row_for us))

-- ---- files

-- rows with files, one after another
abbrev with_files : List Row → List ℕ → List (List ℕ) → List Row
with_files rows file [] = with_file file rows
with_files rows file (f ∷ fs) = with_files (with_file file rows) f fs

-- where the walk over files ends
abbrev end_of : List Row → List ℕ → List (List ℕ) → Walk
end_of rows file [] = behind_file rows file
end_of rows file (f ∷ fs) = end_of (with_file file rows) f fs

walk-files : (fs : List (List ℕ)) (rows : List Row) (file : List ℕ) → fold (walked rules []) (behind_file rows file) fs ≡ end_of rows file fs
walk-files [] rows file = refl
walk-files (f ∷ fs) rows file = ap (λ w. fold (walked rules []) w fs) (next-file rows file f) ∙ walk-files fs (with_file file rows) f

fault-files : (fs : List (List ℕ)) (rows : List Row) (file : List ℕ) → walk_fault (built lavzimo_app).top [] (behind_file rows file) fs ≡ []
unfolding walk_fault
fault-files [] rows file = refl
fault-files (f ∷ fs) rows file =
    ap (λ ks. or_else ks (walk_fault (built lavzimo_app).top [] (walked rules [] (behind_file rows file) f) fs)) (next-fault rows file f)
    ∙ ap (λ w. walk_fault (built lavzimo_app).top [] w fs) (next-file rows file f) ∙ fault-files fs (with_file file rows) f

settled-files : (fs : List (List ℕ)) (rows : List Row) (file : List ℕ) → (settled rules (end_of rows file fs).held).rows ≡ with_files rows file fs
settled-files [] rows file = refl
settled-files (f ∷ fs) rows file = settled-files fs (with_file file rows) f

stopped-files : (fs : List (List ℕ)) (rows : List Row) (file : List ℕ) → (end_of rows file fs).stopped ≡ None
stopped-files [] rows file = refl
stopped-files (f ∷ fs) rows file = stopped-files fs (with_file file rows) f

more-files : (fs : List (List ℕ)) (rows : List Row) (names : List (List ℕ)) (file : List ℕ) → has_row (codes "files") rows ≡ false → with_files (rows ++ row_with (codes "files") names ∷ []) file fs ≡ rows ++ row_with (codes "files") (names ++ file ∷ fs) ∷ []
more-files [] rows names file h = last-row (codes "files") (more_values source.CommandLine (file ∷ [])) (row_with (codes "files") (file ∷ []) ∷ []) rows (row_with (codes "files") names) h refl
more-files (f ∷ fs) rows names file h =
    ap (λ rs. with_files rs f fs) (last-row (codes "files") (more_values source.CommandLine (file ∷ [])) (row_with (codes "files") (file ∷ []) ∷ []) rows (row_with (codes "files") names) h refl)
    ∙ more-files fs rows (names ++ file ∷ []) f h
    ∙ ap (λ vs. rows ++ row_with (codes "files") vs ∷ []) (append_assoc names (file ∷ []) (f ∷ fs))

all-files : (fs : List (List ℕ)) (rows : List Row) (file : List ℕ) → has_row (codes "files") rows ≡ false → with_files rows file fs ≡ rows ++ row_with (codes "files") (file ∷ fs) ∷ []
all-files [] rows file h = fresh-row (codes "files") (more_values source.CommandLine (file ∷ [])) (row_with (codes "files") (file ∷ []) ∷ []) rows h
all-files (f ∷ fs) rows file h =
    ap (λ rs. with_files rs f fs) (fresh-row (codes "files") (more_values source.CommandLine (file ∷ [])) (row_with (codes "files") (file ∷ []) ∷ []) rows h) ∙ more-files fs rows (file ∷ []) f h

-- ---- defaults

no-default : (rows : List Row) (a : Rule) → a.defaults ≡ [] → with_default rows a ≡ rows
no-default rows a h = cond_both (has_row a.id rows) rows _ (λ rs. rs ≡ rows) (λ _. refl) (λ _. rw h refl)

no-defaults : (rs : List Rule) (rows : List Row) → AllByRecursion (λ a. a.defaults ≡ []) rs → fold with_default rows rs ≡ rows
no-defaults [] rows h = refl
no-defaults (a ∷ rs) rows h = ap (λ q. fold with_default q rs) (no-default rows a h.0) ∙ no-defaults rs rows h.1

-- the rules but the first two, which are that of keys and the one that counts rows
abbrev later_rules : List Rule
later_rules = drop 2 rules

abbrev key_rule : Rule
key_rule = get_or rules 0 (new_rule [])

abbrev pub counting_rule : Rule
counting_rule = get_or rules 1 (new_rule [])

later-none : AllByRecursion (λ a. a.defaults ≡ []) later_rules
later-none = (refl, (refl, (refl, (refl, (refl, (refl, (refl, (refl, (refl, (refl, (refl, (refl, (refl, (refl, (refl, (refl, (refl, (refl, tt))))))))))))))))))

all-defaults : (rows : List Row) → fold with_default rows rules ≡ with_default rows counting_rule
all-defaults rows =
    ap (λ q. fold with_default (with_default q counting_rule) later_rules) (no-default rows key_rule refl) ∙ no-defaults later_rules (with_default rows counting_rule) later-none

default-calm : (rows : List Row) (a : Rule) → a.defaults ≡ [] → default_fault rows a ≡ []
default-calm rows a h =
    let empty : is_empty a.defaults ≡ true = ap is_empty h in
    cond_both (has_row a.id rows || is_empty a.defaults) [] (given_default_fault a a.defaults) (λ ks. ks ≡ []) (λ _. refl) (λ none. absurd (true≢false (sym empty ∙ (or_parts (has_row a.id rows) (is_empty a.defaults) none).1)))

defaults-calm : (rs : List Rule) (rows : List Row) → AllByRecursion (λ a. a.defaults ≡ []) rs → defaults_fault rows rs ≡ []
unfolding defaults_fault
defaults-calm [] rows h = refl
defaults-calm (a ∷ rs) rows h =
    ap (λ ks. or_else ks (defaults_fault (with_default rows a) rs)) (default-calm rows a h.0) ∙ defaults-calm rs (with_default rows a) h.1

count-calm : (rows : List Row) → default_fault rows counting_rule ≡ []
count-calm rows = cond_both (has_row (codes "count") rows || false) [] (given_default_fault counting_rule (codes "false" ∷ [])) (λ ks. ks ≡ []) (λ _. refl) (λ _. refl)

all-calm : (rows : List Row) → defaults_fault rows rules ≡ []
unfolding defaults_fault
all-calm rows =
    ap (λ ks. or_else ks (or_else (default_fault (with_default rows key_rule) counting_rule) (defaults_fault (with_default (with_default rows key_rule) counting_rule) later_rules))) (default-calm rows key_rule refl)
    ∙ ap (λ ks. or_else ks (defaults_fault (with_default (with_default rows key_rule) counting_rule) later_rules)) (count-calm (with_default rows key_rule))
    ∙ defaults-calm later_rules (with_default (with_default rows key_rule) counting_rule) later-none

-- ---- the whole

-- what is found in words: the options' rows, that of the files, and that of no count where rows aren't counted
abbrev pub rows_found : List OptionUse → List (List ℕ) → List Row
rows_found us files = with_default (map row_for us ++ row_with (codes "files") files ∷ []) counting_rule

none-fresh : (us : List OptionUse) → AreFresh [] us
none-fresh [] = tt
none-fresh (u ∷ us) = (refl, none-fresh us)

no-files : (us : List OptionUse) → has_row (codes "files") (map row_for us) ≡ false
no-files [] = refl
no-files (u ∷ us) = or_from (bytes_eq (option_of u.role) (codes "files")) _ (other u.role) (no-files us)
  where
    other : (r : Role) → bytes_eq (option_of r) (codes "files") ≡ false
    other role.Key = refl
    other role.Rows = refl
    other role.Values = refl
    other role.Sum = refl
    other role.Mean = refl
    other role.Least = refl
    other role.Greatest = refl
    other role.First = refl
    other role.Last = refl

module _ (us : List OptionUse) (file : List ℕ) (fs : List (List ℕ)) (once : has_double (ids_of us) ≡ false) where
  abbrev words : List (List ℕ)
  words = words_of us (file ∷ fs)

  walked-words : walk rules [] nothing_held words ≡ end_of (map row_for us) file fs
  walked-words =
      walk-uses (codes "--" ∷ file ∷ fs) us [] once (none-fresh us)
      ∙ ap (λ w. fold (walked rules []) w (file ∷ fs)) (signs-step (map row_for us))
      ∙ ap (λ w. fold (walked rules []) w fs) (first-file (map row_for us) file) ∙ walk-files fs (map row_for us) file

  calm-words : walk_fault (built lavzimo_app).top [] (before []) words ≡ []
  unfolding walk_fault
  calm-words =
      fault-uses (codes "--" ∷ file ∷ fs) us [] once (none-fresh us)
      ∙ ap (λ ks. or_else ks (walk_fault (built lavzimo_app).top [] (walked rules [] (before (map row_for us)) (codes "--")) (file ∷ fs))) (signs-fault (map row_for us))
      ∙ ap (λ w. walk_fault (built lavzimo_app).top [] w (file ∷ fs)) (signs-step (map row_for us))
      ∙ ap (λ ks. or_else ks (walk_fault (built lavzimo_app).top [] (walked rules [] (after_signs (map row_for us)) file) fs)) (first-fault (map row_for us) file)
      ∙ ap (λ w. walk_fault (built lavzimo_app).top [] w fs) (first-file (map row_for us) file)
      ∙ fault-files fs (map row_for us) file

  matched-words : matches_of lavzimo_app words ≡ rows_found us (file ∷ fs)
  matched-words =
      ap (λ w. finished rules w.held) walked-words
      ∙ ap (λ rs. fold with_default rs rules) (settled-files fs (map row_for us) file ∙ all-files fs (map row_for us) file (no-files us))
      ∙ all-defaults (map row_for us ++ row_with (codes "files") (file ∷ fs) ∷ [])

-- what is left to be tested behind the walk
abbrev left_fault : Kinds → Walk → Kinds
left_fault ks w =
    or_else ks
    (or_else (entered_fault (built lavzimo_app) w.stopped)
    (or_else (settle_fault rules (built lavzimo_app).top.args_override_self w.held)
    (or_else (defaults_fault (settled rules w.held).rows rules)
    (check_fault (built lavzimo_app).top (finished rules w.held) (is_some (entered (built lavzimo_app) w.stopped))))))

end-calm : (fs : List (List ℕ)) (rows : List Row) (file : List ℕ) → left_fault [] (end_of rows file fs) ≡ []
end-calm [] rows file = ap (λ ks. or_else ks (check_fault (built lavzimo_app).top (finished rules (behind_file rows file).held) false)) (all-calm (with_file file rows))
end-calm (f ∷ fs) rows file = end-calm fs (with_file file rows) f

-- the words are taken, and these rows are found
pub words-found : (us : List OptionUse) (file : List ℕ) (fs : List (List ℕ)) → has_double (ids_of us) ≡ false → found_in (words_of us (file ∷ fs)) ≡ taken (rows_found us (file ∷ fs))
words-found us file fs once =
    let ws : List (List ℕ) = words_of us (file ∷ fs) in
    let calm : fault_of lavzimo_app ws ≡ [] =
    ap (λ ks. left_fault ks (walk rules [] nothing_held ws)) (calm-words us file fs once) ∙ ap (left_fault []) (walked-words us file fs once) ∙ end-calm fs (map row_for us) file in
    ap (λ ks. found_by ks (matches_of lavzimo_app ws)) calm ∙ ap taken (matched-words us file fs once)

-- ---- words that are joined

apart-word : (u : OptionUse) (value : List ℕ) → (bytes_eq (word_of u) (codes "--") ≡ false) × (is_order (word_of u) value ≡ false)
apart-word u value = by u.role (is_rows u.role) refl
  where
    by : (r : Role) (b : Bool) → is_rows r ≡ b → let w : List ℕ = cond b (codes "--count") (option_text r (list_of u.columns)) in (bytes_eq w (codes "--") ≡ false) × (is_order w value ≡ false)
    by r true e = (refl, refl)
    by role.Key false e = (refl, refl)
    by role.Rows false e = absurd (true≢false e)
    by role.Values false e = (refl, refl)
    by role.Sum false e = (refl, refl)
    by role.Mean false e = (refl, refl)
    by role.Least false e = (refl, refl)
    by role.Greatest false e = (refl, refl)
    by role.First false e = (refl, refl)
    by role.Last false e = (refl, refl)

joined-more : (u : OptionUse) (v : List ℕ) (rest : List (List ℕ)) → joined (word_of u ∷ v ∷ rest) ≡ word_of u ∷ joined (v ∷ rest)
joined-more u v rest =
    let apart = apart-word u v in
    cond-false (bytes_eq (word_of u) (codes "--")) _ _ apart.0 ∙ cond-false (is_order (word_of u) v) _ _ apart.1

pub words-joined : (us : List OptionUse) (file : List ℕ) (fs : List (List ℕ)) → joined (words_of us (file ∷ fs)) ≡ words_of us (file ∷ fs)
words-joined [] file fs = refl
words-joined (u ∷ []) file fs = joined-more u (codes "--") (file ∷ fs)
words-joined (u ∷ v ∷ us) file fs = joined-more u (word_of v) (words_of us (file ∷ fs)) ∙ ap (λ ws. word_of u ∷ ws) (words-joined (v ∷ us) file fs)

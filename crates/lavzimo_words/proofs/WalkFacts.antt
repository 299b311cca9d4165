-- How `clap` goes over words that are written option by option.
use Rattle.std.proofs.Common.{◌≡◌, ◌++◌, ℕ, true, false, List, [], ◌∷◌, Some, None, codes, refl, true≢false}
use Rattle.clap.specs.Simple.{built}
use Rattle.clap.specs.Faults.{turn_fault}
use Rattle.clap.specs.Walk.{Row, Rule, Walk, has_row, positional, walk_from, walked, with_values, without}
use Rattle.clap.specs.declared.builder.value_parser.Reading.TheVariants as reading
use Rattle.clap.specs.declared.parser.matches.ValueSource.TheVariants as source
use Rattle.lavzimo_words.specs.Command.{lavzimo_app}
use Rattle.lavzimo_words.specs.Roles.{is_rows, option_of}
use Rattle.lavzimo_words.specs.declared.role.Role.{Role}
use Rattle.lavzimo_words.specs.declared.role.Role.TheVariants as role

-- the rules of the command
abbrev pub rules : List Rule
rules = (built lavzimo_app).top.rules

-- the walk before an option, with rows so far
abbrev pub before : List Row → Walk
before rows = walk_from (record { rows = rows; pending = None; skip = 0 })

abbrev pub option_text : Role → List ℕ → List ℕ
option_text r value = codes "--" ++ option_of r ++ codes "=" ++ value

-- an option with a list
abbrev pub with_list : Role → List ℕ → List Row → List Row
with_list r value rows = with_values (option_of r) reading.AsWritten source.CommandLine (value ∷ []) rows

pub list-step : (r : Role) (value : List ℕ) (rows : List Row) → is_rows r ≡ false → walked rules [] (before rows) (option_text r value) ≡ before (with_list r value rows)
unfolding walked
list-step role.Key value rows h = refl
list-step role.Rows value rows h = absurd (true≢false h)
list-step role.Values value rows h = refl
list-step role.Sum value rows h = refl
list-step role.Mean value rows h = refl
list-step role.Least value rows h = refl
list-step role.Greatest value rows h = refl
list-step role.First value rows h = refl
list-step role.Last value rows h = refl

pub list-fault : (r : Role) (value : List ℕ) (rows : List Row) → is_rows r ≡ false → turn_fault (built lavzimo_app).top [] (before rows) (option_text r value) ≡ []
list-fault role.Key value rows h = refl
list-fault role.Rows value rows h = absurd (true≢false h)
list-fault role.Values value rows h = refl
list-fault role.Sum value rows h = refl
list-fault role.Mean value rows h = refl
list-fault role.Least value rows h = refl
list-fault role.Greatest value rows h = refl
list-fault role.First value rows h = refl
list-fault role.Last value rows h = refl

-- the option that counts rows
abbrev pub with_count_row : List Row → List Row
with_count_row rows = with_values (codes "count") reading.AsWritten source.CommandLine (codes "true" ∷ []) (without (codes "count") rows)

pub count-step : (rows : List Row) → walked rules [] (before rows) (codes "--count") ≡ before (with_count_row rows)
unfolding walked
count-step rows = refl

pub count-fault : (rows : List Row) → has_row (codes "count") rows ≡ false → turn_fault (built lavzimo_app).top [] (before rows) (codes "--count") ≡ []
count-fault rows h = rw h refl

-- files behind two signs
abbrev pub after_signs : List Row → Walk
after_signs rows = record (before rows) { is_trailing = true }

pub signs-step : (rows : List Row) → walked rules [] (before rows) (codes "--") ≡ after_signs rows
unfolding walked
signs-step rows = refl

pub signs-fault : (rows : List Row) → turn_fault (built lavzimo_app).top [] (before rows) (codes "--") ≡ []
signs-fault rows = refl

-- the walk behind a file
abbrev pub behind_file : List Row → List ℕ → Walk
behind_file rows file = record {
  held = record { rows = rows; pending = Some (codes "files", file ∷ []); skip = 0 };
  waiting = positional;
  position = 1;
  is_trailing = true;
  stopped = None;
}

abbrev pub with_file : List ℕ → List Row → List Row
with_file file rows = with_values (codes "files") reading.AsWritten source.CommandLine (file ∷ []) rows

pub first-file : (rows : List Row) (file : List ℕ) → walked rules [] (after_signs rows) file ≡ behind_file rows file
unfolding walked
first-file rows file = refl

pub next-file : (rows : List Row) (file other : List ℕ) → walked rules [] (behind_file rows file) other ≡ behind_file (with_file file rows) other
unfolding walked
next-file rows file other = refl

pub first-fault : (rows : List Row) (file : List ℕ) → turn_fault (built lavzimo_app).top [] (after_signs rows) file ≡ []
first-fault rows file = refl

pub next-fault : (rows : List Row) (file other : List ℕ) → turn_fault (built lavzimo_app).top [] (behind_file rows file) other ≡ []
next-fault rows file other = refl

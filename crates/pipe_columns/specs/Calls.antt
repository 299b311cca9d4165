-- Calls that are numbered, of which listed ones fail.
use Rattle.std.specs.Prelude.{◌==◌, ℕ, List, Bool, if◌then◌else◌}
use Rattle.std.specs.List.{list_any}
use Rattle.pipe_columns.specs.Causes.{one_more}

-- the numbers of the calls that fail, the number of the next call, and how many failed
pub record Calls : Type 0 where
  pub failing : List ℕ
  pub next : ℕ
  pub faults : ℕ

-- before the first call
abbrev pub no_calls : List ℕ → Calls
no_calls failing = record { failing = failing; next = 0; faults = 0 }

-- whether the next call fails
abbrev pub is_listed : Calls → Bool
is_listed c = list_any (λ n. n == c.next) c.failing

-- the count of faults after the next call
abbrev pub faults_after : Calls → ℕ
faults_after c = if is_listed c then one_more c.faults else c.faults

-- after the next call; each call past the last number has that number too
abbrev pub after_call : Calls → Calls
after_call c = record { failing = c.failing; next = one_more c.next; faults = faults_after c }

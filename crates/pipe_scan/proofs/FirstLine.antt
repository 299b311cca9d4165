-- The first line of a text, as a record.
use Rattle.std.proofs.Common.{ℕ, List, [], ◌∷◌, Option, Some, None, if◌then◌else◌}
use Rattle.csv.specs.Machine.{Read, after_end}
use Rattle.csv.specs.declared.parser.State.{State}
use Rattle.csv.specs.declared.parser.State.TheVariants as st
use Rattle.csv.specs.declared.parser.Terminator.TheVariants as term
use Rattle.pipe_scan.specs.Lines.{ends_line, fields_of_line}

-- the text from its first byte that ends no line
abbrev pub skip_ends : List ℕ → List ℕ
skip_ends [] = []
skip_ends (c ∷ cs) = if ends_line c then skip_ends cs else c ∷ cs

-- what stands before the first byte that ends a line
abbrev pub line_of : List ℕ → List ℕ
line_of [] = []
line_of (c ∷ cs) = if ends_line c then [] else c ∷ line_of cs

-- what stands behind the first byte that ends a line
abbrev pub after_line : List ℕ → List ℕ
after_line [] = []
after_line (c ∷ cs) = if ends_line c then cs else after_line cs

-- the state of a reader there: behind a CR it looks for a LF
abbrev pub state_after : List ℕ → State
state_after [] = st.StartRecord
state_after (c ∷ cs) = if ends_line c then after_end term.CRLF c else state_after cs

-- the first line of a text, as a record
abbrev pub first_line_record : List ℕ → Option Read
first_line_record [] = None
first_line_record (c ∷ cs) =
    Some (fields_of_line (line_of (c ∷ cs)), state_after (c ∷ cs), after_line (c ∷ cs))

-- the first line of a text that isn't empty, as a record
abbrev pub next_line_record : List ℕ → Option Read
next_line_record xs = first_line_record (skip_ends xs)

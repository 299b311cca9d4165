-- What writers of rows have written.
use Rattle.std.specs.Prelude.{◌≡◌, ℕ, List, [], ◌++◌, ◌||◌, Bool, true, false, Option, IfSome, take, if◌then◌else◌}
use Rattle.pipe_writers.specs.declared.sink_writer.WriterCalls.{WriterCalls}
use Rattle.pipe_lines.specs.Lines.{LineText, text_of_lines}
use Rattle.pipe_lines.specs.Rows.{Row}

-- before any call
abbrev pub no_writer_calls : WriterCalls
no_writer_calls = record { begun = false; refused = false; finished = false }

-- after a batch, which may have been refused
abbrev pub after_batch : Bool → WriterCalls → WriterCalls
after_batch refused c = record c { begun = true; refused = c.refused || refused }

-- after the finish, which may have been refused
abbrev pub after_finish : Bool → WriterCalls → WriterCalls
after_finish refused c = record c { refused = c.refused || refused; finished = true }

-- a writer takes calls: none was refused, and it wasn't finished
pub record IsOpen (c : WriterCalls) : Type 0 where
  pub unrefused : c.refused ≡ false
  pub unfinished : c.finished ≡ false

-- a writer of which nothing was called
pub record IsFresh (c : WriterCalls) : Type 0 where
  pub begun : c.begun ≡ false
  pub unrefused : c.refused ≡ false
  pub unfinished : c.finished ≡ false

-- where the output tells, it tells some bytes and then these
abbrev pub TellsAfter : Option (List ℕ) → List ℕ → List ℕ → Type 0
TellsAfter told since bytes = IfSome told (λ all. all ≡ since ++ bytes)

-- where the output tells, it tells some bytes and then a front of these
abbrev pub TellsFront : Option (List ℕ) → List ℕ → List ℕ → Type 0
TellsFront told since bytes = (n : ℕ) × TellsAfter told since (take n bytes)

-- whether a writer has put out its text so far: after its first call
abbrev pub has_begun : WriterCalls → Bool
has_begun c = c.begun || c.finished

-- what a writer of lines has put out of rows since some bytes, by whether it had a call and whether
-- one was refused: nothing before the first call, then the whole text, or a front of it
abbrev pub PutOutBy : Bool → Bool → Option (List ℕ) → LineText → List Row → List ℕ → Type 0
PutOutBy false refused told t rows since = (rows ≡ []) × TellsAfter told since []
PutOutBy true false told t rows since = TellsAfter told since (text_of_lines t rows)
PutOutBy true true told t rows since = TellsFront told since (text_of_lines t rows)

-- the same by the calls that it had
abbrev pub HasPutOut : Option (List ℕ) → WriterCalls → LineText → List Row → List ℕ → Type 0
HasPutOut told c t rows since = PutOutBy (has_begun c) c.refused told t rows since

-- the text in front, where it wasn't written yet
abbrev pub head_due : Bool → LineText → List ℕ
head_due begun t = if begun then [] else t.head

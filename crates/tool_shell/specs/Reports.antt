-- How a fault is told.
use Rattle.std.specs.Prelude.{ℕ, List, codes, Option}
use Rattle.std.specs.Io.KnownBytes.{Appends}
use Rattle.pipe_columns.specs.Causes.{Rose}
use Rattle.pipe_io.specs.Output.{WroteFront}

-- a line was reported: whole where no write failed, and else a front of it
pub record Reports (line : List ℕ) (before now : ℕ) (old new : Option (List ℕ)) : Type 0 where
  pub whole : (Rose before now → ⊥) → Appends old new line
  pub front : WroteFront old new line

-- the line of words that are refused
abbrev pub words_line : List ℕ
words_line = codes "words refused\n"

-- the line of wanting memory
abbrev pub memory_line : List ℕ
memory_line = codes "out of memory\n"

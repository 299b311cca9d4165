-- Of the proofs alone: what `clap` makes of words.
use Rattle.std.specs.Prelude.{◌≡◌, ℕ, true, List, [], ◌∷◌, codes, map}
use Rattle.clap.specs.Words.{IsAmong, found_of, rows_of}
use Rattle.clap.specs.declared.error.kind.ErrorKind.{ErrorKind}
use Rattle.clap.specs.declared.error.kind.ErrorKind.TheVariants as kind
use Rattle.lavzimo_words.specs.Asked.{is_fault}
use Rattle.lavzimo_words.specs.Command.{Found, stops, taken}
use Rattle.lavzimo_words.specs.declared.command.Finding.{Finding}
use Rattle.lavzimo_words.specs.declared.command.Finding.TheVariants as finding
use Rattle.lavzimo_words.specs.declared.command.OptionText.{OptionText}

-- the names of options
abbrev pub option_names : List OptionText → List (List ℕ)
option_names options = map (λ o. o.name.now) options

-- the options of the answer, of threads and of places
abbrev pub answer_options : List (List ℕ)
answer_options = codes "order" ∷ codes "offset" ∷ codes "limit" ∷ codes "format" ∷ []

abbrev pub thread_options : List (List ℕ)
thread_options = codes "workers" ∷ codes "partitions" ∷ []

abbrev pub place_options : List (List ℕ)
place_options = codes "spill-dir" ∷ codes "query" ∷ []

-- it ends with an answer of a kind
abbrev pub StopsBy : (ErrorKind → Type 0) → Found → Type 0
StopsBy P (taken rows) = ⊥
StopsBy P (stops kinds) = (k : ErrorKind) × IsAmong k kinds × P k

-- what came is what is found
abbrev pub IsFinding : Finding → Found → Type 0
IsFinding (finding.Matches m) f = f ≡ taken (rows_of (found_of m))
IsFinding (finding.Help text) f = StopsBy (λ k. k ≡ kind.DisplayHelp) f
IsFinding (finding.Version text) f = StopsBy (λ k. k ≡ kind.DisplayVersion) f
IsFinding (finding.Faulty text) f = StopsBy (λ k. is_fault k ≡ true) f

-- an answer of a kind is what it ends with, which isn't want of memory
abbrev pub EndsAs : Finding → ErrorKind → Type 0
EndsAs (finding.Matches m) k = ⊥
EndsAs (finding.Help text) k = k ≡ kind.DisplayHelp
EndsAs (finding.Version text) k = k ≡ kind.DisplayVersion
EndsAs (finding.Faulty text) k = is_fault k ≡ true

abbrev pub IsEnd : Finding → ErrorKind → Type 0
IsEnd f k = EndsAs f k × (k ≡ kind.OutOfMemory → ⊥)

-- What the words of a command say, before a query or keys are looked at.
use Rattle.std.specs.Prelude.{ℕ, ◌*◌, ◌+◌, ◌-◌, ◌^◌, ◌&&◌, nat_le, nat_lt, Bool, List, [], ◌∷◌, length, fold, codes, bytes_eq, Option, Some, None, option_map, if◌then◌else◌}
use Rattle.std.specs.Char.{is_ascii_digit}
use Rattle.std.specs.List.{list_all}

-- what words of one of the two shapes say
pub data Said : Type 0 where
  -- the word of a query, the position of the first chunk, and the names of the files to be saved
  save : List ℕ → ℕ → List (List ℕ) → Said
  -- the word of a query, the word of keys, and the names of the files of states
  roll : List ℕ → List ℕ → List (List ℕ) → Said

-- the number that digits write
abbrev pub number_in : List ℕ → ℕ
number_in digits = fold (λ n d. n * 10 + (d - 48)) 0 digits

-- whether a word is 1 to 10 digits
abbrev pub is_number : List ℕ → Bool
is_number word = nat_le 1 (length word) && (nat_le (length word) 10 && list_all is_ascii_digit word)

-- the position that a word writes: 1 to 10 digits, a number of 32 bits
abbrev pub position_in : List ℕ → Option ℕ
position_in word =
    if is_number word && nat_lt (number_in word) (2 ^ 32) then Some (number_in word) else None

-- what is said by a first word, that of a query, a third one, and the names of files
abbrev pub said_by : List ℕ → List ℕ → List ℕ → List (List ℕ) → Option Said
said_by mode query third files =
    if bytes_eq mode (codes "save")
    then option_map (λ first. save query first files) (position_in third)
    else (if bytes_eq mode (codes "roll") then Some (roll query third files) else None)

-- what words say: there are three, and behind them at least one name
abbrev pub said : List (List ℕ) → Option Said
said [] = None
said (mode ∷ []) = None
said (mode ∷ query ∷ []) = None
said (mode ∷ query ∷ third ∷ []) = None
said (mode ∷ query ∷ third ∷ file ∷ files) = said_by mode query third (file ∷ files)

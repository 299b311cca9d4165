-- The actions of workers, as letters write them.
use Rattle.std.specs.Prelude.{ℕ, ◌==◌, ◌-◌, ◌++◌, nat_le, Bool, List, [], ◌∷◌, length, replicate, slice_index_or, codes, bytes_eq, Option, Some, None, option_map, option_and_then, if◌then◌else◌}
use Rattle.std.specs.List.{slice_split}
use Rattle.pipe_plan.specs.declared.event.SpillAction.{SpillAction}
use Rattle.pipe_plan.specs.declared.event.SpillAction.TheVariants as action

-- what each element of a list gives, where each gives something
abbrev pub each_of : {A B : Type 0} → (A → Option B) → List A → Option (List B)
each_of f [] = Some []
each_of f (x ∷ xs) = option_and_then (λ y. option_map (λ ys. y ∷ ys) (each_of f xs)) (f x)

-- the action that a letter stands for
abbrev pub action_of : ℕ → Option SpillAction
action_of b =
    if b == 110 then Some action.None
    else (if b == 109 then Some action.EarlyMerge
    else (if b == 100 then Some action.Dump
    else None))

-- what follows a worker's turns: the actions after its first, and its rule, the action after each
-- further one
pub record Listed : Type 0 where
  pub actions : List SpillAction
  pub rule : SpillAction

-- the same with one action more in front
abbrev pub with_action : SpillAction → Listed → Listed
with_action a l = record l { actions = a ∷ l.actions }

-- letters as what they say: a last letter with a star is the rule, and without one nothing follows
abbrev pub read_letters : List ℕ → Option Listed
read_letters [] = Some (record { actions = []; rule = action.None })
read_letters (b ∷ rest) =
    option_and_then (λ a.
    if bytes_eq rest (codes "*") then Some (record { actions = []; rule = a })
    else option_map (with_action a) (read_letters rest))
    (action_of b)

-- the actions of letters
abbrev pub listed_actions : List ℕ → Option (List SpillAction)
listed_actions letters = option_map (λ l. l.actions) (read_letters letters)

-- the rule of letters
abbrev pub listed_rule : List ℕ → Option SpillAction
listed_rule letters = option_map (λ l. l.rule) (read_letters letters)

-- the lists of letters of an option, which are joined by commas
abbrev pub parts_of : Option (List ℕ) → List (List ℕ)
parts_of None = []
parts_of (Some text) = slice_split (λ b. b == 44) text

-- whether a star ends letters
abbrev pub has_star : List ℕ → Bool
has_star letters = slice_index_or letters (length letters - 1) 0 == 42

-- the letters of a worker that has no list: those of the one list, if it is one that a star ends
abbrev pub spare_letters : List (List ℕ) → List ℕ
spare_letters (part ∷ []) = if has_star part then part else []
spare_letters parts = []

-- a list of letters for each of so many workers
abbrev pub filled_up : ℕ → List (List ℕ) → List (List ℕ)
filled_up workers parts = parts ++ replicate (workers - length parts) (spare_letters parts)

-- a list of letters for each of so many workers, where an option has lists for as many at most
abbrev pub letters_of : ℕ → Option (List ℕ) → Option (List (List ℕ))
letters_of workers text =
    if nat_le (length (parts_of text)) workers then Some (filled_up workers (parts_of text)) else None

-- the actions of each of so many workers
abbrev pub actions_of : ℕ → Option (List ℕ) → Option (List (List SpillAction))
actions_of workers text = option_and_then (each_of listed_actions) (letters_of workers text)

-- the rule of each of so many workers
abbrev pub rules_of : ℕ → Option (List ℕ) → Option (List SpillAction)
rules_of workers text = option_and_then (each_of listed_rule) (letters_of workers text)

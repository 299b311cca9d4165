-- What comes of one step after another, of which each may refuse.
use Rattle.std.specs.Prelude.{◌≡◌, List, [], ◌∷◌, Result, Ok, Err, ⊤}
use Rattle.lavzimo_words.specs.declared.refusal.AskError.{AskError}
use Rattle.lavzimo_words.specs.declared.refusal.AskError.TheVariants as ask_error
use Rattle.lavzimo_words.specs.declared.refusal.Refusal.{Refusal}

-- the next step, where the one before gave something
abbrev pub on_ok : {A B E : Type 0} → (A → Result B E) → Result A E → Result B E
on_ok f (Ok x) = f x
on_ok f (Err e) = Err e

-- the same of what was given
abbrev pub ok_as : {A B E : Type 0} → (A → B) → Result A E → Result B E
ok_as f (Ok x) = Ok (f x)
ok_as f (Err e) = Err e

-- what each element of a list gives, or the first refusal
abbrev pub each_ok : {A B E : Type 0} → (A → Result B E) → List A → Result (List B) E
each_ok f [] = Ok []
each_ok f (x ∷ xs) = on_ok (λ y. ok_as (λ ys. y ∷ ys) (each_ok f xs)) (f x)

-- nothing comes for this; nothing is said of want of memory
abbrev pub IsRefusedFor : {A : Type 0} → AskError → Result A Refusal → Type 0
IsRefusedFor (ask_error.Refused r) a = a ≡ Err r
IsRefusedFor ask_error.Memory a = ⊤

-- States that files tell, one file after another.
use Rattle.std.proofs.Common.{◌≡◌, ◌∙◌, ◌<◌, ◌+◌, ℕ, List, [], ◌∷◌, ◌++◌, length, take, drop, get_or, Option, length-take-le, sym, ap, subst, arith}
use Rattle.std.proofs.lemmas.List.{drop_more, take-append-drop, take_more}
use Rattle.std.proofs.lemmas.Slice.Zip.{all_zipped_more}
use Rattle.pipe_io.specs.Files.{Files, HasNoFile, IsLarger}
use Rattle.pipe_io.specs.declared.whole_file.TheConstants.{MOST_FILE_BYTES}
use Rattle.pipe_model.specs.Query.{QueryTree}
use Rattle.pipe_states.specs.States.{StateSeen}
use Rattle.rollup_roll.specs.declared.roll_error.RollError.{RollError}
use Rattle.rollup_roll.specs.declared.roll_error.RollError.TheVariants as fault
use Rattle.rollup_roll.specs.Reading.{AreUnread, IsUnread}
use Rattle.rollup_roll.specs.Told.{TellsNone, TellsState, TellStates, TellUpTo}

module _ (q : QueryTree) (told : Option Files) where
  -- behind files that tell states, the next one by its name
  module _ (names : List (List ℕ)) (states : List StateSeen) (i : ℕ) (name : List ℕ) (within : i < length names) (is : get_or names i [] ≡ name)
      (before : TellStates q told (take i names) states) where
    -- it tells one more
    pub tell-more : (s : StateSeen) → TellsState q told name s → TellStates q told (take (i + 1) names) (states ++ s ∷ [])
    tell-more s one =
        let more : take (i + 1) names ≡ take i names ++ name ∷ [] = take_more names i [] within ∙ ap (λ (n : List ℕ). take i names ++ n ∷ []) is in
        subst (λ (ns : List (List ℕ)). TellStates q told ns (states ++ s ∷ [])) (sym more) (all_zipped_more (TellsState q told) (take i names) states name s before one)

    -- its name is so, and it is the first that tells none
    pub up-to : (IsSo : List ℕ → Type 0) → IsSo name → TellUpTo IsSo q told names (i + 1)
    up-to IsSo so = record {
      before = take i names;
      name = name;
      behind = drop (i + 1) names;
      split =
          sym (take-append-drop i names)
          ∙ ap (λ (ns : List (List ℕ)). take i names ++ ns) (drop_more names i [] within ∙ ap (λ (n : List ℕ). n ∷ drop (i + 1) names) is);
      number = omega (arith, length-take-le i names (omega (arith, within)));
      states = states;
      tell = before;
      is_so = so;
    }

    -- it isn't read
    pub unread-at : (e : RollError) → IsUnread e q told name (i + 1) → AreUnread e q told names
    unread-at (fault.Missing f) u = subst (TellUpTo (HasNoFile told) q told names) (sym u.0) (up-to (HasNoFile told) u.1)
    unread-at fault.Input u = tt
    unread-at (fault.NotAState f) u = subst (TellUpTo (TellsNone q told) q told names) (sym u.0) (up-to (TellsNone q told) u.1)
    unread-at (fault.Overlap f) u = absurd u
    unread-at fault.TooLarge u = (i + 1, up-to (λ n. IsLarger told n MOST_FILE_BYTES) u)
    unread-at fault.Memory u = tt

-- What files tell: no file tells two things, and files that tell states up to one do so in one way.
use Rattle.std.proofs.Common.{◌≡◌, ◌∙◌, ◌++◌, ℕ, zero, suc, Bool, false, List, [], ◌∷◌, length, take, Some, refl, sym, ap, subst, arith}
use Rattle.std.specs.Prelude.{slice_get, unwrap_or}
use Rattle.std.specs.List.{AllByRecursion, IsDistinct, list_any}
use Rattle.std.proofs.lemmas.Bool.{false≢true}
use Rattle.std.proofs.lemmas.Option.{none-some}
use Rattle.pipe_io.specs.Files.{Files, HasNoFile, IsLarger}
use Rattle.pipe_io.specs.declared.whole_file.TheConstants.{MOST_FILE_BYTES}
use Rattle.pipe_model.specs.Query.{QueryTree}
use Rattle.pipe_states.specs.States.{StateSeen}
use Rattle.pipe_states.specs.StateText.{state_text}
use Rattle.pipe_states.specs.Together.{do_overlap, IsFirstOverlap, NoneOverlap}
use Rattle.pipe_states.proofs.TextFacts.{state_once}
use Rattle.rollup_roll.specs.Told.{TellsNone, TellsState, TellStates, TellUpTo}

some-is : {A : Type 0} (a b : A) → Some a ≡ Some b → a ≡ b
some-is a b is = ap (λ o. unwrap_or o a) is

head-is : {A : Type 0} (x y : A) (xs ys : List A) → x ∷ xs ≡ y ∷ ys → x ≡ y
head-is x y xs ys is = some-is x y (ap (λ l. slice_get l 0) is)

tail-is : {A : Type 0} (x y : A) (xs ys : List A) → x ∷ xs ≡ y ∷ ys → xs ≡ ys
tail-is x y xs ys is = ap tail is where
  tail : {A : Type 0} → List A → List A
  tail [] = []
  tail (z ∷ zs) = zs

-- ---- the first overlap

all-at : {A : Type 0} (P : A → Type 0) (xs : List A) (i : ℕ) (x : A) → AllByRecursion P xs → slice_get xs i ≡ Some x → P x
all-at P [] i x all at = absurd (none-some x at)
all-at P (y ∷ ys) zero x all at = subst P (some-is y x at) all.0
all-at P (y ∷ ys) (suc i) x all at = all-at P ys i x all.1 at

apart-at : {A : Type 0} (e : A → A → Bool) (xs : List A) (i : ℕ) (x : A) → IsDistinct e xs → slice_get xs i ≡ Some x → list_any (λ y. e y x) (take i xs) ≡ false
unfolding IsDistinct
apart-at e [] i x apart at = absurd (none-some x at)
apart-at e (y ∷ ys) zero x apart at = refl
apart-at e (y ∷ ys) (suc i) x apart at = rw (all-at (λ z. e y z ≡ false) ys i x apart.0 at) (apart-at e ys i x apart.1 at)

-- where no ranges share a number none is the first to do so
pub none-first : (states : List StateSeen) (i : ℕ) → NoneOverlap states → IsFirstOverlap states i → ⊥
none-first states i apart first = false≢true (sym (apart-at do_overlap states i first.state apart first.at) ∙ first.overlaps)

-- ---- one file

module _ (q : QueryTree) (files : Files) where
  -- a file that tells a state is there, is no larger than may be, and tells no other
  pub told-there : (name : List ℕ) (s : StateSeen) → TellsState q (Some files) name s → HasNoFile (Some files) name → ⊥
  told-there name s tells missing = none-some (state_text q s) (sym missing ∙ tells.whole)

  pub told-small : (name : List ℕ) (s : StateSeen) → TellsState q (Some files) name s → IsLarger (Some files) name MOST_FILE_BYTES → ⊥
  told-small name s tells large =
      let same : state_text q s ≡ large.0 = some-is (state_text q s) large.0 (sym tells.whole ∙ large.1) in
      omega (arith, tells.small, ap length same, large.2)

  pub told-some : (name : List ℕ) (s : StateSeen) → TellsState q (Some files) name s → TellsNone q (Some files) name → ⊥
  told-some name s tells none = none.none s tells.fair (some-is (state_text q s) none.bytes (sym tells.whole ∙ none.whole))

  told-same : (name : List ℕ) (s t : StateSeen) → TellsState q (Some files) name s → TellsState q (Some files) name t → s ≡ t
  told-same name s t one two =
      state_once q s t one.fair.fair two.fair.fair one.fair.of_query two.fair.of_query (some-is (state_text q s) (state_text q t) (sym one.whole ∙ two.whole))

  -- a file that is missing, is too large, or tells no state, is only one of these
  pub missing-small : (name : List ℕ) → HasNoFile (Some files) name → IsLarger (Some files) name MOST_FILE_BYTES → ⊥
  missing-small name missing large = none-some large.0 (sym missing ∙ large.1)

  pub missing-some : (name : List ℕ) → HasNoFile (Some files) name → TellsNone q (Some files) name → ⊥
  missing-some name missing none = none-some none.bytes (sym missing ∙ none.whole)

  pub large-some : (name : List ℕ) → IsLarger (Some files) name MOST_FILE_BYTES → TellsNone q (Some files) name → ⊥
  large-some name large none =
      let same : large.0 ≡ none.bytes = some-is large.0 none.bytes (sym large.1 ∙ none.whole) in
      omega (arith, large.2, ap length same, none.small)

  -- ---- many files

  -- files tell their states in one way
  pub same-states : (names : List (List ℕ)) (ss ts : List StateSeen) → TellStates q (Some files) names ss → TellStates q (Some files) names ts → ss ≡ ts
  same-states [] [] [] one two = refl
  same-states [] [] (t ∷ ts) one two = absurd two
  same-states [] (s ∷ ss) ts one two = absurd one
  same-states (name ∷ names) [] ts one two = absurd one
  same-states (name ∷ names) (s ∷ ss) [] one two = absurd two
  same-states (name ∷ names) (s ∷ ss) (t ∷ ts) one two =
      ap (λ x. x ∷ ss) (told-same name s t one.0 two.0) ∙ ap (λ l. t ∷ l) (same-states names ss ts one.1 two.1)

  -- a property that no file has which tells a state
  abbrev pub Bad : (List ℕ → Type 0) → Type 0
  Bad P = (name : List ℕ) (s : StateSeen) → TellsState q (Some files) name s → P name → ⊥

  all-bad : (P : List ℕ → Type 0) → Bad P → (before behind : List (List ℕ)) (name : List ℕ) (ss : List StateSeen) → TellStates q (Some files) (before ++ name ∷ behind) ss → P name → ⊥
  all-bad P bad [] behind name [] tell is = tell
  all-bad P bad [] behind name (s ∷ ss) tell is = bad name s tell.0 is
  all-bad P bad (n ∷ before) behind name [] tell is = tell
  all-bad P bad (n ∷ before) behind name (s ∷ ss) tell is = all-bad P bad before behind name ss tell.1 is

  -- where all files tell states none has it
  pub none-bad : (P : List ℕ → Type 0) → Bad P → (names : List (List ℕ)) (ss : List StateSeen) (file : ℕ) → TellStates q (Some files) names ss → TellUpTo P q (Some files) names file → ⊥
  none-bad P bad names ss file tell up = all-bad P bad up.before up.behind up.name ss (subst (λ ns. TellStates q (Some files) ns ss) up.split tell) up.is_so

  meet : (P Q : List ℕ → Type 0) → Bad P → Bad Q → (b1 r1 : List (List ℕ)) (n1 : List ℕ) (ss : List StateSeen) (b2 r2 : List (List ℕ)) (n2 : List ℕ) (ts : List StateSeen)
      → b1 ++ n1 ∷ r1 ≡ b2 ++ n2 ∷ r2 → TellStates q (Some files) b1 ss → TellStates q (Some files) b2 ts → P n1 → Q n2 → n1 ≡ n2
  meet P Q p r [] r1 n1 ss [] r2 n2 ts same one two is so = head-is n1 n2 r1 r2 same
  meet P Q p r [] r1 n1 ss (m ∷ b2) r2 n2 [] same one two is so = absurd two
  meet P Q p r [] r1 n1 ss (m ∷ b2) r2 n2 (t ∷ ts) same one two is so = absurd (p m t two.0 (subst P (head-is n1 m r1 (b2 ++ n2 ∷ r2) same) is))
  meet P Q p r (m ∷ b1) r1 n1 [] b2 r2 n2 ts same one two is so = absurd one
  meet P Q p r (m ∷ b1) r1 n1 (s ∷ ss) [] r2 n2 ts same one two is so = absurd (r m s one.0 (subst Q (sym (head-is m n2 (b1 ++ n1 ∷ r1) r2 same)) so))
  meet P Q p r (m ∷ b1) r1 n1 (s ∷ ss) (k ∷ b2) r2 n2 [] same one two is so = absurd two
  meet P Q p r (m ∷ b1) r1 n1 (s ∷ ss) (k ∷ b2) r2 n2 (t ∷ ts) same one two is so =
      meet P Q p r b1 r1 n1 ss b2 r2 n2 ts (tail-is m k (b1 ++ n1 ∷ r1) (b2 ++ n2 ∷ r2) same) one.1 two.1 is so

  -- files that tell states up to one that is so, and up to one that is otherwise, meet at one file
  pub both-at : (P Q : List ℕ → Type 0) → Bad P → Bad Q → (names : List (List ℕ)) (i j : ℕ) → TellUpTo P q (Some files) names i → TellUpTo Q q (Some files) names j
      → (name : List ℕ) × P name × Q name
  both-at P Q p r names i j one two =
      let same : one.name ≡ two.name = meet P Q p r one.before one.behind one.name one.states two.before two.behind two.name two.states (sym one.split ∙ two.split) one.tell two.tell one.is_so two.is_so in
      (one.name, one.is_so, subst Q (sym same) two.is_so)

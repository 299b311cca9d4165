-- Files that are told tell one list of states, and have one end.
use Rattle.std.proofs.Common.{◌≡◌, ◌∙◌, ◌+◌, ℕ, suc, true, List, [], ◌∷◌, ◌++◌, length, drop, get_or, Some, refl, sym, ap, subst, arith, inl, inr}
use Rattle.std.proofs.lemmas.Bool.{false≢true}
use Rattle.pipe_columns.specs.Frame.{FrameData}
use Rattle.pipe_io.specs.Files.{Files, HasNoFile, IsLarger}
use Rattle.pipe_io.specs.declared.whole_file.TheConstants.{MOST_FILE_BYTES}
use Rattle.pipe_model.specs.Query.{QueryTree}
use Rattle.pipe_states.specs.Regrouped.{regrouped}
use Rattle.pipe_states.specs.States.{StateSeen}
use Rattle.pipe_states.specs.StateText.{state_text}
use Rattle.pipe_states.specs.Together.{IsFirstOverlap, NoneOverlap, total_rows}
use Rattle.pipe_states.proofs.TextFacts.{state_once}
use Rattle.rollup_roll.specs.declared.roll_error.RollError.{RollError}
use Rattle.rollup_roll.specs.declared.roll_error.RollError.TheVariants as fault
use Rattle.rollup_roll.specs.Rolled.{AreRolled, AreTooMany, is_of_files, IsRefusal, OverlapAt}
use Rattle.rollup_roll.specs.Told.{TellsNone, TellsState, TellStates, TellUpTo}
use Rattle.rollup_roll.proofs.OverlapFacts.{first-of-none, first-once}

-- names of files
abbrev Names : Type 0
Names = List (List ℕ)

-- why a file tells no state
data Reason : Type 0 where
  missing : Reason
  large : Reason
  other : Reason

-- why files are not rolled up, but for what says nothing of them
data Cause : Type 0 where
  stop : Reason → ℕ → Cause
  overlap : ℕ → Cause
  many : Cause

-- the error of a cause
abbrev error_of : Cause → RollError
error_of (stop missing file) = fault.Missing file
error_of (stop large file) = fault.TooLarge
error_of (stop other file) = fault.NotAState file
error_of (overlap file) = fault.Overlap file
error_of many = fault.TooLarge

module _ (q : QueryTree) (files : Files) where
  -- the file of a name tells no state, for a reason
  abbrev TellsNot : Reason → List ℕ → Type 0
  TellsNot missing = HasNoFile (Some files)
  TellsNot large = λ name. IsLarger (Some files) name MOST_FILE_BYTES
  TellsNot other = TellsNone q (Some files)

  -- it tells one state
  state-one : (name : List ℕ) (s t : StateSeen) → TellsState q (Some files) name s → TellsState q (Some files) name t → s ≡ t
  state-one name s t one two =
      let same : state_text q s ≡ state_text q t = cc (one.whole, two.whole) in
      state_once q s t one.fair.fair two.fair.fair one.fair.of_query two.fair.of_query same

  -- it tells a state or it doesn't
  reason-none : (r : Reason) (name : List ℕ) (s : StateSeen) → TellsNot r name → TellsState q (Some files) name s → ⊥
  reason-none missing name s none tells = cc (none, tells.whole)
  reason-none large name s none tells =
      let same : none.0 ≡ state_text q s = cc (none.1, tells.whole) in
      omega (arith, none.2, tells.small, ap (λ (l : List ℕ). length l) same)
  reason-none other name s none tells =
      let same : state_text q s ≡ none.bytes = cc (none.whole, tells.whole) in
      none.none s tells.fair same

  -- it has one reason
  reason-one : (r s : Reason) (name : List ℕ) → TellsNot r name → TellsNot s name → r ≡ s
  reason-one missing missing name one two = refl
  reason-one missing large name one two = absurd (cc (one, two.1))
  reason-one missing other name one two = absurd (cc (one, two.whole))
  reason-one large missing name one two = absurd (cc (two, one.1))
  reason-one large large name one two = refl
  reason-one large other name one two =
      let same : one.0 ≡ two.bytes = cc (one.1, two.whole) in
      absurd (omega (arith, one.2, two.small, ap (λ (l : List ℕ). length l) same))
  reason-one other missing name one two = absurd (cc (two, one.whole))
  reason-one other large name one two =
      let same : two.0 ≡ one.bytes = cc (two.1, one.whole) in
      absurd (omega (arith, two.2, one.small, ap (λ (l : List ℕ). length l) same))
  reason-one other other name one two = refl

  -- files tell one list of states
  pub states-one : (names : Names) (ss ts : List StateSeen) → TellStates q (Some files) names ss → TellStates q (Some files) names ts → ss ≡ ts
  states-one [] [] [] one two = refl
  states-one [] [] (t ∷ ts) one two = absurd two
  states-one [] (s ∷ ss) ts one two = absurd one
  states-one (n ∷ names) [] ts one two = absurd one
  states-one (n ∷ names) (s ∷ ss) [] one two = absurd two
  states-one (n ∷ names) (s ∷ ss) (t ∷ ts) one two = λ i. state-one n s t one.0 two.0 i ∷ states-one names ss ts one.1 two.1 i

  -- one of files that all tell states tells a state
  one-of : (before behind : Names) (name : List ℕ) (ss : List StateSeen) → TellStates q (Some files) (before ++ name ∷ behind) ss → (s : StateSeen) × TellsState q (Some files) name s
  one-of [] behind name [] tell = absurd tell
  one-of [] behind name (s ∷ ss) tell = (s, tell.0)
  one-of (n ∷ before) behind name [] tell = absurd tell
  one-of (n ∷ before) behind name (s ∷ ss) tell = one-of before behind name ss tell.1

  -- so none of them is the first that doesn't
  stop-none : (r : Reason) (names : Names) (file : ℕ) (ss : List StateSeen) → TellUpTo (TellsNot r) q (Some files) names file → TellStates q (Some files) names ss → ⊥
  stop-none r names file ss at tell =
      let one = one-of at.before at.behind at.name ss (subst (λ (ns : Names). TellStates q (Some files) ns ss) at.split tell) in
      reason-none r at.name one.0 at.is_so one.1

  -- there is one first file that doesn't, and it has one reason
  meet : (r s : Reason) (a b x y : Names) (m n : List ℕ) (ss ts : List StateSeen) → a ++ m ∷ x ≡ b ++ n ∷ y
      → TellStates q (Some files) a ss → TellStates q (Some files) b ts → TellsNot r m → TellsNot s n → (length a ≡ length b) × (r ≡ s)
  meet r s [] [] x y m n ss ts e one two p o =
      let same : m ≡ n = ap (λ (l : Names). get_or l 0 []) e in
      (refl, reason-one r s n (subst (TellsNot r) same p) o)
  meet r s [] (c ∷ b) x y m n ss [] e one two p o = absurd two
  meet r s [] (c ∷ b) x y m n ss (t ∷ ts) e one two p o =
      let same : m ≡ c = ap (λ (l : Names). get_or l 0 []) e in
      absurd (reason-none r c t (subst (TellsNot r) same p) two.0)
  meet r s (c ∷ a) [] x y m n [] ts e one two p o = absurd one
  meet r s (c ∷ a) [] x y m n (t ∷ ss) ts e one two p o =
      let same : n ≡ c = ap (λ (l : Names). get_or l 0 []) (sym e) in
      absurd (reason-none s c t (subst (TellsNot s) same o) one.0)
  meet r s (c ∷ a) (d ∷ b) x y m n [] ts e one two p o = absurd one
  meet r s (c ∷ a) (d ∷ b) x y m n (t ∷ ss) [] e one two p o = absurd two
  meet r s (c ∷ a) (d ∷ b) x y m n (t ∷ ss) (u ∷ ts) e one two p o =
      let rest = meet r s a b x y m n ss ts (ap (λ (l : Names). drop 1 l) e) one.1 two.1 p o in
      (ap suc rest.0, rest.1)

  module _ (names : Names) where
    -- files have a cause
    abbrev HasCause : Cause → Type 0
    HasCause (stop r file) = TellUpTo (TellsNot r) q (Some files) names file
    HasCause (overlap file) = OverlapAt q (Some files) names file
    HasCause many = AreTooMany q (Some files) names

    -- an error that says something of files has its cause
    cause-of : (e : RollError) → is_of_files e ≡ true → IsRefusal e q (Some files) names → (c : Cause) × HasCause c × (error_of c ≡ e)
    cause-of (fault.Missing file) of h = (stop missing file, h, refl)
    cause-of fault.Input of h = absurd (false≢true of)
    cause-of (fault.NotAState file) of h = (stop other file, h, refl)
    cause-of (fault.Overlap file) of h = (overlap file, h, refl)
    cause-of fault.TooLarge of (inl h) = (stop large h.0, h.1, refl)
    cause-of fault.TooLarge of (inr h) = (many, h, refl)
    cause-of fault.Memory of h = absurd (false≢true of)

    -- states that overlap are not those of which none does
    overlap-none : (file : ℕ) → OverlapAt q (Some files) names file → (ss : List StateSeen) → TellStates q (Some files) names ss → NoneOverlap ss → ⊥
    overlap-none file h ss tell apart =
        let same = states-one names h.states ss h.tell tell in
        first-of-none ss h.place (subst (λ (ts : List StateSeen). IsFirstOverlap ts h.place) same h.overlap) apart

    -- files have one cause
    cause-one : (c d : Cause) → HasCause c → HasCause d → error_of c ≡ error_of d
    cause-one (stop r file) (stop s number) h k =
        let one = meet r s h.before k.before h.behind k.behind h.name k.name h.states k.states (sym h.split ∙ k.split) h.tell k.tell h.is_so k.is_so in
        let same : file ≡ number = h.number ∙ ap (λ n. n + 1) one.0 ∙ sym k.number in
        λ i. error_of (stop (one.1 i) (same i))
    cause-one (stop r file) (overlap number) h k = absurd (stop-none r names file k.states h k.tell)
    cause-one (stop r file) many h k = absurd (stop-none r names file k.states h k.tell)
    cause-one (overlap file) (stop s number) h k = absurd (stop-none s names number h.states k h.tell)
    cause-one (overlap file) (overlap number) h k =
        let states = states-one names h.states k.states h.tell k.tell in
        let place = first-once k.states h.place k.place (subst (λ (ts : List StateSeen). IsFirstOverlap ts h.place) states h.overlap) k.overlap in
        let same : file ≡ number = h.number ∙ ap (λ n. n + 1) place ∙ sym k.number in
        ap (λ n. fault.Overlap n) same
    cause-one (overlap file) many h k = absurd (overlap-none file h k.states k.tell k.large.apart)
    cause-one many (stop s number) h k = absurd (stop-none s names number h.states k h.tell)
    cause-one many (overlap number) h k = absurd (overlap-none number k h.states h.tell h.large.apart)
    cause-one many many h k = refl

    -- they are refused for one
    pub refusal-one : (d e : RollError) → is_of_files d ≡ true → IsRefusal d q (Some files) names → is_of_files e ≡ true → IsRefusal e q (Some files) names → d ≡ e
    refusal-one d e of h so k =
        let one = cause-of d of h in
        let two = cause-of e so k in
        sym one.2 ∙ cause-one one.0 two.0 one.1 two.1 ∙ two.2

    -- they are rolled up into one frame
    pub frame-one : (keep : List ℕ) (f g : FrameData) → AreRolled q keep (Some files) names f → AreRolled q keep (Some files) names g → f ≡ g
    frame-one keep f g h k = h.frame_is ∙ ap (λ (ss : List StateSeen). regrouped q ss keep) (states-one names h.states k.states h.tell k.tell) ∙ sym k.frame_is

    -- they are rolled up or refused
    pub one-end : (keep : List ℕ) (f : FrameData) (e : RollError) → AreRolled q keep (Some files) names f → is_of_files e ≡ true → IsRefusal e q (Some files) names → ⊥
    one-end keep f e h of k = by (cause-of e of k).0 (cause-of e of k).1 where
      by : (c : Cause) → HasCause c → ⊥
      by (stop r file) cause = stop-none r names file h.states cause h.tell
      by (overlap file) cause = overlap-none file cause h.states h.tell h.apart
      by many cause =
          let same : total_rows cause.states ≡ total_rows h.states = ap (λ (ss : List StateSeen). total_rows ss) (states-one names cause.states h.states cause.tell h.tell) in
          omega (arith, h.few, cause.large.many, same)

-- What the command finds in words.
use Rattle.std.proofs.Common.{◌≡◌, ◌∙◌, ℕ, true, Bor, List, [], ◌∷◌, Option, codes, map, option_map, refl, ap, inl, inr, subst}
use Rattle.clap.specs.Kinds.{HasKind, IsAmong, Kinds}
use Rattle.clap.specs.Values.{kind_of}
use Rattle.clap.specs.Words.{App, HasMatchesOf, Row, all_of, fault_of, found_of, is_simple, matched_of, matches_of, raw_values, rows_of}
use Rattle.clap.specs.declared.parser.matches.Found as found_type
use Rattle.clap.proofs.WalkLemmas.{raw_values-rows}
use Rattle.clap.specs.Faults.{is_simple_and_free}
use Rattle.clap.specs.declared.parser.matches.ArgMatches.{ArgMatches}
use Rattle.clap.specs.declared.error.Error.{Error}
use Rattle.clap.specs.declared.error.kind.ErrorKind.{ErrorKind}
use Rattle.clap.specs.declared.error.kind.ErrorKind.TheVariants as kind
use Rattle.lavzimo_words.specs.Asked.{EndedBy, files_in, is_fault, words_by}
use Rattle.lavzimo_words.specs.Command.{Found, found_by, found_in, lavzimo_app, stops, taken}
use Rattle.lavzimo_words.specs.Finding.{EndsAs, IsEnd, IsFinding, StopsBy}
use Rattle.lavzimo_words.specs.declared.command.Finding.{Finding}
use Rattle.lavzimo_words.specs.declared.command.Finding.TheVariants as finding

app_simple : is_simple lavzimo_app ≡ true
app_simple = refl

app_free : is_simple_and_free lavzimo_app ≡ true
app_free = refl

-- words that are taken
pub words-taken : (a : App) (words : List (List ℕ)) (m : ArgMatches) → a ≡ lavzimo_app → (is_simple_and_free a ≡ true → fault_of a words ≡ []) → HasMatchesOf a words m → found_in words ≡ taken (rows_of (found_of m))
words-taken a words m same kinds has =
    let none : fault_of lavzimo_app words ≡ [] = subst (λ (x : App). is_simple_and_free x ≡ true → fault_of x words ≡ []) same kinds app_free in
    let rows : rows_of (found_of m) ≡ matches_of lavzimo_app words = (subst (λ (x : App). HasMatchesOf x words m) same has app_simple).0 in
    rw (none, rows) refl

-- an answer of a kind is one that words stop by
stopped : (P : ErrorKind → Type 0) (kinds : Kinds) (rows : List Row) (k : ErrorKind) → IsAmong k kinds → P k → StopsBy P (found_by kinds rows)
stopped P [] rows k h p = absurd h
stopped P (x ∷ xs) rows k h p = (k, h, p)

among : (kinds : Kinds) (e : Error) → HasKind kinds e → (kind_of e ≡ kind.OutOfMemory → ⊥) → IsAmong (kind_of e) kinds
among kinds e (inl h) n = absurd (n h)
among kinds e (inr h) n = h

ended-as : (f : Finding) (kinds : Kinds) (rows : List Row) (k : ErrorKind) → IsAmong k kinds → EndsAs f k → IsFinding f (found_by kinds rows)
ended-as (finding.Matches m) kinds rows k h p = absurd p
ended-as (finding.Help text) kinds rows k h p = stopped (λ k. k ≡ kind.DisplayHelp) kinds rows k h p
ended-as (finding.Version text) kinds rows k h p = stopped (λ k. k ≡ kind.DisplayVersion) kinds rows k h p
ended-as (finding.Faulty text) kinds rows k h p = stopped (λ k. is_fault k ≡ true) kinds rows k h p

-- words that the command ends
pub words-ended : (a : App) (words : List (List ℕ)) (e : Error) (f : Finding) → a ≡ lavzimo_app → (is_simple_and_free a ≡ true → HasKind (fault_of a words) e) → IsEnd f (kind_of e) → IsFinding f (found_in words)
words-ended a words e f same kinds end =
    let h : HasKind (fault_of lavzimo_app words) e = subst (λ (x : App). is_simple_and_free x ≡ true → HasKind (fault_of x words) e) same kinds app_free in
    ended-as f (fault_of lavzimo_app words) (matches_of lavzimo_app words) (kind_of e) (among (fault_of lavzimo_app words) e h end.1) end.0

-- what is neither help nor the version is a fault
pub fault_else : (k : ErrorKind) → (k ≡ kind.DisplayHelp → ⊥) → (k ≡ kind.DisplayVersion → ⊥) → is_fault k ≡ true
fault_else kind.InvalidValue n m = refl
fault_else kind.UnknownArgument n m = refl
fault_else kind.InvalidSubcommand n m = refl
fault_else kind.NoEquals n m = refl
fault_else kind.ValueValidation n m = refl
fault_else kind.TooManyValues n m = refl
fault_else kind.TooFewValues n m = refl
fault_else kind.WrongNumberOfValues n m = refl
fault_else kind.ArgumentConflict n m = refl
fault_else kind.MissingRequiredArgument n m = refl
fault_else kind.MissingSubcommand n m = refl
fault_else kind.DisplayHelp n m = absurd (n refl)
fault_else kind.DisplayHelpOnMissingArgumentOrSubcommand n m = refl
fault_else kind.DisplayVersion n m = absurd (m refl)
fault_else kind.Io n m = refl
fault_else kind.Format n m = refl
fault_else kind.OutOfMemory n m = refl

-- what words stop by ends them
pub stops-ended : (P : ErrorKind → Type 0) (f : Found) → StopsBy P f → EndedBy P (words_by f)
stops-ended P (taken rows) h = absurd h
stops-ended P (stops kinds) h = h

-- the values that are lent by matches
pub values-lent : (f : found_type.Found) (id : List ℕ) (o : Option (Bor (List (Bor (List ℕ))))) → option_map (λ s. map (λ v. v.now) s.now) o ≡ option_map raw_values (matched_of f id)
    → option_map (λ s. map (λ v. v.now) s.now) o ≡ all_of id (rows_of f)
values-lent f id o h = h ∙ raw_values-rows f id

pub files-lent : (f : found_type.Found) (o : Option (Bor (List (Bor (List ℕ))))) → option_map (λ s. map (λ v. v.now) s.now) o ≡ option_map raw_values (matched_of f (codes "files"))
    → files_in (option_map (λ s. map (λ v. v.now) s.now) o) ≡ files_in (all_of (codes "files") (rows_of f))
files-lent f o h = ap files_in (values-lent f (codes "files") o h)

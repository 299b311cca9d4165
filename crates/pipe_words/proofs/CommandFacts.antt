-- When words are taken.
use Rattle.std.proofs.Common.{◌≡◌, ◌∙◌, ℕ, List, [], ◌∷◌, Option, Some, None, Bor, map, option_map, unwrap_or, codes, refl, ap, inl, inr, subst}
use Rattle.std.specs.Prelude.{true, false}
use Rattle.clap.specs.Kinds.{HasKind, Kinds}
use Rattle.clap.specs.Values.{kind_of}
use Rattle.clap.specs.Words.{App, HasMatchesOf, fault_of, found_of, is_simple, is_simple_and_free, matched_of, matches_of, raw_values, rows_of}
use Rattle.clap.specs.declared.parser.matches.Found.{Found}
use Rattle.clap.proofs.WalkLemmas.{raw_values-rows}
use Rattle.clap.specs.declared.parser.matches.ArgMatches.{ArgMatches}
use Rattle.clap.specs.declared.error.Error.{Error}
use Rattle.clap.specs.declared.error.kind.ErrorKind.TheVariants.{OutOfMemory}
use Rattle.pipe_words.specs.Command.{found_in, is_faultless, tool_app, words_in}

tool_simple : is_simple tool_app ≡ true
tool_simple = refl

tool_free : is_simple_and_free tool_app ≡ true
tool_free = refl

-- an error of another kind than memory comes only where a fault is listed
not_taken : (kinds : Kinds) (e : Error) → HasKind kinds e → (kind_of e ≡ OutOfMemory → ⊥) → is_faultless kinds ≡ false
not_taken [] e (inl h) n = absurd (n h)
not_taken [] e (inr h) n = absurd h
not_taken (k ∷ ks) e h n = refl

-- words that are refused
pub words-refused : (a : App) (words : List (List ℕ)) (e : Error) → a ≡ tool_app → (is_simple_and_free a ≡ true → HasKind (fault_of a words) e) → (kind_of e ≡ OutOfMemory → ⊥) → found_in words ≡ None
words-refused a words e same kinds n =
    let h : HasKind (fault_of tool_app words) e = subst (λ (x : App). is_simple_and_free x ≡ true → HasKind (fault_of x words) e) same kinds tool_free in
    rw (not_taken (fault_of tool_app words) e h n) refl

-- words that are taken
pub words-taken : (a : App) (words : List (List ℕ)) (m : ArgMatches) → a ≡ tool_app → (is_simple_and_free a ≡ true → fault_of a words ≡ []) → HasMatchesOf a words m → Some (rows_of (found_of m)) ≡ found_in words
words-taken a words m same kinds has =
    let none : fault_of tool_app words ≡ [] = subst (λ (x : App). is_simple_and_free x ≡ true → fault_of x words ≡ []) same kinds tool_free in
    let rows : rows_of (found_of m) ≡ matches_of tool_app words = (subst (λ (x : App). HasMatchesOf x words m) same has tool_simple).0 in
    rw (none, rows) refl

-- the words that are lent by matches
pub words-lent : (f : Found) (o : Option (Bor (List (Bor (List ℕ))))) → option_map (λ s. map (λ v. v.now) s.now) o ≡ option_map raw_values (matched_of f (codes "words")) → unwrap_or (option_map (λ s. map (λ v. v.now) s.now) o) [] ≡ words_in (rows_of f)
words-lent f o h = ap (λ (x : Option (List (List ℕ))). unwrap_or x []) (h ∙ raw_values-rows f (codes "words"))

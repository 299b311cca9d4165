-- The bytes of a record, read by themselves or before others.
use Rattle.std.proofs.Common.{◌≡◌, ◌∙◌, ◌≤◌, ◌<◌, ◌+◌, ◌-◌, ℕ, List, [], ◌∷◌, ◌++◌, length, drop, get_or, true, false, Some, None, Option, refl, sym, ap, arith, append_assoc}
use Rattle.std.proofs.lemmas.List.{append-nil, drop-drop, take-append-drop}
use Rattle.csv.specs.Machine.{Read, next_record, step, is_end, fields_after, field_after, ends_at_end}
use Rattle.csv.specs.Reading.{default_config, records}
use Rattle.csv.specs.declared.parser.State.{State}
use Rattle.csv.specs.declared.parser.State.TheVariants as st
use Rattle.csv.specs.declared.parser.Action.{Action}
use Rattle.csv.specs.declared.parser.Action.TheVariants as act
use Rattle.pipe_scan.specs.NextRecord.{next_at}
use Rattle.pipe_scan.specs.Records.{Records, between, records_at}
use Rattle.pipe_scan.specs.Row.{StandsAlone}
use Rattle.pipe_scan.specs.Modes.{action_of}
use Rattle.pipe_scan.specs.declared.quoted.Effect.{Effect}
use Rattle.pipe_scan.specs.declared.quoted.Effect.TheVariants as effect
use Rattle.pipe_scan.proofs.Between.{IsBetween}
use Rattle.pipe_scan.proofs.RecordList.{all-none, all-some, ends-none, step-ends}
use Rattle.pipe_scan.proofs.ModeFacts.{goes_on, last_some, reads-last, reads-none, reads-stop, stops}
use Rattle.pipe_scan.proofs.ScanFacts.{all-alike, between_more, between_none}

-- texts that read alike at first have the same records
pub same_records : (xs ys : List ℕ) (o : Option Read) → next_record default_config st.StartRecord [] [] xs ≡ o → next_record default_config st.StartRecord [] [] ys ≡ o → records default_config xs ≡ records default_config ys
same_records xs ys None e f = all-none default_config st.StartRecord xs e ∙ sym (all-none default_config st.StartRecord ys f)
same_records xs ys (Some p) e f = all-some default_config st.StartRecord xs p tt e ∙ sym (all-some default_config st.StartRecord ys p tt f)

pub same_at : (text : List ℕ) (at i : ℕ) → next_at text at ≡ next_at text i → records_at text i ≡ records_at text at
same_at text at i e = same_records (drop i text) (drop at text) (next_at text i) refl e

-- how the bytes up to a place read, whatever stands behind them
abbrev pub Goes : List ℕ → ℕ → ℕ → State → List (List ℕ) → List ℕ → Type 0
Goes text at i s fs p = (rest : List ℕ) → next_record default_config st.StartRecord [] [] (between text at i ++ rest) ≡ next_record default_config s fs p rest

-- no byte is read
pub goes-start : (text : List ℕ) (at : ℕ) → Goes text at at st.StartRecord [] []
goes-start text at rest = rw (between_none text at) refl

-- one byte more stands before the rest
one_more : (text : List ℕ) (at i : ℕ) (rest : List ℕ) → at ≤ i → i < length text → between text at (i + 1) ++ rest ≡ between text at i ++ (get_or text i 0 ∷ rest)
one_more text at i rest b l = rw (between_more text at i (get_or text i 0) b l refl) (append_assoc (between text at i) (get_or text i 0 ∷ []) rest)

-- a byte that doesn't end the record
pub goes-more : (text : List ℕ) (at i : ℕ) (s s2 : State) (a : Action) (fs : List (List ℕ)) (p : List ℕ) → at ≤ i → i < length text → Goes text at i s fs p
    → s2 ≡ (step default_config s (get_or text i 0)).0 → a ≡ (step default_config s (get_or text i 0)).1 → is_end a ≡ false
    → Goes text at (i + 1) s2 (fields_after a fs p) (field_after a (get_or text i 0) p)
goes-more text at i s s2 a fs p b l g e1 e2 n rest = rw (one_more text at i rest b l, e1) (g (get_or text i 0 ∷ rest) ∙ goes_on s a fs p (get_or text i 0) rest e2 n)

-- the bytes up to a place, and those behind it
rest_behind : (text : List ℕ) (at i : ℕ) → at ≤ i → between text at i ++ drop i text ≡ drop at text
rest_behind text at i b =
    let n : at + (i - at) ≡ i = omega (arith, b) in
    let d : drop (i - at) (drop at text) ≡ drop i text = drop-drop (i - at) at text ∙ ap (λ (k : ℕ). drop k text) n in
    rw (← d) (take-append-drop (i - at) (drop at text))

-- so they read in the text
in_text : (text : List ℕ) (at i : ℕ) (s : State) (fs : List (List ℕ)) (p : List ℕ) → at ≤ i → Goes text at i s fs p → next_at text at ≡ next_record default_config s fs p (drop i text)
in_text text at i s fs p b g = ap (next_record default_config st.StartRecord [] []) (sym (rest_behind text at i b)) ∙ g (drop i text)

-- a record and what is behind it
then : (xs rest : List ℕ) (fs : List (List ℕ)) (s : State) → IsBetween s → next_record default_config st.StartRecord [] [] xs ≡ Some (fs, s, rest) → records default_config xs ≡ fs ∷ records default_config rest
then xs rest fs s b e = all-some default_config st.StartRecord xs (fs, s, rest) tt e ∙ ap (λ (t : Records). fs ∷ t) (all-alike s rest b)

-- a record by itself
single : (xs : List ℕ) (fs : List (List ℕ)) (s : State) → IsBetween s → next_record default_config st.StartRecord [] [] (xs ++ []) ≡ Some (fs, s, []) → records default_config xs ≡ fs ∷ []
single xs fs s b e = then xs [] fs s b (ap (next_record default_config st.StartRecord [] []) (sym (append-nil xs)) ∙ e) ∙ ap (λ (t : Records). fs ∷ t) (all-none default_config st.StartRecord [] (ends-none default_config st.StartRecord tt))

-- the byte that ends the record
pub goes-stop : (text : List ℕ) (at i : ℕ) (s : State) (fs : List (List ℕ)) (p : List ℕ) → at ≤ i → i < length text → Goes text at i s fs p
    → act.EndRecord ≡ (step default_config s (get_or text i 0)).1 → StandsAlone text at (i + 1) (fs ++ (p ∷ []))
goes-stop text at i s fs p b l g e =
    let s2 : State = (step default_config s (get_or text i 0)).0 in
    let k : IsBetween s2 = step-ends default_config s (get_or text i 0) (rw (← e) refl) in
    let whole : (rest : List ℕ) → next_record default_config st.StartRecord [] [] (between text at (i + 1) ++ rest) ≡ Some (fs ++ (p ∷ []), s2, rest) =
    λ rest. rw (one_more text at i rest b l) (g (get_or text i 0 ∷ rest) ∙ stops s fs p (get_or text i 0) rest e) in
    let t = reads-stop text at i s fs p l (in_text text at i s fs p b g) e in record {
      takes = (t.0, t.1, omega (arith, l));
      alone = single (between text at (i + 1)) (fs ++ (p ∷ [])) s2 k (whole []);
      before = λ h rest. then (between text at (i + 1) ++ rest) rest (fs ++ (p ∷ [])) s2 k (whole rest);
    }

-- the end of the text within a record
pub goes-last : (text : List ℕ) (at : ℕ) (s : State) (fs : List (List ℕ)) (p : List ℕ) → at ≤ length text → Goes text at (length text) s fs p
    → ends_at_end s ≡ true → StandsAlone text at (length text) (fs ++ (p ∷ []))
goes-last text at s fs p b g e =
    let t = reads-last text at s fs p (in_text text at (length text) s fs p b g) e in record {
      takes = (t.0, t.1, omega arith);
      alone = single (between text at (length text)) (fs ++ (p ∷ [])) st.StartRecord tt (g [] ∙ last_some s fs p e);
      before = λ h rest. absurd (omega (arith, h));
    }

-- the end of the text before a record
pub goes-none : (text : List ℕ) (at : ℕ) (s : State) (fs : List (List ℕ)) (p : List ℕ) → at ≤ length text → Goes text at (length text) s fs p → ends_at_end s ≡ false → records_at text at ≡ []
goes-none text at s fs p b g e = reads-none text at s fs p (in_text text at (length text) s fs p b g) e

-- what doesn't end the record
pub no_end : (e : Effect) → (e ≡ effect.EndRecord → ⊥) → is_end (action_of e) ≡ false
no_end effect.Skip n = refl
no_end effect.Copy n = refl
no_end effect.EndField n = refl
no_end effect.EndRecord n = absurd (n refl)

-- A read that goes byte by byte, as the definition does.
use Rattle.std.proofs.Common.{◌⊎◌, inl, inr, ◌≡◌, ◌∙◌, ◌<◌, ◌+◌, ℕ, List, [], ◌∷◌, ◌++◌, length, drop, get_or, true, false, Some, None, refl, arith}
use Rattle.std.proofs.lemmas.List.{drop_all, length-drop}
use Rattle.csv.specs.Machine.{next_record, step, is_end, fields_after, field_after, ends_at_end}
use Rattle.csv.specs.Reading.{default_config}
use Rattle.csv.specs.declared.parser.State.{State}
use Rattle.csv.specs.declared.parser.State.TheVariants as st
use Rattle.csv.specs.declared.parser.Action.{Action}
use Rattle.csv.specs.declared.parser.Action.TheVariants as act
use Rattle.pipe_scan.proofs.Between.{IsBetween}
use Rattle.pipe_scan.specs.Modes.{joins, state_of}
use Rattle.pipe_scan.specs.declared.quoted.Mode.{Mode}
use Rattle.pipe_scan.specs.declared.quoted.Mode.TheVariants as mode
use Rattle.pipe_scan.specs.NextRecord.{next_at}
use Rattle.pipe_scan.specs.Records.{records_at}
use Rattle.pipe_scan.proofs.RecordList.{all-none, between-leaves, step-ends}
use Rattle.pipe_scan.proofs.ScanFacts.{other_above, Closes, records_next, rest_at}

-- a byte that doesn't end the record
pub goes_on : (s : State) (a : Action) (fs : List (List ℕ)) (p : List ℕ) (c : ℕ) (rest : List ℕ) → a ≡ (step default_config s c).1 → is_end a ≡ false
    → next_record default_config s fs p (c ∷ rest) ≡ next_record default_config (step default_config s c).0 (fields_after a fs p) (field_after a c p) rest
unfolding next_record
goes_on s a fs p c rest e n = rw (← e, n) refl

-- a byte that ends it
pub stops : (s : State) (fs : List (List ℕ)) (p : List ℕ) (c : ℕ) (rest : List ℕ) → act.EndRecord ≡ (step default_config s c).1
    → next_record default_config s fs p (c ∷ rest) ≡ Some (fs ++ (p ∷ []), (step default_config s c).0, rest)
unfolding next_record
stops s fs p c rest e = rw (← e) refl

-- a read at a byte, and behind it
pub reads-on : (text : List ℕ) (at i : ℕ) (s s2 : State) (a : Action) (fs : List (List ℕ)) (p : List ℕ) → i < length text
    → next_at text at ≡ next_record default_config s fs p (drop i text) → s2 ≡ (step default_config s (get_or text i 0)).0 → a ≡ (step default_config s (get_or text i 0)).1 → is_end a ≡ false
    → next_at text at ≡ next_record default_config s2 (fields_after a fs p) (field_after a (get_or text i 0) p) (drop (i + 1) text)
reads-on text at i s s2 a fs p l r e1 e2 n = r ∙ rw (rest_at text i (get_or text i 0) l refl, e1) (goes_on s a fs p (get_or text i 0) (drop (i + 1) text) e2 n)

-- a record takes a byte at least
progress : (text : List ℕ) (at next : ℕ) (fs : List (List ℕ)) → Closes (next_at text at) fs (drop next text) → at < next
progress text at next fs c =
    let l = between-leaves default_config st.StartRecord (drop at text) (fs, c.0, drop next text) tt c.2 in
    omega (arith, l.0, length-drop at text, length-drop next text)

-- a record that was read, and where the next one begins
abbrev pub Ended : List ℕ → ℕ → List (List ℕ) → ℕ → Type 0
Ended text at fs next = (records_at text at ≡ fs ∷ records_at text next) × (at < next)

-- a record that ended before a place
ended : (text : List ℕ) (at next : ℕ) (fs : List (List ℕ)) → Closes (next_at text at) fs (drop next text) → Ended text at fs next
ended text at next fs c = (records_next text at next fs c, progress text at next fs c)

-- a read at the byte that ends the record
pub reads-stop : (text : List ℕ) (at i : ℕ) (s : State) (fs : List (List ℕ)) (p : List ℕ) → i < length text
    → next_at text at ≡ next_record default_config s fs p (drop i text) → act.EndRecord ≡ (step default_config s (get_or text i 0)).1
    → Ended text at (fs ++ (p ∷ [])) (i + 1)
reads-stop text at i s fs p l r e =
    let b : IsBetween (step default_config s (get_or text i 0)).0 = step-ends default_config s (get_or text i 0) (rw (← e) refl) in
    ended text at (i + 1) (fs ++ (p ∷ [])) ((step default_config s (get_or text i 0)).0, b, r ∙ rw (rest_at text i (get_or text i 0) l refl) (stops s fs p (get_or text i 0) (drop (i + 1) text) e))

-- the end of the text before a record
pub last_none : (s : State) (fs : List (List ℕ)) (p : List ℕ) → ends_at_end s ≡ false → next_record default_config s fs p [] ≡ None
unfolding next_record
last_none s fs p e = rw e refl

-- the end of the text within a record
pub last_some : (s : State) (fs : List (List ℕ)) (p : List ℕ) → ends_at_end s ≡ true → next_record default_config s fs p [] ≡ Some (fs ++ (p ∷ []), st.StartRecord, [])
unfolding next_record
last_some s fs p e = rw e refl

-- a read at the end of the text
pub reads-none : (text : List ℕ) (at : ℕ) (s : State) (fs : List (List ℕ)) (p : List ℕ) → next_at text at ≡ next_record default_config s fs p (drop (length text) text) → ends_at_end s ≡ false → records_at text at ≡ []
reads-none text at s fs p r e = all-none default_config st.StartRecord (drop at text) (r ∙ rw (drop_all (length text) text (omega arith)) (last_none s fs p e))

-- a read within a record at the end of the text
pub reads-last : (text : List ℕ) (at : ℕ) (s : State) (fs : List (List ℕ)) (p : List ℕ) → next_at text at ≡ next_record default_config s fs p (drop (length text) text) → ends_at_end s ≡ true
    → Ended text at (fs ++ (p ∷ [])) (length text)
reads-last text at s fs p r e =
    let z = drop_all (length text) text (omega arith) in
    ended text at (length text) (fs ++ (p ∷ [])) (st.StartRecord, tt, r ∙ rw z (last_some s fs p e))

-- a field that was pushed
pub pushed : (old new : List (List ℕ)) (part f g : List ℕ) → new ≡ old ++ ((part ++ f) ∷ []) → part ≡ [] → f ≡ g → new ≡ old ++ (g ∷ [])
pushed old new part f g e z h = e ∙ rw (z, h) refl

-- a mode within a record
pub is_within_record : (p : Mode) → (p ≡ mode.BeforeRecord → ⊥) → (p ≡ mode.AfterCr → ⊥) → ends_at_end (state_of p) ≡ true
is_within_record mode.BeforeRecord n m = absurd (n refl)
is_within_record mode.AfterCr n m = absurd (m refl)
is_within_record mode.FieldStart n m = refl
is_within_record mode.InField n m = refl
is_within_record mode.InQuotes n m = refl
is_within_record mode.AfterQuote n m = refl

-- a mode before a record
pub is_before_record : (p : Mode) → (p ≡ mode.BeforeRecord) ⊎ (p ≡ mode.AfterCr) → ends_at_end (state_of p) ≡ false
is_before_record p (inl e) = rw e refl
is_before_record p (inr e) = rw e refl

-- a byte above the comma, within a field or between quotes
pub joined : (p : Mode) (c : ℕ) → joins p ≡ true → 44 < c → step default_config (state_of p) c ≡ (state_of p, act.Copy)
joined mode.InField c j h = let o = other_above c h in rw (o.comma, o.cr, o.lf) refl
joined mode.InQuotes c j h = let o = other_above c h in rw o.quote refl
joined mode.BeforeRecord c j h = absurd (cc j)
joined mode.AfterCr c j h = absurd (cc j)
joined mode.FieldStart c j h = absurd (cc j)
joined mode.AfterQuote c j h = absurd (cc j)

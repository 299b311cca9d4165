-- Groups that change and keep their keys, and the marks and leads of these.
use Rattle.std.proofs.Common.{◌≡◌, ◌∙◌, ℕ, zero, suc, ◌<◌, ◌≤◌, Bool, true, false, map, Option, ◌⊎◌, inl, inr, List, [], ◌∷◌, ◌++◌, length, get_or, set, Result, Ok, Err, OnOk, OnErr, ap, arith, refl, subst, sym}
use Rattle.std.proofs.lemmas.List.{get_or_append_left, get_or_push, length_push, map-append}
use Rattle.std.proofs.lemmas.Bool.{cases_lt}
use Rattle.pipe_columns.specs.declared.data_type.DataType.{DataType}
use Rattle.pipe_groups.specs.Groups.{Group, group_of, group_keys}
use Rattle.pipe_groups.specs.Shape.{Shape}
use Rattle.std.specs.declared.hash.RandomState.{RandomState}
use Rattle.pipe_chains.specs.Hash.{secret_hash_of}
use Rattle.pipe_keyed.specs.KeyedLayout.{AreLed, AreMarked, lead_of, leads_of}

-- what follows from either end of a call
pub either-end : {A E P Q R : Type 0} (res : Result A E) → OnOk res P → OnErr res Q → (P → R) → (Q → R) → R
either-end (Ok x) p q f g = f p
either-end (Err e) p q f g = g q

-- a group in place of another of its key
pub keys-set : (gs : List Group) (i : ℕ) (g : Group) → g.key ≡ (group_of gs i).key → group_keys (set gs i g) ≡ group_keys gs
keys-set [] i g e = refl
keys-set (x ∷ xs) zero g e = ap (λ (k : List ℕ). k ∷ group_keys xs) e
keys-set (x ∷ xs) (suc i) g e = ap (λ (ks : List (List ℕ)). x.key ∷ ks) (keys-set xs i g e)

module _ (Marks : List DataType → List ℕ → ℕ → Type 0) where
  -- a key behind others has its mark behind theirs
  marked-behind : (types : List DataType) (keys : List (List ℕ)) (key : List ℕ) (marks : List ℕ) (mark : ℕ) → AreMarked Marks types keys marks → Marks types key mark
      → AreMarked Marks types (keys ++ key ∷ []) (marks ++ mark ∷ [])
  marked-behind types keys key marks mark h own = record {
    many = omega (arith, h.many, length_push keys key, length_push marks mark);
    each = λ i l. by i l (cases_lt i (length keys));
  } where
    by : (i : ℕ) → i < length (keys ++ key ∷ []) → (i < length keys) ⊎ (length keys ≤ i) → Marks types (get_or (keys ++ key ∷ []) i []) (get_or (marks ++ mark ∷ []) i 0)
    by i within (inl l) = rw (get_or_append_left keys (key ∷ []) [] i l, get_or_append_left marks (mark ∷ []) 0 i (omega (arith, l, h.many))) (h.each i l)
    by i within (inr ge) =
        let last : length keys ≡ i = omega (arith, within, ge, length_push keys key) in
        rw (get_or_push keys key [] i last, get_or_push marks mark 0 i (h.many ∙ last)) own

-- a key behind others has its lead behind theirs
leads-behind : (hides : Bool) (hash_keys : Option RandomState) (keys : List (List ℕ)) (key marks : List ℕ) (mark : ℕ)
    → leads_of hides hash_keys (keys ++ key ∷ []) (marks ++ mark ∷ []) ≡ leads_of hides hash_keys keys marks ++ lead_of hides hash_keys key mark ∷ []
leads-behind true hash_keys keys key marks mark = map-append (secret_hash_of hash_keys) keys (key ∷ [])
leads-behind false hash_keys keys key marks mark = refl

leads-none : (hides : Bool) (hash_keys : Option RandomState) → [] ≡ leads_of hides hash_keys [] []
leads-none true hash_keys = refl
leads-none false hash_keys = refl

module _ (Marks : List DataType → List ℕ → ℕ → Type 0) (CanHide : List DataType → Type 0) (hash_keys : Option RandomState) (hides : Bool) where
  -- groups of the same keys have the same marks and leads
  pub led-keys : (old new : Shape) (gs now : List Group) (marks leads : List ℕ) → group_keys now ≡ group_keys gs → new ≡ old
      → AreLed Marks CanHide hash_keys hides old.key_types (group_keys gs) marks leads → AreLed Marks CanHide hash_keys hides new.key_types (group_keys now) marks leads
  led-keys old new gs now marks leads same shape h =
      subst (λ (s : Shape). AreLed Marks CanHide hash_keys hides s.key_types (group_keys now) marks leads) (sym shape)
      (subst (λ (ks : List (List ℕ)). AreLed Marks CanHide hash_keys hides old.key_types ks marks leads) (sym same) h)

  -- a group in place of another leaves the marks and leads
  pub led-set : (old new : Shape) (gs now : List Group) (marks leads : List ℕ) (i : ℕ) (g : Group) → (now ≡ set gs i g) × (new ≡ old) → g.key ≡ (group_of gs i).key
      → AreLed Marks CanHide hash_keys hides old.key_types (group_keys gs) marks leads → AreLed Marks CanHide hash_keys hides new.key_types (group_keys now) marks leads
  led-set old new gs now marks leads i g is same h = led-keys old new gs now marks leads (ap group_keys is.0 ∙ keys-set gs i g same) is.1 h

  -- the same groups have the same marks and leads
  pub led-same : (old new : Shape) (gs now : List Group) (marks leads : List ℕ) → (now ≡ gs) × (new ≡ old)
      → AreLed Marks CanHide hash_keys hides old.key_types (group_keys gs) marks leads → AreLed Marks CanHide hash_keys hides new.key_types (group_keys now) marks leads
  led-same old new gs now marks leads is h = led-keys old new gs now marks leads (ap group_keys is.0) is.1 h

  -- a group behind others
  pub led-push : (old new : Shape) (gs now : List Group) (g : Group) (marks leads more further : List ℕ) (mark lead : ℕ)
      → AreLed Marks CanHide hash_keys hides old.key_types (group_keys gs) marks leads → Marks old.key_types g.key mark → lead ≡ lead_of hides hash_keys g.key mark
      → (now ≡ gs ++ g ∷ []) × (new ≡ old) → more ≡ marks ++ mark ∷ [] → further ≡ leads ++ lead ∷ []
      → AreLed Marks CanHide hash_keys hides new.key_types (group_keys now) more further
  led-push old new gs now g marks leads more further mark lead h own leading is longer led =
      let keys : group_keys now ≡ group_keys gs ++ g.key ∷ [] = ap group_keys is.0 ∙ map-append (λ (x : Group). x.key) gs (g ∷ []) in
      record {
        marked = rw (longer, keys, is.1) (marked-behind Marks old.key_types (group_keys gs) g.key marks mark h.marked own);
        led = led ∙ rw (longer, keys, leading, h.led) (sym (leads-behind hides hash_keys (group_keys gs) g.key marks mark));
        can = λ hidden. rw is.1 (h.can hidden);
      }

  -- no groups have no marks and no leads
  pub led-none : (s : Shape) (now : List Group) (marks leads : List ℕ) → now ≡ [] → marks ≡ [] → leads ≡ [] → (hides ≡ true → CanHide s.key_types)
      → AreLed Marks CanHide hash_keys hides s.key_types (group_keys now) marks leads
  led-none s now marks leads none unmarked unled can = record {
    marked = rw (none, unmarked) (record { many = refl; each = λ i l. absurd (omega arith) });
    led = rw (none, unmarked, unled) (leads-none hides hash_keys);
    can = can;
  }

  -- chains of the same marks and leads
  pub led-kept : (types : List DataType) (keys : List (List ℕ)) (marks leads more further : List ℕ) → more ≡ marks → further ≡ leads
      → AreLed Marks CanHide hash_keys hides types keys marks leads → AreLed Marks CanHide hash_keys hides types keys more further
  led-kept types keys marks leads more further same still h = rw (same, still) h

  -- keys that can hide do
  pub led-hidden : (types : List DataType) (keys : List (List ℕ)) (marks leads more further : List ℕ) → more ≡ marks → further ≡ map (secret_hash_of hash_keys) keys → CanHide types
      → AreLed Marks CanHide hash_keys hides types keys marks leads → AreLed Marks CanHide hash_keys true types keys more further
  led-hidden types keys marks leads more further same secret can h = record {
    marked = rw same h.marked;
    led = secret;
    can = λ hidden. can;
  }

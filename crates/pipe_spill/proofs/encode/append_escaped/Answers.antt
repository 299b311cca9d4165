-- What was written stays, and each byte moves to it from what is left.
use Rattle.std.proofs.Common.{rules, arith, Bool, true, false, Global, Vec, if◌then◌else◌, ◌≡◌, ◌≢◌, ◌∙◌, ◌++◌, ◌+◌, ◌<◌, List, ℕ, zero, suc, [], ◌∷◌, ap, refl, subst, sym, drop, get_or, length, take, append_assoc}
use Rattle.std.specs.Result.{is_ok}
use Rattle.std.proofs.lemmas.List.{drop_more}
use Rattle.std.proofs.Math.Seq.{drop-length, take-length}
use Rattle.pipe_columns.specs.Key.{text_code}
use Rattle.pipe_spill.proofs.CodeOrder.{text_code-more}
use Rattle.pipe_spill.proofs.encode.append_escaped.Invariants.{Written}
use Rattle.pipe_spill.proofs.encode.append_escaped.Goals.{then-byte-eq0+in_ok-push-2, else-byte-eq0}
use Rattle.pipe_spill.proofs.encode.append_escaped.Goals as goal

-- what follows a front leaves it as it is
front_stays : (old new more : List ℕ) → take (length old) new ≡ old → take (length old) (new ++ more) ≡ old
front_stays [] new more h = refl
front_stays (x ∷ old) [] more h = cc
front_stays (x ∷ old) (y ∷ new) more h =
    let rest : take (length old) new ≡ old = cc in
    let stays = front_stays old new more rest in
    cc

-- it stays whether more follows or not
front_stays_either : (old new more : List ℕ) (follows : Bool) → take (length old) new ≡ old
    → take (length old) (if follows then new ++ more else new) ≡ old
front_stays_either old new more true h = front_stays old new more h
front_stays_either old new more false h = h

-- a byte that isn't 0 stands as it is
byte_code : (b : ℕ) (rest : List ℕ) → b ≢ 0 → text_code (b ∷ rest) ≡ b ∷ text_code rest
byte_code zero rest h = absurd (h refl)
byte_code (suc b) rest h = text_code-more b rest

-- a 0 is written with its mark
zero_moves : (old new text : List ℕ) (i : ℕ) → Written old new text i → i < length text → get_or text i 0 ≡ 0
    → Written old ((new ++ get_or text i 0 ∷ []) ++ 1 ∷ []) text (i + 1)
zero_moves old new text i h p z =
    let b = get_or text i 0 in
    let left = text_code (drop (i + 1) text) in
    let code : b ∷ 1 ∷ left ≡ text_code (drop i text) = rw (drop_more text i 0 p, z) refl in
    record {
      front = front_stays old (new ++ b ∷ []) (1 ∷ []) (front_stays old new (b ∷ []) h.front);
      rest = append_assoc (new ++ b ∷ []) (1 ∷ []) left ∙ append_assoc new (b ∷ []) (1 ∷ left) ∙ ap (λ (xs : List ℕ). new ++ xs) code ∙ h.rest;
    }

-- any other byte is written
byte_moves : (old new text : List ℕ) (i : ℕ) → Written old new text i → i < length text → get_or text i 0 ≢ 0
    → Written old (new ++ get_or text i 0 ∷ []) text (i + 1)
byte_moves old new text i h p n =
    let b = get_or text i 0 in
    let left = drop (i + 1) text in
    let code : b ∷ text_code left ≡ text_code (drop i text) = rw (drop_more text i 0 p) (sym (byte_code b left n)) in
    record {
      front = front_stays old new (b ∷ []) h.front;
      rest = append_assoc new (b ∷ []) (text_code left) ∙ ap (λ (xs : List ℕ). new ++ xs) code ∙ h.rest;
    }

-- the end is behind the last byte
all_written : (old new text : List ℕ) (i : ℕ) → Written old new text i → i ≡ length text → new ++ 0 ∷ 0 ∷ [] ≡ old ++ text_code text
all_written old new text i h e =
    let none : drop i text ≡ [] = ap (λ (k : ℕ). drop k text) e ∙ drop-length text in
    ap (λ (xs : List ℕ). new ++ text_code xs) (sym none) ∙ h.rest

pub loop-byte-init : goal.loop-byte-init
loop-byte-init c = record { front = take-length c.args.buffer.now.items; rest = refl }

pub returns-in_err-push-clause-refused : goal.returns-in_err-push-clause-refused
returns-in_err-push-clause-refused c =
    ap (λ (xs : List ℕ). take (length c.args.buffer.now.items) xs) c.in_err-push.ensures.items ∙ c.loop-byte.invariant.front

pub returns-in_err-push-2-clause-refused : goal.returns-in_err-push-2-clause-refused
returns-in_err-push-2-clause-refused c =
    let old = c.args.buffer.now.items in
    let new = c.loop-byte.buffer.items in
    let b = get_or c.args.text.now c.loop-byte.byte-index 0 in
    ap (λ (xs : List ℕ). take (length old) xs) (c.in_err-push-2.ensures.items ∙ c.in_ok-push.ensures.items) ∙ front_stays old new (b ∷ []) c.loop-byte.invariant.front

pub loop-byte-preserved : goal.loop-byte-preserved
loop-byte-preserved c =
    let old = c.args.buffer.now.items in
    let new = c.loop-byte.buffer.items in
    let text = c.args.text.now in
    let i = c.loop-byte.byte-index in
    elim c.if-byte-eq0.branch [
      | then-byte-eq0+in_ok-push-2 w ↦
          let is = ap (λ (v : Vec ℕ Global). v.items) w.buffer-is ∙ w.in_ok-push-2.ensures.items ∙ ap (λ (xs : List ℕ). xs ++ 1 ∷ []) c.in_ok-push.ensures.items in
          subst (λ (xs : List ℕ). Written old xs text (i + 1)) (sym is) (zero_moves old new text i c.loop-byte.invariant c.loop-byte-test.true w.if-byte-eq0.true)
      | else-byte-eq0 w ↦
          let is = ap (λ (v : Vec ℕ Global). v.items) w.buffer-is ∙ c.in_ok-push.ensures.items in
          subst (λ (xs : List ℕ). Written old xs text (i + 1)) (sym is) (byte_moves old new text i c.loop-byte.invariant c.loop-byte-test.true w.if-byte-eq0.false)
    ]

pub returns-clause-ok : goal.returns-clause-ok
returns-clause-ok c =
    let last : c.loop-byte.byte-index ≡ length c.args.text.now = omega arith in
    let whole = all_written c.args.buffer.now.items c.loop-byte.buffer.items c.args.text.now c.loop-byte.byte-index c.loop-byte.invariant last in
    search (rules, whole)

pub returns-clause-refused : goal.returns-clause-refused
returns-clause-refused c =
    let old = c.args.buffer.now.items in
    ap (λ (xs : List ℕ). take (length old) xs) c.extend_from_slice.ensures.items
    ∙ front_stays_either old c.loop-byte.buffer.items (0 ∷ 0 ∷ []) (is_ok c.extend_from_slice.result) c.loop-byte.invariant.front

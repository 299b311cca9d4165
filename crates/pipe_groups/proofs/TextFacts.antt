-- The texts of a row that are copied, one by one.
use Rattle.std.proofs.Common.{◌≡◌, ◌∙◌, ℕ, zero, suc, ◌+◌, ◌-◌, ◌<◌, Bool, true, false, if◌then◌else◌, List, [], ◌∷◌, ◌++◌, length, length-append, take, drop, get_or, set, refl, ap, arith, subst}
use Rattle.std.proofs.lemmas.List.{append-nil, drop-set-lt, drop_more, take_at}
use Rattle.pipe_columns.specs.declared.any_value.AnyValue.{AnyValue}
use Rattle.pipe_columns.specs.declared.place.Place.{Place}
use Rattle.pipe_columns.specs.Frame.{value_at}
use Rattle.pipe_running.specs.declared.function.AggregateFunction.{AggregateFunction}
use Rattle.pipe_running.specs.declared.function.AggregateFunction.TheVariants as function
use Rattle.pipe_running.specs.Lent.{keeps_text}
use Rattle.pipe_groups.specs.GroupRuns.{keeps_value}
use Rattle.pipe_groups.specs.Texts.{kept_texts}

abbrev States : Type 0
States = List AggregateFunction

-- the text of one value, if it is kept
abbrev kept : Bool → AnyValue → List AnyValue
kept b v = if b then v ∷ [] else []

-- those from a position on
pub texts-at : (p : Place) (inputs : List AnyValue) (ss : States) (j : ℕ) (d : AggregateFunction) → j < length ss
    → kept_texts p j inputs (drop j ss) ≡ kept_texts p (j + 1) inputs (drop (j + 1) ss) ++ kept (keeps_text p (value_at inputs j) (get_or ss j d)) (value_at inputs j)
texts-at p inputs ss j d lt = rw (drop_more ss j d lt) refl

-- a copy that is used is gone
pub texts-next : (p : Place) (inputs : List AnyValue) (ss : States) (j : ℕ) (d new : AggregateFunction) (copies left : List AnyValue) → j < length ss → copies ≡ kept_texts p j inputs (drop j ss)
    → left ≡ (if keeps_text p (value_at inputs j) (get_or ss j d) then take (length copies - 1) copies else copies)
    → left ≡ kept_texts p (j + 1) inputs (drop (j + 1) (set ss j new))
texts-next p inputs ss j d new copies left lt all is = by (keeps_text p (value_at inputs j) (get_or ss j d)) refl where
  rest : List AnyValue
  rest = kept_texts p (j + 1) inputs (drop (j + 1) ss)

  same : drop (j + 1) (set ss j new) ≡ drop (j + 1) ss
  same = drop-set-lt (j + 1) ss j new (omega arith)

  by : (b : Bool) → keeps_text p (value_at inputs j) (get_or ss j d) ≡ b → left ≡ kept_texts p (j + 1) inputs (drop (j + 1) (set ss j new))
  by true e =
      let text : List AnyValue = value_at inputs j ∷ [] in
      let whole : copies ≡ rest ++ text = all ∙ texts-at p inputs ss j d lt ∙ rw e refl in
      let long : length copies - 1 ≡ length rest = omega (arith, ap (λ (l : List AnyValue). length l) whole, length-append rest text) in
      let used : left ≡ take (length copies - 1) copies = is ∙ rw e refl in
      rw same (used ∙ ap (λ (n : ℕ). take n copies) long ∙ ap (λ (l : List AnyValue). take (length rest) l) whole ∙ take_at rest text (length rest) refl)
  by false e =
      let whole : copies ≡ rest = all ∙ texts-at p inputs ss j d lt ∙ rw e (append-nil rest) in
      let kept : left ≡ copies = is ∙ rw e refl in
      rw same (kept ∙ whole)

-- where there are none, none is kept
pub texts-none : (p : Place) (i : ℕ) (inputs : List AnyValue) (ss : States) (j : ℕ) (d : AggregateFunction) → kept_texts p i inputs ss ≡ [] → j < length ss
    → keeps_text p (value_at inputs (i + j)) (get_or ss j d) ≡ false
texts-none p i inputs [] j d none lt = absurd (omega arith)
texts-none p i inputs (s ∷ ss) zero d none lt =
    let here : i + 0 ≡ i = omega arith in
    rw here (by (keeps_text p (value_at inputs i) s) refl) where
      by : (b : Bool) → keeps_text p (value_at inputs i) s ≡ b → keeps_text p (value_at inputs i) s ≡ false
      by false e = e
      by true e =
          let full : kept_texts p (i + 1) inputs ss ++ value_at inputs i ∷ [] ≡ [] = rw e at none in
          absurd (omega (arith, ap (λ (l : List AnyValue). length l) full, length-append (kept_texts p (i + 1) inputs ss) (value_at inputs i ∷ [])))
texts-none p i inputs (s ∷ ss) (suc j) d none lt =
    let there : i + suc j ≡ i + 1 + j = omega arith in
    rw there (texts-none p (i + 1) inputs ss j d rest (omega arith)) where
      rest : kept_texts p (i + 1) inputs ss ≡ []
      rest = nothing (kept_texts p (i + 1) inputs ss) (kept (keeps_text p (value_at inputs i) s) (value_at inputs i)) none where
        nothing : (xs ys : List AnyValue) → xs ++ ys ≡ [] → xs ≡ []
        nothing [] ys e = refl
        nothing (x ∷ xs) ys e = cc e

-- in a whole row
pub none-kept : (p : Place) (inputs : List AnyValue) (ss : States) (j : ℕ) (d : AggregateFunction) → kept_texts p 0 inputs ss ≡ [] → j < length ss
    → keeps_text p (value_at inputs j) (get_or ss j d) ≡ false
none-kept p inputs ss j d none lt =
    let here : 0 + j ≡ j = omega arith in
    subst (λ (k : ℕ). keeps_text p (value_at inputs k) (get_or ss j d) ≡ false) here (texts-none p 0 inputs ss j d none lt)

-- ---- where none is a first or a last

-- one that keeps no value keeps no text
pub keeps-none : (p : Place) (v : AnyValue) (s : AggregateFunction) → keeps_value s ≡ false → keeps_text p v s ≡ false
keeps-none p v (function.First a) e = cc
keeps-none p v (function.Last a) e = cc
keeps-none p v s e = refl

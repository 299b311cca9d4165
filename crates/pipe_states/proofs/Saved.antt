-- Results are saved, and what was saved gives them back.
use Rattle.std.proofs.Common.{◌≡◌, ◌∙◌, ◌+◌, ◌*◌, ◌^◌, ◌<◌, ◌≤◌, ◌&&◌, ℕ, Bool, true, false, List, [], ◌∷◌, ◌++◌, length, take, drop, get_or, take-append-drop, append_assoc, refl, sym, ap, subst, arith}
use Rattle.std.specs.Prelude.{All, if◌then◌else◌, Option, Some, None, option_map, pos, ◌*ℤ◌, ◌+ℤ◌}
use Rattle.std.specs.Option.{option_and_then}
use Rattle.std.proofs.lemmas.Bool.{false≢true}
use Rattle.std.proofs.lemmas.List.{append-nil, drop_at, drop_more}
use Rattle.std.proofs.lemmas.List.Elements.{All-append, All-cons, All-drop, All-head, All-nil, All-tail}
use Rattle.pipe_columns.specs.declared.any_value.AnyValue.{AnyValue}
use Rattle.pipe_columns.specs.declared.any_value.AnyValue.TheVariants as av
use Rattle.pipe_columns.specs.declared.data_type.DataType.{DataType}
use Rattle.pipe_columns.specs.declared.data_type.DataType.TheVariants as dt
use Rattle.pipe_columns.specs.AnyValue.{fits, HasUtf8}
use Rattle.pipe_columns.specs.Frame.{value_at}
use Rattle.pipe_columns.specs.Key.{code, value_code}
use Rattle.pipe_running.specs.States.{first_type}
use Rattle.pipe_running.specs.declared.function.AggregateFunction.{AggregateFunction}
use Rattle.pipe_spill.specs.KeyTypes.{AreOfTypes}
use Rattle.pipe_states.specs.Forms.{all_give, all_result_types, all_saved, all_saved_types, BeginWithResults, gives, is_mean, joined_halves, restored, restored_behind, result_types_of, saved_of, saved_types_of, saved_width, width}
use Rattle.pipe_states.specs.StateText.{high_half, low_half}
use Rattle.pipe_states.proofs.Forms.{width_is}
use Rattle.pipe_states.proofs.SumHalves.{are_halves, joined_back}

-- ---- values of types in two parts

-- values of two lists of types are those of the first, and those of the second
pub split_typed : (ts us : List DataType) (vs : List AnyValue) → AreOfTypes (ts ++ us) vs
    → AreOfTypes ts (take (length ts) vs) × AreOfTypes us (drop (length ts) vs)
split_typed [] us vs h = (tt, h)
split_typed (t ∷ ts) us [] h = absurd h
split_typed (t ∷ ts) us (v ∷ vs) h = let rest = split_typed ts us vs h.1 in ((h.0, rest.0), rest.1)

-- and the other way
pub join_typed : (ts us : List DataType) (vs ws : List AnyValue) → AreOfTypes ts vs → AreOfTypes us ws → AreOfTypes (ts ++ us) (vs ++ ws)
join_typed [] us [] ws h k = k
join_typed [] us (v ∷ vs) ws h k = absurd h
join_typed (t ∷ ts) us [] ws h k = absurd h
join_typed (t ∷ ts) us (v ∷ vs) ws h k = (h.0, join_typed ts us vs ws h.1 k)

-- the code of as many values as types, and of others behind them
pub code_join : (ts us : List DataType) (vs ws : List AnyValue) → length ts ≡ length vs → code (ts ++ us) (vs ++ ws) ≡ code ts vs ++ code us ws
code_join [] us [] ws e = refl
code_join [] us (v ∷ vs) ws e = absurd (omega (arith, e))
code_join (t ∷ ts) us [] ws e = absurd (omega (arith, e))
code_join (t ∷ ts) us (v ∷ vs) ws e =
    ap (λ (l : List ℕ). value_code t v ++ l) (code_join ts us vs ws (omega (arith, e))) ∙ sym (append_assoc (value_code t v) (code ts vs) (code us ws))

-- ---- one running aggregate, by whether it is a mean

-- the types of its results
abbrev pub rt : Bool → DataType → List DataType
rt b t = if b then dt.Int128 ∷ dt.UInt32 ∷ [] else t ∷ []

-- those in which they are saved
abbrev pub st : Bool → DataType → List DataType
st b t = if b then dt.Int64 ∷ dt.UInt64 ∷ dt.UInt32 ∷ [] else t ∷ []

-- how many there are
abbrev pub wd : Bool → ℕ
wd b = if b then 2 else 1

-- and as how many values they are saved
abbrev pub sw : Bool → ℕ
sw b = if b then 3 else 1

-- what is saved
abbrev pub sv : Bool → List AnyValue → List AnyValue
sv b rs =
    if b then high_half (value_at rs 0) ∷ low_half (value_at rs 0) ∷ value_at rs 1 ∷ []
    else value_at rs 0 ∷ []

-- what was saved
abbrev pub back : Bool → List AnyValue → Option (List AnyValue)
back b vs =
    if b then option_map (λ (sum : AnyValue). sum ∷ value_at vs 2 ∷ []) (joined_halves (value_at vs 0) (value_at vs 1))
    else Some (value_at vs 0 ∷ [])

-- as many values are saved as there are types
saved_width_is : (f : AggregateFunction) → length (saved_types_of f) ≡ saved_width f
saved_width_is f = by (is_mean f) where
  by : (b : Bool) → length (st b (first_type f)) ≡ sw b
  by true = refl
  by false = refl

-- results in front that are saved
record IsSaved (b : Bool) (t : DataType) (rs : List AnyValue) : Type 0 where
  long : length (sv b rs) ≡ sw b
  again : (more : List AnyValue) → back b (sv b rs ++ more) ≡ Some (take (wd b) rs)

saved_one : (b : Bool) (t : DataType) (rs : List AnyValue) → AreOfTypes (rt b t) (take (wd b) rs) → IsSaved b t rs
saved_one true t [] h = absurd h
saved_one true t (v ∷ []) h = absurd h.1
saved_one true t (v ∷ c ∷ rs) h = record {
  long = refl;
  again = λ more. ap (option_map (λ (sum : AnyValue). sum ∷ c ∷ [])) (joined_back v h.0);
}
saved_one false t [] h = absurd h
saved_one false t (v ∷ rs) h = record { long = refl; again = λ more. refl }

-- values in front that results are of
record IsBack (b : Bool) (t : DataType) (vs new : List AnyValue) : Type 0 where
  typed : AreOfTypes (rt b t) new
  long : length new ≡ wd b
  saved : (more : List AnyValue) → sv b (new ++ more) ≡ take (sw b) vs
  utf8 : All HasUtf8 vs → All HasUtf8 new

-- the third of some values is in UTF-8
third : (h l c : AnyValue) (vs : List AnyValue) → All HasUtf8 (h ∷ l ∷ c ∷ vs) → HasUtf8 c
third h l c vs u = All-head HasUtf8 c vs (All-tail HasUtf8 l (c ∷ vs) (All-tail HasUtf8 h (l ∷ c ∷ vs) u))

mean_back : (t : DataType) (h l c : AnyValue) (vs new : List AnyValue) → fits h dt.Int64 ≡ true → fits l dt.UInt64 ≡ true → fits c dt.UInt32 ≡ true
    → option_map (λ (sum : AnyValue). sum ∷ c ∷ []) (joined_halves h l) ≡ Some new → IsBack true t (h ∷ l ∷ c ∷ vs) new
mean_back t (av.Boolean b) l c vs new p q r e = absurd (false≢true p)
mean_back t (av.Text s) l c vs new p q r e = absurd (false≢true p)
mean_back t av.Null (av.Boolean b) c vs new p q r e = absurd (false≢true q)
mean_back t av.Null (av.Text s) c vs new p q r e = absurd (false≢true q)
mean_back t av.Null (av.Int y) c vs new p q r e = absurd cc
mean_back t (av.Int x) (av.Boolean b) c vs new p q r e = absurd (false≢true q)
mean_back t (av.Int x) (av.Text s) c vs new p q r e = absurd (false≢true q)
mean_back t (av.Int x) av.Null c vs new p q r e = absurd cc
mean_back t av.Null av.Null c vs new p q r e =
    let is : av.Null ∷ c ∷ [] ≡ new = cc in
    subst (IsBack true t (av.Null ∷ av.Null ∷ c ∷ vs)) is (record {
      typed = (refl, (r, tt));
      long = refl;
      saved = λ more. refl;
      utf8 = λ u. All-cons HasUtf8 av.Null (c ∷ []) tt (All-cons HasUtf8 c [] (third av.Null av.Null c vs u) (All-nil HasUtf8));
    })
mean_back t (av.Int x) (av.Int y) c vs new p q r e =
    let sum : AnyValue = av.Int (x *ℤ pos (2 ^ 64) +ℤ y) in
    let is : sum ∷ c ∷ [] ≡ new = cc in
    let halves = are_halves x y p q in
    subst (IsBack true t (av.Int x ∷ av.Int y ∷ c ∷ vs)) is (record {
      typed = (halves.fit, (r, tt));
      long = refl;
      saved = λ more. (λ i. halves.high i ∷ halves.low i ∷ c ∷ []);
      utf8 = λ u. All-cons HasUtf8 sum (c ∷ []) tt (All-cons HasUtf8 c [] (third (av.Int x) (av.Int y) c vs u) (All-nil HasUtf8));
    })

back_one : (b : Bool) (t : DataType) (vs new : List AnyValue) → AreOfTypes (st b t) (take (sw b) vs) → back b vs ≡ Some new → IsBack b t vs new
back_one true t [] new p e = absurd p
back_one true t (h ∷ []) new p e = absurd p.1
back_one true t (h ∷ l ∷ []) new p e = absurd p.1.1
back_one true t (h ∷ l ∷ c ∷ vs) new p e = mean_back t h l c vs new p.0 p.1.0 p.1.1.0 e
back_one false t [] new p e = absurd p
back_one false t (v ∷ vs) new p e =
    let is : v ∷ [] ≡ new = cc in
    subst (IsBack false t (v ∷ vs)) is (record {
      typed = (p.0, tt);
      long = refl;
      saved = λ more. refl;
      utf8 = λ u. All-cons HasUtf8 v [] (All-head HasUtf8 v vs u) (All-nil HasUtf8);
    })

-- ---- some running aggregates

module _ (f : AggregateFunction) (fs : List AggregateFunction) where
  -- results begin with those of the first, and the others are those of the others
  pub front_results : (rs : List AnyValue) → AreOfTypes (all_result_types (f ∷ fs)) rs → BeginWithResults f rs × AreOfTypes (all_result_types fs) (drop (width f) rs)
  front_results rs h =
      subst (λ n. AreOfTypes (result_types_of f) (take n rs) × AreOfTypes (all_result_types fs) (drop n rs)) (width_is f)
      (split_typed (result_types_of f) (all_result_types fs) rs h)

  -- so do values that were saved
  pub front_saved : (vs : List AnyValue) → AreOfTypes (all_saved_types (f ∷ fs)) vs
      → AreOfTypes (saved_types_of f) (take (saved_width f) vs) × AreOfTypes (all_saved_types fs) (drop (saved_width f) vs)
  front_saved vs h =
      subst (λ n. AreOfTypes (saved_types_of f) (take n vs) × AreOfTypes (all_saved_types fs) (drop n vs)) (saved_width_is f)
      (split_typed (saved_types_of f) (all_saved_types fs) vs h)

-- what is saved of results gives them back
pub saved_again : (fs : List AggregateFunction) (done rs : List AnyValue) → AreOfTypes (all_result_types fs) rs
    → restored_behind done fs (all_saved fs rs) ≡ Some (done ++ rs)
saved_again [] done [] h = ap Some (sym (append-nil done))
saved_again [] done (r ∷ rs) h = absurd h
saved_again (f ∷ fs) done rs h =
    let parts = front_results f fs rs h in
    let one = saved_one (is_mean f) (first_type f) rs parts.0 in
    let front : List AnyValue = saved_of f rs in
    let tail : List AnyValue = all_saved fs (drop (width f) rs) in
    let more : List AnyValue = take (width f) rs in
    let next : List AnyValue → Option (List AnyValue) = λ new. restored_behind (done ++ new) fs (drop (saved_width f) (front ++ tail)) in
    ap (option_and_then next) (one.again tail)
    ∙ ap (λ (l : List AnyValue). restored_behind (done ++ more) fs l) (drop_at front tail (saved_width f) one.long)
    ∙ saved_again fs (done ++ more) (drop (width f) rs) parts.1
    ∙ ap Some (append_assoc done more (drop (width f) rs) ∙ ap (λ (l : List AnyValue). done ++ l) (take-append-drop (width f) rs))

-- values that were saved of results, which stand behind others
pub record AreBack (fs : List AggregateFunction) (done vs rs : List AnyValue) : Type 0 where
  pub more : List AnyValue
  pub is : rs ≡ done ++ more
  pub saved : all_saved fs more ≡ vs
  pub typed : AreOfTypes (all_result_types fs) more
  pub utf8 : All HasUtf8 vs → All HasUtf8 more

-- what comes back is what was saved
pub all_back : (fs : List AggregateFunction) (done vs rs : List AnyValue) → AreOfTypes (all_saved_types fs) vs → restored_behind done fs vs ≡ Some rs → AreBack fs done vs rs
all_back [] done (v ∷ vs) rs p e = absurd p
all_back [] done [] rs p e =
    let is : done ≡ rs = cc in record {
      more = [];
      is = sym is ∙ sym (append-nil done);
      saved = refl;
      typed = tt;
      utf8 = λ u. All-nil HasUtf8;
    }
all_back (f ∷ fs) done vs rs p e = by (restored f vs) refl e (λ d v q g. all_back fs d v rs q g) where
  by : (o : Option (List AnyValue)) → restored f vs ≡ o
      → option_and_then (λ (more : List AnyValue). restored_behind (done ++ more) fs (drop (saved_width f) vs)) o ≡ Some rs
      → ((d v : List AnyValue) → AreOfTypes (all_saved_types fs) v → restored_behind d fs v ≡ Some rs → AreBack fs d v rs)
      → AreBack (f ∷ fs) done vs rs
  by None is e next = absurd cc
  by (Some new) is e next =
      let parts = front_saved f fs vs p in
      let one = back_one (is_mean f) (first_type f) vs new parts.0 is in
      let rest = next (done ++ new) (drop (saved_width f) vs) parts.1 e in
      let behind : drop (width f) (new ++ rest.more) ≡ rest.more = drop_at new rest.more (width f) one.long in
      let front : saved_of f (new ++ rest.more) ≡ take (saved_width f) vs = one.saved rest.more in
      record {
        more = new ++ rest.more;
        is = rest.is ∙ append_assoc done new rest.more;
        saved = (λ i. front i ++ all_saved fs (behind i))
            ∙ ap (λ (l : List AnyValue). take (saved_width f) vs ++ l) rest.saved
            ∙ take-append-drop (saved_width f) vs;
        typed = join_typed (result_types_of f) (all_result_types fs) new rest.more one.typed rest.typed;
        utf8 = λ u. All-append HasUtf8 new rest.more (one.utf8 u) (rest.utf8 (All-drop HasUtf8 (saved_width f) vs u));
      }

-- ---- loops over running aggregates

-- the functions that are left, from one on
pub left_more : (fs : List AggregateFunction) (i : ℕ) (f : AggregateFunction) → i < length fs → f ≡ get_or fs i f → drop i fs ≡ f ∷ drop (i + 1) fs
left_more fs i f within is = drop_more fs i f within ∙ ap (λ (x : AggregateFunction). x ∷ drop (i + 1) fs) (sym is)

-- some results are written, and those of the functions that are left are not
pub record AreAppended (fs : List AggregateFunction) (results : List AnyValue) (old now : List ℕ) (left : List AggregateFunction) (rest : List AnyValue) : Type 0 where
  pub typed : AreOfTypes (all_result_types left) rest
  pub bytes : now ++ code (all_saved_types left) (all_saved left rest) ≡ old ++ code (all_saved_types fs) (all_saved fs results)

-- those of one more are written
pub appended_more : (fs : List AggregateFunction) (results : List AnyValue) (old now new : List ℕ) (f : AggregateFunction) (left : List AggregateFunction) (rest : List AnyValue)
    → AreAppended fs results old now (f ∷ left) rest → new ≡ now ++ code (saved_types_of f) (saved_of f rest) → AreAppended fs results old new left (drop (width f) rest)
appended_more fs results old now new f left rest h e =
    let parts = front_results f left rest h.typed in
    let one = saved_one (is_mean f) (first_type f) rest parts.0 in
    let first : List ℕ = code (saved_types_of f) (saved_of f rest) in
    let others : List ℕ = code (all_saved_types left) (all_saved left (drop (width f) rest)) in
    record {
      typed = parts.1;
      bytes = ap (λ (l : List ℕ). l ++ others) e
          ∙ append_assoc now first others
          ∙ ap (λ (l : List ℕ). now ++ l) (sym (code_join (saved_types_of f) (all_saved_types left) (saved_of f rest) (all_saved left (drop (width f) rest)) (saved_width_is f ∙ sym one.long)))
          ∙ h.bytes;
    }

-- some results can be given, and those of the functions that are left decide
pub record AreGiven (fs : List AggregateFunction) (rows : ℕ) (results : List AnyValue) (left : List AggregateFunction) (rest : List AnyValue) : Type 0 where
  pub typed : AreOfTypes (all_result_types left) rest
  pub is : all_give left rows rest ≡ all_give fs rows results

-- those of one more can
pub given_more : (fs : List AggregateFunction) (rows : ℕ) (results : List AnyValue) (f : AggregateFunction) (left : List AggregateFunction) (rest : List AnyValue)
    → AreGiven fs rows results (f ∷ left) rest → gives f rows (value_at rest 0) (value_at rest 1) ≡ true → AreGiven fs rows results left (drop (width f) rest)
given_more fs rows results f left rest h e = record {
  typed = (front_results f left rest h.typed).1;
  is = sym (ap (λ (b : Bool). b && all_give left rows (drop (width f) rest)) e) ∙ h.is;
}

-- those of one can't
pub given_none : (fs : List AggregateFunction) (rows : ℕ) (results : List AnyValue) (f : AggregateFunction) (left : List AggregateFunction) (rest : List AnyValue)
    → AreGiven fs rows results (f ∷ left) rest → gives f rows (value_at rest 0) (value_at rest 1) ≡ false → false ≡ all_give fs rows results
given_none fs rows results f left rest h e = sym (ap (λ (b : Bool). b && all_give left rows (drop (width f) rest)) e) ∙ h.is

-- some results are back, and the values that are left give the others
pub record AreRestored (fs : List AggregateFunction) (all done : List AnyValue) (left : List AggregateFunction) (i j : ℕ) (rest : List AnyValue) : Type 0 where
  pub typed : AreOfTypes (all_saved_types left) rest
  pub is : restored_behind done left rest ≡ restored_behind [] fs all
  pub near : j ≤ 3 + 3 * i

-- a result is saved as three values at most
few_saved : (b : Bool) → sw b ≤ 3
few_saved true = omega arith
few_saved false = omega arith

-- those of one more are
pub restored_more : (fs : List AggregateFunction) (all done new : List AnyValue) (f : AggregateFunction) (left : List AggregateFunction) (i j : ℕ) (rest : List AnyValue)
    → AreRestored fs all done (f ∷ left) i j rest → option_map (λ (more : List AnyValue). done ++ more) (restored f rest) ≡ Some new
    → AreRestored fs all new left (i + 1) (j + saved_width f) (drop (saved_width f) rest)
restored_more fs all done new f left i j rest h e = by (restored f rest) refl e where
  by : (o : Option (List AnyValue)) → restored f rest ≡ o → option_map (λ (more : List AnyValue). done ++ more) o ≡ Some new
      → AreRestored fs all new left (i + 1) (j + saved_width f) (drop (saved_width f) rest)
  by None is e = absurd cc
  by (Some more) is e =
      let same : done ++ more ≡ new = cc in
      let few : saved_width f ≤ 3 = few_saved (is_mean f) in
      let after : List AnyValue = drop (saved_width f) rest in record {
        typed = (front_saved f left rest h.typed).1;
        is = ap (λ (l : List AnyValue). restored_behind l left after) (sym same)
            ∙ sym (ap (option_and_then (λ (more : List AnyValue). restored_behind (done ++ more) left after)) is)
            ∙ h.is;
        near = omega (arith, few, h.near);
      }

-- those of one aren't
pub restored_none : (fs : List AggregateFunction) (all done : List AnyValue) (f : AggregateFunction) (left : List AggregateFunction) (i j : ℕ) (rest : List AnyValue)
    → AreRestored fs all done (f ∷ left) i j rest → restored f rest ≡ None → restored_behind [] fs all ≡ None
restored_none fs all done f left i j rest h e =
    sym h.is ∙ ap (option_and_then (λ (more : List AnyValue). restored_behind (done ++ more) left (drop (saved_width f) rest))) e

-- Records with a quote: their texts one behind the other, and what a reader of these gives.
use Rattle.std.proofs.Common.{inl, inr, ◌⊎◌, ◌≡◌, ◌∙◌, ◌≤◌, ◌<◌, ◌+◌, ℕ, List, [], ◌∷◌, ◌++◌, length, drop, get_or, true, false, Option, refl, sym, ap, subst, arith, append_assoc}
use Rattle.std.proofs.lemmas.List.{drop_more}
use Rattle.csv.specs.Machine.{Read}
use Rattle.csv.specs.Reading.{Reached, ReadRecord, ReadsOn, default_config, records, strip_bom}
use Rattle.csv.specs.declared.parser.State.{State}
use Rattle.csv.specs.declared.parser.State.TheVariants as st
use Rattle.csv.specs.declared.reader.Reader.{Reader}
use Rattle.csv.proofs.ReadFacts.{rows-end, rows-more}
use Rattle.pipe_scan.specs.Records.{Records, between, records_at}
use Rattle.pipe_scan.specs.Row.{StandsAlone, Takes}
use Rattle.pipe_scan.proofs.Between.{IsBetween, all_from}
use Rattle.pipe_scan.proofs.NextPlain.{skips}
use Rattle.pipe_scan.proofs.RecordList.{all-none, all-some, between-leaves, ends-none}
use Rattle.pipe_scan.proofs.ScanFacts.{all-alike}
use Rattle.pipe_scan.proofs.TextStarts.{no_bom_0}
use Rattle.pipe_scan.proofs.WholeRecords.{same_records}
use Rattle.pipe_source.specs.Quoted.{ArePlacesOf, AreTextsOf, WillGive}

-- a reader between two records stands before one or behind a CR
is_between : (s : State) → (s ≡ st.StartRecord) ⊎ (s ≡ st.AfterCr) → IsBetween s
is_between s (inl e) = rw e tt
is_between s (inr e) = rw e tt

stands : (s : State) → IsBetween s → (s ≡ st.StartRecord) ⊎ (s ≡ st.AfterCr)
stands st.StartRecord b = inl refl
stands st.AfterCr b = inr refl
stands st.StartField b = absurd b
stands st.InField b = absurd b
stands st.InQuoted b = absurd b
stands st.AfterQuote b = absurd b
stands st.InEscape b = absurd b
stands st.InComment b = absurd b

-- the records that are left behind one that was read
goes_on : (f : List (List ℕ)) (p : Read) (s : State) (z : List ℕ) → f ≡ p.0 → p.1 ≡ s → p.2 ≡ z → p.0 ∷ all_from default_config p.1 p.2 ≡ f ∷ all_from default_config s z
goes_on f p s z e1 e2 e3 = rw (e2, e3, ← e1) refl

-- a call that found a record gave the first of those that were left
pub gives-some : {R : Type 0} (rem : R → Option (List ℕ)) (a b : Reader R) (fs : Records) (f : List (List ℕ)) → WillGive rem a fs → ReadRecord rem a b true f → ReadsOn a b
    → (more : Records) × (fs ≡ f ∷ more) × WillGive rem b more
unfolding Reached
gives-some rem a b fs f g r on =
    let y : List ℕ = g.bytes in
    let k : IsBetween a.state = is_between a.state g.between in
    let m = rows-more rem a b f default_config a.state y y [] g.config g.source (refl, refl) r in
    let p = m.2.0 in
    let e = m.2.1 in
    let w = between-leaves default_config a.state y p k e in
    let k2 : IsBetween b.state = rw m.2.3.0 at w.1 in
    let first = all-some default_config a.state y p k e in (
      records default_config m.0,
      sym g.records ∙ sym (all-alike a.state y k) ∙ first ∙ goes_on f p b.state m.0 m.2.2 m.2.3.0 m.2.3.1 ∙ ap (λ (t : Records). f ∷ t) (all-alike b.state m.0 k2),
      record {
        plain = on.1 ∙ g.plain;
        ready = (on.4 g.ready).0;
        config = on.0 ∙ g.config;
        between = stands b.state k2;
        bytes = m.0;
        source = m.1;
        records = refl;
      },
    )

-- a call that found none had none left
pub gives-none : {R : Type 0} (rem : R → Option (List ℕ)) (a b : Reader R) (fs : Records) (f : List (List ℕ)) → WillGive rem a fs → ReadRecord rem a b false f → fs ≡ []
gives-none rem a b fs f g r =
    let k : IsBetween a.state = is_between a.state g.between in
    sym g.records ∙ sym (all-alike a.state g.bytes k) ∙ all-none default_config a.state g.bytes (rows-end rem a b f default_config g.bytes g.config g.source r)

-- a text that begins with the end of a line has no byte order mark
pub line-no_bom : (xs more : List ℕ) → xs ≡ 10 ∷ more → strip_bom xs ≡ xs
line-no_bom xs more e = rw e (no_bom_0 (10 ∷ more) (λ n. cc n))

-- a line's end before a text
line_first : (rest : List ℕ) → records default_config (10 ∷ rest) ≡ records default_config rest
line_first rest = same_records (10 ∷ rest) rest _ (skips st.StartRecord 10 rest tt refl) refl

-- no record's text stands behind a line's end
pub texts-start : (text : List ℕ) (low : ℕ) → AreTextsOf text low (10 ∷ []) []
texts-start text low = record {
  fields = [];
  placed = tt;
  alone = line_first [] ∙ all-none default_config st.StartRecord [] (ends-none default_config st.StartRecord tt);
  before = λ h rest. line_first rest;
}

-- one record more has its place
places-push : (text : List ℕ) (places : List (ℕ × ℕ)) (fs : Records) (start end : ℕ) (f : List (List ℕ)) → ArePlacesOf text places fs → Takes text start end f → ArePlacesOf text (places ++ ((start, end) ∷ [])) (fs ++ (f ∷ []))
places-push text [] [] start end f a t = (t, tt)
places-push text [] (g ∷ gs) start end f a t = absurd a
places-push text (p ∷ ps) [] start end f a t = absurd a
places-push text (p ∷ ps) (g ∷ gs) start end f a t = (a.0, places-push text ps gs start end f a.1 t)

-- one text more stands behind others
pub texts-push : (text : List ℕ) (low start end : ℕ) (bytes : List ℕ) (places : List (ℕ × ℕ)) (f : List (List ℕ)) → AreTextsOf text low bytes places → low ≤ start → StandsAlone text start end f
    → AreTextsOf text end (bytes ++ between text start end) (places ++ ((start, end) ∷ []))
texts-push text low start end bytes places f a l s =
    let here : low < length text = omega (arith, l, s.takes.1, s.takes.2) in record {
      fields = a.fields ++ (f ∷ []);
      placed = places-push text places a.fields start end f a.placed s.takes;
      alone = a.before here (between text start end) ∙ ap (λ (t : Records). a.fields ++ t) s.alone;
      before = λ h rest. ap (records default_config) (append_assoc bytes (between text start end) rest) ∙ a.before here (between text start end ++ rest)
          ∙ ap (λ (t : Records). a.fields ++ t) (s.before h rest) ∙ sym (append_assoc a.fields (f ∷ []) (records default_config rest));
    }

-- the place that comes next is that of the record that comes next
pub places-next : (text : List ℕ) (places : List (ℕ × ℕ)) (next : ℕ) (fs more : Records) (f : List (List ℕ)) → next < length places → ArePlacesOf text (drop next places) fs → fs ≡ f ∷ more
    → Takes text (get_or places next (0, 0)).0 (get_or places next (0, 0)).1 f × ArePlacesOf text (drop (next + 1) places) more
places-next text places next fs more f h a e =
    let P : List (ℕ × ℕ) → Type 0 = λ t. ArePlacesOf text t (f ∷ more) in
    subst P (drop_more places next (0, 0) h) (rw e at a)

-- the record that comes next
pub takes-next : (text : List ℕ) (places : List (ℕ × ℕ)) (next : ℕ) (fs more : Records) (f : List (List ℕ)) (start other : ℕ) (now : ℕ × ℕ) → next < length places → ArePlacesOf text (drop next places) fs → fs ≡ f ∷ more
    → now ≡ get_or places next (0, 0) → get_or places next (0, 0) ≡ (start, other) → Takes text start now.1 f
takes-next text places next fs more f start other now h a e here n =
    let P : ℕ × ℕ → Type 0 = λ p. Takes text p.0 p.1 f in
    let Q : ℕ → Type 0 = λ k. Takes text start k f in
    let end : other ≡ now.1 = sym (ap (λ (p : ℕ × ℕ). p.1) (here ∙ n)) in
    subst Q end (subst P n (places-next text places next fs more f h a e).0)

-- a record behind ends of lines
pub takes-behind : (text : List ℕ) (at start end : ℕ) (f : List (List ℕ)) → records_at text start ≡ records_at text at → at ≤ start → Takes text start end f → Takes text at end f
takes-behind text at start end f e l t = (sym e ∙ t.0, omega (arith, l, t.1), t.2)

-- no record comes next only where no place does
pub places-none : (text : List ℕ) (places : List (ℕ × ℕ)) (next : ℕ) (fs : Records) → next < length places → ArePlacesOf text (drop next places) fs → fs ≡ [] → ⊥
places-none text places next fs h a e =
    let P : List (ℕ × ℕ) → Type 0 = λ t. ArePlacesOf text t [] in
    subst P (drop_more places next (0, 0) h) (rw e at a)

-- some places are left
pub some-left : (places : List (ℕ × ℕ)) (next : ℕ) → next < length places → drop next places ≡ [] → ⊥
some-left places next h e = let d = sym e ∙ drop_more places next (0, 0) h in cc d

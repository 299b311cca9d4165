-- Records that are gone over.
use Rattle.std.proofs.Common.{◌≡◌, ◌≢◌, ◌∙◌, ◌+◌, ℕ, List, [], ◌∷◌, ◌++◌, length, take, sym, ap, arith, append_assoc}
use Rattle.std.proofs.lemmas.List.{length-take-le, length_push}
use Rattle.std.proofs.lemmas.List.Elements.{All-push}
use Rattle.pipe_scan.specs.Records.{Records, cut, records_at}
use Rattle.pipe_scan.specs.Row.{Takes, TakesCut, IsWider}
use Rattle.pipe_scan.specs.Skipped.{HasOtherWidth, Skips}
use Rattle.pipe_scan.proofs.ScanFacts.{length-cut}

-- a record whose fields lie in the text has so many of them
width-cut : (text : List ℕ) (at next start count : ℕ) (ends : List ℕ) → TakesCut text at next start count ends → length (cut text start (take count ends)) ≡ count
width-cut text at next start count ends t = length-cut text start (take count ends) ∙ length-take-le count ends t.few

-- a record of so many fields
abbrev pub TakesWide : List ℕ → ℕ → ℕ → ℕ → Type 0
TakesWide text at next width = (fields : List (List ℕ)) × Takes text at next fields × (length fields ≡ width)

-- a record in the text of as many fields as are wanted
pub plain-fits : (text : List ℕ) (at next start count : ℕ) (ends : List ℕ) (width : ℕ) → TakesCut text at next start count ends → count ≡ width → TakesWide text at next width
plain-fits text at next start count ends width t e = (cut text start (take count ends), t.takes, width-cut text at next start count ends t ∙ e)

-- a record that was taken has another number of fields
pub other-width : (text : List ℕ) (at next : ℕ) (fields : List (List ℕ)) (width : ℕ) → Takes text at next fields → length fields ≢ width → HasOtherWidth text at width
other-width text at next fields width t n = (fields, records_at text next, t.0, n)

-- a record in the text of another number of fields
pub plain-misfits : (text : List ℕ) (at next start count : ℕ) (ends : List ℕ) (width : ℕ) → TakesCut text at next start count ends → count ≢ width → HasOtherWidth text at width
plain-misfits text at next start count ends width t n =
    let l = width-cut text at next start count ends t in
    other-width text at next (cut text start (take count ends)) width t.takes (λ e. n (sym l ∙ e))

-- a record that is wider
pub wider-misfits : (text : List ℕ) (at width : ℕ) → IsWider text at width → HasOtherWidth text at width
wider-misfits text at width w = (w.0, w.1, w.2, λ e. omega (arith, e, w.3))

-- one more was gone over
pub skips_more : (text : List ℕ) (at next last width count : ℕ) → Skips text at next width count → TakesWide text next last width → Skips text at last width (count + 1)
skips_more text at next last width count s t = record {
  front = s.front ++ (t.0 ∷ []);
  records = s.records ∙ ap (λ (rs : Records). s.front ++ rs) t.1.0 ∙ sym (append_assoc s.front (t.0 ∷ []) (records_at text last));
  as_many = length_push s.front t.0 ∙ ap (λ (n : ℕ). n + 1) s.as_many;
  as_wide = All-push (λ (fields : List (List ℕ)). length fields ≡ width) s.front t.0 s.as_wide t.2;
  order = omega (arith, s.order, t.1.1);
  within = t.1.2;
}

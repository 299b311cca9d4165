-- One more link keeps chains whole.
use Rattle.std.proofs.Common.{◌≡◌, ℕ, suc, ◌<◌, ◌≤◌, ◌^◌, ◌==◌, Bool, true, false, cond, List, [], ◌∷◌, ◌++◌, length, map, take, get_or, Option, Some, refl, sym, ap, ◌∙◌, arith, ◌⊎◌, inl, inr}
use Rattle.std.proofs.lemmas.List.{get_or_append_left, get_or_push, length_push, length-map, map-append, take-append-le, take_at}
use Rattle.std.proofs.lemmas.Bool.{cases_lt}
use Rattle.pipe_chains.specs.declared.link.Link.{Link}
use Rattle.pipe_chains.specs.Chains.{last_of}
use Rattle.pipe_chains.specs.Layout.{entry_of, IsChained, leads_of}
use Rattle.pipe_chains.proofs.LastIndex.{last_index-push}

-- no links are chained where no head tells one
pub chained-none : (slot told : ℕ → ℕ) → ((s : ℕ) → told s ≡ 0) → IsChained slot told []
chained-none slot told none = record {
  few = omega arith;
  headed = λ s. ap entry_of (none s);
  linked = λ i d l. absurd (omega arith);
}

-- what is told of a slot behind which there is one more entry
told-head : (b : Bool) (at old : ℕ) (o : Option ℕ) → entry_of old ≡ o → entry_of (cond b (suc at) old) ≡ cond b (Some at) o
told-head true at old o e = refl
told-head false at old o e = e

module _ (slot : ℕ → ℕ) (links : List Link) (link : Link) where
  slots-push : map slot (leads_of (links ++ link ∷ [])) ≡ map slot (leads_of links) ++ slot link.lead ∷ []
  slots-push = ap (map slot) (map-append (λ (l : Link). l.lead) links (link ∷ [])) ∙ map-append slot (leads_of links) (link.lead ∷ [])

  slots-length : length (map slot (leads_of links)) ≡ length links
  slots-length = length-map (leads_of links) slot ∙ length-map links (λ (l : Link). l.lead)

  linked-push : (told : ℕ → ℕ) → IsChained slot told links
      → entry_of link.behind ≡ last_of (slot link.lead) (map slot (leads_of links))
      → (i : ℕ) (d : Link) → i < length (links ++ link ∷ [])
      → entry_of (get_or (links ++ link ∷ []) i d).behind
      ≡ last_of (slot (get_or (links ++ link ∷ []) i d).lead) (take i (map slot (leads_of (links ++ link ∷ []))))
  linked-push told chained before i d l = by (cases_lt i (length links)) where
    by : (i < length links) ⊎ (length links ≤ i) → entry_of (get_or (links ++ link ∷ []) i d).behind
        ≡ last_of (slot (get_or (links ++ link ∷ []) i d).lead) (take i (map slot (leads_of (links ++ link ∷ []))))
    by (inl h) =
        rw (slots-push, get_or_append_left links (link ∷ []) d i h, take-append-le i (map slot (leads_of links)) (slot link.lead ∷ []) (omega (arith, slots-length))) (chained.linked i d h)
    by (inr h) =
        let q : length links ≡ i = omega (arith, length_push links link) in
        rw (slots-push, get_or_push links link d i q, take_at (map slot (leads_of links)) (slot link.lead ∷ []) i (slots-length ∙ q)) before

  pub chained-push : (old new : ℕ → ℕ) → IsChained slot old links → (lead : ℕ) → link.lead ≡ lead → link.behind ≡ old (slot lead)
      → (told : ℕ) → told ≡ suc (length links) → told < 2 ^ 32 → ((s : ℕ) → new s ≡ cond (slot lead == s) told (old s))
      → IsChained slot new (links ++ link ∷ [])
  chained-push old new chained lead same before told end small more = record {
    few = omega (arith, length_push links link, end, small);
    headed = λ s. ap entry_of (more s ∙ ap (λ (n : ℕ). cond (slot lead == s) n (old s)) end ∙ ap (λ (l : ℕ). cond (slot l == s) (suc (length links)) (old s)) (sym same))
        ∙ told-head (slot link.lead == s) (length links) (old s) (last_of s (map slot (leads_of links))) (chained.headed s)
        ∙ rw (slots-push, last_index-push (λ x. x == s) (map slot (leads_of links)) (slot link.lead), slots-length) refl;
    linked = linked-push old chained (ap entry_of before ∙ chained.headed (slot lead) ∙ ap (λ (l : ℕ). last_of (slot l) (map slot (leads_of links))) (sym same));
  }

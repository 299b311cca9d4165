-- A walk along the chain of a slot, over entries of other leads.
use Rattle.std.proofs.Common.{◌≡◌, ℕ, suc, ◌<◌, ◌≤◌, ◌≢◌, List, length, map, take, get_or, Some, sym, ap, ◌∙◌, arith, subst}
use Rattle.std.proofs.lemmas.List.{get_or-map, length-map, take_all}
use Rattle.pipe_chains.specs.declared.link.Link.{Link}
use Rattle.pipe_chains.specs.Chains.{last_of}
use Rattle.pipe_chains.specs.Layout.{entry_of, IsChained, IsOfSlot, leads_of}
use Rattle.pipe_chains.proofs.SlotFacts.{last-before, last-here, told-last, told-slot, told-within}

-- no link, as a read beyond the end gives it
abbrev pub no_link : Link
no_link = record { mark = 0; lead = 0; behind = 0; depth = 0 }

-- the walk has come to an entry: up to it stands the last of the lead
pub record IsAlong (slot : ℕ → ℕ) (links : List Link) (lead first told : ℕ) : Type 0 where
  pub on : IsOfSlot slot links lead told
  pub last : last_of lead (take told (leads_of links)) ≡ last_of lead (take first (leads_of links))

module _ (slot told : ℕ → ℕ) (links : List Link) (chained : IsChained slot told links) where
  leads-length : length (leads_of links) ≡ length links
  leads-length = length-map links (λ (l : Link). l.lead)

  lead-at : (i : ℕ) (d : Link) → i < length links → get_or (leads_of links) i 0 ≡ (get_or links i d).lead
  lead-at i d l = get_or-map (λ (x : Link). x.lead) links i d 0 l

  module _ (lead first at i : ℕ) (along : IsAlong slot links lead first at) (here : at ≡ suc i) (d : Link) where
    i-within : i < length links
    i-within = omega (arith, along.on.within, here)

    -- the entry has the lead
    pub along-found : (get_or links i d).lead ≡ lead → Some i ≡ last_of lead (take first (leads_of links))
    along-found e =
        sym (last-here slot (leads_of links) lead i (omega (arith, leads-length, i-within)) (lead-at i d i-within ∙ e))
        ∙ ap (λ (n : ℕ). last_of lead (take n (leads_of links))) (sym here) ∙ along.last

    -- or it leads on
    pub along-next : (get_or links i d).lead ≢ lead → IsAlong slot links lead first (get_or links i d).behind
    along-next e =
        let behind = (get_or links i d).behind in
        let same : slot (get_or links i d).lead ≡ slot lead = ap slot (sym (lead-at i d i-within)) ∙ along.on.same i here in
        let led : entry_of behind ≡ last_of (slot lead) (take i (map slot (leads_of links))) =
        chained.linked i d i-within ∙ ap (λ (s : ℕ). last_of s (take i (map slot (leads_of links)))) same in
        let few : i ≤ length (leads_of links) = omega (arith, leads-length, i-within) in
        record {
          on = record { within = omega (arith, told-within slot (leads_of links) lead i few behind led, i-within); same = told-slot slot (leads_of links) lead i few behind led };
          last = told-last slot (leads_of links) lead i few behind led
              ∙ sym (last-before slot (leads_of links) lead i (omega (arith, leads-length, i-within)) (λ q. e (sym (lead-at i d i-within) ∙ q)))
              ∙ ap (λ (n : ℕ). last_of lead (take n (leads_of links))) (sym here) ∙ along.last;
        }

    -- so it comes further down
    pub along-falls : (get_or links i d).behind ≤ i
    along-falls = told-within slot (leads_of links) (get_or links i d).lead i (omega (arith, leads-length, i-within)) _ (chained.linked i d i-within)

  -- it begins at the head of the lead
  pub of-head : (lead : ℕ) → IsAlong slot links lead (length links) (told (slot lead))
  of-head lead =
      let few : length links ≤ length (leads_of links) = omega (arith, leads-length) in
      let led : entry_of (told (slot lead)) ≡ last_of (slot lead) (take (length links) (map slot (leads_of links))) =
      chained.headed (slot lead) ∙ ap (last_of (slot lead)) (sym (take_all (length links) (map slot (leads_of links)) (omega (arith, leads-length, length-map (leads_of links) slot)))) in
      record {
        on = record { within = omega (arith, told-within slot (leads_of links) lead (length links) few _ led); same = told-slot slot (leads_of links) lead (length links) few _ led };
        last = told-last slot (leads_of links) lead (length links) few _ led;
      }

  pub head-slot : (lead : ℕ) → IsOfSlot slot links lead (told (slot lead))
  head-slot lead = (of-head lead).on

  pub head-last : (lead : ℕ) → last_of lead (take (told (slot lead)) (leads_of links)) ≡ last_of lead (leads_of links)
  head-last lead = (of-head lead).last ∙ ap (last_of lead) (take_all (length links) (leads_of links) (omega (arith, leads-length)))

  -- or behind an entry
  module _ (i : ℕ) (link : Link) (within : i < length links) (is : link ≡ get_or links i link) where
    pub of-link : IsAlong slot links link.lead i link.behind
    of-link =
        let few : i ≤ length (leads_of links) = omega (arith, leads-length, within) in
        let led : entry_of link.behind ≡ last_of (slot link.lead) (take i (map slot (leads_of links))) =
        subst (λ (l : Link). entry_of l.behind ≡ last_of (slot l.lead) (take i (map slot (leads_of links)))) (sym is) (chained.linked i link within) in
        record {
          on = record {
            within = omega (arith, told-within slot (leads_of links) link.lead i few link.behind led, within);
            same = told-slot slot (leads_of links) link.lead i few link.behind led;
          };
          last = told-last slot (leads_of links) link.lead i few link.behind led;
        }

    pub link-last : last_of link.lead (take link.behind (leads_of links)) ≡ last_of (get_or (leads_of links) i 0) (take i (leads_of links))
    link-last = of-link.last ∙ ap (λ (l : ℕ). last_of l (take i (leads_of links))) (ap (λ (l : Link). l.lead) is ∙ sym (lead-at i link within))

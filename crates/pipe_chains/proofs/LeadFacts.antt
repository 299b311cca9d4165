-- Links that are changed one by one.
use Rattle.std.proofs.Common.{◌≡◌, ℕ, suc, ◌<◌, List, [], ◌∷◌, ◌++◌, length, take, get_or, set, sym, ap, ◌∙◌, arith, subst}
use Rattle.std.proofs.lemmas.List.{length-map, map-set, take_all}
use Rattle.std.proofs.Math.Seq.{map-set_same, take-suc, take-suc-set}
use Rattle.pipe_chains.specs.declared.heads.Heads.{Heads}
use Rattle.pipe_chains.specs.declared.link.Link.{Link}
use Rattle.pipe_chains.specs.Layout.{AreLinked, leads_of, marks_of}

module _ (links : List Link) (i : ℕ) (link : Link) where
  pub marks-set : (d : Link) → link.mark ≡ (get_or links i d).mark → marks_of (set links i link) ≡ marks_of links
  marks-set d e = map-set_same (λ (l : Link). l.mark) links i link d e

  leads-set : (d : Link) → link.lead ≡ (get_or links i d).lead → leads_of (set links i link) ≡ leads_of links
  leads-set d e = map-set_same (λ (l : Link). l.lead) links i link d e

  -- one more lead of those that are given
  pub leads-next : (leads : List ℕ) (next : ℕ) → next ≡ suc i → i < length links → i < length leads → take i (leads_of links) ≡ take i leads → link.lead ≡ get_or leads i 0
      → take next (leads_of (set links i link)) ≡ take next leads
  leads-next leads next more within there before e =
      ap (λ (n : ℕ). take n (leads_of (set links i link))) more
      ∙ ap (take (suc i)) (map-set (λ (l : Link). l.lead) links i link)
      ∙ take-suc-set (leads_of links) i link.lead (omega (arith, length-map links (λ (l : Link). l.lead)))
      ∙ ap (λ (ls : List ℕ). ls ++ link.lead ∷ []) before ∙ ap (λ (l : ℕ). take i leads ++ l ∷ []) e
      ∙ sym (take-suc leads i 0 there) ∙ ap (λ (n : ℕ). take n leads) (sym more)

-- the first so many links are linked
pub record LinkedTo (old now : List Link) (heads : Heads) (n : ℕ) : Type 0 where
  pub marks : marks_of now ≡ marks_of old
  pub leads : leads_of now ≡ leads_of old
  pub linked : AreLinked heads (take n now)

module _ (old now : List Link) (heads : Heads) (n : ℕ) (to : LinkedTo old now heads n) where
  pub linked-next : (new : Heads) (d link : Link) (next : ℕ) → next ≡ suc n → n < length now → link.mark ≡ (get_or now n d).mark → link.lead ≡ (get_or now n d).lead
      → AreLinked new (take n now ++ link ∷ []) → LinkedTo old (set now n link) new next
  linked-next new d link next more within mark lead linked = subst (LinkedTo old (set now n link) new) (sym more) (record {
    marks = marks-set now n link d mark ∙ to.marks;
    leads = leads-set now n link d lead ∙ to.leads;
    linked = subst (AreLinked new) (sym (take-suc-set now n link within)) linked;
  })

  pub linked-all : length now ≡ n → AreLinked heads now
  linked-all end = subst (AreLinked heads) (take_all n now (omega (arith, end))) to.linked

use Rattle.std.proofs.Common.{rules, ◌≡◌, ◌∙◌, ◌∷◌, ◌++◌, [], true, false, List, map, sym, ap, subst}
use Rattle.std.proofs.lemmas.List.{map-append}
use Rattle.pipe_aggs.specs.QueryTrees.{query_tree}
use Rattle.pipe_model.specs.Query.{QueryTree}
use Rattle.pipe_states.specs.Fair.{IsStateOf}
use Rattle.pipe_states.specs.States.{StateSeen}
use Rattle.pipe_regroup.specs.Added.{IsRegrouping}
use Rattle.pipe_regroup.specs.Covered.{is_sound, IsCoverageOf}
use Rattle.pipe_regroup.proofs.AddedFacts.{on-few, on-forbidden, on-joinable, on-joined}
use Rattle.pipe_regroup.proofs.regrouping.Regrouping.add.Goals as goal

pub invariant_of-result : goal.invariant_of-result
invariant_of-result c =
    let q : QueryTree = query_tree c.self.inside.query.now in
    let states : List StateSeen = map (λ m. m.value) c.self.inside.added.items in
    let s : StateSeen = c.args.file.now in
    let pushed : map (λ m. m.value) c.push.new.self.items ≡ states ++ s ∷ [] =
    ap (map (λ m. m.value)) c.in_ok-push.ensures.items ∙ map-append (λ m. m.value) c.self.inside.added.items (c.of.result ∷ []) ∙ ap (λ (x : StateSeen). states ++ x ∷ []) c.of.ensures in
    let h : IsStateOf q s = subst (λ x. IsStateOf (query_tree x) s) (sym (ap (λ v. v.query) c.self.view_is)) c.requires in
    let covered : IsCoverageOf (states ++ s ∷ []) c.add.new.self = search rules in
    let forbidden : is_sound c.add.new.self ≡ false = search rules in
    subst (λ (l : List StateSeen). IsRegrouping q l c.self.inside.schema c.self.inside.groups c.add.new.self) (sym pushed)
    (on-forbidden q states s c.self.inside.schema c.self.inside.groups c.self.inside.coverage c.add.new.self c.self.invariant h covered forbidden)

pub add_rows-requires-clause-few : goal.add_rows-requires-clause-few
add_rows-requires-clause-few c =
    let q : QueryTree = query_tree c.self.inside.query.now in
    let states : List StateSeen = map (λ m. m.value) c.self.inside.added.items in
    let s : StateSeen = c.args.file.now in
    let h : IsStateOf q s = subst (λ x. IsStateOf (query_tree x) s) (sym (ap (λ v. v.query) c.self.view_is)) c.requires in
    let covered : IsCoverageOf (states ++ s ∷ []) c.add.new.self = search rules in
    let sound : is_sound c.add.new.self ≡ true = search rules in
    on-few q states s c.self.inside.schema c.self.inside.groups c.self.inside.coverage c.add.new.self c.self.invariant h covered sound c.in_ok-add.ensures.sound c.rows.result.now c.rows.ensures.rows

pub add_rows-requires-clause-joinable : goal.add_rows-requires-clause-joinable
add_rows-requires-clause-joinable c =
    let q : QueryTree = query_tree c.self.inside.query.now in
    let states : List StateSeen = map (λ m. m.value) c.self.inside.added.items in
    let s : StateSeen = c.args.file.now in
    let h : IsStateOf q s = subst (λ x. IsStateOf (query_tree x) s) (sym (ap (λ v. v.query) c.self.view_is)) c.requires in
    let covered : IsCoverageOf (states ++ s ∷ []) c.add.new.self = search rules in
    let sound : is_sound c.add.new.self ≡ true = search rules in
    on-joinable q states s c.self.inside.schema c.self.inside.groups c.self.inside.coverage c.add.new.self c.self.invariant h covered sound c.in_ok-add.ensures.sound c.rows.result.now c.rows.ensures.rows

pub invariant_of-result-2 : goal.invariant_of-result-2
invariant_of-result-2 c =
    let q : QueryTree = query_tree c.self.inside.query.now in
    let states : List StateSeen = map (λ m. m.value) c.self.inside.added.items in
    let s : StateSeen = c.args.file.now in
    let pushed : map (λ m. m.value) c.push.new.self.items ≡ states ++ s ∷ [] =
    ap (map (λ m. m.value)) c.in_ok-push.ensures.items ∙ map-append (λ m. m.value) c.self.inside.added.items (c.of.result ∷ []) ∙ ap (λ (x : StateSeen). states ++ x ∷ []) c.of.ensures in
    let h : IsStateOf q s = subst (λ x. IsStateOf (query_tree x) s) (sym (ap (λ v. v.query) c.self.view_is)) c.requires in
    let covered : IsCoverageOf (states ++ s ∷ []) c.add.new.self = search rules in
    let sound : is_sound c.add.new.self ≡ true = search rules in
    subst (λ (l : List StateSeen). IsRegrouping q l c.self.inside.schema c.in_ok-groups.groups c.add.new.self) (sym pushed)
    (on-joined q states s c.self.inside.schema c.self.inside.groups c.self.inside.coverage c.add.new.self c.self.invariant h covered sound c.in_ok-add.ensures.sound c.in_ok-groups.groups c.rows.result.now c.rows.ensures.rows c.in_ok-groups.ensures)

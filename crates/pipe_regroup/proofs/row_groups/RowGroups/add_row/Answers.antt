use Rattle.std.proofs.Common.{rules, arith, ◌≡◌, ◌∙◌, ℕ, List, length, Some, refl, sym, ap}
use Rattle.std.specs.Prelude.{OnOk}
use Rattle.std.specs.List.{position}
use Rattle.std.specs.Str.{bytes_eq}
use Rattle.std.proofs.lemmas.Result.{on_ok_weaker}
use Rattle.pipe_columns.specs.Key.{code}
use Rattle.pipe_states.specs.Regrouped.{kept}
use Rattle.pipe_regroup.specs.declared.group.Group.{Group}
use Rattle.pipe_regroup.specs.declared.row_groups.RowGroups.{RowGroups}
use Rattle.pipe_regroup.specs.Groups.{group_row, joined_row}
use Rattle.pipe_regroup.proofs.RowGroupFacts.{below, joins, long}
use Rattle.pipe_regroup.proofs.row_groups.RowGroups.add_row.Goals as goal

pub join-requires-clause-few : goal.join-requires-clause-few
join-requires-clause-few c =
    let le = below c.args.self.now c.requires.found c.args.row.now c.requires.joinable c.in-Some.index c.index_mut.result.now c.in-Some.ensures.within c.index_mut.ensures.value in
    omega (arith, le, c.requires.few)

pub join-requires-clause-held : goal.join-requires-clause-held
join-requires-clause-held c =
    long c.args.self.now c.requires.found c.args.row.now c.requires.joinable c.in-Some.index c.index_mut.result.now c.in-Some.ensures.within c.index_mut.ensures.value
    ∙ sym (ap length c.deref-in-Some.ensures.value)

pub returns-in-Some : goal.returns-in-Some
returns-in-Some c =
    let a : RowGroups = c.args.self.now in
    let g : Group = c.index_mut.result.now in
    let coded : c.as_slice-2.result.now ≡ code a.types.items (kept a.keep.items c.args.row.now.key) = search rules in
    let found : position (λ k. bytes_eq (code a.types.items (kept a.keep.items c.args.row.now.key)) k.items) a.codes.keys ≡ Some c.in-Some.index =
    ap (λ (b : List ℕ). position (λ k. bytes_eq b k.items) a.codes.keys) (sym coded) ∙ sym c.in-Some.ensures.index in
    let joined : OnOk c.join.result (group_row c.join.new.self ≡ joined_row a.rules.items (group_row g) c.args.row.now) = search rules in
    on_ok_weaker c.join.result (λ p.
    joins a c.requires.found c.args.row.now c.requires.joinable c.in-Some.index g c.in-Some.ensures.within c.index_mut.ensures.value _ c.join.new.self c.encode_kept.new.code
    refl refl refl refl refl p found) joined

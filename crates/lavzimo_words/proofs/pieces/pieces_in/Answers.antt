use Rattle.std.proofs.Common.{◌≡◌, ◌∙◌, ◌++◌, List, [], Some, drop, rules, ap, sym}
use Rattle.std.specs.Prelude.{filter_map, flat_map, slice_get}
use Rattle.std.proofs.lemmas.List.{append-nil, append_assoc}
use Rattle.clap.specs.Matches.{ids_left}
use Rattle.clap.specs.Words.{Row, found_of, rows_of}
use Rattle.lavzimo_words.specs.Items.{pieces_for}
use Rattle.lavzimo_words.specs.Pieces.{pieces_as, pieces_seen}
use Rattle.lavzimo_words.specs.Roles.{role_named}
use Rattle.lavzimo_words.specs.declared.role.Role.TheVariants as role
use Rattle.lavzimo_words.proofs.PieceFacts.{id-roles, ids-more, ids-none, ids-shorter}
use Rattle.lavzimo_words.proofs.pieces.pieces_in.Goals as goal

pub loop-option-init : goal.loop-option-init
loop-option-init c =
    let rows : List Row = rows_of (found_of c.args.matches.now) in
    let pushed : pieces_seen c.push_role.new.pieces.items ≡ pieces_for rows role.Key = c.in_ok-push_role.ensures ∙ ap (λ ps. pieces_seen ps ++ pieces_for rows role.Key) c.new-pieces.ensures.items in
    let ids : filter_map role_named (ids_left c.ids-options.result) ≡ filter_map (λ (r : Row). role_named r.id) rows = ap (filter_map role_named) c.ids-options.ensures ∙ id-roles (found_of c.args.matches.now).entries.items in
    λ i. pushed i ++ flat_map (pieces_for rows) (ids i)

pub loop-option-preserved : goal.loop-option-preserved
loop-option-preserved c =
    let rows : List Row = rows_of (found_of c.args.matches.now) in
    let first : Some c.in-Some.option.now ≡ slice_get (ids_left c.loop-option.options) 0 = search rules in
    let rest : ids_left c.next.new.self ≡ drop 1 (ids_left c.loop-option.options) = search rules in
    let more = ids-more rows (ids_left c.loop-option.options) (ids_left c.next.new.self) c.in-Some.option.now first rest in
    ap (λ ps. ps ++ flat_map (pieces_for rows) (filter_map role_named (ids_left c.next.new.self))) c.in_ok-push_option.ensures
    ∙ append_assoc (pieces_seen c.loop-option.pieces.items) (pieces_as rows (role_named c.in-Some.option.now)) (flat_map (pieces_for rows) (filter_map role_named (ids_left c.next.new.self)))
    ∙ ap (λ ys. pieces_seen c.loop-option.pieces.items ++ ys) (sym more) ∙ c.loop-option.invariant

pub loop-option-smaller : goal.loop-option-smaller
loop-option-smaller c =
    let first : Some c.in-Some.option.now ≡ slice_get (ids_left c.loop-option.options) 0 = search rules in
    let rest : ids_left c.next.new.self ≡ drop 1 (ids_left c.loop-option.options) = search rules in
    ids-shorter (ids_left c.loop-option.options) (ids_left c.next.new.self) c.in-Some.option.now first rest

pub returns : goal.returns
returns c =
    let rows : List Row = rows_of (found_of c.args.matches.now) in
    let none : ids_left c.loop-option.options ≡ [] = ids-none (ids_left c.loop-option.options) (search rules) in
    sym (append-nil (pieces_seen c.loop-option.pieces.items)) ∙ ap (λ xs. pieces_seen c.loop-option.pieces.items ++ flat_map (pieces_for rows) (filter_map role_named xs)) (sym none) ∙ c.loop-option.invariant

use Rattle.std.proofs.Common.{◌≡◌, ◌∙◌, ◌++◌, ℕ, Bor, List, Option, Some, None, map, option_map, ap, subst, sym}
use Rattle.std.specs.Prelude.{OnOk}
use Rattle.std.proofs.lemmas.List.{append-nil}
use Rattle.clap.specs.Words.{found_of, rows_of}
use Rattle.lavzimo_words.specs.Pieces.{pieces_seen}
use Rattle.lavzimo_words.specs.declared.role.Role.{Role}
use Rattle.lavzimo_words.proofs.CommandFacts.{values-lent}
use Rattle.lavzimo_words.proofs.PieceFacts.{pieces-found}
use Rattle.lavzimo_words.proofs.pieces.push_role.Goals as goal

-- the values that are lent
abbrev lent : Option (Bor (List (Bor (List ℕ)))) → Option (List (List ℕ))
lent o = option_map (λ (s : Bor (List (Bor (List ℕ)))). map (λ (v : Bor (List ℕ)). v.now) s.now) o

pub returns-in-Some : goal.returns-in-Some
returns-in-Some c =
    let values = values-lent (found_of c.args.matches.now) c.option.result.now c.get_strs.result c.get_strs.ensures in
    let found = pieces-found (rows_of (found_of c.args.matches.now)) c.args.role c.option.result.now (lent (Some c.in-Some.values)) (sym c.is_rows.ensures ∙ c.if-is_rows.false) c.option.ensures
    (ap lent (sym c.in-Some.is) ∙ values) in
    subst (λ (x : List (Role × List ℕ)). OnOk c.push_values.result (pieces_seen c.push_values.new.pieces.items ≡ pieces_seen c.args.pieces.now.items ++ x)) found c.push_values.ensures

pub returns-in-None : goal.returns-in-None
returns-in-None c =
    let values = values-lent (found_of c.args.matches.now) c.option.result.now c.get_strs.result c.get_strs.ensures in
    let found = pieces-found (rows_of (found_of c.args.matches.now)) c.args.role c.option.result.now (lent None) (sym c.is_rows.ensures ∙ c.if-is_rows.false) c.option.ensures
    (ap lent (sym c.in-None.is) ∙ values) in
    sym (append-nil (pieces_seen c.args.pieces.now.items)) ∙ ap (λ ys. pieces_seen c.args.pieces.now.items ++ ys) found

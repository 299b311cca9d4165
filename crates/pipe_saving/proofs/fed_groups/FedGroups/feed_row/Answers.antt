use Rattle.std.proofs.Common.{◌≡◌, ◌∙◌, ◌∷◌, [], ◌++◌, ℕ, List, ap, subst}
use Rattle.pipe_columns.specs.declared.place.Place.{Place}
use Rattle.pipe_columns.specs.Key.{code}
use Rattle.pipe_columns.specs.Row.{Row}
use Rattle.pipe_groups.specs.Shape.{Shape}
use Rattle.pipe_inputs.specs.ChunkRows.{row_at}
use Rattle.pipe_keyed.specs.Keyed.{IsAt}
use Rattle.pipe_saving.specs.Extents.{IsFed}
use Rattle.pipe_saving.proofs.FedFacts.{ArePut, fed-more}
use Rattle.pipe_spill.specs.SpillRow.{IsRow, spilled}
use Rattle.pipe_spill.specs.declared.spill_row.SpillRow.{SpillRow}
use Rattle.pipe_saving.proofs.fed_groups.FedGroups.feed_row.Goals as goal

pub returns-in_ok-put_place-in-Done : goal.returns-in_ok-put_place-in-Done
returns-in_ok-put_place-in-Done c = λ s taken h.
    let old = c.args.self.now.table in
    let new = c.insert_lent_at.new.self in
    let before = c.args.self.now.extents.items in
    let more = c.put_place.new.extents.items in
    let index = c.in-Done.index in
    let row : Row = row_at c.args.rows.now c.args.row in
    let r : SpillRow = spilled old.shape.key_types row in
    let coded : c.deref.result.now ≡ r.key = c.deref.ensures.value ∙ c.in_ok-encode_row.ensures.ok ∙ ap (λ ts. code ts row.key) c.requires.types in
    let at : IsAt new.groups r.key index = subst (λ (k : List ℕ). IsAt new.groups k index) coded (c.insert_lent_at.ensures.at index c.in-Done.is) in
    let puts : ArePut r.place index before more = subst (λ (p : Place). ArePut p index before more) c.place.ensures
    (record { there = c.in_ok-put_place-in-Done.ensures.there; behind = c.in_ok-put_place-in-Done.ensures.new }) in
    let typed : IsRow s.key_types s.input_types r = subst (λ (x : Shape). IsRow x.key_types x.input_types r) h.shape c.requires.typed in
    subst (λ (x : Shape). IsFed s (taken ++ spilled x.key_types row ∷ []) new more) h.shape
    (fed-more s taken old new before more r index h c.insert_lent_at.ensures.table (c.insert_lent_at.ensures.done index c.in-Done.is) at puts typed (c.insert_lent_at.ensures.holds index c.in-Done.is))

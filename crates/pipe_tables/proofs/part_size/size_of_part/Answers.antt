use Rattle.std.proofs.Common.{◌∙◌, sym}
use Rattle.pipe_tables.proofs.PartSizes.{sizes-bytes, sizes-fall, sizes-groups, sizes-link, sizes-more, sizes-same, sizes-within}
use Rattle.pipe_tables.proofs.part_size.size_of_part.Goals as goal
use Rattle.pipe_tables.proofs.part_size.size_of_part.Goals.{then-has_rows+in_ok-size, else-has_rows}

pub has_rows-requires : goal.has_rows-requires
has_rows-requires c = sizes-within _ _ _ _ c.requires _ _ (rw c.in-Some.is at c.loop-at.invariant)

pub before-at-requires : goal.before-at-requires
before-at-requires c = sizes-link _ _ _ _ c.requires _ _ (rw c.in-Some.is at c.loop-at.invariant)

pub loop-at-smaller : goal.loop-at-smaller
loop-at-smaller c = rw c.in-Some.is (sizes-fall _ _ _ _ c.requires _ _ (rw c.in-Some.is at c.loop-at.invariant) _ c.before-at.ensures)

pub loop-at-preserved : goal.loop-at-preserved
loop-at-preserved c =
    let here = rw c.in-Some.is at c.loop-at.invariant in
    elim c.if-has_rows.branch [
      | then-has_rows+in_ok-size w ↦ rw w.size-is (sizes-more _ _ _ _ c.requires _ _ here _ c.before-at.ensures _ (sym c.has_rows.ensures ∙ w.if-has_rows.true) w.in_ok-size.ensures.groups (rw w.key.ensures at w.in_ok-size.ensures.key_bytes))
      | else-has_rows w ↦ rw w.size-is (sizes-same _ _ _ _ c.requires _ _ here _ c.before-at.ensures (sym c.has_rows.ensures ∙ w.if-has_rows.false))
    ]

pub returns-clause-groups : goal.returns-clause-groups
returns-clause-groups c = sizes-groups _ _ _ _ c.requires _ (rw c.in_default.is at c.loop-at.invariant)

pub returns-clause-key_bytes : goal.returns-clause-key_bytes
returns-clause-key_bytes c = sizes-bytes _ _ _ _ c.requires _ (rw c.in_default.is at c.loop-at.invariant)

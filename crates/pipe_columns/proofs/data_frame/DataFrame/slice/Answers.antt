use Rattle.std.proofs.Common.{rules, ◌≡◌, ◌∙◌, ap, length, map, min, ◌-◌}
use Rattle.pipe_columns.specs.Frame.{sliced_column}
use Rattle.pipe_columns.proofs.FrameFacts.{whole}
use Rattle.pipe_columns.proofs.TypeFacts.{sliced_is}
use Rattle.pipe_columns.proofs.data_frame.DataFrame.slice.Goals as goal

pub invariant_of-result : goal.invariant_of-result
invariant_of-result c =
    let columns = c.self.inside.columns in
    let long : length c.slice_all.new.columns ≡ length columns.items = search rules in
    let count : columns.len ≡ length columns.items = search rules in
    let high : c.min-height.result ≡ min c.args.len (c.self.inside.height - c.args.offset) = search rules in
    let made : c.slice_all.new.columns ≡ map (sliced_column c.args.offset c.args.len) columns.items =
    c.slice_all.ensures ∙ ap (map (sliced_column c.args.offset c.args.len)) c.deref_mut.ensures.value in
    rw (whole columns.len c.slice_all.new.columns columns.items long count) (rw high (rw made (sliced_is c.args.offset c.args.len (record { height = c.self.inside.height; columns = columns.items }) c.self.invariant)))

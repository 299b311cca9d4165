-- The key stands behind its place and its length.
use Rattle.std.proofs.Common.{rules, ◌≡◌, ◌++◌, List, ℕ, length, subst}
use Rattle.std.specs.Int.{bytes_high_first}
use Rattle.pipe_waiting.proofs.ReadBack.{key_appended}
use Rattle.pipe_waiting.proofs.append_row.append_key.Goals as goal

pub returns-clause-ok : goal.returns-clause-ok
returns-clause-ok c =
    let head : List ℕ = bytes_high_first 4 c.args.place.chunk ++ bytes_high_first 4 c.args.place.row ++ bytes_high_first 8 (length c.args.key.now) in
    let first : c.extend_from_slice.new.self.items ≡ c.args.buffer.now.items ++ c.head_of.result = search rules in
    key_appended c.extend_from_slice-2.result c.args.buffer.now.items head c.args.key.now c.extend_from_slice.new.self.items c.extend_from_slice-2.new.self.items
    (subst (λ (h : List ℕ). c.extend_from_slice.new.self.items ≡ c.args.buffer.now.items ++ h) c.head_of.ensures first) c.extend_from_slice-2.ensures.items

use Rattle.std.proofs.Common.{◌*◌, ◌+◌}
use Rattle.serde_json.specs.Data.{depth}
use Rattle.serde_json.specs.View.{view}
use Rattle.pipe_query.proofs.expr_json.+expr.Given as goal

-- how deep the value nests; what is made of one expression asks for it at the same depth

abbrev pub decreases-add_expr : goal.decreases-add_expr
decreases-add_expr l = 2 * depth (view l.json.now)

abbrev pub decreases-add_over : goal.decreases-add_over
decreases-add_over l = 2 * depth (view l.json.now) + 1

abbrev pub decreases-add_cast : goal.decreases-add_cast
decreases-add_cast l = 2 * depth (view l.json.now) + 1

abbrev pub decreases-add_binary : goal.decreases-add_binary
decreases-add_binary l = 2 * depth (view l.json.now) + 1

abbrev pub decreases-add_ternary : goal.decreases-add_ternary
decreases-add_ternary l = 2 * depth (view l.json.now) + 1

abbrev pub decreases-add_alias : goal.decreases-add_alias
decreases-add_alias l = 2 * depth (view l.json.now) + 1

abbrev pub decreases-add_filter : goal.decreases-add_filter
decreases-add_filter l = 2 * depth (view l.json.now) + 1

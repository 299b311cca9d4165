use Rattle.std.proofs.Common.{rules, ◌≡◌, length, true}
use Rattle.std.specs.Result.{is_ok}
use Rattle.pipe_exprs.specs.Trees.{children_below}
use Rattle.pipe_exprs.proofs.ArenaFacts.{arena_pushed, literals_pushed}
use Rattle.pipe_exprs.proofs.arena.Arena.add.Goals as goal

pub invariant_of-self : goal.invariant_of-self
invariant_of-self c =
    let there : children_below (length c.self.inside.exprs.items) c.args.expr ≡ true = search rules in (
      arena_pushed (is_ok c.push.result) c.self.inside.exprs.items c.push.new.self.items c.args.expr c.push.ensures.items c.self.invariant.0 there,
      literals_pushed (is_ok c.push.result) c.self.inside.exprs.items c.push.new.self.items c.args.expr c.push.ensures.items c.self.invariant.1 c.has_children.ensures.utf8,
    )

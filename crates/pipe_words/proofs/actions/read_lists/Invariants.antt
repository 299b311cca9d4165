use Rattle.std.proofs.Common.{◌≡◌, map, vec_len}
use Rattle.pipe_words.specs.Actions.{listed_actions, listed_rule}
use Rattle.pipe_words.proofs.EachFacts.{HasGiven}
use Rattle.pipe_words.proofs.actions.read_lists.Given as goal

-- the lists and the rules so far, one for each part
abbrev pub invariant-loop-i : goal.invariant-loop-i
invariant-loop-i l = record {
  lists : HasGiven (λ x. listed_actions x.now) l.parts l.i (map (λ v. v.items) l.actions.items);
  rules : HasGiven (λ x. listed_rule x.now) l.parts l.i l.rules.items;
  count : vec_len l.actions ≡ l.i;
  each : vec_len l.rules ≡ l.i;
}

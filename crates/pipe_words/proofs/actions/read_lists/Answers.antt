use Rattle.std.proofs.Common.{◌∙◌, List, Option, Vec, Global, map, option_map, sym, ap, arith, rules}
use Rattle.std.proofs.lemmas.List.{map_push}
use Rattle.pipe_plan.specs.declared.event.SpillAction.{SpillAction}
use Rattle.pipe_words.specs.Actions.{Listed, read_letters}
use Rattle.pipe_words.specs.declared.actions.Listing.{Listing}
use Rattle.pipe_words.proofs.ActionFacts.{lent_actions, lent_rule}
use Rattle.pipe_words.proofs.EachFacts.{given-all, given-first, given-more, given-none}
use Rattle.pipe_words.proofs.actions.read_lists.Goals as goal

-- what is listed
abbrev said_of : Option Listing → Option Listed
said_of list = option_map (λ l. record { actions = l.actions.items; rule = l.rule }) list

-- the actions that it has, and its rule
abbrev actions_in : Option Listed → Option (List SpillAction)
actions_in o = option_map (λ l. l.actions) o

abbrev rule_in : Option Listed → Option SpillAction
rule_in o = option_map (λ l. l.rule) o

pub loop-i-init : goal.loop-i-init
loop-i-init c = record {
  lists = rw c.new-actions.ensures.items (given-first lent_actions c.args.parts.now);
  rules = rw c.new-rules.ensures.items (given-first lent_rule c.args.parts.now);
  count = search rules;
  each = search rules;
}

pub returns-in_default-clause-lists : goal.returns-in_default-clause-lists
returns-in_default-clause-lists c =
    let none = ap read_letters (sym c.as_bytes.ensures.value) ∙ sym c.in_ok-list.ensures ∙ ap said_of c.in_default.is in
    sym (given-none lent_actions c.args.parts.now c.loop-i.i _ (map (λ v. v.items) c.loop-i.actions.items)
    c.loop-i-test.true (ap actions_in none) c.loop-i.invariant.lists)

pub returns-in_default-clause-rules : goal.returns-in_default-clause-rules
returns-in_default-clause-rules c =
    let none = ap read_letters (sym c.as_bytes.ensures.value) ∙ sym c.in_ok-list.ensures ∙ ap said_of c.in_default.is in
    sym (given-none lent_rule c.args.parts.now c.loop-i.i _ c.loop-i.rules.items
    c.loop-i-test.true (ap rule_in none) c.loop-i.invariant.rules)

pub loop-i-preserved : goal.loop-i-preserved
loop-i-preserved c =
    let one = ap read_letters (sym c.as_bytes.ensures.value) ∙ sym c.in_ok-list.ensures ∙ ap said_of c.in-Some.is in
    let grew = ap (map (λ (v : Vec SpillAction Global). v.items)) c.in_ok-push.ensures.items ∙ map_push (λ (v : Vec SpillAction Global). v.items) c.loop-i.actions.items c.in-Some.list.actions in
    record {
      lists = given-more lent_actions c.args.parts.now c.loop-i.i _ c.in-Some.list.actions.items (map (λ v. v.items) c.loop-i.actions.items) _
          c.loop-i-test.true (ap actions_in one) grew c.loop-i.invariant.lists;
      rules = given-more lent_rule c.args.parts.now c.loop-i.i _ c.in-Some.list.rule c.loop-i.rules.items _
          c.loop-i-test.true (ap rule_in one) c.in_ok-push-2.ensures.items c.loop-i.invariant.rules;
      count = omega (arith, c.in_ok-push.ensures.len, c.loop-i.invariant.count);
      each = omega (arith, c.in_ok-push-2.ensures.len, c.loop-i.invariant.each);
    }

pub returns-clause-lists : goal.returns-clause-lists
returns-clause-lists c = sym (given-all lent_actions c.args.parts.now c.loop-i.i (map (λ v. v.items) c.loop-i.actions.items) c.loop-i-test.false c.loop-i.invariant.lists)

pub returns-clause-rules : goal.returns-clause-rules
returns-clause-rules c = sym (given-all lent_rule c.args.parts.now c.loop-i.i c.loop-i.rules.items c.loop-i-test.false c.loop-i.invariant.rules)

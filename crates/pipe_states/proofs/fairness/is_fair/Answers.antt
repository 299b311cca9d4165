use Rattle.std.proofs.Common.{rules, arith, ◌≡◌, ◌∙◌, true, false, sym}
use Rattle.std.proofs.lemmas.Bool.{false≢true}
use Rattle.pipe_states.proofs.fairness.is_fair.Goals as goal

pub returns-then-not-is_range : goal.returns-then-not-is_range
returns-then-not-is_range c =
    let no : c.is_range.result ≡ false = search rules in
    (λ e. absurd (false≢true e), λ fair. sym no ∙ c.is_range.ensures.1 fair.range)

pub returns-then-not-are_fair_rows : goal.returns-then-not-are_fair_rows
returns-then-not-are_fair_rows c =
    let no : c.are_fair_rows.result ≡ false = search rules in
    (λ e. absurd (false≢true e), λ fair. sym no ∙ c.are_fair_rows.ensures.1 fair.rows)

pub returns-then-not-do_keys_ascend : goal.returns-then-not-do_keys_ascend
returns-then-not-do_keys_ascend c =
    let no : c.do_keys_ascend.result ≡ false = search rules in
    (λ e. absurd (false≢true e), λ fair. sym no ∙ c.do_keys_ascend.ensures.1 fair.ascending)

pub returns-then-not-are_few : goal.returns-then-not-are_few
returns-then-not-are_few c =
    let no : c.are_few.result ≡ false = search rules in
    (λ e. absurd (false≢true e), λ fair. sym no ∙ c.are_few.ensures.1 fair.few)

pub returns-then-not-firsts : goal.returns-then-not-firsts
returns-then-not-firsts c =
    let no : c.in_ok-firsts.firsts ≡ false = search rules in
    (λ e. absurd (false≢true e), λ fair. sym no ∙ c.in_ok-firsts.ensures.1 fair.firsts)

pub returns : goal.returns
returns c =
    let range : c.is_range.result ≡ true = search rules in
    let rows : c.are_fair_rows.result ≡ true = search rules in
    let keys : c.do_keys_ascend.result ≡ true = search rules in
    let few : c.are_few.result ≡ true = search rules in
    let firsts : c.in_ok-firsts.firsts ≡ true = search rules in (
      λ e. record {
        range = c.is_range.ensures.0 range;
        end = omega arith;
        rows = c.are_fair_rows.ensures.0 rows;
        ascending = c.do_keys_ascend.ensures.0 keys;
        firsts = c.in_ok-firsts.ensures.0 firsts;
        lasts = c.in_ok-lasts.ensures.0 e;
        few = c.are_few.ensures.0 few;
      },
      λ fair. c.in_ok-lasts.ensures.1 fair.lasts,
    )

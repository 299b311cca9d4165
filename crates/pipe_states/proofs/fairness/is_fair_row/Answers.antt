use Rattle.std.proofs.Common.{rules, ◌≡◌, ◌∙◌, true, false, sym}
use Rattle.std.proofs.lemmas.Bool.{false≢true}
use Rattle.pipe_states.proofs.fairness.is_fair_row.Goals as goal

pub returns-then-not-does_begin_in : goal.returns-then-not-does_begin_in
returns-then-not-does_begin_in c =
    let no : c.does_begin_in.result ≡ false = search rules in
    (λ e. absurd (false≢true e), λ fair. sym no ∙ c.does_begin_in.ensures.1 fair.first_place)

pub returns-then-not-does_end_in : goal.returns-then-not-does_end_in
returns-then-not-does_end_in c =
    let no : c.does_end_in.result ≡ false = search rules in
    (λ e. absurd (false≢true e), λ fair. sym no ∙ c.does_end_in.ensures.1 fair.last_place)

pub returns-then-is_turned : goal.returns-then-is_turned
returns-then-is_turned c =
    let yes : c.is_turned.result ≡ true = search rules in
    (λ e. absurd (false≢true e), λ fair. sym fair.in_order ∙ sym c.is_turned.ensures ∙ yes)

pub returns : goal.returns
returns c =
    let begins : c.does_begin_in.result ≡ true = search rules in
    let ends : c.does_end_in.result ≡ true = search rules in
    let no : c.is_turned.result ≡ false = search rules in (
      λ e. record {
        first_place = c.does_begin_in.ensures.0 begins;
        last_place = c.does_end_in.ensures.0 ends;
        in_order = sym c.is_turned.ensures ∙ no;
        some = c.has_rows.ensures.0 e;
      },
      λ fair. c.has_rows.ensures.1 fair.some,
    )

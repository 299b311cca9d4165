-- The run of what is asked, behind the reading of its query.
use Rattle.std.proofs.Common.{◌≡◌, ◌≤◌, ℕ, List, append-nil, refl, subst, sym, arith, inl, inr, Option, None, Some}
use Rattle.std.specs.Prelude.{◌⊎◌, ◌++◌, IfSome}
use Rattle.pipe_columns.specs.Causes.{Rose}
use Rattle.pipe_io.specs.Files.{Files}
use Rattle.pipe_io.specs.Tried.{TriedFront}
use Rattle.pipe_io.proofs.TriedFacts.{front-then}
use Rattle.pipe_model.specs.Query.{QueryTree}
use Rattle.pipe_plan.specs.declared.event.PartitionEvent.{PartitionEvent}
use Rattle.pipe_plan.specs.Run.{StoreSeen}
use Rattle.lavzimo_run.specs.Jobs.{JobSeen}
use Rattle.lavzimo_run.specs.Running as run
use Rattle.lavzimo_run.specs.Stores.{WereMadeIn}
use Rattle.lavzimo_shown.specs.Showing.{ShowingSeen, shown_of}
use Rattle.lavzimo_words.specs.Asked.{AskedSeen, ask}
use Rattle.lavzimo_answer.specs.Asking.{IsQueryOf, job_of}
use Rattle.lavzimo_answer.specs.Headline.{HasAnswer, IsBegun, IsJobAnswered, IsLeft}
use Rattle.lavzimo_answer.specs.Inside.{IsJobFault}
use Rattle.lavzimo_answer.specs.Names.{NamesSeen}
use Rattle.lavzimo_answer.specs.declared.fault.Fault.{Fault}
use Rattle.lavzimo_answer.specs.declared.fault.Fault.TheVariants as fault
use Rattle.pipe_io.specs.Output.{WroteFront}

-- a count that rose later rose
pub rose-later : (old mid now : ℕ) → old ≤ mid → Rose mid now → Rose old now
rose-later old mid now before rose = omega (arith, before, rose)

pub rose-some : (o : Option Fault) (P : Fault → Type 0) (old mid now : ℕ) → old ≤ mid → IfSome o (λ f. P f → Rose mid now) → IfSome o (λ f. P f → Rose old now)
rose-some None P old mid now before h = tt
rose-some (Some f) P old mid now before h = λ p. rose-later old mid now before (h p)

-- some names were tried, and then a front of others
pub tried-behind : (old mid now first names : List (List ℕ)) → mid ≡ old ++ first → TriedFront mid now names → TriedFront old now (first ++ names)
tried-behind old mid now first names more front = front-then old mid now (first ++ names) names (record { some = first; more = more; front = refl }) front

-- no store was made
pub none_made_in : (folder : Option (List ℕ)) (made : List (Option (List ℕ))) → WereMadeIn folder made made
none_made_in folder made = (0, sym (append-nil made))

module _ (n : ℕ) (a : AskedSeen) (told : Option Files) (q : QueryTree) (asked : IsQueryOf a.question told q) (j : JobSeen) (showing : ShowingSeen) (job-is : j ≡ job_of n a q) (shows : showing ≡ shown_of a.question q)
    (journals : List (List PartitionEvent)) (stores : List StoreSeen) where
  -- an answered job is an answer
  pub has-answer : (text : List ℕ) → IsJobAnswered j a.format showing told journals stores text → HasAnswer n a told journals stores text
  has-answer text is = record {
    query = q;
    asked = asked;
    answered = subst (λ (s : ShowingSeen). IsJobAnswered (job_of n a q) a.format s told journals stores text) shows (subst (λ (k : JobSeen). IsJobAnswered k a.format showing told journals stores text) job-is is);
  }

  -- of which a front may be written where memory runs out
  pub memory-front : {O : Type 0} (old new : O) (before now : Option (List ℕ)) → (text : List ℕ) × IsJobAnswered j a.format showing told journals stores text × ((new ≡ old) ⊎ WroteFront before now text)
      → (new ≡ old) ⊎ IsBegun n (ask a) told before now journals stores
  memory-front old new before now (text, is, inl same) = inl same
  memory-front old new before now (text, is, inr front) = inr (text, has-answer text is, front)

  -- what is left of the run of a job
  pub left-job : (o : Option Fault) (names : NamesSeen) → (o ≡ None → (text : List ℕ) × IsJobAnswered j a.format showing told journals stores text)
      → (o ≡ Some fault.OutputFailed → (text : List ℕ) × IsJobAnswered j a.format showing told journals stores text)
      → (o ≡ Some fault.Memory → (text : List ℕ) × IsJobAnswered j a.format showing told journals stores text)
      → IfSome o (λ f. IsJobFault f names j told journals stores) → IsLeft n (ask a) told journals stores
  left-job None names written failed memory ended = let h = written refl in inr (inr (h.0, has-answer h.0 h.1))
  left-job (Some fault.OutputFailed) names written failed memory ended = let h = failed refl in inr (inr (h.0, has-answer h.0 h.1))
  left-job (Some fault.Memory) names written failed memory ended = let h = memory refl in inr (inr (h.0, has-answer h.0 h.1))
  left-job (Some (fault.Faulty text)) names written failed memory ended = absurd ended
  left-job (Some (fault.Refused r)) names written failed memory ended = absurd ended
  left-job (Some (fault.Unread name e)) names written failed memory ended = absurd ended
  left-job (Some (fault.NoQuery name why)) names written failed memory ended = absurd ended
  left-job (Some (fault.Run own e)) names written failed memory ended = inr (inl (record {
    query = q;
    asked = asked;
    none = ended.2;
    stopped = subst (λ (k : JobSeen). run.HasStopped k told stores) job-is ended.3;
  }))

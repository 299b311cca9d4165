-- Of the proofs alone: what going over one record did.
use Rattle.std.specs.Prelude.{ℕ, ◌≡◌, List, [], length}
use Rattle.pipe_scan.specs.Records.{records_at}
use Rattle.pipe_scan.specs.Row.{Takes}
use Rattle.pipe_scan.specs.Skipped.{HasOtherWidth}
use Rattle.pipe_scan.specs.declared.skip.Step.{Step}
use Rattle.pipe_scan.specs.declared.skip.Step.TheVariants as step

-- what is next was gone over, or the cursor stays before it
abbrev pub StepsOver : List ℕ → ℕ → ℕ → ℕ → Step → Type 0
StepsOver text at next width step.Over =
    (fields : List (List ℕ)) × Takes text at next fields × (length fields ≡ width)
StepsOver text at next width step.End = (next ≡ at) × (records_at text at ≡ [])
StepsOver text at next width step.OtherWidth = (next ≡ at) × HasOtherWidth text at width

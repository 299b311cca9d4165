-- How faults are told.
use Rattle.std.proofs.Common.{◌≡◌, ◌++◌, ℕ, List, [], Option, Some, None, codes, refl, sym, subst, inl, inr, append-nil}
use Rattle.std.specs.Io.KnownBytes.{Appends}
use Rattle.pipe_io.specs.Output.{WroteFront}
use Rattle.tool_shell.specs.Reports.{Reports}
use Rattle.lavzimo_answer.specs.Faults.{IsLineOf, IsTextOf}
use Rattle.lavzimo_answer.specs.Lines.{LookSeen}
use Rattle.lavzimo_answer.specs.Status.{IsTold, ReportsFront}
use Rattle.lavzimo_answer.specs.declared.fault.Fault.{Fault}
use Rattle.lavzimo_answer.specs.declared.fault.Fault.TheVariants as fault

-- a line of a text of a fault
pub line_of : (f : Fault) (look : LookSeen) (text line : List ℕ) → IsTextOf f look text → line ≡ text ++ codes "\n" → IsLineOf f line
line_of f look text line is grew = record { look = look; text = text; text_is = is; line_is = grew }

-- the line of want of memory
pub memory_line : IsLineOf fault.Memory (codes "out of memory\n")
memory_line = record { look = record { how = []; more = [] }; text = codes "out of memory"; text_is = refl; line_is = refl }

-- nothing more is there
pub appends-nothing : (old : Option (List ℕ)) → Appends old old []
appends-nothing None = tt
appends-nothing (Some xs) = sym (append-nil xs)

-- nothing is a front of it
pub reports_nothing : (old : Option (List ℕ)) → Appends old old [] → ReportsFront old old
reports_nothing old front = record { fault = fault.Memory; line = codes "out of memory\n"; line_is = memory_line; front = (0, front) }

pub reports_memory : (old new : Option (List ℕ)) → WroteFront old new (codes "out of memory\n") → ReportsFront old new
reports_memory old new front = record { fault = fault.Memory; line = codes "out of memory\n"; line_is = memory_line; front = front }

pub reports_line : (f : Fault) (line : List ℕ) (old new : Option (List ℕ)) → IsLineOf f line → WroteFront old new line → ReportsFront old new
reports_line f line old new is front = record { fault = f; line = line; line_is = is; front = front }

-- a fault that was reported by its line was told
pub told_line : (f : Fault) (line : List ℕ) (before now : ℕ) (old new : Option (List ℕ)) → IsLineOf f line → Reports line before now old new → IsTold f before now old new
told_line (fault.Faulty text) line before now old new is reports = (line, is, reports)
told_line (fault.Refused r) line before now old new is reports = (line, is, reports)
told_line (fault.Unread name e) line before now old new is reports = (line, is, reports)
told_line (fault.NoQuery name why) line before now old new is reports = (line, is, reports)
told_line (fault.Run names e) line before now old new is reports = (line, is, reports)
told_line fault.OutputFailed line before now old new is reports = inr (line, is, reports)
told_line fault.Memory line before now old new is reports = (line, is, reports)

-- an output whose reader is gone is told by no line
pub told_quiet : (f : Fault) (before : ℕ) (old : Option (List ℕ)) → f ≡ fault.OutputFailed → IsTold f before before old old
told_quiet f before old is = subst (λ x. IsTold x before before old old) (sym is) (inl (refl, refl))

-- Of the proofs alone: what becomes of a file when a frame is written or read.
use Rattle.std.specs.Prelude.{◌≡◌, ℕ, List, Option, Some, IfSome}
use Rattle.std.specs.Io.KnownBytes.{Appends, Consumes, Keeps}

-- a file was moved to a place, and its bytes stayed as they were
pub record WasMoved {F : Type 0} (position : F → Option ℕ) (bytes : F → Option (List ℕ))
    (at : ℕ) (before after : F) : Type 0 where
  pub there : IfSome (position before) (λ _. position after ≡ Some at)
  pub kept : Keeps (bytes before) (bytes after)

-- a file was moved to a place, and then it took these bytes
pub record WroteAt {F : Type 0} (position : F → Option ℕ) (bytes contents : F → Option (List ℕ))
    (at : ℕ) (frame : List ℕ) (before after : F) : Type 0 where
  pub placed : F
  pub moved : WasMoved position bytes at before placed
  pub taken : Appends (contents placed) (contents after) frame

-- a file was moved to a place, and then it gave these bytes
pub record ReadAt {F : Type 0} (position : F → Option ℕ) (bytes remaining : F → Option (List ℕ))
    (at : ℕ) (frame : List ℕ) (before after : F) : Type 0 where
  pub placed : F
  pub moved : WasMoved position bytes at before placed
  pub given : Consumes (remaining placed) (remaining after) frame

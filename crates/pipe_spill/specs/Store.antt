-- What a store of frames tells.
use Rattle.std.specs.Prelude.{◌≡◌, ℕ, List, [], ◌∷◌, ◌++◌, length, map, slice_get, Option, Some, None, ⊤, option_map, Vec}
use Rattle.std.specs.declared.alloc.Global.{Global}

-- the bytes of each frame
abbrev pub contents : List (Vec ℕ Global) → List (List ℕ)
contents frames = map (λ f. f.items) frames

-- told frames, and one more behind them
abbrev pub with_frame : Option (List (List ℕ)) → List ℕ → Option (List (List ℕ))
with_frame told frame = option_map (λ frames. frames ++ (frame ∷ [])) told

-- where frames are told, they are so many
abbrev pub HasHeld : Option (List (List ℕ)) → ℕ → Type 0
HasHeld None held = ⊤
HasHeld (Some frames) held = length frames ≡ held

-- where frames are told, these bytes are the frame of a number
abbrev pub IsFrameAt : Option (List (List ℕ)) → ℕ → List ℕ → Type 0
IsFrameAt None number bytes = ⊤
IsFrameAt (Some frames) number bytes = slice_get frames number ≡ Some bytes

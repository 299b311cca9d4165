use Rattle.std.proofs.Common.{nat_le, arith, ℕ, List, ◌≡◌, ◌∙◌, ◌+◌, ◌-◌, ◌%◌, ◌^◌, length, map, replicate, ap, sym}
use Rattle.std.specs.Prelude.{cond}
use lib.Lanes.{chunk, mask_l, top, zip2}
use mir.Syntax.{w8, wrap_sub}
use mir.Val.{bits}
use borrow.Rule.Simd.Lanes.{act2}
use borrow.Table.Row.{s_int}
use Rattle.std.proofs.lemmas.List.{length-map}
use Rattle.std.proofs.lemmas.Simd.{bitmask_splat, length-chunk, map-map, zip2_splat, zip2_splat_left}
use Rattle.pipe_scan.proofs.stops.others_at.Goals as goal

-- whether one lane is at most another, as its bits
abbrev at_most : ℕ → ℕ → ℕ
at_most a b = cond (nat_le a b) (2 ^ bits w8 - 1) 0

pub returns : goal.returns
returns c =
    let xs : List ℕ = chunk c.args.at 64 c.args.text.now in
    let n : length xs ≡ 64 = length-chunk c.args.at 64 c.args.text.now c.requires in
    let ds : List ℕ = map (λ b. (b + 208) % 256) xs in
    let l : length ds ≡ 64 = length-map xs (λ b. (b + 208) % 256) ∙ n in
    let sub : zip2 (act2 wrap_sub (s_int w8) (s_int w8) (s_int w8)) xs (replicate 64 48) ≡ ds = zip2_splat (act2 wrap_sub (s_int w8) (s_int w8) (s_int w8)) xs 64 48 n in
    let swap : zip2 at_most (replicate 64 10) ds ≡ zip2 (λ a b. at_most b a) ds (replicate 64 10) = zip2_splat_left at_most 10 64 ds l ∙ sym (zip2_splat (λ a b. at_most b a) ds 64 10 l) in
    ap (λ (v : List ℕ). mask_l (map (top 7) (zip2 at_most (replicate 64 10) v)) % 2 ^ 64) sub
    ∙ ap (λ (v : List ℕ). mask_l (map (top 7) v) % 2 ^ 64) swap
    ∙ bitmask_splat w8 (λ a b. nat_le b a) ds 64 10 l (omega arith)
    ∙ ap mask_l (map-map (λ a. nat_le 10 a) (λ b. (b + 208) % 256) xs)

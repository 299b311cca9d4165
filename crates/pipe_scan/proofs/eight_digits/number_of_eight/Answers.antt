use Rattle.std.proofs.Common.{ℕ, ◌≡◌, ◌∙◌, ◌^◌, length, arith, map, nat_le, ap, sym}
use lib.Lanes.{mask_l}
use mir.Syntax.{w8}
use Rattle.std.proofs.lemmas.Simd.{bitmask_splat}
use Rattle.pipe_scan.specs.Eight.{AreDigits}
use Rattle.pipe_scan.proofs.EightFacts.{all_digits, eight_value}
use Rattle.pipe_scan.proofs.eight_digits.number_of_eight.Goals as goal

pub returns : goal.returns
returns c =
    let n = c.fits-digits.0 in
    let m : mask_l (map (λ x. nat_le x 9) c.args.digits) ≡ 255 = sym (bitmask_splat w8 nat_le c.args.digits 8 9 n (omega arith)) ∙ c.if-digits-ne255.false in
    let p : 2 ^ length c.args.digits ≡ 256 = ap (λ (k : ℕ). 2 ^ k) n in
    let d : AreDigits c.args.digits = all_digits c.args.digits (omega (arith, m, p)) in record {
      digits = d;
      value = eight_value c.args.digits n d;
    }

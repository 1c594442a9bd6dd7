-- `linear_light::whole_light` meets its contract: the product is exact, so its whole part is the light; a value that is not above 0 has none.
use Rattle.std.proofs.Common.{ℕ, ◌*◌, ◌/◌, ◌^◌, not, sym, ap, ◌∙◌, zero-mul, rules}
use native.Mathlib.Nat.{zero-div}
use lib.Ieee.{of_bits, fits, is_nan, binary64}
use lib.Ieee.Fits.{fits_widens, and_i}
use Rattle.quantity.specs.Units.{units}
use Rattle.linear_light.proofs.ValueLaws.{no_magnitude}
use Rattle.linear_light.proofs.ProductLaws.{above_none, exactly}
use Rattle.linear_light.proofs.whole_light.Goals as goal

pub float_to_float-x : goal.float_to_float-x
unfolding of_bits
float_to_float-x c =
    let x = c.args.x in
    and_i (fits binary64 x) (not (is_nan x)) (fits_widens x c.type_inv.x) (above_none x c.if-x.true)

pub truncating_f64_to_u64-requires : goal.truncating_f64_to_u64-requires
unfolding of_bits
truncating_f64_to_u64-requires c =
    let e = exactly c.args.x c.type_inv.x c.if-x.true c.requires.1 in
    record { lower_bound = e.0; upper_bound = e.1 }

pub returns-then-x : goal.returns-then-x
unfolding of_bits
returns-then-x c =
    c.truncating_f64_to_u64.ensures ∙ (exactly c.args.x (search rules) c.if-x.true c.requires.1).2

pub returns : goal.returns
unfolding of_bits
returns c =
    let z = no_magnitude c.args.x c.requires.0 c.if-x.false in
    sym (ap (λ (n : ℕ). n * units / 2 ^ 149) z ∙ ap (λ (n : ℕ). n / 2 ^ 149) (zero-mul units) ∙ zero-div (2 ^ 149))

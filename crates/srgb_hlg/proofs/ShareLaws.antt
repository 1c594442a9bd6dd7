-- A component's shares of three lights that are split at bit 11: the scene light by both parts, and how far the upper one alone, by weights, falls short of it.
use Rattle.std.proofs.Common.{◌≡◌, ℕ, ◌+◌, ◌*◌, ◌/◌, ◌%◌, ◌^◌, ◌≤◌, sym, ap, ◌∙◌, mul-le-mul_right, mul-le-mul_left, arith}
use native.Mathlib.Nat.{div-add-mod}
use Rattle.quantity.specs.Component.{red, green, blue, Pixel}
use Rattle.srgb_hlg.specs.Shares.{shared_light, Fit, Weight, Weights, spread}

-- one share
split : (w s : ℕ) → w * s ≡ 2048 * (w * (s / 2048)) + w * (s % 2048)
split w s = ap (λ (n : ℕ). w * n) (sym (div-add-mod s 2048)) ∙ omega arith

module _ (share l : Pixel) where
  abbrev pub upper_sum : ℕ
  upper_sum = share red * (l red / 2048) + share green * (l green / 2048) + share blue * (l blue / 2048)

  abbrev pub lower_sum : ℕ
  lower_sum = share red * (l red % 2048) + share green * (l green % 2048) + share blue * (l blue % 2048)

  pub exactly : shared_light share l ≡ (upper_sum + lower_sum / 2048) / 9765625
  exactly =
      let e : share red * l red + share green * l green + share blue * l blue ≡ 2048 * upper_sum + lower_sum =
      omega (arith, split (share red) (l red), split (share green) (l green), split (share blue) (l blue)) in
      ap (λ (n : ℕ). n / 20000000000) e ∙ whole upper_sum lower_sum
    where
      whole : (m n : ℕ) → (2048 * m + n) / 20000000000 ≡ (m + n / 2048) / 9765625
      whole m n = omega arith

  module _ (fit : Fit share l) where
    -- each product of an upper or a lower part, and their sums
    pub upper_first : share red * (l red / 2048) ≤ share red * 2 ^ 29
    upper_first = mul-le-mul_left (share red) (omega (arith, fit.first))

    pub upper_second : share green * (l green / 2048) ≤ share green * 2 ^ 29
    upper_second = mul-le-mul_left (share green) (omega (arith, fit.second))

    pub upper_third : share blue * (l blue / 2048) ≤ share blue * 2 ^ 29
    upper_third = mul-le-mul_left (share blue) (omega (arith, fit.third))

    pub upper_le : upper_sum ≤ 5300374975 * 2 ^ 29
    upper_le = omega (arith, upper_first, upper_second, upper_third, fit.shares)

    pub lower_first : share red * (l red % 2048) ≤ share red * 2047
    lower_first = mul-le-mul_left (share red) (omega arith)

    pub lower_second : share green * (l green % 2048) ≤ share green * 2047
    lower_second = mul-le-mul_left (share green) (omega arith)

    pub lower_third : share blue * (l blue % 2048) ≤ share blue * 2047
    lower_third = mul-le-mul_left (share blue) (omega arith)

    pub lower_le : lower_sum ≤ 5300374975 * 2047
    lower_le = omega (arith, lower_first, lower_second, lower_third, fit.shares)

    -- the upper parts alone: at most the light, and at most 543 units short of it
    from_below : upper_sum / 9765625 ≤ shared_light share l
    from_below = omega (arith, exactly)

    from_above : shared_light share l ≤ upper_sum / 9765625 + 543
    from_above = omega (arith, exactly, lower_le)

-- the part of a light by the weight of a share, against that by the share itself
weighed : {share w : ℕ} (h : ℕ) → Weight share w → (w * h * 9765625 ≤ share * h * 2 ^ 23) × (share * h * 2 ^ 23 ≤ w * h * 9765625 + h * 9765625)
weighed {share} {w} h k = (omega (arith, mul-le-mul_right h k.low), omega (arith, mul-le-mul_right h k.high))

-- the upper parts alone by weights: at most the light, and at most `spread` short of it; and weights fit where their shares do
module _ (share w l : Pixel) (fit : Fit share l) (weights : Weights share w) where
  pub weights_fit : Fit w l
  weights_fit =
      record {
        shares = omega (arith, fit.shares, (weights red).low, (weights green).low, (weights blue).low);
        first = fit.first;
        second = fit.second;
        third = fit.third;
      }

  pub weights_below : upper_sum w l / 2 ^ 23 ≤ shared_light share l
  weights_below =
      omega (
        arith,
        from_below share l fit,
        (weighed (l red / 2048) (weights red)).0,
        (weighed (l green / 2048) (weights green)).0,
        (weighed (l blue / 2048) (weights blue)).0,
      )

  pub weights_above : shared_light share l ≤ upper_sum w l / 2 ^ 23 + spread
  weights_above =
      omega (
        arith,
        from_above share l fit,
        fit.first,
        fit.second,
        fit.third,
        (weighed (l red / 2048) (weights red)).1,
        (weighed (l green / 2048) (weights green)).1,
        (weighed (l blue / 2048) (weights blue)).1,
      )

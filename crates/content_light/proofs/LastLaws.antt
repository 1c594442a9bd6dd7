-- Of equally bright pixels the last is told: none behind it has as much light. No other pixel is the last of the brightest.
use mathlib.Core.Path.{◌≡◌, sym, ◌∙◌}
use mathlib.Core.List.{List}
use Prim.Native.Nat.{ℕ, ◌<◌}
use native.Mathlib.Omega.{arith}
use native.Mathlib.Decide.{dec_lt}
use Rattle.content_light.specs.Peak.{CodedRow, light_of, outshines, none, found, brightest_pixel}
use Rattle.content_light.proofs.OutshinesLaws.{outshines_le, outshone_le, equal_taken}
use Rattle.content_light.proofs.BrightestLaws.{row_at, Located, Before, one_way, same_place, BrightestAt, Keeps, kept_tied, rows_by_outshines}
use Rattle.content_light.proofs.BrightestLaws.{same_light, brightest_found}

keeps_last : Keeps outshines (λ i j row pixel. Before row pixel i j → ⊥)
keeps_last =
    record {
      takes = outshines_le;
      leaves = outshone_le;
      itself = λ i j b. one_way b b;
      gave_way = λ e b. λ c. one_way b c;
      kept_out = λ e b. absurd (equal_taken _ e);
    }

pub record LastBrightest (rows : List CodedRow) (light row pixel : ℕ) : Type 0 where
  pub brightest : BrightestAt rows light row pixel
  pub last : (i j : ℕ) → Located rows i j → Before row pixel i j → light_of (row_at rows i) j < light

pub last_brightest : (rows : List CodedRow) {light row pixel : ℕ} → brightest_pixel rows ≡ found light row pixel → LastBrightest rows light row pixel
last_brightest rows {light} {row} {pixel} e = record { brightest = here; last = last }
  where
    here : BrightestAt rows light row pixel
    here = brightest_found rows e

    last : (i j : ℕ) → Located rows i j → Before row pixel i j → light_of (row_at rows i) j < light
    last i j at b = go (dec_lt (light_of (row_at rows i) j) light)
      where
        go : Dec (light_of (row_at rows i) j < light) → light_of (row_at rows i) j < light
        go (yes l) = l
        go (no l) =
            let as_bright : light_of (row_at rows i) j ≡ light = omega (arith, here.most i j at) in
            absurd (kept_tied keeps_last rows (sym (rows_by_outshines none 0 rows) ∙ e) i j at as_bright b)

pub last_unique : (rows : List CodedRow) {l r j l' r' j' : ℕ} → LastBrightest rows l r j → LastBrightest rows l' r' j' → (l ≡ l') × (r ≡ r') × (j ≡ j')
last_unique rows {l} {r} {j} {l'} {r'} {j'} x y = (same, place.0, place.1)
  where
    same : l ≡ l'
    same = same_light x.brightest y.brightest

    -- one behind the other would have less light
    place : (r ≡ r') × (j ≡ j')
    place =
        same_place r j r' j'
        (λ b. omega (arith, y.brightest.has, same, x.last r' j' y.brightest.there b))
        (λ b. omega (arith, x.brightest.has, same, y.last r j x.brightest.there b))

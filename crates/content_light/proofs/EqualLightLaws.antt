-- Which answers request 09 changes, over every list of rows: of pixels that share the largest light the last is told now, and the first was before. The
-- peak is the same. The choice of before is said here alone.
use mathlib.Core.Path.{◌≡◌, refl, sym, ap, ◌∙◌}
use mathlib.Core.Logic.{◌⊎◌, inl, inr}
use mathlib.Core.List.{List}
use Prim.Native.Nat.{ℕ, ◌<◌}
use native.Mathlib.Decide.{dec_lt}
use native.Mathlib.Omega.{arith}
use lib.Dec.{ltb}
use Rattle.std.specs.Prelude.{Result, Ok, Err}
use borrow.Author.Tests.{ltb-true, ltb-false}
use Rattle.refusal.specs.declared.Refusal.{Refusal}
use Rattle.content_light.specs.declared.Peak.{Peak}
use Rattle.content_light.specs.Peak.{CodedRow, accepted_rows, Brightest, none, found, brightest_pixel, rounded_up, peak_at, peak_of, measured}
use Rattle.content_light.proofs.BrightestLaws.{Before, one_way, same_place, BrightestAt, same_light, Choice, after_rows_by, Keeps}
use Rattle.content_light.proofs.BrightestLaws.{kept_brightest, kept_tied, nothing_kept, brightest_found, no_pixel_located}
use Rattle.content_light.proofs.LastLaws.{last_brightest}

-- before, a later pixel took over only with more light
abbrev pub former_choice : Choice
former_choice light before = ltb before light

-- and a run measured the same accepted rows by that choice
unfoldable pub formerly_measured : List CodedRow → Result Peak Refusal
formerly_measured rows = peak_of (after_rows_by former_choice none 0 (accepted_rows 0 rows))

keeps_first : Keeps former_choice (λ i j row pixel. Before i j row pixel → ⊥)
keeps_first =
    record {
      takes = λ light before e. omega (arith, ltb-true before light e);
      leaves = λ light before e. ltb-false before light e;
      itself = λ i j b. one_way b b;
      gave_way = λ {light} e b. absurd (omega (arith, ltb-true light light e));
      kept_out = λ e b. λ c. one_way b c;
    }

-- ---- the order of places
later_still : {i j row pixel k l : ℕ} → (Before i j row pixel → ⊥) → Before i j k l → Before row pixel k l
later_still {i} {j} {row} {pixel} {k} {l} h (inl b) = go (dec_lt i row)
  where
    go : Dec (i < row) → Before row pixel k l
    go (yes x) = absurd (h (inl x))
    go (no x) = inl (omega arith)
later_still {i} {j} {row} {pixel} {k} {l} h (inr b) = go (dec_lt i row) (dec_lt row i) (dec_lt j pixel)
  where
    go : Dec (i < row) → Dec (row < i) → Dec (j < pixel) → Before row pixel k l
    go (yes x) y z = absurd (h (inl x))
    go (no x) (yes y) z = inl (omega (arith, b.0))
    go (no x) (no y) (yes z) = absurd (h (inr (omega arith, z)))
    go (no x) (no y) (no z) = inr (omega (arith, b.0), omega (arith, b.1))

dec_before : (i j row pixel : ℕ) → Dec (Before i j row pixel)
dec_before i j row pixel = go (dec_lt i row) (dec_lt row i) (dec_lt j pixel)
  where
    behind : row < i → Before i j row pixel → ⊥
    behind h (inl b) = omega arith
    behind h (inr b) = omega (arith, b.0)

    not_less : (i < row → ⊥) → (j < pixel → ⊥) → Before i j row pixel → ⊥
    not_less h k (inl b) = h b
    not_less h k (inr b) = k b.1

    go : Dec (i < row) → Dec (row < i) → Dec (j < pixel) → Dec (Before i j row pixel)
    go (yes x) y z = yes (inl x)
    go (no x) (yes y) z = no (behind y)
    go (no x) (no y) (yes z) = yes (inr (omega arith, z))
    go (no x) (no y) (no z) = no (not_less x z)

-- ---- both walks over the same rows
-- several pixels share the largest light of rows
pub record Shared (rows : List CodedRow) : Type 0 where
  pub light : ℕ
  pub row : ℕ
  pub pixel : ℕ
  pub later_row : ℕ
  pub later_pixel : ℕ
  pub earlier : BrightestAt rows light row pixel
  pub later : BrightestAt rows light later_row later_pixel
  pub apart : Before row pixel later_row later_pixel

module _ (rows : List CodedRow) where
  abbrev former : Brightest
  former = after_rows_by former_choice none 0 rows

  -- what the walks find: nothing, the same pixel, which then alone has the largest light, or one pixel and a later one that shares it
  data Both (b c : Brightest) : Type 0 where
    nothing : b ≡ none → c ≡ none → (Shared rows → ⊥) → Both b c
    alone : {light row pixel : ℕ} → b ≡ found light row pixel → c ≡ found light row pixel → (Shared rows → ⊥) → Both b c
    several : {light row pixel later_row later_pixel : ℕ} → b ≡ found light row pixel → c ≡ found light later_row later_pixel
        → BrightestAt rows light row pixel → BrightestAt rows light later_row later_pixel → Before row pixel later_row later_pixel → Both b c

  both : Both former (brightest_pixel rows)
  both = go former (brightest_pixel rows) refl refl
    where
      places : (l r j l' r' j' : ℕ) → former ≡ found l r j → brightest_pixel rows ≡ found l' r' j' → l ≡ l'
          → BrightestAt rows l r j → BrightestAt rows l' r' j' → Dec (Before r j r' j') → Both former (brightest_pixel rows)
      places l r j l' r' j' p q same x y (yes b) = several p (rw (sym same) at q) x (rw (sym same) at y) b
      places l r j l' r' j' p q same x y (no b) = alone p (q ∙ rw (sym same, sym place.0, sym place.1)) lone
        where
          place : (r ≡ r') × (j ≡ j')
          place = same_place r j r' j' b (kept_tied keeps_first rows p r' j' y.there (y.has ∙ sym same))

          lone : Shared rows → ⊥
          lone s =
              let first = kept_tied keeps_first rows p s.row s.pixel s.earlier.there (s.earlier.has ∙ same_light s.earlier x) in
              let behind = later_still first s.apart in
              let less = (last_brightest rows q).last s.later_row s.later_pixel s.later.there (rw (place.0, place.1) at behind) in
              omega (arith, s.later.has, same_light s.later y)

      go : (b c : Brightest) → former ≡ b → brightest_pixel rows ≡ c → Both former (brightest_pixel rows)
      go none none p q = nothing p q (λ s. no_pixel_located rows q s.row s.pixel s.earlier.there)
      go none (found l r j) p q = absurd (nothing_kept keeps_first rows p r j (brightest_found rows q).there)
      go (found l r j) none p q = absurd (no_pixel_located rows q r j (kept_brightest keeps_first rows p).there)
      go (found l r j) (found l' r' j') p q =
          let x = kept_brightest keeps_first rows p in
          let y = brightest_found rows q in
          places l r j l' r' j' p q (same_light x y) x y (dec_before r j r' j')

-- ---- the answers
-- an answer but for its place
abbrev pub without_place : Result Peak Refusal → Result Peak Refusal
without_place (Ok peak) = Ok (peak_at peak.cd 0 0)
without_place (Err refusal) = Err refusal

module _ (rows : List CodedRow) where
  -- The peak is the same, and so is the refusal of a title without a pixel.
  pub same_peak : without_place (measured rows) ≡ without_place (formerly_measured rows)
  unfolding measured formerly_measured peak_of
  same_peak = go (both (accepted_rows 0 rows))
    where
      go : Both (accepted_rows 0 rows) (former (accepted_rows 0 rows)) (brightest_pixel (accepted_rows 0 rows))
          → without_place (measured rows) ≡ without_place (formerly_measured rows)
      go (nothing p q s) = rw (p, q)
      go (alone p q s) = rw (p, q)
      go (several p q x y b) = rw (p, q)

  -- The answers differ where several pixels of the accepted rows share the largest light, and nowhere else;
  pub differ_exactly : (Shared (accepted_rows 0 rows) × (measured rows ≡ formerly_measured rows → ⊥))
      ⊎ ((Shared (accepted_rows 0 rows) → ⊥) × (measured rows ≡ formerly_measured rows))
  unfolding measured formerly_measured peak_of
  differ_exactly = go (both (accepted_rows 0 rows))
    where
      go : Both (accepted_rows 0 rows) (former (accepted_rows 0 rows)) (brightest_pixel (accepted_rows 0 rows))
          → (Shared (accepted_rows 0 rows) × (measured rows ≡ formerly_measured rows → ⊥))
          ⊎ ((Shared (accepted_rows 0 rows) → ⊥) × (measured rows ≡ formerly_measured rows))
      go (nothing p q s) = inr (s, rw (p, q))
      go (alone p q s) = inr (s, rw (p, q))
      go (several {light} {row} {pixel} {later_row} {later_pixel} p q x y b) =
          inl (record { light = light; row = row; pixel = pixel; later_row = later_row; later_pixel = later_pixel; earlier = x; later = y; apart = b }, differ)
        where
          differ : measured rows ≡ formerly_measured rows → ⊥
          differ e =
              let h = simp (p, q) at e in
              let same : peak_at (rounded_up light) later_row later_pixel ≡ peak_at (rounded_up light) row pixel = cc in
              let same_row : later_row ≡ row = ap (λ (x : Peak). x.row) same in
              let same_pixel : later_pixel ≡ pixel = ap (λ (x : Peak). x.pixel) same in
              one_way (rw (same_row, same_pixel) at b) (rw (same_row, same_pixel) at b)

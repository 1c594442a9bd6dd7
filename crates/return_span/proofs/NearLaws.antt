-- What is settled between two lights is the PQ code of the display light between them, by the bounds of a luminance's root or by exact comparisons.
use Rattle.std.proofs.Common.{◌≡◌, ℕ, ◌+◌, ◌*◌, ◌/◌, ◌^◌, ◌<◌, ◌≤◌, min, Bool, true, false, List, sym, ◌∙◌, subst, le_refl, arith, lit<}
use Rattle.std.proofs.Common.{leb-false, leb-true}
use Rattle.laws.proofs.DivisionLaws.{floor_le, lt_floor}
use Rattle.quantity.specs.Units.{ten_thousand}
use Rattle.inverse_oetf.specs.SceneTable.{scene_light}
use Rattle.inverse_oetf.proofs.SceneLaws.{last_light}
use Rattle.ootf.specs.Light.{at_least, display_light, scene_read}
use Rattle.ootf.specs.Root.{LowRoot, HighRoot}
use Rattle.ootf.proofs.LightLaws.{reached_le, missed_above}
use Rattle.ootf.proofs.RootLaws.{reached_by_root, missed_by_root}
use Rattle.inverse_eotf.specs.Code.{threshold_in, pq_code}
use Rattle.inverse_eotf.specs.ThresholdTable.{threshold_table}
use Rattle.inverse_eotf.proofs.CodeLaws.{settled}
use Rattle.inverse_eotf.proofs.TableLaws.{threshold_read, threshold_le}
use Rattle.return_span.specs.Settled.{Settled}

-- ---- a display light from the threshold of D on and below the next one
module _ (t : List ℕ) (c D : ℕ) (e : t ≡ threshold_table) (from : 64 ≤ D) (to : D ≤ 939) where
  pub code_between : (64 < D → threshold_in t D ≤ c) → c < threshold_in t (D + 1) → D ≡ pq_code c
  code_between reached missed =
      settled c c c D (le_refl c) (le_refl c) from (omega arith)
      (λ l. subst (λ (x : ℕ). x ≤ c) (threshold_read t D e (omega arith) (omega arith)) (reached l))
      (λ l. subst (λ (x : ℕ). c < x) (threshold_read t (D + 1) e (omega arith) (omega arith)) missed)

-- the upper word of a root and 2^23 times a scene light is display light, rounded down
under_root : (s g low : ℕ) → low ≡ 8388608 * s * g / 2 ^ 64 → low * 2 ^ 41 ≤ s * g
under_root s g low e = omega (arith, floor_le (8388608 * s * g) (2 ^ 64))

over_root : (s h high : ℕ) → high ≡ 8388608 * s * h / 2 ^ 64 → s * h < (high + 1) * 2 ^ 41
over_root s h high e = omega (arith, lt_floor (8388608 * s * h) (2 ^ 64) (lit< tt))

pub by_root : (t : List ℕ) (y s g h low high D : ℕ) → t ≡ threshold_table → LowRoot g y → HighRoot h y
    → low ≡ 8388608 * s * g / 2 ^ 64 → high ≡ 8388608 * s * h / 2 ^ 64 → Settled t low high D → D ≡ pq_code (display_light y s)
by_root t y s g h low high D e lower upper el eh k =
    code_between t (display_light y s) D e k.from k.to
    (λ l. reached_by_root y s (threshold_in t D) g (threshold_le t D e (omega arith) (omega (arith, k.to))) lower
    (omega (arith, k.reached l, under_root s g low el)))
    (missed_by_root y s (threshold_in t (D + 1)) h upper (omega (arith, k.missed, over_root s h high eh)))

-- ---- exact comparisons, of arguments that are read as they are
module _ (y s c : ℕ) (hy : y ≤ 10000 * 1803467062476) (hs : s ≤ 1803467062476) (hc : c ≤ ten_thousand) where
  as_read : at_least (min y (10000 * scene_light 1019)) (scene_read s) (min c ten_thousand) ≡ at_least y s c
  as_read =
      let ey : min y (10000 * scene_light 1019) ≡ y = omega (arith, last_light) in
      let es : scene_read s ≡ s = omega (arith, last_light) in
      let ec : min c ten_thousand ≡ c = omega arith in
      rw (ey, es, ec)

  pub reached_by_comparison : {b : Bool} → b ≡ at_least (min y (10000 * scene_light 1019)) (scene_read s) (min c ten_thousand) → b ≡ true
      → c ≤ display_light y s
  unfolding at_least
  reached_by_comparison e t = reached_le y s c hc (leb-true _ _ (sym (e ∙ as_read) ∙ t))

  pub missed_by_comparison : {b : Bool} → b ≡ at_least (min y (10000 * scene_light 1019)) (scene_read s) (min c ten_thousand) → b ≡ false
      → display_light y s < c
  unfolding at_least
  missed_by_comparison e t = missed_above y s c (leb-false _ _ (sym (e ∙ as_read) ∙ t))

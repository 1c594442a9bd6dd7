-- Results, their luminance and the scene light of whatever a pixel gives: no lower fraction exceeds an upper one, from sound fractions of lights.
use mathlib.Core.Path.{◌≡◌, ap}
use Prim.Native.Nat.{ℕ, ◌*◌, ◌≤◌, ◌<◌}
use native.Mathlib.Nat.{not-le_of_lt, mul-pos, zero-lt-suc}
use native.Mathlib.Decide.{dec_le}
use native.Mathlib.Omega.{arith}
use Rattle.laws.specs.Fraction.{Fraction, over, ◌≼◌, ◌·◌, ◌↑◌}
use Rattle.laws.specs.Side.{Side, low, high}
use Rattle.laws.proofs.FractionLaws.{≼_refl, ≼_trans, ≼-product, ≼-power, ≼-root, ≼_cancel}
use Rattle.quantity.specs.Units.{thousand}
use Rattle.quantity.specs.Component.{Component, red, green, blue, Pixel, weighted}
use Rattle.hlg_steps.specs.Steps.{scene}
use Rattle.exact.specs.ExactValue.{Given, Result, relative, luminance, SceneLight, thousand_pos}
use Rattle.exact.proofs.ApartLaws.{Apart, by_sides}
use Rattle.exact.proofs.BentLaws.{Sound, bent_light_ordered, bent_light_pos}

weights_grow : (r t : Pixel) (y z : ℕ) (py : 0 < y) (pz : 0 < z) → ((j : Component) → over (r j) y py ≼ over (t j) z pz)
    → over (weighted r) y py ≼ over (weighted t) z pz
weights_grow r t y z py pz h = record { cross = omega (arith, (h red).cross, (h green).cross, (h blue).cross) }

luminance_grows : (r t : Pixel) (y z : ℕ) (py : 0 < y) (pz : 0 < z) → ((j : Component) → over (r j) y py ≼ over (t j) z pz)
    → luminance r y py ≼ luminance t z pz
luminance_grows r t y z py pz h =
    ≼-product (≼-product (weights_grow r t y z py pz h) (≼_refl (over 1 thousand thousand_pos))) (≼_refl (over 1 10000 (zero-lt-suc 9999)))

module _ {G : Given} (S : Sound G) where
  owns_apart : {i : Component} (s t : Side) {l k : Fraction} → G.Own s i l → G.Own t i k → Apart s t l k
  owns_apart {i} s t a b = by_sides (λ l. l) (λ u l. G.Own u i l) (λ l k. S.own) s t a b

  mosts_apart : (s t : Side) {l k : Fraction} → G.Most s l → G.Most t k → Apart s t l k
  mosts_apart s t a b = by_sides (λ l. l) (λ u l. G.Most u l) (λ l k. S.most) s t a b

module _ {G : Given} (S : Sound G) {peak : ℕ} where
  -- ---- results
  pub result_ordered : {i : Component} {r t : Fraction} → Result G low peak i r → Result G high peak i t → r ≼ t
  result_ordered {i} {r} {t} x y =
      let below : r · x.most ≼ x.own · x.bent = record { cross = omega (arith, x.bounds) } in
      let above : y.own · y.bent ≼ t · y.most = record { cross = omega (arith, y.bounds) } in
      let own : x.own ≼ y.own = record { cross = omega (arith, (owns_apart S _ _ x.own_light y.own_light).cross) } in
      let bent = bent_light_ordered S peak x.bent_light y.bent_light in
      let most : y.most ≼ x.most = record { cross = omega (arith, (mosts_apart S _ _ y.most_light x.most_light).cross) } in
      ≼_cancel x.most x.some (≼_trans below (≼_trans (≼-product own bent) (≼_trans above (≼-product (≼_refl t) most))))

  results_apart : {i : Component} (s t : Side) {r u : Fraction} → Result G s peak i r → Result G t peak i u → Apart s t r u
  results_apart {i} s t a b = by_sides (λ r. r) (λ u r. Result G u peak i r) (λ r u. result_ordered) s t a b

  -- an upper result of a component with light is above 0
  result_pos : (i : Component) (r : Fraction) → 0 < G.level → ((l : Fraction) → G.Own high i l → 0 < l.num) → Result G high peak i r → 0 < r.num
  result_pos i r seen h y = go (dec_le 1 r.num)
    where
      some : 0 < y.own.num * y.bent.num
      some = mul-pos (h y.own y.own_light) (bent_light_pos S peak y.bent seen y.bent_light)

      go : Dec (1 ≤ r.num) → 0 < r.num
      go (yes z) = z
      go (no z) =
          let e : r.num ≡ 0 = omega arith in
          let nothing = ap (λ n. n * y.most.num * (y.own.den * y.bent.den)) e in
          let none : y.own.num * y.bent.num * (r.den * y.most.den) ≤ 0 = omega (arith, y.bounds, nothing) in
          absurd (not-le_of_lt (mul-pos some (mul-pos r.pos y.most.pos)) none)

  -- ---- luminance
  -- an upper luminance is above 0 unless the pixel is black
  luminance_pos : (r : Pixel) (z : ℕ) (pos : 0 < z) → 0 < G.level → ((j : Component) → Result G high peak j (over (r j) z pos)) → 0 < (luminance r z pos).num
  luminance_pos r z pos seen x =
      let top = S.lit seen in
      mul-pos (mul-pos (go top.0 (result_pos top.0 (over (r top.0) z pos) seen top.1 (x top.0))) (zero-lt-suc 0)) (zero-lt-suc 0)
    where
      go : (i : Component) → 0 < r i → 0 < weighted r
      go red h = omega arith
      go green h = omega arith
      go blue h = omega arith

  -- ---- scene light
  pub scene_light_ordered : {i : Component} {e f : ℕ} → 0 < G.level → SceneLight G low peak i e → SceneLight G high peak i f → scene e ≼ scene f
  scene_light_ordered {i} {e} {f} h x y =
      let upper = luminance x.r x.z x.pos in
      let lower = luminance y.r y.z y.pos in
      let below : scene e ↑ 6 · upper ≼ relative x.own ↑ 6 = record { cross = x.bounds } in
      let above : relative y.own ↑ 6 ≼ scene f ↑ 6 · lower = record { cross = y.bounds } in
      let own : x.own ≼ y.own = record { cross = omega (arith, (results_apart _ _ x.own_result y.own_result).cross) } in
      let owns : relative x.own ≼ relative y.own = ≼-product own (≼_refl (over 1 thousand thousand_pos)) in
      let luminances : lower ≼ upper = luminance_grows y.r x.r y.z x.z y.pos x.pos
      (λ j. record { cross = omega (arith, (results_apart _ _ (y.results j) (x.results j)).cross) }) in
      let lit_luminance_lem = luminance_pos x.r x.z x.pos h x.results in
      ≼-root 6 (λ z. omega arith)
      (≼_cancel upper lit_luminance_lem (≼_trans below (≼_trans (≼-power 6 owns) (≼_trans above (≼-product (≼_refl (scene f ↑ 6)) luminances)))))

  pub scene_lights_apart : {i : Component} (s t : Side) {e f : ℕ} → 0 < G.level → SceneLight G s peak i e → SceneLight G t peak i f
      → Apart s t (scene e) (scene f)
  scene_lights_apart {i} s t h a b = by_sides scene (λ u e. SceneLight G u peak i e) (λ e f. scene_light_ordered h) s t a b

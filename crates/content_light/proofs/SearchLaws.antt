-- What the last pixel that is as bright as a row's bound leaves in the record: it takes over from whatever was found before, and none behind it does.
use mathlib.Core.Path.{◌≡◌, refl, sym, ap, subst, ◌∙◌}
use mathlib.Core.Bool.{Bool, true, false}
use mathlib.Core.Logic.{◌⊎◌, inl, inr}
use mathlib.Core.List.{List}
use Prim.Native.Nat.{ℕ, zero, suc, min, ◌+◌, ◌-◌, ◌/◌, ◌≤◌, ◌<◌}
use native.Mathlib.Decide.{dec_le, dec_lt}
use native.Mathlib.Omega.{arith}
use Rattle.std.proofs.Math.Numerals.{lt_of_le_of_ne}
use Rattle.content_light.proofs.BoundLaws.{brightest_bounded}
use lib.Dec.{eqb}
use lib.ListN.{length}
use Rattle.std.specs.Prelude.{None}
use borrow.Author.Tests.{eqb-true, eqb-false}
use Rattle.quantity.specs.Component.{brightest}
use Rattle.quantity.specs.declared.sample_format.SampleFormat.{SampleFormat}
use Rattle.position.specs.Position.{light_at}
use Rattle.position.specs.Code.{code_position}
use Rattle.pixel.specs.Conversion.{brightest_position}
use Rattle.rows.specs.Row.{pixel_at}
use Rattle.rows.proofs.AnswerLaws.{neither}
use Rattle.content_light.specs.declared.RunRecord.{RunRecord}
use Rattle.content_light.specs.Peak.{CodedRow, row_in, outshines}
use Rattle.content_light.specs.Run.{most_pixels, takes_over, with_pixel, position_of, with_pixels}
use Rattle.content_light.specs.Bounds.{Bounded, LastAt, LastReaching}
use Rattle.content_light.proofs.OutshinesLaws.{outshines_le, equal_taken, as_bright, dimmer_still}
use Rattle.content_light.proofs.RecordLaws.{most_pixels_lem, taken_over, left_alone, chosen, rows_kept, counting_on, rest_counted, light_bounded}

-- a record that pixel j of its next row has just taken over
abbrev pub taking : (rows pixels m j : ℕ) → RunRecord
taking rows pixels m j = record { rows = rows; pixels = pixels; position = record { 0 = m }; row = rows; pixel = j }

-- a record has no pixel, or one of at most that light
abbrev AtMost : RunRecord → ℕ → Type 0
AtMost r light = (r.pixels ≡ 0) ⊎ (light_at r.position.0 ≤ light)

takes_over_at_most : (r : RunRecord) (m : ℕ) → takes_over r m ≡ true → AtMost r (light_at m)
unfolding takes_over
takes_over_at_most r m e = go (eqb r.pixels 0) refl
  where
    go : (t : Bool) → eqb r.pixels 0 ≡ t → AtMost r (light_at m)
    go true z = inl (eqb-true r.pixels 0 z)
    go false z = inr (outshines_le _ _ (simp z at e))

at_most_takes_over : (r : RunRecord) (m : ℕ) → AtMost r (light_at m) → takes_over r m ≡ true
unfolding takes_over
at_most_takes_over r m h = go (eqb r.pixels 0) refl h
  where
    go : (t : Bool) → eqb r.pixels 0 ≡ t → AtMost r (light_at m) → takes_over r m ≡ true
    go true z h = simp z
    go false z (inl e) = absurd (eqb-false r.pixels 0 z e)
    go false z (inr l) = simp (z, as_bright _ _ l)

at_most_after : (r : RunRecord) (m j light : ℕ) → AtMost r light → light_at m ≤ light → AtMost (with_pixel r m j) light
unfolding takes_over
at_most_after r m j light h l = go (takes_over r m) refl
  where
    -- a record without a pixel does not leave one out
    some : AtMost r light → takes_over r m ≡ false → light_at r.position.0 ≤ light
    some (inl z) e = absurd (eqb-false r.pixels 0 (neither _ _ e).0 z)
    some (inr x) e = x

    go : (t : Bool) → takes_over r m ≡ t → AtMost (with_pixel r m j) light
    go true e = subst (λ (s : RunRecord). AtMost s light) (taken_over r m j e refl) (inr l)
    go false e = subst (λ (s : RunRecord). AtMost s light) (left_alone r m j e refl) (inr (some h e))

module _ (r : RunRecord) (row : CodedRow) where
  at_most : (n light : ℕ) → AtMost r light → ((k : ℕ) → k < n → light_at (position_of row k) ≤ light) → AtMost (with_pixels r row n) light
  unfolding with_pixels
  at_most zero light h l = h
  at_most (suc n) light h l =
      at_most_after (with_pixels r row n) (position_of row n) n light (at_most n light h (λ k x. l k (omega arith))) (l n (omega arith))

  pixels_counted : (n : ℕ) → r.pixels ≤ most_pixels → (with_pixels r row n).pixels ≡ min (r.pixels + n) most_pixels
  unfolding with_pixels with_pixel
  pixels_counted zero h = omega arith
  pixels_counted (suc n) h =
      let s = with_pixels r row n in
      let count : min (suc s.pixels) most_pixels ≡ min (r.pixels + suc n) most_pixels = omega (arith, pixels_counted n h) in
      chosen (λ (x : RunRecord). x.pixels ≡ min (r.pixels + suc n) most_pixels) (takes_over s (position_of row n)) _ _ count count

  -- a row with bounds of which the most takes over
  module _ {n least most : ℕ} (b : Bounded row.bytes n least most) (over : takes_over r (code_position row.format most) ≡ true) where
    -- The last pixel that reaches it is in the record then.
    pub last_taken : {j : ℕ} → LastAt row n (code_position row.format most) j → r.pixels ≤ most_pixels
        → taking r.rows (min (r.pixels + n) most_pixels) (position_of row j) j ≡ with_pixels r row n
    unfolding with_pixels
    last_taken {j} last most_counted =
        let counted : min (r.pixels + n) most_pixels ≡ min (min (r.pixels + suc j) most_pixels + rest) most_pixels = omega (arith, last.within) in
        let all : suc j + rest ≡ n = omega (arith, last.within) in
        ap (λ (c : ℕ). taking r.rows c m j) counted ∙ ap (λ (x : RunRecord). counting_on x rest) there ∙ sym others ∙ ap (with_pixels r row) all
      where
        m : ℕ
        m = position_of row j

        rest : ℕ
        rest = n - suc j

        s : RunRecord
        s = with_pixels r row j

        up : light_at (code_position row.format most) ≤ light_at m
        up = outshines_le _ _ last.here

        lift : AtMost r (light_at (code_position row.format most)) → AtMost r (light_at m)
        lift (inl z) = inl z
        lift (inr x) = inr (omega (arith, up))

        takes : takes_over s m ≡ true
        takes =
            at_most_takes_over s m
            (at_most j (light_at m) (lift (takes_over_at_most r _ over)) (λ k x. omega (arith, light_bounded row b k (omega (arith, last.within)), up)))

        there : taking r.rows (min (r.pixels + suc j) most_pixels) m j ≡ with_pixels r row (suc j)
        there =
            let counted : min (r.pixels + suc j) most_pixels ≡ min (suc s.pixels) most_pixels = omega (arith, pixels_counted j most_counted) in
            ap (λ (c : ℕ). taking r.rows c m j) counted
            ∙ ap (λ (x : ℕ). taking x (min (suc s.pixels) most_pixels) m j) (sym (rows_kept r row j))
            ∙ taken_over s m j takes refl

        -- those behind it are only counted
        others : with_pixels r row (suc j + rest) ≡ counting_on (with_pixels r row (suc j)) rest
        others =
            let t = with_pixels r row (suc j) in
            let pixels = pixels_counted (suc j) most_counted in
            let held : light_at t.position.0 ≡ light_at m = ap (λ (x : RunRecord). light_at x.position.0) (sym there) in
            rest_counted r row (suc j) (λ (z : t.pixels ≡ 0). omega (arith, pixels, most_pixels_lem)) (omega (arith, pixels)) rest
            (λ k x y. dimmer_still _ _ _ (omega (arith, held, up)) (last.others k (omega arith) (omega (arith, last.within))))

    -- Where none reaches it, there is none.
    pub none_reaching : LastReaching row n (code_position row.format most) None → r ≡ with_pixels r row n
    unfolding with_pixels brightest_position
    none_reaching none = go (dec_lt 0 n)
      where
        dimmer : (j : ℕ) → j < n → brightest (pixel_at row.bytes j) < most
        dimmer j h = lt_of_le_of_ne (brightest_bounded b j h) (λ (e : brightest (pixel_at row.bytes j) ≡ most). equal_taken _ (rw e at (none j h)))

        go : Dec (0 < n) → r ≡ with_pixels r row n
        go (yes some) = absurd (omega (arith, dimmer 0 some, b.reached (most - 1) (λ j h. omega (arith, dimmer j h))))
        go (no z) = let e : n ≡ 0 = omega arith in rw e

-- no pixel of a row from count on
abbrev pub Behind : SampleFormat → List ℕ → ℕ → ℕ → Type 0
Behind format row m count =
    (j : ℕ) → count ≤ j → j < length row / 6 → outshines (light_at (position_of (row_in format row) j)) (light_at m) ≡ false

pub next_behind : (format : SampleFormat) (row : List ℕ) (m count : ℕ) → Behind format row m count
    → outshines (light_at (position_of (row_in format row) (count - 1))) (light_at m) ≡ false → Behind format row m (count - 1)
next_behind format row m count behind here j h k = go (dec_le count j)
  where
    go : Dec (count ≤ j) → outshines (light_at (position_of (row_in format row) j)) (light_at m) ≡ false
    go (yes l) = behind j l k
    go (no l) =
        let e : count - 1 ≡ j = omega arith in
        subst (λ (i : ℕ). outshines (light_at (position_of (row_in format row) i)) (light_at m) ≡ false) e here

-- What n pixels, however they are given, are of a destination: where n counts the whole pixels that a source and the destination have, where they fill it,
-- and where they follow others.
use Rattle.std.proofs.Common.{◌≡◌, ℕ, ◌+◌, ◌-◌, ◌*◌, ◌/◌, ◌≤◌, min, List, ◌++◌, length, take, drop, sym, refl, ap, ◌∙◌, add-zero, arith}
use Rattle.quantity.specs.Component.{Pixel}
use Rattle.rows.specs.Row.{pixel_bytes, pixels_bytes, with_pixels, converted, span_bytes}
use Rattle.rows.proofs.RowLaws.{span_of_part, pixels_further, length_pixels, first_pixels, all_pixels, put_pixels}

-- room is how many bytes of pixels the source has
module _ (p : ℕ → Pixel) (dst : List ℕ) (room n : ℕ) where
  pub begun : {d : List ℕ} → n ≡ min room (length dst) / 6 → d ≡ pixels_bytes p 0 n ++ drop (6 * n) dst → d ≡ with_pixels p dst 0 (min room (length dst) / 6)
  begun e h = h ∙ sym (first_pixels p dst n) ∙ ap (with_pixels p dst 0) e

  pub filled : length dst ≡ 6 * n → 6 * n ≤ room → with_pixels p dst 0 (min room (length dst) / 6) ≡ pixels_bytes p 0 n
  filled fits enough =
      let pixels : min room (length dst) / 6 ≡ n = omega arith in
      ap (with_pixels p dst 0) pixels ∙ all_pixels p dst n fits

-- one block more
pub pixels_put : (p : ℕ → Pixel) (dst dst₀ ys : List ℕ) (j n : ℕ) → dst ≡ pixels_bytes p 0 j ++ drop (6 * j) dst₀ → ys ≡ pixels_bytes p j n
    → take (6 * j) dst ++ (ys ++ drop (6 * j + 6 * n - 6 * j) (drop (6 * j) dst)) ≡ pixels_bytes p 0 (j + n) ++ drop (6 * (j + n)) dst₀
pixels_put p dst dst₀ ys j n e y =
    let front = pixels_bytes p 0 j in
    put_pixels dst dst₀ front ys j n e (length_pixels p 0 j)
    ∙ ap (λ (l : List ℕ). (front ++ l) ++ drop (6 * (j + n)) dst₀) y
    ∙ sym (ap (λ (l : List ℕ). l ++ drop (6 * (j + n)) dst₀) (pixels_further p j n))

-- and one pixel more
pub pixel_put : (p : ℕ → Pixel) (dst dst₀ ys : List ℕ) (j : ℕ) → dst ≡ pixels_bytes p 0 j ++ drop (6 * j) dst₀ → ys ≡ pixel_bytes (p j)
    → take (6 * j) dst ++ (ys ++ drop (6 * j + 6 - 6 * j) (drop (6 * j) dst)) ≡ pixels_bytes p 0 (j + 1) ++ drop (6 * (j + 1)) dst₀
unfolding pixels_bytes
pixel_put p dst dst₀ ys j e y = pixels_put p dst dst₀ ys j 1 e (y ∙ ap (λ (k : ℕ). pixel_bytes (p k)) (sym (add-zero j)))

-- a block that is converted from its part of a row
pub block_put : (f : Pixel → Pixel) (src dst dst₀ ys : List ℕ) (j n : ℕ) → dst ≡ span_bytes f src 0 j ++ drop (6 * j) dst₀
    → ys ≡ span_bytes f (take (6 * j + 6 * n - 6 * j) (drop (6 * j) src)) 0 n
    → take (6 * j) dst ++ (ys ++ drop (6 * j + 6 * n - 6 * j) (drop (6 * j) dst)) ≡ span_bytes f src 0 (j + n) ++ drop (6 * (j + n)) dst₀
block_put f src dst dst₀ ys j n e y =
    pixels_put (converted f src) dst dst₀ ys j n e (y ∙ span_of_part f src j n (6 * j) (6 * j + 6 * n - 6 * j) refl (omega arith))

-- Laws of rows, for whatever gives a span's pixels: samples, pixels and spans of a part of a row are those of the row, and what is put in its place joins
-- what stands before it.
use Rattle.std.proofs.Common.{◌≡◌, ℕ, zero, suc, ◌+◌, ◌-◌, ◌*◌, ◌/◌, ◌%◌, ◌<◌, ◌≤◌, List, [], ◌∷◌, ◌++◌, length, get_or, take, drop, set, sym, refl, ap, ◌∙◌}
use Rattle.std.proofs.Common.{ap₂, append_assoc, append-nil, add-zero, add-suc, zero-add, arith, length-append, drop_of_length-le, get_or-drop, get_or-take}
use Rattle.std.proofs.Common.{get_or-append-add}
use native.Mathlib.Decide.{dec_lt}
use lib.ListN.{get_or-append}
use Rattle.laws.proofs.PartLaws.{part_back, part_next}
use Rattle.quantity.specs.Component.{Component, red, green, blue, Pixel}
use Rattle.big_endian.specs.BigEndian.{number_at}
use Rattle.rows.specs.Row.{sample_at, pixel_at, pixel_bytes, pixels_bytes, with_pixels, converted, span_bytes}

-- ---- parts of a row: b bytes from its start, k bytes long
sample_of_rest : (row : List ℕ) (b i m : ℕ) → b + 2 * i ≡ 2 * m → sample_at (drop b row) i ≡ sample_at row m
unfolding sample_at number_at
sample_of_rest row b i m e =
    let next : b + (2 * i + 1) ≡ 2 * m + 1 = omega arith in
    let high = get_or-drop b row (2 * i) 0 ∙ ap (λ (n : ℕ). get_or row n 0) e in
    let low = get_or-drop b row (2 * i + 1) 0 ∙ ap (λ (n : ℕ). get_or row n 0) next in
    rw (high, low)

sample_of_front : (row : List ℕ) (k i : ℕ) → 2 * i + 1 < k → sample_at (take k row) i ≡ sample_at row i
unfolding sample_at number_at
sample_of_front row k i h =
    let high = get_or-take k row (2 * i) 0 (omega arith) in
    let low = get_or-take k row (2 * i + 1) 0 h in
    rw (high, low)

pub sample_of_part : (row : List ℕ) (b k i m : ℕ) → b + 2 * i ≡ 2 * m → 2 * i + 1 < k → sample_at (take k (drop b row)) i ≡ sample_at row m
sample_of_part row b k i m e h = sample_of_front (drop b row) k i h ∙ sample_of_rest row b i m e

pub pixel_of_part : (row : List ℕ) (b k i j : ℕ) → b + 6 * i ≡ 6 * j → 6 * i + 5 < k → pixel_at (take k (drop b row)) i ≡ pixel_at row j
pixel_of_part row b k i j e h =
    let r = sample_of_part row b k (3 * i) (3 * j) (omega arith) (omega arith) in
    let g = sample_of_part row b k (3 * i + 1) (3 * j + 1) (omega arith) (omega arith) in
    let l = sample_of_part row b k (3 * i + 2) (3 * j + 2) (omega arith) (omega arith) in
    rw (r, g, l)

-- ---- the bytes of a pixel and of a span
length_pixel : (p : Pixel) → length (pixel_bytes p) ≡ 6
unfolding pixel_bytes
length_pixel p = refl

-- six stores into six bytes
six_stores : (l : List ℕ) (a b c d e f : ℕ) → length l ≡ 6
    → set (set (set (set (set (set l 0 a) 1 b) 2 c) 3 d) 4 e) 5 f ≡ a ∷ b ∷ c ∷ d ∷ e ∷ f ∷ []
six_stores [] a b c d e f h = absurd (omega arith)
six_stores (x0 ∷ []) a b c d e f h = absurd (omega arith)
six_stores (x0 ∷ x1 ∷ []) a b c d e f h = absurd (omega arith)
six_stores (x0 ∷ x1 ∷ x2 ∷ []) a b c d e f h = absurd (omega arith)
six_stores (x0 ∷ x1 ∷ x2 ∷ x3 ∷ []) a b c d e f h = absurd (omega arith)
six_stores (x0 ∷ x1 ∷ x2 ∷ x3 ∷ x4 ∷ []) a b c d e f h = absurd (omega arith)
six_stores (x0 ∷ x1 ∷ x2 ∷ x3 ∷ x4 ∷ x5 ∷ []) a b c d e f h = refl
six_stores (x0 ∷ x1 ∷ x2 ∷ x3 ∷ x4 ∷ x5 ∷ x6 ∷ l) a b c d e f h = absurd (omega arith)

-- the bytes of a pixel stored one after another
pub pixel_stored : (p : Pixel) (dst : List ℕ) {r r' g g' b b' : ℕ} → length dst ≡ 6
    → (r ≡ p red / 256) × (r' ≡ p red % 256) × (g ≡ p green / 256) × (g' ≡ p green % 256) × (b ≡ p blue / 256) × (b' ≡ p blue % 256)
    → set (set (set (set (set (set dst 0 r) 1 r') 2 g) 3 g') 4 b) 5 b' ≡ pixel_bytes p
unfolding pixel_bytes
pixel_stored p dst {r} {r'} {g} {g'} {b} {b'} six e =
    six_stores dst r r' g g' b b' six ∙ rw (e.0, e.1, e.2, e.3, e.4, e.5)

-- ---- pixels that p gives by their numbers
module _ (p : ℕ → Pixel) where
  pub length_pixels : (j n : ℕ) → length (pixels_bytes p j n) ≡ 6 * n
  unfolding pixels_bytes
  length_pixels j zero = refl
  length_pixels j (suc n) =
      let l = length_pixel (p (j + n)) in
      length-append (pixels_bytes p j n) (pixel_bytes (p (j + n))) ∙ omega (arith, length_pixels j n)

  -- the same pixels under other numbers
  pub pixels_same : (q : ℕ → Pixel) (j n : ℕ) → ((k : ℕ) → k < n → p k ≡ q (j + k)) → pixels_bytes p 0 n ≡ pixels_bytes q j n
  unfolding pixels_bytes
  pixels_same q j zero e = refl
  pixels_same q j (suc n) e =
      let here : p (0 + n) ≡ q (j + n) = ap p (zero-add n) ∙ e n (omega arith) in
      ap₂ (λ (x : List ℕ) (o : Pixel). x ++ pixel_bytes o) (pixels_same q j n (λ k h. e k (omega arith))) here

  -- m pixels more
  pub pixels_further : (n m : ℕ) → pixels_bytes p 0 (n + m) ≡ pixels_bytes p 0 n ++ pixels_bytes p n m
  unfolding pixels_bytes
  pixels_further n zero = ap (pixels_bytes p 0) (add-zero n) ∙ sym (append-nil (pixels_bytes p 0 n))
  pixels_further n (suc m) =
      let here : p (0 + (n + m)) ≡ p (n + m) = ap p (zero-add (n + m)) in
      ap (pixels_bytes p 0) (add-suc n m)
      ∙ ap₂ (λ (x : List ℕ) (o : Pixel). x ++ pixel_bytes o) (pixels_further n m) here
      ∙ append_assoc (pixels_bytes p 0 n) (pixels_bytes p n m) (pixel_bytes (p (n + m)))

  -- those from the first on, those that fill a destination, and none
  pub first_pixels : (d : List ℕ) (n : ℕ) → with_pixels p d 0 n ≡ pixels_bytes p 0 n ++ drop (6 * n) d
  first_pixels d n = let e : n - 0 ≡ n = omega arith in ap (λ (k : ℕ). pixels_bytes p 0 k ++ drop (6 * n) d) e

  pub all_pixels : (d : List ℕ) (n : ℕ) → length d ≡ 6 * n → with_pixels p d 0 n ≡ pixels_bytes p 0 n
  all_pixels d n l =
      first_pixels d n
      ∙ ap (λ (rest : List ℕ). pixels_bytes p 0 n ++ rest) (drop_of_length-le d {i = 6 * n} (omega arith))
      ∙ append-nil (pixels_bytes p 0 n)

  pub no_pixels : (d : List ℕ) (n : ℕ) → n ≡ 0 → d ≡ with_pixels p d 0 n
  unfolding pixels_bytes
  no_pixels d n e = sym (ap (with_pixels p d 0) e)

  -- a span put in its place
  pub put_span : (d ys : List ℕ) (first end : ℕ) → first ≤ end → ys ≡ pixels_bytes p first (end - first)
      → take (6 * first) d ++ (ys ++ drop (6 * end - 6 * first) (drop (6 * first) d)) ≡ with_pixels p d first end
  put_span d ys first end le y =
      ap (λ (x : List ℕ). take (6 * first) d ++ (x ++ drop (6 * end - 6 * first) (drop (6 * first) d))) y
      ∙ part_back d (pixels_bytes p first (end - first)) (6 * first) (6 * end) (omega arith)

-- a span of a part of a row
pub span_of_part : (f : Pixel → Pixel) (row : List ℕ) (j n b k : ℕ) → b ≡ 6 * j → 6 * n ≤ k
    → span_bytes f (take k (drop b row)) 0 n ≡ span_bytes f row j n
span_of_part f row j n b k e h =
    pixels_same (converted f (take k (drop b row))) (converted f row) j n
    (λ i l. ap f (pixel_of_part row b k i (j + i) (omega arith) (omega arith)))

-- n pixels put in their place after the j before them
pub put_pixels : (d d₀ front ys : List ℕ) (j n : ℕ) → d ≡ front ++ drop (6 * j) d₀ → length front ≡ 6 * j
    → take (6 * j) d ++ (ys ++ drop (6 * j + 6 * n - 6 * j) (drop (6 * j) d)) ≡ (front ++ ys) ++ drop (6 * (j + n)) d₀
put_pixels d d₀ front ys j n e l =
    let k : 6 * j + 6 * n ≡ 6 * (j + n) = omega arith in
    part_next d d₀ front ys (6 * j) (6 * j + 6 * n) (omega arith) e l ∙ ap (λ (x : ℕ). front ++ ys ++ drop x d₀) k

-- ---- what is read back: a sample of two runs of bytes is one of the first, or one of the second
sample_before : (xs ys : List ℕ) (k : ℕ) → 2 * k + 1 < length xs → sample_at (xs ++ ys) k ≡ sample_at xs k
unfolding sample_at number_at
sample_before xs ys k h = rw (get_or-append xs ys 0 (2 * k) (omega arith), get_or-append xs ys 0 (2 * k + 1) (omega arith))

sample_after : (xs ys : List ℕ) (n k i : ℕ) → length xs ≡ 6 * n → i ≡ 3 * n + k → sample_at (xs ++ ys) i ≡ sample_at ys k
unfolding sample_at number_at
sample_after xs ys n k i l e =
    let high : 2 * i ≡ length xs + 2 * k = omega arith in
    let low : 2 * i + 1 ≡ length xs + (2 * k + 1) = omega arith in
    rw (low, high, get_or-append-add xs ys (2 * k) 0, get_or-append-add xs ys (2 * k + 1) 0)

pixel_before : (xs ys : List ℕ) (n j : ℕ) → length xs ≡ 6 * n → j < n → (i : Component) → pixel_at (xs ++ ys) j i ≡ pixel_at xs j i
pixel_before xs ys n j l h red = sample_before xs ys (3 * j) (omega arith)
pixel_before xs ys n j l h green = sample_before xs ys (3 * j + 1) (omega arith)
pixel_before xs ys n j l h blue = sample_before xs ys (3 * j + 2) (omega arith)

pixel_after : (xs ys : List ℕ) (n j : ℕ) → length xs ≡ 6 * n → j ≡ n → (i : Component) → pixel_at (xs ++ ys) j i ≡ pixel_at ys 0 i
pixel_after xs ys n j l h red = sample_after xs ys n (3 * 0) (3 * j) l (omega arith)
pixel_after xs ys n j l h green = sample_after xs ys n (3 * 0 + 1) (3 * j + 1) l (omega arith)
pixel_after xs ys n j l h blue = sample_after xs ys n (3 * 0 + 2) (3 * j + 2) l (omega arith)

-- the samples of a pixel's bytes are its codes
pixel_sample : (p : Pixel) (i : Component) → pixel_at (pixel_bytes p) 0 i ≡ p i
unfolding pixel_bytes sample_at number_at
pixel_sample p red = omega arith
pixel_sample p green = omega arith
pixel_sample p blue = omega arith

-- the pixels of a converted span are the converted pixels
pub pixel_of_span : (f : Pixel → Pixel) (row : List ℕ) (n j : ℕ) → j < n → (i : Component) → pixel_at (span_bytes f row 0 n) j i ≡ f (pixel_at row j) i
unfolding pixels_bytes
pixel_of_span f row zero j h i = absurd (omega arith)
pixel_of_span f row (suc n) j h i = go (dec_lt j n) (pixel_of_span f row n j)
  where
    front : List ℕ
    front = span_bytes f row 0 n

    last : List ℕ
    last = pixel_bytes (f (pixel_at row (0 + n)))

    go : Dec (j < n) → (j < n → (k : Component) → pixel_at front j k ≡ f (pixel_at row j) k) → pixel_at (front ++ last) j i ≡ f (pixel_at row j) i
    go (yes l) before = pixel_before front last n j (length_pixels (converted f row) 0 n) l i ∙ before l i
    go (no l) before =
        let e : j ≡ n = omega arith in
        let g : 0 + n ≡ j = omega arith in
        pixel_after front last n j (length_pixels (converted f row) 0 n) e i ∙ pixel_sample (f (pixel_at row (0 + n))) i
        ∙ ap (λ (k : ℕ). f (pixel_at row k) i) g

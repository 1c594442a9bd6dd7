-- Laws of the printed text, from its definitions: a number's digits one by one, how many there are, and a text stored piece by piece.
use mathlib.Core.Path.{◌≡◌, refl, sym, ap, ◌∙◌}
use mathlib.Core.List.{List, [], ◌∷◌, ◌++◌, append_assoc}
use Prim.Native.Nat.{ℕ, zero, suc, ◌+◌, ◌-◌, ◌/◌, ◌%◌, ◌^◌, ◌≤◌, ◌<◌}
use native.Mathlib.Nat.{add-suc, suc-add, add-zero, zero-add, pow-suc, div-lt_iff_lt-mul}
use native.Mathlib.Numerals.{add-one}
use native.Mathlib.Omega.{arith}
use native.Mathlib.Decide.{dec_lt}
use lib.ListN.{length, length-append, set, take, drop}
use lib.Seq.{sets, sets-eq, length-sets}
use borrow.Author.Tests.{lt-ltb, le-ltb}
use borrow.Rule.Slice.PartMut.{put_mid, post_of, Post-is}
use Rattle.quantity.specs.declared.Rgb.{Rgb}
use Rattle.quantity.specs.Component.{Component, red, green, blue, Pixel, pixel, components}
use Rattle.listing.specs.Text.{digit, digits_of, decimal, space, line_feed, line, lines, refusal_line, Stored, opened}

-- how many more digits are allowed for plays no part where they are enough
digits_same : (m k n : ℕ) → n ≤ m → n ≤ k → digits_of m n ≡ digits_of k n
unfolding digits_of
digits_same zero zero n h g = refl
digits_same zero (suc k) n h g = simp (lt-ltb n 10 (omega arith))
digits_same (suc m) zero n h g = simp (lt-ltb n 10 (omega arith))
digits_same (suc m) (suc k) n h g = rw (digits_same m k (n / 10) (omega arith) (omega arith))

pub decimal_digit : (n : ℕ) → n < 10 → decimal n ≡ digit n ∷ []
unfolding decimal digits_of
decimal_digit zero h = refl
decimal_digit (suc n) h = simp (lt-ltb (suc n) 10 h)

pub decimal_more : (n : ℕ) → 10 ≤ n → decimal n ≡ decimal (n / 10) ++ (digit (n % 10) ∷ [])
unfolding decimal digits_of
decimal_more zero h = absurd (omega arith)
decimal_more (suc n) h =
    simp (le-ltb (suc n) 10 h, digits_same n (suc n / 10) (suc n / 10) (omega arith) (omega arith))

pub decimal_parts : (n : ℕ) → 10 ≤ n → decimal n ≡ decimal (n / 10) ++ decimal (n % 10)
decimal_parts n h = decimal_more n h ∙ ap (λ (l : List ℕ). decimal (n / 10) ++ l) (sym (decimal_digit (n % 10) (omega arith)))

-- a number below a power of ten has at most as many digits
pub length_decimal : (k n : ℕ) → n < 10 ^ suc k → length (decimal n) ≤ suc k
length_decimal zero n h = rw (decimal_digit n h) (omega arith)
length_decimal (suc k) n h = go (dec_lt n 10) (length_decimal k (n / 10) ((div-lt_iff_lt-mul {k = 10} (omega arith)).1 (rw pow-suc at h)))
  where
    go : Dec (n < 10) → length (decimal (n / 10)) ≤ suc k → length (decimal n) ≤ suc (suc k)
    go (yes small) fewer = rw (decimal_digit n small) (omega arith)
    go (no large) fewer = rw (decimal_more n (omega arith)) (simp length-append (omega arith))

-- storing one text after another is storing both as one
pub sets_append : (l : List ℕ) (i : ℕ) (xs ys : List ℕ) → sets l i (xs ++ ys) ≡ sets (sets l i xs) (i + length xs) ys
sets_append l i [] ys = rw add-zero
sets_append l i (x ∷ xs) ys = sets_append (set l i x) (suc i) xs ys ∙ rw (suc-add, add-suc)

pub after : {xs ys before between after : List ℕ} {at next end : ℕ} → Stored xs at next before between → Stored ys next end between after
    → Stored (xs ++ ys) at end before after
after {xs} {ys} {before} {between} {after} {at} {next} {end} p q =
    record {
      place = simp length-append (omega (arith, p.place, q.place));
      bytes = q.bytes ∙ rw (p.bytes, p.place) (sym (sets_append before at xs ys));
    }

-- a part of a buffer that was copied from a text
pub part_stored : (text before part : List ℕ) (at : ℕ) → at + length text ≤ length before → part ≡ text
    → Stored text at (at + length text) before (put_mid at (at + length text - at) before part)
part_stored text before part at h e =
    record {
      place = refl;
      bytes =
          ap (λ (l : List ℕ). take at before ++ (l ++ post_of at (at + length text - at) before)) e
          ∙ ap (λ (l : List ℕ). take at before ++ (text ++ l)) (Post-is at (at + length text) before (omega arith))
          ∙ sym (append_assoc (take at before) text (drop (at + length text) before)) ∙ sym (sets-eq text before at h);
    }

-- what comes after a text has the room that is left
pub room_after : {text before after : List ℕ} {at next : ℕ} (more : ℕ) → Stored text at next before after → at + (length text + more) ≤ length before
    → next + more ≤ length after
room_after {text} {before} {after} {at} more p h = omega (arith, p.place, ap length p.bytes, length-sets before at text)

-- and so has what is no longer than that room
pub room_for : {text before after : List ℕ} {at next more most : ℕ} → Stored text at next before after → more ≤ most
    → at + (length text + most) ≤ length before → next + more ≤ length after
room_for {most = most} p fits h = let room = room_after most p h in omega arith

-- a text that was put at the start
pub from_start : {text before after : List ℕ} {next : ℕ} → Stored text 0 next before after → length text ≤ length before
    → (next ≡ length text) × (after ≡ opened text before)
from_start {text} {before} p h =
    (omega (arith, p.place), p.bytes ∙ sets-eq text before 0 (rw zero-add h) ∙ rw zero-add)

-- the line of a pixel, number by number
pub line_parts : (r g b : ℕ) → line (pixel r g b) ≡ (decimal r ++ space) ++ (decimal g ++ space) ++ (decimal b ++ line_feed)
unfolding line
line_parts r g b = simp append_assoc

pub length_line : (r g b : ℕ) → length (line (pixel r g b)) ≡ length (decimal r) + length (decimal g) + length (decimal b) + 3
unfolding line
length_line r g b = simp length-append (omega arith)

-- a line of three 16-bit codes has at most 18 characters
pub line_short : (r g b : ℕ) → r < 65536 → g < 65536 → b < 65536 → length (line (pixel r g b)) ≤ 18
line_short r g b hr hg hb =
    omega (arith, length_line r g b, length_decimal 4 r (omega arith), length_decimal 4 g (omega arith), length_decimal 4 b (omega arith))

pub line_fits : (p : Rgb ℕ) → p.red < 65536 → p.green < 65536 → p.blue < 65536 → length (line (components p)) ≤ 18
line_fits p = line_short p.red p.green p.blue

-- a line of three 64-bit numbers
pub line_within_lem : (r g b : ℕ) → r < 2 ^ 64 → g < 2 ^ 64 → b < 2 ^ 64 → length (line (pixel r g b)) ≤ 63
line_within_lem r g b hr hg hb =
    omega (arith, length_line r g b, length_decimal 19 r (omega arith), length_decimal 19 g (omega arith), length_decimal 19 b (omega arith))

-- the line of a 64-bit refusal has at most 29 characters
pub refusal_short : (n : ℕ) → n < 2 ^ 64 → length (refusal_line n) ≤ 29
unfolding refusal_line
refusal_short n h = let k = length_decimal 19 n (omega arith) in simp length-append (omega arith)

pub lines_more : (p : ℕ → Pixel) (n : ℕ) → lines p (n + 1) ≡ lines p n ++ line (p n)
unfolding lines
lines_more p n = rw add-one

-- lines are the same where the pixels are
pub lines_same : (p q : ℕ → Pixel) (n : ℕ) → ((j : ℕ) → j < n → (i : Component) → p j i ≡ q j i) → lines p n ≡ lines q n
unfolding lines line
lines_same p q zero h = refl
lines_same p q (suc n) h =
    let rest = lines_same p q n (λ j l. h j (omega arith)) in
    let r = h n (omega arith) red in
    let g = h n (omega arith) green in
    let b = h n (omega arith) blue in
    cc

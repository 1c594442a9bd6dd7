-- The light at the position of every full-range code above 0, of both depths, is enclosed: it holds the light of every signal from there to the next
-- position.
use mathlib.Core.Path.{◌≡◌, refl, sym, subst}
use Prim.Native.Nat.{ℕ, pred, ◌*◌, ◌/◌, ◌≤◌, ◌<◌}
use native.Mathlib.Decide.{dec_le}
use native.Mathlib.Omega.{arith}
use lib.Dec.{lit≤}
use lib.ListN.{length}
use Rattle.quantity.specs.declared.sample_format.Depth.{Depth}
use Rattle.quantity.specs.declared.sample_format.Depth.TheVariants.{Ten, Twelve}
use Rattle.quantity.specs.SampleFormat.{last_code}
use Rattle.position.specs.Position.{light_at}
use Rattle.full_range.proofs.FullRangeTests.{Held, holds→, place}
use Rattle.full_range.proofs.FullRangeWalk.{walked, each→}
use Rattle.full_range.proofs.FullRangePass.{ten_bits, twelve_bits_below, twelve_bits_above, ten_dark, ten_dark_lem, twelve_dark, twelve_dark_lem}
use Rattle.full_range.proofs.FullRangePass.{last_below, last_above, last_code_lem}

abbrev HeldAt : ℕ → Type 0
HeldAt q = Held (light_at q) q

at_last : (q : ℕ) → q ≡ 897024 → HeldAt q
at_last q e = subst HeldAt (sym e) (holds→ (light_at 897024) 897024 last_below last_above last_code_lem)

ten_size : length ten_dark ≡ 6
unfolding ten_dark
ten_size = refl

twelve_size : length twelve_dark ≡ 31
unfolding twelve_dark
twelve_size = refl

pub held : (d : Depth) (n : ℕ) → 0 < n → n ≤ last_code d → Held (light_at (897024 * n / last_code d)) (897024 * n / last_code d)
held Ten n some most = go (dec_le n 6) (dec_le n 1022)
  where
    go : Dec (n ≤ 6) → Dec (n ≤ 1022) → HeldAt (place 1023 n)
    go (yes a) b = subst (λ k. HeldAt (place 1023 k)) (omega arith) (each→ 1023 1 ten_dark ten_dark_lem (pred n) (omega (arith, ten_size)))
    go (no a) (yes b) = walked 1023 23 3482 (lit≤ tt) ten_bits n (omega arith) (omega arith) (omega arith) (omega arith)
    go (no a) (no b) = at_last (place 1023 n) (omega arith)
held Twelve n some most = go (dec_le n 31) (dec_le n 4094) (dec_le 1796 (place 4095 n / 256))
  where
    go : Dec (n ≤ 31) → Dec (n ≤ 4094) → Dec (1796 ≤ place 4095 n / 256) → HeldAt (place 4095 n)
    go (yes a) b c = subst (λ k. HeldAt (place 4095 k)) (omega arith) (each→ 4095 1 twelve_dark twelve_dark_lem (pred n) (omega (arith, twelve_size)))
    go (no a) (no b) c = at_last (place 4095 n) (omega arith)
    go (no a) (yes b) (no c) = walked 4095 27 1770 (lit≤ tt) twelve_bits_below n (omega arith) (omega arith) (omega arith) (omega arith)
    go (no a) (yes b) (yes c) = walked 4095 1796 1709 (lit≤ tt) twelve_bits_above n (omega arith) (omega arith) (omega arith) (omega arith)

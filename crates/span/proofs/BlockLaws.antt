-- Laws of a block's passes: one pixel more, and the bytes of mapped pixels as those of the row.
use Rattle.std.proofs.Common.{◌≡◌, ℕ, zero, lt_irrefl, lit≤, ◌+◌, ◌-◌, ◌*◌, ◌<◌, ◌≤◌, ◌⊎◌, inl, inr}
use Rattle.std.proofs.Common.{List, ◌++◌, length, get_or, set, take, drop, refl, sym, ap, ◌∙◌, subst, arith}
use Rattle.std.proofs.Common.{get_or-set_other, get_or-set_same, below_more}
use Rattle.quantity.specs.declared.Rgb.{Rgb}
use Rattle.quantity.specs.Component.{Component, red, green, blue, Pixel, components}
use Rattle.hlg.specs.Root.{IsRoot}
use Rattle.rows.specs.Row.{pixels_bytes, with_pixels}
use Rattle.rows.proofs.RowLaws.{pixels_same, first_pixels}
use Rattle.rows.proofs.SpanLaws.{pixels_put}
use Rattle.std.proofs.Math.Seq.{take-append_seam}
use Rattle.quantity.specs.Units.{thousand}
use Rattle.ycbcr.specs.declared.SignalFormat.{SignalFormat}
use Rattle.span.specs.Block.{pixel_at, MappedTo, AllShown, samples_of, samples_at}

-- what holds of a pixel and what was found of it holds of the next, whether it took that over or it was found
pub kept : {V : Type 0} (Q : Rgb ℕ → V → Type 0) {X : Type 0} {p q : Rgb ℕ} {u v : V} → Q q u → ((v ≡ u) × (q ≡ p)) ⊎ X → (X → Q p v) → Q p v
kept Q h (inl e) f = rw (e.0, ← e.1) h
kept Q h (inr x) f = f x

-- one more item of a list that a pass writes
pub written : {A : Type 0} (P : ℕ → A → Type 0) (d : A) (l : List A) (k : ℕ) (a : A) → k < length l
    → ((j : ℕ) → j < k → P j (get_or l j d)) → P k a → (j : ℕ) → j < k + 1 → P j (get_or (set l k a) j d)
written P d l k a room before here =
    below_more _ k
    (λ j h. subst (P j) (sym (get_or-set_other l k j a d (λ e. omega arith))) (before j h))
    (subst (P k) (sym (get_or-set_same l k a d room)) here)

-- the part of an array that a pass wrote
pub lent_back : {A : Type 0} (n : ℕ) (xs ys : List A) → length xs ≡ n → take n (xs ++ ys) ≡ xs
lent_back n xs ys e = rw (← e) (take-append_seam xs ys)

-- components of at most 1,000 cd/m2
pub all_shown : (p : ℕ → Pixel) (block : List (Rgb ℕ)) → ((j : ℕ) (i : Component) → p j i ≤ thousand) → MappedTo p block → AllShown block
unfolding MappedTo AllShown
all_shown p block most m = λ j h.
    let at : (i : Component) → components (pixel_at block j) i ≤ thousand = λ i. rw (m j h) (most j i) in
    record { red = at red; green = at green; blue = at blue }

-- the bytes of a block are those of its pixels of the row
pub block_is_pixels : (format : SignalFormat) (p : ℕ → Pixel) (block : List (Rgb ℕ)) (first n : ℕ) → length block ≡ n
    → MappedTo (λ k. p (first + k)) block → pixels_bytes (samples_at format block) 0 (length block) ≡ pixels_bytes (λ j. samples_of format (p j)) first n
unfolding MappedTo
block_is_pixels format p block first n e m =
    rw e (pixels_same (samples_at format block) (λ j. samples_of format (p j)) first n (λ k h. ap (samples_of format) (m k (omega arith))))

-- no pixel of a destination written yet, those from first to end − 1 put after the ones before, and all of them
module _ (p : ℕ → Pixel) (dst₀ : List ℕ) where
  pub none_written : (n : ℕ) → n ≡ 0 → dst₀ ≡ pixels_bytes p 0 n ++ drop (6 * n) dst₀
  unfolding pixels_bytes
  none_written n e = rw e refl

  pub block_written : (dst ys : List ℕ) (first end n m : ℕ) → first ≤ end → n ≡ first → m ≡ end → dst ≡ pixels_bytes p 0 n ++ drop (6 * n) dst₀
      → ys ≡ pixels_bytes p first (end - first)
      → take (6 * first) dst ++ (ys ++ drop (6 * end - 6 * first) (drop (6 * first) dst)) ≡ pixels_bytes p 0 m ++ drop (6 * m) dst₀
  block_written dst ys first end n m le from to d y =
      let k : 6 * end - 6 * first ≡ 6 * first + 6 * (end - first) - 6 * first = omega arith in
      let e : first + (end - first) ≡ m = omega arith in
      ap (λ (i : ℕ). take (6 * first) dst ++ (ys ++ drop i (drop (6 * first) dst))) k
      ∙ pixels_put p dst dst₀ ys first (end - first) (rw from at d) y
      ∙ ap (λ (i : ℕ). pixels_bytes p 0 i ++ drop (6 * i) dst₀) e

  pub all_written : (dst : List ℕ) (n k : ℕ) → n ≡ k → dst ≡ pixels_bytes p 0 n ++ drop (6 * n) dst₀ → dst ≡ with_pixels p dst₀ 0 k
  all_written dst n k e d = d ∙ sym (first_pixels p dst₀ n) ∙ ap (with_pixels p dst₀ 0) e

-- no root was found
pub no_root : (y : ℕ) → IsRoot 0 y
no_root y = record { range = lit≤ tt; low = λ h. absurd (lt_irrefl zero h); high = λ h. absurd (lt_irrefl zero h) }

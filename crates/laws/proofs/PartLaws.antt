-- Laws of list parts: what a list holds when its part from a to e - 1 was lent and came back as ys.
use mathlib.Core.Path.{◌≡◌, sym, ◌∙◌, ap, ap₂}
use mathlib.Core.List.{List, ◌++◌, append_assoc}
use Prim.Native.Nat.{ℕ, ◌+◌, ◌-◌, ◌≤◌}
use native.Mathlib.Omega.{arith}
use lib.ListN.{length, take, drop}
use lib.Seq.{drop-drop, drop_at, take_at}

rest_after : (d : List ℕ) (a e : ℕ) → a ≤ e → drop (e - a) (drop a d) ≡ drop e d
rest_after d a e h = let n : a + (e - a) ≡ e = omega arith in drop-drop (e - a) a d ∙ ap (λ (x : ℕ). drop x d) n

pub part_back : (d ys : List ℕ) (a e : ℕ) → a ≤ e → take a d ++ (ys ++ drop (e - a) (drop a d)) ≡ take a d ++ ys ++ drop e d
part_back d ys a e h =
    ap (λ (l : List ℕ). take a d ++ (ys ++ l)) (rest_after d a e h) ∙ sym (append_assoc (take a d) ys (drop e d))

-- where all before a was written already
pub part_next : (d d₀ front ys : List ℕ) (a e : ℕ) → a ≤ e → d ≡ front ++ drop a d₀ → length front ≡ a
    → take a d ++ (ys ++ drop (e - a) (drop a d)) ≡ front ++ ys ++ drop e d₀
part_next d d₀ front ys a e h s l =
    ap₂ (λ (x y : List ℕ). x ++ (ys ++ y)) (ap (take a) s ∙ take_at front (drop a d₀) a l)
    (ap (λ (y : List ℕ). drop (e - a) (drop a y)) s ∙ ap (drop (e - a)) (drop_at front (drop a d₀) a l) ∙ rest_after d₀ a e h)
    ∙ sym (append_assoc front ys (drop e d₀))

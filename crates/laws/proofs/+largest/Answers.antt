-- `laws::largest` meets its contract: of a test that fails from where it fails once the middle decides one half. The measure is how many numbers are left.
use Rattle.std.proofs.Common.{◌≡◌, ℕ, ◌+◌, ◌-◌, ◌/◌, ◌<◌, Bool, true, false, sym, ◌∙◌, arith}
use Rattle.laws.specs.Largest.{largest, Falling}
use Rattle.laws.proofs.LargestLaws.{no_span, upper_half, lower_half}
use Rattle.laws.proofs.+largest.Goals as goal

-- the same halves, counted from the last number down: what is found from s to e, where these are the ends of the half
module _ (f : ℕ → Bool) (from last : ℕ) (h : from < last) {r s e : ℕ} (found : r ≡ largest f s (e - s)) where
  upper : f (last - (last - from) / 2) ≡ true → s ≡ last - (last - from) / 2 → e ≡ last → r ≡ largest f from (last - from)
  upper t a b =
      let m : last - (last - from) / 2 ≡ from + (last - from - (last - from) / 2) = omega arith in
      let n : last - (last - (last - from) / 2) ≡ (last - from) / 2 = omega arith in
      upper_half f from (last - from) (rw m at t) (rw (n, m) at (rw (a, b) at found))

  lower : Falling f → f (last - (last - from) / 2) ≡ false → s ≡ from → e ≡ last - (last - from) / 2 - 1 → r ≡ largest f from (last - from)
  lower falling t a b =
      let m : last - (last - from) / 2 ≡ from + (last - from - (last - from) / 2) = omega arith in
      let n : last - (last - from) / 2 - 1 - from ≡ last - from - (last - from) / 2 - 1 = omega arith in
      lower_half f from (last - from) falling (omega arith) (rw m at t) (rw n at (rw (a, b) at found))

pub returns-then-last-from : goal.returns-then-last-from
returns-then-last-from g t c test falls is = no_span test c.args.from (c.args.last - c.args.from) (omega arith)

pub largest-requires : goal.largest-requires
largest-requires g t c κs within = (omega arith, (within, λ d l h. c.requires d (omega arith) (omega arith)))

pub largest-requires-else-passes : goal.largest-requires-else-passes
largest-requires-else-passes g t c κs within = (omega arith, (within, λ d l h. c.requires d (omega arith) (omega arith)))

pub returns-then-passes : goal.returns-then-passes
returns-then-passes g t c test falls is =
    let a = c.args in
    let found = c.largest.ensures test falls (λ d b l h. is d b (omega arith) (omega arith)) in
    upper test a.from a.last (omega arith) found (sym (is _ _ (omega arith) (omega arith) c.passes.ensures) ∙ c.if-passes.true)
    (omega arith) (omega arith)

pub returns-else-passes : goal.returns-else-passes
returns-else-passes g t c test falls is =
    let a = c.args in
    let found = c.largest-else-passes.ensures test falls (λ d b l h. is d b (omega arith) (omega arith)) in
    lower test a.from a.last (omega arith) found falls (sym (is _ _ (omega arith) (omega arith) c.passes.ensures) ∙ c.if-passes.false)
    (omega arith) (omega arith)

-- The digits of a number one by one.
use Rattle.std.proofs.Common.{arith, rules, ap, refl, length, length-append, ◌<◌}
use Rattle.listing.proofs.TextLaws.{decimal_digit, decimal_more, after}
use Rattle.listing.proofs.+put_digits.Goals as goal

pub bounds-buffer-at : goal.bounds-buffer-at
bounds-buffer-at t c = omega (arith, ap length (decimal_digit _ c.if-n-lt10.true))

pub returns-then-n-lt10 : goal.returns-then-n-lt10
returns-then-n-lt10 t c = rw (decimal_digit _ c.if-n-lt10.true) (record { place = refl; bytes = refl })

pub put_digits-last-requires : goal.put_digits-last-requires
put_digits-last-requires t c = (omega arith, omega (arith, simp length-append at (ap length (decimal_more _ c.if-n-lt10.false))))

pub bounds-buffer-last : goal.bounds-buffer-last
bounds-buffer-last t c =
    let all = simp length-append at (ap length (decimal_more _ c.if-n-lt10.false)) in
    omega (arith, all, c.put_digits-last.ensures.place, c.put_digits-last.auto.buffer)

pub overflow_add-result-2 : goal.overflow_add-result-2
overflow_add-result-2 t c =
    let all = simp length-append at (ap length (decimal_more _ c.if-n-lt10.false)) in
    let within : c.put_digits-last.result < length c.put_digits-last.new.buffer =
    omega (arith, all, c.put_digits-last.ensures.place, c.put_digits-last.auto.buffer) in
    search rules

pub returns : goal.returns
returns t c = rw (decimal_more _ c.if-n-lt10.false) (after c.put_digits-last.ensures (record { place = refl; bytes = refl }))

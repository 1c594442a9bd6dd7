-- `words::leading::leading_zeros` meets its contract: the zeros that the operation counts are those of the laws.
use Rattle.std.proofs.Common.{◌≡◌, arith, rules}
use lib.Count.{count_leading_zeros, leading_le}
use Rattle.words.proofs.LeadingLaws.{kept, filled}
use Rattle.words.proofs.leading.leading_zeros.Goals as goal

pub returns : goal.returns
returns c =
    let x = c.args.x in
    let counted : c.from.result ≡ count_leading_zeros 64 x = search rules in
    rw counted (leading_le 64 x, kept x (omega arith), filled x (omega arith))

-- `inverse_eotf::pq_code_of` meets its contract: the search over all codes is the definition.
use Rattle.std.proofs.Common.{rules, ◌≡◌, refl, nat_le, arith}
use Rattle.inverse_eotf.specs.Code.{threshold_light, threshold_in, pq_code}
use Rattle.inverse_eotf.specs.ThresholdTable.{threshold_table}
use Rattle.inverse_eotf.proofs.CodeLaws.{code_falls}
use Rattle.inverse_eotf.proofs.TableLaws.{threshold_read}
use Rattle.inverse_eotf.proofs.pq_code_of.Goals as goal

pub returns : goal.returns
unfolding pq_code
returns c =
    c.largest.ensures (λ D. nat_le (threshold_light D) c.args.light.0) (code_falls c.args.light.0)
    (λ d b l h e. let k : threshold_in threshold_table d ≡ threshold_light d = threshold_read threshold_table d refl (omega arith) h in rw (← k) (search rules))

-- What holds of the number of every reason.
use Prim.Native.Nat.{◌<◌}
use native.Mathlib.Omega.{arith}
use Rattle.refusals.specs.declared.Reason.{Reason}
use Rattle.refusals.specs.declared.Reason.TheVariants.{SheetLength, SheetField, SheetTangent, StateLength, StateField, StateOfAnotherSheet, ListLength, PairField, StrainLeaves, SteelLeaves, LentBuffer, PointOrder, SectionField, TrialNotOfState, TableLength, Tolerance}
use Rattle.refusals.specs.Reasons.{number_of}
use Rattle.refusals.proofs.FirstLaws.{Numbered}

-- It isn't 0, fits a byte and isn't the one that was taken out.
pub reason_numbered : (r : Reason) → Numbered (number_of r)
reason_numbered r =
    elim r as (λ r. Numbered (number_of r)) [
      | SheetLength ↦ search arith
      | SheetField ↦ search arith
      | SheetTangent ↦ search arith
      | StateLength ↦ search arith
      | StateField ↦ search arith
      | StateOfAnotherSheet ↦ search arith
      | ListLength ↦ search arith
      | PairField ↦ search arith
      | StrainLeaves ↦ search arith
      | SteelLeaves ↦ search arith
      | LentBuffer ↦ search arith
      | PointOrder ↦ search arith
      | SectionField ↦ search arith
      | TrialNotOfState ↦ search arith
      | TableLength ↦ search arith
      | Tolerance ↦ search arith
    ]

pub number_below : (r : Reason) → number_of r < 256
number_below r = (reason_numbered r).1.0

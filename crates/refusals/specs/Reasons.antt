-- The reasons of refusals, their numbers, and what an answer of the code stands for (SPEC 8.2, 8.8), cited wherever something can be
-- refused; definitions only, nothing is assumed.
use Rattle.std.specs.Prelude.{ℕ, Option, Some, None, Result, Ok, Err}
use Rattle.refusals.specs.Table.{Answer, passes, refused}
use Rattle.refusals.specs.declared.Reason.{Reason}
use Rattle.refusals.specs.declared.Refused.{Refused}
use Rattle.refusals.specs.declared.Reason.TheVariants.{SheetLength, SheetField, SheetTangent, StateLength, StateField, StateOfAnotherSheet, ListLength, PairField, StrainLeaves, SteelLeaves, LentBuffer, PointOrder, SectionField, TrialNotOfState, TableLength, Tolerance}

-- SPEC 8.2: the number of each reason.
abbrev pub number_of : Reason → ℕ
number_of SheetLength = 1
number_of SheetField = 2
number_of SheetTangent = 3
number_of StateLength = 4
number_of StateField = 5
number_of StateOfAnotherSheet = 6
number_of ListLength = 7
number_of PairField = 8
number_of StrainLeaves = 9
number_of SteelLeaves = 10
number_of LentBuffer = 12
number_of PointOrder = 13
number_of SectionField = 14
number_of TrialNotOfState = 15
number_of TableLength = 16
number_of Tolerance = 17

-- SPEC 8.8: what a result of the code stands for: the value that `meaning` gives for an Ok, the reason's number for an Err.
abbrev pub answer_by : {A B : Type 0} → (meaning : A → B) → Result A Reason → Answer B
answer_by meaning (Ok value) = passes (meaning value)
answer_by meaning (Err reason) = refused (number_of reason)

-- SPEC 8.8: the same where the value stands for itself.
abbrev pub answer_of : {A : Type 0} → Result A Reason → Answer A
answer_of (Ok value) = passes value
answer_of (Err reason) = refused (number_of reason)

-- SPEC 8.6: the number and the place of a call that may have been refused: both 0 where it wasn't.
abbrev pub number_in : Option Refused → ℕ
number_in (Some r) = number_of r.reason
number_in None = 0

abbrev pub place_in : Option Refused → ℕ
place_in (Some r) = r.place
place_in None = 0

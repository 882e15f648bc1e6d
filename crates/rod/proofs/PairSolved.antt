-- SPEC 6.7, 7.1, demand 2 for one pair: for every sheet, state and pair that pass, whether a history leads there or not, what the pair
-- leaves is the rounding of the one solution that the conditions have, yielded exactly where p grew, with the law's branch and tangent.
-- No trial passes both limits of such a state (SPEC 6.6).
use mathlib.Core.Path.{◌≡◌, refl, ap}
use mathlib.Core.Bool.{true, false≢true}
use native.Mathlib.Omega.{arith}
use borrow.Author.Tests.{leb-true}
use lib.Dec.{eqb}
use lib.IntN.{ℤ, pos, negsuc, ◌-ℤ◌}
use Rattle.fractions.specs.Fraction.{Frac, whole}
use Rattle.fractions.proofs.UpDown.{up, dn, equal_parts, le_parts, le_of_parts, sub-parts-ℤ}
use Rattle.branch.specs.declared.Branch.{Branch}
use Rattle.branch.specs.declared.Branch.TheVariants.{Elastic, Tension, Compression}
use Rattle.refusals.proofs.FirstLaws.{both_hold, three_hold}
use Rattle.law.specs.declared.Law.{Law}
use Rattle.law.specs.declared.Law.TheVariants.{IsotropicLine, IsotropicCurve, Kinematic, Asymmetric}
use Rattle.law.specs.Laws.{number_of}
use Rattle.curve.specs.declared.Side.{Side}
use Rattle.pair.specs.declared.Pair.{Pair}
use Rattle.sheet.specs.declared.Sheet.{Sheet}
use Rattle.response.specs.Candidates.{PassesTension, PassesCompression}
use Rattle.response.specs.Solved.{Solved, Shows, PastYield, AbscissasPast}
use Rattle.response.proofs.Laws.{law_solved, law_one_limit}
use Rattle.response.proofs.StoredWays.{law_shows}
use Rattle.rod.specs.declared.Rod.{Rod}
use Rattle.rod.specs.Against.{past_yield, isotropic_belongs, asymmetric_belongs, belongs_by, belongs}
use Rattle.rod.specs.Steps.{strain_after, trial_of, plastic_of, plastic_at, outcome_after}
use Rattle.rod.proofs.PlasticStrain.{plastic_changes}
use Rattle.rod.specs.Accepted.{Accepted}

pub past_yield_is : (side : Side) (z : ℤ) → past_yield side z ≡ true → PastYield side.yield_stress.0 z
past_yield_is side (pos n) e = record { not_negative = refl; past = leb-true side.yield_stress.0 n e }
past_yield_is side (negsuc n) e = absurd (false≢true e)

isotropic_past : (h : Sheet) (r : Rod) → isotropic_belongs h r ≡ true → PastYield h.tension.yield_stress.0 r.first.0
unfolding isotropic_belongs
isotropic_past h r e = past_yield_is h.tension r.first.0 (three_hold (past_yield h.tension r.first.0) _ _ e).0

-- A state that passes 6 has no abscissa below its yield.
abscissas_past : (law : Law) (h : Sheet) (r : Rod) → belongs_by law h r ≡ true → AbscissasPast law h r.first.0 r.second.0
unfolding asymmetric_belongs
abscissas_past IsotropicLine h r e = isotropic_past h r e
abscissas_past IsotropicCurve h r e = isotropic_past h r e
abscissas_past Kinematic h r e = tt
abscissas_past Asymmetric h r e =
    let sides = three_hold (past_yield h.tension r.first.0) (past_yield h.compression r.second.0) _ (both_hold _ _ e).0 in
    (past_yield_is h.tension r.first.0 sides.0, past_yield_is h.compression r.second.0 sides.1)

past_of : {h : Sheet} {r : Rod} → Accepted h r → AbscissasPast h.law h r.first.0 r.second.0
unfolding belongs
past_of {h} {r} accepted = abscissas_past h.law h r (both_hold (eqb (number_of r.law) (number_of h.law)) _ accepted.belongs).1

pub pair_solved : {h : Sheet} {r : Rod} (accepted : Accepted h r) (p : Pair)
    → Solved h accepted.sound h.law (trial_of h r p) r.first.0 r.second.0 (outcome_after h r p)
pair_solved {h} {r} accepted p = law_solved h accepted.sound (trial_of h r p) r.first.0 r.second.0 (past_of accepted)

-- Of a state that passes, no trial passes both limits.
pub pair_one_limit : {h : Sheet} {r : Rod} (accepted : Accepted h r) (trial : Frac)
    → PassesTension h accepted.sound h.law trial (whole r.first.0) (whole r.second.0)
    → ¬ PassesCompression h accepted.sound h.law trial (whole r.first.0) (whole r.second.0)
pair_one_limit {h} {r} accepted trial = law_one_limit h accepted.sound trial r.first.0 r.second.0 (past_of accepted)

-- Two differences that are the same show the same.
same_shows : (b : Branch) (x y s t : ℤ) → y -ℤ x ≡ t -ℤ s → Shows b s t → Shows b x y
same_shows Elastic x y s t e shows =
    equal_parts y x (omega (arith, sub-parts-ℤ y x, sub-parts-ℤ t s, ap up e, ap dn e, ap up shows, ap dn shows))
same_shows Tension x y s t e shows = le_of_parts x y (omega (arith, sub-parts-ℤ y x, sub-parts-ℤ t s, ap up e, ap dn e, le_parts shows))
same_shows Compression x y s t e shows = le_of_parts y x (omega (arith, sub-parts-ℤ y x, sub-parts-ℤ t s, ap up e, ap dn e, le_parts shows))

-- The stress goes from the trial by the branch: where nothing flows it is the trial.
pub stress_shows : {h : Sheet} {r : Rod} → Accepted h r → (p : Pair) → let o = outcome_after h r p in Shows o.branch o.stress (trial_of h r p)
stress_shows {h} {r} accepted p = law_shows h accepted.sound (trial_of h r p) r.first.0 r.second.0 (past_of accepted)

-- E times plastic strain, as it is stored, doesn't go against the branch.
pub pair_shows : {h : Sheet} {r : Rod} → Accepted h r → (p : Pair) → let o = outcome_after h r p in
    Shows o.branch (plastic_at h r) (plastic_of h (strain_after r p) p.temperature.0 o.stress)
pair_shows {h} {r} accepted p =
    let o = outcome_after h r p in
    same_shows o.branch (plastic_at h r) (plastic_of h (strain_after r p) p.temperature.0 o.stress) o.stress (trial_of h r p)
    (plastic_changes h r p o.stress) (stress_shows accepted p)

-- The solution of the conditions in closed form, law by law and without rounding (SPEC 6.9), cited by the bar's step (accuracy/specs/Bar);
-- definitions only, nothing is assumed, and that it is the only solution is proved.
use Rattle.std.specs.Prelude.{cond, ℕ, ◌<◌}
use Rattle.fractions.specs.Fraction.{Frac, le_f, ◌+F◌, neg_f, ◌-F◌, abs_f, signed_f, times_f}
use Rattle.flow.specs.Side.{Side}

-- SPEC 6.9: the stress and the abscissa, or the centre, after a pair of laws 0 to 2.
pub record ExactNumbers : Type 0 where
  pub stress : Frac
  pub variable : Frac

-- SPEC 6.9: a side flows by as much as the trial, counted as that side counts it, lies beyond its limit.
abbrev pub flowed : Side → Frac → Frac → Frac
flowed side trial A = A +F (trial -F side.limit A)

-- SPEC 6.9, laws 0 and 1: up to the limit the trial is the stress and the abscissa stays; beyond it the side flows, and the stress is the
-- limit that it comes to, with the trial's sign.
unfoldable pub isotropic : Side → (trial A : Frac) → ExactNumbers
isotropic side trial A =
    let A' = flowed side (abs_f trial) A in
    cond (le_f (abs_f trial) (side.limit A)) (record { stress = trial; variable = A })
    (record { stress = signed_f trial (side.limit A'); variable = A' })

-- SPEC 6.9, law 2: up to one radius from the centre the trial is the stress and the centre stays; further out the centre moves toward the
-- trial by t / E of the excess, and the stress is one radius ahead of the new centre.
unfoldable pub kinematic : (E tangent : ℕ) → 0 < E → (yield trial X : Frac) → ExactNumbers
kinematic E tangent E_pos yield trial X =
    let s = trial -F X in
    let X' = X +F signed_f s (times_f (abs_f s -F yield) tangent E E_pos) in
    cond (le_f (abs_f s) yield) (record { stress = trial; variable = X })
    (record { stress = X' +F signed_f s yield; variable = X' })

-- SPEC 6.9: the stress and the abscissas of both sides after a pair of law 3.
pub record AsymmetricExactNumbers : Type 0 where
  pub stress : Frac
  pub tension : Frac
  pub compression : Frac

-- SPEC 6.9, law 3: between both limits the trial is the stress and both abscissas stay; beyond one of them that side flows, the stress is
-- its new limit (negative in compression), and the other side stays. Tension is asked first.
unfoldable pub asymmetric : (tension compression : Side) → (trial A B : Frac) → AsymmetricExactNumbers
asymmetric tension compression trial A B =
    let A' = flowed tension trial A in
    let B' = flowed compression (neg_f trial) B in
    cond (le_f trial (tension.limit A))
    (cond (le_f (neg_f trial) (compression.limit B)) (record { stress = trial; tension = A; compression = B })
    (record { stress = neg_f (compression.limit B'); tension = A; compression = B' }))
    (record { stress = tension.limit A'; tension = A'; compression = B })

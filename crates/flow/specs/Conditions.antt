-- The conditions of one pair, law by law, over fractions (SPEC 6.1 to 6.5), cited by response's Candidates, for the stored rod, whose old
-- numbers are whole, and for the bar without rounding; definitions only, nothing is assumed. E times the change of plastic strain is the
-- trial stress less the new stress (SPEC 5.5).
use Rattle.std.specs.Prelude.{ℕ, ◌-◌, ◌<◌, pos}
use Rattle.std.proofs.Math.Nat.{sub-pos_iff_lt}
use Rattle.fractions.specs.Fraction.{Frac, ◌≤F◌, ◌<F◌, ◌≈F◌, whole, neg_f, ◌-F◌, abs_f, signed_f, times_f}
use Rattle.flow.specs.Side.{Side, accumulated}

-- SPEC 6.2: one side, from the abscissa A to A'. `stress` is the new stress as that side counts it: its magnitude in the isotropic law, in
-- law 3 the stress on the tension side and its negation on the compression side.
pub record OnSide (side : Side) (A stress A' : Frac) : Type 0 where
  -- no abscissa lies below the yield, where the curve starts
  pub past : side.yield ≤F A'
  -- the stress lies at the new limit or below it
  pub inside : stress ≤F side.limit A'
  -- accumulated plastic strain is no less than before,
  pub keeps : accumulated side A ≤F accumulated side A'
  -- and where it is more, the stress lies at the limit
  pub at_limit : accumulated side A <F accumulated side A' → stress ≈F side.limit A'

-- SPEC 6.3, isotropic (laws 0 and 1): from the trial stress and the abscissa A.
pub record Isotropic (side : Side) (trial A stress A' : Frac) : Type 0 where
  pub side_holds : OnSide side A (abs_f stress) A'
  -- plastic strain goes the way of the new stress, as far as p grew; which sign nought has decides nothing, since where p grew the
  -- magnitude is a limit, above nought
  pub plastic : (trial -F stress) ≈F signed_f stress (accumulated side A' -F accumulated side A)

-- SPEC 6.4, kinematic (law 2): from the trial stress and the centre X. About the new centre the stress is held to a radius, the yield,
-- which doesn't harden. `growth` is E times what p grew by.
pub record Kinematic (E tangent : ℕ) (below : tangent < E) (yield trial X stress X' growth : Frac) : Type 0 where
  -- the stress is at most one radius away from the new centre
  pub inside : abs_f (stress -F X') ≤F yield
  -- p is no less than before, and where it is more, the stress is one radius away
  pub keeps : whole (pos 0) ≤F growth
  pub at_limit : whole (pos 0) <F growth → abs_f (stress -F X') ≈F yield
  -- plastic strain goes the way in which the stress lies from the centre, as far as p grew
  pub plastic : (trial -F stress) ≈F signed_f (stress -F X') growth
  -- the centre moves by the hardening modulus E t / (E - t) times the change of plastic strain, which is t / (E - t) times trial - stress
  pub centre : (X' -F X) ≈F times_f (trial -F stress) tangent (E - tangent) (sub-pos_iff_lt.1 below)

-- SPEC 6.5, asymmetric (law 3): two sides with a curve and an abscissa each, under the conditions of one side. Tension makes plastic strain
-- grow and compression makes it fall.
pub record Asymmetric (tension compression : Side) (trial A B stress A' B' : Frac) : Type 0 where
  pub tension_holds : OnSide tension A stress A'
  pub compression_holds : OnSide compression B (neg_f stress) B'
  pub plastic : (trial -F stress) ≈F ((accumulated tension A' -F accumulated tension A) -F (accumulated compression B' -F accumulated compression B))

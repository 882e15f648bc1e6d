-- The tangent that a side leaves: E where it stayed, and where it flowed that of the segment which holds the stored abscissa.
use Prim.Native.Nat.{ℕ, ◌≤◌}
use mathlib.Core.Path.{◌≡◌, refl, sym, ap, ◌∙◌}
use mathlib.Core.Bool.{Bool, true, false, cond}
use native.Mathlib.Decide.{dec_le}
use native.Mathlib.Omega.{arith}
use borrow.Author.Tests.{le-leb, lt-leb}
use lib.IntN.{ℤ, nat_abs}
use Rattle.branch.specs.declared.Branch.{Branch}
use Rattle.branch.specs.declared.Branch.TheVariants.{Elastic, Tension, Compression}
use Rattle.branch.specs.Branches.{yielded_by}
use Rattle.units.specs.Signs.{is_neg}
use Rattle.curve.specs.Curve.{Curve, limit_at}
use Rattle.curve.specs.Tangent.{tangent_at}
use Rattle.curve.proofs.Tangents.{tangent_of_holder, holder_exists}
use Rattle.flow.specs.Stored.{side_stored, isotropic_stored}
use Rattle.response.specs.Response.{flow_branch, isotropic_moved}
use Rattle.response.specs.Solved.{SegmentTangent}

-- Elastic is no flow, and every other branch is one.
some_flow : (negative : Bool) → yielded_by (cond negative Compression Tension) ≡ true
some_flow true = refl
some_flow false = refl

pub branch_marks : (yielded : Bool) (s : ℤ) → yielded ≡ yielded_by (flow_branch yielded s)
branch_marks true s = sym (some_flow (is_neg s))
branch_marks false s = refl

pub branch_is : (yielded : Bool) (s : ℤ) (b : Branch) → flow_branch yielded s ≡ b → yielded ≡ yielded_by b
branch_is yielded s b e = branch_marks yielded s ∙ ap yielded_by e

-- The abscissa never falls.
abscissa_keeps : (limit : ℕ → ℕ) (trial A : ℕ) → A ≤ (side_stored limit trial A).abscissa
unfolding side_stored
abscissa_keeps limit trial A = go (dec_le trial (limit A))
  where
    go : Dec (trial ≤ limit A) → A ≤ (side_stored limit trial A).abscissa
    go (yes h) = rw (le-leb trial (limit A) h) (omega arith)
    go (no h) = rw (lt-leb trial (limit A) (omega arith)) (omega arith)

module _ (E : ℕ) (curve : Curve) (first trial : ℤ) where
  pub tangent_still : (isotropic_moved E curve first trial).branch ≡ Elastic → (isotropic_moved E curve first trial).tangent ≡ E
  unfolding isotropic_moved
  tangent_still e = rw (branch_is (isotropic_stored (limit_at E curve) trial (nat_abs first)).yielded trial Elastic e)

  pub tangent_of_segment : curve.yield ≤ nat_abs first → (b : Branch) → yielded_by b ≡ true → (isotropic_moved E curve first trial).branch ≡ b
      → SegmentTangent E curve (isotropic_moved E curve first trial).variable (isotropic_moved E curve first trial).tangent
  unfolding isotropic_moved isotropic_stored tangent_at
  tangent_of_segment h b flow e =
      let stored = side_stored (limit_at E curve) (nat_abs trial) (nat_abs first) in
      let a = stored.abscissa in
      let keeps = abscissa_keeps (limit_at E curve) (nat_abs trial) (nat_abs first) in
      let (p, m, held) = holder_exists E a curve.yield curve.segments (omega arith) in
      (p, m, held, rw (branch_is stored.yielded trial b e ∙ flow) (tangent_of_holder E a curve.yield curve.segments p m held))

-- What demand 2 asks of the numbers that a pair leaves (SPEC 6.7, 6.8, 7.1 to 7.8), cited by rod and the demands; definitions only, nothing
-- is assumed. Conditions are those of Candidates from whole numbers, roundings are flow's; proofs/Laws shows all of it of every pair.
use Rattle.std.specs.Prelude.{ℕ, ◌≤◌, ◌≡◌, true, false, ◌↔◌, T, ℤ, nat_abs, ◌≤ℤ◌}
use mathlib.Core.List.{Memᴰ}
use Rattle.fractions.specs.Fraction.{◌<F◌, whole, ◌-F◌}
use Rattle.branch.specs.declared.Branch.{Branch}
use Rattle.branch.specs.declared.Branch.TheVariants.{Elastic, Tension, Compression}
use Rattle.branch.specs.Branches.{yielded_by}
use Rattle.law.specs.declared.Law.{Law}
use Rattle.law.specs.declared.Law.TheVariants.{IsotropicLine, IsotropicCurve, Kinematic, Asymmetric}
use Rattle.units.specs.Signs.{is_neg}
use Rattle.curve.specs.Curve.{Curve}
use Rattle.curve.specs.Tangent.{Span, holds, spans}
use Rattle.curve.specs.Sides.{curve_of}
use Rattle.sheet.specs.declared.Sheet.{Sheet}
use Rattle.sheet.specs.Sound.{SheetSound, tangent_of}
use Rattle.flow.specs.Side.{accumulated}
use Rattle.flow.specs.Rounded.{IsotropicRounded, KinematicRounded, AsymmetricRounded}
use Rattle.response.specs.Response.{Outcome}
use Rattle.response.specs.Candidates.{Candidate, SameCandidate, Grows, plastic_change, Toward, tension_side, compression_side, MeetsUnder, PassesTension, PassesCompression, Passes}

-- SPEC 7.2 to 7.5: the numbers of an outcome are the roundings of a candidate. A second variable that the law does not have stays.
abbrev pub RoundsUnder : (h : Sheet) → SheetSound h → Law → (trial first second : ℤ) → Candidate → Outcome → Type 0
RoundsUnder h sound IsotropicLine trial A second x o =
    IsotropicRounded (tension_side h sound) trial (whole A) x.stress x.first o.stress o.first × (o.second ≡ second)
RoundsUnder h sound IsotropicCurve trial A second x o =
    IsotropicRounded (tension_side h sound) trial (whole A) x.stress x.first o.stress o.first × (o.second ≡ second)
RoundsUnder h sound Kinematic trial X second x o =
    KinematicRounded h.tension.yield_stress.0 trial X x.stress x.first x.growth o.stress o.first × (o.second ≡ second)
RoundsUnder h sound Asymmetric trial A B x o =
    AsymmetricRounded (tension_side h sound) (compression_side h sound) (whole A) (whole B) x.stress x.first x.second
    o.stress o.first o.second

-- SPEC 4.6, 7.8: a tangent is that of the segment that holds the abscissa.
abbrev pub SegmentTangent : (E : ℕ) → Curve → (abscissa : ℤ) → (tangent : ℕ) → Type 0
SegmentTangent E curve abscissa tangent =
    (p : Span) × Memᴰ p (spans E curve.yield curve.segments) × T (holds p (nat_abs abscissa)) × (tangent ≡ p.tangent)

-- SPEC 7.8: the tangent of an outcome that flowed toward tension is the law's,
abbrev pub TangentTension : Sheet → Law → Outcome → Type 0
TangentTension h IsotropicLine o = SegmentTangent h.modulus.0 (curve_of h.tension) o.first o.tangent
TangentTension h IsotropicCurve o = SegmentTangent h.modulus.0 (curve_of h.tension) o.first o.tangent
TangentTension h Kinematic o = o.tangent ≡ tangent_of h.tension 0
TangentTension h Asymmetric o = SegmentTangent h.modulus.0 (curve_of h.tension) o.first o.tangent

-- and of one that flowed toward compression.
abbrev pub TangentCompression : Sheet → Law → Outcome → Type 0
TangentCompression h IsotropicLine o = SegmentTangent h.modulus.0 (curve_of h.tension) o.first o.tangent
TangentCompression h IsotropicCurve o = SegmentTangent h.modulus.0 (curve_of h.tension) o.first o.tangent
TangentCompression h Kinematic o = o.tangent ≡ tangent_of h.tension 0
TangentCompression h Asymmetric o = SegmentTangent h.modulus.0 (curve_of h.compression) o.second o.tangent

module _ (h : Sheet) (sound : SheetSound h) (law : Law) (trial first second : ℤ) where
  -- SPEC 6.1: the conditions from the stored numbers, which are whole.
  abbrev pub Meets : Candidate → Type 0
  Meets x = MeetsUnder h sound law (whole trial) (whole first) (whole second) x

  -- SPEC 6.7, 7.1: the conditions have one solution, and an outcome is its rounding. SPEC 6.8, 7.6: it yielded exactly where p grows, and
  -- that is where the trial passes a limit. SPEC 7.7, 7.8: the branch says which way plastic strain went, and the tangent is the law's
  -- there.
  pub record Solved (o : Outcome) : Type 0 where
    pub exists : (x : Candidate) × Meets x
    pub unique : (x y : Candidate) → Meets x → Meets y → SameCandidate x y
    pub rounded : (x : Candidate) → Meets x → RoundsUnder h sound law trial first second x o
    -- SPEC 7.1: no other numbers are its rounding
    pub only : (x : Candidate) → Meets x → (o' : Outcome) → RoundsUnder h sound law trial first second x o'
        → (o'.stress ≡ o.stress) × (o'.first ≡ o.first) × (o'.second ≡ o.second)
    pub grows : (x : Candidate) → Meets x → (o.yielded ≡ true) ↔ Grows x
    pub passes : (o.yielded ≡ true) ↔ Passes h sound law (whole trial) (whole first) (whole second)
    -- SPEC 7.7: of the three branches it is the one that plastic strain goes by in the solution,
    pub branch : (x : Candidate) → Meets x → (b : Branch) → (o.branch ≡ b) ↔ Toward b (plastic_change (whole trial) x)
    -- elastic exactly where it didn't yield,
    pub marked : o.yielded ≡ yielded_by o.branch
    -- and else that of the limit which the trial passes;
    pub tension : (o.branch ≡ Tension) ↔ PassesTension h sound law (whole trial) (whole first) (whole second)
    pub compression : (o.branch ≡ Compression) ↔ PassesCompression h sound law (whole trial) (whole first) (whole second)
    -- for a flow of law 2 it is the side of the old centre on which the trial lies,
    pub centre_side : law ≡ Kinematic → o.yielded ≡ true → (b : Branch) → (o.branch ≡ b) ↔ Toward b (whole trial -F whole first)
    -- and under law 3 the side that flowed
    pub tension_flowed : law ≡ Asymmetric → (x : Candidate) → Meets x → let side = tension_side h sound in
        (o.branch ≡ Tension) ↔ (accumulated side (whole first) <F accumulated side x.first)
    pub compression_flowed : law ≡ Asymmetric → (x : Candidate) → Meets x → let side = compression_side h sound in
        (o.branch ≡ Compression) ↔ (accumulated side (whole second) <F accumulated side x.second)
    -- SPEC 7.8: E without a yield, else by the side that flowed
    pub tangent_still : o.branch ≡ Elastic → o.tangent ≡ h.modulus.0
    pub tangent_tension : o.branch ≡ Tension → TangentTension h law o
    pub tangent_compression : o.branch ≡ Compression → TangentCompression h law o

-- SPEC 7.7: what stored numbers show of a branch, where E times plastic strain goes from one to the other: it stays in the elastic branch,
-- doesn't fall in tension and doesn't rise in compression.
abbrev pub Shows : Branch → (before after : ℤ) → Type 0
Shows Elastic before after = after ≡ before
Shows Tension before after = before ≤ℤ after
Shows Compression before after = after ≤ℤ before

-- SPEC 8.4: an abscissa that is not below its yield,
pub record PastYield (yield : ℕ) (z : ℤ) : Type 0 where
  pub not_negative : is_neg z ≡ false
  pub past : yield ≤ nat_abs z

-- and every abscissa of the law like that.
abbrev pub AbscissasPast : Law → Sheet → (first second : ℤ) → Type 0
AbscissasPast IsotropicLine h first second = PastYield h.tension.yield_stress.0 first
AbscissasPast IsotropicCurve h first second = PastYield h.tension.yield_stress.0 first
AbscissasPast Kinematic h first second = Unit {0}
AbscissasPast Asymmetric h first second =
    PastYield h.tension.yield_stress.0 first × PastYield h.compression.yield_stress.0 second

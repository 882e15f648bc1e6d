-- SPEC 6.7, 7.1: for every sheet that passes and every state with no abscissa below its yield, what a pair leaves is the rounding of the
-- one solution that the conditions have. What is said of the conditions alone is in Candidates; here it is what each law leaves.
use Prim.Native.Nat.{ℕ, ◌≤◌}
use mathlib.Core.Path.{◌≡◌, refl, sym, ap, ◌∙◌}
use mathlib.Core.Bool.{true, false, true≢false}
use mathlib.Core.Logic.Iff
use mathlib.Core.Logic.{◌↔◌}
use native.Mathlib.Omega.{arith}
use lib.IntN.{ℤ, pos, negsuc, ◌-ℤ◌}
use Rattle.fractions.specs.Fraction.{Frac, ◌≤F◌, ◌<F◌, whole, ◌-F◌}
use Rattle.fractions.proofs.Common.{is_whole_one, is_le}
use Rattle.fractions.proofs.Comparison.{≈F-refl}
use Rattle.fractions.proofs.Arithmetic.{whole_sub, difference_positive}
use Rattle.branch.specs.declared.Branch.{Branch}
use Rattle.branch.specs.declared.Branch.TheVariants.{Elastic, Tension, Compression}
use Rattle.branch.specs.Branches.{yielded_by}
use Rattle.law.specs.declared.Law.{Law}
use Rattle.law.specs.declared.Law.TheVariants.{IsotropicLine, IsotropicCurve, Kinematic, Asymmetric}
use Rattle.law.specs.Laws.{number_of}
use Rattle.curve.specs.Curve.{Curve, limit_at}
use Rattle.curve.specs.Sides.{curve_of}
use Rattle.sheet.specs.declared.Sheet.{Sheet}
use Rattle.sheet.specs.Sound.{SheetSound, tangent_of}
use Rattle.flow.specs.Side.{accumulated}
use Rattle.flow.specs.Stored.{AsymmetricStored, isotropic_stored, kinematic_stored, asymmetric_stored}
use Rattle.flow.proofs.Curves.{curve_rounded}
use Rattle.flow.proofs.OneSide.{limit_positive}
use Rattle.flow.proofs.Asymmetric.{asymmetric_grows}
use Rattle.flow.proofs.IsotropicRounding.{isotropic_rounded, isotropic_rounded_unique}
use Rattle.flow.proofs.KinematicRounding.{kinematic_rounded, kinematic_rounded_unique}
use Rattle.flow.proofs.AsymmetricRounding.{asymmetric_rounded, asymmetric_rounded_unique}
use Rattle.response.specs.Response.{Outcome, flow_branch, isotropic_moved, kinematic_moved, in_first, asymmetric_outcome, outcome_under, outcome_of}
use Rattle.response.specs.Candidates.{Candidate, Grows, plastic_change, Toward, tension_side, compression_side, MeetsUnder, Passes, PassesTension, PassesCompression}
use Rattle.response.specs.Solved.{RoundsUnder, SegmentTangent, TangentTension, TangentCompression, Meets, Solved, PastYield, AbscissasPast}
use Rattle.response.proofs.Candidates.{PastUnder, tension_hardens, compression_hardens, radius_positive, solution_under, solution_meets, meets_same, grows_passes, sides_grow, one_limit}
use Rattle.response.proofs.Places.{isotropic_branch}
use Rattle.response.proofs.MovedTangent.{branch_marks, branch_is, tangent_still, tangent_of_segment}
use Rattle.response.proofs.Passing.{branch_passes}
use Rattle.response.proofs.Directions.{only_way, by_limits, above_nought, below_nought, ways_under}

-- Law 3's outcome has the numbers of flow's `asymmetric_stored`.
pub record AsStored (o : Outcome) (trial : ℤ) (stored : AsymmetricStored) : Type 0 where
  pub yielded : o.yielded ≡ stored.yielded
  pub branch : o.branch ≡ flow_branch stored.yielded trial
  pub stress : o.stress ≡ stored.stress
  pub first : o.first ≡ pos stored.tension
  pub second : o.second ≡ pos stored.compression

asymmetric_as_stored : (E : ℕ) (tension compression : Curve) (A B : ℕ) (trial : ℤ)
    → AsStored (asymmetric_outcome E tension compression (pos A) (pos B) trial) trial
    (asymmetric_stored (limit_at E tension) (limit_at E compression) trial A B)
unfolding asymmetric_outcome isotropic_moved isotropic_stored asymmetric_stored
asymmetric_as_stored E tension compression A B (pos m) = record { yielded = refl; branch = refl; stress = refl; first = refl; second = refl }
asymmetric_as_stored E tension compression A B (negsuc m) = record { yielded = refl; branch = refl; stress = refl; first = refl; second = refl }

asymmetric_tangents : (E : ℕ) (tension compression : Curve) (A B : ℕ) (trial : ℤ) → tension.yield ≤ A → compression.yield ≤ B
    → let o = asymmetric_outcome E tension compression (pos A) (pos B) trial in
    (o.branch ≡ Elastic → o.tangent ≡ E) × (o.branch ≡ Tension → SegmentTangent E tension o.first o.tangent)
    × (o.branch ≡ Compression → SegmentTangent E compression o.second o.tangent)
unfolding asymmetric_outcome
asymmetric_tangents E tension compression A B (pos m) h h' = (
  tangent_still E tension (pos A) (pos m),
  tangent_of_segment E tension (pos A) (pos m) h Tension refl,
  λ e. absurd (isotropic_branch E tension (pos A) (pos m) false refl e),
)
asymmetric_tangents E tension compression A B (negsuc m) h h' = (
  tangent_still E compression (pos B) (negsuc m),
  λ e. absurd (isotropic_branch E compression (pos B) (negsuc m) true refl e),
  tangent_of_segment E compression (pos B) (negsuc m) h' Compression refl,
)

pub yield_within : {yield A : ℕ} → yield ≤ A → whole (pos yield) ≤F whole (pos A)
yield_within {yield} {A} h = (is_le (is_whole_one (pos yield)) (is_whole_one (pos A))).1 (omega arith)

past_whole : (yield : ℕ) (z : ℤ) → PastYield yield z → whole (pos yield) ≤F whole z
past_whole yield (pos A) h = yield_within h.past
past_whole yield (negsuc n) h = absurd (true≢false h.not_negative)

module _ (h : Sheet) (sound : SheetSound h) where
  abbrev E : ℕ
  E = h.modulus.0

  -- What an outcome has to be under a law: the rounding of each candidate that meets the conditions, yielded where p grows in it; its branch
  -- follows from whether it yielded, and tells it; and its tangent.
  abbrev Left : Law → (trial first second : ℤ) → Outcome → Type 0
  Left law trial first second o =
      ((x : Candidate) → Meets h sound law trial first second x
      → RoundsUnder h sound law trial first second x o × ((o.yielded ≡ true) ↔ Grows x))
      × ((o.yielded ≡ true) ↔ Passes h sound law (whole trial) (whole first) (whole second)
      → ((o.branch ≡ Tension) ↔ PassesTension h sound law (whole trial) (whole first) (whole second))
      × ((o.branch ≡ Compression) ↔ PassesCompression h sound law (whole trial) (whole first) (whole second)))
      × (o.yielded ≡ yielded_by o.branch)
      × (o.branch ≡ Elastic → o.tangent ≡ h.modulus.0) × (o.branch ≡ Tension → TangentTension h law o)
      × (o.branch ≡ Compression → TangentCompression h law o)

  -- Laws 0 and 1.
  isotropic_left : (trial : ℤ) (A : ℕ) (second : ℤ) → h.tension.yield_stress.0 ≤ A
      → Left IsotropicLine trial (pos A) second (in_first (isotropic_moved E (curve_of h.tension) (pos A) trial) second)
  unfolding isotropic_moved curve_of
  isotropic_left trial A second past =
      let curve = curve_of h.tension in
      let hardens = tension_hardens h sound in
      let high = limit_positive hardens (yield_within past) in (
        λ x (m, g, e).
            let (rounded, yields) = isotropic_rounded hardens (curve_rounded sound.modulus_least curve) A (yield_within past) trial m in
            ((rounded, refl), Iff.trans yields (difference_positive g)),
        branch_passes high high trial (≈F-refl (whole trial)) (isotropic_stored (limit_at E curve) trial A).yielded,
        branch_marks (isotropic_stored (limit_at E curve) trial A).yielded trial,
        tangent_still E curve (pos A) trial,
        tangent_of_segment E curve (pos A) trial past Tension refl,
        tangent_of_segment E curve (pos A) trial past Compression refl,
      )

  -- Law 2.
  kinematic_left : (trial X second : ℤ)
      → Left Kinematic trial X second (in_first (kinematic_moved E (tangent_of h.tension 0) h.tension.yield_stress.0 X trial) second)
  unfolding kinematic_moved
  kinematic_left trial X second =
      let yielded = (kinematic_stored E (tangent_of h.tension 0) h.tension.yield_stress.0 trial X).yielded in
      let positive = radius_positive h sound in (
        λ x (m, e).
            let (rounded, yields) = kinematic_rounded sound.modulus_least (omega (arith, sound.tension.yield_least)) trial X m in
            ((rounded, refl), yields),
        branch_passes positive positive (trial -ℤ X) (whole_sub trial X) yielded,
        branch_marks yielded (trial -ℤ X),
        λ e. rw (branch_is yielded (trial -ℤ X) Elastic e),
        λ e. rw (branch_is yielded (trial -ℤ X) Tension e),
        λ e. rw (branch_is yielded (trial -ℤ X) Compression e),
      )

  -- Law 3.
  asymmetric_left : h.law ≡ Asymmetric → (trial : ℤ) (A B : ℕ) → h.tension.yield_stress.0 ≤ A → h.compression.yield_stress.0 ≤ B
      → Left Asymmetric trial (pos A) (pos B) (asymmetric_outcome E (curve_of h.tension) (curve_of h.compression) (pos A) (pos B) trial)
  unfolding curve_of
  asymmetric_left is trial A B past past' =
      let tension = curve_of h.tension in
      let compression = curve_of h.compression in
      let hardens = tension_hardens h sound in
      let hardens' = compression_hardens h sound is in
      let p = yield_within past in
      let p' = yield_within past' in
      let same = asymmetric_as_stored E tension compression A B trial in
      let (still, up, down) = asymmetric_tangents E tension compression A B trial past past' in (
        λ x (m, g).
            let (rounded, yields) = asymmetric_rounded hardens hardens' (curve_rounded sound.modulus_least tension)
            (curve_rounded sound.modulus_least compression) A B p p' trial m in
            rw (same.yielded, same.stress, same.first, same.second) (rounded, Iff.trans yields (sides_grow m g)),
        rw (same.yielded, same.branch)
            (branch_passes (limit_positive hardens p) (limit_positive hardens' p') trial (≈F-refl (whole trial))
            (asymmetric_stored (limit_at E tension) (limit_at E compression) trial A B).yielded),
        rw (same.yielded, same.branch) (branch_marks (asymmetric_stored (limit_at E tension) (limit_at E compression) trial A B).yielded trial),
        still,
        up,
        down,
      )

  left_under : (law : Law) → h.law ≡ law → (trial first second : ℤ) → AbscissasPast law h first second
      → Left law trial first second (outcome_under law h first second trial)
  unfolding outcome_under
  left_under IsotropicLine is trial (pos A) second p = isotropic_left trial A second p.past
  left_under IsotropicLine is trial (negsuc n) second p = absurd (true≢false p.not_negative)
  left_under IsotropicCurve is trial (pos A) second p = isotropic_left trial A second p.past
  left_under IsotropicCurve is trial (negsuc n) second p = absurd (true≢false p.not_negative)
  left_under Kinematic is trial X second p = kinematic_left trial X second
  left_under Asymmetric is trial (pos A) (pos B) p = asymmetric_left is trial A B p.0.past p.1.past
  left_under Asymmetric is trial (pos A) (negsuc n) p = absurd (true≢false p.1.not_negative)
  left_under Asymmetric is trial (negsuc n) second p = absurd (true≢false p.0.not_negative)

  -- The rounding of a candidate is one stress and two variables.
  rounds_same : (law : Law) (trial first second : ℤ) (x : Candidate) (o o' : Outcome) → RoundsUnder h sound law trial first second x o
      → RoundsUnder h sound law trial first second x o' → (o.stress ≡ o'.stress) × (o.first ≡ o'.first) × (o.second ≡ o'.second)
  rounds_same IsotropicLine trial A second x o o' (r, e) (r', e') =
      let (stress, first) = isotropic_rounded_unique r r' in (stress, first, e ∙ sym e')
  rounds_same IsotropicCurve trial A second x o o' (r, e) (r', e') =
      let (stress, first) = isotropic_rounded_unique r r' in (stress, first, e ∙ sym e')
  rounds_same Kinematic trial X second x o o' (r, e) (r', e') =
      let (stress, first) = kinematic_rounded_unique r r' in (stress, first, e ∙ sym e')
  rounds_same Asymmetric trial A B x o o' r r' = asymmetric_rounded_unique r r'

  past_under : (law : Law) (first second : ℤ) → AbscissasPast law h first second → PastUnder h sound law (whole first) (whole second)
  unfolding curve_of
  past_under IsotropicLine A second p = past_whole h.tension.yield_stress.0 A p
  past_under IsotropicCurve A second p = past_whole h.tension.yield_stress.0 A p
  past_under Kinematic X second p = tt
  past_under Asymmetric A B p =
      (past_whole h.tension.yield_stress.0 A p.0, past_whole h.compression.yield_stress.0 B p.1)

  -- Law 2: a flow goes toward the side of the centre on which the trial lies.
  centre_side : (law : Law) → law ≡ Kinematic → (trial X second : ℤ) (o : Outcome) → yielded_by o.branch ≡ true
      → (o.branch ≡ Tension) ↔ PassesTension h sound law (whole trial) (whole X) (whole second)
      → (o.branch ≡ Compression) ↔ PassesCompression h sound law (whole trial) (whole X) (whole second)
      → (b : Branch) → (o.branch ≡ b) ↔ Toward b (whole trial -F whole X)
  centre_side law is trial X second o yielded up down =
      let d = whole trial -F whole X in
      let positive = radius_positive h sound in
      only_way d
      (by_limits d o.branch (rw is at up) (rw is at down) (λ e. e, λ e. e) (above_nought positive)
      (below_nought positive) (λ still. absurd (still yielded)))

  -- Law 3: a side flows exactly where the trial passes its limit.
  sides_flow : (law : Law) → law ≡ Asymmetric → h.law ≡ law → (trial first second : Frac) (x : Candidate) → PastUnder h sound law first second
      → MeetsUnder h sound law trial first second x → let tension = tension_side h sound in let compression = compression_side h sound in
      ((accumulated tension first <F accumulated tension x.first) ↔ PassesTension h sound law trial first second)
      × ((accumulated compression second <F accumulated compression x.second) ↔ PassesCompression h sound law trial first second)
  sides_flow IsotropicLine a is trial A second x past m = absurd (omega (arith, ap number_of a))
  sides_flow IsotropicCurve a is trial A second x past m = absurd (omega (arith, ap number_of a))
  sides_flow Kinematic a is trial X second x past m = absurd (omega (arith, ap number_of a))
  sides_flow Asymmetric a is trial A B x past m =
      asymmetric_grows (tension_hardens h sound) (compression_hardens h sound is) past.0 past.1 m.0

  solved_under : (law : Law) → h.law ≡ law → (trial first second : ℤ) → AbscissasPast law h first second
      → Solved h sound law trial first second (outcome_under law h first second trial)
  solved_under law is trial first second p =
      let past = past_under law first second p in
      let o = outcome_under law h first second trial in
      let solution = solution_under h sound law (whole trial) (whole first) (whole second) in
      let meets = solution_meets h sound law is (whole trial) (whole first) (whole second) past in
      let (left, branches, marked, still, tension, compression) = left_under law is trial first second p in
      let passes = Iff.trans (left solution meets).1 (grows_passes h sound law is (whole trial) (whole first) (whole second) solution past meets) in
      let (up, down) = branches passes in
      record {
        exists = (solution, meets);
        unique = meets_same h sound law is (whole trial) (whole first) (whole second);
        rounded = λ x m. (left x m).0;
        only = λ x m o' r. rounds_same law trial first second x o' o r (left x m).0;
        grows = λ x m. (left x m).1;
        passes = passes;
        branch = λ x m.
            let ways = ways_under h sound law is (whole trial) (whole first) (whole second) x past m in
            let yields = rw marked at (left x m).1 in
            only_way (plastic_change (whole trial) x) (by_limits (plastic_change (whole trial) x) o.branch up down yields ways.up ways.down ways.still);
        marked = marked;
        tension = up;
        compression = down;
        centre_side = λ kinematic yielded. centre_side law kinematic trial first second o (sym marked ∙ yielded) up down;
        tension_flowed = λ asymmetric x m. Iff.trans up (Iff.symm (sides_flow law asymmetric is (whole trial) (whole first) (whole second) x past m).0);
        compression_flowed = λ asymmetric x m. Iff.trans down (Iff.symm (sides_flow law asymmetric is (whole trial) (whole first) (whole second) x past m).1);
        tangent_still = still;
        tangent_tension = tension;
        tangent_compression = compression;
      }

pub law_solved : (h : Sheet) (sound : SheetSound h) (trial first second : ℤ) → AbscissasPast h.law h first second
    → Solved h sound h.law trial first second (outcome_of h first second trial)
law_solved h sound trial first second past = solved_under h sound h.law refl trial first second past

-- SPEC 6.6: no trial, whole or not, passes both limits.
pub law_one_limit : (h : Sheet) (sound : SheetSound h) (trial : Frac) (first second : ℤ) → AbscissasPast h.law h first second
    → PassesTension h sound h.law trial (whole first) (whole second) → ¬ PassesCompression h sound h.law trial (whole first) (whole second)
law_one_limit h sound trial first second past =
    one_limit h sound h.law refl trial (whole first) (whole second) (past_under h sound h.law first second past)

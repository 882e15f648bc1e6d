-- Law 2 (SPEC 7.1, 7.3): what is stored is the stated rounding of every candidate that meets the conditions.
use mathlib.Core.Path.{◌≡◌, refl}
use mathlib.Core.Bool.{true, false, false≢true}
use mathlib.Core.Logic.Iff
use mathlib.Core.Logic.{◌↔◌, ⊎_elim}
use Prim.Native.Nat.{ℕ, ◌-◌, ◌*◌, ◌/◌, ◌≤◌, ◌<◌}
use borrow.Author.Tests.{leb-true, leb-false}
use native.Mathlib.Omega.{arith}
use lib.Dec.{leb, lt→ltb}
use lib.IntN.{ℤ, pos, nat_abs, ◌+ℤ◌, ◌-ℤ◌}
use lib.Signed.{lt_z_yes}
use Rattle.fractions.specs.Fraction.{Frac, ◌≤F◌, ◌<F◌, ◌≈F◌, whole, ◌+F◌, ◌-F◌, abs_f, signed, signed_f, times_f}
use Rattle.fractions.proofs.Common.{is_same, is_whole_one, is_sub, is_le, is_lt, is_eq}
use Rattle.fractions.proofs.Comparison.{≤F-trans, ≤F-of-≈F, ≤F-of-not-<F, ≈F-sym, ≈F-trans, ≈F-refl, <F-not-≤F, whole_lt, ≤F-or-<F, whole_eq}
use Rattle.fractions.proofs.Arithmetic.{sub_same, abs_same, add_then_sub, times_same, times_not_negative, whole_abs, whole_sub}
use Rattle.fractions.proofs.Cases.{cond_cases}
use Rattle.fractions.proofs.Rounded.{floor_same, floor_times, floor_unique}
use Rattle.fractions.proofs.Signs.{abs_signed}
use Rattle.flow.specs.Conditions.{Kinematic}
use Rattle.flow.specs.Rounded.{KinematicRounded}
use Rattle.flow.specs.Stored.{KinematicStored, kinematic_stored}
use Rattle.flow.proofs.Kinematic.{kinematic_grows, kinematic_unique, kinematic_rests, kinematic_flows}

module _ {E tangent : ℕ} {below : tangent < E} (E_pos : 0 < E) {yield : ℕ} (yield_pos : 0 < yield) (trial X : ℤ) {q X' growth : Frac}
    (s : Kinematic E tangent below (whole (pos yield)) (whole trial) (whole X) q X' growth) where
  positive : whole (pos 0) <F whole (pos yield)
  positive = (whole_lt (pos 0) (pos yield)).1 (lt_z_yes (lt→ltb 0 yield yield_pos))

  distance : abs_f (whole trial -F whole X) ≈F whole (pos (nat_abs (trial -ℤ X)))
  distance = rw whole_abs at (abs_same (whole_sub trial X))

  passes : (whole (pos yield) <F abs_f (whole trial -F whole X)) ↔ (yield < nat_abs (trial -ℤ X))
  passes =
      let i = is_same (≈F-sym distance) (is_whole_one (pos (nat_abs (trial -ℤ X)))) in
      (λ l. omega (arith, (is_lt (is_whole_one (pos yield)) i).0 l), λ l. (is_lt (is_whole_one (pos yield)) i).1 (omega arith))

  -- Past the radius the centre moves by the excess times tangent / E.
  centre_moves : yield < nat_abs (trial -ℤ X) → abs_f (X' -F whole X) ≈F times_f (whole (pos (nat_abs (trial -ℤ X) - yield))) tangent E E_pos
  centre_moves l =
      ≈F-trans (abs_same (≈F-trans (sub_same flowed_centre (≈F-refl (whole X))) (add_then_sub (whole X) (signed_f v (times_f e tangent E E_pos)))))
      (≈F-trans (abs_signed v (times_not_negative e tangent E E_pos (≤F-trans zero (≤F-of-≈F (≈F-sym excess))))) (times_same tangent E E_pos excess))
    where
      v : Frac
      v = whole trial -F whole X

      e : Frac
      e = abs_f v -F whole (pos yield)

      flowed_centre : X' ≈F (whole X +F signed_f v (times_f e tangent E E_pos))
      flowed_centre = (kinematic_unique positive s (kinematic_flows positive E_pos (passes.1 l))).1

      excess : e ≈F whole (pos (nat_abs (trial -ℤ X) - yield))
      excess = (is_eq (is_sub (is_same (≈F-sym distance) (is_whole_one (pos (nat_abs (trial -ℤ X))))) (is_whole_one (pos yield)))
          (is_whole_one (pos (nat_abs (trial -ℤ X) - yield)))).1 (omega arith)

      zero : whole (pos 0) ≤F whole (pos (nat_abs (trial -ℤ X) - yield))
      zero = (is_le (is_whole_one (pos 0)) (is_whole_one (pos (nat_abs (trial -ℤ X) - yield)))).1 (omega arith)

  pub kinematic_rounded : let stored = kinematic_stored E tangent yield trial X in
      KinematicRounded yield trial X q X' growth stored.stress stored.centre × ((stored.yielded ≡ true) ↔ (whole (pos 0) <F growth))
  unfolding kinematic_stored
  kinematic_rounded =
      cond_cases rounded (leb (nat_abs (trial -ℤ X)) yield) _ _
      (λ t. rested (leb-true (nat_abs (trial -ℤ X)) yield t)) (λ t. flowed_past (leb-false (nat_abs (trial -ℤ X)) yield t))
    where
      rounded : KinematicStored → Type 0
      rounded m = KinematicRounded yield trial X q X' growth m.stress m.centre × ((m.yielded ≡ true) ↔ (whole (pos 0) <F growth))

      grows : (whole (pos 0) <F growth) ↔ (yield < nat_abs (trial -ℤ X))
      grows = Iff.trans (kinematic_grows positive s) passes

      rested : nat_abs (trial -ℤ X) ≤ yield → rounded (record { yielded = false; stress = trial; centre = X })
      rested l =
          let stays : ¬ (whole (pos 0) <F growth) = λ g. omega (arith, grows.0 g) in
          let (stress, centre, _) = kinematic_unique positive s (kinematic_rests positive (≤F-of-not-<F (λ g. omega (arith, passes.0 g)))) in
          (record { grown = λ g. absurd (stays g); still = λ g. (centre, stress) }, (λ t. absurd (false≢true t), λ g. absurd (stays g)))

      flowed_past : yield < nat_abs (trial -ℤ X)
          → let v = trial -ℤ X in
          let stored = X +ℤ signed v (pos ((nat_abs v - yield) * tangent / E)) in
          rounded (record { yielded = true; stress = stored +ℤ signed v (pos yield); centre = stored })
      flowed_past l =
          let move = (nat_abs (trial -ℤ X) - yield) * tangent / E in
          let floor = floor_same (pos move) (≈F-sym (centre_moves l)) (floor_times (nat_abs (trial -ℤ X) - yield) tangent E E_pos) in
          (record { grown = λ g. (move, floor, refl, refl); still = λ g. absurd (<F-not-≤F (grows.1 l) g) }, (λ t. grows.1 l, λ g. refl))

-- The rounding of a candidate is one stress and one centre.
pub kinematic_rounded_unique : {yield : ℕ} {trial X : ℤ} {q X' growth : Frac} {r r' c c' : ℤ}
    → KinematicRounded yield trial X q X' growth r c → KinematicRounded yield trial X q X' growth r' c' → (r ≡ r') × (c ≡ c')
kinematic_rounded_unique {yield} {trial} {X} {q} {X'} {growth} {r} {r'} {c} {c'} s s' = ⊎_elim still grown (≤F-or-<F growth (whole (pos 0)))
  where
    still : growth ≤F whole (pos 0) → (r ≡ r') × (c ≡ c')
    still l = let (x, t) = s.still l in let (x', t') = s'.still l in
        (whole_eq r r' (≈F-trans (≈F-sym t) t'), whole_eq c c' (≈F-trans (≈F-sym x) x'))

    grown : whole (pos 0) <F growth → (r ≡ r') × (c ≡ c')
    grown l = let (m, f, e, t) = s.grown l in let (m', f', e', t') = s'.grown l in
        let same : pos m ≡ pos m' = floor_unique (pos m) (pos m') (≈F-refl (abs_f (X' -F whole X))) f f' in
        (cc, cc)

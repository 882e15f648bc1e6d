-- Laws 0 and 1 (SPEC 7.1, 7.2): what is stored is the stated rounding of every candidate that meets the conditions.
use mathlib.Core.Path.{◌≡◌, refl, sym, ap, ◌∙◌}
use mathlib.Core.Bool.{true}
use mathlib.Core.Logic.{◌↔◌, ⊎_elim}
use Prim.Native.Nat.{ℕ}
use lib.IntN.{ℤ, pos, nat_abs}
use Rattle.fractions.specs.Fraction.{Frac, ◌≤F◌, ◌<F◌, whole, abs_f, signed}
use Rattle.fractions.proofs.Comparison.{≈F-trans, ≈F-refl, ≤F-or-<F, ≈F-sym, whole_eq}
use Rattle.fractions.proofs.Arithmetic.{signed_same, whole_abs, whole_signed}
use Rattle.flow.specs.Side.{Side, accumulated, Hardens}
use Rattle.flow.specs.Conditions.{Isotropic}
use Rattle.flow.specs.Rounded.{LimitRounded, IsotropicRounded}
use Rattle.flow.specs.Stored.{side_stored, isotropic_stored}
use Rattle.flow.proofs.Isotropic.{magnitudes_balance, sign_of_trial}
use Rattle.flow.proofs.SideRounding.{SideRounded, side_rounded, abscissa_unique, limit_unique}

pub isotropic_rounded : {side : Side} → Hardens side → {limit : ℕ → ℕ} → ((a : ℕ) → LimitRounded side (pos a) (limit a)) → (A : ℕ)
    → side.yield ≤F whole (pos A)
    → (trial : ℤ) {q B : Frac} → Isotropic side (whole trial) (whole (pos A)) q B
    → let stored = isotropic_stored limit trial A in
    IsotropicRounded side trial (whole (pos A)) q B stored.stress (pos stored.abscissa) ×
    ((stored.yielded ≡ true) ↔ (accumulated side (whole (pos A)) <F accumulated side B))
unfolding isotropic_stored
isotropic_rounded {side} curve {limit} floor A p trial {q} {B} s = (
  record {
    abscissa = r.abscissa;
    grown = λ g. ((side_stored limit (nat_abs trial) A).magnitude, r.grown g, refl);
    still = λ g. ≈F-trans (sign_of_trial s)
        (rw (← whole_signed trial (pos (side_stored limit (nat_abs trial) A).magnitude)) (signed_same (≈F-refl (whole trial)) (r.still g)));
  },
  r.yields,
)
  where
    r : SideRounded side A (abs_f q) B (side_stored limit (nat_abs trial) A)
    r = side_rounded curve floor p (nat_abs trial) s.side_holds (rw whole_abs at (magnitudes_balance s))

-- The rounding of a candidate is one stress and one abscissa.
pub isotropic_rounded_unique : {side : Side} {trial : ℤ} {A q B : Frac} {r r' a a' : ℤ}
    → IsotropicRounded side trial A q B r a → IsotropicRounded side trial A q B r' a' → (r ≡ r') × (a ≡ a')
isotropic_rounded_unique {side} {trial} {A} {q} {B} {r} {r'} {a} {a'} s s' =
    (⊎_elim still grown (≤F-or-<F (accumulated side B) (accumulated side A)), same)
  where
    same : a ≡ a'
    same = abscissa_unique s.abscissa s'.abscissa

    still : accumulated side B ≤F accumulated side A → r ≡ r'
    still l = whole_eq r r' (≈F-trans (≈F-sym (s.still l)) (s'.still l))

    grown : accumulated side A <F accumulated side B → r ≡ r'
    grown l = let (R, f, e) = s.grown l in let (R', f', e') = s'.grown l in
        e ∙ ap (λ (n : ℕ). signed trial (pos n)) (limit_unique f (rw (← same) at f')) ∙ sym e'

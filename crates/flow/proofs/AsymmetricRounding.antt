-- Law 3 (SPEC 7.1, 7.4): what is stored is the stated rounding of every candidate that meets the conditions.
use mathlib.Core.Path.{◌≡◌, refl, sym, ap, ◌∙◌}
use mathlib.Core.List.{[], ◌∷◌}
use mathlib.Core.Bool.{true}
use mathlib.Core.Logic.{◌⊎◌, inl, inr, ⊎_elim, ◌↔◌}
use Prim.Native.Nat.{ℕ, suc}
use native.Mathlib.Omega.{arith}
use lib.IntN.{ℤ, pos, negsuc, neg_ℤ}
use Rattle.fractions.specs.Fraction.{Frac, ◌≤F◌, ◌<F◌, whole}
use Rattle.fractions.proofs.Common.{is_whole, is_negated, is_lt, at-common}
use Rattle.fractions.proofs.Comparison.{≤F-antisym, ≈F-trans, ≤F-or-<F, ≈F-sym, whole_eq}
use Rattle.fractions.proofs.Arithmetic.{neg_same, whole_neg}
use Rattle.flow.specs.Side.{Side, accumulated, Hardens}
use Rattle.flow.specs.Conditions.{Asymmetric}
use Rattle.flow.specs.Rounded.{AbscissaRounded, LimitRounded, AsymmetricRounded}
use Rattle.flow.specs.Stored.{side_stored, asymmetric_stored}
use Rattle.flow.proofs.OneSide.{accumulated_injective, limit_positive}
use Rattle.flow.proofs.Asymmetric.{mirrored, negated_twice, asymmetric_grows, tension_alone}
use Rattle.flow.proofs.SideRounding.{SideRounded, side_rounded, abscissa_unique, limit_unique}

-- A trial that is not negative leaves compression as it was, and tension rounds it.
tension_rounded : {tension compression : Side} → Hardens tension → Hardens compression → {limit : ℕ → ℕ}
    → ((a : ℕ) → LimitRounded tension (pos a) (limit a)) → (A B m : ℕ) → tension.yield ≤F whole (pos A) → compression.yield ≤F whole (pos B)
    → {q A' B' : Frac} → Asymmetric tension compression (whole (pos m)) (whole (pos A)) (whole (pos B)) q A' B'
    → SideRounded tension A q A' (side_stored limit m A) × AbscissaRounded compression (whole (pos B)) B' (pos B)
    × ¬ (accumulated compression (whole (pos B)) <F accumulated compression B')
tension_rounded {tension} {compression} curve curve' floor A B m p p' {q} {A'} {B'} s = (
  side_rounded curve floor p m s.tension_holds (tension_alone curve curve' s stays),
  record {
    grown = λ g. absurd (stays g);
    still = λ g. accumulated_injective curve' s.compression_holds.past p' (≤F-antisym g s.compression_holds.keeps);
  },
  stays,
)
  where
    stays : ¬ (accumulated compression (whole (pos B)) <F accumulated compression B')
    stays g =
        at-common (whole (pos m) ∷ compression.limit (whole (pos B)) ∷ [])
        (λ d ((_, _, t), ((_, _, r), _)).
        omega (
          arith,
          (is_lt r (is_negated (is_whole (pos m) t.some))).0 ((asymmetric_grows curve curve' p p' s).1.0 g),
          (is_lt (is_whole (pos 0) t.some) r).0 (limit_positive curve' p'),
        ))

pub asymmetric_rounded : {tension compression : Side} → Hardens tension → Hardens compression → {limit_t limit_c : ℕ → ℕ}
    → ((a : ℕ) → LimitRounded tension (pos a) (limit_t a)) → ((a : ℕ) → LimitRounded compression (pos a) (limit_c a)) → (A B : ℕ)
    → tension.yield ≤F whole (pos A) → compression.yield ≤F whole (pos B) → (trial : ℤ) {q A' B' : Frac}
    → Asymmetric tension compression (whole trial) (whole (pos A)) (whole (pos B)) q A' B'
    → let stored = asymmetric_stored limit_t limit_c trial A B in
    AsymmetricRounded tension compression (whole (pos A)) (whole (pos B)) q A' B' stored.stress (pos stored.tension) (pos stored.compression)
    × ((stored.yielded ≡ true)
    ↔ ((accumulated tension (whole (pos A)) <F accumulated tension A') ⊎ (accumulated compression (whole (pos B)) <F accumulated compression B')))
unfolding asymmetric_stored
asymmetric_rounded curve curve' {limit_t} {limit_c} floor_t floor_c A B p p' (pos m) {q} s =
    let (r, kept, stays) = tension_rounded curve curve' floor_t A B m p p' s in (
      record {
        tension_abscissa = r.abscissa;
        compression_abscissa = kept;
        tension_grown = λ g. ((side_stored limit_t m A).magnitude, r.grown g, refl);
        compression_grown = λ g. absurd (stays g);
        still = λ g g'. r.still g;
      },
      (λ y. inl (r.yields.0 y), ⊎_elim r.yields.1 (λ g. absurd (stays g))),
    )
asymmetric_rounded curve curve' {limit_t} {limit_c} floor_t floor_c A B p p' (negsuc n) {q} s =
    let (r, kept, stays) = tension_rounded curve' curve floor_c B A (suc n) p' p (rw whole_neg at (mirrored s)) in (
      record {
        tension_abscissa = kept;
        compression_abscissa = r.abscissa;
        tension_grown = λ g. absurd (stays g);
        compression_grown = λ g. ((side_stored limit_c (suc n) B).magnitude, r.grown g, refl);
        still = λ g g'. ≈F-trans (negated_twice q) (rw (← whole_neg (pos (side_stored limit_c (suc n) B).magnitude)) (neg_same (r.still g')));
      },
      (λ y. inr (r.yields.0 y), ⊎_elim (λ g. absurd (stays g)) r.yields.1),
    )

-- The rounding of a candidate is one stress and one abscissa on each side.
pub asymmetric_rounded_unique : {tension compression : Side} {A B q A' B' : Frac} {r r' a a' b b' : ℤ}
    → AsymmetricRounded tension compression A B q A' B' r a b → AsymmetricRounded tension compression A B q A' B' r' a' b'
    → (r ≡ r') × (a ≡ a') × (b ≡ b')
asymmetric_rounded_unique {tension} {compression} {A} {B} {q} {A'} {B'} {r} {r'} {a} {a'} {b} {b'} s s' = (
  ⊎_elim (λ l. ⊎_elim (still l) compression_grown (≤F-or-<F (accumulated compression B') (accumulated compression B))) tension_grown
      (≤F-or-<F (accumulated tension A') (accumulated tension A)),
  same,
  same',
)
  where
    same : a ≡ a'
    same = abscissa_unique s.tension_abscissa s'.tension_abscissa

    same' : b ≡ b'
    same' = abscissa_unique s.compression_abscissa s'.compression_abscissa

    still : accumulated tension A' ≤F accumulated tension A → accumulated compression B' ≤F accumulated compression B → r ≡ r'
    still l l' = whole_eq r r' (≈F-trans (≈F-sym (s.still l l')) (s'.still l l'))

    tension_grown : accumulated tension A <F accumulated tension A' → r ≡ r'
    tension_grown l = let (R, f, e) = s.tension_grown l in let (R', f', e') = s'.tension_grown l in
        e ∙ ap pos (limit_unique f (rw (← same) at f')) ∙ sym e'

    compression_grown : accumulated compression B <F accumulated compression B' → r ≡ r'
    compression_grown l = let (R, f, e) = s.compression_grown l in let (R', f', e') = s'.compression_grown l in
        e ∙ ap (λ (n : ℕ). neg_ℤ (pos n)) (limit_unique f (rw (← same') at f')) ∙ sym e'

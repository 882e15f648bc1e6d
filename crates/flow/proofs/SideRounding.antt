-- One side, from a whole abscissa (SPEC 7.2, 7.11): the excess of the trial's magnitude over the limit rounded down decides as the limit
-- itself does, and gives the exact abscissa rounded up.
use mathlib.Core.Path.{◌≡◌, refl}
use mathlib.Core.List.{[], ◌∷◌}
use mathlib.Core.Bool.{true, false, false≢true}
use mathlib.Core.Logic.Iff
use mathlib.Core.Logic.{◌↔◌, ⊎_elim}
use Prim.Native.Nat.{ℕ, ◌+◌, ◌-◌, ◌≤◌, ◌<◌}
use borrow.Author.Tests.{leb-true, leb-false}
use native.Mathlib.Omega.{arith}
use lib.Dec.{leb}
use lib.IntN.{ℤ, pos}
use Rattle.fractions.specs.Fraction.{Frac, ◌≤F◌, ◌<F◌, ◌≈F◌, whole, ◌+F◌, ◌-F◌}
use Rattle.fractions.proofs.Common.{is_whole, is_whole_one, is_add, is_sub, is_le, is_lt, is_eq, at-common}
use Rattle.fractions.proofs.Comparison.{≤F-antisym, ≈F-sym, <F-not-≤F, ≤F-or-<F, ≈F-trans, ≈F-refl, whole_eq}
use Rattle.fractions.proofs.Cases.{cond_cases}
use Rattle.fractions.proofs.Rounded.{floor_passed, excess_ceiling, ceiling_same, floor_unique, ceiling_unique}
use Rattle.flow.specs.Side.{Side, accumulated, Hardens}
use Rattle.flow.specs.Conditions.{OnSide}
use Rattle.flow.specs.Solution.{flowed}
use Rattle.flow.specs.Rounded.{AbscissaRounded, LimitRounded}
use Rattle.flow.specs.Stored.{SideStored, side_stored}
use Rattle.flow.proofs.OneSide.{accumulated_injective, grows_past_limit}

module _ {side : Side} {trial A q B : Frac} (h : OnSide side A q B) (e : trial ≈F (q +F (accumulated side B -F accumulated side A))) where
  -- Where p grew the abscissa is the one of the step,
  pub grown_abscissa : accumulated side A <F accumulated side B → B ≈F flowed side trial A
  grown_abscissa l =
      at-common (trial ∷ A ∷ side.limit A ∷ q ∷ B ∷ side.limit B ∷ [])
      (λ d ((_, _, t), ((_, _, a), ((_, _, r), ((_, _, i), ((_, _, b), ((_, _, s), _)))))).
      (is_eq b (is_add a (is_sub t r))).1 (omega (arith, (is_eq i s).0 (h.at_limit l), (is_eq t (is_add i (is_sub (is_sub b s) (is_sub a r)))).0 e)))

  -- and where it did not nothing moved.
  pub still_stress : accumulated side B ≤F accumulated side A → q ≈F trial
  still_stress l =
      at-common (trial ∷ q ∷ accumulated side A ∷ accumulated side B ∷ [])
      (λ d ((_, _, t), ((_, _, i), ((_, _, a), ((_, _, b), _)))).
      (is_eq i t).1 (omega (arith, (is_le b a).0 l, (is_le a b).0 h.keeps, (is_eq t (is_add i (is_sub b a))).0 e)))

  pub still_abscissa : Hardens side → side.yield ≤F A → accumulated side B ≤F accumulated side A → B ≈F A
  still_abscissa curve p l = accumulated_injective curve h.past p (≤F-antisym l h.keeps)

-- What `side_stored` leaves of a candidate (q, B) on one side.
pub record SideRounded (side : Side) (A : ℕ) (q B : Frac) (stored : SideStored) : Type 0 where
  pub abscissa : AbscissaRounded side (whole (pos A)) B (pos stored.abscissa)
  pub grown : accumulated side (whole (pos A)) <F accumulated side B → LimitRounded side (pos stored.abscissa) stored.magnitude
  pub still : accumulated side B ≤F accumulated side (whole (pos A)) → q ≈F whole (pos stored.magnitude)
  pub yields : (stored.yielded ≡ true) ↔ (accumulated side (whole (pos A)) <F accumulated side B)

-- On one side, from a whole abscissa and a trial of whole magnitude.
module _ {side : Side} (curve : Hardens side) {limit : ℕ → ℕ} (floor : (a : ℕ) → LimitRounded side (pos a) (limit a)) {A : ℕ}
    (p : side.yield ≤F whole (pos A))
    (m : ℕ) {q B : Frac} (h : OnSide side (whole (pos A)) q B)
    (e : whole (pos m) ≈F (q +F (accumulated side B -F accumulated side (whole (pos A))))) where
  -- The limit rounded down decides the same.
  grows_past_floor : (accumulated side (whole (pos A)) <F accumulated side B) ↔ (limit A < m)
  grows_past_floor = Iff.trans (grows_past_limit curve p h e) (floor_passed (floor A).floor m)

  pub side_rounded : SideRounded side A q B (side_stored limit m A)
  unfolding side_stored
  side_rounded =
      cond_cases (SideRounded side A q B) (leb m (limit A)) _ _
      (λ t. rested (leb-true m (limit A) t)) (λ t. flowed_past (leb-false m (limit A) t))
    where
      rested : m ≤ limit A → SideRounded side A q B (record { yielded = false; magnitude = m; abscissa = A })
      rested l =
          let stays : ¬ (accumulated side (whole (pos A)) <F accumulated side B) = λ g. omega (arith, grows_past_floor.0 g) in
          record {
            abscissa = record { grown = λ g. absurd (stays g); still = still_abscissa h e curve p };
            grown = λ g. absurd (stays g);
            still = still_stress h e;
            yields = (λ t. absurd (false≢true t), λ g. absurd (stays g));
          }

      flowed_past : limit A < m
          → let A' = A + (m - limit A) in SideRounded side A q B (record { yielded = true; magnitude = limit A'; abscissa = A' })
      flowed_past l =
          let A' = A + (m - limit A) in
          let grows = grows_past_floor.1 l in
          record {
            abscissa =
                record {
                  grown = λ g. ceiling_same (pos A') (≈F-sym (grown_abscissa h e g)) (excess_ceiling (floor A).floor m A (omega arith));
                  still = λ g. absurd (<F-not-≤F grows g);
                };
            grown = λ g. floor A';
            still = λ g. absurd (<F-not-≤F grows g);
            yields = (λ t. grows, λ g. refl);
          }

-- The roundings leave one number each.
pos_injective : (a b : ℕ) → pos a ≡ pos b → a ≡ b
pos_injective a b e = cc

pub abscissa_unique : {side : Side} {A B : Frac} {a a' : ℤ} → AbscissaRounded side A B a → AbscissaRounded side A B a' → a ≡ a'
abscissa_unique {side} {A} {B} {a} {a'} r r' =
    ⊎_elim (λ l. whole_eq a a' (≈F-trans (≈F-sym (r.still l)) (r'.still l)))
    (λ l. ceiling_unique a a' (≈F-refl B) (r.grown l) (r'.grown l)) (≤F-or-<F (accumulated side B) (accumulated side A))

pub limit_unique : {side : Side} {a : ℤ} {R R' : ℕ} → LimitRounded side a R → LimitRounded side a R' → R ≡ R'
limit_unique {side} {a} {R} {R'} r r' = pos_injective R R'
    (floor_unique (pos R) (pos R') (≈F-refl (side.limit (whole a))) r.floor r'.floor)

-- The limit rounded down grows by no more than the abscissa,
module _ {side : Side} (curve : Hardens side) {limit : ℕ → ℕ} (floor : (a : ℕ) → LimitRounded side (pos a) (limit a)) (A : ℕ)
    (p : side.yield ≤F whole (pos A)) where
  limit_gentle : (n : ℕ) → 0 < n → limit (A + n) ≤ limit A + n
  limit_gentle n some =
      let lower = (floor_passed (floor A).floor (limit A + 1)).1 (omega arith) in
      let upper : side.limit (whole (pos (A + n))) <F whole (pos (limit A + n + 1)) =
      at-common (side.limit (whole (pos A)) ∷ side.limit (whole (pos (A + n))) ∷ [])
      (λ d ((_, _, i), ((_, _, j), _)).
      let a = is_whole (pos A) i.some in
      let b = is_whole (pos (A + n)) i.some in
      let further = (is_lt (is_whole_one (pos A)) (is_whole_one (pos (A + n)))).1 (omega arith) in
      (is_lt j (is_whole (pos (limit A + n + 1)) i.some)).1
      (omega (
        arith,
        (is_lt (is_sub a i) (is_sub b j)).0 (curve.gentle p further),
        (is_lt i (is_whole (pos (limit A + 1)) i.some)).0 lower,
      ))) in
      omega (arith, (floor_passed (floor (A + n)).floor (limit A + n + 1)).0 upper)

  -- so what a side stores isn't above the trial.
  pub stored_within : (m : ℕ) → (side_stored limit m A).magnitude ≤ m
  unfolding side_stored
  stored_within m =
      cond_cases (λ (r : SideStored). r.magnitude ≤ m) (leb m (limit A)) _ _ (λ t. omega arith)
      (λ t. let past = leb-false m (limit A) t in omega (arith, limit_gentle (m - limit A) (omega arith)))

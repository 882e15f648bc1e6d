-- The coefficient is what document 02 says of it (SPEC 5.7, 5.8), and nothing else is: between two neighbours the line through them, rounded
-- down, beyond the ends the end's own. At a point it is that point's own, and it lies between those of two neighbours. Assumes nothing.
use Prim.Native.Nat.{ℕ, ◌<◌, min, max}
use mathlib.Core.Path.{◌≡◌, refl, sym, ap, ◌∙◌}
use mathlib.Core.Bool.{Bool, true, false, cond}
use mathlib.Core.List.{List, [], ◌∷◌, ◌++◌, append_assoc}
use native.Mathlib.Omega.{arith}
use lib.IntN.{ℤ, pos}
use lib.ListN.{length}
use lib.Signed.{le_z, ◌≤ℤ◌, ≤ℤ_refl}
use Rattle.fractions.specs.Rounding.{floor_f}
use Rattle.fractions.proofs.Rounded.{floor_is, floor_only}
use Rattle.expansion.specs.declared.Point.{Point}
use Rattle.expansion.specs.declared.Coefficients.{Coefficients}
use Rattle.expansion.specs.declared.Coefficients.TheVariants.{Single, AtPoints}
use Rattle.expansion.specs.Points.{points_of, single_of, temperatures_rise, Usable}
use Rattle.expansion.specs.Coefficient.{line, behind, coefficient_in, coefficient_of, Interpolates}
use Rattle.expansion.proofs.OrderTests.{test_of_at_most, at_most_of_test, reached_of_not}
use Rattle.expansion.proofs.Line.{ways_between, line_lies}
use Rattle.expansion.proofs.Behind.{rises_first, rises_on, behind_at_point, behind_floor, coefficient_behind}

-- ---- Of points whose temperatures rise

module _ (single : ℕ) (l : List Point) (rises : temperatures_rise l ≡ true) where
  rises_in : (front : List Point) (p : Point) (rest : List Point) → l ≡ front ++ (p ∷ rest) → temperatures_rise (front ++ (p ∷ rest)) ≡ true
  rises_in front p rest is = sym (ap temperatures_rise is) ∙ rises

  from_point : (front : List Point) (p : Point) (rest : List Point) (t : ℤ) → l ≡ front ++ (p ∷ rest) → p.temperature.0 ≤ℤ t → coefficient_in single l t ≡ behind p rest t
  from_point front p rest t is reached =
      ap (λ (l : List Point). coefficient_in single l t) is ∙ coefficient_behind single front p rest t (rises_in front p rest is) (test_of_at_most reached)

  to_next : (front : List Point) (p q : Point) (rest : List Point) (t : ℤ) → l ≡ front ++ (p ∷ (q ∷ rest)) → p.temperature.0 ≤ℤ t → t ≤ℤ q.temperature.0
      → coefficient_in single l t ≡ floor_f (line p q t)
  to_next front p q rest t is from to =
      from_point front p (q ∷ rest) t is from ∙ behind_floor p q rest t (rises_on front p (q ∷ rest) (rises_in front p (q ∷ rest) is)) (test_of_at_most to)

  -- It is what document 02 says.
  pub interpolates : (t : ℤ) → Interpolates single l t (coefficient_in single l t)
  unfolding coefficient_in behind
  interpolates t =
      record {
        none = λ is. ap (λ (l : List Point). coefficient_in single l t) is;
        first = λ p rest is up_to.
            ap (λ (l : List Point). coefficient_in single l t) is
            ∙ ap (λ (b : Bool). cond b (pos p.coefficient.0) (behind p rest t)) (test_of_at_most up_to);
        last = λ front p is reached. from_point front p [] t is reached;
        between = λ front p q rest is from to. rw (to_next front p q rest t is from to) (floor_is (line p q t));
      }

  -- At a point's own temperature it is that point's own.
  pub at_point : (front : List Point) (p : Point) (rest : List Point) → l ≡ front ++ (p ∷ rest) → coefficient_in single l p.temperature.0 ≡ pos p.coefficient.0
  at_point front p rest is =
      from_point front p rest p.temperature.0 is (≤ℤ_refl p.temperature.0) ∙ behind_at_point p rest (rises_on front p rest (rises_in front p rest is))

  -- Between two neighbours, both included, it is at least the lesser and at most the greater of their two.
  pub lies_between : (front : List Point) (p q : Point) (rest : List Point) (t : ℤ) → l ≡ front ++ (p ∷ (q ∷ rest)) → p.temperature.0 ≤ℤ t → t ≤ℤ q.temperature.0
      → (pos (min p.coefficient.0 q.coefficient.0) ≤ℤ coefficient_in single l t) × (coefficient_in single l t ≤ℤ pos (max p.coefficient.0 q.coefficient.0))
  lies_between front p q rest t is from to =
      let rise = rises_first p q rest (rises_on front p (q ∷ rest) (rises_in front p (q ∷ rest) is)) in
      rw (to_next front p q rest t is from to) (line_lies p q t _ _ (ways_between p q t (test_of_at_most from) (test_of_at_most to) rise))

-- ---- Of any points

-- Only one number is what document 02 says.
module _ (single : ℕ) (l : List Point) (t a : ℤ) (i : Interpolates single l t a) where
  only_behind : (front : List Point) (p : Point) (rest : List Point) → l ≡ front ++ (p ∷ rest) → p.temperature.0 ≤ℤ t → a ≡ behind p rest t
  unfolding behind
  only_behind front p [] is reached = i.last front p is reached
  only_behind front p (q ∷ rest) is reached =
      by_test (le_z q.temperature.0 t) refl (only_behind (front ++ (p ∷ [])) q rest (is ∙ sym (append_assoc front (p ∷ []) (q ∷ rest))))
    where
      by_test : (further : Bool) → le_z q.temperature.0 t ≡ further → (q.temperature.0 ≤ℤ t → a ≡ behind q rest t) → a ≡ cond further (behind q rest t) (floor_f (line p q t))
      by_test true e onward = onward (at_most_of_test e)
      by_test false e onward =
          let to = at_most_of_test (reached_of_not q.temperature.0 t e) in
          floor_only a (i.between front p q rest is reached to)

pub interpolates_only : (single : ℕ) (l : List Point) (t a : ℤ) → Interpolates single l t a → a ≡ coefficient_in single l t
unfolding coefficient_in
interpolates_only single [] t a i = i.none refl
interpolates_only single (p ∷ rest) t a i = by_test (le_z t p.temperature.0) refl
  where
    by_test : (up_to : Bool) → le_z t p.temperature.0 ≡ up_to → a ≡ cond up_to (pos p.coefficient.0) (behind p rest t)
    by_test true e = i.first p rest refl (at_most_of_test e)
    by_test false e =
        only_behind single (p ∷ rest) t a i [] p rest refl
        (at_most_of_test (reached_of_not t p.temperature.0 e))

-- Without points it is the single number, at every temperature.
pub without_points : (c : Coefficients) (t : ℤ) → points_of c ≡ [] → coefficient_of c t ≡ pos (single_of c)
unfolding coefficient_in
without_points c t none = ap (λ (l : List Point). coefficient_in (single_of c) l t) none

-- Beside points the single number is not asked,
pub beside_points : (single other : ℕ) (l : List Point) (t : ℤ) → 0 < length l → coefficient_in single l t ≡ coefficient_in other l t
unfolding coefficient_in
beside_points single other [] t some = absurd (omega arith)
beside_points single other (p ∷ rest) t some = refl

-- and the temperatures of what a coefficient is found by rise.
pub usable_rises : (c : Coefficients) → Usable c → temperatures_rise (points_of c) ≡ true
unfolding temperatures_rise
usable_rises (Single a) usable = refl
usable_rises (AtPoints p) usable = (usable.points p refl).rising

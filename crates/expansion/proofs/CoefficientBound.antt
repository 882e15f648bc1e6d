-- The coefficient of points that lie within their ranges is a natural within the range of a coefficient, at every temperature. Assumes
-- nothing.
use Prim.Native.Nat.{ℕ, zero, suc, ◌+◌, ◌*◌, ◌/◌, ◌<◌, ◌≤◌}
use mathlib.Core.Path.{◌≡◌, refl, sym}
use mathlib.Core.Bool.{Bool, true, false, cond}
use mathlib.Core.List.{List, [], ◌∷◌}
use native.Mathlib.Omega.{arith}
use lib.IntN.{ℤ, pos, nat_abs, ◌-ℤ◌}
use lib.ListN.{take, get_or}
use lib.Signed.{le_z}
use Rattle.ranges.specs.Ranges.{most_expansion}
use Rattle.fractions.specs.Rounding.{floor_f}
use Rattle.expansion.specs.declared.Point.{Point}
use Rattle.expansion.specs.declared.Coefficients.{Coefficients}
use Rattle.expansion.specs.declared.Coefficients.TheVariants.{Single, AtPoints}
use Rattle.expansion.specs.Points.{no_place, standing, point_right, Usable}
use Rattle.expansion.specs.Coefficient.{line, behind, coefficient_in, coefficient_of}
use Rattle.expansion.proofs.OrderTests.{below_of_not_at_most, reached_of_not}
use Rattle.expansion.proofs.PointRanges.{coefficient_most}
use Rattle.expansion.proofs.Line.{Between, between_ways, line_floor, line_most}

-- A natural that isn't above the greatest coefficient.
abbrev pub InRange : ℤ → Type 0
InRange z = (n : ℕ) × (z ≡ pos n) × (n ≤ most_expansion)

own_in_range : (p : Point) → point_right p ≡ true → InRange (pos p.coefficient.0)
own_in_range p right = (p.coefficient.0, refl, coefficient_most p right)

line_in_range : {p q : Point} {t : ℤ} → Between p q t → InRange (floor_f (line p q t))
line_in_range {p} {q} {t} b =
    let x = nat_abs (t -ℤ p.temperature.0) in
    let y = nat_abs (q.temperature.0 -ℤ t) in
    let weighted = p.coefficient.0 * y + q.coefficient.0 * x in
    let w = between_ways b in
    (weighted / (x + y), sym (line_floor p q t x y w weighted refl), line_most b x y w.past w.rest weighted refl)

-- Every point of a list lies within its ranges.
abbrev pub AllRight : List Point → Type 0
AllRight [] = Unit {0}
AllRight (p ∷ rest) = (point_right p ≡ true) × AllRight rest

behind_in_range : (p : Point) (l : List Point) (t : ℤ) → point_right p ≡ true → le_z p.temperature.0 t ≡ true → AllRight l → InRange (behind p l t)
unfolding behind
behind_in_range p [] t right reached all = own_in_range p right
behind_in_range p (q ∷ rest) t right reached (right', all) =
    by_test (le_z q.temperature.0 t) refl (λ further. behind_in_range q rest t right' further all)
  where
    by_test : (further : Bool) → le_z q.temperature.0 t ≡ further → (le_z q.temperature.0 t ≡ true → InRange (behind q rest t))
        → InRange (cond further (behind q rest t) (floor_f (line p q t)))
    by_test true e onward = onward e
    by_test false e onward =
        line_in_range (record { from = reached; before = below_of_not_at_most t q.temperature.0 e; right = right; right' = right' })

-- The temperatures of the points need not rise for it.
pub coefficient_in_range : (single : ℕ) (l : List Point) (t : ℤ) → single ≤ most_expansion → AllRight l → InRange (coefficient_in single l t)
unfolding coefficient_in
coefficient_in_range single [] t most all = (single, refl, most)
coefficient_in_range single (p ∷ rest) t most (right, all) = by_test (le_z t p.temperature.0) refl
  where
    by_test : (up_to : Bool) → le_z t p.temperature.0 ≡ up_to → InRange (cond up_to (pos p.coefficient.0) (behind p rest t))
    by_test true e = own_in_range p right
    by_test false e =
        behind_in_range p rest t right (reached_of_not t p.temperature.0 e) all

taken_right : (l : List Point) (n : ℕ) → ((i : ℕ) → i < n → point_right (get_or l i no_place) ≡ true) → AllRight (take n l)
taken_right l zero right = tt
taken_right [] (suc n) right = tt
taken_right (p ∷ l) (suc n) right = (right 0 (omega arith), taken_right l n (λ i h. right (suc i) (omega arith)))

pub coefficient_of_in_range : (c : Coefficients) (t : ℤ) → Usable c → InRange (coefficient_of c t)
coefficient_of_in_range (Single a) t usable = coefficient_in_range a.0 [] t usable.single_most tt
coefficient_of_in_range (AtPoints p) t usable =
    coefficient_in_range 0 (standing p) t usable.single_most (taken_right p.places p.count (usable.points p refl).points_right)

pub coefficient_magnitude : (c : Coefficients) (t : ℤ) → Usable c → nat_abs (coefficient_of c t) ≤ most_expansion
coefficient_magnitude c t usable = let (n, is, most) = coefficient_of_in_range c t usable in rw is most

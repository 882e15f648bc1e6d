-- Points whose temperatures rise: the coefficient from a point on lies behind that point, whatever points come before it. Assumes nothing.
use Prim.Native.Nat.{ℕ}
use mathlib.Core.Path.{◌≡◌, refl, sym, ap, ◌∙◌}
use mathlib.Core.Bool.{Bool, true, false, cond}
use mathlib.Core.List.{List, [], ◌∷◌, ◌++◌}
use native.Mathlib.Omega.{arith}
use lib.IntN.{ℤ, pos}
use lib.Signed.{le_z, lt_z}
use Rattle.std.proofs.lemmas.Int.{ints}
use Rattle.refusals.proofs.FirstLaws.{both_hold}
use Rattle.fractions.specs.Rounding.{floor_f}
use Rattle.expansion.specs.declared.Point.{Point}
use Rattle.expansion.specs.Points.{rises_from, temperatures_rise}
use Rattle.expansion.specs.Coefficient.{line, behind, coefficient_in}
use Rattle.expansion.proofs.Line.{line_at_first, line_at_second}

-- A point further on is warmer, and the temperatures rise from it on.
rises_past : (r : Point) (front : List Point) (p : Point) (rest : List Point) → rises_from r (front ++ (p ∷ rest)) ≡ true
    → (lt_z r.temperature.0 p.temperature.0 ≡ true) × (rises_from p rest ≡ true)
unfolding rises_from
rises_past r [] p rest rises = both_hold (lt_z r.temperature.0 p.temperature.0) (rises_from p rest) rises
rises_past r (f ∷ front) p rest rises =
    let tr = r.temperature.0 in
    let tf = f.temperature.0 in
    let tp = p.temperature.0 in
    let (first, onward) = both_hold (lt_z tr tf) (rises_from f (front ++ (p ∷ rest))) rises in
    let (second, further) = rises_past f front p rest onward in
    (grind (arith, ints), further)

pub rises_first : (p q : Point) (rest : List Point) → rises_from p (q ∷ rest) ≡ true → lt_z p.temperature.0 q.temperature.0 ≡ true
rises_first p q rest rises = (rises_past p [] q rest rises).0

pub rises_on : (front : List Point) (p : Point) (rest : List Point) → temperatures_rise (front ++ (p ∷ rest)) ≡ true → rises_from p rest ≡ true
unfolding temperatures_rise
rises_on [] p rest rises = rises
rises_on (r ∷ front) p rest rises = (rises_past r front p rest rises).1

-- Where a temperature has reached a point, it has passed those before it.
behind_passes : (r : Point) (front : List Point) (p : Point) (rest : List Point) (t : ℤ) → rises_from r (front ++ (p ∷ rest)) ≡ true → le_z p.temperature.0 t ≡ true
    → behind r (front ++ (p ∷ rest)) t ≡ behind p rest t
unfolding behind rises_from
behind_passes r [] p rest t rises reached = ap (λ (b : Bool). cond b (behind p rest t) (floor_f (line r p t))) reached
behind_passes r (f ∷ front) p rest t rises reached =
    let tf = f.temperature.0 in
    let tp = p.temperature.0 in
    let onward = (both_hold (lt_z r.temperature.0 tf) (rises_from f (front ++ (p ∷ rest))) rises).1 in
    let rise = (rises_past f front p rest onward).0 in
    let passed : le_z tf t ≡ true = grind (arith, ints) in
    ap (λ (b : Bool). cond b (behind f (front ++ (p ∷ rest)) t) (floor_f (line r f t))) passed ∙ behind_passes f front p rest t onward reached

-- At a point's own temperature its own coefficient lies behind it.
pub behind_at_point : (p : Point) (rest : List Point) → rises_from p rest ≡ true → behind p rest p.temperature.0 ≡ pos p.coefficient.0
unfolding behind rises_from
behind_at_point p [] rises = refl
behind_at_point p (q ∷ rest) rises =
    let tp = p.temperature.0 in
    let rise = (both_hold (lt_z tp q.temperature.0) (rises_from q rest) rises).0 in
    let before : le_z q.temperature.0 tp ≡ false = grind (arith, ints) in
    ap (λ (b : Bool). cond b (behind q rest tp) (floor_f (line p q tp))) before
    ∙ line_at_first p q rise

-- Up to the next point it is the line, rounded down, at the next point's temperature too.
pub behind_floor : (p q : Point) (rest : List Point) (t : ℤ) → rises_from p (q ∷ rest) ≡ true → le_z t q.temperature.0 ≡ true
    → behind p (q ∷ rest) t ≡ floor_f (line p q t)
unfolding behind rises_from
behind_floor p q rest t rises up_to = by_test (le_z q.temperature.0 t) refl
  where
    by_test : (reached : Bool) → le_z q.temperature.0 t ≡ reached → cond reached (behind q rest t) (floor_f (line p q t)) ≡ floor_f (line p q t)
    by_test true reached =
        let tq = q.temperature.0 in
        let (rise, onward) = both_hold (lt_z p.temperature.0 tq) (rises_from q rest) rises in
        let same : t ≡ tq = grind (arith, ints) in
        rw same (behind_at_point q rest onward ∙ sym (line_at_second p q rise))
    by_test false reached = refl

-- From a point on the coefficient lies behind it.
pub coefficient_behind : (single : ℕ) (front : List Point) (p : Point) (rest : List Point) (t : ℤ) → temperatures_rise (front ++ (p ∷ rest)) ≡ true → le_z p.temperature.0 t ≡ true
    → coefficient_in single (front ++ (p ∷ rest)) t ≡ behind p rest t
unfolding coefficient_in temperatures_rise
coefficient_behind single [] p rest t rises reached = by_test (le_z t p.temperature.0) refl
  where
    by_test : (up_to : Bool) → le_z t p.temperature.0 ≡ up_to → cond up_to (pos p.coefficient.0) (behind p rest t) ≡ behind p rest t
    by_test true up_to =
        let tp = p.temperature.0 in
        let same : t ≡ tp = grind (arith, ints) in
        rw same (sym (behind_at_point p rest rises))
    by_test false up_to = refl
coefficient_behind single (r ∷ front) p rest t rises reached =
    let tr = r.temperature.0 in
    let tp = p.temperature.0 in
    let rise = (rises_past r front p rest rises).0 in
    let past : le_z t tr ≡ false = grind (arith, ints) in
    ap (λ (b : Bool). cond b (pos r.coefficient.0) (behind r (front ++ (p ∷ rest)) t)) past
    ∙ behind_passes r front p rest t rises reached

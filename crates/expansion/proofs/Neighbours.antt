-- Whether the temperatures rise, asked of each point and the next. Assumes nothing.
use Prim.Native.Nat.{ℕ, zero, suc, ◌+◌, ◌<◌}
use mathlib.Core.Path.{◌≡◌, refl, ◌∙◌}
use mathlib.Core.Bool.{Bool, true, false, ◌&&◌}
use mathlib.Core.List.{List, [], ◌∷◌}
use native.Mathlib.Numerals.{add-one}
use native.Mathlib.Omega.{arith}
use lib.ListN.{length, get_or}
use lib.Signed.{lt_z}
use Rattle.std.proofs.Common.{int_cmp, is_lt}
use Rattle.std.proofs.lemmas.Int.{ints}
use Rattle.std.specs.List.{IsAllAdjacentAnswer}
use Rattle.expansion.specs.declared.Point.{Point}
use Rattle.expansion.specs.Points.{no_place, rises_from, temperatures_rise}

abbrev rise : Point → Point → Bool
rise p q = lt_z p.temperature.0 q.temperature.0

all_rise : (p : Point) (l : List Point) → ((k : ℕ) → suc k < length (p ∷ l) → true ≡ rise (get_or (p ∷ l) k no_place) (get_or (p ∷ l) (suc k) no_place))
    → true ≡ rises_from p l
unfolding rises_from
all_rise p [] each = refl
all_rise p (q ∷ l) each = rw (← each 0 (omega arith)) (all_rise q l (λ k h. each (suc k) (omega (arith, h))))

one_falls : (k : ℕ) (p : Point) (l : List Point) → suc k < length (p ∷ l) → false ≡ rise (get_or (p ∷ l) k no_place) (get_or (p ∷ l) (suc k) no_place)
    → false ≡ rises_from p l
unfolding rises_from
one_falls k p [] h falls = absurd (omega arith)
one_falls zero p (q ∷ l) h falls = rw (← falls) refl
one_falls (suc k) p (q ∷ l) h falls = rw (← one_falls k q l (omega arith) falls) (no (rise p q))
  where
    no : (t : Bool) → false ≡ t && false
    no true = refl
    no false = refl

-- What `<` of two points' temperatures answers.
abbrev pub below : Point → Point → Bool
below p q = is_lt (int_cmp p.temperature.0 q.temperature.0)

below_is : (p q : Point) → below p q ≡ rise p q
below_is p q = grind (arith, ints)

pub rise_of_neighbours : (l : List Point) (answer : Bool) → IsAllAdjacentAnswer (λ p q b. b ≡ below p q) l answer → answer ≡ temperatures_rise l
unfolding temperatures_rise
rise_of_neighbours [] true each = refl
rise_of_neighbours [] false (k, h, falls) = absurd (omega arith)
rise_of_neighbours (p ∷ l) true each = all_rise p l (λ k h. rw (← add-one k) (each k no_place (omega (arith, h)) ∙ below_is (get_or (p ∷ l) k no_place) (get_or (p ∷ l) (k + 1) no_place)))
rise_of_neighbours (p ∷ l) false (k, h, falls) = one_falls k p l (omega (arith, h)) (rw (← add-one k) (falls no_place ∙ below_is (get_or (p ∷ l) k no_place) (get_or (p ∷ l) (k + 1) no_place)))

-- Refusal 5 by the tests of the single fields: one that fails gives 5, and where none fails the rod passes. A variable's test goes by the law.
use Prim.Native.Nat.{ℕ, zero, suc}
use mathlib.Core.Path.{◌≡◌, refl}
use mathlib.Core.Bool.{Bool, true, false, ◌&&◌, and-false, true≢false}
use mathlib.Core.List.{List, [], ◌∷◌}
use lib.Dec.{eqb}
use lib.ListN.{get_or}
use Rattle.refusals.specs.Table.{first_of, passes, refused}
use Rattle.ranges.specs.Ranges.{around, temperature_right, most_strain, most_stress}
use Rattle.rod.specs.declared.Rod.{Rod}
use Rattle.rod.specs.Variables.{first_right, second_right}
use Rattle.rod.specs.InRange.{counts_right, rod_in_range}
use Rattle.state.specs.States.{zero_bits, state_of, state_field_refusals}

-- Tests joined from the first on.
abbrev all_of : Bool → List Bool → Bool
all_of t [] = t
all_of t (u ∷ us) = all_of (t && u) us

all_false : (us : List Bool) → all_of false us ≡ false
all_false [] = refl
all_false (u ∷ us) = all_false us

one_false : (t : Bool) (us : List Bool) (k : ℕ) → get_or (t ∷ us) k true ≡ false → all_of t us ≡ false
one_false t us zero e = rw e (all_false us)
one_false t [] (suc k) e = absurd (true≢false e)
one_false t (u ∷ us) (suc zero) e = one_false (t && u) us zero (rw e (and-false t))
one_false t (u ∷ us) (suc (suc k)) e = one_false (t && u) us (suc k) e

abbrev AllTrue : List Bool → Type 0
AllTrue [] = Unit {0}
AllTrue (t ∷ us) = (t ≡ true) × AllTrue us

all_true : (t : Bool) (us : List Bool) → AllTrue (t ∷ us) → all_of t us ≡ true
all_true t [] (e, n) = e
all_true t (u ∷ us) (e, (f, g)) = all_true (t && u) us (rw (e, f), g)

-- The tests of a rod's ranges, and those of a state's fields: the zero bits come first.
abbrev strain_test : Rod → Bool
strain_test r = around most_strain r.strain.0

abbrev other_tests : Rod → List Bool
other_tests r =
    temperature_right r.temperature.0
    ∷ around most_stress r.stress.0
    ∷ first_right r.law r.first.0
    ∷ second_right r.law r.second.0
    ∷ counts_right r.yielded r.pairs r.yielded_pairs
    ∷ []

abbrev pub tests : List ℕ → List Bool
tests s = eqb (zero_bits s) 0 ∷ strain_test (state_of s) ∷ other_tests (state_of s)

in_range_is : (r : Rod) → rod_in_range r ≡ all_of (strain_test r) (other_tests r)
unfolding rod_in_range
in_range_is r = refl

module _ (s : List ℕ) where
  failed : (k : ℕ) → get_or (tests s) k true ≡ false → eqb (zero_bits s) 0 && rod_in_range (state_of s) ≡ false
  failed zero e = rw e
  failed (suc k) e =
      rw (in_range_is (state_of s), one_false (strain_test (state_of s)) (other_tests (state_of s)) k e) (and-false (eqb (zero_bits s) 0))

  pub refused_by : (k : ℕ) → get_or (tests s) k true ≡ false → refused 5 ≡ first_of (state_field_refusals s) (state_of s)
  unfolding first_of state_field_refusals
  refused_by k e = rw (failed k e)

  pub passed_by : AllTrue (tests s) → passes (state_of s) ≡ first_of (state_field_refusals s) (state_of s)
  unfolding first_of state_field_refusals
  passed_by (z, f) = rw (z, in_range_is (state_of s), all_true (strain_test (state_of s)) (other_tests (state_of s)) f)

-- The unused rod of a sheet that passes lies in its ranges.
use Prim.Native.Nat.{ℕ, ◌*◌, ◌≤◌}
use mathlib.Core.Path.{◌≡◌, refl}
use mathlib.Core.Bool.{Bool, true, false, not, ◌||◌, false≢true, cond}
use native.Mathlib.Omega.{arith}
use borrow.Author.Tests.{le-leb}
use lib.IntN.{pos}
use lib.Dec.{leb-zero}
use Rattle.ranges.specs.Ranges.{around, most_stress, most_yield, most_abscissa, grains}
use Rattle.law.specs.declared.Law.{Law}
use Rattle.law.specs.declared.Law.TheVariants.{IsotropicLine, IsotropicCurve, Kinematic, Asymmetric}
use Rattle.sheet.specs.declared.Sheet.{Sheet}
use Rattle.sheet.specs.Sound.{SheetSound}
use Rattle.law.specs.Laws.{first_is_abscissa, has_second}
use Rattle.rod.specs.Variables.{abscissa_right, second_right}
use Rattle.rod.specs.InRange.{rod_in_range}
use Rattle.rod.specs.Unused.{start_of, unused_of}

second_is_asymmetric : (law : Law) → has_second law ≡ true → law ≡ Asymmetric
second_is_asymmetric IsotropicLine e = absurd (false≢true e)
second_is_asymmetric IsotropicCurve e = absurd (false≢true e)
second_is_asymmetric Kinematic e = absurd (false≢true e)
second_is_asymmetric Asymmetric e = refl

-- The compression yield, where the law has a second variable.
pub compression_most : (h : Sheet) → SheetSound h → has_second h.law ≡ true → h.compression.yield_stress.0 ≤ most_yield * grains
compression_most h sound e = (sound.compression (second_is_asymmetric h.law e)).yield_most

abscissa_starts : (y : ℕ) → y ≤ most_yield * grains → abscissa_right (pos y) ≡ true
abscissa_starts y h = simp (leb-zero, le-leb y most_abscissa (omega arith))

first_starts : (t : Bool) (y : ℕ) → y ≤ most_yield * grains → cond t (abscissa_right (start_of t y)) (around most_stress (start_of t y)) ≡ true
first_starts true y h = abscissa_starts y h
first_starts false y h = refl

second_starts : (t : Bool) (y : ℕ) → (t ≡ true → y ≤ most_yield * grains) → not t || abscissa_right (start_of t y) ≡ true
second_starts true y h = abscissa_starts y (h refl)
second_starts false y h = refl

module _ (h : Sheet) (sound : SheetSound h) where
  second : second_right h.law (start_of (has_second h.law) h.compression.yield_stress.0) ≡ true
  second = second_starts (has_second h.law) h.compression.yield_stress.0 (compression_most h sound)

  pub unused_in_range : rod_in_range (unused_of h) ≡ true
  unfolding rod_in_range unused_of
  unused_in_range =
      let first = first_starts (first_is_abscissa h.law) h.tension.yield_stress.0 sound.tension.yield_most in
      rw (sound.reference_right, first, second)

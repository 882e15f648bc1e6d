-- What the laws use of a sheet that passes (SPEC 3.10), cited by response, rod, carry, judge, accuracy and the demands; definitions
-- only, nothing is assumed. proofs/Passed shows it.
use Rattle.std.specs.Prelude.{ℕ, ◌+◌, ◌*◌, ◌≤◌, ◌<◌, ◌≡◌, true, length}
use Rattle.ranges.specs.Ranges.{temperature_right, most_modulus, most_yield, most_length, grains}
use Rattle.law.specs.declared.Law.TheVariants.{Kinematic, Asymmetric}
use Rattle.expansion.specs.Points.{Usable}
use Rattle.curve.specs.declared.Side.{Side}
use Rattle.curve.specs.Sides.{most_segments, length_at}
pub use Rattle.curve.specs.Sides.{tangent_of}
use Rattle.sheet.specs.declared.Sheet.{Sheet}

-- SPEC 3.10: one side, E being Young's modulus.
pub record SideSound (E : ℕ) (side : Side) : Type 0 where
  pub count_least : 1 ≤ side.count
  pub count_most : side.count ≤ most_segments
  pub places : length side.segments ≡ most_segments
  pub yield_least : grains ≤ side.yield_stress.0
  pub yield_most : side.yield_stress.0 ≤ most_yield * grains
  pub tangents_below : (i : ℕ) → i < side.count → tangent_of side i < E
  pub tangents_fall : (i : ℕ) → i + 1 < side.count → tangent_of side (i + 1) ≤ tangent_of side i
  pub lengths_most : (i : ℕ) → i < side.count → length_at side i ≤ most_length

-- SPEC 3.10: the sheet. Law 3 alone has a compression side.
pub record SheetSound (h : Sheet) : Type 0 where
  pub modulus_least : 1 ≤ h.modulus.0
  pub modulus_most : h.modulus.0 ≤ most_modulus
  pub expansion : Usable h.expansion
  pub reference_right : temperature_right h.reference.0 ≡ true
  pub tension : SideSound h.modulus.0 h.tension
  pub compression : h.law ≡ Asymmetric → SideSound h.modulus.0 h.compression
  pub one_segment : h.law ≡ Kinematic → h.tension.count ≡ 1

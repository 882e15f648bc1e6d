-- The walk over the segments of a side: what is true at each segment that it reaches, and what it reads where it stops. Assumes nothing.
use Prim.Native.Nat.{ℕ, ◌+◌, ◌-◌, ◌*◌, ◌/◌, ◌^◌, ◌≤◌, ◌<◌}
use mathlib.Core.Path.{◌≡◌, refl, ◌∙◌}
use mathlib.Core.Logic.{◌⊎◌, inl, inr}
use native.Mathlib.Nat.{add-zero, mul-add-div, mul-div_right, mul-le-mul, mul-le-mul_right, div-le_of_le-mul}
use native.Mathlib.Omega.{arith}
use lib.Dec.{T}
use lib.ListN.{length, take, get_or}
use borrow.Author.Tests.{lt-ltb, le-leb}
use Rattle.units.specs.Kinds.{magnitude}
use Rattle.units.specs.declared.Magnitude.{Magnitude}
use Rattle.units.specs.declared.Modulus.{Modulus}
use Rattle.curve.specs.declared.Side.{Side}
use Rattle.curve.specs.declared.Reading.{Reading}
use Rattle.curve.specs.Curve.{height, limit_at}
use Rattle.curve.specs.Tangent.{holds, tangent_at}
use Rattle.curve.specs.Sides.{segments_of, curve_of, reading_of, flat, Readable, length_at, tangent_of}
use Rattle.curve.specs.Carried.{span_at, Carries}
use Rattle.curve.proofs.Height.{height_below_yield}
use Rattle.curve.proofs.Tangents.{tangent_below, tangent_of_holder, held_up_to}
use Rattle.curve.proofs.Spans.{span_first, span_next, span_end, span_endless, span_tangent, span_member}
use Rattle.curve.proofs.Carried.{carries_sum, sum_over_segment, carried_first, carried_next}

abbrev pub yield_of : Side → ℕ
yield_of side = side.yield_stress.0

-- Segment i of `side` is reached on the way to the abscissa a: `carried` is the rise up to its start, and `past` lies beyond it.
pub record Reached (e : Modulus) (side : Side) (a carried past i : ℕ) : Type 0 where
  pub readable : Readable side e
  pub array : length side.segments ≡ 7
  pub word : a < 2 ^ 64
  pub index : i < side.count
  -- SPEC 4.11: what is carried is T at the segment's start less the yield
  pub carries : (some : 0 < e.0) → Carries e.0 some (curve_of side) i carried
  pub lies : (span_at e.0 (curve_of side) i).start + past ≡ a
  pub room : yield_of side + carried + past ≤ a

pub begun : (e : Modulus) (side : Side) (a : ℕ) → Readable side e → length side.segments ≡ 7 → a < 2 ^ 64 → yield_of side ≤ a → Reached e side a 0 (a - yield_of side) 0
unfolding curve_of
begun e side a readable array word from-yield =
    record {
      readable = readable;
      array = array;
      word = word;
      index = readable.count_positive;
      carries = λ some. carried_first e.0 some (curve_of side);
      lies = omega (arith, span_first e.0 (curve_of side));
      room = omega arith;
    }

module _ {e : Modulus} {side : Side} {a carried past i : ℕ} (r : Reached e side a carried past i) where
  fits : side.count ≤ length side.segments
  fits = omega (arith, r.array, r.readable.count_fits)

  -- both products of a segment fit 64 bits, by that of E
  pub span_fits : e.0 * length_at side i < 2 ^ 64
  span_fits =
      omega (arith, mul-le-mul {n₁ = e.0} {m₁ = length_at side i} {n₂ = 4294967296} {m₂ = 4294967295} r.readable.modulus_fits (omega (arith, r.readable.lengths_fit i r.index)))

  pub rise_at_most_span : tangent_of side i * length_at side i ≤ e.0 * length_at side i
  rise_at_most_span = mul-le-mul_right (length_at side i) (r.readable.tangents_fit i r.index)

  -- the segment ends before the abscissa, or where it is: the next one is reached
  pub onward : {carried' past' : ℕ} → i + 1 < side.count → e.0 * length_at side i ≤ past → carried' ≡ carried + tangent_of side i * length_at side i → past' ≡ past - e.0 * length_at side i
      → Reached e side a carried' past' (i + 1)
  onward h ends carried-is past_is =
      record {
        readable = r.readable;
        array = r.array;
        word = r.word;
        index = h;
        carries = λ some. rw carried-is (carried_next e.0 some side fits i carried h (r.carries some));
        lies = omega (arith, r.lies, span_next e.0 side fits i h);
        room = omega (arith, r.room, rise_at_most_span);
      }

  -- Where the walk stops: in the last segment, or in one that ends beyond the abscissa.
  abbrev pub Stops : Type 0
  Stops = (i + 1 ≡ side.count) ⊎ ((i + 1 < side.count) × (past < e.0 * length_at side i))

  holds_abscissa : Stops → T (holds (span_at e.0 (curve_of side) i) a)
  holds_abscissa (inl ends) = rw (le-leb (span_at e.0 (curve_of side) i).start a (omega (arith, r.lies)), span_endless e.0 side fits i ends) tt
  holds_abscissa (inr (goes_on, before)) =
      rw (le-leb (span_at e.0 (curve_of side) i).start a (omega (arith, r.lies)), span_end e.0 side fits i goes_on)
      (rw (lt-ltb a (span_at e.0 (curve_of side) (i + 1)).start (omega (arith, r.lies, span_next e.0 side fits i goes_on))) tt)

  -- There the sum of SPEC 4.4 is what is carried and what the segment adds,
  sum_at : Stops → height e.0 e.0 (curve_of side).yield (curve_of side).segments a ≡ e.0 * (yield_of side + carried) + past * tangent_of side i
  unfolding curve_of
  sum_at stops =
      let gap : a - (span_at e.0 (curve_of side) i).start ≡ past = omega (arith, r.lies) in
      let some = r.readable.modulus_positive in
      let over = sum_over_segment e.0 side fits i a r.index (omega (arith, r.lies)) (held_up_to (span_at e.0 (curve_of side) i) a (holds_abscissa stops)) in
      rw (over, (carries_sum e.0 some (curve_of side) i carried).0 (r.carries some), gap) (omega arith)

  -- and the tangent is the segment's.
  tangent_is : Stops → tangent_at e.0 (curve_of side) a ≡ tangent_of side i
  unfolding tangent_at
  tangent_is stops =
      tangent_of_holder e.0 a (curve_of side).yield (curve_of side).segments (span_at e.0 (curve_of side) i) (span_member e.0 side fits i r.index) (holds_abscissa stops)
      ∙ span_tangent e.0 side fits i r.index

  -- What is read there is what the side says at the abscissa.
  pub stop : Stops → (reading : Reading) → reading ≡ record { limit = magnitude (yield_of side + carried + past * tangent_of side i / e.0); tangent = (get_or side.segments i flat).tangent }
      → (abscissa : Magnitude) → abscissa.0 ≡ a → (reading ≡ reading_of side e abscissa) × (reading.limit.0 ≤ abscissa.0)
  unfolding reading_of limit_at tangent_at
  stop stops reading is abscissa same =
      let share : past * tangent_of side i / e.0 ≤ past = div-le_of_le-mul e.0 (omega (arith, mul-le-mul_right past (r.readable.tangents_fit i r.index))) in (
        rw (is, same, sum_at stops, mul-add-div r.readable.modulus_positive (yield_of side + carried) (past * tangent_of side i), tangent_is stops),
        rw (is, same) (omega (arith, r.room)),
      )

-- A side of one segment is read there, from the yield on.
pub alone : (e : Modulus) (side : Side) (a : Magnitude) → Readable side e → length side.segments ≡ 7 → a.0 < 2 ^ 64 → yield_of side ≤ a.0 → side.count ≡ 1
    → (reading : Reading) → reading ≡ record { limit = magnitude (yield_of side + (a.0 - yield_of side) * tangent_of side 0 / e.0); tangent = (get_or side.segments 0 flat).tangent }
    → (reading ≡ reading_of side e a) × (reading.limit.0 ≤ a.0)
alone e side a readable array word from-yield one reading is =
    stop (begun e side a.0 readable array word from-yield) (inl (omega arith)) reading (rw (add-zero (yield_of side)) is) a refl

-- Below the yield no segment is reached.
pub below_yield : (e : Modulus) (side : Side) (a : Magnitude) → 0 < e.0 → a.0 < yield_of side → record { limit = a; tangent = e } ≡ reading_of side e a
unfolding reading_of curve_of limit_at tangent_at
below_yield e side a some h =
    let segments = segments_of (take side.count side.segments) in
    rw (height_below_yield e.0 e.0 (yield_of side) segments a.0 (omega arith), mul-div_right a.0 some, tangent_below e.0 a.0 segments (yield_of side) h)

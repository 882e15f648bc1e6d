-- States and rods: what was written is read back, what was read is written back, and neither tells less than the other.
use Prim.Native.Nat.{ℕ, ◌<◌, ◌^◌}
use mathlib.Core.Path.{◌≡◌, refl, sym, ap, ◌∙◌}
use mathlib.Core.Bool.{true, not, ◌&&◌}
use mathlib.Core.List.{List, [], ◌∷◌}
use native.Mathlib.Omega.{arith}
use borrow.Author.Tests.{not-false, eqb-true, eq-eqb, leb-true}
use lib.Dec.{eqb}
use lib.ListN.{length}
use Rattle.refusals.specs.Table.{first_of, passes}
use Rattle.refusals.proofs.FirstLaws.{passes_line, passes_none, both_hold}
use Rattle.ranges.proofs.RangeMagnitudes.{temperature_magnitude, mag_at_most}
use Rattle.law.specs.Laws.{law_of}
use Rattle.law.proofs.LawLaws.{law_of_number, number_of_law}
use Rattle.units.specs.Kinds.{nano, tenths, grain}
use Rattle.bits.specs.Field.{field, Held}
use Rattle.bits.specs.Layout.{filled, widths, packed, bytes_of}
use Rattle.bits.proofs.FieldLaws.{field_below}
use Rattle.bits.proofs.SignLaws.{flag_back, flag_again}
use Rattle.bits.proofs.PutLaws.{length_bytes_of}
use Rattle.bits.proofs.LayoutLaws.{Bytes, read_back, whole_back, whole_of_field, fields_from, written_back}
use Rattle.rod.specs.declared.Rod.{Rod}
use Rattle.law.specs.Laws.{first_is_abscissa}
use Rattle.rod.specs.InRange.{rod_in_range}
use Rattle.state.specs.States.{state_layout, state_length, zero_bits, state_of, state_field_refusals, state_refusals, state_values, state_bytes, StateFits}
use Rattle.rod.proofs.RangeFacts.{ranged, first_magnitude}
use Rattle.state.proofs.StateLaws.{parts, fit}

-- Bytes that pass 4 and 5, with the rod that they give.
abbrev pub Accepted : List ℕ → Rod → Type 0
Accepted s r = first_of (state_refusals s) (state_of s) ≡ passes r

-- What it says: the length, the zero bits, the ranges, and which rod it is.
pub record Passed (s : List ℕ) (r : Rod) : Type 0 where
  pub long : length s ≡ state_length
  pub zeros : zero_bits s ≡ 0
  pub ranges : rod_in_range r ≡ true
  pub rod : state_of s ≡ r

module _ (s : List ℕ) (r : Rod) where
  pub accepted_passed : Accepted s r → Passed s r
  unfolding state_field_refusals state_refusals
  accepted_passed e =
      let four = passes_line 4 (not (eqb (length s) state_length)) (state_field_refusals s) (state_of s) e in
      let five = passes_line 5 (not (eqb (zero_bits s) 0 && rod_in_range (state_of s))) [] (state_of s) four.1 in
      let rod = passes_none (state_of s) five.1 in
      let both = both_hold (eqb (zero_bits s) 0) (rod_in_range (state_of s)) (not-false _ five.0) in
      record { long = eqb-true _ _ (not-false _ four.0); zeros = eqb-true _ _ both.0; ranges = ap rod_in_range rod ∙ both.1; rod = sym rod }

  pub passed_accepted : Passed s r → Accepted s r
  unfolding first_of state_field_refusals state_refusals
  passed_accepted p =
      rw (eq-eqb _ _ p.long, eq-eqb _ _ p.zeros, p.rod, p.ranges)

-- A state written has its length.
pub length_state : (r : Rod) → length (state_bytes r) ≡ state_length
unfolding state_bytes
length_state r = length_bytes_of state_length (packed (parts r))

-- The rod of any bytes fits its fields,
pub read_fits : (s : List ℕ) → StateFits (state_of s)
read_fits s =
    record {
      strain = (whole_of_field s 8 32 (omega arith)).1;
      temperature = (whole_of_field s 40 16 (omega arith)).1;
      stress = (whole_of_field s 56 48 (omega arith)).1;
      first = (whole_of_field s 104 64 (omega arith)).1;
      second = (whole_of_field s 168 64 (omega arith)).1;
      pairs = field_below s 232 32;
      yielded_pairs = field_below s 264 32;
    }

-- and so does a rod in its ranges, where 64 bits hold its second variable and 32 bits its n.
pub in_range_fits : (r : Rod) → rod_in_range r ≡ true → Held 64 r.second.0 → r.pairs < 2 ^ 32 → StateFits r
in_range_fits r e second n =
    let in-ranges = ranged r e in
    record {
      strain = omega (arith, in-ranges.strain, mag_at_most r.strain.0);
      temperature = omega (arith, temperature_magnitude r.temperature.0 in-ranges.temperature, mag_at_most r.temperature.0);
      stress = omega (arith, in-ranges.stress, mag_at_most r.stress.0);
      first = omega (arith, first_magnitude (first_is_abscissa r.law) r.first.0 in-ranges.first, mag_at_most r.first.0);
      second = second;
      pairs = n;
      yielded_pairs = omega (arith, leb-true r.yielded_pairs r.pairs (both_hold _ _ in-ranges.counts).0);
    }

module _ (r : Rod) (fits : StateFits r) where
  -- Reading what was written gives the rod back.
  pub rod_back : state_of (state_bytes r) ≡ r
  unfolding state_bytes widths
  rod_back =
      let number = read_back state_length (parts r) (fit r fits) refl in
      let whole = whole_back state_length (parts r) (fit r fits) refl in
      let law = ap law_of (number 0 (omega arith)) ∙ law_of_number r.law in
      let yielded = ap (λ (x : ℕ). eqb x 1) (number 1 (omega arith)) ∙ flag_back r.yielded in
      let strain = whole 3 (omega arith) 32 r.strain.0 (omega arith) fits.strain refl in
      let temperature = whole 4 (omega arith) 16 r.temperature.0 (omega arith) fits.temperature refl in
      let stress = whole 5 (omega arith) 48 r.stress.0 (omega arith) fits.stress refl in
      let first = whole 6 (omega arith) 64 r.first.0 (omega arith) fits.first refl in
      let second = whole 7 (omega arith) 64 r.second.0 (omega arith) fits.second refl in
      λ i. record {
        law = law i;
        yielded = yielded i;
        strain = nano (strain i);
        temperature = tenths (temperature i);
        stress = grain (stress i);
        first = grain (first i);
        second = grain (second i);
        pairs = number 8 (omega arith) i;
        yielded_pairs = number 9 (omega arith) i;
      }

  -- The bytes of a rod in its ranges pass, and give that rod.
  pub state_back : rod_in_range r ≡ true → Accepted (state_bytes r) r
  unfolding state_bytes widths
  state_back e =
      let long = length_bytes_of state_length (packed (parts r)) in
      let zeros = read_back state_length (parts r) (fit r fits) refl 2 (omega arith) in
      passed_accepted (state_bytes r) r (record { long = long; zeros = zeros; ranges = e; rod = rod_back })

-- What accepted bytes put into the fields is what the fields held,
values_again : (s : List ℕ) → zero_bits s ≡ 0 → state_values (state_of s) ≡ fields_from 0 state_layout s
values_again s zeros =
    let law = number_of_law (field s 0 2) (field_below s 0 2) in
    let yielded = flag_again (field s 2 1) (field_below s 2 1) in
    let strain = (whole_of_field s 8 32 (omega arith)).0 in
    let temperature = (whole_of_field s 40 16 (omega arith)).0 in
    let stress = (whole_of_field s 56 48 (omega arith)).0 in
    let first = (whole_of_field s 104 64 (omega arith)).0 in
    let second = (whole_of_field s 168 64 (omega arith)).0 in
    λ i. law i ∷ yielded i ∷ sym zeros i ∷ strain i ∷ temperature i ∷ stress i ∷ first i ∷ second i ∷ field s 232 32 ∷ field s 264 32 ∷ []

-- so writing what was read gives the bytes back.
pub bytes_again : (s : List ℕ) (r : Rod) → Bytes s → Accepted s r → state_bytes r ≡ s
unfolding state_bytes widths
bytes_again s r bytes accepted =
    let p = accepted_passed s r accepted in
    ap state_bytes (sym p.rod) ∙ ap (λ (vs : List ℕ). bytes_of state_length (packed (filled state_layout vs))) (values_again s p.zeros)
    ∙ written_back state_layout s state_length bytes p.long refl

-- Two different rods never have the same bytes,
pub bytes_tell_rods : (r q : Rod) → StateFits r → StateFits q → state_bytes r ≡ state_bytes q → r ≡ q
bytes_tell_rods r q f g e = sym (rod_back r f) ∙ ap state_of e ∙ rod_back q g

-- and two different lists of bytes never give the same rod.
pub rods_tell_bytes : (s t : List ℕ) (r : Rod) → Bytes s → Bytes t → Accepted s r → Accepted t r → s ≡ t
rods_tell_bytes s t r bs bt es et = sym (bytes_again s r bs es) ∙ bytes_again t r bt et

-- A state in bytes (SPEC 3.11, 3.16, 3.17) with 4 and 5, cited by judge, tie_rod, rod_log and the demands; definitions only, nothing is
-- assumed.
use Rattle.std.specs.Prelude.{ℕ, ◌<◌, ◌^◌, not, ◌&&◌, List, [], ◌∷◌, eqb, length, replicate}
use Rattle.refusals.specs.Table.{Refusal, refusal}
use Rattle.law.specs.Laws.{law_of, number_of}
use Rattle.units.specs.Kinds.{nano, tenths, grain}
use Rattle.bits.specs.Field.{Held, flag}
use Rattle.bits.specs.Layout.{width_at, field_at, whole_at, bits_at, filled, packed, bytes_of}
use Rattle.rod.specs.declared.Rod.{Rod}
use Rattle.rod.specs.InRange.{rod_in_range}

-- SPEC 3.11: the bytes of a state.
abbrev pub state_length : ℕ
state_length = 37

-- SPEC 3.11: the widths of the fields: law, yielded, zero, strain, temperature, stress, first variable, second variable, n, k.
abbrev pub state_layout : List ℕ
state_layout = 2 ∷ 1 ∷ 5 ∷ 32 ∷ 16 ∷ 48 ∷ 64 ∷ 64 ∷ 32 ∷ 32 ∷ []

-- SPEC 3.11: the rod in the fields of some bytes, and the zero bits beside it.
abbrev pub state_of : List ℕ → Rod
state_of s =
    record {
      law = law_of (field_at state_layout s 0);
      yielded = eqb (field_at state_layout s 1) 1;
      strain = nano (whole_at state_layout s 3);
      temperature = tenths (whole_at state_layout s 4);
      stress = grain (whole_at state_layout s 5);
      first = grain (whole_at state_layout s 6);
      second = grain (whole_at state_layout s 7);
      pairs = field_at state_layout s 8;
      yielded_pairs = field_at state_layout s 9;
    }

abbrev pub zero_bits : List ℕ → ℕ
zero_bits s = field_at state_layout s 2

-- SPEC 8.3: 5 where a zero bit is set, or the rod isn't in its ranges.
unfoldable pub state_field_refusals : List ℕ → List Refusal
state_field_refusals s = refusal 5 (not (eqb (zero_bits s) 0 && rod_in_range (state_of s))) ∷ []

-- SPEC 8.2: 4 by the length, and then 5.
unfoldable pub state_refusals : List ℕ → List Refusal
state_refusals s = refusal 4 (not (eqb (length s) state_length)) ∷ state_field_refusals s

-- SPEC 3.11: what a rod puts into the fields.
abbrev pub state_values : Rod → List ℕ
state_values r =
    number_of r.law
    ∷ flag r.yielded
    ∷ 0
    ∷ bits_at state_layout 3 r.strain.0
    ∷ bits_at state_layout 4 r.temperature.0
    ∷ bits_at state_layout 5 r.stress.0
    ∷ bits_at state_layout 6 r.first.0
    ∷ bits_at state_layout 7 r.second.0
    ∷ r.pairs
    ∷ r.yielded_pairs
    ∷ []

-- SPEC 3.17: each number of a rod fits its field.
pub record StateFits (r : Rod) : Type 0 where
  pub strain : Held (width_at state_layout 3) r.strain.0
  pub temperature : Held (width_at state_layout 4) r.temperature.0
  pub stress : Held (width_at state_layout 5) r.stress.0
  pub first : Held (width_at state_layout 6) r.first.0
  pub second : Held (width_at state_layout 7) r.second.0
  pub pairs : r.pairs < 2 ^ width_at state_layout 8
  pub yielded_pairs : r.yielded_pairs < 2 ^ width_at state_layout 9

-- SPEC 3.4, 3.11: the bytes of a rod.
unfoldable pub state_bytes : Rod → List ℕ
state_bytes r = bytes_of state_length (packed (filled state_layout (state_values r)))

-- SPEC 3.16: the zero state, which a refused sheet or state leaves.
abbrev pub zero_state : List ℕ
zero_state = replicate state_length 0

-- A rod in its ranges, its variables under its own law (SPEC 8.3), cited by Accepted and by refusal 5 in state; definitions only, nothing
-- is assumed.
use Rattle.std.specs.Prelude.{ℕ, Bool, not, ◌&&◌, ◌||◌, leb}
use Rattle.ranges.specs.Ranges.{around, temperature_right, most_strain, most_stress}
use Rattle.rod.specs.declared.Rod.{Rod}
use Rattle.rod.specs.Variables.{first_right, second_right}

-- SPEC 8.3: k isn't above n, and isn't 0 where the last pair yielded.
abbrev pub counts_right : Bool → ℕ → ℕ → Bool
counts_right yielded n k = leb k n && (not yielded || leb 1 k)

-- SPEC 8.3: strain, temperature, stress, variables and counts, each in its range.
unfoldable pub rod_in_range : Rod → Bool
rod_in_range r =
    around most_strain r.strain.0
    && temperature_right r.temperature.0
    && around most_stress r.stress.0
    && first_right r.law r.first.0
    && second_right r.law r.second.0
    && counts_right r.yielded r.pairs r.yielded_pairs

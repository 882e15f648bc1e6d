-- The unused rod of a sheet (SPEC 3.15), cited by tie_rod, accuracy, board and the demands; definitions only, nothing is assumed.
use Rattle.std.specs.Prelude.{ℕ, Bool, false, cond, ℤ, pos}
use Rattle.units.specs.Kinds.{nano, grain}
use Rattle.sheet.specs.declared.Sheet.{Sheet}
use Rattle.rod.specs.declared.Rod.{Rod}
use Rattle.law.specs.Laws.{first_is_abscissa, has_second}

-- SPEC 3.15: a variable of an unused rod: the yield of its side where it is an abscissa, else 0.
abbrev pub start_of : Bool → ℕ → ℤ
start_of is_abscissa yield = cond is_abscissa (pos yield) (pos 0)

-- SPEC 3.15: the unused rod, which is the papers' term.
unfoldable pub unused_of : Sheet → Rod
unused_of h =
    record {
      law = h.law;
      yielded = false;
      strain = nano (pos 0);
      temperature = h.reference;
      stress = grain (pos 0);
      first = grain (start_of (first_is_abscissa h.law) h.tension.yield_stress.0);
      second = grain (start_of (has_second h.law) h.compression.yield_stress.0);
      pairs = 0;
      yielded_pairs = 0;
    }

-- What demand 3 says at one stop (SPEC 11.8, 11.9, 11.11, and 6.6 for it), cited by demands/specs/Lists; definitions only, nothing is assumed.
use Rattle.std.specs.Prelude.{ℕ, ◌≡◌, true, false, List, [], ◌∷◌, ◌↔◌, length}
use Rattle.fractions.specs.Fraction.{Frac, whole, Within}
use Rattle.law.specs.declared.Law.{Law}
use Rattle.law.specs.Laws.{first_is_abscissa, has_second}
use Rattle.branch.specs.declared.Branch.TheVariants.{Tension, Compression}
use Rattle.branch.specs.Branches.{yielded_by}
use Rattle.units.specs.Kinds.{grain}
use Rattle.pair.specs.declared.Pair.{Pair}
use Rattle.row.specs.declared.Row.{Row}
use Rattle.sheet.specs.declared.Sheet.{Sheet}
use Rattle.sheet.specs.Sound.{SheetSound}
use Rattle.response.specs.Candidates.{tension_side, compression_side, PassesTension, PassesCompression, Passes}
use Rattle.rod.specs.declared.Rod.{Rod}
use Rattle.rod.specs.Steps.{trial_of, plastic_at}
use Rattle.carry.specs.Walk.{yielded_rows}
use Rattle.accuracy.specs.Bar.{Bar, exact_plastic, bar_after}
use Rattle.accuracy.specs.Only.{BarSolves}

-- SPEC 11.9: the last row, where there is one, shows the state's yielded bit, its stress and its E times plastic strain.
abbrev pub LastRowShows : Sheet → List Row → Rod → Type 0
LastRowShows h [] r = Unit {0}
LastRowShows h (row ∷ []) r = (row.yielded ≡ r.yielded) × (row.stress ≡ r.stress) × (row.plastic ≡ grain (plastic_at h r))
LastRowShows h (row ∷ (next ∷ rows)) r = LastRowShows h (next ∷ rows) r

module _ (h : Sheet) (sound : SheetSound h) where
  -- SPEC 6.6: the trial stress of a pair, from a stored state, passes a limit of the sheet's law: this one, or either.
  abbrev pub FromStored : (Law → (trial first second : Frac) → Type 0) → Rod → Pair → Type 0
  FromStored Passing r p = Passing h.law (whole (trial_of h r p)) (whole r.first.0) (whole r.second.0)

  -- SPEC 11.11: what the row of a pair tells of it, from the state stored before: it yielded where the trial stress passes a limit, the
  -- branch says which one, and it is elastic exactly where the row isn't marked as yielded.
  pub record Marked (r : Rod) (p : Pair) (row : Row) : Type 0 where
    pub yielded : (row.yielded ≡ true) ↔ FromStored (Passes h sound) r p
    pub tension : (row.branch ≡ Tension) ↔ FromStored (PassesTension h sound) r p
    pub compression : (row.branch ≡ Compression) ↔ FromStored (PassesCompression h sound) r p
    pub flowed : row.yielded ≡ yielded_by row.branch

  -- SPEC 11.8: each of these lies within k grains of the bar's; a line is asked where the law has its quantity. Of an abscissa it is the
  -- yield limit that is compared, without rounding on either side.
  pub record WithinGrains (k : ℕ) (r : Rod) (b : Bar) : Type 0 where
    pub stress : Within k (whole r.stress.0) b.stress
    pub plastic : Within k (whole (plastic_at h r)) (exact_plastic h b)
    -- laws 0, 1 and 3
    pub tension_limit : first_is_abscissa h.law ≡ true
        → Within k ((tension_side h sound).limit (whole r.first.0)) ((tension_side h sound).limit b.first)
    -- law 3
    pub compression_limit : has_second h.law ≡ true
        → Within k ((compression_side h sound).limit (whole r.second.0)) ((compression_side h sound).limit b.second)
    -- law 2
    pub centre : first_is_abscissa h.law ≡ false → Within k (whole r.first.0) b.first

  -- SPEC 11.8, 11.9: what holds after these pairs, which left these rows and the state r. k is counted over the rows, never taken from a
  -- state, which could claim any.
  pub record AtStop (pairs : List Pair) (rows : List Row) (r : Rod) : Type 0 where
    pub within : WithinGrains (yielded_rows rows) r (bar_after h sound pairs)
    -- the counts that the state carries are true: of rows that yielded, and of pairs
    pub k_counted : r.yielded_pairs ≡ yielded_rows rows
    pub n_counted : r.pairs ≡ length pairs
    pub row_shows : LastRowShows h rows r
    -- the bar has come there by the only solutions of the law's conditions
    pub bar : BarSolves h sound pairs

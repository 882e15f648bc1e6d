-- The board (SPEC 13.1, 13.2): nine small loops as one table over the walk of pairs, cited by proofs/BoardRight, which computes it;
-- definitions only, nothing is assumed.
use Rattle.std.specs.Prelude.{ℕ, ◌*◌, ◌≡◌, Bool, true, false, ◌&&◌, List, [], ◌∷◌, eqb, ℤ, pos, neg_ℤ, length}
use Rattle.std.proofs.Math.Option.{Option, some, none}
use Rattle.std.specs.Int.Signed.{le_z}
use Rattle.refusals.specs.Table.{passes, first_of}
use Rattle.law.specs.declared.Law.{Law}
use Rattle.law.specs.declared.Law.TheVariants.{IsotropicLine, IsotropicCurve, Kinematic, Asymmetric}
use Rattle.branch.specs.declared.Branch.{Branch}
use Rattle.branch.specs.declared.Branch.TheVariants.{Elastic, Tension, Compression}
use Rattle.branch.specs.Branches.{branch_number, yielded_by}
use Rattle.ranges.specs.Ranges.{grains}
use Rattle.units.specs.Kinds.{nano, tenths, length_of, magnitude, modulus, expansion}
use Rattle.curve.specs.declared.Segment.{Segment}
use Rattle.curve.specs.declared.Side.{Side}
use Rattle.curve.specs.Sides.{most_segments, flat}
use Rattle.expansion.specs.declared.Coefficients.TheVariants.{Single}
use Rattle.sheet.specs.Sheets.{placed, sheet_refusals, sheet_of}
use Rattle.sheet.specs.Bytes.{sheet_bytes}
use Rattle.sheet.specs.declared.Sheet.{Sheet}
use Rattle.pair.specs.Pairs.{pair_bytes}
use Rattle.row.specs.declared.Row.{Row}
use Rattle.rod.specs.Unused.{unused_of}
use Rattle.carry.specs.Walk.{rows_of, walk}

-- SPEC 3.9: a segment, and a side: its yield in 10⁻³ MPa and its segments.
abbrev pub segment : (length tangent : ℕ) → Segment
segment length tangent = record { length = length_of length; tangent = modulus tangent }

abbrev pub side : (yield : ℕ) → List Segment → Side
side yield segments =
    record { yield_stress = magnitude (yield * grains); count = length segments; segments = placed most_segments flat segments }

-- SPEC 13.1: the reference temperature of the board's sheets, 20 degrees, which is our choice.
abbrev pub reference : ℤ
reference = pos 200

-- SPEC 13.1: a sheet of the board: E, its two sides, and the single expansion that all of them have.
abbrev pub sheet : Law → (E : ℕ) → (tension compression : Side) → Sheet
sheet law E tension compression =
    record {
      law = law;
      modulus = modulus E;
      expansion = Single (expansion 1200);
      reference = tenths reference;
      tension = tension;
      compression = compression;
    }

-- SPEC 13.1: the steel of rows 1 to 4 and 6: 200,000 MPa, a yield of 200 MPa in tension, one segment.
abbrev pub steel : Law → Sheet
steel law = sheet law 200000 (side 200000 (segment 0 2000 ∷ [])) (side 0 [])

-- SPEC 3.12: the bytes of a pair, and of one at the reference temperature.
abbrev pub pair : (change temperature : ℤ) → List ℕ
pair change temperature = pair_bytes (record { change = nano change; temperature = tenths temperature })

abbrev pub pull : ℤ → List ℕ
pull change = pair change reference

-- SPEC 13.1: what a pair must give: its stress and its branch, and E times plastic strain and the tangent where the table fixes them.
pub record Expected : Type 0 where
  pub stress : ℤ
  pub branch : Branch
  pub plastic : Option ℤ
  pub tangent : Option ℕ

-- Stress and branch alone,
abbrev pub gives : (stress : ℤ) → Branch → Expected
gives stress branch = record { stress = stress; branch = branch; plastic = none; tangent = none }

-- and with E times plastic strain: for the third row the papers print it, and a rod that is only heated has none.
abbrev pub gives_both : (stress plastic : ℤ) → Branch → Expected
gives_both stress plastic branch = record { stress = stress; branch = branch; plastic = some plastic; tangent = none }

-- SPEC 13.1: a row of the board: a sheet, the pairs from an unused rod, and what each gives.
pub record Loop : Type 0 where
  pub sheet : Sheet
  pub pairs : List (List ℕ)
  pub results : List Expected

abbrev pub loop : Sheet → (pairs : List (List ℕ)) → List Expected → Loop
loop sheet pairs results = record { sheet = sheet; pairs = pairs; results = results }

-- SPEC 13.1, row 9: a steel so soft that the exact stress of its pair isn't whole, and that pair.
abbrev pub soft_steel : Sheet
soft_steel = sheet IsotropicLine 3 (side 1 (segment 0 1 ∷ [])) (side 0 [])

abbrev pub soft_pull : List ℕ
soft_pull = pull (pos 333334)

-- SPEC 13.1: the board, which is the papers' term, row by row.
unfoldable pub board : List Loop
board =
    loop (steel IsotropicLine) (pull (pos 1000000) ∷ []) (gives (pos 200000000000) Elastic ∷ [])
    ∷ loop (steel IsotropicLine) (pull (pos 1000001) ∷ []) (gives (pos 200000002000) Tension ∷ [])
    ∷ loop (steel IsotropicLine) (pull (pos 1500000) ∷ pull (neg_ℤ (pos 3000000)) ∷ [])
    (gives_both (pos 201000000000) (pos 99000000000) Tension ∷ gives_both (neg_ℤ (pos 202980000000)) (neg_ℤ (pos 97020000000)) Compression ∷ [])
    ∷ loop (steel Kinematic) (pull (pos 1500000) ∷ pull (neg_ℤ (pos 3000000)) ∷ [])
    (gives (pos 201000000000) Tension ∷ gives (neg_ℤ (pos 201000000000)) Compression ∷ [])
    ∷ loop (sheet Asymmetric 200000 (side 200000 (segment 0 2000 ∷ [])) (side 250000 (segment 0 2000 ∷ [])))
    (pull (pos 1500000) ∷ pull (neg_ℤ (pos 3000000)) ∷ [])
    (gives (pos 201000000000) Tension ∷ gives (neg_ℤ (pos 251490000000)) Compression ∷ [])
    ∷ loop (steel IsotropicLine) (pair (pos 0) (pos 300) ∷ [])
    (gives_both (neg_ℤ (pos 24000000000)) (pos 0) Elastic ∷ [])
    ∷ loop (sheet IsotropicCurve 200000 (side 200000 (segment 500000 20000 ∷ segment 0 2000 ∷ [])) (side 0 [])) (pull (pos 1500000) ∷ [])
    (record { stress = pos 210000000000; branch = Tension; plastic = none; tangent = some 2000 } ∷ [])
    ∷ loop (sheet IsotropicCurve 200000 (side 200000 (segment 500000 20000 ∷ segment 0 2000 ∷ [])) (side 0 [])) (pull (pos 2000000) ∷ [])
    (gives (pos 211000000000) Tension ∷ [])
    ∷ loop soft_steel (soft_pull ∷ []) (gives (pos 1000000) Tension ∷ [])
    ∷ []

-- SPEC 13.2: whether a row is the expected one; what isn't fixed isn't looked at.
abbrev pub sameℤ : ℤ → ℤ → Bool
sameℤ x y = le_z x y && le_z y x

abbrev pub same_bool : Bool → Bool → Bool
same_bool true b = b
same_bool false true = false
same_bool false false = true

abbrev pub branch_as : Branch → Branch → Bool
branch_as a b = eqb (branch_number a) (branch_number b)

abbrev pub plastic_as : Option ℤ → ℤ → Bool
plastic_as none z = true
plastic_as (some y) z = sameℤ y z

abbrev pub tangent_as : Option ℕ → ℕ → Bool
tangent_as none t = true
tangent_as (some u) t = eqb u t

abbrev pub row_as : Expected → Row → Bool
row_as x row =
    sameℤ x.stress row.stress.0
    && branch_as x.branch row.branch
    && same_bool (yielded_by x.branch) row.yielded
    && plastic_as x.plastic row.plastic.0
    && tangent_as x.tangent row.tangent.0

abbrev pub rows_as : List Expected → List Row → Bool
rows_as [] [] = true
rows_as [] (row ∷ rows) = false
rows_as (x ∷ xs) [] = false
rows_as (x ∷ xs) (row ∷ rows) = row_as x row && rows_as xs rows

-- SPEC 13.2: a row of the board is right: its sheet, in bytes, passes 1 to 3 and 13 and reads back; its pairs are all accepted from the
-- unused rod; and each gives the expected row.
pub record LoopRight (l : Loop) : Type 0 where
  pub sheet_passes : first_of (sheet_refusals (sheet_bytes l.sheet)) (sheet_of (sheet_bytes l.sheet)) ≡ passes l.sheet
  pub pairs_pass : (walk l.sheet (unused_of l.sheet) l.pairs).number ≡ 0
  pub rows_right : rows_as l.results (rows_of (walk l.sheet (unused_of l.sheet) l.pairs).advances) ≡ true

-- SPEC 13.2: all rows are.
abbrev pub AllRight : List Loop → Type 0
AllRight [] = Unit {0}
AllRight (l ∷ ls) = LoopRight l × AllRight ls

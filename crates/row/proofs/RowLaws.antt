-- A row that fits its fields: its numbers in whole bytes are its bytes, and it is read back from them.
use Prim.Native.Nat.{ℕ, ◌+◌, ◌-◌, ◌*◌, ◌/◌}
use mathlib.Core.Path.{◌≡◌, refl, sym, ap, ◌∙◌}
use mathlib.Core.List.{List, [], ◌∷◌, ◌++◌}
use native.Mathlib.Omega.{arith}
use lib.Dec.{eqb}
use lib.ListN.{length, take, get_or}
use Rattle.units.specs.Kinds.{modulus, grain}
use Rattle.bits.specs.Field.{bits_of}
use Rattle.bits.specs.Layout.{Part, width_at, field_at, offset, bits_at, filled, widths, packed, bytes_of, put}
use Rattle.branch.specs.Branches.{branch_number, branch_of}
use Rattle.branch.proofs.BranchLaws.{branch_of_number, number_below_three}
use Rattle.bits.proofs.SignLaws.{bits_below, signs, flag_below, flag_back}
use Rattle.bits.proofs.PutLaws.{length_bytes_of, put_over, put_whole}
use Rattle.bits.proofs.LayoutLaws.{Fit, nothing, read_back, whole_back}
use Rattle.bits.proofs.WriteLaws.{packed_alone, bytes_append, bytes_wider}
use Rattle.row.specs.declared.Row.{Row}
use Rattle.row.specs.Rows.{row_layout, row_length, row_values, row_bytes, row_of, RowFits}

abbrev parts : Row → List Part
parts r = filled row_layout (row_values r)

-- In bytes: the three fields in front, the stress, and E times plastic strain.
abbrev front_length : ℕ
front_length = offset row_layout 3 / 8

abbrev stress_length : ℕ
stress_length = width_at row_layout 3 / 8

abbrev plastic_length : ℕ
plastic_length = width_at row_layout 4 / 8

module _ (r : Row) (fits : RowFits r) where
  fit : Fit (parts r)
  fit =
      let stress = bits_below (width_at row_layout 3) r.stress.0 (omega arith) fits.stress in
      let plastic = bits_below (width_at row_layout 4) r.plastic.0 (omega arith) fits.plastic in
      (flag_below r.yielded, (omega (arith, number_below_three r.branch), (fits.tangent, (stress, (plastic, tt)))))

  -- The fields in front make bytes of their own, and so do the stress and E times plastic strain.
  bytes_are : bytes_of front_length (packed (take 3 (parts r))) ++ (bytes_of stress_length (bits_at row_layout 3 r.stress.0) ++ bytes_of plastic_length (bits_at row_layout 4 r.plastic.0)) ≡ row_bytes r
  unfolding row_bytes widths
  bytes_are =
      let stress = get_or (parts r) 3 nothing in
      let plastic = get_or (parts r) 4 nothing in
      let behind : bytes_of stress_length stress.value ++ bytes_of plastic_length plastic.value ≡ bytes_of (stress_length + plastic_length) (packed (stress ∷ plastic ∷ [])) =
      rw (packed_alone stress, packed_alone plastic) at (bytes_append (stress ∷ []) (plastic ∷ []) stress_length plastic_length refl fit.1.1.1) in
      rw behind (bytes_append (take 3 (parts r)) (stress ∷ plastic ∷ []) front_length (stress_length + plastic_length) refl fit)

  pub length_row : length (row_bytes r) ≡ row_length
  unfolding row_bytes
  length_row = length_bytes_of row_length (packed (parts r))

  -- Written from the last to the first, the last in eight bytes, they are the row.
  pub put_row : (row : List ℕ) → length row ≡ row_length
      → put (put (put row (row_length - 8) (bytes_of 8 (bits_of (8 * 8) r.plastic.0))) front_length (bytes_of stress_length (bits_at row_layout 3 r.stress.0))) 0 (bytes_of front_length (packed (take 3 (parts r)))) ≡ row_bytes r
  put_row row room =
      let first = bytes_of front_length (packed (take 3 (parts r))) in
      let stress = bytes_of stress_length (bits_at row_layout 3 r.stress.0) in
      let plastic = bytes_of plastic_length (bits_at row_layout 4 r.plastic.0) in
      let sign = bytes_of 1 (signs 8 r.plastic.0) in
      let long : length stress ≡ stress_length - 1 + length sign = length_bytes_of stress_length (bits_at row_layout 3 r.stress.0) ∙ rw (length_bytes_of 1 (signs 8 r.plastic.0)) in
      rw (bytes_wider 1 plastic_length r.plastic.0 (omega arith) fits.plastic, put_over row front_length (stress_length - 1) stress sign plastic long (omega arith))
      (put_over row 0 front_length first [] (stress ++ plastic) (length_bytes_of front_length (packed (take 3 (parts r)))) (omega arith) ∙ ap (put row 0) bytes_are ∙ put_whole row (row_bytes r) (room ∙ sym (length_row)))

  -- The three bits in its bytes are the number of its branch, so that none is above 2.
  pub branch_bits : field_at row_layout (row_bytes r) 1 ≡ branch_number r.branch
  unfolding row_bytes widths
  branch_bits = read_back row_length (parts r) fit refl 1 (omega arith)

  -- Reading what was written gives the row back.
  pub row_back : row_of (row_bytes r) ≡ r
  unfolding row_bytes widths
  row_back =
      let number = read_back row_length (parts r) fit refl in
      let whole = whole_back row_length (parts r) fit refl in
      let yielded = ap (λ (x : ℕ). eqb x 1) (number 0 (omega arith)) ∙ flag_back r.yielded in
      let branch = ap branch_of branch_bits ∙ branch_of_number r.branch in
      let tangent = number 2 (omega arith) in
      let stress = whole 3 (omega arith) (width_at row_layout 3) r.stress.0 (omega arith) fits.stress refl in
      let plastic = whole 4 (omega arith) (width_at row_layout 4) r.plastic.0 (omega arith) fits.plastic refl in
      λ i.
      record {
        yielded = yielded i;
        branch = branch i;
        tangent = modulus (tangent i);
        stress = grain (stress i);
        plastic = grain (plastic i);
      }

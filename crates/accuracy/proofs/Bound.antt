-- Demand 3 over a history (SPEC 11.12): after each of its pairs the stored rod lies within k grains of the bar, where k counts the rows
-- that yielded.
use Prim.Native.Nat.{ℕ, suc, ◌+◌}
use native.Mathlib.Nat.{add-zero, zero-add}
use mathlib.Core.Path.{◌≡◌, refl, subst₂, ◌∙◌}
use mathlib.Core.Bool.{true, false, true≢false, false≢true}
use mathlib.Core.List.{List, [], ◌∷◌, map}
use native.Mathlib.Omega.{arith}
use lib.IntN.{ℤ, pos, nat_abs, ◌*ℤ◌}
use lib.ListN.{length}
use Rattle.fractions.specs.Fraction.{whole, Within}
use Rattle.fractions.proofs.Comparison.{≤F-refl}
use Rattle.fractions.proofs.Arithmetic.{within_rest}
use Rattle.law.specs.declared.Law.{Law}
use Rattle.law.specs.declared.Law.TheVariants.{IsotropicLine, IsotropicCurve, Kinematic, Asymmetric}
use Rattle.bits.specs.Field.{flag}
use Rattle.curve.specs.Sides.{curve_of}
use Rattle.sheet.specs.declared.Sheet.{Sheet}
use Rattle.sheet.specs.Sound.{SheetSound}
use Rattle.pair.specs.Pairs.{pair_of}
use Rattle.response.specs.Candidates.{tension_side, compression_side}
use Rattle.response.proofs.Branches.{not_negative}
use Rattle.rod.specs.declared.Rod.{Rod}
use Rattle.rod.specs.declared.step.Advance.{Advance}
use Rattle.law.specs.Laws.{first_is_abscissa, has_second}
use Rattle.rod.specs.Variables.{abscissa_right}
use Rattle.rod.specs.Unused.{unused_of}
use Rattle.rod.specs.Steps.{mechanical_of, advance_of}
use Rattle.state.specs.Passing.{StatePasses}
use Rattle.state.proofs.Passing.{unused_state_passes}
use Rattle.rod.proofs.RangeFacts.{ranged}
use Rattle.rod.proofs.StepLaws.{same_law}
use Rattle.rod.proofs.VariableLaws.{abscissa_facts}
use Rattle.carry.specs.Walk.{last_rod, rows_of, yielded_rows, History}
use Rattle.carry.proofs.PairAnswers.{pair_passed}
use Rattle.accuracy.specs.Bar.{Bar, unused_bar, exact_plastic, bar_step, bar_from, bar_after}
use Rattle.accuracy.specs.Within.{LastRowShows, WithinGrains, AtStop}
use Rattle.accuracy.proofs.Close.{LimitClose}
use Rattle.accuracy.proofs.BarSteps.{bar_solves}
use Rattle.accuracy.proofs.Unused.{isotropic_starts, kinematic_starts, asymmetric_starts}
use Rattle.accuracy.proofs.Together.{CloseUnder, Together, stays_together}

module _ (h : Sheet) (sound : SheetSound h) where
  -- ---- The start

  abbrev tension_yield : ℕ
  tension_yield = h.tension.yield_stress.0

  abbrev compression_yield : ℕ
  compression_yield = h.compression.yield_stress.0

  unused_close : (law : Law) → h.law ≡ law → CloseUnder h sound law 0 (unused_of h) (unused_bar h)
  unfolding unused_of unused_bar curve_of
  unused_close IsotropicLine is = rw is (isotropic_starts (tension_side h sound) (pos 0) tension_yield (≤F-refl (whole (pos tension_yield))))
  unused_close IsotropicCurve is = rw is (isotropic_starts (tension_side h sound) (pos 0) tension_yield (≤F-refl (whole (pos tension_yield))))
  unused_close Kinematic is = rw is (kinematic_starts (pos 0) (pos 0))
  unused_close Asymmetric is =
      rw is
      (asymmetric_starts (tension_side h sound) (compression_side h sound) (pos 0) tension_yield compression_yield
      (≤F-refl (whole (pos tension_yield))) (≤F-refl (whole (pos compression_yield))))

  starts_together : Together h sound 0 0 (unused_of h) (unused_bar h)
  unfolding unused_of unused_bar
  starts_together =
      record {
        passes = unused_state_passes h sound;
        k_counted = refl;
        n_counted = refl;
        strain = refl;
        temperature = refl;
        close = unused_close h.law refl;
      }

  -- ---- The history

  history_together : (r : Rod) (b : Bar) (pairs : List (List ℕ)) (advances : List Advance) {k n : ℕ} → Together h sound k n r b
      → History h r pairs advances
      → Together h sound (k + yielded_rows (rows_of advances)) (n + length (map pair_of pairs)) (last_rod r advances) (bar_from h sound b (map pair_of pairs))
  unfolding yielded_rows last_rod bar_from
  history_together r b [] [] {k} {n} t e = rw (add-zero k, add-zero n) t
  history_together r b [] (a ∷ advances) t e = absurd e
  history_together r b (p ∷ pairs) [] t e = absurd e
  history_together r b (p ∷ pairs) (a ∷ advances) {k} {n} t (e, rest) =
      let next = history_together a.rod (bar_step h sound b (pair_of p)) pairs advances (stays_together h sound r b p t e) rest in
      let more = yielded_rows (rows_of advances) in
      let ks : k + flag a.row.yielded + more ≡ k + (flag a.row.yielded + more) = omega arith in
      let m = length (map pair_of pairs) in
      let ns : n + 1 + m ≡ n + suc m = omega arith in
      subst₂ (λ (x y : ℕ). Together h sound x y (last_rod a.rod advances) (bar_from h sound (bar_step h sound b (pair_of p)) (map pair_of pairs))) ks ns next

  last_row_shows : (r : Rod) (pairs : List (List ℕ)) (advances : List Advance) → History h r pairs advances
      → LastRowShows h (rows_of advances) (last_rod r advances)
  unfolding last_rod advance_of
  last_row_shows r [] [] e = tt
  last_row_shows r [] (a ∷ advances) e = absurd e
  last_row_shows r (p ∷ pairs) [] e = absurd e
  last_row_shows r (p ∷ []) (a ∷ []) (e, rest) = rw (pair_passed h r p e).is (refl, refl, refl)
  last_row_shows r (p ∷ (q ∷ pairs)) (a ∷ []) (e, rest) = absurd rest
  last_row_shows r (p ∷ pairs) (a ∷ (c ∷ advances)) (e, rest) = last_row_shows a.rod pairs (c ∷ advances) rest

  -- ---- The quantities

  -- An abscissa is no negative number.
  abscissa_natural : (z : ℤ) → abscissa_right z ≡ true → pos (nat_abs z) ≡ z
  abscissa_natural z right = not_negative z (abscissa_facts z right).0

  first_natural : (r : Rod) → StatePasses h r → first_is_abscissa h.law ≡ true → pos (nat_abs r.first.0) ≡ r.first.0
  first_natural r s is =
      abscissa_natural r.first.0 (rw (same_law h r s.accepted.belongs, is) at (ranged r s.accepted.in_range).first)

  second_natural : (r : Rod) → StatePasses h r → has_second h.law ≡ true → pos (nat_abs r.second.0) ≡ r.second.0
  second_natural r s is =
      abscissa_natural r.second.0 (rw (same_law h r s.accepted.belongs, is) at (ranged r s.accepted.in_range).second)

  -- Those that the law has.
  pub stress_under : (law : Law) {k : ℕ} (r : Rod) (b : Bar) → CloseUnder h sound law k r b → Within k (whole r.stress.0) b.stress
  stress_under IsotropicLine r b c = c.stress_close
  stress_under IsotropicCurve r b c = c.stress_close
  stress_under Kinematic r b c = c.stress_close
  stress_under Asymmetric r b c = c.stress_close

  pub tension_under : (law : Law) {k : ℕ} (r : Rod) (b : Bar) → CloseUnder h sound law k r b → first_is_abscissa law ≡ true
      → LimitClose (tension_side h sound) k (nat_abs r.first.0) b.first
  tension_under IsotropicLine r b c is = c.limit_close
  tension_under IsotropicCurve r b c is = c.limit_close
  tension_under Kinematic r b c is = absurd (false≢true is)
  tension_under Asymmetric r b c is = c.tension_close

  pub compression_under : (law : Law) {k : ℕ} (r : Rod) (b : Bar) → CloseUnder h sound law k r b → has_second law ≡ true
      → LimitClose (compression_side h sound) k (nat_abs r.second.0) b.second
  compression_under IsotropicLine r b c is = absurd (false≢true is)
  compression_under IsotropicCurve r b c is = absurd (false≢true is)
  compression_under Kinematic r b c is = absurd (false≢true is)
  compression_under Asymmetric r b c is = c.compression_close

  pub centre_under : (law : Law) {k : ℕ} (r : Rod) (b : Bar) → CloseUnder h sound law k r b → first_is_abscissa law ≡ false
      → Within k (whole r.first.0) b.first
  centre_under IsotropicLine r b c is = absurd (true≢false is)
  centre_under IsotropicCurve r b c is = absurd (true≢false is)
  centre_under Kinematic r b c is = c.centre_close
  centre_under Asymmetric r b c is = absurd (true≢false is)

  within_grains : {k n : ℕ} (r : Rod) (b : Bar) → Together h sound k n r b → WithinGrains h sound k r b
  unfolding exact_plastic
  within_grains {k} r b t =
      let stress = stress_under h.law r b t.close in
      record {
        stress = stress;
        plastic = rw (t.strain, t.temperature)
            (within_rest (pos h.modulus.0 *ℤ mechanical_of h b.strain b.temperature) r.stress.0 stress);
        tension_limit = λ is. rw (first_natural r t.passes is) at (tension_under h.law r b t.close is).close;
        compression_limit = λ is. rw (second_natural r t.passes is) at (compression_under h.law r b t.close is).close;
        centre = centre_under h.law r b t.close;
      }

  -- ---- The theorem

  -- At the end of any history from the unused rod of a sheet that passes, whatever its law. What stands before a pair of a history is one
  -- (carry/Histories), so that it holds after each pair.
  pub history_within : (pairs : List (List ℕ)) (advances : List Advance) → History h (unused_of h) pairs advances
      → AtStop h sound (map pair_of pairs) (rows_of advances) (last_rod (unused_of h) advances)
  history_within pairs advances e =
      let t = history_together (unused_of h) (unused_bar h) pairs advances starts_together e in
      let k = yielded_rows (rows_of advances) in
      record {
        within = rw (zero-add k) at (within_grains (last_rod (unused_of h) advances) (bar_after h sound (map pair_of pairs)) t);
        k_counted = t.k_counted ∙ zero-add k;
        n_counted = t.n_counted ∙ zero-add (length (map pair_of pairs));
        row_shows = last_row_shows (unused_of h) pairs advances e;
        bar = bar_solves h sound (map pair_of pairs);
      }

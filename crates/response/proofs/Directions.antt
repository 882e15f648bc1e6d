-- SPEC 7.7, over fractions: which way plastic strain goes in a solution of the conditions, by the limit that the trial passes.
use mathlib.Core.Path.{◌≡◌, refl, subst}
use mathlib.Core.Bool.{true, false≢true}
use mathlib.Core.List.{[], ◌∷◌}
use mathlib.Core.Logic.{inl, inr, ⊎_elim, ◌↔◌}
use native.Mathlib.Omega.{arith}
use lib.IntN.{pos}
use Rattle.fractions.specs.Fraction.{Frac, ◌≤F◌, ◌<F◌, ◌≈F◌, whole, neg_f, ◌-F◌, signed_f}
use Rattle.fractions.proofs.Common.{is_whole, is_negated, is_sub, is_le, is_lt, is_eq, at-common}
use Rattle.fractions.proofs.Comparison.{<F-≤F-trans, ≤F-of-<F, ≤F-of-not-<F, ≤F-of-≈F, ≤F-trans, ≈F-refl, ≈F-sym, ≈F-trans}
use Rattle.fractions.proofs.Arithmetic.{signed_same, difference_positive}
use Rattle.fractions.proofs.Signs.{sign_cases}
use Rattle.branch.specs.declared.Branch.{Branch}
use Rattle.branch.specs.declared.Branch.TheVariants.{Elastic, Tension, Compression}
use Rattle.branch.specs.Branches.{yielded_by}
use Rattle.flow.proofs.OneSide.{growth_not_negative, limit_positive}
use Rattle.flow.proofs.Kinematic.{wider_not_negative, signs_agree}
use Rattle.flow.proofs.Asymmetric.{at_most_one, asymmetric_grows}
use Rattle.law.specs.declared.Law.{Law}
use Rattle.law.specs.declared.Law.TheVariants.{IsotropicLine, IsotropicCurve, Kinematic, Asymmetric}
use Rattle.sheet.specs.declared.Sheet.{Sheet}
use Rattle.sheet.specs.Sound.{SheetSound}
use Rattle.response.specs.Candidates.{Candidate, Grows, plastic_change, Toward, growth_on, tension_side, compression_side, IsotropicMeets, MeetsUnder, PassesTension, PassesCompression, Passes}
use Rattle.response.proofs.Candidates.{PastUnder, tension_hardens, compression_hardens, radius_positive, grows_passes, sides_grow}

-- A change goes by one branch only.
module _ (d : Frac) where
  not_still_and_up : d ≈F whole (pos 0) → ¬ (whole (pos 0) <F d)
  not_still_and_up e l = at-common (d ∷ []) (λ k ((_, _, i), _).
      let nought = is_whole (pos 0) i.some in omega (arith, (is_eq i nought).0 e, (is_lt nought i).0 l))

  not_still_and_down : d ≈F whole (pos 0) → ¬ (d <F whole (pos 0))
  not_still_and_down e l = at-common (d ∷ []) (λ k ((_, _, i), _).
      let nought = is_whole (pos 0) i.some in omega (arith, (is_eq i nought).0 e, (is_lt i nought).0 l))

  not_up_and_down : whole (pos 0) <F d → ¬ (d <F whole (pos 0))
  not_up_and_down l l' = at-common (d ∷ []) (λ k ((_, _, i), _).
      let nought = is_whole (pos 0) i.some in omega (arith, (is_lt nought i).0 l, (is_lt i nought).0 l'))

  one_way : (b c : Branch) → Toward b d → Toward c d → b ≡ c
  one_way Elastic Elastic t u = refl
  one_way Elastic Tension t u = absurd (not_still_and_up t u)
  one_way Elastic Compression t u = absurd (not_still_and_down t u)
  one_way Tension Elastic t u = absurd (not_still_and_up u t)
  one_way Tension Tension t u = refl
  one_way Tension Compression t u = absurd (not_up_and_down t u)
  one_way Compression Elastic t u = absurd (not_still_and_down u t)
  one_way Compression Tension t u = absurd (not_up_and_down u t)
  one_way Compression Compression t u = refl

  pub only_way : {b : Branch} → Toward b d → (c : Branch) → (b ≡ c) ↔ Toward c d
  only_way {b} t c = (λ e. subst (λ (a : Branch). Toward a d) e t, one_way b c t)

-- What passes a limit lies on its side of nought.
module _ {R u : Frac} (high : whole (pos 0) <F R) where
  pub above_nought : R <F u → whole (pos 0) <F u
  above_nought l = <F-≤F-trans high (≤F-of-<F l)

  pub below_nought : R <F neg_f u → u <F whole (pos 0)
  below_nought l = at-common (R ∷ u ∷ []) (λ k ((_, _, r), ((_, _, i), _)).
      let nought = is_whole (pos 0) r.some in (is_lt i nought).1 (omega (arith, (is_lt nought r).0 high, (is_lt r (is_negated i)).0 l)))

-- A branch by the limits that a trial passes, and the way that something goes by them.
pub by_limits : (d : Frac) {T C G : Type 0} (b : Branch) → (b ≡ Tension) ↔ T → (b ≡ Compression) ↔ C → (yielded_by b ≡ true) ↔ G
    → (T → whole (pos 0) <F d) → (C → d <F whole (pos 0)) → (¬ G → d ≈F whole (pos 0)) → Toward b d
by_limits d Elastic t c g up down still = still (λ grown. false≢true (g.1 grown))
by_limits d Tension t c g up down still = up (t.0 refl)
by_limits d Compression t c g up down still = down (c.0 refl)

-- Laws 0, 1 and 2: plastic strain changes by the growth g with the sign of v, which is that of u: of the trial, for law 2 from the centre.
module _ (u v : Frac) {w g d : Frac} (more : whole (pos 0) ≤F w) (agree : (u -F v) ≈F signed_f v w) (goes : d ≈F signed_f v g) where
  pub grows_above : {R : Frac} → whole (pos 0) <F R → R <F u → whole (pos 0) <F g → whole (pos 0) <F d
  grows_above {R} high l grown =
      ⊎_elim
      (λ (up, same). at-common (d ∷ g ∷ [])
      (λ k ((_, _, i), ((_, _, j), _)).
      let nought = is_whole (pos 0) i.some in
      (is_lt nought i).1 (omega (arith, (is_eq i j).0 (≈F-trans goes (same g)), (is_lt nought j).0 grown))))
      (λ (down, negated). absurd
      (at-common (u ∷ v ∷ w ∷ R ∷ [])
      (λ k ((_, _, i), ((_, _, j), ((_, _, m), ((_, _, r), _)))).
      let nought = is_whole (pos 0) i.some in
      omega (
        arith,
        (is_eq (is_sub i j) (is_negated m)).0 (≈F-trans agree (negated w)),
        (is_le nought m).0 more,
        (is_lt j nought).0 down,
        (is_lt nought r).0 high,
        (is_lt r i).0 l,
      ))))
      (sign_cases v)

  pub falls_below : {R : Frac} → whole (pos 0) <F R → R <F neg_f u → whole (pos 0) <F g → d <F whole (pos 0)
  falls_below {R} high l grown =
      ⊎_elim
      (λ (up, same). absurd
      (at-common (u ∷ v ∷ w ∷ R ∷ [])
      (λ k ((_, _, i), ((_, _, j), ((_, _, m), ((_, _, r), _)))).
      let nought = is_whole (pos 0) i.some in
      omega (
        arith,
        (is_eq (is_sub i j) m).0 (≈F-trans agree (same w)),
        (is_le nought m).0 more,
        (is_le nought j).0 up,
        (is_lt nought r).0 high,
        (is_lt r (is_negated i)).0 l,
      ))))
      (λ (down, negated). at-common (d ∷ g ∷ [])
      (λ k ((_, _, i), ((_, _, j), _)).
      let nought = is_whole (pos 0) i.some in
      (is_lt i nought).1 (omega (arith, (is_eq i (is_negated j)).0 (≈F-trans goes (negated g)), (is_lt nought j).0 grown))))
      (sign_cases v)

  pub stays_without : whole (pos 0) ≤F g → ¬ (whole (pos 0) <F g) → d ≈F whole (pos 0)
  stays_without least none =
      at-common (d ∷ g ∷ [])
      (λ k ((_, _, i), ((_, _, j), _)).
      let nought = is_whole (pos 0) i.some in
      let flat : g ≤F whole (pos 0) = ≤F-of-not-<F none in
      ⊎_elim
      (λ (up, same). (is_eq i nought).1 (omega (arith, (is_eq i j).0 (≈F-trans goes (same g)), (is_le nought j).0 least, (is_le j nought).0 flat)))
      (λ (down, negated). (is_eq i nought).1 (omega (arith, (is_eq i (is_negated j)).0 (≈F-trans goes (negated g)), (is_le nought j).0 least, (is_le j nought).0 flat)))
      (sign_cases v))

-- Law 3: plastic strain changes by a, what p grew by in tension, less b, what it grew by in compression, and not both grew.
module _ {a b d : Frac} (least : whole (pos 0) ≤F a) (least' : whole (pos 0) ≤F b) (goes : d ≈F (a -F b)) where
  pub grows_alone : whole (pos 0) <F a → ¬ (whole (pos 0) <F b) → whole (pos 0) <F d
  grows_alone grown none =
      at-common (a ∷ b ∷ d ∷ [])
      (λ k ((_, _, i), ((_, _, j), ((_, _, m), _))).
      let nought = is_whole (pos 0) i.some in
      (is_lt nought m).1
      (omega (arith, (is_eq m (is_sub i j)).0 goes, (is_lt nought i).0 grown, (is_le j nought).0 (≤F-of-not-<F none), (is_le nought j).0 least')))

  pub falls_alone : whole (pos 0) <F b → ¬ (whole (pos 0) <F a) → d <F whole (pos 0)
  falls_alone grown none =
      at-common (a ∷ b ∷ d ∷ [])
      (λ k ((_, _, i), ((_, _, j), ((_, _, m), _))).
      let nought = is_whole (pos 0) i.some in
      (is_lt m nought).1
      (omega (arith, (is_eq m (is_sub i j)).0 goes, (is_lt nought j).0 grown, (is_le i nought).0 (≤F-of-not-<F none), (is_le nought i).0 least)))

  pub stays_with_both : ¬ (whole (pos 0) <F a) → ¬ (whole (pos 0) <F b) → d ≈F whole (pos 0)
  stays_with_both none none' =
      at-common (a ∷ b ∷ d ∷ [])
      (λ k ((_, _, i), ((_, _, j), ((_, _, m), _))).
      let nought = is_whole (pos 0) i.some in
      (is_eq m nought).1
      (omega (
        arith,
        (is_eq m (is_sub i j)).0 goes,
        (is_le i nought).0 (≤F-of-not-<F none),
        (is_le nought i).0 least,
        (is_le j nought).0 (≤F-of-not-<F none'),
        (is_le nought j).0 least',
      )))

module _ (h : Sheet) (sound : SheetSound h) where
  -- Where plastic strain goes in a candidate: it grows past the limit of tension, falls past that of compression, and stays where p does.
  pub record Ways (law : Law) (trial first second : Frac) (x : Candidate) : Type 0 where
    pub up : PassesTension h sound law trial first second → whole (pos 0) <F plastic_change trial x
    pub down : PassesCompression h sound law trial first second → plastic_change trial x <F whole (pos 0)
    pub still : ¬ Grows x → plastic_change trial x ≈F whole (pos 0)

  -- Laws 0 and 1,
  isotropic_ways : (trial A second : Frac) (x : Candidate) → (tension_side h sound).yield ≤F A → IsotropicMeets h sound trial A second x
      → (Passes h sound IsotropicLine trial A second → Grows x) → Ways IsotropicLine trial A second x
  isotropic_ways trial A second x past (m, g, e) grown =
      let least = growth_not_negative m.side_holds in
      let goes = ≈F-trans m.plastic (signed_same (≈F-refl x.stress) (≈F-sym g)) in
      let high = limit_positive (tension_hardens h sound) past in
      record {
        up = λ l. grows_above trial x.stress least m.plastic goes high l (grown (inl l));
        down = λ l. falls_below trial x.stress least m.plastic goes high l (grown (inr l));
        still = stays_without trial x.stress least m.plastic goes (≤F-trans least (≤F-of-≈F (≈F-sym g)));
      }

  -- law 2,
  kinematic_ways : (trial X second : Frac) (x : Candidate) → MeetsUnder h sound Kinematic trial X second x
      → (Passes h sound Kinematic trial X second → Grows x) → Ways Kinematic trial X second x
  kinematic_ways trial X second x (m, e) grown =
      let u = trial -F X in
      let v = x.stress -F x.first in
      let high = radius_positive h sound in
      record {
        up = λ l. grows_above u v (wider_not_negative m) (signs_agree m) m.plastic high l (grown (inl l));
        down = λ l. falls_below u v (wider_not_negative m) (signs_agree m) m.plastic high l (grown (inr l));
        still = stays_without u v (wider_not_negative m) (signs_agree m) m.plastic m.keeps;
      }

  -- and law 3.
  asymmetric_ways : h.law ≡ Asymmetric → (trial A B : Frac) (x : Candidate) → PastUnder h sound Asymmetric A B
      → MeetsUnder h sound Asymmetric trial A B x → Ways Asymmetric trial A B x
  asymmetric_ways is trial A B x (past, past') (m, g) =
      let curve = tension_hardens h sound in
      let curve' = compression_hardens h sound is in
      let least = growth_not_negative m.tension_holds in
      let least' = growth_not_negative m.compression_holds in
      let (grows, grows') = asymmetric_grows curve curve' past past' m in
      let more = difference_positive (≈F-refl (growth_on (tension_side h sound) A x.first)) in
      let more' = difference_positive (≈F-refl (growth_on (compression_side h sound) B x.second)) in
      record {
        up = λ l. grows_alone least least' m.plastic (more.0 (grows.1 l)) (λ k. at_most_one curve curve' m (grows.1 l) (more'.1 k));
        down = λ l. falls_alone least least' m.plastic (more'.0 (grows'.1 l)) (λ k. at_most_one curve curve' m (more.1 k) (grows'.1 l));
        still = λ none. stays_with_both least least' m.plastic (λ k. none ((sides_grow m g).0 (inl (more.1 k))))
            (λ k. none ((sides_grow m g).0 (inr (more'.1 k))));
      }

  pub ways_under : (law : Law) → h.law ≡ law → (trial first second : Frac) (x : Candidate) → PastUnder h sound law first second
      → MeetsUnder h sound law trial first second x → Ways law trial first second x
  ways_under IsotropicLine is trial A second x past m =
      isotropic_ways trial A second x past m (grows_passes h sound IsotropicLine is trial A second x past m).1
  ways_under IsotropicCurve is trial A second x past m =
      let w = isotropic_ways trial A second x past m (grows_passes h sound IsotropicCurve is trial A second x past m).1 in
      record { up = w.up; down = w.down; still = w.still }
  ways_under Kinematic is trial X second x past m =
      kinematic_ways trial X second x m (grows_passes h sound Kinematic is trial X second x past m).1
  ways_under Asymmetric is trial A B x past m = asymmetric_ways is trial A B x past m

-- A test that failed gives 5 whatever the others say; where each reader gave a value, every test held.
use Rattle.std.proofs.Common.{ℕ, arith, List, Bool, ◌≡◌, sym, ap, ◌∙◌}
use mathlib.Core.Path.{ap₂}
use lib.IntN.{ℤ}
use Rattle.refusals.specs.Table.{passes}
use Rattle.law.specs.declared.Law.{Law}
use Rattle.units.specs.Kinds.{nano, tenths, grain}
use Rattle.bits.proofs.RangeLaws.{some_if_none, some_if_some, within_itself}
use Rattle.bits.proofs.LayoutLaws.{word_of_field}
use Rattle.rod.specs.Variables.{first_right, second_right}
use Rattle.rod.specs.InRange.{counts_right}
use Rattle.state.specs.States.{state_of, zero_bits}
use Rattle.state.proofs.ReadLaws.{refused_by, passed_by}
use Rattle.state.proofs.read_fields.Goals as goal

-- A test of a variable under the law that was read.
under : (s : List ℕ) {l : Law} (right : Law → ℤ → Bool) (z : ℤ) {t : Bool} → l ≡ (state_of s).law → right l z ≡ t → right (state_of s).law z ≡ t
under s right z e h = ap (λ (k : Law). right k z) (sym e) ∙ h

-- The test of the counts by the numbers that were read.
counts : (s : List ℕ) {y : Bool} {n : ℕ} {t : Bool} → y ≡ (state_of s).yielded → n ≡ (state_of s).pairs → counts_right y n (state_of s).yielded_pairs ≡ t
    → counts_right (state_of s).yielded (state_of s).pairs (state_of s).yielded_pairs ≡ t
counts s e f h = ap₂ (λ (y : Bool) (n : ℕ). counts_right y n (state_of s).yielded_pairs) (sym e) (sym f) ∙ h

pub returns-in_default : goal.returns-in_default
returns-in_default c =
    let s = c.args.s.now in
    refused_by s 0 (sym (within_itself 0 (zero_bits s)) ∙ some_if_none _ _ (sym c.in_default.ensures))

pub returns-in_default-read_within : goal.returns-in_default-read_within
returns-in_default-read_within c = refused_by _ 1 (some_if_none _ _ (sym c.in_default-read_within.ensures))

pub returns-in_default-read_within-2 : goal.returns-in_default-read_within-2
returns-in_default-read_within-2 c = refused_by _ 2 (some_if_none _ _ (sym c.in_default-read_within-2.ensures))

pub returns-in_default-read_within-3 : goal.returns-in_default-read_within-3
returns-in_default-read_within-3 c = refused_by _ 3 (some_if_none _ _ (sym c.in_default-read_within-3.ensures))

pub returns-in_default-first : goal.returns-in_default-first
returns-in_default-first c =
    let s = c.args.s.now in
    refused_by s 4 (under s first_right (state_of s).first.0 c.law-law.ensures (some_if_none _ _ (sym c.in_default-first.ensures)))

pub returns-in_default-second : goal.returns-in_default-second
returns-in_default-second c =
    let s = c.args.s.now in
    refused_by s 5 (under s second_right (state_of s).second.0 c.law-law.ensures (some_if_none _ _ (sym c.in_default-second.ensures)))

pub returns-in_default-yielded_pairs : goal.returns-in_default-yielded_pairs
returns-in_default-yielded_pairs c =
    let s = c.args.s.now in
    refused_by s 6 (counts s c.is_set-yielded.ensures c.read-pairs.ensures (some_if_none _ _ (sym c.in_default-yielded_pairs.ensures)))

pub returns : goal.returns
returns c =
    let s = c.args.s.now in
    let law = c.law-law.ensures in
    let zero = some_if_some _ _ (sym c.in-Some.ensures) in
    let strain = some_if_some _ _ (sym c.in-Some-read_within.ensures) in
    let temperature = some_if_some _ _ (sym c.in-Some-read_within-2.ensures) in
    let stress = some_if_some _ _ (sym c.in-Some-read_within-3.ensures) in
    let first = some_if_some _ _ (sym c.in-Some-first.ensures) in
    let second = some_if_some _ _ (sym c.in-Some-second.ensures) in
    let k = some_if_some _ _ (sym c.in-Some-yielded_pairs.ensures) in
    let strain_is = word_of_field s 8 32 (omega arith, omega arith) strain.1 in
    let temperature_is = word_of_field s 40 16 (omega arith, omega arith) temperature.1 in
    let stress_is = word_of_field s 56 48 (omega arith, omega arith) stress.1 in
    let first_is = word_of_field s 104 64 (omega arith, omega arith) first.1 in
    let second_is = word_of_field s 168 64 (omega arith, omega arith) second.1 in
    let zero_right = sym (within_itself 0 (zero_bits s)) ∙ zero.0 in
    let first_holds = under s first_right (state_of s).first.0 law first.0 in
    let second_holds = under s second_right (state_of s).second.0 law second.0 in
    let counts_hold = counts s c.is_set-yielded.ensures c.read-pairs.ensures k.0 in
    ap passes
    (λ i. record {
      law = law i;
      yielded = c.is_set-yielded.ensures i;
      strain = nano (strain_is i);
      temperature = tenths (temperature_is i);
      stress = grain (stress_is i);
      first = grain (first_is i);
      second = grain (second_is i);
      pairs = c.read-pairs.ensures i;
      yielded_pairs = k.1 i;
    })
    ∙ passed_by s (zero_right, (strain.0, (temperature.0, (stress.0, (first_holds, (second_holds, (counts_hold, tt)))))))

-- Past each `?` what was read is right, and is the sheet's.
use Rattle.std.proofs.Common.{arith, ℕ, List, Ok, true, ◌*◌, ◌≤◌, ◌≡◌, ap, ◌∙◌}
use Rattle.std.specs.Prelude.{Result}
use mathlib.Core.Path.{ap₂}
use Rattle.refusals.specs.declared.Reason.{Reason}
use Rattle.ranges.specs.Ranges.{grains}
use Rattle.units.specs.Kinds.{magnitude}
use Rattle.expansion.specs.declared.Coefficients.{Coefficients}
use Rattle.curve.specs.declared.Side.{Side}
use Rattle.sheet.specs.declared.Header.{Header}
use Rattle.sheet.specs.declared.Sheet.{Sheet}
use Rattle.sheet.specs.Sheets.{tension_count, compression_count, tension_yield, compression_yield, header_right, lengths_right, points_right, coefficients_in, sheet_of}
use Rattle.sheet.specs.ReaderAnswers.{right_or_field, header_of, header_in, side_read}
use Rattle.sheet.proofs.SheetLaws.{few_segments, points_fit, read_tells, lent_refused, part_read}
use Rattle.sheet.proofs.read_values.Goals as goal

-- The header that was read, and by it what the readers of both sides answer.
module _ (s : List ℕ) {h : Header} (read : Ok h ≡ header_in s) where
  header_is : (header_right s ≡ true) × (h ≡ header_of s)
  header_is = read_tells (header_right s) (header_of s) read

  few : (h.counts.tension ≤ 7) × (h.counts.compression ≤ 7)
  few = rw header_is.1 (few_segments s)

  module _ {answer : Result Side Reason} where
    tension_is : ((yield : ℕ) → h.yields.tension ≡ magnitude (yield * grains) → answer ≡ side_read s yield 0 h.counts.tension)
        → answer ≡ side_read s (tension_yield s) 0 (tension_count s)
    tension_is side =
        side (tension_yield s) (ap (λ (k : Header). k.yields.tension) header_is.1)
        ∙ ap (λ (k : Header). side_read s (tension_yield s) 0 k.counts.tension) header_is.1

    compression_is : ((yield : ℕ) → h.yields.compression ≡ magnitude (yield * grains) → answer ≡ side_read s yield h.counts.tension h.counts.compression)
        → answer ≡ side_read s (compression_yield s) (tension_count s) (compression_count s)
    compression_is side =
        side (compression_yield s) (ap (λ (k : Header). k.yields.compression) header_is.1)
        ∙ ap (λ (k : Header). side_read s (compression_yield s) k.counts.tension k.counts.compression) header_is.1

pub read_side-requires : goal.read_side-requires
read_side-requires c = (omega arith, (few c.args.s.now c.in_ok-counts.ensures).0, c.requires.0)

pub returns-in_err-read_side : goal.returns-in_err-read_side
returns-in_err-read_side c =
    let s = c.args.s.now in
    let exit = c.from_residual-in_err-read_side in
    let side = tension_is s c.in_ok-counts.ensures c.in_err-read_side.ensures in
    let wrong = lent_refused (lengths_right s 0 (tension_count s)) _ _ exit.result side exit.ensures.1 in
    rw ((header_is s c.in_ok-counts.ensures).0, wrong.0) wrong.1

pub read_side-requires-2 : goal.read_side-requires-2
read_side-requires-2 c =
    let counts = few c.args.s.now c.in_ok-counts.ensures in
    (counts.0, counts.1, c.requires.1)

pub returns-in_err-read_side-2 : goal.returns-in_err-read_side-2
returns-in_err-read_side-2 c =
    let s = c.args.s.now in
    let exit = c.from_residual-in_err-read_side-2 in
    let tension = read_tells (lengths_right s 0 (tension_count s)) _ (tension_is s c.in_ok-counts.ensures c.in_ok-read_side.ensures) in
    let side = compression_is s c.in_ok-counts.ensures c.in_err-read_side-2.ensures in
    let wrong = lent_refused (lengths_right s (tension_count s) (compression_count s)) _ _ exit.result side exit.ensures.1 in
    rw ((header_is s c.in_ok-counts.ensures).0, tension.0, wrong.0) wrong.1

pub read_coefficients-requires : goal.read_coefficients-requires
read_coefficients-requires c =
    let header = header_is c.args.s.now c.in_ok-counts.ensures in
    (ap (λ (h : Header). h.counts) header.1, rw header.1 (points_fit c.args.s.now header.0), ap (λ (h : Header). h.constants.expansion) header.1)

pub returns : goal.returns
unfolding sheet_of
returns c =
    let s = c.args.s.now in
    let header = header_is s c.in_ok-counts.ensures in
    let tension = read_tells (lengths_right s 0 (tension_count s)) _ (tension_is s c.in_ok-counts.ensures c.in_ok-read_side.ensures) in
    let compression = read_tells (lengths_right s (tension_count s) (compression_count s)) _ (compression_is s c.in_ok-counts.ensures c.in_ok-read_side-2.ensures) in
    let sheet : Header → Side → Side → Coefficients → Sheet = λ h t t' e.
    record { law = h.counts.law; modulus = h.constants.modulus; expansion = e; reference = h.constants.reference; tension = t; compression = t' } in
    let h = c.in_ok-counts.field-0 in
    let t = c.read_side.new.side in
    let t' = c.read_side-2.new.side in
    let read = part_read (sheet h t t') (points_right s) (coefficients_in s) _ c.read_coefficients.result c.read_coefficients.ensures in
    let same =
    ap (λ (h : Header). sheet h t t' (coefficients_in s)) header.1
    ∙ ap₂ (λ (t t' : Side). sheet (header_of s) t t' (coefficients_in s)) tension.1 compression.1 in
    rw (header.0, tension.0, compression.0) (read ∙ ap (right_or_field (points_right s)) same)

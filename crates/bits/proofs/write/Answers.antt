use Rattle.std.proofs.Common.{arith, ℕ, zero, suc, ◌≤◌, ◌<◌, ◌+◌, ◌-◌, ◌/◌, ◌%◌, ◌≡◌, sym, ap, ◌∙◌, List, length}
use Rattle.std.proofs.Math.ListN.{set}
use Rattle.bits.specs.Layout.{bytes_of, put}
use Rattle.bits.proofs.PutLaws.{length_bytes_of, put_nothing, put_store, put_whole}
use Rattle.bits.proofs.write.Goals as goal

module _ (part : List ℕ) (left rest : ℕ) {whole : List ℕ} (is : put part 0 (bytes_of left rest) ≡ whole) where
  -- One turn: the last of the bytes still to be put is stored.
  turn : 0 < left → left ≤ length part → put (set part (left - 1) (rest % 256)) 0 (bytes_of (left - 1) (rest / 256)) ≡ whole
  unfolding bytes_of
  turn some room = stored left some room ∙ is
    where
      stored : (left : ℕ) → 0 < left → left ≤ length part
          → put (set part (left - 1) (rest % 256)) 0 (bytes_of (left - 1) (rest / 256)) ≡ put part 0 (bytes_of left rest)
      stored zero some room = absurd (omega arith)
      stored (suc n) some room =
          let one : suc n - 1 ≡ n = omega arith in
          let long : length (bytes_of n (rest / 256)) ≡ n = length_bytes_of n (rest / 256) in
          let place : n ≡ 0 + length (bytes_of n (rest / 256)) = omega arith in
          rw one (ap (λ (k : ℕ). put (set part k (rest % 256)) 0 (bytes_of n (rest / 256))) place ∙ put_store part 0 (bytes_of n (rest / 256)) (rest % 256) (omega arith))

  -- Nothing is left to be put.
  ended : left ≤ 0 → part ≡ whole
  unfolding bytes_of
  ended most =
      let none : 0 ≡ left = omega arith in
      sym (put_nothing part 0) ∙ ap (λ (k : ℕ). put part 0 (bytes_of k rest)) none ∙ is

pub loop-i-init : goal.loop-i-init
loop-i-init g c =
    let n = length c.args.part.now in
    put_whole c.args.part.now (bytes_of n c.bits-rest.result) (sym (length_bytes_of n c.bits-rest.result))

pub loop-i-preserved : goal.loop-i-preserved
loop-i-preserved g c = turn c.loop-i.part c.loop-i.i c.loop-i.rest c.loop-i.invariant c.loop-i-test.true (omega (arith, c.loop-i.auto.part, c.loop-i.auto.i))

pub returns : goal.returns
returns g c = ended c.loop-i.part c.loop-i.i c.loop-i.rest c.loop-i.invariant c.loop-i-test.false ∙ ap (bytes_of (length c.args.part.now)) c.bits-rest.ensures

-- A rod that fits its fields: its numbers in whole bytes are its bytes.
use Prim.Native.Nat.{ℕ}
use mathlib.Core.Path.{◌≡◌, sym, ◌∙◌}
use mathlib.Core.List.{List, [], ◌∷◌}
use native.Mathlib.Omega.{arith}
use lib.ListN.{length, take}
use Rattle.law.proofs.LawLaws.{number_below_four}
use Rattle.bits.specs.Field.{bits_of}
use Rattle.bits.specs.Layout.{Part, filled, packed, bytes_of, put}
use Rattle.bits.proofs.SignLaws.{bits_below, flag_below}
use Rattle.bits.proofs.LayoutLaws.{Fit}
use Rattle.bits.proofs.PutLaws.{length_bytes_of, put_whole}
use Rattle.bits.proofs.WriteLaws.{Chunk, chunk, put_from, put_layout}
use Rattle.rod.specs.declared.Rod.{Rod}
use Rattle.state.specs.States.{state_layout, state_length, state_values, state_bytes, StateFits}

abbrev pub parts : Rod → List Part
parts r = filled state_layout (state_values r)

-- The numbers behind the first byte.
abbrev pub behind : Rod → List Chunk
behind r =
    chunk 4 (bits_of 32 r.strain.0)
    ∷ chunk 2 (bits_of 16 r.temperature.0)
    ∷ chunk 6 (bits_of 48 r.stress.0)
    ∷ chunk 8 (bits_of 64 r.first.0)
    ∷ chunk 8 (bits_of 64 r.second.0)
    ∷ chunk 4 r.pairs
    ∷ chunk 4 r.yielded_pairs
    ∷ []

pub fit : (r : Rod) → StateFits r → Fit (parts r)
fit r fits =
    let strain = bits_below 32 r.strain.0 (omega arith) fits.strain in
    let temperature = bits_below 16 r.temperature.0 (omega arith) fits.temperature in
    let stress = bits_below 48 r.stress.0 (omega arith) fits.stress in
    let first = bits_below 64 r.first.0 (omega arith) fits.first in
    let second = bits_below 64 r.second.0 (omega arith) fits.second in
    let law = number_below_four r.law in
    let yielded = flag_below r.yielded in
    (law, (yielded, (omega arith, (strain, (temperature, (stress, (first, (second, (fits.pairs, (fits.yielded_pairs, tt))))))))))

pub put_state : (r : Rod) → StateFits r → (bytes : List ℕ) → length bytes ≡ state_length
    → put_from (put bytes 0 (bytes_of 1 (packed (take 3 (parts r))))) 0 1 (behind r) ≡ state_bytes r
unfolding state_bytes
put_state r fits bytes long =
    put_layout bytes 0 (take 3 (parts r)) 1 (behind r) (fit r fits) (omega arith)
    ∙ put_whole bytes (state_bytes r) (long ∙ sym (length_bytes_of state_length (packed (parts r))))

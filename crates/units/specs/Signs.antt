-- Sign and magnitude of a whole number (SPEC 2.3, 2.4), cited by units, response, rod and what stands on them; definitions only, nothing is
-- assumed. The magnitude is `nat_abs` of lib.IntN.
use Rattle.std.specs.Prelude.{ℕ, Bool, true, false}
use lib.IntN.{ℤ, pos, negsuc, neg_ℤ}

-- SPEC 2.4: below 0; `negsuc n` is -(n + 1).
abbrev pub is_neg : ℤ → Bool
is_neg (pos n) = false
is_neg (negsuc n) = true

-- SPEC 2.3: a whole number put together from its sign and its magnitude.
abbrev pub with_sign : Bool → ℕ → ℤ
with_sign true n = neg_ℤ (pos n)
with_sign false n = pos n

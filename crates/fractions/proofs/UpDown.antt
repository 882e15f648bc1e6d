-- A whole number is the difference of two naturals, one of them nought: z = up z - dn z. `omega` reads naturals alone, so a fact about
-- whole numbers is handed to it through these parts.
use mathlib.Core.Path.{◌≡◌, refl, sym, ◌∙◌, ap}
use Prim.Native.Nat.{ℕ, zero, suc, ◌+◌, ◌-◌, ◌*◌, ◌≤◌, ◌<◌, min}
use native.Mathlib.Nat.{mul-zero}
use native.Mathlib.Omega.{arith}
use lib.Dec.{ltb, leb→le, le→leb, ltb→lt, lt→ltb, nltb→le}
use mathlib.Core.Bool.{Bool, true, false, cond}
use lib.IntN.{ℤ, pos, negsuc, neg_ℤ, nat_abs, sub_ℕ, ◌+ℤ◌, ◌-ℤ◌, ◌*ℤ◌}
use lib.Signed.{◌≤ℤ◌, ◌<ℤ◌, le_z_yes, lt_z_yes}

abbrev pub up : ℤ → ℕ
up (pos n) = n
up (negsuc n) = 0

abbrev pub dn : ℤ → ℕ
dn (pos n) = 0
dn (negsuc n) = suc n

pub one_part : (z : ℤ) → min (up z) (dn z) ≡ 0
one_part (pos n) = omega arith
one_part (negsuc n) = omega arith

pub abs_parts : (z : ℤ) → nat_abs z ≡ up z + dn z
abs_parts (pos n) = omega arith
abs_parts (negsuc n) = omega arith

pub equal_parts : (y z : ℤ) → up y + dn z ≡ up z + dn y → y ≡ z
equal_parts (pos a) (pos b) e = ap pos (omega arith)
equal_parts (pos a) (negsuc b) e = absurd (omega arith)
equal_parts (negsuc a) (pos b) e = absurd (omega arith)
equal_parts (negsuc a) (negsuc b) e = ap negsuc (omega arith)

sub_parts : (a b : ℕ) → up (sub_ℕ a b) + b ≡ a + dn (sub_ℕ a b)
sub_parts a b = go (ltb a b) refl
  where
    go : (c : Bool) → ltb a b ≡ c → up (cond c (negsuc (b - suc a)) (pos (a - b))) + b ≡ a + dn (cond c (negsuc (b - suc a)) (pos (a - b)))
    go true e = let h : a < b = ltb→lt a b (rw e tt) in omega arith
    go false e = let h : b ≤ a = nltb→le a b (rw e tt) in omega arith

pub add_parts : (y z : ℤ) → up (y +ℤ z) + (dn y + dn z) ≡ up y + up z + dn (y +ℤ z)
add_parts (pos a) (pos b) = omega arith
add_parts (pos a) (negsuc b) = omega (arith, sub_parts a (suc b))
add_parts (negsuc a) (pos b) = omega (arith, sub_parts b (suc a))
add_parts (negsuc a) (negsuc b) = omega arith

pub neg_parts : (z : ℤ) → (up (neg_ℤ z) ≡ dn z) × (dn (neg_ℤ z) ≡ up z)
neg_parts (pos zero) = (refl, refl)
neg_parts (pos (suc n)) = (refl, refl)
neg_parts (negsuc n) = (refl, refl)

pub sub-parts-ℤ : (y z : ℤ) → up (y -ℤ z) + (dn y + up z) ≡ up y + dn z + dn (y -ℤ z)
sub-parts-ℤ y z = omega (arith, add_parts y (neg_ℤ z), neg_parts z)

pub times_parts : (d : ℕ) (z : ℤ) → (up (pos d *ℤ z) ≡ d * up z) × (dn (pos d *ℤ z) ≡ d * dn z)
times_parts d (pos n) = (refl, sym (mul-zero d))
times_parts d (negsuc n) = ((neg_parts (pos (d * suc n))).0 ∙ sym (mul-zero d), (neg_parts (pos (d * suc n))).1)

pub mul_parts : (y z : ℤ) → up (y *ℤ z) + (up y * dn z + dn y * up z) ≡ up y * up z + dn y * dn z + dn (y *ℤ z)
mul_parts (pos a) z = omega (arith, times_parts a z)
mul_parts (negsuc a) (pos b) = omega (arith, neg_parts (pos (suc a * b)))
mul_parts (negsuc a) (negsuc b) = omega arith

-- The order, both ways.
pub le_parts : {y z : ℤ} → y ≤ℤ z → up y + dn z ≤ up z + dn y
le_parts {y = pos a} {z = pos b} h = omega (arith, leb→le a b h.le)
le_parts {y = pos a} {z = negsuc b} h = absurd h.le
le_parts {y = negsuc a} {z = pos b} h = omega arith
le_parts {y = negsuc a} {z = negsuc b} h = omega (arith, leb→le b a h.le)

pub le_of_parts : (y z : ℤ) → up y + dn z ≤ up z + dn y → y ≤ℤ z
le_of_parts (pos a) (pos b) h = le_z_yes (le→leb a b (omega arith))
le_of_parts (pos a) (negsuc b) h = absurd (omega arith)
le_of_parts (negsuc a) (pos b) h = le_z_yes tt
le_of_parts (negsuc a) (negsuc b) h = le_z_yes (le→leb b a (omega arith))

pub lt_parts : {y z : ℤ} → y <ℤ z → up y + dn z < up z + dn y
lt_parts {y = pos a} {z = pos b} h = omega (arith, ltb→lt a b h.lt)
lt_parts {y = pos a} {z = negsuc b} h = absurd h.lt
lt_parts {y = negsuc a} {z = pos b} h = omega arith
lt_parts {y = negsuc a} {z = negsuc b} h = omega (arith, ltb→lt b a h.lt)

pub lt_of_parts : (y z : ℤ) → up y + dn z < up z + dn y → y <ℤ z
lt_of_parts (pos a) (pos b) h = lt_z_yes (lt→ltb a b (omega arith))
lt_of_parts (pos a) (negsuc b) h = absurd (omega arith)
lt_of_parts (negsuc a) (pos b) h = lt_z_yes tt
lt_of_parts (negsuc a) (negsuc b) h = lt_z_yes (lt→ltb b a (omega arith))

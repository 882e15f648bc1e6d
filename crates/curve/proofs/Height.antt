-- E times T as a function of the naturals: the same in every unit, concave where the tangents fall, and past the yield flatter than the
-- diagonal where they are below E. Assumes nothing.
use Prim.Native.Nat.{ℕ, ◌+◌, ◌-◌, ◌*◌, ◌≤◌, ◌<◌, min}
use mathlib.Core.Path.{◌≡◌, ap, subst, fun_ext}
use mathlib.Core.Logic.{◌⊎◌, inl, inr}
use native.Mathlib.Nat.{mul-sub, mul_assoc, mul-le-mul_right, mul-lt-mul_of_pos_right, le_of_lt, le_dest, eq-zero-or-pos}
use native.Mathlib.Omega.{arith}
use Rattle.fractions.proofs.Concave.{Concave, linear_concave, sum_concave, multiple_concave, min_concave}
use Rattle.curve.specs.Curve.{Segments, last, segment, Below, Falling, rise, height}
use Rattle.curve.proofs.Rise.{rise_zero}

-- ---- Another unit: everything is counted in units of one c-th

min_scale : (c a b : ℕ) → min (c * a) (c * b) ≡ c * min a b
min_scale c a b =
    let by-gap : min a b ≡ a - (a - b) = omega arith in
    rw (by-gap, mul-sub c a (a - b), mul-sub c a b) (omega arith)

rise_scale : (c w : ℕ) (segments : Segments) (x : ℕ) → rise (c * w) segments (c * x) ≡ c * rise w segments x
unfolding rise
rise_scale c w (last t) x = omega arith
rise_scale c w (segment length t rest) x =
    rw (mul_assoc c w length, min_scale c x (w * length), ← mul-sub c x (w * length), rise_scale c w rest (x - w * length))
    (omega arith)

pub height_scale : (c E w y : ℕ) (segments : Segments) (a : ℕ) → height E (c * w) (c * y) segments (c * a) ≡ c * height E w y segments a
unfolding height
height_scale c E w y segments a =
    rw (min_scale c a y, ← mul-sub c a y, rise_scale c w segments (a - y)) (omega arith)

pub height_below_yield : (E w y : ℕ) (segments : Segments) (a : ℕ) → a ≤ y → height E w y segments a ≡ E * a
unfolding height
height_below_yield E w y segments a h =
    let start : a - y ≡ 0 = omega arith in
    let below : min a y ≡ a = omega arith in
    rw (start, below, rise_zero w segments) (omega arith)

-- ---- Concave

same_concave : {D E : ℕ} {f g : ℕ → ℕ} → D ≡ E → ((x : ℕ) → f x ≡ g x) → Concave D f → Concave E g
same_concave {E} {f} e h c = subst (λ (g : ℕ → ℕ). Concave E g) (fun_ext h) (subst (λ (d : ℕ). Concave d f) e c)

-- u over m and v, and t - u more over m, is t over m and u over v.
slopes : (t u m v : ℕ) → u ≤ t → (t - u) * m + u * (m + v) ≡ t * m + u * v
slopes t u m v h = go (le_dest h)
  where
    go : (k : ℕ) × (u + k ≡ t) → (t - u) * m + u * (m + v) ≡ t * m + u * v
    go (k, p) = let gap : t - u ≡ k = omega arith in rw (gap, ← p) (omega arith)

-- A first part of slope t up to l, before the rest. The rise over both is that with the slope of the next part, u, up to l, and t - u more
-- there: a sum of two concave functions, since the part of slope u goes on into the next one.
first_concave : (w : ℕ) (rest : Segments) (l t : ℕ) → Falling t rest → Concave t (λ x. t * min x l + rise w rest (x - l))
unfolding rise
first_concave w (last u) l t falls =
    same_concave (omega arith)
    (λ x.
    let parts : x ≡ min x l + (x - l) = omega arith in
    omega (arith, slopes t u (min x l) (x - l) falls, ap (λ (n : ℕ). u * n) parts))
    (sum_concave (multiple_concave (t - u) (min_concave l)) (linear_concave u))
first_concave w (segment length u rest) l t falls =
    same_concave (omega arith)
    (λ x.
    let beyond : x - (l + w * length) ≡ x - l - w * length = omega arith in
    let parts : min x (l + w * length) ≡ min x l + min (x - l) (w * length) = omega arith in
    rw (beyond, parts) (omega (arith, slopes t u (min x l) (min (x - l) (w * length)) falls.0)))
    (sum_concave (multiple_concave (t - u) (min_concave l)) (first_concave w rest (l + w * length) u falls.1))

pub height_concave : (E w y : ℕ) (segments : Segments) → Falling E segments → Concave E (height E w y segments)
unfolding height
height_concave E w y segments falls = first_concave w segments y E falls

-- ---- Flatter than the diagonal past the yield

rise_below : (E w : ℕ) (segments : Segments) → Below E segments → (x n : ℕ) → 0 < n → rise w segments (x + n) < rise w segments x + E * n
unfolding rise
rise_below E w (last t) h x n some = omega (arith, mul-lt-mul_of_pos_right h some)
rise_below E w (segment length t rest) h x n some =
    let l = w * length in
    go (min (x + n) l - min x l) (x + n - l - (x - l)) (omega arith) (omega arith) (omega arith) (rise_below E w rest h.1 (x - l)) (eq-zero-or-pos (x + n - l - (x - l)))
  where
    -- of the n, m lie on the first segment and v beyond it
    go : (m v : ℕ) → min (x + n) (w * length) ≡ min x (w * length) + m → x + n - w * length ≡ x - w * length + v → m + v ≡ n
        → ((k : ℕ) → 0 < k → rise w rest (x - w * length + k) < rise w rest (x - w * length) + E * k) → (v ≡ 0) ⊎ (0 < v)
        → t * min (x + n) (w * length) + rise w rest (x + n - w * length) < t * min x (w * length) + rise w rest (x - w * length) + E * n
    go m v p q s beyond (inl none) =
        let same : x - w * length + v ≡ x - w * length = omega arith in
        let all : m ≡ n = omega arith in
        rw (p, q, same, all) (omega (arith, mul-lt-mul_of_pos_right h.0 some))
    go m v p q s beyond (inr more) =
        rw (p, q, ← s) (omega (arith, beyond v more, mul-le-mul_right m (le_of_lt h.0)))

pub height_below : (E w y : ℕ) (segments : Segments) → Below E segments → (a n : ℕ) → y ≤ a → 0 < n → height E w y segments (a + n) < height E w y segments a + E * n
unfolding height
height_below E w y segments h a n past some =
    let here : min a y ≡ y = omega arith in
    let there : min (a + n) y ≡ y = omega arith in
    let beyond : a + n - y ≡ a - y + n = omega arith in
    rw (here, there, beyond) (omega (arith, rise_below E w segments h (a - y) n some))

-- Which segment holds an abscissa: from the yield on one and no other does, and its tangent is the slope of T there. Assumes nothing.
use Prim.Native.Nat.{ℕ, ◌+◌, ◌-◌, ◌*◌, ◌≤◌, ◌<◌, min}
use mathlib.Core.Path.{◌≡◌, refl, sym, ◌∙◌, ap, subst}
use mathlib.Core.Bool.{Bool, true, false, cond}
use mathlib.Core.List.Memᴰ
use mathlib.Core.List.{◌∷◌, Memᴰ}
use mathlib.Core.Logic.{⊎_elim}
use native.Mathlib.Decide.{dec_le}
use native.Mathlib.Omega.{arith}
use lib.Dec.{T, leb, leb→le, ltb→lt}
use mir.Facts.{and_yes}
use borrow.Author.Tests.{lt-ltb, le-ltb, le-leb, lt-leb}
use Rattle.curve.specs.Curve.{Segments, last, segment, rise, height}
use Rattle.curve.specs.Tangent.{End, at, nowhere, Span, before, holds, spans, tangent_in}
use Rattle.curve.proofs.Rise.{rise_last, rise_within, rise_beyond}

module _ (start end t a : ℕ) where
  held_within : start ≤ a → a < end → holds (record { start = start; end = at end; tangent = t }) a ≡ true
  held_within h k = rw (le-leb start a h) (lt-ltb a end k)

  not_held_beyond : start ≤ end → end ≤ a → holds (record { start = start; end = at end; tangent = t }) a ≡ false
  not_held_beyond h k = rw (le-leb start a (omega arith)) (le-ltb a end k)

tangent_beyond : (E start a length t : ℕ) (rest : Segments) → start + E * length ≤ a
    → tangent_in E (spans E start (segment length t rest)) a ≡ tangent_in E (spans E (start + E * length) rest) a
unfolding spans tangent_in
tangent_beyond E start a length t rest h = rw (not_held_beyond start (start + E * length) t a (omega arith) h)

-- Below its start none does.
pub tangent_below : (E a : ℕ) (segments : Segments) (start : ℕ) → a < start → tangent_in E (spans E start segments) a ≡ E
unfolding spans tangent_in
tangent_below E a (last t) start h = rw (lt-leb start a h)
tangent_below E a (segment length t rest) start h = rw (lt-leb start a h) (tangent_below E a rest (start + E * length) (omega arith))

-- ---- One segment and no other holds an abscissa that is not below the yield

starts_from : (E start : ℕ) (segments : Segments) (p : Span) → Memᴰ p (spans E start segments) → start ≤ p.start
unfolding spans
starts_from E start (last t) p m = ⊎_elim (λ is. omega (arith, ap (λ (q : Span). q.start) is)) (λ none. absurd (Memᴰ.not-nil none)) (Memᴰ.cases_cons m)
starts_from E start (segment length t rest) p m =
    ⊎_elim (λ is. omega (arith, ap (λ (q : Span). q.start) is)) (λ later. omega (arith, starts_from E (start + E * length) rest p later)) (Memᴰ.cases_cons m)

held_from : (p : Span) (a : ℕ) → T (holds p a) → p.start ≤ a
held_from p a held = leb→le p.start a (and_yes (leb p.start a) (before a p.end) held).0

cond_yes : (b : Bool) (x y : ℕ) → T b → cond b x y ≡ x
cond_yes true x y yes' = refl
cond_yes false x y yes' = absurd yes'

first_holds : (p q : Span) (a otherwise : ℕ) → p ≡ q → T (holds p a) → cond (holds q a) q.tangent otherwise ≡ p.tangent
first_holds p q a otherwise is held =
    cond_yes (holds q a) q.tangent otherwise (subst (λ (q : Span). T (holds q a)) is held) ∙ sym (ap (λ (q : Span). q.tangent) is)

-- The tangent is that of the segment with start ≤ abscissa < end, whichever that is ..
pub tangent_of_holder : (E a start : ℕ) (segments : Segments) (p : Span) → Memᴰ p (spans E start segments) → T (holds p a) → tangent_in E (spans E start segments) a ≡ p.tangent
unfolding spans tangent_in
tangent_of_holder E a start (last t) p m held =
    ⊎_elim (λ is. first_holds p (record { start = start; end = nowhere; tangent = t }) a E is held) (λ none. absurd (Memᴰ.not-nil none)) (Memᴰ.cases_cons m)
tangent_of_holder E a start (segment length t rest) p m held =
    ⊎_elim
    (λ is. first_holds p (record { start = start; end = at (start + E * length); tangent = t }) a (tangent_in E (spans E (start + E * length) rest) a) is held)
    (λ later.
    let beyond : start + E * length ≤ a = omega (arith, starts_from E (start + E * length) rest p later, held_from p a held) in
    tangent_beyond E start a length t rest beyond ∙ tangent_of_holder E a (start + E * length) rest p later held)
    (Memᴰ.cases_cons m)

-- .. and from the yield on there is one.
pub holder_exists : (E a start : ℕ) (segments : Segments) → start ≤ a → (p : Span) × Memᴰ p (spans E start segments) × T (holds p a)
unfolding spans
holder_exists E a start (last t) h =
    (record { start = start; end = nowhere; tangent = t }, Memᴰ.head refl, rw (le-leb start a h) tt)
holder_exists E a start (segment length t rest) h =
    go (holder_exists E a (start + E * length) rest) (dec_le (start + E * length) a)
  where
    here : Span
    here = record { start = start; end = at (start + E * length); tangent = t }

    go : (start + E * length ≤ a → (p : Span) × Memᴰ p (spans E (start + E * length) rest) × T (holds p a))
        → Dec (start + E * length ≤ a) → (p : Span) × Memᴰ p (here ∷ spans E (start + E * length) rest) × T (holds p a)
    go later (yes beyond) = let (p, m, held) = later beyond in (p, Memᴰ.tail m, held)
    go later (no within) = (here, Memᴰ.head refl, rw (held_within start (start + E * length) t a h (omega arith)) tt)

-- ---- The tangent is the slope of T

-- Not past the end.
abbrev pub UpTo : End → ℕ → Type 0
UpTo (at end) a = a ≤ end
UpTo nowhere a = Unit {0}

-- A segment that holds an abscissa doesn't end before it.
pub held_up_to : (p : Span) (a : ℕ) → T (holds p a) → UpTo p.end a
held_up_to p a held = go p.end (and_yes (leb p.start a) (before a p.end) held).1
  where
    go : (end : End) → T (before a end) → UpTo end a
    go (at end) h = omega (arith, ltb→lt a end h)
    go nowhere h = tt

-- t over x and over y.
slope_adds : (t start a b : ℕ) → start ≤ a → a ≤ b → t * (b - start) ≡ t * (a - start) + t * (b - a)
slope_adds t start a b h k =
    let parts : b - start ≡ a - start + (b - a) = omega arith in
    rw parts (omega arith)

-- Over a segment, from a to b, E times the rise is its tangent times b - a.
tangent_is_slope : (E start : ℕ) (segments : Segments) (p : Span) → Memᴰ p (spans E start segments) → (a b : ℕ) → p.start ≤ a → a ≤ b → UpTo p.end b
    → rise E segments (b - start) ≡ rise E segments (a - start) + p.tangent * (b - a)
unfolding spans
tangent_is_slope E start (last t) p m a b from h to =
    ⊎_elim (λ is. subst (λ (q : Span). q.start ≤ a → rise E (last t) (b - start) ≡ rise E (last t) (a - start) + q.tangent * (b - a)) (sym is) here from) (λ none. absurd (Memᴰ.not-nil none)) (Memᴰ.cases_cons m)
  where
    here : start ≤ a → rise E (last t) (b - start) ≡ rise E (last t) (a - start) + t * (b - a)
    here from' = rw (rise_last E t (b - start), rise_last E t (a - start)) (slope_adds t start a b from' h)
tangent_is_slope E start (segment length t rest) p m a b from h to =
    ⊎_elim
    (λ is. subst (λ (q : Span). q.start ≤ a → UpTo q.end b → rise E (segment length t rest) (b - start) ≡ rise E (segment length t rest) (a - start) + q.tangent * (b - a)) (sym is) here from to)
    (λ later. beyond (starts_from E (start + E * length) rest p later) (tangent_is_slope E (start + E * length) rest p later a b from h to))
    (Memᴰ.cases_cons m)
  where
    here : start ≤ a → b ≤ start + E * length → rise E (segment length t rest) (b - start) ≡ rise E (segment length t rest) (a - start) + t * (b - a)
    here from' to' =
        rw (rise_within E length t rest (b - start) (omega arith), rise_within E length t rest (a - start) (omega arith))
        (slope_adds t start a b from' h)

    beyond : start + E * length ≤ p.start → rise E rest (b - (start + E * length)) ≡ rise E rest (a - (start + E * length)) + p.tangent * (b - a)
        → rise E (segment length t rest) (b - start) ≡ rise E (segment length t rest) (a - start) + p.tangent * (b - a)
    beyond after same =
        let at_a : a - start ≡ E * length + (a - (start + E * length)) = omega arith in
        let at_b : b - start ≡ E * length + (b - (start + E * length)) = omega arith in
        rw (at_a, at_b, rise_beyond E length t rest (a - (start + E * length)), rise_beyond E length t rest (b - (start + E * length)), same)
        (omega arith)

-- The same of E times T.
pub height_slope : (E y : ℕ) (segments : Segments) (p : Span) → Memᴰ p (spans E y segments) → (a b : ℕ) → p.start ≤ a → a ≤ b → UpTo p.end b
    → height E E y segments b ≡ height E E y segments a + p.tangent * (b - a)
unfolding height
height_slope E y segments p m a b from h to =
    let past = starts_from E y segments p m in
    let at_a : min a y ≡ y = omega arith in
    let at_b : min b y ≡ y = omega arith in
    rw (at_a, at_b, tangent_is_slope E y segments p m a b from h to) (omega arith)

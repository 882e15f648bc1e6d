-- What the members come to, taken apart (SPEC 15.4): all pass, or the lowest refused one has members before it that pass.
use Prim.Native.Nat.{ℕ, suc, ◌+◌}
use mathlib.Core.Path.{◌≡◌, refl, sym, ap, ◌∙◌}
use mathlib.Core.List.{List, [], ◌∷◌, ◌++◌}
use native.Mathlib.Omega.{arith}
use lib.ListN.{length}
use Rattle.refusals.specs.Table.{Answer, passes, refused}
use Rattle.sheet.specs.declared.Sheet.{Sheet}
use Rattle.rod.specs.declared.step.Advance.{Advance}
use Rattle.section.specs.declared.Member.{Member}
use Rattle.section.specs.declared.Change.{Change}
use Rattle.section.specs.Sections.{member_answer, Move, move_of, Moves, all, stopped, moves_on, moves_from}

pub same_all : {v w : List Move} → all v ≡ all w → v ≡ w
same_all e = cc

pub same_stopped : {a b n p : ℕ} → stopped a b ≡ stopped n p → (a ≡ n) × (b ≡ p)
same_stopped e = (cc, cc)

pub all_is_not_stopped : {v : List Move} {n p : ℕ} → all v ≡ stopped n p → ⊥
all_is_not_stopped e = let z : ◌≡◌ {A = ℕ} 0 1 = cc in omega (arith, z)

module _ (h : Sheet) (c : Change) where
  -- Some members pass, each with its next state and row,
  abbrev pub Pass : List Member → List Advance → Type 0
  Pass [] [] = Unit {0}
  Pass [] (a ∷ advances) = ⊥
  Pass (m ∷ members) [] = ⊥
  Pass (m ∷ members) (a ∷ advances) = (member_answer h c m ≡ passes a) × Pass members advances

  -- and move so.
  abbrev pub moves_of : List Member → List Advance → List Move
  moves_of [] advances = []
  moves_of (m ∷ members) [] = []
  moves_of (m ∷ members) (a ∷ advances) = move_of m a ∷ moves_of members advances

  pub pass_move : (place : ℕ) (members : List Member) (advances : List Advance) → Pass members advances
      → moves_from h c place members ≡ all (moves_of members advances)
  unfolding moves_from
  pass_move place [] [] e = refl
  pass_move place [] (a ∷ advances) e = absurd e
  pass_move place (m ∷ members) [] e = absurd e
  pass_move place (m ∷ members) (a ∷ advances) (e, rest) = (λ i. moves_on m place (e i) (pass_move (place + 1) members advances rest i))

  pub one_stops : (place : ℕ) (before : List Member) (advances : List Advance) (m : Member) (behind : List Member) {n : ℕ} → Pass before advances
      → member_answer h c m ≡ refused n → moves_from h c place (before ++ (m ∷ behind)) ≡ stopped n (place + length before)
  unfolding moves_from
  one_stops place [] [] m behind {n} pass e =
      let at : place ≡ place + 0 = omega arith in
      (λ i. moves_on m place (e i) (moves_from h c (place + 1) behind)) ∙ ap (stopped n) at
  one_stops place [] (a ∷ advances) m behind pass e = absurd pass
  one_stops place (x ∷ before) [] m behind pass e = absurd pass
  one_stops place (x ∷ before) (a ∷ advances) m behind {n} (this, pass) e =
      let at : place + 1 + length before ≡ place + suc (length before) = omega arith in
      (λ i. moves_on x place (this i) (one_stops (place + 1) before advances m behind pass e i)) ∙ ap (stopped n) at

  -- There is no other way.
  pub record AllPass (members : List Member) : Type 0 where
    pub advances : List Advance
    pub pass : Pass members advances

  pub record OneStops (place : ℕ) (members : List Member) (n p : ℕ) : Type 0 where
    pub before : List Member
    pub advances : List Advance
    pub member : Member
    pub behind : List Member
    pub in_order : members ≡ before ++ (member ∷ behind)
    pub pass : Pass before advances
    pub refuses : member_answer h c member ≡ refused n
    pub at : p ≡ place + length before

  pub all_pass : (place : ℕ) (members : List Member) {vs : List Move} → moves_from h c place members ≡ all vs → AllPass members
  unfolding moves_from
  all_pass place [] e = record { advances = []; pass = tt }
  all_pass place (m ∷ members) {vs} e = by_answer (member_answer h c m) refl (moves_from h c (place + 1) members) refl e (λ ws is. all_pass (place + 1) members {vs = ws} is)
    where
      by_answer : (x : Answer Advance) → member_answer h c m ≡ x → (v : Moves) → moves_from h c (place + 1) members ≡ v → moves_on m place x v ≡ all vs
          → ((ws : List Move) → moves_from h c (place + 1) members ≡ all ws → AllPass members) → AllPass (m ∷ members)
      by_answer (passes a) is (all ws) v e onward = let rest = onward ws v in record { advances = a ∷ rest.advances; pass = (is, rest.pass) }
      by_answer (passes a) is (stopped n p) v e onward = absurd (all_is_not_stopped (sym e))
      by_answer (refused n) is v _ e onward = absurd (all_is_not_stopped (sym e))

  pub one_stopped : (place : ℕ) (members : List Member) {n p : ℕ} → moves_from h c place members ≡ stopped n p → OneStops place members n p
  unfolding moves_from
  one_stopped place [] e = absurd (all_is_not_stopped e)
  one_stopped place (m ∷ members) {n} {p} e = by_answer (member_answer h c m) refl (moves_from h c (place + 1) members) e (λ is. one_stopped (place + 1) members is)
    where
      by_answer : (x : Answer Advance) → member_answer h c m ≡ x → (v : Moves) → moves_on m place x v ≡ stopped n p
          → (v ≡ stopped n p → OneStops (place + 1) members n p) → OneStops place (m ∷ members) n p
      by_answer (refused k) is v e onward =
          let (number, at) = same_stopped e in
          record { before = []; advances = []; member = m; behind = members; in_order = refl; pass = tt; refuses = is ∙ ap refused number; at = omega (arith, at) }
      by_answer (passes a) is (all ws) e onward = absurd (all_is_not_stopped e)
      by_answer (passes a) is (stopped k q) e onward =
          let rest = onward e in
          record {
            before = m ∷ rest.before;
            advances = a ∷ rest.advances;
            member = rest.member;
            behind = rest.behind;
            in_order = ap (λ (l : List Member). m ∷ l) rest.in_order;
            pass = (is, rest.pass);
            refuses = rest.refuses;
            at = omega (arith, rest.at);
          }

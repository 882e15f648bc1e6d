-- What goes along with a rod (SPEC 7.12, 7.15): after each accepted pair it is again the rod's own.
use Prim.Native.Nat.{ℕ}
use mathlib.Core.Path.{◌≡◌, refl, sym, ap, subst, ◌∙◌}
use mathlib.Core.List.{List}
use Rattle.std.specs.Prelude.{Ok, Err}
use Rattle.refusals.specs.Table.{Answer, passes, refused, first_of}
use Rattle.refusals.specs.declared.Reason.{Reason}
use Rattle.refusals.specs.Reasons.{number_of}
use Rattle.refusals.proofs.FirstLaws.{passes_given}
use Rattle.units.specs.Kinds.{nano}
use Rattle.units.specs.declared.Nano.{Nano}
use Rattle.sheet.specs.declared.Sheet.{Sheet}
use Rattle.sheet.specs.Thermal.{thermal_of}
use Rattle.pair.specs.declared.Pair.{Pair}
use Rattle.row.specs.declared.Row.{Row}
use Rattle.response.specs.declared.Limits.{Limits}
use Rattle.response.specs.Limits.{limits_of, limits_after}
use Rattle.response.proofs.LimitLaws.{limits_kept}
use Rattle.rod.specs.declared.step.Advance.{Advance}
use Rattle.rod.specs.Steps.{trial_of, step_refusals, advance_of}
use Rattle.carry.specs.declared.Reached.{Reached}
use Rattle.carry.specs.declared.standing.Carried.{Carried}
use Rattle.carry.specs.Walk.{pair_answer}
use Rattle.carry.specs.Reaching.{reached_of, Stands}
use Rattle.carry.specs.Trying.{trial_told}
use Rattle.rod.specs.Accepted.{PairAccepted}
use Rattle.state.proofs.Passing.{next_state_passes}
use Rattle.carry.proofs.PairAnswers.{next_passes}

limits_stand : {h : Sheet} {x : Reached} → Stands h x → x.limits ≡ limits_of h x.rod.first.0 x.rod.second.0
limits_stand s = ap (λ (y : Reached). y.limits) s.reached

-- What kept-up limits and the thermal strain of the pair make of the rod after an accepted pair.
reached_next : {h : Sheet} {x : Reached} (p : Pair) {a : Advance} {l : Limits} {w : Nano} → Stands h x
    → first_of (step_refusals h x.rod p) (advance_of h x.rod p) ≡ passes a → l ≡ limits_after h.law a.row.yielded a.row.stress.0 x.limits
    → w ≡ nano (thermal_of h p.temperature.0) → record { rod = a.rod; limits = l; thermal = w } ≡ reached_of h a.rod
unfolding advance_of
reached_next {h} {x} p {a} {l} {w} stands e is warm =
    let r = x.rod in
    let before = limits_of h r.first.0 r.second.0 in
    let kept : limits_of h a.rod.first.0 a.rod.second.0 ≡ limits_after h.law a.row.yielded a.row.stress.0 before =
    subst (λ (b : Advance). limits_of h b.rod.first.0 b.rod.second.0 ≡ limits_after h.law b.row.yielded b.row.stress.0 before)
    (passes_given (step_refusals h r p) (advance_of h r p) e) (limits_kept h stands.accepted.sound r.first.0 r.second.0 (trial_of h r p)) in
    let same = is ∙ ap (limits_after h.law a.row.yielded a.row.stress.0) (limits_stand stands) ∙ sym kept in
    let thermal : w ≡ nano (thermal_of h a.rod.temperature.0) = warm ∙ ap (λ (b : Advance). nano (thermal_of h b.rod.temperature.0)) (passes_given (step_refusals h r p) (advance_of h r p) e) in
    λ i. record { rod = a.rod; limits = same i; thermal = thermal i }

-- So the rod after an accepted pair stands again.
pub step_stands : {h : Sheet} {x : Reached} (p : Pair) {a : Advance} {l : Limits} {w : Nano} → Stands h x → PairAccepted p
    → first_of (step_refusals h x.rod p) (advance_of h x.rod p) ≡ passes a → l ≡ limits_after h.law a.row.yielded a.row.stress.0 x.limits
    → w ≡ nano (thermal_of h p.temperature.0) → Stands h (record { rod = a.rod; limits = l; thermal = w })
step_stands {h} p stands pair e is warm =
    subst (Stands h) (sym (reached_next p stands e is warm)) (record { accepted = (next_state_passes p stands.accepted pair e).accepted; reached = refl })

-- The same of a pair by its bytes.
pub stands_next : {h : Sheet} {x y : Reached} (pair : List ℕ) {a : Advance} → Stands h x → pair_answer h x.rod pair ≡ passes a → y ≡ reached_of h a.rod → Stands h y
stands_next {h} pair {a} stands e is =
    subst (Stands h) (sym is) (record { accepted = (next_passes pair stands.accepted e).0.accepted; reached = refl })

-- What an accepted trial leads to: the pair's table passes with this rod and row, and what goes along is the rod's own.
pub record Leads (h : Sheet) (x : Answer Advance) (to : Reached) (row : Row) : Type 0 where
  pub answer : x ≡ passes (record { rod = to.rod; row = row })
  pub own : to ≡ reached_of h to.rod

pub tried_accepted : {h : Sheet} (x : Answer Advance) (c : Carried) → c.to.material.now.sheet ≡ h → trial_told (Ok c) ≡ x → Leads h x c.to.reached c.row
tried_accepted x c same e =
    record { answer = sym e; own = subst (λ (g : Sheet). c.to.reached ≡ reached_of g c.to.reached.rod) same c.to.stands.reached }

-- Kept, it leads to the same.
pub kept_leads : {h : Sheet} {x : Answer Advance} {to kept : Reached} {row : Row} → Leads h x to row → kept ≡ to → Leads h x kept row
kept_leads {h} {x} {row} leads is = subst (λ (y : Reached). Leads h x y row) (sym is) leads

pub tried_refused : (x : Answer Advance) (r : Reason) → trial_told (Err r) ≡ x → x ≡ refused (number_of r)
tried_refused x r e = sym e

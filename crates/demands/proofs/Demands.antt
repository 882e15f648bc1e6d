-- The three demands of the mission, in their final form (SPEC 9.11 to 9.13, 11.8 to 11.11, 11.15, 11.16, 15.8 to 15.11, 16.7 to 16.9, 17.7,
-- 17.8). They are over the definitions of what calls, trials, keepings, gradings and sections answer and leave, with which the contracts of
-- the entries are equations; what each claims is said in specs/Demands, specs/Lists, specs/Trials, specs/Gradings and specs/Sections.
use Prim.Native.Nat.{ℕ}
use mathlib.Core.Path.{◌≡◌}
use mathlib.Core.List.{List}
use Rattle.refusals.specs.Table.{passes, NoneApplies}
use Rattle.sheet.specs.Sheets.{sheet_of}
use Rattle.sheet.specs.Sound.{SheetSound}
use Rattle.judge.specs.Standing.{standing_refusals}
use Rattle.tie_rod.specs.Calls.{unused_answer}
use Rattle.demands.specs.Sections.{WithinFrom}
use Rattle.demands.specs.Demands.{Answered, SolvedFrom}
use Rattle.demands.proofs.Demand1.{all_answered}
use Rattle.demands.proofs.Demand2.{all_solved}
use Rattle.demands.proofs.GradingAnswers.{grading_answered}
use Rattle.demands.proofs.SectionAnswers.{section_answered}
use Rattle.demands.proofs.SectionLists.{within_from}

-- SPEC 9.11, 15.8, 16.7, 16.8, 17.7, demand 1: any bytes of any length, as sheet and as state, with any call, trial, keeping, grading,
-- section, forecast or unused rod asked of them, are answered with the number and place that the tables give and with no others, never the
-- number that was taken out (8.7), and all that was lent is as the stage of the refusal says.
pub demand_1 : (sheet state : List ℕ) → Answered sheet state
demand_1 sheet state = all_answered sheet state (grading_answered sheet state) (section_answered sheet)

-- SPEC 9.12, 9.13, 16.9, demand 2: for any sheet and state that pass 1 to 6 and 13, reachable or not, each pair that a call or a trial
-- accepts, or a keeping hands on, leaves the roundings of the one solution that the law's conditions have there, with the law's tangent;
-- and no trial passes both limits (6.6).
pub demand_2 : (sheet state : List ℕ) → NoneApplies (standing_refusals sheet state)
    → (sound : SheetSound (sheet_of sheet)) × SolvedFrom sheet state sound
demand_2 = all_solved

-- SPEC 11.8 to 11.11, 11.15, 11.16, 15.11, 17.8, demand 3: for any sheet from which an unused rod is made, and any list of single pairs,
-- runs, trials and keepings that begins with that rod, the stored rod lies at every stop within k grains of the bar without rounding that
-- is fed the history, and its k and n are true; and so for each member of a section whose members begin as such rods, behind any list of
-- section calls. A table graded from where such a list has come to lies within d + k of that bar in each row before the one that is named,
-- or in all, and more than d - k away in that one.
pub demand_3 : (sheet first : List ℕ) → unused_answer sheet ≡ passes first → (sound : SheetSound (sheet_of sheet)) × WithinFrom sheet sound first
demand_3 = within_from

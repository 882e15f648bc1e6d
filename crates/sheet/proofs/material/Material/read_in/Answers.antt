use Rattle.std.proofs.Common.{sym}
use Rattle.sheet.proofs.Passed.{passed_sound}
use Rattle.sheet.proofs.material.Material.read_in.Goals as goal

-- A sheet that was read is sound.
pub invariant_of-material : goal.invariant_of-material
invariant_of-material c = record { sound = (passed_sound c.args.s.now (sym c.in_ok-read.ensures)).1 }

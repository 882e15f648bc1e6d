use Rattle.std.proofs.Common.{◌/◌}
use Rattle.bits.proofs.PutLaws.{put_number}
use Rattle.bits.proofs.Field.write.Goals as goal

pub returns : goal.returns
returns g c =
    let a = c.args in
    put_number a.buffer.now (a.self.at / 8) (a.self.width / 8) (λ n. g.N.Number.bits n a.x) c.requires.room c.write.ensures

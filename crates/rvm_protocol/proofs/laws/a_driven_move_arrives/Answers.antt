use Rattle.rvm_protocol.proofs.DriveCount.{drive_count}
use Rattle.rvm_protocol.proofs.DrivenMoveHolds.{drive_law, declined_law}
use Rattle.rvm_protocol.proofs.laws.a_driven_move_arrives.Goals as goal

pub returns : goal.returns
returns g c = record { always = λ m laws. drive_law m laws; declined = λ m laws. declined_law m laws; count = drive_count _ }

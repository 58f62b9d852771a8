use Rattle.std.proofs.Common.{refl}
use Rattle.tapes.specs.Hinge.{HingeTape}
use Rattle.tapes.specs.Reading.{read_from, reads, reads_on}
use Rattle.tapes.proofs.laws.hinge_tape.Goals as goal

computed : HingeTape
unfolding read_from reads reads_on
computed = record {
  encoded = refl;
  part = refl;
  bodies = refl;
  faces = refl;
  ends = λ name. refl;
  close50 = λ name. refl;
  close42 = λ name. refl;
  close51 = λ name. refl;
}

pub returns : goal.returns
returns c = computed

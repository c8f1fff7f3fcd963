use Rattle.writing.proofs.Sounds.{reads_back}
use Rattle.writing.proofs.write_circuit.Goals as goal

pub returns-clause-back : goal.returns-clause-back
returns-clause-back g c = reads_back (g.C.Circuit.meaning c.args.circuit.now) (g.C.Circuit.laws c.args.circuit.now)

use Rattle.spice_num.proofs.Written.{written_reads}
use Rattle.spice_num.proofs.writing.written_reads_back.Goals as goal

pub returns : goal.returns
returns c = written_reads

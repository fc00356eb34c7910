use Rattle.hx_lawful.proofs.Covered.{covers_at}
use Rattle.hx_lawful.proofs.covers.lawful_reads_cover_the_board.Goals as goal

pub returns : goal.returns
returns c = covers_at

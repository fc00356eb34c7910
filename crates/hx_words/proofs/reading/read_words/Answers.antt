use Rattle.std.proofs.Common.{rules}
use Rattle.hx_words.proofs.reading.read_words.Goals as goal

pub read_words_with-requires : goal.read_words_with-requires
read_words_with-requires c = search rules

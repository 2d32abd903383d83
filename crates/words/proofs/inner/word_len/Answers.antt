-- `words::inner::word_len` meets its contract. Assumes nothing.
use mathlib.Core.Path.{sym, ap}
use lib.ListN.{length}
use Rattle.words.proofs.Words.{word-one, word_two}
use Rattle.words.proofs.inner.word_len.Goals as goal

pub returns-then-m-eq0 : goal.returns-then-m-eq0
returns-then-m-eq0 c = sym (ap length (word-one c.args.m c.if-m-eq0.true))

pub returns-else-m-eq0 : goal.returns-else-m-eq0
returns-else-m-eq0 c = sym (ap length (word_two c.args.m c.if-m-eq0.false))

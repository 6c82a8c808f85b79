-- The test over all entries, computed.
use Rattle.std.proofs.Common.{refl}
use Rattle.isa.specs.Decode.{by_code}
use Rattle.word_class.specs.Classes.{class_of}
use Rattle.word_class.proofs.Entries.{sorted}
use Rattle.word_class.proofs.table.table.Goals as goal

pub returns-clause-sorts : goal.returns-clause-sorts
unfolding class_of by_code
returns-clause-sorts c = sorted _ refl refl

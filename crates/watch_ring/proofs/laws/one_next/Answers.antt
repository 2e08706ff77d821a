use Rattle.watch_ring.proofs.Unique.{same_next}
use Rattle.watch_ring.proofs.laws.one_next.Goals as goal

pub returns : goal.returns
returns c files current a b h k = same_next files current a b h k

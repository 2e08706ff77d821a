use Rattle.std.proofs.Common.{[], refl}
use Rattle.audit_pcapng.specs.Sections.{no_blocks}
use Rattle.audit_pcapng.proofs.Texts.{Front-none, cut_by_end}
use Rattle.audit_pcapng.proofs.reader.BlockReader.new.Goals as goal

pub returns : goal.returns
returns c = (refl, rw (c.new.ensures, c.new-2.ensures.items) (record { front = Front-none no_blocks []; cut = cut_by_end no_blocks [] refl }))

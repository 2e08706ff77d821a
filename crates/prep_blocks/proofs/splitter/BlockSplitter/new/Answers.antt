use Rattle.std.proofs.Common.{[], refl}
use Rattle.audit_pcapng.specs.Sections.{no_blocks}
use Rattle.audit_pcapng.proofs.Texts.{cut_by_end}
use Rattle.prep_blocks.proofs.splitter.BlockSplitter.new.Goals as goal

pub returns : goal.returns
returns c = (refl, rw (c.new.ensures, c.new-2.ensures.items) (record { spelled = refl; read = refl; cut = cut_by_end no_blocks [] refl }))

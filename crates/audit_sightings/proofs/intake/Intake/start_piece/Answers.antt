use Rattle.std.proofs.Common.{◌++◌, List, ℕ, Bor, refl, sym, subst, rules}
use Rattle.audit_pcapng.specs.declared.reader.BlockReader.{BlockReader}
use Rattle.audit_pcapng.specs.Readers as reader
use Rattle.audit_sightings.specs.Files.{fed_at, packets_of}
use Rattle.audit_sightings.proofs.FilesSteps.{refused_by_block, refused_by_frame}
use Rattle.audit_sightings.proofs.AmidSteps.{amid_start, begins_started}
use Rattle.audit_sightings.proofs.intake.Intake.start_piece.Goals as goal

pub returns-in-Err-clause-err : goal.returns-in-Err-clause-err
returns-in-Err-clause-err c = λ files stands.
    let text = (fed_at files c.args.file).text in
    let packets = packets_of files c.args.file in
    let before = subst (λ (r : BlockReader). reader.StandsFor r text packets) (sym c.index_mut-reader.ensures.value) (stands.read c.args.file c.index_mut-reader.result.now c.requires) in
    let goes = rw c.new-held.ensures.items at (c.start-started.ensures.ok text packets before) in
    let refuses = rw c.new-held.ensures.items at (c.start-started.ensures.err text packets before) in
    let begins = begins_started (λ (rest : Bor (List ℕ)). rest.now) c.start-started.new.self (text ++ c.args.piece.now) packets c.start-started.new.out.items c.start-started.result goes refuses in
    refused_by_frame c.args.self.now c.take_packets.new.interfaces files c.args.file c.args.piece.now c.start-started.new.out.items c.in-Err.fault stands begins (rw c.deref.ensures.value at c.in-Err.ensures.err)

pub returns-in-Ok-started-clause-ok : goal.returns-in-Ok-started-clause-ok
returns-in-Ok-started-clause-ok c = λ files stands.
    let text = (fed_at files c.args.file).text in
    let packets = packets_of files c.args.file in
    let before = subst (λ (r : BlockReader). reader.StandsFor r text packets) (sym c.index_mut-reader.ensures.value) (stands.read c.args.file c.index_mut-reader.result.now c.requires) in
    let goes = rw c.new-held.ensures.items at (c.in-Ok-started.ensures.ok text packets before) in
    amid_start c.args.self.now _ files c.args.file c.args.piece.now c.in-Ok-started.rest.now c.start-started.new.out.items c.start-started.new.self stands c.requires (search rules) refl refl refl refl goes (rw c.deref.ensures.value at c.in-Ok.ensures.ok)

pub returns-clause-err : goal.returns-clause-err
returns-clause-err c = λ files stands.
    let text = (fed_at files c.args.file).text in
    let packets = packets_of files c.args.file in
    let before = subst (λ (r : BlockReader). reader.StandsFor r text packets) (sym c.index_mut-reader.ensures.value) (stands.read c.args.file c.index_mut-reader.result.now c.requires) in
    let refuses = rw c.new-held.ensures.items at (c.in-Err-started.ensures.err text packets before) in
    refused_by_block c.args.self.now c.take_packets.new.interfaces files c.args.file c.args.piece.now c.start-started.new.out.items c.in-Err-started.fault stands refuses (rw c.deref.ensures.value at c.in-Ok.ensures.ok)

use Rattle.std.proofs.Common.{◌++◌, map, refl, rules}
use Rattle.std.proofs.lemmas.Result.{err_from_is_err_and}
use Rattle.audit_pcapng.specs.Packets.{packet_of}
use Rattle.audit_sightings.specs.Files.{fed_at, packets_of}
use Rattle.audit_sightings.proofs.AmidSteps.{amid_reader}
use Rattle.audit_sightings.proofs.AmidMore.{gathered_all, gathered_refused_by_block, gathered_refused_by_frame}
use Rattle.audit_sightings.proofs.intake.Intake.take_large_rest.Goals as goal

pub returns-in_err-take_by_threads-clause-err : goal.returns-in_err-take_by_threads-clause-err
returns-in_err-take_by_threads-clause-err g c = λ files piece amid.
    let text = (fed_at files c.args.file).text ++ piece in
    let before = packets_of files c.args.file ++ amid.more in
    let at = amid_reader c.args.self.now files c.args.file piece c.args.rest.now c.index_mut-reader.result.now c.requires c.index_mut-reader.ensures.value amid in
    let p = err_from_is_err_and c.from_residual.result c.from_residual.ensures.1 in
    rw (p.1, p.2) (gathered_refused_by_frame c.args.self.now c.take_by_threads.new.interfaces files c.args.file piece c.args.rest.now (map packet_of c.gather-gathered.new.packets.items) _ amid c.requires
    (c.gather-gathered.ensures.begins text before at) (rw c.deref.ensures.value at c.in_err-take_by_threads.ensures.err))

pub returns-in-Ok-clause-ok : goal.returns-in-Ok-clause-ok
returns-in-Ok-clause-ok g c = λ files piece amid.
    let text = (fed_at files c.args.file).text ++ piece in
    let before = packets_of files c.args.file ++ amid.more in
    let at = amid_reader c.args.self.now files c.args.file piece c.args.rest.now c.index_mut-reader.result.now c.requires c.index_mut-reader.ensures.value amid in
    gathered_all c.args.self.now _ files c.args.file piece c.args.rest.now (map packet_of c.gather-gathered.new.packets.items) c.gather-gathered.new.reader amid c.requires (search rules) refl refl refl refl
    (c.in-Ok.ensures.ok text before at) (rw c.deref.ensures.value at c.in_ok-take_by_threads.ensures.ok)

pub returns-clause-err : goal.returns-clause-err
returns-clause-err g c = λ files piece amid.
    let text = (fed_at files c.args.file).text ++ piece in
    let before = packets_of files c.args.file ++ amid.more in
    let at = amid_reader c.args.self.now files c.args.file piece c.args.rest.now c.index_mut-reader.result.now c.requires c.index_mut-reader.ensures.value amid in
    gathered_refused_by_block c.args.self.now c.take_by_threads.new.interfaces files c.args.file piece c.args.rest.now (map packet_of c.gather-gathered.new.packets.items) c.in-Err.fault amid c.requires
    (c.gather-gathered.ensures.begins text before at) (rw c.deref.ensures.value at c.in_ok-take_by_threads.ensures.ok) (c.in-Err.ensures.err text before at)

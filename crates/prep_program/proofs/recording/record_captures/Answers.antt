use Rattle.std.proofs.Common.{◌≡◌, ◌≤◌, ◌∙◌, [], ℕ, List, Option, Some, length, refl, get_or, take, ap, sym, subst, arith, Bor}
use Rattle.std.proofs.lemmas.List.{take_all}
use Rattle.std.proofs.lemmas.Grind.{take_at_read}
use Rattle.prep_program.specs.Recordings.{blocks_of}
use Rattle.prep_program.proofs.Pieces.{zip_at, zip_len}
use Rattle.prep_program.proofs.RecordedFiles.{AreRecorded, none_recorded, one_recorded}
use Rattle.prep_program.proofs.recording.record_captures.Goals as goal

pub loop-name-init : goal.loop-name-init
loop-name-init g c = record {
  same = refl;
  fed = λ texts all. none_recorded c.new-recorder.result _ _ c.new-recorder.ensures;
}

pub loop-name-preserved : goal.loop-name-preserved
loop-name-preserved g c = record {
  same = c.record_capture.ensures.kept ∙ c.loop-name.invariant.same;
  fed = λ texts all.
      let index = c.loop-name.name-index in
      let none : Bor (List ℕ) = record { ref_ptr = (0, 0); now = [] } in
      let before = c.loop-name.invariant.fed texts all in
      let at = zip_at (λ name text. g.S.Source.holds c.args.source.now name.now ≡ Some text) c.args.names.now texts index none [] all c.loop-name-test.true in
      let text : List ℕ = get_or texts index [] in
      let more = c.in_ok-record_capture.ensures.records text c.args.policy.now c.args.stated.since (blocks_of before.done) (ap (λ (h : List ℕ → Option (List ℕ)). h (get_or c.args.names.now index none).now) c.loop-name.invariant.same ∙ at.1) before.recording in
      subst (λ (t : List (List ℕ)). AreRecorded c.record_capture.new.recorder c.args.policy.now c.args.stated.since t) (sym (take_at_read texts index [] at.0).1)
      (one_recorded c.loop-name.recorder c.record_capture.new.recorder c.args.policy.now c.args.stated.since (take index texts) text before more);
}

pub returns-clause-noted : goal.returns-clause-noted
returns-clause-noted g c = λ texts all.
    let index = c.loop-name.name-index in
    let done = c.loop-name.invariant.fed texts all in
    let past : length texts ≤ index = omega (arith, c.loop-name-test.false, zip_len (λ name text. g.S.Source.holds c.args.source.now name.now ≡ Some text) c.args.names.now texts all) in
    record { captures = done.done; spelled = done.spelled ∙ take_all index texts past; wholes = done.wholes; noted = c.finish.ensures c.args.policy.now c.args.stated.since (blocks_of done.done) done.recording }

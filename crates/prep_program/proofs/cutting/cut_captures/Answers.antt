use Rattle.std.proofs.Common.{◌≡◌, ◌≤◌, ◌∙◌, ◌++◌, ◌+◌, ◌∷◌, [], ℕ, List, Option, Some, length, refl, get_or, take, ap, sym, subst, arith, string_bytes}
use Rattle.prep_cut.specs.declared.plan.Proposal.{Proposal}
use Rattle.std.proofs.lemmas.List.{take_all}
use Rattle.std.proofs.lemmas.Grind.{take_at_read}
use Rattle.audit_model.specs.Sink.{followed_by}
use Rattle.prep_cut.specs.declared.tally.Totals.{Totals}
use Rattle.prep_cut.specs.Cutting.{IsCutting}
use Rattle.prep_cut.proofs.Pairing.{are_carried, are_paired}
use Rattle.prep_program.specs.declared.cutting.ToCut.{ToCut}
use Rattle.sha2.specs.Sha256.{sha256}
use Rattle.prep_program.specs.CutComment.{comment_of_cut}
use Rattle.prep_program.specs.AllCuts.{marks_of, all_marks}
use Rattle.prep_program.specs.Making.{files_of, opened_by}
use Rattle.prep_program.proofs.Pieces.{zip_at, zip_len}
use Rattle.prep_program.proofs.AllCuts.{AreCut, none_cut, one_cut, file_made}
use Rattle.prep_program.proofs.cutting.cut_captures.Goals as goal

pub loop-one-init : goal.loop-one-init
loop-one-init g c = record {
  same = refl;
  fed = λ texts all.
      let before = files_of (g.M.Maker.making c.args.made.now) (g.M.Sink.taken c.args.made.now) in
      subst (λ (t : List Totals). AreCut t c.in_ok-tallies.tallies c.args.plan.now [] [] before before) (sym c.new-totals.ensures.items) (none_cut c.in_ok-tallies.tallies c.args.plan.now before c.in_ok-tallies.ensures);
}

pub loop-one-preserved : goal.loop-one-preserved
loop-one-preserved g c = record {
  same = c.cut_capture.ensures.kept ∙ c.loop-one.invariant.same;
  fed = λ texts all.
      let index = c.loop-one.one-index in
      let plan = c.args.plan.now in
      let one : ToCut = c.one-item.result in
      let to_cut = c.args.captures.now in
      let m0 = g.M.Maker.making c.loop-one.made in
      let t0 = g.M.Sink.taken c.loop-one.made in
      let m1 = g.M.Maker.making c.make.new.self in
      let t1 = g.M.Sink.taken c.make.new.self in
      let m2 = g.M.Maker.making c.cut_capture.new.made in
      let t2 = g.M.Sink.taken c.cut_capture.new.made in
      let m3 = g.M.Maker.making c.append_all.new.maker in
      let t3 = g.M.Sink.taken c.append_all.new.maker in
      let first = files_of (g.M.Maker.making c.args.made.now) (g.M.Sink.taken c.args.made.now) in
      let before = c.loop-one.invariant.fed texts all in
      let at = zip_at (λ (each : ToCut) (text : List ℕ). (g.S.Source.holds c.args.source.now each.name.now ≡ Some text) × (each.digest ≡ sha256 text)) to_cut texts index one [] all c.loop-one-test.true in
      let text : List ℕ = get_or texts index [] in
      let e : get_or to_cut index one ≡ one = sym c.one-item.is in
      let holds : g.S.Source.holds c.loop-one.source one.name.now ≡ Some text =
      ap (λ (h : List ℕ → Option (List ℕ)). h one.name.now) c.loop-one.invariant.same ∙ subst (λ (each : ToCut). g.S.Source.holds c.args.source.now each.name.now ≡ Some text) e at.1.0 in
      let earlier = all_marks (marks_of plan (take index to_cut) before.done) in
      let cutting = subst (λ (ps : List Proposal). IsCutting c.new-cutter.result plan ps earlier [] []) c.deref.ensures.value (c.new-cutter.ensures earlier before.tallies_are) in
      let cuts = c.in_ok-cut.ensures.cuts text plan one.proposals.items earlier holds cutting in
      let opened : m1 ≡ opened_by (string_bytes one.file) (files_of m0 t0) = c.in_ok-make.ensures.opened ∙ ap (λ (n : List ℕ). opened_by n (files_of m0 t0)) c.as_str.ensures.value in
      let digest : List ℕ = one.digest in
      let hashed : digest ≡ sha256 text = subst (λ (each : ToCut). each.digest ≡ sha256 text) e at.1.1 in
      let put : t3 ≡ followed_by t2 (comment_of_cut c.in_ok-cut.cut.totals digest) =
      c.in_ok-append_all.ensures.ok ∙ ap (λ (s : List ℕ). followed_by t2 s) (c.as_slice.ensures.value ∙ c.in_ok-section.ensures) in
      let more = one_cut c.loop-one.totals.items c.loop-one.tallies plan (take index to_cut) (take index texts) first (files_of m0 t0) (files_of m3 t3) one text c.in_ok-cut.cut digest t1 t2 t3 before cuts hashed put
      (λ bytes took. file_made m0 m1 m3 t0 t1 t3 (string_bytes one.file) bytes opened c.in_ok-make.ensures.empty (c.append_all.ensures.others ∙ c.cut_capture.ensures.others) took) in
      let whole : take (index + 1) to_cut ≡ take index to_cut ++ one ∷ [] = (take_at_read to_cut index one c.loop-one-test.true).1 ∙ ap (λ (each : ToCut). take index to_cut ++ each ∷ []) e in
      subst (λ (t : List (List ℕ)). AreCut c.push.new.self.items c.in_ok-cut.cut.tallies plan (take (index + 1) to_cut) t first (files_of m3 t3)) (sym (take_at_read texts index [] at.0).1)
      (subst (λ (a : List ToCut). AreCut c.push.new.self.items c.in_ok-cut.cut.tallies plan a (take index texts ++ text ∷ []) first (files_of m3 t3)) (sym whole)
      (subst (λ (t : List Totals). AreCut t c.in_ok-cut.cut.tallies plan (take index to_cut ++ one ∷ []) (take index texts ++ text ∷ []) first (files_of m3 t3)) (sym c.in_ok-push.ensures.items) more));
}

pub returns : goal.returns
returns g c = λ texts all.
    let index = c.loop-one.one-index in
    let d = c.loop-one.invariant.fed texts all in
    let past : length texts ≤ index = omega (arith, c.loop-one-test.false, zip_len (λ one text. (g.S.Source.holds c.args.source.now one.name.now ≡ Some text) × (one.digest ≡ sha256 text)) c.args.captures.now texts all) in
    let whole = take_all index c.args.captures.now (omega (arith, c.loop-one-test.false)) in
    let e : AreCut c.loop-one.totals.items c.loop-one.tallies c.args.plan.now c.args.captures.now texts _ _ =
    subst (λ (t : List (List ℕ)). AreCut c.loop-one.totals.items c.loop-one.tallies c.args.plan.now c.args.captures.now t (files_of (g.M.Maker.making c.args.made.now) (g.M.Sink.taken c.args.made.now)) (files_of (g.M.Maker.making c.loop-one.made) (g.M.Sink.taken c.loop-one.made))) (take_all index texts past)
    (subst (λ (a : List ToCut). AreCut c.loop-one.totals.items c.loop-one.tallies c.args.plan.now a (take index texts) (files_of (g.M.Maker.making c.args.made.now) (g.M.Sink.taken c.args.made.now)) (files_of (g.M.Maker.making c.loop-one.made) (g.M.Sink.taken c.loop-one.made))) whole d) in
    record { captures = e.done; spelled = e.spelled; wholes = e.wholes; totals = e.totals_are; tallies = e.tallies_are; paired = are_paired c.args.plan.now (all_marks (marks_of c.args.plan.now c.args.captures.now e.done)) c.loop-one.tallies.causes e.tallies_are.causes; carried = are_carried c.args.plan.now (all_marks (marks_of c.args.plan.now c.args.captures.now e.done)) c.loop-one.tallies e.tallies_are; owing = e.tallies_are.owing; files = e.files }

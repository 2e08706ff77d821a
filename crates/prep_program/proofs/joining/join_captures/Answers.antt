use Rattle.std.proofs.Common.{◌≡◌, ◌≤◌, ◌∙◌, [], ℕ, List, Option, Some, length, refl, get_or, take, ap, sym, subst, arith, Bor}
use Rattle.std.proofs.lemmas.List.{take_all}
use Rattle.std.proofs.lemmas.Grind.{take_at_read}
use Rattle.prep_program.proofs.Pieces.{zip_at, zip_len}
use Rattle.prep_program.proofs.Captures.{AreDone, none_done, one_done}
use Rattle.prep_program.proofs.joining.join_captures.Goals as goal

pub loop-name-init : goal.loop-name-init
loop-name-init g c = record {
  same = refl;
  fed = λ texts all. none_done c.new-joiner.result _ c.new-joiner.ensures;
}

pub loop-name-preserved : goal.loop-name-preserved
loop-name-preserved g c = record {
  same = c.join_capture.ensures.kept ∙ c.loop-name.invariant.same;
  fed = λ texts all.
      let index = c.loop-name.name-index in
      let none : Bor (List ℕ) = record { ref_ptr = (0, 0); now = [] } in
      let before = c.loop-name.invariant.fed texts all in
      let at = zip_at (λ name text. g.S.Source.holds c.args.source.now name.now ≡ Some text) c.args.names.now texts index none [] all c.loop-name-test.true in
      let text : List ℕ = get_or texts index [] in
      let more = c.in_ok-counts.ensures.joins text before.done (ap (λ (h : List ℕ → Option (List ℕ)). h (get_or c.args.names.now index none).now) c.loop-name.invariant.same ∙ at.1) before.joining in
      subst (λ (t : List (List ℕ)). AreDone c.join_capture.new.joiner t (g.M.Sink.taken c.args.made.now) (g.M.Sink.taken c.join_capture.new.made)) (sym (take_at_read texts index [] at.0).1)
      (one_done c.loop-name.joiner c.join_capture.new.joiner (take index texts) text c.in_ok-counts.counts _ _ _ before more);
}

pub returns : goal.returns
returns g c = λ texts all.
    let index = c.loop-name.name-index in
    let done = c.loop-name.invariant.fed texts all in
    let past : length texts ≤ index = omega (arith, c.loop-name-test.false, zip_len (λ name text. g.S.Source.holds c.args.source.now name.now ≡ Some text) c.args.names.now texts all) in
    record { captures = done.done; spelled = done.spelled ∙ take_all index texts past; parts = done.parts; ring = done.ring; written = done.written }

use Rattle.std.proofs.Common.{◌≡◌, ◌++◌, ◌≤◌, ◌∙◌, ℕ, List, Option, Some, length, refl, take, ap, sym, subst, arith}
use Rattle.std.proofs.lemmas.List.{take_all}
use Rattle.prep_program.specs.Pieces.{IsPieceAt}
use Rattle.prep_program.specs.Cuts.{CutSoFar}
use Rattle.prep_program.proofs.Pieces.{read_of, fed_more}
use Rattle.prep_program.proofs.CutFiles.{nothing_cut, cut_ended}
use Rattle.prep_program.proofs.cutting.cut_capture.Goals as goal

pub pieces-init : goal.pieces-init
pieces-init g c = record {
  room = omega (arith, c.in_ok-piece.ensures.len);
  same = refl;
  others = refl;
  fed = λ text plan proposals earlier holds cutting. nothing_cut _ plan proposals earlier _ cutting;
}

pub returns-then-read-eq0-clause-cuts : goal.returns-then-read-eq0-clause-cuts
returns-then-read-eq0-clause-cuts g c = λ text plan proposals earlier holds cutting.
    let now : g.S.Source.holds c.pieces.source c.args.name.now ≡ Some text = ap (λ (h : List ℕ → Option (List ℕ)). h c.args.name.now) c.pieces.invariant.same ∙ holds in
    let piece : IsPieceAt text c.pieces.at c.in_ok-read.read c.piece.new.into = c.in_ok-read.ensures.bytes text now in
    let all = take_all c.pieces.at text (piece.last c.if-read-eq0.true (omega (arith, c.pieces.invariant.room, c.piece.auto.into, c.deref_mut.ensures.len))) in
    let s = c.pieces.invariant.fed text plan proposals earlier holds cutting in
    cut_ended c.pieces.cutter plan proposals earlier (take c.pieces.at text) text _ _ c.end_capture.result all s (c.end_capture.ensures plan proposals earlier (take c.pieces.at text) s.current s.cutting)

pub pieces-preserved : goal.pieces-preserved
pieces-preserved g c = record {
  room = c.pieces.invariant.room;
  same = c.piece.ensures.kept ∙ c.pieces.invariant.same;
  others = c.cut_piece.ensures.others ∙ c.pieces.invariant.others;
  fed = λ text plan proposals earlier holds cutting.
      let at = c.pieces.at in
      let read = c.in_ok-read.read in
      let now : g.S.Source.holds c.pieces.source c.args.name.now ≡ Some text = ap (λ (h : List ℕ → Option (List ℕ)). h c.args.name.now) c.pieces.invariant.same ∙ holds in
      let within_piece : read ≤ length c.piece.new.into = omega (arith, c.in_ok-read.ensures.within, c.piece.auto.into) in
      let short : read ≤ c.pieces.piece.len = omega (arith, c.in_ok-read.ensures.within, c.deref_mut.ensures.len) in
      let piece : IsPieceAt text at read c.piece.new.into = c.in_ok-read.ensures.bytes text now in
      subst (λ (t : List ℕ). CutSoFar c.cut_piece.new.cutter plan proposals earlier t (g.M.Sink.taken c.args.made.now) (g.M.Sink.taken c.cut_piece.new.made))
      (ap (λ (l : List ℕ). take at text ++ take read l) c.deref.ensures.value ∙ ap (λ (l : List ℕ). take at text ++ l) (read_of c.piece.new.into _ c.pieces.piece.len read short within_piece) ∙ fed_more text c.piece.new.into at read piece.same ∙ ap (λ (n : ℕ). take n text) (sym c.in-Some.ensures.1))
      (c.in_ok-cut_piece.ensures.ok plan proposals earlier (take at text) (g.M.Sink.taken c.args.made.now) (c.pieces.invariant.fed text plan proposals earlier holds cutting));
}

use Rattle.std.proofs.Common.{◌≡◌, ◌++◌, ◌≤◌, ◌∙◌, ℕ, List, Option, Some, length, refl, take, ap, sym, arith}
use Rattle.std.proofs.lemmas.List.{take_all}
use Rattle.prep_program.specs.Pieces.{IsPieceAt}
use Rattle.prep_program.proofs.Pieces.{read_of, fed_more}
use Rattle.prep_program.proofs.text.read_checked.Goals as goal

pub pieces-init : goal.pieces-init
pieces-init g c = record {
  room = omega (arith, c.in_ok-piece.ensures.len);
  same = refl;
  fed = λ bytes holds. c.new-text.ensures.items;
}

pub returns-then-read-eq0-clause-whole : goal.returns-then-read-eq0-clause-whole
returns-then-read-eq0-clause-whole g c = λ bytes holds.
    let now : g.S.Source.holds c.pieces.source c.args.name.now ≡ Some bytes = ap (λ (h : List ℕ → Option (List ℕ)). h c.args.name.now) c.pieces.invariant.same ∙ holds in
    let piece : IsPieceAt bytes c.pieces.at c.in_ok-read.read c.piece.new.into = c.in_ok-read.ensures.bytes bytes now in
    let all = take_all c.pieces.at bytes (piece.last c.if-read-eq0.true (omega (arith, c.pieces.invariant.room, c.piece.auto.into, c.deref_mut.ensures.len))) in
    c.pieces.invariant.fed bytes holds ∙ all

pub pieces-preserved : goal.pieces-preserved
pieces-preserved g c = record {
  room = c.pieces.invariant.room;
  same = c.piece.ensures.kept ∙ c.pieces.invariant.same;
  fed = λ bytes holds.
      let at = c.pieces.at in
      let read = c.in_ok-read.read in
      let now : g.S.Source.holds c.pieces.source c.args.name.now ≡ Some bytes = ap (λ (h : List ℕ → Option (List ℕ)). h c.args.name.now) c.pieces.invariant.same ∙ holds in
      let within_piece : read ≤ length c.piece.new.into = omega (arith, c.in_ok-read.ensures.within, c.piece.auto.into) in
      let short : read ≤ c.pieces.piece.len = omega (arith, c.in_ok-read.ensures.within, c.deref_mut.ensures.len) in
      let piece : IsPieceAt bytes at read c.piece.new.into = c.in_ok-read.ensures.bytes bytes now in
      c.in_ok-extend_from_slice.ensures.items
      ∙ ap (λ (t : List ℕ). t ++ take read c.deref.result.now) (c.pieces.invariant.fed bytes holds)
      ∙ ap (λ (l : List ℕ). take at bytes ++ take read l) c.deref.ensures.value ∙ ap (λ (l : List ℕ). take at bytes ++ l) (read_of c.piece.new.into _ c.pieces.piece.len read short within_piece) ∙ fed_more bytes c.piece.new.into at read piece.same ∙ ap (λ (n : ℕ). take n bytes) (sym c.in-Some.ensures.1);
}

use Rattle.std.proofs.Common.{◌≡◌, ◌++◌, ◌≤◌, ◌∙◌, ℕ, List, Option, Some, length, refl, take, ap, sym, subst, arith}
use Rattle.std.proofs.lemmas.List.{take_all}
use Rattle.sha2.specs.Hashers.{Holds256}
use Rattle.prep_program.specs.Pieces.{IsPieceAt}
use Rattle.prep_program.proofs.Pieces.{read_of, fed_more}
use Rattle.prep_program.proofs.hashing.hash_capture.Goals as goal

pub pieces-init : goal.pieces-init
pieces-init g c = record {
  room = omega (arith, c.in_ok-piece.ensures.len);
  same = refl;
  fed = λ text holds. c.new-hasher.ensures;
}

pub returns-then-read-eq0-clause-hashes : goal.returns-then-read-eq0-clause-hashes
returns-then-read-eq0-clause-hashes g c = λ text holds.
    let now : g.S.Source.holds c.pieces.source c.args.name.now ≡ Some text = ap (λ (h : List ℕ → Option (List ℕ)). h c.args.name.now) c.pieces.invariant.same ∙ holds in
    let piece : IsPieceAt text c.pieces.at c.in_ok-read.read c.piece.new.into = c.in_ok-read.ensures.bytes text now in
    let all = take_all c.pieces.at text (piece.last c.if-read-eq0.true (omega (arith, c.pieces.invariant.room, c.piece.auto.into, c.deref_mut.ensures.len))) in
    c.finalize.ensures text (subst (λ (t : List ℕ). Holds256 c.pieces.hasher t) all (c.pieces.invariant.fed text holds))

pub pieces-preserved : goal.pieces-preserved
pieces-preserved g c = record {
  room = c.pieces.invariant.room;
  same = c.piece.ensures.kept ∙ c.pieces.invariant.same;
  fed = λ text holds.
      let at = c.pieces.at in
      let read = c.in_ok-read.read in
      let now : g.S.Source.holds c.pieces.source c.args.name.now ≡ Some text = ap (λ (h : List ℕ → Option (List ℕ)). h c.args.name.now) c.pieces.invariant.same ∙ holds in
      let within_piece : read ≤ length c.piece.new.into = omega (arith, c.in_ok-read.ensures.within, c.piece.auto.into) in
      let short : read ≤ c.pieces.piece.len = omega (arith, c.in_ok-read.ensures.within, c.deref_mut.ensures.len) in
      let piece : IsPieceAt text at read c.piece.new.into = c.in_ok-read.ensures.bytes text now in
      subst (λ (t : List ℕ). Holds256 c.update-in-pieces.new.self t)
      (ap (λ (l : List ℕ). take at text ++ take read l) c.deref.ensures.value ∙ ap (λ (l : List ℕ). take at text ++ l) (read_of c.piece.new.into _ c.pieces.piece.len read short within_piece) ∙ fed_more text c.piece.new.into at read piece.same ∙ ap (λ (n : ℕ). take n text) (sym c.in-Some.ensures.1))
      (c.update-in-pieces.ensures (take at text) (c.pieces.invariant.fed text holds));
}

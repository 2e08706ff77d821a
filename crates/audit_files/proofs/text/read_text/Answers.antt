use Rattle.std.proofs.Common.{◌≡◌, ◌+◌, ◌++◌, ◌≤◌, ◌∙◌, ℕ, Bool, true, List, Option, Some, IfOk, take, drop, ap, sym, subst, refl, length, inl, inr, arith}
use Rattle.std.proofs.lemmas.List.{take_all, take-append-drop}
use Rattle.std.proofs.lemmas.Result.{IfErr-weaker}
use Rattle.audit_files.specs.Pieces.{IsPieceAt}
use Rattle.audit_files.proofs.Fed.{read_of, fed_more, piece_within}
use Rattle.audit_files.proofs.Refusing.{err_then, none_over}
use Rattle.audit_files.proofs.text.read_text.Goals as goal

pub pieces-init : goal.pieces-init
pieces-init g c = record {
  room = omega (arith, c.in_ok-piece.ensures.len);
  same = refl;
  steady = refl;
  read = omega arith;
  within = λ bytes holds. omega arith;
  fed = λ bytes holds fresh. fresh;
}

pub returns-then-read-eq0-clause-says : goal.returns-then-read-eq0-clause-says
returns-then-read-eq0-clause-says g c = λ bytes holds fresh.
    let now : g.S.Source.holds c.pieces.source c.args.name.now ≡ Some bytes = ap (λ (h : List ℕ → Option (List ℕ)). h c.args.name.now) c.pieces.invariant.same ∙ holds in
    let piece : IsPieceAt bytes c.pieces.at c.in-Ok.read c.piece.new.into = c.in-Ok.ensures.bytes bytes now in
    subst (λ (text : List ℕ). IfOk c.finish.result (g.R.TextReading.says text)) (take_all c.pieces.at bytes (piece.last c.if-read-eq0.true (omega (arith, c.pieces.invariant.room, c.piece.auto.into, c.deref_mut.ensures.len))))
    (c.finish.ensures.ok (take c.pieces.at bytes) (c.pieces.invariant.fed bytes holds fresh))

pub pieces-preserved : goal.pieces-preserved
pieces-preserved g c = record {
  room = c.pieces.invariant.room;
  same = c.piece.ensures.kept ∙ c.pieces.invariant.same;
  steady = c.piece.ensures.steady ∙ c.pieces.invariant.steady;
  read = omega (arith, c.if-read-eq0.false, c.in-Some.ensures.1, c.pieces.invariant.read);
  within = λ bytes holds.
      let now : g.S.Source.holds c.pieces.source c.args.name.now ≡ Some bytes = ap (λ (h : List ℕ → Option (List ℕ)). h c.args.name.now) c.pieces.invariant.same ∙ holds in
      let within_piece : c.in-Ok.read ≤ length c.piece.new.into = omega (arith, c.in-Ok.ensures.within, c.piece.auto.into) in
      omega (arith, c.in-Some.ensures.1, piece_within bytes c.piece.new.into c.pieces.at c.in-Ok.read (c.in-Ok.ensures.bytes bytes now) within_piece (c.pieces.invariant.within bytes holds));
  fed = λ bytes holds fresh.
      let at = c.pieces.at in
      let read = c.in-Ok.read in
      let now : g.S.Source.holds c.pieces.source c.args.name.now ≡ Some bytes = ap (λ (h : List ℕ → Option (List ℕ)). h c.args.name.now) c.pieces.invariant.same ∙ holds in
      let within_piece : read ≤ length c.piece.new.into = omega (arith, c.in-Ok.ensures.within, c.piece.auto.into) in
      let short : read ≤ c.pieces.piece.len = omega (arith, c.in-Ok.ensures.within, c.deref_mut.ensures.len) in
      let piece : IsPieceAt bytes at read c.piece.new.into = c.in-Ok.ensures.bytes bytes now in
      subst (λ (text : List ℕ). g.R.TextReading.stands c.in_ok-reader.reader text)
      (ap (λ (l : List ℕ). take at bytes ++ take read l) c.deref.ensures.value ∙ ap (λ (l : List ℕ). take at bytes ++ l) (read_of c.piece.new.into _ c.pieces.piece.len read short within_piece) ∙ fed_more bytes c.piece.new.into at read piece.same ∙ ap (λ (n : ℕ). take n bytes) (sym c.in-Some.ensures.1))
      (c.in_ok-reader.ensures.ok (take at bytes) (c.pieces.invariant.fed bytes holds fresh));
}

pub returns-in_err-piece-clause-refused : goal.returns-in_err-piece-clause-refused
returns-in_err-piece-clause-refused g c = λ bytes holds fresh. err_then c.from_residual.result c.from_residual.ensures.1 (λ stop memory. inl memory)

pub returns-in-Err-clause-refused : goal.returns-in-Err-clause-refused
returns-in-Err-clause-refused g c = λ bytes holds fresh.
    let at = c.pieces.at in
    let fails : g.S.Source.may_fail c.args.source.now c.args.name.now ≡ true = ap (λ (f : List ℕ → Bool). f c.args.name.now) (sym c.pieces.invariant.steady) ∙ c.in-Err.ensures.failed in
    elim (c.stop.ensures (take at bytes) (c.pieces.invariant.fed bytes holds fresh) (drop at bytes)) [
      | inl same ↦ inr (inl (same ∙ c.from.ensures, inl fails))
      | inr refuses ↦ inr (inr (subst (λ (text : List ℕ). g.R.TextReading.refuses text c.stop.result) (take-append-drop at bytes) refuses))
    ]

pub returns-then-read-eq0-clause-refused : goal.returns-then-read-eq0-clause-refused
returns-then-read-eq0-clause-refused g c = λ bytes holds fresh.
    let now : g.S.Source.holds c.pieces.source c.args.name.now ≡ Some bytes = ap (λ (h : List ℕ → Option (List ℕ)). h c.args.name.now) c.pieces.invariant.same ∙ holds in
    let piece : IsPieceAt bytes c.pieces.at c.in-Ok.read c.piece.new.into = c.in-Ok.ensures.bytes bytes now in
    let whole : take c.pieces.at bytes ≡ bytes = take_all c.pieces.at bytes (piece.last c.if-read-eq0.true (omega (arith, c.pieces.invariant.room, c.piece.auto.into, c.deref_mut.ensures.len))) in
    IfErr-weaker c.finish.result _ _ (λ stop refuses. inr (inr (subst (λ (text : List ℕ). g.R.TextReading.refuses text stop) whole refuses)))
    (c.finish.ensures.err (take c.pieces.at bytes) (c.pieces.invariant.fed bytes holds fresh))

pub returns-in_err-reader-clause-refused : goal.returns-in_err-reader-clause-refused
returns-in_err-reader-clause-refused g c = λ bytes holds fresh.
    let at = c.pieces.at in
    let read = c.in-Ok.read in
    let now : g.S.Source.holds c.pieces.source c.args.name.now ≡ Some bytes = ap (λ (h : List ℕ → Option (List ℕ)). h c.args.name.now) c.pieces.invariant.same ∙ holds in
    let within_piece : read ≤ length c.piece.new.into = omega (arith, c.in-Ok.ensures.within, c.piece.auto.into) in
    let short : read ≤ c.pieces.piece.len = omega (arith, c.in-Ok.ensures.within, c.deref_mut.ensures.len) in
    let piece : IsPieceAt bytes at read c.piece.new.into = c.in-Ok.ensures.bytes bytes now in
    let front = ap (λ (l : List ℕ). take at bytes ++ take read l) c.deref.ensures.value ∙ ap (λ (l : List ℕ). take at bytes ++ l) (read_of c.piece.new.into _ c.pieces.piece.len read short within_piece) ∙ fed_more bytes c.piece.new.into at read piece.same in
    let whole = ap (λ (l : List ℕ). l ++ drop (at + read) bytes) front ∙ take-append-drop (at + read) bytes in
    let refuses = subst (λ (text : List ℕ). g.R.TextReading.refuses text c.in_err-reader.field-0.0) whole (c.in_err-reader.ensures.err (take at bytes) (c.pieces.invariant.fed bytes holds fresh) (drop (at + read) bytes)) in
    err_then c.from_residual-in_err-reader.result c.from_residual-in_err-reader.ensures.1 (λ stop is. inr (inr (subst (λ s. g.R.TextReading.refuses bytes s) (sym is) refuses)))

pub returns-in_default-clause-refused : goal.returns-in_default-clause-refused
returns-in_default-clause-refused g c = λ bytes holds fresh.
    let now : g.S.Source.holds c.pieces.source c.args.name.now ≡ Some bytes = ap (λ (h : List ℕ → Option (List ℕ)). h c.args.name.now) c.pieces.invariant.same ∙ holds in
    let within_piece : c.in-Ok.read ≤ length c.piece.new.into = omega (arith, c.in-Ok.ensures.within, c.piece.auto.into) in
    let more = piece_within bytes c.piece.new.into c.pieces.at c.in-Ok.read (c.in-Ok.ensures.bytes bytes now) within_piece (c.pieces.invariant.within bytes holds) in
    let past = none_over c.checked_add.result _ _ c.in_default.is c.checked_add.ensures in
    inr (inl (refl, inr (omega (arith, more, past))))

pub returns-clause-refused : goal.returns-clause-refused
returns-clause-refused g c = λ bytes holds fresh.
    inr (inl (refl, inr (omega (arith, c.pieces.invariant.read, c.pieces.invariant.within bytes holds, c.pieces-test.false, c.pieces.auto.counter-end))))

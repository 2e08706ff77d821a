use Rattle.std.proofs.Common.{◌≡◌, ◌<◌, ◌+◌, ◌++◌, ◌≤◌, ◌∙◌, ℕ, List, Option, Some, Bool, true, length, refl, take, ap, sym, subst, inl, inr, arith}
use Rattle.std.proofs.lemmas.List.{take_all}
use Rattle.audit_model.specs.declared.policy.Policy.{Policy}
use Rattle.audit_sightings.specs.Files.{Fed, GoesOn, IsNext, StandsFor, fed_at, not_fed, packets_of}
use Rattle.audit_files.specs.CaptureFaults.{HasFront}
use Rattle.audit_files.specs.Pieces.{IsPieceAt}
use Rattle.audit_files.proofs.Fed.{read_of, fed_more, goes_further, goes_nowhere, piece_within}
use Rattle.audit_files.proofs.Refusing.{err_then, fault_fed, front_fed, none_over}
use Rattle.audit_files.proofs.captures.feed_capture.Goals as goal

pub pieces-init : goal.pieces-init
pieces-init g c = record {
  room = omega (arith, c.in_ok-piece.ensures.len);
  same = refl;
  steady = refl;
  count = refl;
  policy = refl;
  read = omega arith;
  within = λ bytes holds. omega arith;
  fed = λ bytes files holds stands. goes_nowhere c.args.intake.now files c.args.file stands;
}

pub feed-requires : goal.feed-requires
feed-requires g c = omega (arith, c.requires, c.pieces.invariant.count)

pub returns-then-read-eq0-clause-fed : goal.returns-then-read-eq0-clause-fed
returns-then-read-eq0-clause-fed g c = λ bytes files holds stands.
    let now : g.S.Source.holds c.pieces.source c.args.name.now ≡ Some bytes = ap (λ (h : List ℕ → Option (List ℕ)). h c.args.name.now) c.pieces.invariant.same ∙ holds in
    let piece : IsPieceAt bytes c.pieces.at c.in_ok-read.read c.piece.new.into = c.in_ok-read.ensures.bytes bytes now in
    subst (λ (text : List ℕ). GoesOn c.pieces.intake files c.args.file text) (take_all c.pieces.at bytes (piece.last c.if-read-eq0.true (omega (arith, c.pieces.invariant.room, c.piece.auto.into, c.deref_mut.ensures.len))))
    (c.pieces.invariant.fed bytes files holds stands)

pub pieces-preserved : goal.pieces-preserved
pieces-preserved g c = record {
  room = c.pieces.invariant.room;
  same = c.piece.ensures.kept ∙ c.pieces.invariant.same;
  count = c.feed.ensures.files ∙ c.pieces.invariant.count;
  steady = c.piece.ensures.steady ∙ c.pieces.invariant.steady;
  policy = c.feed.ensures.policy ∙ c.pieces.invariant.policy;
  read = omega (arith, c.if-read-eq0.false, c.in-Some.ensures.1, c.pieces.invariant.read);
  within = λ bytes holds.
      let now : g.S.Source.holds c.pieces.source c.args.name.now ≡ Some bytes = ap (λ (h : List ℕ → Option (List ℕ)). h c.args.name.now) c.pieces.invariant.same ∙ holds in
      let within_piece : c.in_ok-read.read ≤ length c.piece.new.into = omega (arith, c.in_ok-read.ensures.within, c.piece.auto.into) in
      omega (arith, c.in-Some.ensures.1, piece_within bytes c.piece.new.into c.pieces.at c.in_ok-read.read (c.in_ok-read.ensures.bytes bytes now) within_piece (c.pieces.invariant.within bytes holds));
  fed = λ bytes files holds stands.
      let at = c.pieces.at in
      let read = c.in_ok-read.read in
      let now : g.S.Source.holds c.pieces.source c.args.name.now ≡ Some bytes = ap (λ (h : List ℕ → Option (List ℕ)). h c.args.name.now) c.pieces.invariant.same ∙ holds in
      let within_piece : read ≤ length c.piece.new.into = omega (arith, c.in_ok-read.ensures.within, c.piece.auto.into) in
      let short : read ≤ c.pieces.piece.len = omega (arith, c.in_ok-read.ensures.within, c.deref_mut.ensures.len) in
      let piece : IsPieceAt bytes at read c.piece.new.into = c.in_ok-read.ensures.bytes bytes now in
      let so_far = c.pieces.invariant.fed bytes files holds stands in
      let within : c.args.file < length files = omega (arith, c.requires, stands.count) in
      subst (λ (text : List ℕ). GoesOn c.feed.new.self files c.args.file text)
      (ap (λ (l : List ℕ). take at bytes ++ take read l) c.deref.ensures.value ∙ ap (λ (l : List ℕ). take at bytes ++ l) (read_of c.piece.new.into _ c.pieces.piece.len read short within_piece) ∙ fed_more bytes c.piece.new.into at read piece.same ∙ ap (λ (n : ℕ). take n bytes) (sym c.in-Some.ensures.1))
      (goes_further c.feed.new.self files c.args.file (take at bytes) _ so_far.more within (c.in_ok-feed.ensures.ok _ so_far.stands));
}

pub returns-in_err-piece-clause-front : goal.returns-in_err-piece-clause-front
returns-in_err-piece-clause-front g c = λ bytes files holds stands fresh.
    front_fed c.args.intake.now files c.args.file 0 bytes (omega (arith, c.requires, stands.count)) fresh (goes_nowhere c.args.intake.now files c.args.file stands)

pub returns-in_err-piece-clause-refused : goal.returns-in_err-piece-clause-refused
returns-in_err-piece-clause-refused g c = λ bytes files holds stands fresh. err_then c.from_residual.result c.from_residual.ensures.1 (λ stop memory. inl memory)

pub returns-in_err-read-clause-front : goal.returns-in_err-read-clause-front
returns-in_err-read-clause-front g c = λ bytes files holds stands fresh.
    subst (λ (policy : Policy). HasFront policy (packets_of files) c.args.file bytes c.pieces.intake.interfaces) c.pieces.invariant.policy
    (front_fed c.pieces.intake files c.args.file c.pieces.at bytes (omega (arith, c.requires, stands.count)) fresh (c.pieces.invariant.fed bytes files holds stands))

pub returns-in_err-read-clause-refused : goal.returns-in_err-read-clause-refused
returns-in_err-read-clause-refused g c = λ bytes files holds stands fresh.
    let fails : g.S.Source.may_fail c.args.source.now c.args.name.now ≡ true = ap (λ (f : List ℕ → Bool). f c.args.name.now) (sym c.pieces.invariant.steady) ∙ c.in_err-read.ensures.failed in
    err_then c.from_residual-in_err-read.result c.from_residual-in_err-read.ensures.1 (λ stop read. inr (inl (read, inl fails)))

pub returns-then-read-eq0-clause-front : goal.returns-then-read-eq0-clause-front
returns-then-read-eq0-clause-front g c = λ bytes files holds stands fresh.
    subst (λ (policy : Policy). HasFront policy (packets_of files) c.args.file bytes c.pieces.intake.interfaces) c.pieces.invariant.policy
    (front_fed c.pieces.intake files c.args.file c.pieces.at bytes (omega (arith, c.requires, stands.count)) fresh (c.pieces.invariant.fed bytes files holds stands))

-- the packets of the bytes that were read, and the first fault after them
fault_of : (g : _) (c : goal.After-drop-piece-in_err-feed g) (bytes : List ℕ) (files : List Fed) → g.S.Source.holds c.args.source.now c.args.name.now ≡ Some bytes → StandsFor c.args.intake.now files → fed_at files c.args.file ≡ not_fed
    → (front : HasFront c.args.intake.now.policy (packets_of files) c.args.file bytes c.feed.new.self.interfaces) × IsNext c.args.intake.now.policy c.feed.new.self.interfaces bytes front.packets c.in_err-feed.field-0.0.kind
fault_of g c bytes files holds stands fresh =
    let at = c.pieces.at in
    let read = c.in_ok-read.read in
    let now : g.S.Source.holds c.pieces.source c.args.name.now ≡ Some bytes = ap (λ (h : List ℕ → Option (List ℕ)). h c.args.name.now) c.pieces.invariant.same ∙ holds in
    let within_piece : read ≤ length c.piece.new.into = omega (arith, c.in_ok-read.ensures.within, c.piece.auto.into) in
    let short : read ≤ c.pieces.piece.len = omega (arith, c.in_ok-read.ensures.within, c.deref_mut.ensures.len) in
    let piece : IsPieceAt bytes at read c.piece.new.into = c.in_ok-read.ensures.bytes bytes now in
    let so_far = c.pieces.invariant.fed bytes files holds stands in
    let less : c.args.file < length files = omega (arith, c.requires, stands.count) in
    let policy : c.feed.new.self.policy ≡ c.pieces.intake.policy = c.feed.ensures.policy in
    let text = ap (λ (l : List ℕ). take at bytes ++ take read l) c.deref.ensures.value ∙ ap (λ (l : List ℕ). take at bytes ++ l) (read_of c.piece.new.into _ c.pieces.piece.len read short within_piece) ∙ fed_more bytes c.piece.new.into at read piece.same in
    let found = fault_fed c.pieces.intake c.feed.new.self.interfaces c.feed.new.self.policy files c.args.file at read bytes _ c.in_err-feed.field-0.0.kind less fresh policy text so_far (c.in_err-feed.ensures.err _ so_far.stands).1 in
    subst (λ (p : Policy). (front : HasFront p (packets_of files) c.args.file bytes c.feed.new.self.interfaces) × IsNext p c.feed.new.self.interfaces bytes front.packets c.in_err-feed.field-0.0.kind) (policy ∙ c.pieces.invariant.policy) found

pub returns-in_err-feed-clause-front : goal.returns-in_err-feed-clause-front
returns-in_err-feed-clause-front g c = λ bytes files holds stands fresh. (fault_of g c bytes files holds stands fresh).0

pub returns-in_err-feed-clause-refused : goal.returns-in_err-feed-clause-refused
returns-in_err-feed-clause-refused g c = λ bytes files holds stands fresh.
    let so_far = c.pieces.invariant.fed bytes files holds stands in
    let file = (c.in_err-feed.ensures.err _ so_far.stands).0 in
    let found = fault_of g c bytes files holds stands fresh in
    err_then c.from_residual-in_err-feed.result c.from_residual-in_err-feed.ensures.1 (λ stop ends. inr (inr (c.in_err-feed.field-0.0, ends, file, λ _. record { interfaces = c.feed.new.self.interfaces; front = found.0; next = found.1 })))

pub returns-in_default-clause-front : goal.returns-in_default-clause-front
returns-in_default-clause-front g c = λ bytes files holds stands fresh.
    let at = c.pieces.at in
    let read = c.in_ok-read.read in
    let now : g.S.Source.holds c.pieces.source c.args.name.now ≡ Some bytes = ap (λ (h : List ℕ → Option (List ℕ)). h c.args.name.now) c.pieces.invariant.same ∙ holds in
    let within_piece : read ≤ length c.piece.new.into = omega (arith, c.in_ok-read.ensures.within, c.piece.auto.into) in
    let short : read ≤ c.pieces.piece.len = omega (arith, c.in_ok-read.ensures.within, c.deref_mut.ensures.len) in
    let piece : IsPieceAt bytes at read c.piece.new.into = c.in_ok-read.ensures.bytes bytes now in
    let so_far = c.pieces.invariant.fed bytes files holds stands in
    let less : c.args.file < length files = omega (arith, c.requires, stands.count) in
    let on = subst (λ (text : List ℕ). GoesOn c.feed.new.self files c.args.file text)
    (ap (λ (l : List ℕ). take at bytes ++ take read l) c.deref.ensures.value ∙ ap (λ (l : List ℕ). take at bytes ++ l) (read_of c.piece.new.into _ c.pieces.piece.len read short within_piece) ∙ fed_more bytes c.piece.new.into at read piece.same)
    (goes_further c.feed.new.self files c.args.file (take at bytes) _ so_far.more less (c.in_ok-feed.ensures.ok _ so_far.stands)) in
    subst (λ (policy : Policy). HasFront policy (packets_of files) c.args.file bytes c.feed.new.self.interfaces) (c.feed.ensures.policy ∙ c.pieces.invariant.policy)
    (front_fed c.feed.new.self files c.args.file (at + read) bytes less fresh on)

pub returns-in_default-clause-refused : goal.returns-in_default-clause-refused
returns-in_default-clause-refused g c = λ bytes files holds stands fresh.
    let now : g.S.Source.holds c.pieces.source c.args.name.now ≡ Some bytes = ap (λ (h : List ℕ → Option (List ℕ)). h c.args.name.now) c.pieces.invariant.same ∙ holds in
    let within_piece : c.in_ok-read.read ≤ length c.piece.new.into = omega (arith, c.in_ok-read.ensures.within, c.piece.auto.into) in
    let more = piece_within bytes c.piece.new.into c.pieces.at c.in_ok-read.read (c.in_ok-read.ensures.bytes bytes now) within_piece (c.pieces.invariant.within bytes holds) in
    let past = none_over c.checked_add.result _ _ c.in_default.is c.checked_add.ensures in
    inr (inl (refl, inr (omega (arith, more, past))))

pub returns-clause-front : goal.returns-clause-front
returns-clause-front g c = λ bytes files holds stands fresh.
    subst (λ (policy : Policy). HasFront policy (packets_of files) c.args.file bytes c.pieces.intake.interfaces) c.pieces.invariant.policy
    (front_fed c.pieces.intake files c.args.file c.pieces.at bytes (omega (arith, c.requires, stands.count)) fresh (c.pieces.invariant.fed bytes files holds stands))

pub returns-clause-refused : goal.returns-clause-refused
returns-clause-refused g c = λ bytes files holds stands fresh.
    inr (inl (refl, inr (omega (arith, c.pieces.invariant.read, c.pieces.invariant.within bytes holds, c.pieces-test.false, c.pieces.auto.counter-end))))

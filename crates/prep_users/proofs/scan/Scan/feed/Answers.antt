use Rattle.std.proofs.Common.{◌≡◌, ◌+◌, ◌≤◌, ◌++◌, ◌∙◌, ℕ, List, length, refl, sym, ap, subst, arith}
use Rattle.std.proofs.lemmas.List.{nil_from_length, length-append}
use Rattle.prep_users.specs.declared.claim.Secret.{Secret}
use Rattle.prep_users.specs.Rolls.{AreProved, payload_at, payloads_in}
use Rattle.prep_users.proofs.Scanning.{nothing_yet, step, all_taken, at_end}
use Rattle.prep_users.proofs.scan.Scan.feed.Goals as goal

pub loop-init : goal.loop-init
loop-init c = record {
  secrets = refl;
  scans = λ text blocks earlier s. (nothing_yet c.args.self.now.splitter c.args.roll.now.secrets c.args.roll.now.accounts text blocks earlier c.args.piece.now s, omega arith);
}

pub returns-in_default-clause-proved : goal.returns-in_default-clause-proved
returns-in_default-clause-proved c = λ text blocks earlier s.
    let so_far = (c.loop.invariant.scans text blocks earlier s).0 in
    all_taken c.loop.self.splitter c.next.new.self c.args.roll.now.secrets c.loop.roll.accounts text blocks earlier c.args.piece.now c.loop.rest.now so_far
    (rw c.in_default.is at (c.in_ok-block.ensures.none _ _ so_far.scanning.splits))

pub loop-preserved : goal.loop-preserved
loop-preserved c = record {
  secrets = c.take_block.ensures.secrets ∙ c.loop.invariant.secrets;
  scans = λ text blocks earlier s.
      let so_far = (c.loop.invariant.scans text blocks earlier s).0 in
      let fits = (c.loop.invariant.scans text blocks earlier s).1 in
      let gave = rw c.in-Some.is at (c.in_ok-block.ensures.block _ _ so_far.scanning.splits) in
      let rest_short : length c.in-Some.behind.now + (c.loop.counter + 1) ≤ length c.args.piece.now = omega (arith, fits, gave.some, ap length gave.cut, length-append gave.taken c.in-Some.behind.now) in
      let before = subst (λ (t : List Secret). AreProved t c.loop.roll.accounts (earlier ++ payloads_in (blocks ++ so_far.more))) (sym c.loop.invariant.secrets) so_far.scanning.proved in
      let after = c.in_ok-take_block.ensures.proved (earlier ++ payloads_in (blocks ++ so_far.more)) before in (
        step c.loop.self.splitter c.next.new.self c.args.roll.now.secrets c.loop.roll.accounts c.take_block.new.roll.accounts text blocks earlier c.args.piece.now c.loop.rest.now c.in-Some.behind.now c.in-Some.block so_far gave
            (subst (λ (t : List Secret). AreProved t c.take_block.new.roll.accounts ((earlier ++ payloads_in (blocks ++ so_far.more)) ++ payload_at c.in-Some.block c.in-Some.block.packet)) c.loop.invariant.secrets after),
        rest_short,
      );
}

pub returns-clause-proved : goal.returns-clause-proved
returns-clause-proved c = λ text blocks earlier s.
    let so_far = (c.loop.invariant.scans text blocks earlier s).0 in
    let fits = (c.loop.invariant.scans text blocks earlier s).1 in
    let none : length c.loop.rest.now ≡ 0 = omega (arith, fits) in
    at_end c.loop.self.splitter c.args.roll.now.secrets c.loop.roll.accounts text blocks earlier c.args.piece.now c.loop.rest.now (nil_from_length c.loop.rest.now none) so_far

use Rattle.std.proofs.Common.{◌≡◌, ◌≢◌, ◌∙◌, ap, sym, [], true, false, not, arith}
use Rattle.std.proofs.lemmas.Grind.{common_steps}
use Rattle.std.proofs.lemmas.List.{append-nil}
use Rattle.std.specs.Option.{is_some}
use Rattle.audit_pcapng.proofs.Endings.{no_byte, some_byte}
use Rattle.prep_blocks.specs.Read.{bytes_of}
use Rattle.prep_blocks.proofs.Splitters.{front_of, left_over, with_nothing}
use Rattle.prep_blocks.proofs.splitter.BlockSplitter.finish.Goals as goal

pub returns-then-not-is_empty-clause-ends : goal.returns-then-not-is_empty-clause-ends
returns-then-not-is_empty-clause-ends c = λ text blocks stands.
    let some : c.args.self.now.held.items ≢ [] = grind (arith, common_steps) in
    left_over text c.args.self.now.held.items blocks c.args.self.now.scope stands.1 some

pub returns-then-is_none-clause-ends : goal.returns-then-is_none-clause-ends
returns-then-is_none-clause-ends c = λ text blocks stands.
    let nothing : c.args.self.now.held.items ≡ [] = grind (arith, common_steps) in
    let none : is_some c.args.self.now.scope.order ≡ false = ap is_some (sym c.order.ensures) ∙ c.is_none.ensures ∙ ap not c.if-is_none.true in
    let split = with_nothing text c.args.self.now.held.items blocks c.args.self.now.scope nothing stands.1 in
    let front = front_of text [] blocks c.args.self.now.scope split in
    no_byte front.1.blocks text front.0 c.args.self.now.scope none front.1.run front.1.spelled

pub returns-clause-ends : goal.returns-clause-ends
returns-clause-ends c = λ text blocks stands.
    let nothing : c.args.self.now.held.items ≡ [] = grind (arith, common_steps) in
    let some : is_some c.args.self.now.scope.order ≡ true = ap is_some (sym c.order.ensures) ∙ c.is_none.ensures ∙ ap not c.if-is_none.false in
    let split = with_nothing text c.args.self.now.held.items blocks c.args.self.now.scope nothing stands.1 in
    let front = front_of text [] blocks c.args.self.now.scope split in
    record {
      packets = front.0;
      is = (some_byte front.1.blocks text front.0 c.args.self.now.scope some front.1.run front.1.spelled, c.args.self.now.scope, front.1);
      scope = c.args.self.now.scope;
      read = split.read;
      spelled = split.spelled ∙ append-nil (bytes_of blocks);
    }

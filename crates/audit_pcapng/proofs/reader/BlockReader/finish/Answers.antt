use Rattle.std.proofs.Common.{◌≡◌, ◌∙◌, ap, sym, [], true, false, not}
use Rattle.std.proofs.Common.{arith}
use Rattle.std.proofs.lemmas.Grind.{common_steps}
use Rattle.std.specs.Option.{is_some}
use Rattle.audit_pcapng.proofs.Endings.{no_byte, some_byte}
use Rattle.audit_pcapng.proofs.reader.BlockReader.finish.Goals as goal

pub returns-then-is_none-clause-ends : goal.returns-then-is_none-clause-ends
returns-then-is_none-clause-ends c = λ text packets stands.
    let nothing : c.args.self.now.held.items ≡ [] = grind (arith, common_steps) in
    let none : is_some c.args.self.now.scope.order ≡ false = ap is_some (sym c.order.ensures) ∙ c.is_none.ensures ∙ ap not c.if-is_none.true in
    no_byte stands.1.front.blocks text packets c.args.self.now.scope none stands.1.front.run (rw nothing at stands.1.front.spelled)

pub returns-clause-ends : goal.returns-clause-ends
returns-clause-ends c = λ text packets stands.
    let nothing : c.args.self.now.held.items ≡ [] = grind (arith, common_steps) in
    let some : is_some c.args.self.now.scope.order ≡ true = ap is_some (sym c.order.ensures) ∙ c.is_none.ensures ∙ ap not c.if-is_none.false in (
      some_byte stands.1.front.blocks text packets c.args.self.now.scope some stands.1.front.run (rw nothing at stands.1.front.spelled),
      c.args.self.now.scope,
      rw nothing at stands.1.front,
    )

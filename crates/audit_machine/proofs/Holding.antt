-- The client that has a usable allocation is the one that its relayed address was granted to last.
use Rattle.std.proofs.Common.{◌≡◌, ◌≤◌, ℕ, Option, Some, None, subst, refl, arith}
use Rattle.audit_model.specs.declared.address.Addr.{Addr}
use Rattle.audit_model.specs.declared.pair.Pair.{Pair}
use Rattle.audit_rules.specs.Allocation.{Allocation}
use Rattle.audit_server.specs.Run.{HasAddress}
use Rattle.audit_machine.specs.declared.holders.Holders.{Holders}
use Rattle.audit_machine.specs.declared.tables.Tables.{Tables}
use Rattle.audit_machine.specs.Holders.{holder_of}
use Rattle.audit_machine.specs.Machine.{AreHeld}
use Rattle.audit_machine.specs.Tables.{allocation_of}

pub holder_is : (tables : Tables) (holders : Holders) (grace before moment : ℕ) → AreHeld tables holders grace before → before ≤ moment → (other : Pair) (relayed : Addr) →
    HasAddress grace moment relayed (allocation_of tables other) → holder_of holders relayed ≡ Some other
holder_is tables holders grace before moment held le other relayed h = by_entry (allocation_of tables other) refl h where
  by_entry : (o : Option Allocation) → allocation_of tables other ≡ o → HasAddress grace moment relayed o → holder_of holders relayed ≡ Some other
  by_entry None is k = absurd k
  by_entry (Some a) is k = subst (λ (r : Addr). holder_of holders r ≡ Some other) k.0 (held other a is (omega (arith, k.1, le)))

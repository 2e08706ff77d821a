-- The part of a text that one call reads, and how it stops.
use Rattle.std.specs.Prelude.{◌≡◌, ◌≢◌, ℕ, List, ◌++◌, Option, Ok, Err}
use Rattle.std.specs.Option.{option_to_list}
use Rattle.audit_pcapng.specs.declared.heading.Heading.{Heading}
use Rattle.audit_pcapng.specs.declared.packet.Packet.{Packet}
use Rattle.audit_pcapng.specs.declared.scope.Scope.{Scope}
use Rattle.audit_pcapng.specs.declared.fault.CaptureFault.{CaptureFault}
use Rattle.audit_pcapng.specs.declared.fault.CaptureFault.TheVariants.{Memory}
use Rattle.audit_pcapng.specs.Blocks.{block}
use Rattle.audit_pcapng.specs.Captures.{Front, IsFaulty}

-- a block was read, and its packet added
pub record Adds (old : Scope) (head : Heading) (bytes : List ℕ) (before : List Packet) (new : Scope) (after : List Packet) : Type 0 where
  pub given : Option Packet
  pub taken : block old head bytes ≡ Ok (new, given)
  pub added : after ≡ before ++ option_to_list given

-- all of the text was read except a rest that is less than a block
pub record Consumes (old : Scope) (text : List ℕ) (before : List Packet) (new : Scope) (after : List Packet) (rest : List ℕ) : Type 0 where
  pub more : List Packet
  pub front : Front old text more new rest
  pub added : after ≡ before ++ more

-- the packets of blocks at the front were added, and the next block has the fault, or memory ran
-- out for it
pub record Stops (old : Scope) (text : List ℕ) (before after : List Packet) (fault : CaptureFault) : Type 0 where
  pub more : List Packet
  pub scope : Scope
  pub rest : List ℕ
  pub front : Front old text more scope rest
  pub added : after ≡ before ++ more
  pub faulty : fault ≢ Memory → IsFaulty scope rest fault

-- a block was not read, because of its fault or exhausted memory
abbrev pub Declines : Scope → Heading → List ℕ → CaptureFault → Type 0
Declines old head bytes fault = fault ≢ Memory → block old head bytes ≡ Err fault

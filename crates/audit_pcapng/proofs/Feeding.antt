-- What a call took, as the reader's relation says it.
use Rattle.std.proofs.Common.{◌≡◌, ℕ, false, List, ◌++◌}
use Rattle.audit_pcapng.specs.declared.packet.Packet.{Packet}
use Rattle.audit_pcapng.specs.declared.reader.BlockReader.{BlockReader}
use Rattle.audit_pcapng.specs.declared.fault.CaptureFault.{CaptureFault}
use Rattle.audit_pcapng.specs.Sections.{no_blocks}
use Rattle.audit_pcapng.specs.Captures.{IsCut}
use Rattle.audit_pcapng.specs.Stretches.{Consumes, Stops}
use Rattle.audit_pcapng.specs.Readers.{StandsFor, GoesOn, Refuses}
use Rattle.audit_pcapng.proofs.Texts.{Front-more, Front-then}

pub fed : (old new : BlockReader) (text piece : List ℕ) (packets before after : List Packet) → StandsFor old text packets → new.failed ≡ false → IsCut new.scope new.held.items
    → Consumes old.scope (old.held.items ++ piece) before new.scope after new.held.items → GoesOn new (text ++ piece) packets before after
fed old new text piece packets before after stands sound cut consumed = record {
  more = consumed.more;
  stands = (
    sound,
    record {
      front = Front-then no_blocks old.scope new.scope (text ++ piece) (old.held.items ++ piece) new.held.items packets consumed.more
          (Front-more no_blocks old.scope text old.held.items piece packets stands.1.front) consumed.front;
      cut = cut;
    },
  );
  added = consumed.added;
}

pub refused : (old : BlockReader) (text piece : List ℕ) (packets before after : List Packet) (fault : CaptureFault) → StandsFor old text packets
    → Stops old.scope (old.held.items ++ piece) before after fault → Refuses (text ++ piece) packets before after fault
refused old text piece packets before after fault stands stopped =
    let front = Front-then no_blocks old.scope stopped.scope (text ++ piece) (old.held.items ++ piece) stopped.rest packets stopped.more
    (Front-more no_blocks old.scope text old.held.items piece packets stands.1.front) stopped.front in
    record {
      more = stopped.more;
      first = λ named. record { scope = stopped.scope; rest = stopped.rest; front = front; faulty = stopped.faulty named };
      begins = (stopped.scope, stopped.rest, front);
      added = stopped.added;
    }

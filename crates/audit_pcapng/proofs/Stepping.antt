-- A piece, packet by packet.
use Rattle.std.proofs.Common.{◌≡◌, ◌≢◌, ℕ, false, List, [], ◌∷◌, ◌++◌, length, Option, Some, None, Ok, refl, sym, ap, subst, ◌∙◌, inl, inr}
use Rattle.std.proofs.lemmas.List.{append-nil}
use Rattle.audit_pcapng.specs.declared.heading.Heading.{Heading}
use Rattle.audit_pcapng.specs.declared.packet.Packet.{Packet}
use Rattle.audit_pcapng.specs.declared.packet.PacketSlice.{PacketSlice}
use Rattle.audit_pcapng.specs.declared.scope.Scope.{Scope}
use Rattle.audit_pcapng.specs.declared.reader.BlockReader.{BlockReader}
use Rattle.audit_pcapng.specs.declared.fault.CaptureFault.{CaptureFault}
use Rattle.audit_pcapng.specs.Sections.{no_blocks}
use Rattle.audit_pcapng.specs.Blocks.{block}
use Rattle.audit_pcapng.specs.Captures.{Front, IsCut}
use Rattle.audit_pcapng.specs.Stretches.{Adds, Consumes, Stops}
use Rattle.audit_pcapng.specs.Packets.{packet_of, given_of}
use Rattle.audit_pcapng.specs.Readers.{StandsFor}
use Rattle.audit_pcapng.specs.Steps.{IsAt, Begins, Gave, EndsBy}
use Rattle.audit_pcapng.proofs.Texts.{Front-more, Front-then, cut_by_end}

-- a block without a packet, and one with a packet
pub adds_none : (old new : Scope) (head : Heading) (bytes : List ℕ) (given : Option PacketSlice) → block old head bytes ≡ Ok (new, given_of given) → given ≡ None → Adds old head bytes [] new []
adds_none old new head bytes given taken is = record { given = None; taken = taken ∙ ap (λ (g : Option PacketSlice). Ok (new, given_of g)) is; added = refl }

pub adds_one : (old new : Scope) (head : Heading) (bytes : List ℕ) (given : Option PacketSlice) (packet : PacketSlice) → block old head bytes ≡ Ok (new, given_of given) → given ≡ Some packet → Adds old head bytes [] new (packet_of packet ∷ [])
adds_one old new head bytes given packet taken is = record { given = Some (packet_of packet); taken = taken ∙ ap (λ (g : Option PacketSlice). Ok (new, given_of g)) is; added = refl }

front_as : (text : List ℕ) (packets p : List Packet) (scope : Scope) (rest r : List ℕ) → packets ≡ p → rest ≡ r → Front no_blocks text packets scope rest → Front no_blocks text p scope r
front_as text packets p scope rest r e f front = subst (λ (x : List ℕ). Front no_blocks text p scope x) f (subst (λ (x : List Packet). Front no_blocks text x scope rest) e front)

-- a rest that is not empty has nothing held before it
nothing_held : (reader : BlockReader) (text : List ℕ) (packets : List Packet) (rest : List ℕ) → IsAt reader text packets rest → rest ≢ [] → reader.held.items ≡ []
nothing_held reader text packets rest at some = elim at.either [ inl none ↦ none | inr end ↦ absurd (some end.0) ]

-- what is taken of the rest follows what was read
taken_on : (reader : BlockReader) (scope : Scope) (text : List ℕ) (packets more : List Packet) (rest behind : List ℕ) → IsAt reader text packets rest → rest ≢ [] → Front reader.scope rest more scope behind → Front no_blocks text (packets ++ more) scope behind
taken_on reader scope text packets more rest behind at some front =
    let none = nothing_held reader text packets rest at some in
    let here : Front no_blocks text packets reader.scope rest = front_as text packets packets reader.scope (reader.held.items ++ rest) rest refl (ap (λ (h : List ℕ). h ++ rest) none) at.front in
    Front-then no_blocks reader.scope scope text rest behind packets more here front

pub at_end : (reader : BlockReader) (text : List ℕ) (packets : List Packet) (rest : List ℕ) → rest ≡ [] → IsAt reader text packets rest → StandsFor reader text packets
at_end reader text packets rest end at = (
  at.sound,
  record {
    front = front_as text packets packets reader.scope (reader.held.items ++ rest) reader.held.items refl (ap (λ (r : List ℕ). reader.held.items ++ r) end ∙ append-nil reader.held.items) at.front;
    cut = elim at.either [ inl none ↦ cut_by_end reader.scope reader.held.items (ap length none) | inr cut ↦ cut.1 ];
  },
)

pub stepped : (old new : BlockReader) (text : List ℕ) (packets : List Packet) (rest behind : List ℕ) (packet : PacketSlice) → IsAt old text packets rest → rest ≢ [] → new.failed ≡ false → new.held.items ≡ old.held.items
    → Consumes old.scope rest [] new.scope (packet_of packet ∷ []) behind → Gave new text packets packet behind
stepped old new text packets rest behind packet at some sound held consumed =
    let none = held ∙ nothing_held old text packets rest at some in
    record {
      sound = sound;
      front = front_as text (packets ++ consumed.more) (packets ++ packet_of packet ∷ []) new.scope behind (new.held.items ++ behind) (ap (λ (p : List Packet). packets ++ p) (sym consumed.added)) (ap (λ (h : List ℕ). h ++ behind) (sym none))
          (taken_on old new.scope text packets consumed.more rest behind at some consumed.front);
      either = inl none;
    }

pub read_all : (old new : BlockReader) (text : List ℕ) (packets : List Packet) (rest behind : List ℕ) → IsAt old text packets rest → rest ≢ [] → new.failed ≡ false → new.held.items ≡ old.held.items ++ behind
    → IsCut new.scope behind → Consumes old.scope rest [] new.scope [] behind → StandsFor new text packets
read_all old new text packets rest behind at some sound held cut consumed =
    let now : new.held.items ≡ behind = held ∙ ap (λ (h : List ℕ). h ++ behind) (nothing_held old text packets rest at some) in (
      sound,
      record {
        front = front_as text (packets ++ consumed.more) packets new.scope behind new.held.items (ap (λ (p : List Packet). packets ++ p) (sym consumed.added) ∙ append-nil packets) (sym now)
            (taken_on old new.scope text packets consumed.more rest behind at some consumed.front);
        cut = subst (IsCut new.scope) (sym now) cut;
      },
    )

pub ends_by : (old : BlockReader) (text : List ℕ) (packets : List Packet) (rest : List ℕ) (fault : CaptureFault) → IsAt old text packets rest → rest ≢ [] → Stops old.scope rest [] [] fault → EndsBy text packets fault
ends_by old text packets rest fault at some stops = λ named. record {
  scope = stops.scope;
  rest = stops.rest;
  front = front_as text (packets ++ stops.more) packets stops.scope stops.rest stops.rest (ap (λ (p : List Packet). packets ++ p) (sym stops.added) ∙ append-nil packets) refl
      (taken_on old stops.scope text packets stops.more rest stops.rest at some stops.front);
  faulty = stops.faulty named;
}

-- the block that was held is whole
pub begun : (old new : BlockReader) (text piece : List ℕ) (packets before after : List Packet) (rest : List ℕ) → StandsFor old text packets → new.failed ≡ false → new.held.items ≡ []
    → Consumes old.scope (old.held.items ++ piece) before new.scope after rest → Begins new (text ++ piece) packets before after rest
begun old new text piece packets before after rest stands sound none consumed = record {
  more = consumed.more;
  at = record {
    sound = sound;
    front = front_as (text ++ piece) (packets ++ consumed.more) (packets ++ consumed.more) new.scope rest (new.held.items ++ rest) refl (ap (λ (h : List ℕ). h ++ rest) (sym none))
        (Front-then no_blocks old.scope new.scope (text ++ piece) (old.held.items ++ piece) rest packets consumed.more (Front-more no_blocks old.scope text old.held.items piece packets stands.1.front) consumed.front);
    either = inl none;
  };
  added = consumed.added;
}

-- all of the piece is held
pub begun_within : (old new : BlockReader) (text piece : List ℕ) (packets before after : List Packet) → StandsFor old text packets → new.failed ≡ false → IsCut new.scope new.held.items
    → Consumes old.scope (old.held.items ++ piece) before new.scope after new.held.items → Begins new (text ++ piece) packets before after []
begun_within old new text piece packets before after stands sound cut consumed = record {
  more = consumed.more;
  at = record {
    sound = sound;
    front = front_as (text ++ piece) (packets ++ consumed.more) (packets ++ consumed.more) new.scope new.held.items (new.held.items ++ []) refl (sym (append-nil new.held.items))
        (Front-then no_blocks old.scope new.scope (text ++ piece) (old.held.items ++ piece) new.held.items packets consumed.more (Front-more no_blocks old.scope text old.held.items piece packets stands.1.front) consumed.front);
    either = inr (refl, cut);
  };
  added = consumed.added;
}

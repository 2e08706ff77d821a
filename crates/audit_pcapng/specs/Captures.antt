-- A capture's text: consecutive blocks, and the packet and the next scope of each (section 3.1).
use Rattle.std.specs.Prelude.{◌≡◌, ◌≢◌, ℕ, ◌<◌, ◌≤◌, List, [], ◌∷◌, ◌++◌, length, take, Option, Some, None, Result, Ok, Err}
use Rattle.std.specs.Option.{option_to_list}
use Rattle.std.specs.List.{concat}
use Rattle.audit_pcapng.specs.declared.heading.Heading.{Heading}
use Rattle.audit_pcapng.specs.declared.packet.Packet.{Packet}
use Rattle.audit_pcapng.specs.declared.scope.Scope.{Scope}
use Rattle.audit_pcapng.specs.declared.fault.CaptureFault.{CaptureFault}
use Rattle.audit_pcapng.specs.declared.fault.CaptureFault.TheVariants.{Torn, NoSection}
use Rattle.audit_pcapng.specs.Headings.{heading}
use Rattle.audit_pcapng.specs.Sections.{no_blocks}
use Rattle.audit_pcapng.specs.Blocks.{block}

-- the bytes are one whole block, with a packet or none, and the scope after it
pub record IsBlock (scope : Scope) (bytes : List ℕ) (given : Option Packet) (after : Scope) : Type 0 where
  pub head : Heading
  pub shown : heading scope.order bytes ≡ Ok (Some head)
  pub whole : head.length ≡ length bytes
  pub taken : block scope head bytes ≡ Ok (after, given)

-- consecutive blocks, their packets, and the scope after them
abbrev pub Blocks : Scope → List (List ℕ) → List Packet → Scope → Type 0
Blocks scope [] packets after = (packets ≡ []) × (after ≡ scope)
Blocks scope (bytes ∷ others) packets after =
    (given : Option Packet) × (next : Scope) × (later : List Packet) × IsBlock scope bytes given next × Blocks next others later after × (packets ≡ option_to_list given ++ later)

-- from a scope on, the text begins with blocks that have these packets, and the rest follows them
pub record Front (start : Scope) (text : List ℕ) (packets : List Packet) (scope : Scope) (rest : List ℕ) : Type 0 where
  pub blocks : List (List ℕ)
  pub spelled : text ≡ concat blocks ++ rest
  pub run : Blocks start blocks packets scope

-- less than a whole block, with no fault so far
abbrev pub Lacks : Result (Option Heading) CaptureFault → List ℕ → Type 0
Lacks (Ok None) rest = Unit {0}
Lacks (Ok (Some head)) rest = length rest < head.length
Lacks (Err fault) rest = ⊥

abbrev pub IsCut : Scope → List ℕ → Type 0
IsCut scope rest = Lacks (heading scope.order rest) rest

-- a block's fault: of its heading, or of the block once it is whole
abbrev pub Shows : Scope → Result (Option Heading) CaptureFault → List ℕ → CaptureFault → Type 0
Shows scope (Ok None) rest fault = ⊥
Shows scope (Ok (Some head)) rest fault = (head.length ≤ length rest) × (block scope head (take head.length rest) ≡ Err fault)
Shows scope (Err shown) rest fault = shown ≡ fault

abbrev pub IsFaulty : Scope → List ℕ → CaptureFault → Type 0
IsFaulty scope rest fault = Shows scope (heading scope.order rest) rest fault

-- the text's blocks, or some of them from the first one on, have these packets
abbrev pub BeginsWith : List ℕ → List Packet → Type 0
BeginsWith text packets = (scope : Scope) × (rest : List ℕ) × Front no_blocks text packets scope rest

-- a text without a fault so far: its packets, and the part of the next block
pub record Reads (text : List ℕ) (packets : List Packet) (scope : Scope) (rest : List ℕ) : Type 0 where
  pub front : Front no_blocks text packets scope rest
  pub cut : IsCut scope rest

-- the first fault of a text, and the packets before it
pub record FirstFault (text : List ℕ) (packets : List Packet) (fault : CaptureFault) : Type 0 where
  pub scope : Scope
  pub rest : List ℕ
  pub front : Front no_blocks text packets scope rest
  pub faulty : IsFaulty scope rest fault

-- a whole capture: at least one block, and nothing after the last
abbrev pub IsCapture : List ℕ → List Packet → Type 0
IsCapture text packets = (text ≢ []) × (scope : Scope) × Front no_blocks text packets scope []

-- a capture that ends inside a block
abbrev pub IsTorn : List ℕ → List Packet → Type 0
IsTorn text packets = (scope : Scope) × (rest : List ℕ) × (rest ≢ []) × Reads text packets scope rest

-- the result at the end of a text without a fault
abbrev pub Ends : Result (Unit {0}) CaptureFault → List ℕ → List Packet → Type 0
Ends (Ok done) text packets = IsCapture text packets
Ends (Err Torn) text packets = IsTorn text packets
Ends (Err NoSection) text packets = text ≡ []
Ends (Err other) text packets = ⊥

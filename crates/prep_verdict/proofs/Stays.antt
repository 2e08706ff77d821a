-- The packets of blocks, and of those that stay.
use Rattle.std.proofs.Common.{◌≡◌, ◌≢◌, ℕ, List, [], ◌∷◌, ◌++◌, map, Option, Some, None, refl, sym, ap, subst, append_assoc, ◌∙◌}
use Rattle.std.specs.Prelude.{option_map}
use Rattle.std.specs.Option.{option_to_list}
use Rattle.std.specs.List.{AllByRecursion}
use Rattle.std.proofs.lemmas.List.{append-nil}
use Rattle.std.proofs.lemmas.Option.{none-some}
use Rattle.audit_pcapng.specs.declared.packet.Packet.{Packet}
use Rattle.audit_pcapng.specs.declared.scope.Scope.{Scope}
use Rattle.audit_pcapng.specs.Sections.{no_blocks}
use Rattle.audit_pcapng.specs.Captures.{IsBlock, Blocks, Reads, IsCapture}
use Rattle.audit_pcapng.proofs.OneReading.{one_list}
use Rattle.audit_pcapng.proofs.Texts.{cut_by_end}
use Rattle.prep_blocks.specs.declared.block.Block.{Block}
use Rattle.prep_blocks.specs.declared.block.PacketHead.{PacketHead}
use Rattle.prep_blocks.specs.Read.{IsRead, AreRead, bytes_of, head_of}
use Rattle.prep_blocks.specs.Splitting.{IsWhole}
use Rattle.prep_cut.specs.declared.plan.Plan.{Plan}
use Rattle.prep_cut.specs.declared.plan.Proposal.{Proposal}
use Rattle.prep_cut.specs.Marks.{Marked, marked, behind, line_of, proposed_for, proposed_line}
use Rattle.hex.specs.Hex.{encode_lower}
use Rattle.sha2.specs.Sha256.{sha256}
use Rattle.prep_comment.specs.Sections.{block_of, scope_behind, section_of}
use Rattle.prep_comment.proofs.Reading.{section_read}
use Rattle.prep_cut.specs.Marking.{totals_of}
use Rattle.prep_program.specs.CutComment.{blocks_of, comment_text}
use Rattle.prep_program.proofs.AllCuts.{blocks_same}
use Rattle.prep_verdict.specs.Rest.{packet_by, packet_in, packets_in, rest_of, Capture, stays, written}
use Rattle.prep_verdict.proofs.Gives.{block_has}

-- ---- one block

gives_by : (scope after : Scope) (b : Block) (given : Option Packet) (head : Option PacketHead) → IsRead scope b given after → head ≡ option_map head_of given → option_map (packet_by b) head ≡ given
gives_by scope after b None head read e = rw e refl
gives_by scope after b (Some p) head read e =
    let has = block_has scope after read.head b.bytes p read.taken in
    rw e (ap (λ (bytes : List ℕ). Some (record { stamp = p.stamp; bytes = bytes; iface = p.iface; captured = p.captured; original = p.original })) (sym has.1))

-- a block's packet is what it gives
gives : (scope after : Scope) (b : Block) (given : Option Packet) → IsRead scope b given after → packet_in b ≡ given
gives scope after b given read = gives_by scope after b given b.packet read read.packet

-- ---- blocks one after another

joined : (first : Option Packet) (others : List Packet) (blocks : List Block) (b : Block) → packet_in b ≡ first → packets_in blocks ≡ others → packets_in (b ∷ blocks) ≡ option_to_list first ++ others
joined None others blocks b e f = rw (e, f) refl
joined (Some p) others blocks b e f = rw (e, f) refl

run_in : (scope after : Scope) (blocks : List Block) → AreRead scope blocks after → Blocks scope (map (λ (b : Block). b.bytes) blocks) (packets_in blocks) after
run_in scope after [] e = (refl, e)
run_in scope after (b ∷ others) read =
    let one : IsBlock scope b.bytes read.0 read.1 = record { head = read.2.head; shown = read.2.shown; whole = read.2.size; taken = read.2.taken } in
    (read.0, read.1, packets_in others, one, run_in read.1 after others read.3, joined read.0 (packets_in others) others b (gives scope read.1 b read.0 read.2) refl)

reads : (blocks : List Block) (scope : Scope) → AreRead no_blocks blocks scope → Reads (bytes_of blocks) (packets_in blocks) scope []
reads blocks scope read = record {
  front = record { blocks = map (λ (b : Block). b.bytes) blocks; spelled = sym (append-nil (bytes_of blocks)); run = run_in no_blocks scope blocks read };
  cut = cut_by_end scope [] refl;
}

pub whole_has : (text : List ℕ) (blocks : List Block) → IsWhole text blocks → IsCapture text (packets_in blocks)
whole_has text blocks whole =
    subst (λ (bytes : List ℕ). IsCapture bytes (packets_in blocks)) (sym whole.spelled)
    ((subst (λ (bytes : List ℕ). bytes ≢ []) whole.spelled whole.is.0), whole.scope, (reads blocks whole.scope whole.read).front)

-- ---- blocks of which some packets are left out

-- a block of no packet is written
abbrev IsKept : Marked → Type 0
IsKept one = one.block.packet ≡ None → one.line ≡ None

leaves : (scope after : Scope) (b : Block) (given : Option Packet) → IsRead scope b given after → b.packet ≢ None → after ≡ scope
leaves scope after b None read some = absurd (some read.packet)
leaves scope after b (Some p) read some = (block_has scope after read.head b.bytes p read.taken).0

rest_by : (scope after : Scope) (one : Marked) (others : List Marked) (line : Option ℕ) → one.line ≡ line → IsKept one → AreRead scope (map (λ (one : Marked). one.block) (one ∷ others)) after
    → ((next : Scope) → AreRead next (map (λ (one : Marked). one.block) others) after → AreRead next (rest_of others) after) → AreRead scope (rest_of (one ∷ others)) after
rest_by scope after one others None e kept read rest = rw e (read.0, read.1, read.2, rest read.1 read.3)
rest_by scope after one others (Some line) e kept read rest =
    let same = leaves scope read.1 one.block read.0 read.2 (λ none. none-some line (sym (kept none) ∙ e)) in
    rw e (rest scope (subst (λ (s : Scope). AreRead s (map (λ (one : Marked). one.block) others) after) same read.3))

AreRead-rest : (blocks : List Marked) (scope after : Scope) → AllByRecursion IsKept blocks → AreRead scope (map (λ (one : Marked). one.block) blocks) after → AreRead scope (rest_of blocks) after
AreRead-rest [] scope after kept read = read
AreRead-rest (one ∷ others) scope after kept read = rest_by scope after one others one.line refl kept.0 read (λ next. AreRead-rest others next after kept.1)

-- ---- a plan leaves out packets alone

no_line : (plan : Plan) (proposals : List Proposal) (b : Block) → b.packet ≡ None → line_of plan (proposed_line (proposed_for b.packet proposals)) b ≡ None
no_line plan proposals b none = rw none refl

all_kept : (plan : Plan) (proposals : List Proposal) (blocks : List Block) → AllByRecursion IsKept (marked plan proposals blocks)
all_kept plan proposals [] = tt
all_kept plan proposals (b ∷ others) = (no_line plan proposals b, all_kept plan (behind b.packet proposals) others)

-- ---- the comment behind them

then_read : (blocks : List Block) (scope middle after : Scope) (b : Block) → AreRead scope blocks middle → IsRead middle b None after → AreRead scope (blocks ++ b ∷ []) after
then_read [] scope middle after b e one = (None, after, subst (λ (s : Scope). IsRead s b None after) e one, refl)
then_read (first ∷ others) scope middle after b read one = (read.0, read.1, read.2, then_read others read.1 middle after b read.3 one)

bytes_then : (blocks : List Block) (b : Block) → bytes_of (blocks ++ b ∷ []) ≡ bytes_of blocks ++ b.bytes
bytes_then [] b = append-nil b.bytes
bytes_then (first ∷ others) b = ap (λ (t : List ℕ). first.bytes ++ t) (bytes_then others b) ∙ sym (append_assoc first.bytes (bytes_of others) b.bytes)

packets_then : (blocks : List Block) (b : Block) → packet_in b ≡ None → packets_in (blocks ++ b ∷ []) ≡ packets_in blocks
packets_then [] b none = joined None [] [] b none refl
packets_then (first ∷ others) b none =
    joined (packet_in first) (packets_in others) (others ++ b ∷ []) first refl (packets_then others b none) ∙ sym (joined (packet_in first) (packets_in others) others first refl refl)

-- the text of a capture whose last block is such a comment
with_comment : (blocks : List Block) (scope : Scope) (comment : List ℕ) (packets : List Packet) → AreRead no_blocks blocks scope → IsCapture (bytes_of blocks ++ section_of comment) packets → packets ≡ packets_in blocks
with_comment blocks scope comment packets read is =
    let last = block_of comment in
    let all = blocks ++ last ∷ [] in
    let whole = then_read blocks no_blocks scope (scope_behind scope) last read (section_read scope comment) in
    let same : IsCapture (bytes_of all) packets = subst (λ (text : List ℕ). IsCapture text packets) (sym (bytes_then blocks last)) is in
    (one_list (bytes_of all) packets (packets_in all) same.1 (scope_behind scope) [] [] (record { front = same.2; cut = cut_by_end same.1 [] refl }) (reads all (scope_behind scope) whole)).0
    ∙ packets_then blocks last refl

pub written_has : (plan : Plan) (capture : Capture) (packets : List Packet) → IsWhole capture.text capture.blocks → IsCapture (written plan capture) packets → packets ≡ packets_in (stays plan capture)
written_has plan capture packets whole is =
    let marks = marked plan capture.proposals capture.blocks in
    let read = AreRead-rest marks no_blocks whole.scope (all_kept plan capture.proposals capture.blocks) (rw (blocks_same plan capture.proposals capture.blocks) whole.read) in
    with_comment (rest_of marks) whole.scope (comment_text (totals_of plan marks) (encode_lower (sha256 (bytes_of (blocks_of marks))))) packets read is

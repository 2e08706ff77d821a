-- A splitter's relation, block by block.
use Rattle.std.proofs.Common.{◌≤◌, ◌<◌, ◌≡◌, ◌≢◌, ℕ, List, [], ◌∷◌, ◌++◌, length, map, Option, Some, None, Ok, refl, sym, ap, subst, ◌∙◌, append_assoc, false, Bor, arith}
use Rattle.std.specs.Option.{option_to_list, IfSome}
use Rattle.std.specs.List.{concat}
use Rattle.std.proofs.lemmas.List.{append-nil, length-append, map-append}
use Rattle.std.proofs.lemmas.List.Folds.{concat-append}
use Rattle.audit_pcapng.specs.declared.packet.Packet.{Packet}
use Rattle.audit_pcapng.specs.declared.scope.Scope.{Scope}
use Rattle.audit_pcapng.specs.declared.fault.CaptureFault.{CaptureFault}
use Rattle.audit_pcapng.specs.Headings.{heading}
use Rattle.audit_pcapng.specs.Sections.{no_blocks}
use Rattle.audit_pcapng.specs.Captures.{IsBlock, Blocks, Front, IsCut, IsFaulty, FirstFault}
use Rattle.audit_pcapng.proofs.Texts.{Front-more, cut_by_end}
use Rattle.prep_blocks.specs.declared.block.Block.{Block}
use Rattle.prep_blocks.specs.Read.{IsRead, AreRead, Splits, bytes_of}
use Rattle.prep_blocks.specs.declared.splitter.BlockSplitter.{BlockSplitter}
use Rattle.prep_blocks.specs.Splitting.{IsSplit, StandsFor, Gave}

-- what the blocks' packets are
pub run_of : (scope after : Scope) (blocks : List Block) → AreRead scope blocks after → (packets : List Packet) × Blocks scope (map (λ (b : Block). b.bytes) blocks) packets after
run_of scope after [] e = ([], (refl, e))
run_of scope after (b ∷ others) read =
    let later = run_of read.1 after others read.3 in
    let one : IsBlock scope b.bytes read.0 read.1 = record { head = read.2.head; shown = read.2.shown; whole = read.2.size; taken = read.2.taken } in
    (option_to_list read.0 ++ later.0, (read.0, read.1, later.0, one, later.1, refl))

pub front_of : (text rest : List ℕ) (blocks : List Block) (scope : Scope) → IsSplit text blocks scope rest → (packets : List Packet) × Front no_blocks text packets scope rest
front_of text rest blocks scope split =
    let run = run_of no_blocks scope blocks split.read in
    (run.0, record { blocks = map (λ (b : Block). b.bytes) blocks; spelled = split.spelled; run = run.1 })

AreRead-then : (start mid after : Scope) (blocks : List Block) (b : Block) (given : Option Packet) → AreRead start blocks mid → IsRead mid b given after → AreRead start (blocks ++ b ∷ []) after
AreRead-then start mid after [] b given e read = (given, after, (rw e at read), refl)
AreRead-then start mid after (first ∷ others) b given all read = (all.0, all.1, all.2, AreRead-then all.1 mid after others b given all.3 read)

pub bytes_of-one : (blocks : List Block) (b : Block) → bytes_of (blocks ++ b ∷ []) ≡ bytes_of blocks ++ b.bytes
bytes_of-one blocks b =
    let bytes = λ (x : Block). x.bytes in
    ap concat (map-append bytes blocks (b ∷ [])) ∙ concat-append (map bytes blocks) (b.bytes ∷ []) ∙ ap (λ (t : List ℕ). bytes_of blocks ++ t) (append-nil b.bytes)

-- a block more
pub gave : (text held piece rest : List ℕ) (blocks : List Block) (b : Block) (scope after : Scope) → IsSplit text blocks scope held → (s : Splits scope held piece b rest after) → IsSplit (text ++ s.moved.taken) (blocks ++ b ∷ []) after []
gave text held piece rest blocks b scope after split s = record {
  spelled = ap (λ (t : List ℕ). t ++ s.moved.taken) split.spelled ∙ append_assoc (bytes_of blocks) held s.moved.taken
      ∙ ap (λ (t : List ℕ). bytes_of blocks ++ t) (sym s.moved.grown) ∙ sym (bytes_of-one blocks b) ∙ sym (append-nil (bytes_of (blocks ++ b ∷ [])));
  read = AreRead-then no_blocks scope after blocks b s.given split.read s.read;
  cut = cut_by_end after [] refl;
}

-- bytes more, and no whole block
pub none_more : (text held held' piece : List ℕ) (blocks : List Block) (scope scope' : Scope) → IsSplit text blocks scope held → scope' ≡ scope → held' ≡ held ++ piece → IsCut scope' held' → IsSplit (text ++ piece) blocks scope' held'
none_more text held held' piece blocks scope scope' split same grown cut = record {
  spelled = ap (λ (t : List ℕ). t ++ piece) split.spelled ∙ append_assoc (bytes_of blocks) held piece ∙ ap (λ (t : List ℕ). bytes_of blocks ++ t) (sym grown);
  read = rw same split.read;
  cut = cut;
}

pub faulty : (text held piece : List ℕ) (blocks : List Block) (scope : Scope) (fault : CaptureFault) → IsSplit text blocks scope held → IsFaulty scope (held ++ piece) fault → (packets : List Packet) × FirstFault (text ++ piece) packets fault
faulty text held piece blocks scope fault split bad =
    let front = front_of text held blocks scope split in
    (front.0, record { scope = scope; rest = held ++ piece; front = Front-more no_blocks scope text held piece front.0 front.1; faulty = bad })

-- bytes that are left are no whole blocks
pub left_over : (text held : List ℕ) (blocks : List Block) (scope : Scope) → IsSplit text blocks scope held → held ≢ [] → text ≢ bytes_of blocks
left_over text [] blocks scope split some e = some refl
left_over text (x ∷ xs) blocks scope split some e =
    let long : length (bytes_of blocks) ≡ length (bytes_of blocks ++ x ∷ xs) = ap length (sym e ∙ split.spelled) in
    absurd (omega (arith, long, length-append (bytes_of blocks) (x ∷ xs)))

some_byte_of : (taken : List ℕ) → (taken ≡ [] → ⊥) → 1 ≤ length taken
some_byte_of [] some = absurd (some refl)
some_byte_of (x ∷ xs) some = omega arith

-- what was held was no whole block
some_taken : (scope after : Scope) (held piece rest : List ℕ) (b : Block) → IsCut scope held → (s : Splits scope held piece b rest after) → 1 ≤ length s.moved.taken
some_taken scope after held piece rest b cut s = some_byte_of s.moved.taken (λ none.
    let same : b.bytes ≡ held = s.moved.grown ∙ ap (λ (t : List ℕ). held ++ t) none ∙ append-nil held in
    let shown : heading scope.order held ≡ Ok (Some s.read.head) = ap (λ (t : List ℕ). heading scope.order t) (sym same) ∙ s.read.shown in
    let short : length held < s.read.head.length = rw shown at cut in
    let size : s.read.head.length ≡ length held = s.read.size ∙ ap length same in
    omega (arith, short, size))

-- a step of a splitter that gave a block
pub gave_block : (old new : BlockSplitter) (text piece : List ℕ) (blocks : List Block) (step : Option (Block × Bor (List ℕ))) → StandsFor old text blocks → new.failed ≡ false
    → IfSome step (λ given. Splits old.scope old.held.items piece given.0 given.1.now new.scope) → IfSome step (λ given. new.held.items ≡ []) → IfSome step (λ given. Gave new text blocks piece given.0 given.1.now)
gave_block old new text piece blocks None stands sound splits empty = tt
gave_block old new text piece blocks (Some given) stands sound splits empty =
    let more = gave text old.held.items piece given.1.now blocks given.0 old.scope new.scope stands.1 splits in
    record { taken = splits.moved.taken; cut = splits.moved.cut; some = some_taken old.scope new.scope old.held.items piece given.1.now given.0 stands.1.cut splits; stands = (sound, rw empty more) }

pub with_nothing : (text held : List ℕ) (blocks : List Block) (scope : Scope) → held ≡ [] → IsSplit text blocks scope held → IsSplit text blocks scope []
with_nothing text held blocks scope e split = subst (λ (h : List ℕ). IsSplit text blocks scope h) e split

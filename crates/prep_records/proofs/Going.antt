-- A recorder's relation, step by step.
use Rattle.std.proofs.Common.{◌≡◌, ◌⊎◌, inl, inr, ℕ, Bool, true, false, List, [], ◌∷◌, ◌++◌, Option, Some, None, refl, sym, ap, subst, ◌∙◌, append_assoc, length, arith}
use Rattle.std.proofs.lemmas.List.{append-nil}
use Rattle.std.proofs.lemmas.List.Elements.{filter-append}
use Rattle.audit_model.specs.declared.policy.Policy.{Policy}
use Rattle.prep_blocks.specs.declared.block.Block.{Block}
use Rattle.prep_blocks.specs.Splitting.{StandsFor, Gave, IsWhole}
use Rattle.prep_cut.specs.declared.allocations.Allocations.{Allocations}
use Rattle.prep_cut.specs.declared.datagram.Datagram.{Datagram}
use Rattle.prep_cut.specs.Datagrams.{datagram_of_block}
use Rattle.prep_cut.specs.declared.release.Release.{Release}
use Rattle.prep_cut.specs.Allocating.{is_noted, is_noted_if, is_noted_in, AreNoted, AreAllNoted}
use Rattle.prep_cut.specs.Releasing.{AreReleased, IsReleaseIn, IsShownBy, is_released}
use Rattle.prep_cut.specs.Sending.{AreSenders, IsSentIn, SendsIn, is_sender}
use Rattle.audit_model.specs.declared.address.Addr.{Addr}
use Rattle.prep_records.specs.declared.recorder.Recorder.{Recorder}
use Rattle.prep_cut.specs.declared.stated.Stated.{Stated}
use Rattle.prep_records.specs.Recording.{IsRecording, GoesOn, Ended, blocks_from, is_from}
use Rattle.prep_records.proofs.Learning.{Learns, events_more, only_more, after_more}
use Rattle.prep_cut.specs.declared.lease.Event.{Event}
use Rattle.prep_cut.specs.Noted.{events_at}
use Rattle.std.specs.Prelude.{Contains}

-- what was noted stays noted
abbrev pub Keeps : Allocations → Allocations → Type 0
Keeps old new = (other : Datagram) → is_noted old other ≡ true → is_noted new other ≡ true

kept_if : (old new : Allocations) → Keeps old new → (found : Option Datagram) → is_noted_if old found ≡ true → is_noted_if new found ≡ true
kept_if old new keeps None noted = refl
kept_if old new keeps (Some datagram) noted = keeps datagram noted

kept_all : (policy : Policy) (old new : Allocations) → Keeps old new → (blocks : List Block) → AreAllNoted policy old blocks → AreAllNoted policy new blocks
kept_all policy old new keeps [] noted = tt
kept_all policy old new keeps (first ∷ others) noted = (kept_if old new keeps (datagram_of_block policy first) noted.0, kept_all policy old new keeps others noted.1)

one_more : (policy : Policy) (all : Allocations) (blocks : List Block) (b : Block) → AreAllNoted policy all blocks → is_noted_in policy all b ≡ true → AreAllNoted policy all (blocks ++ b ∷ [])
one_more policy all [] b noted one = (one, tt)
one_more policy all (first ∷ others) b noted one = (noted.0, one_more policy all others b noted.1 one)

-- each release that is new is the block's
abbrev pub Adds : Policy → Allocations → Allocations → Block → Type 0
Adds policy old new b = (release : Release) → is_released new release ≡ true → (is_released old release ≡ true) ⊎ IsReleaseIn policy release b

shown_before : (policy : Policy) (release : Release) (blocks : List Block) (b : Block) → IsShownBy policy release blocks → IsShownBy policy release (blocks ++ b ∷ [])
shown_before policy release [] b shown = absurd shown
shown_before policy release (first ∷ others) b (inl one) = inl one
shown_before policy release (first ∷ others) b (inr other) = inr (shown_before policy release others b other)

shown_last : (policy : Policy) (release : Release) (blocks : List Block) (b : Block) → IsReleaseIn policy release b → IsShownBy policy release (blocks ++ b ∷ [])
shown_last policy release [] b is = inl is
shown_last policy release (first ∷ others) b is = inr (shown_last policy release others b is)

shown_by_all : (policy : Policy) (old : Allocations) (release : Release) (blocks : List Block) (b : Block) → AreReleased policy old blocks
    → (is_released old release ≡ true) ⊎ IsReleaseIn policy release b → IsShownBy policy release (blocks ++ b ∷ [])
shown_by_all policy old release blocks b released (inl had) = shown_before policy release blocks b (released release had)
shown_by_all policy old release blocks b released (inr is) = shown_last policy release blocks b is

-- each sender that is new sends in the block
abbrev pub Joins : Policy → Allocations → Allocations → Block → Type 0
Joins policy old new b = (client listen : Addr) → is_sender new client listen ≡ true → (is_sender old client listen ≡ true) ⊎ SendsIn policy client listen b

sent_before : (policy : Policy) (client listen : Addr) (blocks : List Block) (b : Block) → IsSentIn policy client listen blocks → IsSentIn policy client listen (blocks ++ b ∷ [])
sent_before policy client listen [] b sent = absurd sent
sent_before policy client listen (first ∷ others) b (inl one) = inl one
sent_before policy client listen (first ∷ others) b (inr other) = inr (sent_before policy client listen others b other)

sent_last : (policy : Policy) (client listen : Addr) (blocks : List Block) (b : Block) → SendsIn policy client listen b → IsSentIn policy client listen (blocks ++ b ∷ [])
sent_last policy client listen [] b is = inl is
sent_last policy client listen (first ∷ others) b is = inr (sent_last policy client listen others b is)

sent_by_all : (policy : Policy) (old : Allocations) (client listen : Addr) (blocks : List Block) (b : Block) → AreSenders policy old blocks
    → (is_sender old client listen ≡ true) ⊎ SendsIn policy client listen b → IsSentIn policy client listen (blocks ++ b ∷ [])
sent_by_all policy old client listen blocks b senders (inl had) = sent_before policy client listen blocks b (senders client listen had)
sent_by_all policy old client listen blocks b senders (inr is) = sent_last policy client listen blocks b is

noted_more : (policy : Policy) (old new : Allocations) (blocks : List Block) (b : Block) → AreNoted policy old blocks → is_noted_in policy new b ≡ true → Keeps old new
    → Adds policy old new b → Joins policy old new b → Learns policy old new b → AreNoted policy new (blocks ++ b ∷ [])
noted_more policy old new blocks b noted one keeps adds joins learns = record {
  noted = one_more policy new blocks b (kept_all policy old new keeps blocks noted.noted) one;
  released = λ release is. shown_by_all policy old release blocks b noted.released (adds release is);
  senders = λ client listen is. sent_by_all policy old client listen blocks b noted.senders (joins client listen is);
  events = events_more policy old new blocks b noted.events learns;
  only = only_more policy old new blocks b noted.only learns;
  first = after_more old.first new.first blocks b learns.less noted.first learns.least;
}

pub nothing_yet : (recorder : Recorder) (policy : Policy) (since : Option ℕ) (earlier : List Block) (text : List ℕ) (current : List Block) (piece : List ℕ)
    → IsRecording recorder policy since earlier text current → GoesOn recorder policy since earlier text current piece piece
nothing_yet recorder policy since earlier text current piece r = record { taken = []; more = []; cut = refl; recording = rw (append-nil text, append-nil current) r }

from_nothing : (since : Option ℕ) (b : Block) → is_from since b.packet ≡ true → blocks_from since (b ∷ []) ≡ b ∷ []
from_nothing since b is = rw is refl

before_it : (since : Option ℕ) (b : Block) → is_from since b.packet ≡ false → blocks_from since (b ∷ []) ≡ []
before_it since b is = rw is refl

-- a block before the stated moment changes nothing
pub noted_without : (policy : Policy) (since : Option ℕ) (all : Allocations) (blocks : List Block) (b : Block) → is_from since b.packet ≡ false
    → AreNoted policy all (blocks_from since blocks) → AreNoted policy all (blocks_from since (blocks ++ b ∷ []))
noted_without policy since all blocks b is noted =
    subst (λ (bs : List Block). AreNoted policy all bs)
    (sym (filter-append (λ (block : Block). is_from since block.packet) blocks (b ∷ []) ∙ ap (λ (bs : List Block). blocks_from since blocks ++ bs) (before_it since b is) ∙ append-nil (blocks_from since blocks)))
    noted

-- another one is noted
pub noted_with : (policy : Policy) (since : Option ℕ) (old new : Allocations) (blocks : List Block) (b : Block) → is_from since b.packet ≡ true
    → AreNoted policy old (blocks_from since blocks) → is_noted_in policy new b ≡ true → Keeps old new
    → Adds policy old new b → Joins policy old new b → Learns policy old new b → AreNoted policy new (blocks_from since (blocks ++ b ∷ []))
noted_with policy since old new blocks b is noted one keeps adds joins learns =
    subst (λ (bs : List Block). AreNoted policy new bs)
    (sym (filter-append (λ (block : Block). is_from since block.packet) blocks (b ∷ []) ∙ ap (λ (bs : List Block). blocks_from since blocks ++ bs) (from_nothing since b is)))
    (noted_more policy old new (blocks_from since blocks) b noted one keeps adds joins learns)

-- what a block adds
abbrev pub Notes : Recorder → Recorder → Block → Type 0
Notes old new b = (blocks : List Block) → AreNoted old.policy.now old.allocations (blocks_from old.stated.since blocks) → AreNoted old.policy.now new.allocations (blocks_from old.stated.since (blocks ++ b ∷ []))

-- one block more
pub step : (old new : Recorder) (policy : Policy) (since : Option ℕ) (earlier : List Block) (text : List ℕ) (current : List Block) (piece rest behind : List ℕ) (b : Block)
    → (g : GoesOn old policy since earlier text current piece rest) → Gave new.splitter (text ++ g.taken) (current ++ g.more) rest b behind
    → new.policy.now ≡ old.policy.now → new.stated ≡ old.stated → Notes old new b
    → GoesOn new policy since earlier text current piece behind
step old new policy since earlier text current piece rest behind b g gave same states notes =
    let text_so = append_assoc text g.taken gave.taken in
    let blocks_so = append_assoc current g.more (b ∷ []) in
    let since_so : old.stated.since ≡ since = g.recording.since_is in
    let blocks = earlier ++ (current ++ g.more) in
    let had : AreNoted old.policy.now old.allocations (blocks_from old.stated.since blocks) = rw (g.recording.policy_is, since_so) g.recording.noted in
    let all : AreNoted policy new.allocations (blocks_from since (blocks ++ b ∷ [])) =
    subst (λ (s : Option ℕ). AreNoted policy new.allocations (blocks_from s (blocks ++ b ∷ []))) since_so
    (subst (λ (p : Policy). AreNoted p new.allocations (blocks_from old.stated.since (blocks ++ b ∷ []))) g.recording.policy_is (notes blocks had)) in
    let noted_so : AreNoted policy new.allocations (blocks_from since (earlier ++ ((current ++ g.more) ++ b ∷ []))) =
    subst (λ (bs : List Block). AreNoted policy new.allocations (blocks_from since bs)) (append_assoc earlier (current ++ g.more) (b ∷ [])) all in
    record {
      taken = g.taken ++ gave.taken;
      more = g.more ++ b ∷ [];
      cut = g.cut ∙ ap (λ (t : List ℕ). g.taken ++ t) gave.cut ∙ sym (append_assoc g.taken gave.taken behind);
      recording = subst (λ (t : List ℕ). IsRecording new policy since earlier t (current ++ (g.more ++ b ∷ []))) text_so
          (subst (λ (bs : List Block). IsRecording new policy since earlier ((text ++ g.taken) ++ gave.taken) bs) blocks_so
          (record { policy_is = same ∙ g.recording.policy_is; splits = gave.stands; since_is = ap (λ (s : Stated). s.since) states ∙ since_so; noted = noted_so }));
    }

-- the rest of the piece is no whole block
pub all_taken : (old new : Recorder) (policy : Policy) (since : Option ℕ) (earlier : List Block) (text : List ℕ) (current : List Block) (piece rest : List ℕ)
    → (g : GoesOn old policy since earlier text current piece rest) → StandsFor new.splitter ((text ++ g.taken) ++ rest) (current ++ g.more)
    → new.policy.now ≡ old.policy.now → new.stated ≡ old.stated → new.allocations ≡ old.allocations → GoesOn new policy since earlier text current piece []
all_taken old new policy since earlier text current piece rest g stands same states noted = record {
  taken = g.taken ++ rest;
  more = g.more;
  cut = g.cut ∙ sym (append-nil (g.taken ++ rest));
  recording = subst (λ (t : List ℕ). IsRecording new policy since earlier t (current ++ g.more)) (append_assoc text g.taken rest)
      (record { policy_is = same ∙ g.recording.policy_is; splits = stands; since_is = ap (λ (s : Stated). s.since) states ∙ g.recording.since_is; noted = rw noted g.recording.noted });
}

pub at_end : (recorder : Recorder) (policy : Policy) (since : Option ℕ) (earlier : List Block) (text : List ℕ) (current : List Block) (piece rest : List ℕ)
    → rest ≡ [] → GoesOn recorder policy since earlier text current piece rest → GoesOn recorder policy since earlier text current piece []
at_end recorder policy since earlier text current piece rest none g = subst (λ (r : List ℕ). GoesOn recorder policy since earlier text current piece r) none g

-- a capture's end
pub ended : (old new : Recorder) (policy : Policy) (since : Option ℕ) (earlier : List Block) (text : List ℕ) (current : List Block) → IsRecording old policy since earlier text current
    → IsWhole text current → StandsFor new.splitter [] [] → new.policy.now ≡ old.policy.now → new.stated ≡ old.stated → new.allocations ≡ old.allocations → Ended new policy since earlier text current
ended old new policy since earlier text current r whole stands same states noted = record {
  whole = whole;
  next = record {
    policy_is = same ∙ r.policy_is;
    splits = stands;
    since_is = ap (λ (s : Stated). s.since) states ∙ r.since_is;
    noted = rw (noted, append-nil (earlier ++ current)) r.noted;
  };
}

differ : {b : Bool} → b ≡ true → b ≡ false → ⊥
differ e f = absurd cc

empty : (event : Event) (events : List Event) → events ≡ [] → Contains events event → ⊥
empty event events none (k, within, is) = let short : length events ≡ 0 = ap length none in omega (arith, short, within)

pub first : (recorder : Recorder) (policy : Policy) (since : Option ℕ) → recorder.policy.now ≡ policy → recorder.stated.since ≡ since → StandsFor recorder.splitter [] []
    → ((release : Release) → is_released recorder.allocations release ≡ false)
    → ((client listen : Addr) → is_sender recorder.allocations client listen ≡ false)
    → ((client listen : Addr) → events_at recorder.allocations.leases.clients client listen ≡ []) → IsRecording recorder policy since [] [] []
first recorder policy since same states stands none nobody nothing = record {
  policy_is = same;
  splits = stands;
  since_is = states;
  noted = record {
    noted = tt;
    released = λ release is. absurd (differ is (none release));
    senders = λ client listen is. absurd (differ is (nobody client listen));
    events = λ event shown. absurd shown;
    only = λ event client listen has. absurd (empty event (events_at recorder.allocations.leases.clients client listen) (nothing client listen) has);
    first = tt;
  };
}

pub finished : (recorder : Recorder) (policy : Policy) (since : Option ℕ) (earlier : List Block) → IsRecording recorder policy since earlier [] [] → AreNoted policy recorder.allocations (blocks_from since earlier)
finished recorder policy since earlier r = subst (λ (bs : List Block). AreNoted policy recorder.allocations (blocks_from since bs)) (append-nil earlier) r.noted

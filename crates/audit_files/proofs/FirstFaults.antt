-- How captures that are taken in one after the other show the first fault of all.
use Rattle.std.proofs.Common.{◌≡◌, ◌⊎◌, ◌<◌, ◌≤◌, ◌+◌, ◌∙◌, [], ℕ, zero, suc, Bool, List, Some, length, get_or, map, take, ap, sym, subst, inl, inr, refl, arith, Bor}
use Rattle.std.specs.Prelude.{replicate, slice_get}
use Rattle.std.proofs.lemmas.List.{get_or-map, get_or-take, length-map, length-replicate, length-take-le}
use Rattle.audit_model.specs.declared.policy.Policy.{Policy}
use Rattle.audit_model.specs.declared.sighting.Sighting.{Sighting}
use Rattle.audit_pcapng.specs.declared.packet.Packet.{Packet}
use Rattle.audit_pcapng.specs.Captures.{BeginsWith}
use Rattle.audit_sightings.specs.declared.intake.Intake.{Intake}
use Rattle.audit_sightings.specs.declared.fault.IntakeFault.{IntakeFault}
use Rattle.audit_sightings.specs.declared.fault.IntakeFaultKind.TheVariants.{Limit, Memory as Lacking}
use Rattle.audit_sightings.specs.ByInterface.{count_of}
use Rattle.audit_sightings.specs.Files.{Fed, StandsFor, fed_at, not_fed, packets_of}
use Rattle.audit_sightings.specs.Sightings.{AreSightings}
use Rattle.audit_files.specs.declared.stop.Stop.{Stop}
use Rattle.audit_files.specs.CaptureFaults.{ComeBefore, EndsCapture, EndsCaptures, EndsTaking, HasFault, HasFront, text_at}
use Rattle.audit_files.specs.Stops.{EndsByIntake}
use Rattle.audit_files.proofs.Refusing.{begins_at, memory_ends}

-- as many files as texts
pub many : (files : List Fed) (texts : List (List ℕ)) (number : ℕ) → map (λ (fed : Fed). fed.text) files ≡ take number texts → number ≤ length texts → length files ≡ number
many files texts number of_texts few = sym (length-map files (λ (fed : Fed). fed.text)) ∙ ap length of_texts ∙ length-take-le number texts few

-- the captures that an intake took in
pub come_before : (intake : Intake) (files : List Fed) (texts : List (List ℕ)) (number : ℕ) → StandsFor intake files → map (λ (fed : Fed). fed.text) files ≡ take number texts → number ≤ length texts
    → ComeBefore intake.policy texts number files
come_before intake files texts number stands of_texts few = record {
  of_texts = of_texts;
  fronts = λ file less.
      let within : file < length files = omega (arith, less, many files texts number of_texts few) in
      let text : (fed_at files file).text ≡ text_at texts file = sym (get_or-map (λ (fed : Fed). fed.text) files file not_fed [] within) ∙ ap (λ (l : List (List ℕ)). get_or l file []) of_texts ∙ get_or-take number texts file [] less in
      record { begins = subst (λ (t : List ℕ). BeginsWith t (packets_of files file)) text (begins_at intake files file stands within); sound = stands.sound file };
}

-- what ends the taking of one capture more ends that of all
pub ends_all : (may_fail : List ℕ → Bool) (names : List (Bor (List ℕ))) (name : Bor (List ℕ)) (policy : Policy) (texts : List (List ℕ)) (files : List Fed) (stop : Stop) → ComeBefore policy texts (length files) files → length files < length texts
    → slice_get names (length files) ≡ Some name → EndsTaking (may_fail name.now) policy files (text_at texts (length files)) stop → EndsCaptures may_fail names policy texts stop
ends_all may_fail names name policy texts files stop come less named (inl full) = inr (inr (
  record { kind = Limit; file = 16 },
  full.1,
  λ other. inr (inr (inl record {
    is = refl;
    within = omega (arith, full.0, less);
    before = files;
    come = subst (λ (n : ℕ). ComeBefore policy texts n files) full.0 come;
  })),
))
ends_all may_fail names name policy texts files stop come less named (inr (inl memory)) = inl memory
ends_all may_fail names name policy texts files stop come less named (inr (inr (inl unread))) = inr (inl record { file = length files; name = name; named = named; before = files; come = come; unread = unread })
ends_all may_fail names name policy texts files stop come less named (inr (inr (inr refused))) =
    let at = sym refused.2 in
    inr (inr (
      refused.0,
      refused.1,
      λ other. inl record {
        before = files;
        come = subst (λ (n : ℕ). ComeBefore policy texts n files) at come;
        within = omega (arith, at, less);
        others = packets_of files;
        counted = inl (λ file. refl);
        has = subst (λ (n : ℕ). HasFault policy (packets_of files) n (text_at texts n) refused.0.kind) at (refused.3 other);
      },
    ))

-- the same, by the number of the capture
pub ends_next : (may_fail : List ℕ → Bool) (names : List (Bor (List ℕ))) (name : Bor (List ℕ)) (policy : Policy) (texts : List (List ℕ)) (files : List Fed) (index : ℕ) (stop : Stop) → ComeBefore policy texts index files → length files ≡ index
    → index < length texts → slice_get names index ≡ Some name → EndsTaking (may_fail name.now) policy files (text_at texts index) stop → EndsCaptures may_fail names policy texts stop
ends_next may_fail names name policy texts files index stop come is less named ends =
    ends_all may_fail names name policy texts files stop (subst (λ (n : ℕ). ComeBefore policy texts n files) (sym is) come) (omega (arith, is, less)) (ap (slice_get names) is ∙ named)
    (subst (λ (n : ℕ). EndsTaking (may_fail name.now) policy files (text_at texts n) stop) (sym is) ends)

-- what ends the reading of a capture by itself ends that of all
pub ends_alone : (may_fail : List ℕ → Bool) (names : List (Bor (List ℕ))) (name : Bor (List ℕ)) (policy : Policy) (texts : List (List ℕ)) (files : List Fed) (index : ℕ) (stop : Stop) → ComeBefore policy texts index files → index < length texts
    → slice_get names index ≡ Some name → EndsCapture (may_fail name.now) policy (λ _. []) index (text_at texts index) stop → EndsCaptures may_fail names policy texts stop
ends_alone may_fail names name policy texts files index stop come less named (inl memory) = inl memory
ends_alone may_fail names name policy texts files index stop come less named (inr (inl unread)) = inr (inl record { file = index; name = name; named = named; before = files; come = come; unread = unread })
ends_alone may_fail names name policy texts files index stop come less named (inr (inr refused)) =
    let at = sym refused.2 in
    inr (inr (
      refused.0,
      refused.1,
      λ other. inl record {
        before = files;
        come = subst (λ (n : ℕ). ComeBefore policy texts n files) at come;
        within = omega (arith, at, less);
        others = λ _. [];
        counted = inr (λ file. refl);
        has = subst (λ (n : ℕ). HasFault policy (λ _. []) n (text_at texts n) refused.0.kind) at (refused.3 other);
      },
    ))

-- captures that were read by themselves are too many together
pub ends_joined : (may_fail : List ℕ → Bool) (names : List (Bor (List ℕ))) (policy : Policy) (texts : List (List ℕ)) (files : List Fed) (index : ℕ) (earlier own : List (List Sighting)) (fault : IntakeFault) (stop : Stop)
    → ComeBefore policy texts index files → index < length texts → AreSightings policy earlier (packets_of files) → HasFront policy (λ _. []) index (text_at texts index) own → index ≡ fault.file
    → (fault.kind ≡ Lacking) ⊎ ((fault.kind ≡ Limit) × (16777216 < count_of earlier + count_of own)) → EndsByIntake fault stop → EndsCaptures may_fail names policy texts stop
ends_joined may_fail names policy texts files index earlier own fault stop come less of_earlier of_own at (inl memory) ends = inl (memory_ends fault stop memory ends)
ends_joined may_fail names policy texts files index earlier own fault stop come less of_earlier of_own at (inr limit) ends = inr (inr (
  fault,
  ends,
  λ other. inr (inl record {
    limit = limit.0;
    before = files;
    come = subst (λ (n : ℕ). ComeBefore policy texts n files) at come;
    within = omega (arith, at, less);
    earlier = earlier;
    of_earlier = of_earlier;
    own = own;
    of_own = subst (λ (n : ℕ). HasFront policy (λ _. []) n (text_at texts n) own) at of_own;
    many = limit.1;
  }),
))

-- files that aren't fed have no packets
unfed : (n file : ℕ) → packets_of (replicate n not_fed) file ≡ []
unfed zero zero = refl
unfed zero (suc file) = refl
unfed (suc n) zero = refl
unfed (suc n) (suc file) = unfed n file

-- what is said of a capture behind files that aren't fed, by itself
pub by_itself : (P : (ℕ → List Packet) → ℕ → Type 0) (n : ℕ) → P (packets_of (replicate n not_fed)) (length (replicate n not_fed)) → P (λ _. []) n
by_itself P n p = subst (λ (k : ℕ). P (λ _. []) k) (length-replicate n not_fed) (subst (λ (o : ℕ → List Packet). P o (length (replicate n not_fed))) (λ i file. unfed n file i) p)

-- a capture that is read behind fewer than 16 files has room
pub alone_taking : (may_fail : Bool) (policy : Policy) (n : ℕ) (text : List ℕ) (stop : Stop) → n < 16 → EndsTaking may_fail policy (replicate n not_fed) text stop → EndsCapture may_fail policy (λ _. []) n text stop
alone_taking may_fail policy n text stop few (inl full) = absurd (omega (arith, few, full.0, length-replicate n not_fed))
alone_taking may_fail policy n text stop few (inr ends) = by_itself (λ others file. EndsCapture may_fail policy others file text stop) n ends

-- What is known of an audit goes on from call to call.
use Rattle.std.proofs.Common.{◌≡◌, ◌≢◌, ◌<◌, ◌++◌, ◌∙◌, ◌⊎◌, inl, inr, ℕ, zero, suc, List, [], Option, None, Some, length, ap, sym, subst, refl, arith, replicate}
use Rattle.std.specs.Prelude.{Result, Ok, Err, IfOk, IfSome, vec_len, ◌↔◌}
use Rattle.std.proofs.lemmas.List.{get_or-set_same, get_or-set_other, length-set, length-replicate, get_or-replicate}
use Rattle.audit_files.specs.declared.stop.Stop.{Stop}
use Rattle.audit_files.specs.declared.stop.Stop.TheVariants.{Memory, Read}
use Rattle.audit_files.specs.Stops.{EndsByIntake}
use Rattle.audit_files.specs.Judged.{AreUsers}
use Rattle.audit_keys.specs.KeyFor.{key_for}
use Rattle.audit_keys.specs.declared.keyring.Credentials.{Credentials}
use Rattle.audit_model.specs.PolicyText.{policy_of}
use Rattle.audit_model.specs.Sink.{followed_by}
use Rattle.audit_model.specs.declared.extension.Extension.{Extension}
use Rattle.audit_model.specs.declared.policy.Policy.{Policy}
use Rattle.audit_model.specs.declared.sighting.Sighting.{Sighting}
use Rattle.audit_model.specs.declared.verdict.Breach.{Breach}
use Rattle.audit_model.specs.declared.verdict.Verdict.{Verdict}
use Rattle.audit_pcapng.specs.declared.packet.Packet.{Packet}
use Rattle.audit_prefix.specs.Breaches.{LiveBreach}
use Rattle.audit_sightings.specs.declared.fault.IntakeFault.{IntakeFault}
use Rattle.audit_sightings.specs.declared.fault.IntakeFaultKind.TheVariants.{Limit}
use Rattle.audit_sightings.specs.declared.intake.Intake.{Intake}
use Rattle.audit_sightings.specs.Files.{Fed, GoesOn, Refuses, StandsFor, fed_at, not_fed, packets_of, with_piece}
use Rattle.audit_sightings.specs.Intake.{taken}
use Rattle.audit_verdict.specs.Verdicts.{IsConforming, IsVerdict}
use Rattle.audit_whole.specs.CaptureRun.{rules_for}
use Rattle.audit_whole.specs.Conforms.{Conforms}
use Rattle.audit_live.specs.declared.cause.Cause.{Cause}
use Rattle.audit_live.specs.declared.cause.Cause.TheVariants.{Broke, NoMemory, Refused}
use Rattle.audit_live.specs.declared.fault.LiveFault.{LiveFault}
use Rattle.audit_live.specs.declared.fault.LiveFault.TheVariants as faults
use Rattle.audit_live.specs.declared.fault.LiveEnd.{LiveEnd}
use Rattle.audit_live.specs.declared.fault.LiveEnd.TheVariants as live_ends
use Rattle.audit_live.specs.Audit.{Audit}
use Rattle.audit_live.specs.Refusals.{ChecksTheEnds, IfBreach, IsInput, IsRefusal, Leaves, end_by}
use Rattle.audit_program.specs.Following.{Follows, Goes, LeftBy, NoneRefused, ShowsItsBreach, ShowsItsRefusal, TookIn, WereFed, WereRefused}
use Rattle.audit_program.specs.Reads.{AreReadOut, HasEnded}
use Rattle.audit_program.specs.Watched.{EndsByLive, EndsLiveBy, EndsTurns, IsReportedOf}
use Rattle.audit_program.specs.declared.command_line.Turns.{Turns}
use Rattle.audit_program.specs.declared.live.Turn.{Turn}
use Rattle.audit_program.specs.declared.live.Turn.TheVariants as turns

-- ---- causes

-- the cause is there, and is a breach
abbrev IsBroken : Option Cause → Type 0
IsBroken (Some (Broke breach)) = Unit {0}
IsBroken (Some NoMemory) = ⊥
IsBroken (Some (Refused fault)) = ⊥
IsBroken None = ⊥

-- the cause is there, and is a refusal of bytes
abbrev IsRefused : Option Cause → Type 0
IsRefused (Some (Refused fault)) = Unit {0}
IsRefused (Some (Broke breach)) = ⊥
IsRefused (Some NoMemory) = ⊥
IsRefused None = ⊥

-- the breach of a cause, or else another
abbrev breach_of : Breach → Option Cause → Breach
breach_of other (Some (Broke breach)) = breach
breach_of other (Some NoMemory) = other
breach_of other (Some (Refused fault)) = other
breach_of other None = other

-- where it ended by no breach, it shows its breach
no_breach : (live : Audit) (ended : Option Cause) → live.ended ≡ ended → (IsBroken ended → ⊥) → ShowsItsBreach live
no_breach live ended is none = λ breach broke. absurd (none (subst IsBroken (sym broke ∙ is) tt))

-- where it ended by no refusal, none were refused
none_refused : (live : Audit) (ended : Option Cause) → live.ended ≡ ended → (IsRefused ended → ⊥) → NoneRefused live
none_refused live ended is none = λ fault refused. none (subst IsRefused (sym refused ∙ is) tt)

-- and shows no refusal
no_refusal : (bytes_read : ℕ → Option (List ℕ)) (live : Audit) (ended : Option Cause) → live.ended ≡ ended → (IsRefused ended → ⊥) → ShowsItsRefusal bytes_read live
no_refusal bytes_read live ended is none = λ fault refused. absurd (none (subst IsRefused (sym refused ∙ is) tt))

-- the fault of a cause, or else another
abbrev fault_of : IntakeFault → Option Cause → IntakeFault
fault_of other (Some (Refused fault)) = fault
fault_of other (Some (Broke breach)) = other
fault_of other (Some NoMemory) = other
fault_of other None = other

-- ---- bytes

-- what was fed of a file is what was read
known : (o : Option (List ℕ)) (text : List ℕ) → text ≡ [] → IfSome o (λ bytes. bytes ≡ []) → IfSome o (λ bytes. text ≡ bytes)
known None text is none = tt
known (Some bytes) text is none = is ∙ sym none

-- nothing was fed if nothing was read
none_fed : (bytes_read : ℕ → Option (List ℕ)) (count : ℕ) → ((capture : ℕ) → IfSome (bytes_read capture) (λ bytes. bytes ≡ [])) → WereFed bytes_read (replicate count not_fed)
none_fed bytes_read count none = λ file within.
    known (bytes_read file) _ (ap (λ (f : Fed). f.text) (get_or-replicate count file not_fed not_fed (omega (arith, within, length-replicate count not_fed)))) (none file)

-- the bytes, and a piece after them
known_more : (before after : Option (List ℕ)) (text piece now : List ℕ) → after ≡ followed_by before piece → now ≡ text ++ piece → IfSome before (λ bytes. text ≡ bytes) → IfSome after (λ bytes. now ≡ bytes)
known_more None after text piece now is then were = subst (λ (o : Option (List ℕ)). IfSome o (λ bytes. now ≡ bytes)) (sym is) tt
known_more (Some bytes) after text piece now is then were =
    subst (λ (o : Option (List ℕ)). IfSome o (λ bytes. now ≡ bytes)) (sym is) (then ∙ ap (λ (l : List ℕ). l ++ piece) were)

suc_or : (a b : ℕ) → (a ≡ b) ⊎ (a ≢ b) → (suc a ≡ suc b) ⊎ (suc a ≢ suc b)
suc_or a b (inl same) = inl (ap suc same)
suc_or a b (inr apart) = inr (λ same. apart (omega (arith, same)))

pub same_or_apart : (a b : ℕ) → (a ≡ b) ⊎ (a ≢ b)
same_or_apart zero zero = inl refl
same_or_apart zero (suc b) = inr (λ same. absurd (omega (arith, same)))
same_or_apart (suc a) zero = inr (λ same. absurd (omega (arith, same)))
same_or_apart (suc a) (suc b) = suc_or a b (same_or_apart a b)

module _ (bytes_read now : ℕ → Option (List ℕ)) (file : ℕ) (piece : List ℕ) (is : now file ≡ followed_by (bytes_read file) piece) (others : (other : ℕ) → other ≢ file → now other ≡ bytes_read other) where
  -- at each file, either that of the piece or another
  at_file : (files : List Fed) (more : List Packet) (other : ℕ) → other < length files → WereFed bytes_read files → (other ≡ file) ⊎ (other ≢ file)
      → IfSome (now other) (λ bytes. (fed_at (with_piece files file piece more) other).text ≡ bytes)
  at_file files more other within were (inl same) =
      let new : Fed = record { text = (fed_at files file).text ++ piece; packets = packets_of files file ++ more } in
      subst (λ (i : ℕ). IfSome (now i) (λ bytes. (fed_at (with_piece files file piece more) i).text ≡ bytes)) (sym same)
      (known_more (bytes_read file) (now file) (fed_at files file).text piece _ is
      (ap (λ (f : Fed). f.text) (get_or-set_same files file new not_fed (omega (arith, within, same))))
      (were file (omega (arith, within, same))))
  at_file files more other within were (inr apart) =
      let new : Fed = record { text = (fed_at files file).text ++ piece; packets = packets_of files file ++ more } in
      subst (λ (o : Option (List ℕ)). IfSome o (λ bytes. (fed_at (with_piece files file piece more) other).text ≡ bytes)) (sym (others other apart))
      (subst (λ (f : Fed). IfSome (bytes_read other) (λ bytes. f.text ≡ bytes)) (sym (get_or-set_other files file other new not_fed apart))
      (were other within))

  -- as a piece is taken, what was fed stays what was read
  pub took_more : (intake : Intake) (took : TookIn bytes_read intake) (new : Intake) → GoesOn new took.files file piece → TookIn now new
  took_more intake took new on = record {
    files = with_piece took.files file piece on.more;
    stands = on.stands;
    were_fed = λ other within. at_file took.files on.more other (omega (arith, within, length-set took.files file (record { text = (fed_at took.files file).text ++ piece; packets = packets_of took.files file ++ on.more }))) took.were_fed (same_or_apart other file);
  }

  -- a piece that is refused was read after what was fed
  pub refused_piece : (intake : Intake) (took : TookIn bytes_read intake) (policy : Policy) (interfaces : List (List Sighting)) (fault : IntakeFault) → fault.file ≡ file → Refuses policy interfaces took.files file piece fault.kind
      → WereRefused now policy fault
  refused_piece intake took policy interfaces fault at refuses = record {
    before = took.files;
    piece = piece;
    interfaces = interfaces;
    refuses = subst (λ (n : ℕ). Refuses policy interfaces took.files n piece fault.kind) (sym at) refuses;
    were_fed = subst (λ (n : ℕ). WereFed now (with_piece took.files n piece [])) (sym at)
        (λ other within. at_file took.files [] other (omega (arith, within, length-set took.files file (record { text = (fed_at took.files file).text ++ piece; packets = packets_of took.files file ++ [] }))) took.were_fed (same_or_apart other file));
  }

-- ---- calls

none≢refused : (live : Audit) → live.ended ≡ None → NoneRefused live
none≢refused live none = none_refused live None none (λ refused. refused)

-- the policy and the captures stay, and so does what follows of it
module _ (policy users : List ℕ) (count : ℕ) (bytes_read : ℕ → Option (List ℕ)) (old : Audit) (goes : Goes policy users count bytes_read old) where
  pub goes_fed : (now : ℕ → Option (List ℕ)) (file : ℕ) (piece : List ℕ) (new : Audit) → now file ≡ followed_by (bytes_read file) piece → ((other : ℕ) → other ≢ file → now other ≡ bytes_read other)
      → ((files : List Fed) → StandsFor old.intake files → GoesOn new.intake files file piece) → new.ended ≡ None → vec_len new.intake.files ≡ vec_len old.intake.files → new.intake.policy ≡ old.intake.policy
      → new.credentials ≡ old.credentials → Goes policy users count now new
  goes_fed now file piece new is others on none files same keys =
      let took = goes.1.took (none≢refused old goes.0) in (
        none,
        record {
          policy' = subst (λ (p : Policy). policy_of policy ≡ Ok p) (sym same) goes.1.policy';
          users' = subst (λ (c : Credentials). AreUsers users (key_for c)) (sym keys) goes.1.users';
          count' = files ∙ goes.1.count';
          shows = no_breach new None none (λ broke. broke);
          took = λ _. took_more bytes_read now file piece is others old.intake took new.intake (on took.files took.stands);
          refused = no_refusal now new None none (λ refused. refused);
        },
      )

  -- bytes were refused
  pub follows_refused : (now : ℕ → Option (List ℕ)) (file : ℕ) (piece : List ℕ) (new : Audit) (refusal : LiveFault) → now file ≡ followed_by (bytes_read file) piece → ((other : ℕ) → other ≢ file → now other ≡ bytes_read other)
      → IsInput refusal (λ fault. new.ended ≡ Some (Refused fault))
      → ((files : List Fed) → StandsFor old.intake files → IsInput refusal (λ fault. (fault.file ≡ file) × Refuses new.intake.policy new.intake.interfaces files file piece fault.kind))
      → vec_len new.intake.files ≡ vec_len old.intake.files → new.intake.policy ≡ old.intake.policy → new.credentials ≡ old.credentials → Follows policy users count now new
  follows_refused now file piece new (faults.Input fault) is others ended refuses files same keys =
      let took = goes.1.took (none≢refused old goes.0) in
      let shown = refuses took.files took.stands in
      record {
        policy' = subst (λ (p : Policy). policy_of policy ≡ Ok p) (sym same) goes.1.policy';
        users' = subst (λ (c : Credentials). AreUsers users (key_for c)) (sym keys) goes.1.users';
        count' = files ∙ goes.1.count';
        shows = no_breach new (Some (Refused fault)) ended (λ broke. broke);
        took = λ none. absurd (none fault ended);
        refused = λ other refused.
            let same_fault : fault ≡ other = ap (fault_of fault) (sym ended ∙ refused) in
            subst (WereRefused now new.intake.policy) same_fault (refused_piece bytes_read now file piece is others old.intake took new.intake.policy new.intake.interfaces fault shown.0 shown.1);
      }
  follows_refused now file piece new faults.Horizon is others ended refuses files same keys = absurd ended
  follows_refused now file piece new faults.OutOfTurn is others ended refuses files same keys = absurd ended
  follows_refused now file piece new (faults.Breach breach) is others ended refuses files same keys = absurd ended
  follows_refused now file piece new faults.Memory is others ended refuses files same keys = absurd ended
  follows_refused now file piece new faults.Ended is others ended refuses files same keys = absurd ended
  follows_refused now file piece new faults.Lane is others ended refuses files same keys = absurd ended

  -- the captures and the users stay, and it ended by no refusal of bytes
  with_cause : (new : Audit) (cause : Option Cause) → new.ended ≡ cause → new.intake ≡ old.intake → new.credentials ≡ old.credentials → ShowsItsBreach new → (IsRefused cause → ⊥) → Follows policy users count bytes_read new
  with_cause new cause is same keys shows none = record {
    policy' = subst (λ (i : Intake). policy_of policy ≡ Ok i.policy) (sym same) goes.1.policy';
    users' = subst (λ (c : Credentials). AreUsers users (key_for c)) (sym keys) goes.1.users';
    count' = ap (λ (i : Intake). vec_len i.files) same ∙ goes.1.count';
    shows = shows;
    took = λ _. subst (λ (i : Intake). TookIn bytes_read i) (sym same) (goes.1.took (none≢refused old goes.0));
    refused = no_refusal bytes_read new cause is none;
  }

  pub goes_advanced : (new : Audit) → new.ended ≡ None → new.intake ≡ old.intake → new.credentials ≡ old.credentials → Goes policy users count bytes_read new
  goes_advanced new none same keys = (none, with_cause new None none same keys (no_breach new None none (λ broke. broke)) (λ refused. refused))

  -- an advance was refused
  pub follows_stopped : (horizon : ℕ) (extension : Extension) (new : Audit) (refusal : LiveFault) → IsRefusal old horizon extension refusal → Leaves old new refusal
      → IfBreach refusal (λ breach. LiveBreach (taken old.intake) (key_for old.credentials) new.front.placing.certificate (Some breach))
      → new.intake ≡ old.intake → new.credentials ≡ old.credentials → Follows policy users count bytes_read new
  follows_stopped horizon extension new (faults.Breach breach) refused leaves shows same keys =
      with_cause new (Some (Broke breach)) leaves same keys (λ other broke.
      let same_breach : breach ≡ other = ap (breach_of breach) (sym leaves ∙ broke) in
      subst (λ (b : Breach). LiveBreach (taken new.intake) (key_for new.credentials) new.front.placing.certificate (Some b)) same_breach
      (subst (λ (i : Intake). LiveBreach (taken i) (key_for new.credentials) new.front.placing.certificate (Some breach)) (sym same)
      (subst (λ (c : Credentials). LiveBreach (taken old.intake) (key_for c) new.front.placing.certificate (Some breach)) (sym keys) shows)))
      (λ refused. refused)
  follows_stopped horizon extension new faults.Memory refused leaves shows same keys = with_cause new (Some NoMemory) leaves same keys (no_breach new (Some NoMemory) leaves (λ broke. broke)) (λ refused. refused)
  follows_stopped horizon extension new faults.Ended refused leaves shows same keys = subst (Follows policy users count bytes_read) (sym leaves) goes.1
  follows_stopped horizon extension new faults.Horizon refused leaves shows same keys = subst (Follows policy users count bytes_read) (sym leaves) goes.1
  follows_stopped horizon extension new faults.Lane refused leaves shows same keys = subst (Follows policy users count bytes_read) (sym leaves) goes.1
  follows_stopped horizon extension new faults.OutOfTurn refused leaves shows same keys = subst (Follows policy users count bytes_read) (sym leaves) goes.1
  follows_stopped horizon extension new (faults.Input fault) refused leaves shows same keys = absurd refused

abbrev IsRefusedTurn : Turn → Type 0
IsRefusedTurn turns.Refused = Unit {0}
IsRefusedTurn turns.Fed = ⊥
IsRefusedTurn turns.Quiet = ⊥

pub fed_apart : turns.Fed ≢ turns.Refused
fed_apart same = subst IsRefusedTurn (sym same) tt

-- a turn that was not refused left it going
pub left_going : (turn : Turn) (policy users : List ℕ) (count : ℕ) (bytes_read : ℕ → Option (List ℕ)) (live : Audit) → turn ≢ turns.Refused → Goes policy users count bytes_read live → LeftBy turn policy users count bytes_read live
left_going turns.Fed policy users count bytes_read live apart goes = goes
left_going turns.Quiet policy users count bytes_read live apart goes = goes
left_going turns.Refused policy users count bytes_read live apart goes = absurd (apart refl)

pub goes_same : (policy users : List ℕ) (count : ℕ) (bytes_read now : ℕ → Option (List ℕ)) (old new : Audit) → now ≡ bytes_read → new ≡ old → Goes policy users count bytes_read old → Goes policy users count now new
goes_same policy users count bytes_read now old new same is goes =
    subst (λ (live : Audit). Goes policy users count now live) (sym is) (subst (λ (h : ℕ → Option (List ℕ)). Goes policy users count h old) (sym same) goes)

-- whatever a turn has come to, it is followed
pub left_following : (turn : Turn) (policy users : List ℕ) (count : ℕ) (bytes_read : ℕ → Option (List ℕ)) (live : Audit) → LeftBy turn policy users count bytes_read live → Follows policy users count bytes_read live
left_following turns.Fed policy users count bytes_read live goes = goes.1
left_following turns.Quiet policy users count bytes_read live goes = goes.1
left_following turns.Refused policy users count bytes_read live follows = follows

-- this number of captures was added, of which nothing was read
pub files_opened : (intake : Intake) (count : ℕ) → StandsFor intake (replicate count not_fed) → vec_len intake.files ≡ count
files_opened intake count stands = sym stands.count ∙ length-replicate count not_fed

pub goes_opened : (policy users : List ℕ) (count : ℕ) (bytes_read : ℕ → Option (List ℕ)) (live : Audit) (p : Policy) (c : Credentials) → live.ended ≡ None → policy_of policy ≡ Ok p → live.intake.policy ≡ p
    → AreUsers users (key_for c) → live.credentials ≡ c → StandsFor live.intake (replicate count not_fed) → ((capture : ℕ) → IfSome (bytes_read capture) (λ bytes. bytes ≡ [])) → Goes policy users count bytes_read live
goes_opened policy users count bytes_read live p c none of_policy same of_users keys stands nothing = (
  none,
  record {
    policy' = subst (λ (q : Policy). policy_of policy ≡ Ok q) (sym same) of_policy;
    users' = subst (λ (d : Credentials). AreUsers users (key_for d)) (sym keys) of_users;
    count' = files_opened live.intake count stands;
    shows = no_breach live None none (λ broke. broke);
    took = λ _. record { files = replicate count not_fed; stands = stands; were_fed = none_fed bytes_read count nothing };
    refused = no_refusal bytes_read live None none (λ refused. refused);
  },
)

-- ---- the end

module _ (turns : Turns) (policy users : List ℕ) (count : ℕ) (bytes_read reads : ℕ → Option (List ℕ)) (live : Audit) (follows : Follows policy users count bytes_read live)
    (has_ended : HasEnded turns count reads live) (result : Result Verdict LiveEnd) (first : (cause : Cause) → live.ended ≡ Some cause → result ≡ end_by cause) where
  abbrev pub IsReported : Verdict → Type 0
  IsReported = IsReportedOf turns bytes_read reads live.intake (key_for live.credentials) live.front.placing.certificate

  -- without a cause the captures were read out
  read_out : live.ended ≡ None → HasEnded turns count reads live → AreReadOut turns (taken live.intake).files reads
  read_out none (inl apart) = absurd (apart none)
  read_out none (inr read) = subst (λ (n : ℕ). AreReadOut turns n reads) (sym follows.count') read

  at_the_end : live.ended ≡ None → (r : Result Verdict LiveEnd) → ((files : List Fed) → StandsFor live.intake files → ChecksTheEnds r files) → IfOk r (IsVerdict (taken live.intake) (key_for live.credentials) live.front.placing.certificate)
      → IfOk r (λ verdict. IsConforming verdict ↔ Conforms (taken live.intake) (rules_for (taken live.intake) (key_for live.credentials)) live.front.placing.certificate) → IfOk r IsReported
  at_the_end none (Ok verdict) ends is conforming =
      let took = follows.took (none≢refused live none) in inl (record { took = took; read_out = read_out none has_ended; ended = ends took.files took.stands; is = is; conforming = conforming })
  at_the_end none (Err end) ends is conforming = tt

  by_cause : (cause : Cause) → live.ended ≡ Some cause → IfOk (end_by cause) IsReported
  by_cause (Broke breach) is = inr (record { took = follows.took (none_refused live (Some (Broke breach)) is (λ refused. refused)); breach = breach; is = refl; shows = follows.shows breach is })
  by_cause NoMemory is = tt
  by_cause (Refused fault) is = tt

  pub reported_at_last : (ended : Option Cause) → live.ended ≡ ended → (live.ended ≡ None → (files : List Fed) → StandsFor live.intake files → ChecksTheEnds result files)
      → (live.ended ≡ None → IfOk result (IsVerdict (taken live.intake) (key_for live.credentials) live.front.placing.certificate))
      → (live.ended ≡ None → IfOk result (λ verdict. IsConforming verdict ↔ Conforms (taken live.intake) (rules_for (taken live.intake) (key_for live.credentials)) live.front.placing.certificate))
      → IfOk result IsReported
  reported_at_last None none ends is conforming = at_the_end none result (ends none) (is none) (conforming none)
  reported_at_last (Some cause) is ends verdict conforming = subst (λ (r : Result Verdict LiveEnd). IfOk r IsReported) (sym (first cause is)) (by_cause cause is)

err≢ok : (e : LiveEnd) (v : Verdict) → Err e ≡ Ok v → ⊥
err≢ok e v same = absurd (cc)

err_of : (e f : LiveEnd) → ◌≡◌ {A = Result Verdict LiveEnd} (Err e) (Err f) → e ≡ f
err_of e f same = cc

input≢memory : (fault : IntakeFault) → live_ends.Input fault ≡ live_ends.Memory → ⊥
input≢memory fault same = absurd (cc)

input_of : (fault other : IntakeFault) → live_ends.Input fault ≡ live_ends.Input other → fault ≡ other
input_of fault other same = cc

-- what ends a run without a verdict
module _ (policy users : List ℕ) (count : ℕ) (bytes_read : ℕ → Option (List ℕ)) (live : Audit) (follows : Follows policy users count bytes_read live)
    (end : LiveEnd) (first : (cause : Cause) → live.ended ≡ Some cause → Err end ≡ end_by cause) (ends : live.ended ≡ None → (files : List Fed) → StandsFor live.intake files → ChecksTheEnds (Err end) files) where
  ends_by : (ended : Option Cause) → live.ended ≡ ended → (e : LiveEnd) → end ≡ e → EndsLiveBy count bytes_read live.intake.policy e
  ends_by ended is live_ends.Memory same = tt
  ends_by None is (live_ends.Input fault) same =
      let took = follows.took (none≢refused live is) in
      inr (inr record { intake = live.intake; policy' = refl; took = took; ends = subst (λ (e : LiveEnd). ChecksTheEnds (Err e) took.files) same (ends is took.files took.stands) })
  ends_by (Some (Broke breach)) is (live_ends.Input fault) same = absurd (err≢ok _ _ (first (Broke breach) is))
  ends_by (Some NoMemory) is (live_ends.Input fault) same = absurd (input≢memory fault (sym same ∙ err_of _ _ (first NoMemory is)))
  ends_by (Some (Refused other)) is (live_ends.Input fault) same =
      inl (subst (WereRefused bytes_read live.intake.policy) (input_of _ _ (sym (sym same ∙ err_of _ _ (first (Refused other) is)))) (follows.refused other is))

  pub ended_by : EndsLiveBy count bytes_read live.intake.policy end
  ended_by = ends_by live.ended refl end refl

-- and so it ends the turns
pub ends_turns : (count : ℕ) (bytes_read : ℕ → Option (List ℕ)) (policy : Policy) (end : LiveEnd) (stop : Stop) → EndsLiveBy count bytes_read policy end → EndsByLive end stop → EndsTurns count bytes_read policy stop
ends_turns count bytes_read policy (live_ends.Input fault) stop capture_fault ends = inr (inr (fault, ends, capture_fault))
ends_turns count bytes_read policy live_ends.Memory stop tt' ends = inl ends

-- no room for a 17th capture ends them, too
pub full_ends : (count : ℕ) (bytes_read : ℕ → Option (List ℕ)) (policy : Policy) (stop : Stop) → (stop ≡ Memory) ⊎ ((16 < count) × EndsByIntake (record { kind = Limit; file = 16 }) stop) → EndsTurns count bytes_read policy stop
full_ends count bytes_read policy stop (inl memory) = inl memory
full_ends count bytes_read policy stop (inr full) = inr (inr (record { kind = Limit; file = 16 }, full.1, inr (inl (refl, full.0))))

-- want of memory and a capture that can't be read
pub stopped_ends : (count : ℕ) (bytes_read : ℕ → Option (List ℕ)) (policy : Policy) (stop : Stop) → (stop ≡ Memory) ⊎ (stop ≡ Read) → EndsTurns count bytes_read policy stop
stopped_ends count bytes_read policy stop (inl memory) = inl memory
stopped_ends count bytes_read policy stop (inr read) = inr (inl read)

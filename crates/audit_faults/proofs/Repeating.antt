-- What repeats a datagram explains no more than that.
use Rattle.std.proofs.Common.{◌≡◌, ◌⊎◌, inl, inr, None, true, false, IsTrue, ◌<◌, ◌≤◌, ◌-◌, ◌+◌, zero, suc, ℕ, Option, Some, IfSome, List, [], ◌∷◌, ◌++◌, length, length-append, get_or, sym, ◌∙◌, ap, subst, arith}
use Rattle.std.proofs.Math.ListN.{get_or-append}
use Rattle.std.proofs.Math.Seq.{get_or-append_seam}
use Rattle.std.specs.Prelude.{slice_index_or}
use Rattle.std.proofs.lemmas.Bool.{cases_lt}
use Rattle.std.proofs.lemmas.Option.{same_Some, slice_get-get_or, slice_get_within}
use Rattle.audit_model.specs.declared.address.Addr.{Addr}
use Rattle.audit_model.specs.declared.policy.Policy.{Policy}
use Rattle.audit_model.specs.declared.sighting.SightId.{SightId}
use Rattle.audit_model.specs.declared.sighting.Sighting.{Sighting}
use Rattle.audit_model.specs.Policy.{listens, relays}
use Rattle.audit_model.specs.Window.{later}
use Rattle.audit_stun.specs.ChannelData.{channel_data_of}
use Rattle.audit_stun.specs.declared.class.Class.TheVariants.{Request, Indication}
use Rattle.audit_rules.specs.Keys.{KeyFor}
use Rattle.audit_sightings.specs.Intake.{Taken, sighting_at}
use Rattle.audit_faults.specs.declared.fault.Fault.{Fault}
use Rattle.audit_faults.specs.declared.fault.Fault.TheVariants.{Unasked, Unallocated, Unpermitted, Unbound, Unfit, Unauthentic}
use Rattle.audit_faults.specs.declared.fault.Grant.{Grant}
use Rattle.audit_faults.specs.declared.fault.Lease.{Lease}
use Rattle.audit_faults.specs.declared.fault.Lease.TheVariants.{Allocation, Permission, Channel}
use Rattle.audit_faults.specs.declared.keyed.Keyed.{Keyed}
use Rattle.audit_faults.specs.Causes.{InReach, Responds, SentInChannel, SentOn}
use Rattle.audit_faults.specs.Beginning.{SentOnOnce, SentInChannelOnce, DeliveredOnce, DeliveredInChannelOnce, WasWanted, Begins}
use Rattle.audit_faults.specs.Explains.{IsWanted, IsProved, Holds, Reasons, Explains}
use Rattle.audit_faults.specs.Fits.{IsFit}
use Rattle.audit_faults.specs.Grants.{HasGrant, MayLast}
use Rattle.audit_faults.specs.Keyed.{HasKeyed}
use Rattle.audit_faults.proofs.Keying.{NoneFrom}
use Rattle.audit_faults.specs.RepeatBlocks.{AreBlocks, AreRepeatedInReach, IsBlock}
use Rattle.audit_faults.specs.Repeats.{AreRepeats, AreSame, HasBefore, IsPlaced, IsRepeat, IsRepeated, IsSentAgain}
use Rattle.audit_faults.specs.declared.repeat_blocks.RepeatBlock.{RepeatBlock}

-- ---- the earlier one has all reasons of the later one

wanted : (fault : Fault) (lease : Lease) (G H : Type 0) → (G → H) → IsWanted fault lease G → IsWanted fault lease H
wanted Unasked lease G H to g = tt
wanted Unallocated (Allocation relayed) G H to g = to g
wanted Unallocated (Permission ip) G H to g = tt
wanted Unallocated (Channel number peer) G H to g = tt
wanted Unpermitted (Allocation relayed) G H to g = to g
wanted Unpermitted (Permission ip) G H to g = to g
wanted Unpermitted (Channel number peer) G H to g = tt
wanted Unbound lease G H to g = to g
wanted Unfit lease G H to g = to g
wanted Unauthentic lease G H to g = to g

lasts : (policy : Policy) (lease : Lease) (moment needed sooner : ℕ) → sooner ≤ needed → MayLast policy lease moment needed → MayLast policy lease moment sooner
lasts policy (Allocation relayed) moment needed sooner le last = tt
lasts policy (Permission ip) moment needed sooner le last = omega (arith, le, last)
lasts policy (Channel number peer) moment needed sooner le last = omega (arith, le, last)

module _ (taken : Taken) (fault : Fault) (earlier later departure : Sighting) (le : earlier.lo ≤ later.lo) where
  granted : (grant : Grant) → HasGrant taken grant later departure → HasGrant taken grant earlier departure
  granted grant (request, captured, (requests, (success, there, answers))) = (
    request,
    captured,
    (
      record {
        arrives = requests.arrives;
        from = requests.from;
        to = requests.to;
        before = requests.before;
        lasts = lasts taken.policy grant.lease _ later.lo earlier.lo le requests.lasts;
        for_lease = requests.for_lease;
      },
      (
        success,
        there,
        record {
          leaves = answers.leaves;
          from = answers.from;
          to = answers.to;
          after = answers.after;
          lasts = lasts taken.policy grant.lease success.hi later.lo earlier.lo le answers.lasts;
          succeeds = answers.succeeds;
          same_id = answers.same_id;
          has_address = answers.has_address;
        },
      ),
    ),
  )

  held_sooner : (client listen : Addr) (lease : Lease) → Holds taken fault client listen lease later departure → Holds taken fault client listen lease earlier departure
  held_sooner client listen lease = wanted fault lease _ _ (granted (record { client = client; listen = listen; lease = lease }))

module _ (taken : Taken) (key_for : KeyFor) (fault : Fault) (later departure : Sighting) (stamp lo hi : ℕ) (id : SightId) (le : lo ≤ later.lo) where
  abbrev earlier : Sighting
  earlier = record later { stamp = stamp; lo = lo; hi = hi; id = id }

  held : (client listen : Addr) (lease : Lease) → Holds taken fault client listen lease later departure → Holds taken fault client listen lease earlier departure
  held = held_sooner taken fault earlier later departure le

  fits : IsFit later departure → IsFit earlier departure
  fits fit = record { success = fit.success; error = fit.error }

  proved : (kind : Fault) → IsProved key_for kind later departure → IsProved key_for kind earlier departure
  proved Unasked is = tt
  proved Unallocated is = tt
  proved Unpermitted is = tt
  proved Unbound is = tt
  proved Unfit is = fits is
  proved Unauthentic is = (fits is.0, is.1)

  reasons : Reasons taken key_for fault later departure → Reasons taken key_for fault earlier departure
  reasons (inl (responds, is)) = inl (
    record {
      served = responds.served;
      forth = responds.forth;
      back = responds.back;
      request = responds.request;
      response = responds.response;
      same_id = responds.same_id;
    },
    proved fault is,
  )
  reasons (inr (inl (sent, allocated, permitted))) = inr (inl (
    record {
      served = sent.served;
      relayed = sent.relayed;
      indication = sent.indication;
      peer = sent.peer;
      sends = sent.sends;
    },
    held _ _ _ allocated,
    held _ _ _ permitted,
  ))
  reasons (inr (inr (inl (number, sent, allocated, bound)))) = inr (inr (inl (
    number,
    record {
      served = sent.served;
      relayed = sent.relayed;
      past = sent.past;
      says = sent.says;
    },
    held _ _ _ allocated,
    held _ _ _ bound,
  )))
  reasons (inr (inr (inr (inl (delivered, allocated, permitted))))) = inr (inr (inr (inl (
    record {
      served = delivered.served;
      relayed = delivered.relayed;
      indication = delivered.indication;
      peer = delivered.peer;
      sends = delivered.sends;
    },
    held _ _ _ allocated,
    held _ _ _ permitted,
  ))))
  reasons (inr (inr (inr (inr (number, delivered, allocated, permitted, bound))))) = inr (inr (inr (inr (
    number,
    record {
      served = delivered.served;
      relayed = delivered.relayed;
      past = delivered.past;
      says = delivered.says;
      padding = delivered.padding;
    },
    held _ _ _ allocated,
    held _ _ _ permitted,
    held _ _ _ bound,
  ))))

  as_earlier : InReach taken.policy.hold earlier departure → Explains taken key_for fault later departure → Explains taken key_for fault earlier departure
  as_earlier near e = record { arrives = e.arrives; in_reach = near; reasons = reasons e.reasons }

explained_by_same : (taken : Taken) (key_for : KeyFor) (fault : Fault) (earlier later departure : Sighting) → earlier.lo ≤ later.lo → AreSame earlier later → InReach taken.policy.hold earlier departure →
    Explains taken key_for fault later departure → Explains taken key_for fault earlier departure
explained_by_same taken key_for fault earlier later departure le same near e =
    subst (λ (s : Sighting). Explains taken key_for fault s departure) (sym same)
    (as_earlier taken key_for fault later departure earlier.stamp earlier.lo earlier.hi earlier.id le (subst (λ (s : Sighting). InReach taken.policy.hold s departure) same near) e)

-- a Send indication has the data and the peer of another, and requests nothing else
module _ (taken : Taken) (earlier later departure : Sighting) (again : IsSentAgain taken.policy earlier later) where
  sent_before : SentOn taken.policy later departure → SentOn taken.policy earlier departure
  sent_before sent = record {
    served = subst (λ (a : Addr). IsTrue (listens taken.policy a)) (sym again.to) sent.served;
    relayed = sent.relayed;
    indication = again.payload.first;
    peer = again.payload.peer ∙ sent.peer;
    sends = again.payload.content ∙ sent.sends;
  }

  no_request : Responds taken.policy later departure → ⊥
  no_request responds = let k : Request ≡ Indication = sym responds.request.1 ∙ again.payload.again.1 in cc

  no_channel : (number : ℕ) → SentInChannel taken.policy number later departure → ⊥
  no_channel number sent = let k : channel_data_of later.payload ≡ None = again.payload.not_channel in let h : channel_data_of later.payload ≡ Some (number, departure.payload, sent.past) = sent.says in cc

  not_relayed : IsTrue (relays taken.policy later.to) → ⊥
  not_relayed relayed = let k : true ≡ false = sym relayed ∙ again.to_server in cc

  moved : (fault : Fault) (lease : Lease) → Holds taken fault later.from later.to lease earlier departure → Holds taken fault earlier.from earlier.to lease earlier departure
  moved fault lease h =
      subst (λ (from : Addr). Holds taken fault from earlier.to lease earlier departure) (sym again.from) (subst (λ (to : Addr). Holds taken fault later.from to lease earlier departure) (sym again.to) h)

  once : (fault : Fault) (until : ℕ) (lease : Lease) → WasWanted taken fault until later.from later.to lease → WasWanted taken fault until earlier.from earlier.to lease
  once fault until lease h =
      subst (λ (from : Addr). WasWanted taken fault until from earlier.to lease) (sym again.from) (subst (λ (to : Addr). WasWanted taken fault until later.from to lease) (sym again.to) h)

  explained_by_sent : (key_for : KeyFor) (fault : Fault) → earlier.lo ≤ later.lo → InReach taken.policy.hold earlier departure → Explains taken key_for fault later departure → Explains taken key_for fault earlier departure
  explained_by_sent key_for fault le near e = record {
    arrives = again.side ∙ e.arrives;
    in_reach = near;
    reasons = elim e.reasons [
      | inl responds ↦ absurd (no_request responds.0)
      | inr (inl (sent, allocated, permitted)) ↦ inr (inl (
        sent_before sent,
        moved fault (Allocation departure.from) (held_sooner taken fault earlier later departure le later.from later.to _ allocated),
        moved fault (Permission departure.to.ip) (held_sooner taken fault earlier later departure le later.from later.to _ permitted),
      ))
      | inr (inr (inl (number, sent, _, _))) ↦ absurd (no_channel number sent)
      | inr (inr (inr (inl (delivered, _, _)))) ↦ absurd (not_relayed delivered.relayed)
      | inr (inr (inr (inr (number, delivered, _, _, _)))) ↦ absurd (not_relayed delivered.relayed)
    ];
  }

  begun_by_sent : (fault : Fault) (until : ℕ) → InReach taken.policy.hold earlier departure → Begins taken fault until departure later → Begins taken fault until departure earlier
  begun_by_sent fault until near (arrives, _, form) = (
    again.side ∙ arrives,
    near,
    elim form [
      | inl (sent, allocated, permitted) ↦ inl (sent_before sent, once fault until (Allocation departure.from) allocated, once fault until (Permission departure.to.ip) permitted)
      | inr (inl (number, sent, _, _)) ↦ absurd (no_channel number sent)
      | inr (inr (inl (delivered, _, _))) ↦ absurd (not_relayed delivered.relayed)
      | inr (inr (inr (number, delivered, _, _, _))) ↦ absurd (not_relayed delivered.relayed)
    ],
  )

pub explained_by_repeated : (taken : Taken) (key_for : KeyFor) (fault : Fault) (earlier later departure : Sighting) → IsRepeat taken.policy earlier later → InReach taken.policy.hold earlier departure →
    Explains taken key_for fault later departure → Explains taken key_for fault earlier departure
explained_by_repeated taken key_for fault earlier later departure repeats near e = elim repeats.same [
  | inl same ↦ explained_by_same taken key_for fault earlier later departure repeats.first same near e
  | inr again ↦ explained_by_sent taken earlier later departure again key_for fault repeats.first near e
]

-- ---- and what caused a departure at the later one caused it at the earlier one

module _ (taken : Taken) (fault : Fault) (until : ℕ) (later departure : Sighting) (stamp lo hi : ℕ) (id : SightId) where
  abbrev sooner : Sighting
  sooner = record later { stamp = stamp; lo = lo; hi = hi; id = id }

  forms : (SentOnOnce taken fault until later departure ⊎ SentInChannelOnce taken fault until later departure ⊎ DeliveredOnce taken fault until later departure ⊎ DeliveredInChannelOnce taken fault until later departure) →
      (SentOnOnce taken fault until sooner departure ⊎ SentInChannelOnce taken fault until sooner departure ⊎ DeliveredOnce taken fault until sooner departure ⊎ DeliveredInChannelOnce taken fault until sooner departure)
  forms (inl (sent, allocated, permitted)) = inl (
    record {
      served = sent.served;
      relayed = sent.relayed;
      indication = sent.indication;
      peer = sent.peer;
      sends = sent.sends;
    },
    allocated,
    permitted,
  )
  forms (inr (inl (number, sent, allocated, bound))) = inr (inl (
    number,
    record {
      served = sent.served;
      relayed = sent.relayed;
      past = sent.past;
      says = sent.says;
    },
    allocated,
    bound,
  ))
  forms (inr (inr (inl (delivered, allocated, permitted)))) = inr (inr (inl (
    record {
      served = delivered.served;
      relayed = delivered.relayed;
      indication = delivered.indication;
      peer = delivered.peer;
      sends = delivered.sends;
    },
    allocated,
    permitted,
  )))
  forms (inr (inr (inr (number, delivered, allocated, permitted, bound)))) = inr (inr (inr (
    number,
    record {
      served = delivered.served;
      relayed = delivered.relayed;
      past = delivered.past;
      says = delivered.says;
      padding = delivered.padding;
    },
    allocated,
    permitted,
    bound,
  )))

  as_sooner : InReach taken.policy.hold sooner departure → Begins taken fault until departure later → Begins taken fault until departure sooner
  as_sooner near (arrives, _, form) = (arrives, near, forms form)

pub begun_by_repeated : (taken : Taken) (fault : Fault) (until : ℕ) (earlier later departure : Sighting) → IsRepeat taken.policy earlier later → InReach taken.policy.hold earlier departure →
    Begins taken fault until departure later → Begins taken fault until departure earlier
begun_by_repeated taken fault until earlier later departure repeats near e = elim repeats.same [
  | inl same ↦
      subst (Begins taken fault until departure) (sym same)
      (as_sooner taken fault until later departure earlier.stamp earlier.lo earlier.hi earlier.id (subst (λ (s : Sighting). InReach taken.policy.hold s departure) same near) e)
  | inr again ↦ begun_by_sent taken earlier later departure again fault until near e
]

-- ---- so the places of repeats may be passed over

module _ (taken : Taken) (keyed : List Keyed) where
  pub one_sighting : (n : ℕ) (s t : Sighting) → IsPlaced taken keyed n s → IsPlaced taken keyed n t → s ≡ t
  one_sighting n s t (one, at, there) (other, at', there') =
      let same : one ≡ other = same_Some one other (sym at ∙ at') in
      same_Some s t (sym there ∙ subst (λ (it : Keyed). sighting_at taken it.sight ≡ Some t) (sym same) there')

  placed : (n : ℕ) (one : Keyed) (s : Sighting) → n < length keyed → slice_index_or keyed n one ≡ one → sighting_at taken one.sight ≡ Some s → IsPlaced taken keyed n s
  placed n one s inside is there = (one, slice_get-get_or keyed n one inside ∙ ap Some is, there)

module _ (taken : Taken) (P : Sighting → Type 0) (key low high first : ℕ) (keyed : List Keyed) where
  -- where one of the places of the key and the moments from one on has such a sighting, an earlier place has one, too
  abbrev pub OnlyWithEarlier : ℕ → Type 0
  OnlyWithEarlier n =
      (k : ℕ) → n ≤ k → (one : Keyed) → k < length keyed → slice_index_or keyed k one ≡ one → one.key ≡ key → low ≤ one.moment → one.moment ≤ high →
      (s : Sighting) → sighting_at taken one.sight ≡ Some s → P s → HasBefore taken keyed P first n

  pub earlier_at_end : (past : ℕ) → HasKeyed keyed key low high first past → OnlyWithEarlier past
  earlier_at_end past has k far one inside is e from to s at p = absurd (let h = has k one inside is e from to in omega (arith, far, h.1))

  -- a place down, where the fact at that place comes with one before it, or not at all
  pub earlier_down : (n : ℕ) → 0 < n → OnlyWithEarlier n → ((s : Sighting) → IsPlaced taken keyed (n - 1) s → P s → HasBefore taken keyed P first (n - 1)) → OnlyWithEarlier (n - 1)
  earlier_down n some so_far here k far one inside is e from to s there p = elim (cases_lt k n) [
    | inr ge ↦ lower (so_far k ge one inside is e from to s there p)
    | inl lt ↦
        let k-is : k ≡ n - 1 = omega (arith, lt, far) in
        here s (subst (λ (i : ℕ). IsPlaced taken keyed i s) k-is (placed taken keyed k one s inside is there)) p
  ]
    where
      lower : HasBefore taken keyed P first n → HasBefore taken keyed P first (n - 1)
      lower (j, from-first, below, (t, at, q)) = elim (cases_lt j (n - 1)) [
        | inl lt ↦ (j, from-first, lt, (t, at, q))
        | inr ge ↦ let j-is : j ≡ n - 1 = omega (arith, ge, below) in here t (subst (λ (i : ℕ). IsPlaced taken keyed i t) j-is at) q
      ]

  -- so many places down
  earlier_skip : (d n m : ℕ) → m ≡ n + d → OnlyWithEarlier m → ((k : ℕ) → n ≤ k → k < m → (s : Sighting) → IsPlaced taken keyed k s → P s → HasBefore taken keyed P first k) → OnlyWithEarlier n
  earlier_skip zero n m is so_far here = subst (λ (i : ℕ). OnlyWithEarlier i) (omega (arith, is)) so_far
  earlier_skip (suc d) n m is so_far here =
      earlier_skip d n (m - 1) (omega (arith, is)) (earlier_down m (omega (arith, is)) so_far (λ s at p. here (m - 1) (omega (arith, is)) (omega (arith, is)) s at p))
      (λ k from below. here k from (omega (arith, below)))

  -- down to a place that has no such sighting, where those after it have one only with an earlier place
  pub earlier_past : (past place : ℕ) → place < past → OnlyWithEarlier past →
      ((k : ℕ) → place + 1 ≤ k → k < past → (s : Sighting) → IsPlaced taken keyed k s → P s → HasBefore taken keyed P first k) → ((s : Sighting) → IsPlaced taken keyed place s → P s → ⊥) → OnlyWithEarlier place
  earlier_past past place below so_far others none = earlier_skip (past - place) place past (omega (arith, below)) so_far (λ k from under s at p. elim (cases_lt place k) [
    | inl lt ↦ others k (omega (arith, lt)) under s at p
    | inr ge ↦ absurd (let k-is : k ≡ place = omega (arith, from, ge) in none s (subst (λ (i : ℕ). IsPlaced taken keyed i s) k-is at) p)
  ])

  -- at the first place nothing comes before
  none_of_earlier : (n : ℕ) → n ≤ first → OnlyWithEarlier n → NoneFrom taken P key low high keyed n
  none_of_earlier n near so_far k far one inside is e from to s there p = let h = so_far k far one inside is e from to s there p in omega (arith, near, h.1, h.2)

  -- so where all places from the first on have one only with an earlier place, none has
  pub none_at_last : (past : ℕ) → OnlyWithEarlier past → ((k : ℕ) → first ≤ k → k < past → (s : Sighting) → IsPlaced taken keyed k s → P s → HasBefore taken keyed P first k) →
      (n : ℕ) × (n ≤ first) × NoneFrom taken P key low high keyed n
  none_at_last past so_far others = elim (cases_lt first past) [
    | inl lt ↦ (first, omega arith, none_of_earlier first (omega arith) (earlier_skip (past - first) first past (omega (arith, lt)) so_far others))
    | inr ge ↦ (past, ge, none_of_earlier past ge so_far)
  ]

-- ---- a place of a repeat has one only with an earlier place

module _ (taken : Taken) (places : List Keyed) (departure : Sighting) (first low past : ℕ) (repeated : AreRepeatedInReach taken places departure first low past) where
  pub explained_with_earlier : (key_for : KeyFor) (fault : Fault) (k : ℕ) → low ≤ k → k < past → (s : Sighting) → IsPlaced taken places k s → Explains taken key_for fault s departure →
      HasBefore taken places (λ (t : Sighting). Explains taken key_for fault t departure) first k
  explained_with_earlier key_for fault k from below s at e =
      let one = repeated k from below in
      let repeats = one.2.0 in
      let same : s ≡ repeats.later = one_sighting taken places k s repeats.later at repeats.here in
      let later = subst (λ (t : Sighting). Explains taken key_for fault t departure) same e in
      let reach : InReach taken.policy.hold repeats.earlier departure = (omega (arith, repeats.repeats.first, later.in_reach.0), one.2.1) in
      (one.0, one.1, repeats.ahead, (repeats.earlier, repeats.there, explained_by_repeated taken key_for fault repeats.earlier repeats.later departure repeats.repeats reach later))

  pub begun_with_earlier : (fault : Fault) (until : ℕ) (k : ℕ) → low ≤ k → k < past → (s : Sighting) → IsPlaced taken places k s → Begins taken fault until departure s →
      HasBefore taken places (Begins taken fault until departure) first k
  begun_with_earlier fault until k from below s at e =
      let one = repeated k from below in
      let repeats = one.2.0 in
      let same : s ≡ repeats.later = one_sighting taken places k s repeats.later at repeats.here in
      let later = subst (Begins taken fault until departure) same e in
      let reach : InReach taken.policy.hold repeats.earlier departure = (omega (arith, repeats.repeats.first, later.1.0), one.2.1) in
      (one.0, one.1, repeats.ahead, (repeats.earlier, repeats.there, begun_by_repeated taken fault until repeats.earlier repeats.later departure repeats.repeats reach later))

-- ---- the list of them grows

module _ (taken : Taken) (keyed : List Keyed) where
  pub no_repeats : AreRepeats taken keyed []
  no_repeats place before at = absurd (let h = slice_get_within {A = Option ℕ} [] place (Some before) at in omega (arith, h))

  pub more_repeats : (repeats : List (Option ℕ)) (one : Option ℕ) → AreRepeats taken keyed repeats → IfSome one (λ before. IsRepeated taken keyed before (length repeats)) → AreRepeats taken keyed (repeats ++ one ∷ [])
  more_repeats repeats one are is place before at =
      let more = repeats ++ one ∷ [] in
      let within = slice_get_within more place (Some before) at in
      let there : get_or more place one ≡ Some before = same_Some (get_or more place one) (Some before) (sym (slice_get-get_or more place one within) ∙ at) in
      elim (cases_lt place (length repeats)) [
        | inl lt ↦ are place before (slice_get-get_or repeats place one lt ∙ ap Some (sym (get_or-append repeats (one ∷ []) one place lt) ∙ there))
        | inr ge ↦
            let last : place ≡ length repeats = omega (arith, ge, within, length-append repeats (one ∷ [])) in
            let is_one : one ≡ Some before = sym (get_or-append_seam repeats one [] one) ∙ subst (λ (i : ℕ). get_or more i one ≡ Some before) last there in
            subst (λ (i : ℕ). IsRepeated taken keyed before i) (sym last) (subst (λ (o : Option ℕ). IfSome o (λ before. IsRepeated taken keyed before (length repeats))) is_one is)
      ]

-- ---- and so does that of the blocks

module _ (taken : Taken) (keyed : List Keyed) where
  pub no_blocks : AreBlocks taken keyed []
  no_blocks place block at = absurd (let h = slice_get_within {A = RepeatBlock} [] place block at in omega (arith, h))

  pub more_blocks : (blocks : List RepeatBlock) (one : RepeatBlock) → AreBlocks taken keyed blocks → IsBlock taken keyed (length blocks) one → AreBlocks taken keyed (blocks ++ one ∷ [])
  more_blocks blocks one are is place block at =
      let more = blocks ++ one ∷ [] in
      let within = slice_get_within more place block at in
      let there : get_or more place one ≡ block = same_Some (get_or more place one) block (sym (slice_get-get_or more place one within) ∙ at) in
      elim (cases_lt place (length blocks)) [
        | inl lt ↦ are place block (slice_get-get_or blocks place one lt ∙ ap Some (sym (get_or-append blocks (one ∷ []) one place lt) ∙ there))
        | inr ge ↦
            let last : place ≡ length blocks = omega (arith, ge, within, length-append blocks (one ∷ [])) in
            let is_one : one ≡ block = sym (get_or-append_seam blocks one [] one) ∙ subst (λ (i : ℕ). get_or more i one ≡ block) last there in
            subst (λ (i : ℕ). IsBlock taken keyed i block) (sym last) (subst (λ (b : RepeatBlock). IsBlock taken keyed (length blocks) b) is_one is)
      ]

  -- two blocks of which one ends where the other begins
  pub one_block : (first since end since' end' first' place : ℕ) → 0 < first' → IsBlock taken keyed (first' - 1) (record { first = first; since = since; end = end }) →
      IsBlock taken keyed place (record { first = first'; since = since'; end = end' }) → (least least-end : ℕ) → least ≤ since → least ≤ since' → least-end ≤ end → least-end ≤ end' →
      IsBlock taken keyed place (record { first = first; since = least; end = least-end })
  one_block first since end since' end' first' place some before block least least-end a b c d = record {
    inside = let h = before.inside in let g = block.inside in omega (arith, some, h, g);
    all = λ ends k from to. elim (cases_lt k first') [
      | inl lt ↦ let one = before.all (omega (arith, ends, c)) k from (omega (arith, lt)) in (one.0, omega (arith, one.1, a), (one.2.0, omega (arith, one.2.1, c)))
      | inr ge ↦ let one = block.all (omega (arith, ends, d)) k ge to in (one.0, omega (arith, one.1, b), (one.2.0, omega (arith, one.2.1, d)))
    ];
  }

  -- a block before those that are passed over is passed over, too, if all that it repeats is in reach
  pub skip_block : (departure : Sighting) (first place past : ℕ) (block : RepeatBlock) → 0 < place → IsBlock taken keyed (place - 1) block → 0 < block.end → first ≤ block.since → departure.lo ≤ later block.end taken.policy.hold →
      AreRepeatedInReach taken keyed departure first place past → AreRepeatedInReach taken keyed departure first block.first past
  skip_block departure first place past block some is ends since near others k from below = elim (cases_lt k place) [
    | inl lt ↦ let one = is.all ends k from (omega (arith, lt)) in (one.0, omega (arith, one.1, since), (one.2.0, omega (arith, one.2.1, near)))
    | inr ge ↦ others k ge below
  ]

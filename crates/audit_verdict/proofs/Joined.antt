-- A verdict that a certificate conforms says that its parts pass, and their passing that verdict.
use Rattle.std.proofs.Common.{◌≡◌, ◌↔◌, ◌≤◌, ◌<◌, ℕ, Bool, true, false, cond, List, [], ◌∷◌, length, map, Option, Some, None, refl, sym, ap, ◌∙◌, subst, inl, inr, arith}
use Rattle.std.specs.Prelude.{Contains, IsSomeAnd, is_some, slice_get}
use Rattle.audit_model.specs.declared.certificate.CertLane.{CertLane}
use Rattle.audit_model.specs.declared.certificate.Certificate.{Certificate}
use Rattle.audit_model.specs.declared.policy.Policy.{Policy}
use Rattle.audit_model.specs.declared.sighting.SightId.{SightId}
use Rattle.audit_model.specs.declared.verdict.Breach.{Breach}
use Rattle.audit_model.specs.declared.verdict.Tenancy.{Tenancy}
use Rattle.audit_model.specs.declared.verdict.Verdict.{Verdict}
use Rattle.audit_model.specs.declared.verdict.Verdict.TheVariants.{Conforming, NotShown}
use Rattle.audit_model.specs.Clash.{ShowsClash}
use Rattle.audit_placement.specs.Entries.{entries, drop_entries}
use Rattle.audit_rules.specs.Keys.{KeyFor}
use Rattle.audit_sightings.specs.Intake.{AreNumbered, Taken, sighting_at}
use Rattle.audit_server.specs.Captured.{rules_of}
use Rattle.audit_server.specs.Placed.{Placed, Rises, step_of}
use Rattle.audit_server.specs.Placing.{times_placed}
use Rattle.audit_server.specs.Rules.{Rules}
use Rattle.audit_server.specs.Run.{IsRun}
use Rattle.audit_server.specs.Tenancies.{tenancies_in}
use Rattle.audit_server.specs.Whole.{all_tenancies}
use Rattle.audit_server.proofs.Orders.{all_left}
use Rattle.audit_lane.specs.Concluded.{Has, tenancies_of}
use Rattle.audit_lane.specs.Concluded.{tenancies_in as of_judgement}
use Rattle.audit_lane.specs.Content.{Content, Found, Judgement, Passes, Breaks}
use Rattle.audit_lane.specs.Judged.{IsJudged, terms_of}
use Rattle.audit_lane.proofs.OneWay.{one_judgement}
use Rattle.audit_verdict.specs.Run.{pair_in}
use Rattle.audit_verdict.proofs.RunWhole.{passed_is_run}
use Rattle.audit_whole.specs.CaptureRun.{rules_for}
use Rattle.audit_whole.specs.Conforms.{Conforms}
use Rattle.audit_whole.specs.Glued.{all_placed, lanes_from, the_drops}
use Rattle.audit_whole.specs.Passes.{Passes as PartsPass}
use Rattle.audit_whole.proofs.Conditions.{rise_all, count_all}
use Rattle.audit_whole.proofs.Conforming.{conforms_of, passes_of}
use Rattle.audit_whole.proofs.Placement.{Sound, sound_of}
use Rattle.audit_verdict.specs.Verdicts.{IsLaneInput, IsOfLanes, IsVerdict, IsConforming}
use Rattle.audit_verdict.proofs.Lanes.{all_known, same_steps, once, rise, from_zero}
use Rattle.audit_verdict.proofs.Among.{placed_lane, there_within, all_lanes, lane_in, few_of_lane, lane_of, of_lanes, in_founds, found_of}

at_most : (b : Bool) → cond {A = ℕ} b 1 0 ≤ 1
at_most true = omega arith
at_most false = omega arith

not_broken : (ts : List Tenancy) (b : Breach) → Passes ts ≡ Breaks b → ⊥
not_broken ts b h = cc

some_lane : (P : CertLane → Type 0) (o : Option CertLane) → IsSomeAnd o P → (lane : CertLane) × (o ≡ Some lane) × P lane
some_lane P None h = absurd (elim h [ ])
some_lane P (Some lane) h = (lane, refl, h)

module _ (taken : Taken) (numbered : AreNumbered taken) (key_for : KeyFor) (certificate : Certificate) where
  abbrev w : Rules
  w = rules_for taken key_for

  -- ---- a lane's input passes just where the lane of the certificate is a run

  module _ (sound : Sound taken (entries certificate)) where
    few : (number : ℕ) (lane : CertLane) → slice_get certificate.lanes number ≡ Some lane → (s : SightId) → times_placed s (map step_of (placed_lane number lane)) ≤ 1
    few number lane h s =
        let all : times_placed s (map step_of (all_placed certificate)) ≤ 1 = subst (λ (n : ℕ). n ≤ 1) (sym (count_all taken numbered certificate sound s)) (at_most (is_some (sighting_at taken s))) in
        omega (arith, few_of_lane s number certificate.lanes lane (drop_entries (length certificate.lanes) certificate.drops) h, all)

    rises : (number : ℕ) (lane : CertLane) → slice_get certificate.lanes number ≡ Some lane → Rises (placed_lane number lane)
    rises number lane h = lane_in Rises 0 number number certificate.lanes lane h (omega arith) (all_left Rises (lanes_from 0 certificate.lanes) (the_drops certificate ∷ []) (rise_all taken numbered certificate sound))

    pub passes_as : (number : ℕ) (lane : CertLane) (content : Content) → slice_get certificate.lanes number ≡ Some lane → IsLaneInput taken key_for number lane content → (ts : List Tenancy) →
        IsJudged content (Passes ts) ↔ (IsRun w (map step_of (placed_lane number lane)) × (ts ≡ tenancies_in w (placed_lane number lane)))
    passes_as number lane content h input ts =
        let same = same_steps taken numbered number lane content input.input in
        let terms = terms_of content in
        let pair = pair_in content in
        let apart = once terms pair 0 content.events (λ s. subst (λ (l : List Placed). times_placed s (map step_of l) ≤ 1) (sym same) (few number lane h s)) in
        let order = rise terms pair 0 0 content.events (from_zero terms pair 0 content.events) (subst (λ (l : List Placed). Rises l) (sym same) (rises number lane h)) in
        let law = passed_is_run content key_for (sighting_at taken) input.users (all_known taken numbered lane.events content.events input.input.events) apart order ts in
        subst (λ (p : Policy). IsJudged content (Passes ts) ↔ (IsRun (rules_of p key_for (sighting_at taken)) (map step_of (placed_lane number lane)) × (ts ≡ tenancies_in (rules_of p key_for (sighting_at taken)) (placed_lane number lane)))) input.input.policy
        (subst (λ (l : List Placed). IsJudged content (Passes ts) ↔ (IsRun (rules_of content.policy key_for (sighting_at taken)) (map step_of l) × (ts ≡ tenancies_in (rules_of content.policy key_for (sighting_at taken)) l))) same law)

  -- ---- the findings of the lanes

  module _ (verdict : Verdict) (of : IsOfLanes taken key_for certificate verdict) where
    abbrev founds : List Found
    founds = of.concluded.founds

    -- the finding of a lane
    record FoundOf (number : ℕ) (lane : CertLane) : Type 0 where
      pub found : Found
      pub has : Has founds found
      pub input : IsLaneInput taken key_for number lane found.input
      pub judged : IsJudged found.input found.outcome

    found_for : (number : ℕ) (lane : CertLane) → slice_get certificate.lanes number ≡ Some lane → FoundOf number lane
    found_for number lane h =
        let within : number < length of.job = omega (arith, there_within certificate.lanes number lane h, of.is_job.lanes) in
        let one = of.concluded.lanes.each number within in
        let is = of.concluded.lanes.of one.0 one.1 in
        let at : slice_get of.job number ≡ Some one.0.input = ap (slice_get of.job) (sym one.2) ∙ is.input in
        record {
          found = one.0;
          has = one.1;
          input = subst (λ (o : Option CertLane). IsSomeAnd o (λ l. IsLaneInput taken key_for number l one.0.input)) h (of.is_job.each number one.0.input at);
          judged = is.outcome;
        }

    -- the lane of a finding
    record LaneFor (found : Found) : Type 0 where
      pub lane : CertLane
      pub there : slice_get certificate.lanes found.input.number ≡ Some lane
      pub input : IsLaneInput taken key_for found.input.number lane found.input
      pub judged : IsJudged found.input found.outcome

    lane_for : (found : Found) → Has founds found → LaneFor found
    lane_for found has =
        let is = of.concluded.lanes.of found has in
        let one = some_lane (λ lane. IsLaneInput taken key_for found.input.number lane found.input) (slice_get certificate.lanes found.input.number) (of.is_job.each found.input.number found.input is.input) in
        record { lane = one.0; there = one.1; input = one.2; judged = is.outcome }

    sound : Sound taken (entries certificate)
    sound = sound_of taken numbered certificate of.placed

    run_by : (number : ℕ) (lane : CertLane) (h : slice_get certificate.lanes number ≡ Some lane) (one : FoundOf number lane) → ((b : Breach) → one.found.outcome ≡ Breaks b → ⊥) → (j : Judgement) → one.found.outcome ≡ j →
        IsRun w (map step_of (placed_lane number lane)) × ((t : Tenancy) → Contains (tenancies_in w (placed_lane number lane)) t → Contains (tenancies_of founds) t)
    run_by number lane h one whole (Breaks b) is = absurd (whole b is)
    run_by number lane h one whole (Passes ts) is =
        let both = (passes_as sound number lane one.found.input h one.input ts).0 (subst (λ (j : Judgement). IsJudged one.found.input j) is one.judged) in (
          both.0,
          λ t c. in_founds founds one.has.place one.found t one.has.there (subst (λ (j : Judgement). Contains (of_judgement j) t) (sym is) (subst (λ (l : List Tenancy). Contains l t) (sym both.1) c)),
        )

    -- no lane is broken and no two tenancies clash: the parts pass
    pub parts_pass : ((b : Breach) → ((found : Found) → Has founds found → found.outcome ≡ Breaks b → ⊥)) → ((b : Breach) → ShowsClash (tenancies_of founds) b → ⊥) → PartsPass taken w certificate
    parts_pass whole apart =
        let each : (number : ℕ) (lane : CertLane) (h : slice_get certificate.lanes number ≡ Some lane) → IsRun w (map step_of (placed_lane number lane)) × ((t : Tenancy) → Contains (tenancies_in w (placed_lane number lane)) t → Contains (tenancies_of founds) t) =
        λ number lane h. (let one = found_for number lane h in run_by number lane h one (λ b is. whole b one.found one.has is) one.found.outcome refl) in
        let all : (t : Tenancy) → Contains (all_tenancies w (lanes_from 0 certificate.lanes)) t → Contains (tenancies_of founds) t =
        λ t c. (let o = lane_of w 0 certificate.lanes t c in let same : o.number ≡ o.place = omega (arith, o.is) in
        (each o.place o.lane o.there).1 t (subst (λ (n : ℕ). Contains (tenancies_in w (placed_lane n o.lane)) t) same o.has)) in
        record {
          placement = of.placed;
          lanes = all_lanes (λ l. IsRun w (map step_of l)) 0 certificate.lanes (λ i m lane h e. subst (λ (n : ℕ). IsRun w (map step_of (placed_lane n lane))) (let same : i ≡ m = omega (arith, e) in same) (each i lane h).0);
          tenancies = λ b s. apart b (s.0, s.1, all s.0 s.2, all s.1 s.3, s.4, s.5);
        }

    -- where the parts pass, a lane's outcome is that of its run
    outcome_is : PartsPass taken w certificate → (found : Found) (has : Has founds found) → found.outcome ≡ Passes (tenancies_in w (placed_lane found.input.number (lane_for found has).lane))
    outcome_is pass found has =
        let lane = lane_for found has in
        let number = found.input.number in
        let run = lane_in (λ l. IsRun w (map step_of l)) 0 number number certificate.lanes lane.lane lane.there (omega arith) pass.lanes in
        let passes = (passes_as sound number lane.lane found.input lane.there lane.input (tenancies_in w (placed_lane number lane.lane))).1 (run, refl) in
        one_judgement found.input found.outcome (Passes (tenancies_in w (placed_lane number lane.lane))) lane.judged passes

    pub none_broken : PartsPass taken w certificate → (found : Found) → Has founds found → (b : Breach) → found.outcome ≡ Breaks b → ⊥
    none_broken pass found has b is = not_broken (tenancies_in w (placed_lane found.input.number (lane_for found has).lane)) b (sym (outcome_is pass found has) ∙ is)

    among_all : PartsPass taken w certificate → (t : Tenancy) → Contains (tenancies_of founds) t → Contains (all_tenancies w (lanes_from 0 certificate.lanes)) t
    among_all pass t c =
        let o = found_of founds t c in
        let lane = lane_for o.found o.has in
        of_lanes w 0 o.found.input.number o.found.input.number certificate.lanes lane.lane t lane.there (omega arith)
        (subst (λ (j : Judgement). Contains (of_judgement j) t) (outcome_is pass o.found o.has) o.of)

    pub none_clash : PartsPass taken w certificate → (b : Breach) → ShowsClash (tenancies_of founds) b → ⊥
    none_clash pass b s = pass.tenancies b (s.0, s.1, among_all pass s.0 s.2, among_all pass s.1 s.3, s.4, s.5)

  -- ---- both ways

  to_conforms : (verdict : Verdict) → IsVerdict taken key_for certificate verdict → IsConforming verdict → Conforms taken w certificate
  to_conforms (NotShown breach) is conforming = absurd conforming
  to_conforms (Conforming datagrams lanes) (inl shown) conforming = absurd (let z : Conforming datagrams lanes ≡ NotShown shown.0 = shown.2 in cc)
  to_conforms (Conforming datagrams lanes) (inr of) conforming =
      let ends = of.concluded.concludes in
      conforms_of taken numbered key_for certificate
      (parts_pass (Conforming datagrams lanes) of (λ b found has is. ends.0 b (record { found = found; has = has; is = is })) ends.1)

  to_conforming : (verdict : Verdict) → IsVerdict taken key_for certificate verdict → Conforms taken w certificate → IsConforming verdict
  to_conforming (Conforming datagrams lanes) is conforms = tt
  to_conforming (NotShown breach) (inl shown) conforms = (passes_of taken numbered key_for certificate conforms).placement shown.0 shown.1.0
  to_conforming (NotShown breach) (inr of) conforms =
      let pass = passes_of taken numbered key_for certificate conforms in
      elim of.concluded.concludes [
        | inl broken ↦ none_broken (NotShown breach) of pass broken.0.found broken.0.has breach broken.0.is
        | inr clash ↦ none_clash (NotShown breach) of pass breach clash.1.0
      ]

  pub conforming : (verdict : Verdict) → IsVerdict taken key_for certificate verdict → IsConforming verdict ↔ Conforms taken w certificate
  conforming verdict is = (to_conforms verdict is, to_conforming verdict is)

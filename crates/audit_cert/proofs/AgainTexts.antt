-- A text that is spelled is read again.
use Rattle.std.proofs.Common.{◌≡◌, ℕ, ◌+◌, ◌<◌, ◌≤◌, Bool, true, false, eqb, ◌||◌, List, [], ◌∷◌, ◌++◌, length, Ok, codes, refl, sym, ap, subst, ◌∙◌, append_assoc, append-nil, arith}
use Rattle.std.specs.List.{flat_map, AllByRecursion, IsDistinct}
use Rattle.std.proofs.lemmas.Bool.{ne_eqb}
use Rattle.std.proofs.lemmas.List.{length-append}
use Rattle.std.proofs.lemmas.List.Concat.{flat_map-cons}
use Rattle.std.proofs.lemmas.List.Sums.{sum_by-cons, sum_by_push}
use Rattle.audit_model.specs.declared.event.Event.{Event}
use Rattle.audit_model.specs.declared.certificate.CertLane.{CertLane}
use Rattle.audit_model.specs.declared.certificate.CertDrop.{CertDrop}
use Rattle.audit_model.specs.declared.certificate.CertSkew.{CertSkew}
use Rattle.audit_model.specs.Skews.{rise}
use Rattle.audit_model.specs.EventCount.{event_count}
use Rattle.audit_cert.specs.DraftView.{Drafted, nothing_said}
use Rattle.audit_model.specs.Lanes.{same_lane, has_pair}
use Rattle.audit_cert.specs.CertLines.{with_event, said_count}
use Rattle.audit_cert.specs.CertText.{cert_of}
use Rattle.audit_cert.specs.Spelling.{event_line, lane_line, lane_lines, drop_line, skew_line, front, spelling}
use Rattle.audit_cert.specs.Fits.{EventFits, LaneFits, DropFits, SkewFits, IsCertificate}
use Rattle.audit_cert.proofs.Drafts.{longer, events_of, same_lane_symm}
use Rattle.audit_text.specs.Reading.{line_after}
use Rattle.audit_cert.specs.CertText.{begun, after}
use Rattle.audit_cert.proofs.Texts.{heading, second_heading, in_lines, in_skews, read_rest, read_skews, one_read}
use Rattle.audit_cert.proofs.AgainSkews.{skews_again, text_goes_on}
use Rattle.audit_cert.proofs.FoundTexts.{of_skews}
use Rattle.audit_cert.proofs.AgainLines.{lane_step, event_step, drop_step}

-- lines read from one on come to lines read from another on, where the rest is read
abbrev Comes : ℕ → Drafted → List ℕ → Drafted → List ℕ → Type 0
Comes n said text next rest = (m : ℕ) × (read_rest n said text ≡ read_rest m next rest)

-- one item's lines, and then those of the others
split : {X : Type 0} (line : X → List ℕ) (x : X) (more : List X) (rest : List ℕ) → flat_map line (x ∷ more) ++ rest ≡ line x ++ (flat_map line more ++ rest)
split line x more rest = ap (λ (l : List ℕ). l ++ rest) (flat_map-cons line x more) ∙ append_assoc (line x) (flat_map line more) rest

-- ---- a lane's events

module _ (skews : List CertSkew) where
  abbrev in_lane : List CertLane → CertLane → List Event → Drafted
  in_lane lanes lane events = record { lanes = lanes ++ record lane { events = events } ∷ []; drops = []; skews = skews }

  with_event_last : (event : Event) (lanes : List CertLane) (lane : CertLane) → with_event event (lanes ++ lane ∷ []) ≡ lanes ++ longer event lane ∷ []
  with_event_last event [] lane = refl
  with_event_last event (x ∷ []) lane = refl
  with_event_last event (x ∷ y ∷ more) lane = ap (λ (l : List CertLane). x ∷ l) (with_event_last event (y ∷ more) lane)

  counted : (lanes : List CertLane) (lane : CertLane) (events : List Event) → said_count (in_lane lanes lane events) ≡ event_count lanes + length events
  counted lanes lane events = omega (arith, sum_by_push events_of lanes (record lane { events = events }))

  events_again : (n : ℕ) (lanes : List CertLane) (lane : CertLane) (before todo : List Event) (rest : List ℕ) → AllByRecursion EventFits todo → event_count lanes + (length before + length todo) ≤ 50331648 →
      Comes n (in_lane lanes lane before) (flat_map event_line todo ++ rest) (in_lane lanes lane (before ++ todo)) rest
  events_again n lanes lane before [] rest fits few = (n, ap (λ (events : List Event). read_rest n (in_lane lanes lane events) rest) (sym (append-nil before)))
  events_again n lanes lane before (event ∷ more) rest fits few =
      let later : List ℕ = flat_map event_line more ++ rest in
      let said : Drafted = in_lane lanes lane before in
      let made : Drafted = record said { lanes = with_event event said.lanes } in
      let some : 0 < length said.lanes = omega (arith, length-append lanes (record lane { events = before } ∷ [])) in
      let room : said_count said < 50331648 = omega (arith, counted lanes lane before) in
      let next : made ≡ in_lane lanes lane (before ++ event ∷ []) = ap (λ (l : List CertLane). record said { lanes = l }) (with_event_last event lanes (record lane { events = before })) in
      let one : read_rest n said (flat_map event_line (event ∷ more) ++ rest) ≡ read_rest (line_after n) (in_lane lanes lane (before ++ event ∷ [])) later =
      ap (read_rest n said) (split event_line event more rest) ∙ event_step n said event later fits.0 some refl room ∙ ap (λ (d : Drafted). read_rest (line_after n) d later) next in
      let others = events_again (line_after n) lanes lane (before ++ event ∷ []) more rest fits.1 (omega (arith, length-append before (event ∷ []))) in
      subst (λ (events : List Event). Comes n said (flat_map event_line (event ∷ more) ++ rest) (in_lane lanes lane events) rest) (append_assoc before (event ∷ []) more)
      (others.0, one ∙ others.1)

  -- ---- lanes

  abbrev of_lanes : List CertLane → Drafted
  of_lanes lanes = record { lanes = lanes; drops = []; skews = skews }

  holds_at : (P : CertLane → Type 0) (lanes : List CertLane) (lane : CertLane) (more : List CertLane) → AllByRecursion P (lanes ++ lane ∷ more) → P lane
  holds_at P [] lane more all = all.0
  holds_at P (x ∷ lanes) lane more all = holds_at P lanes lane more all.1

  is_new : (lanes : List CertLane) (lane : CertLane) (more : List CertLane) → IsDistinct same_lane (lanes ++ lane ∷ more) → has_pair lane.client lane.listen lanes ≡ false
  unfolding IsDistinct
  is_new [] lane more distinct = refl
  is_new (x ∷ lanes) lane more distinct =
      let apart : same_lane lane x ≡ false = same_lane_symm lane x ∙ holds_at (λ other. same_lane x other ≡ false) lanes lane more distinct.0 in
      ap (λ (t : Bool). t || has_pair lane.client lane.listen lanes) apart ∙ is_new lanes lane more distinct.1

  lanes_again : (n : ℕ) (before todo : List CertLane) (rest : List ℕ) → AllByRecursion LaneFits todo → IsDistinct same_lane (before ++ todo) → length (before ++ todo) ≤ 65536 → event_count before + event_count todo ≤ 50331648 →
      Comes n (of_lanes before) (flat_map lane_lines todo ++ rest) (of_lanes (before ++ todo)) rest
  lanes_again n before [] rest fits distinct few room = (n, ap (λ (lanes : List CertLane). read_rest n (of_lanes lanes) rest) (sym (append-nil before)))
  lanes_again n before (lane ∷ more) rest fits distinct few room =
      let later : List ℕ = flat_map lane_lines more ++ rest in
      let whole : before ++ lane ∷ more ≡ (before ++ lane ∷ []) ++ more = sym (append_assoc before (lane ∷ []) more) in
      let count = sum_by-cons events_of lane more in
      let text : flat_map lane_lines (lane ∷ more) ++ rest ≡ lane_line lane ++ (flat_map event_line lane.events ++ later) =
      split lane_lines lane more rest ∙ append_assoc (lane_line lane) (flat_map event_line lane.events) later in
      let one : read_rest n (of_lanes before) (flat_map lane_lines (lane ∷ more) ++ rest) ≡ read_rest (line_after n) (in_lane before lane []) (flat_map event_line lane.events ++ later) =
      ap (read_rest n (of_lanes before)) text
      ∙ lane_step n (of_lanes before) lane (flat_map event_line lane.events ++ later) fits.0.client fits.0.listen refl (omega (arith, length-append before (lane ∷ more))) (is_new before lane more distinct) in
      let events = events_again (line_after n) before lane [] lane.events later fits.0.events (omega (arith, count)) in
      let others = lanes_again events.0 (before ++ lane ∷ []) more rest fits.1 (subst (IsDistinct same_lane) whole distinct) (omega (arith, ap length whole)) (omega (arith, count, sum_by_push events_of before lane)) in
      subst (λ (lanes : List CertLane). Comes n (of_lanes before) (flat_map lane_lines (lane ∷ more) ++ rest) (of_lanes lanes) rest) (sym whole)
      (others.0, one ∙ events.1 ∙ others.1)

  -- ---- drops

  drops_again : (n : ℕ) (lanes : List CertLane) (before todo : List CertDrop) (rest : List ℕ) → AllByRecursion DropFits todo → event_count lanes + (length before + length todo) ≤ 50331648 →
      Comes n (record { lanes = lanes; drops = before; skews = skews }) (flat_map drop_line todo ++ rest) (record { lanes = lanes; drops = before ++ todo; skews = skews }) rest
  drops_again n lanes before [] rest fits room = (n, ap (λ (drops : List CertDrop). read_rest n (record { lanes = lanes; drops = drops; skews = skews }) rest) (sym (append-nil before)))
  drops_again n lanes before (drop ∷ more) rest fits room =
      let later : List ℕ = flat_map drop_line more ++ rest in
      let said : Drafted = record { lanes = lanes; drops = before; skews = skews } in
      let one : read_rest n said (flat_map drop_line (drop ∷ more) ++ rest) ≡ read_rest (line_after n) (record { lanes = lanes; drops = before ++ drop ∷ []; skews = skews }) later =
      ap (read_rest n said) (split drop_line drop more rest) ∙ drop_step n said drop later fits.0 (omega arith) in
      let others = drops_again (line_after n) lanes (before ++ drop ∷ []) more rest fits.1 (omega (arith, length-append before (drop ∷ []))) in
      subst (λ (drops : List CertDrop). Comes n said (flat_map drop_line (drop ∷ more) ++ rest) (record { lanes = lanes; drops = drops; skews = skews }) rest) (append_assoc before (drop ∷ []) more)
      (others.0, one ∙ others.1)

-- ---- the whole

headed : (text : List ℕ) → cert_of (heading ++ 10 ∷ text) ≡ read_rest 2 nothing_said text
unfolding cert_of after
headed text = one_read 1 begun (in_lines nothing_said) heading text refl (omega arith) refl

second_headed : (text : List ℕ) → cert_of (second_heading ++ 10 ∷ text) ≡ read_skews 2 nothing_said text
unfolding cert_of after
second_headed text = one_read 1 begun (in_skews nothing_said) second_heading text refl (omega arith) refl

over : (n : ℕ) (said : Drafted) → read_rest n said (codes "end\n") ≡ Ok said
unfolding after
over n said = refl

some_length : {X : Type 0} (x : X) (xs : List X) → eqb (length (x ∷ xs)) 0 ≡ false
some_length x xs = ne_eqb (length (x ∷ xs)) 0 (λ e. absurd (omega (arith, e)))

front_again : (skews : List CertSkew) → AllByRecursion SkewFits skews → rise skews ≡ true → length skews ≤ 1024 → (lanes : List CertLane) (drops : List CertDrop) →
    let text : List ℕ = flat_map lane_lines lanes ++ (flat_map drop_line drops ++ codes "end\n") in
    (n : ℕ) × (cert_of (front skews ++ text) ≡ read_rest n (of_skews skews) text)
front_again [] fits rises few lanes drops = (2, headed (flat_map lane_lines lanes ++ (flat_map drop_line drops ++ codes "end\n")))
front_again (skew ∷ more) fits rises few lanes drops =
    let text : List ℕ = flat_map lane_lines lanes ++ (flat_map drop_line drops ++ codes "end\n") in
    let lines : List ℕ = flat_map skew_line (skew ∷ more) in
    let r = skews_again 2 [] (skew ∷ more) text fits rises few in
    (r.0, ap cert_of (append_assoc (codes "turnaudit-certificate 2\n") lines text) ∙ second_headed (lines ++ text) ∙ r.1 ∙ text_goes_on r.0 (of_skews (skew ∷ more)) (some_length skew more) lanes drops)

pub cert_again : (said : Drafted) → IsCertificate said → cert_of (spelling said) ≡ Ok said
cert_again said is =
    let tail : List ℕ = flat_map drop_line said.drops ++ codes "end\n" in
    let begins = front_again said.skews is.skews is.rising is.few_skews said.lanes said.drops in
    let lanes = lanes_again said.skews begins.0 [] said.lanes tail is.lanes is.distinct is.few_lanes (omega (arith, is.few_events)) in
    let drops = drops_again said.skews lanes.0 said.lanes [] said.drops (codes "end\n") is.drops (omega (arith, is.few_events)) in
    begins.1 ∙ lanes.1 ∙ drops.1 ∙ over drops.0 said

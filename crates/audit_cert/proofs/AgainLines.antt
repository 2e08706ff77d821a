-- A line that is spelled is read again.
use Rattle.std.proofs.Common.{◌≡◌, ℕ, ◌<◌, ◌≤◌, Bool, false, cond, eqb, ◌&&◌, List, [], ◌∷◌, ◌++◌, length, Result, Ok, Err, codes, refl, sym, ap, ◌∙◌, append_assoc, eq-eqb}
use Rattle.std.specs.Str.{bytes_eq}
use Rattle.std.proofs.lemmas.Bool.{lt-ltb, lt-leb}
use Rattle.audit_model.specs.declared.address.Addr.{Addr}
use Rattle.audit_model.specs.declared.sighting.SightId.{SightId}
use Rattle.audit_model.specs.declared.event.Key.{Key}
use Rattle.audit_model.specs.declared.event.Event.{Event}
use Rattle.audit_model.specs.declared.event.Event.TheVariants.{In, Act, Out}
use Rattle.audit_model.specs.declared.certificate.CertLane.{CertLane}
use Rattle.audit_model.specs.declared.certificate.CertDrop.{CertDrop}
use Rattle.audit_text.specs.Token.{◌>>=◌, halves_of, both_of}
use Rattle.audit_model.specs.Addr.{addr_of, addr_text}
use Rattle.audit_model.specs.Lanes.{has_pair}
use Rattle.audit_cert.specs.declared.fault.CertFaultKind.{CertFaultKind}
use Rattle.audit_cert.specs.declared.fault.CertFaultKind.TheVariants.{Line, LaneDouble, Limit}
use Rattle.audit_cert.specs.CertFault.{of_word}
use Rattle.audit_cert.specs.DraftView.{Drafted}
use Rattle.audit_cert.specs.EventLine.{sight_id_of, placed_of, act_of, event_of}
use Rattle.audit_cert.specs.CertLines.{with_event, said_count, after_lane, after_event, after_drop, after_line}
use Rattle.audit_cert.specs.Spelling.{sight_text, event_line, lane_line, drop_line}
use Rattle.audit_model.specs.Fits.{AddrFits}
use Rattle.audit_cert.specs.Fits.{SightFits, KeyFits, EventFits, DropFits}
use Rattle.audit_text.specs.Reading.{line_after}
use Rattle.audit_text.specs.declared.text_reader.TheConstants.{LONGEST_LINE}
use Rattle.audit_cert.proofs.Texts.{read_rest, line_read}
use Rattle.audit_cert.proofs.Short.{lane_word, lane_short, event_short, drop_short}
use Rattle.audit_cert.proofs.Words.{placed_word}
use Rattle.audit_cert.proofs.Found.{event_word, event_ended, empty_lane, in_made, act_made, out_made}
use Rattle.audit_cert.proofs.FoundTexts.{lane_kept, lane_read, event_kept, drop_kept, by_word}
use Rattle.audit_cert.proofs.Again.{Lacks, lacks_both, bind_again, both_again, halves_at, sight_again, sight_lacks, placed_again, placed_lacks, addr_again, addr_lacks}

-- ---- one line of a text

pub line_again : (n : ℕ) (said next : Drafted) (line rest : List ℕ) → Lacks 10 line → length line ≤ LONGEST_LINE → bytes_eq line (codes "end") ≡ false → after_line said line ≡ Ok next →
    read_rest n said (line ++ 10 ∷ rest) ≡ read_rest (line_after n) next rest
line_again n said next line rest lacks short other e = line_read n said next line rest lacks short other e

ended_text : (whole line rest : List ℕ) → whole ≡ line ++ 10 ∷ [] → whole ++ rest ≡ line ++ 10 ∷ rest
ended_text whole line rest e = ap (λ (l : List ℕ). l ++ rest) e ∙ append_assoc line (10 ∷ []) rest

-- what stands behind a line's first word
worded : (said : Drafted) (word words : List ℕ) (next : Result Drafted CertFaultKind) → Lacks 32 word → by_word said (word, words) ≡ next → after_line said (word ++ 32 ∷ words) ≡ next
unfolding after_line
worded said word words next lacks e = bind_again (of_word (halves_of 32 (word ++ 32 ∷ words))) (by_word said) (word, words) next (ap of_word (halves_at 32 word words lacks)) e

-- ---- lanes

lane_after : (said : Drafted) (client listen : Addr) → AddrFits client → AddrFits listen → length said.drops ≡ 0 → length said.lanes < 65536 → has_pair client listen said.lanes ≡ false →
    after_lane said (addr_text client ++ 32 ∷ addr_text listen) ≡ Ok (record said { lanes = said.lanes ++ empty_lane client listen ∷ [] })
unfolding after_lane
lane_after said client listen c l none few new =
    let words : List ℕ = addr_text client ++ 32 ∷ addr_text listen in
    let made : Result Drafted CertFaultKind = Ok (record said { lanes = said.lanes ++ empty_lane client listen ∷ [] }) in
    ap (λ (t : Bool). cond t (of_word (halves_of 32 words) >>= lane_read said) (Err Line)) (eq-eqb (length said.drops) 0 none)
    ∙ bind_again (of_word (halves_of 32 words)) (lane_read said) (addr_text client, addr_text listen) made (ap of_word (halves_at 32 (addr_text client) (addr_text listen) (addr_lacks 32 client refl refl refl c)))
    (bind_again (of_word (both_of (addr_of (addr_text client)) (addr_of (addr_text listen)))) (lane_kept said) (client, listen) made
    (ap of_word (both_again _ _ client listen (addr_again client c) (addr_again listen l)))
    (ap (λ (t : Bool). cond t (Err Limit) (cond (has_pair client listen said.lanes) (Err LaneDouble) made)) (lt-leb 65536 (length said.lanes) few) ∙ ap (λ (t : Bool). cond t (Err LaneDouble) made) new))

pub lane_step : (n : ℕ) (said : Drafted) (lane : CertLane) (rest : List ℕ) → AddrFits lane.client → AddrFits lane.listen → length said.drops ≡ 0 → length said.lanes < 65536 → has_pair lane.client lane.listen said.lanes ≡ false →
    read_rest n said (lane_line lane ++ rest) ≡ read_rest (line_after n) (record said { lanes = said.lanes ++ empty_lane lane.client lane.listen ∷ [] }) rest
lane_step n said lane rest c l none few new =
    let client : List ℕ = addr_text lane.client in
    let listen : List ℕ = addr_text lane.listen in
    let text : lane_line lane ≡ lane_word lane.client lane.listen ++ 10 ∷ [] = ap (λ (x : List ℕ). codes "lane " ++ x) (sym (append_assoc client (32 ∷ listen) (10 ∷ []))) in
    let lacks : Lacks 10 (lane_word lane.client lane.listen) = lacks_both 10 client (32 ∷ listen) (addr_lacks 10 lane.client refl refl refl c) (addr_lacks 10 lane.listen refl refl refl l) in
    ap (read_rest n said) (ended_text (lane_line lane) (lane_word lane.client lane.listen) rest text)
    ∙ line_again n said _ (lane_word lane.client lane.listen) rest lacks (lane_short lane.client lane.listen c l) refl (worded said (codes "lane") (client ++ 32 ∷ listen) _ refl (lane_after said lane.client lane.listen c l none few new))

-- ---- events

event_after : (said : Drafted) (word words : List ℕ) (event : Event) → event_of word words ≡ Ok event → 0 < length said.lanes → length said.drops ≡ 0 → said_count said < 50331648 →
    after_event said word words ≡ Ok (record said { lanes = with_event event said.lanes })
unfolding after_event
event_after said word words event e some none few =
    let read : Result Drafted CertFaultKind = of_word (event_of word words) >>= event_kept said in
    let made : Result Drafted CertFaultKind = Ok (record said { lanes = with_event event said.lanes }) in
    ap (λ (t : Bool). cond (t && eqb (length said.drops) 0) read (Err Line)) (lt-ltb 0 (length said.lanes) some)
    ∙ ap (λ (t : Bool). cond t read (Err Line)) (eq-eqb (length said.drops) 0 none)
    ∙ bind_again (of_word (event_of word words)) (event_kept said) event made (ap of_word e) (ap (λ (t : Bool). cond t (Err Limit) made) (lt-leb 50331648 (said_count said) few))

act_again : (sight gives : SightId) (key : Key) → SightFits sight → SightFits gives → KeyFits key → act_of (sight_text sight ++ 32 ∷ placed_word gives key) ≡ Ok (sight, (gives, key))
unfolding act_of
act_again sight gives key s g k =
    bind_again (halves_of 32 (sight_text sight ++ 32 ∷ placed_word gives key)) (λ h. both_of (sight_id_of h.0) (placed_of h.1)) (sight_text sight, placed_word gives key) (Ok (sight, (gives, key)))
    (halves_at 32 (sight_text sight) (placed_word gives key) (sight_lacks 32 sight refl refl s))
    (both_again _ _ sight (gives, key) (sight_again sight s) (placed_again gives key g k))

in_again : (sight : SightId) (key : Key) → SightFits sight → KeyFits key → event_of (codes "in") (placed_word sight key) ≡ Ok (In sight key)
unfolding event_of
in_again sight key s k = bind_again (placed_of (placed_word sight key)) in_made (sight, key) (Ok (In sight key)) (placed_again sight key s k) refl

act_event_again : (sight gives : SightId) (key : Key) → SightFits sight → SightFits gives → KeyFits key → event_of (codes "act") (sight_text sight ++ 32 ∷ placed_word gives key) ≡ Ok (Act sight gives key)
unfolding event_of
act_event_again sight gives key s g k = bind_again (act_of (sight_text sight ++ 32 ∷ placed_word gives key)) act_made (sight, (gives, key)) (Ok (Act sight gives key)) (act_again sight gives key s g k) refl

out_again : (sight : SightId) (key : Key) → SightFits sight → KeyFits key → event_of (codes "out") (placed_word sight key) ≡ Ok (Out sight key)
unfolding event_of
out_again sight key s k = bind_again (placed_of (placed_word sight key)) out_made (sight, key) (Ok (Out sight key)) (placed_again sight key s k) refl

event_lacks : (event : Event) → EventFits event → Lacks 10 (event_word event)
event_lacks (In sight key) fits = placed_lacks sight key fits.0 fits.1
event_lacks (Act sight gives key) fits = lacks_both 10 (sight_text sight) (32 ∷ placed_word gives key) (sight_lacks 10 sight refl refl fits.0) (placed_lacks gives key fits.1.0 fits.1.1)
event_lacks (Out sight key) fits = placed_lacks sight key fits.0 fits.1

not_end : (event : Event) → bytes_eq (event_word event) (codes "end") ≡ false
not_end (In sight key) = refl
not_end (Act sight gives key) = refl
not_end (Out sight key) = refl

event_line_after : (said : Drafted) (event : Event) → EventFits event → 0 < length said.lanes → length said.drops ≡ 0 → said_count said < 50331648 → after_line said (event_word event) ≡ Ok (record said { lanes = with_event event said.lanes })
event_line_after said (In sight key) fits some none few = worded said (codes "in") (placed_word sight key) _ refl (event_after said (codes "in") (placed_word sight key) (In sight key) (in_again sight key fits.0 fits.1) some none few)
event_line_after said (Act sight gives key) fits some none few = worded said (codes "act") (sight_text sight ++ 32 ∷ placed_word gives key) _ refl (event_after said (codes "act") (sight_text sight ++ 32 ∷ placed_word gives key) (Act sight gives key) (act_event_again sight gives key fits.0 fits.1.0 fits.1.1) some none few)
event_line_after said (Out sight key) fits some none few = worded said (codes "out") (placed_word sight key) _ refl (event_after said (codes "out") (placed_word sight key) (Out sight key) (out_again sight key fits.0 fits.1) some none few)

pub event_step : (n : ℕ) (said : Drafted) (event : Event) (rest : List ℕ) → EventFits event → 0 < length said.lanes → length said.drops ≡ 0 → said_count said < 50331648 →
    read_rest n said (event_line event ++ rest) ≡ read_rest (line_after n) (record said { lanes = with_event event said.lanes }) rest
event_step n said event rest fits some none few =
    ap (read_rest n said) (ended_text (event_line event) (event_word event) rest (event_ended event))
    ∙ line_again n said _ (event_word event) rest (event_lacks event fits) (event_short event fits) (not_end event) (event_line_after said event fits some none few)

-- ---- drops

drop_after : (said : Drafted) (drop : CertDrop) → DropFits drop → said_count said < 50331648 → after_drop said (placed_word drop.sight drop.key) ≡ Ok (record said { drops = said.drops ++ drop ∷ [] })
unfolding after_drop
drop_after said drop fits few =
    let made : Result Drafted CertFaultKind = Ok (record said { drops = said.drops ++ drop ∷ [] }) in
    bind_again (of_word (placed_of (placed_word drop.sight drop.key))) (drop_kept said) (drop.sight, drop.key) made (ap of_word (placed_again drop.sight drop.key fits.0 fits.1)) (ap (λ (t : Bool). cond t (Err Limit) made) (lt-leb 50331648 (said_count said) few))

pub drop_step : (n : ℕ) (said : Drafted) (drop : CertDrop) (rest : List ℕ) → DropFits drop → said_count said < 50331648 →
    read_rest n said (drop_line drop ++ rest) ≡ read_rest (line_after n) (record said { drops = said.drops ++ drop ∷ [] }) rest
drop_step n said drop rest fits few =
    let placed : List ℕ = placed_word drop.sight drop.key in
    let text : drop_line drop ≡ (codes "drop" ++ 32 ∷ placed) ++ 10 ∷ [] = ap (λ (x : List ℕ). codes "drop " ++ x) (sym (append_assoc (sight_text drop.sight) _ (10 ∷ []))) in
    ap (read_rest n said) (ended_text (drop_line drop) (codes "drop" ++ 32 ∷ placed) rest text)
    ∙ line_again n said _ (codes "drop" ++ 32 ∷ placed) rest (placed_lacks drop.sight drop.key fits.0 fits.1) (drop_short drop fits) refl (worded said (codes "drop") placed _ refl (drop_after said drop fits few))

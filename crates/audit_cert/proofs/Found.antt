-- A line that is read is the line that is spelled.
use Rattle.std.proofs.Common.{◌≡◌, ℕ, ◌<◌, true, false, cond, List, [], ◌∷◌, ◌++◌, length, Result, Ok, Err, codes, decimal, inl, inr, refl, sym, ap, subst, ◌∙◌, append_assoc, append-nil, arith}
use Rattle.std.specs.Str.{bytes_eq}
use Rattle.std.specs.List.{flat_map, IsDistinct}
use Rattle.std.specs.Cmp.Lexicographic.{same_text}
use Rattle.std.proofs.lemmas.List.Concat.{flat_map-cons}
use Rattle.std.proofs.lemmas.Grind.{flat_map-append}
use Rattle.audit_text.specs.declared.token.TokenFault.{TokenFault}
use Rattle.audit_text.specs.declared.token.TokenFault.TheVariants.{Shape}
use Rattle.audit_model.specs.declared.address.Addr.{Addr}
use Rattle.audit_model.specs.declared.sighting.SightId.{SightId}
use Rattle.audit_model.specs.declared.event.Key.{Key}
use Rattle.audit_model.specs.declared.event.Event.{Event}
use Rattle.audit_model.specs.declared.event.Event.TheVariants.{In, Act, Out}
use Rattle.audit_model.specs.declared.certificate.CertLane.{CertLane}
use Rattle.audit_model.specs.declared.certificate.CertDrop.{CertDrop}
use Rattle.audit_model.specs.declared.certificate.CertSkew.{CertSkew}
use Rattle.audit_text.specs.Token.{◌>>=◌, halves_of, both_of}
use Rattle.audit_model.specs.Addr.{addr_text}
use Rattle.audit_model.proofs.Apart.{apart_push}
use Rattle.audit_cert.specs.DraftView.{Drafted}
use Rattle.audit_cert.specs.EventLine.{sight_id_of, placed_of, act_of, event_of}
use Rattle.audit_model.specs.Lanes.{same_lane, has_pair}
use Rattle.audit_cert.specs.CertLines.{with_event}
use Rattle.audit_cert.specs.Spelling.{sight_text, event_line, lane_line, lane_lines, drop_line, skew_line}
use Rattle.audit_cert.proofs.Steps.{bind_ok, both_ok, guard_true, chosen, ok_is}
use Rattle.audit_cert.proofs.Words.{joins, sight_found, placed_word, placed_found, skew_word}
use Rattle.audit_cert.proofs.Drafts.{apart_with_event}

-- ---- events, without the line's end

abbrev pub event_word : Event → List ℕ
event_word (In sight key) = codes "in " ++ placed_word sight key
event_word (Act sight gives key) = codes "act " ++ (sight_text sight ++ 32 ∷ placed_word gives key)
event_word (Out sight key) = codes "out " ++ placed_word sight key

pub event_ended : (event : Event) → event_line event ≡ event_word event ++ 10 ∷ []
event_ended (In sight key) = ap (λ (l : List ℕ). codes "in " ++ l) (sym (append_assoc (sight_text sight) _ (10 ∷ [])))
event_ended (Act sight gives key) = simp append_assoc
event_ended (Out sight key) = ap (λ (l : List ℕ). codes "out " ++ l) (sym (append_assoc (sight_text sight) _ (10 ∷ [])))

act_found : (words : List ℕ) (p : SightId × (SightId × Key)) → act_of words ≡ Ok p → words ≡ sight_text p.0 ++ 32 ∷ placed_word p.1.0 p.1.1
unfolding act_of
act_found words p e =
    let a = bind_ok (halves_of 32 words) (λ h. both_of (sight_id_of h.0) (placed_of h.1)) p e in
    let both = both_ok (sight_id_of a.0.0) (placed_of a.0.1) p a.2 in
    joins 32 words a.0 (sight_text p.0) (placed_word p.1.0 p.1.1) a.1 (sight_found a.0.0 p.0 both.0) (placed_found a.0.1 p.1 both.1)

abbrev pub in_made : SightId × Key → Result Event TokenFault
in_made p = Ok (In p.0 p.1)

abbrev pub act_made : SightId × (SightId × Key) → Result Event TokenFault
act_made p = Ok (Act p.0 p.1.0 p.1.1)

abbrev pub out_made : SightId × Key → Result Event TokenFault
out_made p = Ok (Out p.0 p.1)

abbrev act_or_out : List ℕ → List ℕ → Result Event TokenFault
act_or_out word words = cond (bytes_eq word (codes "act")) (act_of words >>= act_made) (cond (bytes_eq word (codes "out")) (placed_of words >>= out_made) (Err Shape))

-- a line that begins with this word
pub begins : (line word words first rest : List ℕ) → line ≡ word ++ 32 ∷ words → bytes_eq word first ≡ true → words ≡ rest → line ≡ first ++ 32 ∷ rest
begins line word words first rest e same is = e ∙ ap (λ (l : List ℕ). l ++ 32 ∷ words) (same_text word first (sym same)) ∙ ap (λ (l : List ℕ). first ++ 32 ∷ l) is

pub event_found : (line word words : List ℕ) (event : Event) → line ≡ word ++ 32 ∷ words → event_of word words ≡ Ok event → line ≡ event_word event
unfolding event_of
event_found line word words event parts e =
    elim (chosen (bytes_eq word (codes "in")) (placed_of words >>= in_made) (act_or_out word words) (Ok event) e) [
      | inl is ↦
          let a = bind_ok (placed_of words) in_made event is.1 in
          subst (λ (x : Event). line ≡ event_word x) (ok_is (In a.0.0 a.0.1) event a.2) (begins line word words (codes "in") _ parts is.0 (placed_found words a.0 a.1))
      | inr not_in ↦
          elim (chosen (bytes_eq word (codes "act")) (act_of words >>= act_made) (cond (bytes_eq word (codes "out")) (placed_of words >>= out_made) (Err Shape)) (Ok event) not_in.1) [
            | inl is ↦
                let a = bind_ok (act_of words) act_made event is.1 in
                subst (λ (x : Event). line ≡ event_word x) (ok_is (Act a.0.0 a.0.1.0 a.0.1.1) event a.2) (begins line word words (codes "act") _ parts is.0 (act_found words a.0 a.1))
            | inr not_act ↦
                let g = guard_true (bytes_eq word (codes "out")) Shape (placed_of words >>= out_made) event not_act.1 in
                let a = bind_ok (placed_of words) out_made event g.1 in
                subst (λ (x : Event). line ≡ event_word x) (ok_is (Out a.0.0 a.0.1) event a.2) (begins line word words (codes "out") _ parts g.0 (placed_found words a.0 a.1))
          ]
    ]

-- ---- what is said, as its lines

abbrev pub body : Drafted → List ℕ
body said = flat_map lane_lines said.lanes ++ flat_map drop_line said.drops

-- one line more
pub record Adds (said : Drafted) (line : List ℕ) (next : Drafted) : Type 0 where
  pub lines : body next ≡ body said ++ (line ++ 10 ∷ [])
  pub apart : IsDistinct same_lane said.lanes → IsDistinct same_lane next.lanes
  pub skews : next.skews ≡ said.skews

pub single : {X : Type 0} (f : X → List ℕ) (xs : List X) (x : X) → flat_map f (xs ++ x ∷ []) ≡ flat_map f xs ++ f x
single f xs x = flat_map-append f xs (x ∷ []) ∙ ap (λ (l : List ℕ). flat_map f xs ++ l) (append-nil (f x))

pub skew_ended : (skew : CertSkew) → skew_line skew ≡ (codes "skew" ++ 32 ∷ skew_word skew) ++ 10 ∷ []
skew_ended skew = ap (λ (l : List ℕ). codes "skew " ++ l) (sym (append_assoc (decimal skew.iface) (32 ∷ decimal skew.microseconds) (10 ∷ [])))

abbrev pub empty_lane : Addr → Addr → CertLane
empty_lane client listen = record { events = []; client = client; listen = listen }

lane_ended : (client listen : Addr) → lane_lines (empty_lane client listen) ≡ (codes "lane" ++ 32 ∷ (addr_text client ++ 32 ∷ addr_text listen)) ++ 10 ∷ []
lane_ended client listen = ap (λ (l : List ℕ). codes "lane " ++ l) (append-nil (addr_text client ++ 32 ∷ (addr_text listen ++ 10 ∷ [])) ∙ sym (append_assoc (addr_text client) (32 ∷ addr_text listen) (10 ∷ [])))

pub adds_lane : (said : Drafted) (client listen : Addr) → said.drops ≡ [] → has_pair client listen said.lanes ≡ false →
    Adds said (codes "lane" ++ 32 ∷ (addr_text client ++ 32 ∷ addr_text listen)) (record said { lanes = said.lanes ++ empty_lane client listen ∷ [] })
adds_lane said client listen none new =
    let lanes : List ℕ = flat_map lane_lines said.lanes in
    let drops : flat_map drop_line said.drops ≡ [] = ap (flat_map drop_line) none in
    record {
      lines = ap (λ (l : List ℕ). l ++ flat_map drop_line said.drops) (single lane_lines said.lanes (empty_lane client listen))
          ∙ ap (λ (l : List ℕ). (lanes ++ lane_lines (empty_lane client listen)) ++ l) drops ∙ append-nil _
          ∙ ap (λ (l : List ℕ). lanes ++ l) (lane_ended client listen)
          ∙ ap (λ (l : List ℕ). l ++ ((codes "lane" ++ 32 ∷ (addr_text client ++ 32 ∷ addr_text listen)) ++ 10 ∷ [])) (sym (append-nil lanes) ∙ ap (λ (l : List ℕ). lanes ++ l) (sym drops));
      apart = λ apart. apart_push said.lanes (empty_lane client listen) apart new;
      skews = refl;
    }

lines_with_event : (event : Event) (lanes : List CertLane) → 0 < length lanes → flat_map lane_lines (with_event event lanes) ≡ flat_map lane_lines lanes ++ event_line event
lines_with_event event [] some = absurd (omega arith)
lines_with_event event (x ∷ []) some =
    ap (λ (l : List ℕ). (lane_line x ++ l) ++ []) (single event_line x.events event) ∙ append-nil _ ∙ sym (append_assoc (lane_line x) (flat_map event_line x.events) (event_line event))
    ∙ ap (λ (l : List ℕ). l ++ event_line event) (sym (append-nil (lane_lines x)))
lines_with_event event (x ∷ y ∷ more) some =
    flat_map-cons lane_lines x (with_event event (y ∷ more)) ∙ ap (λ (l : List ℕ). lane_lines x ++ l) (lines_with_event event (y ∷ more) (omega arith))
    ∙ sym (append_assoc (lane_lines x) (flat_map lane_lines (y ∷ more)) (event_line event)) ∙ ap (λ (l : List ℕ). l ++ event_line event) (sym (flat_map-cons lane_lines x (y ∷ more)))

pub adds_event : (said : Drafted) (event : Event) → 0 < length said.lanes → said.drops ≡ [] → Adds said (event_word event) (record said { lanes = with_event event said.lanes })
adds_event said event some none =
    let lanes : List ℕ = flat_map lane_lines said.lanes in
    let drops : flat_map drop_line said.drops ≡ [] = ap (flat_map drop_line) none in
    record {
      lines = ap (λ (l : List ℕ). l ++ flat_map drop_line said.drops) (lines_with_event event said.lanes some)
          ∙ ap (λ (l : List ℕ). (lanes ++ event_line event) ++ l) drops ∙ append-nil _
          ∙ ap (λ (l : List ℕ). lanes ++ l) (event_ended event)
          ∙ ap (λ (l : List ℕ). l ++ (event_word event ++ 10 ∷ [])) (sym (append-nil lanes) ∙ ap (λ (l : List ℕ). lanes ++ l) (sym drops));
      apart = apart_with_event event said.lanes;
      skews = refl;
    }

pub adds_drop : (said : Drafted) (drop : CertDrop) → Adds said (codes "drop" ++ 32 ∷ placed_word drop.sight drop.key) (record said { drops = said.drops ++ drop ∷ [] })
adds_drop said drop = record {
  lines = ap (λ (l : List ℕ). flat_map lane_lines said.lanes ++ l) (single drop_line said.drops drop)
      ∙ sym (append_assoc (flat_map lane_lines said.lanes) (flat_map drop_line said.drops) (drop_line drop))
      ∙ ap (λ (l : List ℕ). body said ++ (codes "drop " ++ l)) (sym (append_assoc (sight_text drop.sight) _ (10 ∷ [])));
  apart = λ apart. apart;
  skews = refl;
}

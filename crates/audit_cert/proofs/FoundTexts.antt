-- A text that is read is the text that is spelled.
use Rattle.std.proofs.Common.{◌≡◌, ℕ, Bool, true, false, cond, eqb, leb, ltb, ◌&&◌, List, [], ◌∷◌, ◌++◌, length, Result, Ok, Err, codes, inl, inr, refl, sym, ap, subst, ◌∙◌, append_assoc}
use Rattle.std.specs.Str.{bytes_eq}
use Rattle.std.specs.List.{flat_map, IsDistinct}
use Rattle.std.specs.Cmp.Lexicographic.{same_text}
use Rattle.std.proofs.lemmas.Bool.{eqb-true, ltb-true}
use Rattle.std.proofs.lemmas.List.{nil_from_length}
use Rattle.audit_model.specs.declared.address.Addr.{Addr}
use Rattle.audit_model.specs.declared.event.Event.{Event}
use Rattle.audit_model.specs.declared.sighting.SightId.{SightId}
use Rattle.audit_model.specs.declared.event.Key.{Key}
use Rattle.audit_model.specs.declared.certificate.CertSkew.{CertSkew}
use Rattle.audit_text.specs.Token.{◌>>=◌, halves_of, both_of}
use Rattle.audit_text.specs.Lines.{Pieces, pieces}
use Rattle.audit_model.specs.Addr.{addr_of, addr_text}
use Rattle.audit_text.specs.declared.line_fault.LineFault.{LineFault}
use Rattle.audit_text.specs.Reading.{line_after, at_line, taken_in, end_of, within, end_within}
use Rattle.audit_text.specs.declared.text_reader.TheConstants.{LONGEST_LINE}
use Rattle.audit_cert.specs.declared.lines.Stage.TheVariants as stage
use Rattle.audit_cert.specs.declared.fault.CertFaultKind.{CertFaultKind}
use Rattle.audit_cert.specs.declared.fault.CertFaultKind.TheVariants.{Heading, Line, LaneDouble, SkewOrder, Limit}
use Rattle.audit_cert.specs.CertFault.{of_word}
use Rattle.audit_cert.specs.DraftView.{Drafted, Progress, nothing_said}
use Rattle.audit_cert.specs.EventLine.{placed_of, cert_skew_of, event_of}
use Rattle.audit_model.specs.Lanes.{same_lane, has_pair}
use Rattle.audit_cert.specs.CertLines.{with_event, said_count, is_after_skews, after_lane, after_event, after_drop, after_skew, after_line}
use Rattle.audit_cert.specs.CertText.{begun, after, after_other, after_skews, among_skews, unended, overlong, lacks, said_in, cert_of}
use Rattle.audit_cert.specs.Spelling.{lane_lines, drop_line, skew_line, front, spelling}
use Rattle.audit_cert.proofs.Steps.{bind_ok, both_ok, word_ok, guard_false, guard_true, chosen, ok_is}
use Rattle.audit_cert.proofs.Words.{halves_found, joins, placed_word, placed_found, skew_word, cert_skew_found, addr_found}
use Rattle.audit_cert.proofs.Found.{event_word, event_found, begins, body, Adds, empty_lane, adds_lane, adds_event, adds_drop, single, skew_ended}
use Rattle.audit_cert.proofs.Drafts.{none_apart}
use Rattle.audit_cert.proofs.Texts.{in_lines, in_skews, read_from}

abbrev pub Said : Type 0
Said = Result Drafted CertFaultKind

-- ---- one line

abbrev pub lane_kept : Drafted → Addr × Addr → Said
lane_kept said p = cond (leb 65536 (length said.lanes)) (Err Limit) (cond (has_pair p.0 p.1 said.lanes) (Err LaneDouble) (Ok (record said { lanes = said.lanes ++ empty_lane p.0 p.1 ∷ [] })))

abbrev pub lane_read : Drafted → List ℕ × List ℕ → Said
lane_read said h = of_word (both_of (addr_of h.0) (addr_of h.1)) >>= lane_kept said

lane_found : (said next : Drafted) (line word words : List ℕ) → line ≡ word ++ 32 ∷ words → bytes_eq word (codes "lane") ≡ true → after_lane said words ≡ Ok next → Adds said line next
unfolding after_lane
lane_found said next line word words parts same e =
    let none = guard_true (eqb (length said.drops) 0) Line (of_word (halves_of 32 words) >>= lane_read said) next e in
    let h = bind_ok (of_word (halves_of 32 words)) (lane_read said) next none.1 in
    let p = bind_ok (of_word (both_of (addr_of h.0.0) (addr_of h.0.1))) (lane_kept said) next h.2 in
    let both = both_ok (addr_of h.0.0) (addr_of h.0.1) p.0 (word_ok _ p.0 p.1) in
    let made : Drafted = record said { lanes = said.lanes ++ empty_lane p.0.0 p.0.1 ∷ [] } in
    let room = guard_false (leb 65536 (length said.lanes)) Limit (cond (has_pair p.0.0 p.0.1 said.lanes) (Err LaneDouble) (Ok made)) next p.2 in
    let new = guard_false (has_pair p.0.0 p.0.1 said.lanes) LaneDouble (Ok made) next room.1 in
    let text = begins line word words (codes "lane") _ parts same (joins 32 words h.0 (addr_text p.0.0) (addr_text p.0.1) (word_ok _ h.0 h.1) (addr_found h.0.0 p.0.0 both.0) (addr_found h.0.1 p.0.1 both.1)) in
    let drops : said.drops ≡ [] = nil_from_length said.drops (eqb-true _ _ none.0) in
    subst (λ (l : List ℕ). Adds said l next) (sym text) (subst (λ (d : Drafted). Adds said (codes "lane" ++ 32 ∷ (addr_text p.0.0 ++ 32 ∷ addr_text p.0.1)) d) (ok_is made next new.1) (adds_lane said p.0.0 p.0.1 drops new.0))

abbrev pub event_kept : Drafted → Event → Said
event_kept said event = cond (leb 50331648 (said_count said)) (Err Limit) (Ok (record said { lanes = with_event event said.lanes }))

both_true : (s t : Bool) → (s && t) ≡ true → (s ≡ true) × (t ≡ true)
both_true true t e = (refl, e)
both_true false t e = absurd cc

event_line_found : (said next : Drafted) (line word words : List ℕ) → line ≡ word ++ 32 ∷ words → after_event said word words ≡ Ok next → Adds said line next
unfolding after_event
event_line_found said next line word words parts e =
    let may = guard_true (ltb 0 (length said.lanes) && eqb (length said.drops) 0) Line (of_word (event_of word words) >>= event_kept said) next e in
    let tests = both_true (ltb 0 (length said.lanes)) (eqb (length said.drops) 0) may.0 in
    let p = bind_ok (of_word (event_of word words)) (event_kept said) next may.1 in
    let made : Drafted = record said { lanes = with_event p.0 said.lanes } in
    let room = guard_false (leb 50331648 (said_count said)) Limit (Ok made) next p.2 in
    let text = event_found line word words p.0 parts (word_ok _ p.0 p.1) in
    let drops : said.drops ≡ [] = nil_from_length said.drops (eqb-true _ _ tests.1) in
    subst (λ (l : List ℕ). Adds said l next) (sym text) (subst (λ (d : Drafted). Adds said (event_word p.0) d) (ok_is made next room.1) (adds_event said p.0 (ltb-true _ _ tests.0) drops))

abbrev pub drop_kept : Drafted → SightId × Key → Said
drop_kept said p = cond (leb 50331648 (said_count said)) (Err Limit) (Ok (record said { drops = said.drops ++ record { sight = p.0; key = p.1 } ∷ [] }))

drop_found : (said next : Drafted) (line word words : List ℕ) → line ≡ word ++ 32 ∷ words → bytes_eq word (codes "drop") ≡ true → after_drop said words ≡ Ok next → Adds said line next
unfolding after_drop
drop_found said next line word words parts same e =
    let p = bind_ok (of_word (placed_of words)) (drop_kept said) next e in
    let made : Drafted = record said { drops = said.drops ++ record { sight = p.0.0; key = p.0.1 } ∷ [] } in
    let room = guard_false (leb 50331648 (said_count said)) Limit (Ok made) next p.2 in
    let text = begins line word words (codes "drop") _ parts same (placed_found words p.0 (word_ok _ p.0 p.1)) in
    subst (λ (l : List ℕ). Adds said l next) (sym text) (subst (λ (d : Drafted). Adds said (codes "drop" ++ 32 ∷ placed_word p.0.0 p.0.1) d) (ok_is made next room.1) (adds_drop said (record { sight = p.0.0; key = p.0.1 })))

abbrev pub by_word : Drafted → List ℕ × List ℕ → Said
by_word said h = cond (bytes_eq h.0 (codes "lane")) (after_lane said h.1) (cond (bytes_eq h.0 (codes "drop")) (after_drop said h.1) (after_event said h.0 h.1))

pub line_found : (said next : Drafted) (line : List ℕ) → after_line said line ≡ Ok next → Adds said line next
unfolding after_line
line_found said next line e =
    let h = bind_ok (of_word (halves_of 32 line)) (by_word said) next e in
    let parts = halves_found 32 line h.0 (word_ok _ h.0 h.1) in
    elim (chosen (bytes_eq h.0.0 (codes "lane")) (after_lane said h.0.1) (cond (bytes_eq h.0.0 (codes "drop")) (after_drop said h.0.1) (after_event said h.0.0 h.0.1)) (Ok next) h.2) [
      | inl is ↦ lane_found said next line h.0.0 h.0.1 parts is.0 is.1
      | inr not_lane ↦
          elim (chosen (bytes_eq h.0.0 (codes "drop")) (after_drop said h.0.1) (after_event said h.0.0 h.0.1) (Ok next) not_lane.1) [
            | inl is ↦ drop_found said next line h.0.0 h.0.1 parts is.0 is.1
            | inr not_drop ↦ event_line_found said next line h.0.0 h.0.1 parts not_drop.1
          ]
    ]

-- ---- lines

-- a text of these pieces
abbrev pub joined : List ℕ → List (List ℕ) → List ℕ
joined piece [] = piece
joined piece (next ∷ more) = piece ++ 10 ∷ joined next more

first_more : (b : ℕ) (first : List ℕ) (more : List (List ℕ)) → joined (b ∷ first) more ≡ b ∷ joined first more
first_more b first [] = refl
first_more b first (next ∷ more) = refl

rejoined : (b : ℕ) (bs : List ℕ) (q : Pieces) (t : Bool) → eqb b 10 ≡ t → joined q.first q.more ≡ bs →
    (λ (p : Pieces). joined p.first p.more) (cond t (record { first = []; more = q.first ∷ q.more }) (record { first = b ∷ q.first; more = q.more })) ≡ b ∷ bs
rejoined b bs q true e h = ap (λ (l : List ℕ). 10 ∷ l) h ∙ ap (λ (x : ℕ). x ∷ bs) (sym (eqb-true b 10 e))
rejoined b bs q false e h = first_more b q.first q.more ∙ ap (λ (l : List ℕ). b ∷ l) h

pub joined_pieces : (text : List ℕ) → joined (pieces text).first (pieces text).more ≡ text
joined_pieces [] = refl
joined_pieces (b ∷ bs) = rejoined b bs (pieces bs) (eqb b 10) refl (joined_pieces bs)

-- the lines still to come are those of what they add, and `end`
pub record Reads (said : Drafted) (text : List ℕ) (all : Drafted) : Type 0 where
  pub lines : body said ++ text ≡ body all ++ codes "end\n"
  pub apart : IsDistinct same_lane said.lanes → IsDistinct same_lane all.lanes
  pub skews : all.skews ≡ said.skews

abbrev Whole : Type 0
Whole = Result Drafted (LineFault CertFaultKind)

abbrev from_pieces : ℕ → Progress → List ℕ → List (List ℕ) → Whole
from_pieces line progress piece more = read_from line progress (record { first = piece; more = more })

abbrev ended_with : Drafted → Progress
ended_with said = record { stage = stage.Ended; said = said }

-- the reading of a line, followed by that of the lines after it
abbrev then_rest : ℕ → Result Progress CertFaultKind → List ℕ → List (List ℕ) → Whole
then_rest line taken next more = said_in (end_of (end_within overlong unended) lacks (at_line line taken (λ progress. taken_in (within overlong after) (line_after line) progress next more)))

-- a line that is taken in is not too long
is_short : (line : ℕ) (progress : Progress) (all : Drafted) (piece next : List ℕ) (more : List (List ℕ)) → from_pieces line progress piece (next ∷ more) ≡ Ok all →
    (ltb LONGEST_LINE (length piece) ≡ false) × (then_rest line (after progress piece) next more ≡ Ok all)
is_short line progress all piece next more e =
    elim (ltb LONGEST_LINE (length piece)) as (λ t. ltb LONGEST_LINE (length piece) ≡ t → then_rest line (cond t (Err (overlong progress)) (after progress piece)) next more ≡ Ok all →
    (ltb LONGEST_LINE (length piece) ≡ false) × (then_rest line (after progress piece) next more ≡ Ok all)) [
      | true ↦ λ is k. absurd cc
      | false ↦ λ is k. (is, k)
    ] refl e

-- `end` is the last line
end_found : (line : ℕ) (said all : Drafted) (piece next : List ℕ) (more : List (List ℕ)) → bytes_eq piece (codes "end") ≡ true → from_pieces line (ended_with said) next more ≡ Ok all →
    Reads said (joined piece (next ∷ more)) all
unfolding after
end_found line said all piece [] [] same e =
    subst (λ (d : Drafted). Reads said (piece ++ 10 ∷ []) d) (ok_is said all e) (record {
      lines = ap (λ (l : List ℕ). body said ++ (l ++ 10 ∷ [])) (same_text piece (codes "end") (sym same));
      apart = λ apart. apart;
      skews = refl;
    })
end_found line said all piece (b ∷ bs) [] same e = absurd cc
end_found line said all piece next (x ∷ more) same e = absurd (let k = (is_short line (ended_with said) all next x more e).1 in cc)

next_said : (line : ℕ) (taken : Said) (next : List ℕ) (more : List (List ℕ)) (all : Drafted) → then_rest line (taken >>= (λ s. Ok (in_lines s))) next more ≡ Ok all →
    (x : Drafted) × (taken ≡ Ok x) × (from_pieces (line_after line) (in_lines x) next more ≡ Ok all)
next_said line (Ok x) next more all e = (x, refl, e)
next_said line (Err kind) next more all e = absurd cc

pub lines_found : (line : ℕ) (said all : Drafted) (piece : List ℕ) (more : List (List ℕ)) → from_pieces line (in_lines said) piece more ≡ Ok all → Reads said (joined piece more) all
unfolding after
lines_found line said all [] [] e = absurd cc
lines_found line said all (b ∷ bs) [] e = absurd cc
lines_found line said all piece (next ∷ more) e =
    elim (bytes_eq piece (codes "end")) as (λ t. bytes_eq piece (codes "end") ≡ t →
    then_rest line (cond t (Ok (ended_with said)) (after_line said piece >>= (λ s. Ok (in_lines s)))) next more ≡ Ok all → Reads said (joined piece (next ∷ more)) all) [
      | true ↦ λ is k. end_found (line_after line) said all piece next more is k
      | false ↦ λ is k.
          let x = next_said line (after_line said piece) next more all k in
          let adds = line_found said x.0 piece x.1 in
          let rest = lines_found (line_after line) x.0 all next more x.2 in
          record {
            lines = ap (λ (l : List ℕ). body said ++ l) (sym (append_assoc piece (10 ∷ []) (joined next more)))
                ∙ sym (append_assoc (body said) (piece ++ 10 ∷ []) (joined next more))
                ∙ ap (λ (l : List ℕ). l ++ joined next more) (sym adds.lines) ∙ rest.lines;
            apart = λ apart. rest.apart (adds.apart apart);
            skews = rest.skews ∙ adds.skews;
          }
    ] refl (is_short line (in_lines said) all piece next more e).1

-- ---- skews

abbrev pub of_skews : List CertSkew → Drafted
of_skews skews = record { lanes = []; drops = []; skews = skews }

abbrev pub skew_kept : Drafted → CertSkew → Said
skew_kept said skew = cond (is_after_skews said.skews skew.iface) (cond (leb 1024 (length said.skews)) (Err Limit) (Ok (record said { skews = said.skews ++ skew ∷ [] }))) (Err SkewOrder)

skew_found : (skews : List CertSkew) (next : Drafted) (words : List ℕ) → after_skew (of_skews skews) words ≡ Ok next → (skew : CertSkew) × (words ≡ skew_word skew) × (of_skews (skews ++ skew ∷ []) ≡ next)
unfolding after_skew
skew_found skews next words e =
    let p = bind_ok (of_word (cert_skew_of words)) (skew_kept (of_skews skews)) next e in
    let made : Drafted = of_skews (skews ++ p.0 ∷ []) in
    let order = guard_true (is_after_skews skews p.0.iface) SkewOrder (cond (leb 1024 (length skews)) (Err Limit) (Ok made)) next p.2 in
    let room = guard_false (leb 1024 (length skews)) Limit (Ok made) next order.1 in
    (p.0, cert_skew_found words p.0 (word_ok _ p.0 p.1), ok_is made next room.1)

-- the lines still to come are those of the skews and of what they add, and `end`
pub record ReadsSkews (skews : List CertSkew) (text : List ℕ) (all : Drafted) : Type 0 where
  pub lines : flat_map skew_line skews ++ text ≡ flat_map skew_line all.skews ++ (body all ++ codes "end\n")
  pub some : eqb (length all.skews) 0 ≡ false
  pub apart : IsDistinct same_lane all.lanes

-- the first line that is no skew
behind_found : (line : ℕ) (skews : List CertSkew) (all : Drafted) (piece next : List ℕ) (more : List (List ℕ)) → ltb LONGEST_LINE (length piece) ≡ false → then_rest line (after_skews (of_skews skews) piece) next more ≡ Ok all →
    ReadsSkews skews (joined piece (next ∷ more)) all
unfolding after
behind_found line skews all piece next more short e =
    elim (eqb (length skews) 0) as (λ t. eqb (length skews) 0 ≡ t → then_rest line (cond t (Err Line) (after_other (of_skews skews) piece)) next more ≡ Ok all → ReadsSkews skews (joined piece (next ∷ more)) all) [
      | true ↦ λ is k. absurd cc
      | false ↦ λ is k.
          let again : ltb LONGEST_LINE (length piece) ≡ false → from_pieces line (in_lines (of_skews skews)) piece (next ∷ more) ≡ Ok all =
          λ few. ap (λ (t : Bool). then_rest line (cond t (Err Line) (after_other (of_skews skews) piece)) next more) few ∙ k in
          let r = lines_found line (of_skews skews) all piece (next ∷ more) (again short) in
          record {
            lines = ap (λ (l : List ℕ). flat_map skew_line skews ++ l) r.lines ∙ ap (λ (ss : List CertSkew). flat_map skew_line ss ++ (body all ++ codes "end\n")) (sym r.skews);
            some = ap (λ (ss : List CertSkew). eqb (length ss) 0) r.skews ∙ is;
            apart = r.apart (none_apart [] refl);
          }
    ] refl e

next_skew : (line : ℕ) (taken : Said) (next : List ℕ) (more : List (List ℕ)) (all : Drafted) → then_rest line (taken >>= (λ s. Ok (in_skews s))) next more ≡ Ok all →
    (x : Drafted) × (taken ≡ Ok x) × (from_pieces (line_after line) (in_skews x) next more ≡ Ok all)
next_skew line (Ok x) next more all e = (x, refl, e)
next_skew line (Err kind) next more all e = absurd cc

one_skew : (skew : CertSkew) (skews : List CertSkew) (piece rest : List ℕ) → piece ≡ codes "skew" ++ 32 ∷ skew_word skew →
    flat_map skew_line skews ++ (piece ++ 10 ∷ rest) ≡ flat_map skew_line (skews ++ skew ∷ []) ++ rest
one_skew skew skews piece rest is =
    ap (λ (l : List ℕ). flat_map skew_line skews ++ (l ++ 10 ∷ rest)) is
    ∙ ap (λ (l : List ℕ). flat_map skew_line skews ++ l) (sym (append_assoc (codes "skew" ++ 32 ∷ skew_word skew) (10 ∷ []) rest) ∙ ap (λ (l : List ℕ). l ++ rest) (sym (skew_ended skew)))
    ∙ sym (append_assoc (flat_map skew_line skews) (skew_line skew) rest)
    ∙ ap (λ (l : List ℕ). l ++ rest) (sym (single skew_line skews skew))

skews_found : (line : ℕ) (skews : List CertSkew) (all : Drafted) (piece : List ℕ) (more : List (List ℕ)) → from_pieces line (in_skews (of_skews skews)) piece more ≡ Ok all → ReadsSkews skews (joined piece more) all
unfolding after
skews_found line skews all [] [] e = absurd cc
skews_found line skews all (b ∷ bs) [] e = absurd cc
skews_found line skews all piece (next ∷ more) e =
    elim (halves_of 32 piece) as (λ r. halves_of 32 piece ≡ r → then_rest line (among_skews r (of_skews skews) piece) next more ≡ Ok all → ReadsSkews skews (joined piece (next ∷ more)) all) [
      | Err fault ↦ λ is k. behind_found line skews all piece next more (is_short line (in_skews (of_skews skews)) all piece next more e).0 k
      | Ok h ↦ λ is k. elim (bytes_eq h.0 (codes "skew")) as (λ t. bytes_eq h.0 (codes "skew") ≡ t →
          then_rest line (cond t (after_skew (of_skews skews) h.1 >>= (λ s. Ok (in_skews s))) (after_skews (of_skews skews) piece)) next more ≡ Ok all → ReadsSkews skews (joined piece (next ∷ more)) all) [
            | false ↦ λ other k. behind_found line skews all piece next more (is_short line (in_skews (of_skews skews)) all piece next more e).0 k
            | true ↦ λ same k.
                let x = next_skew line (after_skew (of_skews skews) h.1) next more all k in
                let f = skew_found skews x.0 h.1 x.1 in
                let rest = skews_found (line_after line) (skews ++ f.0 ∷ []) all next more (subst (λ (d : Drafted). from_pieces (line_after line) (in_skews d) next more ≡ Ok all) (sym f.2) x.2) in
                let text : piece ≡ codes "skew" ++ 32 ∷ skew_word f.0 = begins piece h.0 h.1 (codes "skew") _ (halves_found 32 piece h is) same f.1 in
                record { lines = one_skew f.0 skews piece (joined next more) text ∙ rest.lines; some = rest.some; apart = rest.apart }
          ] refl k
    ] refl (is_short line (in_skews (of_skews skews)) all piece next more e).1

-- ---- the whole

pub record IsFound (text : List ℕ) (all : Drafted) : Type 0 where
  pub spelled : text ≡ spelling all
  pub apart : IsDistinct same_lane all.lanes

-- the heading of version 2
pub front_some : (skews : List CertSkew) → eqb (length skews) 0 ≡ false → front skews ≡ codes "turnaudit-certificate 2\n" ++ flat_map skew_line skews
front_some [] some = absurd cc
front_some (skew ∷ more) some = refl

second_found : (first next : List ℕ) (more : List (List ℕ)) (all : Drafted) → bytes_eq first (codes "turnaudit-certificate 2") ≡ true → from_pieces 2 (in_skews nothing_said) next more ≡ Ok all → IsFound (joined first (next ∷ more)) all
second_found first next more all is k =
    let r = skews_found 2 [] all next more k in
    let lines : List ℕ = flat_map lane_lines all.lanes ++ (flat_map drop_line all.drops ++ codes "end\n") in
    record {
      spelled = ap (λ (l : List ℕ). l ++ 10 ∷ joined next more) (same_text first (codes "turnaudit-certificate 2") (sym is))
          ∙ ap (λ (l : List ℕ). codes "turnaudit-certificate 2\n" ++ l) (r.lines ∙ ap (λ (l : List ℕ). flat_map skew_line all.skews ++ l) (append_assoc (flat_map lane_lines all.lanes) (flat_map drop_line all.drops) (codes "end\n")))
          ∙ sym (append_assoc (codes "turnaudit-certificate 2\n") (flat_map skew_line all.skews) lines)
          ∙ ap (λ (l : List ℕ). l ++ lines) (sym (front_some all.skews r.some));
      apart = r.apart;
    }

first_found : (first next : List ℕ) (more : List (List ℕ)) (all : Drafted) → bytes_eq first (codes "turnaudit-certificate 1") ≡ true → from_pieces 2 (in_lines nothing_said) next more ≡ Ok all → IsFound (joined first (next ∷ more)) all
first_found first next more all is k =
    let r = lines_found 2 nothing_said all next more k in
    let lines : List ℕ = flat_map lane_lines all.lanes ++ (flat_map drop_line all.drops ++ codes "end\n") in
    record {
      spelled = ap (λ (l : List ℕ). l ++ 10 ∷ joined next more) (same_text first (codes "turnaudit-certificate 1") (sym is))
          ∙ ap (λ (l : List ℕ). codes "turnaudit-certificate 1\n" ++ l) (r.lines ∙ append_assoc (flat_map lane_lines all.lanes) (flat_map drop_line all.drops) (codes "end\n"))
          ∙ ap (λ (l : List ℕ). l ++ lines) (sym (ap front r.skews));
      apart = r.apart (none_apart [] refl);
    }

heading_found : (first : List ℕ) (more : List (List ℕ)) (all : Drafted) → from_pieces 1 begun first more ≡ Ok all → IsFound (joined first more) all
unfolding after
heading_found [] [] all e = absurd cc
heading_found (b ∷ bs) [] all e = absurd cc
heading_found first (next ∷ more) all e =
    elim (bytes_eq first (codes "turnaudit-certificate 1")) as (λ t. bytes_eq first (codes "turnaudit-certificate 1") ≡ t →
    then_rest 1 (cond t (Ok (in_lines nothing_said)) (cond (bytes_eq first (codes "turnaudit-certificate 2")) (Ok (in_skews nothing_said)) (Err Heading))) next more ≡ Ok all → IsFound (joined first (next ∷ more)) all) [
      | true ↦ λ is k. first_found first next more all is k
      | false ↦ λ not k. elim (bytes_eq first (codes "turnaudit-certificate 2")) as (λ t. bytes_eq first (codes "turnaudit-certificate 2") ≡ t →
          then_rest 1 (cond t (Ok (in_skews nothing_said)) (Err Heading)) next more ≡ Ok all → IsFound (joined first (next ∷ more)) all) [
            | true ↦ λ is j. second_found first next more all is j
            | false ↦ λ is j. absurd cc
          ] refl k
    ] refl (is_short 1 begun all first next more e).1

pub cert_found : (text : List ℕ) (all : Drafted) → cert_of text ≡ Ok all → IsFound text all
unfolding cert_of
cert_found text all e = subst (λ (l : List ℕ). IsFound l all) (joined_pieces text) (heading_found (pieces text).first (pieces text).more all e)

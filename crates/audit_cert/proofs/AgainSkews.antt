-- Skews that are spelled are read again, and then the lines behind them.
use Rattle.std.proofs.Common.{◌≡◌, ℕ, ◌<◌, ◌≤◌, Bool, true, false, cond, eqb, leb, ltb, List, [], ◌∷◌, ◌++◌, length, Result, Ok, Err, codes, refl, sym, ap, ◌∙◌, append_assoc, append-nil, arith}
use Rattle.std.specs.List.{flat_map, AllByRecursion}
use Rattle.std.proofs.lemmas.Bool.{lt-leb}
use Rattle.std.proofs.lemmas.List.{length-append}
use Rattle.std.proofs.lemmas.List.Concat.{flat_map-cons}
use Rattle.audit_model.specs.declared.certificate.CertLane.{CertLane}
use Rattle.audit_model.specs.declared.certificate.CertDrop.{CertDrop}
use Rattle.audit_model.specs.declared.certificate.CertSkew.{CertSkew}
use Rattle.audit_model.specs.Skews.{rise}
use Rattle.audit_text.specs.declared.token.TokenFault.{TokenFault}
use Rattle.audit_text.specs.Lines.{Pieces, pieces}
use Rattle.audit_text.specs.Reading.{line_after, at_line, end_of, taken_in, within, end_within}
use Rattle.audit_text.specs.declared.text_reader.TheConstants.{LONGEST_LINE}
use Rattle.audit_text.specs.Token.{◌>>=◌}
use Rattle.audit_cert.specs.declared.fault.CertFaultKind.{CertFaultKind}
use Rattle.audit_cert.specs.declared.fault.CertFaultKind.TheVariants.{Line, Limit, SkewOrder}
use Rattle.audit_cert.specs.CertFault.{of_word}
use Rattle.audit_cert.specs.CertLines.{is_after_skews, after_skew}
use Rattle.audit_cert.specs.CertText.{after, after_other, after_skews, among_skews, unended, overlong, lacks, said_in}
use Rattle.audit_cert.specs.DraftView.{Drafted, Progress}
use Rattle.audit_cert.specs.EventLine.{cert_skew_of}
use Rattle.audit_cert.specs.Fits.{SkewFits}
use Rattle.audit_cert.specs.Spelling.{lane_lines, drop_line, skew_line}
use Rattle.audit_cert.proofs.Again.{Lacks, bind_again, halves_at, cert_skew_again, skew_lacks}
use Rattle.audit_cert.proofs.Found.{skew_ended}
use Rattle.audit_cert.proofs.Short.{skew_short}
use Rattle.audit_cert.proofs.FoundTexts.{of_skews, skew_kept}
use Rattle.audit_cert.proofs.Skews.{after_front}
use Rattle.audit_cert.proofs.Texts.{in_lines, in_skews, read_from, read_rest, read_skews, one_read}
use Rattle.audit_cert.proofs.Words.{skew_word}

-- ---- one skew

skew_after : (before : List CertSkew) (skew : CertSkew) → SkewFits skew → is_after_skews before skew.iface ≡ true → length before < 1024 →
    after_skew (of_skews before) (skew_word skew) ≡ Ok (of_skews (before ++ skew ∷ []))
unfolding after_skew
skew_after before skew fits rises few =
    let made : Result Drafted CertFaultKind = Ok (of_skews (before ++ skew ∷ [])) in
    bind_again (of_word (cert_skew_of (skew_word skew))) (skew_kept (of_skews before)) skew made (ap of_word (cert_skew_again skew fits))
    (ap (λ (t : Bool). cond t (cond (leb 1024 (length before)) (Err Limit) made) (Err SkewOrder)) rises ∙ ap (λ (t : Bool). cond t (Err Limit) made) (lt-leb 1024 (length before) few))

abbrev whole_line : CertSkew → List ℕ
whole_line skew = codes "skew" ++ 32 ∷ skew_word skew

skew_taken : (before : List CertSkew) (skew : CertSkew) → SkewFits skew → is_after_skews before skew.iface ≡ true → length before < 1024 →
    after (in_skews (of_skews before)) (whole_line skew) ≡ Ok (in_skews (of_skews (before ++ skew ∷ [])))
unfolding after
skew_taken before skew fits rises few =
    ap (λ (r : Result (List ℕ × List ℕ) TokenFault). among_skews r (of_skews before) (whole_line skew)) (halves_at 32 (codes "skew") (skew_word skew) refl)
    ∙ ap (λ (r : Result Drafted CertFaultKind). r >>= (λ s. Ok (in_skews s))) (skew_after before skew fits rises few)

skew_step : (n : ℕ) (before : List CertSkew) (skew : CertSkew) (rest : List ℕ) → SkewFits skew → is_after_skews before skew.iface ≡ true → length before < 1024 →
    read_skews n (of_skews before) (skew_line skew ++ rest) ≡ read_skews (line_after n) (of_skews (before ++ skew ∷ [])) rest
skew_step n before skew rest fits rises few =
    let line : List ℕ = whole_line skew in
    let lacks : Lacks 10 line = skew_lacks skew fits in
    let text : skew_line skew ++ rest ≡ line ++ 10 ∷ rest = ap (λ (l : List ℕ). l ++ rest) (skew_ended skew) ∙ append_assoc line (10 ∷ []) rest in
    ap (read_skews n (of_skews before)) text ∙ one_read n (in_skews (of_skews before)) (in_skews (of_skews (before ++ skew ∷ []))) line rest lacks (skew_short skew fits) (skew_taken before skew fits rises few)

-- ---- skews

pub skews_again : (n : ℕ) (before todo : List CertSkew) (rest : List ℕ) → AllByRecursion SkewFits todo → rise (before ++ todo) ≡ true → length (before ++ todo) ≤ 1024 →
    (m : ℕ) × (read_skews n (of_skews before) (flat_map skew_line todo ++ rest) ≡ read_skews m (of_skews (before ++ todo)) rest)
skews_again n before [] rest fits rises few = (n, ap (λ (skews : List CertSkew). read_skews n (of_skews skews) rest) (sym (append-nil before)))
skews_again n before (skew ∷ more) rest fits rises few =
    let later : List ℕ = flat_map skew_line more ++ rest in
    let whole : before ++ skew ∷ more ≡ (before ++ skew ∷ []) ++ more = sym (append_assoc before (skew ∷ []) more) in
    let text : flat_map skew_line (skew ∷ more) ++ rest ≡ skew_line skew ++ later = ap (λ (l : List ℕ). l ++ rest) (flat_map-cons skew_line skew more) ∙ append_assoc (skew_line skew) (flat_map skew_line more) rest in
    let one = ap (read_skews n (of_skews before)) text ∙ skew_step n before skew later fits.0 (after_front before skew more rises) (omega (arith, length-append before (skew ∷ more))) in
    let others = skews_again (line_after n) (before ++ skew ∷ []) more rest fits.1 (ap rise (sym whole) ∙ rises) (omega (arith, ap length whole)) in
    (others.0, one ∙ others.1 ∙ ap (λ (skews : List CertSkew). read_skews others.0 (of_skews skews) rest) (sym whole))

-- ---- the first line behind them

same_reading : (n : ℕ) (said : Drafted) (first : List ℕ) (more : List (List ℕ)) → after (in_skews said) first ≡ after (in_lines said) first →
    read_from n (in_skews said) (record { first = first; more = more }) ≡ read_from n (in_lines said) (record { first = first; more = more })
same_reading n said [] [] e = refl
same_reading n said (b ∷ bs) [] e = refl
same_reading n said first (next ∷ more) e =
    ap (λ (r : Result Progress CertFaultKind). said_in (end_of (end_within overlong unended) lacks (at_line n (cond (ltb LONGEST_LINE (length first)) (Err Line) r)
    (λ progress. taken_in (within overlong after) (line_after n) progress next more)))) e

-- a line that is no skew
no_skew : (said : Drafted) (line : List ℕ) → eqb (length said.skews) 0 ≡ false → after_skews said line ≡ after_other said line
no_skew said line some = ap (λ (t : Bool). cond t (Err Line) (after_other said line)) some

goes_on : (n : ℕ) (said : Drafted) (p : Pieces) → after (in_skews said) p.first ≡ after (in_lines said) p.first → read_from n (in_skews said) p ≡ read_from n (in_lines said) p
goes_on n said p e = same_reading n said p.first p.more e

pub text_goes_on : (n : ℕ) (said : Drafted) → eqb (length said.skews) 0 ≡ false → (lanes : List CertLane) (drops : List CertDrop) →
    let text : List ℕ = flat_map lane_lines lanes ++ (flat_map drop_line drops ++ codes "end\n") in
    read_skews n said text ≡ read_rest n said text
unfolding after
text_goes_on n said some [] [] = goes_on n said (pieces (codes "end\n")) (no_skew said (codes "end") some)
text_goes_on n said some [] (drop ∷ more) =
    let text : List ℕ = flat_map drop_line (drop ∷ more) ++ codes "end\n" in
    goes_on n said (pieces text) (no_skew said (pieces text).first some)
text_goes_on n said some (lane ∷ more) drops =
    let text : List ℕ = flat_map lane_lines (lane ∷ more) ++ (flat_map drop_line drops ++ codes "end\n") in
    goes_on n said (pieces text) (no_skew said (pieces text).first some)

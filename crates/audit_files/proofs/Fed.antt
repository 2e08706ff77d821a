-- What a reader of a file's pieces has been fed.
use Rattle.std.proofs.Common.{◌≡◌, ◌≤◌, ◌<◌, ◌+◌, ◌++◌, ◌∙◌, ℕ, zero, suc, List, [], ◌∷◌, take, drop, length, get_or, ap, sym, subst, arith, append_assoc, append-nil}
use Rattle.std.specs.List.{AllZip}
use Rattle.std.proofs.lemmas.List.{length-drop, length-take, length-take-le, take-append-drop, take-take, drop-take, take-append-le, set-set, set-get_or, set_at, get_or-set_same, get_or_at}
use Rattle.std.specs.Prelude.{slice_set, Result, Ok, Err, OnOk, IfOk}
use Rattle.audit_files.specs.Pieces.{IsPieceAt}
use Rattle.audit_pcapng.specs.declared.packet.Packet.{Packet}
use Rattle.audit_sightings.specs.declared.intake.Intake.{Intake}
use Rattle.audit_sightings.specs.Files.{Fed, GoesOn, StandsFor, fed_at, not_fed, with_piece}

-- the bytes up to an offset, and a piece behind them
pub fed_more : (bytes into : List ℕ) (at count : ℕ) → take count into ≡ take count (drop at bytes) → take at bytes ++ take count into ≡ take (at + count) bytes
fed_more bytes into at count same =
    let more = take (at + count) bytes in
    ap (λ (l : List ℕ). take at bytes ++ l) (same ∙ sym (drop-take at count bytes))
    ∙ ap (λ (l : List ℕ). l ++ drop at more) (sym (take-take at (at + count) bytes (omega arith)))
    ∙ take-append-drop at more

-- a piece of a buffer that was filled from its front
pub read_of : (into rest : List ℕ) (len count : ℕ) → count ≤ len → count ≤ length into → take count (take len (into ++ rest)) ≡ take count into
read_of into rest len count short within = take-take count len (into ++ rest) short ∙ take-append-le count into rest within

-- a piece that was read stands within the bytes
pub piece_within : (bytes into : List ℕ) (at count : ℕ) → IsPieceAt bytes at count into → count ≤ length into → at ≤ length bytes → at + count ≤ length bytes
piece_within bytes into at count piece room within =
    let read : length (take count into) ≡ count = length-take-le count into room in
    let same : length (take count into) ≡ length (take count (drop at bytes)) = ap length piece.same in
    let short = length-take count (drop at bytes) in
    omega (arith, read, same, short, length-drop at bytes)

-- with nothing more of a file
with_nothing : (files : List Fed) (file : ℕ) → with_piece files file [] [] ≡ files
with_nothing files file =
    let here = fed_at files file in
    ap (λ (f : Fed). slice_set files file f) (λ i. record { text = append-nil here.text i; packets = append-nil here.packets i })
    ∙ set-get_or files file not_fed

-- with one piece, and then another
with_both : (files : List Fed) (file : ℕ) (piece other : List ℕ) (packets more : List Packet) → file < length files
    → with_piece (with_piece files file piece packets) file other more ≡ with_piece files file (piece ++ other) (packets ++ more)
with_both files file piece other packets more within =
    let here = fed_at files file in
    let first : Fed = record { text = here.text ++ piece; packets = here.packets ++ packets } in
    let then : Fed → Fed = λ f. record { text = f.text ++ other; packets = f.packets ++ more } in
    set-set files file first (then (fed_at (slice_set files file first) file))
    ∙ ap (λ (f : Fed). slice_set files file (then f)) (get_or-set_same files file first not_fed within)
    ∙ ap (λ (f : Fed). slice_set files file f) (λ i. record { text = append_assoc here.text piece other i; packets = append_assoc here.packets packets more i })

-- before the first piece
pub goes_nowhere : (intake : Intake) (files : List Fed) (file : ℕ) → StandsFor intake files → GoesOn intake files file []
goes_nowhere intake files file stands = record { more = []; stands = subst (StandsFor intake) (sym (with_nothing files file)) stands }

-- a piece more
pub goes_further : (intake : Intake) (files : List Fed) (file : ℕ) (piece other : List ℕ) (packets : List Packet) → file < length files
    → GoesOn intake (with_piece files file piece packets) file other → GoesOn intake files file (piece ++ other)
goes_further intake files file piece other packets within on = record {
  more = packets ++ on.more;
  stands = subst (StandsFor intake) (with_both files file piece other packets on.more within) on.stands;
}

-- a whole file behind the others
pub one_more : (intake : Intake) (files : List Fed) (file : ℕ) (bytes : List ℕ) → length files ≡ file → (on : GoesOn intake (files ++ not_fed ∷ []) file bytes)
    → StandsFor intake (files ++ record { text = bytes; packets = on.more } ∷ [])
one_more intake files file bytes last on =
    let here : fed_at (files ++ not_fed ∷ []) file ≡ not_fed = get_or_at files not_fed [] not_fed file last in
    subst (StandsFor intake)
    (ap (λ (f : Fed). slice_set (files ++ not_fed ∷ []) file (record { text = f.text ++ bytes; packets = f.packets ++ on.more })) here
    ∙ set_at files not_fed [] (record { text = bytes; packets = on.more }) file last)
    on.stands

-- what holds of two lists place by place holds at a place
pub zip_at : {A B : Type 0} (R : A → B → Type 0) (xs : List A) (ys : List B) (i : ℕ) (d : A) (e : B) → AllZip R xs ys → i < length xs → (i < length ys) × R (get_or xs i d) (get_or ys i e)
zip_at R [] ys i d e all within = absurd (omega (arith, within))
zip_at R (x ∷ xs) [] i d e all within = absurd all
zip_at R (x ∷ xs) (y ∷ ys) zero d e all within = (omega arith, all.0)
zip_at R (x ∷ xs) (y ∷ ys) (suc i) d e all within =
    let rest = zip_at R xs ys i d e all.1 (omega (arith, within)) in (omega (arith, rest.0), rest.1)

pub zip_len : {A B : Type 0} (R : A → B → Type 0) (xs : List A) (ys : List B) → AllZip R xs ys → length xs ≡ length ys
zip_len R [] [] all = λ i. 0
zip_len R [] (y ∷ ys) all = absurd all
zip_len R (x ∷ xs) [] all = absurd all
zip_len R (x ∷ xs) (y ∷ ys) all = ap suc (zip_len R xs ys all.1)

-- what a result without a fault says
pub on_ok : {E P Q : Type 0} (r : Result (Unit {0}) E) → (P → Q) → OnOk r P → OnOk r Q
on_ok (Ok done) f p = f p
on_ok (Err fault) f p = p

-- what a value says, where there is no fault
pub if_ok : {T E : Type 0} {P Q : T → Type 0} (r : Result T E) → ((x : T) → P x → Q x) → IfOk r P → IfOk r Q
if_ok (Ok x) f p = f x p
if_ok (Err fault) f p = p

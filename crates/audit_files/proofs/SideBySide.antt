-- Captures that were read side by side.
use Rattle.std.proofs.Common.{◌≡◌, ◌∙◌, ◌+◌, ◌<◌, ◌≤◌, ◌++◌, ◌∷◌, [], ℕ, List, get_or, length, map, take, drop, ap, sym, subst, arith, append_assoc}
use Rattle.std.specs.Prelude.{replicate, Option, Some, None, IfErr, IfNone, IfSome, Result, Ok, Err, OnOk}
use Rattle.std.specs.Result.{result_err}
use Rattle.std.proofs.lemmas.List.{length-append, length-take-le, length-map, map-append, take-append-le, take_all}
use Rattle.std.proofs.lemmas.Grind.{take_at_read}
use Rattle.audit_pcapng.specs.declared.packet.Packet.{Packet}
use Rattle.audit_sightings.specs.declared.intake.Intake.{Intake}
use Rattle.audit_sightings.specs.Files.{Fed, StandsFor, not_fed}
use Rattle.audit_files.specs.Captures.{Follow, Took}

-- the first captures are taken in
pub record TookFirst (before : List Fed) (texts : List (List ℕ)) (count : ℕ) (intake : Intake) : Type 0 where
  pub files : List Fed
  pub stands : StandsFor intake (before ++ files)
  pub of_texts : map (λ (fed : Fed). fed.text) files ≡ take count texts

-- and so is the next one
pub took_one : (before : List Fed) (texts : List (List ℕ)) (count : ℕ) (whole new : Intake) → (first : TookFirst before texts count whole) → count < length texts → (packets : List Packet)
    → StandsFor new ((before ++ first.files) ++ record { text = get_or texts count []; packets = packets } ∷ []) → TookFirst before texts (count + 1) new
took_one before texts count whole new first less packets stands =
    let text : List ℕ = get_or texts count [] in
    let one : Fed = record { text = text; packets = packets } in
    record {
      files = first.files ++ one ∷ [];
      stands = subst (StandsFor new) (append_assoc before first.files (one ∷ [])) stands;
      of_texts = map-append (λ (fed : Fed). fed.text) first.files (one ∷ []) ∙ ap (λ (l : List (List ℕ)). l ++ text ∷ []) first.of_texts ∙ sym (take_at_read texts count [] less).1;
    }

-- also where another intake took it in
pub took_next : (before : List Fed) (texts : List (List ℕ)) (count : ℕ) (whole next new : Intake) → (first : TookFirst before texts count whole) → (took : Took (length before + count) (get_or texts count []) next) → count < length texts
    → ((files others : List Fed) → StandsFor whole files → StandsFor next (replicate (length files) not_fed ++ others) → StandsFor new (files ++ others)) → TookFirst before texts (count + 1) new
took_next before texts count whole next new first took less joins =
    let one : Fed = record { text = get_or texts count []; packets = took.packets } in
    let many : length first.files ≡ count = sym (length-map first.files (λ (fed : Fed). fed.text)) ∙ ap length first.of_texts ∙ length-take-le count texts (omega (arith, less)) in
    let at : length before + count ≡ length (before ++ first.files) = omega (arith, many, length-append before first.files) in
    took_one before texts count whole new first less took.packets
    (joins (before ++ first.files) (one ∷ []) first.stands (subst (λ (n : ℕ). StandsFor next (replicate n not_fed ++ one ∷ [])) at took.stands))

-- all of them are
pub took_all : (before : List Fed) (texts : List (List ℕ)) (count : ℕ) (whole : Intake) → TookFirst before texts count whole → length texts ≤ count → Follow before texts whole
took_all before texts count whole first past = record {
  files = first.files;
  stands = first.stands;
  of_texts = first.of_texts ∙ take_all count texts past;
}

-- what holds where there is nothing
pub if_none : {T P : Type 0} (o : Option T) → o ≡ None → IfNone o P → P
if_none None e p = p
if_none (Some x) e p = absurd cc

-- what a result without a fault says holds where there is no fault
pub if_no_fault : {E : Type 0} (P : Type 0) (r : Result (Unit {0}) E) (fault : Option E) → fault ≡ result_err r → OnOk r P → IfNone fault P
if_no_fault P (Ok done) fault e p = rw e p
if_no_fault P (Err x) fault e p = rw e p

-- and what a fault says of it
pub if_fault : {E : Type 0} (P : E → Type 0) (r : Result (Unit {0}) E) (fault : Option E) → fault ≡ result_err r → IfErr r P → IfSome fault P
if_fault P (Ok done) fault e p = rw e tt
if_fault P (Err x) fault e p = rw e p

-- what holds where there is something
pub if_some : {T : Type 0} (P : T → Type 0) (o : Option T) (x : T) → o ≡ Some x → IfSome o P → P x
if_some P None x e p = absurd cc
if_some P (Some y) x e p = let same : y ≡ x = cc in subst P same p

pub if_some_then : {T : Type 0} (P Q : T → Type 0) (o : Option T) → ((x : T) → P x → Q x) → IfSome o P → IfSome o Q
if_some_then P Q None f p = p
if_some_then P Q (Some x) f p = f x p

-- and so holds what follows from it
pub if_none_then : {T P Q : Type 0} (o : Option T) → (P → Q) → IfNone o P → IfNone o Q
if_none_then None f p = f p
if_none_then (Some x) f p = p

-- a slice of a whole list, written back
pub written_back : {X : Type 0} (new old : List X) (len : ℕ) → length new ≡ len → take len (new ++ drop (length new) old) ≡ new
written_back new old len is = take-append-le len new (drop (length new) old) (omega (arith, is)) ∙ take_all len new (omega (arith, is))

-- What the lines after the first one say is what the text says.
use Rattle.std.proofs.Common.{◌≡◌, ℕ, List, ◌++◌, true, false, take, drop, Result, Ok, Err, codes, sym, ap, ◌∙◌}
use Rattle.std.specs.Prelude.{IfOk, IfErr}
use Rattle.std.specs.Str.{bytes_eq}
use Rattle.std.specs.Cmp.Lexicographic.{same_text}
use Rattle.std.proofs.lemmas.List.{take-append-drop}
use Rattle.watch_checkpoint.specs.declared.checkpoint.Checkpoint.{Checkpoint}
use Rattle.watch_checkpoint.specs.declared.fault.CheckpointFault.{CheckpointFault}
use Rattle.watch_checkpoint.specs.declared.fault.CheckpointFault.TheVariants as faults
use Rattle.watch_checkpoint.specs.Content.{content_of}
use Rattle.watch_checkpoint.specs.Reading.{IsRead, Refuses, RefusesRest, rest_read}
use Rattle.watch_checkpoint.specs.Spelling.{signed}
use Rattle.watch_checkpoint.proofs.Signed.{signed_parts}

abbrev heading : List ℕ
heading = codes "turnwatch-checkpoint 1\n"

pub stripped : (body rest : List ℕ) → bytes_eq (take 23 body) heading ≡ true → rest ≡ drop 23 body → body ≡ heading ++ rest
stripped body rest same is =
    sym (take-append-drop 23 body) ∙ ap (λ (l : List ℕ). l ++ drop 23 body) (same_text (take 23 body) heading (sym same)) ∙ ap (λ (l : List ℕ). heading ++ l) (sym is)

pub read_lifted : (grace : ℕ) (bytes body rest : List ℕ) (r : Result Checkpoint CheckpointFault) → bytes ≡ signed body → body ≡ heading ++ rest →
    IfOk r (λ c. rest_read grace rest ≡ Ok (content_of c)) → IfOk r (λ c. IsRead grace bytes (content_of c))
read_lifted grace bytes body rest (Ok c) e f h = (rest, e ∙ ap signed f, h)
read_lifted grace bytes body rest (Err fault) e f h = tt

refused : (grace : ℕ) (bytes rest : List ℕ) (fault : CheckpointFault) → bytes ≡ signed (heading ++ rest) → RefusesRest grace rest fault → Refuses grace bytes fault
refused grace bytes rest faults.Heading e h = absurd h
refused grace bytes rest faults.Digest e h = absurd h
refused grace bytes rest (faults.Line line kind) e h = (rest, e, h)
refused grace bytes rest faults.Memory e h = tt

pub refusal_lifted : (grace : ℕ) (bytes body rest : List ℕ) (r : Result Checkpoint CheckpointFault) → bytes ≡ signed body → body ≡ heading ++ rest →
    IfErr r (RefusesRest grace rest) → IfErr r (Refuses grace bytes)
refusal_lifted grace bytes body rest (Ok c) e f h = tt
refusal_lifted grace bytes body rest (Err fault) e f h = refused grace bytes rest fault (e ∙ ap signed f) h

pub begins : (bytes : List ℕ) → bytes_eq heading (take 23 bytes) ≡ true → (rest : List ℕ) × (bytes ≡ heading ++ rest)
begins bytes same = (drop 23 bytes, sym (take-append-drop 23 bytes) ∙ ap (λ (l : List ℕ). l ++ drop 23 bytes) (sym (same_text heading (take 23 bytes) (sym same))))

-- bytes that are signed in another way aren't signed so
pub not_stripped : (bytes body rest : List ℕ) → bytes ≡ signed body → bytes_eq (take 23 body) heading ≡ false → bytes ≡ signed (heading ++ rest) → ⊥
not_stripped bytes body rest e none f =
    let same : body ≡ heading ++ rest = sym (signed_parts bytes body e).front ∙ (signed_parts bytes (heading ++ rest) f).front in
    let found : bytes_eq (take 23 body) heading ≡ true = ap (λ (l : List ℕ). bytes_eq (take 23 l) heading) same in
    let both : true ≡ false = sym found ∙ none in
    absurd cc

-- What is read is the text of what was read.
use Rattle.std.proofs.Common.{◌≡◌, ℕ, List, ◌++◌, drop, Result, Ok, Err, codes, refl, sym, ap, ◌∙◌, append_assoc}
use Rattle.std.specs.Prelude.{IfOk, IfErr, MatchResult}
use Rattle.audit_text.specs.declared.line_fault.LineFault.{LineFault}
use Rattle.audit_cert.proofs.Steps.{ok_is}
use Rattle.watch_checkpoint.specs.declared.checkpoint.Checkpoint.{Checkpoint}
use Rattle.watch_checkpoint.specs.declared.fault.CheckpointFault.{CheckpointFault}
use Rattle.watch_checkpoint.specs.declared.fault.CheckpointFault.TheVariants as faults
use Rattle.watch_checkpoint.specs.declared.fault.LineKind.{LineKind}
use Rattle.watch_checkpoint.specs.Content.{Content, content_of}
use Rattle.watch_checkpoint.specs.Fits.{IsCheckpoint}
use Rattle.watch_checkpoint.specs.Reading.{IsRead, Refuses, rest_read}
use Rattle.watch_checkpoint.specs.Spelling.{signed, text_of, body_of, digest_line}
use Rattle.watch_checkpoint.proofs.AgainTexts.{rest_of, rest_is, rest_again}
use Rattle.watch_checkpoint.proofs.Signed.{signed_parts}
use Rattle.watch_checkpoint.proofs.FoundTexts.{rest_found}

pub is_text : (grace : ℕ) (bytes : List ℕ) (result : Result Checkpoint CheckpointFault) → IfOk result (λ c. IsRead grace bytes (content_of c)) → IfOk result (λ c. bytes ≡ text_of (content_of c))
is_text grace bytes (Ok c) read = read.1 ∙ ap signed (rest_found grace read.0 (content_of c) read.2)
is_text grace bytes (Err fault) read = tt

-- one text has one rest
same_rest : (a b : List ℕ) → codes "turnwatch-checkpoint 1\n" ++ a ≡ codes "turnwatch-checkpoint 1\n" ++ b → a ≡ b
same_rest a b e = ap (drop 23) e

only_fault : (grace : ℕ) (bytes : List ℕ) (c : Content) (fault : CheckpointFault) → IsCheckpoint grace c → bytes ≡ text_of c → Refuses grace bytes fault → fault ≡ faults.Memory
only_fault grace bytes c faults.Heading is e why = absurd (why (rest_of c ++ digest_line (body_of c)) (e ∙ ap (λ (l : List ℕ). l ++ digest_line (body_of c)) (rest_is c) ∙ append_assoc (codes "turnwatch-checkpoint 1\n") (rest_of c) (digest_line (body_of c))))
only_fault grace bytes c faults.Digest is e why = absurd (why.1 (rest_of c) (e ∙ ap signed (rest_is c)))
only_fault grace bytes c (faults.Line n kind) is e why =
    let body : codes "turnwatch-checkpoint 1\n" ++ why.0 ≡ body_of c = sym (signed_parts bytes (codes "turnwatch-checkpoint 1\n" ++ why.0) why.1).front ∙ (signed_parts bytes (body_of c) e).front in
    let rest : why.0 ≡ rest_of c = same_rest why.0 (rest_of c) (body ∙ rest_is c) in
    absurd (let both = sym why.2 ∙ ap (rest_read grace) rest ∙ rest_again grace c is in cc)
only_fault grace bytes c faults.Memory is e why = refl

pub is_only : (grace : ℕ) (bytes : List ℕ) (result : Result Checkpoint CheckpointFault) → IfOk result (λ got. IsRead grace bytes (content_of got)) → IfErr result (Refuses grace bytes) →
    (c : Content) → IsCheckpoint grace c → bytes ≡ text_of c → MatchResult result (λ got. content_of got ≡ c) (λ fault. fault ≡ faults.Memory)
is_only grace bytes (Ok got) read why c is e =
    let body : codes "turnwatch-checkpoint 1\n" ++ read.0 ≡ body_of c = sym (signed_parts bytes (codes "turnwatch-checkpoint 1\n" ++ read.0) read.1).front ∙ (signed_parts bytes (body_of c) e).front in
    let rest : read.0 ≡ rest_of c = same_rest read.0 (rest_of c) (body ∙ rest_is c) in
    ok_is {E = LineFault LineKind} (content_of got) c (sym read.2 ∙ ap (rest_read grace) rest ∙ rest_again grace c is)
is_only grace bytes (Err fault) read why c is e = only_fault grace bytes c fault is e why

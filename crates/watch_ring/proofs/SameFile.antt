-- A file is its second and its number.
use Rattle.std.proofs.Common.{◌≡◌, ℕ, ◌<◌, ◌^◌, sym, ◌∙◌, ap, subst}
use Rattle.std.proofs.Props.{props}
use Rattle.watch_ring.specs.declared.ring_file.RingFile.{RingFile}

one_proof : (m n : ℕ) → IsProp (m < n)
one_proof m n = hlevel props

pub same_file : (a b : RingFile) → a.opened ≡ b.opened → a.number ≡ b.number → a ≡ b
same_file a b opened number =
    let At : ℕ → ℕ → Type 0 = λ m n. (d : m < 10 ^ 14) (k : n < 10 ^ 5) → record { opened = m; number = n; dated = d; counted = k } ≡ b in
    let same : At b.opened b.number = λ d k.
    ap (λ (p : b.opened < 10 ^ 14). record { opened = b.opened; number = b.number; dated = p; counted = k }) (one_proof b.opened (10 ^ 14) d b.dated)
    ∙ ap (λ (p : b.number < 10 ^ 5). record { opened = b.opened; number = b.number; dated = b.dated; counted = p }) (one_proof b.number (10 ^ 5) k b.counted) in
    subst (λ (m : ℕ). At m a.number) (sym opened) (subst (λ (n : ℕ). At b.opened n) (sym number) same) a.dated a.counted

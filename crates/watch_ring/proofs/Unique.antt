-- There is one next file.
use Rattle.std.proofs.Common.{◌≡◌, ℕ, ◌≤◌, List, get_or, refl, sym, ap, subst, arith}
use Rattle.watch_ring.specs.declared.ring_file.RingFile.{RingFile}
use Rattle.watch_ring.specs.declared.next_file.Next.{Next}
use Rattle.watch_ring.specs.declared.next_file.Next.TheVariants.{Wait, File, Gap}
use Rattle.watch_ring.specs.Order.{place, IsAfter, IsEarliestAfter, HasNextNumber, IsNext}
use Rattle.watch_ring.proofs.SameFile.{same_file}

-- files at one place are one file
one_place : (current a b : RingFile) → place current a ≡ place current b → a ≡ b
one_place current a b e =
    same_file a b (omega (arith, a.counted, b.counted, current.counted)) (omega (arith, a.counted, b.counted, current.counted))

no_later : (files : List RingFile) (current a b : RingFile) → IsEarliestAfter files current a → IsEarliestAfter files current b → place current a ≤ place current b
no_later files current a b first second =
    let k : ℕ = second.listed.0 in
    let here : get_or files k b ≡ b = second.listed.2 in
    let P : RingFile → Type 0 = λ f. place current a ≤ place current f in
    subst P here (first.least k b second.listed.1 (subst (IsAfter current) (sym here) second.after))

one_earliest : (files : List RingFile) (current a b : RingFile) → IsEarliestAfter files current a → IsEarliestAfter files current b → a ≡ b
one_earliest files current a b first second =
    one_place current a b (omega (arith, no_later files current a b first second, no_later files current b a second first))

none_after : (files : List RingFile) (current a : RingFile) → IsNext files current Wait → IsEarliestAfter files current a → ⊥
none_after files current a none first =
    none first.listed.0 a first.listed.1 (subst (IsAfter current) (sym first.listed.2) first.after)

pub same_next : (files : List RingFile) (current : RingFile) (a b : Next) → IsNext files current a → IsNext files current b → a ≡ b
same_next files current Wait Wait h k = refl
same_next files current Wait (File g) h k = absurd (none_after files current g h k.0)
same_next files current Wait (Gap g) h k = absurd (none_after files current g h k.0)
same_next files current (File f) Wait h k = absurd (none_after files current f k h.0)
same_next files current (File f) (File g) h k = ap File (one_earliest files current f g h.0 k.0)
same_next files current (File f) (Gap g) h k = absurd (k.1 (subst (HasNextNumber current) (one_earliest files current f g h.0 k.0) h.1))
same_next files current (Gap f) Wait h k = absurd (none_after files current f k h.0)
same_next files current (Gap f) (File g) h k = absurd (h.1 (subst (HasNextNumber current) (one_earliest files current g f k.0 h.0) k.1))
same_next files current (Gap f) (Gap g) h k = ap Gap (one_earliest files current f g h.0 k.0)

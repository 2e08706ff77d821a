-- Items of a list in blocks, whose lines go out one block after another.
use Rattle.std.proofs.Common.{◌≡◌, ◌≤◌, ℕ, ◌+◌, ◌-◌, List, ◌++◌, take, drop, Option, sym, ap, ◌∙◌, subst, arith}
use Rattle.std.specs.List.{flat_map}
use Rattle.std.proofs.lemmas.Grind.{flat_map-append}
use Rattle.std.proofs.lemmas.List.{take-append-drop}
use Rattle.std.proofs.Math.Seq.{take-add}
use Rattle.audit_model.specs.declared.write_fault.WriteFault.{WriteFault}
use Rattle.audit_cert.specs.Writing.{Went, Stopped}
use Rattle.audit_cert.proofs.Writings.{course, went_both, stopped_first, stopped_then}

-- the lines up to a place, and of the items behind it
pub lines_cut : {X : Type 0} (line : X → List ℕ) (xs : List X) (count : ℕ) → flat_map line (take count xs) ++ flat_map line (drop count xs) ≡ flat_map line xs
lines_cut line xs count = sym (flat_map-append line (take count xs) (drop count xs)) ∙ ap (flat_map line) (take-append-drop count xs)

-- the lines up to a place, and of the block from there
lines_on : {X : Type 0} (line : X → List ℕ) (xs : List X) (done end : ℕ) → done ≤ end →
    flat_map line (take done xs) ++ flat_map line (take (end - done) (drop done xs)) ≡ flat_map line (take end xs)
lines_on {X = X} line xs done end le =
    let there : done + (end - done) ≡ end = omega (arith, le) in
    let cut : take end xs ≡ take done xs ++ take (end - done) (drop done xs) = ap (λ (n : ℕ). take n xs) (sym there) ∙ take-add done (end - done) xs in
    sym (ap (flat_map line) cut ∙ flat_map-append line (take done xs) (take (end - done) (drop done xs)))

pub went_on : {X : Type 0} (line : X → List ℕ) (xs : List X) (done end : ℕ) (t u v : Option (List ℕ)) (f h k : Option ℕ) → done ≤ end →
    Went (flat_map line (take done xs)) (course t u f h) → Went (flat_map line (take (end - done) (drop done xs))) (course u v h k) → Went (flat_map line (take end xs)) (course t v f k)
went_on line xs done end t u v f h k le p q =
    let both = went_both (flat_map line (take done xs)) (flat_map line (take (end - done) (drop done xs))) t u v f h k p q in
    subst (λ (l : List ℕ). Went l (course t v f k)) (lines_on line xs done end le) both

pub stopped_on : {X : Type 0} (line : X → List ℕ) (xs : List X) (done end : ℕ) (fault : WriteFault) (t u v : Option (List ℕ)) (f h k : Option ℕ) → done ≤ end →
    Went (flat_map line (take done xs)) (course t u f h) → Stopped (flat_map line (take (end - done) (drop done xs))) fault (course u v h k) → Stopped (flat_map line xs) fault (course t v f k)
stopped_on line xs done end fault t u v f h k le p q =
    let before = flat_map line (take done xs) in
    let block = flat_map line (take (end - done) (drop done xs)) in
    let behind = flat_map line (drop end xs) in
    let both = stopped_first (before ++ block) behind fault (course t v f k) (stopped_then before block fault t u v f h k p q) in
    let text : (before ++ block) ++ behind ≡ flat_map line xs = ap (λ (l : List ℕ). l ++ behind) (lines_on line xs done end le) ∙ lines_cut line xs end in
    subst (λ (l : List ℕ). Stopped l fault (course t v f k)) text both

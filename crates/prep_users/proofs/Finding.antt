-- The first element of a list that passes a test.
use Rattle.std.proofs.Common.{◌≡◌, ℕ, ◌+◌, ◌<◌, Bool, false, cond, List, length, drop, get_or, Some, sym, ap, ◌∙◌}
use Rattle.std.specs.Prelude.{find}
use Rattle.std.proofs.lemmas.List.{drop_more}

-- stands behind one that doesn't
pub find_more : {X : Type 0} (p : X → Bool) (xs : List X) (i : ℕ) (d : X) → i < length xs → p (get_or xs i d) ≡ false → find p (drop (i + 1) xs) ≡ find p (drop i xs)
find_more p xs i d inside fails =
    sym (ap (find p) (drop_more xs i d inside) ∙ ap (λ (t : Bool). cond t (Some (get_or xs i d)) (find p (drop (i + 1) xs))) fails)

-- Texts added one after another.
use Rattle.std.proofs.Common.{◌≡◌, ℕ, List, ◌++◌, Result, Ok, Err, ap, ◌∙◌, append_assoc}
use Rattle.std.specs.Result.{OnOk}

pub four : {A E : Type 0} (r : Result A E) (x a b c d w p s n : List ℕ) → a ≡ x ++ w → b ≡ a ++ p → c ≡ b ++ s → OnOk r (d ≡ c ++ n) → OnOk r (d ≡ x ++ (w ++ (p ++ (s ++ n))))
four (Ok v) x a b c d w p s n i j k l =
    let assoc : (((x ++ w) ++ p) ++ s) ++ n ≡ x ++ (w ++ (p ++ (s ++ n))) = simp append_assoc in
    l ∙ ap (λ t. t ++ n) (k ∙ ap (λ t. t ++ s) (j ∙ ap (λ t. t ++ p) i)) ∙ assoc
four (Err v) x a b c d w p s n i j k l = tt

pub five : {A E : Type 0} (r : Result A E) (x a b c d e w p s n m : List ℕ) → a ≡ x ++ w → b ≡ a ++ p → c ≡ b ++ s → d ≡ c ++ n → OnOk r (e ≡ d ++ m) → OnOk r (e ≡ x ++ (w ++ (p ++ (s ++ (n ++ m)))))
five (Ok v) x a b c d e w p s n m i j k l o =
    let assoc : ((((x ++ w) ++ p) ++ s) ++ n) ++ m ≡ x ++ (w ++ (p ++ (s ++ (n ++ m)))) = simp append_assoc in
    o ∙ ap (λ t. t ++ m) (l ∙ ap (λ t. t ++ n) (k ∙ ap (λ t. t ++ s) (j ∙ ap (λ t. t ++ p) i))) ∙ assoc
five (Err v) x a b c d e w p s n m i j k l o = tt

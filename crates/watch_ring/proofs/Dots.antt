-- A name is split at its last dot.
use Rattle.std.proofs.Common.{◌≡◌, ◌≢◌, ℕ, suc, ◌+◌, ◌<◌, List, [], ◌∷◌, ◌++◌, length, take, drop, get_or, drop-cons, sym, ap, subst, ◌∙◌, arith}
use Rattle.std.specs.Prelude.{Contains}
use Rattle.std.proofs.lemmas.List.{take-append-drop, get_or-drop, length-drop, get_or_default, append-nil}
use Rattle.watch_ring.specs.Names.{IsExtension, IsSplit}

-- no element is a dot
none_contained : (xs : List ℕ) → ((i : ℕ) → i < length xs → get_or xs i 0 ≢ 46) → ¬ Contains xs 46
none_contained xs none (k, lt, e) = none k lt (get_or_default xs k 0 46 lt ∙ e)

pub split_at_dot : (name prefix extension : List ℕ) (at : ℕ) → at < length name → get_or name at 0 ≡ 46 → ((i : ℕ) → at < i → i < length name → get_or name i 0 ≢ 46) →
    prefix ≡ take at name → extension ≡ drop at name → IsSplit name prefix extension
split_at_dot name prefix extension at lt dot last front back =
    let cons : extension ≡ get_or name at 0 ∷ drop (suc at) name = back ∙ drop-cons name at 0 lt in
    record {
      joined = sym (take-append-drop at name) ∙ ap (λ (l : List ℕ). l ++ drop at name) (sym front) ∙ ap (λ (l : List ℕ). prefix ++ l) (sym back);
      extends = subst IsExtension (sym cons) (dot, none_contained (drop (suc at) name) (λ i short e. last (suc at + i) (omega arith) (omega (arith, length-drop (suc at) name)) (sym (get_or-drop (suc at) name i 0) ∙ e)));
      whole = λ nil. absurd cc;
    }

pub split_nowhere : (name : List ℕ) → ((i : ℕ) → i < length name → get_or name i 0 ≢ 46) → IsSplit name name []
split_nowhere name none = record { joined = sym (append-nil name); extends = tt; whole = λ _. none_contained name none }

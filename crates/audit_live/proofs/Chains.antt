-- A chain goes on by one step.
use Rattle.std.proofs.Common.{◌+◌, ◌<◌, ℕ, List, [], ◌∷◌, ◌++◌, length, take, get_or, refl, sym, subst}
use Rattle.std.proofs.lemmas.List.{take_more}
use Rattle.audit_live.specs.Chain.{Chain}

module _ {S A : Type 0} (Step : S → A → S → Type 0) where
  pub chain_more : (old : S) (items : List A) (mid : S) (item : A) (new : S) → Chain Step old items mid → Step mid item new → Chain Step old (items ++ item ∷ []) new
  chain_more old [] mid item new chain step = (new, subst (λ s. Step s item new) chain step, refl)
  chain_more old (first ∷ items) mid item new chain step = (chain.0, chain.1, chain_more chain.0 items mid item new chain.2 step)

  -- by the next item of a list
  pub chain_next : (old : S) (items : List A) (i : ℕ) (d : A) (mid new : S) → i < length items → Chain Step old (take i items) mid
      → Step mid (get_or items i d) new → Chain Step old (take (i + 1) items) new
  chain_next old items i d mid new within chain step =
      subst (λ (xs : List A). Chain Step old xs new) (sym (take_more items i d within)) (chain_more old (take i items) mid (get_or items i d) new chain step)

-- How many bytes of a kind stand at the front of a text, and at its end.
use Rattle.std.proofs.Common.{◌≡◌, ℕ, ◌+◌, ◌-◌, ◌<◌, ◌≤◌, Bool, true, false, cond, List, [], ◌∷◌, ◌++◌, length, length-take, take, drop, get_or, reverse, refl, sym, ap, ◌∙◌, subst, arith}
use Rattle.std.specs.List.{prefix_len, suffix_len}
use Rattle.std.proofs.lemmas.List.{take_more, drop_more, reverse-append}

module _ (p : ℕ → Bool) (text : List ℕ) (i : ℕ) (inside : i < length text) where
  abbrev byte : ℕ
  byte = get_or text i 0

  front_by : (b : Bool) → p byte ≡ b → prefix_len p (drop i text) ≡ cond b (1 + prefix_len p (drop (i + 1) text)) 0
  front_by b is = ap (prefix_len p) (drop_more text i 0 inside) ∙ ap (λ (t : Bool). cond t (1 + prefix_len p (drop (i + 1) text)) 0) is

  -- a byte of the kind is one more, and another ends them
  pub front_more : p byte ≡ true → prefix_len p (drop i text) ≡ 1 + prefix_len p (drop (i + 1) text)
  front_more is = front_by true is

  pub front_stops : p byte ≡ false → prefix_len p (drop i text) ≡ 0
  front_stops is = front_by false is

  end_by : (b : Bool) → p byte ≡ b → suffix_len p (take (i + 1) text) ≡ cond b (1 + suffix_len p (take i text)) 0
  end_by b is =
      ap (suffix_len p) (take_more text i 0 inside) ∙ ap (prefix_len p) (reverse-append (take i text) (byte ∷ []))
      ∙ ap (λ (t : Bool). cond t (1 + suffix_len p (take i text)) 0) is

  pub end_more : p byte ≡ true → suffix_len p (take (i + 1) text) ≡ 1 + suffix_len p (take i text)
  end_more is = end_by true is

  pub end_stops : p byte ≡ false → suffix_len p (take (i + 1) text) ≡ 0
  end_stops is = end_by false is

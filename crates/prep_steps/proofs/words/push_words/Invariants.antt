use Rattle.std.proofs.Common.{◌≡◌, ◌++◌, drop, map}
use Rattle.prep_steps.specs.Shell.{words_text}
use Rattle.prep_steps.proofs.words.push_words.Given as goal

-- what was appended so far and what is left are all
abbrev pub invariant-loop-word : goal.invariant-loop-word
invariant-loop-word l = l.text.items ++ words_text (map (λ word. word.now) (drop l.word-index l.words)) ≡ l.fn.text.items ++ words_text (map (λ word. word.now) l.words)
